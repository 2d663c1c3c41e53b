-- `records::copy_columns` meets its contract.
-- Assumes nothing.
use Rattle.std.proofs.Common.{◌≡◌, ℕ, length, ◌∙◌, ap, arith}
use Rattle.records.specs.Records.{sections_of, dims_of, positions_of}
use Rattle.records.specs.Laws.Lists.{fill_to, fill-next, fill-all, length-sections, length-dims, length-positions, section-at, dim-at, position_at}
use Rattle.records.proofs.copy_columns.Goals as goal

pub loop-i-preserved : goal.loop-i-preserved
loop-i-preserved c = record {
  sections_are = fill-next c.loop-i.i _ (sections_of c.args.records.now) _ _ c.loop-i.invariant.sections_are (section-at c.loop-i.i c.args.records.now) (omega (arith, length-sections c.args.records.now)) (omega (arith, c.requires.0));
  dims_are = fill-next c.loop-i.i _ (dims_of c.args.records.now) _ _ c.loop-i.invariant.dims_are (dim-at c.loop-i.i c.args.records.now) (omega (arith, length-dims c.args.records.now)) (omega (arith, c.requires.1));
  positions_are = fill-next c.loop-i.i _ (positions_of c.args.records.now) _ _ c.loop-i.invariant.positions_are (position_at c.loop-i.i c.args.records.now) (omega (arith, length-positions c.args.records.now)) (omega (arith, c.requires.2));
}

pub returns-clause-sections : goal.returns-clause-sections
returns-clause-sections c =
    let e : c.loop-i.i ≡ length (sections_of c.args.records.now) = omega (arith, length-sections c.args.records.now) in
    c.loop-i.invariant.sections_are ∙ ap (λ (i : ℕ). fill_to i (sections_of c.args.records.now) c.args.sections.now) e ∙ fill-all _ _ (omega (arith, c.requires.0, length-sections c.args.records.now))

pub returns-clause-dims : goal.returns-clause-dims
returns-clause-dims c =
    let e : c.loop-i.i ≡ length (dims_of c.args.records.now) = omega (arith, length-dims c.args.records.now) in
    c.loop-i.invariant.dims_are ∙ ap (λ (i : ℕ). fill_to i (dims_of c.args.records.now) c.args.dims.now) e ∙ fill-all _ _ (omega (arith, c.requires.1, length-dims c.args.records.now))

pub returns-clause-positions : goal.returns-clause-positions
returns-clause-positions c =
    let e : c.loop-i.i ≡ length (positions_of c.args.records.now) = omega (arith, length-positions c.args.records.now) in
    c.loop-i.invariant.positions_are ∙ ap (λ (i : ℕ). fill_to i (positions_of c.args.records.now) c.args.positions.now) e ∙ fill-all _ _ (omega (arith, c.requires.2, length-positions c.args.records.now))
