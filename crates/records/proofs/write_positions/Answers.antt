-- `records::write_positions` meets its contract.
-- Assumes nothing.
use Rattle.std.proofs.Common.{◌≡◌, ℕ, length, ◌∙◌, ap, arith, sym}
use Rattle.records.specs.Laws.Lists.{upto, upto_next, upto_all}
use Rattle.records.proofs.write_positions.Goals as goal

pub loop-i-preserved : goal.loop-i-preserved
loop-i-preserved c = upto_next c.loop-i.i c.args.positions.now c.args.records.now c.loop-i.records c.loop-i.invariant (omega (arith, c.requires)) (omega arith)

pub returns : goal.returns
returns c =
    let e : c.loop-i.i ≡ length c.args.records.now = omega arith in
    c.loop-i.invariant ∙ ap (λ (i : ℕ). upto i c.args.positions.now c.args.records.now) e ∙ upto_all c.args.positions.now c.args.records.now (sym c.requires)
