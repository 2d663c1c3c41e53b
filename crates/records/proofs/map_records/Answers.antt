-- `records::map_records` meets its contract.
-- Assumes nothing.
use Rattle.std.proofs.Common.{arith}
use Rattle.kinds.specs.AnswerLaws.{passed-on}
use Rattle.records.proofs.Columns.{not_admitted, fits, not-refused, mapped}
use Rattle.records.proofs.map_records.Goals as goal

pub returns-in_err-admitted : goal.returns-in_err-admitted
returns-in_err-admitted c = rw (passed-on _ c.from_residual.ensures.1) (not_admitted _ _ _ _ _ _ c.in_err-admitted.ensures)

pub copy_columns-requires : goal.copy_columns-requires
copy_columns-requires c = let f = fits _ _ _ _ c.args.widths.now c.in_ok-admitted.ensures in (f.sections, f.dims, f.positions)

pub returns-in_err-map_section : goal.returns-in_err-map_section
returns-in_err-map_section c =
    let f = fits _ _ _ _ c.args.widths.now c.in_ok-admitted.ensures in
    not-refused _ _ _ _ _ f _ (rw (c.copy_columns.ensures.sections, c.copy_columns.ensures.dims, c.copy_columns.ensures.positions) at c.in_err-map_section.ensures)

pub write_positions-requires : goal.write_positions-requires
write_positions-requires c =
    let f = fits _ _ _ _ c.args.widths.now c.in_ok-admitted.ensures in
    omega (arith, f.positions, c.map_section.auto.positions, c.copy_columns.auto.positions)

pub returns : goal.returns
returns c =
    let f = fits _ _ _ _ c.args.widths.now c.in_ok-admitted.ensures in
    rw (c.copy_columns.ensures.sections, c.copy_columns.ensures.dims)
    (mapped _ _ _ _ _ f (rw (c.copy_columns.ensures.sections, c.copy_columns.ensures.dims, c.copy_columns.ensures.positions) at c.in_ok-map_section.ensures) c.write_positions.ensures)
