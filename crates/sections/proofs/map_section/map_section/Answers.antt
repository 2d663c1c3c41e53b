-- `sections::map_section::map_section` meets its contract: each of its answers is one law of proofs/Laws/Maps.antt.
-- Assumes nothing.
use native.Mathlib.Omega.{arith}
use Rattle.std.proofs.Common.{sym}
use Rattle.std.proofs.lemmas.List.{length-take-le}
use Rattle.sections.proofs.Laws.Maps.{ill-dims, ill-positions, ill-widths, ill-known, too_many_lem, records_are, mapped, read-within}
use Rattle.sections.proofs.map_section.map_section.Goals as goal
use Rattle.sections.proofs.map_section.map_section.Goals.{then-dims-sections-via-then-dims-sections, then-dims-sections-via-else-dims-sections+then-positions-sections, then-dims-sections-via-else-dims-sections+else-positions-sections+then-widths-ne-WIDTHS}

pub returns-then-dims-sections : goal.returns-then-dims-sections
returns-then-dims-sections c = elim c.then-dims-sections.branch [
  | then-dims-sections-via-then-dims-sections w ↦ ill-dims _ _ _ _ w.if-dims-sections.true
  | then-dims-sections-via-else-dims-sections+then-positions-sections w ↦ ill-positions _ _ _ _ w.if-dims-sections.false w.if-positions-sections.true
  | then-dims-sections-via-else-dims-sections+else-positions-sections+then-widths-ne-WIDTHS w ↦ ill-widths _ _ _ _ w.if-dims-sections.false w.if-positions-sections.false w.if-widths-ne-WIDTHS.true
]

pub returns-then-not-known_sections : goal.returns-then-not-known_sections
returns-then-not-known_sections c = ill-known _ _ _ _ c.if-dims-sections.false c.if-positions-sections.false c.if-widths-ne-WIDTHS.false _ c.read_count.ensures _ c.known_sections.ensures c.if-not-known_sections.true

pub slice_bounds-known_sections-end : goal.slice_bounds-known_sections-end
slice_bounds-known_sections-end c = sym (length-take-le _ c.args.sections.now (read-within _ _ c.read_count.ensures))

pub returns-then-sections-gt-RECORD_LIMIT : goal.returns-then-sections-gt-RECORD_LIMIT
returns-then-sections-gt-RECORD_LIMIT c = too_many_lem _ _ _ _ c.if-dims-sections.false c.if-positions-sections.false c.if-widths-ne-WIDTHS.false _ c.read_count.ensures _ c.known_sections.ensures c.if-not-known_sections.false c.if-sections-gt-RECORD_LIMIT.true

pub write_records-requires : goal.write_records-requires
write_records-requires c = (records_are _ _ c.args.positions.now c.args.widths.now c.if-dims-sections.false c.if-positions-sections.false c.if-widths-ne-WIDTHS.false _ c.read_count.ensures _ c.known_sections.ensures c.if-not-known_sections.false c.if-sections-gt-RECORD_LIMIT.false, omega (arith, c.if-dims-sections.false, c.if-positions-sections.false), c.if-widths-ne-WIDTHS.false)

pub returns : goal.returns
returns c = mapped _ _ _ _ c.if-dims-sections.false c.if-positions-sections.false c.if-widths-ne-WIDTHS.false _ c.read_count.ensures _ c.known_sections.ensures c.if-not-known_sections.false c.if-sections-gt-RECORD_LIMIT.false _ _ c.write_records.ensures
