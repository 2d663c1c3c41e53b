-- `sections::map_section::write_records` meets its contract.
-- Assumes nothing.
use native.Mathlib.Omega.{arith}
use Rattle.sections.proofs.Laws.Tables.{all_small}
use Rattle.sections.proofs.Laws.Maps.{widths-all}
use Rattle.sections.proofs.map_section.write_records.Goals as goal

pub put_widths-requires : goal.put_widths-requires
put_widths-requires c = (all_small _ _ _ c.requires.0 c.tally.ensures, omega (arith, c.requires.2))

pub put_widths-requires-2 : goal.put_widths-requires-2
put_widths-requires-2 c = (all_small _ _ _ c.requires.0 c.tally.ensures, omega (arith, c.requires.2, c.put_widths.auto.widths))

pub put_widths-requires-3 : goal.put_widths-requires-3
put_widths-requires-3 c = (all_small _ _ _ c.requires.0 c.tally.ensures, omega (arith, c.requires.2, c.put_widths.auto.widths, c.put_widths-2.auto.widths))

pub returns : goal.returns
returns c = record { positions = c.place.ensures; widths = widths-all _ _ _ c.tally.ensures _ _ _ _ c.requires.2 c.put_widths.ensures c.put_widths-2.ensures c.put_widths-3.ensures }
