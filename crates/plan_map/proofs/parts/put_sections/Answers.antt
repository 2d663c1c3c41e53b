-- `plan_map::parts::put_sections` meets its contract: the head, and the records behind it (proofs/Placing.antt). Assumes nothing.
use native.Mathlib.Omega.{arith}
use lib.Seq.{length-take-le}
use Rattle.plan_map.specs.Puts.{puts-size}
use Rattle.plan_map.proofs.Placing.{given-size, head-end, sections-put}
use Rattle.plan_map.proofs.parts.put_sections.Goals as goal

pub put_records-requires : goal.put_records-requires
put_records-requires c = (c.requires.few, omega (arith, c.requires.fits, puts-size c.put_head-end.ensures, head-end _ _ _ _ _ _ _ c.put_head-end.ensures (given-size c.place_records.ensures)))

pub returns : goal.returns
returns c = sections-put c.place_records.ensures _ _ _ (length-take-le _ c.args.sections.now (omega (arith, c.requires.few, c.requires.sections_size))) c.put_head-end.ensures c.put_records.ensures
