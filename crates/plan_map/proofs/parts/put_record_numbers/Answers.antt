-- `plan_map::parts::put_record_numbers` meets its contract: the numbers stand at the front of a table (proofs/Tabling.antt). Assumes nothing.
use mathlib.Core.Path.{refl, sym}
use native.Mathlib.Omega.{arith}
use Rattle.plan_map.specs.Puts.{puts-is}
use Rattle.plan_map.proofs.Tabling.{numbers-size, numbers-few, numbers-front}
use Rattle.plan_map.proofs.parts.put_record_numbers.Goals as goal

pub slice_bounds-put_numbers-end : goal.slice_bounds-put_numbers-end
slice_bounds-put_numbers-end c = sym (numbers-size c.args.sections.now c.args.n c.args.first c.args.last c.requires.size c.requires.few refl c.record_numbers-count.ensures)

pub put_numbers-requires : goal.put_numbers-requires
put_numbers-requires c = (numbers-few c.args.sections.now c.args.n c.args.first c.args.last c.requires.size c.requires.few refl c.record_numbers-count.ensures, omega (arith, c.record_numbers-count.ensures.count, c.requires.fits))

pub returns : goal.returns
returns c = puts-is (numbers-front c.args.sections.now c.args.n c.args.first c.args.last c.requires.size c.requires.few refl c.record_numbers-count.ensures) c.put_numbers.ensures
