-- `plan_map::parts::put_head` meets its contract: its numbers stand one behind the other (proofs/Placing.antt). Assumes nothing.
use mathlib.Core.Path.{refl}
use native.Mathlib.Omega.{arith}
use Rattle.plan_tables.specs.Tables.{offset_count}
use Rattle.plan_map.specs.Puts.{puts-size, rows_end}
use Rattle.plan_map.proofs.Placing.{offsets-size, head-put}
use Rattle.plan_map.proofs.parts.put_head.Goals as goal

pub put_offsets-counts-requires : goal.put_offsets-counts-requires
put_offsets-counts-requires c = (offsets-size _ _ c.args.widths.now c.fill_offsets.ensures, omega (arith, c.requires.fits))

pub put_pair-more-requires : goal.put_pair-more-requires
put_pair-more-requires c = omega (arith, c.requires.fits, puts-size c.put_offsets-counts.ensures, rows_end _ offset_count c.put_offsets-counts.ensures 4 (λ j. refl))

pub put_pair-end-requires : goal.put_pair-end-requires
put_pair-end-requires c = omega (arith, c.requires.fits, puts-size c.put_offsets-counts.ensures, rows_end _ offset_count c.put_offsets-counts.ensures 4 (λ j. refl), puts-size c.put_pair-more.ensures, c.put_pair-more.ensures.next)

pub put_numbers-requires : goal.put_numbers-requires
put_numbers-requires c = (omega (arith, c.requires.wide), omega (arith, c.requires.fits, puts-size c.put_offsets-counts.ensures, rows_end _ offset_count c.put_offsets-counts.ensures 4 (λ j. refl), puts-size c.put_pair-more.ensures, c.put_pair-more.ensures.next, puts-size c.put_pair-end.ensures, c.put_pair-end.ensures.next))

pub returns : goal.returns
returns c = head-put _ c.args.widths.now _ _ c.fill_offsets.ensures c.requires.wide c.put_offsets-counts.ensures c.put_pair-more.ensures c.put_pair-end.ensures c.put_numbers.ensures
