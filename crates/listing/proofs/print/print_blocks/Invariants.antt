-- `listing::print::print_blocks` is safe: each block that it shows stands in the list. The measure is what is left of the steps.
-- Assumes nothing.
use Prim.Native.Nat.{◌-◌, ◌≤◌}
use mathlib.Core.Path.{◌≡◌}
use lib.ListN.{length}
use Rattle.listing.proofs.print.print_blocks.Given as goal

abbrev pub invariant-loop-from : goal.invariant-loop-from
invariant-loop-from g l = (l.at ≤ length l.page) × (length l.page ≡ length l.initial.page)

abbrev pub decreases-loop-from : goal.decreases-loop-from
decreases-loop-from g l = l.steps - l.from
