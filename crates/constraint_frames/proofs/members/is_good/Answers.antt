-- `constraint_frames::members::is_good` meets its contract. Assumes nothing.
use borrow.Author.Tests.{tests}
use native.Mathlib.Omega.{arith}
use Rattle.constraint_frames.specs.Listing.{set_good}
use Rattle.constraint_frames.proofs.members.is_good.Goals as goal

pub returns-then-set-members : goal.returns-then-set-members
unfolding set_good
returns-then-set-members c = grind (arith, tests)

pub returns-else-set-members : goal.returns-else-set-members
unfolding set_good
returns-else-set-members c = grind (arith, tests)
