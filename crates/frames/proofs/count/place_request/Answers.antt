-- `frames::count::place_request` meets its contract.
-- Assumes nothing.
use borrow.Author.Tests.{tests}
use native.Mathlib.Omega.{arith}
use Rattle.frames.specs.Order.{place_request}
use Rattle.frames.proofs.count.place_request.Goals as goal

pub returns-then-c-ge-REQUEST_LIMIT : goal.returns-then-c-ge-REQUEST_LIMIT
unfolding place_request
returns-then-c-ge-REQUEST_LIMIT c = grind (arith, tests)

pub returns : goal.returns
unfolding place_request
returns c = grind (arith, tests)
