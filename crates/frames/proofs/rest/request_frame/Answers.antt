-- `frames::rest::request_frame` meets its contract.
-- Assumes nothing.
use borrow.Author.Tests.{tests}
use native.Mathlib.Omega.{arith}
use Rattle.frames.specs.Rest.{request_of, request_ok, request_from}
use Rattle.frames.proofs.rest.request_frame.Goals as goal

pub returns-then-f-ne-REQUEST_SIZE : goal.returns-then-f-ne-REQUEST_SIZE
unfolding request_of request_ok request_from
returns-then-f-ne-REQUEST_SIZE c = grind (arith, tests)

pub returns : goal.returns
unfolding request_of request_ok request_from
returns c = grind (arith, tests)
