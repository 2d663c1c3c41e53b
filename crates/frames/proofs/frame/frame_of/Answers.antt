-- `frames::frame::frame_of` meets its contract.
-- Assumes nothing.
use borrow.Author.Tests.{tests}
use native.Mathlib.Omega.{arith}
use Rattle.frames.specs.Frames.{frame_of}
use Rattle.frames.proofs.frame.frame_of.Goals as goal

pub returns-in_err-first : goal.returns-in_err-first
unfolding frame_of
returns-in_err-first c = grind (arith, tests)

pub returns-in_err-node_frame-in-1 : goal.returns-in_err-node_frame-in-1
unfolding frame_of
returns-in_err-node_frame-in-1 c = grind (arith, tests)

pub returns-in_err-expression_frame-in-2 : goal.returns-in_err-expression_frame-in-2
unfolding frame_of
returns-in_err-expression_frame-in-2 c = grind (arith, tests)

pub returns-in_err-request_frame-in-3 : goal.returns-in_err-request_frame-in-3
unfolding frame_of
returns-in_err-request_frame-in-3 c = grind (arith, tests)

pub returns-in_ok-node_frame-in-1 : goal.returns-in_ok-node_frame-in-1
unfolding frame_of
returns-in_ok-node_frame-in-1 c = grind (arith, tests)

pub returns-in_ok-expression_frame-in-2 : goal.returns-in_ok-expression_frame-in-2
unfolding frame_of
returns-in_ok-expression_frame-in-2 c = grind (arith, tests)

pub returns-in_ok-request_frame-in-3 : goal.returns-in_ok-request_frame-in-3
unfolding frame_of
returns-in_ok-request_frame-in-3 c = grind (arith, tests)

pub returns-in_default : goal.returns-in_default
unfolding frame_of
returns-in_default c = grind (arith, tests)
