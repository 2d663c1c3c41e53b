-- `pool_frames::frame::put_literal` meets its contract.
-- Assumes nothing.
use lib.ListN.{length-set}
use native.Mathlib.Omega.{arith}
use lib.ListN.{length-set}
use Rattle.pool_frames.proofs.Parts.{literal-room, put-with, put-without}
use Rattle.pool_frames.proofs.frame.put_literal.Goals as goal

pub bounds-out-at : goal.bounds-out-at
bounds-out-at c = omega (arith, c.requires, literal-room c.args.x _ c.carries_literal.ensures c.if-carries_literal.true)

pub put_u64-requires : goal.put_u64-requires
put_u64-requires c = simp length-set (omega (arith, c.requires, literal-room c.args.x _ c.carries_literal.ensures c.if-carries_literal.true))

pub returns-then-carries_literal : goal.returns-then-carries_literal
returns-then-carries_literal c = put-with _ _ c.args.x _ c.carries_literal.ensures c.if-carries_literal.true c.put_u64.ensures

pub returns : goal.returns
returns c = put-without _ _ c.args.x _ c.carries_literal.ensures c.if-carries_literal.false
