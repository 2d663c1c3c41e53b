-- `pool_frames::frame::put_node` meets its contract: the head, the children and the literal, one after the other.
-- Assumes nothing.
use native.Mathlib.Omega.{arith}
use Rattle.pool_frames.proofs.Parts.{node-small, node-framed-length, put-frame}
use Rattle.pool_frames.proofs.frame.put_node.Goals as goal

pub overflow_cast-node_size : goal.overflow_cast-node_size
overflow_cast-node_size c = omega (arith, c.node_size.ensures, node-small c.args.x)

pub put_head-requires : goal.put_head-requires
put_head-requires c = omega (arith, c.requires, node-framed-length c.args.x)

pub put_children-end-requires : goal.put_children-end-requires
put_children-end-requires c = omega (arith, c.requires, node-framed-length c.args.x)

pub put_literal-requires : goal.put_literal-requires
put_literal-requires c = omega (arith, c.requires, node-framed-length c.args.x, c.put_children-end.ensures.next)

pub returns : goal.returns
returns c = put-frame _ _ _ _ _ _ c.node_size.ensures c.put_head.ensures c.put_children-end.ensures c.put_literal.ensures
