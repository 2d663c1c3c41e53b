-- `kinds::kind::Kind::is_node_kind` meets its contract: on each range that the code tells apart the answer is one, by a test that antt computes.
-- Assumes nothing.
use native.Mathlib.Omega.{arith}
use Rattle.kinds.specs.Range.{within, true-over, false-over}
use Rattle.kinds.specs.Kinds.{is_node_kind, is_operation, is_leaf}
use Rattle.kinds.proofs.kind.Kind.is_node_kind.Goals as goal

pub returns-in-1-to-7 : goal.returns-in-1-to-7
unfolding is_node_kind is_operation is_leaf within
returns-in-1-to-7 c = true-over is_node_kind 0x01 0x07 tt c.args.kind (omega arith)

pub returns-in-16-to-26 : goal.returns-in-16-to-26
unfolding is_node_kind is_operation is_leaf within
returns-in-16-to-26 c = true-over is_node_kind 0x10 0x1a tt c.args.kind (omega arith)

pub returns-in_default : goal.returns-in_default
unfolding is_node_kind is_operation is_leaf within
returns-in_default c = false-over is_node_kind 0x00 0x00 tt c.args.kind (omega arith)

pub returns-in_default-2 : goal.returns-in_default-2
unfolding is_node_kind is_operation is_leaf within
returns-in_default-2 c = false-over is_node_kind 0x08 0x0f tt c.args.kind (omega arith)

pub returns-in_default-3 : goal.returns-in_default-3
unfolding is_node_kind is_operation is_leaf within
returns-in_default-3 c = false-over is_node_kind 0x1b 0xff tt c.args.kind (omega arith)
