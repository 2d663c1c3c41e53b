-- `exp_dims::leaf::leaf_dim` meets its contract: each arm of the `match` is one case of `leaf_dim_by`. Assumes nothing.
use native.Mathlib.Omega.{arith}
use Rattle.exp_dims.proofs.Leaves.{cm_in, q_in, extension_in, low_in, high_in}
use Rattle.exp_dims.proofs.leaf.leaf_dim.Goals as goal

pub returns-in-16 : goal.returns-in-16
returns-in-16 c = cm_in c.args.nodes.now c.args.dims.now c.args.i c.kind_at.ensures c.in-16.is c.id.ensures c.cm_dim.ensures

pub returns-in-19 : goal.returns-in-19
returns-in-19 c = q_in c.args.nodes.now c.args.dims.now c.args.i c.kind_at.ensures c.in-19.is

pub returns-in-22-to-25 : goal.returns-in-22-to-25
returns-in-22-to-25 c = extension_in c.args.nodes.now c.args.dims.now c.args.i c.kind_at.ensures (omega (arith, c.in-22-to-25.if-this-lt22-own.false)) (omega (arith, c.in-22-to-25.if-this-lt26-own.true))

pub returns-in_default : goal.returns-in_default
returns-in_default c = low_in c.args.nodes.now c.args.dims.now c.args.i c.kind_at.ensures (omega arith) (omega arith) (omega (arith, c.in_default.if-this-lt22-own.true))

pub returns-in_default-2 : goal.returns-in_default-2
returns-in_default-2 c = high_in c.args.nodes.now c.args.dims.now c.args.i c.kind_at.ensures (omega arith) (omega arith) (omega (arith, c.in_default.if-this-lt26-own.false))
