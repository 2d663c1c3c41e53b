-- `exp_dims::leaf::cm_dim` meets its contract. Assumes nothing.
use mathlib.Core.Path.{sym}
use Rattle.exp_dims.proofs.Leaves.{get_d_past}
use Rattle.exp_dims.proofs.leaf.cm_dim.Goals as goal

pub returns : goal.returns
returns c = sym (get_d_past c.args.dims.now c.args.cm 0 c.if-cm-dims.false)
