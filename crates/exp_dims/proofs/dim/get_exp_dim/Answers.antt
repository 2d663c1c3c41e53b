-- `exp_dims::dim::get_exp_dim` meets its contract. Assumes nothing.
use Rattle.exp_dims.proofs.Trees.{exp-there, exp-root-asks, exp-gives}
use Rattle.exp_dims.proofs.dim.get_exp_dim.Goals as goal

pub root-requires : goal.root-requires
root-requires c = exp-there c.requires.4

pub tree_dim-requires : goal.tree_dim-requires
tree_dim-requires c = (c.requires.0, c.requires.1, c.requires.2, c.requires.3, exp-root-asks c.requires.4 c.root.ensures)

pub returns : goal.returns
returns c = λ l n m rank a. exp-gives a c.root.ensures (c.tree_dim.ensures l n m rank (exp-root-asks a c.root.ensures))
