-- `exp_dims::dim::kept` meets its contract. Assumes nothing.
use mathlib.Core.Path.{refl}
use mathlib.Core.Logic.{inl, inr}
use Rattle.exp_dims.proofs.dim.kept.Goals as goal

pub returns-then-d : goal.returns-then-d
returns-then-d c = inr (refl, c.if-d.true)

pub returns : goal.returns
returns c = inl refl
