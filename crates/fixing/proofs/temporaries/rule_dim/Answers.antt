-- `fixing::temporaries::rule_dim` meets its contract.
-- Assumes nothing.
use mathlib.Core.Path.{refl}
use Rattle.fixing.specs.ProverCode.{rule_dim}
use Rattle.fixing.proofs.temporaries.rule_dim.Goals as goal

pub returns : goal.returns
unfolding rule_dim
returns c = refl
