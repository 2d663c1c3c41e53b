-- `fixing::temporaries::rule_id` meets its contract.
-- Assumes nothing.
use mathlib.Core.Path.{refl}
use Rattle.fixing.specs.ProverCode.{rule_id}
use Rattle.fixing.proofs.temporaries.rule_id.Goals as goal

pub returns : goal.returns
unfolding rule_id
returns c = refl
