-- `fixing::temporaries::rule_kind` meets its contract.
-- Assumes nothing.
use mathlib.Core.Path.{refl}
use Rattle.fixing.specs.ProverCode.{rule_kind}
use Rattle.fixing.proofs.temporaries.rule_kind.Goals as goal

pub returns : goal.returns
unfolding rule_kind
returns c = refl
