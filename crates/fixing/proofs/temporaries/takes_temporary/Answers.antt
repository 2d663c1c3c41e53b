-- `fixing::temporaries::takes_temporary` meets its contract.
-- Assumes nothing.
use Rattle.fixing.specs.Laws.Giving.{takes-cm, takes-other}
use Rattle.fixing.proofs.temporaries.takes_temporary.Goals as goal

pub returns-then-kind : goal.returns-then-kind
returns-then-kind c = takes-other _ _ _ c.rule_for.ensures _ c.rule_kind-kind.ensures c.if-kind.true

pub returns-else-kind : goal.returns-else-kind
returns-else-kind c = rw c.if-kind.false (takes-cm _ _ _ c.rule_for.ensures _ c.rule_kind-kind.ensures c.if-kind.false)
