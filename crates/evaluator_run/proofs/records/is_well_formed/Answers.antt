-- `evaluator_run::records::is_well_formed` meets its contract.
-- Assumes nothing.
use Rattle.evaluator_run.specs.Laws.Records.{formed-modulus, formed-list, formed-values}
use Rattle.evaluator_run.proofs.records.is_well_formed.Goals as goal

pub returns-then-modulus-lt-LEAST_MODULUS : goal.returns-then-modulus-lt-LEAST_MODULUS
returns-then-modulus-lt-LEAST_MODULUS c = formed-modulus _ _ _ c.if-modulus-lt-LEAST_MODULUS.true

pub returns-then-not-good_list : goal.returns-then-not-good_list
returns-then-not-good_list c = formed-list _ _ _ c.if-modulus-lt-LEAST_MODULUS.false _ c.good_list.ensures c.if-not-good_list.true

pub returns : goal.returns
returns c = formed-values _ _ _ c.if-modulus-lt-LEAST_MODULUS.false _ c.good_list.ensures c.if-not-good_list.false _ c.good_values.ensures
