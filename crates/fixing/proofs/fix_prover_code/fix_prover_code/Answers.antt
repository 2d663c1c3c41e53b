-- `fixing::fix_prover_code::fix_prover_code` meets its contract: each refusal is one law of specs/Laws/Whole.antt.
-- Assumes nothing.
use mathlib.Core.Path.{refl, sym}
use Rattle.kinds.specs.AnswerLaws.{passed-on}
use Rattle.lent_lists.specs.Laws.Verdicts.{no-refusal}
use Rattle.fixing.specs.Laws.Whole.{answer-refused}
use Rattle.fixing.proofs.fix_prover_code.fix_prover_code.Goals as goal

pub returns-in_err-decide : goal.returns-in_err-decide
returns-in_err-decide c = rw (passed-on _ c.from_residual.ensures.1) (answer-refused _ _ _ _ _ _ _ c.in_err-decide.ensures _ refl)

pub fix_decided-requires : goal.fix_decided-requires
fix_decided-requires c = no-refusal _ (sym c.in_ok-decide.ensures)
