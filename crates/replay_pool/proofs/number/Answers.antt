-- `replay_pool::number` meets its contract. Assumes nothing.
use mathlib.Core.Path.{subst, sym}
use Rattle.pool.specs.Numbered.{Numbered, NumberedText}
use Rattle.replay_pool.proofs.number.Goals as goal

pub returns-then-form-eq-TEXT : goal.returns-then-form-eq-TEXT
returns-then-form-eq-TEXT c = record { text = λ h. subst (NumberedText _) (sym c.from.ensures) c.number_of_text.ensures; frames = λ h. absurd (h c.if-form-eq-TEXT.true) }

pub returns-else-form-eq-TEXT : goal.returns-else-form-eq-TEXT
returns-else-form-eq-TEXT c = record { text = λ h. absurd (c.if-form-eq-TEXT.false h); frames = λ h. subst (Numbered _) (sym c.from-else-form-eq-TEXT.ensures) c.number_of.ensures }
