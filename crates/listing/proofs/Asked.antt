-- The steps of an answer stand in the list. No word of the code.
-- Assumes nothing.
use Prim.Native.Nat.{ℕ}
use mathlib.Core.Path.{◌≡◌, sym, subst}
use mathlib.Core.List.{List}
use lib.ListN.{length}
use Rattle.frames.specs.Tables.{Tables}
use Rattle.requests.specs.Runs.{Outcome, outcome_says}
use Rattle.transcript.specs.Concluding.{Concluded}
use Rattle.transcript.specs.Lines.{shown_of, LineAsked}
use Rattle.transcript.specs.Transcript.{line-asked}
use Rattle.transcript.specs.declared.lines.Shown.{Shown}

pub asked :
    {t l l' : List ℕ} {r : Outcome} {u : Tables} {s : Shown} → Concluded t l l' r u → s ≡ shown_of (outcome_says r) → length l' ≡ length l → LineAsked s (length l')
asked {l' = l'} c e q = subst (λ z. LineAsked z (length l')) (sym e) (line-asked c q)
