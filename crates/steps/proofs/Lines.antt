-- A line that is put fits its room. No word of the code.
-- Assumes nothing.
use Prim.Native.Nat.{ℕ, ◌*◌, ◌≤◌}
use mathlib.Core.Path.{◌≡◌, sym, ◌∙◌, ap, subst}
use mathlib.Core.Bool.{Bool, true, false, cond}
use mathlib.Core.List.{List}
use native.Mathlib.Omega.{arith}
use lib.ListN.{length}
use lib.Dec.{eqb, ltb}
use Rattle.kinds.specs.Write.{write-length}
use Rattle.kinds.specs.Steps.{step_size, step_at}
use Rattle.output.specs.Output.{counter_line, refusal_line}
use Rattle.output.specs.Records.{record_line, PutsLine}
use Rattle.output.specs.Laws.{record-fits, counter-fits, refusal-fits}
use Rattle.frames.specs.Tables.{Tables}
use Rattle.requests.specs.Runs.{Outcome, outcome_says}
use Rattle.transcript.specs.Concluding.{Concluded}
use Rattle.transcript.specs.Lines.{shown_of, line_no, LineAsked}
use Rattle.transcript.specs.Transcript.{line-asked}
use Rattle.transcript.specs.declared.lines.Shown.{Shown}

-- the line keeps its length
pub put-length : {l text l' : List ℕ} {r : ℕ} → 91 ≡ length l → PutsLine l text l' r → 91 ≡ length l'
put-length {l} {text} h p = h ∙ sym (ap length p.list ∙ write-length l 0 text)

-- and what is put in it fits
pub put-room : {l text l' : List ℕ} {r : ℕ} → 91 ≡ length l → length text ≤ 91 → PutsLine l text l' r → r ≤ length l'
put-room h f p = omega (arith, p.size, f, put-length h p)

line-fits : (nodes literals list : List ℕ) (s : Shown) (k : ℕ) → length (line_no nodes literals list s k) ≤ 91
unfolding line_no
line-fits nodes literals list s k = go (eqb s.refusal 0) (ltb k s.steps)
  where
    go :
        (a b : Bool) →
        length (cond a (cond b (record_line nodes literals (step_at list (step_size * k))) (counter_line s.counter)) (refusal_line s.refusal)) ≤ 91
    go true true = record-fits nodes literals (step_at list (step_size * k))
    go true false = counter-fits s.counter
    go false b = refusal-fits s.refusal

pub line-room :
    (nodes literals list : List ℕ) (s : Shown) (k : ℕ) {l l' : List ℕ} {r : ℕ} → 91 ≡ length l → PutsLine l (line_no nodes literals list s k) l' r → r ≤ length l'
line-room nodes literals list s k h p = put-room h (line-fits nodes literals list s k) p

-- the lines of an answer may be asked for
pub asked :
    {t l l' : List ℕ} {r : Outcome} {u : Tables} {s : Shown} → Concluded t l l' r u → s ≡ shown_of (outcome_says r) → length l' ≡ length l → LineAsked s (length l')
asked {l' = l'} c e q = subst (λ z. LineAsked z (length l')) (sym e) (line-asked c q)
