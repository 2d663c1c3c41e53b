-- A line by its number: a refusal's, a step's, the counter's. No word of the code.
-- Assumes nothing.
use Prim.Native.Nat.{ℕ, ◌*◌, ◌<◌, ◌≤◌}
use mathlib.Core.Path.{◌≡◌}
use mathlib.Core.List.{List}
use borrow.Author.Tests.{ne_eqb, eq-eqb, lt-ltb, le-ltb}
use Rattle.kinds.specs.Steps.{step_size, step_at}
use Rattle.kinds.specs.declared.step.Step.{Step}
use Rattle.output.specs.Output.{counter_line, refusal_line}
use Rattle.output.specs.Records.{record_line, PutsLine}
use Rattle.transcript.specs.Lines.{line_no}
use Rattle.transcript.specs.declared.lines.Shown.{Shown}

module _ (nodes literals list : List ℕ) (s : Shown) (k : ℕ) {l l' : List ℕ} {r : ℕ} where
  pub refusal-put : (s.refusal ≡ 0 → ⊥) → PutsLine l (refusal_line s.refusal) l' r → PutsLine l (line_no nodes literals list s k) l' r
  unfolding line_no
  refusal-put h p = rw (ne_eqb s.refusal 0 h) p

  module _ (h : s.refusal ≡ 0) where
    pub step-put :
        k < s.steps → {z : Step} → z ≡ step_at list (step_size * k) → PutsLine l (record_line nodes literals z) l' r → PutsLine l (line_no nodes literals list s k) l' r
    unfolding line_no
    step-put g e p = rw (eq-eqb s.refusal 0 h, lt-ltb k s.steps g, ← e) p

    pub counter-put : s.steps ≤ k → PutsLine l (counter_line s.counter) l' r → PutsLine l (line_no nodes literals list s k) l' r
    unfolding line_no
    counter-put g p = rw (eq-eqb s.refusal 0 h, le-ltb k s.steps g) p
