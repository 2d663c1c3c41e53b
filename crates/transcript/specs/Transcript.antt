-- THE TRANSCRIPT: the lines that are put one by one are what document 01's program prints to the whole text that was fed.
-- Assumes nothing.
use Prim.Native.Nat.{ℕ, zero, suc, ◌+◌, ◌*◌, ◌<◌, ◌≤◌}
use Rattle.std.specs.Prelude.{◌≡◌, length}
use Rattle.std.proofs.Math.Path.{refl, ap}
use Rattle.std.proofs.Common.{sym, ◌∙◌, subst, zero-add}
use mathlib.Core.List.{List, [], ◌∷◌, ◌++◌}
use native.Mathlib.Omega.{arith}
use borrow.Author.Tests.{ne_eqb, lt-ltb, le-ltb}
use Rattle.meaning.specs.Refusals.{number, Answer, done, refused, ◌then◌}
use Rattle.meaning.specs.Building.{Segment}
use Rattle.meaning.proofs.Laws.Tests.{number-not-zero, done-not-refused}
use Rattle.kinds.specs.Steps.{step_size, step_at, steps_of, steps-none, steps-more, steps-joined}
use Rattle.kinds.specs.Write.{write}
use Rattle.frames.specs.Order.{Input}
use Rattle.frames.specs.Tables.{Tables}
use Rattle.frames.specs.Text.{reading_text}
use Rattle.pool.specs.Numbered.{pool_of}
use Rattle.starkinfo_codegen.specs.Encoding.{records, records-length, encoded}
use Rattle.requests.specs.Whole.{totals, list_after}
use Rattle.requests.specs.Runs.{requests_of, Runs, Outcome, outcome_says}
use Rattle.requests.specs.Serving.{Accepted, accepted}
use Rattle.output.specs.Output.{counter_line, refusal_line, printed}
use Rattle.output.specs.Records.{record_line, record_lines}
use Rattle.output.specs.Laws.{record-lines-append, record-lines-one}
use Rattle.transcript.specs.Concluding.{Concluded}
use Rattle.transcript.specs.Lines.{shown_of, line_count, line_no, all_lines, LineAsked}
use Rattle.transcript.specs.declared.lines.Shown.{Shown}

-- lines by number, of which the first n agree
lines_same : (f g : ℕ → List ℕ) (n : ℕ) → ((k : ℕ) → k < n → f k ≡ g k) → all_lines f n ≡ all_lines g n
lines_same f g zero h = refl
lines_same f g (suc n) h = rw (lines_same f g n (λ k l. h k (omega arith)), h n (omega arith))

module _ (nodes literals list : List ℕ) where
  -- the lines of the first n records
  record-lines : (n : ℕ) → all_lines (λ k. record_line nodes literals (step_at list (step_size * k))) n ≡ record_lines nodes literals (steps_of list n)
  unfolding record_lines
  record-lines zero = rw (steps-none list)
  record-lines (suc n) =
      rw (steps-more list n, record-lines n) (sym (record-lines-append nodes literals (steps_of list n) (step_at list (step_size * n) ∷ []) ∙ ap (λ l. record_lines nodes literals (steps_of list n) ++ l) (record-lines-one nodes literals (step_at list (step_size * n)))))

  -- of an answer that is done: its records and its counter
  lines-done : (n c : ℕ) → all_lines (line_no nodes literals list (record { refusal = 0; steps = n; counter = c })) (n + 1) ≡ record_lines nodes literals (steps_of list n) ++ counter_line c
  unfolding line_no
  lines-done n c =
      let e : n + 1 ≡ suc n = omega arith in
      rw (e, le-ltb n n (omega arith))
      (ap (λ l. l ++ counter_line c)
      (lines_same (line_no nodes literals list (record { refusal = 0; steps = n; counter = c })) (λ k. record_line nodes literals (step_at list (step_size * k))) n (λ k h. rw (lt-ltb k n h))
      ∙ record-lines n))

  lines-refused : (k : ℕ) → (k ≡ 0 → ⊥) → all_lines (line_no nodes literals list (record { refusal = k; steps = 0; counter = 0 })) 1 ≡ refusal_line k
  unfolding line_no
  lines-refused k h = rw (ne_eqb k 0 h)

-- the records of a list that stands at the front
front : (l : List ℕ) (s : Segment) → step_size * length s.first ≤ length l → steps_of (write l 0 (encoded s.first)) (length s.first) ≡ records s.first
unfolding encoded
front l s h =
    let n = records-length s.first in
    let e : steps_of (write l 0 (encoded s.first)) (0 + length (records s.first)) ≡ records s.first
    = steps-joined l 0 (records s.first) (omega (arith, h, n)) ∙ rw (steps-none l) in
    rw (zero-add, n) at e

module _ {t l l' : List ℕ} {r : Outcome} {u : Tables} (c : Concluded t l l' r u) where
  -- where the answer is a segment, the text was read, its pool admitted and its requests served
  taken : (s : Segment) → c.run.answer ≡ done s → (i : Input) × Accepted (pool_of i) (requests_of i) (length l) s
  taken s e = go (reading_text t) (subst (Runs (reading_text t) (length l)) e c.run.runs)
    where
      go : (x : Answer Input) → Runs x (length l) (done s) → (i : Input) × Accepted (pool_of i) (requests_of i) (length l) s
      go (done i) h = (i, accepted (pool_of i) (requests_of i) (length l) s (h.judged i refl))
      go (refused k o) h = absurd (let z : ◌≡◌ {A = Answer Segment} (done s) (refused k o) = h.unread k o refl in done-not-refused z)

  abbrev S : Shown
  S = shown_of (outcome_says r)

  says : (z : Answer Segment) → c.run.answer ≡ z → outcome_says r ≡ (z then λ s. done (totals s))
  says z e = c.run.says ∙ ap (λ (y : Answer Segment). y then λ s. done (totals s)) e

  list-is : (z : Answer Segment) → c.run.answer ≡ z → l' ≡ list_after l z
  list-is z e = c.run.list ∙ ap (list_after l) e

  -- THE LINES, ONE AFTER THE OTHER, ARE WHAT IS PRINTED to the whole text
  pub transcript : all_lines (line_no u.nodes u.literals l' S) (line_count S) ≡ printed c.run.answer
  unfolding printed
  transcript = go c.run.answer refl
    where
      go : (z : Answer Segment) → c.run.answer ≡ z → all_lines (line_no u.nodes u.literals l' S) (line_count S) ≡ printed z
      go (done s) e =
          let k = (taken s e).1 in
          let f : steps_of l' (length s.first) ≡ records s.first = ap (λ (m : List ℕ). steps_of m (length s.first)) (list-is (done s) e) ∙ front l s k.list in
          rw (says (done s) e)
          (lines-done u.nodes u.literals l' (length s.first) s.counter
          ∙ ap (λ x. record_lines u.nodes u.literals x ++ counter_line s.counter) f
          ∙ ap (λ x. x ++ counter_line s.counter) (c.lines s e))
      go (refused k o) e = rw (says (refused k o) e) (lines-refused u.nodes u.literals l' (number k) (number-not-zero k))

  -- and each may be asked for
  pub line-asked : length l' ≡ length l → LineAsked S (length l')
  line-asked q = go c.run.answer refl
    where
      go : (z : Answer Segment) → c.run.answer ≡ z → LineAsked S (length l')
      go (done s) e = let k = (taken s e).1 in rw (says (done s) e) (record { steps = omega (arith, k.list, q); counter = k.counter })
      go (refused k o) e = rw (says (refused k o) e) (record { steps = omega arith; counter = omega arith })
