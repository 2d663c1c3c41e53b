-- 0, 1, 2, 3, 4 AND 9 OF FRAMES, each exactly when; no other number is given, and only one fits. Over any list of frames, then over those of a slice and of a text.
-- Assumes nothing.
use Rattle.std.specs.Prelude.{ℕ, ◌≡◌, refl, List, [], ◌⊎◌, ◌↔◌}
use Rattle.std.proofs.Common.{sym, ◌∙◌, ap, subst, inl, inr, ⊎_elim, arith}
use Rattle.meaning.specs.Refusals.{number, Answer, done, refused, answer_no}
use Rattle.meaning.specs.Trees.{Acyclic}
use Rattle.meaning.proofs.Laws.Tests.{done-same, done-not-refused, number-not-zero}
use Rattle.frames.specs.Order.{Input, nothing}
use Rattle.frames.specs.Reading.{frames_in, read_from, reading}
use Rattle.frames.specs.Text.{text_frames, reading_text}
use Rattle.frames.specs.Faults.{Wrong, Past, First}
use Rattle.frames.specs.Exactly.{row_1_of, row_9_of, no-other-of, read_as}
use Rattle.frames.specs.TextLaws.{text_as}
use Rattle.pool.specs.Trees.{forest}
use Rattle.pool.specs.Shaped.{Shaped}
use Rattle.pool.specs.Admission.{ClosedWalk}
use Rattle.pool.specs.Verdict.{SomeWrongCount, SomeNotThere, Verdict}
use Rattle.pool.specs.Exactly.{Case, cases, exactly_0, exactly_2, exactly_3, exactly_4, one_answer}
use Rattle.pool.specs.Numbered.{pool_of, NumberedBy, Numbered, NumberedText}

-- the numbers that are given
pub data Given (r : ℕ) : Type 0 where
  no_0 : r ≡ 0 → Given r
  no_1 : r ≡ 1 → Given r
  no_2 : r ≡ 2 → Given r
  no_3 : r ≡ 3 → Given r
  no_4 : r ≡ 4 → Given r
  no_9 : r ≡ 9 → Given r

-- reading answers with a pool that Q says something of
abbrev pub ReadBy : Answer Input → (Input → Type 0) → Type 0
ReadBy x Q = (i : Input) × (x ≡ done i) × Q i

-- the pool has its shape, and stands for an acyclic forest
abbrev pub Has0 : Input → Type 0
Has0 i = Shaped (pool_of i) × Acyclic (forest (pool_of i))

-- the child count of some node differs from the table
abbrev pub Has2 : Input → Type 0
Has2 i = SomeWrongCount (pool_of i)

-- not so, and something is not there
abbrev pub Has3 : Input → Type 0
Has3 i = (SomeWrongCount (pool_of i) → ⊥) × SomeNotThere (pool_of i)

-- neither, and exp leaves form a cycle
abbrev pub Has4 : Input → Type 0
Has4 i = (SomeWrongCount (pool_of i) → ⊥) × (SomeNotThere (pool_of i) → ⊥) × ClosedWalk (pool_of i) []

-- ── any frames ──────────────────────────────────────────────────────────────────

module _ (fs : List (List ℕ)) (x : Answer Input) (same : x ≡ read_from nothing fs) (r : ℕ) (h : NumberedBy x r) where
  -- either reading refuses, and its number is the number, or a pool is judged
  data Outcome : Type 0 where
    unread : r ≡ answer_no x → (r ≡ 1) ⊎ (r ≡ 9) → ((i : Input) → x ≡ done i → ⊥) → Outcome
    judged : (i : Input) → x ≡ done i → (a : Answer (Unit {0})) → Verdict (pool_of i) [] a → r ≡ answer_no a → Outcome

  outcome : Outcome
  outcome = go x refl (no-other-of fs x same)
    where
      go : (y : Answer Input) → x ≡ y → (answer_no x ≡ 0) ⊎ ((answer_no x ≡ 1) ⊎ (answer_no x ≡ 9)) → Outcome
      go (done i) q n = let j = h.judged i q in Outcome.judged i q j.0 j.1 j.2
      go (refused k b) q n =
          let e : r ≡ number k = h.unread k b q in
          let f : r ≡ answer_no x = e ∙ sym (ap answer_no q) in
          Outcome.unread f (⊎_elim (λ z. absurd (number-not-zero k (sym (ap answer_no q) ∙ z))) (λ z. ⊎_elim (λ y. inl (f ∙ y)) (λ y. inr (f ∙ y)) z) n)
          (λ i w. done-not-refused (sym w ∙ q))

  -- a pool's number is no reading's
  pool-number : (i : Input) (a : Answer (Unit {0})) → Verdict (pool_of i) [] a → (answer_no a ≡ 1 → ⊥) × (answer_no a ≡ 9 → ⊥)
  pool-number i a v = go (cases (pool_of i) [] a v)
    where
      go : Case (pool_of i) [] a → (answer_no a ≡ 1 → ⊥) × (answer_no a ≡ 9 → ⊥)
      go (Case.two w q) = (λ z. omega arith, λ z. omega arith)
      go (Case.three w x q) = (λ z. omega arith, λ z. omega arith)
      go (Case.four w x q) = (λ z. omega arith, λ z. omega arith)
      go (Case.admitted w k x q) = (λ z. omega arith, λ z. omega arith)

  -- 1 exactly when the first frame that is not fine is malformed or out of order
  pub row_1 : (r ≡ 1) ↔ First Wrong fs
  row_1 = (to outcome, back outcome)
    where
      to : Outcome → r ≡ 1 → First Wrong fs
      to (Outcome.unread e n w) z = (row_1_of fs x same).0 (sym e ∙ z)
      to (Outcome.judged i q a v e) z = absurd ((pool-number i a v).0 (sym e ∙ z))

      back : Outcome → First Wrong fs → r ≡ 1
      back (Outcome.unread e n w) z = e ∙ (row_1_of fs x same).1 z
      back (Outcome.judged i q a v e) z = absurd (let y : 0 ≡ 1 = sym (ap answer_no q) ∙ (row_1_of fs x same).1 z in omega arith)

  -- 9 exactly when it is well formed and in order, but past a limit
  pub row_9 : (r ≡ 9) ↔ First Past fs
  row_9 = (to outcome, back outcome)
    where
      to : Outcome → r ≡ 9 → First Past fs
      to (Outcome.unread e n w) z = (row_9_of fs x same).0 (sym e ∙ z)
      to (Outcome.judged i q a v e) z = absurd ((pool-number i a v).1 (sym e ∙ z))

      back : Outcome → First Past fs → r ≡ 9
      back (Outcome.unread e n w) z = e ∙ (row_9_of fs x same).1 z
      back (Outcome.judged i q a v e) z = absurd (let y : 0 ≡ 9 = sym (ap answer_no q) ∙ (row_9_of fs x same).1 z in omega arith)

  -- a number k of admission, exactly when the frames are read and its condition Q holds of the pool
  row : (k : ℕ) → (k ≡ 1 → ⊥) → (k ≡ 9 → ⊥) → (Q : Input → Type 0) →
      ((i : Input) (a : Answer (Unit {0})) → Verdict (pool_of i) [] a → (answer_no a ≡ k) ↔ Q i) → (r ≡ k) ↔ ReadBy x Q
  row k n1 n9 Q f = (to outcome, back outcome)
    where
      to : Outcome → r ≡ k → ReadBy x Q
      to (Outcome.unread e n w) z = absurd (⊎_elim (λ y. n1 (sym z ∙ y)) (λ y. n9 (sym z ∙ y)) n)
      to (Outcome.judged i q a v e) z = (i, q, (f i a v).0 (sym e ∙ z))

      back : Outcome → ReadBy x Q → r ≡ k
      back (Outcome.unread e n w) z = absurd (w z.0 z.1)
      back (Outcome.judged i q a v e) z =
          let y : z.0 ≡ i = done-same _ _ (sym z.1 ∙ q) in
          e ∙ (f i a v).1 (subst Q y z.2)

  pub row_0 : (r ≡ 0) ↔ ReadBy x Has0
  row_0 = row 0 (λ z. omega arith) (λ z. omega arith) Has0 (λ i a v. exactly_0 (pool_of i) a v)

  pub row_2 : (r ≡ 2) ↔ ReadBy x Has2
  row_2 = row 2 (λ z. omega arith) (λ z. omega arith) Has2 (λ i a v. exactly_2 (pool_of i) [] a v)

  pub row_3 : (r ≡ 3) ↔ ReadBy x Has3
  row_3 = row 3 (λ z. omega arith) (λ z. omega arith) Has3 (λ i a v. exactly_3 (pool_of i) [] a v)

  pub row_4 : (r ≡ 4) ↔ ReadBy x Has4
  row_4 = row 4 (λ z. omega arith) (λ z. omega arith) Has4 (λ i a v. exactly_4 (pool_of i) [] a v)

  pub no-other-number : Given r
  no-other-number = go outcome
    where
      pool : (i : Input) (a : Answer (Unit {0})) → Case (pool_of i) [] a → r ≡ answer_no a → Given r
      pool i a (Case.admitted w k x q) e = Given.no_0 (e ∙ q)
      pool i a (Case.two w q) e = Given.no_2 (e ∙ q)
      pool i a (Case.three w x q) e = Given.no_3 (e ∙ q)
      pool i a (Case.four w x q) e = Given.no_4 (e ∙ q)

      go : Outcome → Given r
      go (Outcome.unread e n w) = ⊎_elim Given.no_1 Given.no_9 n
      go (Outcome.judged i q a v e) = pool i a (cases (pool_of i) [] a v) e

-- ── the frames of a slice ───────────────────────────────────────────────────────

module _ (s : List ℕ) (r : ℕ) (h : Numbered s r) where
  abbrev pub Read : (Input → Type 0) → Type 0
  Read Q = ReadBy (reading s) Q

  -- 1 exactly when the first frame that is not fine is malformed or out of order
  pub bytes_1 : (r ≡ 1) ↔ First Wrong (frames_in s)
  bytes_1 = row_1 (frames_in s) (reading s) (read_as s) r h

  -- 9 exactly when it is well formed and in order, but past a limit
  pub bytes_9 : (r ≡ 9) ↔ First Past (frames_in s)
  bytes_9 = row_9 (frames_in s) (reading s) (read_as s) r h

  pub bytes_0 : (r ≡ 0) ↔ Read Has0
  bytes_0 = row_0 (frames_in s) (reading s) (read_as s) r h

  pub bytes_2 : (r ≡ 2) ↔ Read Has2
  bytes_2 = row_2 (frames_in s) (reading s) (read_as s) r h

  pub bytes_3 : (r ≡ 3) ↔ Read Has3
  bytes_3 = row_3 (frames_in s) (reading s) (read_as s) r h

  pub bytes_4 : (r ≡ 4) ↔ Read Has4
  bytes_4 = row_4 (frames_in s) (reading s) (read_as s) r h

  pub bytes-no-other : Given r
  bytes-no-other = no-other-number (frames_in s) (reading s) (read_as s) r h

-- ── the lines of a text ─────────────────────────────────────────────────────────

module _ (t : List ℕ) (r : ℕ) (h : NumberedText t r) where
  -- 1 exactly when the first line that is not fine is malformed or out of order
  pub text_1 : (r ≡ 1) ↔ First Wrong (text_frames t)
  text_1 = row_1 (text_frames t) (reading_text t) (text_as t) r h

  -- 9 exactly when it is well formed and in order, but past a limit
  pub text_9 : (r ≡ 9) ↔ First Past (text_frames t)
  text_9 = row_9 (text_frames t) (reading_text t) (text_as t) r h

  pub text_0 : (r ≡ 0) ↔ ReadBy (reading_text t) Has0
  text_0 = row_0 (text_frames t) (reading_text t) (text_as t) r h

  pub text_2 : (r ≡ 2) ↔ ReadBy (reading_text t) Has2
  text_2 = row_2 (text_frames t) (reading_text t) (text_as t) r h

  pub text_3 : (r ≡ 3) ↔ ReadBy (reading_text t) Has3
  text_3 = row_3 (text_frames t) (reading_text t) (text_as t) r h

  pub text_4 : (r ≡ 4) ↔ ReadBy (reading_text t) Has4
  text_4 = row_4 (text_frames t) (reading_text t) (text_as t) r h

  pub text-no-other : Given r
  text-no-other = no-other-number (text_frames t) (reading_text t) (text_as t) r h

-- ── ONLY ONE NUMBER FITS ────────────────────────────────────────────────────────

pub one-number-by : (x : Answer Input) (a b : ℕ) → NumberedBy x a → NumberedBy x b → a ≡ b
one-number-by x a b h k = go x refl
  where
    go : (y : Answer Input) → x ≡ y → a ≡ b
    go (done i) q =
        let u = h.judged i q in
        let v = k.judged i q in
        u.2 ∙ ap answer_no (one_answer (pool_of i) [] u.0 v.0 u.1 v.1) ∙ sym v.2
    go (refused f n) q = h.unread f n q ∙ sym (k.unread f n q)

pub one_number : (s : List ℕ) (a b : ℕ) → Numbered s a → Numbered s b → a ≡ b
one_number s = one-number-by (reading s)

pub one-number-text : (t : List ℕ) (a b : ℕ) → NumberedText t a → NumberedText t b → a ≡ b
one-number-text t = one-number-by (reading_text t)
