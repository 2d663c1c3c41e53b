-- REFUSALS 3, 5, 7 AND 8 OF REQUESTS, EACH EXACTLY WHEN its row's condition holds and no earlier one does, and 0; no other number is given.
-- In an acyclic forest, which is what admission gives of a pool.
-- Assumes nothing.
use Rattle.std.specs.Prelude.{ℕ, ◌+◌, ◌<◌, ◌≤◌, ◌≡◌, refl, Bool, false, List, ◌∷◌, ◌⊎◌, ◌↔◌, ltb}
use Rattle.std.proofs.Common.{sym, ◌∙◌, ap, subst, inl, inr, arith, ltb-true, ltb-false}
use Rattle.std.proofs.Math.Option.{some, none-ne-some}
use Rattle.meaning.specs.Refusals.{Answer, done, refused, answer_no, ◌then◌}
use Rattle.meaning.specs.Trees.{Leaf, Expression, Forest, Acyclic, nth, Each}
use Rattle.meaning.specs.Order.{Marks, in_rows, ask}
use Rattle.meaning.specs.Generation.{State, start, Request, serve, serve_all}
use Rattle.meaning.specs.Building.{segment, whole}
use Rattle.meaning.specs.Demand3.{NoResult}
use Rattle.meaning.specs.Conditions.{DoublePrime, Stepped, AsksResult, Refused3, Refused5, Refused7, Refused8, NotRefused, FirstRefused, NoneRefused, WithNext, NextAtMostOne}
use Rattle.meaning.proofs.Laws.Tests.{true-false, not-true, each_right}
use Rattle.meaning.proofs.Laws.Evaluations.{Evaluation, evaluation}
use Rattle.meaning.proofs.Laws.Serving.{Case, cases}
use Rattle.meaning.proofs.Laws.First.{first, every-answer}

beyond : (a r : ℕ) → a ≤ 1 → r < 2 → (ltb (r + a) 2 ≡ false) ↔ ((r ≡ 1) × (a ≡ 1))
beyond a r n h =
    (λ q. let k = ltb-false (r + a) 2 q in (omega arith, omega arith), λ w. let p = w.0 in let q = w.1 in not-true (ltb (r + a) 2) (λ t. let k = ltb-true (r + a) 2 t in omega arith))

-- the numbers that requests are answered
abbrev pub Numbered : Answer State → Type 0
Numbered a = (answer_no a ≡ 0) ⊎ ((answer_no a ≡ 3) ⊎ ((answer_no a ≡ 5) ⊎ ((answer_no a ≡ 7) ⊎ (answer_no a ≡ 8))))

module _ (rows : ℕ) (E : Forest) (acyclic : Acyclic E) where
  -- ── one evaluation of an expression that is there ──────────────────────────
  module _ (fused : Bool) (e r : ℕ) (x : Expression) (found : nth E e ≡ some x) (m : Marks) where
    abbrev asked_for : ℕ
    asked_for = answer_no (ask rows E fused e r m)

    abbrev Seen : Type 0
    Seen = Evaluation rows E m e r (ask rows E fused e r m)

    seen : Seen
    seen = evaluation rows E acyclic fused e r x found m

    -- 5 exactly when it reaches a leaf that reads a row that is not there
    pub ask_5 : (answer_no (ask rows E fused e r m) ≡ 5) ↔ DoublePrime rows E m e r
    ask_5 = (to seen, back seen)
      where
        to : Seen → asked_for ≡ 5 → DoublePrime rows E m e r
        to (Evaluation.accepted b q s) h = absurd (omega (arith, ap answer_no q))
        to (Evaluation.five o q d) h = d

        back : Seen → DoublePrime rows E m e r → asked_for ≡ 5
        back (Evaluation.accepted b q s) d = absurd (s d)
        back (Evaluation.five o q d) h = ap answer_no q

    -- and done otherwise
    pub ask_0 : (answer_no (ask rows E fused e r m) ≡ 0) ↔ (DoublePrime rows E m e r → ⊥)
    ask_0 = (to seen, back seen)
      where
        to : Seen → asked_for ≡ 0 → DoublePrime rows E m e r → ⊥
        to (Evaluation.accepted b q s) h = s
        to (Evaluation.five o q d) h = absurd (omega (arith, ap answer_no q))

        back : Seen → (DoublePrime rows E m e r → ⊥) → asked_for ≡ 0
        back (Evaluation.accepted b q s) h = ap answer_no q
        back (Evaluation.five o q d) h = absurd (h d)

  -- ── one request, in a context whose blocks have steps ──────────────────────
  module _ (q : Request) (st : State) (stepped : Stepped st) where
    abbrev answer : ℕ
    answer = answer_no (serve rows E q st)

    abbrev Told : Type 0
    Told = Case rows E q st (serve rows E q st)

    told : Told
    told = cases rows E acyclic q st stepped

    -- 3 exactly when its expression is not there
    pub one_3 : (answer_no (serve rows E q st) ≡ 3) ↔ Refused3 rows E q st
    one_3 = (to told, back told)
      where
        to : Told → answer ≡ 3 → Refused3 rows E q st
        to (Case.three c n) h = c
        to (Case.five c n) h = absurd (omega arith)
        to (Case.seven c n) h = absurd (omega arith)
        to (Case.eight c n) h = absurd (omega arith)
        to (Case.served a b c d n) h = absurd (omega arith)

        back : Told → Refused3 rows E q st → answer ≡ 3
        back (Case.three c n) h = n
        back (Case.five c n) h = absurd (let l = h.lost in let b = c.there in omega arith)
        back (Case.seven c n) h = absurd (let l = h.lost in let b = c.there in omega arith)
        back (Case.eight c n) h = absurd (let l = h.lost in let b = c.there in omega arith)
        back (Case.served a b c d n) h = absurd (a h)

    -- 5 exactly when it is there, has no mark, and its evaluation reaches a leaf that reads a row that is not there
    pub one_5 : (answer_no (serve rows E q st) ≡ 5) ↔ Refused5 rows E q st
    one_5 = (to told, back told)
      where
        to : Told → answer ≡ 5 → Refused5 rows E q st
        to (Case.three c n) h = absurd (omega arith)
        to (Case.five c n) h = c
        to (Case.seven c n) h = absurd (omega arith)
        to (Case.eight c n) h = absurd (omega arith)
        to (Case.served a b c d n) h = absurd (omega arith)

        back : Told → Refused5 rows E q st → answer ≡ 5
        back (Case.three c n) h = absurd (let l = c.lost in let b = h.there in omega arith)
        back (Case.five c n) h = n
        back (Case.seven c n) h = absurd (c.single h.double)
        back (Case.eight c n) h = absurd (true-false c.marked h.unmarked)
        back (Case.served a b c d n) h = absurd (b h)

    -- 7 exactly when it is there, has no mark, its evaluation reads rows that are there, a result is asked and the request is primed
    pub one_7 : (answer_no (serve rows E q st) ≡ 7) ↔ Refused7 rows E q st
    one_7 = (to told, back told)
      where
        to : Told → answer ≡ 7 → Refused7 rows E q st
        to (Case.three c n) h = absurd (omega arith)
        to (Case.five c n) h = absurd (omega arith)
        to (Case.seven c n) h = c
        to (Case.eight c n) h = absurd (omega arith)
        to (Case.served a b c d n) h = absurd (omega arith)

        back : Told → Refused7 rows E q st → answer ≡ 7
        back (Case.three c n) h = absurd (let l = c.lost in let b = h.there in omega arith)
        back (Case.five c n) h = absurd (h.single c.double)
        back (Case.seven c n) h = n
        back (Case.eight c n) h = absurd (true-false c.marked h.unmarked)
        back (Case.served a b c d n) h = absurd (c h)

    -- 8 exactly when it is there and marked, a result is asked, and no block of it stands
    pub one_8 : (answer_no (serve rows E q st) ≡ 8) ↔ Refused8 rows E q st
    one_8 = (to told, back told)
      where
        to : Told → answer ≡ 8 → Refused8 rows E q st
        to (Case.three c n) h = absurd (omega arith)
        to (Case.five c n) h = absurd (omega arith)
        to (Case.seven c n) h = absurd (omega arith)
        to (Case.eight c n) h = c
        to (Case.served a b c d n) h = absurd (omega arith)

        back : Told → Refused8 rows E q st → answer ≡ 8
        back (Case.three c n) h = absurd (let l = c.lost in let b = h.there in omega arith)
        back (Case.five c n) h = absurd (true-false h.marked c.unmarked)
        back (Case.seven c n) h = absurd (true-false h.marked c.unmarked)
        back (Case.eight c n) h = n
        back (Case.served a b c d n) h = absurd (d h)

    -- 0 otherwise
    pub one_0 : (answer_no (serve rows E q st) ≡ 0) ↔ NotRefused rows E q st
    one_0 = (λ h. (λ c. omega (arith, one_3.1 c), λ c. omega (arith, one_5.1 c), λ c. omega (arith, one_7.1 c), λ c. omega (arith, one_8.1 c)), back told)
      where
        back : Told → NotRefused rows E q st → answer ≡ 0
        back (Case.three c n) h = absurd (h.0 c)
        back (Case.five c n) h = absurd (h.1 c)
        back (Case.seven c n) h = absurd (h.2 c)
        back (Case.eight c n) h = absurd (h.3 c)
        back (Case.served a b c d n) h = n

    -- and no other number
    pub one_only : Numbered (serve rows E q st)
    one_only = go told
      where
        go : Told → Numbered (serve rows E q st)
        go (Case.three c n) = inr (inl n)
        go (Case.five c n) = inr (inr (inl n))
        go (Case.seven c n) = inr (inr (inr (inl n)))
        go (Case.eight c n) = inr (inr (inr (inr n)))
        go (Case.served a b c d n) = inl n

  -- ── a list of requests, in a context whose blocks have steps ───────────────
  module _ (qs : List Request) (st : State) (stepped : Stepped st) where
    pub all_3 : (answer_no (serve_all rows E qs st) ≡ 3) ↔ FirstRefused rows E (Refused3 rows E) qs st
    all_3 = first rows E 3 (λ z. omega arith) (Refused3 rows E) one_3 qs st stepped

    pub all_5 : (answer_no (serve_all rows E qs st) ≡ 5) ↔ FirstRefused rows E (Refused5 rows E) qs st
    all_5 = first rows E 5 (λ z. omega arith) (Refused5 rows E) one_5 qs st stepped

    pub all_7 : (answer_no (serve_all rows E qs st) ≡ 7) ↔ FirstRefused rows E (Refused7 rows E) qs st
    all_7 = first rows E 7 (λ z. omega arith) (Refused7 rows E) one_7 qs st stepped

    pub all_8 : (answer_no (serve_all rows E qs st) ≡ 8) ↔ FirstRefused rows E (Refused8 rows E) qs st
    all_8 = first rows E 8 (λ z. omega arith) (Refused8 rows E) one_8 qs st stepped

    -- no other number
    pub all-only : Numbered (serve_all rows E qs st)
    all-only = every-answer rows E Numbered (λ s. inl refl) one_only qs st stepped

    -- 0 where no request is refused
    pub all_0 : (answer_no (serve_all rows E qs st) ≡ 0) ↔ NoneRefused rows E qs st
    all_0 = (λ h. (λ f. omega (arith, all_3.1 f), λ f. omega (arith, all_5.1 f), λ f. omega (arith, all_7.1 f), λ f. omega (arith, all_8.1 f)), back all-only)
      where
        back : Numbered (serve_all rows E qs st) → NoneRefused rows E qs st → answer_no (serve_all rows E qs st) ≡ 0
        back (inl n) h = n
        back (inr (inl n)) h = absurd (h.0 (all_3.0 n))
        back (inr (inr (inl n))) h = absurd (h.1 (all_5.0 n))
        back (inr (inr (inr (inl n)))) h = absurd (h.2 (all_7.0 n))
        back (inr (inr (inr (inr n)))) h = absurd (h.3 (all_8.0 n))

    -- requests that ask for no result: 3 and 5 alone
    pub plain-only : Each NoResult qs → (answer_no (serve_all rows E qs st) ≡ 0) ⊎ ((answer_no (serve_all rows E qs st) ≡ 3) ⊎ (answer_no (serve_all rows E qs st) ≡ 5))
    plain-only plain = go all-only
      where
        asks_none : (C : Request → State → Type 0) → ((q : Request) (s : State) → C q s → AsksResult q) → FirstRefused rows E C qs st → ⊥
        asks_none C asks f =
            let w = asks f.request f.state f.meets in
            let n = (each_right NoResult f.before (f.request ∷ f.after) (subst (Each NoResult) f.splits plain)).0 in
            none-ne-some w.0 (sym n ∙ w.1)

        go :
            Numbered (serve_all rows E qs st) →
            (answer_no (serve_all rows E qs st) ≡ 0) ⊎ ((answer_no (serve_all rows E qs st) ≡ 3) ⊎ (answer_no (serve_all rows E qs st) ≡ 5))
        go (inl n) = inl n
        go (inr (inl n)) = inr (inl n)
        go (inr (inr (inl n))) = inr (inr n)
        go (inr (inr (inr (inl n)))) = absurd (asks_none (Refused7 rows E) (λ q s c. c.asks) (all_7.0 n))
        go (inr (inr (inr (inr n)))) = absurd (asks_none (Refused8 rows E) (λ q s c. c.asks) (all_8.0 n))

-- ── the whole run, and document 01's two rows ────────────────────────────────
-- a run's number is that of its requests on a fresh context
pub whole-number : (rows : ℕ) (E : Forest) (qs : List Request) → answer_no (whole rows E qs) ≡ answer_no (serve_all rows E qs start)
whole-number rows E qs = go (serve_all rows E qs start)
  where
    go : (a : Answer State) → answer_no (a then λ st. done (segment E st)) ≡ answer_no a
    go (done st) = refl
    go (refused r n) = refl

-- WITH TWO ROWS a leaf reads a row that is not there exactly when it is a cm, const, exp or q leaf with next, and the evaluation is primed
pub two-rows : (l : Leaf) (r : ℕ) → NextAtMostOne l → r < 2 → (in_rows 2 l r ≡ false) ↔ ((r ≡ 1) × WithNext l)
two-rows (Leaf.cell k i a) r n h = beyond a r n h
two-rows (Leaf.exp i a) r n h = beyond a r n h
two-rows (Leaf.number l) r n h = (λ q. absurd (true-false refl q), λ w. absurd w.1)
two-rows (Leaf.flat k i) r n h = (λ q. absurd (true-false refl q), λ w. absurd w.1)
two-rows (Leaf.x k) r n h = (λ q. absurd (true-false refl q), λ w. absurd w.1)
