-- Laws of the walk over records: what each way through the code answers, whatever is asked of a reference, and which verdicts it has.
-- Assumes nothing.
use Rattle.std.specs.Prelude.{ℕ, suc, ◌+◌, ◌*◌, ◌-◌, ◌<◌, ◌≤◌, ◌≡◌, refl, Bool, drop, ltb}
use Rattle.std.proofs.Math.Path.{sym}
use Rattle.std.proofs.Common.{◌∙◌, ap, add-one, arith}
use Rattle.std.proofs.Math.Bool.{true, false}
use mathlib.Core.List.{List, [], ◌∷◌, ◌++◌}
use Rattle.kinds.specs.Steps.{step_size, step_at, steps_of, steps-none, steps-more, steps-split}
use Rattle.kinds.specs.declared.reference.Reference.{Reference}
use Rattle.kinds.specs.declared.step.Step.{Step}
use Rattle.lent_lists.specs.Verdicts.{Verdict, verdict_no, first_of, fine, malformed, not_there, no_rule, full, only}
use Rattle.lists.specs.Records.{record_count, records_in}
use Rattle.lent_lists.specs.Records.{segment_in, runs}
use Rattle.lent_lists.specs.Walks.{walked, used_verdict, record_verdict}
use Rattle.lent_lists.specs.Laws.Verdicts.{goes_on, stops, first-append, first_fine}

-- ---- a record, whatever is asked of a reference

module _ (g : Reference → Verdict) where
  pub used-ruled : (u : Bool) (r : Reference) (n : ℕ) → u ≡ true → n ≡ verdict_no (g r) → n ≡ verdict_no (used_verdict g u r)
  unfolding used_verdict
  used-ruled u r n h e = rw h e

  pub unused-ruled : (u : Bool) (r : Reference) → u ≡ false → 0 ≡ verdict_no (used_verdict g u r)
  unfolding used_verdict
  unused-ruled u r h = rw h

  -- ---- a record
  pub step_ruleless : (x : Step) (b : Bool) → b ≡ runs x → b ≡ false → 10 ≡ verdict_no (record_verdict g x)
  unfolding record_verdict
  step_ruleless x b e h =
      let z : runs x ≡ false = sym e ∙ h in
      rw z

  module _ (x : Step) (b : Bool) (e : b ≡ runs x) (h : b ≡ true) (n : ℕ) (en : n ≡ verdict_no (used_verdict g (ltb 0 x.count) x.s0)) where
    abbrev A : Verdict
    A = used_verdict g (ltb 0 x.count) x.s0

    abbrev B : Verdict
    B = used_verdict g (ltb 1 x.count) x.s1

    abbrev C : Verdict
    C = used_verdict g (ltb 2 x.count) x.s2

    abbrev D : Verdict
    D = g x.dest

    opened : record_verdict g x ≡ first_of A (first_of B (first_of C D))
    unfolding record_verdict
    opened =
        let z : runs x ≡ true = sym e ∙ h in
        rw z

    pub first_refused : (n ≡ 0 → ⊥) → n ≡ verdict_no (record_verdict g x)
    first_refused k = en ∙ sym (ap verdict_no (opened ∙ stops A (first_of B (first_of C D)) (λ q. k (en ∙ q))))

    module _ (zn : n ≡ 0) (m : ℕ) (em : m ≡ verdict_no (used_verdict g (ltb 1 x.count) x.s1)) where
      after_first : record_verdict g x ≡ first_of B (first_of C D)
      after_first = opened ∙ goes_on A (first_of B (first_of C D)) (sym en ∙ zn)

      pub second_refused : (m ≡ 0 → ⊥) → m ≡ verdict_no (record_verdict g x)
      second_refused k = em ∙ sym (ap verdict_no (after_first ∙ stops B (first_of C D) (λ q. k (em ∙ q))))

      module _ (zm : m ≡ 0) (l : ℕ) (el : l ≡ verdict_no (used_verdict g (ltb 2 x.count) x.s2)) where
        after-second : record_verdict g x ≡ first_of C D
        after-second = after_first ∙ goes_on B (first_of C D) (sym em ∙ zm)

        pub third-refused : (l ≡ 0 → ⊥) → l ≡ verdict_no (record_verdict g x)
        third-refused k = el ∙ sym (ap verdict_no (after-second ∙ stops C D (λ q. k (el ∙ q))))

        pub dest-decides : l ≡ 0 → (d : ℕ) → d ≡ verdict_no (g x.dest) → d ≡ verdict_no (record_verdict g x)
        dest-decides zl d ed = ed ∙ sym (ap verdict_no (after-second ∙ goes_on C D (sym el ∙ zl)))

-- ---- lists, whatever is asked of what they list

pub ruled-append : {A : Type 0} (f : A → Verdict) (xs ys : List A) → walked f (xs ++ ys) ≡ first_of (walked f xs) (walked f ys)
unfolding walked
ruled-append f [] ys = refl
ruled-append f (x ∷ xs) ys =
    ap (first_of (f x)) (ruled-append f xs ys)
    ∙ sym (first-append (f x) (walked f xs) (walked f ys))

module _ (f : Step → Verdict) where
  pub ruled-more : (l : List ℕ) (n : ℕ) → walked f (steps_of l (suc n)) ≡ first_of (walked f (steps_of l n)) (f (step_at l (step_size * n)))
  unfolding walked
  ruled-more l n = rw (steps-more l n, ruled-append f (steps_of l n), first_fine (f (step_at l (step_size * n))))

  pub ruled-begin : (l : List ℕ) → verdict_no (walked f (steps_of l 0)) ≡ 0
  unfolding walked
  ruled-begin l = rw (steps-none l)

  module _ (l : List ℕ) (k : ℕ) (h : verdict_no (walked f (steps_of l k)) ≡ 0) (x : Step) (e : x ≡ step_at l (step_size * k)) (n : ℕ) (q : n ≡ verdict_no (f x)) where
    at-k : n ≡ verdict_no (walked f (steps_of l (suc k)))
    at-k = q ∙ rw (e, ruled-more l k, goes_on (walked f (steps_of l k)) (f (step_at l (step_size * k))) h)

    pub ruled-next : n ≡ 0 → verdict_no (walked f (steps_of l (k + 1))) ≡ 0
    ruled-next z = rw (add-one k) (sym at-k ∙ z)

    later : (d : ℕ) → (n ≡ 0 → ⊥) → n ≡ verdict_no (walked f (steps_of l (suc k + d)))
    later d z =
        let xs = steps_of l (suc k) in
        let ys = steps_of (drop (step_size * suc k) l) d in
        at-k ∙ sym (ap verdict_no (ap (walked f) (steps-split l (suc k) d) ∙ ruled-append f xs ys ∙ stops (walked f xs) (walked f ys) (λ w. z (at-k ∙ w))))

    pub ruled-stop : k < record_count l → (n ≡ 0 → ⊥) → n ≡ verdict_no (walked f (records_in l))
    ruled-stop g z =
        let r : suc k + (record_count l - suc k) ≡ record_count l = omega arith in
        later (record_count l - suc k) z ∙ ap (λ c. verdict_no (walked f (steps_of l c))) r

  pub ruled-end : (l : List ℕ) (k : ℕ) → verdict_no (walked f (steps_of l k)) ≡ 0 → k ≤ record_count l → record_count l ≤ k → 0 ≡ verdict_no (walked f (records_in l))
  ruled-end l k h a b =
      let n : record_count l ≡ k = omega arith in
      rw n (sym h)

  -- ---- three lists
  module _ (first i last : List ℕ) (n : ℕ) (en : n ≡ verdict_no (walked f (records_in first))) where
    all-is : walked f (segment_in first i last) ≡ first_of (walked f (records_in first)) (first_of (walked f (records_in i)) (walked f (records_in last)))
    all-is = ruled-append f (records_in first) (records_in i ++ records_in last) ∙ ap (first_of (walked f (records_in first))) (ruled-append f (records_in i) (records_in last))

    pub in_first : (n ≡ 0 → ⊥) → n ≡ verdict_no (walked f (segment_in first i last))
    in_first z = en ∙ sym (ap verdict_no (all-is ∙ stops (walked f (records_in first)) (first_of (walked f (records_in i)) (walked f (records_in last))) (λ w. z (en ∙ w))))

    module _ (zn : n ≡ 0) (m : ℕ) (em : m ≡ verdict_no (walked f (records_in i))) where
      then_is : walked f (segment_in first i last) ≡ first_of (walked f (records_in i)) (walked f (records_in last))
      then_is = all-is ∙ goes_on (walked f (records_in first)) (first_of (walked f (records_in i)) (walked f (records_in last))) (sym en ∙ zn)

      pub in_i : (m ≡ 0 → ⊥) → m ≡ verdict_no (walked f (segment_in first i last))
      in_i z = em ∙ sym (ap verdict_no (then_is ∙ stops (walked f (records_in i)) (walked f (records_in last)) (λ w. z (em ∙ w))))

      pub in_last : m ≡ 0 → (l : ℕ) → l ≡ verdict_no (walked f (records_in last)) → l ≡ verdict_no (walked f (segment_in first i last))
      in_last zm l el = el ∙ sym (ap verdict_no (then_is ∙ goes_on (walked f (records_in i)) (walked f (records_in last)) (sym em ∙ zm)))

-- ---- which verdicts a walk has

-- a walk over records meets 3 and 10 alone
abbrev pub Met : Verdict → Type 0
Met fine = Unit {0}
Met malformed = ⊥
Met not_there = Unit {0}
Met no_rule = Unit {0}
Met full = ⊥

first-met : (v w : Verdict) → Met v → Met w → Met (first_of v w)
first-met fine w h k = k
first-met malformed w h k = h
first-met not_there w h k = h
first-met no_rule w h k = h
first-met full w h k = h

pub only-met : (b : Bool) (v : Verdict) → Met v → Met (only b v)
only-met true v h = tt
only-met false v h = h

module _ (g : Reference → Verdict) (met : (r : Reference) → Met (g r)) where
  used-met : (u : Bool) (r : Reference) → Met (used_verdict g u r)
  unfolding used_verdict
  used-met true r = met r
  used-met false r = tt

  record-met : (x : Step) → Met (record_verdict g x)
  unfolding record_verdict
  record-met x =
      let a = used_verdict g (ltb 0 x.count) x.s0 in
      let b = used_verdict g (ltb 1 x.count) x.s1 in
      let c = used_verdict g (ltb 2 x.count) x.s2 in
      let d = g x.dest in
      let h₂ = first-met c d (used-met (ltb 2 x.count) x.s2) (met x.dest) in
      let h₁ = first-met b (first_of c d) (used-met (ltb 1 x.count) x.s1) h₂ in
      let h₀ = first-met a (first_of b (first_of c d)) (used-met (ltb 0 x.count) x.s0) h₁ in
      first-met (only (runs x) no_rule) (first_of a (first_of b (first_of c d))) (only-met (runs x) no_rule tt) h₀

  pub walk-met : (xs : List Step) → Met (walked (record_verdict g) xs)
  unfolding walked
  walk-met [] = tt
  walk-met (x ∷ xs) = first-met (record_verdict g x) (walked (record_verdict g) xs) (record-met x) (walk-met xs)

pub is-malformed : (v : Verdict) → verdict_no v ≡ 1 → v ≡ malformed
is-malformed fine h = absurd (omega arith)
is-malformed malformed h = refl
is-malformed not_there h = absurd (omega arith)
is-malformed no_rule h = absurd (omega arith)
is-malformed full h = absurd (omega arith)

pub is-not-there : (v : Verdict) → verdict_no v ≡ 3 → v ≡ not_there
is-not-there fine h = absurd (omega arith)
is-not-there malformed h = absurd (omega arith)
is-not-there not_there h = refl
is-not-there no_rule h = absurd (omega arith)
is-not-there full h = absurd (omega arith)

pub is-no-rule : (v : Verdict) → Met v → (verdict_no v ≡ 3 → ⊥) → (verdict_no v ≡ 0 → ⊥) → v ≡ no_rule
is-no-rule fine n b c = absurd (c refl)
is-no-rule malformed n b c = absurd n
is-no-rule not_there n b c = absurd (b refl)
is-no-rule no_rule n b c = refl
is-no-rule full n b c = absurd n
