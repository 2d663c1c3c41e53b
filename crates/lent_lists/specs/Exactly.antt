-- EXACTLY WHEN A WALK OVER RECORDS MEETS NOTHING, 10 AND 3, by what it asks of a reference.
-- Assumes nothing.
use Prim.Native.Nat.{ℕ, zero, suc}
use Rattle.std.specs.Prelude.{◌≡◌, Bool, true, false, ◌⊎◌, ◌↔◌, ltb, leb}
use Rattle.std.proofs.Math.Path.{refl, sym, ap}
use Rattle.std.proofs.Common.{◌∙◌, inl, inr, arith}
use mathlib.Core.List.{List, [], ◌∷◌}
use borrow.Author.Tests.{lt-ltb, le-leb, leb-true}
use Rattle.kinds.specs.StepOps.{is_step, sources_needed}
use Rattle.kinds.specs.declared.reference.Reference.{Reference}
use Rattle.kinds.specs.declared.step.Step.{Step}
use Rattle.meaning.specs.Trees.{Each, up_to}
use Rattle.meaning.proofs.Laws.Tests.{true-false, and_left, and_right, each_map}
use Rattle.lists.specs.Records.{counted_in}
use Rattle.lent_lists.specs.Verdicts.{Verdict, fine, malformed, not_there, no_rule, full, verdict_no, first_of, only}
use Rattle.lent_lists.specs.Records.{runs}
use Rattle.lent_lists.specs.Walks.{walked, used_verdict, record_verdict}
use Rattle.lent_lists.specs.Conditions.{First, references_of, HasStep, NoStep, RecordRuled, ByReference, RecordNoRule}
use Rattle.lent_lists.specs.Laws.Verdicts.{first-append, first_fine}
use Rattle.lent_lists.specs.Laws.Walks.{ruled-append}

-- ---- verdicts

pub not-fine-rule : no_rule ≡ fine → ⊥
not-fine-rule h = let z : ◌≡◌ {A = ℕ} 10 0 = ap verdict_no h in omega arith

pub not-fine-there : not_there ≡ fine → ⊥
not-fine-there h = let z : ◌≡◌ {A = ℕ} 3 0 = ap verdict_no h in omega arith

pub not-fine-full : full ≡ fine → ⊥
not-fine-full h = let z : ◌≡◌ {A = ℕ} 9 0 = ap verdict_no h in omega arith

pub rule-is-not-there : no_rule ≡ not_there → ⊥
rule-is-not-there h = let z : ◌≡◌ {A = ℕ} 10 3 = ap verdict_no h in omega arith

-- what the first of two says
pub first-cases : (v w k : Verdict) → first_of v w ≡ k → ((v ≡ fine) × (w ≡ k)) ⊎ (v ≡ k)
first-cases fine w k h = inl (refl, h)
first-cases malformed w k h = inr h
first-cases not_there w k h = inr h
first-cases no_rule w k h = inr h
first-cases full w k h = inr h

pub both_fine : (v w : Verdict) → first_of v w ≡ fine → (v ≡ fine) × (w ≡ fine)
both_fine fine w h = (refl, h)
both_fine malformed w h = absurd (let z : ◌≡◌ {A = ℕ} 1 0 = ap verdict_no h in omega arith)
both_fine not_there w h = absurd (not-fine-there h)
both_fine no_rule w h = absurd (not-fine-rule h)
both_fine full w h = absurd (not-fine-full h)

pub stays : (v w k : Verdict) → (k ≡ fine → ⊥) → v ≡ k → first_of v w ≡ k
stays fine w k n h = absurd (n (sym h))
stays malformed w k n h = h
stays not_there w k n h = h
stays no_rule w k n h = h
stays full w k n h = h

-- a test that is refused in one way
pub only-fine : (b : Bool) (v : Verdict) → (v ≡ fine → ⊥) → only b v ≡ fine → b ≡ true
only-fine true v n h = refl
only-fine false v n h = absurd (n h)

pub only_it : (b : Bool) (v : Verdict) → (v ≡ fine → ⊥) → only b v ≡ v → b ≡ false
only_it true v n h = absurd (n (sym h))
only_it false v n h = refl

pub only-other : (b : Bool) (v w : Verdict) → (w ≡ fine → ⊥) → (v ≡ w → ⊥) → only b v ≡ w → ⊥
only-other true v w n m h = n (sym h)
only-other false v w n m h = m h

-- ---- a walk: the first refusal of a list

-- weaker conditions on those before and on the first
pub first_so : {A : Type 0} {P P' Q Q' : A → Type 0} {xs : List A} → ((x : A) → P x → P' x) → ((x : A) → Q x → Q' x) → First P Q xs → First P' Q' xs
first_so {P = P} {P' = P'} f g r = record {
  before = r.before;
  this = r.this;
  after = r.after;
  splits = r.splits;
  fine_before = each_map P P' f r.before r.fine_before;
  it_meets = g r.this r.it_meets;
}

-- P says when f is fine
module _ {A : Type 0} (f : A → Verdict) (P : A → Type 0) (is-fine : (x : A) → (f x ≡ fine) ↔ P x) where
  fine-all : (xs : List A) → Each P xs → walked f xs ≡ fine
  unfolding walked
  fine-all [] h = refl
  fine-all (x ∷ xs) h = rw ((is-fine x).1 h.0) (fine-all xs h.1)

  all_fine : (xs : List A) → walked f xs ≡ fine → Each P xs
  unfolding walked
  all_fine [] h = tt
  all_fine (x ∷ xs) h = let w = both_fine (f x) (walked f xs) h in ((is-fine x).0 w.0, all_fine xs w.1)

  pub walk_fine : (xs : List A) → (walked f xs ≡ fine) ↔ Each P xs
  walk_fine xs = (all_fine xs, fine-all xs)

  -- and Q when it is k
  module _ (k : Verdict) (n : k ≡ fine → ⊥) (Q : A → Type 0) (is-k : (x : A) → (f x ≡ k) ↔ Q x) where
    walk_first : (xs : List A) → walked f xs ≡ k → First P Q xs
    unfolding walked
    walk_first [] h = absurd (n (sym h))
    walk_first (x ∷ xs) h = go (first-cases (f x) (walked f xs) k h) (walk_first xs)
      where
        go : ((f x ≡ fine) × (walked f xs ≡ k)) ⊎ (f x ≡ k) → (walked f xs ≡ k → First P Q xs) → First P Q (x ∷ xs)
        go (inl w) ih =
            let r = ih w.1 in
            record { before = x ∷ r.before; this = r.this; after = r.after; splits = ap (λ l. x ∷ l) r.splits; fine_before = ((is-fine x).0 w.0, r.fine_before); it_meets = r.it_meets }
        go (inr w) ih = record { before = []; this = x; after = xs; splits = refl; fine_before = tt; it_meets = (is-k x).0 w }

    first_walk : (xs : List A) → First P Q xs → walked f xs ≡ k
    unfolding walked
    first_walk xs r =
        rw (r.splits, ruled-append f r.before (r.this ∷ r.after), fine-all r.before r.fine_before)
        (stays (f r.this) (walked f r.after) k n ((is-k r.this).1 r.it_meets))

    pub walk_is : (xs : List A) → (walked f xs ≡ k) ↔ First P Q xs
    walk_is xs = (walk_first xs, first_walk xs)

-- ---- a record

pub has-step : (x : Step) → (runs x ≡ true) ↔ HasStep x
unfolding runs
has-step x = (
  λ h. (and_left (is_step x.op) (leb (sources_needed x.op) x.count) h, leb-true _ _ (and_right (is_step x.op) (leb (sources_needed x.op) x.count) h)),
  λ h. rw (h.0, le-leb (sources_needed x.op) x.count h.1),
)

module _ (g : Reference → Verdict) where
  abbrev W : List Reference → Verdict
  W rs = walked g rs

  up_to-none : (c : ℕ) → up_to {A = Reference} c [] ≡ []
  up_to-none zero = refl
  up_to-none (suc c) = refl

  counted-walked : (c : ℕ) (a b d : Reference) (v : Verdict) →
      first_of (used_verdict g (ltb 0 c) a) (first_of (used_verdict g (ltb 1 c) b) (first_of (used_verdict g (ltb 2 c) d) v)) ≡ first_of (W (up_to c (a ∷ b ∷ d ∷ []))) v
  unfolding used_verdict walked
  counted-walked zero a b d v = refl
  counted-walked (suc zero) a b d v = rw (first_fine (g a))
  counted-walked (suc (suc zero)) a b d v = rw (first_fine (g b)) (sym (first-append (g a) (g b) v))
  counted-walked (suc (suc (suc c))) a b d v =
      rw (lt-ltb 0 (suc (suc (suc c))) (omega arith), lt-ltb 1 (suc (suc (suc c))) (omega arith), lt-ltb 2 (suc (suc (suc c))) (omega arith), up_to-none c, first_fine (g d))
      (sym (first-append (g a) (first_of (g b) (g d)) v ∙ ap (first_of (g a)) (first-append (g b) (g d) v)))

  record-walked : (x : Step) → record_verdict g x ≡ first_of (only (runs x) no_rule) (W (references_of x))
  unfolding record_verdict walked
  record-walked x =
      ap (first_of (only (runs x) no_rule))
      (counted-walked x.count x.s0 x.s1 x.s2 (g x.dest)
      ∙ ap (first_of (W (counted_in x))) (sym (first_fine (g x.dest)))
      ∙ sym (ruled-append g (counted_in x) (x.dest ∷ [])))

  -- where each of the three is told of a reference
  module _ (Ruled NoRule NotThere : Reference → Type 0) (is-0 : (r : Reference) → (g r ≡ fine) ↔ Ruled r) (is-10 : (r : Reference) → (g r ≡ no_rule) ↔ NoRule r) (is-3 : (r : Reference) → (g r ≡ not_there) ↔ NotThere r) where
    walks_10 : (rs : List Reference) → (W rs ≡ no_rule) ↔ First Ruled NoRule rs
    walks_10 = walk_is g Ruled is-0 no_rule not-fine-rule NoRule is-10

    walks_3 : (rs : List Reference) → (W rs ≡ not_there) ↔ First Ruled NotThere rs
    walks_3 = walk_is g Ruled is-0 not_there not-fine-there NotThere is-3

    record_10 : (x : Step) → (record_verdict g x ≡ no_rule) ↔ RecordNoRule Ruled NoRule x
    record_10 x = (λ h. to (runs x) refl (sym (record-walked x) ∙ h), from)
      where
        to : (b : Bool) → runs x ≡ b → first_of (only b no_rule) (W (references_of x)) ≡ no_rule → RecordNoRule Ruled NoRule x
        to true e h = inr ((has-step x).0 e, (walks_10 (references_of x)).0 h)
        to false e h = inl (λ s. true-false ((has-step x).1 s) e)

        stepless : NoStep x → (b : Bool) → runs x ≡ b → first_of (only b no_rule) (W (references_of x)) ≡ no_rule
        stepless n true e = absurd (n ((has-step x).0 e))
        stepless n false e = refl

        from : RecordNoRule Ruled NoRule x → record_verdict g x ≡ no_rule
        from (inl n) = record-walked x ∙ stepless n (runs x) refl
        from (inr w) = record-walked x ∙ rw ((has-step x).1 w.0) ((walks_10 (references_of x)).1 w.1)

    record_3 : (x : Step) → (record_verdict g x ≡ not_there) ↔ ByReference Ruled NotThere x
    record_3 x = (λ h. to (runs x) refl (sym (record-walked x) ∙ h), λ w. record-walked x ∙ rw ((has-step x).1 w.0) ((walks_3 (references_of x)).1 w.1))
      where
        to : (b : Bool) → runs x ≡ b → first_of (only b no_rule) (W (references_of x)) ≡ not_there → ByReference Ruled NotThere x
        to true e h = ((has-step x).0 e, (walks_3 (references_of x)).0 h)
        to false e h = absurd (rule-is-not-there h)

    record_0 : (x : Step) → (record_verdict g x ≡ fine) ↔ RecordRuled Ruled x
    record_0 x = (
      λ h. to (runs x) refl (sym (record-walked x) ∙ h),
      λ w. record-walked x ∙ rw ((has-step x).1 w.0) ((walk_fine g Ruled is-0 (references_of x)).1 w.1),
    )
      where
        to : (b : Bool) → runs x ≡ b → first_of (only b no_rule) (W (references_of x)) ≡ fine → RecordRuled Ruled x
        to true e h = ((has-step x).0 e, (walk_fine g Ruled is-0 (references_of x)).0 h)
        to false e h = absurd (not-fine-rule h)

    -- ---- records
    pub records_0 : (xs : List Step) → (walked (record_verdict g) xs ≡ fine) ↔ Each (RecordRuled Ruled) xs
    records_0 = walk_fine (record_verdict g) (RecordRuled Ruled) record_0

    pub records_10 : (xs : List Step) → (walked (record_verdict g) xs ≡ no_rule) ↔ First (RecordRuled Ruled) (RecordNoRule Ruled NoRule) xs
    records_10 = walk_is (record_verdict g) (RecordRuled Ruled) record_0 no_rule not-fine-rule (RecordNoRule Ruled NoRule) record_10

    pub records_3 : (xs : List Step) → (walked (record_verdict g) xs ≡ not_there) ↔ First (RecordRuled Ruled) (ByReference Ruled NotThere) xs
    records_3 = walk_is (record_verdict g) (RecordRuled Ruled) record_0 not_there not-fine-there (ByReference Ruled NotThere) record_3
