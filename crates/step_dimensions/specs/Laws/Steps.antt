-- A step with its dimensions: each way through the code.
-- Assumes nothing.
use Prim.Native.Nat.{ℕ, zero, suc, max, ◌≤◌, ◌<◌}
use Rattle.std.specs.Prelude.{◌≡◌, refl, Bool, cond, List, [], ◌∷◌, set, ltb}
use Rattle.std.proofs.Math.Path.{sym}
use Rattle.std.proofs.Common.{◌∙◌, ap}
use Rattle.std.proofs.Math.Bool.{true, false}
use Rattle.std.proofs.Math.Option.{none}
use native.Mathlib.Omega.{arith}
use borrow.Author.Tests.{ne_eqb, lt-ltb, le-ltb}
use Rattle.kinds.specs.KindBytes as kind
use Rattle.kinds.specs.KindLaws.{sources-small}
use Rattle.kinds.specs.Range.{within}
use Rattle.kinds.specs.StepOps.{sources_needed}
use Rattle.kinds.specs.declared.reference.Reference.{Reference}
use Rattle.kinds.specs.declared.step.Step.{Step}
use Rattle.meaning.specs.Refusals.{Refusal, Answer, done, refused, ◌then◌}
use Rattle.meaning.specs.Trees.{up_to}
use Rattle.step_dimensions.specs.Rules.{rule_no, is_destination}
use Rattle.step_dimensions.specs.StepDimensions.{Given, source_dim, source_dims, largest, sized_step, nothing, met, sources_in, step_with, noted}
use Rattle.step_dimensions.specs.Steps.{slot_dim, largest_of, built_step, ended_by, third_by, second_by, step_by}

-- ---- the largest

module _ (n a b c : ℕ) where
  pub largest-one : n ≡ 1 → a ≡ largest_of n a b c
  unfolding largest_of
  largest-one e = rw e

  pub largest-two : n ≡ 2 → max a b ≡ largest_of n a b c
  unfolding largest_of
  largest-two e = rw e

  pub largest-three : (n ≡ 1 → ⊥) → (n ≡ 2 → ⊥) → (m : ℕ) → m ≡ max b c → max a m ≡ largest_of n a b c
  unfolding largest_of
  largest-three h g m e = rw e (simp (ne_eqb n 1 h, ne_eqb n 2 g))

-- ---- by the number of sources that a step needs

module _ (s : Step) where
  built-one : (a : ℕ) → built_step 1 s a s.s1.dim s.s2.dim ≡ sized_step s (a ∷ [])
  unfolding largest_of largest
  built-one a =
      let e : max a 0 ≡ a = omega arith in
      rw e

  built-two : (a b : ℕ) → built_step 2 s a b s.s2.dim ≡ sized_step s (a ∷ b ∷ [])
  unfolding largest_of largest
  built-two a b =
      let e : max b 0 ≡ b = omega arith in
      rw e

  built-three : (a b c : ℕ) → built_step 3 s a b c ≡ sized_step s (a ∷ b ∷ c ∷ [])
  unfolding largest_of largest
  built-three a b c =
      let e : max c 0 ≡ c = omega arith in
      rw e

  module _ (t : Bool) where
    abbrev ends : Step → Answer Step
    ends y = cond t (done y) (refused Refusal.no_rule none)

    by_one : (A : Answer ℕ) → (A then λ a. ends (built_step 1 s a s.s1.dim s.s2.dim)) ≡ ((A then λ a. done (a ∷ [])) then λ ds. ends (sized_step s ds))
    by_one (done a) = ap ends (built-one a)
    by_one (refused r n) = refl

    by_two : (A B : Answer ℕ)
        → (A then λ a. B then λ b. ends (built_step 2 s a b s.s2.dim))
        ≡ ((A then λ a. (B then λ b. done (b ∷ [])) then λ ds. done (a ∷ ds)) then λ ds. ends (sized_step s ds))
    by_two (done a) (done b) = ap ends (built-two a b)
    by_two (done a) (refused r n) = refl
    by_two (refused r n) B = refl

    by_three : (A B C : Answer ℕ)
        → (A then λ a. B then λ b. C then λ c. ends (built_step 3 s a b c))
        ≡ ((A then λ a. (B then λ b. (C then λ c. done (c ∷ [])) then λ ds. done (b ∷ ds)) then λ ds. done (a ∷ ds)) then λ ds. ends (sized_step s ds))
    by_three (done a) (done b) (done c) = ap ends (built-three a b c)
    by_three (done a) (done b) (refused r n) = refl
    by_three (done a) (refused r n) C = refl
    by_three (refused r n) B C = refl

  needs : (g : Given) (ts : List ℕ) (n : ℕ) → (n ≡ 0 → ⊥) → n ≤ 3
      → step_by g ts n s
      ≡ (source_dims g ts (up_to n (sources_in s)) then λ ds. cond (is_destination s.dest.kind) (done (sized_step s ds)) (refused Refusal.no_rule none))
  unfolding step_by second_by third_by ended_by source_dims
  needs g ts zero h l = absurd (h refl)
  needs g ts (suc zero) h l = by_one (is_destination s.dest.kind) (source_dim g ts (met (ltb 0 s.count) s.s0))
  needs g ts (suc (suc zero)) h l = by_two (is_destination s.dest.kind) (source_dim g ts (met (ltb 0 s.count) s.s0)) (source_dim g ts (met (ltb 1 s.count) s.s1))
  needs g ts (suc (suc (suc zero))) h l = by_three (is_destination s.dest.kind) (source_dim g ts (met (ltb 0 s.count) s.s0)) (source_dim g ts (met (ltb 1 s.count) s.s1)) (source_dim g ts (met (ltb 2 s.count) s.s2))
  needs g ts (suc (suc (suc (suc n)))) h l = absurd (omega arith)

-- ---- the answers

-- a source is refused, or has its dimension
stops : {A B : Type 0} {x : Answer A} {w : Refusal} (f : A → Answer B) → refused w none ≡ x → refused w none ≡ (x then f)
stops f e = rw (← e)

goes : {A B : Type 0} {x : Answer A} {a : A} {y : Answer B} (f : A → Answer B) → done a ≡ x → y ≡ f a → y ≡ (x then f)
goes f e h = rw (← e) h

module _ (n : ℕ) (s : Step) (a b c : ℕ) (t : Bool) (et : t ≡ is_destination s.dest.kind) where
  pub no_destination : t ≡ false → refused Refusal.no_rule none ≡ ended_by n s a b c
  unfolding ended_by
  no_destination h =
      let z : is_destination s.dest.kind ≡ false = sym et ∙ h in
      rw z

  pub sizes : t ≡ true → (y : Step) → y ≡ built_step n s a b c → done y ≡ ended_by n s a b c
  unfolding ended_by
  sizes h y e =
      let z : is_destination s.dest.kind ≡ true = sym et ∙ h in
      rw z (ap done e)

module _ (g : Given) (ts : List ℕ) (n : ℕ) (s : Step) (a : ℕ) where
  module _ (b : ℕ) where
    pub stop-third : (w : Refusal) → refused w none ≡ slot_dim g ts n s.count 2 s.s2 → refused w none ≡ third_by g ts n s a b
    unfolding third_by
    stop-third w e = stops (λ c. ended_by n s a b c) e

    pub has-third : (c : ℕ) → done c ≡ slot_dim g ts n s.count 2 s.s2 → (y : Answer Step) → y ≡ ended_by n s a b c → y ≡ third_by g ts n s a b
    unfolding third_by
    has-third c e y h = goes (λ c. ended_by n s a b c) e h

  pub stop-second : (w : Refusal) → refused w none ≡ slot_dim g ts n s.count 1 s.s1 → refused w none ≡ second_by g ts n s a
  unfolding second_by
  stop-second w e = stops (λ b. third_by g ts n s a b) e

  pub has-second : (b : ℕ) → done b ≡ slot_dim g ts n s.count 1 s.s1 → (y : Answer Step) → y ≡ third_by g ts n s a b → y ≡ second_by g ts n s a
  unfolding second_by
  has-second b e y h = goes (λ b. third_by g ts n s a b) e h

module _ (g : Given) (ts : List ℕ) (s : Step) (n : ℕ) (is : n ≡ sources_needed s.op) where
  pub no_step : n ≡ 0 → refused Refusal.no_rule none ≡ step_with g ts s
  unfolding step_with
  no_step e =
      let z : sources_needed s.op ≡ 0 = sym is ∙ e in
      rw z

  module _ (some : n ≡ 0 → ⊥) where
    is-by : step_by g ts n s ≡ step_with g ts s
    unfolding step_with
    is-by = rw (← is, ne_eqb n 0 some) (needs s g ts n some (rw is (sources-small s.op)))

    pub stop-first : (w : Refusal) → refused w none ≡ slot_dim g ts n s.count 0 s.s0 → refused w none ≡ step_with g ts s
    unfolding step_by
    stop-first w e = stops (λ a. second_by g ts n s a) e ∙ is-by

    pub has_first : (a : ℕ) → done a ≡ slot_dim g ts n s.count 0 s.s0 → (y : Answer Step) → y ≡ second_by g ts n s a → y ≡ step_with g ts s
    unfolding step_by
    has_first a e y h = goes (λ a. second_by g ts n s a) e h ∙ is-by

-- ---- a source by its place

pub slot-needed : (g : Given) (ts : List ℕ) (n c k : ℕ) (r : Reference) → k < n → k < c → source_dim g ts r ≡ slot_dim g ts n c k r
slot-needed g ts n c k r h l = rw (lt-ltb k n h, lt-ltb k c l)

pub nothing-ruled : (g : Given) (ts : List ℕ) → source_dim g ts nothing ≡ refused Refusal.no_rule none
unfolding source_dim rule_no within
nothing-ruled g ts = refl

pub slot_missing : (g : Given) (ts : List ℕ) (n c k : ℕ) (r : Reference) → k < n → c ≤ k → refused Refusal.no_rule none ≡ slot_dim g ts n c k r
slot_missing g ts n c k r h l = rw (lt-ltb k n h, le-ltb k c l) (sym (nothing-ruled g ts))

pub slot_kept : (g : Given) (ts : List ℕ) (n c k : ℕ) (r : Reference) → n ≤ k → done r.dim ≡ slot_dim g ts n c k r
slot_kept g ts n c k r h = rw (le-ltb k n h)

-- ---- a step noted

pub noted-temporary : (ts : List ℕ) (s : Step) → s.dest.kind ≡ kind.tmp → set ts s.dest.id s.dest.dim ≡ noted ts s
unfolding noted
noted-temporary ts s e = rw e

pub noted_other : (ts : List ℕ) (s : Step) → (s.dest.kind ≡ kind.tmp → ⊥) → ts ≡ noted ts s
unfolding noted
noted_other ts s h = rw (ne_eqb s.dest.kind kind.tmp h)
