-- The dimensions of sources as they are read from a record: each way through the code, and what they say of the step.
-- Assumes nothing.
use Prim.Native.Nat.{ℕ, zero, suc, max, ◌+◌, ◌*◌, ◌≤◌, ◌<◌}
use Rattle.std.specs.Prelude.{◌≡◌, refl, Bool, true, false, List, [], ◌∷◌, ◌⊎◌, length, get_or, set, eqb, Option, Some, None}
use Rattle.std.proofs.Common.{sym, ◌∙◌, inl, inr, eq-or-lt_of_le, add-one}
use Rattle.std.proofs.Math.Path.{ap}
use native.Mathlib.Omega.{arith}
use Rattle.std.specs.Option.{unwrap_or}
use borrow.Author.Tests.{eq-eqb, ne_eqb, lt-ltb, le-ltb, eqb-true}
use Rattle.kinds.specs.KindBytes as kind
use Rattle.kinds.specs.KindLaws.{sources-small}
use Rattle.kinds.specs.References.{ref_at}
use Rattle.kinds.specs.Steps.{step_at}
use Rattle.kinds.specs.StepOps.{sources_needed}
use Rattle.kinds.specs.declared.reference.Reference.{Reference}
use Rattle.kinds.specs.declared.step.Step.{Step}
use Rattle.meaning.specs.Refusals.{Answer, done, refused}
use Rattle.step_dimensions.specs.Rules.{is_destination}
use Rattle.step_dimensions.specs.StepDimensions.{Given, positive, written, through, source_dim, source_dims, largest, sized, sized_step, step_with, noted}
use Rattle.step_dimensions.specs.Known.{dim_of, known, noted_at, known_dim, known_at, most_of, AllKnown, MostIs, Sizes, StepDimIs}

-- ---- a source

pub dim-positive : (d : ℕ) → d ≡ dim_of (positive d)
dim-positive d = by (eqb d 0) refl
  where
    by : (t : Bool) → eqb d 0 ≡ t → d ≡ dim_of (positive d)
    by true e = rw e (eqb-true d 0 e)
    by false e = rw e

pub dim-written : (d : ℕ) → d ≡ dim_of (written d)
dim-written d = by (eqb d 0) refl
  where
    by : (t : Bool) → eqb d 0 ≡ t → d ≡ dim_of (written d)
    by true e = rw e (eqb-true d 0 e)
    by false e = rw e

module _ (dims numbers : List ℕ) (id : ℕ) where
  pub known-no-number : length numbers ≤ id → 0 ≡ dim_of (through dims numbers id)
  unfolding through
  known-no-number h = rw (le-ltb id (length numbers) h)

  pub known-no-record : id < length numbers → length dims ≤ get_or numbers id 0 → 0 ≡ dim_of (through dims numbers id)
  unfolding through
  known-no-record h k = rw (lt-ltb id (length numbers) h, le-ltb (get_or numbers id 0) (length dims) k)

  pub known_both : id < length numbers → get_or numbers id 0 < length dims → get_or dims (get_or numbers id 0) 0 ≡ dim_of (through dims numbers id)
  unfolding through
  known_both h k = rw (lt-ltb id (length numbers) h, lt-ltb (get_or numbers id 0) (length dims) k) (dim-positive (get_or dims (get_or numbers id 0) 0))

-- from what the rule gives
pub known_as : (g : Given) (ts : List ℕ) (r : Reference) (d : ℕ) (a : Answer ℕ) → d ≡ dim_of a → a ≡ source_dim g ts r → d ≡ known_dim g ts r
known_as g ts r d a e f = e ∙ ap dim_of f

-- the same where it has one
pub known-by : (g : Given) (ts : List ℕ) (r : Reference) (d : Option ℕ) (a : Answer ℕ) → d ≡ known a → a ≡ source_dim g ts r → d ≡ known (source_dim g ts r)
known-by g ts r d a e f = e ∙ ap known f

pub known-done : (a : Answer ℕ) (d : ℕ) → Some d ≡ known a → a ≡ done d
known-done (done x) d e = let z : d ≡ x = cc in rw z
known-done (refused r n) d e = absurd (let z : ◌≡◌ {A = ℕ} 0 1 = cc in omega arith)

pub known-none : (a : Answer ℕ) → None ≡ known a → 0 ≡ dim_of a
known-none (done x) e = absurd (let z : ◌≡◌ {A = ℕ} 0 1 = cc in omega arith)
known-none (refused r n) e = refl

-- its number, or 0
pub known-or : (a : Answer ℕ) (o : Option ℕ) → o ≡ known a → unwrap_or o 0 ≡ dim_of a
known-or (done x) o e = rw e
known-or (refused r n) o e = rw e

-- ---- the largest

module _ (g : Given) (ts l : List ℕ) (at : ℕ) where
  pub most-begin : AllKnown g ts l at 0 × (0 ≡ most_of g ts l at 0)
  unfolding AllKnown most_of
  most-begin = (λ k h. absurd (omega arith), refl)

  pub most-next :
      (k m d n : ℕ) → AllKnown g ts l at k → m ≡ most_of g ts l at k → source_dim g ts (ref_at l (at + 16 + 12 * k)) ≡ done d → n ≡ max m d
      → AllKnown g ts l at (k + 1) × (n ≡ most_of g ts l at (k + 1))
  unfolding AllKnown most_of
  most-next k m d n all e f q = (λ j i. by (eq-or-lt_of_le {n = j} {m = k} (omega arith)), rw (add-one k) (q ∙ rw (e, sym (ap dim_of f))))
    where
      here : source_dim g ts (ref_at l (at + 16 + 12 * k)) ≡ done (known_at g ts l at k)
      here = rw (ap dim_of f) f

      by : {j : ℕ} → (j ≡ k) ⊎ (j < k) → source_dim g ts (ref_at l (at + 16 + 12 * j)) ≡ done (known_at g ts l at j)
      by (inl y) = rw y here
      by {j} (inr y) = all j y

-- of one, two and three, in either order
pub most-one : (a : ℕ) → max a 0 ≡ max 0 a
most-one a = omega arith

pub most-two : (a b : ℕ) → max a (max b 0) ≡ max (max 0 a) b
most-two a b = omega arith

max_assoc : (a b c : ℕ) → max a (max b c) ≡ max (max a b) c
max_assoc a b c = omega arith

pub most-three : (a b c : ℕ) → max a (max b (max c 0)) ≡ max (max (max 0 a) b) c
most-three a b c =
    let e : max c 0 ≡ c = omega arith in
    let f : max 0 a ≡ a = omega arith in
    rw (e, f) (max_assoc a b c)

-- ---- a step

module _ (g : Given) (ts : List ℕ) (s : Step) (there : is_destination s.dest.kind ≡ true) where
  sized-one : sources_needed s.op ≡ 1 → 0 < s.count → (a : ℕ) → source_dim g ts s.s0 ≡ done a → step_with g ts s ≡ done (sized_step s (a ∷ []))
  unfolding step_with source_dims
  sized-one n c a e = rw (n, lt-ltb 0 s.count c, e, there)

  sized-two :
      sources_needed s.op ≡ 2 → 1 < s.count → (a b : ℕ) → source_dim g ts s.s0 ≡ done a → source_dim g ts s.s1 ≡ done b
      → step_with g ts s ≡ done (sized_step s (a ∷ b ∷ []))
  unfolding step_with source_dims
  sized-two n c a b e f =
      let c₀ : 0 < s.count = omega arith in
      rw (n, lt-ltb 0 s.count c₀, lt-ltb 1 s.count c, e, f, there)

  sized-three :
      sources_needed s.op ≡ 3 → 2 < s.count → (a b c : ℕ) → source_dim g ts s.s0 ≡ done a → source_dim g ts s.s1 ≡ done b → source_dim g ts s.s2 ≡ done c
      → step_with g ts s ≡ done (sized_step s (a ∷ b ∷ c ∷ []))
  unfolding step_with source_dims
  sized-three n h a b c e f i =
      let c₀ : 0 < s.count = omega arith in
      let c₁ : 1 < s.count = omega arith in
      rw (n, lt-ltb 0 s.count c₀, lt-ltb 1 s.count c₁, lt-ltb 2 s.count h, e, f, i, there)

module _ (g : Given) (ts l : List ℕ) (at : ℕ) where
  abbrev s : Step
  s = step_at l at

  -- source k stands at i
  source : (n k i : ℕ) → at + 16 + 12 * k ≡ i → AllKnown g ts l at n → k < n → source_dim g ts (ref_at l i) ≡ done (known_at g ts l at k)
  unfolding AllKnown
  source n k i e all h =
      let z : source_dim g ts (ref_at l (at + 16 + 12 * k)) ≡ done (known_at g ts l at k) = all k h in
      ap (λ j. source_dim g ts (ref_at l j)) (sym e) ∙ z

  sizes-by :
      (n : ℕ) → n ≤ 3 → sources_needed s.op ≡ n → n ≤ s.count → is_destination s.dest.kind ≡ true → AllKnown g ts l at n → (n ≡ 0 → ⊥)
      → Sizes g ts s (most_of g ts l at n)
  unfolding step_at most_of largest
  sizes-by zero h e c t all o = absurd (o refl)
  sizes-by (suc zero) h e c t all o =
      let a = known_at g ts l at 0 in
      record {
        step = sized_step s (a ∷ []);
        is = sized-one g ts s t e c a (source 1 0 (at + 16) (omega arith) all (omega arith));
        dest = ap (sized s.dest) (most-one a);
      }
  sizes-by (suc (suc zero)) h e c t all o =
      let a = known_at g ts l at 0 in
      let b = known_at g ts l at 1 in
      record {
        step = sized_step s (a ∷ b ∷ []);
        is = sized-two g ts s t e c a b (source 2 0 (at + 16) (omega arith) all (omega arith)) (source 2 1 (at + 28) (omega arith) all (omega arith));
        dest = ap (sized s.dest) (most-two a b);
      }
  sizes-by (suc (suc (suc zero))) h e c t all o =
      let a = known_at g ts l at 0 in
      let b = known_at g ts l at 1 in
      let d = known_at g ts l at 2 in
      record {
        step = sized_step s (a ∷ b ∷ d ∷ []);
        is
            = sized-three g ts s t e c a b d (source 3 0 (at + 16) (omega arith) all (omega arith)) (source 3 1 (at + 28) (omega arith) all (omega arith))
            (source 3 2 (at + 40) (omega arith) all (omega arith));
        dest = ap (sized s.dest) (most-three a b d);
      }
  sizes-by (suc (suc (suc (suc n)))) h e c t all o = absurd (omega arith)

  pub sizes-known :
      (n : ℕ) → n ≡ sources_needed s.op → (n ≡ 0 → ⊥) → n ≤ s.count → (t : Bool) → t ≡ is_destination s.dest.kind → t ≡ true → (r : Option ℕ) → MostIs g ts l at n r
      → StepDimIs g ts s r
  sizes-known n e o c t et ht r most d z =
      let m = most d z in
      let few : n ≤ 3 = rw e (sources-small s.op) in
      rw m.1 (sizes-by n few (sym e) c (sym et ∙ ht) m.0 o)

-- ---- a step noted

module _ (ts : List ℕ) (r : Reference) (d : ℕ) where
  pub notes : r.kind ≡ kind.tmp → (id : ℕ) → id ≡ r.id → set ts id d ≡ noted_at ts r d
  notes h id e = rw (eq-eqb r.kind kind.tmp h, e)

  pub notes-not : (r.kind ≡ kind.tmp → ⊥) → ts ≡ noted_at ts r d
  notes-not h = rw (ne_eqb r.kind kind.tmp h)

  pub noted-at : (y : Step) → y.dest ≡ sized r d → noted_at ts r d ≡ noted ts y
  unfolding noted
  noted-at y e = rw e

-- the loop's end
pub most-end :
    (g : Given) (ts l : List ℕ) (at n k m : ℕ) → k ≤ n → n ≤ k → AllKnown g ts l at k × (m ≡ most_of g ts l at k) → MostIs g ts l at n (Some m)
most-end g ts l at n k m a b h d q =
    let e : n ≡ k = omega arith in
    let f : d ≡ m = cc in
    rw (e, f) h
