-- A child that is not earlier, by the child count, as the code decides it.
-- Assumes nothing.
use Prim.Native.Nat.{ℕ, zero, suc, ◌≤◌, ◌<◌}
use mathlib.Core.Path.{◌≡◌, refl, sym, ◌∙◌}
use mathlib.Core.Bool.{Bool, true, false, ◌&&◌, or-false}
use mathlib.Core.List.{List, [], ◌∷◌}
use lib.Dec.{eqb, leb}
use borrow.Author.Tests.{le-leb, lt-leb}
use Rattle.meaning.specs.Trees.{up_to}
use Rattle.kinds.specs.KindBytes as kind
use Rattle.frames.specs.Tables.{kind_in, id_in, count_in}
use Rattle.pool.specs.Words.{c0_in, c1_in, c2_in}
use Rattle.pool.specs.Admission.{some_from}
use Rattle.pool.specs.Shapes.{late_in, lost_in}

up_to-none : (n : ℕ) → up_to {A = ℕ} n [] ≡ []
up_to-none zero = refl
up_to-none (suc n) = refl

-- n of three numbers, is one of them not below i?
abbrev late : ℕ → ℕ → ℕ → ℕ → ℕ → Bool
late n a b c i = some_from i (up_to n (a ∷ b ∷ c ∷ []))

late-none : (n a b c i : ℕ) → a < i → b < i → c < i → late n a b c i ≡ false
late-none zero a b c i x y z = refl
late-none (suc zero) a b c i x y z = rw (lt-leb i a x)
late-none (suc (suc zero)) a b c i x y z = rw (lt-leb i a x, lt-leb i b y)
late-none (suc (suc (suc k))) a b c i x y z = rw (lt-leb i a x, lt-leb i b y, up_to-none k, lt-leb i c z)

-- whichever of them count
pub none-late-at : (w : List ℕ) (i : ℕ) → (c0_in w i < i) × (c1_in w i < i) × (c2_in w i < i) → false ≡ late_in w i
unfolding late_in
none-late-at w i h = sym (late-none (count_in w i) (c0_in w i) (c1_in w i) (c2_in w i) i h.0 h.1 h.2)

-- ── a leaf whose expression is not there ─────────────────────────────────────
and-true : (x : Bool) → x ≡ (x && true)
and-true true = refl
and-true false = refl

and-false : (x : Bool) → false ≡ (x && false)
and-false true = refl
and-false false = refl

pub lost-is : (w : List ℕ) (m i : ℕ) {e k : ℕ} → e ≡ id_in w i → m ≤ e → k ≡ kind_in w i → eqb k kind.exp ≡ lost_in w m i
unfolding lost_in
lost-is w m i {e} {k} q h p = rw (← q, ← p, le-leb m e h) (and-true (eqb k kind.exp))

pub found-is : (w : List ℕ) (m i : ℕ) {e : ℕ} → e ≡ id_in w i → e < m → false ≡ lost_in w m i
unfolding lost_in
found-is w m i {e} q h = rw (← q, lt-leb m e h) (and-false (eqb (kind_in w i) kind.exp))

late-first : (n a b c i : ℕ) → (n ≡ 0 → ⊥) → i ≤ a → late n a b c i ≡ true
late-first zero a b c i n h = absurd (n refl)
late-first (suc k) a b c i n h = rw (le-leb i a h)

late-second : (n a b c i : ℕ) → (n ≡ 0 → ⊥) → a < i → (n ≡ 1 → ⊥) → i ≤ b → late n a b c i ≡ true
late-second zero a b c i n x m h = absurd (n refl)
late-second (suc zero) a b c i n x m h = absurd (m refl)
late-second (suc (suc k)) a b c i n x m h = rw (lt-leb i a x, le-leb i b h)

late-third : (n a b c i : ℕ) → (n ≡ 0 → ⊥) → a < i → (n ≡ 1 → ⊥) → b < i → (n ≡ 2 → ⊥) → late n a b c i ≡ leb i c
late-third zero a b c i n x m y o = absurd (n refl)
late-third (suc zero) a b c i n x m y o = absurd (m refl)
late-third (suc (suc zero)) a b c i n x m y o = absurd (o refl)
late-third (suc (suc (suc k))) a b c i n x m y o = rw (lt-leb i a x, lt-leb i b y, up_to-none k) (or-false (leb i c))

module _ (w : List ℕ) (i : ℕ) {n : ℕ} (q : n ≡ count_in w i) where
  pub none-late : n ≡ 0 → false ≡ late_in w i
  unfolding late_in
  none-late h = rw (sym q ∙ h)

  module _ (n0 : n ≡ 0 → ⊥) {a : ℕ} (qa : a ≡ c0_in w i) where
    pub first-late : i ≤ a → true ≡ late_in w i
    unfolding late_in
    first-late h = sym (rw (← q, ← qa) (late-first n a (c1_in w i) (c2_in w i) i n0 h))

    module _ (ha : a < i) where
      pub one_earlier : n ≡ 1 → false ≡ late_in w i
      unfolding late_in
      one_earlier h = sym (rw (← q, ← qa, h, lt-leb i a ha))

      module _ (n1 : n ≡ 1 → ⊥) {b : ℕ} (qb : b ≡ c1_in w i) where
        pub second-late : i ≤ b → true ≡ late_in w i
        unfolding late_in
        second-late h = sym (rw (← q, ← qa, ← qb) (late-second n a b (c2_in w i) i n0 ha n1 h))

        module _ (hb : b < i) where
          pub two-earlier : n ≡ 2 → false ≡ late_in w i
          unfolding late_in
          two-earlier h = sym (rw (← q, ← qa, ← qb, h, lt-leb i a ha, lt-leb i b hb))

          pub third-late : (n ≡ 2 → ⊥) → {c : ℕ} → c ≡ c2_in w i → leb i c ≡ late_in w i
          unfolding late_in
          third-late n2 {c} qc = sym (rw (← q, ← qa, ← qb, ← qc) (late-third n a b c i n0 ha n1 hb n2))
