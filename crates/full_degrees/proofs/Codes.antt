-- Full degrees as bytes: what operations make of them, and those of leaves.
-- Assumes nothing.
use Prim.Native.Nat.{ℕ, ◌+◌, ◌<◌, ◌≤◌, min, max}
use mathlib.Core.Path.{◌≡◌, refl, sym, ◌∙◌, ap}
use mathlib.Core.Bool.{Bool, true, false, cond}
use mathlib.Core.Option.{Option, none, some}
use mathlib.Core.Logic.{inl, inr}
use native.Mathlib.Omega.{arith}
use lib.Dec.{eqb, ltb}
use borrow.Author.Tests.{ne_eqb, lt-ltb, le-ltb, eqb-true, eqb-false, ltb-true, ltb-false}
use Rattle.kinds.specs.KindBytes as kind
use Rattle.kinds.specs.Range.{within_in, within-below, within-above}
use Rattle.search_meaning.specs.Degrees.{map₂, sum_degree, full_leaf}
use Rattle.full_degrees.specs.Coded.{no_degree, coded, times_code, leaf_code}
use Rattle.full_degrees.specs.Shapes.{class_by, by-constant, by-eval, by-q, by-quotient, by-rest}

-- ── operations ───────────────────────────────────────────────────────────────
module _ (a b : ℕ) where
  pub times_none : 18 < max a b → no_degree ≡ times_code a b
  unfolding times_code
  times_none h = sym (ap (λ c. cond c no_degree (min 18 (a + b))) (lt-ltb 18 (max a b) h))

  module _ (h : max a b ≤ 18) where
    pub times-by : min 18 (a + b) ≡ times_code a b
    unfolding times_code
    times-by = sym (ap (λ c. cond c no_degree (min 18 (a + b))) (le-ltb 18 (max a b) h))

    pub times-fits : a + b < 256
    times-fits = omega arith

pub max-is : (a b : Option ℕ) → max (coded a) (coded b) ≡ coded (map₂ max a b)
max-is none none = refl
max-is none (some b) = omega arith
max-is (some a) none = omega arith
max-is (some a) (some b) = omega arith

pub sum-code : (a b : Option ℕ) → max 1 (max (coded a) (coded b)) ≡ coded (map₂ sum_degree a b)
sum-code none none = refl
sum-code none (some b) = omega arith
sum-code (some a) none = omega arith
sum-code (some a) (some b) = ap (max 1) (max-is (some a) (some b)) ∙ max-is (some 1) (some (max a b))

pub one_code : (a : Option ℕ) → max 1 (coded a) ≡ coded (map₂ max (some 1) a)
one_code none = refl
one_code (some a) = omega arith

pub times-is : (a b : Option ℕ) → times_code (coded a) (coded b) ≡ coded (map₂ ◌+◌ a b)
times-is none none = sym (times_none no_degree no_degree (omega arith))
times-is none (some b) = sym (times_none no_degree (min 18 b) (omega arith))
times-is (some a) none = sym (times_none (min 18 a) no_degree (omega arith))
times-is (some a) (some b) = sym (times-by (min 18 a) (min 18 b) (omega arith)) ∙ omega arith

-- ── leaves ───────────────────────────────────────────────────────────────────
module _ (k : ℕ) where
  pub leaf-q : k ≡ kind.q → no_degree ≡ leaf_code k
  unfolding leaf_code
  leaf-q h = rw h

  pub leaf-flat : kind.number ≤ k → k ≤ kind.eval → 0 ≡ leaf_code k
  unfolding leaf_code
  leaf-flat a b = rw (ne_eqb k kind.q (λ (q : k ≡ 19). omega arith), within_in kind.number kind.eval k (a, b))

  pub leaf-quotient : kind.x_div_x_sub_xi ≤ k → k ≤ kind.x_div_x_sub_w_xi → no_degree ≡ leaf_code k
  unfolding leaf_code
  leaf-quotient a b = rw (ne_eqb k kind.q (λ (q : k ≡ 19). omega arith), within-above kind.number kind.eval k (omega arith), within_in kind.x_div_x_sub_xi kind.x_div_x_sub_w_xi k (a, b))

  pub leaf-low : (k ≡ kind.q → ⊥) → k < kind.number → 1 ≡ leaf_code k
  unfolding leaf_code
  leaf-low n h = rw (ne_eqb k kind.q n, within-below kind.number kind.eval k h, within-below kind.x_div_x_sub_xi kind.x_div_x_sub_w_xi k (omega arith))

  pub leaf-high : kind.x_div_x_sub_w_xi < k → 1 ≡ leaf_code k
  unfolding leaf_code
  leaf-high h = rw (ne_eqb k kind.q (λ (q : k ≡ 19). omega arith), within-above kind.number kind.eval k (omega arith), within-above kind.x_div_x_sub_xi kind.x_div_x_sub_w_xi k h)

  -- and that is the full degree of the leaf
  pub leaf-code : (f : ℕ → Option ℕ) (i : ℕ) → (k ≡ kind.exp → ⊥) → leaf_code k ≡ coded (full_leaf f (class_by k i))
  leaf-code f i n = go (eqb k kind.q) refl (ltb k kind.number) refl (ltb kind.challenge k) refl (ltb kind.eval k) refl (ltb kind.x_div_x_sub_w_xi k) refl
    where
      go :
          (a : Bool) → eqb k kind.q ≡ a → (b : Bool) → ltb k kind.number ≡ b → (c : Bool) → ltb kind.challenge k ≡ c → (d : Bool) → ltb kind.eval k ≡ d → (e : Bool) → ltb kind.x_div_x_sub_w_xi k ≡ e →
          leaf_code k ≡ coded (full_leaf f (class_by k i))
      go true qa b qb c qc d qd e qe = let z = eqb-true k kind.q qa in sym (leaf-q z) ∙ ap (λ y. coded (full_leaf f y)) (sym (by-q k i z))
      go false qa true qb c qc d qd e qe =
          let y = eqb-false k kind.q qa in
          let z = ltb-true k kind.number qb in
          sym (leaf-low y z) ∙ ap (λ y. coded (full_leaf f y)) (sym (by-rest k i (record { exp = n; q = y; flat = inl z; quotient = inl (omega arith) })))
      go false qa false qb false qc d qd e qe =
          let y = ltb-false k kind.number qb in
          let z = ltb-false kind.challenge k qc in
          sym (leaf-flat y (omega arith)) ∙ ap (λ y. coded (full_leaf f y)) (sym (by-constant k i y z))
      go false qa false qb true qc false qd e qe =
          let y = ltb-true kind.challenge k qc in
          let z = ltb-false kind.eval k qd in
          let w : k ≡ 23 = omega arith in
          sym (leaf-flat (omega arith) z) ∙ ap (λ y. coded (full_leaf f y)) (sym (by-eval k i w))
      go false qa false qb true qc true qd false qe =
          let y = ltb-true kind.eval k qd in
          let z = ltb-false kind.x_div_x_sub_w_xi k qe in
          sym (leaf-quotient (omega arith) z) ∙ ap (λ y. coded (full_leaf f y)) (sym (by-quotient k i (omega arith) z))
      go false qa false qb true qc true qd true qe =
          let y = ltb-true kind.eval k qd in
          let z = ltb-true kind.x_div_x_sub_w_xi k qe in
          sym (leaf-high z) ∙ ap (λ y. coded (full_leaf f y)) (sym (by-rest k i (record { exp = n; q = eqb-false k kind.q qa; flat = inr y; quotient = inr z })))
