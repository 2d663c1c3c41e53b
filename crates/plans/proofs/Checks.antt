-- Tests one after the other, as a conjunction: of a record's size, of its bits and counts, of what it names.
-- Assumes nothing.
use Prim.Native.Nat.{ℕ, ◌+◌, ◌*◌, ◌<◌, ◌≤◌}
use mathlib.Core.Path.{◌≡◌, refl, sym, ◌∙◌}
use mathlib.Core.Bool.{Bool, true, false, not, ◌&&◌}
use mathlib.Core.List.{List}
use native.Mathlib.Omega.{arith}
use lib.ListN.{length}
use lib.Dec.{eqb, leb}
use borrow.Author.Tests.{ne_eqb, eq-eqb, le-leb, lt-leb, not-true, not-false}
use Rattle.plans.specs.Plan.{Is, number_limit, n_bits, n_bits_ext, cm2, cm3, cm4, q_deg, pu_count, im_count, q2exp_count, product_count, head_size, q2exp_at, end_at, ascending, is_plan}
use Rattle.plans.specs.Agreement.{bits_limit, blowup_limit, bits_good, counts_agree}

-- ---- a conjunction

pub first-fails : {a : Bool} (b : Bool) → a ≡ false → false ≡ (a && b)
first-fails b h = rw h

pub first_holds : {a b : Bool} {r : Bool} → a ≡ true → r ≡ b → r ≡ (a && b)
first_holds h q = rw h q

-- what is not so is not; what is not not so is
pub told-not : {r b : Bool} → r ≡ b → not r ≡ true → b ≡ false
told-not {r} h q = sym h ∙ not-true r q

pub told_so : {r b : Bool} → r ≡ b → not r ≡ false → b ≡ true
told_so {r} h q = sym h ∙ not-false r q

-- ---- size

module _ (b : List ℕ) where
  pub too_short : length b < 2 * head_size → false ≡ is_plan b
  unfolding is_plan
  too_short h = first-fails _ (lt-leb (2 * head_size) (length b) h)

  module _ (h : 2 * head_size ≤ length b) {a c : ℕ} (f : Is a (q2exp_at b) (12 * number_limit)) (g : Is c (q2exp_count b) number_limit) where
    pub wrong_size : (length b ≡ 2 * (a + c) → ⊥) → false ≡ is_plan b
    unfolding is_plan
    wrong_size n = first_holds (le-leb (2 * head_size) (length b) h) (first-fails _ (ne_eqb (length b) (2 * end_at b) (λ e. n (e ∙ omega (arith, f.is, g.is)))))

    pub right-size : length b ≡ 2 * (a + c) → length b ≡ 2 * end_at b
    right-size e = omega (arith, e, f.is, g.is)

    pub by_order : length b ≡ 2 * (a + c) → {r : Bool} → r ≡ ascending b → r ≡ is_plan b
    unfolding is_plan
    by_order e q = first_holds (le-leb (2 * head_size) (length b) h) (first_holds (eq-eqb (length b) (2 * end_at b) (right-size e)) q)

  -- ---- bits

  pub bits-over : bits_limit < n_bits b → false ≡ bits_good b
  unfolding bits_good
  bits-over h = first-fails _ (lt-leb (n_bits b) bits_limit h)

  module _ (h : n_bits b ≤ bits_limit) where
    pub bits-under : n_bits_ext b < n_bits b → false ≡ bits_good b
    unfolding bits_good
    bits-under g = first_holds (le-leb (n_bits b) bits_limit h) (first-fails _ (lt-leb (n_bits b) (n_bits_ext b) g))

    pub bits-by : n_bits b ≤ n_bits_ext b → leb (n_bits_ext b) (n_bits b + blowup_limit) ≡ bits_good b
    unfolding bits_good
    bits-by g = first_holds (le-leb (n_bits b) bits_limit h) (first_holds (le-leb (n_bits b) (n_bits_ext b) g) refl)

  -- ---- counts

  module _ {x p : ℕ} (f : Is x (cm2 b) number_limit) (g : Is p (pu_count b) number_limit) where
    pub cm2-not : (x ≡ 2 * p → ⊥) → false ≡ counts_agree b
    unfolding counts_agree
    cm2-not n = first-fails _ (ne_eqb (cm2 b) (2 * pu_count b) (λ e. n (omega (arith, e, f.is, g.is))))

    module _ (e : x ≡ 2 * p) {y z i : ℕ} (k : Is y (cm3 b) number_limit) (l : Is z (product_count b) (3 * number_limit)) (m : Is i (im_count b) number_limit) where
      cm2-is : eqb (cm2 b) (2 * pu_count b) ≡ true
      cm2-is = eq-eqb (cm2 b) (2 * pu_count b) (omega (arith, e, f.is, g.is))

      pub cm3-not : (y ≡ z + i → ⊥) → false ≡ counts_agree b
      unfolding counts_agree
      cm3-not n = first_holds cm2-is (first-fails _ (ne_eqb (cm3 b) (product_count b + im_count b) (λ q. n (omega (arith, q, k.is, l.is, m.is)))))

      pub cm4-by : y ≡ z + i → {u v : ℕ} → Is u (cm4 b) number_limit → Is v (q_deg b) number_limit → eqb u v ≡ counts_agree b
      unfolding counts_agree
      cm4-by q s t = first_holds cm2-is (first_holds (eq-eqb (cm3 b) (product_count b + im_count b) (omega (arith, q, k.is, l.is, m.is))) (rw (s.is, t.is)))
