-- Where the parts of a plan stand. Assumes nothing.
use Rattle.std.specs.Prelude.{ℕ, suc, ◌+◌, ◌-◌, ◌*◌, ◌<◌, ◌≤◌, ◌≡◌, refl, Bool, true, false, cond, List, ltb}
use Rattle.std.proofs.Common.{sym, ◌∙◌, ap, ap₂, arith, lt-ltb, le-ltb, ltb-true, ltb-false}
use Rattle.frames.specs.Tables.{kind_in, id_in}
use Rattle.plans.specs.Agreement.{leaf_there, node_there}
use Rattle.plans.specs.Plan.{Is, number_limit, number_at, head_size, pu_count, product_count, pe_at, im_at, product_at, im_of, end_at, ascends}

module _ (b : List ℕ) (i : ℕ) (few : i < 3 * number_limit) {pu : ℕ} (e : Is pu (pu_count b) number_limit) where
  -- of a pu
  pub lookup-product : i < pu → Is (head_size + 4 * i + 2) (product_at b i) (11 * number_limit)
  lookup-product h = record { is = sym (at (lt-ltb i (pu_count b) (omega (arith, h, e.is)))); low = omega (arith, few) }
    where
      at : ltb i (pu_count b) ≡ true → product_at b i ≡ head_size + 4 * i + 2
      at q = rw q

  -- of a pe or a ci
  pub pair-product : pu ≤ i → {a : ℕ} → Is a (pe_at b) (5 * number_limit) → Is (a + 2 * (i - pu)) (product_at b i) (11 * number_limit)
  pair-product h {a} g = record { is = k ∙ sym (at (le-ltb i (pu_count b) (omega (arith, h, e.is)))); low = omega (arith, few, g.low) }
    where
      at : ltb i (pu_count b) ≡ false → product_at b i ≡ pe_at b + 2 * (i - pu_count b)
      at q = rw q

      k : a + 2 * (i - pu) ≡ pe_at b + 2 * (i - pu_count b)
      k = rw (e.is, g.is)

-- a grand product's num and den stand in the record
pub product_inside : (b : List ℕ) (i : ℕ) → i < product_count b → product_at b i + 2 ≤ end_at b
product_inside b i h = go (ltb i (pu_count b)) refl
  where
    go : (c : Bool) → ltb i (pu_count b) ≡ c → cond c (head_size + 4 * i + 2) (pe_at b + 2 * (i - pu_count b)) + 2 ≤ end_at b
    go true e = omega (arith, h, ltb-true i (pu_count b) e)
    go false e = omega (arith, h, ltb-false i (pu_count b) e)

-- a number that one equal to it stands before
pub number_is : (b : List ℕ) {r j k : ℕ} → Is r (number_at b k) number_limit → k ≡ j → Is r (number_at b j) number_limit
number_is b {r} {j} {k} h e = record { is = h.is ∙ ap (number_at b) e; low = h.low }

pub at_same : (b : List ℕ) {r : ℕ} (j : ℕ) {k : ℕ} → Is r (number_at b k) number_limit → k ≡ j → r ≡ number_at b j
at_same b j h e = (number_is b h e).is

-- what is said of a kind and an id is said of the node that has them
pub node-same :
    (w : List ℕ) (cms qs i : ℕ) {k d : ℕ} {r b : Bool} → k ≡ kind_in w i → d ≡ id_in w i → r ≡ leaf_there cms qs k d → r ≡ b → node_there w cms qs i ≡ b
node-same w cms qs i e g h q = ap₂ (leaf_there cms qs) (sym e) (sym g) ∙ sym h ∙ q

-- two intermediates, one after the other
module _ (b : List ℕ) (i : ℕ) {a : ℕ} (e : a ≡ im_at b) {r s : ℕ} (f : Is r (number_at b (a + 2 * i)) number_limit) (g : Is s (number_at b (a + 2 * (i + 1))) number_limit) where
  this : r ≡ im_of b i
  this = at_same b (im_at b + 2 * i) f (rw e)

  next : s ≡ im_of b (suc i)
  next = at_same b (im_at b + 2 * suc i) g (omega (arith, e))

  pub ascends-not : s ≤ r → ascends b i ≡ false
  ascends-not h = le-ltb (im_of b i) (im_of b (suc i)) (omega (arith, this, next, h))

  pub ascends-is : r < s → ascends b i ≡ true
  ascends-is h = lt-ltb (im_of b i) (im_of b (suc i)) (omega (arith, this, next, h))
