-- WHEN A PLAN IS REFUSED, as a person would state it: 1, 9, 3, 16 and 11, of its bytes and of a pool's nodes. Each test fails EXACTLY WHEN that is so.
-- Assumes nothing.
use Rattle.std.specs.Prelude.{ℕ, suc, ◌+◌, ◌-◌, ◌*◌, ◌<◌, ◌≤◌, ◌≡◌, refl, Bool, true, false, cond, List, ◌⊎◌, ◌↔◌, length, eqb, ltb}
use Rattle.std.proofs.Common.{sym, ◌∙◌, true≢false, inl, inr, arith, add-one, eqb-true, eq-eqb, ne_eqb}
use Rattle.kinds.specs.KindBytes as kind
use Rattle.frames.specs.Tables.{kind_in, id_in}
use Rattle.plans.specs.Plan.{n_bits, n_bits_ext, cm2, cm3, cm4, q_deg, c_exp, pu_count, pe_count, ci_count, im_count, q2exp_count, product_count, head_size, q2exp_at, end_at, number_at, f_of, t_of, num_of, den_of, im_of, ascending, is_plan}
use Rattle.plans.specs.Columns.{record_limit, record_count, fits}
use Rattle.plans.specs.Agreement.{bits_limit, blowup_limit, leaf_there, names_there, leaves_there, bits_good, counts_agree}
use Rattle.plans.specs.Fails.{Fails, fails_as, below_fails, most-fails, same-fails, and-fails, some_fail}

module _ (b : List ℕ) where
  -- ── 1 ──────────────────────────────────────────────────────────────────────
  -- it is shorter than its head
  abbrev pub TooShort : Type 0
  TooShort = length b < 2 * head_size

  -- or not as long as its counts say
  abbrev pub WrongSize : Type 0
  WrongSize = length b ≡ 2 * end_at b → ⊥

  -- or two neighbouring intermediates do not ascend
  abbrev pub SomeNotAscending : Type 0
  SomeNotAscending = (i : ℕ) × (i + 1 < im_count b) × (im_of b (i + 1) ≤ im_of b i)

  not-ascending : Fails (ascending b) SomeNotAscending
  not-ascending = fails_as (some_fail (λ i. below_fails (im_of b i) (im_of b (suc i))) (im_count b - 1)) to back
    where
      to : ((i : ℕ) × (i < im_count b - 1) × (im_of b (suc i) ≤ im_of b i)) → SomeNotAscending
      to s = (s.0, let h : s.0 < im_count b - 1 = s.1 in omega arith, rw (add-one s.0) s.2)

      back : SomeNotAscending → (i : ℕ) × (i < im_count b - 1) × (im_of b (suc i) ≤ im_of b i)
      back s = (s.0, let h : s.0 + 1 < im_count b = s.1 in omega arith, rw (add-one s.0) at s.2)

  pub exactly-malformed : (is_plan b ≡ false) ↔ (TooShort ⊎ (WrongSize ⊎ SomeNotAscending))
  unfolding is_plan
  exactly-malformed = and-fails (most-fails (2 * head_size) (length b)) (and-fails (same-fails (length b) (2 * end_at b)) not-ascending)

  -- ── 9 ──────────────────────────────────────────────────────────────────────
  -- `map` would make more than 4,096 records
  pub exactly-over : (fits b ≡ false) ↔ (record_limit < record_count b)
  unfolding fits
  exactly-over = most-fails (record_count b) record_limit

  -- ── 3 ──────────────────────────────────────────────────────────────────────
  module _ (m : ℕ) where
    -- f or t of some pu is not below m
    abbrev pub SomeLookupLost : Type 0
    SomeLookupLost = (i : ℕ) × (i < pu_count b) × ((m ≤ f_of b i) ⊎ (m ≤ t_of b i))

    -- or num or den of some grand product
    abbrev pub SomeProductLost : Type 0
    SomeProductLost = (i : ℕ) × (i < product_count b) × ((m ≤ num_of b i) ⊎ (m ≤ den_of b i))

    -- or some intermediate
    abbrev pub SomeImLost : Type 0
    SomeImLost = (i : ℕ) × (i < im_count b) × (m ≤ im_of b i)

    -- or some q's expression
    abbrev pub SomeQ2expLost : Type 0
    SomeQ2expLost = (i : ℕ) × (i < q2exp_count b) × (m ≤ number_at b (q2exp_at b + i))

    -- or c_exp
    abbrev pub CExpLost : Type 0
    CExpLost = m ≤ c_exp b

    abbrev pub SomeNameLost : Type 0
    SomeNameLost = SomeLookupLost ⊎ (SomeProductLost ⊎ (SomeImLost ⊎ (SomeQ2expLost ⊎ CExpLost)))

    pub exactly-lost : (names_there b m ≡ false) ↔ SomeNameLost
    unfolding names_there
    exactly-lost =
        and-fails (some_fail (λ i. and-fails (below_fails (f_of b i) m) (below_fails (t_of b i) m)) (pu_count b))
        (and-fails (some_fail (λ i. and-fails (below_fails (num_of b i) m) (below_fails (den_of b i) m)) (product_count b))
        (and-fails (some_fail (λ i. below_fails (im_of b i) m) (im_count b))
        (and-fails (some_fail (λ i. below_fails (number_at b (q2exp_at b + i)) m) (q2exp_count b)) (below_fails (c_exp b) m))))

  -- ── 16 and 11 ──────────────────────────────────────────────────────────────
  -- n_bits is above 24, or n_bits_ext is below n_bits or above n_bits + 4
  abbrev pub BitsOut : Type 0
  BitsOut = (bits_limit < n_bits b) ⊎ ((n_bits_ext b < n_bits b) ⊎ (n_bits b + blowup_limit < n_bits_ext b))

  pub exactly-bits : (bits_good b ≡ false) ↔ BitsOut
  unfolding bits_good
  exactly-bits = and-fails (most-fails (n_bits b) bits_limit) (and-fails (most-fails (n_bits b) (n_bits_ext b)) (most-fails (n_bits_ext b) (n_bits b + blowup_limit)))

  -- n_cm2 is not 2 pu, or n_cm3 not pu + pe + ci + intermediates, or n_cm4 not q_deg
  abbrev pub CountsDiffer : Type 0
  CountsDiffer = (cm2 b ≡ 2 * pu_count b → ⊥) ⊎ ((cm3 b ≡ pu_count b + pe_count b + ci_count b + im_count b → ⊥) ⊎ (cm4 b ≡ q_deg b → ⊥))

  pub exactly-counts : (counts_agree b ≡ false) ↔ CountsDiffer
  unfolding counts_agree
  exactly-counts = and-fails (same-fails (cm2 b) (2 * pu_count b)) (and-fails third (same-fails (cm4 b) (q_deg b)))
    where
      third : Fails (eqb (cm3 b) (product_count b + im_count b)) (cm3 b ≡ pu_count b + pe_count b + ci_count b + im_count b → ⊥)
      third = fails_as (same-fails (cm3 b) (product_count b + im_count b)) (λ n e. n (omega (arith, e))) (λ n e. n (omega (arith, e)))

-- ── 3, of a pool's nodes ─────────────────────────────────────────────────────
-- a cm leaf's number is not below the first count, a q leaf's not below the second
abbrev pub LeafLost : ℕ → ℕ → ℕ → ℕ → Type 0
LeafLost cms qs k d = ((k ≡ kind.cm) × (cms ≤ d)) ⊎ ((k ≡ kind.q) × (qs ≤ d))

pub leaf-fails : (cms qs k d : ℕ) → Fails (leaf_there cms qs k d) (LeafLost cms qs k d)
leaf-fails cms qs k d = (λ e. to (eqb k kind.cm) refl (eqb k kind.q) refl e, back)
  where
    at : (a : Bool) → eqb k kind.cm ≡ a → (c : Bool) → eqb k kind.q ≡ c → leaf_there cms qs k d ≡ cond a (ltb d cms) (cond c (ltb d qs) true)
    at a p c q = rw (p, q)

    to : (a : Bool) → eqb k kind.cm ≡ a → (c : Bool) → eqb k kind.q ≡ c → leaf_there cms qs k d ≡ false → LeafLost cms qs k d
    to true p c q e = inl (eqb-true k kind.cm p, (below_fails d cms).0 (sym (at true p c q) ∙ e))
    to false p true q e = inr (eqb-true k kind.q q, (below_fails d qs).0 (sym (at false p true q) ∙ e))
    to false p false q e = absurd (true≢false (sym (at false p false q) ∙ e))

    back : LeafLost cms qs k d → leaf_there cms qs k d ≡ false
    back (inl h) = at true (eq-eqb k kind.cm h.0) (eqb k kind.q) refl ∙ (below_fails d cms).1 h.1
    back (inr h) =
        let is : k ≡ kind.q = h.0 in
        at false (ne_eqb k kind.cm (λ e. omega (arith, is, e))) true (eq-eqb k kind.q is) ∙ (below_fails d qs).1 h.1

module _ (w : List ℕ) (n cms qs : ℕ) where
  -- some node below n, dead or not, is such a leaf
  abbrev pub SomeLeafLost : Type 0
  SomeLeafLost = (i : ℕ) × (i < n) × LeafLost cms qs (kind_in w i) (id_in w i)

  pub exactly-leaf-lost : (leaves_there w n cms qs ≡ false) ↔ SomeLeafLost
  unfolding leaves_there
  exactly-leaf-lost = some_fail (λ i. leaf-fails cms qs (kind_in w i) (id_in w i)) n
