-- WHAT A PLAN THAT PASSES HAS: its size and the order of its intermediates, every expression that it names and every number that a leaf reads,
-- its bits and its counts. Assumes nothing.
use Rattle.std.specs.Prelude.{ℕ, zero, suc, ◌+◌, ◌-◌, ◌*◌, ◌<◌, ◌≤◌, ◌≡◌, false, ◌&&◌, List, ◌⊎◌, length, ltb}
use Rattle.std.proofs.Common.{sym, ◌∙◌, subst, inl, inr, arith, eq-or-lt_of_le, le_of_suc-le-suc, not-suc-le-zero}
use Rattle.std.proofs.Math.Bool.{true}
use Rattle.std.proofs.Math.Dec.{eqb, leb}
use borrow.Author.Tests.{eqb-true, eq-eqb, ne_eqb, leb-true, ltb-true}
use Rattle.kinds.specs.KindBytes as kind
use Rattle.frames.specs.Tables.{kind_in, id_in}
use Rattle.plans.specs.Plan.{n_bits, n_bits_ext, cm2, cm3, cm4, q_deg, c_exp, pu_count, im_count, q2exp_count, product_count, head_size, q2exp_at, end_at, number_at, f_of, t_of, num_of, den_of, im_of, every, ascends, ascending, Whole, is_plan}
use Rattle.plans.specs.Columns.{record_limit, record_count, fits}
use Rattle.plans.specs.Agreement.{bits_limit, blowup_limit, lookup_there, product_there, im_there, q2exp_there, node_there, names_there, leaves_there, bits_good, counts_agree}
use Rattle.plans.specs.Fails.{and_first, and_second, every_holds}

module _ (b : List ℕ) where
  -- ---- a record that is a plan

  pub plan-whole : is_plan b ≡ true → Whole b
  unfolding is_plan
  plan-whole e =
      let rest : (eqb (length b) (2 * end_at b) && ascending b) ≡ true = and_second (leb (2 * head_size) (length b)) _ e in
      (leb-true (2 * head_size) (length b) (and_first _ _ e), eqb-true (length b) (2 * end_at b) (and_first _ _ rest))

  plan-ascending : is_plan b ≡ true → ascending b ≡ true
  unfolding is_plan
  plan-ascending e = and_second (eqb (length b) (2 * end_at b)) (ascending b) (and_second (leb (2 * head_size) (length b)) _ e)

  ims-next : is_plan b ≡ true → (i : ℕ) → suc i < im_count b → im_of b i < im_of b (suc i)
  ims-next e i h = ltb-true (im_of b i) (im_of b (suc i)) (every_holds (ascends b) (im_count b - 1) (plan-ascending e) i (omega arith))

  -- no two intermediates are the same expression
  pub ims_ascend : is_plan b ≡ true → (k i : ℕ) → i < k → k < im_count b → im_of b i < im_of b k
  ims_ascend e zero i h l = absurd (not-suc-le-zero h)
  ims_ascend e (suc k) i h l = go (ims_ascend e k i) (eq-or-lt_of_le (le_of_suc-le-suc h))
    where
      next : im_of b k < im_of b (suc k)
      next = ims-next e k l

      go : (i < k → k < im_count b → im_of b i < im_of b k) → (i ≡ k) ⊎ (i < k) → im_of b i < im_of b (suc k)
      go ih (inl q) = subst (λ j. im_of b j < im_of b (suc k)) (sym q) next
      go ih (inr s) = let before : im_of b i < im_of b k = ih s (omega arith) in omega (arith, next)

  -- ---- a plan that fits

  pub few-records : fits b ≡ true → record_count b ≤ record_limit
  unfolding fits
  few-records e = leb-true (record_count b) record_limit e

  -- ---- what it names

  pub record NamesThere (m : ℕ) : Type 0 where
    pub f : (i : ℕ) → i < pu_count b → f_of b i < m
    pub t : (i : ℕ) → i < pu_count b → t_of b i < m
    pub num : (i : ℕ) → i < product_count b → num_of b i < m
    pub den : (i : ℕ) → i < product_count b → den_of b i < m
    pub im : (i : ℕ) → i < im_count b → im_of b i < m
    pub of_q : (i : ℕ) → i < q2exp_count b → number_at b (q2exp_at b + i) < m
    pub constraint : c_exp b < m

  module _ (m : ℕ) (e : names_there b m ≡ true) where
    parts : (every (lookup_there b m) (pu_count b) && (every (product_there b m) (product_count b) && (every (im_there b m) (im_count b) && (every (q2exp_there b m) (q2exp_count b) && ltb (c_exp b) m)))) ≡ true
    unfolding names_there
    parts = e

    lookups_pass : every (lookup_there b m) (pu_count b) ≡ true
    lookups_pass = and_first _ _ parts

    products_pass : every (product_there b m) (product_count b) ≡ true
    products_pass = and_first _ _ (and_second (every (lookup_there b m) (pu_count b)) _ parts)

    later : (every (im_there b m) (im_count b) && (every (q2exp_there b m) (q2exp_count b) && ltb (c_exp b) m)) ≡ true
    later = and_second (every (product_there b m) (product_count b)) _ (and_second (every (lookup_there b m) (pu_count b)) _ parts)

    last : (every (q2exp_there b m) (q2exp_count b) && ltb (c_exp b) m) ≡ true
    last = and_second (every (im_there b m) (im_count b)) _ later

    pub names-there : NamesThere m
    names-there = record {
      f = λ i h. ltb-true (f_of b i) m (and_first _ _ (every_holds (lookup_there b m) (pu_count b) lookups_pass i h));
      t = λ i h. ltb-true (t_of b i) m (and_second (ltb (f_of b i) m) _ (every_holds (lookup_there b m) (pu_count b) lookups_pass i h));
      num = λ i h. ltb-true (num_of b i) m (and_first _ _ (every_holds (product_there b m) (product_count b) products_pass i h));
      den = λ i h. ltb-true (den_of b i) m (and_second (ltb (num_of b i) m) _ (every_holds (product_there b m) (product_count b) products_pass i h));
      im = λ i h. ltb-true (im_of b i) m (every_holds (im_there b m) (im_count b) (and_first _ _ later) i h);
      of_q = λ i h. ltb-true (number_at b (q2exp_at b + i)) m (every_holds (q2exp_there b m) (q2exp_count b) (and_first _ _ last) i h);
      constraint = ltb-true (c_exp b) m (and_second (every (q2exp_there b m) (q2exp_count b)) _ last);
    }

  -- a pool of no more than a limit
  pub names-below : {m limit : ℕ} → m ≤ limit → NamesThere m → NamesThere limit
  names-below l h = record {
    f = λ i g. let k = h.f i g in omega (arith, k, l);
    t = λ i g. let k = h.t i g in omega (arith, k, l);
    num = λ i g. let k = h.num i g in omega (arith, k, l);
    den = λ i g. let k = h.den i g in omega (arith, k, l);
    im = λ i g. let k = h.im i g in omega (arith, k, l);
    of_q = λ i g. let k = h.of_q i g in omega (arith, k, l);
    constraint = let k = h.constraint in omega (arith, k, l);
  }

  -- ---- bits and counts

  pub record BitsIn : Type 0 where
    pub few : n_bits b ≤ bits_limit
    pub extended : n_bits b ≤ n_bits_ext b
    pub blown_up : n_bits_ext b ≤ n_bits b + blowup_limit

  pub bits_in : bits_good b ≡ true → BitsIn
  unfolding bits_good
  bits_in e =
      let rest : (leb (n_bits b) (n_bits_ext b) && leb (n_bits_ext b) (n_bits b + blowup_limit)) ≡ true = and_second (leb (n_bits b) bits_limit) _ e in
      record {
        few = leb-true (n_bits b) bits_limit (and_first _ _ e);
        extended = leb-true (n_bits b) (n_bits_ext b) (and_first _ _ rest);
        blown_up = leb-true (n_bits_ext b) (n_bits b + blowup_limit) (and_second (leb (n_bits b) (n_bits_ext b)) _ rest);
      }

  pub record Counts : Type 0 where
    pub second : cm2 b ≡ 2 * pu_count b
    pub third : cm3 b ≡ product_count b + im_count b
    pub fourth : cm4 b ≡ q_deg b

  pub counts-agree : counts_agree b ≡ true → Counts
  unfolding counts_agree
  counts-agree e =
      let rest : (eqb (cm3 b) (product_count b + im_count b) && eqb (cm4 b) (q_deg b)) ≡ true = and_second (eqb (cm2 b) (2 * pu_count b)) _ e in
      record {
        second = eqb-true (cm2 b) (2 * pu_count b) (and_first _ _ e);
        third = eqb-true (cm3 b) (product_count b + im_count b) (and_first _ _ rest);
        fourth = eqb-true (cm4 b) (q_deg b) (and_second (eqb (cm3 b) (product_count b + im_count b)) _ rest);
      }

-- ---- what leaves read

module _ (w : List ℕ) (n cms qs : ℕ) (e : leaves_there w n cms qs ≡ true) (i : ℕ) (h : i < n) where
  node-passes : node_there w cms qs i ≡ true
  unfolding leaves_there
  node-passes = every_holds (node_there w cms qs) n e i h

  pub cm-there : kind_in w i ≡ kind.cm → id_in w i < cms
  cm-there k = ltb-true (id_in w i) cms (sym (at (eq-eqb (kind_in w i) kind.cm k)) ∙ node-passes)
    where
      at : eqb (kind_in w i) kind.cm ≡ true → node_there w cms qs i ≡ ltb (id_in w i) cms
      at q = rw q

  pub q-there : kind_in w i ≡ kind.q → id_in w i < qs
  q-there k = ltb-true (id_in w i) qs (sym (at (ne_eqb (kind_in w i) kind.cm (λ c. omega (arith, k, c))) (eq-eqb (kind_in w i) kind.q k)) ∙ node-passes)
    where
      at : eqb (kind_in w i) kind.cm ≡ false → eqb (kind_in w i) kind.q ≡ true → node_there w cms qs i ≡ ltb (id_in w i) qs
      at p q = rw (p, q)
