-- Laws of the table of a pool's literals modulo m.
-- Assumes nothing.
use Rattle.std.specs.Prelude.{ℕ, zero, suc, ◌+◌, ◌<◌, ◌≤◌, ◌≡◌, refl, Bool, true, false, List, [], ◌∷◌, length, get_or, set, replicate, eqb, ltb}
use Rattle.std.proofs.Common.{sym, ◌∙◌, ap, mod-eq_of_lt, length-set, get_or-set_same, get_or-set_other, lt-ltb, le-ltb, ltb-true, ltb-false, eqb-true}
use Rattle.std.proofs.Math.Option.{none}
use native.Mathlib.Omega.{arith}
use Rattle.std.proofs.lemmas.List.{length-replicate}
use Rattle.std.proofs.Math.ListN.{get_or-eq_default}
use Rattle.std.proofs.lemmas.Bool.{eqb-false}
use Rattle.kinds.specs.Kinds.{carries_literal, takes_i64}
use Rattle.kinds.specs.Range.{within}
use Rattle.meaning.specs.Trees.{Lit, lit, nth}
use Rattle.meaning.specs.Models.{lit_mod}
use Rattle.frames.specs.Order.{node_limit}
use Rattle.pool.specs.Pool.{blank}
use Rattle.pool.specs.Tabled.{Tables, tabled}
use Rattle.pool.specs.Laws.Tabled.{node-count, node_at}
use Rattle.output.specs.Records.{brought_by, literal_in}
use Rattle.evaluator_cells.specs.Numbers.{Modulus}
use Rattle.evaluator_cells.specs.Literals.{brought_at, number_in, NumberAsks, NumbersAre, Reduced, NumbersOf}
use Rattle.evaluator_cells.specs.Laws.Chains.{zeros}
use Rattle.evaluator_cells.specs.Laws.Arithmetic.{lit-below}

pub past-none : {ns : List ℕ} → NumberAsks ns → (n : ℕ) → node_limit ≤ n → 0 ≡ get_or ns n 0
past-none {ns} a n h = sym (get_or-eq_default ns 0 (omega (arith, a.size)))

module _ (nodes literals : List ℕ) (m : ℕ) where
  number-first : (k n : ℕ) → n < k → number_in nodes literals m k n ≡ lit_mod m (literal_in nodes literals n)
  unfolding number_in
  number-first k n h = rw (lt-ltb n k h)

  number_past : (k n : ℕ) → k ≤ n → number_in nodes literals m k n ≡ 0
  unfolding number_in
  number_past k n h = rw (le-ltb n k h)

  -- ---- the table as it is filled

  -- the first k are there
  pub record Filled (ns : List ℕ) (k : ℕ) : Type 0 where
    pub size : length ns ≡ node_limit
    pub each : (n : ℕ) → get_or ns n 0 ≡ number_in nodes literals m k n

  pub fill_begins : (ns : List ℕ) → ns ≡ replicate node_limit 0 → Filled ns 0
  fill_begins ns e =
      record {
        size = rw e (length-replicate {A = ℕ} node_limit 0);
        each = λ n. rw e (zeros node_limit n ∙ sym (number_past 0 n (omega arith)));
      }

  pub fill-next : (ns : List ℕ) (k v : ℕ) (l : Lit) → Filled ns k → k < node_limit → l ≡ literal_in nodes literals k → v ≡ lit_mod m l → Filled (set ns k v) (k + 1)
  fill-next ns k v l f h e q =
      record {
        size = length-set ns k v ∙ f.size;
        each = λ n. by n (eqb n k) refl (ltb n k) refl;
      }
    where
      by : (n : ℕ) (b : Bool) → eqb n k ≡ b → (c : Bool) → ltb n k ≡ c → get_or (set ns k v) n 0 ≡ number_in nodes literals m (k + 1) n
      by n true b' c c' =
          let z : n ≡ k = eqb-true n k b' in
          rw (z, get_or-set_same ns k v 0 (omega (arith, f.size)), q, e) (sym (number-first (k + 1) k (omega arith)))
      by n false b' true c' =
          let l = ltb-true n k c' in
          rw (get_or-set_other ns k n v 0 (eqb-false n k b')) (f.each n ∙ number-first k n l ∙ sym (number-first (k + 1) n (omega arith)))
      by n false b' false c' =
          let d = eqb-false n k b' in
          let g = ltb-false n k c' in
          rw (get_or-set_other ns k n v 0 (eqb-false n k b')) (f.each n ∙ number_past k n g ∙ sym (number_past (k + 1) n (past d g)))
        where
          past : (n ≡ k → ⊥) → k ≤ n → k + 1 ≤ n
          past d g = omega arith

  pub fill-ends : (ns : List ℕ) (k count : ℕ) → Filled ns k → k ≤ count → count ≤ k → NumbersAre nodes literals m count ns
  fill-ends ns k count f a b =
      let q : count ≡ k = omega arith in
      rw q (record { size = f.size; each = f.each })

-- ---- of a pool

nth-none : {A : Type 0} (l : List A) (n : ℕ) → length l ≤ n → nth l n ≡ none
nth-none [] n h = refl
nth-none (x ∷ l) zero h = absurd (omega arith)
nth-none (x ∷ l) (suc n) h = nth-none l n (omega arith)

blank_brings : brought_by blank ≡ lit false 0
unfolding brought_by carries_literal takes_i64 within
blank_brings = refl

module _ (t : Tables) (m : ℕ) (o : Modulus m) where
  there-is : (n : ℕ) → t.node_count ≤ node_limit → n < t.node_count → lit_mod m (literal_in t.nodes t.literals n) ≡ lit_mod m (brought_at (tabled t) n)
  unfolding literal_in
  there-is n few l =
      let h : n < node_limit = omega arith in
      rw (lt-ltb n node_limit h) (ap (λ x. lit_mod m (brought_by x)) (sym (node_at t n l)))

  past_is : (n : ℕ) → t.node_count ≤ n → lit_mod m (brought_at (tabled t) n) ≡ 0
  past_is n l =
      let z : nth (tabled t).nodes n ≡ none = nth-none (tabled t).nodes n (omega (arith, node-count t)) in
      rw (z, blank_brings) (mod-eq_of_lt {n = 0} {m = m} (omega (arith, o.from)))

  -- the table is that of the pool
  pub numbers_of : (ns : List ℕ) → t.node_count ≤ node_limit → NumbersAre t.nodes t.literals m t.node_count ns → NumbersOf (brought_at (tabled t)) m ns
  numbers_of ns few h n = h.each n ∙ by (ltb n t.node_count) refl
    where
      by : (b : Bool) → ltb n t.node_count ≡ b → number_in t.nodes t.literals m t.node_count n ≡ lit_mod m (brought_at (tabled t) n)
      by true e = let l = ltb-true n t.node_count e in number-first t.nodes t.literals m t.node_count n l ∙ there-is n few l
      by false e = let l = ltb-false n t.node_count e in number_past t.nodes t.literals m t.node_count n l ∙ sym (past_is n l)

-- every number of the table is below m
pub numbers-below : (L : ℕ → Lit) (m : ℕ) (ns : List ℕ) → Modulus m → NumbersOf L m ns → length ns ≡ node_limit → Reduced ns m
numbers-below L m ns o h s = record { size = s; below = λ n. rw (h n) (lit-below m (L n) o) }
