-- Laws of the table's chains: a table of no cells, one cell more, and the walk down a chain.
-- Assumes nothing.
use Rattle.std.specs.Prelude.{ℕ, ◌+◌, ◌-◌, ◌<◌, ◌≤◌, ◌≡◌, refl, Bool, true, false, List, ◌⊎◌, length, get_or, set, replicate, eqb, ltb, Some, None}
use Rattle.std.proofs.Common.{sym, ◌∙◌, ap, inl, inr, eq-or-lt_of_le, mod-lt, arith, eqb-true, ltb-true, ltb-false}
use Rattle.std.proofs.Math.ListN.{length-set, get_or-eq_default}
use Rattle.std.proofs.lemmas.List.{length-replicate, get_or-replicate}
use Rattle.std.proofs.Math.Seq.{get_or-set_same, get_or-set_other}
use Rattle.std.proofs.lemmas.Bool.{eqb-false}
use Rattle.evaluator_cells.specs.Cells.{cell_limit, id_limit, id_in, index_of, Chained}
use Rattle.evaluator_cells.specs.Laws.Index.{index_at, index_none}

pub id-small : (key : ℕ) → id_in key < id_limit
unfolding id_in
id-small key = mod-lt key (omega arith)

-- ---- no cells

pub zeros : (n b : ℕ) → ◌≡◌ {A = ℕ} (get_or (replicate n 0) b 0) 0
zeros n b = by (ltb b n) refl
  where
    by : (t : Bool) → ltb b n ≡ t → ◌≡◌ {A = ℕ} (get_or (replicate n 0) b 0) 0
    by true e = get_or-replicate n b 0 0 (ltb-true b n e)
    by false e = get_or-eq_default (replicate n 0) 0 (rw length-replicate (ltb-false b n e))

pub chained-none : (hs ns ks : List ℕ) → hs ≡ replicate id_limit 0 → length hs ≡ id_limit → length ns ≡ cell_limit → length ks ≡ cell_limit → Chained hs ns ks 0
chained-none hs ns ks e a b c =
    let z : (x : ℕ) → get_or hs x 0 ≡ 0 = λ x. rw e (zeros id_limit x) in
    record {
      few = omega arith;
      head_size = a;
      next_size = b;
      key_size = c;
      head_below = λ x. omega (arith, z x);
      head_same = λ x l g. absurd (omega (arith, z x));
      head_last = λ j l. absurd (omega arith);
      next_below = λ i l. absurd (omega arith);
      next_same = λ i l g. absurd (omega arith);
      next_last = λ j i l g e. absurd (omega arith);
      apart = λ i j l g e. absurd (omega arith);
    }

-- ---- one cell more

-- an index is the new one or an older one
split : (i n : ℕ) → i < n + 1 → (i ≡ n) ⊎ (i < n)
split i n l = eq-or-lt_of_le {n = i} {m = n} (omega arith)

module _ (hs ns ks : List ℕ) (n key : ℕ) (c : Chained hs ns ks n) (room : n < cell_limit) (new : (j : ℕ) → j < n → get_or ks j 0 ≡ key → ⊥) where
  hs' : List ℕ
  hs' = set hs (id_in key) (n + 1)

  ns' : List ℕ
  ns' = set ns n (get_or hs (id_in key) 0)

  ks' : List ℕ
  ks' = set ks n key

  head-here : get_or hs' (id_in key) 0 ≡ n + 1
  unfolding hs'
  head-here = get_or-set_same hs (id_in key) (n + 1) 0 (rw c.head_size (id-small key))

  head-other : (b : ℕ) → (b ≡ id_in key → ⊥) → get_or hs' b 0 ≡ get_or hs b 0
  unfolding hs'
  head-other b h = get_or-set_other hs (id_in key) b (n + 1) 0 h

  next_here : get_or ns' n 0 ≡ get_or hs (id_in key) 0
  unfolding ns'
  next_here = get_or-set_same ns n (get_or hs (id_in key) 0) 0 (omega (arith, c.next_size))

  next-older : (i : ℕ) → i < n → get_or ns' i 0 ≡ get_or ns i 0
  unfolding ns'
  next-older i l = get_or-set_other ns n i (get_or hs (id_in key) 0) 0 (λ e. omega arith)

  key_here : get_or ks' n 0 ≡ key
  unfolding ks'
  key_here = get_or-set_same ks n key 0 (omega (arith, c.key_size))

  key-older : (i : ℕ) → i < n → get_or ks' i 0 ≡ get_or ks i 0
  unfolding ks'
  key-older i l = get_or-set_other ks n i key 0 (λ e. omega arith)

  head-below : (b : ℕ) → get_or hs' b 0 ≤ n + 1
  head-below b = by (eqb b (id_in key)) refl
    where
      by : (t : Bool) → eqb b (id_in key) ≡ t → get_or hs' b 0 ≤ n + 1
      by true e = rw (eqb-true b (id_in key) e, head-here) (omega arith)
      by false e = rw (head-other b (eqb-false b (id_in key) e)) (omega (arith, c.head_below b))

  head-same : (b : ℕ) → b < id_limit → 0 < get_or hs' b 0 → id_in (get_or ks' (get_or hs' b 0 - 1) 0) ≡ b
  head-same b l g = by (eqb b (id_in key)) refl g
    where
      by : (t : Bool) → eqb b (id_in key) ≡ t → 0 < get_or hs' b 0 → id_in (get_or ks' (get_or hs' b 0 - 1) 0) ≡ b
      by true e g =
          let q : get_or hs' b 0 - 1 ≡ n = rw (eqb-true b (id_in key) e, head-here) (omega arith) in
          rw (q, key_here) (sym (eqb-true b (id_in key) e))
      by false e g =
          let q : get_or hs' b 0 ≡ get_or hs b 0 = head-other b (eqb-false b (id_in key) e) in
          let p : 0 < get_or hs b 0 = rw q at g in
          rw (q, key-older (get_or hs b 0 - 1) (omega (arith, c.head_below b))) (c.head_same b l p)

  head-last : (j : ℕ) → j < n + 1 → j < get_or hs' (id_in (get_or ks' j 0)) 0
  head-last j l = by (split j n l)
    where
      older : (g : j < n) (t : Bool) → eqb (id_in (get_or ks j 0)) (id_in key) ≡ t → j < get_or hs' (id_in (get_or ks' j 0)) 0
      older g true e = rw (key-older j g, eqb-true (id_in (get_or ks j 0)) (id_in key) e, head-here) (omega arith)
      older g false e = rw (key-older j g, head-other (id_in (get_or ks j 0)) (eqb-false (id_in (get_or ks j 0)) (id_in key) e)) (c.head_last j g)

      by : (j ≡ n) ⊎ (j < n) → j < get_or hs' (id_in (get_or ks' j 0)) 0
      by (inl e) = rw (e, key_here, head-here) (omega arith)
      by (inr g) = older g (eqb (id_in (get_or ks j 0)) (id_in key)) refl

  next-below : (i : ℕ) → i < n + 1 → get_or ns' i 0 ≤ i
  next-below i l = by (split i n l)
    where
      by : (i ≡ n) ⊎ (i < n) → get_or ns' i 0 ≤ i
      by (inl e) = rw (e, next_here) (c.head_below (id_in key))
      by (inr g) = rw (next-older i g) (c.next_below i g)

  next-same : (i : ℕ) → i < n + 1 → 0 < get_or ns' i 0 → id_in (get_or ks' (get_or ns' i 0 - 1) 0) ≡ id_in (get_or ks' i 0)
  next-same i l g = by (split i n l)
    where
      by : (i ≡ n) ⊎ (i < n) → id_in (get_or ks' (get_or ns' i 0 - 1) 0) ≡ id_in (get_or ks' i 0)
      by (inl e) =
          let q : get_or ns' i 0 ≡ get_or hs (id_in key) 0 = rw e next_here in
          let p : 0 < get_or hs (id_in key) 0 = rw q at g in
          rw (q, key-older (get_or hs (id_in key) 0 - 1) (omega (arith, c.head_below (id_in key))), e, key_here) (c.head_same (id_in key) (id-small key) p)
      by (inr h) =
          let q : get_or ns' i 0 ≡ get_or ns i 0 = next-older i h in
          let p : 0 < get_or ns i 0 = rw q at g in
          rw (q, key-older (get_or ns i 0 - 1) (omega (arith, c.next_below i h)), key-older i h) (c.next_same i h p)

  next_last_lem : (j i : ℕ) → j < i → i < n + 1 → id_in (get_or ks' j 0) ≡ id_in (get_or ks' i 0) → j < get_or ns' i 0
  next_last_lem j i l g q = by (split i n g)
    where
      by : (i ≡ n) ⊎ (i < n) → j < get_or ns' i 0
      by (inl e) =
          let o : j < n = omega arith in
          let s : id_in (get_or ks j 0) ≡ id_in key = rw (key-older j o, e, key_here) at q in
          rw (e, next_here) (rw s at (c.head_last j o))
      by (inr h) =
          let o : j < n = omega arith in
          let s : id_in (get_or ks j 0) ≡ id_in (get_or ks i 0) = rw (key-older j o, key-older i h) at q in
          rw (next-older i h) (c.next_last j i l h s)

  apart' : (i j : ℕ) → i < n + 1 → j < n + 1 → get_or ks' i 0 ≡ get_or ks' j 0 → i ≡ j
  apart' i j l g q = by (split i n l) (split j n g)
    where
      by : (i ≡ n) ⊎ (i < n) → (j ≡ n) ⊎ (j < n) → i ≡ j
      by (inl e) (inl f) = e ∙ sym f
      by (inl e) (inr h) =
          let s : key ≡ get_or ks j 0 = rw (e, key_here, key-older j h) at q in
          absurd (new j h (sym s))
      by (inr h) (inl f) =
          let s : get_or ks i 0 ≡ key = rw (key-older i h, f, key_here) at q in
          absurd (new i h s)
      by (inr h) (inr k) =
          let s : get_or ks i 0 ≡ get_or ks j 0 = rw (key-older i h, key-older j k) at q in
          c.apart i j h k s

  pub chained_more : Chained (set hs (id_in key) (n + 1)) (set ns n (get_or hs (id_in key) 0)) (set ks n key) (n + 1)
  unfolding hs' ns' ks'
  chained_more =
      record {
        few = omega arith;
        head_size = length-set hs (id_in key) (n + 1) ∙ c.head_size;
        next_size = length-set ns n (get_or hs (id_in key) 0) ∙ c.next_size;
        key_size = length-set ks n key ∙ c.key_size;
        head_below = head-below;
        head_same = head-same;
        head_last = head-last;
        next_below = next-below;
        next_same = next-same;
        next_last = next_last_lem;
        apart = apart';
      }

-- ---- the walk down a chain

-- where the walk stands at number `at` less one, or past the chain's end: no cell after that has the key
pub record Walked (ks : List ℕ) (n key at : ℕ) : Type 0 where
  pub below : at ≤ n
  pub same : 0 < at → id_in (get_or ks (at - 1) 0) ≡ id_in key
  pub passed : (j : ℕ) → j < n → get_or ks j 0 ≡ key → j < at

module _ {hs ns ks : List ℕ} {n : ℕ} (c : Chained hs ns ks n) where
  pub walk_begins : (key : ℕ) → Walked ks n key (get_or hs (id_in key) 0)
  walk_begins key =
      record {
        below = c.head_below (id_in key);
        same = λ g. c.head_same (id_in key) (id-small key) g;
        passed = λ j l e. rw e at (c.head_last j l);
      }

  pub walk_goes_on : {key at : ℕ} → Walked ks n key at → 0 < at → (get_or ks (at - 1) 0 ≡ key → ⊥) → Walked ks n key (get_or ns (at - 1) 0)
  walk_goes_on {key} {at} w g h =
      let i : at - 1 < n = omega (arith, w.below) in
      record {
        below = omega (arith, c.next_below (at - 1) i);
        same = λ p. c.next_same (at - 1) i p ∙ w.same g;
        passed = λ j l e. by j l e (eq-or-lt_of_le {n = j} {m = at - 1} (omega (arith, w.passed j l e)));
      }
    where
      by : (j : ℕ) → j < n → get_or ks j 0 ≡ key → (j ≡ at - 1) ⊎ (j < at - 1) → j < get_or ns (at - 1) 0
      by j l e (inl q) = absurd (h (rw (← q) e))
      by j l e (inr k) = c.next_last j (at - 1) k (omega (arith, w.below)) (ap id_in e ∙ sym (w.same g))

  pub walk_finds : {key at : ℕ} → Walked ks n key at → 0 < at → get_or ks (at - 1) 0 ≡ key → Some (at - 1) ≡ index_of ks n key
  walk_finds {key} {at} w g e =
      let i : at - 1 < n = omega (arith, w.below) in
      sym (index_at ks n key (at - 1) i e (λ j l q. c.apart j (at - 1) l i (q ∙ sym e)))

  pub walk_ends : {key at : ℕ} → Walked ks n key at → at ≤ 0 → None ≡ index_of ks n key
  walk_ends {key} {at} w g = sym (index_none ks n key (λ j l e. omega (arith, w.passed j l e)))
