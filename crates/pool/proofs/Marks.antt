-- What leaves mark, and the least of them that leads to a target, over plain lists.
-- Assumes nothing.
use Prim.Native.Nat.{ℕ, ◌<◌, ◌≤◌, min}
use mathlib.Core.Path.{◌≡◌, refl, sym, ◌∙◌, ap, subst}
use mathlib.Core.Bool.{Bool, true, false, cond}
use mathlib.Core.Option.{Option, none, some, none-ne-some, some-injective}
use mathlib.Core.List.{List, [], ◌∷◌, ◌++◌}
use mathlib.Core.Logic.{◌⊎◌, inl, inr, ⊎_elim}
use native.Mathlib.Omega.{arith}
use lib.ListN.{length, get_or, set, length-set}
use lib.Seq.{get_or-set_same, get_or-set_other}
use lib.Dec.{eqb, leb}
use borrow.Author.Tests.{eqb-true, eqb-false, leb-true, leb-false}
use Rattle.meaning.specs.Trees.{Leaf, Placed, ◌at◌, Each, Member}
use Rattle.pool.specs.Admission.{leads_to}
use Rattle.pool.specs.Cycles.{mark, nearer, marked, nearest, Spreads, LeastOf}

-- ── the least ────────────────────────────────────────────────────────────────
pub least-none : (Q : ℕ → Type 0) (b : ℕ) → ((n : ℕ) → Q n → ⊥) → LeastOf Q b b
least-none Q b h = record { low = omega arith; is = inl refl; below = λ n q. absurd (h n q) }

pub least-same : (Q S : ℕ → Type 0) → ((n : ℕ) → Q n → S n) → ((n : ℕ) → S n → Q n) → {b r : ℕ} → LeastOf Q b r → LeastOf S b r
least-same Q S f g {b} {r} h = record { low = h.low; is = ⊎_elim inl (λ q. inr (f r q)) h.is; below = λ n s. h.below n (g n s) }

-- of some, and then of others
pub least_more :
    (Q R S : ℕ → Type 0) → ((n : ℕ) → S n → Q n ⊎ R n) → ((n : ℕ) → Q n → S n) → ((n : ℕ) → R n → S n) →
    {b r r' : ℕ} → LeastOf Q b r → LeastOf R r r' → LeastOf S b r'
least_more Q R S cut f g {b} {r} {r'} h k = record {
  low = omega (arith, h.low, k.low);
  is = go k.is h.is;
  below = λ n s. ⊎_elim (λ q. omega (arith, h.below n q, k.low)) (λ q. k.below n q) (cut n s);
}
  where
    go : (r' ≡ r) ⊎ R r' → (r ≡ b) ⊎ Q r → (r' ≡ b) ⊎ S r'
    go (inl e) (inl q) = inl (e ∙ q)
    go (inl e) (inr q) = inr (subst S (sym e) (f r q))
    go (inr x) q = inr (g r' x)

-- ── one leaf after another ───────────────────────────────────────────────────
module _ (table : List ℕ) where
  marked_append : (xs ys : List Placed) (s : List ℕ) → marked table (xs ++ ys) s ≡ marked table ys (marked table xs s)
  unfolding marked
  marked_append [] ys s = refl
  marked_append (x ∷ xs) ys s = marked_append xs ys (mark (leads_to table x) s)

  module _ (u : ℕ) where
    nearest-append : (xs ys : List Placed) (b : ℕ) → nearest table u (xs ++ ys) b ≡ nearest table u ys (nearest table u xs b)
    unfolding nearest
    nearest-append [] ys b = refl
    nearest-append ((l at n) ∷ xs) ys b = nearest-append xs ys (nearer u (leads_to table (l at n)) n b)

    pub spreads_none : (s : List ℕ) (b : ℕ) → Spreads table u [] s b s b
    unfolding marked nearest
    spreads_none s b = record { marks = refl; least = refl }

    pub spreads_append :
        (xs ys : List Placed) {s s1 s2 : List ℕ} {b b1 b2 : ℕ} → Spreads table u xs s b s1 b1 → Spreads table u ys s1 b1 s2 b2 → Spreads table u (xs ++ ys) s b s2 b2
    spreads_append xs ys {s} {b = b} h k = record {
      marks = k.marks ∙ ap (marked table ys) h.marks ∙ sym (marked_append xs ys s);
      least = k.least ∙ ap (nearest table u ys) h.least ∙ sym (nearest-append xs ys b);
    }

    -- a leaf of these that leads to u
    abbrev pub LedBy : List Placed → ℕ → Type 0
    LedBy ws n = (l : Leaf) × Member (l at n) ws × (leads_to table (l at n) ≡ some u)

    abbrev One : Leaf → ℕ → ℕ → Type 0
    One l n k = (k ≡ n) × (leads_to table (l at n) ≡ some u)

    one-least : (l : Leaf) (n b : ℕ) → LeastOf (One l n) b (nearer u (leads_to table (l at n)) n b)
    one-least l n b = go (leads_to table (l at n)) refl
      where
        nearer-least : leads_to table (l at n) ≡ some u → (c : Bool) → leb b n ≡ c → LeastOf (One l n) b (min b n)
        nearer-least q true e = let h = leb-true b n e in record { low = omega arith; is = inl (omega arith); below = λ k w. omega (arith, w.0) }
        nearer-least q false e = let h = leb-false b n e in record { low = omega arith; is = inr (omega arith, q); below = λ k w. omega (arith, w.0) }

        led : (v : ℕ) → leads_to table (l at n) ≡ some v → (c : Bool) → eqb v u ≡ c → LeastOf (One l n) b (cond c (min b n) b)
        led v q true e = nearer-least (q ∙ ap some (eqb-true v u e)) (leb b n) refl
        led v q false e = least-none (One l n) b (λ k w. eqb-false v u e (some-injective _ _ (sym q ∙ w.1)))

        go : (o : Option ℕ) → leads_to table (l at n) ≡ o → LeastOf (One l n) b (nearer u o n b)
        go none q = least-none (One l n) b (λ k w. none-ne-some u (sym q ∙ w.1))
        go (some v) q = led v q (eqb v u) refl

    -- THE LEAST OF LEAVES is what it says
    pub nearest-is : (ws : List Placed) (b : ℕ) → LeastOf (LedBy ws) b (nearest table u ws b)
    unfolding nearest
    nearest-is [] b = least-none (LedBy []) b (λ n q. q.1)
    nearest-is ((l at n) ∷ ws) b =
        least_more (One l n) (LedBy ws) (LedBy ((l at n) ∷ ws)) cut back (λ k q. (q.0, inr q.1, q.2)) (one-least l n b) (nearest-is ws (nearer u (leads_to table (l at n)) n b))
      where
        same : {l k : Leaf} {n m : ℕ} → ◌≡◌ {A = Placed} (l at n) (k at m) → m ≡ n
        same e = cc

        cut : (k : ℕ) → LedBy ((l at n) ∷ ws) k → One l n k ⊎ LedBy ws k
        cut k (j, inl e, q) = inl (same e, ap (leads_to table) e ∙ q)
        cut k (j, inr m, q) = inr (j, m, q)

        back : (k : ℕ) → One l n k → LedBy ((l at n) ∷ ws) k
        back k (e, q) = (l, inl (ap (λ i. l at i) (sym e)), ap (λ i. leads_to table (l at i)) e ∙ q)

  -- ── marks ──────────────────────────────────────────────────────────────────
  abbrev pub Led : List Placed → ℕ → Type 0
  Led ws v = (w : Placed) × Member w ws × (leads_to table w ≡ some v)

  -- what one leaf, or a list of leaves, makes of marks: only what it leads to and is not reached is
  abbrev Grown : (ℕ → Type 0) → List ℕ → List ℕ → ℕ → Type 0
  Grown Q s s' v = (get_or s' v 0 ≡ get_or s v 0) ⊎ ((get_or s v 0 ≡ 0) × (get_or s' v 0 ≡ 1) × Q v)

  pub record After (ws : List Placed) (s s' : List ℕ) : Type 0 where
    pub size : length s' ≡ length s
    pub grown : (v : ℕ) → Grown (Led ws) s s' v
    pub all : Each (λ w. (v : ℕ) → leads_to table w ≡ some v → 1 ≤ get_or s' v 0) ws

  record Once (o : Option ℕ) (s s' : List ℕ) : Type 0 where
    pub size : length s' ≡ length s
    pub grown : (v : ℕ) → Grown (λ v. o ≡ some v) s s' v
    pub marks : (v : ℕ) → o ≡ some v → 1 ≤ get_or s' v 0

  once : (o : Option ℕ) (s : List ℕ) → ((v : ℕ) → o ≡ some v → v < length s) → Once o s (mark o s)
  once none s h = record { size = refl; grown = λ v. inl refl; marks = λ v q. absurd (none-ne-some v q) }
  once (some k) s h = go (eqb (get_or s k 0) 0) refl
    where
      set_grown : get_or s k 0 ≡ 0 → (v : ℕ) (c : Bool) → eqb v k ≡ c → Grown (λ v. some k ≡ some v) s (set s k 1) v
      set_grown z v true e =
          let q : v ≡ k = eqb-true v k e in
          inr (ap (λ j. get_or s j 0) q ∙ z, ap (λ j. get_or (set s k 1) j 0) q ∙ get_or-set_same s k 1 0 (h k refl), ap some (sym q))
      set_grown z v false e = inl (get_or-set_other s k v 1 0 (eqb-false v k e))

      go : (c : Bool) → eqb (get_or s k 0) 0 ≡ c → Once (some k) s (cond c (set s k 1) s)
      go true e = record {
        size = simp length-set;
        grown = λ v. set_grown (eqb-true _ _ e) v (eqb v k) refl;
        marks = λ v q. let i : k ≡ v = some-injective _ _ q in omega (arith, ap (λ j. get_or (set s k 1) j 0) (sym i) ∙ get_or-set_same s k 1 0 (h k refl));
      }
      go false e = record {
        size = refl;
        grown = λ v. inl refl;
        marks = λ v q. let i : k ≡ v = some-injective _ _ q in let n : get_or s k 0 ≡ 0 → ⊥ = eqb-false _ _ e in let z : get_or s v 0 ≡ get_or s k 0 = ap (λ j. get_or s j 0) (sym i) in let r : 1 ≤ get_or s v 0 = omega arith in r;
      }

  -- each of these leaves leads below n
  abbrev pub Below : ℕ → List Placed → Type 0
  Below n ws = Each (λ w. (v : ℕ) → leads_to table w ≡ some v → v < n) ws

  -- THE MARKS AFTER LEAVES are what they say
  pub marked-is : (ws : List Placed) (s : List ℕ) → Below (length s) ws → After ws s (marked table ws s)
  unfolding marked
  marked-is [] s h = record { size = refl; grown = λ v. inl refl; all = tt }
  marked-is (w ∷ ws) s h = join (once (leads_to table w) s h.0) (λ z. marked-is ws (mark (leads_to table w) s) (subst (λ n. Below n ws) (sym z) h.1))
    where
      both : (s1 s2 : List ℕ) (v : ℕ) → Grown (λ v. leads_to table w ≡ some v) s s1 v → Grown (Led ws) s1 s2 v → Grown (Led (w ∷ ws)) s s2 v
      both s1 s2 v (inl e) (inl f) = inl (f ∙ e)
      both s1 s2 v (inl e) (inr f) = inr (sym e ∙ f.0, f.1, (f.2.0, inr f.2.1, f.2.2))
      both s1 s2 v (inr e) (inl f) = inr (e.0, f ∙ e.1, (w, inl refl, e.2))
      both s1 s2 v (inr e) (inr f) = absurd (omega (arith, e.1, f.0))

      kept : (s1 s2 : List ℕ) (v : ℕ) → Grown (Led ws) s1 s2 v → 1 ≤ get_or s1 v 0 → 1 ≤ get_or s2 v 0
      kept s1 s2 v (inl e) l = omega (arith, e)
      kept s1 s2 v (inr e) l = omega (arith, e.1)

      join : {s1 s2 : List ℕ} → Once (leads_to table w) s s1 → (length s1 ≡ length s → After ws s1 s2) → After (w ∷ ws) s s2
      join {s1} {s2} o f =
          let k = f o.size in
          record { size = k.size ∙ o.size; grown = λ v. both s1 s2 v (o.grown v) (k.grown v); all = (λ v q. kept s1 s2 v (k.grown v) (o.marks v q), k.all) }
