-- NO DIMENSION OF A PLAN IS ABOVE 3: neither that of a cm nor that of an expression. Assumes nothing.
use Prim.Native.Nat.{ℕ, zero, suc, ◌+◌, ◌≤◌, max}
use Rattle.std.specs.Prelude.{◌≡◌, refl, Bool, ◌||◌, cond, List, length, get_or, set, replicate, eqb, ltb}
use Rattle.std.proofs.Common.{sym, subst, arith, length-set, get_or-set_same, get_or-set_other, eqb-true, ltb-true, ltb-false}
use Rattle.std.proofs.Math.Bool.{true, false}
use Rattle.std.proofs.Math.Option.{Option, none, some}
use Rattle.std.proofs.lemmas.List.{length-replicate, get_or-replicate}
use Rattle.std.proofs.Math.ListN.{get_or-eq_default}
use Rattle.std.proofs.lemmas.Bool.{eqb-false}
use Rattle.meaning.specs.Trees.{RowKind, FlatKind, XKind, Leaf, Expr, nth}
use Rattle.pool.specs.Pool.{Pool, root_of}
use Rattle.pool.specs.Trees.{tree}
use Rattle.exp_dims.specs.Dimension.{through, leaf_dim, tree_dim, dim_below, exp_dim}
use Rattle.plans.specs.Plan.{cm1, cm2, cm3, q_deg, c_exp, pu_count, im_count, product_count, f_of, t_of, num_of, den_of, im_of, q2exp}
use Rattle.plans.specs.Columns.{among, is_im}
use Rattle.map_records.specs.Mapping.{cm_limit, Mapping, pol, pair, grown, column, cm1s, h_at, z_at, lookup, lookup_dim, lookups, products, dim_in, intermediates, quotient_dim, quotients, mapped}

abbrev pub Low : List ℕ → Type 0
Low ds = (i : ℕ) → get_or ds i 0 ≤ 3

-- ---- of expressions

module _ (dims table : List ℕ) (low : Low dims) where
  leaf-low : (f : ℕ → ℕ) → ((u : ℕ) → f u ≤ 3) → (l : Leaf) → leaf_dim dims table f l ≤ 3
  leaf-low f h (Leaf.cell RowKind.cm i a) = low i
  leaf-low f h (Leaf.cell RowKind.const i a) = omega arith
  leaf-low f h (Leaf.cell RowKind.q i a) = go (nth table i)
    where
      go : (o : Option ℕ) → through dims table f o ≤ 3
      go none = omega arith
      go (some u) = h u
  leaf-low f h (Leaf.exp i a) = h i
  leaf-low f h (Leaf.number l) = omega arith
  leaf-low f h (Leaf.flat FlatKind.public i) = omega arith
  leaf-low f h (Leaf.flat FlatKind.challenge i) = omega arith
  leaf-low f h (Leaf.flat FlatKind.eval i) = omega arith
  leaf-low f h (Leaf.x XKind.x_div_x_sub_xi) = omega arith
  leaf-low f h (Leaf.x XKind.x_div_x_sub_w_xi) = omega arith
  leaf-low f h (Leaf.x XKind.plain_x) = omega arith

  max-low : (a b : ℕ) → a ≤ 3 → b ≤ 3 → max a b ≤ 3
  max-low a b h k = omega arith

  tree-low : (f : ℕ → ℕ) → ((u : ℕ) → f u ≤ 3) → (t : Expr) → tree_dim dims table f t ≤ 3
  tree-low f h (Expr.leaf n l) = leaf-low f h l
  tree-low f h (Expr.bin n o a b) = max-low _ _ (max-low _ _ (omega arith) (tree-low f h a)) (tree-low f h b)
  tree-low f h (Expr.muladd n a b c) = max-low _ _ (max-low _ _ (max-low _ _ (omega arith) (tree-low f h a)) (tree-low f h b)) (tree-low f h c)
  tree-low f h (Expr.binc n o a l) = max-low _ _ (omega arith) (tree-low f h a)
  tree-low f h (Expr.neg n a) = max-low _ _ (omega arith) (tree-low f h a)

  below-low : (p : Pool) (m e : ℕ) → dim_below dims table p m e ≤ 3
  below-low p zero e = omega arith
  below-low p (suc m) e = tree-low (dim_below dims table p m) (below-low p m) (tree p (root_of p e))

  pub dim-low : (p : Pool) (e : ℕ) → exp_dim dims table p e ≤ 3
  unfolding exp_dim
  dim-low p e = below-low p (length p.expressions) e

-- ---- of cm

set-low : (ds : List ℕ) (k d : ℕ) → d ≤ 3 → Low ds → Low (set ds k d)
set-low ds k d h low i = by (eqb i k) refl
  where
    within : (t : Bool) → ltb k (length ds) ≡ t → i ≡ k → get_or (set ds k d) i 0 ≤ 3
    within true p e = subst (λ j. get_or (set ds k d) j 0 ≤ 3) (sym e) (let z = get_or-set_same ds k d 0 (ltb-true k (length ds) p) in omega (arith, z))
    within false p e = let z : get_or (set ds k d) i 0 ≡ 0 = get_or-eq_default (set ds k d) 0 (omega (arith, length-set ds k d, ltb-false k (length ds) p)) in omega (arith, z)

    by : (t : Bool) → eqb i k ≡ t → get_or (set ds k d) i 0 ≤ 3
    by true p = within (ltb k (length ds)) refl (eqb-true i k p)
    by false p = let z = get_or-set_other ds k i d 0 (eqb-false i k p) in omega (arith, z, low i)

abbrev LowIn : Mapping → Type 0
LowIn m = Low m.cm_dims

pair-low : (s k d : ℕ) (m : Mapping) → d ≤ 3 → LowIn m → LowIn (pair s k d m)
pair-low s k d m h low = set-low m.cm_dims k d h low

zeros-low : (n i : ℕ) → get_or (replicate {A = ℕ} n 0) i 0 ≤ 3
zeros-low n i = by (ltb i n) refl
  where
    by : (t : Bool) → ltb i n ≡ t → get_or (replicate {A = ℕ} n 0) i 0 ≤ 3
    by true p = let z = get_or-replicate {A = ℕ} n i 0 0 (ltb-true i n p) in omega (arith, z)
    by false p = let z : get_or (replicate {A = ℕ} n 0) i 0 ≡ 0 = get_or-eq_default (replicate {A = ℕ} n 0) 0 (omega (arith, length-replicate {A = ℕ} n 0, ltb-false i n p)) in omega (arith, z)

module _ (b : List ℕ) where
  column-low : (e d : ℕ) (m : Mapping) → LowIn m → LowIn (column b e d m)
  unfolding column
  column-low e d m h = go (is_im b e || among e m.columns)
    where
      go : (t : Bool) → LowIn (cond t m (grown b e (pol 4 d m)))
      go true = h
      go false = h

  module _ (p : Pool) where
    in_low : (m : Mapping) → LowIn m → (e : ℕ) → dim_in b p m e ≤ 3
    in_low m h e = dim-low m.cm_dims (q2exp b) h p e

    cm1s-low : (i : ℕ) → LowIn (cm1s b p i)
    unfolding cm1s
    cm1s-low zero = zeros-low cm_limit
    cm1s-low (suc i) = pair-low 0 i 1 (cm1s b p i) (omega arith) (cm1s-low i)

    lookup-low : (i d : ℕ) (m : Mapping) → d ≤ 3 → LowIn m → LowIn (lookup b p i d m)
    lookup-low i d m l h =
        let m1 : Mapping = pair 1 (h_at b p i) d m in
        let m2 : Mapping = pair 1 (h_at b p i + 1) d m1 in
        column-low (t_of b i) d (column b (f_of b i) d m2)
        (column-low (f_of b i) d m2 (pair-low 1 (h_at b p i + 1) d m1 l (pair-low 1 (h_at b p i) d m l h)))

    lookups-low : (i : ℕ) → LowIn (lookups b p i)
    unfolding lookups
    lookups-low zero = cm1s-low (cm1 b)
    lookups-low (suc i) =
        let m : Mapping = lookups b p i in
        lookup-low i (lookup_dim b p i m) m (omega (arith, in_low m (lookups-low i) (f_of b i), in_low m (lookups-low i) (t_of b i))) (lookups-low i)

    products_low : (i : ℕ) → LowIn (products b p i)
    unfolding products
    products_low zero = lookups-low (pu_count b)
    products_low (suc i) =
        let m1 : Mapping = pair 2 (z_at b p i) 3 (products b p i) in
        column-low (den_of b i) 3 (column b (num_of b i) 3 m1) (column-low (num_of b i) 3 m1 (pair-low 2 (z_at b p i) 3 (products b p i) (omega arith) (products_low i)))

    intermediates-low : (i : ℕ) → LowIn (intermediates b p i)
    unfolding intermediates
    intermediates-low zero = products_low (product_count b)
    intermediates-low (suc i) =
        let m : Mapping = intermediates b p i in
        pair-low 2 (z_at b p i) (dim_in b p m (im_of b i)) m (in_low m (intermediates-low i) (im_of b i)) (intermediates-low i)

    q-low : quotient_dim b p ≤ 3
    unfolding quotient_dim
    q-low = in_low (intermediates b p (im_count b)) (intermediates-low (im_count b)) (c_exp b)

    quotients-low : (i : ℕ) → LowIn (quotients b p i)
    unfolding quotients
    quotients-low zero = intermediates-low (im_count b)
    quotients-low (suc i) = pair-low 3 (cm1 b + cm2 b + cm3 b + i) (quotient_dim b p) (quotients b p i) q-low (quotients-low i)

    pub mapped-low : Low (mapped b p).cm_dims
    unfolding mapped
    mapped-low = quotients-low (q_deg b)
