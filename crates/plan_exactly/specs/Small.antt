-- NO DIMENSION OF A PLAN IS MORE THAN 3: of an expression, of a record, of cm_dims.
-- Assumes nothing.
use Prim.Native.Nat.{ℕ, zero, suc, ◌+◌, ◌≤◌}
use Rattle.std.specs.Prelude.{◌≡◌, refl, Bool, ◌||◌, cond, List, [], ◌∷◌, ◌++◌, length, get_or, set, replicate}
use Rattle.std.proofs.Math.Bool.{true, false}
use Rattle.std.proofs.Math.Option.{Option, none, some}
use Rattle.std.proofs.Common.{arith}
use Rattle.meaning.specs.Trees.{RowKind, FlatKind, XKind, Leaf, Expr, nth}
use Rattle.pool.specs.Pool.{Pool, root_of}
use Rattle.pool.specs.Trees.{tree}
use Rattle.exp_dims.specs.Dimension.{through, leaf_dim, tree_dim, dim_below, exp_dim}
use Rattle.plans.specs.Plan.{cm1, cm2, cm3, q_deg, c_exp, pu_count, im_count, product_count, f_of, t_of, num_of, den_of, im_of, q2exp}
use Rattle.plans.specs.Columns.{among, is_im}
use Rattle.map_records.specs.Mapping.{cm_limit, Mapping, pol, pair, grown, column, dim_in, cm1s, lookup_dim, h_at, lookup, lookups, z_at, products, intermediates, quotient_dim, quotients, mapped}
use Rattle.map_records.specs.Sizes.{Even, snoc-size}

-- each number of a list, and what stands past its end
abbrev pub Small : List ℕ → Type 0
Small l = (k : ℕ) → get_or l k 0 ≤ 3

-- ---- lists

pub small-zeros : (n : ℕ) → Small (replicate n 0)
small-zeros zero k = omega arith
small-zeros (suc n) zero = omega arith
small-zeros (suc n) (suc k) = small-zeros n k

small-snoc : (l : List ℕ) (d : ℕ) → d ≤ 3 → Small l → Small (l ++ (d ∷ []))
small-snoc [] d h s zero = h
small-snoc [] d h s (suc k) = omega arith
small-snoc (x ∷ l) d h s zero = s 0
small-snoc (x ∷ l) d h s (suc k) = small-snoc l d h (λ j. s (suc j)) k

small-set : (l : List ℕ) (i d : ℕ) → d ≤ 3 → Small l → Small (set l i d)
small-set [] i d h s k = s k
small-set (x ∷ l) zero d h s zero = h
small-set (x ∷ l) zero d h s (suc k) = s (suc k)
small-set (x ∷ l) (suc i) d h s zero = s 0
small-set (x ∷ l) (suc i) d h s (suc k) = small-set l i d h (λ j. s (suc j)) k

-- ---- an expression

module _ (dims table : List ℕ) (small : Small dims) where
  through-small : (below : ℕ → ℕ) → ((u : ℕ) → below u ≤ 3) → (o : Option ℕ) → through dims table below o ≤ 3
  through-small below h none = omega arith
  through-small below h (some u) = h u

  leaf-small : (below : ℕ → ℕ) → ((u : ℕ) → below u ≤ 3) → (l : Leaf) → leaf_dim dims table below l ≤ 3
  leaf-small below h (Leaf.cell RowKind.cm i a) = small i
  leaf-small below h (Leaf.cell RowKind.const i a) = omega arith
  leaf-small below h (Leaf.cell RowKind.q i a) = through-small below h (nth table i)
  leaf-small below h (Leaf.exp i a) = h i
  leaf-small below h (Leaf.number l) = omega arith
  leaf-small below h (Leaf.flat FlatKind.public i) = omega arith
  leaf-small below h (Leaf.flat FlatKind.challenge i) = omega arith
  leaf-small below h (Leaf.flat FlatKind.eval i) = omega arith
  leaf-small below h (Leaf.x XKind.x_div_x_sub_xi) = omega arith
  leaf-small below h (Leaf.x XKind.x_div_x_sub_w_xi) = omega arith
  leaf-small below h (Leaf.x XKind.plain_x) = omega arith

  tree-small : (below : ℕ → ℕ) → ((u : ℕ) → below u ≤ 3) → (e : Expr) → tree_dim dims table below e ≤ 3
  tree-small below h (Expr.leaf n l) = leaf-small below h l
  tree-small below h (Expr.bin n o a b) = omega (arith, tree-small below h a, tree-small below h b)
  tree-small below h (Expr.muladd n a b c) = omega (arith, tree-small below h a, tree-small below h b, tree-small below h c)
  tree-small below h (Expr.binc n o a l) = omega (arith, tree-small below h a)
  tree-small below h (Expr.neg n a) = omega (arith, tree-small below h a)

  levels-small : (p : Pool) (m e : ℕ) → dim_below dims table p m e ≤ 3
  levels-small p zero e = omega arith
  levels-small p (suc m) e = tree-small (dim_below dims table p m) (levels-small p m) (tree p (root_of p e))

  pub expression-small : (p : Pool) (e : ℕ) → exp_dim dims table p e ≤ 3
  unfolding exp_dim
  expression-small p e = levels-small p (length p.expressions) e

-- ---- records

-- and each record has one
pub record SmallIn (m : Mapping) : Type 0 where
  pub even : Even m
  pub dims : Small m.dims
  pub cm_dims : Small m.cm_dims

one_more : (ss ds : List ℕ) (s d : ℕ) → length ss ≡ length ds → length (ss ++ (s ∷ [])) ≡ length (ds ++ (d ∷ []))
one_more ss ds s d e = omega (arith, snoc-size ss s, snoc-size ds d, e)

pol-small : (s d : ℕ) (m : Mapping) → d ≤ 3 → SmallIn m → SmallIn (pol s d m)
pol-small s d m h k = record { even = one_more m.sections m.dims s d k.even; dims = small-snoc m.dims d h k.dims; cm_dims = k.cm_dims }

pair_small : (s i d : ℕ) (m : Mapping) → d ≤ 3 → SmallIn m → SmallIn (pair s i d m)
pair_small s i d m h k = record {
  even = one_more (m.sections ++ (s ∷ [])) (m.dims ++ (d ∷ [])) (s + 5) d (one_more m.sections m.dims s d k.even);
  dims = small-snoc (m.dims ++ (d ∷ [])) d h (small-snoc m.dims d h k.dims);
  cm_dims = small-set m.cm_dims i d h k.cm_dims;
}

module _ (b : List ℕ) where
  column-small : (e d : ℕ) (m : Mapping) → d ≤ 3 → SmallIn m → SmallIn (column b e d m)
  unfolding column
  column-small e d m h k = go (is_im b e || among e m.columns)
    where
      go : (t : Bool) → SmallIn (cond t m (grown b e (pol 4 d m)))
      go true = k
      go false = record { even = one_more m.sections m.dims 4 d k.even; dims = small-snoc m.dims d h k.dims; cm_dims = k.cm_dims }

  module _ (p : Pool) where
    dim-small : (m : Mapping) (e : ℕ) → SmallIn m → dim_in b p m e ≤ 3
    dim-small m e k = expression-small m.cm_dims (q2exp b) k.cm_dims p e

    cm1s-small : (i : ℕ) → SmallIn (cm1s b p i)
    unfolding cm1s
    cm1s-small zero = record { even = refl; dims = λ k. omega arith; cm_dims = small-zeros cm_limit }
    cm1s-small (suc i) = pair_small 0 i 1 (cm1s b p i) (omega arith) (cm1s-small i)

    lookup-small : (i d : ℕ) (m : Mapping) → d ≤ 3 → SmallIn m → SmallIn (lookup b p i d m)
    lookup-small i d m h k =
        let m1 : Mapping = pair 1 (h_at b p i) d m in
        let m2 : Mapping = pair 1 (h_at b p i + 1) d m1 in
        column-small (t_of b i) d (column b (f_of b i) d m2) h (column-small (f_of b i) d m2 h (pair_small 1 (h_at b p i + 1) d m1 h (pair_small 1 (h_at b p i) d m h k)))

    lookups-small : (i : ℕ) → SmallIn (lookups b p i)
    unfolding lookups
    lookups-small zero = cm1s-small (cm1 b)
    lookups-small (suc i) =
        let k = lookups-small i in
        lookup-small i (lookup_dim b p i (lookups b p i)) (lookups b p i)
        (omega (arith, dim-small (lookups b p i) (f_of b i) k, dim-small (lookups b p i) (t_of b i) k)) k

    products-small : (i : ℕ) → SmallIn (products b p i)
    unfolding products
    products-small zero = lookups-small (pu_count b)
    products-small (suc i) =
        let m1 : Mapping = pair 2 (z_at b p i) 3 (products b p i) in
        column-small (den_of b i) 3 (column b (num_of b i) 3 m1) (omega arith) (column-small (num_of b i) 3 m1 (omega arith) (pair_small 2 (z_at b p i) 3 (products b p i) (omega arith) (products-small i)))

    intermediates-small : (i : ℕ) → SmallIn (intermediates b p i)
    unfolding intermediates
    intermediates-small zero = products-small (product_count b)
    intermediates-small (suc i) =
        let k = intermediates-small i in
        pair_small 2 (z_at b p i) (dim_in b p (intermediates b p i) (im_of b i)) (intermediates b p i) (dim-small (intermediates b p i) (im_of b i) k) k

    q-small : quotient_dim b p ≤ 3
    unfolding quotient_dim
    q-small = dim-small (intermediates b p (im_count b)) (c_exp b) (intermediates-small (im_count b))

    quotients-small : (i : ℕ) → SmallIn (quotients b p i)
    unfolding quotients
    quotients-small zero = intermediates-small (im_count b)
    quotients-small (suc i) = pair_small 3 (cm1 b + cm2 b + cm3 b + i) (quotient_dim b p) (quotients b p i) q-small (quotients-small i)

    -- OF ALL RECORDS OF A PLAN
    pub mapped-small : SmallIn (mapped b p)
    unfolding mapped
    mapped-small = pol-small 10 3 (pol 9 (quotient_dim b p) (quotients b p (q_deg b))) (omega arith) (pol-small 9 (quotient_dim b p) (quotients b p (q_deg b)) q-small (quotients-small (q_deg b)))
