-- THE DIMENSION OF AN EXPRESSION (get_exp_dim of starkinfo_map.rs): an operation's is the largest of its children's and at least 1; a leaf's goes by its kind, that
-- of a cm by the columns' dimensions as they stand at the time, that of an exp or a q leaf is its expression's.
-- Assumes nothing: these are definitions.
use Rattle.std.specs.Prelude.{ℕ, zero, suc, max, List, length, get_or}
use Rattle.std.proofs.Math.Option.{Option, none, some}
use Rattle.meaning.specs.Trees.{RowKind, FlatKind, XKind, Leaf, Expr, nth}
use Rattle.pool.specs.Pool.{Pool, root_of}
use Rattle.pool.specs.Trees.{tree}

-- the columns' dimensions, and the expression of each q number
module _ (dims table : List ℕ) where
  -- through a q number, which may not be there
  abbrev pub through : (ℕ → ℕ) → Option ℕ → ℕ
  through below none = 0
  through below (some u) = below u

  -- where expression u's dimension is below u
  abbrev pub leaf_dim : (ℕ → ℕ) → Leaf → ℕ
  leaf_dim below (Leaf.cell RowKind.cm i a) = get_or dims i 0
  leaf_dim below (Leaf.cell RowKind.const i a) = 1
  leaf_dim below (Leaf.cell RowKind.q i a) = through below (nth table i)
  leaf_dim below (Leaf.exp i a) = below i
  leaf_dim below (Leaf.number l) = 1
  leaf_dim below (Leaf.flat FlatKind.public i) = 1
  leaf_dim below (Leaf.flat FlatKind.challenge i) = 3
  leaf_dim below (Leaf.flat FlatKind.eval i) = 3
  leaf_dim below (Leaf.x XKind.x_div_x_sub_xi) = 3
  leaf_dim below (Leaf.x XKind.x_div_x_sub_w_xi) = 3
  leaf_dim below (Leaf.x XKind.plain_x) = 1

  abbrev pub tree_dim : (ℕ → ℕ) → Expr → ℕ
  tree_dim below (Expr.leaf n l) = leaf_dim below l
  tree_dim below (Expr.bin n o a b) = max (max 1 (tree_dim below a)) (tree_dim below b)
  tree_dim below (Expr.muladd n a b c) = max (max (max 1 (tree_dim below a)) (tree_dim below b)) (tree_dim below c)
  tree_dim below (Expr.binc n o a l) = max 1 (tree_dim below a)
  tree_dim below (Expr.neg n a) = max 1 (tree_dim below a)

  module _ (p : Pool) where
    -- with at most m levels of expressions
    abbrev pub dim_below : ℕ → ℕ → ℕ
    dim_below zero e = 0
    dim_below (suc m) e = tree_dim (dim_below m) (tree p (root_of p e))

    -- Expressions that form no cycle have at most as many levels as there are expressions.
    unfoldable pub exp_dim : ℕ → ℕ
    exp_dim e = dim_below (length p.expressions) e
