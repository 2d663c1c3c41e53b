-- THE CONSTRAINT EXPRESSION: the identities folded, then each intermediate's body minus its column, as one tree whose nodes are numbered after those of the pool.
-- Assumes nothing: these are definitions.
use Rattle.std.specs.Prelude.{ℕ, suc, ◌+◌, false, List, [], ◌∷◌}
use Rattle.std.proofs.Math.Option.{Option, none, some}
use Rattle.meaning.specs.Trees.{RowKind, FlatKind, Op, Leaf, Expr, Expression, Forest, nth}
use Rattle.search_meaning.specs.Search.{identity_leaf}

-- ── a tree with its nodes numbered anew ──────────────────────────────────────
-- the tree, and the first number after its own
pub record Numbered : Type 0 where
  pub tree : Expr
  pub free : ℕ

-- from n on, children first and left before right
abbrev pub number_from : ℕ → Expr → Numbered
number_from n (Expr.leaf k l) = record { tree = Expr.leaf n l; free = suc n }
number_from n (Expr.bin k o a b) =
    let x = number_from n a in
    let y = number_from x.free b in
    record { tree = Expr.bin y.free o x.tree y.tree; free = suc y.free }
number_from n (Expr.muladd k a b c) =
    let x = number_from n a in
    let y = number_from x.free b in
    let z = number_from y.free c in
    record { tree = Expr.muladd z.free x.tree y.tree z.tree; free = suc z.free }
number_from n (Expr.binc k o a l) =
    let x = number_from n a in
    record { tree = Expr.binc x.free o x.tree l; free = suc x.free }
number_from n (Expr.neg k a) =
    let x = number_from n a in
    record { tree = Expr.neg x.free x.tree; free = suc x.free }

-- vc·c + e after the nodes of c: vc, the product, those of e, the sum
abbrev pub plus : ℕ → Numbered → Expr → Numbered
plus vc c e =
    let y = number_from (c.free + 2) e in
    record {
      tree = Expr.bin y.free Op.add (Expr.bin (c.free + 1) Op.mul (Expr.leaf c.free (Leaf.flat FlatKind.challenge vc)) c.tree) y.tree;
      free = suc y.free;
    }

-- ── the intermediates ────────────────────────────────────────────────────────
-- an expression and its column
pub record Intermediate : Type 0 where
  pub expression : ℕ
  pub cm : ℕ

-- columns from n on, in the order of the members
abbrev pub columns_from : ℕ → List ℕ → List Intermediate
columns_from n [] = []
columns_from n (e ∷ es) = record { expression = e; cm = n } ∷ columns_from (suc n) es

abbrev pub minus_column : Expr → ℕ → Expr
minus_column t i = Expr.bin 0 Op.sub t (Expr.leaf 0 (Leaf.cell RowKind.cm i 0))

-- a member is an expression of the pool: its body is copied
abbrev pub plus_member : ℕ → Numbered → Option Expression → ℕ → Numbered
plus_member vc c none i = c
plus_member vc c (some x) i = plus vc c (minus_column x.tree i)

-- ── the whole ────────────────────────────────────────────────────────────────
module _ (vc : ℕ) where
  abbrev pub plus_identities : Numbered → List ℕ → Numbered
  plus_identities c [] = c
  plus_identities c (e ∷ es) = plus_identities (plus vc c (identity_leaf e)) es

  abbrev pub plus_members : Forest → Numbered → List Intermediate → Numbered
  plus_members E c [] = c
  plus_members E c (m ∷ ms) = plus_members E (plus_member vc c (nth E m.expression) m.cm) ms

  -- the expressions, the pool's nodes, the first identity and the others, the intermediates
  abbrev pub constraint_tree : Forest → ℕ → ℕ → List ℕ → List Intermediate → Numbered
  constraint_tree E nodes e es ms = plus_members E (plus_identities (number_from nodes (identity_leaf e)) es) ms

-- it has no flags
abbrev pub extended : Forest → Expr → Forest
extended [] t = record { tree = t; keep = false; keep2ns = false; id_q = false } ∷ []
extended (x ∷ E) t = x ∷ extended E t
