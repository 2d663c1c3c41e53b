-- The tree at a node, and the forest that a pool stands for.
-- Assumes nothing: these are definitions.
use Rattle.std.specs.Prelude.{ℕ, zero, suc, ◌/◌, ◌%◌, cond, List, [], ◌∷◌, eqb}
use Rattle.meaning.specs.Trees.{Lit, lit, RowKind, FlatKind, XKind, Op, OpC, Leaf, Expr, Forest}
use Rattle.meaning.specs.Trees as meaning
use Rattle.frames.specs.declared.node.Node.{Node}
use Rattle.frames.specs.declared.rest.Expression.{Expression}
use Rattle.kinds.specs.KindBytes as kind
use Rattle.pool.specs.Pool.{Pool, node}

abbrev pub literal_of : Node → Lit
literal_of x = lit (eqb x.sign 1) x.magnitude

abbrev pub leaf_of : Node → Leaf
leaf_of x =
    cond (eqb x.kind kind.cm) (Leaf.cell RowKind.cm x.id x.next)
    (cond (eqb x.kind kind.const) (Leaf.cell RowKind.const x.id x.next)
    (cond (eqb x.kind kind.exp) (Leaf.exp x.id x.next)
    (cond (eqb x.kind kind.q) (Leaf.cell RowKind.q x.id x.next)
    (cond (eqb x.kind kind.number) (Leaf.number (literal_of x))
    (cond (eqb x.kind kind.public) (Leaf.flat FlatKind.public x.id)
    (cond (eqb x.kind kind.challenge) (Leaf.flat FlatKind.challenge x.id)
    (cond (eqb x.kind kind.eval) (Leaf.flat FlatKind.eval x.id)
    (cond (eqb x.kind kind.x_div_x_sub_xi) (Leaf.x XKind.x_div_x_sub_xi)
    (cond (eqb x.kind kind.x_div_x_sub_w_xi) (Leaf.x XKind.x_div_x_sub_w_xi) (Leaf.x XKind.plain_x))))))))))

-- what a kind makes of its children
pub data Class : Type 0 where
  binary : Op → Class
  fused : Class
  constant : OpC → Class
  negation : Class
  leafy : Class

abbrev pub class : ℕ → Class
class k =
    cond (eqb k kind.add) (binary Op.add)
    (cond (eqb k kind.sub) (binary Op.sub)
    (cond (eqb k kind.mul) (binary Op.mul)
    (cond (eqb k kind.muladd) fused
    (cond (eqb k kind.addc) (constant OpC.addc)
    (cond (eqb k kind.mulc) (constant OpC.mulc)
    (cond (eqb k kind.neg) negation leafy))))))

-- node n, whose children's trees `below` gives
abbrev pub grown : Class → (ℕ → Expr) → ℕ → Node → Expr
grown (binary o) below n x = Expr.bin n o (below x.c0) (below x.c1)
grown fused below n x = Expr.muladd n (below x.c0) (below x.c1) (below x.c2)
grown (constant o) below n x = Expr.binc n o (below x.c0) (literal_of x)
grown negation below n x = Expr.neg n (below x.c0)
grown leafy below n x = Expr.leaf n (leaf_of x)

-- with at most m levels of nodes
abbrev pub tree_below : Pool → ℕ → ℕ → Expr
tree_below p zero n = Expr.leaf n (leaf_of (node p n))
tree_below p (suc m) n = grown (class (node p n).kind) (tree_below p m) n (node p n)

-- A child has a smaller number than its parent, so a tree has no more levels than its root's number says.
unfoldable pub tree : Pool → ℕ → Expr
tree p n = tree_below p (suc n) n

-- flags: bit 0 keep, 1 keep2ns, 2 id_q
abbrev pub expression_of : Pool → Expression → meaning.Expression
expression_of p x =
    record {
      tree = tree p x.root;
      keep = eqb (x.flags % 2) 1;
      keep2ns = eqb (x.flags / 2 % 2) 1;
      id_q = eqb (x.flags / 4 % 2) 1;
    }

abbrev pub forest_from : Pool → List Expression → Forest
forest_from p [] = []
forest_from p (x ∷ xs) = expression_of p x ∷ forest_from p xs

-- THE FOREST a pool stands for
unfoldable pub forest : Pool → Forest
forest p = forest_from p p.expressions
