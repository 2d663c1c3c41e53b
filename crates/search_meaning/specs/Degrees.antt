-- THE FULL DEGREE of a tree (get_exp_dim of starkinfo_cp_prover.rs), and what a degree depends on in a leaf.
-- Assumes nothing: these are definitions.
use Rattle.std.specs.Prelude.{ℕ, zero, suc, ◌+◌, max, length}
use Rattle.std.proofs.Math.Option.{Option, none, some}
use Rattle.meaning.specs.Trees.{RowKind, FlatKind, XKind, Op, Leaf, Expr, Expression, Forest, nth}

-- a value that is no polynomial, an evaluation, a column, a kind that has no degree, an expression
pub data Class : Type 0 where
  constant evaluation column other : Class
  reference : ℕ → Class

abbrev pub row_class : RowKind → Class
row_class RowKind.cm = Class.column
row_class RowKind.const = Class.column
row_class RowKind.q = Class.other

abbrev pub flat_class : FlatKind → Class
flat_class FlatKind.public = Class.constant
flat_class FlatKind.challenge = Class.constant
flat_class FlatKind.eval = Class.evaluation

abbrev pub x_class : XKind → Class
x_class XKind.plain_x = Class.column
x_class XKind.x_div_x_sub_xi = Class.other
x_class XKind.x_div_x_sub_w_xi = Class.other

-- next does not count
abbrev pub class_of : Leaf → Class
class_of (Leaf.cell k i a) = row_class k
class_of (Leaf.exp i a) = Class.reference i
class_of (Leaf.number l) = Class.constant
class_of (Leaf.flat k i) = flat_class k
class_of (Leaf.x k) = x_class k

abbrev pub map₂ : (ℕ → ℕ → ℕ) → Option ℕ → Option ℕ → Option ℕ
map₂ f none b = none
map₂ f (some a) none = none
map₂ f (some a) (some b) = some (f a b)

-- of a sum, and of an operation on one tree: at least 1
abbrev pub sum_degree : ℕ → ℕ → ℕ
sum_degree m n = max 1 (max m n)

-- where expression e's full degree is full_of e; none: a kind that has no degree is met
module _ (full_of : ℕ → Option ℕ) where
  abbrev pub full_leaf : Class → Option ℕ
  full_leaf Class.constant = some 0
  full_leaf Class.evaluation = some 0
  full_leaf Class.column = some 1
  full_leaf Class.other = none
  full_leaf (Class.reference e) = full_of e

  abbrev pub full : Expr → Option ℕ
  full (Expr.leaf n l) = full_leaf (class_of l)
  full (Expr.bin n Op.add a b) = map₂ sum_degree (full a) (full b)
  full (Expr.bin n Op.sub a b) = map₂ sum_degree (full a) (full b)
  full (Expr.bin n Op.mul a b) = map₂ ◌+◌ (full a) (full b)
  full (Expr.muladd n a b c) = map₂ max (map₂ ◌+◌ (full a) (full b)) (full c)
  full (Expr.binc n o a l) = map₂ max (some 1) (full a)
  full (Expr.neg n a) = map₂ max (some 1) (full a)

abbrev pub full_in : (ℕ → Option ℕ) → Option Expression → Option ℕ
full_in f none = none
full_in f (some x) = full f x.tree

-- of expression e, with at most n levels of expressions
abbrev pub full_of : Forest → ℕ → ℕ → Option ℕ
full_of E zero e = none
full_of E (suc n) e = full_in (full_of E n) (nth E e)

-- Expressions that form no cycle have at most as many levels as there are expressions.
unfoldable pub full_table : Forest → ℕ → Option ℕ
full_table E e = full_of E (length E) e
