-- Fusing: find_muladd on trees.
-- Assumes nothing: these are definitions.
use Rattle.meaning.specs.Trees.{Op, Expr}
use Rattle.std.specs.Prelude.{ℕ}

-- The sum of two trees already fused: the first a product, else the second, else neither. The muladd carries the add's node.
abbrev pub second : ℕ → Expr → Expr → Expr
second n a (Expr.leaf m l) = Expr.bin n Op.add a (Expr.leaf m l)
second n a (Expr.bin m Op.add b c) = Expr.bin n Op.add a (Expr.bin m Op.add b c)
second n a (Expr.bin m Op.sub b c) = Expr.bin n Op.add a (Expr.bin m Op.sub b c)
second n a (Expr.bin m Op.mul b c) = Expr.muladd n b c a
second n a (Expr.muladd m b c d) = Expr.bin n Op.add a (Expr.muladd m b c d)
second n a (Expr.binc m o b l) = Expr.bin n Op.add a (Expr.binc m o b l)
second n a (Expr.neg m b) = Expr.bin n Op.add a (Expr.neg m b)

abbrev pub first : ℕ → Expr → Expr → Expr
first n (Expr.leaf m l) b = second n (Expr.leaf m l) b
first n (Expr.bin m Op.add c d) b = second n (Expr.bin m Op.add c d) b
first n (Expr.bin m Op.sub c d) b = second n (Expr.bin m Op.sub c d) b
first n (Expr.bin m Op.mul c d) b = Expr.muladd n c d b
first n (Expr.muladd m c d e) b = second n (Expr.muladd m c d e) b
first n (Expr.binc m o c l) b = second n (Expr.binc m o c l) b
first n (Expr.neg m c) b = second n (Expr.neg m c) b

-- Fusing a tree never makes a product of what was none, nor anything else of a product: so an add looks at its children after they are fused.
abbrev pub fuse : Expr → Expr
fuse (Expr.leaf n l) = Expr.leaf n l
fuse (Expr.bin n Op.add a b) = first n (fuse a) (fuse b)
fuse (Expr.bin n Op.sub a b) = Expr.bin n Op.sub (fuse a) (fuse b)
fuse (Expr.bin n Op.mul a b) = Expr.bin n Op.mul (fuse a) (fuse b)
fuse (Expr.muladd n a b c) = Expr.muladd n (fuse a) (fuse b) (fuse c)
fuse (Expr.binc n o a l) = Expr.binc n o (fuse a) l
fuse (Expr.neg n a) = Expr.neg n (fuse a)
