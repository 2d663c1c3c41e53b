-- Fusing looks only at whether a child is a product, and fusing a child does not change that.
-- Assumes nothing.
use Prim.Native.Nat.{ℕ}
use mathlib.Core.Path.{◌≡◌, refl}
use mathlib.Core.Bool.{Bool, true, false, cond, true≢false}
use lib.Dec.{eqb}
use borrow.Author.Tests.{eqb-true}
use Rattle.meaning.specs.Trees.{Op, OpC, Expr}
use Rattle.meaning.specs.Fusing.{second, first, fuse}
use Rattle.frames.specs.declared.node.Node.{Node}
use Rattle.kinds.specs.KindBytes as kind
use Rattle.pool.specs.Trees.{Class, binary, fused, constant, negation, leafy, class, grown}

abbrev pub is_product : Expr → Bool
is_product (Expr.leaf n l) = false
is_product (Expr.bin n Op.add a b) = false
is_product (Expr.bin n Op.sub a b) = false
is_product (Expr.bin n Op.mul a b) = true
is_product (Expr.muladd n a b c) = false
is_product (Expr.binc n o a l) = false
is_product (Expr.neg n a) = false

-- ── a sum of two trees ───────────────────────────────────────────────────────
pub second-neither : (n : ℕ) (a b : Expr) → is_product b ≡ false → second n a b ≡ Expr.bin n Op.add a b
second-neither n a (Expr.leaf m l) h = refl
second-neither n a (Expr.bin m Op.add b c) h = refl
second-neither n a (Expr.bin m Op.sub b c) h = refl
second-neither n a (Expr.bin m Op.mul b c) h = absurd (true≢false h)
second-neither n a (Expr.muladd m b c d) h = refl
second-neither n a (Expr.binc m o b l) h = refl
second-neither n a (Expr.neg m b) h = refl

pub first-not : (n : ℕ) (a b : Expr) → is_product a ≡ false → first n a b ≡ second n a b
first-not n (Expr.leaf m l) b h = refl
first-not n (Expr.bin m Op.add c d) b h = refl
first-not n (Expr.bin m Op.sub c d) b h = refl
first-not n (Expr.bin m Op.mul c d) b h = absurd (true≢false h)
first-not n (Expr.muladd m c d e) b h = refl
first-not n (Expr.binc m o c l) b h = refl
first-not n (Expr.neg m c) b h = refl

-- a sum is no product, fused or not
second-sum : (n : ℕ) (a b : Expr) → is_product (second n a b) ≡ false
second-sum n a (Expr.leaf m l) = refl
second-sum n a (Expr.bin m Op.add b c) = refl
second-sum n a (Expr.bin m Op.sub b c) = refl
second-sum n a (Expr.bin m Op.mul b c) = refl
second-sum n a (Expr.muladd m b c d) = refl
second-sum n a (Expr.binc m o b l) = refl
second-sum n a (Expr.neg m b) = refl

first-sum : (n : ℕ) (a b : Expr) → is_product (first n a b) ≡ false
first-sum n (Expr.leaf m l) b = second-sum n (Expr.leaf m l) b
first-sum n (Expr.bin m Op.add c d) b = second-sum n (Expr.bin m Op.add c d) b
first-sum n (Expr.bin m Op.sub c d) b = second-sum n (Expr.bin m Op.sub c d) b
first-sum n (Expr.bin m Op.mul c d) b = refl
first-sum n (Expr.muladd m c d e) b = second-sum n (Expr.muladd m c d e) b
first-sum n (Expr.binc m o c l) b = second-sum n (Expr.binc m o c l) b
first-sum n (Expr.neg m c) b = second-sum n (Expr.neg m c) b

pub fuse-product : (e : Expr) → is_product (fuse e) ≡ is_product e
fuse-product (Expr.leaf n l) = refl
fuse-product (Expr.bin n Op.add a b) = first-sum n (fuse a) (fuse b)
fuse-product (Expr.bin n Op.sub a b) = refl
fuse-product (Expr.bin n Op.mul a b) = refl
fuse-product (Expr.muladd n a b c) = refl
fuse-product (Expr.binc n o a l) = refl
fuse-product (Expr.neg n a) = refl

-- ── a node's tree ────────────────────────────────────────────────────────────
pick : (P : Class → Type 0) (b : Bool) (c d : Class) → (b ≡ true → P c) → P d → P (cond b c d)
pick P true c d f y = f refl
pick P false c d f y = y

-- what holds of the class of an add, a sub and a mul, where the kind is one, and of every other class
pub by-kinds :
    (P : Class → Type 0) (k : ℕ) → (k ≡ kind.add → P (binary Op.add)) → P (binary Op.sub) → (k ≡ kind.mul → P (binary Op.mul)) → P fused →
    ((o : OpC) → P (constant o)) → P negation → P leafy → P (class k)
by-kinds P k a s m f c n l =
    pick P (eqb k kind.add) _ _ (λ e. a (eqb-true k kind.add e))
    (pick P (eqb k kind.sub) _ _ (λ e. s)
    (pick P (eqb k kind.mul) _ _ (λ e. m (eqb-true k kind.mul e))
    (pick P (eqb k kind.muladd) _ _ (λ e. f)
    (pick P (eqb k kind.addc) _ _ (λ e. c OpC.addc) (pick P (eqb k kind.mulc) _ _ (λ e. c OpC.mulc) (pick P (eqb k kind.neg) _ _ (λ e. n) l))))))

module _ (k : ℕ) (g : ℕ → Expr) (n : ℕ) (x : Node) where
  -- the tree of a node that is no mul is no product
  pub no-product : (k ≡ kind.mul → ⊥) → is_product (grown (class k) g n x) ≡ false
  no-product h = by-kinds (λ c. is_product (grown c g n x) ≡ false) k (λ e. refl) refl (λ e. absurd (h e)) refl (λ o. refl) refl refl

  -- fusing goes into every node but an add
  pub spread : (k ≡ kind.add → ⊥) → fuse (grown (class k) g n x) ≡ grown (class k) (λ i. fuse (g i)) n x
  spread h = by-kinds (λ c. fuse (grown c g n x) ≡ grown c (λ i. fuse (g i)) n x) k (λ e. absurd (h e)) refl (λ e. refl) refl (λ o. refl) refl refl
