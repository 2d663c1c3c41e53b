-- How many steps a tree takes: one for each operation, and as many temporaries.
-- Assumes nothing.
use Rattle.std.specs.Prelude.{ℕ, ◌+◌, ◌-◌, ◌≡◌, length}
use Rattle.std.proofs.Math.Path.{refl, sym}
use Rattle.std.proofs.Common.{ap, arith, add-zero}
use Rattle.std.proofs.Math.ListN.{length-append}
use Rattle.meaning.specs.Trees.{Expr}
use Rattle.meaning.specs.Steps.{Ref, tmp_ref}
use Rattle.meaning.specs.Emission.{Own, settle, settled, emit, block_steps}

unfoldable pub ops : Expr → ℕ
ops (Expr.leaf n l) = 0
ops (Expr.bin n o a b) = ops a + ops b + 1
ops (Expr.muladd n a b c) = ops a + ops b + ops c + 1
ops (Expr.binc n o a l) = ops a + 1
ops (Expr.neg n a) = ops a + 1

module _ (r : ℕ) where
  -- the temporaries that a tree takes
  pub settled-free : (e : Expr) (t : ℕ) → (settled (emit e r t)).free ≡ t + ops e
  unfolding ops
  settled-free (Expr.leaf n l) t = sym (add-zero t)
  settled-free (Expr.bin n o a b) t = omega (arith, settled-free a t, settled-free b (settled (emit a r t)).free)
  settled-free (Expr.muladd n a b c) t =
      omega (arith, settled-free a t, settled-free b (settled (emit a r t)).free, settled-free c (settled (emit b r (settled (emit a r t)).free)).free)
  settled-free (Expr.binc n o a l) t = omega (arith, settled-free a t)
  settled-free (Expr.neg n a) t = omega (arith, settled-free a t)

  -- its steps
  pub settled-length : (e : Expr) (t : ℕ) → length (settled (emit e r t)).steps ≡ ops e
  unfolding ops
  settled-length (Expr.leaf n l) t = refl
  settled-length (Expr.bin n o a b) t = simp length-append (omega (arith, settled-length a t, settled-length b (settled (emit a r t)).free))
  settled-length (Expr.muladd n a b c) t =
      simp length-append
      (omega (arith, settled-length a t, settled-length b (settled (emit a r t)).free, settled-length c (settled (emit b r (settled (emit a r t)).free)).free))
  settled-length (Expr.binc n o a l) t = simp length-append (omega (arith, settled-length a t))
  settled-length (Expr.neg n a) t = simp length-append (omega (arith, settled-length a t))

  -- and where its value stands after them
  last_of : (t m n : ℕ) → m + 1 ≡ t + n → tmp_ref m ≡ tmp_ref (t + n - 1)
  last_of t m n h = let e : m ≡ t + n - 1 = omega arith in ap tmp_ref e

  pub settled-result : (e : Expr) (t : ℕ) → (ops e ≡ 0 → ⊥) → (settled (emit e r t)).result ≡ tmp_ref (t + ops e - 1)
  unfolding ops
  settled-result (Expr.leaf n l) t h = absurd (h refl)
  settled-result (Expr.bin n o a b) t h = last_of t _ (ops a + ops b + 1) (omega (arith, settled-free (Expr.bin n o a b) t))
  settled-result (Expr.muladd n a b c) t h = last_of t _ (ops a + ops b + ops c + 1) (omega (arith, settled-free (Expr.muladd n a b c) t))
  settled-result (Expr.binc n o a l) t h = last_of t _ (ops a + 1) (omega (arith, settled-free (Expr.binc n o a l) t))
  settled-result (Expr.neg n a) t h = last_of t _ (ops a + 1) (omega (arith, settled-free (Expr.neg n a) t))

  -- the steps before a root's own take the temporaries: the root takes none
  pub emit-free : (e : Expr) (t : ℕ) → (emit e r t).free ≡ t + length (emit e r t).steps
  emit-free e t = go (emit e r t).own (settled-free e t) (settled-length e t)
    where
      go :
          (o : Own) → (settle (emit e r t).steps o (emit e r t).free).free ≡ t + ops e → length (settle (emit e r t).steps o (emit e r t).free).steps ≡ ops e →
          (emit e r t).free ≡ t + length (emit e r t).steps
      go (Own.ref q) f g = omega (arith, f, g)
      go (Own.operation o rs) f g = omega (arith, f, simp length-append at g)

  pub block-length : (e : Expr) (t : ℕ) (d : Ref) → (emit e r t).free + 1 ≡ t + length (block_steps (emit e r t) d)
  block-length e t d = simp length-append (omega (arith, emit-free e t))
