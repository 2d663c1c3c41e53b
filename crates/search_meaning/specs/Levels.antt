-- In a forest without a cycle an expression's full degree is its tree's, by those of the others.
-- Assumes nothing.
use Rattle.std.specs.Prelude.{ℕ, zero, suc, ◌+◌, ◌<◌, max, ◌≡◌, refl, ◌++◌, length}
use Rattle.std.proofs.Common.{sym, ◌∙◌, ap, ap₂, arith}
use Rattle.std.proofs.Math.Option.{Option, some}
use Rattle.meaning.specs.Trees.{RowKind, FlatKind, XKind, Op, Leaf, Expr, Expression, Forest, nth, Placed, ◌at◌, leaves, Each, Falls, Acyclic}
use Rattle.meaning.proofs.Laws.Tests.{each_left, each_right, each_map}
use Rattle.search_meaning.specs.Degrees.{class_of, map₂, sum_degree, full_leaf, full, full_of, full_table}

-- f and g agree on the expression that a leaf leads to
abbrev pub Agree : (ℕ → Option ℕ) → (ℕ → Option ℕ) → Placed → Type 0
Agree f g (l at n) = (i a : ℕ) → l ≡ Leaf.exp i a → f i ≡ g i

module _ (f g : ℕ → Option ℕ) where
  leaf-same : (l : Leaf) (n : ℕ) → Agree f g (l at n) → full_leaf f (class_of l) ≡ full_leaf g (class_of l)
  leaf-same (Leaf.cell RowKind.cm i a) n h = refl
  leaf-same (Leaf.cell RowKind.const i a) n h = refl
  leaf-same (Leaf.cell RowKind.q i a) n h = refl
  leaf-same (Leaf.exp i a) n h = h i a refl
  leaf-same (Leaf.number l) n h = refl
  leaf-same (Leaf.flat FlatKind.public i) n h = refl
  leaf-same (Leaf.flat FlatKind.challenge i) n h = refl
  leaf-same (Leaf.flat FlatKind.eval i) n h = refl
  leaf-same (Leaf.x XKind.x_div_x_sub_xi) n h = refl
  leaf-same (Leaf.x XKind.x_div_x_sub_w_xi) n h = refl
  leaf-same (Leaf.x XKind.plain_x) n h = refl

  -- and so a tree has one full degree by both
  pub full-same : (t : Expr) → Each (Agree f g) (leaves t) → full f t ≡ full g t
  full-same (Expr.leaf n l) h = leaf-same l n h.0
  full-same (Expr.bin n Op.add a b) h = ap₂ (map₂ sum_degree) (full-same a (each_left (Agree f g) (leaves a) (leaves b) h)) (full-same b (each_right (Agree f g) (leaves a) (leaves b) h))
  full-same (Expr.bin n Op.sub a b) h = ap₂ (map₂ sum_degree) (full-same a (each_left (Agree f g) (leaves a) (leaves b) h)) (full-same b (each_right (Agree f g) (leaves a) (leaves b) h))
  full-same (Expr.bin n Op.mul a b) h = ap₂ (map₂ ◌+◌) (full-same a (each_left (Agree f g) (leaves a) (leaves b) h)) (full-same b (each_right (Agree f g) (leaves a) (leaves b) h))
  full-same (Expr.muladd n a b c) h =
      let k = each_right (Agree f g) (leaves a) (leaves b ++ leaves c) h in
      rw (
        full-same a (each_left (Agree f g) (leaves a) (leaves b ++ leaves c) h),
        full-same b (each_left (Agree f g) (leaves b) (leaves c) k),
        full-same c (each_right (Agree f g) (leaves b) (leaves c) k),
      )
  full-same (Expr.binc n o a l) h = ap (map₂ max (some 1)) (full-same a h)
  full-same (Expr.neg n a) h = ap (map₂ max (some 1)) (full-same a h)

module _ (E : Forest) (acyclic : Acyclic E) where
  -- two numbers of levels agree, where both suffice
  levels : (k m e : ℕ) (x : Expression) → nth E e ≡ some x → acyclic.rank e < k → acyclic.rank e < m → full_of E k e ≡ full_of E m e
  levels zero m e x q a b = absurd (omega arith)
  levels (suc k) zero e x q a b = absurd (omega arith)
  levels (suc k) (suc m) e x q a b =
      rw q
      (full-same (full_of E k) (full_of E m) x.tree
      (each_map (Falls E acyclic.rank (acyclic.rank e)) (Agree (full_of E k) (full_of E m)) (λ w f. falls (levels k m) w f) (leaves x.tree) (acyclic.falls e x q)))
    where
      Below : Type 0
      Below = (e : ℕ) (x : Expression) → nth E e ≡ some x → acyclic.rank e < k → acyclic.rank e < m → full_of E k e ≡ full_of E m e

      falls : Below → (w : Placed) → Falls E acyclic.rank (acyclic.rank e) w → Agree (full_of E k) (full_of E m) w
      falls ih (Leaf.exp i c at n) f = λ j d h.
          let z : i ≡ j = cc in
          let y = ih i f.1.0 f.1.1 (omega (arith, f.0)) (omega (arith, f.0)) in
          ap (full_of E k) (sym z) ∙ y ∙ ap (full_of E m) z
      falls ih (Leaf.cell r i c at n) f = λ j d h. absurd (let z : ◌≡◌ {A = ℕ} 0 1 = cc in omega arith)
      falls ih (Leaf.number l at n) f = λ j d h. absurd (let z : ◌≡◌ {A = ℕ} 0 1 = cc in omega arith)
      falls ih (Leaf.flat r i at n) f = λ j d h. absurd (let z : ◌≡◌ {A = ℕ} 0 1 = cc in omega arith)
      falls ih (Leaf.x r at n) f = λ j d h. absurd (let z : ◌≡◌ {A = ℕ} 0 1 = cc in omega arith)

  -- THE LAW OF FULL DEGREES
  pub full_is : (e : ℕ) (x : Expression) → nth E e ≡ some x → full_table E e ≡ full (full_table E) x.tree
  unfolding full_table
  full_is e x q =
      let r = acyclic.below e x q in
      levels (length E) (suc (length E)) e x q r (omega (arith, r)) ∙ rw q
