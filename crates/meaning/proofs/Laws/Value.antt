-- The value of an expression: a tree has at most one; the function gives just it where expressions form no cycle.
-- Assumes nothing.
use Rattle.std.specs.Prelude.{ℕ, zero, suc, ◌+◌, ◌<◌, ◌≡◌, refl, ◌++◌, ◌↔◌, length}
use Rattle.std.proofs.Common.{sym, ◌∙◌, ap, ap₂, subst, arith}
use Rattle.std.proofs.Math.Option.{Option, none, some, none-ne-some, some-injective}
use Rattle.meaning.specs.Trees.{Leaf, Expr, Expression, Forest, Falls, Acyclic, nth, leaves, Each}
use Rattle.meaning.specs.Values.{Algebra, Given, op, opc, Has, Value, leaf_value, tree_value, expression_value, value_below, value}
use Rattle.meaning.proofs.Laws.Tests.{bind-some, each_left, each_right}

module _ (𝓐 : Algebra) (G : Given 𝓐.A) (E : Forest) where
  -- A TREE HAS AT MOST ONE VALUE
  pub only : {x : Expr} {r : ℕ} {v w : 𝓐.A} → Has 𝓐 G E x r v → Has 𝓐 G E x r w → v ≡ w
  only (Has.cell h) (Has.cell k) = some-injective _ _ (sym h ∙ k)
  only {w = w} (Has.exp {a = a} {r = r} x q h) (Has.exp y q' k) =
      only {w = w} h (subst (λ (z : Expression). Has 𝓐 G E z.tree (r + a) w) (some-injective _ _ (sym q' ∙ q)) k)
  only (Has.number h) (Has.number k) = h ∙ sym k
  only (Has.flat h) (Has.flat k) = some-injective _ _ (sym h ∙ k)
  only (Has.x h) (Has.x k) = some-injective _ _ (sym h ∙ k)
  only (Has.bin {o = o} y z h h' q) (Has.bin y' z' k k' q') = q ∙ ap₂ (op 𝓐 o) (only h k) (only h' k') ∙ sym q'
  only (Has.muladd y z w h h' h'' q) (Has.muladd y' z' w' k k' k'' q') = q ∙ ap₂ 𝓐.plus (ap₂ 𝓐.times (only h k) (only h' k')) (only h'' k'') ∙ sym q'
  only (Has.binc {o = o} {l = l} y h q) (Has.binc y' k q') = q ∙ ap (λ z. op 𝓐 (opc o) z (𝓐.of_lit l)) (only h k) ∙ sym q'
  only (Has.neg y h q) (Has.neg y' k q') = q ∙ ap 𝓐.negated (only h k) ∙ sym q'

  -- where X gives values, the function of a tree gives one
  abbrev Right : (ℕ → ℕ → Option 𝓐.A) → Type 0
  Right X = (e r : ℕ) (v : 𝓐.A) → X e r ≡ some v → Value 𝓐 G E e r v

  leaf-right : (X : ℕ → ℕ → Option 𝓐.A) → Right X → (n : ℕ) (l : Leaf) (r : ℕ) {v : 𝓐.A} → leaf_value 𝓐 G E X l r ≡ some v → Has 𝓐 G E (Expr.leaf n l) r v
  leaf-right X R n (Leaf.cell k i a) r h = Has.cell h
  leaf-right X R n (Leaf.exp i a) r h = let y = R i (r + a) _ h in Has.exp y.0 y.1 y.2
  leaf-right X R n (Leaf.number l) r h = Has.number (sym (some-injective _ _ h))
  leaf-right X R n (Leaf.flat k i) r h = Has.flat h
  leaf-right X R n (Leaf.x k) r h = Has.x h

  tree-right : (X : ℕ → ℕ → Option 𝓐.A) → Right X → (x : Expr) (r : ℕ) {v : 𝓐.A} → tree_value 𝓐 G E X x r ≡ some v → Has 𝓐 G E x r v
  tree-right X R (Expr.leaf n l) r h = leaf-right X R n l r h
  tree-right X R (Expr.bin n o a b) r h =
      let y = bind-some (tree_value 𝓐 G E X a r) _ h in
      let z = bind-some (tree_value 𝓐 G E X b r) _ y.2 in
      Has.bin y.0 z.0 (tree-right X R a r y.1) (tree-right X R b r z.1) (sym (some-injective _ _ z.2))
  tree-right X R (Expr.muladd n a b c) r h =
      let y = bind-some (tree_value 𝓐 G E X a r) _ h in
      let z = bind-some (tree_value 𝓐 G E X b r) _ y.2 in
      let w = bind-some (tree_value 𝓐 G E X c r) _ z.2 in
      Has.muladd y.0 z.0 w.0 (tree-right X R a r y.1) (tree-right X R b r z.1) (tree-right X R c r w.1) (sym (some-injective _ _ w.2))
  tree-right X R (Expr.binc n o a l) r h =
      let y = bind-some (tree_value 𝓐 G E X a r) _ h in
      Has.binc y.0 (tree-right X R a r y.1) (sym (some-injective _ _ y.2))
  tree-right X R (Expr.neg n a) r h =
      let y = bind-some (tree_value 𝓐 G E X a r) _ h in
      Has.neg y.0 (tree-right X R a r y.1) (sym (some-injective _ _ y.2))

  below_right : (m : ℕ) → Right (value_below 𝓐 G E m)
  below_right zero e r v h = absurd (none-ne-some v h)
  below_right (suc m) e r v h = go (λ x r v. tree-right (value_below 𝓐 G E m) (below_right m) x r) (nth E e) refl h
    where
      go :
          ((x : Expr) (r : ℕ) (v : 𝓐.A) → tree_value 𝓐 G E (value_below 𝓐 G E m) x r ≡ some v → Has 𝓐 G E x r v) →
          (o : Option Expression) → nth E e ≡ o → expression_value 𝓐 G E (value_below 𝓐 G E m) o r ≡ some v → Value 𝓐 G E e r v
      go ih none q k = absurd (none-ne-some v k)
      go ih (some x) q k = (x, q, ih x.tree r v k)

  -- and where each lower expression's value is X's, a value of a tree is the function's
  module _ (rank : ℕ → ℕ) where
    abbrev Complete : (ℕ → ℕ → Option 𝓐.A) → ℕ → Type 0
    Complete X m = (e r : ℕ) (v : 𝓐.A) → rank e < m → Value 𝓐 G E e r v → X e r ≡ some v

    tree_complete :
        (X : ℕ → ℕ → Option 𝓐.A) (m : ℕ) → Complete X m → {x : Expr} {r : ℕ} {v : 𝓐.A} → Each (Falls E rank m) (leaves x) → Has 𝓐 G E x r v →
        tree_value 𝓐 G E X x r ≡ some v
    tree_complete X m C f (Has.cell h) = h
    tree_complete X m C f (Has.exp {i = i} {a = a} {r = r} x q h) = C i (r + a) _ f.0.0 (x, q, h)
    tree_complete X m C f (Has.number h) = ap some (sym h)
    tree_complete X m C f (Has.flat h) = h
    tree_complete X m C f (Has.x h) = h
    tree_complete X m C f (Has.bin {a = a} {b = b} y z h k q) =
        rw (tree_complete X m C (each_left (Falls E rank m) (leaves a) (leaves b) f) h, tree_complete X m C (each_right (Falls E rank m) (leaves a) (leaves b) f) k, q)
    tree_complete X m C f (Has.muladd {a = a} {b = b} {c = c} y z w h k l q) =
        let g = each_right (Falls E rank m) (leaves a) (leaves b ++ leaves c) f in
        rw (
          tree_complete X m C (each_left (Falls E rank m) (leaves a) (leaves b ++ leaves c) f) h,
          tree_complete X m C (each_left (Falls E rank m) (leaves b) (leaves c) g) k,
          tree_complete X m C (each_right (Falls E rank m) (leaves b) (leaves c) g) l,
          q,
        )
    tree_complete X m C f (Has.binc y h q) = rw (tree_complete X m C f h, q)
    tree_complete X m C f (Has.neg y h q) = rw (tree_complete X m C f h, q)

  module _ (acyclic : Acyclic E) where
    below_complete : (m : ℕ) → Complete acyclic.rank (value_below 𝓐 G E m) m
    below_complete zero e r v h k = absurd (omega arith)
    below_complete (suc m) e r v h k =
        let C : Complete acyclic.rank (value_below 𝓐 G E m) (acyclic.rank e) = λ i r' u l w. below_complete m i r' u (omega arith) w in
        rw k.1 (tree_complete acyclic.rank (value_below 𝓐 G E m) (acyclic.rank e) C (acyclic.falls e k.0 k.1) k.2)

    -- THE RELATION AND THE FUNCTION AGREE
    pub value-is : (e r : ℕ) (v : 𝓐.A) → Value 𝓐 G E e r v ↔ (value 𝓐 G E e r ≡ some v)
    value-is e r v = (λ k. below_complete (length E) e r v (acyclic.below e k.0 k.1) k, λ h. below_right (length E) e r v h)
