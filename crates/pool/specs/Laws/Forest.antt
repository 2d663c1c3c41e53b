-- The forest of a well-shaped pool is acyclic exactly when the pool has ranks: `meaning`'s theorems speak of it.
-- Assumes nothing.
use Rattle.std.specs.Prelude.{ℕ, zero, suc, ◌<◌, ◌≡◌, refl, Bool, true, false, cond, List, [], ◌∷◌, length, eqb}
use Rattle.std.proofs.Common.{sym, ◌∙◌, ap, subst, arith, not-suc-le-zero, le_of_suc-le-suc, eqb-true}
use Rattle.std.proofs.Math.Option.{Option, some, none-ne-some, some-injective}
use Rattle.meaning.specs.Trees.{RowKind, FlatKind, XKind, Leaf, Falls, Acyclic, nth, Placed, ◌at◌, leaves, Each, Member}
use Rattle.meaning.specs.Trees as meaning
use Rattle.frames.specs.declared.node.Node.{Node}
use Rattle.frames.specs.declared.rest.Expression.{Expression}
use Rattle.kinds.specs.KindBytes as kind
use Rattle.pool.specs.Pool.{Pool, node, root_of, or_else}
use Rattle.pool.specs.Trees.{literal_of, leaf_of, tree, expression_of, forest_from, forest}
use Rattle.pool.specs.Shaped.{Shaped}
use Rattle.pool.specs.Admission.{leads_to, Ranked}
use Rattle.pool.specs.Laws.Members.{each_member, member-each}
use Rattle.pool.specs.Laws.Walks.{skip, OfNode, of_node}

pub nth-there : {A : Type 0} (l : List A) (n : ℕ) → n < length l → (a : A) × (nth l n ≡ some a)
nth-there [] n h = absurd (not-suc-le-zero h)
nth-there (a ∷ l) zero h = (a, refl)
nth-there (a ∷ l) (suc n) h = nth-there l n (le_of_suc-le-suc h)

pub nth-below : {A : Type 0} (l : List A) (n : ℕ) {a : A} → nth l n ≡ some a → n < length l
nth-below [] n {a} h = absurd (none-ne-some a h)
nth-below (b ∷ l) zero h = omega arith
nth-below (b ∷ l) (suc n) h = let r = nth-below l n h in omega arith

forest-nth : (p : Pool) (xs : List Expression) (e : ℕ) {y : Expression} → nth xs e ≡ some y → nth (forest_from p xs) e ≡ some (expression_of p y)
forest-nth p [] e {y} h = absurd (none-ne-some y h)
forest-nth p (x ∷ xs) zero h = ap (λ z. some (expression_of p z)) (some-injective _ _ h)
forest-nth p (x ∷ xs) (suc e) h = forest-nth p xs e h

forest-length : (p : Pool) (xs : List Expression) → length (forest_from p xs) ≡ length xs
forest-length p [] = refl
forest-length p (x ∷ xs) = ap suc (forest-length p xs)

-- AN EXPRESSION OF THE FOREST is that of the pool
pub forest-at :
    (p : Pool) (e : ℕ) (x : meaning.Expression) → nth (forest p) e ≡ some x →
    (e < length p.expressions) × (x.tree ≡ tree p (root_of p e))
unfolding forest
forest-at p e x h =
    let l : e < length p.expressions = subst (λ n. e < n) (forest-length p p.expressions) (nth-below (forest_from p p.expressions) e h) in
    let y = nth-there p.expressions e l in
    let q : expression_of p y.0 ≡ x = some-injective _ _ (sym (forest-nth p p.expressions e y.1) ∙ h) in
    (l, ap (λ z. z.tree) (sym q) ∙ ap (λ (z : Option Expression). tree p (or_else z (record { root = 0; flags = 0 })).root) (sym y.1))

pub forest-has : (p : Pool) (e : ℕ) → e < length p.expressions → (x : meaning.Expression) × (nth (forest p) e ≡ some x)
unfolding forest
forest-has p e h = let y = nth-there p.expressions e h in (expression_of p y.0, forest-nth p p.expressions e y.1)

pub forest-size : (p : Pool) → length (forest p) ≡ length p.expressions
unfolding forest
forest-size p = forest-length p p.expressions

-- a leaf that is read as an exp leaf stands at a node of that kind, with that id
abbrev NoExp : Leaf → ℕ → ℕ → Type 0
NoExp l i a = l ≡ Leaf.exp i a → ⊥

no_cell : (k : RowKind) (j b i a : ℕ) → NoExp (Leaf.cell k j b) i a
no_cell k j b i a q = let z : ◌≡◌ {A = ℕ} 0 1 = cc in omega arith

no-flat : (k : FlatKind) (j i a : ℕ) → NoExp (Leaf.flat k j) i a
no-flat k j i a q = let z : ◌≡◌ {A = ℕ} 0 1 = cc in omega arith

no-x : (k : XKind) (i a : ℕ) → NoExp (Leaf.x k) i a
no-x k i a q = let z : ◌≡◌ {A = ℕ} 0 1 = cc in omega arith

no_number : (x : Node) (i a : ℕ) → NoExp (Leaf.number (literal_of x)) i a
no_number x i a q = let z : ◌≡◌ {A = ℕ} 0 1 = cc in omega arith

pub exp-node : (x : Node) (i a : ℕ) → leaf_of x ≡ Leaf.exp i a → (x.kind ≡ kind.exp) × (x.id ≡ i)
exp-node x i a h =
    let t = x.kind in
    let h1 = skip (eqb t kind.cm) h (no_cell RowKind.cm x.id x.next i a) in
    let h2 = skip (eqb t kind.const) h1 (no_cell RowKind.const x.id x.next i a) in
    go (eqb t kind.exp) refl h2
  where
    rest : Leaf
    rest =
        cond (eqb x.kind kind.q) (Leaf.cell RowKind.q x.id x.next)
        (cond (eqb x.kind kind.number) (Leaf.number (literal_of x))
        (cond (eqb x.kind kind.public) (Leaf.flat FlatKind.public x.id)
        (cond (eqb x.kind kind.challenge) (Leaf.flat FlatKind.challenge x.id)
        (cond (eqb x.kind kind.eval) (Leaf.flat FlatKind.eval x.id)
        (cond (eqb x.kind kind.x_div_x_sub_xi) (Leaf.x XKind.x_div_x_sub_xi)
        (cond (eqb x.kind kind.x_div_x_sub_w_xi) (Leaf.x XKind.x_div_x_sub_w_xi) (Leaf.x XKind.plain_x)))))))

    no-rest : NoExp rest i a
    no-rest q =
        let q1 = skip (eqb x.kind kind.q) q (no_cell RowKind.q x.id x.next i a) in
        let q2 = skip (eqb x.kind kind.number) q1 (no_number x i a) in
        let q3 = skip (eqb x.kind kind.public) q2 (no-flat FlatKind.public x.id i a) in
        let q4 = skip (eqb x.kind kind.challenge) q3 (no-flat FlatKind.challenge x.id i a) in
        let q5 = skip (eqb x.kind kind.eval) q4 (no-flat FlatKind.eval x.id i a) in
        let q6 = skip (eqb x.kind kind.x_div_x_sub_xi) q5 (no-x XKind.x_div_x_sub_xi i a) in
        let q7 = skip (eqb x.kind kind.x_div_x_sub_w_xi) q6 (no-x XKind.x_div_x_sub_w_xi i a) in
        no-x XKind.plain_x i a q7

    go : (b : Bool) → eqb x.kind kind.exp ≡ b → cond b (Leaf.exp x.id x.next) rest ≡ Leaf.exp i a → (x.kind ≡ kind.exp) × (x.id ≡ i)
    go true e q = (eqb-true _ _ e, cc)
    go false e q = absurd (no-rest q)

module _ (p : Pool) (shaped : Shaped p) (rank : ℕ → ℕ) (ranked : Ranked p [] rank) where
  leaf-falls : (e : ℕ) → e < length p.expressions → (w : Placed) → Member w (leaves (tree p (root_of p e))) → OfNode p w → Falls (forest p) rank (rank e) w
  leaf-falls e h (Leaf.cell k i a at n) m o = tt
  leaf-falls e h (Leaf.exp i a at n) m o =
      let k = exp-node (node p n) i a (sym o.1) in
      let l : i < length p.expressions = subst (λ j. j < length p.expressions) k.1 (shaped.asked n o.0 k.0) in
      (ranked.falls e i (record { source = h; leaf = Leaf.exp i a at n; stands = m; leads = refl }), forest-has p i l)
  leaf-falls e h (Leaf.number l at n) m o = tt
  leaf-falls e h (Leaf.flat k i at n) m o = tt
  leaf-falls e h (Leaf.x k at n) m o = tt

  -- THE FOREST OF AN ADMITTED POOL IS ACYCLIC
  pub forest-acyclic : Acyclic (forest p)
  forest-acyclic = record {
    rank = rank;
    below = λ e x q. subst (λ n. rank e < n) (sym (forest-size p)) (ranked.below e (forest-at p e x q).0);
    falls = λ e x q.
        let w = forest-at p e x q in
        let r = root_of p e in
        subst (λ t. Each (Falls (forest p) rank (rank e)) (leaves t)) (sym w.1)
        (each_member (Falls (forest p) rank (rank e)) (leaves (tree p r))
        (λ l m. leaf-falls e w.0 l m (member-each (OfNode p) (leaves (tree p r)) (of_node p shaped r (shaped.rooted e w.0)) l m)));
  }

-- AND ITS RANKS ARE THE POOL'S
module _ (p : Pool) (acyclic : Acyclic (forest p)) where
  abbrev rank_of : ℕ → ℕ
  rank_of = acyclic.rank

  leads_down : (m : ℕ) (w : Placed) (t : ℕ) → leads_to [] w ≡ some t → Falls (forest p) rank_of m w → rank_of t < m
  leads_down m (Leaf.cell RowKind.cm i a at n) t q f = absurd (none-ne-some t q)
  leads_down m (Leaf.cell RowKind.const i a at n) t q f = absurd (none-ne-some t q)
  leads_down m (Leaf.cell RowKind.q i a at n) t q f = absurd (none-ne-some t q)
  leads_down m (Leaf.exp i a at n) t q f = subst (λ j. rank_of j < m) (some-injective _ _ q) f.0
  leads_down m (Leaf.number l at n) t q f = absurd (none-ne-some t q)
  leads_down m (Leaf.flat k i at n) t q f = absurd (none-ne-some t q)
  leads_down m (Leaf.x k at n) t q f = absurd (none-ne-some t q)

  pub acyclic-ranked : Ranked p [] acyclic.rank
  acyclic-ranked = record {
    below = λ e h. let x = forest-has p e h in subst (λ n. rank_of e < n) (forest-size p) (acyclic.below e x.0 x.1);
    falls = λ e t d.
        let x = forest-has p e d.source in
        let l = leaves (tree p (root_of p e)) in
        let f : Each (Falls (forest p) rank_of (rank_of e)) l =
        subst (λ y. Each (Falls (forest p) rank_of (rank_of e)) (leaves y)) (forest-at p e x.0 x.1).1 (acyclic.falls e x.0 x.1) in
        leads_down (rank_of e) d.leaf t d.leads (member-each (Falls (forest p) rank_of (rank_of e)) l f d.leaf d.stands);
  }
