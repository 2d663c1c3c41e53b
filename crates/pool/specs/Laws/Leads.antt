-- Where the leaves of a tree lead, by the kind and the children of its node, over plain variables.
-- Assumes nothing.
use Rattle.std.specs.Prelude.{ℕ, zero, suc, ◌<◌, ◌≤◌, ◌≡◌, refl, Bool, true, false, cond, List, [], ◌∷◌, ◌↔◌, length, eqb}
use Rattle.std.proofs.Common.{sym, ◌∙◌, ap, subst, inl, inr, arith, ne_eqb, eqb-true}
use Rattle.std.proofs.Math.Option.{none, some, none-ne-some, some-injective}
use Rattle.std.proofs.lemmas.Bool.{eqb-false}
use Rattle.meaning.specs.Trees.{RowKind, Leaf, Expr, nth, Placed, ◌at◌, leaves, Each, Member}
use Rattle.meaning.proofs.Laws.Tests.{each_map}
use Rattle.frames.specs.declared.node.Node.{Node}
use Rattle.kinds.specs.KindBytes as kind
use Rattle.kinds.specs.Kinds.{child_count}
use Rattle.pool.specs.Pool.{Pool, node, children}
use Rattle.pool.specs.Trees.{leaf_of, Class, leafy, class, tree}
use Rattle.pool.specs.Shaped.{Shaped}
use Rattle.pool.specs.Admission.{leads_to}
use Rattle.pool.specs.Cycles.{lead_by}
use Rattle.pool.specs.Laws.Trees.{arity, arity-is, class-leafy, leaves-under, leaf-is}
use Rattle.pool.specs.Laws.Walks.{OfNode, of_node}
use Rattle.pool.specs.Laws.Forest.{exp-node}

pub nth-member : (l : List ℕ) (i : ℕ) {u : ℕ} → nth l i ≡ some u → Member u l
nth-member [] i {u} h = absurd (none-ne-some u h)
nth-member (a ∷ l) zero h = inl (some-injective _ _ h)
nth-member (a ∷ l) (suc i) h = inr (nth-member l i h)

-- what is of either is of the chosen
either_way : (Q : Leaf → Type 0) (b : Bool) (k l : Leaf) → Q k → Q l → Q (cond b k l)
either_way Q true k l f g = f
either_way Q false k l f g = g

-- a leaf of another kind than exp and q leads nowhere
pub leads-nowhere : (table : List ℕ) (x : Node) (n : ℕ) → (x.kind ≡ kind.exp → ⊥) → (x.kind ≡ kind.q → ⊥) → leads_to table (leaf_of x at n) ≡ none
leads-nowhere table x n a b =
    rw (ne_eqb x.kind kind.exp a, ne_eqb x.kind kind.q b)
    (either_way Q (eqb x.kind kind.cm) _ _ refl
    (either_way Q (eqb x.kind kind.const) _ _ refl
    (either_way Q (eqb x.kind kind.number) _ _ refl
    (either_way Q (eqb x.kind kind.public) _ _ refl
    (either_way Q (eqb x.kind kind.challenge) _ _ refl
    (either_way Q (eqb x.kind kind.eval) _ _ refl
    (either_way Q (eqb x.kind kind.x_div_x_sub_xi) _ _ refl
    (either_way Q (eqb x.kind kind.x_div_x_sub_w_xi) _ _ refl refl))))))))
  where
    Q : Leaf → Type 0
    Q l = leads_to table (l at n) ≡ none

-- the leaf of a node leads where its kind and id say
pub lead_is : (table : List ℕ) (x : Node) (n : ℕ) → leads_to table (leaf_of x at n) ≡ lead_by table x.kind x.id
lead_is table x n = go (eqb x.kind kind.exp) refl
  where
    exp-leaf : x.kind ≡ kind.exp → leaf_of x ≡ Leaf.exp x.id x.next
    exp-leaf h = rw h

    q-leaf : x.kind ≡ kind.q → leaf_of x ≡ Leaf.cell RowKind.q x.id x.next
    q-leaf h = rw h

    other : (x.kind ≡ kind.exp → ⊥) → (c : Bool) → eqb x.kind kind.q ≡ c → leads_to table (leaf_of x at n) ≡ cond c (nth table x.id) none
    other a true e = ap (λ l. leads_to table (l at n)) (q-leaf (eqb-true _ _ e))
    other a false e = leads-nowhere table x n a (eqb-false _ _ e)

    go :
        (c : Bool) → eqb x.kind kind.exp ≡ c →
        leads_to table (leaf_of x at n) ≡ cond c (some x.id) (cond (eqb x.kind kind.q) (nth table x.id) none)
    go true e = ap (λ l. leads_to table (l at n)) (exp-leaf (eqb-true _ _ e))
    go false e = other (eqb-false _ _ e) (eqb x.kind kind.q) refl

-- a kind that has no children in the table is a leaf's, and one that has some is not
pub no-children : (k : ℕ) → child_count k ≡ 0 → class k ≡ leafy
no-children k h = go (class k) refl (arity-is k)
  where
    go : (c : Class) → class k ≡ c → arity c ≡ child_count k → class k ≡ leafy
    go (Class.binary o) q a = absurd (omega (arith, a))
    go Class.fused q a = absurd (omega (arith, a))
    go (Class.constant o) q a = absurd (omega (arith, a))
    go Class.negation q a = absurd (omega (arith, a))
    go Class.leafy q a = q

pub some-children : (k : ℕ) → (child_count k ≡ 0 → ⊥) → class k ≡ leafy → ⊥
some-children k h q = h (sym (arity-is k) ∙ ap arity q)

-- children by count
pub children-one : (x : Node) → x.count ≡ 1 → children x ≡ x.c0 ∷ []
children-one x h = rw h

pub children-two : (x : Node) → x.count ≡ 2 → children x ≡ x.c0 ∷ x.c1 ∷ []
children-two x h = rw h

pub children-three : (x : Node) → x.count ≡ 3 → children x ≡ x.c0 ∷ x.c1 ∷ x.c2 ∷ []
children-three x h = rw h

-- the child counts of the table
pub counts_up_to-three : (k : ℕ) → child_count k ≤ 3
counts_up_to-three k = subst (λ n. n ≤ 3) (arity-is k) (by (class k))
  where
    by : (c : Class) → arity c ≤ 3
    by (Class.binary o) = omega arith
    by Class.fused = omega arith
    by (Class.constant o) = omega arith
    by Class.negation = omega arith
    by Class.leafy = omega arith

module _ (p : Pool) (table : List ℕ) (shaped : Shaped p) where
  -- Q of each expression that a tree's leaves lead to
  abbrev pub LeadsTo : (ℕ → Type 0) → ℕ → Type 0
  LeadsTo Q n = Each (λ w. (u : ℕ) → leads_to table w ≡ some u → Q u) (leaves (tree p n))

  pub leads-map : (Q R : ℕ → Type 0) → ((u : ℕ) → Q u → R u) → (n : ℕ) → LeadsTo Q n → LeadsTo R n
  leads-map Q R f n h =
      each_map (λ w. (u : ℕ) → leads_to table w ≡ some u → Q u) (λ w. (u : ℕ) → leads_to table w ≡ some u → R u) (λ w k u q. f u (k u q)) (leaves (tree p n)) h

  module _ (n : ℕ) (h : n < length p.nodes) where
    leafy-kind : 7 < (node p n).kind → tree p n ≡ Expr.leaf n (leaf_of (node p n))
    leafy-kind l = leaf-is p shaped n h (class-leafy (node p n).kind l)

    exp-leaf : (node p n).kind ≡ kind.exp → leaf_of (node p n) ≡ Leaf.exp (node p n).id (node p n).next
    exp-leaf k = rw k

    q-leaf : (node p n).kind ≡ kind.q → leaf_of (node p n) ≡ Leaf.cell RowKind.q (node p n).id (node p n).next
    q-leaf k = rw k

    leaf-leads : (Q : ℕ → Type 0) → 7 < (node p n).kind → LeadsTo Q n → (u : ℕ) → leads_to table (leaf_of (node p n) at n) ≡ some u → Q u
    leaf-leads Q l f u q = (subst (λ t. Each (λ w. (u : ℕ) → leads_to table w ≡ some u → Q u) (leaves t)) (leafy-kind l) f).0 u q

    leads-leaf : (Q : ℕ → Type 0) → 7 < (node p n).kind → ((u : ℕ) → leads_to table (leaf_of (node p n) at n) ≡ some u → Q u) → LeadsTo Q n
    leads-leaf Q l f = subst (λ t. Each (λ w. (u : ℕ) → leads_to table w ≡ some u → Q u) (leaves t)) (sym (leafy-kind l)) (f, tt)

    -- an exp leaf leads to its expression
    pub exp-leads : (Q : ℕ → Type 0) → (node p n).kind ≡ kind.exp → LeadsTo Q n ↔ Q (node p n).id
    exp-leads Q k = (
      λ f. leaf-leads Q (omega arith) f (node p n).id (ap (λ l. leads_to table (l at n)) (exp-leaf k)),
      λ g. leads-leaf Q (omega arith) (λ u q. subst Q (some-injective _ _ (sym (ap (λ l. leads_to table (l at n)) (exp-leaf k)) ∙ q)) g),
    )

    -- a q leaf leads where the table says
    pub q-leads : (Q : ℕ → Type 0) → (node p n).kind ≡ kind.q → {v : ℕ} → nth table (node p n).id ≡ some v → LeadsTo Q n ↔ Q v
    q-leads Q k e = (
      λ f. leaf-leads Q (omega arith) f _ (ap (λ l. leads_to table (l at n)) (q-leaf k) ∙ e),
      λ g. leads-leaf Q (omega arith) (λ u q. subst Q (some-injective _ _ (sym e ∙ sym (ap (λ l. leads_to table (l at n)) (q-leaf k)) ∙ q)) g),
    )

    pub q-nowhere : (Q : ℕ → Type 0) → (node p n).kind ≡ kind.q → nth table (node p n).id ≡ none → LeadsTo Q n
    q-nowhere Q k e = leads-leaf Q (omega arith) (λ u q. absurd (none-ne-some u (sym e ∙ sym (ap (λ l. leads_to table (l at n)) (q-leaf k)) ∙ q)))

    -- any other leaf leads nowhere
    pub other-nowhere : (Q : ℕ → Type 0) → (node p n).count ≡ 0 → ((node p n).kind ≡ kind.exp → ⊥) → ((node p n).kind ≡ kind.q → ⊥) → LeadsTo Q n
    other-nowhere Q c a b =
        let l : class (node p n).kind ≡ leafy = no-children (node p n).kind (sym (shaped.counts n h) ∙ c) in
        subst (λ t. Each (λ w. (u : ℕ) → leads_to table w ≡ some u → Q u) (leaves t)) (sym (leaf-is p shaped n h l))
        (((λ u q. absurd (none-ne-some u (sym (leads-nowhere table (node p n) n a b) ∙ q))), tt))

    -- an operation's leaves lead where its children's do
    pub children-lead : (Q : ℕ → Type 0) → ((node p n).count ≡ 0 → ⊥) → LeadsTo Q n ↔ Each (LeadsTo Q) (children (node p n))
    children-lead Q c =
        leaves-under p shaped (λ w. (u : ℕ) → leads_to table w ≡ some u → Q u) n h
        (some-children (node p n).kind (λ z. c (shaped.counts n h ∙ z)))

  -- where a leaf of an admitted pool leads there is an expression
  leads-there : ((u : ℕ) → Member u table → u < length p.expressions) → (w : Placed) → OfNode p w → (u : ℕ) → leads_to table w ≡ some u → u < length p.expressions
  leads-there T (Leaf.cell RowKind.cm i a at n) o u q = absurd (none-ne-some u q)
  leads-there T (Leaf.cell RowKind.const i a at n) o u q = absurd (none-ne-some u q)
  leads-there T (Leaf.cell RowKind.q i a at n) o u q = T u (nth-member table i q)
  leads-there T (Leaf.exp i a at n) o u q =
      let k = exp-node (node p n) i a (sym o.1) in
      subst (λ j. j < length p.expressions) (k.1 ∙ some-injective _ _ q) (shaped.asked n o.0 k.0)
  leads-there T (Leaf.number l at n) o u q = absurd (none-ne-some u q)
  leads-there T (Leaf.flat k i at n) o u q = absurd (none-ne-some u q)
  leads-there T (Leaf.x k at n) o u q = absurd (none-ne-some u q)

  pub all_there : ((u : ℕ) → Member u table → u < length p.expressions) → (n : ℕ) → n < length p.nodes → LeadsTo (λ u. u < length p.expressions) n
  all_there T n h =
      each_map (OfNode p) (λ w. (u : ℕ) → leads_to table w ≡ some u → u < length p.expressions) (leads-there T) (leaves (tree p n)) (of_node p shaped n h)
