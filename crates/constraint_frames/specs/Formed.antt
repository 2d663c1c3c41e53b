-- THE POOL WITH THE CONSTRAINT CAN BE WRITTEN as frames that are read as it, where the pool can: a copied node differs from the pool's in its children only.
-- Assumes nothing.
use Rattle.std.specs.Prelude.{ℕ, zero, suc, ◌+◌, ◌≤◌, ◌<◌, ◌≡◌, refl, true, length}
use Rattle.std.proofs.Common.{sym, ◌∙◌, ap, subst, arith, not-suc-le-zero, le_of_suc-le-suc, length-append}
use mathlib.Core.List.{List, [], ◌∷◌, ◌++◌}
use Rattle.kinds.specs.KindBytes as kind
use Rattle.kinds.specs.Kinds.{is_operation, is_leaf, is_node_kind, carries_id, carries_literal, takes_i64}
use Rattle.kinds.specs.Range.{within}
use Rattle.kinds.specs.Literals.{is_minus_zero, is_allowed}
use Rattle.meaning.specs.Trees.{Expr, Each}
use Rattle.frames.specs.Nodes.{head_ok, literal_ok}
use Rattle.frames.specs.Order.{node_limit, expression_limit, Input}
use Rattle.frames.specs.Written.{WellNode, WellExpression, All, no_more, one_more, WellFormed}
use Rattle.frames.specs.declared.node.Node.{Node}
use Rattle.pool.specs.Pool.{Pool, node, root_of}
use Rattle.pool.specs.Trees.{Class, binary, fused, constant, negation, leafy, class, grown, tree}
use Rattle.pool.specs.Shaped.{Shaped}
use Rattle.pool.specs.Laws.Trees.{arity, arity-is, tree_is, children_are}
use Rattle.constraint_meaning.specs.Numbers.{size}
use Rattle.constraint_pool.specs.Nodes.{leaf_node, pair_node, moved, last, copied, scaled, identity_nodes, identities_nodes, member_nodes, body_of, members_nodes, constraint_nodes, with_constraint}
use Rattle.constraint_pool.specs.Whole.{AllBelow}
use Rattle.constraint_pool.specs.Extended.{at_of, below-head, below-tail}

-- a pool with no request
abbrev pub input_of : Pool → Input
input_of p = record { nodes = p.nodes; expressions = p.expressions; requests = [] }

-- ---- lists

all_append : {A : Type 0} (P : A → Type 0) (xs ys : List A) → All P xs → All P ys → All P (xs ++ ys)
all_append P [] ys a b = b
all_append P (x ∷ xs) ys (one_more p a) b = one_more p (all_append P xs ys a b)

pub all-at : (xs : List Node) → All WellNode xs → (k : ℕ) → k < length xs → WellNode (at_of xs k)
all-at [] a k h = absurd (not-suc-le-zero h)
all-at (x ∷ xs) (one_more p a) zero h = p
all-at (x ∷ xs) (one_more p a) (suc k) h = all-at xs a k (le_of_suc-le-suc h)

abbrev Wells : List Node → Type 0
Wells xs = All WellNode xs

join : (xs ys : List Node) → Wells xs → Wells ys → Wells (xs ++ ys)
join = all_append WellNode

only : (x : Node) → WellNode x → Wells (x ∷ [])
only x w = one_more w no_more

-- ---- a tree copied

moved-well :
    (x : Node) → WellNode x → (a b c : ℕ) → (x.count ≤ 0 → a ≡ 0) → (x.count ≤ 1 → b ≡ 0) → (x.count ≤ 2 → c ≡ 0) → WellNode (moved x a b c)
moved-well x w a b c p q r =
    record { head = w.head; few = w.few; no_first = p; no_second = q; no_third = r; literal = w.literal; bare = w.bare }

-- the nodes that a tree was read from are well formed, with as many children as it has
abbrev Sound : (ℕ → Node) → Expr → Type 0
Sound g (Expr.leaf k l) = WellNode (g k)
Sound g (Expr.bin k o a b) = WellNode (g k) × ((g k).count ≡ 2) × Sound g a × Sound g b
Sound g (Expr.muladd k a b c) = WellNode (g k) × ((g k).count ≡ 3) × Sound g a × Sound g b × Sound g c
Sound g (Expr.binc k o a l) = WellNode (g k) × ((g k).count ≡ 1) × Sound g a
Sound g (Expr.neg k a) = WellNode (g k) × ((g k).count ≡ 1) × Sound g a

module _ (p : Pool) (shaped : Shaped p) (well : Wells p.nodes) where
  counted : (c : Class) (i : ℕ) → i < length p.nodes → class (node p i).kind ≡ c → (node p i).count ≡ arity c
  counted c i h q = shaped.counts i h ∙ sym (arity-is (node p i).kind) ∙ ap arity q

  grown-sound :
      (c : Class) (i : ℕ) → i < length p.nodes → class (node p i).kind ≡ c → ((j : ℕ) → j < i → Sound (node p) (tree p j)) →
      Sound (node p) (grown c (tree p) i (node p i))
  grown-sound (binary o) i h q f =
      let e = rw q at (subst (Each (λ c. c < i)) (children_are p shaped i h) (shaped.earlier i h)) in
      (all-at p.nodes well i h, counted (binary o) i h q, f _ e.0, f _ e.1.0)
  grown-sound fused i h q f =
      let e = rw q at (subst (Each (λ c. c < i)) (children_are p shaped i h) (shaped.earlier i h)) in
      (all-at p.nodes well i h, counted fused i h q, f _ e.0, f _ e.1.0, f _ e.1.1.0)
  grown-sound (constant o) i h q f =
      let e = rw q at (subst (Each (λ c. c < i)) (children_are p shaped i h) (shaped.earlier i h)) in
      (all-at p.nodes well i h, counted (constant o) i h q, f _ e.0)
  grown-sound negation i h q f =
      let e = rw q at (subst (Each (λ c. c < i)) (children_are p shaped i h) (shaped.earlier i h)) in
      (all-at p.nodes well i h, counted negation i h q, f _ e.0)
  grown-sound leafy i h q f = all-at p.nodes well i h

  below : (b i : ℕ) → i < b → i < length p.nodes → Sound (node p) (tree p i)
  below zero i g h = absurd (omega arith)
  below (suc b) i g h =
      rw (tree_is p shaped i h) (grown-sound (class (node p i).kind) i h refl (λ j l. below b j (omega arith) (omega arith)))

  sound-tree : (i : ℕ) → i < length p.nodes → Sound (node p) (tree p i)
  sound-tree i h = below (suc i) i (omega arith) h

module _ (g : ℕ → Node) where
  one-child : (k : ℕ) → WellNode (g k) → (g k).count ≡ 1 → (a : ℕ) → WellNode (moved (g k) a 0 0)
  one-child k w e a = moved-well (g k) w a 0 0 (λ h. absurd (omega (arith, e))) (λ h. refl) (λ h. refl)

  copied-well : (t : Expr) → Sound g t → (n : ℕ) → Wells (copied g n t)
  copied-well (Expr.leaf k l) s n = only _ (moved-well (g k) s 0 0 0 (λ h. refl) (λ h. refl) (λ h. refl))
  copied-well (Expr.bin k o a b) s n =
      let e = s.1 in
      join (copied g n a) _ (copied-well a s.2 n)
      (join (copied g (n + size a) b) _ (copied-well b s.3 (n + size a))
      (only _ (moved-well (g k) s.0 _ _ 0 (λ h. absurd (omega (arith, e))) (λ h. absurd (omega (arith, e))) (λ h. refl))))
  copied-well (Expr.muladd k a b c) s n =
      let e = s.1 in
      join (copied g n a) _ (copied-well a s.2 n)
      (join (copied g (n + size a) b) _ (copied-well b s.3 (n + size a))
      (join (copied g (n + size a + size b) c) _ (copied-well c s.4 (n + size a + size b))
      (only _ (moved-well (g k) s.0 _ _ _ (λ h. absurd (omega (arith, e))) (λ h. absurd (omega (arith, e))) (λ h. absurd (omega (arith, e)))))))
  copied-well (Expr.binc k o a l) s n = join (copied g n a) _ (copied-well a s.2 n) (only _ (one-child k s.0 s.1 _))
  copied-well (Expr.neg k a) s n = join (copied g n a) _ (copied-well a s.2 n) (only _ (one-child k s.0 s.1 _))

-- ---- what joins it

leaf-well : (k i : ℕ) → head_ok k 0 i ≡ true → literal_ok k 0 0 ≡ true → WellNode (leaf_node k i)
leaf-well k i h l =
    record { head = h; few = omega arith; no_first = λ z. refl; no_second = λ z. refl; no_third = λ z. refl; literal = l; bare = λ z. (refl, refl) }

pair-well : (k a b : ℕ) → head_ok k 0 0 ≡ true → literal_ok k 0 0 ≡ true → WellNode (pair_node k a b)
pair-well k a b h l =
    record {
      head = h;
      few = omega arith;
      no_first = λ z. absurd (omega (arith, z));
      no_second = λ z. absurd (omega (arith, z));
      no_third = λ z. refl;
      literal = l;
      bare = λ z. (refl, refl);
    }

exp-well : (e : ℕ) → WellNode (leaf_node kind.exp e)
unfolding head_ok is_node_kind is_operation is_leaf carries_id within literal_ok is_allowed is_minus_zero takes_i64 carries_literal
exp-well e = leaf-well kind.exp e refl refl

cm-well : (i : ℕ) → WellNode (leaf_node kind.cm i)
unfolding head_ok is_node_kind is_operation is_leaf carries_id within literal_ok is_allowed is_minus_zero takes_i64 carries_literal
cm-well i = leaf-well kind.cm i refl refl

challenge-well : (i : ℕ) → WellNode (leaf_node kind.challenge i)
unfolding head_ok is_node_kind is_operation is_leaf carries_id within literal_ok is_allowed is_minus_zero takes_i64 carries_literal
challenge-well i = leaf-well kind.challenge i refl refl

add-well : (a b : ℕ) → WellNode (pair_node kind.add a b)
unfolding head_ok is_node_kind is_operation is_leaf carries_id within literal_ok is_allowed is_minus_zero takes_i64 carries_literal
add-well a b = pair-well kind.add a b refl refl

sub-well : (a b : ℕ) → WellNode (pair_node kind.sub a b)
unfolding head_ok is_node_kind is_operation is_leaf carries_id within literal_ok is_allowed is_minus_zero takes_i64 carries_literal
sub-well a b = pair-well kind.sub a b refl refl

mul-well : (a b : ℕ) → WellNode (pair_node kind.mul a b)
unfolding head_ok is_node_kind is_operation is_leaf carries_id within literal_ok is_allowed is_minus_zero takes_i64 carries_literal
mul-well a b = pair-well kind.mul a b refl refl

scaled-well : (vc n : ℕ) → Wells (scaled vc n)
scaled-well vc n = one_more (challenge-well vc) (only _ (mul-well _ _))

identities-well : (vc n : ℕ) (es : List ℕ) → Wells (identities_nodes vc n es)
unfolding identities_nodes
identities-well vc n [] = no_more
identities-well vc n (e ∷ es) =
    join (identity_nodes vc n e) _
    (join (scaled vc n) _ (scaled-well vc n) (one_more (exp-well e) (only _ (add-well _ _))))
    (identities-well vc (n + 4) es)

module _ (p : Pool) (shaped : Shaped p) (well : Wells p.nodes) (vc : ℕ) where
  member-well : (n e i : ℕ) → e < length p.expressions → Wells (member_nodes (node p) vc n (body_of p e) i)
  member-well n e i h =
      let t = body_of p e in
      join (scaled vc n) _ (scaled-well vc n)
      (join (copied (node p) (n + 2) t) _ (copied-well (node p) t (sound-tree p shaped well (root_of p e) (shaped.rooted e h)) (n + 2))
      (one_more (cm-well i) (one_more (sub-well _ _) (only _ (add-well _ _)))))

  members-well : (n i : ℕ) (es : List ℕ) → AllBelow (length p.expressions) es → Wells (members_nodes p vc n i es)
  unfolding members_nodes
  members-well n i [] h = no_more
  members-well n i (e ∷ es) h =
      join (member_nodes (node p) vc n (body_of p e) i) _ (member-well n e i (below-head (length p.expressions) e es h))
      (members-well (n + (size (body_of p e) + 5)) (suc i) es (below-tail (length p.expressions) e es h))

  -- THE NODES OF THE CONSTRAINT are well formed
  pub constraint-well : (i e : ℕ) (es ms : List ℕ) → AllBelow (length p.expressions) ms → Wells (constraint_nodes p vc i e es ms)
  unfolding constraint_nodes
  constraint-well i e es ms h =
      one_more (exp-well e) (join (identities_nodes vc (length p.nodes + 1) es) _ (identities-well vc (length p.nodes + 1) es) (members-well _ i ms h))

-- THE POOL WITH THE CONSTRAINT is well formed
pub constraint-formed :
    (p : Pool) → Shaped p → WellFormed (input_of p) → (vc i e : ℕ) (es ms : List ℕ) → AllBelow (length p.expressions) ms →
    length p.nodes + length (constraint_nodes p vc i e es ms) ≤ node_limit → length p.expressions < expression_limit →
    WellFormed (input_of (with_constraint p vc i e es ms))
unfolding with_constraint
constraint-formed p s w vc i e es ms h n m =
    let ns = constraint_nodes p vc i e es ms in
    record {
      nodes = join p.nodes ns w.nodes (constraint-well p s w.nodes vc i e es ms h);
      expressions = all_append WellExpression p.expressions _ w.expressions (one_more (record { flags = omega arith }) no_more);
      requests = no_more;
      nodes_fit = rw (length-append p.nodes ns) n;
      expressions_fit = rw (length-append p.expressions (record { root = last (length p.nodes) (length ns); flags = 0 } ∷ [])) (omega arith);
      requests_fit = omega arith;
    }
