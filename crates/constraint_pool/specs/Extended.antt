-- THE POOL WITH THE CONSTRAINT has the shape of an admitted pool, and stands for the extended forest.
-- Assumes nothing.
use Prim.Native.Nat.{ℕ, zero, suc, ◌+◌, ◌-◌, ◌*◌, ◌≤◌, ◌<◌}
use Rattle.std.specs.Prelude.{◌≡◌, Bool, true, false, ltb}
use Rattle.std.proofs.Math.Path.{refl, ap, subst}
use Rattle.std.proofs.Common.{sym, ◌∙◌, add-zero, zero-add, le_of_suc-le-suc, not-suc-le-zero, ltb-true, ltb-false}
use Rattle.std.proofs.Math.Option.{Option}
use mathlib.Core.List.{List, [], ◌∷◌, ◌++◌, append_assoc, append-nil}
use native.Mathlib.Omega.{arith}
use Rattle.std.proofs.Math.ListN.{length, length-append}
use Rattle.kinds.specs.KindBytes as kind
use Rattle.kinds.specs.Kinds.{child_count}
use Rattle.kinds.specs.Range.{within}
use Rattle.meaning.specs.Trees.{Each, nth}
use Rattle.frames.specs.declared.node.Node.{Node}
use Rattle.frames.specs.declared.rest.Expression.{Expression}
use Rattle.pool.specs.Pool.{Pool, node, root_of, or_else, blank, children, child_uses, root_uses, uses, times}
use Rattle.pool.specs.Shaped.{Shaped}
use Rattle.pool.specs.Laws.Tabled.{nth-before, nth_end}
use Rattle.constraint_meaning.specs.Numbers.{size}
use Rattle.constraint_pool.specs.Nodes.{leaf_node, last, identity_nodes, identities_nodes, member_nodes, body_of, members_nodes, constraint_nodes, with_constraint}
use Rattle.constraint_pool.specs.Lists.{member-length, identities-length}
use Rattle.constraint_pool.specs.Whole.{AllBelow}
use Rattle.constraint_pool.specs.Fine.{Good, Labelled, labelled_tree, Fine, fine-append, one, span, span-before, span-once, one-other, times-append, uses-split, Tied, tied_leaf, identity_tied, member_tied, identity-fine, member-fine, leaf-fine}

-- ---- nodes appended

abbrev pub at_of : List Node → ℕ → Node
at_of xs n = or_else (nth xs n) blank

pub node-before : (xs ys : List Node) (n : ℕ) → n < length xs → at_of (xs ++ ys) n ≡ at_of xs n
node-before xs ys n h = ap (λ z. or_else z blank) (nth-before xs ys n h)

-- a property of each node with its number
abbrev pub Every : (ℕ → Node → Type 0) → ℕ → List Node → Type 0
Every Q k [] = Unit {0}
Every Q k (x ∷ xs) = Q k x × Every Q (suc k) xs

every-at : (Q : ℕ → Node → Type 0) (xs : List Node) (k n : ℕ) → Every Q k xs → n < length xs → Q (k + n) (at_of xs n)
every-at Q [] k n e h = absurd (not-suc-le-zero h)
every-at Q (x ∷ xs) k zero e h = subst (λ j. Q j x) (sym (add-zero k)) e.0
every-at Q (x ∷ xs) k (suc n) e h =
    subst (λ j. Q j (at_of xs n)) (let z : suc k + n ≡ k + suc n = omega arith in z) (every-at Q xs (suc k) n e.1 (le_of_suc-le-suc h))

pub every-from : (Q : ℕ → Node → Type 0) (xs : List Node) (k : ℕ) → ((n : ℕ) → n < length xs → Q (k + n) (at_of xs n)) → Every Q k xs
every-from Q [] k h = tt
every-from Q (x ∷ xs) k h = (
  subst (λ j. Q j x) (add-zero k) (h 0 (omega arith)),
  every-from Q xs (suc k) (λ n l. subst (λ j. Q j (at_of xs n)) (let z : k + suc n ≡ suc k + n = omega arith in z) (h (suc n) (omega arith))),
)

every-join : (Q : ℕ → Node → Type 0) (k : ℕ) (xs ys : List Node) (j : ℕ) → k + length xs ≡ j → Every Q k xs → Every Q j ys → Every Q k (xs ++ ys)
every-join Q k [] ys j e a b = subst (λ i. Every Q i ys) (let z : j ≡ k = omega arith in z) b
every-join Q k (x ∷ xs) ys j e a b = (a.0, every-join Q (suc k) xs ys j (omega arith) a.1 b)

pub every-left : (Q : ℕ → Node → Type 0) (k : ℕ) (xs ys : List Node) → Every Q k (xs ++ ys) → Every Q k xs
every-left Q k [] ys a = tt
every-left Q k (x ∷ xs) ys a = (a.0, every-left Q (suc k) xs ys a.1)

pub every-right : (Q : ℕ → Node → Type 0) (k : ℕ) (xs ys : List Node) (j : ℕ) → k + length xs ≡ j → Every Q k (xs ++ ys) → Every Q j ys
every-right Q k [] ys j e a = subst (λ i. Every Q i ys) (let z : k ≡ j = omega arith in z) a
every-right Q k (x ∷ xs) ys j e a = every-right Q (suc k) xs ys j (omega arith) a.1

-- what a pool's shape says of one node
abbrev Rule : ℕ → ℕ → Node → Type 0
Rule m n x = (x.count ≡ child_count x.kind) × Each (λ c. c < n) (children x) × (x.kind ≡ kind.exp → x.id < m)

fine-rules : (m n : ℕ) (xs : List Node) → Fine m n xs → Every (Rule m) n xs
fine-rules m n [] f = tt
fine-rules m n (x ∷ xs) f = ((f.0.counts, f.0.earlier, f.0.asked), fine-rules m (suc n) xs f.1)

-- a number above all is not used
unused : (k n : ℕ) (cs : List ℕ) → Each (λ c. c < k) cs → k ≤ n → times n cs ≡ 0
unused k n [] e h = refl
unused k n (c ∷ cs) e h =
    let a = times-append n (c ∷ []) cs in
    let b = one-other n c (λ z. let l = e.0 in omega arith) in
    omega (arith, unused k n cs e.1 h)

unused-children : (m k n : ℕ) (xs : List Node) → Every (Rule m) k xs → k + length xs ≤ n → times n (child_uses xs) ≡ 0
unused-children m k n [] r h = refl
unused-children m k n (x ∷ xs) r h =
    times-append n (children x) (child_uses xs)
    ∙ omega (arith, unused k n (children x) r.0.1 (omega arith), unused-children m (suc k) n xs r.1 (omega arith))

abbrev pub expression_root : List Expression → ℕ → ℕ
expression_root xs e = (or_else (nth xs e) (record { root = 0; flags = 0 })).root

unused-roots : (k n : ℕ) (xs : List Expression) → ((e : ℕ) → e < length xs → expression_root xs e < k) → k ≤ n → times n (root_uses xs) ≡ 0
unused-roots k n [] r h = refl
unused-roots k n (x ∷ xs) r h =
    let a = times-append n (x.root ∷ []) (root_uses xs) in
    let l : x.root < k = r 0 (omega arith) in
    let b = one-other n x.root (λ z. omega arith) in
    omega (arith, unused-roots k n xs (λ e g. r (suc e) (omega arith)) h)

roots-append : (xs : List Expression) (y : Expression) → root_uses (xs ++ (y ∷ [])) ≡ root_uses xs ++ (y.root ∷ [])
roots-append [] y = refl
roots-append (x ∷ xs) y = ap (λ z. x.root ∷ z) (roots-append xs y)

-- ---- lists of identities and members

pub below-head : (m e : ℕ) (es : List ℕ) → AllBelow m (e ∷ es) → e < m
below-head m e es a = a 0 (omega arith)

pub below-tail : (m e : ℕ) (es : List ℕ) → AllBelow m (e ∷ es) → AllBelow m es
below-tail m e es a k h = a (suc k) (omega arith)

module _ (vc : ℕ) where
  identities_tied : (k : ℕ) (C : List Node) (n : ℕ) (es : List ℕ) → Tied k C → n ≡ k + length C → Tied k (C ++ identities_nodes vc n es)
  unfolding identities_nodes
  identities_tied k C n [] c e = rw (append-nil C) c
  identities_tied k C n (x ∷ es) c e =
      let I = identity_nodes vc n x in
      let f : n + 4 ≡ k + length (C ++ I) = rw (length-append C I) (omega arith) in
      subst (Tied k) (append_assoc C I (identities_nodes vc (n + 4) es))
      (identities_tied k (C ++ I) (n + 4) es (identity_tied k C c vc n e x) f)

  module _ (m : ℕ) (small : vc < 65536) (few : m ≤ 65536) where
    identities-fine : (n : ℕ) (es : List ℕ) → 0 < n → n + 4 * length es ≤ 65536 → AllBelow m es → Fine m n (identities_nodes vc n es)
    unfolding identities_nodes
    identities-fine n [] s h a = tt
    identities-fine n (x ∷ es) s h a =
        let b = below-head m x es a in
        fine-append m n (identity_nodes vc n x) (identities_nodes vc (n + 4) es) (n + 4) refl (identity-fine m vc small n x s (omega arith) b (omega arith))
        (identities-fine (n + 4) es (omega arith) (omega arith) (below-tail m x es a))

  module _ (p : Pool) (m : ℕ) (body : (e : ℕ) → e < m → Labelled m (node p) (body_of p e)) where
    members_tied : (k : ℕ) (C : List Node) (n i : ℕ) (es : List ℕ) → Tied k C → n ≡ k + length C → AllBelow m es → Tied k (C ++ members_nodes p vc n i es)
    unfolding members_nodes
    members_tied k C n i [] c e a = rw (append-nil C) c
    members_tied k C n i (x ∷ es) c e a =
        let t = body_of p x in
        let M = member_nodes (node p) vc n t i in
        let f : n + (size t + 5) ≡ k + length (C ++ M) = rw (length-append C M) (omega (arith, member-length (node p) vc n t i)) in
        subst (Tied k) (append_assoc C M (members_nodes p vc (n + (size t + 5)) (suc i) es))
        (members_tied k (C ++ M) (n + (size t + 5)) (suc i) es (member_tied k C c vc m (node p) t (body x (below-head m x es a)) n e i) f (below-tail m x es a))

    members-fine :
        vc < 65536 → (n i : ℕ) (es : List ℕ) → 0 < n → n + length (members_nodes p vc n i es) ≤ 65536 → i + length es ≤ 65536 → AllBelow m es →
        Fine m n (members_nodes p vc n i es)
    unfolding members_nodes
    members-fine v n i [] s h c a = tt
    members-fine v n i (x ∷ es) s h c a =
        let t = body_of p x in
        let M = member_nodes (node p) vc n t i in
        let R = members_nodes p vc (n + (size t + 5)) (suc i) es in
        let l = member-length (node p) vc n t i in
        let r = length-append M R in
        fine-append m n M R (n + (size t + 5)) (omega arith) (member-fine m vc v (node p) t (body x (below-head m x es a)) n i s (omega arith) (omega arith))
        (members-fine v (n + (size t + 5)) (suc i) es (omega arith) (omega arith) (omega arith) (below-tail m x es a))

-- ---- the whole

-- what is asked of a pool, its identities and its members
pub record Extends (p : Pool) (vc i e : ℕ) (es ms : List ℕ) : Type 0 where
  pub shaped : Shaped p
  pub good : (k : ℕ) → k < length p.nodes → Good (length p.expressions) (node p k)
  pub vc16 : vc < 65536
  pub few : length p.expressions ≤ 65536
  pub first : e < length p.expressions
  pub others : AllBelow (length p.expressions) es
  pub members : AllBelow (length p.expressions) ms
  pub columns : i + length ms ≤ 65536
  pub room : length p.nodes + length (constraint_nodes p vc i e es ms) ≤ 65536

module _ (p : Pool) (vc i e : ℕ) (es ms : List ℕ) (x : Extends p vc i e es ms) where
  abbrev pub N : ℕ
  N = length p.nodes

  abbrev pub M : ℕ
  M = length p.expressions

  abbrev pub ns : List Node
  ns = constraint_nodes p vc i e es ms

  abbrev pub q : Pool
  q = with_constraint p vc i e es ms

  pub body : (k : ℕ) → k < M → Labelled M (node p) (body_of p k)
  body k h = labelled_tree M p x.shaped x.good (root_of p k) (x.shaped.rooted k h)

  head_fold : Tied N (leaf_node kind.exp e ∷ identities_nodes vc (N + 1) es)
  head_fold = identities_tied vc N (leaf_node kind.exp e ∷ []) (N + 1) es (tied_leaf N (leaf_node kind.exp e) refl) refl

  -- EACH NEW NODE BUT THE ROOT IS USED ONCE
  pub all_tied : Tied N ns
  unfolding constraint_nodes
  all_tied =
      let I = leaf_node kind.exp e ∷ identities_nodes vc (N + 1) es in
      let f : N + 1 + 4 * length es ≡ N + length I = omega (arith, identities-length vc (N + 1) es) in
      members_tied vc p M body N I (N + 1 + 4 * length es) i ms head_fold f x.members

  pub all_fine : Fine M N ns
  unfolding constraint_nodes child_count within
  all_fine =
      let I = identities_nodes vc (N + 1) es in
      let K = N + 1 + 4 * length es in
      let R = members_nodes p vc K i ms in
      let l = identities-length vc (N + 1) es in
      let r : 1 + (length I + length R) ≤ 65536 - N = omega (arith, x.room, length-append I R) in (
        leaf-fine M N kind.exp e refl (λ z. x.first) (omega arith) (omega (arith, x.first, x.few)),
        fine-append M (suc N) I R K (omega arith) (subst (λ k. Fine M k I) (let z : N + 1 ≡ suc N = omega arith in z) (identities-fine vc M x.vc16 x.few (N + 1) es (omega arith) (omega arith) x.others))
            (members-fine vc p M body x.vc16 K i ms (omega arith) (omega (arith, x.room, length-append I R)) x.columns x.members),
      )

  -- ---- its shape

  old_rules : Every (Rule M) 0 p.nodes
  old_rules =
      every-from (Rule M) p.nodes 0
      (λ n h. subst (λ k. Rule M k (at_of p.nodes n)) (sym (zero-add n)) (x.shaped.counts n h, x.shaped.earlier n h, x.shaped.asked n h))

  rules : Every (Rule M) 0 (p.nodes ++ ns)
  rules = every-join (Rule M) 0 p.nodes ns N (zero-add N) old_rules (fine-rules M N ns all_fine)

  rule-at : (n : ℕ) → n < length q.nodes → Rule M n (node q n)
  unfolding with_constraint
  rule-at n h = subst (λ k. Rule M k (node q n)) (zero-add n) (every-at (Rule M) (p.nodes ++ ns) 0 n rules h)

  pub nodes_count : length q.nodes ≡ N + length ns
  unfolding with_constraint
  nodes_count = length-append p.nodes ns

  pub expressions_count : length q.expressions ≡ M + 1
  unfolding with_constraint
  expressions_count = length-append p.expressions _

  all_uses : (n : ℕ) → times n (uses q) ≡ times n (uses p) + span n N (length ns)
  unfolding with_constraint
  all_uses n =
      let r = last N (length ns) in
      let y : Expression = record { root = r; flags = 0 } in
      let a = times-append n (child_uses (p.nodes ++ ns)) (root_uses (p.expressions ++ (y ∷ []))) in
      let b = uses-split n p.nodes ns in
      let c : times n (root_uses (p.expressions ++ (y ∷ []))) ≡ times n (root_uses p.expressions) + one n r = ap (times n) (roots-append p.expressions y) ∙ times-append n (root_uses p.expressions) (r ∷ []) in
      let d = times-append n (child_uses p.nodes) (root_uses p.expressions) in
      omega (arith, all_tied.used n)

  old_unused : (n : ℕ) → N ≤ n → times n (uses p) ≡ 0
  old_unused n h =
      times-append n (child_uses p.nodes) (root_uses p.expressions)
      ∙ omega (arith, unused-children M 0 n p.nodes old_rules (omega arith), unused-roots N n p.expressions x.shaped.rooted h)

  once : (n : ℕ) → times n (uses q) ≤ 1
  once n = by (ltb n N) refl
    where
      by : (b : Bool) → ltb n N ≡ b → times n (uses q) ≤ 1
      by true e =
          let l = ltb-true n N e in
          omega (arith, all_uses n, span-before n N (length ns) l, x.shaped.once n l)
      by false e = omega (arith, all_uses n, old_unused n (ltb-false n N e), span-once n N (length ns))

  pub root_kept : (k : ℕ) → k < M → root_of q k ≡ root_of p k
  unfolding with_constraint
  root_kept k h = ap (λ (z : Option Expression). (or_else z (record { root = 0; flags = 0 })).root) (nth-before p.expressions _ k h)

  pub root_new : root_of q M ≡ last N (length ns)
  unfolding with_constraint
  root_new = ap (λ (z : Option Expression). (or_else z (record { root = 0; flags = 0 })).root) (nth_end p.expressions _)

  rooted : (k : ℕ) → k < M + 1 → root_of q k < N + length ns
  rooted k h = by (ltb k M) refl
    where
      by : (b : Bool) → ltb k M ≡ b → root_of q k < N + length ns
      by true e = let l = ltb-true k M e in omega (arith, root_kept k l, x.shaped.rooted k l)
      by false e =
          let l = ltb-false k M e in
          let z : k ≡ M = omega arith in
          omega (arith, ap (root_of q) z, root_new, all_tied.some)

  -- THE POOL WITH THE CONSTRAINT HAS ITS SHAPE
  pub extended_shaped : Shaped q
  extended_shaped = record {
    counts = λ n h. (rule-at n h).0;
    earlier = λ n h. (rule-at n h).1;
    once = λ n h. once n;
    asked = λ n h e. let l = (rule-at n h).2 e in omega (arith, expressions_count);
    rooted = λ k h. rw nodes_count (rooted k (rw expressions_count at h));
  }
