-- The nodes of the constraint have the shape that a pool's nodes have, and each but the last is used once. By pieces: a tree copied, an identity, a member.
-- Assumes nothing.
use Rattle.std.specs.Prelude.{ℕ, zero, suc, ◌+◌, ◌-◌, ◌≤◌, ◌<◌, ◌≡◌, Bool, true, false, cond, List, [], ◌∷◌, ◌++◌, length, eqb}
use Rattle.std.proofs.Math.Path.{refl}
use Rattle.std.proofs.Common.{sym, ◌∙◌, ap, subst, append_assoc, arith, add-zero, length-append, eq-eqb, ne_eqb, eqb-true}
use Rattle.kinds.specs.KindBytes as kind
use Rattle.kinds.specs.Kinds.{child_count}
use Rattle.kinds.specs.Range.{within}
use Rattle.meaning.specs.Trees.{Expr, Each}
use Rattle.frames.specs.Packing.{FitsNode}
use Rattle.frames.specs.declared.node.Node.{Node}
use Rattle.pool.specs.Pool.{Pool, node, children, child_uses, times}
use Rattle.pool.specs.Trees.{leaf_of, literal_of, Class, binary, fused, constant, negation, leafy, class, grown, tree}
use Rattle.pool.specs.Shaped.{Shaped}
use Rattle.pool.specs.Laws.Trees.{arity, arity-is, tree_is, children_are}
use Rattle.constraint_meaning.specs.Numbers.{size}
use Rattle.constraint_pool.specs.Nodes.{leaf_node, pair_node, moved, last, copied, scaled, identity_nodes, member_nodes}
use Rattle.constraint_pool.specs.Copies.{size-some, copied-length}

-- ---- a node of a pool with m expressions, whatever its children
pub record Good (m : ℕ) (x : Node) : Type 0 where
  pub counts : x.count ≡ child_count x.kind
  pub asked : x.kind ≡ kind.exp → x.id < m
  pub kind : x.kind < 256
  pub next : x.next < 256
  pub id : x.id < 65536
  pub count : x.count < 256
  pub sign : x.sign < 256

-- a tree is as its nodes say
abbrev pub Labelled : ℕ → (ℕ → Node) → Expr → Type 0
Labelled m g (Expr.leaf k l) = Good m (g k) × (class (g k).kind ≡ leafy) × (leaf_of (g k) ≡ l)
Labelled m g (Expr.bin k o a b) = Good m (g k) × (class (g k).kind ≡ binary o) × Labelled m g a × Labelled m g b
Labelled m g (Expr.muladd k a b c) = Good m (g k) × (class (g k).kind ≡ fused) × Labelled m g a × Labelled m g b × Labelled m g c
Labelled m g (Expr.binc k o a l) = Good m (g k) × (class (g k).kind ≡ constant o) × (literal_of (g k) ≡ l) × Labelled m g a
Labelled m g (Expr.neg k a) = Good m (g k) × (class (g k).kind ≡ negation) × Labelled m g a

module _ (m : ℕ) (p : Pool) (shaped : Shaped p) (good : (k : ℕ) → k < length p.nodes → Good m (node p k)) where
  grown_labelled :
      (c : Class) (i : ℕ) → i < length p.nodes → class (node p i).kind ≡ c → ((j : ℕ) → j < i → Labelled m (node p) (tree p j)) →
      Labelled m (node p) (grown c (tree p) i (node p i))
  grown_labelled (binary o) i h q f =
      let e = rw q at (subst (Each (λ c. c < i)) (children_are p shaped i h) (shaped.earlier i h)) in
      (good i h, q, f _ e.0, f _ e.1.0)
  grown_labelled fused i h q f =
      let e = rw q at (subst (Each (λ c. c < i)) (children_are p shaped i h) (shaped.earlier i h)) in
      (good i h, q, f _ e.0, f _ e.1.0, f _ e.1.1.0)
  grown_labelled (constant o) i h q f =
      let e = rw q at (subst (Each (λ c. c < i)) (children_are p shaped i h) (shaped.earlier i h)) in
      (good i h, q, refl, f _ e.0)
  grown_labelled negation i h q f =
      let e = rw q at (subst (Each (λ c. c < i)) (children_are p shaped i h) (shaped.earlier i h)) in
      (good i h, q, f _ e.0)
  grown_labelled leafy i h q f = (good i h, q, refl)

  below : (b i : ℕ) → i < b → i < length p.nodes → Labelled m (node p) (tree p i)
  below zero i g h = absurd (omega arith)
  below (suc b) i g h =
      rw (tree_is p shaped i h) (grown_labelled (class (node p i).kind) i h refl (λ j l. below b j (omega arith) (omega arith)))

  pub labelled_tree : (i : ℕ) → i < length p.nodes → Labelled m (node p) (tree p i)
  labelled_tree i h = below (suc i) i (omega arith) h

-- ---- one node at number n
pub record FineNode (m n : ℕ) (x : Node) : Type 0 where
  pub counts : x.count ≡ child_count x.kind
  pub earlier : Each (λ c. c < n) (children x)
  pub asked : x.kind ≡ kind.exp → x.id < m
  pub fits : FitsNode x

-- nodes from number n on
abbrev pub Fine : ℕ → ℕ → List Node → Type 0
Fine m n [] = Unit {0}
Fine m n (x ∷ xs) = FineNode m n x × Fine m (suc n) xs

pub fine-append : (m n : ℕ) (xs ys : List Node) (k : ℕ) → n + length xs ≡ k → Fine m n xs → Fine m k ys → Fine m n (xs ++ ys)
fine-append m n [] ys k e f g = subst (λ j. Fine m j ys) (let z : k ≡ n = omega arith in z) g
fine-append m n (x ∷ xs) ys k e f g = (f.0, fine-append m (suc n) xs ys k (omega arith) f.1 g)

-- a node with other children
module _ (m : ℕ) (x : Node) (g : Good m x) where
  moved-fits : (a b c : ℕ) → a < 65536 → b < 65536 → c < 65536 → FitsNode (moved x a b c)
  moved-fits a b c p q r =
      record { kind = g.kind; next = g.next; id = g.id; count = g.count; c0 = p; c1 = q; c2 = r; sign = g.sign }

  moved-fine :
      (n a b c : ℕ) → Each (λ k. k < n) (children (moved x a b c)) → a < 65536 → b < 65536 → c < 65536 → FineNode m n (moved x a b c)
  moved-fine n a b c e p q r = record { counts = g.counts; earlier = e; asked = g.asked; fits = moved-fits a b c p q r }

  count_of : (c : Class) → class x.kind ≡ c → x.count ≡ arity c
  count_of c q = g.counts ∙ sym (arity-is x.kind) ∙ ap arity q

  pub moved-leaf : class x.kind ≡ leafy → (a b c : ℕ) → children (moved x a b c) ≡ []
  moved-leaf q a b c = rw (count_of leafy q)

  pub moved-one : (k : Class) → arity k ≡ 1 → class x.kind ≡ k → (a b c : ℕ) → children (moved x a b c) ≡ a ∷ []
  moved-one k e q a b c = rw (count_of k q ∙ e)

  pub moved-two : (k : Class) → arity k ≡ 2 → class x.kind ≡ k → (a b c : ℕ) → children (moved x a b c) ≡ a ∷ b ∷ []
  moved-two k e q a b c = rw (count_of k q ∙ e)

  pub moved-three : class x.kind ≡ fused → (a b c : ℕ) → children (moved x a b c) ≡ a ∷ b ∷ c ∷ []
  moved-three q a b c = rw (count_of fused q)

module _ (m : ℕ) (g : ℕ → Node) where
  unary_fine : (k : ℕ) (c : Class) → arity c ≡ 1 → Good m (g k) → class (g k).kind ≡ c → (n : ℕ) (a : Expr) → n + size a < 65536 → Fine m n (copied g n a) → Fine m n (copied g n a ++ (moved (g k) (last n (size a)) 0 0 ∷ []))
  unary_fine k c z w q n a h f =
      let s = size-some a in
      fine-append m n (copied g n a) (moved (g k) (last n (size a)) 0 0 ∷ []) (n + size a) (rw (copied-length g n a)) f
      (moved-fine m (g k) w (n + size a) (last n (size a)) 0 0 (rw (moved-one m (g k) w c z q (last n (size a)) 0 0) (omega arith, tt)) (omega arith) (omega arith) (omega arith), tt)

  pub copied-fine : (t : Expr) → Labelled m g t → (n : ℕ) → n + size t ≤ 65536 → Fine m n (copied g n t)
  copied-fine (Expr.leaf k l) w n h = (moved-fine m (g k) w.0 n 0 0 0 (rw (moved-leaf m (g k) w.0 w.1 0 0 0) tt) (omega arith) (omega arith) (omega arith), tt)
  copied-fine (Expr.bin k o a b) w n h =
      let i = n + size a in
      let x = moved (g k) (last n (size a)) (last i (size b)) 0 in
      let s = size-some a in
      let r = size-some b in
      fine-append m n (copied g n a) (copied g i b ++ (x ∷ [])) i (rw (copied-length g n a)) (copied-fine a w.2 n (omega arith))
      (fine-append m i (copied g i b) (x ∷ []) (i + size b) (rw (copied-length g i b)) (copied-fine b w.3 i (omega arith))
      (moved-fine m (g k) w.0 (i + size b) (last n (size a)) (last i (size b)) 0 (rw (moved-two m (g k) w.0 (binary o) refl w.1 (last n (size a)) (last i (size b)) 0) (omega arith, (omega arith, tt))) (omega arith) (omega arith) (omega arith), tt))
  copied-fine (Expr.muladd k a b c) w n h =
      let i = n + size a in
      let j = i + size b in
      let x = moved (g k) (last n (size a)) (last i (size b)) (last j (size c)) in
      let s = size-some a in
      let r = size-some b in
      let u = size-some c in
      fine-append m n (copied g n a) (copied g i b ++ (copied g j c ++ (x ∷ []))) i (rw (copied-length g n a)) (copied-fine a w.2 n (omega arith))
      (fine-append m i (copied g i b) (copied g j c ++ (x ∷ [])) j (rw (copied-length g i b)) (copied-fine b w.3 i (omega arith))
      (fine-append m j (copied g j c) (x ∷ []) (j + size c) (rw (copied-length g j c)) (copied-fine c w.4 j (omega arith))
      (moved-fine m (g k) w.0 (j + size c) (last n (size a)) (last i (size b)) (last j (size c)) (rw (moved-three m (g k) w.0 w.1 (last n (size a)) (last i (size b)) (last j (size c))) (omega arith, (omega arith, (omega arith, tt)))) (omega arith) (omega arith) (omega arith), tt)))
  copied-fine (Expr.binc k o a l) w n h = unary_fine k (constant o) refl w.0 w.1 n a (omega arith) (copied-fine a w.3 n (omega arith))
  copied-fine (Expr.neg k a) w n h = unary_fine k negation refl w.0 w.1 n a (omega arith) (copied-fine a w.2 n (omega arith))

-- ---- uses

-- is n the number k?
abbrev pub one : ℕ → ℕ → ℕ
one n k = times n (k ∷ [])

-- is n one of the s numbers from k on?
abbrev pub span : ℕ → ℕ → ℕ → ℕ
span n k zero = 0
span n k (suc s) = span n k s + one n (k + s)

pub span-add : (n k a b : ℕ) → span n k (a + b) ≡ span n k a + span n (k + a) b
span-add n k a zero = rw (add-zero a) (omega arith)
span-add n k a (suc b) =
    let e : a + suc b ≡ suc (a + b) = omega arith in
    let f : k + (a + b) ≡ k + a + b = omega arith in
    let h = span-add n k a b in
    rw (e, f) (omega arith)

pub one_same : (n : ℕ) → one n n ≡ 1
one_same n = rw (eq-eqb n n refl)

pub one-other : (n k : ℕ) → (n ≡ k → ⊥) → one n k ≡ 0
one-other n k h = rw (ne_eqb n k h)

pub span-outside : (n k s : ℕ) → k + s ≤ n → span n k s ≡ 0
span-outside n k zero h = refl
span-outside n k (suc s) h = let a = span-outside n k s (omega arith) in let b = one-other n (k + s) (λ e. omega arith) in omega arith

pub span-before : (n k s : ℕ) → n < k → span n k s ≡ 0
span-before n k zero h = refl
span-before n k (suc s) h = let a = span-before n k s h in let b = one-other n (k + s) (λ e. omega arith) in omega arith

pub span-once : (n k s : ℕ) → span n k s ≤ 1
span-once n k zero = omega arith
span-once n k (suc s) = by (span-once n k s) (eqb n (k + s)) refl
  where
    by : span n k s ≤ 1 → (b : Bool) → eqb n (k + s) ≡ b → span n k s + one n (k + s) ≤ 1
    by h true e =
        let q : n ≡ k + s = eqb-true _ _ e in
        let a = span-outside n k s (omega arith) in
        let c : one n (k + s) ≡ 1 = rw e in
        omega arith
    by h false e = let c : one n (k + s) ≡ 0 = rw e in omega arith

pub times-append : (n : ℕ) (xs ys : List ℕ) → times n (xs ++ ys) ≡ times n xs + times n ys
times-append n [] ys = omega arith
times-append n (x ∷ xs) ys = by (eqb n x) (times-append n xs ys)
  where
    by : (b : Bool) → times n (xs ++ ys) ≡ times n xs + times n ys → cond b (suc (times n (xs ++ ys))) (times n (xs ++ ys)) ≡ cond b (suc (times n xs)) (times n xs) + times n ys
    by true h = omega arith
    by false h = h

pub times_cons : (n x : ℕ) (xs : List ℕ) → times n (x ∷ xs) ≡ one n x + times n xs
times_cons n x xs = times-append n (x ∷ []) xs

pub uses-append : (xs ys : List Node) → child_uses (xs ++ ys) ≡ child_uses xs ++ child_uses ys
uses-append [] ys = refl
uses-append (x ∷ xs) ys = rw (uses-append xs ys) (sym (append_assoc (children x) (child_uses xs) (child_uses ys)))

pub uses-split : (n : ℕ) (xs ys : List Node) → times n (child_uses (xs ++ ys)) ≡ times n (child_uses xs) + times n (child_uses ys)
uses-split n xs ys = ap (times n) (uses-append xs ys) ∙ times-append n (child_uses xs) (child_uses ys)

uses-node : (n : ℕ) (x : Node) → times n (child_uses (x ∷ [])) ≡ times n (children x)
uses-node n x = times-append n (children x) [] ∙ add-zero (times n (children x))

-- NODES FROM k ON ARE A TREE: each but the last is used once, and they use no others
pub record Tied (k : ℕ) (ns : List Node) : Type 0 where
  pub some : 0 < length ns
  pub used : (n : ℕ) → times n (child_uses ns) + one n (last k (length ns)) ≡ span n k (length ns)

-- one node more, whose children are what was not used
tie : (k : ℕ) (ns : List Node) (x : Node) → ((n : ℕ) → times n (child_uses ns) + times n (children x) ≡ span n k (length ns)) → Tied k (ns ++ (x ∷ []))
tie k ns x h =
    let e : length (ns ++ (x ∷ [])) ≡ suc (length ns) = length-append ns (x ∷ []) ∙ (omega arith) in
    record {
      some = omega arith;
      used = λ n.
          let a = uses-split n ns (x ∷ []) in
          let b = uses-node n x in
          let c : last k (length (ns ++ (x ∷ []))) ≡ k + length ns = omega arith in
          let d : one n (last k (length (ns ++ (x ∷ [])))) ≡ one n (k + length ns) = ap (one n) c in
          let f : span n k (length (ns ++ (x ∷ []))) ≡ span n k (length ns) + one n (k + length ns) = ap (span n k) e in
          omega (arith, h n);
    }

pub tied_leaf : (k : ℕ) (x : Node) → children x ≡ [] → Tied k (x ∷ [])
tied_leaf k x e = tie k [] x (λ n. rw e)

pub tied_one : (k : ℕ) (A : List Node) (x : Node) → Tied k A → children x ≡ last k (length A) ∷ [] → Tied k (A ++ (x ∷ []))
tied_one k A x a e = tie k A x (λ n. rw e (a.used n))

pub tied_two :
    (k : ℕ) (A B : List Node) (x : Node) → Tied k A → Tied (k + length A) B
    → ((n : ℕ) → times n (children x) ≡ one n (last k (length A)) + one n (last (k + length A) (length B))) → Tied k (A ++ (B ++ (x ∷ [])))
tied_two k A B x a b e =
    subst (Tied k) (append_assoc A B (x ∷ []))
    (tie k (A ++ B) x (λ n.
    let f : span n k (length (A ++ B)) ≡ span n k (length A) + span n (k + length A) (length B) = ap (span n k) (length-append A B) ∙ span-add n k (length A) (length B) in
    omega (arith, uses-split n A B, e n, a.used n, b.used n)))

pub tied_three :
    (k : ℕ) (A B C : List Node) (x : Node) → Tied k A → Tied (k + length A) B → Tied (k + length A + length B) C
    → children x ≡ last k (length A) ∷ last (k + length A) (length B) ∷ last (k + length A + length B) (length C) ∷ [] → Tied k (A ++ (B ++ (C ++ (x ∷ []))))
tied_three k A B C x a b c e =
    let z : ((A ++ B) ++ C) ++ (x ∷ []) ≡ A ++ (B ++ (C ++ (x ∷ []))) = append_assoc (A ++ B) C (x ∷ []) ∙ append_assoc A B (C ++ (x ∷ [])) in
    subst (Tied k) z
    (tie k ((A ++ B) ++ C) x (λ n.
    let f : span n k (length (A ++ B)) ≡ span n k (length A) + span n (k + length A) (length B) = ap (span n k) (length-append A B) ∙ span-add n k (length A) (length B) in
    let g : k + length (A ++ B) ≡ k + length A + length B = rw (length-append A B) (omega arith) in
    let h : span n k (length ((A ++ B) ++ C)) ≡ span n k (length (A ++ B)) + span n (k + length A + length B) (length C) = ap (span n k) (length-append (A ++ B) C) ∙ span-add n k (length (A ++ B)) (length C) ∙ ap (λ j. span n k (length (A ++ B)) + span n j (length C)) g in
    let u = times_cons n (last k (length A)) (last (k + length A) (length B) ∷ last (k + length A + length B) (length C) ∷ []) in
    let v = times_cons n (last (k + length A) (length B)) (last (k + length A + length B) (length C) ∷ []) in
    rw e (omega (arith, uses-split n A B, uses-split n (A ++ B) C, a.used n, b.used n, c.used n))))

-- ---- a tree copied is tied

pair-uses : (n : ℕ) (x : Node) (a b : ℕ) → children x ≡ a ∷ b ∷ [] → times n (children x) ≡ one n a + one n b
pair-uses n x a b e = ap (times n) e ∙ times_cons n a (b ∷ [])

module _ (m : ℕ) (g : ℕ → Node) where
  pub copied_tied : (t : Expr) → Labelled m g t → (k : ℕ) → Tied k (copied g k t)
  copied_tied (Expr.leaf i l) w k = tied_leaf k (moved (g i) 0 0 0) (moved-leaf m (g i) w.0 w.1 0 0 0)
  copied_tied (Expr.bin i o a b) w k =
      let p = copied-length g k a in
      let q = copied-length g (k + size a) b in
      let A = copied g k a in
      let B = copied g (k + size a) b in
      tied_two k A B (moved (g i) (last k (size a)) (last (k + size a) (size b)) 0) (copied_tied a w.2 k) (rw p (copied_tied b w.3 (k + size a)))
      (λ n. rw (p, q) (pair-uses n (moved (g i) (last k (size a)) (last (k + size a) (size b)) 0) (last k (size a)) (last (k + size a) (size b)) (moved-two m (g i) w.0 (binary o) refl w.1 (last k (size a)) (last (k + size a) (size b)) 0)))
  copied_tied (Expr.muladd i a b c) w k =
      let p = copied-length g k a in
      let q = copied-length g (k + size a) b in
      let r = copied-length g (k + size a + size b) c in
      let A = copied g k a in
      let B = copied g (k + size a) b in
      let C = copied g (k + size a + size b) c in
      tied_three k A B C (moved (g i) (last k (size a)) (last (k + size a) (size b)) (last (k + size a + size b) (size c)))
      (copied_tied a w.2 k) (rw p (copied_tied b w.3 (k + size a))) (rw (p, q) (copied_tied c w.4 (k + size a + size b)))
      (rw (p, q, r) (moved-three m (g i) w.0 w.1 (last k (size a)) (last (k + size a) (size b)) (last (k + size a + size b) (size c))))
  copied_tied (Expr.binc i o a l) w k =
      tied_one k (copied g k a) (moved (g i) (last k (size a)) 0 0) (copied_tied a w.3 k)
      (rw (copied-length g k a) (moved-one m (g i) w.0 (constant o) refl w.1 (last k (size a)) 0 0))
  copied_tied (Expr.neg i a) w k =
      tied_one k (copied g k a) (moved (g i) (last k (size a)) 0 0) (copied_tied a w.2 k)
      (rw (copied-length g k a) (moved-one m (g i) w.0 negation refl w.1 (last k (size a)) 0 0))

-- ---- joining

-- what stands before, and what is joined to it
module _ (k : ℕ) (C : List Node) (c : Tied k C) (vc : ℕ) where
  -- vc times it
  pub scaled_tied : (n : ℕ) → n ≡ k + length C → Tied k (C ++ scaled vc n)
  scaled_tied n e =
      tied_two k C (leaf_node kind.challenge vc ∷ []) (pair_node kind.mul n (n - 1)) c (tied_leaf (k + length C) (leaf_node kind.challenge vc) refl)
      (λ j.
      let a : one j n ≡ one j (last (k + length C) 1) = ap (one j) (let z : n ≡ last (k + length C) 1 = omega arith in z) in
      let b : one j (n - 1) ≡ one j (last k (length C)) = ap (one j) (let z : n - 1 ≡ last k (length C) = omega arith in z) in
      let d = pair-uses j (pair_node kind.mul n (n - 1)) n (n - 1) refl in
      omega arith)

  -- and a tree added
  pub joined_tied :
      (n : ℕ) → n ≡ k + length C → (B : List Node) → Tied (n + 2) B → (x : Node) → children x ≡ (n + 1) ∷ last (n + 2) (length B) ∷ []
      → Tied k ((C ++ scaled vc n) ++ (B ++ (x ∷ [])))
  joined_tied n e B b x h =
      let f : k + length (C ++ scaled vc n) ≡ n + 2 = rw (length-append C (scaled vc n)) (omega arith) in
      tied_two k (C ++ scaled vc n) B x (scaled_tied n e) (rw f b)
      (λ j.
      let a : one j (last k (length (C ++ scaled vc n))) ≡ one j (n + 1) = ap (one j) (let z : last k (length (C ++ scaled vc n)) ≡ n + 1 = omega arith in z) in
      let r : one j (last (k + length (C ++ scaled vc n)) (length B)) ≡ one j (last (n + 2) (length B)) = ap (λ z. one j (last z (length B))) f in
      let d = pair-uses j x (n + 1) (last (n + 2) (length B)) h in
      omega arith)

  pub identity_tied : (n : ℕ) → n ≡ k + length C → (i : ℕ) → Tied k (C ++ identity_nodes vc n i)
  identity_tied n e i =
      subst (Tied k) (append_assoc C (scaled vc n) (leaf_node kind.exp i ∷ pair_node kind.add (n + 1) (n + 2) ∷ []))
      (joined_tied n e (leaf_node kind.exp i ∷ []) (tied_leaf (n + 2) (leaf_node kind.exp i) refl) (pair_node kind.add (n + 1) (n + 2))
      (let z : n + 2 ≡ last (n + 2) 1 = omega arith in ap (λ v. (n + 1) ∷ v ∷ []) z))

  pub member_tied :
      (m : ℕ) (g : ℕ → Node) (t : Expr) → Labelled m g t → (n : ℕ) → n ≡ k + length C → (i : ℕ) → Tied k (C ++ member_nodes g vc n t i)
  member_tied m g t w n e i =
      let A = copied g (n + 2) t in
      let p = copied-length g (n + 2) t in
      let x = pair_node kind.sub (last (n + 2) (size t)) (n + 2 + size t) in
      let y = pair_node kind.add (n + 1) (n + 3 + size t) in
      let B = A ++ (leaf_node kind.cm i ∷ (x ∷ [])) in
      let b : Tied (n + 2) B =
      tied_two (n + 2) A (leaf_node kind.cm i ∷ []) x (copied_tied m g t w (n + 2)) (tied_leaf (n + 2 + length A) (leaf_node kind.cm i) refl)
      (λ j.
      let a : one j (last (n + 2 + length A) 1) ≡ one j (n + 2 + size t) = ap (one j) (let z : last (n + 2 + length A) 1 ≡ n + 2 + size t = omega arith in z) in
      let c₀ : one j (last (n + 2) (length A)) ≡ one j (last (n + 2) (size t)) = ap (one j) (let z : last (n + 2) (length A) ≡ last (n + 2) (size t) = omega arith in z) in
      let d = pair-uses j x (last (n + 2) (size t)) (n + 2 + size t) refl in
      omega arith) in
      let q : length B ≡ size t + 2 = length-append A (leaf_node kind.cm i ∷ (x ∷ [])) ∙ (omega arith) in
      let z : n + 3 + size t ≡ last (n + 2) (length B) = omega arith in
      let r : B ++ (y ∷ []) ≡ A ++ (leaf_node kind.cm i ∷ x ∷ y ∷ []) = append_assoc A (leaf_node kind.cm i ∷ (x ∷ [])) (y ∷ []) in
      subst (Tied k) (append_assoc C (scaled vc n) (B ++ (y ∷ [])) ∙ ap (λ v. C ++ (scaled vc n ++ v)) r)
      (joined_tied n e B b y (ap (λ v. (n + 1) ∷ v ∷ []) z))

-- ---- fine pieces

pub leaf-fine : (m n k i : ℕ) → child_count k ≡ 0 → (k ≡ kind.exp → i < m) → k < 256 → i < 65536 → FineNode m n (leaf_node k i)
leaf-fine m n k i c a h g =
    record {
      counts = sym c;
      earlier = tt;
      asked = a;
      fits = record { kind = h; next = omega arith; id = g; count = omega arith; c0 = omega arith; c1 = omega arith; c2 = omega arith; sign = omega arith };
    }

pair-fine : (m n k a b : ℕ) → child_count k ≡ 2 → (k ≡ kind.exp → ⊥) → k < 256 → a < n → b < n → n ≤ 65536 → FineNode m n (pair_node k a b)
pair-fine m n k a b c e h p q r =
    record {
      counts = sym c;
      earlier = (p, (q, tt));
      asked = λ z. absurd (e z);
      fits = record { kind = h; next = omega arith; id = omega arith; count = omega arith; c0 = omega arith; c1 = omega arith; c2 = omega arith; sign = omega arith };
    }

module _ (m vc : ℕ) (small : vc < 65536) where
  pub scaled-fine : (n : ℕ) → 0 < n → n + 2 ≤ 65536 → Fine m n (scaled vc n)
  unfolding child_count within
  scaled-fine n s h = (
    leaf-fine m n kind.challenge vc refl (λ e. absurd (omega arith)) (omega arith) small,
    (pair-fine m (suc n) kind.mul n (n - 1) refl (λ e. omega arith) (omega arith) (omega arith) (omega arith) (omega arith), tt),
  )

  pub identity-fine : (n e : ℕ) → 0 < n → n + 4 ≤ 65536 → e < m → e < 65536 → Fine m n (identity_nodes vc n e)
  unfolding child_count within
  identity-fine n e s h a b =
      fine-append m n (scaled vc n) (leaf_node kind.exp e ∷ pair_node kind.add (n + 1) (n + 2) ∷ []) (n + 2) refl (scaled-fine n s (omega arith)) (
        leaf-fine m (n + 2) kind.exp e refl (λ z. a) (omega arith) b,
        (pair-fine m (suc (n + 2)) kind.add (n + 1) (n + 2) refl (λ z. omega arith) (omega arith) (omega arith) (omega arith) (omega arith), tt),
      )

  pub member-fine :
      (g : ℕ → Node) (t : Expr) → Labelled m g t → (n i : ℕ) → 0 < n → n + (size t + 5) ≤ 65536 → i < 65536 → Fine m n (member_nodes g vc n t i)
  unfolding child_count within
  member-fine g t w n i s h a =
      let A = copied g (n + 2) t in
      let j = n + 2 + size t in
      let x = pair_node kind.sub (last (n + 2) (size t)) (n + 2 + size t) in
      let y = pair_node kind.add (n + 1) (n + 3 + size t) in
      fine-append m n (scaled vc n) (A ++ (leaf_node kind.cm i ∷ x ∷ y ∷ [])) (n + 2) refl (scaled-fine n s (omega arith))
      (fine-append m (n + 2) A (leaf_node kind.cm i ∷ x ∷ y ∷ []) j (rw (copied-length g (n + 2) t)) (copied-fine m g t w (n + 2) (omega arith)) (
        leaf-fine m j kind.cm i refl (λ z. absurd (omega arith)) (omega arith) a,
        (
          pair-fine m (suc j) kind.sub (last (n + 2) (size t)) (n + 2 + size t) refl (λ z. omega arith) (omega arith) (omega arith) (omega arith) (omega arith),
          (pair-fine m (suc (suc j)) kind.add (n + 1) (n + 3 + size t) refl (λ z. omega arith) (omega arith) (omega arith) (omega arith) (omega arith), tt),
        ),
      ))
