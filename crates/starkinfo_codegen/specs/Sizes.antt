-- AT MOST AS MANY STEPS AS NODES: every node has at most one use, so the trees of an admitted pool share none.
-- Assumes nothing.
use Prim.Native.Nat.{ℕ, zero, suc, ◌+◌, ◌*◌, ◌<◌, ◌≤◌}
use Rattle.std.specs.Prelude.{◌≡◌, Bool, cond, length}
use Rattle.std.proofs.Math.Path.{refl, sym, ap}
use Rattle.std.proofs.Common.{◌∙◌, subst}
use Rattle.std.proofs.Math.Bool.{true, false}
use mathlib.Core.List.{List, [], ◌∷◌, ◌++◌}
use native.Mathlib.Omega.{arith}
use Rattle.std.proofs.Math.Nat.{suc-mul}
use Rattle.std.proofs.Math.Decide.{le_ind}
use Rattle.std.proofs.Math.Dec.{eqb}
use borrow.Author.Tests.{ne_eqb, eqb-true, eqb-false}
use Rattle.meaning.specs.Trees.{Op, Expr, Each}
use Rattle.meaning.specs.Fusing.{second, first, fuse}
use Rattle.meaning.specs.Steps.{Ref}
use Rattle.meaning.specs.Emission.{emit, block_steps}
use Rattle.meaning.specs.Order.{asked}
use Rattle.meaning.proofs.Laws.Tests.{each-join, each_map}
use Rattle.frames.specs.declared.node.Node.{Node}
use Rattle.frames.specs.declared.rest.Expression.{Expression}
use Rattle.meaning.specs.Trees.{nth}
use Rattle.pool.specs.Pool.{Pool, or_else, blank, node, children, child_uses, root_uses, times}
use Rattle.pool.specs.Trees.{Class, binary, fused, constant, negation, leafy, class, tree}
use Rattle.pool.specs.Shaped.{Shaped}
use Rattle.pool.specs.Laws.Trees.{children_are, tree_is}
use Rattle.starkinfo_codegen.specs.Counting.{ops}
use Rattle.starkinfo_codegen.specs.Roots.{block-count, block-leaf}

-- ── sums ─────────────────────────────────────────────────────────────────────
-- of s over a list, and over the numbers below k
unfoldable pub total : (ℕ → ℕ) → List ℕ → ℕ
total s [] = 0
total s (c ∷ cs) = s c + total s cs

unfoldable pub below : (ℕ → ℕ) → ℕ → ℕ
below s zero = 0
below s (suc k) = below s k + s k

module _ (s : ℕ → ℕ) where
  total-append : (xs ys : List ℕ) → total s (xs ++ ys) ≡ total s xs + total s ys
  unfolding total
  total-append [] ys = omega arith
  total-append (x ∷ xs) ys = omega (arith, total-append xs ys)

  -- over the numbers below k, each as often as it stands in a list
  unfoldable weighed : List ℕ → ℕ → ℕ
  weighed l zero = 0
  weighed l (suc k) = weighed l k + times k l * s k

  weighed-past : (c : ℕ) (l : List ℕ) (k : ℕ) → k ≤ c → weighed (c ∷ l) k ≡ weighed l k
  unfolding weighed
  weighed-past c l zero h = refl
  weighed-past c l (suc k) h = rw (ne_eqb k c (λ e. omega arith), weighed-past c l k (omega arith))

  weighed_hit : (c : ℕ) (l : List ℕ) (k : ℕ) → c < k → weighed (c ∷ l) k ≡ s c + weighed l k
  unfolding weighed
  weighed_hit c l zero h = absurd (omega arith)
  weighed_hit c l (suc k) h = go (weighed_hit c l k) (eqb k c) refl
    where
      go : (c < k → weighed (c ∷ l) k ≡ s c + weighed l k) → (x : Bool) → eqb k c ≡ x → weighed (c ∷ l) (suc k) ≡ s c + weighed l (suc k)
      go ih true q =
          let e = eqb-true k c q in
          let p = weighed-past c l k (omega arith) in
          let z : s k ≡ s c = ap s e in
          rw (q, suc-mul (times k l) (s k)) (omega (arith, p, z))
      go ih false q = let n = eqb-false k c q in let p = ih (omega arith) in rw q (omega (arith, p))

  total-weighed : (l : List ℕ) (k : ℕ) → Each (λ c. c < k) l → total s l ≡ weighed l k
  unfolding total weighed
  total-weighed [] k h = sym (none k)
    where
      none : (k : ℕ) → weighed [] k ≡ 0
      none zero = refl
      none (suc k) = omega (arith, none k)
  total-weighed (c ∷ l) k h = omega (arith, weighed_hit c l k h.0, total-weighed l k h.1)

  weighed-once : (l : List ℕ) (k : ℕ) → ((j : ℕ) → j < k → times j l ≤ 1) → weighed l k ≤ below s k
  unfolding below weighed
  weighed-once l zero h = omega arith
  weighed-once l (suc k) h = go (times k l) (h k (omega arith)) (weighed-once l k (λ j g. h j (omega arith)))
    where
      go : (n : ℕ) → n ≤ 1 → weighed l k ≤ below s k → weighed l k + n * s k ≤ below s k + s k
      go zero g e = omega arith
      go (suc zero) g e = omega arith
      go (suc (suc n)) g e = absurd (omega arith)

  -- numbers below k, none twice, are no more than those below k
  pub once-below : (l : List ℕ) (k : ℕ) → Each (λ c. c < k) l → ((j : ℕ) → j < k → times j l ≤ 1) → total s l ≤ below s k
  once-below l k h g = subst (λ n. n ≤ below s k) (sym (total-weighed l k h)) (weighed-once l k g)

times-append : (j : ℕ) (xs ys : List ℕ) → times j (xs ++ ys) ≡ times j xs + times j ys
times-append j [] ys = omega arith
times-append j (x ∷ xs) ys = go (eqb j x) (times-append j xs ys)
  where
    go : (b : Bool) → times j (xs ++ ys) ≡ times j xs + times j ys → cond b (suc (times j (xs ++ ys))) (times j (xs ++ ys)) ≡ cond b (suc (times j xs)) (times j xs) + times j ys
    go true e = omega arith
    go false e = e

-- ── the nodes of a tree ──────────────────────────────────────────────────────
unfoldable pub size : Expr → ℕ
size (Expr.leaf n l) = 1
size (Expr.bin n o a b) = size a + size b + 1
size (Expr.muladd n a b c) = size a + size b + size c + 1
size (Expr.binc n o a l) = size a + 1
size (Expr.neg n a) = size a + 1

ops-size : (e : Expr) → ops e ≤ size e
unfolding ops size
ops-size (Expr.leaf n l) = omega arith
ops-size (Expr.bin n o a b) = omega (arith, ops-size a, ops-size b)
ops-size (Expr.muladd n a b c) = omega (arith, ops-size a, ops-size b, ops-size c)
ops-size (Expr.binc n o a l) = omega (arith, ops-size a)
ops-size (Expr.neg n a) = omega (arith, ops-size a)

size-some : (e : Expr) → 1 ≤ size e
unfolding size
size-some (Expr.leaf n l) = omega arith
size-some (Expr.bin n o a b) = omega arith
size-some (Expr.muladd n a b c) = omega arith
size-some (Expr.binc n o a l) = omega arith
size-some (Expr.neg n a) = omega arith

-- fusing takes steps away
second-ops : (n : ℕ) (a b : Expr) → ops (second n a b) ≤ ops a + ops b + 1
unfolding ops
second-ops n a (Expr.leaf m l) = omega arith
second-ops n a (Expr.bin m Op.add b c) = omega arith
second-ops n a (Expr.bin m Op.sub b c) = omega arith
second-ops n a (Expr.bin m Op.mul b c) = omega arith
second-ops n a (Expr.muladd m b c d) = omega arith
second-ops n a (Expr.binc m o b l) = omega arith
second-ops n a (Expr.neg m b) = omega arith

first-ops : (n : ℕ) (a b : Expr) → ops (first n a b) ≤ ops a + ops b + 1
unfolding ops
first-ops n (Expr.leaf m l) b = second-ops n (Expr.leaf m l) b
first-ops n (Expr.bin m Op.add c d) b = second-ops n (Expr.bin m Op.add c d) b
first-ops n (Expr.bin m Op.sub c d) b = second-ops n (Expr.bin m Op.sub c d) b
first-ops n (Expr.bin m Op.mul c d) b = omega arith
first-ops n (Expr.muladd m c d e) b = second-ops n (Expr.muladd m c d e) b
first-ops n (Expr.binc m o c l) b = second-ops n (Expr.binc m o c l) b
first-ops n (Expr.neg m c) b = second-ops n (Expr.neg m c) b

fuse-ops : (e : Expr) → ops (fuse e) ≤ ops e
unfolding ops
fuse-ops (Expr.leaf n l) = omega arith
fuse-ops (Expr.bin n Op.add a b) = omega (arith, first-ops n (fuse a) (fuse b), fuse-ops a, fuse-ops b)
fuse-ops (Expr.bin n Op.sub a b) = omega (arith, fuse-ops a, fuse-ops b)
fuse-ops (Expr.bin n Op.mul a b) = omega (arith, fuse-ops a, fuse-ops b)
fuse-ops (Expr.muladd n a b c) = omega (arith, fuse-ops a, fuse-ops b, fuse-ops c)
fuse-ops (Expr.binc n o a l) = omega (arith, fuse-ops a)
fuse-ops (Expr.neg n a) = omega (arith, fuse-ops a)

pub asked-ops : (f : Bool) (e : Expr) → ops (asked f e) ≤ size e
asked-ops true e = omega (arith, fuse-ops e, ops-size e)
asked-ops false e = ops-size e

-- a block has at most as many steps as its tree has nodes
pub block-steps : (f : Bool) (e : Expr) (r t : ℕ) (d : Ref) → length (block_steps (emit (asked f e) r t) d) ≤ size e
block-steps f e r t d = go (eqb (ops (asked f e)) 0) refl
  where
    go : (b : Bool) → eqb (ops (asked f e)) 0 ≡ b → length (block_steps (emit (asked f e) r t) d) ≤ size e
    go true q = omega (arith, block-leaf r t (asked f e) d (eqb-true (ops (asked f e)) 0 q), size-some e)
    go false q = omega (arith, block-count r t (asked f e) d (eqb-false (ops (asked f e)) 0 q), asked-ops f e)

-- ── the children of the first k nodes ────────────────────────────────────────
unfoldable kids_of : (ℕ → Node) → ℕ → List ℕ
kids_of g zero = []
kids_of g (suc k) = kids_of g k ++ children (g k)

kids-front : (j : ℕ) (g : ℕ → Node) (k : ℕ) → times j (kids_of g (suc k)) ≡ times j (children (g 0)) + times j (kids_of (λ n. g (suc n)) k)
unfolding kids_of
kids-front j g zero = omega arith
kids-front j g (suc k) =
    omega (arith, kids-front j g k, times-append j (kids_of g (suc k)) (children (g (suc k))), times-append j (kids_of (λ n. g (suc n)) k) (children (g (suc k))))

kids-all : (j : ℕ) (xs : List Node) → times j (kids_of (λ n. or_else (nth xs n) blank) (length xs)) ≡ times j (child_uses xs)
unfolding kids_of
kids-all j [] = refl
kids-all j (x ∷ xs) =
    kids-front j (λ n. or_else (nth (x ∷ xs) n) blank) (length xs)
    ∙ omega (arith, kids-all j xs, times-append j (children x) (child_uses xs))

kids-more : (j : ℕ) (g : ℕ → Node) (k m : ℕ) → k ≤ m → times j (kids_of g k) ≤ times j (kids_of g m)
unfolding kids_of
kids-more j g k m h =
    le_ind (λ m. times j (kids_of g k) ≤ times j (kids_of g m)) (omega arith)
    (λ m l e. omega (arith, times-append j (kids_of g m) (children (g m)), e)) m h

module _ (p : Pool) (shaped : Shaped p) where
  abbrev s : ℕ → ℕ
  s n = size (tree p n)

  -- a tree's nodes are its children's and its own
  size_is : (n : ℕ) → n < length p.nodes → s n ≡ suc (total s (children (node p n)))
  unfolding size total
  size_is n h = go (class (node p n).kind) refl
    where
      go : (c : Class) → class (node p n).kind ≡ c → size (tree p n) ≡ suc (total s (children (node p n)))
      go (binary o) e = rw (tree_is p shaped n h, children_are p shaped n h, e) (omega arith)
      go fused e = rw (tree_is p shaped n h, children_are p shaped n h, e) (omega arith)
      go (constant o) e = rw (tree_is p shaped n h, children_are p shaped n h, e) (omega arith)
      go negation e = rw (tree_is p shaped n h, children_are p shaped n h, e) (omega arith)
      go leafy e = rw (tree_is p shaped n h, children_are p shaped n h, e) (omega arith)

  -- so are those of the first k nodes
  sizes : (k : ℕ) → k ≤ length p.nodes → below s k ≡ k + total s (kids_of (node p) k)
  unfolding below kids_of total
  sizes zero h = omega arith
  sizes (suc k) h = omega (arith, sizes k (omega arith), size_is k h, total-append s (kids_of (node p) k) (children (node p k)))

  -- their children come before them
  kids-earlier : (i k : ℕ) → k ≤ suc i → k ≤ length p.nodes → Each (λ c. c < i) (kids_of (node p) k)
  unfolding kids_of
  kids-earlier i zero g h = tt
  kids-earlier i (suc k) g h =
      each-join (λ c. c < i) (kids_of (node p) k) (children (node p k)) (kids-earlier i k (omega arith) (omega arith))
      (each_map (λ c. c < k) (λ c. c < i) (λ c l. omega arith) (children (node p k)) (shaped.earlier k h))

  kids-once : (k : ℕ) → k ≤ length p.nodes → (j : ℕ) → j < length p.nodes → times j (kids_of (node p) k) ≤ 1
  kids-once k h j l =
      omega (
        arith,
        kids-more j (node p) k (length p.nodes) h,
        kids-all j p.nodes,
        times-append j (child_uses p.nodes) (root_uses p.expressions),
        shaped.once j l,
      )

  -- A TREE HAS AT MOST AS MANY NODES as there are up to its root
  pub tree-size : (i : ℕ) → i < length p.nodes → size (tree p i) ≤ suc i
  unfolding below
  tree-size i h =
      let l = once-below s (kids_of (node p) (suc i)) i (kids-earlier i (suc i) (omega arith) h) (λ j g. kids-once (suc i) h j (omega arith)) in
      omega (arith, sizes (suc i) h, l)

  -- and so it takes at most as many steps
  pub tree-steps : (f : Bool) (i : ℕ) → i < length p.nodes → ops (asked f (tree p i)) ≤ suc i
  tree-steps f i h = omega (arith, asked-ops f (tree p i), tree-size i h)

  -- ── all expressions together ───────────────────────────────────────────────
  roots-there : (xs : List Expression) (m : ℕ) → ((e : ℕ) → e < length xs → (or_else (nth xs e) (record { root = 0; flags = 0 })).root < m) → Each (λ c. c < m) (root_uses xs)
  roots-there [] m h = tt
  roots-there (x ∷ xs) m h = (h 0 (omega arith), roots-there xs m (λ e l. h (suc e) (omega arith)))

  -- THE TREES OF ALL EXPRESSIONS have at most as many nodes as there are, so their blocks at one row have at most as many steps
  pub roots-fit : total s (root_uses p.expressions) ≤ length p.nodes
  roots-fit =
      let N = length p.nodes in
      let ks = kids_of (node p) N in
      let rs = root_uses p.expressions in
      let h = each-join (λ c. c < N) ks rs (kids-earlier N N (omega arith) (omega arith)) (roots-there p.expressions N shaped.rooted) in
      let l = once-below s (ks ++ rs) N h (λ j g. omega (arith, times-append j ks rs, kids-all j p.nodes, times-append j (child_uses p.nodes) rs, shaped.once j g)) in
      omega (arith, sizes N (omega arith), l, total-append s ks rs)
