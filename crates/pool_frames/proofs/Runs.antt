-- The frames of nodes and of expressions, one after the other. Over plain lists and numbers.
-- Assumes nothing.
use Prim.Native.Nat.{ℕ, zero, suc, ◌+◌, ◌*◌, ◌≤◌, ◌<◌}
use mathlib.Core.Path.{◌≡◌, refl, ◌∙◌, ap}
use mathlib.Core.List.{List, [], ◌∷◌, ◌++◌, map, map-append, append-nil, append_assoc}
use native.Mathlib.Omega.{arith}
use native.Mathlib.Numerals.{add-one}
use native.Mathlib.Decide.{le_ind}
use lib.ListN.{length, length-append}
use borrow.Author.Tests.{le-leb, lt-leb}
use Rattle.kinds.specs.Write.{write-length}
use Rattle.frames.specs.Order.{node_limit}
use Rattle.frames.specs.Tables.{node_in, expression_in, first}
use Rattle.frames.specs.Written.{node_bytes, expression_bytes, behind_lengths, frames_of, pool_frames}
use Rattle.frames.specs.declared.node.Node.{Node}
use Rattle.frames.specs.declared.rest.Expression.{Expression}
use Rattle.pool_frames.specs.Frames.{framed, Puts}
use Rattle.pool_frames.specs.Pools.{pool_in, nodes_bytes, expressions_bytes, NodesAsk, Writes}
use Rattle.std.specs.Prelude.{Some, None}
use Rattle.pool_frames.proofs.Parts.{puts_none, puts-next, framed-length, node-small}

-- ---- any frames

behind-append : (xs ys : List (List ℕ)) → behind_lengths (xs ++ ys) ≡ behind_lengths xs ++ behind_lengths ys
unfolding behind_lengths
behind-append [] ys = refl
behind-append (x ∷ xs) ys = rw (behind-append xs ys, append_assoc x (behind_lengths xs) (behind_lengths ys))

behind-one : (f : List ℕ) → behind_lengths (f ∷ []) ≡ framed f
unfolding behind_lengths framed
behind-one f = simp append-nil

more : {A : Type 0} (g : A → List ℕ) (h : ℕ → A) (k : ℕ) → behind_lengths (map g (first h (k + 1))) ≡ behind_lengths (map g (first h k)) ++ framed (g (h k))
unfolding first
more g h k =
    rw (add-one k, map-append g (first h k) (h k ∷ []), behind-append (map g (first h k)) (g (h k) ∷ []), behind-one (g (h k)))

pub puts-length : {l' : List ℕ} (l : List ℕ) (at : ℕ) (bytes : List ℕ) (r : ℕ) → Puts l at bytes l' r → length l' ≡ length l
puts-length l at bytes r p = ap length p.list ∙ write-length l at bytes

-- ---- nodes

module _ (nodes literals : List ℕ) where
  pub nodes-none : nodes_bytes nodes literals 0 ≡ []
  unfolding nodes_bytes first behind_lengths
  nodes-none = refl

  pub nodes-more : (k : ℕ) → nodes_bytes nodes literals (k + 1) ≡ nodes_bytes nodes literals k ++ framed (node_bytes (node_in nodes literals k))
  unfolding nodes_bytes
  nodes-more k = more node_bytes (node_in nodes literals) k

  nodes-longer : (k : ℕ) → length (nodes_bytes nodes literals (k + 1)) ≡ length (nodes_bytes nodes literals k) + (2 + length (node_bytes (node_in nodes literals k)))
  nodes-longer k =
      let f = node_bytes (node_in nodes literals k) in
      ap length (nodes-more k) ∙ length-append (nodes_bytes nodes literals k) (framed f) ∙ rw (framed-length f)

  -- 23 bytes each at most
  nodes_bound : (n : ℕ) → length (nodes_bytes nodes literals n) ≤ 23 * n
  nodes_bound zero = rw nodes-none (omega arith)
  nodes_bound (suc n) =
      let e : length (nodes_bytes nodes literals (suc n)) ≡ length (nodes_bytes nodes literals n) + (2 + length (node_bytes (node_in nodes literals n))) = rw (← add-one n) (nodes-longer n) in
      omega (arith, nodes_bound n, node-small (node_in nodes literals n))

  nodes-within : (k n : ℕ) → k ≤ n → length (nodes_bytes nodes literals k) ≤ length (nodes_bytes nodes literals n)
  nodes-within k n h =
      le_ind (λ n. length (nodes_bytes nodes literals k) ≤ length (nodes_bytes nodes literals n)) (omega arith)
      (λ m q e.
      let f : length (nodes_bytes nodes literals (suc m)) ≡ length (nodes_bytes nodes literals m) + (2 + length (node_bytes (node_in nodes literals m))) = rw (← add-one m) (nodes-longer m) in
      omega arith)
      n h

  -- the size so far
  pub size_none : 0 ≡ length (nodes_bytes nodes literals 0)
  size_none = rw nodes-none

  module _ (k s : ℕ) (e : s ≡ length (nodes_bytes nodes literals k)) (x : Node) (r : x ≡ node_in nodes literals k) (d : ℕ) (f : d ≡ length (node_bytes x)) where
    pub size-more : s + (2 + d) ≡ length (nodes_bytes nodes literals (k + 1))
    size-more = omega (arith, nodes-longer k, ap (λ y. length (node_bytes y)) r)

    pub size_small : (n : ℕ) → k < n → n ≤ node_limit → s + (2 + d) ≤ 23 * node_limit
    size_small n h g = omega (arith, size-more, nodes_bound (k + 1))

  pub size-all : (k n s : ℕ) → s ≡ length (nodes_bytes nodes literals k) → k ≤ n → n ≤ k → s ≡ length (nodes_bytes nodes literals n)
  size-all k n s e g h =
      let q : k ≡ n = omega arith in
      e ∙ ap (λ m. length (nodes_bytes nodes literals m)) q

  pub size_fits : (n s : ℕ) → s ≡ length (nodes_bytes nodes literals n) → n ≤ node_limit → s ≤ 23 * node_limit
  size_fits n s e h = omega (arith, nodes_bound n)

  -- the bytes so far
  pub bytes-none : (l : List ℕ) → Puts l 0 (nodes_bytes nodes literals 0) l 0
  bytes-none l = rw nodes-none (puts_none l 0)

  module _ {l' : List ℕ} (l : List ℕ) (k n at : ℕ) (p : Puts l 0 (nodes_bytes nodes literals k) l' at) (h : k < n) where
    pub next_fits : NodesAsk nodes literals n l → (x : Node) → x ≡ node_in nodes literals k → at + length (framed (node_bytes x)) ≤ length l'
    next_fits a x r =
        let e : length l' ≡ length l = puts-length l 0 (nodes_bytes nodes literals k) at p in
        omega (arith, p.next, nodes-longer k, nodes-within (k + 1) n (omega arith), framed-length (node_bytes x), ap (λ y. length (node_bytes y)) r, a.room)

    pub bytes-more :
        {l'' : List ℕ} (x : Node) → x ≡ node_in nodes literals k → (j : ℕ) → Puts l' at (framed (node_bytes x)) l'' j
        → Puts l 0 (nodes_bytes nodes literals (k + 1)) l'' j
    bytes-more x r j q =
        rw (nodes-more k) (rw (← r) (puts-next l 0 (nodes_bytes nodes literals k) (framed (node_bytes x)) at j p q))

-- ---- expressions

module _ (expressions : List ℕ) where
  expressions-none : expressions_bytes expressions 0 ≡ []
  unfolding expressions_bytes first behind_lengths
  expressions-none = refl

  expressions-more : (k : ℕ) → expressions_bytes expressions (k + 1) ≡ expressions_bytes expressions k ++ framed (expression_bytes (expression_in expressions k))
  unfolding expressions_bytes
  expressions-more k = more expression_bytes (expression_in expressions) k

  expression-length : (x : Expression) → length (framed (expression_bytes x)) ≡ 6
  unfolding framed expression_bytes
  expression-length x = refl

  pub expressions-length : (m : ℕ) → length (expressions_bytes expressions m) ≡ 6 * m
  expressions-length zero = rw expressions-none (omega arith)
  expressions-length (suc m) =
      let x = expression_in expressions m in
      let e : length (expressions_bytes expressions (suc m)) ≡ length (expressions_bytes expressions m) + 6 =
      rw (← add-one m) (ap length (expressions-more m) ∙ length-append (expressions_bytes expressions m) (framed (expression_bytes x)) ∙ rw (expression-length x)) in
      omega (arith, expressions-length m)

  pub written_none : (l : List ℕ) (from : ℕ) → Puts l from (expressions_bytes expressions 0) l from
  written_none l from = rw expressions-none (puts_none l from)

  module _ {l' : List ℕ} (l : List ℕ) (from k at : ℕ) (p : Puts l from (expressions_bytes expressions k) l' at) where
    pub another_fits : (m : ℕ) → k < m → from + 6 * m ≤ length l → at + 6 ≤ length l'
    another_fits m h a =
        let e : length l' ≡ length l = puts-length l from (expressions_bytes expressions k) at p in
        omega (arith, p.next, expressions-length k)

    pub written-more :
        {l'' : List ℕ} (x : Expression) → x ≡ expression_in expressions k → (j : ℕ) → Puts l' at (framed (expression_bytes x)) l'' j
        → Puts l from (expressions_bytes expressions (k + 1)) l'' j
    written-more x r j q =
        rw (expressions-more k) (rw (← r) (puts-next l from (expressions_bytes expressions k) (framed (expression_bytes x)) at j p q))

-- ---- a pool

module _ (nodes literals expressions : List ℕ) (n m : ℕ) where
  pool-bytes : frames_of (pool_in nodes literals expressions n m) ≡ nodes_bytes nodes literals n ++ expressions_bytes expressions m
  unfolding frames_of pool_frames nodes_bytes expressions_bytes
  pool-bytes =
      let xs = map node_bytes (first (node_in nodes literals) n) in
      let ys = map expression_bytes (first (expression_in expressions) m) in
      rw (append-nil ys) (behind-append xs ys)

  pool-length : length (frames_of (pool_in nodes literals expressions n m)) ≡ length (nodes_bytes nodes literals n) + 6 * m
  pool-length =
      ap length pool-bytes ∙ length-append (nodes_bytes nodes literals n) (expressions_bytes expressions m) ∙ rw (expressions-length expressions m)

  module _ (out : List ℕ) (s : ℕ) (e : s ≡ length (nodes_bytes nodes literals n)) where
    pub pool-full : length out < s + 6 * m → Writes (frames_of (pool_in nodes literals expressions n m)) out None out
    pool-full h =
        let f : length out < length (frames_of (pool_in nodes literals expressions n m)) = omega (arith, pool-length) in
        record { answer = rw (lt-leb _ _ f); after = rw (lt-leb _ _ f) }

    pub pool-written :
        {out₁ out₂ : List ℕ} (i j : ℕ) → s + 6 * m ≤ length out → Puts out 0 (nodes_bytes nodes literals n) out₁ i → Puts out₁ i (expressions_bytes expressions m) out₂ j
        → Writes (frames_of (pool_in nodes literals expressions n m)) out (Some j) out₂
    pool-written i j h p q =
        let f : length (frames_of (pool_in nodes literals expressions n m)) ≤ length out = omega (arith, pool-length) in
        let r = puts-next out 0 (nodes_bytes nodes literals n) (expressions_bytes expressions m) i j p q in
        let e : j ≡ length (nodes_bytes nodes literals n ++ expressions_bytes expressions m) = omega (arith, r.next) in
        record { answer = rw (le-leb _ _ f, pool-bytes) (ap Some e); after = rw (le-leb _ _ f, pool-bytes) r.list }
