-- A tree's nodes by the child count of its root, over a pool with its shape; and nodes stored one after the other.
-- Assumes nothing.
use Rattle.std.specs.Prelude.{ℕ, zero, suc, ◌+◌, ◌*◌, ◌≤◌, ◌<◌, ◌≡◌, refl, List, [], ◌∷◌, ◌++◌, length, set}
use Rattle.std.proofs.Common.{sym, ◌∙◌, ap, subst, arith, length-append}
use Rattle.std.proofs.Math.ListN.{get_or}
use Rattle.kinds.specs.Write.{write, write-next, write_two, write-none, write-before}
use Rattle.meaning.specs.Trees.{Expr}
use Rattle.frames.specs.Tables.{put_node, head_word, child_word, node_in, kind_in, next_in, id_in, count_in, sign_in, child_in}
use Rattle.frames.specs.Packing.{first-same}
use Rattle.frames.specs.declared.node.Node.{Node}
use Rattle.pool.specs.Pool.{Pool, node}
use Rattle.pool.specs.Trees.{Class, binary, fused, constant, negation, leafy, class, grown, tree}
use Rattle.pool.specs.Shaped.{Shaped}
use Rattle.pool.specs.Tabled.{tabled}
use Rattle.pool.specs.Ranking.{Tabling}
use Rattle.pool.specs.Laws.Trees.{arity, arity-is, tree_is}
use Rattle.constraint_meaning.specs.Numbers.{size}
use Rattle.constraint_pool.specs.Nodes.{moved, last, copied}
use Rattle.constraint_pool.specs.Asked.{words_of, magnitudes_of, Appends}

-- ---- stores

words_append : (xs ys : List Node) → words_of (xs ++ ys) ≡ words_of xs ++ words_of ys
unfolding words_of
words_append [] ys = refl
words_append (x ∷ xs) ys = ap (λ z. head_word x ∷ child_word x ∷ z) (words_append xs ys)

magnitudes_append : (xs ys : List Node) → magnitudes_of (xs ++ ys) ≡ magnitudes_of xs ++ magnitudes_of ys
unfolding magnitudes_of
magnitudes_append [] ys = refl
magnitudes_append (x ∷ xs) ys = ap (λ z. x.magnitude ∷ z) (magnitudes_append xs ys)

pub words-length : (xs : List Node) → length (words_of xs) ≡ 2 * length xs
unfolding words_of
words-length [] = refl
words-length (x ∷ xs) = let h = words-length xs in omega arith

pub magnitudes_length : (xs : List Node) → length (magnitudes_of xs) ≡ length xs
unfolding magnitudes_of
magnitudes_length [] = refl
magnitudes_length (x ∷ xs) = ap suc (magnitudes_length xs)

pub appends_none : (w l : List ℕ) (n : ℕ) → Appends w l n [] w l n
unfolding words_of magnitudes_of
appends_none w l n = record { words = sym (write-none w (2 * n)); literals = sym (write-none l n); next = omega arith }

pub appends_one :
    {w' l' : List ℕ} (w l : List ℕ) (n : ℕ) (x : Node) → w' ≡ put_node w n x → l' ≡ set l n x.magnitude → Appends w l n (x ∷ []) w' l' (n + 1)
unfolding words_of magnitudes_of put_node write
appends_one w l n x e f = record { words = e ∙ write_two w (2 * n) (head_word x) (child_word x); literals = f; next = refl }

pub appends_next :
    {w l w₁ l₁ w₂ l₂ : List ℕ} {n : ℕ} {xs ys : List Node} {i j : ℕ} →
    Appends w l n xs w₁ l₁ i → Appends w₁ l₁ i ys w₂ l₂ j → Appends w l n (xs ++ ys) w₂ l₂ j
appends_next {w} {l} {w₁} {l₁} {w₂} {l₂} {n} {xs} {ys} {i} {j} p q =
    let a : 2 * n + length (words_of xs) ≡ 2 * i = omega (arith, words-length xs, p.next) in
    let b : n + length (magnitudes_of xs) ≡ i = omega (arith, magnitudes_length xs, p.next) in
    let c : length (xs ++ ys) ≡ length xs + length ys = length-append xs ys in
    record {
      words = rw (words_append xs ys) (write-next w (2 * n) (words_of xs) (words_of ys) (2 * i) p.words q.words a);
      literals = rw (magnitudes_append xs ys) (write-next l n (magnitudes_of xs) (magnitudes_of ys) i p.literals q.literals b);
      next = omega (arith, p.next, q.next);
    }

-- ---- sizes

pub size-some : (t : Expr) → 0 < size t
size-some (Expr.leaf k l) = omega arith
size-some (Expr.bin k o a b) = omega arith
size-some (Expr.muladd k a b c) = omega arith
size-some (Expr.binc k o a l) = omega arith
size-some (Expr.neg k a) = omega arith

pub copied-length : (g : ℕ → Node) (n : ℕ) (t : Expr) → length (copied g n t) ≡ size t
copied-length g n (Expr.leaf k l) = refl
copied-length g n (Expr.bin k o a b) =
    let x = copied-length g n a in
    let y = copied-length g (n + size a) b in
    simp length-append (omega arith)
copied-length g n (Expr.muladd k a b c) =
    let x = copied-length g n a in
    let y = copied-length g (n + size a) b in
    let z = copied-length g (n + size a + size b) c in
    simp length-append (omega arith)
copied-length g n (Expr.binc k o a l) = let x = copied-length g n a in simp length-append (omega arith)
copied-length g n (Expr.neg k a) = let x = copied-length g n a in simp length-append (omega arith)

-- ---- by the child count

-- what the child count of node x says of its tree t: its size, and its nodes copied
abbrev pub Law : Pool → Node → ℕ → Expr → Type 0
Law p x zero t = (size t ≡ 1) × ((n : ℕ) → copied (node p) n t ≡ moved x 0 0 0 ∷ [])
Law p x (suc zero) t =
    let a = tree p x.c0 in
    (size t ≡ suc (size a)) × ((n : ℕ) → copied (node p) n t ≡ copied (node p) n a ++ (moved x (last n (size a)) 0 0 ∷ []))
Law p x (suc (suc zero)) t =
    let a = tree p x.c0 in
    let b = tree p x.c1 in
    (size t ≡ suc (size a + size b))
    × ((n : ℕ) → copied (node p) n t ≡ copied (node p) n a ++ (copied (node p) (n + size a) b ++ (moved x (last n (size a)) (last (n + size a) (size b)) 0 ∷ [])))
Law p x (suc (suc (suc zero))) t =
    let a = tree p x.c0 in
    let b = tree p x.c1 in
    let c = tree p x.c2 in
    (size t ≡ suc (size a + (size b + size c)))
    × ((n : ℕ) → copied (node p) n t ≡ copied (node p) n a ++ (copied (node p) (n + size a) b ++ (copied (node p) (n + size a + size b) c
    ++ (moved x (last n (size a)) (last (n + size a) (size b)) (last (n + size a + size b) (size c)) ∷ []))))
Law p x (suc (suc (suc (suc n)))) t = ⊥

module _ (p : Pool) (shaped : Shaped p) (i : ℕ) (h : i < length p.nodes) where
  law-by : (c : Class) → Law p (node p i) (arity c) (grown c (tree p) i (node p i))
  law-by (binary o) = (refl, λ n. refl)
  law-by fused = (refl, λ n. refl)
  law-by (constant o) = (refl, λ n. refl)
  law-by negation = (refl, λ n. refl)
  law-by leafy = (refl, λ n. refl)

  pub count_law : Law p (node p i) (node p i).count (tree p i)
  count_law =
      subst (λ k. Law p (node p i) k (tree p i)) (arity-is (node p i).kind ∙ sym (shaped.counts i h))
      (rw (tree_is p shaped i h) (law-by (class (node p i).kind)))

-- ---- the pool stands where it stood

module _ {w l w₁ l₁ : List ℕ} {at r : ℕ} {ns : List Node} (x : List ℕ) (n m : ℕ) (a : Appends w l at ns w₁ l₁ r) (h : n ≤ at) where
  word_kept : (j : ℕ) → j < 2 * n → get_or w₁ j 0 ≡ get_or w j 0
  word_kept j g = rw a.words (write-before w (2 * at) (words_of ns) j (omega arith))

  node_kept : (k : ℕ) → k < n → node_in w₁ l₁ k ≡ node_in w l k
  unfolding kind_in next_in id_in count_in sign_in child_in
  node_kept k g =
      let f : get_or l₁ k 0 ≡ get_or l k 0 = rw a.literals (write-before l at (magnitudes_of ns) k (omega arith)) in
      simp (word_kept (2 * k) (omega arith), word_kept (2 * k + 1) (omega arith), f)

  pub pool-kept : tabled (Tabling w₁ l₁ x n m) ≡ tabled (Tabling w l x n m)
  unfolding tabled
  pool-kept = rw (first-same (node_in w l) (node_in w₁ l₁) n node_kept)
