-- THE TABLES WITH THE CONSTRAINT hold the pool with it, which has its shape, is acyclic and stands for the extended forest.
-- Assumes nothing.
use Rattle.std.specs.Prelude.{ℕ, suc, ◌+◌, ◌-◌, ◌*◌, ◌≤◌, ◌<◌, ◌≡◌, get_or, drop, set}
use Rattle.std.proofs.Common.{sym, ◌∙◌, add-zero, add-one, length-set, length-drop, get_or-drop}
use Rattle.std.proofs.Math.Path.{ap, ap₂, subst}
use mathlib.Core.List.{List, [], ◌∷◌, ◌++◌, append_assoc, append-nil}
use native.Mathlib.Omega.{arith}
use Rattle.std.proofs.Math.ListN.{length}
use Rattle.kinds.specs.Write.{write, write-append, write_two, write-none}
use Rattle.meaning.specs.Trees.{Each, Acyclic}
use Rattle.frames.specs.Order.{node_limit, expression_limit}
use Rattle.frames.specs.Tables.{put_node, head_word, child_word, expression_word, node_in, kind_in, next_in, id_in, count_in, sign_in, expression_in, first}
use Rattle.frames.specs.Packing.{node_read, node_kept, put_node_length, expression_read, expression_kept, first-snoc}
use Rattle.frames.specs.declared.node.Node.{Node}
use Rattle.frames.specs.declared.rest.Expression.{Expression}
use Rattle.pool.specs.Pool.{Pool, node}
use Rattle.pool.specs.Trees.{forest}
use Rattle.pool.specs.Shaped.{Shaped}
use Rattle.pool.specs.Tabled.{tabled}
use Rattle.pool.specs.Ranking.{Tabling}
use Rattle.pool.specs.Laws.Tabled.{node-count, expression-count, node_at}
use Rattle.pool.specs.Laws.Forest.{forest-size}
use Rattle.constraint_meaning.specs.Tree.{columns_from, constraint_tree, extended}
use Rattle.constraint_meaning.specs.Ranks.{extended-acyclic}
use Rattle.constraint_pool.specs.Nodes.{constraint_nodes, with_constraint, last}
use Rattle.constraint_pool.specs.Asked.{words_of, magnitudes_of}
use Rattle.constraint_pool.specs.Whole.{AllBelow, ConstraintAsks, Adds}
use Rattle.constraint_pool.specs.Fine.{Good, Fine}
use Rattle.constraint_pool.specs.Extended.{Extends, all_fine, extended_shaped}
use Rattle.constraint_pool.specs.Forest.{extended-forest}

-- ---- nodes stored are read back

put-words : (w : List ℕ) (n : ℕ) (x : Node) (ws : List ℕ) → write w (2 * n) (head_word x ∷ child_word x ∷ ws) ≡ write (put_node w n x) (2 * (n + 1)) ws
unfolding put_node
put-words w n x ws =
    let z : 2 * n + 2 ≡ 2 * (n + 1) = omega arith in
    write-append w (2 * n) (head_word x ∷ child_word x ∷ []) ws
    ∙ ap (λ v. write v (2 * n + 2) ws) (sym (write_two w (2 * n) (head_word x) (child_word x))) ∙ ap (λ v. write (set (set w (2 * n) (head_word x)) (2 * n + 1) (child_word x)) v ws) z

put_magnitudes : (l : List ℕ) (n y : ℕ) (ws : List ℕ) → write l n (y ∷ ws) ≡ write (set l n y) (n + 1) ws
unfolding write
put_magnitudes l n y ws = rw (add-one n)

nodes_in :
    (m : ℕ) (xs : List Node) (w l : List ℕ) (n : ℕ) → Fine m n xs → 2 * (n + length xs) ≤ length w → n + length xs ≤ length l →
    first (node_in (write w (2 * n) (words_of xs)) (write l n (magnitudes_of xs))) (n + length xs) ≡ first (node_in w l) n ++ xs
unfolding words_of magnitudes_of
nodes_in m [] w l n f g h = rw (write-none w (2 * n), write-none l n, add-zero n) (sym (append-nil (first (node_in w l) n)))
nodes_in m (x ∷ xs) w l n f g h =
    let w₁ = put_node w n x in
    let l₁ = set l n x.magnitude in
    let a : write w (2 * n) (head_word x ∷ child_word x ∷ words_of xs) ≡ write w₁ (2 * (n + 1)) (words_of xs) = put-words w n x (words_of xs) in
    let b : write l n (x.magnitude ∷ magnitudes_of xs) ≡ write l₁ (n + 1) (magnitudes_of xs) = put_magnitudes l n x.magnitude (magnitudes_of xs) in
    let c : n + suc (length xs) ≡ n + 1 + length xs = omega arith in
    let e : first (node_in w₁ l₁) (n + 1) ≡ first (node_in w l) n ++ (x ∷ []) =
    first-snoc (node_in w l) (node_in w₁ l₁) n x (λ k q. node_kept w l n x k (λ z. omega arith)) (node_read w l n x f.0.fits (omega arith) (omega arith)) in
    let d = nodes_in m xs w₁ l₁ (n + 1) (subst (λ k. Fine m k xs) (let z : suc n ≡ n + 1 = omega arith in z) f.1) (rw (put_node_length w l n x) (omega arith)) (simp length-set (omega arith)) in
    rw (a, b, c) (d ∙ ap (λ z. z ++ xs) e ∙ append_assoc (first (node_in w l) n) (x ∷ []) xs)

-- ---- what the tables hold

-- the tables have room for as many as there may be
pub record Wide (w l x : List ℕ) : Type 0 where
  pub nodes : length w ≡ 2 * node_limit
  pub literals : length l ≡ node_limit
  pub expressions : length x ≡ expression_limit

module _ {w l x ids es : List ℕ} {vc cm n m : ℕ} (a : ConstraintAsks w l x ids es vc cm n m) (v : vc < 65536) where
  abbrev P : Pool
  P = tabled (Tabling w l x n m)

  abbrev pub extended_pool : Pool
  extended_pool = with_constraint P vc cm (get_or ids 0 0) (drop 1 ids) es

  nodes_are : length P.nodes ≡ n
  nodes_are = node-count (Tabling w l x n m)

  expressions_are : length P.expressions ≡ m
  expressions_are = expression-count (Tabling w l x n m)

  word_good : (k : ℕ) → k < n → Good (length P.expressions) (node P k)
  unfolding kind_in next_in id_in count_in sign_in
  word_good k h =
      let e = node_at (Tabling w l x n m) k h in
      let g : k < length P.nodes = rw nodes_are h in
      record {
        counts = a.shaped.counts k g;
        asked = a.shaped.asked k g;
        kind = rw e (omega arith);
        next = rw e (omega arith);
        id = rw e (omega arith);
        count = rw e (omega arith);
        sign = rw e (omega arith);
      }

  pub extends : Extends P vc cm (get_or ids 0 0) (drop 1 ids) es
  extends =
      record {
        shaped = a.shaped;
        good = λ k h. word_good k (rw nodes_are at h);
        vc16 = v;
        few = omega (arith, expressions_are, a.few);
        first = rw expressions_are (a.identities 0 a.some);
        others = λ k h. rw (expressions_are, get_or-drop 1 ids k 0) (a.identities (1 + k) (let z = length-drop 1 ids in omega arith));
        members = λ k h. rw expressions_are (a.members k h);
        columns = a.columns;
        room = rw nodes_are (omega (arith, a.room));
      }

  -- THE TABLES HOLD THE POOL WITH THE CONSTRAINT
  pub added_pool : {w' l' x' : List ℕ} {r : ℕ} → Wide w l x → Adds w l x ids es vc cm n m w' l' x' r → tabled (Tabling w' l' x' r (m + 1)) ≡ extended_pool
  unfolding tabled with_constraint
  added_pool {w'} {l'} {x'} {r} s d =
      let ns = constraint_nodes P vc cm (get_or ids 0 0) (drop 1 ids) es in
      let b = d.nodes in
      let f = subst (λ k. Fine (length P.expressions) k ns) nodes_are (all_fine P vc cm (get_or ids 0 0) (drop 1 ids) es extends) in
      let g = nodes_in (length P.expressions) ns w l n f (omega (arith, s.nodes, a.room)) (omega (arith, s.literals, a.room)) in
      let i : first (node_in w' l') r ≡ first (node_in w l) n ++ ns = rw (b.words, b.literals, b.next) g in
      let y : Expression = record { root = r - 1; flags = 0 } in
      let t : last (length P.nodes) (length ns) ≡ r - 1 = omega (arith, nodes_are, b.next) in
      let j : first (expression_in x') (m + 1) ≡ first (expression_in x) m ++ (y ∷ []) =
      rw d.expressions
      (first-snoc (expression_in x) (expression_in (set x m (expression_word y))) m y
      (λ k q. expression_kept x m y k (λ z. omega arith))
      (expression_read x m y (record { root = omega (arith, b.next, a.room); flags = omega arith }) (omega (arith, s.expressions, a.few)))) in
      ap₂ (λ (u : List Node) (z : List Expression). record { nodes = u; expressions = z }) i (j ∙ ap (λ k. first (expression_in x) m ++ (record { root = k; flags = 0 } ∷ [])) (sym t))

  -- it has its shape
  pub added_shaped : Shaped extended_pool
  added_shaped = extended_shaped P vc cm (get_or ids 0 0) (drop 1 ids) es extends

  -- it stands for the extended forest
  pub added_forest : forest extended_pool ≡ extended (forest P) (constraint_tree vc (forest P) n (get_or ids 0 0) (drop 1 ids) (columns_from cm es)).tree
  added_forest =
      extended-forest P vc cm (get_or ids 0 0) (drop 1 ids) es extends
      ∙ ap (λ k. extended (forest P) (constraint_tree vc (forest P) k (get_or ids 0 0) (drop 1 ids) (columns_from cm es)).tree) nodes_are

  -- and is acyclic where the pool is
  pub added_acyclic : Acyclic (forest P) → Acyclic (forest extended_pool)
  added_acyclic c =
      subst Acyclic (sym added_forest)
      (extended-acyclic (forest P) c vc n (get_or ids 0 0) (drop 1 ids) (columns_from cm es) (rw (forest-size P) extends.first, all_there (drop 1 ids) extends.others))
    where
      all_there : (ks : List ℕ) → AllBelow (length P.expressions) ks → Each (λ k. k < length (forest P)) ks
      all_there [] h = tt
      all_there (k ∷ ks) h = (rw (forest-size P) (h 0 (omega arith)), all_there ks (λ j g. h (suc j) (omega arith)))
