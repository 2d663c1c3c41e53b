-- What is judged is what the definition says, and what it lets through is room for the constraint. Over plain variables.
-- Assumes nothing.
use Prim.Native.Nat.{ℕ, suc, ◌+◌, ◌-◌, ◌*◌, ◌≤◌, ◌<◌, min}
use mathlib.Core.Path.{◌≡◌, refl, sym, ◌∙◌, ap}
use mathlib.Core.Bool.{Bool, true, false}
use mathlib.Core.List.{List, [], ◌∷◌}
use native.Mathlib.Omega.{arith}
use lib.ListN.{length, get_or, drop, length-drop, length-append}
use lib.Dec.{leb}
use borrow.Author.Tests.{le-leb, lt-leb, leb-true}
use Rattle.meaning.specs.Trees.{nth}
use Rattle.meaning.specs.Refusals.{done}
use Rattle.frames.specs.Order.{node_limit, expression_limit}
use Rattle.pool.specs.Pool.{Pool, node}
use Rattle.pool.specs.Trees.{forest}
use Rattle.pool.specs.Tabled.{tabled}
use Rattle.pool.specs.Ranking.{Tabling}
use Rattle.pool.specs.Laws.Tabled.{expression-count}
use Rattle.pool.specs.Laws.Forest.{forest-has, forest-at, forest-size}
use Rattle.constraint_meaning.specs.Tree.{columns_from, constraint_tree}
use Rattle.constraint_meaning.specs.Numbers.{size, member_nodes as member_count, members_nodes as members_count, constraint-nodes}
use Rattle.constraint_pool.specs.Nodes.{body_of, member_nodes, members_nodes, constraint_nodes}
use Rattle.constraint_pool.specs.Lists.{member-length, constraint-length}
use Rattle.constraint_pool.specs.Whole.{AllBelow, ConstraintAsks, Adds}
use Rattle.constraint_pool.specs.Sizes.{over, members_size, WholeSizeAsks, columns_fit, counts_fit}
use Rattle.constraint_pool.specs.Judging.{fit_says, judged}
use Rattle.constraint_pool.specs.Extending.{Gives}
use Rattle.std.specs.Prelude.{Ok, Err}
use Rattle.kinds.specs.declared.refusal.Refusal.{Refusal}
use Rattle.kinds.specs.declared.refusal.Refusal.TheVariants.{Full, Counts}
use Rattle.constraint_pool.specs.declared.judge.Columns.{Columns}

-- ---- as many as the definition says

members-count : (p : Pool) (i : ℕ) (es : List ℕ) → AllBelow (length p.expressions) es → members_count (forest p) (columns_from i es) ≡ members_size p es
unfolding members_size
members-count p i [] h = refl
members-count p i (e ∷ es) h =
    let y = forest-has p e (h 0 (omega arith)) in
    let t = (forest-at p e y.0 y.1).1 in
    let a : member_count (nth (forest p) e) ≡ size (body_of p e) + 5 = ap member_count y.1 ∙ ap (λ z. size z + 5) t in
    let b = members-count p (suc i) es (λ k g. h (suc k) (omega arith)) in
    omega arith

nodes_count : (p : Pool) (vc n i : ℕ) (es : List ℕ) → length (members_nodes p vc n i es) ≡ members_size p es
unfolding members_size members_nodes
nodes_count p vc n i [] = refl
nodes_count p vc n i (e ∷ es) =
    let M = member_nodes (node p) vc n (body_of p e) i in
    let R = members_nodes p vc (n + (size (body_of p e) + 5)) (suc i) es in
    let a = member-length (node p) vc n (body_of p e) i in
    let b = nodes_count p vc (n + (size (body_of p e) + 5)) (suc i) es in
    omega (arith, length-append M R)

module _ {w l x ids es : List ℕ} {n m : ℕ} (a : WholeSizeAsks w l x ids es n m) (c : Columns) (vc : ℕ) where
  abbrev P : Pool
  P = tabled (Tabling w l x n m)

  abbrev free : ℕ
  free = (constraint_tree vc (forest P) n (get_or ids 0 0) (drop 1 ids) (columns_from c.commitments es)).free

  free-is : free ≡ n + 1 + 4 * (length ids - 1) + members_size P es
  free-is =
      let b = members-count P c.commitments es (λ k h. rw (expression-count (Tabling w l x n m)) (a.members.there k h)) in
      let d = length-drop 1 ids in
      omega (arith, constraint-nodes vc (forest P) n (get_or ids 0 0) (drop 1 ids) (columns_from c.commitments es))

  count : length (forest P) ≡ m
  count = forest-size P ∙ expression-count (Tabling w l x n m)

  module _ {r : ℕ} (e : r ≡ min over (n + 1 + 4 * (length ids - 1) + members_size P es)) where
    pub nodes-full : node_limit < r → fit_says (Err Full) ≡ judged (forest P) n vc c ids es
    nodes-full h = rw (lt-leb free 4096 (omega (arith, free-is)))

    module _ (h : r ≤ node_limit) where
      within : leb free 4096 ≡ true
      within = le-leb free 4096 (omega (arith, free-is))

      pub expressions-full : expression_limit ≤ m → fit_says (Err Full) ≡ judged (forest P) n vc c ids es
      expressions-full g = rw (within, lt-leb (length (forest P) + 1) 512 (omega (arith, count)))

      module _ (g : m < expression_limit) where
        below : leb (length (forest P) + 1) 512 ≡ true
        below = le-leb (length (forest P) + 1) 512 (omega (arith, count))

        pub columns-full : {b : Bool} → b ≡ columns_fit c (length es) → b ≡ false → fit_says (Err Full) ≡ judged (forest P) n vc c ids es
        columns-full f z = rw (within, below, sym f ∙ z)

        module _ {b : Bool} (f : b ≡ columns_fit c (length es)) (z : b ≡ true) where
          pub all_fit : {d : Bool} → d ≡ counts_fit c → d ≡ true → fit_says (Ok tt) ≡ judged (forest P) n vc c ids es
          all_fit o q = rw (within, below, sym f ∙ z, sym o ∙ q)

          pub counts_differ : {d : Bool} → d ≡ counts_fit c → d ≡ false → fit_says (Err Counts) ≡ judged (forest P) n vc c ids es
          counts_differ o q = rw (within, below, sym f ∙ z, sym o ∙ q)

  -- ---- room for the constraint

  -- what the definition lets through
  pub record Through : Type 0 where
    pub nodes : free ≤ 4096
    pub expressions : m < expression_limit
    pub columns : c.commitments + length es + c.quotients ≤ 65536

  through : fit_says (Ok tt) ≡ judged (forest P) n vc c ids es → Through
  through e = one (leb free 4096) refl (leb (length (forest P) + 1) 512) refl (leb (c.commitments + length es + c.quotients) 65536) refl
    where
      one :
          (b : Bool) → leb free 4096 ≡ b → (d : Bool) → leb (length (forest P) + 1) 512 ≡ d → (f : Bool) → leb (c.commitments + length es + c.quotients) 65536 ≡ f → Through
      one true q true s true t =
          record { nodes = leb-true _ _ q; expressions = omega (arith, leb-true (length (forest P) + 1) 512 s, count); columns = leb-true _ _ t }
      one false q d s f t = let z = rw q at e in let y : ◌≡◌ {A = ℕ} 0 1 = cc in absurd (omega arith)
      one true q false s f t = let z = rw (q, s) at e in let y : ◌≡◌ {A = ℕ} 0 1 = cc in absurd (omega arith)
      one true q true s false t = let z = rw (q, s, t) at e in let y : ◌≡◌ {A = ℕ} 0 1 = cc in absurd (omega arith)

  whole-count : n + length (constraint_nodes P vc c.commitments (get_or ids 0 0) (drop 1 ids) es) ≡ free
  whole-count =
      let d = length-drop 1 ids in
      let g = constraint-length P vc c.commitments (get_or ids 0 0) (drop 1 ids) es in
      omega (arith, free-is, nodes_count P vc (length P.nodes + 1 + 4 * length (drop 1 ids)) c.commitments es, a.some)

  pub constraint-asks : AllBelow m ids → fit_says (Ok tt) ≡ judged (forest P) n vc c ids es → ConstraintAsks w l x ids es vc c.commitments n m
  constraint-asks ids_there e =
      let t = through e in
      record {
        shaped = a.members.shaped;
        few = t.expressions;
        some = a.some;
        identities = ids_there;
        members = a.members.there;
        columns = omega (arith, t.columns);
        room = omega (arith, whole-count, t.nodes);
      }

  -- ---- the answers

  module _ (there : AllBelow m ids) where
    pub refused-given : {f : Refusal} → fit_says (Err f) ≡ judged (forest P) n vc c ids es → Gives w l x ids es vc c n m w l x (Err f)
    refused-given e = record { answer = rw (← e); tables = (refl, refl, refl) }

    pub added-given :
        {w' l' x' : List ℕ} {r : ℕ} → fit_says (Ok tt) ≡ judged (forest P) n vc c ids es → Adds w l x ids es vc c.commitments n m w' l' x' r
        → Gives w l x ids es vc c n m w' l' x' (Ok r)
    added-given e d = record { answer = rw (← e) (ap done (d.nodes.next ∙ whole-count)); tables = d }
