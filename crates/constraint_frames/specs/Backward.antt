-- THE FRAMES THAT WERE WRITTEN ARE READ AS THE POOL WITH THE CONSTRAINT, which has its shape, is acyclic and stands for the extended forest.
-- Assumes nothing.
use Rattle.std.specs.Prelude.{ℕ, suc, ◌≤◌, ◌<◌, ◌≡◌, refl, Bool, true, false, cond, List, [], ◌∷◌, length, get_or, drop, eqb, ltb, leb}
use Rattle.std.proofs.Common.{sym, ◌∙◌, ap, arith, ltb-true}
use Rattle.std.proofs.Math.Path.{subst}
use Rattle.kinds.specs.KindBytes as kind
use Rattle.kinds.specs.Kinds.{child_count}
use Rattle.kinds.specs.Range.{within}
use Rattle.meaning.specs.Refusals.{Refusal, Answer, done, refused, ◌then◌}
use Rattle.meaning.specs.Trees.{Each, Acyclic}
use Rattle.meaning.proofs.Laws.Tests.{and_right, done-not-refused}
use Rattle.frames.specs.Order.{node_limit, expression_limit}
use Rattle.frames.specs.Written.{WellFormed, read_back}
use Rattle.frames.specs.declared.node.Node.{Node}
use Rattle.pool.specs.Pool.{Pool, node}
use Rattle.pool.specs.Trees.{forest}
use Rattle.pool.specs.Shaped.{Shaped}
use Rattle.pool.specs.Verdict.{Verdict}
use Rattle.pool.specs.Exactly.{exactly_0}
use Rattle.pool.specs.Tabled.{tabled}
use Rattle.pool.specs.Ranking.{Tabling}
use Rattle.pool.specs.Laws.Tabled.{node-count, expression-count}
use Rattle.search_meaning.specs.Search.{all_below}
use Rattle.sets.specs.Members.{members}
use Rattle.degree_search.proofs.Questions.{each_below}
use Rattle.constraint_meaning.specs.Tree.{columns_from, extended}
use Rattle.constraint_meaning.specs.Constraint.{unless, tree_for}
use Rattle.constraint_pool.specs.Whole.{AllBelow, ConstraintAsks}
use Rattle.constraint_pool.specs.Judging.{judged}
use Rattle.constraint_pool.specs.Extended.{at_of}
use Rattle.constraint_pool.specs.Added.{added_shaped, added_forest, added_acyclic}
use Rattle.constraint_pool.proofs.Verdicts.{constraint-asks}
use Rattle.constraint_pool.specs.declared.judge.Columns.{Columns}
use Rattle.constraint_frames.specs.Formed.{input_of, constraint-formed}
use Rattle.constraint_frames.specs.Laws.{tree-for}
use Rattle.constraint_frames.specs.Listing.{set_good}
use Rattle.constraint_frames.specs.Extension.{Question, asking, pool_with, bytes_of, Extension, extension, extending, OrMalformed, Answers, Back}

-- ---- an admitted pool has no more children at a node than three

children-few : (k : ℕ) → child_count k ≤ 3
unfolding child_count
children-few k = by (eqb k kind.muladd) (within kind.add kind.mul k) (within kind.addc kind.neg k)
  where
    by : (a b c : Bool) → cond a 3 (cond b 2 (cond c 1 0)) ≤ 3
    by true b c = omega arith
    by false true c = omega arith
    by false false true = omega arith
    by false false false = omega arith

each_from : (P : Node → Type 0) (xs : List Node) → ((n : ℕ) → n < length xs → P (at_of xs n)) → Each P xs
each_from P [] h = tt
each_from P (x ∷ xs) h = (h 0 (omega arith), each_from P xs (λ n g. h (suc n) (omega arith)))

pub shaped-few : (p : Pool) → Shaped p → Each (λ x. x.count ≤ 3) p.nodes
shaped-few p s = each_from (λ x. x.count ≤ 3) p.nodes (λ n h. let z = children-few (node p n).kind in omega (arith, s.counts n h))

-- ---- what was answered

-- each test passed
pub record Passed (p : Pool) (q : Question) (room : ℕ) (e : Extension) : Type 0 where
  pub some : 0 < length q.identities
  pub there : all_below (length p.expressions) q.identities ≡ true
  pub fine : judged (forest p) (length p.nodes) q.vc q.columns q.identities q.chosen ≡ done tt
  pub fits : leb (length (bytes_of (pool_with p q))) room ≡ true
  pub is : e ≡ extension p q

pub passed : (p : Pool) (q : Question) (room : ℕ) (e : Extension) → extending p q room ≡ done e → Passed p q room e
unfolding extending
passed p q room e h =
    by (ltb 0 (length q.identities)) refl (all_below (length p.expressions) q.identities) refl
    (judged (forest p) (length p.nodes) q.vc q.columns q.identities q.chosen) refl (leb (length (bytes_of (pool_with p q))) room) refl h
  where
    by :
        (a : Bool) → ltb 0 (length q.identities) ≡ a → (b : Bool) → all_below (length p.expressions) q.identities ≡ b →
        (v : Answer (Unit {0})) → judged (forest p) (length p.nodes) q.vc q.columns q.identities q.chosen ≡ v →
        (c : Bool) → leb (length (bytes_of (pool_with p q))) room ≡ c →
        (unless Refusal.no_identity a then λ _. unless Refusal.not_there b then λ _. v then λ _. unless Refusal.full c then λ _. done (extension p q)) ≡ done e → Passed p q room e
    by true a true b (done tt) v true c h = record { some = ltb-true _ _ a; there = b; fine = v; fits = c; is = cc }
    by false a b' b v' v c' c h = absurd (done-not-refused (sym h))
    by true a false b v' v c' c h = absurd (done-not-refused (sym h))
    by true a true b (refused k o) v c' c h = absurd (done-not-refused (sym h))
    by true a true b (done tt) v false c h = absurd (done-not-refused (sym h))

-- the set was good, and the pool admitted
pub accepted :
    (p : Pool) (w : List ℕ) (q : Question) (room : ℕ) (z : Answer Extension) (e : Extension) → Answers p w q room z → z ≡ done e →
    (set_good (length p.expressions) w ≡ true) × Verdict p [] (done tt) × (extending p q room ≡ done e)
accepted p w q room z e h y = by (set_good (length p.expressions) w) refl h
  where
    of : (v : Answer (Unit {0})) → Verdict p [] v → z ≡ (v then λ _. extending p q room) → Verdict p [] (done tt) × (extending p q room ≡ done e)
    of (done tt) v g = (v, sym g ∙ y)
    of (refused k o) v g = absurd (done-not-refused (sym y ∙ g))

    by :
        (b : Bool) → set_good (length p.expressions) w ≡ b → OrMalformed b z ((v : Answer (Unit {0})) × Verdict p [] v × (z ≡ (v then λ _. extending p q room))) →
        (set_good (length p.expressions) w ≡ true) × Verdict p [] (done tt) × (extending p q room ≡ done e)
    by true g h = let o = of h.0 h.1 h.2 in (g, o.0, o.1)
    by false g h = absurd (done-not-refused (sym y ∙ h))

-- ---- the pool that stood in tables

-- with room for the constraint
module _ (w l x ids ms : List ℕ) (n m vc : ℕ) (v : vc < 65536) (c : Columns) (asks : ConstraintAsks w l x ids ms vc c.commitments n m) where
  abbrev R : Pool
  R = tabled (Tabling w l x n m)

  nodes_in : length R.nodes ≡ n
  nodes_in = node-count (Tabling w l x n m)

  expressions_in : length R.expressions ≡ m
  expressions_in = expression-count (Tabling w l x n m)

  pub back-asks : WellFormed (input_of R) → Acyclic (forest R) → Back R (asking ids ms vc c)
  back-asks formed acyclic =
      record {
        read =
            read_back (input_of (pool_with R (asking ids ms vc c)))
            (constraint-formed R asks.shaped formed vc c.commitments (get_or ids 0 0) (drop 1 ids) ms (rw expressions_in asks.members)
            (rw nodes_in asks.room) (rw expressions_in asks.few));
        shaped = added_shaped asks v;
        acyclic = added_acyclic asks v acyclic;
        forest_is =
            added_forest asks v
            ∙ ap (λ k. extended (forest R) k)
            (ap (λ t. t.tree) (sym (tree-for (forest R) n vc ids (columns_from c.commitments ms)))
            ∙ ap (λ k. (tree_for (forest R) k vc ids (columns_from c.commitments ms)).tree) (sym nodes_in));
      }

-- and by its answer
module _ (w l x ids s : List ℕ) (n m vc : ℕ) (v : vc < 65536) (c : Columns) (room : ℕ) where
  abbrev P : Pool
  P = tabled (Tabling w l x n m)

  abbrev Q : Question
  Q = asking ids (members s) vc c

  module _ (few : n ≤ node_limit) (less : m ≤ expression_limit) (formed : WellFormed (input_of P)) {z : Answer Extension} {e : Extension} (h : Answers P s Q room z) (y : z ≡ done e) where
    expressions_are : length P.expressions ≡ m
    expressions_are = expression-count (Tabling w l x n m)

    nodes_are : length P.nodes ≡ n
    nodes_are = node-count (Tabling w l x n m)

    all : (set_good (length P.expressions) s ≡ true) × Verdict P [] (done tt) × (extending P Q room ≡ done e)
    all = accepted P s Q room z e h y

    ways : Passed P Q room e
    ways = passed P Q room e all.2

    admitted : Shaped P × Acyclic (forest P)
    admitted = (exactly_0 P (done tt) all.1).0 refl

    chosen-there : AllBelow m (members s)
    unfolding set_good
    chosen-there = subst (λ k. AllBelow k (members s)) expressions_are (each_below _ (members s) (and_right (eqb (get_or s 8 0) (length (members s))) _ all.0))

    identities-there : AllBelow m ids
    identities-there = subst (λ k. AllBelow k ids) expressions_are (each_below _ ids ways.there)

    asks : ConstraintAsks w l x ids (members s) vc c.commitments n m
    asks =
        constraint-asks
        (record { members = record { shaped = admitted.0; nodes = few; expressions = less; there = chosen-there }; some = ways.some })
        c vc identities-there (sym (ap (λ k. judged (forest P) k vc c ids (members s)) (sym nodes_are) ∙ ways.fine))

    pub back-tables : Back P Q
    back-tables = back-asks w l x ids (members s) n m vc v c asks formed admitted.1
