-- Both lists of a set that was chosen: what making them asks, and what their answer tells. Over plain variables.
-- Assumes nothing.
use Prim.Native.Nat.{ℕ, ◌-◌, ◌≤◌, ◌<◌}
use mathlib.Core.Path.{◌≡◌, refl, sym, ap, subst}
use mathlib.Core.List.{List}
use native.Mathlib.Omega.{arith}
use lib.ListN.{length}
use lib.Dec.{leb}
use borrow.Author.Tests.{leb-true}
use Rattle.std.specs.Prelude.{Result, Ok, Err}
use Rattle.kinds.specs.declared.refusal.Refused.{Refused}
use Rattle.kinds.specs.Kinds.{is_node_kind}
use Rattle.meaning.specs.Refusals.{Answer, done, refused, ◌then◌}
use Rattle.meaning.specs.Trees.{Acyclic}
use Rattle.meaning.proofs.Laws.Tests.{and_left, and_right, done-same, done-not-refused}
use Rattle.frames.specs.Nodes.{head_ok}
use Rattle.frames.specs.Order.{expression_limit}
use Rattle.frames.specs.Written.{WellNode, All}
use Rattle.frames.specs.declared.node.Node.{Node}
use Rattle.pool.specs.Pool.{Pool, node}
use Rattle.pool.specs.Trees.{forest}
use Rattle.pool.specs.Shaped.{Shaped}
use Rattle.pool.specs.Tabled.{tabled}
use Rattle.pool.specs.Ranking.{Tabling}
use Rattle.pool.specs.Laws.Tabled.{node-count, node_at}
use Rattle.starkinfo_codegen.specs.Emitting.{RowFits}
use Rattle.search_meaning.specs.Search.{Choice}
use Rattle.sets.specs.Members.{members}
use Rattle.context.specs.Context.{Good}
use Rattle.constraint_meaning.specs.Constraint.{Asked}
use Rattle.constraint_pool.specs.Whole.{AllBelow}
use Rattle.constraint_frames.specs.Formed.{all-at}
use Rattle.constraint_sessions.specs.Larger.{good-larger}
use Rattle.constraint_choice.specs.Below.{refused_as}
use Rattle.constraint_choice.specs.Choosing.{Left, Ready, choice_in, constrained_pool}
use Rattle.constraint_choice.specs.declared.answer.Chosen.{Chosen}
use Rattle.constraint_build.specs.Both.{Lent, Both, listing, Totals, totals_of}
use Rattle.constraint_build.specs.Both as both
use Rattle.constraint_build.specs.Committing.{rest_of}
use Rattle.constraint_build.specs.Making.{MakeAsks}
use Rattle.constraint_build.specs.declared.answer.Made.{Made}
use Rattle.starkinfo_cp_prover.specs.Polynomial.{Polynomial, Tells}

-- ---- rows of a well_formed_lem pool in tables

next-few : (x : Node) → WellNode x → x.next ≤ 1
unfolding head_ok
next-few x w = leb-true _ _ (and_left (leb x.next 1) _ (and_right (is_node_kind x.kind) _ w.head))

rows_fit : (w l x : List ℕ) (k m : ℕ) → All WellNode (tabled (Tabling w l x k m)).nodes → RowFits w (rest_of l x k m) 1
rows_fit w l x k m a i h =
    let e = node_at (Tabling w l x k m) i h in
    let z : i < length (tabled (Tabling w l x k m)).nodes = rw (node-count (Tabling w l x k m)) h in
    let n = next-few (node (tabled (Tabling w l x k m)) i) (all-at (tabled (Tabling w l x k m)).nodes a i z) in
    omega (arith, ap (λ (y : Node). y.next) e, n)

-- ---- with a set that was chosen

module _ {p : Pool} {a : Asked} {z : Answer Choice} {t : Left} {f : Chosen} (r : Ready p a z t f) (u v : Lent) where
  abbrev Q : Pool
  Q = constrained_pool p a t f

  abbrev X : Choice
  X = choice_in t f

  abbrev T : Pool
  T = tabled (Tabling t.nodes t.literals t.expressions f.nodes f.expressions)

  pub make-asks :
      (ms : List ℕ) → ms ≡ members t.set → length ms ≤ expression_limit → Good u.context (length p.expressions) (length u.list) →
      Good v.context (length p.expressions) (length v.list) → MakeAsks t.nodes t.literals t.expressions ms u v f.nodes f.expressions
  make-asks ms e few g h = record {
    shaped = subst Shaped (sym r.pool) r.shaped;
    acyclic = subst (λ q. Acyclic (forest q)) (sym r.pool) r.acyclic;
    nodes = r.few_nodes;
    some = omega (arith, r.count);
    expressions = r.few_expressions;
    rows = rows_fit t.nodes t.literals t.expressions f.nodes f.expressions (subst (λ q. All WellNode q.nodes) (sym r.pool) r.formed.nodes);
    members = subst (AllBelow expression_limit) (sym e) (λ i h. omega (arith, r.below i h, r.count, r.few_expressions));
    few = few;
    good = good-larger u.context (length p.expressions) f.expressions (length u.list) (omega (arith, r.count)) g;
    good_2ns = good-larger v.context (length p.expressions) f.expressions (length v.list) (omega (arith, r.count)) h;
  }

  module _ (out : List ℕ) where
    abbrev L : Answer Both
    L = listing Q (length p.expressions) (members t.set) u v (length out)

    -- the same of the pool with the constraint, and of its members
    of-pool :
        {ms : List ℕ} → ms ≡ members t.set → {u' v' : Lent} {out' : List ℕ} {y : Result Made Refused} →
        both.Tells T (listing T (f.expressions - 1) ms u v (length out)) u v out u' v' out' y → both.Tells Q L u v out u' v' out' y
    of-pool {ms} e {u'} {v'} {out'} {y} h =
        let i : f.expressions - 1 ≡ length p.expressions = omega (arith, r.count) in
        let h₁ = subst (λ q. both.Tells q (listing q (f.expressions - 1) ms u v (length out)) u v out u' v' out' y) r.pool h in
        let h₂ = subst (λ j. both.Tells Q (listing Q j ms u v (length out)) u v out u' v' out' y) i h₁ in
        subst (λ j. both.Tells Q (listing Q (length p.expressions) j u v (length out)) u v out u' v' out' y) e h₂

    module _ (w : List ℕ) (u' v' : Lent) (out' : List ℕ) where
      abbrev Y : Both → Polynomial
      Y b = record { choice = X; pool = Q; lists = b }

      -- the lists' refusal is the answer
      refused-told : {e : Refused} (y : Answer Both) → both.Tells Q y u v out u' v' out' (Err e) → Tells (y then λ b. done (Y b)) u v out w u' v' out' w (Err e)
      refused-told (done b) h = absurd (done-not-refused (sym h.says))
      refused-told (refused i o) h = record { says = refused_as h.says; stands = (h.stands.0, h.stands.1, h.stands.2, refl) }

      made-told : {m : Made} (y : Answer Both) → both.Tells Q y u v out u' v' out' (Ok m) →
          Tells (y then λ b. done (Y b)) u v out w u' v' out' t.set (Ok (record { q = f.q; visits = f.visits; sizes = m.sizes; bytes = m.bytes }))
      made-told {m} (done b) h =
          let s : record { sizes = m.sizes; bytes = m.bytes } ≡ totals_of Q b = done-same _ _ h.says in
          record { says = ap (λ (y : Totals). done (record { q = f.q; visits = f.visits; totals = y })) s; stands = (h.stands, record { good = r.good; is = refl }) }
      made-told (refused i o) h = absurd (done-not-refused h.says)

      -- what making the lists answers
      module _ {ms : List ℕ} (e : ms ≡ members t.set) {y : Result Made Refused} (h : both.Tells T (listing T (f.expressions - 1) ms u v (length out)) u v out u' v' out' y) where
        pub lists-refused : {o : Refused} → y ≡ Err o → Tells (L then λ b. done (Y b)) u v out w u' v' out' w (Err o)
        lists-refused z = refused-told L (subst (both.Tells Q L u v out u' v' out') z (of-pool e h))

        pub lists-made : {m : Made} → y ≡ Ok m → Tells (L then λ b. done (Y b)) u v out w u' v' out' t.set (Ok (record { q = f.q; visits = f.visits; sizes = m.sizes; bytes = m.bytes }))
        lists-made z = made-told L (subst (both.Tells Q L u v out u' v' out') z (of-pool e h))
