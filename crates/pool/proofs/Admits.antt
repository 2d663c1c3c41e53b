-- From the shape and the ranks to the verdict.
-- Assumes nothing.
use Prim.Native.Nat.{ℕ, ◌<◌}
use mathlib.Core.Path.{◌≡◌, refl, sym, ◌∙◌, subst}
use mathlib.Core.Option.{Option}
use mathlib.Core.List.{List}
use mathlib.Core.Logic.{inl, inr, ⊎_elim}
use native.Mathlib.Omega.{arith}
use Rattle.std.specs.Prelude.{Ok, Err}
use Rattle.kinds.specs.Answers.{blaming_node}
use Rattle.kinds.specs.declared.refusal.Refused.{Refused}
use Rattle.kinds.specs.declared.refusal.Refusal.TheVariants.{Cycle}
use Rattle.meaning.specs.Refusals.{Refusal, Answer, done, refused}
use Rattle.meaning.proofs.Laws.Tests.{done-not-refused}
use Rattle.meaning.specs.Trees.{◌at◌, leaves}
use Rattle.pool.specs.Pool.{Pool, root_of}
use Rattle.pool.specs.Trees.{tree}
use Rattle.pool.specs.Shaped.{Shaped}
use Rattle.pool.specs.Admission.{shape, ClosedWalk, LeadsBack, OnCycle, FirstOnCycle, Ranked}
use Rattle.pool.specs.Tabled.{Tables, tabled}
use Rattle.pool.specs.Ranking.{Starts, rank_in}
use Rattle.pool.specs.Cycles.{LeastOf}
use Rattle.pool.specs.Admitting.{Fits, Admits, verdict_says}
use Rattle.pool.specs.Laws.Shape as shapes
use Rattle.pool.specs.Laws.Members.{member-each}
use Rattle.pool.specs.Laws.Tabled.{node-count}
use Rattle.pool.specs.Laws.Walks.{OfNode, of_node}
use Rattle.pool.specs.Laws.Cycles.{closed_on}

-- a pool with no refusal 2 or 3 has its shape
pub fine-shaped : (p : Pool) → done tt ≡ shape p → Shaped p
fine-shaped p h = go (shape p) h (shapes.shape_is p)
  where
    go : (s : Answer (Unit {0})) → done tt ≡ s → shapes.Shape p s → Shaped p
    go s q (shapes.Shape.count n w) = absurd (done-not-refused q)
    go s q (shapes.Shape.child n w x) = absurd (done-not-refused q)
    go s q (shapes.Shape.root w x) = absurd (done-not-refused q)
    go s q (shapes.Shape.fine f) = f

module _ (t : Tables) (table : List ℕ) where
  -- a refusal of the shape is the verdict
  pub refused-is : {f : Refused} → verdict_says (Err f) ≡ shape (tabled t) → Admits t table (Err f)
  refused-is h = record {
    judged = record {
      refuses = λ r n k. h ∙ k;
      decides = λ k. absurd (done-not-refused (sym k ∙ sym h));
    };
    ranked = λ s q. absurd (let z : ◌≡◌ {A = ℕ} 0 1 = cc in omega arith);
  }

  -- a pool with its shape: a closed walk, or ranks
  pub starts : done tt ≡ shape (tabled t) → Fits table t.node_count t.expression_count → Starts t table
  starts h f = record { shaped = fine-shaped (tabled t) h; few_nodes = f.nodes; few_expressions = f.expressions; tabulated = f.tabulated }

  shape-done : Shaped (tabled t) → (r : Refusal) (n : Option ℕ) → shape (tabled t) ≡ refused r n → ⊥
  shape-done s r n k = go (shape (tabled t)) k (shapes.shape_is (tabled t))
    where
      go : (a : Answer (Unit {0})) → a ≡ refused r n → shapes.Shape (tabled t) a → ⊥
      go a q (shapes.Shape.count m w) = shapes.shaped-counts (tabled t) s w
      go a q (shapes.Shape.child m w x) = shapes.shaped-there (tabled t) s x
      go a q (shapes.Shape.root w x) = shapes.shaped-there (tabled t) s x
      go a q (shapes.Shape.fine f) = done-not-refused q

  -- the least leaf on a cycle, where there is a closed walk
  first_leaf : Starts t table → ClosedWalk (tabled t) table → {n : ℕ} → LeastOf (OnCycle (tabled t) table) 4096 n → FirstOnCycle (tabled t) table n
  first_leaf a w {n} h = record {
    on = ⊎_elim (λ q. absurd (let o = closed_on (tabled t) table w in omega (arith, h.below o.0 o.1, below o.1.1))) (λ q. q) h.is;
    least = λ m l o. omega (arith, h.below m o);
  }
    where
      p : Pool
      p = tabled t

      below : {u m : ℕ} → LeadsBack p table u m → m < 4096
      below {m = m} b =
          let r = root_of p b.expression in
          let o = member-each (OfNode p) (leaves (tree p r)) (of_node p a.shaped r (a.shaped.rooted b.expression b.source)) (b.leaf at m) b.stands in
          omega (arith, subst (λ k. m < k) (node-count t) o.0, a.few_nodes)

  pub cyclic_is : Starts t table → ClosedWalk (tabled t) table → {n : ℕ} → LeastOf (OnCycle (tabled t) table) 4096 n → Admits t table (Err (blaming_node Cycle n))
  cyclic_is a w {n} f = record {
    judged = record {
      refuses = λ r n k. absurd (shape-done a.shaped r n k);
      decides = λ k. inl (n, refl, first_leaf a w f);
    };
    ranked = λ s q. absurd (let z : ◌≡◌ {A = ℕ} 0 1 = cc in omega arith);
  }

  pub ranked-is : Starts t table → {s : List ℕ} → Ranked (tabled t) table (rank_in s) → Admits t table (Ok s)
  ranked-is a {s} r = record {
    judged = record {
      refuses = λ r n k. absurd (shape-done a.shaped r n k);
      decides = λ k. inr (refl, (rank_in s, r));
    };
    ranked = λ u q. let e : s ≡ u = cc in subst (λ v. Ranked (tabled t) table (rank_in v)) e r;
  }
