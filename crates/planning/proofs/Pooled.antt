-- A pool in tables: the refusals of its shape, or what comes of a pool that has one.
-- Assumes nothing.
use Prim.Native.Nat.{ℕ, zero, suc, ◌+◌, ◌-◌, ◌*◌, ◌<◌}
use mathlib.Core.Path.{◌≡◌, refl, sym, ◌∙◌, subst}
use mathlib.Core.Bool.{Bool, true, false, cond}
use mathlib.Core.Option.{Option, none}
use mathlib.Core.List.{List, [], ◌∷◌, ◌++◌}
use mathlib.Core.Logic.{◌⊎◌, inl, inr}
use native.Mathlib.Omega.{arith}
use lib.ListN.{length, take, drop}
use Rattle.std.specs.Prelude.{Err}
use Rattle.meaning.specs.Trees.{Member}
use Rattle.meaning.specs.Refusals.{Refusal, Answer, done, refused, ◌then◌}
use Rattle.meaning.proofs.Laws.Tests.{done-not-refused}
use Rattle.frames.specs.Tables.{first}
use Rattle.frames.specs.declared.count.Counts.{Counts}
use Rattle.pool.specs.Pool.{Pool}
use Rattle.pool.specs.Shaped.{Shaped}
use Rattle.pool.specs.Admission.{shape}
use Rattle.pool.specs.Verdict.{Ends}
use Rattle.pool.specs.Tabled.{Tables, tabled}
use Rattle.pool.specs.Ranking.{Tabling, Starts}
use Rattle.pool.specs.Entries.{entries_in}
use Rattle.pool.specs.Laws.Shape.{Shape, shape_is}
use Rattle.plans.specs.Plan.{number_at, q2exp_at, q2exp_count, q2exp}
use Rattle.plans.specs.Agreement.{names_there}
use Rattle.plans.specs.Passed.{names-there}
use Rattle.map_records.specs.Mapping.{Mapping}
use Rattle.planning.specs.Laws.QTable.{q-table}
use Rattle.planning.specs.Planning.{all_there, plan_shape, Verdict}
use Rattle.planning.specs.Answers.{Unplanned, Planning, unplanned_says, ShapeAsked, PoolAsked, ShapedAsks, Ruled}
use Rattle.planning.proofs.There.{names_of}

-- ---- a refusal of the shape

pub shape-asked : {b : List ℕ} {c : Counts} {ss ds cs : List ℕ} → PoolAsked b c ss ds cs → ShapeAsked b c.nodes c.expressions
shape-asked a = record { whole = a.fitting.whole; nodes = a.read.nodes; expressions = a.read.expressions }

module _ (b : List ℕ) (t : Tables) {ss ds cs : List ℕ} where
  pub shape-told :
      {k : Refusal} {o : Option ℕ} {u : Unplanned} → refused k o ≡ plan_shape b (tabled t) → refused k o ≡ unplanned_says {A = Mapping} u
      → Ruled (Verdict b (tabled t)) b t ss ds cs (Err u)
  shape-told {k} {o} h e = record {
    verdict = refused k o;
    judged = record { refuses = λ r n q. h ∙ q; decides = λ q. absurd (done-not-refused (sym q ∙ sym h)) };
    tells = e;
  }

-- ---- a pool with its shape

abbrev after : Bool → Answer (Unit {0}) → Answer (Unit {0})
after b a = a then λ _. cond b (done tt) (refused Refusal.not_there none)

fine-shape : (b : List ℕ) (p : Pool) → done tt ≡ plan_shape b p → (Shaped p × (all_there b p ≡ true))
fine-shape b p h = go (shape p) (shape_is p) (all_there b p) refl h
  where
    go : (a : Answer (Unit {0})) → Shape p a → (r : Bool) → all_there b p ≡ r → done tt ≡ after r a → Shaped p × (all_there b p ≡ true)
    go a (Shape.count n w) r q e = absurd (done-not-refused e)
    go a (Shape.child n w x) r q e = absurd (done-not-refused e)
    go a (Shape.root w x) r q e = absurd (done-not-refused e)
    go a (Shape.fine s) true q e = (s, q)
    go a (Shape.fine s) false q e = absurd (done-not-refused e)

-- what a list of a function's first values has
member-first : (f : ℕ → ℕ) (m n : ℕ) → ((i : ℕ) → i < n → f i < m) → (u : ℕ) → Member u (first f n) → u < m
unfolding first
member-first f m zero h u k = absurd k
member-first f m (suc n) h u k = by (member-first f m n (λ i l. h i (omega (arith, l))) u) (split (first f n) k)
  where
    split : (l : List ℕ) → Member u (l ++ (f n ∷ [])) → (Member u l) ⊎ (u ≡ f n)
    split [] (inl e) = inr (sym e)
    split [] (inr z) = absurd z
    split (x ∷ l) (inl e) = inl (inl e)
    split (x ∷ l) (inr z) = on (split l z)
      where
        on : (Member u l) ⊎ (u ≡ f n) → (Member u (x ∷ l)) ⊎ (u ≡ f n)
        on (inl z) = inl (inr z)
        on (inr z) = inr z

    by : (Member u (first f n) → u < m) → (Member u (first f n)) ⊎ (u ≡ f n) → u < m
    by ih (inl z) = ih z
    by ih (inr z) = subst (λ v. v < m) (sym z) (h n (omega arith))

module _ {b : List ℕ} {c : Counts} {ss ds cs : List ℕ} (a : PoolAsked b c ss ds cs) (w x l : List ℕ) (h : done tt ≡ plan_shape b (tabled (Tabling w l x c.nodes c.expressions))) where
  abbrev t : Tables
  t = Tabling w l x c.nodes c.expressions

  fine : Shaped (tabled t) × (all_there b (tabled t) ≡ true)
  fine = fine-shape b (tabled t) h

  names : names_there b c.expressions ≡ true
  names = names_of b t fine.1

  starts : Starts t (q2exp b)
  starts = record {
    shaped = fine.0;
    few_nodes = a.read.nodes;
    few_expressions = a.read.expressions;
    tabulated = member-first (λ i. number_at b (q2exp_at b + i)) c.expressions (q2exp_count b) (names-there b c.expressions names).of_q;
  }

  pub shaped-asks : {n : ℕ} → n ≡ q2exp_at b → ShapedAsks b t (entries_in (take (length b - 2 * n) (drop (2 * n) b))) ss ds cs
  shaped-asks e = record {
    fitting = a.fitting;
    starts = starts;
    names = names;
    tabling = q-table b a.fitting.whole e;
    blank = a.read.blank;
  }

  pub shaped-told : {ss' ds' cs' : List ℕ} {r : Planning} → Ruled (Ends (tabled t) (q2exp b)) b t ss' ds' cs' r → Ruled (Verdict b (tabled t)) b t ss' ds' cs' r
  shaped-told k = record {
    verdict = k.verdict;
    judged = record { refuses = λ r n q. absurd (done-not-refused (h ∙ q)); decides = λ q. k.judged };
    tells = k.tells;
  }
