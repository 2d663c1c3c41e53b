-- A pool with its shape: a cycle, or ranks with which it is admitted.
-- Assumes nothing.
use Prim.Native.Nat.{ℕ}
use mathlib.Core.Path.{◌≡◌, refl, sym, ◌∙◌, ap, subst}
use mathlib.Core.Option.{Option}
use mathlib.Core.List.{List}
use mathlib.Core.Logic.{inl, inr}
use Rattle.meaning.specs.Refusals.{Refusal, Answer, done, refused}
use Rattle.meaning.proofs.Laws.Tests.{done-not-refused}
use Rattle.std.specs.Prelude.{Result, Ok, Err}
use Rattle.kinds.specs.declared.refusal.Refused.{Refused}
use Rattle.pool.specs.Pool.{Pool}
use Rattle.pool.specs.Shaped.{Shaped}
use Rattle.pool.specs.Admission.{shape, Ranked}
use Rattle.pool.specs.Verdict.{Ends}
use Rattle.pool.specs.Tabled.{Tables, tabled}
use Rattle.pool.specs.Ranking.{Starts}
use Rattle.pool.specs.Laws.Shape.{Shape, shape_is, shaped-counts, shaped-there}
use Rattle.pool.specs.Admitting.{Admits, verdict_says}
use Rattle.plans.specs.Plan.{q2exp}
use Rattle.map_records.specs.Mapping.{Mapping, mapped}
use Rattle.planning.specs.Planning.{columned}
use Rattle.planning.specs.Answers.{Unplanned, Planning, unplanned_says, AdmittedAsks, ShapedAsks, Ruled, Tells}

pub shaped-fine : (p : Pool) → Shaped p → shape p ≡ done tt
shaped-fine p s = go (shape p) (shape_is p)
  where
    go : (a : Answer (Unit {0})) → Shape p a → a ≡ done tt
    go a (Shape.count n w) = absurd (shaped-counts p s w)
    go a (Shape.child n w x) = absurd (shaped-there p s x)
    go a (Shape.root w x) = absurd (shaped-there p s x)
    go a (Shape.fine h) = refl

module _ {b : List ℕ} {t : Tables} {table ss ds cs : List ℕ} (a : ShapedAsks b t table ss ds cs) where
  pub starts_in : Starts t table
  starts_in = subst (λ (l : List ℕ). Starts t l) (sym a.tabling) a.starts

  module _ {r : Result (List ℕ) Refused} (g : Admits t table r) where
    ends : Ends (tabled t) (q2exp b) (verdict_says r)
    ends = subst (λ (l : List ℕ). Ends (tabled t) l (verdict_says r)) a.tabling (g.judged.decides (shaped-fine (tabled t) a.starts.shaped))

    pub refused-told : {u : Unplanned} {ss' ds' cs' : List ℕ} → r ≡ Err u → Ruled (Ends (tabled t) (q2exp b)) b t ss' ds' cs' (Err u)
    refused-told {u} q = record {
      verdict = unplanned_says u;
      judged = subst (λ (x : Answer (Unit {0})). Ends (tabled t) (q2exp b) x) (ap verdict_says q) ends;
      tells = refl;
    }

    module _ {ranks : List ℕ} (q : r ≡ Ok ranks) where
      admitted : Ends (tabled t) (q2exp b) (done tt)
      admitted = subst (λ (v : Result (List ℕ) Refused). Ends (tabled t) (q2exp b) (verdict_says v)) q ends

      ranked-by : (rank : (ℕ → ℕ)) × Ranked (tabled t) (q2exp b) rank
      ranked-by = go admitted
        where
          go : Ends (tabled t) (q2exp b) (done tt) → (rank : (ℕ → ℕ)) × Ranked (tabled t) (q2exp b) rank
          go (inl h) = absurd (done-not-refused h.1)
          go (inr h) = h.1

      pub rank : ℕ → ℕ
      rank = ranked-by.0

      pub admitted-asks : AdmittedAsks b t rank table ss ds cs
      unfolding rank
      admitted-asks = record { fitting = a.fitting; starts = a.starts; ranked = ranked-by.1; names = a.names; tabling = a.tabling; blank = a.blank }

      pub admitted-told :
          {ss' ds' cs' : List ℕ} {x : Planning} → Tells b t ss' ds' cs' (mapped b (tabled t)) (columned b (tabled t)) x
          → Ruled (Ends (tabled t) (q2exp b)) b t ss' ds' cs' x
      admitted-told h = record { verdict = done tt; judged = admitted; tells = h }
