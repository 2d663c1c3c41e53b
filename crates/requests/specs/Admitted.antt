-- The pool of what was read, admitted: what its requests may ask of it.
-- Assumes nothing.
use Rattle.std.specs.Prelude.{ℕ, ◌+◌, ◌<◌, ◌≤◌, ◌≡◌, refl, List, [], Result}
use Rattle.std.proofs.Common.{subst, arith}
use Rattle.meaning.specs.Refusals.{done}
use Rattle.meaning.specs.Trees.{Acyclic}
use Rattle.kinds.specs.declared.refusal.Refused.{Refused}
use Rattle.frames.specs.declared.count.Counts.{Counts}
use Rattle.pool.specs.Pool.{Pool}
use Rattle.pool.specs.Trees.{forest}
use Rattle.pool.specs.Shaped.{Shaped}
use Rattle.pool.specs.Verdict.{Verdict}
use Rattle.pool.specs.Exactly.{exactly_0}
use Rattle.pool.specs.Ranking.{Tabling}
use Rattle.pool.specs.Admitting.{Admits, verdict_says}
use Rattle.starkinfo_codegen.specs.Words.{node_of_words}
use Rattle.starkinfo_codegen.specs.Emitting.{Rest, pool_of}
use Rattle.requests.specs.Whole.{FreshAsks, WholeAsked, pool_in}

-- what admission answers, by its case
module _ (w x : List ℕ) (c : Counts) (literals : List ℕ) where
  pub judged_as : {t : List ℕ} {d : Result (List ℕ) Refused} → Admits (Tabling w literals x c.nodes c.expressions) t d → t ≡ [] → {u : Result (List ℕ) Refused} → d ≡ u → Verdict (pool_in w literals x c) [] (verdict_says u)
  judged_as {d = d} h e q = subst (λ z. Verdict (pool_in w literals x c) [] (verdict_says z)) q (subst (λ (t : List ℕ). Verdict (pool_in w literals x c) t (verdict_says d)) e h.judged)

module _ (w x r : List ℕ) (c : Counts) (a : WholeAsked w x r c) (literals : List ℕ) where
  abbrev pub rest : Rest
  rest = record { literals = literals; expressions = x; node_count = c.nodes; expression_count = c.expressions }

  abbrev pub p : Pool
  p = pool_in w literals x c

  module _ (v : Verdict p [] (done tt)) where
    pub shaped : Shaped p × Acyclic (forest p)
    shaped = (exactly_0 p (done tt) v).0 refl

    pub acyclic : Acyclic (forest (pool_of w rest))
    acyclic = shaped.1

    next_fits : (n : ℕ) → n < c.nodes → 1 + (node_of_words w n).next ≤ 255
    next_fits n h = omega (arith, a.next n h)

    pub fresh-asks : FreshAsks w x rest acyclic r c.expressions c.requests
    fresh-asks = record {
      world = record { pool = record { shaped = shaped.0; few = a.nodes }; few = a.expressions; roots = refl };
      expressions = refl;
      few = a.requests;
      in_rows = λ k h. omega (arith, a.prime k h);
      rows = next_fits;
    }
