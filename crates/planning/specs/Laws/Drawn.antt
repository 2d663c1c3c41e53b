-- From what `plan_frames` gives to a plan that is drawn up, or to why there is none.
-- Assumes nothing.
use Rattle.std.specs.Prelude.{ℕ, ◌≡◌, refl, Bool, true, false, List, Ok, Err}
use Rattle.std.proofs.Common.{sym, ◌∙◌, ap, subst}
use Rattle.std.proofs.Math.Option.{Option, none}
use Rattle.meaning.specs.Refusals.{Refusal, Answer, done, refused, ◌then◌}
use Rattle.meaning.proofs.Laws.Tests.{done-not-refused}
use Rattle.frames.specs.Order.{Input}
use Rattle.pool.specs.Pool.{Pool}
use Rattle.pool.specs.Numbered.{pool_of}
use Rattle.pool.specs.Tabled.{tabled}
use Rattle.pool.specs.Ranking.{Tabling}
use Rattle.pool.specs.Laws.Tabled.{expression-count}
use Rattle.plans.specs.Agreement.{names_there, bits_good}
use Rattle.map_records.specs.Mapping.{Mapping, mapped}
use Rattle.planning.specs.Planning.{columned, argued, Planned, planned, Judged, Plans}
use Rattle.planning.specs.Answers.{Unplanned, Planning, unplanned_says, Told, FramesGiven}
use Rattle.planning.specs.Drawn.{Drawn}
use Rattle.planning.specs.declared.answer.Plan.{Plan}

-- ---- where there is a plan, its bits were in their range

no-columns : (b : List ℕ) (p : Pool) → bits_good b ≡ false → columned b p ≡ refused Refusal.bits none
unfolding columned
no-columns b p e = rw e

module _ {b : List ℕ} {own : Bool} {x : Answer Input} {a : Answer Planned} {z : Planned} (h : Plans b own x a) (e : a ≡ done z) where
  never : {k : Refusal} {o : Option ℕ} → a ≡ refused k o → bits_good b ≡ true
  never q = absurd (done-not-refused (sym e ∙ q))

  by-columns : (p : Pool) (v : Answer (Unit {0})) → bits_good b ≡ false → a ≡ (v then λ _. columned b p then λ m. done (planned p m)) → bits_good b ≡ true
  by-columns p (refused k o) f q = never q
  by-columns p (done u) f q = never (q ∙ ap (λ (y : Answer Mapping). y then λ m. done (planned p m)) (no-columns b p f))

  pub bits-passed : bits_good b ≡ true
  bits-passed = go x refl
    where
      by_bits : (p : Pool) → Judged b own p a → (r : Bool) → bits_good b ≡ r → bits_good b ≡ true
      by_bits p j true f = f
      by_bits p j false f = by-columns p j.0 f j.2

      read : (i : Input) → x ≡ done i → (y : Answer (Unit {0})) → argued b own ≡ y → bits_good b ≡ true
      read i q (refused k o) f = never (h.unfit i q k o f)
      read i q (done u) f = by_bits (pool_of i) (h.judged i q f) (bits_good b) refl

      go : (y : Answer Input) → x ≡ y → bits_good b ≡ true
      go (refused k o) q = never (h.unread k o q)
      go (done i) q = read i q (argued b own) refl

-- ---- what planning of frames gives

module _ {s b : List ℕ} {own : Bool} {w x ss ds cs : List ℕ} {r : Planning} (g : FramesGiven s b own w x ss ds cs r) where
  abbrev Tells : Planning → Type 0
  Tells y = Told b (Tabling w g.literals x g.node_count g.expression_count) ss ds cs g.answer y

  -- the pool that was read
  abbrev pub pool_in : Pool
  pool_in = tabled (Tabling w g.literals x g.node_count g.expression_count)

  -- NO PLAN
  pub unplanned : {u : Unplanned} → r ≡ Err u → g.answer ≡ unplanned_says u
  unplanned q = subst Tells q g.told

  module _ {k : Plan} (q : r ≡ Ok k) where
    told : Tells (Ok k)
    told = subst Tells q g.told

    -- A PLAN
    pub answered : g.answer ≡ done (planned pool_in (mapped b pool_in))
    answered = told.0

    pub drawn : Drawn b pool_in ss ds cs k
    drawn =
        let t = Tabling w g.literals x g.node_count g.expression_count in
        let d = told.1 in
        record {
          planned = d.ready.planned;
          bits = bits-passed g.plans told.0;
          names = subst (λ m. names_there b m ≡ true) d.expressions d.ready.names;
          few = rw (← d.expressions) d.ready.starts.few_expressions;
          expressions = expression-count t ∙ d.expressions;
          holds = d.holds;
          quotient = d.quotient;
        }
