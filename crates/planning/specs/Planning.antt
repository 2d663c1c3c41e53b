-- THE PLAN OF A POOL: what is answered to frames and a plan's record, and the order of refusals. 1 and 9 while reading the frames, then of the plan's record; 1 of what else an entry point
-- takes; the pool's 2; 3 over pool and plan, the pool's own first; 4 over exp and q leaves together; 16, 11 and 12. What an entry point refuses besides comes after it.
-- Assumes nothing: these are definitions.
use Rattle.std.specs.Prelude.{ℕ, ◌≡◌, Bool, ◌&&◌, cond, List, length}
use Rattle.std.proofs.Math.Option.{Option, none}
use Rattle.meaning.specs.Refusals.{Refusal, Answer, done, refused, ◌then◌}
use Rattle.frames.specs.Order.{Input}
use Rattle.pool.specs.Pool.{Pool, node}
use Rattle.pool.specs.Admission.{shape}
use Rattle.pool.specs.Verdict.{Ends}
use Rattle.pool.specs.Numbered.{pool_of}
use Rattle.plans.specs.Plan.{every, q2exp_count, q2exp, is_plan}
use Rattle.plans.specs.Columns.{fits}
use Rattle.plans.specs.Agreement.{cm_count, leaf_there, names_there, bits_good, counts_agree}
use Rattle.map_records.specs.Mapping.{Mapping, mapped, some_none}

module _ (b : List ℕ) where
  -- 1 AND 9 of the plan's record
  abbrev pub recorded : Answer (Unit {0})
  recorded = cond (is_plan b) (cond (fits b) (done tt) (refused Refusal.full none)) (refused Refusal.malformed none)

  -- and 1 of what else an entry point takes
  unfoldable pub argued : Bool → Answer (Unit {0})
  argued own = recorded then λ _. cond own (done tt) (refused Refusal.malformed none)

  module _ (p : Pool) where
    -- the number of every cm and q leaf, dead or not, is in the plan
    abbrev pub leaf_in : ℕ → Bool
    leaf_in i = leaf_there (cm_count b) (q2exp_count b) (node p i).kind (node p i).id

    -- all that the plan names is in the pool, and all that leaves read in the plan
    unfoldable pub all_there : Bool
    all_there = names_there b (length p.expressions) && every leaf_in (length p.nodes)

    -- 2, AND 3 over pool and plan
    abbrev pub plan_shape : Answer (Unit {0})
    plan_shape = shape p then λ _. cond all_there (done tt) (refused Refusal.not_there none)

    -- THE VERDICT on pool and plan: those, then 4 with the smallest leaf on a cycle, or ranks
    pub record Verdict (a : Answer (Unit {0})) : Type 0 where
      pub refuses : (r : Refusal) (n : Option ℕ) → plan_shape ≡ refused r n → a ≡ refused r n
      pub decides : plan_shape ≡ done tt → Ends p (q2exp b) a

    -- 16, 11 AND 12, or the records
    unfoldable pub columned : Answer Mapping
    columned =
        cond (bits_good b)
        (cond (counts_agree b)
        (cond (some_none (mapped b p).dims) (refused Refusal.no_dimension none) (done (mapped b p)))
        (refused Refusal.counts none))
        (refused Refusal.bits none)

-- a pool with its plan
pub record Planned : Type 0 where
  pub pool : Pool
  pub mapping : Mapping

abbrev pub planned : Pool → Mapping → Planned
planned p m = record { pool = p; mapping = m }

module _ (b : List ℕ) (own : Bool) where
  -- of a pool, where all arguments are well formed
  abbrev pub Judged : Pool → Answer Planned → Type 0
  Judged p a = (v : Answer (Unit {0})) × Verdict b p v × (a ≡ (v then λ _. columned b p then λ m. done (planned p m)))

  -- a is THE PLAN where reading answers x, of a plan's record; the other arguments are well formed where `own` is true
  pub record Plans (x : Answer Input) (a : Answer Planned) : Type 0 where
    pub unread : (k : Refusal) (o : Option ℕ) → x ≡ refused k o → a ≡ refused k o
    pub unfit : (i : Input) → x ≡ done i → (k : Refusal) (o : Option ℕ) → argued b own ≡ refused k o → a ≡ refused k o
    pub judged : (i : Input) → x ≡ done i → argued b own ≡ done tt → Judged (pool_of i) a

  -- THE ANSWER of an entry point that goes on with what is planned
  abbrev pub Goes : {A : Type 0} → (Planned → Answer A) → Answer Input → Answer A → Type 0
  Goes what x a = (z : Answer Planned) × Plans x z × (a ≡ (z then what))
