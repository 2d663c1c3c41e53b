-- THE WAYS TO AN ANSWER: each refusal's row of document 01 for a pool as frames and a plan's record, as a person would state it, with what must not have been
-- refused before it.
-- Assumes nothing: these are definitions.
use Rattle.std.specs.Prelude.{ℕ, ◌<◌, ◌≡◌, Bool, true, false, List, ◌⊎◌, length}
use Rattle.std.proofs.Math.Option.{Option}
use Rattle.meaning.specs.Trees.{Member}
use Rattle.meaning.specs.Refusals.{Refusal, number, Answer, done, refused}
use Rattle.frames.specs.Order.{Input}
use Rattle.pool.specs.Pool.{Pool, node}
use Rattle.pool.specs.Shaped.{Shaped}
use Rattle.pool.specs.Admission.{ClosedWalk, Ranked}
use Rattle.pool.specs.Verdict.{SomeWrongCount, SomeNotThere}
use Rattle.pool.specs.Numbered.{pool_of}
use Rattle.plans.specs.Plan.{q2exp_count, q2exp}
use Rattle.plans.specs.Columns.{record_limit, record_count}
use Rattle.plans.specs.Agreement.{cm_count}
use Rattle.plans.specs.Exactly.{TooShort, WrongSize, SomeNotAscending, SomeNameLost, BitsOut, CountsDiffer, LeafLost}
use Rattle.map_records.specs.Mapping.{mapped}

module _ (b : List ℕ) where
  -- 1: the record is shorter than its head, or not as long as its counts say, or two neighbouring intermediates do not ascend
  abbrev pub NoPlan : Type 0
  NoPlan = TooShort b ⊎ (WrongSize b ⊎ SomeNotAscending b)

  -- 9: `map` would make more than 4,096 records
  abbrev pub TooManyRecords : Type 0
  TooManyRecords = record_limit < record_count b

  -- the arguments that are well formed: a plan, and what else an entry point takes
  pub record WellFormed (own : Bool) : Type 0 where
    pub plan : NoPlan → ⊥
    pub fits : TooManyRecords → ⊥
    pub others : own ≡ true

  module _ (p : Pool) where
    -- 3: the number of some cm or q leaf, dead or not, is not in the plan
    abbrev pub SomeLeafLost : Type 0
    SomeLeafLost = (n : ℕ) × (n < length p.nodes) × LeafLost (cm_count b) (q2exp_count b) (node p n).kind (node p n).id

    -- 3, over pool and plan: the pool's own, or an expression that the plan names, or a leaf
    abbrev pub SomethingLost : Type 0
    SomethingLost = SomeNotThere p ⊎ (SomeNameLost b (length p.expressions) ⊎ SomeLeafLost)

    -- 4: a walk along exp leaves, and along q leaves through their expressions, that comes back to where it began
    abbrev pub SomeCycle : Type 0
    SomeCycle = ClosedWalk p (q2exp b)

    -- 12: some record has dimension 0
    abbrev pub SomeUndimensioned : Type 0
    SomeUndimensioned = Member 0 (mapped b p).dims

    -- neither 2 nor 3 nor 4
    pub record Admitted : Type 0 where
      pub shaped : Shaped p
      pub all : SomethingLost → ⊥
      pub rank : ℕ → ℕ
      pub ranked : Ranked p (q2exp b) rank

-- where reading answers x, the number n comes of
module _ (b : List ℕ) (own : Bool) (x : Answer Input) where
  pub data Way : ℕ → Type 0 where
    unread : (k : Refusal) (o : Option ℕ) → x ≡ refused k o → Way (number k)
    no_plan : (i : Input) → x ≡ done i → NoPlan b → Way 1
    too_many : (i : Input) → x ≡ done i → (NoPlan b → ⊥) → TooManyRecords b → Way 9
    ill_formed : (i : Input) → x ≡ done i → (NoPlan b → ⊥) → (TooManyRecords b → ⊥) → own ≡ false → Way 1
    child_count : (i : Input) → x ≡ done i → WellFormed b own → SomeWrongCount (pool_of i) → Way 2
    lost : (i : Input) → x ≡ done i → WellFormed b own → (SomeWrongCount (pool_of i) → ⊥) → SomethingLost b (pool_of i) → Way 3
    cycle : (i : Input) → x ≡ done i → WellFormed b own → Shaped (pool_of i) → (SomethingLost b (pool_of i) → ⊥) → SomeCycle b (pool_of i) → Way 4
    bits : (i : Input) → x ≡ done i → WellFormed b own → Admitted b (pool_of i) → BitsOut b → Way 16
    counts : (i : Input) → x ≡ done i → WellFormed b own → Admitted b (pool_of i) → (BitsOut b → ⊥) → CountsDiffer b → Way 11
    undimensioned :
        (i : Input) → x ≡ done i → WellFormed b own → Admitted b (pool_of i) → (BitsOut b → ⊥) → (CountsDiffer b → ⊥) → SomeUndimensioned b (pool_of i) → Way 12
    planned :
        (i : Input) → x ≡ done i → WellFormed b own → Admitted b (pool_of i) → (BitsOut b → ⊥) → (CountsDiffer b → ⊥) → (SomeUndimensioned b (pool_of i) → ⊥) → Way 0
