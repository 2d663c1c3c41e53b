-- DEMAND 3 AFTER FIXING, FROM FRAMES AND A PLAN'S BYTES: where the whole run of some frames is accepted and `fix`, called with those frames, a plan's record and the run's
-- three lists, is done, the bytes of the first list after it say steps that compute every requested expression: they run to their end, read nothing early, and leave in the
-- cell that fixing gave each request its expression's value. Of the plan two things are asked: its intermediates have cm numbers of their own, and no cm leaf reads one.
-- Its proof is that of proofs/Demand3Plan.antt. Assumes nothing.
use Rattle.std.specs.Prelude.{ℕ, ◌≡◌, List}
use Rattle.std.proofs.Math.Option.{some}
use Rattle.meaning.specs.Refusals.{done}
use Rattle.meaning.specs.Values.{Algebra, Given}
use Rattle.meaning.specs.Building.{Segment}
use Rattle.meaning.specs.Demand3.{Throughout, Fed}
use Rattle.frames.specs.Order.{Input}
use Rattle.frames.specs.Reading.{reading}
use Rattle.frames.specs.Taking.{Bytes}
use Rattle.pool.specs.Trees.{forest}
use Rattle.pool.specs.Numbered.{pool_of}
use Rattle.starkinfo_codegen.specs.Encoding.{encoded}
use Rattle.requests.specs.Runs.{requests_of, BytesRun}
use Rattle.lists.specs.Records.{records_in}
use Rattle.lists.specs.Decoding.{steps_from}
use Rattle.fixed_meaning.specs.Fixing.{Plan, fix_segment}
use Rattle.fixed_meaning.specs.Demand3Fixed.{ComputesFixed}
use Rattle.evaluator_cells.specs.Literals.{brought_at}
use Rattle.plan_walks.specs.Walks.{Walk, walk_says}
use Rattle.plan_walks.specs.Fix.{is_n, FixIs}
use Rattle.plan_demand3.specs.Conditions.{IntermediatesDiffer, NoLeafReadsIntermediate, plan_for}

-- ── the statement ────────────────────────────────────────────────────────────
-- A segment with the run's first list and counter, and whichever steps the bytes of the other two say; fixed by the plan it is what the lists after the call say, with the
-- counter that was answered, and its first list computes every request.
pub record PlanComputes (𝓐 : Algebra) (G : Given 𝓐.A) (x : Input) (g : Segment) (L : Plan) (first' i' last' : List ℕ) (n : ℕ) : Type 0 where
  pub before : Segment
  pub first : before.first ≡ g.first
  pub counter : before.counter ≡ g.counter
  pub i_before : steps_from (brought_at (pool_of x)) (records_in (encoded g.i)) ≡ some before.i
  pub last_before : steps_from (brought_at (pool_of x)) (records_in (encoded g.last)) ≡ some before.last
  pub first_says : steps_from (brought_at (pool_of x)) (records_in first') ≡ some (fix_segment L before).first
  pub i_says : steps_from (brought_at (pool_of x)) (records_in i') ≡ some (fix_segment L before).i
  pub last_says : steps_from (brought_at (pool_of x)) (records_in last') ≡ some (fix_segment L before).last
  pub answers : n ≡ (fix_segment L before).counter
  pub computes : ComputesFixed 𝓐 G (forest (pool_of x)) L before (requests_of x)

-- DEMAND 3 AFTER FIXING, FROM FRAMES AND A PLAN'S BYTES: each leaf's value is given where it is read
abbrev pub Demand3Plan : Algebra → Type 0
Demand3Plan 𝓐 =
    (s : List ℕ) (room : ℕ) (g : Segment) → BytesRun s room (done g) → (x : Input) → reading s ≡ done x →
    (b : List ℕ) → Bytes b → IntermediatesDiffer b → Throughout (NoLeafReadsIntermediate b) (forest (pool_of x)) →
    (domain : ℕ) (first' i' last' : List ℕ) (r : Walk) →
    FixIs s b domain g.counter (encoded g.first) (encoded g.i) (encoded g.last) first' i' last' r → (n : ℕ) → walk_says r ≡ done n →
    (G : Given 𝓐.A) → Throughout (Fed 2 G) (forest (pool_of x)) →
    PlanComputes 𝓐 G x g (plan_for (is_n domain) b (pool_of x)) first' i' last' n
