-- DEMAND 3 AFTER FIXING, FROM FRAMES AND A PLAN'S BYTES, proved: the statement is that of specs/Demand3Plan.antt.
-- Assumes nothing.
use Rattle.std.specs.Prelude.{ℕ, ◌≤◌, ◌≡◌, Bool, List, length}
use Rattle.std.proofs.Common.{sym, ◌∙◌, ap}
use Rattle.std.proofs.Math.Option.{some}
use Rattle.meaning.specs.Refusals.{done}
use Rattle.meaning.specs.Values.{Algebra}
use Rattle.meaning.specs.Models.{integers, modulo}
use Rattle.meaning.specs.Generation.{start, serve_all}
use Rattle.meaning.specs.Building.{Segment, segment}
use Rattle.meaning.proofs.Proved.{demand3-fed}
use Rattle.meaning.proofs.Laws.Tests.{then-done, done-same}
use Rattle.frames.specs.Order.{Input, counts_of, expression_limit}
use Rattle.frames.specs.Reading.{reading}
use Rattle.frames.specs.Limits.{within}
use Rattle.pool.specs.Trees.{forest}
use Rattle.pool.specs.Numbered.{pool_of}
use Rattle.starkinfo_codegen.specs.Encoding.{encoded}
use Rattle.requests.specs.Runs.{requests_of}
use Rattle.requests.specs.Serving.{plain-requests, accepted}
use Rattle.lists.specs.Records.{records_in}
use Rattle.lists.specs.Decoding.{steps_from}
use Rattle.fixed_meaning.specs.Fixing.{Plan}
use Rattle.fixed_meaning.proofs.ProvedFixed.{with_lists, fixed-computes}
use Rattle.fixing.specs.Said.{SaysSegment, accepted-says, says-fixed}
use Rattle.evaluator_cells.specs.Literals.{brought_at}
use Rattle.evaluator.specs.Computed.{says, few-nodes, rows_few}
use Rattle.evaluator.specs.Laws.ReadBack.{list_back}
use Rattle.map_records.specs.Mapping.{mapped}
use Rattle.planning.specs.Planning.{planned}
use Rattle.plan_walks.specs.Cms.{cms_of}
use Rattle.plan_walks.specs.Fix.{is_n, rules_in}
use Rattle.plan_demand3.specs.Conditions.{plan_for, columns_differ, alone_throughout}
use Rattle.plan_demand3.specs.Done.{call_done}
use Rattle.plan_demand3.specs.Demand3Plan.{Demand3Plan}

-- ── the proof ────────────────────────────────────────────────────────────────
few-expressions : (s : List ℕ) (x : Input) → reading s ≡ done x → length x.expressions ≤ expression_limit
unfolding counts_of
few-expressions s x read = (within s x read).expressions

pub demand3-plan : (𝓐 : Algebra) → Demand3Plan 𝓐
demand3-plan 𝓐 s room g run x read b bytes differ alone domain first' i' last' r call n said G fed =
    let p = pool_of x in
    let qs = requests_of x in
    let in_n : Bool = is_n domain in
    let L : Plan = plan_for in_n b p in
    let rules : List ℕ = rules_in in_n b (planned p (mapped b p)) in
    let cms : List ℕ = cms_of in_n (mapped b p).sections in
    let first : List ℕ = encoded g.first in
    let i : List ℕ = encoded g.i in
    let last : List ℕ = encoded g.last in
    let few = few-expressions s x read in
    let done-so = call_done s b domain g.counter first i last first' i' last' r n x read call said in
    let fixes = done-so.fixes in
    let a = accepted p qs room g (run.judged x read) in
    let plain = plain-requests x.requests in
    let served = then-done (serve_all 2 (forest p) qs start) _ a.run in
    let is : segment (forest p) served.0 ≡ g = done-same (segment (forest p) served.0) g served.2 in
    let before : SaysSegment (brought_at p) g.counter first i last = accepted-says (brought_at p) rules cms g.counter first i last fixes.accepts in
    let S : Segment = with_lists served.0 before.segment.i before.segment.last in
    let same : S.first ≡ g.first = ap (λ (z : Segment). z.first) is in
    let counted : S.counter ≡ g.counter = ap (λ (z : Segment). z.counter) is in
    let back : steps_from (brought_at p) (records_in first) ≡ some S.first =
    list_back p g.first (says p a.shaped (few-nodes s room g run x read) a.acyclic qs g plain (rows_few s room g run x read) a.run) ∙ ap some (sym same) in
    let after = says-fixed (brought_at p) rules cms g.counter first i last fixes.accepts S counted back before.i_says before.last_says in
    record {
      before = S;
      first = same;
      counter = counted;
      i_before = before.i_says;
      last_before = before.last_says;
      first_says = ap (λ l. steps_from (brought_at p) (records_in l)) fixes.first_is ∙ after.first_says;
      i_says = ap (λ l. steps_from (brought_at p) (records_in l)) fixes.i_is ∙ after.i_says;
      last_says = ap (λ l. steps_from (brought_at p) (records_in l)) fixes.last_is ∙ after.last_says;
      answers = fixes.counter_is ∙ after.counter_is;
      computes =
          fixed-computes 𝓐 2 G (forest p) L (columns_differ in_n b p few bytes done-so.few differ) (alone_throughout in_n b p few bytes done-so.few (forest p) alone) qs plain
          served.0 served.1 (demand3-fed 𝓐 2 G (forest p) a.acyclic fed qs plain served.0 served.1) before.segment.i before.segment.last;
    }

pub demand3-plan-integers : Demand3Plan integers
demand3-plan-integers = demand3-plan integers

pub demand3-plan-modulo : (m : ℕ) → 2 ≤ m → Demand3Plan (modulo m)
demand3-plan-modulo m h = demand3-plan (modulo m)
