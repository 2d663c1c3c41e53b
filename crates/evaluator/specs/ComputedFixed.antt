-- WHAT THE EVALUATOR ANSWERS OF A FIXED LIST: where the whole run of some frames is accepted, and fix_prover_code accepts its three lists for a plan whose columns differ and of
-- which no leaf reads an intermediate's, the evaluator, called with those frames and the bytes of the fixed first list, answers for each requested expression, in the cell that
-- fixing gave it, its value modulo m. Assumes nothing.
use Rattle.std.specs.Prelude.{ℕ, ◌*◌, ◌<◌, ◌≤◌, ◌≡◌, true, List, [], length}
use Rattle.std.proofs.Common.{sym, ◌∙◌, ap, arith}
use Rattle.std.proofs.Math.Option.{some, none-ne-some}
use Rattle.kinds.specs.Write.{write}
use Rattle.meaning.specs.Refusals.{done}
use Rattle.meaning.specs.Trees.{Acyclic, Each, Member}
use Rattle.meaning.specs.Values.{value}
use Rattle.meaning.specs.Models.{modulo}
use Rattle.meaning.specs.Steps.{Step}
use Rattle.meaning.specs.Running.{empty}
use Rattle.meaning.specs.Generation.{State, Request, start, serve_all}
use Rattle.meaning.specs.Building.{Segment, segment, whole}
use Rattle.meaning.specs.Demand3.{NoResult, Throughout, Fed}
use Rattle.meaning.proofs.Proved.{demand3-fed}
use Rattle.meaning.proofs.Laws.Tests.{then-done, done-same, each_both}
use Rattle.frames.specs.Order.{Input, node_limit}
use Rattle.frames.specs.Reading.{reading}
use Rattle.pool.specs.Pool.{Pool}
use Rattle.pool.specs.Trees.{forest}
use Rattle.pool.specs.Shaped.{Shaped}
use Rattle.pool.specs.Numbered.{pool_of}
use Rattle.starkinfo_codegen.specs.Encoding.{encoded}
use Rattle.requests.specs.Runs.{requests_of, BytesRun}
use Rattle.requests.specs.Serving.{plain-requests, accepted}
use Rattle.lists.specs.Records.{records_in}
use Rattle.lists.specs.Decoding.{steps_from}
use Rattle.lent_lists.specs.Verdicts.{fine}
use Rattle.fixed_meaning.specs.Fixing.{Plan, fix_segment}
use Rattle.fixed_meaning.specs.Demand3Fixed.{ColumnsDiffer, NoIntermediateRead, cell_for, HeldFixed, ValueFixed, ComputesFixed}
use Rattle.fixed_meaning.proofs.ProvedFixed.{with_lists, fixed-computes, fixed-steps}
use Rattle.fixing.specs.ProverCode.{plan_of, prover_verdict, list_after}
use Rattle.fixing.specs.Said.{SaysSegment, accepted-says, says-fixed}
use Rattle.fixing.specs.Kept.{fixed-good}
use Rattle.evaluator_cells.specs.Keyed.{valued_size}
use Rattle.evaluator_cells.specs.Given.{lent, given, good_values}
use Rattle.evaluator_cells.specs.Literals.{brought_at}
use Rattle.evaluator_run.specs.Evaluation.{written, Valued, valued_by, values_bytes, ruling}
use Rattle.evaluator.specs.Answer.{Evaluation, answer_says, EvaluationIs}
use Rattle.evaluator.specs.Exactly.{fits}
use Rattle.evaluator.specs.Computed.{says, well_formed_lem, few-nodes, rows_few, computed-answers}
use Rattle.evaluator.specs.Laws.ReadBack.{list_back}
use Rattle.evaluator.specs.Laws.Rows.{first-few}
use Rattle.evaluator.specs.Laws.Written.{run_covers, valued-member, written-few}

-- ── the statement ────────────────────────────────────────────────────────────
-- the cell that fixing gave a request stands among the values answered, with the value of its expression at its row
abbrev pub FixedFor : Plan → Segment → Pool → ℕ → List ℕ → List Valued → Request → Type 0
FixedFor L S p m ws vs q =
    (v : ℕ) × (value (modulo m) (given m (lent ws)) (forest p) q.expression q.row ≡ some v)
    × Member {A = Valued} (record { cell = cell_for L S q; value = v }) vs

-- r is the answer with these values, which stand at the front of the room, and they have each requested expression's, in the cell that fixing a segment with this first list gave it
pub record AnswersFixed (L : Plan) (g : Segment) (i : Input) (m : ℕ) (ws out out' : List ℕ) (r : Evaluation) : Type 0 where
  pub values : List Valued
  pub says : answer_says r ≡ done (length values)
  pub bytes : out' ≡ write out 0 (values_bytes values)
  pub fixed : Segment
  pub first : fixed.first ≡ g.first
  pub each : Each (FixedFor L fixed (pool_of i) m ws values) (requests_of i)

-- ── the proof ────────────────────────────────────────────────────────────────
-- of a pool and accepted requests, plain or primed, none of which asks for a result; c their state, i and last whatever the other two lists say
module _ (p : Pool) (shaped : Shaped p) (few : length p.nodes ≤ node_limit) (acyclic : Acyclic (forest p)) (qs : List Request) (g : Segment) (plain : Each NoResult qs) (in_rows : Each (λ q. q.row < 2) qs) (e : whole 2 (forest p) qs ≡ done g) (L : Plan) (differ : ColumnsDiffer L) (alone : Throughout (NoIntermediateRead L) (forest p)) (i last : List Step) where
  abbrev served : (st : State) × (serve_all 2 (forest p) qs start ≡ done st) × (done (segment (forest p) st) ≡ done g)
  served = then-done (serve_all 2 (forest p) qs start) _ e

  abbrev S : Segment
  S = with_lists served.0 i last

  first_is : S.first ≡ g.first
  first_is = ap (λ (z : Segment). z.first) (done-same (segment (forest p) served.0) g served.2)

  counter_is : S.counter ≡ g.counter
  counter_is = ap (λ (z : Segment). z.counter) (done-same (segment (forest p) served.0) g served.2)

  module _ (m : ℕ) (ws : List ℕ) (fed : Throughout (Fed 2 (given m (lent ws))) (forest p)) where
    computes : ComputesFixed (modulo m) (given m (lent ws)) (forest p) L S qs
    computes =
        fixed-computes (modulo m) 2 (given m (lent ws)) (forest p) L differ alone qs plain served.0 served.1
        (demand3-fed (modulo m) 2 (given m (lent ws)) (forest p) acyclic fed qs plain served.0 served.1) i last

    abbrev fixed_values : List Valued
    fixed_values = valued_by computes.end (written (fix_segment L S).first)

    fixed_ruling :
        (list : List ℕ) → steps_from (brought_at p) (records_in list) ≡ some (fix_segment L S).first → (room : ℕ) → valued_size * length g.first ≤ room
        → ruling (brought_at p) (lent ws) m list room ≡ done fixed_values
    fixed_ruling list said room fit =
        let n = written-few (fix_segment L S).first [] in
        let k : length (fix_segment L S).first ≡ length g.first = fixed-steps L S ∙ ap length first_is in
        let l = first-few p shaped few acyclic qs g plain in_rows e in
        fits (brought_at p) (lent ws) m list room (fix_segment L S).first computes.end (record { steps = said; runs = computes.runs }) (omega arith, omega arith)

    all_fixed : Each (FixedFor L S p m ws fixed_values) qs
    all_fixed =
        let c = computes in
        each_both (HeldFixed (modulo m) (given m (lent ws)) (forest p) L S c.end) (ValueFixed (modulo m) (given m (lent ws)) (forest p) L S c.end) _
        (λ q h v. (
          h.0,
          sym v ∙ h.1,
          valued-member c.end (written (fix_segment L S).first) (cell_for L S q) h.0
              (run_covers (modulo m) (given m (lent ws)) (fix_segment L S).first empty c.end [] (λ d u z. absurd (none-ne-some u z)) c.runs (cell_for L S q) h.0 h.1)
              h.1,
        ))
        qs c.held c.values

-- FROM FRAMES: b their bytes, g the segment of their whole run, whose lists fix_prover_code accepts with these rules and these records of cm
module _ (b : List ℕ) (list_room : ℕ) (g : Segment) (run : BytesRun b list_room (done g)) (i : Input) (read : reading b ≡ done i) (rules cms : List ℕ) (fine-so : prover_verdict rules cms g.counter (encoded g.first) (encoded g.i) (encoded g.last) ≡ fine) where
  -- the bytes of the first list after it
  abbrev pub fixed_first : List ℕ
  fixed_first = list_after rules cms g.counter (encoded g.first) (encoded g.i) (encoded g.last) (encoded g.first)

  pub fixed_evaluates :
      ColumnsDiffer (plan_of rules) → Throughout (NoIntermediateRead (plan_of rules)) (forest (pool_of i))
      → (m : ℕ) → 2 ≤ m → (ws : List ℕ) → good_values ws ≡ true → Throughout (Fed 2 (given m (lent ws))) (forest (pool_of i))
      → (out : List ℕ) → valued_size * length g.first ≤ length out
      → {out' : List ℕ} {r : Evaluation} → EvaluationIs b fixed_first m ws out out' r → AnswersFixed (plan_of rules) g i m ws out out' r
  fixed_evaluates differ alone m least ws good fed out fit h =
      let p = pool_of i in
      let L = plan_of rules in
      let qs = requests_of i in
      let a = accepted p qs list_room g (run.judged i read) in
      let few = few-nodes b list_room g run i read in
      let rows = rows_few b list_room g run i read in
      let plain = plain-requests i.requests in
      let first = encoded g.first in
      let s : SaysSegment (brought_at p) g.counter first (encoded g.i) (encoded g.last) = accepted-says (brought_at p) rules cms g.counter first (encoded g.i) (encoded g.last) fine-so in
      let x = s.segment.i in
      let y = s.segment.last in
      let S = with_lists (then-done (serve_all 2 (forest p) qs start) _ a.run).0 x y in
      let same : S.first ≡ g.first = first_is p a.shaped few a.acyclic qs g plain rows a.run L differ alone x y in
      let counted : S.counter ≡ g.counter = counter_is p a.shaped few a.acyclic qs g plain rows a.run L differ alone x y in
      let back : steps_from (brought_at p) (records_in first) ≡ some S.first = list_back p g.first (says p a.shaped few a.acyclic qs g plain rows a.run) ∙ ap some (sym same) in
      let said = says-fixed (brought_at p) rules cms g.counter first (encoded g.i) (encoded g.last) fine-so S counted back s.i_says s.last_says in
      let w = fixed-good rules cms g.counter first (encoded g.i) (encoded g.last) fine-so first (well_formed_lem p a.shaped few a.acyclic qs g plain rows a.run) in
      let e = fixed_ruling p a.shaped few a.acyclic qs g plain rows a.run L differ alone x y m ws fed fixed_first said.first_says (length out) fit in
      let k = computed-answers b list_room g run i read m least ws good fixed_first w out _ e h in
      record {
        values = _;
        says = k.0;
        bytes = k.1;
        fixed = S;
        first = same;
        each = all_fixed p a.shaped few a.acyclic qs g plain rows a.run L differ alone x y m ws fed;
      }
