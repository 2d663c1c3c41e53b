-- WHAT THE EXPORTED EVALUATOR ANSWERS OF A GENERATED LIST: the number is 0, and for each request its expression's value modulo m stands in its cell; so also of the first list after
-- fixing by a plan, in the cell that fixing gave the request.
-- Assumes nothing.
use Rattle.std.specs.Prelude.{ℕ, ◌*◌, ◌≤◌, ◌≡◌, refl, Bool, true, false, cond, ◌&&◌, List, length, get_or, leb, Ok}
use Rattle.std.proofs.Common.{sym, ◌∙◌, ap, subst, le-leb}
use Rattle.std.proofs.Math.Option.{Option, none, some}
use Rattle.kinds.specs.Write.{write}
use Rattle.meaning.specs.Refusals.{Refusal, Answer, done, refused, answer_no, ◌then◌}
use Rattle.meaning.specs.Trees.{Acyclic, Each}
use Rattle.meaning.specs.Values.{bind}
use Rattle.meaning.specs.Building.{Segment}
use Rattle.meaning.specs.Demand3.{Throughout, Fed}
use Rattle.meaning.proofs.Laws.Tests.{number-not-zero}
use Rattle.frames.specs.Order.{Input, counts_of, expression_limit}
use Rattle.frames.specs.Reading.{reading}
use Rattle.frames.specs.Limits.{within}
use Rattle.frames.specs.Taking.{Bytes}
use Rattle.pool.specs.Trees.{forest}
use Rattle.pool.specs.Shaped.{Shaped}
use Rattle.pool.specs.Exactly.{exactly_0}
use Rattle.pool.specs.Numbered.{pool_of}
use Rattle.starkinfo_codegen.specs.Encoding.{encoded}
use Rattle.requests.specs.Runs.{requests_of, BytesRun}
use Rattle.requests.specs.Serving.{plain-requests, accepted}
use Rattle.lists.specs.Records.{records_in, good_list}
use Rattle.lists.specs.Decoding.{steps_from}
use Rattle.evaluator_cells.specs.Cells.{cell_limit}
use Rattle.evaluator_cells.specs.Keyed.{valued_size}
use Rattle.evaluator_cells.specs.Given.{lent, given, good_values}
use Rattle.evaluator_cells.specs.Literals.{brought_at}
use Rattle.evaluator_run.specs.Evaluation.{Valued, values_bytes, computed, ruled, well_formed, ruling, out_after}
use Rattle.evaluator.specs.Answer.{Evaluates, Evaluation, answer_says, EvaluationIs}
use Rattle.evaluator.specs.Exactly.{number_is}
use Rattle.evaluator.specs.Computed.{AnsweredFor, few-nodes, rows_few, well_formed_lem, first_evaluates}
use Rattle.kinds.specs.Answers.{refusing}
use Rattle.kinds.specs.declared.refusal.Refusal.TheVariants as code
use Rattle.evaluator.specs.ComputedFixed.{FixedFor, fixed_evaluates}
use Rattle.fixed_meaning.specs.Fixing.{Plan}
use Rattle.fixing.specs.Kept.{fixed-good}
use Rattle.map_records.specs.Mapping.{mapped}
use Rattle.planning.specs.Planning.{planned}
use Rattle.plan_walks.specs.Cms.{cms_of}
use Rattle.plan_walks.specs.Fix.{is_n, rules_in}
use Rattle.plan_demand3.specs.Conditions.{IntermediatesDiffer, NoLeafReadsIntermediate, plan_for, columns_differ, alone_throughout}
use Rattle.plan_demand3.specs.Done.{call_done}
use Rattle.host.specs.Numbered.{EvaluateNumbered}
use Rattle.host.specs.Plans.{WalkCounted}
use Rattle.promises.specs.Demand3.{fix_call}

-- ── the statement ────────────────────────────────────────────────────────────
-- the number is 0; these values stand at the front of the room, and among them is that of each request
pub record Answers (i : Input) (m : ℕ) (ws o o' : List ℕ) (n : ℕ) : Type 0 where
  pub number : n ≡ 0
  pub values : List Valued
  pub bytes : o' ≡ write o 0 (values_bytes values)
  pub each : Each (AnsweredFor (pool_of i) m ws values) (requests_of i)

-- enonkasse_evaluate, of the first list of an accepted run of the same frames, with every leaf's value given and room for 12 bytes a step
abbrev pub EvaluatesFirst : Type 0
EvaluatesFirst =
    (s : List ℕ) (room : ℕ) (g : Segment) → BytesRun s room (done g) → (i : Input) → reading s ≡ done i →
    (m : ℕ) → 2 ≤ m → (ws : List ℕ) → good_values ws ≡ true → Throughout (Fed 2 (given m (lent ws))) (forest (pool_of i)) →
    (o o' z z' : List ℕ) (n : ℕ) → valued_size * length g.first ≤ length o → EvaluateNumbered s (encoded g.first) m ws o o' z z' n → Answers i m ws o o' n

-- ── after fixing by a plan ───────────────────────────────────────────────────
-- the number is 0; these values stand at the front of the room, and among them is that of each request, in the cell that fixing a segment with the run's first list gave it
pub record AnswersFixed (L : Plan) (g : Segment) (i : Input) (m : ℕ) (ws o o' : List ℕ) (n : ℕ) : Type 0 where
  pub number : n ≡ 0
  pub values : List Valued
  pub bytes : o' ≡ write o 0 (values_bytes values)
  pub before : Segment
  pub first : before.first ≡ g.first
  pub each : Each (FixedFor L before (pool_of i) m ws values) (requests_of i)

-- enonkasse_evaluate, of the first list that enonkasse_fix left of an accepted run of the same frames, where fixing was answered with 0 and the plan is as demand 3 takes it
abbrev pub EvaluatesFixed : Type 0
EvaluatesFixed =
    (s : List ℕ) (room : ℕ) (g : Segment) → BytesRun s room (done g) → (i : Input) → reading s ≡ done i →
    (b : List ℕ) → Bytes b → IntermediatesDiffer b → Throughout (NoLeafReadsIntermediate b) (forest (pool_of i)) →
    (domain : ℕ) (c c' first' i' last' : List ℕ) → get_or c 0 0 ≡ g.counter →
    WalkCounted s b domain c c' (encoded g.first) (encoded g.i) (encoded g.last) first' i' last' 0 →
    (m : ℕ) → 2 ≤ m → (ws : List ℕ) → good_values ws ≡ true → Throughout (Fed 2 (given m (lent ws))) (forest (pool_of i)) →
    (o o' z z' : List ℕ) (n : ℕ) → valued_size * length g.first ≤ length o → EvaluateNumbered s first' m ws o o' z z' n →
    AnswersFixed (plan_for (is_n domain) b (pool_of i)) g i m ws o o' n

-- ── the proof ────────────────────────────────────────────────────────────────
-- an answer that the code has
told-by : (x : Option (List Valued)) (room : ℕ) → (r : Evaluation) × (answer_says r ≡ (ruled room x then λ vs. done (length vs)))
told-by none room = (refusing code.NoRule, refl)
told-by (some vs) room = by (leb (length vs) cell_limit && leb (valued_size * length vs) room)
  where
    by : (b : Bool) → (r : Evaluation) × (answer_says r ≡ (cond b (done vs) (refused Refusal.full none) then λ us. done (length us)))
    by true = (Ok (length vs), refl)
    by false = (refusing code.Full, refl)

-- of an admitted pool, and a list and values that are well formed
as_evaluation :
    (s list : List ℕ) (m : ℕ) (ws o o' : List ℕ) (a : Answer (List Valued)) → Evaluates list m ws (length o) (reading s) a → (i : Input) → reading s ≡ done i →
    well_formed ws m list ≡ true → Shaped (pool_of i) → Acyclic (forest (pool_of i)) → o' ≡ out_after o a → (r : Evaluation) × EvaluationIs s list m ws o o' r
unfolding ruling
as_evaluation s list m ws o o' a h i read formed shaped acyclic out =
    let p = pool_of i in
    let j = h.judged i read formed in
    let x = bind (steps_from (brought_at p) (records_in list)) (computed m (lent ws)) in
    let is : a ≡ ruled (length o) x = j.2 ∙ ap (λ (v : Answer (Unit {0})). v then λ _. ruling (brought_at p) (lent ws) m list (length o)) (is-done j.0 ((exactly_0 p j.0 j.1).1 (shaped, acyclic))) in
    let t = told-by x (length o) in
    (t.0, (a, h, record { says = t.1 ∙ sym (ap (λ (y : Answer (List Valued)). y then λ vs. done (length vs)) is); bytes = out }))
  where
    is-done : (v : Answer (Unit {0})) → answer_no v ≡ 0 → v ≡ done tt
    is-done (done u) e = refl
    is-done (refused k o) e = absurd (number-not-zero k e)

zero_number : (r : Evaluation) (k : ℕ) → answer_says r ≡ done k → answer_no (answer_says r) ≡ 0
zero_number r k e = ap answer_no e

formed-by : (ws : List ℕ) (m : ℕ) (list : List ℕ) → 2 ≤ m → good_list list ≡ true → good_values ws ≡ true → well_formed ws m list ≡ true
unfolding well_formed
formed-by ws m list a b c = rw (le-leb 2 m a, b, c)

pub evaluates_first : EvaluatesFirst
unfolding as_evaluation
evaluates_first s room g run i read m least ws good fed o o' z z' n fit h =
    let a = accepted (pool_of i) (requests_of i) room g (run.judged i read) in
    let w = well_formed_lem (pool_of i) a.shaped (few-nodes s room g run i read) a.acyclic (requests_of i) g (plain-requests i.requests) (rows_few s room g run i read) a.run in
    let e = as_evaluation s (encoded g.first) m ws o o' h.0 h.1 i read (formed-by ws m (encoded g.first) least w good) a.shaped a.acyclic h.3 in
    let y = first_evaluates s room g run i read m least ws good fed o fit e.1 in
    record { number = h.2 ∙ sym (number_is e.1.2) ∙ zero_number e.0 (length y.values) y.says; values = y.values; bytes = y.bytes; each = y.each }

few-expressions : (s : List ℕ) (i : Input) → reading s ≡ done i → length i.expressions ≤ expression_limit
unfolding counts_of
few-expressions s i read = (within s i read).expressions

pub evaluates_fixed : EvaluatesFixed
unfolding as_evaluation
evaluates_fixed s room g run i read b bytes differ alone domain c c' first' i' last' counted call m least ws good fed o o' z z' n fit h =
    let p = pool_of i in
    let in_n : Bool = is_n domain in
    let rules : List ℕ = rules_in in_n b (planned p (mapped b p)) in
    let cms : List ℕ = cms_of in_n (mapped b p).sections in
    let first : List ℕ = encoded g.first in
    let fixed = fix_call s b domain c c' first (encoded g.i) (encoded g.last) first' i' last' g.counter counted call in
    let d = call_done s b domain g.counter first (encoded g.i) (encoded g.last) first' i' last' (Ok fixed.0) fixed.0 i read fixed.1 refl in
    let a = accepted p (requests_of i) room g (run.judged i read) in
    let w = well_formed_lem p a.shaped (few-nodes s room g run i read) a.acyclic (requests_of i) g (plain-requests i.requests) (rows_few s room g run i read) a.run in
    let k : good_list first' ≡ true
    = ap good_list d.fixes.first_is ∙ fixed-good rules cms g.counter first (encoded g.i) (encoded g.last) d.fixes.accepts first w in
    let e = as_evaluation s first' m ws o o' h.0 h.1 i read (formed-by ws m first' least k good) a.shaped a.acyclic h.3 in
    let few = few-expressions s i read in
    let y = fixed_evaluates s room g run i read rules cms d.fixes.accepts (columns_differ in_n b p few bytes d.few differ) (alone_throughout in_n b p few bytes d.few (forest p) alone)
    m least ws good fed o fit (subst (λ (l : List ℕ). EvaluationIs s l m ws o o' e.0) d.fixes.first_is e.1) in
    record { number = h.2 ∙ sym (number_is e.1.2) ∙ zero_number e.0 (length y.values) y.says; values = y.values; bytes = y.bytes; before = y.fixed; first = y.first; each = y.each }
