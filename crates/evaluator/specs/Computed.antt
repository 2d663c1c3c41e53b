-- WHAT THE EVALUATOR ANSWERS OF A GENERATED LIST: where the whole run of some frames is accepted with its first list, and every leaf's value is given, the
-- evaluator, called with those frames and the bytes of that list, answers for each requested cell the expression's value modulo m. Assumes nothing.
use Rattle.std.specs.Prelude.{ℕ, ◌*◌, ◌<◌, ◌≤◌, ◌≡◌, refl, true, List, [], length}
use Rattle.std.proofs.Common.{sym, ◌∙◌, ap, subst, arith, le-leb}
use Rattle.std.proofs.Math.Option.{some, none-ne-some}
use Rattle.kinds.specs.Write.{write}
use Rattle.meaning.specs.Refusals.{Answer, done, refused, answer_no, ◌then◌}
use Rattle.meaning.specs.Trees.{Acyclic, Each, Member}
use Rattle.meaning.specs.Values.{value}
use Rattle.meaning.specs.Models.{modulo}
use Rattle.meaning.specs.Steps.{exp_cell}
use Rattle.meaning.specs.Running.{empty}
use Rattle.meaning.specs.Generation.{Request, start, serve_all}
use Rattle.meaning.specs.Building.{Segment, whole}
use Rattle.meaning.specs.Demand3.{NoResult, Throughout, Fed, Computes, ValueFor, HeldFor}
use Rattle.meaning.proofs.Proved.{demand3-fed}
use Rattle.meaning.proofs.Laws.Tests.{then-done, done-same, number-not-zero, each_both}
use Rattle.frames.specs.Order.{Input, nothing, node_limit, counts_of}
use Rattle.frames.specs.Reading.{frames_in, read_from, reading}
use Rattle.frames.specs.Exactly.{read_as}
use Rattle.frames.specs.Limits.{within_all}
use Rattle.frames.specs.Ranges.{ranged-all}
use Rattle.pool.specs.Pool.{Pool}
use Rattle.pool.specs.Trees.{forest}
use Rattle.pool.specs.Shaped.{Shaped}
use Rattle.pool.specs.Verdict.{Verdict}
use Rattle.pool.specs.Exactly as pool
use Rattle.pool.specs.Numbered.{pool_of}
use Rattle.starkinfo_codegen.specs.Encoding.{encoded}
use Rattle.requests.specs.Runs.{requests_of, BytesRun}
use Rattle.requests.specs.Serving.{plain-requests, accepted}
use Rattle.requests.specs.Exactly.{rows-low}
use Rattle.output.specs.Shown.{StepSays}
use Rattle.output.specs.Whole.{whole_says}
use Rattle.evaluator_cells.specs.Keyed.{valued_size}
use Rattle.evaluator_cells.specs.Given.{lent, given, good_values}
use Rattle.evaluator_cells.specs.Literals.{brought_at}
use Rattle.lists.specs.Records.{good_list}
use Rattle.evaluator_run.specs.Evaluation.{written, Valued, valued_by, values_bytes, well_formed, ruling, out_after}
use Rattle.evaluator.specs.Answer.{Evaluation, answer_says, EvaluationIs}
use Rattle.evaluator.specs.Exactly.{fits}
use Rattle.evaluator.specs.Laws.ReadBack.{list_back, list-good}
use Rattle.evaluator.specs.Laws.Rows.{first_in, first-few}
use Rattle.evaluator.specs.Laws.Written.{run_covers, valued-member, written-few}

-- ── the statement ────────────────────────────────────────────────────────────
-- the cell of a request stands among the values answered, with the value of its expression at its row
abbrev pub AnsweredFor : Pool → ℕ → List ℕ → List Valued → Request → Type 0
AnsweredFor p m ws vs q =
    (v : ℕ) × (value (modulo m) (given m (lent ws)) (forest p) q.expression q.row ≡ some v)
    × Member {A = Valued} (record { cell = exp_cell q.expression q.row; value = v }) vs

-- r is the answer with these values, which stand at the front of the room, and they have each requested cell's
pub record AnswersAll (i : Input) (m : ℕ) (ws out out' : List ℕ) (r : Evaluation) : Type 0 where
  pub values : List Valued
  pub says : answer_says r ≡ done (length values)
  pub bytes : out' ≡ write out 0 (values_bytes values)
  pub each : Each (AnsweredFor (pool_of i) m ws values) (requests_of i)

-- ── the proof ────────────────────────────────────────────────────────────────
-- of a pool and accepted requests, plain or primed, none of which asks for a result
module _ (p : Pool) (shaped : Shaped p) (few : length p.nodes ≤ node_limit) (acyclic : Acyclic (forest p)) (qs : List Request) (g : Segment) (plain : Each NoResult qs) (in_rows : Each (λ q. q.row < 2) qs) (e : whole 2 (forest p) qs ≡ done g) where
  pub says : Each (StepSays p) g.first
  says = whole_says p shaped 2 qs g e

  pub well_formed_lem : good_list (encoded g.first) ≡ true
  well_formed_lem = list-good p g.first says (first_in (forest p) qs g plain in_rows e)

  module _ (m : ℕ) (ws : List ℕ) (fed : Throughout (Fed 2 (given m (lent ws))) (forest p)) where
    computes : Computes (modulo m) (given m (lent ws)) (forest p) g.first qs
    computes =
        let y = then-done (serve_all 2 (forest p) qs start) _ e in
        subst (λ (z : Segment). Computes (modulo m) (given m (lent ws)) (forest p) z.first qs) (done-same _ _ y.2)
        (demand3-fed (modulo m) 2 (given m (lent ws)) (forest p) acyclic fed qs plain y.0 y.1)

    abbrev answered : List Valued
    answered = valued_by computes.end (written g.first)

    ruling_is : (room : ℕ) → valued_size * length g.first ≤ room → ruling (brought_at p) (lent ws) m (encoded g.first) room ≡ done answered
    ruling_is room fit =
        let n = written-few g.first [] in
        let l = first-few p shaped few acyclic qs g plain in_rows e in
        fits (brought_at p) (lent ws) m (encoded g.first) room g.first computes.end
        (record { steps = list_back p g.first says; runs = computes.runs }) (omega arith, omega arith)

    all_answered : Each (AnsweredFor p m ws answered) qs
    all_answered =
        let c = computes in
        each_both (HeldFor (modulo m) (given m (lent ws)) (forest p) c.end) (ValueFor (modulo m) (given m (lent ws)) (forest p) c.end) _
        (λ q h v. (
          h.0,
          sym v ∙ h.1,
          valued-member c.end (written g.first) (exp_cell q.expression q.row) h.0
              (run_covers (modulo m) (given m (lent ws)) g.first empty c.end [] (λ d u z. absurd (none-ne-some u z)) c.runs (exp_cell q.expression q.row) h.0 h.1)
              h.1,
        ))
        qs c.held c.values

formed : (ws : List ℕ) (m : ℕ) (list : List ℕ) → 2 ≤ m → good_list list ≡ true → good_values ws ≡ true → well_formed ws m list ≡ true
unfolding well_formed
formed ws m list a b c = rw (le-leb 2 m a, b, c)

-- a pool with its shape and without a cycle is admitted
admitted : (p : Pool) → Shaped p → Acyclic (forest p) → (v : Answer (Unit {0})) → Verdict p [] v → v ≡ done tt
admitted p s c v w = zero v ((pool.exactly_0 p v w).1 (s, c))
  where
    zero : (v : Answer (Unit {0})) → answer_no v ≡ 0 → v ≡ done tt
    zero (done u) e = refl
    zero (refused k o) e = absurd (number-not-zero k e)

-- FROM FRAMES: b their bytes, g the segment of their whole run
module _ (b : List ℕ) (list_room : ℕ) (g : Segment) (run : BytesRun b list_room (done g)) (i : Input) (read : reading b ≡ done i) where
  from : read_from nothing (frames_in b) ≡ done i
  from = sym (read_as b) ∙ read

  pub few-nodes : length i.nodes ≤ node_limit
  unfolding counts_of
  few-nodes = (within_all (frames_in b) i from).nodes

  pub rows_few : Each (λ (q : Request). q.row < 2) (requests_of i)
  rows_few = rows-low i.requests (ranged-all (frames_in b) i from).requests

  -- called with a list that is well formed and that computes these values, it answers them
  pub computed-answers :
      (m : ℕ) → 2 ≤ m → (ws : List ℕ) → good_values ws ≡ true → (list : List ℕ) → good_list list ≡ true → (out : List ℕ) (vs : List Valued)
      → ruling (brought_at (pool_of i)) (lent ws) m list (length out) ≡ done vs → {out' : List ℕ} {r : Evaluation} → EvaluationIs b list m ws out out' r
      → (answer_says r ≡ done (length vs)) × (out' ≡ write out 0 (values_bytes vs))
  computed-answers m least ws good list w out vs e h =
      let p = pool_of i in
      let a = accepted p (requests_of i) list_room g (run.judged i read) in
      let j = h.1.judged i read (formed ws m list least w good) in
      let v = admitted p a.shaped a.acyclic j.0 j.1 in
      let z : h.0 ≡ done vs = j.2 ∙ ap (λ (x : Answer (Unit {0})). x then λ _. ruling (brought_at p) (lent ws) m list (length out)) v ∙ e in
      (h.2.says ∙ ap (λ (x : Answer (List Valued)). x then λ us. done (length us)) z, h.2.bytes ∙ ap (out_after out) z)

  pub first_evaluates :
      (m : ℕ) → 2 ≤ m → (ws : List ℕ) → good_values ws ≡ true → Throughout (Fed 2 (given m (lent ws))) (forest (pool_of i))
      → (out : List ℕ) → valued_size * length g.first ≤ length out
      → {out' : List ℕ} {r : Evaluation} → EvaluationIs b (encoded g.first) m ws out out' r → AnswersAll i m ws out out' r
  first_evaluates m least ws good fed out fit h =
      let p = pool_of i in
      let qs = requests_of i in
      let a = accepted p qs list_room g (run.judged i read) in
      let plain = plain-requests i.requests in
      let w = well_formed_lem p a.shaped few-nodes a.acyclic qs g plain rows_few a.run in
      let e = ruling_is p a.shaped few-nodes a.acyclic qs g plain rows_few a.run m ws fed (length out) fit in
      let k = computed-answers m least ws good (encoded g.first) w out _ e h in
      record { values = _; says = k.0; bytes = k.1; each = all_answered p a.shaped few-nodes a.acyclic qs g plain rows_few a.run m ws fed }
