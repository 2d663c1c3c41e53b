-- From a text that was read to its end to the answer and its lines. No word of the code.
-- Assumes nothing.
use Prim.Native.Nat.{ℕ}
use mathlib.Core.Path.{◌≡◌, refl, sym, ◌∙◌, ap, subst}
use mathlib.Core.Option.{Option}
use mathlib.Core.List.{List}
use lib.ListN.{length}
use Rattle.meaning.specs.Refusals.{Refusal, Answer, done, refused, ◌then◌}
use Rattle.meaning.specs.Trees.{Each}
use Rattle.meaning.specs.Building.{Segment}
use Rattle.meaning.proofs.Laws.Tests.{done-not-refused}
use Rattle.std.specs.Prelude.{Result, Ok, Err}
use Rattle.kinds.specs.declared.refusal.Refused.{Refused}
use Rattle.frames.specs.Tables.{Tables, input_in}
use Rattle.frames.specs.Reading.{held}
use Rattle.frames.specs.Text.{reading_text}
use Rattle.frames.specs.declared.count.Counts.{Counts}
use Rattle.pool.specs.Pool.{Pool}
use Rattle.pool.specs.Tabled.{tabled}
use Rattle.pool.specs.Numbered as numbered
use Rattle.starkinfo_codegen.specs.Encoding.{records}
use Rattle.starkinfo_codegen.specs.Emitting.{Rest, pool_of}
use Rattle.requests.specs.Whole.{Answers, totals, WholeGiven}
use Rattle.requests.specs.Runs.{requests_of, Runs, Outcome, outcome_says, RunIs}
use Rattle.requests.specs.Reads.{ReadInto, whole-asked, refused-run, ran-run}
use Rattle.requests.specs.Serving.{accepted}
use Rattle.output.specs.Output.{list_lines}
use Rattle.output.specs.Records.{record_lines}
use Rattle.output.specs.Shown.{StepSays, list-shown}
use Rattle.output.specs.Whole.{whole_says}
use Rattle.transcript.specs.Concluding.{Concluded}

-- where a refusal is said, the answer is no segment
unsaid : (t : List ℕ) {l l' : List ℕ} {r : Outcome} (h : RunIs (reading_text t) l l' r) {k : Refusal} {o : Option ℕ} → outcome_says r ≡ refused k o → (s : Segment) → h.answer ≡ done s → ⊥
unsaid t h q s e = done-not-refused (sym (h.says ∙ ap (λ (z : Answer Segment). z then λ y. done (totals y)) e) ∙ q)

module _ (t : List ℕ) {u : Tables} {r : Result Counts Refused} (a : ReadInto u r (reading_text t)) where
  pub unread : {f : Refused} → r ≡ Err f → (l : List ℕ) → Concluded t l l (Err f) u
  unread q l = record { run = refused-run a q l; lines = λ s e. absurd (unsaid t (refused-run a q l) refl s e) }

  module _ {c : Counts} (q : r ≡ Ok c) where
    abbrev rest : Rest
    rest = record { literals = u.literals; expressions = u.expressions; node_count = c.nodes; expression_count = c.expressions }

    same-pool : numbered.pool_of (input_in u c) ≡ pool_of u.nodes rest
    unfolding input_in tabled
    same-pool = refl

    shown : (room : ℕ) (z : Answer Segment) → Runs (reading_text t) room z → (s : Segment) → z ≡ done s → record_lines u.nodes u.literals (records s.first) ≡ list_lines s.first
    shown room z h s e =
        let i = input_in u c in
        let k = accepted (numbered.pool_of i) (requests_of i) room s (subst (Answers (numbered.pool_of i) (requests_of i) room) e (h.judged i (sym (ap (held u) (sym q) ∙ a.answer)))) in
        list-shown u.nodes rest (whole-asked a q).nodes s.first
        (subst (λ (p : Pool). Each (StepSays p) s.first) same-pool (whole_says (numbered.pool_of i) k.shaped 2 (requests_of i) s k.run))

    pub ran : (l l' : List ℕ) (g : Outcome) → WholeGiven u.nodes u.expressions u.requests l l' c g → Concluded t l l' g u
    ran l l' g h = let k = ran-run a q l l' g h in record { run = k; lines = shown (length l) k.answer k.runs }
