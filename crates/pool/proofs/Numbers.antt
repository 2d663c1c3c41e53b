-- From what was read and admitted to the number.
-- Assumes nothing.
use Prim.Native.Nat.{ℕ}
use mathlib.Core.Path.{◌≡◌, refl, sym, ◌∙◌, ap, subst}
use mathlib.Core.Option.{Option}
use mathlib.Core.List.{List, []}
use Rattle.kinds.specs.Answers.{answer_of}
use Rattle.meaning.specs.Refusals.{Refusal, number, Answer, done, refused, answer_no}
use Rattle.meaning.proofs.Laws.Tests.{done-same, done-not-refused}
use Rattle.frames.specs.Order.{Input}
use Rattle.frames.specs.Tables.{input_in}
use Rattle.frames.specs.Tables as frames
use Rattle.frames.specs.Reading.{frames_in, reading, held, Reads}
use Rattle.frames.specs.Exactly.{read_as}
use Rattle.frames.specs.Text.{text_frames, reading_text, FillsText}
use Rattle.frames.specs.TextLaws.{text_as}
use Rattle.frames.specs.Limits.{held-within}
use Rattle.frames.specs.declared.count.Counts.{Counts}
use Rattle.std.specs.Prelude.{Result, Ok, Err}
use Rattle.kinds.specs.declared.refusal.Refused.{Refused}
use Rattle.pool.specs.Pool.{Pool}
use Rattle.pool.specs.Tabled.{tabled}
use Rattle.pool.specs.Ranking.{Tabling}
use Rattle.pool.specs.Admitting.{Fits, Admits, verdict_says}
use Rattle.pool.specs.Verdict.{Verdict}
use Rattle.pool.specs.Numbered.{pool_of, NumberedBy, Answered}

-- a refusal while reading is the number
pub refused-number : {x : Answer Input} {k : Refusal} {b : Option ℕ} → refused k b ≡ x → NumberedBy x (number k)
refused-number {x} {k} {b} h = record {
  unread = λ k' b' q. let e : k ≡ k' = same (h ∙ q) in ap number e;
  judged = λ i q. absurd (done-not-refused (sym q ∙ sym h));
}
  where
    same : {k k' : Refusal} {b b' : Option ℕ} → ◌≡◌ {A = Answer Input} (refused k b) (refused k' b') → k ≡ k'
    same e = cc

pub of-slice : {t u : frames.Tables} {s : List ℕ} {r : Result Counts Refused} → Reads t s r u → Answered u r (reading s)
of-slice {s = s} h = record { given = frames_in s; read = read_as s; answer = h.answer }

pub of-text : {u : frames.Tables} {t : List ℕ} {r : Result Counts Refused} → FillsText t r u → Answered u r (reading_text t)
of-text {t = t} h = record { given = text_frames t; read = text_as t; answer = h.answer }

module _ {u : frames.Tables} {x : Answer Input} {r : Result Counts Refused} (a : Answered u r x) where
  module _ {c : Counts} (q : r ≡ Ok c) where
    read_is : done (input_in u c) ≡ x
    read_is = ap (held u) (sym q) ∙ a.answer

    pub read_fits : Fits [] c.nodes c.expressions
    read_fits =
        let w = held-within a.given u c (read_is ∙ a.read) in
        record { nodes = w.nodes; expressions = w.expressions; tabulated = λ v m. absurd m }

    pool-is : pool_of (input_in u c) ≡ tabled (Tabling u.nodes u.literals u.expressions c.nodes c.expressions)
    unfolding input_in tabled
    pool-is = refl

    -- the verdict's number is the number
    pub judged-number : {v : Result (List ℕ) Refused} → Admits (Tabling u.nodes u.literals u.expressions c.nodes c.expressions) [] v → NumberedBy x (answer_no (answer_of v))
    judged-number {v} d = record {
      unread = λ k b h. absurd (done-not-refused (read_is ∙ h));
      judged = λ i h.
          let z : input_in u c ≡ i = done-same _ _ (read_is ∙ h) in
          (verdict_says v, subst (λ (p : Pool). Verdict p [] (verdict_says v)) (sym pool-is ∙ ap pool_of z) d.judged, same v);
    }
      where
        same : (v : Result (List ℕ) Refused) → answer_no (answer_of v) ≡ answer_no (verdict_says v)
        same (Ok s) = refl
        same (Err f) = refl
