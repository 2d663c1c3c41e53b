-- Laws of verdicts: which of two goes on, and what a number says.
-- Assumes nothing.
use Rattle.std.specs.Prelude.{◌≡◌, refl}
use Rattle.std.proofs.Common.{arith}
use Rattle.lent_lists.specs.Verdicts.{Verdict, fine, malformed, not_there, no_rule, full, verdict_no, first_of}

pub goes_on : (v w : Verdict) → verdict_no v ≡ 0 → first_of v w ≡ w
goes_on fine w h = refl
goes_on malformed w h = absurd (omega arith)
goes_on not_there w h = absurd (omega arith)
goes_on no_rule w h = absurd (omega arith)
goes_on full w h = absurd (omega arith)

pub stops : (v w : Verdict) → (verdict_no v ≡ 0 → ⊥) → first_of v w ≡ v
stops fine w h = absurd (h refl)
stops malformed w h = refl
stops not_there w h = refl
stops no_rule w h = refl
stops full w h = refl

pub no-refusal : (v : Verdict) → verdict_no v ≡ 0 → v ≡ fine
no-refusal fine h = refl
no-refusal malformed h = absurd (omega arith)
no-refusal not_there h = absurd (omega arith)
no-refusal no_rule h = absurd (omega arith)
no-refusal full h = absurd (omega arith)

pub first-append : (u v w : Verdict) → first_of (first_of u v) w ≡ first_of u (first_of v w)
first-append fine v w = refl
first-append malformed v w = refl
first-append not_there v w = refl
first-append no_rule v w = refl
first-append full v w = refl

pub first_fine : (v : Verdict) → first_of v fine ≡ v
first_fine fine = refl
first_fine malformed = refl
first_fine not_there = refl
first_fine no_rule = refl
first_fine full = refl
