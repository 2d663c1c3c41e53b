-- No two of the code's refusals say the same, and no two answers that have no node to blame; and what a `?` passes on.
-- Assumes nothing.
use Rattle.std.specs.Prelude.{ℕ, ◌≡◌, refl, cond, eqb, Option, Some, None, Result, Ok, Err}
use Rattle.std.proofs.Common.{sym, ◌∙◌, ap, arith}
use Rattle.std.specs.Option.{ok_or}
use Rattle.std.specs.Result.{IsErrAnd}
use Rattle.meaning.specs.Refusals as spec
use Rattle.kinds.specs.Answers.{refusal_of, plain_answer_of}
use Rattle.kinds.specs.declared.refusal.Refusal.{Refusal}
use Rattle.kinds.specs.declared.refusal.Refusal.TheVariants as refusal

-- the refusal of a number
abbrev numbered : ℕ → Refusal
numbered n =
    cond (eqb n 1) refusal.Malformed
    (cond (eqb n 2) refusal.ChildCount
    (cond (eqb n 3) refusal.NotThere
    (cond (eqb n 4) refusal.Cycle
    (cond (eqb n 5) refusal.DoublePrime
    (cond (eqb n 6) refusal.SearchKind
    (cond (eqb n 7) refusal.NoPrimedMark
    (cond (eqb n 8) refusal.NoBlock
    (cond (eqb n 9) refusal.Full
    (cond (eqb n 10) refusal.NoRule
    (cond (eqb n 11) refusal.Counts
    (cond (eqb n 12) refusal.NoDimension
    (cond (eqb n 13) refusal.NoSet
    (cond (eqb n 14) refusal.NoQuotient
    (cond (eqb n 15) refusal.Visits
    (cond (eqb n 16) refusal.Bits refusal.NoIdentity)))))))))))))))

back : (r : Refusal) → numbered (spec.number (refusal_of r)) ≡ r
back refusal.Malformed = refl
back refusal.ChildCount = refl
back refusal.NotThere = refl
back refusal.Cycle = refl
back refusal.DoublePrime = refl
back refusal.SearchKind = refl
back refusal.NoPrimedMark = refl
back refusal.NoBlock = refl
back refusal.Full = refl
back refusal.NoRule = refl
back refusal.Counts = refl
back refusal.NoDimension = refl
back refusal.NoSet = refl
back refusal.NoQuotient = refl
back refusal.Visits = refl
back refusal.Bits = refl
back refusal.NoIdentity = refl

pub refusal_same : (r q : Refusal) → spec.number (refusal_of r) ≡ spec.number (refusal_of q) → r ≡ q
refusal_same r q e = sym (back r) ∙ ap numbered e ∙ back q

-- a refusal's number is not 0
pub refusal-some : (r : spec.Refusal) → spec.number r ≡ 0 → ⊥
refusal-some spec.malformed e = omega (arith, e)
refusal-some spec.child_count e = omega (arith, e)
refusal-some spec.not_there e = omega (arith, e)
refusal-some spec.cycle e = omega (arith, e)
refusal-some spec.double_prime e = omega (arith, e)
refusal-some spec.search_kind e = omega (arith, e)
refusal-some spec.no_primed_mark e = omega (arith, e)
refusal-some spec.no_block e = omega (arith, e)
refusal-some spec.full e = omega (arith, e)
refusal-some spec.no_rule e = omega (arith, e)
refusal-some spec.counts e = omega (arith, e)
refusal-some spec.no_dimension e = omega (arith, e)
refusal-some spec.no_set e = omega (arith, e)
refusal-some spec.no_quotient e = omega (arith, e)
refusal-some spec.visits e = omega (arith, e)
refusal-some spec.bits e = omega (arith, e)
refusal-some spec.no_identity e = omega (arith, e)

-- by its number, where there is no value
pub plain_same : (r q : Result Unit Refusal) → spec.answer_no (plain_answer_of r) ≡ spec.answer_no (plain_answer_of q) → r ≡ q
plain_same (Ok a) (Ok b) e = refl
plain_same (Ok a) (Err q) e = absurd (refusal-some (refusal_of q) (sym e))
plain_same (Err r) (Ok b) e = absurd (refusal-some (refusal_of r) e)
plain_same (Err r) (Err q) e = ap Err (refusal_same r q e)

-- the exit of a `?`, where the error is converted to x
pub passed-on : {A E : Type 0} {r : Result A E} (x : E) → IsErrAnd r (λ y. y ≡ x) → r ≡ Err x
passed-on {r = Ok a} x h = absurd h
passed-on {r = Err y} x h = ap Err h

-- the error that `ok_or` gives
pub or-error : {T E : Type 0} (o : Option T) (w x : E) → Err x ≡ ok_or o w → x ≡ w
or-error (Some y) w x e = absurd (let z : ◌≡◌ {A = ℕ} 0 1 = cc in omega arith)
or-error None w x e = cc
