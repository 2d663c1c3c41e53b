-- ONLY ONE OUTCOME FITS what is promised of the constraint polynomial: what is told, and everything lent after it.
-- Assumes nothing.
use Rattle.std.specs.Prelude.{ℕ, ◌≡◌, refl, Bool, true, false, List, [], length, Result}
use Rattle.std.proofs.Common.{sym, ◌∙◌, ap}
use Rattle.meaning.specs.Refusals.{Answer, done, refused, ◌then◌}
use Rattle.meaning.proofs.Laws.Tests.{true-false}
use Rattle.kinds.specs.declared.refusal.Refused.{Refused}
use Rattle.frames.specs.Order.{Input}
use Rattle.frames.specs.Reading.{reading}
use Rattle.pool.specs.Pool.{Pool}
use Rattle.pool.specs.Verdict.{Verdict}
use Rattle.pool.specs.Exactly.{one_answer}
use Rattle.pool.specs.Numbered.{pool_of}
use Rattle.context.specs.Context as context
use Rattle.context.specs.Context.{Exactly}
use Rattle.constraint_meaning.specs.Constraint.{Asked}
use Rattle.constraint_build.specs.Both.{Lent}
use Rattle.starkinfo_cp_prover.specs.Polynomial.{Polynomial, generating, OrMalformed, Answers, Runs, generated_says, told_of, GeneratedIs}
use Rattle.starkinfo_cp_prover.specs.declared.answer.Generated.{Generated}

-- two tests of one thing agree
one-test : (g h : Bool) {P : Type 0} → Exactly g P → Exactly h P → g ≡ h
one-test true h x y = sym (y.1 (x.0 refl))
one-test false true x y = x.1 (y.0 refl)
one-test false false x y = refl

module _ (p : Pool) (a : Asked) (u v : Lent) (room : ℕ) where
  abbrev Last : Answer Polynomial → Type 0
  Last z = (y : Answer (Unit {0})) × Verdict p [] y × (z ≡ (y then λ _. generating p a u v room))

  abbrev Second : Answer Polynomial → Type 0
  Second z = (h : Bool) × Exactly h (context.Good v.context (length p.expressions) (length v.list)) × OrMalformed h z (Last z)

  module _ (y z : Answer Polynomial) where
    last : Last y → Last z → y ≡ z
    last s t = s.2 ∙ ap (λ w. w then λ _. generating p a u v room) (one_answer p [] s.0 t.0 s.1 t.1) ∙ sym t.2

    one : (g h : Bool) → g ≡ h → (A B : Type 0) → (A → B → y ≡ z) → OrMalformed g y A → OrMalformed h z B → y ≡ z
    one true true e A B f s t = f s t
    one true false e A B f s t = absurd (true-false refl e)
    one false true e A B f s t = absurd (true-false e refl)
    one false false e A B f s t = s ∙ sym t

    second : Second y → Second z → y ≡ z
    second s t = one s.0 t.0 (one-test s.0 t.0 s.1 t.1) (Last y) (Last z) last s.2 t.2

    pub one-answers : Answers p a u v room y → Answers p a u v room z → y ≡ z
    one-answers s t = one s.0 t.0 (one-test s.0 t.0 s.1 t.1) (Second y) (Second z) second s.2 t.2

pub one-run : (x : Answer Input) (a : Asked) (u v : Lent) (room : ℕ) (y z : Answer Polynomial) → Runs x a u v room y → Runs x a u v room z → y ≡ z
one-run (done i) a u v room y z s t = one-answers (pool_of i) a u v room y z (s.judged i refl) (t.judged i refl)
one-run (refused k o) a u v room y z s t = s.unread k o refl ∙ sym (t.unread k o refl)

-- WHAT IS TOLD is one, and what stands after it is said by one answer
pub one-generated :
    {s : List ℕ} {a : Asked} {u v : Lent} {out w : List ℕ} {u₁ v₁ u₂ v₂ : Lent} {o₁ w₁ o₂ w₂ : List ℕ} {r₁ r₂ : Result Generated Refused} →
    (g : GeneratedIs s a u v out w u₁ v₁ o₁ w₁ r₁) (h : GeneratedIs s a u v out w u₂ v₂ o₂ w₂ r₂) → (generated_says r₁ ≡ generated_says r₂) × (g.answer ≡ h.answer)
one-generated {s} {a} {u} {v} {out} g h =
    let e : g.answer ≡ h.answer = one-run (reading s) a u v (length out) g.answer h.answer g.runs h.runs in
    (g.tells.says ∙ ap (λ z. z then λ y. done (told_of y)) e ∙ sym h.tells.says, e)
