-- Laws of running: one list after another, stores that agree but for later temporaries, one step at the end.
-- Assumes nothing.
use Rattle.std.specs.Prelude.{ℕ, ◌≤◌, ◌≡◌, refl, List, [], ◌∷◌, ◌++◌}
use Rattle.std.proofs.Common.{◌∙◌}
use Rattle.std.proofs.Math.Option.{Option, none, some}
use Rattle.meaning.specs.Steps.{Cell, place, Ref, StepOp, Step, step}
use Rattle.meaning.specs.Values.{Algebra, Given, bind}
use Rattle.meaning.specs.Running.{Store, write, read, computes, exec, run}
use Rattle.meaning.proofs.Laws.Cells.{Under, under-le, Below}

-- two stores agree but for temporaries from t on
pub record Agree {A : Type 0} (t : ℕ) (s s' : Store A) : Type 0 where
  pub kept : (c : Cell) → Under c t → s' c ≡ s c

pub agree_refl : {A : Type 0} (t : ℕ) (s : Store A) → Agree t s s
agree_refl t s = record { kept = λ c h. refl }

pub agree_trans : {A : Type 0} {t u : ℕ} {s s' s'' : Store A} → t ≤ u → Agree t s s' → Agree u s' s'' → Agree t s s''
agree_trans l a b = record { kept = λ c h. b.kept c (under-le l h) ∙ a.kept c h }

module _ (𝓐 : Algebra) (G : Given 𝓐.A) where
  pub read-agree : {t : ℕ} {s s' : Store 𝓐.A} (r : Ref) → Below r t → Agree t s s' → read 𝓐 G s' r ≡ read 𝓐 G s r
  read-agree (Ref.var c) h a = rw (a.kept (place c) h)
  read-agree (Ref.number l n) h a = refl

  pub run-append : (xs ys : List Step) (s : Store 𝓐.A) → run 𝓐 G (xs ++ ys) s ≡ bind (run 𝓐 G xs s) (run 𝓐 G ys)
  run-append [] ys s = refl
  run-append (x ∷ xs) ys s = go (run-append xs ys) (exec 𝓐 G x s)
    where
      go :
          ((s' : Store 𝓐.A) → run 𝓐 G (xs ++ ys) s' ≡ bind (run 𝓐 G xs s') (run 𝓐 G ys)) →
          (o : Option (Store 𝓐.A)) →
          bind o (λ s'. run 𝓐 G (xs ++ ys) s') ≡ bind (bind o (λ s'. run 𝓐 G xs s')) (run 𝓐 G ys)
      go ih none = refl
      go ih (some s') = ih s'

  pub run-then : (xs ys : List Step) (s : Store 𝓐.A) {s' s'' : Store 𝓐.A} → run 𝓐 G xs s ≡ some s' → run 𝓐 G ys s' ≡ some s'' → run 𝓐 G (xs ++ ys) s ≡ some s''
  run-then xs ys s p q = run-append xs ys s ∙ rw p q

  -- one step more
  pub run-last :
      (xs : List Step) (o : StepOp) (d : Ref) (rs : List Ref) (s : Store 𝓐.A) {mid s' : Store 𝓐.A} {v : 𝓐.A} →
      run 𝓐 G xs s ≡ some mid → computes 𝓐 G mid o rs ≡ some v → write mid d v ≡ some s' →
      run 𝓐 G (xs ++ (step o d rs ∷ [])) s ≡ some s'
  run-last xs o d rs s p q w = run-then xs (step o d rs ∷ []) s p (rw (q, w))
