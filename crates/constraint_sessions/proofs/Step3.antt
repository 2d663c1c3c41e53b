-- STEP3 OVER A CONTEXT THAT HOLDS ONE OF `meaning`: refused alike, done alike, and what was written stands for it.
-- Assumes nothing.
use Rattle.std.specs.Prelude.{ℕ, ◌≤◌, ◌≡◌, List, length}
use Rattle.std.proofs.Common.{sym, ◌∙◌, ap, subst}
use Rattle.std.proofs.Math.Option.{Option}
use Rattle.meaning.specs.Refusals.{Refusal, Answer, done, refused, ◌then◌}
use Rattle.meaning.specs.Trees.{Forest}
use Rattle.meaning.specs.Generation.{State, serve_all}
use Rattle.frames.specs.Order.{expression_limit}
use Rattle.context.specs.Context.{context_size}
use Rattle.codegen.specs.Said.{Said, said, said_of}
use Rattle.codegen.specs.Building.{Lists}
use Rattle.codegen.specs.Sessions.{Holds}
use Rattle.constraint_meaning.specs.Constraint.{Built, built_from, plain_requests, step3}
use Rattle.constraint_lists.specs.Lists.{step3_said, Written}
use Rattle.constraint_sessions.specs.Bounds.{served-bounded}
use Rattle.constraint_sessions.specs.Stood.{Stood, of-done, of-refused, written_stood, said3}

module _ (E : Forest) (small : length E ≤ expression_limit) (x l : List ℕ) (size : length x ≡ context_size) where
  module _ (st : State) (holds : Holds x l st) (members : List ℕ) where
    pub step3-refused : (k : Refusal) (i : Option ℕ) → step3_said E members (said x l) ≡ refused k i → step3 2 E members st ≡ refused k i
    step3-refused k i h =
        ap (λ (z : Answer State). z then λ u. done (built_from 2 E u)) (of-refused said_of (serve_all 2 E (plain_requests members) st) k i (sym (said3 E small x l size st holds members) ∙ h))

    -- before anything is written
    pub step3-done : (s : Said) → step3_said E members (said x l) ≡ done s → (b : Built) × (step3 2 E members st ≡ done b)
    step3-done s h =
        let z = of-done said_of (serve_all 2 E (plain_requests members) st) s (sym (said3 E small x l size st holds members) ∙ h) in
        (built_from 2 E z.0, ap (λ (y : Answer State). y then λ u. done (built_from 2 E u)) z.1)

    pub step3_stood :
        (s : Said) → step3_said E members (said x l) ≡ done s → (o : Lists) (x' l' : List ℕ) (o' : Lists) → Written E x l o s x' l' o' →
        (b : Built) × (step3 2 E members st ≡ done b) × Stood o b x' l' o'
    step3_stood s h o x' l' o' w =
        let z = of-done said_of (serve_all 2 E (plain_requests members) st) s (sym (said3 E small x l size st holds members) ∙ h) in (
          built_from 2 E z.0,
          ap (λ (y : Answer State). y then λ u. done (built_from 2 E u)) z.1,
          written_stood E small x l size z.0 o x' l' o' (served-bounded E small members st z.0 holds.bounded z.1) (subst (λ (u : Said). Written E x l o u x' l' o') (sym z.2) w),
        )
