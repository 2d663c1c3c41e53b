-- Examples of the dimension pass, as rows of a table that one statement proves: sources and destinations as document 01 and the Rust give them their dimensions.
-- Assumes nothing.
use Rattle.std.specs.Prelude.{ℕ, ◌≡◌, refl, List, [], ◌∷◌}
use Rattle.std.proofs.Math.Option.{none}
use Rattle.kinds.specs.KindBytes as kind
use Rattle.kinds.specs.OpBytes as op
use Rattle.kinds.specs.Range.{within}
use Rattle.kinds.specs.StepOps.{sources_needed}
use Rattle.kinds.specs.References.{plain_ref, blank_ref}
use Rattle.kinds.specs.declared.reference.Reference.{Reference}
use Rattle.kinds.specs.declared.step.Step.{Step}
use Rattle.meaning.specs.Refusals.{Refusal, Answer, done, refused, ◌then◌}
use Rattle.meaning.specs.Trees.{Each}
use Rattle.step_dimensions.specs.Rules.{rule_no, is_destination}
use Rattle.step_dimensions.specs.StepDimensions.{Given, through, source_dim, source_dims, largest, sized, step_with, noted, unwritten}
use Rattle.dimensions.specs.Dimensions.{passed}

abbrev step : ℕ → Reference → ℕ → Reference → Reference → Step
step o d n a b = record { op = o; count = n; origin = 0; dest = d; s0 = a; s1 = b; s2 = blank_ref }

-- records of dimensions 1, 3, 2; columns 0 and 1 at records 0 and 1; quotient 0 at record 2; x dimension 3
abbrev given : Given
given = record { record_dims = 1 ∷ 3 ∷ 2 ∷ []; cm2ns = 0 ∷ 1 ∷ 7 ∷ []; qs = 2 ∷ []; dim_x = 3 }

abbrev ref : ℕ → ℕ → Reference
ref k i = plain_ref k 0 i

-- the steps, and the same with their dimensions or the refusal
pub record Example : Type 0 where
  pub steps : List Step
  pub answer : Answer (List Step)

abbrev Right : Example → Type 0
Right x = (passed given unwritten x.steps then λ p. done p.records) ≡ x.answer

abbrev pub table : List Example
table =
    -- the largest of the sources; a temporary has what its last step gave it, whatever its prime
    record {
      steps = step op.mul (ref kind.tmp 5) 2 (ref kind.cm 0) (ref kind.cm 1) ∷ step op.copy (ref kind.exp 0) 1 (plain_ref kind.tmp 1 5) blank_ref ∷ [];
      answer =
          done
          (step op.mul (sized (ref kind.tmp 5) 3) 2 (sized (ref kind.cm 0) 1) (sized (ref kind.cm 1) 3)
          ∷ step op.copy (sized (ref kind.exp 0) 3) 1 (sized (plain_ref kind.tmp 1 5) 3) blank_ref
          ∷ []);
    }
    -- q reads record number qs[id]; a source beyond those that the step needs is left as it is
    ∷ record {
      steps = step op.copy (ref kind.f 0) 2 (ref kind.q 0) (ref kind.exp 9) ∷ [];
      answer = done (step op.copy (sized (ref kind.f 0) 2) 2 (sized (ref kind.q 0) 2) (ref kind.exp 9) ∷ []);
    }
    -- the x kinds take the pass's own; const and Zi 1
    ∷ record {
      steps = step op.add (ref kind.tmp_exp 0) 2 (ref kind.x 0) (ref kind.const 0) ∷ step op.add (ref kind.cm 0) 2 (ref kind.Zi 0) (ref kind.number 0) ∷ [];
      answer =
          done
          (step op.add (sized (ref kind.tmp_exp 0) 3) 2 (sized (ref kind.x 0) 3) (sized (ref kind.const 0) 1)
          ∷ step op.add (sized (ref kind.cm 0) 1) 2 (sized (ref kind.Zi 0) 1) (sized (ref kind.number 0) 1)
          ∷ []);
    }
    -- an unwritten temporary, a source exp, and a destination const have no rule
    ∷ record { steps = step op.copy (ref kind.exp 0) 1 (ref kind.tmp 5) blank_ref ∷ []; answer = refused Refusal.no_rule none }
    ∷ record { steps = step op.copy (ref kind.exp 0) 1 (ref kind.exp 1) blank_ref ∷ []; answer = refused Refusal.no_rule none }
    ∷ record { steps = step op.copy (ref kind.const 0) 1 (ref kind.cm 0) blank_ref ∷ []; answer = refused Refusal.no_rule none }
    -- a column whose record is not there; a tree of dimension 0
    ∷ record { steps = step op.copy (ref kind.exp 0) 1 (ref kind.cm 2) blank_ref ∷ []; answer = refused Refusal.not_there none }
    ∷ record { steps = step op.copy (ref kind.exp 0) 1 (ref kind.tree1 0) blank_ref ∷ []; answer = refused Refusal.no_dimension none }
    ∷ []

pub examples : Each Right table
unfolding passed step_with source_dims source_dim through largest noted rule_no is_destination sources_needed within
examples = (refl, (refl, (refl, (refl, (refl, (refl, (refl, (refl, tt))))))))
