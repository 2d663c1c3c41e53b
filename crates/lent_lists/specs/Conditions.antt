-- WHICH RECORD OF A SEGMENT A WALK REFUSES, as a person would state it: the first that is not fine, by its step or by a reference of it.
-- Assumes nothing: these are definitions.
use Rattle.std.specs.Prelude.{◌≤◌, ◌≡◌, true, List, [], ◌∷◌, ◌++◌, ◌⊎◌}
use Rattle.kinds.specs.StepOps.{is_step, sources_needed}
use Rattle.kinds.specs.declared.reference.Reference.{Reference}
use Rattle.kinds.specs.declared.step.Step.{Step}
use Rattle.meaning.specs.Trees.{Each}
use Rattle.lists.specs.Records.{counted_in}

-- the first of a list that is not fine meets the condition
pub record First {A : Type 0} (fine meets : A → Type 0) (xs : List A) : Type 0 where
  pub before : List A
  pub this : A
  pub after : List A
  pub splits : xs ≡ before ++ (this ∷ after)
  pub fine_before : Each fine before
  pub it_meets : meets this

-- the references of a record: its sources from left to right, then its destination
abbrev pub references_of : Step → List Reference
references_of x = counted_in x ++ (x.dest ∷ [])

-- the step byte is known, with sources enough
abbrev pub HasStep : Step → Type 0
HasStep x = (is_step x.op ≡ true) × (sources_needed x.op ≤ x.count)

abbrev pub NoStep : Step → Type 0
NoStep x = HasStep x → ⊥

-- by which references are fine
module _ (Ruled : Reference → Type 0) where
  abbrev pub RecordRuled : Step → Type 0
  RecordRuled x = HasStep x × Each Ruled (references_of x)

  -- there is a step, and the first of the references that is not fine meets a condition
  abbrev pub ByReference : (Reference → Type 0) → Step → Type 0
  ByReference meets x = HasStep x × First Ruled meets (references_of x)

  -- 10: no such step, or a reference without a rule
  abbrev pub RecordNoRule : (Reference → Type 0) → Step → Type 0
  RecordNoRule NoRule x = NoStep x ⊎ ByReference NoRule x
