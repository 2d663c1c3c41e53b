-- THE DIMENSIONS OF A STEP: document 01, "Sections, dimensions, fixing", over the record of a step.
-- Assumes nothing: these are definitions.
use Rattle.std.specs.Prelude.{ℕ, zero, suc, max, Bool, cond, List, [], ◌∷◌, length, get_or, set, replicate, eqb, ltb}
use Rattle.std.proofs.Math.Option.{none}
use Rattle.kinds.specs.KindBytes as kind
use Rattle.kinds.specs.StepOps.{sources_needed}
use Rattle.kinds.specs.declared.reference.Reference.{Reference}
use Rattle.kinds.specs.declared.step.Step.{Step}
use Rattle.meaning.specs.Refusals.{Refusal, Answer, done, refused, ◌then◌}
use Rattle.meaning.specs.Trees.{up_to}
use Rattle.step_dimensions.specs.Rules as rule
use Rattle.step_dimensions.specs.Rules.{rule_no, is_destination}

-- what a pass is given: the records' dimensions, the record numbers of the columns and of the quotients, and the dimension of the x kinds
pub record Given : Type 0 where
  pub record_dims : List ℕ
  pub cm2ns : List ℕ
  pub qs : List ℕ
  pub dim_x : ℕ

-- ---- a source

-- a dimension 0 is refused (12)
abbrev pub positive : ℕ → Answer ℕ
positive d = cond (eqb d 0) (refused Refusal.no_dimension none) (done d)

-- that of a temporary, 0 where no step wrote it (10)
abbrev pub written : ℕ → Answer ℕ
written d = cond (eqb d 0) (refused Refusal.no_rule none) (done d)

-- that of the record whose number stands at id; 3 where either is not there
unfoldable pub through : List ℕ → List ℕ → ℕ → Answer ℕ
through dims numbers id =
    cond (ltb id (length numbers))
    (cond (ltb (get_or numbers id 0) (length dims)) (positive (get_or dims (get_or numbers id 0) 0)) (refused Refusal.not_there none))
    (refused Refusal.not_there none)

-- the dimensions of the temporaries by number: 0 for one that no step of the segment has written
abbrev pub temporary_count : ℕ
temporary_count = 65536

abbrev pub unwritten : List ℕ
unwritten = replicate temporary_count 0

module _ (g : Given) where
  abbrev by_rule : List ℕ → Reference → ℕ → Answer ℕ
  by_rule ts r n =
      cond (eqb n rule.temporary) (written (get_or ts r.id 0))
      (cond (eqb n rule.own) (positive r.dim)
      (cond (eqb n rule.column) (through g.record_dims g.cm2ns r.id)
      (cond (eqb n rule.quotient) (through g.record_dims g.qs r.id)
      (cond (eqb n rule.one) (done 1)
      (cond (eqb n rule.three) (done 3)
      (cond (eqb n rule.x) (positive g.dim_x) (refused Refusal.no_rule none)))))))

  -- by its kind
  unfoldable pub source_dim : List ℕ → Reference → Answer ℕ
  source_dim ts r = by_rule ts r (rule_no r.kind)

  -- from left to right
  unfoldable pub source_dims : List ℕ → List Reference → Answer (List ℕ)
  source_dims ts [] = done []
  source_dims ts (r ∷ rs) = source_dim ts r then λ d. source_dims ts rs then λ ds. done (d ∷ ds)

-- ---- a step

unfoldable pub largest : List ℕ → ℕ
largest [] = 0
largest (d ∷ ds) = max d (largest ds)

abbrev pub sized : Reference → ℕ → Reference
sized r d = record { kind = r.kind; prime = r.prime; id = r.id; dim = d; p = r.p; tree_pos = r.tree_pos; extra = r.extra }

-- a source with its dimension, where the step needs it
abbrev pub sized_by : List ℕ → ℕ → Reference → Reference
sized_by [] k r = r
sized_by (d ∷ ds) zero r = sized r d
sized_by (d ∷ ds) (suc k) r = sized_by ds k r

-- each source that the step needs gets its own dimension, the destination the largest
abbrev pub sized_step : Step → List ℕ → Step
sized_step s ds =
    record {
      op = s.op;
      count = s.count;
      origin = s.origin;
      dest = sized s.dest (largest ds);
      s0 = sized_by ds 0 s.s0;
      s1 = sized_by ds 1 s.s1;
      s2 = sized_by ds 2 s.s2;
    }

-- an unknown step
abbrev pub unruled : Step → Bool
unruled s = eqb (sources_needed s.op) 0

-- a source that is not there has no rule
abbrev pub nothing : Reference
nothing = record { kind = 0; prime = 0; id = 0; dim = 0; p = 0; tree_pos = 0; extra = 0 }

abbrev pub met : Bool → Reference → Reference
met there r = cond there r nothing

-- the sources as a step meets them
abbrev pub sources_in : Step → List Reference
sources_in s = met (ltb 0 s.count) s.s0 ∷ met (ltb 1 s.count) s.s1 ∷ met (ltb 2 s.count) s.s2 ∷ []

module _ (g : Given) where
  unfoldable pub step_with : List ℕ → Step → Answer Step
  step_with ts s =
      cond (unruled s) (refused Refusal.no_rule none)
      (source_dims g ts (up_to (sources_needed s.op) (sources_in s)) then λ ds.
      cond (is_destination s.dest.kind) (done (sized_step s ds)) (refused Refusal.no_rule none))

-- a temporary has the dimension of the last step that wrote it
unfoldable pub noted : List ℕ → Step → List ℕ
noted ts s = cond (eqb s.dest.kind kind.tmp) (set ts s.dest.id s.dest.dim) ts
