-- WHEN A SOURCE, A STEP AND A SEGMENT ARE REFUSED, in document 01's words: 10 for a kind or a step without a rule and for an unwritten temporary, 12 for a
-- dimension 0, 3 for a number looked up and not there. The first that is met decides.
-- Assumes nothing: these are definitions.
use Rattle.std.specs.Prelude.{ℕ, ◌≤◌, ◌<◌, ◌≡◌, true, false, List, [], ◌∷◌, ◌++◌, ◌⊎◌, length, get_or}
use Rattle.kinds.specs.StepOps.{sources_needed}
use Rattle.kinds.specs.declared.reference.Reference.{Reference}
use Rattle.kinds.specs.declared.step.Step.{Step}
use Rattle.meaning.specs.Refusals.{Refusal, done}
use Rattle.meaning.specs.Trees.{up_to}
use Rattle.lists.specs.Records.{records_in}
use Rattle.step_dimensions.specs.Rules as rule
use Rattle.step_dimensions.specs.Rules.{rule_no, is_destination}
use Rattle.step_dimensions.specs.StepDimensions.{Given, source_dim, source_dims, unruled, sources_in, step_with, noted}

-- the number at id, or the record of that number, is not there
abbrev pub NotThere : List ℕ → List ℕ → ℕ → Type 0
NotThere dims numbers id = (length numbers ≤ id) ⊎ ((id < length numbers) × (length dims ≤ get_or numbers id 0))

-- the record is there and has dimension 0
abbrev pub Zero : List ℕ → List ℕ → ℕ → Type 0
Zero dims numbers id = (id < length numbers) × (get_or numbers id 0 < length dims) × (get_or dims (get_or numbers id 0) 0 ≡ 0)

module _ (g : Given) where
  pub data SourceRefused (ts : List ℕ) (r : Reference) : Refusal → Type 0 where
    no_rule : rule_no r.kind ≡ rule.none → SourceRefused ts r Refusal.no_rule
    not_written : rule_no r.kind ≡ rule.temporary → get_or ts r.id 0 ≡ 0 → SourceRefused ts r Refusal.no_rule
    no_column : rule_no r.kind ≡ rule.column → NotThere g.record_dims g.cm2ns r.id → SourceRefused ts r Refusal.not_there
    no_quotient : rule_no r.kind ≡ rule.quotient → NotThere g.record_dims g.qs r.id → SourceRefused ts r Refusal.not_there
    own_zero : rule_no r.kind ≡ rule.own → r.dim ≡ 0 → SourceRefused ts r Refusal.no_dimension
    x_zero : rule_no r.kind ≡ rule.x → g.dim_x ≡ 0 → SourceRefused ts r Refusal.no_dimension
    column_zero : rule_no r.kind ≡ rule.column → Zero g.record_dims g.cm2ns r.id → SourceRefused ts r Refusal.no_dimension
    quotient_zero : rule_no r.kind ≡ rule.quotient → Zero g.record_dims g.qs r.id → SourceRefused ts r Refusal.no_dimension

  -- from left to right
  pub data SourcesRefused (ts : List ℕ) (w : Refusal) : List Reference → Type 0 where
    this : {r : Reference} {rs : List Reference} → SourceRefused ts r w → SourcesRefused ts w (r ∷ rs)
    next : {r : Reference} {rs : List Reference} (d : ℕ) → source_dim g ts r ≡ done d → SourcesRefused ts w rs → SourcesRefused ts w (r ∷ rs)

  pub data StepRefused (ts : List ℕ) (s : Step) : Refusal → Type 0 where
    no_step : unruled s ≡ true → StepRefused ts s Refusal.no_rule
    a_source : {w : Refusal} → unruled s ≡ false → SourcesRefused ts w (up_to (sources_needed s.op) (sources_in s)) → StepRefused ts s w
    no_destination : unruled s ≡ false → (ds : List ℕ) → source_dims g ts (up_to (sources_needed s.op) (sources_in s)) ≡ done ds → is_destination s.dest.kind ≡ false → StepRefused ts s Refusal.no_rule

  -- step by step
  pub data StepsRefused (w : Refusal) : List ℕ → List Step → Type 0 where
    this : {ts : List ℕ} {s : Step} {ss : List Step} → StepRefused ts s w → StepsRefused w ts (s ∷ ss)
    next : {ts : List ℕ} {s : Step} {ss : List Step} (s' : Step) → step_with g ts s ≡ done s' → StepsRefused w (noted ts s') ss → StepsRefused w ts (s ∷ ss)

-- the records of a segment's lists, one after the other
unfoldable pub all_records : List (List ℕ) → List Step
all_records [] = []
all_records (l ∷ ls) = records_in l ++ all_records ls
