-- Rows 10, 3 and 9 of document 01's table of refusals, for fixing, each as a person would state it.
-- Assumes nothing: these are definitions.
use Rattle.std.specs.Prelude.{ℕ, ◌≤◌, ◌<◌, ◌≡◌, true, List}
use Rattle.kinds.specs.KindBytes as kind
use Rattle.kinds.specs.declared.reference.Reference.{Reference}
use Rattle.meaning.specs.Trees.{Each}
use Rattle.lent_lists.specs.Records.{segment_in, good_lists}
use Rattle.lent_lists.specs.Conditions.{First, RecordRuled, ByReference, RecordNoRule}
use Rattle.fixing.specs.ProverCode.{last_counter, temporaries}

-- nothing is malformed
abbrev pub WellFormed : ℕ → List ℕ → List ℕ → List ℕ → Type 0
WellFormed counter first i last = (counter ≤ last_counter) × (good_lists first i last ≡ true)

-- ---- a reference

-- tree1 to tree4 and Z have no rule
abbrev pub NoRule : Reference → Type 0
NoRule r = (kind.tree1 ≤ r.kind) × (r.kind ≤ kind.Z)

-- by how many cm have a record in the domain
module _ (cms : ℕ) where
  -- a cm that has none
  abbrev pub NotThere : Reference → Type 0
  NotThere r = (r.kind ≡ kind.cm) × (cms ≤ r.id)

  abbrev pub Ruled : Reference → Type 0
  Ruled r = (NoRule r → ⊥) × (NotThere r → ⊥)

  -- ---- a segment

  -- 10: nothing is malformed, and of the records of first, i and last the first that is not ruled has no such step, or a reference without a rule
  pub record Refused10 (counter : ℕ) (first i last : List ℕ) : Type 0 where
    pub well_formed : WellFormed counter first i last
    pub met : First (RecordRuled Ruled) (RecordNoRule Ruled NoRule) (segment_in first i last)

  -- 3: the same, and it names a cm that is not there
  pub record Refused3 (counter : ℕ) (first i last : List ℕ) : Type 0 where
    pub well_formed : WellFormed counter first i last
    pub met : First (RecordRuled Ruled) (ByReference Ruled NotThere) (segment_in first i last)

  -- 9: nothing is malformed and every record is ruled, but the counter after the segment is no number of 16 bits
  pub record Refused9 (rules : List ℕ) (counter : ℕ) (first i last : List ℕ) : Type 0 where
    pub well_formed : WellFormed counter first i last
    pub ruled : Each (RecordRuled Ruled) (segment_in first i last)
    pub over : last_counter < (temporaries rules counter first i last).next

  -- or it is one
  pub record Accepted (rules : List ℕ) (counter : ℕ) (first i last : List ℕ) : Type 0 where
    pub well_formed : WellFormed counter first i last
    pub ruled : Each (RecordRuled Ruled) (segment_in first i last)
    pub fits : (temporaries rules counter first i last).next ≤ last_counter
