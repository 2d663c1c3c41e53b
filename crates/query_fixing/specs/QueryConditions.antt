-- Rows 3 and 10 of document 01's table of refusals, for the walk of the verifier's query code, each as a person would state it.
-- Assumes nothing: these are definitions.
use Rattle.std.specs.Prelude.{ℕ, ◌≤◌, ◌<◌, ◌≡◌, true, List, ◌⊎◌, length, get_or}
use Rattle.kinds.specs.KindBytes as kind
use Rattle.kinds.specs.declared.reference.Reference.{Reference}
use Rattle.meaning.specs.Trees.{Each}
use Rattle.lent_lists.specs.Records.{segment_in, good_lists}
use Rattle.lent_lists.specs.Conditions.{First, NoStep, RecordRuled, ByReference}
use Rattle.query_fixing.specs.QueryCode.{tree_kind}

-- a number that names none of tree1 to tree4
abbrev pub NoTree : ℕ → Type 0
NoTree tree = (tree_kind tree < kind.tree1) ⊎ (kind.tree4 < tree_kind tree)

-- a cm that is looked up and not there: its number is past the trees, or has none of the four
abbrev pub Lost : List ℕ → Reference → Type 0
Lost trees r = (r.kind ≡ kind.cm) × ((length trees ≤ r.id) ⊎ ((r.id < length trees) × NoTree (get_or trees r.id 0)))

-- by which references are not there
module _ (NotThere : Reference → Type 0) where
  -- every other reference has a rule: a cm becomes its tree, all else stays
  abbrev pub Treed : Reference → Type 0
  Treed r = NotThere r → ⊥

  -- 3: nothing is malformed, and of the records of first, i and last the first that is not fine has a step, and names what is not there
  pub record Refused3 (first i last : List ℕ) : Type 0 where
    pub well_formed : good_lists first i last ≡ true
    pub met : First (RecordRuled Treed) (ByReference Treed NotThere) (segment_in first i last)

  -- 10: the same, and its step byte is unknown, or it has fewer sources than the step needs
  pub record Refused10 (first i last : List ℕ) : Type 0 where
    pub well_formed : good_lists first i last ≡ true
    pub met : First (RecordRuled Treed) NoStep (segment_in first i last)

  -- neither: every record of the three has a step, and references that are there
  pub record Accepted (first i last : List ℕ) : Type 0 where
    pub well_formed : good_lists first i last ≡ true
    pub treed : Each (RecordRuled Treed) (segment_in first i last)
