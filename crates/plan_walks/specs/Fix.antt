-- FIXING BY A PLAN: the rules and the cm records that a plan gives to `fix_prover_code`.
-- Assumes nothing: these are definitions.
use Rattle.std.specs.Prelude.{ℕ, ◌≡◌, Bool, List, [], ◌∷◌, replicate, eqb}
use Rattle.kinds.specs.Write.{write}
use Rattle.meaning.specs.Refusals.{Answer}
use Rattle.frames.specs.Order.{expression_limit}
use Rattle.plan_tables.specs.Tables.{rules}
use Rattle.fixing.specs.ProverCode.{temporaries, prover_verdict, list_after}
use Rattle.planning.specs.Planning.{Planned}
use Rattle.plan_walks.specs.Walks.{Walk, good_segment, Walked, walked, ruled, Does, WalkIs}
use Rattle.plan_walks.specs.Standing.{Standing, planned_in, Tabled}
use Rattle.plan_walks.specs.Cms.{cms_of}

-- the domain "n"
abbrev pub is_n : ℕ → Bool
is_n domain = eqb domain 0

-- what each of 512 expressions becomes: those that there are, and 0 for the others
abbrev pub rules_in : Bool → List ℕ → Planned → List ℕ
rules_in in_n b z = write (replicate expression_limit 0) 0 (rules in_n z.pool b z.mapping)

module _ (counter : ℕ) (first i last : List ℕ) where
  -- fixing with rules and cm records
  unfoldable pub fix_with : List ℕ → List ℕ → Answer Walked
  fix_with rs cms =
      let after = list_after rs cms counter first i last in
      ruled (prover_verdict rs cms counter first i last) (walked (temporaries rs counter first i last).next (after first ∷ after i ∷ after last ∷ []))

  -- FIXING BY A PLAN
  abbrev pub fix_by : Bool → List ℕ → Planned → Answer Walked
  fix_by in_n b z = fix_with (rules_in in_n b z) (cms_of in_n z.mapping.sections)

-- THE CONTRACT
abbrev pub FixIs : List ℕ → List ℕ → ℕ → ℕ → List ℕ → List ℕ → List ℕ → List ℕ → List ℕ → List ℕ → Walk → Type 0
FixIs s b domain counter first i last first' i' last' r =
    WalkIs s b (good_segment domain counter first i last) (fix_by counter first i last (is_n domain) b) (first ∷ i ∷ last ∷ []) (first' ∷ i' ∷ last' ∷ []) r

-- ── parts ────────────────────────────────────────────────────────────────────
abbrev pub PlannedAsked : List ℕ → List ℕ → List ℕ → List ℕ → List ℕ → Type 0
PlannedAsked b w x cs rs = Standing b w x cs × (rs ≡ replicate expression_limit 0)

-- for whichever pool and plan they are
abbrev pub RulesGiven : Bool → List ℕ → List ℕ → List ℕ → List ℕ → List ℕ → Type 0
RulesGiven in_n b w x cs rs = (z : Standing b w x cs) → rs ≡ rules_in in_n b (planned_in z)

abbrev pub FixAsked : List ℕ → List ℕ → List ℕ → List ℕ → List ℕ → ℕ → Type 0
FixAsked b w x ss cs n = (z : Standing b w x cs) × Tabled z ss n

abbrev pub FixGiven :
    Bool → List ℕ → List ℕ → List ℕ → List ℕ → List ℕ → ℕ → ℕ → List ℕ → List ℕ → List ℕ → List ℕ → List ℕ → List ℕ → Walk → Type 0
FixGiven in_n b w x ss cs n counter first i last first' i' last' r =
    (z : Standing b w x cs) → Tabled z ss n → Does (fix_by counter first i last in_n b (planned_in z)) (first ∷ i ∷ last ∷ []) (first' ∷ i' ∷ last' ∷ []) r
