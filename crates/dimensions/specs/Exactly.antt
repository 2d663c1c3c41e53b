-- EACH ANSWER OF set_code_dimensions EXACTLY WHEN, for all lists and all that is given; and only one outcome fits what it promises.
-- Assumes nothing.
use Rattle.std.specs.Prelude.{ℕ, ◌≡◌, refl, Bool, true, false, List, [], ◌∷◌, ◌↔◌, Result}
use Rattle.std.proofs.Common.{sym, ◌∙◌, ap, arith}
use Rattle.std.proofs.Math.Option.{none, some}
use Rattle.kinds.specs.declared.reference.Reference.{Reference}
use Rattle.kinds.specs.declared.step.Step.{Step}
use Rattle.meaning.specs.Refusals.{Refusal, number, Answer, done, refused, answer_no}
use Rattle.step_dimensions.specs.StepDimensions.{Given, unwritten, noted}
use Rattle.dimensions.specs.Dimensions.{passed, passed_lists, good_lists, dimensions}
use Rattle.dimensions.specs.Answers.{refusal_of, DimensionedIs}
use Rattle.dimensions.specs.Conditions as when
use Rattle.dimensions.specs.Conditions.{SourceRefused, SourcesRefused, StepRefused, StepsRefused, all_records}
use Rattle.dimensions.specs.Laws.Refused.{Way, fine, stopped, steps-way, steps-refuse, lists_as_one}
use Rattle.kinds.specs.AnswerLaws.{plain_same}
use Rattle.kinds.specs.declared.refusal.Refusal as codes

-- the refusals that a step can meet
data Few : Refusal → Type 0 where
  three : Few Refusal.not_there
  ten : Few Refusal.no_rule
  twelve : Few Refusal.no_dimension

module _ (g : Given) where
  few_source : (ts : List ℕ) (r : Reference) (w : Refusal) → SourceRefused g ts r w → Few w
  few_source ts r _ (when.no_rule e) = ten
  few_source ts r _ (when.not_written e z) = ten
  few_source ts r _ (when.no_column e c) = three
  few_source ts r _ (when.no_quotient e c) = three
  few_source ts r _ (when.own_zero e z) = twelve
  few_source ts r _ (when.x_zero e z) = twelve
  few_source ts r _ (when.column_zero e c) = twelve
  few_source ts r _ (when.quotient_zero e c) = twelve

  few_sources : (ts : List ℕ) (w : Refusal) (rs : List Reference) → SourcesRefused g ts w rs → Few w
  few_sources ts w [] x' = elim x' [ ]
  few_sources ts w (r ∷ rs) (SourcesRefused.this c) = few_source ts r w c
  few_sources ts w (r ∷ rs) (SourcesRefused.next d e c) = few_sources ts w rs c

  few_step : (ts : List ℕ) (s : Step) (w : Refusal) → StepRefused g ts s w → Few w
  few_step ts s _ (when.no_step e) = ten
  few_step ts s w (when.a_source e c) = few_sources ts w _ c
  few_step ts s _ (when.no_destination e ds z q) = ten

  few_steps : (w : Refusal) (ts : List ℕ) (ss : List Step) → StepsRefused g w ts ss → Few w
  few_steps w ts [] x' = elim x' [ ]
  few_steps w ts (s ∷ ss) (StepsRefused.this c) = few_step ts s w c
  few_steps w ts (s ∷ ss) (StepsRefused.next s' e c) = few_steps w (noted ts s') ss c

module _ (g : Given) (ls : List (List ℕ)) where
  -- the first step of the segment that is refused is refused so
  abbrev Meets : Refusal → Type 0
  Meets w = StepsRefused g w unwritten (all_records ls)

  -- no step is
  abbrev AllSized : Type 0
  AllSized = refusal_of (passed g unwritten (all_records ls)) ≡ none

  refusal_number : (A : Answer (List (List ℕ))) (w : Refusal) → refusal_of A ≡ some w → answer_no A ≡ number w
  refusal_number (done x) w e = absurd (let z : ◌≡◌ {A = ℕ} 0 1 = cc in omega arith)
  refusal_number (refused v n) w e = let z : v ≡ w = cc in ap number z

  done_number : (A : Answer (List (List ℕ))) → refusal_of A ≡ none → answer_no A ≡ 0
  done_number (done x) e = refl
  done_number (refused v n) e = absurd (let z : ◌≡◌ {A = ℕ} 0 1 = cc in omega arith)

  data Outcome : Type 0 where
    ill : good_lists ls ≡ false → answer_no (dimensions g ls) ≡ 1 → Outcome
    meets : good_lists ls ≡ true → (w : Refusal) → Few w → Meets w → answer_no (dimensions g ls) ≡ number w → Outcome
    sized : good_lists ls ≡ true → AllSized → answer_no (dimensions g ls) ≡ 0 → Outcome

  pub malformed_1 : good_lists ls ≡ false → answer_no (dimensions g ls) ≡ 1
  unfolding dimensions
  malformed_1 e = rw e

  pub refused-with : good_lists ls ≡ true → (w : Refusal) → Meets w → answer_no (dimensions g ls) ≡ number w
  unfolding dimensions
  refused-with e w c = rw e (refusal_number (passed_lists g unwritten ls) w (lists_as_one g unwritten ls ∙ rw (steps-refuse g w unwritten (all_records ls) c)))

  pub all-sized : good_lists ls ≡ true → AllSized → answer_no (dimensions g ls) ≡ 0
  unfolding dimensions
  all-sized e c = rw e (done_number (passed_lists g unwritten ls) (lists_as_one g unwritten ls ∙ c))

  outcome : Outcome
  outcome = by (good_lists ls) refl (steps-way g unwritten (all_records ls))
    where
      by : (b : Bool) → good_lists ls ≡ b → Way (λ w. StepsRefused g w unwritten (all_records ls)) (passed g unwritten (all_records ls)) → Outcome
      by false e way = ill e (malformed_1 e)
      by true e (stopped w c q) = meets e w (few_steps g w unwritten (all_records ls) c) c (refused-with e w c)
      by true e (fine p q) = let z : AllSized = rw q in sized e z (all-sized e z)

  pub exactly_1 : (answer_no (dimensions g ls) ≡ 1) ↔ (good_lists ls ≡ false)
  exactly_1 = ((λ h. by outcome h), malformed_1)
    where
      by : Outcome → answer_no (dimensions g ls) ≡ 1 → good_lists ls ≡ false
      by (ill c e) h = c
      by (meets c _ three m e) h = absurd (omega (arith, sym e ∙ h))
      by (meets c _ ten m e) h = absurd (omega (arith, sym e ∙ h))
      by (meets c _ twelve m e) h = absurd (omega (arith, sym e ∙ h))
      by (sized c a e) h = absurd (omega (arith, sym e ∙ h))

  pub exactly_3 : (answer_no (dimensions g ls) ≡ 3) ↔ ((good_lists ls ≡ true) × Meets Refusal.not_there)
  exactly_3 = ((λ h. by outcome h), λ c. refused-with c.0 Refusal.not_there c.1)
    where
      by : Outcome → answer_no (dimensions g ls) ≡ 3 → (good_lists ls ≡ true) × Meets Refusal.not_there
      by (ill c e) h = absurd (omega (arith, sym e ∙ h))
      by (meets c _ three m e) h = (c, m)
      by (meets c _ ten m e) h = absurd (omega (arith, sym e ∙ h))
      by (meets c _ twelve m e) h = absurd (omega (arith, sym e ∙ h))
      by (sized c a e) h = absurd (omega (arith, sym e ∙ h))

  pub exactly_10 : (answer_no (dimensions g ls) ≡ 10) ↔ ((good_lists ls ≡ true) × Meets Refusal.no_rule)
  exactly_10 = ((λ h. by outcome h), λ c. refused-with c.0 Refusal.no_rule c.1)
    where
      by : Outcome → answer_no (dimensions g ls) ≡ 10 → (good_lists ls ≡ true) × Meets Refusal.no_rule
      by (ill c e) h = absurd (omega (arith, sym e ∙ h))
      by (meets c _ three m e) h = absurd (omega (arith, sym e ∙ h))
      by (meets c _ ten m e) h = (c, m)
      by (meets c _ twelve m e) h = absurd (omega (arith, sym e ∙ h))
      by (sized c a e) h = absurd (omega (arith, sym e ∙ h))

  pub exactly_12 : (answer_no (dimensions g ls) ≡ 12) ↔ ((good_lists ls ≡ true) × Meets Refusal.no_dimension)
  exactly_12 = ((λ h. by outcome h), λ c. refused-with c.0 Refusal.no_dimension c.1)
    where
      by : Outcome → answer_no (dimensions g ls) ≡ 12 → (good_lists ls ≡ true) × Meets Refusal.no_dimension
      by (ill c e) h = absurd (omega (arith, sym e ∙ h))
      by (meets c _ three m e) h = absurd (omega (arith, sym e ∙ h))
      by (meets c _ ten m e) h = absurd (omega (arith, sym e ∙ h))
      by (meets c _ twelve m e) h = (c, m)
      by (sized c a e) h = absurd (omega (arith, sym e ∙ h))

  pub exactly_0 : (answer_no (dimensions g ls) ≡ 0) ↔ ((good_lists ls ≡ true) × AllSized)
  exactly_0 = ((λ h. by outcome h), λ c. all-sized c.0 c.1)
    where
      by : Outcome → answer_no (dimensions g ls) ≡ 0 → (good_lists ls ≡ true) × AllSized
      by (ill c e) h = absurd (omega (arith, sym e ∙ h))
      by (meets c _ three m e) h = absurd (omega (arith, sym e ∙ h))
      by (meets c _ ten m e) h = absurd (omega (arith, sym e ∙ h))
      by (meets c _ twelve m e) h = absurd (omega (arith, sym e ∙ h))
      by (sized c a e) h = (c, a)

-- ---- only one outcome fits

pub one_dimensioning :
    (g : Given) (ls : List (List ℕ)) {ls₁ ls₂ : List (List ℕ)} {r₁ r₂ : Result Unit codes.Refusal}
    → DimensionedIs g ls ls₁ r₁ → DimensionedIs g ls ls₂ r₂ → (r₁ ≡ r₂) × (ls₁ ≡ ls₂)
one_dimensioning g ls {ls₁} {ls₂} {r₁} {r₂} a b = (plain_same r₁ r₂ (a.says ∙ sym b.says), a.lists ∙ sym b.lists)
