-- FIXING BY A PLAN, exactly when: 3 and 10 beside the plan's own, 9, and when it is done. A cm is there where its number is below the plan's count of cm, in either domain.
-- Assumes nothing.
use Rattle.std.specs.Prelude.{ℕ, ◌≡◌, refl, Bool, true, false, List, ◌⊎◌, ◌↔◌, length}
use Rattle.std.proofs.Common.{◌∙◌, ap, subst, arith}
use Rattle.meaning.specs.Refusals.{done, answer_no}
use Rattle.frames.specs.Reading.{reading}
use Rattle.pool.specs.Numbered.{pool_of}
use Rattle.lent_lists.specs.Verdicts.{Verdict, fine, not_there, no_rule, full, verdict_no}
use Rattle.fixing.specs.ProverCode.{prover_verdict}
use Rattle.fixing.specs.Conditions.{Refused10, Refused3, Refused9, Accepted}
use Rattle.fixing.specs.Exactly.{prover_10, prover_3, prover_9, prover_0}
use Rattle.plans.specs.Agreement.{cm_count}
use Rattle.map_records.specs.Mapping.{mapped}
use Rattle.plan_tables.specs.Sizes.{cm-n-size, cm_2ns_size}
use Rattle.planning.specs.Planning.{Planned, Plans}
use Rattle.planning.specs.Ways.{Way}
use Rattle.plan_walks.specs.Walks.{Walk, good_segment, walk_says}
use Rattle.plan_walks.specs.Cms.{cms_of}
use Rattle.plan_walks.specs.Fix.{is_n, rules_in, fix_with, fix_by, FixIs}
use Rattle.plan_exactly.specs.Known.{known}
use Rattle.plan_exactly.specs.Numbers.{Drawn, by-verdict, walk_refused, walk-alone, walk-done, no-way_10}

-- every cm of a plan has its record in either domain
module _ (b : List ℕ) (own : Bool) (s : List ℕ) (in_n : Bool) (z : Planned) (h : Plans b own (reading s) (done z)) where
  counted : length (cms_of in_n z.mapping.sections) ≡ cm_count b
  counted =
      let k = known b own (reading s) z h in
      ap (λ (y : Planned). length (cms_of in_n y.mapping.sections)) k.is ∙ by in_n
    where
      by : (t : Bool) → length (cms_of t (mapped b (pool_of (known b own (reading s) z h).input)).sections) ≡ cm_count b
      by true = cm-n-size b (pool_of (known b own (reading s) z h).input) (known b own (reading s) z h).agreeing
      by false = cm_2ns_size b (pool_of (known b own (reading s) z h).input) (known b own (reading s) z h).agreeing

module _ (s b : List ℕ) (domain counter : ℕ) (first i last : List ℕ) where
  abbrev own : Bool
  own = good_segment domain counter first i last

  -- the verdict of a plan
  abbrev verdict : Planned → Verdict
  verdict z = prover_verdict (rules_in (is_n domain) b z) (cms_of (is_n domain) z.mapping.sections) counter first i last

  -- of how many cm, with which rules
  pub by-plan :
      (w : Verdict) (C : ℕ → List ℕ → Type 0) → ((rules cms : List ℕ) → (prover_verdict rules cms counter first i last ≡ w) ↔ C (length cms) rules) →
      (z : Planned) → Plans b own (reading s) (done z) → (answer_no (fix_by counter first i last (is_n domain) b z) ≡ verdict_no w) ↔ C (cm_count b) (rules_in (is_n domain) b z)
  unfolding fix_with
  by-plan w C is z p =
      by-verdict (verdict z) w _
      (subst (λ n. (verdict z ≡ w) ↔ C n (rules_in (is_n domain) b z)) (counted b own s (is_n domain) z p) (is (rules_in (is_n domain) b z) (cms_of (is_n domain) z.mapping.sections)))

  module _ {first' i' last' : List ℕ} {r : Walk} (h : FixIs s b domain counter first i last first' i' last' r) where
    -- 3: THE PLAN'S, or a cm that is not in the plan is the first fault of the lists
    pub fix_3 : (answer_no (walk_says r) ≡ 3) ↔ (Way b own (reading s) 3 ⊎ Drawn s b own (λ _. Refused3 (cm_count b) counter first i last))
    fix_3 =
        walk_refused h 3 (λ _. Refused3 (cm_count b) counter first i last)
        (by-plan not_there (λ n _. Refused3 n counter first i last) (λ rules cms. prover_3 cms counter first i last rules)) (λ e. omega (arith, e))

    -- 10: a step or a reference without a rule is the first fault of the lists
    pub fix_10 : (answer_no (walk_says r) ≡ 10) ↔ Drawn s b own (λ _. Refused10 (cm_count b) counter first i last)
    fix_10 =
        walk-alone h 10 (λ _. Refused10 (cm_count b) counter first i last)
        (by-plan no_rule (λ n _. Refused10 n counter first i last) (λ rules cms. prover_10 cms counter first i last rules)) (λ e. omega (arith, e)) (no-way_10 b own s)

    -- 9: THE PLAN'S, or the lists have no fault and the counter after them is no number of 16 bits
    pub fix_9 : (answer_no (walk_says r) ≡ 9) ↔ (Way b own (reading s) 9 ⊎ Drawn s b own (λ z. Refused9 (cm_count b) (rules_in (is_n domain) b z) counter first i last))
    fix_9 =
        walk_refused h 9 (λ z. Refused9 (cm_count b) (rules_in (is_n domain) b z) counter first i last)
        (by-plan full (λ n rules. Refused9 n rules counter first i last) (λ rules cms. prover_9 cms counter first i last rules)) (λ e. omega (arith, e))

    -- 0: there is a plan, the lists have no fault, and the counter after them is one
    pub fix_0 : (answer_no (walk_says r) ≡ 0) ↔ Drawn s b own (λ z. Accepted (cm_count b) (rules_in (is_n domain) b z) counter first i last)
    fix_0 =
        walk-done h 0 (λ z. Accepted (cm_count b) (rules_in (is_n domain) b z) counter first i last)
        (by-plan fine (λ n rules. Accepted n rules counter first i last) (λ rules cms. prover_0 cms counter first i last rules)) refl
