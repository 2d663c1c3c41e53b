-- The walk over records that decides: each record's step, its sources from left to right, its destination; the first refusal is the verdict.
-- Assumes nothing: these are definitions.
use Rattle.std.specs.Prelude.{Bool, cond, List, [], ◌∷◌, ltb}
use Rattle.kinds.specs.declared.reference.Reference.{Reference}
use Rattle.kinds.specs.declared.step.Step.{Step}
use Rattle.lent_lists.specs.Verdicts.{Verdict, fine, no_rule, first_of, only}
use Rattle.lent_lists.specs.Records.{runs}

-- the first refusal of a list
unfoldable pub walked : {A : Type 0} → (A → Verdict) → List A → Verdict
walked f [] = fine
walked f (x ∷ xs) = first_of (f x) (walked f xs)

module _ (g : Reference → Verdict) where
  -- a source that does not count is not looked at
  unfoldable pub used_verdict : Bool → Reference → Verdict
  used_verdict used r = cond used (g r) fine

  -- 10 for a step that is unknown or has too few sources
  unfoldable pub record_verdict : Step → Verdict
  record_verdict x =
      first_of (only (runs x) no_rule)
      (first_of (used_verdict (ltb 0 x.count) x.s0)
      (first_of (used_verdict (ltb 1 x.count) x.s1)
      (first_of (used_verdict (ltb 2 x.count) x.s2) (g x.dest))))
