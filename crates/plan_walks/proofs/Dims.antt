-- Dimensions by a plan that stands in tables.
-- Assumes nothing.
use Prim.Native.Nat.{ℕ, ◌≤◌}
use Rattle.std.specs.Prelude.{Result, Ok, Err}
use mathlib.Core.Path.{◌≡◌, refl, sym, ◌∙◌, ap, subst}
use mathlib.Core.Bool.{cond}
use mathlib.Core.Option.{none}
use mathlib.Core.List.{List}
use native.Mathlib.Omega.{arith}
use lib.ListN.{length, take}
use lib.Dec.{eqb}
use Rattle.meaning.specs.Refusals.{Refusal, number, Answer, done, refused, answer_no, ◌then◌}
use Rattle.meaning.proofs.Laws.Tests.{number-not-zero}
use Rattle.step_dimensions.specs.StepDimensions.{Given}
use Rattle.step_dimensions.specs.Answers.{lent}
use Rattle.dimensions.specs.Dimensions.{dimensions}
use Rattle.dimensions.specs.Answers as dims
use Rattle.dimensions.specs.Answers.{DimensionedIs, dimensioned_no}
use Rattle.kinds.specs.Answers.{refusal_of}
use Rattle.kinds.specs.declared.refusal.Refusal as kinds
use Rattle.plan_walks.specs.Walks.{Walk, Walked, walked, walk_says, lists_after, Does}
use Rattle.plan_walks.specs.Standing.{Standing, planned_in}
use Rattle.plan_walks.specs.Dimension.{given_by, unblamed, dimension_with, dimension_by, dimensioned_says}
use Rattle.plan_walks.proofs.Fixes.{records-few}

-- ---- a refusal by its number

named : ℕ → Refusal
named n =
    cond (eqb n 1) Refusal.malformed
    (cond (eqb n 2) Refusal.child_count
    (cond (eqb n 3) Refusal.not_there
    (cond (eqb n 4) Refusal.cycle
    (cond (eqb n 5) Refusal.double_prime
    (cond (eqb n 6) Refusal.search_kind
    (cond (eqb n 7) Refusal.no_primed_mark
    (cond (eqb n 8) Refusal.no_block
    (cond (eqb n 9) Refusal.full
    (cond (eqb n 10) Refusal.no_rule
    (cond (eqb n 11) Refusal.counts
    (cond (eqb n 12) Refusal.no_dimension
    (cond (eqb n 13) Refusal.no_set
    (cond (eqb n 14) Refusal.no_quotient (cond (eqb n 15) Refusal.visits (cond (eqb n 16) Refusal.bits Refusal.no_identity)))))))))))))))

named-number : (k : Refusal) → named (number k) ≡ k
unfolding named
named-number Refusal.malformed = refl
named-number Refusal.child_count = refl
named-number Refusal.not_there = refl
named-number Refusal.cycle = refl
named-number Refusal.double_prime = refl
named-number Refusal.search_kind = refl
named-number Refusal.no_primed_mark = refl
named-number Refusal.no_block = refl
named-number Refusal.full = refl
named-number Refusal.no_rule = refl
named-number Refusal.counts = refl
named-number Refusal.no_dimension = refl
named-number Refusal.no_set = refl
named-number Refusal.no_quotient = refl
named-number Refusal.visits = refl
named-number Refusal.bits = refl
named-number Refusal.no_identity = refl

module _ (a : Answer (List (List ℕ))) where
  abbrev onward : Answer (List (List ℕ)) → Answer Walked
  onward y = unblamed y then λ ls. done (walked 0 ls)

  abbrev counted : Answer (List (List ℕ)) → Answer ℕ
  counted y = onward y then λ w. done w.counter

  refused-by : (k : Refusal) → number k ≡ answer_no a → refused k none ≡ counted a
  refused-by k e = go a refl
    where
      go : (y : Answer (List (List ℕ))) → a ≡ y → refused k none ≡ counted a
      go (done x) q = absurd (number-not-zero k (e ∙ ap answer_no q))
      go (refused j o) q = ap (λ r. refused r none) (sym (named-number k) ∙ ap named (e ∙ ap answer_no q) ∙ named-number j) ∙ ap counted (sym q)

  done-by : 0 ≡ answer_no a → done 0 ≡ counted a
  done-by e = go a refl
    where
      go : (y : Answer (List (List ℕ))) → a ≡ y → done 0 ≡ counted a
      go (done x) q = ap counted (sym q)
      go (refused j o) q = absurd (number-not-zero j (sym (e ∙ ap answer_no q)))

  says : (d : Result (Unit {0}) kinds.Refusal) → dimensioned_no d ≡ answer_no a → dimensioned_says d ≡ counted a
  says (Err r) e = refused-by (refusal_of r) e
  says (Ok u) e = done-by e

afters : (ls : List (List ℕ)) (a : Answer (List (List ℕ))) → dims.lists_after ls a ≡ lists_after ls (unblamed a then λ xs. done (walked 0 xs))
afters ls (done x) = refl
afters ls (refused k o) = refl

dimensioned_does :
    {g : Given} {ls ls' : List (List ℕ)} {d : Result (Unit {0}) kinds.Refusal} {y : Walk} → DimensionedIs g ls ls' d → walk_says y ≡ dimensioned_says d → Does (dimension_with g ls) ls ls' y
dimensioned_does {g} {ls} {d = d} h q = record { says = q ∙ says (dimensions g ls) d h.says; lists = h.lists ∙ afters ls (dimensions g ls) }

module _ {b w x cs : List ℕ} (z : Standing b w x cs) where
  pub dims-room : z.plan.records ≤ length z.dims
  dims-room = omega (arith, z.stands.holds.dims_size, records-few z)

  pub dims_are : take z.plan.records z.dims ≡ (planned_in z).mapping.dims
  dims_are = z.stands.holds.dims

  pub dimensioned_planned :
      {d : ℕ} {ds cms numbers : List ℕ} {ls ls' : List (List ℕ)} {r : Result (Unit {0}) kinds.Refusal} {y : Walk} → ds ≡ (planned_in z).mapping.dims → cms ≡ (given_by d b (planned_in z)).cm2ns
      → numbers ≡ (given_by d b (planned_in z)).qs → DimensionedIs (lent ds cms numbers d) ls ls' r → walk_says y ≡ dimensioned_says r
      → Does (dimension_by d ls b (planned_in z)) ls ls' y
  dimensioned_planned {d} {ds} {cms} {numbers} {ls} {ls'} {r} {y} e f g h q =
      let same : lent ds cms numbers d ≡ given_by d b (planned_in z) = rw (e, f, g) in
      subst (λ (v : Given). Does (dimension_with v ls) ls ls' y) same (dimensioned_does h q)
