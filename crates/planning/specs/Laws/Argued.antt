-- The refusals of the arguments, by their tests; and what a reason for no plan says.
-- Assumes nothing.
use Rattle.std.specs.Prelude.{ℕ, ◌≡◌, refl, Bool, true, false, List}
use Rattle.std.proofs.Common.{sym, ◌∙◌, ap}
use Rattle.std.proofs.Math.Option.{Option, none}
use Rattle.meaning.specs.Refusals.{Refusal, Answer, done, refused, ◌then◌}
use Rattle.kinds.specs.Answers.{refusal_of, blame_of}
use Rattle.plans.specs.Plan.{is_plan}
use Rattle.plans.specs.Columns.{fits}
use Rattle.planning.specs.Planning.{argued}
use Rattle.planning.specs.Answers.{Unplanned, unplanned_says}

module _ (b : List ℕ) (own : Bool) where
  pub no-plan : is_plan b ≡ false → argued b own ≡ refused Refusal.malformed none
  unfolding argued
  no-plan e = rw e

  pub too_many_lem : is_plan b ≡ true → fits b ≡ false → argued b own ≡ refused Refusal.full none
  unfolding argued
  too_many_lem e f = rw (e, f)

  pub ill-formed : is_plan b ≡ true → fits b ≡ true → own ≡ false → argued b own ≡ refused Refusal.malformed none
  unfolding argued
  ill-formed e f h = rw (e, f, h)

  pub well_formed_lem : is_plan b ≡ true → fits b ≡ true → own ≡ true → argued b own ≡ done tt
  unfolding argued
  well_formed_lem e f h = rw (e, f, h)

-- a refusal of one kind of answer is that of another
pub refused-both : {A B : Type 0} {k l : Refusal} {o p : Option ℕ} → ◌≡◌ {A = Answer A} (refused k o) (refused l p) → ◌≡◌ {A = Answer B} (refused k o) (refused l p)
refused-both {k = k} {l = l} {o = o} {p = p} e =
    let x : k ≡ l = cc in
    let y : o ≡ p = cc in
    rw (x, y)

-- every reason is a refusal, whatever was to be answered
pub record Reason (u : Unplanned) : Type 1 where
  pub refusal : Refusal
  pub blame : Option ℕ
  pub says : (A : Type 0) → unplanned_says {A = A} u ≡ refused refusal blame

pub reason : (u : Unplanned) → Reason u
reason u = record { refusal = refusal_of u.refusal; blame = blame_of u.node; says = λ A. refl }

-- what follows it is not asked
pub unplanned-then : {A B : Type 0} (u : Unplanned) (f : A → Answer B) → (unplanned_says u then f) ≡ unplanned_says u
unplanned-then {A} {B} u f = let r = reason u in ap (λ (z : Answer A). z then f) (r.says A) ∙ sym (r.says B)
