-- One list planned and measured, and room for two: by what each part answered. Over plain variables.
-- Assumes nothing.
use Prim.Native.Nat.{ℕ}
use mathlib.Core.Path.{◌≡◌, refl, sym, ◌∙◌, ap, subst}
use mathlib.Core.Bool.{Bool, true, false, ◌&&◌, cond}
use mathlib.Core.Option.{none}
use mathlib.Core.List.{List}
use native.Mathlib.Omega.{arith}
use lib.ListN.{length}
use Rattle.std.specs.Prelude.{Some, None, Result, Ok, Err}
use Rattle.kinds.specs.Answers.{refusal_of, blame_of}
use Rattle.kinds.specs.declared.refusal.Refused.{Refused}
use Rattle.meaning.specs.Refusals.{Refusal, done, refused}
use Rattle.meaning.proofs.Laws.Tests.{done-same, done-not-refused}
use Rattle.meaning.specs.Trees.{Acyclic}
use Rattle.pool.specs.Trees.{forest}
use Rattle.starkinfo_codegen.specs.Emitting.{Rest, pool_of}
use Rattle.requests.specs.Making.{E}
use Rattle.codegen.specs.Said.{said}
use Rattle.codegen.specs.declared.build.Sizes as steps
use Rattle.constraint_lists.specs.Lists.{list_said}
use Rattle.constraint_lists.specs.Planned.{ListAsks, ListPlanGiven, PlannedJobs, PlanSays}
use Rattle.constraint_lists.specs.Measuring.{MeasureAsks, MeasureAsked, MeasureGiven, Measured, measured_says, WordsAre}
use Rattle.constraint_build.specs.Both.{Lent}
use Rattle.constraint_build.specs.Committing.{Fitted, FitSays, joined, sizes_with}
use Rattle.constraint_build.specs.declared.answer.Sizes.{Sizes}
use Rattle.constraint_build.specs.declared.answer.Fit.{Fit}

-- ---- one list

module _ (u : Lent) {w x : List ℕ} {b : Rest} {A : Acyclic (forest (pool_of w b))} {ms qs : List ℕ} {m : ℕ} (a : ListAsks w x b A ms qs u.context (length u.list) m) (s t j : List ℕ)
    (p : Result ℕ Refused) (g : ListPlanGiven w x ms qs u.context s t j m p) (closes : Bool) where
  says_as : (y : Result ℕ Refused) → p ≡ y → PlanSays w x b ms qs u.context s t j (length u.list) y
  says_as y e = subst (PlanSays w x b ms qs u.context s t j (length u.list)) e (g b A (length u.list) a)

  -- two answers differ
  apart : {P : Type 0} → ◌≡◌ {A = ℕ} 0 1 → P
  apart e = absurd (omega arith)

  pub fit-refused : {f : Refused} → p ≡ Err f → (t' : List ℕ) → FitSays w x b ms qs u s t' j m closes (Err f)
  fit-refused {f} e t' = record {
    unplanned = λ g h.
        let z : f ≡ g = cc in
        subst (λ (y : Refused). list_said (E w x b) ms qs closes (said u.context u.list) ≡ refused (refusal_of y.refusal) (blame_of y.node)) z (says_as (Err f) e u.list closes);
    planned = λ g h. apart cc;
  }

  module _ {n : ℕ} (e : p ≡ Ok n) where
    jobs_are : PlannedJobs w x b ms qs u.context s t j (length u.list) n
    jobs_are = says_as (Ok n) e

    measure-asks : MeasureAsks w x b jobs_are.jobs j s t u.context u.list m n
    measure-asks = record { commit = jobs_are.ready u.list refl; expressions = a.expressions }

    pub measure-asked : MeasureAsked w x j t u.context u.list m n
    measure-asked = (b, jobs_are.jobs, s, measure-asks)

    of_measured : {t' : List ℕ} {r : Measured} → MeasureGiven w x j t t' u.context u.list u.lists m n closes r → Fitted w x b ms qs u s t' j m closes n r
    of_measured h = record { jobs = jobs_are.jobs; loaded = t; planned = measure-asks; is = jobs_are.is u.list closes; measures = h b jobs_are.jobs s measure-asks }

    pub fitted : {t' : List ℕ} {r : Measured} → MeasureGiven w x j t t' u.context u.list u.lists m n closes r → FitSays w x b ms qs u s t' j m closes (Ok (record { n = n; room = r }))
    fitted {t'} {r} h = record {
      unplanned = λ f z. apart cc;
      planned = λ f z.
          let y : record { n = n; room = r } ≡ f = cc in
          subst (λ (y : Fit). Fitted w x b ms qs u s t' j m closes y.n y.room) y (of_measured h);
    }

-- ---- room

-- what was measured has room or has not
pub room_or : (r : Measured) → (b : Bool) × (z : steps.Sizes) × (measured_says r ≡ cond b (done z) (refused Refusal.full none))
room_or None = (false, record { first = 0; i = 0; last = 0 }, refl)
room_or (Some z) = (true, z, refl)

-- a list that was measured and has room has its words
pub words-of : (r : Measured) {z : steps.Sizes} → measured_says r ≡ done z → {t f : List ℕ} → WordsAre r t f → t ≡ f
words-of None e h = absurd (done-not-refused (sym e))
words-of (Some y) e h = h

-- both have room, or not
pub joined-full :
    (one two : Measured) (b c : Bool) (y z : steps.Sizes) → measured_says one ≡ cond b (done y) (refused Refusal.full none) → measured_says two ≡ cond c (done z) (refused Refusal.full none) →
    joined one two ≡ None → (b && c) ≡ false
joined-full None two true c y z e f g = absurd (done-not-refused (sym e))
joined-full None two false c y z e f g = refl
joined-full (Some s) None true true y z e f g = absurd (done-not-refused (sym f))
joined-full (Some s) None true false y z e f g = refl
joined-full (Some s) None false c y z e f g = absurd (done-not-refused e)
joined-full (Some s) (Some t) b c y z e f g = let q : ◌≡◌ {A = ℕ} 0 1 = cc in absurd (omega arith)

pub joined-fit :
    (one two : Measured) (b c : Bool) (y z : steps.Sizes) → measured_says one ≡ cond b (done y) (refused Refusal.full none) → measured_says two ≡ cond c (done z) (refused Refusal.full none) →
    {s : Sizes} → joined one two ≡ Some s → (b ≡ true) × (c ≡ true) × (s ≡ sizes_with y z)
joined-fit None two b c y z e f g = let q : ◌≡◌ {A = ℕ} 0 1 = cc in absurd (omega arith)
joined-fit (Some u) None b c y z e f g = let q : ◌≡◌ {A = ℕ} 0 1 = cc in absurd (omega arith)
joined-fit (Some u) (Some t) true true y z e f {s} g =
    let p : sizes_with u t ≡ s = cc in (
      refl,
      refl,
      sym p ∙ ap (λ (u : steps.Sizes). sizes_with u t) (done-same _ _ e) ∙ ap (λ (u : steps.Sizes). sizes_with y u) (done-same _ _ f),
    )
joined-fit (Some u) (Some t) true false y z e f g = absurd (done-not-refused f)
joined-fit (Some u) (Some t) false c y z e f g = absurd (done-not-refused e)
