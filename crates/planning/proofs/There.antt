-- What a plan names and what leaves read, of a pool in tables; and the shape of pool and plan by what was found.
-- Assumes nothing.
use Prim.Native.Nat.{ℕ, zero, suc, ◌<◌}
use mathlib.Core.Path.{◌≡◌, refl, sym, ◌∙◌, ap}
use mathlib.Core.Bool.{Bool, true, false, ◌&&◌, cond}
use mathlib.Core.Option.{Option, none}
use mathlib.Core.List.{List}
use native.Mathlib.Omega.{arith}
use lib.ListN.{length}
use Rattle.meaning.proofs.Laws.Tests.{and_left}
use Rattle.meaning.specs.Refusals.{Refusal, Answer, done, refused, ◌then◌}
use Rattle.pool.specs.Pool.{Pool}
use Rattle.pool.specs.Admission.{shape}
use Rattle.pool.specs.Tabled.{Tables, tabled}
use Rattle.pool.specs.Laws.Tabled.{node-count, expression-count, node_at}
use Rattle.plans.specs.Plan.{every, q2exp_count}
use Rattle.plans.specs.Agreement.{cm_count, leaf_there, node_there, names_there, leaves_there}
use Rattle.planning.specs.Planning.{leaf_in, all_there, plan_shape}

every-same : (f g : ℕ → Bool) (n : ℕ) → ((i : ℕ) → i < n → f i ≡ g i) → every f n ≡ every g n
every-same f g zero h = refl
every-same f g (suc n) h = rw (every-same f g n (λ i l. h i (omega (arith, l))), h n (omega arith))

module _ (b : List ℕ) (t : Tables) where
  leaf-same : (i : ℕ) → i < t.node_count → node_there t.nodes (cm_count b) (q2exp_count b) i ≡ leaf_in b (tabled t) i
  leaf-same i h = sym (ap (λ x. leaf_there (cm_count b) (q2exp_count b) x.kind x.id) (node_at t i h))

  leaves-same : leaves_there t.nodes t.node_count (cm_count b) (q2exp_count b) ≡ every (leaf_in b (tabled t)) (length (tabled t).nodes)
  unfolding leaves_there
  leaves-same = every-same _ _ t.node_count leaf-same ∙ ap (every (leaf_in b (tabled t))) (sym (node-count t))

  all-is : all_there b (tabled t) ≡ (names_there b t.expression_count && leaves_there t.nodes t.node_count (cm_count b) (q2exp_count b))
  unfolding all_there
  all-is = rw (expression-count t, sym leaves-same)

  pub name_lost : {r : Bool} → r ≡ names_there b t.expression_count → r ≡ false → false ≡ all_there b (tabled t)
  name_lost e h = sym (all-is ∙ rw (sym e ∙ h))

  pub leaves-decide :
      {r s : Bool} {cms qs : ℕ} → r ≡ names_there b t.expression_count → r ≡ true → cms ≡ cm_count b → qs ≡ q2exp_count b
      → s ≡ leaves_there t.nodes t.node_count cms qs → s ≡ all_there b (tabled t)
  leaves-decide {s = s} e h c q l = l ∙ rw (c, q) (sym (all-is ∙ rw (sym e ∙ h)))

  pub names_of : all_there b (tabled t) ≡ true → names_there b t.expression_count ≡ true
  names_of h = and_left _ _ (sym all-is ∙ h)

module _ (b : List ℕ) (p : Pool) where
  pub stops : {k : Refusal} {o : Option ℕ} → refused k o ≡ shape p → refused k o ≡ plan_shape b p
  stops {k} {o} h = ap (λ (a : Answer (Unit {0})). a then λ _. cond (all_there b p) (done tt) (refused Refusal.not_there none)) h

  ends : {r : Bool} → done tt ≡ shape p → r ≡ all_there b p → cond r (done tt) (refused Refusal.not_there none) ≡ plan_shape b p
  ends {r} h e = ap (λ x. cond x (done tt) (refused Refusal.not_there none)) e ∙ ap (λ (a : Answer (Unit {0})). a then λ _. cond (all_there b p) (done tt) (refused Refusal.not_there none)) h

  pub fine : {r : Bool} → done tt ≡ shape p → r ≡ all_there b p → r ≡ true → done tt ≡ plan_shape b p
  fine h e q = ap (λ x. cond x (done tt) (refused Refusal.not_there none)) (sym q) ∙ ends h e

  pub lost : {r : Bool} → done tt ≡ shape p → r ≡ all_there b p → r ≡ false → refused Refusal.not_there none ≡ plan_shape b p
  lost h e q = ap (λ x. cond x (done tt) (refused Refusal.not_there none)) (sym q) ∙ ends h e
