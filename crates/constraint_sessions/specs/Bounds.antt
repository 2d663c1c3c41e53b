-- No mark is beyond the table of marks, after requests and after a build of a pool of at most 512 expressions.
-- Assumes nothing.
use Rattle.std.specs.Prelude.{ℕ, ◌<◌, ◌≤◌, ◌≡◌, refl, Bool, true, false, ◌&&◌, ◌||◌, List, [], ◌∷◌, length, eqb, ltb}
use Rattle.std.proofs.Common.{sym, ◌∙◌, ap, subst, arith, eqb-true, ltb-true}
use Rattle.std.proofs.Math.Option.{Option, none, some}
use Rattle.meaning.specs.Refusals.{done}
use Rattle.meaning.specs.Trees.{Expression, Forest, nth, Each}
use Rattle.meaning.specs.Order.{Marks, marking, Job}
use Rattle.meaning.specs.Generation.{State, adding, serve_all}
use Rattle.meaning.specs.Building.{released, after_build}
use Rattle.meaning.specs.Demand3.{NoResult}
use Rattle.meaning.specs.Asking.{ask_all}
use Rattle.meaning.specs.Holding.{serve_all-asks}
use Rattle.meaning.proofs.Laws.Jobs.{after}
use Rattle.meaning.proofs.Laws.Once.{all-rows, all_found, all-marks}
use Rattle.meaning.proofs.Laws.Tests.{then-done, done-same, each_both}
use Rattle.pool.specs.Laws.Forest.{nth-below}
use Rattle.codegen.specs.Sessions.{Bounded}
use Rattle.constraint_meaning.specs.Constraint.{plain_requests}

-- marks after jobs of cells that are there
after-bounded : (m : Marks) (js : List Job) → Bounded m → Each (λ j. (j.expression < 512) × (j.row < 2)) js → Bounded (after m js)
after-bounded m [] b h = b
after-bounded m (j ∷ js) b h = after-bounded (marking m j.expression j.row) js one h.1
  where
    one : Bounded (marking m j.expression j.row)
    one e r n = go (eqb j.expression e) refl (eqb j.row r) refl
      where
        go : (u : Bool) → eqb j.expression e ≡ u → (v : Bool) → eqb j.row r ≡ v → ((u && v) || m e r) ≡ false
        go true p true q = let a = eqb-true j.expression e p in let c = eqb-true j.row r q in absurd (n (omega (arith, h.0.0, a)) (omega (arith, h.0.1, c)))
        go true p false q = b e r n
        go false p v q = b e r n

pub plain-none : (es : List ℕ) → Each NoResult (plain_requests es)
plain-none [] = tt
plain-none (e ∷ es) = (refl, plain-none es)

pub plain_rows : (es : List ℕ) → Each (λ q. q.row < 2) (plain_requests es)
plain_rows [] = tt
plain_rows (e ∷ es) = (omega arith, plain_rows es)

module _ (E : Forest) (small : length E ≤ 512) where
  pub served-bounded : (es : List ℕ) (st st' : State) → Bounded st.marks → serve_all 2 E (plain_requests es) st ≡ done st' → Bounded st'.marks
  served-bounded es st st' b h =
      let qs = plain_requests es in
      let z = then-done (ask_all 2 E qs st.marks) (λ a. done (adding E a st)) (sym (serve_all-asks 2 E qs (plain-none es) st) ∙ h) in
      let a = z.0 in
      let there = each_both (λ j. (x : Expression) × (nth E j.expression ≡ some x)) (λ j. j.row < 2) (λ j. (j.expression < 512) × (j.row < 2))
      (λ j f q. (omega (arith, nth-below E j.expression f.1, small), q)) a.jobs (all_found 2 E qs st.marks a z.1) (all-rows 2 E qs st.marks a (plain_rows es) z.1) in
      let marks : a.marks ≡ st'.marks = ap (λ (s : State). s.marks) (done-same (adding E a st) st' z.2) in
      subst Bounded (sym (all-marks 2 E qs st.marks a z.1) ∙ marks) (after-bounded st.marks a.jobs b there)

  pub built-bounded : (st : State) → Bounded st.marks → Bounded (after_build 2 E st).marks
  built-bounded st b e r n = rw (b e r n) (go (nth E e) refl (ltb r 2) refl)
    where
      both : (u : Bool) → (u && false) ≡ false
      both true = refl
      both false = refl

      go : (o : Option Expression) → nth E e ≡ o → (v : Bool) → ltb r 2 ≡ v → (released o && v) ≡ false
      go none p v q = refl
      go (some x) p true q = absurd (n (omega (arith, nth-below E e p, small)) (ltb-true r 2 q))
      go (some x) p false q = both (released (some x))
