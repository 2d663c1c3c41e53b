-- What one request is answered, with the row of document 01's table that says why: one of five.
-- Assumes nothing.
use Rattle.std.specs.Prelude.{ℕ, zero, suc, ◌<◌, ◌≤◌, ◌≡◌, refl, Bool, true, false, cond, length}
use Rattle.std.proofs.Common.{sym, ◌∙◌, arith}
use Rattle.std.proofs.Math.Option.{Option, none, some, none-ne-some}
use Rattle.meaning.specs.Refusals.{Answer, done, answer_no, ◌then◌}
use Rattle.meaning.specs.Trees.{Expression, Forest, Acyclic, nth}
use Rattle.meaning.specs.Steps.{Cell, Ref}
use Rattle.meaning.specs.Order.{Asked, there, ask}
use Rattle.meaning.specs.Generation.{State, Request, Result, result, copy_into, with_blocks, copy_out, plain_result, adding, generate, serve}
use Rattle.meaning.specs.Conditions.{Stands, Stepped, AsksResult, Marked, Unmarked, DoublePrimeFor, Refused3, Refused5, Refused7, Refused8}
use Rattle.meaning.proofs.Laws.Tests.{true-false, nth-below, nth_past}
use Rattle.meaning.proofs.Laws.Evaluations.{Evaluation, evaluation}
use Rattle.meaning.proofs.Laws.Standing.{Copying, copying, adding-stepped, generated-stands}

no_result : (q : Request) → q.result ≡ none → AsksResult q → ⊥
no_result q h w = none-ne-some w.0 (sym h ∙ w.1)

module _ (rows : ℕ) (E : Forest) where
  pub data Case (q : Request) (st : State) (a : Answer State) : Type 0 where
    three : Refused3 rows E q st → answer_no a ≡ 3 → Case q st a
    five : Refused5 rows E q st → answer_no a ≡ 5 → Case q st a
    seven : Refused7 rows E q st → answer_no a ≡ 7 → Case q st a
    eight : Refused8 rows E q st → answer_no a ≡ 8 → Case q st a
    served :
        (Refused3 rows E q st → ⊥) → (Refused5 rows E q st → ⊥) → (Refused7 rows E q st → ⊥) → (Refused8 rows E q st → ⊥) → answer_no a ≡ 0 →
        Case q st a

  module _ (acyclic : Acyclic E) (q : Request) (st : State) (stepped : Stepped st) where
    -- where its expression is there
    module _ (x : Expression) (found : nth E q.expression ≡ some x) where
      abbrev is_there : q.expression < length E
      is_there = nth-below E q.expression found

      not_lost : Refused3 rows E q st → ⊥
      not_lost h = let l = h.lost in omega (arith, is_there)

      -- with a mark
      marked_served : Marked q st → (AsksResult q → Stands q.expression q.row st.blocks) → (s : State) → Case q st (done s)
      marked_served m k s = Case.served not_lost (λ h. true-false m h.unmarked) (λ h. true-false m h.unmarked) (λ h. h.no_block (k h.asks)) refl

      marked_case : Marked q st → (o : Option Result) → q.result ≡ o → Case q st (copy_out q.expression q.row o st)
      marked_case m none p = marked_served m (λ w. absurd (no_result q p w)) st
      marked_case m (some (result k i)) p = go (copying q.expression q.row (Ref.var (Cell.cell k i q.row)) st.blocks stepped)
        where
          go :
              Copying q.expression q.row (Ref.var (Cell.cell k i q.row)) st.blocks →
              Case q st (with_blocks st (copy_into q.expression q.row (Ref.var (Cell.cell k i q.row)) st.blocks))
          go (Copying.copies s cs z w) = rw z (marked_served m (λ a. s) _)
          go (Copying.lacks n z) = rw z (Case.eight (record { there = is_there; marked = m; asks = (result k i, p); no_block = n }) refl)

      -- without
      module _ (u : Unmarked q st) where
        generated : (DoublePrimeFor rows E q st → ⊥) → (AsksResult q → 1 ≤ q.row → ⊥) → (s : State) → Case q st (done s)
        generated d k s = Case.served not_lost (λ h. d h.double) (λ h. k h.asks h.primed) (λ h. true-false h.marked u) refl

        -- its own block stands, so a result asked for it is copied
        copied_case :
            (a : Asked) → ask rows E q.fused q.expression q.row st.marks ≡ done a → (DoublePrimeFor rows E q st → ⊥) →
            (o : Option Result) → q.result ≡ o → (n : ℕ) → q.row ≡ n →
            Case q st ((plain_result n o then λ _. done (adding E a st)) then λ s. copy_out q.expression q.row o s)
        copied_case a h d none p n z = generated d (λ w. absurd (no_result q p w)) (adding E a st)
        copied_case a h d (some (result k i)) p zero z = go (copying q.expression q.row (Ref.var (Cell.cell k i q.row)) (adding E a st).blocks (adding-stepped E a st stepped))
          where
            go :
                Copying q.expression q.row (Ref.var (Cell.cell k i q.row)) (adding E a st).blocks →
                Case q st (with_blocks (adding E a st) (copy_into q.expression q.row (Ref.var (Cell.cell k i q.row)) (adding E a st).blocks))
            go (Copying.copies s cs y w) = rw y (generated d (λ v l. omega arith) _)
            go (Copying.lacks n y) = absurd (n (generated-stands rows E q.fused q.expression q.row x found st u a h))
        copied_case a h d (some w) p (suc n) z = Case.seven (record { there = is_there; unmarked = u; single = d; asks = (w, p); primed = omega arith }) refl

        unmarked_case : Case q st (generate rows E q st then λ s. copy_out q.expression q.row q.result s)
        unmarked_case = go (evaluation rows E acyclic q.fused q.expression q.row x found st.marks)
          where
            go :
                Evaluation rows E st.marks q.expression q.row (ask rows E q.fused q.expression q.row st.marks) →
                Case q st (generate rows E q st then λ s. copy_out q.expression q.row q.result s)
            go (Evaluation.accepted a h d) = rw h (copied_case a h d q.result refl q.row refl)
            go (Evaluation.five o h d) = rw h (Case.five (record { there = is_there; unmarked = u; double = d }) refl)

      found_case : (b : Bool) → st.marks q.expression q.row ≡ b → Case q st (cond b (done st) (generate rows E q st) then λ s. copy_out q.expression q.row q.result s)
      found_case true m = marked_case m q.result refl
      found_case false u = unmarked_case u

    -- ONE REQUEST
    pub cases : Case q st (serve rows E q st)
    cases = go (nth E q.expression) refl
      where
        go :
            (o : Option Expression) → nth E q.expression ≡ o →
            Case q st (there o then λ _. cond (st.marks q.expression q.row) (done st) (generate rows E q st) then λ s. copy_out q.expression q.row q.result s)
        go none f = Case.three (record { lost = nth_past E q.expression f }) refl
        go (some x) f = found_case x f (st.marks q.expression q.row) refl
