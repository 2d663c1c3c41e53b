-- STEP42NS COMPUTES THE CONSTRAINT: after any list that leaves in the cell of each member its value at each row, its steps run and leave in the constraint's cell the constraint's value.
-- Assumes nothing.
use Rattle.std.specs.Prelude.{ℕ, ◌<◌, ◌≡◌, refl, false, List, ◌++◌, length}
use Rattle.std.proofs.Common.{sym, ◌∙◌, ap, subst, append_assoc}
use Rattle.std.proofs.Math.Option.{some}
use Rattle.meaning.specs.Refusals.{done}
use Rattle.meaning.specs.Trees.{Expr, Forest, Each}
use Rattle.meaning.specs.Steps.{Step}
use Rattle.meaning.specs.Values.{Algebra, Given}
use Rattle.meaning.specs.Running.{Store, empty, run}
use Rattle.meaning.specs.Generation.{State, make, serve}
use Rattle.meaning.specs.Building.{every}
use Rattle.meaning.specs.Demand3.{Throughout, Fed, Held}
use Rattle.meaning.proofs.Laws.Jobs.{asks}
use Rattle.meaning.proofs.Laws.Blocks.{Inv, add-blocks}
use Rattle.meaning.proofs.Laws.Requests.{every_append}
use Rattle.constraint_meaning.specs.Tree.{extended}
use Rattle.constraint_meaning.specs.Constraint.{plain_request, marked}
use Rattle.constraint_meaning.specs.Ranks.{unflagged, nth-constraint}
use Rattle.constraint_meaning.specs.Closing.{served-adding, not-member}

module _ (𝓐 : Algebra) (G : Given 𝓐.A) (rows : ℕ) (E : Forest) (t : Expr) where
  abbrev with_constraint : Forest
  with_constraint = extended E t

  -- the list runs to its end, and the constraint's cell holds its value
  pub record Runs (xs : List Step) : Type 0 where
    pub end : Store 𝓐.A
    pub runs : run 𝓐 G xs empty ≡ some end
    pub held : Held 𝓐 G (extended E t) end (length E) 0

  -- THE STEPS OF THE CONSTRAINT after a list that runs and holds what the second context marks: the members' values among others
  pub constraint-runs :
      Throughout (Fed rows G) (extended E t) → (members : List ℕ) (st st' : State) →
      Each (λ e. e < length E) members → st.marks (length E) 0 ≡ false →
      (xs : List Step) → Inv 𝓐 G (extended E t) (marked rows members st).marks (xs ++ every st.blocks) →
      serve rows (extended E t) (plain_request (length E)) (marked rows members st) ≡ done st' → Runs (xs ++ every st'.blocks)
  constraint-runs fed members st st' below unmarked xs v h =
      let E' = with_constraint in
      let c = length E in
      let st₀ = marked rows members st in
      let u : st₀.marks c 0 ≡ false = rw (unmarked, not-member c members below) refl in
      let z = served-adding rows E' (unflagged t) c (nth-constraint E t) st₀ st' u h in
      let a = z.0 in
      let g = asks rows E' false c 0 st₀.marks a z.1 in
      let made = (make E' a.jobs st₀.counter).blocks in
      let k = add-blocks 𝓐 G E' rows fed a.jobs st₀.counter st₀.marks (xs ++ every st.blocks) v g.0.fine in
      let whole : (xs ++ every st.blocks) ++ every made ≡ xs ++ every st'.blocks =
      append_assoc xs (every st.blocks) (every made) ∙ ap (λ l. xs ++ l) (sym (every_append st.blocks made) ∙ ap (λ s. every s.blocks) z.2) in
      record {
        end = k.end;
        runs = subst (λ l. run 𝓐 G l empty ≡ some k.end) whole k.runs;
        held = k.holds c 0 (sym (ap (λ m. m c 0) g.0.marks) ∙ g.1);
      }
