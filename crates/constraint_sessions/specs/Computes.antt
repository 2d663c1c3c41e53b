-- STEP42NS, OF BYTES, COMPUTES THE CONSTRAINT: the first list that was written is steps that, after any list that leaves what the second context marks, the members'
-- values among others, run and leave in the constraint's cell the constraint's value; and then q = that cell · Zi.
-- Assumes nothing.
use Rattle.std.specs.Prelude.{ℕ, ◌<◌, ◌≡◌, length}
use Rattle.std.proofs.Common.{sym, ◌∙◌}
use Rattle.std.proofs.Math.Path.{ap}
use mathlib.Core.List.{List, [], ◌∷◌, ◌++◌}
use Rattle.meaning.specs.Refusals.{done}
use Rattle.meaning.specs.Trees.{Expr, Forest, Each}
use Rattle.meaning.specs.Steps.{Ref, StepOp, Step, step, exp_cell}
use Rattle.meaning.specs.Values.{Algebra, Given}
use Rattle.meaning.specs.Generation.{State}
use Rattle.meaning.specs.Building.{every}
use Rattle.meaning.specs.Demand3.{Throughout, Fed}
use Rattle.meaning.proofs.Laws.Blocks.{Inv}
use Rattle.kinds.specs.Write.{write}
use Rattle.frames.specs.Order.{expression_limit}
use Rattle.starkinfo_codegen.specs.Encoding.{encoded}
use Rattle.context.specs.Context.{Good}
use Rattle.codegen.specs.Said.{Said, said}
use Rattle.codegen.specs.Building.{Lists}
use Rattle.codegen.specs.Sessions.{Holds}
use Rattle.constraint_meaning.specs.Tree.{extended}
use Rattle.constraint_meaning.specs.Constraint.{marked, quotient_ref, zi_ref}
use Rattle.constraint_meaning.specs.Runs.{Runs, constraint-runs}
use Rattle.constraint_pieces.specs.Marks.{AllBelow}
use Rattle.constraint_lists.specs.Lists.{step42ns_said, Written}
use Rattle.constraint_sessions.specs.LastStep.{unmarked, step42ns-closes}

-- q = the cell of expression c, at this row, · Zi
abbrev pub last_step : ℕ → List Step
last_step c = step StepOp.mul quotient_ref (Ref.var (exp_cell c 0) ∷ zi_ref ∷ []) ∷ []

module _ (E : Forest) (t : Expr) (few : length E < expression_limit) (x l : List ℕ) (room : ℕ) (good : Good x (length E) room) (st : State) (holds : Holds x l st) (members : List ℕ) where
  -- the bytes of the first list, and what its steps compute
  pub record Computes (𝓐 : Algebra) (G : Given 𝓐.A) (before : List Step) (o o' : Lists) : Type 0 where
    pub steps : List Step
    pub bytes : o'.first ≡ write o.first 0 (encoded (steps ++ last_step (length E)))
    pub runs : Runs 𝓐 G 2 E t (before ++ steps)

  pub step42ns-computes :
      AllBelow expression_limit members → Each (λ e. e < length E) members → (s : Said) → step42ns_said (extended E t) members (length E) (said x l) ≡ done s →
      (o : Lists) (x' l' : List ℕ) (o' : Lists) → Written (extended E t) x l o s x' l' o' →
      (𝓐 : Algebra) (G : Given 𝓐.A) → Throughout (Fed 2 G) (extended E t) → (before : List Step) →
      Inv 𝓐 G (extended E t) (marked 2 members st).marks (before ++ every st.blocks) → Computes 𝓐 G before o o'
  unfolding encoded
  step42ns-computes low below s h o x' l' o' w 𝓐 G fed before v =
      let z = step42ns-closes E t few x l room good st holds members low below s h o x' l' o' w in
      let u = ap (λ (q : Said). q.marks (length E) 0) (sym holds.says) ∙ unmarked x l (length E) room few good in
      let k = z.1 in
      record {
        steps = every k.state.blocks;
        bytes = ap (λ (p : Lists). p.first) z.2.lists ∙ ap (λ (q : List Step). write o.first 0 (encoded q)) k.first;
        runs = constraint-runs 𝓐 G 2 E t fed members st k.state below u before v k.served;
      }
