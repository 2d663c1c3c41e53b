-- THE LAST STEP OF STEP42NS, of bytes: in a context that is good for the pool without the constraint nothing beyond that pool is marked, so the list that was written
-- ends with q = the constraint's cell · Zi.
-- Assumes nothing.
use Rattle.std.specs.Prelude.{ℕ, ◌<◌, ◌≤◌, ◌≡◌, false, List, length, get_or, drop}
use Rattle.std.proofs.Common.{sym, ◌∙◌, ap, arith, get_or-take, get_or-drop}
use Rattle.meaning.specs.Refusals.{done}
use Rattle.meaning.specs.Trees.{Expr, Forest, Each}
use Rattle.meaning.specs.Generation.{State}
use Rattle.frames.specs.Order.{expression_limit}
use Rattle.starkinfo_codegen.specs.Ordering.{cell_of, marks_of}
use Rattle.context.specs.Context.{marks_at, cells, Good}
use Rattle.context.specs.Tables.{marks_in}
use Rattle.codegen.specs.Said.{Said, said}
use Rattle.codegen.specs.Building.{Lists}
use Rattle.codegen.specs.Sessions.{Holds}
use Rattle.constraint_meaning.specs.Tree.{extended}
use Rattle.constraint_meaning.specs.Constraint.{Built}
use Rattle.constraint_meaning.specs.Ranks.{length-extended}
use Rattle.constraint_meaning.specs.Closing.{Closes, closing-product}
use Rattle.constraint_pieces.specs.Marks.{AllBelow}
use Rattle.constraint_lists.specs.Lists.{step42ns_said, Written}
use Rattle.constraint_sessions.specs.Stood.{Stood, step42ns_stood}

-- no mark beyond the pool that a context is good for
pub unmarked : (x l : List ℕ) (m room : ℕ) → m < 512 → Good x m room → (said x l).marks m 0 ≡ false
unfolding marks_of
unmarked x l m room few g =
    let c = cell_of m 0 in
    let low : c < cells = omega arith in
    let z : get_or (marks_in x) c 0 ≡ 0 = get_or-take cells (drop marks_at x) c 0 low ∙ get_or-drop marks_at x c 0 ∙ (g.marks c low).marked_there (omega arith) in
    rw z

-- where a context is good for the pool E alone, and the constraint is its next expression
pub step42ns-closes :
    (E : Forest) (t : Expr) → length E < expression_limit → (x l : List ℕ) (room : ℕ) → Good x (length E) room → (st : State) → Holds x l st → (members : List ℕ) →
    AllBelow expression_limit members → Each (λ e. e < length E) members → (s : Said) → step42ns_said (extended E t) members (length E) (said x l) ≡ done s →
    (o : Lists) (x' l' : List ℕ) (o' : Lists) → Written (extended E t) x l o s x' l' o' →
    (b : Built) × Closes 2 (extended E t) members (length E) st b × Stood o b x' l' o'
step42ns-closes E t few x l room good st holds members low below s h o x' l' o' w =
    let size : length (extended E t) ≤ expression_limit = omega (arith, length-extended E t, few) in
    let z = step42ns_stood (extended E t) size x l good.head.size st holds members (length E) low s h o x' l' o' w in
    let u : st.marks (length E) 0 ≡ false = ap (λ (q : Said). q.marks (length E) 0) (sym holds.says) ∙ unmarked x l (length E) room few good in
    (z.0, closing-product 2 E t members st z.0 below u z.1, z.2)
