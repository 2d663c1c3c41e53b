-- What making both lists asks and gives, over tables that hold the pool with its constraint.
-- Assumes nothing: these are definitions.
use Rattle.std.specs.Prelude.{ℕ, ◌-◌, ◌≤◌, ◌<◌, List, length, Result}
use Rattle.meaning.specs.Trees.{Acyclic}
use Rattle.kinds.specs.declared.refusal.Refused.{Refused}
use Rattle.frames.specs.Order.{node_limit, expression_limit}
use Rattle.pool.specs.Trees.{forest}
use Rattle.pool.specs.Shaped.{Shaped}
use Rattle.starkinfo_codegen.specs.Emitting.{pool_of, RowFits}
use Rattle.context.specs.Context.{Good}
use Rattle.constraint_pieces.specs.Marks.{AllBelow}
use Rattle.constraint_build.specs.Both.{Lent, listing, Tells}
use Rattle.constraint_build.specs.Committing.{rest_of}
use Rattle.constraint_build.specs.declared.answer.Made.{Made}

-- an admitted pool in tables whose rows fit, two contexts that are good for it, and members that are there
pub record MakeAsks (w l x ms : List ℕ) (u v : Lent) (k m : ℕ) : Type 0 where
  pub shaped : Shaped (pool_of w (rest_of l x k m))
  pub acyclic : Acyclic (forest (pool_of w (rest_of l x k m)))
  pub nodes : k ≤ node_limit
  pub some : 0 < m
  pub expressions : m ≤ expression_limit
  pub rows : RowFits w (rest_of l x k m) 1
  pub members : AllBelow expression_limit ms
  pub few : length ms ≤ expression_limit
  pub good : Good u.context m (length u.list)
  pub good_2ns : Good v.context m (length v.list)

abbrev pub MakeAsked : List ℕ → List ℕ → List ℕ → List ℕ → Lent → Lent → ℕ → ℕ → Type 0
MakeAsked w l x ms u v k m = MakeAsks w l x ms u v k m

abbrev pub MakeGiven : List ℕ → List ℕ → List ℕ → List ℕ → Lent → Lent → Lent → Lent → ℕ → ℕ → List ℕ → List ℕ → Result Made Refused → Type 0
MakeGiven w l x ms u u' v v' k m out out' r =
    let q = pool_of w (rest_of l x k m) in Tells q (listing q (m - 1) ms u v (length out)) u v out u' v' out' r
