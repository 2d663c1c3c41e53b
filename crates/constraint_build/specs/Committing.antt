-- What planning and measuring one list, and making the second with the frames, ask and give, over tables.
-- Assumes nothing: these are definitions.
use Rattle.std.specs.Prelude.{ℕ, ◌-◌, ◌≤◌, ◌<◌, ◌≡◌, Bool, ◌&&◌, cond, List, length, leb, Option, Some, None, Result, Ok, Err}
use Rattle.std.proofs.Math.Option.{none}
use Rattle.meaning.specs.Refusals.{Refusal, Answer, done, refused, ◌then◌}
use Rattle.meaning.specs.Trees.{Acyclic}
use Rattle.meaning.specs.Order.{Job}
use Rattle.kinds.specs.Write.{write}
use Rattle.kinds.specs.Answers.{refusal_of, blame_of}
use Rattle.kinds.specs.declared.refusal.Refused.{Refused}
use Rattle.frames.specs.Order.{node_limit, expression_limit}
use Rattle.pool.specs.Pool.{Pool}
use Rattle.pool.specs.Trees.{forest}
use Rattle.pool.specs.Shaped.{Shaped}
use Rattle.starkinfo_codegen.specs.Emitting.{Rest, pool_of, RowFits}
use Rattle.requests.specs.Making.{E}
use Rattle.context.specs.Context.{Good}
use Rattle.codegen.specs.Said.{Said, said, segment_said}
use Rattle.codegen.specs.Building as building
use Rattle.codegen.specs.declared.build.Sizes as steps
use Rattle.constraint_pieces.specs.Marks.{AllBelow}
use Rattle.constraint_frames.specs.Extension.{bytes_of}
use Rattle.constraint_lists.specs.Lists.{list_said, step42ns_said, room_for, Written}
use Rattle.constraint_lists.specs.Planned.{ListAsks, TablesAsk}
use Rattle.constraint_lists.specs.Measuring.{final_said, Measured, MeasureAsks, Measures, measured_says}
use Rattle.constraint_build.specs.Both.{Lent, Totals, made_says}
use Rattle.constraint_build.specs.declared.answer.Sizes.{Sizes}
use Rattle.constraint_build.specs.declared.answer.Fit.{Fit}
use Rattle.constraint_build.specs.declared.answer.Made.{Made}

-- the rest of a pool in tables
abbrev pub rest_of : List ℕ → List ℕ → ℕ → ℕ → Rest
rest_of l x k m = record { literals = l; expressions = x; node_count = k; expression_count = m }

-- ── one list, planned and measured ───────────────────────────────────────────
-- an acyclic pool in tables, a context that is good for it with its list, and the caller's own tables
abbrev pub FitAsked : List ℕ → List ℕ → List ℕ → List ℕ → Lent → List ℕ → List ℕ → List ℕ → ℕ → Type 0
FitAsked w x ms qs u s t j m = (b : Rest) × (A : Acyclic (forest (pool_of w b))) × ListAsks w x b A ms qs u.context (length u.list) m × TablesAsk s t j

-- the jobs that make the list, over words as they were loaded, and whether there is room for it
pub record Fitted (w x : List ℕ) (b : Rest) (ms qs : List ℕ) (u : Lent) (s t j : List ℕ) (m : ℕ) (closes : Bool) (n : ℕ) (r : Measured) : Type 0 where
  pub jobs : List Job
  pub loaded : List ℕ
  pub planned : MeasureAsks w x b jobs j s loaded u.context u.list m n
  pub is : list_said (E w x b) ms qs closes (said u.context u.list) ≡ done (final_said (E w x b) jobs closes s u.context u.list)
  pub measures : Measures (E w x b) jobs closes s loaded t u.context u.list u.lists n r

-- WHAT IS SAID of a list
pub record FitSays (w x : List ℕ) (b : Rest) (ms qs : List ℕ) (u : Lent) (s t j : List ℕ) (m : ℕ) (closes : Bool) (r : Result Fit Refused) : Type 0 where
  pub unplanned : (f : Refused) → r ≡ Err f → list_said (E w x b) ms qs closes (said u.context u.list) ≡ refused (refusal_of f.refusal) (blame_of f.node)
  pub planned : (f : Fit) → r ≡ Ok f → Fitted w x b ms qs u s t j m closes f.n f.room

-- for whichever rest of an acyclic pool
abbrev pub FitGiven : List ℕ → List ℕ → List ℕ → List ℕ → Lent → List ℕ → List ℕ → List ℕ → ℕ → Bool → Result Fit Refused → Type 0
FitGiven w x ms qs u s t j m closes r =
    (b : Rest) (A : Acyclic (forest (pool_of w b))) → ListAsks w x b A ms qs u.context (length u.list) m → FitSays w x b ms qs u s t j m closes r

-- ── room for both ────────────────────────────────────────────────────────────
-- steps of both lists
abbrev pub sizes_with : steps.Sizes → steps.Sizes → Sizes
sizes_with s t = record { first = s.first; i = s.i; last = s.last; first_2ns = t.first; i_2ns = t.i; last_2ns = t.last }

abbrev pub joined : Measured → Measured → Option Sizes
joined None two = None
joined (Some s) None = None
joined (Some s) (Some t) = Some (sizes_with s t)

-- ── the second list and the frames ───────────────────────────────────────────
-- an admitted pool in tables whose rows fit, a context that is good for it, and members that are there
pub record SecondAsks (w l x ms : List ℕ) (v : Lent) (k m : ℕ) : Type 0 where
  pub shaped : Shaped (pool_of w (rest_of l x k m))
  pub acyclic : Acyclic (forest (pool_of w (rest_of l x k m)))
  pub nodes : k ≤ node_limit
  pub some : 0 < m
  pub expressions : m ≤ expression_limit
  pub rows : RowFits w (rest_of l x k m) 1
  pub members : AllBelow expression_limit ms
  pub good : Good v.context m (length v.list)

-- what is told of the second list, where the first has so many steps
abbrev pub totals_with : Pool → steps.Sizes → Said → Totals
totals_with q z t = record { sizes = sizes_with z (building.sizes (segment_said (forest q) t)); bytes = length (bytes_of q) }

-- THE ANSWER of the second list: fits says whether there is room for the first
abbrev pub fitting_second : Pool → Bool → Lent → ℕ → Said → Answer Said
fitting_second q fits v room t = cond (fits && (room_for (forest q) (length v.list) v.lists t && leb (length (bytes_of q)) room)) (done t) (refused Refusal.full none)

-- what stands after it
abbrev pub StandsSecond : Pool → Answer Said → Lent → List ℕ → Lent → List ℕ → Type 0
StandsSecond q (done t) v out v' out' = Written (forest q) v.context v.list v.lists t v'.context v'.list v'.lists × (out' ≡ write out 0 (bytes_of q))
StandsSecond q (refused k o) v out v' out' = (v' ≡ v) × (out' ≡ out)

pub record TellsSecond (q : Pool) (z : steps.Sizes) (a : Answer Said) (v : Lent) (out : List ℕ) (v' : Lent) (out' : List ℕ) (r : Result Made Refused) : Type 0 where
  pub says : made_says r ≡ (a then λ t. done (totals_with q z t))
  pub stands : StandsSecond q a v out v' out'

-- whatever the first list is, that was measured as `one`
abbrev pub SecondGiven : List ℕ → List ℕ → List ℕ → List ℕ → Measured → Lent → Lent → ℕ → ℕ → List ℕ → List ℕ → Result Made Refused → Type 0
SecondGiven w l x ms one v v' k m out out' r =
    let q = pool_of w (rest_of l x k m) in
    (fits : Bool) (z : steps.Sizes) → measured_says one ≡ cond fits (done z) (refused Refusal.full none) →
    TellsSecond q z (step42ns_said (forest q) ms (m - 1) (said v.context v.list) then λ t. fitting_second q fits v (length out) t) v out v' out' r
