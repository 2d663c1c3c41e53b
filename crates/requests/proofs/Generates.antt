-- Requests decided and then written: jobs that were planned may be counted and made, and fit or do not. No word of the code.
-- Assumes nothing.
use Prim.Native.Nat.{ℕ, ◌+◌, ◌*◌, ◌-◌, ◌<◌, ◌≤◌}
use mathlib.Core.Path.{◌≡◌, refl, sym, subst}
use mathlib.Core.Bool.{true, false}
use mathlib.Core.List.{List}
use native.Mathlib.Omega.{arith}
use lib.ListN.{length}
use lib.Dec.{leb, ltb}
use borrow.Author.Tests.{leb-true, ltb-true, lt-ltb, le-leb, lt-leb}
use Rattle.std.specs.Prelude.{Result, Ok, Err, Option}
use Rattle.meaning.specs.Refusals.{Answer, refused}
use Rattle.meaning.specs.Trees.{Forest, Acyclic}
use Rattle.meaning.specs.Order.{Job, Asked}
use Rattle.meaning.specs.Generation.{make}
use Rattle.meaning.specs.Asking.{ask_all}
use Rattle.meaning.proofs.Laws.Tests.{true-false, and_left, and_right}
use Rattle.kinds.specs.Write.{write}
use Rattle.kinds.specs.Answers.{refusal_of, blame_of}
use Rattle.kinds.specs.declared.refusal.Refusal.{Refusal}
use Rattle.kinds.specs.declared.refusal.Refusal.TheVariants as refusal
use Rattle.kinds.specs.declared.refusal.Refused.{Refused}
use Rattle.kinds.specs.Steps.{step_size}
use Rattle.frames.specs.Order.{node_limit}
use Rattle.pool.specs.Trees.{forest}
use Rattle.pool.specs.Laws.Tabled.{node-count}
use Rattle.starkinfo_codegen.specs.Encoding.{encoded}
use Rattle.starkinfo_codegen.specs.Emitting.{Rest, tables_of, pool_of}
use Rattle.starkinfo_codegen.specs.Ordering.{marks_of}
use Rattle.starkinfo_codegen.specs.Totals.{counter_is, room-suffices}
use Rattle.requests.specs.Planning.{request_at, requests_in, Adds, OfRequest, Says}
use Rattle.requests.specs.Making.{steps_from, all_steps, JobsAsk, SizeIs, Room}
use Rattle.requests.specs.Generating.{number_limit, has_room, FitAsks, Fits, Makes, Overflows, Stops, Serves, GenerateAsks}
use Rattle.requests.specs.Jobs.{steps-count, enough-steps}
use Rattle.requests.specs.Jobs as jobs

-- ── what a plan says ─────────────────────────────────────────────────────────
module _ (y : Answer Asked) (s' j j' : List ℕ) (p : Result ℕ Refused) (g : Says y s' j j' 0 p) where
  pub planned : {n : ℕ} → p ≡ Ok n → Adds y s' j j' 0 n
  planned e = subst (Says y s' j j' 0) e g

  -- no request is refused for want of room
  pub stopped : {f : Refused} → p ≡ Err f → (E : Forest) (l : List ℕ) (at t : ℕ) → Serves E y s' j j' l l at t (Err f)
  stopped {f} e E l at t = go f.refusal f.node (subst (Says y s' j j' 0) e g)
    where
      go : (r : Refusal) (i : Option ℕ) → (y ≡ refused (refusal_of r) (blame_of i)) × OfRequest r → Stops E y s' j j' l l at t r i
      go refusal.NotThere i h = (h.0, refl)
      go refusal.DoublePrime i h = (h.0, refl)
      go r i h = absurd h.1

-- ── room ─────────────────────────────────────────────────────────────────────
module _ (room at t jobs steps : ℕ) where
  pub no_room : room < step_size * (at + steps) → false ≡ has_room room at t jobs steps
  unfolding has_room
  no_room h = rw (lt-leb (step_size * (at + steps)) room h)

  pub list-room : step_size * (at + steps) ≤ room → ltb (t + (steps - jobs)) 65536 ≡ has_room room at t jobs steps
  unfolding has_room
  list-room h = rw (le-leb (step_size * (at + steps)) room h)

  room-both : has_room room at t jobs steps ≡ true → (step_size * (at + steps) ≤ room) × (t + (steps - jobs) < number_limit)
  unfolding has_room
  room-both h = (
    leb-true (step_size * (at + steps)) room (and_left (leb (step_size * (at + steps)) room) (ltb (t + (steps - jobs)) number_limit) h),
    ltb-true (t + (steps - jobs)) number_limit (and_right (leb (step_size * (at + steps)) room) (ltb (t + (steps - jobs)) number_limit) h),
  )

  room-there : step_size * (at + steps) ≤ room → t + (steps - jobs) < number_limit → has_room room at t jobs steps ≡ true
  unfolding has_room
  room-there h g = rw (le-leb (step_size * (at + steps)) room h, lt-ltb (t + (steps - jobs)) number_limit g)

-- room for the most is room for any
pub roomy : (size at t n : ℕ) {v : ℕ} → v ≤ 8192 → has_room size at t 0 8192 ≡ true → true ≡ has_room size at t n v
roomy size at t n {v} l h =
    let g = room-both size at t 0 8192 h in
    sym (room-there size at t n v (omega (arith, g.0, l)) (omega (arith, g.1, l)))

module _ (w x : List ℕ) (b : Rest) (js : List Job) {j : List ℕ} {n at t : ℕ} (a : FitAsks w x b js j n at t) where
  pub most-sizes : (at ≤ 65535) × (t ≤ 65535) × (0 ≤ 8192) × (8192 ≤ 4194304)
  most-sizes = (omega (arith, a.steps), omega (arith, a.temporaries), omega arith, omega arith)

  pub sizes : {v : ℕ} → SizeIs w x b js n v → (at ≤ 65535) × (t ≤ 65535) × (n ≤ v) × (v ≤ 4194304)
  sizes z = (omega (arith, a.steps), omega (arith, a.temporaries), z.some, omega (arith, z.small, a.jobs.few))

-- ── jobs that were planned ───────────────────────────────────────────────────
module _ (w x : List ℕ) (b : Rest) (A : Acyclic (forest (pool_of w b))) {r s j : List ℕ} {m count at t : ℕ} (a : GenerateAsks w x b A r s j m count at t) where
  abbrev G : Forest
  G = forest (pool_of w b)

  abbrev X : Answer Asked
  X = ask_all 2 G (requests_in r count) (marks_of s)

  module _ {s' j' : List ℕ} {n : ℕ} (d : Adds X s' j j' 0 n) where
    pub jobs-ask : JobsAsk w x b d.jobs j' n
    jobs-ask = jobs.jobs-ask w x b A a.plan d

    -- their steps: two for each node at most, and one for each job at least
    abbrev total : ℕ
    total = all_steps G d.jobs

    steps_are : length (steps_from G d.jobs t) ≡ total
    steps_are = steps-count G d.jobs t

    most : total ≤ 8192
    most =
        let pool = a.plan.world.pool in
        let nodes : length (pool_of w b).nodes ≤ node_limit = omega (arith, node-count (tables_of w b), pool.few) in
        let rows = jobs.each_first (λ q. q.row < 2) (request_at r) count a.plan.in_rows in
        let k = room-suffices (pool_of w b) pool.shaped nodes A (requests_in r count) (marks_of s) _ t rows d.is in
        omega (arith, k, steps_are)

    least : n ≤ total
    least = omega (arith, enough-steps w x b d.jobs jobs-ask.there, jobs-ask.count)

    pub fit-asks : FitAsks w x b d.jobs j' n at t
    fit-asks = record { jobs = jobs-ask; most = most; steps = a.steps; temporaries = a.temporaries }

    counter-is-v : (make G d.jobs t).counter ≡ t + (total - n)
    counter-is-v = omega (arith, counter_is G d.jobs t (jobs.jobs-found w x b A a.plan d), steps_are, least, d.count)

    module _ {size : ℕ} where
      pub room : has_room size at t n total ≡ true → Room w x b d.jobs at t size
      room h =
          let g = room-both size at t n total h in
          record { rows = a.rows; fits = g.0; counter = omega (arith, g.1, least, d.count) }

      fits : has_room size at t n total ≡ true → Fits G d.jobs at t size
      fits h =
          let g = room-both size at t n total h in
          record { list = omega (arith, g.0, steps_are); counter = omega (arith, g.1, counter-is-v) }

      over : has_room size at t n total ≡ false → Fits G d.jobs at t size → ⊥
      over h f = true-false (room-there size at t n total (omega (arith, f.list, steps_are)) (omega (arith, f.counter, counter-is-v))) h

    pub makes :
        (l : List ℕ) {l' : List ℕ} {end : ℕ} → has_room (length l) at t n total ≡ true →
        (l' ≡ write l (step_size * at) (encoded (steps_from G d.jobs t))) × (end ≡ at + total) → Makes G X s' j j' l l' at t n (end - at)
    makes l h e = record { adds = d; fits = fits h; count = omega (arith, e.1, steps_are); list = e.0 }

    pub overflows : (l : List ℕ) → has_room (length l) at t n total ≡ false → Overflows G X s' j j' l l at t
    overflows l h = record { jobs = d.jobs; marks = marks_of s'; is = d.is; over = over h; kept = refl }
