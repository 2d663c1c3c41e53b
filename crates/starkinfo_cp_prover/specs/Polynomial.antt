-- THE CONSTRAINT POLYNOMIAL FROM BYTES (generate_constraint_polynomial): what is answered to frames, identities, bits, a limit of visits, counts and two contexts, and
-- what stands in everything lent after it. The order of refusals: 1 and 9 while reading, 1 of a context, 2, 3 and 4 of the pool, the search's, 9 of the limits, 11, 5 of
-- step3, 5 of step42ns, and 9 of the rooms. Assumes nothing: these are definitions.
use Rattle.std.specs.Prelude.{ℕ, ◌≡◌, Bool, List, [], length, Result, Ok, Err}
use Rattle.std.proofs.Math.Option.{Option}
use Rattle.meaning.specs.Refusals.{Refusal, Answer, done, refused, ◌then◌}
use Rattle.kinds.specs.Answers.{refusal_of, blame_of}
use Rattle.kinds.specs.declared.refusal.Refused.{Refused}
use Rattle.frames.specs.Order.{Input}
use Rattle.frames.specs.Reading.{reading}
use Rattle.pool.specs.Pool.{Pool}
use Rattle.pool.specs.Trees.{forest}
use Rattle.pool.specs.Verdict.{Verdict}
use Rattle.pool.specs.Numbered.{pool_of}
use Rattle.search_meaning.specs.Search.{Choice, search}
use Rattle.sets.specs.Members.{members, Good}
use Rattle.context.specs.Context as context
use Rattle.context.specs.Context.{Exactly}
use Rattle.constraint_meaning.specs.Constraint.{Asked}
use Rattle.constraint_pool.specs.Judging.{judged}
use Rattle.constraint_frames.specs.Extension.{Question, pool_with, Back}
pub use Rattle.constraint_choice.specs.Choosing.{asked, question_of, OrMalformed, Accepts}
use Rattle.constraint_build.specs.Both.{Lent, Both, listing, Totals, totals_of, After}
use Rattle.starkinfo_cp_prover.specs.declared.answer.Generated.{Generated}

-- ── the answer ───────────────────────────────────────────────────────────────
-- what was chosen, the pool with the constraint, and what each context says before it is built from
pub record Polynomial : Type 0 where
  pub choice : Choice
  pub pool : Pool
  pub lists : Both

-- with a set that was chosen: the limits (9) and counts (11), then both lists
abbrev pub constrained : Pool → Question → Lent → Lent → ℕ → Answer Both
constrained p q u v room =
    judged (forest p) (length p.nodes) q.vc q.columns q.identities q.chosen then λ _.
    listing (pool_with p q) (length p.expressions) q.chosen u v room

abbrev pub chosen_by : Pool → Asked → Lent → Lent → ℕ → Choice → Answer Polynomial
chosen_by p a u v room x =
    constrained p (question_of a x) u v room then λ b. done (record { choice = x; pool = pool_with p (question_of a x); lists = b })

-- THE ANSWER of an admitted pool
abbrev pub generating : Pool → Asked → Lent → Lent → ℕ → Answer Polynomial
generating p a u v room =
    search (forest p) a.identities a.vc a.n_bits a.n_bits_ext a.limit then λ x. chosen_by p a u v room x

-- z is THE ANSWER to a pool: g and h say whether the contexts are good for it, v what admission says
abbrev pub Answers : Pool → Asked → Lent → Lent → ℕ → Answer Polynomial → Type 0
Answers p a u v room z =
    (g : Bool) × Exactly g (context.Good u.context (length p.expressions) (length u.list)) × OrMalformed g z
    ((h : Bool) × Exactly h (context.Good v.context (length p.expressions) (length v.list)) × OrMalformed h z
    ((y : Answer (Unit {0})) × Verdict p [] y × (z ≡ (y then λ _. generating p a u v room))))

-- where reading answers x
pub record Runs (x : Answer Input) (a : Asked) (u v : Lent) (room : ℕ) (z : Answer Polynomial) : Type 0 where
  pub unread : (k : Refusal) (o : Option ℕ) → x ≡ refused k o → z ≡ refused k o
  pub judged : (i : Input) → x ≡ done i → Answers (pool_of i) a u v room z

-- ── what is told ─────────────────────────────────────────────────────────────
pub record Told : Type 0 where
  pub q : ℕ
  pub visits : ℕ
  pub totals : Totals

abbrev pub told_of : Polynomial → Told
told_of y = record { q = y.choice.q; visits = y.choice.visits; totals = totals_of y.pool y.lists }

-- WHAT IS SAID
abbrev pub generated_says : Result Generated Refused → Answer Told
generated_says (Ok g) = done (record { q = g.q; visits = g.visits; totals = record { sizes = g.sizes; bytes = g.bytes } })
generated_says (Err f) = refused (refusal_of f.refusal) (blame_of f.node)

-- ── what stands after it ─────────────────────────────────────────────────────
-- the set's words hold the members
pub record Keeps (set w : List ℕ) : Type 0 where
  pub good : Good w
  pub is : members w ≡ set

-- on a refusal every byte and word is what it was
abbrev pub Stands : Answer Polynomial → Lent → Lent → List ℕ → List ℕ → Lent → Lent → List ℕ → List ℕ → Type 0
Stands (done y) u v out w u' v' out' w' = After y.pool y.lists u v out u' v' out' × Keeps y.choice.set w'
Stands (refused k o) u v out w u' v' out' w' = (u' ≡ u) × (v' ≡ v) × (out' ≡ out) × (w' ≡ w)

-- AN ANSWER TOLD, and everything lent after it
pub record Tells (z : Answer Polynomial) (u v : Lent) (out w : List ℕ) (u' v' : Lent) (out' w' : List ℕ) (r : Result Generated Refused) : Type 0 where
  pub says : generated_says r ≡ (z then λ y. done (told_of y))
  pub stands : Stands z u v out w u' v' out' w'

-- THE CONTRACT
pub record GeneratedIs (s : List ℕ) (a : Asked) (u v : Lent) (out w : List ℕ) (u' v' : Lent) (out' w' : List ℕ) (r : Result Generated Refused) : Type 0 where
  pub answer : Answer Polynomial
  pub runs : Runs (reading s) a u v (length out) answer
  pub tells : Tells answer u v out w u' v' out' w' r
  -- of an admitted pool, a set that was chosen for it and limits that it keeps: the pool with the constraint is admitted, stands for the extended forest, and its frames
  -- are read as it
  pub back : (i : Input) → reading s ≡ done i → Verdict (pool_of i) [] (done tt) → (x : Choice) → Accepts (pool_of i) a x → Back (pool_of i) (question_of a x)
