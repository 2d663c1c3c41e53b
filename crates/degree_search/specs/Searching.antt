-- FROM FRAMES TO THE CHOICE: what the search over an admitted pool, over tables and from a slice of frames answers.
-- Assumes nothing: these are definitions.
use Rattle.std.specs.Prelude.{ℕ, ◌≤◌, ◌≡◌, List, [], Result}
use Rattle.std.proofs.Math.Option.{Option, some}
use Rattle.meaning.specs.Refusals.{Refusal, Answer, done, refused, ◌then◌}
use Rattle.search_meaning.specs.Search.{Choice, search}
use Rattle.kinds.specs.declared.refusal.Refused.{Refused}
use Rattle.frames.specs.Order.{Input}
use Rattle.frames.specs.Reading.{reading}
use Rattle.frames.specs.declared.count.Counts.{Counts}
use Rattle.pool.specs.Pool.{Pool}
use Rattle.pool.specs.Trees.{forest}
use Rattle.pool.specs.Verdict.{Verdict}
use Rattle.pool.specs.Numbered.{pool_of}
use Rattle.pool.specs.Tabled.{tabled}
use Rattle.pool.specs.Ranking.{Tabling}
use Rattle.full_degrees.specs.Table.{World}
use Rattle.degree_search.specs.Choosing.{searched_says, SetAfter, Tells}
use Rattle.degree_search.specs.declared.choose.Found.{Found}

-- what is asked for beside a pool: identities, the number of "vc", n_bits, n_bits_ext and the visits allowed
pub record Question : Type 0 where
  pub identities : List ℕ
  pub vc : ℕ
  pub bits : ℕ
  pub bits_ext : ℕ
  pub limit : ℕ

abbrev pub searched : Pool → Question → Answer Choice
searched p q = search (forest p) q.identities q.vc q.bits q.bits_ext (some q.limit)

-- THE ANSWER to a pool and a question: 2, 3 or 4 of the pool, or what the search answers
abbrev pub Answers : Pool → Question → Answer Choice → Type 0
Answers p q a = (v : Answer (Unit {0})) × Verdict p [] v × (a ≡ (v then λ _. searched p q))

-- a is THE ANSWER where reading answers x: its refusal, or that of the pool and the question
pub record Runs (x : Answer Input) (q : Question) (a : Answer Choice) : Type 0 where
  pub unread : (k : Refusal) (o : Option ℕ) → x ≡ refused k o → a ≡ refused k o
  pub judged : (i : Input) → x ≡ done i → Answers (pool_of i) q a

-- ── of an admitted pool, and of tables ───────────────────────────────────────
abbrev pub asking : List ℕ → ℕ → ℕ → ℕ → ℕ → Question
asking es vc b e limit = record { identities = es; vc = vc; bits = b; bits_ext = e; limit = limit }

abbrev pub AdmittedAsked : List ℕ → List ℕ → ℕ → ℕ → Type 0
AdmittedAsked v x n m = (l : List ℕ) × (rank : (ℕ → ℕ)) × World (Tabling v l x n m) rank

-- whatever the number of "vc"
abbrev pub AdmittedGiven : List ℕ → List ℕ → List ℕ → List ℕ → List ℕ → ℕ → ℕ → ℕ → ℕ → ℕ → Result Found Refused → Type 0
AdmittedGiven v x es w w' b e limit n m r =
    (l : List ℕ) (rank : ℕ → ℕ) → World (Tabling v l x n m) rank → (vc : ℕ) → Tells (searched (tabled (Tabling v l x n m)) (asking es vc b e limit)) w w' r

-- what was read is within the limits
pub record PoolAsked (c : Counts) : Type 0 where
  pub nodes : c.nodes ≤ 4096
  pub expressions : c.expressions ≤ 512

abbrev pub PoolGiven : List ℕ → List ℕ → List ℕ → List ℕ → List ℕ → ℕ → ℕ → ℕ → Counts → Result Found Refused → Type 0
PoolGiven v x es w w' b e limit c r =
    (l : List ℕ) (vc : ℕ) → (a : Answer Choice) × Answers (tabled (Tabling v l x c.nodes c.expressions)) (asking es vc b e limit) a × Tells a w w' r

-- WHAT THE CODE'S Result SAYS, with the set that stands beside it
abbrev pub outcome_says : Result Found Refused → List ℕ → Answer Choice
outcome_says = searched_says

-- the answer, and the lent set after it
pub record RunIs (x : Answer Input) (q : Question) (w w' : List ℕ) (r : Result Found Refused) : Type 0 where
  pub answer : Answer Choice
  pub runs : Runs x q answer
  pub says : outcome_says r w' ≡ answer
  pub set : SetAfter answer w w'

abbrev pub SearchGiven : List ℕ → List ℕ → List ℕ → List ℕ → ℕ → ℕ → ℕ → Result Found Refused → Type 0
SearchGiven s es w w' b e limit r = (vc : ℕ) → RunIs (reading s) (asking es vc b e limit) w w' r
