-- What admission answers: refusals 2, 3 and 4 of a pool, and the row of each as a person would state it.
-- Assumes nothing: these are definitions.
use Rattle.std.specs.Prelude.{ℕ, ◌<◌, ◌≤◌, ◌≡◌, List, ◌⊎◌, length}
use Rattle.std.proofs.Math.Option.{Option, some}
use Rattle.meaning.specs.Trees.{Member}
use Rattle.meaning.specs.Refusals.{Refusal, Answer, done, refused}
use Rattle.kinds.specs.KindBytes as kind
use Rattle.kinds.specs.Kinds.{child_count}
use Rattle.pool.specs.Pool.{Pool, node, root_of, children, uses, times}
use Rattle.pool.specs.Admission.{shape, FirstOnCycle, Ranked}

module _ (p : Pool) where
  -- 2: some node's child count differs from the table
  abbrev pub SomeWrongCount : Type 0
  SomeWrongCount = (n : ℕ) × (n < length p.nodes) × ((node p n).count ≡ child_count (node p n).kind → ⊥)

  -- 3: some node has a child that is not earlier
  abbrev pub SomeLateChild : Type 0
  SomeLateChild = (n : ℕ) × (n < length p.nodes) × ((c : ℕ) × Member c (children (node p n)) × (n ≤ c))

  -- 3: some node has two uses, as a child or as a root
  abbrev pub SomeUsedTwice : Type 0
  SomeUsedTwice = (n : ℕ) × (n < length p.nodes) × (2 ≤ times n (uses p))

  -- 3: some exp leaf's expression is not there
  abbrev pub SomeLostLeaf : Type 0
  SomeLostLeaf = (n : ℕ) × (n < length p.nodes) × ((node p n).kind ≡ kind.exp) × (length p.expressions ≤ (node p n).id)

  -- 3: some root is not there
  abbrev pub SomeLostRoot : Type 0
  SomeLostRoot = (e : ℕ) × (e < length p.expressions) × (length p.nodes ≤ root_of p e)

  abbrev pub SomeNotThere : Type 0
  SomeNotThere = SomeLateChild ⊎ (SomeUsedTwice ⊎ (SomeLostLeaf ⊎ SomeLostRoot))

  -- THE VERDICT on a pool and a table from q numbers to expressions: 2 and 3 as `shape` computes them; then 4 with the smallest leaf on a cycle, or ranks.
  abbrev pub Ends : List ℕ → Answer (Unit {0}) → Type 0
  Ends table a = ((n : ℕ) × (a ≡ refused Refusal.cycle (some n)) × FirstOnCycle p table n) ⊎ ((a ≡ done tt) × ((rank : ℕ → ℕ) × Ranked p table rank))

  pub record Verdict (table : List ℕ) (a : Answer (Unit {0})) : Type 0 where
    pub refuses : (r : Refusal) (n : Option ℕ) → shape p ≡ refused r n → a ≡ refused r n
    pub decides : shape p ≡ done tt → Ends table a
