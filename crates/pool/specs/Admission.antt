-- Admission: refusals 2, 3 and 4 of a pool, each over the whole pool, in that order.
-- Assumes nothing: these are definitions.
use Rattle.std.specs.Prelude.{ℕ, zero, suc, ◌<◌, ◌≡◌, Bool, false, not, ◌&&◌, ◌||◌, cond, List, [], ◌∷◌, ◌⊎◌, length, eqb, leb}
use Rattle.std.proofs.Math.Option.{Option, none, some}
use Rattle.meaning.specs.Refusals.{Refusal, Answer, done, refused, ◌then◌}
use Rattle.meaning.specs.Trees.{RowKind, Leaf, nth, Placed, ◌at◌, leaves, Member}
use Rattle.kinds.specs.KindBytes as kind
use Rattle.kinds.specs.Kinds.{child_count}
use Rattle.pool.specs.Pool.{Pool, node, root_of, children, uses, times}
use Rattle.pool.specs.Trees.{tree}

-- the least number from k on, below k + m, of which a test holds
abbrev pub first_from : (ℕ → Bool) → ℕ → ℕ → Option ℕ
first_from f k zero = none
first_from f k (suc m) = let r = first_from f (suc k) m in cond (f k) (some k) r

abbrev pub first : (ℕ → Bool) → ℕ → Option ℕ
first f m = first_from f 0 m

-- ── what a node or an expression may not be ──────────────────────────────────
-- 2: its child count differs from the table
abbrev pub wrong_count : Pool → ℕ → Bool
wrong_count p n = not (eqb (node p n).count (child_count (node p n).kind))

abbrev pub some_from : ℕ → List ℕ → Bool
some_from n [] = false
some_from n (c ∷ cs) = leb n c || some_from n cs

-- 3: a child that is not earlier
abbrev pub late_child : Pool → ℕ → Bool
late_child p n = some_from n (children (node p n))

-- 3: two uses
abbrev pub used_twice : Pool → ℕ → Bool
used_twice p n = leb 2 (times n (uses p))

-- 3: an exp leaf whose expression is not there
abbrev pub lost_leaf : Pool → ℕ → Bool
lost_leaf p n = eqb (node p n).kind kind.exp && leb (length p.expressions) (node p n).id

-- 3: a root that is not there
abbrev pub lost_root : Pool → ℕ → Bool
lost_root p e = leb (length p.nodes) (root_of p e)

-- no number has it, or the refusal with the node to blame
abbrev pub unless : Refusal → (ℕ → Option ℕ) → Option ℕ → Answer (Unit {0})
unless r blame none = done tt
unless r blame (some n) = refused r (blame n)

-- REFUSALS 2 AND 3. A root that is not there has no node to blame.
unfoldable pub shape : Pool → Answer (Unit {0})
shape p =
    let n = length p.nodes in
    unless Refusal.child_count some (first (wrong_count p) n) then λ _.
    unless Refusal.not_there some (first (late_child p) n) then λ _.
    unless Refusal.not_there some (first (used_twice p) n) then λ _.
    unless Refusal.not_there some (first (lost_leaf p) n) then λ _.
    unless Refusal.not_there (λ e. none) (first (lost_root p) (length p.expressions))

-- ── refusal 4 ────────────────────────────────────────────────────────────────
-- The expression that a leaf leads to: an exp leaf its own, a q leaf that of a table from q numbers, which is empty for a pool.
abbrev pub leads_to : List ℕ → Placed → Option ℕ
leads_to table (Leaf.cell RowKind.cm i a at n) = none
leads_to table (Leaf.cell RowKind.const i a at n) = none
leads_to table (Leaf.cell RowKind.q i a at n) = nth table i
leads_to table (Leaf.exp i a at n) = some i
leads_to table (Leaf.number l at n) = none
leads_to table (Leaf.flat k i at n) = none
leads_to table (Leaf.x k at n) = none

-- a leaf of expression e leads to expression t
pub record Edge (p : Pool) (table : List ℕ) (e t : ℕ) : Type 0 where
  pub source : e < length p.expressions
  pub leaf : Placed
  pub stands : Member leaf (leaves (tree p (root_of p e)))
  pub leads : leads_to table leaf ≡ some t

-- one leaf after another
pub data Walk (p : Pool) (table : List ℕ) : ℕ → ℕ → Type 0 where
  one : {e t : ℕ} → Edge p table e t → Walk p table e t
  more : {e u t : ℕ} → Walk p table e u → Edge p table u t → Walk p table e t

-- REFUSAL 4: a walk that comes back to where it began
abbrev pub ClosedWalk : Pool → List ℕ → Type 0
ClosedWalk p table = (e : ℕ) × Walk p table e e

-- node n is a leaf of an expression that leads to u, which is that expression or leads on to it
pub record LeadsBack (p : Pool) (table : List ℕ) (u n : ℕ) : Type 0 where
  pub expression : ℕ
  pub source : expression < length p.expressions
  pub leaf : Leaf
  pub stands : Member (leaf at n) (leaves (tree p (root_of p expression)))
  pub leads : leads_to table (leaf at n) ≡ some u
  pub back : (u ≡ expression) ⊎ Walk p table u expression

-- a leaf on a cycle
abbrev pub OnCycle : Pool → List ℕ → ℕ → Type 0
OnCycle p table n = (u : ℕ) × LeadsBack p table u n

-- THE NODE TO BLAME for refusal 4: the smallest leaf on a cycle
pub record FirstOnCycle (p : Pool) (table : List ℕ) (n : ℕ) : Type 0 where
  pub on : OnCycle p table n
  pub least : (m : ℕ) → m < n → OnCycle p table m → ⊥

-- ranks that fall along every leaf, below the number of expressions
pub record Ranked (p : Pool) (table : List ℕ) (rank : ℕ → ℕ) : Type 0 where
  pub below : (e : ℕ) → e < length p.expressions → rank e < length p.expressions
  pub falls : (e t : ℕ) → Edge p table e t → rank t < rank e
