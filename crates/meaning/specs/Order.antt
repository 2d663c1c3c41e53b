-- Which blocks a request makes, and in which order: pil_code_gen and calculate_deps.
-- Assumes nothing: these are definitions.
use Rattle.std.specs.Prelude.{ℕ, zero, suc, ◌+◌, Bool, true, false, ◌&&◌, ◌||◌, cond, List, [], ◌∷◌, ◌++◌, length, eqb, ltb}
use Rattle.std.proofs.Math.Option.{Option, none, some}
use Rattle.meaning.specs.Refusals.{Refusal, Answer, done, refused, ◌then◌}
use Rattle.meaning.specs.Trees.{Leaf, Expr, Forest, nth, Placed, ◌at◌, leaves}
use Rattle.meaning.specs.Fusing.{fuse}

-- a mark per row and expression
abbrev pub Marks : Type 0
Marks = ℕ → ℕ → Bool

abbrev pub unmarked : Marks
unmarked = λ e r. false

abbrev pub marking : Marks → ℕ → ℕ → Marks
marking m e r = λ e' r'. (eqb e e' && eqb r r') || m e' r'

-- a block to be made: its expression, its row, is it fused?
pub record Job : Type 0 where
  pub expression : ℕ
  pub row : ℕ
  pub fused : Bool

-- what a request adds: the blocks in order, and the marks after them
pub record Asked : Type 0 where
  pub jobs : List Job
  pub marks : Marks

abbrev pub nothing : Marks → Asked
nothing m = record { jobs = []; marks = m }

-- the tree that is emitted
abbrev pub asked : Bool → Expr → Expr
asked fused t = cond fused (fuse t) t

abbrev pub there : {A : Type 0} → Option A → Answer A
there none = refused Refusal.not_there none
there (some a) = done a

module _ (rows : ℕ) where
  -- a leaf reads a row that there is: with two rows, no next under a prime
  abbrev pub in_rows : Leaf → ℕ → Bool
  in_rows (Leaf.cell k i a) r = ltb (r + a) rows
  in_rows (Leaf.exp i a) r = ltb (r + a) rows
  in_rows (Leaf.number l) r = true
  in_rows (Leaf.flat k i) r = true
  in_rows (Leaf.x k) r = true

  -- only where the leaf at node n reads such a row
  abbrev pub primed : Leaf → ℕ → ℕ → Answer (Unit {0})
  primed l n r = cond (in_rows l r) (done tt) (refused Refusal.double_prime (some n))

  -- a tree's own leaves, in the order of its emission
  abbrev pub own : List Placed → ℕ → Answer (Unit {0})
  own [] r = done tt
  own ((l at n) ∷ ls) r = primed l n r then λ _. own ls r

  -- an exp leaf asks for its expression
  abbrev pub ask_leaf : (ℕ → ℕ → Marks → Answer Asked) → Leaf → ℕ → ℕ → Marks → Answer Asked
  ask_leaf ask (Leaf.cell k i a) n r m = done (nothing m)
  ask_leaf ask (Leaf.exp i a) n r m = primed (Leaf.exp i a) n r then λ _. ask i (r + a) m
  ask_leaf ask (Leaf.number l) n r m = done (nothing m)
  ask_leaf ask (Leaf.flat k i) n r m = done (nothing m)
  ask_leaf ask (Leaf.x k) n r m = done (nothing m)

  -- calculate_deps: from left to right
  abbrev pub ask_leaves : (ℕ → ℕ → Marks → Answer Asked) → List Placed → ℕ → Marks → Answer Asked
  ask_leaves ask [] r m = done (nothing m)
  ask_leaves ask ((l at n) ∷ ls) r m =
      ask_leaf ask l n r m then λ a.
      ask_leaves ask ls r a.marks then λ b.
      done (record { jobs = a.jobs ++ b.jobs; marks = b.marks })

  module _ (E : Forest) where
    -- an expression without a mark: its dependencies first, in the tree as it is written, then its own block
    abbrev pub fresh : (ℕ → ℕ → Marks → Answer Asked) → Bool → ℕ → ℕ → Marks → Answer Asked
    fresh ask fused e r m =
        there (nth E e) then λ x.
        ask_leaves ask (leaves x.tree) r m then λ a.
        own (leaves (asked fused x.tree)) r then λ _.
        done (record { jobs = a.jobs ++ (record { expression = e; row = r; fused = fused } ∷ []); marks = marking a.marks e r })

    -- pil_code_gen. A marked expression asks for nothing; a dependency is never fused. Past m levels of expressions there is a cycle.
    abbrev pub ask_below : ℕ → Bool → ℕ → ℕ → Marks → Answer Asked
    ask_below zero fused e r m = refused Refusal.cycle none
    ask_below (suc k) fused e r m = cond (m e r) (done (nothing m)) (fresh (ask_below k false) fused e r m)

    abbrev pub ask : Bool → ℕ → ℕ → Marks → Answer Asked
    ask fused e r m = ask_below (length E) fused e r m
