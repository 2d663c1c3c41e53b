-- THE EXPORTED PIECES OF THE CONSTRAINT: the answer to a call is the one that `constraint_pieces` or `constraint_frames` defines, told as its number.
-- Assumes nothing: these are definitions.
use Rattle.std.specs.Prelude.{ℕ, ◌≡◌, List, length, set}
use Rattle.meaning.specs.Refusals.{Answer, done, refused, answer_no, ◌then◌}
use Rattle.frames.specs.Order.{Input}
use Rattle.frames.specs.Reading.{reading}
use Rattle.pool.specs.Numbered.{pool_of}
use Rattle.sets.specs.Members.{members}
use Rattle.codegen.specs.Said.{Said}
use Rattle.codegen.specs.Written.{Stands}
use Rattle.constraint_pool.specs.declared.judge.Columns.{Columns}
use Rattle.constraint_pieces.specs.Marking.{MarkAnswered, StandsMarked}
use Rattle.constraint_pieces.specs.Closing.{CloseAnswered}
use Rattle.constraint_frames.specs.Extension.{asking, Extension, Runs, room_after, Back}
use Rattle.constraint_frames.specs.declared.answer.Numbers.{Numbers}

-- members es of a pool of m expressions, marked in context x
abbrev pub MarkNumbered : List ℕ → ℕ → List ℕ → List ℕ → List ℕ → ℕ → Type 0
MarkNumbered es m x x' l n = (a : Answer Said) × MarkAnswered es m x l a × (n ≡ answer_no a) × StandsMarked es a x x'

-- the closing product, put into context x and list l of a pool of m expressions
abbrev pub CloseNumbered : ℕ → List ℕ → List ℕ → List ℕ → List ℕ → ℕ → Type 0
CloseNumbered m x x' l l' n = (a : Answer Said) × CloseAnswered m x l a × (n ≡ answer_no a) × Stands a x l x' l'

abbrev pub columns : ℕ → ℕ → ℕ → ℕ → Columns
columns a b c q = record { commitments = c; n_cm1 = a; n_cm2 = b; quotients = q }

-- six numbers written where the constraint was added
abbrev pub numbers_told : Answer Numbers → List ℕ → List ℕ
numbers_told (done k) o = set (set (set (set (set (set o 0 k.expression) 1 k.n_cm3) 2 k.n_cm4) 3 k.first_q) 4 k.commitments) 5 k.size
numbers_told (refused k i) o = o

-- the pool of frames s with the constraint of the identities and of the set w, as frames in the room o, whose numbers are told in z; those frames are read as that pool
pub record PoolNumbered (s ids w : List ℕ) (vc : ℕ) (c : Columns) (o o' z z' : List ℕ) (n : ℕ) : Type 0 where
  pub answer : Answer Extension
  pub runs : Runs (reading s) w (asking ids (members w) vc c) (length o) answer
  pub number : n ≡ answer_no answer
  pub room : o' ≡ room_after o answer
  pub told : z' ≡ numbers_told (answer then λ e. done e.numbers) z
  pub back : (i : Input) → reading s ≡ done i → (e : Extension) → answer ≡ done e → Back (pool_of i) (asking ids (members w) vc c)
