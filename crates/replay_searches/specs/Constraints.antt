-- The definition of the constraint polynomial run on stored questions, and its answers as numbers, to be compared with the original's.
-- Assumes nothing: these are definitions.
use Rattle.std.specs.Prelude.{ℕ, ◌+◌, ◌*◌, Bool, true, ◌&&◌, List, [], ◌∷◌, ◌++◌}
use Rattle.std.proofs.Math.Option.{some}
use Rattle.meaning.specs.Refusals.{number, Answer, done, refused}
use Rattle.meaning.specs.Trees.{Lit, lit, Op, OpC, Leaf, Expr, Forest}
use Rattle.meaning.specs.Steps.{Kind, kind_no}
use Rattle.meaning.specs.Generation.{State, start, serve}
use Rattle.meaning.specs.Building.{after_build}
use Rattle.replay_meaning.specs.Replay.{Command, request, build, sign_no, counted, state_numbers, segment_numbers, same}
use Rattle.constraint_meaning.specs.Tree.{Intermediate, extended}
use Rattle.constraint_meaning.specs.Constraint.{Built, Asked, Made, constrain}

abbrev pub asked : List ℕ → ℕ → ℕ → ℕ → ℕ → ℕ → ℕ → ℕ → Asked
asked es n ext limit a b k vc =
    record { identities = es; vc = vc; n_bits = n; n_bits_ext = ext; limit = some limit; n_cm1 = a; n_cm2 = b; commitments = k }

-- a pool, its nodes, what is asked, what was done to the two contexts before, and the original's answer
pub data Vector : Type 0 where
  vector : Forest → ℕ → Asked → List Command → List Command → List ℕ → Vector

-- ── a tree in prefix order, each node after its number ───────────────────────
abbrev op_no : Op → ℕ
op_no Op.add = 0x01
op_no Op.sub = 0x02
op_no Op.mul = 0x03

abbrev opc_no : OpC → ℕ
opc_no OpC.addc = 0x05
opc_no OpC.mulc = 0x06

abbrev literal_numbers : Lit → List ℕ
literal_numbers (lit s m) = sign_no s ∷ m ∷ []

abbrev leaf_number : ℕ → ℕ → ℕ → ℕ
leaf_number kind ahead i = (kind * 256 + ahead) * 65536 + i

abbrev leaf_numbers : Leaf → List ℕ
leaf_numbers (Leaf.cell k i a) = leaf_number (kind_no (Kind.row k)) a i ∷ []
leaf_numbers (Leaf.exp i a) = leaf_number (kind_no Kind.exp) a i ∷ []
leaf_numbers (Leaf.number l) = leaf_number 0x14 0 0 ∷ literal_numbers l
leaf_numbers (Leaf.flat k i) = leaf_number (kind_no (Kind.flat k)) 0 i ∷ []
leaf_numbers (Leaf.x k) = leaf_number (kind_no (Kind.x k)) 0 0 ∷ []

abbrev tree_numbers : Expr → List ℕ
tree_numbers (Expr.leaf n l) = n ∷ leaf_numbers l
tree_numbers (Expr.bin n o a b) = n ∷ op_no o ∷ tree_numbers a ++ tree_numbers b
tree_numbers (Expr.muladd n a b c) = n ∷ 0x04 ∷ tree_numbers a ++ (tree_numbers b ++ tree_numbers c)
tree_numbers (Expr.binc n o a l) = n ∷ opc_no o ∷ literal_numbers l ++ tree_numbers a
tree_numbers (Expr.neg n a) = n ∷ 0x07 ∷ tree_numbers a

-- ── an answer ────────────────────────────────────────────────────────────────
abbrev member_numbers : List Intermediate → List ℕ
member_numbers [] = []
member_numbers (m ∷ ms) = m.expression ∷ m.cm ∷ member_numbers ms

abbrev built_numbers : Forest → Built → List ℕ
built_numbers E b = segment_numbers b.segment ++ state_numbers E b.context

-- 0, q, visits, the set, the intermediates, the nodes of the pool with the constraint, its tree, n_cm3, n_cm4, n_commitments, qs, the lists
abbrev made_numbers : Forest → Made → List ℕ
made_numbers E m =
    (0 ∷ m.choice.q ∷ m.choice.visits ∷ counted m.choice.set)
    ++ (counted (member_numbers m.intermediates)
    ++ ((m.constraint.free ∷ counted (tree_numbers m.constraint.tree))
    ++ ((m.n_cm3 ∷ m.n_cm4 ∷ m.commitments ∷ counted m.qs)
    ++ (built_numbers (extended E m.constraint.tree) m.step3
    ++ built_numbers (extended E m.constraint.tree) m.step42ns))))

abbrev numbers : Forest → Answer Made → List ℕ
numbers E (done m) = made_numbers E m
numbers E (refused r n) = number r ∷ []

-- ── a context after commands, each of which is accepted ──────────────────────
abbrev or_same : State → Answer State → State
or_same st (done st') = st'
or_same st (refused r n) = st

abbrev after : Forest → List Command → State → State
after E [] st = st
after E (request q ∷ cs) st = after E cs (or_same st (serve 2 E q st))
after E (build ∷ cs) st = after E cs (after_build 2 E st)

abbrev agrees : Vector → Bool
agrees (vector E nodes a first second expected) =
    same (numbers E (constrain 2 E nodes (after E first start) (after E second start) a)) expected

-- each answer is the original's
abbrev pub agree : List Vector → Bool
agree [] = true
agree (v ∷ vs) = agrees v && agree vs
