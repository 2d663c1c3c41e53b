-- `kinds::kind::Kind::child_count` meets its contract. The table's rule is proved once, over all of its entries, by a test that antt computes.
-- Assumes nothing.
use Prim.Native.Nat.{ℕ, ◌<◌}
use mathlib.Core.Path.{◌≡◌}
use mathlib.Core.List.{List, [], ◌∷◌}
use native.Mathlib.Omega.{arith}
use lib.Dec.{eqb, eqb→eq}
use lib.ListN.{get_or}
use Rattle.kinds.specs.Range.{within, pass, value-over}
use Rattle.kinds.specs.Kinds.{child_count}
use Rattle.kinds.proofs.kind.Kind.child_count.Goals as goal

table : List ℕ
table = 0 ∷ 2 ∷ 2 ∷ 2 ∷ 3 ∷ 1 ∷ 1 ∷ 1 ∷ 0 ∷ 0 ∷ 0 ∷ 0 ∷ 0 ∷ 0 ∷ 0 ∷ 0 ∷ 0 ∷ 0 ∷ 0 ∷ 0 ∷ 0 ∷ 0 ∷ 0 ∷ 0 ∷ 0 ∷ 0 ∷ 0 ∷ []

rule : (k : ℕ) → k < 0x1b → get_or table k 0 ≡ child_count k
unfolding table child_count within
rule k h = eqb→eq (get_or table k 0) (child_count k) (pass (λ j. eqb (get_or table j 0) (child_count j)) 0x1b 0 tt k (omega arith))

pub returns-then-at-lt-TABLE_SIZE : goal.returns-then-at-lt-TABLE_SIZE
unfolding table
returns-then-at-lt-TABLE_SIZE c = rule c.args.kind (omega arith)

pub returns-else-at-lt-TABLE_SIZE : goal.returns-else-at-lt-TABLE_SIZE
unfolding child_count within
returns-else-at-lt-TABLE_SIZE c = value-over child_count 0 0x1b 0xff tt c.args.kind (omega arith)
