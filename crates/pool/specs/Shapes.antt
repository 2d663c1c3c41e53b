-- The tests of a pool's shape as they stand in tables.
-- Assumes nothing: these are definitions.
use Rattle.std.specs.Prelude as std
use Rattle.std.specs.Prelude.{ℕ, zero, suc, ◌<◌, min, ◌≡◌, Bool, true, not, ◌&&◌, List, [], ◌∷◌, ◌++◌, length, get_or, eqb, leb}
use Rattle.std.proofs.Math.Option.{Option, none, some}
use Rattle.frames.specs.Order.{node_limit}
use Rattle.frames.specs.Tables.{kind_in, id_in, count_in}
use Rattle.pool.specs.Words.{c0_in, c1_in, c2_in, root_in}
use Rattle.kinds.specs.KindBytes as kind
use Rattle.kinds.specs.Kinds.{child_count}
use Rattle.pool.specs.Pool.{times}
use Rattle.pool.specs.Admission.{some_from}
use Rattle.pool.specs.Tabled.{children_in}

abbrev pub wrong_in : List ℕ → ℕ → Bool
wrong_in w i = not (eqb (count_in w i) (child_count (kind_in w i)))

unfoldable pub late_in : List ℕ → ℕ → Bool
late_in w i = some_from i (children_in w i)

-- all places of children are earlier, where it is told so
abbrev pub EarlierGiven : List ℕ → ℕ → Bool → Type 0
EarlierGiven w i r = r ≡ true → (c0_in w i < i) × (c1_in w i < i) × (c2_in w i < i)

-- in a table of uses, each counted up to two
abbrev pub twice_in : List ℕ → ℕ → Bool
twice_in u i = leb 2 (get_or u i 0)

unfoldable pub lost_in : List ℕ → ℕ → ℕ → Bool
lost_in w m i = eqb (kind_in w i) kind.exp && leb m (id_in w i)

abbrev pub lost_root_in : List ℕ → ℕ → ℕ → Bool
lost_root_in x n e = leb n (root_in x e)

-- the number that was found, where one was
abbrev pub found_at : std.Option ℕ → Option ℕ
found_at (std.Some n) = some n
found_at std.None = none

-- the children of the first n nodes, and the roots of the first m expressions
unfoldable pub child_uses_in : List ℕ → ℕ → List ℕ
child_uses_in w zero = []
child_uses_in w (suc n) = child_uses_in w n ++ children_in w n

unfoldable pub root_uses_in : List ℕ → ℕ → List ℕ
root_uses_in x zero = []
root_uses_in x (suc m) = root_uses_in x m ++ (root_in x m ∷ [])

-- a table of uses, each counted up to two
pub record Tallied (u : List ℕ) (us : List ℕ) : Type 0 where
  pub size : length u ≡ node_limit
  pub counts : (k : ℕ) → k < node_limit → get_or u k 0 ≡ min 2 (times k us)

-- what is tallied grows
abbrev pub Tallies : List ℕ → List ℕ → List ℕ → Type 0
Tallies u u' us = (vs : List ℕ) → Tallied u vs → Tallied u' (vs ++ us)
