-- The members of a set listed in ascending order, and whether the words of a set are good for a pool.
-- Assumes nothing: these are definitions.
use Rattle.std.specs.Prelude.{ℕ, ◌≤◌, ◌≡◌, Bool, ◌&&◌, List, length, get_or, eqb}
use Rattle.kinds.specs.Write.{write}
use Rattle.frames.specs.Order.{expression_limit}
use Rattle.search_meaning.specs.Search.{all_below}
use Rattle.sets.specs.Members.{members}

-- at the front of a table, and how many they are
pub record Listed (w out out' : List ℕ) (r : ℕ) : Type 0 where
  pub list : out' ≡ write out 0 (members w)
  pub count : r ≡ length (members w)
  pub few : r ≤ expression_limit

-- the ninth word counts the members, and each is below m
unfoldable pub set_good : ℕ → List ℕ → Bool
set_good m w = eqb (get_or w 8 0) (length (members w)) && all_below m (members w)
