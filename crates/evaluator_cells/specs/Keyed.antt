-- The answer's bytes as they are made of keys and values.
-- Assumes nothing: these are definitions.
use Rattle.std.specs.Prelude.{ℕ, zero, suc, ◌+◌, ◌*◌, ◌/◌, ◌%◌, ◌<◌, ◌≤◌, List, [], ◌∷◌, ◌++◌, get_or}
use Rattle.kinds.specs.BigEndian.{u16_bytes}
use Rattle.output.specs.Output.{u64_bytes}
use Rattle.evaluator_cells.specs.Cells.{cell_limit, id_limit}

abbrev pub valued_size : ℕ
valued_size = 12

-- kind, prime, id, value
unfoldable pub keyed_bytes : ℕ → ℕ → List ℕ
keyed_bytes key v = (key / id_limit / 2 ∷ key / id_limit % 2 ∷ []) ++ u16_bytes (key % id_limit) ++ u64_bytes v

-- the first n cells of a table
unfoldable pub keyed_to : List ℕ → List ℕ → ℕ → List ℕ
keyed_to ks vs zero = []
keyed_to ks vs (suc n) = keyed_to ks vs n ++ keyed_bytes (get_or ks n 0) (get_or vs n 0)

-- a key of a kind byte, with a prime of 0 or 1, is below this
abbrev pub key_limit : ℕ
key_limit = 0x2000000

pub record KeyedAsks (room at key : ℕ) : Type 0 where
  pub fits : at + valued_size ≤ room
  pub small : key < key_limit

pub record KeyedAllAsk (ks : List ℕ) (n room : ℕ) : Type 0 where
  pub few : n ≤ cell_limit
  pub fits : valued_size * n ≤ room
  pub small : (j : ℕ) → j < n → get_or ks j 0 < key_limit
