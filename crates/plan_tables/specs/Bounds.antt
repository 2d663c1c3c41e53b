-- How large offsets get: with bits in their range none wraps, whatever the widths of two bytes. Assumes nothing: these are definitions.
use Rattle.std.specs.Prelude.{ℕ, ◌≤◌, ◌≡◌}

-- n_bits_ext is at most 28, and n_bits no more
pub record BitsFew (n e : ℕ) : Type 0 where
  pub few : n ≤ 28
  pub extended : e ≤ 28

-- r is x, and at most a limit
pub record Below (r x limit : ℕ) : Type 0 where
  pub is : r ≡ x
  pub most : r ≤ limit

-- 2^28 rows, each of a width of two bytes
abbrev pub row_limit : ℕ
row_limit = 0x10000000

abbrev pub size_limit : ℕ
size_limit = 0x100000000000
