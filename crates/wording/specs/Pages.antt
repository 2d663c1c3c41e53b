-- Text put on a page, after what is used of it.
-- Assumes nothing: these are definitions.
use Rattle.std.specs.Prelude.{ℕ, ◌≤◌}

-- where a text ends that is put after the first `used` bytes of a page of this size
pub record Puts (used r size : ℕ) : Type 0 where
  pub after : used ≤ r
  pub within : r ≤ size
