-- What printing steps asks for.
-- Assumes nothing: these are definitions.
use Rattle.std.specs.Prelude.{ℕ, ◌*◌, ◌≤◌}
use Rattle.kinds.specs.Steps.{step_size}

pub record PrintAsked (list page used steps : ℕ) : Type 0 where
  pub there : step_size * steps ≤ list
  pub room : used ≤ page
