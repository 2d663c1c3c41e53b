-- What writing a tree asks for.
-- Assumes nothing: these are definitions.
use Rattle.std.specs.Prelude.{ℕ, ◌≤◌, ◌<◌}

pub record LeafAsked (size used i : ℕ) : Type 0 where
  pub room : used ≤ size
  pub node : i < 4096

pub record TreeAsked (size used below : ℕ) : Type 0 where
  pub room : used ≤ size
  pub nodes : below ≤ 4096
