-- Where a block ends.
-- Assumes nothing: these are definitions.
use Rattle.std.specs.Prelude.{ℕ, ◌+◌, ◌*◌, ◌≤◌, ◌<◌, ◌≡◌, List}
use Rattle.kinds.specs.KindBytes as kind
use Rattle.kinds.specs.Steps.{step_size, step_at}

-- the kind of the cell that step k writes
abbrev pub writes : List ℕ → ℕ → ℕ
writes list k = (step_at list (step_size * k)).dest.kind

pub record EndAsked (size from steps : ℕ) : Type 0 where
  pub begun : from < steps
  pub there : step_size * steps ≤ size

-- THE FIRST STEP FROM `from` ON THAT WRITES AN EXP, or the last of all
pub record EndGiven (list : List ℕ) (from steps r : ℕ) : Type 0 where
  pub after : from ≤ r
  pub within : r < steps
  pub none_before : (k : ℕ) → k < r → from ≤ k → writes list k ≡ kind.exp → ⊥
  pub writes_exp : r + 1 < steps → writes list r ≡ kind.exp
