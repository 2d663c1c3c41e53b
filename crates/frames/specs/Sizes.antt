-- Laws of the size of a node frame.
-- Assumes nothing.
use Rattle.std.specs.Prelude.{◌≡◌, true, false, ℕ, ◌+◌, ◌*◌, ◌≤◌}
use Rattle.std.proofs.Common.{arith}
use Rattle.kinds.specs.Kinds.{carries_literal}
use Rattle.frames.specs.Nodes.{node_size}

pub size-with : (kind count : ℕ) → carries_literal kind ≡ true → node_size kind count ≡ 15 + 2 * count
unfolding node_size
size-with kind count h = simp h (omega arith)

pub size-without : (kind count : ℕ) → carries_literal kind ≡ false → node_size kind count ≡ 6 + 2 * count
unfolding node_size
size-without kind count h = simp h (omega arith)

pub size_room : (kind count : ℕ) → 6 + 2 * count ≤ node_size kind count
unfolding node_size
size_room kind count = omega arith
