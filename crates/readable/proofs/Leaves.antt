-- A leaf's own next, added to this row's number, fits a byte. No word of the code.
-- Assumes nothing.
use Prim.Native.Nat.{ℕ, ◌+◌, ◌≤◌}
use mathlib.Core.List.{List}
use native.Mathlib.Omega.{arith}
use Rattle.frames.specs.Tables.{next_in}
use Rattle.starkinfo_codegen.specs.Words.{node_of_words}

pub next_fits : (nodes : List ℕ) (i : ℕ) → 0 + (node_of_words nodes i).next ≤ 255
unfolding next_in
next_fits nodes i = omega arith
