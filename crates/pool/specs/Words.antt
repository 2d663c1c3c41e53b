-- The children of a node and the root of an expression, as they stand in tables.
-- Assumes nothing: these are definitions.
use Rattle.std.specs.Prelude.{ℕ, List}
use Rattle.frames.specs.Tables.{child_in, expression_in}

abbrev pub c0_in : List ℕ → ℕ → ℕ
c0_in w n = child_in w n 0

abbrev pub c1_in : List ℕ → ℕ → ℕ
c1_in w n = child_in w n 1

abbrev pub c2_in : List ℕ → ℕ → ℕ
c2_in w n = child_in w n 2

abbrev pub root_in : List ℕ → ℕ → ℕ
root_in x e = (expression_in x e).root
