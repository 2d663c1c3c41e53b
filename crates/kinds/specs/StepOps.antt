-- What document 01 says of a step byte. A byte that names no step needs no source.
-- Assumes nothing: these are definitions.
use Rattle.std.specs.Prelude.{Bool, cond, ◌||◌, ℕ, eqb}
use Rattle.kinds.specs.Range.{within}
use Rattle.kinds.specs.OpBytes as op

unfoldable pub is_step : ℕ → Bool
is_step o = eqb o op.copy || within op.add op.muladd o

unfoldable pub sources_needed : ℕ → ℕ
sources_needed o = cond (eqb o op.copy) 1 (cond (eqb o op.muladd) 3 (cond (within op.add op.mul o) 2 0))
