-- A full degree as a byte: capped at 18, above every degree limit, and 255 where a kind that has none is met.
-- Assumes nothing: these are definitions.
use Rattle.std.specs.Prelude.{ℕ, ◌+◌, min, max, cond, eqb, ltb}
use Rattle.std.proofs.Math.Option.{Option, none, some}
use Rattle.kinds.specs.KindBytes as kind
use Rattle.kinds.specs.Range.{within}

abbrev pub no_degree : ℕ
no_degree = 255

abbrev pub unknown : ℕ
unknown = 254

abbrev pub coded : Option ℕ → ℕ
coded none = no_degree
coded (some n) = min 18 n

unfoldable pub times_code : ℕ → ℕ → ℕ
times_code a b = cond (ltb 18 (max a b)) no_degree (min 18 (a + b))

-- a leaf that names no expression, by its kind
unfoldable pub leaf_code : ℕ → ℕ
leaf_code k =
    cond (eqb k kind.q) no_degree
    (cond (within kind.number kind.eval k) 0
    (cond (within kind.x_div_x_sub_xi kind.x_div_x_sub_w_xi k) no_degree 1))
