-- How tightly the operations of a tree bind as they are written, and how tightly an operand must bind to stand without brackets.
-- Assumes nothing: these are definitions.
use Rattle.std.specs.Prelude.{ℕ, Bool, true, cond, eqb, ltb}
use Rattle.kinds.specs.KindBytes as kind
use Rattle.kinds.specs.Range.{within}

-- 0 a sum, 1 a product, 2 a leaf or what brings its own brackets
unfoldable pub binding : ℕ → ℕ
binding k = cond (eqb k kind.mul) 1 (cond (eqb k kind.mulc) 1 (cond (within kind.add kind.addc k) 0 2))

-- a negation has its own brackets; anything else has them where it binds less than its place asks
unfoldable pub in_brackets : ℕ → ℕ → Bool
in_brackets k place = cond (eqb k kind.neg) true (ltb (binding k) place)

-- what is negated is in brackets already; a * b + c is a sum whose first operand is a factor
unfoldable pub first_place : ℕ → ℕ
first_place k = cond (eqb k kind.neg) 0 (cond (eqb k kind.muladd) 1 (binding k))

unfoldable pub second_place : ℕ → ℕ
second_place k = cond (within kind.mul kind.muladd k) 2 1
