-- What document 01 says of a kind byte. Of a byte that names no kind every test is false, and its child count is 0.
-- Assumes nothing: these are definitions.
use Rattle.std.specs.Prelude.{Bool, cond, not, ◌&&◌, ◌||◌, ℕ, eqb}
use Rattle.kinds.specs.Range.{within}
use Rattle.kinds.specs.KindBytes as kind

unfoldable pub is_operation : ℕ → Bool
is_operation k = within kind.add kind.neg k

unfoldable pub is_leaf : ℕ → Bool
is_leaf k = within kind.cm kind.x k

-- the kinds of a node
unfoldable pub is_node_kind : ℕ → Bool
is_node_kind k = is_operation k || is_leaf k

-- the kinds of a reference: those of leaves, and some of its own
unfoldable pub is_reference : ℕ → Bool
is_reference k = is_leaf k || within kind.tmp kind.Z k

-- a result asked for is a reference of any kind but number
unfoldable pub is_result : ℕ → Bool
is_result k = not (eqb k kind.number) && is_reference k

-- ids are 0 for operations, number and the x kinds
unfoldable pub carries_id : ℕ → Bool
carries_id k = within kind.cm kind.q k || within kind.public kind.eval k

-- a leaf of any other kind ignores its own next
unfoldable pub carries_next : ℕ → Bool
carries_next k = within kind.cm kind.q k

-- addc and mulc take a literal in the i64 range
unfoldable pub takes_i64 : ℕ → Bool
takes_i64 k = within kind.addc kind.mulc k

unfoldable pub carries_literal : ℕ → Bool
carries_literal k = eqb k kind.number || takes_i64 k

-- 3 for muladd, 2 for add, sub, mul, 1 for addc, mulc, neg, else 0
unfoldable pub child_count : ℕ → ℕ
child_count k = cond (eqb k kind.muladd) 3 (cond (within kind.add kind.mul k) 2 (cond (within kind.addc kind.neg k) 1 0))
