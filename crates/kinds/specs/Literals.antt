-- Literals: no minus zero, and the i64 range, with both of its edges.
-- Assumes nothing.
use Rattle.std.specs.Prelude.{◌≡◌, refl, Bool, true, false, cond, not, ◌&&◌, ◌||◌, ℕ, zero, suc, ◌+◌, ◌-◌, ◌^◌, ◌≤◌, ◌<◌, leb, eqb, ℤ, pos, neg_ℤ}
use Rattle.std.proofs.Common.{arith, SFits, le-leb, leb-true}
use Rattle.std.specs.Int.Signed.{mag}
use Rattle.std.specs.Int.{w64}
use Rattle.kinds.specs.Kinds.{takes_i64}
use Rattle.kinds.specs.declared.literal.Literal.{Literal}

unfoldable pub is_minus_zero : Literal → Bool
is_minus_zero l = l.negative && eqb l.magnitude 0

-- at most 2^63 - 1, and with a minus at most 2^63
unfoldable pub fits_i64 : Literal → Bool
fits_i64 l = leb l.magnitude (cond l.negative (2 ^ 63) (2 ^ 63 - 1))

-- a literal that a node of kind k may bring
unfoldable pub is_allowed : Literal → ℕ → Bool
is_allowed l k = not (is_minus_zero l) && (not (takes_i64 k) || fits_i64 l)

abbrev pub plus : ℕ → Literal
plus n = record { negative = false; magnitude = n }

abbrev pub minus : ℕ → Literal
minus n = record { negative = true; magnitude = n }

-- ---- the edges

largest-fits : fits_i64 (plus (2 ^ 63 - 1)) ≡ true
unfolding fits_i64
largest-fits = refl

one-more-does-not : fits_i64 (plus (2 ^ 63)) ≡ false
unfolding fits_i64
one-more-does-not = refl

least_fits : fits_i64 (minus (2 ^ 63)) ≡ true
unfolding fits_i64
least_fits = refl

one_less_does-not : fits_i64 (minus (2 ^ 63 + 1)) ≡ false
unfolding fits_i64
one_less_does-not = refl

-- ---- the range is that of an i64 of the machine

unfoldable pub value_of : Literal → ℤ
value_of l = cond l.negative (neg_ℤ (pos l.magnitude)) (pos l.magnitude)

pub fits-held : (l : Literal) → fits_i64 l ≡ true → SFits w64 (value_of l)
unfolding fits_i64 value_of
fits-held l e = record { sfits = by l.negative l.magnitude (leb-true _ _ e) }
  where
    by : (b : Bool) (n : ℕ) → n ≤ cond b (2 ^ 63) (2 ^ 63 - 1) → mag (cond b (neg_ℤ (pos n)) (pos n)) < 2 ^ 63
    by true zero h = omega arith
    by true (suc n) h = omega arith
    by false n h = omega arith

pub held_fits : (l : Literal) → SFits w64 (value_of l) → fits_i64 l ≡ true
unfolding fits_i64 value_of
held_fits l s = le-leb _ _ (by l.negative l.magnitude s.sfits)
  where
    by : (b : Bool) (n : ℕ) → mag (cond b (neg_ℤ (pos n)) (pos n)) < 2 ^ 63 → n ≤ cond b (2 ^ 63) (2 ^ 63 - 1)
    by true zero h = omega arith
    by true (suc n) h = omega arith
    by false n h = omega arith
