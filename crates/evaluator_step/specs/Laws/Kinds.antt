-- Each reference kind but number has its kind of meaning.
-- Assumes nothing.
use Rattle.std.specs.Prelude.{ℕ, ◌≤◌, ◌≡◌, refl, Bool, true, false, not, ◌||◌, eqb, ltb}
use Rattle.std.proofs.Common.{sym, arith, ltb-true, ltb-false, eqb-true}
use Rattle.std.proofs.Math.Option.{Option, none, some}
use Rattle.kinds.specs.KindBytes as kind
use Rattle.kinds.specs.Kinds.{is_reference, is_leaf}
use Rattle.kinds.specs.Range.{within, within-above, true-over}
use Rattle.meaning.specs.Steps.{Kind, kind_no}
use Rattle.meaning.proofs.Laws.Tests.{true-false}
use Rattle.lists.specs.Decoding.{kind_from}

abbrev is_back : Option Kind → ℕ → Bool
is_back none b = false
is_back (some k) b = eqb (kind_no k) b

abbrev kind_right : ℕ → Bool
kind_right b = not (is_reference b) || (eqb b kind.number || is_back (kind_from b) b)

past-none : (b : ℕ) → 256 ≤ b → is_reference b ≡ false
unfolding is_reference is_leaf
past-none b h = rw (within-above kind.cm kind.x b (omega arith), within-above kind.tmp kind.Z b (omega arith))

right-all : (b : ℕ) → kind_right b ≡ true
unfolding is_reference is_leaf within kind_from
right-all b = by (ltb b 256) refl
  where
    by : (t : Bool) → ltb b 256 ≡ t → kind_right b ≡ true
    by true h = sym (true-over kind_right 0 255 tt b (omega arith, omega (arith, ltb-true b 256 h)))
    by false h = rw (past-none b (ltb-false b 256 h))

pub kind-from : (b : ℕ) → is_reference b ≡ true → eqb b kind.number ≡ false → (k : Kind) × (kind_from b ≡ some k) × (kind_no k ≡ b)
kind-from b h g = by (is_reference b) (eqb b kind.number) (kind_from b) refl h g (right-all b)
  where
    by :
        (s t : Bool) (o : Option Kind) → kind_from b ≡ o → s ≡ true → t ≡ false → (not s || (t || is_back o b)) ≡ true
        → (k : Kind) × (kind_from b ≡ some k) × (kind_no k ≡ b)
    by true false none e h g r = absurd (true-false r refl)
    by true false (some k) e h g r = (k, e, eqb-true (kind_no k) b r)
    by true true o e h g r = absurd (true-false refl g)
    by false t o e h g r = absurd (true-false h refl)
