-- Counts: one more visit, a degree that was cut.
-- Assumes nothing.
use Prim.Native.Nat.{ℕ, ◌+◌, ◌<◌, ◌≤◌, max}
use mathlib.Core.Path.{◌≡◌, refl, sym}
use mathlib.Core.Bool.{true, false}
use native.Mathlib.Omega.{arith}
use borrow.Author.Tests.{lt-ltb, le-ltb}
use Rattle.degree_rule.specs.Tallies.{Counts, tally_of, Whole, Entered, Cuts}
use Rattle.degree_rule.specs.Laws.{held_same}

module _ (t : Counts) (w : Whole t) where
  pub over : t.limit ≤ t.visits → Entered t false t
  over h = record { may = sym (le-ltb _ _ h); is = refl; held = held_same t w }

  pub counts : t.visits < t.limit → Entered t true (record { cut = t.cut; visits = t.visits + 1; limit = t.limit; degree = t.degree })
  unfolding tally_of
  counts h = record { may = sym (lt-ltb _ _ h); is = refl; held = record { whole = record { fits = w.fits }; limit = refl; degree = refl } }

  pub room-left : t.visits < t.limit → t.visits + 1 < 0x10000000000000000
  room-left h = omega (arith, w.fits, h)

  pub cut-is : (n m : ℕ) → m ≡ max t.cut n → Cuts t n (record { cut = m; visits = t.visits; limit = t.limit; degree = t.degree })
  unfolding tally_of
  cut-is n m h = record { is = rw h; held = record { whole = record { fits = w.fits }; limit = refl; degree = refl } }
