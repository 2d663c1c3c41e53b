-- A list by the tests of its records. No word of the code.
-- Assumes nothing.
use Prim.Native.Nat.{ℕ, zero, suc, ◌*◌, ◌%◌, ◌<◌}
use mathlib.Core.Path.{◌≡◌, refl, subst}
use mathlib.Core.Bool.{Bool, true, false}
use mathlib.Core.List.{List}
use native.Mathlib.Omega.{arith}
use lib.ListN.{length, get_or}
use Rattle.std.specs.Bool.{MatchBool}
use Rattle.std.specs.List.{range_with_len, AllWithin, HoldsAt}
use Rattle.std.proofs.lemmas.List.FromFn.{length-range_with_len, get_or-range_with_len}
use Rattle.kinds.specs.Steps.{step_size, step_at, steps_of}
use Rattle.lists.specs.Records.{record_count, good_record, good_records, good_list}
use Rattle.lists.specs.Laws.{good-begin, good_more, good-stop, good-end}

module _ (l : List ℕ) where
  abbrev pub test : ℕ → Bool
  test k = good_record (step_at l (step_size * k))

  each_good : (n : ℕ) → ((k : ℕ) → k < n → test k ≡ true) → good_records (steps_of l n) ≡ true
  each_good zero h = good-begin l
  each_good (suc n) h = rw (good_more l n, each_good n (λ k g. h k (omega arith)), h n (omega arith))

  -- the numbers of the records
  abbrev pub numbers : List ℕ
  numbers = range_with_len 0 (record_count l)

  at : (k d : ℕ) → k < record_count l → get_or numbers k d ≡ k
  at k d h = omega (arith, get_or-range_with_len 0 (record_count l) k d h)

  pub looked :
      (r : Bool)
      → MatchBool r (AllWithin (λ k. test k ≡ true) numbers 0 (length numbers)) ((k : ℕ) × (k < length numbers) × HoldsAt (λ k. test k ≡ false) numbers k)
      → length l % step_size ≡ 0 → r ≡ good_list l
  looked true h w =
      let s = length-range_with_len 0 (record_count l) in
      good-end l (record_count l) (each_good (record_count l) (λ k g. subst (λ j. test j ≡ true) (at k 0 g) (h k 0 (omega arith) (omega (arith, s))))) (omega arith) (omega arith) w
  looked false h w =
      let s = length-range_with_len 0 (record_count l) in
      let g : h.0 < record_count l = omega (arith, s, h.1) in
      good-stop l h.0 (step_at l (step_size * h.0)) refl (test h.0) refl g w (subst (λ j. test j ≡ false) (at h.0 0 g) (h.2 0))
