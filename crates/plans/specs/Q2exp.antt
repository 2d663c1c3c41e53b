-- The expressions of q numbers stand at the end of a plan: its bytes from there on are the table that admission and dimensions read. Assumes nothing.
use Rattle.std.specs.Prelude.{ℕ, ◌+◌, ◌*◌, ◌<◌, ◌≡◌, List, length, get_or, drop}
use Rattle.std.proofs.Math.Path.{sym}
use Rattle.std.proofs.Common.{◌∙◌, ap, arith, length-drop, get_or-drop, ext_get_or}
use Rattle.kinds.specs.BigEndian.{u16_at}
use Rattle.frames.specs.Packing.{first-length, first-at}
use Rattle.pool.specs.Entries.{entries_in, entries-few, entries-all, entry_at}
use Rattle.plans.specs.Plan.{number_at, Whole, q2exp_at, q2exp_count, q2exp}

-- a number behind the first n bytes
u16-drop : (n : ℕ) (l : List ℕ) (i j : ℕ) → n + i ≡ j → u16_at (drop n l) i ≡ u16_at l j
unfolding u16_at
u16-drop n l i j e =
    let high : get_or (drop n l) i 0 ≡ get_or l j 0 = get_or-drop n l i 0 ∙ ap (λ k. get_or l k 0) e in
    let next : n + (i + 1) ≡ j + 1 = omega (arith, e) in
    let low : get_or (drop n l) (i + 1) 0 ≡ get_or l (j + 1) 0 = get_or-drop n l (i + 1) 0 ∙ ap (λ k. get_or l k 0) next in
    rw (high, low)

module _ (b : List ℕ) (whole : Whole b) {n : ℕ} (e : n ≡ 2 * q2exp_at b) where
  abbrev rest : List ℕ
  rest = drop n b

  size : length (entries_in rest) ≡ q2exp_count b
  size = omega (arith, entries-few rest, entries-all rest, length-drop n b, whole.1, e)

  at : (k : ℕ) → k < q2exp_count b → get_or (entries_in rest) k 0 ≡ number_at b (q2exp_at b + k)
  unfolding number_at
  at k h = sym (entry_at rest k (rw size h)) ∙ u16-drop n b (2 * k) (2 * (q2exp_at b + k)) (omega (arith, e))

  pub q2exp-stands : entries_in rest ≡ q2exp b
  q2exp-stands =
      ext_get_or 0 (entries_in rest) (q2exp b) (size ∙ sym (first-length (λ i. number_at b (q2exp_at b + i)) (q2exp_count b)))
      (λ k h. at k (rw (← size) h) ∙ sym (first-at (λ i. number_at b (q2exp_at b + i)) k (q2exp_count b) 0 (rw (← size) h)))
