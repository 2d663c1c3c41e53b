-- Laws of the sections of a list of words: where each begins, how long it is, and what stands in it.
-- Assumes nothing.
use Prim.Native.Nat.{ℕ, zero, suc, ◌+◌, ◌-◌, ◌%◌, ◌<◌, ◌≤◌}
use Rattle.std.specs.Prelude.{◌≡◌, true, false, List, get_or, eqb, leb}
use Rattle.std.proofs.Math.Path.{refl}
use Rattle.std.proofs.Math.Option.{none, some}
use Rattle.std.proofs.Common.{add-one, length-take, length-drop, get_or-take, get_or-drop}
use native.Mathlib.Omega.{arith}
use Rattle.std.proofs.Math.ListN.{length}
use borrow.Author.Tests.{lt-leb, le-leb, ne_eqb, eqb-true, leb-true, lt-ltb, le-ltb}
use Rattle.meaning.proofs.Laws.Tests.{and_left, and_right}
use Rattle.evaluator_cells.specs.Given.{section_count, start_of, good_values, section, word_at}

module _ (ws : List ℕ) where
  pub start_first : section_count ≡ start_of ws 0
  unfolding start_of
  start_first = refl

  pub start-next : (at k : ℕ) → at ≡ start_of ws k → at + get_or ws k 0 ≡ start_of ws (k + 1)
  unfolding start_of
  start-next at k e = rw (add-one k, e)

  pub start-end : (at i k : ℕ) → at ≡ start_of ws i → i ≤ k → k ≤ i → at ≡ start_of ws k
  start-end at i k e a b =
      let q : k ≡ i = omega arith in
      rw q e

  -- a later section begins later
  start-after : (j d k : ℕ) → k ≡ j + d → start_of ws j ≤ start_of ws k
  unfolding start_of
  start-after j zero k e =
      let q : k ≡ j = omega arith in
      rw q (omega arith)
  start-after j (suc d) k e =
      let q : k ≡ suc (j + d) = omega arith in
      rw q (omega (arith, start-after j d (j + d) refl))

  start-le : (j k : ℕ) → j ≤ k → start_of ws j ≤ start_of ws k
  start-le j k h = start-after j (k - j) k (omega arith)

  -- ---- malformed

  pub short-bad : length ws < section_count → false ≡ good_values ws
  unfolding good_values
  short-bad h = rw (lt-leb section_count (length ws) h)

  pub past-bad : (at k : ℕ) → k < section_count → section_count ≤ length ws → at ≡ start_of ws k → at ≤ length ws → length ws - at < get_or ws k 0 → false ≡ good_values ws
  unfolding good_values
  past-bad at k h n e l p =
      let a : length ws < start_of ws (k + 1) = omega (arith, start-next at k e) in
      let b : start_of ws (k + 1) ≤ start_of ws section_count = start-le (k + 1) section_count (omega arith) in
      rw (le-leb section_count (length ws) n, ne_eqb (start_of ws section_count) (length ws) (λ q. omega arith))

  pub end_is : (at k : ℕ) → k ≤ section_count → section_count ≤ k → section_count ≤ length ws → at ≡ start_of ws k → eqb at (length ws) ≡ good_values ws
  unfolding good_values
  end_is at k a b n e =
      let q : k ≡ section_count = omega arith in
      let f : at ≡ start_of ws section_count = rw (← q) e in
      rw (le-leb section_count (length ws) n, f)

  -- ---- well formed

  module _ (good : good_values ws ≡ true) where
    pub header_there : section_count ≤ length ws
    unfolding good_values
    header_there = leb-true section_count (length ws) (and_left (leb section_count (length ws)) (eqb (start_of ws section_count) (length ws)) good)

    end-there : start_of ws section_count ≡ length ws
    unfolding good_values
    end-there = eqb-true (start_of ws section_count) (length ws) (and_right (leb section_count (length ws)) (eqb (start_of ws section_count) (length ws)) good)

    pub section-there : (k : ℕ) → k < section_count → start_of ws k + get_or ws k 0 ≤ length ws
    section-there k h = omega (arith, start-next (start_of ws k) k refl, start-le (k + 1) section_count (omega arith), end-there)

    module _ (k : ℕ) (h : k < section_count) where
      section-size : length (section ws k) ≡ get_or ws k 0
      unfolding section
      section-size =
          let f = section-there k h in
          simp (length-take, length-drop) (omega arith)

      section-word : (i : ℕ) → i < get_or ws k 0 → get_or (section ws k) i 0 ≡ get_or ws (start_of ws k + i) 0
      unfolding section
      section-word i l = rw (get_or-take, get_or-drop)

      pub word-there : (i s m : ℕ) → i < get_or ws k 0 → s ≡ start_of ws k → some (get_or ws (s + i) 0 % m) ≡ word_at m (section ws k) i
      unfolding word_at
      word-there i s m l e = rw (section-size, lt-ltb i (get_or ws k 0) l, e, section-word i l)

      pub word-past : (i m : ℕ) → get_or ws k 0 ≤ i → none ≡ word_at m (section ws k) i
      unfolding word_at
      word-past i m l = rw (section-size, le-ltb i (get_or ws k 0) l)
