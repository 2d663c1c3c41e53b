-- A BIT ARRAY IS DETERMINED BY ITS MEMBERS: two good ones of 64-bit words with the same members are the same words.
-- Assumes nothing.
use Prim.Native.Nat.{ℕ, zero, suc, ◌+◌, ◌*◌, ◌/◌, ◌%◌, ◌^◌, ◌<◌}
use mathlib.Core.Path.{◌≡◌, refl, sym, ap, ◌∙◌}
use mathlib.Core.Bool.{Bool, true, false}
use mathlib.Core.List.{List, [], ◌∷◌}
use native.Mathlib.Omega.{arith}
use lib.Dec.{eqb}
use lib.Pow.{shr-shr, shr_lt}
use lib.ListN.{length, get_or}
use borrow.Author.Tests.{eqb-true, eqb-false}
use Rattle.search_meaning.specs.Search.{member}
use Rattle.sets.specs.Members.{bit, members, Good}
use Rattle.sets.proofs.Bits.{member-those}

-- ── a number by its bits ─────────────────────────────────────────────────────
bits-same : (n a b : ℕ) → a < 2 ^ n → b < 2 ^ n → ((j : ℕ) → j < n → a / 2 ^ j % 2 ≡ b / 2 ^ j % 2) → a ≡ b
bits-same zero a b ha hb h = omega arith
bits-same (suc n) a b ha hb h =
    let z : suc n ≡ n + 1 = omega arith in
    let p : a / 1 % 2 ≡ b / 1 % 2 = h 0 (omega arith) in
    let q : a / 2 ≡ b / 2 = bits-same n (a / 2) (b / 2) (shr_lt n 1 (rw (← z) ha)) (shr_lt n 1 (rw (← z) hb)) (λ j l.
    let y : 1 + j ≡ suc j = omega arith in
    ap (λ x. x % 2) (shr-shr a 1 j ∙ ap (λ k. a / 2 ^ k) y) ∙ h (suc j) (omega arith) ∙ sym (ap (λ x. x % 2) (shr-shr b 1 j ∙ ap (λ k. b / 2 ^ k) y))) in
    omega (arith, p, q)

one_or_none : (x y : ℕ) → x < 2 → y < 2 → eqb x 1 ≡ eqb y 1 → x ≡ y
one_or_none zero zero a b h = refl
one_or_none zero (suc zero) a b h = absurd (let z : ◌≡◌ {A = ℕ} 0 1 = cc in omega arith)
one_or_none (suc zero) zero a b h = absurd (let z : ◌≡◌ {A = ℕ} 0 1 = cc in omega arith)
one_or_none (suc zero) (suc zero) a b h = refl
one_or_none (suc (suc x)) y a b h = absurd (omega arith)
one_or_none zero (suc (suc y)) a b h = absurd (omega arith)
one_or_none (suc zero) (suc (suc y)) a b h = absurd (omega arith)

same-list : (l m : List ℕ) → length l ≡ length m → ((i : ℕ) → i < length l → get_or l i 0 ≡ get_or m i 0) → l ≡ m
same-list [] [] e h = refl
same-list [] (y ∷ m) e h = absurd (omega (arith, e))
same-list (x ∷ l) [] e h = absurd (omega (arith, e))
same-list (x ∷ l) (y ∷ m) e h =
    let p : x ≡ y = h 0 (omega arith) in
    let q : l ≡ m = same-list l m (omega (arith, e)) (λ i g. h (suc i) (omega arith)) in
    rw (p, q)

-- ── the array ────────────────────────────────────────────────────────────────
module _ (w u : List ℕ) (gw : Good w) (gu : Good u) (same : members w ≡ members u) (fw : (i : ℕ) → get_or w i 0 < 2 ^ 64) (fu : (i : ℕ) → get_or u i 0 < 2 ^ 64) where
  bit-same : (e : ℕ) → e < 512 → bit w e ≡ bit u e
  unfolding members
  bit-same e h = sym (member-those (bit w) e 0 512 (omega arith) h) ∙ ap (member e) same ∙ member-those (bit u) e 0 512 (omega arith) h

  word_same : (i : ℕ) → i < 8 → get_or w i 0 ≡ get_or u i 0
  unfolding bit
  word_same i h = bits-same 64 (get_or w i 0) (get_or u i 0) (fw i) (fu i) (λ j l. one j l (bit-same (64 * i + j) (omega arith)))
    where
      one : (j : ℕ) → j < 64 → bit w (64 * i + j) ≡ bit u (64 * i + j) → get_or w i 0 / 2 ^ j % 2 ≡ get_or u i 0 / 2 ^ j % 2
      one j l q =
          let a : (64 * i + j) / 64 ≡ i = omega arith in
          let b : (64 * i + j) % 64 ≡ j = omega arith in
          one_or_none (get_or w i 0 / 2 ^ j % 2) (get_or u i 0 / 2 ^ j % 2) (omega arith) (omega arith) (rw (a, b) at q)

  pub words_same : w ≡ u
  words_same = same-list w u (gw.whole ∙ sym gu.whole) (λ i h. go i (omega (arith, gw.whole)) (eqb i 8) refl)
    where
      go : (i : ℕ) → i < 9 → (b : Bool) → eqb i 8 ≡ b → get_or w i 0 ≡ get_or u i 0
      go i h true q = let z : i ≡ 8 = eqb-true i 8 q in rw z (gw.size ∙ ap length same ∙ sym gu.size)
      go i h false q = let z : i ≡ 8 → ⊥ = eqb-false i 8 q in word_same i (omega arith)
