-- The members below a number, one more at a time. Over plain lists and numbers.
-- Assumes nothing.
use Prim.Native.Nat.{ℕ, zero, suc, ◌+◌, ◌≤◌, ◌<◌}
use mathlib.Core.Path.{◌≡◌, refl, sym, ◌∙◌, ap}
use mathlib.Core.Bool.{Bool, true, false, cond}
use mathlib.Core.List.{List, [], ◌∷◌, ◌++◌, append-nil}
use native.Mathlib.Omega.{arith}
use native.Mathlib.Nat.{add-zero, zero-add}
use native.Mathlib.Numerals.{add-one}
use lib.ListN.{length, set, length-append, take, drop}
use lib.Seq.{take-append_seam}
use Rattle.kinds.specs.Write.{write, write-none, write-is, write-next, write-length}
use Rattle.search_meaning.specs.Search.{member}
use Rattle.sets.specs.Members.{those, bit, members}
use Rattle.sets.proofs.Bits.{member-those}
use Rattle.constraint_frames.specs.Listing.{Listed}

-- ---- one more

those-snoc : (f : ℕ → Bool) (i n : ℕ) → those f i (suc n) ≡ those f i n ++ cond (f (i + n)) ((i + n) ∷ []) []
unfolding those
those-snoc f i zero = rw (add-zero i)
those-snoc f i (suc n) =
    let e : suc i + n ≡ i + suc n = omega arith in
    go (f i) (those f (suc i) (suc n)) (those f (suc i) n) (cond (f (i + suc n)) ((i + suc n) ∷ []) [])
    (those-snoc f (suc i) n ∙ ap (λ k. those f (suc i) n ++ cond (f k) (k ∷ []) []) e)
  where
    go : (b : Bool) (xs ys zs : List ℕ) → xs ≡ ys ++ zs → cond b (i ∷ xs) xs ≡ cond b (i ∷ ys) ys ++ zs
    go true xs ys zs h = ap (λ l. i ∷ l) h
    go false xs ys zs h = h

-- the members below e
abbrev pub lower : List ℕ → ℕ → List ℕ
lower w e = those (bit w) 0 e

-- so many were written, and no more than there are numbers
pub record Sofar (w out : List ℕ) (e : ℕ) (out' : List ℕ) (n : ℕ) : Type 0 where
  pub list : out' ≡ write out 0 (lower w e)
  pub count : n ≡ length (lower w e)
  pub few : n ≤ e
  pub end : e ≤ 512

module _ (w out : List ℕ) where
  pub sofar_none : Sofar w out 0 out 0
  unfolding those
  sofar_none = record { list = sym (write-none out 0); count = refl; few = omega arith; end = omega arith }

  module _ {e n : ℕ} {out' : List ℕ} (s : Sofar w out e out' n) (h : e < 512) {b : Bool} (q : b ≡ member e (members w)) where
    bit_is : bit w e ≡ b
    unfolding members
    bit_is = sym (member-those (bit w) e 0 512 (omega arith) h) ∙ sym q

    more : lower w (e + 1) ≡ lower w e ++ cond b (e ∷ []) []
    more = ap (lower w) (add-one e) ∙ those-snoc (bit w) 0 e ∙ go
      where
        z : 0 + e ≡ e
        z = omega arith

        go : lower w e ++ cond (bit w (0 + e)) ((0 + e) ∷ []) [] ≡ lower w e ++ cond b (e ∷ []) []
        go = rw (z, bit_is)

    put : b ≡ true → Sofar w out (e + 1) (set out' n e) (n + 1)
    unfolding write
    put t =
        let m : lower w (e + 1) ≡ lower w e ++ (e ∷ []) = more ∙ ap (λ z. lower w e ++ cond z (e ∷ []) []) t in
        let l : length (lower w (e + 1)) ≡ length (lower w e) + 1 = ap length m ∙ length-append (lower w e) (e ∷ []) in
        let c : 0 + length (lower w e) ≡ n = omega (arith, s.count) in
        record {
          list = rw m (write-next out 0 (lower w e) (e ∷ []) n s.list refl c);
          count = omega (arith, s.count);
          few = omega (arith, s.few);
          end = omega arith;
        }

    kept : b ≡ false → Sofar w out (e + 1) out' n
    kept t =
        let m : lower w (e + 1) ≡ lower w e = more ∙ ap (λ z. lower w e ++ cond z (e ∷ []) []) t ∙ append-nil (lower w e) in
        record { list = rw m s.list; count = rw m s.count; few = omega (arith, s.few); end = omega arith }

    module _ {l : List ℕ} {k : ℕ} where
      pub sofar_put : b ≡ true → l ≡ set out' n e → k ≡ n + 1 → Sofar w out (e + 1) l k
      sofar_put t p g = rw (p, g) (put t)

      pub sofar_kept : b ≡ false → l ≡ out' → k ≡ n → Sofar w out (e + 1) l k
      sofar_kept t p g = rw (p, g) (kept t)

  pub sofar_all : {e n : ℕ} {out' : List ℕ} → Sofar w out e out' n → 512 ≤ e → Listed w out out' n
  unfolding members
  sofar_all {e} {n} {out'} s h =
      let z : e ≡ 512 = omega (arith, s.end) in
      record { list = s.list ∙ ap (λ k. write out 0 (lower w k)) z; count = s.count ∙ ap (λ k. length (lower w k)) z; few = omega (arith, s.few) }

-- ---- what was listed

-- in a table that had as many words as there may be members
module _ {w out out' : List ℕ} {r : ℕ} (l : Listed w out out' r) (h : length out ≡ 512) where
  pub listed_front : take r out' ≡ members w
  listed_front =
      let e = write-is out 0 (members w) (omega (arith, l.count, l.few)) in
      let f : write out 0 (members w) ≡ members w ++ drop (length (members w)) out = e ∙ ap (λ k. members w ++ drop k out) (zero-add (length (members w))) in
      rw (l.count, l.list, f) (take-append_seam (members w) (drop (length (members w)) out))

  pub listed_room : r ≤ length out'
  listed_room = let e : length out' ≡ length out = ap length l.list ∙ write-length out 0 (members w) in omega (arith, l.few)

  pub listed_count : r ≡ length (take r out')
  listed_count = l.count ∙ sym (ap length listed_front)
