-- NUMBERS AT THE FRONT OF A LENT TABLE, and how many they are. Assumes nothing.
use Rattle.std.specs.Prelude.{ℕ, ◌+◌, ◌≤◌, ◌≡◌, refl, Bool, true, false, cond, List, [], ◌∷◌, ◌++◌, length, set, take, drop}
use Rattle.std.proofs.Common.{sym, ◌∙◌, ap, arith, zero-add, length-append, take_at}
use Rattle.kinds.specs.Write.{write, write-is, write-none, write-length, write-append}

-- the table with xs at its front, what stands behind them as it was
pub record Listed (before after : List ℕ) (r : ℕ) (xs : List ℕ) : Type 0 where
  pub count : r ≡ length xs
  pub held : after ≡ write before 0 xs

-- a number more, or none
pub record Put (c : Bool) (before after : List ℕ) (n a r : ℕ) : Type 0 where
  pub count : r ≡ cond c (n + 1) n
  pub held : after ≡ cond c (set before n a) before

write-one : (l : List ℕ) (i a : ℕ) → write l i (a ∷ []) ≡ set l i a
unfolding write
write-one l i a = refl

pub listed-none : (l : List ℕ) → Listed l l 0 []
listed-none l = record { count = refl; held = sym (write-none l 0) }

module _ {l t : List ℕ} {n : ℕ} {xs : List ℕ} (h : Listed l t n xs) where
  pub listed-snoc : (a : ℕ) → Listed l (set t n a) (n + 1) (xs ++ (a ∷ []))
  listed-snoc a = record { count = omega (arith, h.count, length-append xs (a ∷ [])); held = sym is }
    where
      is : write l 0 (xs ++ (a ∷ [])) ≡ set t n a
      is = write-append l 0 xs (a ∷ []) ∙ write-one (write l 0 xs) (0 + length xs) a ∙ rw (zero-add, h.held, h.count)

  pub listed-put : (c : Bool) (a : ℕ) {t' : List ℕ} {r : ℕ} → Put c t t' n a r → Listed l t' r (xs ++ cond c (a ∷ []) [])
  listed-put true a q = let s = listed-snoc a in record { count = q.count ∙ s.count; held = q.held ∙ s.held }
  listed-put false a q = record { count = q.count ∙ h.count ∙ omega (arith, length-append xs []); held = q.held ∙ h.held ∙ ap (write l 0) (sym (none xs)) }
    where
      none : (ys : List ℕ) → ys ++ [] ≡ ys
      none [] = refl
      none (y ∷ ys) = ap (λ (zs : List ℕ). y ∷ zs) (none ys)

  -- THE FRONT IS THEM, where there is room
  pub listed_front : length xs ≤ length l → take n t ≡ xs
  listed_front f = rw (h.held, write-is l 0 xs (omega arith)) (take_at xs (drop (0 + length xs) l) n (sym h.count))

  pub listed-size : length t ≡ length l
  listed-size = rw h.held (write-length l 0 xs)
