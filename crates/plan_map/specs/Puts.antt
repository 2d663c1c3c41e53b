-- NUMBERS PUT INTO A LENT LIST OF BYTES, and where they end. Assumes nothing.
use Rattle.std.specs.Prelude.{ℕ, zero, suc, ◌+◌, ◌*◌, ◌<◌, ◌≡◌, refl, List, [], ◌∷◌, ◌++◌, length}
use Rattle.std.proofs.Common.{sym, ◌∙◌, ap, ap₂, append_assoc, append-nil, arith, add-one, length-append}
use Rattle.std.proofs.Math.Path.{subst}
use Rattle.kinds.specs.Write.{write, write-none, write-length, write-next}
use Rattle.kinds.specs.BigEndian.{u16_bytes, u16-sized}
use Rattle.plan_map.specs.Numbers.{u16s, rows_by}

-- the numbers xs stand from `at` on, all else as it was
pub record Puts (l : List ℕ) (at : ℕ) (xs l' : List ℕ) (r : ℕ) : Type 0 where
  pub list : l' ≡ write l at (u16s xs)
  pub next : r ≡ at + 2 * length xs

-- ---- numbers of two bytes

pub u16s-size : (xs : List ℕ) → length (u16s xs) ≡ 2 * length xs
unfolding u16s
u16s-size [] = refl
u16s-size (x ∷ xs) = length-append (u16_bytes x) (u16s xs) ∙ omega (arith, u16-sized x, u16s-size xs)

pub u16s-append : (xs ys : List ℕ) → u16s (xs ++ ys) ≡ u16s xs ++ u16s ys
unfolding u16s
u16s-append [] ys = refl
u16s-append (x ∷ xs) ys = ap (λ (z : List ℕ). u16_bytes x ++ z) (u16s-append xs ys) ∙ sym (append_assoc (u16_bytes x) (u16s xs) (u16s ys))

u16s-one : (x : ℕ) → u16s (x ∷ []) ≡ u16_bytes x
unfolding u16s
u16s-one x = append-nil (u16_bytes x)

-- ---- one after the other

pub puts_none : (l : List ℕ) (at : ℕ) → Puts l at [] l at
unfolding u16s
puts_none l at = record { list = sym (write-none l at); next = omega arith }

pub puts_one : {l l' : List ℕ} (at x : ℕ) → l' ≡ write l at (u16_bytes x) → Puts l at (x ∷ []) l' (at + 2)
puts_one {l} at x e = record { list = e ∙ ap (write l at) (sym (u16s-one x)); next = omega arith }

module _ {l l₁ xs : List ℕ} {at e : ℕ} (h : Puts l at xs l₁ e) where
  pub puts-next : {l₂ ys : List ℕ} {r : ℕ} → Puts l₁ e ys l₂ r → Puts l at (xs ++ ys) l₂ r
  puts-next {l₂} {ys} {r} g = record {
    list = write-next l at (u16s xs) (u16s ys) e h.list g.list (sym (h.next ∙ ap (λ n. at + n) (sym (u16s-size xs)))) ∙ ap (write l at) (sym (u16s-append xs ys));
    next = omega (arith, h.next, g.next, length-append xs ys);
  }

  pub puts-size : length l₁ ≡ length l
  puts-size = ap length h.list ∙ write-length l at (u16s xs)

-- where it ends, said in another way
pub puts-to : {l l' xs : List ℕ} {at r s : ℕ} → Puts l at xs l' r → r ≡ s → Puts l at xs l' s
puts-to {l} {l'} {xs} {at} h e = subst (λ z. Puts l at xs l' z) e h

pub puts-is : {l l' xs ys : List ℕ} {at r : ℕ} → xs ≡ ys → Puts l at xs l' r → Puts l at ys l' r
puts-is {l} {l'} {at = at} {r = r} e h = subst (λ (z : List ℕ). Puts l at z l' r) e h

-- ---- rows

pub rows-size : (f : ℕ → List ℕ) (c n : ℕ) → ((k : ℕ) → length (f k) ≡ c) → length (rows_by f n) ≡ c * n
unfolding rows_by
rows-size f c zero h = omega arith
rows-size f c (suc n) h =
    let e : c * suc n ≡ c * n + c = omega arith in
    length-append (rows_by f n) (f n) ∙ ap₂ (λ x y. x + y) (rows-size f c n h) (h n) ∙ sym e

pub rows_same : (f g : ℕ → List ℕ) (n : ℕ) → ((k : ℕ) → k < n → f k ≡ g k) → rows_by f n ≡ rows_by g n
unfolding rows_by
rows_same f g zero h = refl
rows_same f g (suc n) h = ap₂ (λ (x y : List ℕ). x ++ y) (rows_same f g n (λ k l. h k (omega arith))) (h n (omega arith))

module _ (f : ℕ → List ℕ) where
  pub rows_none : (l : List ℕ) (at : ℕ) → Puts l at (rows_by f 0) l at
  unfolding rows_by
  rows_none l at = puts_none l at

  module _ {l t : List ℕ} {at e : ℕ} (k : ℕ) (h : Puts l at (rows_by f k) t e) where
    pub rows_next : {t' : List ℕ} {r : ℕ} → Puts t e (f k) t' r → Puts l at (rows_by f (k + 1)) t' r
    unfolding rows_by
    rows_next {t'} {r} g = subst (λ n. Puts l at (rows_by f n) t' r) (sym (add-one k)) (puts-next h g)

    pub rows_end : (c : ℕ) → ((j : ℕ) → length (f j) ≡ c) → e ≡ at + 2 * (c * k)
    rows_end c s = h.next ∙ ap (λ n. at + 2 * n) (rows-size f c k s)

    pub rows_all : (n : ℕ) → k ≡ n → Puts l at (rows_by f n) t e
    rows_all n q = subst (λ n. Puts l at (rows_by f n) t e) q h
