-- One number, row or offset more. Assumes nothing.
use Prim.Native.Nat.{ℕ, ◌+◌, ◌/◌, ◌%◌, ◌<◌, ◌≤◌}
use mathlib.Core.Path.{◌≡◌, sym, ◌∙◌, ap}
use mathlib.Core.List.{List, [], ◌∷◌}
use native.Mathlib.Omega.{arith}
use native.Mathlib.Numerals.{add-one}
use lib.ListN.{length, get_or, take}
use lib.Seq.{take-suc}
use Rattle.std.proofs.lemmas.List.{take_all}
use Rattle.kinds.specs.Write.{write}
use Rattle.kinds.specs.BigEndian.{u16_bytes}
use Rattle.plan_map.specs.Numbers.{quarters}
use Rattle.plan_map.specs.Puts.{Puts, puts_one, puts-next, puts_none, puts-to, puts-is}

module _ {l l₁ : List ℕ} (at a : ℕ) (e : l₁ ≡ write l at (u16_bytes a)) where
  pub pair_put : {l₂ : List ℕ} (b : ℕ) → l₂ ≡ write l₁ (at + 2) (u16_bytes b) → Puts l at (a ∷ b ∷ []) l₂ (at + 4)
  pair_put b f = puts-to (puts-next (puts_one at a e) (puts_one (at + 2) b f)) (omega arith)

  pub record-put : {l₂ xs : List ℕ} {r : ℕ} → Puts l₁ (at + 2) xs l₂ r → Puts l at (a ∷ xs) l₂ r
  record-put g = puts-next (puts_one at a e) g

-- the quarters of a number, by its halves
pub offset_put :
    {l l₁ l₂ : List ℕ} {at e r : ℕ} (x : ℕ)
    → Puts l at (x / 0x100000000 / 0x10000 ∷ x / 0x100000000 % 0x10000 ∷ []) l₁ e
    → Puts l₁ e (x % 0x100000000 / 0x10000 ∷ x % 0x100000000 % 0x10000 ∷ []) l₂ r
    → Puts l at (quarters x) l₂ r
offset_put x g h =
    let a : x / 0x100000000 / 0x10000 ≡ x / 0x1000000000000 = omega arith in
    let c : x % 0x100000000 / 0x10000 ≡ x / 0x10000 % 0x10000 = omega arith in
    let d : x % 0x100000000 % 0x10000 ≡ x % 0x10000 = omega arith in
    puts-is (rw (a, c, d)) (puts-next g h)

module _ (xs : List ℕ) where
  pub numbers-none : (l : List ℕ) (at : ℕ) → Puts l at (take 0 xs) l at
  numbers-none l at = puts_none l at

  pub number-next : {l t t' : List ℕ} {at e : ℕ} (k : ℕ) → k < length xs → Puts l at (take k xs) t e → t' ≡ write t e (u16_bytes (get_or xs k 0)) → Puts l at (take (k + 1) xs) t' (e + 2)
  number-next {e = e} k h g q = puts-is (sym (ap (λ n. take n xs) (add-one k) ∙ take-suc xs k 0 h)) (puts-next g (puts_one e (get_or xs k 0) q))

  pub numbers-all : {l t : List ℕ} {at e : ℕ} (k : ℕ) → Puts l at (take k xs) t e → length xs ≤ k → Puts l at xs t e
  numbers-all k g h = puts-is (take_all k xs h) g
