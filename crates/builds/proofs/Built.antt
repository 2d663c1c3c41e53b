-- From the lists by number, with the cells noted, to the lists of a build. No word of the code.
-- Assumes nothing.
use Prim.Native.Nat.{ℕ, ◌≤◌}
use mathlib.Core.Path.{◌≡◌, sym, ◌∙◌, ap}
use mathlib.Core.List.{List}
use native.Mathlib.Omega.{arith}
use lib.ListN.{length}
use Rattle.kinds.specs.Write.{write}
use Rattle.kinds.specs.Steps.{steps_bytes}
use Rattle.kinds.specs.declared.step.Step.{Step}
use Rattle.builds.specs.Numbered.{stand_to, skips_at, taken_to, list_to, CopyTakenAsks}
use Rattle.builds.specs.Lists.{list_in, CopyAsks, no_cells, list-is, size_is}
use Rattle.builds.specs.declared.build.Which.{Which}

module _ (t x : List ℕ) (n m : ℕ) (w : Which) {s : List ℕ} (h : s ≡ stand_to t n no_cells) (few : m ≤ 512) where
  counted : (l : List ℕ) → taken_to (skips_at t x m s w) t n ≡ length (list_in t x l n m w)
  counted l = ap (λ (z : List ℕ). taken_to (skips_at t x m z w) t n) h ∙ sym (size_is t x l n m w few)

  pub size-built : {r : ℕ} → r ≡ taken_to (skips_at t x m s w) t n → (l : List ℕ) → r ≡ length (list_in t x l n m w)
  size-built e l = e ∙ counted l

  pub room-built : {l : List ℕ} {room : ℕ} → CopyAsks t x l n m w room → CopyTakenAsks t x s n m w (length l) room
  room-built {l} a = record { blocks = a.blocks; there = a.there; fits = omega (arith, a.fits, counted l) }

  pub list-built :
      (l o : List ℕ) {o' : List ℕ} → o' ≡ write o 0 (steps_bytes (list_to (skips_at t x m s w) t l n)) → o' ≡ write o 0 (steps_bytes (list_in t x l n m w))
  list-built l o e =
      let q : list_to (skips_at t x m s w) t l n ≡ list_in t x l n m w = ap (λ (z : List ℕ). list_to (skips_at t x m z w) t l n) h ∙ sym (list-is t x l n m w few) in
      e ∙ ap (λ (z : List Step). write o 0 (steps_bytes z)) q
