-- Values of a function listed one after the other. Assumes nothing.
use Prim.Native.Nat.{ℕ, ◌+◌}
use mathlib.Core.Path.{◌≡◌, subst}
use mathlib.Core.List.{List}
use native.Mathlib.Numerals.{add-one}
use lib.ListN.{set}
use Rattle.frames.specs.Tables.{first}
use Rattle.plan_tables.specs.Listed.{Listed, listed-none, listed-snoc}

module _ (f : ℕ → ℕ) (l : List ℕ) where
  pub copied_none : Listed l l 0 (first f 0)
  unfolding first
  copied_none = listed-none l

  pub copied_next : {t : List ℕ} (i : ℕ) {v : ℕ} → v ≡ f i → Listed l t i (first f i) → Listed l (set t i v) (i + 1) (first f (i + 1))
  unfolding first
  copied_next {t} i {v} e h = rw (add-one i, ← e) (rw (add-one i) at (listed-snoc h v))

  pub copied_all : {t : List ℕ} {i r count : ℕ} → Listed l t i (first f i) → i ≡ r → i ≡ count → Listed l t r (first f count)
  copied_all {t} {i} {r} {count} h e g = subst (λ z. Listed l t z (first f count)) e (subst (λ z. Listed l t i (first f z)) g h)
