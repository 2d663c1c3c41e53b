-- Tests on numbers and words, by the answers of the calls that make them. No word of the code.
-- Assumes nothing.
use Prim.Native.Nat.{ℕ, ◌*◌, ◌+◌}
use mathlib.Core.Path.{◌≡◌, sym, ap}
use mathlib.Core.Bool.{Bool, true, false}
use mathlib.Core.List.{List}
use lib.ListN.{get_or, set}
use lib.Dec.{eqb}
use Rattle.frames.specs.Tables.{expression_in}
use Rattle.frames.specs.declared.rest.Expression.{Expression}
use Rattle.builds.specs.Raw.{released_by}
use Rattle.builds.specs.Numbered.{block_in, in_table, skips_in, skips_at, taken_at}
use Rattle.builds.specs.Marking.{release_one}
use Rattle.builds.specs.declared.blocks.Block.{Block}
use Rattle.builds.specs.declared.build.Which.{Which}
use Rattle.builds.specs.declared.build.Which.TheVariants as which

-- ── marks ────────────────────────────────────────────────────────────────────
module _ (x s : List ℕ) (e : ℕ) {q : Expression} (h : q ≡ expression_in x e) where
  pub released-one : released_by q.flags ≡ true → set (set s (2 * e) 1) (2 * e + 1) 1 ≡ release_one x e s
  unfolding release_one
  released-one g = rw (← h, g)

  pub held_one : released_by q.flags ≡ false → s ≡ release_one x e s
  unfolding release_one
  held_one g = rw (← h, g)

-- ── a skip ───────────────────────────────────────────────────────────────────
module _ {w : Which} (inside : Bool) (row : ℕ) where
  pub first-skips : w ≡ which.First → false ≡ skips_in w inside row
  unfolding skips_in
  first-skips h = rw h

  pub last-skips : w ≡ which.Last → inside ≡ skips_in w inside row
  unfolding skips_in
  last-skips h = rw h

  pub i-skips-not : w ≡ which.I → inside ≡ false → inside ≡ skips_in w inside row
  unfolding skips_in
  i-skips-not h g = rw (h, g)

  pub i-skips : w ≡ which.I → inside ≡ true → eqb row 0 ≡ skips_in w inside row
  unfolding skips_in
  i-skips h g = rw (h, g)

-- ── what a list takes of a block ─────────────────────────────────────────────
module _ (t x s : List ℕ) (m : ℕ) (w : Which) (k : ℕ) {inside : Bool} (h : inside ≡ in_table x m s k) {b : Block} (q : b ≡ block_in (get_or t k 0)) where
  pub skipped : skips_in w inside b.row ≡ true → 0 ≡ taken_at (skips_at t x m s w) t k
  unfolding taken_at
  skipped g = rw (← h, ap (λ z. z.row) (sym q), g)

  pub not-skipped : skips_in w inside b.row ≡ false → b.steps ≡ taken_at (skips_at t x m s w) t k
  unfolding taken_at
  not-skipped g = rw (← h, ap (λ z. z.row) (sym q), g) (ap (λ z. z.steps) q)
