-- A plan's temporary columns in a table: their expressions are there. Assumes nothing.
use Prim.Native.Nat.{ℕ, ◌<◌, ◌≤◌}
use mathlib.Core.Path.{◌≡◌, sym, ◌∙◌, ap, subst}
use mathlib.Core.Bool.{true}
use mathlib.Core.List.{List}
use mathlib.Core.Logic.{inl, inr}
use native.Mathlib.Omega.{arith}
use lib.ListN.{length, get_or, take, length-take}
use lib.Seq.{get_or-take}
use Rattle.plans.specs.ColumnLaws.{OfPairs, Named, column-of}
use Rattle.plans.specs.Agreement.{names_there}
use Rattle.plans.specs.Passed.{NamesThere, names-there}
use Rattle.plan_tables.specs.Gathered.{columns_of}

columns-there : (b : List ℕ) (n : ℕ) → names_there b n ≡ true → (k : ℕ) → k < length (columns_of b) → get_or (columns_of b) k 0 < n
columns-there b n told k h = by (column-of b k h).0
  where
    names : NamesThere b n
    names = names-there b n told

    one : {g f : ℕ → ℕ} {m e : ℕ} → ((i : ℕ) → i < m → g i < n) → ((i : ℕ) → i < m → f i < n) → OfPairs g f m e → e < n
    one p q (i, l, inl z) = subst (λ y. y < n) z (p i l)
    one p q (i, l, inr z) = subst (λ y. y < n) z (q i l)

    by : {e : ℕ} → Named b e → e < n
    by (inl z) = one names.f names.t z
    by (inr z) = one names.num names.den z

module _ (b columns : List ℕ) {count : ℕ} where
  pub columns-inside : count ≡ length (columns_of b) → take count columns ≡ columns_of b → count ≤ length columns
  columns-inside e f = omega (arith, e, ap length f, length-take count columns)

pub listed-there : (b : List ℕ) (n : ℕ) (columns : List ℕ) {count : ℕ} → names_there b n ≡ true → count ≡ length (columns_of b) → take count columns ≡ columns_of b → (k : ℕ) → k < count → get_or columns k 0 < n
listed-there b n columns {count} told e f k h =
    subst (λ z. z < n) (ap (λ (z : List ℕ). get_or z k 0) (sym f) ∙ get_or-take count columns k 0 h) (columns-there b n told k (omega (arith, h, e)))
