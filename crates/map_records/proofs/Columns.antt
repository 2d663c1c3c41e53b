-- One temporary column, or none. Assumes nothing.
use Prim.Native.Nat.{ℕ, ◌+◌, ◌<◌}
use mathlib.Core.Path.{◌≡◌, refl, sym, ap, subst}
use mathlib.Core.Bool.{Bool, true, false, cond}
use mathlib.Core.List.{List, [], ◌∷◌, ◌++◌}
use native.Mathlib.Omega.{arith}
use lib.ListN.{length, set}
use Rattle.frames.specs.Order.{expression_limit}
use Rattle.plans.specs.Columns.{record_limit, adding}
use Rattle.plans.specs.Counting.{Tells, Asked, Counted, known}
use Rattle.plans.specs.Counts.{counted-one}
use Rattle.map_records.specs.Mapping.{Mapping, pol, grown, column}
use Rattle.map_records.specs.Tables.{Holds, State, ColumnAsks}
use Rattle.map_records.specs.Sizes.{size, snoc-size, column-columns}
use Rattle.map_records.specs.Held.{holds-pol}

-- by what is known
column-old : (b : List ℕ) (e d : ℕ) (m : Mapping) → known b m.columns e ≡ true → column b e d m ≡ m
unfolding column
column-old b e d m h = rw h

column-new : (b : List ℕ) (e d : ℕ) (m : Mapping) → known b m.columns e ≡ false → column b e d m ≡ grown b e (pol 4 d m)
unfolding column
column-new b e d m h = rw h

adding-old : (b : List ℕ) (e : ℕ) (cs : List ℕ) → known b cs e ≡ true → adding b e cs ≡ cs
unfolding adding
adding-old b e cs h = rw h

adding-new : (b : List ℕ) (e : ℕ) (cs : List ℕ) → known b cs e ≡ false → adding b e cs ≡ cs ++ (e ∷ [])
unfolding adding
adding-new b e cs h = rw h

module _ {b ss ds cs seen : List ℕ} {n e d : ℕ} {m : Mapping} (a : ColumnAsks b ss ds cs seen n e d m) {seen' : List ℕ} {r : ℕ} (q : Asked seen e r seen') where
  after : Counted expression_limit b (adding b e m.columns) (length m.columns + r) (length m.columns + 1) seen'
  after = counted-one a.small (record { tells = a.state.tells; count = refl; few = omega arith }) q

  tells : Tells expression_limit (known b (column b e d m).columns) seen'
  tells = subst (λ (z : List ℕ). Tells expression_limit (known b z) seen') (sym (column-columns b e d m)) after.tells

  by-known : (c : Bool) → known b m.columns e ≡ c → r ≡ cond c 0 1
  by-known true h = omega (arith, after.count, ap length (adding-old b e m.columns h))
  by-known false h = omega (arith, after.count, ap length (adding-new b e m.columns h), snoc-size m.columns e)

  -- no column
  pub none_more : r ≡ 0 → State b ss ds cs seen' n (column b e d m)
  none_more z = go (known b m.columns e) refl
    where
      go : (c : Bool) → known b m.columns e ≡ c → State b ss ds cs seen' n (column b e d m)
      go true h = record { holds = subst (λ (y : Mapping). Holds ss ds cs n y) (sym (column-old b e d m h)) a.state.holds; tells = tells }
      go false h = absurd (omega (arith, z, by-known false h))

  module _ (z : r ≡ 0 → ⊥) where
    new : (c : Bool) → known b m.columns e ≡ c → known b m.columns e ≡ false
    new true h = absurd (z (by-known true h))
    new false h = h

    is-new : known b m.columns e ≡ false
    is-new = new (known b m.columns e) refl

    pub column-room : n < record_limit
    column-room =
        omega (arith, a.fits, ap size (column-new b e d m is-new), snoc-size m.sections 4, a.state.holds.count)

    -- one
    pub one_more : {ss' ds' : List ℕ} → ss' ≡ set ss n 4 → ds' ≡ set ds n d → State b ss' ds' cs seen' (n + 1) (column b e d m)
    one_more {ss'} {ds'} f g = record { holds = rw (f, g, column-new b e d m is-new) held; tells = tells }
      where
        two : Holds (set ss n 4) (set ds n d) cs (n + 1) (pol 4 d m)
        two = holds-pol a.state.holds 4 d column-room

        held : Holds (set ss n 4) (set ds n d) cs (n + 1) (grown b e (pol 4 d m))
        held =
            record {
              sections_size = two.sections_size;
              dims_size = two.dims_size;
              cm_size = two.cm_size;
              count = two.count;
              counted = two.counted;
              sections = two.sections;
              dims = two.dims;
              cm_dims = two.cm_dims;
            }
