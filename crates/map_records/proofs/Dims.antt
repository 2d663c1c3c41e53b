-- From a fresh table of what is known to the dimension of an expression. Assumes nothing.
use Prim.Native.Nat.{ℕ}
use mathlib.Core.List.{List}
use mathlib.Core.Logic.{inl}
use native.Mathlib.Omega.{arith}
use lib.ListN.{replicate, length-replicate, get_or-replicate}
use Rattle.frames.specs.Order.{expression_limit}
use Rattle.pool.specs.Tabled.{Tables}
use Rattle.exp_dims.specs.Known.{unknown, World, ExpAsks, Gives}
use Rattle.map_records.specs.Tables.{DimAsks}

module _ {t : Tables} {table : List ℕ} {rank : ℕ → ℕ} {e : ℕ} (a : DimAsks t table rank e) (dims : List ℕ) where
  world : World t table dims rank
  world = record { starts = a.starts; ranked = a.ranked }

  -- nothing is known yet
  pub first-asks : ExpAsks t table dims rank (replicate expression_limit unknown) e
  first-asks =
      record {
        world = world;
        there = a.there;
        sound = record {
          size = length-replicate {A = ℕ} expression_limit unknown;
          right = λ b h. let few = a.starts.few_expressions in inl (get_or-replicate {A = ℕ} expression_limit b unknown 0 (omega arith));
        };
      }

  -- after another
  pub second-asks : {known : List ℕ} {d r : ℕ} → Gives t table dims known d r → ExpAsks t table dims rank known e
  second-asks g = record { world = world; there = a.there; sound = g.sound }
