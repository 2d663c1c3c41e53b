-- An admitted pool and a plan that fits: 16, 11 and 12, or its records.
-- Assumes nothing.
use Prim.Native.Nat.{ℕ, ◌≤◌}
use mathlib.Core.Path.{◌≡◌, refl, sym, ◌∙◌, ap}
use mathlib.Core.Bool.{Bool, true, false}
use mathlib.Core.Option.{none}
use mathlib.Core.List.{List}
use native.Mathlib.Omega.{arith}
use lib.ListN.{length, take, length-replicate}
use Rattle.meaning.specs.Refusals.{Refusal, refused}
use Rattle.pool.specs.Tabled.{Tables, tabled}
use Rattle.plans.specs.Plan.{Headed}
use Rattle.plans.specs.Columns.{record_limit}
use Rattle.plans.specs.Agreement.{bits_good, counts_agree}
use Rattle.map_records.specs.Mapping.{cm_limit, mapped, some_none, fresh}
use Rattle.map_records.specs.Sizes.{mapped-size}
use Rattle.map_records.specs.Tables.{Holds, Ready}
use Rattle.map_records.specs.All.{AllAsks, Mapped}
use Rattle.map_records.specs.declared.all.Records.{Records}
use Rattle.planning.specs.Planning.{columned}
use Rattle.planning.specs.Answers.{AdmittedAsks, Tells}
use Rattle.std.specs.Prelude.{Ok, Err}
use Rattle.kinds.specs.Answers.{refusing}
use Rattle.kinds.specs.declared.refusal.Refusal.TheVariants as refusal

module _ {b : List ℕ} {t : Tables} {rank : ℕ → ℕ} {table ss ds cs : List ℕ} (a : AdmittedAsks b t rank table ss ds cs) where
  pub headed : Headed b
  headed = a.fitting.whole.0

  pub bits-refuse : {r : Bool} → r ≡ bits_good b → r ≡ false → columned b (tabled t) ≡ refused Refusal.bits none
  unfolding columned
  bits-refuse e h = rw (sym e ∙ h)

  module _ {r : Bool} (e : r ≡ bits_good b) (h : r ≡ true) {s : Bool} (f : s ≡ counts_agree b) where
    pub counts-refuse : s ≡ false → columned b (tabled t) ≡ refused Refusal.counts none
    unfolding columned
    counts-refuse k = rw (sym e ∙ h, sym f ∙ k)

    module _ (k : s ≡ true) where
      ready : Ready b t rank
      ready = record {
        planned = record { whole = a.fitting.whole; fits = a.fitting.fits; agree = sym f ∙ k };
        starts = a.starts;
        ranked = a.ranked;
        names = a.names;
      }

      cm-size : length cs ≡ cm_limit
      cm-size = ap length a.blank.cm_dims ∙ length-replicate {A = ℕ} cm_limit 0

      holds : Holds ss ds cs 0 (fresh b (tabled t))
      holds = record {
        sections_size = a.blank.sections;
        dims_size = a.blank.dims;
        cm_size = cm-size;
        count = refl;
        counted = refl;
        sections = refl;
        dims = refl;
        cm_dims = a.blank.cm_dims;
      }

      pub all-asks : AllAsks b t rank table ss ds cs
      all-asks = record { ready = ready; tabling = a.tabling; holds = holds }

      module _ {ss' ds' cs' : List ℕ} {m : Records} (g : Mapped b t ss' ds' cs' m) where
        pub few : m.count ≤ record_limit
        few = let size : m.count ≡ _ = sym g.holds.count ∙ mapped-size b (tabled t) in omega (arith, size, a.fitting.fits)

        pub sized : length ds' ≡ record_limit
        sized = g.holds.dims_size

        pub cm-same : length cs' ≡ length cs
        cm-same = g.holds.cm_size ∙ sym cm-size

        tested : {z : Bool} → z ≡ some_none (take m.count ds') → some_none (mapped b (tabled t)).dims ≡ z
        tested q = sym (q ∙ ap some_none g.holds.dims)

        pub dims-refuse : {z : Bool} → z ≡ some_none (take m.count ds') → z ≡ true → columned b (tabled t) ≡ refused Refusal.no_dimension none
        unfolding columned
        dims-refuse q y = rw (sym e ∙ h, sym f ∙ k, tested q ∙ y)

        pub planned-told :
            {z : Bool} → z ≡ some_none (take m.count ds') → z ≡ false
            → Tells b t ss' ds' cs' (mapped b (tabled t)) (columned b (tabled t)) (Ok (record { expressions = t.expression_count; records = m.count; q_dim = m.q_dim }))
        unfolding columned
        planned-told q y = (rw (sym e ∙ h, sym f ∙ k, tested q ∙ y), record { expressions = refl; rank = rank; ready = ready; holds = g.holds; quotient = g.quotient })
