-- The records of the expressions from a plan's columns and intermediates. Assumes nothing.
use Prim.Native.Nat.{ℕ, suc, ◌<◌, ◌≤◌}
use mathlib.Core.Path.{◌≡◌, refl, ◌∙◌, ap}
use mathlib.Core.List.{List}
use native.Mathlib.Omega.{arith}
use lib.ListN.{length, get_or, set, length-replicate, get_or-replicate}
use Rattle.kinds.specs.Write.{write}
use Rattle.frames.specs.Order.{expression_limit}
use Rattle.plans.specs.Plan.{im_count}
use Rattle.plans.specs.Columns.{record_limit}
use Rattle.plans.specs.Passed.{names-there, counts-agree}
use Rattle.map_records.specs.Agreed.{few-cms}
use Rattle.map_records.specs.Tables.{Planned}
use Rattle.plan_tables.specs.Tables.{of_column, of_im, im_place, records_of}
use Rattle.plan_tables.specs.Cells.{Cells, ImsAsks}
use Rattle.plan_tables.specs.Gathered.{columns_of}
use Rattle.plan_tables.specs.Records.{PlacesAsks, by_places, RecordsAsks}
use Rattle.plan_tables.proofs.Filled.{cells_same, cells-begin, cells-all, from_column, columns-begin, columns-next, columns-all}
use Rattle.plan_tables.proofs.Named.{columns-inside, listed-there}

-- ---- the columns' records

module _ {n : ℕ} {columns : List ℕ} {count : ℕ} {before : List ℕ} (a : PlacesAsks n columns count before) (temporaries : List ℕ) where
  -- those from column k on stand there
  abbrev pub PlacedFrom : ℕ → List ℕ → Type 0
  PlacedFrom k t = Cells n (from_column (λ e j. get_or temporaries j 0) (λ e. get_or before e 0) columns count k) before t

  pub places-begin : PlacedFrom count before
  places-begin = columns-begin (λ e j. get_or temporaries j 0) (λ e. get_or before e 0) columns count a.inside (cells-begin n before a.full a.few_expressions)

  module _ {k : ℕ} {t : List ℕ} (h : PlacedFrom k t) (l : k ≤ count) where
    module _ (j : ℕ) (q : suc j ≡ k) where
      pub place-below : get_or columns j 0 < expression_limit
      place-below = omega (arith, a.there j (omega arith), a.few_expressions)

      pub places-next : PlacedFrom j (set t (get_or columns j 0) (get_or temporaries j 0))
      places-next = columns-next (λ e j. get_or temporaries j 0) (λ e. get_or before e 0) columns count k j q l a.inside refl (a.there j (omega arith)) refl h

    pub places-all : k ≡ 0 → Cells n (by_places columns temporaries count before) before t
    places-all e = columns-all (λ e j. get_or temporaries j 0) (λ e. get_or before e 0) columns count k e h

-- ---- the intermediates' records

-- a cm has a record
pub place-there : (b : List ℕ) → Planned b → (i : ℕ) → i < im_count b → im_place b i < record_limit
place-there b p i h = omega (arith, few-cms b p, (counts-agree b p.agree).third, h)

-- ---- all records

module _ {b : List ℕ} {n : ℕ} {columns : List ℕ} {count : ℕ} {t : List ℕ} (a : RecordsAsks b n columns count t) where
  pub columns-ask : PlacesAsks n columns count t
  columns-ask =
      record {
        few_expressions = a.few_expressions;
        few = omega (arith, a.counted, a.planned.fits);
        inside = columns-inside b columns a.counted a.listed;
        there = listed-there b n columns a.names a.counted a.listed;
        full = ap length a.cleared ∙ length-replicate {A = ℕ} expression_limit 0xffff;
      }

  module _ (temporaries cms : List ℕ) where
    pub ims_ask : {t₁ : List ℕ} → Cells n (by_places columns temporaries count t) t t₁ → ImsAsks b n (by_places columns temporaries count t) t t₁
    ims_ask c = record { there = (names-there b n a.names).im; cells = c }

    -- THE RECORDS STAND THERE
    pub records-filled :
        {t₂ : List ℕ} → Cells n (λ x. of_im b (λ i. get_or cms (im_place b i) 0) x (im_count b) (by_places columns temporaries count t x)) t t₂ →
        t₂ ≡ write t 0 (records_of b cms temporaries (columns_of b) n)
    records-filled c = cells-all (cells_same (λ x h. ap (of_im b (λ i. get_or cms (im_place b i) 0) x (im_count b)) (is x h)) c)
      where
        is : (x : ℕ) → x < n → by_places columns temporaries count t x ≡ of_column (λ k. get_or temporaries k 0) x 0 (columns_of b) 0xffff
        is x h = rw (a.listed, cleared)
          where
            cleared : get_or t x 0 ≡ 0xffff
            cleared = ap (λ (z : List ℕ). get_or z x 0) a.cleared ∙ get_or-replicate {A = ℕ} expression_limit x 0xffff 0 (omega (arith, h, a.few_expressions))
