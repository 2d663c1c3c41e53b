-- WHAT THE TABLES BY EXPRESSION SAY, case by case: an intermediate, an expression with a temporary column, any other. Assumes nothing.
use Rattle.std.specs.Prelude.{ℕ, zero, suc, ◌+◌, ◌<◌, ◌≡◌, Bool, true, false, ◌⊎◌, length, get_or, eqb}
use Rattle.std.proofs.Math.Path.{refl, ap}
use Rattle.std.proofs.Common.{sym, ◌∙◌, inl, inr, arith, eq-or-lt_of_le, le_of_suc-le-suc, add-zero, zero-add, eq-eqb, ne_eqb}
use Rattle.std.proofs.Math.Bool.{cond}
use mathlib.Core.List.{List, [], ◌∷◌}
use Rattle.kinds.specs.KindBytes as kind
use Rattle.pool.specs.Pool.{Pool}
use Rattle.exp_dims.specs.Dimension.{exp_dim}
use Rattle.plans.specs.Plan.{any, is_plan, im_count, im_of, im_cm, q2exp}
use Rattle.plans.specs.Columns.{among, is_im}
use Rattle.plans.specs.Among.{or_first, or_second, eqb-sym}
use Rattle.plans.specs.ColumnLaws.{Apart, columns-apart, column-of}
use Rattle.plans.specs.Passed.{ims_ascend}
use Rattle.plan_tables.specs.Tables.{packed, of_column, of_im, rule_of, im_place, no_record, record_of}
use Rattle.plan_tables.specs.Gathered.{columns_of}

-- ---- intermediates

module _ (b : List ℕ) (f : ℕ → ℕ) where
  -- before n none is e
  not-before : (e n o : ℕ) → any (λ i. eqb (im_of b i) e) n ≡ false → of_im b f e n o ≡ o
  not-before e zero o h = refl
  not-before e (suc n) o h =
      let here : eqb (im_of b n) e ≡ false = or_second (any (λ i. eqb (im_of b i) e) n) (eqb (im_of b n) e) h in
      ap (λ c. cond c (f n) (of_im b f e n o)) here ∙ not-before e n o (or_first (any (λ i. eqb (im_of b i) e) n) (eqb (im_of b n) e) h)

  no-im : (e o : ℕ) → is_im b e ≡ false → of_im b f e (im_count b) o ≡ o
  unfolding is_im
  no-im e o h = not-before e (im_count b) o h

  -- the last that is e
  last-im : (n i o : ℕ) → i < n → ((j : ℕ) → i < j → j < n → im_of b i < im_of b j) → of_im b f (im_of b i) n o ≡ f i
  last-im zero i o h up = absurd (omega arith)
  last-im (suc n) i o h up = by (last-im n i o) (eq-or-lt_of_le (le_of_suc-le-suc h))
    where
      by : (i < n → ((j : ℕ) → i < j → j < n → im_of b i < im_of b j) → of_im b f (im_of b i) n o ≡ f i) → (i ≡ n) ⊎ (i < n) → of_im b f (im_of b i) (suc n) o ≡ f i
      by less (inl e) = ap (λ c. cond c (f n) (of_im b f (im_of b i) n o)) (eq-eqb (im_of b n) (im_of b i) (ap (im_of b) (sym e))) ∙ ap f (sym e)
      by less (inr l) =
          let above : im_of b i < im_of b n = up n l (omega arith) in
          ap (λ c. cond c (f n) (of_im b f (im_of b i) n o)) (ne_eqb (im_of b n) (im_of b i) (λ z. omega arith)) ∙ less l (λ j g q. up j g (omega arith))

  -- the expressions of a plan's intermediates ascend
  its-im : is_plan b ≡ true → (i o : ℕ) → i < im_count b → of_im b f (im_of b i) (im_count b) o ≡ f i
  its-im h i o l = last-im (im_count b) i o l (λ j g q. ims_ascend b h j i g q)

-- ---- columns

module _ (f : ℕ → ℕ) where
  no_column : (e k : ℕ) (cs : List ℕ) (o : ℕ) → among e cs ≡ false → of_column f e k cs o ≡ o
  unfolding among
  no_column e k [] o h = refl
  no_column e k (c ∷ cs) o h =
      ap (λ z. cond z (f k) (of_column f e (suc k) cs o)) (eqb-sym c e ∙ or_first (eqb e c) (among e cs) h) ∙ no_column e (suc k) cs o (or_second (eqb e c) (among e cs) h)

  its-column : (cs : List ℕ) (k j o : ℕ) → j < length cs → Apart cs → of_column f (get_or cs j 0) k cs o ≡ f (k + j)
  its-column [] k j o h a = absurd (omega arith)
  its-column (c ∷ cs) k zero o h a = ap (λ z. cond z (f k) (of_column f c (suc k) cs o)) (eq-eqb c c refl) ∙ ap f (sym (add-zero k))
  its-column (c ∷ cs) k (suc j) o h a =
      ap (λ z. cond z (f k) (of_column f (get_or cs j 0) (suc k) cs o)) (ne_eqb c (get_or cs j 0) (λ z. a 0 (suc j) (omega arith) h z))
      ∙ its-column cs (suc k) j o (omega arith) (λ i l g q e. a (suc i) (suc l) (omega arith) (omega arith) e)
      ∙ ap f (omega arith)

-- ---- what fixing makes of an expression

module _ (b : List ℕ) (p : Pool) (dims : List ℕ) where
  -- AN INTERMEDIATE becomes its cm, in both domains
  pub rule-im : (in_n : Bool) → is_plan b ≡ true → (i : ℕ) → i < im_count b → rule_of b p dims (columns_of b) in_n (im_of b i) ≡ packed kind.cm (im_cm b i) 0
  rule-im in_n h i l =
      its-im b (λ j. packed kind.cm (im_cm b j) 0) h i (cond in_n (of_column (λ k. packed kind.tmp_exp k (exp_dim dims (q2exp b) p (im_of b i))) (im_of b i) 0 (columns_of b) 0) 0) l

  -- AN EXPRESSION WITH A TEMPORARY COLUMN in "n" becomes that, with its own dimension
  pub rule-column :
      (k : ℕ) → k < length (columns_of b) → rule_of b p dims (columns_of b) true (get_or (columns_of b) k 0) ≡ packed kind.tmp_exp k (exp_dim dims (q2exp b) p (get_or (columns_of b) k 0))
  rule-column k l =
      let e : ℕ = get_or (columns_of b) k 0 in
      no-im b (λ j. packed kind.cm (im_cm b j) 0) e (of_column (λ j. packed kind.tmp_exp j (exp_dim dims (q2exp b) p e)) e 0 (columns_of b) 0) (column-of b k l).1
      ∙ its-column (λ j. packed kind.tmp_exp j (exp_dim dims (q2exp b) p e)) (columns_of b) 0 k 0 l (columns-apart b)
      ∙ ap (λ j. packed kind.tmp_exp j (exp_dim dims (q2exp b) p e)) (zero-add k)

  -- ANY OTHER in "n", and any but an intermediate in "2ns", becomes a new temporary: it has no rule
  pub rule-other : (e : ℕ) → is_im b e ≡ false → among e (columns_of b) ≡ false → rule_of b p dims (columns_of b) true e ≡ 0
  rule-other e h g =
      no-im b (λ j. packed kind.cm (im_cm b j) 0) e (of_column (λ j. packed kind.tmp_exp j (exp_dim dims (q2exp b) p e)) e 0 (columns_of b) 0) h
      ∙ no_column (λ j. packed kind.tmp_exp j (exp_dim dims (q2exp b) p e)) e 0 (columns_of b) 0 g

  pub rule-extended : (e : ℕ) → is_im b e ≡ false → rule_of b p dims (columns_of b) false e ≡ 0
  rule-extended e h = no-im b (λ j. packed kind.cm (im_cm b j) 0) e 0 h

-- ---- the record of an expression

module _ (b cms temporaries : List ℕ) where
  -- AN INTERMEDIATE has that of its place among the cm
  pub record-im : is_plan b ≡ true → (i : ℕ) → i < im_count b → record_of b cms temporaries (columns_of b) (im_of b i) ≡ get_or cms (im_place b i) 0
  record-im h i l = its-im b (λ j. get_or cms (im_place b j) 0) h i (of_column (λ k. get_or temporaries k 0) (im_of b i) 0 (columns_of b) no_record) l

  -- AN EXPRESSION WITH A TEMPORARY COLUMN that of the column
  pub record-column : (k : ℕ) → k < length (columns_of b) → record_of b cms temporaries (columns_of b) (get_or (columns_of b) k 0) ≡ get_or temporaries k 0
  record-column k l =
      let e : ℕ = get_or (columns_of b) k 0 in
      no-im b (λ j. get_or cms (im_place b j) 0) e (of_column (λ j. get_or temporaries j 0) e 0 (columns_of b) no_record) (column-of b k l).1
      ∙ its-column (λ j. get_or temporaries j 0) (columns_of b) 0 k no_record l (columns-apart b)
      ∙ ap (λ j. get_or temporaries j 0) (zero-add k)

  -- ANY OTHER has none
  pub record-other : (e : ℕ) → is_im b e ≡ false → among e (columns_of b) ≡ false → record_of b cms temporaries (columns_of b) e ≡ no_record
  record-other e h g =
      no-im b (λ j. get_or cms (im_place b j) 0) e (of_column (λ j. get_or temporaries j 0) e 0 (columns_of b) no_record) h
      ∙ no_column (λ j. get_or temporaries j 0) e 0 (columns_of b) no_record g
