-- The rules of fixing from a plan's columns and intermediates. Assumes nothing.
use Prim.Native.Nat.{ℕ, suc, ◌<◌, ◌≤◌}
use mathlib.Core.Path.{◌≡◌, refl, sym, ◌∙◌, ap, subst}
use mathlib.Core.Bool.{Bool, true, false, cond}
use mathlib.Core.List.{List}
use mathlib.Core.Logic.{inl}
use native.Mathlib.Omega.{arith}
use lib.ListN.{length, get_or, set, replicate, length-replicate, get_or-replicate}
use Rattle.kinds.specs.KindBytes as kind
use Rattle.kinds.specs.Write.{write}
use Rattle.frames.specs.Order.{expression_limit}
use Rattle.pool.specs.Tabled.{Tables, tabled}
use Rattle.pool.specs.Laws.Tabled.{expression-count}
use Rattle.pool.specs.Admission.{Ranked}
use Rattle.pool.specs.Ranking.{Starts}
use Rattle.plans.specs.Plan.{q2exp, im_count, im_cm}
use Rattle.plans.specs.Columns.{record_limit}
use Rattle.plans.specs.Passed.{names-there}
use Rattle.exp_dims.specs.Dimension.{exp_dim}
use Rattle.exp_dims.specs.Known.{unknown, D, Sound, ExpAsks, Gives}
use Rattle.sections.specs.Sums.{each}
use Rattle.plan_tables.specs.Tables.{of_column, of_im, packed, rule_of, rules_of}
use Rattle.plan_tables.specs.Cells.{Cells, ImsAsks}
use Rattle.plan_tables.specs.Gathered.{columns_of}
use Rattle.plan_tables.specs.Rules.{ColumnRulesAsks, column_word, by_columns, RulesAsks}
use Rattle.plan_tables.proofs.Named.{columns-inside, listed-there}
use Rattle.plan_tables.proofs.Filled.{cells_same, cells-begin, cells-all, from_column, columns-begin, columns-next, columns-all}

-- ---- the columns' rules

-- those from column k on stand there, and what is known of dimensions is right
pub record RulesFrom (t : Tables) (table dims columns : List ℕ) (count : ℕ) (before : List ℕ) (k : ℕ) (known rules : List ℕ) : Type 0 where
  pub sound : Sound t table dims known
  pub cells : Cells t.expression_count (from_column (column_word t table dims) (λ e. get_or before e 0) columns count k) before rules

module _ {t : Tables} {rank : ℕ → ℕ} {table columns : List ℕ} {count : ℕ} {before : List ℕ} (a : ColumnRulesAsks t rank table columns count before) (dims : List ℕ) where
  pub rules_begin : RulesFrom t table dims columns count before count (replicate expression_limit unknown) before
  rules_begin =
      record {
        sound = record {
          size = length-replicate {A = ℕ} expression_limit unknown;
          right = λ e h. inl (get_or-replicate {A = ℕ} expression_limit e unknown 0 (omega (arith, h, a.starts.few_expressions)));
        };
        cells = columns-begin (column_word t table dims) (λ e. get_or before e 0) columns count a.inside (cells-begin t.expression_count before a.full a.starts.few_expressions);
      }

  module _ {k : ℕ} {known rules : List ℕ} (h : RulesFrom t table dims columns count before k known rules) (l : k ≤ count) where
    module _ (j : ℕ) (q : suc j ≡ k) {e : ℕ} (at : e ≡ get_or columns j 0) where
      there : e < t.expression_count
      there = subst (λ z. z < t.expression_count) (sym at) (a.there j (omega arith))

      pub column-below : e < expression_limit
      column-below = omega (arith, there, a.starts.few_expressions)

      pub column_asks : ExpAsks t table dims rank known e
      column_asks = record { world = record { starts = a.starts; ranked = a.ranked }; there = there; sound = h.sound }

      pub rules_next : {known' : List ℕ} {d v : ℕ} → Gives t table dims known' (D t table dims e) d → v ≡ packed kind.tmp_exp j d → RulesFrom t table dims columns count before j known' (set rules e v)
      rules_next {known'} {d} {v} g is =
          record {
            sound = g.sound;
            cells = columns-next (column_word t table dims) (λ e. get_or before e 0) columns count k j q l a.inside at there (is ∙ ap (packed kind.tmp_exp j) g.is) h.cells;
          }

    pub rules_all : k ≡ 0 → Cells t.expression_count (by_columns t table dims columns count before) before rules
    rules_all e = columns-all (column_word t table dims) (λ e. get_or before e 0) columns count k e h.cells

-- ---- all rules

module _ {b : List ℕ} {t : Tables} {rank : ℕ → ℕ} {table columns : List ℕ} {count : ℕ} {rules : List ℕ} (a : RulesAsks b t rank table columns count rules) (in_n : Bool) where
  inside : count ≤ length columns
  inside = columns-inside b columns a.counted a.listed

  few : count ≤ record_limit
  few = omega (arith, a.counted, a.ready.planned.fits)

  used_few : (c : Bool) → cond c count 0 ≤ count
  used_few true = omega arith
  used_few false = omega arith

  -- those that count in the domain
  pub used_asks : {used : ℕ} → used ≡ cond in_n count 0 → ColumnRulesAsks t rank table columns used rules
  used_asks {used} e =
      let less : used ≤ count = omega (arith, e, used_few in_n) in
      record {
        starts = subst (λ z. Starts t z) (sym a.tabling) a.ready.starts;
        ranked = subst (λ z. Ranked (tabled t) z rank) (sym a.tabling) a.ready.ranked;
        few = omega (arith, few);
        inside = omega (arith, inside);
        there = λ k h. listed-there b t.expression_count columns a.ready.names a.counted a.listed k (omega (arith, h));
        full = ap length a.cleared ∙ length-replicate {A = ℕ} expression_limit 0;
      }

  module _ (dims : List ℕ) {used : ℕ} (e : used ≡ cond in_n count 0) where
    pub ims_ask : {rules₁ : List ℕ} → Cells t.expression_count (by_columns t table dims columns used rules) rules rules₁ → ImsAsks b t.expression_count (by_columns t table dims columns used rules) rules rules₁
    ims_ask c = record { there = (names-there b t.expression_count a.ready.names).im; cells = c }

    by_domain : (c : Bool) → in_n ≡ c → (x : ℕ) → x < t.expression_count → by_columns t table dims columns used rules x ≡ cond in_n (of_column (λ k. packed kind.tmp_exp k (exp_dim dims (q2exp b) (tabled t) x)) x 0 (columns_of b) 0) 0
    by_domain true p x h = rw (e, p, a.listed, a.tabling, cleared x h)
      where
        cleared : (y : ℕ) → y < t.expression_count → get_or rules y 0 ≡ 0
        cleared y l = ap (λ (z : List ℕ). get_or z y 0) a.cleared ∙ get_or-replicate {A = ℕ} expression_limit y 0 0 (omega (arith, l, a.ready.starts.few_expressions))
    by_domain false p x h = rw (e, p) (ap (λ (z : List ℕ). get_or z x 0) a.cleared ∙ get_or-replicate {A = ℕ} expression_limit x 0 0 (omega (arith, h, a.ready.starts.few_expressions)))

    -- THE RULES STAND THERE
    pub rules_filled :
        {rules₂ : List ℕ} → Cells t.expression_count (λ x. of_im b (λ i. packed kind.cm (im_cm b i) 0) x (im_count b) (by_columns t table dims columns used rules x)) rules rules₂ →
        rules₂ ≡ write rules 0 (rules_of b (tabled t) dims (columns_of b) in_n)
    rules_filled {rules₂} c =
        cells-all (cells_same (λ x h. ap (of_im b (λ i. packed kind.cm (im_cm b i) 0) x (im_count b)) (by_domain in_n refl x h)) c)
        ∙ ap (λ z. write rules 0 (each (rule_of b (tabled t) dims (columns_of b) in_n) z)) (sym (expression-count t))
