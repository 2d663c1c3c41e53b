-- WHAT THE PLAN OF A RECORD'S RULES GIVES AN EXPRESSION: a cm number only to an intermediate, its own, and a temporary column only to that column's expression.
-- Assumes nothing.
use Rattle.std.specs.Prelude.{ℕ, zero, suc, ◌+◌, ◌*◌, ◌<◌, ◌≤◌, ◌≡◌, Bool, cond, List, [], ◌∷◌, length, get_or, eqb, ltb}
use Rattle.std.proofs.Math.Path.{refl}
use Rattle.std.proofs.Common.{sym, ◌∙◌, ap, subst, arith, eqb-true, ltb-true, ltb-false}
use Rattle.std.proofs.Math.Bool.{true, false}
use Rattle.std.proofs.Math.Option.{some}
use Rattle.std.proofs.Math.ListN.{get_or-eq_default}
use Rattle.kinds.specs.KindBytes as kind
use Rattle.kinds.specs.BigEndian.{u16_at}
use Rattle.frames.specs.Order.{expression_limit}
use Rattle.frames.specs.Taking.{Bytes}
use Rattle.pool.specs.Pool.{Pool}
use Rattle.exp_dims.specs.Dimension.{exp_dim}
use Rattle.sections.specs.Sums.{each, each-length, each_at}
use Rattle.plans.specs.Plan.{number_at, im_count, im_of, im_cm, q2exp}
use Rattle.plans.specs.Columns.{record_limit, record_count}
use Rattle.map_records.specs.Mapping.{mapped}
use Rattle.plan_tables.specs.Tables.{packed, of_column, of_im, column_rule, rule_of, rules_of, rules}
use Rattle.plan_tables.specs.Gathered.{columns_of}
use Rattle.plan_tables.specs.Sizes.{mapped-columns}
use Rattle.plan_tables.specs.Whole.{padded-at}
use Rattle.fixing.specs.ProverCode.{rule_for, rule_kind, rule_id, id_where, plan_of}
use Rattle.planning.specs.Planning.{planned}
use Rattle.plan_walks.specs.Fix.{rules_in}
use Rattle.plan_demand3.specs.Low.{dim-low, mapped-low}
use Rattle.plan_demand3.specs.Words.{kind-packed, id-packed, kind-none, where_some}

-- ---- what a table by expression holds

-- the word w of expression e: that of an intermediate, that of its column, or none
pub data Word (b : List ℕ) (e w : ℕ) : Type 0 where
  im : (i : ℕ) → i < im_count b → im_of b i ≡ e → w ≡ packed kind.cm (im_cm b i) 0 → Word b e w
  column : (k d : ℕ) → k < length (columns_of b) → get_or (columns_of b) k 0 ≡ e → d ≤ 3 → w ≡ packed kind.tmp_exp k d → Word b e w
  none : w ≡ 0 → Word b e w

-- the last intermediate that is e, or another
data OfIm (b : List ℕ) (f : ℕ → ℕ) (e n o w : ℕ) : Type 0 where
  one : (i : ℕ) → i < n → im_of b i ≡ e → w ≡ f i → OfIm b f e n o w
  other : w ≡ o → OfIm b f e n o w

of-im : (b : List ℕ) (f : ℕ → ℕ) (e n o : ℕ) → OfIm b f e n o (of_im b f e n o)
of-im b f e zero o = OfIm.other refl
of-im b f e (suc n) o = by (eqb (im_of b n) e) refl (of-im b f e n o)
  where
    before : {w : ℕ} → OfIm b f e n o w → OfIm b f e (suc n) o w
    before (OfIm.one i l q h) = OfIm.one i (omega arith) q h
    before (OfIm.other h) = OfIm.other h

    by : (t : Bool) → eqb (im_of b n) e ≡ t → OfIm b f e n o (of_im b f e n o) → OfIm b f e (suc n) o (cond t (f n) (of_im b f e n o))
    by true p h = OfIm.one n (omega arith) (eqb-true (im_of b n) e p) refl
    by false p h = before h

-- the first column of e, or another
data OfColumn (f : ℕ → ℕ) (e k : ℕ) (cs : List ℕ) (o w : ℕ) : Type 0 where
  one : (j : ℕ) → j < length cs → get_or cs j 0 ≡ e → w ≡ f (k + j) → OfColumn f e k cs o w
  other : w ≡ o → OfColumn f e k cs o w

of-column : (f : ℕ → ℕ) (e k : ℕ) (cs : List ℕ) (o : ℕ) → OfColumn f e k cs o (of_column f e k cs o)
of-column f e k [] o = OfColumn.other refl
of-column f e k (c ∷ cs) o = by (eqb c e) refl (of-column f e (suc k) cs o)
  where
    after : {w : ℕ} → OfColumn f e (suc k) cs o w → OfColumn f e k (c ∷ cs) o w
    after (OfColumn.one j l q h) = OfColumn.one (suc j) (omega arith) q (h ∙ ap f (omega arith))
    after (OfColumn.other h) = OfColumn.other h

    by : (t : Bool) → eqb c e ≡ t → OfColumn f e (suc k) cs o (of_column f e (suc k) cs o) → OfColumn f e k (c ∷ cs) o (cond t (f k) (of_column f e (suc k) cs o))
    by true p h = OfColumn.one 0 (omega arith) (eqb-true c e p) (ap f (omega arith))
    by false p h = after h

module _ (b : List ℕ) (p : Pool) (dims : List ℕ) (low : (e : ℕ) → exp_dim dims (q2exp b) p e ≤ 3) where
  column-word : (in_n : Bool) (e : ℕ) → Word b e (cond in_n (column_rule b p dims (columns_of b) e) 0)
  column-word false e = Word.none refl
  column-word true e = by (of-column (λ k. packed kind.tmp_exp k (exp_dim dims (q2exp b) p e)) e 0 (columns_of b) 0)
    where
      by : {w : ℕ} → OfColumn (λ k. packed kind.tmp_exp k (exp_dim dims (q2exp b) p e)) e 0 (columns_of b) 0 w → Word b e w
      by (OfColumn.one j l q h) = Word.column j (exp_dim dims (q2exp b) p e) l q (low e) (h ∙ ap (λ k. packed kind.tmp_exp k (exp_dim dims (q2exp b) p e)) (omega arith))
      by (OfColumn.other h) = Word.none h

  pub rule-word : (in_n : Bool) (e : ℕ) → Word b e (rule_of b p dims (columns_of b) in_n e)
  rule-word in_n e = by (of-im b (λ i. packed kind.cm (im_cm b i) 0) e (im_count b) (cond in_n (column_rule b p dims (columns_of b) e) 0))
    where
      by : {w : ℕ} → OfIm b (λ i. packed kind.cm (im_cm b i) 0) e (im_count b) (cond in_n (column_rule b p dims (columns_of b) e) 0) w → Word b e w
      by (OfIm.one i l q h) = Word.im i l q h
      by {w} (OfIm.other h) = subst (Word b e) (sym h) (column-word in_n e)

-- ---- the rules of a planned record

module _ (in_n : Bool) (b : List ℕ) (p : Pool) (few : length p.expressions ≤ expression_limit) where
  abbrev rs : List ℕ
  rs = rules_in in_n b (planned p (mapped b p))

  abbrev dims : List ℕ
  dims = (mapped b p).cm_dims

  abbrev f : ℕ → ℕ
  f = rule_of b p dims (columns_of b) in_n

  listed-word : (e : ℕ) → Word b e (get_or (rules_of b p (mapped b p).cm_dims (columns_of b) in_n) e 0)
  listed-word e = by (ltb e (length p.expressions)) refl
    where
      by : (t : Bool) → ltb e (length p.expressions) ≡ t → Word b e (get_or (each f (length p.expressions)) e 0)
      by true q = subst (Word b e) (sym (each_at f e (length p.expressions) (ltb-true e (length p.expressions) q))) (rule-word b p dims (dim-low dims (q2exp b) (mapped-low b p) p) in_n e)
      by false q = Word.none (get_or-eq_default (each f (length p.expressions)) 0 (omega (arith, each-length f (length p.expressions), ltb-false e (length p.expressions) q)))

  padded_word : (e : ℕ) → Word b e (get_or rs e 0)
  padded_word e =
      let is : rules in_n p b (mapped b p) ≡ rules_of b p (mapped b p).cm_dims (columns_of b) in_n = ap (λ (cs : List ℕ). rules_of b p (mapped b p).cm_dims cs in_n) (mapped-columns b p) in
      let at : get_or rs e 0 ≡ get_or (rules in_n p b (mapped b p)) e 0 = padded-at expression_limit (rules in_n p b (mapped b p)) (omega (arith, each-length (rule_of b p (mapped b p).cm_dims (mapped b p).columns in_n) (length p.expressions), few)) e in
      subst (Word b e) (sym (at ∙ ap (λ (l : List ℕ). get_or l e 0) is)) (listed-word e)

  pub planned-word : (e : ℕ) → Word b e (rule_for rs e)
  unfolding rule_for
  planned-word e = by (ltb e 512)
    where
      by : (t : Bool) → Word b e (cond t (get_or rs e 0) 0)
      by true = padded_word e
      by false = Word.none refl

-- ---- what a word gives

module _ (b : List ℕ) (bytes : Bytes b) where
  number-low : (k : ℕ) → number_at b k < 0x10000
  unfolding number_at u16_at Bytes
  number-low k = omega (arith, bytes (2 * k), bytes (2 * k + 1))

  module _ (fit : record_count b ≤ record_limit) (e c : ℕ) where
    -- a cm number: that of the intermediate
    pub word-im : {w : ℕ} → Word b e w → id_where kind.cm w ≡ some c → (i : ℕ) × (i < im_count b) × (im_of b i ≡ e) × (im_cm b i ≡ c)
    word-im {w} (Word.im i l q h) s =
        let y = where_some kind.cm w c s in
        (i, l, q, sym (id-packed kind.cm (im_cm b i) 0 (number-low _) (omega arith)) ∙ ap rule_id (sym h) ∙ y.1)
    word-im {w} (Word.column k d l q m h) s =
        let y : rule_kind w ≡ kind.cm = (where_some kind.cm w c s).0 in
        let z : rule_kind w ≡ kind.tmp_exp = ap rule_kind h ∙ kind-packed kind.tmp_exp k d (omega arith) (omega arith) in
        absurd (omega arith)
    word-im {w} (Word.none h) s =
        let y : rule_kind w ≡ kind.cm = (where_some kind.cm w c s).0 in
        let z : rule_kind w ≡ 0 = ap rule_kind h ∙ kind-none in
        absurd (omega arith)

    -- a temporary column: that of the expression
    pub word-column : {w : ℕ} → Word b e w → id_where kind.tmp_exp w ≡ some c → (c < length (columns_of b)) × (get_or (columns_of b) c 0 ≡ e)
    word-column {w} (Word.im i l q h) s =
        let y : rule_kind w ≡ kind.tmp_exp = (where_some kind.tmp_exp w c s).0 in
        let z : rule_kind w ≡ kind.cm = ap rule_kind h ∙ kind-packed kind.cm (im_cm b i) 0 (number-low _) (omega arith) in
        absurd (omega arith)
    word-column {w} (Word.column k d l q m h) s =
        let y = where_some kind.tmp_exp w c s in
        let is : k ≡ c = sym (id-packed kind.tmp_exp k d (omega arith) (omega arith)) ∙ ap rule_id (sym h) ∙ y.1 in
        (subst (λ j. j < length (columns_of b)) is l, subst (λ j. get_or (columns_of b) j 0 ≡ e) is q)
    word-column {w} (Word.none h) s =
        let y : rule_kind w ≡ kind.tmp_exp = (where_some kind.tmp_exp w c s).0 in
        let z : rule_kind w ≡ 0 = ap rule_kind h ∙ kind-none in
        absurd (omega arith)

-- ── of a record ──────────────────────────────────────────────────────────────
module _ (in_n : Bool) (b : List ℕ) (p : Pool) (few : length p.expressions ≤ expression_limit) (bytes : Bytes b) (fit : record_count b ≤ record_limit) (e c : ℕ) where
  -- A CM NUMBER ONLY TO AN INTERMEDIATE: its own
  pub im-of : (plan_of (rules_in in_n b (planned p (mapped b p)))).im e ≡ some c → (i : ℕ) × (i < im_count b) × (im_of b i ≡ e) × (im_cm b i ≡ c)
  im-of h = word-im b bytes fit e c (planned-word in_n b p few e) h

  -- A TEMPORARY COLUMN ONLY TO ITS EXPRESSION
  pub column-of : (plan_of (rules_in in_n b (planned p (mapped b p)))).column e ≡ some c → (c < length (columns_of b)) × (get_or (columns_of b) c 0 ≡ e)
  column-of h = word-column b bytes fit e c (planned-word in_n b p few e) h
