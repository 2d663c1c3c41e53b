-- A table by expression, one column or intermediate after the other. Assumes nothing.
use Prim.Native.Nat.{ℕ, suc, ◌+◌, ◌<◌, ◌≤◌}
use mathlib.Core.Path.{◌≡◌, refl, sym, ◌∙◌, ap, subst}
use mathlib.Core.Bool.{Bool, true, false, cond}
use mathlib.Core.List.{List, [], ◌∷◌}
use native.Mathlib.Omega.{arith}
use native.Mathlib.Nat.{zero-add}
use native.Mathlib.Numerals.{add-one}
use lib.ListN.{length, get_or, set, take, drop, length-set}
use lib.Seq.{get_or-set_same, get_or-set_other, get_or-take, drop-cons, drop-length, ext_get_or, length-take-le}
use lib.Dec.{eqb, ltb}
use borrow.Author.Tests.{eqb-true, eqb-false, ltb-true, ltb-false}
use Rattle.kinds.specs.Write.{write, write-length, write-there, write-after}
use Rattle.frames.specs.Order.{expression_limit}
use Rattle.sections.specs.Sums.{each, each-length, each_at}
use Rattle.plans.specs.Plan.{im_count, im_of}
use Rattle.plan_tables.specs.Tables.{of_column, of_im}
use Rattle.plan_tables.specs.Cells.{Cells, ImsAsks}

-- ---- cells

pub cells_same : {n : ℕ} {g h : ℕ → ℕ} {before t : List ℕ} → ((e : ℕ) → e < n → g e ≡ h e) → Cells n g before t → Cells n h before t
cells_same q c = record { full = c.full; few = c.few; size = c.size; front = λ e l. c.front e l ∙ q e l; behind = c.behind }

pub cells-begin : (n : ℕ) (t : List ℕ) → length t ≡ expression_limit → n ≤ expression_limit → Cells n (λ e. get_or t e 0) t t
cells-begin n t f h = record { full = f; few = h; size = refl; front = λ e l. refl; behind = λ e l. refl }

-- one cell
pub cells-set : {n : ℕ} {g : ℕ → ℕ} {before t : List ℕ} (w : ℕ → ℕ) (e v : ℕ) → e < n → v ≡ w e → Cells n g before t → Cells n (λ x. cond (eqb e x) (w x) (g x)) before (set t e v)
cells-set {n} {g} {before} {t} w e v l q c =
    record {
      full = c.full;
      few = c.few;
      size = length-set t e v ∙ c.size;
      front = λ x h. by x h (eqb e x) refl;
      behind = λ x h. get_or-set_other t e x v 0 (λ z. omega (arith, z, h, l)) ∙ c.behind x h;
    }
  where
    inside : e < length t
    inside = omega (arith, c.size, c.full, c.few)

    by : (x : ℕ) → x < n → (d : Bool) → eqb e x ≡ d → get_or (set t e v) x 0 ≡ cond (eqb e x) (w x) (g x)
    by x h true p =
        let z : e ≡ x = eqb-true e x p in
        subst (λ y. get_or (set t e v) y 0 ≡ w y) z (get_or-set_same t e v 0 inside ∙ q) ∙ sym (ap (λ d. cond d (w x) (g x)) p)
    by x h false p = get_or-set_other t e x v 0 (λ z. eqb-false e x p (sym z)) ∙ c.front x h ∙ sym (ap (λ d. cond d (w x) (g x)) p)

-- ALL OF THEM at the front
pub cells-all : {n : ℕ} {g : ℕ → ℕ} {before t : List ℕ} → Cells n g before t → t ≡ write before 0 (each g n)
cells-all {n} {g} {before} {t} c = ext_get_or 0 t (write before 0 (each g n)) (c.size ∙ sym (write-length before 0 (each g n))) (λ i h. by i (ltb i n) refl)
  where
    size : length (each g n) ≡ n
    size = each-length g n

    room : 0 + length (each g n) ≤ length before
    room = omega (arith, size, c.few, c.full)

    by : (i : ℕ) (d : Bool) → ltb i n ≡ d → get_or t i 0 ≡ get_or (write before 0 (each g n)) i 0
    by i true p = let h : i < n = ltb-true i n p in c.front i h ∙ sym (each_at g i n h) ∙ sym (subst (λ z. get_or (write before 0 (each g n)) z 0 ≡ get_or (each g n) i 0) (zero-add i) (write-there before 0 (each g n) i room (omega (arith, size, h))))
    by i false p = let h : n ≤ i = ltb-false i n p in c.behind i h ∙ sym (write-after before 0 (each g n) i (omega (arith, size, h)))

-- ---- columns, from the last to the first

-- by the columns from k on
abbrev pub from_column : (ℕ → ℕ → ℕ) → (ℕ → ℕ) → List ℕ → ℕ → ℕ → ℕ → ℕ
from_column f other columns count k e = of_column (f e) e k (drop k (take count columns)) (other e)

module _ {n : ℕ} {before t : List ℕ} (f : ℕ → ℕ → ℕ) (other : ℕ → ℕ) (columns : List ℕ) (count : ℕ) where
  pub columns-begin : count ≤ length columns → Cells n other before t → Cells n (from_column f other columns count count) before t
  columns-begin h = cells_same (λ e l. sym (none e))
    where
      size : length (take count columns) ≡ count
      size = length-take-le count columns h

      none : (e : ℕ) → from_column f other columns count count e ≡ other e
      none e = ap (λ (z : List ℕ). of_column (f e) e count z (other e)) (subst (λ z. drop z (take count columns) ≡ []) size (drop-length (take count columns)))

  pub columns-next : (k j : ℕ) → suc j ≡ k → k ≤ count → count ≤ length columns → {e v : ℕ} → e ≡ get_or columns j 0 → e < n → v ≡ f e j → Cells n (from_column f other columns count k) before t → Cells n (from_column f other columns count j) before (set t e v)
  columns-next k j q h i {e} {v} at l is c = cells_same (λ x _. sym (step x)) (cells-set (λ x. f x j) e v l is (subst (λ z. Cells n (from_column f other columns count z) before t) (sym q) c))
    where
      size : length (take count columns) ≡ count
      size = length-take-le count columns i

      head : get_or (take count columns) j 0 ≡ e
      head = get_or-take count columns j 0 (omega (arith, q, h)) ∙ sym at

      shown : drop j (take count columns) ≡ e ∷ drop (suc j) (take count columns)
      shown = drop-cons (take count columns) j 0 (omega (arith, size, q, h)) ∙ ap (λ z. z ∷ drop (suc j) (take count columns)) head

      step : (x : ℕ) → from_column f other columns count j x ≡ cond (eqb e x) (f x j) (from_column f other columns count (suc j) x)
      step x = ap (λ (z : List ℕ). of_column (f x) x j z (other x)) shown

  pub columns-all : (k : ℕ) → k ≡ 0 → Cells n (from_column f other columns count k) before t → Cells n (λ e. of_column (f e) e 0 (take count columns) (other e)) before t
  columns-all k e c = subst (λ z. Cells n (from_column f other columns count z) before t) e c

-- ---- intermediates

module _ (b : List ℕ) (f : ℕ → ℕ) {n : ℕ} {g : ℕ → ℕ} {before t₀ : List ℕ} (a : ImsAsks b n g before t₀) where
  pub ims-next : {t : List ℕ} (i : ℕ) → i < im_count b → {e v : ℕ} → e ≡ im_of b i → v ≡ f i → Cells n (λ x. of_im b f x i (g x)) before t → Cells n (λ x. of_im b f x (i + 1) (g x)) before (set t e v)
  ims-next {t} i h {e} {v} at is c = cells_same (λ x _. step x) (cells-set (λ x. f i) e v (subst (λ z. z < n) (sym at) (a.there i h)) is c)
    where
      step : (x : ℕ) → cond (eqb e x) (f i) (of_im b f x i (g x)) ≡ of_im b f x (i + 1) (g x)
      step x = rw (at, add-one i)

  pub ims-below : (i : ℕ) → i < im_count b → {e : ℕ} → e ≡ im_of b i → e < expression_limit
  ims-below i h at = omega (arith, a.there i h, at, a.cells.few)

  pub ims-all : {t : List ℕ} (i : ℕ) → i ≡ im_count b → Cells n (λ x. of_im b f x i (g x)) before t → Cells n (λ x. of_im b f x (im_count b) (g x)) before t
  ims-all {t} i e c = subst (λ z. Cells n (λ x. of_im b f x z (g x)) before t) e c
