-- Offsets are sums of what the sections before take, and stay small. Assumes nothing.
use Prim.Native.Nat.{ℕ, suc, ◌+◌, ◌*◌, ◌%◌, ◌^◌, ◌<◌, ◌≤◌}
use mathlib.Core.Path.{◌≡◌, refl, sym, ◌∙◌, ap, ap₂, subst}
use mathlib.Core.Bool.{cond}
use mathlib.Core.List.{List, [], ◌∷◌, ◌++◌}
use native.Mathlib.Omega.{arith}
use native.Mathlib.Numerals.{add-one}
use native.Mathlib.Nat.{one-mul, mul-le-mul}
use lib.ListN.{length, get_or, set}
use lib.Seq.{take_all}
use lib.Pow.{pow_mono, shl_exact}
use borrow.Author.Tests.{le-leb, lt-leb}
use Rattle.sections.specs.Sections.{section_count}
use Rattle.sections.specs.Sums.{each, each-length}
use Rattle.plan_tables.specs.Tables.{rows_of, offset_of, offsets_of, offset_count}
use Rattle.plan_tables.specs.Listed.{Listed, listed-none, listed-snoc, listed_front, listed-size}
use Rattle.plan_tables.specs.Bounds.{BitsFew, Below, row_limit, size_limit}

-- ---- rows

shifted : (k : ℕ) → k ≤ 28 → {x : ℕ} → x ≡ 2 ^ k → Below ((1 * 2 ^ k) % 2 ^ 64) x row_limit
shifted k h {x} e =
    let is : (1 * 2 ^ k) % 2 ^ 64 ≡ 2 ^ k = shl_exact 1 k 64 (omega arith) (omega arith) ∙ one-mul (2 ^ k) in
    record { is = is ∙ sym e; most = subst (λ z. z ≤ row_limit) (sym is) (pow_mono h) }

module _ {n e : ℕ} (s : ℕ) (few : BitsFew n e) where
  pub rows-plain : s ≤ 4 → Below ((1 * 2 ^ n) % 2 ^ 64) (rows_of n e s) row_limit
  rows-plain h = shifted n few.few (ap (λ c. cond c (2 ^ n) (2 ^ e)) (le-leb s 4 h))

  pub rows-extended : 4 < s → Below ((1 * 2 ^ e) % 2 ^ 64) (rows_of n e s) row_limit
  rows-extended h = shifted e few.extended (ap (λ c. cond c (2 ^ n) (2 ^ e)) (lt-leb s 4 h))

-- ---- what a section takes

pub size-most : (rows width : ℕ) → rows ≤ row_limit → width < 65536 → rows * width ≤ size_limit
size-most rows width h l = mul-le-mul {n₂ = row_limit} {m₂ = 65536} h (omega arith)

-- ---- one section after the other

-- the offsets before s stand there, and the next is at hand
pub record Reached (n e : ℕ) (widths before : List ℕ) (s at : ℕ) (table : List ℕ) : Type 0 where
  pub inside : s ≤ section_count
  pub is : at ≡ offset_of n e widths s
  pub most : at ≤ size_limit * s
  pub listed : Listed before table s (each (offset_of n e widths) s)

module _ {n e : ℕ} {widths before : List ℕ} where
  pub reached_none : Reached n e widths before 0 0 before
  reached_none = record { inside = omega arith; is = refl; most = omega arith; listed = listed-none before }

  module _ {s at : ℕ} {table : List ℕ} (h : Reached n e widths before s at table) where
    next : (s' : ℕ) → s' ≡ suc s → Listed before (set table s at) s' (each (offset_of n e widths) s')
    next s' q = subst (λ z. Listed before (set table s at) z (each (offset_of n e widths) z)) (sym q) (subst (λ z. Listed before (set table s at) (suc s) (each (offset_of n e widths) s ++ (z ∷ []))) h.is (subst (λ z. Listed before (set table s at) z (each (offset_of n e widths) s ++ (at ∷ []))) (add-one s) (listed-snoc h.listed at)))

    pub reached_next :
        s < section_count → {rows size : ℕ} → Below rows (rows_of n e s) row_limit → Below size (rows * get_or widths (section_count + s) 0) size_limit → Reached n e widths before (s + 1) (at + size) (set table s at)
    reached_next l {rows} {size} r q =
        record {
          inside = omega arith;
          is = ap₂ ◌+◌ h.is (q.is ∙ ap (λ z. z * get_or widths (section_count + s) 0) r.is) ∙ ap (offset_of n e widths) (sym (add-one s));
          most = omega (arith, h.most, q.most);
          listed = next (s + 1) (add-one s);
        }

    -- THE TOTAL COMES LAST
    pub reached_all : section_count ≤ s → length before ≡ offset_count → set table section_count at ≡ offsets_of n e widths
    reached_all l full = filled (subst (λ z. Listed before (set table z at) offset_count (offsets_of n e widths)) k (next offset_count (omega arith)))
      where
        k : s ≡ section_count
        k = omega (arith, h.inside)

        filled : {t : List ℕ} → Listed before t offset_count (offsets_of n e widths) → t ≡ offsets_of n e widths
        filled {t} q = sym (take_all offset_count t (omega (arith, listed-size q))) ∙ listed_front q (omega (arith, each-length (offset_of n e widths) offset_count))
