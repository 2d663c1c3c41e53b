-- Laws of a mapping in tables: one record more, the two of a cm, and a dimension of a cm. Assumes nothing.
use Rattle.std.specs.Prelude.{ℕ, suc, ◌+◌, ◌<◌, ◌≡◌, List, [], ◌∷◌, ◌++◌, length, set, take}
use Rattle.std.proofs.Common.{sym, ◌∙◌, ap, subst, arith, add-one, length-set, take-suc-set}
use Rattle.plans.specs.Columns.{record_limit}
use Rattle.map_records.specs.Mapping.{Mapping, pol, pair, twin}
use Rattle.map_records.specs.Tables.{Holds}
use Rattle.map_records.specs.Sizes.{snoc-size}

-- a table of n things, with one more
pub take_more : (l : List ℕ) (n a : ℕ) {xs : List ℕ} → n < length l → take n l ≡ xs → take (n + 1) (set l n a) ≡ xs ++ (a ∷ [])
take_more l n a {xs} h q = subst (λ k. take k (set l n a) ≡ xs ++ (a ∷ [])) (sym (add-one n)) (take-suc-set l n a h ∙ ap (λ ys. ys ++ (a ∷ [])) q)

module _ {ss ds cs : List ℕ} {n : ℕ} {m : Mapping} (h : Holds ss ds cs n m) where
  -- ONE RECORD MORE
  pub holds-pol : (s d : ℕ) → n < record_limit → Holds (set ss n s) (set ds n d) cs (n + 1) (pol s d m)
  holds-pol s d l =
      record {
        sections_size = length-set ss n s ∙ h.sections_size;
        dims_size = length-set ds n d ∙ h.dims_size;
        cm_size = h.cm_size;
        count = snoc-size m.sections s ∙ ap suc h.count ∙ sym (add-one n);
        counted = snoc-size m.dims d ∙ ap suc h.counted ∙ sym (add-one n);
        sections = take_more ss n s (rw h.sections_size l) h.sections;
        dims = take_more ds n d (rw h.dims_size l) h.dims;
        cm_dims = h.cm_dims;
      }

  -- a cm's dimension
  pub holds-dim : (k d : ℕ) → Holds ss ds (set cs k d) n (record { sections = m.sections; dims = m.dims; columns = m.columns; cm_dims = set m.cm_dims k d })
  holds-dim k d =
      record {
        sections_size = h.sections_size;
        dims_size = h.dims_size;
        cm_size = length-set cs k d ∙ h.cm_size;
        count = h.count;
        counted = h.counted;
        sections = h.sections;
        dims = h.dims;
        cm_dims = ap (λ (ys : List ℕ). set ys k d) h.cm_dims;
      }

-- THE TWO RECORDS OF A CM, and its dimension
pub holds-pair :
    {ss ds cs : List ℕ} {n : ℕ} {m : Mapping} → Holds ss ds cs n m → (s k d : ℕ) → n + 1 < record_limit →
    Holds (set (set ss n s) (n + 1) (twin s)) (set (set ds n d) (n + 1) d) (set cs k d) (n + 2) (pair s k d m)
holds-pair {ss} {ds} {cs} {n} {m} h s k d l =
    let one = holds-pol h s d (omega arith) in
    let two = holds-pol one (twin s) d l in
    let e : n + 1 + 1 ≡ n + 2 = omega arith in
    subst (λ j. Holds (set (set ss n s) (n + 1) (twin s)) (set (set ds n d) (n + 1) d) (set cs k d) j (pair s k d m)) e (holds-dim two k d)
