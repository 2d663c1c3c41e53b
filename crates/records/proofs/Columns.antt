-- What the functions over records need of their columns, beside the laws of specs/.
-- Assumes nothing.
use Rattle.std.specs.Prelude.{ℕ, zero, suc, ◌≡◌, refl, Bool, true, false, List, [], ◌∷◌, length, take, ltb, Ok, Err}
use Rattle.std.proofs.Common.{sym, ◌∙◌, ap, arith}
use Rattle.std.proofs.Math.Option.{none}
use Rattle.std.specs.List.{list_all}
use Rattle.kinds.specs.AnswerLaws.{refusal-some}
use Rattle.kinds.specs.Answers.{refusal_of}
use Rattle.kinds.specs.declared.refusal.Refusal.{Refusal}
use Rattle.meaning.specs.Refusals.{done, refused, answer_no}
use Rattle.sections.specs.Sections.{section_count, Mapping, known, mapping}
use Rattle.sections.specs.Groups.{count_to_read}
use Rattle.sections.specs.Answer.{MappedIs}
use Rattle.records.specs.declared.PolType.{PolType}
use Rattle.records.specs.Columns.{bad_in, AdmittedIs}
use Rattle.records.specs.Records.{sections_of, dims_of, positions_of, written, records_mapping, RecordsMapped}
use Rattle.records.specs.Laws.Ends.{Way, stops, goes, ways}

pub known-is-all : (rs : List PolType) → list_all (λ r. ltb r.section section_count) rs ≡ known (sections_of rs)
unfolding known sections_of
known-is-all [] = refl
known-is-all (r ∷ rs) = rw (known-is-all rs)

pub sections-front : (n : ℕ) (rs : List PolType) → sections_of (take n rs) ≡ take n (sections_of rs)
unfolding sections_of
sections-front zero rs = refl
sections-front (suc n) [] = refl
sections-front (suc n) (r ∷ rs) = ap (λ ss. r.section ∷ ss) (sections-front n rs)

-- what is read of the sections
module _ (rs : List PolType) (c : ℕ) (n : c ≡ count_to_read (length rs)) (b : Bool) (k : b ≡ known (sections_of (take c rs))) where
  read-as : b ≡ known (take (count_to_read (length rs)) (sections_of rs))
  read-as = k ∙ ap known (sections-front c rs) ∙ ap (λ i. known (take i (sections_of rs))) n

  pub sections-known : b ≡ true → bad_in (take (count_to_read (length rs)) (sections_of rs)) ≡ 0
  sections-known e = rw (sym read-as ∙ e)

  pub section-unknown : b ≡ false → bad_in (take (count_to_read (length rs)) (sections_of rs)) ≡ 0 → ⊥
  section-unknown e z = let q : bad_in (take (count_to_read (length rs)) (sections_of rs)) ≡ 1 = rw (sym read-as ∙ e) in omega arith

module _ (rs : List PolType) (ss ds ps ws : List ℕ) where
  abbrev counted : ℕ
  counted = bad_in (take (count_to_read (length rs)) (sections_of rs))

  abbrev way : Way rs ss ds ps ws counted
  way = ways rs ss ds ps ws counted refl

  -- refused before anything is written
  pub not_admitted : (r : Refusal) → AdmittedIs rs (length ss) (length ds) (length ps) (length ws) (Err r)
      → RecordsMapped rs rs ss ss ds ds ps ps ws ws (answer_no {A = Mapping} (refused (refusal_of r) none))
  not_admitted r a = by way
    where
      by : Way rs ss ds ps ws counted → RecordsMapped rs rs ss ss ds ds ps ps ws ws (answer_no {A = Mapping} (refused (refusal_of r) none))
      by (stops h e q z) = record { says = a ∙ z; records = rw q; sections = rw q; dims = rw q; positions = rw q; widths = rw q }
      by (goes h la lb lc x q e) = absurd (refusal-some (refusal_of r) (a ∙ h))

  -- what holds where the records are mapped
  pub record Fits : Type 0 where
    pub sections : length ss ≡ length rs
    pub dims : length ds ≡ length rs
    pub positions : length ps ≡ length rs
    pub mapping_of : Mapping
    pub plain : mapping (sections_of rs) (dims_of rs) (positions_of rs) (length ws) ≡ done mapping_of
    pub is : records_mapping rs (length ss) (length ds) (length ps) (length ws) ≡ done mapping_of

  pub fits : AdmittedIs rs (length ss) (length ds) (length ps) (length ws) (Ok tt) → Fits
  fits a = by way
    where
      by : Way rs ss ds ps ws counted → Fits
      by (stops h e q z) = absurd (h (sym a))
      by (goes h la lb lc x q e) = record { sections = la; dims = lb; positions = lc; mapping_of = x; plain = q; is = e }

  module _ (f : Fits) {ps' ws' : List ℕ} where
    pub not-refused : {A : Type 0} (r : Refusal) → MappedIs (sections_of rs) (dims_of rs) (positions_of rs) ps' ws ws' (Err r) → A
    not-refused r m = absurd (refusal-some (refusal_of r) (m.says ∙ ap answer_no f.plain))

    pub mapped : {rs' : List PolType} → MappedIs (sections_of rs) (dims_of rs) (positions_of rs) ps' ws ws' (Ok tt) → rs' ≡ written ps' rs
        → RecordsMapped rs rs' ss (sections_of rs) ds (dims_of rs) ps ps' ws ws' 0
    mapped {rs'} m w =
        let p : ps' ≡ f.mapping_of.positions = m.positions ∙ rw f.plain in
        record {
          says = rw f.is;
          records = w ∙ rw (p, f.is);
          sections = rw f.is;
          dims = rw f.is;
          positions = p ∙ rw f.is;
          widths = m.widths ∙ rw (f.plain, f.is);
        }
