-- EACH ANSWER OF enonkasse_map_section EXACTLY WHEN, for all records and all that is lent beside them; and only one outcome fits what it promises.
-- Assumes nothing.
use Rattle.std.specs.Prelude.{ℕ, ◌<◌, ◌≤◌, ◌≡◌, refl, Bool, true, false, ◌&&◌, List, ◌↔◌, ◌⊎◌, length, eqb}
use Rattle.std.proofs.Common.{sym, ◌∙◌, ap, inl, inr, arith}
use Rattle.meaning.specs.Refusals.{Answer, answer_no}
use Rattle.sections.specs.Sections.{record_limit, Mapping, well_formed, mapping}
use Rattle.sections.specs.Exactly as plain
use Rattle.records.specs.declared.PolType.{PolType}
use Rattle.records.specs.Records.{sections_of, dims_of, positions_of, records_mapping, RecordsMapped}
use Rattle.records.specs.Laws.Lists.{length-sections}

module _ (rs : List PolType) (a b c room : ℕ) where
  abbrev given_answer : Answer Mapping
  given_answer = records_mapping rs a b c room

  -- each column that is lent is as long as the records
  abbrev fitting : Bool
  fitting = eqb a (length rs) && (eqb b (length rs) && eqb c (length rs))

  abbrev formed : Bool
  formed = well_formed (sections_of rs) (dims_of rs) (positions_of rs) room

  abbrev IllFormed : Type 0
  IllFormed = (fitting ≡ false) ⊎ (formed ≡ false)

  abbrev WellFormed : Type 0
  WellFormed = (fitting ≡ true) × (formed ≡ true)

  not-fitting : fitting ≡ false → answer_no given_answer ≡ 1
  unfolding records_mapping
  not-fitting e = rw e

  as_plain : fitting ≡ true → given_answer ≡ mapping (sections_of rs) (dims_of rs) (positions_of rs) room
  unfolding records_mapping
  as_plain e = rw e

  by-fitting : {A : Type 0} → (fitting ≡ true → A) → (fitting ≡ false → A) → A
  by-fitting {A} t f = by fitting refl
    where
      by : (x : Bool) → fitting ≡ x → A
      by true e = t e
      by false e = f e

  number : fitting ≡ true → answer_no given_answer ≡ answer_no (mapping (sections_of rs) (dims_of rs) (positions_of rs) room)
  number e = ap answer_no (as_plain e)

  pub exactly_1 : (answer_no given_answer ≡ 1) ↔ IllFormed
  exactly_1 = ((λ h. by-fitting (λ e. inr ((plain.exactly_1 (sections_of rs) (dims_of rs) (positions_of rs) room).0 (sym (number e) ∙ h))) (λ e. inl e)), back)
    where
      back : IllFormed → answer_no given_answer ≡ 1
      back (inl e) = not-fitting e
      back (inr h) = by-fitting (λ e. number e ∙ (plain.exactly_1 (sections_of rs) (dims_of rs) (positions_of rs) room).1 h) not-fitting

  pub exactly_9 : (answer_no given_answer ≡ 9) ↔ (WellFormed × (record_limit < length rs))
  exactly_9 = ((λ h. by-fitting (λ e. there e h) (λ e. absurd (omega (arith, sym (not-fitting e) ∙ h)))), back)
    where
      there : fitting ≡ true → answer_no given_answer ≡ 9 → WellFormed × (record_limit < length rs)
      there e h =
          let q = (plain.exactly_9 (sections_of rs) (dims_of rs) (positions_of rs) room).0 (sym (number e) ∙ h) in
          ((e, q.0), rw (length-sections rs) at q.1)

      back : WellFormed × (record_limit < length rs) → answer_no given_answer ≡ 9
      back h = number h.0.0 ∙ (plain.exactly_9 (sections_of rs) (dims_of rs) (positions_of rs) room).1 (h.0.1, rw (length-sections rs) h.1)

  pub exactly_0 : (answer_no given_answer ≡ 0) ↔ (WellFormed × (length rs ≤ record_limit))
  exactly_0 = ((λ h. by-fitting (λ e. there e h) (λ e. absurd (omega (arith, sym (not-fitting e) ∙ h)))), back)
    where
      there : fitting ≡ true → answer_no given_answer ≡ 0 → WellFormed × (length rs ≤ record_limit)
      there e h =
          let q = (plain.exactly_0 (sections_of rs) (dims_of rs) (positions_of rs) room).0 (sym (number e) ∙ h) in
          ((e, q.0), rw (length-sections rs) at q.1)

      back : WellFormed × (length rs ≤ record_limit) → answer_no given_answer ≡ 0
      back h = number h.0.0 ∙ (plain.exactly_0 (sections_of rs) (dims_of rs) (positions_of rs) room).1 (h.0.1, rw (length-sections rs) h.1)

-- ---- only one outcome fits

pub one-mapping :
    (rs : List PolType) (ss ds ps ws : List ℕ) {rs₁ rs₂ : List PolType} {ss₁ ss₂ ds₁ ds₂ ps₁ ps₂ ws₁ ws₂ : List ℕ} {n₁ n₂ : ℕ}
    → RecordsMapped rs rs₁ ss ss₁ ds ds₁ ps ps₁ ws ws₁ n₁ → RecordsMapped rs rs₂ ss ss₂ ds ds₂ ps ps₂ ws ws₂ n₂
    → (n₁ ≡ n₂) × (rs₁ ≡ rs₂) × (ss₁ ≡ ss₂) × (ds₁ ≡ ds₂) × (ps₁ ≡ ps₂) × (ws₁ ≡ ws₂)
one-mapping rs ss ds ps ws a b =
    (a.says ∙ sym b.says, a.records ∙ sym b.records, a.sections ∙ sym b.sections, a.dims ∙ sym b.dims, a.positions ∙ sym b.positions, a.widths ∙ sym b.widths)
