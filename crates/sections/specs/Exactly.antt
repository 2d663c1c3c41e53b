-- EACH ANSWER OF map_section EXACTLY WHEN, for all lists; and only one outcome fits what it promises.
-- Assumes nothing.
use Rattle.std.specs.Prelude.{ℕ, ◌<◌, ◌≤◌, ◌≡◌, refl, Bool, true, false, List, ◌↔◌, length, leb, Result}
use Rattle.std.proofs.Common.{sym, ◌∙◌, ap, arith}
use Rattle.std.proofs.Math.Option.{none}
use borrow.Author.Tests.{le-leb, lt-leb, leb-true, leb-false}
use Rattle.meaning.specs.Refusals.{Refusal, Answer, done, refused, answer_no}
use Rattle.sections.specs.Sections.{record_limit, Mapping, well_formed, mapping, positions_from, widths}
use Rattle.sections.specs.Answer.{MappedIs}
use Rattle.kinds.specs.AnswerLaws.{plain_same}
use Rattle.kinds.specs.declared.refusal.Refusal as codes

module _ (ss ds ps : List ℕ) (room : ℕ) where
  abbrev given_answer : Answer Mapping
  given_answer = mapping ss ds ps room

  abbrev IllFormed : Type 0
  IllFormed = well_formed ss ds ps room ≡ false

  abbrev WellFormed : Type 0
  WellFormed = well_formed ss ds ps room ≡ true

  pub ill-formed : IllFormed → given_answer ≡ refused Refusal.malformed none
  unfolding mapping
  ill-formed h = rw h

  pub too_many_lem : WellFormed → record_limit < length ss → given_answer ≡ refused Refusal.full none
  unfolding mapping
  too_many_lem w h = rw (w, lt-leb (length ss) record_limit h)

  pub maps : WellFormed → length ss ≤ record_limit → given_answer ≡ done (record { positions = positions_from ss ds ps; widths = widths ss ds })
  unfolding mapping
  maps w h = rw (w, le-leb (length ss) record_limit h)

  data Way : Type 0 where
    is_ill : IllFormed → answer_no given_answer ≡ 1 → Way
    is_many : WellFormed → record_limit < length ss → answer_no given_answer ≡ 9 → Way
    is-done : WellFormed → length ss ≤ record_limit → answer_no given_answer ≡ 0 → Way

  way : Way
  way = by (well_formed ss ds ps room) refl (leb (length ss) record_limit) refl
    where
      by : (a : Bool) → well_formed ss ds ps room ≡ a → (b : Bool) → leb (length ss) record_limit ≡ b → Way
      by false p b q = is_ill p (ap answer_no (ill-formed p))
      by true p false q = let h : record_limit < length ss = leb-false (length ss) record_limit q in is_many p h (ap answer_no (too_many_lem p h))
      by true p true q = let h : length ss ≤ record_limit = leb-true (length ss) record_limit q in is-done p h (ap answer_no (maps p h))

  pub exactly_1 : (answer_no given_answer ≡ 1) ↔ IllFormed
  exactly_1 = ((λ h. by way h), λ c. ap answer_no (ill-formed c))
    where
      by : Way → answer_no given_answer ≡ 1 → IllFormed
      by (is_ill c e) h = c
      by (is_many w c e) h = absurd (omega (arith, sym e ∙ h))
      by (is-done w c e) h = absurd (omega (arith, sym e ∙ h))

  pub exactly_9 : (answer_no given_answer ≡ 9) ↔ (WellFormed × (record_limit < length ss))
  exactly_9 = ((λ h. by way h), λ c. ap answer_no (too_many_lem c.0 c.1))
    where
      by : Way → answer_no given_answer ≡ 9 → WellFormed × (record_limit < length ss)
      by (is_ill c e) h = absurd (omega (arith, sym e ∙ h))
      by (is_many w c e) h = (w, c)
      by (is-done w c e) h = absurd (omega (arith, sym e ∙ h))

  pub exactly_0 : (answer_no given_answer ≡ 0) ↔ (WellFormed × (length ss ≤ record_limit))
  exactly_0 = ((λ h. by way h), λ c. ap answer_no (maps c.0 c.1))
    where
      by : Way → answer_no given_answer ≡ 0 → WellFormed × (length ss ≤ record_limit)
      by (is_ill c e) h = absurd (omega (arith, sym e ∙ h))
      by (is_many w c e) h = absurd (omega (arith, sym e ∙ h))
      by (is-done w c e) h = (w, c)

-- ---- only one outcome fits

pub one-mapping :
    (ss ds ps ws : List ℕ) {ps₁ ps₂ ws₁ ws₂ : List ℕ} {r₁ r₂ : Result Unit codes.Refusal}
    → MappedIs ss ds ps ps₁ ws ws₁ r₁ → MappedIs ss ds ps ps₂ ws ws₂ r₂ → (r₁ ≡ r₂) × (ps₁ ≡ ps₂) × (ws₁ ≡ ws₂)
one-mapping ss ds ps ws {ps₁} {ps₂} {ws₁} {ws₂} {r₁} {r₂} a b =
    (plain_same r₁ r₂ (a.says ∙ sym b.says), a.positions ∙ sym b.positions, a.widths ∙ sym b.widths)
