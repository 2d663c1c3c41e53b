-- EXACTLY WHEN fixing answers 10, 3 and 9, and when it refuses nothing; and only one outcome fits its contract.
-- Assumes nothing.
use Rattle.std.specs.Prelude.{ℕ, Bool, not, ◌&&◌, List, ◌⊎◌, ◌↔◌, length, eqb, ltb, leb, Result}
use Rattle.std.proofs.Math.Path.{◌≡◌, refl, ap}
use Rattle.std.proofs.Common.{sym, ◌∙◌, subst, inl, inr, arith}
use Rattle.std.proofs.Math.Bool.{true, false}
use borrow.Author.Tests.{eqb-true, eq-eqb, ne_eqb, eqb-false, le-ltb, ltb-false, le-leb, lt-leb, leb-true, leb-false}
use Rattle.kinds.specs.KindBytes as kind
use Rattle.kinds.specs.Range.{within, within-true, within_in}
use Rattle.kinds.specs.declared.reference.Reference.{Reference}
use Rattle.kinds.specs.declared.step.Step.{Step}
use Rattle.meaning.specs.Trees.{Each}
use Rattle.meaning.proofs.Laws.Tests.{true-false, and_left, and_right}
use Rattle.lent_lists.specs.Verdicts.{Verdict, fine, malformed, not_there, no_rule, full, verdict_no, first_of, only}
use Rattle.lent_lists.specs.Records.{segment_in, good_lists}
use Rattle.lent_lists.specs.Walks.{walked, record_verdict}
use Rattle.lent_lists.specs.Laws.Walks.{Met, walk-met}
use Rattle.lent_lists.specs.Conditions.{First, RecordRuled, ByReference, RecordNoRule}
use Rattle.lent_lists.specs.Exactly.{not-fine-rule, not-fine-there, not-fine-full, rule-is-not-there, first-cases, both_fine, stays, only-fine, only_it, only-other, records_0, records_10, records_3}
use Rattle.fixing.specs.ProverCode.{last_counter, ruled_reference, decided, temporaries, prover_verdict}
use Rattle.fixing.specs.Answers.{ProverCodeIs}
use Rattle.fixing.specs.Conditions.{NoRule, NotThere, Ruled, WellFormed, Refused10, Refused3, Refused9, Accepted}
use Rattle.fixing.specs.Laws.Whole.{reference-met}
use Rattle.kinds.specs.declared.refusal.Refusal as codes

-- ---- a reference

module _ (cms : List ℕ) where
  at-cm : (r : Reference) → r.kind ≡ kind.cm → ruled_reference cms r ≡ only (ltb r.id (length cms)) not_there
  unfolding ruled_reference
  at-cm r h = rw (eq-eqb r.kind kind.cm h)

  at_other : (r : Reference) → (r.kind ≡ kind.cm → ⊥) → ruled_reference cms r ≡ only (not (within kind.tree1 kind.Z r.kind)) no_rule
  unfolding ruled_reference
  at_other r h = rw (ne_eqb r.kind kind.cm h)

  cm_or_not : (r : Reference) → (r.kind ≡ kind.cm) ⊎ (r.kind ≡ kind.cm → ⊥)
  cm_or_not r = go (eqb r.kind kind.cm) refl
    where
      go : (b : Bool) → eqb r.kind kind.cm ≡ b → (r.kind ≡ kind.cm) ⊎ (r.kind ≡ kind.cm → ⊥)
      go true h = inl (eqb-true _ _ h)
      go false h = inr (eqb-false _ _ h)

  not-false : (b : Bool) → not b ≡ false → b ≡ true
  not-false true h = refl
  not-false false h = absurd (true-false refl h)

  -- 10 of a reference
  reference_10 : (r : Reference) → (ruled_reference cms r ≡ no_rule) ↔ NoRule r
  reference_10 r = (to (cm_or_not r), λ w. at_other r (λ e. omega (arith, w.0)) ∙ rw (within_in kind.tree1 kind.Z r.kind w))
    where
      to : (r.kind ≡ kind.cm) ⊎ (r.kind ≡ kind.cm → ⊥) → ruled_reference cms r ≡ no_rule → NoRule r
      to (inl c) h = absurd (only-other (ltb r.id (length cms)) not_there no_rule not-fine-rule (λ z. rule-is-not-there (sym z)) (sym (at-cm r c) ∙ h))
      to (inr c) h = within-true kind.tree1 kind.Z r.kind (not-false (within kind.tree1 kind.Z r.kind) (only_it (not (within kind.tree1 kind.Z r.kind)) no_rule not-fine-rule (sym (at_other r c) ∙ h)))

  -- 3 of a reference
  reference_3 : (r : Reference) → (ruled_reference cms r ≡ not_there) ↔ NotThere (length cms) r
  reference_3 r = (to (cm_or_not r), λ w. at-cm r w.0 ∙ rw (le-ltb r.id (length cms) w.1))
    where
      to : (r.kind ≡ kind.cm) ⊎ (r.kind ≡ kind.cm → ⊥) → ruled_reference cms r ≡ not_there → NotThere (length cms) r
      to (inl c) h = (c, ltb-false r.id (length cms) (only_it (ltb r.id (length cms)) not_there not-fine-there (sym (at-cm r c) ∙ h)))
      to (inr c) h = absurd (only-other (not (within kind.tree1 kind.Z r.kind)) no_rule not_there not-fine-there rule-is-not-there (sym (at_other r c) ∙ h))

  reference_0 : (r : Reference) → (ruled_reference cms r ≡ fine) ↔ Ruled (length cms) r
  reference_0 r = (λ h. ((λ w. not-fine-rule (sym ((reference_10 r).1 w) ∙ h)), (λ w. not-fine-there (sym ((reference_3 r).1 w) ∙ h))), from (cm_or_not r))
    where
      from : (r.kind ≡ kind.cm) ⊎ (r.kind ≡ kind.cm → ⊥) → Ruled (length cms) r → ruled_reference cms r ≡ fine
      from (inl c) w = at-cm r c ∙ go (ltb r.id (length cms)) refl
        where
          go : (b : Bool) → ltb r.id (length cms) ≡ b → only b not_there ≡ fine
          go true e = refl
          go false e = absurd (w.1 (c, ltb-false r.id (length cms) e))
      from (inr c) w = at_other r c ∙ go (within kind.tree1 kind.Z r.kind) refl
        where
          go : (b : Bool) → within kind.tree1 kind.Z r.kind ≡ b → only (not b) no_rule ≡ fine
          go true e = absurd (w.0 (within-true kind.tree1 kind.Z r.kind e))
          go false e = refl

  -- ---- a segment
  abbrev W : List Step → Verdict
  W xs = walked (record_verdict (ruled_reference cms)) xs

  segment_0 : (xs : List Step) → (W xs ≡ fine) ↔ Each (RecordRuled (Ruled (length cms))) xs
  segment_0 = records_0 (ruled_reference cms) (Ruled (length cms)) NoRule (NotThere (length cms)) reference_0 reference_10 reference_3

  segment_10 : (xs : List Step) → (W xs ≡ no_rule) ↔ First (RecordRuled (Ruled (length cms))) (RecordNoRule (Ruled (length cms)) NoRule) xs
  segment_10 = records_10 (ruled_reference cms) (Ruled (length cms)) NoRule (NotThere (length cms)) reference_0 reference_10 reference_3

  segment_3 : (xs : List Step) → (W xs ≡ not_there) ↔ First (RecordRuled (Ruled (length cms))) (ByReference (Ruled (length cms)) (NotThere (length cms))) xs
  segment_3 = records_3 (ruled_reference cms) (Ruled (length cms)) NoRule (NotThere (length cms)) reference_0 reference_10 reference_3

  module _ (counter : ℕ) (first i last : List ℕ) where
    abbrev formed : Bool
    formed = leb counter last_counter && good_lists first i last

    well_formed_lem : (formed ≡ true) ↔ WellFormed counter first i last
    well_formed_lem = (
      λ h. (leb-true _ _ (and_left (leb counter last_counter) (good_lists first i last) h), and_right (leb counter last_counter) (good_lists first i last) h),
      λ h. rw (le-leb counter last_counter h.0, h.1),
    )

    module _ (rules : List ℕ) where
      abbrev fit : Verdict
      fit = only (leb (temporaries rules counter first i last).next last_counter) full

      -- a verdict that is neither 1 nor 9 nor 0 is that of the records
      from-records :
          (k : Verdict) → (k ≡ fine → ⊥) → (malformed ≡ k → ⊥) → (full ≡ k → ⊥) →
          (prover_verdict rules cms counter first i last ≡ k) ↔ ((formed ≡ true) × (W (segment_in first i last) ≡ k))
      unfolding prover_verdict decided
      from-records k nf nm nu = (
        λ h. to (formed) refl (h),
        λ w. rw w.0 (stays (W (segment_in first i last)) fit k nf w.1),
      )
        where
          to : (b : Bool) → formed ≡ b → first_of (first_of (only b malformed) (W (segment_in first i last))) fit ≡ k → (formed ≡ true) × (W (segment_in first i last) ≡ k)
          to false e h = absurd (nm h)
          to true e h = (e, go (first-cases (W (segment_in first i last)) fit k h))
            where
              go : ((W (segment_in first i last) ≡ fine) × (fit ≡ k)) ⊎ (W (segment_in first i last) ≡ k) → W (segment_in first i last) ≡ k
              go (inl w) = absurd (only-other (leb (temporaries rules counter first i last).next last_counter) full k nf nu w.1)
              go (inr w) = w

      -- EXACTLY WHEN IT ANSWERS 10
      pub prover_10 : (prover_verdict rules cms counter first i last ≡ no_rule) ↔ Refused10 (length cms) counter first i last
      prover_10 =
          let f = from-records no_rule not-fine-rule (λ z. let y : ◌≡◌ {A = ℕ} 1 10 = ap verdict_no z in omega arith) (λ z. let y : ◌≡◌ {A = ℕ} 9 10 = ap verdict_no z in omega arith) in (
            λ h. let w = f.0 h in record { well_formed = well_formed_lem.0 w.0; met = (segment_10 (segment_in first i last)).0 w.1 },
            λ r. f.1 (well_formed_lem.1 r.well_formed, (segment_10 (segment_in first i last)).1 r.met),
          )

      -- EXACTLY WHEN IT ANSWERS 3
      pub prover_3 : (prover_verdict rules cms counter first i last ≡ not_there) ↔ Refused3 (length cms) counter first i last
      prover_3 =
          let f = from-records not_there not-fine-there (λ z. let y : ◌≡◌ {A = ℕ} 1 3 = ap verdict_no z in omega arith) (λ z. let y : ◌≡◌ {A = ℕ} 9 3 = ap verdict_no z in omega arith) in (
            λ h. let w = f.0 h in record { well_formed = well_formed_lem.0 w.0; met = (segment_3 (segment_in first i last)).0 w.1 },
            λ r. f.1 (well_formed_lem.1 r.well_formed, (segment_3 (segment_in first i last)).1 r.met),
          )

      -- ---- the counter after it
      abbrev next : ℕ
      next = (temporaries rules counter first i last).next

      abbrev whole : Bool → Bool → Verdict
      whole formed fits = first_of (first_of (only formed malformed) (W (segment_in first i last))) (only fits full)

      never-full : W (segment_in first i last) ≡ full → ⊥
      never-full e = subst Met e (walk-met (ruled_reference cms) (reference-met cms) (segment_in first i last))

      all-ruled : W (segment_in first i last) ≡ fine → Each (RecordRuled (Ruled (length cms))) (segment_in first i last)
      all-ruled = (segment_0 (segment_in first i last)).0

      -- EXACTLY WHEN IT ANSWERS 9
      pub prover_9 : (prover_verdict rules cms counter first i last ≡ full) ↔ Refused9 (length cms) rules counter first i last
      unfolding prover_verdict decided
      prover_9 = (λ h. to formed refl h, λ r. rw (well_formed_lem.1 r.well_formed, (segment_0 (segment_in first i last)).1 r.ruled, lt-leb next last_counter r.over))
        where
          to : (b : Bool) → formed ≡ b → whole b (leb next last_counter) ≡ full → Refused9 (length cms) rules counter first i last
          to false e h = absurd (let y : ◌≡◌ {A = ℕ} 1 9 = ap verdict_no h in omega arith)
          to true e h = go (first-cases (W (segment_in first i last)) fit full h)
            where
              go : ((W (segment_in first i last) ≡ fine) × (fit ≡ full)) ⊎ (W (segment_in first i last) ≡ full) → Refused9 (length cms) rules counter first i last
              go (inl w) = record { well_formed = well_formed_lem.0 e; ruled = all-ruled w.0; over = leb-false next last_counter (only_it (leb next last_counter) full not-fine-full w.1) }
              go (inr w) = absurd (never-full w)

      -- AND WHEN IT REFUSES NOTHING
      pub prover_0 : (prover_verdict rules cms counter first i last ≡ fine) ↔ Accepted (length cms) rules counter first i last
      unfolding prover_verdict decided
      prover_0 = (λ h. to formed refl h, λ r. rw (well_formed_lem.1 r.well_formed, (segment_0 (segment_in first i last)).1 r.ruled, le-leb next last_counter r.fits))
        where
          to : (b : Bool) → formed ≡ b → whole b (leb next last_counter) ≡ fine → Accepted (length cms) rules counter first i last
          to false e h = absurd (let y : ◌≡◌ {A = ℕ} 1 0 = ap verdict_no h in omega arith)
          to true e h =
              let w = both_fine (W (segment_in first i last)) fit h in
              record { well_formed = well_formed_lem.0 e; ruled = all-ruled w.0; fits = leb-true next last_counter (only-fine (leb next last_counter) full not-fine-full w.1) }

-- ONLY ONE OUTCOME FITS
pub one-outcome :
    (rules cms : List ℕ) (counter : ℕ) (first i last a b c a' b' c' : List ℕ) (r r' : Result ℕ codes.Refusal) →
    ProverCodeIs rules cms counter first i last a b c r → ProverCodeIs rules cms counter first i last a' b' c' r' →
    (r ≡ r') × (a ≡ a') × (b ≡ b') × (c ≡ c')
one-outcome rules cms counter first i last a b c a' b' c' r r' x y =
    (x.answer ∙ sym y.answer, x.first_is ∙ sym y.first_is, x.i_is ∙ sym y.i_is, x.last_is ∙ sym y.last_is)
