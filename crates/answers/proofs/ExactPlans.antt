-- EACH NUMBER EXACTLY WHEN one of its ways is open, of the exported functions that go by a plan, and of the mapping of records.
-- Assumes nothing.
use Rattle.std.specs.Prelude.{ℕ, ◌≡◌, refl, Bool, cond, ◌&&◌, List, [], ◌∷◌, ◌⊎◌, ◌↔◌, length, eqb, leb}
use Rattle.std.proofs.Common.{sym, ◌∙◌, ap, subst, inl, inr, arith, leb-true, leb-false}
use Rattle.std.proofs.Math.Bool.{true, false}
use Rattle.meaning.specs.Refusals.{Answer, done, refused, ◌then◌, answer_no}
use Rattle.meaning.proofs.Laws.Tests.{number-not-zero, and_right}
use Rattle.kinds.specs.KindBytes as kind
use Rattle.kinds.specs.declared.reference.Reference.{Reference}
use Rattle.frames.specs.Order.{Input}
use Rattle.frames.specs.Reading.{reading}
use Rattle.lists.specs.Records.{good_list}
use Rattle.lent_lists.specs.Verdicts.{Verdict, fine, malformed, not_there, no_rule, full, verdict_no, first_of, only}
use Rattle.lent_lists.specs.Records.{segment_in, good_lists}
use Rattle.lent_lists.specs.Walks.{walked, record_verdict}
use Rattle.lent_lists.specs.Laws.Walks.{Met, walk-met}
use Rattle.fixing.specs.ProverCode.{last_counter, temporaries, ruled_reference, decided, prover_verdict}
use Rattle.fixing.specs.Conditions.{Refused10, Refused3, Refused9, Accepted}
use Rattle.fixing.specs.Exactly.{prover_10, prover_3, prover_9, prover_0}
use Rattle.fixing.specs.Laws.Whole.{reference-met}
use Rattle.query_fixing.specs.QueryCode.{has_tree, tree_for, treed_reference, query_verdict}
use Rattle.query_fixing.specs.QueryConditions as query
use Rattle.query_fixing.specs.QueryExactly.{query_10, query_3, query_0, refused_3_so, refused_10_so, accepted_so}
use Rattle.plans.specs.Agreement.{cm_count}
use Rattle.step_dimensions.specs.StepDimensions.{Given, unwritten}
use Rattle.dimensions.specs.Dimensions as dimensions
use Rattle.dimensions.specs.Answers.{refusal_of}
use Rattle.dimensions.specs.Conditions.{StepsRefused, all_records}
use Rattle.dimensions.specs.Exactly as dimensions-exactly
use Rattle.dimensions.specs.Laws.Refused as refused-by
use Rattle.planning.specs.Planning.{Planned, Plans, Goes}
use Rattle.planning.specs.Ways as plan
use Rattle.planning.specs.Exactly.{exactly, Follows, exactly-gone}
use Rattle.plan_map.specs.Numbers.{map_bytes}
use Rattle.plan_map.specs.Whole.{map_by}
use Rattle.plan_map.specs.Exactly.{by-no-room, by_room}
use Rattle.plan_tables.specs.Tables.{trees}
use Rattle.plan_exactly.specs.Numbers.{verdict-number}
use Rattle.plan_exactly.specs.Fixing as by-fixing
use Rattle.plan_exactly.proofs.Query as by-query
use Rattle.plan_exactly.specs.Query.{NoCm}
use Rattle.plan_walks.specs.Walks as walks
use Rattle.plan_walks.specs.Walks.{Walked, good_segment, last_domain}
use Rattle.plan_walks.specs.Fix.{is_n, rules_in, fix_with, fix_by}
use Rattle.plan_walks.specs.Cms.{cms_of}
use Rattle.plan_walks.specs.Query.{query_with, query_by}
use Rattle.plan_walks.specs.Dimension.{given_by, unblamed, dimension_by}
use Rattle.sections.specs.Sections as sections
use Rattle.records.specs.Records.{records_mapping}
use Rattle.records.specs.Exactly as records
use Rattle.records.specs.declared.PolType.{PolType}
use Rattle.answers.specs.Ways as way
use Rattle.answers.specs.Ways.{OfPlan}
use Rattle.answers.proofs.Exact.{both}

-- ── a plan ───────────────────────────────────────────────────────────────────
-- where there is a plan, what else the function takes is well formed
others-good : (b : List ℕ) (own : Bool) (x : Answer Input) (n : ℕ) → plan.Way b own x n → n ≡ 0 → own ≡ true
others-good b own x n (plan.Way.unread k o e) z = absurd (number-not-zero k z)
others-good b own x n (plan.Way.no_plan i e s) z = absurd (omega (arith, z))
others-good b own x n (plan.Way.too_many i e p s) z = absurd (omega (arith, z))
others-good b own x n (plan.Way.ill_formed i e p s q) z = absurd (omega (arith, z))
others-good b own x n (plan.Way.child_count i e w s) z = absurd (omega (arith, z))
others-good b own x n (plan.Way.lost i e w m s) z = absurd (omega (arith, z))
others-good b own x n (plan.Way.cycle i e w t m c) z = absurd (omega (arith, z))
others-good b own x n (plan.Way.bits i e w d s) z = absurd (omega (arith, z))
others-good b own x n (plan.Way.counts i e w d m s) z = absurd (omega (arith, z))
others-good b own x n (plan.Way.undimensioned i e w d m k s) z = absurd (omega (arith, z))
others-good b own x n (plan.Way.planned i e w d m k s) z = w.others

module _ (s b : List ℕ) (own : Bool) {A : Type 0} (what : Planned → Answer A) (C : Planned → ℕ → Type 0) (onward : own ≡ true → (z : Planned) → Plans b own (reading s) (done z) → (k : ℕ) → (answer_no (what z) ≡ k) ↔ C z k) (a : Answer A) (h : Goes b own what (reading s) a) where
  own-good : (z : Planned) → Plans b own (reading s) (done z) → own ≡ true
  own-good z p = others-good b own (reading s) 0 ((exactly b own (reading s) (done z) p 0).0 refl) refl

  pub of-plan : (k : ℕ) → (answer_no a ≡ k) ↔ OfPlan s b own C k
  of-plan k = (λ e. to ((exactly-gone b own what (reading s) a h k).0 e), λ w. (exactly-gone b own what (reading s) a h k).1 (from w))
    where
      to : (plan.Way b own (reading s) k × (k ≡ 0 → ⊥)) ⊎ Follows b own what (reading s) a h k → OfPlan s b own C k
      to (inl w) = OfPlan.unplanned w.1 w.0
      to (inr f) = OfPlan.planned f.pooled f.plans ((onward (own-good f.pooled f.plans) f.pooled f.plans k).0 f.number)

      from : OfPlan s b own C k → (plan.Way b own (reading s) k × (k ≡ 0 → ⊥)) ⊎ Follows b own what (reading s) a h k
      from (OfPlan.unplanned n w) = inl (w, n)
      from (OfPlan.planned z p c) = inr (record { pooled = z; plans = p; number = (onward (own-good z p) z p k).1 c })

-- ── enonkasse_map ────────────────────────────────────────────────────────────
module _ (b : List ℕ) (room : ℕ) (z : Planned) where
  mapped-way : way.Mapped b room z (answer_no (map_by b room z))
  mapped-way = go (leb (length (map_bytes b z)) room) refl
    where
      go : (t : Bool) → leb (length (map_bytes b z)) room ≡ t → way.Mapped b room z (answer_no (map_by b room z))
      go true e = let l = leb-true (length (map_bytes b z)) room e in subst (way.Mapped b room z) (sym (ap answer_no (by_room b room z l))) (way.Mapped.fits l)
      go false e = let l = leb-false (length (map_bytes b z)) room e in subst (way.Mapped b room z) (sym (ap answer_no (by-no-room b room z l))) (way.Mapped.full l)

  mapped-number : (k : ℕ) → way.Mapped b room z k → answer_no (map_by b room z) ≡ k
  mapped-number k (way.Mapped.full l) = ap answer_no (by-no-room b room z l)
  mapped-number k (way.Mapped.fits l) = ap answer_no (by_room b room z l)

pub of_map : (s b : List ℕ) (room : ℕ) (a : Answer (List ℕ)) → Goes b true (map_by b room) (reading s) a → (k : ℕ) → (answer_no a ≡ k) ↔ way.MapWay s b room k
of_map s b room = of-plan s b true (map_by b room) (way.Mapped b room) (λ e z p. both (way.Mapped b room z) (mapped-way b room z) (mapped-number b room z))

-- ── walks ────────────────────────────────────────────────────────────────────
-- enonkasse_fix
module _ (s b : List ℕ) (domain counter : ℕ) (first i last : List ℕ) (good : good_segment domain counter first i last ≡ true) (z : Planned) (p : Plans b (good_segment domain counter first i last) (reading s) (done z)) where
  abbrev cms : List ℕ
  cms = cms_of (is_n domain) z.mapping.sections

  abbrev verdict : Verdict
  verdict = prover_verdict (rules_in (is_n domain) b z) cms counter first i last

  abbrev fixes : Answer Walked
  fixes = fix_by counter first i last (is_n domain) b z

  -- nothing is malformed
  formed : (leb counter last_counter && good_lists first i last) ≡ true
  unfolding good_segment
  formed = and_right (leb domain last_domain) (leb counter last_counter && good_lists first i last) good

  not-malformed : verdict ≡ malformed → ⊥
  unfolding prover_verdict decided
  not-malformed e = go (walked (record_verdict (ruled_reference cms)) (segment_in first i last)) (walk-met (ruled_reference cms) (reference-met cms) (segment_in first i last)) (rw formed at e)
    where
      fit : (t : Bool) → verdict_no (only t full) ≡ 1 → ⊥
      fit true q = omega (arith, q)
      fit false q = omega (arith, q)

      go : (v : Verdict) → Met v → first_of (first_of fine v) (only (leb (temporaries (rules_in (is_n domain) b z) counter first i last).next last_counter) full) ≡ malformed → ⊥
      go fine m q = fit (leb (temporaries (rules_in (is_n domain) b z) counter first i last).next last_counter) (ap verdict_no q)
      go malformed m q = m
      go not_there m q = let y : ◌≡◌ {A = ℕ} 3 1 = ap verdict_no q in omega arith
      go no_rule m q = let y : ◌≡◌ {A = ℕ} 10 1 = ap verdict_no q in omega arith
      go full m q = m

  fix-number : answer_no fixes ≡ verdict_no verdict
  unfolding fix_with
  fix-number = verdict-number verdict _

  ten : (answer_no fixes ≡ 10) ↔ Refused10 (cm_count b) counter first i last
  ten = by-fixing.by-plan s b domain counter first i last no_rule (λ n _. Refused10 n counter first i last) (λ rules cms. prover_10 cms counter first i last rules) z p

  three : (answer_no fixes ≡ 3) ↔ Refused3 (cm_count b) counter first i last
  three = by-fixing.by-plan s b domain counter first i last not_there (λ n _. Refused3 n counter first i last) (λ rules cms. prover_3 cms counter first i last rules) z p

  nine : (answer_no fixes ≡ 9) ↔ Refused9 (cm_count b) (rules_in (is_n domain) b z) counter first i last
  nine = by-fixing.by-plan s b domain counter first i last full (λ n rules. Refused9 n rules counter first i last) (λ rules cms. prover_9 cms counter first i last rules) z p

  none-refused : (answer_no fixes ≡ 0) ↔ Accepted (cm_count b) (rules_in (is_n domain) b z) counter first i last
  none-refused = by-fixing.by-plan s b domain counter first i last fine (λ n rules. Accepted n rules counter first i last) (λ rules cms. prover_0 cms counter first i last rules) z p

  fixed-way : way.Fixed b domain counter first i last z (answer_no fixes)
  fixed-way = go verdict refl
    where
      at : (v : Verdict) → verdict ≡ v → answer_no fixes ≡ verdict_no v
      at v e = fix-number ∙ ap verdict_no e

      go : (v : Verdict) → verdict ≡ v → way.Fixed b domain counter first i last z (answer_no fixes)
      go fine e = subst (way.Fixed b domain counter first i last z) (sym (at fine e)) (way.Fixed.fixed (none-refused.0 (at fine e)))
      go malformed e = absurd (not-malformed e)
      go not_there e = subst (way.Fixed b domain counter first i last z) (sym (at not_there e)) (way.Fixed.not_there (three.0 (at not_there e)))
      go no_rule e = subst (way.Fixed b domain counter first i last z) (sym (at no_rule e)) (way.Fixed.no_rule (ten.0 (at no_rule e)))
      go full e = subst (way.Fixed b domain counter first i last z) (sym (at full e)) (way.Fixed.full (nine.0 (at full e)))

  fixed_number : (k : ℕ) → way.Fixed b domain counter first i last z k → answer_no fixes ≡ k
  fixed_number k (way.Fixed.no_rule c) = ten.1 c
  fixed_number k (way.Fixed.not_there c) = three.1 c
  fixed_number k (way.Fixed.full c) = nine.1 c
  fixed_number k (way.Fixed.fixed c) = none-refused.1 c

pub of-fix :
    (s b : List ℕ) (domain counter : ℕ) (first i last : List ℕ) (a : Answer Walked) →
    Goes b (good_segment domain counter first i last) (fix_by counter first i last (is_n domain) b) (reading s) a → (k : ℕ) → (answer_no a ≡ k) ↔ way.FixWay s b domain counter first i last k
of-fix s b domain counter first i last =
    of-plan s b (good_segment domain counter first i last) (fix_by counter first i last (is_n domain) b) (way.Fixed b domain counter first i last)
    (λ g z p. both (way.Fixed b domain counter first i last z) (fixed-way s b domain counter first i last g z p) (fixed_number s b domain counter first i last g z p))

-- enonkasse_query
module _ (s b first i last : List ℕ) (good : good_lists first i last ≡ true) (z : Planned) (p : Plans b (good_lists first i last) (reading s) (done z)) where
  abbrev ts : List ℕ
  ts = trees z.mapping

  abbrev queries : Answer Walked
  queries = query_by first i last z

  treed-met : (r : Reference) → Met (treed_reference ts r)
  unfolding treed_reference
  treed-met r = go (eqb r.kind kind.cm) (has_tree (tree_for ts r.id))
    where
      go : (p q : Bool) → Met (cond p (only q not_there) fine)
      go true true = tt
      go true false = tt
      go false q = tt

  abbrev met : Verdict
  met = walked (record_verdict (treed_reference ts)) (segment_in first i last)

  query-number : answer_no queries ≡ verdict_no met
  unfolding query_with query_verdict
  query-number = verdict-number (first_of (only (good_lists first i last) malformed) met) _ ∙ rw good

  query-ten : (answer_no queries ≡ 10) ↔ query.Refused10 (NoCm b) first i last
  query-ten = by-query.by-plan s b first i last no_rule (λ A. query.Refused10 A first i last) (λ ts. query_10 ts first i last) (λ A B e. refused_10_so A B e first i last) z p

  query-three : (answer_no queries ≡ 3) ↔ query.Refused3 (NoCm b) first i last
  query-three = by-query.by-plan s b first i last not_there (λ A. query.Refused3 A first i last) (λ ts. query_3 ts first i last) (λ A B e. refused_3_so A B e first i last) z p

  query-none : (answer_no queries ≡ 0) ↔ query.Accepted (NoCm b) first i last
  query-none = by-query.by-plan s b first i last fine (λ A. query.Accepted A first i last) (λ ts. query_0 ts first i last) (λ A B e. accepted_so A B e first i last) z p

  queried-way : way.Queried b first i last z (answer_no queries)
  queried-way = go met refl (walk-met (treed_reference ts) treed-met (segment_in first i last))
    where
      at : (v : Verdict) → met ≡ v → answer_no queries ≡ verdict_no v
      at v e = query-number ∙ ap verdict_no e

      go : (v : Verdict) → met ≡ v → Met v → way.Queried b first i last z (answer_no queries)
      go fine e m = subst (way.Queried b first i last z) (sym (at fine e)) (way.Queried.queried (query-none.0 (at fine e)))
      go malformed e m = absurd m
      go not_there e m = subst (way.Queried b first i last z) (sym (at not_there e)) (way.Queried.not_there (query-three.0 (at not_there e)))
      go no_rule e m = subst (way.Queried b first i last z) (sym (at no_rule e)) (way.Queried.no_rule (query-ten.0 (at no_rule e)))
      go full e m = absurd m

  queried-number : (k : ℕ) → way.Queried b first i last z k → answer_no queries ≡ k
  queried-number k (way.Queried.no_rule c) = query-ten.1 c
  queried-number k (way.Queried.not_there c) = query-three.1 c
  queried-number k (way.Queried.queried c) = query-none.1 c

pub of-query :
    (s b first i last : List ℕ) (a : Answer Walked) → Goes b (good_lists first i last) (query_by first i last) (reading s) a → (k : ℕ) → (answer_no a ≡ k) ↔ way.QueryWay s b first i last k
of-query s b first i last =
    of-plan s b (good_lists first i last) (query_by first i last) (way.Queried b first i last)
    (λ g z p. both (way.Queried b first i last z) (queried-way s b first i last g z p) (queried-number s b first i last g z p))

-- enonkasse_dimension and enonkasse_dimension_first
module _ (d : ℕ) (ls : List (List ℕ)) (b : List ℕ) (good : dimensions.good_lists ls ≡ true) (z : Planned) where
  abbrev g : Given
  g = given_by d b z

  dimension-number : answer_no (dimension_by d ls b z) ≡ answer_no (dimensions.dimensions g ls)
  dimension-number = go (dimensions.dimensions g ls)
    where
      go : (a : Answer (List (List ℕ))) → answer_no (unblamed a then λ ls'. done (walks.walked 0 ls')) ≡ answer_no a
      go (done x) = refl
      go (refused k o) = refl

  abbrev D : ℕ → Type 0
  D = way.Dimensioned d ls b z

  sized-way : refused-by.Way (λ w. StepsRefused g w unwritten (all_records ls)) (dimensions.passed g unwritten (all_records ls)) → D (answer_no (dimension_by d ls b z))
  sized-way (refused-by.Way.fine a e) =
      let n = dimensions-exactly.all-sized g ls good (ap refusal_of e) in
      subst D (sym (dimension-number ∙ n)) (way.Dimensioned.sized (λ w c. number-not-zero w (sym (dimensions-exactly.refused-with g ls good w c) ∙ n)))
  sized-way (refused-by.Way.stopped w c e) = subst D (sym (dimension-number ∙ dimensions-exactly.refused-with g ls good w c)) (way.Dimensioned.met w c)

  dimensioned_number : (k : ℕ) → D k → answer_no (dimension_by d ls b z) ≡ k
  dimensioned_number k (way.Dimensioned.met w c) = dimension-number ∙ dimensions-exactly.refused-with g ls good w c
  dimensioned_number k (way.Dimensioned.sized n) = dimension-number ∙ go (refused-by.steps-way g unwritten (all_records ls))
    where
      go : refused-by.Way (λ w. StepsRefused g w unwritten (all_records ls)) (dimensions.passed g unwritten (all_records ls)) → answer_no (dimensions.dimensions g ls) ≡ 0
      go (refused-by.Way.fine a e) = dimensions-exactly.all-sized g ls good (ap refusal_of e)
      go (refused-by.Way.stopped w c e) = absurd (n w c)

  of_dimensioned : (k : ℕ) → (answer_no (dimension_by d ls b z) ≡ k) ↔ D k
  of_dimensioned = both D (sized-way (refused-by.steps-way g unwritten (all_records ls))) dimensioned_number

three-good : (first i last : List ℕ) → good_lists first i last ≡ true → dimensions.good_lists (first ∷ i ∷ last ∷ []) ≡ true
unfolding good_lists dimensions.good_lists
three-good first i last h = go (good_list first) (good_list i) (good_list last) h
  where
    go : (p q r : Bool) → (p && (q && r)) ≡ true → (p && (q && (r && true))) ≡ true
    go true true true h = refl
    go true true false h = h
    go true false r h = h
    go false q r h = h

one-good : (first : List ℕ) → good_list first ≡ true → dimensions.good_lists (first ∷ []) ≡ true
unfolding dimensions.good_lists
one-good first h = rw h

pub of-dimension :
    (s b : List ℕ) (d : ℕ) (first i last : List ℕ) (a : Answer Walked) → Goes b (good_lists first i last) (dimension_by d (first ∷ i ∷ last ∷ []) b) (reading s) a → (k : ℕ) →
    (answer_no a ≡ k) ↔ way.DimensionWay s b d first i last k
of-dimension s b d first i last =
    of-plan s b (good_lists first i last) (dimension_by d (first ∷ i ∷ last ∷ []) b) (way.Dimensioned d (first ∷ i ∷ last ∷ []) b)
    (λ g z p. of_dimensioned d (first ∷ i ∷ last ∷ []) b (three-good first i last g) z)

pub of-dimension-first :
    (s b : List ℕ) (d : ℕ) (first : List ℕ) (a : Answer Walked) → Goes b (good_list first) (dimension_by d (first ∷ []) b) (reading s) a → (k : ℕ) →
    (answer_no a ≡ k) ↔ OfPlan s b (good_list first) (way.Dimensioned d (first ∷ []) b) k
of-dimension-first s b d first =
    of-plan s b (good_list first) (dimension_by d (first ∷ []) b) (way.Dimensioned d (first ∷ []) b) (λ g z p. of_dimensioned d (first ∷ []) b (one-good first g) z)

-- ── enonkasse_map_section ────────────────────────────────────────────────────
module _ (rs : List PolType) (a b c room : ℕ) where
  section-way : way.SectionWay rs a b c room (answer_no (records_mapping rs a b c room))
  section-way = go (way.fitted rs a b c room) refl (way.well_made rs a b c room) refl (leb (length rs) sections.record_limit) refl
    where
      go :
          (p : Bool) → way.fitted rs a b c room ≡ p → (q : Bool) → way.well_made rs a b c room ≡ q → (t : Bool) → leb (length rs) sections.record_limit ≡ t →
          way.SectionWay rs a b c room (answer_no (records_mapping rs a b c room))
      go false e q f t h = subst (way.SectionWay rs a b c room) (sym ((records.exactly_1 rs a b c room).1 (inl e))) (way.SectionWay.malformed (inl e))
      go true e false f t h = subst (way.SectionWay rs a b c room) (sym ((records.exactly_1 rs a b c room).1 (inr f))) (way.SectionWay.malformed (inr f))
      go true e true f true h =
          let l = leb-true (length rs) sections.record_limit h in
          subst (way.SectionWay rs a b c room) (sym ((records.exactly_0 rs a b c room).1 ((e, f), l))) (way.SectionWay.mapped e f l)
      go true e true f false h =
          let l = leb-false (length rs) sections.record_limit h in
          subst (way.SectionWay rs a b c room) (sym ((records.exactly_9 rs a b c room).1 ((e, f), l))) (way.SectionWay.full e f l)

  section-number : (k : ℕ) → way.SectionWay rs a b c room k → answer_no (records_mapping rs a b c room) ≡ k
  section-number k (way.SectionWay.malformed h) = (records.exactly_1 rs a b c room).1 h
  section-number k (way.SectionWay.full e f l) = (records.exactly_9 rs a b c room).1 ((e, f), l)
  section-number k (way.SectionWay.mapped e f l) = (records.exactly_0 rs a b c room).1 ((e, f), l)

  pub of-section : (k : ℕ) → (answer_no (records_mapping rs a b c room) ≡ k) ↔ way.SectionWay rs a b c room k
  of-section = both (way.SectionWay rs a b c room) section-way section-number
