-- THE QUERY CODE'S WALK BY A PLAN, exactly when: 3 beside the plan's own, 10, and when it is done. A cm is there where its number is below the plan's count of cm: each has its
-- tree.
-- Assumes nothing.
use Rattle.std.specs.Prelude.{ℕ, ◌≤◌, ◌<◌, ◌≡◌, refl, Bool, List, ◌⊎◌, ◌↔◌, length, get_or}
use Rattle.std.proofs.Common.{sym, subst, inl, inr, arith}
use Rattle.kinds.specs.KindBytes as kind
use Rattle.kinds.specs.declared.reference.Reference.{Reference}
use Rattle.meaning.specs.Refusals.{done, answer_no}
use Rattle.frames.specs.Reading.{reading}
use Rattle.pool.specs.Numbered.{pool_of}
use Rattle.lent_lists.specs.Verdicts.{Verdict, fine, not_there, no_rule, verdict_no}
use Rattle.lent_lists.specs.Records.{good_lists}
use Rattle.query_fixing.specs.QueryCode.{query_verdict}
use Rattle.query_fixing.specs.QueryConditions.{NoTree, Lost, Refused3, Refused10, Accepted}
use Rattle.query_fixing.specs.QueryExactly as walk
use Rattle.query_fixing.specs.QueryExactly.{refused_3_so, refused_10_so, accepted_so}
use Rattle.plans.specs.Agreement.{cm_count}
use Rattle.plans.specs.Passed.{few-records}
use Rattle.map_records.specs.Mapping.{mapped}
use Rattle.map_records.specs.Sizes.{mapped-size}
use Rattle.plan_tables.specs.Tables.{trees}
use Rattle.plan_tables.specs.Sizes.{trees-size}
use Rattle.planning.specs.Planning.{Planned, Plans}
use Rattle.planning.specs.Ways.{Way}
use Rattle.plan_walks.specs.Walks.{Walk, walk_says}
use Rattle.plan_walks.specs.Query.{query_with, query_by, QueryIs}
use Rattle.plan_exactly.specs.Known.{known}
use Rattle.plan_exactly.specs.Numbers.{Drawn, by-verdict, walk_refused, walk-alone, walk-done, no-way_10}
use Rattle.plan_exactly.specs.Small.{SmallIn, mapped-small}
use Rattle.plan_exactly.specs.Trees.{IsTree, all-trees}
use Rattle.plan_exactly.specs.Query.{NoCm}

-- ---- with the trees of a plan, no other cm is lost

module _ (ts : List ℕ) (n : ℕ) (size : length ts ≡ n) (all : (j : ℕ) → j < length ts → IsTree (get_or ts j 0)) (r : Reference) where
  lost_so : (Lost ts r) ↔ ((r.kind ≡ kind.cm) × (n ≤ r.id))
  lost_so = (to, λ w. (w.0, inl (omega (arith, size, w.1))))
    where
      no-tree : (j : ℕ) → j < length ts → NoTree (get_or ts j 0) → ⊥
      no-tree j h (inl q) = omega (arith, q, (all j h).from)
      no-tree j h (inr q) = omega (arith, q, (all j h).to)

      to : Lost ts r → (r.kind ≡ kind.cm) × (n ≤ r.id)
      to (c, inl h) = (c, omega (arith, size, h))
      to (c, inr h) = absurd (no-tree r.id h.0 h.1)

module _ (b : List ℕ) (own : Bool) (s : List ℕ) (z : Planned) (h : Plans b own (reading s) (done z)) where
  lost-is : (r : Reference) → Lost (trees z.mapping) r ↔ NoCm b r
  lost-is r =
      let k = known b own (reading s) z h in
      let p = pool_of k.input in
      let small : SmallIn (mapped b p) = mapped-small b p in
      subst (λ (y : Planned). Lost (trees y.mapping) r ↔ NoCm b r) (sym k.is)
      (lost_so (trees (mapped b p)) (cm_count b) (trees-size b p k.agreeing)
      (all-trees (mapped b p) small.dims (omega (arith, small.even, mapped-size b p, few-records b k.fitting))) r)

  lost-back : (r : Reference) → NoCm b r ↔ Lost (trees z.mapping) r
  lost-back r = ((lost-is r).1, (lost-is r).0)

-- ── exactly when ─────────────────────────────────────────────────────────────
module _ (s b first i last : List ℕ) where
  abbrev own : Bool
  own = good_lists first i last

  pub by-plan :
      (w : Verdict) (C : (Reference → Type 0) → Type 0) → ((trees : List ℕ) → (query_verdict trees first i last ≡ w) ↔ C (Lost trees)) →
      ((A B : Reference → Type 0) → ((r : Reference) → A r ↔ B r) → C A → C B) →
      (z : Planned) → Plans b own (reading s) (done z) → (answer_no (query_by first i last z) ≡ verdict_no w) ↔ C (NoCm b)
  unfolding query_with
  by-plan w C is so z p =
      let e = is (trees z.mapping) in
      by-verdict (query_verdict (trees z.mapping) first i last) w _
      (λ h. so (Lost (trees z.mapping)) (NoCm b) (lost-is b own s z p) (e.0 h), λ c. e.1 (so (NoCm b) (Lost (trees z.mapping)) (lost-back b own s z p) c))

  module _ {first' i' last' : List ℕ} {r : Walk} (h : QueryIs s b first i last first' i' last' r) where
    -- 3: THE PLAN'S, or a cm that is not in the plan is the first fault of the lists
    pub query_3 : (answer_no (walk_says r) ≡ 3) ↔ (Way b own (reading s) 3 ⊎ Drawn s b own (λ _. Refused3 (NoCm b) first i last))
    query_3 =
        walk_refused h 3 (λ _. Refused3 (NoCm b) first i last)
        (by-plan not_there (λ A. Refused3 A first i last) (λ ts. walk.query_3 ts first i last) (λ A B e. refused_3_so A B e first i last)) (λ e. omega (arith, e))

    -- 10: a step that is unknown or has too few sources is the first fault of the lists
    pub query_10 : (answer_no (walk_says r) ≡ 10) ↔ Drawn s b own (λ _. Refused10 (NoCm b) first i last)
    query_10 =
        walk-alone h 10 (λ _. Refused10 (NoCm b) first i last)
        (by-plan no_rule (λ A. Refused10 A first i last) (λ ts. walk.query_10 ts first i last) (λ A B e. refused_10_so A B e first i last)) (λ e. omega (arith, e)) (no-way_10 b own s)

    -- 0: there is a plan, and the lists have no fault
    pub query_0 : (answer_no (walk_says r) ≡ 0) ↔ Drawn s b own (λ _. Accepted (NoCm b) first i last)
    query_0 =
        walk-done h 0 (λ _. Accepted (NoCm b) first i last)
        (by-plan fine (λ A. Accepted A first i last) (λ ts. walk.query_0 ts first i last) (λ A B e. accepted_so A B e first i last)) refl
