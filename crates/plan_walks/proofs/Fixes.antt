-- Fixing by a plan that stands in tables.
-- Assumes nothing.
use Prim.Native.Nat.{ℕ, ◌-◌, ◌*◌, ◌≤◌}
use Rattle.std.specs.Prelude.{Result}
use mathlib.Core.Path.{◌≡◌, refl, sym, ◌∙◌, ap, subst}
use mathlib.Core.Bool.{Bool, true, false}
use mathlib.Core.List.{List, [], ◌∷◌}
use native.Mathlib.Omega.{arith}
use lib.ListN.{length, take, drop, replicate}
use lib.Seq.{length-take-le}
use Rattle.meaning.specs.Refusals.{done, ◌then◌}
use Rattle.frames.specs.Order.{expression_limit}
use Rattle.pool.specs.Entries.{entries_in}
use Rattle.pool.specs.Tabled.{tabled}
use Rattle.plans.specs.Plan.{q2exp_at, q_deg}
use Rattle.plans.specs.Columns.{record_limit}
use Rattle.plans.specs.Passed.{names-there, names-below}
use Rattle.planning.specs.Laws.QTable.{q-table}
use Rattle.map_records.specs.Mapping.{cm1_n, cm4_n, twin, mapped}
use Rattle.map_records.specs.Sizes.{quotients-columns}
use Rattle.plan_tables.specs.Tables.{numbers_in}
use Rattle.plan_tables.specs.Sectioned.{numbers-few}
use Rattle.plan_tables.specs.Sizes.{held-few}
use Rattle.plan_tables.specs.Listed.{Listed, listed_front, listed-size}
use Rattle.plan_tables.specs.Gathered.{Fitting, columns_of}
use Rattle.plan_tables.specs.Rules as rules
use Rattle.lent_lists.specs.Verdicts.{Verdict, fine, malformed, not_there, no_rule, full}
use Rattle.fixing.specs.ProverCode.{temporaries, prover_verdict, list_after}
use Rattle.fixing.specs.Answers.{ProverCodeIs, fixed_of, fixed_says}
use Rattle.kinds.specs.declared.refusal.Refusal as kinds
use Rattle.plan_walks.specs.Walks.{Walk, walked, ruled, walk_says, lists_after, Does}
use Rattle.plan_walks.specs.Standing.{Standing, tables, planned_in, Tabled}
use Rattle.plan_walks.specs.Cms.{cms_of, CmsAsked, CmsGiven}
use Rattle.plan_walks.specs.Fix.{rules_in, fix_with, fix_by}

-- ---- tables of a plan

cms-few : (in_n : Bool) (ss : List ℕ) → length (cms_of in_n ss) ≤ length ss
cms-few true ss = numbers-few _ _ 0 ss
cms-few false ss = numbers-few _ _ 0 ss

pub cms_in_n : (in_n : Bool) (ss : List ℕ) {cms cms' : List ℕ} {r : ℕ} → in_n ≡ true → Listed cms cms' r (numbers_in cm1_n cm4_n 0 ss) → Listed cms cms' r (cms_of in_n ss)
cms_in_n in_n ss {cms} {cms'} {r} e h = subst (λ b. Listed cms cms' r (cms_of b ss)) (sym e) h

pub cms_in_2ns : (in_n : Bool) (ss : List ℕ) {cms cms' : List ℕ} {r : ℕ} → in_n ≡ false → Listed cms cms' r (numbers_in (twin cm1_n) (twin cm4_n) 0 ss) → Listed cms cms' r (cms_of in_n ss)
cms_in_2ns in_n ss {cms} {cms'} {r} e h = subst (λ b. Listed cms cms' r (cms_of b ss)) (sym e) h

module _ {b w x cs : List ℕ} (z : Standing b w x cs) where
  pub fitting : Fitting b
  fitting = (
    z.stands.ready.planned.whole,
    z.stands.ready.planned.fits,
    names-below b z.stands.ready.starts.few_expressions (names-there b z.plan.expressions z.stands.ready.names),
  )

  columns_are : (mapped b (tabled (tables z))).columns ≡ columns_of b
  unfolding mapped
  columns_are = quotients-columns b (tabled (tables z)) (q_deg b)

  columns-few : length (columns_of b) ≤ record_limit
  columns-few = omega (arith, z.stands.ready.planned.fits)

  pub records-few : z.plan.records ≤ record_limit
  records-few = held-few b (tabled (tables z)) z.stands.ready.planned z.stands.holds

  module _ {before columns : List ℕ} {n : ℕ} (g : Listed before columns n (columns_of b)) (room : length before ≡ record_limit) {q : ℕ} (e : q ≡ q2exp_at b) where
    pub rules-asks : {rs : List ℕ} → rs ≡ replicate expression_limit 0 → rules.RulesAsks b (tables z) z.stands.rank (entries_in (take (length b - 2 * q) (drop (2 * q) b))) columns n rs
    rules-asks h = record {
      ready = z.stands.ready;
      tabling = q-table b z.stands.ready.planned.whole e;
      counted = g.count;
      listed = listed_front g (omega (arith, columns-few, room));
      cleared = h;
    }

    pub rules-given :
        (in_n : Bool) {rs rs' : List ℕ} → rs ≡ replicate expression_limit 0
        → rules.RulesGiven w x (entries_in (take (length b - 2 * q) (drop (2 * q) b))) b cs columns n rs in_n rs' → rs' ≡ rules_in in_n b (planned_in z)
    rules-given in_n h f =
        f z.literals z.node_count z.plan.expressions z.stands.rank (rules-asks h)
        ∙ rw (h, z.stands.holds.cm_dims, sym columns_are)

  module _ {ss : List ℕ} {n : ℕ} (a : Tabled z ss n) where
    pub cms-asked : CmsAsked ss n
    cms-asked = record {
      size = ap length (sym a.sections_is) ∙ z.stands.holds.sections_size;
      few = subst (λ k. k ≤ record_limit) a.records_is records-few;
    }

    pub sections_are : take n ss ≡ (mapped b (tabled (tables z))).sections
    sections_are = subst (λ (l : List ℕ). take n l ≡ (mapped b (tabled (tables z))).sections) a.sections_is (subst (λ k. take k z.sections ≡ (mapped b (tabled (tables z))).sections) a.records_is z.stands.holds.sections)

    module _ (in_n : Bool) {cms cms' : List ℕ} {r : ℕ} (room : length cms ≡ record_limit) (g : CmsGiven in_n ss n cms cms' r) where
      few-numbers : length (cms_of in_n (take n ss)) ≤ record_limit
      few-numbers =
          let h = cms-few in_n (take n ss) in
          let k : length (take n ss) ≡ n = length-take-le n ss (omega (arith, cms-asked.size, cms-asked.few)) in
          omega (arith, cms-asked.few)

      pub cms-room : r ≤ length cms'
      cms-room = let s = listed-size g in omega (arith, g.count, few-numbers, room)

      pub cms_are : take r cms' ≡ cms_of in_n (mapped b (tabled (tables z))).sections
      cms_are = listed_front g (omega (arith, few-numbers, room)) ∙ ap (cms_of in_n) sections_are

-- ---- what fixing answers

module _ {rs cms first i last first' i' last' : List ℕ} {counter : ℕ} {r : Result ℕ kinds.Refusal} (g : ProverCodeIs rs cms counter first i last first' i' last' r) where
  abbrev ls : List (List ℕ)
  ls = first ∷ i ∷ last ∷ []

  abbrev ls' : List (List ℕ)
  ls' = first' ∷ i' ∷ last' ∷ []

  abbrev next : ℕ
  next = (temporaries rs counter first i last).next

  abbrev after : List ℕ → List ℕ
  after l = list_after rs cms counter first i last l

  abbrev afters : List (List ℕ)
  afters = after first ∷ after i ∷ after last ∷ []

  says : (v : Verdict) → fixed_says (fixed_of v next) ≡ (ruled v (walked next afters) then λ y. done y.counter)
  says fine = refl
  says malformed = refl
  says not_there = refl
  says no_rule = refl
  says full = refl

  stays : (v : Verdict) → prover_verdict rs cms counter first i last ≡ v → afters ≡ lists_after ls (ruled v (walked next afters))
  unfolding list_after
  stays fine e = refl
  stays malformed e = rw e
  stays not_there e = rw e
  stays no_rule e = rw e
  stays full e = rw e

  pub fixed-does : {y : Walk} → walk_says y ≡ fixed_says r → Does (fix_with counter first i last rs cms) ls ls' y
  unfolding fix_with
  fixed-does q = record {
    says = q ∙ ap fixed_says g.answer ∙ says (prover_verdict rs cms counter first i last);
    lists = rw (g.first_is, g.i_is, g.last_is) (stays (prover_verdict rs cms counter first i last) refl);
  }

module _ {b w x cs : List ℕ} (z : Standing b w x cs) (in_n : Bool) where
  pub fixed-planned :
      {rs cms first i last first' i' last' : List ℕ} {counter : ℕ} {r : Result ℕ kinds.Refusal} {y : Walk} → rs ≡ rules_in in_n b (planned_in z)
      → cms ≡ cms_of in_n (mapped b (tabled (tables z))).sections → ProverCodeIs rs cms counter first i last first' i' last' r → walk_says y ≡ fixed_says r
      → Does (fix_by counter first i last in_n b (planned_in z)) (first ∷ i ∷ last ∷ []) (first' ∷ i' ∷ last' ∷ []) y
  fixed-planned {cms = cms} {first = first} {i = i} {last = last} {first' = first'} {i' = i'} {last' = last'} {counter = counter} {y = y} e f g q =
      subst (λ (c : List ℕ). Does (fix_with counter first i last (rules_in in_n b (planned_in z)) c) (first ∷ i ∷ last ∷ []) (first' ∷ i' ∷ last' ∷ []) y) f
      (subst (λ (c : List ℕ). Does (fix_with counter first i last c cms) (first ∷ i ∷ last ∷ []) (first' ∷ i' ∷ last' ∷ []) y) e (fixed-does g q))
