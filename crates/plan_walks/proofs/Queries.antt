-- The query code's walk by a plan that stands in tables.
-- Assumes nothing.
use Prim.Native.Nat.{ℕ, zero, suc, ◌+◌, ◌≤◌}
use Rattle.std.specs.Prelude.{Result}
use mathlib.Core.Path.{◌≡◌, refl, sym, ◌∙◌, ap, subst}
use mathlib.Core.Bool.{true}
use mathlib.Core.List.{List, [], ◌∷◌, ◌++◌}
use native.Mathlib.Omega.{arith}
use native.Mathlib.Nat.{not-suc-le-zero, le_of_suc-le-suc}
use lib.ListN.{length, take, replicate, length-replicate}
use lib.Seq.{take_all, take_at, length-take-le}
use borrow.Author.Tests.{eq-eqb, le-leb}
use Rattle.meaning.specs.Refusals.{Answer, done, ◌then◌}
use Rattle.pool.specs.Tabled.{tabled}
use Rattle.plans.specs.Columns.{record_limit}
use Rattle.map_records.specs.Mapping.{cm1_n, cm4_n, twin}
use Rattle.sections.specs.Sections.{known, well_formed, mapping, positions_from, widths, width_count}
use Rattle.sections.specs.Answer.{MappedIs, positions_after}
use Rattle.plan_tables.specs.Tables.{numbers_in, positions, trees, trees_in}
use Rattle.plan_tables.specs.Sectioned.{numbers-few}
use Rattle.plan_tables.specs.Sizes.{trees-of-size}
use Rattle.plan_tables.specs.Listed.{Listed, listed_front, listed-size}
use Rattle.planning.specs.Laws.Known.{mapped-known}
use Rattle.lent_lists.specs.Verdicts.{Verdict, fine, malformed, not_there, no_rule, full}
use Rattle.query_fixing.specs.QueryCode.{query_verdict, queried_after}
use Rattle.query_fixing.specs.QueryAnswers.{QueryCodeIs, Says, queried_says}
use Rattle.kinds.specs.declared.refusal.Refusal as kinds
use Rattle.plan_walks.specs.Walks.{Walk, walked, ruled, walk_says, lists_after, Does}
use Rattle.plan_walks.specs.Standing.{Standing, tables, planned_in}
use Rattle.plan_walks.specs.Query.{query_with, query_by, Placed}
use Rattle.plan_walks.proofs.Fixes.{records-few, sections_are}

-- ---- positions

pub zeros-front : (n m : ℕ) → n ≤ m → take {A = ℕ} n (replicate m 0) ≡ replicate n 0
zeros-front zero m h = refl
zeros-front (suc n) zero h = absurd (not-suc-le-zero h)
zeros-front (suc n) (suc m) h = ap (λ (l : List ℕ). 0 ∷ l) (zeros-front n m (le_of_suc-le-suc h))

-- what was lent of a table stands at its front again
pub front-back : (n : ℕ) {ps : List ℕ} (ps' rest : List ℕ) → ps ≡ replicate n 0 → length ps' ≡ length ps → take n (ps' ++ rest) ≡ ps'
front-back n ps' rest e h = take_at ps' rest n (h ∙ ap length e ∙ length-replicate n 0)

few-known : (ss : List ℕ) → length ss ≤ record_limit → known ss ≡ true → known (take (record_limit + 1) ss) ≡ true
few-known ss h k = ap known (take_all (record_limit + 1) ss (omega (arith, h))) ∙ k

module _ {b w x cs : List ℕ} (z : Standing b w x cs) where
  abbrev ss : List ℕ
  ss = (planned_in z).mapping.sections

  abbrev ds : List ℕ
  ds = (planned_in z).mapping.dims

  size : length ss ≡ z.plan.records
  size = z.stands.holds.count

  -- map_section is done
  mapping-done :
      (ps : List ℕ) (room : ℕ) → length ps ≡ z.plan.records → room ≡ width_count
      → mapping ss ds ps room ≡ done (record { positions = positions_from ss ds ps; widths = widths ss ds })
  unfolding mapping well_formed
  mapping-done ps room h e =
      rw (
        eq-eqb (length ds) (length ss) (z.stands.holds.counted ∙ sym size),
        eq-eqb (length ps) (length ss) (h ∙ sym size),
        eq-eqb room width_count e,
        few-known ss (omega (arith, size, records-few z)) (mapped-known b (tabled (tables z))),
        le-leb (length ss) record_limit (omega (arith, size, records-few z)),
      )

  pub placed-positions :
      {n : ℕ} {ss₀ ds₀ ps ps' ws ws' : List ℕ} {r : Result (Unit {0}) kinds.Refusal} → n ≡ z.plan.records → ss₀ ≡ ss → ds₀ ≡ ds → ps ≡ replicate n 0 → length ws ≡ width_count
      → MappedIs ss₀ ds₀ ps ps' ws ws' r → ps' ≡ positions (planned_in z).mapping
  placed-positions {n} {ps = ps} {ws = ws} k e f h q g =
      g.positions
      ∙ rw (e, f) (ap (positions_after ps) (mapping-done ps (length ws) (ap length h ∙ length-replicate n 0 ∙ k) q))
      ∙ ap (positions_from ss ds) (h ∙ ap (λ m. replicate m 0) (k ∙ sym size))

-- ---- trees

module _ {b w x cs : List ℕ} (z : Standing b w x cs) {ss ds ps : List ℕ} {n : ℕ} (a : Placed z ss ds ps n) where
  pub trees-asked : (length ss ≡ record_limit) × (n ≤ record_limit)
  trees-asked = (ap length (sym a.tabled.sections_is) ∙ z.stands.holds.sections_size, subst (λ k. k ≤ record_limit) a.tabled.records_is (records-few z))

  dims_are : take n ds ≡ (planned_in z).mapping.dims
  dims_are = subst (λ (l : List ℕ). take n l ≡ (planned_in z).mapping.dims) a.dims_is (subst (λ k. take k z.dims ≡ (planned_in z).mapping.dims) a.tabled.records_is z.stands.holds.dims)

  in_tables : trees_in (take n ss) (take n ds) (take n ps) ≡ trees (planned_in z).mapping
  in_tables = rw (sections_are z a.tabled, dims_are, a.positions_are)

  module _ {before after : List ℕ} {r : ℕ} (room : length before ≡ record_limit) (g : Listed before after r (trees_in (take n ss) (take n ds) (take n ps))) where
    few-trees : length (trees_in (take n ss) (take n ds) (take n ps)) ≤ record_limit
    few-trees =
        let h = trees-of-size (take n ss) (take n ds) (take n ps) (numbers_in (twin cm1_n) (twin cm4_n) 0 (take n ss)) in
        let k = numbers-few (twin cm1_n) (twin cm4_n) 0 (take n ss) in
        let l : length (take n ss) ≡ n = length-take-le n ss (omega (arith, trees-asked.0, trees-asked.1)) in
        omega (arith, trees-asked.1)

    pub trees-room : r ≤ length after
    trees-room = let s = listed-size g in omega (arith, g.count, few-trees, room)

    pub trees_are : take r after ≡ trees (planned_in z).mapping
    trees_are = listed_front g (omega (arith, few-trees, room)) ∙ in_tables

-- ---- what the walk answers

module _ {ts first i last first' i' last' : List ℕ} {r : Result (Unit {0}) kinds.Refusal} (g : QueryCodeIs ts first i last first' i' last' r) where
  abbrev ls : List (List ℕ)
  ls = first ∷ i ∷ last ∷ []

  abbrev after : List ℕ → List ℕ
  after l = queried_after ts first i last l

  abbrev afters : List (List ℕ)
  afters = after first ∷ after i ∷ after last ∷ []

  says : (v : Verdict) → Says v r → (queried_says r then λ _. done 0) ≡ (ruled v (walked 0 afters) then λ y. done y.counter)
  says fine e = rw e
  says malformed e = rw e
  says not_there e = rw e
  says no_rule e = rw e
  says full e = absurd e

  stays : (v : Verdict) → query_verdict ts first i last ≡ v → afters ≡ lists_after ls (ruled v (walked 0 afters))
  unfolding queried_after
  stays fine e = refl
  stays malformed e = rw e
  stays not_there e = rw e
  stays no_rule e = rw e
  stays full e = rw e

  queried-does : {y : Walk} → walk_says y ≡ (queried_says r then λ _. done 0) → Does (query_with first i last ts) ls (first' ∷ i' ∷ last' ∷ []) y
  unfolding query_with
  queried-does q = record {
    says = q ∙ says (query_verdict ts first i last) g.answer;
    lists = rw (g.first_is, g.i_is, g.last_is) (stays (query_verdict ts first i last) refl);
  }

pub told_as : {r d : Result (Unit {0}) kinds.Refusal} {y : Answer ℕ} → r ≡ d → y ≡ (queried_says d then λ _. done 0) → y ≡ (queried_says r then λ _. done 0)
told_as e h = h ∙ ap (λ (v : Result (Unit {0}) kinds.Refusal). queried_says v then λ _. done 0) (sym e)

pub queried-planned :
    {b w x cs : List ℕ} (z : Standing b w x cs) {ts first i last first' i' last' : List ℕ} {r : Result (Unit {0}) kinds.Refusal} {y : Walk} → ts ≡ trees (planned_in z).mapping
    → QueryCodeIs ts first i last first' i' last' r → walk_says y ≡ (queried_says r then λ _. done 0)
    → Does (query_by first i last (planned_in z)) (first ∷ i ∷ last ∷ []) (first' ∷ i' ∷ last' ∷ []) y
queried-planned z {first = first} {i = i} {last = last} {first' = first'} {i' = i'} {last' = last'} {y = y} e g q =
    subst (λ (c : List ℕ). Does (query_with first i last c) (first ∷ i ∷ last ∷ []) (first' ∷ i' ∷ last' ∷ []) y) e (queried-does g q)
