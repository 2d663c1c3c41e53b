-- From what planning gives to what a walk gives.
-- Assumes nothing.
use Prim.Native.Nat.{ℕ, ◌≤◌, ◌<◌}
use mathlib.Core.Path.{◌≡◌, refl, sym, ◌∙◌, ap, subst}
use mathlib.Core.Bool.{Bool, false}
use mathlib.Core.List.{List, ◌++◌}
use lib.ListN.{length, take, replicate}
use native.Mathlib.Omega.{arith}
use borrow.Author.Tests.{le-leb, lt-leb}
use Rattle.std.specs.Prelude.{Result, Ok, Err}
use Rattle.meaning.specs.Refusals.{Answer, done, ◌then◌}
use Rattle.pool.specs.Tabled.{tabled}
use Rattle.pool.specs.Ranking.{Tabling}
use Rattle.plans.specs.Columns.{record_limit}
use Rattle.sections.specs.Sections.{width_count}
use Rattle.sections.specs.Answer.{MappedIs}
use Rattle.kinds.specs.declared.refusal.Refusal as kinds
use Rattle.lent_lists.specs.Records.{good_lists}
use Rattle.fixing.specs.ProverCode.{last_counter}
use Rattle.map_records.specs.Mapping.{mapped}
use Rattle.planning.specs.Planning.{Planned, planned}
use Rattle.planning.specs.Answers.{Unplanned, Planning, unplanned_says, Stands, Told, FramesGiven}
use Rattle.planning.specs.Laws.Argued.{reason, unplanned-then}
use Rattle.planning.specs.Laws.Drawn.{unplanned, answered}
use Rattle.planning.specs.declared.answer.Plan.{Plan}
use Rattle.plan_walks.specs.Walks.{Walk, last_domain, good_segment, Walked, lists_after, Does, WalkIs}
use Rattle.plan_walks.specs.Standing.{Standing, planned_in, Tabled}
use Rattle.plan_walks.specs.Query.{Placed}
use Rattle.plan_walks.proofs.Fixes.{records-few}
use Rattle.plan_walks.proofs.Dims.{dims-room, dims_are}
use Rattle.plan_walks.proofs.Queries.{front-back, placed-positions}

-- ---- the segment

module _ (domain counter : ℕ) (first i last : List ℕ) where
  pub no_domain : last_domain < domain → false ≡ good_segment domain counter first i last
  unfolding good_segment
  no_domain h = sym (rw (lt-leb domain last_domain h))

  pub no-counter : domain ≤ last_domain → last_counter < counter → false ≡ good_segment domain counter first i last
  unfolding good_segment
  no-counter h k = sym (rw (le-leb domain last_domain h, lt-leb counter last_counter k))

  pub by-lists : domain ≤ last_domain → counter ≤ last_counter → {r : Bool} → r ≡ good_lists first i last → r ≡ good_segment domain counter first i last
  unfolding good_segment
  by-lists h k e = e ∙ sym (rw (le-leb domain last_domain h, le-leb counter last_counter k))

-- ---- no plan

stays : (u : Unplanned) (ls : List (List ℕ)) → ls ≡ lists_after ls (unplanned_says u)
stays u ls = let r = reason u in sym (ap (lists_after ls) (r.says Walked))

module _ {s b : List ℕ} {own : Bool} {w x ss ds cs : List ℕ} {r : Planning} (g : FramesGiven s b own w x ss ds cs r) where
  abbrev Tells : Planning → Type 0
  Tells y = Told b (Tabling w g.literals x g.node_count g.expression_count) ss ds cs g.answer y

  pub unplanned-walk : {u : Unplanned} (what : Planned → Answer Walked) (ls : List (List ℕ)) → r ≡ Err u → WalkIs s b own what ls ls (Err u)
  unplanned-walk {u} what ls q =
      let a : (g.answer then what) ≡ unplanned_says u = ap (λ (z : Answer Planned). z then what) (unplanned g q) ∙ unplanned-then u what in
      record {
        answer = g.answer then what;
        goes = (g.answer, g.plans, refl);
        does = record {
          says = sym (ap (λ (z : Answer Walked). z then λ y. done y.counter) a ∙ unplanned-then u (λ (y : Walked). done y.counter));
          lists = stays u ls ∙ ap (lists_after ls) (sym a);
        };
      }

  -- ---- a plan

  module _ {k : Plan} (q : r ≡ Ok k) where
    told : Tells (Ok k)
    told = subst Tells q g.told

    counted : g.expression_count ≡ k.expressions
    counted = told.1.expressions

    abbrev StandsAt : ℕ → Type 0
    StandsAt m = Stands b (Tabling w g.literals x g.node_count m) ss ds cs k

    pub standing : Standing b w x cs
    standing = record {
      literals = g.literals;
      node_count = g.node_count;
      sections = ss;
      dims = ds;
      plan = k;
      stands = subst StandsAt counted told.1;
    }

    pub in_tables : Tabled standing ss k.records
    unfolding standing
    in_tables = record { sections_is = refl; records_is = refl }

    pub dims_in : take k.records ds ≡ (planned_in standing).mapping.dims
    unfolding standing
    dims_in = dims_are standing

    pub dims-fit : k.records ≤ length ds
    unfolding standing
    dims-fit = dims-room standing

    pub sections_in : take k.records ss ≡ (planned_in standing).mapping.sections
    unfolding standing
    sections_in = standing.stands.holds.sections

    pub sections-fit : k.records ≤ length ss
    unfolding standing
    sections-fit = omega (arith, standing.stands.holds.sections_size, records-few standing)

    pub records-fit : k.records ≤ record_limit
    unfolding standing
    records-fit = records-few standing

    -- the positions of the records, where map_section leaves them at the front of a table
    pub placed_in :
        (rest : List ℕ) {ps ps' ws ws' : List ℕ} {y : Result (Unit {0}) kinds.Refusal} → ps ≡ replicate k.records 0 → length ws ≡ width_count
        → MappedIs (take k.records ss) (take k.records ds) ps ps' ws ws' y → length ps' ≡ length ps → Placed standing ss ds (ps' ++ rest) k.records
    unfolding standing
    placed_in rest {ps' = ps'} h q m f = record {
      tabled = record { sections_is = refl; records_is = refl };
      dims_is = refl;
      positions_are = front-back k.records ps' rest h f ∙ placed-positions standing refl sections_in dims_in h q m;
    }

    answers : g.answer ≡ done (planned_in standing)
    unfolding standing
    answers = answered g q ∙ ap (λ m. done (planned (tabled (Tabling w g.literals x g.node_count m)) (mapped b (tabled (Tabling w g.literals x g.node_count m))))) counted

    pub planned-walk :
        (what : Planned → Answer Walked) {ls ls' : List (List ℕ)} {y : Walk}
        → Does (what (planned_in standing)) ls ls' y → WalkIs s b own what ls ls' y
    planned-walk what d = record {
      answer = what (planned_in standing);
      goes = (g.answer, g.plans, sym (ap (λ (z : Answer Planned). z then what) answers));
      does = d;
    }

-- the flag that planning was given
pub own_is :
    {s b : List ℕ} {own good : Bool} {what : Planned → Answer Walked} {ls ls' : List (List ℕ)} {y : Walk} → own ≡ good → WalkIs s b own what ls ls' y
    → WalkIs s b good what ls ls' y
own_is {s} {b} {own} {good} {what} {ls} {ls'} {y} e h = subst (λ r. WalkIs s b r what ls ls' y) e h
