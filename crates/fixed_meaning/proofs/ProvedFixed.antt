-- DEMAND 3, after fixing: proved, over every algebra and so over the integers and modulo every number from 2 up.
-- Assumes nothing.
use Rattle.std.specs.Prelude.{ℕ, suc, ◌≤◌, ◌≡◌, refl, List, [], ◌∷◌, length, ◌⊎◌}
use Rattle.std.proofs.Common.{sym, ◌∙◌, ap, subst, inl, inr}
use Rattle.std.proofs.Math.Option.{none, some, none-ne-some}
use Rattle.meaning.specs.Refusals.{done}
use Rattle.meaning.specs.Trees.{Forest, Each}
use Rattle.meaning.specs.Steps.{Kind, Cell, place, Step, exp_cell}
use Rattle.meaning.specs.Values.{Algebra, Given}
use Rattle.meaning.specs.Running.{empty}
use Rattle.meaning.specs.Generation.{State, start, Request, serve_all}
use Rattle.meaning.specs.Building.{Segment, segment, every}
use Rattle.meaning.specs.Models.{integers, modulo}
use Rattle.meaning.specs.Demand3.{Throughout, NoResult, HeldFor, ValueFor, Computes}
use Rattle.meaning.proofs.Proved.{demand3, demand3-fed}
use Rattle.meaning.proofs.Laws.Tests.{each_map}
use Rattle.fixed_meaning.specs.Fixing.{Plan, Map, fix_cell, fix_end, fix_segment}
use Rattle.fixed_meaning.specs.Demand3Fixed.{ColumnsDiffer, NoIntermediateRead, Unset, NoEarlyReadOf, NotExp, cell_for, HeldFixed, ValueFixed, CellGiven, ComputesFixed, Demand3Fixed, Demand3FixedFed}
use Rattle.fixed_meaning.specs.Renaming.{rename, run_renamed, run-destination}
use Rattle.fixed_meaning.proofs.FixingLaws.{Settled, segment_renamed, segment-settled}
use Rattle.fixed_meaning.proofs.OneToOne.{Occurs, segment_renaming}
use Rattle.fixed_meaning.proofs.Listed.{listed}
use Rattle.fixed_meaning.proofs.Early.{nothing-early, unset_back}

not-exp-placed : (c : Cell) → NotExp c → NotExp (place c)
not-exp-placed (Cell.cell (Kind.row k) i r) h = h
not-exp-placed (Cell.cell (Kind.flat k) i r) h = h
not-exp-placed (Cell.cell (Kind.x k) i r) h = h
not-exp-placed (Cell.cell Kind.exp i r) h = h
not-exp-placed (Cell.cell Kind.tmp i r) h = h
not-exp-placed (Cell.cell Kind.f i r) h = h
not-exp-placed (Cell.cell Kind.tmp_exp i r) h = h
not-exp-placed (Cell.cell (Kind.bare k) i r) h = h

settled-placed : (L : Plan) (M : Map) (c : Cell) → Settled L M c → Settled L M (place c)
settled-placed L M (Cell.cell (Kind.row k) i r) h = h
settled-placed L M (Cell.cell (Kind.flat k) i r) h = h
settled-placed L M (Cell.cell (Kind.x k) i r) h = h
settled-placed L M (Cell.cell Kind.exp i r) h = h
settled-placed L M (Cell.cell Kind.tmp i r) h = h
settled-placed L M (Cell.cell Kind.f i r) h = h
settled-placed L M (Cell.cell Kind.tmp_exp i r) h = h
settled-placed L M (Cell.cell (Kind.bare k) i r) h = h

-- the fixed first list is the first list renamed
first_renamed : (L : Plan) (S : Segment) → (fix_segment L S).first ≡ rename (fix_cell L (fix_end L S).map) S.first
first_renamed L S = ap (λ (z : Segment). z.first) (segment_renamed L S)

renamed_length : (f : Cell → Cell) (xs : List Step) → length (rename f xs) ≡ length xs
renamed_length f [] = refl
renamed_length f (x ∷ xs) = ap suc (renamed_length f xs)

-- as many steps as before
pub fixed-steps : (L : Plan) (S : Segment) → length (fix_segment L S).first ≡ length S.first
fixed-steps L S = ap length (first_renamed L S) ∙ renamed_length (fix_cell L (fix_end L S).map) S.first

right : {A P : Type 0} (v : A) → (none ≡ some v) ⊎ P → P
right v (inl q) = absurd (none-ne-some v q)
right v (inr q) = q

-- a first list, with whichever other two
abbrev pub with_lists : State → List Step → List Step → Segment
with_lists st i last = record { first = every st.blocks; i = i; last = last; counter = st.counter }

-- WHAT A GENERATED LIST COMPUTES, IT COMPUTES FIXED, whichever the other two lists of its segment are
pub fixed-computes :
    (𝓐 : Algebra) (rows : ℕ) (G : Given 𝓐.A) (E : Forest) (L : Plan) → ColumnsDiffer L → Throughout (NoIntermediateRead L) E →
    (qs : List Request) → Each NoResult qs → (st : State) → serve_all rows E qs start ≡ done st →
    Computes 𝓐 G E (segment E st).first qs → (i last : List Step) → ComputesFixed 𝓐 G E L (with_lists st i last) qs
fixed-computes 𝓐 rows G E L differ alone qs plain st h u i last =
    let S = with_lists st i last in
    let M = (fix_end L S).map in
    let f = fix_cell L M in
    let P = Occurs L st.counter in
    let xs = every st.blocks in
    let cells = listed L rows E alone qs plain st h in
    let R = segment_renaming L differ S G in
    let w = run_renamed 𝓐 G P f R {s = empty} {s' = empty} (record { holds = λ c o. refl }) xs cells u.runs in
    let written = run-destination 𝓐 G (Settled L M) (settled-placed L M) xs empty u.end (segment-settled L S).0 u.runs in
    let moved : (q : Request) → w.0 (cell_for L S q) ≡ u.end (exp_cell q.expression q.row) = λ q. w.2.holds (exp_cell q.expression q.row) tt in
    record {
      end = w.0;
      runs = rw (first_renamed L S) w.1;
      no_early_read =
          subst (NoEarlyReadOf (Unset L) []) (sym (first_renamed L S))
          (nothing-early P (Unset L) f R.together (unset_back L st.counter M) xs cells u.no_early_read);
      cells_given =
          each_map (HeldFor 𝓐 G E u.end) (CellGiven L S)
          (λ q k. not-exp-placed (f (exp_cell q.expression q.row)) (right k.0 (written (exp_cell q.expression q.row) k.0 k.1))) qs u.held;
      held = each_map (HeldFor 𝓐 G E u.end) (HeldFixed 𝓐 G E L S w.0) (λ q k. (k.0, moved q ∙ k.1, k.2)) qs u.held;
      values = each_map (ValueFor 𝓐 G E u.end) (ValueFixed 𝓐 G E L S w.0) (λ q k. moved q ∙ k) qs u.values;
    }

-- DEMAND 3 AFTER FIXING
pub demand3-fixed : (𝓐 : Algebra) → Demand3Fixed 𝓐
demand3-fixed 𝓐 rows G E acyclic plain given L differ alone qs n st h =
    fixed-computes 𝓐 rows G E L differ alone qs n st h (demand3 𝓐 rows G E acyclic plain given qs n st h) (segment E st).i (segment E st).last

pub demand3-fixed-fed : (𝓐 : Algebra) → Demand3FixedFed 𝓐
demand3-fixed-fed 𝓐 rows G E acyclic fed L differ alone qs n st h =
    fixed-computes 𝓐 rows G E L differ alone qs n st h (demand3-fed 𝓐 rows G E acyclic fed qs n st h) (segment E st).i (segment E st).last

pub demand3-fixed-integers : Demand3Fixed integers
demand3-fixed-integers = demand3-fixed integers

pub demand3-fixed-modulo : (n : ℕ) → 2 ≤ n → Demand3Fixed (modulo n)
demand3-fixed-modulo n h = demand3-fixed (modulo n)
