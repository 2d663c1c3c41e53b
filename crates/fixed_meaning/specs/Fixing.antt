-- FIXING: the references of a segment's lists rewritten for a plan (fix_prover_code).
-- p, dim and exp_id are decorations of a reference that running never looks at, so they are not here.
-- Assumes nothing: these are definitions.
use Rattle.std.specs.Prelude.{ℕ, suc, ◌&&◌, cond, List, [], ◌∷◌, eqb}
use Rattle.std.proofs.Math.Option.{Option, none, some}
use Rattle.meaning.specs.Trees.{RowKind}
use Rattle.meaning.specs.Steps.{Kind, Cell, Ref, Step, step}
use Rattle.meaning.specs.Building.{Segment}

-- what fixing asks of a plan: the cm number of an intermediate, and the temporary column that an expression has in this domain, none in "2ns"
pub record Plan : Type 0 where
  pub im : ℕ → Option ℕ
  pub column : ℕ → Option ℕ

-- the new temporaries of a segment, by expression and row
abbrev pub Map : Type 0
Map = ℕ → ℕ → Option ℕ

-- what fixing has given so far, and the counter
pub record Fixing : Type 0 where
  pub map : Map
  pub next : ℕ

-- new temporaries start at the segment's counter
abbrev pub begin : ℕ → Fixing
begin n = record { map = λ e r. none; next = n }

-- An exp that is an intermediate becomes its cm, else one with a temporary column that column, else its new temporary. The prime stays.
abbrev pub become : Option ℕ → Option ℕ → Option ℕ → ℕ → ℕ → Cell
become (some c) k t e r = Cell.cell (Kind.row RowKind.cm) c r
become none (some k) t e r = Cell.cell Kind.tmp_exp k r
become none none (some t) e r = Cell.cell Kind.tmp t r
become none none none e r = Cell.cell Kind.exp e r

-- the map with a temporary for expression e at row r
abbrev pub given : Map → ℕ → ℕ → ℕ → Map
given m e r t = λ e' r'. cond (eqb e e' && eqb r r') (some t) (m e' r')

-- expression e met at row r: one new temporary, unless it has one or needs none
abbrev pub grow : Option ℕ → Option ℕ → Option ℕ → ℕ → ℕ → Fixing → Fixing
grow (some c) k t e r s = s
grow none (some k) t e r s = s
grow none none (some t) e r s = s
grow none none none e r s = record { map = given s.map e r s.next; next = suc s.next }

-- a reference with its cell renamed
abbrev pub rename_ref : (Cell → Cell) → Ref → Ref
rename_ref f (Ref.var c) = Ref.var (f c)
rename_ref f (Ref.number l n) = Ref.number l n

pub record Fixed (A : Type 0) : Type 0 where
  pub out : A
  pub after : Fixing

module _ (L : Plan) where
  -- a cell under a map: only exp cells change
  abbrev pub fix_cell : Map → Cell → Cell
  fix_cell m (Cell.cell (Kind.row k) i r) = Cell.cell (Kind.row k) i r
  fix_cell m (Cell.cell (Kind.flat k) i r) = Cell.cell (Kind.flat k) i r
  fix_cell m (Cell.cell (Kind.x k) i r) = Cell.cell (Kind.x k) i r
  fix_cell m (Cell.cell Kind.exp e r) = become (L.im e) (L.column e) (m e r) e r
  fix_cell m (Cell.cell Kind.tmp i r) = Cell.cell Kind.tmp i r
  fix_cell m (Cell.cell Kind.f i r) = Cell.cell Kind.f i r
  fix_cell m (Cell.cell Kind.tmp_exp i r) = Cell.cell Kind.tmp_exp i r
  fix_cell m (Cell.cell (Kind.bare k) i r) = Cell.cell (Kind.bare k) i r

  -- a cell met
  abbrev pub meet_cell : Cell → Fixing → Fixing
  meet_cell (Cell.cell (Kind.row k) i r) s = s
  meet_cell (Cell.cell (Kind.flat k) i r) s = s
  meet_cell (Cell.cell (Kind.x k) i r) s = s
  meet_cell (Cell.cell Kind.exp e r) s = grow (L.im e) (L.column e) (s.map e r) e r s
  meet_cell (Cell.cell Kind.tmp i r) s = s
  meet_cell (Cell.cell Kind.f i r) s = s
  meet_cell (Cell.cell Kind.tmp_exp i r) s = s
  meet_cell (Cell.cell (Kind.bare k) i r) s = s

  abbrev pub meet : Ref → Fixing → Fixing
  meet (Ref.var c) s = meet_cell c s
  meet (Ref.number l n) s = s

  -- a reference: met, then rewritten
  abbrev pub fix_ref : Ref → Fixing → Fixed Ref
  fix_ref x s = let s' = meet x s in record { out = rename_ref (fix_cell s'.map) x; after = s' }

  abbrev pub fix_refs : List Ref → Fixing → Fixed (List Ref)
  fix_refs [] s = record { out = []; after = s }
  fix_refs (x ∷ xs) s =
      let y = fix_ref x s in
      let z = fix_refs xs y.after in
      record { out = y.out ∷ z.out; after = z.after }

  -- every source, from left to right, before the destination
  abbrev pub fix_step : Step → Fixing → Fixed Step
  fix_step x s =
      let y = fix_refs x.sources s in
      let z = fix_ref x.destination y.after in
      record { out = step x.op z.out y.out; after = z.after }

  abbrev pub fix_list : List Step → Fixing → Fixed (List Step)
  fix_list [] s = record { out = []; after = s }
  fix_list (x ∷ xs) s =
      let y = fix_step x s in
      let z = fix_list xs y.after in
      record { out = y.out ∷ z.out; after = z.after }

  -- what a segment's lists leave: first, i, last
  abbrev pub fix_end : Segment → Fixing
  fix_end S = (fix_list S.last (fix_list S.i (fix_list S.first (begin S.counter)).after).after).after

  -- THE SEGMENT FIXED, with one map for its three lists
  abbrev pub fix_segment : Segment → Segment
  fix_segment S =
      let x = fix_list S.first (begin S.counter) in
      let y = fix_list S.i x.after in
      let z = fix_list S.last y.after in
      record { first = x.out; i = y.out; last = z.out; counter = z.after.next }
