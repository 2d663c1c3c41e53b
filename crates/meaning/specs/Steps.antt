-- What is emitted: cells, references, steps. p, dim, tree_pos and exp_id are decorations of a reference that running never looks at.
-- Assumes nothing: these are definitions.
use Rattle.std.specs.Prelude.{ℕ, Bool, ◌&&◌, List, eqb}
use Rattle.meaning.specs.Trees.{Lit, RowKind, FlatKind, XKind}

-- the kinds that steps neither read nor write where a list is run
pub data BareKind : Type 0 where
  Zi tree1 tree2 tree3 tree4 Z : BareKind

-- the kinds of a reference but number
pub data Kind : Type 0 where
  row : RowKind → Kind
  flat : FlatKind → Kind
  x : XKind → Kind
  exp tmp f tmp_exp : Kind
  bare : BareKind → Kind

-- document 01's kind bytes
abbrev pub kind_no : Kind → ℕ
kind_no (row RowKind.cm) = 0x10
kind_no (row RowKind.const) = 0x11
kind_no exp = 0x12
kind_no (row RowKind.q) = 0x13
kind_no (flat FlatKind.public) = 0x15
kind_no (flat FlatKind.challenge) = 0x16
kind_no (flat FlatKind.eval) = 0x17
kind_no (x XKind.x_div_x_sub_xi) = 0x18
kind_no (x XKind.x_div_x_sub_w_xi) = 0x19
kind_no (x XKind.plain_x) = 0x1a
kind_no tmp = 0x20
kind_no f = 0x21
kind_no tmp_exp = 0x22
kind_no (bare Zi) = 0x23
kind_no (bare tree1) = 0x24
kind_no (bare tree2) = 0x25
kind_no (bare tree3) = 0x26
kind_no (bare tree4) = 0x27
kind_no (bare Z) = 0x28

-- a cell: kind, id, and the row that its prime stands for
pub data Cell : Type 0 where
  cell : Kind → ℕ → ℕ → Cell

-- are two cells the same?
abbrev pub same : Cell → Cell → Bool
same (cell k i r) (cell k' i' r') = eqb (kind_no k) (kind_no k') && (eqb i i' && eqb r r')

-- A temporary is its number: the prime that fixing leaves on its reference does not count.
abbrev pub place : Cell → Cell
place (cell (row k) i r) = cell (row k) i r
place (cell (flat k) i r) = cell (flat k) i r
place (cell (x k) i r) = cell (x k) i r
place (cell exp i r) = cell exp i r
place (cell tmp i r) = cell tmp i 0
place (cell f i r) = cell f i r
place (cell tmp_exp i r) = cell tmp_exp i r
place (cell (bare k) i r) = cell (bare k) i r

-- a cell, or a literal with the node that brought it
pub data Ref : Type 0 where
  var : Cell → Ref
  number : Lit → ℕ → Ref

pub data StepOp : Type 0 where
  add sub mul muladd copy : StepOp

-- document 01's step bytes
abbrev pub step_no : StepOp → ℕ
step_no add = 0x01
step_no sub = 0x02
step_no mul = 0x03
step_no muladd = 0x04
step_no copy = 0x08

pub record Step : Type 0 where
  pub op : StepOp
  pub destination : Ref
  pub sources : List Ref

abbrev pub step : StepOp → Ref → List Ref → Step
step o d rs = record { op = o; destination = d; sources = rs }

abbrev pub tmp_ref : ℕ → Ref
tmp_ref t = var (cell tmp t 0)

abbrev pub exp_cell : ℕ → ℕ → Cell
exp_cell e r = cell exp e r
