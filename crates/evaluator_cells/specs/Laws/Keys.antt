-- Laws of cells as numbers: no two cells have one key, and what meaning says of a kind is what its byte says.
-- Assumes nothing.
use Rattle.std.specs.Prelude.{ℕ, ◌<◌, ◌≡◌, refl, Bool, true, false, cond, eqb, ltb}
use Rattle.std.proofs.Common.{arith, ltb-true, ltb-false, ne_eqb}
use Rattle.kinds.specs.KindBytes as kind
use Rattle.kinds.specs.Range.{false-over}
use Rattle.meaning.specs.Trees.{RowKind, FlatKind, XKind}
use Rattle.meaning.specs.Steps.{BareKind, Kind, kind_no, Cell, place}
use Rattle.meaning.specs.Running.{writable, before}
use Rattle.meaning.proofs.Laws.Cells.{kind-same}
use Rattle.evaluator_cells.specs.Given.{Lent, given}
use Rattle.evaluator_cells.specs.Cells.{id_limit, key_no, writable_no}
use Rattle.evaluator_cells.specs.Keyed.{key_limit}
use Rattle.evaluator_cells.specs.Before.{before_in}

-- a cell of a record: an id of 16 bits, and a prime of 0 or 1
abbrev pub Small : Cell → Type 0
Small (Cell.cell k i r) = (i < id_limit) × (r < 2)

abbrev pub key_of : Cell → ℕ
key_of (Cell.cell k i r) = key_no (kind_no k) r i

pub key-same : (c d : Cell) → Small c → Small d → key_of c ≡ key_of d → c ≡ d
unfolding key_no
key-same (Cell.cell k i r) (Cell.cell k' i' r') h g e =
    let a : kind_no k ≡ kind_no k' = omega arith in
    let b : i ≡ i' = omega arith in
    let c : r ≡ r' = omega arith in
    cc (kind-same k k' a)

kind-small : (k : Kind) → kind_no k < 256
kind-small (Kind.row RowKind.cm) = omega arith
kind-small (Kind.row RowKind.const) = omega arith
kind-small (Kind.row RowKind.q) = omega arith
kind-small (Kind.flat FlatKind.public) = omega arith
kind-small (Kind.flat FlatKind.challenge) = omega arith
kind-small (Kind.flat FlatKind.eval) = omega arith
kind-small (Kind.x XKind.x_div_x_sub_xi) = omega arith
kind-small (Kind.x XKind.x_div_x_sub_w_xi) = omega arith
kind-small (Kind.x XKind.plain_x) = omega arith
kind-small Kind.exp = omega arith
kind-small Kind.tmp = omega arith
kind-small Kind.f = omega arith
kind-small Kind.tmp_exp = omega arith
kind-small (Kind.bare BareKind.Zi) = omega arith
kind-small (Kind.bare BareKind.tree1) = omega arith
kind-small (Kind.bare BareKind.tree2) = omega arith
kind-small (Kind.bare BareKind.tree3) = omega arith
kind-small (Kind.bare BareKind.tree4) = omega arith
kind-small (Kind.bare BareKind.Z) = omega arith

pub key-small : (c : Cell) → Small c → key_of c < key_limit
unfolding key_no
key-small (Cell.cell k i r) h = omega (arith, kind-small k)

pub place-small : (c : Cell) → Small c → Small (place c)
place-small (Cell.cell (Kind.row k) i r) h = h
place-small (Cell.cell (Kind.flat k) i r) h = h
place-small (Cell.cell (Kind.x k) i r) h = h
place-small (Cell.cell Kind.exp i r) h = h
place-small (Cell.cell Kind.tmp i r) h = (h.0, omega arith)
place-small (Cell.cell Kind.f i r) h = h
place-small (Cell.cell Kind.tmp_exp i r) h = h
place-small (Cell.cell (Kind.bare k) i r) h = h

-- ---- by the byte of a kind

pub place-key : (k : Kind) (i r : ℕ) → cond (eqb (kind_no k) kind.tmp) (key_no kind.tmp 0 i) (key_no (kind_no k) r i) ≡ key_of (place (Cell.cell k i r))
place-key (Kind.row RowKind.cm) i r = refl
place-key (Kind.row RowKind.const) i r = refl
place-key (Kind.row RowKind.q) i r = refl
place-key (Kind.flat FlatKind.public) i r = refl
place-key (Kind.flat FlatKind.challenge) i r = refl
place-key (Kind.flat FlatKind.eval) i r = refl
place-key (Kind.x XKind.x_div_x_sub_xi) i r = refl
place-key (Kind.x XKind.x_div_x_sub_w_xi) i r = refl
place-key (Kind.x XKind.plain_x) i r = refl
place-key Kind.exp i r = refl
place-key Kind.tmp i r = refl
place-key Kind.f i r = refl
place-key Kind.tmp_exp i r = refl
place-key (Kind.bare BareKind.Zi) i r = refl
place-key (Kind.bare BareKind.tree1) i r = refl
place-key (Kind.bare BareKind.tree2) i r = refl
place-key (Kind.bare BareKind.tree3) i r = refl
place-key (Kind.bare BareKind.tree4) i r = refl
place-key (Kind.bare BareKind.Z) i r = refl

pub writable-is : (k : Kind) (i r : ℕ) → writable_no (kind_no k) ≡ writable (Cell.cell k i r)
unfolding writable_no
writable-is (Kind.row RowKind.cm) i r = refl
writable-is (Kind.row RowKind.const) i r = refl
writable-is (Kind.row RowKind.q) i r = refl
writable-is (Kind.flat FlatKind.public) i r = refl
writable-is (Kind.flat FlatKind.challenge) i r = refl
writable-is (Kind.flat FlatKind.eval) i r = refl
writable-is (Kind.x XKind.x_div_x_sub_xi) i r = refl
writable-is (Kind.x XKind.x_div_x_sub_w_xi) i r = refl
writable-is (Kind.x XKind.plain_x) i r = refl
writable-is Kind.exp i r = refl
writable-is Kind.tmp i r = refl
writable-is Kind.f i r = refl
writable-is Kind.tmp_exp i r = refl
writable-is (Kind.bare BareKind.Zi) i r = refl
writable-is (Kind.bare BareKind.tree1) i r = refl
writable-is (Kind.bare BareKind.tree2) i r = refl
writable-is (Kind.bare BareKind.tree3) i r = refl
writable-is (Kind.bare BareKind.tree4) i r = refl
writable-is (Kind.bare BareKind.Z) i r = refl

pub before-is : (m : ℕ) (g : Lent) (k : Kind) (i r : ℕ) → before_in m g (kind_no k) i r ≡ before (given m g) (Cell.cell k i r)
unfolding before_in
before-is m g (Kind.row RowKind.cm) i r = refl
before-is m g (Kind.row RowKind.const) i r = refl
before-is m g (Kind.row RowKind.q) i r = refl
before-is m g (Kind.flat FlatKind.public) i r = refl
before-is m g (Kind.flat FlatKind.challenge) i r = refl
before-is m g (Kind.flat FlatKind.eval) i r = refl
before-is m g (Kind.x XKind.x_div_x_sub_xi) i r = refl
before-is m g (Kind.x XKind.x_div_x_sub_w_xi) i r = refl
before-is m g (Kind.x XKind.plain_x) i r = refl
before-is m g Kind.exp i r = refl
before-is m g Kind.tmp i r = refl
before-is m g Kind.f i r = refl
before-is m g Kind.tmp_exp i r = refl
before-is m g (Kind.bare BareKind.Zi) i r = refl
before-is m g (Kind.bare BareKind.tree1) i r = refl
before-is m g (Kind.bare BareKind.tree2) i r = refl
before-is m g (Kind.bare BareKind.tree3) i r = refl
before-is m g (Kind.bare BareKind.tree4) i r = refl
before-is m g (Kind.bare BareKind.Z) i r = refl

-- a byte below or past those of the kinds that a step may write
pub not-writable-low : (k : ℕ) → k < 0x12 → (k ≡ 0x10 → ⊥) → false ≡ writable_no k
unfolding writable_no
not-writable-low k h g = by (ltb k 0x10) refl
  where
    by : (t : Bool) → ltb k 0x10 ≡ t → false ≡ writable_no k
    by true e = false-over writable_no 0x00 0x0f tt k (omega arith, omega (arith, ltb-true k 0x10 e))
    by false e = false-over writable_no 0x11 0x11 tt k (omega (arith, ltb-false k 0x10 e))

pub not-writable-past : (k : ℕ) → 0x22 < k → false ≡ writable_no k
unfolding writable_no
not-writable-past k h =
    simp (
      ne_eqb k kind.cm (λ e. omega arith),
      ne_eqb k kind.exp (λ e. omega arith),
      ne_eqb k kind.q (λ e. omega arith),
      ne_eqb k kind.tmp (λ e. omega arith),
      ne_eqb k kind.f (λ e. omega arith),
      ne_eqb k kind.tmp_exp (λ e. omega arith),
    )
