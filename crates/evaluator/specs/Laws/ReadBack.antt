-- THE BYTES OF A LIST OF STEPS, READ BACK: its records are well formed and say those steps, where each number reference carries what its node brings.
-- Assumes nothing.
use Rattle.std.specs.Prelude.{ℕ, ◌+◌, ◌*◌, ◌%◌, ◌<◌, ◌≤◌, ◌≡◌, true, false, eqb}
use Rattle.std.proofs.Math.Path.{refl, sym, ap}
use Rattle.std.proofs.Common.{◌∙◌, div-add-mod', le-leb, eq-eqb}
use Rattle.std.proofs.Math.Option.{some}
use mathlib.Core.List.{List, [], ◌∷◌, ◌++◌, append-nil}
use Rattle.std.proofs.Math.Nat.{mul-mod_right}
use native.Mathlib.Omega.{arith}
use Rattle.std.proofs.Math.ListN.{length}
use Rattle.std.proofs.Math.Seq.{drop-length}
use Rattle.kinds.specs.KindBytes as kind
use Rattle.kinds.specs.Kinds.{is_reference, is_leaf}
use Rattle.kinds.specs.Range.{within}
use Rattle.kinds.specs.Write.{write, write-is}
use Rattle.kinds.specs.Steps.{step_size, steps_of, steps_bytes, steps-none, steps-joined, steps-bytes-length}
use Rattle.kinds.specs.declared.reference.Reference.{Reference}
use Rattle.meaning.specs.Trees.{RowKind, FlatKind, XKind, Each, up_to}
use Rattle.meaning.specs.Steps.{BareKind, Kind, kind_no, Cell, Ref, StepOp, step_no, Step}
use Rattle.starkinfo_codegen.specs.Encoding.{ref_of, source_of, step_record, records, records-length, encoded, encoded-length}
use Rattle.output.specs.Shown.{IsCell, RefSays, StepSays}
use Rattle.pool.specs.Pool.{Pool}
use Rattle.evaluator_cells.specs.Literals.{brought_at}
use Rattle.lists.specs.Records.{record_count, records_in, good_reference, good_references, good_record, good_records, good_list}
use Rattle.lists.specs.Decoding.{kind_from, op_from, ref_from, refs_from, step_from, steps_from}

-- ---- kinds and steps

abbrev Known : Kind → Type 0
Known k = (eqb (kind_no k) kind.number ≡ false) × (kind_from (kind_no k) ≡ some k) × (is_reference (kind_no k) ≡ true)

kind-known : (k : Kind) → Known k
unfolding kind_from is_reference is_leaf within
kind-known (Kind.row RowKind.cm) = (refl, refl, refl)
kind-known (Kind.row RowKind.const) = (refl, refl, refl)
kind-known (Kind.row RowKind.q) = (refl, refl, refl)
kind-known (Kind.flat FlatKind.public) = (refl, refl, refl)
kind-known (Kind.flat FlatKind.challenge) = (refl, refl, refl)
kind-known (Kind.flat FlatKind.eval) = (refl, refl, refl)
kind-known (Kind.x XKind.x_div_x_sub_xi) = (refl, refl, refl)
kind-known (Kind.x XKind.x_div_x_sub_w_xi) = (refl, refl, refl)
kind-known (Kind.x XKind.plain_x) = (refl, refl, refl)
kind-known Kind.exp = (refl, refl, refl)
kind-known Kind.tmp = (refl, refl, refl)
kind-known Kind.f = (refl, refl, refl)
kind-known Kind.tmp_exp = (refl, refl, refl)
kind-known (Kind.bare BareKind.Zi) = (refl, refl, refl)
kind-known (Kind.bare BareKind.tree1) = (refl, refl, refl)
kind-known (Kind.bare BareKind.tree2) = (refl, refl, refl)
kind-known (Kind.bare BareKind.tree3) = (refl, refl, refl)
kind-known (Kind.bare BareKind.tree4) = (refl, refl, refl)
kind-known (Kind.bare BareKind.Z) = (refl, refl, refl)

op-known : (o : StepOp) → op_from (step_no o) ≡ some o
unfolding op_from
op-known StepOp.add = refl
op-known StepOp.sub = refl
op-known StepOp.mul = refl
op-known StepOp.muladd = refl
op-known StepOp.copy = refl

-- ---- references

-- a cell of this row or the next
abbrev pub InTwo : Ref → Type 0
InTwo (Ref.var (Cell.cell k i r)) = r < 2
InTwo (Ref.number l n) = Unit {0}

pub record StepInTwo (s : Step) : Type 0 where
  pub dest : InTwo s.destination
  pub sources : Each InTwo s.sources

good-ref : (r : Ref) → InTwo r → good_reference (ref_of r) ≡ true
unfolding good_reference is_reference is_leaf within
good-ref (Ref.var (Cell.cell k i r)) h = rw ((kind-known k).2, le-leb r 1 (omega arith))
good-ref (Ref.number l n) h = refl

abbrev refs_of : List Ref → List Reference
refs_of [] = []
refs_of (r ∷ rs) = ref_of r ∷ refs_of rs

good-refs : (rs : List Ref) → Each InTwo rs → good_references (refs_of rs) ≡ true
unfolding good_references
good-refs [] h = refl
good-refs (r ∷ rs) h = rw (good-ref r h.0, good-refs rs h.1)

counted-refs : (rs : List Ref) → length rs ≤ 3 → up_to (length rs) (source_of rs 0 ∷ source_of rs 1 ∷ source_of rs 2 ∷ []) ≡ refs_of rs
counted-refs [] h = refl
counted-refs (a ∷ []) h = refl
counted-refs (a ∷ b ∷ []) h = refl
counted-refs (a ∷ b ∷ c ∷ []) h = refl
counted-refs (a ∷ b ∷ c ∷ d ∷ rs) h = absurd (omega arith)

module _ (p : Pool) where
  ref_back : (r : Ref) → RefSays p r → ref_from (brought_at p) (ref_of r) ≡ some r
  unfolding ref_from
  ref_back (Ref.var (Cell.cell k i r)) h = rw ((kind-known k).0, (kind-known k).1)
  ref_back (Ref.number l n) h = rw (← h.1)

  cell-back : (r : Ref) → IsCell r → ref_from (brought_at p) (ref_of r) ≡ some r
  cell-back (Ref.var c) h = ref_back (Ref.var c) tt
  cell-back (Ref.number l n) h = absurd h

  refs-back : (rs : List Ref) → Each (RefSays p) rs → refs_from (brought_at p) (refs_of rs) ≡ some rs
  unfolding refs_from
  refs-back [] h = refl
  refs-back (r ∷ rs) h = rw (ref_back r h.0, refs-back rs h.1)

  -- ---- steps

  step_back : (s : Step) → StepSays p s → step_from (brought_at p) (step_record s) ≡ some s
  unfolding step_from
  step_back s h = rw (op-known s.op, cell-back s.destination h.into, counted-refs s.sources h.few, refs-back s.sources h.from)

  step-good : (s : Step) → StepSays p s → StepInTwo s → good_record (step_record s) ≡ true
  unfolding good_record
  step-good s h r =
      rw
      (le-leb (length s.sources) 3 h.few, good-ref s.destination r.dest, counted-refs s.sources h.few, good-refs s.sources r.sources)

  steps_back : (ss : List Step) → Each (StepSays p) ss → steps_from (brought_at p) (records ss) ≡ some ss
  unfolding steps_from records
  steps_back [] h = refl
  steps_back (s ∷ ss) h = rw (step_back s h.0, steps_back ss h.1)

  steps-good : (ss : List Step) → Each (StepSays p) ss → Each StepInTwo ss → good_records (records ss) ≡ true
  unfolding good_records records
  steps-good [] h r = refl
  steps-good (s ∷ ss) h r = rw (step-good s h.0 r.0, steps-good ss h.1 r.1)

  -- ---- the bytes

  write_self : (ws : List ℕ) → write ws 0 ws ≡ ws
  write_self ws =
      let e : 0 + length ws ≡ length ws = omega arith in
      write-is ws 0 ws (omega arith) ∙ rw (e, drop-length ws, append-nil ws)

  pub count-back : (ss : List Step) → record_count (encoded ss) ≡ length ss
  count-back ss =
      let z : length (encoded ss) % step_size ≡ 0 = rw (encoded-length ss) (mul-mod_right step_size (length ss)) in
      omega (arith, div-add-mod' (length (encoded ss)) step_size, encoded-length ss)

  pub records-back : (ss : List Step) → records_in (encoded ss) ≡ records ss
  unfolding encoded
  records-back ss =
      let n : record_count (encoded ss) ≡ 0 + length (records ss) = count-back ss ∙ sym (records-length ss) ∙ omega arith in
      let l : step_size * (0 + length (records ss)) ≤ length (steps_bytes (records ss)) = omega (arith, steps-bytes-length (records ss)) in
      let q : steps_of (write (steps_bytes (records ss)) 0 (steps_bytes (records ss))) (0 + length (records ss)) ≡ steps_of (steps_bytes (records ss)) 0 ++ records ss
      = steps-joined (steps_bytes (records ss)) 0 (records ss) l in
      ap (steps_of (steps_bytes (records ss))) n ∙ ap (λ (x : List ℕ). steps_of x (0 + length (records ss))) (sym (write_self (steps_bytes (records ss)))) ∙ q
      ∙ rw (steps-none (steps_bytes (records ss)))

  -- THE STEPS OF THE BYTES
  pub list_back : (ss : List Step) → Each (StepSays p) ss → steps_from (brought_at p) (records_in (encoded ss)) ≡ some ss
  list_back ss h = rw (records-back ss) (steps_back ss h)

  pub list-good : (ss : List Step) → Each (StepSays p) ss → Each StepInTwo ss → good_list (encoded ss) ≡ true
  unfolding good_list
  list-good ss h r =
      let z : length (encoded ss) % step_size ≡ 0 = rw (encoded-length ss) (mul-mod_right step_size (length ss)) in
      rw (eq-eqb (length (encoded ss) % step_size) 0 z, records-back ss, steps-good ss h r)
