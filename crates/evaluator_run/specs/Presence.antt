-- DOES A LIST RUN AT ALL? The same run with a mark for each cell in place of its value. It tells 10 from 9 where a list writes more cells than the table
-- has room for. Assumes nothing: these are definitions.
use Rattle.std.specs.Prelude.{ℕ, ◌+◌, ◌*◌, ◌%◌, ◌<◌, ◌≡◌, Bool, true, false, cond, ◌||◌, List, [], ◌∷◌, get_or, set, eqb}
use Rattle.std.proofs.Math.Option.{Option, none, some}
use Rattle.kinds.specs.KindBytes as kind
use Rattle.kinds.specs.declared.reference.Reference.{Reference}
use Rattle.kinds.specs.declared.step.Step as bytes
use Rattle.evaluator_cells.specs.Given.{Lent}
use Rattle.evaluator_cells.specs.Cells.{id_limit, writable_no}
use Rattle.evaluator_cells.specs.Before.{before_in}
use Rattle.evaluator_step.specs.Machine.{value_by}

abbrev pub is_known : {A : Type 0} → Option A → Bool
is_known none = false
is_known (some v) = true

-- the kinds that a step may write, and any other
unfoldable pub class_no : ℕ → ℕ
class_no k =
    cond (eqb k kind.cm) 0
    (cond (eqb k kind.exp) 1 (cond (eqb k kind.q) 2 (cond (eqb k kind.tmp) 3 (cond (eqb k kind.f) 4 (cond (eqb k kind.tmp_exp) 5 6)))))

-- two primes of 65,536 ids for each class
abbrev pub slot_count : ℕ
slot_count = 917504

-- the place of a cell's mark; a temporary is its number
unfoldable pub slot_by : ℕ → ℕ → ℕ → ℕ
slot_by k r i = (class_no k * 2 + cond (eqb k kind.tmp) 0 (r % 2)) * id_limit + i

abbrev pub slot_no : Reference → ℕ
slot_no x = slot_by x.kind x.prime x.id

-- what the code gives: the place, which is one of the table's
pub record SlotIs (x : Reference) (n : ℕ) : Type 0 where
  pub is : n ≡ slot_no x
  pub small : n < slot_count

abbrev pub marked : ℕ
marked = 1

unfoldable pub seen_at : List ℕ → ℕ → Bool
seen_at p n = eqb (get_or p n 0) marked

module _ (m : ℕ) (g : Lent) where
  -- is a source's value there?
  unfoldable pub has_in : List ℕ → Reference → Bool
  has_in p r = eqb r.kind kind.number || (seen_at p (slot_no r) || is_known (before_in m g r.kind r.id r.prime))

  -- any value stands for one that is there
  abbrev pub mark_as : List ℕ → Reference → Option ℕ
  mark_as p r = cond (has_in p r) (some 0) none

  -- the marks after a record
  unfoldable pub mark_to : List ℕ → bytes.Step → Option (List ℕ)
  mark_to p x =
      cond (is_known (value_by m (mark_as p) x)) (cond (writable_no x.dest.kind) (some (set p (slot_no x.dest) marked)) none) none

  abbrev pub onward : Option (List ℕ) → (List ℕ → Option (List ℕ)) → Option (List ℕ)
  onward none f = none
  onward (some p) f = f p

  unfoldable pub marks_to : List ℕ → List bytes.Step → Option (List ℕ)
  marks_to p [] = some p
  marks_to p (x ∷ xs) = onward (mark_to p x) (λ q. marks_to q xs)

-- what the code answers, with the marks after it; where there are none it leaves them open
abbrev pub marks_are : Bool → List ℕ → Option (List ℕ)
marks_are true p = some p
marks_are false p = none
