-- THE EVALUATOR (document 01, added): a list run downwards modulo m. The answer is the final value of every cell written, in the order in which the
-- cells are first written. 1: a modulus below 2, a malformed record, or values that do not fill their sections. 10: a step that running refuses: an
-- unknown step byte or too few sources, a source neither written nor given, a destination of a kind that no step writes. 9, last: more cells than the
-- limit or than the lent room.
-- Assumes nothing: these are definitions.
use Rattle.std.specs.Prelude.{ℕ, ◌*◌, Bool, false, cond, ◌&&◌, ◌||◌, List, [], ◌∷◌, ◌++◌, length, leb}
use Rattle.std.proofs.Math.Option.{Option, none, some}
use Rattle.kinds.specs.Write.{write}
use Rattle.kinds.specs.BigEndian.{u16_bytes}
use Rattle.meaning.specs.Refusals.{Refusal, Answer, done, refused}
use Rattle.meaning.specs.Trees.{Lit}
use Rattle.meaning.specs.Values.{bind}
use Rattle.meaning.specs.Models.{modulo}
use Rattle.meaning.specs.Steps.{kind_no, Cell, same, place, Ref, Step}
use Rattle.meaning.specs.Running.{Store, empty, run}
use Rattle.output.specs.Output.{u64_bytes}
use Rattle.evaluator_cells.specs.Cells.{cell_limit}
use Rattle.evaluator_cells.specs.Keyed.{valued_size}
use Rattle.evaluator_cells.specs.Given.{Lent, given, good_values}
use Rattle.lists.specs.Records.{records_in, good_list}
use Rattle.lists.specs.Decoding.{steps_from}

-- ---- the cells written

unfoldable pub is_among : Cell → List Cell → Bool
is_among c [] = false
is_among c (d ∷ ds) = same d c || is_among c ds

-- one more, unless it is there
unfoldable pub adding : Cell → List Cell → List Cell
adding c ds = cond (is_among c ds) ds (ds ++ (c ∷ []))

abbrev pub writing : Ref → List Cell → List Cell
writing (Ref.var c) ds = adding (place c) ds
writing (Ref.number l n) ds = ds

-- after those of ds
unfoldable pub written_after : List Cell → List Step → List Cell
written_after ds [] = ds
written_after ds (x ∷ xs) = written_after (writing x.destination ds) xs

-- IN THE ORDER in which they are first written
abbrev pub written : List Step → List Cell
written xs = written_after [] xs

-- ---- their values

pub record Valued : Type 0 where
  pub cell : Cell
  pub value : ℕ

-- a cell that is written has a value
abbrev pub held_in : Option ℕ → ℕ
held_in none = 0
held_in (some v) = v

unfoldable pub valued_by : Store ℕ → List Cell → List Valued
valued_by s [] = []
valued_by s (c ∷ cs) = record { cell = c; value = held_in (s c) } ∷ valued_by s cs

-- ---- as bytes

-- kind, prime, id, value
unfoldable pub valued_bytes : Valued → List ℕ
valued_bytes x = by x.cell x.value
  where
    by : Cell → ℕ → List ℕ
    by (Cell.cell k i r) v = (kind_no k ∷ r ∷ []) ++ u16_bytes i ++ u64_bytes v

unfoldable pub values_bytes : List Valued → List ℕ
values_bytes [] = []
values_bytes (x ∷ xs) = valued_bytes x ++ values_bytes xs

-- ---- the answer

-- running the steps of a list modulo m, from the values given
abbrev pub computed : ℕ → Lent → List Step → Option (List Valued)
computed m g xs = bind (run (modulo m) (given m g) xs empty) (λ s. some (valued_by s (written xs)))

-- 9, last
abbrev pub fitting : ℕ → List Valued → Answer (List Valued)
fitting room vs = cond (leb (length vs) cell_limit && leb (valued_size * length vs) room) (done vs) (refused Refusal.full none)

-- 10 where there is none
abbrev pub ruled : ℕ → Option (List Valued) → Answer (List Valued)
ruled room none = refused Refusal.no_rule none
ruled room (some vs) = fitting room vs

-- a modulus from 2 up, whole and well_formed_lem records, and values that fill their sections: else 1
unfoldable pub well_formed : List ℕ → ℕ → List ℕ → Bool
well_formed ws m list = leb 2 m && (good_list list && good_values ws)

-- THE ANSWER of what is well formed, with so many bytes of room, where node n brings L n
unfoldable pub ruling : (ℕ → Lit) → Lent → ℕ → List ℕ → ℕ → Answer (List Valued)
ruling L g m list room = ruled room (bind (steps_from L (records_in list)) (computed m g))

-- the lent bytes after it
abbrev pub out_after : List ℕ → Answer (List Valued) → List ℕ
out_after out (done vs) = write out 0 (values_bytes vs)
out_after out (refused r n) = out
