-- A result's copy over tables: the block of a cell, and a list with a copy put in.
-- Assumes nothing: these are definitions.
use Rattle.std.specs.Prelude.{ℕ, zero, suc, ◌+◌, ◌*◌, ◌-◌, ◌<◌, ◌≤◌, cond, List, ◌++◌, get_or, eqb}
use Rattle.kinds.specs.Write.{write}
use Rattle.kinds.specs.Steps.{step_size, step_at, step_bytes, steps_bytes}
use Rattle.kinds.specs.declared.reference.Reference.{Reference}
use Rattle.starkinfo_codegen.specs.Sources.{copy_step}
use Rattle.builds.specs.Raw.{cell_in, steps_in, start_of, records_from}
use Rattle.std.specs.Prelude.{Option, Some, None}

abbrev pub or_else : Option ℕ → Option ℕ → Option ℕ
or_else (Some k) other = Some k
or_else None other = other

-- THE FIRST OF n BLOCKS that has cell c
unfoldable pub find_block : List ℕ → ℕ → ℕ → Option ℕ
find_block t zero c = None
find_block t (suc n) c = or_else (find_block t n c) (cond (eqb (cell_in (get_or t n 0)) c) (Some n) None)

-- A LIST OF `end` STEPS WITH A COPY PUT IN at step number `pos`: of the destination of the step before it, into d
unfoldable pub inserted : List ℕ → ℕ → ℕ → Reference → List ℕ
inserted l pos end d =
    write l (step_size * pos) (step_bytes (copy_step d (step_at l (step_size * (pos - 1))).dest) ++ steps_bytes (records_from l pos (end - pos)))

-- ── what is asked ────────────────────────────────────────────────────────────
pub record StartAsks (t : List ℕ) (n : ℕ) : Type 0 where
  pub few : n ≤ 1024
  pub steps : start_of t n ≤ 65535

pub record GrowAsks (t : List ℕ) (k : ℕ) : Type 0 where
  pub there : k < 1024
  pub steps : steps_in (get_or t k 0) ≤ 65535

pub record MoveAsks (room pos end : ℕ) : Type 0 where
  pub inside : pos ≤ end
  pub fits : step_size * (end + 1) ≤ room

pub record InsertAsks (room pos end : ℕ) : Type 0 where
  pub after : 1 ≤ pos
  pub inside : pos ≤ end
  pub fits : step_size * (end + 1) ≤ room
