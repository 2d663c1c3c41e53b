-- Blocks over bytes: what a block table and a list of step records say, and of these the definitions that `meaning` has of blocks, in the same words.
-- Assumes nothing: these are definitions.
use Rattle.std.specs.Prelude.{ℕ, zero, suc, ◌+◌, ◌*◌, ◌/◌, ◌%◌, Bool, false, not, ◌&&◌, ◌||◌, cond, List, [], ◌∷◌, ◌++◌, get_or, drop, eqb, ltb}
use Rattle.std.proofs.Math.Option.{Option, none, some}
use Rattle.meaning.specs.Generation.{onto, before}
use Rattle.kinds.specs.Steps.{step_size, steps_of}
use Rattle.kinds.specs.declared.reference.Reference.{Reference}
use Rattle.kinds.specs.declared.step.Step.{Step}
use Rattle.frames.specs.Tables.{expression_in, first}
use Rattle.starkinfo_codegen.specs.Sources.{copy_step}

-- ── tables ───────────────────────────────────────────────────────────────────
pub record RawBlock : Type 0 where
  pub expression : ℕ
  pub row : ℕ
  pub records : List Step

-- a word of the block table: a cell, and how many steps
abbrev pub cell_in : ℕ → ℕ
cell_in word = word % 1024

abbrev pub steps_in : ℕ → ℕ
steps_in word = word / 1024

-- how many steps the first n blocks have: the number of the first step of block n
unfoldable pub start_of : List ℕ → ℕ → ℕ
start_of t zero = 0
start_of t (suc n) = start_of t n + steps_in (get_or t n 0)

-- the n records of a list from step number `at` on
abbrev pub records_from : List ℕ → ℕ → ℕ → List Step
records_from l at n = steps_of (drop (step_size * at) l) n

abbrev pub raw_block_at : List ℕ → List ℕ → ℕ → RawBlock
raw_block_at t l k =
    let word = get_or t k 0 in
    record { expression = cell_in word / 2; row = cell_in word % 2; records = records_from l (start_of t k) (steps_in word) }

-- THE BLOCKS that the first n words of table t say of list l
abbrev pub raw_blocks : List ℕ → List ℕ → ℕ → List RawBlock
raw_blocks t l n = first (raw_block_at t l) n

-- ── result copies ────────────────────────────────────────────────────────────
abbrev pub last_destination : List Step → Option Reference
last_destination [] = none
last_destination (x ∷ []) = some x.dest
last_destination (x ∷ y ∷ ys) = last_destination (y ∷ ys)

abbrev pub copied : RawBlock → Reference → Option Reference → Option RawBlock
copied b d none = none
copied b d (some r) = some (record { expression = b.expression; row = b.row; records = b.records ++ (copy_step d r ∷ []) })

abbrev pub is_block : ℕ → ℕ → RawBlock → Bool
is_block e r b = eqb e b.expression && eqb r b.row

abbrev pub copy_into : ℕ → ℕ → Reference → List RawBlock → Option (List RawBlock)
copy_into e r d [] = none
copy_into e r d (b ∷ bs) = cond (is_block e r b) (before (copied b d (last_destination b.records)) bs) (onto b (copy_into e r d bs))

-- ── building ─────────────────────────────────────────────────────────────────
pub record RawSegment : Type 0 where
  pub first : List Step
  pub i : List Step
  pub last : List Step

abbrev pub standing : ℕ → ℕ → List RawBlock → Bool
standing e r [] = false
standing e r (b ∷ bs) = is_block e r b || standing e r bs

-- E: an expression with a flag whose plain and primed blocks both stand
abbrev pub in_e : (ℕ → Bool) → List RawBlock → ℕ → Bool
in_e flagged bs e = flagged e && (standing e 0 bs && standing e 1 bs)

-- every block in order
abbrev pub every : List RawBlock → List Step
every [] = []
every (b ∷ bs) = b.records ++ every bs

-- the blocks from number n on, less those that `skips` names by number
abbrev pub linear : (ℕ → RawBlock → Bool) → ℕ → List RawBlock → List Step
linear skips n [] = []
linear skips n (b ∷ bs) = cond (skips n b) (linear skips (suc n) bs) (b.records ++ linear skips (suc n) bs)

abbrev pub plain : RawBlock → Bool
plain b = eqb b.row 0

abbrev pub raw_segment : (ℕ → Bool) → List RawBlock → RawSegment
raw_segment flagged bs =
    record {
      first = every bs;
      i = linear (λ n b. in_e flagged bs n && plain b) 0 bs;
      last = linear (λ n b. in_e flagged bs n) 0 bs;
    }

-- ── flags ────────────────────────────────────────────────────────────────────
abbrev pub bit_in : ℕ → ℕ → Bool
bit_in flags bit = eqb (flags / bit % 2) 1

-- bit 0 keep, 1 keep2ns, 2 id_q
unfoldable pub flagged_by : ℕ → Bool
flagged_by flags = bit_in flags 1 || (bit_in flags 2 || bit_in flags 4)

unfoldable pub released_by : ℕ → Bool
released_by flags = not (bit_in flags 1 || bit_in flags 4)

-- of expression e, in a table of m
abbrev pub flagged_in : List ℕ → ℕ → ℕ → Bool
flagged_in x m e = ltb e m && flagged_by (expression_in x e).flags

abbrev pub released_in : List ℕ → ℕ → ℕ → Bool
released_in x m e = ltb e m && released_by (expression_in x e).flags
