-- THE CLOSING PRODUCT over raw blocks, as the definition's `close_last`: of blocks of `meaning` it is their own; of a table and a list it is one step put after the
-- others and the last block's word grown.
-- Assumes nothing.
use Prim.Native.Nat.{ℕ, zero, suc, ◌+◌, ◌*◌, ◌-◌, ◌/◌, ◌%◌, ◌<◌, ◌≤◌}
use Rattle.std.specs.Prelude.{◌≡◌, get_or, set}
use Rattle.std.proofs.Math.Path.{refl, ap}
use Rattle.std.proofs.Common.{sym, ◌∙◌, inl, arith, length-append, get_or-set_other}
use Rattle.std.proofs.Math.Option.{Option, none, some}
use mathlib.Core.List.{List, [], ◌∷◌, ◌++◌}
use Rattle.std.proofs.Math.ListN.{length}
use Rattle.std.proofs.Math.Seq.{get_or-set_same}
use Rattle.meaning.specs.Steps as typed
use Rattle.meaning.specs.Generation.{Block, State}
use Rattle.meaning.specs.Generation as meaning
use Rattle.kinds.specs.KindBytes as kind
use Rattle.kinds.specs.OpBytes as op
use Rattle.kinds.specs.References.{plain_ref, blank_ref}
use Rattle.kinds.specs.Write.{write}
use Rattle.kinds.specs.Steps.{step_size, step_at, step_bytes, step-read, step_kept}
use Rattle.kinds.specs.declared.reference.Reference.{Reference}
use Rattle.kinds.specs.declared.step.Step.{Step}
use Rattle.frames.specs.Tables.{first}
use Rattle.starkinfo_codegen.specs.Encoding.{ref_of, records, records-append}
use Rattle.starkinfo_codegen.specs.Sources.{step_with}
use Rattle.builds.specs.Raw.{RawBlock, steps_in, start_of, records_from, raw_block_at, raw_blocks, last_destination, every}
use Rattle.builds.specs.RawOf.{raw_block, raw_of}
use Rattle.builds.specs.Starts.{records-more, records-same, start-next, start-le}
use Rattle.codegen.specs.Said.{Said, said_of}
use Rattle.codegen.specs.Loads.{blocks-same}
use Rattle.constraint_meaning.specs.Constraint as definition

-- ── definitions ──────────────────────────────────────────────────────────────
-- q = last · Zi
abbrev pub closing_step : Reference → Step
closing_step last = step_with op.mul 2 (plain_ref kind.q 0 0) last (plain_ref kind.Zi 0 0) blank_ref

abbrev pub raw_product : Option Reference → List Step
raw_product none = []
raw_product (some r) = closing_step r ∷ []

abbrev pub raw_closed : RawBlock → RawBlock
raw_closed b = record { expression = b.expression; row = b.row; records = b.records ++ raw_product (last_destination b.records) }

abbrev pub raw_close_last : List RawBlock → List RawBlock
raw_close_last [] = []
raw_close_last (b ∷ []) = raw_closed b ∷ []
raw_close_last (b ∷ c ∷ bs) = b ∷ raw_close_last (c ∷ bs)

abbrev pub closed_said : Said → Said
closed_said st = record { marks = st.marks; blocks = raw_close_last st.blocks; counter = st.counter }

-- A LIST OF n STEPS WITH THE PRODUCT after them, of the last one's destination
unfoldable pub closed_list : List ℕ → ℕ → List ℕ
closed_list l n = write l (step_size * n) (step_bytes (closing_step (step_at l (step_size * (n - 1))).dest))

-- a table with block k's word grown by a step
abbrev pub grown : List ℕ → ℕ → List ℕ
grown t k = set t k (get_or t k 0 + 1024)

-- there is a step, and room for one more
pub record PutAsks (room n : ℕ) : Type 0 where
  pub some : 1 ≤ n
  pub few : n ≤ 65535
  pub fits : step_size * (n + 1) ≤ room

-- ── of blocks of `meaning` ───────────────────────────────────────────────────
abbrev refs : Option typed.Ref → Option Reference
refs none = none
refs (some r) = some (ref_of r)

last_of : (ss : List typed.Step) → last_destination (records ss) ≡ refs (meaning.last_destination ss)
unfolding records
last_of [] = refl
last_of (x ∷ []) = refl
last_of (x ∷ y ∷ ys) = last_of (y ∷ ys)

product-of : (o : Option typed.Ref) → raw_product (refs o) ≡ records (definition.product o)
unfolding records
product-of none = refl
product-of (some r) = refl

closed_of : (b : Block) → raw_closed (raw_block b) ≡ raw_block (definition.closed b)
closed_of b =
    ap (λ (l : List Step). record { expression = b.expression; row = b.row; records = l })
    (ap (λ (o : Option Reference). records b.steps ++ raw_product o) (last_of b.steps)
    ∙ ap (λ (l : List Step). records b.steps ++ l) (product-of (meaning.last_destination b.steps))
    ∙ sym (records-append b.steps (definition.product (meaning.last_destination b.steps))))

raw-close : (bs : List Block) → raw_close_last (raw_of bs) ≡ raw_of (definition.close_last bs)
raw-close [] = refl
raw-close (b ∷ []) = ap (λ (c : RawBlock). c ∷ []) (closed_of b)
raw-close (b ∷ c ∷ bs) = ap (λ (l : List RawBlock). raw_block b ∷ l) (raw-close (c ∷ bs))

-- THE CLOSING PRODUCT, of a context of `meaning`
pub closed_said_lem : (st : State) → closed_said (said_of st) ≡ said_of (definition.closing st)
closed_said_lem st = ap (λ (l : List RawBlock). record { marks = st.marks; blocks = l; counter = st.counter }) (raw-close st.blocks)

-- ── of a table and a list ────────────────────────────────────────────────────
close-snoc : (xs : List RawBlock) (b : RawBlock) → raw_close_last (xs ++ (b ∷ [])) ≡ xs ++ (raw_closed b ∷ [])
close-snoc [] b = refl
close-snoc (x ∷ []) b = refl
close-snoc (x ∷ y ∷ xs) b = ap (λ (l : List RawBlock). x ∷ l) (close-snoc (y ∷ xs) b)

last_snoc : (xs : List Step) (x : Step) → last_destination (xs ++ (x ∷ [])) ≡ some x.dest
last_snoc [] x = refl
last_snoc (a ∷ []) x = refl
last_snoc (a ∷ b ∷ xs) x = last_snoc (b ∷ xs) x

module _ (t : List ℕ) (k : ℕ) (there : k < length t) where
  abbrev w : ℕ
  w = get_or t k 0

  before : (j : ℕ) → j < k → get_or (grown t k) j 0 ≡ get_or t j 0
  before j h = get_or-set_other t k j (w + 1024) 0 (λ e. omega arith)

  start_until : (j : ℕ) → j ≤ k → start_of (grown t k) j ≡ start_of t j
  unfolding start_of
  start_until zero h = refl
  start_until (suc j) h = rw (start_until j (omega arith), before j (omega arith))

  -- one step more
  pub grown-start : start_of (grown t k) (suc k) ≡ suc (start_of t (suc k))
  unfolding start_of
  grown-start = rw (start_until k (omega arith), get_or-set_same t k (w + 1024) 0 there) (omega arith)

  module _ (some-step : 1 ≤ steps_in w) where
    last-is : (l : List ℕ) → last_destination (records_from l (start_of t k) (steps_in w)) ≡ some (step_at l (step_size * (start_of t (suc k) - 1))).dest
    last-is l =
        let p = steps_in w - 1 in
        let z : steps_in w ≡ suc p = omega arith in
        let y : start_of t k + p ≡ start_of t (suc k) - 1 = omega (arith, start-next t k) in
        rw z (ap last_destination (records-more l (start_of t k) p) ∙ last_snoc (records_from l (start_of t k) p) (step_at l (step_size * (start_of t k + p))) ∙ rw y)

    -- how many steps there are with the product, whatever the list
    pub closed-count : (l : List ℕ) → length (every (raw_close_last (raw_blocks t l (suc k)))) ≡ suc (length (every (raw_blocks t l (suc k))))
    unfolding first
    closed-count l =
        ap (λ (z : List RawBlock). length (every z)) (close-snoc (raw_blocks t l k) (raw_block_at t l k))
        ∙ rw (last-is l) (count (raw_blocks t l k))
      where
        r : Reference
        r = (step_at l (step_size * (start_of t (suc k) - 1))).dest

        b : RawBlock
        b = raw_block_at t l k

        count : (xs : List RawBlock) → length (every (xs ++ (record { expression = b.expression; row = b.row; records = b.records ++ (closing_step r ∷ []) } ∷ []))) ≡ suc (length (every (xs ++ (b ∷ []))))
        count [] = rw (length-append (b.records ++ (closing_step r ∷ [])) [], length-append b.records (closing_step r ∷ []), length-append b.records []) (omega arith)
        count (x ∷ xs) =
            rw (length-append x.records (every (xs ++ (record { expression = b.expression; row = b.row; records = b.records ++ (closing_step r ∷ []) } ∷ []))), length-append x.records (every (xs ++ (b ∷ []))), count xs)
            (omega arith)

    -- A STEP PUT AFTER THE OTHERS, and the last block's word grown, is the closing product
    module _ (l : List ℕ) (room : step_size * (start_of t (suc k) + 1) ≤ length l) where
      abbrev end : ℕ
      end = start_of t (suc k)

      abbrev product : Step
      product = closing_step (step_at l (step_size * (end - 1))).dest

      abbrev L : List ℕ
      L = closed_list l end

      kept : (i : ℕ) → i < end → step_at L (step_size * i) ≡ step_at l (step_size * i)
      unfolding closed_list
      kept i h = step_kept l (step_size * end) (step_bytes product) (step_size * i) (inl (omega arith))

      put : step_at L (step_size * end) ≡ product
      unfolding closed_list
      put = step-read l (step_size * end) product (omega arith)

      own : raw_block_at (grown t k) L k ≡ raw_closed (raw_block_at t l k)
      own =
          let c : (w + 1024) % 1024 ≡ w % 1024 = omega arith in
          let s : (w + 1024) / 1024 ≡ suc (w / 1024) = omega arith in
          let q : records_from L (start_of t k) (steps_in w) ≡ records_from l (start_of t k) (steps_in w)
          = records-same l L (start_of t k) (start_of t k) (steps_in w) (λ i u. kept (start_of t k + i) (omega (arith, start-next t k))) in
          rw (get_or-set_same t k (w + 1024) 0 there, c, s, start_until k (omega arith), records-more L (start_of t k) (steps_in w), q, ← start-next t k, put, last-is l)

      pub closed-put : raw_close_last (raw_blocks t l (suc k)) ≡ raw_blocks (grown t k) L (suc k)
      unfolding first
      closed-put =
          close-snoc (raw_blocks t l k) (raw_block_at t l k)
          ∙ rw (← own) (ap (λ (z : List RawBlock). z ++ (raw_block_at (grown t k) L k ∷ [])) (sym (blocks-same t (grown t k) k before l L (λ i h. kept i (omega (arith, start-le t k (suc k) (omega arith)))))))
