-- Blocks of `meaning` as raw blocks, their steps as records: each definition of raw blocks gives the records of what `meaning`'s gives.
-- Assumes nothing.
use Rattle.std.specs.Prelude.{ℕ, suc, ◌≡◌, refl, Bool, true, false, ◌&&◌, cond, List, [], ◌∷◌, ◌++◌}
use Rattle.std.proofs.Common.{sym, ap}
use Rattle.std.proofs.Math.Option.{Option, none, some}
use Rattle.meaning.specs.Trees.{Forest, nth}
use Rattle.meaning.specs.Steps as typed
use Rattle.meaning.specs.Generation as meaning
use Rattle.meaning.specs.Generation.{Block, State, onto, before}
use Rattle.meaning.specs.Building as building
use Rattle.meaning.specs.Building.{Segment, segment, flagged}
use Rattle.kinds.specs.declared.reference.Reference.{Reference}
use Rattle.kinds.specs.declared.step.Step.{Step}
use Rattle.starkinfo_codegen.specs.Encoding.{ref_of, records, records-append}
use Rattle.builds.specs.Raw.{RawBlock, RawSegment, last_destination, copied, copy_into, standing, in_e, every, linear, plain, raw_segment}

abbrev pub raw_block : Block → RawBlock
raw_block b = record { expression = b.expression; row = b.row; records = records b.steps }

abbrev pub raw_of : List Block → List RawBlock
raw_of [] = []
raw_of (b ∷ bs) = raw_block b ∷ raw_of bs

pub raw-append : (bs cs : List Block) → raw_of (bs ++ cs) ≡ raw_of bs ++ raw_of cs
raw-append [] cs = refl
raw-append (b ∷ bs) cs = ap (λ (l : List RawBlock). raw_block b ∷ l) (raw-append bs cs)

abbrev pub raw_answer : Option (List Block) → Option (List RawBlock)
raw_answer none = none
raw_answer (some bs) = some (raw_of bs)

abbrev pub raw_lists : Segment → RawSegment
raw_lists s = record { first = records s.first; i = records s.i; last = records s.last }

-- ── the lists of a build ─────────────────────────────────────────────────────
pub raw-standing : (e r : ℕ) (bs : List Block) → standing e r (raw_of bs) ≡ building.standing e r bs
raw-standing e r [] = refl
raw-standing e r (b ∷ bs) = rw (raw-standing e r bs)

pub raw-in_e : (E : Forest) (bs : List Block) (e : ℕ) → in_e (λ n. flagged (nth E n)) (raw_of bs) e ≡ building.in_e E bs e
raw-in_e E bs e = rw (raw-standing e 0 bs, raw-standing e 1 bs)

pub raw-every : (bs : List Block) → every (raw_of bs) ≡ records (building.every bs)
unfolding records
raw-every [] = refl
raw-every (b ∷ bs) = rw (raw-every bs) (sym (records-append b.steps (building.every bs)))

pub raw-linear :
    (s : ℕ → RawBlock → Bool) (s' : ℕ → Block → Bool) → ((n : ℕ) (b : Block) → s n (raw_block b) ≡ s' n b) →
    (n : ℕ) (bs : List Block) → linear s n (raw_of bs) ≡ records (building.linear s' n bs)
unfolding records
raw-linear s s' h n [] = refl
raw-linear s s' h n (b ∷ bs) = rw (h n b, raw-linear s s' h (suc n) bs) (go (s' n b))
  where
    go :
        (v : Bool) →
        cond v (records (building.linear s' (suc n) bs)) (records b.steps ++ records (building.linear s' (suc n) bs))
        ≡ records (cond v (building.linear s' (suc n) bs) (b.steps ++ building.linear s' (suc n) bs))
    go true = refl
    go false = sym (records-append b.steps (building.linear s' (suc n) bs))

-- THE LISTS OF RAW BLOCKS are the records of those of blocks
pub raw-segment : (E : Forest) (st : State) → raw_segment (λ n. flagged (nth E n)) (raw_of st.blocks) ≡ raw_lists (segment E st)
raw-segment E st =
    let bs = st.blocks in
    cc (
      raw-every bs,
      raw-linear (λ n b. in_e (λ k. flagged (nth E k)) (raw_of bs) n && plain b) (λ n b. building.in_e E bs n && building.plain b) (λ n b. rw (raw-in_e E bs n)) 0 bs,
      raw-linear (λ n b. in_e (λ k. flagged (nth E k)) (raw_of bs) n) (λ n b. building.in_e E bs n) (λ n b. raw-in_e E bs n) 0 bs,
    )

-- ── result copies ────────────────────────────────────────────────────────────
abbrev raw_ref : Option typed.Ref → Option Reference
raw_ref none = none
raw_ref (some r) = some (ref_of r)

raw-last : (ss : List typed.Step) → last_destination (records ss) ≡ raw_ref (meaning.last_destination ss)
unfolding records
raw-last [] = refl
raw-last (x ∷ []) = refl
raw-last (x ∷ y ∷ ys) = raw-last (y ∷ ys)

-- A RESULT'S COPY into raw blocks is the record of that into blocks
pub raw-copy : (e r : ℕ) (d : typed.Ref) (bs : List Block) → copy_into e r (ref_of d) (raw_of bs) ≡ raw_answer (meaning.copy_into e r d bs)
unfolding records
raw-copy e r d [] = refl
raw-copy e r d (b ∷ bs) = rw (raw-last b.steps, raw-copy e r d bs) (go (meaning.is_block e r b) (meaning.last_destination b.steps) (meaning.copy_into e r d bs))
  where
    into : (o : Option typed.Ref) → before (copied (raw_block b) (ref_of d) (raw_ref o)) (raw_of bs) ≡ raw_answer (before (meaning.copied b d o) bs)
    into none = refl
    into (some q) = ap (λ (l : List Step). some (record { expression = b.expression; row = b.row; records = l } ∷ raw_of bs)) (sym (records-append b.steps (typed.step typed.StepOp.copy d (q ∷ []) ∷ [])))

    past : (o : Option (List Block)) → onto (raw_block b) (raw_answer o) ≡ raw_answer (onto b o)
    past none = refl
    past (some l) = refl

    go :
        (v : Bool) (o : Option typed.Ref) (p : Option (List Block)) →
        cond v (before (copied (raw_block b) (ref_of d) (raw_ref o)) (raw_of bs)) (onto (raw_block b) (raw_answer p))
        ≡ raw_answer (cond v (before (meaning.copied b d o) bs) (onto b p))
    go true o p = into o
    go false o p = past p
