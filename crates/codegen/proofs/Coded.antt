-- Blocks committed, in terms of numbers that were read from the context.
-- Assumes nothing.
use Prim.Native.Nat.{ℕ, suc, ◌+◌, ◌*◌, ◌-◌, ◌/◌, ◌%◌, ◌<◌, ◌≤◌}
use mathlib.Core.Path.{◌≡◌, sym, ◌∙◌, ap}
use mathlib.Core.Bool.{true, false}
use mathlib.Core.List.{List}
use native.Mathlib.Omega.{arith}
use lib.ListN.{length, get_or, set}
use Rattle.meaning.specs.Refusals.{◌then◌}
use Rattle.meaning.specs.Order.{Job}
use Rattle.kinds.specs.Write.{write, write-length}
use Rattle.kinds.specs.Steps.{step_size}
use Rattle.kinds.specs.declared.reference.Reference.{Reference}
use Rattle.frames.specs.Packing.{first-length}
use Rattle.starkinfo_codegen.specs.Encoding.{encoded}
use Rattle.starkinfo_codegen.specs.Emitting.{Rest}
use Rattle.starkinfo_codegen.specs.Ordering.{cell_of, marks_of}
use Rattle.requests.specs.Making.{steps_from, SizeIs, Room}
use Rattle.requests.specs.Placing.{block_words, PlaceAsks}
use Rattle.builds.specs.Raw.{start_of}
use Rattle.builds.specs.Results.{find_block, inserted}
use Rattle.std.specs.Prelude as code
use Rattle.context.specs.Context.{blocks_at, marks_at, cells, context_size}
use Rattle.context.specs.Tables.{counter_bytes, with_counters, with_marks, with_blocks, Read16, MarksAsk, CountersAsk, StoreAsks}
use Rattle.context.specs.Held.{stored_in}
use Rattle.codegen.specs.Written.{mark_byte, mark_bytes, fits, fitting}
use Rattle.codegen.specs.Committing.{step_bound, CommitAsks, Tells, copied, StoreAsked, PutAsked}
use Rattle.std.specs.Prelude.{Ok}
use Rattle.kinds.specs.Answers.{refusing}
use Rattle.kinds.specs.declared.refusal.Refusal.TheVariants as refusal
use Rattle.codegen.proofs.Commits.{G, B, at, T, t', after}
use Rattle.codegen.proofs.Ends.{fits_all_lem, plain-full, place-asks, make-room, plain-store, plain_done, no-block, result-full, put-asked, result-store, result-done}

-- ── what is stored ───────────────────────────────────────────────────────────
module _ {x s t : List ℕ} {blocks steps temporaries : ℕ} (a : StoreAsked x s t blocks steps temporaries) where
  pub counters-ask : CountersAsk x blocks steps temporaries
  counters-ask = record { size = a.size; blocks16 = omega (arith, a.few); steps16 = a.steps16; temporaries16 = a.temporaries16 }

  module _ {x₁ s₁ : List ℕ} (h : x₁ ≡ with_counters x blocks steps temporaries) (g : s₁ ≡ mark_bytes (marks_of s)) where
    marks-size : length s₁ ≡ cells
    unfolding mark_bytes
    marks-size = ap length g ∙ first-length (mark_byte (marks_of s)) cells

    counted-size : length x₁ ≡ context_size
    counted-size = ap length h ∙ write-length x blocks_at (counter_bytes blocks steps temporaries) ∙ a.size

    pub marks-ask : MarksAsk x₁ s₁
    marks-ask = record { size = counted-size; full = marks-size }

    module _ {x₂ : List ℕ} (e : x₂ ≡ with_marks x₁ s₁) where
      pub blocks-ask : StoreAsks x₂ t 0 blocks
      blocks-ask = record { size = ap length e ∙ write-length x₁ marks_at s₁ ∙ counted-size; full = a.words; forward = omega arith; few = a.few; steps16 = λ k l g. a.each16 k g }

      pub stored : {x₃ : List ℕ} → x₃ ≡ with_blocks x₂ t 0 blocks → x₃ ≡ stored_in x (mark_bytes (marks_of s)) t 0 blocks steps temporaries
      stored q = q ∙ rw (e, g, h)

-- a cell is that of some expression at some row
pub row_low : (c : ℕ) → c % 2 < 2
row_low c = omega arith

pub cell-split : (c : ℕ) → c ≡ cell_of (c / 2) (c % 2)
cell-split c = omega arith

-- ── committed ────────────────────────────────────────────────────────────────
module _ {w xs : List ℕ} {b : Rest} {js : List Job} {j s t x l : List ℕ} {n : ℕ} (a : CommitAsks w xs b js j s t x l n) {v : ℕ} (z : SizeIs w xs b js n v) {bk ak tk : ℕ} (rb : Read16 (B a) bk) (ra : Read16 (at a) ak) (rt : Read16 (T a) tk) where
  pub sizes : (n ≤ v) × (ak + v + 1 ≤ step_bound) × (tk + v ≤ step_bound) × (bk + n ≤ cells)
  sizes = (z.some, omega (arith, ra.small, z.small, a.room), omega (arith, rt.small, z.small, a.room), omega (arith, rb.is, a.room))

  pub code-place : PlaceAsks w xs b js j t n bk
  code-place = rw rb.is (place-asks a z)

  pub code-room : step_size * (ak + v) ≤ length l → tk + (v - n) < 65536 → Room w xs b js ak tk (length l)
  code-room h g = rw (ra.is, rt.is) (make-room a z (rw ra.is at h) (rw rt.is at g))

  -- without a result
  pub code-full : fits (length l) (ak + v) (tk + (v - n)) ≡ false → Tells (fitting (length l) (after a)) x l x l (refusing refusal.Full)
  code-full h = plain-full a z (rw (ra.is, rt.is) at h)

  module _ (h : fits (length l) (ak + v) (tk + (v - n)) ≡ true) {t₁ : List ℕ} (e : t₁ ≡ write t bk (block_words (G a) js)) where
    pub plain-room : Room w xs b js ak tk (length l)
    plain-room = let f = fits_all_lem (length l) (ak + v) (tk + (v - n)) h in code-room f.list f.counter16

    pub code-store : StoreAsked x s t₁ (bk + n) (ak + v) (tk + (v - n))
    code-store = rw (e, rb.is, ra.is, rt.is) (plain-store a z (rw (ra.is, rt.is) at h))

    pub code-done :
        {x' l' : List ℕ} → l' ≡ write l (step_size * ak) (encoded (steps_from (G a) js tk)) →
        x' ≡ stored_in x (mark_bytes (marks_of s)) t₁ 0 (bk + n) (ak + v) (tk + (v - n)) → Tells (fitting (length l) (after a)) x l x' l' (Ok tt)
    code-done p q = plain_done a z (rw (ra.is, rt.is) at h) (rw (ra.is, rt.is) at p) (rw (e, rb.is, ra.is, rt.is) at q)

  -- with a result
  module _ {t₁ : List ℕ} (u : t₁ ≡ write t bk (block_words (G a) js)) (e row : ℕ) (d : Reference) (low : row < 2) {cell : ℕ} (is : cell ≡ cell_of e row) {f : code.Option ℕ} (g : f ≡ find_block t₁ (bk + n) cell) where
    find-is : find_block t₁ (bk + n) cell ≡ find_block (t' a) (B a + n) cell
    find-is = rw (u, rb.is)

    pub code-nothing : f ≡ code.None → Tells (copied e row d (after a) then fitting (length l)) x l x l (refusing refusal.NoBlock)
    code-nothing h = no-block a z e row d low is (sym find-is ∙ sym g ∙ h)

    module _ {k : ℕ} (h : f ≡ code.Some k) where
      there : find_block (t' a) (B a + n) cell ≡ code.Some k
      there = sym find-is ∙ sym g ∙ h

      pub code-over : fits (length l) (ak + v + 1) (tk + (v - n)) ≡ false → Tells (copied e row d (after a) then fitting (length l)) x l x l (refusing refusal.Full)
      code-over o = result-full a z e row d low is there (rw (ra.is, rt.is) at o)

      module _ (o : fits (length l) (ak + v + 1) (tk + (v - n)) ≡ true) where
        pub result-room : Room w xs b js ak tk (length l)
        result-room = let c = fits_all_lem (length l) (ak + v + 1) (tk + (v - n)) o in code-room (omega (arith, c.list)) c.counter16

        pub code_put : {l₁ : List ℕ} → l₁ ≡ write l (step_size * ak) (encoded (steps_from (G a) js tk)) → PutAsked t₁ l₁ k (ak + v)
        code_put p = rw (p, u, rb.is, ra.is, rt.is) (put-asked a z e row d low is there (rw (ra.is, rt.is) at o))

        pub code-stored : {t₂ : List ℕ} → t₂ ≡ set t₁ k (get_or t₁ k 0 + 1024) → StoreAsked x s t₂ (bk + n) (ak + v + 1) (tk + (v - n))
        code-stored q = rw (q, u, rb.is, ra.is, rt.is) (result-store a z e row d low is there (rw (ra.is, rt.is) at o))

        pub code-copied :
            {l₁ t₂ x' l' : List ℕ} → l₁ ≡ write l (step_size * ak) (encoded (steps_from (G a) js tk)) → t₂ ≡ set t₁ k (get_or t₁ k 0 + 1024) →
            l' ≡ inserted l₁ (start_of t₁ (suc k)) (ak + v) d → x' ≡ stored_in x (mark_bytes (marks_of s)) t₂ 0 (bk + n) (ak + v + 1) (tk + (v - n)) →
            Tells (copied e row d (after a) then fitting (length l)) x l x' l' (Ok tt)
        code-copied p q m y =
            result-done a z e row d low is there (rw (ra.is, rt.is) at o) (rw (p, u, rb.is, ra.is, rt.is) at m) (rw (q, u, rb.is, ra.is, rt.is) at y)
