-- A list measured and written, in terms of numbers that were read from the context.
-- Assumes nothing.
use Prim.Native.Nat.{ℕ, ◌+◌, ◌*◌, ◌-◌, ◌≤◌}
use mathlib.Core.Path.{◌≡◌, sym, ◌∙◌}
use mathlib.Core.Bool.{Bool, true, false}
use mathlib.Core.List.{List}
use native.Mathlib.Omega.{arith}
use lib.ListN.{length}
use Rattle.std.specs.Prelude.{None}
use Rattle.meaning.specs.Order.{Job}
use Rattle.meaning.proofs.Laws.Tests.{and_left}
use Rattle.kinds.specs.Write.{write}
use Rattle.kinds.specs.Steps.{step_size}
use Rattle.starkinfo_codegen.specs.Encoding.{encoded}
use Rattle.starkinfo_codegen.specs.Emitting.{Rest}
use Rattle.starkinfo_codegen.specs.Ordering.{marks_of}
use Rattle.requests.specs.Making.{steps_from, SizeIs, Room, E}
use Rattle.requests.specs.Placing.{block_words}
use Rattle.builds.specs.Marking.{release}
use Rattle.context.specs.Context.{cells, blocks_in, steps_in as count_in, temporaries_in}
use Rattle.context.specs.Tables.{Read16}
use Rattle.context.specs.Held.{stored_in}
use Rattle.codegen.specs.Said.{segment_said}
use Rattle.codegen.specs.Written.{mark_bytes, step_count, fits}
use Rattle.codegen.specs.Committing.{step_bound, StoreAsked}
use Rattle.codegen.specs.Building.{Lists, fits_all, lists_with}
use Rattle.codegen.proofs.Coded.{code-room}
use Rattle.codegen.proofs.Ends.{Fitting, fits_all_lem}
use Rattle.constraint_lists.specs.Lists.{Written}
use Rattle.constraint_lists.specs.Measuring.{Measured, closed_words, closed_more, CloseWordsAsks, final_said, RoomsAsk, segment_in, RoomsGiven, MeasureAsks, Measures}
use Rattle.constraint_lists.specs.Writing.{closed_bytes, CloseListAsks, CopiesAsk, WriteAsks}
use Rattle.constraint_lists.proofs.Finals.{more-few}
use Rattle.constraint_lists.proofs.Rooms as rooms

-- ── measured ─────────────────────────────────────────────────────────────────
module _ {w xs : List ℕ} {b : Rest} {js : List Job} {j s t x l : List ℕ} {m n : ℕ} (p : MeasureAsks w xs b js j s t x l m n) {v : ℕ} (z : SizeIs w xs b js n v) (closes : Bool) {bk ak tk : ℕ} (rb : Read16 (blocks_in x) bk) (ra : Read16 (count_in x) ak) (rt : Read16 (temporaries_in x) tk) where
  pub sums : (n ≤ v) × (ak + v + 1 ≤ step_bound) × (tk + v ≤ step_bound) × (bk + n ≤ cells)
  sums =
      (z.some, omega (arith, ra.small, z.small, p.commit.room), omega (arith, rt.small, z.small, p.commit.room), omega (arith, rb.is, p.commit.room))

  module _ {mo : ℕ} (rm : mo ≡ closed_more closes (bk + n)) where
    pub one_more : mo ≤ 1
    one_more = omega (arith, rm, more-few closes (bk + n))

    fits-is : fits (length l) (ak + v + mo) (tk + (v - n)) ≡ fits (length l) (count_in x + v + closed_more closes (blocks_in x + n)) (temporaries_in x + (v - n))
    fits-is = rw (rm, rb.is, ra.is, rt.is)

    pub code-full : (o : Lists) (t₁ : List ℕ) → fits (length l) (ak + v + mo) (tk + (v - n)) ≡ false → Measures (E w xs b) js closes s t t₁ x l o n None
    code-full o t₁ h = rooms.no_room p z closes o t₁ (sym fits-is ∙ h)

    module _ (h : fits (length l) (ak + v + mo) (tk + (v - n)) ≡ true) {t₁ : List ℕ} (e₁ : t₁ ≡ write t bk (block_words (E w xs b) js)) where
      pub code-close : CloseWordsAsks t₁ (bk + n)
      code-close = rw (e₁, rb.is) (rooms.words-few p z closes (sym fits-is ∙ h))

      module _ {t₂ : List ℕ} (e₂ : t₂ ≡ closed_words closes t₁ (bk + n)) where
        words_are : t₂ ≡ closed_words closes (write t (blocks_in x) (block_words (E w xs b) js)) (blocks_in x + n)
        words_are = e₂ ∙ rw (e₁, rb.is)

        pub code-rooms : RoomsAsk t₂ (bk + n) m (ak + v + mo)
        code-rooms = rw (words_are, rm, rb.is, ra.is) (rooms.rooms-ask p z closes (sym fits-is ∙ h))

        pub code_measured : (o : Lists) (r : Measured) → RoomsGiven xs t₂ o (bk + n) m r → Measures (E w xs b) js closes s t t₂ x l o n r
        code_measured o r g = rooms.all_measured p z closes (sym fits-is ∙ h) o t₂ r words_are (rw (words_are, rb.is) at g)

-- ── written ──────────────────────────────────────────────────────────────────
module _ {w xs : List ℕ} {b : Rest} {js : List Job} {j s t₀ t x l : List ℕ} {o : Lists} {m n : ℕ} {closes : Bool} (q : WriteAsks w xs b js j s t₀ t x l o m n closes) {v : ℕ} (z : SizeIs w xs b js n v) {bk ak tk : ℕ} (rb : Read16 (blocks_in x) bk) (ra : Read16 (count_in x) ak) (rt : Read16 (temporaries_in x) tk) where
  abbrev p : MeasureAsks w xs b js j s t₀ x l m n
  p = q.planned

  fits-true : fits (length l) (count_in x + v + closed_more closes (blocks_in x + n)) (temporaries_in x + (v - n)) ≡ true
  fits-true =
      let st = final_said (E w xs b) js closes s x l in
      sym (rooms.fits-final p z closes) ∙ and_left (fits (length l) (step_count st) st.counter) (fits_all o (segment_said (E w xs b) st)) q.room

  fit : Fitting (length l) (count_in x + v + closed_more closes (blocks_in x + n)) (temporaries_in x + (v - n))
  fit = fits_all_lem (length l) (count_in x + v + closed_more closes (blocks_in x + n)) (temporaries_in x + (v - n)) fits-true

  pub code-make : Room w xs b js ak tk (length l)
  code-make = code-room p.commit z rb ra rt (omega (arith, ra.is, fit.list)) (omega (arith, rt.is, fit.counter16))

  module _ {l₁ : List ℕ} (e₁ : l₁ ≡ write l (step_size * ak) (encoded (steps_from (E w xs b) js tk))) where
    pub code_put : CloseListAsks l₁ (ak + v) (bk + n) closes
    code_put = rw (e₁, rb.is, ra.is, rt.is) (rooms.put-asks p z closes fits-true)

    module _ {l₂ : List ℕ} (e₂ : l₂ ≡ closed_bytes closes (bk + n) l₁ (ak + v)) where
      list-is : l₂ ≡ closed_bytes closes (blocks_in x + n) (write l (step_size * count_in x) (encoded (steps_from (E w xs b) js (temporaries_in x)))) (count_in x + v)
      list-is = e₂ ∙ rw (e₁, rb.is, ra.is, rt.is)

      pub code-copies : CopiesAsk xs t l₂ o (bk + n) m
      code-copies = rw (list-is, q.words, rb.is) (rooms.copies-ask p z closes fits-true o q.room)

      module _ {s' : List ℕ} (released : s' ≡ release xs m s) where
        pub code-store : StoreAsked x s' t 0 0 (tk + (v - n))
        code-store = rw (q.words, rt.is) (rooms.store_asks p z closes fits-true o q.room released)

        pub code-written :
            {x' : List ℕ} {o' : Lists} → o' ≡ lists_with o (segment_in xs t l₂ (bk + n) m) → x' ≡ stored_in x (mark_bytes (marks_of s')) t 0 0 0 (tk + (v - n)) →
            Written (E w xs b) x l o (final_said (E w xs b) js closes s x l) x' l₂ o'
        code-written f g =
            rooms.all-written p z closes fits-true o q.room released list-is (rw (list-is, q.words, rb.is) at f) (rw rt.is at g)
