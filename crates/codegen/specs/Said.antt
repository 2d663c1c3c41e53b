-- WHAT A CONTEXT AND ITS LIST SAY: marks, blocks of raw records, the counter. Requests are served over it, and built from it, in the words of `meaning`.
-- Where it is a context of `meaning` with its steps as records, so is what serving and building give.
-- Assumes nothing.
use Rattle.std.specs.Prelude.{ℕ, ◌≡◌, refl, ◌&&◌, ◌||◌, List, [], ◌++◌, ltb}
use Rattle.std.proofs.Common.{sym, ◌∙◌, ap, append_assoc, append-nil}
use Rattle.std.proofs.Math.Option.{Option, none, some}
use Rattle.meaning.specs.Refusals.{Refusal, Answer, done, refused}
use Rattle.meaning.specs.Trees.{Forest, nth}
use Rattle.meaning.specs.Steps.{Cell, Ref}
use Rattle.meaning.specs.Order.{Marks, Asked}
use Rattle.meaning.specs.Generation.{Block, State, Result, result, Request, Made, make, serve_all}
use Rattle.meaning.specs.Generation as meaning
use Rattle.meaning.specs.Building.{flagged, released, after_build, segment}
use Rattle.meaning.specs.Asking.{make-append}
use Rattle.meaning.specs.Holding.{Holding, Lawful, Carries, mapped, serve_all_on, states, all_carried, serve_all-on}
use Rattle.starkinfo_codegen.specs.Encoding.{ref_of}
use Rattle.starkinfo_codegen.specs.Ordering.{marks_of}
use Rattle.builds.specs.Raw.{RawBlock, RawSegment, raw_blocks, copy_into, raw_segment}
use Rattle.builds.specs.RawOf.{raw_of, raw_answer, raw_lists, raw-append, raw-copy, raw-segment}
use Rattle.context.specs.Context.{blocks_in, temporaries_in}
use Rattle.context.specs.Tables.{marks_in, words_in}

pub record Said : Type 0 where
  pub marks : Marks
  pub blocks : List RawBlock
  pub counter : ℕ

-- the bytes x of a context, beside a list l
abbrev pub said : List ℕ → List ℕ → Said
said x l = record { marks = marks_of (marks_in x); blocks = raw_blocks (words_in x (blocks_in x)) l (blocks_in x); counter = temporaries_in x }

-- ── requests ─────────────────────────────────────────────────────────────────
abbrev pub adding : Forest → Asked → Said → Said
adding E a st =
    let x = make E a.jobs st.counter in
    record { marks = a.marks; blocks = st.blocks ++ raw_of x.blocks; counter = x.counter }

abbrev pub with_blocks : Said → Option (List RawBlock) → Answer Said
with_blocks st none = refused Refusal.no_block none
with_blocks st (some bs) = done (record { marks = st.marks; blocks = bs; counter = st.counter })

abbrev pub copying : ℕ → ℕ → Result → Said → Answer Said
copying e r (result k i) st = with_blocks st (copy_into e r (ref_of (Ref.var (Cell.cell k i r))) st.blocks)

abbrev pub sayings : Forest → Holding
sayings E = record { S = Said; marks = λ st. st.marks; add = λ a st. adding E a st; copy = copying }

-- REQUESTS SERVED over what bytes say
abbrev pub serve_said : Forest → List Request → Said → Answer Said
serve_said E qs st = serve_all_on 2 E (sayings E) qs st

-- ── builds ───────────────────────────────────────────────────────────────────
abbrev pub segment_said : Forest → Said → RawSegment
segment_said E st = raw_segment (λ e. flagged (nth E e)) st.blocks

abbrev pub after_said : Forest → Said → Said
after_said E st = record { marks = λ e r. st.marks e r || (released (nth E e) && ltb r 2); blocks = []; counter = st.counter }

-- ── laws ─────────────────────────────────────────────────────────────────────
pub sayings_lawful : (E : Forest) → Lawful (sayings E)
sayings_lawful E = record {
  marked = λ a st. refl;
  none = λ st. ap (λ (l : List RawBlock). record { marks = st.marks; blocks = l; counter = st.counter }) (append-nil st.blocks);
  both = λ a b st.
      let x = make E a.jobs st.counter in
      let y = make E b.jobs x.counter in
      ap (λ (l : List RawBlock). record { marks = b.marks; blocks = l; counter = y.counter })
      (append_assoc st.blocks (raw_of x.blocks) (raw_of y.blocks) ∙ ap (λ (l : List RawBlock). st.blocks ++ l) (sym (raw-append x.blocks y.blocks)))
      ∙ ap (λ (z : Made). record { marks = b.marks; blocks = st.blocks ++ raw_of z.blocks; counter = z.counter }) (sym (make-append E a.jobs b.jobs st.counter));
}

-- a context of `meaning`, its steps as records
abbrev pub said_of : State → Said
said_of st = record { marks = st.marks; blocks = raw_of st.blocks; counter = st.counter }

said_carries : (E : Forest) → Carries (states E) (sayings E) said_of
said_carries E = record {
  marks = λ st. refl;
  add = λ a st.
      let x = make E a.jobs st.counter in
      ap (λ (l : List RawBlock). record { marks = a.marks; blocks = l; counter = x.counter }) (sym (raw-append st.blocks x.blocks));
  copy = copied;
}
  where
    with : (st : State) (o : Option (List Block)) → with_blocks (said_of st) (raw_answer o) ≡ mapped said_of (meaning.with_blocks st o)
    with st none = refl
    with st (some bs) = refl

    copied : (e r : ℕ) (x : Result) (st : State) → copying e r x (said_of st) ≡ mapped said_of ((states E).copy e r x st)
    copied e r (result k i) st =
        ap (with_blocks (said_of st)) (raw-copy e r (Ref.var (Cell.cell k i r)) st.blocks) ∙ with st (meaning.copy_into e r (Ref.var (Cell.cell k i r)) st.blocks)

-- SERVING, of a context of `meaning`
pub serve-said : (E : Forest) (qs : List Request) (st : State) → serve_said E qs (said_of st) ≡ mapped said_of (serve_all 2 E qs st)
serve-said E qs st = all_carried 2 E (states E) (sayings E) said_of (said_carries E) qs st ∙ ap (mapped said_of) (serve_all-on 2 E qs st)

-- BUILDING, of a context of `meaning`
pub segment-said : (E : Forest) (st : State) → segment_said E (said_of st) ≡ raw_lists (segment E st)
segment-said E st = raw-segment E st

pub after-said : (E : Forest) (st : State) → after_said E (said_of st) ≡ said_of (after_build 2 E st)
after-said E st = refl
