-- A list that was planned: its steps, whether there is room for them and for the three lists, and what stands when it is written. No word of the code.
-- Assumes nothing.
use Prim.Native.Nat.{ℕ, suc, ◌+◌, ◌*◌, ◌-◌, ◌≤◌}
use mathlib.Core.Path.{◌≡◌, refl, sym, ◌∙◌, ap, subst}
use mathlib.Core.Bool.{Bool, true, false, ◌&&◌, cond}
use mathlib.Core.Option.{none}
use mathlib.Core.List.{List, [], ◌++◌}
use native.Mathlib.Omega.{arith}
use lib.ListN.{length, drop, replicate, length-append, length-replicate, length-drop}
use lib.Seq.{ext_get_or, get_or-drop}
use lib.Dec.{leb}
use borrow.Author.Tests.{leb-true}
use Rattle.std.specs.Prelude.{Some, None}
use Rattle.meaning.specs.Refusals.{Refusal, done, refused}
use Rattle.meaning.specs.Order.{Job}
use Rattle.meaning.proofs.Laws.Tests.{and_left, and_right}
use Rattle.kinds.specs.Write.{write, write-length, write-after}
use Rattle.kinds.specs.Steps.{step_size, steps_bytes, steps-length}
use Rattle.starkinfo_codegen.specs.Encoding.{encoded, encoded-length}
use Rattle.starkinfo_codegen.specs.Emitting.{Rest}
use Rattle.starkinfo_codegen.specs.Ordering.{marks_of}
use Rattle.requests.specs.Making.{steps_from, SizeIs}
use Rattle.requests.specs.Jobs.{steps-count}
use Rattle.builds.specs.Raw.{RawBlock, RawSegment, start_of, raw_blocks, raw_segment, flagged_in, every}
use Rattle.builds.specs.Starts.{start-next, start-le}
use Rattle.builds.specs.Lists.{list_in, every-is, list-few}
use Rattle.builds.specs.Flags.{flags_in, after-build}
use Rattle.builds.specs.Marking.{release, release_length}
use Rattle.builds.specs.declared.build.Which.{Which}
use Rattle.builds.specs.declared.build.Which.TheVariants as which
use Rattle.context.specs.Context.{cells}
use Rattle.context.specs.Held.{stored_in}
use Rattle.codegen.specs.Said.{Said, segment_said, after_said}
use Rattle.codegen.specs.Written.{mark_bytes, step_count, ListWith, fits, steps-with}
use Rattle.codegen.specs.Committing.{CommitAsks, StoreAsked}
use Rattle.codegen.specs.Building.{Lists, lists, fits_all, sizes, lists_with}
use Rattle.codegen.proofs.Commits.{G, B, at, T, t', after, full', added, longer-steps, some-step, sound, counter-after}
use Rattle.codegen.proofs.Ends.{Fitting, fits_all_lem, start-after}
use Rattle.constraint_lists.specs.Lists.{closed_blocks, room_for, Written}
use Rattle.constraint_lists.specs.Measuring.{Measured, closed_words, closed_more, CloseWordsAsks, final_said, measured_says, RoomsAsk, segment_in, RoomsGiven, MeasureAsks, WordsAre, Measures}
use Rattle.constraint_lists.specs.Writing.{closed_bytes, CloseListAsks, CopiesAsk}
use Rattle.constraint_lists.proofs.Finals.{words_size, bytes-size, bytes_past, Stepped, final-start, final-count, final-blocks, final-put}

-- ── the three lists ──────────────────────────────────────────────────────────
fits_by :
    (o : Lists) (s : RawSegment) (a b c : ℕ) → length s.first ≡ a → length s.i ≡ b → length s.last ≡ c →
    fits_all o s ≡ (leb (step_size * a) (length o.first) && (leb (step_size * b) (length o.i) && leb (step_size * c) (length o.last)))
unfolding fits_all
fits_by o s a b c p q r = rw (p, q, r)

first-size : (e t l : List ℕ) (n m : ℕ) → length (segment_in e t l n m).first ≡ start_of t n
first-size e t l n m = ap length (every-is t l n) ∙ steps-length l (start_of t n)

module _ (e : List ℕ) {t : List ℕ} {n m steps : ℕ} (a : RoomsAsk t n m steps) where
  pub list-small : (w : Which) {v : ℕ} → ((l : List ℕ) → v ≡ length (list_in t e l n m w)) → v ≤ 65535
  list-small w h = omega (arith, h [], list-few t e [] n m w a.blocks.expressions, a.blocks.steps)

  module _ {vi vl : ℕ} (hi : (l : List ℕ) → vi ≡ length (list_in t e l n m which.I)) (hl : (l : List ℕ) → vl ≡ length (list_in t e l n m which.Last)) (o : Lists) where
    fits-is : (l : List ℕ) → fits_all o (segment_in e t l n m) ≡ (leb (step_size * steps) (length o.first) && (leb (step_size * vi) (length o.i) && leb (step_size * vl) (length o.last)))
    fits-is l = fits_by o (segment_in e t l n m) steps vi vl (first-size e t l n m ∙ a.all) (sym (hi l)) (sym (hl l))

    full_by : ((l : List ℕ) → fits_all o (segment_in e t l n m) ≡ false) → RoomsGiven e t o n m None
    full_by h l = sym (ap (λ v. cond v (done (sizes (segment_in e t l n m))) (refused Refusal.full none)) (h l))

    module _ {r₁ : Bool} (h₁ : r₁ ≡ leb (step_size * steps) (length o.first)) where
      pub first-over : r₁ ≡ false → RoomsGiven e t o n m None
      first-over g = full_by (λ l. fits-is l ∙ rw (sym h₁ ∙ g))

      module _ (g₁ : r₁ ≡ true) {r₂ : Bool} (h₂ : r₂ ≡ leb (step_size * vi) (length o.i)) where
        pub i-over : r₂ ≡ false → RoomsGiven e t o n m None
        i-over g = full_by (λ l. fits-is l ∙ rw (sym h₁ ∙ g₁, sym h₂ ∙ g))

        module _ (g₂ : r₂ ≡ true) {r₃ : Bool} (h₃ : r₃ ≡ leb (step_size * vl) (length o.last)) where
          pub last-over : r₃ ≡ false → RoomsGiven e t o n m None
          last-over g = full_by (λ l. fits-is l ∙ rw (sym h₁ ∙ g₁, sym h₂ ∙ g₂, sym h₃ ∙ g))

          pub all_fit : r₃ ≡ true → RoomsGiven e t o n m (Some (record { first = steps; i = vi; last = vl }))
          all_fit g₃ l =
              let S = segment_in e t l n m in
              let yes : fits_all o S ≡ true = fits-is l ∙ rw (sym h₁ ∙ g₁, sym h₂ ∙ g₂, sym h₃ ∙ g₃) in
              let sz : measured_says (Some (record { first = steps; i = vi; last = vl })) ≡ done (sizes S)
              = ap (λ k. done (record { first = k; i = vi; last = vl })) (sym (first-size e t l n m ∙ a.all))
              ∙ ap (λ k. done (record { first = length S.first; i = k; last = vl })) (hi l)
              ∙ ap (λ k. done (record { first = length S.first; i = length S.i; last = k })) (hl l) in
              sz ∙ sym (ap (λ v. cond v (done (sizes S)) (refused Refusal.full none)) yes)

pub lists-copied :
    (f i t : List ℕ) {f' i' t' : List ℕ} (S : RawSegment) → f' ≡ write f 0 (steps_bytes S.first) → i' ≡ write i 0 (steps_bytes S.i) → t' ≡ write t 0 (steps_bytes S.last) →
    lists f' i' t' ≡ lists_with (lists f i t) S
lists-copied f i t S p q r = rw (p, q, r)

-- ── the steps ────────────────────────────────────────────────────────────────
module _ {w xs : List ℕ} {b : Rest} {js : List Job} {j s t x l : List ℕ} {m n : ℕ} (p : MeasureAsks w xs b js j s t x l m n) {v : ℕ} (z : SizeIs w xs b js n v) (closes : Bool) where
  abbrev a : CommitAsks w xs b js j s t x l n
  a = p.commit

  abbrev N : ℕ
  N = B a + n

  abbrev more : ℕ
  more = closed_more closes N

  abbrev steps : ℕ
  steps = at a + v + more

  abbrev counter : ℕ
  counter = T a + (v - n)

  abbrev words : List ℕ
  words = closed_words closes (t' a) N

  abbrev st : Said
  st = final_said (G a) js closes s x l

  stepped : Stepped (t' a) N
  stepped = record { few = omega (arith, full' a, a.room); each = some-step a }

  start_is : start_of (t' a) N ≡ at a + v
  start_is = start-after a z

  words-start : start_of words N ≡ steps
  words-start = final-start closes (t' a) N stepped ∙ ap (λ k. k + more) start_is

  words-full : length words ≡ cells
  words-full = words_size closes (t' a) N ∙ full' a

  -- over a list with room enough
  abbrev ample : List ℕ
  ample = l ++ replicate (step_size * (at a + v)) 0

  ample-blocks : (after a).blocks ≡ raw_blocks (t' a) (write ample (step_size * at a) (encoded (steps_from (G a) js (T a)))) N
  ample-blocks =
      added a ample (λ i h. longer-steps l (replicate (step_size * (at a + v)) 0) i (omega (arith, (sound a).in_room)))
      (omega (arith, length-append l (replicate (step_size * (at a + v)) 0), length-replicate {A = ℕ} (step_size * (at a + v)) 0, z.total))

  count-is : step_count st ≡ steps
  count-is =
      ap (λ (bs : List RawBlock). length (every (closed_blocks closes bs))) ample-blocks
      ∙ final-count closes (t' a) (write ample (step_size * at a) (encoded (steps_from (G a) js (T a)))) N stepped
      ∙ ap (λ k. k + more) start_is

  counter_is : st.counter ≡ counter
  counter_is = counter-after a z.total z.some

  pub fits-final : fits (length l) (step_count st) st.counter ≡ fits (length l) steps counter
  fits-final = rw (count-is, counter_is)

  -- 9 of the context's list
  pub no_room : (o : Lists) (t₁ : List ℕ) → fits (length l) steps counter ≡ false → Measures (G a) js closes s t t₁ x l o n None
  no_room o t₁ h = record {
    words = tt;
    says = sym (ap (λ q. cond (q && fits_all o (segment_said (G a) st)) (done (sizes (segment_said (G a) st))) (refused Refusal.full none)) (fits-final ∙ h));
  }

  -- where it has room
  module _ (h : fits (length l) steps counter ≡ true) where
    fit : Fitting (length l) steps counter
    fit = fits_all_lem (length l) steps counter h

    pub words-few : CloseWordsAsks (t' a) N
    words-few = record { few = a.room; steps = λ k g. omega (arith, start-next (t' a) k, start-le (t' a) (suc k) N g, start_is, fit.steps16) }

    pub rooms-ask : RoomsAsk words N m steps
    rooms-ask = record {
      blocks = record { few = a.room; expressions = omega (arith, p.expressions, a.jobs.world.few); steps = omega (arith, words-start, fit.steps16) };
      all = words-start;
    }

    -- the list with the blocks, and the product
    abbrev made : List ℕ
    made = write l (step_size * at a) (encoded (steps_from (G a) js (T a)))

    made-size : length made ≡ length l
    made-size = write-length l (step_size * at a) _

    abbrev closed : List ℕ
    closed = closed_bytes closes N made (at a + v)

    blocks_are : st.blocks ≡ raw_blocks words closed N
    blocks_are =
        ap (closed_blocks closes) (added a l (λ i g. refl) (omega (arith, fit.list, z.total)))
        ∙ final-blocks closes (t' a) made N stepped (omega (arith, start_is, made-size, fit.list))
        ∙ ap (λ e. raw_blocks words (closed_bytes closes N made e) N) start_is

    segment-is : segment_said (G a) st ≡ segment_in xs words closed N m
    segment-is =
        ap (λ (f : ℕ → Bool). raw_segment f st.blocks) (flags_in w b)
        ∙ ap (λ (y : List ℕ). raw_segment (flagged_in y b.expression_count) st.blocks) a.jobs.world.roots
        ∙ ap (λ k. raw_segment (flagged_in xs k) st.blocks) (sym p.expressions)
        ∙ ap (raw_segment (flagged_in xs m)) blocks_are

    room-is : (o : Lists) → room_for (G a) (length l) o st ≡ fits_all o (segment_in xs words closed N m)
    room-is o = ap (λ q. q && fits_all o (segment_said (G a) st)) (fits-final ∙ h) ∙ ap (fits_all o) segment-is

    pub all_measured :
        (o : Lists) (t₁ : List ℕ) (r : Measured) → t₁ ≡ words → RoomsGiven xs words o N m r → Measures (G a) js closes s t t₁ x l o n r
    all_measured o t₁ r e g = record {
      words = words_are r;
      says =
          g closed
          ∙ sym (ap (λ q. cond q (done (sizes (segment_said (G a) st))) (refused Refusal.full none)) (room-is o)
          ∙ ap (λ (S : RawSegment). cond (fits_all o (segment_in xs words closed N m)) (done (sizes S)) (refused Refusal.full none)) segment-is);
    }
      where
        words_are : (r : Measured) → WordsAre r t₁ words
        words_are None = tt
        words_are (Some z) = e

    -- ── written ────────────────────────────────────────────────────────────────
    pub put-asks : CloseListAsks made (at a + v) N closes
    put-asks = final-put closes (t' a) made N (at a + v) stepped start_is (omega (arith, made-size, fit.list)) (omega (arith, fit.steps16))

    closed-size : length closed ≡ length l
    closed-size = bytes-size closes N made (at a + v) ∙ made-size

    module _ (o : Lists) (room : room_for (G a) (length l) o st ≡ true) where
      fits-lists : fits_all o (segment_in xs words closed N m) ≡ true
      fits-lists = sym (room-is o) ∙ room

      pub record Fits3 : Type 0 where
        pub first : step_size * length (segment_in xs words closed N m).first ≤ length o.first
        pub i : step_size * length (segment_in xs words closed N m).i ≤ length o.i
        pub last : step_size * length (segment_in xs words closed N m).last ≤ length o.last

      fits3 : Fits3
      unfolding fits_all
      fits3 =
          let S = segment_in xs words closed N m in
          let u = leb (step_size * length S.first) (length o.first) in
          let y = leb (step_size * length S.i) (length o.i) in
          let q = leb (step_size * length S.last) (length o.last) in
          record {
            first = leb-true (step_size * length S.first) (length o.first) (and_left u (y && q) fits-lists);
            i = leb-true (step_size * length S.i) (length o.i) (and_left y q (and_right u (y && q) fits-lists));
            last = leb-true (step_size * length S.last) (length o.last) (and_right y q (and_right u (y && q) fits-lists));
          }

      pub copies-ask : CopiesAsk xs words closed o N m
      copies-ask =
          let there : step_size * start_of words N ≤ length closed = omega (arith, words-start, closed-size, fit.list) in
          record {
            first = record { blocks = rooms-ask.blocks; there = there; fits = fits3.first };
            i = record { blocks = rooms-ask.blocks; there = there; fits = fits3.i };
            last = record { blocks = rooms-ask.blocks; there = there; fits = fits3.last };
          }

      module _ {s' : List ℕ} (released : s' ≡ release xs m s) where
        pub store_asks : StoreAsked x s' words 0 0 counter
        store_asks = record {
          size = a.good.head.size;
          marks = ap length released ∙ release_length xs m s ∙ a.marks;
          words = words-full;
          few = omega arith;
          steps16 = omega arith;
          temporaries16 = fit.counter16;
          each16 = λ k g. absurd (omega arith);
        }

        marks_are : marks_of (release xs m s) ≡ (after_said (G a) st).marks
        marks_are =
            ap (λ k. marks_of (release xs k s)) p.expressions
            ∙ ap (λ (y : List ℕ). marks_of (release y b.expression_count s)) (sym a.jobs.world.roots)
            ∙ after-build w b s a.marks a.jobs.world.few (record { marks = marks_of s; blocks = []; counter = 0 }) refl

        pub all-written :
            {x' l' : List ℕ} {o' : Lists} → l' ≡ closed → o' ≡ lists_with o (segment_in xs words closed N m) → x' ≡ stored_in x (mark_bytes (marks_of s')) words 0 0 0 counter →
            Written (G a) x l o st x' l' o'
        all-written {x'} {l'} {o'} e f q =
            let few : N ≤ length words = omega (arith, words-full, a.room) in
            let S : Said = record { marks = marks_of s; blocks = raw_blocks words closed N; counter = counter } in
            let same : st ≡ S
            = ap (λ (bs : List RawBlock). record { marks = marks_of s; blocks = bs; counter = st.counter }) blocks_are
            ∙ ap (λ c. record { marks = marks_of s; blocks = raw_blocks words closed N; counter = c }) counter_is in
            let past : drop (step_size * start_of words N) closed ≡ drop (step_size * start_of words N) l
            = rw words-start (bytes_past closes N made (at a + v) ∙ drop_past l (step_size * at a) (encoded (steps_from (G a) js (T a))) (step_size * steps) (omega (arith, written-size))) in
            record {
              context = q ∙ rw (released, marks_are, ← counter_is);
              list = subst (λ (y : Said). ListWith l y l') (sym same) (subst (ListWith l S) (sym e) (steps-with x words closed N counter (marks_of s) few l closed-size past));
              built = f ∙ ap (lists_with o) (sym segment-is);
            }
          where
            written-size : length (encoded (steps_from (G a) js (T a))) ≡ step_size * v
            written-size = encoded-length (steps_from (G a) js (T a)) ∙ ap (λ k. step_size * k) (steps-count (G a) js (T a) ∙ sym z.total)

            drop_past : (l : List ℕ) (i : ℕ) (ws : List ℕ) (n : ℕ) → i + length ws ≤ n → drop n (write l i ws) ≡ drop n l
            drop_past l i ws n h =
                ext_get_or 0 (drop n (write l i ws)) (drop n l) (simp (length-drop, write-length))
                (λ k g. get_or-drop n (write l i ws) k 0 ∙ write-after l i ws (n + k) (omega arith) ∙ sym (get_or-drop n l k 0))
