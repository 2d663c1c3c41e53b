-- What stands after blocks were committed, and what is asked on the way, by the case of the answer. No word of the code.
-- Assumes nothing.
use Prim.Native.Nat.{ℕ, suc, ◌+◌, ◌*◌, ◌-◌, ◌/◌, ◌<◌, ◌≤◌}
use mathlib.Core.Path.{◌≡◌, refl, sym, ◌∙◌, ap, subst}
use mathlib.Core.Bool.{true, false, ◌&&◌, cond}
use mathlib.Core.Option.{none, some}
use mathlib.Core.List.{List, ◌++◌}
use native.Mathlib.Omega.{arith}
use lib.ListN.{length, get_or, set, drop, replicate, length-append, length-replicate, length-set, length-drop}
use lib.Seq.{ext_get_or, get_or-drop}
use lib.Dec.{leb, ltb}
use borrow.Author.Tests.{leb-true, ltb-true}
use Rattle.meaning.specs.Refusals.{Refusal, Answer, done, refused, ◌then◌}
use Rattle.meaning.specs.Order.{Job}
use Rattle.meaning.proofs.Laws.Tests.{and_left, and_right}
use Rattle.kinds.specs.Write.{write, write-length, write-after}
use Rattle.kinds.specs.Steps.{step_size, step_at, step_bytes, steps_bytes, step-sized, steps-length, steps-bytes-length}
use Rattle.kinds.specs.declared.reference.Reference.{Reference}
use Rattle.starkinfo_codegen.specs.Encoding.{encoded, encoded-length}
use Rattle.starkinfo_codegen.specs.Emitting.{Rest}
use Rattle.starkinfo_codegen.specs.Ordering.{cell_of, marks_of}
use Rattle.starkinfo_codegen.specs.Sources.{copy_step}
use Rattle.requests.specs.Making.{steps_from, SizeIs, Room}
use Rattle.requests.specs.Generating.{number_limit}
use Rattle.requests.specs.Placing.{PlaceAsks}
use Rattle.requests.specs.Jobs.{steps-count}
use Rattle.builds.specs.Raw.{RawBlock, steps_in, start_of, records_from, raw_blocks, every, copy_into}
use Rattle.builds.specs.Starts.{start-next, start-le}
use Rattle.builds.specs.Results.{find_block, inserted}
use Rattle.builds.specs.Copies.{find-here, copy-nowhere, copy-put, copy-steps}
use Rattle.std.specs.Prelude as code
use Rattle.context.specs.Context.{cells}
use Rattle.context.specs.Held.{stored_in}
use Rattle.codegen.specs.Said.{Said}
use Rattle.codegen.specs.Written.{mark_bytes, fits, fitting, ListWith, raw-steps, stored-with, steps-with}
use Rattle.codegen.specs.Committing.{CommitAsks, Tells, copied, StoreAsked, PutAsked}
use Rattle.std.specs.Prelude.{Ok}
use Rattle.kinds.specs.Answers.{refusing}
use Rattle.kinds.specs.declared.refusal.Refusal.TheVariants as refusal
use Rattle.codegen.proofs.Commits.{G, B, at, T, t', after, sound, full, full', steps-after, counter-after, added, longer-steps, some-step}

-- ── lists ────────────────────────────────────────────────────────────────────
drop_past : (l : List ℕ) (i : ℕ) (ws : List ℕ) (n : ℕ) → i + length ws ≤ n → drop n (write l i ws) ≡ drop n l
drop_past l i ws n h =
    ext_get_or 0 (drop n (write l i ws)) (drop n l) (simp (length-drop, write-length))
    (λ k g. get_or-drop n (write l i ws) k 0 ∙ write-after l i ws (n + k) (omega arith) ∙ sym (get_or-drop n l k 0))

inserted-size : (l : List ℕ) (pos end : ℕ) (d : Reference) → length (inserted l pos end d) ≡ length l
unfolding inserted
inserted-size l pos end d = write-length l (step_size * pos) _

inserted-past : (l : List ℕ) (pos end : ℕ) (d : Reference) → pos ≤ end → drop (step_size * (end + 1)) (inserted l pos end d) ≡ drop (step_size * (end + 1)) l
unfolding inserted
inserted-past l pos end d h =
    let s = copy_step d (step_at l (step_size * (pos - 1))).dest in
    let rs = records_from l pos (end - pos) in
    drop_past l (step_size * pos) (step_bytes s ++ steps_bytes rs) (step_size * (end + 1))
    (omega (arith, length-append (step_bytes s) (steps_bytes rs), step-sized s, steps-bytes-length rs, steps-length (drop (step_size * pos) l) (end - pos)))

-- ── room ─────────────────────────────────────────────────────────────────────
pub record Fitting (room steps counter : ℕ) : Type 0 where
  pub list : step_size * steps ≤ room
  pub steps16 : steps < number_limit
  pub counter16 : counter < number_limit

pub fits_all_lem : (room steps counter : ℕ) → fits room steps counter ≡ true → Fitting room steps counter
unfolding fits
fits_all_lem room steps counter h =
    let a = leb (step_size * steps) room in
    let b = ltb steps number_limit in
    let c = ltb counter number_limit in
    record {
      list = leb-true (step_size * steps) room (and_left a (b && c) h);
      steps16 = ltb-true steps number_limit (and_left b c (and_right a (b && c) h));
      counter16 = ltb-true counter number_limit (and_right b c (and_right a (b && c) h));
    }

-- ── without a result ─────────────────────────────────────────────────────────
module _ {w xs : List ℕ} {b : Rest} {js : List Job} {j s t x l : List ℕ} {n : ℕ} (a : CommitAsks w xs b js j s t x l n) {v : ℕ} (z : SizeIs w xs b js n v) where
  abbrev steps : ℕ
  steps = at a + v

  abbrev counter : ℕ
  counter = T a + (v - n)

  steps_are : length (every (after a).blocks) ≡ steps
  steps_are = steps-after a ∙ ap (λ k. at a + k) (sym z.total)

  counter_are : (after a).counter ≡ counter
  counter_are = counter-after a z.total z.some

  pub fits_are : fits (length l) (length (every (after a).blocks)) (after a).counter ≡ fits (length l) steps counter
  fits_are = rw (steps_are, counter_are)

  pub plain-full : fits (length l) steps counter ≡ false → Tells (fitting (length l) (after a)) x l x l (refusing refusal.Full)
  plain-full h =
      subst (λ (y : Answer Said). Tells y x l x l (refusing refusal.Full)) (sym (ap (λ q. cond q (done (after a)) (refused Refusal.full none)) (fits_are ∙ h)))
      (record { says = refl; stands = (refl, refl) })

  pub place-asks : PlaceAsks w xs b js j t n (B a)
  place-asks = record { jobs = a.jobs; full = full a; room = a.room }

  pub make-room : step_size * steps ≤ length l → counter < number_limit → Room w xs b js (at a) (T a) (length l)
  make-room h g = record { rows = a.rows; fits = omega (arith, h, z.total); counter = omega (arith, g, z.total, z.some, a.jobs.count) }

  -- over a list with room enough
  abbrev ample : List ℕ
  ample = l ++ replicate (step_size * (steps + 1)) 0

  ample-size : length ample ≡ length l + step_size * (steps + 1)
  ample-size = length-append l (replicate (step_size * (steps + 1)) 0) ∙ ap (λ k. length l + k) (length-replicate {A = ℕ} (step_size * (steps + 1)) 0)

  abbrev ample_list : List ℕ
  ample_list = write ample (step_size * at a) (encoded (steps_from (G a) js (T a)))

  ample-blocks : (after a).blocks ≡ raw_blocks (t' a) ample_list (B a + n)
  ample-blocks =
      added a ample (λ i h. longer-steps l (replicate (step_size * (steps + 1)) 0) i (omega (arith, (sound a).in_room)))
      (omega (arith, ample-size, z.total))

  pub start-after : start_of (t' a) (B a + n) ≡ steps
  start-after = sym (raw-steps (t' a) ample_list (B a + n)) ∙ ap (λ (q : List RawBlock). length (every q)) (sym ample-blocks) ∙ steps_are

  -- the list with the blocks written
  abbrev list_after : List ℕ
  list_after = write l (step_size * at a) (encoded (steps_from (G a) js (T a)))

  written-size : length (encoded (steps_from (G a) js (T a))) ≡ step_size * v
  written-size = encoded-length (steps_from (G a) js (T a)) ∙ ap (λ k. step_size * k) (steps-count (G a) js (T a) ∙ sym z.total)

  after_is : step_size * steps ≤ length l → after a ≡ record { marks = marks_of s; blocks = raw_blocks (t' a) list_after (B a + n); counter = counter }
  after_is h =
      let e = added a l (λ i g. refl) (omega (arith, h, z.total)) in
      ap (λ (q : List RawBlock). record { marks = marks_of s; blocks = q; counter = (after a).counter }) e
      ∙ ap (λ k. record { marks = marks_of s; blocks = raw_blocks (t' a) list_after (B a + n); counter = k }) counter_are

  table-few : B a + n ≤ length (t' a)
  table-few = omega (arith, full' a, a.room)

  each-few : (k : ℕ) → k < B a + n → get_or (t' a) k 0 / cells ≤ steps
  each-few k h = omega (arith, start-next (t' a) k, start-le (t' a) (suc k) (B a + n) h, start-after)

  pub plain-store : fits (length l) steps counter ≡ true → StoreAsked x s (t' a) (B a + n) steps counter
  plain-store h =
      let f = fits_all_lem (length l) steps counter h in
      record {
        size = a.good.head.size;
        marks = a.marks;
        words = full' a;
        few = a.room;
        steps16 = f.steps16;
        temporaries16 = f.counter16;
        each16 = λ k g. omega (arith, each-few k g, f.steps16);
      }

  pub plain_done :
      fits (length l) steps counter ≡ true → {x' l' : List ℕ} → l' ≡ list_after →
      x' ≡ stored_in x (mark_bytes (marks_of s)) (t' a) 0 (B a + n) steps counter → Tells (fitting (length l) (after a)) x l x' l' (Ok tt)
  plain_done h {x'} {l'} e q =
      let f = fits_all_lem (length l) steps counter h in
      let S : Said = record { marks = marks_of s; blocks = raw_blocks (t' a) list_after (B a + n); counter = counter } in
      let eq = after_is f.list in
      let u : x' ≡ stored_in x (mark_bytes (marks_of s)) (t' a) 0 (B a + n) (start_of (t' a) (B a + n)) counter
      = q ∙ ap (λ k. stored_in x (mark_bytes (marks_of s)) (t' a) 0 (B a + n) k counter) (sym start-after) in
      let c = u ∙ stored-with x (t' a) list_after (B a + n) counter (marks_of s) table-few in
      let g : ListWith l S list_after
      = steps-with x (t' a) list_after (B a + n) counter (marks_of s) table-few l (write-length l (step_size * at a) _)
      (rw start-after (drop_past l (step_size * at a) (encoded (steps_from (G a) js (T a))) (step_size * steps) (omega (arith, written-size)))) in
      subst (λ (y : Answer Said). Tells y x l x' l' (Ok tt)) (sym (ap (λ r. cond r (done (after a)) (refused Refusal.full none)) (fits_are ∙ h)))
      (subst (λ (y : Said). Tells (done y) x l x' l' (Ok tt)) (sym eq)
      (record { says = refl; stands = (c, subst (ListWith l S) (sym e) g) }))

  -- ── with a result ──────────────────────────────────────────────────────────
  module _ (e row : ℕ) (d : Reference) (low : row < 2) {cell : ℕ} (is : cell ≡ cell_of e row) where
    abbrev answer : Answer Said
    answer = copied e row d (after a) then fitting (length l)

    pub no-block : find_block (t' a) (B a + n) cell ≡ code.None → Tells answer x l x l (refusing refusal.NoBlock)
    no-block h =
        let q : copy_into e row d (after a).blocks ≡ none
        = ap (copy_into e row d) ample-blocks ∙ copy-nowhere (t' a) ample_list (B a + n) e row d low (rw is at h) in
        rw q (record { says = refl; stands = (refl, refl) })

    module _ {k : ℕ} (there : find_block (t' a) (B a + n) cell ≡ code.Some k) where
      at-cell : find_block (t' a) (B a + n) (cell_of e row) ≡ code.Some k
      at-cell = rw is at there

      pub below : k < B a + n
      below = (find-here (t' a) (B a + n) (cell_of e row) k at-cell).below

      abbrev t'' : List ℕ
      t'' = set (t' a) k (get_or (t' a) k 0 + 1024)

      pub enough : 1 ≤ steps_in (get_or (t' a) k 0)
      enough = some-step a k below

      start-more : start_of t'' (B a + n) ≡ steps + 1
      start-more =
          omega (
            arith,
            copy-steps (t' a) ample_list (B a + n) e row d low k at-cell table-few enough (omega (arith, start-after, write-length ample (step_size * at a) (encoded (steps_from (G a) js (T a))), ample-size)),
            start-after,
          )

      -- over a list with room for one more
      module _ (L : List ℕ) (is-after : (after a).blocks ≡ raw_blocks (t' a) L (B a + n)) (room : step_size * (steps + 1) ≤ length L) where
        abbrev L' : List ℕ
        L' = inserted L (start_of (t' a) (suc k)) steps d

        copy_is : copy_into e row d (after a).blocks ≡ some (raw_blocks t'' L' (B a + n))
        copy_is =
            ap (copy_into e row d) is-after
            ∙ subst (λ m. copy_into e row d (raw_blocks (t' a) L (B a + n)) ≡ some (raw_blocks t'' (inserted L (start_of (t' a) (suc k)) m d) (B a + n))) start-after
            (copy-put (t' a) L (B a + n) e row d low k at-cell table-few enough (rw start-after room))

        abbrev with_copy : Said
        with_copy = record { marks = marks_of s; blocks = raw_blocks t'' L' (B a + n); counter = (after a).counter }

        answer-is : answer ≡ cond (fits (length l) (steps + 1) counter) (done with_copy) (refused Refusal.full none)
        answer-is =
            let c : length (every with_copy.blocks) ≡ steps + 1 = raw-steps t'' L' (B a + n) ∙ start-more in
            rw (copy_is, c, counter_are)

      pub result-full : fits (length l) (steps + 1) counter ≡ false → Tells answer x l x l (refusing refusal.Full)
      result-full h =
          let r : step_size * (steps + 1) ≤ length ample_list = omega (arith, write-length ample (step_size * at a) (encoded (steps_from (G a) js (T a))), ample-size) in
          let q : answer ≡ refused Refusal.full none = answer-is ample_list ample-blocks r ∙ rw h in
          subst (λ (y : Answer Said). Tells y x l x l (refusing refusal.Full)) (sym q) (record { says = refl; stands = (refl, refl) })

      pub put-asked : fits (length l) (steps + 1) counter ≡ true → PutAsked (t' a) list_after k steps
      put-asked h =
          let f = fits_all_lem (length l) (steps + 1) counter h in
          record {
            there = omega (arith, below, a.room);
            some = enough;
            inside = omega (arith, start-le (t' a) (suc k) (B a + n) below, start-after);
            few = omega (arith, f.steps16);
            fits = omega (arith, f.list, write-length l (step_size * at a) (encoded (steps_from (G a) js (T a))));
          }

      full'' : length t'' ≡ cells
      full'' = length-set (t' a) k _ ∙ full' a

      pub result-store : fits (length l) (steps + 1) counter ≡ true → StoreAsked x s t'' (B a + n) (steps + 1) counter
      result-store h =
          let f = fits_all_lem (length l) (steps + 1) counter h in
          record {
            size = a.good.head.size;
            marks = a.marks;
            words = full'';
            few = a.room;
            steps16 = f.steps16;
            temporaries16 = f.counter16;
            each16 = λ i g. omega (arith, start-next t'' i, start-le t'' (suc i) (B a + n) g, start-more, f.steps16);
          }

      pub result-done :
          fits (length l) (steps + 1) counter ≡ true → {x' l' : List ℕ} → l' ≡ inserted list_after (start_of (t' a) (suc k)) steps d →
          x' ≡ stored_in x (mark_bytes (marks_of s)) t'' 0 (B a + n) (steps + 1) counter → Tells answer x l x' l' (Ok tt)
      result-done h {x'} {l'} g q =
          let f = fits_all_lem (length l) (steps + 1) counter h in
          let o : step_size * (steps + 1) ≤ length list_after = omega (arith, f.list, write-length l (step_size * at a) (encoded (steps_from (G a) js (T a)))) in
          let is-after = added a l (λ i g. refl) (omega (arith, f.list, z.total)) in
          let l₂ = inserted list_after (start_of (t' a) (suc k)) steps d in
          let S : Said = record { marks = marks_of s; blocks = raw_blocks t'' l₂ (B a + n); counter = counter } in
          let few : B a + n ≤ length t'' = omega (arith, full'', a.room) in
          let u : x' ≡ stored_in x (mark_bytes (marks_of s)) t'' 0 (B a + n) (start_of t'' (B a + n)) counter
          = q ∙ ap (λ m. stored_in x (mark_bytes (marks_of s)) t'' 0 (B a + n) m counter) (sym start-more) in
          let c = u ∙ stored-with x t'' l₂ (B a + n) counter (marks_of s) few in
          let size : length l₂ ≡ length l = inserted-size list_after (start_of (t' a) (suc k)) steps d ∙ write-length l (step_size * at a) _ in
          let inside : start_of (t' a) (suc k) ≤ steps = omega (arith, start-le (t' a) (suc k) (B a + n) below, start-after) in
          let past : drop (step_size * (steps + 1)) l₂ ≡ drop (step_size * (steps + 1)) l
          = inserted-past list_after (start_of (t' a) (suc k)) steps d inside
          ∙ drop_past l (step_size * at a) (encoded (steps_from (G a) js (T a))) (step_size * (steps + 1)) (omega (arith, written-size)) in
          let r : ListWith l S l₂ = steps-with x t'' l₂ (B a + n) counter (marks_of s) few l size (rw start-more past) in
          let y : answer ≡ done S = answer-is list_after is-after o ∙ rw h (ap (λ m. done (record { marks = marks_of s; blocks = raw_blocks t'' l₂ (B a + n); counter = m })) counter_are) in
          subst (λ (p : Answer Said). Tells p x l x' l' (Ok tt)) (sym y) (record { says = refl; stands = (c, subst (ListWith l S) (sym g) r) })
