-- Where reading stands after a byte, after a line feed, after a piece and at the end. Over plain lists, places and tables.
-- Assumes nothing.
use Prim.Native.Nat.{ℕ, suc, ◌+◌, ◌≤◌, ◌<◌}
use mathlib.Core.Path.{◌≡◌, refl, sym, ◌∙◌, ap}
use mathlib.Core.Bool.{Bool, true, false}
use mathlib.Core.List.{List, [], ◌∷◌, ◌++◌, append_assoc, append-nil}
use native.Mathlib.Omega.{arith}
use native.Mathlib.Numerals.{add-one}
use lib.ListN.{length, get_or, take, drop, set, take-append-drop}
use lib.Seq.{take-suc, take_all}
use lib.Dec.{eqb, ltb}
use borrow.Author.Tests.{lt-ltb, le-ltb, ltb-true, ltb-false, ne_eqb}
use Rattle.meaning.specs.Refusals.{Answer, done, refused, ◌then◌}
use Rattle.frames.specs.declared.count.Counts.{Counts}
use Rattle.std.specs.Prelude.{Result, Ok, Err}
use Rattle.kinds.specs.Answers.{refusal_of, blame_of}
use Rattle.kinds.specs.declared.refusal.Refused.{Refused}
use Rattle.frames.specs.Order.{Input}
use Rattle.frames.specs.Tables.{Tables, Sized, Takes, input_in}
use Rattle.frames.specs.Reading.{read_from, held}
use Rattle.frames.specs.Text.{line_feed, lines_of, line_frame, text_frames, reading_text, FillsText}
use Rattle.frames.specs.TextLaws.{frames-closed, frames_open}
use Rattle.frames.proofs.Loops.{turn, turn_sized}
use Rattle.frames.proofs.Texts.{bytes-line}
use Rattle.feed.specs.Feeding.{line_room, last_line, Kept, Fed, Lost, Stands, FedGiven, Keeps}
use Rattle.feed.specs.Laws.{last-fed, last_more, last-plain, frame-kept, kept_more, kept_full, kept-none}
use Rattle.feed.specs.declared.feed.Place.{Place}

-- ---- a byte kept

module _ (b : ℕ) (p : Place) (line : List ℕ) where
  pub keeps-full : line_room ≤ p.held → Keeps b p line p line
  keeps-full h = record { counts = refl; held = rw (le-ltb p.held line_room h); list = rw (le-ltb p.held line_room h) }

  pub keeps-more : p.held < line_room → (q : Place) → q.counts ≡ p.counts → q.held ≡ p.held + 1 → Keeps b p line q (set line p.held b)
  keeps-more h q e f = record { counts = e; held = f ∙ rw (lt-ltb p.held line_room h); list = rw (lt-ltb p.held line_room h) }

  module _ (t : List ℕ) (u : Tables) (w : Fed t line p u) (n : b ≡ line_feed → ⊥) (q : Place) (line' : List ℕ) (k : Keeps b p line q line') where
    pub byte-kept : Fed (t ++ (b ∷ [])) line' q u
    byte-kept =
        let e : eqb b line_feed ≡ false = ne_eqb b line_feed n in
        let l : last_line (t ++ (b ∷ [])) ≡ last_line t ++ (b ∷ []) = last_more t b e in
        record {
          kept = rw l (by (ltb p.held line_room) refl);
          sized = w.sized;
          same = λ s. rw (k.counts, l, append_assoc (last_line t) (b ∷ []) s, append_assoc t (b ∷ []) s) (w.same (b ∷ s));
        }
      where
        by : (x : Bool) → ltb p.held line_room ≡ x → Kept (last_line t ++ (b ∷ [])) line' q.held
        by true g = rw (k.list, k.held, g) (kept_more w.kept b (ltb-true p.held line_room g))
        by false g = rw (k.list, k.held, g) (kept_full w.kept b (ltb-false p.held line_room g))

-- ---- a line ended

module _ (t line : List ℕ) (p : Place) (u : Tables) (w : Fed t line p u) (r : Result Counts Refused) (u' : Tables) (k : Takes u p.counts (line_frame (take p.held line)) r u') where
  its : Takes u p.counts (line_frame (last_line t)) r u'
  its = rw (frame-kept w.kept) at k

  module _ (s : List ℕ) where
    next : read_from (input_in u p.counts) (line_frame (last_line t) ∷ text_frames s) ≡ reading_text ((t ++ (line_feed ∷ [])) ++ s)
    next = rw (append_assoc t (line_feed ∷ []) s) (rw (frames-closed (last_line t) s (last-plain t)) at (w.same (line_feed ∷ s)))

    pub ended : (held u' r then λ j. read_from j (text_frames s)) ≡ reading_text ((t ++ (line_feed ∷ [])) ++ s)
    ended = turn (reading_text ((t ++ (line_feed ∷ [])) ++ s)) u w.sized p.counts (line_frame (last_line t)) (bytes-line (last_line t)) (text_frames s) next r u' its

  after_sized : Sized u'
  after_sized = turn_sized (reading_text ((t ++ (line_feed ∷ [])) ++ [])) u w.sized p.counts (line_frame (last_line t)) (bytes-line (last_line t)) (text_frames []) (next []) r u' its

  -- refused, whatever comes after
  pub line-lost : (f : Refused) → r ≡ Err f → Lost (t ++ (line_feed ∷ [])) (refusal_of f.refusal) (blame_of f.node)
  line-lost f g = record { answer = λ s. sym (rw g at (ended s)) }

  pub line-fed : (c : Counts) → r ≡ Ok c → Fed (t ++ (line_feed ∷ [])) line (record { counts = c; held = 0 }) u'
  line-fed c g =
      record {
        kept = rw (last-fed t) (kept-none line w.kept.room);
        sized = after_sized;
        same = λ s. rw (last-fed t) (rw g at (ended s));
      }

-- ---- a piece

pub record Through (more line₀ : List ℕ) (p₀ : Place) (u₀ : Tables) (line : List ℕ) (p : Place) (u : Tables) (i : ℕ) : Type 0 where
  pub inside : i ≤ length more
  pub so_far : (t : List ℕ) → Fed t line₀ p₀ u₀ → Fed (t ++ take i more) line p u

module _ (more line₀ : List ℕ) (p₀ : Place) (u₀ : Tables) where
  pub through_none : Through more line₀ p₀ u₀ line₀ p₀ u₀ 0
  through_none = record { inside = omega arith; so_far = λ t w. rw (append-nil t) w }

  module _ (line : List ℕ) (p : Place) (u : Tables) (i : ℕ) (g : Through more line₀ p₀ u₀ line p u i) where
    pub through_end : length more ≤ i → FedGiven line₀ p₀ u₀ more (Ok p) line u
    through_end h t w = rw (take_all i more h) at (g.so_far t w)

    module _ (h : i < length more) (r : Result Place Refused) (line' : List ℕ) (u' : Tables) (k : FedGiven line p u (get_or more i 0 ∷ []) r line' u') where
      one_more : (t : List ℕ) → (t ++ take i more) ++ (get_or more i 0 ∷ []) ≡ t ++ take (suc i) more
      one_more t = append_assoc t (take i more) (get_or more i 0 ∷ []) ∙ rw (take-suc more i 0 h)

      stands : (t : List ℕ) → Fed t line₀ p₀ u₀ → Stands (t ++ take (suc i) more) r line' u'
      stands t w = rw (one_more t) at (k (t ++ take i more) (g.so_far t w))

      pub through_more : (q : Place) → r ≡ Ok q → Through more line₀ p₀ u₀ line' q u' (i + 1)
      through_more q e = record { inside = omega arith; so_far = λ t w. rw (add-one i) (rw e at (stands t w)) }

      -- refused within a piece, refused with all of it
      whole : (t s : List ℕ) → (t ++ take (suc i) more) ++ (drop (suc i) more ++ s) ≡ (t ++ more) ++ s
      whole t s =
          append_assoc t (take (suc i) more) (drop (suc i) more ++ s)
          ∙ ap (λ (l : List ℕ). t ++ l) (sym (append_assoc (take (suc i) more) (drop (suc i) more) s) ∙ rw (take-append-drop (suc i) more))
          ∙ sym (append_assoc t more s)

      pub through_lost :
          (f : Refused) → r ≡ Err f → (t : List ℕ) → Fed t line₀ p₀ u₀ → Lost (t ++ more) (refusal_of f.refusal) (blame_of f.node)
      through_lost f e t w =
          let l : Lost (t ++ take (suc i) more) (refusal_of f.refusal) (blame_of f.node) = rw e at (stands t w) in
          record { answer = λ s. rw (whole t s) at (l.answer (drop (suc i) more ++ s)) }

-- ---- the end

nothing_in : (q : List ℕ) → length q ≡ 0 → q ≡ []
nothing_in [] h = refl
nothing_in (b ∷ q) h = absurd (omega arith)

then_same : (a : Answer Input) → (a then λ j. done j) ≡ a
then_same (done j) = refl
then_same (refused k b) = refl

module _ (t line : List ℕ) (p : Place) (u : Tables) (w : Fed t line p u) where
  pub end_none : p.held ≡ 0 → FillsText t (Ok p.counts) u
  unfolding read_from text_frames lines_of
  end_none h =
      let e : last_line t ≡ [] = nothing_in (last_line t) (omega (arith, w.kept.count)) in
      record { answer = rw (e, append-nil t) at (w.same []); sized = w.sized }

  module _ (h : p.held ≡ 0 → ⊥) (r : Result Counts Refused) (u' : Tables) (k : Takes u p.counts (line_frame (take p.held line)) r u') where
    its-last : Takes u p.counts (line_frame (last_line t)) r u'
    its-last = rw (frame-kept w.kept) at k

    last : read_from (input_in u p.counts) (line_frame (last_line t) ∷ []) ≡ reading_text t
    last =
        let n : (length (last_line t) ≡ 0 → ⊥) = λ z. h (w.kept.count ∙ rw z) in
        let m : 0 < length (last_line t) = omega arith in
        rw (append-nil (last_line t), append-nil t, frames_open (last_line t) (last-plain t) m) at (w.same [])

    pub end_line : FillsText t r u'
    unfolding read_from
    end_line =
        let b = bytes-line (last_line t) in
        record {
          answer = sym (then_same (held u' r)) ∙ turn (reading_text t) u w.sized p.counts (line_frame (last_line t)) b [] last r u' its-last;
          sized = turn_sized (reading_text t) u w.sized p.counts (line_frame (last_line t)) b [] last r u' its-last;
        }
