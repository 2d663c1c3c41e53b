-- A line that is too long is malformed however it goes on: what comes after it need not be read.
-- Assumes nothing.
use Rattle.std.specs.Prelude.{ℕ, ◌*◌, ◌%◌, ◌≤◌, ◌≡◌, refl, Bool, true, false, cond, not, ◌&&◌, List, [], ◌∷◌, ◌++◌, length, eqb}
use Rattle.std.proofs.Common.{sym, ◌∙◌, ap, append_assoc, append-nil, arith, length-append, eqb-true}
use Rattle.std.proofs.Math.Option.{none}
use Rattle.std.proofs.lemmas.Bool.{lt-leb}
use Rattle.meaning.specs.Refusals.{refused, malformed}
use Rattle.meaning.proofs.Laws.Tests.{each-join}
use Rattle.frames.specs.Frames.{frame_of}
use Rattle.frames.specs.Order.{Input, step, at_fault}
use Rattle.frames.specs.Lines.{longest_frame, line_ok, all_digits, bytes_of}
use Rattle.frames.specs.Tables.{Tables, input_in}
use Rattle.frames.specs.Reading.{read_from}
use Rattle.frames.specs.Text.{line_feed, line_frame, text_frames, reading_text}
use Rattle.frames.specs.TextLaws.{Plain, frames-closed, frames_open}
use Rattle.feed.specs.Feeding.{line_room, last_line, Fed}
use Rattle.feed.specs.Laws.{last-plain}
use Rattle.feed.specs.declared.feed.Place.{Place}

long-frame : (l : List ℕ) → line_room ≤ length l → line_frame l ≡ []
unfolding line_frame line_ok
long-frame l h = rw (lt-leb (length l) (2 * longest_frame) (omega arith)) (go (not (eqb (length l) 0)))
  where
    go : (b : Bool) → cond (b && (false && (eqb (length l % 2) 0 && all_digits l))) (bytes_of l) [] ≡ []
    go true = refl
    go false = refl

-- the first frame of a text that begins with such a line
long-frames : (q s : List ℕ) → Plain q → line_room ≤ length q → (fs : List (List ℕ)) × (text_frames (q ++ s) ≡ [] ∷ fs)
long-frames q [] p h = ([], rw append-nil (frames_open q p (omega arith) ∙ ap (λ f. f ∷ []) (long-frame q h)))
long-frames q (b ∷ s) p h = go (eqb b line_feed) refl (long-frames (q ++ (b ∷ [])) s)
  where
    go :
        (x : Bool) → eqb b line_feed ≡ x →
        (Plain (q ++ (b ∷ [])) → line_room ≤ length (q ++ (b ∷ [])) → (fs : List (List ℕ)) × (text_frames ((q ++ (b ∷ [])) ++ s) ≡ [] ∷ fs)) →
        (fs : List (List ℕ)) × (text_frames (q ++ (b ∷ s)) ≡ [] ∷ fs)
    go true e ih =
        let z : b ≡ line_feed = eqb-true b line_feed e in
        (text_frames s, rw z (frames-closed q s p ∙ ap (λ f. f ∷ text_frames s) (long-frame q h)))
    go false e ih =
        let r = ih (each-join (λ c. eqb c line_feed ≡ false) q (b ∷ []) p (e, tt)) (omega (arith, length-append q (b ∷ []), h)) in
        (r.0, ap text_frames (sym (append_assoc q (b ∷ []) s)) ∙ r.1)

-- an empty frame is refused, and no node is to blame
empty-refused : (i : Input) (fs : List (List ℕ)) → read_from i ([] ∷ fs) ≡ refused malformed none
unfolding read_from step frame_of at_fault
empty-refused i fs = refl

-- WHEREVER SUCH A LINE IS KEPT, the whole text is refused with 1, whatever comes after
pub long-decides : {t line : List ℕ} {p : Place} {u : Tables} → Fed t line p u → line_room ≤ p.held → (s : List ℕ) → reading_text (t ++ s) ≡ refused malformed none
long-decides {t} {line} {p} {u} f h s =
    let r = long-frames (last_line t) s (last-plain t) (omega (arith, f.kept.count, h)) in
    sym (f.same s) ∙ ap (read_from (input_in u p.counts)) r.1 ∙ empty-refused (input_in u p.counts) r.0
