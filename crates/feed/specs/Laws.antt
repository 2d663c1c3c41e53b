-- Laws of the line that has not ended, and that nothing was fed at the start.
-- Assumes nothing.
use Rattle.std.specs.Prelude.{ℕ, suc, ◌+◌, ◌*◌, ◌≤◌, ◌<◌, ◌≡◌, refl, Bool, true, false, cond, not, ◌&&◌, List, [], ◌∷◌, ◌++◌, length, take, set, eqb, ltb}
use Rattle.std.proofs.Common.{sym, ◌∙◌, ap, arith, add-one, length-append, length-take, length-set, take_all, take-suc-set, ltb-true, ltb-false}
use Rattle.std.proofs.lemmas.List.{take-append-le}
use Rattle.std.proofs.lemmas.Bool.{lt-leb}
use Rattle.meaning.proofs.Laws.Tests.{each-join}
use Rattle.frames.specs.Lines.{longest_frame, line_ok, bytes_of}
use Rattle.frames.specs.Tables.{Tables, Sized, input_in, first}
use Rattle.frames.specs.Text.{line_feed, line_frame, reading_text}
use Rattle.frames.specs.TextLaws.{Plain}
use Rattle.feed.specs.Feeding.{line_room, fresh, last_after, last_line, Kept, Fed}

-- ---- the last line

-- none, all, those after the last line feed, none after it
pub last-examples :
    (last_line [] ≡ []) × (last_line (0x30 ∷ 0x31 ∷ []) ≡ 0x30 ∷ 0x31 ∷ []) × (last_line (0x30 ∷ 0x0a ∷ 0x0a ∷ 0x31 ∷ []) ≡ 0x31 ∷ [])
    × (last_line (0x30 ∷ 0x0a ∷ []) ≡ [])
unfolding last_line last_after
last-examples = (refl, refl, refl, refl)

after-feed : (q t : List ℕ) → last_after q (t ++ (line_feed ∷ [])) ≡ []
unfolding last_after
after-feed q [] = refl
after-feed q (b ∷ t) = by (eqb b line_feed) (after-feed [] t) (after-feed (q ++ (b ∷ [])) t)
  where
    by :
        (x : Bool) → last_after [] (t ++ (line_feed ∷ [])) ≡ [] → last_after (q ++ (b ∷ [])) (t ++ (line_feed ∷ [])) ≡ []
        → cond x (last_after [] (t ++ (line_feed ∷ []))) (last_after (q ++ (b ∷ [])) (t ++ (line_feed ∷ []))) ≡ []
    by true e f = e
    by false e f = f

after-byte : (d : ℕ) → eqb d line_feed ≡ false → (q t : List ℕ) → last_after q (t ++ (d ∷ [])) ≡ last_after q t ++ (d ∷ [])
unfolding last_after
after-byte d h q [] = rw h
after-byte d h q (b ∷ t) = by (eqb b line_feed) (after-byte d h [] t) (after-byte d h (q ++ (b ∷ [])) t)
  where
    by :
        (x : Bool) → last_after [] (t ++ (d ∷ [])) ≡ last_after [] t ++ (d ∷ []) → last_after (q ++ (b ∷ [])) (t ++ (d ∷ [])) ≡ last_after (q ++ (b ∷ [])) t ++ (d ∷ [])
        → cond x (last_after [] (t ++ (d ∷ []))) (last_after (q ++ (b ∷ [])) (t ++ (d ∷ []))) ≡ cond x (last_after [] t) (last_after (q ++ (b ∷ [])) t) ++ (d ∷ [])
    by true e f = e
    by false e f = f

after-plain : (q t : List ℕ) → Plain q → Plain (last_after q t)
unfolding last_after
after-plain q [] h = h
after-plain q (b ∷ t) h = by (eqb b line_feed) refl (after-plain [] t tt) (λ g. after-plain (q ++ (b ∷ [])) t (each-join (λ b. eqb b line_feed ≡ false) q (b ∷ []) h (g, tt)))
  where
    by :
        (x : Bool) → eqb b line_feed ≡ x → Plain (last_after [] t) → (eqb b line_feed ≡ false → Plain (last_after (q ++ (b ∷ [])) t))
        → Plain (cond x (last_after [] t) (last_after (q ++ (b ∷ [])) t))
    by true g e f = e
    by false g e f = f g

pub last-fed : (t : List ℕ) → last_line (t ++ (line_feed ∷ [])) ≡ []
unfolding last_line
last-fed t = after-feed [] t

pub last_more : (t : List ℕ) (b : ℕ) → eqb b line_feed ≡ false → last_line (t ++ (b ∷ [])) ≡ last_line t ++ (b ∷ [])
unfolding last_line
last_more t b h = after-byte b h [] t

pub last-plain : (t : List ℕ) → Plain (last_line t)
unfolding last_line
last-plain t = after-plain [] t tt

-- ---- what is kept of a line

too_long : (l : List ℕ) → line_room ≤ length l → line_frame l ≡ []
unfolding line_frame line_ok
too_long l h =
    let g : 2 * longest_frame < length l = omega arith in
    rw (lt-leb (length l) (2 * longest_frame) g) (by (eqb (length l) 0))
  where
    by : (x : Bool) → cond (not x && false) (bytes_of l) [] ≡ []
    by true = refl
    by false = refl

module _ {q line : List ℕ} {held : ℕ} (k : Kept q line held) where
  -- it says the same frame as the whole line
  pub frame-kept : line_frame (take held line) ≡ line_frame q
  frame-kept = by (ltb (length q) line_room) (ltb-true _ _) (ltb-false _ _)
    where
      by : (x : Bool) → (x ≡ true → length q < line_room) → (x ≡ false → line_room ≤ length q) → line_frame (take held line) ≡ line_frame q
      by true f g = let h : length q ≤ line_room = omega (arith, f refl) in ap line_frame (k.front ∙ take_all line_room q h)
      by false f g =
          let h : line_room ≤ length q = g refl in
          let n : line_room ≤ length (take line_room q) = simp length-take (omega arith) in
          rw k.front (too_long (take line_room q) n ∙ sym (too_long q h))

  pub held-few : held ≤ line_room
  held-few = omega (arith, k.count)

  -- where there is room for another byte
  pub kept_more : (b : ℕ) → held < line_room → Kept (q ++ (b ∷ [])) (set line held b) (held + 1)
  kept_more b h =
      let n : length (q ++ (b ∷ [])) ≡ length q + 1 = length-append q (b ∷ []) in
      let m : length q < line_room = omega (arith, k.count) in
      let r : held < length line = omega (arith, k.room) in
      let w : length q ≤ line_room = omega arith in
      let v : length (q ++ (b ∷ [])) ≤ line_room = omega arith in
      let e : take held line ≡ q = k.front ∙ take_all line_room q w in
      let z : take (suc held) (set line held b) ≡ take held line ++ (b ∷ []) = take-suc-set line held b r in
      let f : take (suc held) (set line held b) ≡ take line_room (q ++ (b ∷ [])) = z ∙ rw (e, take_all line_room (q ++ (b ∷ [])) v) in
      record { room = length-set line held b ∙ k.room; count = omega (arith, k.count); front = rw (add-one held) f }

  -- and where there is none
  pub kept_full : (b : ℕ) → line_room ≤ held → Kept (q ++ (b ∷ [])) line held
  kept_full b h =
      let n : length (q ++ (b ∷ [])) ≡ length q + 1 = length-append q (b ∷ []) in
      let m : line_room ≤ length q = omega (arith, k.count) in
      record { room = k.room; count = omega (arith, k.count); front = k.front ∙ sym (take-append-le line_room q (b ∷ []) m) }

pub kept-none : (line : List ℕ) → length line ≡ line_room → Kept [] line 0
kept-none line h = record { room = h; count = refl; front = refl }

-- THE START: nothing was fed
pub fed-none : (line : List ℕ) (u : Tables) → length line ≡ line_room → Sized u → Fed [] line fresh u
unfolding last_line last_after reading_text input_in first
fed-none line u h g = record { kept = kept-none line h; sized = g; same = λ s. refl }
