-- What `take` gives, from what the calls that it makes ensure.
-- Assumes nothing.
use mathlib.Core.Path.{◌≡◌, refl, ap, sym, ◌∙◌}
use mathlib.Core.List.{List}
use mathlib.Core.Option.{Option}
use Prim.Native.Nat.{ℕ}
use native.Mathlib.Omega.{arith}
use Rattle.std.specs.Prelude as std
use Rattle.std.specs.Prelude.{Result, Ok, Err}
use Rattle.kinds.specs.declared.refusal.Refused.{Refused}
use Rattle.meaning.specs.Refusals.{Answer, done, refused, Refusal, ◌then◌}
use Rattle.frames.specs.Frames.{Item, frame_of, frame_answer}
use Rattle.frames.specs.Order.{place, at_fault, blaming, count_of, counts_answer}
use Rattle.frames.specs.Tables.{Tables, Room, put, or_else, put_all, take_into, Takes}
use Rattle.frames.specs.Taking.{has_room, then-done}
use Rattle.frames.specs.declared.frame.Frame.{Frame}
use Rattle.frames.specs.declared.count.Counts.{Counts}

module _
    (x : std.Option Frame) (c : Counts) (f : List ℕ) (r : Result Counts Refused) (e : frame_answer x ≡ frame_of f)
    (p : counts_answer r ≡ blaming (at_fault c.nodes f) (frame_answer x then place c))
  where
    counted : counts_answer r ≡ count_of c f
    unfolding count_of
    counted = rw e at p

    pub room : (d : Counts) → r ≡ Ok d → Room c (frame_answer x)
    room d q = has_room c (frame_answer x) _ d (sym p ∙ ap counts_answer q)

    pub refuses : (t : Tables) (k : Refusal) (b : Option ℕ) → counts_answer r ≡ refused k b → take_into t c f ≡ t
    unfolding take_into
    refuses t k b q = by (frame_of f) (sym (rw e at p) ∙ q)
      where
        placing : (y : Item) (w : Answer Counts) → blaming (at_fault c.nodes f) w ≡ refused k b → or_else (w then λ d. done (put t c y)) t ≡ t
        placing y (done d) q = let z : ◌≡◌ {A = ℕ} 0 1 = cc in absurd (omega arith)
        placing y (refused m n) q = refl

        by : (a : Answer Item) → blaming (at_fault c.nodes f) (a then place c) ≡ refused k b → or_else (a then λ y. place c y then λ d. done (put t c y)) t ≡ t
        by (done y) q = placing y (place c y) q
        by (refused m n) q = refl

    puts : (t : Tables) (d : Counts) → counts_answer r ≡ done d → put_all t c (frame_answer x) ≡ take_into t c f
    unfolding take_into
    puts t d q = then-done (frame_answer x) (place c) d _ (sym p ∙ q) (put_all t c (frame_answer x) ≡ take_into t c f) (λ y g h. rw (← e, g, h))

    module _ (t : Tables) where
      pub refused-takes : (e : Refused) → r ≡ Err e → Takes t c f (Err e) t
      refused-takes e q = record { answer = sym (ap counts_answer q) ∙ counted; after = sym (refuses t _ _ (ap counts_answer q)) }

      pub read-takes : (d : Counts) (u : Tables) → r ≡ Ok d → u ≡ put_all t c (frame_answer x) → Takes t c f (Ok d) u
      read-takes d u q h = record { answer = sym (ap counts_answer q) ∙ counted; after = h ∙ puts t d (ap counts_answer q) }
