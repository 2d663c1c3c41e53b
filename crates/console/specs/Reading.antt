-- Standard input read to its end or to a refusal: the state after some text, the bytes that were read.
-- Assumes nothing: these are definitions.
use Rattle.std.specs.Prelude.{ℕ, ◌≡◌, List, length, Result}
use Rattle.frames.specs.Tables.{Tables, Sized}
use Rattle.kinds.specs.declared.refusal.Refused.{Refused}
use Rattle.feed.specs.Feeding.{line_room, Stands}
use Rattle.feed.specs.declared.feed.Place.{Place}

pub record ReadAsked (line : List ℕ) (u : Tables) : Type 0 where
  pub room : length line ≡ line_room
  pub sized : Sized u

abbrev pub ReadGiven : Result Place Refused → List ℕ → Tables → Type 0
ReadGiven r line u = (t : List ℕ) × Stands t r line u
