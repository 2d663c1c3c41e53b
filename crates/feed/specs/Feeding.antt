-- A text fed in pieces: where reading it stands after what was fed so far.
-- Assumes nothing: these are definitions.
use Rattle.std.specs.Prelude.{Result, Ok, Err, ℕ, ◌+◌, min, ◌≡◌, cond, List, [], ◌∷◌, ◌++◌, length, take, set, eqb, ltb}
use Rattle.std.proofs.Math.Option.{Option}
use Rattle.meaning.specs.Refusals.{Refusal, refused}
use Rattle.kinds.specs.Answers.{refusal_of, blame_of}
use Rattle.kinds.specs.declared.refusal.Refused.{Refused}
use Rattle.frames.specs.declared.count.Counts.{Counts}
use Rattle.frames.specs.Tables.{Tables, Sized, input_in}
use Rattle.frames.specs.Reading.{read_from}
use Rattle.frames.specs.Text.{line_feed, text_frames, reading_text, FillsText}
use Rattle.feed.specs.declared.feed.Place.{Place}

-- one more than a line may have
abbrev pub line_room : ℕ
line_room = 1051

-- before anything is fed
abbrev pub fresh : Place
fresh = record { counts = record { nodes = 0; expressions = 0; requests = 0 }; held = 0 }

-- ---- the line that has not ended

-- q, and after it t: what stands after the last line feed
unfoldable pub last_after : List ℕ → List ℕ → List ℕ
last_after q [] = q
last_after q (b ∷ t) = cond (eqb b line_feed) (last_after [] t) (last_after (q ++ (b ∷ [])) t)

unfoldable pub last_line : List ℕ → List ℕ
last_line t = last_after [] t

-- the front of a lent line holds as much of q as there is room for
pub record Kept (q line : List ℕ) (held : ℕ) : Type 0 where
  pub room : length line ≡ line_room
  pub count : held ≡ min line_room (length q)
  pub front : take held line ≡ take line_room q

-- ---- where reading stands

-- AFTER THE TEXT t: its last line is kept, and whatever comes after, read on from there after what the tables hold, gives what the whole text gives
pub record Fed (t line : List ℕ) (p : Place) (u : Tables) : Type 0 where
  pub kept : Kept (last_line t) line p.held
  pub sized : Sized u
  pub same : (s : List ℕ) → read_from (input_in u p.counts) (text_frames (last_line t ++ s)) ≡ reading_text (t ++ s)

-- the text is refused, whatever comes after
pub record Lost (t : List ℕ) (k : Refusal) (b : Option ℕ) : Type 0 where
  pub answer : (s : List ℕ) → reading_text (t ++ s) ≡ refused k b

-- WHAT IS SAID after the text t
abbrev pub Stands : List ℕ → Result Place Refused → List ℕ → Tables → Type 0
Stands t (Err f) line u = Lost t (refusal_of f.refusal) (blame_of f.node)
Stands t (Ok p) line u = Fed t line p u

-- ---- what the functions ask and give: of some text fed so far, and then of whichever it is

abbrev pub FedAsked : List ℕ → Place → Tables → Type 0
FedAsked line p u = (t : List ℕ) × Fed t line p u

-- after more was fed
abbrev pub FedGiven : List ℕ → Place → Tables → List ℕ → Result Place Refused → List ℕ → Tables → Type 0
FedGiven line p u more r line' u' = (t : List ℕ) → Fed t line p u → Stands (t ++ more) r line' u'

-- after the end
abbrev pub FinishGiven : List ℕ → Place → Tables → Result Counts Refused → Tables → Type 0
FinishGiven line p u r u' = (t : List ℕ) → Fed t line p u → FillsText t r u'

-- a byte kept, where there is room
pub record Keeps (b : ℕ) (p : Place) (line : List ℕ) (q : Place) (line' : List ℕ) : Type 0 where
  pub counts : q.counts ≡ p.counts
  pub held : q.held ≡ cond (ltb p.held line_room) (p.held + 1) p.held
  pub list : line' ≡ cond (ltb p.held line_room) (set line p.held b) line
