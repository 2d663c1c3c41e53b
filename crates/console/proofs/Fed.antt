-- A text fed piece by piece. No word of the code.
-- Assumes nothing.
use Prim.Native.Nat.{ℕ}
use mathlib.Core.Path.{◌≡◌, sym, subst}
use mathlib.Core.List.{List, []}
use Rattle.std.specs.Prelude.{Result, Ok, Err}
use Rattle.kinds.specs.declared.refusal.Refused.{Refused}
use Rattle.frames.specs.Tables.{Tables}
use Rattle.feed.specs.Feeding.{fresh, Fed, Stands}
use Rattle.feed.specs.Laws.{fed-none}
use Rattle.feed.specs.declared.feed.Place.{Place}
use Rattle.console.specs.Reading.{ReadAsked, ReadGiven}

-- where reading stands after some text
abbrev pub Reached : List ℕ → Place → Tables → Type 0
Reached line p u = (t : List ℕ) × Fed t line p u

pub begin : {line : List ℕ} {u : Tables} → ReadAsked line u → {p : Place} → p ≡ fresh → Reached line p u
begin {line} {u} a e = ([], subst (λ z. Fed [] line z u) (sym e) (fed-none line u a.room a.sized))

module _ (t : List ℕ) (r : Result Place Refused) (line : List ℕ) (u : Tables) (s : Stands t r line u) where
  pub stopped : {f : Refused} → r ≡ Err f → ReadGiven (Err f) line u
  stopped e = (t, subst (λ z. Stands t z line u) e s)

  pub fed : {p : Place} → r ≡ Ok p → Reached line p u
  fed e = (t, subst (λ z. Stands t z line u) e s)
