-- The number that an entry gets, by its form. Assumes nothing: these are definitions.
use Rattle.std.specs.Prelude.{ℕ, ◌≡◌, List}
use Rattle.pool.specs.Numbered.{Numbered, NumberedText}

-- form 1 is a text of hexadecimal lines, any other frames
pub record NumberedAs (form : ℕ) (s : List ℕ) (r : ℕ) : Type 0 where
  pub text : form ≡ 1 → NumberedText s r
  pub frames : (form ≡ 1 → ⊥) → Numbered s r
