-- One of the lists before or after a walk.
-- Assumes nothing: this is a definition.
use Rattle.std.specs.Prelude.{ℕ, List, [], get_or}

abbrev pub nth_of : ℕ → List (List ℕ) → List ℕ
nth_of k ls = get_or ls k []
