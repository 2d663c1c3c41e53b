-- THE EXPORTED ANSWER OF A PLAN: the one that `plan_map` defines, told as its number; its bytes, and how many they are.
-- Assumes nothing: these are definitions.
use Rattle.std.specs.Prelude.{ℕ, ◌≡◌, true, List, length}
use Rattle.meaning.specs.Refusals.{Answer, done, answer_no, ◌then◌}
use Rattle.frames.specs.Reading.{reading}
use Rattle.planning.specs.Planning.{Goes}
use Rattle.plan_map.specs.Whole.{map_by, out_after}
use Rattle.host.specs.Numbered.{cells_told}

-- into the bytes o, counted in z
abbrev pub MapNumbered : List ℕ → List ℕ → List ℕ → List ℕ → List ℕ → List ℕ → ℕ → Type 0
MapNumbered s b o o' z z' n =
    (a : Answer (List ℕ)) × Goes b true (map_by b (length o)) (reading s) a × (n ≡ answer_no a) × (o' ≡ out_after o a) × (z' ≡ cells_told (a then λ bytes. done (length bytes)) z)
