-- The definition of the degree search run on stored questions, and its answers as numbers, to be compared with the original's.
-- Assumes nothing: these are definitions.
use Rattle.std.specs.Prelude.{ℕ, Bool, true, ◌&&◌, List, [], ◌∷◌}
use Rattle.std.proofs.Math.Option.{some}
use Rattle.meaning.specs.Refusals.{number, Answer, done, refused}
use Rattle.meaning.specs.Trees.{Forest}
use Rattle.replay_meaning.specs.Replay.{same}
use Rattle.search_meaning.specs.Search.{Choice, search}

-- a pool, identities, n_bits, n_bits_ext, the visits allowed, and the original's answer
pub data Vector : Type 0 where
  vector : Forest → List ℕ → ℕ → ℕ → ℕ → List ℕ → Vector

-- an accepted search: 0, q, visits, and the members; a refused one: its number
abbrev numbers : Answer Choice → List ℕ
numbers (done x) = 0 ∷ x.q ∷ x.visits ∷ x.set
numbers (refused r n) = number r ∷ []

-- the number of the challenge vc, which no search looks at
abbrev vc : ℕ
vc = 0

abbrev agrees : Vector → Bool
agrees (vector E es n ext limit expected) = same (numbers (search E es vc n ext (some limit))) expected

-- each answer is the original's
abbrev pub agree : List Vector → Bool
agree [] = true
agree (v ∷ vs) = agrees v && agree vs
