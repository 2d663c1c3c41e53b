-- The 6 vectors of searches of the family doc, made by tools/searches_to_antt.py.
-- Assumes nothing.
use Rattle.std.specs.Prelude.{◌≡◌, refl, true, false, List, [], ◌∷◌}
use Rattle.meaning.specs.Trees.{lit, cm, mul, cell, exp, number, leaf, bin}
use Rattle.search_meaning.specs.Degrees.{full_table}
use Rattle.search_meaning.specs.Search.{search}
use Rattle.replay_meaning.specs.Replay.{expression}
use Rattle.replay_searches.specs.Replay.{Vector, vector, agree}

unfoldable pub vectors : List Vector
vectors =
    -- doc-equal-bits
    vector
    (expression (bin 2 mul (leaf 0 (cell cm 0 0)) (leaf 1 (cell cm 1 0))) false false false ∷ expression (bin 5 mul (leaf 3 (exp 0 0)) (leaf 4 (cell cm 2 0))) false false false ∷ [])
    (1 ∷ []) 3 3 1000000
    (0 ∷ 1 ∷ 10 ∷ 0 ∷ []) ∷
    -- doc-one-bit-more
    vector
    (expression (bin 2 mul (leaf 0 (cell cm 0 0)) (leaf 1 (cell cm 1 0))) false false false ∷ expression (bin 5 mul (leaf 3 (exp 0 0)) (leaf 4 (cell cm 2 0))) false false false ∷ [])
    (1 ∷ []) 3 4 1000000
    (0 ∷ 1 ∷ 12 ∷ 0 ∷ []) ∷
    -- doc-limit-12
    vector
    (expression (bin 2 mul (leaf 0 (cell cm 0 0)) (leaf 1 (cell cm 1 0))) false false false ∷ expression (bin 5 mul (leaf 3 (exp 0 0)) (leaf 4 (cell cm 2 0))) false false false ∷ [])
    (1 ∷ []) 3 4 12
    (0 ∷ 1 ∷ 12 ∷ 0 ∷ []) ∷
    -- doc-limit-11
    vector
    (expression (bin 2 mul (leaf 0 (cell cm 0 0)) (leaf 1 (cell cm 1 0))) false false false ∷ expression (bin 5 mul (leaf 3 (exp 0 0)) (leaf 4 (cell cm 2 0))) false false false ∷ [])
    (1 ∷ []) 3 4 11
    (15 ∷ []) ∷
    -- doc-identity-cm
    vector
    (expression (leaf 0 (cell cm 0 0)) false false false ∷ [])
    (0 ∷ []) 3 3 1000000
    (0 ∷ 0 ∷ 2 ∷ []) ∷
    -- doc-identity-number
    vector
    (expression (leaf 0 (number (lit false 5))) false false false ∷ [])
    (0 ∷ []) 3 3 1000000
    (14 ∷ []) ∷
    []

-- THE DEFINITIONS GIVE THE ORIGINAL'S ANSWERS
pub all-agree : agree vectors ≡ true
unfolding search full_table vectors
all-agree = refl
