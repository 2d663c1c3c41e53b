-- The 9 vectors of searches of the family order, made by tools/searches_to_antt.py.
-- Assumes nothing.
use Rattle.std.specs.Prelude.{◌≡◌, refl, true, false, List, [], ◌∷◌}
use Rattle.meaning.specs.Trees.{lit, cm, q, mul, cell, exp, number, leaf, bin}
use Rattle.search_meaning.specs.Degrees.{full_table}
use Rattle.search_meaning.specs.Search.{search}
use Rattle.replay_meaning.specs.Replay.{expression}
use Rattle.replay_searches.specs.Replay.{Vector, vector, agree}

unfoldable pub vectors : List Vector
vectors =
    -- order-17-before-16
    vector
    (expression (bin 2 mul (leaf 0 (cell cm 0 0)) (leaf 1 (cell cm 1 0))) false false false ∷ expression (bin 5 mul (leaf 3 (exp 0 0)) (leaf 4 (cell cm 2 0))) false false false ∷ [])
    ([]) 25 3 0
    (17 ∷ []) ∷
    -- order-16-before-3
    vector
    (expression (bin 2 mul (leaf 0 (cell cm 0 0)) (leaf 1 (cell cm 1 0))) false false false ∷ expression (bin 5 mul (leaf 3 (exp 0 0)) (leaf 4 (cell cm 2 0))) false false false ∷ [])
    (9 ∷ []) 25 3 0
    (16 ∷ []) ∷
    -- order-3-before-15
    vector
    (expression (bin 2 mul (leaf 0 (cell cm 0 0)) (leaf 1 (cell cm 1 0))) false false false ∷ expression (bin 5 mul (leaf 3 (exp 0 0)) (leaf 4 (cell cm 2 0))) false false false ∷ [])
    (9 ∷ []) 3 3 0
    (3 ∷ []) ∷
    -- order-3-before-6
    vector
    (expression (leaf 0 (cell q 0 0)) false false false ∷ [])
    (0 ∷ 9 ∷ []) 3 3 1000000
    (3 ∷ []) ∷
    -- order-15-before-6
    vector
    (expression (leaf 0 (cell q 0 0)) false false false ∷ [])
    (0 ∷ []) 3 3 1
    (15 ∷ []) ∷
    -- order-6-at-its-visit
    vector
    (expression (leaf 0 (cell q 0 0)) false false false ∷ [])
    (0 ∷ []) 3 3 2
    (6 ∷ []) ∷
    -- order-15-before-13
    vector
    (expression (bin 4 mul (bin 2 mul (leaf 0 (cell cm 0 0)) (leaf 1 (cell cm 1 0))) (leaf 3 (cell cm 2 0))) false false false ∷ [])
    (0 ∷ []) 3 3 13
    (15 ∷ []) ∷
    -- order-15-before-14
    vector
    (expression (leaf 0 (number (lit false 5))) false false false ∷ [])
    (0 ∷ []) 3 3 1
    (15 ∷ []) ∷
    -- order-14-at-its-visit
    vector
    (expression (leaf 0 (number (lit false 5))) false false false ∷ [])
    (0 ∷ []) 3 3 2
    (14 ∷ []) ∷
    []

-- THE DEFINITIONS GIVE THE ORIGINAL'S ANSWERS
pub all-agree : agree vectors ≡ true
unfolding search full_table vectors
all-agree = refl
