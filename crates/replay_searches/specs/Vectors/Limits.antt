-- The 48 vectors of searches of the family limit, made by tools/searches_to_antt.py.
-- Assumes nothing.
use Rattle.std.specs.Prelude.{◌≡◌, refl, true, false, List, [], ◌∷◌}
use Rattle.meaning.specs.Trees.{lit, cm, q, challenge, plain_x, add, mul, addc, mulc, cell, exp, number, flat, x, leaf, bin, binc}
use Rattle.search_meaning.specs.Degrees.{full_table}
use Rattle.search_meaning.specs.Search.{search}
use Rattle.replay_meaning.specs.Replay.{expression}
use Rattle.replay_searches.specs.Replay.{Vector, vector, agree}

unfoldable pub vectors : List Vector
vectors =
    -- limit-0-doc-equal-bits
    vector
    (expression (bin 2 mul (leaf 0 (cell cm 0 0)) (leaf 1 (cell cm 1 0))) false false false ∷ expression (bin 5 mul (leaf 3 (exp 0 0)) (leaf 4 (cell cm 2 0))) false false false ∷ [])
    (1 ∷ []) 3 3 0
    (15 ∷ []) ∷
    -- limit-9-doc-equal-bits
    vector
    (expression (bin 2 mul (leaf 0 (cell cm 0 0)) (leaf 1 (cell cm 1 0))) false false false ∷ expression (bin 5 mul (leaf 3 (exp 0 0)) (leaf 4 (cell cm 2 0))) false false false ∷ [])
    (1 ∷ []) 3 3 9
    (15 ∷ []) ∷
    -- limit-10-doc-equal-bits
    vector
    (expression (bin 2 mul (leaf 0 (cell cm 0 0)) (leaf 1 (cell cm 1 0))) false false false ∷ expression (bin 5 mul (leaf 3 (exp 0 0)) (leaf 4 (cell cm 2 0))) false false false ∷ [])
    (1 ∷ []) 3 3 10
    (0 ∷ 1 ∷ 10 ∷ 0 ∷ []) ∷
    -- limit-11-doc-equal-bits
    vector
    (expression (bin 2 mul (leaf 0 (cell cm 0 0)) (leaf 1 (cell cm 1 0))) false false false ∷ expression (bin 5 mul (leaf 3 (exp 0 0)) (leaf 4 (cell cm 2 0))) false false false ∷ [])
    (1 ∷ []) 3 3 11
    (0 ∷ 1 ∷ 10 ∷ 0 ∷ []) ∷
    -- limit-0-doc-identity-cm
    vector
    (expression (leaf 0 (cell cm 0 0)) false false false ∷ [])
    (0 ∷ []) 3 3 0
    (15 ∷ []) ∷
    -- limit-1-doc-identity-cm
    vector
    (expression (leaf 0 (cell cm 0 0)) false false false ∷ [])
    (0 ∷ []) 3 3 1
    (15 ∷ []) ∷
    -- limit-2-doc-identity-cm
    vector
    (expression (leaf 0 (cell cm 0 0)) false false false ∷ [])
    (0 ∷ []) 3 3 2
    (0 ∷ 0 ∷ 2 ∷ []) ∷
    -- limit-3-doc-identity-cm
    vector
    (expression (leaf 0 (cell cm 0 0)) false false false ∷ [])
    (0 ∷ []) 3 3 3
    (0 ∷ 0 ∷ 2 ∷ []) ∷
    -- limit-0-doc-identity-number
    vector
    (expression (leaf 0 (number (lit false 5))) false false false ∷ [])
    (0 ∷ []) 3 3 0
    (15 ∷ []) ∷
    -- limit-1-doc-identity-number
    vector
    (expression (leaf 0 (number (lit false 5))) false false false ∷ [])
    (0 ∷ []) 3 3 1
    (15 ∷ []) ∷
    -- limit-2-doc-identity-number
    vector
    (expression (leaf 0 (number (lit false 5))) false false false ∷ [])
    (0 ∷ []) 3 3 2
    (14 ∷ []) ∷
    -- limit-3-doc-identity-number
    vector
    (expression (leaf 0 (number (lit false 5))) false false false ∷ [])
    (0 ∷ []) 3 3 3
    (14 ∷ []) ∷
    -- limit-0-s02-a-q-of-0-is-replaced-by-2
    vector
    (expression (bin 8 mul (bin 6 mul (bin 2 add (leaf 0 (number (lit false 1))) (leaf 1 (number (lit false 1)))) (bin 5 add (leaf 3 (number (lit false 1))) (leaf 4 (number (lit false 1))))) (leaf 7 (cell cm 0 0))) false false false ∷ [])
    (0 ∷ []) 3 4 0
    (15 ∷ []) ∷
    -- limit-11-s02-a-q-of-0-is-replaced-by-2
    vector
    (expression (bin 8 mul (bin 6 mul (bin 2 add (leaf 0 (number (lit false 1))) (leaf 1 (number (lit false 1)))) (bin 5 add (leaf 3 (number (lit false 1))) (leaf 4 (number (lit false 1))))) (leaf 7 (cell cm 0 0))) false false false ∷ [])
    (0 ∷ []) 3 4 11
    (15 ∷ []) ∷
    -- limit-12-s02-a-q-of-0-is-replaced-by-2
    vector
    (expression (bin 8 mul (bin 6 mul (bin 2 add (leaf 0 (number (lit false 1))) (leaf 1 (number (lit false 1)))) (bin 5 add (leaf 3 (number (lit false 1))) (leaf 4 (number (lit false 1))))) (leaf 7 (cell cm 0 0))) false false false ∷ [])
    (0 ∷ []) 3 4 12
    (0 ∷ 2 ∷ 12 ∷ []) ∷
    -- limit-13-s02-a-q-of-0-is-replaced-by-2
    vector
    (expression (bin 8 mul (bin 6 mul (bin 2 add (leaf 0 (number (lit false 1))) (leaf 1 (number (lit false 1)))) (bin 5 add (leaf 3 (number (lit false 1))) (leaf 4 (number (lit false 1))))) (leaf 7 (cell cm 0 0))) false false false ∷ [])
    (0 ∷ []) 3 4 13
    (0 ∷ 2 ∷ 12 ∷ []) ∷
    -- limit-0-s03-and-refused-where-it-is-the-last
    vector
    (expression (bin 10 mul (bin 6 mul (bin 2 add (leaf 0 (number (lit false 1))) (leaf 1 (number (lit false 1)))) (bin 5 add (leaf 3 (number (lit false 1))) (leaf 4 (number (lit false 1))))) (bin 9 add (leaf 7 (number (lit false 1))) (leaf 8 (number (lit false 1))))) false false false ∷ [])
    (0 ∷ []) 3 3 0
    (15 ∷ []) ∷
    -- limit-11-s03-and-refused-where-it-is-the-last
    vector
    (expression (bin 10 mul (bin 6 mul (bin 2 add (leaf 0 (number (lit false 1))) (leaf 1 (number (lit false 1)))) (bin 5 add (leaf 3 (number (lit false 1))) (leaf 4 (number (lit false 1))))) (bin 9 add (leaf 7 (number (lit false 1))) (leaf 8 (number (lit false 1))))) false false false ∷ [])
    (0 ∷ []) 3 3 11
    (15 ∷ []) ∷
    -- limit-12-s03-and-refused-where-it-is-the-last
    vector
    (expression (bin 10 mul (bin 6 mul (bin 2 add (leaf 0 (number (lit false 1))) (leaf 1 (number (lit false 1)))) (bin 5 add (leaf 3 (number (lit false 1))) (leaf 4 (number (lit false 1))))) (bin 9 add (leaf 7 (number (lit false 1))) (leaf 8 (number (lit false 1))))) false false false ∷ [])
    (0 ∷ []) 3 3 12
    (14 ∷ []) ∷
    -- limit-13-s03-and-refused-where-it-is-the-last
    vector
    (expression (bin 10 mul (bin 6 mul (bin 2 add (leaf 0 (number (lit false 1))) (leaf 1 (number (lit false 1)))) (bin 5 add (leaf 3 (number (lit false 1))) (leaf 4 (number (lit false 1))))) (bin 9 add (leaf 7 (number (lit false 1))) (leaf 8 (number (lit false 1))))) false false false ∷ [])
    (0 ∷ []) 3 3 13
    (14 ∷ []) ∷
    -- limit-0-s06-a-small-one
    vector
    (expression (bin 2 mul (leaf 0 (cell cm 0 0)) (leaf 1 (cell cm 1 0))) false false false ∷ expression (bin 7 mul (leaf 3 (exp 0 0)) (bin 6 mul (leaf 4 (exp 0 0)) (leaf 5 (cell cm 2 0)))) false false false ∷ [])
    (1 ∷ []) 3 3 0
    (15 ∷ []) ∷
    -- limit-15-s06-a-small-one
    vector
    (expression (bin 2 mul (leaf 0 (cell cm 0 0)) (leaf 1 (cell cm 1 0))) false false false ∷ expression (bin 7 mul (leaf 3 (exp 0 0)) (bin 6 mul (leaf 4 (exp 0 0)) (leaf 5 (cell cm 2 0)))) false false false ∷ [])
    (1 ∷ []) 3 3 15
    (15 ∷ []) ∷
    -- limit-16-s06-a-small-one
    vector
    (expression (bin 2 mul (leaf 0 (cell cm 0 0)) (leaf 1 (cell cm 1 0))) false false false ∷ expression (bin 7 mul (leaf 3 (exp 0 0)) (bin 6 mul (leaf 4 (exp 0 0)) (leaf 5 (cell cm 2 0)))) false false false ∷ [])
    (1 ∷ []) 3 3 16
    (13 ∷ []) ∷
    -- limit-17-s06-a-small-one
    vector
    (expression (bin 2 mul (leaf 0 (cell cm 0 0)) (leaf 1 (cell cm 1 0))) false false false ∷ expression (bin 7 mul (leaf 3 (exp 0 0)) (bin 6 mul (leaf 4 (exp 0 0)) (leaf 5 (cell cm 2 0)))) false false false ∷ [])
    (1 ∷ []) 3 3 17
    (13 ∷ []) ∷
    -- limit-0-s06-a-small-one-and-a-bit
    vector
    (expression (bin 2 mul (leaf 0 (cell cm 0 0)) (leaf 1 (cell cm 1 0))) false false false ∷ expression (bin 7 mul (leaf 3 (exp 0 0)) (bin 6 mul (leaf 4 (exp 0 0)) (leaf 5 (cell cm 2 0)))) false false false ∷ [])
    (1 ∷ []) 3 4 0
    (15 ∷ []) ∷
    -- limit-39-s06-a-small-one-and-a-bit
    vector
    (expression (bin 2 mul (leaf 0 (cell cm 0 0)) (leaf 1 (cell cm 1 0))) false false false ∷ expression (bin 7 mul (leaf 3 (exp 0 0)) (bin 6 mul (leaf 4 (exp 0 0)) (leaf 5 (cell cm 2 0)))) false false false ∷ [])
    (1 ∷ []) 3 4 39
    (15 ∷ []) ∷
    -- limit-40-s06-a-small-one-and-a-bit
    vector
    (expression (bin 2 mul (leaf 0 (cell cm 0 0)) (leaf 1 (cell cm 1 0))) false false false ∷ expression (bin 7 mul (leaf 3 (exp 0 0)) (bin 6 mul (leaf 4 (exp 0 0)) (leaf 5 (cell cm 2 0)))) false false false ∷ [])
    (1 ∷ []) 3 4 40
    (0 ∷ 2 ∷ 40 ∷ 0 ∷ []) ∷
    -- limit-41-s06-a-small-one-and-a-bit
    vector
    (expression (bin 2 mul (leaf 0 (cell cm 0 0)) (leaf 1 (cell cm 1 0))) false false false ∷ expression (bin 7 mul (leaf 3 (exp 0 0)) (bin 6 mul (leaf 4 (exp 0 0)) (leaf 5 (cell cm 2 0)))) false false false ∷ [])
    (1 ∷ []) 3 4 41
    (0 ∷ 2 ∷ 40 ∷ 0 ∷ []) ∷
    -- limit-0-s08-the-first-smallest-set-wins
    vector
    (expression (binc 3 mulc (bin 2 mul (leaf 0 (cell cm 0 0)) (leaf 1 (cell cm 1 0))) (lit false 3)) false false false ∷ expression (leaf 4 (exp 0 0)) false false false ∷ expression (binc 8 addc (bin 7 mul (leaf 5 (exp 1 0)) (leaf 6 (exp 0 0))) (lit false 1)) false false false ∷ expression (bin 15 mul (bin 11 add (leaf 9 (flat challenge 0)) (leaf 10 (cell cm 2 0))) (bin 14 mul (leaf 12 (exp 2 0)) (leaf 13 (x plain_x)))) false false false ∷ [])
    (3 ∷ []) 3 6 0
    (15 ∷ []) ∷
    -- limit-272-s08-the-first-smallest-set-wins
    vector
    (expression (binc 3 mulc (bin 2 mul (leaf 0 (cell cm 0 0)) (leaf 1 (cell cm 1 0))) (lit false 3)) false false false ∷ expression (leaf 4 (exp 0 0)) false false false ∷ expression (binc 8 addc (bin 7 mul (leaf 5 (exp 1 0)) (leaf 6 (exp 0 0))) (lit false 1)) false false false ∷ expression (bin 15 mul (bin 11 add (leaf 9 (flat challenge 0)) (leaf 10 (cell cm 2 0))) (bin 14 mul (leaf 12 (exp 2 0)) (leaf 13 (x plain_x)))) false false false ∷ [])
    (3 ∷ []) 3 6 272
    (15 ∷ []) ∷
    -- limit-273-s08-the-first-smallest-set-wins
    vector
    (expression (binc 3 mulc (bin 2 mul (leaf 0 (cell cm 0 0)) (leaf 1 (cell cm 1 0))) (lit false 3)) false false false ∷ expression (leaf 4 (exp 0 0)) false false false ∷ expression (binc 8 addc (bin 7 mul (leaf 5 (exp 1 0)) (leaf 6 (exp 0 0))) (lit false 1)) false false false ∷ expression (bin 15 mul (bin 11 add (leaf 9 (flat challenge 0)) (leaf 10 (cell cm 2 0))) (bin 14 mul (leaf 12 (exp 2 0)) (leaf 13 (x plain_x)))) false false false ∷ [])
    (3 ∷ []) 3 6 273
    (0 ∷ 2 ∷ 273 ∷ 1 ∷ 2 ∷ []) ∷
    -- limit-274-s08-the-first-smallest-set-wins
    vector
    (expression (binc 3 mulc (bin 2 mul (leaf 0 (cell cm 0 0)) (leaf 1 (cell cm 1 0))) (lit false 3)) false false false ∷ expression (leaf 4 (exp 0 0)) false false false ∷ expression (binc 8 addc (bin 7 mul (leaf 5 (exp 1 0)) (leaf 6 (exp 0 0))) (lit false 1)) false false false ∷ expression (bin 15 mul (bin 11 add (leaf 9 (flat challenge 0)) (leaf 10 (cell cm 2 0))) (bin 14 mul (leaf 12 (exp 2 0)) (leaf 13 (x plain_x)))) false false false ∷ [])
    (3 ∷ []) 3 6 274
    (0 ∷ 2 ∷ 273 ∷ 1 ∷ 2 ∷ []) ∷
    -- limit-0-s09-two-bits-more
    vector
    (expression (bin 4 mul (leaf 0 (cell cm 0 0)) (bin 3 mul (leaf 1 (cell cm 1 0)) (leaf 2 (cell cm 2 0)))) false false false ∷ expression (bin 7 mul (leaf 5 (exp 0 0)) (leaf 6 (cell cm 3 0))) false false false ∷ [])
    (1 ∷ []) 3 5 0
    (15 ∷ []) ∷
    -- limit-50-s09-two-bits-more
    vector
    (expression (bin 4 mul (leaf 0 (cell cm 0 0)) (bin 3 mul (leaf 1 (cell cm 1 0)) (leaf 2 (cell cm 2 0)))) false false false ∷ expression (bin 7 mul (leaf 5 (exp 0 0)) (leaf 6 (cell cm 3 0))) false false false ∷ [])
    (1 ∷ []) 3 5 50
    (15 ∷ []) ∷
    -- limit-51-s09-two-bits-more
    vector
    (expression (bin 4 mul (leaf 0 (cell cm 0 0)) (bin 3 mul (leaf 1 (cell cm 1 0)) (leaf 2 (cell cm 2 0)))) false false false ∷ expression (bin 7 mul (leaf 5 (exp 0 0)) (leaf 6 (cell cm 3 0))) false false false ∷ [])
    (1 ∷ []) 3 5 51
    (0 ∷ 2 ∷ 51 ∷ 0 ∷ []) ∷
    -- limit-52-s09-two-bits-more
    vector
    (expression (bin 4 mul (leaf 0 (cell cm 0 0)) (bin 3 mul (leaf 1 (cell cm 1 0)) (leaf 2 (cell cm 2 0)))) false false false ∷ expression (bin 7 mul (leaf 5 (exp 0 0)) (leaf 6 (cell cm 3 0))) false false false ∷ [])
    (1 ∷ []) 3 5 52
    (0 ∷ 2 ∷ 51 ∷ 0 ∷ []) ∷
    -- limit-0-s10-a-kind-before-no-set
    vector
    (expression (bin 6 add (leaf 0 (cell q 0 0)) (bin 5 mul (bin 3 mul (leaf 1 (cell cm 0 0)) (leaf 2 (cell cm 1 0))) (leaf 4 (cell cm 2 0)))) false false false ∷ [])
    (0 ∷ []) 3 3 0
    (15 ∷ []) ∷
    -- limit-2-s10-a-kind-before-no-set
    vector
    (expression (bin 6 add (leaf 0 (cell q 0 0)) (bin 5 mul (bin 3 mul (leaf 1 (cell cm 0 0)) (leaf 2 (cell cm 1 0))) (leaf 4 (cell cm 2 0)))) false false false ∷ [])
    (0 ∷ []) 3 3 2
    (15 ∷ []) ∷
    -- limit-3-s10-a-kind-before-no-set
    vector
    (expression (bin 6 add (leaf 0 (cell q 0 0)) (bin 5 mul (bin 3 mul (leaf 1 (cell cm 0 0)) (leaf 2 (cell cm 1 0))) (leaf 4 (cell cm 2 0)))) false false false ∷ [])
    (0 ∷ []) 3 3 3
    (6 ∷ []) ∷
    -- limit-4-s10-a-kind-before-no-set
    vector
    (expression (bin 6 add (leaf 0 (cell q 0 0)) (bin 5 mul (bin 3 mul (leaf 1 (cell cm 0 0)) (leaf 2 (cell cm 1 0))) (leaf 4 (cell cm 2 0)))) false false false ∷ [])
    (0 ∷ []) 3 3 4
    (6 ∷ []) ∷
    -- limit-0-s14-two-bits-more
    vector
    (expression (bin 2 mul (leaf 0 (cell cm 0 0)) (leaf 1 (cell cm 1 0))) false false false ∷ expression (bin 5 mul (leaf 3 (exp 0 0)) (leaf 4 (exp 0 1))) false false false ∷ expression (bin 8 mul (leaf 6 (exp 1 0)) (leaf 7 (cell cm 2 0))) false false false ∷ [])
    (2 ∷ []) 3 5 0
    (15 ∷ []) ∷
    -- limit-92-s14-two-bits-more
    vector
    (expression (bin 2 mul (leaf 0 (cell cm 0 0)) (leaf 1 (cell cm 1 0))) false false false ∷ expression (bin 5 mul (leaf 3 (exp 0 0)) (leaf 4 (exp 0 1))) false false false ∷ expression (bin 8 mul (leaf 6 (exp 1 0)) (leaf 7 (cell cm 2 0))) false false false ∷ [])
    (2 ∷ []) 3 5 92
    (15 ∷ []) ∷
    -- limit-93-s14-two-bits-more
    vector
    (expression (bin 2 mul (leaf 0 (cell cm 0 0)) (leaf 1 (cell cm 1 0))) false false false ∷ expression (bin 5 mul (leaf 3 (exp 0 0)) (leaf 4 (exp 0 1))) false false false ∷ expression (bin 8 mul (leaf 6 (exp 1 0)) (leaf 7 (cell cm 2 0))) false false false ∷ [])
    (2 ∷ []) 3 5 93
    (0 ∷ 1 ∷ 93 ∷ 0 ∷ 1 ∷ []) ∷
    -- limit-94-s14-two-bits-more
    vector
    (expression (bin 2 mul (leaf 0 (cell cm 0 0)) (leaf 1 (cell cm 1 0))) false false false ∷ expression (bin 5 mul (leaf 3 (exp 0 0)) (leaf 4 (exp 0 1))) false false false ∷ expression (bin 8 mul (leaf 6 (exp 1 0)) (leaf 7 (cell cm 2 0))) false false false ∷ [])
    (2 ∷ []) 3 5 94
    (0 ∷ 1 ∷ 93 ∷ 0 ∷ 1 ∷ []) ∷
    -- limit-0-edge-06-q-times-a-cube
    vector
    (expression (bin 6 mul (leaf 0 (cell q 1 0)) (bin 5 mul (bin 3 mul (leaf 1 (cell cm 0 0)) (leaf 2 (cell cm 1 0))) (leaf 4 (cell cm 2 0)))) false false false ∷ [])
    (0 ∷ []) 3 4 0
    (15 ∷ []) ∷
    -- limit-1-edge-06-q-times-a-cube
    vector
    (expression (bin 6 mul (leaf 0 (cell q 1 0)) (bin 5 mul (bin 3 mul (leaf 1 (cell cm 0 0)) (leaf 2 (cell cm 1 0))) (leaf 4 (cell cm 2 0)))) false false false ∷ [])
    (0 ∷ []) 3 4 1
    (15 ∷ []) ∷
    -- limit-2-edge-06-q-times-a-cube
    vector
    (expression (bin 6 mul (leaf 0 (cell q 1 0)) (bin 5 mul (bin 3 mul (leaf 1 (cell cm 0 0)) (leaf 2 (cell cm 1 0))) (leaf 4 (cell cm 2 0)))) false false false ∷ [])
    (0 ∷ []) 3 4 2
    (6 ∷ []) ∷
    -- limit-3-edge-06-q-times-a-cube
    vector
    (expression (bin 6 mul (leaf 0 (cell q 1 0)) (bin 5 mul (bin 3 mul (leaf 1 (cell cm 0 0)) (leaf 2 (cell cm 1 0))) (leaf 4 (cell cm 2 0)))) false false false ∷ [])
    (0 ∷ []) 3 4 3
    (6 ∷ []) ∷
    []

-- THE DEFINITIONS GIVE THE ORIGINAL'S ANSWERS
pub all-agree : agree vectors ≡ true
unfolding search full_table vectors
all-agree = refl
