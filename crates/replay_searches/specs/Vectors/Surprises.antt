-- The 38 vectors of searches of the family s, made by tools/searches_to_antt.py.
-- Assumes nothing.
use Rattle.std.specs.Prelude.{◌≡◌, refl, true, false, List, [], ◌∷◌}
use Rattle.meaning.specs.Trees.{lit, cm, q, challenge, eval, x_div_x_sub_xi, plain_x, add, mul, addc, mulc, cell, exp, number, flat, x, leaf, bin, binc, neg}
use Rattle.search_meaning.specs.Degrees.{full_table}
use Rattle.search_meaning.specs.Search.{search}
use Rattle.replay_meaning.specs.Replay.{expression}
use Rattle.replay_searches.specs.Replay.{Vector, vector, agree}

unfoldable pub vectors : List Vector
vectors =
    -- s01-no-set-at-any-d
    vector
    (expression (bin 4 mul (bin 2 mul (leaf 0 (cell cm 0 0)) (leaf 1 (cell cm 1 0))) (leaf 3 (cell cm 2 0))) false false false ∷ [])
    (0 ∷ []) 3 3 1000000
    (13 ∷ []) ∷
    -- s01-the-14-visits-of-it
    vector
    (expression (bin 4 mul (bin 2 mul (leaf 0 (cell cm 0 0)) (leaf 1 (cell cm 1 0))) (leaf 3 (cell cm 2 0))) false false false ∷ [])
    (0 ∷ []) 3 3 14
    (13 ∷ []) ∷
    -- s01-one-visit-less
    vector
    (expression (bin 4 mul (bin 2 mul (leaf 0 (cell cm 0 0)) (leaf 1 (cell cm 1 0))) (leaf 3 (cell cm 2 0))) false false false ∷ [])
    (0 ∷ []) 3 3 13
    (15 ∷ []) ∷
    -- s02-a-q-of-0-is-replaced-by-2
    vector
    (expression (bin 8 mul (bin 6 mul (bin 2 add (leaf 0 (number (lit false 1))) (leaf 1 (number (lit false 1)))) (bin 5 add (leaf 3 (number (lit false 1))) (leaf 4 (number (lit false 1))))) (leaf 7 (cell cm 0 0))) false false false ∷ [])
    (0 ∷ []) 3 4 1000000
    (0 ∷ 2 ∷ 12 ∷ []) ∷
    -- s02-and-kept-where-it-is-the-last
    vector
    (expression (bin 8 mul (bin 6 mul (bin 2 add (leaf 0 (number (lit false 1))) (leaf 1 (number (lit false 1)))) (bin 5 add (leaf 3 (number (lit false 1))) (leaf 4 (number (lit false 1))))) (leaf 7 (cell cm 0 0))) false false false ∷ [])
    (0 ∷ []) 3 3 1000000
    (0 ∷ 0 ∷ 10 ∷ []) ∷
    -- s03-a-q-of-minus-1-is-replaced-by-2
    vector
    (expression (bin 10 mul (bin 6 mul (bin 2 add (leaf 0 (number (lit false 1))) (leaf 1 (number (lit false 1)))) (bin 5 add (leaf 3 (number (lit false 1))) (leaf 4 (number (lit false 1))))) (bin 9 add (leaf 7 (number (lit false 1))) (leaf 8 (number (lit false 1))))) false false false ∷ [])
    (0 ∷ []) 3 4 1000000
    (0 ∷ 2 ∷ 14 ∷ []) ∷
    -- s03-and-refused-where-it-is-the-last
    vector
    (expression (bin 10 mul (bin 6 mul (bin 2 add (leaf 0 (number (lit false 1))) (leaf 1 (number (lit false 1)))) (bin 5 add (leaf 3 (number (lit false 1))) (leaf 4 (number (lit false 1))))) (bin 9 add (leaf 7 (number (lit false 1))) (leaf 8 (number (lit false 1))))) false false false ∷ [])
    (0 ∷ []) 3 3 1000000
    (14 ∷ []) ∷
    -- s04-a-sums-full-degree-is-at-least-1
    vector
    (expression (bin 3 mul (neg 1 (leaf 0 (number (lit false 5)))) (leaf 2 (cell cm 0 0))) false false false ∷ [])
    (0 ∷ []) 3 3 1000000
    (0 ∷ 1 ∷ 2 ∷ []) ∷
    -- s04-its-degree-in-a-visit-starts-at-0
    vector
    (expression (neg 1 (leaf 0 (number (lit false 5)))) false false false ∷ [])
    (0 ∷ []) 3 3 1000000
    (14 ∷ []) ∷
    -- s05-the-full-degree-ignores-the-set
    vector
    (expression (bin 2 mul (leaf 0 (cell cm 0 0)) (leaf 1 (cell cm 1 0))) false false false ∷ expression (bin 9 add (bin 5 mul (leaf 3 (exp 0 0)) (leaf 4 (cell cm 2 0))) (bin 8 mul (leaf 6 (exp 0 0)) (leaf 7 (cell cm 3 0)))) false false false ∷ [])
    (1 ∷ []) 3 3 1000000
    (0 ∷ 1 ∷ 16 ∷ 0 ∷ []) ∷
    -- s05-through-the-bodies-of-members
    vector
    (expression (bin 2 mul (leaf 0 (cell cm 0 0)) (leaf 1 (cell cm 1 0))) false false false ∷ expression (bin 5 mul (leaf 3 (exp 0 0)) (leaf 4 (cell cm 2 0))) false false false ∷ expression (bin 8 mul (leaf 6 (exp 1 0)) (leaf 7 (cell cm 3 0))) false false false ∷ expression (bin 11 mul (leaf 9 (exp 2 0)) (leaf 10 (exp 0 0))) false false false ∷ [])
    (3 ∷ []) 3 3 1000000
    (0 ∷ 1 ∷ 58 ∷ 0 ∷ 1 ∷ 2 ∷ []) ∷
    -- s05-two-bits-more
    vector
    (expression (bin 2 mul (leaf 0 (cell cm 0 0)) (leaf 1 (cell cm 1 0))) false false false ∷ expression (bin 5 mul (leaf 3 (exp 0 0)) (leaf 4 (cell cm 2 0))) false false false ∷ expression (bin 8 mul (leaf 6 (exp 1 0)) (leaf 7 (cell cm 3 0))) false false false ∷ expression (bin 11 mul (leaf 9 (exp 2 0)) (leaf 10 (exp 0 0))) false false false ∷ [])
    (3 ∷ []) 3 5 1000000
    (0 ∷ 1 ∷ 148 ∷ 0 ∷ 1 ∷ 2 ∷ []) ∷
    -- s06-branches-thrown-away-count
    vector
    (expression (bin 2 mul (leaf 0 (cell cm 0 0)) (leaf 1 (cell cm 1 0))) false false false ∷ expression (bin 5 mul (leaf 3 (exp 0 0)) (leaf 4 (cell cm 2 0))) false false false ∷ expression (bin 12 add (bin 8 mul (leaf 6 (exp 0 0)) (leaf 7 (exp 0 0))) (bin 11 mul (leaf 9 (exp 1 0)) (leaf 10 (exp 0 0)))) false false false ∷ expression (bin 15 mul (leaf 13 (exp 2 0)) (leaf 14 (exp 0 0))) false false false ∷ expression (binc 17 addc (leaf 16 (number (lit false 7))) (lit false 1)) false false false ∷ expression (bin 24 mul (bin 20 mul (leaf 18 (exp 3 0)) (leaf 19 (exp 2 0))) (bin 23 mul (leaf 21 (exp 2 0)) (leaf 22 (cell cm 3 0)))) false false false ∷ expression (bin 32 mul (bin 28 mul (leaf 25 (exp 3 0)) (binc 27 addc (leaf 26 (number (lit false 7))) (lit false 1))) (bin 31 mul (leaf 29 (exp 4 0)) (leaf 30 (exp 5 0)))) false false false ∷ [])
    (6 ∷ []) 3 6 1000000
    (0 ∷ 3 ∷ 14753 ∷ 1 ∷ 2 ∷ 3 ∷ 5 ∷ []) ∷
    -- s06-its-14753-visits
    vector
    (expression (bin 2 mul (leaf 0 (cell cm 0 0)) (leaf 1 (cell cm 1 0))) false false false ∷ expression (bin 5 mul (leaf 3 (exp 0 0)) (leaf 4 (cell cm 2 0))) false false false ∷ expression (bin 12 add (bin 8 mul (leaf 6 (exp 0 0)) (leaf 7 (exp 0 0))) (bin 11 mul (leaf 9 (exp 1 0)) (leaf 10 (exp 0 0)))) false false false ∷ expression (bin 15 mul (leaf 13 (exp 2 0)) (leaf 14 (exp 0 0))) false false false ∷ expression (binc 17 addc (leaf 16 (number (lit false 7))) (lit false 1)) false false false ∷ expression (bin 24 mul (bin 20 mul (leaf 18 (exp 3 0)) (leaf 19 (exp 2 0))) (bin 23 mul (leaf 21 (exp 2 0)) (leaf 22 (cell cm 3 0)))) false false false ∷ expression (bin 32 mul (bin 28 mul (leaf 25 (exp 3 0)) (binc 27 addc (leaf 26 (number (lit false 7))) (lit false 1))) (bin 31 mul (leaf 29 (exp 4 0)) (leaf 30 (exp 5 0)))) false false false ∷ [])
    (6 ∷ []) 3 6 14753
    (0 ∷ 3 ∷ 14753 ∷ 1 ∷ 2 ∷ 3 ∷ 5 ∷ []) ∷
    -- s06-one-visit-less
    vector
    (expression (bin 2 mul (leaf 0 (cell cm 0 0)) (leaf 1 (cell cm 1 0))) false false false ∷ expression (bin 5 mul (leaf 3 (exp 0 0)) (leaf 4 (cell cm 2 0))) false false false ∷ expression (bin 12 add (bin 8 mul (leaf 6 (exp 0 0)) (leaf 7 (exp 0 0))) (bin 11 mul (leaf 9 (exp 1 0)) (leaf 10 (exp 0 0)))) false false false ∷ expression (bin 15 mul (leaf 13 (exp 2 0)) (leaf 14 (exp 0 0))) false false false ∷ expression (binc 17 addc (leaf 16 (number (lit false 7))) (lit false 1)) false false false ∷ expression (bin 24 mul (bin 20 mul (leaf 18 (exp 3 0)) (leaf 19 (exp 2 0))) (bin 23 mul (leaf 21 (exp 2 0)) (leaf 22 (cell cm 3 0)))) false false false ∷ expression (bin 32 mul (bin 28 mul (leaf 25 (exp 3 0)) (binc 27 addc (leaf 26 (number (lit false 7))) (lit false 1))) (bin 31 mul (leaf 29 (exp 4 0)) (leaf 30 (exp 5 0)))) false false false ∷ [])
    (6 ∷ []) 3 6 14752
    (15 ∷ []) ∷
    -- s06-a-small-one
    vector
    (expression (bin 2 mul (leaf 0 (cell cm 0 0)) (leaf 1 (cell cm 1 0))) false false false ∷ expression (bin 7 mul (leaf 3 (exp 0 0)) (bin 6 mul (leaf 4 (exp 0 0)) (leaf 5 (cell cm 2 0)))) false false false ∷ [])
    (1 ∷ []) 3 3 1000000
    (13 ∷ []) ∷
    -- s06-a-small-one-and-a-bit
    vector
    (expression (bin 2 mul (leaf 0 (cell cm 0 0)) (leaf 1 (cell cm 1 0))) false false false ∷ expression (bin 7 mul (leaf 3 (exp 0 0)) (bin 6 mul (leaf 4 (exp 0 0)) (leaf 5 (cell cm 2 0)))) false false false ∷ [])
    (1 ∷ []) 3 4 1000000
    (0 ∷ 2 ∷ 40 ∷ 0 ∷ []) ∷
    -- s08-the-first-smallest-set-wins
    vector
    (expression (binc 3 mulc (bin 2 mul (leaf 0 (cell cm 0 0)) (leaf 1 (cell cm 1 0))) (lit false 3)) false false false ∷ expression (leaf 4 (exp 0 0)) false false false ∷ expression (binc 8 addc (bin 7 mul (leaf 5 (exp 1 0)) (leaf 6 (exp 0 0))) (lit false 1)) false false false ∷ expression (bin 15 mul (bin 11 add (leaf 9 (flat challenge 0)) (leaf 10 (cell cm 2 0))) (bin 14 mul (leaf 12 (exp 2 0)) (leaf 13 (x plain_x)))) false false false ∷ [])
    (3 ∷ []) 3 6 1000000
    (0 ∷ 2 ∷ 273 ∷ 1 ∷ 2 ∷ []) ∷
    -- s09-a-body-is-read-with-d
    vector
    (expression (bin 4 mul (leaf 0 (cell cm 0 0)) (bin 3 mul (leaf 1 (cell cm 1 0)) (leaf 2 (cell cm 2 0)))) false false false ∷ expression (bin 7 mul (leaf 5 (exp 0 0)) (leaf 6 (cell cm 3 0))) false false false ∷ [])
    (1 ∷ []) 3 4 1000000
    (0 ∷ 2 ∷ 47 ∷ 0 ∷ []) ∷
    -- s09-and-gives-no-set-below-its-degree
    vector
    (expression (bin 4 mul (leaf 0 (cell cm 0 0)) (bin 3 mul (leaf 1 (cell cm 1 0)) (leaf 2 (cell cm 2 0)))) false false false ∷ expression (bin 7 mul (leaf 5 (exp 0 0)) (leaf 6 (cell cm 3 0))) false false false ∷ [])
    (1 ∷ []) 3 3 1000000
    (13 ∷ []) ∷
    -- s09-two-bits-more
    vector
    (expression (bin 4 mul (leaf 0 (cell cm 0 0)) (bin 3 mul (leaf 1 (cell cm 1 0)) (leaf 2 (cell cm 2 0)))) false false false ∷ expression (bin 7 mul (leaf 5 (exp 0 0)) (leaf 6 (cell cm 3 0))) false false false ∷ [])
    (1 ∷ []) 3 5 1000000
    (0 ∷ 2 ∷ 51 ∷ 0 ∷ []) ∷
    -- s10-no-set-before-a-kind
    vector
    (expression (bin 6 add (bin 4 mul (bin 2 mul (leaf 0 (cell cm 0 0)) (leaf 1 (cell cm 1 0))) (leaf 3 (cell cm 2 0))) (leaf 5 (cell q 0 0))) false false false ∷ [])
    (0 ∷ []) 3 3 1000000
    (13 ∷ []) ∷
    -- s10-its-16-visits
    vector
    (expression (bin 6 add (bin 4 mul (bin 2 mul (leaf 0 (cell cm 0 0)) (leaf 1 (cell cm 1 0))) (leaf 3 (cell cm 2 0))) (leaf 5 (cell q 0 0))) false false false ∷ [])
    (0 ∷ []) 3 3 16
    (13 ∷ []) ∷
    -- s10-one-visit-less
    vector
    (expression (bin 6 add (bin 4 mul (bin 2 mul (leaf 0 (cell cm 0 0)) (leaf 1 (cell cm 1 0))) (leaf 3 (cell cm 2 0))) (leaf 5 (cell q 0 0))) false false false ∷ [])
    (0 ∷ []) 3 3 15
    (15 ∷ []) ∷
    -- s10-a-kind-before-no-set
    vector
    (expression (bin 6 add (leaf 0 (cell q 0 0)) (bin 5 mul (bin 3 mul (leaf 1 (cell cm 0 0)) (leaf 2 (cell cm 1 0))) (leaf 4 (cell cm 2 0)))) false false false ∷ [])
    (0 ∷ []) 3 3 1000000
    (6 ∷ []) ∷
    -- s10-its-3-visits
    vector
    (expression (bin 6 add (leaf 0 (cell q 0 0)) (bin 5 mul (bin 3 mul (leaf 1 (cell cm 0 0)) (leaf 2 (cell cm 1 0))) (leaf 4 (cell cm 2 0)))) false false false ∷ [])
    (0 ∷ []) 3 3 3
    (6 ∷ []) ∷
    -- s10-2-visits-are-not-enough
    vector
    (expression (bin 6 add (leaf 0 (cell q 0 0)) (bin 5 mul (bin 3 mul (leaf 1 (cell cm 0 0)) (leaf 2 (cell cm 1 0))) (leaf 4 (cell cm 2 0)))) false false false ∷ [])
    (0 ∷ []) 3 3 2
    (15 ∷ []) ∷
    -- s11-eval-in-a-product-is-not-visited
    vector
    (expression (bin 2 mul (leaf 0 (flat eval 0)) (leaf 1 (cell cm 0 0))) false false false ∷ [])
    (0 ∷ []) 3 3 1000000
    (0 ∷ 0 ∷ 2 ∷ []) ∷
    -- s11-eval-in-a-sum
    vector
    (expression (bin 2 add (leaf 0 (flat eval 0)) (leaf 1 (cell cm 0 0))) false false false ∷ [])
    (0 ∷ []) 3 3 1000000
    (6 ∷ []) ∷
    -- s11-eval-beside-a-number
    vector
    (expression (bin 2 mul (leaf 0 (number (lit false 3))) (leaf 1 (flat eval 0))) false false false ∷ [])
    (0 ∷ []) 3 3 1000000
    (6 ∷ []) ∷
    -- s11-eval-by-eval
    vector
    (expression (bin 2 mul (leaf 0 (flat eval 0)) (leaf 1 (flat eval 0))) false false false ∷ [])
    (0 ∷ []) 3 3 1000000
    (14 ∷ []) ∷
    -- s11-eval-where-a-product-is-split
    vector
    (expression (bin 6 mul (leaf 0 (flat eval 0)) (bin 5 mul (leaf 1 (cell cm 0 0)) (bin 4 mul (leaf 2 (cell cm 1 0)) (leaf 3 (cell cm 2 0))))) false false false ∷ [])
    (0 ∷ []) 3 4 1000000
    (6 ∷ []) ∷
    -- s12-a-number-skips-the-full-degree
    vector
    (expression (bin 2 mul (leaf 0 (number (lit false 3))) (leaf 1 (x x_div_x_sub_xi))) false false false ∷ [])
    (0 ∷ []) 3 3 1000000
    (6 ∷ []) ∷
    -- s12-and-without-it-the-product-meets-it
    vector
    (expression (bin 2 mul (leaf 0 (cell cm 0 0)) (leaf 1 (x x_div_x_sub_xi))) false false false ∷ [])
    (0 ∷ []) 3 3 1000000
    (6 ∷ []) ∷
    -- s12-a-bare-x
    vector
    (expression (leaf 0 (x plain_x)) false false false ∷ [])
    (0 ∷ []) 3 3 1000000
    (0 ∷ 0 ∷ 2 ∷ []) ∷
    -- s14-primed-or-not-is-one-member
    vector
    (expression (bin 2 mul (leaf 0 (cell cm 0 0)) (leaf 1 (cell cm 1 0))) false false false ∷ expression (bin 5 mul (leaf 3 (exp 0 0)) (leaf 4 (exp 0 1))) false false false ∷ expression (bin 8 mul (leaf 6 (exp 1 0)) (leaf 7 (cell cm 2 0))) false false false ∷ [])
    (2 ∷ []) 3 3 1000000
    (0 ∷ 1 ∷ 26 ∷ 0 ∷ 1 ∷ []) ∷
    -- s14-two-bits-more
    vector
    (expression (bin 2 mul (leaf 0 (cell cm 0 0)) (leaf 1 (cell cm 1 0))) false false false ∷ expression (bin 5 mul (leaf 3 (exp 0 0)) (leaf 4 (exp 0 1))) false false false ∷ expression (bin 8 mul (leaf 6 (exp 1 0)) (leaf 7 (cell cm 2 0))) false false false ∷ [])
    (2 ∷ []) 3 5 1000000
    (0 ∷ 1 ∷ 93 ∷ 0 ∷ 1 ∷ []) ∷
    -- s15-a-search-that-is-accepted
    vector
    (expression (bin 2 mul (leaf 0 (cell cm 0 1)) (leaf 1 (cell cm 1 0))) false false false ∷ expression (bin 5 mul (leaf 3 (exp 0 1)) (leaf 4 (cell cm 2 0))) false false false ∷ expression (bin 8 mul (leaf 6 (exp 1 0)) (leaf 7 (cell cm 3 0))) false false false ∷ [])
    (2 ∷ []) 3 3 1000000
    (0 ∷ 1 ∷ 26 ∷ 0 ∷ 1 ∷ []) ∷
    []

-- THE DEFINITIONS GIVE THE ORIGINAL'S ANSWERS
pub all-agree : agree vectors ≡ true
unfolding search full_table vectors
all-agree = refl
