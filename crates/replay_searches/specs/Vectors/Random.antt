-- The 150 vectors of searches of the family random, made by tools/searches_to_antt.py.
-- Assumes nothing.
use Rattle.std.specs.Prelude.{◌≡◌, refl, true, false, List, [], ◌∷◌}
use Rattle.meaning.specs.Trees.{lit, cm, const, q, public, challenge, eval, x_div_x_sub_xi, x_div_x_sub_w_xi, plain_x, add, sub, mul, addc, mulc, cell, exp, number, flat, x, leaf, bin, muladd, binc, neg}
use Rattle.search_meaning.specs.Degrees.{full_table}
use Rattle.search_meaning.specs.Search.{search}
use Rattle.replay_meaning.specs.Replay.{expression}
use Rattle.replay_searches.specs.Replay.{Vector, vector, agree}

unfoldable pub vectors : List Vector
vectors =
    -- random-1-000
    vector
    (expression (bin 7 mul (bin 4 add (leaf 0 (cell cm 3 0)) (neg 3 (neg 2 (leaf 1 (cell cm 3 0))))) (neg 6 (leaf 5 (cell cm 2 0)))) false false false ∷ expression (bin 10 mul (leaf 8 (exp 0 0)) (leaf 9 (cell cm 2 0))) false false true ∷ expression (bin 15 sub (bin 13 mul (leaf 11 (exp 0 0)) (leaf 12 (exp 1 0))) (leaf 14 (exp 0 1))) false false false ∷ expression (bin 21 add (neg 17 (leaf 16 (cell cm 2 0))) (bin 20 add (leaf 18 (exp 2 0)) (leaf 19 (cell cm 3 0)))) false false true ∷ expression (bin 24 mul (leaf 22 (cell cm 0 0)) (leaf 23 (cell cm 1 1))) false false false ∷ expression (bin 29 mul (leaf 25 (exp 3 0)) (bin 28 mul (leaf 26 (cell cm 0 0)) (leaf 27 (exp 3 0)))) false false false ∷ expression (bin 37 sub (bin 35 sub (binc 31 addc (leaf 30 (exp 2 0)) (lit false 1)) (bin 34 mul (leaf 32 (cell cm 3 0)) (leaf 33 (cell cm 0 0)))) (leaf 36 (exp 4 0))) false false false ∷ expression (bin 44 mul (bin 40 mul (leaf 38 (exp 5 0)) (leaf 39 (cell cm 2 0))) (binc 43 mulc (binc 42 addc (leaf 41 (exp 6 0)) (lit false 5)) (lit false 5))) false false false ∷ [])
    (1 ∷ 7 ∷ 4 ∷ []) 3 7 3813
    (15 ∷ []) ∷
    -- random-1-001
    vector
    (expression (bin 2 add (leaf 0 (x x_div_x_sub_w_xi)) (leaf 1 (cell cm 0 0))) false true false ∷ expression (bin 9 add (bin 7 add (leaf 3 (x plain_x)) (bin 6 mul (leaf 4 (exp 0 0)) (leaf 5 (exp 0 0)))) (leaf 8 (exp 0 0))) false false false ∷ expression (bin 12 sub (leaf 10 (exp 1 0)) (leaf 11 (x x_div_x_sub_xi))) true false true ∷ expression (bin 17 add (neg 15 (binc 14 mulc (leaf 13 (flat challenge 2)) (lit false 1))) (leaf 16 (x plain_x))) false false false ∷ expression (bin 25 add (leaf 18 (cell cm 0 1)) (bin 24 mul (leaf 19 (exp 2 0)) (bin 23 sub (leaf 20 (exp 2 0)) (binc 22 mulc (leaf 21 (exp 3 0)) (lit false 0))))) false false false ∷ expression (bin 34 mul (bin 32 add (bin 28 mul (leaf 26 (flat challenge 1)) (leaf 27 (number (lit false 5)))) (bin 31 add (leaf 29 (flat challenge 1)) (leaf 30 (exp 2 0)))) (leaf 33 (cell q 0 0))) false false false ∷ expression (bin 42 mul (bin 40 add (bin 37 add (leaf 35 (cell cm 0 0)) (leaf 36 (cell cm 0 0))) (neg 39 (leaf 38 (flat eval 0)))) (leaf 41 (exp 1 0))) false false false ∷ expression (bin 53 mul (bin 51 mul (bin 46 mul (leaf 43 (flat challenge 0)) (binc 45 mulc (leaf 44 (exp 2 0)) (lit false 1))) (bin 50 add (neg 48 (leaf 47 (exp 6 0))) (leaf 49 (exp 2 0)))) (leaf 52 (exp 5 0))) false false false ∷ [])
    (7 ∷ 7 ∷ []) 3 7 4
    (6 ∷ []) ∷
    -- random-1-002
    vector
    (expression (binc 12 mulc (bin 11 add (binc 6 addc (bin 5 mul (leaf 0 (cell cm 3 0)) (bin 4 mul (leaf 1 (cell cm 2 1)) (binc 3 mulc (leaf 2 (cell cm 3 0)) (lit false 5)))) (lit false 0)) (binc 10 addc (bin 9 mul (leaf 7 (cell cm 0 0)) (leaf 8 (cell cm 2 0))) (lit false 0))) (lit false 0)) false true false ∷ expression (bin 22 mul (bin 20 mul (binc 14 addc (leaf 13 (exp 0 0)) (lit true 9223372036854775808)) (bin 19 add (bin 17 add (leaf 15 (cell cm 3 0)) (leaf 16 (cell cm 0 0))) (leaf 18 (cell cm 2 0)))) (leaf 21 (cell cm 0 0))) false true false ∷ expression (bin 28 mul (leaf 23 (cell cm 1 0)) (binc 27 addc (bin 26 add (leaf 24 (exp 0 0)) (leaf 25 (cell cm 1 0))) (lit false 0))) false false false ∷ [])
    (0 ∷ 2 ∷ 2 ∷ []) 24 25 77
    (0 ∷ 2 ∷ 76 ∷ 0 ∷ []) ∷
    -- random-1-003
    vector
    (expression (bin 4 mul (leaf 0 (exp 2 0)) (bin 3 add (leaf 1 (exp 2 0)) (leaf 2 (cell const 0 0)))) false true true ∷ expression (bin 8 add (leaf 5 (exp 3 0)) (neg 7 (leaf 6 (exp 3 1)))) true false false ∷ expression (bin 13 mul (leaf 9 (number (lit false 0))) (bin 12 mul (leaf 10 (exp 3 0)) (leaf 11 (cell const 0 0)))) true false true ∷ expression (bin 18 mul (bin 16 mul (leaf 14 (x plain_x)) (leaf 15 (cell cm 0 1))) (leaf 17 (cell cm 3 0))) false false false ∷ expression (bin 28 mul (bin 24 add (binc 20 addc (leaf 19 (exp 1 1)) (lit true 1)) (bin 23 mul (leaf 21 (flat challenge 0)) (leaf 22 (x plain_x)))) (bin 27 sub (leaf 25 (cell const 0 0)) (leaf 26 (cell cm 1 0)))) false false false ∷ expression (bin 31 mul (leaf 29 (cell cm 0 0)) (leaf 30 (cell cm 1 0))) false true true ∷ expression (bin 36 add (leaf 32 (exp 1 1)) (bin 35 sub (leaf 33 (cell cm 3 0)) (leaf 34 (exp 1 1)))) false false false ∷ [])
    (5 ∷ []) 23 24 4
    (0 ∷ 1 ∷ 4 ∷ []) ∷
    -- random-1-004
    vector
    (expression (bin 5 mul (leaf 0 (cell cm 3 0)) (bin 4 mul (leaf 1 (x x_div_x_sub_xi)) (binc 3 mulc (leaf 2 (cell cm 3 0)) (lit true 9223372036854775808)))) false true true ∷ expression (neg 9 (bin 8 mul (leaf 6 (flat public 1)) (leaf 7 (exp 0 0)))) false false false ∷ expression (bin 15 mul (binc 11 addc (leaf 10 (exp 1 0)) (lit false 5)) (bin 14 add (leaf 12 (exp 1 0)) (leaf 13 (cell cm 2 0)))) true false true ∷ expression (bin 21 mul (bin 19 mul (binc 17 addc (leaf 16 (exp 2 0)) (lit false 1)) (leaf 18 (flat public 1))) (leaf 20 (exp 2 0))) false false false ∷ expression (bin 28 mul (binc 26 mulc (bin 25 add (leaf 22 (x x_div_x_sub_w_xi)) (neg 24 (leaf 23 (x plain_x)))) (lit false 1)) (leaf 27 (exp 2 0))) false true true ∷ expression (bin 36 mul (bin 31 mul (leaf 29 (exp 4 0)) (leaf 30 (cell cm 2 0))) (muladd 35 (leaf 32 (cell cm 3 0)) (leaf 33 (flat eval 2)) (leaf 34 (x x_div_x_sub_xi)))) true true true ∷ expression (muladd 42 (leaf 37 (exp 4 0)) (leaf 38 (exp 4 0)) (bin 41 mul (leaf 39 (x x_div_x_sub_w_xi)) (leaf 40 (flat challenge 1)))) false false false ∷ [])
    (6 ∷ []) 24 24 1000000
    (6 ∷ []) ∷
    -- random-1-005
    vector
    (expression (bin 5 mul (binc 3 mulc (bin 2 sub (leaf 0 (number (lit false 1))) (leaf 1 (flat public 3))) (lit false 1)) (leaf 4 (number (lit true 9223372036854775808)))) false false false ∷ expression (binc 10 addc (neg 9 (bin 8 mul (leaf 6 (number (lit true 1))) (leaf 7 (flat challenge 2)))) (lit false 5)) false true true ∷ expression (bin 14 sub (neg 12 (leaf 11 (number (lit false 5)))) (leaf 13 (exp 1 0))) true false false ∷ expression (bin 24 add (neg 18 (bin 17 mul (leaf 15 (number (lit false 1))) (leaf 16 (exp 1 0)))) (bin 23 mul (bin 21 mul (leaf 19 (exp 0 0)) (leaf 20 (exp 2 0))) (leaf 22 (exp 1 0)))) false false false ∷ expression (bin 32 mul (binc 30 mulc (bin 29 sub (leaf 25 (exp 1 0)) (bin 28 add (leaf 26 (exp 2 0)) (leaf 27 (flat eval 1)))) (lit false 1)) (leaf 31 (flat public 3))) false false false ∷ expression (binc 34 mulc (leaf 33 (exp 2 0)) (lit false 0)) false true true ∷ expression (bin 41 mul (bin 37 add (leaf 35 (exp 5 0)) (leaf 36 (exp 3 0))) (bin 40 mul (leaf 38 (flat challenge 1)) (leaf 39 (number (lit false 1))))) true false false ∷ expression (bin 47 add (bin 44 mul (leaf 42 (flat challenge 1)) (leaf 43 (exp 3 0))) (binc 46 mulc (leaf 45 (flat public 3)) (lit false 0))) false true true ∷ [])
    (7 ∷ 6 ∷ 0 ∷ 5 ∷ 2 ∷ []) 23 26 0
    (15 ∷ []) ∷
    -- random-1-006
    vector
    (expression (bin 5 add (leaf 0 (number (lit false 1))) (bin 4 add (neg 2 (leaf 1 (flat public 0))) (leaf 3 (flat public 2)))) false false false ∷ expression (binc 13 mulc (bin 12 add (binc 7 mulc (leaf 6 (exp 0 0)) (lit false 0)) (bin 11 sub (leaf 8 (number (lit true 9223372036854775808))) (binc 10 addc (leaf 9 (number (lit true 1))) (lit true 9223372036854775808)))) (lit false 0)) false false false ∷ expression (leaf 14 (number (lit true 9223372036854775808))) true true true ∷ expression (bin 17 add (leaf 15 (exp 1 0)) (leaf 16 (flat public 2))) false false false ∷ [])
    (2 ∷ 3 ∷ []) 24 27 175
    (15 ∷ []) ∷
    -- random-1-007
    vector
    (expression (bin 6 mul (bin 4 mul (bin 2 mul (leaf 0 (cell cm 3 0)) (leaf 1 (flat challenge 2))) (leaf 3 (cell cm 2 0))) (leaf 5 (x plain_x))) true true false ∷ expression (bin 11 sub (leaf 7 (cell const 3 0)) (bin 10 add (leaf 8 (exp 0 0)) (leaf 9 (cell cm 2 0)))) true false true ∷ expression (bin 14 add (leaf 12 (exp 0 0)) (leaf 13 (cell cm 1 0))) false false false ∷ expression (bin 19 mul (leaf 15 (cell cm 0 0)) (bin 18 mul (leaf 16 (exp 2 0)) (leaf 17 (exp 2 0)))) false true true ∷ [])
    (3 ∷ []) 23 26 347
    (0 ∷ 2 ∷ 347 ∷ 2 ∷ []) ∷
    -- random-1-008
    vector
    (expression (bin 4 mul (bin 2 add (leaf 0 (cell cm 1 0)) (leaf 1 (cell cm 3 0))) (leaf 3 (cell cm 2 0))) false false false ∷ expression (bin 11 mul (leaf 5 (cell cm 0 0)) (neg 10 (bin 9 sub (leaf 6 (exp 0 0)) (neg 8 (leaf 7 (cell cm 3 0)))))) false false false ∷ expression (binc 23 addc (bin 22 add (bin 20 add (leaf 12 (exp 3 0)) (bin 19 mul (leaf 13 (cell cm 2 0)) (binc 18 mulc (binc 17 mulc (bin 16 mul (leaf 14 (exp 3 0)) (leaf 15 (cell cm 0 0))) (lit false 0)) (lit true 1)))) (leaf 21 (cell cm 3 0))) (lit true 9223372036854775808)) true true false ∷ expression (bin 30 add (bin 26 mul (leaf 24 (exp 0 0)) (leaf 25 (cell cm 2 0))) (bin 29 mul (leaf 27 (exp 1 0)) (leaf 28 (exp 0 0)))) true false true ∷ [])
    (2 ∷ []) 23 25 346
    (15 ∷ []) ∷
    -- random-1-009
    vector
    (expression (leaf 0 (cell cm 1 0)) true false false ∷ expression (leaf 1 (cell cm 1 0)) true true false ∷ expression (bin 10 sub (bin 8 add (bin 6 mul (bin 4 sub (leaf 2 (exp 0 0)) (leaf 3 (exp 0 0))) (leaf 5 (cell cm 0 0))) (leaf 7 (exp 0 0))) (leaf 9 (exp 1 0))) false true false ∷ [])
    (2 ∷ 2 ∷ []) 24 24 18
    (0 ∷ 1 ∷ 18 ∷ []) ∷
    -- random-1-010
    vector
    (expression (bin 8 mul (bin 2 add (leaf 0 (cell cm 1 0)) (leaf 1 (cell cm 3 0))) (bin 7 mul (bin 5 mul (leaf 3 (cell cm 2 0)) (leaf 4 (exp 2 0))) (leaf 6 (cell cm 2 0)))) false true true ∷ expression (bin 13 mul (bin 11 mul (leaf 9 (cell cm 3 0)) (leaf 10 (cell cm 0 0))) (leaf 12 (cell cm 2 0))) false true true ∷ expression (bin 24 add (bin 21 mul (bin 17 mul (neg 15 (leaf 14 (cell cm 0 0))) (leaf 16 (cell cm 0 1))) (neg 20 (neg 19 (leaf 18 (cell cm 1 0))))) (binc 23 addc (leaf 22 (cell cm 3 0)) (lit true 1))) false true true ∷ [])
    (1 ∷ 0 ∷ 0 ∷ []) 3 7 1000000
    (0 ∷ 3 ∷ 507 ∷ 2 ∷ []) ∷
    -- random-1-011
    vector
    (expression (bin 6 mul (bin 2 mul (leaf 0 (cell cm 2 0)) (leaf 1 (cell cm 1 0))) (bin 5 mul (leaf 3 (cell cm 2 0)) (leaf 4 (cell cm 0 0)))) false false false ∷ [])
    (0 ∷ 0 ∷ 0 ∷ []) 23 25 1000000
    (0 ∷ 3 ∷ 70 ∷ []) ∷
    -- random-1-012
    vector
    (expression (bin 4 add (leaf 0 (exp 2 1)) (bin 3 sub (leaf 1 (exp 2 0)) (leaf 2 (exp 2 0)))) false false false ∷ expression (bin 9 mul (bin 7 sub (leaf 5 (flat public 0)) (leaf 6 (exp 0 0))) (leaf 8 (flat eval 3))) false false false ∷ expression (bin 17 sub (bin 12 sub (leaf 10 (number (lit true 9223372036854775808))) (leaf 11 (flat eval 1))) (bin 16 add (binc 14 addc (leaf 13 (number (lit false 0))) (lit false 5)) (leaf 15 (number (lit true 9223372036854775808))))) true false false ∷ expression (bin 24 add (binc 19 mulc (leaf 18 (exp 0 0)) (lit false 0)) (bin 23 mul (leaf 20 (exp 2 0)) (binc 22 addc (leaf 21 (number (lit false 0))) (lit true 9223372036854775808)))) true false false ∷ [])
    (3 ∷ 3 ∷ 2 ∷ 0 ∷ 1 ∷ []) 24 27 1000000
    (6 ∷ []) ∷
    -- random-1-013
    vector
    (expression (bin 12 add (binc 9 mulc (binc 8 mulc (bin 7 mul (leaf 0 (flat challenge 0)) (bin 6 mul (bin 4 add (leaf 1 (flat challenge 0)) (binc 3 addc (leaf 2 (number (lit false 5))) (lit true 9223372036854775808))) (leaf 5 (flat public 3)))) (lit false 5)) (lit false 0)) (binc 11 mulc (leaf 10 (flat eval 3)) (lit true 9223372036854775808))) true true false ∷ expression (bin 23 add (bin 21 add (leaf 13 (exp 0 0)) (bin 20 mul (leaf 14 (number (lit false 0))) (bin 19 add (neg 16 (leaf 15 (exp 0 0))) (binc 18 mulc (leaf 17 (exp 0 0)) (lit false 5))))) (leaf 22 (flat eval 2))) false false false ∷ expression (bin 27 add (neg 25 (leaf 24 (flat challenge 2))) (leaf 26 (flat challenge 1))) true true true ∷ expression (binc 36 addc (bin 35 add (bin 31 mul (neg 29 (leaf 28 (exp 2 0))) (leaf 30 (flat public 0))) (bin 34 add (leaf 32 (exp 1 0)) (leaf 33 (exp 2 0)))) (lit true 9223372036854775808)) true false true ∷ [])
    (3 ∷ 2 ∷ []) 3 4 1000000
    (6 ∷ []) ∷
    -- random-1-014
    vector
    (expression (bin 2 sub (leaf 0 (cell cm 2 0)) (leaf 1 (number (lit false 5)))) false false true ∷ expression (bin 10 mul (bin 6 mul (binc 4 addc (leaf 3 (flat challenge 0)) (lit false 0)) (leaf 5 (cell cm 1 0))) (bin 9 mul (leaf 7 (exp 4 0)) (leaf 8 (exp 4 0)))) false false false ∷ expression (bin 18 add (bin 13 mul (leaf 11 (exp 0 0)) (leaf 12 (x plain_x))) (bin 17 add (leaf 14 (exp 0 0)) (neg 16 (leaf 15 (exp 4 0))))) false false false ∷ expression (bin 22 mul (binc 20 addc (leaf 19 (flat challenge 2)) (lit false 5)) (leaf 21 (number (lit false 0)))) false false false ∷ expression (binc 34 addc (bin 33 mul (bin 25 mul (leaf 23 (exp 0 0)) (leaf 24 (cell const 3 0))) (bin 32 mul (bin 29 mul (leaf 26 (cell const 2 0)) (neg 28 (leaf 27 (exp 0 0)))) (binc 31 addc (leaf 30 (number (lit true 9223372036854775808))) (lit false 5)))) (lit true 9223372036854775808)) false false false ∷ expression (bin 38 mul (leaf 35 (exp 1 0)) (binc 37 mulc (leaf 36 (exp 0 0)) (lit false 1))) false false false ∷ [])
    (3 ∷ []) 0 1 3
    (15 ∷ []) ∷
    -- random-1-015
    vector
    (expression (bin 9 mul (binc 5 addc (bin 4 mul (binc 1 addc (leaf 0 (exp 1 0)) (lit false 0)) (neg 3 (leaf 2 (exp 1 0)))) (lit false 0)) (bin 8 mul (leaf 6 (cell cm 3 0)) (leaf 7 (cell cm 2 0)))) false false false ∷ expression (bin 12 mul (leaf 10 (cell cm 3 0)) (leaf 11 (cell cm 2 0))) true true true ∷ expression (bin 18 mul (leaf 13 (exp 1 0)) (binc 17 mulc (bin 16 add (leaf 14 (cell cm 2 0)) (leaf 15 (exp 0 1))) (lit false 0))) false false false ∷ [])
    (2 ∷ 0 ∷ []) 0 2 1000000
    (0 ∷ 3 ∷ 661 ∷ 0 ∷ 1 ∷ []) ∷
    -- random-1-016
    vector
    (expression (binc 7 addc (bin 6 mul (bin 2 sub (leaf 0 (flat challenge 1)) (leaf 1 (number (lit false 5)))) (bin 5 mul (leaf 3 (flat public 0)) (leaf 4 (number (lit false 5))))) (lit true 1)) false false false ∷ expression (bin 12 sub (leaf 8 (flat eval 2)) (bin 11 mul (leaf 9 (flat public 2)) (leaf 10 (exp 0 0)))) false false false ∷ expression (bin 17 sub (bin 15 sub (leaf 13 (exp 0 0)) (leaf 14 (number (lit true 9223372036854775808)))) (leaf 16 (number (lit true 1)))) false false false ∷ expression (bin 24 mul (leaf 18 (number (lit false 5))) (bin 23 add (leaf 19 (exp 2 0)) (bin 22 add (leaf 20 (flat challenge 1)) (leaf 21 (number (lit true 1)))))) false false false ∷ expression (bin 33 sub (leaf 25 (flat eval 0)) (bin 32 add (bin 28 add (leaf 26 (number (lit true 1))) (leaf 27 (flat eval 3))) (bin 31 add (leaf 29 (flat public 1)) (leaf 30 (flat public 0))))) false false false ∷ expression (binc 39 addc (bin 38 mul (binc 36 addc (neg 35 (leaf 34 (flat challenge 3))) (lit false 1)) (leaf 37 (flat eval 0))) (lit true 9223372036854775808)) true false true ∷ expression (binc 50 addc (bin 49 sub (neg 47 (bin 46 mul (bin 42 sub (leaf 40 (exp 5 1)) (leaf 41 (flat challenge 0))) (bin 45 add (leaf 43 (flat challenge 0)) (leaf 44 (exp 3 0))))) (leaf 48 (number (lit false 5)))) (lit false 0)) false false true ∷ [])
    (0 ∷ 2 ∷ 0 ∷ 6 ∷ 1 ∷ []) 23 25 1000000
    (6 ∷ []) ∷
    -- random-1-017
    vector
    (expression (bin 4 mul (bin 2 add (leaf 0 (cell cm 3 0)) (leaf 1 (cell cm 1 1))) (leaf 3 (cell cm 2 0))) false false false ∷ expression (bin 7 mul (leaf 5 (exp 0 0)) (leaf 6 (exp 0 0))) true true false ∷ expression (bin 12 mul (binc 10 mulc (neg 9 (leaf 8 (cell cm 3 0))) (lit false 5)) (leaf 11 (cell cm 0 0))) false false false ∷ expression (bin 19 mul (bin 17 mul (leaf 13 (cell cm 3 0)) (bin 16 sub (leaf 14 (exp 1 0)) (leaf 15 (cell cm 3 1)))) (leaf 18 (exp 1 0))) true true false ∷ expression (bin 27 add (bin 23 mul (neg 21 (leaf 20 (cell cm 3 0))) (leaf 22 (cell cm 3 0))) (bin 26 mul (leaf 24 (cell cm 0 0)) (leaf 25 (exp 2 0)))) false false false ∷ expression (bin 38 mul (bin 33 sub (bin 31 mul (neg 29 (leaf 28 (exp 1 0))) (leaf 30 (cell cm 2 1))) (leaf 32 (cell cm 1 0))) (binc 37 addc (bin 36 mul (leaf 34 (exp 1 0)) (leaf 35 (cell cm 2 0))) (lit false 1))) false false false ∷ expression (bin 49 mul (bin 41 mul (leaf 39 (exp 0 0)) (leaf 40 (cell cm 2 0))) (bin 48 mul (bin 44 mul (leaf 42 (exp 1 0)) (leaf 43 (exp 4 0))) (neg 47 (binc 46 mulc (leaf 45 (cell cm 1 1)) (lit true 1))))) false false false ∷ expression (bin 54 mul (leaf 50 (cell cm 3 0)) (bin 53 mul (leaf 51 (exp 2 0)) (leaf 52 (exp 5 0)))) false false false ∷ [])
    (5 ∷ 4 ∷ 7 ∷ []) 3 4 1000000
    (13 ∷ []) ∷
    -- random-1-018
    vector
    (expression (bin 7 add (binc 1 mulc (leaf 0 (cell cm 2 0)) (lit false 0)) (bin 6 mul (binc 3 addc (leaf 2 (exp 7 0)) (lit true 9223372036854775808)) (binc 5 mulc (leaf 4 (exp 7 0)) (lit false 5)))) true true true ∷ expression (leaf 8 (exp 4 0)) true true true ∷ expression (leaf 9 (cell cm 2 0)) false false false ∷ expression (bin 20 mul (bin 12 add (leaf 10 (cell cm 0 0)) (leaf 11 (exp 5 0))) (bin 19 add (bin 16 mul (leaf 13 (exp 7 0)) (binc 15 addc (leaf 14 (cell cm 1 0)) (lit false 0))) (binc 18 addc (leaf 17 (exp 7 0)) (lit false 1)))) false true false ∷ expression (binc 32 addc (bin 31 mul (leaf 21 (exp 5 0)) (bin 30 mul (bin 28 mul (bin 25 sub (leaf 22 (exp 5 0)) (binc 24 addc (leaf 23 (cell cm 0 0)) (lit false 1))) (neg 27 (leaf 26 (exp 5 0)))) (leaf 29 (exp 5 0)))) (lit false 1)) false false false ∷ expression (bin 39 mul (leaf 33 (cell cm 0 0)) (binc 38 mulc (bin 37 mul (leaf 34 (cell cm 3 0)) (neg 36 (leaf 35 (exp 2 0)))) (lit false 0))) false false false ∷ expression (bin 42 mul (leaf 40 (exp 4 0)) (leaf 41 (exp 3 1))) false true true ∷ expression (bin 48 mul (leaf 43 (cell cm 0 0)) (neg 47 (bin 46 mul (leaf 44 (cell cm 3 0)) (leaf 45 (cell cm 2 0))))) false false false ∷ [])
    (6 ∷ []) 3 5 1685
    (0 ∷ 3 ∷ 1685 ∷ 4 ∷ 5 ∷ 7 ∷ []) ∷
    -- random-1-019
    vector
    (expression (neg 5 (bin 4 mul (bin 2 mul (leaf 0 (cell cm 0 0)) (leaf 1 (cell cm 0 0))) (leaf 3 (cell cm 2 0)))) true true false ∷ expression (bin 10 mul (leaf 6 (cell cm 0 0)) (bin 9 mul (leaf 7 (exp 0 0)) (leaf 8 (cell cm 3 1)))) false false false ∷ expression (bin 13 mul (leaf 11 (exp 0 1)) (leaf 12 (exp 1 0))) false false false ∷ [])
    (2 ∷ []) 3 7 1000000
    (0 ∷ 2 ∷ 270 ∷ 0 ∷ 1 ∷ []) ∷
    -- random-1-020
    vector
    (expression (bin 3 mul (neg 1 (leaf 0 (flat public 0))) (leaf 2 (flat challenge 2))) false false false ∷ expression (bin 15 add (neg 12 (neg 11 (bin 10 mul (bin 8 sub (leaf 4 (exp 0 0)) (bin 7 sub (leaf 5 (flat challenge 3)) (leaf 6 (flat eval 1)))) (leaf 9 (flat challenge 2))))) (neg 14 (leaf 13 (exp 0 0)))) false false false ∷ expression (bin 18 sub (leaf 16 (flat public 0)) (leaf 17 (exp 1 0))) false false false ∷ expression (bin 23 mul (leaf 19 (flat challenge 2)) (bin 22 mul (leaf 20 (exp 1 1)) (leaf 21 (exp 2 0)))) false false false ∷ [])
    (3 ∷ []) 3 4 1000000
    (0 ∷ 1 ∷ 6 ∷ []) ∷
    -- random-1-021
    vector
    (expression (bin 6 mul (bin 2 add (leaf 0 (cell cm 2 0)) (leaf 1 (cell cm 2 0))) (bin 5 mul (leaf 3 (x plain_x)) (leaf 4 (cell cm 3 0)))) false false false ∷ expression (bin 11 add (leaf 7 (cell cm 2 0)) (bin 10 mul (leaf 8 (cell cm 1 1)) (leaf 9 (flat challenge 3)))) false false false ∷ expression (bin 23 mul (leaf 12 (exp 1 0)) (binc 22 mulc (binc 21 mulc (bin 20 add (bin 15 add (leaf 13 (cell cm 1 0)) (leaf 14 (exp 1 0))) (bin 19 mul (leaf 16 (cell cm 3 0)) (binc 18 addc (leaf 17 (exp 0 0)) (lit false 1)))) (lit false 0)) (lit false 0))) false false false ∷ expression (bin 34 mul (bin 29 mul (bin 27 mul (neg 25 (leaf 24 (x plain_x))) (leaf 26 (cell cm 0 0))) (leaf 28 (exp 0 0))) (binc 33 mulc (bin 32 mul (leaf 30 (exp 2 0)) (leaf 31 (exp 2 0))) (lit false 1))) false false false ∷ expression (bin 43 mul (neg 36 (leaf 35 (cell cm 3 0))) (bin 42 mul (bin 40 sub (leaf 37 (exp 1 0)) (binc 39 mulc (leaf 38 (exp 1 0)) (lit true 1))) (leaf 41 (exp 1 0)))) false false false ∷ [])
    (4 ∷ 0 ∷ 4 ∷ 4 ∷ 2 ∷ []) 0 1 1000000
    (0 ∷ 2 ∷ 122 ∷ 0 ∷ []) ∷
    -- random-1-022
    vector
    (expression (neg 6 (binc 5 mulc (bin 4 mul (bin 2 mul (leaf 0 (cell cm 0 0)) (leaf 1 (exp 5 0))) (leaf 3 (exp 5 1))) (lit false 0))) false false false ∷ expression (bin 13 add (bin 11 mul (bin 9 mul (leaf 7 (cell cm 3 0)) (leaf 8 (cell cm 0 0))) (leaf 10 (exp 4 0))) (leaf 12 (exp 7 0))) true false false ∷ expression (binc 18 mulc (bin 17 add (leaf 14 (cell cm 1 0)) (neg 16 (leaf 15 (exp 7 0)))) (lit false 5)) false false true ∷ expression (bin 24 mul (bin 22 mul (neg 20 (leaf 19 (cell cm 2 0))) (leaf 21 (cell cm 3 0))) (leaf 23 (exp 5 0))) true false false ∷ expression (binc 30 mulc (bin 29 mul (leaf 25 (cell cm 2 0)) (bin 28 mul (leaf 26 (exp 3 0)) (leaf 27 (cell cm 0 0)))) (lit true 9223372036854775808)) false false false ∷ expression (bin 36 mul (bin 34 mul (neg 32 (leaf 31 (cell cm 3 0))) (leaf 33 (cell cm 0 0))) (leaf 35 (cell cm 0 1))) false false false ∷ expression (leaf 37 (cell cm 1 0)) true true false ∷ expression (bin 47 mul (bin 42 sub (leaf 38 (exp 6 0)) (bin 41 sub (leaf 39 (cell cm 1 0)) (leaf 40 (exp 6 0)))) (binc 46 addc (bin 45 mul (leaf 43 (exp 6 0)) (leaf 44 (cell cm 2 0))) (lit true 9223372036854775808))) false false false ∷ [])
    (1 ∷ []) 0 1 1000000
    (0 ∷ 2 ∷ 114 ∷ 3 ∷ 4 ∷ 5 ∷ []) ∷
    -- random-1-023
    vector
    (expression (bin 8 add (binc 3 addc (bin 2 sub (leaf 0 (exp 2 0)) (leaf 1 (exp 2 0))) (lit false 0)) (bin 7 mul (leaf 4 (exp 4 0)) (neg 6 (leaf 5 (exp 5 0))))) false false false ∷ expression (bin 13 add (leaf 9 (cell const 2 0)) (bin 12 add (leaf 10 (flat challenge 1)) (leaf 11 (cell cm 0 0)))) false false false ∷ expression (bin 16 mul (leaf 14 (exp 4 0)) (leaf 15 (exp 4 0))) false false false ∷ expression (neg 22 (bin 21 mul (leaf 17 (exp 4 0)) (bin 20 mul (leaf 18 (flat challenge 1)) (leaf 19 (exp 4 0))))) false true false ∷ expression (bin 30 mul (bin 28 mul (leaf 23 (cell cm 1 0)) (bin 27 mul (leaf 24 (cell cm 3 0)) (neg 26 (leaf 25 (cell cm 3 0))))) (leaf 29 (x plain_x))) false false false ∷ expression (bin 36 add (binc 32 mulc (leaf 31 (exp 1 0)) (lit false 1)) (bin 35 add (leaf 33 (exp 1 0)) (leaf 34 (x plain_x)))) false false false ∷ [])
    (5 ∷ 0 ∷ []) 24 26 331
    (0 ∷ 3 ∷ 331 ∷ 4 ∷ []) ∷
    -- random-1-024
    vector
    (expression (bin 3 sub (neg 1 (leaf 0 (number (lit true 9223372036854775808)))) (leaf 2 (flat public 0))) false false false ∷ expression (bin 17 add (binc 12 mulc (bin 11 add (bin 8 add (bin 6 sub (leaf 4 (exp 0 0)) (leaf 5 (exp 0 0))) (leaf 7 (exp 0 0))) (binc 10 mulc (leaf 9 (exp 0 0)) (lit true 9223372036854775808))) (lit true 9223372036854775808)) (binc 16 mulc (neg 15 (binc 14 addc (leaf 13 (exp 0 0)) (lit false 5))) (lit false 5))) false false false ∷ expression (bin 22 add (leaf 18 (number (lit true 1))) (bin 21 add (leaf 19 (exp 0 0)) (leaf 20 (flat public 3)))) false false false ∷ expression (bin 26 add (leaf 23 (number (lit false 0))) (binc 25 mulc (leaf 24 (exp 1 0)) (lit false 5))) false false false ∷ expression (bin 41 add (leaf 27 (exp 3 0)) (neg 40 (bin 39 sub (binc 30 mulc (binc 29 addc (leaf 28 (exp 1 0)) (lit true 1)) (lit false 1)) (bin 38 sub (neg 32 (leaf 31 (flat public 3))) (neg 37 (neg 36 (bin 35 sub (leaf 33 (exp 0 0)) (leaf 34 (exp 0 0))))))))) true false true ∷ expression (leaf 42 (flat public 3)) false false false ∷ [])
    (5 ∷ 3 ∷ []) 0 0 43
    (14 ∷ []) ∷
    -- random-1-025
    vector
    (expression (bin 2 sub (leaf 0 (number (lit false 5))) (leaf 1 (flat public 1))) false false false ∷ expression (bin 5 add (leaf 3 (exp 4 0)) (leaf 4 (exp 4 0))) false false false ∷ expression (binc 10 mulc (bin 9 add (binc 7 addc (leaf 6 (flat public 2)) (lit true 1)) (leaf 8 (exp 6 0))) (lit false 5)) false false false ∷ expression (bin 19 add (leaf 11 (flat public 3)) (binc 18 mulc (binc 17 mulc (neg 16 (binc 15 addc (bin 14 mul (leaf 12 (flat public 3)) (leaf 13 (flat public 3))) (lit false 5))) (lit false 1)) (lit false 0))) false false false ∷ expression (bin 26 add (leaf 20 (flat public 0)) (binc 25 mulc (binc 24 mulc (neg 23 (binc 22 mulc (leaf 21 (number (lit true 1))) (lit false 1))) (lit true 1)) (lit false 0))) true true true ∷ expression (bin 35 add (bin 29 add (leaf 27 (flat public 0)) (leaf 28 (number (lit false 0)))) (neg 34 (bin 33 sub (leaf 30 (exp 1 0)) (binc 32 addc (leaf 31 (flat public 1)) (lit false 1))))) false false false ∷ expression (binc 41 addc (bin 40 add (bin 38 add (leaf 36 (exp 1 0)) (leaf 37 (number (lit false 5)))) (leaf 39 (exp 1 0))) (lit true 1)) false false false ∷ [])
    (1 ∷ 3 ∷ 5 ∷ 4 ∷ 1 ∷ []) 3 4 1000000
    (14 ∷ []) ∷
    -- random-1-026
    vector
    (expression (bin 10 mul (bin 6 mul (leaf 0 (cell cm 0 0)) (bin 5 mul (leaf 1 (cell cm 1 0)) (neg 4 (binc 3 mulc (leaf 2 (cell cm 2 0)) (lit true 1))))) (bin 9 mul (leaf 7 (cell cm 3 0)) (leaf 8 (cell cm 0 0)))) false true true ∷ expression (binc 14 mulc (bin 13 sub (leaf 11 (cell cm 1 0)) (leaf 12 (cell cm 3 0))) (lit false 5)) true false false ∷ expression (bin 25 mul (bin 18 mul (binc 16 mulc (leaf 15 (exp 1 0)) (lit false 5)) (leaf 17 (exp 1 0))) (bin 24 mul (leaf 19 (exp 0 0)) (binc 23 addc (bin 22 add (leaf 20 (exp 0 0)) (leaf 21 (exp 1 0))) (lit true 1)))) true true true ∷ expression (leaf 26 (cell cm 1 0)) false false false ∷ expression (bin 29 mul (leaf 27 (exp 0 0)) (leaf 28 (exp 2 0))) false false false ∷ expression (bin 39 mul (leaf 30 (exp 4 0)) (binc 38 addc (bin 37 mul (binc 35 addc (binc 34 mulc (bin 33 mul (leaf 31 (cell cm 0 0)) (leaf 32 (cell cm 1 0))) (lit false 1)) (lit true 9223372036854775808)) (leaf 36 (cell cm 3 0))) (lit true 1))) false false false ∷ expression (bin 45 mul (binc 43 mulc (bin 42 mul (leaf 40 (exp 1 0)) (leaf 41 (cell cm 3 0))) (lit false 1)) (leaf 44 (exp 4 0))) false false false ∷ expression (neg 53 (binc 52 mulc (bin 51 mul (binc 49 mulc (bin 48 mul (leaf 46 (cell cm 2 0)) (leaf 47 (exp 5 1))) (lit false 0)) (leaf 50 (exp 4 0))) (lit false 5))) false true false ∷ [])
    (8 ∷ 1 ∷ []) 3 4 0
    (3 ∷ []) ∷
    -- random-1-027
    vector
    (expression (bin 3 sub (leaf 0 (x plain_x)) (neg 2 (leaf 1 (cell const 3 0)))) false false false ∷ expression (binc 14 addc (bin 13 add (bin 11 mul (bin 9 add (bin 7 add (leaf 4 (exp 0 0)) (neg 6 (leaf 5 (cell const 2 0)))) (leaf 8 (cell cm 3 1))) (leaf 10 (number (lit true 9223372036854775808)))) (leaf 12 (flat challenge 3))) (lit false 1)) false false false ∷ [])
    (1 ∷ 1 ∷ 0 ∷ 1 ∷ 1 ∷ []) 3 3 73
    (0 ∷ 0 ∷ 73 ∷ []) ∷
    -- random-1-028
    vector
    (expression (bin 2 mul (leaf 0 (cell cm 3 0)) (leaf 1 (cell cm 3 0))) false false false ∷ expression (bin 12 sub (bin 5 sub (leaf 3 (exp 0 0)) (leaf 4 (exp 0 0))) (bin 11 mul (bin 8 mul (leaf 6 (exp 0 0)) (leaf 7 (cell cm 3 1))) (binc 10 mulc (leaf 9 (exp 0 0)) (lit false 5)))) false false false ∷ expression (bin 18 add (bin 16 mul (leaf 13 (cell cm 0 0)) (binc 15 addc (leaf 14 (exp 1 0)) (lit false 5))) (leaf 17 (exp 1 0))) false false false ∷ expression (bin 28 add (binc 25 mulc (bin 24 mul (bin 21 sub (leaf 19 (cell cm 0 1)) (leaf 20 (exp 0 0))) (binc 23 addc (leaf 22 (cell cm 0 0)) (lit false 5))) (lit false 1)) (binc 27 mulc (leaf 26 (exp 2 0)) (lit true 1))) false false false ∷ expression (bin 38 mul (bin 36 mul (bin 33 add (leaf 29 (cell cm 3 0)) (binc 32 mulc (binc 31 addc (leaf 30 (exp 3 0)) (lit false 1)) (lit false 5))) (binc 35 mulc (leaf 34 (exp 2 0)) (lit true 9223372036854775808))) (leaf 37 (cell cm 1 0))) true true true ∷ expression (bin 47 mul (binc 43 addc (binc 42 addc (bin 41 mul (leaf 39 (exp 4 0)) (leaf 40 (cell cm 2 0))) (lit false 0)) (lit false 5)) (bin 46 mul (leaf 44 (cell cm 0 0)) (leaf 45 (cell cm 2 0)))) false false false ∷ expression (bin 53 mul (leaf 48 (cell cm 1 0)) (bin 52 mul (binc 50 mulc (leaf 49 (cell cm 3 0)) (lit true 9223372036854775808)) (leaf 51 (exp 5 0)))) false false false ∷ expression (bin 63 mul (leaf 54 (cell cm 2 0)) (bin 62 mul (bin 58 mul (leaf 55 (cell cm 1 0)) (binc 57 mulc (leaf 56 (cell cm 3 0)) (lit false 1))) (bin 61 mul (leaf 59 (exp 3 0)) (leaf 60 (cell cm 1 0))))) false false false ∷ [])
    (4 ∷ 7 ∷ 3 ∷ 4 ∷ 7 ∷ []) 3 3 211
    (15 ∷ []) ∷
    -- random-1-029
    vector
    (expression (bin 2 add (leaf 0 (flat public 0)) (leaf 1 (flat public 3))) false false false ∷ expression (bin 5 sub (leaf 3 (exp 0 0)) (leaf 4 (exp 0 0))) false false false ∷ expression (binc 19 mulc (neg 18 (bin 17 mul (leaf 6 (exp 1 0)) (bin 16 mul (bin 9 add (leaf 7 (exp 1 0)) (leaf 8 (exp 0 0))) (binc 15 addc (binc 14 mulc (bin 13 sub (leaf 10 (flat public 0)) (binc 12 mulc (leaf 11 (exp 1 0)) (lit false 5))) (lit false 5)) (lit false 5))))) (lit false 1)) false false false ∷ expression (bin 29 add (leaf 20 (exp 2 1)) (bin 28 add (leaf 21 (exp 1 1)) (bin 27 add (leaf 22 (exp 0 0)) (bin 26 add (leaf 23 (number (lit false 1))) (binc 25 mulc (leaf 24 (exp 2 0)) (lit true 1)))))) false false false ∷ [])
    (1 ∷ 3 ∷ []) 0 3 359
    (0 ∷ 2 ∷ 359 ∷ []) ∷
    -- random-1-030
    vector
    (expression (bin 4 mul (neg 1 (leaf 0 (cell cm 2 0))) (binc 3 mulc (leaf 2 (x plain_x)) (lit true 9223372036854775808))) true false true ∷ expression (leaf 5 (cell cm 0 0)) false false false ∷ expression (bin 8 mul (leaf 6 (exp 1 0)) (leaf 7 (number (lit false 5)))) true true true ∷ [])
    (2 ∷ []) 23 24 7
    (15 ∷ []) ∷
    -- random-1-031
    vector
    (expression (bin 2 mul (leaf 0 (exp 5 0)) (leaf 1 (x plain_x))) false false false ∷ expression (bin 8 sub (neg 6 (binc 5 mulc (neg 4 (leaf 3 (cell cm 0 0))) (lit false 1))) (leaf 7 (x plain_x))) false false false ∷ expression (leaf 9 (exp 0 0)) true true false ∷ expression (binc 13 addc (bin 12 add (leaf 10 (exp 5 0)) (leaf 11 (number (lit false 0)))) (lit true 9223372036854775808)) true false true ∷ expression (bin 23 mul (bin 16 mul (leaf 14 (flat challenge 1)) (leaf 15 (exp 5 0))) (bin 22 mul (bin 19 mul (leaf 17 (x plain_x)) (leaf 18 (cell cm 1 0))) (binc 21 addc (leaf 20 (number (lit false 5))) (lit false 1)))) false false true ∷ expression (bin 27 mul (leaf 24 (flat challenge 2)) (binc 26 addc (leaf 25 (cell cm 2 0)) (lit true 1))) false false false ∷ expression (bin 30 mul (leaf 28 (number (lit false 5))) (leaf 29 (cell cm 3 0))) false false false ∷ [])
    (2 ∷ 0 ∷ 3 ∷ 3 ∷ 1 ∷ []) 23 25 1000000
    (0 ∷ 1 ∷ 144 ∷ []) ∷
    -- random-1-032
    vector
    (expression (bin 3 mul (leaf 0 (cell cm 3 0)) (binc 2 addc (leaf 1 (cell cm 2 0)) (lit false 0))) false false false ∷ expression (bin 7 mul (binc 5 mulc (leaf 4 (cell cm 2 0)) (lit true 9223372036854775808)) (leaf 6 (exp 0 0))) false true false ∷ [])
    (1 ∷ 1 ∷ []) 3 7 1000000
    (0 ∷ 1 ∷ 112 ∷ 0 ∷ []) ∷
    -- random-1-033
    vector
    (expression (muladd 5 (leaf 0 (flat challenge 2)) (leaf 1 (x x_div_x_sub_xi)) (bin 4 mul (leaf 2 (flat challenge 1)) (leaf 3 (cell cm 0 1)))) true false true ∷ expression (bin 15 mul (bin 11 mul (bin 9 mul (binc 7 mulc (leaf 6 (cell const 2 0)) (lit true 1)) (leaf 8 (exp 0 0))) (leaf 10 (flat public 3))) (bin 14 mul (leaf 12 (exp 0 0)) (leaf 13 (flat challenge 2)))) false false false ∷ expression (muladd 20 (leaf 16 (cell q 3 0)) (leaf 17 (exp 1 0)) (binc 19 mulc (leaf 18 (cell const 0 0)) (lit true 9223372036854775808))) true false true ∷ expression (neg 29 (bin 28 mul (bin 26 mul (muladd 24 (leaf 21 (exp 0 0)) (leaf 22 (cell cm 3 1)) (leaf 23 (exp 2 0))) (leaf 25 (exp 2 0))) (leaf 27 (cell cm 3 0)))) true false false ∷ expression (binc 40 mulc (neg 39 (bin 38 mul (binc 32 addc (neg 31 (leaf 30 (x x_div_x_sub_w_xi))) (lit false 1)) (bin 37 mul (bin 35 mul (leaf 33 (exp 2 0)) (leaf 34 (exp 3 0))) (leaf 36 (cell const 3 0))))) (lit true 1)) false true false ∷ [])
    (4 ∷ []) 3 5 1000000
    (6 ∷ []) ∷
    -- random-1-034
    vector
    (expression (bin 4 add (leaf 0 (flat public 3)) (bin 3 mul (leaf 1 (x x_div_x_sub_xi)) (leaf 2 (number (lit false 5))))) false false false ∷ expression (bin 12 mul (binc 8 addc (bin 7 mul (leaf 5 (exp 0 0)) (leaf 6 (flat public 3))) (lit true 1)) (bin 11 mul (leaf 9 (exp 0 0)) (leaf 10 (x x_div_x_sub_w_xi)))) false false false ∷ expression (bin 20 mul (bin 15 mul (leaf 13 (x x_div_x_sub_xi)) (leaf 14 (exp 1 1))) (bin 19 mul (leaf 16 (x plain_x)) (binc 18 mulc (leaf 17 (x x_div_x_sub_w_xi)) (lit true 1)))) false false false ∷ expression (bin 26 add (bin 23 mul (leaf 21 (exp 2 0)) (leaf 22 (flat challenge 1))) (neg 25 (leaf 24 (cell const 0 0)))) false false false ∷ expression (bin 34 add (bin 31 mul (leaf 27 (x x_div_x_sub_xi)) (bin 30 mul (leaf 28 (exp 3 0)) (leaf 29 (exp 3 0)))) (binc 33 addc (leaf 32 (exp 2 0)) (lit false 5))) false false false ∷ expression (muladd 38 (leaf 35 (x plain_x)) (leaf 36 (cell cm 1 0)) (leaf 37 (flat challenge 1))) false false false ∷ expression (bin 44 sub (leaf 39 (exp 2 0)) (bin 43 add (binc 41 mulc (leaf 40 (exp 3 0)) (lit false 1)) (leaf 42 (cell cm 2 0)))) false false true ∷ expression (binc 55 mulc (bin 54 add (binc 49 mulc (bin 48 add (neg 46 (leaf 45 (exp 6 0))) (leaf 47 (flat challenge 2))) (lit true 9223372036854775808)) (bin 53 mul (binc 51 addc (leaf 50 (flat challenge 2)) (lit true 1)) (leaf 52 (number (lit false 5))))) (lit true 9223372036854775808)) false false true ∷ [])
    (2 ∷ 5 ∷ 7 ∷ []) 24 27 1000000
    (6 ∷ []) ∷
    -- random-1-035
    vector
    (expression (binc 8 mulc (bin 7 mul (leaf 0 (cell cm 2 0)) (bin 6 sub (binc 2 addc (leaf 1 (number (lit false 1))) (lit false 1)) (binc 5 addc (binc 4 addc (leaf 3 (flat challenge 3)) (lit false 5)) (lit false 0)))) (lit false 0)) false false false ∷ expression (bin 13 add (bin 11 sub (leaf 9 (cell cm 0 0)) (leaf 10 (exp 0 1))) (leaf 12 (flat challenge 2))) false false false ∷ expression (bin 18 mul (leaf 14 (exp 1 0)) (bin 17 add (leaf 15 (cell cm 0 0)) (leaf 16 (exp 1 0)))) false false false ∷ expression (bin 24 mul (binc 20 addc (leaf 19 (exp 2 0)) (lit false 0)) (bin 23 mul (leaf 21 (number (lit false 0))) (leaf 22 (cell cm 0 0)))) false false true ∷ expression (bin 29 mul (bin 27 sub (leaf 25 (exp 2 0)) (leaf 26 (cell cm 1 0))) (leaf 28 (cell cm 3 0))) true true false ∷ expression (bin 35 mul (binc 33 addc (neg 32 (binc 31 addc (leaf 30 (cell cm 1 0)) (lit true 9223372036854775808))) (lit false 5)) (leaf 34 (exp 4 0))) false false false ∷ expression (bin 38 mul (leaf 36 (exp 2 1)) (leaf 37 (x plain_x))) false false false ∷ expression (bin 41 mul (leaf 39 (cell cm 2 0)) (leaf 40 (cell cm 0 0))) true true true ∷ [])
    (3 ∷ 7 ∷ []) 3 4 217
    (0 ∷ 1 ∷ 217 ∷ 1 ∷ 2 ∷ []) ∷
    -- random-1-036
    vector
    (expression (bin 4 add (leaf 0 (number (lit true 9223372036854775808))) (bin 3 add (leaf 1 (flat public 0)) (leaf 2 (flat public 2)))) false false false ∷ expression (bin 9 sub (leaf 5 (number (lit false 1))) (bin 8 add (leaf 6 (number (lit false 1))) (leaf 7 (number (lit false 5))))) true false false ∷ expression (bin 13 sub (neg 11 (leaf 10 (number (lit true 9223372036854775808)))) (leaf 12 (exp 1 0))) false false false ∷ [])
    (2 ∷ 2 ∷ []) 23 26 1000000
    (14 ∷ []) ∷
    -- random-1-037
    vector
    (expression (bin 2 mul (leaf 0 (cell cm 0 1)) (leaf 1 (number (lit false 0)))) false false false ∷ expression (bin 13 add (leaf 3 (cell cm 2 0)) (bin 12 mul (bin 10 add (leaf 4 (exp 0 0)) (binc 9 mulc (bin 8 sub (binc 6 addc (leaf 5 (number (lit true 1))) (lit false 5)) (leaf 7 (exp 0 0))) (lit true 1))) (leaf 11 (x plain_x)))) true false false ∷ expression (bin 20 mul (leaf 14 (exp 1 0)) (bin 19 mul (leaf 15 (x plain_x)) (bin 18 mul (leaf 16 (exp 1 0)) (leaf 17 (exp 1 0))))) false false false ∷ expression (bin 23 add (leaf 21 (exp 2 0)) (leaf 22 (flat challenge 3))) true true true ∷ expression (leaf 24 (exp 2 0)) false false false ∷ expression (bin 27 mul (leaf 25 (exp 1 0)) (leaf 26 (exp 3 0))) true false true ∷ [])
    (5 ∷ 2 ∷ 1 ∷ 5 ∷ 0 ∷ []) 23 24 1000000
    (13 ∷ []) ∷
    -- random-1-038
    vector
    (expression (bin 11 sub (bin 2 mul (leaf 0 (number (lit false 1))) (leaf 1 (flat eval 0))) (neg 10 (bin 9 add (binc 7 addc (bin 6 sub (binc 4 addc (leaf 3 (number (lit false 1))) (lit false 0)) (leaf 5 (flat eval 3))) (lit true 9223372036854775808)) (leaf 8 (number (lit false 1)))))) false true false ∷ expression (binc 16 mulc (neg 15 (bin 14 sub (leaf 12 (flat public 2)) (leaf 13 (number (lit true 9223372036854775808))))) (lit true 1)) false false false ∷ expression (binc 24 addc (bin 23 add (leaf 17 (exp 0 0)) (bin 22 add (leaf 18 (flat challenge 3)) (bin 21 add (leaf 19 (flat public 1)) (leaf 20 (exp 3 0))))) (lit false 5)) false false false ∷ expression (bin 30 mul (leaf 25 (flat eval 1)) (bin 29 mul (binc 27 mulc (leaf 26 (flat challenge 3)) (lit false 1)) (leaf 28 (flat eval 2)))) false false false ∷ [])
    (1 ∷ 1 ∷ 3 ∷ []) 3 7 289
    (0 ∷ 0 ∷ 288 ∷ []) ∷
    -- random-1-039
    vector
    (expression (binc 9 addc (bin 8 mul (bin 6 mul (bin 4 mul (neg 2 (neg 1 (leaf 0 (cell cm 2 0)))) (leaf 3 (cell cm 0 0))) (leaf 5 (cell cm 3 1))) (leaf 7 (cell cm 3 0))) (lit false 5)) true true false ∷ expression (binc 18 mulc (bin 17 mul (leaf 10 (cell cm 0 0)) (bin 16 mul (bin 14 mul (leaf 11 (cell cm 1 0)) (binc 13 addc (leaf 12 (exp 0 0)) (lit false 0))) (leaf 15 (cell cm 0 0)))) (lit false 0)) false false false ∷ expression (bin 23 mul (bin 21 mul (leaf 19 (cell cm 3 0)) (leaf 20 (exp 1 0))) (leaf 22 (cell cm 3 0))) false false false ∷ expression (bin 33 mul (bin 27 add (binc 25 mulc (leaf 24 (cell cm 1 0)) (lit true 1)) (leaf 26 (cell cm 2 0))) (bin 32 mul (bin 30 add (leaf 28 (cell cm 1 0)) (leaf 29 (exp 2 0))) (leaf 31 (exp 1 1)))) false false false ∷ expression (bin 38 mul (leaf 34 (exp 3 0)) (bin 37 mul (leaf 35 (exp 1 0)) (leaf 36 (exp 1 0)))) false false false ∷ [])
    (4 ∷ 0 ∷ []) 3 4 3152
    (13 ∷ []) ∷
    -- random-1-040
    vector
    (expression (bin 2 mul (leaf 0 (cell cm 2 0)) (leaf 1 (number (lit true 9223372036854775808)))) false false true ∷ expression (bin 10 add (bin 8 mul (bin 5 mul (leaf 3 (exp 0 0)) (leaf 4 (exp 0 1))) (neg 7 (leaf 6 (cell cm 0 0)))) (leaf 9 (exp 0 0))) true true true ∷ expression (bin 18 mul (bin 14 add (leaf 11 (cell cm 1 1)) (binc 13 mulc (leaf 12 (exp 1 0)) (lit true 1))) (bin 17 add (leaf 15 (cell cm 1 0)) (leaf 16 (exp 1 1)))) false false false ∷ [])
    (2 ∷ 2 ∷ []) 0 2 277
    (0 ∷ 2 ∷ 277 ∷ 1 ∷ []) ∷
    -- random-1-041
    vector
    (expression (bin 10 add (bin 4 mul (bin 2 mul (leaf 0 (x plain_x)) (leaf 1 (cell cm 3 0))) (leaf 3 (cell const 1 0))) (neg 9 (bin 8 mul (leaf 5 (flat challenge 1)) (binc 7 mulc (leaf 6 (cell cm 3 0)) (lit false 5))))) true true true ∷ [])
    (0 ∷ []) 3 5 1000000
    (0 ∷ 2 ∷ 37 ∷ []) ∷
    -- random-1-042
    vector
    (expression (bin 13 add (neg 5 (bin 4 add (bin 2 mul (leaf 0 (cell cm 1 0)) (leaf 1 (flat challenge 1))) (leaf 3 (x plain_x)))) (neg 12 (bin 11 mul (binc 8 mulc (binc 7 addc (leaf 6 (cell cm 1 1)) (lit false 1)) (lit false 0)) (binc 10 mulc (leaf 9 (cell cm 0 0)) (lit true 1))))) false true false ∷ expression (bin 21 mul (bin 19 mul (binc 16 mulc (binc 15 addc (leaf 14 (exp 4 0)) (lit true 9223372036854775808)) (lit true 9223372036854775808)) (binc 18 mulc (leaf 17 (cell cm 2 0)) (lit false 5))) (leaf 20 (number (lit true 1)))) false false false ∷ expression (bin 24 mul (leaf 22 (exp 3 1)) (leaf 23 (exp 0 0))) true true false ∷ expression (bin 34 mul (leaf 25 (exp 0 0)) (bin 33 sub (neg 31 (bin 30 mul (bin 28 mul (leaf 26 (exp 0 0)) (leaf 27 (exp 0 0))) (leaf 29 (exp 4 0)))) (leaf 32 (flat challenge 0)))) true false false ∷ expression (bin 45 mul (binc 40 addc (bin 39 mul (bin 37 mul (leaf 35 (cell cm 0 0)) (leaf 36 (x plain_x))) (leaf 38 (exp 0 0))) (lit true 1)) (bin 44 mul (leaf 41 (exp 0 0)) (binc 43 addc (leaf 42 (flat challenge 0)) (lit false 0)))) false false false ∷ expression (bin 52 add (bin 48 mul (leaf 46 (exp 0 0)) (leaf 47 (exp 4 0))) (bin 51 mul (leaf 49 (exp 0 0)) (leaf 50 (exp 0 0)))) false false false ∷ [])
    (1 ∷ []) 23 27 1716
    (15 ∷ []) ∷
    -- random-1-043
    vector
    (expression (binc 5 mulc (bin 4 mul (leaf 0 (flat challenge 1)) (bin 3 mul (leaf 1 (number (lit false 0))) (leaf 2 (x plain_x)))) (lit true 9223372036854775808)) false false false ∷ expression (neg 12 (bin 11 mul (bin 9 mul (neg 7 (leaf 6 (cell cm 3 0))) (leaf 8 (flat challenge 1))) (leaf 10 (exp 2 0)))) true true false ∷ expression (bin 18 mul (binc 14 addc (leaf 13 (exp 0 0)) (lit true 9223372036854775808)) (bin 17 add (leaf 15 (exp 3 1)) (leaf 16 (cell cm 2 0)))) false false false ∷ expression (bin 27 mul (neg 23 (neg 22 (bin 21 mul (leaf 19 (exp 0 0)) (leaf 20 (exp 0 0))))) (bin 26 mul (leaf 24 (exp 0 0)) (leaf 25 (exp 0 1)))) true false true ∷ [])
    (1 ∷ []) 3 5 474
    (0 ∷ 3 ∷ 474 ∷ 3 ∷ []) ∷
    -- random-1-044
    vector
    (expression (bin 4 sub (leaf 0 (number (lit false 0))) (bin 3 add (leaf 1 (number (lit false 5))) (leaf 2 (flat public 1)))) false false false ∷ expression (bin 9 sub (bin 7 add (leaf 5 (number (lit false 5))) (leaf 6 (number (lit false 1)))) (leaf 8 (exp 4 0))) false false false ∷ expression (neg 14 (bin 13 add (binc 11 addc (leaf 10 (flat public 1)) (lit false 5)) (leaf 12 (number (lit true 9223372036854775808))))) false false false ∷ expression (bin 20 add (leaf 15 (flat public 3)) (bin 19 add (binc 17 mulc (leaf 16 (exp 7 0)) (lit false 5)) (leaf 18 (flat public 2)))) false false false ∷ expression (bin 25 sub (bin 23 add (leaf 21 (number (lit false 0))) (leaf 22 (number (lit false 0)))) (leaf 24 (number (lit false 1)))) true false false ∷ expression (bin 32 sub (binc 30 mulc (bin 29 mul (leaf 26 (exp 3 1)) (binc 28 mulc (leaf 27 (number (lit true 1))) (lit true 9223372036854775808))) (lit true 9223372036854775808)) (leaf 31 (number (lit true 9223372036854775808)))) false true false ∷ expression (bin 37 add (bin 35 add (leaf 33 (exp 1 0)) (leaf 34 (number (lit true 9223372036854775808)))) (leaf 36 (exp 4 0))) false false false ∷ expression (bin 42 add (leaf 38 (exp 1 0)) (bin 41 add (leaf 39 (exp 1 0)) (leaf 40 (exp 1 0)))) true false true ∷ [])
    (4 ∷ 5 ∷ []) 24 24 13
    (0 ∷ 1 ∷ 13 ∷ []) ∷
    -- random-1-045
    vector
    (expression (leaf 0 (flat challenge 1)) false false false ∷ expression (bin 5 sub (bin 3 mul (leaf 1 (cell cm 0 0)) (leaf 2 (exp 0 0))) (leaf 4 (exp 0 0))) true false true ∷ expression (bin 11 add (bin 8 mul (leaf 6 (x plain_x)) (leaf 7 (cell cm 1 0))) (binc 10 addc (leaf 9 (exp 1 0)) (lit true 9223372036854775808))) false false false ∷ expression (bin 17 mul (bin 15 mul (leaf 12 (exp 2 0)) (binc 14 addc (leaf 13 (cell cm 2 0)) (lit false 1))) (leaf 16 (exp 2 0))) false false false ∷ [])
    (2 ∷ 2 ∷ 3 ∷ 3 ∷ 0 ∷ []) 24 24 1000000
    (13 ∷ []) ∷
    -- random-1-046
    vector
    (expression (bin 8 sub (neg 5 (bin 4 add (bin 2 add (leaf 0 (number (lit true 9223372036854775808))) (leaf 1 (flat public 1))) (leaf 3 (number (lit false 1))))) (binc 7 addc (leaf 6 (flat public 2)) (lit false 5))) false false false ∷ expression (leaf 9 (exp 0 0)) false false true ∷ expression (bin 15 mul (leaf 10 (exp 1 0)) (bin 14 sub (leaf 11 (flat public 1)) (binc 13 mulc (leaf 12 (flat public 3)) (lit true 9223372036854775808)))) false false true ∷ expression (bin 25 add (bin 21 sub (binc 19 mulc (bin 18 sub (leaf 16 (number (lit false 1))) (leaf 17 (number (lit false 1)))) (lit false 0)) (leaf 20 (flat public 1))) (bin 24 sub (leaf 22 (exp 1 0)) (leaf 23 (exp 1 0)))) false false true ∷ expression (bin 28 add (leaf 26 (exp 0 0)) (leaf 27 (exp 2 0))) false false false ∷ expression (leaf 29 (flat public 1)) true true false ∷ expression (bin 37 sub (leaf 30 (exp 4 0)) (bin 36 mul (leaf 31 (flat public 2)) (bin 35 sub (leaf 32 (number (lit false 5))) (neg 34 (leaf 33 (flat public 1)))))) false false false ∷ expression (bin 40 sub (leaf 38 (exp 5 0)) (leaf 39 (exp 4 0))) false false false ∷ [])
    (7 ∷ []) 3 5 1000000
    (0 ∷ 1 ∷ 72 ∷ []) ∷
    -- random-1-047
    vector
    (expression (neg 4 (binc 3 mulc (bin 2 mul (leaf 0 (cell const 0 0)) (leaf 1 (cell const 2 0))) (lit true 1))) false false false ∷ expression (leaf 5 (cell cm 1 0)) false false false ∷ expression (bin 12 sub (bin 10 mul (leaf 6 (cell const 1 0)) (bin 9 mul (leaf 7 (exp 0 0)) (leaf 8 (x plain_x)))) (leaf 11 (x plain_x))) false false false ∷ [])
    (0 ∷ 2 ∷ []) 24 27 18446744073709551615
    (0 ∷ 2 ∷ 124 ∷ 0 ∷ []) ∷
    -- random-1-048
    vector
    (expression (bin 6 add (binc 1 mulc (leaf 0 (x plain_x)) (lit false 0)) (bin 5 mul (neg 3 (leaf 2 (cell cm 0 0))) (leaf 4 (cell cm 0 0)))) false false false ∷ expression (bin 11 add (leaf 7 (number (lit true 1))) (bin 10 mul (leaf 8 (number (lit true 9223372036854775808))) (leaf 9 (exp 0 0)))) false false false ∷ expression (bin 16 mul (bin 14 sub (leaf 12 (exp 1 0)) (leaf 13 (exp 1 0))) (leaf 15 (cell cm 0 0))) false false false ∷ expression (bin 25 mul (bin 23 mul (leaf 17 (cell const 0 0)) (binc 22 mulc (bin 21 add (neg 19 (leaf 18 (exp 2 0))) (leaf 20 (cell cm 0 0))) (lit false 1))) (leaf 24 (x plain_x))) true false false ∷ expression (bin 35 mul (bin 30 add (bin 28 mul (leaf 26 (exp 1 0)) (leaf 27 (exp 1 0))) (leaf 29 (exp 3 1))) (bin 34 add (leaf 31 (flat challenge 1)) (binc 33 addc (leaf 32 (cell cm 3 1)) (lit false 5)))) true true true ∷ expression (bin 43 mul (binc 41 mulc (bin 40 sub (bin 38 mul (leaf 36 (exp 1 0)) (leaf 37 (exp 2 0))) (leaf 39 (exp 1 0))) (lit false 5)) (leaf 42 (exp 4 0))) false false false ∷ [])
    ([]) 3 4 0
    (17 ∷ []) ∷
    -- random-1-049
    vector
    (expression (bin 10 add (neg 8 (bin 7 add (leaf 0 (number (lit false 1))) (bin 6 add (neg 2 (leaf 1 (flat public 1))) (bin 5 add (leaf 3 (flat public 0)) (leaf 4 (number (lit false 0))))))) (leaf 9 (number (lit false 0)))) false false false ∷ expression (bin 15 add (bin 13 sub (leaf 11 (flat public 3)) (leaf 12 (exp 3 0))) (leaf 14 (flat public 0))) true false false ∷ expression (bin 19 add (leaf 16 (exp 3 1)) (neg 18 (leaf 17 (flat public 2)))) true false false ∷ expression (bin 28 sub (bin 23 add (binc 21 addc (leaf 20 (exp 0 0)) (lit false 0)) (leaf 22 (exp 0 0))) (bin 27 sub (leaf 24 (number (lit true 9223372036854775808))) (neg 26 (leaf 25 (exp 0 1))))) true true true ∷ [])
    (1 ∷ []) 24 25 1000000
    (14 ∷ []) ∷
    -- random-1-050
    vector
    (expression (bin 9 add (bin 6 mul (binc 2 addc (binc 1 mulc (leaf 0 (x plain_x)) (lit false 0)) (lit true 1)) (neg 5 (binc 4 addc (leaf 3 (x plain_x)) (lit false 1)))) (neg 8 (leaf 7 (number (lit false 0))))) false false false ∷ expression (bin 12 add (leaf 10 (cell cm 0 1)) (leaf 11 (number (lit false 1)))) false false false ∷ expression (bin 22 mul (neg 14 (leaf 13 (exp 1 0))) (binc 21 addc (bin 20 add (bin 18 mul (binc 16 addc (leaf 15 (exp 1 0)) (lit true 9223372036854775808)) (leaf 17 (cell cm 1 0))) (leaf 19 (cell const 1 0))) (lit false 5))) false false true ∷ expression (bin 27 mul (leaf 23 (number (lit false 0))) (neg 26 (binc 25 mulc (leaf 24 (exp 1 0)) (lit false 1)))) false false false ∷ [])
    (1 ∷ 3 ∷ 3 ∷ 0 ∷ 0 ∷ []) 23 24 1000000
    (0 ∷ 1 ∷ 76 ∷ []) ∷
    -- random-1-051
    vector
    (expression (bin 4 sub (leaf 0 (flat eval 1)) (bin 3 add (leaf 1 (number (lit true 1))) (leaf 2 (flat challenge 2)))) false true true ∷ expression (bin 13 sub (bin 11 mul (leaf 5 (flat public 0)) (binc 10 addc (bin 9 add (leaf 6 (number (lit false 0))) (neg 8 (leaf 7 (flat eval 1)))) (lit false 5))) (leaf 12 (flat challenge 2))) false false false ∷ expression (bin 16 add (leaf 14 (exp 0 0)) (leaf 15 (exp 0 0))) false true false ∷ expression (bin 24 sub (bin 19 mul (leaf 17 (exp 2 0)) (leaf 18 (exp 2 0))) (bin 23 mul (leaf 20 (exp 1 0)) (binc 22 mulc (leaf 21 (exp 2 0)) (lit false 5)))) false false false ∷ expression (leaf 25 (exp 3 0)) true false false ∷ [])
    (4 ∷ 4 ∷ []) 0 0 1000000
    (0 ∷ 1 ∷ 12 ∷ []) ∷
    -- random-1-052
    vector
    (expression (bin 11 sub (binc 1 mulc (leaf 0 (cell cm 2 0)) (lit false 1)) (bin 10 add (bin 8 add (leaf 2 (flat challenge 1)) (binc 7 mulc (bin 6 mul (leaf 3 (flat challenge 2)) (binc 5 addc (leaf 4 (cell const 1 0)) (lit true 9223372036854775808))) (lit true 9223372036854775808))) (leaf 9 (cell cm 2 0)))) false false false ∷ expression (bin 23 mul (neg 16 (bin 15 mul (leaf 12 (cell cm 3 0)) (binc 14 mulc (leaf 13 (exp 0 0)) (lit false 0)))) (bin 22 mul (leaf 17 (cell cm 0 0)) (binc 21 addc (bin 20 mul (leaf 18 (flat challenge 1)) (leaf 19 (number (lit false 0)))) (lit true 9223372036854775808)))) false false false ∷ expression (bin 34 add (neg 32 (bin 31 sub (bin 26 add (leaf 24 (cell cm 2 0)) (leaf 25 (flat challenge 0))) (binc 30 mulc (bin 29 mul (leaf 27 (exp 1 0)) (leaf 28 (cell const 3 0))) (lit false 1)))) (leaf 33 (cell const 2 0))) false false false ∷ [])
    (2 ∷ []) 0 1 1000000
    (0 ∷ 2 ∷ 141 ∷ 1 ∷ []) ∷
    -- random-1-053
    vector
    (expression (bin 7 mul (neg 3 (bin 2 add (leaf 0 (flat eval 1)) (leaf 1 (flat challenge 0)))) (bin 6 mul (leaf 4 (number (lit false 0))) (leaf 5 (number (lit false 5))))) false false false ∷ expression (bin 17 add (bin 15 add (leaf 8 (number (lit true 9223372036854775808))) (bin 14 sub (leaf 9 (flat public 3)) (binc 13 mulc (bin 12 sub (leaf 10 (exp 0 0)) (leaf 11 (number (lit false 0)))) (lit false 5)))) (leaf 16 (exp 0 0))) false false false ∷ expression (bin 22 sub (bin 20 mul (leaf 18 (exp 1 1)) (leaf 19 (flat eval 1))) (leaf 21 (flat challenge 3))) false false false ∷ expression (bin 26 add (leaf 23 (flat eval 0)) (binc 25 addc (leaf 24 (number (lit false 0))) (lit true 9223372036854775808))) true true true ∷ expression (bin 37 add (neg 35 (bin 34 add (bin 29 add (leaf 27 (exp 1 0)) (leaf 28 (exp 2 0))) (binc 33 addc (bin 32 mul (leaf 30 (exp 0 0)) (leaf 31 (flat eval 3))) (lit true 1)))) (leaf 36 (exp 3 0))) false false false ∷ expression (bin 42 add (leaf 38 (exp 3 0)) (bin 41 sub (leaf 39 (exp 1 0)) (leaf 40 (exp 4 0)))) true true false ∷ expression (bin 49 add (neg 44 (leaf 43 (flat challenge 3))) (bin 48 add (neg 46 (leaf 45 (number (lit false 5)))) (leaf 47 (flat eval 1)))) false false false ∷ expression (bin 52 add (leaf 50 (exp 6 0)) (leaf 51 (number (lit true 9223372036854775808)))) false false false ∷ [])
    (7 ∷ 1 ∷ 3 ∷ 6 ∷ 0 ∷ []) 3 4 1000000
    (6 ∷ []) ∷
    -- random-1-054
    vector
    (expression (bin 4 sub (leaf 0 (cell cm 1 0)) (bin 3 mul (leaf 1 (cell cm 0 1)) (leaf 2 (cell cm 0 0)))) false false false ∷ expression (bin 9 mul (bin 7 mul (leaf 5 (cell cm 1 0)) (leaf 6 (cell cm 3 0))) (leaf 8 (cell cm 3 0))) true false false ∷ expression (bin 12 mul (leaf 10 (cell cm 2 0)) (leaf 11 (cell cm 1 0))) false false false ∷ expression (leaf 13 (cell cm 0 0)) false false false ∷ expression (bin 22 mul (leaf 14 (exp 2 0)) (bin 21 mul (leaf 15 (cell cm 2 0)) (bin 20 mul (bin 18 mul (leaf 16 (exp 1 0)) (leaf 17 (cell cm 2 0))) (leaf 19 (exp 3 0))))) false false false ∷ [])
    (0 ∷ 2 ∷ 2 ∷ 0 ∷ 4 ∷ []) 3 6 1094
    (15 ∷ []) ∷
    -- random-1-055
    vector
    (expression (binc 5 addc (bin 4 mul (leaf 0 (number (lit false 1))) (bin 3 sub (leaf 1 (number (lit true 9223372036854775808))) (leaf 2 (cell cm 0 0)))) (lit false 1)) false false false ∷ expression (bin 10 mul (leaf 6 (exp 0 0)) (bin 9 mul (leaf 7 (cell cm 3 0)) (leaf 8 (number (lit false 5))))) false false false ∷ expression (bin 20 add (binc 12 mulc (leaf 11 (cell cm 2 0)) (lit false 5)) (bin 19 mul (leaf 13 (cell cm 0 0)) (bin 18 mul (bin 16 mul (leaf 14 (cell cm 2 0)) (leaf 15 (cell cm 2 0))) (leaf 17 (number (lit true 1)))))) false true false ∷ expression (bin 23 add (leaf 21 (x plain_x)) (leaf 22 (exp 1 0))) false false false ∷ expression (bin 34 add (neg 32 (bin 31 mul (leaf 24 (cell cm 1 0)) (bin 30 sub (bin 28 mul (leaf 25 (exp 2 0)) (neg 27 (leaf 26 (exp 1 0)))) (leaf 29 (x plain_x))))) (leaf 33 (exp 1 0))) true true false ∷ expression (bin 39 mul (leaf 35 (exp 3 0)) (bin 38 mul (leaf 36 (cell const 1 0)) (leaf 37 (exp 4 0)))) false false false ∷ [])
    (1 ∷ 1 ∷ 0 ∷ 0 ∷ 5 ∷ []) 24 25 1000000
    (0 ∷ 2 ∷ 150 ∷ 1 ∷ 2 ∷ 3 ∷ 4 ∷ []) ∷
    -- random-1-056
    vector
    (expression (bin 11 mul (bin 5 add (leaf 0 (flat public 0)) (binc 4 mulc (bin 3 sub (leaf 1 (exp 4 0)) (leaf 2 (exp 2 0))) (lit false 1))) (binc 10 addc (bin 9 sub (binc 7 mulc (leaf 6 (exp 4 0)) (lit false 1)) (leaf 8 (exp 2 0))) (lit true 9223372036854775808))) true false true ∷ expression (bin 16 add (bin 14 add (leaf 12 (flat public 3)) (leaf 13 (flat public 2))) (leaf 15 (number (lit false 5)))) false false false ∷ expression (leaf 17 (number (lit true 9223372036854775808))) false false true ∷ expression (binc 28 mulc (bin 27 add (bin 23 sub (leaf 18 (number (lit false 0))) (bin 22 add (leaf 19 (number (lit false 0))) (binc 21 addc (leaf 20 (number (lit false 0))) (lit false 0)))) (bin 26 add (leaf 24 (flat public 1)) (leaf 25 (number (lit false 0))))) (lit false 5)) false false false ∷ expression (bin 36 add (leaf 29 (flat public 3)) (bin 35 mul (bin 32 mul (leaf 30 (exp 2 1)) (leaf 31 (number (lit true 1)))) (neg 34 (leaf 33 (flat public 2))))) false false false ∷ expression (leaf 37 (flat public 0)) false true false ∷ expression (bin 43 mul (leaf 38 (number (lit false 1))) (bin 42 sub (binc 40 mulc (leaf 39 (number (lit true 1))) (lit false 1)) (leaf 41 (exp 0 0)))) false false false ∷ [])
    (1 ∷ 0 ∷ []) 24 24 1000000
    (0 ∷ 1 ∷ 10 ∷ []) ∷
    -- random-1-057
    vector
    (expression (muladd 10 (binc 1 mulc (leaf 0 (flat public 1)) (lit false 0)) (binc 4 mulc (binc 3 addc (leaf 2 (flat public 0)) (lit false 1)) (lit false 5)) (muladd 9 (leaf 5 (exp 2 0)) (leaf 6 (flat eval 1)) (binc 8 mulc (leaf 7 (exp 2 1)) (lit true 1)))) false false false ∷ expression (bin 15 mul (leaf 11 (flat public 3)) (bin 14 mul (leaf 12 (number (lit false 1))) (leaf 13 (number (lit true 1))))) false false false ∷ expression (muladd 19 (leaf 16 (exp 1 0)) (leaf 17 (exp 1 0)) (leaf 18 (cell cm 0 0))) false false false ∷ expression (bin 24 mul (binc 21 addc (leaf 20 (cell cm 2 0)) (lit false 1)) (binc 23 addc (leaf 22 (exp 4 0)) (lit true 9223372036854775808))) false false false ∷ expression (bin 31 mul (bin 27 mul (leaf 25 (exp 0 0)) (leaf 26 (exp 0 1))) (binc 30 addc (neg 29 (leaf 28 (exp 2 0))) (lit false 1))) false false false ∷ [])
    (3 ∷ 4 ∷ 3 ∷ 4 ∷ 1 ∷ []) 24 28 27
    (6 ∷ []) ∷
    -- random-1-058
    vector
    (expression (bin 7 mul (bin 4 mul (bin 2 sub (leaf 0 (cell cm 0 0)) (leaf 1 (cell const 1 0))) (leaf 3 (cell const 0 0))) (binc 6 mulc (leaf 5 (cell cm 2 0)) (lit false 1))) false false false ∷ expression (muladd 11 (leaf 8 (exp 0 0)) (leaf 9 (exp 0 1)) (leaf 10 (cell q 3 0))) true false false ∷ expression (bin 21 mul (bin 14 add (leaf 12 (cell cm 3 0)) (leaf 13 (flat public 0))) (bin 20 add (neg 16 (leaf 15 (exp 1 0))) (binc 19 mulc (neg 18 (leaf 17 (x x_div_x_sub_xi))) (lit true 9223372036854775808)))) true true true ∷ expression (bin 25 mul (leaf 22 (exp 2 0)) (binc 24 mulc (leaf 23 (exp 2 0)) (lit true 9223372036854775808))) false false true ∷ expression (neg 36 (muladd 35 (neg 27 (leaf 26 (exp 2 0))) (leaf 28 (exp 3 0)) (bin 34 add (bin 32 mul (binc 30 addc (leaf 29 (x x_div_x_sub_xi)) (lit false 1)) (leaf 31 (cell cm 0 0))) (leaf 33 (x plain_x))))) true true true ∷ expression (bin 49 mul (bin 43 add (bin 41 mul (binc 38 mulc (leaf 37 (exp 2 0)) (lit false 0)) (neg 40 (leaf 39 (cell const 2 0)))) (leaf 42 (flat eval 2))) (neg 48 (binc 47 mulc (bin 46 add (leaf 44 (exp 4 0)) (leaf 45 (cell cm 1 0))) (lit true 1)))) true false true ∷ expression (leaf 50 (exp 5 0)) false false false ∷ expression (leaf 51 (x plain_x)) false false false ∷ [])
    (7 ∷ 6 ∷ 6 ∷ []) 23 24 0
    (15 ∷ []) ∷
    -- random-1-059
    vector
    (expression (bin 2 mul (leaf 0 (cell cm 1 1)) (leaf 1 (cell cm 2 0))) false false false ∷ expression (bin 8 mul (neg 6 (bin 5 mul (leaf 3 (cell cm 2 0)) (leaf 4 (exp 0 0)))) (leaf 7 (exp 0 0))) true true true ∷ [])
    (0 ∷ 1 ∷ 0 ∷ 1 ∷ 0 ∷ []) 23 23 38
    (13 ∷ []) ∷
    -- random-1-060
    vector
    (expression (bin 10 mul (bin 4 mul (leaf 0 (cell cm 0 0)) (bin 3 mul (leaf 1 (cell cm 3 0)) (leaf 2 (cell cm 2 0)))) (bin 9 mul (neg 7 (binc 6 mulc (leaf 5 (cell cm 0 0)) (lit false 5))) (leaf 8 (cell cm 0 0)))) false false false ∷ expression (binc 21 addc (bin 20 mul (bin 16 sub (binc 14 mulc (bin 13 mul (leaf 11 (cell cm 2 0)) (leaf 12 (exp 0 0))) (lit false 1)) (leaf 15 (cell cm 0 0))) (bin 19 mul (leaf 17 (cell cm 0 0)) (leaf 18 (exp 0 0)))) (lit false 0)) true false true ∷ expression (bin 26 add (leaf 22 (exp 1 0)) (bin 25 mul (leaf 23 (cell cm 2 0)) (leaf 24 (exp 1 0)))) false false false ∷ expression (bin 33 mul (bin 31 mul (bin 29 sub (leaf 27 (cell cm 2 0)) (leaf 28 (cell cm 3 0))) (leaf 30 (exp 1 0))) (leaf 32 (exp 2 0))) false false false ∷ expression (leaf 34 (exp 2 0)) false true false ∷ expression (bin 40 add (bin 37 mul (leaf 35 (cell cm 1 0)) (leaf 36 (cell cm 2 0))) (binc 39 addc (leaf 38 (exp 2 0)) (lit true 9223372036854775808))) false false false ∷ [])
    (2 ∷ 5 ∷ []) 3 6 1785
    (15 ∷ []) ∷
    -- random-1-061
    vector
    (expression (bin 7 mul (bin 2 add (leaf 0 (cell cm 1 0)) (leaf 1 (cell cm 0 0))) (binc 6 mulc (bin 5 mul (leaf 3 (cell cm 0 0)) (leaf 4 (cell cm 3 0))) (lit false 5))) false false false ∷ expression (bin 12 mul (leaf 8 (cell cm 1 0)) (bin 11 mul (leaf 9 (cell cm 3 0)) (leaf 10 (cell cm 1 0)))) false false false ∷ expression (leaf 13 (exp 1 0)) false false false ∷ expression (bin 18 mul (bin 16 mul (leaf 14 (cell cm 2 0)) (leaf 15 (cell cm 1 0))) (leaf 17 (exp 2 1))) true true true ∷ [])
    (3 ∷ 0 ∷ []) 0 1 18446744073709551615
    (0 ∷ 2 ∷ 39 ∷ 2 ∷ []) ∷
    -- random-1-062
    vector
    (expression (bin 4 mul (bin 2 mul (leaf 0 (cell cm 1 1)) (leaf 1 (cell cm 2 0))) (leaf 3 (cell cm 3 0))) false false false ∷ expression (bin 7 mul (leaf 5 (cell cm 1 1)) (leaf 6 (cell cm 1 0))) false true false ∷ expression (bin 13 mul (leaf 8 (exp 1 0)) (bin 12 add (binc 10 addc (leaf 9 (exp 1 0)) (lit false 1)) (leaf 11 (cell cm 3 0)))) true true true ∷ expression (leaf 14 (exp 1 0)) true false false ∷ [])
    (3 ∷ 2 ∷ []) 23 24 0
    (15 ∷ []) ∷
    -- random-1-063
    vector
    (expression (bin 5 mul (leaf 0 (flat eval 2)) (bin 4 add (leaf 1 (flat challenge 3)) (neg 3 (leaf 2 (flat public 0))))) false true false ∷ expression (bin 12 add (bin 10 add (bin 8 sub (leaf 6 (flat public 3)) (leaf 7 (number (lit true 1)))) (leaf 9 (exp 0 0))) (leaf 11 (number (lit false 0)))) false false false ∷ expression (bin 24 mul (bin 22 mul (bin 20 mul (binc 18 addc (bin 17 sub (binc 15 addc (binc 14 addc (leaf 13 (flat eval 0)) (lit true 9223372036854775808)) (lit false 1)) (leaf 16 (exp 1 0))) (lit false 0)) (leaf 19 (number (lit false 0)))) (leaf 21 (exp 1 0))) (leaf 23 (flat eval 3))) false false false ∷ expression (bin 29 add (bin 27 sub (leaf 25 (number (lit false 0))) (leaf 26 (exp 2 1))) (leaf 28 (exp 2 0))) false true false ∷ expression (bin 36 mul (leaf 30 (exp 2 0)) (bin 35 mul (bin 33 add (leaf 31 (number (lit false 1))) (leaf 32 (number (lit false 5)))) (leaf 34 (number (lit true 1))))) false false false ∷ expression (bin 41 sub (leaf 37 (exp 4 0)) (bin 40 mul (leaf 38 (exp 2 0)) (leaf 39 (flat eval 0)))) false false false ∷ expression (leaf 42 (flat eval 3)) true true true ∷ expression (bin 45 add (leaf 43 (exp 0 0)) (leaf 44 (flat public 3))) false false false ∷ [])
    (2 ∷ 7 ∷ []) 3 3 2
    (15 ∷ []) ∷
    -- random-1-064
    vector
    (expression (bin 7 mul (leaf 0 (cell cm 2 0)) (binc 6 addc (binc 5 mulc (bin 4 mul (binc 2 mulc (leaf 1 (number (lit false 5))) (lit false 0)) (leaf 3 (cell const 3 0))) (lit true 1)) (lit false 5))) false false false ∷ expression (bin 16 mul (bin 12 sub (bin 10 add (leaf 8 (number (lit true 9223372036854775808))) (leaf 9 (number (lit true 1)))) (leaf 11 (exp 0 0))) (bin 15 add (leaf 13 (cell cm 2 1)) (leaf 14 (exp 0 0)))) false false false ∷ expression (bin 25 mul (leaf 17 (exp 1 0)) (bin 24 mul (bin 21 mul (binc 19 mulc (leaf 18 (exp 1 0)) (lit false 0)) (leaf 20 (exp 0 0))) (binc 23 mulc (leaf 22 (flat challenge 0)) (lit true 9223372036854775808)))) true false false ∷ expression (bin 33 mul (binc 28 mulc (binc 27 mulc (leaf 26 (exp 2 0)) (lit true 9223372036854775808)) (lit false 5)) (bin 32 add (leaf 29 (number (lit false 5))) (neg 31 (leaf 30 (cell cm 3 0))))) false false false ∷ [])
    (3 ∷ 2 ∷ 2 ∷ []) 3 3 1000000
    (13 ∷ []) ∷
    -- random-1-065
    vector
    (expression (bin 2 mul (leaf 0 (number (lit false 5))) (leaf 1 (flat challenge 1))) false true true ∷ expression (bin 7 mul (bin 5 add (leaf 3 (flat challenge 0)) (leaf 4 (exp 3 0))) (leaf 6 (number (lit false 1)))) true true false ∷ expression (bin 14 mul (leaf 8 (x plain_x)) (bin 13 sub (bin 11 mul (leaf 9 (x plain_x)) (leaf 10 (exp 1 0))) (leaf 12 (exp 0 0)))) false false false ∷ expression (bin 20 sub (neg 16 (leaf 15 (exp 0 0))) (bin 19 add (leaf 17 (x plain_x)) (leaf 18 (flat challenge 0)))) false false false ∷ expression (bin 25 add (bin 23 mul (leaf 21 (cell cm 1 0)) (leaf 22 (exp 0 0))) (leaf 24 (exp 0 0))) false false false ∷ expression (bin 29 add (leaf 26 (number (lit false 5))) (neg 28 (leaf 27 (flat challenge 3)))) false false false ∷ expression (neg 35 (bin 34 mul (bin 32 mul (leaf 30 (exp 3 0)) (leaf 31 (cell const 1 0))) (leaf 33 (cell const 0 0)))) true true false ∷ [])
    (5 ∷ []) 0 1 9
    (15 ∷ []) ∷
    -- random-1-066
    vector
    (expression (bin 4 add (bin 2 sub (leaf 0 (cell cm 3 0)) (leaf 1 (cell const 3 0))) (leaf 3 (cell const 3 0))) false false false ∷ expression (neg 13 (binc 12 addc (bin 11 add (bin 9 mul (leaf 5 (exp 0 0)) (binc 8 mulc (binc 7 addc (leaf 6 (cell cm 0 0)) (lit false 1)) (lit false 5))) (leaf 10 (exp 0 0))) (lit false 0))) true true true ∷ expression (leaf 14 (exp 0 0)) false false false ∷ [])
    (2 ∷ []) 23 25 1000000
    (0 ∷ 0 ∷ 28 ∷ []) ∷
    -- random-1-067
    vector
    (expression (bin 9 mul (bin 6 add (leaf 0 (number (lit false 0))) (bin 5 sub (binc 3 addc (binc 2 addc (leaf 1 (flat challenge 3)) (lit true 9223372036854775808)) (lit false 5)) (leaf 4 (exp 1 0)))) (neg 8 (leaf 7 (flat challenge 3)))) true false false ∷ expression (bin 14 mul (bin 12 sub (leaf 10 (x plain_x)) (leaf 11 (flat challenge 0))) (leaf 13 (cell cm 1 0))) true false true ∷ expression (bin 20 mul (bin 18 mul (leaf 15 (exp 0 0)) (neg 17 (leaf 16 (cell cm 3 0)))) (leaf 19 (exp 0 0))) false false false ∷ [])
    (1 ∷ 2 ∷ 1 ∷ 0 ∷ 0 ∷ []) 3 5 1000000
    (0 ∷ 2 ∷ 298 ∷ 0 ∷ []) ∷
    -- random-1-068
    vector
    (expression (bin 2 add (leaf 0 (number (lit false 5))) (leaf 1 (cell cm 2 0))) false false false ∷ expression (bin 6 sub (binc 4 addc (leaf 3 (x plain_x)) (lit true 9223372036854775808)) (leaf 5 (number (lit false 0)))) false false true ∷ expression (bin 16 add (bin 14 mul (bin 9 mul (leaf 7 (exp 5 0)) (leaf 8 (flat challenge 3))) (neg 13 (bin 12 mul (leaf 10 (cell cm 1 0)) (leaf 11 (exp 5 0))))) (leaf 15 (exp 5 0))) true false true ∷ expression (binc 22 mulc (bin 21 mul (bin 19 mul (leaf 17 (exp 5 0)) (leaf 18 (cell cm 2 0))) (leaf 20 (exp 1 0))) (lit true 9223372036854775808)) false false false ∷ expression (bin 25 sub (leaf 23 (flat challenge 3)) (leaf 24 (cell cm 1 0))) false false false ∷ expression (bin 30 sub (leaf 26 (cell cm 0 0)) (bin 29 mul (leaf 27 (cell cm 1 0)) (leaf 28 (cell cm 2 0)))) false false false ∷ [])
    (4 ∷ 3 ∷ []) 23 26 131
    (15 ∷ []) ∷
    -- random-1-069
    vector
    (expression (bin 4 sub (bin 2 add (leaf 0 (flat challenge 1)) (leaf 1 (number (lit false 5)))) (leaf 3 (cell cm 2 1))) false false false ∷ expression (bin 10 mul (binc 8 mulc (bin 7 mul (leaf 5 (number (lit false 0))) (leaf 6 (exp 0 0))) (lit true 1)) (leaf 9 (exp 0 0))) false false false ∷ expression (leaf 11 (exp 0 0)) true true false ∷ expression (bin 14 mul (leaf 12 (flat challenge 1)) (leaf 13 (cell cm 1 0))) false false false ∷ expression (neg 22 (neg 21 (bin 20 add (leaf 15 (exp 2 0)) (binc 19 addc (bin 18 mul (leaf 16 (cell cm 3 0)) (leaf 17 (exp 2 0))) (lit false 5))))) false false true ∷ [])
    (4 ∷ 4 ∷ 1 ∷ []) 3 3 32
    (0 ∷ 1 ∷ 32 ∷ []) ∷
    -- random-1-070
    vector
    (expression (bin 9 add (binc 7 mulc (bin 6 add (bin 4 mul (neg 2 (binc 1 addc (leaf 0 (number (lit false 5))) (lit false 5))) (leaf 3 (number (lit true 9223372036854775808)))) (leaf 5 (flat eval 2))) (lit true 1)) (leaf 8 (number (lit false 0)))) false true false ∷ expression (bin 14 add (bin 12 add (leaf 10 (number (lit true 9223372036854775808))) (leaf 11 (flat eval 0))) (leaf 13 (flat challenge 3))) false false false ∷ expression (binc 20 mulc (bin 19 add (leaf 15 (number (lit false 0))) (bin 18 sub (leaf 16 (exp 1 0)) (leaf 17 (number (lit false 5))))) (lit false 1)) false false false ∷ expression (bin 23 add (leaf 21 (number (lit false 1))) (leaf 22 (flat challenge 1))) false false false ∷ [])
    (3 ∷ 3 ∷ []) 24 24 11
    (14 ∷ []) ∷
    -- random-1-071
    vector
    (expression (leaf 0 (flat public 1)) false false false ∷ expression (bin 11 add (binc 4 addc (bin 3 sub (leaf 1 (flat public 1)) (leaf 2 (number (lit false 0)))) (lit false 5)) (bin 10 add (bin 8 add (leaf 5 (exp 0 0)) (binc 7 mulc (leaf 6 (flat public 3)) (lit false 0))) (leaf 9 (number (lit true 9223372036854775808))))) true false false ∷ expression (bin 23 mul (bin 18 add (leaf 12 (exp 0 0)) (binc 17 addc (neg 16 (bin 15 add (leaf 13 (exp 0 0)) (leaf 14 (exp 1 0)))) (lit false 5))) (bin 22 sub (leaf 19 (exp 0 0)) (binc 21 mulc (leaf 20 (flat public 1)) (lit true 9223372036854775808)))) false false false ∷ expression (bin 28 add (leaf 24 (flat public 1)) (bin 27 add (leaf 25 (flat public 2)) (leaf 26 (exp 1 0)))) false true false ∷ [])
    (3 ∷ []) 23 25 71
    (15 ∷ []) ∷
    -- random-1-072
    vector
    (expression (bin 4 add (leaf 0 (number (lit true 1))) (bin 3 mul (leaf 1 (number (lit false 0))) (leaf 2 (flat challenge 0)))) false false false ∷ expression (bin 9 add (bin 7 add (leaf 5 (exp 0 0)) (leaf 6 (number (lit true 1)))) (leaf 8 (exp 0 0))) false false false ∷ [])
    (0 ∷ 1 ∷ []) 24 27 18446744073709551615
    (14 ∷ []) ∷
    -- random-1-073
    vector
    (expression (bin 4 mul (bin 2 sub (leaf 0 (flat eval 3)) (leaf 1 (exp 3 0))) (leaf 3 (exp 3 0))) false false false ∷ expression (bin 9 add (bin 7 add (leaf 5 (exp 4 0)) (leaf 6 (x x_div_x_sub_xi))) (leaf 8 (exp 2 0))) false false false ∷ expression (neg 21 (muladd 20 (neg 11 (leaf 10 (exp 3 1))) (binc 13 addc (leaf 12 (flat eval 2)) (lit false 0)) (bin 19 mul (leaf 14 (cell cm 3 0)) (bin 18 mul (leaf 15 (exp 5 0)) (binc 17 addc (leaf 16 (exp 5 0)) (lit false 0)))))) false false false ∷ expression (muladd 28 (leaf 22 (flat challenge 3)) (leaf 23 (cell const 0 0)) (muladd 27 (leaf 24 (cell q 1 0)) (leaf 25 (flat challenge 0)) (leaf 26 (x x_div_x_sub_w_xi)))) false false false ∷ expression (leaf 29 (number (lit false 0))) false false false ∷ expression (muladd 38 (leaf 30 (exp 0 0)) (leaf 31 (exp 3 0)) (binc 37 addc (bin 36 mul (neg 33 (leaf 32 (cell cm 3 0))) (binc 35 addc (leaf 34 (exp 0 0)) (lit false 0))) (lit true 9223372036854775808))) true true true ∷ expression (bin 45 mul (bin 43 mul (leaf 39 (flat challenge 3)) (bin 42 add (leaf 40 (flat challenge 3)) (leaf 41 (cell cm 2 0)))) (leaf 44 (x x_div_x_sub_xi))) false false true ∷ [])
    (5 ∷ 6 ∷ 4 ∷ []) 23 24 1000000
    (6 ∷ []) ∷
    -- random-1-074
    vector
    (expression (muladd 4 (neg 1 (leaf 0 (cell const 0 1))) (leaf 2 (x x_div_x_sub_w_xi)) (leaf 3 (flat eval 1))) false false false ∷ expression (muladd 10 (leaf 5 (flat eval 3)) (binc 7 addc (leaf 6 (number (lit true 9223372036854775808))) (lit true 1)) (binc 9 addc (leaf 8 (x x_div_x_sub_w_xi)) (lit false 1))) false false false ∷ expression (bin 13 mul (leaf 11 (exp 0 0)) (leaf 12 (exp 0 0))) false false false ∷ [])
    (2 ∷ []) 0 0 2
    (6 ∷ []) ∷
    -- random-1-075
    vector
    (expression (bin 10 mul (bin 3 sub (leaf 0 (cell cm 2 0)) (binc 2 addc (leaf 1 (cell cm 3 0)) (lit false 0))) (bin 9 mul (bin 7 mul (neg 5 (leaf 4 (cell cm 2 0))) (leaf 6 (cell cm 1 0))) (leaf 8 (cell cm 0 0)))) false true false ∷ expression (neg 16 (bin 15 add (leaf 11 (cell cm 2 0)) (bin 14 mul (leaf 12 (cell cm 0 0)) (leaf 13 (cell cm 1 0))))) false false false ∷ expression (bin 20 mul (leaf 17 (exp 1 0)) (binc 19 mulc (leaf 18 (cell cm 0 0)) (lit false 5))) false false true ∷ [])
    (2 ∷ 0 ∷ []) 0 1 1000000
    (13 ∷ []) ∷
    -- random-1-076
    vector
    (expression (leaf 0 (cell cm 1 0)) false false false ∷ expression (bin 6 sub (binc 2 addc (leaf 1 (exp 4 0)) (lit true 9223372036854775808)) (bin 5 mul (leaf 3 (number (lit false 1))) (leaf 4 (exp 3 0)))) true false false ∷ expression (bin 17 add (bin 15 add (binc 8 mulc (leaf 7 (flat challenge 3)) (lit false 5)) (bin 14 mul (bin 12 mul (leaf 9 (exp 0 0)) (neg 11 (leaf 10 (exp 0 0)))) (leaf 13 (exp 1 0)))) (leaf 16 (exp 1 0))) false false false ∷ expression (bin 22 mul (bin 20 mul (leaf 18 (number (lit false 1))) (leaf 19 (cell cm 2 0))) (leaf 21 (x plain_x))) false false false ∷ expression (bin 30 mul (leaf 23 (exp 3 0)) (binc 29 addc (bin 28 add (leaf 24 (cell cm 1 1)) (binc 27 mulc (neg 26 (leaf 25 (exp 3 0))) (lit true 9223372036854775808))) (lit false 5))) false false true ∷ [])
    (2 ∷ []) 3 4 18446744073709551615
    (0 ∷ 2 ∷ 75 ∷ 1 ∷ 3 ∷ []) ∷
    -- random-1-077
    vector
    (expression (bin 9 mul (bin 4 mul (leaf 0 (cell cm 2 1)) (binc 3 mulc (binc 2 addc (leaf 1 (flat challenge 1)) (lit false 1)) (lit true 1))) (bin 8 mul (binc 6 mulc (leaf 5 (cell cm 3 0)) (lit false 1)) (leaf 7 (flat challenge 0)))) false false false ∷ expression (bin 14 add (bin 12 mul (leaf 10 (flat challenge 3)) (leaf 11 (exp 0 0))) (leaf 13 (exp 0 0))) false true true ∷ expression (bin 20 mul (bin 18 add (leaf 15 (cell cm 3 0)) (neg 17 (leaf 16 (cell cm 2 0)))) (leaf 19 (exp 1 0))) false false false ∷ expression (bin 27 mul (leaf 21 (exp 2 0)) (binc 26 addc (bin 25 mul (neg 23 (leaf 22 (exp 1 0))) (leaf 24 (exp 1 0))) (lit false 5))) false false false ∷ expression (bin 33 mul (binc 29 addc (leaf 28 (x plain_x)) (lit false 0)) (bin 32 sub (leaf 30 (exp 1 0)) (leaf 31 (exp 3 0)))) false false false ∷ expression (leaf 34 (number (lit true 1))) false false false ∷ expression (bin 38 sub (binc 36 mulc (leaf 35 (cell cm 3 0)) (lit false 0)) (leaf 37 (exp 3 0))) false false false ∷ expression (neg 43 (bin 42 sub (leaf 39 (exp 2 0)) (neg 41 (leaf 40 (cell const 1 0))))) false false false ∷ [])
    (1 ∷ 2 ∷ 1 ∷ 7 ∷ 4 ∷ []) 23 23 1000000
    (13 ∷ []) ∷
    -- random-1-078
    vector
    (expression (bin 6 add (bin 2 add (leaf 0 (flat challenge 3)) (leaf 1 (exp 4 0))) (bin 5 add (leaf 3 (exp 2 0)) (leaf 4 (flat public 1)))) false false false ∷ expression (bin 11 mul (bin 9 sub (leaf 7 (number (lit true 1))) (leaf 8 (exp 5 0))) (leaf 10 (exp 3 1))) false false false ∷ expression (bin 19 add (bin 14 mul (leaf 12 (flat challenge 2)) (leaf 13 (flat eval 1))) (bin 18 add (leaf 15 (flat public 1)) (binc 17 addc (leaf 16 (flat challenge 0)) (lit true 9223372036854775808)))) true false true ∷ expression (bin 23 add (neg 21 (leaf 20 (flat challenge 3))) (leaf 22 (exp 2 0))) false false false ∷ expression (bin 28 mul (leaf 24 (flat challenge 3)) (bin 27 add (leaf 25 (flat eval 1)) (leaf 26 (exp 5 0)))) false false false ∷ expression (bin 35 add (bin 32 add (leaf 29 (exp 2 0)) (binc 31 addc (leaf 30 (number (lit true 9223372036854775808))) (lit false 1))) (neg 34 (leaf 33 (exp 3 0)))) false true false ∷ [])
    (0 ∷ []) 23 23 1000000
    (6 ∷ []) ∷
    -- random-1-079
    vector
    (expression (bin 2 add (leaf 0 (flat public 2)) (leaf 1 (number (lit true 1)))) false false false ∷ expression (bin 11 sub (bin 7 sub (bin 5 add (leaf 3 (flat public 3)) (leaf 4 (exp 0 0))) (leaf 6 (exp 0 0))) (bin 10 add (leaf 8 (exp 0 0)) (leaf 9 (number (lit true 1))))) false false false ∷ expression (bin 17 add (leaf 12 (exp 1 0)) (bin 16 sub (binc 14 addc (leaf 13 (number (lit true 1))) (lit false 1)) (leaf 15 (exp 1 0)))) false true true ∷ [])
    (2 ∷ []) 23 23 18446744073709551615
    (14 ∷ []) ∷
    -- random-1-080
    vector
    (expression (bin 5 mul (leaf 0 (number (lit false 0))) (bin 4 mul (binc 2 addc (leaf 1 (cell cm 3 0)) (lit false 0)) (leaf 3 (number (lit false 5))))) false false false ∷ expression (binc 11 addc (binc 10 mulc (binc 9 addc (bin 8 mul (leaf 6 (cell cm 1 0)) (leaf 7 (exp 0 0))) (lit false 5)) (lit true 1)) (lit true 9223372036854775808)) false false false ∷ expression (leaf 12 (x plain_x)) false false false ∷ expression (bin 17 add (bin 15 mul (leaf 13 (x plain_x)) (leaf 14 (flat challenge 0))) (leaf 16 (exp 0 1))) false false false ∷ expression (bin 30 mul (binc 19 mulc (leaf 18 (number (lit false 0))) (lit false 1)) (bin 29 mul (bin 27 add (neg 24 (bin 23 mul (leaf 20 (cell cm 1 0)) (binc 22 mulc (leaf 21 (flat challenge 0)) (lit false 1)))) (binc 26 mulc (leaf 25 (exp 3 0)) (lit false 5))) (leaf 28 (exp 3 0)))) true false true ∷ expression (bin 36 mul (neg 32 (leaf 31 (number (lit true 1)))) (bin 35 add (leaf 33 (exp 2 0)) (leaf 34 (exp 2 0)))) false false false ∷ [])
    (5 ∷ 0 ∷ []) 23 23 0
    (15 ∷ []) ∷
    -- random-1-081
    vector
    (expression (neg 10 (neg 9 (bin 8 add (bin 3 mul (leaf 0 (cell cm 3 0)) (neg 2 (leaf 1 (x plain_x)))) (bin 7 add (binc 5 mulc (leaf 4 (cell const 1 0)) (lit true 9223372036854775808)) (leaf 6 (number (lit true 9223372036854775808))))))) true false false ∷ expression (bin 16 add (bin 14 sub (leaf 11 (flat challenge 0)) (neg 13 (leaf 12 (exp 0 0)))) (leaf 15 (cell const 0 0))) false true false ∷ expression (bin 19 sub (leaf 17 (cell cm 1 0)) (leaf 18 (exp 1 0))) true false true ∷ [])
    (2 ∷ 0 ∷ 2 ∷ []) 0 4 18446744073709551615
    (0 ∷ 1 ∷ 784 ∷ []) ∷
    -- random-1-082
    vector
    (expression (bin 6 mul (binc 1 mulc (leaf 0 (exp 6 0)) (lit true 9223372036854775808)) (binc 5 mulc (bin 4 add (leaf 2 (exp 2 0)) (leaf 3 (cell cm 0 0))) (lit true 9223372036854775808))) false false false ∷ expression (bin 12 mul (bin 9 mul (leaf 7 (exp 0 0)) (leaf 8 (exp 0 0))) (neg 11 (leaf 10 (cell cm 1 0)))) true false true ∷ expression (bin 17 add (bin 15 sub (leaf 13 (cell const 2 1)) (leaf 14 (flat challenge 2))) (leaf 16 (exp 6 1))) false false false ∷ expression (neg 29 (binc 28 mulc (binc 27 addc (bin 26 mul (bin 20 mul (leaf 18 (exp 2 0)) (leaf 19 (exp 6 0))) (bin 25 add (leaf 21 (exp 0 0)) (bin 24 add (leaf 22 (number (lit true 1))) (leaf 23 (cell cm 0 0))))) (lit false 5)) (lit true 9223372036854775808))) true true true ∷ expression (bin 35 sub (leaf 30 (cell cm 3 0)) (neg 34 (bin 33 mul (leaf 31 (number (lit true 1))) (leaf 32 (cell cm 0 1))))) false false false ∷ expression (bin 40 mul (leaf 36 (exp 0 0)) (bin 39 mul (leaf 37 (cell const 1 0)) (leaf 38 (cell cm 2 0)))) false false false ∷ expression (bin 49 sub (bin 47 mul (leaf 41 (cell const 3 0)) (bin 46 add (leaf 42 (cell cm 0 0)) (bin 45 mul (leaf 43 (cell const 0 0)) (leaf 44 (cell cm 2 0))))) (leaf 48 (cell cm 3 0))) false false false ∷ [])
    (5 ∷ 1 ∷ []) 3 6 1000000
    (0 ∷ 2 ∷ 1746 ∷ 0 ∷ 6 ∷ []) ∷
    -- random-1-083
    vector
    (expression (bin 9 mul (bin 5 sub (bin 3 sub (leaf 0 (flat eval 2)) (binc 2 mulc (leaf 1 (flat eval 1)) (lit true 9223372036854775808))) (leaf 4 (flat public 2))) (bin 8 mul (leaf 6 (flat eval 3)) (leaf 7 (flat challenge 2)))) true false true ∷ expression (binc 19 mulc (bin 18 add (leaf 10 (flat challenge 3)) (bin 17 mul (bin 14 mul (binc 12 mulc (leaf 11 (exp 0 0)) (lit false 1)) (leaf 13 (flat challenge 3))) (binc 16 addc (leaf 15 (exp 0 0)) (lit true 1)))) (lit false 1)) true false true ∷ [])
    (1 ∷ []) 24 25 0
    (15 ∷ []) ∷
    -- random-1-084
    vector
    (expression (bin 10 add (neg 2 (neg 1 (leaf 0 (flat public 1)))) (binc 9 mulc (bin 8 add (neg 6 (bin 5 mul (leaf 3 (number (lit false 1))) (leaf 4 (number (lit true 1))))) (leaf 7 (number (lit false 5)))) (lit false 5))) false true true ∷ expression (bin 18 add (neg 16 (bin 15 add (bin 13 sub (leaf 11 (exp 0 0)) (leaf 12 (exp 0 0))) (leaf 14 (exp 0 0)))) (leaf 17 (exp 0 0))) false false false ∷ expression (bin 23 sub (bin 21 add (leaf 19 (flat public 1)) (leaf 20 (exp 1 0))) (leaf 22 (number (lit true 1)))) false false false ∷ expression (bin 26 mul (leaf 24 (exp 1 0)) (leaf 25 (flat public 3))) false false false ∷ [])
    (3 ∷ 3 ∷ []) 23 24 1000000
    (14 ∷ []) ∷
    -- random-1-085
    vector
    (expression (bin 11 mul (binc 6 mulc (binc 5 mulc (bin 4 mul (leaf 0 (number (lit false 1))) (bin 3 mul (leaf 1 (number (lit true 9223372036854775808))) (leaf 2 (flat public 1)))) (lit false 5)) (lit false 0)) (bin 10 add (binc 8 addc (leaf 7 (flat public 0)) (lit true 9223372036854775808)) (leaf 9 (number (lit false 0))))) true true true ∷ expression (bin 14 add (leaf 12 (exp 0 0)) (leaf 13 (exp 0 0))) true false false ∷ expression (bin 17 add (leaf 15 (exp 1 0)) (leaf 16 (number (lit false 0)))) false false false ∷ expression (bin 28 sub (bin 20 add (leaf 18 (exp 2 0)) (leaf 19 (exp 0 0))) (neg 27 (bin 26 mul (bin 24 sub (leaf 21 (exp 1 0)) (binc 23 addc (leaf 22 (exp 1 0)) (lit false 1))) (leaf 25 (flat public 0))))) true false true ∷ expression (bin 36 add (bin 32 add (binc 30 mulc (leaf 29 (exp 2 0)) (lit false 5)) (leaf 31 (number (lit false 5)))) (bin 35 mul (leaf 33 (exp 3 0)) (leaf 34 (flat public 0)))) false false false ∷ expression (bin 39 sub (leaf 37 (number (lit false 1))) (leaf 38 (flat public 2))) false false false ∷ expression (leaf 40 (exp 5 0)) true true true ∷ [])
    (0 ∷ 6 ∷ []) 24 25 19
    (0 ∷ 1 ∷ 18 ∷ []) ∷
    -- random-1-086
    vector
    (expression (binc 3 mulc (bin 2 mul (leaf 0 (cell cm 0 1)) (leaf 1 (cell const 1 0))) (lit true 9223372036854775808)) true true true ∷ expression (bin 13 mul (leaf 4 (cell cm 2 0)) (bin 12 mul (bin 10 mul (leaf 5 (number (lit true 9223372036854775808))) (bin 9 mul (leaf 6 (exp 0 0)) (binc 8 mulc (leaf 7 (exp 0 0)) (lit false 5)))) (leaf 11 (cell cm 3 0)))) true false false ∷ expression (bin 23 add (neg 16 (binc 15 addc (leaf 14 (cell const 3 0)) (lit false 0))) (binc 22 mulc (bin 21 mul (bin 19 add (leaf 17 (x plain_x)) (leaf 18 (cell const 3 0))) (leaf 20 (flat challenge 2))) (lit true 9223372036854775808))) true false false ∷ expression (binc 33 addc (neg 32 (bin 31 mul (bin 26 add (leaf 24 (exp 4 0)) (leaf 25 (exp 0 0))) (bin 30 mul (leaf 27 (exp 2 0)) (neg 29 (leaf 28 (exp 4 0)))))) (lit true 9223372036854775808)) false false false ∷ expression (bin 38 add (leaf 34 (x plain_x)) (binc 37 addc (binc 36 addc (leaf 35 (cell cm 1 0)) (lit false 1)) (lit true 1))) false false false ∷ [])
    (2 ∷ 3 ∷ 3 ∷ []) 3 5 192
    (15 ∷ []) ∷
    -- random-1-087
    vector
    (expression (bin 9 sub (bin 2 add (leaf 0 (flat public 1)) (leaf 1 (flat public 2))) (binc 8 mulc (neg 7 (binc 6 addc (bin 5 add (leaf 3 (number (lit false 1))) (leaf 4 (number (lit true 9223372036854775808)))) (lit true 9223372036854775808))) (lit true 9223372036854775808))) true false true ∷ expression (bin 15 sub (bin 12 add (leaf 10 (flat public 3)) (leaf 11 (flat public 1))) (binc 14 mulc (leaf 13 (exp 0 0)) (lit false 1))) false false false ∷ expression (bin 24 add (leaf 16 (number (lit true 1))) (bin 23 add (bin 21 mul (bin 19 add (leaf 17 (number (lit false 1))) (leaf 18 (number (lit false 5)))) (leaf 20 (number (lit false 0)))) (leaf 22 (number (lit false 0))))) false false false ∷ expression (bin 27 add (leaf 25 (exp 0 0)) (leaf 26 (exp 2 0))) false false false ∷ [])
    (3 ∷ 2 ∷ []) 0 0 34
    (14 ∷ []) ∷
    -- random-1-088
    vector
    (expression (bin 4 mul (bin 2 mul (leaf 0 (cell cm 0 0)) (leaf 1 (cell cm 1 0))) (leaf 3 (cell cm 0 0))) false false false ∷ expression (bin 12 add (leaf 5 (cell cm 1 0)) (binc 11 mulc (bin 10 add (bin 8 mul (leaf 6 (number (lit true 9223372036854775808))) (leaf 7 (exp 0 0))) (leaf 9 (number (lit false 1)))) (lit true 1))) false true true ∷ expression (bin 15 mul (leaf 13 (exp 1 0)) (leaf 14 (flat challenge 3))) false false false ∷ expression (bin 20 mul (bin 18 sub (leaf 16 (exp 1 0)) (leaf 17 (cell cm 2 1))) (leaf 19 (exp 1 0))) false false false ∷ [])
    (1 ∷ 3 ∷ 3 ∷ 0 ∷ 0 ∷ []) 23 23 1000000
    (13 ∷ []) ∷
    -- random-1-089
    vector
    (expression (bin 10 add (leaf 0 (flat public 1)) (bin 9 add (leaf 1 (number (lit true 1))) (bin 8 sub (binc 3 addc (leaf 2 (flat eval 2)) (lit false 0)) (neg 7 (bin 6 mul (leaf 4 (number (lit true 9223372036854775808))) (leaf 5 (flat challenge 1))))))) false false false ∷ expression (binc 21 mulc (bin 20 sub (bin 18 sub (leaf 11 (exp 0 0)) (bin 17 mul (bin 15 mul (leaf 12 (exp 0 0)) (binc 14 addc (leaf 13 (flat eval 2)) (lit false 5))) (leaf 16 (exp 0 1)))) (leaf 19 (flat public 2))) (lit false 0)) false false false ∷ expression (bin 30 add (bin 28 sub (bin 26 sub (bin 24 mul (leaf 22 (number (lit true 1))) (leaf 23 (number (lit false 1)))) (leaf 25 (flat eval 3))) (leaf 27 (flat public 1))) (leaf 29 (number (lit false 5)))) false false false ∷ expression (bin 33 sub (leaf 31 (exp 2 0)) (leaf 32 (exp 2 0))) true false true ∷ [])
    (3 ∷ []) 3 7 10
    (6 ∷ []) ∷
    -- random-1-090
    vector
    (expression (bin 2 mul (leaf 0 (exp 4 0)) (leaf 1 (flat challenge 1))) false false false ∷ expression (muladd 7 (binc 4 addc (leaf 3 (cell q 2 0)) (lit true 1)) (leaf 5 (exp 3 0)) (leaf 6 (x x_div_x_sub_xi))) false false false ∷ expression (bin 16 mul (muladd 14 (leaf 8 (x x_div_x_sub_xi)) (binc 12 mulc (binc 11 mulc (binc 10 mulc (leaf 9 (cell cm 3 0)) (lit false 0)) (lit false 0)) (lit true 9223372036854775808)) (leaf 13 (exp 4 0))) (leaf 15 (exp 4 0))) false true true ∷ expression (neg 20 (bin 19 add (leaf 17 (x x_div_x_sub_xi)) (leaf 18 (x x_div_x_sub_w_xi)))) true false true ∷ expression (bin 23 mul (leaf 21 (flat challenge 2)) (leaf 22 (flat public 2))) true false true ∷ [])
    (2 ∷ 0 ∷ []) 3 3 1000000
    (6 ∷ []) ∷
    -- random-1-091
    vector
    (expression (bin 4 mul (bin 2 mul (leaf 0 (cell cm 2 0)) (leaf 1 (cell cm 3 0))) (leaf 3 (cell cm 3 0))) false false false ∷ expression (bin 13 mul (bin 7 sub (leaf 5 (cell cm 1 0)) (leaf 6 (cell cm 1 0))) (bin 12 mul (bin 10 mul (leaf 8 (cell cm 0 0)) (leaf 9 (exp 0 0))) (leaf 11 (exp 0 0)))) false false false ∷ expression (leaf 14 (cell cm 2 0)) false false false ∷ expression (bin 20 mul (binc 18 addc (bin 17 mul (leaf 15 (exp 2 0)) (leaf 16 (exp 2 0))) (lit false 1)) (leaf 19 (cell cm 3 0))) false false false ∷ expression (bin 25 mul (leaf 21 (cell cm 3 0)) (bin 24 sub (leaf 22 (cell cm 0 0)) (leaf 23 (exp 0 0)))) false false true ∷ expression (bin 32 mul (bin 29 mul (leaf 26 (cell cm 3 0)) (binc 28 mulc (leaf 27 (cell cm 1 0)) (lit false 1))) (binc 31 mulc (leaf 30 (exp 3 0)) (lit true 9223372036854775808))) false true false ∷ expression (bin 37 mul (leaf 33 (exp 4 0)) (bin 36 add (leaf 34 (exp 5 0)) (leaf 35 (cell cm 1 0)))) false false false ∷ [])
    (6 ∷ []) 24 24 55
    (15 ∷ []) ∷
    -- random-1-092
    vector
    (expression (bin 3 add (leaf 0 (cell const 0 0)) (binc 2 mulc (leaf 1 (cell const 0 0)) (lit false 1))) false false false ∷ expression (bin 8 mul (leaf 4 (cell q 0 0)) (bin 7 mul (leaf 5 (cell q 2 0)) (leaf 6 (cell cm 2 0)))) false false true ∷ [])
    (0 ∷ 0 ∷ []) 24 26 1000000
    (0 ∷ 0 ∷ 48 ∷ []) ∷
    -- random-1-093
    vector
    (expression (bin 6 mul (leaf 0 (flat challenge 2)) (bin 5 add (bin 3 mul (leaf 1 (number (lit false 5))) (leaf 2 (number (lit true 9223372036854775808)))) (leaf 4 (flat challenge 3)))) false false false ∷ expression (bin 16 mul (leaf 7 (number (lit false 5))) (bin 15 sub (leaf 8 (flat challenge 2)) (bin 14 add (bin 12 add (leaf 9 (number (lit false 1))) (binc 11 addc (leaf 10 (flat eval 0)) (lit false 0))) (leaf 13 (flat public 0))))) false false true ∷ expression (bin 22 mul (binc 18 addc (leaf 17 (flat challenge 1)) (lit true 9223372036854775808)) (bin 21 add (leaf 19 (number (lit false 5))) (leaf 20 (exp 1 0)))) false false false ∷ expression (bin 27 add (leaf 23 (flat public 3)) (bin 26 mul (leaf 24 (exp 2 0)) (leaf 25 (exp 2 0)))) false false false ∷ expression (bin 30 mul (leaf 28 (exp 1 0)) (leaf 29 (exp 3 0))) false false false ∷ expression (bin 35 add (binc 33 mulc (neg 32 (leaf 31 (number (lit false 1)))) (lit false 1)) (leaf 34 (flat challenge 0))) true true true ∷ [])
    (5 ∷ []) 3 5 1000000
    (14 ∷ []) ∷
    -- random-1-094
    vector
    (expression (bin 8 sub (bin 6 add (bin 2 mul (leaf 0 (cell q 0 0)) (leaf 1 (x plain_x))) (bin 5 mul (leaf 3 (number (lit true 1))) (leaf 4 (cell cm 0 1)))) (leaf 7 (cell cm 1 0))) false false false ∷ [])
    (0 ∷ []) 23 23 4
    (6 ∷ []) ∷
    -- random-1-095
    vector
    (expression (bin 4 mul (bin 2 mul (leaf 0 (cell cm 0 0)) (leaf 1 (cell cm 0 0))) (leaf 3 (cell cm 1 0))) false false false ∷ expression (bin 10 mul (binc 8 addc (bin 7 mul (leaf 5 (cell cm 2 0)) (leaf 6 (exp 0 0))) (lit false 5)) (leaf 9 (exp 0 0))) false false false ∷ expression (binc 18 addc (bin 17 mul (binc 12 mulc (leaf 11 (exp 0 0)) (lit false 0)) (bin 16 mul (leaf 13 (cell cm 1 1)) (binc 15 mulc (leaf 14 (exp 1 0)) (lit false 1)))) (lit true 9223372036854775808)) false true false ∷ expression (bin 24 add (neg 22 (bin 21 mul (leaf 19 (cell cm 2 0)) (leaf 20 (exp 1 1)))) (leaf 23 (cell cm 1 0))) false false true ∷ [])
    (3 ∷ []) 24 25 132
    (0 ∷ 2 ∷ 131 ∷ 0 ∷ 1 ∷ []) ∷
    -- random-1-096
    vector
    (expression (bin 11 mul (bin 6 mul (binc 4 mulc (bin 3 add (leaf 0 (number (lit true 1))) (binc 2 addc (leaf 1 (number (lit true 1))) (lit false 0))) (lit false 0)) (leaf 5 (flat public 3))) (bin 10 sub (leaf 7 (number (lit false 0))) (binc 9 addc (leaf 8 (flat public 3)) (lit false 0)))) true false true ∷ expression (bin 17 sub (binc 13 addc (leaf 12 (exp 0 0)) (lit true 9223372036854775808)) (bin 16 sub (leaf 14 (flat public 1)) (leaf 15 (exp 0 1)))) false false false ∷ expression (bin 20 sub (leaf 18 (exp 0 0)) (leaf 19 (flat public 3))) false false false ∷ expression (bin 28 add (leaf 21 (number (lit true 1))) (bin 27 sub (leaf 22 (number (lit true 1))) (neg 26 (bin 25 add (leaf 23 (flat public 0)) (leaf 24 (flat public 0)))))) false false false ∷ [])
    (3 ∷ []) 23 23 10
    (14 ∷ []) ∷
    -- random-1-097
    vector
    (expression (binc 10 addc (binc 9 addc (bin 8 mul (bin 2 mul (leaf 0 (number (lit false 1))) (leaf 1 (flat challenge 0))) (bin 7 mul (leaf 3 (cell cm 1 0)) (bin 6 add (leaf 4 (flat challenge 3)) (leaf 5 (cell cm 0 0))))) (lit false 1)) (lit true 1)) true false false ∷ expression (leaf 11 (cell cm 2 0)) false false false ∷ expression (bin 20 add (bin 14 mul (leaf 12 (exp 1 0)) (leaf 13 (exp 0 0))) (binc 19 mulc (bin 18 mul (binc 16 mulc (leaf 15 (exp 1 0)) (lit false 0)) (leaf 17 (x plain_x))) (lit false 0))) false false false ∷ expression (bin 31 add (bin 29 sub (bin 23 mul (leaf 21 (x plain_x)) (leaf 22 (number (lit true 1)))) (binc 28 addc (neg 27 (bin 26 mul (leaf 24 (exp 2 0)) (leaf 25 (exp 2 0)))) (lit true 1))) (leaf 30 (cell cm 2 0))) false false false ∷ expression (bin 38 add (leaf 32 (flat challenge 1)) (bin 37 mul (bin 35 mul (leaf 33 (exp 2 0)) (leaf 34 (cell cm 0 0))) (leaf 36 (cell cm 3 0)))) false false false ∷ [])
    ([]) 23 27 1000000
    (17 ∷ []) ∷
    -- random-1-098
    vector
    (expression (bin 2 mul (leaf 0 (cell cm 3 0)) (leaf 1 (x plain_x))) false true true ∷ expression (bin 11 mul (bin 7 sub (neg 4 (leaf 3 (number (lit true 1)))) (binc 6 mulc (leaf 5 (number (lit false 0))) (lit true 9223372036854775808))) (bin 10 mul (leaf 8 (number (lit false 1))) (leaf 9 (cell cm 0 0)))) false false true ∷ expression (bin 17 mul (bin 15 add (leaf 12 (cell const 1 0)) (neg 14 (leaf 13 (exp 1 0)))) (leaf 16 (exp 1 0))) false false false ∷ expression (bin 23 mul (leaf 18 (flat challenge 0)) (bin 22 mul (leaf 19 (exp 1 0)) (neg 21 (leaf 20 (number (lit false 5)))))) false false false ∷ expression (bin 31 add (bin 28 mul (bin 26 add (leaf 24 (flat challenge 0)) (leaf 25 (exp 2 0))) (leaf 27 (cell cm 3 0))) (binc 30 addc (leaf 29 (cell cm 0 0)) (lit true 9223372036854775808))) false true true ∷ expression (bin 39 mul (leaf 32 (exp 2 0)) (bin 38 mul (neg 36 (bin 35 mul (leaf 33 (exp 1 0)) (leaf 34 (cell cm 0 0)))) (leaf 37 (exp 0 0)))) false false false ∷ [])
    (3 ∷ []) 23 24 18446744073709551615
    (0 ∷ 1 ∷ 16 ∷ []) ∷
    -- random-1-099
    vector
    (expression (bin 3 add (leaf 0 (cell cm 1 0)) (binc 2 addc (leaf 1 (exp 1 0)) (lit true 9223372036854775808))) false true false ∷ expression (bin 12 mul (bin 8 mul (bin 6 mul (leaf 4 (number (lit false 0))) (leaf 5 (number (lit true 9223372036854775808)))) (leaf 7 (cell const 0 0))) (neg 11 (neg 10 (leaf 9 (x plain_x))))) false false false ∷ [])
    (0 ∷ []) 3 4 11
    (15 ∷ []) ∷
    -- random-1-100
    vector
    (expression (neg 5 (binc 4 mulc (neg 3 (bin 2 mul (leaf 0 (flat public 2)) (leaf 1 (flat challenge 3)))) (lit false 5))) false false false ∷ [])
    (0 ∷ 0 ∷ 0 ∷ 0 ∷ 0 ∷ []) 0 4 1000000
    (14 ∷ []) ∷
    -- random-1-101
    vector
    (expression (bin 9 mul (bin 7 mul (bin 2 mul (leaf 0 (cell cm 2 0)) (leaf 1 (cell cm 1 0))) (neg 6 (bin 5 mul (leaf 3 (cell cm 1 0)) (leaf 4 (cell cm 1 0))))) (leaf 8 (cell cm 0 1))) false false false ∷ expression (bin 12 mul (leaf 10 (exp 0 0)) (leaf 11 (exp 0 0))) true true true ∷ expression (bin 18 mul (bin 16 mul (leaf 13 (cell cm 3 1)) (binc 15 addc (leaf 14 (exp 1 0)) (lit false 1))) (leaf 17 (exp 1 0))) false false false ∷ expression (bin 26 sub (bin 22 mul (leaf 19 (exp 2 0)) (neg 21 (leaf 20 (exp 1 1)))) (binc 25 mulc (binc 24 addc (leaf 23 (exp 2 0)) (lit false 1)) (lit true 9223372036854775808))) false false true ∷ [])
    (2 ∷ 0 ∷ 2 ∷ 3 ∷ 3 ∷ []) 3 3 1000000
    (13 ∷ []) ∷
    -- random-1-102
    vector
    (expression (bin 6 sub (bin 4 mul (bin 2 mul (leaf 0 (exp 1 0)) (leaf 1 (exp 1 0))) (leaf 3 (cell cm 1 0))) (leaf 5 (cell cm 3 0))) true true false ∷ expression (bin 11 add (bin 9 mul (leaf 7 (cell cm 2 0)) (leaf 8 (cell cm 2 1))) (leaf 10 (cell cm 0 0))) false false false ∷ [])
    (0 ∷ 1 ∷ 1 ∷ []) 3 3 36
    (15 ∷ []) ∷
    -- random-1-103
    vector
    (expression (neg 7 (bin 6 add (leaf 0 (exp 2 0)) (binc 5 mulc (bin 4 mul (neg 2 (leaf 1 (flat public 2))) (leaf 3 (flat public 1))) (lit false 0)))) false false false ∷ expression (binc 16 mulc (binc 15 addc (bin 14 mul (leaf 8 (number (lit false 5))) (binc 13 addc (bin 12 add (leaf 9 (flat eval 1)) (binc 11 addc (leaf 10 (exp 2 0)) (lit true 9223372036854775808))) (lit true 9223372036854775808))) (lit true 9223372036854775808)) (lit false 5)) false false false ∷ expression (bin 25 mul (bin 19 mul (leaf 17 (number (lit false 5))) (leaf 18 (exp 3 0))) (bin 24 mul (leaf 20 (exp 3 0)) (bin 23 mul (leaf 21 (flat eval 0)) (leaf 22 (exp 3 0))))) false false true ∷ expression (bin 30 add (leaf 26 (number (lit false 0))) (bin 29 sub (leaf 27 (flat eval 0)) (leaf 28 (flat eval 2)))) false false false ∷ expression (bin 41 add (bin 39 sub (leaf 31 (flat public 3)) (binc 38 mulc (binc 37 addc (bin 36 sub (leaf 32 (number (lit true 1))) (bin 35 mul (leaf 33 (exp 6 0)) (leaf 34 (exp 2 0)))) (lit false 5)) (lit false 5))) (leaf 40 (flat eval 3))) false true true ∷ expression (bin 46 add (bin 44 add (leaf 42 (exp 4 1)) (leaf 43 (flat public 2))) (leaf 45 (flat public 0))) false false false ∷ expression (binc 55 addc (bin 54 add (bin 52 add (binc 48 addc (leaf 47 (number (lit false 5))) (lit false 0)) (bin 51 mul (leaf 49 (exp 0 0)) (leaf 50 (flat challenge 2)))) (leaf 53 (flat eval 2))) (lit true 9223372036854775808)) false false false ∷ [])
    (1 ∷ []) 24 24 0
    (15 ∷ []) ∷
    -- random-1-104
    vector
    (expression (bin 6 mul (bin 4 mul (leaf 0 (cell cm 3 0)) (bin 3 mul (leaf 1 (cell cm 3 0)) (leaf 2 (exp 1 0)))) (leaf 5 (number (lit true 9223372036854775808)))) false false false ∷ expression (bin 11 sub (bin 9 mul (leaf 7 (cell cm 1 0)) (leaf 8 (exp 3 0))) (leaf 10 (cell cm 0 0))) false false false ∷ expression (binc 19 mulc (bin 18 mul (binc 16 addc (neg 15 (binc 14 mulc (binc 13 mulc (leaf 12 (exp 3 0)) (lit false 5)) (lit true 9223372036854775808))) (lit true 1)) (leaf 17 (cell const 1 0))) (lit true 9223372036854775808)) false false false ∷ expression (bin 24 mul (leaf 20 (cell cm 0 0)) (bin 23 add (leaf 21 (cell cm 3 0)) (leaf 22 (cell const 1 0)))) false false false ∷ [])
    (0 ∷ []) 24 24 15
    (13 ∷ []) ∷
    -- random-1-105
    vector
    (expression (bin 5 sub (bin 3 add (binc 1 addc (leaf 0 (number (lit false 0))) (lit false 0)) (leaf 2 (number (lit false 0)))) (leaf 4 (flat challenge 0))) false false false ∷ expression (bin 10 add (bin 8 mul (leaf 6 (flat challenge 0)) (leaf 7 (flat public 0))) (leaf 9 (number (lit true 9223372036854775808)))) false false false ∷ expression (bin 21 mul (bin 16 sub (binc 14 mulc (bin 13 add (leaf 11 (flat challenge 1)) (leaf 12 (flat public 3))) (lit false 5)) (leaf 15 (flat challenge 3))) (bin 20 add (leaf 17 (number (lit false 1))) (binc 19 addc (leaf 18 (flat challenge 1)) (lit false 1)))) false false false ∷ expression (bin 26 add (bin 24 add (leaf 22 (exp 1 0)) (leaf 23 (exp 2 0))) (leaf 25 (flat eval 0))) false false false ∷ expression (leaf 27 (number (lit false 5))) false false false ∷ [])
    (4 ∷ []) 3 3 1000000
    (14 ∷ []) ∷
    -- random-1-106
    vector
    (expression (bin 4 sub (bin 2 add (leaf 0 (flat eval 3)) (leaf 1 (flat challenge 0))) (leaf 3 (flat eval 3))) false false true ∷ expression (binc 8 addc (bin 7 mul (leaf 5 (exp 0 0)) (leaf 6 (exp 0 0))) (lit false 1)) false false false ∷ expression (binc 20 mulc (bin 19 sub (binc 13 addc (bin 12 sub (leaf 9 (flat challenge 0)) (binc 11 mulc (leaf 10 (number (lit false 5))) (lit false 0))) (lit false 1)) (bin 18 mul (neg 16 (binc 15 addc (leaf 14 (flat eval 2)) (lit true 1))) (leaf 17 (exp 1 0)))) (lit false 1)) false false false ∷ expression (binc 33 mulc (bin 32 mul (bin 23 sub (leaf 21 (number (lit false 1))) (leaf 22 (flat challenge 2))) (bin 31 add (binc 28 mulc (binc 27 mulc (bin 26 add (leaf 24 (exp 0 1)) (leaf 25 (exp 2 1))) (lit false 0)) (lit false 0)) (binc 30 mulc (leaf 29 (exp 1 0)) (lit false 1)))) (lit true 1)) false true true ∷ expression (leaf 34 (number (lit true 9223372036854775808))) false false false ∷ expression (leaf 35 (flat eval 1)) false true false ∷ [])
    (5 ∷ 3 ∷ 0 ∷ []) 3 5 6
    (6 ∷ []) ∷
    -- random-1-107
    vector
    (expression (bin 10 add (bin 8 add (leaf 0 (cell q 2 0)) (binc 7 addc (bin 6 mul (binc 4 mulc (bin 3 mul (leaf 1 (flat public 2)) (leaf 2 (flat challenge 3))) (lit false 0)) (leaf 5 (flat eval 2))) (lit false 0))) (leaf 9 (flat challenge 1))) true true true ∷ expression (muladd 14 (leaf 11 (cell const 3 0)) (leaf 12 (cell const 2 0)) (leaf 13 (exp 0 0))) true false true ∷ expression (neg 22 (bin 21 mul (bin 17 sub (leaf 15 (exp 1 0)) (leaf 16 (x x_div_x_sub_w_xi))) (bin 20 add (leaf 18 (x x_div_x_sub_xi)) (leaf 19 (cell cm 3 0))))) false true true ∷ [])
    (2 ∷ []) 3 3 1000000
    (6 ∷ []) ∷
    -- random-1-108
    vector
    (expression (bin 2 add (leaf 0 (number (lit true 9223372036854775808))) (leaf 1 (flat public 2))) false false false ∷ expression (bin 8 sub (leaf 3 (number (lit false 5))) (bin 7 sub (leaf 4 (number (lit true 9223372036854775808))) (binc 6 mulc (leaf 5 (flat public 0)) (lit false 0)))) false false false ∷ expression (bin 13 add (leaf 9 (flat public 3)) (bin 12 sub (leaf 10 (exp 1 0)) (leaf 11 (exp 0 0)))) false false false ∷ expression (bin 18 sub (bin 16 sub (leaf 14 (exp 2 0)) (leaf 15 (flat public 1))) (leaf 17 (exp 2 1))) false false false ∷ expression (bin 29 add (bin 25 add (binc 23 addc (bin 22 sub (binc 20 mulc (leaf 19 (exp 2 0)) (lit true 1)) (leaf 21 (exp 1 0))) (lit true 9223372036854775808)) (leaf 24 (exp 0 0))) (bin 28 mul (leaf 26 (exp 2 0)) (leaf 27 (flat public 0)))) false false false ∷ expression (bin 35 add (bin 32 mul (leaf 30 (exp 3 0)) (leaf 31 (exp 3 0))) (neg 34 (leaf 33 (flat public 0)))) false false false ∷ expression (bin 38 mul (leaf 36 (exp 1 0)) (leaf 37 (exp 5 0))) false false false ∷ expression (leaf 39 (exp 3 0)) true false false ∷ [])
    (7 ∷ []) 24 26 1000000
    (14 ∷ []) ∷
    -- random-1-109
    vector
    (expression (bin 4 mul (leaf 0 (cell cm 2 1)) (bin 3 mul (leaf 1 (cell cm 3 0)) (leaf 2 (cell cm 3 0)))) false false true ∷ expression (binc 6 addc (leaf 5 (exp 0 0)) (lit false 5)) true true false ∷ expression (binc 18 mulc (bin 17 mul (bin 15 mul (neg 11 (bin 10 mul (leaf 7 (exp 1 0)) (binc 9 addc (leaf 8 (exp 0 0)) (lit false 5)))) (bin 14 add (leaf 12 (cell cm 0 0)) (leaf 13 (cell cm 0 0)))) (leaf 16 (cell cm 0 0))) (lit false 5)) false false false ∷ expression (bin 26 add (leaf 19 (cell cm 2 0)) (bin 25 mul (leaf 20 (cell cm 0 0)) (bin 24 mul (leaf 21 (exp 0 0)) (binc 23 addc (leaf 22 (exp 2 0)) (lit false 1))))) false true true ∷ expression (binc 32 mulc (bin 31 mul (bin 29 add (leaf 27 (exp 1 0)) (leaf 28 (exp 2 0))) (leaf 30 (exp 3 0))) (lit false 5)) false false false ∷ expression (bin 37 mul (leaf 33 (cell cm 3 0)) (bin 36 mul (leaf 34 (exp 2 0)) (leaf 35 (cell cm 2 0)))) false true false ∷ expression (bin 43 sub (bin 41 mul (leaf 38 (exp 5 0)) (binc 40 addc (leaf 39 (exp 3 0)) (lit false 1))) (leaf 42 (cell cm 1 0))) false true true ∷ [])
    (6 ∷ []) 3 4 1494
    (13 ∷ []) ∷
    -- random-1-110
    vector
    (expression (bin 4 sub (bin 2 sub (leaf 0 (number (lit false 5))) (leaf 1 (flat public 0))) (leaf 3 (exp 3 0))) false false false ∷ expression (bin 13 sub (bin 11 add (bin 9 mul (bin 7 mul (leaf 5 (exp 3 0)) (leaf 6 (exp 5 0))) (leaf 8 (flat public 0))) (leaf 10 (exp 5 0))) (leaf 12 (exp 5 0))) false false false ∷ expression (bin 19 sub (binc 15 addc (leaf 14 (number (lit true 1))) (lit false 5)) (bin 18 sub (leaf 16 (number (lit false 5))) (leaf 17 (number (lit true 1))))) false false false ∷ expression (bin 30 sub (bin 27 mul (binc 21 addc (leaf 20 (exp 5 0)) (lit true 1)) (bin 26 mul (leaf 22 (flat public 3)) (bin 25 sub (leaf 23 (flat public 2)) (leaf 24 (number (lit false 1)))))) (binc 29 mulc (leaf 28 (number (lit false 1))) (lit true 9223372036854775808))) false false false ∷ expression (bin 33 sub (leaf 31 (exp 0 0)) (leaf 32 (exp 0 0))) false true true ∷ expression (bin 40 add (bin 38 add (binc 36 mulc (neg 35 (leaf 34 (number (lit false 5)))) (lit true 9223372036854775808)) (leaf 37 (number (lit true 9223372036854775808)))) (leaf 39 (number (lit false 5)))) false false true ∷ expression (bin 49 add (bin 43 add (leaf 41 (exp 5 0)) (leaf 42 (flat public 3))) (bin 48 sub (leaf 44 (exp 5 0)) (bin 47 mul (leaf 45 (exp 5 0)) (leaf 46 (exp 3 0))))) false true false ∷ [])
    (2 ∷ []) 24 26 27
    (15 ∷ []) ∷
    -- random-1-111
    vector
    (expression (bin 4 add (bin 2 mul (leaf 0 (number (lit false 5))) (leaf 1 (cell cm 1 0))) (leaf 3 (cell const 1 0))) false false false ∷ expression (leaf 5 (cell cm 2 0)) false false false ∷ expression (bin 8 sub (leaf 6 (exp 1 0)) (leaf 7 (exp 0 0))) false false false ∷ [])
    (2 ∷ []) 24 26 18446744073709551615
    (0 ∷ 0 ∷ 36 ∷ []) ∷
    -- random-1-112
    vector
    (expression (bin 7 sub (leaf 0 (cell cm 3 0)) (neg 6 (bin 5 add (leaf 1 (x plain_x)) (bin 4 mul (leaf 2 (cell cm 2 0)) (leaf 3 (cell cm 3 0)))))) false false true ∷ expression (binc 11 mulc (bin 10 mul (leaf 8 (exp 0 0)) (leaf 9 (cell cm 0 0))) (lit false 0)) false true true ∷ expression (bin 21 mul (binc 15 mulc (bin 14 mul (leaf 12 (cell cm 1 0)) (leaf 13 (exp 1 0))) (lit false 1)) (bin 20 add (leaf 16 (exp 1 0)) (bin 19 mul (leaf 17 (number (lit false 5))) (leaf 18 (flat challenge 1))))) false false false ∷ expression (bin 27 sub (binc 23 mulc (leaf 22 (exp 2 0)) (lit false 5)) (bin 26 mul (leaf 24 (x plain_x)) (leaf 25 (exp 2 0)))) false false false ∷ expression (binc 29 addc (leaf 28 (exp 0 0)) (lit false 5)) true true true ∷ expression (bin 36 sub (binc 34 mulc (bin 33 add (binc 31 mulc (leaf 30 (exp 3 0)) (lit true 1)) (leaf 32 (exp 4 0))) (lit false 0)) (leaf 35 (exp 4 0))) false false false ∷ [])
    (5 ∷ []) 3 3 18446744073709551615
    (13 ∷ []) ∷
    -- random-1-113
    vector
    (expression (bin 3 sub (leaf 0 (flat eval 1)) (binc 2 mulc (leaf 1 (flat public 3)) (lit false 1))) false false false ∷ expression (bin 9 mul (leaf 4 (flat challenge 0)) (bin 8 sub (leaf 5 (flat eval 0)) (neg 7 (leaf 6 (flat challenge 2))))) true true false ∷ expression (neg 13 (bin 12 mul (leaf 10 (exp 0 0)) (leaf 11 (exp 0 0)))) true false true ∷ expression (bin 16 mul (leaf 14 (flat challenge 0)) (leaf 15 (exp 0 0))) false false false ∷ [])
    (3 ∷ []) 24 24 1000000
    (6 ∷ []) ∷
    -- random-1-114
    vector
    (expression (bin 4 mul (bin 2 add (leaf 0 (x plain_x)) (leaf 1 (number (lit false 0)))) (leaf 3 (cell cm 2 0))) false false false ∷ [])
    (0 ∷ 0 ∷ 0 ∷ 0 ∷ 0 ∷ []) 3 3 18446744073709551615
    (0 ∷ 1 ∷ 18 ∷ []) ∷
    -- random-1-115
    vector
    (expression (leaf 0 (flat public 3)) false true true ∷ expression (bin 7 add (bin 3 add (leaf 1 (x plain_x)) (leaf 2 (cell cm 0 0))) (bin 6 mul (leaf 4 (exp 0 0)) (leaf 5 (cell q 2 0)))) false true true ∷ expression (bin 12 mul (leaf 8 (exp 1 0)) (bin 11 mul (leaf 9 (exp 0 1)) (leaf 10 (exp 0 0)))) false false false ∷ expression (bin 16 mul (binc 14 mulc (leaf 13 (exp 1 1)) (lit true 1)) (leaf 15 (exp 2 0))) false false false ∷ expression (bin 23 mul (bin 20 mul (binc 18 mulc (leaf 17 (x plain_x)) (lit false 1)) (leaf 19 (exp 0 0))) (binc 22 addc (leaf 21 (x plain_x)) (lit true 9223372036854775808))) false false false ∷ expression (neg 29 (bin 28 mul (leaf 24 (cell const 3 0)) (bin 27 mul (leaf 25 (exp 4 1)) (leaf 26 (flat challenge 1))))) true true true ∷ [])
    (5 ∷ 4 ∷ []) 23 26 1000000
    (0 ∷ 1 ∷ 64 ∷ 4 ∷ []) ∷
    -- random-1-116
    vector
    (expression (bin 4 mul (leaf 0 (cell cm 1 0)) (bin 3 mul (leaf 1 (number (lit true 1))) (leaf 2 (x plain_x)))) false false false ∷ expression (binc 14 mulc (bin 13 mul (leaf 5 (number (lit true 1))) (binc 12 mulc (bin 11 mul (binc 9 mulc (bin 8 add (leaf 6 (exp 3 0)) (leaf 7 (x plain_x))) (lit true 1)) (leaf 10 (exp 2 0))) (lit false 1))) (lit false 1)) false false false ∷ expression (bin 20 mul (binc 18 mulc (bin 17 mul (leaf 15 (exp 0 0)) (leaf 16 (cell const 3 0))) (lit false 5)) (leaf 19 (exp 0 0))) false false false ∷ expression (bin 23 add (leaf 21 (exp 2 0)) (leaf 22 (x plain_x))) false false false ∷ [])
    ([]) 3 3 1000000
    (17 ∷ []) ∷
    -- random-1-117
    vector
    (expression (binc 10 addc (binc 9 addc (bin 8 sub (bin 6 add (binc 1 addc (leaf 0 (cell cm 0 0)) (lit true 1)) (binc 5 mulc (binc 4 mulc (binc 3 mulc (leaf 2 (x plain_x)) (lit true 9223372036854775808)) (lit true 1)) (lit true 9223372036854775808))) (leaf 7 (cell const 0 0))) (lit true 1)) (lit false 0)) false false false ∷ expression (bin 15 mul (binc 12 addc (leaf 11 (x plain_x)) (lit false 1)) (neg 14 (leaf 13 (cell cm 2 0)))) false false false ∷ expression (leaf 16 (cell cm 2 0)) false false false ∷ expression (bin 21 sub (bin 19 add (leaf 17 (exp 2 0)) (leaf 18 (exp 1 0))) (leaf 20 (flat challenge 1))) true false false ∷ expression (bin 31 mul (leaf 22 (exp 3 0)) (bin 30 sub (bin 25 add (leaf 23 (exp 1 0)) (leaf 24 (exp 0 0))) (bin 29 mul (neg 27 (leaf 26 (number (lit false 5)))) (leaf 28 (cell cm 0 0))))) false false false ∷ expression (bin 36 sub (bin 34 mul (leaf 32 (cell cm 3 0)) (leaf 33 (exp 3 0))) (leaf 35 (cell cm 3 0))) false false false ∷ expression (binc 44 mulc (bin 43 mul (leaf 37 (cell cm 3 0)) (bin 42 add (bin 40 add (leaf 38 (exp 4 0)) (leaf 39 (exp 5 0))) (leaf 41 (flat challenge 0)))) (lit true 1)) false false false ∷ expression (leaf 45 (exp 5 0)) true false true ∷ [])
    (7 ∷ []) 0 3 1000000
    (0 ∷ 1 ∷ 53 ∷ 3 ∷ []) ∷
    -- random-1-118
    vector
    (expression (bin 5 mul (bin 2 mul (leaf 0 (exp 1 0)) (leaf 1 (exp 1 1))) (binc 4 mulc (leaf 3 (exp 1 0)) (lit true 1))) false false false ∷ expression (bin 14 add (leaf 6 (cell cm 3 0)) (bin 13 add (leaf 7 (exp 4 0)) (bin 12 mul (leaf 8 (cell cm 1 0)) (bin 11 add (leaf 9 (cell cm 3 0)) (leaf 10 (cell const 3 0)))))) true false false ∷ expression (bin 17 mul (leaf 15 (exp 7 0)) (leaf 16 (number (lit true 9223372036854775808)))) false true false ∷ expression (binc 22 addc (binc 21 mulc (bin 20 add (leaf 18 (flat challenge 1)) (leaf 19 (x plain_x))) (lit true 9223372036854775808)) (lit true 1)) false false false ∷ expression (bin 34 add (bin 31 add (bin 29 mul (bin 25 add (leaf 23 (cell cm 1 0)) (leaf 24 (number (lit false 0)))) (binc 28 addc (binc 27 addc (leaf 26 (cell const 2 0)) (lit true 1)) (lit true 1))) (leaf 30 (number (lit false 0)))) (neg 33 (leaf 32 (flat challenge 3)))) true false true ∷ expression (bin 44 mul (binc 41 mulc (bin 40 mul (neg 36 (leaf 35 (cell cm 3 1))) (bin 39 mul (leaf 37 (cell const 0 0)) (leaf 38 (x plain_x)))) (lit false 5)) (binc 43 addc (leaf 42 (exp 7 0)) (lit false 0))) false false false ∷ expression (binc 46 addc (leaf 45 (exp 3 0)) (lit false 5)) false true true ∷ expression (bin 55 mul (leaf 47 (flat challenge 2)) (binc 54 mulc (binc 53 addc (bin 52 mul (bin 50 mul (leaf 48 (flat challenge 3)) (leaf 49 (cell cm 0 0))) (leaf 51 (cell cm 3 0))) (lit false 5)) (lit true 1))) false false false ∷ [])
    (6 ∷ []) 3 3 8
    (0 ∷ 0 ∷ 8 ∷ []) ∷
    -- random-1-119
    vector
    (expression (neg 7 (bin 6 mul (leaf 0 (cell cm 0 0)) (bin 5 mul (leaf 1 (cell cm 1 0)) (bin 4 sub (leaf 2 (cell cm 3 0)) (leaf 3 (cell cm 2 0)))))) false false false ∷ expression (bin 10 mul (leaf 8 (cell cm 2 1)) (leaf 9 (cell cm 3 0))) false false false ∷ expression (bin 16 add (bin 14 mul (leaf 11 (cell cm 0 0)) (binc 13 mulc (leaf 12 (exp 1 0)) (lit false 1))) (leaf 15 (exp 0 0))) true true false ∷ expression (neg 22 (bin 21 mul (bin 19 add (leaf 17 (exp 1 0)) (leaf 18 (cell cm 3 0))) (leaf 20 (cell cm 0 0)))) false false true ∷ expression (neg 34 (bin 33 add (bin 30 mul (leaf 23 (exp 0 0)) (bin 29 add (leaf 24 (cell cm 3 0)) (neg 28 (bin 27 mul (leaf 25 (exp 3 0)) (leaf 26 (exp 0 0)))))) (binc 32 mulc (leaf 31 (cell cm 1 0)) (lit false 1)))) false false false ∷ expression (bin 44 mul (bin 37 add (leaf 35 (cell cm 0 0)) (leaf 36 (cell cm 0 0))) (bin 43 mul (leaf 38 (exp 2 0)) (bin 42 mul (binc 40 mulc (leaf 39 (exp 2 0)) (lit true 1)) (leaf 41 (exp 3 0))))) true true false ∷ [])
    (5 ∷ []) 23 25 1000000
    (0 ∷ 3 ∷ 388 ∷ 2 ∷ 3 ∷ []) ∷
    -- random-1-120
    vector
    (expression (bin 9 add (leaf 0 (number (lit true 9223372036854775808))) (bin 8 mul (binc 4 mulc (bin 3 mul (leaf 1 (number (lit true 9223372036854775808))) (leaf 2 (number (lit true 1)))) (lit false 1)) (bin 7 mul (leaf 5 (flat challenge 2)) (leaf 6 (flat challenge 3))))) false false false ∷ expression (bin 19 sub (bin 15 mul (binc 11 addc (leaf 10 (flat public 0)) (lit false 0)) (binc 14 mulc (neg 13 (leaf 12 (exp 0 0))) (lit false 0))) (binc 18 mulc (binc 17 addc (leaf 16 (exp 0 0)) (lit true 9223372036854775808)) (lit true 1))) false false false ∷ expression (bin 24 mul (bin 22 sub (leaf 20 (flat public 3)) (leaf 21 (exp 0 0))) (leaf 23 (flat eval 2))) false false false ∷ expression (bin 35 add (bin 27 sub (leaf 25 (exp 2 0)) (leaf 26 (exp 1 0))) (bin 34 add (bin 32 mul (leaf 28 (exp 2 0)) (binc 31 addc (binc 30 mulc (leaf 29 (exp 2 0)) (lit false 5)) (lit false 5))) (leaf 33 (flat eval 0)))) false true false ∷ [])
    (3 ∷ 2 ∷ []) 0 0 19
    (6 ∷ []) ∷
    -- random-1-121
    vector
    (expression (bin 4 sub (leaf 0 (flat public 3)) (bin 3 sub (leaf 1 (exp 3 0)) (leaf 2 (flat public 0)))) false false false ∷ expression (binc 15 addc (bin 14 sub (bin 9 sub (bin 7 sub (leaf 5 (exp 0 0)) (leaf 6 (number (lit true 9223372036854775808)))) (leaf 8 (flat public 2))) (binc 13 addc (binc 12 addc (binc 11 mulc (leaf 10 (exp 0 0)) (lit true 1)) (lit true 1)) (lit false 5))) (lit true 1)) false false false ∷ expression (bin 20 add (bin 18 mul (leaf 16 (exp 1 0)) (leaf 17 (exp 1 0))) (leaf 19 (flat public 1))) false false false ∷ expression (binc 31 mulc (bin 30 sub (bin 25 sub (leaf 21 (number (lit false 5))) (bin 24 add (leaf 22 (flat public 1)) (leaf 23 (number (lit true 1))))) (bin 29 add (leaf 26 (flat public 1)) (binc 28 addc (leaf 27 (flat public 1)) (lit false 5)))) (lit false 1)) false false false ∷ expression (leaf 32 (number (lit true 9223372036854775808))) false false false ∷ expression (bin 37 sub (leaf 33 (exp 1 0)) (bin 36 mul (leaf 34 (exp 1 0)) (leaf 35 (number (lit false 0))))) false false false ∷ [])
    (4 ∷ []) 23 27 1000000
    (14 ∷ []) ∷
    -- random-1-122
    vector
    (expression (bin 14 mul (binc 4 addc (bin 3 mul (leaf 0 (cell const 2 1)) (binc 2 mulc (leaf 1 (cell cm 2 1)) (lit false 5))) (lit false 0)) (bin 13 mul (leaf 5 (cell cm 1 0)) (bin 12 mul (binc 10 addc (binc 9 addc (binc 8 addc (neg 7 (leaf 6 (x plain_x))) (lit true 1)) (lit false 5)) (lit true 1)) (leaf 11 (flat challenge 1))))) false false false ∷ expression (leaf 15 (exp 2 0)) false false false ∷ expression (bin 20 mul (bin 18 mul (leaf 16 (exp 0 0)) (leaf 17 (exp 0 0))) (leaf 19 (exp 0 0))) false false false ∷ expression (neg 27 (bin 26 add (leaf 21 (exp 1 0)) (neg 25 (bin 24 mul (leaf 22 (x plain_x)) (leaf 23 (exp 0 0)))))) false false false ∷ [])
    (3 ∷ 3 ∷ 1 ∷ []) 0 3 631
    (15 ∷ []) ∷
    -- random-1-123
    vector
    (expression (bin 2 add (leaf 0 (number (lit false 5))) (leaf 1 (flat eval 0))) false false false ∷ expression (binc 6 addc (bin 5 mul (leaf 3 (exp 2 0)) (leaf 4 (number (lit false 5)))) (lit true 9223372036854775808)) false false true ∷ expression (bin 15 mul (binc 10 mulc (bin 9 add (leaf 7 (flat public 2)) (leaf 8 (number (lit false 1)))) (lit false 1)) (bin 14 add (neg 12 (leaf 11 (flat public 0))) (leaf 13 (flat eval 0)))) false false false ∷ expression (bin 24 add (bin 18 sub (leaf 16 (exp 1 0)) (leaf 17 (exp 4 0))) (neg 23 (neg 22 (bin 21 mul (leaf 19 (exp 4 0)) (leaf 20 (number (lit true 9223372036854775808))))))) false false false ∷ expression (bin 31 sub (bin 27 mul (leaf 25 (number (lit false 1))) (leaf 26 (exp 0 0))) (neg 30 (neg 29 (leaf 28 (flat public 0))))) false false false ∷ [])
    (3 ∷ []) 23 26 1000000
    (6 ∷ []) ∷
    -- random-1-124
    vector
    (expression (bin 2 add (leaf 0 (exp 3 0)) (leaf 1 (cell const 0 0))) true true true ∷ expression (muladd 7 (leaf 3 (x plain_x)) (leaf 4 (exp 5 0)) (neg 6 (leaf 5 (exp 4 0)))) false false false ∷ expression (bin 13 mul (leaf 8 (cell cm 3 0)) (binc 12 mulc (bin 11 sub (leaf 9 (cell cm 0 0)) (leaf 10 (number (lit false 1)))) (lit false 0))) true false true ∷ expression (bin 16 mul (leaf 14 (x x_div_x_sub_xi)) (leaf 15 (exp 4 0))) false false false ∷ expression (binc 21 addc (neg 20 (bin 19 add (leaf 17 (exp 5 0)) (leaf 18 (exp 5 0)))) (lit false 0)) false false true ∷ expression (bin 24 add (leaf 22 (cell const 2 0)) (leaf 23 (flat eval 3))) false false false ∷ [])
    (0 ∷ 1 ∷ []) 3 4 6
    (6 ∷ []) ∷
    -- random-1-125
    vector
    (expression (bin 12 add (bin 5 add (bin 3 add (leaf 0 (number (lit false 1))) (neg 2 (leaf 1 (flat public 3)))) (leaf 4 (number (lit false 5)))) (binc 11 mulc (binc 10 addc (bin 9 sub (leaf 6 (exp 2 0)) (binc 8 mulc (leaf 7 (flat public 1)) (lit false 1))) (lit true 1)) (lit true 1))) true true false ∷ expression (bin 16 sub (leaf 13 (number (lit false 0))) (binc 15 mulc (leaf 14 (flat public 1)) (lit false 5))) true true true ∷ expression (binc 20 mulc (bin 19 add (leaf 17 (exp 1 0)) (leaf 18 (exp 1 0))) (lit true 1)) false true false ∷ [])
    (0 ∷ []) 23 26 208
    (14 ∷ []) ∷
    -- random-1-126
    vector
    (expression (bin 4 mul (bin 2 add (leaf 0 (cell cm 0 0)) (leaf 1 (cell cm 0 0))) (leaf 3 (cell cm 1 0))) true false true ∷ expression (bin 9 mul (bin 7 mul (leaf 5 (exp 0 0)) (leaf 6 (exp 0 0))) (leaf 8 (cell cm 2 0))) true false true ∷ expression (bin 18 add (leaf 10 (cell cm 3 0)) (bin 17 mul (bin 13 mul (leaf 11 (cell cm 1 0)) (leaf 12 (exp 1 0))) (bin 16 mul (leaf 14 (cell cm 3 1)) (leaf 15 (cell cm 0 0))))) false false false ∷ [])
    (0 ∷ 2 ∷ 2 ∷ []) 255 3 0
    (16 ∷ []) ∷
    -- random-1-127
    vector
    (expression (bin 3 mul (binc 1 addc (leaf 0 (flat eval 0)) (lit false 5)) (leaf 2 (flat public 1))) false true false ∷ expression (binc 7 addc (bin 6 mul (leaf 4 (number (lit false 5))) (leaf 5 (exp 0 0))) (lit true 1)) true false true ∷ expression (bin 17 mul (bin 15 add (bin 13 mul (bin 11 add (binc 9 mulc (leaf 8 (number (lit false 1))) (lit true 9223372036854775808)) (leaf 10 (exp 0 0))) (leaf 12 (flat challenge 0))) (leaf 14 (exp 0 0))) (leaf 16 (exp 1 0))) false false true ∷ [])
    (2 ∷ 2 ∷ 2 ∷ 1 ∷ 2 ∷ []) 0 4 22
    (6 ∷ []) ∷
    -- random-1-128
    vector
    (expression (bin 7 add (leaf 0 (flat eval 0)) (neg 6 (bin 5 add (bin 3 add (leaf 1 (flat challenge 3)) (leaf 2 (number (lit false 1)))) (leaf 4 (flat eval 0))))) false false false ∷ expression (bin 14 add (bin 12 add (neg 10 (neg 9 (leaf 8 (flat public 0)))) (leaf 11 (flat public 3))) (leaf 13 (exp 0 0))) true true true ∷ expression (bin 17 add (leaf 15 (exp 0 0)) (leaf 16 (flat eval 0))) false false false ∷ expression (neg 21 (bin 20 mul (leaf 18 (exp 0 0)) (leaf 19 (exp 2 0)))) false false false ∷ expression (bin 26 sub (bin 24 sub (leaf 22 (exp 3 1)) (leaf 23 (number (lit false 0)))) (leaf 25 (number (lit false 0)))) false false false ∷ [])
    (4 ∷ []) 3 4 11
    (15 ∷ []) ∷
    -- random-1-129
    vector
    (expression (bin 9 mul (bin 7 add (bin 3 mul (binc 1 mulc (leaf 0 (cell cm 3 0)) (lit true 9223372036854775808)) (leaf 2 (cell cm 0 0))) (bin 6 mul (leaf 4 (cell cm 0 0)) (leaf 5 (cell cm 3 0)))) (leaf 8 (cell cm 0 0))) false false true ∷ expression (bin 18 mul (bin 12 mul (leaf 10 (cell cm 3 0)) (leaf 11 (cell cm 2 0))) (bin 17 mul (leaf 13 (cell cm 0 0)) (bin 16 add (leaf 14 (cell cm 2 0)) (leaf 15 (cell cm 1 0))))) true false false ∷ expression (bin 24 mul (bin 21 add (leaf 19 (exp 0 0)) (leaf 20 (exp 1 1))) (binc 23 mulc (leaf 22 (cell cm 0 0)) (lit false 5))) true true true ∷ expression (binc 33 addc (bin 32 mul (bin 30 mul (leaf 25 (cell cm 2 0)) (bin 29 mul (binc 27 mulc (leaf 26 (cell cm 2 0)) (lit false 1)) (leaf 28 (exp 2 0)))) (leaf 31 (exp 2 0))) (lit true 9223372036854775808)) false false false ∷ [])
    (3 ∷ 1 ∷ []) 23 23 0
    (15 ∷ []) ∷
    -- random-1-130
    vector
    (expression (bin 7 mul (neg 4 (bin 3 mul (leaf 0 (cell cm 3 0)) (binc 2 addc (leaf 1 (cell cm 3 0)) (lit false 0)))) (binc 6 mulc (leaf 5 (cell cm 2 0)) (lit true 1))) true false true ∷ expression (bin 13 mul (binc 9 mulc (leaf 8 (cell cm 0 0)) (lit true 9223372036854775808)) (bin 12 mul (leaf 10 (exp 4 1)) (leaf 11 (cell cm 1 0)))) false false false ∷ expression (binc 15 addc (leaf 14 (cell cm 2 0)) (lit false 5)) false false false ∷ expression (leaf 16 (exp 4 0)) false false false ∷ expression (bin 25 mul (binc 18 addc (leaf 17 (cell cm 2 0)) (lit true 1)) (binc 24 addc (bin 23 mul (leaf 19 (exp 0 0)) (bin 22 mul (leaf 20 (cell cm 0 0)) (leaf 21 (cell cm 0 0)))) (lit false 5))) false true true ∷ [])
    (1 ∷ 2 ∷ 2 ∷ 2 ∷ 0 ∷ []) 23 26 1000000
    (0 ∷ 3 ∷ 1806 ∷ 0 ∷ 4 ∷ []) ∷
    -- random-1-131
    vector
    (expression (bin 6 add (leaf 0 (number (lit true 9223372036854775808))) (bin 5 add (bin 3 add (leaf 1 (flat public 2)) (leaf 2 (number (lit false 1)))) (leaf 4 (flat public 1)))) false true true ∷ expression (bin 12 add (bin 10 sub (leaf 7 (exp 0 0)) (binc 9 mulc (leaf 8 (exp 0 0)) (lit true 1))) (leaf 11 (number (lit false 0)))) false false true ∷ expression (neg 24 (bin 23 sub (bin 21 sub (bin 18 add (bin 16 add (binc 14 addc (leaf 13 (exp 1 0)) (lit true 1)) (leaf 15 (flat public 3))) (leaf 17 (exp 1 0))) (binc 20 mulc (leaf 19 (exp 1 0)) (lit true 9223372036854775808))) (leaf 22 (number (lit true 9223372036854775808))))) false false false ∷ [])
    (2 ∷ []) 3 3 74
    (14 ∷ []) ∷
    -- random-1-132
    vector
    (expression (bin 7 mul (bin 5 mul (leaf 0 (cell cm 1 0)) (bin 4 mul (binc 2 mulc (leaf 1 (cell cm 2 1)) (lit false 5)) (leaf 3 (cell cm 0 0)))) (leaf 6 (cell cm 3 0))) false false false ∷ expression (bin 14 mul (bin 10 mul (leaf 8 (cell cm 2 0)) (leaf 9 (exp 0 1))) (bin 13 mul (leaf 11 (exp 0 0)) (leaf 12 (exp 0 0)))) false false false ∷ expression (bin 17 mul (leaf 15 (cell cm 1 0)) (leaf 16 (cell cm 2 0))) false false false ∷ expression (bin 20 mul (leaf 18 (exp 2 1)) (leaf 19 (exp 2 0))) false false false ∷ [])
    (3 ∷ []) 3 5 28
    (0 ∷ 1 ∷ 28 ∷ 2 ∷ []) ∷
    -- random-1-133
    vector
    (expression (neg 1 (leaf 0 (exp 2 0))) false false false ∷ expression (bin 9 sub (binc 6 addc (bin 5 add (leaf 2 (flat public 2)) (binc 4 mulc (leaf 3 (exp 3 0)) (lit false 0))) (lit false 5)) (binc 8 mulc (leaf 7 (exp 3 0)) (lit false 0))) false false false ∷ expression (bin 15 add (leaf 10 (number (lit false 5))) (bin 14 add (binc 12 mulc (leaf 11 (number (lit true 9223372036854775808))) (lit true 9223372036854775808)) (leaf 13 (number (lit true 1))))) true false true ∷ expression (bin 20 sub (bin 18 add (leaf 16 (exp 0 0)) (leaf 17 (exp 0 0))) (leaf 19 (flat public 3))) true false true ∷ expression (bin 27 add (bin 23 sub (leaf 21 (number (lit true 9223372036854775808))) (leaf 22 (exp 0 0))) (bin 26 add (leaf 24 (exp 2 0)) (leaf 25 (exp 1 0)))) false false false ∷ [])
    ([]) 23 24 1000000
    (17 ∷ []) ∷
    -- random-1-134
    vector
    (expression (bin 12 add (bin 6 sub (bin 2 add (leaf 0 (cell cm 2 0)) (leaf 1 (cell cm 0 0))) (neg 5 (binc 4 addc (leaf 3 (cell cm 1 0)) (lit true 9223372036854775808)))) (binc 11 addc (bin 10 add (binc 8 mulc (leaf 7 (cell cm 1 0)) (lit false 1)) (leaf 9 (x plain_x))) (lit true 9223372036854775808))) false false false ∷ expression (bin 17 add (leaf 13 (x plain_x)) (bin 16 mul (leaf 14 (cell const 2 0)) (leaf 15 (cell const 0 0)))) false true true ∷ expression (bin 28 mul (bin 20 mul (leaf 18 (exp 0 0)) (leaf 19 (exp 1 0))) (binc 27 mulc (bin 26 mul (leaf 21 (cell cm 2 1)) (binc 25 mulc (bin 24 add (leaf 22 (exp 0 0)) (leaf 23 (cell cm 2 0))) (lit true 9223372036854775808))) (lit true 1))) false false true ∷ expression (bin 36 mul (leaf 29 (cell cm 3 0)) (binc 35 addc (bin 34 mul (bin 32 mul (leaf 30 (exp 2 1)) (leaf 31 (exp 0 0))) (leaf 33 (exp 1 0))) (lit false 0))) false false false ∷ expression (bin 43 mul (bin 39 mul (leaf 37 (cell cm 2 0)) (leaf 38 (cell cm 0 0))) (bin 42 add (leaf 40 (cell cm 2 0)) (leaf 41 (exp 3 0)))) false false false ∷ expression (bin 52 mul (leaf 44 (exp 2 0)) (bin 51 add (leaf 45 (cell const 3 0)) (bin 50 sub (bin 48 mul (leaf 46 (x plain_x)) (leaf 47 (exp 1 0))) (leaf 49 (number (lit true 1)))))) false false false ∷ expression (bin 62 sub (leaf 53 (cell cm 2 0)) (bin 61 add (leaf 54 (exp 1 0)) (bin 60 mul (neg 58 (binc 57 mulc (neg 56 (leaf 55 (cell const 3 0))) (lit false 1))) (leaf 59 (exp 4 0))))) false false false ∷ expression (bin 71 mul (bin 65 add (leaf 63 (cell cm 3 0)) (leaf 64 (exp 2 0))) (bin 70 mul (bin 68 add (leaf 66 (cell cm 0 0)) (leaf 67 (x plain_x))) (leaf 69 (flat challenge 3)))) false false false ∷ [])
    (7 ∷ 5 ∷ 2 ∷ 4 ∷ 2 ∷ []) 0 1 1000000
    (13 ∷ []) ∷
    -- random-1-135
    vector
    (expression (bin 2 add (leaf 0 (flat challenge 1)) (leaf 1 (exp 5 0))) false false false ∷ expression (bin 12 add (leaf 3 (x plain_x)) (bin 11 mul (leaf 4 (cell cm 0 0)) (bin 10 add (bin 8 add (binc 6 mulc (leaf 5 (exp 0 0)) (lit false 1)) (leaf 7 (cell cm 3 0))) (leaf 9 (exp 6 0))))) true false false ∷ expression (neg 20 (bin 19 sub (bin 15 mul (leaf 13 (x plain_x)) (leaf 14 (exp 5 0))) (bin 18 mul (leaf 16 (exp 3 0)) (leaf 17 (flat challenge 3))))) false false false ∷ expression (bin 26 mul (neg 24 (binc 23 mulc (binc 22 mulc (leaf 21 (exp 5 0)) (lit false 0)) (lit true 9223372036854775808))) (leaf 25 (exp 5 1))) false false false ∷ expression (bin 32 add (leaf 27 (number (lit false 0))) (bin 31 mul (binc 29 addc (leaf 28 (exp 5 0)) (lit true 9223372036854775808)) (leaf 30 (cell cm 1 0)))) true false false ∷ expression (bin 35 mul (leaf 33 (cell cm 1 0)) (leaf 34 (x plain_x))) false true false ∷ expression (bin 38 mul (leaf 36 (exp 5 0)) (leaf 37 (exp 2 0))) true true true ∷ [])
    (1 ∷ []) 0 1 0
    (15 ∷ []) ∷
    -- random-1-136
    vector
    (expression (bin 3 sub (leaf 0 (cell cm 0 0)) (binc 2 addc (leaf 1 (cell cm 2 0)) (lit true 9223372036854775808))) false false false ∷ expression (bin 8 mul (bin 6 mul (leaf 4 (cell cm 1 0)) (leaf 5 (cell cm 3 0))) (leaf 7 (cell cm 2 0))) true false false ∷ expression (bin 11 mul (leaf 9 (exp 0 0)) (leaf 10 (exp 1 0))) false false false ∷ expression (neg 19 (bin 18 mul (bin 14 add (leaf 12 (exp 2 0)) (leaf 13 (cell cm 3 0))) (bin 17 mul (leaf 15 (exp 0 0)) (leaf 16 (cell cm 1 0))))) false false false ∷ expression (bin 27 mul (binc 21 addc (leaf 20 (exp 3 0)) (lit false 5)) (neg 26 (bin 25 sub (leaf 22 (exp 3 0)) (binc 24 mulc (leaf 23 (exp 0 0)) (lit false 5))))) false false false ∷ [])
    (4 ∷ 4 ∷ []) 3 4 1000000
    (0 ∷ 2 ∷ 496 ∷ 1 ∷ 2 ∷ 3 ∷ []) ∷
    -- random-1-137
    vector
    (expression (bin 9 add (bin 2 sub (leaf 0 (number (lit false 5))) (leaf 1 (number (lit true 9223372036854775808)))) (bin 8 sub (bin 6 add (leaf 3 (flat public 3)) (binc 5 addc (leaf 4 (number (lit false 1))) (lit false 1))) (leaf 7 (flat public 1)))) false true false ∷ expression (bin 12 mul (leaf 10 (flat public 1)) (leaf 11 (number (lit false 0)))) false true false ∷ expression (bin 15 sub (leaf 13 (number (lit false 5))) (leaf 14 (flat public 1))) false false false ∷ expression (bin 22 mul (leaf 16 (flat public 3)) (bin 21 sub (leaf 17 (flat public 0)) (bin 20 sub (leaf 18 (exp 0 0)) (leaf 19 (flat public 1))))) false false true ∷ expression (bin 30 add (leaf 23 (exp 0 0)) (bin 29 add (binc 27 addc (bin 26 add (leaf 24 (flat public 2)) (leaf 25 (flat public 3))) (lit true 1)) (leaf 28 (number (lit true 9223372036854775808))))) false false false ∷ [])
    (2 ∷ 4 ∷ []) 3 4 50
    (14 ∷ []) ∷
    -- random-1-138
    vector
    (expression (bin 6 mul (bin 2 add (leaf 0 (exp 5 0)) (leaf 1 (exp 5 0))) (bin 5 mul (leaf 3 (cell q 3 0)) (leaf 4 (flat challenge 3)))) true true true ∷ expression (muladd 13 (leaf 7 (flat eval 3)) (binc 9 addc (leaf 8 (exp 0 0)) (lit true 1)) (bin 12 add (leaf 10 (flat public 0)) (leaf 11 (exp 4 0)))) false false false ∷ expression (neg 24 (bin 23 mul (bin 21 mul (leaf 14 (flat public 2)) (neg 20 (bin 19 sub (leaf 15 (x x_div_x_sub_xi)) (bin 18 mul (leaf 16 (number (lit true 9223372036854775808))) (leaf 17 (exp 1 0)))))) (leaf 22 (exp 1 0)))) false false false ∷ expression (muladd 32 (leaf 25 (exp 6 0)) (leaf 26 (exp 6 0)) (neg 31 (muladd 30 (leaf 27 (exp 6 0)) (leaf 28 (exp 0 0)) (leaf 29 (cell const 2 1))))) true true false ∷ expression (bin 40 mul (bin 35 mul (leaf 33 (cell cm 1 0)) (leaf 34 (cell const 2 0))) (bin 39 add (leaf 36 (flat public 1)) (binc 38 addc (leaf 37 (flat eval 0)) (lit true 9223372036854775808)))) true false false ∷ expression (bin 46 mul (neg 42 (leaf 41 (cell q 1 0))) (bin 45 mul (leaf 43 (exp 4 1)) (leaf 44 (exp 4 0)))) false false false ∷ expression (leaf 47 (exp 5 1)) false false false ∷ [])
    (3 ∷ 4 ∷ 6 ∷ []) 3 5 1000000
    (6 ∷ []) ∷
    -- random-1-139
    vector
    (expression (bin 5 mul (binc 3 addc (bin 2 mul (leaf 0 (x plain_x)) (leaf 1 (cell cm 1 0))) (lit false 0)) (leaf 4 (cell cm 2 0))) false false false ∷ expression (muladd 13 (leaf 6 (exp 0 0)) (leaf 7 (exp 0 0)) (bin 12 mul (leaf 8 (flat eval 2)) (neg 11 (neg 10 (leaf 9 (exp 0 0)))))) false false false ∷ [])
    (1 ∷ 0 ∷ 0 ∷ []) 0 2 1000000
    (6 ∷ []) ∷
    -- random-1-140
    vector
    (expression (leaf 0 (cell cm 0 0)) true true true ∷ expression (binc 7 addc (bin 6 mul (bin 4 add (binc 2 mulc (leaf 1 (cell cm 3 0)) (lit false 5)) (leaf 3 (exp 0 0))) (leaf 5 (cell cm 1 0))) (lit false 5)) false false false ∷ expression (bin 13 mul (binc 9 addc (leaf 8 (cell cm 0 0)) (lit true 9223372036854775808)) (bin 12 mul (leaf 10 (exp 1 0)) (leaf 11 (exp 1 0)))) true true false ∷ [])
    (2 ∷ 2 ∷ []) 23 23 1000000
    (13 ∷ []) ∷
    -- random-1-141
    vector
    (expression (bin 3 sub (binc 1 addc (leaf 0 (exp 1 0)) (lit false 5)) (leaf 2 (exp 1 0))) false false false ∷ expression (binc 11 mulc (bin 10 mul (bin 7 add (leaf 4 (exp 2 0)) (binc 6 mulc (leaf 5 (exp 3 1)) (lit true 1))) (binc 9 mulc (leaf 8 (number (lit true 9223372036854775808))) (lit false 5))) (lit true 1)) false false false ∷ expression (binc 19 mulc (bin 18 add (leaf 12 (number (lit false 1))) (bin 17 add (bin 15 add (leaf 13 (flat public 3)) (leaf 14 (exp 3 0))) (leaf 16 (exp 3 0)))) (lit false 5)) true false false ∷ expression (bin 25 sub (bin 22 add (leaf 20 (flat public 1)) (leaf 21 (flat public 2))) (binc 24 addc (leaf 23 (number (lit false 5))) (lit true 9223372036854775808))) false false false ∷ [])
    (3 ∷ 3 ∷ 0 ∷ 2 ∷ 2 ∷ []) 3 3 72
    (15 ∷ []) ∷
    -- random-1-142
    vector
    (expression (bin 7 add (bin 5 mul (bin 2 add (leaf 0 (exp 2 0)) (leaf 1 (exp 2 0))) (binc 4 mulc (leaf 3 (exp 2 0)) (lit false 1))) (leaf 6 (exp 2 0))) false false false ∷ expression (bin 12 add (bin 10 mul (leaf 8 (number (lit false 1))) (leaf 9 (cell cm 3 0))) (leaf 11 (flat challenge 2))) false false false ∷ expression (bin 20 mul (bin 15 add (leaf 13 (exp 1 0)) (leaf 14 (number (lit true 1)))) (neg 19 (bin 18 add (leaf 16 (exp 1 0)) (leaf 17 (cell cm 0 0))))) false false false ∷ expression (bin 30 mul (leaf 21 (exp 2 0)) (bin 29 mul (bin 27 mul (bin 25 sub (binc 23 mulc (leaf 22 (flat challenge 0)) (lit false 1)) (leaf 24 (cell const 3 0))) (leaf 26 (cell const 3 0))) (leaf 28 (x plain_x)))) false true true ∷ [])
    (0 ∷ 0 ∷ []) 3 4 1000000
    (0 ∷ 1 ∷ 80 ∷ 2 ∷ []) ∷
    -- random-1-143
    vector
    (expression (neg 2 (binc 1 addc (leaf 0 (cell cm 1 0)) (lit false 5))) true true true ∷ expression (bin 7 add (leaf 3 (cell cm 0 0)) (binc 6 addc (binc 5 mulc (leaf 4 (cell cm 0 0)) (lit false 5)) (lit false 1))) false false false ∷ expression (bin 13 add (binc 9 mulc (leaf 8 (cell cm 2 0)) (lit false 1)) (binc 12 mulc (neg 11 (leaf 10 (exp 1 0))) (lit false 5))) true false true ∷ expression (bin 18 sub (leaf 14 (exp 0 0)) (bin 17 add (leaf 15 (exp 2 0)) (leaf 16 (exp 1 0)))) false false false ∷ [])
    (3 ∷ []) 3 5 1000000
    (0 ∷ 0 ∷ 100 ∷ []) ∷
    -- random-1-144
    vector
    (expression (bin 4 mul (bin 2 mul (leaf 0 (cell cm 3 0)) (leaf 1 (cell cm 2 0))) (leaf 3 (cell cm 1 0))) false false false ∷ expression (bin 9 mul (leaf 5 (exp 0 0)) (bin 8 mul (leaf 6 (cell cm 1 0)) (leaf 7 (exp 0 0)))) false false false ∷ expression (bin 12 mul (leaf 10 (exp 0 0)) (leaf 11 (exp 0 0))) false false false ∷ expression (bin 21 mul (bin 15 mul (leaf 13 (cell cm 2 0)) (leaf 14 (exp 2 0))) (bin 20 add (leaf 16 (cell cm 0 0)) (bin 19 mul (leaf 17 (cell cm 3 0)) (leaf 18 (cell cm 2 0))))) true false true ∷ [])
    (3 ∷ []) 23 23 1000000
    (13 ∷ []) ∷
    -- random-1-145
    vector
    (expression (bin 8 mul (bin 5 mul (binc 2 mulc (binc 1 addc (leaf 0 (number (lit false 0))) (lit false 5)) (lit true 9223372036854775808)) (neg 4 (leaf 3 (cell cm 0 0)))) (binc 7 mulc (leaf 6 (cell const 1 0)) (lit false 0))) true false false ∷ expression (bin 14 mul (neg 10 (leaf 9 (exp 0 0))) (bin 13 mul (leaf 11 (cell cm 1 0)) (leaf 12 (exp 0 0)))) false false true ∷ expression (bin 20 mul (bin 18 mul (binc 16 addc (leaf 15 (cell cm 3 0)) (lit false 1)) (leaf 17 (exp 1 0))) (leaf 19 (exp 1 0))) true false true ∷ [])
    (2 ∷ []) 3 5 18446744073709551615
    (0 ∷ 2 ∷ 940 ∷ 0 ∷ 1 ∷ []) ∷
    -- random-1-146
    vector
    (expression (bin 8 add (bin 6 mul (bin 2 add (leaf 0 (flat public 2)) (leaf 1 (number (lit false 1)))) (bin 5 sub (leaf 3 (flat public 1)) (leaf 4 (number (lit true 1))))) (leaf 7 (number (lit true 1)))) false false false ∷ expression (binc 13 addc (bin 12 sub (binc 10 addc (leaf 9 (exp 0 1)) (lit false 1)) (leaf 11 (exp 0 1))) (lit false 5)) false false false ∷ expression (bin 16 add (leaf 14 (exp 1 0)) (leaf 15 (flat public 3))) false false false ∷ expression (bin 20 add (binc 18 addc (leaf 17 (exp 2 0)) (lit true 1)) (leaf 19 (flat public 0))) true false false ∷ expression (bin 26 sub (leaf 21 (exp 3 0)) (bin 25 add (neg 23 (leaf 22 (number (lit true 1)))) (leaf 24 (flat public 1)))) true false false ∷ expression (bin 38 add (leaf 27 (flat public 1)) (bin 37 sub (binc 32 addc (bin 31 add (leaf 28 (exp 1 0)) (binc 30 addc (leaf 29 (exp 4 0)) (lit false 5))) (lit true 9223372036854775808)) (bin 36 mul (neg 34 (leaf 33 (number (lit true 1)))) (leaf 35 (exp 1 0))))) false false false ∷ [])
    (5 ∷ 0 ∷ 3 ∷ []) 3 6 589
    (15 ∷ []) ∷
    -- random-1-147
    vector
    (expression (bin 2 mul (leaf 0 (cell cm 0 0)) (leaf 1 (cell cm 1 0))) false false false ∷ expression (bin 10 add (leaf 3 (cell cm 0 0)) (bin 9 mul (bin 7 mul (binc 5 addc (leaf 4 (cell cm 1 0)) (lit true 9223372036854775808)) (leaf 6 (exp 0 0))) (leaf 8 (exp 0 0)))) false false false ∷ expression (bin 15 sub (leaf 11 (cell cm 0 1)) (bin 14 add (leaf 12 (exp 0 0)) (leaf 13 (cell cm 2 0)))) true false false ∷ [])
    (2 ∷ []) 23 25 29
    (0 ∷ 1 ∷ 28 ∷ []) ∷
    -- random-1-148
    vector
    (expression (binc 7 mulc (binc 6 mulc (neg 5 (bin 4 mul (bin 2 mul (leaf 0 (exp 1 0)) (leaf 1 (exp 1 0))) (leaf 3 (exp 1 0)))) (lit true 1)) (lit false 5)) true false true ∷ expression (bin 16 sub (leaf 8 (cell cm 1 0)) (binc 15 mulc (bin 14 mul (leaf 9 (exp 2 0)) (bin 13 mul (leaf 10 (cell cm 0 0)) (neg 12 (leaf 11 (cell cm 0 0))))) (lit true 1))) true false false ∷ expression (bin 26 sub (leaf 17 (cell cm 1 0)) (bin 25 sub (binc 21 addc (bin 20 mul (leaf 18 (cell cm 0 0)) (leaf 19 (cell const 2 0))) (lit false 5)) (bin 24 mul (leaf 22 (flat challenge 1)) (leaf 23 (cell cm 3 0))))) false false false ∷ [])
    (1 ∷ 0 ∷ []) 3 3 34
    (15 ∷ []) ∷
    -- random-1-149
    vector
    (expression (bin 2 mul (leaf 0 (flat eval 2)) (leaf 1 (flat eval 1))) false false false ∷ expression (bin 6 add (leaf 3 (exp 0 1)) (binc 5 mulc (leaf 4 (exp 0 0)) (lit false 0))) true true false ∷ expression (bin 13 mul (leaf 7 (exp 1 0)) (bin 12 add (leaf 8 (exp 1 0)) (bin 11 mul (leaf 9 (flat challenge 0)) (leaf 10 (number (lit false 1)))))) false false false ∷ expression (leaf 14 (number (lit false 1))) false false false ∷ expression (bin 26 mul (neg 16 (leaf 15 (number (lit true 9223372036854775808)))) (bin 25 mul (bin 23 mul (bin 21 mul (neg 18 (leaf 17 (flat challenge 0))) (binc 20 addc (leaf 19 (exp 3 0)) (lit false 1))) (leaf 22 (flat public 0))) (leaf 24 (exp 1 0)))) false false false ∷ expression (binc 35 mulc (bin 34 add (bin 32 add (leaf 27 (flat public 1)) (bin 31 sub (leaf 28 (exp 0 1)) (neg 30 (leaf 29 (flat challenge 1))))) (leaf 33 (exp 4 0))) (lit true 1)) false false false ∷ expression (bin 41 sub (bin 39 sub (leaf 36 (number (lit false 0))) (neg 38 (leaf 37 (number (lit false 5))))) (leaf 40 (exp 1 0))) false false false ∷ expression (bin 46 mul (leaf 42 (exp 6 0)) (bin 45 add (leaf 43 (exp 4 0)) (leaf 44 (flat challenge 1)))) false false false ∷ [])
    (3 ∷ 3 ∷ 7 ∷ []) 0 0 1000000
    (14 ∷ []) ∷
    []

-- THE DEFINITIONS GIVE THE ORIGINAL'S ANSWERS
pub all-agree : agree vectors ≡ true
unfolding search full_table vectors
all-agree = refl
