-- The 108 vectors of searches of the family edge, made by tools/searches_to_antt.py.
-- Assumes nothing.
use Rattle.std.specs.Prelude.{◌≡◌, refl, true, false, List, [], ◌∷◌}
use Rattle.meaning.specs.Trees.{lit, cm, const, q, public, challenge, eval, x_div_x_sub_xi, x_div_x_sub_w_xi, plain_x, add, sub, mul, addc, mulc, cell, exp, number, flat, x, leaf, bin, muladd, binc, neg}
use Rattle.search_meaning.specs.Degrees.{full_table}
use Rattle.search_meaning.specs.Search.{search}
use Rattle.replay_meaning.specs.Replay.{expression}
use Rattle.replay_searches.specs.Replay.{Vector, vector, agree}

unfoldable pub vectors : List Vector
vectors =
    -- edge-16-0-to-0
    vector
    (expression (bin 2 mul (leaf 0 (cell cm 0 0)) (leaf 1 (cell cm 1 0))) false false false ∷ expression (bin 5 mul (leaf 3 (exp 0 0)) (leaf 4 (cell cm 2 0))) false false false ∷ [])
    (1 ∷ []) 0 0 1000000
    (0 ∷ 1 ∷ 10 ∷ 0 ∷ []) ∷
    -- edge-16-0-to-4
    vector
    (expression (bin 2 mul (leaf 0 (cell cm 0 0)) (leaf 1 (cell cm 1 0))) false false false ∷ expression (bin 5 mul (leaf 3 (exp 0 0)) (leaf 4 (cell cm 2 0))) false false false ∷ [])
    (1 ∷ []) 0 4 1000000
    (0 ∷ 1 ∷ 40 ∷ 0 ∷ []) ∷
    -- edge-16-0-to-5
    vector
    (expression (bin 2 mul (leaf 0 (cell cm 0 0)) (leaf 1 (cell cm 1 0))) false false false ∷ expression (bin 5 mul (leaf 3 (exp 0 0)) (leaf 4 (cell cm 2 0))) false false false ∷ [])
    (1 ∷ []) 0 5 1000000
    (16 ∷ []) ∷
    -- edge-16-1-to-0
    vector
    (expression (bin 2 mul (leaf 0 (cell cm 0 0)) (leaf 1 (cell cm 1 0))) false false false ∷ expression (bin 5 mul (leaf 3 (exp 0 0)) (leaf 4 (cell cm 2 0))) false false false ∷ [])
    (1 ∷ []) 1 0 1000000
    (16 ∷ []) ∷
    -- edge-16-3-to-2
    vector
    (expression (bin 2 mul (leaf 0 (cell cm 0 0)) (leaf 1 (cell cm 1 0))) false false false ∷ expression (bin 5 mul (leaf 3 (exp 0 0)) (leaf 4 (cell cm 2 0))) false false false ∷ [])
    (1 ∷ []) 3 2 1000000
    (16 ∷ []) ∷
    -- edge-16-3-to-7
    vector
    (expression (bin 2 mul (leaf 0 (cell cm 0 0)) (leaf 1 (cell cm 1 0))) false false false ∷ expression (bin 5 mul (leaf 3 (exp 0 0)) (leaf 4 (cell cm 2 0))) false false false ∷ [])
    (1 ∷ []) 3 7 1000000
    (0 ∷ 1 ∷ 40 ∷ 0 ∷ []) ∷
    -- edge-16-3-to-8
    vector
    (expression (bin 2 mul (leaf 0 (cell cm 0 0)) (leaf 1 (cell cm 1 0))) false false false ∷ expression (bin 5 mul (leaf 3 (exp 0 0)) (leaf 4 (cell cm 2 0))) false false false ∷ [])
    (1 ∷ []) 3 8 1000000
    (16 ∷ []) ∷
    -- edge-16-24-to-23
    vector
    (expression (bin 2 mul (leaf 0 (cell cm 0 0)) (leaf 1 (cell cm 1 0))) false false false ∷ expression (bin 5 mul (leaf 3 (exp 0 0)) (leaf 4 (cell cm 2 0))) false false false ∷ [])
    (1 ∷ []) 24 23 1000000
    (16 ∷ []) ∷
    -- edge-16-24-to-24
    vector
    (expression (bin 2 mul (leaf 0 (cell cm 0 0)) (leaf 1 (cell cm 1 0))) false false false ∷ expression (bin 5 mul (leaf 3 (exp 0 0)) (leaf 4 (cell cm 2 0))) false false false ∷ [])
    (1 ∷ []) 24 24 1000000
    (0 ∷ 1 ∷ 10 ∷ 0 ∷ []) ∷
    -- edge-16-24-to-28
    vector
    (expression (bin 2 mul (leaf 0 (cell cm 0 0)) (leaf 1 (cell cm 1 0))) false false false ∷ expression (bin 5 mul (leaf 3 (exp 0 0)) (leaf 4 (cell cm 2 0))) false false false ∷ [])
    (1 ∷ []) 24 28 1000000
    (0 ∷ 1 ∷ 40 ∷ 0 ∷ []) ∷
    -- edge-16-24-to-29
    vector
    (expression (bin 2 mul (leaf 0 (cell cm 0 0)) (leaf 1 (cell cm 1 0))) false false false ∷ expression (bin 5 mul (leaf 3 (exp 0 0)) (leaf 4 (cell cm 2 0))) false false false ∷ [])
    (1 ∷ []) 24 29 1000000
    (16 ∷ []) ∷
    -- edge-16-25-to-25
    vector
    (expression (bin 2 mul (leaf 0 (cell cm 0 0)) (leaf 1 (cell cm 1 0))) false false false ∷ expression (bin 5 mul (leaf 3 (exp 0 0)) (leaf 4 (cell cm 2 0))) false false false ∷ [])
    (1 ∷ []) 25 25 1000000
    (16 ∷ []) ∷
    -- edge-16-25-to-24
    vector
    (expression (bin 2 mul (leaf 0 (cell cm 0 0)) (leaf 1 (cell cm 1 0))) false false false ∷ expression (bin 5 mul (leaf 3 (exp 0 0)) (leaf 4 (cell cm 2 0))) false false false ∷ [])
    (1 ∷ []) 25 24 1000000
    (16 ∷ []) ∷
    -- edge-16-255-to-255
    vector
    (expression (bin 2 mul (leaf 0 (cell cm 0 0)) (leaf 1 (cell cm 1 0))) false false false ∷ expression (bin 5 mul (leaf 3 (exp 0 0)) (leaf 4 (cell cm 2 0))) false false false ∷ [])
    (1 ∷ []) 255 255 1000000
    (16 ∷ []) ∷
    -- edge-16-252-to-0
    vector
    (expression (bin 2 mul (leaf 0 (cell cm 0 0)) (leaf 1 (cell cm 1 0))) false false false ∷ expression (bin 5 mul (leaf 3 (exp 0 0)) (leaf 4 (cell cm 2 0))) false false false ∷ [])
    (1 ∷ []) 252 0 1000000
    (16 ∷ []) ∷
    -- edge-16-0-to-255
    vector
    (expression (bin 2 mul (leaf 0 (cell cm 0 0)) (leaf 1 (cell cm 1 0))) false false false ∷ expression (bin 5 mul (leaf 3 (exp 0 0)) (leaf 4 (cell cm 2 0))) false false false ∷ [])
    (1 ∷ []) 0 255 1000000
    (16 ∷ []) ∷
    -- edge-16-254-to-2
    vector
    (expression (bin 2 mul (leaf 0 (cell cm 0 0)) (leaf 1 (cell cm 1 0))) false false false ∷ expression (bin 5 mul (leaf 3 (exp 0 0)) (leaf 4 (cell cm 2 0))) false false false ∷ [])
    (1 ∷ []) 254 2 1000000
    (16 ∷ []) ∷
    -- edge-17-none
    vector
    (expression (bin 2 mul (leaf 0 (cell cm 0 0)) (leaf 1 (cell cm 1 0))) false false false ∷ expression (bin 5 mul (leaf 3 (exp 0 0)) (leaf 4 (cell cm 2 0))) false false false ∷ [])
    ([]) 3 4 1000000
    (17 ∷ []) ∷
    -- edge-17-one
    vector
    (expression (bin 2 mul (leaf 0 (cell cm 0 0)) (leaf 1 (cell cm 1 0))) false false false ∷ expression (bin 5 mul (leaf 3 (exp 0 0)) (leaf 4 (cell cm 2 0))) false false false ∷ [])
    (0 ∷ []) 3 4 1000000
    (0 ∷ 1 ∷ 4 ∷ []) ∷
    -- edge-17-one-twice
    vector
    (expression (bin 2 mul (leaf 0 (cell cm 0 0)) (leaf 1 (cell cm 1 0))) false false false ∷ expression (bin 5 mul (leaf 3 (exp 0 0)) (leaf 4 (cell cm 2 0))) false false false ∷ [])
    (0 ∷ 0 ∷ []) 3 4 1000000
    (0 ∷ 1 ∷ 12 ∷ []) ∷
    -- edge-17-the-cut-one-twice
    vector
    (expression (bin 2 mul (leaf 0 (cell cm 0 0)) (leaf 1 (cell cm 1 0))) false false false ∷ expression (bin 5 mul (leaf 3 (exp 0 0)) (leaf 4 (cell cm 2 0))) false false false ∷ [])
    (1 ∷ 1 ∷ []) 3 4 1000000
    (0 ∷ 1 ∷ 24 ∷ 0 ∷ []) ∷
    -- edge-17-both-ways
    vector
    (expression (bin 2 mul (leaf 0 (cell cm 0 0)) (leaf 1 (cell cm 1 0))) false false false ∷ expression (bin 5 mul (leaf 3 (exp 0 0)) (leaf 4 (cell cm 2 0))) false false false ∷ [])
    (1 ∷ 0 ∷ []) 3 4 1000000
    (0 ∷ 1 ∷ 19 ∷ 0 ∷ []) ∷
    -- edge-17-the-other-way
    vector
    (expression (bin 2 mul (leaf 0 (cell cm 0 0)) (leaf 1 (cell cm 1 0))) false false false ∷ expression (bin 5 mul (leaf 3 (exp 0 0)) (leaf 4 (cell cm 2 0))) false false false ∷ [])
    (0 ∷ 1 ∷ []) 3 4 1000000
    (0 ∷ 1 ∷ 20 ∷ 0 ∷ []) ∷
    -- edge-17-forty
    vector
    (expression (bin 2 mul (leaf 0 (cell cm 0 0)) (leaf 1 (cell cm 1 0))) false false false ∷ expression (bin 5 mul (leaf 3 (exp 0 0)) (leaf 4 (cell cm 2 0))) false false false ∷ [])
    (1 ∷ 1 ∷ 1 ∷ 1 ∷ 1 ∷ 1 ∷ 1 ∷ 1 ∷ 1 ∷ 1 ∷ 1 ∷ 1 ∷ 1 ∷ 1 ∷ 1 ∷ 1 ∷ 1 ∷ 1 ∷ 1 ∷ 1 ∷ 1 ∷ 1 ∷ 1 ∷ 1 ∷ 1 ∷ 1 ∷ 1 ∷ 1 ∷ 1 ∷ 1 ∷ 1 ∷ 1 ∷ 1 ∷ 1 ∷ 1 ∷ 1 ∷ 1 ∷ 1 ∷ 1 ∷ 1 ∷ []) 3 4 1000000
    (0 ∷ 1 ∷ 480 ∷ 0 ∷ []) ∷
    -- edge-03-the-first-beyond
    vector
    (expression (bin 2 mul (leaf 0 (cell cm 0 0)) (leaf 1 (cell cm 1 0))) false false false ∷ expression (bin 5 mul (leaf 3 (exp 0 0)) (leaf 4 (cell cm 2 0))) false false false ∷ [])
    (2 ∷ []) 3 4 1000000
    (3 ∷ []) ∷
    -- edge-03-after-one-that-is-there
    vector
    (expression (bin 2 mul (leaf 0 (cell cm 0 0)) (leaf 1 (cell cm 1 0))) false false false ∷ expression (bin 5 mul (leaf 3 (exp 0 0)) (leaf 4 (cell cm 2 0))) false false false ∷ [])
    (1 ∷ 2 ∷ []) 3 4 1000000
    (3 ∷ []) ∷
    -- edge-03-before-one-that-is-there
    vector
    (expression (bin 2 mul (leaf 0 (cell cm 0 0)) (leaf 1 (cell cm 1 0))) false false false ∷ expression (bin 5 mul (leaf 3 (exp 0 0)) (leaf 4 (cell cm 2 0))) false false false ∷ [])
    (65535 ∷ 0 ∷ []) 3 4 1000000
    (3 ∷ []) ∷
    -- edge-06-cm-bare
    vector
    (expression (leaf 0 (cell cm 1 0)) false false false ∷ [])
    (0 ∷ []) 3 4 1000000
    (0 ∷ 0 ∷ 4 ∷ []) ∷
    -- edge-06-cm-summed
    vector
    (expression (bin 2 add (leaf 0 (cell cm 0 0)) (leaf 1 (cell cm 1 0))) false false false ∷ [])
    (0 ∷ []) 3 4 1000000
    (0 ∷ 0 ∷ 8 ∷ []) ∷
    -- edge-06-cm-times-a-number
    vector
    (expression (bin 2 mul (leaf 0 (cell cm 1 0)) (leaf 1 (number (lit false 3)))) false false false ∷ [])
    (0 ∷ []) 3 4 1000000
    (0 ∷ 0 ∷ 6 ∷ []) ∷
    -- edge-06-cm-squared
    vector
    (expression (bin 2 mul (leaf 0 (cell cm 1 0)) (leaf 1 (cell cm 1 0))) false false false ∷ [])
    (0 ∷ []) 3 4 1000000
    (0 ∷ 1 ∷ 4 ∷ []) ∷
    -- edge-06-cm-times-a-cube
    vector
    (expression (bin 6 mul (leaf 0 (cell cm 1 0)) (bin 5 mul (bin 3 mul (leaf 1 (cell cm 0 0)) (leaf 2 (cell cm 1 0))) (leaf 4 (cell cm 2 0)))) false false false ∷ [])
    (0 ∷ []) 3 4 1000000
    (13 ∷ []) ∷
    -- edge-06-cm-a-cube-times
    vector
    (expression (bin 6 mul (bin 2 mul (leaf 0 (cell cm 0 0)) (leaf 1 (cell cm 1 0))) (bin 5 add (leaf 3 (cell cm 1 0)) (leaf 4 (cell cm 2 0)))) false false false ∷ [])
    (0 ∷ []) 3 4 1000000
    (0 ∷ 2 ∷ 18 ∷ []) ∷
    -- edge-06-const-bare
    vector
    (expression (leaf 0 (cell const 1 0)) false false false ∷ [])
    (0 ∷ []) 3 4 1000000
    (0 ∷ 0 ∷ 4 ∷ []) ∷
    -- edge-06-const-summed
    vector
    (expression (bin 2 add (leaf 0 (cell cm 0 0)) (leaf 1 (cell const 1 0))) false false false ∷ [])
    (0 ∷ []) 3 4 1000000
    (0 ∷ 0 ∷ 8 ∷ []) ∷
    -- edge-06-const-times-a-number
    vector
    (expression (bin 2 mul (leaf 0 (cell const 1 0)) (leaf 1 (number (lit false 3)))) false false false ∷ [])
    (0 ∷ []) 3 4 1000000
    (0 ∷ 0 ∷ 6 ∷ []) ∷
    -- edge-06-const-squared
    vector
    (expression (bin 2 mul (leaf 0 (cell const 1 0)) (leaf 1 (cell const 1 0))) false false false ∷ [])
    (0 ∷ []) 3 4 1000000
    (0 ∷ 1 ∷ 4 ∷ []) ∷
    -- edge-06-const-times-a-cube
    vector
    (expression (bin 6 mul (leaf 0 (cell const 1 0)) (bin 5 mul (bin 3 mul (leaf 1 (cell cm 0 0)) (leaf 2 (cell cm 1 0))) (leaf 4 (cell cm 2 0)))) false false false ∷ [])
    (0 ∷ []) 3 4 1000000
    (13 ∷ []) ∷
    -- edge-06-const-a-cube-times
    vector
    (expression (bin 6 mul (bin 2 mul (leaf 0 (cell cm 0 0)) (leaf 1 (cell cm 1 0))) (bin 5 add (leaf 3 (cell const 1 0)) (leaf 4 (cell cm 2 0)))) false false false ∷ [])
    (0 ∷ []) 3 4 1000000
    (0 ∷ 2 ∷ 18 ∷ []) ∷
    -- edge-06-q-bare
    vector
    (expression (leaf 0 (cell q 1 0)) false false false ∷ [])
    (0 ∷ []) 3 4 1000000
    (6 ∷ []) ∷
    -- edge-06-q-summed
    vector
    (expression (bin 2 add (leaf 0 (cell cm 0 0)) (leaf 1 (cell q 1 0))) false false false ∷ [])
    (0 ∷ []) 3 4 1000000
    (6 ∷ []) ∷
    -- edge-06-q-times-a-number
    vector
    (expression (bin 2 mul (leaf 0 (cell q 1 0)) (leaf 1 (number (lit false 3)))) false false false ∷ [])
    (0 ∷ []) 3 4 1000000
    (6 ∷ []) ∷
    -- edge-06-q-squared
    vector
    (expression (bin 2 mul (leaf 0 (cell q 1 0)) (leaf 1 (cell q 1 0))) false false false ∷ [])
    (0 ∷ []) 3 4 1000000
    (6 ∷ []) ∷
    -- edge-06-q-times-a-cube
    vector
    (expression (bin 6 mul (leaf 0 (cell q 1 0)) (bin 5 mul (bin 3 mul (leaf 1 (cell cm 0 0)) (leaf 2 (cell cm 1 0))) (leaf 4 (cell cm 2 0)))) false false false ∷ [])
    (0 ∷ []) 3 4 1000000
    (6 ∷ []) ∷
    -- edge-06-q-a-cube-times
    vector
    (expression (bin 6 mul (bin 2 mul (leaf 0 (cell cm 0 0)) (leaf 1 (cell cm 1 0))) (bin 5 add (leaf 3 (cell q 1 0)) (leaf 4 (cell cm 2 0)))) false false false ∷ [])
    (0 ∷ []) 3 4 1000000
    (6 ∷ []) ∷
    -- edge-06-public-bare
    vector
    (expression (leaf 0 (flat public 1)) false false false ∷ [])
    (0 ∷ []) 3 4 1000000
    (14 ∷ []) ∷
    -- edge-06-public-summed
    vector
    (expression (bin 2 add (leaf 0 (cell cm 0 0)) (leaf 1 (flat public 1))) false false false ∷ [])
    (0 ∷ []) 3 4 1000000
    (0 ∷ 0 ∷ 8 ∷ []) ∷
    -- edge-06-public-times-a-number
    vector
    (expression (bin 2 mul (leaf 0 (flat public 1)) (leaf 1 (number (lit false 3)))) false false false ∷ [])
    (0 ∷ []) 3 4 1000000
    (14 ∷ []) ∷
    -- edge-06-public-squared
    vector
    (expression (bin 2 mul (leaf 0 (flat public 1)) (leaf 1 (flat public 1))) false false false ∷ [])
    (0 ∷ []) 3 4 1000000
    (14 ∷ []) ∷
    -- edge-06-public-times-a-cube
    vector
    (expression (bin 6 mul (leaf 0 (flat public 1)) (bin 5 mul (bin 3 mul (leaf 1 (cell cm 0 0)) (leaf 2 (cell cm 1 0))) (leaf 4 (cell cm 2 0)))) false false false ∷ [])
    (0 ∷ []) 3 4 1000000
    (0 ∷ 2 ∷ 18 ∷ []) ∷
    -- edge-06-public-a-cube-times
    vector
    (expression (bin 6 mul (bin 2 mul (leaf 0 (cell cm 0 0)) (leaf 1 (cell cm 1 0))) (bin 5 add (leaf 3 (flat public 1)) (leaf 4 (cell cm 2 0)))) false false false ∷ [])
    (0 ∷ []) 3 4 1000000
    (0 ∷ 2 ∷ 18 ∷ []) ∷
    -- edge-06-challenge-bare
    vector
    (expression (leaf 0 (flat challenge 1)) false false false ∷ [])
    (0 ∷ []) 3 4 1000000
    (14 ∷ []) ∷
    -- edge-06-challenge-summed
    vector
    (expression (bin 2 add (leaf 0 (cell cm 0 0)) (leaf 1 (flat challenge 1))) false false false ∷ [])
    (0 ∷ []) 3 4 1000000
    (0 ∷ 0 ∷ 8 ∷ []) ∷
    -- edge-06-challenge-times-a-number
    vector
    (expression (bin 2 mul (leaf 0 (flat challenge 1)) (leaf 1 (number (lit false 3)))) false false false ∷ [])
    (0 ∷ []) 3 4 1000000
    (14 ∷ []) ∷
    -- edge-06-challenge-squared
    vector
    (expression (bin 2 mul (leaf 0 (flat challenge 1)) (leaf 1 (flat challenge 1))) false false false ∷ [])
    (0 ∷ []) 3 4 1000000
    (14 ∷ []) ∷
    -- edge-06-challenge-times-a-cube
    vector
    (expression (bin 6 mul (leaf 0 (flat challenge 1)) (bin 5 mul (bin 3 mul (leaf 1 (cell cm 0 0)) (leaf 2 (cell cm 1 0))) (leaf 4 (cell cm 2 0)))) false false false ∷ [])
    (0 ∷ []) 3 4 1000000
    (0 ∷ 2 ∷ 18 ∷ []) ∷
    -- edge-06-challenge-a-cube-times
    vector
    (expression (bin 6 mul (bin 2 mul (leaf 0 (cell cm 0 0)) (leaf 1 (cell cm 1 0))) (bin 5 add (leaf 3 (flat challenge 1)) (leaf 4 (cell cm 2 0)))) false false false ∷ [])
    (0 ∷ []) 3 4 1000000
    (0 ∷ 2 ∷ 18 ∷ []) ∷
    -- edge-06-eval-bare
    vector
    (expression (leaf 0 (flat eval 1)) false false false ∷ [])
    (0 ∷ []) 3 4 1000000
    (6 ∷ []) ∷
    -- edge-06-eval-summed
    vector
    (expression (bin 2 add (leaf 0 (cell cm 0 0)) (leaf 1 (flat eval 1))) false false false ∷ [])
    (0 ∷ []) 3 4 1000000
    (6 ∷ []) ∷
    -- edge-06-eval-times-a-number
    vector
    (expression (bin 2 mul (leaf 0 (flat eval 1)) (leaf 1 (number (lit false 3)))) false false false ∷ [])
    (0 ∷ []) 3 4 1000000
    (6 ∷ []) ∷
    -- edge-06-eval-squared
    vector
    (expression (bin 2 mul (leaf 0 (flat eval 1)) (leaf 1 (flat eval 1))) false false false ∷ [])
    (0 ∷ []) 3 4 1000000
    (14 ∷ []) ∷
    -- edge-06-eval-times-a-cube
    vector
    (expression (bin 6 mul (leaf 0 (flat eval 1)) (bin 5 mul (bin 3 mul (leaf 1 (cell cm 0 0)) (leaf 2 (cell cm 1 0))) (leaf 4 (cell cm 2 0)))) false false false ∷ [])
    (0 ∷ []) 3 4 1000000
    (6 ∷ []) ∷
    -- edge-06-eval-a-cube-times
    vector
    (expression (bin 6 mul (bin 2 mul (leaf 0 (cell cm 0 0)) (leaf 1 (cell cm 1 0))) (bin 5 add (leaf 3 (flat eval 1)) (leaf 4 (cell cm 2 0)))) false false false ∷ [])
    (0 ∷ []) 3 4 1000000
    (6 ∷ []) ∷
    -- edge-06-xDivXSubXi-bare
    vector
    (expression (leaf 0 (x x_div_x_sub_xi)) false false false ∷ [])
    (0 ∷ []) 3 4 1000000
    (6 ∷ []) ∷
    -- edge-06-xDivXSubXi-summed
    vector
    (expression (bin 2 add (leaf 0 (cell cm 0 0)) (leaf 1 (x x_div_x_sub_xi))) false false false ∷ [])
    (0 ∷ []) 3 4 1000000
    (6 ∷ []) ∷
    -- edge-06-xDivXSubXi-times-a-number
    vector
    (expression (bin 2 mul (leaf 0 (x x_div_x_sub_xi)) (leaf 1 (number (lit false 3)))) false false false ∷ [])
    (0 ∷ []) 3 4 1000000
    (6 ∷ []) ∷
    -- edge-06-xDivXSubXi-squared
    vector
    (expression (bin 2 mul (leaf 0 (x x_div_x_sub_xi)) (leaf 1 (x x_div_x_sub_xi))) false false false ∷ [])
    (0 ∷ []) 3 4 1000000
    (6 ∷ []) ∷
    -- edge-06-xDivXSubXi-times-a-cube
    vector
    (expression (bin 6 mul (leaf 0 (x x_div_x_sub_xi)) (bin 5 mul (bin 3 mul (leaf 1 (cell cm 0 0)) (leaf 2 (cell cm 1 0))) (leaf 4 (cell cm 2 0)))) false false false ∷ [])
    (0 ∷ []) 3 4 1000000
    (6 ∷ []) ∷
    -- edge-06-xDivXSubXi-a-cube-times
    vector
    (expression (bin 6 mul (bin 2 mul (leaf 0 (cell cm 0 0)) (leaf 1 (cell cm 1 0))) (bin 5 add (leaf 3 (x x_div_x_sub_xi)) (leaf 4 (cell cm 2 0)))) false false false ∷ [])
    (0 ∷ []) 3 4 1000000
    (6 ∷ []) ∷
    -- edge-06-xDivXSubWXi-bare
    vector
    (expression (leaf 0 (x x_div_x_sub_w_xi)) false false false ∷ [])
    (0 ∷ []) 3 4 1000000
    (6 ∷ []) ∷
    -- edge-06-xDivXSubWXi-summed
    vector
    (expression (bin 2 add (leaf 0 (cell cm 0 0)) (leaf 1 (x x_div_x_sub_w_xi))) false false false ∷ [])
    (0 ∷ []) 3 4 1000000
    (6 ∷ []) ∷
    -- edge-06-xDivXSubWXi-times-a-number
    vector
    (expression (bin 2 mul (leaf 0 (x x_div_x_sub_w_xi)) (leaf 1 (number (lit false 3)))) false false false ∷ [])
    (0 ∷ []) 3 4 1000000
    (6 ∷ []) ∷
    -- edge-06-xDivXSubWXi-squared
    vector
    (expression (bin 2 mul (leaf 0 (x x_div_x_sub_w_xi)) (leaf 1 (x x_div_x_sub_w_xi))) false false false ∷ [])
    (0 ∷ []) 3 4 1000000
    (6 ∷ []) ∷
    -- edge-06-xDivXSubWXi-times-a-cube
    vector
    (expression (bin 6 mul (leaf 0 (x x_div_x_sub_w_xi)) (bin 5 mul (bin 3 mul (leaf 1 (cell cm 0 0)) (leaf 2 (cell cm 1 0))) (leaf 4 (cell cm 2 0)))) false false false ∷ [])
    (0 ∷ []) 3 4 1000000
    (6 ∷ []) ∷
    -- edge-06-xDivXSubWXi-a-cube-times
    vector
    (expression (bin 6 mul (bin 2 mul (leaf 0 (cell cm 0 0)) (leaf 1 (cell cm 1 0))) (bin 5 add (leaf 3 (x x_div_x_sub_w_xi)) (leaf 4 (cell cm 2 0)))) false false false ∷ [])
    (0 ∷ []) 3 4 1000000
    (6 ∷ []) ∷
    -- edge-06-x-bare
    vector
    (expression (leaf 0 (x plain_x)) false false false ∷ [])
    (0 ∷ []) 3 4 1000000
    (0 ∷ 0 ∷ 4 ∷ []) ∷
    -- edge-06-x-summed
    vector
    (expression (bin 2 add (leaf 0 (cell cm 0 0)) (leaf 1 (x plain_x))) false false false ∷ [])
    (0 ∷ []) 3 4 1000000
    (0 ∷ 0 ∷ 8 ∷ []) ∷
    -- edge-06-x-times-a-number
    vector
    (expression (bin 2 mul (leaf 0 (x plain_x)) (leaf 1 (number (lit false 3)))) false false false ∷ [])
    (0 ∷ []) 3 4 1000000
    (0 ∷ 0 ∷ 6 ∷ []) ∷
    -- edge-06-x-squared
    vector
    (expression (bin 2 mul (leaf 0 (x plain_x)) (leaf 1 (x plain_x))) false false false ∷ [])
    (0 ∷ []) 3 4 1000000
    (0 ∷ 1 ∷ 4 ∷ []) ∷
    -- edge-06-x-times-a-cube
    vector
    (expression (bin 6 mul (leaf 0 (x plain_x)) (bin 5 mul (bin 3 mul (leaf 1 (cell cm 0 0)) (leaf 2 (cell cm 1 0))) (leaf 4 (cell cm 2 0)))) false false false ∷ [])
    (0 ∷ []) 3 4 1000000
    (13 ∷ []) ∷
    -- edge-06-x-a-cube-times
    vector
    (expression (bin 6 mul (bin 2 mul (leaf 0 (cell cm 0 0)) (leaf 1 (cell cm 1 0))) (bin 5 add (leaf 3 (x plain_x)) (leaf 4 (cell cm 2 0)))) false false false ∷ [])
    (0 ∷ []) 3 4 1000000
    (0 ∷ 2 ∷ 18 ∷ []) ∷
    -- edge-06-a-muladd
    vector
    (expression (bin 2 mul (leaf 0 (cell cm 0 0)) (leaf 1 (cell cm 1 0))) false false false ∷ expression (muladd 6 (leaf 3 (cell cm 0 0)) (leaf 4 (cell cm 1 0)) (leaf 5 (cell cm 2 0))) false false false ∷ [])
    (1 ∷ []) 3 4 1000000
    (6 ∷ []) ∷
    -- edge-06-a-muladd-in-a-product
    vector
    (expression (bin 2 mul (leaf 0 (cell cm 0 0)) (leaf 1 (cell cm 1 0))) false false false ∷ expression (bin 8 mul (muladd 6 (leaf 3 (cell cm 0 0)) (leaf 4 (cell cm 1 0)) (leaf 5 (cell cm 2 0))) (leaf 7 (cell cm 3 0))) false false false ∷ [])
    (1 ∷ []) 3 4 1000000
    (6 ∷ []) ∷
    -- edge-06-a-muladd-in-a-product-that-is-split
    vector
    (expression (bin 2 mul (leaf 0 (cell cm 0 0)) (leaf 1 (cell cm 1 0))) false false false ∷ expression (bin 8 mul (muladd 6 (leaf 3 (cell cm 0 0)) (leaf 4 (cell cm 1 0)) (leaf 5 (cell cm 2 0))) (leaf 7 (cell cm 3 0))) false false false ∷ [])
    (1 ∷ []) 3 3 1000000
    (6 ∷ []) ∷
    -- edge-06-a-muladd-larger-by-its-third
    vector
    (expression (bin 2 mul (leaf 0 (cell cm 0 0)) (leaf 1 (cell cm 1 0))) false false false ∷ expression (bin 12 mul (muladd 10 (leaf 3 (cell cm 0 0)) (leaf 4 (number (lit false 1))) (bin 9 mul (bin 7 mul (leaf 5 (cell cm 0 0)) (leaf 6 (cell cm 1 0))) (leaf 8 (cell cm 2 0)))) (leaf 11 (number (lit false 0)))) false false false ∷ [])
    (1 ∷ []) 3 5 1000000
    (6 ∷ []) ∷
    -- edge-06-full-degree-of-a-muladd
    vector
    (expression (bin 2 mul (leaf 0 (cell cm 0 0)) (leaf 1 (cell cm 1 0))) false false false ∷ expression (bin 12 mul (muladd 10 (leaf 3 (cell cm 0 0)) (leaf 4 (number (lit false 1))) (bin 9 mul (bin 7 mul (leaf 5 (cell cm 0 0)) (leaf 6 (cell cm 1 0))) (leaf 8 (cell cm 2 0)))) (leaf 11 (cell cm 3 0))) false false false ∷ [])
    (1 ∷ []) 3 5 1000000
    (6 ∷ []) ∷
    -- edge-06-a-muladd-that-a-full-degree-reads
    vector
    (expression (bin 2 mul (leaf 0 (cell cm 0 0)) (leaf 1 (cell cm 1 0))) false false false ∷ expression (bin 8 mul (muladd 6 (leaf 3 (number (lit false 1))) (leaf 4 (number (lit false 2))) (leaf 5 (cell cm 0 0))) (leaf 7 (cell cm 1 0))) false false false ∷ [])
    (1 ∷ []) 3 3 1000000
    (0 ∷ 1 ∷ 2 ∷ []) ∷
    -- edge-06-a-muladd-by-eval
    vector
    (expression (bin 2 mul (leaf 0 (cell cm 0 0)) (leaf 1 (cell cm 1 0))) false false false ∷ expression (bin 8 mul (muladd 6 (leaf 3 (cell cm 0 0)) (leaf 4 (cell cm 1 0)) (leaf 5 (number (lit false 2)))) (leaf 7 (flat eval 0))) false false false ∷ [])
    (1 ∷ []) 3 4 1000000
    (0 ∷ 1 ∷ 4 ∷ []) ∷
    -- edge-06-a-muladd-by-an-expression
    vector
    (expression (bin 2 mul (leaf 0 (cell cm 0 0)) (leaf 1 (cell cm 1 0))) false false false ∷ expression (bin 8 mul (muladd 6 (leaf 3 (exp 0 0)) (leaf 4 (number (lit false 1))) (leaf 5 (x plain_x))) (leaf 7 (number (lit false 0)))) false false false ∷ [])
    (1 ∷ []) 3 4 1000000
    (6 ∷ []) ∷
    -- edge-06-a-difference
    vector
    (expression (bin 2 mul (leaf 0 (cell cm 0 0)) (leaf 1 (cell cm 1 0))) false false false ∷ expression (bin 7 sub (leaf 3 (exp 0 0)) (bin 6 mul (leaf 4 (exp 0 0)) (leaf 5 (cell cm 2 0)))) false false false ∷ [])
    (1 ∷ []) 3 3 1000000
    (0 ∷ 1 ∷ 13 ∷ 0 ∷ []) ∷
    -- edge-06-a-negation
    vector
    (expression (bin 2 mul (leaf 0 (cell cm 0 0)) (leaf 1 (cell cm 1 0))) false false false ∷ expression (neg 6 (bin 5 mul (leaf 3 (exp 0 0)) (leaf 4 (cell cm 2 0)))) false false false ∷ [])
    (1 ∷ []) 3 3 1000000
    (0 ∷ 1 ∷ 11 ∷ 0 ∷ []) ∷
    -- edge-06-a-literal-added
    vector
    (expression (bin 2 mul (leaf 0 (cell cm 0 0)) (leaf 1 (cell cm 1 0))) false false false ∷ expression (binc 7 addc (bin 6 mul (leaf 3 (exp 0 0)) (binc 5 addc (leaf 4 (cell cm 2 0)) (lit false 5))) (lit true 1)) false false false ∷ [])
    (1 ∷ []) 3 3 1000000
    (0 ∷ 1 ∷ 13 ∷ 0 ∷ []) ∷
    -- edge-06-a-literal-times
    vector
    (expression (bin 2 mul (leaf 0 (cell cm 0 0)) (leaf 1 (cell cm 1 0))) false false false ∷ expression (binc 7 mulc (bin 6 mul (leaf 3 (exp 0 0)) (binc 5 mulc (leaf 4 (cell cm 2 0)) (lit false 5))) (lit true 1)) false false false ∷ [])
    (1 ∷ []) 3 3 1000000
    (0 ∷ 1 ∷ 13 ∷ 0 ∷ []) ∷
    -- edge-06-a-public-first
    vector
    (expression (bin 2 mul (leaf 0 (cell cm 0 0)) (leaf 1 (cell cm 1 0))) false false false ∷ expression (bin 7 mul (leaf 3 (flat public 0)) (bin 6 mul (leaf 4 (exp 0 0)) (leaf 5 (cell cm 2 0)))) false false false ∷ [])
    (1 ∷ []) 3 3 1000000
    (0 ∷ 1 ∷ 11 ∷ 0 ∷ []) ∷
    -- edge-06-a-challenge-second
    vector
    (expression (bin 2 mul (leaf 0 (cell cm 0 0)) (leaf 1 (cell cm 1 0))) false false false ∷ expression (bin 7 mul (bin 5 mul (leaf 3 (exp 0 0)) (leaf 4 (cell cm 2 0))) (leaf 6 (flat challenge 0))) false false false ∷ [])
    (1 ∷ []) 3 3 1000000
    (0 ∷ 1 ∷ 11 ∷ 0 ∷ []) ∷
    -- edge-06-two-numbers
    vector
    (expression (bin 2 mul (leaf 0 (cell cm 0 0)) (leaf 1 (cell cm 1 0))) false false false ∷ expression (bin 5 mul (leaf 3 (number (lit false 2))) (leaf 4 (number (lit false 3)))) false false false ∷ [])
    (1 ∷ []) 3 3 1000000
    (14 ∷ []) ∷
    -- edge-06-numbers-and-x
    vector
    (expression (bin 2 mul (leaf 0 (cell cm 0 0)) (leaf 1 (cell cm 1 0))) false false false ∷ expression (bin 7 mul (leaf 3 (number (lit false 2))) (bin 6 mul (leaf 4 (x plain_x)) (leaf 5 (cell const 0 0)))) false false false ∷ [])
    (1 ∷ []) 3 3 1000000
    (0 ∷ 1 ∷ 3 ∷ []) ∷
    -- edge-13-2-factors-0-bits
    vector
    (expression (bin 2 mul (leaf 0 (cell cm 0 0)) (leaf 1 (cell cm 1 0))) false false false ∷ [])
    (0 ∷ []) 3 3 1000000
    (0 ∷ 1 ∷ 2 ∷ []) ∷
    -- edge-13-3-factors-0-bits
    vector
    (expression (bin 4 mul (bin 2 mul (leaf 0 (cell cm 0 0)) (leaf 1 (cell cm 1 0))) (leaf 3 (cell cm 2 0))) false false false ∷ [])
    (0 ∷ []) 3 3 1000000
    (13 ∷ []) ∷
    -- edge-13-3-factors-1-bits
    vector
    (expression (bin 4 mul (bin 2 mul (leaf 0 (cell cm 0 0)) (leaf 1 (cell cm 1 0))) (leaf 3 (cell cm 2 0))) false false false ∷ [])
    (0 ∷ []) 3 4 1000000
    (0 ∷ 2 ∷ 16 ∷ []) ∷
    -- edge-13-4-factors-1-bits
    vector
    (expression (bin 6 mul (bin 4 mul (bin 2 mul (leaf 0 (cell cm 0 0)) (leaf 1 (cell cm 1 0))) (leaf 3 (cell cm 2 0))) (leaf 5 (cell cm 3 0))) false false false ∷ [])
    (0 ∷ []) 3 4 1000000
    (13 ∷ []) ∷
    -- edge-13-5-factors-2-bits
    vector
    (expression (bin 8 mul (bin 6 mul (bin 4 mul (bin 2 mul (leaf 0 (cell cm 0 0)) (leaf 1 (cell cm 1 0))) (leaf 3 (cell cm 2 0))) (leaf 5 (cell cm 3 0))) (leaf 7 (cell cm 4 0))) false false false ∷ [])
    (0 ∷ []) 3 5 1000000
    (0 ∷ 4 ∷ 268 ∷ []) ∷
    -- edge-13-6-factors-2-bits
    vector
    (expression (bin 10 mul (bin 8 mul (bin 6 mul (bin 4 mul (bin 2 mul (leaf 0 (cell cm 0 0)) (leaf 1 (cell cm 1 0))) (leaf 3 (cell cm 2 0))) (leaf 5 (cell cm 3 0))) (leaf 7 (cell cm 4 0))) (leaf 9 (cell cm 5 0))) false false false ∷ [])
    (0 ∷ []) 3 5 1000000
    (13 ∷ []) ∷
    -- edge-13-nineteen-members
    vector
    (expression (bin 2 mul (leaf 0 (cell cm 0 0)) (leaf 1 (cell cm 1 0))) false false false ∷ expression (bin 5 mul (leaf 3 (exp 0 0)) (leaf 4 (cell cm 2 0))) false false false ∷ expression (bin 8 mul (leaf 6 (exp 1 0)) (leaf 7 (cell cm 3 0))) false false false ∷ expression (bin 11 mul (leaf 9 (exp 2 0)) (leaf 10 (cell cm 4 0))) false false false ∷ expression (bin 14 mul (leaf 12 (exp 3 0)) (leaf 13 (cell cm 5 0))) false false false ∷ expression (bin 17 mul (leaf 15 (exp 4 0)) (leaf 16 (cell cm 6 0))) false false false ∷ expression (bin 20 mul (leaf 18 (exp 5 0)) (leaf 19 (cell cm 7 0))) false false false ∷ expression (bin 23 mul (leaf 21 (exp 6 0)) (leaf 22 (cell cm 8 0))) false false false ∷ expression (bin 26 mul (leaf 24 (exp 7 0)) (leaf 25 (cell cm 9 0))) false false false ∷ expression (bin 29 mul (leaf 27 (exp 8 0)) (leaf 28 (cell cm 10 0))) false false false ∷ expression (bin 32 mul (leaf 30 (exp 9 0)) (leaf 31 (cell cm 11 0))) false false false ∷ expression (bin 35 mul (leaf 33 (exp 10 0)) (leaf 34 (cell cm 12 0))) false false false ∷ expression (bin 38 mul (leaf 36 (exp 11 0)) (leaf 37 (cell cm 13 0))) false false false ∷ expression (bin 41 mul (leaf 39 (exp 12 0)) (leaf 40 (cell cm 14 0))) false false false ∷ expression (bin 44 mul (leaf 42 (exp 13 0)) (leaf 43 (cell cm 15 0))) false false false ∷ expression (bin 47 mul (leaf 45 (exp 14 0)) (leaf 46 (cell cm 16 0))) false false false ∷ expression (bin 50 mul (leaf 48 (exp 15 0)) (leaf 49 (cell cm 17 0))) false false false ∷ expression (bin 53 mul (leaf 51 (exp 16 0)) (leaf 52 (cell cm 18 0))) false false false ∷ expression (bin 56 mul (leaf 54 (exp 17 0)) (leaf 55 (cell cm 19 0))) false false false ∷ expression (bin 59 mul (leaf 57 (exp 18 0)) (leaf 58 (cell cm 20 0))) false false false ∷ [])
    (0 ∷ 1 ∷ 2 ∷ 3 ∷ 4 ∷ 5 ∷ 6 ∷ 7 ∷ 8 ∷ 9 ∷ 10 ∷ 11 ∷ 12 ∷ 13 ∷ 14 ∷ 15 ∷ 16 ∷ 17 ∷ 18 ∷ 19 ∷ []) 3 3 1000000
    (0 ∷ 1 ∷ 374 ∷ 0 ∷ 1 ∷ 2 ∷ 3 ∷ 4 ∷ 5 ∷ 6 ∷ 7 ∷ 8 ∷ 9 ∷ 10 ∷ 11 ∷ 12 ∷ 13 ∷ 14 ∷ 15 ∷ 16 ∷ 17 ∷ 18 ∷ []) ∷
    -- edge-13-a-chain-of-six
    vector
    (expression (bin 2 mul (leaf 0 (cell cm 0 0)) (leaf 1 (cell cm 1 0))) false false false ∷ expression (bin 5 mul (leaf 3 (exp 0 0)) (leaf 4 (cell cm 2 0))) false false false ∷ expression (bin 8 mul (leaf 6 (exp 1 0)) (leaf 7 (cell cm 3 0))) false false false ∷ expression (bin 11 mul (leaf 9 (exp 2 0)) (leaf 10 (cell cm 4 0))) false false false ∷ expression (bin 14 mul (leaf 12 (exp 3 0)) (leaf 13 (cell cm 5 0))) false false false ∷ expression (bin 17 mul (leaf 15 (exp 4 0)) (leaf 16 (cell cm 6 0))) false false false ∷ expression (bin 20 mul (leaf 18 (exp 5 0)) (leaf 19 (cell cm 7 0))) false false false ∷ [])
    (6 ∷ []) 3 3 1000000
    (0 ∷ 1 ∷ 506 ∷ 0 ∷ 1 ∷ 2 ∷ 3 ∷ 4 ∷ 5 ∷ []) ∷
    -- edge-13-a-chain-of-five-and-two-bits
    vector
    (expression (bin 2 mul (leaf 0 (cell cm 0 0)) (leaf 1 (cell cm 1 0))) false false false ∷ expression (bin 5 mul (leaf 3 (exp 0 0)) (leaf 4 (cell cm 2 0))) false false false ∷ expression (bin 8 mul (leaf 6 (exp 1 0)) (leaf 7 (cell cm 3 0))) false false false ∷ expression (bin 11 mul (leaf 9 (exp 2 0)) (leaf 10 (cell cm 4 0))) false false false ∷ expression (bin 14 mul (leaf 12 (exp 3 0)) (leaf 13 (cell cm 5 0))) false false false ∷ expression (bin 17 mul (leaf 15 (exp 4 0)) (leaf 16 (cell cm 6 0))) false false false ∷ [])
    (5 ∷ []) 3 5 1000000
    (0 ∷ 2 ∷ 1092 ∷ 1 ∷ 3 ∷ []) ∷
    -- edge-14-numbers-only
    vector
    (expression (neg 5 (bin 4 add (leaf 0 (number (lit false 1))) (bin 3 mul (leaf 1 (number (lit false 2))) (leaf 2 (flat public 3))))) false false false ∷ [])
    (0 ∷ []) 3 7 1000000
    (14 ∷ []) ∷
    -- edge-14-numbers-by-way-of-a-leaf
    vector
    (expression (neg 5 (bin 4 add (leaf 0 (number (lit false 1))) (bin 3 mul (leaf 1 (number (lit false 2))) (leaf 2 (flat public 3))))) false false false ∷ expression (leaf 6 (exp 0 0)) false false false ∷ [])
    (1 ∷ 1 ∷ []) 3 4 1000000
    (14 ∷ []) ∷
    []

-- THE DEFINITIONS GIVE THE ORIGINAL'S ANSWERS
pub all-agree : agree vectors ≡ true
unfolding search full_table vectors
all-agree = refl
