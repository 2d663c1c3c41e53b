-- The 84 vectors of the family g, made by tools/vectors_to_antt.py.
-- Assumes nothing.
use Rattle.std.specs.Prelude.{◌≡◌, refl, true, false, List, [], ◌∷◌}
use Rattle.std.proofs.Math.Option.{none, some}
use Rattle.meaning.specs.Trees.{lit, cm, const, q, public, challenge, eval, x_div_x_sub_xi, x_div_x_sub_w_xi, plain_x, add, sub, mul, addc, mulc, cell, exp, leaf, bin, muladd, binc, neg}
use Rattle.meaning.specs.Steps.{Zi, tree1, tree2, tree3, tree4, Z, Kind}
use Rattle.meaning.specs.Generation.{result}
use Rattle.replay_meaning.specs.Replay.{Vector, vector, ask, build, expression, agree}

unfoldable pub vectors : List Vector
vectors =
    -- g01-double-prime
    vector
    (expression (bin 2 mul (leaf 0 (cell cm 0 0)) (leaf 1 (cell cm 1 0))) false false false ∷ expression (leaf 3 (cell cm 2 1)) false false false ∷ expression (bin 6 add (leaf 4 (exp 0 0)) (leaf 5 (exp 1 0))) false false false ∷ [])
    (ask 2 1 false none ∷ [])
    (5 ∷ []) ∷
    -- g01-double-prime-plain
    vector
    (expression (bin 2 mul (leaf 0 (cell cm 0 0)) (leaf 1 (cell cm 1 0))) false false false ∷ expression (leaf 3 (cell cm 2 1)) false false false ∷ expression (bin 6 add (leaf 4 (exp 0 0)) (leaf 5 (exp 1 0))) false false false ∷ [])
    (ask 2 0 false none ∷ build ∷ [])
    (0 ∷ 0 ∷ 0b1111 ∷ 0b1000 ∷ 3 ∷ 1 ∷ 16777217 ∷ 33554433 ∷ 3 ∷ 0x0312000000021000000010000100 ∷ 0x08120001000110000201 ∷ 0x0112000200021200000012000100 ∷ 3 ∷ 0x0312000000021000000010000100 ∷ 0x08120001000110000201 ∷ 0x0112000200021200000012000100 ∷ 3 ∷ 0x0312000000021000000010000100 ∷ 0x08120001000110000201 ∷ 0x0112000200021200000012000100 ∷ 0 ∷ 0b1111 ∷ 0b1111 ∷ []) ∷
    -- g01-double-prime-later
    vector
    (expression (bin 2 mul (leaf 0 (cell cm 0 0)) (leaf 1 (cell cm 1 0))) false false false ∷ expression (leaf 3 (cell cm 2 1)) false false false ∷ expression (bin 6 add (leaf 4 (exp 0 0)) (leaf 5 (exp 1 0))) false false false ∷ [])
    (ask 2 0 false none ∷ ask 0 0 false none ∷ ask 2 1 false none ∷ [])
    (0 ∷ 0 ∷ 0b1111 ∷ 0b1000 ∷ 3 ∷ 1 ∷ 16777217 ∷ 33554433 ∷ 0 ∷ 0 ∷ 0b1111 ∷ 0b1000 ∷ 3 ∷ 1 ∷ 16777217 ∷ 33554433 ∷ 5 ∷ []) ∷
    -- g01-double-prime-exp
    vector
    (expression (bin 2 mul (leaf 0 (cell cm 0 0)) (leaf 1 (exp 1 1))) false false false ∷ expression (leaf 3 (cell cm 1 0)) false false false ∷ [])
    (ask 0 0 false none ∷ ask 0 1 false none ∷ [])
    (0 ∷ 0 ∷ 0b110 ∷ 0b101 ∷ 2 ∷ 16842753 ∷ 1 ∷ 5 ∷ []) ∷
    -- g01-double-prime-through-next
    vector
    (expression (leaf 0 (cell cm 0 1)) false false false ∷ expression (leaf 1 (exp 0 1)) false false false ∷ expression (leaf 2 (exp 1 0)) false false false ∷ [])
    (ask 0 0 false none ∷ ask 2 0 false none ∷ [])
    (0 ∷ 0 ∷ 0b1100 ∷ 0b1000 ∷ 1 ∷ 1 ∷ 5 ∷ []) ∷
    -- g01-primed-result
    vector
    (expression (bin 2 mul (leaf 0 (cell cm 0 0)) (leaf 1 (cell cm 1 0))) false false false ∷ expression (leaf 3 (cell cm 2 1)) false false false ∷ expression (bin 6 add (leaf 4 (exp 0 0)) (leaf 5 (exp 1 0))) false false false ∷ [])
    (ask 0 1 false (some (result Kind.f 0)) ∷ [])
    (7 ∷ []) ∷
    -- g01-primed-result-after-plain
    vector
    (expression (bin 2 mul (leaf 0 (cell cm 0 0)) (leaf 1 (cell cm 1 0))) false false false ∷ expression (leaf 3 (cell cm 2 1)) false false false ∷ expression (bin 6 add (leaf 4 (exp 0 0)) (leaf 5 (exp 1 0))) false false false ∷ [])
    (ask 0 0 false none ∷ ask 0 1 false (some (result (Kind.row q) 1)) ∷ [])
    (0 ∷ 0 ∷ 0b1100 ∷ 0b1000 ∷ 1 ∷ 1 ∷ 7 ∷ []) ∷
    -- g01-double-prime-before-result
    vector
    (expression (bin 2 mul (leaf 0 (cell cm 0 0)) (leaf 1 (cell cm 1 0))) false false false ∷ expression (leaf 3 (cell cm 2 1)) false false false ∷ expression (bin 6 add (leaf 4 (exp 0 0)) (leaf 5 (exp 1 0))) false false false ∷ [])
    (ask 2 1 false (some (result Kind.f 0)) ∷ [])
    (5 ∷ []) ∷
    -- g01-no-expression
    vector
    (expression (bin 2 mul (leaf 0 (cell cm 0 0)) (leaf 1 (cell cm 1 0))) false false false ∷ expression (leaf 3 (cell cm 2 1)) false false false ∷ expression (bin 6 add (leaf 4 (exp 0 0)) (leaf 5 (exp 1 0))) false false false ∷ [])
    (ask 3 0 false none ∷ [])
    (3 ∷ []) ∷
    -- g01-no-expression-late
    vector
    (expression (bin 2 mul (leaf 0 (cell cm 0 0)) (leaf 1 (cell cm 1 0))) false false false ∷ expression (leaf 3 (cell cm 2 1)) false false false ∷ expression (bin 6 add (leaf 4 (exp 0 0)) (leaf 5 (exp 1 0))) false false false ∷ [])
    (ask 0 0 false none ∷ build ∷ ask 65535 1 false none ∷ [])
    (0 ∷ 0 ∷ 0b1100 ∷ 0b1000 ∷ 1 ∷ 1 ∷ 1 ∷ 0x0312000000021000000010000100 ∷ 1 ∷ 0x0312000000021000000010000100 ∷ 1 ∷ 0x0312000000021000000010000100 ∷ 0 ∷ 0b1111 ∷ 0b1111 ∷ 3 ∷ []) ∷
    -- g01-no-expression-result
    vector
    (expression (bin 2 mul (leaf 0 (cell cm 0 0)) (leaf 1 (cell cm 1 0))) false false false ∷ expression (leaf 3 (cell cm 2 1)) false false false ∷ expression (bin 6 add (leaf 4 (exp 0 0)) (leaf 5 (exp 1 0))) false false false ∷ [])
    (ask 3 1 false (some (result Kind.f 0)) ∷ [])
    (3 ∷ []) ∷
    -- g02-unrelated-block
    vector
    (expression (bin 2 mul (leaf 0 (cell cm 0 0)) (leaf 1 (cell cm 1 0))) false false false ∷ expression (bin 5 add (leaf 3 (cell cm 2 0)) (leaf 4 (cell cm 3 0))) false false false ∷ expression (bin 8 sub (leaf 6 (cell cm 4 0)) (leaf 7 (cell cm 5 0))) true false false ∷ [])
    (ask 2 0 false none ∷ ask 2 1 false none ∷ ask 0 0 false none ∷ build ∷ [])
    (0 ∷ 0 ∷ 0b1001 ∷ 0b1000 ∷ 1 ∷ 33554433 ∷ 0 ∷ 0 ∷ 0b1001 ∷ 0b1001 ∷ 2 ∷ 33554433 ∷ 33619969 ∷ 0 ∷ 0 ∷ 0b1101 ∷ 0b1001 ∷ 3 ∷ 33554433 ∷ 33619969 ∷ 1 ∷ 3 ∷ 0x0212000200021000040010000500 ∷ 0x0212000201021000040110000501 ∷ 0x0312000000021000000010000100 ∷ 2 ∷ 0x0212000200021000040010000500 ∷ 0x0212000201021000040110000501 ∷ 2 ∷ 0x0212000200021000040010000500 ∷ 0x0212000201021000040110000501 ∷ 0 ∷ 0b1111 ∷ 0b1111 ∷ []) ∷
    -- g02-primed-block
    vector
    (expression (bin 2 mul (leaf 0 (cell cm 0 0)) (leaf 1 (cell cm 1 0))) false false false ∷ expression (bin 5 add (leaf 3 (cell cm 2 0)) (leaf 4 (cell cm 3 0))) false false false ∷ expression (bin 8 sub (leaf 6 (cell cm 4 0)) (leaf 7 (cell cm 5 0))) true false false ∷ [])
    (ask 2 0 false none ∷ ask 2 1 false none ∷ ask 0 1 false none ∷ build ∷ [])
    (0 ∷ 0 ∷ 0b1001 ∷ 0b1000 ∷ 1 ∷ 33554433 ∷ 0 ∷ 0 ∷ 0b1001 ∷ 0b1001 ∷ 2 ∷ 33554433 ∷ 33619969 ∷ 0 ∷ 0 ∷ 0b1001 ∷ 0b1101 ∷ 3 ∷ 33554433 ∷ 33619969 ∷ 65537 ∷ 3 ∷ 0x0212000200021000040010000500 ∷ 0x0212000201021000040110000501 ∷ 0x0312000001021000000110000101 ∷ 3 ∷ 0x0212000200021000040010000500 ∷ 0x0212000201021000040110000501 ∷ 0x0312000001021000000110000101 ∷ 2 ∷ 0x0212000200021000040010000500 ∷ 0x0212000201021000040110000501 ∷ 0 ∷ 0b1111 ∷ 0b1111 ∷ []) ∷
    -- g02-primed-first
    vector
    (expression (bin 2 mul (leaf 0 (cell cm 0 0)) (leaf 1 (cell cm 1 0))) false false false ∷ expression (bin 5 add (leaf 3 (cell cm 2 0)) (leaf 4 (cell cm 3 0))) false false false ∷ expression (bin 8 sub (leaf 6 (cell cm 4 0)) (leaf 7 (cell cm 5 0))) true false false ∷ [])
    (ask 2 1 false none ∷ ask 2 0 false none ∷ ask 1 0 false none ∷ ask 0 0 false none ∷ build ∷ [])
    (0 ∷ 0 ∷ 0b1000 ∷ 0b1001 ∷ 1 ∷ 33619969 ∷ 0 ∷ 0 ∷ 0b1001 ∷ 0b1001 ∷ 2 ∷ 33619969 ∷ 33554433 ∷ 0 ∷ 0 ∷ 0b1011 ∷ 0b1001 ∷ 3 ∷ 33619969 ∷ 33554433 ∷ 16777217 ∷ 0 ∷ 0 ∷ 0b1111 ∷ 0b1001 ∷ 4 ∷ 33619969 ∷ 33554433 ∷ 16777217 ∷ 1 ∷ 4 ∷ 0x0212000201021000040110000501 ∷ 0x0212000200021000040010000500 ∷ 0x0112000100021000020010000300 ∷ 0x0312000000021000000010000100 ∷ 3 ∷ 0x0212000201021000040110000501 ∷ 0x0212000200021000040010000500 ∷ 0x0312000000021000000010000100 ∷ 3 ∷ 0x0212000201021000040110000501 ∷ 0x0212000200021000040010000500 ∷ 0x0312000000021000000010000100 ∷ 0 ∷ 0b1111 ∷ 0b1111 ∷ []) ∷
    -- g02-own-block
    vector
    (expression (bin 2 mul (leaf 0 (cell cm 0 0)) (leaf 1 (cell cm 1 0))) false false false ∷ expression (bin 5 add (leaf 3 (cell cm 2 0)) (leaf 4 (cell cm 3 0))) false false false ∷ expression (bin 8 sub (leaf 6 (cell cm 4 0)) (leaf 7 (cell cm 5 0))) true false false ∷ [])
    (ask 0 0 false none ∷ ask 1 0 false none ∷ ask 2 0 false none ∷ ask 2 1 false none ∷ build ∷ [])
    (0 ∷ 0 ∷ 0b1100 ∷ 0b1000 ∷ 1 ∷ 1 ∷ 0 ∷ 0 ∷ 0b1110 ∷ 0b1000 ∷ 2 ∷ 1 ∷ 16777217 ∷ 0 ∷ 0 ∷ 0b1111 ∷ 0b1000 ∷ 3 ∷ 1 ∷ 16777217 ∷ 33554433 ∷ 0 ∷ 0 ∷ 0b1111 ∷ 0b1001 ∷ 4 ∷ 1 ∷ 16777217 ∷ 33554433 ∷ 33619969 ∷ 4 ∷ 0x0312000000021000000010000100 ∷ 0x0112000100021000020010000300 ∷ 0x0212000200021000040010000500 ∷ 0x0212000201021000040110000501 ∷ 3 ∷ 0x0312000000021000000010000100 ∷ 0x0112000100021000020010000300 ∷ 0x0212000201021000040110000501 ∷ 3 ∷ 0x0312000000021000000010000100 ∷ 0x0112000100021000020010000300 ∷ 0x0212000201021000040110000501 ∷ 0 ∷ 0b1111 ∷ 0b1111 ∷ []) ∷
    -- g02-own-primed-block
    vector
    (expression (bin 2 mul (leaf 0 (cell cm 0 0)) (leaf 1 (cell cm 1 0))) false false false ∷ expression (bin 5 add (leaf 3 (cell cm 2 0)) (leaf 4 (cell cm 3 0))) false false false ∷ expression (bin 8 sub (leaf 6 (cell cm 4 0)) (leaf 7 (cell cm 5 0))) true false false ∷ [])
    (ask 0 0 false none ∷ ask 1 0 false none ∷ ask 2 1 false none ∷ ask 2 0 false none ∷ build ∷ [])
    (0 ∷ 0 ∷ 0b1100 ∷ 0b1000 ∷ 1 ∷ 1 ∷ 0 ∷ 0 ∷ 0b1110 ∷ 0b1000 ∷ 2 ∷ 1 ∷ 16777217 ∷ 0 ∷ 0 ∷ 0b1110 ∷ 0b1001 ∷ 3 ∷ 1 ∷ 16777217 ∷ 33619969 ∷ 0 ∷ 0 ∷ 0b1111 ∷ 0b1001 ∷ 4 ∷ 1 ∷ 16777217 ∷ 33619969 ∷ 33554433 ∷ 4 ∷ 0x0312000000021000000010000100 ∷ 0x0112000100021000020010000300 ∷ 0x0212000201021000040110000501 ∷ 0x0212000200021000040010000500 ∷ 4 ∷ 0x0312000000021000000010000100 ∷ 0x0112000100021000020010000300 ∷ 0x0212000201021000040110000501 ∷ 0x0212000200021000040010000500 ∷ 3 ∷ 0x0312000000021000000010000100 ∷ 0x0112000100021000020010000300 ∷ 0x0212000200021000040010000500 ∷ 0 ∷ 0b1111 ∷ 0b1111 ∷ []) ∷
    -- g02-no-such-block
    vector
    (expression (bin 2 mul (leaf 0 (cell cm 0 0)) (leaf 1 (cell cm 1 0))) false false false ∷ expression (bin 5 add (leaf 3 (cell cm 2 0)) (leaf 4 (cell cm 3 0))) false false false ∷ expression (bin 8 sub (leaf 6 (cell cm 4 0)) (leaf 7 (cell cm 5 0))) true false false ∷ [])
    (ask 2 0 false none ∷ ask 2 1 false none ∷ build ∷ [])
    (0 ∷ 0 ∷ 0b1001 ∷ 0b1000 ∷ 1 ∷ 33554433 ∷ 0 ∷ 0 ∷ 0b1001 ∷ 0b1001 ∷ 2 ∷ 33554433 ∷ 33619969 ∷ 2 ∷ 0x0212000200021000040010000500 ∷ 0x0212000201021000040110000501 ∷ 2 ∷ 0x0212000200021000040010000500 ∷ 0x0212000201021000040110000501 ∷ 2 ∷ 0x0212000200021000040010000500 ∷ 0x0212000201021000040110000501 ∷ 0 ∷ 0b1111 ∷ 0b1111 ∷ []) ∷
    -- g02-no-flag
    vector
    (expression (bin 2 mul (leaf 0 (cell cm 0 0)) (leaf 1 (cell cm 1 0))) false false false ∷ expression (bin 5 add (leaf 3 (cell cm 2 0)) (leaf 4 (cell cm 3 0))) false false false ∷ expression (bin 8 sub (leaf 6 (cell cm 4 0)) (leaf 7 (cell cm 5 0))) false false false ∷ [])
    (ask 2 0 false none ∷ ask 2 1 false none ∷ ask 0 0 false none ∷ build ∷ [])
    (0 ∷ 0 ∷ 0b1001 ∷ 0b1000 ∷ 1 ∷ 33554433 ∷ 0 ∷ 0 ∷ 0b1001 ∷ 0b1001 ∷ 2 ∷ 33554433 ∷ 33619969 ∷ 0 ∷ 0 ∷ 0b1101 ∷ 0b1001 ∷ 3 ∷ 33554433 ∷ 33619969 ∷ 1 ∷ 3 ∷ 0x0212000200021000040010000500 ∷ 0x0212000201021000040110000501 ∷ 0x0312000000021000000010000100 ∷ 3 ∷ 0x0212000200021000040010000500 ∷ 0x0212000201021000040110000501 ∷ 0x0312000000021000000010000100 ∷ 3 ∷ 0x0212000200021000040010000500 ∷ 0x0212000201021000040110000501 ∷ 0x0312000000021000000010000100 ∷ 0 ∷ 0b1111 ∷ 0b1111 ∷ []) ∷
    -- g02-plain-only
    vector
    (expression (bin 2 mul (leaf 0 (cell cm 0 0)) (leaf 1 (cell cm 1 0))) false false false ∷ expression (bin 5 add (leaf 3 (cell cm 2 0)) (leaf 4 (cell cm 3 0))) false false false ∷ expression (bin 8 sub (leaf 6 (cell cm 4 0)) (leaf 7 (cell cm 5 0))) true false false ∷ [])
    (ask 2 0 false none ∷ ask 0 0 false none ∷ ask 1 0 false none ∷ build ∷ [])
    (0 ∷ 0 ∷ 0b1001 ∷ 0b1000 ∷ 1 ∷ 33554433 ∷ 0 ∷ 0 ∷ 0b1101 ∷ 0b1000 ∷ 2 ∷ 33554433 ∷ 1 ∷ 0 ∷ 0 ∷ 0b1111 ∷ 0b1000 ∷ 3 ∷ 33554433 ∷ 1 ∷ 16777217 ∷ 3 ∷ 0x0212000200021000040010000500 ∷ 0x0312000000021000000010000100 ∷ 0x0112000100021000020010000300 ∷ 3 ∷ 0x0212000200021000040010000500 ∷ 0x0312000000021000000010000100 ∷ 0x0112000100021000020010000300 ∷ 3 ∷ 0x0212000200021000040010000500 ∷ 0x0312000000021000000010000100 ∷ 0x0112000100021000020010000300 ∷ 0 ∷ 0b1111 ∷ 0b1110 ∷ []) ∷
    -- g02-primed-only
    vector
    (expression (bin 2 mul (leaf 0 (cell cm 0 0)) (leaf 1 (cell cm 1 0))) false false false ∷ expression (bin 5 add (leaf 3 (cell cm 2 0)) (leaf 4 (cell cm 3 0))) false false false ∷ expression (bin 8 sub (leaf 6 (cell cm 4 0)) (leaf 7 (cell cm 5 0))) true false false ∷ [])
    (ask 2 1 false none ∷ ask 0 0 false none ∷ ask 1 0 false none ∷ build ∷ [])
    (0 ∷ 0 ∷ 0b1000 ∷ 0b1001 ∷ 1 ∷ 33619969 ∷ 0 ∷ 0 ∷ 0b1100 ∷ 0b1001 ∷ 2 ∷ 33619969 ∷ 1 ∷ 0 ∷ 0 ∷ 0b1110 ∷ 0b1001 ∷ 3 ∷ 33619969 ∷ 1 ∷ 16777217 ∷ 3 ∷ 0x0212000201021000040110000501 ∷ 0x0312000000021000000010000100 ∷ 0x0112000100021000020010000300 ∷ 3 ∷ 0x0212000201021000040110000501 ∷ 0x0312000000021000000010000100 ∷ 0x0112000100021000020010000300 ∷ 3 ∷ 0x0212000201021000040110000501 ∷ 0x0312000000021000000010000100 ∷ 0x0112000100021000020010000300 ∷ 0 ∷ 0b1110 ∷ 0b1111 ∷ []) ∷
    -- g02-block-with-results
    vector
    (expression (bin 2 mul (leaf 0 (cell cm 0 0)) (leaf 1 (cell cm 1 0))) false false false ∷ expression (bin 5 add (leaf 3 (cell cm 2 0)) (leaf 4 (cell cm 3 0))) false false false ∷ expression (bin 8 sub (leaf 6 (cell cm 4 0)) (leaf 7 (cell cm 5 0))) true false false ∷ [])
    (ask 2 0 false none ∷ ask 2 1 false none ∷ ask 0 0 false (some (result Kind.f 0)) ∷ ask 0 0 false (some (result (Kind.row q) 7)) ∷ ask 1 0 false none ∷ build ∷ [])
    (0 ∷ 0 ∷ 0b1001 ∷ 0b1000 ∷ 1 ∷ 33554433 ∷ 0 ∷ 0 ∷ 0b1001 ∷ 0b1001 ∷ 2 ∷ 33554433 ∷ 33619969 ∷ 0 ∷ 0 ∷ 0b1101 ∷ 0b1001 ∷ 3 ∷ 33554433 ∷ 33619969 ∷ 2 ∷ 0 ∷ 0 ∷ 0b1101 ∷ 0b1001 ∷ 3 ∷ 33554433 ∷ 33619969 ∷ 3 ∷ 0 ∷ 0 ∷ 0b1111 ∷ 0b1001 ∷ 4 ∷ 33554433 ∷ 33619969 ∷ 3 ∷ 16777217 ∷ 6 ∷ 0x0212000200021000040010000500 ∷ 0x0212000201021000040110000501 ∷ 0x0312000000021000000010000100 ∷ 0x08210000000112000000 ∷ 0x08130007000121000000 ∷ 0x0112000100021000020010000300 ∷ 3 ∷ 0x0212000200021000040010000500 ∷ 0x0212000201021000040110000501 ∷ 0x0112000100021000020010000300 ∷ 3 ∷ 0x0212000200021000040010000500 ∷ 0x0212000201021000040110000501 ∷ 0x0112000100021000020010000300 ∷ 0 ∷ 0b1111 ∷ 0b1111 ∷ []) ∷
    -- g02-four-blocks-e0
    vector
    (expression (bin 2 mul (leaf 0 (cell cm 0 0)) (leaf 1 (cell cm 1 0))) true false false ∷ expression (neg 4 (leaf 3 (cell cm 2 0))) false false false ∷ [])
    (ask 0 0 false none ∷ ask 0 1 false none ∷ ask 1 0 false none ∷ ask 1 1 false none ∷ build ∷ [])
    (0 ∷ 0 ∷ 0b110 ∷ 0b100 ∷ 1 ∷ 1 ∷ 0 ∷ 0 ∷ 0b110 ∷ 0b110 ∷ 2 ∷ 1 ∷ 65537 ∷ 0 ∷ 0 ∷ 0b111 ∷ 0b110 ∷ 3 ∷ 1 ∷ 65537 ∷ 16777217 ∷ 0 ∷ 0 ∷ 0b111 ∷ 0b111 ∷ 4 ∷ 1 ∷ 65537 ∷ 16777217 ∷ 16842753 ∷ 4 ∷ 0x0312000000021000000010000100 ∷ 0x0312000001021000000110000101 ∷ 0x0212000100021400000000000000000000000010000200 ∷ 0x0212000101021400000000000000000000000010000201 ∷ 3 ∷ 0x0312000001021000000110000101 ∷ 0x0212000100021400000000000000000000000010000200 ∷ 0x0212000101021400000000000000000000000010000201 ∷ 3 ∷ 0x0312000001021000000110000101 ∷ 0x0212000100021400000000000000000000000010000200 ∷ 0x0212000101021400000000000000000000000010000201 ∷ 0 ∷ 0b111 ∷ 0b111 ∷ []) ∷
    -- g02-four-blocks-e1
    vector
    (expression (bin 2 mul (leaf 0 (cell cm 0 0)) (leaf 1 (cell cm 1 0))) false false false ∷ expression (neg 4 (leaf 3 (cell cm 2 0))) true false false ∷ [])
    (ask 0 0 false none ∷ ask 0 1 false none ∷ ask 1 0 false none ∷ ask 1 1 false none ∷ build ∷ [])
    (0 ∷ 0 ∷ 0b110 ∷ 0b100 ∷ 1 ∷ 1 ∷ 0 ∷ 0 ∷ 0b110 ∷ 0b110 ∷ 2 ∷ 1 ∷ 65537 ∷ 0 ∷ 0 ∷ 0b111 ∷ 0b110 ∷ 3 ∷ 1 ∷ 65537 ∷ 16777217 ∷ 0 ∷ 0 ∷ 0b111 ∷ 0b111 ∷ 4 ∷ 1 ∷ 65537 ∷ 16777217 ∷ 16842753 ∷ 4 ∷ 0x0312000000021000000010000100 ∷ 0x0312000001021000000110000101 ∷ 0x0212000100021400000000000000000000000010000200 ∷ 0x0212000101021400000000000000000000000010000201 ∷ 4 ∷ 0x0312000000021000000010000100 ∷ 0x0312000001021000000110000101 ∷ 0x0212000100021400000000000000000000000010000200 ∷ 0x0212000101021400000000000000000000000010000201 ∷ 3 ∷ 0x0312000000021000000010000100 ∷ 0x0212000100021400000000000000000000000010000200 ∷ 0x0212000101021400000000000000000000000010000201 ∷ 0 ∷ 0b111 ∷ 0b111 ∷ []) ∷
    -- g02-four-blocks-both
    vector
    (expression (bin 2 mul (leaf 0 (cell cm 0 0)) (leaf 1 (cell cm 1 0))) false false true ∷ expression (neg 4 (leaf 3 (cell cm 2 0))) false true false ∷ [])
    (ask 0 0 false none ∷ ask 0 1 false none ∷ ask 1 0 false none ∷ ask 1 1 false none ∷ build ∷ [])
    (0 ∷ 0 ∷ 0b110 ∷ 0b100 ∷ 1 ∷ 1 ∷ 0 ∷ 0 ∷ 0b110 ∷ 0b110 ∷ 2 ∷ 1 ∷ 65537 ∷ 0 ∷ 0 ∷ 0b111 ∷ 0b110 ∷ 3 ∷ 1 ∷ 65537 ∷ 16777217 ∷ 0 ∷ 0 ∷ 0b111 ∷ 0b111 ∷ 4 ∷ 1 ∷ 65537 ∷ 16777217 ∷ 16842753 ∷ 4 ∷ 0x0312000000021000000010000100 ∷ 0x0312000001021000000110000101 ∷ 0x0212000100021400000000000000000000000010000200 ∷ 0x0212000101021400000000000000000000000010000201 ∷ 3 ∷ 0x0312000001021000000110000101 ∷ 0x0212000100021400000000000000000000000010000200 ∷ 0x0212000101021400000000000000000000000010000201 ∷ 2 ∷ 0x0212000100021400000000000000000000000010000200 ∷ 0x0212000101021400000000000000000000000010000201 ∷ 0 ∷ 0b111 ∷ 0b111 ∷ []) ∷
    -- g03-build-between
    vector
    (expression (bin 2 mul (leaf 0 (cell cm 0 0)) (leaf 1 (cell cm 1 0))) true false false ∷ expression (leaf 3 (cell cm 2 0)) false false false ∷ [])
    (ask 0 0 false none ∷ build ∷ ask 0 1 false none ∷ build ∷ [])
    (0 ∷ 0 ∷ 0b110 ∷ 0b100 ∷ 1 ∷ 1 ∷ 1 ∷ 0x0312000000021000000010000100 ∷ 1 ∷ 0x0312000000021000000010000100 ∷ 1 ∷ 0x0312000000021000000010000100 ∷ 0 ∷ 0b111 ∷ 0b101 ∷ 0 ∷ 0 ∷ 0b111 ∷ 0b111 ∷ 1 ∷ 65537 ∷ 1 ∷ 0x0312000001021000000110000101 ∷ 1 ∷ 0x0312000001021000000110000101 ∷ 1 ∷ 0x0312000001021000000110000101 ∷ 0 ∷ 0b111 ∷ 0b111 ∷ []) ∷
    -- g03-no-build-between
    vector
    (expression (bin 2 mul (leaf 0 (cell cm 0 0)) (leaf 1 (cell cm 1 0))) true false false ∷ expression (leaf 3 (cell cm 2 0)) false false false ∷ [])
    (ask 0 0 false none ∷ ask 0 1 false none ∷ build ∷ build ∷ [])
    (0 ∷ 0 ∷ 0b110 ∷ 0b100 ∷ 1 ∷ 1 ∷ 0 ∷ 0 ∷ 0b110 ∷ 0b110 ∷ 2 ∷ 1 ∷ 65537 ∷ 2 ∷ 0x0312000000021000000010000100 ∷ 0x0312000001021000000110000101 ∷ 1 ∷ 0x0312000001021000000110000101 ∷ 1 ∷ 0x0312000001021000000110000101 ∷ 0 ∷ 0b111 ∷ 0b111 ∷ 0 ∷ 0 ∷ 0 ∷ 0 ∷ 0b111 ∷ 0b111 ∷ []) ∷
    -- g04-reads-a-skipped-block
    vector
    (expression (leaf 0 (cell cm 0 0)) false false false ∷ expression (leaf 1 (cell cm 1 0)) false false false ∷ expression (bin 4 mul (leaf 2 (cell cm 2 0)) (leaf 3 (cell cm 3 0))) true false false ∷ expression (bin 7 add (leaf 5 (exp 2 0)) (leaf 6 (exp 2 1))) false false false ∷ expression (leaf 8 (exp 3 0)) false false false ∷ [])
    (ask 4 0 false none ∷ build ∷ [])
    (0 ∷ 0 ∷ 0b100111 ∷ 0b100100 ∷ 4 ∷ 33554433 ∷ 33619969 ∷ 50331649 ∷ 67108865 ∷ 4 ∷ 0x0312000200021000020010000300 ∷ 0x0312000201021000020110000301 ∷ 0x0112000300021200020012000201 ∷ 0x08120004000112000300 ∷ 3 ∷ 0x0312000200021000020010000300 ∷ 0x0312000201021000020110000301 ∷ 0x08120004000112000300 ∷ 3 ∷ 0x0312000200021000020010000300 ∷ 0x0312000201021000020110000301 ∷ 0x08120004000112000300 ∷ 0 ∷ 0b111111 ∷ 0b111111 ∷ []) ∷
    -- g04-reads-its-own-skipped-block
    vector
    (expression (bin 2 mul (leaf 0 (cell cm 2 0)) (leaf 1 (cell cm 3 0))) true false false ∷ expression (bin 5 add (leaf 3 (exp 0 0)) (leaf 4 (exp 0 1))) false false false ∷ [])
    (ask 1 0 false none ∷ build ∷ [])
    (0 ∷ 0 ∷ 0b111 ∷ 0b110 ∷ 3 ∷ 1 ∷ 65537 ∷ 16777217 ∷ 3 ∷ 0x0312000000021000020010000300 ∷ 0x0312000001021000020110000301 ∷ 0x0112000100021200000012000001 ∷ 2 ∷ 0x0312000001021000020110000301 ∷ 0x0112000100021200000012000001 ∷ 2 ∷ 0x0312000001021000020110000301 ∷ 0x0112000100021200000012000001 ∷ 0 ∷ 0b111 ∷ 0b111 ∷ []) ∷
    -- g05-marks-of-each-flag
    vector
    (expression (leaf 0 (cell cm 0 0)) true false false ∷ expression (leaf 1 (cell cm 1 0)) false true false ∷ expression (leaf 2 (cell cm 2 0)) false false true ∷ expression (leaf 3 (cell cm 3 0)) false false false ∷ [])
    (build ∷ [])
    (0 ∷ 0 ∷ 0 ∷ 0 ∷ 0b10101 ∷ 0b10101 ∷ []) ∷
    -- g05-marks-of-all-flags
    vector
    (expression (leaf 0 (cell cm 0 0)) false false false ∷ expression (leaf 1 (cell cm 1 0)) true false false ∷ expression (leaf 2 (cell cm 2 0)) false true false ∷ expression (leaf 3 (cell cm 3 0)) true true false ∷ expression (leaf 4 (cell cm 4 0)) false false true ∷ expression (leaf 5 (cell cm 5 0)) true false true ∷ expression (leaf 6 (cell cm 6 0)) false true true ∷ expression (leaf 7 (cell cm 7 0)) true true true ∷ [])
    (build ∷ [])
    (0 ∷ 0 ∷ 0 ∷ 0 ∷ 0b110100000 ∷ 0b110100000 ∷ []) ∷
    -- g05-marks-and-requests
    vector
    (expression (leaf 0 (cell cm 0 0)) false false false ∷ expression (leaf 1 (cell cm 1 0)) true false false ∷ expression (leaf 2 (cell cm 2 0)) false true false ∷ expression (leaf 3 (cell cm 3 0)) true true false ∷ expression (leaf 4 (cell cm 4 0)) false false true ∷ expression (leaf 5 (cell cm 5 0)) true false true ∷ expression (leaf 6 (cell cm 6 0)) false true true ∷ expression (leaf 7 (cell cm 7 0)) true true true ∷ [])
    (ask 0 0 false none ∷ ask 1 0 false none ∷ ask 2 0 false none ∷ ask 3 0 false none ∷ ask 4 0 false none ∷ ask 5 0 false none ∷ ask 6 0 false none ∷ ask 7 0 false none ∷ build ∷ ask 0 1 false none ∷ ask 1 1 false none ∷ ask 2 1 false none ∷ ask 3 1 false none ∷ ask 4 1 false none ∷ ask 5 1 false none ∷ ask 6 1 false none ∷ ask 7 1 false none ∷ build ∷ [])
    (0 ∷ 0 ∷ 0b110000000 ∷ 0b100000000 ∷ 1 ∷ 1 ∷ 0 ∷ 0 ∷ 0b111000000 ∷ 0b100000000 ∷ 2 ∷ 1 ∷ 16777217 ∷ 0 ∷ 0 ∷ 0b111100000 ∷ 0b100000000 ∷ 3 ∷ 1 ∷ 16777217 ∷ 33554433 ∷ 0 ∷ 0 ∷ 0b111110000 ∷ 0b100000000 ∷ 4 ∷ 1 ∷ 16777217 ∷ 33554433 ∷ 50331649 ∷ 0 ∷ 0 ∷ 0b111111000 ∷ 0b100000000 ∷ 5 ∷ 1 ∷ 16777217 ∷ 33554433 ∷ 50331649 ∷ 67108865 ∷ 0 ∷ 0 ∷ 0b111111100 ∷ 0b100000000 ∷ 6 ∷ 1 ∷ 16777217 ∷ 33554433 ∷ 50331649 ∷ 67108865 ∷ 83886081 ∷ 0 ∷ 0 ∷ 0b111111110 ∷ 0b100000000 ∷ 7 ∷ 1 ∷ 16777217 ∷ 33554433 ∷ 50331649 ∷ 67108865 ∷ 83886081 ∷ 100663297 ∷ 0 ∷ 0 ∷ 0b111111111 ∷ 0b100000000 ∷ 8 ∷ 1 ∷ 16777217 ∷ 33554433 ∷ 50331649 ∷ 67108865 ∷ 83886081 ∷ 100663297 ∷ 117440513 ∷ 8 ∷ 0x08120000000110000000 ∷ 0x08120001000110000100 ∷ 0x08120002000110000200 ∷ 0x08120003000110000300 ∷ 0x08120004000110000400 ∷ 0x08120005000110000500 ∷ 0x08120006000110000600 ∷ 0x08120007000110000700 ∷ 8 ∷ 0x08120000000110000000 ∷ 0x08120001000110000100 ∷ 0x08120002000110000200 ∷ 0x08120003000110000300 ∷ 0x08120004000110000400 ∷ 0x08120005000110000500 ∷ 0x08120006000110000600 ∷ 0x08120007000110000700 ∷ 8 ∷ 0x08120000000110000000 ∷ 0x08120001000110000100 ∷ 0x08120002000110000200 ∷ 0x08120003000110000300 ∷ 0x08120004000110000400 ∷ 0x08120005000110000500 ∷ 0x08120006000110000600 ∷ 0x08120007000110000700 ∷ 0 ∷ 0b111111111 ∷ 0b110100000 ∷ 0 ∷ 0 ∷ 0b111111111 ∷ 0b110100000 ∷ 0 ∷ 0 ∷ 0 ∷ 0b111111111 ∷ 0b111100000 ∷ 1 ∷ 16842753 ∷ 0 ∷ 0 ∷ 0b111111111 ∷ 0b111100000 ∷ 1 ∷ 16842753 ∷ 0 ∷ 0 ∷ 0b111111111 ∷ 0b111110000 ∷ 2 ∷ 16842753 ∷ 50397185 ∷ 0 ∷ 0 ∷ 0b111111111 ∷ 0b111111000 ∷ 3 ∷ 16842753 ∷ 50397185 ∷ 67174401 ∷ 0 ∷ 0 ∷ 0b111111111 ∷ 0b111111100 ∷ 4 ∷ 16842753 ∷ 50397185 ∷ 67174401 ∷ 83951617 ∷ 0 ∷ 0 ∷ 0b111111111 ∷ 0b111111110 ∷ 5 ∷ 16842753 ∷ 50397185 ∷ 67174401 ∷ 83951617 ∷ 100728833 ∷ 0 ∷ 0 ∷ 0b111111111 ∷ 0b111111111 ∷ 6 ∷ 16842753 ∷ 50397185 ∷ 67174401 ∷ 83951617 ∷ 100728833 ∷ 117506049 ∷ 6 ∷ 0x08120001010110000101 ∷ 0x08120003010110000301 ∷ 0x08120004010110000401 ∷ 0x08120005010110000501 ∷ 0x08120006010110000601 ∷ 0x08120007010110000701 ∷ 6 ∷ 0x08120001010110000101 ∷ 0x08120003010110000301 ∷ 0x08120004010110000401 ∷ 0x08120005010110000501 ∷ 0x08120006010110000601 ∷ 0x08120007010110000701 ∷ 6 ∷ 0x08120001010110000101 ∷ 0x08120003010110000301 ∷ 0x08120004010110000401 ∷ 0x08120005010110000501 ∷ 0x08120006010110000601 ∷ 0x08120007010110000701 ∷ 0 ∷ 0b111111111 ∷ 0b111111111 ∷ []) ∷
    -- g06-empty-build-first
    vector
    (expression (bin 2 mul (leaf 0 (cell cm 0 0)) (leaf 1 (cell cm 1 0))) false false false ∷ expression (neg 4 (leaf 3 (cell cm 2 0))) false false false ∷ expression (bin 7 add (leaf 5 (exp 0 0)) (leaf 6 (exp 1 0))) true false false ∷ [])
    (build ∷ ask 2 0 false none ∷ build ∷ [])
    (0 ∷ 0 ∷ 0 ∷ 0 ∷ 0b1110 ∷ 0b1110 ∷ 0 ∷ 0 ∷ 0b1111 ∷ 0b1110 ∷ 1 ∷ 33554433 ∷ 1 ∷ 0x0112000200021200000012000100 ∷ 1 ∷ 0x0112000200021200000012000100 ∷ 1 ∷ 0x0112000200021200000012000100 ∷ 0 ∷ 0b1111 ∷ 0b1110 ∷ []) ∷
    -- g06-empty-build-first-primed
    vector
    (expression (bin 2 mul (leaf 0 (cell cm 0 0)) (leaf 1 (cell cm 1 0))) false false false ∷ expression (neg 4 (leaf 3 (cell cm 2 0))) false false false ∷ expression (bin 7 add (leaf 5 (exp 0 0)) (leaf 6 (exp 1 0))) true false false ∷ [])
    (build ∷ ask 2 1 false none ∷ build ∷ [])
    (0 ∷ 0 ∷ 0 ∷ 0 ∷ 0b1110 ∷ 0b1110 ∷ 0 ∷ 0 ∷ 0b1110 ∷ 0b1111 ∷ 1 ∷ 33619969 ∷ 1 ∷ 0x0112000201021200000112000101 ∷ 1 ∷ 0x0112000201021200000112000101 ∷ 1 ∷ 0x0112000201021200000112000101 ∷ 0 ∷ 0b1110 ∷ 0b1111 ∷ []) ∷
    -- g06-no-build-first
    vector
    (expression (bin 2 mul (leaf 0 (cell cm 0 0)) (leaf 1 (cell cm 1 0))) false false false ∷ expression (neg 4 (leaf 3 (cell cm 2 0))) false false false ∷ expression (bin 7 add (leaf 5 (exp 0 0)) (leaf 6 (exp 1 0))) true false false ∷ [])
    (ask 2 0 false none ∷ build ∷ [])
    (0 ∷ 0 ∷ 0b1111 ∷ 0b1000 ∷ 3 ∷ 1 ∷ 16777217 ∷ 33554433 ∷ 3 ∷ 0x0312000000021000000010000100 ∷ 0x0212000100021400000000000000000000000010000200 ∷ 0x0112000200021200000012000100 ∷ 3 ∷ 0x0312000000021000000010000100 ∷ 0x0212000100021400000000000000000000000010000200 ∷ 0x0112000200021200000012000100 ∷ 3 ∷ 0x0312000000021000000010000100 ∷ 0x0212000100021400000000000000000000000010000200 ∷ 0x0112000200021200000012000100 ∷ 0 ∷ 0b1111 ∷ 0b1110 ∷ []) ∷
    -- g07-hidden
    vector
    (expression (bin 2 mul (leaf 0 (cell cm 0 0)) (leaf 1 (cell cm 1 0))) false false false ∷ expression (leaf 3 (cell cm 2 1)) false false false ∷ expression (bin 6 add (leaf 4 (exp 0 0)) (leaf 5 (exp 1 0))) true false false ∷ [])
    (build ∷ ask 2 1 false none ∷ build ∷ [])
    (0 ∷ 0 ∷ 0 ∷ 0 ∷ 0b1110 ∷ 0b1110 ∷ 0 ∷ 0 ∷ 0b1110 ∷ 0b1111 ∷ 1 ∷ 33619969 ∷ 1 ∷ 0x0112000201021200000112000101 ∷ 1 ∷ 0x0112000201021200000112000101 ∷ 1 ∷ 0x0112000201021200000112000101 ∷ 0 ∷ 0b1110 ∷ 0b1111 ∷ []) ∷
    -- g07-not-hidden
    vector
    (expression (bin 2 mul (leaf 0 (cell cm 0 0)) (leaf 1 (cell cm 1 0))) false false false ∷ expression (leaf 3 (cell cm 2 1)) false false false ∷ expression (bin 6 add (leaf 4 (exp 0 0)) (leaf 5 (exp 1 0))) true false false ∷ [])
    (ask 2 1 false none ∷ [])
    (5 ∷ []) ∷
    -- g07-protected
    vector
    (expression (bin 2 mul (leaf 0 (cell cm 0 0)) (leaf 1 (cell cm 1 0))) false false false ∷ expression (leaf 3 (cell cm 2 1)) false false true ∷ expression (bin 6 add (leaf 4 (exp 0 0)) (leaf 5 (exp 1 0))) true false false ∷ [])
    (build ∷ ask 2 1 false none ∷ [])
    (0 ∷ 0 ∷ 0 ∷ 0 ∷ 0b1100 ∷ 0b1100 ∷ 5 ∷ []) ∷
    -- g08-chain
    vector
    (expression (bin 2 mul (leaf 0 (cell cm 0 0)) (leaf 1 (cell cm 1 0))) false false false ∷ expression (leaf 3 (cell cm 2 0)) false false false ∷ [])
    (ask 0 0 false (some (result Kind.f 0)) ∷ ask 0 0 false (some (result (Kind.row q) 7)) ∷ build ∷ [])
    (0 ∷ 0 ∷ 0b110 ∷ 0b100 ∷ 1 ∷ 2 ∷ 0 ∷ 0 ∷ 0b110 ∷ 0b100 ∷ 1 ∷ 3 ∷ 3 ∷ 0x0312000000021000000010000100 ∷ 0x08210000000112000000 ∷ 0x08130007000121000000 ∷ 3 ∷ 0x0312000000021000000010000100 ∷ 0x08210000000112000000 ∷ 0x08130007000121000000 ∷ 3 ∷ 0x0312000000021000000010000100 ∷ 0x08210000000112000000 ∷ 0x08130007000121000000 ∷ 0 ∷ 0b111 ∷ 0b111 ∷ []) ∷
    -- g08-chain-after-request
    vector
    (expression (bin 2 mul (leaf 0 (cell cm 0 0)) (leaf 1 (cell cm 1 0))) false false false ∷ expression (leaf 3 (cell cm 2 0)) false false false ∷ [])
    (ask 0 0 false none ∷ ask 0 0 false (some (result Kind.f 0)) ∷ ask 0 0 false (some (result (Kind.row q) 7)) ∷ build ∷ [])
    (0 ∷ 0 ∷ 0b110 ∷ 0b100 ∷ 1 ∷ 1 ∷ 0 ∷ 0 ∷ 0b110 ∷ 0b100 ∷ 1 ∷ 2 ∷ 0 ∷ 0 ∷ 0b110 ∷ 0b100 ∷ 1 ∷ 3 ∷ 3 ∷ 0x0312000000021000000010000100 ∷ 0x08210000000112000000 ∷ 0x08130007000121000000 ∷ 3 ∷ 0x0312000000021000000010000100 ∷ 0x08210000000112000000 ∷ 0x08130007000121000000 ∷ 3 ∷ 0x0312000000021000000010000100 ∷ 0x08210000000112000000 ∷ 0x08130007000121000000 ∷ 0 ∷ 0b111 ∷ 0b111 ∷ []) ∷
    -- g08-every-kind
    vector
    (expression (bin 2 mul (leaf 0 (cell cm 0 0)) (leaf 1 (cell cm 1 0))) false false false ∷ expression (leaf 3 (cell cm 2 0)) false false false ∷ [])
    (ask 0 0 false (some (result (Kind.row cm) 9)) ∷ ask 0 0 false (some (result (Kind.row const) 9)) ∷ ask 0 0 false (some (result Kind.exp 9)) ∷ ask 0 0 false (some (result (Kind.row q) 9)) ∷ ask 0 0 false (some (result (Kind.flat public) 9)) ∷ ask 0 0 false (some (result (Kind.flat challenge) 9)) ∷ ask 0 0 false (some (result (Kind.flat eval) 9)) ∷ ask 0 0 false (some (result (Kind.x x_div_x_sub_xi) 9)) ∷ ask 0 0 false (some (result (Kind.x x_div_x_sub_w_xi) 9)) ∷ ask 0 0 false (some (result (Kind.x plain_x) 9)) ∷ ask 0 0 false (some (result Kind.tmp 9)) ∷ ask 0 0 false (some (result Kind.f 9)) ∷ ask 0 0 false (some (result Kind.tmp_exp 9)) ∷ ask 0 0 false (some (result (Kind.bare Zi) 9)) ∷ ask 0 0 false (some (result (Kind.bare tree1) 9)) ∷ ask 0 0 false (some (result (Kind.bare tree2) 9)) ∷ ask 0 0 false (some (result (Kind.bare tree3) 9)) ∷ ask 0 0 false (some (result (Kind.bare tree4) 9)) ∷ ask 0 0 false (some (result (Kind.bare Z) 9)) ∷ build ∷ [])
    (0 ∷ 0 ∷ 0b110 ∷ 0b100 ∷ 1 ∷ 2 ∷ 0 ∷ 0 ∷ 0b110 ∷ 0b100 ∷ 1 ∷ 3 ∷ 0 ∷ 0 ∷ 0b110 ∷ 0b100 ∷ 1 ∷ 4 ∷ 0 ∷ 0 ∷ 0b110 ∷ 0b100 ∷ 1 ∷ 5 ∷ 0 ∷ 0 ∷ 0b110 ∷ 0b100 ∷ 1 ∷ 6 ∷ 0 ∷ 0 ∷ 0b110 ∷ 0b100 ∷ 1 ∷ 7 ∷ 0 ∷ 0 ∷ 0b110 ∷ 0b100 ∷ 1 ∷ 8 ∷ 0 ∷ 0 ∷ 0b110 ∷ 0b100 ∷ 1 ∷ 9 ∷ 0 ∷ 0 ∷ 0b110 ∷ 0b100 ∷ 1 ∷ 10 ∷ 0 ∷ 0 ∷ 0b110 ∷ 0b100 ∷ 1 ∷ 11 ∷ 0 ∷ 0 ∷ 0b110 ∷ 0b100 ∷ 1 ∷ 12 ∷ 0 ∷ 0 ∷ 0b110 ∷ 0b100 ∷ 1 ∷ 13 ∷ 0 ∷ 0 ∷ 0b110 ∷ 0b100 ∷ 1 ∷ 14 ∷ 0 ∷ 0 ∷ 0b110 ∷ 0b100 ∷ 1 ∷ 15 ∷ 0 ∷ 0 ∷ 0b110 ∷ 0b100 ∷ 1 ∷ 16 ∷ 0 ∷ 0 ∷ 0b110 ∷ 0b100 ∷ 1 ∷ 17 ∷ 0 ∷ 0 ∷ 0b110 ∷ 0b100 ∷ 1 ∷ 18 ∷ 0 ∷ 0 ∷ 0b110 ∷ 0b100 ∷ 1 ∷ 19 ∷ 0 ∷ 0 ∷ 0b110 ∷ 0b100 ∷ 1 ∷ 20 ∷ 20 ∷ 0x0312000000021000000010000100 ∷ 0x08100009000112000000 ∷ 0x08110009000110000900 ∷ 0x08120009000111000900 ∷ 0x08130009000112000900 ∷ 0x08150009000113000900 ∷ 0x08160009000115000900 ∷ 0x08170009000116000900 ∷ 0x08180009000117000900 ∷ 0x08190009000118000900 ∷ 0x081a0009000119000900 ∷ 0x0820000900011a000900 ∷ 0x08210009000120000900 ∷ 0x08220009000121000900 ∷ 0x08230009000122000900 ∷ 0x08240009000123000900 ∷ 0x08250009000124000900 ∷ 0x08260009000125000900 ∷ 0x08270009000126000900 ∷ 0x08280009000127000900 ∷ 20 ∷ 0x0312000000021000000010000100 ∷ 0x08100009000112000000 ∷ 0x08110009000110000900 ∷ 0x08120009000111000900 ∷ 0x08130009000112000900 ∷ 0x08150009000113000900 ∷ 0x08160009000115000900 ∷ 0x08170009000116000900 ∷ 0x08180009000117000900 ∷ 0x08190009000118000900 ∷ 0x081a0009000119000900 ∷ 0x0820000900011a000900 ∷ 0x08210009000120000900 ∷ 0x08220009000121000900 ∷ 0x08230009000122000900 ∷ 0x08240009000123000900 ∷ 0x08250009000124000900 ∷ 0x08260009000125000900 ∷ 0x08270009000126000900 ∷ 0x08280009000127000900 ∷ 20 ∷ 0x0312000000021000000010000100 ∷ 0x08100009000112000000 ∷ 0x08110009000110000900 ∷ 0x08120009000111000900 ∷ 0x08130009000112000900 ∷ 0x08150009000113000900 ∷ 0x08160009000115000900 ∷ 0x08170009000116000900 ∷ 0x08180009000117000900 ∷ 0x08190009000118000900 ∷ 0x081a0009000119000900 ∷ 0x0820000900011a000900 ∷ 0x08210009000120000900 ∷ 0x08220009000121000900 ∷ 0x08230009000122000900 ∷ 0x08240009000123000900 ∷ 0x08250009000124000900 ∷ 0x08260009000125000900 ∷ 0x08270009000126000900 ∷ 0x08280009000127000900 ∷ 0 ∷ 0b111 ∷ 0b111 ∷ []) ∷
    -- g08-every-kind-primed
    vector
    (expression (bin 2 mul (leaf 0 (cell cm 0 0)) (leaf 1 (cell cm 1 0))) false false false ∷ expression (leaf 3 (cell cm 2 0)) false false false ∷ [])
    (ask 0 1 false none ∷ ask 0 1 false (some (result (Kind.row cm) 9)) ∷ ask 0 1 false (some (result (Kind.row const) 9)) ∷ ask 0 1 false (some (result Kind.exp 9)) ∷ ask 0 1 false (some (result (Kind.row q) 9)) ∷ ask 0 1 false (some (result (Kind.flat public) 9)) ∷ ask 0 1 false (some (result (Kind.flat challenge) 9)) ∷ ask 0 1 false (some (result (Kind.flat eval) 9)) ∷ ask 0 1 false (some (result (Kind.x x_div_x_sub_xi) 9)) ∷ ask 0 1 false (some (result (Kind.x x_div_x_sub_w_xi) 9)) ∷ ask 0 1 false (some (result (Kind.x plain_x) 9)) ∷ ask 0 1 false (some (result Kind.tmp 9)) ∷ ask 0 1 false (some (result Kind.f 9)) ∷ ask 0 1 false (some (result Kind.tmp_exp 9)) ∷ ask 0 1 false (some (result (Kind.bare Zi) 9)) ∷ ask 0 1 false (some (result (Kind.bare tree1) 9)) ∷ ask 0 1 false (some (result (Kind.bare tree2) 9)) ∷ ask 0 1 false (some (result (Kind.bare tree3) 9)) ∷ ask 0 1 false (some (result (Kind.bare tree4) 9)) ∷ ask 0 1 false (some (result (Kind.bare Z) 9)) ∷ build ∷ [])
    (0 ∷ 0 ∷ 0b100 ∷ 0b110 ∷ 1 ∷ 65537 ∷ 0 ∷ 0 ∷ 0b100 ∷ 0b110 ∷ 1 ∷ 65538 ∷ 0 ∷ 0 ∷ 0b100 ∷ 0b110 ∷ 1 ∷ 65539 ∷ 0 ∷ 0 ∷ 0b100 ∷ 0b110 ∷ 1 ∷ 65540 ∷ 0 ∷ 0 ∷ 0b100 ∷ 0b110 ∷ 1 ∷ 65541 ∷ 0 ∷ 0 ∷ 0b100 ∷ 0b110 ∷ 1 ∷ 65542 ∷ 0 ∷ 0 ∷ 0b100 ∷ 0b110 ∷ 1 ∷ 65543 ∷ 0 ∷ 0 ∷ 0b100 ∷ 0b110 ∷ 1 ∷ 65544 ∷ 0 ∷ 0 ∷ 0b100 ∷ 0b110 ∷ 1 ∷ 65545 ∷ 0 ∷ 0 ∷ 0b100 ∷ 0b110 ∷ 1 ∷ 65546 ∷ 0 ∷ 0 ∷ 0b100 ∷ 0b110 ∷ 1 ∷ 65547 ∷ 0 ∷ 0 ∷ 0b100 ∷ 0b110 ∷ 1 ∷ 65548 ∷ 0 ∷ 0 ∷ 0b100 ∷ 0b110 ∷ 1 ∷ 65549 ∷ 0 ∷ 0 ∷ 0b100 ∷ 0b110 ∷ 1 ∷ 65550 ∷ 0 ∷ 0 ∷ 0b100 ∷ 0b110 ∷ 1 ∷ 65551 ∷ 0 ∷ 0 ∷ 0b100 ∷ 0b110 ∷ 1 ∷ 65552 ∷ 0 ∷ 0 ∷ 0b100 ∷ 0b110 ∷ 1 ∷ 65553 ∷ 0 ∷ 0 ∷ 0b100 ∷ 0b110 ∷ 1 ∷ 65554 ∷ 0 ∷ 0 ∷ 0b100 ∷ 0b110 ∷ 1 ∷ 65555 ∷ 0 ∷ 0 ∷ 0b100 ∷ 0b110 ∷ 1 ∷ 65556 ∷ 20 ∷ 0x0312000001021000000110000101 ∷ 0x08100009010112000001 ∷ 0x08110009010110000901 ∷ 0x08120009010111000901 ∷ 0x08130009010112000901 ∷ 0x08150009010113000901 ∷ 0x08160009010115000901 ∷ 0x08170009010116000901 ∷ 0x08180009010117000901 ∷ 0x08190009010118000901 ∷ 0x081a0009010119000901 ∷ 0x0820000901011a000901 ∷ 0x08210009010120000901 ∷ 0x08220009010121000901 ∷ 0x08230009010122000901 ∷ 0x08240009010123000901 ∷ 0x08250009010124000901 ∷ 0x08260009010125000901 ∷ 0x08270009010126000901 ∷ 0x08280009010127000901 ∷ 20 ∷ 0x0312000001021000000110000101 ∷ 0x08100009010112000001 ∷ 0x08110009010110000901 ∷ 0x08120009010111000901 ∷ 0x08130009010112000901 ∷ 0x08150009010113000901 ∷ 0x08160009010115000901 ∷ 0x08170009010116000901 ∷ 0x08180009010117000901 ∷ 0x08190009010118000901 ∷ 0x081a0009010119000901 ∷ 0x0820000901011a000901 ∷ 0x08210009010120000901 ∷ 0x08220009010121000901 ∷ 0x08230009010122000901 ∷ 0x08240009010123000901 ∷ 0x08250009010124000901 ∷ 0x08260009010125000901 ∷ 0x08270009010126000901 ∷ 0x08280009010127000901 ∷ 20 ∷ 0x0312000001021000000110000101 ∷ 0x08100009010112000001 ∷ 0x08110009010110000901 ∷ 0x08120009010111000901 ∷ 0x08130009010112000901 ∷ 0x08150009010113000901 ∷ 0x08160009010115000901 ∷ 0x08170009010116000901 ∷ 0x08180009010117000901 ∷ 0x08190009010118000901 ∷ 0x081a0009010119000901 ∷ 0x0820000901011a000901 ∷ 0x08210009010120000901 ∷ 0x08220009010121000901 ∷ 0x08230009010122000901 ∷ 0x08240009010123000901 ∷ 0x08250009010124000901 ∷ 0x08260009010125000901 ∷ 0x08270009010126000901 ∷ 0x08280009010127000901 ∷ 0 ∷ 0b111 ∷ 0b111 ∷ []) ∷
    -- g08-same-twice
    vector
    (expression (bin 2 mul (leaf 0 (cell cm 0 0)) (leaf 1 (cell cm 1 0))) false false false ∷ expression (leaf 3 (cell cm 2 0)) false false false ∷ [])
    (ask 0 0 false (some (result Kind.f 0)) ∷ ask 0 0 false (some (result Kind.f 0)) ∷ build ∷ [])
    (0 ∷ 0 ∷ 0b110 ∷ 0b100 ∷ 1 ∷ 2 ∷ 0 ∷ 0 ∷ 0b110 ∷ 0b100 ∷ 1 ∷ 3 ∷ 3 ∷ 0x0312000000021000000010000100 ∷ 0x08210000000112000000 ∷ 0x08210000000121000000 ∷ 3 ∷ 0x0312000000021000000010000100 ∷ 0x08210000000112000000 ∷ 0x08210000000121000000 ∷ 3 ∷ 0x0312000000021000000010000100 ∷ 0x08210000000112000000 ∷ 0x08210000000121000000 ∷ 0 ∷ 0b111 ∷ 0b111 ∷ []) ∷
    -- g08-leaf-root
    vector
    (expression (bin 2 mul (leaf 0 (cell cm 0 0)) (leaf 1 (cell cm 1 0))) false false false ∷ expression (leaf 3 (cell cm 2 0)) false false false ∷ [])
    (ask 1 0 false (some (result Kind.f 65535)) ∷ ask 0 0 false none ∷ ask 1 0 false (some (result Kind.tmp 0)) ∷ build ∷ [])
    (0 ∷ 0 ∷ 0b101 ∷ 0b100 ∷ 1 ∷ 16777218 ∷ 0 ∷ 0 ∷ 0b111 ∷ 0b100 ∷ 2 ∷ 16777218 ∷ 1 ∷ 0 ∷ 0 ∷ 0b111 ∷ 0b100 ∷ 2 ∷ 16777219 ∷ 1 ∷ 4 ∷ 0x08120001000110000200 ∷ 0x0821ffff000112000100 ∷ 0x08200000000121ffff00 ∷ 0x0312000000021000000010000100 ∷ 4 ∷ 0x08120001000110000200 ∷ 0x0821ffff000112000100 ∷ 0x08200000000121ffff00 ∷ 0x0312000000021000000010000100 ∷ 4 ∷ 0x08120001000110000200 ∷ 0x0821ffff000112000100 ∷ 0x08200000000121ffff00 ∷ 0x0312000000021000000010000100 ∷ 0 ∷ 0b111 ∷ 0b111 ∷ []) ∷
    -- g08-earlier-block
    vector
    (expression (bin 2 mul (leaf 0 (cell cm 0 0)) (leaf 1 (cell cm 1 0))) false false false ∷ expression (leaf 3 (cell cm 2 0)) false false false ∷ [])
    (ask 0 0 false none ∷ ask 1 0 false none ∷ ask 1 1 false none ∷ ask 0 0 false (some (result Kind.exp 1)) ∷ build ∷ [])
    (0 ∷ 0 ∷ 0b110 ∷ 0b100 ∷ 1 ∷ 1 ∷ 0 ∷ 0 ∷ 0b111 ∷ 0b100 ∷ 2 ∷ 1 ∷ 16777217 ∷ 0 ∷ 0 ∷ 0b111 ∷ 0b101 ∷ 3 ∷ 1 ∷ 16777217 ∷ 16842753 ∷ 0 ∷ 0 ∷ 0b111 ∷ 0b101 ∷ 3 ∷ 2 ∷ 16777217 ∷ 16842753 ∷ 4 ∷ 0x0312000000021000000010000100 ∷ 0x08120001000112000000 ∷ 0x08120001000110000200 ∷ 0x08120001010110000201 ∷ 4 ∷ 0x0312000000021000000010000100 ∷ 0x08120001000112000000 ∷ 0x08120001000110000200 ∷ 0x08120001010110000201 ∷ 4 ∷ 0x0312000000021000000010000100 ∷ 0x08120001000112000000 ∷ 0x08120001000110000200 ∷ 0x08120001010110000201 ∷ 0 ∷ 0b111 ∷ 0b111 ∷ []) ∷
    -- g08-plain-and-primed
    vector
    (expression (bin 2 mul (leaf 0 (cell cm 0 0)) (leaf 1 (cell cm 1 0))) false false false ∷ expression (leaf 3 (cell cm 2 0)) false false false ∷ [])
    (ask 0 1 false none ∷ ask 0 0 false none ∷ ask 0 1 false (some (result Kind.f 1)) ∷ ask 0 0 false (some (result Kind.f 2)) ∷ build ∷ [])
    (0 ∷ 0 ∷ 0b100 ∷ 0b110 ∷ 1 ∷ 65537 ∷ 0 ∷ 0 ∷ 0b110 ∷ 0b110 ∷ 2 ∷ 65537 ∷ 1 ∷ 0 ∷ 0 ∷ 0b110 ∷ 0b110 ∷ 2 ∷ 65538 ∷ 1 ∷ 0 ∷ 0 ∷ 0b110 ∷ 0b110 ∷ 2 ∷ 65538 ∷ 2 ∷ 4 ∷ 0x0312000001021000000110000101 ∷ 0x08210001010112000001 ∷ 0x0312000000021000000010000100 ∷ 0x08210002000112000000 ∷ 4 ∷ 0x0312000001021000000110000101 ∷ 0x08210001010112000001 ∷ 0x0312000000021000000010000100 ∷ 0x08210002000112000000 ∷ 4 ∷ 0x0312000001021000000110000101 ∷ 0x08210001010112000001 ∷ 0x0312000000021000000010000100 ∷ 0x08210002000112000000 ∷ 0 ∷ 0b111 ∷ 0b111 ∷ []) ∷
    -- g09-f-as-source
    vector
    (expression (bin 2 mul (leaf 0 (cell cm 0 0)) (leaf 1 (cell cm 1 0))) false false false ∷ [])
    (ask 0 0 false (some (result Kind.f 0)) ∷ ask 0 0 false (some (result (Kind.row q) 0)) ∷ build ∷ [])
    (0 ∷ 0 ∷ 0b11 ∷ 0b10 ∷ 1 ∷ 2 ∷ 0 ∷ 0 ∷ 0b11 ∷ 0b10 ∷ 1 ∷ 3 ∷ 3 ∷ 0x0312000000021000000010000100 ∷ 0x08210000000112000000 ∷ 0x08130000000121000000 ∷ 3 ∷ 0x0312000000021000000010000100 ∷ 0x08210000000112000000 ∷ 0x08130000000121000000 ∷ 3 ∷ 0x0312000000021000000010000100 ∷ 0x08210000000112000000 ∷ 0x08130000000121000000 ∷ 0 ∷ 0b11 ∷ 0b11 ∷ []) ∷
    -- g09-tmpexp-as-source
    vector
    (expression (bin 2 mul (leaf 0 (cell cm 0 0)) (leaf 1 (cell cm 1 0))) false false false ∷ [])
    (ask 0 0 false (some (result Kind.tmp_exp 0)) ∷ ask 0 0 false (some (result (Kind.row q) 0)) ∷ build ∷ [])
    (0 ∷ 0 ∷ 0b11 ∷ 0b10 ∷ 1 ∷ 2 ∷ 0 ∷ 0 ∷ 0b11 ∷ 0b10 ∷ 1 ∷ 3 ∷ 3 ∷ 0x0312000000021000000010000100 ∷ 0x08220000000112000000 ∷ 0x08130000000122000000 ∷ 3 ∷ 0x0312000000021000000010000100 ∷ 0x08220000000112000000 ∷ 0x08130000000122000000 ∷ 3 ∷ 0x0312000000021000000010000100 ∷ 0x08220000000112000000 ∷ 0x08130000000122000000 ∷ 0 ∷ 0b11 ∷ 0b11 ∷ []) ∷
    -- g09-tree-as-source
    vector
    (expression (bin 2 mul (leaf 0 (cell cm 0 0)) (leaf 1 (cell cm 1 0))) false false false ∷ [])
    (ask 0 0 false (some (result (Kind.bare tree1) 0)) ∷ ask 0 0 false (some (result (Kind.row q) 0)) ∷ build ∷ [])
    (0 ∷ 0 ∷ 0b11 ∷ 0b10 ∷ 1 ∷ 2 ∷ 0 ∷ 0 ∷ 0b11 ∷ 0b10 ∷ 1 ∷ 3 ∷ 3 ∷ 0x0312000000021000000010000100 ∷ 0x08240000000112000000 ∷ 0x08130000000124000000 ∷ 3 ∷ 0x0312000000021000000010000100 ∷ 0x08240000000112000000 ∷ 0x08130000000124000000 ∷ 3 ∷ 0x0312000000021000000010000100 ∷ 0x08240000000112000000 ∷ 0x08130000000124000000 ∷ 0 ∷ 0b11 ∷ 0b11 ∷ []) ∷
    -- g10-just-generated
    vector
    (expression (bin 2 mul (leaf 0 (cell cm 0 0)) (leaf 1 (cell cm 1 0))) false false false ∷ expression (neg 4 (leaf 3 (cell cm 2 0))) true false false ∷ expression (leaf 5 (exp 1 0)) false false false ∷ [])
    (ask 0 0 false none ∷ build ∷ ask 0 0 false (some (result Kind.f 0)) ∷ [])
    (0 ∷ 0 ∷ 0b1100 ∷ 0b1000 ∷ 1 ∷ 1 ∷ 1 ∷ 0x0312000000021000000010000100 ∷ 1 ∷ 0x0312000000021000000010000100 ∷ 1 ∷ 0x0312000000021000000010000100 ∷ 0 ∷ 0b1101 ∷ 0b1101 ∷ 8 ∷ []) ∷
    -- g10-just-generated-keep
    vector
    (expression (bin 2 mul (leaf 0 (cell cm 0 0)) (leaf 1 (cell cm 1 0))) false false false ∷ expression (neg 4 (leaf 3 (cell cm 2 0))) true false false ∷ expression (leaf 5 (exp 1 0)) false false false ∷ [])
    (ask 1 0 false none ∷ build ∷ ask 1 0 false (some (result Kind.f 0)) ∷ [])
    (0 ∷ 0 ∷ 0b1010 ∷ 0b1000 ∷ 1 ∷ 16777217 ∷ 1 ∷ 0x0212000100021400000000000000000000000010000200 ∷ 1 ∷ 0x0212000100021400000000000000000000000010000200 ∷ 1 ∷ 0x0212000100021400000000000000000000000010000200 ∷ 0 ∷ 0b1111 ∷ 0b1101 ∷ 8 ∷ []) ∷
    -- g10-never-generated
    vector
    (expression (bin 2 mul (leaf 0 (cell cm 0 0)) (leaf 1 (cell cm 1 0))) false false false ∷ expression (neg 4 (leaf 3 (cell cm 2 0))) true false false ∷ expression (leaf 5 (exp 1 0)) false false false ∷ [])
    (build ∷ ask 0 0 false (some (result Kind.f 0)) ∷ [])
    (0 ∷ 0 ∷ 0 ∷ 0 ∷ 0b1101 ∷ 0b1101 ∷ 8 ∷ []) ∷
    -- g10-never-generated-primed
    vector
    (expression (bin 2 mul (leaf 0 (cell cm 0 0)) (leaf 1 (cell cm 1 0))) false false false ∷ expression (neg 4 (leaf 3 (cell cm 2 0))) true false false ∷ expression (leaf 5 (exp 1 0)) false false false ∷ [])
    (build ∷ ask 0 1 false (some (result Kind.f 0)) ∷ [])
    (0 ∷ 0 ∷ 0 ∷ 0 ∷ 0b1101 ∷ 0b1101 ∷ 8 ∷ []) ∷
    -- g10-never-generated-keep
    vector
    (expression (bin 2 mul (leaf 0 (cell cm 0 0)) (leaf 1 (cell cm 1 0))) false false false ∷ expression (neg 4 (leaf 3 (cell cm 2 0))) true false false ∷ expression (leaf 5 (exp 1 0)) false false false ∷ [])
    (build ∷ ask 1 0 false (some (result Kind.f 0)) ∷ build ∷ [])
    (0 ∷ 0 ∷ 0 ∷ 0 ∷ 0b1101 ∷ 0b1101 ∷ 0 ∷ 0 ∷ 0b1111 ∷ 0b1101 ∷ 1 ∷ 16777218 ∷ 2 ∷ 0x0212000100021400000000000000000000000010000200 ∷ 0x08210000000112000100 ∷ 2 ∷ 0x0212000100021400000000000000000000000010000200 ∷ 0x08210000000112000100 ∷ 2 ∷ 0x0212000100021400000000000000000000000010000200 ∷ 0x08210000000112000100 ∷ 0 ∷ 0b1111 ∷ 0b1101 ∷ []) ∷
    -- g10-never-generated-keep-primed
    vector
    (expression (bin 2 mul (leaf 0 (cell cm 0 0)) (leaf 1 (cell cm 1 0))) false false false ∷ expression (neg 4 (leaf 3 (cell cm 2 0))) true false false ∷ expression (leaf 5 (exp 1 0)) false false false ∷ [])
    (build ∷ ask 1 1 false (some (result Kind.f 0)) ∷ [])
    (0 ∷ 0 ∷ 0 ∷ 0 ∷ 0b1101 ∷ 0b1101 ∷ 7 ∷ []) ∷
    -- g10-as-dependency
    vector
    (expression (bin 2 mul (leaf 0 (cell cm 0 0)) (leaf 1 (cell cm 1 0))) false false false ∷ expression (neg 4 (leaf 3 (cell cm 2 0))) true false false ∷ expression (leaf 5 (exp 1 0)) false false false ∷ [])
    (ask 2 0 false none ∷ ask 1 0 false (some (result Kind.f 0)) ∷ build ∷ ask 2 0 false (some (result Kind.f 0)) ∷ [])
    (0 ∷ 0 ∷ 0b1011 ∷ 0b1000 ∷ 2 ∷ 16777217 ∷ 33554433 ∷ 0 ∷ 0 ∷ 0b1011 ∷ 0b1000 ∷ 2 ∷ 16777218 ∷ 33554433 ∷ 3 ∷ 0x0212000100021400000000000000000000000010000200 ∷ 0x08210000000112000100 ∷ 0x08120002000112000100 ∷ 3 ∷ 0x0212000100021400000000000000000000000010000200 ∷ 0x08210000000112000100 ∷ 0x08120002000112000100 ∷ 3 ∷ 0x0212000100021400000000000000000000000010000200 ∷ 0x08210000000112000100 ∷ 0x08120002000112000100 ∷ 0 ∷ 0b1111 ∷ 0b1101 ∷ 8 ∷ []) ∷
    -- g11-second-is-mul
    vector
    (expression (leaf 0 (cell cm 0 0)) false false false ∷ expression (leaf 1 (cell cm 1 0)) false false false ∷ expression (leaf 2 (cell cm 2 0)) false false false ∷ expression (bin 7 add (leaf 3 (exp 0 0)) (bin 6 mul (leaf 4 (exp 1 0)) (leaf 5 (exp 2 0)))) false false false ∷ [])
    (ask 3 0 true none ∷ build ∷ [])
    (0 ∷ 0 ∷ 0b11111 ∷ 0b10000 ∷ 4 ∷ 1 ∷ 16777217 ∷ 33554433 ∷ 50331649 ∷ 4 ∷ 0x08120000000110000000 ∷ 0x08120001000110000100 ∷ 0x08120002000110000200 ∷ 0x041200030003120001001200020012000000 ∷ 4 ∷ 0x08120000000110000000 ∷ 0x08120001000110000100 ∷ 0x08120002000110000200 ∷ 0x041200030003120001001200020012000000 ∷ 4 ∷ 0x08120000000110000000 ∷ 0x08120001000110000100 ∷ 0x08120002000110000200 ∷ 0x041200030003120001001200020012000000 ∷ 0 ∷ 0b11111 ∷ 0b11111 ∷ []) ∷
    -- g11-second-is-mul-primed
    vector
    (expression (leaf 0 (cell cm 0 0)) false false false ∷ expression (leaf 1 (cell cm 1 0)) false false false ∷ expression (leaf 2 (cell cm 2 0)) false false false ∷ expression (bin 7 add (leaf 3 (exp 0 0)) (bin 6 mul (leaf 4 (exp 1 0)) (leaf 5 (exp 2 0)))) false false false ∷ [])
    (ask 3 1 true none ∷ build ∷ [])
    (0 ∷ 0 ∷ 0b10000 ∷ 0b11111 ∷ 4 ∷ 65537 ∷ 16842753 ∷ 33619969 ∷ 50397185 ∷ 4 ∷ 0x08120000010110000001 ∷ 0x08120001010110000101 ∷ 0x08120002010110000201 ∷ 0x041200030103120001011200020112000001 ∷ 4 ∷ 0x08120000010110000001 ∷ 0x08120001010110000101 ∷ 0x08120002010110000201 ∷ 0x041200030103120001011200020112000001 ∷ 4 ∷ 0x08120000010110000001 ∷ 0x08120001010110000101 ∷ 0x08120002010110000201 ∷ 0x041200030103120001011200020112000001 ∷ 0 ∷ 0b11111 ∷ 0b11111 ∷ []) ∷
    -- g11-second-is-mul-not-fused
    vector
    (expression (leaf 0 (cell cm 0 0)) false false false ∷ expression (leaf 1 (cell cm 1 0)) false false false ∷ expression (leaf 2 (cell cm 2 0)) false false false ∷ expression (bin 7 add (leaf 3 (exp 0 0)) (bin 6 mul (leaf 4 (exp 1 0)) (leaf 5 (exp 2 0)))) false false false ∷ [])
    (ask 3 0 false none ∷ build ∷ [])
    (0 ∷ 1 ∷ 0b11111 ∷ 0b10000 ∷ 4 ∷ 1 ∷ 16777217 ∷ 33554433 ∷ 50331650 ∷ 5 ∷ 0x08120000000110000000 ∷ 0x08120001000110000100 ∷ 0x08120002000110000200 ∷ 0x0320000000021200010012000200 ∷ 0x0112000300021200000020000000 ∷ 5 ∷ 0x08120000000110000000 ∷ 0x08120001000110000100 ∷ 0x08120002000110000200 ∷ 0x0320000000021200010012000200 ∷ 0x0112000300021200000020000000 ∷ 5 ∷ 0x08120000000110000000 ∷ 0x08120001000110000100 ∷ 0x08120002000110000200 ∷ 0x0320000000021200010012000200 ∷ 0x0112000300021200000020000000 ∷ 1 ∷ 0b11111 ∷ 0b11111 ∷ []) ∷
    -- g11-first-is-mul
    vector
    (expression (leaf 0 (cell cm 0 0)) false false false ∷ expression (leaf 1 (cell cm 1 0)) false false false ∷ expression (leaf 2 (cell cm 2 0)) false false false ∷ expression (bin 7 add (bin 5 mul (leaf 3 (exp 2 0)) (leaf 4 (exp 1 0))) (leaf 6 (exp 0 0))) false false false ∷ [])
    (ask 3 0 true none ∷ build ∷ [])
    (0 ∷ 0 ∷ 0b11111 ∷ 0b10000 ∷ 4 ∷ 33554433 ∷ 16777217 ∷ 1 ∷ 50331649 ∷ 4 ∷ 0x08120002000110000200 ∷ 0x08120001000110000100 ∷ 0x08120000000110000000 ∷ 0x041200030003120002001200010012000000 ∷ 4 ∷ 0x08120002000110000200 ∷ 0x08120001000110000100 ∷ 0x08120000000110000000 ∷ 0x041200030003120002001200010012000000 ∷ 4 ∷ 0x08120002000110000200 ∷ 0x08120001000110000100 ∷ 0x08120000000110000000 ∷ 0x041200030003120002001200010012000000 ∷ 0 ∷ 0b11111 ∷ 0b11111 ∷ []) ∷
    -- g12-dependency-first
    vector
    (expression (bin 4 add (bin 2 mul (leaf 0 (cell cm 0 0)) (leaf 1 (cell cm 1 0))) (leaf 3 (cell cm 2 0))) false false false ∷ expression (bin 9 add (bin 7 mul (leaf 5 (exp 0 0)) (leaf 6 (cell cm 3 0))) (leaf 8 (cell cm 4 0))) false false false ∷ [])
    (ask 1 0 true none ∷ ask 0 0 true none ∷ build ∷ [])
    (0 ∷ 1 ∷ 0b111 ∷ 0b100 ∷ 2 ∷ 2 ∷ 16777217 ∷ 0 ∷ 1 ∷ 0b111 ∷ 0b100 ∷ 2 ∷ 2 ∷ 16777217 ∷ 3 ∷ 0x0320000000021000000010000100 ∷ 0x0112000000022000000010000200 ∷ 0x041200010003120000001000030010000400 ∷ 3 ∷ 0x0320000000021000000010000100 ∷ 0x0112000000022000000010000200 ∷ 0x041200010003120000001000030010000400 ∷ 3 ∷ 0x0320000000021000000010000100 ∷ 0x0112000000022000000010000200 ∷ 0x041200010003120000001000030010000400 ∷ 1 ∷ 0b111 ∷ 0b111 ∷ []) ∷
    -- g12-fused-first
    vector
    (expression (bin 4 add (bin 2 mul (leaf 0 (cell cm 0 0)) (leaf 1 (cell cm 1 0))) (leaf 3 (cell cm 2 0))) false false false ∷ expression (bin 9 add (bin 7 mul (leaf 5 (exp 0 0)) (leaf 6 (cell cm 3 0))) (leaf 8 (cell cm 4 0))) false false false ∷ [])
    (ask 0 0 true none ∷ ask 1 0 false none ∷ build ∷ [])
    (0 ∷ 0 ∷ 0b110 ∷ 0b100 ∷ 1 ∷ 1 ∷ 0 ∷ 1 ∷ 0b111 ∷ 0b100 ∷ 2 ∷ 1 ∷ 16777218 ∷ 3 ∷ 0x041200000003100000001000010010000200 ∷ 0x0320000000021200000010000300 ∷ 0x0112000100022000000010000400 ∷ 3 ∷ 0x041200000003100000001000010010000200 ∷ 0x0320000000021200000010000300 ∷ 0x0112000100022000000010000400 ∷ 3 ∷ 0x041200000003100000001000010010000200 ∷ 0x0320000000021200000010000300 ∷ 0x0112000100022000000010000400 ∷ 1 ∷ 0b111 ∷ 0b111 ∷ []) ∷
    -- g12-plain-first
    vector
    (expression (bin 4 add (bin 2 mul (leaf 0 (cell cm 0 0)) (leaf 1 (cell cm 1 0))) (leaf 3 (cell cm 2 0))) false false false ∷ expression (bin 9 add (bin 7 mul (leaf 5 (exp 0 0)) (leaf 6 (cell cm 3 0))) (leaf 8 (cell cm 4 0))) false false false ∷ [])
    (ask 0 0 false none ∷ ask 0 0 true none ∷ build ∷ [])
    (0 ∷ 1 ∷ 0b110 ∷ 0b100 ∷ 1 ∷ 2 ∷ 0 ∷ 1 ∷ 0b110 ∷ 0b100 ∷ 1 ∷ 2 ∷ 2 ∷ 0x0320000000021000000010000100 ∷ 0x0112000000022000000010000200 ∷ 2 ∷ 0x0320000000021000000010000100 ∷ 0x0112000000022000000010000200 ∷ 2 ∷ 0x0320000000021000000010000100 ∷ 0x0112000000022000000010000200 ∷ 1 ∷ 0b111 ∷ 0b111 ∷ []) ∷
    -- g12-each-prime-its-own
    vector
    (expression (bin 4 add (bin 2 mul (leaf 0 (cell cm 0 0)) (leaf 1 (cell cm 1 0))) (leaf 3 (cell cm 2 0))) false false false ∷ expression (bin 9 add (bin 7 mul (leaf 5 (exp 0 0)) (leaf 6 (cell cm 3 0))) (leaf 8 (cell cm 4 0))) false false false ∷ [])
    (ask 0 0 false none ∷ ask 0 1 true none ∷ build ∷ [])
    (0 ∷ 1 ∷ 0b110 ∷ 0b100 ∷ 1 ∷ 2 ∷ 0 ∷ 1 ∷ 0b110 ∷ 0b110 ∷ 2 ∷ 2 ∷ 65537 ∷ 3 ∷ 0x0320000000021000000010000100 ∷ 0x0112000000022000000010000200 ∷ 0x041200000103100000011000010110000201 ∷ 3 ∷ 0x0320000000021000000010000100 ∷ 0x0112000000022000000010000200 ∷ 0x041200000103100000011000010110000201 ∷ 3 ∷ 0x0320000000021000000010000100 ∷ 0x0112000000022000000010000200 ∷ 0x041200000103100000011000010110000201 ∷ 1 ∷ 0b111 ∷ 0b111 ∷ []) ∷
    -- g13-in-muladd
    vector
    (expression (muladd 16 (bin 4 add (bin 2 mul (leaf 0 (cell cm 0 0)) (leaf 1 (cell cm 1 0))) (leaf 3 (cell cm 2 0))) (neg 10 (bin 9 add (bin 7 mul (leaf 5 (cell cm 0 0)) (leaf 6 (cell cm 1 0))) (leaf 8 (cell cm 2 0)))) (bin 15 add (bin 13 mul (leaf 11 (cell cm 0 0)) (leaf 12 (cell cm 1 0))) (leaf 14 (cell cm 2 0)))) false false false ∷ [])
    (ask 0 0 true none ∷ build ∷ [])
    (0 ∷ 4 ∷ 0b11 ∷ 0b10 ∷ 1 ∷ 5 ∷ 5 ∷ 0x042000000003100000001000010010000200 ∷ 0x042000010003100000001000010010000200 ∷ 0x0220000200021400000000000000000000000020000100 ∷ 0x042000030003100000001000010010000200 ∷ 0x041200000003200000002000020020000300 ∷ 5 ∷ 0x042000000003100000001000010010000200 ∷ 0x042000010003100000001000010010000200 ∷ 0x0220000200021400000000000000000000000020000100 ∷ 0x042000030003100000001000010010000200 ∷ 0x041200000003200000002000020020000300 ∷ 5 ∷ 0x042000000003100000001000010010000200 ∷ 0x042000010003100000001000010010000200 ∷ 0x0220000200021400000000000000000000000020000100 ∷ 0x042000030003100000001000010010000200 ∷ 0x041200000003200000002000020020000300 ∷ 4 ∷ 0b11 ∷ 0b11 ∷ []) ∷
    -- g13-in-mulc
    vector
    (expression (binc 5 mulc (bin 4 add (bin 2 mul (leaf 0 (cell cm 0 0)) (leaf 1 (cell cm 1 0))) (leaf 3 (cell cm 2 0))) (lit false 3)) false false false ∷ [])
    (ask 0 0 true none ∷ build ∷ [])
    (0 ∷ 1 ∷ 0b11 ∷ 0b10 ∷ 1 ∷ 2 ∷ 2 ∷ 0x042000000003100000001000010010000200 ∷ 0x0312000000022000000014000000000000000000000003 ∷ 2 ∷ 0x042000000003100000001000010010000200 ∷ 0x0312000000022000000014000000000000000000000003 ∷ 2 ∷ 0x042000000003100000001000010010000200 ∷ 0x0312000000022000000014000000000000000000000003 ∷ 1 ∷ 0b11 ∷ 0b11 ∷ []) ∷
    -- g13-in-neg
    vector
    (expression (neg 5 (bin 4 add (bin 2 mul (leaf 0 (cell cm 0 0)) (leaf 1 (cell cm 1 0))) (leaf 3 (cell cm 2 0)))) false false false ∷ [])
    (ask 0 0 true none ∷ build ∷ [])
    (0 ∷ 1 ∷ 0b11 ∷ 0b10 ∷ 1 ∷ 2 ∷ 2 ∷ 0x042000000003100000001000010010000200 ∷ 0x0212000000021400000000000000000000000020000000 ∷ 2 ∷ 0x042000000003100000001000010010000200 ∷ 0x0212000000021400000000000000000000000020000000 ∷ 2 ∷ 0x042000000003100000001000010010000200 ∷ 0x0212000000021400000000000000000000000020000000 ∷ 1 ∷ 0b11 ∷ 0b11 ∷ []) ∷
    -- g13-in-sub
    vector
    (expression (bin 10 sub (bin 4 add (bin 2 mul (leaf 0 (cell cm 0 0)) (leaf 1 (cell cm 1 0))) (leaf 3 (cell cm 2 0))) (bin 9 add (bin 7 mul (leaf 5 (cell cm 0 0)) (leaf 6 (cell cm 1 0))) (leaf 8 (cell cm 2 0)))) false false false ∷ [])
    (ask 0 0 true none ∷ build ∷ [])
    (0 ∷ 2 ∷ 0b11 ∷ 0b10 ∷ 1 ∷ 3 ∷ 3 ∷ 0x042000000003100000001000010010000200 ∷ 0x042000010003100000001000010010000200 ∷ 0x0212000000022000000020000100 ∷ 3 ∷ 0x042000000003100000001000010010000200 ∷ 0x042000010003100000001000010010000200 ∷ 0x0212000000022000000020000100 ∷ 3 ∷ 0x042000000003100000001000010010000200 ∷ 0x042000010003100000001000010010000200 ∷ 0x0212000000022000000020000100 ∷ 2 ∷ 0b11 ∷ 0b11 ∷ []) ∷
    -- g13-in-fused-operands
    vector
    (expression (bin 18 add (bin 11 mul (bin 4 add (bin 2 mul (leaf 0 (cell cm 0 0)) (leaf 1 (cell cm 1 0))) (leaf 3 (cell cm 2 0))) (neg 10 (bin 9 add (bin 7 mul (leaf 5 (cell cm 0 0)) (leaf 6 (cell cm 1 0))) (leaf 8 (cell cm 2 0))))) (binc 17 mulc (bin 16 add (bin 14 mul (leaf 12 (cell cm 0 0)) (leaf 13 (cell cm 1 0))) (leaf 15 (cell cm 2 0))) (lit false 5))) false false false ∷ [])
    (ask 0 0 true none ∷ build ∷ [])
    (0 ∷ 5 ∷ 0b11 ∷ 0b10 ∷ 1 ∷ 6 ∷ 6 ∷ 0x042000000003100000001000010010000200 ∷ 0x042000010003100000001000010010000200 ∷ 0x0220000200021400000000000000000000000020000100 ∷ 0x042000030003100000001000010010000200 ∷ 0x0320000400022000030014000000000000000000000005 ∷ 0x041200000003200000002000020020000400 ∷ 6 ∷ 0x042000000003100000001000010010000200 ∷ 0x042000010003100000001000010010000200 ∷ 0x0220000200021400000000000000000000000020000100 ∷ 0x042000030003100000001000010010000200 ∷ 0x0320000400022000030014000000000000000000000005 ∷ 0x041200000003200000002000020020000400 ∷ 6 ∷ 0x042000000003100000001000010010000200 ∷ 0x042000010003100000001000010010000200 ∷ 0x0220000200021400000000000000000000000020000100 ∷ 0x042000030003100000001000010010000200 ∷ 0x0320000400022000030014000000000000000000000005 ∷ 0x041200000003200000002000020020000400 ∷ 5 ∷ 0b11 ∷ 0b11 ∷ []) ∷
    -- g13-in-fused-operands-second
    vector
    (expression (bin 17 add (binc 5 addc (bin 4 add (bin 2 mul (leaf 0 (cell cm 0 0)) (leaf 1 (cell cm 1 0))) (leaf 3 (cell cm 2 0))) (lit false 5)) (bin 16 mul (bin 10 add (bin 8 mul (leaf 6 (cell cm 0 0)) (leaf 7 (cell cm 1 0))) (leaf 9 (cell cm 2 0))) (bin 15 add (bin 13 mul (leaf 11 (cell cm 0 0)) (leaf 12 (cell cm 1 0))) (leaf 14 (cell cm 2 0))))) false false false ∷ [])
    (ask 0 0 true none ∷ build ∷ [])
    (0 ∷ 4 ∷ 0b11 ∷ 0b10 ∷ 1 ∷ 5 ∷ 5 ∷ 0x042000000003100000001000010010000200 ∷ 0x042000010003100000001000010010000200 ∷ 0x042000020003100000001000010010000200 ∷ 0x0120000300022000020014000000000000000000000005 ∷ 0x041200000003200000002000010020000300 ∷ 5 ∷ 0x042000000003100000001000010010000200 ∷ 0x042000010003100000001000010010000200 ∷ 0x042000020003100000001000010010000200 ∷ 0x0120000300022000020014000000000000000000000005 ∷ 0x041200000003200000002000010020000300 ∷ 5 ∷ 0x042000000003100000001000010010000200 ∷ 0x042000010003100000001000010010000200 ∷ 0x042000020003100000001000010010000200 ∷ 0x0120000300022000020014000000000000000000000005 ∷ 0x041200000003200000002000010020000300 ∷ 4 ∷ 0b11 ∷ 0b11 ∷ []) ∷
    -- g13-mulc-is-no-mul
    vector
    (expression (bin 3 add (binc 1 mulc (leaf 0 (cell cm 0 0)) (lit false 3)) (leaf 2 (cell cm 1 0))) false false false ∷ [])
    (ask 0 0 true none ∷ build ∷ [])
    (0 ∷ 1 ∷ 0b11 ∷ 0b10 ∷ 1 ∷ 2 ∷ 2 ∷ 0x0320000000021000000014000000000000000000000003 ∷ 0x0112000000022000000010000100 ∷ 2 ∷ 0x0320000000021000000014000000000000000000000003 ∷ 0x0112000000022000000010000100 ∷ 2 ∷ 0x0320000000021000000014000000000000000000000003 ∷ 0x0112000000022000000010000100 ∷ 1 ∷ 0b11 ∷ 0b11 ∷ []) ∷
    -- g13-mulc-then-mul
    vector
    (expression (bin 5 add (binc 1 mulc (leaf 0 (cell cm 0 0)) (lit false 3)) (bin 4 mul (leaf 2 (cell cm 1 0)) (leaf 3 (cell cm 2 0)))) false false false ∷ [])
    (ask 0 0 true none ∷ build ∷ [])
    (0 ∷ 1 ∷ 0b11 ∷ 0b10 ∷ 1 ∷ 2 ∷ 2 ∷ 0x0320000000021000000014000000000000000000000003 ∷ 0x041200000003100001001000020020000000 ∷ 2 ∷ 0x0320000000021000000014000000000000000000000003 ∷ 0x041200000003100001001000020020000000 ∷ 2 ∷ 0x0320000000021000000014000000000000000000000003 ∷ 0x041200000003100001001000020020000000 ∷ 1 ∷ 0b11 ∷ 0b11 ∷ []) ∷
    -- g13-addc-of-mul
    vector
    (expression (binc 3 addc (bin 2 mul (leaf 0 (cell cm 0 0)) (leaf 1 (cell cm 1 0))) (lit false 7)) false false false ∷ [])
    (ask 0 0 true none ∷ build ∷ [])
    (0 ∷ 1 ∷ 0b11 ∷ 0b10 ∷ 1 ∷ 2 ∷ 2 ∷ 0x0320000000021000000010000100 ∷ 0x0112000000022000000014000000000000000000000007 ∷ 2 ∷ 0x0320000000021000000010000100 ∷ 0x0112000000022000000014000000000000000000000007 ∷ 2 ∷ 0x0320000000021000000010000100 ∷ 0x0112000000022000000014000000000000000000000007 ∷ 1 ∷ 0b11 ∷ 0b11 ∷ []) ∷
    -- g13-sub-of-mul
    vector
    (expression (bin 6 sub (bin 2 mul (leaf 0 (cell cm 0 0)) (leaf 1 (cell cm 1 0))) (bin 5 mul (leaf 3 (cell cm 2 0)) (leaf 4 (cell cm 3 0)))) false false false ∷ [])
    (ask 0 0 true none ∷ build ∷ [])
    (0 ∷ 2 ∷ 0b11 ∷ 0b10 ∷ 1 ∷ 3 ∷ 3 ∷ 0x0320000000021000000010000100 ∷ 0x0320000100021000020010000300 ∷ 0x0212000000022000000020000100 ∷ 3 ∷ 0x0320000000021000000010000100 ∷ 0x0320000100021000020010000300 ∷ 0x0212000000022000000020000100 ∷ 3 ∷ 0x0320000000021000000010000100 ∷ 0x0320000100021000020010000300 ∷ 0x0212000000022000000020000100 ∷ 2 ∷ 0b11 ∷ 0b11 ∷ []) ∷
    -- g13-muladd-is-no-mul
    vector
    (expression (bin 5 add (muladd 3 (leaf 0 (cell cm 0 0)) (leaf 1 (cell cm 1 0)) (leaf 2 (cell cm 2 0))) (leaf 4 (cell cm 3 0))) false false false ∷ [])
    (ask 0 0 true none ∷ build ∷ [])
    (0 ∷ 1 ∷ 0b11 ∷ 0b10 ∷ 1 ∷ 2 ∷ 2 ∷ 0x042000000003100000001000010010000200 ∷ 0x0112000000022000000010000300 ∷ 2 ∷ 0x042000000003100000001000010010000200 ∷ 0x0112000000022000000010000300 ∷ 2 ∷ 0x042000000003100000001000010010000200 ∷ 0x0112000000022000000010000300 ∷ 1 ∷ 0b11 ∷ 0b11 ∷ []) ∷
    -- g13-chain
    vector
    (expression (bin 10 add (bin 6 add (bin 2 mul (leaf 0 (cell cm 0 0)) (leaf 1 (cell cm 1 0))) (bin 5 mul (leaf 3 (cell cm 2 0)) (leaf 4 (cell cm 3 0)))) (bin 9 mul (leaf 7 (cell cm 4 0)) (leaf 8 (cell cm 5 0)))) false false false ∷ [])
    (ask 0 0 true none ∷ build ∷ [])
    (0 ∷ 2 ∷ 0b11 ∷ 0b10 ∷ 1 ∷ 3 ∷ 3 ∷ 0x0320000000021000020010000300 ∷ 0x042000010003100000001000010020000000 ∷ 0x041200000003100004001000050020000100 ∷ 3 ∷ 0x0320000000021000020010000300 ∷ 0x042000010003100000001000010020000000 ∷ 0x041200000003100004001000050020000100 ∷ 3 ∷ 0x0320000000021000020010000300 ∷ 0x042000010003100000001000010020000000 ∷ 0x041200000003100004001000050020000100 ∷ 2 ∷ 0b11 ∷ 0b11 ∷ []) ∷
    -- g13-mul-of-mul
    vector
    (expression (bin 8 add (bin 6 mul (bin 2 mul (leaf 0 (cell cm 0 0)) (leaf 1 (cell cm 1 0))) (bin 5 mul (leaf 3 (cell cm 2 0)) (leaf 4 (cell cm 3 0)))) (leaf 7 (cell cm 4 0))) false false false ∷ [])
    (ask 0 0 true none ∷ build ∷ [])
    (0 ∷ 2 ∷ 0b11 ∷ 0b10 ∷ 1 ∷ 3 ∷ 3 ∷ 0x0320000000021000000010000100 ∷ 0x0320000100021000020010000300 ∷ 0x041200000003200000002000010010000400 ∷ 3 ∷ 0x0320000000021000000010000100 ∷ 0x0320000100021000020010000300 ∷ 0x041200000003200000002000010010000400 ∷ 3 ∷ 0x0320000000021000000010000100 ∷ 0x0320000100021000020010000300 ∷ 0x041200000003200000002000010010000400 ∷ 2 ∷ 0b11 ∷ 0b11 ∷ []) ∷
    -- g14-plain
    vector
    (expression (bin 6 add (bin 3 mul (leaf 0 (cell cm 0 0)) (neg 2 (leaf 1 (cell cm 1 0)))) (binc 5 mulc (leaf 4 (cell cm 2 0)) (lit false 3))) false false false ∷ expression (leaf 7 (exp 0 0)) false false false ∷ [])
    (ask 1 0 false none ∷ build ∷ [])
    (0 ∷ 3 ∷ 0b111 ∷ 0b100 ∷ 2 ∷ 4 ∷ 16777217 ∷ 5 ∷ 0x0220000000021400000000000000000000000010000100 ∷ 0x0320000100021000000020000000 ∷ 0x0320000200021000020014000000000000000000000003 ∷ 0x0112000000022000010020000200 ∷ 0x08120001000112000000 ∷ 5 ∷ 0x0220000000021400000000000000000000000010000100 ∷ 0x0320000100021000000020000000 ∷ 0x0320000200021000020014000000000000000000000003 ∷ 0x0112000000022000010020000200 ∷ 0x08120001000112000000 ∷ 5 ∷ 0x0220000000021400000000000000000000000010000100 ∷ 0x0320000100021000000020000000 ∷ 0x0320000200021000020014000000000000000000000003 ∷ 0x0112000000022000010020000200 ∷ 0x08120001000112000000 ∷ 3 ∷ 0b111 ∷ 0b111 ∷ []) ∷
    -- g14-primed
    vector
    (expression (bin 6 add (bin 3 mul (leaf 0 (cell cm 0 0)) (neg 2 (leaf 1 (cell cm 1 0)))) (binc 5 mulc (leaf 4 (cell cm 2 0)) (lit false 3))) false false false ∷ expression (leaf 7 (exp 0 0)) false false false ∷ [])
    (ask 1 1 false none ∷ build ∷ [])
    (0 ∷ 3 ∷ 0b100 ∷ 0b111 ∷ 2 ∷ 65540 ∷ 16842753 ∷ 5 ∷ 0x0220000000021400000000000000000000000010000101 ∷ 0x0320000100021000000120000000 ∷ 0x0320000200021000020114000000000000000000000003 ∷ 0x0112000001022000010020000200 ∷ 0x08120001010112000001 ∷ 5 ∷ 0x0220000000021400000000000000000000000010000101 ∷ 0x0320000100021000000120000000 ∷ 0x0320000200021000020114000000000000000000000003 ∷ 0x0112000001022000010020000200 ∷ 0x08120001010112000001 ∷ 5 ∷ 0x0220000000021400000000000000000000000010000101 ∷ 0x0320000100021000000120000000 ∷ 0x0320000200021000020114000000000000000000000003 ∷ 0x0112000001022000010020000200 ∷ 0x08120001010112000001 ∷ 3 ∷ 0b111 ∷ 0b111 ∷ []) ∷
    -- g14-fused
    vector
    (expression (bin 6 add (bin 3 mul (leaf 0 (cell cm 0 0)) (neg 2 (leaf 1 (cell cm 1 0)))) (binc 5 mulc (leaf 4 (cell cm 2 0)) (lit false 3))) false false false ∷ expression (leaf 7 (exp 0 0)) false false false ∷ [])
    (ask 0 0 true none ∷ ask 0 1 true none ∷ build ∷ [])
    (0 ∷ 2 ∷ 0b110 ∷ 0b100 ∷ 1 ∷ 3 ∷ 0 ∷ 4 ∷ 0b110 ∷ 0b110 ∷ 2 ∷ 3 ∷ 65539 ∷ 6 ∷ 0x0220000000021400000000000000000000000010000100 ∷ 0x0320000100021000020014000000000000000000000003 ∷ 0x041200000003100000002000000020000100 ∷ 0x0220000200021400000000000000000000000010000101 ∷ 0x0320000300021000020114000000000000000000000003 ∷ 0x041200000103100000012000020020000300 ∷ 6 ∷ 0x0220000000021400000000000000000000000010000100 ∷ 0x0320000100021000020014000000000000000000000003 ∷ 0x041200000003100000002000000020000100 ∷ 0x0220000200021400000000000000000000000010000101 ∷ 0x0320000300021000020114000000000000000000000003 ∷ 0x041200000103100000012000020020000300 ∷ 6 ∷ 0x0220000000021400000000000000000000000010000100 ∷ 0x0320000100021000020014000000000000000000000003 ∷ 0x041200000003100000002000000020000100 ∷ 0x0220000200021400000000000000000000000010000101 ∷ 0x0320000300021000020114000000000000000000000003 ∷ 0x041200000103100000012000020020000300 ∷ 4 ∷ 0b111 ∷ 0b111 ∷ []) ∷
    -- g14-beside-a-leaf-with-next
    vector
    (expression (muladd 6 (binc 1 addc (leaf 0 (cell cm 0 0)) (lit false 1)) (bin 4 sub (leaf 2 (cell cm 1 0)) (leaf 3 (cell cm 2 0))) (leaf 5 (cell cm 3 1))) true false false ∷ [])
    (ask 0 0 false none ∷ build ∷ ask 0 1 false none ∷ [])
    (0 ∷ 2 ∷ 0b11 ∷ 0b10 ∷ 1 ∷ 3 ∷ 3 ∷ 0x0120000000021000000014000000000000000000000001 ∷ 0x0220000100021000010010000200 ∷ 0x041200000003200000002000010010000301 ∷ 3 ∷ 0x0120000000021000000014000000000000000000000001 ∷ 0x0220000100021000010010000200 ∷ 0x041200000003200000002000010010000301 ∷ 3 ∷ 0x0120000000021000000014000000000000000000000001 ∷ 0x0220000100021000010010000200 ∷ 0x041200000003200000002000010010000301 ∷ 2 ∷ 0b11 ∷ 0b10 ∷ 5 ∷ []) ∷
    -- g15-keep
    vector
    (expression (bin 2 mul (leaf 0 (cell cm 0 0)) (leaf 1 (cell cm 1 0))) true false false ∷ [])
    (ask 0 0 false none ∷ ask 0 1 false none ∷ build ∷ ask 0 0 false none ∷ ask 0 1 false none ∷ build ∷ [])
    (0 ∷ 0 ∷ 0b11 ∷ 0b10 ∷ 1 ∷ 1 ∷ 0 ∷ 0 ∷ 0b11 ∷ 0b11 ∷ 2 ∷ 1 ∷ 65537 ∷ 2 ∷ 0x0312000000021000000010000100 ∷ 0x0312000001021000000110000101 ∷ 1 ∷ 0x0312000001021000000110000101 ∷ 1 ∷ 0x0312000001021000000110000101 ∷ 0 ∷ 0b11 ∷ 0b11 ∷ 0 ∷ 0 ∷ 0b11 ∷ 0b11 ∷ 0 ∷ 0 ∷ 0 ∷ 0b11 ∷ 0b11 ∷ 0 ∷ 0 ∷ 0 ∷ 0 ∷ 0 ∷ 0b11 ∷ 0b11 ∷ []) ∷
    -- g15-keep2ns
    vector
    (expression (bin 2 mul (leaf 0 (cell cm 0 0)) (leaf 1 (cell cm 1 0))) false true false ∷ [])
    (ask 0 0 false none ∷ ask 0 1 false none ∷ build ∷ ask 0 0 false none ∷ ask 0 1 false none ∷ build ∷ [])
    (0 ∷ 0 ∷ 0b11 ∷ 0b10 ∷ 1 ∷ 1 ∷ 0 ∷ 0 ∷ 0b11 ∷ 0b11 ∷ 2 ∷ 1 ∷ 65537 ∷ 2 ∷ 0x0312000000021000000010000100 ∷ 0x0312000001021000000110000101 ∷ 1 ∷ 0x0312000001021000000110000101 ∷ 1 ∷ 0x0312000001021000000110000101 ∷ 0 ∷ 0b11 ∷ 0b11 ∷ 0 ∷ 0 ∷ 0b11 ∷ 0b11 ∷ 0 ∷ 0 ∷ 0 ∷ 0b11 ∷ 0b11 ∷ 0 ∷ 0 ∷ 0 ∷ 0 ∷ 0 ∷ 0b11 ∷ 0b11 ∷ []) ∷
    -- g15-idq
    vector
    (expression (bin 2 mul (leaf 0 (cell cm 0 0)) (leaf 1 (cell cm 1 0))) false false true ∷ [])
    (ask 0 0 false none ∷ ask 0 1 false none ∷ build ∷ ask 0 0 false none ∷ ask 0 1 false none ∷ build ∷ [])
    (0 ∷ 0 ∷ 0b11 ∷ 0b10 ∷ 1 ∷ 1 ∷ 0 ∷ 0 ∷ 0b11 ∷ 0b11 ∷ 2 ∷ 1 ∷ 65537 ∷ 2 ∷ 0x0312000000021000000010000100 ∷ 0x0312000001021000000110000101 ∷ 1 ∷ 0x0312000001021000000110000101 ∷ 1 ∷ 0x0312000001021000000110000101 ∷ 0 ∷ 0b11 ∷ 0b11 ∷ 0 ∷ 0 ∷ 0b11 ∷ 0b11 ∷ 0 ∷ 0 ∷ 0 ∷ 0b11 ∷ 0b11 ∷ 0 ∷ 0 ∷ 0 ∷ 0 ∷ 0 ∷ 0b11 ∷ 0b11 ∷ []) ∷
    -- g15-none
    vector
    (expression (bin 2 mul (leaf 0 (cell cm 0 0)) (leaf 1 (cell cm 1 0))) false false false ∷ [])
    (ask 0 0 false none ∷ ask 0 1 false none ∷ build ∷ ask 0 0 false none ∷ ask 0 1 false none ∷ build ∷ [])
    (0 ∷ 0 ∷ 0b11 ∷ 0b10 ∷ 1 ∷ 1 ∷ 0 ∷ 0 ∷ 0b11 ∷ 0b11 ∷ 2 ∷ 1 ∷ 65537 ∷ 2 ∷ 0x0312000000021000000010000100 ∷ 0x0312000001021000000110000101 ∷ 2 ∷ 0x0312000000021000000010000100 ∷ 0x0312000001021000000110000101 ∷ 2 ∷ 0x0312000000021000000010000100 ∷ 0x0312000001021000000110000101 ∷ 0 ∷ 0b11 ∷ 0b11 ∷ 0 ∷ 0 ∷ 0b11 ∷ 0b11 ∷ 0 ∷ 0 ∷ 0 ∷ 0b11 ∷ 0b11 ∷ 0 ∷ 0 ∷ 0 ∷ 0 ∷ 0 ∷ 0b11 ∷ 0b11 ∷ []) ∷
    []

pub agreed : agree vectors ≡ true
unfolding vectors
agreed = refl
