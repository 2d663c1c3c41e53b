-- The 5 vectors of the family doc, made by tools/vectors_to_antt.py.
-- Assumes nothing.
use Rattle.std.specs.Prelude.{◌≡◌, refl, true, false, List, [], ◌∷◌}
use Rattle.std.proofs.Math.Option.{none}
use Rattle.meaning.specs.Trees.{cm, const, add, mul, cell, leaf, bin, neg}
use Rattle.replay_meaning.specs.Replay.{Vector, vector, ask, build, expression, agree}

unfoldable pub vectors : List Vector
vectors =
    -- doc-run-fused
    vector
    (expression (bin 4 add (bin 2 mul (leaf 0 (cell cm 0 0)) (leaf 1 (cell cm 1 0))) (leaf 3 (cell const 0 1))) false false false ∷ [])
    (ask 0 0 true none ∷ build ∷ [])
    (0 ∷ 0 ∷ 0b11 ∷ 0b10 ∷ 1 ∷ 1 ∷ 1 ∷ 0x041200000003100000001000010011000001 ∷ 1 ∷ 0x041200000003100000001000010011000001 ∷ 1 ∷ 0x041200000003100000001000010011000001 ∷ 0 ∷ 0b11 ∷ 0b11 ∷ []) ∷
    -- doc-run
    vector
    (expression (bin 4 add (bin 2 mul (leaf 0 (cell cm 0 0)) (leaf 1 (cell cm 1 0))) (leaf 3 (cell const 0 1))) false false false ∷ [])
    (ask 0 0 false none ∷ build ∷ [])
    (0 ∷ 1 ∷ 0b11 ∷ 0b10 ∷ 1 ∷ 2 ∷ 2 ∷ 0x0320000000021000000010000100 ∷ 0x0112000000022000000011000001 ∷ 2 ∷ 0x0320000000021000000010000100 ∷ 0x0112000000022000000011000001 ∷ 2 ∷ 0x0320000000021000000010000100 ∷ 0x0112000000022000000011000001 ∷ 1 ∷ 0b11 ∷ 0b11 ∷ []) ∷
    -- doc-two-products-fused
    vector
    (expression (bin 6 add (bin 2 mul (leaf 0 (cell cm 0 0)) (leaf 1 (cell cm 1 0))) (bin 5 mul (leaf 3 (cell cm 2 0)) (leaf 4 (cell cm 3 0)))) false false false ∷ [])
    (ask 0 0 true none ∷ build ∷ [])
    (0 ∷ 1 ∷ 0b11 ∷ 0b10 ∷ 1 ∷ 2 ∷ 2 ∷ 0x0320000000021000020010000300 ∷ 0x041200000003100000001000010020000000 ∷ 2 ∷ 0x0320000000021000020010000300 ∷ 0x041200000003100000001000010020000000 ∷ 2 ∷ 0x0320000000021000020010000300 ∷ 0x041200000003100000001000010020000000 ∷ 1 ∷ 0b11 ∷ 0b11 ∷ []) ∷
    -- doc-neg
    vector
    (expression (neg 1 (leaf 0 (cell cm 0 0))) false false false ∷ [])
    (ask 0 0 false none ∷ build ∷ [])
    (0 ∷ 0 ∷ 0b11 ∷ 0b10 ∷ 1 ∷ 1 ∷ 1 ∷ 0x0212000000021400000000000000000000000010000000 ∷ 1 ∷ 0x0212000000021400000000000000000000000010000000 ∷ 1 ∷ 0x0212000000021400000000000000000000000010000000 ∷ 0 ∷ 0b11 ∷ 0b11 ∷ []) ∷
    -- doc-bare-cm
    vector
    (expression (leaf 0 (cell cm 0 0)) false false false ∷ [])
    (ask 0 0 false none ∷ build ∷ [])
    (0 ∷ 0 ∷ 0b11 ∷ 0b10 ∷ 1 ∷ 1 ∷ 1 ∷ 0x08120000000110000000 ∷ 1 ∷ 0x08120000000110000000 ∷ 1 ∷ 0x08120000000110000000 ∷ 0 ∷ 0b11 ∷ 0b11 ∷ []) ∷
    []

pub agreed : agree vectors ≡ true
unfolding vectors
agreed = refl
