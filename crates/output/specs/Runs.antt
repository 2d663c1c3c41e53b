-- Document 01's two whole runs, and a refusal: what is printed, character by character.
-- Assumes nothing.
use Rattle.std.specs.Prelude.{ℕ, ◌≡◌, refl, Bool, true, false, List, [], ◌∷◌}
use Prim.Native.Char.{code}
use Prim.Native.String as text
use Rattle.std.proofs.Math.Option.{none}
use Rattle.kinds.specs.BigEndian.{u16_bytes}
use Rattle.meaning.specs.Refusals.{Answer, refused, malformed}
use Rattle.meaning.specs.Trees.{RowKind, Op, Leaf, Expr}
use Rattle.meaning.specs.Building.{Segment, whole}
use Rattle.frames.specs.Hexed.{hex_digit, hex_line}
use Rattle.output.specs.Output.{cell_out, ref_out, refs_out, step_out, line, step_line, list_lines, counter_line, refusal_line, printed}

-- the characters of a text
abbrev pub codes : text.String → List ℕ
codes text.[] = []
codes (text.◌∷◌ c s) = code c ∷ codes s

-- the pool of document 01's run, cm0·cm1 + const0', and its one request, fused or not
abbrev cm : ℕ → ℕ → Expr
cm n i = Expr.leaf n (Leaf.cell RowKind.cm i 0)

abbrev pub run : Bool → Answer Segment
run fused =
    whole 2
    (record {
      tree = Expr.bin 4 Op.add (Expr.bin 2 Op.mul (cm 0 0) (cm 1 1)) (Expr.leaf 3 (Leaf.cell RowKind.const 0 1));
      keep = false;
      keep2ns = false;
      id_q = false;
    }
    ∷ [])
    (record { expression = 0; row = 0; fused = fused; result = none } ∷ [])

-- THE TWO RUNS
pub runs :
    (printed (run true) ≡ codes "041200000003100000001000010011000001\nfe0000\n")
    × (printed (run false) ≡ codes "0320000000021000000010000100\n0112000000022000000011000001\nfe0001\n")
unfolding printed list_lines step_line line counter_line step_out refs_out ref_out cell_out u16_bytes hex_line hex_digit
runs = (refl, refl)

-- a refusal prints only its number
pub refusal-printed : printed (refused malformed none) ≡ codes "ff01\n"
unfolding printed refusal_line line hex_line hex_digit
refusal-printed = refl
