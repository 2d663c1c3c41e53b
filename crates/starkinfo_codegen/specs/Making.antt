-- A block in terms of generation: it is what `make_one` makes of its job, and the list after it has its steps at the end.
-- Assumes nothing.
use Rattle.std.specs.Prelude.{ℕ, ◌+◌, ◌*◌, ◌≡◌, Bool, List, [], ◌∷◌, ◌++◌, length}
use Rattle.std.proofs.Common.{◌∙◌, ap, sym, arith}
use Rattle.std.proofs.Math.Option.{some}
use Rattle.meaning.specs.Trees as meaning
use Rattle.meaning.specs.Emission.{emit}
use Rattle.meaning.specs.Order.{Job, asked}
use Rattle.meaning.specs.Generation.{block_of, make_one}
use Rattle.kinds.specs.Write.{write}
use Rattle.kinds.specs.Steps.{step_size, steps_of, steps-joined}
use Rattle.pool.specs.Trees.{tree}
use Rattle.starkinfo_codegen.specs.Encoding.{records, records-length, encoded}
use Rattle.starkinfo_codegen.specs.Emitting.{Rest, pool_of, tree_of, steps_of_block, BlockAsks, BlockGives}

-- the block of a job, whose expression has this root, and the counter after it
pub block_made :
    (w : List ℕ) (b : Rest) (j : Job) (x : meaning.Expression) (root t : ℕ) → x.tree ≡ tree (pool_of w b) root →
    make_one j (some x) t
    ≡ record {
      blocks = record { expression = j.expression; row = j.row; steps = steps_of_block w b j.fused j.row t root j.expression } ∷ [];
      counter = (emit (tree_of w b j.fused root) j.row t).free;
    }
block_made w b j x root t h =
    ap (λ e. let y = emit (asked j.fused e) j.row t in record { blocks = block_of j y ∷ []; counter = y.free }) h

-- the steps of the list, after a block is written at its end
pub block_listed :
    (w : List ℕ) (b : Rest) (fused : Bool) (row t root e at : ℕ) (l l' : List ℕ) (r : ℕ) → BlockAsks w b fused row t root e at (length l) →
    BlockGives w b fused row t root e at l l' r → steps_of l' (at + r) ≡ steps_of l at ++ records (steps_of_block w b fused row t root e)
unfolding encoded
block_listed w b fused row t root e at l l' r a g =
    let ss = steps_of_block w b fused row t root e in
    let n : length (records ss) ≡ length ss = records-length ss in
    let k : r ≡ length (records ss) = g.count ∙ sym n in
    ap (λ m. steps_of m (at + r)) g.list ∙ ap (λ m. steps_of (write l (step_size * at) (encoded ss)) (at + m)) k
    ∙ steps-joined l at (records ss) (omega (arith, a.fits, n))
