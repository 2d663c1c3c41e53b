-- `starkinfo_codegen::order::pil_code_gen`, `calculate_deps` and `leaf_deps` meet their contracts: each need is one lemma of
-- proofs/Orders.antt. The measure is the levels that are left, then the node. Assumes nothing.
use Prim.Native.Nat.{◌+◌, ◌*◌}
use Rattle.starkinfo_codegen.proofs.Calls.{rank}
use Rattle.starkinfo_codegen.proofs.order.+calculate_deps_leaf_deps_pil_code_gen.Given as goal

abbrev pub decreases-calculate_deps : goal.decreases-calculate_deps
decreases-calculate_deps l = l.levels * 8200 + 2 * rank l.i

abbrev pub decreases-leaf_deps : goal.decreases-leaf_deps
decreases-leaf_deps l = l.levels * 8200 + 1

abbrev pub decreases-pil_code_gen : goal.decreases-pil_code_gen
decreases-pil_code_gen l = l.levels * 8200
