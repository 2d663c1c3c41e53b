-- The 6 vectors that ask for the dimensions of expressions, made by tools/plans_to_antt.py.
-- Assumes nothing.
use Rattle.std.specs.Prelude.{◌≡◌, refl, true, List, [], ◌∷◌}
use Rattle.frames.specs.Tables.{first}
use Rattle.kinds.specs.BigEndian.{u16_at}
use Rattle.kinds.specs.Kinds.{child_count}
use Rattle.kinds.specs.Range.{within}
use Rattle.pool.specs.Trees.{tree}
use Rattle.pool.specs.Admission.{shape}
use Rattle.exp_dims.specs.Dimension.{exp_dim}
use Rattle.plans.specs.Plan.{number_at, is_plan}
use Rattle.plans.specs.Columns as plan
use Rattle.plans.specs.Columns.{among, is_im, adding, fits}
use Rattle.plans.specs.Agreement.{names_there, bits_good, counts_agree}
use Rattle.map_records.specs.Mapping.{column, cm1s, lookups, products, intermediates, quotient_dim, quotients, mapped, some_none}
use Rattle.sections.specs.Sections.{placed, position_of, first_width, whole_width, third_width}
use Rattle.replay_plans.specs.Replay.{Vector, vector, node, root, agree_dims}

unfoldable pub vectors : List Vector
vectors =
    -- m02-in-expressions
    vector
    (node 16 0 0 0 0 0 ∷ node 16 1 0 0 0 0 ∷ node 3 0 2 0 1 0 ∷ node 22 0 0 0 0 0 ∷ node 16 2 0 0 0 0 ∷ node 16 3 0 0 0 0 ∷ [])
    (root 2 ∷ root 3 ∷ root 4 ∷ root 5 ∷ [])
    (3 ∷ 4 ∷ 0 ∷ 2 ∷ 0 ∷ 0 ∷ 0 ∷ 2 ∷ 0 ∷ 1 ∷ 0 ∷ 1 ∷ 0 ∷ 0 ∷ 0 ∷ 0 ∷ 0 ∷ 1 ∷ 0 ∷ 0 ∷ 0 ∷ 1 ∷ 0 ∷ 0 ∷ 0 ∷ 0 ∷ 0 ∷ 1 ∷ 0 ∷ 1 ∷ 0 ∷ 0 ∷ 0 ∷ 3 ∷ [])
    (1 ∷ 3 ∷ 1 ∷ 0 ∷ []) ∷
    -- m14-in-expressions
    vector
    (node 26 0 0 0 0 0 ∷ node 24 0 0 0 0 0 ∷ node 25 0 0 0 0 0 ∷ [])
    (root 0 ∷ root 1 ∷ root 2 ∷ [])
    (3 ∷ 4 ∷ 0 ∷ 0 ∷ 0 ∷ 0 ∷ 0 ∷ 0 ∷ 0 ∷ 0 ∷ 0 ∷ 0 ∷ 0 ∷ 0 ∷ 0 ∷ 0 ∷ 0 ∷ 0 ∷ 0 ∷ 0 ∷ 0 ∷ 0 ∷ 0 ∷ 0 ∷ 0 ∷ 0 ∷ [])
    (1 ∷ 3 ∷ 3 ∷ []) ∷
    -- random-1-019-exp_dims
    vector
    (node 21 1 0 0 0 0 ∷ node 17 256 0 0 0 0 ∷ node 17 65535 0 0 0 0 ∷ node 16 0 0 0 0 0 ∷ node 3 0 2 3 2 0 ∷ node 1 0 2 0 4 0 ∷ node 18 0 0 0 0 0 ∷ node 3 0 2 5 6 0 ∷ node 16 3 0 0 0 0 ∷ node 3 0 2 8 1 0 ∷ node 16 0 0 0 0 0 ∷ node 16 0 0 0 0 0 ∷ node 26 0 0 0 0 0 ∷ node 6 0 1 10 0 0 ∷ node 16 0 0 0 0 0 ∷ node 6 0 1 9 0 0 ∷ node 2 0 2 7 13 0 ∷ node 5 0 1 15 0 0 ∷ node 2 0 2 12 16 0 ∷ [])
    (root 17 ∷ [])
    (23 ∷ 23 ∷ 0 ∷ 1 ∷ 0 ∷ 0 ∷ 0 ∷ 4 ∷ 0 ∷ 3 ∷ 0 ∷ 3 ∷ 0 ∷ 0 ∷ 0 ∷ 0 ∷ 0 ∷ 2 ∷ 0 ∷ 2 ∷ 0 ∷ 0 ∷ 0 ∷ 3 ∷ 0 ∷ 3 ∷ 0 ∷ 0 ∷ 0 ∷ 0 ∷ 0 ∷ 0 ∷ 0 ∷ 0 ∷ 0 ∷ 0 ∷ 0 ∷ 0 ∷ 0 ∷ 0 ∷ 0 ∷ 0 ∷ 0 ∷ 3 ∷ 0 ∷ 4 ∷ 0 ∷ 8 ∷ 0 ∷ 0 ∷ 0 ∷ 0 ∷ 0 ∷ 0 ∷ [])
    (3 ∷ []) ∷
    -- random-1-037-exp_dims
    vector
    (node 16 0 0 0 0 0 ∷ node 5 0 1 0 0 0 ∷ node 16 0 0 0 0 0 ∷ node 16 5 0 0 0 0 ∷ node 6 0 1 3 0 0 ∷ node 6 0 1 1 0 0 ∷ node 3 0 2 2 4 0 ∷ node 17 0 0 0 0 0 ∷ node 1 0 2 6 5 0 ∷ node 21 256 0 0 0 0 ∷ node 16 5 0 0 0 0 ∷ node 20 0 0 0 0 0 ∷ node 1 0 2 7 8 0 ∷ node 6 0 1 12 0 0 ∷ node 1 0 2 9 11 0 ∷ node 4 0 3 14 10 13 ∷ node 23 2 0 0 0 0 ∷ node 16 0 0 0 0 0 ∷ node 2 0 2 17 15 0 ∷ [])
    (root 18 ∷ root 16 ∷ [])
    (10 ∷ 12 ∷ 0 ∷ 1 ∷ 0 ∷ 0 ∷ 0 ∷ 2 ∷ 0 ∷ 3 ∷ 0 ∷ 3 ∷ 0 ∷ 1 ∷ 0 ∷ 0 ∷ 0 ∷ 1 ∷ 0 ∷ 1 ∷ 0 ∷ 0 ∷ 0 ∷ 2 ∷ 0 ∷ 2 ∷ 0 ∷ 0 ∷ 0 ∷ 0 ∷ 0 ∷ 1 ∷ 0 ∷ 1 ∷ 0 ∷ 15 ∷ 0 ∷ 8 ∷ 0 ∷ 0 ∷ 0 ∷ 0 ∷ [])
    (3 ∷ 3 ∷ []) ∷
    -- random-1-055-exp_dims
    vector
    (node 20 0 0 0 0 0 ∷ node 16 0 0 0 0 0 ∷ node 1 0 2 0 1 0 ∷ node 25 0 0 0 0 0 ∷ node 3 0 2 3 2 0 ∷ node 6 0 1 4 0 0 ∷ node 17 1 0 0 0 0 ∷ node 3 0 2 6 5 0 ∷ [])
    (root 7 ∷ [])
    (24 ∷ 26 ∷ 0 ∷ 4 ∷ 0 ∷ 0 ∷ 0 ∷ 1 ∷ 0 ∷ 0 ∷ 0 ∷ 0 ∷ 0 ∷ 0 ∷ 0 ∷ 0 ∷ 0 ∷ 0 ∷ 0 ∷ 1 ∷ 0 ∷ 0 ∷ 0 ∷ 1 ∷ 0 ∷ 1 ∷ 0 ∷ 0 ∷ 0 ∷ 0 ∷ 0 ∷ 10 ∷ 0 ∷ 0 ∷ [])
    (3 ∷ []) ∷
    -- random-1-109-exp_dims
    vector
    (node 26 0 0 0 0 0 ∷ node 20 0 0 0 0 0 ∷ node 7 0 1 1 0 0 ∷ [])
    (root 0 ∷ [])
    (23 ∷ 26 ∷ 0 ∷ 2 ∷ 0 ∷ 0 ∷ 0 ∷ 3 ∷ 0 ∷ 0 ∷ 0 ∷ 0 ∷ 0 ∷ 0 ∷ 0 ∷ 0 ∷ 0 ∷ 0 ∷ 0 ∷ 2 ∷ 0 ∷ 1 ∷ 0 ∷ 0 ∷ 0 ∷ 0 ∷ 0 ∷ 0 ∷ 0 ∷ 0 ∷ 0 ∷ 0 ∷ 0 ∷ 0 ∷ 0 ∷ 0 ∷ 0 ∷ 4 ∷ [])
    (1 ∷ []) ∷
    []

-- THE DEFINITIONS GIVE THE ORIGINAL'S ANSWERS
pub all-agree : agree_dims vectors ≡ true
unfolding first u16_at child_count within tree shape exp_dim number_at is_plan plan.lookups plan.products among is_im adding fits names_there bits_good counts_agree column cm1s lookups products intermediates quotient_dim quotients mapped some_none placed position_of first_width whole_width third_width vectors
all-agree = refl
