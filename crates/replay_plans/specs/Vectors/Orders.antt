-- The 7 vectors of the family order, made by tools/plans_to_antt.py.
-- Assumes nothing.
use Rattle.std.specs.Prelude.{◌≡◌, refl, true, List, [], ◌∷◌}
use Rattle.frames.specs.Tables.{first}
use Rattle.kinds.specs.BigEndian.{u16_at}
use Rattle.kinds.specs.Kinds.{child_count}
use Rattle.kinds.specs.Range.{within}
use Rattle.pool.specs.Trees.{tree}
use Rattle.pool.specs.Admission.{shape}
use Rattle.exp_dims.specs.Dimension.{exp_dim}
use Rattle.plans.specs.Plan.{number_at, is_plan}
use Rattle.plans.specs.Columns as plan
use Rattle.plans.specs.Columns.{among, is_im, adding, fits}
use Rattle.plans.specs.Agreement.{names_there, bits_good, counts_agree}
use Rattle.map_records.specs.Mapping.{column, cm1s, lookups, products, intermediates, quotient_dim, quotients, mapped, some_none}
use Rattle.sections.specs.Sections.{placed, position_of, first_width, whole_width, third_width}
use Rattle.replay_plans.specs.Replay.{Vector, vector, node, root, agree}

unfoldable pub vectors : List Vector
vectors =
    -- order-1-before-9
    vector
    (node 16 0 0 0 0 0 ∷ node 16 1 0 0 0 0 ∷ node 3 0 2 0 1 0 ∷ node 18 0 0 0 0 0 ∷ node 19 0 0 0 0 0 ∷ node 1 0 2 3 4 0 ∷ node 18 1 0 0 0 0 ∷ node 7 0 1 6 0 0 ∷ node 17 0 0 0 0 0 ∷ [])
    (root 2 ∷ root 5 ∷ root 7 ∷ root 8 ∷ [])
    (24 ∷ 28 ∷ 7 ∷ 247 ∷ 0 ∷ 2 ∷ 0 ∷ 5 ∷ 0 ∷ 1 ∷ 0 ∷ 1 ∷ 0 ∷ 2 ∷ 0 ∷ 1 ∷ 0 ∷ 1 ∷ 0 ∷ 1 ∷ 0 ∷ 2 ∷ 0 ∷ 1 ∷ 0 ∷ 1 ∷ 0 ∷ 0 ∷ 0 ∷ 1 ∷ 0 ∷ 2 ∷ 0 ∷ 3 ∷ 0 ∷ 0 ∷ 0 ∷ 3 ∷ 0 ∷ 2 ∷ 0 ∷ 2 ∷ 0 ∷ 0 ∷ 0 ∷ 7 ∷ 0 ∷ 1 ∷ 0 ∷ 8 ∷ 0 ∷ 4 ∷ 0 ∷ 3 ∷ 0 ∷ [])
    (1 ∷ []) ∷
    -- order-1-before-2
    vector
    (node 16 0 0 0 0 0 ∷ node 16 1 0 0 0 0 ∷ node 3 0 1 0 0 0 ∷ node 18 0 0 0 0 0 ∷ node 19 0 0 0 0 0 ∷ node 1 0 2 3 4 0 ∷ node 18 1 0 0 0 0 ∷ node 7 0 1 6 0 0 ∷ node 17 0 0 0 0 0 ∷ [])
    (root 2 ∷ root 5 ∷ root 7 ∷ root 8 ∷ [])
    (0 ∷ [])
    (1 ∷ []) ∷
    -- order-9-before-2
    vector
    (node 16 0 0 0 0 0 ∷ node 16 1 0 0 0 0 ∷ node 3 0 1 0 0 0 ∷ node 18 0 0 0 0 0 ∷ node 19 0 0 0 0 0 ∷ node 1 0 2 3 4 0 ∷ node 18 1 0 0 0 0 ∷ node 7 0 1 6 0 0 ∷ node 17 0 0 0 0 0 ∷ [])
    (root 2 ∷ root 5 ∷ root 7 ∷ root 8 ∷ [])
    (24 ∷ 28 ∷ 7 ∷ 247 ∷ 0 ∷ 2 ∷ 0 ∷ 5 ∷ 0 ∷ 1 ∷ 0 ∷ 1 ∷ 0 ∷ 2 ∷ 0 ∷ 1 ∷ 0 ∷ 1 ∷ 0 ∷ 1 ∷ 0 ∷ 2 ∷ 0 ∷ 1 ∷ 0 ∷ 1 ∷ 0 ∷ 0 ∷ 0 ∷ 1 ∷ 0 ∷ 3 ∷ 0 ∷ 3 ∷ 0 ∷ 0 ∷ 0 ∷ 3 ∷ 0 ∷ 3 ∷ 0 ∷ 3 ∷ 0 ∷ 0 ∷ 0 ∷ 7 ∷ 0 ∷ 1 ∷ 0 ∷ 8 ∷ 0 ∷ 4 ∷ 0 ∷ 3 ∷ [])
    (9 ∷ []) ∷
    -- order-2-before-3
    vector
    (node 16 0 0 0 0 0 ∷ node 16 1 0 0 0 0 ∷ node 3 0 1 0 0 0 ∷ node 18 0 0 0 0 0 ∷ node 19 0 0 0 0 0 ∷ node 1 0 2 3 4 0 ∷ node 18 1 0 0 0 0 ∷ node 7 0 1 6 0 0 ∷ node 17 0 0 0 0 0 ∷ [])
    (root 2 ∷ root 5 ∷ root 7 ∷ root 8 ∷ [])
    (3 ∷ 4 ∷ 0 ∷ 2 ∷ 0 ∷ 2 ∷ 0 ∷ 5 ∷ 0 ∷ 1 ∷ 0 ∷ 1 ∷ 0 ∷ 9 ∷ 0 ∷ 1 ∷ 0 ∷ 1 ∷ 0 ∷ 1 ∷ 0 ∷ 2 ∷ 0 ∷ 1 ∷ 0 ∷ 1 ∷ 0 ∷ 0 ∷ 0 ∷ 1 ∷ 0 ∷ 2 ∷ 0 ∷ 3 ∷ 0 ∷ 0 ∷ 0 ∷ 3 ∷ 0 ∷ 2 ∷ 0 ∷ 2 ∷ 0 ∷ 0 ∷ 0 ∷ 7 ∷ 0 ∷ 1 ∷ 0 ∷ 8 ∷ 0 ∷ 4 ∷ 0 ∷ 3 ∷ [])
    (2 ∷ []) ∷
    -- order-3-before-4
    vector
    (node 16 0 0 0 0 0 ∷ node 16 1 0 0 0 0 ∷ node 3 0 2 0 1 0 ∷ node 18 0 0 0 0 0 ∷ node 19 0 0 0 0 0 ∷ node 1 0 2 3 4 0 ∷ node 18 1 0 0 0 0 ∷ node 7 0 1 6 0 0 ∷ node 17 0 0 0 0 0 ∷ [])
    (root 2 ∷ root 5 ∷ root 7 ∷ root 8 ∷ [])
    (3 ∷ 4 ∷ 0 ∷ 2 ∷ 0 ∷ 2 ∷ 0 ∷ 5 ∷ 0 ∷ 1 ∷ 0 ∷ 1 ∷ 0 ∷ 9 ∷ 0 ∷ 1 ∷ 0 ∷ 1 ∷ 0 ∷ 1 ∷ 0 ∷ 2 ∷ 0 ∷ 1 ∷ 0 ∷ 1 ∷ 0 ∷ 0 ∷ 0 ∷ 1 ∷ 0 ∷ 2 ∷ 0 ∷ 3 ∷ 0 ∷ 0 ∷ 0 ∷ 3 ∷ 0 ∷ 2 ∷ 0 ∷ 2 ∷ 0 ∷ 0 ∷ 0 ∷ 7 ∷ 0 ∷ 1 ∷ 0 ∷ 8 ∷ 0 ∷ 4 ∷ 0 ∷ 1 ∷ [])
    (3 ∷ []) ∷
    -- order-16-before-11
    vector
    (node 16 0 0 0 0 0 ∷ node 16 1 0 0 0 0 ∷ node 3 0 2 0 1 0 ∷ node 18 0 0 0 0 0 ∷ node 19 0 0 0 0 0 ∷ node 1 0 2 3 4 0 ∷ node 18 1 0 0 0 0 ∷ node 7 0 1 6 0 0 ∷ node 17 0 0 0 0 0 ∷ [])
    (root 2 ∷ root 5 ∷ root 7 ∷ root 8 ∷ [])
    (25 ∷ 4 ∷ 0 ∷ 2 ∷ 0 ∷ 3 ∷ 0 ∷ 5 ∷ 0 ∷ 1 ∷ 0 ∷ 1 ∷ 0 ∷ 2 ∷ 0 ∷ 1 ∷ 0 ∷ 1 ∷ 0 ∷ 1 ∷ 0 ∷ 2 ∷ 0 ∷ 1 ∷ 0 ∷ 1 ∷ 0 ∷ 0 ∷ 0 ∷ 1 ∷ 0 ∷ 2 ∷ 0 ∷ 3 ∷ 0 ∷ 0 ∷ 0 ∷ 3 ∷ 0 ∷ 2 ∷ 0 ∷ 2 ∷ 0 ∷ 0 ∷ 0 ∷ 7 ∷ 0 ∷ 1 ∷ 0 ∷ 8 ∷ 0 ∷ 4 ∷ 0 ∷ 3 ∷ [])
    (16 ∷ []) ∷
    -- order-11-before-12
    vector
    (node 16 0 0 0 0 0 ∷ node 16 1 0 0 0 0 ∷ node 3 0 2 0 1 0 ∷ node 18 0 0 0 0 0 ∷ node 19 0 0 0 0 0 ∷ node 1 0 2 3 4 0 ∷ node 18 1 0 0 0 0 ∷ node 7 0 1 6 0 0 ∷ node 17 0 0 0 0 0 ∷ node 16 9 0 0 0 0 ∷ [])
    (root 2 ∷ root 5 ∷ root 7 ∷ root 8 ∷ root 9 ∷ [])
    (3 ∷ 4 ∷ 0 ∷ 2 ∷ 0 ∷ 2 ∷ 0 ∷ 5 ∷ 0 ∷ 2 ∷ 0 ∷ 1 ∷ 0 ∷ 4 ∷ 0 ∷ 1 ∷ 0 ∷ 1 ∷ 0 ∷ 1 ∷ 0 ∷ 2 ∷ 0 ∷ 1 ∷ 0 ∷ 1 ∷ 0 ∷ 0 ∷ 0 ∷ 1 ∷ 0 ∷ 2 ∷ 0 ∷ 3 ∷ 0 ∷ 0 ∷ 0 ∷ 3 ∷ 0 ∷ 2 ∷ 0 ∷ 2 ∷ 0 ∷ 0 ∷ 0 ∷ 7 ∷ 0 ∷ 1 ∷ 0 ∷ 8 ∷ 0 ∷ 4 ∷ 0 ∷ 3 ∷ [])
    (11 ∷ []) ∷
    []

-- THE DEFINITIONS GIVE THE ORIGINAL'S ANSWERS
pub all-agree : agree vectors ≡ true
unfolding first u16_at child_count within tree shape exp_dim number_at is_plan plan.lookups plan.products among is_im adding fits names_there bits_good counts_agree column cm1s lookups products intermediates quotient_dim quotients mapped some_none placed position_of first_width whole_width third_width vectors
all-agree = refl
