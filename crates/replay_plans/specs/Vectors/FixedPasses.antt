-- The 61 vectors of walks, made by tools/plans_to_antt.py.
-- Assumes nothing.
use Rattle.std.specs.Prelude.{◌≡◌, refl, true, List, [], ◌∷◌}
use Rattle.frames.specs.Tables.{first}
use Rattle.kinds.specs.BigEndian.{u16_at}
use Rattle.kinds.specs.Kinds.{child_count}
use Rattle.kinds.specs.Range.{within}
use Rattle.pool.specs.Trees.{tree}
use Rattle.pool.specs.Admission.{shape}
use Rattle.exp_dims.specs.Dimension.{exp_dim}
use Rattle.plans.specs.Plan.{number_at, is_plan}
use Rattle.plans.specs.Columns as plan
use Rattle.plans.specs.Columns.{among, is_im, adding, fits}
use Rattle.plans.specs.Agreement.{names_there, bits_good, counts_agree}
use Rattle.map_records.specs.Mapping.{column, cm1s, lookups, products, intermediates, quotient_dim, quotients, mapped, some_none}
use Rattle.sections.specs.Sections.{placed, position_of, first_width, whole_width, third_width}
use Rattle.kinds.specs.Kinds.{is_reference, is_leaf}
use Rattle.kinds.specs.StepOps.{is_step, sources_needed}
use Rattle.lent_lists.specs.Records as lists
use Rattle.lent_lists.specs.Records.{runs, used_by, record_by}
use Rattle.lent_lists.specs.Walks.{walked, used_verdict, record_verdict}
use Rattle.fixing.specs.ProverCode.{rule_kind, rule_id, rule_dim, rule_for, ruled_reference, meet_reference, meet_used, meet_record, meet_records, fix_reference}
use Rattle.query_fixing.specs.QueryCode.{tree_for, tree_kind, tree_position, tree_dim, has_tree, treed_reference, tree_reference}
use Rattle.step_dimensions.specs.Rules.{rule_no, is_destination}
use Rattle.step_dimensions.specs.StepDimensions.{through, source_dim, source_dims, largest, step_with, noted}
use Rattle.dimensions.specs.Dimensions.{passed}
use Rattle.replay_plans.specs.Replay.{node, root}
use Rattle.replay_plans.specs.Walks.{WalkVector, walk_vector, lists', ref, step, blank, fix_dims_n, fix_dims2ns, query_dims, no_more, becomes, agree_walked}

unfoldable pub vectors : List WalkVector
vectors =
    -- m02-in-a-list
    walk_vector
    (node 16 0 0 0 0 0 ∷ node 16 1 0 0 0 0 ∷ node 3 0 2 0 1 0 ∷ node 22 0 0 0 0 0 ∷ node 16 2 0 0 0 0 ∷ node 16 3 0 0 0 0 ∷ [])
    (root 2 ∷ root 3 ∷ root 4 ∷ root 5 ∷ [])
    (3 ∷ 4 ∷ 0 ∷ 2 ∷ 0 ∷ 0 ∷ 0 ∷ 2 ∷ 0 ∷ 1 ∷ 0 ∷ 1 ∷ 0 ∷ 0 ∷ 0 ∷ 0 ∷ 0 ∷ 1 ∷ 0 ∷ 0 ∷ 0 ∷ 1 ∷ 0 ∷ 0 ∷ 0 ∷ 0 ∷ 0 ∷ 1 ∷ 0 ∷ 1 ∷ 0 ∷ 0 ∷ 0 ∷ 3 ∷ [])
    fix_dims_n
    (lists' 0 (step 8 1 (ref 32 0 0 0 0 0 0) (ref 16 0 2 0 0 0 0) blank blank ∷ step 8 1 (ref 32 0 1 0 0 0 0) (ref 16 0 3 0 0 0 0) blank blank ∷ []) ([]) ([]))
    (becomes (lists' 0 (step 8 1 (ref 32 0 0 3 0 0 0) (ref 16 0 2 3 4 0 0) blank blank ∷ step 8 1 (ref 32 0 1 1 0 0 0) (ref 16 0 3 1 7 0 0) blank blank ∷ []) ([]) ([]))) ∷
    -- m03-list-with-dimensions
    walk_vector
    (node 16 0 0 0 0 0 ∷ node 16 1 0 0 0 0 ∷ node 3 0 2 0 1 0 ∷ node 22 0 0 0 0 0 ∷ [])
    (root 2 ∷ root 3 ∷ [])
    (3 ∷ 4 ∷ 0 ∷ 2 ∷ 0 ∷ 0 ∷ 0 ∷ 1 ∷ 0 ∷ 0 ∷ 0 ∷ 0 ∷ 0 ∷ 0 ∷ 0 ∷ 0 ∷ 0 ∷ 0 ∷ 0 ∷ 1 ∷ 0 ∷ 0 ∷ 0 ∷ 0 ∷ 0 ∷ 0 ∷ 0 ∷ 0 ∷ 0 ∷ 1 ∷ [])
    fix_dims_n
    (lists' 0 (step 8 1 (ref 18 0 0 0 0 0 0) (ref 16 0 0 0 0 0 0) blank blank ∷ step 1 2 (ref 18 0 1 0 0 0 0) (ref 18 0 0 0 0 0 0) (ref 18 1 1 0 0 0 0) blank ∷ []) ([]) ([]))
    (becomes (lists' 0 (step 8 1 (ref 34 0 0 1 0 0 0) (ref 16 0 0 1 0 0 0) blank blank ∷ step 1 2 (ref 34 0 1 3 0 0 0) (ref 34 0 0 1 0 0 0) (ref 34 1 1 3 0 0 0) blank ∷ []) ([]) ([]))) ∷
    -- m03-dimension-0
    walk_vector
    (node 16 0 0 0 0 0 ∷ node 16 1 0 0 0 0 ∷ node 3 0 2 0 1 0 ∷ node 22 0 0 0 0 0 ∷ node 16 2 0 0 0 0 ∷ node 16 3 0 0 0 0 ∷ [])
    (root 2 ∷ root 3 ∷ root 4 ∷ root 5 ∷ [])
    (3 ∷ 4 ∷ 0 ∷ 2 ∷ 0 ∷ 0 ∷ 0 ∷ 2 ∷ 0 ∷ 1 ∷ 0 ∷ 1 ∷ 0 ∷ 0 ∷ 0 ∷ 0 ∷ 0 ∷ 0 ∷ 0 ∷ 1 ∷ 0 ∷ 1 ∷ 0 ∷ 0 ∷ 0 ∷ 0 ∷ 0 ∷ 3 ∷ 0 ∷ 3 ∷ 0 ∷ 0 ∷ 0 ∷ 3 ∷ [])
    fix_dims_n
    (lists' 0 (step 8 1 (ref 32 0 0 0 0 0 0) (ref 18 0 3 0 0 0 0) blank blank ∷ []) ([]) ([]))
    (no_more 12) ∷
    -- m04-the-last-record
    walk_vector
    (node 16 0 0 0 0 0 ∷ node 16 1 0 0 0 0 ∷ node 3 0 2 0 1 0 ∷ node 22 0 0 0 0 0 ∷ node 16 2 0 0 0 0 ∷ node 16 3 0 0 0 0 ∷ [])
    (root 2 ∷ root 3 ∷ root 4 ∷ root 5 ∷ [])
    (3 ∷ 4 ∷ 0 ∷ 2 ∷ 0 ∷ 2 ∷ 0 ∷ 1 ∷ 0 ∷ 1 ∷ 0 ∷ 1 ∷ 0 ∷ 0 ∷ 0 ∷ 1 ∷ 0 ∷ 0 ∷ 0 ∷ 0 ∷ 0 ∷ 0 ∷ 0 ∷ 3 ∷ 0 ∷ 0 ∷ 0 ∷ 0 ∷ 0 ∷ 1 ∷ 0 ∷ 0 ∷ 0 ∷ 1 ∷ 0 ∷ 0 ∷ 0 ∷ 4 ∷ 0 ∷ 15 ∷ [])
    fix_dims2ns
    (lists' 0 (step 8 1 (ref 32 0 0 0 0 0 0) (ref 19 0 0 0 0 0 0) blank blank ∷ []) (step 8 1 (ref 32 0 1 0 0 0 0) (ref 19 0 1 0 0 0 0) blank blank ∷ []) (step 8 1 (ref 32 0 2 0 0 0 0) (ref 19 1 2 0 0 0 0) blank blank ∷ []))
    (becomes (lists' 0 (step 8 1 (ref 32 0 0 1 0 0 0) (ref 19 0 0 1 0 0 0) blank blank ∷ []) (step 8 1 (ref 32 0 1 3 0 0 0) (ref 19 0 1 3 0 0 0) blank blank ∷ []) (step 8 1 (ref 32 0 2 3 0 0 0) (ref 19 1 2 3 0 0 0) blank blank ∷ []))) ∷
    -- m12-sources-with-dimensions
    walk_vector
    (node 16 0 0 0 0 0 ∷ node 16 1 0 0 0 0 ∷ node 3 0 2 0 1 0 ∷ node 22 0 0 0 0 0 ∷ node 16 2 0 0 0 0 ∷ node 16 3 0 0 0 0 ∷ [])
    (root 2 ∷ root 3 ∷ root 4 ∷ root 5 ∷ [])
    (3 ∷ 4 ∷ 0 ∷ 2 ∷ 0 ∷ 2 ∷ 0 ∷ 2 ∷ 0 ∷ 1 ∷ 0 ∷ 1 ∷ 0 ∷ 0 ∷ 0 ∷ 1 ∷ 0 ∷ 0 ∷ 0 ∷ 0 ∷ 0 ∷ 1 ∷ 0 ∷ 0 ∷ 0 ∷ 0 ∷ 0 ∷ 0 ∷ 0 ∷ 0 ∷ 0 ∷ 0 ∷ 0 ∷ 1 ∷ 0 ∷ 0 ∷ 0 ∷ 5 ∷ [])
    query_dims
    (lists' 0 (step 4 3 (ref 32 0 0 0 0 0 0) (ref 16 0 0 0 0 0 0) (ref 16 1 1 0 0 0 0) (ref 16 0 2 0 0 0 0) ∷ []) (step 4 3 (ref 32 0 1 0 0 0 0) (ref 16 0 3 0 0 0 0) (ref 16 0 4 0 0 0 0) (ref 16 0 5 0 0 0 0) ∷ []) (step 1 2 (ref 32 0 2 0 0 0 0) (ref 16 0 6 0 0 0 0) (ref 18 1 0 0 0 0 0) blank ∷ []))
    (becomes (lists' 0 (step 4 3 (ref 32 0 0 1 0 0 0) (ref 36 0 0 1 1 0 0) (ref 36 1 1 1 3 1 0) (ref 37 0 2 1 5 0 0) ∷ []) (step 4 3 (ref 32 0 1 3 0 0 0) (ref 37 0 3 1 7 1 0) (ref 38 0 4 3 9 1 0) (ref 38 0 5 1 12 0 0) ∷ []) (step 1 2 (ref 32 0 2 1 0 0 0) (ref 39 0 6 1 14 0 0) (ref 38 1 5 1 0 0 0) blank ∷ []))) ∷
    -- m12-destination-has-no-rule
    walk_vector
    (node 16 0 0 0 0 0 ∷ node 16 1 0 0 0 0 ∷ node 3 0 2 0 1 0 ∷ node 22 0 0 0 0 0 ∷ node 16 2 0 0 0 0 ∷ node 16 3 0 0 0 0 ∷ [])
    (root 2 ∷ root 3 ∷ root 4 ∷ root 5 ∷ [])
    (3 ∷ 4 ∷ 0 ∷ 2 ∷ 0 ∷ 2 ∷ 0 ∷ 2 ∷ 0 ∷ 1 ∷ 0 ∷ 1 ∷ 0 ∷ 0 ∷ 0 ∷ 1 ∷ 0 ∷ 0 ∷ 0 ∷ 0 ∷ 0 ∷ 1 ∷ 0 ∷ 0 ∷ 0 ∷ 0 ∷ 0 ∷ 0 ∷ 0 ∷ 0 ∷ 0 ∷ 0 ∷ 0 ∷ 1 ∷ 0 ∷ 0 ∷ 0 ∷ 5 ∷ [])
    query_dims
    (lists' 0 (step 8 1 (ref 16 0 1 0 0 0 0) (ref 17 0 0 0 0 0 0) blank blank ∷ []) ([]) ([]))
    (no_more 10) ∷
    -- m12-dimension-without-column
    walk_vector
    (node 16 0 0 0 0 0 ∷ node 16 1 0 0 0 0 ∷ node 3 0 2 0 1 0 ∷ node 22 0 0 0 0 0 ∷ node 16 2 0 0 0 0 ∷ node 16 3 0 0 0 0 ∷ [])
    (root 2 ∷ root 3 ∷ root 4 ∷ root 5 ∷ [])
    (3 ∷ 4 ∷ 0 ∷ 2 ∷ 0 ∷ 2 ∷ 0 ∷ 2 ∷ 0 ∷ 1 ∷ 0 ∷ 1 ∷ 0 ∷ 0 ∷ 0 ∷ 1 ∷ 0 ∷ 0 ∷ 0 ∷ 0 ∷ 0 ∷ 1 ∷ 0 ∷ 0 ∷ 0 ∷ 0 ∷ 0 ∷ 0 ∷ 0 ∷ 0 ∷ 0 ∷ 0 ∷ 0 ∷ 1 ∷ 0 ∷ 0 ∷ 0 ∷ 7 ∷ [])
    fix_dims2ns
    (lists' 0 (step 8 1 (ref 32 0 0 0 0 0 0) (ref 18 0 0 0 0 0 0) blank blank ∷ []) ([]) ([]))
    (no_more 3) ∷
    -- m13-refused-by-dimensions
    walk_vector
    (node 16 0 0 0 0 0 ∷ node 16 1 0 0 0 0 ∷ node 3 0 2 0 1 0 ∷ node 22 0 0 0 0 0 ∷ [])
    (root 2 ∷ root 3 ∷ [])
    (3 ∷ 4 ∷ 0 ∷ 2 ∷ 0 ∷ 0 ∷ 0 ∷ 0 ∷ 0 ∷ 0 ∷ 0 ∷ 0 ∷ 0 ∷ 0 ∷ 0 ∷ 0 ∷ 0 ∷ 0 ∷ 0 ∷ 0 ∷ 0 ∷ 0 ∷ 0 ∷ 0 ∷ 0 ∷ 0 ∷ [])
    fix_dims_n
    (lists' 0 (step 8 1 (ref 32 0 0 0 0 0 0) (ref 32 0 9 0 0 0 0) blank blank ∷ []) ([]) ([]))
    (no_more 10) ∷
    -- m13-refused-by-fixing
    walk_vector
    (node 16 0 0 0 0 0 ∷ node 16 1 0 0 0 0 ∷ node 3 0 2 0 1 0 ∷ node 22 0 0 0 0 0 ∷ [])
    (root 2 ∷ root 3 ∷ [])
    (3 ∷ 4 ∷ 0 ∷ 2 ∷ 0 ∷ 0 ∷ 0 ∷ 0 ∷ 0 ∷ 0 ∷ 0 ∷ 0 ∷ 0 ∷ 0 ∷ 0 ∷ 0 ∷ 0 ∷ 0 ∷ 0 ∷ 0 ∷ 0 ∷ 0 ∷ 0 ∷ 0 ∷ 0 ∷ 0 ∷ [])
    fix_dims_n
    (lists' 0 (step 8 1 (ref 32 0 0 0 0 0 0) (ref 32 0 9 0 0 0 0) blank blank ∷ []) ([]) (step 8 1 (ref 32 0 1 0 0 0 0) (ref 16 0 2 0 0 0 0) blank blank ∷ []))
    (no_more 3) ∷
    -- m14-x-dimension-1
    walk_vector
    (node 16 0 0 0 0 0 ∷ node 16 1 0 0 0 0 ∷ node 3 0 2 0 1 0 ∷ node 22 0 0 0 0 0 ∷ [])
    (root 2 ∷ root 3 ∷ [])
    (3 ∷ 4 ∷ 0 ∷ 2 ∷ 0 ∷ 0 ∷ 0 ∷ 0 ∷ 0 ∷ 0 ∷ 0 ∷ 0 ∷ 0 ∷ 0 ∷ 0 ∷ 0 ∷ 0 ∷ 0 ∷ 0 ∷ 0 ∷ 0 ∷ 0 ∷ 0 ∷ 0 ∷ 0 ∷ 0 ∷ [])
    fix_dims2ns
    (lists' 0 (step 8 1 (ref 32 0 0 0 0 0 0) (ref 26 0 0 0 0 0 0) blank blank ∷ []) (step 8 1 (ref 32 0 1 0 0 0 0) (ref 24 0 0 0 0 0 0) blank blank ∷ []) (step 1 2 (ref 18 1 1 0 0 0 0) (ref 32 0 0 0 0 0 0) (ref 25 0 0 0 0 0 0) blank ∷ []))
    (becomes (lists' 1 (step 8 1 (ref 32 0 0 1 0 0 0) (ref 26 0 0 1 0 0 0) blank blank ∷ []) (step 8 1 (ref 32 0 1 1 0 0 0) (ref 24 0 0 1 0 0 0) blank blank ∷ []) (step 1 2 (ref 32 1 0 1 0 0 1) (ref 32 0 0 1 0 0 0) (ref 25 0 0 1 0 0 0) blank ∷ []))) ∷
    -- m14-query-x-dimension-1
    walk_vector
    (node 16 0 0 0 0 0 ∷ node 16 1 0 0 0 0 ∷ node 3 0 2 0 1 0 ∷ node 22 0 0 0 0 0 ∷ [])
    (root 2 ∷ root 3 ∷ [])
    (3 ∷ 4 ∷ 0 ∷ 2 ∷ 0 ∷ 0 ∷ 0 ∷ 0 ∷ 0 ∷ 0 ∷ 0 ∷ 0 ∷ 0 ∷ 0 ∷ 0 ∷ 0 ∷ 0 ∷ 0 ∷ 0 ∷ 0 ∷ 0 ∷ 0 ∷ 0 ∷ 0 ∷ 0 ∷ 0 ∷ [])
    query_dims
    (lists' 0 (step 8 1 (ref 32 0 0 0 0 0 0) (ref 26 0 0 0 0 0 0) blank blank ∷ []) (step 8 1 (ref 32 0 1 0 0 0 0) (ref 24 0 0 0 0 0 0) blank blank ∷ []) (step 1 2 (ref 18 1 1 0 0 0 0) (ref 32 0 0 0 0 0 0) (ref 25 0 0 0 0 0 0) blank ∷ []))
    (becomes (lists' 1 (step 8 1 (ref 32 0 0 1 0 0 0) (ref 26 0 0 1 0 0 0) blank blank ∷ []) (step 8 1 (ref 32 0 1 1 0 0 0) (ref 24 0 0 1 0 0 0) blank blank ∷ []) (step 1 2 (ref 32 1 0 1 0 0 1) (ref 32 0 0 1 0 0 0) (ref 25 0 0 1 0 0 0) blank ∷ []))) ∷
    -- list-fixed-exp-is-read
    walk_vector
    (node 16 0 0 0 0 0 ∷ node 22 0 0 0 0 0 ∷ node 18 1 0 0 0 0 ∷ node 17 0 0 0 0 0 ∷ [])
    (root 0 ∷ root 1 ∷ root 2 ∷ root 3 ∷ [])
    (3 ∷ 4 ∷ 0 ∷ 2 ∷ 0 ∷ 0 ∷ 0 ∷ 1 ∷ 0 ∷ 1 ∷ 0 ∷ 1 ∷ 0 ∷ 1 ∷ 0 ∷ 0 ∷ 0 ∷ 0 ∷ 0 ∷ 0 ∷ 0 ∷ 1 ∷ 0 ∷ 2 ∷ 0 ∷ 0 ∷ 0 ∷ 2 ∷ 0 ∷ 2 ∷ 0 ∷ 0 ∷ 0 ∷ 4 ∷ [])
    fix_dims2ns
    (lists' 0 (step 8 1 (ref 18 0 0 0 0 0 0) (ref 16 0 0 0 0 0 0) blank blank ∷ []) (step 8 1 (ref 33 0 0 0 0 0 0) (ref 18 0 0 0 0 0 0) blank blank ∷ []) ([]))
    (becomes (lists' 1 (step 8 1 (ref 32 0 0 1 0 0 0) (ref 16 0 0 1 1 0 0) blank blank ∷ []) (step 8 1 (ref 33 0 0 1 0 0 0) (ref 32 0 0 1 0 0 0) blank blank ∷ []) ([]))) ∷
    -- list-fixed-exp-unwritten
    walk_vector
    (node 16 0 0 0 0 0 ∷ node 22 0 0 0 0 0 ∷ node 18 1 0 0 0 0 ∷ node 17 0 0 0 0 0 ∷ [])
    (root 0 ∷ root 1 ∷ root 2 ∷ root 3 ∷ [])
    (3 ∷ 4 ∷ 0 ∷ 2 ∷ 0 ∷ 0 ∷ 0 ∷ 1 ∷ 0 ∷ 1 ∷ 0 ∷ 1 ∷ 0 ∷ 1 ∷ 0 ∷ 0 ∷ 0 ∷ 0 ∷ 0 ∷ 0 ∷ 0 ∷ 1 ∷ 0 ∷ 2 ∷ 0 ∷ 0 ∷ 0 ∷ 2 ∷ 0 ∷ 2 ∷ 0 ∷ 0 ∷ 0 ∷ 4 ∷ [])
    fix_dims2ns
    (lists' 0 (step 8 1 (ref 18 0 0 0 0 0 0) (ref 16 0 0 0 0 0 0) blank blank ∷ []) (step 8 1 (ref 33 0 0 0 0 0 0) (ref 18 1 0 0 0 0 0) blank blank ∷ []) ([]))
    (no_more 10) ∷
    -- list-dimensions-after-fixing
    walk_vector
    (node 16 0 0 0 0 0 ∷ node 22 0 0 0 0 0 ∷ node 18 1 0 0 0 0 ∷ node 17 0 0 0 0 0 ∷ [])
    (root 0 ∷ root 1 ∷ root 2 ∷ root 3 ∷ [])
    (3 ∷ 4 ∷ 0 ∷ 2 ∷ 0 ∷ 0 ∷ 0 ∷ 1 ∷ 0 ∷ 1 ∷ 0 ∷ 1 ∷ 0 ∷ 1 ∷ 0 ∷ 0 ∷ 0 ∷ 0 ∷ 0 ∷ 0 ∷ 0 ∷ 1 ∷ 0 ∷ 2 ∷ 0 ∷ 0 ∷ 0 ∷ 2 ∷ 0 ∷ 2 ∷ 0 ∷ 0 ∷ 0 ∷ 4 ∷ [])
    fix_dims2ns
    (lists' 0 (step 8 1 (ref 33 0 0 0 0 0 0) (ref 33 0 1 0 0 0 0) blank blank ∷ []) ([]) (step 8 1 (ref 33 0 0 0 0 0 0) (ref 16 0 4 0 0 0 0) blank blank ∷ []))
    (no_more 3) ∷
    -- list-dimensions-after-the-query-walk
    walk_vector
    (node 16 0 0 0 0 0 ∷ node 22 0 0 0 0 0 ∷ node 18 1 0 0 0 0 ∷ node 17 0 0 0 0 0 ∷ [])
    (root 0 ∷ root 1 ∷ root 2 ∷ root 3 ∷ [])
    (3 ∷ 4 ∷ 0 ∷ 2 ∷ 0 ∷ 0 ∷ 0 ∷ 1 ∷ 0 ∷ 1 ∷ 0 ∷ 1 ∷ 0 ∷ 1 ∷ 0 ∷ 0 ∷ 0 ∷ 0 ∷ 0 ∷ 0 ∷ 0 ∷ 1 ∷ 0 ∷ 2 ∷ 0 ∷ 0 ∷ 0 ∷ 2 ∷ 0 ∷ 2 ∷ 0 ∷ 0 ∷ 0 ∷ 4 ∷ [])
    query_dims
    (lists' 0 (step 8 1 (ref 33 0 0 0 0 0 0) (ref 33 0 1 0 0 0 0) blank blank ∷ []) ([]) (step 8 1 (ref 33 0 0 0 0 0 0) (ref 16 0 4 0 0 0 0) blank blank ∷ []))
    (no_more 3) ∷
    -- list-query-of-an-intermediate
    walk_vector
    (node 16 0 0 0 0 0 ∷ node 22 0 0 0 0 0 ∷ node 18 1 0 0 0 0 ∷ node 17 0 0 0 0 0 ∷ [])
    (root 0 ∷ root 1 ∷ root 2 ∷ root 3 ∷ [])
    (3 ∷ 4 ∷ 0 ∷ 2 ∷ 0 ∷ 0 ∷ 0 ∷ 1 ∷ 0 ∷ 1 ∷ 0 ∷ 1 ∷ 0 ∷ 1 ∷ 0 ∷ 0 ∷ 0 ∷ 0 ∷ 0 ∷ 0 ∷ 0 ∷ 1 ∷ 0 ∷ 2 ∷ 0 ∷ 0 ∷ 0 ∷ 2 ∷ 0 ∷ 2 ∷ 0 ∷ 0 ∷ 0 ∷ 4 ∷ [])
    query_dims
    (lists' 0 (step 1 2 (ref 32 0 0 0 0 0 0) (ref 18 0 2 0 0 0 0) (ref 16 1 2 0 0 0 0) blank ∷ []) ([]) ([]))
    (becomes (lists' 0 (step 1 2 (ref 32 0 0 3 0 0 0) (ref 38 0 2 3 0 0 0) (ref 38 1 2 3 5 0 0) blank ∷ []) ([]) ([]))) ∷
    -- random-1-012-fix_dims-n-generated
    walk_vector
    (node 17 1 0 0 0 0 ∷ node 17 1 0 0 0 0 ∷ node 3 0 2 0 1 0 ∷ [])
    (root 2 ∷ [])
    (0 ∷ 0 ∷ 0 ∷ 2 ∷ 0 ∷ 6 ∷ 0 ∷ 6 ∷ 0 ∷ 2 ∷ 0 ∷ 2 ∷ 0 ∷ 0 ∷ 0 ∷ 3 ∷ 0 ∷ 2 ∷ 0 ∷ 1 ∷ 0 ∷ 0 ∷ 0 ∷ 2 ∷ 0 ∷ 2 ∷ 0 ∷ 0 ∷ 0 ∷ 0 ∷ 0 ∷ 0 ∷ 0 ∷ 0 ∷ 0 ∷ 0 ∷ 0 ∷ 0 ∷ 0 ∷ 0 ∷ 0 ∷ 0 ∷ 0 ∷ 0 ∷ 0 ∷ 0 ∷ 0 ∷ 0 ∷ 0 ∷ 0 ∷ 0 ∷ 0 ∷ 0 ∷ 0 ∷ 0 ∷ 0 ∷ 0 ∷ 0 ∷ 0 ∷ 0 ∷ 0 ∷ 0 ∷ 0 ∷ 16 ∷ 0 ∷ 26 ∷ 0 ∷ 0 ∷ 0 ∷ 0 ∷ [])
    fix_dims_n
    (lists' 0 (step 3 2 (ref 18 1 0 0 0 0 0) (ref 17 1 1 0 0 0 0) (ref 17 1 1 0 0 0 0) blank ∷ []) (step 3 2 (ref 18 1 0 0 0 0 0) (ref 17 1 1 0 0 0 0) (ref 17 1 1 0 0 0 0) blank ∷ []) (step 3 2 (ref 18 1 0 0 0 0 0) (ref 17 1 1 0 0 0 0) (ref 17 1 1 0 0 0 0) blank ∷ []))
    (becomes (lists' 0 (step 3 2 (ref 34 1 0 1 0 0 0) (ref 17 1 1 1 0 0 0) (ref 17 1 1 1 0 0 0) blank ∷ []) (step 3 2 (ref 34 1 0 1 0 0 0) (ref 17 1 1 1 0 0 0) (ref 17 1 1 1 0 0 0) blank ∷ []) (step 3 2 (ref 34 1 0 1 0 0 0) (ref 17 1 1 1 0 0 0) (ref 17 1 1 1 0 0 0) blank ∷ []))) ∷
    -- random-1-013-fix_dims-n-any
    walk_vector
    (node 16 0 0 0 0 0 ∷ node 23 65535 0 0 0 0 ∷ node 3 0 2 0 1 0 ∷ node 23 65535 0 0 0 0 ∷ node 17 1 0 0 0 0 ∷ node 6 0 1 3 0 0 ∷ node 1 0 2 4 5 0 ∷ node 7 0 1 2 0 0 ∷ node 25 0 0 0 0 0 ∷ node 16 3 0 0 0 0 ∷ node 1 0 2 7 6 0 ∷ node 24 0 0 0 0 0 ∷ node 16 0 0 0 0 0 ∷ node 19 0 0 0 0 0 ∷ node 3 0 2 11 9 0 ∷ node 4 0 3 12 14 8 ∷ [])
    (root 10 ∷ root 13 ∷ root 15 ∷ [])
    (1 ∷ 1 ∷ 0 ∷ 2 ∷ 0 ∷ 0 ∷ 0 ∷ 1 ∷ 0 ∷ 2 ∷ 0 ∷ 2 ∷ 0 ∷ 1 ∷ 0 ∷ 0 ∷ 0 ∷ 0 ∷ 0 ∷ 0 ∷ 0 ∷ 1 ∷ 0 ∷ 0 ∷ 0 ∷ 1 ∷ 0 ∷ 2 ∷ 0 ∷ 2 ∷ 0 ∷ 0 ∷ [])
    fix_dims_n
    (lists' 1 (step 4 3 (ref 33 0 1 0 0 0 0) (ref 25 0 0 0 0 0 0) (ref 25 1 0 0 0 0 0) (ref 24 0 0 0 0 0 0) ∷ []) (step 8 1 (ref 18 0 1 0 0 0 0) (ref 21 1 0 0 0 0 0) blank blank ∷ []) (step 2 2 (ref 32 0 2 0 0 0 0) (ref 22 0 0 0 0 0 0) (ref 24 0 0 0 0 0 0) blank ∷ []))
    (becomes (lists' 2 (step 4 3 (ref 33 0 1 1 0 0 0) (ref 25 0 0 1 0 0 0) (ref 25 1 0 1 0 0 0) (ref 24 0 0 1 0 0 0) ∷ []) (step 8 1 (ref 32 0 1 1 0 0 1) (ref 21 1 0 1 0 0 0) blank blank ∷ []) (step 2 2 (ref 32 0 2 3 0 0 0) (ref 22 0 0 3 0 0 0) (ref 24 0 0 1 0 0 0) blank ∷ []))) ∷
    -- random-1-014-fix_dims-2ns-generated
    walk_vector
    (node 25 0 0 0 0 0 ∷ node 25 0 0 0 0 0 ∷ node 1 0 2 0 1 0 ∷ node 16 0 0 0 0 0 ∷ node 2 0 2 2 3 0 ∷ node 17 256 0 0 0 0 ∷ node 1 0 2 5 4 0 ∷ node 16 0 0 0 0 0 ∷ node 6 0 1 7 0 0 ∷ node 2 0 2 6 8 0 ∷ node 17 2 0 0 0 0 ∷ node 5 0 1 9 0 0 ∷ node 6 0 1 10 0 0 ∷ [])
    (root 11 ∷ [])
    (1 ∷ 2 ∷ 0 ∷ 2 ∷ 0 ∷ 4 ∷ 0 ∷ 5 ∷ 0 ∷ 2 ∷ 0 ∷ 2 ∷ 0 ∷ 0 ∷ 0 ∷ 2 ∷ 0 ∷ 1 ∷ 0 ∷ 1 ∷ 0 ∷ 1 ∷ 0 ∷ 0 ∷ 0 ∷ 0 ∷ 0 ∷ 0 ∷ 0 ∷ 0 ∷ 0 ∷ 0 ∷ 0 ∷ 0 ∷ 0 ∷ 0 ∷ 0 ∷ 0 ∷ 0 ∷ 0 ∷ 0 ∷ 0 ∷ 0 ∷ 0 ∷ 0 ∷ 0 ∷ 0 ∷ 0 ∷ 0 ∷ 0 ∷ 0 ∷ 0 ∷ 0 ∷ 10 ∷ [])
    fix_dims2ns
    (lists' 5 (step 1 2 (ref 32 0 0 0 0 0 0) (ref 25 0 0 0 0 0 0) (ref 25 0 0 0 0 0 0) blank ∷ step 2 2 (ref 32 0 1 0 0 0 0) (ref 32 0 0 0 0 0 0) (ref 16 0 0 0 0 0 0) blank ∷ step 1 2 (ref 32 0 2 0 0 0 0) (ref 17 0 256 0 0 0 0) (ref 32 0 1 0 0 0 0) blank ∷ step 3 2 (ref 32 0 3 0 0 0 0) (ref 16 0 0 0 0 0 0) (ref 20 0 0 0 0 0 0) blank ∷ step 2 2 (ref 32 0 4 0 0 0 0) (ref 32 0 2 0 0 0 0) (ref 32 0 3 0 0 0 0) blank ∷ step 1 2 (ref 18 0 0 0 0 0 0) (ref 32 0 4 0 0 0 0) (ref 20 0 0 0 0 0 0) blank ∷ []) (step 1 2 (ref 32 0 0 0 0 0 0) (ref 25 0 0 0 0 0 0) (ref 25 0 0 0 0 0 0) blank ∷ step 2 2 (ref 32 0 1 0 0 0 0) (ref 32 0 0 0 0 0 0) (ref 16 0 0 0 0 0 0) blank ∷ step 1 2 (ref 32 0 2 0 0 0 0) (ref 17 0 256 0 0 0 0) (ref 32 0 1 0 0 0 0) blank ∷ step 3 2 (ref 32 0 3 0 0 0 0) (ref 16 0 0 0 0 0 0) (ref 20 0 0 0 0 0 0) blank ∷ step 2 2 (ref 32 0 4 0 0 0 0) (ref 32 0 2 0 0 0 0) (ref 32 0 3 0 0 0 0) blank ∷ step 1 2 (ref 18 0 0 0 0 0 0) (ref 32 0 4 0 0 0 0) (ref 20 0 0 0 0 0 0) blank ∷ []) (step 1 2 (ref 32 0 0 0 0 0 0) (ref 25 0 0 0 0 0 0) (ref 25 0 0 0 0 0 0) blank ∷ step 2 2 (ref 32 0 1 0 0 0 0) (ref 32 0 0 0 0 0 0) (ref 16 0 0 0 0 0 0) blank ∷ step 1 2 (ref 32 0 2 0 0 0 0) (ref 17 0 256 0 0 0 0) (ref 32 0 1 0 0 0 0) blank ∷ step 3 2 (ref 32 0 3 0 0 0 0) (ref 16 0 0 0 0 0 0) (ref 20 0 0 0 0 0 0) blank ∷ step 2 2 (ref 32 0 4 0 0 0 0) (ref 32 0 2 0 0 0 0) (ref 32 0 3 0 0 0 0) blank ∷ step 1 2 (ref 18 0 0 0 0 0 0) (ref 32 0 4 0 0 0 0) (ref 20 0 0 0 0 0 0) blank ∷ []))
    (becomes (lists' 5 (step 1 2 (ref 32 0 0 1 0 0 0) (ref 25 0 0 1 0 0 0) (ref 25 0 0 1 0 0 0) blank ∷ step 2 2 (ref 32 0 1 1 0 0 0) (ref 32 0 0 1 0 0 0) (ref 16 0 0 1 1 0 0) blank ∷ step 1 2 (ref 32 0 2 1 0 0 0) (ref 17 0 256 1 0 0 0) (ref 32 0 1 1 0 0 0) blank ∷ step 3 2 (ref 32 0 3 1 0 0 0) (ref 16 0 0 1 1 0 0) (ref 20 0 0 1 0 0 0) blank ∷ step 2 2 (ref 32 0 4 1 0 0 0) (ref 32 0 2 1 0 0 0) (ref 32 0 3 1 0 0 0) blank ∷ step 1 2 (ref 16 0 10 1 0 0 0) (ref 32 0 4 1 0 0 0) (ref 20 0 0 1 0 0 0) blank ∷ []) (step 1 2 (ref 32 0 0 1 0 0 0) (ref 25 0 0 1 0 0 0) (ref 25 0 0 1 0 0 0) blank ∷ step 2 2 (ref 32 0 1 1 0 0 0) (ref 32 0 0 1 0 0 0) (ref 16 0 0 1 1 0 0) blank ∷ step 1 2 (ref 32 0 2 1 0 0 0) (ref 17 0 256 1 0 0 0) (ref 32 0 1 1 0 0 0) blank ∷ step 3 2 (ref 32 0 3 1 0 0 0) (ref 16 0 0 1 1 0 0) (ref 20 0 0 1 0 0 0) blank ∷ step 2 2 (ref 32 0 4 1 0 0 0) (ref 32 0 2 1 0 0 0) (ref 32 0 3 1 0 0 0) blank ∷ step 1 2 (ref 16 0 10 1 0 0 0) (ref 32 0 4 1 0 0 0) (ref 20 0 0 1 0 0 0) blank ∷ []) (step 1 2 (ref 32 0 0 1 0 0 0) (ref 25 0 0 1 0 0 0) (ref 25 0 0 1 0 0 0) blank ∷ step 2 2 (ref 32 0 1 1 0 0 0) (ref 32 0 0 1 0 0 0) (ref 16 0 0 1 1 0 0) blank ∷ step 1 2 (ref 32 0 2 1 0 0 0) (ref 17 0 256 1 0 0 0) (ref 32 0 1 1 0 0 0) blank ∷ step 3 2 (ref 32 0 3 1 0 0 0) (ref 16 0 0 1 1 0 0) (ref 20 0 0 1 0 0 0) blank ∷ step 2 2 (ref 32 0 4 1 0 0 0) (ref 32 0 2 1 0 0 0) (ref 32 0 3 1 0 0 0) blank ∷ step 1 2 (ref 16 0 10 1 0 0 0) (ref 32 0 4 1 0 0 0) (ref 20 0 0 1 0 0 0) blank ∷ []))) ∷
    -- random-1-016-query_dims-generated
    walk_vector
    (node 16 1 0 0 0 0 ∷ node 16 1 0 0 0 0 ∷ node 3 0 2 1 0 0 ∷ node 16 4 0 0 0 0 ∷ node 16 3 0 0 0 0 ∷ node 6 0 1 4 0 0 ∷ node 20 0 0 0 0 0 ∷ node 20 0 0 0 0 0 ∷ node 3 0 2 5 2 0 ∷ node 7 0 1 8 0 0 ∷ node 2 0 2 9 7 0 ∷ node 6 0 1 10 0 0 ∷ node 17 0 0 0 0 0 ∷ node 16 2 0 0 0 0 ∷ node 1 0 2 13 11 0 ∷ node 3 0 2 6 14 0 ∷ node 1 0 2 12 15 0 ∷ node 2 0 2 16 3 0 ∷ [])
    (root 17 ∷ [])
    (10 ∷ 13 ∷ 0 ∷ 0 ∷ 0 ∷ 0 ∷ 0 ∷ 3 ∷ 0 ∷ 3 ∷ 0 ∷ 3 ∷ 0 ∷ 0 ∷ 0 ∷ 0 ∷ 0 ∷ 1 ∷ 0 ∷ 1 ∷ 0 ∷ 1 ∷ 0 ∷ 2 ∷ 0 ∷ 0 ∷ 0 ∷ 0 ∷ 0 ∷ 0 ∷ 0 ∷ 0 ∷ 0 ∷ 0 ∷ 0 ∷ 0 ∷ 0 ∷ 2 ∷ 0 ∷ 5 ∷ 0 ∷ 10 ∷ [])
    query_dims
    (lists' 8 (step 3 2 (ref 32 0 0 0 0 0 0) (ref 16 0 3 0 0 0 0) (ref 20 0 0 0 0 0 0) blank ∷ step 3 2 (ref 32 0 1 0 0 0 0) (ref 16 0 1 0 0 0 0) (ref 16 0 1 0 0 0 0) blank ∷ step 3 2 (ref 32 0 2 0 0 0 0) (ref 32 0 0 0 0 0 0) (ref 32 0 1 0 0 0 0) blank ∷ step 2 2 (ref 32 0 3 0 0 0 0) (ref 20 0 0 0 0 0 0) (ref 32 0 2 0 0 0 0) blank ∷ step 2 2 (ref 32 0 4 0 0 0 0) (ref 32 0 3 0 0 0 0) (ref 20 0 0 0 0 0 0) blank ∷ step 3 2 (ref 32 0 5 0 0 0 0) (ref 32 0 4 0 0 0 0) (ref 20 0 0 0 0 0 0) blank ∷ step 1 2 (ref 32 0 6 0 0 0 0) (ref 16 0 2 0 0 0 0) (ref 32 0 5 0 0 0 0) blank ∷ step 4 3 (ref 32 0 7 0 0 0 0) (ref 20 0 0 0 0 0 0) (ref 32 0 6 0 0 0 0) (ref 17 0 0 0 0 0 0) ∷ step 2 2 (ref 18 0 0 0 0 0 0) (ref 32 0 7 0 0 0 0) (ref 16 0 4 0 0 0 0) blank ∷ []) (step 3 2 (ref 32 0 0 0 0 0 0) (ref 16 0 3 0 0 0 0) (ref 20 0 0 0 0 0 0) blank ∷ step 3 2 (ref 32 0 1 0 0 0 0) (ref 16 0 1 0 0 0 0) (ref 16 0 1 0 0 0 0) blank ∷ step 3 2 (ref 32 0 2 0 0 0 0) (ref 32 0 0 0 0 0 0) (ref 32 0 1 0 0 0 0) blank ∷ step 2 2 (ref 32 0 3 0 0 0 0) (ref 20 0 0 0 0 0 0) (ref 32 0 2 0 0 0 0) blank ∷ step 2 2 (ref 32 0 4 0 0 0 0) (ref 32 0 3 0 0 0 0) (ref 20 0 0 0 0 0 0) blank ∷ step 3 2 (ref 32 0 5 0 0 0 0) (ref 32 0 4 0 0 0 0) (ref 20 0 0 0 0 0 0) blank ∷ step 1 2 (ref 32 0 6 0 0 0 0) (ref 16 0 2 0 0 0 0) (ref 32 0 5 0 0 0 0) blank ∷ step 4 3 (ref 32 0 7 0 0 0 0) (ref 20 0 0 0 0 0 0) (ref 32 0 6 0 0 0 0) (ref 17 0 0 0 0 0 0) ∷ step 2 2 (ref 18 0 0 0 0 0 0) (ref 32 0 7 0 0 0 0) (ref 16 0 4 0 0 0 0) blank ∷ []) (step 3 2 (ref 32 0 0 0 0 0 0) (ref 16 0 3 0 0 0 0) (ref 20 0 0 0 0 0 0) blank ∷ step 3 2 (ref 32 0 1 0 0 0 0) (ref 16 0 1 0 0 0 0) (ref 16 0 1 0 0 0 0) blank ∷ step 3 2 (ref 32 0 2 0 0 0 0) (ref 32 0 0 0 0 0 0) (ref 32 0 1 0 0 0 0) blank ∷ step 2 2 (ref 32 0 3 0 0 0 0) (ref 20 0 0 0 0 0 0) (ref 32 0 2 0 0 0 0) blank ∷ step 2 2 (ref 32 0 4 0 0 0 0) (ref 32 0 3 0 0 0 0) (ref 20 0 0 0 0 0 0) blank ∷ step 3 2 (ref 32 0 5 0 0 0 0) (ref 32 0 4 0 0 0 0) (ref 20 0 0 0 0 0 0) blank ∷ step 1 2 (ref 32 0 6 0 0 0 0) (ref 16 0 2 0 0 0 0) (ref 32 0 5 0 0 0 0) blank ∷ step 4 3 (ref 32 0 7 0 0 0 0) (ref 20 0 0 0 0 0 0) (ref 32 0 6 0 0 0 0) (ref 17 0 0 0 0 0 0) ∷ step 2 2 (ref 18 0 0 0 0 0 0) (ref 32 0 7 0 0 0 0) (ref 16 0 4 0 0 0 0) blank ∷ []))
    (no_more 10) ∷
    -- random-1-017-any-walk-plan-refused
    walk_vector
    (node 22 65535 0 0 0 0 ∷ node 16 4 0 0 0 0 ∷ node 3 0 2 0 1 0 ∷ node 5 0 1 2 0 0 ∷ node 16 4 0 0 0 0 ∷ node 7 0 1 3 0 0 ∷ node 17 65535 0 0 0 0 ∷ node 2 0 2 4 5 0 ∷ [])
    (root 8 ∷ [])
    (0 ∷ 0 ∷ 0 ∷ 0 ∷ 0 ∷ 2 ∷ 0 ∷ 1 ∷ 0 ∷ 3 ∷ 0 ∷ 2 ∷ 0 ∷ 0 ∷ 0 ∷ 1 ∷ 0 ∷ 0 ∷ 0 ∷ 0 ∷ 0 ∷ 0 ∷ 0 ∷ 0 ∷ 0 ∷ 1 ∷ 0 ∷ 0 ∷ 0 ∷ 0 ∷ 0 ∷ 0 ∷ 0 ∷ 0 ∷ 0 ∷ 0 ∷ [])
    query_dims
    (lists' 0 ([]) ([]) ([]))
    (no_more 3) ∷
    -- random-1-027-any-walk-plan-refused
    walk_vector
    (node 17 1 0 0 0 0 ∷ node 5 0 1 0 0 0 ∷ node 17 65535 0 0 0 0 ∷ node 2 0 2 2 1 0 ∷ node 26 0 0 0 0 0 ∷ [])
    (root 4 ∷ [])
    (10 ∷ 13 ∷ 0 ∷ 4 ∷ 0 ∷ 0 ∷ 0 ∷ 2 ∷ 0 ∷ 0 ∷ 0 ∷ 0 ∷ 0 ∷ 0 ∷ 0 ∷ 0 ∷ 0 ∷ 0 ∷ 0 ∷ 0 ∷ 0 ∷ 1 ∷ 0 ∷ 0 ∷ 0 ∷ 0 ∷ 0 ∷ 0 ∷ 0 ∷ 0 ∷ [])
    fix_dims2ns
    (lists' 0 ([]) ([]) ([]))
    (no_more 11) ∷
    -- random-1-032-fix_dims-2ns-generated
    walk_vector
    (node 17 3 0 0 0 0 ∷ node 16 5 0 0 0 0 ∷ node 2 0 2 1 0 0 ∷ node 7 0 1 2 0 0 ∷ node 16 7 0 0 0 0 ∷ node 17 65535 0 0 0 0 ∷ node 16 13 0 0 0 0 ∷ node 1 0 2 6 4 0 ∷ node 2 0 2 7 3 0 ∷ node 20 0 0 0 0 0 ∷ node 1 0 2 8 9 0 ∷ node 25 0 0 0 0 0 ∷ node 1 0 2 5 10 0 ∷ node 3 0 2 12 11 0 ∷ node 7 0 1 13 0 0 ∷ node 16 14 0 0 0 0 ∷ node 2 0 2 14 15 0 ∷ node 24 0 0 0 0 0 ∷ [])
    (root 17 ∷ root 16 ∷ [])
    (23 ∷ 23 ∷ 0 ∷ 7 ∷ 0 ∷ 4 ∷ 0 ∷ 3 ∷ 0 ∷ 2 ∷ 0 ∷ 2 ∷ 0 ∷ 1 ∷ 0 ∷ 2 ∷ 0 ∷ 0 ∷ 0 ∷ 0 ∷ 0 ∷ 1 ∷ 0 ∷ 1 ∷ 0 ∷ 1 ∷ 0 ∷ 1 ∷ 0 ∷ 0 ∷ 0 ∷ 0 ∷ 0 ∷ 1 ∷ 0 ∷ 0 ∷ 0 ∷ 0 ∷ 0 ∷ 1 ∷ 0 ∷ 1 ∷ 0 ∷ 0 ∷ 0 ∷ 13 ∷ 0 ∷ 27 ∷ 0 ∷ 1 ∷ [])
    fix_dims2ns
    (lists' 8 (step 1 2 (ref 32 0 0 0 0 0 0) (ref 16 0 13 0 0 0 0) (ref 16 0 7 0 0 0 0) blank ∷ step 2 2 (ref 32 0 1 0 0 0 0) (ref 16 0 5 0 0 0 0) (ref 17 0 3 0 0 0 0) blank ∷ step 2 2 (ref 32 0 2 0 0 0 0) (ref 20 0 0 0 0 0 0) (ref 32 0 1 0 0 0 0) blank ∷ step 2 2 (ref 32 0 3 0 0 0 0) (ref 32 0 0 0 0 0 0) (ref 32 0 2 0 0 0 0) blank ∷ step 1 2 (ref 32 0 4 0 0 0 0) (ref 32 0 3 0 0 0 0) (ref 20 0 0 0 0 0 0) blank ∷ step 1 2 (ref 32 0 5 0 0 0 0) (ref 17 0 65535 0 0 0 0) (ref 32 0 4 0 0 0 0) blank ∷ step 3 2 (ref 32 0 6 0 0 0 0) (ref 32 0 5 0 0 0 0) (ref 25 0 0 0 0 0 0) blank ∷ step 2 2 (ref 32 0 7 0 0 0 0) (ref 20 0 0 0 0 0 0) (ref 32 0 6 0 0 0 0) blank ∷ step 2 2 (ref 18 0 1 0 0 0 0) (ref 32 0 7 0 0 0 0) (ref 16 0 14 0 0 0 0) blank ∷ []) (step 1 2 (ref 32 0 0 0 0 0 0) (ref 16 0 13 0 0 0 0) (ref 16 0 7 0 0 0 0) blank ∷ step 2 2 (ref 32 0 1 0 0 0 0) (ref 16 0 5 0 0 0 0) (ref 17 0 3 0 0 0 0) blank ∷ step 2 2 (ref 32 0 2 0 0 0 0) (ref 20 0 0 0 0 0 0) (ref 32 0 1 0 0 0 0) blank ∷ step 2 2 (ref 32 0 3 0 0 0 0) (ref 32 0 0 0 0 0 0) (ref 32 0 2 0 0 0 0) blank ∷ step 1 2 (ref 32 0 4 0 0 0 0) (ref 32 0 3 0 0 0 0) (ref 20 0 0 0 0 0 0) blank ∷ step 1 2 (ref 32 0 5 0 0 0 0) (ref 17 0 65535 0 0 0 0) (ref 32 0 4 0 0 0 0) blank ∷ step 3 2 (ref 32 0 6 0 0 0 0) (ref 32 0 5 0 0 0 0) (ref 25 0 0 0 0 0 0) blank ∷ step 2 2 (ref 32 0 7 0 0 0 0) (ref 20 0 0 0 0 0 0) (ref 32 0 6 0 0 0 0) blank ∷ step 2 2 (ref 18 0 1 0 0 0 0) (ref 32 0 7 0 0 0 0) (ref 16 0 14 0 0 0 0) blank ∷ []) (step 1 2 (ref 32 0 0 0 0 0 0) (ref 16 0 13 0 0 0 0) (ref 16 0 7 0 0 0 0) blank ∷ step 2 2 (ref 32 0 1 0 0 0 0) (ref 16 0 5 0 0 0 0) (ref 17 0 3 0 0 0 0) blank ∷ step 2 2 (ref 32 0 2 0 0 0 0) (ref 20 0 0 0 0 0 0) (ref 32 0 1 0 0 0 0) blank ∷ step 2 2 (ref 32 0 3 0 0 0 0) (ref 32 0 0 0 0 0 0) (ref 32 0 2 0 0 0 0) blank ∷ step 1 2 (ref 32 0 4 0 0 0 0) (ref 32 0 3 0 0 0 0) (ref 20 0 0 0 0 0 0) blank ∷ step 1 2 (ref 32 0 5 0 0 0 0) (ref 17 0 65535 0 0 0 0) (ref 32 0 4 0 0 0 0) blank ∷ step 3 2 (ref 32 0 6 0 0 0 0) (ref 32 0 5 0 0 0 0) (ref 25 0 0 0 0 0 0) blank ∷ step 2 2 (ref 32 0 7 0 0 0 0) (ref 20 0 0 0 0 0 0) (ref 32 0 6 0 0 0 0) blank ∷ step 2 2 (ref 18 0 1 0 0 0 0) (ref 32 0 7 0 0 0 0) (ref 16 0 14 0 0 0 0) blank ∷ []))
    (becomes (lists' 9 (step 1 2 (ref 32 0 0 3 0 0 0) (ref 16 0 13 3 28 0 0) (ref 16 0 7 3 15 0 0) blank ∷ step 2 2 (ref 32 0 1 1 0 0 0) (ref 16 0 5 1 11 0 0) (ref 17 0 3 1 0 0 0) blank ∷ step 2 2 (ref 32 0 2 1 0 0 0) (ref 20 0 0 1 0 0 0) (ref 32 0 1 1 0 0 0) blank ∷ step 2 2 (ref 32 0 3 3 0 0 0) (ref 32 0 0 3 0 0 0) (ref 32 0 2 1 0 0 0) blank ∷ step 1 2 (ref 32 0 4 3 0 0 0) (ref 32 0 3 3 0 0 0) (ref 20 0 0 1 0 0 0) blank ∷ step 1 2 (ref 32 0 5 3 0 0 0) (ref 17 0 65535 1 0 0 0) (ref 32 0 4 3 0 0 0) blank ∷ step 3 2 (ref 32 0 6 3 0 0 0) (ref 32 0 5 3 0 0 0) (ref 25 0 0 1 0 0 0) blank ∷ step 2 2 (ref 32 0 7 3 0 0 0) (ref 20 0 0 1 0 0 0) (ref 32 0 6 3 0 0 0) blank ∷ step 2 2 (ref 32 0 8 3 0 0 1) (ref 32 0 7 3 0 0 0) (ref 16 0 14 3 30 0 0) blank ∷ []) (step 1 2 (ref 32 0 0 3 0 0 0) (ref 16 0 13 3 28 0 0) (ref 16 0 7 3 15 0 0) blank ∷ step 2 2 (ref 32 0 1 1 0 0 0) (ref 16 0 5 1 11 0 0) (ref 17 0 3 1 0 0 0) blank ∷ step 2 2 (ref 32 0 2 1 0 0 0) (ref 20 0 0 1 0 0 0) (ref 32 0 1 1 0 0 0) blank ∷ step 2 2 (ref 32 0 3 3 0 0 0) (ref 32 0 0 3 0 0 0) (ref 32 0 2 1 0 0 0) blank ∷ step 1 2 (ref 32 0 4 3 0 0 0) (ref 32 0 3 3 0 0 0) (ref 20 0 0 1 0 0 0) blank ∷ step 1 2 (ref 32 0 5 3 0 0 0) (ref 17 0 65535 1 0 0 0) (ref 32 0 4 3 0 0 0) blank ∷ step 3 2 (ref 32 0 6 3 0 0 0) (ref 32 0 5 3 0 0 0) (ref 25 0 0 1 0 0 0) blank ∷ step 2 2 (ref 32 0 7 3 0 0 0) (ref 20 0 0 1 0 0 0) (ref 32 0 6 3 0 0 0) blank ∷ step 2 2 (ref 32 0 8 3 0 0 1) (ref 32 0 7 3 0 0 0) (ref 16 0 14 3 30 0 0) blank ∷ []) (step 1 2 (ref 32 0 0 3 0 0 0) (ref 16 0 13 3 28 0 0) (ref 16 0 7 3 15 0 0) blank ∷ step 2 2 (ref 32 0 1 1 0 0 0) (ref 16 0 5 1 11 0 0) (ref 17 0 3 1 0 0 0) blank ∷ step 2 2 (ref 32 0 2 1 0 0 0) (ref 20 0 0 1 0 0 0) (ref 32 0 1 1 0 0 0) blank ∷ step 2 2 (ref 32 0 3 3 0 0 0) (ref 32 0 0 3 0 0 0) (ref 32 0 2 1 0 0 0) blank ∷ step 1 2 (ref 32 0 4 3 0 0 0) (ref 32 0 3 3 0 0 0) (ref 20 0 0 1 0 0 0) blank ∷ step 1 2 (ref 32 0 5 3 0 0 0) (ref 17 0 65535 1 0 0 0) (ref 32 0 4 3 0 0 0) blank ∷ step 3 2 (ref 32 0 6 3 0 0 0) (ref 32 0 5 3 0 0 0) (ref 25 0 0 1 0 0 0) blank ∷ step 2 2 (ref 32 0 7 3 0 0 0) (ref 20 0 0 1 0 0 0) (ref 32 0 6 3 0 0 0) blank ∷ step 2 2 (ref 32 0 8 3 0 0 1) (ref 32 0 7 3 0 0 0) (ref 16 0 14 3 30 0 0) blank ∷ []))) ∷
    -- random-1-033-fix_dims-2ns-any
    walk_vector
    (node 18 0 0 0 0 0 ∷ node 18 0 0 0 0 0 ∷ node 7 0 1 1 0 0 ∷ node 23 0 0 0 0 0 ∷ node 7 0 1 0 0 0 ∷ node 1 0 2 2 4 0 ∷ node 3 0 2 5 3 0 ∷ node 5 0 1 6 0 0 ∷ node 19 0 0 0 0 0 ∷ node 17 1 0 0 0 0 ∷ node 16 0 0 0 0 0 ∷ node 5 0 1 9 0 0 ∷ node 3 0 2 8 7 0 ∷ [])
    (root 11 ∷ [])
    (10 ∷ 11 ∷ 0 ∷ 1 ∷ 0 ∷ 0 ∷ 0 ∷ 1 ∷ 0 ∷ 2 ∷ 0 ∷ 2 ∷ 0 ∷ 0 ∷ 0 ∷ 0 ∷ 0 ∷ 1 ∷ 0 ∷ 0 ∷ 0 ∷ 0 ∷ 0 ∷ 1 ∷ 0 ∷ 1 ∷ 0 ∷ 0 ∷ 0 ∷ 0 ∷ 0 ∷ 8 ∷ 0 ∷ 0 ∷ [])
    fix_dims2ns
    (lists' 0 (step 8 2 (ref 18 0 0 0 0 0 0) (ref 16 0 0 0 0 0 0) (ref 25 1 0 0 0 0 0) blank ∷ step 8 1 (ref 32 0 3 0 0 0 0) (ref 16 0 2 0 0 0 0) blank blank ∷ []) (step 1 2 (ref 18 0 0 0 0 0 0) (ref 26 0 0 0 0 0 0) (ref 18 0 0 0 0 0 0) blank ∷ []) ([]))
    (becomes (lists' 1 (step 8 2 (ref 32 0 0 1 0 0 0) (ref 16 0 0 1 1 0 0) (ref 25 1 0 0 0 0 0) blank ∷ step 8 1 (ref 32 0 3 1 0 0 0) (ref 16 0 2 1 6 0 0) blank blank ∷ []) (step 1 2 (ref 32 0 0 1 0 0 0) (ref 26 0 0 1 0 0 0) (ref 32 0 0 1 0 0 0) blank ∷ []) ([]))) ∷
    -- random-1-048-fix_dims-n-generated
    walk_vector
    (node 16 1 0 0 0 0 ∷ node 16 1 0 0 0 0 ∷ node 16 0 0 0 0 0 ∷ node 3 0 2 2 0 0 ∷ node 17 0 0 0 0 0 ∷ node 2 0 2 4 1 0 ∷ node 3 0 2 3 5 0 ∷ [])
    (root 6 ∷ [])
    (10 ∷ 14 ∷ 0 ∷ 2 ∷ 0 ∷ 4 ∷ 0 ∷ 3 ∷ 0 ∷ 3 ∷ 0 ∷ 3 ∷ 0 ∷ 0 ∷ 0 ∷ 2 ∷ 0 ∷ 0 ∷ 0 ∷ 0 ∷ 0 ∷ 1 ∷ 0 ∷ 1 ∷ 0 ∷ 1 ∷ 0 ∷ 0 ∷ 0 ∷ 0 ∷ 0 ∷ 0 ∷ 0 ∷ 0 ∷ 0 ∷ 0 ∷ 0 ∷ 0 ∷ 0 ∷ 0 ∷ 0 ∷ 0 ∷ 0 ∷ 0 ∷ 0 ∷ 8 ∷ 0 ∷ 9 ∷ 0 ∷ 0 ∷ [])
    fix_dims_n
    (lists' 2 (step 3 2 (ref 32 0 0 0 0 0 0) (ref 16 0 0 0 0 0 0) (ref 16 1 1 0 0 0 0) blank ∷ step 2 2 (ref 32 0 1 0 0 0 0) (ref 17 1 0 0 0 0 0) (ref 16 1 1 0 0 0 0) blank ∷ step 3 2 (ref 18 0 0 0 0 0 0) (ref 32 0 0 0 0 0 0) (ref 32 0 1 0 0 0 0) blank ∷ []) (step 3 2 (ref 32 0 0 0 0 0 0) (ref 16 0 0 0 0 0 0) (ref 16 1 1 0 0 0 0) blank ∷ step 2 2 (ref 32 0 1 0 0 0 0) (ref 17 1 0 0 0 0 0) (ref 16 1 1 0 0 0 0) blank ∷ step 3 2 (ref 18 0 0 0 0 0 0) (ref 32 0 0 0 0 0 0) (ref 32 0 1 0 0 0 0) blank ∷ []) (step 3 2 (ref 32 0 0 0 0 0 0) (ref 16 0 0 0 0 0 0) (ref 16 1 1 0 0 0 0) blank ∷ step 2 2 (ref 32 0 1 0 0 0 0) (ref 17 1 0 0 0 0 0) (ref 16 1 1 0 0 0 0) blank ∷ step 3 2 (ref 18 0 0 0 0 0 0) (ref 32 0 0 0 0 0 0) (ref 32 0 1 0 0 0 0) blank ∷ []))
    (becomes (lists' 2 (step 3 2 (ref 32 0 0 1 0 0 0) (ref 16 0 0 1 0 0 0) (ref 16 1 1 1 2 0 0) blank ∷ step 2 2 (ref 32 0 1 1 0 0 0) (ref 17 1 0 1 0 0 0) (ref 16 1 1 1 2 0 0) blank ∷ step 3 2 (ref 16 0 8 1 0 0 0) (ref 32 0 0 1 0 0 0) (ref 32 0 1 1 0 0 0) blank ∷ []) (step 3 2 (ref 32 0 0 1 0 0 0) (ref 16 0 0 1 0 0 0) (ref 16 1 1 1 2 0 0) blank ∷ step 2 2 (ref 32 0 1 1 0 0 0) (ref 17 1 0 1 0 0 0) (ref 16 1 1 1 2 0 0) blank ∷ step 3 2 (ref 16 0 8 1 0 0 0) (ref 32 0 0 1 0 0 0) (ref 32 0 1 1 0 0 0) blank ∷ []) (step 3 2 (ref 32 0 0 1 0 0 0) (ref 16 0 0 1 0 0 0) (ref 16 1 1 1 2 0 0) blank ∷ step 2 2 (ref 32 0 1 1 0 0 0) (ref 17 1 0 1 0 0 0) (ref 16 1 1 1 2 0 0) blank ∷ step 3 2 (ref 16 0 8 1 0 0 0) (ref 32 0 0 1 0 0 0) (ref 32 0 1 1 0 0 0) blank ∷ []))) ∷
    -- random-1-049-fix_dims-n-any
    walk_vector
    (node 16 1 0 0 0 0 ∷ node 26 0 0 0 0 0 ∷ node 1 0 2 1 0 0 ∷ node 16 11 0 0 0 0 ∷ node 26 0 0 0 0 0 ∷ node 21 1 0 0 0 0 ∷ node 4 0 3 5 3 4 ∷ node 16 0 0 0 0 0 ∷ node 16 1 0 0 0 0 ∷ node 1 0 2 7 2 0 ∷ node 4 0 3 6 9 8 ∷ node 17 2 0 0 0 0 ∷ node 16 14 0 0 0 0 ∷ node 5 0 1 10 0 0 ∷ node 3 0 2 11 12 0 ∷ node 3 0 2 14 13 0 ∷ node 7 0 1 15 0 0 ∷ node 17 3 0 0 0 0 ∷ node 3 0 2 17 16 0 ∷ [])
    (root 18 ∷ [])
    (10 ∷ 10 ∷ 0 ∷ 4 ∷ 0 ∷ 4 ∷ 0 ∷ 4 ∷ 0 ∷ 3 ∷ 0 ∷ 3 ∷ 0 ∷ 0 ∷ 0 ∷ 2 ∷ 0 ∷ 0 ∷ 0 ∷ 2 ∷ 0 ∷ 0 ∷ 0 ∷ 1 ∷ 0 ∷ 1 ∷ 0 ∷ 0 ∷ 0 ∷ 0 ∷ 0 ∷ 0 ∷ 0 ∷ 0 ∷ 0 ∷ 0 ∷ 0 ∷ 0 ∷ 0 ∷ 0 ∷ 0 ∷ 0 ∷ 0 ∷ 0 ∷ 0 ∷ 0 ∷ 0 ∷ 0 ∷ 0 ∷ 0 ∷ 0 ∷ 31 ∷ 0 ∷ 0 ∷ [])
    fix_dims_n
    (lists' 4 (step 1 2 (ref 34 0 1 2 0 0 0) (ref 19 1 0 0 0 0 0) (ref 24 0 0 0 0 0 0) blank ∷ step 2 2 (ref 18 1 0 0 0 0 0) (ref 16 1 6 0 0 0 0) (ref 25 0 0 0 0 0 0) blank ∷ step 8 1 (ref 32 0 1 0 0 0 0) (ref 18 1 0 0 0 0 0) blank blank ∷ []) (step 3 2 (ref 19 0 0 0 0 0 0) (ref 26 0 0 0 0 0 0) (ref 25 1 0 0 0 0 0) blank ∷ step 1 2 (ref 19 0 0 0 0 0 0) (ref 22 0 1 0 0 0 0) (ref 22 1 1 0 0 0 0) blank ∷ []) (step 4 3 (ref 33 0 1 0 0 0 0) (ref 20 0 0 0 0 0 0) (ref 32 0 1 0 0 0 0) (ref 22 0 1 0 0 0 0) ∷ step 3 2 (ref 33 0 3 2 0 1 14) (ref 25 1 0 3 8 14 16) (ref 16 1 13 0 0 0 0) blank ∷ []))
    (becomes (lists' 4 (step 1 2 (ref 34 0 1 3 0 0 0) (ref 19 1 0 3 0 0 0) (ref 24 0 0 1 0 0 0) blank ∷ step 2 2 (ref 34 1 0 1 0 0 0) (ref 16 1 6 1 13 0 0) (ref 25 0 0 1 0 0 0) blank ∷ step 8 1 (ref 32 0 1 3 0 0 0) (ref 34 1 0 3 0 0 0) blank blank ∷ []) (step 3 2 (ref 19 0 0 1 0 0 0) (ref 26 0 0 1 0 0 0) (ref 25 1 0 1 0 0 0) blank ∷ step 1 2 (ref 19 0 0 3 0 0 0) (ref 22 0 1 3 0 0 0) (ref 22 1 1 3 0 0 0) blank ∷ []) (step 4 3 (ref 33 0 1 3 0 0 0) (ref 20 0 0 1 0 0 0) (ref 32 0 1 3 0 0 0) (ref 22 0 1 3 0 0 0) ∷ step 3 2 (ref 33 0 3 3 0 1 14) (ref 25 1 0 1 8 14 16) (ref 16 1 13 3 27 0 0) blank ∷ []))) ∷
    -- random-1-051-fix_dims-2ns-any
    walk_vector
    (node 17 256 0 0 0 0 ∷ node 16 1 0 0 0 0 ∷ node 16 4 0 0 0 0 ∷ node 17 2 0 0 0 0 ∷ node 3 0 2 3 1 0 ∷ node 3 0 2 0 2 0 ∷ [])
    (root 4 ∷ [])
    (23 ∷ 25 ∷ 0 ∷ 3 ∷ 0 ∷ 2 ∷ 0 ∷ 2 ∷ 0 ∷ 2 ∷ 0 ∷ 2 ∷ 0 ∷ 0 ∷ 0 ∷ 1 ∷ 0 ∷ 1 ∷ 0 ∷ 0 ∷ 0 ∷ 0 ∷ 0 ∷ 0 ∷ 0 ∷ 0 ∷ 0 ∷ 0 ∷ 0 ∷ 0 ∷ 0 ∷ 0 ∷ 0 ∷ 0 ∷ 0 ∷ 0 ∷ 0 ∷ 0 ∷ [])
    fix_dims2ns
    (lists' 9 (step 2 2 (ref 32 0 1 0 0 0 0) (ref 34 1 1 0 0 0 0) (ref 35 0 3 4 4 16 1) blank ∷ step 1 2 (ref 34 0 2 2 0 0 0) (ref 25 0 0 0 0 0 0) (ref 17 0 1 0 0 0 0) blank ∷ step 2 2 (ref 18 0 0 0 0 0 0) (ref 20 0 0 0 0 0 0) (ref 16 1 0 0 0 0 0) blank ∷ []) (step 2 2 (ref 18 0 0 0 0 0 0) (ref 35 1 0 0 0 0 0) (ref 22 0 3 0 0 0 0) blank ∷ []) (step 4 3 (ref 32 0 0 0 0 0 0) (ref 23 0 2 0 0 0 0) (ref 25 0 0 0 0 0 0) (ref 18 0 0 0 0 0 0) ∷ step 1 2 (ref 34 0 3 4 4 11 10) (ref 16 0 0 0 0 0 0) (ref 16 0 4 0 0 0 0) blank ∷ step 8 1 (ref 19 1 500 0 0 0 0) (ref 32 0 0 0 0 0 0) blank blank ∷ []))
    (no_more 12) ∷
    -- random-1-067-fix_dims-n-any
    walk_vector
    (node 20 0 0 0 0 0 ∷ node 17 256 0 0 0 0 ∷ node 3 0 2 0 1 0 ∷ node 18 5 0 0 0 0 ∷ node 18 0 0 0 0 0 ∷ node 5 0 1 2 0 0 ∷ node 3 0 2 4 3 0 ∷ node 18 5 0 0 0 0 ∷ node 17 0 0 0 0 0 ∷ node 1 0 2 6 7 0 ∷ node 18 3 0 0 0 0 ∷ node 3 0 2 8 5 0 ∷ node 18 3 0 0 0 0 ∷ node 26 0 0 0 0 0 ∷ node 17 65535 0 0 0 0 ∷ node 18 3 0 0 0 0 ∷ node 18 5 0 0 0 0 ∷ node 18 5 0 0 0 0 ∷ node 3 0 2 13 11 0 ∷ node 2 0 2 18 12 0 ∷ node 4 0 3 9 10 15 ∷ node 3 0 2 14 16 0 ∷ node 7 0 1 19 0 0 ∷ node 25 0 0 0 0 0 ∷ node 18 5 0 0 0 0 ∷ node 17 1 0 0 0 0 ∷ node 18 3 0 0 0 0 ∷ node 4 0 3 23 21 20 ∷ node 1 0 2 25 27 0 ∷ node 24 0 0 0 0 0 ∷ node 17 0 0 0 0 0 ∷ node 17 1 0 0 0 0 ∷ node 2 0 2 30 26 0 ∷ node 5 0 1 31 0 0 ∷ node 16 0 0 0 0 0 ∷ node 18 3 0 0 0 0 ∷ node 2 0 2 32 24 0 ∷ node 4 0 3 29 34 35 ∷ node 7 0 1 33 0 0 ∷ node 3 0 2 38 28 0 ∷ node 4 0 3 39 37 36 ∷ node 16 5 0 0 0 0 ∷ node 17 0 0 0 0 0 ∷ node 18 5 0 0 0 0 ∷ node 18 5 0 0 0 0 ∷ node 7 0 1 17 0 0 ∷ [])
    (root 43 ∷ root 40 ∷ root 22 ∷ root 45 ∷ root 42 ∷ root 41 ∷ root 44 ∷ [])
    (23 ∷ 27 ∷ 0 ∷ 0 ∷ 0 ∷ 2 ∷ 0 ∷ 1 ∷ 0 ∷ 3 ∷ 0 ∷ 3 ∷ 0 ∷ 1 ∷ 0 ∷ 1 ∷ 0 ∷ 0 ∷ 0 ∷ 0 ∷ 0 ∷ 0 ∷ 0 ∷ 3 ∷ 0 ∷ 2 ∷ 0 ∷ 3 ∷ 0 ∷ 4 ∷ 0 ∷ 6 ∷ 0 ∷ 0 ∷ 0 ∷ 7 ∷ 0 ∷ 1 ∷ 0 ∷ 15 ∷ 0 ∷ 6 ∷ 0 ∷ 5 ∷ [])
    fix_dims_n
    (lists' 0 ([]) (step 4 3 (ref 18 0 1 0 0 0 0) (ref 22 0 1 0 0 0 0) (ref 16 0 4 0 0 0 0) (ref 16 0 0 0 0 0 0) ∷ step 4 3 (ref 18 1 3 0 0 0 0) (ref 16 0 5 0 0 0 0) (ref 18 0 1 0 0 0 0) (ref 18 0 1 0 0 0 0) ∷ step 3 2 (ref 32 0 0 0 0 0 0) (ref 16 0 1 0 0 0 0) (ref 18 0 1 0 0 0 0) blank ∷ []) (step 1 2 (ref 34 1 1 3 0 0 0) (ref 16 0 1 0 0 0 0) (ref 34 0 0 2 0 0 0) blank ∷ []))
    (becomes (lists' 1 ([]) (step 4 3 (ref 32 0 0 3 0 0 1) (ref 22 0 1 3 0 0 0) (ref 16 0 4 3 12 0 0) (ref 16 0 0 1 0 0 0) ∷ step 4 3 (ref 34 1 0 3 0 0 0) (ref 16 0 5 3 14 0 0) (ref 32 0 0 3 0 0 1) (ref 32 0 0 3 0 0 1) ∷ step 3 2 (ref 32 0 0 3 0 0 0) (ref 16 0 1 1 2 0 0) (ref 32 0 0 3 0 0 1) blank ∷ []) (step 1 2 (ref 34 1 1 2 0 0 0) (ref 16 0 1 1 2 0 0) (ref 34 0 0 2 0 0 0) blank ∷ []))) ∷
    -- random-1-071-query_dims-any
    walk_vector
    (node 18 0 0 0 0 0 ∷ node 6 0 1 0 0 0 ∷ node 16 0 0 0 0 0 ∷ node 2 0 2 2 1 0 ∷ node 17 256 0 0 0 0 ∷ node 1 0 2 4 3 0 ∷ node 16 0 0 0 0 0 ∷ node 1 0 2 5 6 0 ∷ node 17 1 0 0 0 0 ∷ [])
    (root 8 ∷ root 7 ∷ [])
    (10 ∷ 11 ∷ 0 ∷ 1 ∷ 0 ∷ 4 ∷ 0 ∷ 4 ∷ 0 ∷ 0 ∷ 0 ∷ 0 ∷ 0 ∷ 1 ∷ 0 ∷ 2 ∷ 0 ∷ 0 ∷ 0 ∷ 1 ∷ 0 ∷ 1 ∷ 0 ∷ 2 ∷ 0 ∷ 2 ∷ 0 ∷ 1 ∷ 0 ∷ 1 ∷ 0 ∷ 0 ∷ 0 ∷ 0 ∷ 0 ∷ 0 ∷ 0 ∷ 0 ∷ 0 ∷ 1 ∷ 0 ∷ 0 ∷ 0 ∷ 0 ∷ 0 ∷ 1 ∷ 0 ∷ 0 ∷ 0 ∷ 8 ∷ 0 ∷ 9 ∷ 0 ∷ 20 ∷ 0 ∷ 0 ∷ 0 ∷ 1 ∷ [])
    query_dims
    (lists' 65534 (step 3 2 (ref 19 0 0 0 0 0 0) (ref 19 0 0 0 0 0 0) (ref 16 1 4 0 0 0 0) blank ∷ []) (step 1 2 (ref 34 1 3 2 0 0 0) (ref 16 0 1 0 0 0 0) (ref 35 0 3 0 0 0 0) blank ∷ step 1 2 (ref 34 1 2 2 0 0 0) (ref 22 0 0 0 0 0 0) (ref 20 0 0 0 0 0 0) blank ∷ []) (step 3 2 (ref 16 1 2 0 0 0 0) (ref 20 0 0 0 0 0 0) (ref 19 0 1 0 0 0 0) blank ∷ step 2 2 (ref 18 0 0 0 0 0 0) (ref 16 0 3 0 0 0 0) (ref 21 0 2 0 0 0 0) blank ∷ []))
    (no_more 10) ∷
    -- random-1-073-any-walk-plan-refused
    walk_vector
    (node 18 2 0 0 0 0 ∷ node 18 2 0 0 0 0 ∷ node 3 0 2 0 1 0 ∷ node 18 2 0 0 0 0 ∷ node 17 3 0 0 0 0 ∷ node 3 0 2 3 2 0 ∷ node 16 9 0 0 0 0 ∷ node 25 0 0 0 0 0 ∷ node 2 0 2 6 4 0 ∷ node 17 0 0 0 0 0 ∷ node 24 0 0 0 0 0 ∷ node 3 0 2 8 7 0 ∷ node 3 0 2 5 11 0 ∷ node 3 0 2 12 9 0 ∷ node 17 2 0 0 0 0 ∷ node 16 6 0 0 0 0 ∷ node 7 0 1 14 0 0 ∷ node 3 0 2 15 10 0 ∷ node 25 0 0 0 0 0 ∷ node 5 0 1 16 0 0 ∷ node 18 2 0 0 0 0 ∷ node 18 2 0 0 0 0 ∷ node 1 0 2 13 20 0 ∷ node 3 0 2 19 19 0 ∷ [])
    (root 21 ∷ root 23 ∷ root 18 ∷ root 17 ∷ [])
    (24 ∷ 26 ∷ 0 ∷ 7 ∷ 0 ∷ 3 ∷ 0 ∷ 2 ∷ 0 ∷ 1 ∷ 0 ∷ 1 ∷ 0 ∷ 0 ∷ 0 ∷ 1 ∷ 0 ∷ 0 ∷ 0 ∷ 1 ∷ 0 ∷ 0 ∷ 0 ∷ 0 ∷ 0 ∷ 0 ∷ 0 ∷ 2 ∷ 0 ∷ 2 ∷ 0 ∷ 3 ∷ 0 ∷ 2 ∷ 0 ∷ 2 ∷ 0 ∷ 3 ∷ [])
    query_dims
    (lists' 0 ([]) ([]) ([]))
    (no_more 3) ∷
    -- random-1-081-any-walk-plan-refused
    walk_vector
    (node 16 0 0 0 0 0 ∷ node 16 0 0 0 0 0 ∷ node 2 0 2 0 1 0 ∷ node 6 0 1 2 0 0 ∷ node 6 0 1 3 0 0 ∷ node 23 3 0 0 0 0 ∷ node 2 0 2 5 4 0 ∷ node 16 6 0 0 0 0 ∷ node 20 0 0 0 0 0 ∷ node 3 0 2 6 7 0 ∷ node 2 0 2 9 8 0 ∷ node 16 2 0 0 0 0 ∷ node 16 0 0 0 0 0 ∷ node 3 0 2 12 11 0 ∷ node 16 0 0 0 0 0 ∷ node 7 0 1 14 0 0 ∷ node 2 0 2 13 10 0 ∷ node 17 65535 0 0 0 0 ∷ [])
    (root 16 ∷ root 15 ∷ root 17 ∷ [])
    (3 ∷ 7 ∷ 0 ∷ 1 ∷ 0 ∷ 2 ∷ 0 ∷ 3 ∷ 0 ∷ 0 ∷ 0 ∷ 0 ∷ 0 ∷ 1 ∷ 0 ∷ 1 ∷ 0 ∷ 1 ∷ 0 ∷ 1 ∷ 0 ∷ 0 ∷ 0 ∷ 0 ∷ 0 ∷ 0 ∷ 0 ∷ 2 ∷ 0 ∷ 1 ∷ 0 ∷ 1 ∷ 0 ∷ 2 ∷ 0 ∷ 1 ∷ 0 ∷ 2 ∷ 0 ∷ 1 ∷ 0 ∷ 2 ∷ [])
    fix_dims2ns
    (lists' 0 ([]) ([]) ([]))
    (no_more 3) ∷
    -- random-1-084-fix_dims-n-generated
    walk_vector
    (node 16 0 0 0 0 0 ∷ node 21 65535 0 0 0 0 ∷ node 16 0 0 0 0 0 ∷ node 1 0 2 0 2 0 ∷ node 3 0 2 3 1 0 ∷ node 17 65535 0 0 0 0 ∷ node 3 0 2 5 4 0 ∷ node 16 0 0 0 0 0 ∷ node 3 0 2 6 7 0 ∷ node 20 0 0 0 0 0 ∷ node 18 1 0 0 0 0 ∷ node 2 0 2 9 8 0 ∷ node 16 0 0 0 0 0 ∷ node 3 0 2 12 10 0 ∷ node 16 1 0 0 0 0 ∷ [])
    (root 13 ∷ root 11 ∷ root 14 ∷ [])
    (1 ∷ 3 ∷ 0 ∷ 2 ∷ 0 ∷ 0 ∷ 0 ∷ 2 ∷ 0 ∷ 0 ∷ 0 ∷ 0 ∷ 0 ∷ 1 ∷ 0 ∷ 0 ∷ 0 ∷ 1 ∷ 0 ∷ 0 ∷ 0 ∷ 1 ∷ 0 ∷ 0 ∷ 0 ∷ 0 ∷ 0 ∷ 1 ∷ 0 ∷ 1 ∷ 0 ∷ 1 ∷ 0 ∷ 3 ∷ [])
    fix_dims_n
    (lists' 0 (step 8 1 (ref 18 1 2 0 0 0 0) (ref 16 1 1 0 0 0 0) blank blank ∷ []) (step 8 1 (ref 18 1 2 0 0 0 0) (ref 16 1 1 0 0 0 0) blank blank ∷ []) (step 8 1 (ref 18 1 2 0 0 0 0) (ref 16 1 1 0 0 0 0) blank blank ∷ []))
    (becomes (lists' 1 (step 8 1 (ref 32 1 0 1 0 0 2) (ref 16 1 1 1 2 0 0) blank blank ∷ []) (step 8 1 (ref 32 1 0 1 0 0 2) (ref 16 1 1 1 2 0 0) blank blank ∷ []) (step 8 1 (ref 32 1 0 1 0 0 2) (ref 16 1 1 1 2 0 0) blank blank ∷ []))) ∷
    -- random-1-085-fix_dims-n-any
    walk_vector
    (node 20 0 0 0 0 0 ∷ node 16 0 0 0 0 0 ∷ node 1 0 2 0 1 0 ∷ node 17 0 0 0 0 0 ∷ node 5 0 1 3 0 0 ∷ [])
    (root 2 ∷ [])
    (23 ∷ 25 ∷ 0 ∷ 2 ∷ 0 ∷ 0 ∷ 0 ∷ 0 ∷ 0 ∷ 2 ∷ 0 ∷ 2 ∷ 0 ∷ 0 ∷ 0 ∷ 0 ∷ 0 ∷ 0 ∷ 0 ∷ 0 ∷ 0 ∷ 0 ∷ 0 ∷ 0 ∷ 0 ∷ 0 ∷ [])
    fix_dims_n
    (lists' 0 (step 1 2 (ref 34 0 1 0 0 0 0) (ref 16 0 2 0 0 0 0) (ref 25 0 0 0 0 0 0) blank ∷ step 4 3 (ref 32 0 2 0 0 0 0) (ref 17 0 1 0 0 0 0) (ref 26 0 0 0 0 0 0) (ref 23 0 0 0 0 0 0) ∷ []) (step 2 2 (ref 34 1 2 4 13 12 8) (ref 32 0 2 0 0 0 0) (ref 34 0 1 1 0 0 0) blank ∷ step 2 2 (ref 18 1 0 0 0 0 0) (ref 16 0 1 0 0 0 0) (ref 25 0 0 0 0 0 0) blank ∷ []) (step 2 2 (ref 16 1 2 0 0 0 0) (ref 24 0 0 2 1 19 2) (ref 21 1 1 0 0 0 0) blank ∷ step 4 3 (ref 34 0 0 0 0 0 0) (ref 21 0 2 0 0 0 0) (ref 21 0 1 0 0 0 0) (ref 16 0 1 0 0 0 0) ∷ []))
    (becomes (lists' 1 (step 1 2 (ref 34 0 1 1 0 0 0) (ref 16 0 2 1 4 0 0) (ref 25 0 0 1 0 0 0) blank ∷ step 4 3 (ref 32 0 2 3 0 0 0) (ref 17 0 1 1 0 0 0) (ref 26 0 0 1 0 0 0) (ref 23 0 0 3 0 0 0) ∷ []) (step 2 2 (ref 34 1 2 3 13 12 8) (ref 32 0 2 3 0 0 0) (ref 34 0 1 1 0 0 0) blank ∷ step 2 2 (ref 32 1 0 1 0 0 0) (ref 16 0 1 1 2 0 0) (ref 25 0 0 1 0 0 0) blank ∷ []) (step 2 2 (ref 16 1 2 1 4 0 0) (ref 24 0 0 1 1 19 2) (ref 21 1 1 1 0 0 0) blank ∷ step 4 3 (ref 34 0 0 1 0 0 0) (ref 21 0 2 1 0 0 0) (ref 21 0 1 1 0 0 0) (ref 16 0 1 1 2 0 0) ∷ []))) ∷
    -- random-1-087-fix_dims-2ns-any
    walk_vector
    (node 16 0 0 0 0 0 ∷ node 20 0 0 0 0 0 ∷ node 3 0 2 1 0 0 ∷ node 16 0 0 0 0 0 ∷ node 2 0 2 3 2 0 ∷ node 17 0 0 0 0 0 ∷ node 1 0 2 5 4 0 ∷ node 7 0 1 6 0 0 ∷ node 17 0 0 0 0 0 ∷ node 1 0 2 8 7 0 ∷ node 17 0 0 0 0 0 ∷ node 1 0 2 10 9 0 ∷ node 22 1 0 0 0 0 ∷ node 3 0 2 12 11 0 ∷ node 5 0 1 13 0 0 ∷ node 23 1 0 0 0 0 ∷ node 16 1 0 0 0 0 ∷ node 3 0 2 14 16 0 ∷ node 3 0 2 17 15 0 ∷ [])
    (root 18 ∷ [])
    (0 ∷ 4 ∷ 0 ∷ 2 ∷ 0 ∷ 2 ∷ 0 ∷ 2 ∷ 0 ∷ 1 ∷ 0 ∷ 1 ∷ 0 ∷ 0 ∷ 0 ∷ 1 ∷ 0 ∷ 1 ∷ 0 ∷ 0 ∷ 0 ∷ 0 ∷ 0 ∷ 0 ∷ 0 ∷ 0 ∷ 0 ∷ 0 ∷ 0 ∷ 0 ∷ 0 ∷ 0 ∷ 0 ∷ 0 ∷ 0 ∷ 0 ∷ 0 ∷ 0 ∷ [])
    fix_dims2ns
    (lists' 1 (step 8 1 (ref 18 0 0 1 11 0 8) (ref 16 0 0 0 0 0 0) blank blank ∷ step 1 2 (ref 19 0 0 0 0 0 0) (ref 25 0 0 0 0 0 0) (ref 18 0 0 1 11 0 8) blank ∷ []) (step 2 2 (ref 32 0 2 0 0 0 0) (ref 18 0 0 1 11 0 8) (ref 35 0 3 0 0 0 0) blank ∷ []) ([]))
    (becomes (lists' 2 (step 8 1 (ref 32 0 1 1 11 0 0) (ref 16 0 0 1 1 0 0) blank blank ∷ step 1 2 (ref 19 0 0 1 0 0 0) (ref 25 0 0 1 0 0 0) (ref 32 0 1 1 11 0 0) blank ∷ []) (step 2 2 (ref 32 0 2 1 0 0 0) (ref 32 0 1 1 11 0 0) (ref 35 0 3 1 0 0 0) blank ∷ []) ([]))) ∷
    -- random-1-088-query_dims-generated
    walk_vector
    (node 17 65535 0 0 0 0 ∷ node 16 3 0 0 0 0 ∷ node 17 256 0 0 0 0 ∷ node 16 1 0 0 0 0 ∷ node 7 0 1 3 0 0 ∷ node 17 65535 0 0 0 0 ∷ node 6 0 1 4 0 0 ∷ node 2 0 2 1 5 0 ∷ node 16 1 0 0 0 0 ∷ node 1 0 2 6 7 0 ∷ node 16 1 0 0 0 0 ∷ node 3 0 2 8 2 0 ∷ node 2 0 2 9 11 0 ∷ node 2 0 2 12 0 0 ∷ node 1 0 2 13 10 0 ∷ [])
    (root 14 ∷ [])
    (24 ∷ 25 ∷ 0 ∷ 2 ∷ 0 ∷ 0 ∷ 0 ∷ 1 ∷ 0 ∷ 2 ∷ 0 ∷ 2 ∷ 0 ∷ 0 ∷ 0 ∷ 0 ∷ 0 ∷ 0 ∷ 0 ∷ 1 ∷ 0 ∷ 0 ∷ 0 ∷ 2 ∷ 0 ∷ 1 ∷ 0 ∷ 0 ∷ 0 ∷ 0 ∷ 0 ∷ 7 ∷ 0 ∷ 8 ∷ 0 ∷ 0 ∷ [])
    query_dims
    (lists' 14 (step 2 2 (ref 32 0 0 0 0 0 0) (ref 20 0 0 0 0 0 0) (ref 16 1 1 0 0 0 0) blank ∷ step 3 2 (ref 32 0 1 0 0 0 0) (ref 32 0 0 0 0 0 0) (ref 20 0 0 0 0 0 0) blank ∷ step 2 2 (ref 32 0 2 0 0 0 0) (ref 16 1 3 0 0 0 0) (ref 17 1 65535 0 0 0 0) blank ∷ step 1 2 (ref 32 0 3 0 0 0 0) (ref 32 0 1 0 0 0 0) (ref 32 0 2 0 0 0 0) blank ∷ step 3 2 (ref 32 0 4 0 0 0 0) (ref 16 1 1 0 0 0 0) (ref 17 1 256 0 0 0 0) blank ∷ step 2 2 (ref 32 0 5 0 0 0 0) (ref 32 0 3 0 0 0 0) (ref 32 0 4 0 0 0 0) blank ∷ step 2 2 (ref 32 0 6 0 0 0 0) (ref 32 0 5 0 0 0 0) (ref 17 1 65535 0 0 0 0) blank ∷ step 1 2 (ref 18 1 0 0 0 0 0) (ref 32 0 6 0 0 0 0) (ref 16 1 1 0 0 0 0) blank ∷ step 2 2 (ref 32 0 7 0 0 0 0) (ref 20 0 0 0 0 0 0) (ref 16 0 1 0 0 0 0) blank ∷ step 3 2 (ref 32 0 8 0 0 0 0) (ref 32 0 7 0 0 0 0) (ref 20 0 0 0 0 0 0) blank ∷ step 2 2 (ref 32 0 9 0 0 0 0) (ref 16 0 3 0 0 0 0) (ref 17 0 65535 0 0 0 0) blank ∷ step 1 2 (ref 32 0 10 0 0 0 0) (ref 32 0 8 0 0 0 0) (ref 32 0 9 0 0 0 0) blank ∷ step 3 2 (ref 32 0 11 0 0 0 0) (ref 16 0 1 0 0 0 0) (ref 17 0 256 0 0 0 0) blank ∷ step 2 2 (ref 32 0 12 0 0 0 0) (ref 32 0 10 0 0 0 0) (ref 32 0 11 0 0 0 0) blank ∷ step 2 2 (ref 32 0 13 0 0 0 0) (ref 32 0 12 0 0 0 0) (ref 17 0 65535 0 0 0 0) blank ∷ step 1 2 (ref 18 0 0 0 0 0 0) (ref 32 0 13 0 0 0 0) (ref 16 0 1 0 0 0 0) blank ∷ []) (step 2 2 (ref 32 0 0 0 0 0 0) (ref 20 0 0 0 0 0 0) (ref 16 1 1 0 0 0 0) blank ∷ step 3 2 (ref 32 0 1 0 0 0 0) (ref 32 0 0 0 0 0 0) (ref 20 0 0 0 0 0 0) blank ∷ step 2 2 (ref 32 0 2 0 0 0 0) (ref 16 1 3 0 0 0 0) (ref 17 1 65535 0 0 0 0) blank ∷ step 1 2 (ref 32 0 3 0 0 0 0) (ref 32 0 1 0 0 0 0) (ref 32 0 2 0 0 0 0) blank ∷ step 3 2 (ref 32 0 4 0 0 0 0) (ref 16 1 1 0 0 0 0) (ref 17 1 256 0 0 0 0) blank ∷ step 2 2 (ref 32 0 5 0 0 0 0) (ref 32 0 3 0 0 0 0) (ref 32 0 4 0 0 0 0) blank ∷ step 2 2 (ref 32 0 6 0 0 0 0) (ref 32 0 5 0 0 0 0) (ref 17 1 65535 0 0 0 0) blank ∷ step 1 2 (ref 18 1 0 0 0 0 0) (ref 32 0 6 0 0 0 0) (ref 16 1 1 0 0 0 0) blank ∷ step 2 2 (ref 32 0 7 0 0 0 0) (ref 20 0 0 0 0 0 0) (ref 16 0 1 0 0 0 0) blank ∷ step 3 2 (ref 32 0 8 0 0 0 0) (ref 32 0 7 0 0 0 0) (ref 20 0 0 0 0 0 0) blank ∷ step 2 2 (ref 32 0 9 0 0 0 0) (ref 16 0 3 0 0 0 0) (ref 17 0 65535 0 0 0 0) blank ∷ step 1 2 (ref 32 0 10 0 0 0 0) (ref 32 0 8 0 0 0 0) (ref 32 0 9 0 0 0 0) blank ∷ step 3 2 (ref 32 0 11 0 0 0 0) (ref 16 0 1 0 0 0 0) (ref 17 0 256 0 0 0 0) blank ∷ step 2 2 (ref 32 0 12 0 0 0 0) (ref 32 0 10 0 0 0 0) (ref 32 0 11 0 0 0 0) blank ∷ step 2 2 (ref 32 0 13 0 0 0 0) (ref 32 0 12 0 0 0 0) (ref 17 0 65535 0 0 0 0) blank ∷ step 1 2 (ref 18 0 0 0 0 0 0) (ref 32 0 13 0 0 0 0) (ref 16 0 1 0 0 0 0) blank ∷ []) (step 2 2 (ref 32 0 0 0 0 0 0) (ref 20 0 0 0 0 0 0) (ref 16 1 1 0 0 0 0) blank ∷ step 3 2 (ref 32 0 1 0 0 0 0) (ref 32 0 0 0 0 0 0) (ref 20 0 0 0 0 0 0) blank ∷ step 2 2 (ref 32 0 2 0 0 0 0) (ref 16 1 3 0 0 0 0) (ref 17 1 65535 0 0 0 0) blank ∷ step 1 2 (ref 32 0 3 0 0 0 0) (ref 32 0 1 0 0 0 0) (ref 32 0 2 0 0 0 0) blank ∷ step 3 2 (ref 32 0 4 0 0 0 0) (ref 16 1 1 0 0 0 0) (ref 17 1 256 0 0 0 0) blank ∷ step 2 2 (ref 32 0 5 0 0 0 0) (ref 32 0 3 0 0 0 0) (ref 32 0 4 0 0 0 0) blank ∷ step 2 2 (ref 32 0 6 0 0 0 0) (ref 32 0 5 0 0 0 0) (ref 17 1 65535 0 0 0 0) blank ∷ step 1 2 (ref 18 1 0 0 0 0 0) (ref 32 0 6 0 0 0 0) (ref 16 1 1 0 0 0 0) blank ∷ step 2 2 (ref 32 0 7 0 0 0 0) (ref 20 0 0 0 0 0 0) (ref 16 0 1 0 0 0 0) blank ∷ step 3 2 (ref 32 0 8 0 0 0 0) (ref 32 0 7 0 0 0 0) (ref 20 0 0 0 0 0 0) blank ∷ step 2 2 (ref 32 0 9 0 0 0 0) (ref 16 0 3 0 0 0 0) (ref 17 0 65535 0 0 0 0) blank ∷ step 1 2 (ref 32 0 10 0 0 0 0) (ref 32 0 8 0 0 0 0) (ref 32 0 9 0 0 0 0) blank ∷ step 3 2 (ref 32 0 11 0 0 0 0) (ref 16 0 1 0 0 0 0) (ref 17 0 256 0 0 0 0) blank ∷ step 2 2 (ref 32 0 12 0 0 0 0) (ref 32 0 10 0 0 0 0) (ref 32 0 11 0 0 0 0) blank ∷ step 2 2 (ref 32 0 13 0 0 0 0) (ref 32 0 12 0 0 0 0) (ref 17 0 65535 0 0 0 0) blank ∷ step 1 2 (ref 18 0 0 0 0 0 0) (ref 32 0 13 0 0 0 0) (ref 16 0 1 0 0 0 0) blank ∷ []))
    (becomes (lists' 16 (step 2 2 (ref 32 0 0 1 0 0 0) (ref 20 0 0 1 0 0 0) (ref 36 1 1 1 3 1 0) blank ∷ step 3 2 (ref 32 0 1 1 0 0 0) (ref 32 0 0 1 0 0 0) (ref 20 0 0 1 0 0 0) blank ∷ step 2 2 (ref 32 0 2 1 0 0 0) (ref 39 1 3 1 8 0 0) (ref 17 1 65535 1 0 0 0) blank ∷ step 1 2 (ref 32 0 3 1 0 0 0) (ref 32 0 1 1 0 0 0) (ref 32 0 2 1 0 0 0) blank ∷ step 3 2 (ref 32 0 4 1 0 0 0) (ref 36 1 1 1 3 1 0) (ref 17 1 256 1 0 0 0) blank ∷ step 2 2 (ref 32 0 5 1 0 0 0) (ref 32 0 3 1 0 0 0) (ref 32 0 4 1 0 0 0) blank ∷ step 2 2 (ref 32 0 6 1 0 0 0) (ref 32 0 5 1 0 0 0) (ref 17 1 65535 1 0 0 0) blank ∷ step 1 2 (ref 32 1 14 1 0 0 0) (ref 32 0 6 1 0 0 0) (ref 36 1 1 1 3 1 0) blank ∷ step 2 2 (ref 32 0 7 1 0 0 0) (ref 20 0 0 1 0 0 0) (ref 36 0 1 1 3 1 0) blank ∷ step 3 2 (ref 32 0 8 1 0 0 0) (ref 32 0 7 1 0 0 0) (ref 20 0 0 1 0 0 0) blank ∷ step 2 2 (ref 32 0 9 1 0 0 0) (ref 39 0 3 1 8 0 0) (ref 17 0 65535 1 0 0 0) blank ∷ step 1 2 (ref 32 0 10 1 0 0 0) (ref 32 0 8 1 0 0 0) (ref 32 0 9 1 0 0 0) blank ∷ step 3 2 (ref 32 0 11 1 0 0 0) (ref 36 0 1 1 3 1 0) (ref 17 0 256 1 0 0 0) blank ∷ step 2 2 (ref 32 0 12 1 0 0 0) (ref 32 0 10 1 0 0 0) (ref 32 0 11 1 0 0 0) blank ∷ step 2 2 (ref 32 0 13 1 0 0 0) (ref 32 0 12 1 0 0 0) (ref 17 0 65535 1 0 0 0) blank ∷ step 1 2 (ref 32 0 15 1 0 0 0) (ref 32 0 13 1 0 0 0) (ref 36 0 1 1 3 1 0) blank ∷ []) (step 2 2 (ref 32 0 0 1 0 0 0) (ref 20 0 0 1 0 0 0) (ref 36 1 1 1 3 1 0) blank ∷ step 3 2 (ref 32 0 1 1 0 0 0) (ref 32 0 0 1 0 0 0) (ref 20 0 0 1 0 0 0) blank ∷ step 2 2 (ref 32 0 2 1 0 0 0) (ref 39 1 3 1 8 0 0) (ref 17 1 65535 1 0 0 0) blank ∷ step 1 2 (ref 32 0 3 1 0 0 0) (ref 32 0 1 1 0 0 0) (ref 32 0 2 1 0 0 0) blank ∷ step 3 2 (ref 32 0 4 1 0 0 0) (ref 36 1 1 1 3 1 0) (ref 17 1 256 1 0 0 0) blank ∷ step 2 2 (ref 32 0 5 1 0 0 0) (ref 32 0 3 1 0 0 0) (ref 32 0 4 1 0 0 0) blank ∷ step 2 2 (ref 32 0 6 1 0 0 0) (ref 32 0 5 1 0 0 0) (ref 17 1 65535 1 0 0 0) blank ∷ step 1 2 (ref 32 1 14 1 0 0 0) (ref 32 0 6 1 0 0 0) (ref 36 1 1 1 3 1 0) blank ∷ step 2 2 (ref 32 0 7 1 0 0 0) (ref 20 0 0 1 0 0 0) (ref 36 0 1 1 3 1 0) blank ∷ step 3 2 (ref 32 0 8 1 0 0 0) (ref 32 0 7 1 0 0 0) (ref 20 0 0 1 0 0 0) blank ∷ step 2 2 (ref 32 0 9 1 0 0 0) (ref 39 0 3 1 8 0 0) (ref 17 0 65535 1 0 0 0) blank ∷ step 1 2 (ref 32 0 10 1 0 0 0) (ref 32 0 8 1 0 0 0) (ref 32 0 9 1 0 0 0) blank ∷ step 3 2 (ref 32 0 11 1 0 0 0) (ref 36 0 1 1 3 1 0) (ref 17 0 256 1 0 0 0) blank ∷ step 2 2 (ref 32 0 12 1 0 0 0) (ref 32 0 10 1 0 0 0) (ref 32 0 11 1 0 0 0) blank ∷ step 2 2 (ref 32 0 13 1 0 0 0) (ref 32 0 12 1 0 0 0) (ref 17 0 65535 1 0 0 0) blank ∷ step 1 2 (ref 32 0 15 1 0 0 0) (ref 32 0 13 1 0 0 0) (ref 36 0 1 1 3 1 0) blank ∷ []) (step 2 2 (ref 32 0 0 1 0 0 0) (ref 20 0 0 1 0 0 0) (ref 36 1 1 1 3 1 0) blank ∷ step 3 2 (ref 32 0 1 1 0 0 0) (ref 32 0 0 1 0 0 0) (ref 20 0 0 1 0 0 0) blank ∷ step 2 2 (ref 32 0 2 1 0 0 0) (ref 39 1 3 1 8 0 0) (ref 17 1 65535 1 0 0 0) blank ∷ step 1 2 (ref 32 0 3 1 0 0 0) (ref 32 0 1 1 0 0 0) (ref 32 0 2 1 0 0 0) blank ∷ step 3 2 (ref 32 0 4 1 0 0 0) (ref 36 1 1 1 3 1 0) (ref 17 1 256 1 0 0 0) blank ∷ step 2 2 (ref 32 0 5 1 0 0 0) (ref 32 0 3 1 0 0 0) (ref 32 0 4 1 0 0 0) blank ∷ step 2 2 (ref 32 0 6 1 0 0 0) (ref 32 0 5 1 0 0 0) (ref 17 1 65535 1 0 0 0) blank ∷ step 1 2 (ref 32 1 14 1 0 0 0) (ref 32 0 6 1 0 0 0) (ref 36 1 1 1 3 1 0) blank ∷ step 2 2 (ref 32 0 7 1 0 0 0) (ref 20 0 0 1 0 0 0) (ref 36 0 1 1 3 1 0) blank ∷ step 3 2 (ref 32 0 8 1 0 0 0) (ref 32 0 7 1 0 0 0) (ref 20 0 0 1 0 0 0) blank ∷ step 2 2 (ref 32 0 9 1 0 0 0) (ref 39 0 3 1 8 0 0) (ref 17 0 65535 1 0 0 0) blank ∷ step 1 2 (ref 32 0 10 1 0 0 0) (ref 32 0 8 1 0 0 0) (ref 32 0 9 1 0 0 0) blank ∷ step 3 2 (ref 32 0 11 1 0 0 0) (ref 36 0 1 1 3 1 0) (ref 17 0 256 1 0 0 0) blank ∷ step 2 2 (ref 32 0 12 1 0 0 0) (ref 32 0 10 1 0 0 0) (ref 32 0 11 1 0 0 0) blank ∷ step 2 2 (ref 32 0 13 1 0 0 0) (ref 32 0 12 1 0 0 0) (ref 17 0 65535 1 0 0 0) blank ∷ step 1 2 (ref 32 0 15 1 0 0 0) (ref 32 0 13 1 0 0 0) (ref 36 0 1 1 3 1 0) blank ∷ []))) ∷
    -- random-1-089-query_dims-any
    walk_vector
    (node 24 0 0 0 0 0 ∷ node 18 1 0 0 0 0 ∷ node 16 0 0 0 0 0 ∷ node 6 0 1 1 0 0 ∷ node 18 1 0 0 0 0 ∷ node 5 0 1 3 0 0 ∷ node 6 0 1 4 0 0 ∷ node 17 0 0 0 0 0 ∷ node 26 0 0 0 0 0 ∷ node 3 0 2 6 5 0 ∷ node 5 0 1 2 0 0 ∷ node 3 0 2 9 0 0 ∷ node 16 0 0 0 0 0 ∷ node 18 1 0 0 0 0 ∷ node 3 0 2 10 13 0 ∷ node 3 0 2 7 12 0 ∷ node 18 2 0 0 0 0 ∷ node 7 0 1 8 0 0 ∷ node 16 0 0 0 0 0 ∷ [])
    (root 16 ∷ root 17 ∷ root 11 ∷ root 14 ∷ root 18 ∷ [])
    (0 ∷ 2 ∷ 0 ∷ 0 ∷ 0 ∷ 0 ∷ 0 ∷ 0 ∷ 0 ∷ 1 ∷ 0 ∷ 1 ∷ 0 ∷ 0 ∷ 0 ∷ 0 ∷ 0 ∷ 0 ∷ 0 ∷ 0 ∷ 0 ∷ 0 ∷ 0 ∷ 0 ∷ 0 ∷ 0 ∷ [])
    query_dims
    (lists' 0 (step 4 3 (ref 18 1 0 0 0 0 0) (ref 35 0 0 1 1 11 8) (ref 19 0 0 0 0 0 0) (ref 23 0 2 0 0 0 0) ∷ []) (step 2 2 (ref 16 0 0 0 0 0 0) (ref 35 0 3 0 0 0 0) (ref 26 0 0 0 0 0 0) blank ∷ []) (step 2 2 (ref 32 0 1 0 0 0 0) (ref 18 1 0 0 0 0 0) (ref 24 0 0 0 0 0 0) blank ∷ []))
    (no_more 3) ∷
    -- random-1-091-any-walk-plan-refused
    walk_vector
    (node 17 0 0 0 0 0 ∷ node 16 1 0 0 0 0 ∷ node 6 0 1 0 0 0 ∷ node 17 256 0 0 0 0 ∷ node 16 1 0 0 0 0 ∷ node 1 0 2 1 3 0 ∷ node 1 0 2 4 5 0 ∷ node 3 0 2 6 2 0 ∷ node 21 0 0 0 0 0 ∷ node 5 0 1 7 0 0 ∷ node 3 0 2 9 8 0 ∷ node 7 0 1 10 0 0 ∷ node 5 0 1 11 0 0 ∷ node 5 0 1 12 0 0 ∷ [])
    (root 13 ∷ [])
    (3 ∷ 4 ∷ 0 ∷ 2 ∷ 0 ∷ 2 ∷ 0 ∷ 7 ∷ 0 ∷ 1 ∷ 0 ∷ 1 ∷ 0 ∷ 0 ∷ 0 ∷ 1 ∷ 0 ∷ 4 ∷ 0 ∷ 3 ∷ 0 ∷ 0 ∷ 0 ∷ 3 ∷ 0 ∷ 3 ∷ 0 ∷ 0 ∷ 0 ∷ 0 ∷ 0 ∷ 0 ∷ 0 ∷ 0 ∷ 0 ∷ 0 ∷ 0 ∷ 0 ∷ 0 ∷ 0 ∷ 0 ∷ 0 ∷ 0 ∷ 0 ∷ 0 ∷ 0 ∷ 0 ∷ 0 ∷ 0 ∷ 0 ∷ 0 ∷ 0 ∷ 0 ∷ 0 ∷ 0 ∷ 0 ∷ 0 ∷ 0 ∷ 0 ∷ 0 ∷ 0 ∷ 0 ∷ 0 ∷ 6 ∷ 0 ∷ 9 ∷ 0 ∷ 21 ∷ 0 ∷ 0 ∷ 0 ∷ 0 ∷ 0 ∷ 0 ∷ [])
    fix_dims2ns
    (lists' 0 ([]) ([]) ([]))
    (no_more 11) ∷
    -- random-1-103-fix_dims-n-any
    walk_vector
    (node 18 0 0 0 0 0 ∷ node 16 0 0 0 0 0 ∷ node 1 0 2 1 0 0 ∷ node 16 0 0 0 0 0 ∷ node 21 2 0 0 0 0 ∷ node 18 1 0 0 0 0 ∷ node 17 0 0 0 0 0 ∷ node 18 0 0 0 0 0 ∷ node 6 0 1 6 0 0 ∷ node 20 0 0 0 0 0 ∷ node 21 1 0 0 0 0 ∷ node 3 0 2 3 7 0 ∷ node 6 0 1 10 0 0 ∷ node 3 0 2 12 2 0 ∷ node 6 0 1 4 0 0 ∷ node 4 0 3 14 5 11 ∷ node 2 0 2 13 8 0 ∷ node 16 0 0 0 0 0 ∷ [])
    (root 9 ∷ root 16 ∷ root 17 ∷ [])
    (3 ∷ 5 ∷ 0 ∷ 1 ∷ 0 ∷ 0 ∷ 0 ∷ 0 ∷ 0 ∷ 0 ∷ 0 ∷ 0 ∷ 0 ∷ 0 ∷ 0 ∷ 0 ∷ 0 ∷ 0 ∷ 0 ∷ 0 ∷ 0 ∷ 0 ∷ 0 ∷ 3 ∷ 0 ∷ 3 ∷ 0 ∷ 1 ∷ 0 ∷ 1 ∷ 0 ∷ 2 ∷ 0 ∷ 0 ∷ 0 ∷ 0 ∷ 0 ∷ 1 ∷ [])
    fix_dims_n
    (lists' 9 (step 8 1 (ref 18 0 1 0 0 0 0) (ref 16 1 500 0 0 0 0) blank blank ∷ step 3 2 (ref 18 1 500 0 0 0 0) (ref 33 0 2 0 0 0 0) (ref 22 0 2 0 0 0 0) blank ∷ step 1 2 (ref 32 0 0 0 0 0 0) (ref 18 0 1 0 0 0 0) (ref 23 0 65535 0 0 0 0) blank ∷ []) ([]) (step 1 2 (ref 19 0 2 0 0 0 0) (ref 34 1 3 2 0 0 0) (ref 23 0 1 0 0 0 0) blank ∷ step 8 1 (ref 18 0 0 0 0 0 0) (ref 26 0 0 0 0 0 0) blank blank ∷ []))
    (no_more 3) ∷
    -- random-1-104-fix_dims-2ns-generated
    walk_vector
    (node 16 1 0 0 0 0 ∷ node 5 0 1 0 0 0 ∷ node 18 0 0 0 0 0 ∷ node 17 1 0 0 0 0 ∷ node 22 65535 0 0 0 0 ∷ node 1 0 2 2 4 0 ∷ node 4 0 3 1 5 3 ∷ node 22 0 0 0 0 0 ∷ node 1 0 2 6 7 0 ∷ node 17 3 0 0 0 0 ∷ node 17 0 0 0 0 0 ∷ node 1 0 2 10 9 0 ∷ node 18 0 0 0 0 0 ∷ node 5 0 1 12 0 0 ∷ node 7 0 1 11 0 0 ∷ [])
    (root 14 ∷ [])
    (1 ∷ 4 ∷ 0 ∷ 2 ∷ 0 ∷ 2 ∷ 0 ∷ 6 ∷ 0 ∷ 1 ∷ 0 ∷ 1 ∷ 0 ∷ 0 ∷ 0 ∷ 1 ∷ 0 ∷ 3 ∷ 0 ∷ 2 ∷ 0 ∷ 0 ∷ 0 ∷ 3 ∷ 0 ∷ 3 ∷ 0 ∷ 0 ∷ 0 ∷ 0 ∷ 0 ∷ 0 ∷ 0 ∷ 0 ∷ 0 ∷ 0 ∷ 0 ∷ 0 ∷ 0 ∷ 0 ∷ 0 ∷ 0 ∷ 0 ∷ 0 ∷ 0 ∷ 0 ∷ 0 ∷ 0 ∷ 0 ∷ 0 ∷ 0 ∷ 0 ∷ 0 ∷ 0 ∷ 0 ∷ 17 ∷ 0 ∷ 23 ∷ 0 ∷ 15 ∷ 0 ∷ 0 ∷ 0 ∷ 0 ∷ 0 ∷ 0 ∷ [])
    fix_dims2ns
    (lists' 1 (step 1 2 (ref 32 0 0 0 0 0 0) (ref 17 0 0 0 0 0 0) (ref 17 0 3 0 0 0 0) blank ∷ step 2 2 (ref 18 0 0 0 0 0 0) (ref 20 0 0 0 0 0 0) (ref 32 0 0 0 0 0 0) blank ∷ []) (step 1 2 (ref 32 0 0 0 0 0 0) (ref 17 0 0 0 0 0 0) (ref 17 0 3 0 0 0 0) blank ∷ step 2 2 (ref 18 0 0 0 0 0 0) (ref 20 0 0 0 0 0 0) (ref 32 0 0 0 0 0 0) blank ∷ []) (step 1 2 (ref 32 0 0 0 0 0 0) (ref 17 0 0 0 0 0 0) (ref 17 0 3 0 0 0 0) blank ∷ step 2 2 (ref 18 0 0 0 0 0 0) (ref 20 0 0 0 0 0 0) (ref 32 0 0 0 0 0 0) blank ∷ []))
    (becomes (lists' 2 (step 1 2 (ref 32 0 0 1 0 0 0) (ref 17 0 0 1 0 0 0) (ref 17 0 3 1 0 0 0) blank ∷ step 2 2 (ref 32 0 1 1 0 0 0) (ref 20 0 0 1 0 0 0) (ref 32 0 0 1 0 0 0) blank ∷ []) (step 1 2 (ref 32 0 0 1 0 0 0) (ref 17 0 0 1 0 0 0) (ref 17 0 3 1 0 0 0) blank ∷ step 2 2 (ref 32 0 1 1 0 0 0) (ref 20 0 0 1 0 0 0) (ref 32 0 0 1 0 0 0) blank ∷ []) (step 1 2 (ref 32 0 0 1 0 0 0) (ref 17 0 0 1 0 0 0) (ref 17 0 3 1 0 0 0) blank ∷ step 2 2 (ref 32 0 1 1 0 0 0) (ref 20 0 0 1 0 0 0) (ref 32 0 0 1 0 0 0) blank ∷ []))) ∷
    -- random-1-105-fix_dims-2ns-any
    walk_vector
    (node 16 3 0 0 0 0 ∷ node 16 7 0 0 0 0 ∷ node 1 0 2 1 0 0 ∷ node 6 0 1 2 0 0 ∷ node 22 65535 0 0 0 0 ∷ node 3 0 2 3 4 0 ∷ node 19 0 0 0 0 0 ∷ node 21 3 0 0 0 0 ∷ node 1 0 2 7 5 0 ∷ [])
    (root 8 ∷ root 6 ∷ [])
    (10 ∷ 10 ∷ 0 ∷ 7 ∷ 0 ∷ 0 ∷ 0 ∷ 1 ∷ 0 ∷ 1 ∷ 0 ∷ 1 ∷ 0 ∷ 0 ∷ 0 ∷ 0 ∷ 0 ∷ 1 ∷ 0 ∷ 0 ∷ 0 ∷ 0 ∷ 0 ∷ 2 ∷ 0 ∷ 2 ∷ 0 ∷ 1 ∷ 0 ∷ 0 ∷ 0 ∷ 11 ∷ 0 ∷ 1 ∷ 0 ∷ 0 ∷ 0 ∷ 1 ∷ [])
    fix_dims2ns
    (lists' 1 (step 3 2 (ref 33 0 0 0 0 0 0) (ref 16 0 0 0 0 0 0) (ref 34 0 1 3 0 0 0) blank ∷ step 4 3 (ref 18 0 1 0 0 0 0) (ref 21 0 3 0 0 0 0) (ref 23 0 2 0 0 0 0) (ref 34 0 0 1 0 0 0) ∷ []) (step 3 3 (ref 32 0 2 0 0 0 0) (ref 18 0 1 0 0 0 0) (ref 18 0 1 0 0 0 0) (ref 17 0 3 0 0 0 0) ∷ step 1 2 (ref 19 0 1 0 0 0 0) (ref 16 0 1 0 0 0 0) (ref 17 1 0 0 0 0 0) blank ∷ []) (step 4 3 (ref 32 0 1 0 0 0 0) (ref 19 0 0 0 0 0 0) (ref 19 0 1 0 0 0 0) (ref 20 0 0 0 0 0 0) ∷ step 3 2 (ref 34 0 1 3 0 0 0) (ref 22 0 2 0 0 0 0) (ref 23 0 0 0 0 0 0) blank ∷ []))
    (becomes (lists' 2 (step 3 2 (ref 33 0 0 3 0 0 0) (ref 16 0 0 1 1 0 0) (ref 34 0 1 3 0 0 0) blank ∷ step 4 3 (ref 32 0 1 3 0 0 1) (ref 21 0 3 1 0 0 0) (ref 23 0 2 3 0 0 0) (ref 34 0 0 1 0 0 0) ∷ []) (step 3 3 (ref 32 0 2 3 0 0 0) (ref 32 0 1 3 0 0 1) (ref 32 0 1 3 0 0 1) (ref 17 0 3 0 0 0 0) ∷ step 1 2 (ref 19 0 1 1 0 0 0) (ref 16 0 1 1 3 0 0) (ref 17 1 0 1 0 0 0) blank ∷ []) (step 4 3 (ref 32 0 1 1 0 0 0) (ref 19 0 0 1 0 0 0) (ref 19 0 1 1 0 0 0) (ref 20 0 0 1 0 0 0) ∷ step 3 2 (ref 34 0 1 3 0 0 0) (ref 22 0 2 3 0 0 0) (ref 23 0 0 3 0 0 0) blank ∷ []))) ∷
    -- random-1-106-query_dims-generated
    walk_vector
    (node 23 0 0 0 0 0 ∷ node 26 0 0 0 0 0 ∷ node 3 0 2 1 0 0 ∷ node 6 0 1 2 0 0 ∷ node 18 0 0 0 0 0 ∷ node 3 0 2 3 4 0 ∷ node 17 0 0 0 0 0 ∷ node 18 0 0 0 0 0 ∷ node 16 5 0 0 0 0 ∷ node 1 0 2 5 8 0 ∷ [])
    (root 6 ∷ root 9 ∷ [])
    (1 ∷ 2 ∷ 0 ∷ 7 ∷ 0 ∷ 0 ∷ 0 ∷ 0 ∷ 0 ∷ 0 ∷ 0 ∷ 0 ∷ 0 ∷ 1 ∷ 0 ∷ 0 ∷ 0 ∷ 0 ∷ 0 ∷ 0 ∷ 0 ∷ 0 ∷ 0 ∷ 1 ∷ 0 ∷ 1 ∷ 0 ∷ 7 ∷ 0 ∷ 0 ∷ [])
    query_dims
    (lists' 2 (step 8 1 (ref 18 0 0 0 0 0 0) (ref 17 0 0 0 0 0 0) blank blank ∷ step 3 2 (ref 32 0 0 0 0 0 0) (ref 26 0 0 0 0 0 0) (ref 23 0 0 0 0 0 0) blank ∷ step 3 2 (ref 32 0 1 0 0 0 0) (ref 32 0 0 0 0 0 0) (ref 20 0 0 0 0 0 0) blank ∷ step 4 3 (ref 18 0 1 0 0 0 0) (ref 32 0 1 0 0 0 0) (ref 18 0 0 0 0 0 0) (ref 16 0 5 0 0 0 0) ∷ []) (step 8 1 (ref 18 0 0 0 0 0 0) (ref 17 0 0 0 0 0 0) blank blank ∷ step 3 2 (ref 32 0 0 0 0 0 0) (ref 26 0 0 0 0 0 0) (ref 23 0 0 0 0 0 0) blank ∷ step 3 2 (ref 32 0 1 0 0 0 0) (ref 32 0 0 0 0 0 0) (ref 20 0 0 0 0 0 0) blank ∷ step 4 3 (ref 18 0 1 0 0 0 0) (ref 32 0 1 0 0 0 0) (ref 18 0 0 0 0 0 0) (ref 16 0 5 0 0 0 0) ∷ []) (step 8 1 (ref 18 0 0 0 0 0 0) (ref 17 0 0 0 0 0 0) blank blank ∷ step 3 2 (ref 32 0 0 0 0 0 0) (ref 26 0 0 0 0 0 0) (ref 23 0 0 0 0 0 0) blank ∷ step 3 2 (ref 32 0 1 0 0 0 0) (ref 32 0 0 0 0 0 0) (ref 20 0 0 0 0 0 0) blank ∷ step 4 3 (ref 18 0 1 0 0 0 0) (ref 32 0 1 0 0 0 0) (ref 18 0 0 0 0 0 0) (ref 16 0 5 0 0 0 0) ∷ []))
    (becomes (lists' 4 (step 8 1 (ref 32 0 2 1 0 0 0) (ref 17 0 0 1 0 0 0) blank blank ∷ step 3 2 (ref 32 0 0 3 0 0 0) (ref 26 0 0 1 0 0 0) (ref 23 0 0 3 0 0 0) blank ∷ step 3 2 (ref 32 0 1 3 0 0 0) (ref 32 0 0 3 0 0 0) (ref 20 0 0 1 0 0 0) blank ∷ step 4 3 (ref 32 0 3 3 0 0 1) (ref 32 0 1 3 0 0 0) (ref 32 0 2 1 0 0 0) (ref 36 0 5 1 11 5 0) ∷ []) (step 8 1 (ref 32 0 2 1 0 0 0) (ref 17 0 0 1 0 0 0) blank blank ∷ step 3 2 (ref 32 0 0 3 0 0 0) (ref 26 0 0 1 0 0 0) (ref 23 0 0 3 0 0 0) blank ∷ step 3 2 (ref 32 0 1 3 0 0 0) (ref 32 0 0 3 0 0 0) (ref 20 0 0 1 0 0 0) blank ∷ step 4 3 (ref 32 0 3 3 0 0 1) (ref 32 0 1 3 0 0 0) (ref 32 0 2 1 0 0 0) (ref 36 0 5 1 11 5 0) ∷ []) (step 8 1 (ref 32 0 2 1 0 0 0) (ref 17 0 0 1 0 0 0) blank blank ∷ step 3 2 (ref 32 0 0 3 0 0 0) (ref 26 0 0 1 0 0 0) (ref 23 0 0 3 0 0 0) blank ∷ step 3 2 (ref 32 0 1 3 0 0 0) (ref 32 0 0 3 0 0 0) (ref 20 0 0 1 0 0 0) blank ∷ step 4 3 (ref 32 0 3 3 0 0 1) (ref 32 0 1 3 0 0 0) (ref 32 0 2 1 0 0 0) (ref 36 0 5 1 11 5 0) ∷ []))) ∷
    -- random-1-107-query_dims-any
    walk_vector
    (node 17 65535 0 0 0 0 ∷ node 16 7 0 0 0 0 ∷ node 1 0 2 0 1 0 ∷ node 16 1 0 0 0 0 ∷ node 1 0 2 2 3 0 ∷ node 22 1 0 0 0 0 ∷ node 16 12 0 0 0 0 ∷ node 20 0 0 0 0 0 ∷ node 5 0 1 5 0 0 ∷ node 22 1 0 0 0 0 ∷ node 20 0 0 0 0 0 ∷ node 6 0 1 6 0 0 ∷ node 2 0 2 10 8 0 ∷ [])
    (root 9 ∷ root 11 ∷ root 4 ∷ [])
    (23 ∷ 26 ∷ 0 ∷ 4 ∷ 0 ∷ 6 ∷ 0 ∷ 3 ∷ 0 ∷ 0 ∷ 0 ∷ 0 ∷ 0 ∷ 2 ∷ 0 ∷ 3 ∷ 0 ∷ 0 ∷ 0 ∷ 0 ∷ 0 ∷ 0 ∷ 0 ∷ 2 ∷ 0 ∷ 2 ∷ 0 ∷ 0 ∷ 0 ∷ 2 ∷ 0 ∷ 2 ∷ 0 ∷ 2 ∷ 0 ∷ 1 ∷ 0 ∷ 2 ∷ 0 ∷ 2 ∷ 0 ∷ 2 ∷ 0 ∷ 0 ∷ 0 ∷ 2 ∷ 0 ∷ 2 ∷ 0 ∷ 0 ∷ 0 ∷ 16 ∷ 0 ∷ 11 ∷ 0 ∷ 1 ∷ 0 ∷ 1 ∷ [])
    query_dims
    (lists' 0 (step 8 1 (ref 32 1 2 0 0 0 0) (ref 26 1 0 0 0 0 0) blank blank ∷ []) (step 8 1 (ref 16 0 6 0 0 0 0) (ref 35 0 0 0 0 0 0) blank blank ∷ step 2 2 (ref 18 0 1 0 0 0 0) (ref 22 0 2 0 0 0 0) (ref 34 0 0 2 0 0 0) blank ∷ []) ([]))
    (no_more 10) ∷
    -- random-1-121-fix_dims-n-any
    walk_vector
    (node 16 4 0 0 0 0 ∷ node 16 0 0 0 0 0 ∷ node 18 0 0 0 0 0 ∷ node 17 1 0 0 0 0 ∷ node 18 0 0 0 0 0 ∷ node 1 0 2 1 0 0 ∷ node 17 3 0 0 0 0 ∷ node 6 0 1 3 0 0 ∷ node 3 0 2 6 4 0 ∷ node 2 0 2 5 2 0 ∷ node 16 0 0 0 0 0 ∷ node 2 0 2 7 10 0 ∷ node 7 0 1 11 0 0 ∷ [])
    (root 12 ∷ [])
    (23 ∷ 25 ∷ 0 ∷ 7 ∷ 0 ∷ 0 ∷ 0 ∷ 0 ∷ 0 ∷ 3 ∷ 0 ∷ 3 ∷ 0 ∷ 0 ∷ 0 ∷ 0 ∷ 0 ∷ 0 ∷ 0 ∷ 0 ∷ 0 ∷ 0 ∷ 0 ∷ 2 ∷ 0 ∷ 2 ∷ 0 ∷ 2 ∷ 0 ∷ 6 ∷ 0 ∷ 0 ∷ 0 ∷ 0 ∷ [])
    fix_dims_n
    (lists' 9 (step 8 1 (ref 32 0 1 0 0 0 0) (ref 21 0 1 0 0 0 0) blank blank ∷ []) (step 4 3 (ref 32 0 3 0 0 0 0) (ref 22 0 1 0 0 0 0) (ref 22 0 0 0 0 0 0) (ref 16 0 6 0 0 0 0) ∷ []) (step 3 2 (ref 33 0 2 4 15 4 8) (ref 17 0 3 0 0 0 0) (ref 35 0 3 0 0 0 0) blank ∷ step 2 2 (ref 34 0 2 1 0 0 0) (ref 23 1 1 0 0 0 0) (ref 24 0 0 0 0 0 0) blank ∷ step 8 1 (ref 33 0 1 0 0 0 0) (ref 26 1 0 0 0 0 0) blank blank ∷ []))
    (becomes (lists' 9 (step 8 1 (ref 32 0 1 1 0 0 0) (ref 21 0 1 1 0 0 0) blank blank ∷ []) (step 4 3 (ref 32 0 3 3 0 0 0) (ref 22 0 1 3 0 0 0) (ref 22 0 0 3 0 0 0) (ref 16 0 6 1 12 0 0) ∷ []) (step 3 2 (ref 33 0 2 1 15 4 8) (ref 17 0 3 1 0 0 0) (ref 35 0 3 1 0 0 0) blank ∷ step 2 2 (ref 34 0 2 3 0 0 0) (ref 23 1 1 3 0 0 0) (ref 24 0 0 1 0 0 0) blank ∷ step 8 1 (ref 33 0 1 1 0 0 0) (ref 26 1 0 1 0 0 0) blank blank ∷ []))) ∷
    -- random-1-123-any-walk-plan-refused
    walk_vector
    (node 16 7 0 0 0 0 ∷ node 16 12 0 0 0 0 ∷ node 16 1 0 0 0 0 ∷ node 16 13 0 0 0 0 ∷ node 16 15 0 0 0 0 ∷ node 16 16 0 0 0 0 ∷ node 25 0 0 0 0 0 ∷ node 2 0 2 0 2 0 ∷ node 1 0 2 1 4 0 ∷ node 1 0 2 8 7 0 ∷ node 3 0 2 5 3 0 ∷ [])
    (root 10 ∷ root 11 ∷ [])
    (3 ∷ 2 ∷ 0 ∷ 0 ∷ 0 ∷ 6 ∷ 0 ∷ 8 ∷ 0 ∷ 3 ∷ 0 ∷ 3 ∷ 0 ∷ 1 ∷ 0 ∷ 3 ∷ 0 ∷ 3 ∷ 0 ∷ 1 ∷ 0 ∷ 1 ∷ 0 ∷ 1 ∷ 0 ∷ 1 ∷ 0 ∷ 1 ∷ 0 ∷ 0 ∷ 0 ∷ 1 ∷ 0 ∷ 1 ∷ 0 ∷ 1 ∷ 0 ∷ 1 ∷ 0 ∷ 0 ∷ 0 ∷ 0 ∷ 0 ∷ 0 ∷ 0 ∷ 0 ∷ 0 ∷ 0 ∷ 0 ∷ 1 ∷ 0 ∷ 0 ∷ 0 ∷ 0 ∷ 0 ∷ 0 ∷ 0 ∷ 1 ∷ 0 ∷ 0 ∷ 0 ∷ 1 ∷ 0 ∷ 0 ∷ 0 ∷ 1 ∷ 0 ∷ 1 ∷ 0 ∷ 13 ∷ 0 ∷ 17 ∷ 0 ∷ 0 ∷ [])
    fix_dims2ns
    (lists' 0 ([]) ([]) ([]))
    (no_more 3) ∷
    -- random-1-124-query_dims-generated
    walk_vector
    (node 24 0 0 0 0 0 ∷ node 16 2 0 0 0 0 ∷ node 2 0 2 1 0 0 ∷ node 25 0 0 0 0 0 ∷ node 1 0 2 3 2 0 ∷ node 21 1 0 0 0 0 ∷ node 17 256 0 0 0 0 ∷ node 17 0 0 0 0 0 ∷ node 4 0 3 5 4 6 ∷ node 26 0 0 0 0 0 ∷ node 17 3 0 0 0 0 ∷ node 2 0 2 8 7 0 ∷ node 1 0 2 9 10 0 ∷ node 3 0 2 11 12 0 ∷ node 18 1 0 0 0 0 ∷ node 17 256 0 0 0 0 ∷ [])
    (root 14 ∷ root 15 ∷ root 13 ∷ [])
    (0 ∷ 1 ∷ 0 ∷ 4 ∷ 0 ∷ 0 ∷ 0 ∷ 0 ∷ 0 ∷ 0 ∷ 0 ∷ 0 ∷ 0 ∷ 1 ∷ 0 ∷ 0 ∷ 0 ∷ 0 ∷ 0 ∷ 0 ∷ 0 ∷ 0 ∷ 0 ∷ 2 ∷ 0 ∷ 2 ∷ 0 ∷ 2 ∷ 0 ∷ 9 ∷ 0 ∷ 1 ∷ 0 ∷ 2 ∷ [])
    query_dims
    (lists' 0 (step 8 1 (ref 18 0 1 0 0 0 0) (ref 17 0 256 0 0 0 0) blank blank ∷ step 8 1 (ref 18 0 0 0 0 0 0) (ref 18 0 1 0 0 0 0) blank blank ∷ []) (step 8 1 (ref 18 0 1 0 0 0 0) (ref 17 0 256 0 0 0 0) blank blank ∷ step 8 1 (ref 18 0 0 0 0 0 0) (ref 18 0 1 0 0 0 0) blank blank ∷ []) (step 8 1 (ref 18 0 1 0 0 0 0) (ref 17 0 256 0 0 0 0) blank blank ∷ step 8 1 (ref 18 0 0 0 0 0 0) (ref 18 0 1 0 0 0 0) blank blank ∷ []))
    (becomes (lists' 2 (step 8 1 (ref 32 0 0 1 0 0 1) (ref 17 0 256 1 0 0 0) blank blank ∷ step 8 1 (ref 32 0 1 1 0 0 0) (ref 32 0 0 1 0 0 1) blank blank ∷ []) (step 8 1 (ref 32 0 0 1 0 0 1) (ref 17 0 256 1 0 0 0) blank blank ∷ step 8 1 (ref 32 0 1 1 0 0 0) (ref 32 0 0 1 0 0 1) blank blank ∷ []) (step 8 1 (ref 32 0 0 1 0 0 1) (ref 17 0 256 1 0 0 0) blank blank ∷ step 8 1 (ref 32 0 1 1 0 0 0) (ref 32 0 0 1 0 0 1) blank blank ∷ []))) ∷
    -- random-1-125-query_dims-any
    walk_vector
    (node 25 0 0 0 0 0 ∷ node 6 0 1 0 0 0 ∷ node 16 0 0 0 0 0 ∷ node 16 3 0 0 0 0 ∷ node 18 1 0 0 0 0 ∷ node 17 0 0 0 0 0 ∷ node 1 0 2 4 5 0 ∷ node 7 0 1 6 0 0 ∷ node 3 0 2 3 2 0 ∷ [])
    (root 8 ∷ root 1 ∷ [])
    (23 ∷ 26 ∷ 0 ∷ 1 ∷ 0 ∷ 0 ∷ 0 ∷ 1 ∷ 0 ∷ 3 ∷ 0 ∷ 3 ∷ 0 ∷ 0 ∷ 0 ∷ 0 ∷ 0 ∷ 0 ∷ 0 ∷ 0 ∷ 0 ∷ 1 ∷ 0 ∷ 3 ∷ 0 ∷ 3 ∷ 0 ∷ 0 ∷ 0 ∷ 1 ∷ 0 ∷ 2 ∷ 0 ∷ 3 ∷ 0 ∷ 6 ∷ 0 ∷ 1 ∷ 0 ∷ 1 ∷ 0 ∷ 1 ∷ [])
    query_dims
    (lists' 4 (step 2 2 (ref 19 1 2 0 0 0 0) (ref 17 0 0 0 0 0 0) (ref 16 0 2 0 0 0 0) blank ∷ step 4 3 (ref 32 0 1 0 0 0 0) (ref 34 0 2 2 0 0 0) (ref 21 1 2 0 0 0 0) (ref 23 0 0 0 0 0 0) ∷ []) (step 4 3 (ref 16 0 4 0 0 0 0) (ref 20 0 0 0 0 0 0) (ref 16 0 0 0 0 0 0) (ref 32 0 1 0 0 0 0) ∷ []) (step 2 2 (ref 18 1 1 0 0 0 0) (ref 24 0 0 0 0 0 0) (ref 18 0 1 0 0 0 0) blank ∷ step 1 2 (ref 16 0 3 0 0 0 0) (ref 34 0 3 1 0 0 0) (ref 17 1 1 0 0 0 0) blank ∷ step 2 2 (ref 32 1 0 0 0 0 0) (ref 34 0 2 0 0 0 0) (ref 32 0 1 0 0 0 0) blank ∷ []))
    (no_more 10) ∷
    -- random-1-133-any-walk-plan-refused
    walk_vector
    (node 22 1 0 0 0 0 ∷ node 6 0 1 0 0 0 ∷ node 17 65535 0 0 0 0 ∷ node 16 2 0 0 0 0 ∷ node 23 65535 0 0 0 0 ∷ node 20 0 0 0 0 0 ∷ node 1 0 2 5 4 0 ∷ node 16 5 0 0 0 0 ∷ node 3 0 2 7 3 0 ∷ node 2 0 2 1 6 0 ∷ node 3 0 2 8 2 0 ∷ node 18 2 0 0 0 0 ∷ node 5 0 1 11 0 0 ∷ node 17 65535 0 0 0 0 ∷ node 3 0 2 13 9 0 ∷ node 1 0 2 10 14 0 ∷ node 17 0 0 0 0 0 ∷ node 17 256 0 0 0 0 ∷ node 16 2 0 0 0 0 ∷ node 1 0 1 17 0 0 ∷ [])
    (root 15 ∷ root 12 ∷ root 19 ∷ [])
    (24 ∷ 25 ∷ 0 ∷ 4 ∷ 0 ∷ 0 ∷ 0 ∷ 2 ∷ 0 ∷ 3 ∷ 0 ∷ 3 ∷ 0 ∷ 1 ∷ 0 ∷ 0 ∷ 0 ∷ 1 ∷ 0 ∷ 1 ∷ 0 ∷ 0 ∷ 0 ∷ 1 ∷ 0 ∷ 0 ∷ 0 ∷ 2 ∷ 0 ∷ 1 ∷ 0 ∷ 1 ∷ 0 ∷ 0 ∷ 255 ∷ 255 ∷ [])
    query_dims
    (lists' 0 ([]) ([]) ([]))
    (no_more 2) ∷
    -- random-1-138-fix_dims-n-generated
    walk_vector
    (node 24 0 0 0 0 0 ∷ node 16 4 0 0 0 0 ∷ node 2 0 2 0 1 0 ∷ node 16 0 0 0 0 0 ∷ node 3 0 2 2 3 0 ∷ [])
    (root 4 ∷ [])
    (3 ∷ 7 ∷ 0 ∷ 1 ∷ 0 ∷ 0 ∷ 0 ∷ 1 ∷ 0 ∷ 3 ∷ 0 ∷ 3 ∷ 0 ∷ 0 ∷ 0 ∷ 0 ∷ 0 ∷ 0 ∷ 0 ∷ 1 ∷ 0 ∷ 0 ∷ 0 ∷ 0 ∷ 0 ∷ 0 ∷ 0 ∷ 0 ∷ 0 ∷ 0 ∷ [])
    fix_dims_n
    (lists' 1 (step 2 2 (ref 32 0 0 0 0 0 0) (ref 24 0 0 0 0 0 0) (ref 16 0 4 0 0 0 0) blank ∷ step 3 2 (ref 18 0 0 0 0 0 0) (ref 32 0 0 0 0 0 0) (ref 16 0 0 0 0 0 0) blank ∷ []) (step 2 2 (ref 32 0 0 0 0 0 0) (ref 24 0 0 0 0 0 0) (ref 16 0 4 0 0 0 0) blank ∷ step 3 2 (ref 18 0 0 0 0 0 0) (ref 32 0 0 0 0 0 0) (ref 16 0 0 0 0 0 0) blank ∷ []) (step 2 2 (ref 32 0 0 0 0 0 0) (ref 24 0 0 0 0 0 0) (ref 16 0 4 0 0 0 0) blank ∷ step 3 2 (ref 18 0 0 0 0 0 0) (ref 32 0 0 0 0 0 0) (ref 16 0 0 0 0 0 0) blank ∷ []))
    (becomes (lists' 1 (step 2 2 (ref 32 0 0 3 0 0 0) (ref 24 0 0 1 0 0 0) (ref 16 0 4 3 9 0 0) blank ∷ step 3 2 (ref 34 0 0 3 0 0 0) (ref 32 0 0 3 0 0 0) (ref 16 0 0 1 0 0 0) blank ∷ []) (step 2 2 (ref 32 0 0 3 0 0 0) (ref 24 0 0 1 0 0 0) (ref 16 0 4 3 9 0 0) blank ∷ step 3 2 (ref 34 0 0 3 0 0 0) (ref 32 0 0 3 0 0 0) (ref 16 0 0 1 0 0 0) blank ∷ []) (step 2 2 (ref 32 0 0 3 0 0 0) (ref 24 0 0 1 0 0 0) (ref 16 0 4 3 9 0 0) blank ∷ step 3 2 (ref 34 0 0 3 0 0 0) (ref 32 0 0 3 0 0 0) (ref 16 0 0 1 0 0 0) blank ∷ []))) ∷
    -- random-1-139-any-walk-plan-refused
    walk_vector
    (node 18 0 0 0 0 0 ∷ node 18 0 0 0 0 0 ∷ node 16 3 0 0 0 0 ∷ node 4 0 3 2 1 0 ∷ node 18 0 0 0 0 0 ∷ node 17 1 0 0 0 0 ∷ node 5 0 1 4 0 0 ∷ node 3 0 2 3 6 0 ∷ node 1 0 2 7 5 0 ∷ node 21 3 0 0 0 0 ∷ node 1 0 2 8 9 0 ∷ node 6 0 1 10 0 0 ∷ node 17 2 0 0 0 0 ∷ node 16 2 0 0 0 0 ∷ node 7 0 1 12 0 0 ∷ node 1 0 2 11 14 0 ∷ node 6 0 1 13 0 0 ∷ [])
    (root 16 ∷ [])
    (24 ∷ 25 ∷ 0 ∷ 3 ∷ 0 ∷ 0 ∷ 0 ∷ 2 ∷ 0 ∷ 0 ∷ 0 ∷ 0 ∷ 0 ∷ 0 ∷ 0 ∷ 0 ∷ 0 ∷ 1 ∷ 0 ∷ 0 ∷ 0 ∷ 0 ∷ 0 ∷ 2 ∷ 0 ∷ 2 ∷ 0 ∷ 0 ∷ 0 ∷ 0 ∷ 0 ∷ 6 ∷ 0 ∷ 6 ∷ 0 ∷ 0 ∷ 0 ∷ 0 ∷ [])
    fix_dims2ns
    (lists' 0 ([]) ([]) ([]))
    (no_more 11) ∷
    -- random-1-141-fix_dims-2ns-any
    walk_vector
    (node 23 0 0 0 0 0 ∷ node 17 256 0 0 0 0 ∷ node 3 0 2 1 0 0 ∷ node 16 0 0 0 0 0 ∷ node 1 0 2 3 2 0 ∷ node 17 65535 0 0 0 0 ∷ node 6 0 1 4 0 0 ∷ node 21 1 0 0 0 0 ∷ node 7 0 1 5 0 0 ∷ node 22 0 0 0 0 0 ∷ node 20 0 0 0 0 0 ∷ node 16 0 0 0 0 0 ∷ node 18 0 0 0 0 0 ∷ node 6 0 1 9 0 0 ∷ node 5 0 1 12 0 0 ∷ node 1 0 2 7 14 0 ∷ node 3 0 2 6 10 0 ∷ node 2 0 2 16 8 0 ∷ node 1 0 2 13 11 0 ∷ node 1 0 2 18 15 0 ∷ [])
    (root 17 ∷ [])
    (24 ∷ 28 ∷ 0 ∷ 1 ∷ 0 ∷ 0 ∷ 0 ∷ 1 ∷ 0 ∷ 3 ∷ 0 ∷ 3 ∷ 0 ∷ 0 ∷ 0 ∷ 0 ∷ 0 ∷ 1 ∷ 0 ∷ 0 ∷ 0 ∷ 0 ∷ 0 ∷ 1 ∷ 0 ∷ 1 ∷ 0 ∷ 0 ∷ 0 ∷ 0 ∷ 0 ∷ 3 ∷ 0 ∷ 0 ∷ [])
    fix_dims2ns
    (lists' 1 ([]) ([]) (step 3 2 (ref 16 0 1 0 0 0 0) (ref 17 0 3 0 0 0 0) (ref 34 1 2 3 0 0 0) blank ∷ step 4 3 (ref 32 0 0 3 11 12 7) (ref 16 0 2 0 0 0 0) (ref 23 1 1 0 0 0 0) (ref 16 0 3 0 0 0 0) ∷ step 3 2 (ref 32 0 1 0 0 0 0) (ref 17 0 3 0 0 0 0) (ref 23 0 2 0 0 0 0) blank ∷ []))
    (becomes (lists' 1 ([]) ([]) (step 3 2 (ref 16 0 1 3 3 0 0) (ref 17 0 3 1 0 0 0) (ref 34 1 2 3 0 0 0) blank ∷ step 4 3 (ref 32 0 0 3 11 12 7) (ref 16 0 2 3 6 0 0) (ref 23 1 1 3 0 0 0) (ref 16 0 3 3 8 0 0) ∷ step 3 2 (ref 32 0 1 3 0 0 0) (ref 17 0 3 1 0 0 0) (ref 23 0 2 3 0 0 0) blank ∷ []))) ∷
    -- random-1-143-query_dims-any
    walk_vector
    (node 16 1 0 0 0 0 ∷ node 21 3 0 0 0 0 ∷ node 3 0 2 1 0 0 ∷ node 6 0 1 2 0 0 ∷ node 25 0 0 0 0 0 ∷ node 1 0 2 3 4 0 ∷ node 16 11 0 0 0 0 ∷ node 17 256 0 0 0 0 ∷ node 17 2 0 0 0 0 ∷ node 20 0 0 0 0 0 ∷ node 2 0 2 9 5 0 ∷ node 4 0 3 10 7 6 ∷ node 3 0 2 11 8 0 ∷ [])
    (root 12 ∷ [])
    (23 ∷ 24 ∷ 0 ∷ 7 ∷ 0 ∷ 2 ∷ 0 ∷ 3 ∷ 0 ∷ 0 ∷ 0 ∷ 0 ∷ 0 ∷ 0 ∷ 0 ∷ 1 ∷ 0 ∷ 0 ∷ 0 ∷ 1 ∷ 0 ∷ 1 ∷ 0 ∷ 1 ∷ 0 ∷ 1 ∷ 0 ∷ 0 ∷ 0 ∷ 0 ∷ 0 ∷ 0 ∷ 0 ∷ 0 ∷ 0 ∷ 0 ∷ 0 ∷ 0 ∷ 0 ∷ 0 ∷ 0 ∷ 11 ∷ 0 ∷ 12 ∷ 0 ∷ 0 ∷ [])
    query_dims
    (lists' 0 (step 3 2 (ref 19 1 0 0 0 0 0) (ref 20 0 0 0 0 0 0) (ref 22 0 0 0 0 0 0) blank ∷ []) (step 8 1 (ref 19 0 0 0 0 0 0) (ref 16 0 1 4 14 17 19) blank blank ∷ step 2 2 (ref 19 0 0 0 0 0 0) (ref 34 0 1 3 0 0 0) (ref 21 0 2 0 0 0 0) blank ∷ []) (step 8 1 (ref 32 1 0 0 0 0 0) (ref 17 0 1 3 3 10 6) blank blank ∷ step 1 2 (ref 34 0 2 4 3 18 15) (ref 20 0 0 0 0 0 0) (ref 35 0 1 4 11 18 3) blank ∷ step 8 1 (ref 34 0 0 1 0 0 0) (ref 17 1 0 0 0 0 0) blank blank ∷ []))
    (becomes (lists' 0 (step 3 2 (ref 19 1 0 3 0 0 0) (ref 20 0 0 1 0 0 0) (ref 22 0 0 3 0 0 0) blank ∷ []) (step 8 1 (ref 19 0 0 1 0 0 0) (ref 36 0 1 1 3 1 19) blank blank ∷ step 2 2 (ref 19 0 0 3 0 0 0) (ref 34 0 1 3 0 0 0) (ref 21 0 2 1 0 0 0) blank ∷ []) (step 8 1 (ref 32 1 0 1 0 0 0) (ref 17 0 1 1 3 10 6) blank blank ∷ step 1 2 (ref 34 0 2 1 3 18 15) (ref 20 0 0 1 0 0 0) (ref 35 0 1 1 11 18 3) blank ∷ step 8 1 (ref 34 0 0 1 0 0 0) (ref 17 1 0 1 0 0 0) blank blank ∷ []))) ∷
    -- random-1-145-any-walk-plan-refused
    walk_vector
    (node 18 0 0 0 0 0 ∷ node 18 0 0 0 0 0 ∷ node 17 1 0 0 0 0 ∷ node 18 0 0 0 0 0 ∷ node 4 0 3 0 3 2 ∷ node 16 0 0 0 0 0 ∷ node 1 0 2 1 4 0 ∷ node 16 5 0 0 0 0 ∷ node 23 65535 0 0 0 0 ∷ node 1 0 2 6 8 0 ∷ node 1 0 2 9 7 0 ∷ [])
    (root 5 ∷ [])
    (3 ∷ 5 ∷ 0 ∷ 0 ∷ 0 ∷ 2 ∷ 0 ∷ 6 ∷ 0 ∷ 3 ∷ 0 ∷ 3 ∷ 0 ∷ 0 ∷ 0 ∷ 1 ∷ 0 ∷ 1 ∷ 0 ∷ 3 ∷ 0 ∷ 1 ∷ 0 ∷ 1 ∷ 0 ∷ 2 ∷ 0 ∷ 0 ∷ 0 ∷ 0 ∷ 0 ∷ 0 ∷ 0 ∷ 0 ∷ 0 ∷ 0 ∷ 0 ∷ 0 ∷ 0 ∷ 0 ∷ 0 ∷ 0 ∷ 0 ∷ 0 ∷ 0 ∷ 0 ∷ 0 ∷ 0 ∷ 0 ∷ 0 ∷ 0 ∷ 0 ∷ 0 ∷ 7 ∷ 0 ∷ 1 ∷ 0 ∷ 0 ∷ 0 ∷ 0 ∷ [])
    fix_dims2ns
    (lists' 0 ([]) ([]) ([]))
    (no_more 12) ∷
    -- random-1-157-fix_dims-n-any
    walk_vector
    (node 16 2 0 0 0 0 ∷ node 18 0 0 0 0 0 ∷ node 21 3 0 0 0 0 ∷ node 16 0 0 0 0 0 ∷ node 4 0 3 0 2 3 ∷ node 17 1 0 0 0 0 ∷ node 2 0 2 5 1 0 ∷ node 18 0 0 0 0 0 ∷ node 16 1 0 0 0 0 ∷ node 25 0 0 0 0 0 ∷ node 1 0 2 4 9 0 ∷ node 1 0 2 6 7 0 ∷ node 7 0 1 8 0 0 ∷ node 24 0 0 0 0 0 ∷ node 2 0 2 13 11 0 ∷ node 16 1 0 0 0 0 ∷ node 3 0 2 12 15 0 ∷ node 1 0 2 10 16 0 ∷ [])
    (root 17 ∷ [])
    (1 ∷ 4 ∷ 0 ∷ 3 ∷ 0 ∷ 0 ∷ 0 ∷ 0 ∷ 0 ∷ 0 ∷ 0 ∷ 0 ∷ 0 ∷ 0 ∷ 0 ∷ 0 ∷ 0 ∷ 0 ∷ 0 ∷ 0 ∷ 0 ∷ 0 ∷ 0 ∷ 1 ∷ 0 ∷ 1 ∷ 0 ∷ 1 ∷ 0 ∷ 0 ∷ [])
    fix_dims_n
    (lists' 1 (step 4 3 (ref 34 1 2 2 0 0 0) (ref 16 0 1 0 0 0 0) (ref 23 1 2 0 0 0 0) (ref 20 0 0 0 0 0 0) ∷ []) ([]) (step 2 2 (ref 32 0 2 0 0 0 0) (ref 16 0 0 0 0 0 0) (ref 26 1 0 0 0 0 0) blank ∷ []))
    (becomes (lists' 1 (step 4 3 (ref 34 1 2 3 0 0 0) (ref 16 0 1 1 2 0 0) (ref 23 1 2 3 0 0 0) (ref 20 0 0 1 0 0 0) ∷ []) ([]) (step 2 2 (ref 32 0 2 1 0 0 0) (ref 16 0 0 1 0 0 0) (ref 26 1 0 1 0 0 0) blank ∷ []))) ∷
    -- random-1-158-fix_dims-2ns-generated
    walk_vector
    (node 25 0 0 0 0 0 ∷ node 16 0 0 0 0 0 ∷ node 18 0 0 0 0 0 ∷ node 3 0 2 2 1 0 ∷ node 26 0 0 0 0 0 ∷ node 16 0 0 0 0 0 ∷ node 1 0 2 3 0 0 ∷ node 20 0 0 0 0 0 ∷ node 7 0 1 6 0 0 ∷ node 7 0 1 8 0 0 ∷ node 2 0 2 5 4 0 ∷ node 2 0 2 7 9 0 ∷ [])
    (root 10 ∷ root 11 ∷ [])
    (23 ∷ 23 ∷ 0 ∷ 2 ∷ 0 ∷ 4 ∷ 0 ∷ 5 ∷ 0 ∷ 0 ∷ 0 ∷ 0 ∷ 0 ∷ 0 ∷ 0 ∷ 2 ∷ 0 ∷ 1 ∷ 0 ∷ 2 ∷ 0 ∷ 0 ∷ 0 ∷ 1 ∷ 0 ∷ 1 ∷ 0 ∷ 0 ∷ 0 ∷ 1 ∷ 0 ∷ 0 ∷ 0 ∷ 1 ∷ 0 ∷ 1 ∷ 0 ∷ 1 ∷ 0 ∷ 0 ∷ 0 ∷ 1 ∷ 0 ∷ 0 ∷ 0 ∷ 1 ∷ 0 ∷ 0 ∷ 0 ∷ 0 ∷ 0 ∷ 1 ∷ 0 ∷ 1 ∷ 0 ∷ 20 ∷ 0 ∷ 1 ∷ [])
    fix_dims2ns
    (lists' 7 (step 2 2 (ref 18 0 0 0 0 0 0) (ref 16 0 0 0 0 0 0) (ref 26 0 0 0 0 0 0) blank ∷ step 3 2 (ref 32 0 0 0 0 0 0) (ref 18 0 0 0 0 0 0) (ref 16 0 0 0 0 0 0) blank ∷ step 1 2 (ref 32 0 1 0 0 0 0) (ref 32 0 0 0 0 0 0) (ref 25 0 0 0 0 0 0) blank ∷ step 2 2 (ref 32 0 2 0 0 0 0) (ref 20 0 0 0 0 0 0) (ref 32 0 1 0 0 0 0) blank ∷ step 2 2 (ref 32 0 3 0 0 0 0) (ref 20 0 0 0 0 0 0) (ref 32 0 2 0 0 0 0) blank ∷ step 2 2 (ref 18 0 1 0 0 0 0) (ref 20 0 0 0 0 0 0) (ref 32 0 3 0 0 0 0) blank ∷ step 2 2 (ref 18 1 0 0 0 0 0) (ref 16 1 0 0 0 0 0) (ref 26 0 0 0 0 0 0) blank ∷ step 4 3 (ref 32 0 4 0 0 0 0) (ref 18 1 0 0 0 0 0) (ref 16 1 0 0 0 0 0) (ref 25 0 0 0 0 0 0) ∷ step 2 2 (ref 32 0 5 0 0 0 0) (ref 20 0 0 0 0 0 0) (ref 32 0 4 0 0 0 0) blank ∷ step 2 2 (ref 32 0 6 0 0 0 0) (ref 20 0 0 0 0 0 0) (ref 32 0 5 0 0 0 0) blank ∷ step 2 2 (ref 18 1 1 0 0 0 0) (ref 20 0 0 0 0 0 0) (ref 32 0 6 0 0 0 0) blank ∷ []) (step 2 2 (ref 18 0 0 0 0 0 0) (ref 16 0 0 0 0 0 0) (ref 26 0 0 0 0 0 0) blank ∷ step 3 2 (ref 32 0 0 0 0 0 0) (ref 18 0 0 0 0 0 0) (ref 16 0 0 0 0 0 0) blank ∷ step 1 2 (ref 32 0 1 0 0 0 0) (ref 32 0 0 0 0 0 0) (ref 25 0 0 0 0 0 0) blank ∷ step 2 2 (ref 32 0 2 0 0 0 0) (ref 20 0 0 0 0 0 0) (ref 32 0 1 0 0 0 0) blank ∷ step 2 2 (ref 32 0 3 0 0 0 0) (ref 20 0 0 0 0 0 0) (ref 32 0 2 0 0 0 0) blank ∷ step 2 2 (ref 18 0 1 0 0 0 0) (ref 20 0 0 0 0 0 0) (ref 32 0 3 0 0 0 0) blank ∷ step 2 2 (ref 18 1 0 0 0 0 0) (ref 16 1 0 0 0 0 0) (ref 26 0 0 0 0 0 0) blank ∷ step 4 3 (ref 32 0 4 0 0 0 0) (ref 18 1 0 0 0 0 0) (ref 16 1 0 0 0 0 0) (ref 25 0 0 0 0 0 0) ∷ step 2 2 (ref 32 0 5 0 0 0 0) (ref 20 0 0 0 0 0 0) (ref 32 0 4 0 0 0 0) blank ∷ step 2 2 (ref 32 0 6 0 0 0 0) (ref 20 0 0 0 0 0 0) (ref 32 0 5 0 0 0 0) blank ∷ step 2 2 (ref 18 1 1 0 0 0 0) (ref 20 0 0 0 0 0 0) (ref 32 0 6 0 0 0 0) blank ∷ []) (step 2 2 (ref 18 0 0 0 0 0 0) (ref 16 0 0 0 0 0 0) (ref 26 0 0 0 0 0 0) blank ∷ step 3 2 (ref 32 0 0 0 0 0 0) (ref 18 0 0 0 0 0 0) (ref 16 0 0 0 0 0 0) blank ∷ step 1 2 (ref 32 0 1 0 0 0 0) (ref 32 0 0 0 0 0 0) (ref 25 0 0 0 0 0 0) blank ∷ step 2 2 (ref 32 0 2 0 0 0 0) (ref 20 0 0 0 0 0 0) (ref 32 0 1 0 0 0 0) blank ∷ step 2 2 (ref 32 0 3 0 0 0 0) (ref 20 0 0 0 0 0 0) (ref 32 0 2 0 0 0 0) blank ∷ step 2 2 (ref 18 0 1 0 0 0 0) (ref 20 0 0 0 0 0 0) (ref 32 0 3 0 0 0 0) blank ∷ step 2 2 (ref 18 1 0 0 0 0 0) (ref 16 1 0 0 0 0 0) (ref 26 0 0 0 0 0 0) blank ∷ step 4 3 (ref 32 0 4 0 0 0 0) (ref 18 1 0 0 0 0 0) (ref 16 1 0 0 0 0 0) (ref 25 0 0 0 0 0 0) ∷ step 2 2 (ref 32 0 5 0 0 0 0) (ref 20 0 0 0 0 0 0) (ref 32 0 4 0 0 0 0) blank ∷ step 2 2 (ref 32 0 6 0 0 0 0) (ref 20 0 0 0 0 0 0) (ref 32 0 5 0 0 0 0) blank ∷ step 2 2 (ref 18 1 1 0 0 0 0) (ref 20 0 0 0 0 0 0) (ref 32 0 6 0 0 0 0) blank ∷ []))
    (becomes (lists' 11 (step 2 2 (ref 32 0 7 1 0 0 0) (ref 16 0 0 1 1 0 0) (ref 26 0 0 1 0 0 0) blank ∷ step 3 2 (ref 32 0 0 1 0 0 0) (ref 32 0 7 1 0 0 0) (ref 16 0 0 1 1 0 0) blank ∷ step 1 2 (ref 32 0 1 1 0 0 0) (ref 32 0 0 1 0 0 0) (ref 25 0 0 1 0 0 0) blank ∷ step 2 2 (ref 32 0 2 1 0 0 0) (ref 20 0 0 1 0 0 0) (ref 32 0 1 1 0 0 0) blank ∷ step 2 2 (ref 32 0 3 1 0 0 0) (ref 20 0 0 1 0 0 0) (ref 32 0 2 1 0 0 0) blank ∷ step 2 2 (ref 32 0 8 1 0 0 1) (ref 20 0 0 1 0 0 0) (ref 32 0 3 1 0 0 0) blank ∷ step 2 2 (ref 32 1 9 1 0 0 0) (ref 16 1 0 1 1 0 0) (ref 26 0 0 1 0 0 0) blank ∷ step 4 3 (ref 32 0 4 1 0 0 0) (ref 32 1 9 1 0 0 0) (ref 16 1 0 1 1 0 0) (ref 25 0 0 1 0 0 0) ∷ step 2 2 (ref 32 0 5 1 0 0 0) (ref 20 0 0 1 0 0 0) (ref 32 0 4 1 0 0 0) blank ∷ step 2 2 (ref 32 0 6 1 0 0 0) (ref 20 0 0 1 0 0 0) (ref 32 0 5 1 0 0 0) blank ∷ step 2 2 (ref 32 1 10 1 0 0 1) (ref 20 0 0 1 0 0 0) (ref 32 0 6 1 0 0 0) blank ∷ []) (step 2 2 (ref 32 0 7 1 0 0 0) (ref 16 0 0 1 1 0 0) (ref 26 0 0 1 0 0 0) blank ∷ step 3 2 (ref 32 0 0 1 0 0 0) (ref 32 0 7 1 0 0 0) (ref 16 0 0 1 1 0 0) blank ∷ step 1 2 (ref 32 0 1 1 0 0 0) (ref 32 0 0 1 0 0 0) (ref 25 0 0 1 0 0 0) blank ∷ step 2 2 (ref 32 0 2 1 0 0 0) (ref 20 0 0 1 0 0 0) (ref 32 0 1 1 0 0 0) blank ∷ step 2 2 (ref 32 0 3 1 0 0 0) (ref 20 0 0 1 0 0 0) (ref 32 0 2 1 0 0 0) blank ∷ step 2 2 (ref 32 0 8 1 0 0 1) (ref 20 0 0 1 0 0 0) (ref 32 0 3 1 0 0 0) blank ∷ step 2 2 (ref 32 1 9 1 0 0 0) (ref 16 1 0 1 1 0 0) (ref 26 0 0 1 0 0 0) blank ∷ step 4 3 (ref 32 0 4 1 0 0 0) (ref 32 1 9 1 0 0 0) (ref 16 1 0 1 1 0 0) (ref 25 0 0 1 0 0 0) ∷ step 2 2 (ref 32 0 5 1 0 0 0) (ref 20 0 0 1 0 0 0) (ref 32 0 4 1 0 0 0) blank ∷ step 2 2 (ref 32 0 6 1 0 0 0) (ref 20 0 0 1 0 0 0) (ref 32 0 5 1 0 0 0) blank ∷ step 2 2 (ref 32 1 10 1 0 0 1) (ref 20 0 0 1 0 0 0) (ref 32 0 6 1 0 0 0) blank ∷ []) (step 2 2 (ref 32 0 7 1 0 0 0) (ref 16 0 0 1 1 0 0) (ref 26 0 0 1 0 0 0) blank ∷ step 3 2 (ref 32 0 0 1 0 0 0) (ref 32 0 7 1 0 0 0) (ref 16 0 0 1 1 0 0) blank ∷ step 1 2 (ref 32 0 1 1 0 0 0) (ref 32 0 0 1 0 0 0) (ref 25 0 0 1 0 0 0) blank ∷ step 2 2 (ref 32 0 2 1 0 0 0) (ref 20 0 0 1 0 0 0) (ref 32 0 1 1 0 0 0) blank ∷ step 2 2 (ref 32 0 3 1 0 0 0) (ref 20 0 0 1 0 0 0) (ref 32 0 2 1 0 0 0) blank ∷ step 2 2 (ref 32 0 8 1 0 0 1) (ref 20 0 0 1 0 0 0) (ref 32 0 3 1 0 0 0) blank ∷ step 2 2 (ref 32 1 9 1 0 0 0) (ref 16 1 0 1 1 0 0) (ref 26 0 0 1 0 0 0) blank ∷ step 4 3 (ref 32 0 4 1 0 0 0) (ref 32 1 9 1 0 0 0) (ref 16 1 0 1 1 0 0) (ref 25 0 0 1 0 0 0) ∷ step 2 2 (ref 32 0 5 1 0 0 0) (ref 20 0 0 1 0 0 0) (ref 32 0 4 1 0 0 0) blank ∷ step 2 2 (ref 32 0 6 1 0 0 0) (ref 20 0 0 1 0 0 0) (ref 32 0 5 1 0 0 0) blank ∷ step 2 2 (ref 32 1 10 1 0 0 1) (ref 20 0 0 1 0 0 0) (ref 32 0 6 1 0 0 0) blank ∷ []))) ∷
    -- random-1-159-fix_dims-2ns-any
    walk_vector
    (node 17 1 0 0 0 0 ∷ node 19 2 0 0 0 0 ∷ node 17 1 0 0 0 0 ∷ node 23 256 0 0 0 0 ∷ node 5 0 1 1 0 0 ∷ node 16 0 0 0 0 0 ∷ node 17 3 0 0 0 0 ∷ node 23 1 0 0 0 0 ∷ node 7 0 1 6 0 0 ∷ node 20 0 0 0 0 0 ∷ node 1 0 2 5 8 0 ∷ node 1 0 2 0 3 0 ∷ node 6 0 1 9 0 0 ∷ node 1 0 2 11 7 0 ∷ [])
    (root 10 ∷ root 12 ∷ root 4 ∷ [])
    (0 ∷ 2 ∷ 0 ∷ 1 ∷ 0 ∷ 0 ∷ 0 ∷ 1 ∷ 0 ∷ 0 ∷ 0 ∷ 0 ∷ 0 ∷ 0 ∷ 0 ∷ 0 ∷ 0 ∷ 0 ∷ 0 ∷ 1 ∷ 0 ∷ 0 ∷ 0 ∷ 3 ∷ 0 ∷ 3 ∷ 0 ∷ 1 ∷ 0 ∷ 1 ∷ 255 ∷ 255 ∷ 0 ∷ 6 ∷ 255 ∷ 255 ∷ 0 ∷ 1 ∷ 0 ∷ 2 ∷ 0 ∷ 1 ∷ [])
    fix_dims2ns
    (lists' 1 (step 1 2 (ref 32 0 0 0 0 0 0) (ref 21 0 1 0 0 0 0) (ref 19 0 1 0 0 0 0) blank ∷ step 2 3 (ref 32 0 3 0 0 0 0) (ref 34 0 1 0 0 0 0) (ref 32 0 0 0 0 0 0) (ref 35 1 3 0 0 0 0) ∷ step 1 2 (ref 18 0 1 0 0 0 0) (ref 32 0 0 0 0 0 0) (ref 25 0 0 0 0 0 0) blank ∷ []) ([]) (step 1 2 (ref 18 0 1 0 0 0 0) (ref 24 0 0 0 0 0 0) (ref 24 0 0 0 0 0 0) blank ∷ []))
    (no_more 12) ∷
    -- random-1-160-query_dims-generated
    walk_vector
    (node 21 3 0 0 0 0 ∷ node 7 0 1 0 0 0 ∷ node 16 5 0 0 0 0 ∷ node 2 0 2 2 1 0 ∷ node 6 0 1 3 0 0 ∷ node 17 2 0 0 0 0 ∷ node 3 0 2 4 5 0 ∷ node 16 1 0 0 0 0 ∷ node 17 0 0 0 0 0 ∷ node 1 0 2 8 6 0 ∷ node 3 0 2 7 9 0 ∷ [])
    (root 10 ∷ [])
    (1 ∷ 1 ∷ 0 ∷ 7 ∷ 0 ∷ 6 ∷ 0 ∷ 4 ∷ 0 ∷ 3 ∷ 0 ∷ 3 ∷ 0 ∷ 0 ∷ 0 ∷ 3 ∷ 0 ∷ 0 ∷ 0 ∷ 1 ∷ 0 ∷ 0 ∷ 0 ∷ 1 ∷ 0 ∷ 1 ∷ 0 ∷ 0 ∷ 0 ∷ 0 ∷ 0 ∷ 0 ∷ 0 ∷ 0 ∷ 0 ∷ 0 ∷ 0 ∷ 0 ∷ 0 ∷ 0 ∷ 0 ∷ 0 ∷ 0 ∷ 0 ∷ 0 ∷ 0 ∷ 0 ∷ 0 ∷ 0 ∷ 0 ∷ 0 ∷ 0 ∷ 0 ∷ 0 ∷ 0 ∷ 34 ∷ 0 ∷ 0 ∷ [])
    query_dims
    (lists' 4 (step 2 2 (ref 32 0 0 0 0 0 0) (ref 20 0 0 0 0 0 0) (ref 21 0 3 0 0 0 0) blank ∷ step 2 2 (ref 32 0 1 0 0 0 0) (ref 16 0 5 0 0 0 0) (ref 32 0 0 0 0 0 0) blank ∷ step 3 2 (ref 32 0 2 0 0 0 0) (ref 32 0 1 0 0 0 0) (ref 20 0 0 0 0 0 0) blank ∷ step 4 3 (ref 32 0 3 0 0 0 0) (ref 32 0 2 0 0 0 0) (ref 17 0 2 0 0 0 0) (ref 17 1 0 0 0 0 0) ∷ step 3 2 (ref 18 0 0 0 0 0 0) (ref 16 0 1 0 0 0 0) (ref 32 0 3 0 0 0 0) blank ∷ []) (step 2 2 (ref 32 0 0 0 0 0 0) (ref 20 0 0 0 0 0 0) (ref 21 0 3 0 0 0 0) blank ∷ step 2 2 (ref 32 0 1 0 0 0 0) (ref 16 0 5 0 0 0 0) (ref 32 0 0 0 0 0 0) blank ∷ step 3 2 (ref 32 0 2 0 0 0 0) (ref 32 0 1 0 0 0 0) (ref 20 0 0 0 0 0 0) blank ∷ step 4 3 (ref 32 0 3 0 0 0 0) (ref 32 0 2 0 0 0 0) (ref 17 0 2 0 0 0 0) (ref 17 1 0 0 0 0 0) ∷ step 3 2 (ref 18 0 0 0 0 0 0) (ref 16 0 1 0 0 0 0) (ref 32 0 3 0 0 0 0) blank ∷ []) (step 2 2 (ref 32 0 0 0 0 0 0) (ref 20 0 0 0 0 0 0) (ref 21 0 3 0 0 0 0) blank ∷ step 2 2 (ref 32 0 1 0 0 0 0) (ref 16 0 5 0 0 0 0) (ref 32 0 0 0 0 0 0) blank ∷ step 3 2 (ref 32 0 2 0 0 0 0) (ref 32 0 1 0 0 0 0) (ref 20 0 0 0 0 0 0) blank ∷ step 4 3 (ref 32 0 3 0 0 0 0) (ref 32 0 2 0 0 0 0) (ref 17 0 2 0 0 0 0) (ref 17 1 0 0 0 0 0) ∷ step 3 2 (ref 18 0 0 0 0 0 0) (ref 16 0 1 0 0 0 0) (ref 32 0 3 0 0 0 0) blank ∷ []))
    (becomes (lists' 5 (step 2 2 (ref 32 0 0 1 0 0 0) (ref 20 0 0 1 0 0 0) (ref 21 0 3 1 0 0 0) blank ∷ step 2 2 (ref 32 0 1 1 0 0 0) (ref 36 0 5 1 11 5 0) (ref 32 0 0 1 0 0 0) blank ∷ step 3 2 (ref 32 0 2 1 0 0 0) (ref 32 0 1 1 0 0 0) (ref 20 0 0 1 0 0 0) blank ∷ step 4 3 (ref 32 0 3 1 0 0 0) (ref 32 0 2 1 0 0 0) (ref 17 0 2 1 0 0 0) (ref 17 1 0 1 0 0 0) ∷ step 3 2 (ref 32 0 4 1 0 0 0) (ref 36 0 1 1 3 1 0) (ref 32 0 3 1 0 0 0) blank ∷ []) (step 2 2 (ref 32 0 0 1 0 0 0) (ref 20 0 0 1 0 0 0) (ref 21 0 3 1 0 0 0) blank ∷ step 2 2 (ref 32 0 1 1 0 0 0) (ref 36 0 5 1 11 5 0) (ref 32 0 0 1 0 0 0) blank ∷ step 3 2 (ref 32 0 2 1 0 0 0) (ref 32 0 1 1 0 0 0) (ref 20 0 0 1 0 0 0) blank ∷ step 4 3 (ref 32 0 3 1 0 0 0) (ref 32 0 2 1 0 0 0) (ref 17 0 2 1 0 0 0) (ref 17 1 0 1 0 0 0) ∷ step 3 2 (ref 32 0 4 1 0 0 0) (ref 36 0 1 1 3 1 0) (ref 32 0 3 1 0 0 0) blank ∷ []) (step 2 2 (ref 32 0 0 1 0 0 0) (ref 20 0 0 1 0 0 0) (ref 21 0 3 1 0 0 0) blank ∷ step 2 2 (ref 32 0 1 1 0 0 0) (ref 36 0 5 1 11 5 0) (ref 32 0 0 1 0 0 0) blank ∷ step 3 2 (ref 32 0 2 1 0 0 0) (ref 32 0 1 1 0 0 0) (ref 20 0 0 1 0 0 0) blank ∷ step 4 3 (ref 32 0 3 1 0 0 0) (ref 32 0 2 1 0 0 0) (ref 17 0 2 1 0 0 0) (ref 17 1 0 1 0 0 0) ∷ step 3 2 (ref 32 0 4 1 0 0 0) (ref 36 0 1 1 3 1 0) (ref 32 0 3 1 0 0 0) blank ∷ []))) ∷
    -- random-1-161-any-walk-plan-refused
    walk_vector
    (node 16 8 0 0 0 0 ∷ node 7 0 1 0 0 0 ∷ node 16 14 0 0 0 0 ∷ [])
    (root 1 ∷ [])
    (0 ∷ 3 ∷ 255 ∷ 255 ∷ 0 ∷ 4 ∷ 0 ∷ 6 ∷ 0 ∷ 1 ∷ 0 ∷ 1 ∷ 0 ∷ 0 ∷ 0 ∷ 2 ∷ 0 ∷ 2 ∷ 0 ∷ 1 ∷ 0 ∷ 1 ∷ 0 ∷ 2 ∷ 0 ∷ 2 ∷ 0 ∷ 0 ∷ 0 ∷ 0 ∷ 0 ∷ 0 ∷ 0 ∷ 0 ∷ 0 ∷ 0 ∷ 0 ∷ 0 ∷ 0 ∷ 0 ∷ 0 ∷ 0 ∷ 0 ∷ 0 ∷ 0 ∷ 0 ∷ 0 ∷ 0 ∷ 0 ∷ 0 ∷ 0 ∷ 0 ∷ 0 ∷ 0 ∷ 0 ∷ 0 ∷ 0 ∷ 16 ∷ 0 ∷ 1 ∷ 0 ∷ 15 ∷ 0 ∷ 0 ∷ 0 ∷ 0 ∷ [])
    fix_dims2ns
    (lists' 0 ([]) ([]) ([]))
    (no_more 9) ∷
    -- random-1-163-any-walk-plan-refused
    walk_vector
    (node 16 2 0 0 0 0 ∷ node 25 0 0 0 0 0 ∷ node 7 0 1 1 0 0 ∷ node 17 0 0 0 0 0 ∷ node 1 0 2 0 3 0 ∷ node 3 0 2 4 2 0 ∷ node 16 0 0 0 0 0 ∷ node 3 0 2 5 6 0 ∷ node 16 0 0 0 0 0 ∷ node 3 0 2 8 7 0 ∷ node 16 1 0 0 0 0 ∷ node 17 256 0 0 0 0 ∷ node 3 0 2 10 9 0 ∷ node 25 0 0 0 0 0 ∷ node 3 0 2 11 13 0 ∷ node 16 0 0 0 0 0 ∷ node 4 0 3 15 12 14 ∷ node 17 0 0 0 0 0 ∷ [])
    (root 16 ∷ root 17 ∷ [])
    (10 ∷ 14 ∷ 0 ∷ 4 ∷ 0 ∷ 0 ∷ 0 ∷ 2 ∷ 0 ∷ 3 ∷ 0 ∷ 3 ∷ 0 ∷ 2 ∷ 0 ∷ 0 ∷ 0 ∷ 0 ∷ 0 ∷ 0 ∷ 0 ∷ 2 ∷ 0 ∷ 2 ∷ 0 ∷ 2 ∷ 0 ∷ 0 ∷ 0 ∷ 1 ∷ 0 ∷ 1 ∷ 0 ∷ 5 ∷ 0 ∷ 8 ∷ 0 ∷ 5 ∷ 0 ∷ 1 ∷ 0 ∷ 1 ∷ [])
    query_dims
    (lists' 0 ([]) ([]) ([]))
    (no_more 3) ∷
    -- random-1-173-any-walk-plan-refused
    walk_vector
    (node 16 1 0 0 0 0 ∷ node 20 0 0 0 0 0 ∷ node 17 0 0 0 0 0 ∷ node 3 0 2 1 0 0 ∷ node 3 0 2 2 3 0 ∷ node 16 1 0 0 0 0 ∷ node 16 1 0 0 0 0 ∷ node 4 0 3 6 4 5 ∷ node 18 0 0 0 0 0 ∷ [])
    (root 7 ∷ [])
    (1 ∷ 1 ∷ 0 ∷ 3 ∷ 0 ∷ 0 ∷ 0 ∷ 0 ∷ 0 ∷ 1 ∷ 0 ∷ 2 ∷ 0 ∷ 0 ∷ 0 ∷ 0 ∷ 0 ∷ 0 ∷ 0 ∷ 0 ∷ 0 ∷ 0 ∷ 0 ∷ 0 ∷ 0 ∷ 0 ∷ [])
    query_dims
    (lists' 0 ([]) ([]) ([]))
    (no_more 11) ∷
    -- random-1-174-fix_dims-n-generated
    walk_vector
    (node 16 1 0 0 0 0 ∷ node 16 0 0 0 0 0 ∷ node 1 0 2 1 0 0 ∷ node 20 0 0 0 0 0 ∷ node 1 0 2 2 3 0 ∷ node 17 0 0 0 0 0 ∷ node 24 0 0 0 0 0 ∷ node 18 2 0 0 0 0 ∷ node 24 0 0 0 0 0 ∷ node 18 1 0 0 0 0 ∷ node 2 0 2 9 6 0 ∷ node 6 0 1 4 0 0 ∷ node 18 4 0 0 0 0 ∷ node 17 0 0 0 0 0 ∷ node 17 1 0 0 0 0 ∷ node 2 0 2 8 14 0 ∷ node 18 4 0 0 0 0 ∷ node 3 0 2 13 15 0 ∷ node 17 1 0 0 0 0 ∷ node 17 0 0 0 0 0 ∷ node 2 0 2 17 7 0 ∷ node 3 0 2 12 19 0 ∷ node 2 0 2 21 16 0 ∷ node 2 0 2 18 22 0 ∷ [])
    (root 5 ∷ root 20 ∷ root 23 ∷ root 10 ∷ root 11 ∷ [])
    (1 ∷ 1 ∷ 0 ∷ 2 ∷ 0 ∷ 0 ∷ 0 ∷ 0 ∷ 0 ∷ 3 ∷ 0 ∷ 3 ∷ 0 ∷ 0 ∷ 0 ∷ 0 ∷ 0 ∷ 0 ∷ 0 ∷ 0 ∷ 0 ∷ 0 ∷ 0 ∷ 0 ∷ 0 ∷ 0 ∷ [])
    fix_dims_n
    (lists' 6 (step 1 2 (ref 32 0 0 0 0 0 0) (ref 16 0 0 0 0 0 0) (ref 16 1 1 0 0 0 0) blank ∷ step 1 2 (ref 32 0 1 0 0 0 0) (ref 32 0 0 0 0 0 0) (ref 20 0 0 0 0 0 0) blank ∷ step 3 2 (ref 18 0 4 0 0 0 0) (ref 32 0 1 0 0 0 0) (ref 20 0 0 0 0 0 0) blank ∷ step 8 1 (ref 19 0 3 0 0 0 0) (ref 18 0 4 0 0 0 0) blank blank ∷ step 3 2 (ref 32 0 2 0 0 0 0) (ref 18 0 4 0 0 0 0) (ref 17 0 0 0 0 0 0) blank ∷ step 2 2 (ref 32 0 3 0 0 0 0) (ref 32 0 2 0 0 0 0) (ref 18 0 4 0 0 0 0) blank ∷ step 2 2 (ref 18 0 2 0 0 0 0) (ref 17 0 1 0 0 0 0) (ref 32 0 3 0 0 0 0) blank ∷ step 2 2 (ref 32 0 4 0 0 0 0) (ref 24 0 0 0 0 0 0) (ref 17 0 1 0 0 0 0) blank ∷ step 3 2 (ref 32 0 5 0 0 0 0) (ref 17 0 0 0 0 0 0) (ref 32 0 4 0 0 0 0) blank ∷ step 2 2 (ref 18 0 1 0 0 0 0) (ref 32 0 5 0 0 0 0) (ref 18 0 2 0 0 0 0) blank ∷ []) (step 1 2 (ref 32 0 0 0 0 0 0) (ref 16 0 0 0 0 0 0) (ref 16 1 1 0 0 0 0) blank ∷ step 1 2 (ref 32 0 1 0 0 0 0) (ref 32 0 0 0 0 0 0) (ref 20 0 0 0 0 0 0) blank ∷ step 3 2 (ref 18 0 4 0 0 0 0) (ref 32 0 1 0 0 0 0) (ref 20 0 0 0 0 0 0) blank ∷ step 8 1 (ref 19 0 3 0 0 0 0) (ref 18 0 4 0 0 0 0) blank blank ∷ step 3 2 (ref 32 0 2 0 0 0 0) (ref 18 0 4 0 0 0 0) (ref 17 0 0 0 0 0 0) blank ∷ step 2 2 (ref 32 0 3 0 0 0 0) (ref 32 0 2 0 0 0 0) (ref 18 0 4 0 0 0 0) blank ∷ step 2 2 (ref 18 0 2 0 0 0 0) (ref 17 0 1 0 0 0 0) (ref 32 0 3 0 0 0 0) blank ∷ step 2 2 (ref 32 0 4 0 0 0 0) (ref 24 0 0 0 0 0 0) (ref 17 0 1 0 0 0 0) blank ∷ step 3 2 (ref 32 0 5 0 0 0 0) (ref 17 0 0 0 0 0 0) (ref 32 0 4 0 0 0 0) blank ∷ step 2 2 (ref 18 0 1 0 0 0 0) (ref 32 0 5 0 0 0 0) (ref 18 0 2 0 0 0 0) blank ∷ []) (step 1 2 (ref 32 0 0 0 0 0 0) (ref 16 0 0 0 0 0 0) (ref 16 1 1 0 0 0 0) blank ∷ step 1 2 (ref 32 0 1 0 0 0 0) (ref 32 0 0 0 0 0 0) (ref 20 0 0 0 0 0 0) blank ∷ step 3 2 (ref 18 0 4 0 0 0 0) (ref 32 0 1 0 0 0 0) (ref 20 0 0 0 0 0 0) blank ∷ step 8 1 (ref 19 0 3 0 0 0 0) (ref 18 0 4 0 0 0 0) blank blank ∷ step 3 2 (ref 32 0 2 0 0 0 0) (ref 18 0 4 0 0 0 0) (ref 17 0 0 0 0 0 0) blank ∷ step 2 2 (ref 32 0 3 0 0 0 0) (ref 32 0 2 0 0 0 0) (ref 18 0 4 0 0 0 0) blank ∷ step 2 2 (ref 18 0 2 0 0 0 0) (ref 17 0 1 0 0 0 0) (ref 32 0 3 0 0 0 0) blank ∷ step 2 2 (ref 32 0 4 0 0 0 0) (ref 24 0 0 0 0 0 0) (ref 17 0 1 0 0 0 0) blank ∷ step 3 2 (ref 32 0 5 0 0 0 0) (ref 17 0 0 0 0 0 0) (ref 32 0 4 0 0 0 0) blank ∷ step 2 2 (ref 18 0 1 0 0 0 0) (ref 32 0 5 0 0 0 0) (ref 18 0 2 0 0 0 0) blank ∷ []))
    (becomes (lists' 9 (step 1 2 (ref 32 0 0 1 0 0 0) (ref 16 0 0 1 0 0 0) (ref 16 1 1 1 2 0 0) blank ∷ step 1 2 (ref 32 0 1 1 0 0 0) (ref 32 0 0 1 0 0 0) (ref 20 0 0 1 0 0 0) blank ∷ step 3 2 (ref 32 0 6 1 0 0 4) (ref 32 0 1 1 0 0 0) (ref 20 0 0 1 0 0 0) blank ∷ step 8 1 (ref 19 0 3 1 0 0 0) (ref 32 0 6 1 0 0 4) blank blank ∷ step 3 2 (ref 32 0 2 1 0 0 0) (ref 32 0 6 1 0 0 4) (ref 17 0 0 1 0 0 0) blank ∷ step 2 2 (ref 32 0 3 1 0 0 0) (ref 32 0 2 1 0 0 0) (ref 32 0 6 1 0 0 4) blank ∷ step 2 2 (ref 32 0 7 1 0 0 2) (ref 17 0 1 1 0 0 0) (ref 32 0 3 1 0 0 0) blank ∷ step 2 2 (ref 32 0 4 1 0 0 0) (ref 24 0 0 1 0 0 0) (ref 17 0 1 1 0 0 0) blank ∷ step 3 2 (ref 32 0 5 1 0 0 0) (ref 17 0 0 1 0 0 0) (ref 32 0 4 1 0 0 0) blank ∷ step 2 2 (ref 32 0 8 1 0 0 1) (ref 32 0 5 1 0 0 0) (ref 32 0 7 1 0 0 2) blank ∷ []) (step 1 2 (ref 32 0 0 1 0 0 0) (ref 16 0 0 1 0 0 0) (ref 16 1 1 1 2 0 0) blank ∷ step 1 2 (ref 32 0 1 1 0 0 0) (ref 32 0 0 1 0 0 0) (ref 20 0 0 1 0 0 0) blank ∷ step 3 2 (ref 32 0 6 1 0 0 4) (ref 32 0 1 1 0 0 0) (ref 20 0 0 1 0 0 0) blank ∷ step 8 1 (ref 19 0 3 1 0 0 0) (ref 32 0 6 1 0 0 4) blank blank ∷ step 3 2 (ref 32 0 2 1 0 0 0) (ref 32 0 6 1 0 0 4) (ref 17 0 0 1 0 0 0) blank ∷ step 2 2 (ref 32 0 3 1 0 0 0) (ref 32 0 2 1 0 0 0) (ref 32 0 6 1 0 0 4) blank ∷ step 2 2 (ref 32 0 7 1 0 0 2) (ref 17 0 1 1 0 0 0) (ref 32 0 3 1 0 0 0) blank ∷ step 2 2 (ref 32 0 4 1 0 0 0) (ref 24 0 0 1 0 0 0) (ref 17 0 1 1 0 0 0) blank ∷ step 3 2 (ref 32 0 5 1 0 0 0) (ref 17 0 0 1 0 0 0) (ref 32 0 4 1 0 0 0) blank ∷ step 2 2 (ref 32 0 8 1 0 0 1) (ref 32 0 5 1 0 0 0) (ref 32 0 7 1 0 0 2) blank ∷ []) (step 1 2 (ref 32 0 0 1 0 0 0) (ref 16 0 0 1 0 0 0) (ref 16 1 1 1 2 0 0) blank ∷ step 1 2 (ref 32 0 1 1 0 0 0) (ref 32 0 0 1 0 0 0) (ref 20 0 0 1 0 0 0) blank ∷ step 3 2 (ref 32 0 6 1 0 0 4) (ref 32 0 1 1 0 0 0) (ref 20 0 0 1 0 0 0) blank ∷ step 8 1 (ref 19 0 3 1 0 0 0) (ref 32 0 6 1 0 0 4) blank blank ∷ step 3 2 (ref 32 0 2 1 0 0 0) (ref 32 0 6 1 0 0 4) (ref 17 0 0 1 0 0 0) blank ∷ step 2 2 (ref 32 0 3 1 0 0 0) (ref 32 0 2 1 0 0 0) (ref 32 0 6 1 0 0 4) blank ∷ step 2 2 (ref 32 0 7 1 0 0 2) (ref 17 0 1 1 0 0 0) (ref 32 0 3 1 0 0 0) blank ∷ step 2 2 (ref 32 0 4 1 0 0 0) (ref 24 0 0 1 0 0 0) (ref 17 0 1 1 0 0 0) blank ∷ step 3 2 (ref 32 0 5 1 0 0 0) (ref 17 0 0 1 0 0 0) (ref 32 0 4 1 0 0 0) blank ∷ step 2 2 (ref 32 0 8 1 0 0 1) (ref 32 0 5 1 0 0 0) (ref 32 0 7 1 0 0 2) blank ∷ []))) ∷
    -- random-1-177-any-walk-plan-refused
    walk_vector
    (node 22 0 0 0 0 0 ∷ node 16 0 0 0 0 0 ∷ node 2 0 3 1 0 1 ∷ node 16 0 0 0 0 0 ∷ node 18 65535 0 0 0 0 ∷ node 16 0 0 0 0 0 ∷ node 2 0 2 3 4 0 ∷ node 1 0 2 5 6 0 ∷ node 3 0 2 2 7 0 ∷ [])
    (root 8 ∷ [])
    (3 ∷ 7 ∷ 0 ∷ 1 ∷ 0 ∷ 6 ∷ 0 ∷ 9 ∷ 0 ∷ 2 ∷ 0 ∷ 2 ∷ 0 ∷ 0 ∷ 0 ∷ 3 ∷ 0 ∷ 3 ∷ 0 ∷ 3 ∷ 0 ∷ 0 ∷ 0 ∷ 3 ∷ 0 ∷ 1 ∷ 0 ∷ 0 ∷ 0 ∷ 0 ∷ 0 ∷ 0 ∷ 0 ∷ 0 ∷ 0 ∷ 0 ∷ 0 ∷ 0 ∷ 0 ∷ 0 ∷ 0 ∷ 0 ∷ 0 ∷ 0 ∷ 0 ∷ 0 ∷ 0 ∷ 0 ∷ 0 ∷ 0 ∷ 0 ∷ 0 ∷ 0 ∷ 0 ∷ 0 ∷ 0 ∷ 0 ∷ 0 ∷ 0 ∷ 0 ∷ 0 ∷ 0 ∷ 0 ∷ 0 ∷ 0 ∷ 0 ∷ 0 ∷ 0 ∷ 0 ∷ 0 ∷ 0 ∷ 0 ∷ 0 ∷ 0 ∷ 0 ∷ 38 ∷ 0 ∷ 38 ∷ 0 ∷ 38 ∷ 0 ∷ 0 ∷ [])
    fix_dims_n
    (lists' 0 ([]) ([]) ([]))
    (no_more 2) ∷
    []

-- THE DEFINITIONS GIVE THE ORIGINAL'S ANSWERS
pub all-agree : agree_walked vectors ≡ true
unfolding first u16_at child_count within tree shape exp_dim number_at is_plan plan.lookups plan.products among is_im adding fits names_there bits_good counts_agree column cm1s lookups products intermediates quotient_dim quotients mapped some_none placed position_of first_width whole_width third_width vectors is_reference is_leaf is_step sources_needed runs used_by record_by lists.mapped walked used_verdict record_verdict rule_kind rule_id rule_dim rule_for ruled_reference meet_reference meet_used meet_record meet_records fix_reference tree_for tree_kind tree_position tree_dim has_tree treed_reference tree_reference rule_no is_destination through source_dim source_dims largest step_with noted passed
all-agree = refl
