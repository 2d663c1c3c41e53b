-- The 109 vectors of walks, made by tools/plans_to_antt.py.
-- Assumes nothing.
use Rattle.std.specs.Prelude.{◌≡◌, refl, true, List, [], ◌∷◌}
use Rattle.frames.specs.Tables.{first}
use Rattle.kinds.specs.BigEndian.{u16_at}
use Rattle.kinds.specs.Kinds.{child_count}
use Rattle.kinds.specs.Range.{within}
use Rattle.pool.specs.Trees.{tree}
use Rattle.pool.specs.Admission.{shape}
use Rattle.exp_dims.specs.Dimension.{exp_dim}
use Rattle.plans.specs.Plan.{number_at, is_plan}
use Rattle.plans.specs.Columns as plan
use Rattle.plans.specs.Columns.{among, is_im, adding, fits}
use Rattle.plans.specs.Agreement.{names_there, bits_good, counts_agree}
use Rattle.map_records.specs.Mapping.{column, cm1s, lookups, products, intermediates, quotient_dim, quotients, mapped, some_none}
use Rattle.sections.specs.Sections.{placed, position_of, first_width, whole_width, third_width}
use Rattle.kinds.specs.Kinds.{is_reference, is_leaf}
use Rattle.kinds.specs.StepOps.{is_step, sources_needed}
use Rattle.lent_lists.specs.Records as lists
use Rattle.lent_lists.specs.Records.{runs, used_by, record_by}
use Rattle.lent_lists.specs.Walks.{walked, used_verdict, record_verdict}
use Rattle.fixing.specs.ProverCode.{rule_kind, rule_id, rule_dim, rule_for, ruled_reference, meet_reference, meet_used, meet_record, meet_records, fix_reference}
use Rattle.query_fixing.specs.QueryCode.{tree_for, tree_kind, tree_position, tree_dim, has_tree, treed_reference, tree_reference}
use Rattle.step_dimensions.specs.Rules.{rule_no, is_destination}
use Rattle.step_dimensions.specs.StepDimensions.{through, source_dim, source_dims, largest, step_with, noted}
use Rattle.dimensions.specs.Dimensions.{passed}
use Rattle.replay_plans.specs.Replay.{node, root}
use Rattle.replay_plans.specs.Walks.{WalkVector, walk_vector, lists', ref, step, blank, dims, dims_first, no_more, becomes, agree_walked}

unfoldable pub vectors : List WalkVector
vectors =
    -- m04-q-of-records
    walk_vector
    (node 16 0 0 0 0 0 ∷ node 16 1 0 0 0 0 ∷ node 3 0 2 0 1 0 ∷ node 22 0 0 0 0 0 ∷ node 16 2 0 0 0 0 ∷ node 16 3 0 0 0 0 ∷ [])
    (root 2 ∷ root 3 ∷ root 4 ∷ root 5 ∷ [])
    (3 ∷ 4 ∷ 0 ∷ 2 ∷ 0 ∷ 2 ∷ 0 ∷ 1 ∷ 0 ∷ 1 ∷ 0 ∷ 1 ∷ 0 ∷ 0 ∷ 0 ∷ 1 ∷ 0 ∷ 0 ∷ 0 ∷ 0 ∷ 0 ∷ 0 ∷ 0 ∷ 3 ∷ 0 ∷ 0 ∷ 0 ∷ 0 ∷ 0 ∷ 1 ∷ 0 ∷ 0 ∷ 0 ∷ 1 ∷ 0 ∷ 0 ∷ 0 ∷ 4 ∷ 0 ∷ 14 ∷ [])
    dims
    (lists' 0 (step 8 1 (ref 32 0 0 0 0 0 0) (ref 19 0 0 0 0 0 0) blank blank ∷ []) (step 8 1 (ref 32 0 1 0 0 0 0) (ref 19 0 1 0 0 0 0) blank blank ∷ []) (step 8 1 (ref 32 0 2 0 0 0 0) (ref 19 1 2 0 0 0 0) blank blank ∷ []))
    (becomes (lists' 0 (step 8 1 (ref 32 0 0 1 0 0 0) (ref 19 0 0 1 0 0 0) blank blank ∷ []) (step 8 1 (ref 32 0 1 3 0 0 0) (ref 19 0 1 3 0 0 0) blank blank ∷ []) (step 8 1 (ref 32 0 2 1 0 0 0) (ref 19 1 2 1 0 0 0) blank blank ∷ []))) ∷
    -- m04-beyond-the-records
    walk_vector
    (node 16 0 0 0 0 0 ∷ node 16 1 0 0 0 0 ∷ node 3 0 2 0 1 0 ∷ node 22 0 0 0 0 0 ∷ node 16 2 0 0 0 0 ∷ node 16 3 0 0 0 0 ∷ [])
    (root 2 ∷ root 3 ∷ root 4 ∷ root 5 ∷ [])
    (3 ∷ 4 ∷ 0 ∷ 2 ∷ 0 ∷ 2 ∷ 0 ∷ 1 ∷ 0 ∷ 1 ∷ 0 ∷ 1 ∷ 0 ∷ 0 ∷ 0 ∷ 1 ∷ 0 ∷ 0 ∷ 0 ∷ 0 ∷ 0 ∷ 0 ∷ 0 ∷ 3 ∷ 0 ∷ 0 ∷ 0 ∷ 0 ∷ 0 ∷ 1 ∷ 0 ∷ 0 ∷ 0 ∷ 1 ∷ 0 ∷ 0 ∷ 0 ∷ 4 ∷ 0 ∷ 16 ∷ [])
    dims
    (lists' 0 (step 8 1 (ref 32 0 0 0 0 0 0) (ref 19 0 0 0 0 0 0) blank blank ∷ []) (step 8 1 (ref 32 0 1 0 0 0 0) (ref 19 0 1 0 0 0 0) blank blank ∷ []) (step 8 1 (ref 32 0 2 0 0 0 0) (ref 19 1 2 0 0 0 0) blank blank ∷ []))
    (no_more 3) ∷
    -- m04-beyond-qs
    walk_vector
    (node 16 0 0 0 0 0 ∷ node 16 1 0 0 0 0 ∷ node 3 0 2 0 1 0 ∷ node 22 0 0 0 0 0 ∷ node 16 2 0 0 0 0 ∷ node 16 3 0 0 0 0 ∷ [])
    (root 2 ∷ root 3 ∷ root 4 ∷ root 5 ∷ [])
    (3 ∷ 4 ∷ 0 ∷ 2 ∷ 0 ∷ 2 ∷ 0 ∷ 1 ∷ 0 ∷ 1 ∷ 0 ∷ 1 ∷ 0 ∷ 0 ∷ 0 ∷ 1 ∷ 0 ∷ 0 ∷ 0 ∷ 0 ∷ 0 ∷ 0 ∷ 0 ∷ 2 ∷ 0 ∷ 0 ∷ 0 ∷ 0 ∷ 0 ∷ 1 ∷ 0 ∷ 0 ∷ 0 ∷ 1 ∷ 0 ∷ 0 ∷ 0 ∷ 4 ∷ [])
    dims
    (lists' 0 (step 8 1 (ref 32 0 0 0 0 0 0) (ref 19 0 0 0 0 0 0) blank blank ∷ []) (step 8 1 (ref 32 0 1 0 0 0 0) (ref 19 0 1 0 0 0 0) blank blank ∷ []) (step 8 1 (ref 32 0 2 0 0 0 0) (ref 19 1 2 0 0 0 0) blank blank ∷ []))
    (no_more 3) ∷
    -- m05-list
    walk_vector
    (node 19 0 0 0 0 0 ∷ node 16 0 0 0 0 0 ∷ [])
    (root 0 ∷ root 1 ∷ [])
    (3 ∷ 4 ∷ 0 ∷ 1 ∷ 0 ∷ 0 ∷ 0 ∷ 0 ∷ 0 ∷ 0 ∷ 0 ∷ 0 ∷ 0 ∷ 0 ∷ 0 ∷ 0 ∷ 0 ∷ 0 ∷ 0 ∷ 0 ∷ 0 ∷ 0 ∷ 0 ∷ 1 ∷ 0 ∷ 1 ∷ 0 ∷ 0 ∷ 0 ∷ 1 ∷ [])
    dims
    (lists' 0 (step 8 1 (ref 32 0 0 0 0 0 0) (ref 19 0 0 0 0 0 0) blank blank ∷ []) ([]) ([]))
    (becomes (lists' 0 (step 8 1 (ref 32 0 0 1 0 0 0) (ref 19 0 0 1 0 0 0) blank blank ∷ []) ([]) ([]))) ∷
    -- m05-list-not-there
    walk_vector
    (node 19 0 0 0 0 0 ∷ node 16 0 0 0 0 0 ∷ [])
    (root 0 ∷ root 1 ∷ [])
    (3 ∷ 4 ∷ 0 ∷ 1 ∷ 0 ∷ 0 ∷ 0 ∷ 0 ∷ 0 ∷ 0 ∷ 0 ∷ 0 ∷ 0 ∷ 0 ∷ 0 ∷ 0 ∷ 0 ∷ 0 ∷ 0 ∷ 0 ∷ 0 ∷ 0 ∷ 0 ∷ 0 ∷ 0 ∷ 1 ∷ 0 ∷ 1 ∷ [])
    dims
    (lists' 0 (step 8 1 (ref 32 0 0 0 0 0 0) (ref 19 0 0 0 0 0 0) blank blank ∷ []) ([]) ([]))
    (no_more 3) ∷
    -- m09-written-in-first
    walk_vector
    (node 16 0 0 0 0 0 ∷ node 16 1 0 0 0 0 ∷ node 3 0 2 0 1 0 ∷ node 22 0 0 0 0 0 ∷ [])
    (root 2 ∷ root 3 ∷ [])
    (3 ∷ 4 ∷ 0 ∷ 2 ∷ 0 ∷ 0 ∷ 0 ∷ 0 ∷ 0 ∷ 0 ∷ 0 ∷ 0 ∷ 0 ∷ 0 ∷ 0 ∷ 0 ∷ 0 ∷ 0 ∷ 0 ∷ 0 ∷ 0 ∷ 0 ∷ 0 ∷ 0 ∷ 0 ∷ 0 ∷ [])
    dims
    (lists' 0 (step 8 1 (ref 32 0 0 0 0 0 0) (ref 16 0 0 0 0 0 0) blank blank ∷ []) ([]) (step 8 1 (ref 32 0 1 0 0 0 0) (ref 32 0 0 0 0 0 0) blank blank ∷ []))
    (becomes (lists' 0 (step 8 1 (ref 32 0 0 1 0 0 0) (ref 16 0 0 1 0 0 0) blank blank ∷ []) ([]) (step 8 1 (ref 32 0 1 1 0 0 0) (ref 32 0 0 1 0 0 0) blank blank ∷ []))) ∷
    -- m09-written-later
    walk_vector
    (node 16 0 0 0 0 0 ∷ node 16 1 0 0 0 0 ∷ node 3 0 2 0 1 0 ∷ node 22 0 0 0 0 0 ∷ [])
    (root 2 ∷ root 3 ∷ [])
    (3 ∷ 4 ∷ 0 ∷ 2 ∷ 0 ∷ 0 ∷ 0 ∷ 0 ∷ 0 ∷ 0 ∷ 0 ∷ 0 ∷ 0 ∷ 0 ∷ 0 ∷ 0 ∷ 0 ∷ 0 ∷ 0 ∷ 0 ∷ 0 ∷ 0 ∷ 0 ∷ 0 ∷ 0 ∷ 0 ∷ [])
    dims
    (lists' 0 (step 8 1 (ref 32 0 1 0 0 0 0) (ref 32 0 0 0 0 0 0) blank blank ∷ []) ([]) (step 8 1 (ref 32 0 0 0 0 0 0) (ref 16 0 0 0 0 0 0) blank blank ∷ []))
    (no_more 10) ∷
    -- m09-written-anew
    walk_vector
    (node 16 0 0 0 0 0 ∷ node 16 1 0 0 0 0 ∷ node 3 0 2 0 1 0 ∷ node 22 0 0 0 0 0 ∷ [])
    (root 2 ∷ root 3 ∷ [])
    (3 ∷ 4 ∷ 0 ∷ 2 ∷ 0 ∷ 0 ∷ 0 ∷ 0 ∷ 0 ∷ 0 ∷ 0 ∷ 0 ∷ 0 ∷ 0 ∷ 0 ∷ 0 ∷ 0 ∷ 0 ∷ 0 ∷ 0 ∷ 0 ∷ 0 ∷ 0 ∷ 0 ∷ 0 ∷ 0 ∷ [])
    dims
    (lists' 0 (step 8 1 (ref 32 0 0 0 0 0 0) (ref 16 0 0 0 0 0 0) blank blank ∷ []) (step 8 1 (ref 32 0 0 0 0 0 0) (ref 22 0 0 0 0 0 0) blank blank ∷ []) (step 8 1 (ref 32 0 1 0 0 0 0) (ref 32 0 0 0 0 0 0) blank blank ∷ []))
    (becomes (lists' 0 (step 8 1 (ref 32 0 0 1 0 0 0) (ref 16 0 0 1 0 0 0) blank blank ∷ []) (step 8 1 (ref 32 0 0 3 0 0 0) (ref 22 0 0 3 0 0 0) blank blank ∷ []) (step 8 1 (ref 32 0 1 3 0 0 0) (ref 32 0 0 3 0 0 0) blank blank ∷ []))) ∷
    -- m10-dims-source-cm
    walk_vector
    (node 16 0 0 0 0 0 ∷ node 16 1 0 0 0 0 ∷ node 3 0 2 0 1 0 ∷ node 22 0 0 0 0 0 ∷ [])
    (root 2 ∷ root 3 ∷ [])
    (3 ∷ 4 ∷ 0 ∷ 2 ∷ 0 ∷ 0 ∷ 0 ∷ 0 ∷ 0 ∷ 0 ∷ 0 ∷ 0 ∷ 0 ∷ 0 ∷ 0 ∷ 0 ∷ 0 ∷ 0 ∷ 0 ∷ 0 ∷ 0 ∷ 0 ∷ 0 ∷ 1 ∷ 0 ∷ 0 ∷ 0 ∷ 0 ∷ [])
    dims
    (lists' 0 (step 1 2 (ref 33 0 0 0 0 0 0) (ref 16 0 0 0 0 0 0) (ref 16 0 0 2 0 0 0) blank ∷ []) ([]) ([]))
    (becomes (lists' 0 (step 1 2 (ref 33 0 0 1 0 0 0) (ref 16 0 0 1 0 0 0) (ref 16 0 0 1 0 0 0) blank ∷ []) ([]) ([]))) ∷
    -- m10-dims-destination-cm
    walk_vector
    (node 16 0 0 0 0 0 ∷ node 16 1 0 0 0 0 ∷ node 3 0 2 0 1 0 ∷ node 22 0 0 0 0 0 ∷ [])
    (root 2 ∷ root 3 ∷ [])
    (3 ∷ 4 ∷ 0 ∷ 2 ∷ 0 ∷ 0 ∷ 0 ∷ 0 ∷ 0 ∷ 0 ∷ 0 ∷ 0 ∷ 0 ∷ 0 ∷ 0 ∷ 0 ∷ 0 ∷ 0 ∷ 0 ∷ 0 ∷ 0 ∷ 0 ∷ 0 ∷ 1 ∷ 0 ∷ 0 ∷ 0 ∷ 0 ∷ [])
    dims
    (lists' 0 (step 1 2 (ref 16 0 0 2 0 0 0) (ref 16 0 0 0 0 0 0) (ref 17 0 0 0 0 0 0) blank ∷ []) ([]) ([]))
    (becomes (lists' 0 (step 1 2 (ref 16 0 0 1 0 0 0) (ref 16 0 0 1 0 0 0) (ref 17 0 0 1 0 0 0) blank ∷ []) ([]) ([]))) ∷
    -- m10-dims-source-const
    walk_vector
    (node 16 0 0 0 0 0 ∷ node 16 1 0 0 0 0 ∷ node 3 0 2 0 1 0 ∷ node 22 0 0 0 0 0 ∷ [])
    (root 2 ∷ root 3 ∷ [])
    (3 ∷ 4 ∷ 0 ∷ 2 ∷ 0 ∷ 0 ∷ 0 ∷ 0 ∷ 0 ∷ 0 ∷ 0 ∷ 0 ∷ 0 ∷ 0 ∷ 0 ∷ 0 ∷ 0 ∷ 0 ∷ 0 ∷ 0 ∷ 0 ∷ 0 ∷ 0 ∷ 1 ∷ 0 ∷ 0 ∷ 0 ∷ 0 ∷ [])
    dims
    (lists' 0 (step 1 2 (ref 33 0 0 0 0 0 0) (ref 16 0 0 0 0 0 0) (ref 17 0 0 2 0 0 0) blank ∷ []) ([]) ([]))
    (becomes (lists' 0 (step 1 2 (ref 33 0 0 1 0 0 0) (ref 16 0 0 1 0 0 0) (ref 17 0 0 1 0 0 0) blank ∷ []) ([]) ([]))) ∷
    -- m10-dims-destination-const
    walk_vector
    (node 16 0 0 0 0 0 ∷ node 16 1 0 0 0 0 ∷ node 3 0 2 0 1 0 ∷ node 22 0 0 0 0 0 ∷ [])
    (root 2 ∷ root 3 ∷ [])
    (3 ∷ 4 ∷ 0 ∷ 2 ∷ 0 ∷ 0 ∷ 0 ∷ 0 ∷ 0 ∷ 0 ∷ 0 ∷ 0 ∷ 0 ∷ 0 ∷ 0 ∷ 0 ∷ 0 ∷ 0 ∷ 0 ∷ 0 ∷ 0 ∷ 0 ∷ 0 ∷ 1 ∷ 0 ∷ 0 ∷ 0 ∷ 0 ∷ [])
    dims
    (lists' 0 (step 1 2 (ref 17 0 0 2 0 0 0) (ref 16 0 0 0 0 0 0) (ref 17 0 0 0 0 0 0) blank ∷ []) ([]) ([]))
    (no_more 10) ∷
    -- m10-dims-source-exp
    walk_vector
    (node 16 0 0 0 0 0 ∷ node 16 1 0 0 0 0 ∷ node 3 0 2 0 1 0 ∷ node 22 0 0 0 0 0 ∷ [])
    (root 2 ∷ root 3 ∷ [])
    (3 ∷ 4 ∷ 0 ∷ 2 ∷ 0 ∷ 0 ∷ 0 ∷ 0 ∷ 0 ∷ 0 ∷ 0 ∷ 0 ∷ 0 ∷ 0 ∷ 0 ∷ 0 ∷ 0 ∷ 0 ∷ 0 ∷ 0 ∷ 0 ∷ 0 ∷ 0 ∷ 1 ∷ 0 ∷ 0 ∷ 0 ∷ 0 ∷ [])
    dims
    (lists' 0 (step 1 2 (ref 33 0 0 0 0 0 0) (ref 16 0 0 0 0 0 0) (ref 18 0 0 2 0 0 0) blank ∷ []) ([]) ([]))
    (no_more 10) ∷
    -- m10-dims-destination-exp
    walk_vector
    (node 16 0 0 0 0 0 ∷ node 16 1 0 0 0 0 ∷ node 3 0 2 0 1 0 ∷ node 22 0 0 0 0 0 ∷ [])
    (root 2 ∷ root 3 ∷ [])
    (3 ∷ 4 ∷ 0 ∷ 2 ∷ 0 ∷ 0 ∷ 0 ∷ 0 ∷ 0 ∷ 0 ∷ 0 ∷ 0 ∷ 0 ∷ 0 ∷ 0 ∷ 0 ∷ 0 ∷ 0 ∷ 0 ∷ 0 ∷ 0 ∷ 0 ∷ 0 ∷ 1 ∷ 0 ∷ 0 ∷ 0 ∷ 0 ∷ [])
    dims
    (lists' 0 (step 1 2 (ref 18 0 0 2 0 0 0) (ref 16 0 0 0 0 0 0) (ref 17 0 0 0 0 0 0) blank ∷ []) ([]) ([]))
    (becomes (lists' 0 (step 1 2 (ref 18 0 0 1 0 0 0) (ref 16 0 0 1 0 0 0) (ref 17 0 0 1 0 0 0) blank ∷ []) ([]) ([]))) ∷
    -- m10-dims-source-q
    walk_vector
    (node 16 0 0 0 0 0 ∷ node 16 1 0 0 0 0 ∷ node 3 0 2 0 1 0 ∷ node 22 0 0 0 0 0 ∷ [])
    (root 2 ∷ root 3 ∷ [])
    (3 ∷ 4 ∷ 0 ∷ 2 ∷ 0 ∷ 0 ∷ 0 ∷ 0 ∷ 0 ∷ 0 ∷ 0 ∷ 0 ∷ 0 ∷ 0 ∷ 0 ∷ 0 ∷ 0 ∷ 0 ∷ 0 ∷ 0 ∷ 0 ∷ 0 ∷ 0 ∷ 1 ∷ 0 ∷ 0 ∷ 0 ∷ 0 ∷ [])
    dims
    (lists' 0 (step 1 2 (ref 33 0 0 0 0 0 0) (ref 16 0 0 0 0 0 0) (ref 19 0 0 2 0 0 0) blank ∷ []) ([]) ([]))
    (becomes (lists' 0 (step 1 2 (ref 33 0 0 1 0 0 0) (ref 16 0 0 1 0 0 0) (ref 19 0 0 1 0 0 0) blank ∷ []) ([]) ([]))) ∷
    -- m10-dims-destination-q
    walk_vector
    (node 16 0 0 0 0 0 ∷ node 16 1 0 0 0 0 ∷ node 3 0 2 0 1 0 ∷ node 22 0 0 0 0 0 ∷ [])
    (root 2 ∷ root 3 ∷ [])
    (3 ∷ 4 ∷ 0 ∷ 2 ∷ 0 ∷ 0 ∷ 0 ∷ 0 ∷ 0 ∷ 0 ∷ 0 ∷ 0 ∷ 0 ∷ 0 ∷ 0 ∷ 0 ∷ 0 ∷ 0 ∷ 0 ∷ 0 ∷ 0 ∷ 0 ∷ 0 ∷ 1 ∷ 0 ∷ 0 ∷ 0 ∷ 0 ∷ [])
    dims
    (lists' 0 (step 1 2 (ref 19 0 0 2 0 0 0) (ref 16 0 0 0 0 0 0) (ref 17 0 0 0 0 0 0) blank ∷ []) ([]) ([]))
    (becomes (lists' 0 (step 1 2 (ref 19 0 0 1 0 0 0) (ref 16 0 0 1 0 0 0) (ref 17 0 0 1 0 0 0) blank ∷ []) ([]) ([]))) ∷
    -- m10-dims-source-number
    walk_vector
    (node 16 0 0 0 0 0 ∷ node 16 1 0 0 0 0 ∷ node 3 0 2 0 1 0 ∷ node 22 0 0 0 0 0 ∷ [])
    (root 2 ∷ root 3 ∷ [])
    (3 ∷ 4 ∷ 0 ∷ 2 ∷ 0 ∷ 0 ∷ 0 ∷ 0 ∷ 0 ∷ 0 ∷ 0 ∷ 0 ∷ 0 ∷ 0 ∷ 0 ∷ 0 ∷ 0 ∷ 0 ∷ 0 ∷ 0 ∷ 0 ∷ 0 ∷ 0 ∷ 1 ∷ 0 ∷ 0 ∷ 0 ∷ 0 ∷ [])
    dims
    (lists' 0 (step 1 2 (ref 33 0 0 0 0 0 0) (ref 16 0 0 0 0 0 0) (ref 20 0 0 0 0 0 0) blank ∷ []) ([]) ([]))
    (becomes (lists' 0 (step 1 2 (ref 33 0 0 1 0 0 0) (ref 16 0 0 1 0 0 0) (ref 20 0 0 1 0 0 0) blank ∷ []) ([]) ([]))) ∷
    -- m10-dims-destination-number
    walk_vector
    (node 16 0 0 0 0 0 ∷ node 16 1 0 0 0 0 ∷ node 3 0 2 0 1 0 ∷ node 22 0 0 0 0 0 ∷ [])
    (root 2 ∷ root 3 ∷ [])
    (3 ∷ 4 ∷ 0 ∷ 2 ∷ 0 ∷ 0 ∷ 0 ∷ 0 ∷ 0 ∷ 0 ∷ 0 ∷ 0 ∷ 0 ∷ 0 ∷ 0 ∷ 0 ∷ 0 ∷ 0 ∷ 0 ∷ 0 ∷ 0 ∷ 0 ∷ 0 ∷ 1 ∷ 0 ∷ 0 ∷ 0 ∷ 0 ∷ [])
    dims
    (lists' 0 (step 1 2 (ref 20 0 0 0 0 0 0) (ref 16 0 0 0 0 0 0) (ref 17 0 0 0 0 0 0) blank ∷ []) ([]) ([]))
    (no_more 10) ∷
    -- m10-dims-source-public
    walk_vector
    (node 16 0 0 0 0 0 ∷ node 16 1 0 0 0 0 ∷ node 3 0 2 0 1 0 ∷ node 22 0 0 0 0 0 ∷ [])
    (root 2 ∷ root 3 ∷ [])
    (3 ∷ 4 ∷ 0 ∷ 2 ∷ 0 ∷ 0 ∷ 0 ∷ 0 ∷ 0 ∷ 0 ∷ 0 ∷ 0 ∷ 0 ∷ 0 ∷ 0 ∷ 0 ∷ 0 ∷ 0 ∷ 0 ∷ 0 ∷ 0 ∷ 0 ∷ 0 ∷ 1 ∷ 0 ∷ 0 ∷ 0 ∷ 0 ∷ [])
    dims
    (lists' 0 (step 1 2 (ref 33 0 0 0 0 0 0) (ref 16 0 0 0 0 0 0) (ref 21 0 0 2 0 0 0) blank ∷ []) ([]) ([]))
    (becomes (lists' 0 (step 1 2 (ref 33 0 0 1 0 0 0) (ref 16 0 0 1 0 0 0) (ref 21 0 0 1 0 0 0) blank ∷ []) ([]) ([]))) ∷
    -- m10-dims-destination-public
    walk_vector
    (node 16 0 0 0 0 0 ∷ node 16 1 0 0 0 0 ∷ node 3 0 2 0 1 0 ∷ node 22 0 0 0 0 0 ∷ [])
    (root 2 ∷ root 3 ∷ [])
    (3 ∷ 4 ∷ 0 ∷ 2 ∷ 0 ∷ 0 ∷ 0 ∷ 0 ∷ 0 ∷ 0 ∷ 0 ∷ 0 ∷ 0 ∷ 0 ∷ 0 ∷ 0 ∷ 0 ∷ 0 ∷ 0 ∷ 0 ∷ 0 ∷ 0 ∷ 0 ∷ 1 ∷ 0 ∷ 0 ∷ 0 ∷ 0 ∷ [])
    dims
    (lists' 0 (step 1 2 (ref 21 0 0 2 0 0 0) (ref 16 0 0 0 0 0 0) (ref 17 0 0 0 0 0 0) blank ∷ []) ([]) ([]))
    (no_more 10) ∷
    -- m10-dims-source-challenge
    walk_vector
    (node 16 0 0 0 0 0 ∷ node 16 1 0 0 0 0 ∷ node 3 0 2 0 1 0 ∷ node 22 0 0 0 0 0 ∷ [])
    (root 2 ∷ root 3 ∷ [])
    (3 ∷ 4 ∷ 0 ∷ 2 ∷ 0 ∷ 0 ∷ 0 ∷ 0 ∷ 0 ∷ 0 ∷ 0 ∷ 0 ∷ 0 ∷ 0 ∷ 0 ∷ 0 ∷ 0 ∷ 0 ∷ 0 ∷ 0 ∷ 0 ∷ 0 ∷ 0 ∷ 1 ∷ 0 ∷ 0 ∷ 0 ∷ 0 ∷ [])
    dims
    (lists' 0 (step 1 2 (ref 33 0 0 0 0 0 0) (ref 16 0 0 0 0 0 0) (ref 22 0 0 2 0 0 0) blank ∷ []) ([]) ([]))
    (becomes (lists' 0 (step 1 2 (ref 33 0 0 3 0 0 0) (ref 16 0 0 1 0 0 0) (ref 22 0 0 3 0 0 0) blank ∷ []) ([]) ([]))) ∷
    -- m10-dims-destination-challenge
    walk_vector
    (node 16 0 0 0 0 0 ∷ node 16 1 0 0 0 0 ∷ node 3 0 2 0 1 0 ∷ node 22 0 0 0 0 0 ∷ [])
    (root 2 ∷ root 3 ∷ [])
    (3 ∷ 4 ∷ 0 ∷ 2 ∷ 0 ∷ 0 ∷ 0 ∷ 0 ∷ 0 ∷ 0 ∷ 0 ∷ 0 ∷ 0 ∷ 0 ∷ 0 ∷ 0 ∷ 0 ∷ 0 ∷ 0 ∷ 0 ∷ 0 ∷ 0 ∷ 0 ∷ 1 ∷ 0 ∷ 0 ∷ 0 ∷ 0 ∷ [])
    dims
    (lists' 0 (step 1 2 (ref 22 0 0 2 0 0 0) (ref 16 0 0 0 0 0 0) (ref 17 0 0 0 0 0 0) blank ∷ []) ([]) ([]))
    (no_more 10) ∷
    -- m10-dims-source-eval
    walk_vector
    (node 16 0 0 0 0 0 ∷ node 16 1 0 0 0 0 ∷ node 3 0 2 0 1 0 ∷ node 22 0 0 0 0 0 ∷ [])
    (root 2 ∷ root 3 ∷ [])
    (3 ∷ 4 ∷ 0 ∷ 2 ∷ 0 ∷ 0 ∷ 0 ∷ 0 ∷ 0 ∷ 0 ∷ 0 ∷ 0 ∷ 0 ∷ 0 ∷ 0 ∷ 0 ∷ 0 ∷ 0 ∷ 0 ∷ 0 ∷ 0 ∷ 0 ∷ 0 ∷ 1 ∷ 0 ∷ 0 ∷ 0 ∷ 0 ∷ [])
    dims
    (lists' 0 (step 1 2 (ref 33 0 0 0 0 0 0) (ref 16 0 0 0 0 0 0) (ref 23 0 0 2 0 0 0) blank ∷ []) ([]) ([]))
    (becomes (lists' 0 (step 1 2 (ref 33 0 0 3 0 0 0) (ref 16 0 0 1 0 0 0) (ref 23 0 0 3 0 0 0) blank ∷ []) ([]) ([]))) ∷
    -- m10-dims-destination-eval
    walk_vector
    (node 16 0 0 0 0 0 ∷ node 16 1 0 0 0 0 ∷ node 3 0 2 0 1 0 ∷ node 22 0 0 0 0 0 ∷ [])
    (root 2 ∷ root 3 ∷ [])
    (3 ∷ 4 ∷ 0 ∷ 2 ∷ 0 ∷ 0 ∷ 0 ∷ 0 ∷ 0 ∷ 0 ∷ 0 ∷ 0 ∷ 0 ∷ 0 ∷ 0 ∷ 0 ∷ 0 ∷ 0 ∷ 0 ∷ 0 ∷ 0 ∷ 0 ∷ 0 ∷ 1 ∷ 0 ∷ 0 ∷ 0 ∷ 0 ∷ [])
    dims
    (lists' 0 (step 1 2 (ref 23 0 0 2 0 0 0) (ref 16 0 0 0 0 0 0) (ref 17 0 0 0 0 0 0) blank ∷ []) ([]) ([]))
    (no_more 10) ∷
    -- m10-dims-source-xDivXSubXi
    walk_vector
    (node 16 0 0 0 0 0 ∷ node 16 1 0 0 0 0 ∷ node 3 0 2 0 1 0 ∷ node 22 0 0 0 0 0 ∷ [])
    (root 2 ∷ root 3 ∷ [])
    (3 ∷ 4 ∷ 0 ∷ 2 ∷ 0 ∷ 0 ∷ 0 ∷ 0 ∷ 0 ∷ 0 ∷ 0 ∷ 0 ∷ 0 ∷ 0 ∷ 0 ∷ 0 ∷ 0 ∷ 0 ∷ 0 ∷ 0 ∷ 0 ∷ 0 ∷ 0 ∷ 1 ∷ 0 ∷ 0 ∷ 0 ∷ 0 ∷ [])
    dims
    (lists' 0 (step 1 2 (ref 33 0 0 0 0 0 0) (ref 16 0 0 0 0 0 0) (ref 24 0 0 2 0 0 0) blank ∷ []) ([]) ([]))
    (becomes (lists' 0 (step 1 2 (ref 33 0 0 3 0 0 0) (ref 16 0 0 1 0 0 0) (ref 24 0 0 3 0 0 0) blank ∷ []) ([]) ([]))) ∷
    -- m10-dims-destination-xDivXSubXi
    walk_vector
    (node 16 0 0 0 0 0 ∷ node 16 1 0 0 0 0 ∷ node 3 0 2 0 1 0 ∷ node 22 0 0 0 0 0 ∷ [])
    (root 2 ∷ root 3 ∷ [])
    (3 ∷ 4 ∷ 0 ∷ 2 ∷ 0 ∷ 0 ∷ 0 ∷ 0 ∷ 0 ∷ 0 ∷ 0 ∷ 0 ∷ 0 ∷ 0 ∷ 0 ∷ 0 ∷ 0 ∷ 0 ∷ 0 ∷ 0 ∷ 0 ∷ 0 ∷ 0 ∷ 1 ∷ 0 ∷ 0 ∷ 0 ∷ 0 ∷ [])
    dims
    (lists' 0 (step 1 2 (ref 24 0 0 2 0 0 0) (ref 16 0 0 0 0 0 0) (ref 17 0 0 0 0 0 0) blank ∷ []) ([]) ([]))
    (no_more 10) ∷
    -- m10-dims-source-xDivXSubWXi
    walk_vector
    (node 16 0 0 0 0 0 ∷ node 16 1 0 0 0 0 ∷ node 3 0 2 0 1 0 ∷ node 22 0 0 0 0 0 ∷ [])
    (root 2 ∷ root 3 ∷ [])
    (3 ∷ 4 ∷ 0 ∷ 2 ∷ 0 ∷ 0 ∷ 0 ∷ 0 ∷ 0 ∷ 0 ∷ 0 ∷ 0 ∷ 0 ∷ 0 ∷ 0 ∷ 0 ∷ 0 ∷ 0 ∷ 0 ∷ 0 ∷ 0 ∷ 0 ∷ 0 ∷ 1 ∷ 0 ∷ 0 ∷ 0 ∷ 0 ∷ [])
    dims
    (lists' 0 (step 1 2 (ref 33 0 0 0 0 0 0) (ref 16 0 0 0 0 0 0) (ref 25 0 0 2 0 0 0) blank ∷ []) ([]) ([]))
    (becomes (lists' 0 (step 1 2 (ref 33 0 0 3 0 0 0) (ref 16 0 0 1 0 0 0) (ref 25 0 0 3 0 0 0) blank ∷ []) ([]) ([]))) ∷
    -- m10-dims-destination-xDivXSubWXi
    walk_vector
    (node 16 0 0 0 0 0 ∷ node 16 1 0 0 0 0 ∷ node 3 0 2 0 1 0 ∷ node 22 0 0 0 0 0 ∷ [])
    (root 2 ∷ root 3 ∷ [])
    (3 ∷ 4 ∷ 0 ∷ 2 ∷ 0 ∷ 0 ∷ 0 ∷ 0 ∷ 0 ∷ 0 ∷ 0 ∷ 0 ∷ 0 ∷ 0 ∷ 0 ∷ 0 ∷ 0 ∷ 0 ∷ 0 ∷ 0 ∷ 0 ∷ 0 ∷ 0 ∷ 1 ∷ 0 ∷ 0 ∷ 0 ∷ 0 ∷ [])
    dims
    (lists' 0 (step 1 2 (ref 25 0 0 2 0 0 0) (ref 16 0 0 0 0 0 0) (ref 17 0 0 0 0 0 0) blank ∷ []) ([]) ([]))
    (no_more 10) ∷
    -- m10-dims-source-x
    walk_vector
    (node 16 0 0 0 0 0 ∷ node 16 1 0 0 0 0 ∷ node 3 0 2 0 1 0 ∷ node 22 0 0 0 0 0 ∷ [])
    (root 2 ∷ root 3 ∷ [])
    (3 ∷ 4 ∷ 0 ∷ 2 ∷ 0 ∷ 0 ∷ 0 ∷ 0 ∷ 0 ∷ 0 ∷ 0 ∷ 0 ∷ 0 ∷ 0 ∷ 0 ∷ 0 ∷ 0 ∷ 0 ∷ 0 ∷ 0 ∷ 0 ∷ 0 ∷ 0 ∷ 1 ∷ 0 ∷ 0 ∷ 0 ∷ 0 ∷ [])
    dims
    (lists' 0 (step 1 2 (ref 33 0 0 0 0 0 0) (ref 16 0 0 0 0 0 0) (ref 26 0 0 2 0 0 0) blank ∷ []) ([]) ([]))
    (becomes (lists' 0 (step 1 2 (ref 33 0 0 3 0 0 0) (ref 16 0 0 1 0 0 0) (ref 26 0 0 3 0 0 0) blank ∷ []) ([]) ([]))) ∷
    -- m10-dims-destination-x
    walk_vector
    (node 16 0 0 0 0 0 ∷ node 16 1 0 0 0 0 ∷ node 3 0 2 0 1 0 ∷ node 22 0 0 0 0 0 ∷ [])
    (root 2 ∷ root 3 ∷ [])
    (3 ∷ 4 ∷ 0 ∷ 2 ∷ 0 ∷ 0 ∷ 0 ∷ 0 ∷ 0 ∷ 0 ∷ 0 ∷ 0 ∷ 0 ∷ 0 ∷ 0 ∷ 0 ∷ 0 ∷ 0 ∷ 0 ∷ 0 ∷ 0 ∷ 0 ∷ 0 ∷ 1 ∷ 0 ∷ 0 ∷ 0 ∷ 0 ∷ [])
    dims
    (lists' 0 (step 1 2 (ref 26 0 0 2 0 0 0) (ref 16 0 0 0 0 0 0) (ref 17 0 0 0 0 0 0) blank ∷ []) ([]) ([]))
    (no_more 10) ∷
    -- m10-dims-source-tmp
    walk_vector
    (node 16 0 0 0 0 0 ∷ node 16 1 0 0 0 0 ∷ node 3 0 2 0 1 0 ∷ node 22 0 0 0 0 0 ∷ [])
    (root 2 ∷ root 3 ∷ [])
    (3 ∷ 4 ∷ 0 ∷ 2 ∷ 0 ∷ 0 ∷ 0 ∷ 0 ∷ 0 ∷ 0 ∷ 0 ∷ 0 ∷ 0 ∷ 0 ∷ 0 ∷ 0 ∷ 0 ∷ 0 ∷ 0 ∷ 0 ∷ 0 ∷ 0 ∷ 0 ∷ 1 ∷ 0 ∷ 0 ∷ 0 ∷ 0 ∷ [])
    dims
    (lists' 0 (step 1 2 (ref 33 0 0 0 0 0 0) (ref 16 0 0 0 0 0 0) (ref 32 0 0 2 0 0 0) blank ∷ []) ([]) ([]))
    (no_more 10) ∷
    -- m10-dims-destination-tmp
    walk_vector
    (node 16 0 0 0 0 0 ∷ node 16 1 0 0 0 0 ∷ node 3 0 2 0 1 0 ∷ node 22 0 0 0 0 0 ∷ [])
    (root 2 ∷ root 3 ∷ [])
    (3 ∷ 4 ∷ 0 ∷ 2 ∷ 0 ∷ 0 ∷ 0 ∷ 0 ∷ 0 ∷ 0 ∷ 0 ∷ 0 ∷ 0 ∷ 0 ∷ 0 ∷ 0 ∷ 0 ∷ 0 ∷ 0 ∷ 0 ∷ 0 ∷ 0 ∷ 0 ∷ 1 ∷ 0 ∷ 0 ∷ 0 ∷ 0 ∷ [])
    dims
    (lists' 0 (step 1 2 (ref 32 0 0 2 0 0 0) (ref 16 0 0 0 0 0 0) (ref 17 0 0 0 0 0 0) blank ∷ []) ([]) ([]))
    (becomes (lists' 0 (step 1 2 (ref 32 0 0 1 0 0 0) (ref 16 0 0 1 0 0 0) (ref 17 0 0 1 0 0 0) blank ∷ []) ([]) ([]))) ∷
    -- m10-dims-source-f
    walk_vector
    (node 16 0 0 0 0 0 ∷ node 16 1 0 0 0 0 ∷ node 3 0 2 0 1 0 ∷ node 22 0 0 0 0 0 ∷ [])
    (root 2 ∷ root 3 ∷ [])
    (3 ∷ 4 ∷ 0 ∷ 2 ∷ 0 ∷ 0 ∷ 0 ∷ 0 ∷ 0 ∷ 0 ∷ 0 ∷ 0 ∷ 0 ∷ 0 ∷ 0 ∷ 0 ∷ 0 ∷ 0 ∷ 0 ∷ 0 ∷ 0 ∷ 0 ∷ 0 ∷ 1 ∷ 0 ∷ 0 ∷ 0 ∷ 0 ∷ [])
    dims
    (lists' 0 (step 1 2 (ref 33 0 0 0 0 0 0) (ref 16 0 0 0 0 0 0) (ref 33 0 0 2 0 0 0) blank ∷ []) ([]) ([]))
    (no_more 10) ∷
    -- m10-dims-destination-f
    walk_vector
    (node 16 0 0 0 0 0 ∷ node 16 1 0 0 0 0 ∷ node 3 0 2 0 1 0 ∷ node 22 0 0 0 0 0 ∷ [])
    (root 2 ∷ root 3 ∷ [])
    (3 ∷ 4 ∷ 0 ∷ 2 ∷ 0 ∷ 0 ∷ 0 ∷ 0 ∷ 0 ∷ 0 ∷ 0 ∷ 0 ∷ 0 ∷ 0 ∷ 0 ∷ 0 ∷ 0 ∷ 0 ∷ 0 ∷ 0 ∷ 0 ∷ 0 ∷ 0 ∷ 1 ∷ 0 ∷ 0 ∷ 0 ∷ 0 ∷ [])
    dims
    (lists' 0 (step 1 2 (ref 33 0 0 2 0 0 0) (ref 16 0 0 0 0 0 0) (ref 17 0 0 0 0 0 0) blank ∷ []) ([]) ([]))
    (becomes (lists' 0 (step 1 2 (ref 33 0 0 1 0 0 0) (ref 16 0 0 1 0 0 0) (ref 17 0 0 1 0 0 0) blank ∷ []) ([]) ([]))) ∷
    -- m10-dims-source-tmpExp
    walk_vector
    (node 16 0 0 0 0 0 ∷ node 16 1 0 0 0 0 ∷ node 3 0 2 0 1 0 ∷ node 22 0 0 0 0 0 ∷ [])
    (root 2 ∷ root 3 ∷ [])
    (3 ∷ 4 ∷ 0 ∷ 2 ∷ 0 ∷ 0 ∷ 0 ∷ 0 ∷ 0 ∷ 0 ∷ 0 ∷ 0 ∷ 0 ∷ 0 ∷ 0 ∷ 0 ∷ 0 ∷ 0 ∷ 0 ∷ 0 ∷ 0 ∷ 0 ∷ 0 ∷ 1 ∷ 0 ∷ 0 ∷ 0 ∷ 0 ∷ [])
    dims
    (lists' 0 (step 1 2 (ref 33 0 0 0 0 0 0) (ref 16 0 0 0 0 0 0) (ref 34 0 0 2 0 0 0) blank ∷ []) ([]) ([]))
    (becomes (lists' 0 (step 1 2 (ref 33 0 0 2 0 0 0) (ref 16 0 0 1 0 0 0) (ref 34 0 0 2 0 0 0) blank ∷ []) ([]) ([]))) ∷
    -- m10-dims-destination-tmpExp
    walk_vector
    (node 16 0 0 0 0 0 ∷ node 16 1 0 0 0 0 ∷ node 3 0 2 0 1 0 ∷ node 22 0 0 0 0 0 ∷ [])
    (root 2 ∷ root 3 ∷ [])
    (3 ∷ 4 ∷ 0 ∷ 2 ∷ 0 ∷ 0 ∷ 0 ∷ 0 ∷ 0 ∷ 0 ∷ 0 ∷ 0 ∷ 0 ∷ 0 ∷ 0 ∷ 0 ∷ 0 ∷ 0 ∷ 0 ∷ 0 ∷ 0 ∷ 0 ∷ 0 ∷ 1 ∷ 0 ∷ 0 ∷ 0 ∷ 0 ∷ [])
    dims
    (lists' 0 (step 1 2 (ref 34 0 0 2 0 0 0) (ref 16 0 0 0 0 0 0) (ref 17 0 0 0 0 0 0) blank ∷ []) ([]) ([]))
    (becomes (lists' 0 (step 1 2 (ref 34 0 0 1 0 0 0) (ref 16 0 0 1 0 0 0) (ref 17 0 0 1 0 0 0) blank ∷ []) ([]) ([]))) ∷
    -- m10-dims-source-Zi
    walk_vector
    (node 16 0 0 0 0 0 ∷ node 16 1 0 0 0 0 ∷ node 3 0 2 0 1 0 ∷ node 22 0 0 0 0 0 ∷ [])
    (root 2 ∷ root 3 ∷ [])
    (3 ∷ 4 ∷ 0 ∷ 2 ∷ 0 ∷ 0 ∷ 0 ∷ 0 ∷ 0 ∷ 0 ∷ 0 ∷ 0 ∷ 0 ∷ 0 ∷ 0 ∷ 0 ∷ 0 ∷ 0 ∷ 0 ∷ 0 ∷ 0 ∷ 0 ∷ 0 ∷ 1 ∷ 0 ∷ 0 ∷ 0 ∷ 0 ∷ [])
    dims
    (lists' 0 (step 1 2 (ref 33 0 0 0 0 0 0) (ref 16 0 0 0 0 0 0) (ref 35 0 0 2 0 0 0) blank ∷ []) ([]) ([]))
    (becomes (lists' 0 (step 1 2 (ref 33 0 0 1 0 0 0) (ref 16 0 0 1 0 0 0) (ref 35 0 0 1 0 0 0) blank ∷ []) ([]) ([]))) ∷
    -- m10-dims-destination-Zi
    walk_vector
    (node 16 0 0 0 0 0 ∷ node 16 1 0 0 0 0 ∷ node 3 0 2 0 1 0 ∷ node 22 0 0 0 0 0 ∷ [])
    (root 2 ∷ root 3 ∷ [])
    (3 ∷ 4 ∷ 0 ∷ 2 ∷ 0 ∷ 0 ∷ 0 ∷ 0 ∷ 0 ∷ 0 ∷ 0 ∷ 0 ∷ 0 ∷ 0 ∷ 0 ∷ 0 ∷ 0 ∷ 0 ∷ 0 ∷ 0 ∷ 0 ∷ 0 ∷ 0 ∷ 1 ∷ 0 ∷ 0 ∷ 0 ∷ 0 ∷ [])
    dims
    (lists' 0 (step 1 2 (ref 35 0 0 2 0 0 0) (ref 16 0 0 0 0 0 0) (ref 17 0 0 0 0 0 0) blank ∷ []) ([]) ([]))
    (no_more 10) ∷
    -- m10-dims-source-tree1
    walk_vector
    (node 16 0 0 0 0 0 ∷ node 16 1 0 0 0 0 ∷ node 3 0 2 0 1 0 ∷ node 22 0 0 0 0 0 ∷ [])
    (root 2 ∷ root 3 ∷ [])
    (3 ∷ 4 ∷ 0 ∷ 2 ∷ 0 ∷ 0 ∷ 0 ∷ 0 ∷ 0 ∷ 0 ∷ 0 ∷ 0 ∷ 0 ∷ 0 ∷ 0 ∷ 0 ∷ 0 ∷ 0 ∷ 0 ∷ 0 ∷ 0 ∷ 0 ∷ 0 ∷ 1 ∷ 0 ∷ 0 ∷ 0 ∷ 0 ∷ [])
    dims
    (lists' 0 (step 1 2 (ref 33 0 0 0 0 0 0) (ref 16 0 0 0 0 0 0) (ref 36 0 0 2 0 0 0) blank ∷ []) ([]) ([]))
    (becomes (lists' 0 (step 1 2 (ref 33 0 0 2 0 0 0) (ref 16 0 0 1 0 0 0) (ref 36 0 0 2 0 0 0) blank ∷ []) ([]) ([]))) ∷
    -- m10-dims-destination-tree1
    walk_vector
    (node 16 0 0 0 0 0 ∷ node 16 1 0 0 0 0 ∷ node 3 0 2 0 1 0 ∷ node 22 0 0 0 0 0 ∷ [])
    (root 2 ∷ root 3 ∷ [])
    (3 ∷ 4 ∷ 0 ∷ 2 ∷ 0 ∷ 0 ∷ 0 ∷ 0 ∷ 0 ∷ 0 ∷ 0 ∷ 0 ∷ 0 ∷ 0 ∷ 0 ∷ 0 ∷ 0 ∷ 0 ∷ 0 ∷ 0 ∷ 0 ∷ 0 ∷ 0 ∷ 1 ∷ 0 ∷ 0 ∷ 0 ∷ 0 ∷ [])
    dims
    (lists' 0 (step 1 2 (ref 36 0 0 2 0 0 0) (ref 16 0 0 0 0 0 0) (ref 17 0 0 0 0 0 0) blank ∷ []) ([]) ([]))
    (no_more 10) ∷
    -- m10-dims-source-tree2
    walk_vector
    (node 16 0 0 0 0 0 ∷ node 16 1 0 0 0 0 ∷ node 3 0 2 0 1 0 ∷ node 22 0 0 0 0 0 ∷ [])
    (root 2 ∷ root 3 ∷ [])
    (3 ∷ 4 ∷ 0 ∷ 2 ∷ 0 ∷ 0 ∷ 0 ∷ 0 ∷ 0 ∷ 0 ∷ 0 ∷ 0 ∷ 0 ∷ 0 ∷ 0 ∷ 0 ∷ 0 ∷ 0 ∷ 0 ∷ 0 ∷ 0 ∷ 0 ∷ 0 ∷ 1 ∷ 0 ∷ 0 ∷ 0 ∷ 0 ∷ [])
    dims
    (lists' 0 (step 1 2 (ref 33 0 0 0 0 0 0) (ref 16 0 0 0 0 0 0) (ref 37 0 0 2 0 0 0) blank ∷ []) ([]) ([]))
    (becomes (lists' 0 (step 1 2 (ref 33 0 0 2 0 0 0) (ref 16 0 0 1 0 0 0) (ref 37 0 0 2 0 0 0) blank ∷ []) ([]) ([]))) ∷
    -- m10-dims-destination-tree2
    walk_vector
    (node 16 0 0 0 0 0 ∷ node 16 1 0 0 0 0 ∷ node 3 0 2 0 1 0 ∷ node 22 0 0 0 0 0 ∷ [])
    (root 2 ∷ root 3 ∷ [])
    (3 ∷ 4 ∷ 0 ∷ 2 ∷ 0 ∷ 0 ∷ 0 ∷ 0 ∷ 0 ∷ 0 ∷ 0 ∷ 0 ∷ 0 ∷ 0 ∷ 0 ∷ 0 ∷ 0 ∷ 0 ∷ 0 ∷ 0 ∷ 0 ∷ 0 ∷ 0 ∷ 1 ∷ 0 ∷ 0 ∷ 0 ∷ 0 ∷ [])
    dims
    (lists' 0 (step 1 2 (ref 37 0 0 2 0 0 0) (ref 16 0 0 0 0 0 0) (ref 17 0 0 0 0 0 0) blank ∷ []) ([]) ([]))
    (no_more 10) ∷
    -- m10-dims-source-tree3
    walk_vector
    (node 16 0 0 0 0 0 ∷ node 16 1 0 0 0 0 ∷ node 3 0 2 0 1 0 ∷ node 22 0 0 0 0 0 ∷ [])
    (root 2 ∷ root 3 ∷ [])
    (3 ∷ 4 ∷ 0 ∷ 2 ∷ 0 ∷ 0 ∷ 0 ∷ 0 ∷ 0 ∷ 0 ∷ 0 ∷ 0 ∷ 0 ∷ 0 ∷ 0 ∷ 0 ∷ 0 ∷ 0 ∷ 0 ∷ 0 ∷ 0 ∷ 0 ∷ 0 ∷ 1 ∷ 0 ∷ 0 ∷ 0 ∷ 0 ∷ [])
    dims
    (lists' 0 (step 1 2 (ref 33 0 0 0 0 0 0) (ref 16 0 0 0 0 0 0) (ref 38 0 0 2 0 0 0) blank ∷ []) ([]) ([]))
    (becomes (lists' 0 (step 1 2 (ref 33 0 0 2 0 0 0) (ref 16 0 0 1 0 0 0) (ref 38 0 0 2 0 0 0) blank ∷ []) ([]) ([]))) ∷
    -- m10-dims-destination-tree3
    walk_vector
    (node 16 0 0 0 0 0 ∷ node 16 1 0 0 0 0 ∷ node 3 0 2 0 1 0 ∷ node 22 0 0 0 0 0 ∷ [])
    (root 2 ∷ root 3 ∷ [])
    (3 ∷ 4 ∷ 0 ∷ 2 ∷ 0 ∷ 0 ∷ 0 ∷ 0 ∷ 0 ∷ 0 ∷ 0 ∷ 0 ∷ 0 ∷ 0 ∷ 0 ∷ 0 ∷ 0 ∷ 0 ∷ 0 ∷ 0 ∷ 0 ∷ 0 ∷ 0 ∷ 1 ∷ 0 ∷ 0 ∷ 0 ∷ 0 ∷ [])
    dims
    (lists' 0 (step 1 2 (ref 38 0 0 2 0 0 0) (ref 16 0 0 0 0 0 0) (ref 17 0 0 0 0 0 0) blank ∷ []) ([]) ([]))
    (no_more 10) ∷
    -- m10-dims-source-tree4
    walk_vector
    (node 16 0 0 0 0 0 ∷ node 16 1 0 0 0 0 ∷ node 3 0 2 0 1 0 ∷ node 22 0 0 0 0 0 ∷ [])
    (root 2 ∷ root 3 ∷ [])
    (3 ∷ 4 ∷ 0 ∷ 2 ∷ 0 ∷ 0 ∷ 0 ∷ 0 ∷ 0 ∷ 0 ∷ 0 ∷ 0 ∷ 0 ∷ 0 ∷ 0 ∷ 0 ∷ 0 ∷ 0 ∷ 0 ∷ 0 ∷ 0 ∷ 0 ∷ 0 ∷ 1 ∷ 0 ∷ 0 ∷ 0 ∷ 0 ∷ [])
    dims
    (lists' 0 (step 1 2 (ref 33 0 0 0 0 0 0) (ref 16 0 0 0 0 0 0) (ref 39 0 0 2 0 0 0) blank ∷ []) ([]) ([]))
    (becomes (lists' 0 (step 1 2 (ref 33 0 0 2 0 0 0) (ref 16 0 0 1 0 0 0) (ref 39 0 0 2 0 0 0) blank ∷ []) ([]) ([]))) ∷
    -- m10-dims-destination-tree4
    walk_vector
    (node 16 0 0 0 0 0 ∷ node 16 1 0 0 0 0 ∷ node 3 0 2 0 1 0 ∷ node 22 0 0 0 0 0 ∷ [])
    (root 2 ∷ root 3 ∷ [])
    (3 ∷ 4 ∷ 0 ∷ 2 ∷ 0 ∷ 0 ∷ 0 ∷ 0 ∷ 0 ∷ 0 ∷ 0 ∷ 0 ∷ 0 ∷ 0 ∷ 0 ∷ 0 ∷ 0 ∷ 0 ∷ 0 ∷ 0 ∷ 0 ∷ 0 ∷ 0 ∷ 1 ∷ 0 ∷ 0 ∷ 0 ∷ 0 ∷ [])
    dims
    (lists' 0 (step 1 2 (ref 39 0 0 2 0 0 0) (ref 16 0 0 0 0 0 0) (ref 17 0 0 0 0 0 0) blank ∷ []) ([]) ([]))
    (no_more 10) ∷
    -- m10-dims-source-Z
    walk_vector
    (node 16 0 0 0 0 0 ∷ node 16 1 0 0 0 0 ∷ node 3 0 2 0 1 0 ∷ node 22 0 0 0 0 0 ∷ [])
    (root 2 ∷ root 3 ∷ [])
    (3 ∷ 4 ∷ 0 ∷ 2 ∷ 0 ∷ 0 ∷ 0 ∷ 0 ∷ 0 ∷ 0 ∷ 0 ∷ 0 ∷ 0 ∷ 0 ∷ 0 ∷ 0 ∷ 0 ∷ 0 ∷ 0 ∷ 0 ∷ 0 ∷ 0 ∷ 0 ∷ 1 ∷ 0 ∷ 0 ∷ 0 ∷ 0 ∷ [])
    dims
    (lists' 0 (step 1 2 (ref 33 0 0 0 0 0 0) (ref 16 0 0 0 0 0 0) (ref 40 0 0 2 0 0 0) blank ∷ []) ([]) ([]))
    (becomes (lists' 0 (step 1 2 (ref 33 0 0 3 0 0 0) (ref 16 0 0 1 0 0 0) (ref 40 0 0 3 0 0 0) blank ∷ []) ([]) ([]))) ∷
    -- m10-dims-destination-Z
    walk_vector
    (node 16 0 0 0 0 0 ∷ node 16 1 0 0 0 0 ∷ node 3 0 2 0 1 0 ∷ node 22 0 0 0 0 0 ∷ [])
    (root 2 ∷ root 3 ∷ [])
    (3 ∷ 4 ∷ 0 ∷ 2 ∷ 0 ∷ 0 ∷ 0 ∷ 0 ∷ 0 ∷ 0 ∷ 0 ∷ 0 ∷ 0 ∷ 0 ∷ 0 ∷ 0 ∷ 0 ∷ 0 ∷ 0 ∷ 0 ∷ 0 ∷ 0 ∷ 0 ∷ 1 ∷ 0 ∷ 0 ∷ 0 ∷ 0 ∷ [])
    dims
    (lists' 0 (step 1 2 (ref 40 0 0 2 0 0 0) (ref 16 0 0 0 0 0 0) (ref 17 0 0 0 0 0 0) blank ∷ []) ([]) ([]))
    (no_more 10) ∷
    -- m14-x-dimension-3
    walk_vector
    (node 16 0 0 0 0 0 ∷ node 16 1 0 0 0 0 ∷ node 3 0 2 0 1 0 ∷ node 22 0 0 0 0 0 ∷ [])
    (root 2 ∷ root 3 ∷ [])
    (3 ∷ 4 ∷ 0 ∷ 2 ∷ 0 ∷ 0 ∷ 0 ∷ 0 ∷ 0 ∷ 0 ∷ 0 ∷ 0 ∷ 0 ∷ 0 ∷ 0 ∷ 0 ∷ 0 ∷ 0 ∷ 0 ∷ 0 ∷ 0 ∷ 0 ∷ 0 ∷ 0 ∷ 0 ∷ 0 ∷ [])
    dims
    (lists' 0 (step 8 1 (ref 32 0 0 0 0 0 0) (ref 26 0 0 0 0 0 0) blank blank ∷ []) (step 8 1 (ref 32 0 1 0 0 0 0) (ref 24 0 0 0 0 0 0) blank blank ∷ []) (step 1 2 (ref 18 1 1 0 0 0 0) (ref 32 0 0 0 0 0 0) (ref 25 0 0 0 0 0 0) blank ∷ []))
    (becomes (lists' 0 (step 8 1 (ref 32 0 0 3 0 0 0) (ref 26 0 0 3 0 0 0) blank blank ∷ []) (step 8 1 (ref 32 0 1 3 0 0 0) (ref 24 0 0 3 0 0 0) blank blank ∷ []) (step 1 2 (ref 18 1 1 3 0 0 0) (ref 32 0 0 3 0 0 0) (ref 25 0 0 3 0 0 0) blank ∷ []))) ∷
    -- m14-first-list-only
    walk_vector
    (node 16 0 0 0 0 0 ∷ node 16 1 0 0 0 0 ∷ node 3 0 2 0 1 0 ∷ node 22 0 0 0 0 0 ∷ [])
    (root 2 ∷ root 3 ∷ [])
    (3 ∷ 4 ∷ 0 ∷ 2 ∷ 0 ∷ 0 ∷ 0 ∷ 0 ∷ 0 ∷ 0 ∷ 0 ∷ 0 ∷ 0 ∷ 0 ∷ 0 ∷ 0 ∷ 0 ∷ 0 ∷ 0 ∷ 0 ∷ 0 ∷ 0 ∷ 0 ∷ 0 ∷ 0 ∷ 0 ∷ [])
    dims_first
    (lists' 0 (step 8 1 (ref 32 0 0 0 0 0 0) (ref 26 0 0 0 0 0 0) blank blank ∷ []) (step 8 1 (ref 32 0 1 0 0 0 0) (ref 24 0 0 0 0 0 0) blank blank ∷ []) (step 1 2 (ref 18 1 1 0 0 0 0) (ref 32 0 0 0 0 0 0) (ref 25 0 0 0 0 0 0) blank ∷ []))
    (becomes (lists' 0 (step 8 1 (ref 32 0 0 3 0 0 0) (ref 26 0 0 3 0 0 0) blank blank ∷ []) (step 8 1 (ref 32 0 1 0 0 0 0) (ref 24 0 0 0 0 0 0) blank blank ∷ []) (step 1 2 (ref 18 1 1 0 0 0 0) (ref 32 0 0 0 0 0 0) (ref 25 0 0 0 0 0 0) blank ∷ []))) ∷
    -- m14-other-lists-unseen
    walk_vector
    (node 16 0 0 0 0 0 ∷ node 16 1 0 0 0 0 ∷ node 3 0 2 0 1 0 ∷ node 22 0 0 0 0 0 ∷ [])
    (root 2 ∷ root 3 ∷ [])
    (3 ∷ 4 ∷ 0 ∷ 2 ∷ 0 ∷ 0 ∷ 0 ∷ 0 ∷ 0 ∷ 0 ∷ 0 ∷ 0 ∷ 0 ∷ 0 ∷ 0 ∷ 0 ∷ 0 ∷ 0 ∷ 0 ∷ 0 ∷ 0 ∷ 0 ∷ 0 ∷ 0 ∷ 0 ∷ 0 ∷ [])
    dims_first
    (lists' 0 ([]) (step 8 1 (ref 32 0 1 0 0 0 0) (ref 32 0 0 0 0 0 0) blank blank ∷ []) (step 8 1 (ref 40 0 0 0 0 0 0) (ref 33 0 0 0 0 0 0) blank blank ∷ []))
    (becomes (lists' 0 ([]) (step 8 1 (ref 32 0 1 0 0 0 0) (ref 32 0 0 0 0 0 0) blank blank ∷ []) (step 8 1 (ref 40 0 0 0 0 0 0) (ref 33 0 0 0 0 0 0) blank blank ∷ []))) ∷
    -- m21-ignored-by-dimensions
    walk_vector
    (node 16 0 0 0 0 0 ∷ node 16 1 0 0 0 0 ∷ node 3 0 2 0 1 0 ∷ node 22 0 0 0 0 0 ∷ [])
    (root 2 ∷ root 3 ∷ [])
    (3 ∷ 4 ∷ 0 ∷ 2 ∷ 0 ∷ 0 ∷ 0 ∷ 0 ∷ 0 ∷ 0 ∷ 0 ∷ 0 ∷ 0 ∷ 0 ∷ 0 ∷ 0 ∷ 0 ∷ 0 ∷ 0 ∷ 0 ∷ 0 ∷ 0 ∷ 0 ∷ 0 ∷ 0 ∷ 0 ∷ [])
    dims
    (lists' 0 (step 8 3 (ref 32 0 0 0 0 0 0) (ref 16 0 0 0 0 0 0) (ref 32 0 9 0 0 0 0) (ref 33 0 0 0 0 0 0) ∷ []) ([]) ([]))
    (becomes (lists' 0 (step 8 3 (ref 32 0 0 1 0 0 0) (ref 16 0 0 1 0 0 0) (ref 32 0 9 0 0 0 0) (ref 33 0 0 0 0 0 0) ∷ []) ([]) ([]))) ∷
    -- m21-copy-of-none
    walk_vector
    (node 16 0 0 0 0 0 ∷ node 16 1 0 0 0 0 ∷ node 3 0 2 0 1 0 ∷ node 22 0 0 0 0 0 ∷ [])
    (root 2 ∷ root 3 ∷ [])
    (3 ∷ 4 ∷ 0 ∷ 2 ∷ 0 ∷ 0 ∷ 0 ∷ 0 ∷ 0 ∷ 0 ∷ 0 ∷ 0 ∷ 0 ∷ 0 ∷ 0 ∷ 0 ∷ 0 ∷ 0 ∷ 0 ∷ 0 ∷ 0 ∷ 0 ∷ 0 ∷ 0 ∷ 0 ∷ 0 ∷ [])
    dims
    (lists' 0 (step 8 0 (ref 32 0 0 0 0 0 0) blank blank blank ∷ []) ([]) ([]))
    (no_more 10) ∷
    -- m21-add-of-one
    walk_vector
    (node 16 0 0 0 0 0 ∷ node 16 1 0 0 0 0 ∷ node 3 0 2 0 1 0 ∷ node 22 0 0 0 0 0 ∷ [])
    (root 2 ∷ root 3 ∷ [])
    (3 ∷ 4 ∷ 0 ∷ 2 ∷ 0 ∷ 0 ∷ 0 ∷ 0 ∷ 0 ∷ 0 ∷ 0 ∷ 0 ∷ 0 ∷ 0 ∷ 0 ∷ 0 ∷ 0 ∷ 0 ∷ 0 ∷ 0 ∷ 0 ∷ 0 ∷ 0 ∷ 0 ∷ 0 ∷ 0 ∷ [])
    dims
    (lists' 0 (step 1 1 (ref 32 0 0 0 0 0 0) (ref 16 0 0 0 0 0 0) blank blank ∷ []) ([]) ([]))
    (no_more 10) ∷
    -- m21-muladd-of-two
    walk_vector
    (node 16 0 0 0 0 0 ∷ node 16 1 0 0 0 0 ∷ node 3 0 2 0 1 0 ∷ node 22 0 0 0 0 0 ∷ [])
    (root 2 ∷ root 3 ∷ [])
    (3 ∷ 4 ∷ 0 ∷ 2 ∷ 0 ∷ 0 ∷ 0 ∷ 0 ∷ 0 ∷ 0 ∷ 0 ∷ 0 ∷ 0 ∷ 0 ∷ 0 ∷ 0 ∷ 0 ∷ 0 ∷ 0 ∷ 0 ∷ 0 ∷ 0 ∷ 0 ∷ 0 ∷ 0 ∷ 0 ∷ [])
    dims
    (lists' 0 (step 4 2 (ref 32 0 0 0 0 0 0) (ref 16 0 0 0 0 0 0) (ref 16 0 1 0 0 0 0) blank ∷ []) ([]) ([]))
    (no_more 10) ∷
    -- m21-the-first-source-decides
    walk_vector
    (node 16 0 0 0 0 0 ∷ node 16 1 0 0 0 0 ∷ node 3 0 2 0 1 0 ∷ node 22 0 0 0 0 0 ∷ [])
    (root 2 ∷ root 3 ∷ [])
    (3 ∷ 4 ∷ 0 ∷ 2 ∷ 0 ∷ 0 ∷ 0 ∷ 0 ∷ 0 ∷ 0 ∷ 0 ∷ 0 ∷ 0 ∷ 0 ∷ 0 ∷ 0 ∷ 0 ∷ 0 ∷ 0 ∷ 0 ∷ 0 ∷ 0 ∷ 0 ∷ 0 ∷ 0 ∷ 0 ∷ [])
    dims
    (lists' 0 (step 1 1 (ref 32 0 0 0 0 0 0) (ref 16 0 2 0 0 0 0) blank blank ∷ []) ([]) ([]))
    (no_more 3) ∷
    -- m21-unknown-step
    walk_vector
    (node 16 0 0 0 0 0 ∷ node 16 1 0 0 0 0 ∷ node 3 0 2 0 1 0 ∷ node 22 0 0 0 0 0 ∷ [])
    (root 2 ∷ root 3 ∷ [])
    (3 ∷ 4 ∷ 0 ∷ 2 ∷ 0 ∷ 0 ∷ 0 ∷ 0 ∷ 0 ∷ 0 ∷ 0 ∷ 0 ∷ 0 ∷ 0 ∷ 0 ∷ 0 ∷ 0 ∷ 0 ∷ 0 ∷ 0 ∷ 0 ∷ 0 ∷ 0 ∷ 0 ∷ 0 ∷ 0 ∷ [])
    dims
    (lists' 0 (step 5 1 (ref 32 0 0 0 0 0 0) (ref 16 0 2 0 0 0 0) blank blank ∷ []) ([]) ([]))
    (no_more 10) ∷
    -- list-dims-nothing
    walk_vector
    (node 16 0 0 0 0 0 ∷ node 22 0 0 0 0 0 ∷ node 18 1 0 0 0 0 ∷ node 17 0 0 0 0 0 ∷ [])
    (root 0 ∷ root 1 ∷ root 2 ∷ root 3 ∷ [])
    (3 ∷ 4 ∷ 0 ∷ 2 ∷ 0 ∷ 0 ∷ 0 ∷ 1 ∷ 0 ∷ 1 ∷ 0 ∷ 1 ∷ 0 ∷ 1 ∷ 0 ∷ 0 ∷ 0 ∷ 0 ∷ 0 ∷ 0 ∷ 0 ∷ 1 ∷ 0 ∷ 2 ∷ 0 ∷ 0 ∷ 0 ∷ 2 ∷ 0 ∷ 2 ∷ 0 ∷ 0 ∷ 0 ∷ 4 ∷ [])
    dims
    (lists' 0 ([]) ([]) ([]))
    (becomes (lists' 0 ([]) ([]) ([]))) ∷
    -- list-dims-10-then-3
    walk_vector
    (node 16 0 0 0 0 0 ∷ node 22 0 0 0 0 0 ∷ node 18 1 0 0 0 0 ∷ node 17 0 0 0 0 0 ∷ [])
    (root 0 ∷ root 1 ∷ root 2 ∷ root 3 ∷ [])
    (3 ∷ 4 ∷ 0 ∷ 2 ∷ 0 ∷ 0 ∷ 0 ∷ 1 ∷ 0 ∷ 1 ∷ 0 ∷ 1 ∷ 0 ∷ 1 ∷ 0 ∷ 0 ∷ 0 ∷ 0 ∷ 0 ∷ 0 ∷ 0 ∷ 1 ∷ 0 ∷ 2 ∷ 0 ∷ 0 ∷ 0 ∷ 2 ∷ 0 ∷ 2 ∷ 0 ∷ 0 ∷ 0 ∷ 4 ∷ [])
    dims
    (lists' 0 (step 1 2 (ref 32 0 0 0 0 0 0) (ref 33 0 0 0 0 0 0) (ref 16 0 4 0 0 0 0) blank ∷ []) ([]) ([]))
    (no_more 10) ∷
    -- list-dims-3-then-10
    walk_vector
    (node 16 0 0 0 0 0 ∷ node 22 0 0 0 0 0 ∷ node 18 1 0 0 0 0 ∷ node 17 0 0 0 0 0 ∷ [])
    (root 0 ∷ root 1 ∷ root 2 ∷ root 3 ∷ [])
    (3 ∷ 4 ∷ 0 ∷ 2 ∷ 0 ∷ 0 ∷ 0 ∷ 1 ∷ 0 ∷ 1 ∷ 0 ∷ 1 ∷ 0 ∷ 1 ∷ 0 ∷ 0 ∷ 0 ∷ 0 ∷ 0 ∷ 0 ∷ 0 ∷ 1 ∷ 0 ∷ 2 ∷ 0 ∷ 0 ∷ 0 ∷ 2 ∷ 0 ∷ 2 ∷ 0 ∷ 0 ∷ 0 ∷ 4 ∷ [])
    dims
    (lists' 0 (step 1 2 (ref 32 0 0 0 0 0 0) (ref 16 0 4 0 0 0 0) (ref 33 0 0 0 0 0 0) blank ∷ []) ([]) ([]))
    (no_more 3) ∷
    -- list-dims-12-then-3
    walk_vector
    (node 16 0 0 0 0 0 ∷ node 22 0 0 0 0 0 ∷ node 18 1 0 0 0 0 ∷ node 17 0 0 0 0 0 ∷ [])
    (root 0 ∷ root 1 ∷ root 2 ∷ root 3 ∷ [])
    (3 ∷ 4 ∷ 0 ∷ 2 ∷ 0 ∷ 0 ∷ 0 ∷ 1 ∷ 0 ∷ 1 ∷ 0 ∷ 1 ∷ 0 ∷ 1 ∷ 0 ∷ 0 ∷ 0 ∷ 0 ∷ 0 ∷ 0 ∷ 0 ∷ 1 ∷ 0 ∷ 2 ∷ 0 ∷ 0 ∷ 0 ∷ 2 ∷ 0 ∷ 2 ∷ 0 ∷ 0 ∷ 0 ∷ 4 ∷ [])
    dims
    (lists' 0 (step 1 2 (ref 32 0 0 0 0 0 0) (ref 34 0 0 0 0 0 0) (ref 16 0 4 0 0 0 0) blank ∷ []) ([]) ([]))
    (no_more 12) ∷
    -- list-dims-3-then-12
    walk_vector
    (node 16 0 0 0 0 0 ∷ node 22 0 0 0 0 0 ∷ node 18 1 0 0 0 0 ∷ node 17 0 0 0 0 0 ∷ [])
    (root 0 ∷ root 1 ∷ root 2 ∷ root 3 ∷ [])
    (3 ∷ 4 ∷ 0 ∷ 2 ∷ 0 ∷ 0 ∷ 0 ∷ 1 ∷ 0 ∷ 1 ∷ 0 ∷ 1 ∷ 0 ∷ 1 ∷ 0 ∷ 0 ∷ 0 ∷ 0 ∷ 0 ∷ 0 ∷ 0 ∷ 1 ∷ 0 ∷ 2 ∷ 0 ∷ 0 ∷ 0 ∷ 2 ∷ 0 ∷ 2 ∷ 0 ∷ 0 ∷ 0 ∷ 4 ∷ [])
    dims
    (lists' 0 (step 1 2 (ref 32 0 0 0 0 0 0) (ref 19 0 2 0 0 0 0) (ref 34 0 0 0 0 0 0) blank ∷ []) ([]) ([]))
    (no_more 3) ∷
    -- list-dims-12-then-10
    walk_vector
    (node 16 0 0 0 0 0 ∷ node 22 0 0 0 0 0 ∷ node 18 1 0 0 0 0 ∷ node 17 0 0 0 0 0 ∷ [])
    (root 0 ∷ root 1 ∷ root 2 ∷ root 3 ∷ [])
    (3 ∷ 4 ∷ 0 ∷ 2 ∷ 0 ∷ 0 ∷ 0 ∷ 1 ∷ 0 ∷ 1 ∷ 0 ∷ 1 ∷ 0 ∷ 1 ∷ 0 ∷ 0 ∷ 0 ∷ 0 ∷ 0 ∷ 0 ∷ 0 ∷ 1 ∷ 0 ∷ 2 ∷ 0 ∷ 0 ∷ 0 ∷ 2 ∷ 0 ∷ 2 ∷ 0 ∷ 0 ∷ 0 ∷ 4 ∷ [])
    dims
    (lists' 0 (step 4 3 (ref 35 0 0 0 0 0 0) (ref 16 0 0 0 0 0 0) (ref 16 0 1 0 0 0 0) (ref 38 0 0 0 0 0 0) ∷ []) ([]) ([]))
    (no_more 12) ∷
    -- list-dims-a-step-before-its-sources
    walk_vector
    (node 16 0 0 0 0 0 ∷ node 22 0 0 0 0 0 ∷ node 18 1 0 0 0 0 ∷ node 17 0 0 0 0 0 ∷ [])
    (root 0 ∷ root 1 ∷ root 2 ∷ root 3 ∷ [])
    (3 ∷ 4 ∷ 0 ∷ 2 ∷ 0 ∷ 0 ∷ 0 ∷ 1 ∷ 0 ∷ 1 ∷ 0 ∷ 1 ∷ 0 ∷ 1 ∷ 0 ∷ 0 ∷ 0 ∷ 0 ∷ 0 ∷ 0 ∷ 0 ∷ 1 ∷ 0 ∷ 2 ∷ 0 ∷ 0 ∷ 0 ∷ 2 ∷ 0 ∷ 2 ∷ 0 ∷ 0 ∷ 0 ∷ 4 ∷ [])
    dims
    (lists' 0 (step 0 1 (ref 32 0 0 0 0 0 0) (ref 16 0 4 0 0 0 0) blank blank ∷ []) ([]) ([]))
    (no_more 10) ∷
    -- list-dims-a-source-before-a-missing-one
    walk_vector
    (node 16 0 0 0 0 0 ∷ node 22 0 0 0 0 0 ∷ node 18 1 0 0 0 0 ∷ node 17 0 0 0 0 0 ∷ [])
    (root 0 ∷ root 1 ∷ root 2 ∷ root 3 ∷ [])
    (3 ∷ 4 ∷ 0 ∷ 2 ∷ 0 ∷ 0 ∷ 0 ∷ 1 ∷ 0 ∷ 1 ∷ 0 ∷ 1 ∷ 0 ∷ 1 ∷ 0 ∷ 0 ∷ 0 ∷ 0 ∷ 0 ∷ 0 ∷ 0 ∷ 1 ∷ 0 ∷ 2 ∷ 0 ∷ 0 ∷ 0 ∷ 2 ∷ 0 ∷ 2 ∷ 0 ∷ 0 ∷ 0 ∷ 4 ∷ [])
    dims
    (lists' 0 (step 4 2 (ref 32 0 0 0 0 0 0) (ref 16 0 0 0 0 0 0) (ref 37 0 0 0 0 0 0) blank ∷ []) ([]) ([]))
    (no_more 12) ∷
    -- list-dims-a-missing-one
    walk_vector
    (node 16 0 0 0 0 0 ∷ node 22 0 0 0 0 0 ∷ node 18 1 0 0 0 0 ∷ node 17 0 0 0 0 0 ∷ [])
    (root 0 ∷ root 1 ∷ root 2 ∷ root 3 ∷ [])
    (3 ∷ 4 ∷ 0 ∷ 2 ∷ 0 ∷ 0 ∷ 0 ∷ 1 ∷ 0 ∷ 1 ∷ 0 ∷ 1 ∷ 0 ∷ 1 ∷ 0 ∷ 0 ∷ 0 ∷ 0 ∷ 0 ∷ 0 ∷ 0 ∷ 1 ∷ 0 ∷ 2 ∷ 0 ∷ 0 ∷ 0 ∷ 2 ∷ 0 ∷ 2 ∷ 0 ∷ 0 ∷ 0 ∷ 4 ∷ [])
    dims
    (lists' 0 (step 4 2 (ref 32 0 0 0 0 0 0) (ref 16 0 0 0 0 0 0) (ref 37 0 0 1 0 0 0) blank ∷ []) ([]) ([]))
    (no_more 10) ∷
    -- list-dims-sources-before-the-destination
    walk_vector
    (node 16 0 0 0 0 0 ∷ node 22 0 0 0 0 0 ∷ node 18 1 0 0 0 0 ∷ node 17 0 0 0 0 0 ∷ [])
    (root 0 ∷ root 1 ∷ root 2 ∷ root 3 ∷ [])
    (3 ∷ 4 ∷ 0 ∷ 2 ∷ 0 ∷ 0 ∷ 0 ∷ 1 ∷ 0 ∷ 1 ∷ 0 ∷ 1 ∷ 0 ∷ 1 ∷ 0 ∷ 0 ∷ 0 ∷ 0 ∷ 0 ∷ 0 ∷ 0 ∷ 1 ∷ 0 ∷ 2 ∷ 0 ∷ 0 ∷ 0 ∷ 2 ∷ 0 ∷ 2 ∷ 0 ∷ 0 ∷ 0 ∷ 4 ∷ [])
    dims
    (lists' 0 (step 8 1 (ref 17 0 0 0 0 0 0) (ref 16 0 4 0 0 0 0) blank blank ∷ []) ([]) ([]))
    (no_more 3) ∷
    -- list-dims-the-destination-last
    walk_vector
    (node 16 0 0 0 0 0 ∷ node 22 0 0 0 0 0 ∷ node 18 1 0 0 0 0 ∷ node 17 0 0 0 0 0 ∷ [])
    (root 0 ∷ root 1 ∷ root 2 ∷ root 3 ∷ [])
    (3 ∷ 4 ∷ 0 ∷ 2 ∷ 0 ∷ 0 ∷ 0 ∷ 1 ∷ 0 ∷ 1 ∷ 0 ∷ 1 ∷ 0 ∷ 1 ∷ 0 ∷ 0 ∷ 0 ∷ 0 ∷ 0 ∷ 0 ∷ 0 ∷ 1 ∷ 0 ∷ 2 ∷ 0 ∷ 0 ∷ 0 ∷ 2 ∷ 0 ∷ 2 ∷ 0 ∷ 0 ∷ 0 ∷ 4 ∷ [])
    dims
    (lists' 0 (step 8 1 (ref 17 0 0 0 0 0 0) (ref 16 0 3 0 0 0 0) blank blank ∷ step 8 1 (ref 33 0 0 0 0 0 0) (ref 16 0 4 0 0 0 0) blank blank ∷ []) ([]) ([]))
    (no_more 10) ∷
    -- list-dims-largest-first
    walk_vector
    (node 16 0 0 0 0 0 ∷ node 22 0 0 0 0 0 ∷ node 18 1 0 0 0 0 ∷ node 17 0 0 0 0 0 ∷ [])
    (root 0 ∷ root 1 ∷ root 2 ∷ root 3 ∷ [])
    (3 ∷ 4 ∷ 0 ∷ 2 ∷ 0 ∷ 0 ∷ 0 ∷ 1 ∷ 0 ∷ 1 ∷ 0 ∷ 1 ∷ 0 ∷ 1 ∷ 0 ∷ 0 ∷ 0 ∷ 0 ∷ 0 ∷ 0 ∷ 0 ∷ 1 ∷ 0 ∷ 2 ∷ 0 ∷ 0 ∷ 0 ∷ 2 ∷ 0 ∷ 2 ∷ 0 ∷ 0 ∷ 0 ∷ 4 ∷ [])
    dims
    (lists' 0 (step 4 3 (ref 33 0 0 0 0 0 0) (ref 22 0 0 0 0 0 0) (ref 17 0 0 0 0 0 0) (ref 16 0 0 0 0 0 0) ∷ []) ([]) ([]))
    (becomes (lists' 0 (step 4 3 (ref 33 0 0 3 0 0 0) (ref 22 0 0 3 0 0 0) (ref 17 0 0 1 0 0 0) (ref 16 0 0 1 0 0 0) ∷ []) ([]) ([]))) ∷
    -- list-dims-largest-second
    walk_vector
    (node 16 0 0 0 0 0 ∷ node 22 0 0 0 0 0 ∷ node 18 1 0 0 0 0 ∷ node 17 0 0 0 0 0 ∷ [])
    (root 0 ∷ root 1 ∷ root 2 ∷ root 3 ∷ [])
    (3 ∷ 4 ∷ 0 ∷ 2 ∷ 0 ∷ 0 ∷ 0 ∷ 1 ∷ 0 ∷ 1 ∷ 0 ∷ 1 ∷ 0 ∷ 1 ∷ 0 ∷ 0 ∷ 0 ∷ 0 ∷ 0 ∷ 0 ∷ 0 ∷ 1 ∷ 0 ∷ 2 ∷ 0 ∷ 0 ∷ 0 ∷ 2 ∷ 0 ∷ 2 ∷ 0 ∷ 0 ∷ 0 ∷ 4 ∷ [])
    dims
    (lists' 0 (step 4 3 (ref 33 0 0 0 0 0 0) (ref 17 0 0 0 0 0 0) (ref 23 0 0 0 0 0 0) (ref 16 0 0 0 0 0 0) ∷ []) ([]) ([]))
    (becomes (lists' 0 (step 4 3 (ref 33 0 0 3 0 0 0) (ref 17 0 0 1 0 0 0) (ref 23 0 0 3 0 0 0) (ref 16 0 0 1 0 0 0) ∷ []) ([]) ([]))) ∷
    -- list-dims-largest-third
    walk_vector
    (node 16 0 0 0 0 0 ∷ node 22 0 0 0 0 0 ∷ node 18 1 0 0 0 0 ∷ node 17 0 0 0 0 0 ∷ [])
    (root 0 ∷ root 1 ∷ root 2 ∷ root 3 ∷ [])
    (3 ∷ 4 ∷ 0 ∷ 2 ∷ 0 ∷ 0 ∷ 0 ∷ 1 ∷ 0 ∷ 1 ∷ 0 ∷ 1 ∷ 0 ∷ 1 ∷ 0 ∷ 0 ∷ 0 ∷ 0 ∷ 0 ∷ 0 ∷ 0 ∷ 1 ∷ 0 ∷ 2 ∷ 0 ∷ 0 ∷ 0 ∷ 2 ∷ 0 ∷ 2 ∷ 0 ∷ 0 ∷ 0 ∷ 4 ∷ [])
    dims
    (lists' 0 (step 4 3 (ref 33 0 0 0 0 0 0) (ref 17 0 0 0 0 0 0) (ref 20 0 0 0 0 0 0) (ref 40 0 0 0 0 0 0) ∷ []) ([]) ([]))
    (becomes (lists' 0 (step 4 3 (ref 33 0 0 3 0 0 0) (ref 17 0 0 1 0 0 0) (ref 20 0 0 1 0 0 0) (ref 40 0 0 3 0 0 0) ∷ []) ([]) ([]))) ∷
    -- list-dims-of-sub-and-mul
    walk_vector
    (node 16 0 0 0 0 0 ∷ node 22 0 0 0 0 0 ∷ node 18 1 0 0 0 0 ∷ node 17 0 0 0 0 0 ∷ [])
    (root 0 ∷ root 1 ∷ root 2 ∷ root 3 ∷ [])
    (3 ∷ 4 ∷ 0 ∷ 2 ∷ 0 ∷ 0 ∷ 0 ∷ 1 ∷ 0 ∷ 1 ∷ 0 ∷ 1 ∷ 0 ∷ 1 ∷ 0 ∷ 0 ∷ 0 ∷ 0 ∷ 0 ∷ 0 ∷ 0 ∷ 1 ∷ 0 ∷ 2 ∷ 0 ∷ 0 ∷ 0 ∷ 2 ∷ 0 ∷ 2 ∷ 0 ∷ 0 ∷ 0 ∷ 4 ∷ [])
    dims
    (lists' 0 (step 2 2 (ref 33 0 0 0 0 0 0) (ref 16 0 0 0 0 0 0) (ref 19 0 1 0 0 0 0) blank ∷ []) (step 3 2 (ref 33 0 1 0 0 0 0) (ref 19 0 1 0 0 0 0) (ref 19 0 0 0 0 0 0) blank ∷ []) ([]))
    (becomes (lists' 0 (step 2 2 (ref 33 0 0 3 0 0 0) (ref 16 0 0 1 0 0 0) (ref 19 0 1 3 0 0 0) blank ∷ []) (step 3 2 (ref 33 0 1 3 0 0 0) (ref 19 0 1 3 0 0 0) (ref 19 0 0 1 0 0 0) blank ∷ []) ([]))) ∷
    -- list-dims-of-trees
    walk_vector
    (node 16 0 0 0 0 0 ∷ node 22 0 0 0 0 0 ∷ node 18 1 0 0 0 0 ∷ node 17 0 0 0 0 0 ∷ [])
    (root 0 ∷ root 1 ∷ root 2 ∷ root 3 ∷ [])
    (3 ∷ 4 ∷ 0 ∷ 2 ∷ 0 ∷ 0 ∷ 0 ∷ 1 ∷ 0 ∷ 1 ∷ 0 ∷ 1 ∷ 0 ∷ 1 ∷ 0 ∷ 0 ∷ 0 ∷ 0 ∷ 0 ∷ 0 ∷ 0 ∷ 1 ∷ 0 ∷ 2 ∷ 0 ∷ 0 ∷ 0 ∷ 2 ∷ 0 ∷ 2 ∷ 0 ∷ 0 ∷ 0 ∷ 4 ∷ [])
    dims
    (lists' 0 (step 4 3 (ref 33 0 0 0 0 0 0) (ref 36 0 0 1 0 0 0) (ref 37 0 0 2 0 0 0) (ref 39 0 9 5 0 0 0) ∷ []) ([]) ([]))
    (becomes (lists' 0 (step 4 3 (ref 33 0 0 5 0 0 0) (ref 36 0 0 1 0 0 0) (ref 37 0 0 2 0 0 0) (ref 39 0 9 5 0 0 0) ∷ []) ([]) ([]))) ∷
    -- list-dims-tree-of-dimension-0
    walk_vector
    (node 16 0 0 0 0 0 ∷ node 22 0 0 0 0 0 ∷ node 18 1 0 0 0 0 ∷ node 17 0 0 0 0 0 ∷ [])
    (root 0 ∷ root 1 ∷ root 2 ∷ root 3 ∷ [])
    (3 ∷ 4 ∷ 0 ∷ 2 ∷ 0 ∷ 0 ∷ 0 ∷ 1 ∷ 0 ∷ 1 ∷ 0 ∷ 1 ∷ 0 ∷ 1 ∷ 0 ∷ 0 ∷ 0 ∷ 0 ∷ 0 ∷ 0 ∷ 0 ∷ 1 ∷ 0 ∷ 2 ∷ 0 ∷ 0 ∷ 0 ∷ 2 ∷ 0 ∷ 2 ∷ 0 ∷ 0 ∷ 0 ∷ 4 ∷ [])
    dims
    (lists' 0 (step 8 1 (ref 33 0 0 0 0 0 0) (ref 39 0 0 0 0 0 0) blank blank ∷ []) ([]) ([]))
    (no_more 12) ∷
    -- list-dims-fields-stay
    walk_vector
    (node 16 0 0 0 0 0 ∷ node 22 0 0 0 0 0 ∷ node 18 1 0 0 0 0 ∷ node 17 0 0 0 0 0 ∷ [])
    (root 0 ∷ root 1 ∷ root 2 ∷ root 3 ∷ [])
    (3 ∷ 4 ∷ 0 ∷ 2 ∷ 0 ∷ 0 ∷ 0 ∷ 1 ∷ 0 ∷ 1 ∷ 0 ∷ 1 ∷ 0 ∷ 1 ∷ 0 ∷ 0 ∷ 0 ∷ 0 ∷ 0 ∷ 0 ∷ 0 ∷ 1 ∷ 0 ∷ 2 ∷ 0 ∷ 0 ∷ 0 ∷ 2 ∷ 0 ∷ 2 ∷ 0 ∷ 0 ∷ 0 ∷ 4 ∷ [])
    dims
    (lists' 0 (step 8 1 (ref 33 0 7 0 1 2 3) (ref 17 1 9 9 4 5 6) blank blank ∷ []) ([]) ([]))
    (becomes (lists' 0 (step 8 1 (ref 33 0 7 1 1 2 3) (ref 17 1 9 1 4 5 6) blank blank ∷ []) ([]) ([]))) ∷
    -- list-dims-primed-and-not
    walk_vector
    (node 16 0 0 0 0 0 ∷ node 22 0 0 0 0 0 ∷ node 18 1 0 0 0 0 ∷ node 17 0 0 0 0 0 ∷ [])
    (root 0 ∷ root 1 ∷ root 2 ∷ root 3 ∷ [])
    (3 ∷ 4 ∷ 0 ∷ 2 ∷ 0 ∷ 0 ∷ 0 ∷ 1 ∷ 0 ∷ 1 ∷ 0 ∷ 1 ∷ 0 ∷ 1 ∷ 0 ∷ 0 ∷ 0 ∷ 0 ∷ 0 ∷ 0 ∷ 0 ∷ 1 ∷ 0 ∷ 2 ∷ 0 ∷ 0 ∷ 0 ∷ 2 ∷ 0 ∷ 2 ∷ 0 ∷ 0 ∷ 0 ∷ 4 ∷ [])
    dims
    (lists' 0 (step 8 1 (ref 32 1 0 0 0 0 0) (ref 16 0 0 0 0 0 0) blank blank ∷ []) (step 8 1 (ref 32 0 1 0 0 0 0) (ref 32 0 0 0 0 0 0) blank blank ∷ []) ([]))
    (becomes (lists' 0 (step 8 1 (ref 32 1 0 1 0 0 0) (ref 16 0 0 1 0 0 0) blank blank ∷ []) (step 8 1 (ref 32 0 1 1 0 0 0) (ref 32 0 0 1 0 0 0) blank blank ∷ []) ([]))) ∷
    -- list-dims-read-in-its-own-step
    walk_vector
    (node 16 0 0 0 0 0 ∷ node 22 0 0 0 0 0 ∷ node 18 1 0 0 0 0 ∷ node 17 0 0 0 0 0 ∷ [])
    (root 0 ∷ root 1 ∷ root 2 ∷ root 3 ∷ [])
    (3 ∷ 4 ∷ 0 ∷ 2 ∷ 0 ∷ 0 ∷ 0 ∷ 1 ∷ 0 ∷ 1 ∷ 0 ∷ 1 ∷ 0 ∷ 1 ∷ 0 ∷ 0 ∷ 0 ∷ 0 ∷ 0 ∷ 0 ∷ 0 ∷ 1 ∷ 0 ∷ 2 ∷ 0 ∷ 0 ∷ 0 ∷ 2 ∷ 0 ∷ 2 ∷ 0 ∷ 0 ∷ 0 ∷ 4 ∷ [])
    dims
    (lists' 0 (step 1 2 (ref 32 0 0 0 0 0 0) (ref 16 0 0 0 0 0 0) (ref 32 0 0 0 0 0 0) blank ∷ []) ([]) ([]))
    (no_more 10) ∷
    -- list-dims-unwritten-in-i
    walk_vector
    (node 16 0 0 0 0 0 ∷ node 22 0 0 0 0 0 ∷ node 18 1 0 0 0 0 ∷ node 17 0 0 0 0 0 ∷ [])
    (root 0 ∷ root 1 ∷ root 2 ∷ root 3 ∷ [])
    (3 ∷ 4 ∷ 0 ∷ 2 ∷ 0 ∷ 0 ∷ 0 ∷ 1 ∷ 0 ∷ 1 ∷ 0 ∷ 1 ∷ 0 ∷ 1 ∷ 0 ∷ 0 ∷ 0 ∷ 0 ∷ 0 ∷ 0 ∷ 0 ∷ 1 ∷ 0 ∷ 2 ∷ 0 ∷ 0 ∷ 0 ∷ 2 ∷ 0 ∷ 2 ∷ 0 ∷ 0 ∷ 0 ∷ 4 ∷ [])
    dims
    (lists' 0 (step 8 1 (ref 32 0 1 0 0 0 0) (ref 16 0 0 0 0 0 0) blank blank ∷ []) (step 8 1 (ref 33 0 0 0 0 0 0) (ref 32 0 0 0 0 0 0) blank blank ∷ []) ([]))
    (no_more 10) ∷
    -- list-dims-exp-is-not-read
    walk_vector
    (node 16 0 0 0 0 0 ∷ node 22 0 0 0 0 0 ∷ node 18 1 0 0 0 0 ∷ node 17 0 0 0 0 0 ∷ [])
    (root 0 ∷ root 1 ∷ root 2 ∷ root 3 ∷ [])
    (3 ∷ 4 ∷ 0 ∷ 2 ∷ 0 ∷ 0 ∷ 0 ∷ 1 ∷ 0 ∷ 1 ∷ 0 ∷ 1 ∷ 0 ∷ 1 ∷ 0 ∷ 0 ∷ 0 ∷ 0 ∷ 0 ∷ 0 ∷ 0 ∷ 1 ∷ 0 ∷ 2 ∷ 0 ∷ 0 ∷ 0 ∷ 2 ∷ 0 ∷ 2 ∷ 0 ∷ 0 ∷ 0 ∷ 4 ∷ [])
    dims
    (lists' 0 (step 8 1 (ref 18 0 0 0 0 0 0) (ref 16 0 0 0 0 0 0) blank blank ∷ []) (step 8 1 (ref 33 0 0 0 0 0 0) (ref 18 0 0 0 0 0 0) blank blank ∷ []) ([]))
    (no_more 10) ∷
    -- random-1-008-dims-generated
    walk_vector
    (node 17 256 0 0 0 0 ∷ node 22 256 0 0 0 0 ∷ node 16 0 0 0 0 0 ∷ node 3 0 2 1 2 0 ∷ node 22 65535 0 0 0 0 ∷ node 2 0 2 3 4 0 ∷ [])
    (root 5 ∷ [])
    (23 ∷ 27 ∷ 0 ∷ 0 ∷ 0 ∷ 0 ∷ 0 ∷ 0 ∷ 0 ∷ 3 ∷ 0 ∷ 3 ∷ 0 ∷ 0 ∷ 0 ∷ 0 ∷ 0 ∷ 0 ∷ 0 ∷ 0 ∷ 0 ∷ 0 ∷ 0 ∷ 3 ∷ 0 ∷ 3 ∷ 0 ∷ 0 ∷ 0 ∷ 7 ∷ 0 ∷ 3 ∷ 0 ∷ 0 ∷ 0 ∷ 0 ∷ 0 ∷ 0 ∷ [])
    dims
    (lists' 1 (step 3 2 (ref 32 0 0 0 0 0 0) (ref 22 0 256 0 0 0 0) (ref 16 1 0 0 0 0 0) blank ∷ step 2 2 (ref 18 0 0 0 0 0 0) (ref 32 0 0 0 0 0 0) (ref 22 0 65535 0 0 0 0) blank ∷ []) (step 3 2 (ref 32 0 0 0 0 0 0) (ref 22 0 256 0 0 0 0) (ref 16 1 0 0 0 0 0) blank ∷ step 2 2 (ref 18 0 0 0 0 0 0) (ref 32 0 0 0 0 0 0) (ref 22 0 65535 0 0 0 0) blank ∷ []) (step 3 2 (ref 32 0 0 0 0 0 0) (ref 22 0 256 0 0 0 0) (ref 16 1 0 0 0 0 0) blank ∷ step 2 2 (ref 18 0 0 0 0 0 0) (ref 32 0 0 0 0 0 0) (ref 22 0 65535 0 0 0 0) blank ∷ []))
    (becomes (lists' 1 (step 3 2 (ref 32 0 0 3 0 0 0) (ref 22 0 256 3 0 0 0) (ref 16 1 0 3 0 0 0) blank ∷ step 2 2 (ref 18 0 0 3 0 0 0) (ref 32 0 0 3 0 0 0) (ref 22 0 65535 3 0 0 0) blank ∷ []) (step 3 2 (ref 32 0 0 3 0 0 0) (ref 22 0 256 3 0 0 0) (ref 16 1 0 3 0 0 0) blank ∷ step 2 2 (ref 18 0 0 3 0 0 0) (ref 32 0 0 3 0 0 0) (ref 22 0 65535 3 0 0 0) blank ∷ []) (step 3 2 (ref 32 0 0 3 0 0 0) (ref 22 0 256 3 0 0 0) (ref 16 1 0 3 0 0 0) blank ∷ step 2 2 (ref 18 0 0 3 0 0 0) (ref 32 0 0 3 0 0 0) (ref 22 0 65535 3 0 0 0) blank ∷ []))) ∷
    -- random-1-010-dims_first-generated
    walk_vector
    (node 17 0 0 0 0 0 ∷ node 7 0 1 0 0 0 ∷ node 24 0 0 0 0 0 ∷ [])
    (root 2 ∷ [])
    (10 ∷ 11 ∷ 0 ∷ 0 ∷ 0 ∷ 2 ∷ 0 ∷ 4 ∷ 0 ∷ 2 ∷ 0 ∷ 2 ∷ 0 ∷ 0 ∷ 0 ∷ 1 ∷ 0 ∷ 1 ∷ 0 ∷ 2 ∷ 0 ∷ 0 ∷ 0 ∷ 1 ∷ 0 ∷ 1 ∷ 0 ∷ 0 ∷ 0 ∷ 0 ∷ 0 ∷ 0 ∷ 0 ∷ 0 ∷ 0 ∷ 0 ∷ 0 ∷ 0 ∷ 0 ∷ 0 ∷ 0 ∷ 0 ∷ 0 ∷ 0 ∷ 0 ∷ 0 ∷ 0 ∷ 15 ∷ 0 ∷ 0 ∷ [])
    dims_first
    (lists' 0 (step 8 1 (ref 18 0 0 0 0 0 0) (ref 24 0 0 0 0 0 0) blank blank ∷ step 8 1 (ref 32 0 0 0 0 0 0) (ref 18 0 0 0 0 0 0) blank blank ∷ []) (step 8 1 (ref 18 0 0 0 0 0 0) (ref 24 0 0 0 0 0 0) blank blank ∷ step 8 1 (ref 32 0 0 0 0 0 0) (ref 18 0 0 0 0 0 0) blank blank ∷ []) (step 8 1 (ref 18 0 0 0 0 0 0) (ref 24 0 0 0 0 0 0) blank blank ∷ step 8 1 (ref 32 0 0 0 0 0 0) (ref 18 0 0 0 0 0 0) blank blank ∷ []))
    (no_more 10) ∷
    -- random-1-026-dims-generated
    walk_vector
    (node 16 1 0 0 0 0 ∷ node 16 1 0 0 0 0 ∷ node 3 0 2 0 1 0 ∷ [])
    (root 2 ∷ [])
    (0 ∷ 3 ∷ 0 ∷ 3 ∷ 0 ∷ 6 ∷ 0 ∷ 5 ∷ 0 ∷ 3 ∷ 0 ∷ 3 ∷ 0 ∷ 0 ∷ 0 ∷ 3 ∷ 0 ∷ 1 ∷ 0 ∷ 1 ∷ 0 ∷ 0 ∷ 0 ∷ 1 ∷ 0 ∷ 1 ∷ 0 ∷ 0 ∷ 0 ∷ 0 ∷ 0 ∷ 0 ∷ 0 ∷ 0 ∷ 0 ∷ 0 ∷ 0 ∷ 0 ∷ 0 ∷ 0 ∷ 0 ∷ 0 ∷ 0 ∷ 0 ∷ 0 ∷ 0 ∷ 0 ∷ 0 ∷ 0 ∷ 0 ∷ 0 ∷ 0 ∷ 0 ∷ 0 ∷ 0 ∷ 0 ∷ 0 ∷ 0 ∷ 0 ∷ 7 ∷ 0 ∷ 0 ∷ [])
    dims
    (lists' 0 (step 3 2 (ref 18 0 0 0 0 0 0) (ref 16 1 1 0 0 0 0) (ref 16 0 1 0 0 0 0) blank ∷ step 8 1 (ref 34 0 2 0 0 0 0) (ref 18 0 0 0 0 0 0) blank blank ∷ []) (step 3 2 (ref 18 0 0 0 0 0 0) (ref 16 1 1 0 0 0 0) (ref 16 0 1 0 0 0 0) blank ∷ step 8 1 (ref 34 0 2 0 0 0 0) (ref 18 0 0 0 0 0 0) blank blank ∷ []) (step 3 2 (ref 18 0 0 0 0 0 0) (ref 16 1 1 0 0 0 0) (ref 16 0 1 0 0 0 0) blank ∷ step 8 1 (ref 34 0 2 0 0 0 0) (ref 18 0 0 0 0 0 0) blank blank ∷ []))
    (no_more 10) ∷
    -- random-1-028-dims_first-generated
    walk_vector
    (node 16 1 0 0 0 0 ∷ node 16 0 0 0 0 0 ∷ node 16 1 0 0 0 0 ∷ node 26 0 0 0 0 0 ∷ node 7 0 1 2 0 0 ∷ node 4 0 3 1 4 0 ∷ node 1 0 2 3 5 0 ∷ node 16 1 0 0 0 0 ∷ node 1 0 2 6 7 0 ∷ node 16 1 0 0 0 0 ∷ node 17 256 0 0 0 0 ∷ node 2 0 2 8 9 0 ∷ node 3 0 2 11 10 0 ∷ node 18 0 0 0 0 0 ∷ [])
    (root 12 ∷ [])
    (23 ∷ 25 ∷ 0 ∷ 2 ∷ 0 ∷ 0 ∷ 0 ∷ 5 ∷ 0 ∷ 2 ∷ 0 ∷ 2 ∷ 0 ∷ 0 ∷ 0 ∷ 0 ∷ 0 ∷ 2 ∷ 0 ∷ 2 ∷ 0 ∷ 1 ∷ 0 ∷ 1 ∷ 0 ∷ 1 ∷ 0 ∷ 0 ∷ 0 ∷ 0 ∷ 0 ∷ 0 ∷ 0 ∷ 0 ∷ 0 ∷ 0 ∷ 0 ∷ 0 ∷ 0 ∷ 0 ∷ 0 ∷ 0 ∷ 0 ∷ 0 ∷ 0 ∷ 6 ∷ 0 ∷ 1 ∷ 0 ∷ 0 ∷ [])
    dims_first
    (lists' 5 (step 2 2 (ref 32 0 0 0 0 0 0) (ref 20 0 0 0 0 0 0) (ref 16 0 1 0 0 0 0) blank ∷ step 4 3 (ref 32 0 1 0 0 0 0) (ref 16 0 0 0 0 0 0) (ref 32 0 0 0 0 0 0) (ref 16 1 1 0 0 0 0) ∷ step 1 2 (ref 32 0 2 0 0 0 0) (ref 26 0 0 0 0 0 0) (ref 32 0 1 0 0 0 0) blank ∷ step 1 2 (ref 32 0 3 0 0 0 0) (ref 32 0 2 0 0 0 0) (ref 16 0 1 0 0 0 0) blank ∷ step 2 2 (ref 32 0 4 0 0 0 0) (ref 32 0 3 0 0 0 0) (ref 16 0 1 0 0 0 0) blank ∷ step 3 2 (ref 18 0 0 0 0 0 0) (ref 32 0 4 0 0 0 0) (ref 17 0 256 0 0 0 0) blank ∷ []) (step 2 2 (ref 32 0 0 0 0 0 0) (ref 20 0 0 0 0 0 0) (ref 16 0 1 0 0 0 0) blank ∷ step 4 3 (ref 32 0 1 0 0 0 0) (ref 16 0 0 0 0 0 0) (ref 32 0 0 0 0 0 0) (ref 16 1 1 0 0 0 0) ∷ step 1 2 (ref 32 0 2 0 0 0 0) (ref 26 0 0 0 0 0 0) (ref 32 0 1 0 0 0 0) blank ∷ step 1 2 (ref 32 0 3 0 0 0 0) (ref 32 0 2 0 0 0 0) (ref 16 0 1 0 0 0 0) blank ∷ step 2 2 (ref 32 0 4 0 0 0 0) (ref 32 0 3 0 0 0 0) (ref 16 0 1 0 0 0 0) blank ∷ step 3 2 (ref 18 0 0 0 0 0 0) (ref 32 0 4 0 0 0 0) (ref 17 0 256 0 0 0 0) blank ∷ []) (step 2 2 (ref 32 0 0 0 0 0 0) (ref 20 0 0 0 0 0 0) (ref 16 0 1 0 0 0 0) blank ∷ step 4 3 (ref 32 0 1 0 0 0 0) (ref 16 0 0 0 0 0 0) (ref 32 0 0 0 0 0 0) (ref 16 1 1 0 0 0 0) ∷ step 1 2 (ref 32 0 2 0 0 0 0) (ref 26 0 0 0 0 0 0) (ref 32 0 1 0 0 0 0) blank ∷ step 1 2 (ref 32 0 3 0 0 0 0) (ref 32 0 2 0 0 0 0) (ref 16 0 1 0 0 0 0) blank ∷ step 2 2 (ref 32 0 4 0 0 0 0) (ref 32 0 3 0 0 0 0) (ref 16 0 1 0 0 0 0) blank ∷ step 3 2 (ref 18 0 0 0 0 0 0) (ref 32 0 4 0 0 0 0) (ref 17 0 256 0 0 0 0) blank ∷ []))
    (becomes (lists' 5 (step 2 2 (ref 32 0 0 1 0 0 0) (ref 20 0 0 1 0 0 0) (ref 16 0 1 1 0 0 0) blank ∷ step 4 3 (ref 32 0 1 1 0 0 0) (ref 16 0 0 1 0 0 0) (ref 32 0 0 1 0 0 0) (ref 16 1 1 1 0 0 0) ∷ step 1 2 (ref 32 0 2 3 0 0 0) (ref 26 0 0 3 0 0 0) (ref 32 0 1 1 0 0 0) blank ∷ step 1 2 (ref 32 0 3 3 0 0 0) (ref 32 0 2 3 0 0 0) (ref 16 0 1 1 0 0 0) blank ∷ step 2 2 (ref 32 0 4 3 0 0 0) (ref 32 0 3 3 0 0 0) (ref 16 0 1 1 0 0 0) blank ∷ step 3 2 (ref 18 0 0 3 0 0 0) (ref 32 0 4 3 0 0 0) (ref 17 0 256 1 0 0 0) blank ∷ []) (step 2 2 (ref 32 0 0 0 0 0 0) (ref 20 0 0 0 0 0 0) (ref 16 0 1 0 0 0 0) blank ∷ step 4 3 (ref 32 0 1 0 0 0 0) (ref 16 0 0 0 0 0 0) (ref 32 0 0 0 0 0 0) (ref 16 1 1 0 0 0 0) ∷ step 1 2 (ref 32 0 2 0 0 0 0) (ref 26 0 0 0 0 0 0) (ref 32 0 1 0 0 0 0) blank ∷ step 1 2 (ref 32 0 3 0 0 0 0) (ref 32 0 2 0 0 0 0) (ref 16 0 1 0 0 0 0) blank ∷ step 2 2 (ref 32 0 4 0 0 0 0) (ref 32 0 3 0 0 0 0) (ref 16 0 1 0 0 0 0) blank ∷ step 3 2 (ref 18 0 0 0 0 0 0) (ref 32 0 4 0 0 0 0) (ref 17 0 256 0 0 0 0) blank ∷ []) (step 2 2 (ref 32 0 0 0 0 0 0) (ref 20 0 0 0 0 0 0) (ref 16 0 1 0 0 0 0) blank ∷ step 4 3 (ref 32 0 1 0 0 0 0) (ref 16 0 0 0 0 0 0) (ref 32 0 0 0 0 0 0) (ref 16 1 1 0 0 0 0) ∷ step 1 2 (ref 32 0 2 0 0 0 0) (ref 26 0 0 0 0 0 0) (ref 32 0 1 0 0 0 0) blank ∷ step 1 2 (ref 32 0 3 0 0 0 0) (ref 32 0 2 0 0 0 0) (ref 16 0 1 0 0 0 0) blank ∷ step 2 2 (ref 32 0 4 0 0 0 0) (ref 32 0 3 0 0 0 0) (ref 16 0 1 0 0 0 0) blank ∷ step 3 2 (ref 18 0 0 0 0 0 0) (ref 32 0 4 0 0 0 0) (ref 17 0 256 0 0 0 0) blank ∷ []))) ∷
    -- random-1-029-dims_first-any
    walk_vector
    (node 16 1 0 0 0 0 ∷ node 25 0 0 0 0 0 ∷ node 5 0 1 0 0 0 ∷ node 16 2 0 0 0 0 ∷ node 5 0 1 3 0 0 ∷ node 16 1 0 0 0 0 ∷ node 16 1 0 0 0 0 ∷ node 16 2 0 0 0 0 ∷ node 1 0 2 1 6 0 ∷ node 19 0 0 0 0 0 ∷ node 4 0 3 8 5 4 ∷ node 6 0 1 9 0 0 ∷ node 22 3 0 0 0 0 ∷ node 17 1 0 0 0 0 ∷ node 16 2 0 0 0 0 ∷ node 1 0 2 14 2 0 ∷ node 1 0 2 15 11 0 ∷ node 1 0 2 13 10 0 ∷ node 3 0 2 12 17 0 ∷ [])
    (root 18 ∷ root 7 ∷ [])
    (0 ∷ 2 ∷ 0 ∷ 3 ∷ 0 ∷ 0 ∷ 0 ∷ 0 ∷ 0 ∷ 0 ∷ 0 ∷ 0 ∷ 0 ∷ 1 ∷ 0 ∷ 0 ∷ 0 ∷ 0 ∷ 0 ∷ 0 ∷ 0 ∷ 0 ∷ 0 ∷ 3 ∷ 0 ∷ 3 ∷ 0 ∷ 1 ∷ 0 ∷ 5 ∷ 0 ∷ 7 ∷ 0 ∷ 1 ∷ 0 ∷ 1 ∷ 0 ∷ 0 ∷ [])
    dims_first
    (lists' 9 (step 2 2 (ref 38 0 2 2 0 0 0) (ref 18 0 1 0 0 0 0) (ref 37 0 0 1 0 0 0) blank ∷ []) (step 3 2 (ref 34 0 1 2 0 0 0) (ref 26 0 0 0 0 0 0) (ref 19 0 2 0 0 0 0) blank ∷ step 2 2 (ref 18 0 0 0 0 0 0) (ref 17 0 2 0 0 0 0) (ref 16 0 1 0 0 0 0) blank ∷ step 1 2 (ref 20 0 0 0 0 0 0) (ref 34 0 3 3 0 0 0) (ref 18 0 0 0 0 0 0) blank ∷ []) ([]))
    (no_more 10) ∷
    -- random-1-044-dims-generated
    walk_vector
    (node 18 0 0 0 0 0 ∷ node 16 2 0 0 0 0 ∷ node 16 0 0 0 0 0 ∷ node 7 0 1 1 0 0 ∷ node 5 0 1 0 0 0 ∷ node 4 0 3 3 4 2 ∷ node 17 3 0 0 0 0 ∷ node 21 256 0 0 0 0 ∷ node 25 0 0 0 0 0 ∷ node 4 0 3 5 7 8 ∷ node 16 0 0 0 0 0 ∷ node 18 0 0 0 0 0 ∷ node 17 0 0 0 0 0 ∷ node 1 0 2 12 6 0 ∷ node 2 0 2 9 11 0 ∷ node 5 0 1 10 0 0 ∷ node 3 0 2 13 15 0 ∷ [])
    (root 16 ∷ [])
    (1 ∷ 4 ∷ 0 ∷ 3 ∷ 0 ∷ 0 ∷ 0 ∷ 1 ∷ 0 ∷ 1 ∷ 0 ∷ 1 ∷ 0 ∷ 0 ∷ 0 ∷ 0 ∷ 0 ∷ 0 ∷ 0 ∷ 0 ∷ 0 ∷ 1 ∷ 0 ∷ 2 ∷ 0 ∷ 2 ∷ 0 ∷ 0 ∷ 0 ∷ 3 ∷ 0 ∷ 1 ∷ 0 ∷ 9 ∷ 0 ∷ 0 ∷ 0 ∷ 0 ∷ [])
    dims
    (lists' 2 (step 1 2 (ref 32 0 0 0 0 0 0) (ref 17 1 0 0 0 0 0) (ref 17 1 3 0 0 0 0) blank ∷ step 1 2 (ref 32 0 1 0 0 0 0) (ref 16 1 0 0 0 0 0) (ref 20 0 0 0 0 0 0) blank ∷ step 3 2 (ref 18 1 0 0 0 0 0) (ref 32 0 0 0 0 0 0) (ref 32 0 1 0 0 0 0) blank ∷ []) (step 1 2 (ref 32 0 0 0 0 0 0) (ref 17 1 0 0 0 0 0) (ref 17 1 3 0 0 0 0) blank ∷ step 1 2 (ref 32 0 1 0 0 0 0) (ref 16 1 0 0 0 0 0) (ref 20 0 0 0 0 0 0) blank ∷ step 3 2 (ref 18 1 0 0 0 0 0) (ref 32 0 0 0 0 0 0) (ref 32 0 1 0 0 0 0) blank ∷ []) (step 1 2 (ref 32 0 0 0 0 0 0) (ref 17 1 0 0 0 0 0) (ref 17 1 3 0 0 0 0) blank ∷ step 1 2 (ref 32 0 1 0 0 0 0) (ref 16 1 0 0 0 0 0) (ref 20 0 0 0 0 0 0) blank ∷ step 3 2 (ref 18 1 0 0 0 0 0) (ref 32 0 0 0 0 0 0) (ref 32 0 1 0 0 0 0) blank ∷ []))
    (becomes (lists' 2 (step 1 2 (ref 32 0 0 1 0 0 0) (ref 17 1 0 1 0 0 0) (ref 17 1 3 1 0 0 0) blank ∷ step 1 2 (ref 32 0 1 1 0 0 0) (ref 16 1 0 1 0 0 0) (ref 20 0 0 1 0 0 0) blank ∷ step 3 2 (ref 18 1 0 1 0 0 0) (ref 32 0 0 1 0 0 0) (ref 32 0 1 1 0 0 0) blank ∷ []) (step 1 2 (ref 32 0 0 1 0 0 0) (ref 17 1 0 1 0 0 0) (ref 17 1 3 1 0 0 0) blank ∷ step 1 2 (ref 32 0 1 1 0 0 0) (ref 16 1 0 1 0 0 0) (ref 20 0 0 1 0 0 0) blank ∷ step 3 2 (ref 18 1 0 1 0 0 0) (ref 32 0 0 1 0 0 0) (ref 32 0 1 1 0 0 0) blank ∷ []) (step 1 2 (ref 32 0 0 1 0 0 0) (ref 17 1 0 1 0 0 0) (ref 17 1 3 1 0 0 0) blank ∷ step 1 2 (ref 32 0 1 1 0 0 0) (ref 16 1 0 1 0 0 0) (ref 20 0 0 1 0 0 0) blank ∷ step 3 2 (ref 18 1 0 1 0 0 0) (ref 32 0 0 1 0 0 0) (ref 32 0 1 1 0 0 0) blank ∷ []))) ∷
    -- random-1-045-dims-any
    walk_vector
    (node 17 256 0 0 0 0 ∷ node 23 1 0 0 0 0 ∷ node 16 1 0 0 0 0 ∷ node 17 0 0 0 0 0 ∷ node 22 65535 0 0 0 0 ∷ node 3 0 2 3 2 0 ∷ node 24 0 0 0 0 0 ∷ node 1 0 2 5 1 0 ∷ node 17 3 0 0 0 0 ∷ node 26 0 0 0 0 0 ∷ node 1 0 2 4 0 0 ∷ node 22 0 0 0 0 0 ∷ node 7 0 1 6 0 0 ∷ node 16 2 0 0 0 0 ∷ node 3 0 2 9 13 0 ∷ node 1 0 2 14 12 0 ∷ node 5 0 1 11 0 0 ∷ node 7 0 1 10 0 0 ∷ node 3 0 2 7 8 0 ∷ node 2 0 2 17 18 0 ∷ [])
    (root 15 ∷ root 19 ∷ root 16 ∷ [])
    (23 ∷ 27 ∷ 0 ∷ 4 ∷ 0 ∷ 0 ∷ 0 ∷ 3 ∷ 0 ∷ 3 ∷ 0 ∷ 3 ∷ 0 ∷ 2 ∷ 0 ∷ 0 ∷ 0 ∷ 2 ∷ 0 ∷ 1 ∷ 0 ∷ 0 ∷ 0 ∷ 3 ∷ 0 ∷ 3 ∷ 0 ∷ 1 ∷ 0 ∷ 2 ∷ 0 ∷ 2 ∷ 0 ∷ 2 ∷ 0 ∷ 1 ∷ 0 ∷ 2 ∷ 0 ∷ 6 ∷ 0 ∷ 10 ∷ 0 ∷ 9 ∷ 0 ∷ 0 ∷ 0 ∷ 2 ∷ 0 ∷ 0 ∷ [])
    dims
    (lists' 0 ([]) (step 4 3 (ref 32 0 3 0 0 0 0) (ref 25 1 0 0 0 0 0) (ref 25 0 0 0 0 0 0) (ref 22 0 2 0 0 0 0) ∷ step 4 3 (ref 32 0 3 0 0 0 0) (ref 25 1 0 0 0 0 0) (ref 32 0 3 0 0 0 0) (ref 21 1 2 2 0 9 3) ∷ step 2 2 (ref 34 0 1 1 0 0 0) (ref 23 0 2 0 0 0 0) (ref 38 0 0 2 0 0 0) blank ∷ []) (step 2 2 (ref 33 0 2 0 0 0 0) (ref 20 0 0 0 0 0 0) (ref 38 1 3 0 0 0 0) blank ∷ []))
    (no_more 12) ∷
    -- random-1-046-dims_first-generated
    walk_vector
    (node 18 0 0 0 0 0 ∷ node 16 0 0 0 0 0 ∷ node 7 0 1 0 0 0 ∷ node 17 0 0 0 0 0 ∷ node 16 0 0 0 0 0 ∷ node 3 0 2 4 1 0 ∷ node 18 0 0 0 0 0 ∷ node 18 0 0 0 0 0 ∷ node 7 0 1 7 0 0 ∷ node 4 0 3 6 3 8 ∷ node 1 0 2 9 2 0 ∷ [])
    (root 5 ∷ [])
    (0 ∷ 4 ∷ 0 ∷ 1 ∷ 0 ∷ 0 ∷ 0 ∷ 0 ∷ 0 ∷ 3 ∷ 0 ∷ 3 ∷ 0 ∷ 0 ∷ 0 ∷ 0 ∷ 0 ∷ 0 ∷ 0 ∷ 0 ∷ 0 ∷ 0 ∷ 0 ∷ 1 ∷ 0 ∷ 1 ∷ 0 ∷ 9 ∷ 0 ∷ 0 ∷ [])
    dims_first
    (lists' 0 (step 3 2 (ref 18 0 0 0 0 0 0) (ref 16 0 0 0 0 0 0) (ref 16 0 0 0 0 0 0) blank ∷ step 8 1 (ref 16 0 0 0 0 0 0) (ref 18 0 0 0 0 0 0) blank blank ∷ []) (step 3 2 (ref 18 0 0 0 0 0 0) (ref 16 0 0 0 0 0 0) (ref 16 0 0 0 0 0 0) blank ∷ step 8 1 (ref 16 0 0 0 0 0 0) (ref 18 0 0 0 0 0 0) blank blank ∷ []) (step 3 2 (ref 18 0 0 0 0 0 0) (ref 16 0 0 0 0 0 0) (ref 16 0 0 0 0 0 0) blank ∷ step 8 1 (ref 16 0 0 0 0 0 0) (ref 18 0 0 0 0 0 0) blank blank ∷ []))
    (no_more 10) ∷
    -- random-1-047-dims_first-any
    walk_vector
    (node 16 0 0 0 0 0 ∷ node 16 0 0 0 0 0 ∷ node 16 0 0 0 0 0 ∷ node 1 0 2 2 1 0 ∷ node 1 0 2 3 0 0 ∷ node 17 1 0 0 0 0 ∷ node 17 0 0 0 0 0 ∷ node 5 0 1 4 0 0 ∷ node 21 1 0 0 0 0 ∷ node 25 0 0 0 0 0 ∷ node 6 0 1 8 0 0 ∷ node 3 0 2 7 6 0 ∷ node 2 0 2 11 10 0 ∷ [])
    (root 12 ∷ [])
    (23 ∷ 26 ∷ 0 ∷ 1 ∷ 0 ∷ 0 ∷ 0 ∷ 0 ∷ 0 ∷ 3 ∷ 0 ∷ 3 ∷ 0 ∷ 0 ∷ 0 ∷ 0 ∷ 0 ∷ 0 ∷ 0 ∷ 0 ∷ 0 ∷ 0 ∷ 0 ∷ 2 ∷ 0 ∷ 2 ∷ 0 ∷ 3 ∷ 0 ∷ 2 ∷ 0 ∷ 0 ∷ 0 ∷ 0 ∷ [])
    dims_first
    (lists' 1 ([]) (step 3 1 (ref 32 0 2 0 0 0 0) (ref 19 0 0 0 0 0 0) blank blank ∷ step 2 2 (ref 18 0 0 0 0 0 0) (ref 32 0 2 0 0 0 0) (ref 32 0 2 0 0 0 0) blank ∷ step 2 2 (ref 32 0 3 0 0 0 0) (ref 16 0 3 0 0 0 0) (ref 34 1 1 3 0 0 0) blank ∷ []) (step 3 2 (ref 16 0 500 0 0 0 0) (ref 18 1 0 0 0 0 0) (ref 18 0 0 0 0 0 0) blank ∷ []))
    (becomes (lists' 1 ([]) (step 3 1 (ref 32 0 2 0 0 0 0) (ref 19 0 0 0 0 0 0) blank blank ∷ step 2 2 (ref 18 0 0 0 0 0 0) (ref 32 0 2 0 0 0 0) (ref 32 0 2 0 0 0 0) blank ∷ step 2 2 (ref 32 0 3 0 0 0 0) (ref 16 0 3 0 0 0 0) (ref 34 1 1 3 0 0 0) blank ∷ []) (step 3 2 (ref 16 0 500 0 0 0 0) (ref 18 1 0 0 0 0 0) (ref 18 0 0 0 0 0 0) blank ∷ []))) ∷
    -- random-1-053-any-walk-plan-refused
    walk_vector
    (node 19 2 0 0 0 0 ∷ node 16 4 0 0 0 0 ∷ node 6 0 1 0 0 0 ∷ node 16 1 0 0 0 0 ∷ node 2 0 2 3 1 0 ∷ [])
    (root 4 ∷ [])
    (1 ∷ 1 ∷ 0 ∷ 2 ∷ 0 ∷ 4 ∷ 0 ∷ 3 ∷ 0 ∷ 1 ∷ 0 ∷ 1 ∷ 0 ∷ 0 ∷ 0 ∷ 2 ∷ 0 ∷ 0 ∷ 0 ∷ 1 ∷ 0 ∷ 0 ∷ 0 ∷ 3 ∷ 0 ∷ 3 ∷ 0 ∷ 0 ∷ 0 ∷ 0 ∷ 0 ∷ 0 ∷ 0 ∷ 0 ∷ 0 ∷ 0 ∷ 0 ∷ 0 ∷ 255 ∷ 255 ∷ 0 ∷ 0 ∷ 0 ∷ 0 ∷ 0 ∷ 0 ∷ 0 ∷ 8 ∷ 0 ∷ 20 ∷ 0 ∷ 21 ∷ 0 ∷ 0 ∷ 0 ∷ 0 ∷ 0 ∷ 0 ∷ [])
    dims
    (lists' 0 ([]) ([]) ([]))
    (no_more 3) ∷
    -- random-1-062-dims-generated
    walk_vector
    (node 25 0 0 0 0 0 ∷ node 24 0 0 0 0 0 ∷ node 1 0 2 0 1 0 ∷ node 16 3 0 0 0 0 ∷ node 5 0 1 3 0 0 ∷ node 20 0 0 0 0 0 ∷ node 17 0 0 0 0 0 ∷ node 1 0 2 4 6 0 ∷ node 5 0 1 7 0 0 ∷ node 18 1 0 0 0 0 ∷ node 3 0 2 2 8 0 ∷ node 6 0 1 10 0 0 ∷ node 18 1 0 0 0 0 ∷ [])
    (root 9 ∷ root 11 ∷ root 12 ∷ [])
    (0 ∷ 1 ∷ 0 ∷ 1 ∷ 0 ∷ 0 ∷ 0 ∷ 7 ∷ 0 ∷ 0 ∷ 0 ∷ 0 ∷ 0 ∷ 2 ∷ 0 ∷ 0 ∷ 0 ∷ 3 ∷ 0 ∷ 3 ∷ 0 ∷ 1 ∷ 0 ∷ 0 ∷ 0 ∷ 0 ∷ 0 ∷ 2 ∷ 0 ∷ 0 ∷ 0 ∷ 1 ∷ 0 ∷ 2 ∷ 0 ∷ 2 ∷ 0 ∷ 1 ∷ 0 ∷ 1 ∷ 0 ∷ 1 ∷ 0 ∷ 0 ∷ 0 ∷ 0 ∷ 0 ∷ 1 ∷ 0 ∷ 1 ∷ 0 ∷ 0 ∷ 0 ∷ 7 ∷ [])
    dims
    (lists' 5 (step 1 2 (ref 32 0 0 0 0 0 0) (ref 25 0 0 0 0 0 0) (ref 24 0 0 0 0 0 0) blank ∷ step 1 2 (ref 32 0 1 0 0 0 0) (ref 16 0 3 0 0 0 0) (ref 20 0 0 0 0 0 0) blank ∷ step 1 2 (ref 32 0 2 0 0 0 0) (ref 32 0 1 0 0 0 0) (ref 17 0 0 0 0 0 0) blank ∷ step 1 2 (ref 32 0 3 0 0 0 0) (ref 32 0 2 0 0 0 0) (ref 20 0 0 0 0 0 0) blank ∷ step 3 2 (ref 32 0 4 0 0 0 0) (ref 32 0 0 0 0 0 0) (ref 32 0 3 0 0 0 0) blank ∷ step 3 2 (ref 18 0 1 0 0 0 0) (ref 32 0 4 0 0 0 0) (ref 20 0 0 0 0 0 0) blank ∷ step 8 1 (ref 18 0 0 0 0 0 0) (ref 18 0 1 0 0 0 0) blank blank ∷ []) (step 1 2 (ref 32 0 0 0 0 0 0) (ref 25 0 0 0 0 0 0) (ref 24 0 0 0 0 0 0) blank ∷ step 1 2 (ref 32 0 1 0 0 0 0) (ref 16 0 3 0 0 0 0) (ref 20 0 0 0 0 0 0) blank ∷ step 1 2 (ref 32 0 2 0 0 0 0) (ref 32 0 1 0 0 0 0) (ref 17 0 0 0 0 0 0) blank ∷ step 1 2 (ref 32 0 3 0 0 0 0) (ref 32 0 2 0 0 0 0) (ref 20 0 0 0 0 0 0) blank ∷ step 3 2 (ref 32 0 4 0 0 0 0) (ref 32 0 0 0 0 0 0) (ref 32 0 3 0 0 0 0) blank ∷ step 3 2 (ref 18 0 1 0 0 0 0) (ref 32 0 4 0 0 0 0) (ref 20 0 0 0 0 0 0) blank ∷ step 8 1 (ref 18 0 0 0 0 0 0) (ref 18 0 1 0 0 0 0) blank blank ∷ []) (step 1 2 (ref 32 0 0 0 0 0 0) (ref 25 0 0 0 0 0 0) (ref 24 0 0 0 0 0 0) blank ∷ step 1 2 (ref 32 0 1 0 0 0 0) (ref 16 0 3 0 0 0 0) (ref 20 0 0 0 0 0 0) blank ∷ step 1 2 (ref 32 0 2 0 0 0 0) (ref 32 0 1 0 0 0 0) (ref 17 0 0 0 0 0 0) blank ∷ step 1 2 (ref 32 0 3 0 0 0 0) (ref 32 0 2 0 0 0 0) (ref 20 0 0 0 0 0 0) blank ∷ step 3 2 (ref 32 0 4 0 0 0 0) (ref 32 0 0 0 0 0 0) (ref 32 0 3 0 0 0 0) blank ∷ step 3 2 (ref 18 0 1 0 0 0 0) (ref 32 0 4 0 0 0 0) (ref 20 0 0 0 0 0 0) blank ∷ step 8 1 (ref 18 0 0 0 0 0 0) (ref 18 0 1 0 0 0 0) blank blank ∷ []))
    (no_more 10) ∷
    -- random-1-063-dims-any
    walk_vector
    (node 16 0 0 0 0 0 ∷ node 16 0 0 0 0 0 ∷ node 20 0 0 0 0 0 ∷ node 16 0 0 0 0 0 ∷ node 5 0 1 0 0 0 ∷ node 16 0 0 0 0 0 ∷ node 21 256 0 0 0 0 ∷ node 1 0 2 6 2 0 ∷ node 1 0 2 5 7 0 ∷ node 16 0 0 0 0 0 ∷ node 3 0 2 9 4 0 ∷ node 3 0 2 1 8 0 ∷ node 16 0 0 0 0 0 ∷ node 6 0 1 3 0 0 ∷ node 2 0 2 12 10 0 ∷ node 2 0 2 14 11 0 ∷ node 1 0 2 15 13 0 ∷ node 7 0 1 16 0 0 ∷ node 16 0 0 0 0 0 ∷ node 1 0 2 17 18 0 ∷ node 16 3 0 0 0 0 ∷ node 3 0 2 20 19 0 ∷ [])
    (root 21 ∷ [])
    (3 ∷ 6 ∷ 0 ∷ 1 ∷ 0 ∷ 2 ∷ 0 ∷ 3 ∷ 0 ∷ 2 ∷ 0 ∷ 2 ∷ 0 ∷ 0 ∷ 0 ∷ 1 ∷ 0 ∷ 1 ∷ 0 ∷ 1 ∷ 0 ∷ 0 ∷ 0 ∷ 3 ∷ 0 ∷ 3 ∷ 0 ∷ 0 ∷ 0 ∷ 0 ∷ 0 ∷ 0 ∷ 0 ∷ 0 ∷ 0 ∷ 0 ∷ 0 ∷ 0 ∷ 0 ∷ 0 ∷ 0 ∷ 0 ∷ 0 ∷ 1 ∷ 0 ∷ 16 ∷ 0 ∷ 7 ∷ 0 ∷ 0 ∷ 0 ∷ 0 ∷ 0 ∷ 0 ∷ [])
    dims
    (lists' 9 ([]) ([]) (step 1 2 (ref 34 1 3 2 0 0 0) (ref 26 0 0 0 0 0 0) (ref 34 0 0 3 0 0 0) blank ∷ step 1 2 (ref 33 0 2 3 11 2 5) (ref 16 0 4 0 0 0 0) (ref 25 0 0 0 0 0 0) blank ∷ []))
    (becomes (lists' 9 ([]) ([]) (step 1 2 (ref 34 1 3 3 0 0 0) (ref 26 0 0 3 0 0 0) (ref 34 0 0 3 0 0 0) blank ∷ step 1 2 (ref 33 0 2 3 11 2 5) (ref 16 0 4 3 0 0 0) (ref 25 0 0 3 0 0 0) blank ∷ []))) ∷
    -- random-1-064-dims_first-generated
    walk_vector
    (node 17 0 0 0 0 0 ∷ node 26 0 0 0 0 0 ∷ node 2 0 2 0 1 0 ∷ node 17 1 0 0 0 0 ∷ node 18 0 0 0 0 0 ∷ node 1 0 2 2 4 0 ∷ node 17 1 0 0 0 0 ∷ node 1 0 2 6 5 0 ∷ [])
    (root 3 ∷ [])
    (1 ∷ 4 ∷ 0 ∷ 4 ∷ 0 ∷ 2 ∷ 0 ∷ 5 ∷ 0 ∷ 0 ∷ 0 ∷ 0 ∷ 0 ∷ 0 ∷ 0 ∷ 1 ∷ 0 ∷ 2 ∷ 0 ∷ 1 ∷ 0 ∷ 1 ∷ 0 ∷ 0 ∷ 0 ∷ 0 ∷ 0 ∷ 0 ∷ 0 ∷ 0 ∷ 0 ∷ 0 ∷ 0 ∷ 0 ∷ 0 ∷ 0 ∷ 0 ∷ 0 ∷ 0 ∷ 0 ∷ 0 ∷ 0 ∷ 0 ∷ 0 ∷ 0 ∷ 0 ∷ 0 ∷ 0 ∷ 0 ∷ 0 ∷ [])
    dims_first
    (lists' 0 ([]) ([]) ([]))
    (becomes (lists' 0 ([]) ([]) ([]))) ∷
    -- random-1-065-dims_first-any
    walk_vector
    (node 16 0 0 0 0 0 ∷ node 6 0 1 0 0 0 ∷ node 17 3 0 0 0 0 ∷ node 3 0 2 1 2 0 ∷ node 16 0 0 0 0 0 ∷ node 16 0 0 0 0 0 ∷ node 1 0 2 4 3 0 ∷ node 25 0 0 0 0 0 ∷ node 3 0 2 5 7 0 ∷ node 16 0 0 0 0 0 ∷ node 1 0 2 6 8 0 ∷ node 16 0 0 0 0 0 ∷ node 16 0 0 0 0 0 ∷ node 7 0 1 10 0 0 ∷ node 4 0 3 12 9 11 ∷ node 1 0 2 14 13 0 ∷ node 22 1 0 0 0 0 ∷ node 17 0 0 0 0 0 ∷ node 1 0 2 17 16 0 ∷ node 22 256 0 0 0 0 ∷ node 4 0 3 19 18 15 ∷ node 17 3 0 0 0 0 ∷ node 1 0 2 20 21 0 ∷ [])
    (root 22 ∷ [])
    (0 ∷ 1 ∷ 0 ∷ 1 ∷ 0 ∷ 2 ∷ 0 ∷ 1 ∷ 0 ∷ 1 ∷ 0 ∷ 1 ∷ 0 ∷ 0 ∷ 0 ∷ 1 ∷ 0 ∷ 0 ∷ 0 ∷ 0 ∷ 0 ∷ 0 ∷ 0 ∷ 2 ∷ 0 ∷ 2 ∷ 0 ∷ 0 ∷ 0 ∷ 0 ∷ 0 ∷ 0 ∷ 0 ∷ 0 ∷ 0 ∷ 2 ∷ 0 ∷ 4 ∷ 0 ∷ 0 ∷ 0 ∷ 0 ∷ [])
    dims_first
    (lists' 0 (step 1 2 (ref 18 0 0 0 0 0 0) (ref 16 0 2 0 0 0 0) (ref 26 0 0 0 0 0 0) blank ∷ []) (step 8 0 (ref 17 0 0 0 0 0 0) blank blank blank ∷ step 0 2 (ref 18 0 0 0 0 0 0) (ref 16 0 3 0 0 0 0) (ref 23 0 2 4 15 18 5) blank ∷ []) ([]))
    (becomes (lists' 0 (step 1 2 (ref 18 0 0 3 0 0 0) (ref 16 0 2 3 0 0 0) (ref 26 0 0 3 0 0 0) blank ∷ []) (step 8 0 (ref 17 0 0 0 0 0 0) blank blank blank ∷ step 0 2 (ref 18 0 0 0 0 0 0) (ref 16 0 3 0 0 0 0) (ref 23 0 2 4 15 18 5) blank ∷ []) ([]))) ∷
    -- random-1-098-dims-generated
    walk_vector
    (node 16 0 0 0 0 0 ∷ node 16 0 0 0 0 0 ∷ node 23 65535 0 0 0 0 ∷ node 3 0 2 0 1 0 ∷ node 6 0 1 3 0 0 ∷ node 26 0 0 0 0 0 ∷ node 16 0 0 0 0 0 ∷ node 4 0 3 5 2 6 ∷ node 22 1 0 0 0 0 ∷ node 1 0 2 7 8 0 ∷ node 1 0 2 4 9 0 ∷ node 17 3 0 0 0 0 ∷ node 6 0 1 11 0 0 ∷ node 2 0 2 12 10 0 ∷ node 22 0 0 0 0 0 ∷ node 3 0 2 14 13 0 ∷ node 16 3 0 0 0 0 ∷ node 1 0 2 15 16 0 ∷ node 16 0 0 0 0 0 ∷ node 17 65535 0 0 0 0 ∷ node 2 0 2 17 19 0 ∷ [])
    (root 20 ∷ root 18 ∷ [])
    (10 ∷ 13 ∷ 0 ∷ 1 ∷ 0 ∷ 2 ∷ 0 ∷ 2 ∷ 0 ∷ 2 ∷ 0 ∷ 2 ∷ 0 ∷ 1 ∷ 0 ∷ 1 ∷ 0 ∷ 0 ∷ 0 ∷ 1 ∷ 0 ∷ 0 ∷ 0 ∷ 0 ∷ 0 ∷ 2 ∷ 0 ∷ 1 ∷ 0 ∷ 1 ∷ 0 ∷ 0 ∷ 0 ∷ 1 ∷ 0 ∷ 1 ∷ 0 ∷ 1 ∷ 0 ∷ 1 ∷ 0 ∷ 1 ∷ [])
    dims
    (lists' 0 (step 8 1 (ref 18 1 1 0 0 0 0) (ref 16 1 0 0 0 0 0) blank blank ∷ step 8 1 (ref 18 0 1 0 0 0 0) (ref 16 0 0 0 0 0 0) blank blank ∷ []) (step 8 1 (ref 18 1 1 0 0 0 0) (ref 16 1 0 0 0 0 0) blank blank ∷ []) (step 8 1 (ref 18 1 1 0 0 0 0) (ref 16 1 0 0 0 0 0) blank blank ∷ []))
    (becomes (lists' 0 (step 8 1 (ref 18 1 1 1 0 0 0) (ref 16 1 0 1 0 0 0) blank blank ∷ step 8 1 (ref 18 0 1 1 0 0 0) (ref 16 0 0 1 0 0 0) blank blank ∷ []) (step 8 1 (ref 18 1 1 1 0 0 0) (ref 16 1 0 1 0 0 0) blank blank ∷ []) (step 8 1 (ref 18 1 1 1 0 0 0) (ref 16 1 0 1 0 0 0) blank blank ∷ []))) ∷
    -- random-1-099-dims-any
    walk_vector
    (node 16 8 0 0 0 0 ∷ node 17 65535 0 0 0 0 ∷ node 26 0 0 0 0 0 ∷ node 16 6 0 0 0 0 ∷ node 16 5 0 0 0 0 ∷ node 3 0 2 2 3 0 ∷ node 26 0 0 0 0 0 ∷ node 22 0 0 0 0 0 ∷ node 18 0 0 0 0 0 ∷ node 1 0 2 0 7 0 ∷ node 16 2 0 0 0 0 ∷ node 21 256 0 0 0 0 ∷ node 18 0 0 0 0 0 ∷ node 1 0 2 5 6 0 ∷ node 1 0 2 1 11 0 ∷ node 7 0 1 12 0 0 ∷ node 3 0 2 10 9 0 ∷ node 3 0 2 16 4 0 ∷ node 1 0 2 17 14 0 ∷ node 3 0 2 13 18 0 ∷ [])
    (root 19 ∷ [])
    (1 ∷ 4 ∷ 0 ∷ 7 ∷ 0 ∷ 2 ∷ 0 ∷ 3 ∷ 0 ∷ 0 ∷ 0 ∷ 0 ∷ 0 ∷ 0 ∷ 0 ∷ 1 ∷ 0 ∷ 1 ∷ 0 ∷ 1 ∷ 0 ∷ 0 ∷ 0 ∷ 0 ∷ 0 ∷ 0 ∷ 0 ∷ 0 ∷ 0 ∷ 0 ∷ 0 ∷ 0 ∷ 0 ∷ 0 ∷ 0 ∷ 0 ∷ 0 ∷ 0 ∷ 0 ∷ 0 ∷ 0 ∷ 0 ∷ [])
    dims
    (lists' 0 (step 1 2 (ref 34 0 0 2 0 0 0) (ref 16 0 0 0 0 0 0) (ref 21 0 1 2 18 6 10) blank ∷ step 4 3 (ref 34 1 0 0 0 0 0) (ref 34 0 3 2 0 0 0) (ref 39 0 2 1 0 0 0) (ref 24 0 0 0 0 0 0) ∷ step 8 1 (ref 19 1 500 0 0 0 0) (ref 16 0 9 0 0 0 0) blank blank ∷ []) ([]) (step 2 2 (ref 34 0 2 3 0 0 0) (ref 24 0 0 0 0 0 0) (ref 34 0 3 2 0 0 0) blank ∷ step 4 3 (ref 18 0 0 0 0 0 0) (ref 24 0 0 0 0 0 0) (ref 16 0 6 0 0 0 0) (ref 20 0 0 0 0 0 0) ∷ step 4 3 (ref 34 0 3 0 0 0 0) (ref 23 0 0 0 0 0 0) (ref 22 1 0 0 0 0 0) (ref 18 0 0 0 0 0 0) ∷ []))
    (no_more 10) ∷
    -- random-1-100-dims_first-generated
    walk_vector
    (node 18 0 0 0 0 0 ∷ node 7 0 1 0 0 0 ∷ node 18 0 0 0 0 0 ∷ node 18 0 0 0 0 0 ∷ node 17 3 0 0 0 0 ∷ node 1 0 2 3 1 0 ∷ node 17 65535 0 0 0 0 ∷ node 1 0 2 6 2 0 ∷ node 18 0 0 0 0 0 ∷ node 4 0 3 5 8 7 ∷ node 5 0 1 4 0 0 ∷ node 2 0 2 10 9 0 ∷ node 18 0 0 0 0 0 ∷ node 17 3 0 0 0 0 ∷ node 1 0 2 12 11 0 ∷ [])
    (root 13 ∷ [])
    (24 ∷ 25 ∷ 0 ∷ 3 ∷ 0 ∷ 0 ∷ 0 ∷ 0 ∷ 0 ∷ 2 ∷ 0 ∷ 2 ∷ 0 ∷ 0 ∷ 0 ∷ 0 ∷ 0 ∷ 0 ∷ 0 ∷ 0 ∷ 0 ∷ 0 ∷ 0 ∷ 1 ∷ 0 ∷ 1 ∷ 0 ∷ 9 ∷ 0 ∷ 0 ∷ [])
    dims_first
    (lists' 0 (step 8 1 (ref 18 0 0 0 0 0 0) (ref 17 0 3 0 0 0 0) blank blank ∷ step 8 1 (ref 18 1 0 0 0 0 0) (ref 17 1 3 0 0 0 0) blank blank ∷ []) (step 8 1 (ref 18 0 0 0 0 0 0) (ref 17 0 3 0 0 0 0) blank blank ∷ step 8 1 (ref 18 1 0 0 0 0 0) (ref 17 1 3 0 0 0 0) blank blank ∷ []) (step 8 1 (ref 18 0 0 0 0 0 0) (ref 17 0 3 0 0 0 0) blank blank ∷ step 8 1 (ref 18 1 0 0 0 0 0) (ref 17 1 3 0 0 0 0) blank blank ∷ []))
    (becomes (lists' 0 (step 8 1 (ref 18 0 0 1 0 0 0) (ref 17 0 3 1 0 0 0) blank blank ∷ step 8 1 (ref 18 1 0 1 0 0 0) (ref 17 1 3 1 0 0 0) blank blank ∷ []) (step 8 1 (ref 18 0 0 0 0 0 0) (ref 17 0 3 0 0 0 0) blank blank ∷ step 8 1 (ref 18 1 0 0 0 0 0) (ref 17 1 3 0 0 0 0) blank blank ∷ []) (step 8 1 (ref 18 0 0 0 0 0 0) (ref 17 0 3 0 0 0 0) blank blank ∷ step 8 1 (ref 18 1 0 0 0 0 0) (ref 17 1 3 0 0 0 0) blank blank ∷ []))) ∷
    -- random-1-101-dims_first-any
    walk_vector
    (node 18 3 0 0 0 0 ∷ node 23 256 0 0 0 0 ∷ node 16 0 0 0 0 0 ∷ node 25 0 0 0 0 0 ∷ node 21 0 0 0 0 0 ∷ node 1 0 2 0 1 0 ∷ node 16 0 0 0 0 0 ∷ node 3 0 2 6 2 0 ∷ node 6 0 1 4 0 0 ∷ node 16 0 0 0 0 0 ∷ node 16 0 0 0 0 0 ∷ node 2 0 2 9 7 0 ∷ node 17 0 0 0 0 0 ∷ node 4 0 3 11 3 8 ∷ node 7 0 1 5 0 0 ∷ node 18 3 0 0 0 0 ∷ node 18 0 0 0 0 0 ∷ node 18 3 0 0 0 0 ∷ node 3 0 2 14 17 0 ∷ node 5 0 1 15 0 0 ∷ [])
    (root 12 ∷ root 19 ∷ root 10 ∷ root 13 ∷ root 18 ∷ [])
    (24 ∷ 28 ∷ 0 ∷ 1 ∷ 0 ∷ 2 ∷ 0 ∷ 7 ∷ 0 ∷ 0 ∷ 0 ∷ 0 ∷ 0 ∷ 3 ∷ 0 ∷ 1 ∷ 0 ∷ 2 ∷ 0 ∷ 3 ∷ 0 ∷ 1 ∷ 0 ∷ 0 ∷ 0 ∷ 1 ∷ 0 ∷ 4 ∷ 0 ∷ 0 ∷ 0 ∷ 3 ∷ 0 ∷ 0 ∷ 0 ∷ 2 ∷ 0 ∷ 3 ∷ 0 ∷ 4 ∷ 0 ∷ 2 ∷ 0 ∷ 4 ∷ 0 ∷ 4 ∷ 0 ∷ 3 ∷ 0 ∷ 4 ∷ 0 ∷ 1 ∷ 0 ∷ 2 ∷ 0 ∷ 2 ∷ 0 ∷ 1 ∷ 0 ∷ 0 ∷ [])
    dims_first
    (lists' 9 (step 3 2 (ref 32 1 1 0 0 0 0) (ref 23 0 3 0 0 0 0) (ref 17 0 0 0 19 11 5) blank ∷ []) (step 1 2 (ref 16 1 0 0 0 0 0) (ref 22 1 0 0 0 0 0) (ref 34 0 1 3 0 0 0) blank ∷ step 3 2 (ref 19 0 0 0 0 0 0) (ref 16 1 4 0 0 0 0) (ref 22 0 0 0 0 0 0) blank ∷ step 8 1 (ref 18 1 1 2 2 1 4) (ref 17 0 2 0 0 0 0) blank blank ∷ []) (step 4 3 (ref 32 0 3 1 3 1 13) (ref 22 1 3 0 11 6 16) (ref 32 1 1 0 0 0 0) (ref 37 0 1 0 0 0 0) ∷ step 1 2 (ref 18 1 0 4 4 6 0) (ref 16 0 2 0 0 0 0) (ref 37 0 0 3 0 0 0) blank ∷ []))
    (becomes (lists' 9 (step 3 2 (ref 32 1 1 3 0 0 0) (ref 23 0 3 3 0 0 0) (ref 17 0 0 1 19 11 5) blank ∷ []) (step 1 2 (ref 16 1 0 0 0 0 0) (ref 22 1 0 0 0 0 0) (ref 34 0 1 3 0 0 0) blank ∷ step 3 2 (ref 19 0 0 0 0 0 0) (ref 16 1 4 0 0 0 0) (ref 22 0 0 0 0 0 0) blank ∷ step 8 1 (ref 18 1 1 2 2 1 4) (ref 17 0 2 0 0 0 0) blank blank ∷ []) (step 4 3 (ref 32 0 3 1 3 1 13) (ref 22 1 3 0 11 6 16) (ref 32 1 1 0 0 0 0) (ref 37 0 1 0 0 0 0) ∷ step 1 2 (ref 18 1 0 4 4 6 0) (ref 16 0 2 0 0 0 0) (ref 37 0 0 3 0 0 0) blank ∷ []))) ∷
    -- random-1-116-dims-generated
    walk_vector
    (node 26 0 0 0 0 0 ∷ node 16 1 0 0 0 0 ∷ node 3 0 2 1 0 0 ∷ node 16 5 0 0 0 0 ∷ node 3 0 2 2 3 0 ∷ node 17 65535 0 0 0 0 ∷ node 2 0 2 4 5 0 ∷ node 18 0 0 0 0 0 ∷ node 17 1 0 0 0 0 ∷ node 17 2 0 0 0 0 ∷ node 16 2 0 0 0 0 ∷ node 1 0 2 10 6 0 ∷ node 2 0 2 9 8 0 ∷ node 7 0 1 11 0 0 ∷ [])
    (root 13 ∷ root 7 ∷ [])
    (3 ∷ 4 ∷ 0 ∷ 4 ∷ 0 ∷ 2 ∷ 0 ∷ 3 ∷ 0 ∷ 0 ∷ 0 ∷ 0 ∷ 0 ∷ 1 ∷ 0 ∷ 1 ∷ 0 ∷ 1 ∷ 0 ∷ 1 ∷ 0 ∷ 0 ∷ 0 ∷ 0 ∷ 0 ∷ 3 ∷ 0 ∷ 1 ∷ 0 ∷ 0 ∷ 0 ∷ 0 ∷ 0 ∷ 1 ∷ 0 ∷ 0 ∷ 0 ∷ 0 ∷ 0 ∷ 1 ∷ 0 ∷ 1 ∷ 0 ∷ 0 ∷ 0 ∷ 0 ∷ 0 ∷ 0 ∷ [])
    dims
    (lists' 8 (step 3 2 (ref 32 0 0 0 0 0 0) (ref 16 1 1 0 0 0 0) (ref 26 0 0 0 0 0 0) blank ∷ step 3 2 (ref 32 0 1 0 0 0 0) (ref 32 0 0 0 0 0 0) (ref 16 1 5 0 0 0 0) blank ∷ step 2 2 (ref 32 0 2 0 0 0 0) (ref 32 0 1 0 0 0 0) (ref 17 1 65535 0 0 0 0) blank ∷ step 1 2 (ref 32 0 3 0 0 0 0) (ref 16 1 2 0 0 0 0) (ref 32 0 2 0 0 0 0) blank ∷ step 2 2 (ref 18 1 0 0 0 0 0) (ref 20 0 0 0 0 0 0) (ref 32 0 3 0 0 0 0) blank ∷ step 3 2 (ref 32 0 4 0 0 0 0) (ref 16 0 1 0 0 0 0) (ref 26 0 0 0 0 0 0) blank ∷ step 3 2 (ref 32 0 5 0 0 0 0) (ref 32 0 4 0 0 0 0) (ref 16 0 5 0 0 0 0) blank ∷ step 2 2 (ref 32 0 6 0 0 0 0) (ref 32 0 5 0 0 0 0) (ref 17 0 65535 0 0 0 0) blank ∷ step 1 2 (ref 32 0 7 0 0 0 0) (ref 16 0 2 0 0 0 0) (ref 32 0 6 0 0 0 0) blank ∷ step 2 2 (ref 18 0 0 0 0 0 0) (ref 20 0 0 0 0 0 0) (ref 32 0 7 0 0 0 0) blank ∷ step 8 1 (ref 18 0 1 0 0 0 0) (ref 18 0 0 0 0 0 0) blank blank ∷ step 8 1 (ref 33 0 0 0 0 0 0) (ref 18 0 1 0 0 0 0) blank blank ∷ []) (step 3 2 (ref 32 0 0 0 0 0 0) (ref 16 1 1 0 0 0 0) (ref 26 0 0 0 0 0 0) blank ∷ step 3 2 (ref 32 0 1 0 0 0 0) (ref 32 0 0 0 0 0 0) (ref 16 1 5 0 0 0 0) blank ∷ step 2 2 (ref 32 0 2 0 0 0 0) (ref 32 0 1 0 0 0 0) (ref 17 1 65535 0 0 0 0) blank ∷ step 1 2 (ref 32 0 3 0 0 0 0) (ref 16 1 2 0 0 0 0) (ref 32 0 2 0 0 0 0) blank ∷ step 2 2 (ref 18 1 0 0 0 0 0) (ref 20 0 0 0 0 0 0) (ref 32 0 3 0 0 0 0) blank ∷ step 3 2 (ref 32 0 4 0 0 0 0) (ref 16 0 1 0 0 0 0) (ref 26 0 0 0 0 0 0) blank ∷ step 3 2 (ref 32 0 5 0 0 0 0) (ref 32 0 4 0 0 0 0) (ref 16 0 5 0 0 0 0) blank ∷ step 2 2 (ref 32 0 6 0 0 0 0) (ref 32 0 5 0 0 0 0) (ref 17 0 65535 0 0 0 0) blank ∷ step 1 2 (ref 32 0 7 0 0 0 0) (ref 16 0 2 0 0 0 0) (ref 32 0 6 0 0 0 0) blank ∷ step 2 2 (ref 18 0 0 0 0 0 0) (ref 20 0 0 0 0 0 0) (ref 32 0 7 0 0 0 0) blank ∷ step 8 1 (ref 18 0 1 0 0 0 0) (ref 18 0 0 0 0 0 0) blank blank ∷ step 8 1 (ref 33 0 0 0 0 0 0) (ref 18 0 1 0 0 0 0) blank blank ∷ []) (step 3 2 (ref 32 0 4 0 0 0 0) (ref 16 0 1 0 0 0 0) (ref 26 0 0 0 0 0 0) blank ∷ step 3 2 (ref 32 0 5 0 0 0 0) (ref 32 0 4 0 0 0 0) (ref 16 0 5 0 0 0 0) blank ∷ step 2 2 (ref 32 0 6 0 0 0 0) (ref 32 0 5 0 0 0 0) (ref 17 0 65535 0 0 0 0) blank ∷ step 1 2 (ref 32 0 7 0 0 0 0) (ref 16 0 2 0 0 0 0) (ref 32 0 6 0 0 0 0) blank ∷ step 2 2 (ref 18 0 0 0 0 0 0) (ref 20 0 0 0 0 0 0) (ref 32 0 7 0 0 0 0) blank ∷ step 8 1 (ref 18 0 1 0 0 0 0) (ref 18 0 0 0 0 0 0) blank blank ∷ step 8 1 (ref 33 0 0 0 0 0 0) (ref 18 0 1 0 0 0 0) blank blank ∷ []))
    (no_more 10) ∷
    -- random-1-117-dims-any
    walk_vector
    (node 16 0 0 0 0 0 ∷ node 25 0 0 0 0 0 ∷ node 3 0 2 0 1 0 ∷ node 5 0 1 2 0 0 ∷ node 25 0 0 0 0 0 ∷ node 16 1 0 0 0 0 ∷ node 1 0 2 5 4 0 ∷ node 16 0 0 0 0 0 ∷ node 20 0 0 0 0 0 ∷ node 1 0 2 3 7 0 ∷ node 1 0 2 9 8 0 ∷ node 3 0 2 10 6 0 ∷ node 16 0 0 0 0 0 ∷ node 21 0 0 0 0 0 ∷ node 1 0 2 12 11 0 ∷ node 16 1 0 0 0 0 ∷ node 1 0 2 15 13 0 ∷ node 16 1 0 0 0 0 ∷ node 4 0 3 16 17 14 ∷ node 16 0 0 0 0 0 ∷ node 3 0 2 18 19 0 ∷ node 25 0 0 0 0 0 ∷ [])
    (root 20 ∷ [])
    (0 ∷ 3 ∷ 0 ∷ 1 ∷ 0 ∷ 0 ∷ 0 ∷ 0 ∷ 0 ∷ 1 ∷ 0 ∷ 1 ∷ 0 ∷ 0 ∷ 0 ∷ 0 ∷ 0 ∷ 0 ∷ 0 ∷ 0 ∷ 0 ∷ 0 ∷ 0 ∷ 2 ∷ 0 ∷ 0 ∷ 255 ∷ 255 ∷ 0 ∷ 5 ∷ [])
    dims
    (lists' 1 (step 1 2 (ref 32 1 0 0 0 0 0) (ref 23 0 2 0 0 0 0) (ref 26 0 0 0 0 0 0) blank ∷ step 1 2 (ref 33 0 3 0 0 0 0) (ref 32 1 0 0 0 0 0) (ref 36 1 3 1 0 0 0) blank ∷ step 8 1 (ref 32 0 3 0 0 0 0) (ref 21 1 1 0 0 0 0) blank blank ∷ []) (step 2 2 (ref 32 0 1 0 0 0 0) (ref 34 0 0 3 0 0 0) (ref 19 0 0 0 0 0 0) blank ∷ step 1 2 (ref 19 0 1 0 0 0 0) (ref 21 0 0 0 0 0 0) (ref 16 0 0 0 0 0 0) blank ∷ step 1 2 (ref 19 0 1 0 0 0 0) (ref 20 0 0 0 0 0 0) (ref 24 0 0 0 0 0 0) blank ∷ []) (step 8 1 (ref 33 1 2 0 0 0 0) (ref 23 0 1 0 0 0 0) blank blank ∷ step 1 2 (ref 32 0 0 0 0 0 0) (ref 16 1 0 0 0 0 0) (ref 22 1 2 0 0 0 0) blank ∷ step 4 3 (ref 19 0 1 0 0 0 0) (ref 35 0 1 0 0 0 0) (ref 26 1 0 0 0 0 0) (ref 32 0 0 0 0 0 0) ∷ []))
    (no_more 3) ∷
    -- random-1-118-dims_first-generated
    walk_vector
    (node 17 1 0 0 0 0 ∷ node 16 0 0 0 0 0 ∷ node 16 0 0 0 0 0 ∷ node 1 0 2 1 2 0 ∷ node 6 0 1 0 0 0 ∷ [])
    (root 3 ∷ [])
    (0 ∷ 1 ∷ 0 ∷ 1 ∷ 0 ∷ 0 ∷ 0 ∷ 0 ∷ 0 ∷ 2 ∷ 0 ∷ 2 ∷ 0 ∷ 0 ∷ 0 ∷ 0 ∷ 0 ∷ 0 ∷ 0 ∷ 0 ∷ 0 ∷ 0 ∷ 0 ∷ 0 ∷ 0 ∷ 0 ∷ [])
    dims_first
    (lists' 0 (step 1 2 (ref 18 0 0 0 0 0 0) (ref 16 1 0 0 0 0 0) (ref 16 0 0 0 0 0 0) blank ∷ []) (step 1 2 (ref 18 0 0 0 0 0 0) (ref 16 1 0 0 0 0 0) (ref 16 0 0 0 0 0 0) blank ∷ []) (step 1 2 (ref 18 0 0 0 0 0 0) (ref 16 1 0 0 0 0 0) (ref 16 0 0 0 0 0 0) blank ∷ []))
    (becomes (lists' 0 (step 1 2 (ref 18 0 0 1 0 0 0) (ref 16 1 0 1 0 0 0) (ref 16 0 0 1 0 0 0) blank ∷ []) (step 1 2 (ref 18 0 0 0 0 0 0) (ref 16 1 0 0 0 0 0) (ref 16 0 0 0 0 0 0) blank ∷ []) (step 1 2 (ref 18 0 0 0 0 0 0) (ref 16 1 0 0 0 0 0) (ref 16 0 0 0 0 0 0) blank ∷ []))) ∷
    -- random-1-131-any-walk-plan-refused
    walk_vector
    (node 22 0 0 0 0 0 ∷ node 20 0 0 0 0 0 ∷ node 25 0 0 0 0 0 ∷ node 16 8 0 0 0 0 ∷ node 16 10 0 0 0 0 ∷ node 17 0 0 0 0 0 ∷ node 2 0 2 1 0 0 ∷ node 5 0 1 4 0 0 ∷ node 1 0 2 3 7 0 ∷ node 7 0 1 2 0 0 ∷ node 16 0 0 0 0 0 ∷ node 1 0 2 5 10 0 ∷ node 3 0 2 11 6 0 ∷ node 3 0 2 9 8 0 ∷ node 2 0 2 13 12 0 ∷ [])
    (root 14 ∷ [])
    (25 ∷ 25 ∷ 0 ∷ 2 ∷ 0 ∷ 2 ∷ 0 ∷ 5 ∷ 0 ∷ 2 ∷ 0 ∷ 2 ∷ 0 ∷ 0 ∷ 0 ∷ 1 ∷ 0 ∷ 1 ∷ 0 ∷ 3 ∷ 0 ∷ 0 ∷ 0 ∷ 0 ∷ 0 ∷ 0 ∷ 0 ∷ 0 ∷ 0 ∷ 0 ∷ 0 ∷ 0 ∷ 0 ∷ 0 ∷ 0 ∷ 0 ∷ 0 ∷ 0 ∷ 0 ∷ 0 ∷ 0 ∷ 0 ∷ 0 ∷ 0 ∷ 0 ∷ 0 ∷ 0 ∷ 0 ∷ 0 ∷ 0 ∷ [])
    dims
    (lists' 0 ([]) ([]) ([]))
    (no_more 16) ∷
    -- random-1-137-dims_first-any
    walk_vector
    (node 17 65535 0 0 0 0 ∷ node 21 1 0 0 0 0 ∷ node 18 0 0 0 0 0 ∷ node 2 0 2 2 1 0 ∷ node 3 0 2 0 3 0 ∷ node 17 2 0 0 0 0 ∷ [])
    (root 5 ∷ [])
    (10 ∷ 13 ∷ 0 ∷ 0 ∷ 0 ∷ 2 ∷ 0 ∷ 2 ∷ 0 ∷ 2 ∷ 0 ∷ 2 ∷ 0 ∷ 0 ∷ 0 ∷ 1 ∷ 0 ∷ 0 ∷ 0 ∷ 1 ∷ 0 ∷ 0 ∷ 0 ∷ 1 ∷ 0 ∷ 2 ∷ 0 ∷ 0 ∷ 0 ∷ 0 ∷ 0 ∷ 0 ∷ 0 ∷ 0 ∷ 0 ∷ 0 ∷ 0 ∷ 0 ∷ 0 ∷ 10 ∷ 0 ∷ 0 ∷ 0 ∷ 0 ∷ [])
    dims_first
    (lists' 65534 ([]) (step 3 2 (ref 32 0 3 0 0 0 0) (ref 17 0 1 0 0 0 0) (ref 24 0 0 0 0 0 0) blank ∷ step 3 2 (ref 18 1 0 0 0 0 0) (ref 23 0 2 0 0 0 0) (ref 32 0 3 0 0 0 0) blank ∷ step 4 3 (ref 32 0 2 0 0 0 0) (ref 16 1 4 0 0 0 0) (ref 18 1 0 0 0 0 0) (ref 18 1 0 0 0 0 0) ∷ []) (step 8 1 (ref 19 0 0 0 0 0 0) (ref 18 1 0 0 0 0 0) blank blank ∷ []))
    (becomes (lists' 65534 ([]) (step 3 2 (ref 32 0 3 0 0 0 0) (ref 17 0 1 0 0 0 0) (ref 24 0 0 0 0 0 0) blank ∷ step 3 2 (ref 18 1 0 0 0 0 0) (ref 23 0 2 0 0 0 0) (ref 32 0 3 0 0 0 0) blank ∷ step 4 3 (ref 32 0 2 0 0 0 0) (ref 16 1 4 0 0 0 0) (ref 18 1 0 0 0 0 0) (ref 18 1 0 0 0 0 0) ∷ []) (step 8 1 (ref 19 0 0 0 0 0 0) (ref 18 1 0 0 0 0 0) blank blank ∷ []))) ∷
    -- random-1-152-dims-generated
    walk_vector
    (node 21 2 0 0 0 0 ∷ node 17 65535 0 0 0 0 ∷ node 18 1 0 0 0 0 ∷ node 17 1 0 0 0 0 ∷ node 16 0 0 0 0 0 ∷ node 17 256 0 0 0 0 ∷ node 1 0 2 0 4 0 ∷ node 16 2 0 0 0 0 ∷ node 22 256 0 0 0 0 ∷ node 3 0 2 8 2 0 ∷ node 3 0 2 7 6 0 ∷ node 6 0 1 1 0 0 ∷ node 18 0 0 0 0 0 ∷ node 1 0 2 9 3 0 ∷ node 1 0 2 11 5 0 ∷ node 26 0 0 0 0 0 ∷ node 17 0 0 0 0 0 ∷ node 6 0 1 14 0 0 ∷ [])
    (root 15 ∷ root 12 ∷ root 16 ∷ root 13 ∷ [])
    (3 ∷ 4 ∷ 0 ∷ 1 ∷ 0 ∷ 0 ∷ 0 ∷ 3 ∷ 0 ∷ 0 ∷ 0 ∷ 0 ∷ 0 ∷ 3 ∷ 0 ∷ 0 ∷ 0 ∷ 1 ∷ 0 ∷ 1 ∷ 0 ∷ 1 ∷ 0 ∷ 0 ∷ 0 ∷ 0 ∷ 0 ∷ 2 ∷ 0 ∷ 1 ∷ 0 ∷ 3 ∷ 0 ∷ 3 ∷ 0 ∷ 1 ∷ 0 ∷ 3 ∷ [])
    dims
    (lists' 0 (step 8 1 (ref 18 1 0 0 0 0 0) (ref 26 0 0 0 0 0 0) blank blank ∷ step 8 1 (ref 18 1 1 0 0 0 0) (ref 18 1 0 0 0 0 0) blank blank ∷ step 8 1 (ref 18 0 0 0 0 0 0) (ref 26 0 0 0 0 0 0) blank blank ∷ step 8 1 (ref 18 0 1 0 0 0 0) (ref 18 0 0 0 0 0 0) blank blank ∷ step 4 3 (ref 18 0 3 0 0 0 0) (ref 22 0 256 0 0 0 0) (ref 18 0 1 0 0 0 0) (ref 17 0 1 0 0 0 0) ∷ []) (step 8 1 (ref 18 1 0 0 0 0 0) (ref 26 0 0 0 0 0 0) blank blank ∷ step 8 1 (ref 18 1 1 0 0 0 0) (ref 18 1 0 0 0 0 0) blank blank ∷ step 8 1 (ref 18 0 0 0 0 0 0) (ref 26 0 0 0 0 0 0) blank blank ∷ step 8 1 (ref 18 0 1 0 0 0 0) (ref 18 0 0 0 0 0 0) blank blank ∷ step 4 3 (ref 18 0 3 0 0 0 0) (ref 22 0 256 0 0 0 0) (ref 18 0 1 0 0 0 0) (ref 17 0 1 0 0 0 0) ∷ []) (step 8 1 (ref 18 1 0 0 0 0 0) (ref 26 0 0 0 0 0 0) blank blank ∷ step 8 1 (ref 18 0 0 0 0 0 0) (ref 26 0 0 0 0 0 0) blank blank ∷ step 8 1 (ref 18 0 1 0 0 0 0) (ref 18 0 0 0 0 0 0) blank blank ∷ step 4 3 (ref 18 0 3 0 0 0 0) (ref 22 0 256 0 0 0 0) (ref 18 0 1 0 0 0 0) (ref 17 0 1 0 0 0 0) ∷ []))
    (no_more 10) ∷
    -- random-1-153-dims-any
    walk_vector
    (node 16 1 0 0 0 0 ∷ node 17 2 0 0 0 0 ∷ node 3 0 2 0 1 0 ∷ node 18 1 0 0 0 0 ∷ node 18 1 0 0 0 0 ∷ node 18 1 0 0 0 0 ∷ node 1 0 2 5 3 0 ∷ node 1 0 2 4 2 0 ∷ node 3 0 2 7 6 0 ∷ node 16 1 0 0 0 0 ∷ node 16 0 0 0 0 0 ∷ node 3 0 2 10 9 0 ∷ node 3 0 2 8 11 0 ∷ node 18 1 0 0 0 0 ∷ node 7 0 1 12 0 0 ∷ node 18 1 0 0 0 0 ∷ node 26 0 0 0 0 0 ∷ node 18 1 0 0 0 0 ∷ node 16 0 0 0 0 0 ∷ node 3 0 2 14 16 0 ∷ node 3 0 2 15 13 0 ∷ [])
    (root 19 ∷ root 18 ∷ root 20 ∷ root 17 ∷ [])
    (10 ∷ 11 ∷ 0 ∷ 3 ∷ 0 ∷ 2 ∷ 0 ∷ 5 ∷ 0 ∷ 3 ∷ 0 ∷ 3 ∷ 0 ∷ 0 ∷ 0 ∷ 1 ∷ 0 ∷ 2 ∷ 0 ∷ 2 ∷ 0 ∷ 0 ∷ 0 ∷ 2 ∷ 0 ∷ 2 ∷ 0 ∷ 3 ∷ 0 ∷ 2 ∷ 0 ∷ 3 ∷ 0 ∷ 3 ∷ 0 ∷ 0 ∷ 0 ∷ 0 ∷ 0 ∷ 2 ∷ 0 ∷ 0 ∷ 0 ∷ 0 ∷ 0 ∷ 0 ∷ 0 ∷ 3 ∷ 0 ∷ 3 ∷ 0 ∷ 31 ∷ 0 ∷ 31 ∷ 0 ∷ 2 ∷ 0 ∷ 2 ∷ [])
    dims
    (lists' 0 (step 4 3 (ref 19 0 1 0 0 0 0) (ref 25 0 0 0 0 0 0) (ref 37 0 0 0 0 0 0) (ref 19 0 1 0 0 0 0) ∷ step 1 2 (ref 16 1 0 0 0 0 0) (ref 16 0 8 0 0 0 0) (ref 16 0 6 3 7 18 10) blank ∷ step 2 2 (ref 19 0 1 0 0 0 0) (ref 21 1 2 0 0 0 0) (ref 34 1 0 2 0 0 0) blank ∷ []) ([]) (step 1 2 (ref 18 0 0 1 17 16 13) (ref 35 0 2 0 0 0 0) (ref 34 0 3 3 0 0 0) blank ∷ step 2 3 (ref 18 0 1 0 0 0 0) (ref 19 0 0 0 0 0 0) (ref 25 0 0 0 0 0 0) (ref 18 0 0 1 17 16 13) ∷ step 2 2 (ref 32 0 1 0 0 0 0) (ref 40 0 0 1 0 0 0) (ref 36 0 3 3 0 0 0) blank ∷ []))
    (no_more 12) ∷
    -- random-1-154-dims_first-generated
    walk_vector
    (node 16 0 0 0 0 0 ∷ node 16 1 0 0 0 0 ∷ node 1 0 2 1 0 0 ∷ node 17 3 0 0 0 0 ∷ node 22 0 0 0 0 0 ∷ node 24 0 0 0 0 0 ∷ node 16 1 0 0 0 0 ∷ node 3 0 2 3 4 0 ∷ node 1 0 2 7 5 0 ∷ node 3 0 2 2 6 0 ∷ node 1 0 2 8 9 0 ∷ node 17 0 0 0 0 0 ∷ node 17 1 0 0 0 0 ∷ node 16 0 0 0 0 0 ∷ node 1 0 2 12 10 0 ∷ node 4 0 3 11 14 13 ∷ [])
    (root 15 ∷ [])
    (3 ∷ 3 ∷ 0 ∷ 2 ∷ 0 ∷ 0 ∷ 0 ∷ 5 ∷ 0 ∷ 3 ∷ 0 ∷ 3 ∷ 0 ∷ 0 ∷ 0 ∷ 0 ∷ 0 ∷ 2 ∷ 0 ∷ 2 ∷ 0 ∷ 1 ∷ 0 ∷ 2 ∷ 0 ∷ 2 ∷ 0 ∷ 0 ∷ 0 ∷ 0 ∷ 0 ∷ 0 ∷ 0 ∷ 0 ∷ 0 ∷ 0 ∷ 0 ∷ 0 ∷ 0 ∷ 0 ∷ 0 ∷ 0 ∷ 0 ∷ 0 ∷ 0 ∷ 6 ∷ 0 ∷ 13 ∷ 0 ∷ 17 ∷ 0 ∷ 0 ∷ 0 ∷ 0 ∷ [])
    dims_first
    (lists' 10 (step 3 2 (ref 32 0 0 0 0 0 0) (ref 17 1 3 0 0 0 0) (ref 22 0 0 0 0 0 0) blank ∷ step 1 2 (ref 32 0 1 0 0 0 0) (ref 32 0 0 0 0 0 0) (ref 24 0 0 0 0 0 0) blank ∷ step 1 2 (ref 32 0 2 0 0 0 0) (ref 16 1 1 0 0 0 0) (ref 16 1 0 0 0 0 0) blank ∷ step 3 2 (ref 32 0 3 0 0 0 0) (ref 32 0 2 0 0 0 0) (ref 16 1 1 0 0 0 0) blank ∷ step 1 2 (ref 32 0 4 0 0 0 0) (ref 32 0 1 0 0 0 0) (ref 32 0 3 0 0 0 0) blank ∷ step 1 2 (ref 32 0 5 0 0 0 0) (ref 17 1 1 0 0 0 0) (ref 32 0 4 0 0 0 0) blank ∷ step 4 3 (ref 18 1 0 0 0 0 0) (ref 17 1 0 0 0 0 0) (ref 32 0 5 0 0 0 0) (ref 16 1 0 0 0 0 0) ∷ step 1 2 (ref 32 0 6 0 0 0 0) (ref 16 0 1 0 0 0 0) (ref 16 0 0 0 0 0 0) blank ∷ step 4 3 (ref 32 0 7 0 0 0 0) (ref 17 0 3 0 0 0 0) (ref 22 0 0 0 0 0 0) (ref 24 0 0 0 0 0 0) ∷ step 4 3 (ref 32 0 8 0 0 0 0) (ref 32 0 6 0 0 0 0) (ref 16 0 1 0 0 0 0) (ref 32 0 7 0 0 0 0) ∷ step 1 2 (ref 32 0 9 0 0 0 0) (ref 17 0 1 0 0 0 0) (ref 32 0 8 0 0 0 0) blank ∷ step 4 3 (ref 18 0 0 0 0 0 0) (ref 17 0 0 0 0 0 0) (ref 32 0 9 0 0 0 0) (ref 16 0 0 0 0 0 0) ∷ step 8 1 (ref 16 0 1 0 0 0 0) (ref 18 0 0 0 0 0 0) blank blank ∷ []) (step 3 2 (ref 32 0 0 0 0 0 0) (ref 17 1 3 0 0 0 0) (ref 22 0 0 0 0 0 0) blank ∷ step 1 2 (ref 32 0 1 0 0 0 0) (ref 32 0 0 0 0 0 0) (ref 24 0 0 0 0 0 0) blank ∷ step 1 2 (ref 32 0 2 0 0 0 0) (ref 16 1 1 0 0 0 0) (ref 16 1 0 0 0 0 0) blank ∷ step 3 2 (ref 32 0 3 0 0 0 0) (ref 32 0 2 0 0 0 0) (ref 16 1 1 0 0 0 0) blank ∷ step 1 2 (ref 32 0 4 0 0 0 0) (ref 32 0 1 0 0 0 0) (ref 32 0 3 0 0 0 0) blank ∷ step 1 2 (ref 32 0 5 0 0 0 0) (ref 17 1 1 0 0 0 0) (ref 32 0 4 0 0 0 0) blank ∷ step 4 3 (ref 18 1 0 0 0 0 0) (ref 17 1 0 0 0 0 0) (ref 32 0 5 0 0 0 0) (ref 16 1 0 0 0 0 0) ∷ step 1 2 (ref 32 0 6 0 0 0 0) (ref 16 0 1 0 0 0 0) (ref 16 0 0 0 0 0 0) blank ∷ step 4 3 (ref 32 0 7 0 0 0 0) (ref 17 0 3 0 0 0 0) (ref 22 0 0 0 0 0 0) (ref 24 0 0 0 0 0 0) ∷ step 4 3 (ref 32 0 8 0 0 0 0) (ref 32 0 6 0 0 0 0) (ref 16 0 1 0 0 0 0) (ref 32 0 7 0 0 0 0) ∷ step 1 2 (ref 32 0 9 0 0 0 0) (ref 17 0 1 0 0 0 0) (ref 32 0 8 0 0 0 0) blank ∷ step 4 3 (ref 18 0 0 0 0 0 0) (ref 17 0 0 0 0 0 0) (ref 32 0 9 0 0 0 0) (ref 16 0 0 0 0 0 0) ∷ step 8 1 (ref 16 0 1 0 0 0 0) (ref 18 0 0 0 0 0 0) blank blank ∷ []) (step 3 2 (ref 32 0 0 0 0 0 0) (ref 17 1 3 0 0 0 0) (ref 22 0 0 0 0 0 0) blank ∷ step 1 2 (ref 32 0 1 0 0 0 0) (ref 32 0 0 0 0 0 0) (ref 24 0 0 0 0 0 0) blank ∷ step 1 2 (ref 32 0 2 0 0 0 0) (ref 16 1 1 0 0 0 0) (ref 16 1 0 0 0 0 0) blank ∷ step 3 2 (ref 32 0 3 0 0 0 0) (ref 32 0 2 0 0 0 0) (ref 16 1 1 0 0 0 0) blank ∷ step 1 2 (ref 32 0 4 0 0 0 0) (ref 32 0 1 0 0 0 0) (ref 32 0 3 0 0 0 0) blank ∷ step 1 2 (ref 32 0 5 0 0 0 0) (ref 17 1 1 0 0 0 0) (ref 32 0 4 0 0 0 0) blank ∷ step 4 3 (ref 18 1 0 0 0 0 0) (ref 17 1 0 0 0 0 0) (ref 32 0 5 0 0 0 0) (ref 16 1 0 0 0 0 0) ∷ step 1 2 (ref 32 0 6 0 0 0 0) (ref 16 0 1 0 0 0 0) (ref 16 0 0 0 0 0 0) blank ∷ step 4 3 (ref 32 0 7 0 0 0 0) (ref 17 0 3 0 0 0 0) (ref 22 0 0 0 0 0 0) (ref 24 0 0 0 0 0 0) ∷ step 4 3 (ref 32 0 8 0 0 0 0) (ref 32 0 6 0 0 0 0) (ref 16 0 1 0 0 0 0) (ref 32 0 7 0 0 0 0) ∷ step 1 2 (ref 32 0 9 0 0 0 0) (ref 17 0 1 0 0 0 0) (ref 32 0 8 0 0 0 0) blank ∷ step 4 3 (ref 18 0 0 0 0 0 0) (ref 17 0 0 0 0 0 0) (ref 32 0 9 0 0 0 0) (ref 16 0 0 0 0 0 0) ∷ step 8 1 (ref 16 0 1 0 0 0 0) (ref 18 0 0 0 0 0 0) blank blank ∷ []))
    (no_more 10) ∷
    -- random-1-155-dims_first-any
    walk_vector
    (node 26 0 0 0 0 0 ∷ node 16 0 0 0 0 0 ∷ node 16 1 0 0 0 0 ∷ node 1 0 2 1 2 0 ∷ node 3 0 2 0 3 0 ∷ node 16 2 0 0 0 0 ∷ node 1 0 2 4 5 0 ∷ node 20 0 0 0 0 0 ∷ node 16 1 0 0 0 0 ∷ node 16 8 0 0 0 0 ∷ node 16 1 0 0 0 0 ∷ node 16 3 0 0 0 0 ∷ node 5 0 1 6 0 0 ∷ node 3 0 2 8 12 0 ∷ node 4 0 3 7 11 13 ∷ node 3 0 2 10 14 0 ∷ node 1 0 2 9 15 0 ∷ [])
    (root 16 ∷ [])
    (1 ∷ 5 ∷ 0 ∷ 4 ∷ 0 ∷ 2 ∷ 0 ∷ 3 ∷ 0 ∷ 3 ∷ 0 ∷ 3 ∷ 0 ∷ 0 ∷ 0 ∷ 1 ∷ 0 ∷ 1 ∷ 0 ∷ 1 ∷ 0 ∷ 0 ∷ 0 ∷ 2 ∷ 0 ∷ 2 ∷ 0 ∷ 0 ∷ 0 ∷ 0 ∷ 0 ∷ 0 ∷ 0 ∷ 0 ∷ 0 ∷ 0 ∷ 0 ∷ 0 ∷ 0 ∷ 0 ∷ 0 ∷ 0 ∷ 0 ∷ 15 ∷ 0 ∷ 7 ∷ 0 ∷ 0 ∷ 0 ∷ 0 ∷ [])
    dims_first
    (lists' 4 ([]) (step 3 2 (ref 18 0 0 0 0 0 0) (ref 20 0 0 0 0 0 0) (ref 24 0 0 0 0 0 0) blank ∷ step 2 2 (ref 32 0 0 0 0 0 0) (ref 19 0 0 0 0 0 0) (ref 18 0 0 0 0 0 0) blank ∷ []) ([]))
    (becomes (lists' 4 ([]) (step 3 2 (ref 18 0 0 0 0 0 0) (ref 20 0 0 0 0 0 0) (ref 24 0 0 0 0 0 0) blank ∷ step 2 2 (ref 32 0 0 0 0 0 0) (ref 19 0 0 0 0 0 0) (ref 18 0 0 0 0 0 0) blank ∷ []) ([]))) ∷
    -- random-1-170-dims-generated
    walk_vector
    (node 19 1 0 0 0 0 ∷ node 19 1 0 0 0 0 ∷ node 1 0 2 0 1 0 ∷ node 5 0 1 2 0 0 ∷ node 5 0 1 3 0 0 ∷ node 18 2 0 0 0 0 ∷ node 1 0 2 5 4 0 ∷ node 16 2 0 0 0 0 ∷ node 2 0 2 7 6 0 ∷ node 6 0 1 8 0 0 ∷ node 18 2 0 0 0 0 ∷ node 1 0 2 9 10 0 ∷ node 7 0 1 11 0 0 ∷ node 18 1 0 0 0 0 ∷ node 16 0 0 0 0 0 ∷ node 5 0 1 13 0 0 ∷ node 16 3 0 0 0 0 ∷ node 1 0 2 14 12 0 ∷ [])
    (root 17 ∷ root 16 ∷ root 15 ∷ [])
    (23 ∷ 25 ∷ 0 ∷ 4 ∷ 0 ∷ 2 ∷ 0 ∷ 4 ∷ 0 ∷ 0 ∷ 0 ∷ 0 ∷ 0 ∷ 2 ∷ 0 ∷ 1 ∷ 0 ∷ 2 ∷ 0 ∷ 1 ∷ 0 ∷ 0 ∷ 0 ∷ 2 ∷ 0 ∷ 2 ∷ 0 ∷ 0 ∷ 0 ∷ 0 ∷ 0 ∷ 0 ∷ 0 ∷ 0 ∷ 0 ∷ 1 ∷ 0 ∷ 0 ∷ 0 ∷ 1 ∷ 0 ∷ 0 ∷ 0 ∷ 1 ∷ 0 ∷ 2 ∷ 0 ∷ 5 ∷ 0 ∷ 11 ∷ 0 ∷ 0 ∷ 0 ∷ 2 ∷ [])
    dims
    (lists' 8 (step 8 1 (ref 18 0 1 0 0 0 0) (ref 16 0 3 0 0 0 0) blank blank ∷ step 1 2 (ref 18 0 2 0 0 0 0) (ref 18 0 1 0 0 0 0) (ref 20 0 0 0 0 0 0) blank ∷ step 1 2 (ref 32 0 0 0 0 0 0) (ref 19 0 1 0 0 0 0) (ref 19 0 1 0 0 0 0) blank ∷ step 1 2 (ref 32 0 1 0 0 0 0) (ref 32 0 0 0 0 0 0) (ref 20 0 0 0 0 0 0) blank ∷ step 1 2 (ref 32 0 2 0 0 0 0) (ref 32 0 1 0 0 0 0) (ref 20 0 0 0 0 0 0) blank ∷ step 1 2 (ref 32 0 3 0 0 0 0) (ref 18 0 2 0 0 0 0) (ref 32 0 2 0 0 0 0) blank ∷ step 2 2 (ref 32 0 4 0 0 0 0) (ref 16 0 2 0 0 0 0) (ref 32 0 3 0 0 0 0) blank ∷ step 3 2 (ref 32 0 5 0 0 0 0) (ref 32 0 4 0 0 0 0) (ref 20 0 0 0 0 0 0) blank ∷ step 1 2 (ref 32 0 6 0 0 0 0) (ref 32 0 5 0 0 0 0) (ref 18 0 2 0 0 0 0) blank ∷ step 2 2 (ref 32 0 7 0 0 0 0) (ref 20 0 0 0 0 0 0) (ref 32 0 6 0 0 0 0) blank ∷ step 1 2 (ref 18 0 0 0 0 0 0) (ref 16 0 0 0 0 0 0) (ref 32 0 7 0 0 0 0) blank ∷ []) (step 8 1 (ref 18 0 1 0 0 0 0) (ref 16 0 3 0 0 0 0) blank blank ∷ step 1 2 (ref 18 0 2 0 0 0 0) (ref 18 0 1 0 0 0 0) (ref 20 0 0 0 0 0 0) blank ∷ step 1 2 (ref 32 0 0 0 0 0 0) (ref 19 0 1 0 0 0 0) (ref 19 0 1 0 0 0 0) blank ∷ step 1 2 (ref 32 0 1 0 0 0 0) (ref 32 0 0 0 0 0 0) (ref 20 0 0 0 0 0 0) blank ∷ step 1 2 (ref 32 0 2 0 0 0 0) (ref 32 0 1 0 0 0 0) (ref 20 0 0 0 0 0 0) blank ∷ step 1 2 (ref 32 0 3 0 0 0 0) (ref 18 0 2 0 0 0 0) (ref 32 0 2 0 0 0 0) blank ∷ step 2 2 (ref 32 0 4 0 0 0 0) (ref 16 0 2 0 0 0 0) (ref 32 0 3 0 0 0 0) blank ∷ step 3 2 (ref 32 0 5 0 0 0 0) (ref 32 0 4 0 0 0 0) (ref 20 0 0 0 0 0 0) blank ∷ step 1 2 (ref 32 0 6 0 0 0 0) (ref 32 0 5 0 0 0 0) (ref 18 0 2 0 0 0 0) blank ∷ step 2 2 (ref 32 0 7 0 0 0 0) (ref 20 0 0 0 0 0 0) (ref 32 0 6 0 0 0 0) blank ∷ step 1 2 (ref 18 0 0 0 0 0 0) (ref 16 0 0 0 0 0 0) (ref 32 0 7 0 0 0 0) blank ∷ []) (step 8 1 (ref 18 0 1 0 0 0 0) (ref 16 0 3 0 0 0 0) blank blank ∷ step 1 2 (ref 18 0 2 0 0 0 0) (ref 18 0 1 0 0 0 0) (ref 20 0 0 0 0 0 0) blank ∷ step 1 2 (ref 32 0 0 0 0 0 0) (ref 19 0 1 0 0 0 0) (ref 19 0 1 0 0 0 0) blank ∷ step 1 2 (ref 32 0 1 0 0 0 0) (ref 32 0 0 0 0 0 0) (ref 20 0 0 0 0 0 0) blank ∷ step 1 2 (ref 32 0 2 0 0 0 0) (ref 32 0 1 0 0 0 0) (ref 20 0 0 0 0 0 0) blank ∷ step 1 2 (ref 32 0 3 0 0 0 0) (ref 18 0 2 0 0 0 0) (ref 32 0 2 0 0 0 0) blank ∷ step 2 2 (ref 32 0 4 0 0 0 0) (ref 16 0 2 0 0 0 0) (ref 32 0 3 0 0 0 0) blank ∷ step 3 2 (ref 32 0 5 0 0 0 0) (ref 32 0 4 0 0 0 0) (ref 20 0 0 0 0 0 0) blank ∷ step 1 2 (ref 32 0 6 0 0 0 0) (ref 32 0 5 0 0 0 0) (ref 18 0 2 0 0 0 0) blank ∷ step 2 2 (ref 32 0 7 0 0 0 0) (ref 20 0 0 0 0 0 0) (ref 32 0 6 0 0 0 0) blank ∷ step 1 2 (ref 18 0 0 0 0 0 0) (ref 16 0 0 0 0 0 0) (ref 32 0 7 0 0 0 0) blank ∷ []))
    (no_more 10) ∷
    -- random-1-171-dims-any
    walk_vector
    (node 18 0 0 0 0 0 ∷ node 18 1 0 0 0 0 ∷ node 24 0 0 0 0 0 ∷ node 5 0 1 0 0 0 ∷ node 1 0 2 2 1 0 ∷ node 26 0 0 0 0 0 ∷ node 18 0 0 0 0 0 ∷ node 18 1 0 0 0 0 ∷ node 1 0 2 4 7 0 ∷ node 2 0 2 6 3 0 ∷ [])
    (root 8 ∷ root 5 ∷ [])
    (10 ∷ 12 ∷ 0 ∷ 7 ∷ 0 ∷ 2 ∷ 0 ∷ 5 ∷ 0 ∷ 3 ∷ 0 ∷ 3 ∷ 0 ∷ 1 ∷ 0 ∷ 1 ∷ 0 ∷ 2 ∷ 0 ∷ 2 ∷ 0 ∷ 0 ∷ 0 ∷ 3 ∷ 0 ∷ 3 ∷ 0 ∷ 1 ∷ 0 ∷ 1 ∷ 0 ∷ 0 ∷ 0 ∷ 0 ∷ 0 ∷ 0 ∷ 0 ∷ 1 ∷ 0 ∷ 0 ∷ 0 ∷ 0 ∷ 0 ∷ 1 ∷ 0 ∷ 0 ∷ 0 ∷ 1 ∷ 0 ∷ 1 ∷ 0 ∷ 27 ∷ 0 ∷ 26 ∷ 0 ∷ 24 ∷ 0 ∷ 0 ∷ 0 ∷ 1 ∷ 0 ∷ 1 ∷ [])
    dims
    (lists' 9 ([]) (step 3 2 (ref 18 0 1 0 0 0 0) (ref 19 1 1 0 0 0 0) (ref 16 0 5 0 0 0 0) blank ∷ []) (step 2 2 (ref 33 1 1 0 0 0 0) (ref 18 0 1 0 0 0 0) (ref 24 0 0 0 0 0 0) blank ∷ step 8 1 (ref 33 0 1 0 5 1 5) (ref 18 0 1 0 0 0 0) blank blank ∷ []))
    (no_more 10) ∷
    -- random-1-172-dims_first-generated
    walk_vector
    (node 16 0 0 0 0 0 ∷ node 16 1 0 0 0 0 ∷ node 1 0 2 0 1 0 ∷ [])
    (root 2 ∷ [])
    (3 ∷ 6 ∷ 0 ∷ 1 ∷ 0 ∷ 0 ∷ 0 ∷ 2 ∷ 0 ∷ 3 ∷ 0 ∷ 3 ∷ 0 ∷ 0 ∷ 0 ∷ 0 ∷ 0 ∷ 2 ∷ 0 ∷ 0 ∷ 0 ∷ 0 ∷ 0 ∷ 3 ∷ 0 ∷ 3 ∷ 0 ∷ 0 ∷ 0 ∷ 0 ∷ 0 ∷ 0 ∷ 0 ∷ 0 ∷ 0 ∷ 2 ∷ 0 ∷ 4 ∷ 0 ∷ 1 ∷ 0 ∷ 0 ∷ 0 ∷ 0 ∷ 0 ∷ 0 ∷ [])
    dims_first
    (lists' 0 (step 1 2 (ref 18 1 0 0 0 0 0) (ref 16 1 0 0 0 0 0) (ref 16 1 1 0 0 0 0) blank ∷ step 1 2 (ref 18 0 0 0 0 0 0) (ref 16 0 0 0 0 0 0) (ref 16 0 1 0 0 0 0) blank ∷ []) (step 1 2 (ref 18 1 0 0 0 0 0) (ref 16 1 0 0 0 0 0) (ref 16 1 1 0 0 0 0) blank ∷ step 1 2 (ref 18 0 0 0 0 0 0) (ref 16 0 0 0 0 0 0) (ref 16 0 1 0 0 0 0) blank ∷ []) (step 1 2 (ref 18 1 0 0 0 0 0) (ref 16 1 0 0 0 0 0) (ref 16 1 1 0 0 0 0) blank ∷ step 1 2 (ref 18 0 0 0 0 0 0) (ref 16 0 0 0 0 0 0) (ref 16 0 1 0 0 0 0) blank ∷ []))
    (becomes (lists' 0 (step 1 2 (ref 18 1 0 3 0 0 0) (ref 16 1 0 1 0 0 0) (ref 16 1 1 3 0 0 0) blank ∷ step 1 2 (ref 18 0 0 3 0 0 0) (ref 16 0 0 1 0 0 0) (ref 16 0 1 3 0 0 0) blank ∷ []) (step 1 2 (ref 18 1 0 0 0 0 0) (ref 16 1 0 0 0 0 0) (ref 16 1 1 0 0 0 0) blank ∷ step 1 2 (ref 18 0 0 0 0 0 0) (ref 16 0 0 0 0 0 0) (ref 16 0 1 0 0 0 0) blank ∷ []) (step 1 2 (ref 18 1 0 0 0 0 0) (ref 16 1 0 0 0 0 0) (ref 16 1 1 0 0 0 0) blank ∷ step 1 2 (ref 18 0 0 0 0 0 0) (ref 16 0 0 0 0 0 0) (ref 16 0 1 0 0 0 0) blank ∷ []))) ∷
    []

-- THE DEFINITIONS GIVE THE ORIGINAL'S ANSWERS
pub all-agree : agree_walked vectors ≡ true
unfolding first u16_at child_count within tree shape exp_dim number_at is_plan plan.lookups plan.products among is_im adding fits names_there bits_good counts_agree column cm1s lookups products intermediates quotient_dim quotients mapped some_none placed position_of first_width whole_width third_width vectors is_reference is_leaf is_step sources_needed runs used_by record_by lists.mapped walked used_verdict record_verdict rule_kind rule_id rule_dim rule_for ruled_reference meet_reference meet_used meet_record meet_records fix_reference tree_for tree_kind tree_position tree_dim has_tree treed_reference tree_reference rule_no is_destination through source_dim source_dims largest step_with noted passed
all-agree = refl
