-- The 22 vectors of walks, made by tools/plans_to_antt.py.
-- Assumes nothing.
use Rattle.std.specs.Prelude.{◌≡◌, refl, true, List, [], ◌∷◌}
use Rattle.frames.specs.Tables.{first}
use Rattle.kinds.specs.BigEndian.{u16_at}
use Rattle.kinds.specs.Kinds.{child_count}
use Rattle.kinds.specs.Range.{within}
use Rattle.pool.specs.Trees.{tree}
use Rattle.pool.specs.Admission.{shape}
use Rattle.exp_dims.specs.Dimension.{exp_dim}
use Rattle.plans.specs.Plan.{number_at, is_plan}
use Rattle.plans.specs.Columns as plan
use Rattle.plans.specs.Columns.{among, is_im, adding, fits}
use Rattle.plans.specs.Agreement.{names_there, bits_good, counts_agree}
use Rattle.map_records.specs.Mapping.{column, cm1s, lookups, products, intermediates, quotient_dim, quotients, mapped, some_none}
use Rattle.sections.specs.Sections.{placed, position_of, first_width, whole_width, third_width}
use Rattle.kinds.specs.Kinds.{is_reference, is_leaf}
use Rattle.kinds.specs.StepOps.{is_step, sources_needed}
use Rattle.lent_lists.specs.Records as lists
use Rattle.lent_lists.specs.Records.{runs, used_by, record_by}
use Rattle.lent_lists.specs.Walks.{walked, used_verdict, record_verdict}
use Rattle.fixing.specs.ProverCode.{rule_kind, rule_id, rule_dim, rule_for, ruled_reference, meet_reference, meet_used, meet_record, meet_records, fix_reference}
use Rattle.query_fixing.specs.QueryCode.{tree_for, tree_kind, tree_position, tree_dim, has_tree, treed_reference, tree_reference}
use Rattle.step_dimensions.specs.Rules.{rule_no, is_destination}
use Rattle.step_dimensions.specs.StepDimensions.{through, source_dim, source_dims, largest, step_with, noted}
use Rattle.dimensions.specs.Dimensions.{passed}
use Rattle.replay_plans.specs.Replay.{node, root}
use Rattle.replay_plans.specs.Walks.{WalkVector, walk_vector, lists', ref, step, blank, query, no_more, becomes, agree_walked}

unfoldable pub vectors : List WalkVector
vectors =
    -- m07-two-in-the-query-code
    walk_vector
    (node 16 0 0 0 0 0 ∷ node 16 1 0 0 0 0 ∷ node 3 0 2 0 1 0 ∷ node 22 0 0 0 0 0 ∷ node 16 2 0 0 0 0 ∷ node 16 3 0 0 0 0 ∷ [])
    (root 2 ∷ root 3 ∷ root 4 ∷ root 5 ∷ [])
    (3 ∷ 4 ∷ 0 ∷ 2 ∷ 0 ∷ 0 ∷ 0 ∷ 3 ∷ 0 ∷ 1 ∷ 0 ∷ 1 ∷ 0 ∷ 0 ∷ 0 ∷ 0 ∷ 0 ∷ 1 ∷ 0 ∷ 0 ∷ 0 ∷ 2 ∷ 0 ∷ 0 ∷ 0 ∷ 0 ∷ 0 ∷ 1 ∷ 0 ∷ 1 ∷ 0 ∷ 0 ∷ 0 ∷ 4 ∷ 0 ∷ 1 ∷ 0 ∷ 3 ∷ [])
    query
    (lists' 0 (step 1 2 (ref 18 1 1 0 0 0 0) (ref 18 0 0 0 0 0 0) (ref 18 0 1 0 0 0 0) blank ∷ []) ([]) (step 8 1 (ref 18 0 0 0 0 0 0) (ref 18 0 1 0 0 0 0) blank blank ∷ []))
    (becomes (lists' 0 (step 1 2 (ref 38 1 3 1 0 0 0) (ref 38 0 4 3 0 4 0) (ref 38 0 3 1 0 0 0) blank ∷ []) ([]) (step 8 1 (ref 38 0 4 3 0 4 0) (ref 38 0 3 1 0 0 0) blank blank ∷ []))) ∷
    -- m12-sources
    walk_vector
    (node 16 0 0 0 0 0 ∷ node 16 1 0 0 0 0 ∷ node 3 0 2 0 1 0 ∷ node 22 0 0 0 0 0 ∷ node 16 2 0 0 0 0 ∷ node 16 3 0 0 0 0 ∷ [])
    (root 2 ∷ root 3 ∷ root 4 ∷ root 5 ∷ [])
    (3 ∷ 4 ∷ 0 ∷ 2 ∷ 0 ∷ 2 ∷ 0 ∷ 2 ∷ 0 ∷ 1 ∷ 0 ∷ 1 ∷ 0 ∷ 0 ∷ 0 ∷ 1 ∷ 0 ∷ 0 ∷ 0 ∷ 0 ∷ 0 ∷ 1 ∷ 0 ∷ 0 ∷ 0 ∷ 0 ∷ 0 ∷ 0 ∷ 0 ∷ 0 ∷ 0 ∷ 0 ∷ 0 ∷ 1 ∷ 0 ∷ 0 ∷ 0 ∷ 5 ∷ [])
    query
    (lists' 0 (step 4 3 (ref 32 0 0 0 0 0 0) (ref 16 0 0 0 0 0 0) (ref 16 1 1 0 0 0 0) (ref 16 0 2 0 0 0 0) ∷ []) (step 4 3 (ref 32 0 1 0 0 0 0) (ref 16 0 3 0 0 0 0) (ref 16 0 4 0 0 0 0) (ref 16 0 5 0 0 0 0) ∷ []) (step 1 2 (ref 32 0 2 0 0 0 0) (ref 16 0 6 0 0 0 0) (ref 18 1 0 0 0 0 0) blank ∷ []))
    (becomes (lists' 0 (step 4 3 (ref 32 0 0 0 0 0 0) (ref 36 0 0 1 1 0 0) (ref 36 1 1 1 3 1 0) (ref 37 0 2 1 5 0 0) ∷ []) (step 4 3 (ref 32 0 1 0 0 0 0) (ref 37 0 3 1 7 1 0) (ref 38 0 4 3 9 1 0) (ref 38 0 5 1 12 0 0) ∷ []) (step 1 2 (ref 32 0 2 0 0 0 0) (ref 39 0 6 1 14 0 0) (ref 38 1 5 1 0 0 0) blank ∷ []))) ∷
    -- m12-destination
    walk_vector
    (node 16 0 0 0 0 0 ∷ node 16 1 0 0 0 0 ∷ node 3 0 2 0 1 0 ∷ node 22 0 0 0 0 0 ∷ node 16 2 0 0 0 0 ∷ node 16 3 0 0 0 0 ∷ [])
    (root 2 ∷ root 3 ∷ root 4 ∷ root 5 ∷ [])
    (3 ∷ 4 ∷ 0 ∷ 2 ∷ 0 ∷ 2 ∷ 0 ∷ 2 ∷ 0 ∷ 1 ∷ 0 ∷ 1 ∷ 0 ∷ 0 ∷ 0 ∷ 1 ∷ 0 ∷ 0 ∷ 0 ∷ 0 ∷ 0 ∷ 1 ∷ 0 ∷ 0 ∷ 0 ∷ 0 ∷ 0 ∷ 0 ∷ 0 ∷ 0 ∷ 0 ∷ 0 ∷ 0 ∷ 1 ∷ 0 ∷ 0 ∷ 0 ∷ 5 ∷ [])
    query
    (lists' 0 (step 8 1 (ref 16 0 1 0 0 0 0) (ref 17 0 0 0 0 0 0) blank blank ∷ []) ([]) ([]))
    (becomes (lists' 0 (step 8 1 (ref 36 0 1 1 3 1 0) (ref 17 0 0 0 0 0 0) blank blank ∷ []) ([]) ([]))) ∷
    -- m12-no-such-column
    walk_vector
    (node 16 0 0 0 0 0 ∷ node 16 1 0 0 0 0 ∷ node 3 0 2 0 1 0 ∷ node 22 0 0 0 0 0 ∷ node 16 2 0 0 0 0 ∷ node 16 3 0 0 0 0 ∷ [])
    (root 2 ∷ root 3 ∷ root 4 ∷ root 5 ∷ [])
    (3 ∷ 4 ∷ 0 ∷ 2 ∷ 0 ∷ 2 ∷ 0 ∷ 2 ∷ 0 ∷ 1 ∷ 0 ∷ 1 ∷ 0 ∷ 0 ∷ 0 ∷ 1 ∷ 0 ∷ 0 ∷ 0 ∷ 0 ∷ 0 ∷ 1 ∷ 0 ∷ 0 ∷ 0 ∷ 0 ∷ 0 ∷ 0 ∷ 0 ∷ 0 ∷ 0 ∷ 0 ∷ 0 ∷ 1 ∷ 0 ∷ 0 ∷ 0 ∷ 5 ∷ [])
    query
    (lists' 0 (step 8 1 (ref 32 0 0 0 0 0 0) (ref 16 0 7 0 0 0 0) blank blank ∷ []) ([]) ([]))
    (no_more 3) ∷
    -- m12-intermediate-without-column
    walk_vector
    (node 16 0 0 0 0 0 ∷ node 16 1 0 0 0 0 ∷ node 3 0 2 0 1 0 ∷ node 22 0 0 0 0 0 ∷ node 16 2 0 0 0 0 ∷ node 16 3 0 0 0 0 ∷ [])
    (root 2 ∷ root 3 ∷ root 4 ∷ root 5 ∷ [])
    (3 ∷ 4 ∷ 0 ∷ 2 ∷ 0 ∷ 2 ∷ 0 ∷ 2 ∷ 0 ∷ 1 ∷ 0 ∷ 1 ∷ 0 ∷ 0 ∷ 0 ∷ 1 ∷ 0 ∷ 0 ∷ 0 ∷ 0 ∷ 0 ∷ 1 ∷ 0 ∷ 0 ∷ 0 ∷ 0 ∷ 0 ∷ 0 ∷ 0 ∷ 0 ∷ 0 ∷ 0 ∷ 0 ∷ 1 ∷ 0 ∷ 0 ∷ 0 ∷ 7 ∷ [])
    query
    (lists' 0 (step 8 1 (ref 32 0 0 0 0 0 0) (ref 18 0 0 0 0 0 0) blank blank ∷ []) ([]) ([]))
    (no_more 3) ∷
    -- list-query-after-fixing
    walk_vector
    (node 16 0 0 0 0 0 ∷ node 22 0 0 0 0 0 ∷ node 18 1 0 0 0 0 ∷ node 17 0 0 0 0 0 ∷ [])
    (root 0 ∷ root 1 ∷ root 2 ∷ root 3 ∷ [])
    (3 ∷ 4 ∷ 0 ∷ 2 ∷ 0 ∷ 0 ∷ 0 ∷ 1 ∷ 0 ∷ 1 ∷ 0 ∷ 1 ∷ 0 ∷ 1 ∷ 0 ∷ 0 ∷ 0 ∷ 0 ∷ 0 ∷ 0 ∷ 0 ∷ 1 ∷ 0 ∷ 2 ∷ 0 ∷ 0 ∷ 0 ∷ 2 ∷ 0 ∷ 2 ∷ 0 ∷ 0 ∷ 0 ∷ 4 ∷ [])
    query
    (lists' 0 (step 8 1 (ref 33 0 0 0 0 0 0) (ref 33 0 1 0 0 0 0) blank blank ∷ []) ([]) (step 8 1 (ref 40 0 0 0 0 0 0) (ref 16 0 0 0 0 0 0) blank blank ∷ []))
    (no_more 10) ∷
    -- list-query-keeps-other-kinds
    walk_vector
    (node 16 0 0 0 0 0 ∷ node 22 0 0 0 0 0 ∷ node 18 1 0 0 0 0 ∷ node 17 0 0 0 0 0 ∷ [])
    (root 0 ∷ root 1 ∷ root 2 ∷ root 3 ∷ [])
    (3 ∷ 4 ∷ 0 ∷ 2 ∷ 0 ∷ 0 ∷ 0 ∷ 1 ∷ 0 ∷ 1 ∷ 0 ∷ 1 ∷ 0 ∷ 1 ∷ 0 ∷ 0 ∷ 0 ∷ 0 ∷ 0 ∷ 0 ∷ 0 ∷ 1 ∷ 0 ∷ 2 ∷ 0 ∷ 0 ∷ 0 ∷ 2 ∷ 0 ∷ 2 ∷ 0 ∷ 0 ∷ 0 ∷ 4 ∷ [])
    query
    (lists' 3 (step 1 2 (ref 18 0 3 0 0 0 0) (ref 19 0 0 0 0 0 0) (ref 35 0 0 0 0 0 0) blank ∷ []) (step 8 1 (ref 32 0 1 0 0 0 0) (ref 20 0 0 0 0 0 0) blank blank ∷ []) ([]))
    (becomes (lists' 4 (step 1 2 (ref 32 0 3 0 0 0 3) (ref 19 0 0 0 0 0 0) (ref 35 0 0 0 0 0 0) blank ∷ []) (step 8 1 (ref 32 0 1 0 0 0 0) (ref 20 0 0 0 0 0 0) blank blank ∷ []) ([]))) ∷
    -- random-1-001-any-walk-plan-refused
    walk_vector
    (node 16 3 0 0 0 0 ∷ node 6 0 1 0 0 0 ∷ node 16 1 0 0 0 0 ∷ node 16 8 0 0 0 0 ∷ node 22 65535 0 0 0 0 ∷ node 23 1 0 0 0 0 ∷ node 3 0 2 1 3 0 ∷ node 6 0 1 2 0 0 ∷ node 18 0 0 0 0 0 ∷ node 16 6 0 0 0 0 ∷ node 2 0 2 9 8 0 ∷ node 5 0 1 10 0 0 ∷ node 3 0 2 5 11 0 ∷ [])
    (root 6 ∷ root 7 ∷ [])
    (0 ∷ 1 ∷ 0 ∷ 3 ∷ 0 ∷ 2 ∷ 0 ∷ 2 ∷ 0 ∷ 2 ∷ 0 ∷ 2 ∷ 0 ∷ 0 ∷ 0 ∷ 1 ∷ 0 ∷ 0 ∷ 0 ∷ 1 ∷ 0 ∷ 0 ∷ 0 ∷ 0 ∷ 0 ∷ 0 ∷ 0 ∷ 1 ∷ 0 ∷ 1 ∷ 0 ∷ 1 ∷ 0 ∷ 1 ∷ 0 ∷ 2 ∷ 0 ∷ 0 ∷ [])
    query
    (lists' 0 ([]) ([]) ([]))
    (no_more 3) ∷
    -- random-1-007-query-any
    walk_vector
    (node 26 0 0 0 0 0 ∷ node 18 3 0 0 0 0 ∷ node 17 1 0 0 0 0 ∷ node 2 0 2 2 1 0 ∷ node 16 2 0 0 0 0 ∷ node 19 2 0 0 0 0 ∷ node 17 2 0 0 0 0 ∷ node 17 0 0 0 0 0 ∷ node 18 3 0 0 0 0 ∷ node 18 2 0 0 0 0 ∷ node 18 3 0 0 0 0 ∷ node 24 0 0 0 0 0 ∷ node 5 0 1 9 0 0 ∷ node 3 0 2 12 4 0 ∷ node 3 0 2 3 8 0 ∷ node 3 0 2 14 5 0 ∷ node 1 0 2 10 15 0 ∷ node 3 0 2 6 0 0 ∷ [])
    (root 11 ∷ root 7 ∷ root 16 ∷ root 17 ∷ [])
    (10 ∷ 11 ∷ 0 ∷ 3 ∷ 0 ∷ 4 ∷ 0 ∷ 3 ∷ 0 ∷ 3 ∷ 0 ∷ 3 ∷ 0 ∷ 0 ∷ 0 ∷ 2 ∷ 0 ∷ 0 ∷ 0 ∷ 0 ∷ 0 ∷ 1 ∷ 0 ∷ 2 ∷ 0 ∷ 3 ∷ 0 ∷ 2 ∷ 0 ∷ 0 ∷ 0 ∷ 3 ∷ 0 ∷ 1 ∷ 0 ∷ 1 ∷ 0 ∷ 2 ∷ 0 ∷ 0 ∷ 0 ∷ 1 ∷ 0 ∷ 2 ∷ 0 ∷ 9 ∷ 0 ∷ 27 ∷ 0 ∷ 12 ∷ 0 ∷ 1 ∷ 0 ∷ 3 ∷ 0 ∷ 0 ∷ [])
    query
    (lists' 9 (step 2 2 (ref 19 1 0 0 0 0 0) (ref 26 0 0 0 0 0 0) (ref 26 0 0 0 0 0 0) blank ∷ step 1 2 (ref 16 1 9 0 0 0 0) (ref 35 0 0 0 0 0 0) (ref 24 0 0 0 0 0 0) blank ∷ step 8 1 (ref 19 1 1 0 0 0 0) (ref 23 0 3 0 0 0 0) blank blank ∷ []) (step 8 1 (ref 34 0 3 1 0 0 0) (ref 26 0 0 4 18 6 0) blank blank ∷ step 1 2 (ref 32 1 4 0 0 0 0) (ref 23 0 0 0 0 0 0) (ref 23 0 3 0 0 0 0) blank ∷ []) (step 8 1 (ref 19 1 0 2 6 16 7) (ref 35 0 0 0 0 0 0) blank blank ∷ []))
    (becomes (lists' 9 (step 2 2 (ref 19 1 0 0 0 0 0) (ref 26 0 0 0 0 0 0) (ref 26 0 0 0 0 0 0) blank ∷ step 1 2 (ref 38 1 9 3 22 6 0) (ref 35 0 0 0 0 0 0) (ref 24 0 0 0 0 0 0) blank ∷ step 8 1 (ref 19 1 1 0 0 0 0) (ref 23 0 3 0 0 0 0) blank blank ∷ []) (step 8 1 (ref 34 0 3 1 0 0 0) (ref 26 0 0 4 18 6 0) blank blank ∷ step 1 2 (ref 32 1 4 0 0 0 0) (ref 23 0 0 0 0 0 0) (ref 23 0 3 0 0 0 0) blank ∷ []) (step 8 1 (ref 19 1 0 2 6 16 7) (ref 35 0 0 0 0 0 0) blank blank ∷ []))) ∷
    -- random-1-009-any-walk-plan-refused
    walk_vector
    (node 24 0 0 0 0 0 ∷ node 17 0 0 0 0 0 ∷ node 5 0 1 0 0 0 ∷ node 1 0 2 2 1 0 ∷ node 6 0 1 3 0 0 ∷ node 16 5 0 0 0 0 ∷ [])
    (root 5 ∷ [])
    (1 ∷ 4 ∷ 0 ∷ 3 ∷ 0 ∷ 0 ∷ 0 ∷ 1 ∷ 0 ∷ 2 ∷ 0 ∷ 2 ∷ 0 ∷ 0 ∷ 0 ∷ 0 ∷ 0 ∷ 1 ∷ 0 ∷ 0 ∷ 0 ∷ 0 ∷ 0 ∷ 2 ∷ 0 ∷ 2 ∷ 0 ∷ 0 ∷ 0 ∷ 0 ∷ 0 ∷ 3 ∷ 0 ∷ 10 ∷ 0 ∷ 0 ∷ 0 ∷ 0 ∷ [])
    query
    (lists' 0 ([]) ([]) ([]))
    (no_more 12) ∷
    -- random-1-025-query-any
    walk_vector
    (node 17 2 0 0 0 0 ∷ node 21 1 0 0 0 0 ∷ node 24 0 0 0 0 0 ∷ node 16 0 0 0 0 0 ∷ node 3 0 2 3 1 0 ∷ node 23 1 0 0 0 0 ∷ node 2 0 2 2 0 0 ∷ node 3 0 2 5 6 0 ∷ node 6 0 1 4 0 0 ∷ [])
    (root 8 ∷ root 7 ∷ [])
    (23 ∷ 27 ∷ 0 ∷ 1 ∷ 0 ∷ 0 ∷ 0 ∷ 0 ∷ 0 ∷ 3 ∷ 0 ∷ 3 ∷ 0 ∷ 1 ∷ 0 ∷ 0 ∷ 0 ∷ 0 ∷ 0 ∷ 0 ∷ 0 ∷ 0 ∷ 0 ∷ 2 ∷ 0 ∷ 2 ∷ 0 ∷ 9 ∷ 0 ∷ 7 ∷ 0 ∷ 0 ∷ 0 ∷ 1 ∷ [])
    query
    (lists' 4 (step 8 1 (ref 32 1 0 0 0 0 0) (ref 35 1 1 0 0 0 0) blank blank ∷ []) (step 3 2 (ref 32 1 1 0 0 0 0) (ref 34 0 3 2 0 0 0) (ref 32 1 0 0 0 0 0) blank ∷ []) (step 4 3 (ref 18 0 0 0 0 0 0) (ref 25 0 0 0 0 0 0) (ref 32 1 1 0 0 0 0) (ref 19 0 0 0 0 0 0) ∷ step 1 2 (ref 16 0 1 0 0 0 0) (ref 25 0 0 0 0 0 0) (ref 35 1 1 0 0 0 0) blank ∷ step 1 2 (ref 18 0 0 0 0 0 0) (ref 17 0 2 0 13 1 10) (ref 20 0 0 0 0 0 0) blank ∷ []))
    (becomes (lists' 5 (step 8 1 (ref 32 1 0 0 0 0 0) (ref 35 1 1 0 0 0 0) blank blank ∷ []) (step 3 2 (ref 32 1 1 0 0 0 0) (ref 34 0 3 2 0 0 0) (ref 32 1 0 0 0 0 0) blank ∷ []) (step 4 3 (ref 32 0 4 0 0 0 0) (ref 25 0 0 0 0 0 0) (ref 32 1 1 0 0 0 0) (ref 19 0 0 0 0 0 0) ∷ step 1 2 (ref 39 0 1 3 3 0 0) (ref 25 0 0 0 0 0 0) (ref 35 1 1 0 0 0 0) blank ∷ step 1 2 (ref 32 0 4 0 0 0 0) (ref 17 0 2 0 13 1 10) (ref 20 0 0 0 0 0 0) blank ∷ []))) ∷
    -- random-1-035-any-walk-plan-refused
    walk_vector
    (node 16 0 0 0 0 0 ∷ node 17 0 0 0 0 0 ∷ node 16 0 0 0 0 0 ∷ node 17 2 0 0 0 0 ∷ node 16 2 0 0 0 0 ∷ node 3 0 2 4 1 0 ∷ node 3 0 2 2 5 0 ∷ node 1 0 2 0 6 0 ∷ node 1 0 2 3 7 0 ∷ node 16 2 0 0 0 0 ∷ node 17 65535 0 0 0 0 ∷ node 24 0 0 0 0 0 ∷ node 3 0 2 11 10 0 ∷ node 16 0 0 0 0 0 ∷ node 17 0 0 0 0 0 ∷ node 3 0 2 13 14 0 ∷ node 1 0 2 12 1 0 ∷ node 3 0 2 8 16 0 ∷ [])
    (root 17 ∷ [])
    (10 ∷ 15 ∷ 0 ∷ 1 ∷ 0 ∷ 2 ∷ 0 ∷ 2 ∷ 0 ∷ 3 ∷ 0 ∷ 3 ∷ 0 ∷ 0 ∷ 0 ∷ 1 ∷ 0 ∷ 1 ∷ 0 ∷ 0 ∷ 0 ∷ 0 ∷ 0 ∷ 0 ∷ 0 ∷ 0 ∷ 0 ∷ 0 ∷ 0 ∷ 0 ∷ 0 ∷ 0 ∷ 0 ∷ 0 ∷ 0 ∷ 0 ∷ 0 ∷ 0 ∷ [])
    query
    (lists' 0 ([]) ([]) ([]))
    (no_more 3) ∷
    -- random-1-043-query-any
    walk_vector
    (node 17 3 0 0 0 0 ∷ node 23 0 0 0 0 0 ∷ node 23 0 0 0 0 0 ∷ node 26 0 0 0 0 0 ∷ node 1 0 2 1 2 0 ∷ node 3 0 2 0 4 0 ∷ node 17 256 0 0 0 0 ∷ node 17 0 0 0 0 0 ∷ node 2 0 2 5 6 0 ∷ node 1 0 2 3 7 0 ∷ node 1 0 2 8 9 0 ∷ [])
    (root 10 ∷ [])
    (0 ∷ 4 ∷ 0 ∷ 1 ∷ 0 ∷ 2 ∷ 0 ∷ 3 ∷ 0 ∷ 3 ∷ 0 ∷ 3 ∷ 0 ∷ 0 ∷ 0 ∷ 1 ∷ 0 ∷ 2 ∷ 0 ∷ 0 ∷ 0 ∷ 0 ∷ 0 ∷ 2 ∷ 0 ∷ 2 ∷ 0 ∷ 0 ∷ 0 ∷ 0 ∷ 0 ∷ 0 ∷ 0 ∷ 0 ∷ 0 ∷ 0 ∷ 0 ∷ 0 ∷ 0 ∷ 0 ∷ 0 ∷ 0 ∷ 0 ∷ 11 ∷ 0 ∷ 14 ∷ 0 ∷ 0 ∷ 0 ∷ 0 ∷ [])
    query
    (lists' 0 (step 2 2 (ref 33 1 3 0 0 0 0) (ref 24 0 0 0 0 0 0) (ref 20 0 0 0 0 0 0) blank ∷ step 2 2 (ref 32 0 2 0 0 0 0) (ref 16 1 5 0 0 0 0) (ref 19 0 0 0 0 0 0) blank ∷ step 3 2 (ref 33 0 2 1 2 16 19) (ref 32 0 2 0 0 0 0) (ref 32 0 2 0 0 0 0) blank ∷ []) (step 2 2 (ref 34 1 3 3 0 0 0) (ref 26 1 0 0 0 0 0) (ref 22 0 2 0 0 0 0) blank ∷ step 3 2 (ref 18 1 0 0 0 0 0) (ref 24 1 0 0 0 0 0) (ref 25 0 0 0 0 0 0) blank ∷ []) (step 3 2 (ref 19 0 0 0 0 0 0) (ref 18 1 0 0 0 0 0) (ref 20 0 0 0 0 0 0) blank ∷ []))
    (becomes (lists' 1 (step 2 2 (ref 33 1 3 0 0 0 0) (ref 24 0 0 0 0 0 0) (ref 20 0 0 0 0 0 0) blank ∷ step 2 2 (ref 32 0 2 0 0 0 0) (ref 38 1 5 3 12 6 0) (ref 19 0 0 0 0 0 0) blank ∷ step 3 2 (ref 33 0 2 1 2 16 19) (ref 32 0 2 0 0 0 0) (ref 32 0 2 0 0 0 0) blank ∷ []) (step 2 2 (ref 34 1 3 3 0 0 0) (ref 26 1 0 0 0 0 0) (ref 22 0 2 0 0 0 0) blank ∷ step 3 2 (ref 32 1 0 0 0 0 0) (ref 24 1 0 0 0 0 0) (ref 25 0 0 0 0 0 0) blank ∷ []) (step 3 2 (ref 19 0 0 0 0 0 0) (ref 32 1 0 0 0 0 0) (ref 20 0 0 0 0 0 0) blank ∷ []))) ∷
    -- random-1-060-query-generated
    walk_vector
    (node 16 0 0 0 0 0 ∷ node 16 0 0 0 0 0 ∷ node 1 0 2 1 0 0 ∷ node 18 0 0 0 0 0 ∷ [])
    (root 2 ∷ [])
    (0 ∷ 1 ∷ 0 ∷ 1 ∷ 0 ∷ 0 ∷ 0 ∷ 0 ∷ 0 ∷ 0 ∷ 0 ∷ 0 ∷ 0 ∷ 0 ∷ 0 ∷ 0 ∷ 0 ∷ 0 ∷ 0 ∷ 0 ∷ 0 ∷ 0 ∷ 0 ∷ 3 ∷ 0 ∷ 3 ∷ 0 ∷ 0 ∷ 0 ∷ 0 ∷ 0 ∷ 0 ∷ 0 ∷ 0 ∷ 0 ∷ 0 ∷ 0 ∷ 0 ∷ [])
    query
    (lists' 0 (step 1 2 (ref 18 0 0 0 0 0 0) (ref 16 0 0 0 0 0 0) (ref 16 1 0 0 0 0 0) blank ∷ []) (step 1 2 (ref 18 0 0 0 0 0 0) (ref 16 0 0 0 0 0 0) (ref 16 1 0 0 0 0 0) blank ∷ []) (step 1 2 (ref 18 0 0 0 0 0 0) (ref 16 0 0 0 0 0 0) (ref 16 1 0 0 0 0 0) blank ∷ []))
    (becomes (lists' 1 (step 1 2 (ref 32 0 0 0 0 0 0) (ref 36 0 0 1 1 0 0) (ref 36 1 0 1 1 0 0) blank ∷ []) (step 1 2 (ref 32 0 0 0 0 0 0) (ref 36 0 0 1 1 0 0) (ref 36 1 0 1 1 0 0) blank ∷ []) (step 1 2 (ref 32 0 0 0 0 0 0) (ref 36 0 0 1 1 0 0) (ref 36 1 0 1 1 0 0) blank ∷ []))) ∷
    -- random-1-061-query-any
    walk_vector
    (node 23 2 0 0 0 0 ∷ node 16 2 0 0 0 0 ∷ node 22 2 0 0 0 0 ∷ node 1 0 2 0 1 0 ∷ node 16 1 0 0 0 0 ∷ node 7 0 1 3 0 0 ∷ [])
    (root 4 ∷ [])
    (24 ∷ 26 ∷ 0 ∷ 3 ∷ 0 ∷ 0 ∷ 0 ∷ 3 ∷ 0 ∷ 0 ∷ 0 ∷ 0 ∷ 0 ∷ 0 ∷ 0 ∷ 0 ∷ 0 ∷ 1 ∷ 0 ∷ 2 ∷ 0 ∷ 0 ∷ 0 ∷ 1 ∷ 0 ∷ 1 ∷ 0 ∷ 0 ∷ 0 ∷ 0 ∷ 0 ∷ 0 ∷ 0 ∷ 0 ∷ 0 ∷ 0 ∷ 0 ∷ 0 ∷ 0 ∷ 2 ∷ 0 ∷ 0 ∷ [])
    query
    (lists' 9 (step 3 2 (ref 19 0 0 0 0 0 0) (ref 22 0 2 0 0 0 0) (ref 21 0 0 0 0 0 0) blank ∷ step 8 1 (ref 34 1 1 2 0 0 0) (ref 21 0 2 0 0 19 10) blank blank ∷ []) (step 3 2 (ref 18 0 0 0 0 0 0) (ref 19 1 0 0 0 0 0) (ref 24 0 0 0 0 0 0) blank ∷ []) (step 1 2 (ref 19 0 0 3 9 12 14) (ref 23 0 0 0 0 0 0) (ref 25 0 0 0 0 0 0) blank ∷ []))
    (becomes (lists' 10 (step 3 2 (ref 19 0 0 0 0 0 0) (ref 22 0 2 0 0 0 0) (ref 21 0 0 0 0 0 0) blank ∷ step 8 1 (ref 34 1 1 2 0 0 0) (ref 21 0 2 0 0 19 10) blank blank ∷ []) (step 3 2 (ref 32 0 9 0 0 0 0) (ref 19 1 0 0 0 0 0) (ref 24 0 0 0 0 0 0) blank ∷ []) (step 1 2 (ref 19 0 0 3 9 12 14) (ref 23 0 0 0 0 0 0) (ref 25 0 0 0 0 0 0) blank ∷ []))) ∷
    -- random-1-069-any-walk-plan-refused
    walk_vector
    (node 17 1 0 0 0 0 ∷ node 17 0 0 0 0 0 ∷ node 3 0 2 1 0 0 ∷ node 21 2 0 0 0 0 ∷ node 1 0 2 3 2 0 ∷ node 6 0 1 4 0 0 ∷ node 6 0 1 5 0 0 ∷ node 18 2 0 0 0 0 ∷ node 1 0 2 7 6 0 ∷ node 22 0 0 0 0 0 ∷ node 1 0 2 9 8 0 ∷ node 6 0 1 10 0 0 ∷ node 18 2 0 0 0 0 ∷ node 17 1 0 0 0 0 ∷ node 25 0 0 0 0 0 ∷ node 17 1 0 0 0 0 ∷ node 6 0 1 15 0 0 ∷ [])
    (root 11 ∷ root 13 ∷ root 14 ∷ root 16 ∷ [])
    (0 ∷ 5 ∷ 0 ∷ 1 ∷ 0 ∷ 2 ∷ 0 ∷ 5 ∷ 0 ∷ 1 ∷ 0 ∷ 2 ∷ 0 ∷ 3 ∷ 0 ∷ 1 ∷ 0 ∷ 2 ∷ 0 ∷ 2 ∷ 0 ∷ 0 ∷ 0 ∷ 0 ∷ 0 ∷ 0 ∷ 0 ∷ 2 ∷ 0 ∷ 3 ∷ 0 ∷ 1 ∷ 0 ∷ 1 ∷ 0 ∷ 2 ∷ 0 ∷ 1 ∷ 0 ∷ 1 ∷ 0 ∷ 1 ∷ 0 ∷ 2 ∷ 0 ∷ 2 ∷ 0 ∷ 3 ∷ 0 ∷ 0 ∷ [])
    query
    (lists' 0 ([]) ([]) ([]))
    (no_more 16) ∷
    -- random-1-096-query-generated
    walk_vector
    (node 18 0 0 0 0 0 ∷ node 18 0 0 0 0 0 ∷ node 3 0 2 0 1 0 ∷ node 16 0 0 0 0 0 ∷ node 3 0 2 3 2 0 ∷ node 16 2 0 0 0 0 ∷ [])
    (root 5 ∷ [])
    (24 ∷ 27 ∷ 0 ∷ 3 ∷ 0 ∷ 0 ∷ 0 ∷ 0 ∷ 0 ∷ 1 ∷ 0 ∷ 1 ∷ 0 ∷ 0 ∷ 0 ∷ 0 ∷ 0 ∷ 0 ∷ 0 ∷ 0 ∷ 0 ∷ 0 ∷ 0 ∷ 3 ∷ 0 ∷ 3 ∷ 0 ∷ 7 ∷ 0 ∷ 6 ∷ 0 ∷ 6 ∷ 0 ∷ 0 ∷ 0 ∷ 0 ∷ 0 ∷ 0 ∷ [])
    query
    (lists' 0 (step 8 1 (ref 18 0 0 0 0 0 0) (ref 16 0 2 0 0 0 0) blank blank ∷ step 8 1 (ref 18 1 0 0 0 0 0) (ref 16 1 2 0 0 0 0) blank blank ∷ []) (step 8 1 (ref 18 0 0 0 0 0 0) (ref 16 0 2 0 0 0 0) blank blank ∷ step 8 1 (ref 18 1 0 0 0 0 0) (ref 16 1 2 0 0 0 0) blank blank ∷ []) (step 8 1 (ref 18 0 0 0 0 0 0) (ref 16 0 2 0 0 0 0) blank blank ∷ step 8 1 (ref 18 1 0 0 0 0 0) (ref 16 1 2 0 0 0 0) blank blank ∷ []))
    (becomes (lists' 2 (step 8 1 (ref 32 0 0 0 0 0 0) (ref 36 0 2 1 5 2 0) blank blank ∷ step 8 1 (ref 32 1 1 0 0 0 0) (ref 36 1 2 1 5 2 0) blank blank ∷ []) (step 8 1 (ref 32 0 0 0 0 0 0) (ref 36 0 2 1 5 2 0) blank blank ∷ step 8 1 (ref 32 1 1 0 0 0 0) (ref 36 1 2 1 5 2 0) blank blank ∷ []) (step 8 1 (ref 32 0 0 0 0 0 0) (ref 36 0 2 1 5 2 0) blank blank ∷ step 8 1 (ref 32 1 1 0 0 0 0) (ref 36 1 2 1 5 2 0) blank blank ∷ []))) ∷
    -- random-1-097-query-any
    walk_vector
    (node 17 3 0 0 0 0 ∷ node 16 0 0 0 0 0 ∷ node 1 0 2 1 0 0 ∷ [])
    (root 2 ∷ [])
    (3 ∷ 6 ∷ 0 ∷ 3 ∷ 0 ∷ 2 ∷ 0 ∷ 3 ∷ 0 ∷ 2 ∷ 0 ∷ 2 ∷ 0 ∷ 0 ∷ 0 ∷ 1 ∷ 0 ∷ 1 ∷ 0 ∷ 1 ∷ 0 ∷ 0 ∷ 0 ∷ 1 ∷ 0 ∷ 1 ∷ 0 ∷ 0 ∷ 0 ∷ 0 ∷ 0 ∷ 0 ∷ 0 ∷ 0 ∷ 0 ∷ 0 ∷ 0 ∷ 0 ∷ 0 ∷ 0 ∷ 0 ∷ 0 ∷ 0 ∷ 22 ∷ 0 ∷ 0 ∷ [])
    query
    (lists' 9 (step 3 2 (ref 32 0 3 0 0 0 0) (ref 17 0 3 0 0 0 0) (ref 23 0 4 0 0 0 0) blank ∷ []) ([]) (step 2 2 (ref 32 0 1 0 0 0 0) (ref 32 0 3 0 0 0 0) (ref 17 0 65535 4 9 17 13) blank ∷ step 3 2 (ref 33 0 0 0 0 0 0) (ref 35 0 1 0 0 0 0) (ref 32 0 3 0 0 0 0) blank ∷ []))
    (becomes (lists' 9 (step 3 2 (ref 32 0 3 0 0 0 0) (ref 17 0 3 0 0 0 0) (ref 23 0 4 0 0 0 0) blank ∷ []) ([]) (step 2 2 (ref 32 0 1 0 0 0 0) (ref 32 0 3 0 0 0 0) (ref 17 0 65535 4 9 17 13) blank ∷ step 3 2 (ref 33 0 0 0 0 0 0) (ref 35 0 1 0 0 0 0) (ref 32 0 3 0 0 0 0) blank ∷ []))) ∷
    -- random-1-114-query-generated
    walk_vector
    (node 17 1 0 0 0 0 ∷ node 6 0 1 0 0 0 ∷ node 16 0 0 0 0 0 ∷ node 1 0 2 2 1 0 ∷ node 18 0 0 0 0 0 ∷ [])
    (root 3 ∷ [])
    (10 ∷ 13 ∷ 0 ∷ 3 ∷ 0 ∷ 2 ∷ 0 ∷ 4 ∷ 0 ∷ 3 ∷ 0 ∷ 3 ∷ 0 ∷ 0 ∷ 0 ∷ 1 ∷ 0 ∷ 1 ∷ 0 ∷ 1 ∷ 0 ∷ 1 ∷ 0 ∷ 2 ∷ 0 ∷ 2 ∷ 0 ∷ 0 ∷ 0 ∷ 0 ∷ 0 ∷ 0 ∷ 0 ∷ 0 ∷ 0 ∷ 0 ∷ 0 ∷ 0 ∷ 0 ∷ 0 ∷ 0 ∷ 0 ∷ 0 ∷ 0 ∷ 0 ∷ 8 ∷ 0 ∷ 2 ∷ 0 ∷ 10 ∷ 0 ∷ 0 ∷ 0 ∷ 0 ∷ [])
    query
    (lists' 0 ([]) ([]) ([]))
    (becomes (lists' 0 ([]) ([]) ([]))) ∷
    -- random-1-132-query-generated
    walk_vector
    (node 18 0 0 0 0 0 ∷ node 17 0 0 0 0 0 ∷ node 17 0 0 0 0 0 ∷ node 6 0 1 2 0 0 ∷ node 3 0 2 1 0 0 ∷ [])
    (root 3 ∷ [])
    (24 ∷ 24 ∷ 0 ∷ 0 ∷ 0 ∷ 2 ∷ 0 ∷ 5 ∷ 0 ∷ 1 ∷ 0 ∷ 1 ∷ 0 ∷ 0 ∷ 0 ∷ 1 ∷ 0 ∷ 1 ∷ 0 ∷ 3 ∷ 0 ∷ 0 ∷ 0 ∷ 2 ∷ 0 ∷ 2 ∷ 0 ∷ 0 ∷ 0 ∷ 0 ∷ 0 ∷ 0 ∷ 0 ∷ 0 ∷ 0 ∷ 0 ∷ 0 ∷ 0 ∷ 0 ∷ 0 ∷ 0 ∷ 0 ∷ 0 ∷ 0 ∷ 0 ∷ 0 ∷ 0 ∷ 0 ∷ 0 ∷ 0 ∷ 0 ∷ 11 ∷ 0 ∷ 12 ∷ 0 ∷ 0 ∷ 0 ∷ 0 ∷ [])
    query
    (lists' 0 (step 3 2 (ref 18 1 0 0 0 0 0) (ref 17 1 0 0 0 0 0) (ref 20 0 0 0 0 0 0) blank ∷ step 3 2 (ref 18 0 0 0 0 0 0) (ref 17 0 0 0 0 0 0) (ref 20 0 0 0 0 0 0) blank ∷ []) (step 3 2 (ref 18 1 0 0 0 0 0) (ref 17 1 0 0 0 0 0) (ref 20 0 0 0 0 0 0) blank ∷ step 3 2 (ref 18 0 0 0 0 0 0) (ref 17 0 0 0 0 0 0) (ref 20 0 0 0 0 0 0) blank ∷ []) (step 3 2 (ref 18 0 0 0 0 0 0) (ref 17 0 0 0 0 0 0) (ref 20 0 0 0 0 0 0) blank ∷ []))
    (becomes (lists' 2 (step 3 2 (ref 32 1 0 0 0 0 0) (ref 17 1 0 0 0 0 0) (ref 20 0 0 0 0 0 0) blank ∷ step 3 2 (ref 32 0 1 0 0 0 0) (ref 17 0 0 0 0 0 0) (ref 20 0 0 0 0 0 0) blank ∷ []) (step 3 2 (ref 32 1 0 0 0 0 0) (ref 17 1 0 0 0 0 0) (ref 20 0 0 0 0 0 0) blank ∷ step 3 2 (ref 32 0 1 0 0 0 0) (ref 17 0 0 0 0 0 0) (ref 20 0 0 0 0 0 0) blank ∷ []) (step 3 2 (ref 32 0 1 0 0 0 0) (ref 17 0 0 0 0 0 0) (ref 20 0 0 0 0 0 0) blank ∷ []))) ∷
    -- random-1-168-query-generated
    walk_vector
    (node 16 1 0 0 0 0 ∷ node 5 0 1 0 0 0 ∷ node 16 1 0 0 0 0 ∷ node 3 0 2 2 1 0 ∷ node 24 0 0 0 0 0 ∷ node 2 0 2 3 4 0 ∷ node 16 4 0 0 0 0 ∷ node 16 2 0 0 0 0 ∷ node 2 0 2 6 5 0 ∷ node 17 0 0 0 0 0 ∷ node 2 0 2 7 8 0 ∷ node 16 1 0 0 0 0 ∷ node 1 0 2 11 9 0 ∷ node 1 0 2 12 10 0 ∷ [])
    (root 13 ∷ [])
    (23 ∷ 24 ∷ 0 ∷ 3 ∷ 0 ∷ 0 ∷ 0 ∷ 0 ∷ 0 ∷ 3 ∷ 0 ∷ 3 ∷ 0 ∷ 0 ∷ 0 ∷ 0 ∷ 0 ∷ 0 ∷ 0 ∷ 0 ∷ 0 ∷ 0 ∷ 0 ∷ 3 ∷ 0 ∷ 3 ∷ 0 ∷ 1 ∷ 0 ∷ 1 ∷ 0 ∷ 9 ∷ 0 ∷ 0 ∷ 0 ∷ 0 ∷ 0 ∷ 0 ∷ [])
    query
    (lists' 6 (step 1 2 (ref 32 0 0 0 0 0 0) (ref 16 0 1 0 0 0 0) (ref 17 0 0 0 0 0 0) blank ∷ step 1 2 (ref 32 0 1 0 0 0 0) (ref 16 0 1 0 0 0 0) (ref 20 0 0 0 0 0 0) blank ∷ step 3 2 (ref 32 0 2 0 0 0 0) (ref 16 0 1 0 0 0 0) (ref 32 0 1 0 0 0 0) blank ∷ step 2 2 (ref 32 0 3 0 0 0 0) (ref 32 0 2 0 0 0 0) (ref 24 0 0 0 0 0 0) blank ∷ step 2 2 (ref 32 0 4 0 0 0 0) (ref 16 0 4 0 0 0 0) (ref 32 0 3 0 0 0 0) blank ∷ step 2 2 (ref 32 0 5 0 0 0 0) (ref 16 0 2 0 0 0 0) (ref 32 0 4 0 0 0 0) blank ∷ step 1 2 (ref 18 0 0 0 0 0 0) (ref 32 0 0 0 0 0 0) (ref 32 0 5 0 0 0 0) blank ∷ step 8 1 (ref 32 0 2 0 0 0 0) (ref 18 0 0 0 0 0 0) blank blank ∷ []) (step 1 2 (ref 32 0 0 0 0 0 0) (ref 16 0 1 0 0 0 0) (ref 17 0 0 0 0 0 0) blank ∷ step 1 2 (ref 32 0 1 0 0 0 0) (ref 16 0 1 0 0 0 0) (ref 20 0 0 0 0 0 0) blank ∷ step 3 2 (ref 32 0 2 0 0 0 0) (ref 16 0 1 0 0 0 0) (ref 32 0 1 0 0 0 0) blank ∷ step 2 2 (ref 32 0 3 0 0 0 0) (ref 32 0 2 0 0 0 0) (ref 24 0 0 0 0 0 0) blank ∷ step 2 2 (ref 32 0 4 0 0 0 0) (ref 16 0 4 0 0 0 0) (ref 32 0 3 0 0 0 0) blank ∷ step 2 2 (ref 32 0 5 0 0 0 0) (ref 16 0 2 0 0 0 0) (ref 32 0 4 0 0 0 0) blank ∷ step 1 2 (ref 18 0 0 0 0 0 0) (ref 32 0 0 0 0 0 0) (ref 32 0 5 0 0 0 0) blank ∷ step 8 1 (ref 32 0 2 0 0 0 0) (ref 18 0 0 0 0 0 0) blank blank ∷ []) (step 1 2 (ref 32 0 0 0 0 0 0) (ref 16 0 1 0 0 0 0) (ref 17 0 0 0 0 0 0) blank ∷ step 1 2 (ref 32 0 1 0 0 0 0) (ref 16 0 1 0 0 0 0) (ref 20 0 0 0 0 0 0) blank ∷ step 3 2 (ref 32 0 2 0 0 0 0) (ref 16 0 1 0 0 0 0) (ref 32 0 1 0 0 0 0) blank ∷ step 2 2 (ref 32 0 3 0 0 0 0) (ref 32 0 2 0 0 0 0) (ref 24 0 0 0 0 0 0) blank ∷ step 2 2 (ref 32 0 4 0 0 0 0) (ref 16 0 4 0 0 0 0) (ref 32 0 3 0 0 0 0) blank ∷ step 2 2 (ref 32 0 5 0 0 0 0) (ref 16 0 2 0 0 0 0) (ref 32 0 4 0 0 0 0) blank ∷ step 1 2 (ref 18 0 0 0 0 0 0) (ref 32 0 0 0 0 0 0) (ref 32 0 5 0 0 0 0) blank ∷ step 8 1 (ref 32 0 2 0 0 0 0) (ref 18 0 0 0 0 0 0) blank blank ∷ []))
    (becomes (lists' 7 (step 1 2 (ref 32 0 0 0 0 0 0) (ref 36 0 1 1 3 1 0) (ref 17 0 0 0 0 0 0) blank ∷ step 1 2 (ref 32 0 1 0 0 0 0) (ref 36 0 1 1 3 1 0) (ref 20 0 0 0 0 0 0) blank ∷ step 3 2 (ref 32 0 2 0 0 0 0) (ref 36 0 1 1 3 1 0) (ref 32 0 1 0 0 0 0) blank ∷ step 2 2 (ref 32 0 3 0 0 0 0) (ref 32 0 2 0 0 0 0) (ref 24 0 0 0 0 0 0) blank ∷ step 2 2 (ref 32 0 4 0 0 0 0) (ref 39 0 4 3 9 3 0) (ref 32 0 3 0 0 0 0) blank ∷ step 2 2 (ref 32 0 5 0 0 0 0) (ref 36 0 2 1 5 2 0) (ref 32 0 4 0 0 0 0) blank ∷ step 1 2 (ref 32 0 6 0 0 0 0) (ref 32 0 0 0 0 0 0) (ref 32 0 5 0 0 0 0) blank ∷ step 8 1 (ref 32 0 2 0 0 0 0) (ref 32 0 6 0 0 0 0) blank blank ∷ []) (step 1 2 (ref 32 0 0 0 0 0 0) (ref 36 0 1 1 3 1 0) (ref 17 0 0 0 0 0 0) blank ∷ step 1 2 (ref 32 0 1 0 0 0 0) (ref 36 0 1 1 3 1 0) (ref 20 0 0 0 0 0 0) blank ∷ step 3 2 (ref 32 0 2 0 0 0 0) (ref 36 0 1 1 3 1 0) (ref 32 0 1 0 0 0 0) blank ∷ step 2 2 (ref 32 0 3 0 0 0 0) (ref 32 0 2 0 0 0 0) (ref 24 0 0 0 0 0 0) blank ∷ step 2 2 (ref 32 0 4 0 0 0 0) (ref 39 0 4 3 9 3 0) (ref 32 0 3 0 0 0 0) blank ∷ step 2 2 (ref 32 0 5 0 0 0 0) (ref 36 0 2 1 5 2 0) (ref 32 0 4 0 0 0 0) blank ∷ step 1 2 (ref 32 0 6 0 0 0 0) (ref 32 0 0 0 0 0 0) (ref 32 0 5 0 0 0 0) blank ∷ step 8 1 (ref 32 0 2 0 0 0 0) (ref 32 0 6 0 0 0 0) blank blank ∷ []) (step 1 2 (ref 32 0 0 0 0 0 0) (ref 36 0 1 1 3 1 0) (ref 17 0 0 0 0 0 0) blank ∷ step 1 2 (ref 32 0 1 0 0 0 0) (ref 36 0 1 1 3 1 0) (ref 20 0 0 0 0 0 0) blank ∷ step 3 2 (ref 32 0 2 0 0 0 0) (ref 36 0 1 1 3 1 0) (ref 32 0 1 0 0 0 0) blank ∷ step 2 2 (ref 32 0 3 0 0 0 0) (ref 32 0 2 0 0 0 0) (ref 24 0 0 0 0 0 0) blank ∷ step 2 2 (ref 32 0 4 0 0 0 0) (ref 39 0 4 3 9 3 0) (ref 32 0 3 0 0 0 0) blank ∷ step 2 2 (ref 32 0 5 0 0 0 0) (ref 36 0 2 1 5 2 0) (ref 32 0 4 0 0 0 0) blank ∷ step 1 2 (ref 32 0 6 0 0 0 0) (ref 32 0 0 0 0 0 0) (ref 32 0 5 0 0 0 0) blank ∷ step 8 1 (ref 32 0 2 0 0 0 0) (ref 32 0 6 0 0 0 0) blank blank ∷ []))) ∷
    -- random-1-169-query-any
    walk_vector
    (node 23 3 0 0 0 0 ∷ node 16 0 0 0 0 0 ∷ node 16 2 0 0 0 0 ∷ node 5 0 1 0 0 0 ∷ node 17 65535 0 0 0 0 ∷ node 16 0 0 0 0 0 ∷ node 3 0 2 1 2 0 ∷ node 25 0 0 0 0 0 ∷ node 17 1 0 0 0 0 ∷ node 5 0 1 7 0 0 ∷ node 4 0 3 6 5 8 ∷ node 6 0 1 3 0 0 ∷ node 2 0 2 9 4 0 ∷ node 1 0 2 10 11 0 ∷ node 1 0 2 12 13 0 ∷ [])
    (root 14 ∷ [])
    (10 ∷ 12 ∷ 0 ∷ 4 ∷ 0 ∷ 2 ∷ 0 ∷ 1 ∷ 0 ∷ 0 ∷ 0 ∷ 0 ∷ 0 ∷ 0 ∷ 0 ∷ 1 ∷ 0 ∷ 0 ∷ 0 ∷ 0 ∷ 0 ∷ 0 ∷ 0 ∷ 2 ∷ 0 ∷ 2 ∷ 0 ∷ 0 ∷ 0 ∷ 0 ∷ 0 ∷ 0 ∷ 0 ∷ 0 ∷ 0 ∷ 11 ∷ 0 ∷ 7 ∷ 0 ∷ 0 ∷ 0 ∷ 0 ∷ [])
    query
    (lists' 9 (step 4 3 (ref 33 1 0 0 0 0 0) (ref 17 1 3 0 0 0 0) (ref 24 0 0 0 0 0 0) (ref 16 0 2 0 0 0 0) ∷ step 8 1 (ref 33 1 1 0 0 0 0) (ref 22 0 3 0 0 0 0) blank blank ∷ step 3 2 (ref 18 1 0 0 0 0 0) (ref 35 0 0 0 0 0 0) (ref 16 0 2 0 0 0 0) blank ∷ []) (step 4 3 (ref 19 0 1 0 0 0 0) (ref 21 0 0 0 0 0 0) (ref 22 0 0 0 0 0 0) (ref 35 0 3 0 0 0 0) ∷ step 2 2 (ref 18 1 0 0 0 0 0) (ref 24 0 0 0 0 0 0) (ref 26 0 0 0 0 0 0) blank ∷ []) (step 1 2 (ref 18 0 0 0 0 0 0) (ref 25 1 0 0 0 0 0) (ref 16 0 1 0 0 0 0) blank ∷ step 2 2 (ref 19 0 0 0 7 2 18) (ref 18 1 0 0 0 0 0) (ref 24 1 0 0 0 0 0) blank ∷ []))
    (becomes (lists' 11 (step 4 3 (ref 33 1 0 0 0 0 0) (ref 17 1 3 0 0 0 0) (ref 24 0 0 0 0 0 0) (ref 36 0 2 1 5 2 0) ∷ step 8 1 (ref 33 1 1 0 0 0 0) (ref 22 0 3 0 0 0 0) blank blank ∷ step 3 2 (ref 32 1 9 0 0 0 0) (ref 35 0 0 0 0 0 0) (ref 36 0 2 1 5 2 0) blank ∷ []) (step 4 3 (ref 19 0 1 0 0 0 0) (ref 21 0 0 0 0 0 0) (ref 22 0 0 0 0 0 0) (ref 35 0 3 0 0 0 0) ∷ step 2 2 (ref 32 1 9 0 0 0 0) (ref 24 0 0 0 0 0 0) (ref 26 0 0 0 0 0 0) blank ∷ []) (step 1 2 (ref 32 0 10 0 0 0 0) (ref 25 1 0 0 0 0 0) (ref 36 0 1 1 3 1 0) blank ∷ step 2 2 (ref 19 0 0 0 7 2 18) (ref 32 1 9 0 0 0 0) (ref 24 1 0 0 0 0 0) blank ∷ []))) ∷
    []

-- THE DEFINITIONS GIVE THE ORIGINAL'S ANSWERS
pub all-agree : agree_walked vectors ≡ true
unfolding first u16_at child_count within tree shape exp_dim number_at is_plan plan.lookups plan.products among is_im adding fits names_there bits_good counts_agree column cm1s lookups products intermediates quotient_dim quotients mapped some_none placed position_of first_width whole_width third_width vectors is_reference is_leaf is_step sources_needed runs used_by record_by lists.mapped walked used_verdict record_verdict rule_kind rule_id rule_dim rule_for ruled_reference meet_reference meet_used meet_record meet_records fix_reference tree_for tree_kind tree_position tree_dim has_tree treed_reference tree_reference rule_no is_destination through source_dim source_dims largest step_with noted passed
all-agree = refl
