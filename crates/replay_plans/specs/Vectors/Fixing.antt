-- The 113 vectors of walks, made by tools/plans_to_antt.py.
-- Assumes nothing.
use Rattle.std.specs.Prelude.{◌≡◌, refl, true, List, [], ◌∷◌}
use Rattle.frames.specs.Tables.{first}
use Rattle.kinds.specs.BigEndian.{u16_at}
use Rattle.kinds.specs.Kinds.{child_count}
use Rattle.kinds.specs.Range.{within}
use Rattle.pool.specs.Trees.{tree}
use Rattle.pool.specs.Admission.{shape}
use Rattle.exp_dims.specs.Dimension.{exp_dim}
use Rattle.plans.specs.Plan.{number_at, is_plan}
use Rattle.plans.specs.Columns as plan
use Rattle.plans.specs.Columns.{among, is_im, adding, fits}
use Rattle.plans.specs.Agreement.{names_there, bits_good, counts_agree}
use Rattle.map_records.specs.Mapping.{column, cm1s, lookups, products, intermediates, quotient_dim, quotients, mapped, some_none}
use Rattle.sections.specs.Sections.{placed, position_of, first_width, whole_width, third_width}
use Rattle.kinds.specs.Kinds.{is_reference, is_leaf}
use Rattle.kinds.specs.StepOps.{is_step, sources_needed}
use Rattle.lent_lists.specs.Records as lists
use Rattle.lent_lists.specs.Records.{runs, used_by, record_by}
use Rattle.lent_lists.specs.Walks.{walked, used_verdict, record_verdict}
use Rattle.fixing.specs.ProverCode.{rule_kind, rule_id, rule_dim, rule_for, ruled_reference, meet_reference, meet_used, meet_record, meet_records, fix_reference}
use Rattle.query_fixing.specs.QueryCode.{tree_for, tree_kind, tree_position, tree_dim, has_tree, treed_reference, tree_reference}
use Rattle.step_dimensions.specs.Rules.{rule_no, is_destination}
use Rattle.step_dimensions.specs.StepDimensions.{through, source_dim, source_dims, largest, step_with, noted}
use Rattle.dimensions.specs.Dimensions.{passed}
use Rattle.replay_plans.specs.Replay.{node, root}
use Rattle.replay_plans.specs.Walks.{WalkVector, walk_vector, lists', ref, step, blank, fix_n, fix2ns, no_more, becomes, agree_walked}

unfoldable pub vectors : List WalkVector
vectors =
    -- m03-list
    walk_vector
    (node 16 0 0 0 0 0 ∷ node 16 1 0 0 0 0 ∷ node 3 0 2 0 1 0 ∷ node 22 0 0 0 0 0 ∷ [])
    (root 2 ∷ root 3 ∷ [])
    (3 ∷ 4 ∷ 0 ∷ 2 ∷ 0 ∷ 0 ∷ 0 ∷ 1 ∷ 0 ∷ 0 ∷ 0 ∷ 0 ∷ 0 ∷ 0 ∷ 0 ∷ 0 ∷ 0 ∷ 0 ∷ 0 ∷ 1 ∷ 0 ∷ 0 ∷ 0 ∷ 0 ∷ 0 ∷ 0 ∷ 0 ∷ 0 ∷ 0 ∷ 1 ∷ [])
    fix_n
    (lists' 0 (step 8 1 (ref 18 0 0 0 0 0 0) (ref 16 0 0 0 0 0 0) blank blank ∷ step 1 2 (ref 18 0 1 0 0 0 0) (ref 18 0 0 0 0 0 0) (ref 18 1 1 0 0 0 0) blank ∷ []) ([]) ([]))
    (becomes (lists' 0 (step 8 1 (ref 34 0 0 1 0 0 0) (ref 16 0 0 0 0 0 0) blank blank ∷ step 1 2 (ref 34 0 1 3 0 0 0) (ref 34 0 0 1 0 0 0) (ref 34 1 1 3 0 0 0) blank ∷ []) ([]) ([]))) ∷
    -- m03-fixed-to-0
    walk_vector
    (node 16 0 0 0 0 0 ∷ node 16 1 0 0 0 0 ∷ node 3 0 2 0 1 0 ∷ node 22 0 0 0 0 0 ∷ node 16 2 0 0 0 0 ∷ node 16 3 0 0 0 0 ∷ [])
    (root 2 ∷ root 3 ∷ root 4 ∷ root 5 ∷ [])
    (3 ∷ 4 ∷ 0 ∷ 2 ∷ 0 ∷ 0 ∷ 0 ∷ 2 ∷ 0 ∷ 1 ∷ 0 ∷ 1 ∷ 0 ∷ 0 ∷ 0 ∷ 0 ∷ 0 ∷ 0 ∷ 0 ∷ 1 ∷ 0 ∷ 1 ∷ 0 ∷ 0 ∷ 0 ∷ 0 ∷ 0 ∷ 3 ∷ 0 ∷ 3 ∷ 0 ∷ 0 ∷ 0 ∷ 3 ∷ [])
    fix_n
    (lists' 0 (step 8 1 (ref 32 0 0 0 0 0 0) (ref 18 0 3 0 0 0 0) blank blank ∷ []) ([]) ([]))
    (becomes (lists' 0 (step 8 1 (ref 32 0 0 0 0 0 0) (ref 34 0 0 0 0 0 0) blank blank ∷ []) ([]) ([]))) ∷
    -- m06-domain-n
    walk_vector
    (node 16 0 0 0 0 0 ∷ node 16 1 0 0 0 0 ∷ node 3 0 2 0 1 0 ∷ node 22 0 0 0 0 0 ∷ node 16 2 0 0 0 0 ∷ node 16 3 0 0 0 0 ∷ [])
    (root 2 ∷ root 3 ∷ root 4 ∷ root 5 ∷ [])
    (3 ∷ 4 ∷ 0 ∷ 2 ∷ 0 ∷ 0 ∷ 0 ∷ 2 ∷ 0 ∷ 0 ∷ 0 ∷ 0 ∷ 0 ∷ 0 ∷ 0 ∷ 0 ∷ 0 ∷ 1 ∷ 0 ∷ 0 ∷ 0 ∷ 1 ∷ 0 ∷ 0 ∷ 0 ∷ 0 ∷ 0 ∷ 1 ∷ 0 ∷ 1 ∷ 0 ∷ 0 ∷ 0 ∷ 3 ∷ [])
    fix_n
    (lists' 6 (step 1 2 (ref 18 1 2 0 0 0 0) (ref 18 1 1 0 0 0 0) (ref 18 1 0 0 0 0 0) blank ∷ step 8 1 (ref 18 1 1 0 0 0 0) (ref 18 1 2 0 0 0 0) blank blank ∷ step 8 1 (ref 18 1 0 0 0 0 0) (ref 18 0 2 0 0 0 0) blank blank ∷ []) ([]) ([]))
    (becomes (lists' 8 (step 1 2 (ref 32 1 6 0 0 0 2) (ref 34 1 0 3 0 0 0) (ref 16 1 3 0 0 0 0) blank ∷ step 8 1 (ref 34 1 0 3 0 0 0) (ref 32 1 6 0 0 0 2) blank blank ∷ step 8 1 (ref 16 1 3 0 0 0 0) (ref 32 0 7 0 0 0 2) blank blank ∷ []) ([]) ([]))) ∷
    -- m06-domain-2ns
    walk_vector
    (node 16 0 0 0 0 0 ∷ node 16 1 0 0 0 0 ∷ node 3 0 2 0 1 0 ∷ node 22 0 0 0 0 0 ∷ node 16 2 0 0 0 0 ∷ node 16 3 0 0 0 0 ∷ [])
    (root 2 ∷ root 3 ∷ root 4 ∷ root 5 ∷ [])
    (3 ∷ 4 ∷ 0 ∷ 2 ∷ 0 ∷ 0 ∷ 0 ∷ 2 ∷ 0 ∷ 0 ∷ 0 ∷ 0 ∷ 0 ∷ 0 ∷ 0 ∷ 0 ∷ 0 ∷ 1 ∷ 0 ∷ 0 ∷ 0 ∷ 1 ∷ 0 ∷ 0 ∷ 0 ∷ 0 ∷ 0 ∷ 1 ∷ 0 ∷ 1 ∷ 0 ∷ 0 ∷ 0 ∷ 3 ∷ [])
    fix2ns
    (lists' 6 (step 1 2 (ref 18 1 2 0 0 0 0) (ref 18 1 1 0 0 0 0) (ref 18 1 0 0 0 0 0) blank ∷ step 8 1 (ref 18 1 1 0 0 0 0) (ref 18 1 2 0 0 0 0) blank blank ∷ step 8 1 (ref 18 1 0 0 0 0 0) (ref 18 0 2 0 0 0 0) blank blank ∷ []) ([]) ([]))
    (becomes (lists' 9 (step 1 2 (ref 32 1 7 0 0 0 2) (ref 32 1 6 0 0 0 1) (ref 16 1 3 0 0 0 0) blank ∷ step 8 1 (ref 32 1 6 0 0 0 1) (ref 32 1 7 0 0 0 2) blank blank ∷ step 8 1 (ref 16 1 3 0 0 0 0) (ref 32 0 8 0 0 0 2) blank blank ∷ []) ([]) ([]))) ∷
    -- m07-domain-n
    walk_vector
    (node 16 0 0 0 0 0 ∷ node 16 1 0 0 0 0 ∷ node 3 0 2 0 1 0 ∷ node 22 0 0 0 0 0 ∷ node 16 2 0 0 0 0 ∷ node 16 3 0 0 0 0 ∷ [])
    (root 2 ∷ root 3 ∷ root 4 ∷ root 5 ∷ [])
    (3 ∷ 4 ∷ 0 ∷ 2 ∷ 0 ∷ 0 ∷ 0 ∷ 2 ∷ 0 ∷ 1 ∷ 0 ∷ 1 ∷ 0 ∷ 0 ∷ 0 ∷ 0 ∷ 0 ∷ 1 ∷ 0 ∷ 0 ∷ 0 ∷ 1 ∷ 0 ∷ 0 ∷ 0 ∷ 0 ∷ 0 ∷ 1 ∷ 0 ∷ 1 ∷ 0 ∷ 0 ∷ 0 ∷ 3 ∷ [])
    fix_n
    (lists' 0 (step 1 2 (ref 18 0 0 0 0 0 0) (ref 18 0 0 0 0 0 0) (ref 16 0 3 0 0 0 0) blank ∷ []) (step 8 1 (ref 16 0 3 0 9 0 0) (ref 18 0 0 0 9 0 0) blank blank ∷ []) ([]))
    (becomes (lists' 0 (step 1 2 (ref 16 0 3 0 0 0 0) (ref 16 0 3 0 0 0 0) (ref 16 0 3 0 7 0 0) blank ∷ []) (step 8 1 (ref 16 0 3 0 7 0 0) (ref 16 0 3 0 9 0 0) blank blank ∷ []) ([]))) ∷
    -- m07-domain-2ns
    walk_vector
    (node 16 0 0 0 0 0 ∷ node 16 1 0 0 0 0 ∷ node 3 0 2 0 1 0 ∷ node 22 0 0 0 0 0 ∷ node 16 2 0 0 0 0 ∷ node 16 3 0 0 0 0 ∷ [])
    (root 2 ∷ root 3 ∷ root 4 ∷ root 5 ∷ [])
    (3 ∷ 4 ∷ 0 ∷ 2 ∷ 0 ∷ 0 ∷ 0 ∷ 2 ∷ 0 ∷ 1 ∷ 0 ∷ 1 ∷ 0 ∷ 0 ∷ 0 ∷ 0 ∷ 0 ∷ 1 ∷ 0 ∷ 0 ∷ 0 ∷ 1 ∷ 0 ∷ 0 ∷ 0 ∷ 0 ∷ 0 ∷ 1 ∷ 0 ∷ 1 ∷ 0 ∷ 0 ∷ 0 ∷ 3 ∷ [])
    fix2ns
    (lists' 0 (step 1 2 (ref 18 0 0 0 0 0 0) (ref 18 0 0 0 0 0 0) (ref 16 0 3 0 0 0 0) blank ∷ []) (step 8 1 (ref 16 0 3 0 9 0 0) (ref 18 0 0 0 9 0 0) blank blank ∷ []) ([]))
    (becomes (lists' 0 (step 1 2 (ref 16 0 3 0 0 0 0) (ref 16 0 3 0 0 0 0) (ref 16 0 3 0 8 0 0) blank ∷ []) (step 8 1 (ref 16 0 3 0 8 0 0) (ref 16 0 3 0 9 0 0) blank blank ∷ []) ([]))) ∷
    -- m07-two-in-domain-n
    walk_vector
    (node 16 0 0 0 0 0 ∷ node 16 1 0 0 0 0 ∷ node 3 0 2 0 1 0 ∷ node 22 0 0 0 0 0 ∷ node 16 2 0 0 0 0 ∷ node 16 3 0 0 0 0 ∷ [])
    (root 2 ∷ root 3 ∷ root 4 ∷ root 5 ∷ [])
    (3 ∷ 4 ∷ 0 ∷ 2 ∷ 0 ∷ 0 ∷ 0 ∷ 3 ∷ 0 ∷ 1 ∷ 0 ∷ 1 ∷ 0 ∷ 0 ∷ 0 ∷ 0 ∷ 0 ∷ 1 ∷ 0 ∷ 0 ∷ 0 ∷ 2 ∷ 0 ∷ 0 ∷ 0 ∷ 0 ∷ 0 ∷ 1 ∷ 0 ∷ 1 ∷ 0 ∷ 0 ∷ 0 ∷ 4 ∷ 0 ∷ 1 ∷ 0 ∷ 3 ∷ [])
    fix_n
    (lists' 0 (step 1 2 (ref 18 1 1 0 0 0 0) (ref 18 0 0 0 0 0 0) (ref 18 0 1 0 0 0 0) blank ∷ []) ([]) (step 8 1 (ref 18 0 0 0 0 0 0) (ref 18 0 1 0 0 0 0) blank blank ∷ []))
    (becomes (lists' 0 (step 1 2 (ref 16 1 3 0 0 0 0) (ref 16 0 4 0 0 0 0) (ref 16 0 3 0 0 0 0) blank ∷ []) ([]) (step 8 1 (ref 16 0 4 0 0 0 0) (ref 16 0 3 0 0 0 0) blank blank ∷ []))) ∷
    -- m07-two-in-domain-2ns
    walk_vector
    (node 16 0 0 0 0 0 ∷ node 16 1 0 0 0 0 ∷ node 3 0 2 0 1 0 ∷ node 22 0 0 0 0 0 ∷ node 16 2 0 0 0 0 ∷ node 16 3 0 0 0 0 ∷ [])
    (root 2 ∷ root 3 ∷ root 4 ∷ root 5 ∷ [])
    (3 ∷ 4 ∷ 0 ∷ 2 ∷ 0 ∷ 0 ∷ 0 ∷ 3 ∷ 0 ∷ 1 ∷ 0 ∷ 1 ∷ 0 ∷ 0 ∷ 0 ∷ 0 ∷ 0 ∷ 1 ∷ 0 ∷ 0 ∷ 0 ∷ 2 ∷ 0 ∷ 0 ∷ 0 ∷ 0 ∷ 0 ∷ 1 ∷ 0 ∷ 1 ∷ 0 ∷ 0 ∷ 0 ∷ 4 ∷ 0 ∷ 1 ∷ 0 ∷ 3 ∷ [])
    fix2ns
    (lists' 0 (step 1 2 (ref 18 1 1 0 0 0 0) (ref 18 0 0 0 0 0 0) (ref 18 0 1 0 0 0 0) blank ∷ []) ([]) (step 8 1 (ref 18 0 0 0 0 0 0) (ref 18 0 1 0 0 0 0) blank blank ∷ []))
    (becomes (lists' 0 (step 1 2 (ref 16 1 3 0 0 0 0) (ref 16 0 4 0 0 0 0) (ref 16 0 3 0 0 0 0) blank ∷ []) ([]) (step 8 1 (ref 16 0 4 0 0 0 0) (ref 16 0 3 0 0 0 0) blank blank ∷ []))) ∷
    -- m08-sources-first
    walk_vector
    (node 16 0 0 0 0 0 ∷ node 16 1 0 0 0 0 ∷ node 3 0 2 0 1 0 ∷ node 22 0 0 0 0 0 ∷ [])
    (root 2 ∷ root 3 ∷ [])
    (3 ∷ 4 ∷ 0 ∷ 2 ∷ 0 ∷ 0 ∷ 0 ∷ 0 ∷ 0 ∷ 0 ∷ 0 ∷ 0 ∷ 0 ∷ 0 ∷ 0 ∷ 0 ∷ 0 ∷ 0 ∷ 0 ∷ 0 ∷ 0 ∷ 0 ∷ 0 ∷ 0 ∷ 0 ∷ 0 ∷ [])
    fix_n
    (lists' 4 (step 1 2 (ref 18 0 0 0 0 0 0) (ref 18 0 1 0 0 0 0) (ref 18 1 1 0 0 0 0) blank ∷ []) ([]) ([]))
    (becomes (lists' 7 (step 1 2 (ref 32 0 6 0 0 0 0) (ref 32 0 4 0 0 0 1) (ref 32 1 5 0 0 0 1) blank ∷ []) ([]) ([]))) ∷
    -- m08-one-map-for-three-lists
    walk_vector
    (node 16 0 0 0 0 0 ∷ node 16 1 0 0 0 0 ∷ node 3 0 2 0 1 0 ∷ node 22 0 0 0 0 0 ∷ [])
    (root 2 ∷ root 3 ∷ [])
    (3 ∷ 4 ∷ 0 ∷ 2 ∷ 0 ∷ 0 ∷ 0 ∷ 0 ∷ 0 ∷ 0 ∷ 0 ∷ 0 ∷ 0 ∷ 0 ∷ 0 ∷ 0 ∷ 0 ∷ 0 ∷ 0 ∷ 0 ∷ 0 ∷ 0 ∷ 0 ∷ 0 ∷ 0 ∷ 0 ∷ [])
    fix2ns
    (lists' 4 (step 1 2 (ref 18 0 0 0 0 0 0) (ref 18 0 1 0 0 0 0) (ref 18 1 1 0 0 0 0) blank ∷ []) (step 8 1 (ref 18 0 1 0 0 0 0) (ref 18 0 0 0 0 0 0) blank blank ∷ []) (step 8 1 (ref 18 0 2 0 0 0 0) (ref 18 1 0 0 0 0 0) blank blank ∷ []))
    (becomes (lists' 9 (step 1 2 (ref 32 0 6 0 0 0 0) (ref 32 0 4 0 0 0 1) (ref 32 1 5 0 0 0 1) blank ∷ []) (step 8 1 (ref 32 0 4 0 0 0 1) (ref 32 0 6 0 0 0 0) blank blank ∷ []) (step 8 1 (ref 32 0 8 0 0 0 2) (ref 32 1 7 0 0 0 0) blank blank ∷ []))) ∷
    -- m10-fix-source-cm
    walk_vector
    (node 16 0 0 0 0 0 ∷ node 16 1 0 0 0 0 ∷ node 3 0 2 0 1 0 ∷ node 22 0 0 0 0 0 ∷ [])
    (root 2 ∷ root 3 ∷ [])
    (3 ∷ 4 ∷ 0 ∷ 2 ∷ 0 ∷ 0 ∷ 0 ∷ 0 ∷ 0 ∷ 0 ∷ 0 ∷ 0 ∷ 0 ∷ 0 ∷ 0 ∷ 0 ∷ 0 ∷ 0 ∷ 0 ∷ 0 ∷ 0 ∷ 0 ∷ 0 ∷ 1 ∷ 0 ∷ 0 ∷ 0 ∷ 0 ∷ [])
    fix2ns
    (lists' 0 (step 1 2 (ref 33 0 0 0 0 0 0) (ref 16 0 0 0 0 0 0) (ref 16 0 0 2 0 0 0) blank ∷ []) ([]) ([]))
    (becomes (lists' 0 (step 1 2 (ref 33 0 0 0 0 0 0) (ref 16 0 0 0 1 0 0) (ref 16 0 0 2 1 0 0) blank ∷ []) ([]) ([]))) ∷
    -- m10-fix-destination-cm
    walk_vector
    (node 16 0 0 0 0 0 ∷ node 16 1 0 0 0 0 ∷ node 3 0 2 0 1 0 ∷ node 22 0 0 0 0 0 ∷ [])
    (root 2 ∷ root 3 ∷ [])
    (3 ∷ 4 ∷ 0 ∷ 2 ∷ 0 ∷ 0 ∷ 0 ∷ 0 ∷ 0 ∷ 0 ∷ 0 ∷ 0 ∷ 0 ∷ 0 ∷ 0 ∷ 0 ∷ 0 ∷ 0 ∷ 0 ∷ 0 ∷ 0 ∷ 0 ∷ 0 ∷ 1 ∷ 0 ∷ 0 ∷ 0 ∷ 0 ∷ [])
    fix2ns
    (lists' 0 (step 1 2 (ref 16 0 0 2 0 0 0) (ref 16 0 0 0 0 0 0) (ref 17 0 0 0 0 0 0) blank ∷ []) ([]) ([]))
    (becomes (lists' 0 (step 1 2 (ref 16 0 0 2 1 0 0) (ref 16 0 0 0 1 0 0) (ref 17 0 0 0 0 0 0) blank ∷ []) ([]) ([]))) ∷
    -- m10-fix-source-const
    walk_vector
    (node 16 0 0 0 0 0 ∷ node 16 1 0 0 0 0 ∷ node 3 0 2 0 1 0 ∷ node 22 0 0 0 0 0 ∷ [])
    (root 2 ∷ root 3 ∷ [])
    (3 ∷ 4 ∷ 0 ∷ 2 ∷ 0 ∷ 0 ∷ 0 ∷ 0 ∷ 0 ∷ 0 ∷ 0 ∷ 0 ∷ 0 ∷ 0 ∷ 0 ∷ 0 ∷ 0 ∷ 0 ∷ 0 ∷ 0 ∷ 0 ∷ 0 ∷ 0 ∷ 1 ∷ 0 ∷ 0 ∷ 0 ∷ 0 ∷ [])
    fix2ns
    (lists' 0 (step 1 2 (ref 33 0 0 0 0 0 0) (ref 16 0 0 0 0 0 0) (ref 17 0 0 2 0 0 0) blank ∷ []) ([]) ([]))
    (becomes (lists' 0 (step 1 2 (ref 33 0 0 0 0 0 0) (ref 16 0 0 0 1 0 0) (ref 17 0 0 2 0 0 0) blank ∷ []) ([]) ([]))) ∷
    -- m10-fix-destination-const
    walk_vector
    (node 16 0 0 0 0 0 ∷ node 16 1 0 0 0 0 ∷ node 3 0 2 0 1 0 ∷ node 22 0 0 0 0 0 ∷ [])
    (root 2 ∷ root 3 ∷ [])
    (3 ∷ 4 ∷ 0 ∷ 2 ∷ 0 ∷ 0 ∷ 0 ∷ 0 ∷ 0 ∷ 0 ∷ 0 ∷ 0 ∷ 0 ∷ 0 ∷ 0 ∷ 0 ∷ 0 ∷ 0 ∷ 0 ∷ 0 ∷ 0 ∷ 0 ∷ 0 ∷ 1 ∷ 0 ∷ 0 ∷ 0 ∷ 0 ∷ [])
    fix2ns
    (lists' 0 (step 1 2 (ref 17 0 0 2 0 0 0) (ref 16 0 0 0 0 0 0) (ref 17 0 0 0 0 0 0) blank ∷ []) ([]) ([]))
    (becomes (lists' 0 (step 1 2 (ref 17 0 0 2 0 0 0) (ref 16 0 0 0 1 0 0) (ref 17 0 0 0 0 0 0) blank ∷ []) ([]) ([]))) ∷
    -- m10-fix-source-exp
    walk_vector
    (node 16 0 0 0 0 0 ∷ node 16 1 0 0 0 0 ∷ node 3 0 2 0 1 0 ∷ node 22 0 0 0 0 0 ∷ [])
    (root 2 ∷ root 3 ∷ [])
    (3 ∷ 4 ∷ 0 ∷ 2 ∷ 0 ∷ 0 ∷ 0 ∷ 0 ∷ 0 ∷ 0 ∷ 0 ∷ 0 ∷ 0 ∷ 0 ∷ 0 ∷ 0 ∷ 0 ∷ 0 ∷ 0 ∷ 0 ∷ 0 ∷ 0 ∷ 0 ∷ 1 ∷ 0 ∷ 0 ∷ 0 ∷ 0 ∷ [])
    fix2ns
    (lists' 0 (step 1 2 (ref 33 0 0 0 0 0 0) (ref 16 0 0 0 0 0 0) (ref 18 0 0 2 0 0 0) blank ∷ []) ([]) ([]))
    (becomes (lists' 1 (step 1 2 (ref 33 0 0 0 0 0 0) (ref 16 0 0 0 1 0 0) (ref 32 0 0 2 0 0 0) blank ∷ []) ([]) ([]))) ∷
    -- m10-fix-destination-exp
    walk_vector
    (node 16 0 0 0 0 0 ∷ node 16 1 0 0 0 0 ∷ node 3 0 2 0 1 0 ∷ node 22 0 0 0 0 0 ∷ [])
    (root 2 ∷ root 3 ∷ [])
    (3 ∷ 4 ∷ 0 ∷ 2 ∷ 0 ∷ 0 ∷ 0 ∷ 0 ∷ 0 ∷ 0 ∷ 0 ∷ 0 ∷ 0 ∷ 0 ∷ 0 ∷ 0 ∷ 0 ∷ 0 ∷ 0 ∷ 0 ∷ 0 ∷ 0 ∷ 0 ∷ 1 ∷ 0 ∷ 0 ∷ 0 ∷ 0 ∷ [])
    fix2ns
    (lists' 0 (step 1 2 (ref 18 0 0 2 0 0 0) (ref 16 0 0 0 0 0 0) (ref 17 0 0 0 0 0 0) blank ∷ []) ([]) ([]))
    (becomes (lists' 1 (step 1 2 (ref 32 0 0 2 0 0 0) (ref 16 0 0 0 1 0 0) (ref 17 0 0 0 0 0 0) blank ∷ []) ([]) ([]))) ∷
    -- m10-fix-source-q
    walk_vector
    (node 16 0 0 0 0 0 ∷ node 16 1 0 0 0 0 ∷ node 3 0 2 0 1 0 ∷ node 22 0 0 0 0 0 ∷ [])
    (root 2 ∷ root 3 ∷ [])
    (3 ∷ 4 ∷ 0 ∷ 2 ∷ 0 ∷ 0 ∷ 0 ∷ 0 ∷ 0 ∷ 0 ∷ 0 ∷ 0 ∷ 0 ∷ 0 ∷ 0 ∷ 0 ∷ 0 ∷ 0 ∷ 0 ∷ 0 ∷ 0 ∷ 0 ∷ 0 ∷ 1 ∷ 0 ∷ 0 ∷ 0 ∷ 0 ∷ [])
    fix2ns
    (lists' 0 (step 1 2 (ref 33 0 0 0 0 0 0) (ref 16 0 0 0 0 0 0) (ref 19 0 0 2 0 0 0) blank ∷ []) ([]) ([]))
    (becomes (lists' 0 (step 1 2 (ref 33 0 0 0 0 0 0) (ref 16 0 0 0 1 0 0) (ref 19 0 0 2 0 0 0) blank ∷ []) ([]) ([]))) ∷
    -- m10-fix-destination-q
    walk_vector
    (node 16 0 0 0 0 0 ∷ node 16 1 0 0 0 0 ∷ node 3 0 2 0 1 0 ∷ node 22 0 0 0 0 0 ∷ [])
    (root 2 ∷ root 3 ∷ [])
    (3 ∷ 4 ∷ 0 ∷ 2 ∷ 0 ∷ 0 ∷ 0 ∷ 0 ∷ 0 ∷ 0 ∷ 0 ∷ 0 ∷ 0 ∷ 0 ∷ 0 ∷ 0 ∷ 0 ∷ 0 ∷ 0 ∷ 0 ∷ 0 ∷ 0 ∷ 0 ∷ 1 ∷ 0 ∷ 0 ∷ 0 ∷ 0 ∷ [])
    fix2ns
    (lists' 0 (step 1 2 (ref 19 0 0 2 0 0 0) (ref 16 0 0 0 0 0 0) (ref 17 0 0 0 0 0 0) blank ∷ []) ([]) ([]))
    (becomes (lists' 0 (step 1 2 (ref 19 0 0 2 0 0 0) (ref 16 0 0 0 1 0 0) (ref 17 0 0 0 0 0 0) blank ∷ []) ([]) ([]))) ∷
    -- m10-fix-source-number
    walk_vector
    (node 16 0 0 0 0 0 ∷ node 16 1 0 0 0 0 ∷ node 3 0 2 0 1 0 ∷ node 22 0 0 0 0 0 ∷ [])
    (root 2 ∷ root 3 ∷ [])
    (3 ∷ 4 ∷ 0 ∷ 2 ∷ 0 ∷ 0 ∷ 0 ∷ 0 ∷ 0 ∷ 0 ∷ 0 ∷ 0 ∷ 0 ∷ 0 ∷ 0 ∷ 0 ∷ 0 ∷ 0 ∷ 0 ∷ 0 ∷ 0 ∷ 0 ∷ 0 ∷ 1 ∷ 0 ∷ 0 ∷ 0 ∷ 0 ∷ [])
    fix2ns
    (lists' 0 (step 1 2 (ref 33 0 0 0 0 0 0) (ref 16 0 0 0 0 0 0) (ref 20 0 0 0 0 0 0) blank ∷ []) ([]) ([]))
    (becomes (lists' 0 (step 1 2 (ref 33 0 0 0 0 0 0) (ref 16 0 0 0 1 0 0) (ref 20 0 0 0 0 0 0) blank ∷ []) ([]) ([]))) ∷
    -- m10-fix-destination-number
    walk_vector
    (node 16 0 0 0 0 0 ∷ node 16 1 0 0 0 0 ∷ node 3 0 2 0 1 0 ∷ node 22 0 0 0 0 0 ∷ [])
    (root 2 ∷ root 3 ∷ [])
    (3 ∷ 4 ∷ 0 ∷ 2 ∷ 0 ∷ 0 ∷ 0 ∷ 0 ∷ 0 ∷ 0 ∷ 0 ∷ 0 ∷ 0 ∷ 0 ∷ 0 ∷ 0 ∷ 0 ∷ 0 ∷ 0 ∷ 0 ∷ 0 ∷ 0 ∷ 0 ∷ 1 ∷ 0 ∷ 0 ∷ 0 ∷ 0 ∷ [])
    fix2ns
    (lists' 0 (step 1 2 (ref 20 0 0 0 0 0 0) (ref 16 0 0 0 0 0 0) (ref 17 0 0 0 0 0 0) blank ∷ []) ([]) ([]))
    (becomes (lists' 0 (step 1 2 (ref 20 0 0 0 0 0 0) (ref 16 0 0 0 1 0 0) (ref 17 0 0 0 0 0 0) blank ∷ []) ([]) ([]))) ∷
    -- m10-fix-source-public
    walk_vector
    (node 16 0 0 0 0 0 ∷ node 16 1 0 0 0 0 ∷ node 3 0 2 0 1 0 ∷ node 22 0 0 0 0 0 ∷ [])
    (root 2 ∷ root 3 ∷ [])
    (3 ∷ 4 ∷ 0 ∷ 2 ∷ 0 ∷ 0 ∷ 0 ∷ 0 ∷ 0 ∷ 0 ∷ 0 ∷ 0 ∷ 0 ∷ 0 ∷ 0 ∷ 0 ∷ 0 ∷ 0 ∷ 0 ∷ 0 ∷ 0 ∷ 0 ∷ 0 ∷ 1 ∷ 0 ∷ 0 ∷ 0 ∷ 0 ∷ [])
    fix2ns
    (lists' 0 (step 1 2 (ref 33 0 0 0 0 0 0) (ref 16 0 0 0 0 0 0) (ref 21 0 0 2 0 0 0) blank ∷ []) ([]) ([]))
    (becomes (lists' 0 (step 1 2 (ref 33 0 0 0 0 0 0) (ref 16 0 0 0 1 0 0) (ref 21 0 0 2 0 0 0) blank ∷ []) ([]) ([]))) ∷
    -- m10-fix-destination-public
    walk_vector
    (node 16 0 0 0 0 0 ∷ node 16 1 0 0 0 0 ∷ node 3 0 2 0 1 0 ∷ node 22 0 0 0 0 0 ∷ [])
    (root 2 ∷ root 3 ∷ [])
    (3 ∷ 4 ∷ 0 ∷ 2 ∷ 0 ∷ 0 ∷ 0 ∷ 0 ∷ 0 ∷ 0 ∷ 0 ∷ 0 ∷ 0 ∷ 0 ∷ 0 ∷ 0 ∷ 0 ∷ 0 ∷ 0 ∷ 0 ∷ 0 ∷ 0 ∷ 0 ∷ 1 ∷ 0 ∷ 0 ∷ 0 ∷ 0 ∷ [])
    fix2ns
    (lists' 0 (step 1 2 (ref 21 0 0 2 0 0 0) (ref 16 0 0 0 0 0 0) (ref 17 0 0 0 0 0 0) blank ∷ []) ([]) ([]))
    (becomes (lists' 0 (step 1 2 (ref 21 0 0 2 0 0 0) (ref 16 0 0 0 1 0 0) (ref 17 0 0 0 0 0 0) blank ∷ []) ([]) ([]))) ∷
    -- m10-fix-source-challenge
    walk_vector
    (node 16 0 0 0 0 0 ∷ node 16 1 0 0 0 0 ∷ node 3 0 2 0 1 0 ∷ node 22 0 0 0 0 0 ∷ [])
    (root 2 ∷ root 3 ∷ [])
    (3 ∷ 4 ∷ 0 ∷ 2 ∷ 0 ∷ 0 ∷ 0 ∷ 0 ∷ 0 ∷ 0 ∷ 0 ∷ 0 ∷ 0 ∷ 0 ∷ 0 ∷ 0 ∷ 0 ∷ 0 ∷ 0 ∷ 0 ∷ 0 ∷ 0 ∷ 0 ∷ 1 ∷ 0 ∷ 0 ∷ 0 ∷ 0 ∷ [])
    fix2ns
    (lists' 0 (step 1 2 (ref 33 0 0 0 0 0 0) (ref 16 0 0 0 0 0 0) (ref 22 0 0 2 0 0 0) blank ∷ []) ([]) ([]))
    (becomes (lists' 0 (step 1 2 (ref 33 0 0 0 0 0 0) (ref 16 0 0 0 1 0 0) (ref 22 0 0 2 0 0 0) blank ∷ []) ([]) ([]))) ∷
    -- m10-fix-destination-challenge
    walk_vector
    (node 16 0 0 0 0 0 ∷ node 16 1 0 0 0 0 ∷ node 3 0 2 0 1 0 ∷ node 22 0 0 0 0 0 ∷ [])
    (root 2 ∷ root 3 ∷ [])
    (3 ∷ 4 ∷ 0 ∷ 2 ∷ 0 ∷ 0 ∷ 0 ∷ 0 ∷ 0 ∷ 0 ∷ 0 ∷ 0 ∷ 0 ∷ 0 ∷ 0 ∷ 0 ∷ 0 ∷ 0 ∷ 0 ∷ 0 ∷ 0 ∷ 0 ∷ 0 ∷ 1 ∷ 0 ∷ 0 ∷ 0 ∷ 0 ∷ [])
    fix2ns
    (lists' 0 (step 1 2 (ref 22 0 0 2 0 0 0) (ref 16 0 0 0 0 0 0) (ref 17 0 0 0 0 0 0) blank ∷ []) ([]) ([]))
    (becomes (lists' 0 (step 1 2 (ref 22 0 0 2 0 0 0) (ref 16 0 0 0 1 0 0) (ref 17 0 0 0 0 0 0) blank ∷ []) ([]) ([]))) ∷
    -- m10-fix-source-eval
    walk_vector
    (node 16 0 0 0 0 0 ∷ node 16 1 0 0 0 0 ∷ node 3 0 2 0 1 0 ∷ node 22 0 0 0 0 0 ∷ [])
    (root 2 ∷ root 3 ∷ [])
    (3 ∷ 4 ∷ 0 ∷ 2 ∷ 0 ∷ 0 ∷ 0 ∷ 0 ∷ 0 ∷ 0 ∷ 0 ∷ 0 ∷ 0 ∷ 0 ∷ 0 ∷ 0 ∷ 0 ∷ 0 ∷ 0 ∷ 0 ∷ 0 ∷ 0 ∷ 0 ∷ 1 ∷ 0 ∷ 0 ∷ 0 ∷ 0 ∷ [])
    fix2ns
    (lists' 0 (step 1 2 (ref 33 0 0 0 0 0 0) (ref 16 0 0 0 0 0 0) (ref 23 0 0 2 0 0 0) blank ∷ []) ([]) ([]))
    (becomes (lists' 0 (step 1 2 (ref 33 0 0 0 0 0 0) (ref 16 0 0 0 1 0 0) (ref 23 0 0 2 0 0 0) blank ∷ []) ([]) ([]))) ∷
    -- m10-fix-destination-eval
    walk_vector
    (node 16 0 0 0 0 0 ∷ node 16 1 0 0 0 0 ∷ node 3 0 2 0 1 0 ∷ node 22 0 0 0 0 0 ∷ [])
    (root 2 ∷ root 3 ∷ [])
    (3 ∷ 4 ∷ 0 ∷ 2 ∷ 0 ∷ 0 ∷ 0 ∷ 0 ∷ 0 ∷ 0 ∷ 0 ∷ 0 ∷ 0 ∷ 0 ∷ 0 ∷ 0 ∷ 0 ∷ 0 ∷ 0 ∷ 0 ∷ 0 ∷ 0 ∷ 0 ∷ 1 ∷ 0 ∷ 0 ∷ 0 ∷ 0 ∷ [])
    fix2ns
    (lists' 0 (step 1 2 (ref 23 0 0 2 0 0 0) (ref 16 0 0 0 0 0 0) (ref 17 0 0 0 0 0 0) blank ∷ []) ([]) ([]))
    (becomes (lists' 0 (step 1 2 (ref 23 0 0 2 0 0 0) (ref 16 0 0 0 1 0 0) (ref 17 0 0 0 0 0 0) blank ∷ []) ([]) ([]))) ∷
    -- m10-fix-source-xDivXSubXi
    walk_vector
    (node 16 0 0 0 0 0 ∷ node 16 1 0 0 0 0 ∷ node 3 0 2 0 1 0 ∷ node 22 0 0 0 0 0 ∷ [])
    (root 2 ∷ root 3 ∷ [])
    (3 ∷ 4 ∷ 0 ∷ 2 ∷ 0 ∷ 0 ∷ 0 ∷ 0 ∷ 0 ∷ 0 ∷ 0 ∷ 0 ∷ 0 ∷ 0 ∷ 0 ∷ 0 ∷ 0 ∷ 0 ∷ 0 ∷ 0 ∷ 0 ∷ 0 ∷ 0 ∷ 1 ∷ 0 ∷ 0 ∷ 0 ∷ 0 ∷ [])
    fix2ns
    (lists' 0 (step 1 2 (ref 33 0 0 0 0 0 0) (ref 16 0 0 0 0 0 0) (ref 24 0 0 2 0 0 0) blank ∷ []) ([]) ([]))
    (becomes (lists' 0 (step 1 2 (ref 33 0 0 0 0 0 0) (ref 16 0 0 0 1 0 0) (ref 24 0 0 2 0 0 0) blank ∷ []) ([]) ([]))) ∷
    -- m10-fix-destination-xDivXSubXi
    walk_vector
    (node 16 0 0 0 0 0 ∷ node 16 1 0 0 0 0 ∷ node 3 0 2 0 1 0 ∷ node 22 0 0 0 0 0 ∷ [])
    (root 2 ∷ root 3 ∷ [])
    (3 ∷ 4 ∷ 0 ∷ 2 ∷ 0 ∷ 0 ∷ 0 ∷ 0 ∷ 0 ∷ 0 ∷ 0 ∷ 0 ∷ 0 ∷ 0 ∷ 0 ∷ 0 ∷ 0 ∷ 0 ∷ 0 ∷ 0 ∷ 0 ∷ 0 ∷ 0 ∷ 1 ∷ 0 ∷ 0 ∷ 0 ∷ 0 ∷ [])
    fix2ns
    (lists' 0 (step 1 2 (ref 24 0 0 2 0 0 0) (ref 16 0 0 0 0 0 0) (ref 17 0 0 0 0 0 0) blank ∷ []) ([]) ([]))
    (becomes (lists' 0 (step 1 2 (ref 24 0 0 2 0 0 0) (ref 16 0 0 0 1 0 0) (ref 17 0 0 0 0 0 0) blank ∷ []) ([]) ([]))) ∷
    -- m10-fix-source-xDivXSubWXi
    walk_vector
    (node 16 0 0 0 0 0 ∷ node 16 1 0 0 0 0 ∷ node 3 0 2 0 1 0 ∷ node 22 0 0 0 0 0 ∷ [])
    (root 2 ∷ root 3 ∷ [])
    (3 ∷ 4 ∷ 0 ∷ 2 ∷ 0 ∷ 0 ∷ 0 ∷ 0 ∷ 0 ∷ 0 ∷ 0 ∷ 0 ∷ 0 ∷ 0 ∷ 0 ∷ 0 ∷ 0 ∷ 0 ∷ 0 ∷ 0 ∷ 0 ∷ 0 ∷ 0 ∷ 1 ∷ 0 ∷ 0 ∷ 0 ∷ 0 ∷ [])
    fix2ns
    (lists' 0 (step 1 2 (ref 33 0 0 0 0 0 0) (ref 16 0 0 0 0 0 0) (ref 25 0 0 2 0 0 0) blank ∷ []) ([]) ([]))
    (becomes (lists' 0 (step 1 2 (ref 33 0 0 0 0 0 0) (ref 16 0 0 0 1 0 0) (ref 25 0 0 2 0 0 0) blank ∷ []) ([]) ([]))) ∷
    -- m10-fix-destination-xDivXSubWXi
    walk_vector
    (node 16 0 0 0 0 0 ∷ node 16 1 0 0 0 0 ∷ node 3 0 2 0 1 0 ∷ node 22 0 0 0 0 0 ∷ [])
    (root 2 ∷ root 3 ∷ [])
    (3 ∷ 4 ∷ 0 ∷ 2 ∷ 0 ∷ 0 ∷ 0 ∷ 0 ∷ 0 ∷ 0 ∷ 0 ∷ 0 ∷ 0 ∷ 0 ∷ 0 ∷ 0 ∷ 0 ∷ 0 ∷ 0 ∷ 0 ∷ 0 ∷ 0 ∷ 0 ∷ 1 ∷ 0 ∷ 0 ∷ 0 ∷ 0 ∷ [])
    fix2ns
    (lists' 0 (step 1 2 (ref 25 0 0 2 0 0 0) (ref 16 0 0 0 0 0 0) (ref 17 0 0 0 0 0 0) blank ∷ []) ([]) ([]))
    (becomes (lists' 0 (step 1 2 (ref 25 0 0 2 0 0 0) (ref 16 0 0 0 1 0 0) (ref 17 0 0 0 0 0 0) blank ∷ []) ([]) ([]))) ∷
    -- m10-fix-source-x
    walk_vector
    (node 16 0 0 0 0 0 ∷ node 16 1 0 0 0 0 ∷ node 3 0 2 0 1 0 ∷ node 22 0 0 0 0 0 ∷ [])
    (root 2 ∷ root 3 ∷ [])
    (3 ∷ 4 ∷ 0 ∷ 2 ∷ 0 ∷ 0 ∷ 0 ∷ 0 ∷ 0 ∷ 0 ∷ 0 ∷ 0 ∷ 0 ∷ 0 ∷ 0 ∷ 0 ∷ 0 ∷ 0 ∷ 0 ∷ 0 ∷ 0 ∷ 0 ∷ 0 ∷ 1 ∷ 0 ∷ 0 ∷ 0 ∷ 0 ∷ [])
    fix2ns
    (lists' 0 (step 1 2 (ref 33 0 0 0 0 0 0) (ref 16 0 0 0 0 0 0) (ref 26 0 0 2 0 0 0) blank ∷ []) ([]) ([]))
    (becomes (lists' 0 (step 1 2 (ref 33 0 0 0 0 0 0) (ref 16 0 0 0 1 0 0) (ref 26 0 0 2 0 0 0) blank ∷ []) ([]) ([]))) ∷
    -- m10-fix-destination-x
    walk_vector
    (node 16 0 0 0 0 0 ∷ node 16 1 0 0 0 0 ∷ node 3 0 2 0 1 0 ∷ node 22 0 0 0 0 0 ∷ [])
    (root 2 ∷ root 3 ∷ [])
    (3 ∷ 4 ∷ 0 ∷ 2 ∷ 0 ∷ 0 ∷ 0 ∷ 0 ∷ 0 ∷ 0 ∷ 0 ∷ 0 ∷ 0 ∷ 0 ∷ 0 ∷ 0 ∷ 0 ∷ 0 ∷ 0 ∷ 0 ∷ 0 ∷ 0 ∷ 0 ∷ 1 ∷ 0 ∷ 0 ∷ 0 ∷ 0 ∷ [])
    fix2ns
    (lists' 0 (step 1 2 (ref 26 0 0 2 0 0 0) (ref 16 0 0 0 0 0 0) (ref 17 0 0 0 0 0 0) blank ∷ []) ([]) ([]))
    (becomes (lists' 0 (step 1 2 (ref 26 0 0 2 0 0 0) (ref 16 0 0 0 1 0 0) (ref 17 0 0 0 0 0 0) blank ∷ []) ([]) ([]))) ∷
    -- m10-fix-source-tmp
    walk_vector
    (node 16 0 0 0 0 0 ∷ node 16 1 0 0 0 0 ∷ node 3 0 2 0 1 0 ∷ node 22 0 0 0 0 0 ∷ [])
    (root 2 ∷ root 3 ∷ [])
    (3 ∷ 4 ∷ 0 ∷ 2 ∷ 0 ∷ 0 ∷ 0 ∷ 0 ∷ 0 ∷ 0 ∷ 0 ∷ 0 ∷ 0 ∷ 0 ∷ 0 ∷ 0 ∷ 0 ∷ 0 ∷ 0 ∷ 0 ∷ 0 ∷ 0 ∷ 0 ∷ 1 ∷ 0 ∷ 0 ∷ 0 ∷ 0 ∷ [])
    fix2ns
    (lists' 0 (step 1 2 (ref 33 0 0 0 0 0 0) (ref 16 0 0 0 0 0 0) (ref 32 0 0 2 0 0 0) blank ∷ []) ([]) ([]))
    (becomes (lists' 0 (step 1 2 (ref 33 0 0 0 0 0 0) (ref 16 0 0 0 1 0 0) (ref 32 0 0 2 0 0 0) blank ∷ []) ([]) ([]))) ∷
    -- m10-fix-destination-tmp
    walk_vector
    (node 16 0 0 0 0 0 ∷ node 16 1 0 0 0 0 ∷ node 3 0 2 0 1 0 ∷ node 22 0 0 0 0 0 ∷ [])
    (root 2 ∷ root 3 ∷ [])
    (3 ∷ 4 ∷ 0 ∷ 2 ∷ 0 ∷ 0 ∷ 0 ∷ 0 ∷ 0 ∷ 0 ∷ 0 ∷ 0 ∷ 0 ∷ 0 ∷ 0 ∷ 0 ∷ 0 ∷ 0 ∷ 0 ∷ 0 ∷ 0 ∷ 0 ∷ 0 ∷ 1 ∷ 0 ∷ 0 ∷ 0 ∷ 0 ∷ [])
    fix2ns
    (lists' 0 (step 1 2 (ref 32 0 0 2 0 0 0) (ref 16 0 0 0 0 0 0) (ref 17 0 0 0 0 0 0) blank ∷ []) ([]) ([]))
    (becomes (lists' 0 (step 1 2 (ref 32 0 0 2 0 0 0) (ref 16 0 0 0 1 0 0) (ref 17 0 0 0 0 0 0) blank ∷ []) ([]) ([]))) ∷
    -- m10-fix-source-f
    walk_vector
    (node 16 0 0 0 0 0 ∷ node 16 1 0 0 0 0 ∷ node 3 0 2 0 1 0 ∷ node 22 0 0 0 0 0 ∷ [])
    (root 2 ∷ root 3 ∷ [])
    (3 ∷ 4 ∷ 0 ∷ 2 ∷ 0 ∷ 0 ∷ 0 ∷ 0 ∷ 0 ∷ 0 ∷ 0 ∷ 0 ∷ 0 ∷ 0 ∷ 0 ∷ 0 ∷ 0 ∷ 0 ∷ 0 ∷ 0 ∷ 0 ∷ 0 ∷ 0 ∷ 1 ∷ 0 ∷ 0 ∷ 0 ∷ 0 ∷ [])
    fix2ns
    (lists' 0 (step 1 2 (ref 33 0 0 0 0 0 0) (ref 16 0 0 0 0 0 0) (ref 33 0 0 2 0 0 0) blank ∷ []) ([]) ([]))
    (becomes (lists' 0 (step 1 2 (ref 33 0 0 0 0 0 0) (ref 16 0 0 0 1 0 0) (ref 33 0 0 2 0 0 0) blank ∷ []) ([]) ([]))) ∷
    -- m10-fix-destination-f
    walk_vector
    (node 16 0 0 0 0 0 ∷ node 16 1 0 0 0 0 ∷ node 3 0 2 0 1 0 ∷ node 22 0 0 0 0 0 ∷ [])
    (root 2 ∷ root 3 ∷ [])
    (3 ∷ 4 ∷ 0 ∷ 2 ∷ 0 ∷ 0 ∷ 0 ∷ 0 ∷ 0 ∷ 0 ∷ 0 ∷ 0 ∷ 0 ∷ 0 ∷ 0 ∷ 0 ∷ 0 ∷ 0 ∷ 0 ∷ 0 ∷ 0 ∷ 0 ∷ 0 ∷ 1 ∷ 0 ∷ 0 ∷ 0 ∷ 0 ∷ [])
    fix2ns
    (lists' 0 (step 1 2 (ref 33 0 0 2 0 0 0) (ref 16 0 0 0 0 0 0) (ref 17 0 0 0 0 0 0) blank ∷ []) ([]) ([]))
    (becomes (lists' 0 (step 1 2 (ref 33 0 0 2 0 0 0) (ref 16 0 0 0 1 0 0) (ref 17 0 0 0 0 0 0) blank ∷ []) ([]) ([]))) ∷
    -- m10-fix-source-tmpExp
    walk_vector
    (node 16 0 0 0 0 0 ∷ node 16 1 0 0 0 0 ∷ node 3 0 2 0 1 0 ∷ node 22 0 0 0 0 0 ∷ [])
    (root 2 ∷ root 3 ∷ [])
    (3 ∷ 4 ∷ 0 ∷ 2 ∷ 0 ∷ 0 ∷ 0 ∷ 0 ∷ 0 ∷ 0 ∷ 0 ∷ 0 ∷ 0 ∷ 0 ∷ 0 ∷ 0 ∷ 0 ∷ 0 ∷ 0 ∷ 0 ∷ 0 ∷ 0 ∷ 0 ∷ 1 ∷ 0 ∷ 0 ∷ 0 ∷ 0 ∷ [])
    fix2ns
    (lists' 0 (step 1 2 (ref 33 0 0 0 0 0 0) (ref 16 0 0 0 0 0 0) (ref 34 0 0 2 0 0 0) blank ∷ []) ([]) ([]))
    (becomes (lists' 0 (step 1 2 (ref 33 0 0 0 0 0 0) (ref 16 0 0 0 1 0 0) (ref 34 0 0 2 0 0 0) blank ∷ []) ([]) ([]))) ∷
    -- m10-fix-destination-tmpExp
    walk_vector
    (node 16 0 0 0 0 0 ∷ node 16 1 0 0 0 0 ∷ node 3 0 2 0 1 0 ∷ node 22 0 0 0 0 0 ∷ [])
    (root 2 ∷ root 3 ∷ [])
    (3 ∷ 4 ∷ 0 ∷ 2 ∷ 0 ∷ 0 ∷ 0 ∷ 0 ∷ 0 ∷ 0 ∷ 0 ∷ 0 ∷ 0 ∷ 0 ∷ 0 ∷ 0 ∷ 0 ∷ 0 ∷ 0 ∷ 0 ∷ 0 ∷ 0 ∷ 0 ∷ 1 ∷ 0 ∷ 0 ∷ 0 ∷ 0 ∷ [])
    fix2ns
    (lists' 0 (step 1 2 (ref 34 0 0 2 0 0 0) (ref 16 0 0 0 0 0 0) (ref 17 0 0 0 0 0 0) blank ∷ []) ([]) ([]))
    (becomes (lists' 0 (step 1 2 (ref 34 0 0 2 0 0 0) (ref 16 0 0 0 1 0 0) (ref 17 0 0 0 0 0 0) blank ∷ []) ([]) ([]))) ∷
    -- m10-fix-source-Zi
    walk_vector
    (node 16 0 0 0 0 0 ∷ node 16 1 0 0 0 0 ∷ node 3 0 2 0 1 0 ∷ node 22 0 0 0 0 0 ∷ [])
    (root 2 ∷ root 3 ∷ [])
    (3 ∷ 4 ∷ 0 ∷ 2 ∷ 0 ∷ 0 ∷ 0 ∷ 0 ∷ 0 ∷ 0 ∷ 0 ∷ 0 ∷ 0 ∷ 0 ∷ 0 ∷ 0 ∷ 0 ∷ 0 ∷ 0 ∷ 0 ∷ 0 ∷ 0 ∷ 0 ∷ 1 ∷ 0 ∷ 0 ∷ 0 ∷ 0 ∷ [])
    fix2ns
    (lists' 0 (step 1 2 (ref 33 0 0 0 0 0 0) (ref 16 0 0 0 0 0 0) (ref 35 0 0 2 0 0 0) blank ∷ []) ([]) ([]))
    (becomes (lists' 0 (step 1 2 (ref 33 0 0 0 0 0 0) (ref 16 0 0 0 1 0 0) (ref 35 0 0 2 0 0 0) blank ∷ []) ([]) ([]))) ∷
    -- m10-fix-destination-Zi
    walk_vector
    (node 16 0 0 0 0 0 ∷ node 16 1 0 0 0 0 ∷ node 3 0 2 0 1 0 ∷ node 22 0 0 0 0 0 ∷ [])
    (root 2 ∷ root 3 ∷ [])
    (3 ∷ 4 ∷ 0 ∷ 2 ∷ 0 ∷ 0 ∷ 0 ∷ 0 ∷ 0 ∷ 0 ∷ 0 ∷ 0 ∷ 0 ∷ 0 ∷ 0 ∷ 0 ∷ 0 ∷ 0 ∷ 0 ∷ 0 ∷ 0 ∷ 0 ∷ 0 ∷ 1 ∷ 0 ∷ 0 ∷ 0 ∷ 0 ∷ [])
    fix2ns
    (lists' 0 (step 1 2 (ref 35 0 0 2 0 0 0) (ref 16 0 0 0 0 0 0) (ref 17 0 0 0 0 0 0) blank ∷ []) ([]) ([]))
    (becomes (lists' 0 (step 1 2 (ref 35 0 0 2 0 0 0) (ref 16 0 0 0 1 0 0) (ref 17 0 0 0 0 0 0) blank ∷ []) ([]) ([]))) ∷
    -- m10-fix-source-tree1
    walk_vector
    (node 16 0 0 0 0 0 ∷ node 16 1 0 0 0 0 ∷ node 3 0 2 0 1 0 ∷ node 22 0 0 0 0 0 ∷ [])
    (root 2 ∷ root 3 ∷ [])
    (3 ∷ 4 ∷ 0 ∷ 2 ∷ 0 ∷ 0 ∷ 0 ∷ 0 ∷ 0 ∷ 0 ∷ 0 ∷ 0 ∷ 0 ∷ 0 ∷ 0 ∷ 0 ∷ 0 ∷ 0 ∷ 0 ∷ 0 ∷ 0 ∷ 0 ∷ 0 ∷ 1 ∷ 0 ∷ 0 ∷ 0 ∷ 0 ∷ [])
    fix2ns
    (lists' 0 (step 1 2 (ref 33 0 0 0 0 0 0) (ref 16 0 0 0 0 0 0) (ref 36 0 0 2 0 0 0) blank ∷ []) ([]) ([]))
    (no_more 10) ∷
    -- m10-fix-destination-tree1
    walk_vector
    (node 16 0 0 0 0 0 ∷ node 16 1 0 0 0 0 ∷ node 3 0 2 0 1 0 ∷ node 22 0 0 0 0 0 ∷ [])
    (root 2 ∷ root 3 ∷ [])
    (3 ∷ 4 ∷ 0 ∷ 2 ∷ 0 ∷ 0 ∷ 0 ∷ 0 ∷ 0 ∷ 0 ∷ 0 ∷ 0 ∷ 0 ∷ 0 ∷ 0 ∷ 0 ∷ 0 ∷ 0 ∷ 0 ∷ 0 ∷ 0 ∷ 0 ∷ 0 ∷ 1 ∷ 0 ∷ 0 ∷ 0 ∷ 0 ∷ [])
    fix2ns
    (lists' 0 (step 1 2 (ref 36 0 0 2 0 0 0) (ref 16 0 0 0 0 0 0) (ref 17 0 0 0 0 0 0) blank ∷ []) ([]) ([]))
    (no_more 10) ∷
    -- m10-fix-source-tree2
    walk_vector
    (node 16 0 0 0 0 0 ∷ node 16 1 0 0 0 0 ∷ node 3 0 2 0 1 0 ∷ node 22 0 0 0 0 0 ∷ [])
    (root 2 ∷ root 3 ∷ [])
    (3 ∷ 4 ∷ 0 ∷ 2 ∷ 0 ∷ 0 ∷ 0 ∷ 0 ∷ 0 ∷ 0 ∷ 0 ∷ 0 ∷ 0 ∷ 0 ∷ 0 ∷ 0 ∷ 0 ∷ 0 ∷ 0 ∷ 0 ∷ 0 ∷ 0 ∷ 0 ∷ 1 ∷ 0 ∷ 0 ∷ 0 ∷ 0 ∷ [])
    fix2ns
    (lists' 0 (step 1 2 (ref 33 0 0 0 0 0 0) (ref 16 0 0 0 0 0 0) (ref 37 0 0 2 0 0 0) blank ∷ []) ([]) ([]))
    (no_more 10) ∷
    -- m10-fix-destination-tree2
    walk_vector
    (node 16 0 0 0 0 0 ∷ node 16 1 0 0 0 0 ∷ node 3 0 2 0 1 0 ∷ node 22 0 0 0 0 0 ∷ [])
    (root 2 ∷ root 3 ∷ [])
    (3 ∷ 4 ∷ 0 ∷ 2 ∷ 0 ∷ 0 ∷ 0 ∷ 0 ∷ 0 ∷ 0 ∷ 0 ∷ 0 ∷ 0 ∷ 0 ∷ 0 ∷ 0 ∷ 0 ∷ 0 ∷ 0 ∷ 0 ∷ 0 ∷ 0 ∷ 0 ∷ 1 ∷ 0 ∷ 0 ∷ 0 ∷ 0 ∷ [])
    fix2ns
    (lists' 0 (step 1 2 (ref 37 0 0 2 0 0 0) (ref 16 0 0 0 0 0 0) (ref 17 0 0 0 0 0 0) blank ∷ []) ([]) ([]))
    (no_more 10) ∷
    -- m10-fix-source-tree3
    walk_vector
    (node 16 0 0 0 0 0 ∷ node 16 1 0 0 0 0 ∷ node 3 0 2 0 1 0 ∷ node 22 0 0 0 0 0 ∷ [])
    (root 2 ∷ root 3 ∷ [])
    (3 ∷ 4 ∷ 0 ∷ 2 ∷ 0 ∷ 0 ∷ 0 ∷ 0 ∷ 0 ∷ 0 ∷ 0 ∷ 0 ∷ 0 ∷ 0 ∷ 0 ∷ 0 ∷ 0 ∷ 0 ∷ 0 ∷ 0 ∷ 0 ∷ 0 ∷ 0 ∷ 1 ∷ 0 ∷ 0 ∷ 0 ∷ 0 ∷ [])
    fix2ns
    (lists' 0 (step 1 2 (ref 33 0 0 0 0 0 0) (ref 16 0 0 0 0 0 0) (ref 38 0 0 2 0 0 0) blank ∷ []) ([]) ([]))
    (no_more 10) ∷
    -- m10-fix-destination-tree3
    walk_vector
    (node 16 0 0 0 0 0 ∷ node 16 1 0 0 0 0 ∷ node 3 0 2 0 1 0 ∷ node 22 0 0 0 0 0 ∷ [])
    (root 2 ∷ root 3 ∷ [])
    (3 ∷ 4 ∷ 0 ∷ 2 ∷ 0 ∷ 0 ∷ 0 ∷ 0 ∷ 0 ∷ 0 ∷ 0 ∷ 0 ∷ 0 ∷ 0 ∷ 0 ∷ 0 ∷ 0 ∷ 0 ∷ 0 ∷ 0 ∷ 0 ∷ 0 ∷ 0 ∷ 1 ∷ 0 ∷ 0 ∷ 0 ∷ 0 ∷ [])
    fix2ns
    (lists' 0 (step 1 2 (ref 38 0 0 2 0 0 0) (ref 16 0 0 0 0 0 0) (ref 17 0 0 0 0 0 0) blank ∷ []) ([]) ([]))
    (no_more 10) ∷
    -- m10-fix-source-tree4
    walk_vector
    (node 16 0 0 0 0 0 ∷ node 16 1 0 0 0 0 ∷ node 3 0 2 0 1 0 ∷ node 22 0 0 0 0 0 ∷ [])
    (root 2 ∷ root 3 ∷ [])
    (3 ∷ 4 ∷ 0 ∷ 2 ∷ 0 ∷ 0 ∷ 0 ∷ 0 ∷ 0 ∷ 0 ∷ 0 ∷ 0 ∷ 0 ∷ 0 ∷ 0 ∷ 0 ∷ 0 ∷ 0 ∷ 0 ∷ 0 ∷ 0 ∷ 0 ∷ 0 ∷ 1 ∷ 0 ∷ 0 ∷ 0 ∷ 0 ∷ [])
    fix2ns
    (lists' 0 (step 1 2 (ref 33 0 0 0 0 0 0) (ref 16 0 0 0 0 0 0) (ref 39 0 0 2 0 0 0) blank ∷ []) ([]) ([]))
    (no_more 10) ∷
    -- m10-fix-destination-tree4
    walk_vector
    (node 16 0 0 0 0 0 ∷ node 16 1 0 0 0 0 ∷ node 3 0 2 0 1 0 ∷ node 22 0 0 0 0 0 ∷ [])
    (root 2 ∷ root 3 ∷ [])
    (3 ∷ 4 ∷ 0 ∷ 2 ∷ 0 ∷ 0 ∷ 0 ∷ 0 ∷ 0 ∷ 0 ∷ 0 ∷ 0 ∷ 0 ∷ 0 ∷ 0 ∷ 0 ∷ 0 ∷ 0 ∷ 0 ∷ 0 ∷ 0 ∷ 0 ∷ 0 ∷ 1 ∷ 0 ∷ 0 ∷ 0 ∷ 0 ∷ [])
    fix2ns
    (lists' 0 (step 1 2 (ref 39 0 0 2 0 0 0) (ref 16 0 0 0 0 0 0) (ref 17 0 0 0 0 0 0) blank ∷ []) ([]) ([]))
    (no_more 10) ∷
    -- m10-fix-source-Z
    walk_vector
    (node 16 0 0 0 0 0 ∷ node 16 1 0 0 0 0 ∷ node 3 0 2 0 1 0 ∷ node 22 0 0 0 0 0 ∷ [])
    (root 2 ∷ root 3 ∷ [])
    (3 ∷ 4 ∷ 0 ∷ 2 ∷ 0 ∷ 0 ∷ 0 ∷ 0 ∷ 0 ∷ 0 ∷ 0 ∷ 0 ∷ 0 ∷ 0 ∷ 0 ∷ 0 ∷ 0 ∷ 0 ∷ 0 ∷ 0 ∷ 0 ∷ 0 ∷ 0 ∷ 1 ∷ 0 ∷ 0 ∷ 0 ∷ 0 ∷ [])
    fix2ns
    (lists' 0 (step 1 2 (ref 33 0 0 0 0 0 0) (ref 16 0 0 0 0 0 0) (ref 40 0 0 2 0 0 0) blank ∷ []) ([]) ([]))
    (no_more 10) ∷
    -- m10-fix-destination-Z
    walk_vector
    (node 16 0 0 0 0 0 ∷ node 16 1 0 0 0 0 ∷ node 3 0 2 0 1 0 ∷ node 22 0 0 0 0 0 ∷ [])
    (root 2 ∷ root 3 ∷ [])
    (3 ∷ 4 ∷ 0 ∷ 2 ∷ 0 ∷ 0 ∷ 0 ∷ 0 ∷ 0 ∷ 0 ∷ 0 ∷ 0 ∷ 0 ∷ 0 ∷ 0 ∷ 0 ∷ 0 ∷ 0 ∷ 0 ∷ 0 ∷ 0 ∷ 0 ∷ 0 ∷ 1 ∷ 0 ∷ 0 ∷ 0 ∷ 0 ∷ [])
    fix2ns
    (lists' 0 (step 1 2 (ref 40 0 0 2 0 0 0) (ref 16 0 0 0 0 0 0) (ref 17 0 0 0 0 0 0) blank ∷ []) ([]) ([]))
    (no_more 10) ∷
    -- m11-domain-n
    walk_vector
    (node 16 0 0 0 0 0 ∷ [])
    (root 0 ∷ [])
    (3 ∷ 4 ∷ 0 ∷ 1 ∷ 0 ∷ 0 ∷ 0 ∷ 0 ∷ 0 ∷ 0 ∷ 0 ∷ 0 ∷ 0 ∷ 0 ∷ 0 ∷ 0 ∷ 0 ∷ 0 ∷ 0 ∷ 0 ∷ 0 ∷ 0 ∷ 0 ∷ 0 ∷ 0 ∷ 0 ∷ [])
    fix_n
    (lists' 1 (step 8 1 (ref 18 0 500 0 0 0 0) (ref 18 1 65535 0 0 0 0) blank blank ∷ []) ([]) ([]))
    (becomes (lists' 3 (step 8 1 (ref 32 0 2 0 0 0 500) (ref 32 1 1 0 0 0 65535) blank blank ∷ []) ([]) ([]))) ∷
    -- m11-domain-2ns
    walk_vector
    (node 16 0 0 0 0 0 ∷ [])
    (root 0 ∷ [])
    (3 ∷ 4 ∷ 0 ∷ 1 ∷ 0 ∷ 0 ∷ 0 ∷ 0 ∷ 0 ∷ 0 ∷ 0 ∷ 0 ∷ 0 ∷ 0 ∷ 0 ∷ 0 ∷ 0 ∷ 0 ∷ 0 ∷ 0 ∷ 0 ∷ 0 ∷ 0 ∷ 0 ∷ 0 ∷ 0 ∷ [])
    fix2ns
    (lists' 1 (step 8 1 (ref 18 0 500 0 0 0 0) (ref 18 1 65535 0 0 0 0) blank blank ∷ []) ([]) ([]))
    (becomes (lists' 3 (step 8 1 (ref 32 0 2 0 0 0 500) (ref 32 1 1 0 0 0 65535) blank blank ∷ []) ([]) ([]))) ∷
    -- m12-fixed-without-column
    walk_vector
    (node 16 0 0 0 0 0 ∷ node 16 1 0 0 0 0 ∷ node 3 0 2 0 1 0 ∷ node 22 0 0 0 0 0 ∷ node 16 2 0 0 0 0 ∷ node 16 3 0 0 0 0 ∷ [])
    (root 2 ∷ root 3 ∷ root 4 ∷ root 5 ∷ [])
    (3 ∷ 4 ∷ 0 ∷ 2 ∷ 0 ∷ 2 ∷ 0 ∷ 2 ∷ 0 ∷ 1 ∷ 0 ∷ 1 ∷ 0 ∷ 0 ∷ 0 ∷ 1 ∷ 0 ∷ 0 ∷ 0 ∷ 0 ∷ 0 ∷ 1 ∷ 0 ∷ 0 ∷ 0 ∷ 0 ∷ 0 ∷ 0 ∷ 0 ∷ 0 ∷ 0 ∷ 0 ∷ 0 ∷ 1 ∷ 0 ∷ 0 ∷ 0 ∷ 7 ∷ [])
    fix2ns
    (lists' 0 (step 8 1 (ref 32 0 0 0 0 0 0) (ref 18 0 0 0 0 0 0) blank blank ∷ []) ([]) ([]))
    (becomes (lists' 0 (step 8 1 (ref 32 0 0 0 0 0 0) (ref 16 0 7 0 0 0 0) blank blank ∷ []) ([]) ([]))) ∷
    -- m13-fixed
    walk_vector
    (node 16 0 0 0 0 0 ∷ node 16 1 0 0 0 0 ∷ node 3 0 2 0 1 0 ∷ node 22 0 0 0 0 0 ∷ [])
    (root 2 ∷ root 3 ∷ [])
    (3 ∷ 4 ∷ 0 ∷ 2 ∷ 0 ∷ 0 ∷ 0 ∷ 0 ∷ 0 ∷ 0 ∷ 0 ∷ 0 ∷ 0 ∷ 0 ∷ 0 ∷ 0 ∷ 0 ∷ 0 ∷ 0 ∷ 0 ∷ 0 ∷ 0 ∷ 0 ∷ 0 ∷ 0 ∷ 0 ∷ [])
    fix_n
    (lists' 0 (step 8 1 (ref 32 0 0 0 0 0 0) (ref 32 0 9 0 0 0 0) blank blank ∷ []) ([]) ([]))
    (becomes (lists' 0 (step 8 1 (ref 32 0 0 0 0 0 0) (ref 32 0 9 0 0 0 0) blank blank ∷ []) ([]) ([]))) ∷
    -- m21-fixed
    walk_vector
    (node 16 0 0 0 0 0 ∷ node 16 1 0 0 0 0 ∷ node 3 0 2 0 1 0 ∷ node 22 0 0 0 0 0 ∷ [])
    (root 2 ∷ root 3 ∷ [])
    (3 ∷ 4 ∷ 0 ∷ 2 ∷ 0 ∷ 0 ∷ 0 ∷ 0 ∷ 0 ∷ 0 ∷ 0 ∷ 0 ∷ 0 ∷ 0 ∷ 0 ∷ 0 ∷ 0 ∷ 0 ∷ 0 ∷ 0 ∷ 0 ∷ 0 ∷ 0 ∷ 0 ∷ 0 ∷ 0 ∷ [])
    fix_n
    (lists' 0 (step 8 3 (ref 32 0 0 0 0 0 0) (ref 16 0 0 0 0 0 0) (ref 18 0 1 0 0 0 0) (ref 18 1 0 0 0 0 0) ∷ []) ([]) ([]))
    (becomes (lists' 2 (step 8 3 (ref 32 0 0 0 0 0 0) (ref 16 0 0 0 0 0 0) (ref 32 0 0 0 0 0 1) (ref 32 1 1 0 0 0 0) ∷ []) ([]) ([]))) ∷
    -- m21-refused-by-fixing
    walk_vector
    (node 16 0 0 0 0 0 ∷ node 16 1 0 0 0 0 ∷ node 3 0 2 0 1 0 ∷ node 22 0 0 0 0 0 ∷ [])
    (root 2 ∷ root 3 ∷ [])
    (3 ∷ 4 ∷ 0 ∷ 2 ∷ 0 ∷ 0 ∷ 0 ∷ 0 ∷ 0 ∷ 0 ∷ 0 ∷ 0 ∷ 0 ∷ 0 ∷ 0 ∷ 0 ∷ 0 ∷ 0 ∷ 0 ∷ 0 ∷ 0 ∷ 0 ∷ 0 ∷ 0 ∷ 0 ∷ 0 ∷ [])
    fix_n
    (lists' 0 (step 8 2 (ref 32 0 0 0 0 0 0) (ref 16 0 0 0 0 0 0) (ref 40 0 0 0 0 0 0) blank ∷ []) ([]) ([]))
    (no_more 10) ∷
    -- list-fix-nothing
    walk_vector
    (node 16 0 0 0 0 0 ∷ node 22 0 0 0 0 0 ∷ node 18 1 0 0 0 0 ∷ node 17 0 0 0 0 0 ∷ [])
    (root 0 ∷ root 1 ∷ root 2 ∷ root 3 ∷ [])
    (3 ∷ 4 ∷ 0 ∷ 2 ∷ 0 ∷ 0 ∷ 0 ∷ 1 ∷ 0 ∷ 1 ∷ 0 ∷ 1 ∷ 0 ∷ 1 ∷ 0 ∷ 0 ∷ 0 ∷ 0 ∷ 0 ∷ 0 ∷ 0 ∷ 1 ∷ 0 ∷ 2 ∷ 0 ∷ 0 ∷ 0 ∷ 2 ∷ 0 ∷ 2 ∷ 0 ∷ 0 ∷ 0 ∷ 4 ∷ [])
    fix2ns
    (lists' 0 ([]) ([]) ([]))
    (becomes (lists' 0 ([]) ([]) ([]))) ∷
    -- list-fix-the-last-column
    walk_vector
    (node 16 0 0 0 0 0 ∷ node 22 0 0 0 0 0 ∷ node 18 1 0 0 0 0 ∷ node 17 0 0 0 0 0 ∷ [])
    (root 0 ∷ root 1 ∷ root 2 ∷ root 3 ∷ [])
    (3 ∷ 4 ∷ 0 ∷ 2 ∷ 0 ∷ 0 ∷ 0 ∷ 1 ∷ 0 ∷ 1 ∷ 0 ∷ 1 ∷ 0 ∷ 1 ∷ 0 ∷ 0 ∷ 0 ∷ 0 ∷ 0 ∷ 0 ∷ 0 ∷ 1 ∷ 0 ∷ 2 ∷ 0 ∷ 0 ∷ 0 ∷ 2 ∷ 0 ∷ 2 ∷ 0 ∷ 0 ∷ 0 ∷ 4 ∷ [])
    fix2ns
    (lists' 0 (step 8 1 (ref 32 0 0 0 0 0 0) (ref 16 0 3 0 0 0 0) blank blank ∷ []) ([]) ([]))
    (becomes (lists' 0 (step 8 1 (ref 32 0 0 0 0 0 0) (ref 16 0 3 0 7 0 0) blank blank ∷ []) ([]) ([]))) ∷
    -- list-fix-a-column-beyond
    walk_vector
    (node 16 0 0 0 0 0 ∷ node 22 0 0 0 0 0 ∷ node 18 1 0 0 0 0 ∷ node 17 0 0 0 0 0 ∷ [])
    (root 0 ∷ root 1 ∷ root 2 ∷ root 3 ∷ [])
    (3 ∷ 4 ∷ 0 ∷ 2 ∷ 0 ∷ 0 ∷ 0 ∷ 1 ∷ 0 ∷ 1 ∷ 0 ∷ 1 ∷ 0 ∷ 1 ∷ 0 ∷ 0 ∷ 0 ∷ 0 ∷ 0 ∷ 0 ∷ 0 ∷ 1 ∷ 0 ∷ 2 ∷ 0 ∷ 0 ∷ 0 ∷ 2 ∷ 0 ∷ 2 ∷ 0 ∷ 0 ∷ 0 ∷ 4 ∷ [])
    fix2ns
    (lists' 0 (step 8 1 (ref 32 0 0 0 0 0 0) (ref 16 0 4 0 0 0 0) blank blank ∷ []) ([]) ([]))
    (no_more 3) ∷
    -- list-fix-a-destination-beyond
    walk_vector
    (node 16 0 0 0 0 0 ∷ node 22 0 0 0 0 0 ∷ node 18 1 0 0 0 0 ∷ node 17 0 0 0 0 0 ∷ [])
    (root 0 ∷ root 1 ∷ root 2 ∷ root 3 ∷ [])
    (3 ∷ 4 ∷ 0 ∷ 2 ∷ 0 ∷ 0 ∷ 0 ∷ 1 ∷ 0 ∷ 1 ∷ 0 ∷ 1 ∷ 0 ∷ 1 ∷ 0 ∷ 0 ∷ 0 ∷ 0 ∷ 0 ∷ 0 ∷ 0 ∷ 1 ∷ 0 ∷ 2 ∷ 0 ∷ 0 ∷ 0 ∷ 2 ∷ 0 ∷ 2 ∷ 0 ∷ 0 ∷ 0 ∷ 4 ∷ [])
    fix2ns
    (lists' 0 (step 8 1 (ref 16 0 4 0 0 0 0) (ref 16 0 0 0 0 0 0) blank blank ∷ []) ([]) ([]))
    (no_more 3) ∷
    -- list-fix-3-then-10
    walk_vector
    (node 16 0 0 0 0 0 ∷ node 22 0 0 0 0 0 ∷ node 18 1 0 0 0 0 ∷ node 17 0 0 0 0 0 ∷ [])
    (root 0 ∷ root 1 ∷ root 2 ∷ root 3 ∷ [])
    (3 ∷ 4 ∷ 0 ∷ 2 ∷ 0 ∷ 0 ∷ 0 ∷ 1 ∷ 0 ∷ 1 ∷ 0 ∷ 1 ∷ 0 ∷ 1 ∷ 0 ∷ 0 ∷ 0 ∷ 0 ∷ 0 ∷ 0 ∷ 0 ∷ 1 ∷ 0 ∷ 2 ∷ 0 ∷ 0 ∷ 0 ∷ 2 ∷ 0 ∷ 2 ∷ 0 ∷ 0 ∷ 0 ∷ 4 ∷ [])
    fix2ns
    (lists' 0 (step 1 2 (ref 32 0 0 0 0 0 0) (ref 16 0 4 0 0 0 0) (ref 40 0 0 0 0 0 0) blank ∷ []) ([]) ([]))
    (no_more 3) ∷
    -- list-fix-10-then-3
    walk_vector
    (node 16 0 0 0 0 0 ∷ node 22 0 0 0 0 0 ∷ node 18 1 0 0 0 0 ∷ node 17 0 0 0 0 0 ∷ [])
    (root 0 ∷ root 1 ∷ root 2 ∷ root 3 ∷ [])
    (3 ∷ 4 ∷ 0 ∷ 2 ∷ 0 ∷ 0 ∷ 0 ∷ 1 ∷ 0 ∷ 1 ∷ 0 ∷ 1 ∷ 0 ∷ 1 ∷ 0 ∷ 0 ∷ 0 ∷ 0 ∷ 0 ∷ 0 ∷ 0 ∷ 1 ∷ 0 ∷ 2 ∷ 0 ∷ 0 ∷ 0 ∷ 2 ∷ 0 ∷ 2 ∷ 0 ∷ 0 ∷ 0 ∷ 4 ∷ [])
    fix2ns
    (lists' 0 (step 1 2 (ref 32 0 0 0 0 0 0) (ref 40 0 0 0 0 0 0) (ref 16 0 4 0 0 0 0) blank ∷ []) ([]) ([]))
    (no_more 10) ∷
    -- list-fix-sources-before-the-destination
    walk_vector
    (node 16 0 0 0 0 0 ∷ node 22 0 0 0 0 0 ∷ node 18 1 0 0 0 0 ∷ node 17 0 0 0 0 0 ∷ [])
    (root 0 ∷ root 1 ∷ root 2 ∷ root 3 ∷ [])
    (3 ∷ 4 ∷ 0 ∷ 2 ∷ 0 ∷ 0 ∷ 0 ∷ 1 ∷ 0 ∷ 1 ∷ 0 ∷ 1 ∷ 0 ∷ 1 ∷ 0 ∷ 0 ∷ 0 ∷ 0 ∷ 0 ∷ 0 ∷ 0 ∷ 1 ∷ 0 ∷ 2 ∷ 0 ∷ 0 ∷ 0 ∷ 2 ∷ 0 ∷ 2 ∷ 0 ∷ 0 ∷ 0 ∷ 4 ∷ [])
    fix2ns
    (lists' 0 (step 8 1 (ref 16 0 4 0 0 0 0) (ref 40 0 0 0 0 0 0) blank blank ∷ []) ([]) ([]))
    (no_more 10) ∷
    -- list-fix-the-destination-last
    walk_vector
    (node 16 0 0 0 0 0 ∷ node 22 0 0 0 0 0 ∷ node 18 1 0 0 0 0 ∷ node 17 0 0 0 0 0 ∷ [])
    (root 0 ∷ root 1 ∷ root 2 ∷ root 3 ∷ [])
    (3 ∷ 4 ∷ 0 ∷ 2 ∷ 0 ∷ 0 ∷ 0 ∷ 1 ∷ 0 ∷ 1 ∷ 0 ∷ 1 ∷ 0 ∷ 1 ∷ 0 ∷ 0 ∷ 0 ∷ 0 ∷ 0 ∷ 0 ∷ 0 ∷ 1 ∷ 0 ∷ 2 ∷ 0 ∷ 0 ∷ 0 ∷ 2 ∷ 0 ∷ 2 ∷ 0 ∷ 0 ∷ 0 ∷ 4 ∷ [])
    fix2ns
    (lists' 0 (step 8 1 (ref 40 0 0 0 0 0 0) (ref 16 0 4 0 0 0 0) blank blank ∷ []) ([]) ([]))
    (no_more 3) ∷
    -- list-fix-steps-in-order
    walk_vector
    (node 16 0 0 0 0 0 ∷ node 22 0 0 0 0 0 ∷ node 18 1 0 0 0 0 ∷ node 17 0 0 0 0 0 ∷ [])
    (root 0 ∷ root 1 ∷ root 2 ∷ root 3 ∷ [])
    (3 ∷ 4 ∷ 0 ∷ 2 ∷ 0 ∷ 0 ∷ 0 ∷ 1 ∷ 0 ∷ 1 ∷ 0 ∷ 1 ∷ 0 ∷ 1 ∷ 0 ∷ 0 ∷ 0 ∷ 0 ∷ 0 ∷ 0 ∷ 0 ∷ 1 ∷ 0 ∷ 2 ∷ 0 ∷ 0 ∷ 0 ∷ 2 ∷ 0 ∷ 2 ∷ 0 ∷ 0 ∷ 0 ∷ 4 ∷ [])
    fix2ns
    (lists' 0 (step 8 1 (ref 32 0 0 0 0 0 0) (ref 16 0 4 0 0 0 0) blank blank ∷ step 8 1 (ref 32 0 0 0 0 0 0) (ref 36 0 0 0 0 0 0) blank blank ∷ []) ([]) ([]))
    (no_more 3) ∷
    -- list-fix-i-before-last
    walk_vector
    (node 16 0 0 0 0 0 ∷ node 22 0 0 0 0 0 ∷ node 18 1 0 0 0 0 ∷ node 17 0 0 0 0 0 ∷ [])
    (root 0 ∷ root 1 ∷ root 2 ∷ root 3 ∷ [])
    (3 ∷ 4 ∷ 0 ∷ 2 ∷ 0 ∷ 0 ∷ 0 ∷ 1 ∷ 0 ∷ 1 ∷ 0 ∷ 1 ∷ 0 ∷ 1 ∷ 0 ∷ 0 ∷ 0 ∷ 0 ∷ 0 ∷ 0 ∷ 0 ∷ 1 ∷ 0 ∷ 2 ∷ 0 ∷ 0 ∷ 0 ∷ 2 ∷ 0 ∷ 2 ∷ 0 ∷ 0 ∷ 0 ∷ 4 ∷ [])
    fix2ns
    (lists' 0 ([]) (step 8 1 (ref 32 0 0 0 0 0 0) (ref 36 0 0 0 0 0 0) blank blank ∷ []) (step 8 1 (ref 32 0 0 0 0 0 0) (ref 16 0 4 0 0 0 0) blank blank ∷ []))
    (no_more 10) ∷
    -- list-fix-first-before-i
    walk_vector
    (node 16 0 0 0 0 0 ∷ node 22 0 0 0 0 0 ∷ node 18 1 0 0 0 0 ∷ node 17 0 0 0 0 0 ∷ [])
    (root 0 ∷ root 1 ∷ root 2 ∷ root 3 ∷ [])
    (3 ∷ 4 ∷ 0 ∷ 2 ∷ 0 ∷ 0 ∷ 0 ∷ 1 ∷ 0 ∷ 1 ∷ 0 ∷ 1 ∷ 0 ∷ 1 ∷ 0 ∷ 0 ∷ 0 ∷ 0 ∷ 0 ∷ 0 ∷ 0 ∷ 1 ∷ 0 ∷ 2 ∷ 0 ∷ 0 ∷ 0 ∷ 2 ∷ 0 ∷ 2 ∷ 0 ∷ 0 ∷ 0 ∷ 4 ∷ [])
    fix2ns
    (lists' 0 (step 8 1 (ref 32 0 0 0 0 0 0) (ref 16 0 4 0 0 0 0) blank blank ∷ []) (step 8 1 (ref 32 0 0 0 0 0 0) (ref 36 0 0 0 0 0 0) blank blank ∷ []) ([]))
    (no_more 3) ∷
    -- list-fix-up-to-the-last-number
    walk_vector
    (node 16 0 0 0 0 0 ∷ node 22 0 0 0 0 0 ∷ node 18 1 0 0 0 0 ∷ node 17 0 0 0 0 0 ∷ [])
    (root 0 ∷ root 1 ∷ root 2 ∷ root 3 ∷ [])
    (3 ∷ 4 ∷ 0 ∷ 2 ∷ 0 ∷ 0 ∷ 0 ∷ 1 ∷ 0 ∷ 1 ∷ 0 ∷ 1 ∷ 0 ∷ 1 ∷ 0 ∷ 0 ∷ 0 ∷ 0 ∷ 0 ∷ 0 ∷ 0 ∷ 1 ∷ 0 ∷ 2 ∷ 0 ∷ 0 ∷ 0 ∷ 2 ∷ 0 ∷ 2 ∷ 0 ∷ 0 ∷ 0 ∷ 4 ∷ [])
    fix2ns
    (lists' 65534 (step 8 1 (ref 32 0 0 0 0 0 0) (ref 18 0 0 0 0 0 0) blank blank ∷ []) ([]) (step 8 1 (ref 18 0 0 0 0 0 0) (ref 18 0 2 0 0 0 0) blank blank ∷ []))
    (becomes (lists' 65535 (step 8 1 (ref 32 0 0 0 0 0 0) (ref 32 0 65534 0 0 0 0) blank blank ∷ []) ([]) (step 8 1 (ref 32 0 65534 0 0 0 0) (ref 16 0 2 0 0 0 0) blank blank ∷ []))) ∷
    -- list-fix-past-the-last-number
    walk_vector
    (node 16 0 0 0 0 0 ∷ node 22 0 0 0 0 0 ∷ node 18 1 0 0 0 0 ∷ node 17 0 0 0 0 0 ∷ [])
    (root 0 ∷ root 1 ∷ root 2 ∷ root 3 ∷ [])
    (3 ∷ 4 ∷ 0 ∷ 2 ∷ 0 ∷ 0 ∷ 0 ∷ 1 ∷ 0 ∷ 1 ∷ 0 ∷ 1 ∷ 0 ∷ 1 ∷ 0 ∷ 0 ∷ 0 ∷ 0 ∷ 0 ∷ 0 ∷ 0 ∷ 1 ∷ 0 ∷ 2 ∷ 0 ∷ 0 ∷ 0 ∷ 2 ∷ 0 ∷ 2 ∷ 0 ∷ 0 ∷ 0 ∷ 4 ∷ [])
    fix2ns
    (lists' 65534 (step 8 1 (ref 32 0 0 0 0 0 0) (ref 18 0 0 0 0 0 0) blank blank ∷ []) ([]) (step 8 1 (ref 18 1 0 0 0 0 0) (ref 18 0 2 0 0 0 0) blank blank ∷ []))
    (no_more 9) ∷
    -- list-fix-a-full-counter
    walk_vector
    (node 16 0 0 0 0 0 ∷ node 22 0 0 0 0 0 ∷ node 18 1 0 0 0 0 ∷ node 17 0 0 0 0 0 ∷ [])
    (root 0 ∷ root 1 ∷ root 2 ∷ root 3 ∷ [])
    (3 ∷ 4 ∷ 0 ∷ 2 ∷ 0 ∷ 0 ∷ 0 ∷ 1 ∷ 0 ∷ 1 ∷ 0 ∷ 1 ∷ 0 ∷ 1 ∷ 0 ∷ 0 ∷ 0 ∷ 0 ∷ 0 ∷ 0 ∷ 0 ∷ 1 ∷ 0 ∷ 2 ∷ 0 ∷ 0 ∷ 0 ∷ 2 ∷ 0 ∷ 2 ∷ 0 ∷ 0 ∷ 0 ∷ 4 ∷ [])
    fix2ns
    (lists' 65535 (step 8 1 (ref 32 0 0 0 0 0 0) (ref 18 0 0 0 0 0 0) blank blank ∷ []) ([]) (step 8 1 (ref 18 0 0 0 0 0 0) (ref 18 0 2 0 0 0 0) blank blank ∷ []))
    (no_more 9) ∷
    -- list-fix-9-after-10
    walk_vector
    (node 16 0 0 0 0 0 ∷ node 22 0 0 0 0 0 ∷ node 18 1 0 0 0 0 ∷ node 17 0 0 0 0 0 ∷ [])
    (root 0 ∷ root 1 ∷ root 2 ∷ root 3 ∷ [])
    (3 ∷ 4 ∷ 0 ∷ 2 ∷ 0 ∷ 0 ∷ 0 ∷ 1 ∷ 0 ∷ 1 ∷ 0 ∷ 1 ∷ 0 ∷ 1 ∷ 0 ∷ 0 ∷ 0 ∷ 0 ∷ 0 ∷ 0 ∷ 0 ∷ 1 ∷ 0 ∷ 2 ∷ 0 ∷ 0 ∷ 0 ∷ 2 ∷ 0 ∷ 2 ∷ 0 ∷ 0 ∷ 0 ∷ 4 ∷ [])
    fix2ns
    (lists' 65535 (step 8 1 (ref 32 0 0 0 0 0 0) (ref 18 0 0 0 0 0 0) blank blank ∷ []) ([]) (step 8 1 (ref 40 0 0 0 0 0 0) (ref 18 0 2 0 0 0 0) blank blank ∷ []))
    (no_more 10) ∷
    -- list-fix-a-full-counter-unused
    walk_vector
    (node 16 0 0 0 0 0 ∷ node 22 0 0 0 0 0 ∷ node 18 1 0 0 0 0 ∷ node 17 0 0 0 0 0 ∷ [])
    (root 0 ∷ root 1 ∷ root 2 ∷ root 3 ∷ [])
    (3 ∷ 4 ∷ 0 ∷ 2 ∷ 0 ∷ 0 ∷ 0 ∷ 1 ∷ 0 ∷ 1 ∷ 0 ∷ 1 ∷ 0 ∷ 1 ∷ 0 ∷ 0 ∷ 0 ∷ 0 ∷ 0 ∷ 0 ∷ 0 ∷ 1 ∷ 0 ∷ 2 ∷ 0 ∷ 0 ∷ 0 ∷ 2 ∷ 0 ∷ 2 ∷ 0 ∷ 0 ∷ 0 ∷ 4 ∷ [])
    fix_n
    (lists' 65535 (step 8 1 (ref 32 0 0 0 0 0 0) (ref 18 0 2 0 0 0 0) blank blank ∷ []) ([]) ([]))
    (becomes (lists' 65535 (step 8 1 (ref 32 0 0 0 0 0 0) (ref 16 0 2 0 0 0 0) blank blank ∷ []) ([]) ([]))) ∷
    -- random-1-002-fix-n-generated
    walk_vector
    (node 16 1 0 0 0 0 ∷ node 23 2 0 0 0 0 ∷ node 26 0 0 0 0 0 ∷ node 1 0 2 2 1 0 ∷ node 3 0 2 0 3 0 ∷ node 17 0 0 0 0 0 ∷ node 3 0 2 5 4 0 ∷ node 7 0 1 6 0 0 ∷ [])
    (root 7 ∷ [])
    (3 ∷ 6 ∷ 0 ∷ 4 ∷ 0 ∷ 0 ∷ 0 ∷ 0 ∷ 0 ∷ 1 ∷ 0 ∷ 1 ∷ 0 ∷ 0 ∷ 0 ∷ 0 ∷ 0 ∷ 0 ∷ 0 ∷ 0 ∷ 0 ∷ 0 ∷ 0 ∷ 1 ∷ 0 ∷ 1 ∷ 0 ∷ 7 ∷ 0 ∷ 0 ∷ [])
    fix_n
    (lists' 3 (step 1 2 (ref 32 0 0 0 0 0 0) (ref 26 0 0 0 0 0 0) (ref 23 0 2 0 0 0 0) blank ∷ step 3 2 (ref 32 0 1 0 0 0 0) (ref 16 0 1 0 0 0 0) (ref 32 0 0 0 0 0 0) blank ∷ step 3 2 (ref 32 0 2 0 0 0 0) (ref 17 0 0 0 0 0 0) (ref 32 0 1 0 0 0 0) blank ∷ step 2 2 (ref 18 0 0 0 0 0 0) (ref 20 0 0 0 0 0 0) (ref 32 0 2 0 0 0 0) blank ∷ []) (step 1 2 (ref 32 0 0 0 0 0 0) (ref 26 0 0 0 0 0 0) (ref 23 0 2 0 0 0 0) blank ∷ step 3 2 (ref 32 0 1 0 0 0 0) (ref 16 0 1 0 0 0 0) (ref 32 0 0 0 0 0 0) blank ∷ step 3 2 (ref 32 0 2 0 0 0 0) (ref 17 0 0 0 0 0 0) (ref 32 0 1 0 0 0 0) blank ∷ step 2 2 (ref 18 0 0 0 0 0 0) (ref 20 0 0 0 0 0 0) (ref 32 0 2 0 0 0 0) blank ∷ []) (step 1 2 (ref 32 0 0 0 0 0 0) (ref 26 0 0 0 0 0 0) (ref 23 0 2 0 0 0 0) blank ∷ step 3 2 (ref 32 0 1 0 0 0 0) (ref 16 0 1 0 0 0 0) (ref 32 0 0 0 0 0 0) blank ∷ step 3 2 (ref 32 0 2 0 0 0 0) (ref 17 0 0 0 0 0 0) (ref 32 0 1 0 0 0 0) blank ∷ step 2 2 (ref 18 0 0 0 0 0 0) (ref 20 0 0 0 0 0 0) (ref 32 0 2 0 0 0 0) blank ∷ []))
    (becomes (lists' 4 (step 1 2 (ref 32 0 0 0 0 0 0) (ref 26 0 0 0 0 0 0) (ref 23 0 2 0 0 0 0) blank ∷ step 3 2 (ref 32 0 1 0 0 0 0) (ref 16 0 1 0 2 0 0) (ref 32 0 0 0 0 0 0) blank ∷ step 3 2 (ref 32 0 2 0 0 0 0) (ref 17 0 0 0 0 0 0) (ref 32 0 1 0 0 0 0) blank ∷ step 2 2 (ref 32 0 3 0 0 0 0) (ref 20 0 0 0 0 0 0) (ref 32 0 2 0 0 0 0) blank ∷ []) (step 1 2 (ref 32 0 0 0 0 0 0) (ref 26 0 0 0 0 0 0) (ref 23 0 2 0 0 0 0) blank ∷ step 3 2 (ref 32 0 1 0 0 0 0) (ref 16 0 1 0 2 0 0) (ref 32 0 0 0 0 0 0) blank ∷ step 3 2 (ref 32 0 2 0 0 0 0) (ref 17 0 0 0 0 0 0) (ref 32 0 1 0 0 0 0) blank ∷ step 2 2 (ref 32 0 3 0 0 0 0) (ref 20 0 0 0 0 0 0) (ref 32 0 2 0 0 0 0) blank ∷ []) (step 1 2 (ref 32 0 0 0 0 0 0) (ref 26 0 0 0 0 0 0) (ref 23 0 2 0 0 0 0) blank ∷ step 3 2 (ref 32 0 1 0 0 0 0) (ref 16 0 1 0 2 0 0) (ref 32 0 0 0 0 0 0) blank ∷ step 3 2 (ref 32 0 2 0 0 0 0) (ref 17 0 0 0 0 0 0) (ref 32 0 1 0 0 0 0) blank ∷ step 2 2 (ref 32 0 3 0 0 0 0) (ref 20 0 0 0 0 0 0) (ref 32 0 2 0 0 0 0) blank ∷ []))) ∷
    -- random-1-003-fix-n-any
    walk_vector
    (node 20 0 0 0 0 0 ∷ node 18 1 0 0 0 0 ∷ node 1 0 2 1 0 0 ∷ node 22 0 0 0 0 0 ∷ node 18 1 0 0 0 0 ∷ node 2 0 2 2 4 0 ∷ node 18 1 0 0 0 0 ∷ node 1 0 2 3 6 0 ∷ node 1 0 2 5 7 0 ∷ node 16 2 0 0 0 0 ∷ node 16 0 0 0 0 0 ∷ node 17 0 0 0 0 0 ∷ node 4 0 3 11 9 10 ∷ node 17 256 0 0 0 0 ∷ node 5 0 1 8 0 0 ∷ node 17 0 0 0 0 0 ∷ node 1 0 2 14 15 0 ∷ node 22 0 0 0 0 0 ∷ node 21 0 0 0 0 0 ∷ node 1 0 2 18 16 0 ∷ node 1 0 2 13 17 0 ∷ node 7 0 1 20 0 0 ∷ [])
    (root 19 ∷ root 12 ∷ [])
    (10 ∷ 14 ∷ 0 ∷ 1 ∷ 0 ∷ 0 ∷ 0 ∷ 0 ∷ 0 ∷ 2 ∷ 0 ∷ 2 ∷ 0 ∷ 0 ∷ 0 ∷ 0 ∷ 0 ∷ 0 ∷ 0 ∷ 0 ∷ 0 ∷ 0 ∷ 0 ∷ 0 ∷ 0 ∷ 0 ∷ [])
    fix_n
    (lists' 4 (step 2 3 (ref 19 0 65535 0 0 0 0) (ref 16 0 1 0 0 0 0) (ref 20 0 0 0 0 0 0) (ref 20 0 0 0 0 0 0) ∷ []) ([]) (step 3 2 (ref 18 0 1 0 0 0 0) (ref 17 1 2 0 0 0 0) (ref 19 0 500 0 0 0 0) blank ∷ []))
    (becomes (lists' 5 (step 2 3 (ref 19 0 65535 0 0 0 0) (ref 16 0 1 0 2 0 0) (ref 20 0 0 0 0 0 0) (ref 20 0 0 0 0 0 0) ∷ []) ([]) (step 3 2 (ref 32 0 4 0 0 0 1) (ref 17 1 2 0 0 0 0) (ref 19 0 500 0 0 0 0) blank ∷ []))) ∷
    -- random-1-005-fix-2ns-any
    walk_vector
    (node 16 0 0 0 0 0 ∷ node 16 0 0 0 0 0 ∷ node 3 0 2 0 1 0 ∷ [])
    (root 2 ∷ [])
    (24 ∷ 25 ∷ 0 ∷ 1 ∷ 0 ∷ 0 ∷ 0 ∷ 1 ∷ 0 ∷ 1 ∷ 0 ∷ 1 ∷ 0 ∷ 0 ∷ 0 ∷ 0 ∷ 0 ∷ 0 ∷ 0 ∷ 0 ∷ 0 ∷ 1 ∷ 0 ∷ 1 ∷ 0 ∷ 1 ∷ 0 ∷ 0 ∷ 0 ∷ 1 ∷ 0 ∷ 5 ∷ 0 ∷ 0 ∷ [])
    fix2ns
    (lists' 65534 (step 4 3 (ref 18 0 0 0 0 0 0) (ref 23 0 3 0 0 0 0) (ref 19 1 0 0 0 0 0) (ref 22 0 2 0 0 0 0) ∷ step 1 2 (ref 34 0 0 3 0 0 0) (ref 23 0 2 0 0 0 0) (ref 22 0 3 0 0 0 0) blank ∷ []) (step 3 2 (ref 34 0 3 2 0 0 0) (ref 26 0 0 0 0 0 0) (ref 18 0 0 0 0 0 0) blank ∷ step 8 1 (ref 32 0 3 0 0 0 0) (ref 24 1 0 0 0 0 0) blank blank ∷ step 4 3 (ref 18 1 0 0 0 0 0) (ref 17 0 3 0 0 0 0) (ref 24 0 0 0 0 0 0) (ref 19 0 0 0 0 0 0) ∷ []) (step 8 1 (ref 34 0 3 0 0 0 0) (ref 17 1 3 0 0 0 0) blank blank ∷ []))
    (becomes (lists' 65534 (step 4 3 (ref 16 0 1 0 0 0 0) (ref 23 0 3 0 0 0 0) (ref 19 1 0 0 0 0 0) (ref 22 0 2 0 0 0 0) ∷ step 1 2 (ref 34 0 0 3 0 0 0) (ref 23 0 2 0 0 0 0) (ref 22 0 3 0 0 0 0) blank ∷ []) (step 3 2 (ref 34 0 3 2 0 0 0) (ref 26 0 0 0 0 0 0) (ref 16 0 1 0 0 0 0) blank ∷ step 8 1 (ref 32 0 3 0 0 0 0) (ref 24 1 0 0 0 0 0) blank blank ∷ step 4 3 (ref 16 1 1 0 0 0 0) (ref 17 0 3 0 0 0 0) (ref 24 0 0 0 0 0 0) (ref 19 0 0 0 0 0 0) ∷ []) (step 8 1 (ref 34 0 3 0 0 0 0) (ref 17 1 3 0 0 0 0) blank blank ∷ []))) ∷
    -- random-1-011-any-walk-plan-refused
    walk_vector
    (node 21 1 0 0 0 0 ∷ node 16 4 0 0 0 0 ∷ node 2 0 2 1 0 0 ∷ node 5 0 1 2 0 0 ∷ node 16 5 0 0 0 0 ∷ [])
    (root 3 ∷ [])
    (10 ∷ 12 ∷ 0 ∷ 2 ∷ 0 ∷ 0 ∷ 0 ∷ 0 ∷ 0 ∷ 3 ∷ 0 ∷ 3 ∷ 0 ∷ 0 ∷ 0 ∷ 0 ∷ 0 ∷ 0 ∷ 0 ∷ 0 ∷ 0 ∷ 0 ∷ 32 ∷ 2 ∷ 0 ∷ 2 ∷ 0 ∷ 2 ∷ 0 ∷ 4 ∷ 0 ∷ 0 ∷ 0 ∷ 0 ∷ [])
    fix2ns
    (lists' 0 ([]) ([]) ([]))
    (no_more 1) ∷
    -- random-1-015-any-walk-plan-refused
    walk_vector
    (node 16 0 0 0 0 0 ∷ node 17 65535 0 0 0 0 ∷ node 2 0 2 1 0 0 ∷ node 17 3 0 0 0 0 ∷ node 22 1 0 0 0 0 ∷ node 3 0 2 2 3 0 ∷ node 3 0 2 5 4 0 ∷ node 16 5 0 0 0 0 ∷ node 16 4 0 0 0 0 ∷ node 1 0 2 7 6 0 ∷ node 18 2 0 0 0 0 ∷ node 16 6 0 0 0 0 ∷ node 18 3 0 0 0 0 ∷ node 3 0 2 11 10 0 ∷ node 26 0 0 0 0 0 ∷ node 3 0 2 8 9 0 ∷ node 1 0 2 14 12 0 ∷ node 6 0 1 15 0 0 ∷ node 3 0 2 17 16 0 ∷ node 16 0 0 0 0 0 ∷ node 17 1 0 0 0 0 ∷ [])
    (root 18 ∷ root 20 ∷ root 19 ∷ [])
    (23 ∷ 26 ∷ 0 ∷ 1 ∷ 0 ∷ 2 ∷ 0 ∷ 2 ∷ 0 ∷ 2 ∷ 0 ∷ 2 ∷ 0 ∷ 2 ∷ 0 ∷ 1 ∷ 0 ∷ 0 ∷ 0 ∷ 1 ∷ 0 ∷ 0 ∷ 0 ∷ 2 ∷ 0 ∷ 2 ∷ 0 ∷ 1 ∷ 0 ∷ 1 ∷ 0 ∷ 0 ∷ 0 ∷ 1 ∷ 0 ∷ 2 ∷ 0 ∷ 2 ∷ 0 ∷ 15 ∷ 0 ∷ 6 ∷ 0 ∷ 1 ∷ 0 ∷ 0 ∷ [])
    fix_n
    (lists' 0 ([]) ([]) ([]))
    (no_more 3) ∷
    -- random-1-021-fix-n-any
    walk_vector
    (node 16 0 0 0 0 0 ∷ node 23 3 0 0 0 0 ∷ node 22 0 0 0 0 0 ∷ node 5 0 1 0 0 0 ∷ node 3 0 2 3 1 0 ∷ [])
    (root 2 ∷ [])
    (10 ∷ 12 ∷ 0 ∷ 1 ∷ 0 ∷ 2 ∷ 0 ∷ 2 ∷ 0 ∷ 2 ∷ 0 ∷ 2 ∷ 0 ∷ 0 ∷ 0 ∷ 1 ∷ 0 ∷ 0 ∷ 0 ∷ 0 ∷ 0 ∷ 1 ∷ 0 ∷ 0 ∷ 0 ∷ 0 ∷ 0 ∷ 0 ∷ 0 ∷ 0 ∷ 0 ∷ 0 ∷ 0 ∷ 0 ∷ 0 ∷ 0 ∷ 0 ∷ 4 ∷ [])
    fix_n
    (lists' 9 ([]) (step 1 2 (ref 32 1 3 0 0 0 0) (ref 20 0 0 0 0 0 0) (ref 21 0 3 0 0 0 0) blank ∷ step 8 1 (ref 33 0 2 0 0 0 0) (ref 16 0 2 0 0 0 0) blank blank ∷ []) (step 8 1 (ref 34 1 0 2 0 0 0) (ref 25 0 0 0 0 0 0) blank blank ∷ []))
    (becomes (lists' 9 ([]) (step 1 2 (ref 32 1 3 0 0 0 0) (ref 20 0 0 0 0 0 0) (ref 21 0 3 0 0 0 0) blank ∷ step 8 1 (ref 33 0 2 0 0 0 0) (ref 16 0 2 0 4 0 0) blank blank ∷ []) (step 8 1 (ref 34 1 0 2 0 0 0) (ref 25 0 0 0 0 0 0) blank blank ∷ []))) ∷
    -- random-1-022-fix-2ns-generated
    walk_vector
    (node 25 0 0 0 0 0 ∷ node 22 0 0 0 0 0 ∷ node 3 0 2 0 1 0 ∷ node 7 0 1 2 0 0 ∷ node 17 1 0 0 0 0 ∷ node 18 2 0 0 0 0 ∷ node 18 1 0 0 0 0 ∷ node 1 0 2 5 6 0 ∷ node 3 0 2 3 7 0 ∷ node 18 2 0 0 0 0 ∷ node 17 1 0 0 0 0 ∷ node 16 1 0 0 0 0 ∷ node 16 0 0 0 0 0 ∷ node 17 2 0 0 0 0 ∷ node 16 0 0 0 0 0 ∷ node 3 0 2 8 4 0 ∷ node 16 0 0 0 0 0 ∷ node 3 0 2 10 13 0 ∷ node 3 0 2 17 16 0 ∷ node 3 0 2 14 15 0 ∷ node 1 0 2 18 11 0 ∷ [])
    (root 19 ∷ root 9 ∷ root 12 ∷ [])
    (23 ∷ 23 ∷ 0 ∷ 2 ∷ 0 ∷ 0 ∷ 0 ∷ 3 ∷ 0 ∷ 2 ∷ 0 ∷ 2 ∷ 0 ∷ 1 ∷ 0 ∷ 0 ∷ 0 ∷ 0 ∷ 0 ∷ 2 ∷ 0 ∷ 1 ∷ 0 ∷ 2 ∷ 0 ∷ 2 ∷ 0 ∷ 0 ∷ 0 ∷ 0 ∷ 0 ∷ 2 ∷ 0 ∷ 2 ∷ 0 ∷ 0 ∷ 0 ∷ 4 ∷ 0 ∷ 5 ∷ 0 ∷ 6 ∷ 0 ∷ 0 ∷ 0 ∷ 0 ∷ [])
    fix2ns
    (lists' 5 (step 8 1 (ref 18 0 2 0 0 0 0) (ref 16 0 0 0 0 0 0) blank blank ∷ step 8 1 (ref 18 0 1 0 0 0 0) (ref 18 0 2 0 0 0 0) blank blank ∷ step 8 1 (ref 18 1 2 0 0 0 0) (ref 16 1 0 0 0 0 0) blank blank ∷ step 8 1 (ref 18 1 1 0 0 0 0) (ref 18 1 2 0 0 0 0) blank blank ∷ step 3 2 (ref 32 0 0 0 0 0 0) (ref 25 0 0 0 0 0 0) (ref 22 0 0 0 0 0 0) blank ∷ step 2 2 (ref 32 0 1 0 0 0 0) (ref 20 0 0 0 0 0 0) (ref 32 0 0 0 0 0 0) blank ∷ step 1 2 (ref 32 0 2 0 0 0 0) (ref 18 1 2 0 0 0 0) (ref 18 1 1 0 0 0 0) blank ∷ step 3 2 (ref 32 0 3 0 0 0 0) (ref 32 0 1 0 0 0 0) (ref 32 0 2 0 0 0 0) blank ∷ step 3 2 (ref 32 0 4 0 0 0 0) (ref 32 0 3 0 0 0 0) (ref 17 1 1 0 0 0 0) blank ∷ step 3 2 (ref 18 1 0 0 0 0 0) (ref 16 1 0 0 0 0 0) (ref 32 0 4 0 0 0 0) blank ∷ []) (step 8 1 (ref 18 0 2 0 0 0 0) (ref 16 0 0 0 0 0 0) blank blank ∷ step 8 1 (ref 18 1 2 0 0 0 0) (ref 16 1 0 0 0 0 0) blank blank ∷ step 8 1 (ref 18 1 1 0 0 0 0) (ref 18 1 2 0 0 0 0) blank blank ∷ step 3 2 (ref 32 0 0 0 0 0 0) (ref 25 0 0 0 0 0 0) (ref 22 0 0 0 0 0 0) blank ∷ step 2 2 (ref 32 0 1 0 0 0 0) (ref 20 0 0 0 0 0 0) (ref 32 0 0 0 0 0 0) blank ∷ step 1 2 (ref 32 0 2 0 0 0 0) (ref 18 1 2 0 0 0 0) (ref 18 1 1 0 0 0 0) blank ∷ step 3 2 (ref 32 0 3 0 0 0 0) (ref 32 0 1 0 0 0 0) (ref 32 0 2 0 0 0 0) blank ∷ step 3 2 (ref 32 0 4 0 0 0 0) (ref 32 0 3 0 0 0 0) (ref 17 1 1 0 0 0 0) blank ∷ step 3 2 (ref 18 1 0 0 0 0 0) (ref 16 1 0 0 0 0 0) (ref 32 0 4 0 0 0 0) blank ∷ []) (step 8 1 (ref 18 0 2 0 0 0 0) (ref 16 0 0 0 0 0 0) blank blank ∷ step 8 1 (ref 18 1 2 0 0 0 0) (ref 16 1 0 0 0 0 0) blank blank ∷ step 8 1 (ref 18 1 1 0 0 0 0) (ref 18 1 2 0 0 0 0) blank blank ∷ step 3 2 (ref 32 0 0 0 0 0 0) (ref 25 0 0 0 0 0 0) (ref 22 0 0 0 0 0 0) blank ∷ step 2 2 (ref 32 0 1 0 0 0 0) (ref 20 0 0 0 0 0 0) (ref 32 0 0 0 0 0 0) blank ∷ step 1 2 (ref 32 0 2 0 0 0 0) (ref 18 1 2 0 0 0 0) (ref 18 1 1 0 0 0 0) blank ∷ step 3 2 (ref 32 0 3 0 0 0 0) (ref 32 0 1 0 0 0 0) (ref 32 0 2 0 0 0 0) blank ∷ step 3 2 (ref 32 0 4 0 0 0 0) (ref 32 0 3 0 0 0 0) (ref 17 1 1 0 0 0 0) blank ∷ step 3 2 (ref 18 1 0 0 0 0 0) (ref 16 1 0 0 0 0 0) (ref 32 0 4 0 0 0 0) blank ∷ []))
    (becomes (lists' 9 (step 8 1 (ref 32 0 5 0 0 0 2) (ref 16 0 0 0 1 0 0) blank blank ∷ step 8 1 (ref 32 0 6 0 0 0 1) (ref 32 0 5 0 0 0 2) blank blank ∷ step 8 1 (ref 32 1 7 0 0 0 2) (ref 16 1 0 0 1 0 0) blank blank ∷ step 8 1 (ref 32 1 8 0 0 0 1) (ref 32 1 7 0 0 0 2) blank blank ∷ step 3 2 (ref 32 0 0 0 0 0 0) (ref 25 0 0 0 0 0 0) (ref 22 0 0 0 0 0 0) blank ∷ step 2 2 (ref 32 0 1 0 0 0 0) (ref 20 0 0 0 0 0 0) (ref 32 0 0 0 0 0 0) blank ∷ step 1 2 (ref 32 0 2 0 0 0 0) (ref 32 1 7 0 0 0 2) (ref 32 1 8 0 0 0 1) blank ∷ step 3 2 (ref 32 0 3 0 0 0 0) (ref 32 0 1 0 0 0 0) (ref 32 0 2 0 0 0 0) blank ∷ step 3 2 (ref 32 0 4 0 0 0 0) (ref 32 0 3 0 0 0 0) (ref 17 1 1 0 0 0 0) blank ∷ step 3 2 (ref 16 1 4 0 0 0 0) (ref 16 1 0 0 1 0 0) (ref 32 0 4 0 0 0 0) blank ∷ []) (step 8 1 (ref 32 0 5 0 0 0 2) (ref 16 0 0 0 1 0 0) blank blank ∷ step 8 1 (ref 32 1 7 0 0 0 2) (ref 16 1 0 0 1 0 0) blank blank ∷ step 8 1 (ref 32 1 8 0 0 0 1) (ref 32 1 7 0 0 0 2) blank blank ∷ step 3 2 (ref 32 0 0 0 0 0 0) (ref 25 0 0 0 0 0 0) (ref 22 0 0 0 0 0 0) blank ∷ step 2 2 (ref 32 0 1 0 0 0 0) (ref 20 0 0 0 0 0 0) (ref 32 0 0 0 0 0 0) blank ∷ step 1 2 (ref 32 0 2 0 0 0 0) (ref 32 1 7 0 0 0 2) (ref 32 1 8 0 0 0 1) blank ∷ step 3 2 (ref 32 0 3 0 0 0 0) (ref 32 0 1 0 0 0 0) (ref 32 0 2 0 0 0 0) blank ∷ step 3 2 (ref 32 0 4 0 0 0 0) (ref 32 0 3 0 0 0 0) (ref 17 1 1 0 0 0 0) blank ∷ step 3 2 (ref 16 1 4 0 0 0 0) (ref 16 1 0 0 1 0 0) (ref 32 0 4 0 0 0 0) blank ∷ []) (step 8 1 (ref 32 0 5 0 0 0 2) (ref 16 0 0 0 1 0 0) blank blank ∷ step 8 1 (ref 32 1 7 0 0 0 2) (ref 16 1 0 0 1 0 0) blank blank ∷ step 8 1 (ref 32 1 8 0 0 0 1) (ref 32 1 7 0 0 0 2) blank blank ∷ step 3 2 (ref 32 0 0 0 0 0 0) (ref 25 0 0 0 0 0 0) (ref 22 0 0 0 0 0 0) blank ∷ step 2 2 (ref 32 0 1 0 0 0 0) (ref 20 0 0 0 0 0 0) (ref 32 0 0 0 0 0 0) blank ∷ step 1 2 (ref 32 0 2 0 0 0 0) (ref 32 1 7 0 0 0 2) (ref 32 1 8 0 0 0 1) blank ∷ step 3 2 (ref 32 0 3 0 0 0 0) (ref 32 0 1 0 0 0 0) (ref 32 0 2 0 0 0 0) blank ∷ step 3 2 (ref 32 0 4 0 0 0 0) (ref 32 0 3 0 0 0 0) (ref 17 1 1 0 0 0 0) blank ∷ step 3 2 (ref 16 1 4 0 0 0 0) (ref 16 1 0 0 1 0 0) (ref 32 0 4 0 0 0 0) blank ∷ []))) ∷
    -- random-1-023-fix-2ns-any
    walk_vector
    (node 16 2 0 0 0 0 ∷ node 5 0 1 0 0 0 ∷ node 17 256 0 0 0 0 ∷ node 2 0 2 1 2 0 ∷ [])
    (root 3 ∷ [])
    (0 ∷ 3 ∷ 0 ∷ 7 ∷ 0 ∷ 2 ∷ 0 ∷ 7 ∷ 0 ∷ 2 ∷ 0 ∷ 2 ∷ 0 ∷ 0 ∷ 0 ∷ 1 ∷ 0 ∷ 2 ∷ 0 ∷ 3 ∷ 0 ∷ 1 ∷ 0 ∷ 2 ∷ 0 ∷ 2 ∷ 0 ∷ 0 ∷ 0 ∷ 0 ∷ 0 ∷ 0 ∷ 0 ∷ 0 ∷ 0 ∷ 0 ∷ 0 ∷ 0 ∷ 0 ∷ 0 ∷ 0 ∷ 0 ∷ 0 ∷ 0 ∷ 0 ∷ 0 ∷ 0 ∷ 0 ∷ 0 ∷ 0 ∷ 0 ∷ 0 ∷ 0 ∷ 0 ∷ 0 ∷ 0 ∷ 0 ∷ 15 ∷ 0 ∷ 14 ∷ 0 ∷ 25 ∷ 0 ∷ 0 ∷ 0 ∷ 0 ∷ [])
    fix2ns
    (lists' 1 ([]) (step 2 2 (ref 34 1 3 1 0 0 0) (ref 34 0 1 1 0 0 0) (ref 35 0 0 1 12 15 3) blank ∷ step 8 1 (ref 19 0 1 0 0 0 0) (ref 16 0 11 0 0 0 0) blank blank ∷ step 3 2 (ref 33 1 0 3 2 4 8) (ref 19 0 1 0 0 0 0) (ref 16 0 13 0 0 0 0) blank ∷ []) ([]))
    (becomes (lists' 1 ([]) (step 2 2 (ref 34 1 3 1 0 0 0) (ref 34 0 1 1 0 0 0) (ref 35 0 0 1 12 15 3) blank ∷ step 8 1 (ref 19 0 1 0 0 0 0) (ref 16 0 11 0 23 0 0) blank blank ∷ step 3 2 (ref 33 1 0 3 2 4 8) (ref 19 0 1 0 0 0 0) (ref 16 0 13 0 27 0 0) blank ∷ []) ([]))) ∷
    -- random-1-031-any-walk-plan-refused
    walk_vector
    (node 24 0 0 0 0 0 ∷ node 17 2 0 0 0 0 ∷ node 3 0 2 0 1 0 ∷ node 16 5 0 0 0 0 ∷ node 25 0 0 0 0 0 ∷ node 20 0 0 0 0 0 ∷ node 6 0 1 4 0 0 ∷ node 3 0 2 6 3 0 ∷ node 22 0 0 0 0 0 ∷ node 1 0 2 8 5 0 ∷ node 16 0 0 0 0 0 ∷ node 1 0 2 7 9 0 ∷ node 3 0 2 2 10 0 ∷ node 3 0 2 11 12 0 ∷ node 16 2 0 0 0 0 ∷ node 16 2 0 0 0 0 ∷ node 16 1 0 0 0 0 ∷ node 1 0 2 13 16 0 ∷ node 25 0 0 0 0 0 ∷ node 4 0 3 18 15 14 ∷ node 3 0 2 19 17 0 ∷ node 5 0 1 20 0 0 ∷ node 16 0 0 0 0 0 ∷ [])
    (root 21 ∷ [])
    (0 ∷ 0 ∷ 0 ∷ 4 ∷ 0 ∷ 2 ∷ 0 ∷ 3 ∷ 0 ∷ 2 ∷ 0 ∷ 2 ∷ 0 ∷ 0 ∷ 0 ∷ 1 ∷ 0 ∷ 1 ∷ 0 ∷ 0 ∷ 0 ∷ 1 ∷ 0 ∷ 3 ∷ 0 ∷ 3 ∷ 0 ∷ 0 ∷ 0 ∷ 0 ∷ 0 ∷ 0 ∷ 255 ∷ 255 ∷ 0 ∷ 0 ∷ 0 ∷ 0 ∷ 0 ∷ 0 ∷ 0 ∷ 8 ∷ 0 ∷ 15 ∷ 0 ∷ 20 ∷ 0 ∷ 8 ∷ 0 ∷ 0 ∷ 0 ∷ 0 ∷ 0 ∷ 0 ∷ [])
    fix_n
    (lists' 0 ([]) ([]) ([]))
    (no_more 3) ∷
    -- random-1-039-fix-n-any
    walk_vector
    (node 16 3 0 0 0 0 ∷ node 18 0 0 0 0 0 ∷ node 17 256 0 0 0 0 ∷ node 3 0 2 1 2 0 ∷ node 2 0 2 3 0 0 ∷ node 18 0 0 0 0 0 ∷ node 18 0 0 0 0 0 ∷ node 2 0 2 5 4 0 ∷ node 16 0 0 0 0 0 ∷ node 3 0 2 8 6 0 ∷ node 3 0 2 9 7 0 ∷ node 25 0 0 0 0 0 ∷ node 5 0 1 11 0 0 ∷ node 3 0 2 10 12 0 ∷ node 6 0 1 13 0 0 ∷ node 5 0 1 14 0 0 ∷ node 18 0 0 0 0 0 ∷ node 1 0 2 15 16 0 ∷ node 5 0 1 17 0 0 ∷ node 18 0 0 0 0 0 ∷ node 2 0 2 18 19 0 ∷ node 26 0 0 0 0 0 ∷ node 23 0 0 0 0 0 ∷ node 1 0 2 20 21 0 ∷ node 1 0 2 22 23 0 ∷ node 18 0 0 0 0 0 ∷ node 2 0 2 25 24 0 ∷ node 17 256 0 0 0 0 ∷ node 16 0 0 0 0 0 ∷ node 3 0 2 28 26 0 ∷ node 26 0 0 0 0 0 ∷ node 18 0 0 0 0 0 ∷ node 20 0 0 0 0 0 ∷ node 16 0 0 0 0 0 ∷ node 17 0 0 0 0 0 ∷ node 21 65535 0 0 0 0 ∷ node 1 0 2 29 34 0 ∷ node 24 0 0 0 0 0 ∷ node 1 0 2 30 31 0 ∷ node 17 0 0 0 0 0 ∷ node 4 0 3 38 35 32 ∷ node 18 0 0 0 0 0 ∷ node 16 0 0 0 0 0 ∷ node 1 0 2 40 37 0 ∷ node 22 0 0 0 0 0 ∷ node 1 0 2 39 42 0 ∷ node 17 65535 0 0 0 0 ∷ node 3 0 2 46 44 0 ∷ node 18 0 0 0 0 0 ∷ node 6 0 1 41 0 0 ∷ node 18 0 0 0 0 0 ∷ node 16 0 0 0 0 0 ∷ node 1 0 2 51 50 0 ∷ node 1 0 2 47 43 0 ∷ node 23 65535 0 0 0 0 ∷ node 1 0 2 27 45 0 ∷ node 17 2 0 0 0 0 ∷ node 18 0 0 0 0 0 ∷ node 3 0 2 55 33 0 ∷ node 23 0 0 0 0 0 ∷ node 17 3 0 0 0 0 ∷ node 3 0 2 60 58 0 ∷ node 18 0 0 0 0 0 ∷ node 1 0 2 57 54 0 ∷ node 6 0 1 63 0 0 ∷ node 18 0 0 0 0 0 ∷ node 20 0 0 0 0 0 ∷ node 19 0 0 0 0 0 ∷ node 1 0 2 53 64 0 ∷ node 20 0 0 0 0 0 ∷ node 1 0 2 61 69 0 ∷ node 3 0 2 65 59 0 ∷ node 2 0 2 68 56 0 ∷ node 18 0 0 0 0 0 ∷ node 18 0 0 0 0 0 ∷ node 16 0 0 0 0 0 ∷ node 1 0 2 72 52 0 ∷ node 18 0 0 0 0 0 ∷ node 1 0 2 67 71 0 ∷ node 6 0 1 76 0 0 ∷ node 1 0 2 48 62 0 ∷ node 1 0 2 79 66 0 ∷ node 3 0 2 70 49 0 ∷ node 2 0 2 77 80 0 ∷ node 3 0 2 81 36 0 ∷ node 2 0 2 83 74 0 ∷ node 7 0 1 75 0 0 ∷ node 7 0 1 84 0 0 ∷ node 3 0 2 78 87 0 ∷ [])
    (root 86 ∷ [])
    (24 ∷ 27 ∷ 0 ∷ 1 ∷ 0 ∷ 0 ∷ 0 ∷ 2 ∷ 0 ∷ 2 ∷ 0 ∷ 2 ∷ 0 ∷ 0 ∷ 0 ∷ 0 ∷ 0 ∷ 1 ∷ 0 ∷ 1 ∷ 0 ∷ 0 ∷ 0 ∷ 1 ∷ 0 ∷ 1 ∷ 0 ∷ 0 ∷ 0 ∷ 0 ∷ 0 ∷ 0 ∷ 0 ∷ 0 ∷ 0 ∷ 10 ∷ 0 ∷ 0 ∷ [])
    fix_n
    (lists' 4 (step 4 3 (ref 18 0 0 2 7 4 9) (ref 17 0 0 0 0 0 0) (ref 16 1 3 0 0 0 0) (ref 35 0 2 0 0 0 0) ∷ step 4 3 (ref 32 0 1 0 0 0 0) (ref 22 0 2 0 0 0 0) (ref 18 0 0 2 7 4 9) (ref 16 0 4 0 0 0 0) ∷ step 4 3 (ref 18 0 0 0 0 0 0) (ref 34 0 1 0 0 0 0) (ref 32 0 1 0 0 0 0) (ref 20 0 0 0 0 0 0) ∷ []) (step 1 2 (ref 32 0 1 0 0 0 0) (ref 24 0 0 0 0 0 0) (ref 16 0 1 0 0 0 0) blank ∷ step 1 2 (ref 33 0 1 0 0 0 0) (ref 23 0 1 0 0 0 0) (ref 21 0 2 0 0 0 0) blank ∷ []) (step 2 2 (ref 32 0 2 0 0 0 0) (ref 26 0 0 4 9 11 5) (ref 22 1 0 0 0 0 0) blank ∷ []))
    (becomes (lists' 4 (step 4 3 (ref 34 0 0 1 7 4 9) (ref 17 0 0 0 0 0 0) (ref 16 1 3 0 7 0 0) (ref 35 0 2 0 0 0 0) ∷ step 4 3 (ref 32 0 1 0 0 0 0) (ref 22 0 2 0 0 0 0) (ref 34 0 0 1 7 4 9) (ref 16 0 4 0 9 0 0) ∷ step 4 3 (ref 34 0 0 1 0 0 0) (ref 34 0 1 0 0 0 0) (ref 32 0 1 0 0 0 0) (ref 20 0 0 0 0 0 0) ∷ []) (step 1 2 (ref 32 0 1 0 0 0 0) (ref 24 0 0 0 0 0 0) (ref 16 0 1 0 2 0 0) blank ∷ step 1 2 (ref 33 0 1 0 0 0 0) (ref 23 0 1 0 0 0 0) (ref 21 0 2 0 0 0 0) blank ∷ []) (step 2 2 (ref 32 0 2 0 0 0 0) (ref 26 0 0 4 9 11 5) (ref 22 1 0 0 0 0 0) blank ∷ []))) ∷
    -- random-1-041-fix-2ns-any
    walk_vector
    (node 18 1 0 0 0 0 ∷ node 18 1 0 0 0 0 ∷ node 25 0 0 0 0 0 ∷ node 19 0 0 0 0 0 ∷ node 18 1 0 0 0 0 ∷ node 26 0 0 0 0 0 ∷ node 1 0 2 4 5 0 ∷ node 16 0 0 0 0 0 ∷ node 3 0 2 7 0 0 ∷ node 18 1 0 0 0 0 ∷ node 16 0 0 0 0 0 ∷ node 18 0 0 0 0 0 ∷ node 16 0 0 0 0 0 ∷ node 3 0 2 12 10 0 ∷ node 18 1 0 0 0 0 ∷ node 6 0 1 1 0 0 ∷ node 1 0 2 14 8 0 ∷ node 3 0 2 6 11 0 ∷ node 6 0 1 15 0 0 ∷ node 7 0 1 2 0 0 ∷ node 7 0 1 18 0 0 ∷ [])
    (root 16 ∷ root 13 ∷ root 19 ∷ [])
    (0 ∷ 0 ∷ 0 ∷ 1 ∷ 0 ∷ 0 ∷ 0 ∷ 0 ∷ 0 ∷ 3 ∷ 0 ∷ 3 ∷ 0 ∷ 2 ∷ 0 ∷ 0 ∷ 0 ∷ 0 ∷ 0 ∷ 0 ∷ 0 ∷ 0 ∷ 0 ∷ 2 ∷ 0 ∷ 2 ∷ 0 ∷ 3 ∷ 0 ∷ 3 ∷ 0 ∷ 2 ∷ 0 ∷ 2 ∷ [])
    fix2ns
    (lists' 0 (step 1 2 (ref 33 0 1 0 0 0 0) (ref 24 0 0 0 0 0 0) (ref 26 0 0 0 0 0 0) blank ∷ []) (step 4 3 (ref 25 1 0 0 0 0 0) (ref 19 1 1 0 0 0 0) (ref 37 1 2 0 0 0 0) (ref 21 0 0 0 0 0 0) ∷ step 8 1 (ref 38 0 2 1 0 0 0) (ref 23 0 0 0 0 0 0) blank blank ∷ step 8 1 (ref 16 0 1 2 5 16 9) (ref 21 1 1 0 0 0 0) blank blank ∷ []) ([]))
    (no_more 10) ∷
    -- random-1-056-fix-n-generated
    walk_vector
    (node 16 4 0 0 0 0 ∷ node 16 9 0 0 0 0 ∷ node 3 0 2 1 0 0 ∷ node 25 0 0 0 0 0 ∷ node 24 0 0 0 0 0 ∷ node 1 0 2 2 3 0 ∷ node 3 0 2 5 4 0 ∷ [])
    (root 6 ∷ [])
    (23 ∷ 25 ∷ 0 ∷ 0 ∷ 0 ∷ 4 ∷ 0 ∷ 5 ∷ 0 ∷ 2 ∷ 0 ∷ 2 ∷ 0 ∷ 0 ∷ 0 ∷ 2 ∷ 0 ∷ 0 ∷ 0 ∷ 2 ∷ 0 ∷ 1 ∷ 0 ∷ 2 ∷ 0 ∷ 2 ∷ 0 ∷ 0 ∷ 0 ∷ 0 ∷ 0 ∷ 0 ∷ 0 ∷ 0 ∷ 0 ∷ 0 ∷ 0 ∷ 0 ∷ 0 ∷ 0 ∷ 0 ∷ 0 ∷ 0 ∷ 0 ∷ 0 ∷ 0 ∷ 0 ∷ 0 ∷ 0 ∷ 0 ∷ 0 ∷ 0 ∷ 0 ∷ 8 ∷ 0 ∷ 4 ∷ 0 ∷ 18 ∷ 0 ∷ 0 ∷ 0 ∷ 0 ∷ [])
    fix_n
    (lists' 2 (step 3 2 (ref 32 0 0 0 0 0 0) (ref 16 0 9 0 0 0 0) (ref 16 0 4 0 0 0 0) blank ∷ step 1 2 (ref 32 0 1 0 0 0 0) (ref 32 0 0 0 0 0 0) (ref 25 0 0 0 0 0 0) blank ∷ step 3 2 (ref 18 0 0 0 0 0 0) (ref 32 0 1 0 0 0 0) (ref 24 0 0 0 0 0 0) blank ∷ []) (step 3 2 (ref 32 0 0 0 0 0 0) (ref 16 0 9 0 0 0 0) (ref 16 0 4 0 0 0 0) blank ∷ step 1 2 (ref 32 0 1 0 0 0 0) (ref 32 0 0 0 0 0 0) (ref 25 0 0 0 0 0 0) blank ∷ step 3 2 (ref 18 0 0 0 0 0 0) (ref 32 0 1 0 0 0 0) (ref 24 0 0 0 0 0 0) blank ∷ []) (step 3 2 (ref 32 0 0 0 0 0 0) (ref 16 0 9 0 0 0 0) (ref 16 0 4 0 0 0 0) blank ∷ step 1 2 (ref 32 0 1 0 0 0 0) (ref 32 0 0 0 0 0 0) (ref 25 0 0 0 0 0 0) blank ∷ step 3 2 (ref 18 0 0 0 0 0 0) (ref 32 0 1 0 0 0 0) (ref 24 0 0 0 0 0 0) blank ∷ []))
    (becomes (lists' 2 (step 3 2 (ref 32 0 0 0 0 0 0) (ref 16 0 9 0 18 0 0) (ref 16 0 4 0 8 0 0) blank ∷ step 1 2 (ref 32 0 1 0 0 0 0) (ref 32 0 0 0 0 0 0) (ref 25 0 0 0 0 0 0) blank ∷ step 3 2 (ref 16 0 8 0 0 0 0) (ref 32 0 1 0 0 0 0) (ref 24 0 0 0 0 0 0) blank ∷ []) (step 3 2 (ref 32 0 0 0 0 0 0) (ref 16 0 9 0 18 0 0) (ref 16 0 4 0 8 0 0) blank ∷ step 1 2 (ref 32 0 1 0 0 0 0) (ref 32 0 0 0 0 0 0) (ref 25 0 0 0 0 0 0) blank ∷ step 3 2 (ref 16 0 8 0 0 0 0) (ref 32 0 1 0 0 0 0) (ref 24 0 0 0 0 0 0) blank ∷ []) (step 3 2 (ref 32 0 0 0 0 0 0) (ref 16 0 9 0 18 0 0) (ref 16 0 4 0 8 0 0) blank ∷ step 1 2 (ref 32 0 1 0 0 0 0) (ref 32 0 0 0 0 0 0) (ref 25 0 0 0 0 0 0) blank ∷ step 3 2 (ref 16 0 8 0 0 0 0) (ref 32 0 1 0 0 0 0) (ref 24 0 0 0 0 0 0) blank ∷ []))) ∷
    -- random-1-057-fix-n-any
    walk_vector
    (node 17 0 0 0 0 0 ∷ node 16 0 0 0 0 0 ∷ node 16 0 0 0 0 0 ∷ node 1 0 2 1 2 0 ∷ node 1 0 2 0 3 0 ∷ node 7 0 1 4 0 0 ∷ node 17 256 0 0 0 0 ∷ node 3 0 2 5 6 0 ∷ node 17 3 0 0 0 0 ∷ node 17 2 0 0 0 0 ∷ node 16 0 0 0 0 0 ∷ node 22 1 0 0 0 0 ∷ node 16 0 0 0 0 0 ∷ node 4 0 3 10 7 9 ∷ node 18 1 0 0 0 0 ∷ node 17 1 0 0 0 0 ∷ node 18 0 0 0 0 0 ∷ node 23 2 0 0 0 0 ∷ node 1 0 2 14 17 0 ∷ node 1 0 2 12 16 0 ∷ node 3 0 2 19 15 0 ∷ node 7 0 1 13 0 0 ∷ node 3 0 2 11 21 0 ∷ [])
    (root 22 ∷ root 8 ∷ [])
    (10 ∷ 12 ∷ 0 ∷ 1 ∷ 0 ∷ 2 ∷ 0 ∷ 3 ∷ 0 ∷ 2 ∷ 0 ∷ 2 ∷ 0 ∷ 0 ∷ 0 ∷ 1 ∷ 0 ∷ 0 ∷ 0 ∷ 0 ∷ 0 ∷ 2 ∷ 0 ∷ 2 ∷ 0 ∷ 2 ∷ 0 ∷ 0 ∷ 0 ∷ 1 ∷ 0 ∷ 1 ∷ 0 ∷ 0 ∷ 0 ∷ 0 ∷ 0 ∷ 4 ∷ 0 ∷ 1 ∷ 0 ∷ 5 ∷ 0 ∷ 6 ∷ 0 ∷ 16 ∷ 0 ∷ 0 ∷ 0 ∷ 1 ∷ [])
    fix_n
    (lists' 1 (step 8 1 (ref 18 0 1 0 0 0 0) (ref 35 0 2 0 0 0 0) blank blank ∷ step 4 3 (ref 33 1 0 0 0 0 0) (ref 17 1 3 0 0 0 0) (ref 18 0 1 0 0 0 0) (ref 18 0 1 0 0 0 0) ∷ step 2 2 (ref 34 0 3 2 0 0 0) (ref 22 0 3 0 0 0 0) (ref 24 0 0 0 0 0 0) blank ∷ []) (step 4 3 (ref 34 0 3 1 0 0 0) (ref 16 0 6 0 0 0 0) (ref 18 0 1 0 0 0 0) (ref 21 1 0 0 0 0 0) ∷ step 1 2 (ref 33 0 0 0 0 0 0) (ref 18 0 1 0 0 0 0) (ref 16 0 6 0 0 0 0) blank ∷ []) ([]))
    (becomes (lists' 1 (step 8 1 (ref 16 0 5 0 0 0 0) (ref 35 0 2 0 0 0 0) blank blank ∷ step 4 3 (ref 33 1 0 0 0 0 0) (ref 17 1 3 0 0 0 0) (ref 16 0 5 0 0 0 0) (ref 16 0 5 0 0 0 0) ∷ step 2 2 (ref 34 0 3 2 0 0 0) (ref 22 0 3 0 0 0 0) (ref 24 0 0 0 0 0 0) blank ∷ []) (step 4 3 (ref 34 0 3 1 0 0 0) (ref 16 0 6 0 12 0 0) (ref 16 0 5 0 0 0 0) (ref 21 1 0 0 0 0 0) ∷ step 1 2 (ref 33 0 0 0 0 0 0) (ref 16 0 5 0 0 0 0) (ref 16 0 6 0 12 0 0) blank ∷ []) ([]))) ∷
    -- random-1-058-fix-2ns-generated
    walk_vector
    (node 22 256 0 0 0 0 ∷ node 17 3 0 0 0 0 ∷ node 3 0 2 0 1 0 ∷ [])
    (root 2 ∷ [])
    (1 ∷ 3 ∷ 0 ∷ 4 ∷ 0 ∷ 2 ∷ 0 ∷ 1 ∷ 0 ∷ 0 ∷ 0 ∷ 0 ∷ 0 ∷ 0 ∷ 0 ∷ 1 ∷ 0 ∷ 0 ∷ 0 ∷ 0 ∷ 0 ∷ 0 ∷ 0 ∷ 2 ∷ 0 ∷ 2 ∷ 0 ∷ 0 ∷ 0 ∷ 0 ∷ 0 ∷ 0 ∷ 0 ∷ 0 ∷ 0 ∷ 15 ∷ 0 ∷ 3 ∷ 0 ∷ 0 ∷ 0 ∷ 0 ∷ [])
    fix2ns
    (lists' 0 (step 3 2 (ref 18 0 0 0 0 0 0) (ref 22 0 256 0 0 0 0) (ref 17 0 3 0 0 0 0) blank ∷ []) (step 3 2 (ref 18 0 0 0 0 0 0) (ref 22 0 256 0 0 0 0) (ref 17 0 3 0 0 0 0) blank ∷ []) (step 3 2 (ref 18 0 0 0 0 0 0) (ref 22 0 256 0 0 0 0) (ref 17 0 3 0 0 0 0) blank ∷ []))
    (becomes (lists' 1 (step 3 2 (ref 32 0 0 0 0 0 0) (ref 22 0 256 0 0 0 0) (ref 17 0 3 0 0 0 0) blank ∷ []) (step 3 2 (ref 32 0 0 0 0 0 0) (ref 22 0 256 0 0 0 0) (ref 17 0 3 0 0 0 0) blank ∷ []) (step 3 2 (ref 32 0 0 0 0 0 0) (ref 22 0 256 0 0 0 0) (ref 17 0 3 0 0 0 0) blank ∷ []))) ∷
    -- random-1-059-fix-2ns-any
    walk_vector
    (node 25 0 0 0 0 0 ∷ node 16 6 0 0 0 0 ∷ node 16 0 0 0 0 0 ∷ node 16 3 0 0 0 0 ∷ node 1 0 2 0 1 0 ∷ node 2 0 2 2 3 0 ∷ node 3 0 2 5 4 0 ∷ node 16 1 0 0 0 0 ∷ node 5 0 1 7 0 0 ∷ node 2 0 2 6 8 0 ∷ node 16 1 0 0 0 0 ∷ node 5 0 1 10 0 0 ∷ node 1 0 2 9 11 0 ∷ node 16 5 0 0 0 0 ∷ node 1 0 2 12 13 0 ∷ node 17 0 0 0 0 0 ∷ node 16 0 0 0 0 0 ∷ node 6 0 1 16 0 0 ∷ node 3 0 2 14 15 0 ∷ node 2 0 2 18 17 0 ∷ node 16 3 0 0 0 0 ∷ node 3 0 2 19 20 0 ∷ node 5 0 1 21 0 0 ∷ node 17 256 0 0 0 0 ∷ [])
    (root 23 ∷ root 22 ∷ [])
    (0 ∷ 2 ∷ 0 ∷ 7 ∷ 0 ∷ 0 ∷ 0 ∷ 1 ∷ 0 ∷ 3 ∷ 0 ∷ 3 ∷ 0 ∷ 0 ∷ 0 ∷ 0 ∷ 0 ∷ 0 ∷ 0 ∷ 0 ∷ 0 ∷ 1 ∷ 0 ∷ 1 ∷ 0 ∷ 1 ∷ 0 ∷ 0 ∷ 0 ∷ 7 ∷ 0 ∷ 13 ∷ 0 ∷ 0 ∷ [])
    fix2ns
    (lists' 0 (step 1 2 (ref 32 0 0 0 0 0 0) (ref 17 0 2 0 0 0 0) (ref 17 0 1 0 13 12 3) blank ∷ []) (step 2 2 (ref 32 0 1 0 0 0 0) (ref 25 1 0 0 0 0 0) (ref 32 0 0 0 0 0 0) blank ∷ []) (step 3 2 (ref 32 0 1 0 0 0 0) (ref 24 0 0 0 0 0 0) (ref 32 0 0 0 0 0 0) blank ∷ step 1 2 (ref 32 1 2 0 0 0 0) (ref 32 0 1 0 0 0 0) (ref 17 0 0 0 0 0 0) blank ∷ []))
    (becomes (lists' 0 (step 1 2 (ref 32 0 0 0 0 0 0) (ref 17 0 2 0 0 0 0) (ref 17 0 1 0 13 12 3) blank ∷ []) (step 2 2 (ref 32 0 1 0 0 0 0) (ref 25 1 0 0 0 0 0) (ref 32 0 0 0 0 0 0) blank ∷ []) (step 3 2 (ref 32 0 1 0 0 0 0) (ref 24 0 0 0 0 0 0) (ref 32 0 0 0 0 0 0) blank ∷ step 1 2 (ref 32 1 2 0 0 0 0) (ref 32 0 1 0 0 0 0) (ref 17 0 0 0 0 0 0) blank ∷ []))) ∷
    -- random-1-074-fix-n-generated
    walk_vector
    (node 16 5 0 0 0 0 ∷ node 18 0 0 0 0 0 ∷ node 16 0 0 0 0 0 ∷ node 18 0 0 0 0 0 ∷ node 1 0 2 0 1 0 ∷ node 7 0 1 3 0 0 ∷ node 16 0 0 0 0 0 ∷ node 16 0 0 0 0 0 ∷ node 5 0 1 4 0 0 ∷ node 3 0 2 2 6 0 ∷ node 1 0 2 9 7 0 ∷ [])
    (root 10 ∷ [])
    (1 ∷ 1 ∷ 0 ∷ 1 ∷ 0 ∷ 4 ∷ 0 ∷ 3 ∷ 0 ∷ 3 ∷ 0 ∷ 3 ∷ 0 ∷ 0 ∷ 0 ∷ 2 ∷ 0 ∷ 0 ∷ 0 ∷ 0 ∷ 0 ∷ 1 ∷ 0 ∷ 2 ∷ 0 ∷ 2 ∷ 0 ∷ 0 ∷ 0 ∷ 0 ∷ 0 ∷ 0 ∷ 0 ∷ 0 ∷ 0 ∷ 0 ∷ 0 ∷ 0 ∷ 0 ∷ 0 ∷ 0 ∷ 0 ∷ 0 ∷ 0 ∷ 0 ∷ 2 ∷ 0 ∷ 19 ∷ 0 ∷ 7 ∷ 0 ∷ 0 ∷ 0 ∷ 0 ∷ [])
    fix_n
    (lists' 0 (step 4 3 (ref 18 0 0 0 0 0 0) (ref 16 0 0 0 0 0 0) (ref 16 0 0 0 0 0 0) (ref 16 0 0 0 0 0 0) ∷ step 8 1 (ref 19 0 2 0 0 0 0) (ref 18 0 0 0 0 0 0) blank blank ∷ []) (step 4 3 (ref 18 0 0 0 0 0 0) (ref 16 0 0 0 0 0 0) (ref 16 0 0 0 0 0 0) (ref 16 0 0 0 0 0 0) ∷ step 8 1 (ref 19 0 2 0 0 0 0) (ref 18 0 0 0 0 0 0) blank blank ∷ []) (step 4 3 (ref 18 0 0 0 0 0 0) (ref 16 0 0 0 0 0 0) (ref 16 0 0 0 0 0 0) (ref 16 0 0 0 0 0 0) ∷ step 8 1 (ref 19 0 2 0 0 0 0) (ref 18 0 0 0 0 0 0) blank blank ∷ []))
    (becomes (lists' 0 (step 4 3 (ref 16 0 2 0 0 0 0) (ref 16 0 0 0 0 0 0) (ref 16 0 0 0 0 0 0) (ref 16 0 0 0 0 0 0) ∷ step 8 1 (ref 19 0 2 0 0 0 0) (ref 16 0 2 0 0 0 0) blank blank ∷ []) (step 4 3 (ref 16 0 2 0 0 0 0) (ref 16 0 0 0 0 0 0) (ref 16 0 0 0 0 0 0) (ref 16 0 0 0 0 0 0) ∷ step 8 1 (ref 19 0 2 0 0 0 0) (ref 16 0 2 0 0 0 0) blank blank ∷ []) (step 4 3 (ref 16 0 2 0 0 0 0) (ref 16 0 0 0 0 0 0) (ref 16 0 0 0 0 0 0) (ref 16 0 0 0 0 0 0) ∷ step 8 1 (ref 19 0 2 0 0 0 0) (ref 16 0 2 0 0 0 0) blank blank ∷ []))) ∷
    -- random-1-075-fix-n-any
    walk_vector
    (node 24 0 0 0 0 0 ∷ node 18 0 0 0 0 0 ∷ node 2 0 2 1 0 0 ∷ node 18 0 0 0 0 0 ∷ node 1 0 2 3 2 0 ∷ node 17 1 0 0 0 0 ∷ node 5 0 1 5 0 0 ∷ node 16 1 0 0 0 0 ∷ node 5 0 1 4 0 0 ∷ node 6 0 1 8 0 0 ∷ node 1 0 2 9 6 0 ∷ node 6 0 1 7 0 0 ∷ node 18 2 0 0 0 0 ∷ [])
    (root 11 ∷ root 12 ∷ root 10 ∷ [])
    (1 ∷ 1 ∷ 0 ∷ 2 ∷ 0 ∷ 2 ∷ 0 ∷ 5 ∷ 0 ∷ 0 ∷ 0 ∷ 0 ∷ 0 ∷ 0 ∷ 0 ∷ 1 ∷ 0 ∷ 2 ∷ 0 ∷ 1 ∷ 0 ∷ 1 ∷ 0 ∷ 2 ∷ 0 ∷ 2 ∷ 0 ∷ 0 ∷ 0 ∷ 1 ∷ 0 ∷ 2 ∷ 0 ∷ 1 ∷ 0 ∷ 0 ∷ 0 ∷ 2 ∷ 0 ∷ 1 ∷ 0 ∷ 2 ∷ 0 ∷ 1 ∷ 0 ∷ 0 ∷ 0 ∷ 2 ∷ 0 ∷ 1 ∷ 0 ∷ 2 ∷ 0 ∷ 8 ∷ 0 ∷ 1 ∷ 0 ∷ 2 ∷ [])
    fix_n
    (lists' 9 ([]) ([]) (step 2 2 (ref 19 0 0 0 0 0 0) (ref 17 0 3 0 0 0 0) (ref 36 0 3 0 0 0 0) blank ∷ step 1 2 (ref 32 0 2 0 0 0 0) (ref 21 1 3 0 0 0 0) (ref 25 0 0 3 12 3 18) blank ∷ []))
    (no_more 10) ∷
    -- random-1-076-fix-2ns-generated
    walk_vector
    (node 16 7 0 0 0 0 ∷ node 16 3 0 0 0 0 ∷ node 23 256 0 0 0 0 ∷ node 2 0 2 2 0 0 ∷ node 1 0 2 1 3 0 ∷ node 7 0 1 4 0 0 ∷ node 16 2 0 0 0 0 ∷ node 2 0 2 5 6 0 ∷ node 5 0 1 7 0 0 ∷ [])
    (root 8 ∷ [])
    (1 ∷ 3 ∷ 0 ∷ 7 ∷ 0 ∷ 0 ∷ 0 ∷ 4 ∷ 0 ∷ 2 ∷ 0 ∷ 2 ∷ 0 ∷ 0 ∷ 0 ∷ 0 ∷ 0 ∷ 2 ∷ 0 ∷ 2 ∷ 0 ∷ 0 ∷ 0 ∷ 0 ∷ 0 ∷ 0 ∷ 0 ∷ 0 ∷ 0 ∷ 0 ∷ 0 ∷ 0 ∷ 0 ∷ 0 ∷ 0 ∷ 0 ∷ 0 ∷ 0 ∷ 0 ∷ 0 ∷ 0 ∷ 0 ∷ [])
    fix2ns
    (lists' 8 (step 2 2 (ref 32 0 0 0 0 0 0) (ref 23 0 256 0 0 0 0) (ref 16 0 7 0 0 0 0) blank ∷ step 1 2 (ref 32 0 1 0 0 0 0) (ref 16 0 3 0 0 0 0) (ref 32 0 0 0 0 0 0) blank ∷ step 2 2 (ref 32 0 2 0 0 0 0) (ref 20 0 0 0 0 0 0) (ref 32 0 1 0 0 0 0) blank ∷ step 2 2 (ref 32 0 3 0 0 0 0) (ref 32 0 2 0 0 0 0) (ref 16 0 2 0 0 0 0) blank ∷ step 1 2 (ref 18 0 0 0 0 0 0) (ref 32 0 3 0 0 0 0) (ref 20 0 0 0 0 0 0) blank ∷ step 2 2 (ref 32 0 4 0 0 0 0) (ref 23 0 256 0 0 0 0) (ref 16 1 7 0 0 0 0) blank ∷ step 1 2 (ref 32 0 5 0 0 0 0) (ref 16 1 3 0 0 0 0) (ref 32 0 4 0 0 0 0) blank ∷ step 2 2 (ref 32 0 6 0 0 0 0) (ref 20 0 0 0 0 0 0) (ref 32 0 5 0 0 0 0) blank ∷ step 2 2 (ref 32 0 7 0 0 0 0) (ref 32 0 6 0 0 0 0) (ref 16 1 2 0 0 0 0) blank ∷ step 1 2 (ref 18 1 0 0 0 0 0) (ref 32 0 7 0 0 0 0) (ref 20 0 0 0 0 0 0) blank ∷ []) (step 2 2 (ref 32 0 0 0 0 0 0) (ref 23 0 256 0 0 0 0) (ref 16 0 7 0 0 0 0) blank ∷ step 1 2 (ref 32 0 1 0 0 0 0) (ref 16 0 3 0 0 0 0) (ref 32 0 0 0 0 0 0) blank ∷ step 2 2 (ref 32 0 2 0 0 0 0) (ref 20 0 0 0 0 0 0) (ref 32 0 1 0 0 0 0) blank ∷ step 2 2 (ref 32 0 3 0 0 0 0) (ref 32 0 2 0 0 0 0) (ref 16 0 2 0 0 0 0) blank ∷ step 1 2 (ref 18 0 0 0 0 0 0) (ref 32 0 3 0 0 0 0) (ref 20 0 0 0 0 0 0) blank ∷ step 2 2 (ref 32 0 4 0 0 0 0) (ref 23 0 256 0 0 0 0) (ref 16 1 7 0 0 0 0) blank ∷ step 1 2 (ref 32 0 5 0 0 0 0) (ref 16 1 3 0 0 0 0) (ref 32 0 4 0 0 0 0) blank ∷ step 2 2 (ref 32 0 6 0 0 0 0) (ref 20 0 0 0 0 0 0) (ref 32 0 5 0 0 0 0) blank ∷ step 2 2 (ref 32 0 7 0 0 0 0) (ref 32 0 6 0 0 0 0) (ref 16 1 2 0 0 0 0) blank ∷ step 1 2 (ref 18 1 0 0 0 0 0) (ref 32 0 7 0 0 0 0) (ref 20 0 0 0 0 0 0) blank ∷ []) (step 2 2 (ref 32 0 0 0 0 0 0) (ref 23 0 256 0 0 0 0) (ref 16 0 7 0 0 0 0) blank ∷ step 1 2 (ref 32 0 1 0 0 0 0) (ref 16 0 3 0 0 0 0) (ref 32 0 0 0 0 0 0) blank ∷ step 2 2 (ref 32 0 2 0 0 0 0) (ref 20 0 0 0 0 0 0) (ref 32 0 1 0 0 0 0) blank ∷ step 2 2 (ref 32 0 3 0 0 0 0) (ref 32 0 2 0 0 0 0) (ref 16 0 2 0 0 0 0) blank ∷ step 1 2 (ref 18 0 0 0 0 0 0) (ref 32 0 3 0 0 0 0) (ref 20 0 0 0 0 0 0) blank ∷ step 2 2 (ref 32 0 4 0 0 0 0) (ref 23 0 256 0 0 0 0) (ref 16 1 7 0 0 0 0) blank ∷ step 1 2 (ref 32 0 5 0 0 0 0) (ref 16 1 3 0 0 0 0) (ref 32 0 4 0 0 0 0) blank ∷ step 2 2 (ref 32 0 6 0 0 0 0) (ref 20 0 0 0 0 0 0) (ref 32 0 5 0 0 0 0) blank ∷ step 2 2 (ref 32 0 7 0 0 0 0) (ref 32 0 6 0 0 0 0) (ref 16 1 2 0 0 0 0) blank ∷ step 1 2 (ref 18 1 0 0 0 0 0) (ref 32 0 7 0 0 0 0) (ref 20 0 0 0 0 0 0) blank ∷ []))
    (becomes (lists' 10 (step 2 2 (ref 32 0 0 0 0 0 0) (ref 23 0 256 0 0 0 0) (ref 16 0 7 0 15 0 0) blank ∷ step 1 2 (ref 32 0 1 0 0 0 0) (ref 16 0 3 0 7 0 0) (ref 32 0 0 0 0 0 0) blank ∷ step 2 2 (ref 32 0 2 0 0 0 0) (ref 20 0 0 0 0 0 0) (ref 32 0 1 0 0 0 0) blank ∷ step 2 2 (ref 32 0 3 0 0 0 0) (ref 32 0 2 0 0 0 0) (ref 16 0 2 0 5 0 0) blank ∷ step 1 2 (ref 32 0 8 0 0 0 0) (ref 32 0 3 0 0 0 0) (ref 20 0 0 0 0 0 0) blank ∷ step 2 2 (ref 32 0 4 0 0 0 0) (ref 23 0 256 0 0 0 0) (ref 16 1 7 0 15 0 0) blank ∷ step 1 2 (ref 32 0 5 0 0 0 0) (ref 16 1 3 0 7 0 0) (ref 32 0 4 0 0 0 0) blank ∷ step 2 2 (ref 32 0 6 0 0 0 0) (ref 20 0 0 0 0 0 0) (ref 32 0 5 0 0 0 0) blank ∷ step 2 2 (ref 32 0 7 0 0 0 0) (ref 32 0 6 0 0 0 0) (ref 16 1 2 0 5 0 0) blank ∷ step 1 2 (ref 32 1 9 0 0 0 0) (ref 32 0 7 0 0 0 0) (ref 20 0 0 0 0 0 0) blank ∷ []) (step 2 2 (ref 32 0 0 0 0 0 0) (ref 23 0 256 0 0 0 0) (ref 16 0 7 0 15 0 0) blank ∷ step 1 2 (ref 32 0 1 0 0 0 0) (ref 16 0 3 0 7 0 0) (ref 32 0 0 0 0 0 0) blank ∷ step 2 2 (ref 32 0 2 0 0 0 0) (ref 20 0 0 0 0 0 0) (ref 32 0 1 0 0 0 0) blank ∷ step 2 2 (ref 32 0 3 0 0 0 0) (ref 32 0 2 0 0 0 0) (ref 16 0 2 0 5 0 0) blank ∷ step 1 2 (ref 32 0 8 0 0 0 0) (ref 32 0 3 0 0 0 0) (ref 20 0 0 0 0 0 0) blank ∷ step 2 2 (ref 32 0 4 0 0 0 0) (ref 23 0 256 0 0 0 0) (ref 16 1 7 0 15 0 0) blank ∷ step 1 2 (ref 32 0 5 0 0 0 0) (ref 16 1 3 0 7 0 0) (ref 32 0 4 0 0 0 0) blank ∷ step 2 2 (ref 32 0 6 0 0 0 0) (ref 20 0 0 0 0 0 0) (ref 32 0 5 0 0 0 0) blank ∷ step 2 2 (ref 32 0 7 0 0 0 0) (ref 32 0 6 0 0 0 0) (ref 16 1 2 0 5 0 0) blank ∷ step 1 2 (ref 32 1 9 0 0 0 0) (ref 32 0 7 0 0 0 0) (ref 20 0 0 0 0 0 0) blank ∷ []) (step 2 2 (ref 32 0 0 0 0 0 0) (ref 23 0 256 0 0 0 0) (ref 16 0 7 0 15 0 0) blank ∷ step 1 2 (ref 32 0 1 0 0 0 0) (ref 16 0 3 0 7 0 0) (ref 32 0 0 0 0 0 0) blank ∷ step 2 2 (ref 32 0 2 0 0 0 0) (ref 20 0 0 0 0 0 0) (ref 32 0 1 0 0 0 0) blank ∷ step 2 2 (ref 32 0 3 0 0 0 0) (ref 32 0 2 0 0 0 0) (ref 16 0 2 0 5 0 0) blank ∷ step 1 2 (ref 32 0 8 0 0 0 0) (ref 32 0 3 0 0 0 0) (ref 20 0 0 0 0 0 0) blank ∷ step 2 2 (ref 32 0 4 0 0 0 0) (ref 23 0 256 0 0 0 0) (ref 16 1 7 0 15 0 0) blank ∷ step 1 2 (ref 32 0 5 0 0 0 0) (ref 16 1 3 0 7 0 0) (ref 32 0 4 0 0 0 0) blank ∷ step 2 2 (ref 32 0 6 0 0 0 0) (ref 20 0 0 0 0 0 0) (ref 32 0 5 0 0 0 0) blank ∷ step 2 2 (ref 32 0 7 0 0 0 0) (ref 32 0 6 0 0 0 0) (ref 16 1 2 0 5 0 0) blank ∷ step 1 2 (ref 32 1 9 0 0 0 0) (ref 32 0 7 0 0 0 0) (ref 20 0 0 0 0 0 0) blank ∷ []))) ∷
    -- random-1-077-fix-2ns-any
    walk_vector
    (node 16 8 0 0 0 0 ∷ node 16 1 0 0 0 0 ∷ node 3 0 2 1 0 0 ∷ node 17 0 0 0 0 0 ∷ node 1 0 2 2 3 0 ∷ node 23 2 0 0 0 0 ∷ node 23 0 0 0 0 0 ∷ node 2 0 2 5 6 0 ∷ node 1 0 2 7 4 0 ∷ node 17 1 0 0 0 0 ∷ node 1 0 2 9 8 0 ∷ node 16 6 0 0 0 0 ∷ node 3 0 2 11 10 0 ∷ node 22 65535 0 0 0 0 ∷ node 16 7 0 0 0 0 ∷ node 2 0 2 13 14 0 ∷ node 1 0 2 15 12 0 ∷ node 25 0 0 0 0 0 ∷ node 17 1 0 0 0 0 ∷ node 26 0 0 0 0 0 ∷ node 3 0 2 18 17 0 ∷ node 2 0 2 20 16 0 ∷ node 7 0 1 19 0 0 ∷ [])
    (root 21 ∷ root 22 ∷ [])
    (0 ∷ 4 ∷ 0 ∷ 0 ∷ 0 ∷ 6 ∷ 0 ∷ 6 ∷ 0 ∷ 0 ∷ 0 ∷ 0 ∷ 0 ∷ 0 ∷ 0 ∷ 3 ∷ 0 ∷ 3 ∷ 0 ∷ 0 ∷ 0 ∷ 0 ∷ 0 ∷ 1 ∷ 0 ∷ 1 ∷ 0 ∷ 0 ∷ 0 ∷ 1 ∷ 0 ∷ 1 ∷ 0 ∷ 1 ∷ 0 ∷ 0 ∷ 0 ∷ 1 ∷ 0 ∷ 0 ∷ 0 ∷ 0 ∷ 0 ∷ 1 ∷ 0 ∷ 1 ∷ 0 ∷ 1 ∷ 0 ∷ 1 ∷ 0 ∷ 1 ∷ 0 ∷ 1 ∷ 0 ∷ 0 ∷ 0 ∷ 1 ∷ 0 ∷ 0 ∷ 0 ∷ 1 ∷ 0 ∷ 12 ∷ 0 ∷ 1 ∷ [])
    fix2ns
    (lists' 1 ([]) (step 1 2 (ref 18 0 0 0 0 0 0) (ref 34 0 3 1 0 0 0) (ref 35 0 0 0 18 7 16) blank ∷ step 3 2 (ref 19 1 0 0 0 0 0) (ref 18 0 0 0 0 0 0) (ref 20 0 0 0 0 0 0) blank ∷ step 1 3 (ref 16 0 5 0 0 0 0) (ref 18 0 0 0 0 0 0) (ref 34 1 0 3 0 0 0) (ref 16 0 2 0 0 0 0) ∷ []) ([]))
    (becomes (lists' 2 ([]) (step 1 2 (ref 32 0 1 0 0 0 0) (ref 34 0 3 1 0 0 0) (ref 35 0 0 0 18 7 16) blank ∷ step 3 2 (ref 19 1 0 0 0 0 0) (ref 32 0 1 0 0 0 0) (ref 20 0 0 0 0 0 0) blank ∷ step 1 3 (ref 16 0 5 0 13 0 0) (ref 32 0 1 0 0 0 0) (ref 34 1 0 3 0 0 0) (ref 16 0 2 0 7 0 0) ∷ []) ([]))) ∷
    -- random-1-083-any-walk-plan-refused
    walk_vector
    (node 17 256 0 0 0 0 ∷ node 16 0 0 0 0 0 ∷ node 1 0 2 1 0 0 ∷ node 7 0 1 2 0 0 ∷ node 16 9 0 0 0 0 ∷ node 16 0 0 0 0 0 ∷ node 3 0 2 5 4 0 ∷ node 3 0 2 3 6 0 ∷ node 16 0 0 0 0 0 ∷ node 2 0 2 8 7 0 ∷ node 17 2 0 0 0 0 ∷ node 7 0 1 9 0 0 ∷ node 16 0 0 0 0 0 ∷ node 4 0 3 10 11 12 ∷ node 7 0 1 13 0 0 ∷ node 16 0 0 0 0 0 ∷ node 1 0 2 15 14 0 ∷ node 16 0 0 0 0 0 ∷ node 18 0 0 0 0 0 ∷ node 2 0 2 16 17 0 ∷ node 16 0 0 0 0 0 ∷ node 25 0 0 0 0 0 ∷ node 5 0 1 18 0 0 ∷ [])
    (root 19 ∷ root 22 ∷ root 23 ∷ [])
    (1 ∷ 3 ∷ 0 ∷ 1 ∷ 0 ∷ 4 ∷ 0 ∷ 7 ∷ 0 ∷ 2 ∷ 0 ∷ 2 ∷ 0 ∷ 0 ∷ 0 ∷ 2 ∷ 0 ∷ 2 ∷ 0 ∷ 3 ∷ 0 ∷ 0 ∷ 0 ∷ 2 ∷ 0 ∷ 2 ∷ 0 ∷ 0 ∷ 0 ∷ 2 ∷ 0 ∷ 2 ∷ 0 ∷ 0 ∷ 0 ∷ 0 ∷ 0 ∷ 2 ∷ 0 ∷ 2 ∷ 0 ∷ 1 ∷ 0 ∷ 1 ∷ 0 ∷ 0 ∷ 0 ∷ 0 ∷ 0 ∷ 0 ∷ 0 ∷ 0 ∷ 0 ∷ 0 ∷ 0 ∷ 1 ∷ 0 ∷ 0 ∷ 0 ∷ 0 ∷ 0 ∷ 2 ∷ 0 ∷ 12 ∷ 0 ∷ 2 ∷ 0 ∷ 2 ∷ 0 ∷ 2 ∷ [])
    fix2ns
    (lists' 0 ([]) ([]) ([]))
    (no_more 3) ∷
    -- random-1-092-fix-n-generated
    walk_vector
    (node 22 1 0 0 0 0 ∷ node 16 1 0 0 0 0 ∷ node 3 0 2 0 1 0 ∷ node 16 1 0 0 0 0 ∷ node 1 0 2 2 3 0 ∷ node 16 1 0 0 0 0 ∷ node 17 0 0 0 0 0 ∷ node 26 0 0 0 0 0 ∷ node 3 0 2 6 7 0 ∷ node 17 65535 0 0 0 0 ∷ node 1 0 2 8 4 0 ∷ node 24 0 0 0 0 0 ∷ node 16 1 0 0 0 0 ∷ node 2 0 2 10 12 0 ∷ node 17 65535 0 0 0 0 ∷ node 1 0 2 14 5 0 ∷ node 7 0 1 15 0 0 ∷ [])
    (root 11 ∷ root 9 ∷ root 13 ∷ root 16 ∷ [])
    (24 ∷ 26 ∷ 0 ∷ 2 ∷ 0 ∷ 0 ∷ 0 ∷ 1 ∷ 0 ∷ 1 ∷ 0 ∷ 1 ∷ 0 ∷ 0 ∷ 0 ∷ 0 ∷ 0 ∷ 0 ∷ 0 ∷ 0 ∷ 0 ∷ 1 ∷ 0 ∷ 3 ∷ 0 ∷ 3 ∷ 0 ∷ 3 ∷ 0 ∷ 2 ∷ 0 ∷ 10 ∷ 0 ∷ 10 ∷ 0 ∷ 9 ∷ 0 ∷ 2 ∷ 0 ∷ 3 ∷ 0 ∷ 3 ∷ [])
    fix_n
    (lists' 4 (step 3 2 (ref 32 0 0 0 0 0 0) (ref 17 1 0 0 0 0 0) (ref 26 0 0 0 0 0 0) blank ∷ step 3 2 (ref 32 0 1 0 0 0 0) (ref 22 0 1 0 0 0 0) (ref 16 0 1 0 0 0 0) blank ∷ step 1 2 (ref 32 0 2 0 0 0 0) (ref 32 0 1 0 0 0 0) (ref 16 0 1 0 0 0 0) blank ∷ step 1 2 (ref 32 0 3 0 0 0 0) (ref 32 0 0 0 0 0 0) (ref 32 0 2 0 0 0 0) blank ∷ step 2 2 (ref 18 0 2 0 0 0 0) (ref 32 0 3 0 0 0 0) (ref 16 0 1 0 0 0 0) blank ∷ step 8 1 (ref 34 0 2 0 0 0 0) (ref 18 0 2 0 0 0 0) blank blank ∷ []) (step 3 2 (ref 32 0 0 0 0 0 0) (ref 17 1 0 0 0 0 0) (ref 26 0 0 0 0 0 0) blank ∷ step 3 2 (ref 32 0 1 0 0 0 0) (ref 22 0 1 0 0 0 0) (ref 16 0 1 0 0 0 0) blank ∷ step 1 2 (ref 32 0 2 0 0 0 0) (ref 32 0 1 0 0 0 0) (ref 16 0 1 0 0 0 0) blank ∷ step 1 2 (ref 32 0 3 0 0 0 0) (ref 32 0 0 0 0 0 0) (ref 32 0 2 0 0 0 0) blank ∷ step 2 2 (ref 18 0 2 0 0 0 0) (ref 32 0 3 0 0 0 0) (ref 16 0 1 0 0 0 0) blank ∷ step 8 1 (ref 34 0 2 0 0 0 0) (ref 18 0 2 0 0 0 0) blank blank ∷ []) (step 3 2 (ref 32 0 0 0 0 0 0) (ref 17 1 0 0 0 0 0) (ref 26 0 0 0 0 0 0) blank ∷ step 3 2 (ref 32 0 1 0 0 0 0) (ref 22 0 1 0 0 0 0) (ref 16 0 1 0 0 0 0) blank ∷ step 1 2 (ref 32 0 2 0 0 0 0) (ref 32 0 1 0 0 0 0) (ref 16 0 1 0 0 0 0) blank ∷ step 1 2 (ref 32 0 3 0 0 0 0) (ref 32 0 0 0 0 0 0) (ref 32 0 2 0 0 0 0) blank ∷ step 2 2 (ref 18 0 2 0 0 0 0) (ref 32 0 3 0 0 0 0) (ref 16 0 1 0 0 0 0) blank ∷ step 8 1 (ref 34 0 2 0 0 0 0) (ref 18 0 2 0 0 0 0) blank blank ∷ []))
    (becomes (lists' 5 (step 3 2 (ref 32 0 0 0 0 0 0) (ref 17 1 0 0 0 0 0) (ref 26 0 0 0 0 0 0) blank ∷ step 3 2 (ref 32 0 1 0 0 0 0) (ref 22 0 1 0 0 0 0) (ref 16 0 1 0 2 0 0) blank ∷ step 1 2 (ref 32 0 2 0 0 0 0) (ref 32 0 1 0 0 0 0) (ref 16 0 1 0 2 0 0) blank ∷ step 1 2 (ref 32 0 3 0 0 0 0) (ref 32 0 0 0 0 0 0) (ref 32 0 2 0 0 0 0) blank ∷ step 2 2 (ref 32 0 4 0 0 0 2) (ref 32 0 3 0 0 0 0) (ref 16 0 1 0 2 0 0) blank ∷ step 8 1 (ref 34 0 2 0 0 0 0) (ref 32 0 4 0 0 0 2) blank blank ∷ []) (step 3 2 (ref 32 0 0 0 0 0 0) (ref 17 1 0 0 0 0 0) (ref 26 0 0 0 0 0 0) blank ∷ step 3 2 (ref 32 0 1 0 0 0 0) (ref 22 0 1 0 0 0 0) (ref 16 0 1 0 2 0 0) blank ∷ step 1 2 (ref 32 0 2 0 0 0 0) (ref 32 0 1 0 0 0 0) (ref 16 0 1 0 2 0 0) blank ∷ step 1 2 (ref 32 0 3 0 0 0 0) (ref 32 0 0 0 0 0 0) (ref 32 0 2 0 0 0 0) blank ∷ step 2 2 (ref 32 0 4 0 0 0 2) (ref 32 0 3 0 0 0 0) (ref 16 0 1 0 2 0 0) blank ∷ step 8 1 (ref 34 0 2 0 0 0 0) (ref 32 0 4 0 0 0 2) blank blank ∷ []) (step 3 2 (ref 32 0 0 0 0 0 0) (ref 17 1 0 0 0 0 0) (ref 26 0 0 0 0 0 0) blank ∷ step 3 2 (ref 32 0 1 0 0 0 0) (ref 22 0 1 0 0 0 0) (ref 16 0 1 0 2 0 0) blank ∷ step 1 2 (ref 32 0 2 0 0 0 0) (ref 32 0 1 0 0 0 0) (ref 16 0 1 0 2 0 0) blank ∷ step 1 2 (ref 32 0 3 0 0 0 0) (ref 32 0 0 0 0 0 0) (ref 32 0 2 0 0 0 0) blank ∷ step 2 2 (ref 32 0 4 0 0 0 2) (ref 32 0 3 0 0 0 0) (ref 16 0 1 0 2 0 0) blank ∷ step 8 1 (ref 34 0 2 0 0 0 0) (ref 32 0 4 0 0 0 2) blank blank ∷ []))) ∷
    -- random-1-093-fix-n-any
    walk_vector
    (node 17 0 0 0 0 0 ∷ node 20 0 0 0 0 0 ∷ node 22 2 0 0 0 0 ∷ node 22 1 0 0 0 0 ∷ node 3 0 2 0 1 0 ∷ node 4 0 3 3 4 2 ∷ node 20 0 0 0 0 0 ∷ node 6 0 1 6 0 0 ∷ node 1 0 2 7 5 0 ∷ node 5 0 1 8 0 0 ∷ node 16 0 0 0 0 0 ∷ node 25 0 0 0 0 0 ∷ node 3 0 2 10 11 0 ∷ node 1 0 2 12 9 0 ∷ node 16 0 0 0 0 0 ∷ node 1 0 2 14 13 0 ∷ node 21 0 0 0 0 0 ∷ node 18 0 0 0 0 0 ∷ node 17 1 0 0 0 0 ∷ node 3 0 2 16 15 0 ∷ node 5 0 1 18 0 0 ∷ [])
    (root 19 ∷ root 17 ∷ [])
    (0 ∷ 2 ∷ 0 ∷ 3 ∷ 0 ∷ 6 ∷ 0 ∷ 7 ∷ 0 ∷ 2 ∷ 0 ∷ 2 ∷ 0 ∷ 1 ∷ 0 ∷ 3 ∷ 0 ∷ 1 ∷ 0 ∷ 2 ∷ 0 ∷ 1 ∷ 0 ∷ 0 ∷ 0 ∷ 0 ∷ 0 ∷ 0 ∷ 0 ∷ 0 ∷ 0 ∷ 1 ∷ 0 ∷ 1 ∷ 0 ∷ 1 ∷ 0 ∷ 1 ∷ 0 ∷ 1 ∷ 0 ∷ 1 ∷ 0 ∷ 1 ∷ 0 ∷ 0 ∷ 0 ∷ 1 ∷ 0 ∷ 1 ∷ 0 ∷ 0 ∷ 0 ∷ 1 ∷ 0 ∷ 1 ∷ 0 ∷ 0 ∷ 0 ∷ 1 ∷ 0 ∷ 0 ∷ 0 ∷ 0 ∷ 0 ∷ 15 ∷ [])
    fix_n
    (lists' 65534 (step 3 2 (ref 34 0 3 3 0 0 0) (ref 35 0 3 0 0 0 0) (ref 17 0 0 0 0 0 0) blank ∷ step 8 1 (ref 32 1 2 0 0 0 0) (ref 20 0 0 0 0 0 0) blank blank ∷ step 2 2 (ref 32 1 1 0 0 0 0) (ref 25 0 0 0 0 0 0) (ref 17 0 2 0 0 0 0) blank ∷ []) ([]) (step 2 2 (ref 16 0 2 0 0 0 0) (ref 32 1 1 0 0 0 0) (ref 16 0 10 0 0 0 0) blank ∷ step 2 2 (ref 32 0 0 0 0 0 0) (ref 24 0 0 0 7 1 1) (ref 16 1 14 0 0 0 0) blank ∷ step 1 2 (ref 16 1 0 0 0 0 0) (ref 24 0 0 0 0 0 0) (ref 32 0 0 0 0 0 0) blank ∷ []))
    (becomes (lists' 65534 (step 3 2 (ref 34 0 3 3 0 0 0) (ref 35 0 3 0 0 0 0) (ref 17 0 0 0 0 0 0) blank ∷ step 8 1 (ref 32 1 2 0 0 0 0) (ref 20 0 0 0 0 0 0) blank blank ∷ step 2 2 (ref 32 1 1 0 0 0 0) (ref 25 0 0 0 0 0 0) (ref 17 0 2 0 0 0 0) blank ∷ []) ([]) (step 2 2 (ref 16 0 2 0 4 0 0) (ref 32 1 1 0 0 0 0) (ref 16 0 10 0 21 0 0) blank ∷ step 2 2 (ref 32 0 0 0 0 0 0) (ref 24 0 0 0 7 1 1) (ref 16 1 14 0 29 0 0) blank ∷ step 1 2 (ref 16 1 0 0 0 0 0) (ref 24 0 0 0 0 0 0) (ref 32 0 0 0 0 0 0) blank ∷ []))) ∷
    -- random-1-095-fix-2ns-any
    walk_vector
    (node 16 0 0 0 0 0 ∷ node 18 0 0 0 0 0 ∷ node 25 0 0 0 0 0 ∷ node 16 0 0 0 0 0 ∷ node 2 0 2 2 0 0 ∷ node 7 0 1 4 0 0 ∷ node 6 0 1 1 0 0 ∷ node 26 0 0 0 0 0 ∷ node 1 0 2 6 7 0 ∷ [])
    (root 3 ∷ root 5 ∷ [])
    (1 ∷ 5 ∷ 0 ∷ 1 ∷ 0 ∷ 0 ∷ 0 ∷ 0 ∷ 0 ∷ 3 ∷ 0 ∷ 3 ∷ 0 ∷ 1 ∷ 0 ∷ 0 ∷ 0 ∷ 0 ∷ 0 ∷ 0 ∷ 0 ∷ 0 ∷ 0 ∷ 0 ∷ 0 ∷ 0 ∷ [])
    fix2ns
    (lists' 9 (step 2 2 (ref 33 0 3 0 0 0 0) (ref 22 0 1 0 0 0 0) (ref 16 0 2 4 10 6 11) blank ∷ []) ([]) (step 3 2 (ref 33 0 1 0 0 0 0) (ref 24 0 0 0 0 0 0) (ref 35 0 3 0 0 0 0) blank ∷ step 4 3 (ref 32 0 0 0 0 0 0) (ref 25 0 0 0 0 0 0) (ref 25 0 0 0 0 0 0) (ref 21 0 2 0 0 0 0) ∷ []))
    (becomes (lists' 9 (step 2 2 (ref 33 0 3 0 0 0 0) (ref 22 0 1 0 0 0 0) (ref 16 0 2 4 5 6 11) blank ∷ []) ([]) (step 3 2 (ref 33 0 1 0 0 0 0) (ref 24 0 0 0 0 0 0) (ref 35 0 3 0 0 0 0) blank ∷ step 4 3 (ref 32 0 0 0 0 0 0) (ref 25 0 0 0 0 0 0) (ref 25 0 0 0 0 0 0) (ref 21 0 2 0 0 0 0) ∷ []))) ∷
    -- random-1-110-fix-n-generated
    walk_vector
    (node 17 0 0 0 0 0 ∷ node 16 2 0 0 0 0 ∷ node 16 0 0 0 0 0 ∷ node 3 0 2 0 1 0 ∷ node 16 3 0 0 0 0 ∷ node 16 0 0 0 0 0 ∷ node 18 0 0 0 0 0 ∷ node 2 0 2 3 5 0 ∷ node 18 1 0 0 0 0 ∷ node 1 0 2 6 4 0 ∷ node 23 1 0 0 0 0 ∷ node 1 0 2 2 7 0 ∷ node 22 0 0 0 0 0 ∷ node 3 0 2 9 8 0 ∷ node 5 0 1 13 0 0 ∷ node 3 0 2 12 11 0 ∷ [])
    (root 10 ∷ root 15 ∷ [])
    (10 ∷ 12 ∷ 0 ∷ 4 ∷ 0 ∷ 0 ∷ 0 ∷ 3 ∷ 0 ∷ 2 ∷ 0 ∷ 2 ∷ 0 ∷ 0 ∷ 0 ∷ 0 ∷ 0 ∷ 1 ∷ 0 ∷ 2 ∷ 0 ∷ 0 ∷ 0 ∷ 2 ∷ 0 ∷ 2 ∷ 0 ∷ 1 ∷ 0 ∷ 0 ∷ 0 ∷ 0 ∷ 0 ∷ 1 ∷ 0 ∷ 1 ∷ 0 ∷ 1 ∷ 0 ∷ 20 ∷ 0 ∷ 16 ∷ 0 ∷ 1 ∷ 0 ∷ 0 ∷ [])
    fix_n
    (lists' 3 (step 3 2 (ref 32 0 0 0 0 0 0) (ref 17 0 0 0 0 0 0) (ref 16 0 2 0 0 0 0) blank ∷ step 2 2 (ref 32 0 1 0 0 0 0) (ref 32 0 0 0 0 0 0) (ref 16 0 0 0 0 0 0) blank ∷ step 1 2 (ref 32 0 2 0 0 0 0) (ref 16 0 0 0 0 0 0) (ref 32 0 1 0 0 0 0) blank ∷ step 3 2 (ref 18 0 1 0 0 0 0) (ref 22 0 0 0 0 0 0) (ref 32 0 2 0 0 0 0) blank ∷ []) (step 3 2 (ref 32 0 0 0 0 0 0) (ref 17 0 0 0 0 0 0) (ref 16 0 2 0 0 0 0) blank ∷ step 2 2 (ref 32 0 1 0 0 0 0) (ref 32 0 0 0 0 0 0) (ref 16 0 0 0 0 0 0) blank ∷ step 1 2 (ref 32 0 2 0 0 0 0) (ref 16 0 0 0 0 0 0) (ref 32 0 1 0 0 0 0) blank ∷ step 3 2 (ref 18 0 1 0 0 0 0) (ref 22 0 0 0 0 0 0) (ref 32 0 2 0 0 0 0) blank ∷ []) (step 3 2 (ref 32 0 0 0 0 0 0) (ref 17 0 0 0 0 0 0) (ref 16 0 2 0 0 0 0) blank ∷ step 2 2 (ref 32 0 1 0 0 0 0) (ref 32 0 0 0 0 0 0) (ref 16 0 0 0 0 0 0) blank ∷ step 1 2 (ref 32 0 2 0 0 0 0) (ref 16 0 0 0 0 0 0) (ref 32 0 1 0 0 0 0) blank ∷ step 3 2 (ref 18 0 1 0 0 0 0) (ref 22 0 0 0 0 0 0) (ref 32 0 2 0 0 0 0) blank ∷ []))
    (becomes (lists' 3 (step 3 2 (ref 32 0 0 0 0 0 0) (ref 17 0 0 0 0 0 0) (ref 16 0 2 0 4 0 0) blank ∷ step 2 2 (ref 32 0 1 0 0 0 0) (ref 32 0 0 0 0 0 0) (ref 16 0 0 0 0 0 0) blank ∷ step 1 2 (ref 32 0 2 0 0 0 0) (ref 16 0 0 0 0 0 0) (ref 32 0 1 0 0 0 0) blank ∷ step 3 2 (ref 34 0 0 3 0 0 0) (ref 22 0 0 0 0 0 0) (ref 32 0 2 0 0 0 0) blank ∷ []) (step 3 2 (ref 32 0 0 0 0 0 0) (ref 17 0 0 0 0 0 0) (ref 16 0 2 0 4 0 0) blank ∷ step 2 2 (ref 32 0 1 0 0 0 0) (ref 32 0 0 0 0 0 0) (ref 16 0 0 0 0 0 0) blank ∷ step 1 2 (ref 32 0 2 0 0 0 0) (ref 16 0 0 0 0 0 0) (ref 32 0 1 0 0 0 0) blank ∷ step 3 2 (ref 34 0 0 3 0 0 0) (ref 22 0 0 0 0 0 0) (ref 32 0 2 0 0 0 0) blank ∷ []) (step 3 2 (ref 32 0 0 0 0 0 0) (ref 17 0 0 0 0 0 0) (ref 16 0 2 0 4 0 0) blank ∷ step 2 2 (ref 32 0 1 0 0 0 0) (ref 32 0 0 0 0 0 0) (ref 16 0 0 0 0 0 0) blank ∷ step 1 2 (ref 32 0 2 0 0 0 0) (ref 16 0 0 0 0 0 0) (ref 32 0 1 0 0 0 0) blank ∷ step 3 2 (ref 34 0 0 3 0 0 0) (ref 22 0 0 0 0 0 0) (ref 32 0 2 0 0 0 0) blank ∷ []))) ∷
    -- random-1-111-fix-n-any
    walk_vector
    (node 24 0 0 0 0 0 ∷ node 17 65535 0 0 0 0 ∷ node 16 6 0 0 0 0 ∷ node 5 0 1 2 0 0 ∷ node 3 0 2 3 1 0 ∷ [])
    (root 0 ∷ [])
    (0 ∷ 0 ∷ 0 ∷ 7 ∷ 0 ∷ 2 ∷ 0 ∷ 1 ∷ 0 ∷ 2 ∷ 0 ∷ 2 ∷ 0 ∷ 0 ∷ 0 ∷ 1 ∷ 0 ∷ 0 ∷ 0 ∷ 0 ∷ 0 ∷ 0 ∷ 0 ∷ 2 ∷ 0 ∷ 2 ∷ 0 ∷ 0 ∷ 0 ∷ 0 ∷ 0 ∷ 0 ∷ 0 ∷ 0 ∷ 0 ∷ 25 ∷ 0 ∷ 14 ∷ 0 ∷ 0 ∷ 0 ∷ 0 ∷ [])
    fix_n
    (lists' 0 ([]) (step 2 2 (ref 34 1 1 3 0 0 0) (ref 17 1 0 0 0 0 0) (ref 16 0 9 0 0 0 0) blank ∷ step 8 3 (ref 16 0 1 0 0 0 0) (ref 22 0 2 0 0 0 0) (ref 21 1 1 0 0 0 0) (ref 26 1 0 0 0 0 0) ∷ step 3 2 (ref 19 1 0 0 0 0 0) (ref 16 0 2 0 0 0 0) (ref 22 1 1 0 0 0 0) blank ∷ []) (step 1 2 (ref 32 1 3 0 0 0 0) (ref 26 0 0 0 0 0 0) (ref 16 0 8 0 0 0 0) blank ∷ []))
    (becomes (lists' 0 ([]) (step 2 2 (ref 34 1 1 3 0 0 0) (ref 17 1 0 0 0 0 0) (ref 16 0 9 0 19 0 0) blank ∷ step 8 3 (ref 16 0 1 0 2 0 0) (ref 22 0 2 0 0 0 0) (ref 21 1 1 0 0 0 0) (ref 26 1 0 0 0 0 0) ∷ step 3 2 (ref 19 1 0 0 0 0 0) (ref 16 0 2 0 4 0 0) (ref 22 1 1 0 0 0 0) blank ∷ []) (step 1 2 (ref 32 1 3 0 0 0 0) (ref 26 0 0 0 0 0 0) (ref 16 0 8 0 16 0 0) blank ∷ []))) ∷
    -- random-1-112-fix-2ns-generated
    walk_vector
    (node 18 0 0 0 0 0 ∷ node 5 0 1 0 0 0 ∷ node 16 0 0 0 0 0 ∷ node 3 0 2 1 2 0 ∷ node 23 1 0 0 0 0 ∷ node 2 0 2 4 3 0 ∷ node 23 256 0 0 0 0 ∷ node 16 0 0 0 0 0 ∷ node 23 2 0 0 0 0 ∷ node 6 0 1 7 0 0 ∷ node 2 0 2 8 9 0 ∷ [])
    (root 10 ∷ [])
    (3 ∷ 6 ∷ 0 ∷ 1 ∷ 0 ∷ 0 ∷ 0 ∷ 3 ∷ 0 ∷ 2 ∷ 0 ∷ 2 ∷ 0 ∷ 0 ∷ 0 ∷ 0 ∷ 0 ∷ 0 ∷ 0 ∷ 2 ∷ 0 ∷ 1 ∷ 0 ∷ 3 ∷ 0 ∷ 3 ∷ 0 ∷ 0 ∷ 0 ∷ 0 ∷ 0 ∷ 0 ∷ 0 ∷ 0 ∷ 0 ∷ 0 ∷ 0 ∷ 3 ∷ 0 ∷ 1 ∷ 0 ∷ 10 ∷ 0 ∷ 7 ∷ 0 ∷ 0 ∷ 0 ∷ 0 ∷ 0 ∷ 0 ∷ [])
    fix2ns
    (lists' 2 (step 3 2 (ref 32 0 0 0 0 0 0) (ref 16 1 0 0 0 0 0) (ref 20 0 0 0 0 0 0) blank ∷ step 2 2 (ref 18 1 0 0 0 0 0) (ref 23 0 2 0 0 0 0) (ref 32 0 0 0 0 0 0) blank ∷ step 3 2 (ref 32 0 1 0 0 0 0) (ref 16 0 0 0 0 0 0) (ref 20 0 0 0 0 0 0) blank ∷ step 2 2 (ref 18 0 0 0 0 0 0) (ref 23 0 2 0 0 0 0) (ref 32 0 1 0 0 0 0) blank ∷ []) (step 3 2 (ref 32 0 0 0 0 0 0) (ref 16 1 0 0 0 0 0) (ref 20 0 0 0 0 0 0) blank ∷ step 2 2 (ref 18 1 0 0 0 0 0) (ref 23 0 2 0 0 0 0) (ref 32 0 0 0 0 0 0) blank ∷ step 3 2 (ref 32 0 1 0 0 0 0) (ref 16 0 0 0 0 0 0) (ref 20 0 0 0 0 0 0) blank ∷ step 2 2 (ref 18 0 0 0 0 0 0) (ref 23 0 2 0 0 0 0) (ref 32 0 1 0 0 0 0) blank ∷ []) (step 3 2 (ref 32 0 1 0 0 0 0) (ref 16 0 0 0 0 0 0) (ref 20 0 0 0 0 0 0) blank ∷ step 2 2 (ref 18 0 0 0 0 0 0) (ref 23 0 2 0 0 0 0) (ref 32 0 1 0 0 0 0) blank ∷ []))
    (becomes (lists' 2 (step 3 2 (ref 32 0 0 0 0 0 0) (ref 16 1 0 0 1 0 0) (ref 20 0 0 0 0 0 0) blank ∷ step 2 2 (ref 16 1 3 0 0 0 0) (ref 23 0 2 0 0 0 0) (ref 32 0 0 0 0 0 0) blank ∷ step 3 2 (ref 32 0 1 0 0 0 0) (ref 16 0 0 0 1 0 0) (ref 20 0 0 0 0 0 0) blank ∷ step 2 2 (ref 16 0 3 0 0 0 0) (ref 23 0 2 0 0 0 0) (ref 32 0 1 0 0 0 0) blank ∷ []) (step 3 2 (ref 32 0 0 0 0 0 0) (ref 16 1 0 0 1 0 0) (ref 20 0 0 0 0 0 0) blank ∷ step 2 2 (ref 16 1 3 0 0 0 0) (ref 23 0 2 0 0 0 0) (ref 32 0 0 0 0 0 0) blank ∷ step 3 2 (ref 32 0 1 0 0 0 0) (ref 16 0 0 0 1 0 0) (ref 20 0 0 0 0 0 0) blank ∷ step 2 2 (ref 16 0 3 0 0 0 0) (ref 23 0 2 0 0 0 0) (ref 32 0 1 0 0 0 0) blank ∷ []) (step 3 2 (ref 32 0 1 0 0 0 0) (ref 16 0 0 0 1 0 0) (ref 20 0 0 0 0 0 0) blank ∷ step 2 2 (ref 16 0 3 0 0 0 0) (ref 23 0 2 0 0 0 0) (ref 32 0 1 0 0 0 0) blank ∷ []))) ∷
    -- random-1-113-any-walk-plan-refused
    walk_vector
    (node 22 3 0 0 0 0 ∷ node 16 0 0 0 0 0 ∷ node 1 0 2 1 0 0 ∷ node 6 0 1 2 0 0 ∷ node 17 1 0 0 0 0 ∷ node 2 0 3 3 4 3 ∷ [])
    (root 5 ∷ [])
    (3 ∷ 7 ∷ 0 ∷ 1 ∷ 0 ∷ 2 ∷ 0 ∷ 4 ∷ 0 ∷ 2 ∷ 0 ∷ 3 ∷ 0 ∷ 0 ∷ 0 ∷ 1 ∷ 0 ∷ 1 ∷ 0 ∷ 2 ∷ 0 ∷ 0 ∷ 0 ∷ 2 ∷ 0 ∷ 2 ∷ 0 ∷ 0 ∷ 0 ∷ 0 ∷ 0 ∷ 0 ∷ 0 ∷ 0 ∷ 0 ∷ 0 ∷ 0 ∷ 0 ∷ 0 ∷ 0 ∷ 0 ∷ 0 ∷ 0 ∷ 0 ∷ 0 ∷ 0 ∷ 0 ∷ 16 ∷ 0 ∷ 9 ∷ 0 ∷ 0 ∷ 0 ∷ 0 ∷ [])
    fix_n
    (lists' 0 ([]) ([]) ([]))
    (no_more 2) ∷
    -- random-1-115-any-walk-plan-refused
    walk_vector
    (node 16 0 0 0 0 0 ∷ node 16 5 0 0 0 0 ∷ node 17 65535 0 0 0 0 ∷ node 5 0 1 1 0 0 ∷ node 16 0 0 0 0 0 ∷ node 1 0 1 0 0 0 ∷ node 1 0 2 2 4 0 ∷ node 16 1 0 0 0 0 ∷ node 26 0 0 0 0 0 ∷ node 16 0 0 0 0 0 ∷ node 4 0 3 8 7 9 ∷ node 4 0 3 10 6 5 ∷ node 7 0 1 11 0 0 ∷ node 18 0 0 0 0 0 ∷ [])
    (root 12 ∷ [])
    (3 ∷ 7 ∷ 0 ∷ 2 ∷ 0 ∷ 2 ∷ 0 ∷ 1 ∷ 0 ∷ [])
    fix2ns
    (lists' 0 ([]) ([]) ([]))
    (no_more 1) ∷
    -- random-1-119-any-walk-plan-refused
    walk_vector
    (node 25 0 0 0 0 0 ∷ node 16 0 0 0 0 0 ∷ node 16 8 0 0 0 0 ∷ node 3 0 2 2 1 0 ∷ node 18 0 0 0 0 0 ∷ node 7 0 1 3 0 0 ∷ node 3 0 2 4 0 0 ∷ node 16 0 0 0 0 0 ∷ node 16 4 0 0 0 0 ∷ node 3 0 2 8 7 0 ∷ node 16 0 0 0 0 0 ∷ node 17 0 0 0 0 0 ∷ node 7 0 1 5 0 0 ∷ node 4 0 3 9 12 10 ∷ node 7 0 1 6 0 0 ∷ [])
    (root 15 ∷ [])
    (0 ∷ 1 ∷ 0 ∷ 1 ∷ 0 ∷ 4 ∷ 0 ∷ 6 ∷ 0 ∷ 0 ∷ 0 ∷ 0 ∷ 0 ∷ 0 ∷ 0 ∷ 2 ∷ 0 ∷ 1 ∷ 0 ∷ 2 ∷ 0 ∷ 1 ∷ 0 ∷ 0 ∷ 0 ∷ 0 ∷ 0 ∷ 0 ∷ 0 ∷ 0 ∷ 0 ∷ 0 ∷ 0 ∷ 0 ∷ 0 ∷ 0 ∷ 0 ∷ 0 ∷ 0 ∷ 0 ∷ 0 ∷ 0 ∷ 0 ∷ 0 ∷ 0 ∷ 0 ∷ 0 ∷ 0 ∷ 0 ∷ 0 ∷ 0 ∷ 0 ∷ 0 ∷ 0 ∷ 0 ∷ 0 ∷ 0 ∷ 10 ∷ [])
    fix2ns
    (lists' 0 ([]) ([]) ([]))
    (no_more 3) ∷
    -- random-1-127-any-walk-plan-refused
    walk_vector
    (node 16 0 0 0 0 0 ∷ node 6 0 1 0 0 0 ∷ node 6 0 1 1 0 0 ∷ node 16 0 0 0 0 0 ∷ node 16 0 0 0 0 0 ∷ node 16 0 0 0 0 0 ∷ node 3 0 2 2 5 0 ∷ node 1 0 2 6 3 0 ∷ node 1 0 2 4 7 0 ∷ node 16 0 0 0 0 0 ∷ node 21 1 0 0 0 0 ∷ node 16 0 0 0 0 0 ∷ node 1 0 2 10 9 0 ∷ node 3 0 2 11 12 0 ∷ node 2 0 2 13 8 0 ∷ node 5 0 1 14 0 0 ∷ node 22 0 0 0 0 0 ∷ node 3 0 2 16 15 0 ∷ node 16 0 0 0 0 0 ∷ node 3 0 2 17 18 0 ∷ node 26 0 0 0 0 0 ∷ node 2 0 2 19 20 0 ∷ node 18 0 0 0 0 0 ∷ [])
    (root 21 ∷ root 22 ∷ [])
    (24 ∷ 23 ∷ 7 ∷ 253 ∷ 0 ∷ 0 ∷ 0 ∷ 0 ∷ 0 ∷ 3 ∷ 0 ∷ 3 ∷ 0 ∷ 1 ∷ 0 ∷ 0 ∷ 0 ∷ 0 ∷ 0 ∷ 0 ∷ 0 ∷ 0 ∷ 0 ∷ 1 ∷ 0 ∷ 1 ∷ 0 ∷ 3 ∷ 0 ∷ 1 ∷ [])
    fix_n
    (lists' 0 ([]) ([]) ([]))
    (no_more 9) ∷
    -- random-1-129-fix-n-any
    walk_vector
    (node 25 0 0 0 0 0 ∷ node 7 0 1 0 0 0 ∷ node 23 0 0 0 0 0 ∷ node 7 0 1 2 0 0 ∷ node 18 0 0 0 0 0 ∷ node 21 2 0 0 0 0 ∷ node 3 0 2 3 4 0 ∷ node 3 0 2 6 5 0 ∷ node 16 6 0 0 0 0 ∷ node 17 1 0 0 0 0 ∷ node 3 0 2 8 9 0 ∷ node 3 0 2 10 7 0 ∷ node 3 0 2 1 11 0 ∷ node 6 0 1 12 0 0 ∷ node 16 4 0 0 0 0 ∷ node 17 3 0 0 0 0 ∷ node 6 0 1 14 0 0 ∷ node 17 0 0 0 0 0 ∷ node 1 0 2 17 16 0 ∷ node 17 0 0 0 0 0 ∷ node 2 0 2 19 13 0 ∷ node 1 0 2 20 15 0 ∷ [])
    (root 18 ∷ root 21 ∷ [])
    (1 ∷ 4 ∷ 0 ∷ 7 ∷ 0 ∷ 4 ∷ 0 ∷ 3 ∷ 0 ∷ 2 ∷ 0 ∷ 2 ∷ 0 ∷ 1 ∷ 0 ∷ 2 ∷ 0 ∷ 1 ∷ 0 ∷ 0 ∷ 0 ∷ 0 ∷ 0 ∷ 1 ∷ 0 ∷ 1 ∷ 0 ∷ 1 ∷ 0 ∷ 0 ∷ 0 ∷ 0 ∷ 0 ∷ 1 ∷ 0 ∷ 1 ∷ 0 ∷ 1 ∷ 0 ∷ 0 ∷ 0 ∷ 0 ∷ 0 ∷ 1 ∷ 0 ∷ 1 ∷ 0 ∷ 19 ∷ 0 ∷ 0 ∷ [])
    fix_n
    (lists' 1 (step 3 2 (ref 34 0 3 3 0 0 0) (ref 17 0 2 0 0 0 0) (ref 26 1 0 0 15 18 5) blank ∷ step 1 2 (ref 32 1 1 0 0 0 0) (ref 16 0 16 2 16 0 8) (ref 35 0 1 0 0 0 0) blank ∷ []) (step 4 3 (ref 18 0 0 0 0 0 0) (ref 17 0 3 0 0 0 0) (ref 32 1 1 0 0 0 0) (ref 23 1 3 0 0 0 0) ∷ step 1 2 (ref 18 0 0 0 0 0 0) (ref 18 0 1 0 0 0 0) (ref 25 1 0 0 0 0 0) blank ∷ step 4 3 (ref 32 0 3 0 0 0 0) (ref 18 0 0 0 0 0 0) (ref 24 0 0 0 0 0 0) (ref 24 0 0 0 0 0 0) ∷ []) ([]))
    (no_more 3) ∷
    -- random-1-130-fix-2ns-generated
    walk_vector
    (node 18 0 0 0 0 0 ∷ node 18 0 0 0 0 0 ∷ node 2 0 2 1 0 0 ∷ node 16 2 0 0 0 0 ∷ node 16 2 0 0 0 0 ∷ node 17 0 0 0 0 0 ∷ node 16 2 0 0 0 0 ∷ node 16 1 0 0 0 0 ∷ node 1 0 2 2 5 0 ∷ node 1 0 2 8 6 0 ∷ node 2 0 2 7 4 0 ∷ node 1 0 2 3 10 0 ∷ [])
    (root 11 ∷ [])
    (1 ∷ 3 ∷ 0 ∷ 3 ∷ 0 ∷ 2 ∷ 0 ∷ 2 ∷ 0 ∷ 1 ∷ 0 ∷ 1 ∷ 0 ∷ 0 ∷ 0 ∷ 1 ∷ 0 ∷ 0 ∷ 0 ∷ 1 ∷ 0 ∷ 0 ∷ 0 ∷ 0 ∷ 0 ∷ 0 ∷ 0 ∷ 0 ∷ 0 ∷ 0 ∷ 0 ∷ 0 ∷ 0 ∷ 0 ∷ 0 ∷ 0 ∷ 0 ∷ 0 ∷ [])
    fix2ns
    (lists' 1 (step 2 2 (ref 32 0 0 0 0 0 0) (ref 16 0 1 0 0 0 0) (ref 16 0 2 0 0 0 0) blank ∷ step 1 2 (ref 18 0 0 0 0 0 0) (ref 16 0 2 0 0 0 0) (ref 32 0 0 0 0 0 0) blank ∷ step 8 1 (ref 34 0 3 0 0 0 0) (ref 18 0 0 0 0 0 0) blank blank ∷ []) (step 2 2 (ref 32 0 0 0 0 0 0) (ref 16 0 1 0 0 0 0) (ref 16 0 2 0 0 0 0) blank ∷ step 1 2 (ref 18 0 0 0 0 0 0) (ref 16 0 2 0 0 0 0) (ref 32 0 0 0 0 0 0) blank ∷ step 8 1 (ref 34 0 3 0 0 0 0) (ref 18 0 0 0 0 0 0) blank blank ∷ []) (step 2 2 (ref 32 0 0 0 0 0 0) (ref 16 0 1 0 0 0 0) (ref 16 0 2 0 0 0 0) blank ∷ step 1 2 (ref 18 0 0 0 0 0 0) (ref 16 0 2 0 0 0 0) (ref 32 0 0 0 0 0 0) blank ∷ step 8 1 (ref 34 0 3 0 0 0 0) (ref 18 0 0 0 0 0 0) blank blank ∷ []))
    (becomes (lists' 2 (step 2 2 (ref 32 0 0 0 0 0 0) (ref 16 0 1 0 3 0 0) (ref 16 0 2 0 5 0 0) blank ∷ step 1 2 (ref 32 0 1 0 0 0 0) (ref 16 0 2 0 5 0 0) (ref 32 0 0 0 0 0 0) blank ∷ step 8 1 (ref 34 0 3 0 0 0 0) (ref 32 0 1 0 0 0 0) blank blank ∷ []) (step 2 2 (ref 32 0 0 0 0 0 0) (ref 16 0 1 0 3 0 0) (ref 16 0 2 0 5 0 0) blank ∷ step 1 2 (ref 32 0 1 0 0 0 0) (ref 16 0 2 0 5 0 0) (ref 32 0 0 0 0 0 0) blank ∷ step 8 1 (ref 34 0 3 0 0 0 0) (ref 32 0 1 0 0 0 0) blank blank ∷ []) (step 2 2 (ref 32 0 0 0 0 0 0) (ref 16 0 1 0 3 0 0) (ref 16 0 2 0 5 0 0) blank ∷ step 1 2 (ref 32 0 1 0 0 0 0) (ref 16 0 2 0 5 0 0) (ref 32 0 0 0 0 0 0) blank ∷ step 8 1 (ref 34 0 3 0 0 0 0) (ref 32 0 1 0 0 0 0) blank blank ∷ []))) ∷
    -- random-1-146-fix-n-generated
    walk_vector
    (node 17 256 0 0 0 0 ∷ node 16 3 0 0 0 0 ∷ node 3 0 2 0 1 0 ∷ node 22 65535 0 0 0 0 ∷ node 1 0 2 3 2 0 ∷ node 16 6 0 0 0 0 ∷ node 25 0 0 0 0 0 ∷ node 16 1 0 0 0 0 ∷ node 7 0 1 6 0 0 ∷ node 4 0 3 7 4 5 ∷ node 2 0 2 8 9 0 ∷ [])
    (root 10 ∷ [])
    (0 ∷ 3 ∷ 0 ∷ 7 ∷ 0 ∷ 4 ∷ 0 ∷ 7 ∷ 0 ∷ 3 ∷ 0 ∷ 3 ∷ 0 ∷ 0 ∷ 0 ∷ 2 ∷ 0 ∷ 2 ∷ 0 ∷ 2 ∷ 0 ∷ 1 ∷ 0 ∷ 2 ∷ 0 ∷ 2 ∷ 0 ∷ 0 ∷ 0 ∷ 0 ∷ 0 ∷ 0 ∷ 0 ∷ 0 ∷ 0 ∷ 0 ∷ 0 ∷ 0 ∷ 0 ∷ 0 ∷ 0 ∷ 0 ∷ 0 ∷ 0 ∷ 0 ∷ 0 ∷ 0 ∷ 0 ∷ 0 ∷ 0 ∷ 0 ∷ 0 ∷ 0 ∷ 0 ∷ 0 ∷ 0 ∷ 0 ∷ 0 ∷ 0 ∷ 0 ∷ 0 ∷ 0 ∷ 0 ∷ 15 ∷ 0 ∷ 10 ∷ 0 ∷ 0 ∷ 0 ∷ 0 ∷ [])
    fix_n
    (lists' 3 (step 2 2 (ref 32 0 0 0 0 0 0) (ref 20 0 0 0 0 0 0) (ref 25 0 0 0 0 0 0) blank ∷ step 4 3 (ref 32 0 1 0 0 0 0) (ref 17 0 256 0 0 0 0) (ref 16 0 3 0 0 0 0) (ref 22 0 65535 0 0 0 0) ∷ step 4 3 (ref 32 0 2 0 0 0 0) (ref 16 0 1 0 0 0 0) (ref 32 0 1 0 0 0 0) (ref 16 0 6 0 0 0 0) ∷ step 2 2 (ref 18 0 0 0 0 0 0) (ref 32 0 0 0 0 0 0) (ref 32 0 2 0 0 0 0) blank ∷ []) (step 2 2 (ref 32 0 0 0 0 0 0) (ref 20 0 0 0 0 0 0) (ref 25 0 0 0 0 0 0) blank ∷ step 4 3 (ref 32 0 1 0 0 0 0) (ref 17 0 256 0 0 0 0) (ref 16 0 3 0 0 0 0) (ref 22 0 65535 0 0 0 0) ∷ step 4 3 (ref 32 0 2 0 0 0 0) (ref 16 0 1 0 0 0 0) (ref 32 0 1 0 0 0 0) (ref 16 0 6 0 0 0 0) ∷ step 2 2 (ref 18 0 0 0 0 0 0) (ref 32 0 0 0 0 0 0) (ref 32 0 2 0 0 0 0) blank ∷ []) (step 2 2 (ref 32 0 0 0 0 0 0) (ref 20 0 0 0 0 0 0) (ref 25 0 0 0 0 0 0) blank ∷ step 4 3 (ref 32 0 1 0 0 0 0) (ref 17 0 256 0 0 0 0) (ref 16 0 3 0 0 0 0) (ref 22 0 65535 0 0 0 0) ∷ step 4 3 (ref 32 0 2 0 0 0 0) (ref 16 0 1 0 0 0 0) (ref 32 0 1 0 0 0 0) (ref 16 0 6 0 0 0 0) ∷ step 2 2 (ref 18 0 0 0 0 0 0) (ref 32 0 0 0 0 0 0) (ref 32 0 2 0 0 0 0) blank ∷ []))
    (becomes (lists' 3 (step 2 2 (ref 32 0 0 0 0 0 0) (ref 20 0 0 0 0 0 0) (ref 25 0 0 0 0 0 0) blank ∷ step 4 3 (ref 32 0 1 0 0 0 0) (ref 17 0 256 0 0 0 0) (ref 16 0 3 0 6 0 0) (ref 22 0 65535 0 0 0 0) ∷ step 4 3 (ref 32 0 2 0 0 0 0) (ref 16 0 1 0 2 0 0) (ref 32 0 1 0 0 0 0) (ref 16 0 6 0 12 0 0) ∷ step 2 2 (ref 16 0 0 0 0 0 0) (ref 32 0 0 0 0 0 0) (ref 32 0 2 0 0 0 0) blank ∷ []) (step 2 2 (ref 32 0 0 0 0 0 0) (ref 20 0 0 0 0 0 0) (ref 25 0 0 0 0 0 0) blank ∷ step 4 3 (ref 32 0 1 0 0 0 0) (ref 17 0 256 0 0 0 0) (ref 16 0 3 0 6 0 0) (ref 22 0 65535 0 0 0 0) ∷ step 4 3 (ref 32 0 2 0 0 0 0) (ref 16 0 1 0 2 0 0) (ref 32 0 1 0 0 0 0) (ref 16 0 6 0 12 0 0) ∷ step 2 2 (ref 16 0 0 0 0 0 0) (ref 32 0 0 0 0 0 0) (ref 32 0 2 0 0 0 0) blank ∷ []) (step 2 2 (ref 32 0 0 0 0 0 0) (ref 20 0 0 0 0 0 0) (ref 25 0 0 0 0 0 0) blank ∷ step 4 3 (ref 32 0 1 0 0 0 0) (ref 17 0 256 0 0 0 0) (ref 16 0 3 0 6 0 0) (ref 22 0 65535 0 0 0 0) ∷ step 4 3 (ref 32 0 2 0 0 0 0) (ref 16 0 1 0 2 0 0) (ref 32 0 1 0 0 0 0) (ref 16 0 6 0 12 0 0) ∷ step 2 2 (ref 16 0 0 0 0 0 0) (ref 32 0 0 0 0 0 0) (ref 32 0 2 0 0 0 0) blank ∷ []))) ∷
    -- random-1-148-fix-2ns-generated
    walk_vector
    (node 16 0 0 0 0 0 ∷ node 16 2 0 0 0 0 ∷ node 1 0 2 0 1 0 ∷ node 16 0 0 0 0 0 ∷ node 3 0 2 2 3 0 ∷ node 16 0 0 0 0 0 ∷ node 3 0 2 4 5 0 ∷ node 17 3 0 0 0 0 ∷ node 1 0 2 7 6 0 ∷ node 16 0 0 0 0 0 ∷ node 1 0 2 8 9 0 ∷ node 22 0 0 0 0 0 ∷ node 25 0 0 0 0 0 ∷ node 6 0 1 12 0 0 ∷ node 18 1 0 0 0 0 ∷ node 18 1 0 0 0 0 ∷ node 20 0 0 0 0 0 ∷ node 5 0 1 13 0 0 ∷ node 2 0 2 14 17 0 ∷ node 7 0 1 11 0 0 ∷ node 1 0 2 15 18 0 ∷ [])
    (root 20 ∷ root 10 ∷ [])
    (10 ∷ 12 ∷ 0 ∷ 1 ∷ 0 ∷ 2 ∷ 0 ∷ 6 ∷ 0 ∷ 1 ∷ 0 ∷ 1 ∷ 0 ∷ 1 ∷ 0 ∷ 1 ∷ 0 ∷ 2 ∷ 0 ∷ 3 ∷ 0 ∷ 0 ∷ 0 ∷ 2 ∷ 0 ∷ 2 ∷ 0 ∷ 1 ∷ 0 ∷ 0 ∷ 0 ∷ 1 ∷ 0 ∷ 1 ∷ 0 ∷ 1 ∷ 0 ∷ 1 ∷ 0 ∷ 1 ∷ 0 ∷ 1 ∷ 0 ∷ 1 ∷ 0 ∷ 0 ∷ 0 ∷ 0 ∷ 0 ∷ 1 ∷ 0 ∷ 0 ∷ 0 ∷ 1 ∷ 0 ∷ 23 ∷ 0 ∷ 24 ∷ 0 ∷ 1 ∷ 0 ∷ 0 ∷ [])
    fix2ns
    (lists' 7 (step 1 2 (ref 32 0 0 0 0 0 0) (ref 16 0 0 0 0 0 0) (ref 16 0 2 0 0 0 0) blank ∷ step 3 2 (ref 32 0 1 0 0 0 0) (ref 32 0 0 0 0 0 0) (ref 16 0 0 0 0 0 0) blank ∷ step 3 2 (ref 32 0 2 0 0 0 0) (ref 32 0 1 0 0 0 0) (ref 16 0 0 0 0 0 0) blank ∷ step 1 2 (ref 32 0 3 0 0 0 0) (ref 17 0 3 0 0 0 0) (ref 32 0 2 0 0 0 0) blank ∷ step 1 2 (ref 18 0 1 0 0 0 0) (ref 32 0 3 0 0 0 0) (ref 16 1 0 0 0 0 0) blank ∷ step 3 2 (ref 32 0 4 0 0 0 0) (ref 25 0 0 0 0 0 0) (ref 20 0 0 0 0 0 0) blank ∷ step 1 2 (ref 32 0 5 0 0 0 0) (ref 32 0 4 0 0 0 0) (ref 20 0 0 0 0 0 0) blank ∷ step 2 2 (ref 32 0 6 0 0 0 0) (ref 18 0 1 0 0 0 0) (ref 32 0 5 0 0 0 0) blank ∷ step 1 2 (ref 18 0 0 0 0 0 0) (ref 18 0 1 0 0 0 0) (ref 32 0 6 0 0 0 0) blank ∷ step 8 1 (ref 32 0 1 0 0 0 0) (ref 18 0 0 0 0 0 0) blank blank ∷ []) (step 1 2 (ref 32 0 0 0 0 0 0) (ref 16 0 0 0 0 0 0) (ref 16 0 2 0 0 0 0) blank ∷ step 3 2 (ref 32 0 1 0 0 0 0) (ref 32 0 0 0 0 0 0) (ref 16 0 0 0 0 0 0) blank ∷ step 3 2 (ref 32 0 2 0 0 0 0) (ref 32 0 1 0 0 0 0) (ref 16 0 0 0 0 0 0) blank ∷ step 1 2 (ref 32 0 3 0 0 0 0) (ref 17 0 3 0 0 0 0) (ref 32 0 2 0 0 0 0) blank ∷ step 1 2 (ref 18 0 1 0 0 0 0) (ref 32 0 3 0 0 0 0) (ref 16 1 0 0 0 0 0) blank ∷ step 3 2 (ref 32 0 4 0 0 0 0) (ref 25 0 0 0 0 0 0) (ref 20 0 0 0 0 0 0) blank ∷ step 1 2 (ref 32 0 5 0 0 0 0) (ref 32 0 4 0 0 0 0) (ref 20 0 0 0 0 0 0) blank ∷ step 2 2 (ref 32 0 6 0 0 0 0) (ref 18 0 1 0 0 0 0) (ref 32 0 5 0 0 0 0) blank ∷ step 1 2 (ref 18 0 0 0 0 0 0) (ref 18 0 1 0 0 0 0) (ref 32 0 6 0 0 0 0) blank ∷ step 8 1 (ref 32 0 1 0 0 0 0) (ref 18 0 0 0 0 0 0) blank blank ∷ []) (step 1 2 (ref 32 0 0 0 0 0 0) (ref 16 0 0 0 0 0 0) (ref 16 0 2 0 0 0 0) blank ∷ step 3 2 (ref 32 0 1 0 0 0 0) (ref 32 0 0 0 0 0 0) (ref 16 0 0 0 0 0 0) blank ∷ step 3 2 (ref 32 0 2 0 0 0 0) (ref 32 0 1 0 0 0 0) (ref 16 0 0 0 0 0 0) blank ∷ step 1 2 (ref 32 0 3 0 0 0 0) (ref 17 0 3 0 0 0 0) (ref 32 0 2 0 0 0 0) blank ∷ step 1 2 (ref 18 0 1 0 0 0 0) (ref 32 0 3 0 0 0 0) (ref 16 1 0 0 0 0 0) blank ∷ step 3 2 (ref 32 0 4 0 0 0 0) (ref 25 0 0 0 0 0 0) (ref 20 0 0 0 0 0 0) blank ∷ step 1 2 (ref 32 0 5 0 0 0 0) (ref 32 0 4 0 0 0 0) (ref 20 0 0 0 0 0 0) blank ∷ step 2 2 (ref 32 0 6 0 0 0 0) (ref 18 0 1 0 0 0 0) (ref 32 0 5 0 0 0 0) blank ∷ step 1 2 (ref 18 0 0 0 0 0 0) (ref 18 0 1 0 0 0 0) (ref 32 0 6 0 0 0 0) blank ∷ step 8 1 (ref 32 0 1 0 0 0 0) (ref 18 0 0 0 0 0 0) blank blank ∷ []))
    (becomes (lists' 9 (step 1 2 (ref 32 0 0 0 0 0 0) (ref 16 0 0 0 1 0 0) (ref 16 0 2 0 5 0 0) blank ∷ step 3 2 (ref 32 0 1 0 0 0 0) (ref 32 0 0 0 0 0 0) (ref 16 0 0 0 1 0 0) blank ∷ step 3 2 (ref 32 0 2 0 0 0 0) (ref 32 0 1 0 0 0 0) (ref 16 0 0 0 1 0 0) blank ∷ step 1 2 (ref 32 0 3 0 0 0 0) (ref 17 0 3 0 0 0 0) (ref 32 0 2 0 0 0 0) blank ∷ step 1 2 (ref 32 0 7 0 0 0 1) (ref 32 0 3 0 0 0 0) (ref 16 1 0 0 1 0 0) blank ∷ step 3 2 (ref 32 0 4 0 0 0 0) (ref 25 0 0 0 0 0 0) (ref 20 0 0 0 0 0 0) blank ∷ step 1 2 (ref 32 0 5 0 0 0 0) (ref 32 0 4 0 0 0 0) (ref 20 0 0 0 0 0 0) blank ∷ step 2 2 (ref 32 0 6 0 0 0 0) (ref 32 0 7 0 0 0 1) (ref 32 0 5 0 0 0 0) blank ∷ step 1 2 (ref 32 0 8 0 0 0 0) (ref 32 0 7 0 0 0 1) (ref 32 0 6 0 0 0 0) blank ∷ step 8 1 (ref 32 0 1 0 0 0 0) (ref 32 0 8 0 0 0 0) blank blank ∷ []) (step 1 2 (ref 32 0 0 0 0 0 0) (ref 16 0 0 0 1 0 0) (ref 16 0 2 0 5 0 0) blank ∷ step 3 2 (ref 32 0 1 0 0 0 0) (ref 32 0 0 0 0 0 0) (ref 16 0 0 0 1 0 0) blank ∷ step 3 2 (ref 32 0 2 0 0 0 0) (ref 32 0 1 0 0 0 0) (ref 16 0 0 0 1 0 0) blank ∷ step 1 2 (ref 32 0 3 0 0 0 0) (ref 17 0 3 0 0 0 0) (ref 32 0 2 0 0 0 0) blank ∷ step 1 2 (ref 32 0 7 0 0 0 1) (ref 32 0 3 0 0 0 0) (ref 16 1 0 0 1 0 0) blank ∷ step 3 2 (ref 32 0 4 0 0 0 0) (ref 25 0 0 0 0 0 0) (ref 20 0 0 0 0 0 0) blank ∷ step 1 2 (ref 32 0 5 0 0 0 0) (ref 32 0 4 0 0 0 0) (ref 20 0 0 0 0 0 0) blank ∷ step 2 2 (ref 32 0 6 0 0 0 0) (ref 32 0 7 0 0 0 1) (ref 32 0 5 0 0 0 0) blank ∷ step 1 2 (ref 32 0 8 0 0 0 0) (ref 32 0 7 0 0 0 1) (ref 32 0 6 0 0 0 0) blank ∷ step 8 1 (ref 32 0 1 0 0 0 0) (ref 32 0 8 0 0 0 0) blank blank ∷ []) (step 1 2 (ref 32 0 0 0 0 0 0) (ref 16 0 0 0 1 0 0) (ref 16 0 2 0 5 0 0) blank ∷ step 3 2 (ref 32 0 1 0 0 0 0) (ref 32 0 0 0 0 0 0) (ref 16 0 0 0 1 0 0) blank ∷ step 3 2 (ref 32 0 2 0 0 0 0) (ref 32 0 1 0 0 0 0) (ref 16 0 0 0 1 0 0) blank ∷ step 1 2 (ref 32 0 3 0 0 0 0) (ref 17 0 3 0 0 0 0) (ref 32 0 2 0 0 0 0) blank ∷ step 1 2 (ref 32 0 7 0 0 0 1) (ref 32 0 3 0 0 0 0) (ref 16 1 0 0 1 0 0) blank ∷ step 3 2 (ref 32 0 4 0 0 0 0) (ref 25 0 0 0 0 0 0) (ref 20 0 0 0 0 0 0) blank ∷ step 1 2 (ref 32 0 5 0 0 0 0) (ref 32 0 4 0 0 0 0) (ref 20 0 0 0 0 0 0) blank ∷ step 2 2 (ref 32 0 6 0 0 0 0) (ref 32 0 7 0 0 0 1) (ref 32 0 5 0 0 0 0) blank ∷ step 1 2 (ref 32 0 8 0 0 0 0) (ref 32 0 7 0 0 0 1) (ref 32 0 6 0 0 0 0) blank ∷ step 8 1 (ref 32 0 1 0 0 0 0) (ref 32 0 8 0 0 0 0) blank blank ∷ []))) ∷
    -- random-1-149-fix-2ns-any
    walk_vector
    (node 17 0 0 0 0 0 ∷ node 16 1 0 0 0 0 ∷ node 16 2 0 0 0 0 ∷ node 6 0 1 2 0 0 ∷ node 5 0 1 3 0 0 ∷ node 16 0 0 0 0 0 ∷ node 3 0 2 4 0 0 ∷ node 4 0 3 5 6 1 ∷ node 26 0 0 0 0 0 ∷ node 3 0 2 7 8 0 ∷ [])
    (root 9 ∷ [])
    (23 ∷ 24 ∷ 0 ∷ 3 ∷ 0 ∷ 0 ∷ 0 ∷ 0 ∷ 0 ∷ 2 ∷ 0 ∷ 2 ∷ 0 ∷ 0 ∷ 0 ∷ 0 ∷ 0 ∷ 0 ∷ 0 ∷ 0 ∷ 0 ∷ 0 ∷ 0 ∷ 3 ∷ 0 ∷ 3 ∷ 0 ∷ 1 ∷ 0 ∷ 9 ∷ 0 ∷ 4 ∷ 0 ∷ 0 ∷ 0 ∷ 0 ∷ 0 ∷ 0 ∷ [])
    fix2ns
    (lists' 1 (step 3 2 (ref 25 0 0 0 0 0 0) (ref 25 1 0 0 0 0 0) (ref 16 1 2 0 0 0 0) blank ∷ step 8 1 (ref 33 0 500 0 0 0 0) (ref 17 0 0 0 0 0 0) blank blank ∷ []) (step 1 2 (ref 32 0 3 0 0 0 0) (ref 16 0 0 0 0 0 0) (ref 26 0 0 0 0 0 0) blank ∷ step 2 2 (ref 16 0 5 0 0 0 0) (ref 26 0 0 0 0 0 0) (ref 32 0 3 0 0 0 0) blank ∷ step 3 2 (ref 32 0 3 0 0 0 0) (ref 19 0 1 0 0 0 0) (ref 17 0 3 0 0 0 0) blank ∷ []) (step 8 1 (ref 25 1 0 0 0 0 0) (ref 22 0 1 4 4 6 10) blank blank ∷ []))
    (no_more 3) ∷
    -- random-1-164-fix-n-generated
    walk_vector
    (node 16 0 0 0 0 0 ∷ node 16 0 0 0 0 0 ∷ node 16 4 0 0 0 0 ∷ node 2 0 2 1 0 0 ∷ node 26 0 0 0 0 0 ∷ node 17 3 0 0 0 0 ∷ node 3 0 2 3 2 0 ∷ node 1 0 2 4 5 0 ∷ node 3 0 2 7 6 0 ∷ [])
    (root 8 ∷ [])
    (24 ∷ 27 ∷ 0 ∷ 1 ∷ 0 ∷ 2 ∷ 0 ∷ 2 ∷ 0 ∷ 0 ∷ 0 ∷ 0 ∷ 0 ∷ 0 ∷ 0 ∷ 1 ∷ 0 ∷ 0 ∷ 0 ∷ 0 ∷ 0 ∷ 1 ∷ 0 ∷ 0 ∷ 0 ∷ 0 ∷ 0 ∷ 0 ∷ 0 ∷ 0 ∷ 0 ∷ 0 ∷ 0 ∷ 0 ∷ 0 ∷ 0 ∷ 0 ∷ 4 ∷ [])
    fix_n
    (lists' 3 (step 1 2 (ref 32 0 0 0 0 0 0) (ref 26 0 0 0 0 0 0) (ref 17 0 3 0 0 0 0) blank ∷ step 2 2 (ref 32 0 1 0 0 0 0) (ref 16 0 0 0 0 0 0) (ref 16 0 0 0 0 0 0) blank ∷ step 3 2 (ref 32 0 2 0 0 0 0) (ref 32 0 1 0 0 0 0) (ref 16 0 4 0 0 0 0) blank ∷ step 3 2 (ref 18 0 0 0 0 0 0) (ref 32 0 0 0 0 0 0) (ref 32 0 2 0 0 0 0) blank ∷ []) (step 1 2 (ref 32 0 0 0 0 0 0) (ref 26 0 0 0 0 0 0) (ref 17 0 3 0 0 0 0) blank ∷ step 2 2 (ref 32 0 1 0 0 0 0) (ref 16 0 0 0 0 0 0) (ref 16 0 0 0 0 0 0) blank ∷ step 3 2 (ref 32 0 2 0 0 0 0) (ref 32 0 1 0 0 0 0) (ref 16 0 4 0 0 0 0) blank ∷ step 3 2 (ref 18 0 0 0 0 0 0) (ref 32 0 0 0 0 0 0) (ref 32 0 2 0 0 0 0) blank ∷ []) (step 1 2 (ref 32 0 0 0 0 0 0) (ref 26 0 0 0 0 0 0) (ref 17 0 3 0 0 0 0) blank ∷ step 2 2 (ref 32 0 1 0 0 0 0) (ref 16 0 0 0 0 0 0) (ref 16 0 0 0 0 0 0) blank ∷ step 3 2 (ref 32 0 2 0 0 0 0) (ref 32 0 1 0 0 0 0) (ref 16 0 4 0 0 0 0) blank ∷ step 3 2 (ref 18 0 0 0 0 0 0) (ref 32 0 0 0 0 0 0) (ref 32 0 2 0 0 0 0) blank ∷ []))
    (becomes (lists' 3 (step 1 2 (ref 32 0 0 0 0 0 0) (ref 26 0 0 0 0 0 0) (ref 17 0 3 0 0 0 0) blank ∷ step 2 2 (ref 32 0 1 0 0 0 0) (ref 16 0 0 0 0 0 0) (ref 16 0 0 0 0 0 0) blank ∷ step 3 2 (ref 32 0 2 0 0 0 0) (ref 32 0 1 0 0 0 0) (ref 16 0 4 0 8 0 0) blank ∷ step 3 2 (ref 16 0 4 0 0 0 0) (ref 32 0 0 0 0 0 0) (ref 32 0 2 0 0 0 0) blank ∷ []) (step 1 2 (ref 32 0 0 0 0 0 0) (ref 26 0 0 0 0 0 0) (ref 17 0 3 0 0 0 0) blank ∷ step 2 2 (ref 32 0 1 0 0 0 0) (ref 16 0 0 0 0 0 0) (ref 16 0 0 0 0 0 0) blank ∷ step 3 2 (ref 32 0 2 0 0 0 0) (ref 32 0 1 0 0 0 0) (ref 16 0 4 0 8 0 0) blank ∷ step 3 2 (ref 16 0 4 0 0 0 0) (ref 32 0 0 0 0 0 0) (ref 32 0 2 0 0 0 0) blank ∷ []) (step 1 2 (ref 32 0 0 0 0 0 0) (ref 26 0 0 0 0 0 0) (ref 17 0 3 0 0 0 0) blank ∷ step 2 2 (ref 32 0 1 0 0 0 0) (ref 16 0 0 0 0 0 0) (ref 16 0 0 0 0 0 0) blank ∷ step 3 2 (ref 32 0 2 0 0 0 0) (ref 32 0 1 0 0 0 0) (ref 16 0 4 0 8 0 0) blank ∷ step 3 2 (ref 16 0 4 0 0 0 0) (ref 32 0 0 0 0 0 0) (ref 32 0 2 0 0 0 0) blank ∷ []))) ∷
    -- random-1-165-any-walk-plan-refused
    walk_vector
    (node 16 2 0 0 0 0 ∷ node 24 0 0 0 0 0 ∷ node 2 0 3 1 0 1 ∷ [])
    (root 3 ∷ [])
    (0 ∷ 3 ∷ 0 ∷ 7 ∷ 0 ∷ 0 ∷ 0 ∷ 4 ∷ 0 ∷ 1 ∷ 0 ∷ 1 ∷ 0 ∷ 0 ∷ 0 ∷ 0 ∷ 0 ∷ 3 ∷ 0 ∷ 0 ∷ 0 ∷ 1 ∷ 0 ∷ 2 ∷ 0 ∷ 2 ∷ 0 ∷ 0 ∷ 0 ∷ 0 ∷ 0 ∷ 0 ∷ 0 ∷ 0 ∷ 0 ∷ 0 ∷ 0 ∷ 0 ∷ 0 ∷ 0 ∷ 0 ∷ 10 ∷ 0 ∷ 2 ∷ 0 ∷ 5 ∷ 0 ∷ 0 ∷ 0 ∷ 0 ∷ [])
    fix2ns
    (lists' 0 ([]) ([]) ([]))
    (no_more 2) ∷
    -- random-1-166-fix-2ns-generated
    walk_vector
    (node 23 2 0 0 0 0 ∷ node 16 3 0 0 0 0 ∷ node 3 0 2 1 0 0 ∷ node 16 2 0 0 0 0 ∷ node 22 256 0 0 0 0 ∷ node 16 3 0 0 0 0 ∷ node 16 1 0 0 0 0 ∷ node 1 0 2 3 4 0 ∷ node 16 2 0 0 0 0 ∷ node 7 0 1 5 0 0 ∷ node 6 0 1 9 0 0 ∷ node 17 0 0 0 0 0 ∷ node 5 0 1 10 0 0 ∷ node 17 2 0 0 0 0 ∷ node 17 1 0 0 0 0 ∷ node 1 0 2 7 14 0 ∷ node 2 0 2 12 2 0 ∷ node 1 0 2 13 15 0 ∷ node 3 0 2 6 16 0 ∷ node 18 0 0 0 0 0 ∷ node 2 0 2 8 18 0 ∷ node 3 0 2 17 11 0 ∷ node 1 0 2 21 20 0 ∷ [])
    (root 22 ∷ [])
    (24 ∷ 26 ∷ 0 ∷ 4 ∷ 0 ∷ 0 ∷ 0 ∷ 1 ∷ 0 ∷ 1 ∷ 0 ∷ 1 ∷ 0 ∷ 0 ∷ 0 ∷ 0 ∷ 0 ∷ 0 ∷ 0 ∷ 1 ∷ 0 ∷ 0 ∷ 0 ∷ 0 ∷ 0 ∷ 0 ∷ 0 ∷ 0 ∷ 0 ∷ 0 ∷ [])
    fix2ns
    (lists' 10 (step 1 2 (ref 32 0 0 0 0 0 0) (ref 16 0 2 0 0 0 0) (ref 22 0 256 0 0 0 0) blank ∷ step 1 2 (ref 32 0 1 0 0 0 0) (ref 32 0 0 0 0 0 0) (ref 17 0 1 0 0 0 0) blank ∷ step 1 2 (ref 32 0 2 0 0 0 0) (ref 17 0 2 0 0 0 0) (ref 32 0 1 0 0 0 0) blank ∷ step 2 2 (ref 32 0 3 0 0 0 0) (ref 20 0 0 0 0 0 0) (ref 16 1 3 0 0 0 0) blank ∷ step 3 2 (ref 32 0 4 0 0 0 0) (ref 32 0 3 0 0 0 0) (ref 20 0 0 0 0 0 0) blank ∷ step 1 2 (ref 32 0 5 0 0 0 0) (ref 32 0 4 0 0 0 0) (ref 20 0 0 0 0 0 0) blank ∷ step 3 2 (ref 32 0 6 0 0 0 0) (ref 16 0 3 0 0 0 0) (ref 23 0 2 0 0 0 0) blank ∷ step 2 2 (ref 32 0 7 0 0 0 0) (ref 32 0 5 0 0 0 0) (ref 32 0 6 0 0 0 0) blank ∷ step 3 2 (ref 32 0 8 0 0 0 0) (ref 16 0 1 0 0 0 0) (ref 32 0 7 0 0 0 0) blank ∷ step 2 2 (ref 32 0 9 0 0 0 0) (ref 16 0 2 0 0 0 0) (ref 32 0 8 0 0 0 0) blank ∷ step 4 3 (ref 18 0 0 0 0 0 0) (ref 32 0 2 0 0 0 0) (ref 17 0 0 0 0 0 0) (ref 32 0 9 0 0 0 0) ∷ []) (step 1 2 (ref 32 0 0 0 0 0 0) (ref 16 0 2 0 0 0 0) (ref 22 0 256 0 0 0 0) blank ∷ step 1 2 (ref 32 0 1 0 0 0 0) (ref 32 0 0 0 0 0 0) (ref 17 0 1 0 0 0 0) blank ∷ step 1 2 (ref 32 0 2 0 0 0 0) (ref 17 0 2 0 0 0 0) (ref 32 0 1 0 0 0 0) blank ∷ step 2 2 (ref 32 0 3 0 0 0 0) (ref 20 0 0 0 0 0 0) (ref 16 1 3 0 0 0 0) blank ∷ step 3 2 (ref 32 0 4 0 0 0 0) (ref 32 0 3 0 0 0 0) (ref 20 0 0 0 0 0 0) blank ∷ step 1 2 (ref 32 0 5 0 0 0 0) (ref 32 0 4 0 0 0 0) (ref 20 0 0 0 0 0 0) blank ∷ step 3 2 (ref 32 0 6 0 0 0 0) (ref 16 0 3 0 0 0 0) (ref 23 0 2 0 0 0 0) blank ∷ step 2 2 (ref 32 0 7 0 0 0 0) (ref 32 0 5 0 0 0 0) (ref 32 0 6 0 0 0 0) blank ∷ step 3 2 (ref 32 0 8 0 0 0 0) (ref 16 0 1 0 0 0 0) (ref 32 0 7 0 0 0 0) blank ∷ step 2 2 (ref 32 0 9 0 0 0 0) (ref 16 0 2 0 0 0 0) (ref 32 0 8 0 0 0 0) blank ∷ step 4 3 (ref 18 0 0 0 0 0 0) (ref 32 0 2 0 0 0 0) (ref 17 0 0 0 0 0 0) (ref 32 0 9 0 0 0 0) ∷ []) (step 1 2 (ref 32 0 0 0 0 0 0) (ref 16 0 2 0 0 0 0) (ref 22 0 256 0 0 0 0) blank ∷ step 1 2 (ref 32 0 1 0 0 0 0) (ref 32 0 0 0 0 0 0) (ref 17 0 1 0 0 0 0) blank ∷ step 1 2 (ref 32 0 2 0 0 0 0) (ref 17 0 2 0 0 0 0) (ref 32 0 1 0 0 0 0) blank ∷ step 2 2 (ref 32 0 3 0 0 0 0) (ref 20 0 0 0 0 0 0) (ref 16 1 3 0 0 0 0) blank ∷ step 3 2 (ref 32 0 4 0 0 0 0) (ref 32 0 3 0 0 0 0) (ref 20 0 0 0 0 0 0) blank ∷ step 1 2 (ref 32 0 5 0 0 0 0) (ref 32 0 4 0 0 0 0) (ref 20 0 0 0 0 0 0) blank ∷ step 3 2 (ref 32 0 6 0 0 0 0) (ref 16 0 3 0 0 0 0) (ref 23 0 2 0 0 0 0) blank ∷ step 2 2 (ref 32 0 7 0 0 0 0) (ref 32 0 5 0 0 0 0) (ref 32 0 6 0 0 0 0) blank ∷ step 3 2 (ref 32 0 8 0 0 0 0) (ref 16 0 1 0 0 0 0) (ref 32 0 7 0 0 0 0) blank ∷ step 2 2 (ref 32 0 9 0 0 0 0) (ref 16 0 2 0 0 0 0) (ref 32 0 8 0 0 0 0) blank ∷ step 4 3 (ref 18 0 0 0 0 0 0) (ref 32 0 2 0 0 0 0) (ref 17 0 0 0 0 0 0) (ref 32 0 9 0 0 0 0) ∷ []))
    (becomes (lists' 11 (step 1 2 (ref 32 0 0 0 0 0 0) (ref 16 0 2 0 5 0 0) (ref 22 0 256 0 0 0 0) blank ∷ step 1 2 (ref 32 0 1 0 0 0 0) (ref 32 0 0 0 0 0 0) (ref 17 0 1 0 0 0 0) blank ∷ step 1 2 (ref 32 0 2 0 0 0 0) (ref 17 0 2 0 0 0 0) (ref 32 0 1 0 0 0 0) blank ∷ step 2 2 (ref 32 0 3 0 0 0 0) (ref 20 0 0 0 0 0 0) (ref 16 1 3 0 7 0 0) blank ∷ step 3 2 (ref 32 0 4 0 0 0 0) (ref 32 0 3 0 0 0 0) (ref 20 0 0 0 0 0 0) blank ∷ step 1 2 (ref 32 0 5 0 0 0 0) (ref 32 0 4 0 0 0 0) (ref 20 0 0 0 0 0 0) blank ∷ step 3 2 (ref 32 0 6 0 0 0 0) (ref 16 0 3 0 7 0 0) (ref 23 0 2 0 0 0 0) blank ∷ step 2 2 (ref 32 0 7 0 0 0 0) (ref 32 0 5 0 0 0 0) (ref 32 0 6 0 0 0 0) blank ∷ step 3 2 (ref 32 0 8 0 0 0 0) (ref 16 0 1 0 3 0 0) (ref 32 0 7 0 0 0 0) blank ∷ step 2 2 (ref 32 0 9 0 0 0 0) (ref 16 0 2 0 5 0 0) (ref 32 0 8 0 0 0 0) blank ∷ step 4 3 (ref 32 0 10 0 0 0 0) (ref 32 0 2 0 0 0 0) (ref 17 0 0 0 0 0 0) (ref 32 0 9 0 0 0 0) ∷ []) (step 1 2 (ref 32 0 0 0 0 0 0) (ref 16 0 2 0 5 0 0) (ref 22 0 256 0 0 0 0) blank ∷ step 1 2 (ref 32 0 1 0 0 0 0) (ref 32 0 0 0 0 0 0) (ref 17 0 1 0 0 0 0) blank ∷ step 1 2 (ref 32 0 2 0 0 0 0) (ref 17 0 2 0 0 0 0) (ref 32 0 1 0 0 0 0) blank ∷ step 2 2 (ref 32 0 3 0 0 0 0) (ref 20 0 0 0 0 0 0) (ref 16 1 3 0 7 0 0) blank ∷ step 3 2 (ref 32 0 4 0 0 0 0) (ref 32 0 3 0 0 0 0) (ref 20 0 0 0 0 0 0) blank ∷ step 1 2 (ref 32 0 5 0 0 0 0) (ref 32 0 4 0 0 0 0) (ref 20 0 0 0 0 0 0) blank ∷ step 3 2 (ref 32 0 6 0 0 0 0) (ref 16 0 3 0 7 0 0) (ref 23 0 2 0 0 0 0) blank ∷ step 2 2 (ref 32 0 7 0 0 0 0) (ref 32 0 5 0 0 0 0) (ref 32 0 6 0 0 0 0) blank ∷ step 3 2 (ref 32 0 8 0 0 0 0) (ref 16 0 1 0 3 0 0) (ref 32 0 7 0 0 0 0) blank ∷ step 2 2 (ref 32 0 9 0 0 0 0) (ref 16 0 2 0 5 0 0) (ref 32 0 8 0 0 0 0) blank ∷ step 4 3 (ref 32 0 10 0 0 0 0) (ref 32 0 2 0 0 0 0) (ref 17 0 0 0 0 0 0) (ref 32 0 9 0 0 0 0) ∷ []) (step 1 2 (ref 32 0 0 0 0 0 0) (ref 16 0 2 0 5 0 0) (ref 22 0 256 0 0 0 0) blank ∷ step 1 2 (ref 32 0 1 0 0 0 0) (ref 32 0 0 0 0 0 0) (ref 17 0 1 0 0 0 0) blank ∷ step 1 2 (ref 32 0 2 0 0 0 0) (ref 17 0 2 0 0 0 0) (ref 32 0 1 0 0 0 0) blank ∷ step 2 2 (ref 32 0 3 0 0 0 0) (ref 20 0 0 0 0 0 0) (ref 16 1 3 0 7 0 0) blank ∷ step 3 2 (ref 32 0 4 0 0 0 0) (ref 32 0 3 0 0 0 0) (ref 20 0 0 0 0 0 0) blank ∷ step 1 2 (ref 32 0 5 0 0 0 0) (ref 32 0 4 0 0 0 0) (ref 20 0 0 0 0 0 0) blank ∷ step 3 2 (ref 32 0 6 0 0 0 0) (ref 16 0 3 0 7 0 0) (ref 23 0 2 0 0 0 0) blank ∷ step 2 2 (ref 32 0 7 0 0 0 0) (ref 32 0 5 0 0 0 0) (ref 32 0 6 0 0 0 0) blank ∷ step 3 2 (ref 32 0 8 0 0 0 0) (ref 16 0 1 0 3 0 0) (ref 32 0 7 0 0 0 0) blank ∷ step 2 2 (ref 32 0 9 0 0 0 0) (ref 16 0 2 0 5 0 0) (ref 32 0 8 0 0 0 0) blank ∷ step 4 3 (ref 32 0 10 0 0 0 0) (ref 32 0 2 0 0 0 0) (ref 17 0 0 0 0 0 0) (ref 32 0 9 0 0 0 0) ∷ []))) ∷
    -- random-1-167-fix-2ns-any
    walk_vector
    (node 26 0 0 0 0 0 ∷ node 16 0 0 0 0 0 ∷ node 16 0 0 0 0 0 ∷ node 16 0 0 0 0 0 ∷ node 2 0 2 2 0 0 ∷ node 25 0 0 0 0 0 ∷ node 16 0 0 0 0 0 ∷ node 3 0 2 6 5 0 ∷ node 1 0 2 1 7 0 ∷ node 1 0 2 8 3 0 ∷ node 17 1 0 0 0 0 ∷ node 6 0 1 9 0 0 ∷ node 16 0 0 0 0 0 ∷ node 16 0 0 0 0 0 ∷ node 17 1 0 0 0 0 ∷ node 1 0 2 14 10 0 ∷ node 2 0 2 13 12 0 ∷ node 2 0 2 11 4 0 ∷ node 4 0 3 17 16 15 ∷ node 25 0 0 0 0 0 ∷ node 26 0 0 0 0 0 ∷ node 20 0 0 0 0 0 ∷ node 18 3 0 0 0 0 ∷ node 6 0 1 18 0 0 ∷ node 2 0 2 19 20 0 ∷ node 16 0 0 0 0 0 ∷ node 7 0 1 23 0 0 ∷ node 16 0 0 0 0 0 ∷ node 17 3 0 0 0 0 ∷ node 3 0 2 26 28 0 ∷ node 5 0 1 29 0 0 ∷ node 22 256 0 0 0 0 ∷ node 2 0 2 21 27 0 ∷ node 16 0 0 0 0 0 ∷ node 23 0 0 0 0 0 ∷ node 17 1 0 0 0 0 ∷ node 2 0 2 31 22 0 ∷ node 17 1 0 0 0 0 ∷ node 5 0 1 37 0 0 ∷ node 18 8 0 0 0 0 ∷ node 7 0 1 33 0 0 ∷ node 16 0 0 0 0 0 ∷ node 4 0 3 24 41 32 ∷ node 16 0 0 0 0 0 ∷ node 6 0 1 35 0 0 ∷ node 16 0 0 0 0 0 ∷ node 16 0 0 0 0 0 ∷ node 18 4 0 0 0 0 ∷ node 3 0 2 45 42 0 ∷ node 3 0 2 30 40 0 ∷ node 1 0 2 48 49 0 ∷ node 25 0 0 0 0 0 ∷ node 6 0 1 36 0 0 ∷ node 16 0 0 0 0 0 ∷ node 3 0 2 43 51 0 ∷ node 7 0 1 39 0 0 ∷ node 16 0 0 0 0 0 ∷ node 1 0 2 50 53 0 ∷ node 17 3 0 0 0 0 ∷ node 16 3 0 0 0 0 ∷ node 16 0 0 0 0 0 ∷ node 3 0 2 47 54 0 ∷ node 3 0 2 44 25 0 ∷ node 1 0 2 55 61 0 ∷ node 3 0 2 38 56 0 ∷ node 24 0 0 0 0 0 ∷ node 3 0 2 46 64 0 ∷ node 4 0 3 58 65 66 ∷ node 20 0 0 0 0 0 ∷ node 1 0 2 62 60 0 ∷ node 18 2 0 0 0 0 ∷ node 17 0 0 0 0 0 ∷ node 22 1 0 0 0 0 ∷ node 1 0 2 67 71 0 ∷ node 4 0 3 68 73 72 ∷ node 1 0 2 63 70 0 ∷ node 16 0 0 0 0 0 ∷ node 16 0 0 0 0 0 ∷ node 1 0 2 69 75 0 ∷ node 3 0 2 77 76 0 ∷ node 1 0 2 79 59 0 ∷ node 16 0 0 0 0 0 ∷ node 18 6 0 0 0 0 ∷ node 5 0 1 82 0 0 ∷ node 2 0 2 81 57 0 ∷ node 6 0 1 52 0 0 ∷ node 3 0 2 80 74 0 ∷ node 23 2 0 0 0 0 ∷ node 18 4 0 0 0 0 ∷ node 1 0 2 86 87 0 ∷ node 16 0 0 0 0 0 ∷ node 1 0 2 84 89 0 ∷ node 3 0 2 85 88 0 ∷ node 6 0 1 92 0 0 ∷ node 1 0 2 34 83 0 ∷ node 24 0 0 0 0 0 ∷ node 20 0 0 0 0 0 ∷ node 25 0 0 0 0 0 ∷ node 17 256 0 0 0 0 ∷ node 1 0 2 98 97 0 ∷ node 18 8 0 0 0 0 ∷ node 16 0 0 0 0 0 ∷ node 1 0 2 101 99 0 ∷ node 1 0 2 100 102 0 ∷ node 18 3 0 0 0 0 ∷ node 18 8 0 0 0 0 ∷ node 3 0 2 104 93 0 ∷ node 17 2 0 0 0 0 ∷ node 2 0 2 95 94 0 ∷ node 21 1 0 0 0 0 ∷ node 18 4 0 0 0 0 ∷ node 3 0 2 103 96 0 ∷ node 17 0 0 0 0 0 ∷ node 18 6 0 0 0 0 ∷ node 2 0 2 108 109 0 ∷ [])
    (root 78 ∷ root 114 ∷ root 90 ∷ root 113 ∷ root 111 ∷ root 106 ∷ root 91 ∷ root 112 ∷ root 107 ∷ root 105 ∷ root 110 ∷ [])
    (3 ∷ 3 ∷ 0 ∷ 1 ∷ 0 ∷ 0 ∷ 0 ∷ 4 ∷ 0 ∷ 2 ∷ 0 ∷ 2 ∷ 0 ∷ 5 ∷ 0 ∷ 0 ∷ 0 ∷ 1 ∷ 0 ∷ 1 ∷ 0 ∷ 2 ∷ 0 ∷ 1 ∷ 0 ∷ 1 ∷ 0 ∷ 0 ∷ 0 ∷ 4 ∷ 0 ∷ 2 ∷ 0 ∷ 8 ∷ 0 ∷ 9 ∷ 0 ∷ 1 ∷ 0 ∷ 10 ∷ 0 ∷ 1 ∷ 0 ∷ 1 ∷ 0 ∷ 1 ∷ [])
    fix2ns
    (lists' 9 ([]) (step 8 1 (ref 33 0 0 4 19 10 18) (ref 23 0 0 0 0 0 0) blank blank ∷ []) (step 4 3 (ref 32 1 2 0 0 0 0) (ref 22 0 0 1 17 12 13) (ref 23 0 0 4 5 12 14) (ref 16 0 3 0 0 0 0) ∷ step 1 2 (ref 19 0 0 0 0 0 0) (ref 21 0 1 0 0 0 0) (ref 21 0 0 0 0 0 0) blank ∷ []))
    (becomes (lists' 9 ([]) (step 8 1 (ref 33 0 0 4 19 10 18) (ref 23 0 0 0 0 0 0) blank blank ∷ []) (step 4 3 (ref 32 1 2 0 0 0 0) (ref 22 0 0 1 17 12 13) (ref 23 0 0 4 5 12 14) (ref 16 0 3 0 11 0 0) ∷ step 1 2 (ref 19 0 0 0 0 0 0) (ref 21 0 1 0 0 0 0) (ref 21 0 0 0 0 0 0) blank ∷ []))) ∷
    -- random-1-175-any-walk-plan-refused
    walk_vector
    (node 25 0 0 0 0 0 ∷ node 16 6 0 0 0 0 ∷ node 20 0 0 0 0 0 ∷ node 3 0 2 0 2 0 ∷ [])
    (root 3 ∷ [])
    (24 ∷ 29 ∷ 0 ∷ 7 ∷ 0 ∷ 0 ∷ 0 ∷ 2 ∷ 0 ∷ 1 ∷ 0 ∷ 1 ∷ 0 ∷ 0 ∷ 0 ∷ 0 ∷ 0 ∷ 0 ∷ 0 ∷ 2 ∷ 0 ∷ 0 ∷ 0 ∷ 2 ∷ 0 ∷ 2 ∷ 0 ∷ 0 ∷ 0 ∷ 0 ∷ 0 ∷ 0 ∷ 0 ∷ 0 ∷ 0 ∷ 10 ∷ 0 ∷ 5 ∷ 0 ∷ 0 ∷ 0 ∷ 0 ∷ [])
    fix_n
    (lists' 0 ([]) ([]) ([]))
    (no_more 16) ∷
    -- random-1-179-any-walk-plan-refused
    walk_vector
    (node 17 0 0 0 0 0 ∷ node 17 0 0 0 0 0 ∷ node 16 0 0 0 0 0 ∷ node 26 0 0 0 0 0 ∷ node 5 0 0 0 0 0 ∷ node 5 0 1 4 0 0 ∷ node 3 0 2 1 3 0 ∷ node 1 0 2 2 6 0 ∷ [])
    (root 5 ∷ [])
    (10 ∷ 14 ∷ 0 ∷ 1 ∷ 0 ∷ 0 ∷ 0 ∷ 0 ∷ 0 ∷ 1 ∷ 0 ∷ 1 ∷ 0 ∷ 0 ∷ 0 ∷ 0 ∷ 0 ∷ 0 ∷ 0 ∷ 0 ∷ 0 ∷ 0 ∷ 0 ∷ 3 ∷ 0 ∷ 1 ∷ 0 ∷ 1 ∷ 0 ∷ 0 ∷ 0 ∷ 4 ∷ 0 ∷ 0 ∷ [])
    fix_n
    (lists' 0 ([]) ([]) ([]))
    (no_more 2) ∷
    []

-- THE DEFINITIONS GIVE THE ORIGINAL'S ANSWERS
pub all-agree : agree_walked vectors ≡ true
unfolding first u16_at child_count within tree shape exp_dim number_at is_plan plan.lookups plan.products among is_im adding fits names_there bits_good counts_agree column cm1s lookups products intermediates quotient_dim quotients mapped some_none placed position_of first_width whole_width third_width vectors is_reference is_leaf is_step sources_needed runs used_by record_by lists.mapped walked used_verdict record_verdict rule_kind rule_id rule_dim rule_for ruled_reference meet_reference meet_used meet_record meet_records fix_reference tree_for tree_kind tree_position tree_dim has_tree treed_reference tree_reference rule_no is_destination through source_dim source_dims largest step_with noted passed
all-agree = refl
