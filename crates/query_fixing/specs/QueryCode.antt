-- FIXING THE VERIFIER'S QUERY CODE, over records: a cm becomes the tree of its "2ns" record's section, with its position and dimension. Its id and p stay, and
-- so does every other reference.
-- Assumes nothing: these are definitions.
use Rattle.std.specs.Prelude.{ℕ, ◌/◌, ◌%◌, Bool, cond, List, get_or, eqb}
use Rattle.kinds.specs.KindBytes as kind
use Rattle.kinds.specs.Range.{within}
use Rattle.kinds.specs.declared.reference.Reference.{Reference}
use Rattle.lent_lists.specs.Verdicts.{Verdict, fine, malformed, not_there, first_of, only, if_fine}
use Rattle.lent_lists.specs.Records.{segment_in, good_lists, record_by, rewritten}
use Rattle.lent_lists.specs.Walks.{walked, record_verdict}

-- a tree is kind, position and dimension in one number, 0 where there is none
unfoldable pub tree_for : List ℕ → ℕ → ℕ
tree_for trees id = get_or trees id 0

unfoldable pub tree_kind : ℕ → ℕ
tree_kind tree = tree / 0x100000000

unfoldable pub tree_position : ℕ → ℕ
tree_position tree = tree / 0x10000 % 0x10000

unfoldable pub tree_dim : ℕ → ℕ
tree_dim tree = tree % 0x10000

-- tree1 to tree4
unfoldable pub has_tree : ℕ → Bool
has_tree tree = within kind.tree1 kind.tree4 (tree_kind tree)

module _ (trees : List ℕ) where
  -- a cm needs a tree (3)
  unfoldable pub treed_reference : Reference → Verdict
  treed_reference r = cond (eqb r.kind kind.cm) (only (has_tree (tree_for trees r.id)) not_there) fine

  -- a byte holds the kind of a tree that there is
  unfoldable pub tree_reference : Reference → Reference
  tree_reference r =
      let tree = tree_for trees r.id in
      cond (eqb r.kind kind.cm)
      (record { kind = tree_kind tree % 256; prime = r.prime; id = r.id; dim = tree_dim tree; p = r.p; tree_pos = tree_position tree; extra = r.extra })
      r

  -- THE VERDICT: 1 over all three lists, then 3, and 10 for a step that is unknown or has too few sources, as the walk over first, i, last meets them
  unfoldable pub query_verdict : List ℕ → List ℕ → List ℕ → Verdict
  query_verdict first i last = first_of (only (good_lists first i last) malformed) (walked (record_verdict treed_reference) (segment_in first i last))

  -- A LIST AFTER IT
  unfoldable pub queried_after : List ℕ → List ℕ → List ℕ → List ℕ → List ℕ
  queried_after first i last l = if_fine (query_verdict first i last) (rewritten (record_by tree_reference) l) l
