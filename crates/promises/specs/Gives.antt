-- WHICH NUMBERS AN EXPORTED FUNCTION GIVES, and that it gives no other.
-- Assumes nothing.
use Rattle.std.specs.Prelude.{ℕ, ◌≡◌, refl, true, List, [], ◌∷◌}
use Rattle.pool.specs.Trees.{forest}
use Rattle.pool.specs.Numbered.{pool_of}
use Rattle.search_meaning.proofs.SearchCases.{Row}
use Rattle.answers.specs.Ways.{OfPool, ServeRead, BuildRead, Ran, EvaluateRead, Mapped, Fixed, Queried, Dimensioned}
use Rattle.sets.specs.Members.{members}
use Rattle.constraint_frames.specs.Extension.{asking}
use Rattle.answers.specs.PolynomialWays.{ConstraintRead}
use Rattle.answers.specs.ConstraintWays.{ExtendRead}
use Rattle.promises.specs.Rows.{Call, Holds, rows}
use Rattle.answers.specs.Numbers.{among, fresh_numbers, serve_numbers, build_numbers, run_numbers, evaluate_numbers, map_numbers, search_numbers, section_numbers, mark_numbers, close_numbers, extend_numbers, constraint_numbers, constraint-has, mark-has, close-has, extend-has, walk_numbers, build-has, dimensioned_has, evaluate-has, fixed_has, frames-has, fresh-has, mapped-has, maps-plan, plan-has, pool-has, queried-has, ran-has, row_has, section-has, serve-has, walks-plan}

-- ── the statement ────────────────────────────────────────────────────────────
abbrev pub numbers : {n : ℕ} → Call n → List ℕ
numbers (Call.fresh x x' h) = fresh_numbers
numbers (Call.serve s w x x' l l' h) = serve_numbers
numbers (Call.build s x x' l o o' z z' h) = build_numbers
numbers (Call.run s l l' z z' h) = run_numbers
numbers (Call.evaluate s list m ws o o' z z' h) = evaluate_numbers
numbers (Call.map s b o o' z z' h) = map_numbers
numbers (Call.fix s b domain z z' first i last first' i' last' h) = walk_numbers
numbers (Call.query s b first i last first' i' last' h) = walk_numbers
numbers (Call.dimension s b d first i last first' i' last' h) = walk_numbers
numbers (Call.dimension_first s b first first' h) = walk_numbers
numbers (Call.search vc s es b e limit w w' z z' h) = search_numbers
numbers (Call.mark es m x x' l h) = mark_numbers
numbers (Call.close m x x' l l' h) = close_numbers
numbers (Call.constraint_pool s ids w vc c o o' z z' h) = extend_numbers
numbers (Call.constraint s ids vc b e limit c u u' v v' o o' w w' f f' z z' h) = constraint_numbers
numbers (Call.map_section rs rs' ss ss' ds ds' ps ps' ws ws' h) = section_numbers

-- ── the proof ────────────────────────────────────────────────────────────────
way-has : {n : ℕ} (c : Call n) (k : ℕ) → Holds c k → among k (numbers c) ≡ true
way-has (Call.fresh x x' h) k v = fresh-has x k v
way-has (Call.serve s w x x' l l' h) k v = frames-has serve_numbers s (ServeRead w x l) refl refl (serve-has w x l) k v
way-has (Call.build s x x' l o o' z z' h) k v = frames-has build_numbers s (BuildRead x l o) refl refl (build-has x l o) k v
way-has (Call.run s l l' z z' h) k v = frames-has run_numbers s (λ i. OfPool (pool_of i) (λ a. Ran _ i)) refl refl (λ i j. pool-has run_numbers (pool_of i) (λ a. Ran _ i) refl refl refl (λ a. ran-has _ i) j) k v
way-has (Call.evaluate s list m ws o o' z z' h) k v = frames-has evaluate_numbers s (EvaluateRead list m ws _) refl refl (evaluate-has list m ws _) k v
way-has (Call.map s b o o' z z' h) k v = plan-has map_numbers maps-plan s b true (Mapped b _) (mapped-has b _) k v
way-has (Call.fix s b domain z z' first i last first' i' last' h) k v = plan-has walk_numbers walks-plan s b _ (Fixed b domain _ first i last) (fixed_has b domain _ first i last) k v
way-has (Call.query s b first i last first' i' last' h) k v = plan-has walk_numbers walks-plan s b _ (Queried b first i last) (queried-has b first i last) k v
way-has (Call.dimension s b d first i last first' i' last' h) k v = plan-has walk_numbers walks-plan s b _ (Dimensioned d (first ∷ i ∷ last ∷ []) b) (dimensioned_has d (first ∷ i ∷ last ∷ []) b) k v
way-has (Call.dimension_first s b first first' h) k v = plan-has walk_numbers walks-plan s b _ (Dimensioned _ (first ∷ []) b) (dimensioned_has _ (first ∷ []) b) k v
way-has (Call.search vc s es b e limit w w' z z' h) k v =
    frames-has search_numbers s (λ i. OfPool (pool_of i) (λ a. Row (forest (pool_of i)) a es vc b e limit)) refl refl
    (λ i j. pool-has search_numbers (pool_of i) (λ a. Row (forest (pool_of i)) a es vc b e limit) refl refl refl (λ a m. row_has i a es vc b e limit m) j) k v
way-has (Call.mark es m x x' l h) k v = mark-has es m x l k v
way-has (Call.close m x x' l l' h) k v = close-has m x l k v
way-has (Call.constraint_pool s ids w vc c o o' z z' h) k v = frames-has extend_numbers s (ExtendRead w (asking ids (members w) vc c) _) refl refl (extend-has w (asking ids (members w) vc c) _) k v
way-has (Call.constraint s ids vc b e limit c x x' y y' o o' w w' f f' z z' h) k v =
    frames-has constraint_numbers s (ConstraintRead ids vc b e limit c _ _ _) refl refl (constraint-has ids vc b e limit c _ _ _) k v
way-has (Call.map_section rs rs' ss ss' ds ds' ps ps' ws ws' h) k v = section-has rs _ _ _ _ k v

-- NO OTHER NUMBER
pub gives : {n : ℕ} (c : Call n) → among n (numbers c) ≡ true
gives {n} c = way-has c n ((rows c n).0 refl)
