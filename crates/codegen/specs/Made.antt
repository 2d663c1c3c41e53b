-- The blocks that jobs make: their words, how many there are, and that their cells are there.
-- Assumes nothing.
use Rattle.std.specs.Prelude.{ℕ, suc, ◌+◌, ◌*◌, ◌<◌, ◌≤◌, ◌≡◌, refl, List, [], ◌∷◌, length}
use Rattle.std.proofs.Common.{sym, ◌∙◌, ap, subst, append-nil, arith}
use Rattle.std.proofs.Math.Option.{Option, none, some, none-ne-some}
use Rattle.meaning.specs.Trees.{Forest, nth, Each}
use Rattle.meaning.specs.Trees as meaning
use Rattle.meaning.specs.Steps.{Ref, exp_cell}
use Rattle.meaning.specs.Emission.{emit, block_steps}
use Rattle.meaning.specs.Order.{Job, asked}
use Rattle.meaning.specs.Generation.{Block, make_one, make}
use Rattle.meaning.specs.Building as building
use Rattle.meaning.proofs.Laws.Tests.{each_map}
use Rattle.pool.specs.Laws.Tabled.{expression-count}
use Rattle.pool.specs.Laws.Forest.{forest-has}
use Rattle.starkinfo_codegen.specs.Emitting.{Rest, tables_of, pool_of}
use Rattle.starkinfo_codegen.specs.Ordering.{cell_of}
use Rattle.starkinfo_codegen.specs.Totals.{Found}
use Rattle.requests.specs.Making.{JobThere, E}
use Rattle.requests.specs.Placing.{block_words}
use Rattle.requests.specs.Jobs.{steps-any}
use Rattle.builds.specs.Held.{words_of, Celled}

pub found_all : (w xs : List ℕ) (b : Rest) (js : List Job) → Each (JobThere b) js → Each (Found (E w xs b)) js
found_all w xs b js h =
    each_map (JobThere b) (Found (E w xs b)) (λ y t. forest-has (pool_of w b) y.expression (subst (λ m. y.expression < m) (sym (expression-count (tables_of w b))) t.0)) js h

module _ (G : Forest) where
  pub made-words : (js : List Job) (t : ℕ) → Each (Found G) js → words_of (make G js t).blocks ≡ block_words G js
  made-words [] t h = refl
  made-words (j ∷ js) t h = go (nth G j.expression) refl (λ u. made-words js u h.1)
    where
      go :
          (o : Option meaning.Expression) → nth G j.expression ≡ o → ((u : ℕ) → words_of (make G js u).blocks ≡ block_words G js) →
          words_of (make G (j ∷ js) t).blocks ≡ block_words G (j ∷ js)
      go none q ih = absurd (none-ne-some h.0.0 (sym q ∙ h.0.1))
      go (some x) q ih =
          let one = make_one j (some x) t in
          let n : length (building.every one.blocks) ≡ length (building.every (make_one j (some x) 0).blocks) = steps-any j (some x) t in
          rw (q, ← n, ih one.counter) (ap (λ v. (cell_of j.expression j.row + 1024 * v) ∷ block_words G js) (sym (ap length (append-nil (block_steps (emit (asked j.fused x.tree) j.row t) (Ref.var (exp_cell j.expression j.row)))))))

  pub made-count : (js : List Job) (t : ℕ) → Each (Found G) js → length (make G js t).blocks ≡ length js
  made-count js t h = sym (words_count (make G js t).blocks) ∙ ap length (made-words js t h) ∙ block-count js
    where
      words_count : (bs : List Block) → length (words_of bs) ≡ length bs
      words_count [] = refl
      words_count (b ∷ bs) = ap suc (words_count bs)

      block-count : (ys : List Job) → length (block_words G ys) ≡ length ys
      block-count [] = refl
      block-count (y ∷ ys) = ap suc (block-count ys)

  pub made_cells : (js : List Job) (t m : ℕ) → m ≤ 512 → Each (λ j. (j.expression < m) × (j.row < 2)) js → Each Celled (make G js t).blocks
  made_cells [] t m few h = tt
  made_cells (j ∷ js) t m few h = go (nth G j.expression) refl (λ u. made_cells js u m few h.1)
    where
      go :
          (o : Option meaning.Expression) → nth G j.expression ≡ o → ((u : ℕ) → Each Celled (make G js u).blocks) → Each Celled (make G (j ∷ js) t).blocks
      go none q ih = rw q (ih t)
      go (some x) q ih = rw q ((omega (arith, h.0.0), h.0.1), ih (make_one j (some x) t).counter)
