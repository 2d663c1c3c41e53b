-- Laws for who asks for a request: what stands in the tables at first, how many levels are enough, and that the answer is that of `ask`.
-- Assumes nothing.
use Rattle.std.specs.Prelude.{ℕ, zero, suc, ◌<◌, ◌≤◌, ◌≡◌, refl, Bool, true, false, ◌&&◌, List, [], ◌∷◌, length, get_or, ltb}
use Rattle.std.proofs.Common.{sym, ◌∙◌, ap, subst, arith}
use Rattle.std.proofs.Math.Path.{fun_ext}
use Rattle.meaning.specs.Trees.{Acyclic}
use Rattle.meaning.specs.Order.{Marks, unmarked, ask_below, ask}
use Rattle.pool.specs.Trees.{forest}
use Rattle.pool.specs.Ranking.{zeros}
use Rattle.pool.specs.Laws.Tabled.{expression-count}
use Rattle.pool.specs.Laws.Forest.{forest-has, forest-size}
use Rattle.starkinfo_codegen.specs.Emitting.{Rest, tables_of, pool_of}
use Rattle.starkinfo_codegen.specs.Ordering.{cell_of, marks_of, State, World, E, CodeAsks, coded}

-- ── the tables at first ──────────────────────────────────────────────────────
zeros-few : (l : List ℕ) → zeros l ≤ length l
unfolding zeros
zeros-few [] = omega arith
zeros-few (zero ∷ l) = let r = zeros-few l in omega arith
zeros-few (suc x ∷ l) = let r = zeros-few l in omega arith

pub start-state : (s j : List ℕ) → length s ≡ 1024 → length j ≡ 1024 → State s j 0
start-state s j p q = record { marks_size = p; jobs_size = q; room = omega (arith, zeros-few s, p) }

pub start-marks : (s : List ℕ) → ((c : ℕ) → get_or s c 0 ≡ 0) → marks_of s ≡ unmarked
unfolding marks_of
start-marks s h = fun_ext (λ e. fun_ext (λ r. rw (h (cell_of e r)) (go (ltb r 2))))
  where
    go : (b : Bool) → (b && false) ≡ false
    go true = refl
    go false = refl

-- ── a request ────────────────────────────────────────────────────────────────
-- as many levels as there are expressions are enough, and with these the answer is the definition's
module _ (w x : List ℕ) (b : Rest) (A : Acyclic (forest (pool_of w b))) where
  levels_are : length (E w x b A) ≡ b.expression_count
  levels_are = forest-size (pool_of w b) ∙ expression-count (tables_of w b)

  pub request-asks :
      World w x b → {s j : List ℕ} {n : ℕ} → State s j n → (e row : ℕ) → e < b.expression_count → row < 2 →
      CodeAsks w x b A s j b.expression_count n e row
  request-asks world state e row l h =
      let f = forest-has (pool_of w b) e (subst (λ m. e < m) (sym (expression-count (tables_of w b))) l) in
      record {
        world = world;
        state = state;
        there = l;
        in_row = h;
        deep = subst (λ m. A.rank e < m) levels_are (A.below e f.0 f.1);
      }

  pub request-is : (fused : Bool) (e row : ℕ) (m : Marks) → coded w x b A b.expression_count fused e row m ≡ ask 2 (E w x b A) fused e row m
  request-is fused e row m = ap (λ k. ask_below 2 (E w x b A) k fused e row m) (sym levels_are)
