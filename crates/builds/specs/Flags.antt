-- The flags of a pool's expressions are those of its table, and the marks after a build those of `after_build`.
-- Assumes nothing.
use Rattle.std.specs.Prelude.{ℕ, zero, suc, ◌%◌, ◌/◌, ◌<◌, ◌≤◌, ◌≡◌, refl, Bool, true, false, List, [], ◌∷◌, length, ltb}
use Rattle.std.proofs.Common.{◌∙◌, ap, arith, not-suc-le-zero, le_of_suc-le-suc, ltb-true, ltb-false}
use Rattle.std.proofs.Math.Path.{fun_ext}
use Rattle.std.proofs.Math.Option.{Option, none, some}
use Rattle.meaning.specs.Trees.{Forest, nth}
use Rattle.meaning.specs.Trees as meaning
use Rattle.meaning.specs.Generation.{State}
use Rattle.meaning.specs.Building.{flagged, released, after_build}
use Rattle.frames.specs.Tables.{expression_in, first}
use Rattle.frames.specs.declared.rest.Expression.{Expression}
use Rattle.pool.specs.Pool.{Pool}
use Rattle.pool.specs.Trees.{expression_of, forest_from, forest}
use Rattle.pool.specs.Tabled.{tabled}
use Rattle.pool.specs.Laws.Tabled.{first-length, first-nth}
use Rattle.starkinfo_codegen.specs.Emitting.{Rest, pool_of}
use Rattle.starkinfo_codegen.specs.Ordering.{marks_of}
use Rattle.builds.specs.Raw.{flagged_by, released_by, flagged_in, released_in}
use Rattle.builds.specs.Marking.{release, release-marks}

abbrev grown : Pool → Option Expression → Option meaning.Expression
grown p none = none
grown p (some y) = some (expression_of p y)

forest-nth : (p : Pool) (xs : List Expression) (e : ℕ) → nth (forest_from p xs) e ≡ grown p (nth xs e)
forest-nth p [] e = refl
forest-nth p (x ∷ xs) zero = refl
forest-nth p (x ∷ xs) (suc e) = forest-nth p xs e

nth_past : {A : Type 0} (l : List A) (n : ℕ) → length l ≤ n → nth l n ≡ none
nth_past [] n h = refl
nth_past (a ∷ l) zero h = absurd (not-suc-le-zero h)
nth_past (a ∷ l) (suc n) h = nth_past l n (le_of_suc-le-suc h)

flags_of : (p : Pool) (y : Expression) → (flagged (some (expression_of p y)) ≡ flagged_by y.flags) × (released (some (expression_of p y)) ≡ released_by y.flags)
unfolding flagged_by released_by
flags_of p y = let e : y.flags / 1 % 2 ≡ y.flags % 2 = omega arith in (rw e, rw e)

module _ (w : List ℕ) (b : Rest) where
  abbrev x : List ℕ
  x = b.expressions

  abbrev m : ℕ
  m = b.expression_count

  abbrev E : Forest
  E = forest (pool_of w b)

  at : (e : ℕ) → nth E e ≡ grown (pool_of w b) (nth (first (expression_in x) m) e)
  unfolding forest tabled
  at e = forest-nth (pool_of w b) (first (expression_in x) m) e

  there : (e : ℕ) → e < m → nth E e ≡ some (expression_of (pool_of w b) (expression_in x e))
  there e h = at e ∙ ap (grown (pool_of w b)) (first-nth (expression_in x) m e h)

  past : (e : ℕ) → m ≤ e → nth E e ≡ none
  past e h = at e ∙ ap (grown (pool_of w b)) (nth_past (first (expression_in x) m) e (rw first-length h))

  flagged-at : (e : ℕ) → flagged (nth E e) ≡ flagged_in x m e
  flagged-at e = go (ltb e m) refl
    where
      go : (v : Bool) → ltb e m ≡ v → flagged (nth E e) ≡ flagged_in x m e
      go true q = rw (q, there e (ltb-true e m q)) (flags_of (pool_of w b) (expression_in x e)).0
      go false q = rw (q, past e (ltb-false e m q))

  released-at : (e : ℕ) → released (nth E e) ≡ released_in x m e
  released-at e = go (ltb e m) refl
    where
      go : (v : Bool) → ltb e m ≡ v → released (nth E e) ≡ released_in x m e
      go true q = rw (q, there e (ltb-true e m q)) (flags_of (pool_of w b) (expression_in x e)).1
      go false q = rw (q, past e (ltb-false e m q))

  -- THE FLAGS OF THE FOREST
  pub flags_in : (λ e. flagged (nth E e)) ≡ flagged_in x m
  flags_in = fun_ext flagged-at

  -- THE MARKS AFTER A BUILD
  pub after-build : (s : List ℕ) → length s ≡ 1024 → m ≤ 512 → (st : State) → st.marks ≡ marks_of s → marks_of (release x m s) ≡ (after_build 2 E st).marks
  after-build s size few st h =
      release-marks x s size m few
      ∙ fun_ext (λ e. fun_ext (λ r. rw (h, released-at e)))
