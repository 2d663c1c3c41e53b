-- Laws of the pool that stands in tables: its nodes and roots are those of the words.
-- Assumes nothing.
use Rattle.std.specs.Prelude.{ℕ, zero, suc, ◌<◌, ◌≡◌, refl, List, [], ◌∷◌, ◌++◌, ◌⊎◌, length}
use Rattle.std.proofs.Common.{sym, ◌∙◌, subst, inl, inr, eq-or-lt_of_le, not-suc-le-zero, le_of_suc-le-suc, add-one, length-append}
use Rattle.std.proofs.Math.Path.{ap}
use Rattle.std.proofs.Math.Option.{Option, some}
use Rattle.meaning.specs.Trees.{nth}
use Rattle.frames.specs.Tables.{node_in, expression_in, first as first_of}
use Rattle.pool.specs.Words.{root_in}
use Rattle.frames.specs.declared.rest.Expression.{Expression}
use Rattle.pool.specs.Pool.{node, root_of, or_else}
use Rattle.pool.specs.Tabled.{Tables, tabled}

pub nth-before : {A : Type 0} (xs ys : List A) (i : ℕ) → i < length xs → nth (xs ++ ys) i ≡ nth xs i
nth-before [] ys i h = absurd (not-suc-le-zero h)
nth-before (x ∷ xs) ys zero h = refl
nth-before (x ∷ xs) ys (suc i) h = nth-before xs ys i (le_of_suc-le-suc h)

pub nth_end : {A : Type 0} (xs : List A) (a : A) → nth (xs ++ (a ∷ [])) (length xs) ≡ some a
nth_end [] a = refl
nth_end (x ∷ xs) a = nth_end xs a

pub first-length : {A : Type 0} (f : ℕ → A) (n : ℕ) → length (first_of f n) ≡ n
unfolding first_of
first-length f zero = refl
first-length f (suc n) = length-append (first_of f n) (f n ∷ []) ∙ rw (first-length f n) (add-one n)

pub first-nth : {A : Type 0} (f : ℕ → A) (n i : ℕ) → i < n → nth (first_of f n) i ≡ some (f i)
unfolding first_of
first-nth f zero i h = absurd (not-suc-le-zero h)
first-nth f (suc n) i h = go (first-nth f n i) (eq-or-lt_of_le (le_of_suc-le-suc h))
  where
    go : (i < n → nth (first_of f n) i ≡ some (f i)) → (i ≡ n) ⊎ (i < n) → nth (first_of f n ++ (f n ∷ [])) i ≡ some (f i)
    go ih (inl e) = subst (λ k. nth (first_of f n ++ (f n ∷ [])) k ≡ some (f k)) (sym e) (ap (nth (first_of f n ++ (f n ∷ []))) (sym (first-length f n)) ∙ nth_end (first_of f n) (f n))
    go ih (inr l) = nth-before (first_of f n) (f n ∷ []) i (subst (λ k. i < k) (sym (first-length f n)) l) ∙ ih l

module _ (t : Tables) where
  pub node-count : length (tabled t).nodes ≡ t.node_count
  unfolding tabled
  node-count = first-length (node_in t.nodes t.literals) t.node_count

  pub expression-count : length (tabled t).expressions ≡ t.expression_count
  unfolding tabled
  expression-count = first-length (expression_in t.expressions) t.expression_count

  pub node_at : (n : ℕ) → n < t.node_count → node (tabled t) n ≡ node_in t.nodes t.literals n
  unfolding tabled
  node_at n h = rw (first-nth (node_in t.nodes t.literals) t.node_count n h)

  pub root-at : (e : ℕ) → e < t.expression_count → root_of (tabled t) e ≡ root_in t.expressions e
  unfolding tabled
  root-at e h = ap (λ (z : Option Expression). (or_else z (record { root = 0; flags = 0 })).root) (first-nth (expression_in t.expressions) t.expression_count e h)
