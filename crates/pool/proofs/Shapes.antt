-- The shape of the pool that stands in tables, from what the tests on the tables found.
-- Assumes nothing.
use Prim.Native.Nat.{ℕ, zero, suc, ◌+◌, ◌<◌, ◌≤◌, min}
use mathlib.Core.Path.{◌≡◌, refl, sym, ◌∙◌, ap, ap₂}
use mathlib.Core.Bool.{true≢false, Bool, true, false, not, ◌&&◌}
use mathlib.Core.Option.{Option, none, some}
use Rattle.std.specs.Prelude as std
use Rattle.std.specs.Prelude.{Result, Ok, Err, Some, None, is_some}
use Rattle.kinds.specs.Answers.{refusal_of, blame_of}
use Rattle.kinds.specs.declared.refusal.Refused.{Refused}
use Rattle.meaning.proofs.Laws.Tests.{done-not-refused}
use Rattle.pool.specs.Admitting.{shape_says}
use mathlib.Core.List.{List, [], ◌∷◌, ◌++◌, append_assoc, append-nil}
use native.Mathlib.Omega.{arith}
use lib.ListN.{length, replicate, length-replicate}
use lib.Dec.{eqb, leb}
use borrow.Author.Tests.{le-leb, lt-leb, leb-true, leb-false}
use Rattle.meaning.specs.Refusals.{Refusal, done, refused}
use Rattle.frames.specs.declared.node.Node.{Node}
use Rattle.frames.specs.declared.rest.Expression.{Expression}
use Rattle.frames.specs.Tables.{node_in, expression_in, first as first_of}
use Rattle.pool.specs.Words.{root_in}
use Rattle.kinds.specs.KindBytes as kind
use Rattle.kinds.specs.Kinds.{child_count}
use Rattle.pool.specs.Pool.{Pool, children, child_uses, root_uses, uses, times}
use Rattle.pool.specs.Admission.{first_from, first, some_from, wrong_count, late_child, used_twice, lost_leaf, lost_root, unless, shape}
use Rattle.pool.specs.Tabled.{Tables, tabled, children_in}
use Rattle.pool.specs.Shapes.{found_at, wrong_in, late_in, twice_in, lost_in, lost_root_in, child_uses_in, root_uses_in, Tallied, Tallies}
use Rattle.pool.specs.Laws.Tabled.{node-count, expression-count, node_at, root-at}
use Rattle.pool.proofs.AllRanks.{zero-at}
use Rattle.pool.proofs.Tally.{tallies_both}

-- tests that agree find the same first
first-from-same : (f g : ℕ → Bool) (k m : ℕ) → ((j : ℕ) → k ≤ j → j < k + m → f j ≡ g j) → first_from f k m ≡ first_from g k m
first-from-same f g k zero h = refl
first-from-same f g k (suc m) h = rw (h k (omega arith) (omega arith), first-from-same f g (suc k) m (λ j a b. h j (omega arith) (omega arith)))

first-same : (f g : ℕ → Bool) (m n : ℕ) → m ≡ n → ((j : ℕ) → j < n → f j ≡ g j) → first f m ≡ first g n
first-same f g m n e h = ap (first f) e ∙ first-from-same f g 0 n (λ j a b. h j (omega arith))

child-uses-append : (xs ys : List Node) → child_uses (xs ++ ys) ≡ child_uses xs ++ child_uses ys
child-uses-append [] ys = refl
child-uses-append (x ∷ xs) ys = ap (λ l. children x ++ l) (child-uses-append xs ys) ∙ sym (append_assoc (children x) (child_uses xs) (child_uses ys))

root-uses-append : (xs ys : List Expression) → root_uses (xs ++ ys) ≡ root_uses xs ++ root_uses ys
root-uses-append [] ys = refl
root-uses-append (x ∷ xs) ys = ap (λ l. x.root ∷ l) (root-uses-append xs ys)

child-uses_are : (w l : List ℕ) (n : ℕ) → child_uses (first_of (node_in w l) n) ≡ child_uses_in w n
unfolding first_of child_uses_in
child-uses_are w l zero = refl
child-uses_are w l (suc n) =
    child-uses-append (first_of (node_in w l) n) (node_in w l n ∷ []) ∙ ap₂ ◌++◌ (child-uses_are w l n) (append-nil (children_in w n))

root-uses_are : (x : List ℕ) (m : ℕ) → root_uses (first_of (expression_in x) m) ≡ root_uses_in x m
unfolding first_of root_uses_in
root-uses_are x zero = refl
root-uses_are x (suc m) = root-uses-append (first_of (expression_in x) m) (expression_in x m ∷ []) ∙ ap (λ l. l ++ (root_in x m ∷ [])) (root-uses_are x m)

two-of-min : (a : ℕ) → leb 2 (min 2 a) ≡ leb 2 a
two-of-min a = go (leb 2 a) refl
  where
    go : (b : Bool) → leb 2 a ≡ b → leb 2 (min 2 a) ≡ leb 2 a
    go true q = let l = leb-true 2 a q in le-leb 2 (min 2 a) (omega arith) ∙ sym q
    go false q = let l = leb-false 2 a q in lt-leb 2 (min 2 a) (omega arith) ∙ sym q

-- a table in which nothing is counted
pub none-tallied : Tallied (replicate 4096 0) []
none-tallied = record { size = length-replicate {A = ℕ} 4096 0; counts = λ k l. zero-at 4096 k }

-- the refusal of a number that was found
abbrev pub Stops : Refusal → Option ℕ → Refusal → Option ℕ → Type 0
Stops k o r b = unless k some o ≡ refused r b

-- what `unless` answered: nothing was found, or the refusal
module _ (k : Refusal) {o o' : Option ℕ} {a : Result (Unit {0}) Refused} (h : shape_says a ≡ unless k some o) (e : o ≡ o') where
  pub passed : {u : Unit {0}} → a ≡ Ok u → none ≡ o'
  passed q = by o' (rw (q, e) at h)
    where
      by : (o : Option ℕ) → done tt ≡ unless k some o → none ≡ o
      by none z = refl
      by (some i) z = absurd (done-not-refused z)

  pub stopped : {f : Refused} → a ≡ Err f → Stops k o' (refusal_of f.refusal) (blame_of f.node)
  stopped q = sym (rw (q, e) at h)

-- what is found, where something is
pub some-found : (r : std.Option ℕ) {o : Option ℕ} → found_at r ≡ o → is_some r ≡ true → (k : ℕ) × (some k ≡ o)
some-found None e q = absurd (true≢false (sym q))
some-found (Some k) e q = (k, e)

pub none-at : (r : std.Option ℕ) {o : Option ℕ} → found_at r ≡ o → is_some r ≡ false → none ≡ o
none-at None e q = e
none-at (Some k) e q = absurd (true≢false q)

module _ (t : Tables) where
  abbrev p : Pool
  p = tabled t

  uses_are : uses p ≡ child_uses_in t.nodes t.node_count ++ root_uses_in t.expressions t.expression_count
  unfolding tabled
  uses_are = ap₂ ◌++◌ (child-uses_are t.nodes t.literals t.node_count) (root-uses_are t.expressions t.expression_count)

  wrong_are : first (wrong_count p) (length p.nodes) ≡ first (wrong_in t.nodes) t.node_count
  wrong_are =
      first-same (wrong_count p) (wrong_in t.nodes) (length p.nodes) t.node_count (node-count t)
      (λ j l. ap (λ (x : Node). not (eqb x.count (child_count x.kind))) (node_at t j l))

  late_are : first (late_child p) (length p.nodes) ≡ first (late_in t.nodes) t.node_count
  unfolding late_in
  late_are =
      first-same (late_child p) (late_in t.nodes) (length p.nodes) t.node_count (node-count t)
      (λ j l. ap (λ (x : Node). some_from j (children x)) (node_at t j l))

  lost_are : first (lost_leaf p) (length p.nodes) ≡ first (lost_in t.nodes t.expression_count) t.node_count
  unfolding lost_in
  lost_are =
      first-same (lost_leaf p) (lost_in t.nodes t.expression_count) (length p.nodes) t.node_count (node-count t)
      (λ j l. ap (λ (x : Node). eqb x.kind kind.exp && leb (length p.expressions) x.id) (node_at t j l) ∙ rw (expression-count t))

  roots_are : first (lost_root p) (length p.expressions) ≡ first (lost_root_in t.expressions t.node_count) t.expression_count
  roots_are =
      first-same (lost_root p) (lost_root_in t.expressions t.node_count) (length p.expressions) t.expression_count (expression-count t)
      (λ j l. ap₂ leb (node-count t) (root-at t j l))

  -- the uses tallied
  module _ {u0 u1 u2 : List ℕ} (z : u0 ≡ replicate 4096 0) (f : Tallies u0 u1 (child_uses_in t.nodes t.node_count)) (g : Tallies u1 u2 (root_uses_in t.expressions t.expression_count)) (few : t.node_count ≤ 4096) where
    tallied : Tallied u2 (uses p)
    tallied = rw uses_are (tallies_both (child_uses_in t.nodes t.node_count) (root_uses_in t.expressions t.expression_count) f g [] (rw z none-tallied))

    twice_are : first (used_twice p) (length p.nodes) ≡ first (twice_in u2) t.node_count
    twice_are =
        first-same (used_twice p) (twice_in u2) (length p.nodes) t.node_count (node-count t)
        (λ j l. sym (two-of-min (times j (uses p))) ∙ ap (leb 2) (sym (tallied.counts j (omega arith))))

    -- what was found, one test after another
    module _ (q1 : none ≡ first (wrong_in t.nodes) t.node_count) (q2 : none ≡ first (late_in t.nodes) t.node_count) where
      pub shape_twice : {r : Refusal} {b : Option ℕ} → Stops Refusal.not_there (first (twice_in u2) t.node_count) r b → refused r b ≡ shape p
      unfolding shape
      shape_twice h = sym (rw (wrong_are ∙ sym q1, late_are ∙ sym q2, twice_are, h))

      module _ (q3 : none ≡ first (twice_in u2) t.node_count) where
        pub shape-lost : {r : Refusal} {b : Option ℕ} → Stops Refusal.not_there (first (lost_in t.nodes t.expression_count) t.node_count) r b → refused r b ≡ shape p
        unfolding shape
        shape-lost h = sym (rw (wrong_are ∙ sym q1, late_are ∙ sym q2, twice_are ∙ sym q3, lost_are, h))

        module _ (q4 : none ≡ first (lost_in t.nodes t.expression_count) t.node_count) where
          pub shape-root : {k : ℕ} → some k ≡ first (lost_root_in t.expressions t.node_count) t.expression_count → refused Refusal.not_there none ≡ shape p
          unfolding shape
          shape-root h = sym (rw (wrong_are ∙ sym q1, late_are ∙ sym q2, twice_are ∙ sym q3, lost_are ∙ sym q4, roots_are ∙ sym h))

          pub shape-fine : none ≡ first (lost_root_in t.expressions t.node_count) t.expression_count → done tt ≡ shape p
          unfolding shape
          shape-fine h = sym (rw (wrong_are ∙ sym q1, late_are ∙ sym q2, twice_are ∙ sym q3, lost_are ∙ sym q4, roots_are ∙ sym h))

  pub shape-wrong : {r : Refusal} {b : Option ℕ} → Stops Refusal.child_count (first (wrong_in t.nodes) t.node_count) r b → refused r b ≡ shape p
  unfolding shape
  shape-wrong h = sym (rw (wrong_are, h))

  pub shape-late :
      none ≡ first (wrong_in t.nodes) t.node_count → {r : Refusal} {b : Option ℕ} → Stops Refusal.not_there (first (late_in t.nodes) t.node_count) r b
      → refused r b ≡ shape p
  unfolding shape
  shape-late q h = sym (rw (wrong_are ∙ sym q, late_are, h))
