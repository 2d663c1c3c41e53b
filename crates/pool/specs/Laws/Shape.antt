-- Refusals 2 and 3 exactly when their conditions hold, and what it says that there is none.
-- Assumes nothing.
use Rattle.std.specs.Prelude.{ℕ, ◌<◌, ◌≤◌, ◌≡◌, Bool, true, false, ◌&&◌, ◌||◌, List, [], ◌∷◌, length, eqb, leb}
use Rattle.std.proofs.Math.Path.{refl}
use Rattle.std.proofs.Common.{subst, inl, inr, arith}
use Rattle.std.proofs.Math.Option.{Option, none, some}
use borrow.Author.Tests.{eqb-true, eqb-false, leb-true, leb-false, eq-eqb, not-true, not-false}
use Rattle.meaning.specs.Refusals.{Refusal, Answer, done, refused, ◌then◌}
use Rattle.meaning.specs.Trees.{Each, Member}
use Rattle.meaning.proofs.Laws.Tests.{and_left, and_right, true-false}
use Rattle.kinds.specs.KindBytes as kind
use Rattle.kinds.specs.Kinds.{child_count}
use Rattle.pool.specs.Pool.{Pool, node, root_of, children, uses, times}
use Rattle.pool.specs.Admission.{first, wrong_count, some_from, late_child, used_twice, lost_leaf, lost_root, unless, shape}
use Rattle.pool.specs.Shaped.{Shaped}
use Rattle.pool.specs.Verdict.{SomeWrongCount, SomeNotThere}
use Rattle.pool.specs.Laws.Members.{member-each}
use Rattle.pool.specs.Laws.First.{found-is, none_is}

-- someone below m has it
abbrev pub Some : (ℕ → Bool) → ℕ → Type 0
Some f m = (n : ℕ) × (n < m) × (f n ≡ true)

abbrev pub None : (ℕ → Bool) → ℕ → Type 0
None f m = (n : ℕ) → n < m → f n ≡ false

pub some_is : (f : ℕ → Bool) (m n : ℕ) → first f m ≡ some n → Some f m
some_is f m n h = let r = found-is f 0 m n h in (n, omega (arith, r.high), r.holds)

pub none_are : (f : ℕ → Bool) (m : ℕ) → first f m ≡ none → None f m
none_are f m h n l = none_is f 0 m h n (omega arith) (omega arith)

-- each computed test is its condition
module _ (p : Pool) where
  wrong-true : (n : ℕ) → wrong_count p n ≡ true → (node p n).count ≡ child_count (node p n).kind → ⊥
  wrong-true n h = eqb-false _ _ (not-true _ h)

  wrong-false : (n : ℕ) → wrong_count p n ≡ false → (node p n).count ≡ child_count (node p n).kind
  wrong-false n h = eqb-true _ _ (not-false _ h)

  from-true : (n : ℕ) (cs : List ℕ) → some_from n cs ≡ true → (c : ℕ) × Member c cs × (n ≤ c)
  from-true n [] h = absurd (true-false h refl)
  from-true n (c ∷ cs) h = go (from-true n cs) (leb n c) refl h
    where
      go :
          (some_from n cs ≡ true → (d : ℕ) × Member d cs × (n ≤ d)) → (b : Bool) → leb n c ≡ b → (b || some_from n cs) ≡ true →
          (d : ℕ) × Member d (c ∷ cs) × (n ≤ d)
      go ih true q k = (c, inl refl, leb-true n c q)
      go ih false q k = let r = ih k in (r.0, inr r.1, r.2)

  from_false : (n : ℕ) (cs : List ℕ) → some_from n cs ≡ false → Each (λ c. c < n) cs
  from_false n [] h = tt
  from_false n (c ∷ cs) h = go (from_false n cs) (leb n c) refl h
    where
      go : (some_from n cs ≡ false → Each (λ d. d < n) cs) → (b : Bool) → leb n c ≡ b → (b || some_from n cs) ≡ false → Each (λ d. d < n) (c ∷ cs)
      go ih true q k = absurd (true-false refl k)
      go ih false q k = (leb-false n c q, ih k)

  lost-false : (n : ℕ) → lost_leaf p n ≡ false → (node p n).kind ≡ kind.exp → (node p n).id < length p.expressions
  lost-false n h e =
      let k : (true && leb (length p.expressions) (node p n).id) ≡ false = subst (λ b. (b && leb (length p.expressions) (node p n).id) ≡ false) (eq-eqb _ _ e) h in
      leb-false _ _ k

  lost-true : (n : ℕ) → lost_leaf p n ≡ true → ((node p n).kind ≡ kind.exp) × (length p.expressions ≤ (node p n).id)
  lost-true n h =
      let a = eqb (node p n).kind kind.exp in
      let b = leb (length p.expressions) (node p n).id in
      (eqb-true _ _ (and_left a b h), leb-true _ _ (and_right a b h))

  -- NO REFUSAL 2 OR 3: the pool has its shape
  abbrev Free : Type 0
  Free =
      None (wrong_count p) (length p.nodes) × None (late_child p) (length p.nodes) × None (used_twice p) (length p.nodes) × None (lost_leaf p) (length p.nodes)
      × None (lost_root p) (length p.expressions)

  free-shaped : Free → Shaped p
  free-shaped f = record {
    counts = λ n l. wrong-false n (f.0 n l);
    earlier = λ n l. from_false n (children (node p n)) (f.1 n l);
    once = λ n l. omega (arith, leb-false 2 (times n (uses p)) (f.2 n l));
    asked = λ n l e. lost-false n (f.3 n l) e;
    rooted = λ e l. leb-false (length p.nodes) (root_of p e) (f.4 e l);
  }

  -- WHAT `shape` ANSWERS, by cases
  pub data Shape : Answer (Unit {0}) → Type 0 where
    count : (n : ℕ) → SomeWrongCount p → Shape (refused Refusal.child_count (some n))
    child : (n : ℕ) → (SomeWrongCount p → ⊥) → SomeNotThere p → Shape (refused Refusal.not_there (some n))
    root : (SomeWrongCount p → ⊥) → SomeNotThere p → Shape (refused Refusal.not_there none)
    fine : Shaped p → Shape (done tt)

  no-wrong : None (wrong_count p) (length p.nodes) → SomeWrongCount p → ⊥
  no-wrong h s = s.2 (wrong-false s.0 (h s.0 s.1))

  pub shape_is : Shape (shape p)
  unfolding shape
  shape_is = one (first (wrong_count p) (length p.nodes)) refl
    where
      five :
          None (wrong_count p) (length p.nodes) → None (late_child p) (length p.nodes) → None (used_twice p) (length p.nodes) → None (lost_leaf p) (length p.nodes) →
          (o : Option ℕ) → first (lost_root p) (length p.expressions) ≡ o → Shape (unless Refusal.not_there (λ e. none) o)
      five a b c d none q = fine (free-shaped (a, b, c, d, none_are (lost_root p) (length p.expressions) q))
      five a b c d (some e) q =
          let s = some_is (lost_root p) (length p.expressions) e q in
          root (no-wrong a) (inr (inr (inr (s.0, s.1, leb-true _ _ s.2))))

      four :
          None (wrong_count p) (length p.nodes) → None (late_child p) (length p.nodes) → None (used_twice p) (length p.nodes) →
          (o : Option ℕ) → first (lost_leaf p) (length p.nodes) ≡ o →
          Shape (unless Refusal.not_there some o then λ _. unless Refusal.not_there (λ e. none) (first (lost_root p) (length p.expressions)))
      four a b c none q = five a b c (none_are (lost_leaf p) (length p.nodes) q) (first (lost_root p) (length p.expressions)) refl
      four a b c (some n) q =
          let s = some_is (lost_leaf p) (length p.nodes) n q in
          let t = lost-true s.0 s.2 in
          child n (no-wrong a) (inr (inr (inl (s.0, s.1, t.0, t.1))))

      three :
          None (wrong_count p) (length p.nodes) → None (late_child p) (length p.nodes) →
          (o : Option ℕ) → first (used_twice p) (length p.nodes) ≡ o →
          Shape
          (unless Refusal.not_there some o then λ _.
          unless Refusal.not_there some (first (lost_leaf p) (length p.nodes)) then λ _.
          unless Refusal.not_there (λ e. none) (first (lost_root p) (length p.expressions)))
      three a b none q = four a b (none_are (used_twice p) (length p.nodes) q) (first (lost_leaf p) (length p.nodes)) refl
      three a b (some n) q =
          let s = some_is (used_twice p) (length p.nodes) n q in
          child n (no-wrong a) (inr (inl (s.0, s.1, leb-true _ _ s.2)))

      two :
          None (wrong_count p) (length p.nodes) → (o : Option ℕ) → first (late_child p) (length p.nodes) ≡ o →
          Shape
          (unless Refusal.not_there some o then λ _.
          unless Refusal.not_there some (first (used_twice p) (length p.nodes)) then λ _.
          unless Refusal.not_there some (first (lost_leaf p) (length p.nodes)) then λ _.
          unless Refusal.not_there (λ e. none) (first (lost_root p) (length p.expressions)))
      two a none q = three a (none_are (late_child p) (length p.nodes) q) (first (used_twice p) (length p.nodes)) refl
      two a (some n) q =
          let s = some_is (late_child p) (length p.nodes) n q in
          child n (no-wrong a) (inl (s.0, s.1, from-true s.0 (children (node p s.0)) s.2))

      one :
          (o : Option ℕ) → first (wrong_count p) (length p.nodes) ≡ o →
          Shape
          (unless Refusal.child_count some o then λ _.
          unless Refusal.not_there some (first (late_child p) (length p.nodes)) then λ _.
          unless Refusal.not_there some (first (used_twice p) (length p.nodes)) then λ _.
          unless Refusal.not_there some (first (lost_leaf p) (length p.nodes)) then λ _.
          unless Refusal.not_there (λ e. none) (first (lost_root p) (length p.expressions)))
      one none q = two (none_are (wrong_count p) (length p.nodes) q) (first (late_child p) (length p.nodes)) refl
      one (some n) q =
          let s = some_is (wrong_count p) (length p.nodes) n q in
          count n (s.0, s.1, wrong-true s.0 s.2)

-- a pool with its shape has none of the conditions
pub shaped-counts : (p : Pool) → Shaped p → SomeWrongCount p → ⊥
shaped-counts p s w = w.2 (s.counts w.0 w.1)

pub shaped-there : (p : Pool) → Shaped p → SomeNotThere p → ⊥
shaped-there p s (inl w) =
    let l : w.2.0 < w.0 = member-each (λ c. c < w.0) (children (node p w.0)) (s.earlier w.0 w.1) w.2.0 w.2.1 in
    omega (arith, w.2.2)
shaped-there p s (inr (inl w)) = omega (arith, w.2, s.once w.0 w.1)
shaped-there p s (inr (inr (inl w))) = omega (arith, w.3, s.asked w.0 w.1 w.2)
shaped-there p s (inr (inr (inr w))) = omega (arith, w.2, s.rooted w.0 w.1)
