-- What one evaluation reaches: an accepted one makes every cell that it evaluates, and one that is refused with 5 evaluates a cell with a leaf that reads
-- a row that is not there.
-- Assumes nothing.
use Rattle.std.specs.Prelude.{ℕ, zero, suc, ◌+◌, ◌<◌, ◌≡◌, refl, Bool, true, false, ◌&&◌, cond, List, [], ◌∷◌, ◌⊎◌, length, eqb}
use Rattle.std.proofs.Common.{sym, ◌∙◌, ap, subst, inl, inr, ⊎_elim, arith, eqb-true, ltb-true}
use Rattle.std.proofs.Math.Option.{Option, none, some, some-injective}
use Rattle.meaning.specs.Refusals.{Refusal, Answer, done, refused, ◌then◌}
use Rattle.meaning.specs.Trees.{Leaf, Expression, Forest, Acyclic, nth, Placed, ◌at◌, leaves, Each, Member}
use Rattle.meaning.specs.Order.{Marks, marking, Job, Asked, nothing, asked, there, in_rows, primed, own, ask_leaf, ask_leaves, fresh, ask_below, ask}
use Rattle.meaning.specs.Conditions.{Evaluated, DoublePrime}
use Rattle.meaning.proofs.Laws.Tests.{true-false, not-true, and_left, and_right, done-not-refused, each_map, each_member}
use Rattle.meaning.proofs.Laws.Fuse.{asked-leaves}
use Rattle.meaning.proofs.Laws.Levels.{then-refused, asks-refuse_5}
use Rattle.meaning.proofs.Laws.Jobs.{after, there-some, InRows, DepMarked, dep_after, AllFine, Gives, grown, Asks, Sound, primed_in, leaf-sound, ask-sound, asks}

-- ── members ──────────────────────────────────────────────────────────────────
members : {A : Type 0} (xs : List A) → Each (λ a. Member a xs) xs
members [] = tt
members (x ∷ xs) = (inl refl, each_map (λ a. Member a xs) (λ a. Member a (x ∷ xs)) (λ a k. inr k) xs (members xs))

-- whatever follows from a refusal of the first part and from one of what comes after it
refused-either :
    {A B P : Type 0} (x : Answer A) (f : A → Answer B) {r : Refusal} {n : Option ℕ} → (x then f) ≡ refused r n →
    (x ≡ refused r n → P) → ((a : A) → x ≡ done a → f a ≡ refused r n → P) → P
refused-either x f h first second = ⊎_elim first (λ z. second z.0 z.1 z.2) (then-refused x f h)

there-no-double : {A : Type 0} (o : Option A) {n : Option ℕ} → there o ≡ refused Refusal.double_prime n → ⊥
there-no-double none h = let z : ◌≡◌ {A = ℕ} 0 1 = cc in omega arith
there-no-double (some a) h = done-not-refused h

-- one of the jobs is of this cell
abbrev pub Among : ℕ → ℕ → List Job → Type 0
Among e r [] = ⊥
Among e r (j ∷ js) = ((j.expression ≡ e) × (j.row ≡ r)) ⊎ Among e r js

-- a cell that jobs mark is among them
pub new-among : (m : Marks) (js : List Job) (e r : ℕ) → m e r ≡ false → after m js e r ≡ true → Among e r js
new-among m [] e r u h = absurd (true-false h u)
new-among m (j ∷ js) e r u h = go (new-among (marking m j.expression j.row) js e r) (eqb j.expression e && eqb j.row r) refl
  where
    go :
        (marking m j.expression j.row e r ≡ false → after (marking m j.expression j.row) js e r ≡ true → Among e r js) →
        (b : Bool) → (eqb j.expression e && eqb j.row r) ≡ b → Among e r (j ∷ js)
    go ih true q = inl (eqb-true j.expression e (and_left _ _ q), eqb-true j.row r (and_right (eqb j.expression e) _ q))
    go ih false q = inr (ih (rw q u) h)

module _ (rows : ℕ) (E : Forest) where
  -- what is known of a cell that was made, with the marks after all jobs
  record MadeCell (m : Marks) (e r : ℕ) : Type 0 where
    expression : Expression
    found : nth E e ≡ some expression
    rows_there : Each (InRows rows r) (leaves expression.tree)
    deps_marked : Each (DepMarked rows m r) (leaves expression.tree)

  made-cell : (m : Marks) (js : List Job) → AllFine rows E m js → (e r : ℕ) → Among e r js → MadeCell (after m js) e r
  made-cell m [] h e r k = absurd k
  made-cell m (j ∷ js) h e r (inl q) =
      let f = h.0 in
      let c : MadeCell (after m (j ∷ js)) j.expression j.row = record {
        expression = f.expression;
        found = f.found;
        rows_there = f.rows_there;
        deps_marked = each_map (DepMarked rows m j.row) (DepMarked rows (after m (j ∷ js)) j.row) (dep_after rows m (j ∷ js) j.row) (leaves f.expression.tree) f.deps_marked;
      } in
      subst (λ s. MadeCell (after m (j ∷ js)) e s) q.1 (subst (λ f. MadeCell (after m (j ∷ js)) f j.row) q.0 c)
  made-cell m (j ∷ js) h e r (inr k) = made-cell (marking m j.expression j.row) js h.1 e r k

  -- ── an accepted evaluation makes every cell that it evaluates ──────────────
  module _ (m : Marks) (a : Asked) (g : Gives rows E m a) (e r : ℕ) (marked : a.marks e r ≡ true) where
    made : (f s : ℕ) → Among f s a.jobs → MadeCell (after m a.jobs) f s
    made f s k = made-cell m a.jobs g.fine f s k

    evaluated-made : {f s : ℕ} → Evaluated rows E m e r f s → Among f s a.jobs
    evaluated-made (Evaluated.itself u) = new-among m a.jobs e r u (sym (ap (λ z. z e r) g.marks) ∙ marked)
    evaluated-made (Evaluated.named {f} {s} v x q i b n k l u) =
        let c = made f s (evaluated-made v) in
        let w : c.expression ≡ x = some-injective _ _ (sym c.found ∙ q) in
        let d = each_member (DepMarked rows (after m a.jobs) s) (leaves c.expression.tree) c.deps_marked (Leaf.exp i b at n) (rw w k) in
        new-among m a.jobs i (s + b) u d

    pub accepted-single : DoublePrime rows E m e r → ⊥
    accepted-single d =
        let c = made d.expression d.row (evaluated-made d.evaluated) in
        let w : c.expression ≡ d.found = some-injective _ _ (sym c.found ∙ d.there) in
        true-false (each_member (InRows rows d.row) (leaves c.expression.tree) c.rows_there (d.leaf at d.node) (rw w d.stands)) d.beyond

  -- ── a refused evaluation reaches such a leaf ───────────────────────────────
  -- with fewer marks more is evaluated
  fewer : (m n : Marks) → ((f s : ℕ) → n f s ≡ true → m f s ≡ true) → (f s : ℕ) → m f s ≡ false → n f s ≡ false
  fewer m n k f s u = not-true (n f s) (λ t. true-false (k f s t) u)

  evaluated-fewer : {m n : Marks} {e r f s : ℕ} → ((f s : ℕ) → n f s ≡ true → m f s ≡ true) → Evaluated rows E m e r f s → Evaluated rows E n e r f s
  evaluated-fewer {m} {n} {e} {r} k (Evaluated.itself u) = Evaluated.itself (fewer m n k e r u)
  evaluated-fewer {m} {n} k (Evaluated.named {s = s} v x q i a p w l u) = Evaluated.named (evaluated-fewer k v) x q i a p w l (fewer m n k i (s + a) u)

  double-fewer : {m n : Marks} {e r : ℕ} → ((f s : ℕ) → n f s ≡ true → m f s ≡ true) → DoublePrime rows E m e r → DoublePrime rows E n e r
  double-fewer k d = record {
    expression = d.expression;
    row = d.row;
    evaluated = evaluated-fewer k d.evaluated;
    found = d.found;
    there = d.there;
    leaf = d.leaf;
    node = d.node;
    stands = d.stands;
    beyond = d.beyond;
  }

  -- what an exp leaf's expression evaluates, its own expression does
  module _ (m : Marks) (e r : ℕ) (u : m e r ≡ false) (x : Expression) (q : nth E e ≡ some x) (i a n : ℕ) (w : Member (Leaf.exp i a at n) (leaves x.tree)) (l : r + a < rows) where
    evaluated-through : {f s : ℕ} → Evaluated rows E m i (r + a) f s → Evaluated rows E m e r f s
    evaluated-through (Evaluated.itself v) = Evaluated.named (Evaluated.itself u) x q i a n w l v
    evaluated-through (Evaluated.named v y p j b o k t z) = Evaluated.named (evaluated-through v) y p j b o k t z

    double-through : DoublePrime rows E m i (r + a) → DoublePrime rows E m e r
    double-through d = record {
      expression = d.expression;
      row = d.row;
      evaluated = evaluated-through d.evaluated;
      found = d.found;
      there = d.there;
      leaf = d.leaf;
      node = d.node;
      stands = d.stands;
      beyond = d.beyond;
    }

  -- what is shown of a way to ask
  abbrev Finds : Asks rows E → Type 0
  Finds f = (e r : ℕ) (m : Marks) (o : Option ℕ) → f e r m ≡ refused Refusal.double_prime o → DoublePrime rows E m e r

  primed-out : (l : Leaf) (n r : ℕ) {k : Refusal} {o : Option ℕ} → primed rows l n r ≡ refused k o → in_rows rows l r ≡ false
  primed-out l n r {k} {o} h = go (in_rows rows l r) h
    where
      go : (b : Bool) → ◌≡◌ {A = Answer (Unit {0})} (cond b (done tt) (refused Refusal.double_prime (some n))) (refused k o) → b ≡ false
      go true q = absurd (done-not-refused q)
      go false q = refl

  -- either each leaf reads a row that is there, or one does not
  abbrev Outside : ℕ → List Placed → Type 0
  Outside r ls = (l : Leaf) × (n : ℕ) × Member (l at n) ls × (in_rows rows l r ≡ false)

  outside : (r : ℕ) (ls : List Placed) → Each (InRows rows r) ls ⊎ Outside r ls
  outside r [] = inl tt
  outside r ((l at n) ∷ ls) = go (in_rows rows l r) refl (outside r ls)
    where
      go : (b : Bool) → in_rows rows l r ≡ b → Each (InRows rows r) ls ⊎ Outside r ls → Each (InRows rows r) ((l at n) ∷ ls) ⊎ Outside r ((l at n) ∷ ls)
      go true q (inl h) = inl (q, h)
      go true q (inr h) = inr (h.0, h.1, inr h.2, h.3)
      go false q h = inr (l, n, inl refl, q)

  own-done : (ls : List Placed) (r : ℕ) → Each (InRows rows r) ls → own rows ls r ≡ done tt
  own-done [] r h = refl
  own-done ((l at n) ∷ ls) r h = rw h.0 (own-done ls r h.1)

  -- a cell without a mark whose tree is there
  module _ (e r : ℕ) (m : Marks) (u : m e r ≡ false) (x : Expression) (q : nth E e ≡ some x) where
    here : (l : Leaf) (n : ℕ) → Member (l at n) (leaves x.tree) → in_rows rows l r ≡ false → DoublePrime rows E m e r
    here l n w b = record {
      expression = e;
      row = r;
      evaluated = Evaluated.itself u;
      found = x;
      there = q;
      leaf = l;
      node = n;
      stands = w;
      beyond = b;
    }

    own_finds : (fused : Bool) {k : Refusal} {o : Option ℕ} → own rows (leaves (asked fused x.tree)) r ≡ refused k o → DoublePrime rows E m e r
    own_finds fused {k} {o} h = go (outside r (leaves x.tree))
      where
        go : Each (InRows rows r) (leaves x.tree) ⊎ Outside r (leaves x.tree) → DoublePrime rows E m e r
        go (inl a) = absurd (done-not-refused (sym (own-done (leaves (asked fused x.tree)) r ((asked-leaves (InRows rows r) fused x.tree).1 a)) ∙ h))
        go (inr b) = here b.0 b.1 b.2 b.3

    module _ (f : Asks rows E) (sound : Sound rows E f) (finds : Finds f) where
      abbrev Grown : Marks → Type 0
      Grown s = (i t : ℕ) → m i t ≡ true → s i t ≡ true

      leaf_finds :
          (l : Leaf) (n : ℕ) → Member (l at n) (leaves x.tree) → (s : Marks) → Grown s → (o : Option ℕ) →
          ask_leaf rows f l n r s ≡ refused Refusal.double_prime o → DoublePrime rows E m e r
      leaf_finds (Leaf.cell k i a) n w s g o h = absurd (done-not-refused h)
      leaf_finds (Leaf.exp i a) n w s g o h =
          refused-either (primed rows (Leaf.exp i a) n r) _ h
          (λ k. here (Leaf.exp i a) n w (primed-out (Leaf.exp i a) n r k))
          (λ v p k. double-through m e r u x q i a n w (ltb-true (r + a) rows (primed_in rows E (Leaf.exp i a) n r p)) (double-fewer g (finds i (r + a) s o k)))
      leaf_finds (Leaf.number l) n w s g o h = absurd (done-not-refused h)
      leaf_finds (Leaf.flat k i) n w s g o h = absurd (done-not-refused h)
      leaf_finds (Leaf.x k) n w s g o h = absurd (done-not-refused h)

      leaves-find :
          (ls : List Placed) → Each (λ p. Member p (leaves x.tree)) ls → (s : Marks) → Grown s → (o : Option ℕ) →
          ask_leaves rows f ls r s ≡ refused Refusal.double_prime o → DoublePrime rows E m e r
      leaves-find [] w s g o h = absurd (done-not-refused h)
      leaves-find ((l at n) ∷ ls) w s g o h =
          refused-either (ask_leaf rows f l n r s) _ h (leaf_finds l n w.0 s g o)
          (λ a k h'. refused-either (ask_leaves rows f ls r a.marks) _ h' (leaves-find ls w.1 a.marks (more a k) o) (λ b p d. absurd (done-not-refused d)))
        where
          more : (a : Asked) → ask_leaf rows f l n r s ≡ done a → Grown a.marks
          more a k i t z = grown rows E (leaf-sound rows E f sound l n r s a k).0 i t (g i t z)

  -- its dependencies, then its own leaves
  fresh_finds :
      (f : Asks rows E) → Sound rows E f → Finds f → (fused : Bool) (e r : ℕ) (m : Marks) → m e r ≡ false → (o : Option ℕ) →
      fresh rows E f fused e r m ≡ refused Refusal.double_prime o → DoublePrime rows E m e r
  fresh_finds f sound finds fused e r m u o h =
      refused-either (there (nth E e)) _ h (λ k. absurd (there-no-double (nth E e) k))
      (λ x k h'.
      let q = there-some (nth E e) k in
      let ls = leaves x.tree in
      refused-either (ask_leaves rows f ls r m) _ h' (leaves-find e r m u x q f sound finds ls (members ls) m (λ i t z. z) o)
      (λ a w h''. refused-either (own rows (leaves (asked fused x.tree)) r) _ h'' (own_finds e r m u x q fused) (λ b p d. absurd (done-not-refused d))))

  below_finds : (k : ℕ) (fused : Bool) → Finds (ask_below rows E k fused)
  below_finds zero fused e r m o h = absurd (let z : ◌≡◌ {A = ℕ} 0 1 = cc in omega arith)
  below_finds (suc k) fused e r m o h = go (fresh_finds (ask_below rows E k false) (ask-sound rows E k false) (below_finds k false) fused e r m) (m e r) refl h
    where
      go :
          (m e r ≡ false → (o : Option ℕ) → fresh rows E (ask_below rows E k false) fused e r m ≡ refused Refusal.double_prime o → DoublePrime rows E m e r) →
          (b : Bool) → m e r ≡ b → cond b (done (nothing m)) (fresh rows E (ask_below rows E k false) fused e r m) ≡ refused Refusal.double_prime o →
          DoublePrime rows E m e r
      go ih true t q = absurd (done-not-refused q)
      go ih false t q = ih t o q

  -- ── both ways ──────────────────────────────────────────────────────────────
  -- what can be said of an evaluation: one of two
  pub data Evaluation (m : Marks) (e r : ℕ) (a : Answer Asked) : Type 0 where
    accepted : (b : Asked) → a ≡ done b → (DoublePrime rows E m e r → ⊥) → Evaluation m e r a
    five : (o : Option ℕ) → a ≡ refused Refusal.double_prime o → DoublePrime rows E m e r → Evaluation m e r a

  pub evaluation : Acyclic E → (fused : Bool) (e r : ℕ) (x : Expression) → nth E e ≡ some x → (m : Marks) → Evaluation m e r (ask rows E fused e r m)
  evaluation acyclic fused e r x q m = go (ask rows E fused e r m) refl
    where
      go : (a : Answer Asked) → ask rows E fused e r m ≡ a → Evaluation m e r a
      go (done b) h = let s = asks rows E fused e r m b h in Evaluation.accepted b refl (accepted-single m b s.0 e r s.1)
      go (refused k o) h =
          let p : k ≡ Refusal.double_prime = asks-refuse_5 rows E acyclic fused e r x q m k o h in
          Evaluation.five o (ap (λ z. refused z o) p) (below_finds (length E) fused e r m o (h ∙ ap (λ z. refused z o) p))
