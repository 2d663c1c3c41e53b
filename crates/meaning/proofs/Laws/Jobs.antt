-- What an accepted request's jobs are: each block's dependencies are marked before it, its leaves read rows that there are, and none was marked at first.
-- Assumes nothing.
use Rattle.std.specs.Prelude.{ℕ, zero, suc, ◌+◌, ◌≡◌, refl, Bool, true, false, ◌&&◌, cond, List, [], ◌∷◌, ◌++◌, length, eqb}
use Rattle.std.proofs.Common.{sym, ◌∙◌, ap, subst, arith}
use Rattle.std.proofs.Math.Option.{Option, none, some}
use Rattle.meaning.specs.Refusals.{Refusal, Answer, done, refused}
use Rattle.meaning.specs.Trees.{Leaf, Expression, Forest, nth, Placed, ◌at◌, leaves, Each}
use Rattle.meaning.specs.Order.{Marks, marking, Job, Asked, nothing, asked, there, in_rows, primed, own, ask_leaf, ask_leaves, fresh, ask_below, ask}
use Rattle.meaning.proofs.Laws.Tests.{true-false, not-true, eqb_same, or_right, then-done, done-same, each_map, each-join}
use Rattle.meaning.proofs.Laws.Fuse.{asked-leaves}

-- the marks after jobs
abbrev pub after : Marks → List Job → Marks
after m [] = m
after m (j ∷ js) = after (marking m j.expression j.row) js

pub after-append : (m : Marks) (xs ys : List Job) → after m (xs ++ ys) ≡ after (after m xs) ys
after-append m [] ys = refl
after-append m (x ∷ xs) ys = after-append (marking m x.expression x.row) xs ys

-- what is marked stays so
pub after-grows : (m : Marks) (js : List Job) (e r : ℕ) → m e r ≡ true → after m js e r ≡ true
after-grows m [] e r h = h
after-grows m (j ∷ js) e r h = after-grows (marking m j.expression j.row) js e r (or_right (eqb j.expression e && eqb j.row r) (m e r) h)

pub marking-there : (m : Marks) (e r : ℕ) → marking m e r e r ≡ true
marking-there m e r = rw (eqb_same e, eqb_same r)

pub there-some : {A : Type 0} (o : Option A) {a : A} → there o ≡ done a → o ≡ some a
there-some none h = absurd (let z : ◌≡◌ {A = ℕ} 0 1 = cc in omega arith)
there-some (some b) h = ap some (done-same _ _ h)

module _ (rows : ℕ) where
  abbrev pub InRows : ℕ → Placed → Type 0
  InRows r (l at n) = in_rows rows l r ≡ true

  -- the expression of an exp leaf is marked
  abbrev pub DepMarked : Marks → ℕ → Placed → Type 0
  DepMarked m r (Leaf.cell k i a at n) = Unit {0}
  DepMarked m r (Leaf.exp i a at n) = m i (r + a) ≡ true
  DepMarked m r (Leaf.number l at n) = Unit {0}
  DepMarked m r (Leaf.flat k i at n) = Unit {0}
  DepMarked m r (Leaf.x k at n) = Unit {0}

  pub dep_after : (m : Marks) (js : List Job) (r : ℕ) (p : Placed) → DepMarked m r p → DepMarked (after m js) r p
  dep_after m js r (Leaf.cell k i a at n) h = tt
  dep_after m js r (Leaf.exp i a at n) h = after-grows m js i (r + a) h
  dep_after m js r (Leaf.number l at n) h = tt
  dep_after m js r (Leaf.flat k i at n) h = tt
  dep_after m js r (Leaf.x k at n) h = tt

  module _ (E : Forest) where
    -- a block that may be made at these marks
    pub record Fine (m : Marks) (j : Job) : Type 0 where
      pub expression : Expression
      pub found : nth E j.expression ≡ some expression
      pub rows_there : Each (InRows j.row) (leaves expression.tree)
      pub deps_marked : Each (DepMarked m j.row) (leaves expression.tree)

    abbrev pub AllFine : Marks → List Job → Type 0
    AllFine m [] = Unit {0}
    AllFine m (j ∷ js) = Fine m j × AllFine (marking m j.expression j.row) js

    fine-append : (m : Marks) (xs ys : List Job) → AllFine m xs → AllFine (after m xs) ys → AllFine m (xs ++ ys)
    fine-append m [] ys h k = k
    fine-append m (x ∷ xs) ys h k = (h.0, fine-append (marking m x.expression x.row) xs ys h.1 k)

    abbrev pub New : Marks → Job → Type 0
    New m j = m j.expression j.row ≡ false

    -- what an answer gives
    pub record Gives (m : Marks) (a : Asked) : Type 0 where
      pub fine : AllFine m a.jobs
      pub marks : a.marks ≡ after m a.jobs
      pub new : Each (New m) a.jobs

    gives_nothing : (m : Marks) → Gives m (nothing m)
    gives_nothing m = record { fine = tt; marks = refl; new = tt }

    pub grown : {m : Marks} {a : Asked} → Gives m a → (e r : ℕ) → m e r ≡ true → a.marks e r ≡ true
    grown {m} {a} g e r h = rw g.marks (after-grows m a.jobs e r h)

    new-before : {m : Marks} {a : Asked} → Gives m a → (j : Job) → New a.marks j → New m j
    new-before {m} g j h = not-true (m j.expression j.row) (λ t. true-false (grown g j.expression j.row t) h)

    gives_both :
        (m : Marks) (a b : Asked) → Gives m a → Gives a.marks b → Gives m (record { jobs = a.jobs ++ b.jobs; marks = b.marks })
    gives_both m a b g h = record {
      fine = fine-append m a.jobs b.jobs g.fine (subst (λ z. AllFine z b.jobs) g.marks h.fine);
      marks = h.marks ∙ ap (λ z. after z b.jobs) g.marks ∙ sym (after-append m a.jobs b.jobs);
      new = each-join (New m) a.jobs b.jobs g.new (each_map (New a.marks) (New m) (new-before g) b.jobs h.new);
    }

    abbrev pub Asks : Type 0
    Asks = ℕ → ℕ → Marks → Answer Asked

    -- what is shown of a way to ask
    abbrev pub Sound : Asks → Type 0
    Sound f = (e r : ℕ) (m : Marks) (a : Asked) → f e r m ≡ done a → Gives m a × (a.marks e r ≡ true)

    pub primed_in : (l : Leaf) (n r : ℕ) {u : Unit {0}} → primed rows l n r ≡ done u → in_rows rows l r ≡ true
    primed_in l n r {u} h = go (in_rows rows l r) h
      where
        go : (b : Bool) → cond b (done tt) (refused Refusal.double_prime (some n)) ≡ done u → b ≡ true
        go true q = refl
        go false q = absurd (let z : ◌≡◌ {A = ℕ} 0 1 = cc in omega arith)

    own_in : (ls : List Placed) (r : ℕ) {u : Unit {0}} → own rows ls r ≡ done u → Each (InRows r) ls
    own_in [] r h = tt
    own_in ((l at n) ∷ ls) r h =
        let x = then-done (primed rows l n r) _ h in
        (primed_in l n r x.1, own_in ls r x.2)

    pub leaf-sound :
        (f : Asks) → Sound f → (l : Leaf) (n r : ℕ) (m : Marks) (a : Asked) → ask_leaf rows f l n r m ≡ done a →
        Gives m a × DepMarked a.marks r (l at n)
    leaf-sound f S (Leaf.cell k i b) n r m a h = (subst (Gives m) (done-same _ _ h) (gives_nothing m), tt)
    leaf-sound f S (Leaf.exp i b) n r m a h = let x = then-done (primed rows (Leaf.exp i b) n r) _ h in S i (r + b) m a x.2
    leaf-sound f S (Leaf.number l) n r m a h = (subst (Gives m) (done-same _ _ h) (gives_nothing m), tt)
    leaf-sound f S (Leaf.flat k i) n r m a h = (subst (Gives m) (done-same _ _ h) (gives_nothing m), tt)
    leaf-sound f S (Leaf.x k) n r m a h = (subst (Gives m) (done-same _ _ h) (gives_nothing m), tt)

    leaves-sound :
        (f : Asks) → Sound f → (ls : List Placed) (r : ℕ) (m : Marks) (a : Asked) → ask_leaves rows f ls r m ≡ done a →
        Gives m a × Each (DepMarked a.marks r) ls
    leaves-sound f S [] r m a h = (subst (Gives m) (done-same _ _ h) (gives_nothing m), tt)
    leaves-sound f S ((l at n) ∷ ls) r m a h =
        let x = then-done (ask_leaf rows f l n r m) _ h in
        let y = then-done (ask_leaves rows f ls r x.0.marks) _ x.2 in
        let p = leaf-sound f S l n r m x.0 x.1 in
        let q = leaves-sound f S ls r x.0.marks y.0 y.1 in
        let d : DepMarked y.0.marks r (l at n) = subst (λ z. DepMarked z r (l at n)) (sym q.0.marks) (dep_after x.0.marks y.0.jobs r (l at n) p.1) in
        let g = gives_both m x.0 y.0 p.0 q.0 in
        let all : Each (DepMarked y.0.marks r) ((l at n) ∷ ls) = (d, q.1) in
        subst (λ z. Gives m z × Each (DepMarked z.marks r) ((l at n) ∷ ls)) (done-same _ _ y.2) (g, all)

    -- its own block after what its dependencies ask for
    fresh-sound :
        (f : Asks) → Sound f → (fused : Bool) (e r : ℕ) (m : Marks) → m e r ≡ false → (a : Asked) → fresh rows E f fused e r m ≡ done a →
        Gives m a × (a.marks e r ≡ true)
    fresh-sound f S fused e r m u a h =
        let x = then-done (there (nth E e)) _ h in
        let y = then-done (ask_leaves rows f (leaves x.0.tree) r m) _ x.2 in
        let z = then-done (own rows (leaves (asked fused x.0.tree)) r) _ y.2 in
        let d = leaves-sound f S (leaves x.0.tree) r m y.0 y.1 in
        let j : Job = record { expression = e; row = r; fused = fused } in
        let w : Fine y.0.marks j = record {
          expression = x.0;
          found = there-some (nth E e) x.1;
          rows_there = (asked-leaves (InRows r) fused x.0.tree).0 (own_in (leaves (asked fused x.0.tree)) r z.1);
          deps_marked = d.1;
        } in
        let g : Gives m (record { jobs = y.0.jobs ++ (j ∷ []); marks = marking y.0.marks e r }) = record {
          fine = fine-append m y.0.jobs (j ∷ []) d.0.fine (subst (λ q. AllFine q (j ∷ [])) d.0.marks (w, tt));
          marks = ap (λ q. marking q e r) d.0.marks ∙ sym (after-append m y.0.jobs (j ∷ []));
          new = each-join (New m) y.0.jobs (j ∷ []) d.0.new (u, tt);
        } in
        subst (λ q. Gives m q × (q.marks e r ≡ true)) (done-same _ _ z.2) (g, marking-there y.0.marks e r)

    pub ask-sound : (k : ℕ) (fused : Bool) → Sound (ask_below rows E k fused)
    ask-sound zero fused e r m a h = absurd (let z : ◌≡◌ {A = ℕ} 0 1 = cc in omega arith)
    ask-sound (suc k) fused e r m a h = go (fresh-sound (ask_below rows E k false) (ask-sound k false) fused e r m) (m e r) refl h
      where
        go :
            (m e r ≡ false → (a : Asked) → fresh rows E (ask_below rows E k false) fused e r m ≡ done a → Gives m a × (a.marks e r ≡ true)) →
            (b : Bool) → m e r ≡ b → cond b (done (nothing m)) (fresh rows E (ask_below rows E k false) fused e r m) ≡ done a →
            Gives m a × (a.marks e r ≡ true)
        go ih true t q = subst (λ z. Gives m z × (z.marks e r ≡ true)) (done-same _ _ q) (gives_nothing m, t)
        go ih false t q = ih t a q

    -- WHAT A REQUEST ASKS FOR
    pub asks : (fused : Bool) (e r : ℕ) (m : Marks) (a : Asked) → ask rows E fused e r m ≡ done a → Gives m a × (a.marks e r ≡ true)
    asks fused = ask-sound (length E) fused
