-- In an acyclic forest no cell is made twice. What accepted requests ask for, all together: each job's cell is unmarked when its turn comes, its row
-- is there, its expression is there, and the marks are those after the jobs.
-- Assumes nothing.
use Rattle.std.specs.Prelude.{ℕ, zero, suc, ◌+◌, ◌<◌, ◌≤◌, ◌≡◌, refl, Bool, true, false, cond, List, [], ◌∷◌, ◌++◌, length}
use Rattle.std.proofs.Common.{sym, ◌∙◌, ap, subst, arith, ne_eqb, ltb-true}
use Rattle.std.proofs.Math.Option.{some}
use Rattle.meaning.specs.Refusals.{Refusal, Answer, done, refused}
use Rattle.meaning.specs.Trees.{Leaf, Expression, Forest, Falls, Acyclic, nth, Placed, ◌at◌, leaves, Each}
use Rattle.meaning.specs.Order.{Marks, marking, Job, Asked, nothing, asked, there, in_rows, primed, own, ask_leaf, ask_leaves, fresh, ask_below, ask}
use Rattle.meaning.specs.Generation.{Request}
use Rattle.meaning.specs.Asking.{both, ask_one, ask_all}
use Rattle.meaning.proofs.Laws.Tests.{then-done, done-same, each_map, each-join}
use Rattle.meaning.proofs.Laws.Jobs.{after, after-append, there-some, AllFine, asks}

-- each job's cell is unmarked when its turn comes
abbrev pub Chain : Marks → List Job → Type 0
Chain m [] = Unit {0}
Chain m (j ∷ js) = (m j.expression j.row ≡ false) × Chain (marking m j.expression j.row) js

-- ── marks and jobs ───────────────────────────────────────────────────────────
chain_append : (m : Marks) (xs ys : List Job) → Chain m xs → Chain (after m xs) ys → Chain m (xs ++ ys)
chain_append m [] ys h k = k
chain_append m (x ∷ xs) ys h k = (h.0, chain_append (marking m x.expression x.row) xs ys h.1 k)

-- jobs of other expressions leave a cell as it is
pub after-other : (m : Marks) (js : List Job) (e r : ℕ) → Each (λ j. j.expression ≡ e → ⊥) js → after m js e r ≡ m e r
after-other m [] e r h = refl
after-other m (j ∷ js) e r h = after-other (marking m j.expression j.row) js e r h.1 ∙ rw (ne_eqb j.expression e h.0)

-- ── what holds of every answer ───────────────────────────────────────────────
abbrev Asks : Type 0
Asks = ℕ → ℕ → Marks → Answer Asked

-- of nothing, and of one answer after another
record Joins (P : Marks → Asked → Type 0) : Type 0 where
  empty : (m : Marks) → P m (nothing m)
  joined : (m : Marks) (a b : Asked) → P m a → P a.marks b → P m (both a b)

each-joins : (Q : Job → Type 0) → Joins (λ m a. Each Q a.jobs)
each-joins Q = record { empty = λ m. tt; joined = λ m a b h k. each-join Q a.jobs b.jobs h k }

marks-joins : Joins (λ m a. a.marks ≡ after m a.jobs)
marks-joins = record { empty = λ m. refl; joined = λ m a b h k. k ∙ ap (λ z. after z b.jobs) h ∙ sym (after-append m a.jobs b.jobs) }

-- no cell twice, with the marks after it
abbrev Chained : Marks → Asked → Type 0
Chained m a = Chain m a.jobs × (a.marks ≡ after m a.jobs)

chained-joins : Joins Chained
chained-joins = record {
  empty = λ m. (tt, refl);
  joined = λ m a b h k.
      (chain_append m a.jobs b.jobs h.0 (subst (λ z. Chain z b.jobs) h.1 k.0), marks-joins.joined m a b h.1 k.1);
}

each_all : {A : Type 0} (P : A → Type 0) → ((a : A) → P a) → (xs : List A) → Each P xs
each_all P h [] = tt
each_all P h (x ∷ xs) = (h x, each_all P h xs)

module _ (rows : ℕ) where
  primed-row : (i a n r : ℕ) {u : Unit {0}} → primed rows (Leaf.exp i a) n r ≡ done u → r + a < rows
  primed-row i a n r {u} h = ltb-true (r + a) rows (go (in_rows rows (Leaf.exp i a) r) h)
    where
      go : (b : Bool) → cond b (done tt) (refused Refusal.double_prime (some n)) ≡ done u → b ≡ true
      go true q = refl
      go false q = absurd (let z : ◌≡◌ {A = ℕ} 0 1 = cc in omega arith)

  -- P holds of what a leaf asks for
  abbrev Leads : (Marks → Asked → Type 0) → Asks → ℕ → Placed → Type 0
  Leads P f r (Leaf.cell k i a at n) = Unit {0}
  Leads P f r (Leaf.exp i a at n) = r + a < rows → (m : Marks) (b : Asked) → f i (r + a) m ≡ done b → P m b
  Leads P f r (Leaf.number l at n) = Unit {0}
  Leads P f r (Leaf.flat k i at n) = Unit {0}
  Leads P f r (Leaf.x k at n) = Unit {0}

  module _ (P : Marks → Asked → Type 0) (J : Joins P) where
    leaf-holds : (f : Asks) (l : Leaf) (n r : ℕ) → Leads P f r (l at n) → (m : Marks) (a : Asked) → ask_leaf rows f l n r m ≡ done a → P m a
    leaf-holds f (Leaf.cell k i b) n r d m a h = subst (P m) (done-same _ _ h) (J.empty m)
    leaf-holds f (Leaf.exp i b) n r d m a h = let x = then-done (primed rows (Leaf.exp i b) n r) _ h in d (primed-row i b n r x.1) m a x.2
    leaf-holds f (Leaf.number l) n r d m a h = subst (P m) (done-same _ _ h) (J.empty m)
    leaf-holds f (Leaf.flat k i) n r d m a h = subst (P m) (done-same _ _ h) (J.empty m)
    leaf-holds f (Leaf.x k) n r d m a h = subst (P m) (done-same _ _ h) (J.empty m)

    leaves_hold : (f : Asks) (ls : List Placed) (r : ℕ) → Each (Leads P f r) ls → (m : Marks) (a : Asked) → ask_leaves rows f ls r m ≡ done a → P m a
    leaves_hold f [] r d m a h = subst (P m) (done-same _ _ h) (J.empty m)
    leaves_hold f ((l at n) ∷ ls) r d m a h =
        let x = then-done (ask_leaf rows f l n r m) _ h in
        let y = then-done (ask_leaves rows f ls r x.0.marks) _ x.2 in
        subst (P m) (done-same _ _ y.2)
        (J.joined m x.0 y.0 (leaf-holds f l n r d.0 m x.0 x.1) (leaves_hold f ls r d.1 x.0.marks y.0 y.1))

  module _ (E : Forest) where
    -- what a fresh answer came from
    record Came (f : Asks) (fused : Bool) (e r : ℕ) (m : Marks) (a : Asked) : Type 0 where
      expression : Expression
      found : nth E e ≡ some expression
      before : Asked
      asked : ask_leaves rows f (leaves expression.tree) r m ≡ done before
      is : a ≡ record { jobs = before.jobs ++ (record { expression = e; row = r; fused = fused } ∷ []); marks = marking before.marks e r }

    came : (f : Asks) (fused : Bool) (e r : ℕ) (m : Marks) (a : Asked) → fresh rows E f fused e r m ≡ done a → Came f fused e r m a
    came f fused e r m a h =
        let x = then-done (there (nth E e)) _ h in
        let y = then-done (ask_leaves rows f (leaves x.0.tree) r m) _ x.2 in
        let z = then-done (own rows (leaves (asked fused x.0.tree)) r) _ y.2 in
        record { expression = x.0; found = there-some (nth E e) x.1; before = y.0; asked = y.1; is = sym (done-same _ _ z.2) }

    -- by the levels of expressions: it holds of nothing, and of a fresh answer where it holds of those before it
    below_holds :
        (P : ℕ → ℕ → Marks → Asked → Type 0) → ((e r : ℕ) (m : Marks) → P e r m (nothing m)) →
        ((f : Asks) → ((i r : ℕ) (m : Marks) (b : Asked) → f i r m ≡ done b → P i r m b) →
        (fused : Bool) (e r : ℕ) (m : Marks) (a : Asked) → m e r ≡ false → Came f fused e r m a → P e r m a) →
        (k : ℕ) (fused : Bool) (e r : ℕ) (m : Marks) (a : Asked) → ask_below rows E k fused e r m ≡ done a → P e r m a
    below_holds P N F zero fused e r m a h = absurd (let z : ◌≡◌ {A = ℕ} 0 1 = cc in omega arith)
    below_holds P N F (suc k) fused e r m a h =
        go (λ u q. F (ask_below rows E k false) (below_holds P N F k false) fused e r m a u (came (ask_below rows E k false) fused e r m a q)) (m e r) refl h
      where
        go :
            (m e r ≡ false → fresh rows E (ask_below rows E k false) fused e r m ≡ done a → P e r m a) →
            (b : Bool) → m e r ≡ b → cond b (done (nothing m)) (fresh rows E (ask_below rows E k false) fused e r m) ≡ done a → P e r m a
        go ih true u q = subst (P e r m) (done-same _ _ q) (N e r m)
        go ih false u q = ih u q

    -- and of all requests, where it holds of each
    all_hold :
        (P : Marks → Asked → Type 0) → Joins P → (qs : List Request) →
        Each (λ q. (m : Marks) (a : Asked) → ask rows E q.fused q.expression q.row m ≡ done a → P m a) qs →
        (m : Marks) (a : Asked) → ask_all rows E qs m ≡ done a → P m a
    all_hold P J [] d m a h = subst (P m) (done-same _ _ h) (J.empty m)
    all_hold P J (q ∷ qs) d m a h =
        let x = then-done (ask_one rows E q m) _ h in
        let w = then-done (there (nth E q.expression)) _ x.1 in
        let y = then-done (ask_all rows E qs x.0.marks) _ x.2 in
        subst (P m) (done-same _ _ y.2) (J.joined m x.0 y.0 (d.0 m x.0 w.2) (all_hold P J qs d.1 x.0.marks y.0 y.1))

    -- ── rows ─────────────────────────────────────────────────────────────────
    abbrev RowThere : Job → Type 0
    RowThere j = j.row < rows

    ask-rows : (fused : Bool) (e r : ℕ) (m : Marks) (a : Asked) → r < rows → ask rows E fused e r m ≡ done a → Each RowThere a.jobs
    ask-rows fused e r m a l h = below_holds (λ e r m a. r < rows → Each RowThere a.jobs) (λ e r m l. tt) step (length E) fused e r m a h l
      where
        leads :
            (f : Asks) → ((i r : ℕ) (m : Marks) (b : Asked) → f i r m ≡ done b → r < rows → Each RowThere b.jobs) →
            (r : ℕ) (p : Placed) → Leads (λ m a. Each RowThere a.jobs) f r p
        leads f S r (Leaf.cell k i a at n) = tt
        leads f S r (Leaf.exp i a at n) = λ l m b q. S i (r + a) m b q l
        leads f S r (Leaf.number l at n) = tt
        leads f S r (Leaf.flat k i at n) = tt
        leads f S r (Leaf.x k at n) = tt

        step :
            (f : Asks) → ((i r : ℕ) (m : Marks) (b : Asked) → f i r m ≡ done b → r < rows → Each RowThere b.jobs) →
            (fused : Bool) (e r : ℕ) (m : Marks) (a : Asked) → m e r ≡ false → Came f fused e r m a → r < rows → Each RowThere a.jobs
        step f S fused e r m a u c l =
            let ls = leaves c.expression.tree in
            let T = Leads (λ m a. Each RowThere a.jobs) f r in
            let b = leaves_hold (λ m a. Each RowThere a.jobs) (each-joins RowThere) f ls r (each_all T (leads f S r) ls) m c.before c.asked in
            subst (λ (z : Asked). Each RowThere z.jobs) (sym c.is) (each-join RowThere c.before.jobs _ b (l, tt))

    -- EACH JOB'S ROW IS THERE, where each request's is
    pub all-rows : (qs : List Request) (m : Marks) (a : Asked) → Each (λ q. q.row < rows) qs → ask_all rows E qs m ≡ done a → Each (λ j. j.row < rows) a.jobs
    all-rows qs m a l h =
        all_hold (λ m a. Each RowThere a.jobs) (each-joins RowThere) qs
        (each_map (λ q. q.row < rows) _ (λ q k m a. ask-rows q.fused q.expression q.row m a k) qs l) m a h

    -- ── marks, and expressions that are there ────────────────────────────────
    -- THE MARKS are those after the jobs
    pub all-marks : (qs : List Request) (m : Marks) (a : Asked) → ask_all rows E qs m ≡ done a → a.marks ≡ after m a.jobs
    all-marks qs m a h =
        all_hold (λ m a. a.marks ≡ after m a.jobs) marks-joins qs
        (each_all _ (λ q m a k. (asks rows E q.fused q.expression q.row m a k).0.marks) qs) m a h

    abbrev Found : Job → Type 0
    Found j = (x : Expression) × (nth E j.expression ≡ some x)

    fine-found : (m : Marks) (js : List Job) → AllFine rows E m js → Each Found js
    fine-found m [] h = tt
    fine-found m (j ∷ js) h = ((h.0.expression, h.0.found), fine-found (marking m j.expression j.row) js h.1)

    -- EACH JOB'S EXPRESSION IS THERE
    pub all_found : (qs : List Request) (m : Marks) (a : Asked) → ask_all rows E qs m ≡ done a → Each (λ j. (x : Expression) × (nth E j.expression ≡ some x)) a.jobs
    all_found qs m a h =
        all_hold (λ m a. Each Found a.jobs) (each-joins Found) qs
        (each_all _ (λ q m a k. fine-found m a.jobs (asks rows E q.fused q.expression q.row m a k).0.fine) qs) m a h

    -- ── no cell twice ────────────────────────────────────────────────────────
    module _ (acyclic : Acyclic E) where
      abbrev Low : ℕ → Job → Type 0
      Low level j = acyclic.rank j.expression < level

      record Once (level : ℕ) (m : Marks) (a : Asked) : Type 0 where
        chained : Chained m a
        low : Each (Low level) a.jobs

      once-joins : (level : ℕ) → Joins (Once level)
      once-joins level = record {
        empty = λ m. record { chained = chained-joins.empty m; low = tt };
        joined = λ m a b h k. record {
          chained = chained-joins.joined m a b h.chained k.chained;
          low = each-join (Low level) a.jobs b.jobs h.low k.low;
        };
      }

      once-le : {l k : ℕ} → l ≤ k → (m : Marks) (a : Asked) → Once l m a → Once k m a
      once-le {l} {k} h m a o = record { chained = o.chained; low = each_map (Low l) (Low k) (λ j q. omega arith) a.jobs o.low }

      -- what a leaf asks for has a lower rank
      leads-lower :
          (f : Asks) → ((i r : ℕ) (m : Marks) (b : Asked) → f i r m ≡ done b → Once (suc (acyclic.rank i)) m b) →
          (level r : ℕ) (p : Placed) → Falls E acyclic.rank level p → Leads (Once level) f r p
      leads-lower f S level r (Leaf.cell k i a at n) h = tt
      leads-lower f S level r (Leaf.exp i a at n) h = λ l m b q. once-le h.0 m b (S i (r + a) m b q)
      leads-lower f S level r (Leaf.number l at n) h = tt
      leads-lower f S level r (Leaf.flat k i at n) h = tt
      leads-lower f S level r (Leaf.x k at n) h = tt

      -- so the expression's own cell is still unmarked after it
      fresh-once :
          (f : Asks) → ((i r : ℕ) (m : Marks) (b : Asked) → f i r m ≡ done b → Once (suc (acyclic.rank i)) m b) →
          (fused : Bool) (e r : ℕ) (m : Marks) (a : Asked) → m e r ≡ false → Came f fused e r m a → Once (suc (acyclic.rank e)) m a
      fresh-once f S fused e r m a u c =
          let level = acyclic.rank e in
          let ls = leaves c.expression.tree in
          let b = c.before in
          let ds = each_map (Falls E acyclic.rank level) (Leads (Once level) f r) (leads-lower f S level r) ls (acyclic.falls e c.expression c.found) in
          let o = leaves_hold (Once level) (once-joins level) f ls r ds m b c.asked in
          let j : Job = record { expression = e; row = r; fused = fused } in
          let apart = each_map (Low level) (λ i. i.expression ≡ e → ⊥) (λ i l q. let k : acyclic.rank i.expression ≡ level = ap acyclic.rank q in omega arith) b.jobs o.low in
          let v : after m b.jobs e r ≡ false = after-other m b.jobs e r apart ∙ u in
          let w : Once (suc level) m (record { jobs = b.jobs ++ (j ∷ []); marks = marking b.marks e r }) = record {
            chained = (chain_append m b.jobs (j ∷ []) o.chained.0 (v, tt), ap (λ q. marking q e r) o.chained.1 ∙ sym (after-append m b.jobs (j ∷ [])));
            low = each-join (Low (suc level)) b.jobs (j ∷ []) (once-le (omega arith) m b o).low (omega arith, tt);
          } in
          subst (Once (suc level) m) (sym c.is) w

      ask-low : (fused : Bool) (e r : ℕ) (m : Marks) (a : Asked) → ask rows E fused e r m ≡ done a → Once (suc (acyclic.rank e)) m a
      ask-low = below_holds (λ e r m a. Once (suc (acyclic.rank e)) m a) (λ e r m. (once-joins _).empty m) fresh-once (length E)

      -- A REQUEST MAKES NO CELL TWICE, and none that was marked
      pub ask-once : (fused : Bool) (e r : ℕ) (m : Marks) (a : Asked) → ask rows E fused e r m ≡ done a → Chain m a.jobs
      ask-once fused e r m a h = (ask-low fused e r m a h).chained.0

      -- NOR DO ALL REQUESTS TOGETHER
      pub all_once : (qs : List Request) (m : Marks) (a : Asked) → ask_all rows E qs m ≡ done a → Chain m a.jobs
      all_once qs m a h = (all_hold Chained chained-joins qs (each_all _ (λ q m a k. (ask-low q.fused q.expression q.row m a k).chained) qs) m a h).0
