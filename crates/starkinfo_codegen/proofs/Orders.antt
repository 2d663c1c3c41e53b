-- Jobs one after another: from an expression to the leaves of its tree and back, with no word of the code.
-- Assumes nothing.
use Prim.Native.Nat.{ℕ, zero, suc, ◌+◌, ◌*◌, ◌-◌, ◌<◌, ◌≤◌}
use mathlib.Core.Path.{◌≡◌, refl, sym, ◌∙◌, ap, ap₂, subst}
use mathlib.Core.Bool.{Bool, true, false, cond}
use mathlib.Core.Option.{Option, some}
use mathlib.Core.List.{List, [], ◌∷◌, ◌++◌, append_assoc, append-nil}
use mathlib.Core.Logic.{inl, inr}
use native.Mathlib.Omega.{arith}
use native.Mathlib.Nat.{add-zero}
use lib.ListN.{length, get_or, set, length-set, length-append}
use lib.Seq.{get_or-set_other}
use lib.Dec.{eqb}
use mir.Val.{bool_byte}
use Rattle.std.specs.Prelude as std
use borrow.Author.Tests.{ne_eqb, lt-ltb, le-ltb}
use Rattle.meaning.specs.Refusals.{Refusal, Answer, done, refused, ◌then◌}
use Rattle.meaning.specs.Trees.{Leaf, Forest, Falls, Acyclic, nth, Placed, ◌at◌, leaves, Each}
use Rattle.meaning.specs.Trees as meaning
use Rattle.meaning.specs.Order.{Marks, marking, Job, Asked, nothing, asked, primed, own, ask_leaf, ask_leaves, ask_below}
use Rattle.meaning.proofs.Laws.Tests.{each_left, each_right, each-join}
use Rattle.meaning.proofs.Laws.Fuse.{asked-leaves}
use Rattle.meaning.proofs.Laws.Jobs.{InRows}
use Rattle.kinds.specs.KindBytes as kind
use Rattle.kinds.specs.Write.{write, write-none, write-next}
use Rattle.frames.specs.declared.node.Node.{Node}
use Rattle.frames.specs.Tables.{node_in}
use Rattle.pool.specs.Words.{root_in}
use Rattle.pool.specs.Pool.{Pool, root_of}
use Rattle.pool.specs.Trees.{leaf_of, tree, forest}
use Rattle.pool.specs.Laws.Tabled.{node-count, expression-count, root-at}
use Rattle.pool.specs.Laws.Forest.{forest-at, forest-has}
use Rattle.starkinfo_codegen.specs.Words.{node_of_words}
use Rattle.starkinfo_codegen.specs.Emitting.{Rest, tables_of, pool_of, Pooled, tree_of}
use Rattle.starkinfo_codegen.specs.JobWords.{words_append, words-length}
use Rattle.starkinfo_codegen.specs.Marked.{zeros-set, marked, not-marked, marks-set}
use Rattle.starkinfo_codegen.specs.Ordering.{leaves_of, blames, OutAsks, cell_of, marks_of, job_at, job_words, State, Stopped, Made, Gives, CodeAsks, DepsAsks, coded, needed}
use Rattle.starkinfo_codegen.proofs.Calls.{rank, rank_falls}
use Rattle.starkinfo_codegen.proofs.Outs.{node-leaves, past-leaves}
use Rattle.starkinfo_codegen.proofs.Kids.{One, Two, Three, lone, one, only_one, two, only_two, three, in_rows_lem, own-done}

-- ── words ────────────────────────────────────────────────────────────────────
pub job-word : (c : ℕ) (f : Bool) → c * 2 + bool_byte f ≡ job_at c f
unfolding job_at
job-word c true = refl
job-word c false = refl

write-one : (l : List ℕ) (i v : ℕ) → set l i v ≡ write l i (v ∷ [])
unfolding write
write-one l i v = refl

-- ── leaves one after another ─────────────────────────────────────────────────
abbrev Asks : Type 0
Asks = ℕ → ℕ → Marks → Answer Asked

abbrev joined : Asked → Asked → Asked
joined a b = record { jobs = a.jobs ++ b.jobs; marks = b.marks }

module _ (ask : Asks) (r : ℕ) where
  abbrev all : List Placed → Marks → Answer Asked
  all ls m = ask_leaves 2 ask ls r m

  one-leaf : (l : Leaf) (n : ℕ) (m : Marks) → all ((l at n) ∷ []) m ≡ ask_leaf 2 ask l n r m
  one-leaf l n m = go (ask_leaf 2 ask l n r m)
    where
      go : (z : Answer Asked) → (z then λ a. done (record { jobs = a.jobs ++ []; marks = a.marks })) ≡ z
      go (done a) = ap (λ js. done (record { jobs = js; marks = a.marks })) (append-nil a.jobs)
      go (refused q n) = refl

  -- a refusal of the first is one of all
  stop-append : (xs ys : List Placed) (m : Marks) (q : Refusal) (o : Option ℕ) → all xs m ≡ refused q o → all (xs ++ ys) m ≡ refused q o
  stop-append [] ys m q o h = absurd (let z : ◌≡◌ {A = ℕ} 0 1 = cc in omega arith)
  stop-append ((l at n) ∷ xs) ys m q o h = go (ask_leaf 2 ask l n r m) (λ (a : Asked). stop-append xs ys a.marks) h
    where
      go :
          (z : Answer Asked) → ((a : Asked) (q : Refusal) (o : Option ℕ) → all xs a.marks ≡ refused q o → all (xs ++ ys) a.marks ≡ refused q o) →
          (z then λ a. all xs a.marks then λ b. done (joined a b)) ≡ refused q o → (z then λ a. all (xs ++ ys) a.marks then λ b. done (joined a b)) ≡ refused q o
      go (refused q n) ih k = k
      go (done a) ih k = by (all xs a.marks) refl k
        where
          by : (y : Answer Asked) → all xs a.marks ≡ y → (y then λ b. done (joined a b)) ≡ refused q o → (all (xs ++ ys) a.marks then λ b. done (joined a b)) ≡ refused q o
          by (done b) p k = absurd (let z : ◌≡◌ {A = ℕ} 0 1 = cc in omega arith)
          by (refused q n) p k = rw (ih a q n p) k

  -- after the first are done, the others
  go-append : (xs ys : List Placed) (m : Marks) (a : Asked) → all xs m ≡ done a → all (xs ++ ys) m ≡ (all ys a.marks then λ b. done (joined a b))
  go-append [] ys m a h = let k : nothing m ≡ a = cc in subst (λ (a : Asked). all ys m ≡ (all ys a.marks then λ b. done (joined a b))) k (same (all ys m))
    where
      same : (z : Answer Asked) → z ≡ (z then λ b. done (joined (nothing m) b))
      same (done b) = refl
      same (refused q n) = refl
  go-append ((l at n) ∷ xs) ys m a h = go (ask_leaf 2 ask l n r m) (λ (c : Asked). go-append xs ys c.marks) h
    where
      go :
          (z : Answer Asked) → ((c : Asked) (a : Asked) → all xs c.marks ≡ done a → all (xs ++ ys) c.marks ≡ (all ys a.marks then λ b. done (joined a b))) →
          (z then λ c. all xs c.marks then λ b. done (joined c b)) ≡ done a →
          (z then λ c. all (xs ++ ys) c.marks then λ b. done (joined c b)) ≡ (all ys a.marks then λ b. done (joined a b))
      go (refused q n) ih k = absurd (let z : ◌≡◌ {A = ℕ} 0 1 = cc in omega arith)
      go (done c) ih k = by (all xs c.marks) refl k
        where
          last : (d : Asked) (z : Answer Asked) → ((z then λ b. done (joined d b)) then λ b. done (joined c b)) ≡ (z then λ b. done (joined (joined c d) b))
          last d (done b) = ap (λ js. done (record { jobs = js; marks = b.marks })) (sym (append_assoc c.jobs d.jobs b.jobs))
          last d (refused q n) = refl

          by :
              (y : Answer Asked) → all xs c.marks ≡ y → (y then λ b. done (joined c b)) ≡ done a →
              (all (xs ++ ys) c.marks then λ b. done (joined c b)) ≡ (all ys a.marks then λ b. done (joined a b))
          by (refused q n) p k = absurd (let z : ◌≡◌ {A = ℕ} 0 1 = cc in omega arith)
          by (done d) p k =
              let e : joined c d ≡ a = cc in
              subst (λ (a : Asked). (all (xs ++ ys) c.marks then λ b. done (joined c b)) ≡ (all ys a.marks then λ b. done (joined a b))) e
              (rw (ih c d p) (last d (all ys d.marks)))

pub rank-some : (i : ℕ) → i < 4096 → 1 ≤ rank i
rank-some i h = rw (lt-ltb i 4096 h) (omega arith)

-- ── answers in tables ────────────────────────────────────────────────────────
module _ (rk : ℕ → ℕ) (level : ℕ) where
  pub few-jobs : {x : Answer Asked} {s s' j j' : List ℕ} {n r : ℕ} → Made rk level x s s' j j' n r → r ≤ 1024
  few-jobs {s' = s'} {j' = j'} {r = r} m = go m.state
    where
      go : State s' j' r → r ≤ 1024
      go t = omega (arith, t.room)

  pub made-not : {x : Answer Asked} {s s' j j' : List ℕ} {n r : ℕ} → Gives rk level x s s' j j' n r → r ≤ 1024 → Made rk level x s s' j j' n r
  made-not (inl h) l = absurd (omega (arith, h.low))
  made-not (inr h) l = h

  pub stopped-is : {x : Answer Asked} {s s' j j' : List ℕ} {n r : ℕ} → Gives rk level x s s' j j' n r → 1024 < r → Stopped x r
  stopped-is (inl h) l = h
  stopped-is (inr h) l = absurd (omega (arith, few-jobs h))

  -- nothing is asked for
  pub nothing-made : (x : Answer Asked) {s j : List ℕ} {n : ℕ} → State s j n → x ≡ done (nothing (marks_of s)) → Gives rk level x s s j j n n
  nothing-made x {s} {j} {n} t e = inr (record {
    jobs = [];
    is = e;
    written = sym (write-none j n);
    count = sym (add-zero n);
    state = t;
    kept = λ u q a b. refl;
  })

  pub blamed : (x : Answer Asked) {s s' j j' : List ℕ} {n : ℕ} (i : ℕ) → i < 4096 → x ≡ refused Refusal.double_prime (some i) → Gives rk level x s s' j j' n (1025 + i)
  blamed x i l e =
      let k : i ≡ 1025 + i - 1025 = omega arith in
      inl (record { low = omega arith; high = omega arith; is = e ∙ ap (λ v. refused Refusal.double_prime (some v)) k })

  module _ (ask : Asks) (row : ℕ) where
    pub stop-all :
        (xs ys : List Placed) {s s' j j' : List ℕ} {n r : ℕ} → Stopped (all ask row xs (marks_of s)) r → Gives rk level (all ask row (xs ++ ys) (marks_of s)) s s' j j' n r
    stop-all xs ys {s} {r = r} h = inl (record { low = h.low; high = h.high; is = stop-append ask row xs ys (marks_of s) _ _ h.is })

    pub then-all :
        (xs ys : List Placed) {s s1 s2 j j1 j2 : List ℕ} {n r1 r2 : ℕ} → Made rk level (all ask row xs (marks_of s)) s s1 j j1 n r1 →
        Gives rk level (all ask row ys (marks_of s1)) s1 s2 j1 j2 r1 r2 → Gives rk level (all ask row (xs ++ ys) (marks_of s)) s s2 j j2 n r2
    then-all xs ys {s} {s1} m (inl h) = inl (record {
      low = h.low;
      high = h.high;
      is = go-append ask row xs ys (marks_of s) _ m.is ∙ rw h.is;
    })
    then-all xs ys {s} {s1} {s2} {j} {j1} {j2} {n} {r1} {r2} m (inr h) = inr (record {
      jobs = m.jobs ++ h.jobs;
      is = go-append ask row xs ys (marks_of s) _ m.is ∙ rw h.is;
      written =
          write-next j n (job_words m.jobs) (job_words h.jobs) r1 m.written h.written (omega (arith, words-length m.jobs, m.count))
          ∙ ap (write j n) (sym (words_append m.jobs h.jobs));
      count = simp length-append (omega (arith, m.count, h.count));
      state = h.state;
      kept = λ u q a b. h.kept u q a b ∙ m.kept u q a b;
    })

-- ── the leaves of a node ─────────────────────────────────────────────────────
-- what is of either is of the chosen
either : (Q : Leaf → Type 0) (c : Bool) (k l : Leaf) → Q k → Q l → Q (cond c k l)
either Q true k l f g = f
either Q false k l f g = g

exp-leaf : (x : Node) → x.kind ≡ kind.exp → leaf_of x ≡ Leaf.exp x.id x.next
exp-leaf x k = rw k

other-leaf : (ask : Asks) (x : Node) (n r : ℕ) (m : Marks) → (x.kind ≡ kind.exp → ⊥) → ask_leaf 2 ask (leaf_of x) n r m ≡ done (nothing m)
other-leaf ask x n r m h =
    rw (ne_eqb x.kind kind.exp h)
    (either Q (eqb x.kind kind.cm) _ _ refl
    (either Q (eqb x.kind kind.const) _ _ refl
    (either Q (eqb x.kind kind.q) _ _ refl
    (either Q (eqb x.kind kind.number) _ _ refl
    (either Q (eqb x.kind kind.public) _ _ refl
    (either Q (eqb x.kind kind.challenge) _ _ refl
    (either Q (eqb x.kind kind.eval) _ _ refl
    (either Q (eqb x.kind kind.x_div_x_sub_xi) _ _ refl
    (either Q (eqb x.kind kind.x_div_x_sub_w_xi) _ _ refl refl)))))))))
  where
    Q : Leaf → Type 0
    Q l = ask_leaf 2 ask l n r m ≡ done (nothing m)

module _ (w x : List ℕ) (b : Rest) (A : Acyclic (forest (pool_of w b))) where
  abbrev F : Forest
  F = forest (pool_of w b)

  abbrev L : ℕ → List Placed
  L i = leaves_of w b false i

  -- ── calculate_deps ─────────────────────────────────────────────────────────
  module _ (level : ℕ) {s j : List ℕ} {levels n row i : ℕ} (a : DepsAsks w x b A level s j levels n row i) where
    abbrev ask : Asks
    ask = ask_below 2 F levels false

    abbrev Answers : ℕ → List ℕ → List ℕ → List ℕ → List ℕ → ℕ → ℕ → Type 0
    Answers c s s' j j' n r = Gives A.rank level (needed w x b A levels (L c) row (marks_of s)) s s' j j' n r

    pub past-needs : 4096 ≤ i → Answers i s s j j n n
    past-needs h = nothing-made A.rank level _ a.state (ap (λ l. needed w x b A levels l row (marks_of s)) (past-leaves w b false i h))

    pub past-quiet : 4096 ≤ i → Each (InRows 2 row) (L i)
    past-quiet h = subst (Each (InRows 2 row)) (sym (past-leaves w b false i h)) tt

    module _ (few : i < 4096) where
      pooled : Pooled w b
      pooled = a.world.pool

      abbrev y : Node
      y = node_in w b.literals i

      -- a leaf
      module _ (z : (node_of_words w i).count ≡ 0) where
        lone-leaf : L i ≡ (leaf_of y at i) ∷ []
        lone-leaf = lone w b pooled i (a.there few) z

        needs : needed w x b A levels (L i) row (marks_of s) ≡ ask_leaf 2 ask (leaf_of y) i row (marks_of s)
        needs = ap (λ l. needed w x b A levels l row (marks_of s)) lone-leaf ∙ one-leaf ask row (leaf_of y) i (marks_of s)

        pub other-needs : {k : ℕ} → k ≡ (node_of_words w i).kind → (k ≡ kind.exp → ⊥) → Answers i s s j j n n
        other-needs ek h = nothing-made A.rank level _ a.state (needs ∙ other-leaf ask y i row (marks_of s) (λ q. h (ek ∙ q)))

        module _ {t : ℕ} (et : t ≡ (node_of_words w i).next) where
          pub leaf-quiet : row + t < 2 → Each (InRows 2 row) (L i)
          leaf-quiet l = subst (Each (InRows 2 row)) (sym lone-leaf) (in_rows_lem y row (omega (arith, l, et)), tt)

          module _ {k : ℕ} (ek : k ≡ (node_of_words w i).kind) (h : k ≡ kind.exp) where
            is-exp : leaf_of y ≡ Leaf.exp y.id y.next
            is-exp = exp-leaf y (sym ek ∙ h)

            exp-needs : needed w x b A levels (L i) row (marks_of s) ≡ (primed 2 (Leaf.exp y.id y.next) i row then λ _. ask y.id (row + y.next) (marks_of s))
            exp-needs = needs ∙ ap (λ (l : Leaf). ask_leaf 2 ask l i row (marks_of s)) is-exp

            pub exp-out : 2 ≤ row + t → {s' j' : List ℕ} → Answers i s s' j j' n (1025 + i)
            exp-out l = blamed A.rank level _ i few (exp-needs ∙ rw (le-ltb (row + y.next) 2 (omega (arith, l, et))))

            module _ (l : row + t < 2) {e : ℕ} (ee : e ≡ (node_of_words w i).id) where
              falls-to : (A.rank e < level) × ((z : meaning.Expression) × (nth F e ≡ some z))
              falls-to =
                  subst (λ v. (A.rank v < level) × ((z : meaning.Expression) × (nth F v ≡ some z))) (sym ee)
                  (subst (λ (l : Leaf). Falls F A.rank level (l at i)) is-exp (subst (Each (Falls F A.rank level)) lone-leaf a.falls).0)

              pub exp-asks : CodeAsks w x b A s j levels n e (row + t)
              exp-asks =
                  let f = falls-to in
                  record {
                    world = a.world;
                    state = a.state;
                    there = subst (λ m. e < m) (expression-count (tables_of w b)) (forest-at (pool_of w b) e f.1.0 f.1.1).0;
                    in_row = l;
                    deep = omega (arith, f.0, a.deep);
                  }

              coded-is : needed w x b A levels (L i) row (marks_of s) ≡ coded w x b A levels false e (row + t) (marks_of s)
              coded-is =
                  exp-needs ∙ rw (lt-ltb (row + y.next) 2 (omega (arith, l, et)))
                  (ap (λ v. ask v (row + y.next) (marks_of s)) (sym ee) ∙ ap (λ v. ask e (row + v) (marks_of s)) (sym et))

              pub exp-gives :
                  {s' j' : List ℕ} {r : ℕ} → Gives A.rank (suc (A.rank e)) (coded w x b A levels false e (row + t) (marks_of s)) s s' j j' n r →
                  Answers i s s' j j' n r
              exp-gives (inl g) = inl (record { low = g.low; high = g.high; is = coded-is ∙ g.is })
              exp-gives (inr g) = inr (record {
                jobs = g.jobs;
                is = coded-is ∙ g.is;
                written = g.written;
                count = g.count;
                state = g.state;
                kept = λ u q c d. g.kept u q (omega (arith, c, falls-to.0)) d;
              })

      -- an operation
      abbrev Leads : List Placed → Type 0
      Leads ls = Each (Falls F A.rank level) ls

      child-asks : (c : ℕ) → c < i → Leads (L c) → {s' j' : List ℕ} {n' : ℕ} → State s' j' n' → DepsAsks w x b A level s' j' levels n' row c
      child-asks c k f t = record {
        world = a.world;
        state = t;
        there = λ l. let h = a.there few in omega arith;
        in_row = a.in_row;
        falls = f;
        deep = a.deep;
      }

      pub child-falls : (c : ℕ) → c < i → rank c < rank i
      child-falls c k = rank_falls i c few (record { earlier = λ _. k; known = omega arith })

      back : (ls : List Placed) → L i ≡ ls → {s' j' : List ℕ} {r : ℕ} → Gives A.rank level (needed w x b A levels ls row (marks_of s)) s s' j j' n r → Answers i s s' j j' n r
      back ls e {s'} {j'} {r} g = subst (λ l. Gives A.rank level (needed w x b A levels l row (marks_of s)) s s' j j' n r) (sym e) g

      module _ {v : ℕ} (ev : v ≡ (node_of_words w i).count) (n0 : v ≡ 0 → ⊥) {c0 : ℕ} (e0 : c0 ≡ (node_of_words w i).c0) where
        K1 : One w b pooled i (a.there few)
        K1 = one w b pooled i (a.there few) (λ z. n0 (ev ∙ z))

        is1 : L i ≡ L c0 ++ K1.rest
        is1 = K1.is ∙ ap (λ c. L c ++ K1.rest) (sym e0)

        pub first_less : c0 < i
        first_less = omega (arith, e0, K1.first)

        pub first-asks : DepsAsks w x b A level s j levels n row c0
        first-asks = child-asks c0 first_less (each_left (Falls F A.rank level) (L c0) K1.rest (subst Leads is1 a.falls)) a.state

        -- no other
        module _ (o1 : v ≡ 1) where
          only : L i ≡ L c0
          only = only_one w b pooled i (a.there few) (sym ev ∙ o1) ∙ ap L (sym e0)

          pub only-gives : {s1 j1 : List ℕ} {r1 : ℕ} → Answers c0 s s1 j j1 n r1 → Answers i s s1 j j1 n r1
          only-gives g = back (L c0) only g

          pub only-quiet : Each (InRows 2 row) (L c0) → Each (InRows 2 row) (L i)
          only-quiet q = subst (Each (InRows 2 row)) (sym only) q

        module _ {s1 j1 : List ℕ} {r1 : ℕ} (g1 : Answers c0 s s1 j j1 n r1) where
          pub first_stops : 1024 < r1 → Answers i s s1 j j1 n r1
          first_stops l = back _ is1 (stop-all A.rank level ask row (L c0) K1.rest (stopped-is A.rank level g1 l))

          module _ (l1 : r1 ≤ 1024) (n1 : v ≡ 1 → ⊥) {c1 : ℕ} (e1 : c1 ≡ (node_of_words w i).c1) where
            m1 : Made A.rank level (needed w x b A levels (L c0) row (marks_of s)) s s1 j j1 n r1
            m1 = made-not A.rank level g1 l1

            K2 : Two w b pooled i (a.there few)
            K2 = two w b pooled i (a.there few) (λ z. n0 (ev ∙ z)) (λ z. n1 (ev ∙ z))

            is2 : L i ≡ L c0 ++ (L c1 ++ K2.rest)
            is2 = K2.is ∙ ap (λ c. L c ++ (L (node_of_words w i).c1 ++ K2.rest)) (sym e0) ∙ ap (λ c. L c0 ++ (L c ++ K2.rest)) (sym e1)

            pub second_less : c1 < i
            second_less = omega (arith, e1, K2.second)

            pub second-asks : DepsAsks w x b A level s1 j1 levels r1 row c1
            second-asks =
                child-asks c1 second_less
                (each_left (Falls F A.rank level) (L c1) K2.rest (each_right (Falls F A.rank level) (L c0) (L c1 ++ K2.rest) (subst Leads is2 a.falls)))
                m1.state

            module _ {s2 j2 : List ℕ} {r2 : ℕ} (g2 : Answers c1 s1 s2 j1 j2 r1 r2) where
              pub second-stops : 1024 < r2 → Answers i s s2 j j2 n r2
              second-stops l =
                  back _ is2 (then-all A.rank level ask row (L c0) (L c1 ++ K2.rest) m1
                  (stop-all A.rank level ask row (L c1) K2.rest (stopped-is A.rank level g2 l)))

              -- no third
              module _ (o2 : v ≡ 2) where
                both : L i ≡ L c0 ++ L c1
                both = only_two w b pooled i (a.there few) (sym ev ∙ o2) ∙ ap₂ (λ c d. L c ++ L d) (sym e0) (sym e1)

                pub both-gives : Answers i s s2 j j2 n r2
                both-gives = back _ both (then-all A.rank level ask row (L c0) (L c1) m1 g2)

                pub both-quiet : Each (InRows 2 row) (L c0) → Each (InRows 2 row) (L c1) → Each (InRows 2 row) (L i)
                both-quiet p q = subst (Each (InRows 2 row)) (sym both) (each-join (InRows 2 row) (L c0) (L c1) p q)

              module _ (l2 : r2 ≤ 1024) (n2 : v ≡ 2 → ⊥) {c2 : ℕ} (e2 : c2 ≡ (node_of_words w i).c2) where
                m2 : Made A.rank level (needed w x b A levels (L c1) row (marks_of s1)) s1 s2 j1 j2 r1 r2
                m2 = made-not A.rank level g2 l2

                K3 : Three w b pooled i (a.there few)
                K3 = three w b pooled i (a.there few) (λ z. n0 (ev ∙ z)) (λ z. n1 (ev ∙ z)) (λ z. n2 (ev ∙ z))

                all_three : L i ≡ L c0 ++ (L c1 ++ L c2)
                all_three =
                    K3.is
                    ∙ ap (λ c. L c ++ (L (node_of_words w i).c1 ++ L (node_of_words w i).c2)) (sym e0)
                    ∙ ap₂ (λ c d. L c0 ++ (L c ++ L d)) (sym e1) (sym e2)

                pub third_less : c2 < i
                third_less = omega (arith, e2, K3.third)

                pub third-asks : DepsAsks w x b A level s2 j2 levels r2 row c2
                third-asks =
                    child-asks c2 third_less
                    (each_right (Falls F A.rank level) (L c1) (L c2) (each_right (Falls F A.rank level) (L c0) (L c1 ++ L c2) (subst Leads all_three a.falls)))
                    m2.state

                pub third-gives : {s3 j3 : List ℕ} {r3 : ℕ} → Answers c2 s2 s3 j2 j3 r2 r3 → Answers i s s3 j j3 n r3
                third-gives g3 =
                    back _ all_three (then-all A.rank level ask row (L c0) (L c1 ++ L c2) m1
                    (then-all A.rank level ask row (L c1) (L c2) m2 g3))

                pub third-quiet : Each (InRows 2 row) (L c0) → Each (InRows 2 row) (L c1) → Each (InRows 2 row) (L c2) → Each (InRows 2 row) (L i)
                third-quiet p q r =
                    subst (Each (InRows 2 row)) (sym all_three)
                    (each-join (InRows 2 row) (L c0) (L c1 ++ L c2) p (each-join (InRows 2 row) (L c1) (L c2) q r))

  -- ── pil_code_gen ───────────────────────────────────────────────────────────
  module _ {s j : List ℕ} {levels n e row : ℕ} (a : CodeAsks w x b A s j levels n e row) (fused : Bool) where
    abbrev P : Pool
    P = pool_of w b

    abbrev Codes : List ℕ → List ℕ → ℕ → Type 0
    Codes s' j' r = Gives A.rank (suc (A.rank e)) (coded w x b A levels fused e row (marks_of s)) s s' j j' n r

    pub cell-there : cell_of e row < 1024
    cell-there = omega (arith, a.there, a.world.few, a.in_row)

    marked-below : (k : ℕ) → A.rank e < k → marks_of s e row ≡ true → coded w x b A k fused e row (marks_of s) ≡ done (nothing (marks_of s))
    marked-below zero l h = absurd (omega arith)
    marked-below (suc k) l h = rw h

    pub marked-gives : 1 ≤ get_or s (cell_of e row) 0 → Codes s j n
    marked-gives h = nothing-made A.rank (suc (A.rank e)) _ a.state (marked-below levels a.deep (marked s e row a.in_row h))

    module _ (clear : get_or s (cell_of e row) 0 < 1) {q : ℕ} (eq : q ≡ root_in x e) where
      inside : e < length P.expressions
      inside = subst (λ m. e < m) (sym (expression-count (tables_of w b))) a.there

      root_is : root_of P e ≡ q
      root_is = root-at (tables_of w b) e a.there ∙ ap (λ t. root_in t e) a.world.roots ∙ sym eq

      root-there : q < b.node_count
      root-there = subst (λ m. q < m) (node-count (tables_of w b)) (subst (λ v. v < length P.nodes) root_is (a.world.pool.shaped.rooted e inside))

      root-few : q < 4096
      root-few = omega (arith, root-there, a.world.pool.few)

      found : (z : meaning.Expression) × (nth F e ≡ some z)
      found = forest-has P e inside

      tree-of : found.0.tree ≡ tree P q
      tree-of = (forest-at P e found.0 found.1).1 ∙ ap (tree P) root_is

      pub deps_asks : DepsAsks w x b A (A.rank e) s j (levels - 1) n row q
      deps_asks = record {
        world = a.world;
        state = a.state;
        there = λ h. root-there;
        in_row = a.in_row;
        falls =
            subst (Each (Falls F A.rank (A.rank e))) (ap leaves tree-of ∙ sym (node-leaves w b false q root-few))
            (A.falls e found.0 found.1);
        deep = omega (arith, a.deep);
      }

      pub deps_less : rank q < 4097
      deps_less = rw (lt-ltb q 4096 root-few) (omega (arith, root-few))

      -- a tree without leaves out of rows has none fused either
      pub quiet-own : Each (InRows 2 row) (L q) → own 2 (leaves_of w b fused q) row ≡ done tt
      quiet-own h =
          ap (λ l. own 2 l row) (node-leaves w b fused q root-few)
          ∙ own-done (leaves (tree_of w b fused q)) row
          ((asked-leaves (InRows 2 row) fused (tree P q)).1 (subst (Each (InRows 2 row)) (node-leaves w b false q root-few) h))

      pub out-asks : OutAsks w b fused row q
      out-asks = record { pool = a.world.pool; there = λ h. root-there; in_row = a.in_row }

      abbrev own_job : Job
      own_job = record { expression = e; row = row; fused = fused }

      abbrev body : Asks → List Placed → List Placed → Answer Asked
      body ask ls os =
          ask_leaves 2 ask ls row (marks_of s) then λ c.
          own 2 os row then λ _.
          done (record { jobs = c.jobs ++ (own_job ∷ []); marks = marking c.marks e row })

      fresh-below :
          (k : ℕ) → A.rank e < k → coded w x b A k fused e row (marks_of s) ≡ body (ask_below 2 F (k - 1) false) (L q) (leaves_of w b fused q)
      fresh-below zero l = absurd (omega arith)
      fresh-below (suc k) l =
          let u : get_or s (cell_of e row) 0 ≡ 0 = omega (arith, clear) in
          let f = ask_below 2 F k false in
          let base : coded w x b A (suc k) fused e row (marks_of s) ≡ body f (L q) (leaves_of w b fused q)
          = rw (not-marked s e row a.in_row u, found.1)
          (ap (λ t. body f (leaves t) (leaves (asked fused t))) tree-of
          ∙ sym (ap (λ ls. body f ls (leaves (tree_of w b fused q))) (node-leaves w b false q root-few))
          ∙ sym (ap (λ os. body f (L q) os) (node-leaves w b fused q root-few))) in
          let z : k ≡ suc k - 1 = omega arith in
          base ∙ ap (λ v. body (ask_below 2 F v false) (L q) (leaves_of w b fused q)) z

      is-fresh : coded w x b A levels fused e row (marks_of s) ≡ body (ask_below 2 F (levels - 1) false) (L q) (leaves_of w b fused q)
      is-fresh = fresh-below levels a.deep

      abbrev Deps : List ℕ → List ℕ → ℕ → Type 0
      Deps s1 j1 r1 = Gives A.rank (A.rank e) (needed w x b A (levels - 1) (L q) row (marks_of s)) s s1 j j1 n r1

      module _ {s1 j1 : List ℕ} {r1 : ℕ} (g : Deps s1 j1 r1) where
        pub deps_stop : 1024 < r1 → Codes s1 j1 r1
        deps_stop l =
            let h = stopped-is A.rank (A.rank e) g l in
            inl (record { low = h.low; high = h.high; is = is-fresh ∙ rw h.is })

        module _ (l1 : r1 ≤ 1024) where
          m : Made A.rank (A.rank e) (needed w x b A (levels - 1) (L q) row (marks_of s)) s s1 j j1 n r1
          m = made-not A.rank (A.rank e) g l1

          abbrev Own : std.Option ℕ → Type 0
          Own o = blames (own 2 (leaves_of w b fused q) row) o

          module _ {r : std.Option ℕ} (k : Own r) where
            pub out-stop : {v : ℕ} → r ≡ std.Some v → Codes s1 j1 (1025 + v)
            out-stop {v} h =
                let p : Own (std.Some v) = subst Own h k in
                blamed A.rank (suc (A.rank e)) _ v p.0 (is-fresh ∙ rw (m.is, p.1))

            module _ (l2 : r ≡ std.None) where
              quiet : Own std.None
              quiet = subst Own l2 k

              sizes : State s1 j1 r1
              sizes = m.state

              still-clear : get_or s1 (cell_of e row) 0 ≡ 0
              still-clear = let u = m.kept e row (omega arith) a.in_row in omega (arith, clear, u)

              pub marks-room : cell_of e row < length s1
              marks-room = omega (arith, cell-there, sizes.marks_size)

              pub jobs-room : r1 < 1024
              jobs-room = omega (arith, sizes.room, zeros-set s1 (cell_of e row) marks-room still-clear)

              abbrev s2 : List ℕ
              s2 = set s1 (cell_of e row) 1

              apart : (u t : ℕ) → suc (A.rank e) ≤ A.rank u → t < 2 → cell_of u t ≡ cell_of e row → ⊥
              apart u t h l z =
                  let same : u ≡ e = omega (arith, z, l, a.in_row) in
                  let y : A.rank u ≡ A.rank e = ap A.rank same in
                  omega (arith, y, h)

              pub own-made : {word : ℕ} → word ≡ job_at (cell_of e row) fused → Codes s2 (set j1 r1 word) (r1 + 1)
              own-made {word} ew = inr (record {
                jobs = m.jobs ++ (own_job ∷ []);
                is =
                    is-fresh ∙ rw (m.is, quiet)
                    (ap (λ (z : Marks). done (record { jobs = m.jobs ++ (own_job ∷ []); marks = z })) (marks-set s1 e row a.in_row marks-room));
                written =
                    write-next j n (job_words m.jobs) (word ∷ []) r1 m.written (write-one j1 r1 word) (omega (arith, words-length m.jobs, m.count))
                    ∙ ap (λ z. write j n (job_words m.jobs ++ (z ∷ []))) ew
                    ∙ ap (write j n) (sym (words_append m.jobs (own_job ∷ [])));
                count = simp length-append (omega (arith, m.count));
                state = record {
                  marks_size = simp length-set sizes.marks_size;
                  jobs_size = simp length-set sizes.jobs_size;
                  room = omega (arith, sizes.room, zeros-set s1 (cell_of e row) marks-room still-clear);
                };
                kept = λ u t h l. get_or-set_other s1 (cell_of e row) (cell_of u t) 1 0 (apart u t h l) ∙ m.kept u t (omega (arith, h)) l;
              })
