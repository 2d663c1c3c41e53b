-- The pool with the constraint by its tests, over tables. Over plain variables.
-- Assumes nothing.
use Prim.Native.Nat.{ℕ, ◌+◌, ◌≤◌, ◌<◌}
use mathlib.Core.Path.{◌≡◌, refl, sym, ◌∙◌, ap, ap₂, subst}
use mathlib.Core.Bool.{Bool, true, false}
use mathlib.Core.Option.{Option, none}
use mathlib.Core.List.{List}
use native.Mathlib.Omega.{arith}
use lib.ListN.{length, get_or, drop}
use lib.Dec.{eqb, leb}
use Rattle.std.specs.Prelude as std
use Rattle.std.specs.Prelude.{Some, None, Result, Ok, Err}
use Rattle.kinds.specs.Answers.{blaming_none}
use Rattle.kinds.specs.declared.refusal.Refusal as code
use Rattle.kinds.specs.declared.refusal.Refusal.TheVariants as told
use borrow.Author.Tests.{lt-ltb, le-ltb, leb-true, eqb-true, eqb-false}
use Rattle.meaning.specs.Refusals.{Refusal, Answer, done, refused, ◌then◌}
use Rattle.meaning.specs.Trees.{Forest}
use Rattle.meaning.proofs.Laws.Tests.{and_left, and_right, done-not-refused}
use Rattle.frames.specs.Written.{frames_of}
use Rattle.pool.specs.Pool.{Pool}
use Rattle.pool.specs.Trees.{forest}
use Rattle.pool.specs.Tabled.{tabled}
use Rattle.pool.specs.Ranking.{Tabling}
use Rattle.pool.specs.Laws.Tabled.{node-count, expression-count}
use Rattle.search_meaning.specs.Search.{all_below}
use Rattle.degree_search.proofs.Questions.{each_below}
use Rattle.constraint_meaning.specs.Tree.{columns_from, constraint_tree}
use Rattle.constraint_meaning.specs.Constraint.{unless, fits}
use Rattle.constraint_pool.specs.Whole.{AllBelow, ConstraintAsks, Adds}
use Rattle.constraint_pool.specs.Sizes.{WholeSizeAsks}
use Rattle.constraint_pool.specs.Judging.{judged}
use Rattle.constraint_pool.specs.Added.{added_pool}
use Rattle.constraint_pool.specs.Extending.{ExtendAsks, Gives, TablesAfter, extended_says}
use Rattle.constraint_pool.proofs.Verdicts.{constraint-asks}
use Rattle.constraint_pool.specs.declared.judge.Columns.{Columns}
use Rattle.pool_frames.specs.Pools.{pool_in, PoolAsks, Writes}
use Rattle.constraint_frames.specs.Formed.{input_of}
use Rattle.constraint_frames.specs.Numbering.{NumbersAsked}
use Rattle.constraint_frames.specs.Extension.{Question, asking, pool_with, bytes_of, numbers_of, Extension, extension, extending, Constrained, constrained_says, Tells, AdmittedAsks}
use Rattle.constraint_frames.specs.declared.answer.Numbers.{Numbers}

-- ---- answers

unless-passed : (r : Refusal) (b : Bool) → unless r b ≡ done tt → b ≡ true
unless-passed r true e = refl
unless-passed r false e = absurd (done-not-refused (sym e))

-- what comes before a value is refused alike
pub then-refused : {A : Type 0} (v : Answer (Unit {0})) (k : A) {r : Refusal} {o : Option ℕ} → refused r o ≡ (v then λ _. done k) → v ≡ refused r o
then-refused (done tt) k e = absurd (done-not-refused (sym e))
then-refused (refused s i) k {r} {o} e =
    let a : s ≡ r = cc in
    let b : i ≡ o = cc in
    rw (a, b)

pub then-passed : {A : Type 0} (v : Answer (Unit {0})) (k : A) {a : A} → done a ≡ (v then λ _. done k) → v ≡ done tt
then-passed (done tt) k e = refl
then-passed (refused s i) k e = absurd (done-not-refused e)

-- what is judged fine keeps its limits
pub record Passed (E : Forest) (n vc : ℕ) (c : Columns) (ids ms : List ℕ) : Type 0 where
  pub nodes : (constraint_tree vc E n (get_or ids 0 0) (drop 1 ids) (columns_from c.commitments ms)).free ≤ 4096
  pub expressions : length E + 1 ≤ 512
  pub columns : c.commitments + length ms + c.quotients ≤ 65536
  pub counts : c.n_cm1 + c.n_cm2 ≤ c.commitments

module _ (E : Forest) (n vc : ℕ) (c : Columns) (ids ms : List ℕ) where
  abbrev free : ℕ
  free = (constraint_tree vc E n (get_or ids 0 0) (drop 1 ids) (columns_from c.commitments ms)).free

  abbrev all : ℕ
  all = c.commitments + length ms + c.quotients

  pub judged_passed : judged E n vc c ids ms ≡ done tt → Passed E n vc c ids ms
  judged_passed e = by (fits free (length E + 1) all) refl e
    where
      by : (b : Bool) → fits free (length E + 1) all ≡ b → (unless Refusal.full b then λ _. unless Refusal.counts (leb (c.n_cm1 + c.n_cm2) c.commitments)) ≡ done tt → Passed E n vc c ids ms
      by true q e =
          let rest = and_right (leb free 4096) _ q in
          record {
            nodes = leb-true _ _ (and_left (leb free 4096) _ q);
            expressions = leb-true _ _ (and_left (leb (length E + 1) 512) _ rest);
            columns = leb-true _ _ (and_right (leb (length E + 1) 512) _ rest);
            counts = leb-true _ _ (unless-passed Refusal.counts _ e);
          }
      by false q e = absurd (done-not-refused (sym e))

-- ---- over tables

module _ {w l x ms : List ℕ} {n m : ℕ} (a : AdmittedAsks w l x ms n m) (ids : List ℕ) (vc : ℕ) (c : Columns) (out : List ℕ) where
  abbrev P : Pool
  P = tabled (Tabling w l x n m)

  abbrev Q : Question
  Q = asking ids ms vc c

  abbrev A : Answer Extension
  A = extending P Q (length out)

  abbrev J : Answer (Unit {0})
  J = judged (forest P) n vc c ids ms

  abbrev B : List ℕ
  B = bytes_of (pool_with P Q)

  -- the room, last
  abbrev roomed : Answer (Unit {0}) → Answer Extension
  roomed v = v then λ _. unless Refusal.full (leb (length B) (length out)) then λ _. done (extension P Q)

  expressions_are : length P.expressions ≡ m
  expressions_are = expression-count (Tabling w l x n m)

  nodes_are : length P.nodes ≡ n
  nodes_are = node-count (Tabling w l x n m)

  refusal : {k : Refusal} {o : Option ℕ} {r : Constrained} → A ≡ refused k o → constrained_says r ≡ refused k o → Tells A out out r
  refusal e h = rw e (record { says = h; room = refl })

  none_is : length ids ≡ 0 → A ≡ refused Refusal.no_identity none
  unfolding extending
  none_is h = rw (le-ltb 0 (length ids) (let z : length ids ≤ 0 = omega (arith, h) in z))

  pub no_identity : {e : Bool} → e ≡ eqb (length ids) 0 → e ≡ true → Tells A out out (Err (blaming_none told.NoIdentity))
  no_identity eh q = refusal (none_is (eqb-true (length ids) 0 (sym eh ∙ q))) refl

  module _ {e : Bool} (eh : e ≡ eqb (length ids) 0) (eq : e ≡ false) {s : Bool} (sh : s ≡ all_below m ids) where
    some' : length ids ≡ 0 → ⊥
    some' = eqb-false (length ids) 0 (sym eh ∙ eq)

    with_some : A ≡ (unless Refusal.not_there s then λ _. roomed J)
    unfolding extending
    with_some =
        let z : 0 < length ids = some_one (length ids) some' in
        rw (lt-ltb 0 (length ids) z)
        (ap₂ (λ (i k : ℕ). unless Refusal.not_there (all_below i ids) then λ _. roomed (judged (forest P) k vc c ids ms)) expressions_are nodes_are
        ∙ ap (λ b. unless Refusal.not_there b then λ _. roomed J) (sym sh))
      where
        some_one : (n : ℕ) → (n ≡ 0 → ⊥) → 0 < n
        some_one n h = omega arith

    pub lost : s ≡ false → Tells A out out (Err (blaming_none told.NotThere))
    lost q = refusal (with_some ∙ ap (λ b. unless Refusal.not_there b then λ _. roomed J) q) refl

    module _ (sq : s ≡ true) where
      there : A ≡ roomed J
      there = with_some ∙ ap (λ b. unless Refusal.not_there b then λ _. roomed J) sq

      ids_there : AllBelow m ids
      ids_there = each_below m ids (sym sh ∙ sq)

      whole : WholeSizeAsks w l x ids ms n m
      whole = record {
        members = record { shaped = a.shaped; nodes = a.nodes; expressions = a.expressions; there = a.there };
        some = some_one (length ids) some';
      }
        where
          some_one : (n : ℕ) → (n ≡ 0 → ⊥) → 0 < n
          some_one n h = omega arith

      pub extend_asks : ExtendAsks w l x ids ms n m
      extend_asks = record { whole = whole; identities = ids_there }

      module _ {w' l' x' : List ℕ} {r : Result ℕ code.Refusal} (g : Gives w l x ids ms vc c n m w' l' x' r) where
        pub not-added : {f : code.Refusal} → r ≡ Err f → Tells A out out (Err (blaming_none f))
        not-added q = refusal (there ∙ ap roomed (then-refused J _ (sym (ap extended_says q) ∙ g.answer))) refl

        module _ {k : ℕ} (q : r ≡ Ok k) where
          fine : J ≡ done tt
          fine = then-passed J _ (sym (ap extended_says q) ∙ g.answer)

          asks : ConstraintAsks w l x ids ms vc c.commitments n m
          asks = constraint-asks whole c vc ids_there (sym fine)

          adds : Adds w l x ids ms vc c.commitments n m w' l' x' k
          adds = subst (TablesAfter w l x ids ms vc c n m w' l' x') q g.tables

          pub pool_asks : PoolAsks k (m + 1)
          pool_asks = record { nodes = omega (arith, adds.nodes.next, asks.room); expressions = omega (arith, asks.few) }

          pub numbers_asked : NumbersAsked c (length ms)
          numbers_asked =
              let p = judged_passed (forest P) n vc c ids ms fine in
              record { columns = p.columns; counts = p.counts }

          module _ (v : vc < 65536) {out' : List ℕ} {y : std.Option ℕ} (h : Writes (frames_of (pool_in w' l' x' k (m + 1))) out y out') where
            same : frames_of (pool_in w' l' x' k (m + 1)) ≡ B
            unfolding tabled
            same = ap (λ p. frames_of (input_of p)) (added_pool asks v a.wide adds)

            writes : Writes B out y out'
            writes = subst (λ b. Writes b out y out') same h

            by_room : A ≡ roomed (done tt)
            by_room = there ∙ ap roomed fine

            pub no_room : y ≡ None → Tells A out out' (Err (blaming_none told.Full))
            no_room e = by (leb (length B) (length out)) refl
              where
                by : (b : Bool) → leb (length B) (length out) ≡ b → Tells A out out' (Err (blaming_none told.Full))
                by false z =
                    let o : out' ≡ out = rw z at writes.after in
                    subst (λ u. Tells A out u (Err (blaming_none told.Full))) (sym o) (refusal (by_room ∙ ap (λ b. unless Refusal.full b then λ _. done (extension P Q)) z) refl)
                by true z =
                    let d : y ≡ Some (length B) = rw z at writes.answer in
                    let z : ◌≡◌ {A = ℕ} 0 1 = cc in
                    absurd (omega arith)

            pub put : {k : ℕ} → y ≡ Some k → {t : Numbers} → t ≡ numbers_of c (length ms) m k → Tells A out out' (Ok t)
            put {k} e {t} f = by (leb (length B) (length out)) refl
              where
                by : (b : Bool) → leb (length B) (length out) ≡ b → Tells A out out' (Ok t)
                by true z =
                    let d : y ≡ Some (length B) = rw z at writes.answer in
                    let i : k ≡ length B = cc in
                    let j : A ≡ done (extension P Q) = by_room ∙ ap (λ b. unless Refusal.full b then λ _. done (extension P Q)) z in
                    let u : t ≡ numbers_of c (length ms) (length P.expressions) (length B) = f ∙ ap₂ (numbers_of c (length ms)) (sym expressions_are) i in
                    rw j (record { says = ap done u; room = rw z at writes.after })
                by false z =
                    let d : y ≡ None = rw z at writes.answer in
                    let z : ◌≡◌ {A = ℕ} 0 1 = cc in
                    absurd (omega arith)
