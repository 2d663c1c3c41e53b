-- An admitted pool searched: the search's refusal, that of the limits and counts, or the set with the pool and its constraint. Over plain variables.
-- Assumes nothing.
use Prim.Native.Nat.{ℕ, ◌+◌, ◌<◌}
use mathlib.Core.Path.{◌≡◌, sym, ◌∙◌, ap, subst}
use mathlib.Core.Option.{some}
use mathlib.Core.List.{List}
use native.Mathlib.Omega.{arith}
use lib.ListN.{length, get_or, drop}
use Rattle.std.specs.Prelude.{Result, Ok, Err}
use Rattle.kinds.specs.Answers.{blaming_none}
use Rattle.kinds.specs.declared.refusal.Refusal as code
use Rattle.kinds.specs.declared.refusal.Refused.{Refused}
use Rattle.meaning.specs.Refusals.{Answer, done, refused, ◌then◌}
use Rattle.frames.specs.Written.{WellFormed}
use Rattle.frames.specs.declared.count.Counts.{Counts}
use Rattle.pool.specs.Pool.{Pool}
use Rattle.pool.specs.Trees.{forest}
use Rattle.pool.specs.Tabled.{tabled}
use Rattle.pool.specs.Ranking.{Tabling}
use Rattle.pool.specs.Laws.Tabled.{node-count, expression-count}
use Rattle.pool.specs.Laws.Forest.{forest-size, acyclic-ranked}
use Rattle.search_meaning.specs.Search.{Choice, search}
use Rattle.sets.specs.Members.{members, Good}
use Rattle.full_degrees.specs.Table.{World}
use Rattle.degree_search.specs.Choosing as search
use Rattle.degree_search.specs.Choosing.{searched_says, SetAfter}
use Rattle.degree_search.specs.Searching.{searched}
use Rattle.degree_search.specs.Searching as searching
use Rattle.degree_search.specs.declared.choose.Found.{Found}
use Rattle.constraint_meaning.specs.Members.{members-there, identities-there}
use Rattle.constraint_pool.specs.Whole.{AllBelow, ConstraintAsks, Adds}
use Rattle.constraint_pool.specs.Sizes.{WholeSizeAsks}
use Rattle.constraint_pool.specs.Judging.{judged}
use Rattle.constraint_pool.specs.Added.{added_pool, added_shaped, added_acyclic}
use Rattle.constraint_pool.specs.Extending.{ExtendAsks, Gives, TablesAfter, extended_says}
use Rattle.constraint_pool.proofs.Verdicts.{constraint-asks}
use Rattle.constraint_pool.specs.declared.judge.Columns.{Columns}
use Rattle.constraint_frames.specs.Formed.{input_of, constraint-formed}
use Rattle.constraint_frames.specs.Extension.{pool_with}
use Rattle.constraint_frames.proofs.Extending.{then-refused, then-passed}
use Rattle.constraint_choice.specs.Choosing.{asked_by, columns_with, question_of, deciding, why_of, Left, tables, Ready, Tells, ExtendAsked, ExtendGiven, AdmittedAsks}
use Rattle.constraint_choice.specs.Below.{each_at, some_one}
use Rattle.constraint_choice.specs.declared.answer.Asking.{Asking}

-- ---- the members of a set, listed

pub extend_for : {w l x ids : List ℕ} (s : List ℕ) (k : Counts) → ExtendAsked w l x ids s k → {ms : List ℕ} → ms ≡ members s → ExtendAsks w l x ids ms k.nodes k.expressions
extend_for {w} {l} {x} {ids} s k a e = subst (λ z. ExtendAsks w l x ids z k.nodes k.expressions) (sym e) a

pub extend-gives :
    {w l x ids : List ℕ} (s : List ℕ) (a : Asking) (q : ℕ) (k : Counts) {w' l' x' : List ℕ} {r : Result ℕ code.Refusal} {ms : List ℕ} {c : Columns} → ms ≡ members s → c ≡ columns_with a.before q →
    Gives w l x ids ms a.vc c k.nodes k.expressions w' l' x' r → ExtendGiven w l x ids a q k (tables s w' l' x') r
extend-gives {w} {l} {x} {ids} s a q k {w'} {l'} {x'} {r} {ms} {c} e f g =
    subst (λ z. Gives w l x ids (members s) a.vc z k.nodes k.expressions w' l' x' r) f
    (subst (λ z. Gives w l x ids z a.vc c k.nodes k.expressions w' l' x' r) e g)

-- ---- searched

module _ {w l x : List ℕ} {k : Counts} (a : AdmittedAsks w l x k) (ids : List ℕ) (q : Asking) where
  abbrev P : Pool
  P = tabled (Tabling w l x k.nodes k.expressions)

  abbrev D : Answer Choice
  D = deciding P (asked_by ids q)

  abbrev S : Answer Choice
  S = search (forest P) ids q.vc q.n_bits q.n_bits_ext (some q.limit)

  -- the limits and counts of a choice
  abbrev J : Choice → Answer (Unit {0})
  J c = judged (forest P) (length P.nodes) q.vc (columns_with q.before c.q) ids c.set

  abbrev on : Answer Choice → Answer Choice
  on z = z then λ c. J c then λ _. done c

  nodes_are : length P.nodes ≡ k.nodes
  nodes_are = node-count (Tabling w l x k.nodes k.expressions)

  expressions_are : length P.expressions ≡ k.expressions
  expressions_are = expression-count (Tabling w l x k.nodes k.expressions)

  size_is : length (forest P) ≡ k.expressions
  size_is = forest-size P ∙ expressions_are

  pub world : World (Tabling w l x k.nodes k.expressions) a.acyclic.rank
  world = record {
    starts = record { shaped = a.shaped; few_nodes = a.read.nodes; few_expressions = a.read.expressions; tabulated = λ u z. absurd z };
    ranked = acyclic-ranked P a.acyclic;
  }

  module _ {s s' : List ℕ} {r : Result Found Refused} (given : searching.AdmittedGiven w x ids s s' q.n_bits q.n_bits_ext q.limit k.nodes k.expressions r) where
    g : search.Tells (searched P (searching.asking ids q.vc q.n_bits q.n_bits_ext q.limit)) s s' r
    g = given l a.acyclic.rank world q.vc

    said : {y : Result Found Refused} → r ≡ y → searched_says y s' ≡ S
    said e = sym (ap (λ z. searched_says z s') e) ∙ g.says

    -- a refusal of the search
    pub unfound : {d : Refused} → r ≡ Err d → D ≡ refused (why_of d).kind (why_of d).node
    unfound e = ap on (sym (said e))

    module _ {f : Found} (e : r ≡ Ok f) where
      abbrev X : Choice
      X = record { set = members s'; q = f.q; visits = f.visits }

      chose : S ≡ done X
      chose = sym (said e)

      kept : Good s'
      kept = subst (λ z. SetAfter z s s') chose g.set

      ids-below : AllBelow k.expressions ids
      ids-below =
          subst (λ m. AllBelow m ids) size_is
          (each_at (length (forest P)) ids (identities-there (forest P) (some q.limit) ids q.vc q.n_bits q.n_bits_ext X chose))

      members-below : AllBelow k.expressions (members s')
      members-below =
          subst (λ m. AllBelow m (members s')) size_is
          (each_at (length (forest P)) (members s') (members-there (forest P) (some q.limit) ids q.vc q.n_bits q.n_bits_ext X chose))

      whole : WholeSizeAsks w l x ids (members s') k.nodes k.expressions
      whole = record {
        members = record { shaped = a.shaped; nodes = a.read.nodes; expressions = a.read.expressions; there = members-below };
        some = some_one (forest P) ids q.vc q.n_bits q.n_bits_ext (some q.limit) X chose;
      }

      pub extend_asks : ExtendAsked w l x ids s' k
      extend_asks = record { whole = whole; identities = ids-below }

      module _ {w' l' x' : List ℕ} {y : Result ℕ code.Refusal} (h : ExtendGiven w l x ids q f.q k (tables s' w' l' x') y) (v16 : q.vc < 65536) where
        abbrev c : Columns
        c = columns_with q.before f.q

        abbrev T : Left
        T = tables s' w' l' x'

        -- judged over the tables' own count of nodes
        abbrev K : Answer (Unit {0})
        K = judged (forest P) k.nodes q.vc c ids (members s')

        judged-is : J X ≡ K
        judged-is = ap (λ m. judged (forest P) m q.vc c ids (members s')) nodes_are

        by : D ≡ (K then λ _. done X)
        by = ap on chose ∙ ap (λ (z : Answer (Unit {0})). z then λ _. done X) judged-is

        pub unextended : {b : code.Refusal} → y ≡ Err b → Tells P (asked_by ids q) D T (Err (blaming_none b))
        unextended e = by ∙ ap (λ (z : Answer (Unit {0})). z then λ _. done X) (then-refused K _ (sym (ap extended_says e) ∙ h.answer))

        module _ {m : ℕ} (o : y ≡ Ok m) where
          fine : K ≡ done tt
          fine = then-passed K _ (sym (ap extended_says o) ∙ h.answer)

          asks : ConstraintAsks w l x ids (members s') q.vc c.commitments k.nodes k.expressions
          asks = constraint-asks whole c q.vc ids-below (sym fine)

          adds : Adds w l x ids (members s') q.vc c.commitments k.nodes k.expressions w' l' x' m
          adds = subst (TablesAfter w l x ids (members s') q.vc c k.nodes k.expressions w' l' x') o h.tables

          formed : WellFormed (input_of (pool_with P (question_of (asked_by ids q) X)))
          formed =
              constraint-formed P a.shaped (a.read.formed a.shaped) q.vc c.commitments (get_or ids 0 0) (drop 1 ids) (members s') (rw expressions_are members-below)
              (rw nodes_are asks.room) (rw expressions_are asks.few)

          pub ready : Ready P (asked_by ids q) D T (record { q = f.q; visits = f.visits; nodes = m; expressions = k.expressions + 1 })
          ready = record {
            chose = by ∙ ap (λ (z : Answer (Unit {0})). z then λ _. done X) fine;
            good = kept;
            below = rw expressions_are members-below;
            pool = added_pool asks v16 a.read.wide adds;
            shaped = added_shaped asks v16;
            acyclic = added_acyclic asks v16 a.acyclic;
            formed = formed;
            count = ap (λ (i : ℕ). i + 1) (sym expressions_are);
            few_nodes = omega (arith, adds.nodes.next, asks.room);
            few_expressions = omega (arith, asks.few);
          }
