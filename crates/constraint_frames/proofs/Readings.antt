-- What was read, judged: the set, the pool, and the answer to an admitted one. Over plain variables.
-- Assumes nothing.
use Prim.Native.Nat.{ℕ, ◌<◌}
use mathlib.Core.Path.{◌≡◌, refl, sym, ◌∙◌, ap, subst}
use mathlib.Core.Bool.{Bool, true, false}
use mathlib.Core.Option.{Option, none}
use mathlib.Core.List.{List, []}
use lib.ListN.{length, get_or}
use lib.Dec.{eqb}
use Rattle.std.specs.Prelude.{Result, Ok, Err}
use Rattle.kinds.specs.Answers.{blaming_none}
use Rattle.kinds.specs.declared.refusal.Refusal.TheVariants as told
use Rattle.kinds.specs.declared.refusal.Refused.{Refused}
use Rattle.meaning.specs.Refusals.{Refusal, Answer, done, refused, ◌then◌}
use Rattle.meaning.proofs.Laws.Tests.{and_right, done-same, done-not-refused}
use Rattle.frames.specs.Order.{Input}
use Rattle.frames.specs.Tables as frames
use Rattle.frames.specs.Tables.{input_in}
use Rattle.frames.specs.Reading.{reading, held, Fills}
use Rattle.frames.specs.Written.{WellFormed}
use Rattle.frames.specs.Limits.{read-within}
use Rattle.frames.specs.declared.count.Counts.{Counts}
use Rattle.pool.specs.Pool.{Pool}
use Rattle.pool.specs.Verdict.{Verdict}
use Rattle.pool.specs.Exactly.{exactly_0}
use Rattle.pool.specs.Admitting.{Admits, Fits, verdict_says}
use Rattle.pool.specs.Tabled.{tabled}
use Rattle.pool.specs.Ranking.{Tabling}
use Rattle.pool.specs.Numbered.{pool_of}
use Rattle.pool.specs.Laws.Tabled.{expression-count}
use Rattle.sets.specs.Members.{members}
use Rattle.degree_search.proofs.Questions.{judged_as, each_below}
use Rattle.constraint_pool.specs.Whole.{AllBelow}
use Rattle.constraint_pool.specs.declared.judge.Columns.{Columns}
use Rattle.pool_frames.specs.Writable.{read-formed}
use Rattle.constraint_frames.specs.Formed.{input_of}
use Rattle.constraint_frames.specs.Listing.{set_good}
use Rattle.constraint_frames.specs.Backward.{back-tables, accepted, shaped-few}
use Rattle.constraint_frames.specs.Extension.{Question, asking, Extension, extending, OrMalformed, Answers, Constrained, constrained_says, Tells, Back, ConstrainIs, AdmittedAsks, ReadAsks}

-- ---- of tables

module _ {w l x : List ℕ} {k : Counts} (a : ReadAsks w l x k) (ids s : List ℕ) (vc : ℕ) (c : Columns) (out : List ℕ) where
  abbrev P : Pool
  P = tabled (Tabling w l x k.nodes k.expressions)

  abbrev Q : Question
  Q = asking ids (members s) vc c

  -- what was read is answered so, and the room after it
  abbrev Told : List ℕ → Constrained → Type 0
  Told out' r = (z : Answer Extension) × Answers P s Q (length out) z × Tells z out out' r

  expressions_are : length P.expressions ≡ k.expressions
  expressions_are = expression-count (Tabling w l x k.nodes k.expressions)

  pub admit-fits : Fits [] k.nodes k.expressions
  admit-fits = record { nodes = a.nodes; expressions = a.expressions; tabulated = λ u z. absurd z }

  module _ {g : Bool} (gh : g ≡ set_good k.expressions s) where
    good-is : set_good (length P.expressions) s ≡ g
    good-is = ap (λ i. set_good i s) expressions_are ∙ sym gh

    answers : (z : Answer Extension) (b : Bool) → g ≡ b → OrMalformed b z ((v : Answer (Unit {0})) × Verdict P [] v × (z ≡ (v then λ _. extending P Q (length out)))) → Answers P s Q (length out) z
    answers z b e h = subst (λ b. OrMalformed b z ((v : Answer (Unit {0})) × Verdict P [] v × (z ≡ (v then λ _. extending P Q (length out))))) (sym (good-is ∙ e)) h

    pub bad-set : g ≡ false → Told out (Err (blaming_none told.Malformed))
    bad-set e = (refused Refusal.malformed none, answers _ false e refl, record { says = refl; room = refl })

    module _ (e : g ≡ true) where
      pub refused-pool : {r : Refusal} {o : Option ℕ} → Verdict P [] (refused r o) → (t : Constrained) → constrained_says t ≡ refused r o → Told out t
      refused-pool {r} {o} v t h = (refused r o, answers _ true e (refused r o, v, refl), record { says = h; room = refl })

      pub judged : {u : List ℕ} {d : Result (List ℕ) Refused} → Admits (Tabling w l x k.nodes k.expressions) u d → u ≡ [] → {o : Result (List ℕ) Refused} → d ≡ o → Verdict P [] (verdict_says o)
      judged = judged_as w x k (record { nodes = a.nodes; expressions = a.expressions }) l

      members-there : AllBelow k.expressions (members s)
      unfolding set_good
      members-there = each_below k.expressions (members s) (and_right (eqb (get_or s 8 0) (length (members s))) _ (sym gh ∙ e))

      module _ (v : Verdict P [] (done tt)) {ms : List ℕ} (q : ms ≡ members s) where
        pub admitted-asks : AdmittedAsks w l x ms k.nodes k.expressions
        admitted-asks =
            record {
              shaped = ((exactly_0 P (done tt) v).0 refl).0;
              nodes = a.nodes;
              expressions = a.expressions;
              there = subst (AllBelow k.expressions) (sym q) members-there;
              wide = a.wide;
            }

        pub admitted-pool : {out' : List ℕ} {r : Constrained} → Tells (extending P (asking ids ms vc c) (length out)) out out' r → Told out' r
        admitted-pool {out'} {r} t =
            (extending P Q (length out), answers _ true e (done tt, v, refl), subst (λ z. Tells (extending P (asking ids z vc c) (length out)) out out' r) q t)

-- ---- of what was read

module _ {s : List ℕ} {u : frames.Tables} {r : Result Counts Refused} (f : Fills s r u) (ids w : List ℕ) (vc : ℕ) (v : vc < 65536) (c : Columns) (out : List ℕ) where
  abbrev Q' : Question
  Q' = asking ids (members w) vc c

  unread : {k : Refusal} {o : Option ℕ} {t : Constrained} → refused k o ≡ reading s → constrained_says t ≡ refused k o → ConstrainIs s w Q' out out t
  unread {k} {o} {t} h g =
      record {
        answer = refused k o;
        runs = record { unread = λ k o e. same (h ∙ e); judged = λ i e. absurd (done-not-refused (sym e ∙ sym h)) };
        tells = record { says = g; room = refl };
        back = λ i e x z. absurd (done-not-refused (sym z));
      }
    where
      same : {k k' : Refusal} {o o' : Option ℕ} → ◌≡◌ {A = Answer Input} (refused k o) (refused k' o') → ◌≡◌ {A = Answer Extension} (refused k o) (refused k' o')
      same {k} {k'} {o} {o'} e =
          let a : k ≡ k' = cc in
          let b : o ≡ o' = cc in
          rw (a, b)

  pub stopped : {b : Refused} → r ≡ Err b → ConstrainIs s w Q' out out (Err b)
  stopped e = unread (ap (held u) (sym e) ∙ f.answer) refl

  module _ {k : Counts} (e : r ≡ Ok k) where
    read_is : done (input_in u k) ≡ reading s
    read_is = ap (held u) (sym e) ∙ f.answer

    abbrev R : Pool
    R = tabled (Tabling u.nodes u.literals u.expressions k.nodes k.expressions)

    pool-is : pool_of (input_in u k) ≡ R
    unfolding input_in tabled
    pool-is = refl

    pub read-asks : ReadAsks u.nodes u.literals u.expressions k
    read-asks =
        let z = read-within s u k read_is in
        record {
          nodes = z.nodes;
          expressions = z.expressions;
          wide = record { nodes = f.sized.nodes; literals = f.sized.literals; expressions = f.sized.expressions };
        }

    formed : Verdict R [] (done tt) → WellFormed (input_of R)
    unfolding input_in tabled
    formed a = read-formed s (input_in u k) (sym read_is) (shaped-few R ((exactly_0 R (done tt) a).0 refl).0)

    pub read : {out' : List ℕ} {t : Constrained} → (z : Answer Extension) × Answers R w Q' (length out) z × Tells z out out' t → ConstrainIs s w Q' out out' t
    read g =
        record {
          answer = g.0;
          runs = record {
            unread = λ k o z. absurd (done-not-refused (read_is ∙ z));
            judged = λ i z. subst (λ p. Answers p w Q' (length out) g.0) (same i z) g.1;
          };
          tells = g.2;
          back = λ i z x y. subst (λ p. Back p Q') (same i z) (back-tables u.nodes u.literals u.expressions ids w k.nodes k.expressions vc v c (length out) read-asks.nodes read-asks.expressions (formed (accepted R w Q' (length out) g.0 x g.1 y).1) g.1 y);
        }
      where
        same : (i : Input) → reading s ≡ done i → R ≡ pool_of i
        same i z = sym pool-is ∙ ap pool_of (done-same _ _ (read_is ∙ z))
