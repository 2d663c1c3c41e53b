-- The whole answer from what was decided: a refusal, or both lists of the set that was chosen. Over plain variables.
-- Assumes nothing.
use Prim.Native.Nat.{ℕ, ◌-◌, ◌≤◌}
use mathlib.Core.Path.{◌≡◌, refl, sym, ◌∙◌, ap, subst}
use mathlib.Core.Bool.{Bool, true, false}
use mathlib.Core.List.{List, []}
use lib.ListN.{length}
use Rattle.std.specs.Prelude.{Result, Ok, Err}
use Rattle.kinds.specs.Answers.{refusal_of, blame_of}
use Rattle.kinds.specs.declared.refusal.Refused.{Refused}
use Rattle.meaning.specs.Refusals.{Answer, done, refused, ◌then◌}
use Rattle.meaning.proofs.Laws.Tests.{done-same, done-not-refused}
use Rattle.frames.specs.Order.{expression_limit, Input}
use Rattle.frames.specs.Reading.{reading}
use Rattle.pool.specs.Pool.{Pool}
use Rattle.pool.specs.Trees.{forest}
use Rattle.pool.specs.Verdict.{Verdict}
use Rattle.pool.specs.Numbered.{pool_of}
use Rattle.pool.specs.Tabled.{tabled}
use Rattle.pool.specs.Ranking.{Tabling}
use Rattle.search_meaning.specs.Search.{Choice, search}
use Rattle.sets.specs.Members.{members}
use Rattle.context.specs.Context.{Exactly, Good}
use Rattle.constraint_meaning.specs.Constraint.{Asked}
use Rattle.constraint_pool.specs.Judging.{judged}
use Rattle.constraint_frames.specs.Extension.{pool_with}
use Rattle.constraint_frames.specs.Unique.{columns_of}
use Rattle.constraint_choice.specs.Below.{refused_as}
use Rattle.constraint_choice.specs.Choosing.{contexts, question_of, deciding, OrMalformed, Chooses, Decided, Left, Ready, choice_in, TellsRead, DecideIs}
use Rattle.constraint_choice.specs.declared.answer.Chosen.{Chosen}
use Rattle.constraint_build.specs.Both.{Lent, Both, listing}
use Rattle.constraint_build.specs.Both as both
use Rattle.constraint_build.specs.Making.{MakeAsks}
use Rattle.constraint_build.specs.declared.answer.Made.{Made}
use Rattle.starkinfo_cp_prover.specs.Polynomial.{Polynomial, generating, Answers, GeneratedIs, Tells}
use Rattle.starkinfo_cp_prover.specs.declared.answer.Generated.{Generated}
use Rattle.starkinfo_cp_prover.proofs.Lists.{make-asks, lists-refused, lists-made}

-- ---- the answer of both by that of the choice

module _ (p : Pool) (a : Asked) (u v : Lent) (room : ℕ) where
  -- what follows from a choice
  abbrev pub listed : Choice → Answer Polynomial
  listed x =
      let q = pool_with p (question_of a x) in
      listing q (length p.expressions) x.set u v room then λ b. done (record { choice = x; pool = q; lists = b })

  then-listed : {A B C : Type 0} (j : Answer (Unit {0})) (x : A) (l : Answer B) (f : B → Answer C) (g : A → Answer C) → (l then f) ≡ g x → ((j then λ _. l) then f) ≡ ((j then λ _. done x) then g)
  then-listed (done tt) x l f g e = e
  then-listed (refused k o) x l f g e = refl

  generating-is : generating p a u v room ≡ (deciding p a then λ x. listed x)
  generating-is = go (search (forest p) a.identities a.vc a.n_bits a.n_bits_ext a.limit)
    where
      J : Choice → Answer (Unit {0})
      J x = judged (forest p) (length p.nodes) a.vc (columns_of a x.q) a.identities x.set

      go : (z : Answer Choice) →
          (z then λ x. (J x then λ _. listing (pool_with p (question_of a x)) (length p.expressions) x.set u v room) then λ b. done (record { choice = x; pool = pool_with p (question_of a x); lists = b }))
          ≡ ((z then λ x. J x then λ _. done x) then λ x. listed x)
      go (done x) =
          then-listed (J x) x (listing (pool_with p (question_of a x)) (length p.expressions) x.set u v room)
          (λ b. done (record { choice = x; pool = pool_with p (question_of a x); lists = b })) (λ x. listed x) refl
      go (refused k o) = refl

  abbrev Ctx : Answer Choice → Type 0
  Ctx z = Chooses p a (contexts u.context (length u.list) v.context (length v.list)) z

  onward : (y : Answer (Unit {0})) → ((y then λ _. deciding p a) then λ x. listed x) ≡ (y then λ _. generating p a u v room)
  onward (done tt) = sym generating-is
  onward (refused k o) = refl

  malformed-then : (g : Bool) (z : Answer Choice) (R S : Type 0) → (R → S) → OrMalformed g z R → OrMalformed g (z then λ x. listed x) S
  malformed-then true z R S f h = f h
  malformed-then false z R S f h = ap (λ y. y then λ x. listed x) h

  answers : (z : Answer Choice) → Ctx z → Answers p a u v room (z then λ x. listed x)
  answers z h =
      (h.0, h.1, malformed-then h.0 z _ _ (λ i. (i.0, i.1, malformed-then i.0 z _ _ (λ y. (y.0, y.1, ap (λ w. w then λ x. listed x) y.2 ∙ onward y.0)) i.2)) h.2)

  -- a choice was made in contexts that are good
  goods : (x : Choice) (z : Answer Choice) → z ≡ done x → Ctx z → Good u.context (length p.expressions) (length u.list) × Good v.context (length p.expressions) (length v.list)
  goods x z e h = first h.0 h.1 h.2
    where
      second : Good u.context (length p.expressions) (length u.list) → (h : Bool) → Exactly h (Good v.context (length p.expressions) (length v.list)) →
          OrMalformed h z ((y : Answer (Unit {0})) × Verdict p [] y × (z ≡ (y then λ _. deciding p a))) →
          Good u.context (length p.expressions) (length u.list) × Good v.context (length p.expressions) (length v.list)
      second c true i h = (c, i.0 refl)
      second c false i h = absurd (done-not-refused (sym e ∙ h))

      first : (g : Bool) → Exactly g (Good u.context (length p.expressions) (length u.list)) →
          OrMalformed g z ((h : Bool) × Exactly h (Good v.context (length p.expressions) (length v.list)) × OrMalformed h z ((y : Answer (Unit {0})) × Verdict p [] y × (z ≡ (y then λ _. deciding p a)))) →
          Good u.context (length p.expressions) (length u.list) × Good v.context (length p.expressions) (length v.list)
      first true i h = second (i.0 refl) h.0 h.1 h.2
      first false i h = absurd (done-not-refused (sym e ∙ h))

-- ---- what was decided

module _ {s : List ℕ} {a : Asked} (u v : Lent) {t : Left} {r : Decided} (d : DecideIs s a (contexts u.context (length u.list) v.context (length v.list)) t r) (out w : List ℕ) where
  pub not_chosen : {e : Refused} → r ≡ Err e → GeneratedIs s a u v out w u v out w (Err e)
  not_chosen {e} h =
      let z : d.answer ≡ refused (refusal_of e.refusal) (blame_of e.node) = subst (TellsRead s a d.answer t) h d.tells in
      record {
        answer = refused (refusal_of e.refusal) (blame_of e.node);
        runs = record {
          unread = λ k o i. refused_as (sym z ∙ d.unread k o i);
          judged = λ i read.
              subst (Answers (pool_of i) a u v (length out)) (ap (λ y. y then λ x. listed (pool_of i) a u v (length out) x) z) (answers (pool_of i) a u v (length out) d.answer (d.judged i read));
        };
        tells = record { says = refl; stands = (refl, refl, refl, refl) };
        back = d.back;
      }

  module _ {f : Chosen} (h : r ≡ Ok f) where
    chosen : (i : Input) × (reading s ≡ done i) × Ready (pool_of i) a d.answer t f
    chosen = subst (TellsRead s a d.answer t) h d.tells

    abbrev p : Pool
    p = pool_of chosen.0

    fit : Good u.context (length p.expressions) (length u.list) × Good v.context (length p.expressions) (length v.list)
    fit = goods p a u v (length out) (choice_in t f) d.answer chosen.2.chose (d.judged chosen.0 chosen.1)

    pub lists-ask : (ms : List ℕ) → ms ≡ members t.set → length ms ≤ expression_limit → MakeAsks t.nodes t.literals t.expressions ms u v f.nodes f.expressions
    lists-ask ms e few = make-asks chosen.2 u v ms e few fit.0 fit.1

    abbrev A : Answer Polynomial
    A = listed p a u v (length out) (choice_in t f)

    answer-is : (d.answer then λ x. listed p a u v (length out) x) ≡ A
    answer-is = ap (λ y. y then λ x. listed p a u v (length out) x) chosen.2.chose

    -- the answer, told
    as-told : {u' v' : Lent} {out' w' : List ℕ} {g : Result Generated Refused} → Tells A u v out w u' v' out' w' g → GeneratedIs s a u v out w u' v' out' w' g
    as-told told = record {
      answer = A;
      runs = record {
        unread = λ k o z. absurd (done-not-refused (sym chosen.1 ∙ z));
        judged = λ j z.
            let k : p ≡ pool_of j = ap pool_of (done-same chosen.0 j (sym chosen.1 ∙ z)) in
            subst (λ x. Answers x a u v (length out) A) k (subst (Answers p a u v (length out)) answer-is (answers p a u v (length out) d.answer (d.judged chosen.0 chosen.1)));
      };
      tells = told;
      back = d.back;
    }

    module _
        {ms : List ℕ} (e : ms ≡ members t.set) {u' v' : Lent} {out' : List ℕ} {y : Result Made Refused}
        (m :
        both.Tells (tabled (Tabling t.nodes t.literals t.expressions f.nodes f.expressions))
        (listing (tabled (Tabling t.nodes t.literals t.expressions f.nodes f.expressions)) (f.expressions - 1) ms u v (length out)) u v out u' v' out' y) where
      pub not-listed : {o : Refused} → y ≡ Err o → GeneratedIs s a u v out w u' v' out' w (Err o)
      not-listed z = as-told (lists-refused chosen.2 u v out w u' v' out' e m z)

      pub all_told : {n : Made} → y ≡ Ok n → GeneratedIs s a u v out w u' v' out' t.set (Ok (record { q = f.q; visits = f.visits; sizes = n.sizes; bytes = n.bytes }))
      all_told z = as-told (lists-made chosen.2 u v out w u' v' out' e m z)
