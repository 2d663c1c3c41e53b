-- WHAT THE CONSTRAINT POLYNOMIAL FROM BYTES ANSWERS IS `constrain`'S ANSWER: of frames that are read as an admitted pool and two contexts whose bytes hold contexts of
-- `meaning`, it is refused where the definition refuses, with its number, or where there is no room (9); else the definition makes it, and what stands in the lists and in
-- the contexts after it is what it makes.
-- Assumes nothing.
use Rattle.std.specs.Prelude.{ℕ, ◌+◌, ◌≤◌, ◌≡◌, refl, Bool, true, false, cond, ◌⊎◌, List, [], length, Result}
use Rattle.std.proofs.Common.{sym, ◌∙◌, ap, subst, inl, inr, arith}
use Rattle.std.proofs.Math.Option.{Option, none}
use Rattle.meaning.specs.Refusals.{Refusal, Answer, done, refused, ◌then◌}
use Rattle.meaning.specs.Trees.{Forest}
use Rattle.meaning.specs.Generation.{State}
use Rattle.meaning.proofs.Laws.Tests.{then-done, done-same, done-not-refused}
use Rattle.kinds.specs.declared.refusal.Refused.{Refused}
use Rattle.frames.specs.Order.{expression_limit, Input}
use Rattle.frames.specs.Reading.{reading}
use Rattle.pool.specs.Pool.{Pool}
use Rattle.pool.specs.Trees.{forest}
use Rattle.pool.specs.Verdict.{Verdict}
use Rattle.pool.specs.Numbered.{pool_of}
use Rattle.pool.specs.Laws.Forest.{forest-size}
use Rattle.search_meaning.specs.Search.{Choice, search}
use Rattle.context.specs.Context.{Good}
use Rattle.codegen.specs.Said.{Said, said}
use Rattle.codegen.specs.Sessions.{Holds}
use Rattle.constraint_meaning.specs.Tree.{Numbered, Intermediate, columns_from, extended}
use Rattle.constraint_meaning.specs.Ranks.{length-extended}
use Rattle.constraint_meaning.specs.Members.{members-there}
use Rattle.constraint_meaning.specs.Constraint.{Asked, Made, Built, tree_for, lists_with, made_with, constrain}
use Rattle.constraint_pool.specs.Judging.{judged}
use Rattle.constraint_pool.specs.Whole.{AllBelow}
use Rattle.constraint_frames.specs.Extension.{pool_with}
use Rattle.constraint_frames.specs.Unique.{columns_of, made-judged}
use Rattle.constraint_frames.proofs.Extending.{judged_passed}
use Rattle.constraint_lists.specs.Lists.{step3_said, step42ns_said, Written}
use Rattle.constraint_choice.specs.Below.{each_at}
use Rattle.constraint_build.specs.Both.{Lent, Both, room_both, fitting, listing, After}
use Rattle.constraint_sessions.specs.Stood.{Stood}
use Rattle.constraint_sessions.proofs.Both.{Held, made_of, first_refused, second_refused, both_stood}
use Rattle.starkinfo_cp_prover.specs.Polynomial.{Polynomial, question_of, constrained, chosen_by, generating, Accepts, Stands, GeneratedIs}
use Rattle.starkinfo_cp_prover.specs.Unique.{one-answers}
use Rattle.starkinfo_cp_prover.specs.declared.answer.Generated.{Generated}

-- ---- answers

then-not : {A B : Type 0} (x : Answer A) (f : A → Answer B) {k : Refusal} {o : Option ℕ} → (x then f) ≡ refused k o → (x ≡ refused k o) ⊎ ((a : A) × (x ≡ done a) × (f a ≡ refused k o))
then-not (done a) f e = inr (a, refl, e)
then-not (refused i j) f {k} {o} e =
    let p : i ≡ k = cc in
    let q : j ≡ o = cc in
    inl (rw (p, q))

cond-done : {A : Type 0} (b : Bool) (x y : A) → cond b (done x) (refused Refusal.full none) ≡ done y → x ≡ y
cond-done true x y e = done-same x y e
cond-done false x y e = absurd (done-not-refused (sym e))

cond-full : {A : Type 0} (b : Bool) (x : A) {k : Refusal} {o : Option ℕ} → cond b (done x) (refused Refusal.full none) ≡ refused k o → b ≡ false
cond-full true x e = absurd (done-not-refused e)
cond-full false x e = refl

module _ {s : List ℕ} {a : Asked} {u v : Lent} {out w : List ℕ} {u' v' : Lent} {out' w' : List ℕ} {r : Result Generated Refused} (g : GeneratedIs s a u v out w u' v' out' w' r)
    (i : Input) (read : reading s ≡ done i) (admitted : Verdict (pool_of i) [] (done tt))
    (good : Good u.context (length i.expressions) (length u.list)) (good_2ns : Good v.context (length i.expressions) (length v.list))
    (first second : State) (holds : Holds u.context u.list first) (holds-2ns : Holds v.context v.list second) where
  abbrev p : Pool
  p = pool_of i

  abbrev E : Forest
  E = forest p

  abbrev n : ℕ
  n = length i.nodes

  -- THE DEFINITION'S ANSWER
  abbrev pub defined : Answer Made
  defined = constrain 2 E n first second a

  answer-is : g.answer ≡ generating p a u v (length out)
  answer-is =
      one-answers p a u v (length out) g.answer (generating p a u v (length out)) (g.runs.judged i read)
      (true, (λ z. good, λ z. refl), (true, (λ z. good_2ns, λ z. refl), (done tt, admitted, refl)))

  held : Held u.context u.list v.context v.list first second
  held = record { size = good.head.size; holds = holds; size' = good_2ns.head.size; holds' = holds-2ns }

  -- ---- of a set that was chosen, within the limits
  module _ (x : Choice) (o : Accepts p a x) where
    abbrev ms : List Intermediate
    ms = columns_from a.commitments x.set

    abbrev t : Numbered
    t = tree_for E n a.vc a.identities ms

    abbrev F : Forest
    F = extended E t.tree

    abbrev q : Pool
    q = pool_with p (question_of a x)

    forest_is : forest q ≡ F
    forest_is = (g.back i read admitted x o).forest_is

    size_is : length E ≡ length i.expressions
    size_is = forest-size p

    limits : length E + 1 ≤ expression_limit
    limits = (judged_passed E n a.vc (columns_of a x.q) a.identities x.set o.fine).expressions

    small : length F ≤ expression_limit
    small = omega (arith, limits, length-extended E t.tree)

    set_below : AllBelow expression_limit x.set
    set_below k h = omega (arith, each_at (length E) x.set (members-there E a.limit a.identities a.vc a.n_bits a.n_bits_ext x o.chose) k h, limits)

    -- the definition goes on to the lists
    on : defined ≡ lists_with 2 E n first second a x ms t
    on =
        ap (λ (z : Answer Choice). z then λ x. made_with 2 E n first second a x) o.chose
        ∙ made-judged 2 E n first second a x
        ∙ ap (λ (z : Answer (Unit {0})). z then λ _. lists_with 2 E n first second a x ms t) o.fine

    -- what the lists say, of the extended forest
    three : step3_said (forest q) x.set (said u.context u.list) ≡ step3_said F x.set (said u.context u.list)
    three = ap (λ (G : Forest). step3_said G x.set (said u.context u.list)) forest_is

    four : step42ns_said (forest q) x.set (length i.expressions) (said v.context v.list) ≡ step42ns_said F x.set (length E) (said v.context v.list)
    four =
        ap (λ (G : Forest). step42ns_said G x.set (length i.expressions) (said v.context v.list)) forest_is
        ∙ ap (λ c. step42ns_said F x.set c (said v.context v.list)) (sym size_is)

    -- what both lists refuse, the definition does; or there is no room
    lists-refused : {k : Refusal} {j : Option ℕ} → listing q (length i.expressions) x.set u v (length out) ≡ refused k j → (defined ≡ refused k j) ⊎ ((b : Both) × (room_both q b u v (length out) ≡ false))
    lists-refused {k} {j} e = by (then-not (step3_said (forest q) x.set (said u.context u.list)) _ e)
      where
        last : (s₃ : Said) → step3_said (forest q) x.set (said u.context u.list) ≡ done s₃ →
            (step42ns_said (forest q) x.set (length i.expressions) (said v.context v.list) ≡ refused k j)
            ⊎ ((s₄ : Said) × (step42ns_said (forest q) x.set (length i.expressions) (said v.context v.list) ≡ done s₄) × (fitting q (record { step3 = s₃; step42ns = s₄ }) u v (length out) ≡ refused k j)) →
            (defined ≡ refused k j) ⊎ ((b : Both) × (room_both q b u v (length out) ≡ false))
        last s₃ h (inl f) = inl (on ∙ second_refused E n first second a x ms t small u.context u.list v.context v.list held s₃ (sym three ∙ h) k j (sym four ∙ f))
        last s₃ h (inr f) = inr (record { step3 = s₃; step42ns = f.0 }, cond-full _ _ f.2)

        by : (step3_said (forest q) x.set (said u.context u.list) ≡ refused k j)
            ⊎ ((s₃ : Said) × (step3_said (forest q) x.set (said u.context u.list) ≡ done s₃)
            × ((step42ns_said (forest q) x.set (length i.expressions) (said v.context v.list) then λ s₄. fitting q (record { step3 = s₃; step42ns = s₄ }) u v (length out)) ≡ refused k j)) →
            (defined ≡ refused k j) ⊎ ((b : Both) × (room_both q b u v (length out) ≡ false))
        by (inl h) = inl (on ∙ first_refused E n first second a x ms t small u.context u.list v.context v.list held k j (sym three ∙ h))
        by (inr h) = last h.0 h.1 (then-not (step42ns_said (forest q) x.set (length i.expressions) (said v.context v.list)) _ h.2)

    -- what both lists make, the definition makes
    lists-made :
        {b : Both} → listing q (length i.expressions) x.set u v (length out) ≡ done b → After q b u v out u' v' out' →
        (c : Built) × (d : Built) × (defined ≡ done (made_of E n first second a x ms t c d)) × Stood u.lists c u'.context u'.list u'.lists
        × Stood v.lists d v'.context v'.list v'.lists
    lists-made {b} e after =
        let h = then-done (step3_said (forest q) x.set (said u.context u.list)) _ e in
        let f = then-done (step42ns_said (forest q) x.set (length i.expressions) (said v.context v.list)) _ h.2 in
        let o₂ : Both = record { step3 = h.0; step42ns = f.0 } in
        let z : o₂ ≡ b = cond-done (room_both q o₂ u v (length out)) o₂ b f.2 in
        let w₃ = subst (λ (y : Both). Written (forest q) u.context u.list u.lists y.step3 u'.context u'.list u'.lists) (sym z) after.step3 in
        let w₄ = subst (λ (y : Both). Written (forest q) v.context v.list v.lists y.step42ns v'.context v'.list v'.lists) (sym z) after.step42ns in
        let r = both_stood E n first second a x ms t small u.context u.list v.context v.list held h.0 (sym three ∙ h.1) u.lists u'.context u'.list u'.lists
        (subst (λ (G : Forest). Written G u.context u.list u.lists h.0 u'.context u'.list u'.lists) forest_is w₃) set_below f.0 (sym four ∙ f.1) v.lists v'.context v'.list v'.lists
        (subst (λ (G : Forest). Written G v.context v.list v.lists f.0 v'.context v'.list v'.lists) forest_is w₄) in
        (r.0, r.1, on ∙ r.2, r.3, r.4)

  -- ---- the whole

  -- THE SAME REFUSAL, or no room
  pub refused_alike : (k : Refusal) (j : Option ℕ) → g.answer ≡ refused k j → (defined ≡ refused k j) ⊎ ((x : Choice) × (b : Both) × (room_both (pool_with p (question_of a x)) b u v (length out) ≡ false))
  refused_alike k j e = by (then-not (search E a.identities a.vc a.n_bits a.n_bits_ext a.limit) _ (sym answer-is ∙ e))
    where
      no_room : (x : Choice) → (defined ≡ refused k j) ⊎ ((b : Both) × (room_both (pool_with p (question_of a x)) b u v (length out) ≡ false)) →
          (defined ≡ refused k j) ⊎ ((x : Choice) × (b : Both) × (room_both (pool_with p (question_of a x)) b u v (length out) ≡ false))
      no_room x (inl h) = inl h
      no_room x (inr h) = inr (x, h.0, h.1)

      limits-by : (x : Choice) → search E a.identities a.vc a.n_bits a.n_bits_ext a.limit ≡ done x →
          (judged E n a.vc (columns_of a x.q) a.identities x.set ≡ refused k j)
          ⊎ ((y : Unit {0}) × (judged E n a.vc (columns_of a x.q) a.identities x.set ≡ done y) × (listing (pool_with p (question_of a x)) (length i.expressions) x.set u v (length out) ≡ refused k j)) →
          (defined ≡ refused k j) ⊎ ((x : Choice) × (b : Both) × (room_both (pool_with p (question_of a x)) b u v (length out) ≡ false))
      limits-by x h (inl f) =
          inl (ap (λ (z : Answer Choice). z then λ x. made_with 2 E n first second a x) h ∙ made-judged 2 E n first second a x
          ∙ ap (λ (z : Answer (Unit {0})). z then λ _. lists_with 2 E n first second a x (columns_from a.commitments x.set) (tree_for E n a.vc a.identities (columns_from a.commitments x.set))) f)
      limits-by x h (inr f) = no_room x (lists-refused x (record { chose = h; fine = f.1 }) f.2)

      chosen_by_lem : (x : Choice) → search E a.identities a.vc a.n_bits a.n_bits_ext a.limit ≡ done x →
          (constrained p (question_of a x) u v (length out) ≡ refused k j) ⊎ ((b : Both) × (constrained p (question_of a x) u v (length out) ≡ done b) × (◌≡◌ {A = Answer Polynomial} (done (record { choice = x; pool = pool_with p (question_of a x); lists = b })) (refused k j))) →
          (defined ≡ refused k j) ⊎ ((x : Choice) × (b : Both) × (room_both (pool_with p (question_of a x)) b u v (length out) ≡ false))
      chosen_by_lem x h (inl f) = limits-by x h (then-not (judged E n a.vc (columns_of a x.q) a.identities x.set) _ f)
      chosen_by_lem x h (inr f) = absurd (done-not-refused f.2)

      by : (search E a.identities a.vc a.n_bits a.n_bits_ext a.limit ≡ refused k j)
          ⊎ ((x : Choice) × (search E a.identities a.vc a.n_bits a.n_bits_ext a.limit ≡ done x) × (chosen_by p a u v (length out) x ≡ refused k j)) →
          (defined ≡ refused k j) ⊎ ((x : Choice) × (b : Both) × (room_both (pool_with p (question_of a x)) b u v (length out) ≡ false))
      by (inl h) = inl (ap (λ (z : Answer Choice). z then λ x. made_with 2 E n first second a x) h)
      by (inr h) = chosen_by_lem h.0 h.1 (then-not (constrained p (question_of a h.0) u v (length out)) _ h.2)

  -- WHAT IS MADE IS THE DEFINITION'S: its choice, and both lists with the contexts after them
  pub made_alike :
      (y : Polynomial) → g.answer ≡ done y →
      (m : Made) × (defined ≡ done m) × (m.choice ≡ y.choice) × Stood u.lists m.step3 u'.context u'.list u'.lists
      × Stood v.lists m.step42ns v'.context v'.list v'.lists
  made_alike y e =
      let h = then-done (search E a.identities a.vc a.n_bits a.n_bits_ext a.limit) _ (sym answer-is ∙ e) in
      let x = h.0 in
      let f = then-done (constrained p (question_of a x) u v (length out)) _ h.2 in
      let c = then-done (judged E n a.vc (columns_of a x.q) a.identities x.set) _ f.1 in
      let y₂ : Polynomial = record { choice = x; pool = pool_with p (question_of a x); lists = f.0 } in
      let z : y₂ ≡ y = done-same y₂ y f.2 in
      let after = (subst (λ (s : Answer Polynomial). Stands s u v out w u' v' out' w') (e ∙ ap done (sym z)) g.tells.stands).0 in
      let r = lists-made x (record { chose = h.1; fine = c.1 }) c.2 after in
      (made_of E n first second a x (columns_from a.commitments x.set) (tree_for E n a.vc a.identities (columns_from a.commitments x.set)) r.0 r.1, r.2, ap (λ (s : Polynomial). s.choice) z, r.3, r.4)
