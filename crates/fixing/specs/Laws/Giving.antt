-- Laws of new temporaries in tables: what each way through the code leaves.
-- Assumes nothing.
use Rattle.std.specs.Prelude.{ℕ, suc, ◌+◌, ◌*◌, ◌<◌, ◌≤◌, ◌≡◌, Bool, not, get_or, set, eqb, ltb}
use Rattle.std.proofs.Math.Path.{refl}
use Rattle.std.proofs.Common.{sym, ◌∙◌, ap, add-one, arith}
use Rattle.std.proofs.Math.Bool.{true, false}
use mathlib.Core.List.{List, [], ◌∷◌, ◌++◌}
use borrow.Author.Tests.{eq-eqb, ne_eqb, le-leb, lt-leb}
use Rattle.kinds.specs.KindBytes as kind
use Rattle.kinds.specs.Steps.{step_size, step_at, steps_of, steps-none, steps-more}
use Rattle.kinds.specs.declared.reference.Reference.{Reference}
use Rattle.kinds.specs.declared.step.Step.{Step}
use Rattle.lists.specs.Records.{record_count, records_in}
use Rattle.lent_lists.specs.Records.{segment_in}
use Rattle.fixing.specs.ProverCode.{last_counter, rule_kind, rule_for}
use Rattle.fixing.specs.Machine.{takes_temporary, over, table_after, counter_after, GiveIs, Tables, tables, give_reference, give_used, give_record, give_records}

-- ---- which expressions take one

module _ (rules : List ℕ) (e rule : ℕ) (q : rule ≡ rule_for rules e) (k : ℕ) (p : k ≡ rule_kind rule) where
  kind-is : k ≡ rule_kind (rule_for rules e)
  kind-is = p ∙ ap rule_kind q

  pub takes-cm : k ≡ kind.cm → false ≡ takes_temporary rules e
  unfolding takes_temporary
  takes-cm h = rw (eq-eqb (rule_kind (rule_for rules e)) kind.cm (sym kind-is ∙ h))

  pub takes-other : (k ≡ kind.cm → ⊥) → not (eqb k kind.tmp_exp) ≡ takes_temporary rules e
  unfolding takes_temporary
  takes-other h = rw (ne_eqb (rule_kind (rule_for rules e)) kind.cm (λ z. h (kind-is ∙ z)), kind-is)

-- ---- one table

module _ (l : List ℕ) (e n : ℕ) where
  pub given-before : (get_or l e 0 ≡ 0 → ⊥) → GiveIs l e n l n
  unfolding table_after counter_after
  given-before h = record { table = rw (ne_eqb (get_or l e 0) 0 h); counter = rw (ne_eqb (get_or l e 0) 0 h) }

  pub given-over : get_or l e 0 ≡ 0 → last_counter ≤ n → GiveIs l e n l over
  unfolding table_after counter_after
  given-over h k = record { table = rw (eq-eqb (get_or l e 0) 0 h, le-leb last_counter n k); counter = rw (eq-eqb (get_or l e 0) 0 h, le-leb last_counter n k) }

  pub given-next : get_or l e 0 ≡ 0 → n < last_counter → GiveIs l e n (set l e (n + 1)) (n + 1)
  unfolding table_after counter_after
  given-next h k = record { table = rw (eq-eqb (get_or l e 0) 0 h, lt-leb last_counter n k); counter = rw (eq-eqb (get_or l e 0) 0 h, lt-leb last_counter n k) }

-- ---- a reference

module _ (rules : List ℕ) where
  module _ (r : Reference) (a b : List ℕ) (n : ℕ) where
    pub no-exp : (r.kind ≡ kind.exp → ⊥) → tables a b n ≡ give_reference rules r (tables a b n)
    unfolding give_reference
    no-exp h = rw (ne_eqb r.kind kind.exp h)

    module _ (h : r.kind ≡ kind.exp) (id : ℕ) (is : id ≡ r.id) (t : Bool) (q : t ≡ takes_temporary rules id) where
      takes : (u : Bool) → t ≡ u → takes_temporary rules r.id ≡ u
      takes u k = ap (takes_temporary rules) (sym is) ∙ sym q ∙ k

      pub takes_none : t ≡ false → tables a b n ≡ give_reference rules r (tables a b n)
      unfolding give_reference
      takes_none k =
          let z : takes_temporary rules r.id ≡ false = takes false k in
          rw (eq-eqb r.kind kind.exp h, z)

      pub takes-plain : t ≡ true → r.prime ≡ 0 → (a' : List ℕ) (n' : ℕ) → GiveIs a id n a' n' → tables a' b n' ≡ give_reference rules r (tables a b n)
      unfolding give_reference
      takes-plain k p a' n' g =
          let z : takes_temporary rules r.id ≡ true = takes true k in
          rw (eq-eqb r.kind kind.exp h, z, eq-eqb r.prime 0 p, g.table, g.counter, is)

      pub takes-primed : t ≡ true → (r.prime ≡ 0 → ⊥) → (b' : List ℕ) (n' : ℕ) → GiveIs b id n b' n' → tables a b' n' ≡ give_reference rules r (tables a b n)
      unfolding give_reference
      takes-primed k p b' n' g =
          let z : takes_temporary rules r.id ≡ true = takes true k in
          rw (eq-eqb r.kind kind.exp h, z, ne_eqb r.prime 0 p, g.table, g.counter, is)

  pub used-given : (u : Bool) (r : Reference) (t t' : Tables) → u ≡ true → t' ≡ give_reference rules r t → t' ≡ give_used rules u r t
  unfolding give_used
  used-given u r t t' h e = rw h e

  pub unused-given : (u : Bool) (r : Reference) (t : Tables) → u ≡ false → t ≡ give_used rules u r t
  unfolding give_used
  unused-given u r t h = rw h

  -- ---- a record
  pub record-given :
      (x : Step) (t₀ t₁ t₂ t₃ t₄ : Tables) →
      t₁ ≡ give_used rules (ltb 0 x.count) x.s0 t₀ → t₂ ≡ give_used rules (ltb 1 x.count) x.s1 t₁ →
      t₃ ≡ give_used rules (ltb 2 x.count) x.s2 t₂ → t₄ ≡ give_reference rules x.dest t₃ → t₄ ≡ give_record rules x t₀
  unfolding give_record
  record-given x t₀ t₁ t₂ t₃ t₄ e₁ e₂ e₃ e₄ = e₄ ∙ rw (e₃, e₂, e₁)

  -- ---- a list
  pub give-append : (xs ys : List Step) (t : Tables) → give_records rules (xs ++ ys) t ≡ give_records rules ys (give_records rules xs t)
  unfolding give_records
  give-append [] ys t = refl
  give-append (x ∷ xs) ys t = give-append xs ys (give_record rules x t)

  give-more : (l : List ℕ) (n : ℕ) (t : Tables) → give_records rules (steps_of l (suc n)) t ≡ give_record rules (step_at l (step_size * n)) (give_records rules (steps_of l n) t)
  unfolding give_records
  give-more l n t = rw (steps-more l n) (give-append (steps_of l n) (step_at l (step_size * n) ∷ []) t)

  pub give-begin : (l : List ℕ) (t : Tables) → t ≡ give_records rules (steps_of l 0) t
  unfolding give_records
  give-begin l t = rw (steps-none l)

  pub give-next :
      (l : List ℕ) (k : ℕ) (t t₁ t₂ : Tables) → t₁ ≡ give_records rules (steps_of l k) t → (x : Step) → x ≡ step_at l (step_size * k) → t₂ ≡ give_record rules x t₁ →
      t₂ ≡ give_records rules (steps_of l (k + 1)) t
  give-next l k t t₁ t₂ h x e f = f ∙ rw (add-one k, give-more l k t, e, h)

  pub give-end : (l : List ℕ) (k : ℕ) (t t₁ : Tables) → t₁ ≡ give_records rules (steps_of l k) t → k ≤ record_count l → record_count l ≤ k → t₁ ≡ give_records rules (records_in l) t
  give-end l k t t₁ h a b =
      let n : record_count l ≡ k = omega arith in
      rw n h

  pub lists-given :
      (first i last : List ℕ) (t₀ t₁ t₂ t₃ : Tables) → t₁ ≡ give_records rules (records_in first) t₀ → t₂ ≡ give_records rules (records_in i) t₁ →
      t₃ ≡ give_records rules (records_in last) t₂ → t₃ ≡ give_records rules (segment_in first i last) t₀
  lists-given first i last t₀ t₁ t₂ t₃ e₁ e₂ e₃ =
      e₃
      ∙ rw (e₂, e₁)
      (sym (give-append (records_in first) (records_in i ++ records_in last) t₀ ∙ give-append (records_in i) (records_in last) (give_records rules (records_in first) t₀)))
