-- Laws of one step over the table: what each way through the code gives is what Machine.antt says, and the table stays sound.
-- Assumes nothing.
use Prim.Native.Nat.{ℕ, zero, suc, ◌+◌, ◌*◌, ◌-◌, ◌%◌, ◌<◌, ◌≤◌}
use Rattle.std.proofs.Math.Path.{◌≡◌, refl, sym, ap, subst}
use Rattle.std.proofs.Common.{◌∙◌, inl, inr, eq-or-lt_of_le, length-set, get_or-set_same, get_or-set_other, eq-eqb, ne_eqb, eqb-true, lt-ltb, le-ltb, ltb-true, ltb-false, le-leb, leb-true, leb-false}
use Rattle.std.specs.Prelude.{Bool, List, [], ◌∷◌, ◌⊎◌, length, get_or, set, eqb}
use Rattle.std.proofs.Math.Bool.{true, false, cond}
use Rattle.std.proofs.Math.Option.{Option, none, some, none-ne-some}
use native.Mathlib.Omega.{arith}
use Rattle.std.proofs.Math.Dec.{leb, ltb}
use Rattle.std.proofs.lemmas.Bool.{eqb-false, lt-leb}
use Rattle.kinds.specs.KindBytes as kind
use Rattle.kinds.specs.OpBytes as op
use Rattle.kinds.specs.Range.{within, within-true}
use Rattle.kinds.specs.StepOps.{sources_needed}
use Rattle.kinds.specs.KindLaws.{sources-small}
use Rattle.kinds.specs.declared.reference.Reference.{Reference}
use Rattle.kinds.specs.declared.step.Step as bytes
use Rattle.meaning.specs.Trees.{up_to}
use Rattle.meaning.specs.Values.{bind}
use Rattle.meaning.specs.Models.{modulo}
use Rattle.meaning.specs.Steps.{StepOp}
use Rattle.meaning.specs.Running as running
use Rattle.meaning.specs.Running.{either, apply}
use Rattle.evaluator_cells.specs.Given.{Lent, word_at, row_at, row_count}
use Rattle.lists.specs.Decoding.{op_from}
use Rattle.evaluator_cells.specs.Cells.{cell_limit, id_in, place_no, writable_no, index_of, Adds}
use Rattle.evaluator_cells.specs.Numbers.{Modulus, binary_no}
use Rattle.evaluator_cells.specs.Literals.{Reduced}
use Rattle.evaluator_cells.specs.Before.{known, before_in}
use Rattle.evaluator_step.specs.Machine.{Table, table, Kept, value_at, lookup, Outcome, next, no_rule, over, stored_at, stored, stored_by, read_in, reads_by, value_by, value_in, step_to, count_to_read}
use Rattle.evaluator_cells.specs.Laws.Index.{index_there, index_not}
use Rattle.evaluator_cells.specs.Laws.Chains.{chained_more}
use Rattle.evaluator_cells.specs.Laws.Arithmetic.{mod_below}
use Rattle.std.specs.Prelude as code

-- ---- a store

pub stored-old : (t : Table) (key v i : ℕ) (f : code.Option ℕ) → f ≡ index_of t.keys t.count key → f ≡ code.Some i → next (table t.heads t.nexts t.keys (set t.values i v) t.count) ≡ stored t key v
unfolding stored
stored-old t key v i f p q =
    let e : index_of t.keys t.count key ≡ code.Some i = sym p ∙ q in
    rw e

pub stored-new :
    {u : Table} (t : Table) (key v : ℕ) (f : code.Option ℕ) → f ≡ index_of t.keys t.count key → f ≡ code.None → t.count < cell_limit
    → Adds t key v u → next u ≡ stored t key v
unfolding stored
stored-new t key v f p q l a =
    let e : index_of t.keys t.count key ≡ code.None = sym p ∙ q in
    rw (e, lt-ltb t.count cell_limit l, ← a.heads, ← a.nexts, ← a.keys, ← a.values, ← a.count)

pub stored-over : (t : Table) (key v : ℕ) (f : code.Option ℕ) → f ≡ index_of t.keys t.count key → f ≡ code.None → cell_limit ≤ t.count → over ≡ stored t key v
unfolding stored
stored-over t key v f p q l =
    let e : index_of t.keys t.count key ≡ code.None = sym p ∙ q in
    rw (e, le-ltb t.count cell_limit l)

-- ---- a source

module _ (ns : List ℕ) (m : ℕ) (g : Lent) (t : Table) (r : Reference) where
  pub read_number : (v : ℕ) → r.kind ≡ kind.number → v ≡ get_or ns r.extra 0 → some v ≡ read_in ns m g t r
  unfolding read_in
  read_number v h e = rw (eq-eqb r.kind kind.number h) (ap some e)

  pub read-written :
      (p i : ℕ) (f : code.Option ℕ) → (r.kind ≡ kind.number → ⊥) → p ≡ place_no r → f ≡ index_of t.keys t.count p → f ≡ code.Some i
      → some (get_or t.values i 0) ≡ read_in ns m g t r
  unfolding read_in lookup
  read-written p i f h e a b =
      let q : index_of t.keys t.count (place_no r) ≡ code.Some i = rw (← e) (sym a ∙ b) in
      rw (ne_eqb r.kind kind.number h, q)

  pub read-given :
      (p : ℕ) (f : code.Option ℕ) (v : code.Option ℕ) → (r.kind ≡ kind.number → ⊥) → p ≡ place_no r → f ≡ index_of t.keys t.count p → f ≡ code.None
      → known v ≡ before_in m g r.kind r.id r.prime → known v ≡ read_in ns m g t r
  unfolding read_in lookup
  read-given p f v h e a b k =
      let q : index_of t.keys t.count (place_no r) ≡ code.None = rw (← e) (sym a ∙ b) in
      rw (ne_eqb r.kind kind.number h, q) k

-- what is read is below m
abbrev Below : ℕ → Option ℕ → Type 0
Below m o = (v : ℕ) → o ≡ some v → v < m

below_none : (m : ℕ) → Below m none
below_none m v e = absurd (none-ne-some v e)

below-some : (m x : ℕ) → x < m → Below m (some x)
below-some m x h v e =
    let q : x ≡ v = cc in
    omega arith

below-cond : (m : ℕ) (b : Bool) (o p : Option ℕ) → Below m o → Below m p → Below m (cond b o p)
below-cond m true o p h g = h
below-cond m false o p h g = g

below-either : (m : ℕ) (o p : Option ℕ) → Below m o → Below m p → Below m (either o p)
below-either m none p h g = g
below-either m (some v) p h g = h

module _ (m : ℕ) (o : Modulus m) where
  below_word : (l : List ℕ) (i : ℕ) → Below m (word_at m l i)
  unfolding word_at
  below_word l i = below-cond m (ltb i (length l)) (some (get_or l i 0 % m)) none (below-some m (get_or l i 0 % m) (mod_below (get_or l i 0) m o)) (below_none m)

  below_row : (l : List ℕ) (i r : ℕ) → Below m (row_at m l i r)
  unfolding row_at
  below_row l i r = below-cond m (ltb r row_count) (word_at m l (row_count * i + r)) none (below_word l (row_count * i + r)) (below_none m)

  below-before : (g : Lent) (k i r : ℕ) → Below m (before_in m g k i r)
  unfolding before_in
  below-before g k i r =
      below-cond m (eqb k kind.cm) _ _ (below_row g.cm i r)
      (below-cond m (eqb k kind.const) _ _ (below_row g.constants i r)
      (below-cond m (eqb k kind.q) _ _ (below_row g.q i r)
      (below-cond m (eqb k kind.public) _ _ (below_word g.publics i)
      (below-cond m (eqb k kind.challenge) _ _ (below_word g.challenges i)
      (below-cond m (eqb k kind.eval) _ _ (below_word g.evals i)
      (below-cond m (eqb k kind.x_div_x_sub_xi) _ _ (below_word g.xs 0)
      (below-cond m (eqb k kind.x_div_x_sub_w_xi) _ _ (below_word g.xs 1)
      (below-cond m (eqb k kind.x) _ _ (below_word g.xs 2) (below_none m)))))))))

  module _ (t : Table) (k : Kept m t) where
    below-lookup : (key : ℕ) → Below m (lookup t key)
    unfolding lookup
    below-lookup key = by (index_of t.keys t.count key) refl
      where
        by : (f : code.Option ℕ) → index_of t.keys t.count key ≡ f → Below m (value_at t.values f)
        by (code.Some i) e = below-some m (get_or t.values i 0) (k.reduced i (index_there t.keys t.count key i e).0)
        by code.None e = below_none m

    pub read_below : (ns : List ℕ) → Reduced ns m → (g : Lent) (r : Reference) (v : ℕ) → some v ≡ read_in ns m g t r → v < m
    unfolding read_in
    read_below ns b g r v e =
        below-cond m (eqb r.kind kind.number) (some (get_or ns r.extra 0)) (either (lookup t (place_no r)) (before_in m g r.kind r.id r.prime))
        (below-some m (get_or ns r.extra 0) (b.below r.extra))
        (below-either m (lookup t (place_no r)) (before_in m g r.kind r.id r.prime) (below-lookup (place_no r)) (below-before g r.kind r.id r.prime))
        v (sym e)

-- ---- how many sources a step reads

module _ (x : bytes.Step) (n : ℕ) (e : n ≡ sources_needed x.op) where
  pub count-needed : n ≤ x.count → n ≡ count_to_read x
  unfolding count_to_read
  count-needed h =
      let l : sources_needed x.op ≤ x.count = omega arith in
      rw (le-leb (sources_needed x.op) x.count l) e

  pub count-few : x.count < n → 0 ≡ count_to_read x
  unfolding count_to_read
  count-few h =
      let l : x.count < sources_needed x.op = omega arith in
      rw (lt-leb (sources_needed x.op) x.count l)

-- ---- what a step computes, by how many sources its byte needs

data Needs (m o : ℕ) : Type 0 where
  no_step : sources_needed o ≡ 0 → op_from o ≡ none → Needs m o
  of_one : sources_needed o ≡ 1 → op_from o ≡ some StepOp.copy → Needs m o
  of_two : sources_needed o ≡ 2 → (p : StepOp) → op_from o ≡ some p → ((vs : List (Option ℕ)) → apply (modulo m) p vs ≡ running.two vs (binary_no m o)) → Needs m o
  of_three : sources_needed o ≡ 3 → op_from o ≡ some StepOp.muladd → Needs m o

needs-add : (m : ℕ) → Needs m op.add
unfolding sources_needed op_from within binary_no
needs-add m = of_two refl StepOp.add refl (λ vs. refl)

needs-sub : (m : ℕ) → Needs m op.sub
unfolding sources_needed op_from within binary_no
needs-sub m = of_two refl StepOp.sub refl (λ vs. refl)

needs-mul : (m : ℕ) → Needs m op.mul
unfolding sources_needed op_from within binary_no
needs-mul m = of_two refl StepOp.mul refl (λ vs. refl)

needs-muladd : (m : ℕ) → Needs m op.muladd
unfolding sources_needed op_from within
needs-muladd m = of_three refl refl

needs-copy : (m : ℕ) → Needs m op.copy
unfolding sources_needed op_from within
needs-copy m = of_one refl refl

out_of_range : (o : ℕ) → (o ≡ op.add → ⊥) → (o ≡ op.sub → ⊥) → (o ≡ op.mul → ⊥) → within op.add op.mul o ≡ false
out_of_range o a b c = by (within op.add op.mul o) refl
  where
    by : (t : Bool) → within op.add op.mul o ≡ t → t ≡ false
    by true e = let r = within-true op.add op.mul o e in absurd (three (eq-or-lt_of_le {n = op.add} {m = o} r.0) (eq-or-lt_of_le {n = o} {m = op.mul} r.1))
      where
        three : (op.add ≡ o) ⊎ (op.add < o) → (o ≡ op.mul) ⊎ (o < op.mul) → ⊥
        three (inl e) h = a (sym e)
        three (inr g) (inl e) = c e
        three (inr g) (inr h) = b (omega arith)
    by false e = refl

needs-other :
    (m o : ℕ) → (o ≡ op.add → ⊥) → (o ≡ op.sub → ⊥) → (o ≡ op.mul → ⊥) → (o ≡ op.muladd → ⊥) → (o ≡ op.copy → ⊥) → Needs m o
unfolding sources_needed op_from
needs-other m o a b c d e =
    no_step (simp (ne_eqb o op.copy e, ne_eqb o op.muladd d, out_of_range o a b c))
    (simp (ne_eqb o op.add a, ne_eqb o op.sub b, ne_eqb o op.mul c, ne_eqb o op.muladd d, ne_eqb o op.copy e))

needs-of : (m o : ℕ) → Needs m o
needs-of m o = by (eqb o op.add) refl (eqb o op.sub) refl (eqb o op.mul) refl (eqb o op.muladd) refl (eqb o op.copy) refl
  where
    by :
        (a : Bool) → eqb o op.add ≡ a → (b : Bool) → eqb o op.sub ≡ b → (c : Bool) → eqb o op.mul ≡ c → (d : Bool) → eqb o op.muladd ≡ d
        → (e : Bool) → eqb o op.copy ≡ e → Needs m o
    by true a' b b' c c' d d' e e' = rw (eqb-true o op.add a') (needs-add m)
    by false a' true b' c c' d d' e e' = rw (eqb-true o op.sub b') (needs-sub m)
    by false a' false b' true c' d d' e e' = rw (eqb-true o op.mul c') (needs-mul m)
    by false a' false b' false c' true d' e e' = rw (eqb-true o op.muladd d') (needs-muladd m)
    by false a' false b' false c' false d' true e' = rw (eqb-true o op.copy e') (needs-copy m)
    by false a' false b' false c' false d' false e' =
        needs-other m o (eqb-false o op.add a') (eqb-false o op.sub b') (eqb-false o op.mul c') (eqb-false o op.muladd d') (eqb-false o op.copy e')

module _ (m : ℕ) (at : Reference → Option ℕ) (x : bytes.Step) where
  abbrev reads : ℕ → List (Option ℕ)
  reads c = reads_by at (up_to c (x.s0 ∷ x.s1 ∷ x.s2 ∷ []))

  reads-one : (c : ℕ) → 1 ≤ c → (l : List (Option ℕ)) × (reads c ≡ at x.s0 ∷ l)
  unfolding reads_by
  reads-one zero h = absurd (omega arith)
  reads-one (suc c) h = (reads_by at (up_to c (x.s1 ∷ x.s2 ∷ [])), refl)

  reads_two : (c : ℕ) → 2 ≤ c → (l : List (Option ℕ)) × (reads c ≡ at x.s0 ∷ at x.s1 ∷ l)
  unfolding reads_by
  reads_two zero h = absurd (omega arith)
  reads_two (suc zero) h = absurd (omega arith)
  reads_two (suc (suc c)) h = (reads_by at (up_to c (x.s2 ∷ [])), refl)

  reads_three : (c : ℕ) → 3 ≤ c → (l : List (Option ℕ)) × (reads c ≡ at x.s0 ∷ at x.s1 ∷ at x.s2 ∷ l)
  unfolding reads_by
  reads_three zero h = absurd (omega arith)
  reads_three (suc zero) h = absurd (omega arith)
  reads_three (suc (suc zero)) h = absurd (omega arith)
  reads_three (suc (suc (suc c))) h = (reads_by at (up_to c []), refl)

  few-one : (c : ℕ) → c < 1 → running.one (reads c) ≡ none
  unfolding reads_by
  few-one zero h = refl
  few-one (suc c) h = absurd (omega arith)

  few-two : (c : ℕ) (f : ℕ → ℕ → ℕ) → c < 2 → running.two (reads c) f ≡ none
  unfolding reads_by
  few-two zero f h = refl
  few-two (suc zero) f h = refl
  few-two (suc (suc c)) f h = absurd (omega arith)

  few-three : (c : ℕ) (f : ℕ → ℕ → ℕ → ℕ) → c < 3 → running.three (reads c) f ≡ none
  unfolding reads_by
  few-three zero f h = refl
  few-three (suc zero) f h = refl
  few-three (suc (suc zero)) f h = refl
  few-three (suc (suc (suc c))) f h = absurd (omega arith)

  value-by : (o : StepOp) → op_from x.op ≡ some o → value_by m at x ≡ apply (modulo m) o (reads x.count)
  unfolding value_by
  value-by o e = rw e

  value-no : op_from x.op ≡ none → value_by m at x ≡ none
  unfolding value_by
  value-no e = rw e

  -- no such step
  pub value_none : sources_needed x.op ≡ 0 → value_by m at x ≡ none
  value_none h = by (needs-of m x.op)
    where
      by : Needs m x.op → value_by m at x ≡ none
      by (no_step z e) = value-no e
      by (of_one z e) = absurd (omega arith)
      by (of_two z p e f) = absurd (omega arith)
      by (of_three z e) = absurd (omega arith)

  -- too few sources
  pub value-few : x.count < sources_needed x.op → value_by m at x ≡ none
  value-few h = by (needs-of m x.op)
    where
      by : Needs m x.op → value_by m at x ≡ none
      by (no_step z e) = value-no e
      by (of_one z e) = value-by StepOp.copy e ∙ few-one x.count (omega arith)
      by (of_two z p e f) = value-by p e ∙ f (reads x.count) ∙ few-two x.count (binary_no m x.op) (omega arith)
      by (of_three z e) = value-by StepOp.muladd e ∙ few-three x.count (λ u v w. ((u * v) % m + w) % m) (omega arith)

  pub value-one : sources_needed x.op ≡ 1 → 1 ≤ x.count → value_by m at x ≡ at x.s0
  value-one h c = by (needs-of m x.op) (reads-one x.count c)
    where
      by : Needs m x.op → (l : List (Option ℕ)) × (reads x.count ≡ at x.s0 ∷ l) → value_by m at x ≡ at x.s0
      by (no_step z e) w = absurd (omega arith)
      by (of_one z e) w = value-by StepOp.copy e ∙ ap running.one w.1
      by (of_two z p e f) w = absurd (omega arith)
      by (of_three z e) w = absurd (omega arith)

  pub value-two :
      sources_needed x.op ≡ 2 → 2 ≤ x.count
      → value_by m at x ≡ bind (at x.s0) (λ u. bind (at x.s1) (λ v. some (binary_no m x.op u v)))
  value-two h c = by (needs-of m x.op) (reads_two x.count c)
    where
      by :
          Needs m x.op → (l : List (Option ℕ)) × (reads x.count ≡ at x.s0 ∷ at x.s1 ∷ l)
          → value_by m at x ≡ bind (at x.s0) (λ u. bind (at x.s1) (λ v. some (binary_no m x.op u v)))
      by (no_step z e) w = absurd (omega arith)
      by (of_one z e) w = absurd (omega arith)
      by (of_two z p e f) w = value-by p e ∙ f (reads x.count) ∙ ap (λ l. running.two l (binary_no m x.op)) w.1
      by (of_three z e) w = absurd (omega arith)

  pub value-three :
      sources_needed x.op ≡ 3 → 3 ≤ x.count
      → value_by m at x ≡ bind (at x.s0) (λ u. bind (at x.s1) (λ v. bind (at x.s2) (λ w. some (((u * v) % m + w) % m))))
  value-three h c = by (needs-of m x.op) (reads_three x.count c)
    where
      by :
          Needs m x.op → (l : List (Option ℕ)) × (reads x.count ≡ at x.s0 ∷ at x.s1 ∷ at x.s2 ∷ l)
          → value_by m at x ≡ bind (at x.s0) (λ u. bind (at x.s1) (λ v. bind (at x.s2) (λ w. some (((u * v) % m + w) % m))))
      by (no_step z e) w = absurd (omega arith)
      by (of_one z e) w = absurd (omega arith)
      by (of_two z p e f) w = absurd (omega arith)
      by (of_three z e) w = value-by StepOp.muladd e ∙ ap (λ l. running.three l (λ u v w. ((u * v) % m + w) % m)) w.1

  -- ---- the ways through the code: n is how many sources the step reads

  enough : (b : Bool) → leb (sources_needed x.op) x.count ≡ b → (cond b (sources_needed x.op) 0 ≡ 0 → ⊥)
      → (cond b (sources_needed x.op) 0 ≡ sources_needed x.op) × (sources_needed x.op ≤ x.count)
  enough true e z = (refl, leb-true (sources_needed x.op) x.count e)
  enough false e z = absurd (z refl)

  module _ (n : ℕ) (e : n ≡ count_to_read x) where
    pub gives_none : n ≡ 0 → none ≡ value_by m at x
    unfolding count_to_read
    gives_none h = by (leb (sources_needed x.op) x.count) refl (sym e ∙ h)
      where
        by : (b : Bool) → leb (sources_needed x.op) x.count ≡ b → cond b (sources_needed x.op) 0 ≡ 0 → none ≡ value_by m at x
        by true f g = sym (value_none g)
        by false f g = sym (value-few (leb-false (sources_needed x.op) x.count f))

    module _ (z : n ≡ 0 → ⊥) where
      reads_all : (n ≡ sources_needed x.op) × (n ≤ x.count) × (n ≤ 3)
      unfolding count_to_read
      reads_all =
          let r = enough (leb (sources_needed x.op) x.count) refl (λ h. z (e ∙ h)) in
          let q : n ≡ sources_needed x.op = e ∙ r.0 in
          (q, omega (arith, r.1), omega (arith, sources-small x.op))

      is-needed : (k : ℕ) → n ≡ k → (sources_needed x.op ≡ k) × (k ≤ x.count)
      is-needed k h = (sym reads_all.0 ∙ h, omega (arith, reads_all.1))

      pub gives_one : (a : ℕ) → some a ≡ at x.s0 → n ≡ 1 → some a ≡ value_by m at x
      gives_one a p h =
          let r = is-needed 1 h in
          p ∙ sym (value-one r.0 r.1)

      pub gives-two : (a b r : ℕ) → some a ≡ at x.s0 → some b ≡ at x.s1 → n ≡ 2 → r ≡ binary_no m x.op a b → some r ≡ value_by m at x
      gives-two a b r p q h f =
          let s = is-needed 2 h in
          sym (value-two s.0 s.1 ∙ rw (← p, ← q) (ap some (sym f)))

      is-three : (n ≡ 1 → ⊥) → (n ≡ 2 → ⊥) → n ≡ 3
      is-three a b = omega (arith, reads_all.2)

      pub gives-three :
          (a b c r : ℕ) → some a ≡ at x.s0 → some b ≡ at x.s1 → some c ≡ at x.s2 → (n ≡ 1 → ⊥) → (n ≡ 2 → ⊥) → r ≡ ((a * b) % m + c) % m
          → some r ≡ value_by m at x
      gives-three a b c r p q s y w f =
          let h = is-needed 3 (is-three y w) in
          sym (value-three h.0 h.1 ∙ rw (← p, ← q, ← s) (ap some (sym f)))

      ways : (n ≡ 1) ⊎ ((n ≡ 2) ⊎ (n ≡ 3))
      ways = by (eqb n 1) refl (eqb n 2) refl
        where
          by : (b : Bool) → eqb n 1 ≡ b → (c : Bool) → eqb n 2 ≡ c → (n ≡ 1) ⊎ ((n ≡ 2) ⊎ (n ≡ 3))
          by true b' c c' = inl (eqb-true n 1 b')
          by false b' true c' = inr (inl (eqb-true n 2 c'))
          by false b' false c' = inr (inr (is-three (eqb-false n 1 b') (eqb-false n 2 c')))

      pub gives-no-first : none ≡ at x.s0 → none ≡ value_by m at x
      gives-no-first p = by ways
        where
          by : (n ≡ 1) ⊎ ((n ≡ 2) ⊎ (n ≡ 3)) → none ≡ value_by m at x
          by (inl h) = let r = is-needed 1 h in p ∙ sym (value-one r.0 r.1)
          by (inr (inl h)) = let r = is-needed 2 h in sym (value-two r.0 r.1 ∙ rw (← p))
          by (inr (inr h)) = let r = is-needed 3 h in sym (value-three r.0 r.1 ∙ rw (← p))

      pub gives-no-second : (a : ℕ) → some a ≡ at x.s0 → none ≡ at x.s1 → (n ≡ 1 → ⊥) → none ≡ value_by m at x
      gives-no-second a p q y = by ways
        where
          by : (n ≡ 1) ⊎ ((n ≡ 2) ⊎ (n ≡ 3)) → none ≡ value_by m at x
          by (inl h) = absurd (y h)
          by (inr (inl h)) = let r = is-needed 2 h in sym (value-two r.0 r.1 ∙ rw (← p, ← q))
          by (inr (inr h)) = let r = is-needed 3 h in sym (value-three r.0 r.1 ∙ rw (← p, ← q))

      pub gives-no-third :
          (a b : ℕ) → some a ≡ at x.s0 → some b ≡ at x.s1 → none ≡ at x.s2 → (n ≡ 1 → ⊥) → (n ≡ 2 → ⊥) → none ≡ value_by m at x
      gives-no-third a b p q s y w =
          let r = is-needed 3 (is-three y w) in
          sym (value-three r.0 r.1 ∙ rw (← p, ← q, ← s))

-- ---- a step

module _ (ns : List ℕ) (m : ℕ) (g : Lent) (t : Table) (x : bytes.Step) where
  pub step-no-value : (v : code.Option ℕ) → known v ≡ value_in ns m g t x → v ≡ code.None → no_rule ≡ step_to ns m g t x
  unfolding step_to
  step-no-value v e f =
      let z : value_in ns m g t x ≡ none = sym e ∙ ap known f in
      rw z

  module _ (w : ℕ) (v : code.Option ℕ) (e : known v ≡ value_in ns m g t x) (f : v ≡ code.Some w) where
    pub step-stores :
        (o : Outcome) (b : Bool) (p : ℕ) → b ≡ writable_no x.dest.kind → b ≡ true → p ≡ place_no x.dest → o ≡ stored t p w → o ≡ step_to ns m g t x
    unfolding step_to
    step-stores o b p h k q s =
        let z : value_in ns m g t x ≡ some w = sym e ∙ ap known f in
        let y : writable_no x.dest.kind ≡ true = sym h ∙ k in
        rw (z, y, ← q) s

    pub step_unwritable : (b : Bool) → b ≡ writable_no x.dest.kind → b ≡ false → no_rule ≡ step_to ns m g t x
    unfolding step_to
    step_unwritable b h k =
        let z : value_in ns m g t x ≡ some w = sym e ∙ ap known f in
        let y : writable_no x.dest.kind ≡ false = sym h ∙ k in
        rw (z, y)

-- ---- the table stays sound

below_two : (m : ℕ) (vs : List (Option ℕ)) (f : ℕ → ℕ → ℕ) → ((a b : ℕ) → f a b < m) → Below m (running.two vs f)
below_two m [] f h = below_none m
below_two m (a ∷ []) f h = below_none m
below_two m (none ∷ b ∷ l) f h = below_none m
below_two m (some a ∷ none ∷ l) f h = below_none m
below_two m (some a ∷ some b ∷ l) f h = below-some m (f a b) (h a b)

below-three : (m : ℕ) (vs : List (Option ℕ)) (f : ℕ → ℕ → ℕ → ℕ) → ((a b c : ℕ) → f a b c < m) → Below m (running.three vs f)
below-three m [] f h = below_none m
below-three m (a ∷ []) f h = below_none m
below-three m (a ∷ b ∷ []) f h = below_none m
below-three m (none ∷ b ∷ c ∷ l) f h = below_none m
below-three m (some a ∷ none ∷ c ∷ l) f h = below_none m
below-three m (some a ∷ some b ∷ none ∷ l) f h = below_none m
below-three m (some a ∷ some b ∷ some c ∷ l) f h = below-some m (f a b c) (h a b c)

below-same : (m : ℕ) {o p : Option ℕ} → o ≡ p → Below m p → Below m o
below-same m e h v f = h v (sym e ∙ f)

cond_below : (m : ℕ) (b : Bool) (x y : ℕ) → x < m → y < m → cond b x y < m
cond_below m true x y h g = h
cond_below m false x y h g = g

binary-below : (m o a b : ℕ) → Modulus m → binary_no m o a b < m
unfolding binary_no
binary-below m o a b h =
    cond_below m (eqb o op.add) _ _ (mod_below (a + b) m h)
    (cond_below m (eqb o op.sub) _ _ (mod_below (a + (m - b % m)) m h) (mod_below (a * b) m h))

module _ (ns : List ℕ) (m : ℕ) (o : Modulus m) (b : Reduced ns m) (g : Lent) (t : Table) (k : Kept m t) where
  value-below : (x : bytes.Step) → Below m (value_in ns m g t x)
  value-below x = by (needs-of m x.op) (ltb x.count 1) refl
    where
      by : Needs m x.op → (b : Bool) → ltb x.count 1 ≡ b → Below m (value_in ns m g t x)
      by (no_step z e) b f = below-same m (value-no m (read_in ns m g t) x e) (below_none m)
      by (of_one z e) true f = below-same m (value-few m (read_in ns m g t) x (omega (arith, ltb-true x.count 1 f))) (below_none m)
      by (of_one z e) false f = λ v q. read_below m o t k ns b g x.s0 v (sym q ∙ value-one m (read_in ns m g t) x z (ltb-false x.count 1 f))
      by (of_two z p e h) b f =
          below-same m (value-by m (read_in ns m g t) x p e ∙ h (reads m (read_in ns m g t) x x.count))
          (below_two m (reads m (read_in ns m g t) x x.count) (binary_no m x.op) (λ a b. binary-below m x.op a b o))
      by (of_three z e) b f =
          below-same m (value-by m (read_in ns m g t) x StepOp.muladd e)
          (below-three m (reads m (read_in ns m g t) x x.count) (λ u v w. ((u * v) % m + w) % m) (λ u v w. mod_below ((u * v) % m + w) m o))

  set_below : (vs : List ℕ) (n i v : ℕ) → ((j : ℕ) → j < n → get_or vs j 0 < m) → v < m → i < length vs → (j : ℕ) → j < n → get_or (set vs i v) j 0 < m
  set_below vs n i v h l s j q = by (eqb j i) refl
    where
      by : (b : Bool) → eqb j i ≡ b → get_or (set vs i v) j 0 < m
      by true e = rw (eqb-true j i e, get_or-set_same vs i v 0 s) l
      by false e = rw (get_or-set_other vs i j v 0 (eqb-false j i e)) (h j q)

  kept-old : (key v i : ℕ) → v < m → index_of t.keys t.count key ≡ code.Some i → Kept m (table t.heads t.nexts t.keys (set t.values i v) t.count)
  kept-old key v i l e =
      record {
        chained = k.chained;
        size = length-set t.values i v ∙ k.size;
        reduced =
            set_below t.values t.count i v k.reduced l (omega (arith, (index_there t.keys t.count key i e).0, k.chained.few, k.size));
      }

  kept_new :
      (key v : ℕ) → v < m → index_of t.keys t.count key ≡ code.None → t.count < cell_limit
      → Kept m
      (table (set t.heads (id_in key) (t.count + 1)) (set t.nexts t.count (get_or t.heads (id_in key) 0)) (set t.keys t.count key)
      (set t.values t.count v) (t.count + 1))
  kept_new key v l e room =
      record {
        chained = chained_more t.heads t.nexts t.keys t.count key k.chained room (index_not t.keys t.count key e);
        size = length-set t.values t.count v ∙ k.size;
        reduced = more;
      }
    where
      more : (j : ℕ) → j < t.count + 1 → get_or (set t.values t.count v) j 0 < m
      more j q = by (eq-or-lt_of_le {n = j} {m = t.count} (omega arith))
        where
          by : (j ≡ t.count) ⊎ (j < t.count) → get_or (set t.values t.count v) j 0 < m
          by (inl f) = rw (f, get_or-set_same t.values t.count v 0 (omega (arith, k.size))) l
          by (inr h) = rw (get_or-set_other t.values t.count j v 0 (λ f. omega arith)) (k.reduced j h)

  next-same : (a b : Table) → next a ≡ next b → a ≡ b
  next-same a b h = cc

  kept-stored : (key v : ℕ) (u : Table) → v < m → stored t key v ≡ next u → Kept m u
  unfolding stored
  kept-stored key v u l h = by (index_of t.keys t.count key) refl h
    where
      fresh :
          (b : Bool) → ltb t.count cell_limit ≡ b → index_of t.keys t.count key ≡ code.None
          → cond b
          (next
          (table (set t.heads (id_in key) (t.count + 1)) (set t.nexts t.count (get_or t.heads (id_in key) 0)) (set t.keys t.count key)
          (set t.values t.count v) (t.count + 1)))
          over
          ≡ next u
          → Kept m u
      fresh true f e h = subst (Kept m) (next-same _ u h) (kept_new key v l e (ltb-true t.count cell_limit f))
      fresh false f e h = absurd (let z : ◌≡◌ {A = ℕ} 0 1 = cc in omega arith)

      by : (f : code.Option ℕ) → index_of t.keys t.count key ≡ f → stored_at t key v f ≡ next u → Kept m u
      by (code.Some i) e h = subst (Kept m) (next-same _ u h) (kept-old key v i l e)
      by code.None e h = fresh (ltb t.count cell_limit) refl e h

  -- A STEP LEAVES A SOUND TABLE
  pub kept_step : (x : bytes.Step) (u : Table) → step_to ns m g t x ≡ next u → Kept m u
  unfolding step_to
  kept_step x u h = by (value_in ns m g t x) refl h
    where
      write : (v : ℕ) → v < m → (b : Bool) → cond b (stored t (place_no x.dest) v) no_rule ≡ next u → Kept m u
      write v l true h = kept-stored (place_no x.dest) v u l h
      write v l false h = absurd (let z : ◌≡◌ {A = ℕ} 0 1 = cc in omega arith)

      by : (w : Option ℕ) → value_in ns m g t x ≡ w → stored_by t x.dest w ≡ next u → Kept m u
      by none e h = absurd (let z : ◌≡◌ {A = ℕ} 0 1 = cc in omega arith)
      by (some v) e h = write v (value-below x v e) (writable_no x.dest.kind) h
