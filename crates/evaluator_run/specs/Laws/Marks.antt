-- Laws of the marks: what each way through the code answers.
-- Assumes nothing.
use Rattle.std.specs.Prelude.{ℕ, suc, ◌+◌, ◌*◌, ◌-◌, ◌%◌, ◌<◌, ◌≤◌, ◌≡◌, Bool, cond, get_or, set}
use Rattle.std.proofs.Math.Path.{refl, sym}
use Rattle.std.proofs.Common.{◌∙◌, ap, mod-lt, add-one, arith}
use Rattle.std.proofs.Math.Bool.{true, false}
use Rattle.std.proofs.Math.Option.{Option, none, some}
use mathlib.Core.List.{List, [], ◌∷◌, ◌++◌}
use Rattle.std.proofs.Math.Dec.{eqb}
use borrow.Author.Tests.{eq-eqb, ne_eqb}
use Rattle.kinds.specs.KindBytes as kind
use Rattle.kinds.specs.Steps.{step_size, step_at, steps_of, steps-none, steps-more, steps-split}
use Rattle.kinds.specs.declared.reference.Reference.{Reference}
use Rattle.kinds.specs.declared.step.Step as bytes
use Rattle.evaluator_cells.specs.Given.{Lent}
use Rattle.lists.specs.Records.{record_count, records_in}
use Rattle.evaluator_cells.specs.Cells.{id_limit, writable_no}
use Rattle.evaluator_cells.specs.Before.{known, before_in}
use Rattle.evaluator_step.specs.Machine.{value_by, count_to_read}
use Rattle.evaluator_run.specs.Presence.{is_known, class_no, slot_count, slot_by, slot_no, SlotIs, seen_at, has_in, mark_as, mark_to, onward, marks_to, marks_are}
use Rattle.evaluator_step.specs.Laws.Steps.{gives-three, gives-no-third}
use Rattle.std.specs.Prelude as code

-- ---- slots

cond_small : (b : Bool) (n x y : ℕ) → x ≤ n → y ≤ n → cond b x y ≤ n
cond_small true n x y h g = h
cond_small false n x y h g = g

pub class-small : (k : ℕ) → class_no k ≤ 6
unfolding class_no
class-small k =
    cond_small (eqb k kind.cm) 6 _ _ (omega arith)
    (cond_small (eqb k kind.exp) 6 _ _ (omega arith)
    (cond_small (eqb k kind.q) 6 _ _ (omega arith)
    (cond_small (eqb k kind.tmp) 6 _ _ (omega arith)
    (cond_small (eqb k kind.f) 6 _ _ (omega arith) (cond_small (eqb k kind.tmp_exp) 6 _ _ (omega arith) (omega arith))))))

pub slot_small : (k r i : ℕ) → i < id_limit → slot_by k r i < slot_count
unfolding slot_by
slot_small k r i h =
    let a : cond (eqb k kind.tmp) 0 (r % 2) ≤ 1 = cond_small (eqb k kind.tmp) 1 0 (r % 2) (omega arith) (omega (arith, mod-lt r {m = 2} (omega arith))) in
    omega (arith, class-small k)

module _ (x : Reference) (c : ℕ) (e : c ≡ class_no x.kind) (l : x.id < id_limit) where
  slot_is : (n : ℕ) → n ≡ slot_no x → SlotIs x n
  slot_is n q = record { is = q; small = rw q (slot_small x.kind x.prime x.id l) }

  pub slot-tmp : x.kind ≡ kind.tmp → SlotIs x (c * 2 * id_limit + x.id)
  unfolding slot_by
  slot-tmp h = slot_is (c * 2 * id_limit + x.id) (rw (eq-eqb x.kind kind.tmp h, ← e) (omega arith))

  pub slot-other : (x.kind ≡ kind.tmp → ⊥) → SlotIs x ((c * 2 + x.prime % 2) * id_limit + x.id)
  unfolding slot_by
  slot-other h = slot_is ((c * 2 + x.prime % 2) * id_limit + x.id) (rw (ne_eqb x.kind kind.tmp h, ← e))

-- ---- a source

pub known-some : (v : code.Option ℕ) → code.is_some v ≡ is_known (known v)
known-some (code.Some v) = refl
known-some code.None = refl

module _ (m : ℕ) (g : Lent) (p : List ℕ) (r : Reference) where
  pub has-number : r.kind ≡ kind.number → true ≡ has_in m g p r
  unfolding has_in
  has-number h = rw (eq-eqb r.kind kind.number h)

  module _ (h : r.kind ≡ kind.number → ⊥) (n : ℕ) (e : n ≡ slot_no r) where
    pub has-mark : get_or p n 0 ≡ 1 → true ≡ has_in m g p r
    unfolding has_in seen_at
    has-mark f =
        let z : eqb (get_or p (slot_no r) 0) 1 ≡ true = eq-eqb (get_or p (slot_no r) 0) 1 (rw (← e) f) in
        rw (ne_eqb r.kind kind.number h, z)

    pub has-given : (get_or p n 0 ≡ 1 → ⊥) → (v : code.Option ℕ) → known v ≡ before_in m g r.kind r.id r.prime → is_known (known v) ≡ has_in m g p r
    unfolding has_in seen_at
    has-given f v q =
        let z : eqb (get_or p (slot_no r) 0) 1 ≡ false = ne_eqb (get_or p (slot_no r) 0) 1 (λ y. f (rw e y)) in
        rw (ne_eqb r.kind kind.number h, z, q)

  pub mark-some : (b : Bool) → b ≡ has_in m g p r → b ≡ true → some 0 ≡ mark_as m g p r
  mark-some b e h =
      let z : has_in m g p r ≡ true = sym e ∙ h in
      rw z

  pub mark-none : (b : Bool) → b ≡ has_in m g p r → b ≡ false → none ≡ mark_as m g p r
  mark-none b e h =
      let z : has_in m g p r ≡ false = sym e ∙ h in
      rw z

-- ---- a step

module _ (m : ℕ) (g : Lent) (p : List ℕ) (x : bytes.Step) where
  -- where the third source decides
  pub has-third :
      (n : ℕ) (e : n ≡ count_to_read x) (z : n ≡ 0 → ⊥) → some 0 ≡ mark_as m g p x.s0 → some 0 ≡ mark_as m g p x.s1 → (n ≡ 1 → ⊥) → (n ≡ 2 → ⊥)
      → (b : Bool) → b ≡ has_in m g p x.s2 → b ≡ is_known (value_by m (mark_as m g p) x)
  has-third n e z u v y w true f =
      ap is_known (gives-three m (mark_as m g p) x n e z 0 0 0 _ u v (mark-some m g p x.s2 true f refl) y w refl)
  has-third n e z u v y w false f = ap is_known (gives-no-third m (mark_as m g p) x n e z 0 0 u v (mark-none m g p x.s2 false f refl) y w)

  module _ (a : Bool) (ea : a ≡ is_known (value_by m (mark_as m g p) x)) where
    pub mark-no-value : a ≡ false → none ≡ mark_to m g p x
    unfolding mark_to
    mark-no-value h =
        let z : is_known (value_by m (mark_as m g p) x) ≡ false = sym ea ∙ h in
        rw z

    module _ (ha : a ≡ true) (b : Bool) (eb : b ≡ writable_no x.dest.kind) where
      pub mark_unwritable : b ≡ false → none ≡ mark_to m g p x
      unfolding mark_to
      mark_unwritable h =
          let z : is_known (value_by m (mark_as m g p) x) ≡ true = sym ea ∙ ha in
          let y : writable_no x.dest.kind ≡ false = sym eb ∙ h in
          rw (z, y)

      pub mark_made : b ≡ true → (n : ℕ) → n ≡ slot_no x.dest → some (set p n 1) ≡ mark_to m g p x
      unfolding mark_to
      mark_made h n e =
          let z : is_known (value_by m (mark_as m g p) x) ≡ true = sym ea ∙ ha in
          let y : writable_no x.dest.kind ≡ true = sym eb ∙ h in
          rw (z, y, e)

-- ---- a list

module _ (m : ℕ) (g : Lent) where
  marks-append : (xs ys : List bytes.Step) (p : List ℕ) → marks_to m g p (xs ++ ys) ≡ onward m g (marks_to m g p xs) (λ q. marks_to m g q ys)
  unfolding marks_to
  marks-append [] ys p = refl
  marks-append (x ∷ xs) ys p = by (mark_to m g p x) (marks-append xs ys)
    where
      by :
          (o : Option (List ℕ)) → ((q : List ℕ) → marks_to m g q (xs ++ ys) ≡ onward m g (marks_to m g q xs) (λ u. marks_to m g u ys))
          → onward m g o (λ q. marks_to m g q (xs ++ ys)) ≡ onward m g (onward m g o (λ q. marks_to m g q xs)) (λ u. marks_to m g u ys)
      by none ih = refl
      by (some q) ih = ih q

  onward-some : (o : Option (List ℕ)) → onward m g o (λ q. some q) ≡ o
  onward-some none = refl
  onward-some (some q) = refl

  marks-one : (x : bytes.Step) (p : List ℕ) → marks_to m g p (x ∷ []) ≡ mark_to m g p x
  unfolding marks_to
  marks-one x p = onward-some (mark_to m g p x)

  module _ (l p : List ℕ) where
    pub marks_begin : marks_to m g p (steps_of l 0) ≡ some p
    unfolding marks_to
    marks_begin = rw (steps-none l)

    module _ (k : ℕ) (q : List ℕ) (h : marks_to m g p (steps_of l k) ≡ some q) (x : bytes.Step) (e : x ≡ step_at l (step_size * k)) (b : Bool) (q' : List ℕ) (f : marks_are b q' ≡ mark_to m g q x) where
      marks-more : marks_to m g p (steps_of l (suc k)) ≡ mark_to m g q x
      marks-more = rw (steps-more l k, marks-append, h, ← e) (marks-one x q)

      pub marks-next : b ≡ true → marks_to m g p (steps_of l (k + 1)) ≡ some q'
      marks-next t =
          let z : some q' ≡ mark_to m g q x = rw t at f in
          rw (add-one k) (marks-more ∙ sym z)

      pub marks-stop : b ≡ false → k < record_count l → false ≡ is_known (marks_to m g p (records_in l))
      marks-stop t w =
          let z : none ≡ mark_to m g q x = rw t at f in
          let n : record_count l ≡ suc k + (record_count l - suc k) = omega arith in
          rw (n, steps-split l (suc k) (record_count l - suc k), marks-append, marks-more, ← z)

    pub marks-end : (k : ℕ) (q : List ℕ) → marks_to m g p (steps_of l k) ≡ some q → k ≤ record_count l → record_count l ≤ k → true ≡ is_known (marks_to m g p (records_in l))
    marks-end k q h a b =
        let n : record_count l ≡ k = omega arith in
        rw (n, h)
