-- THE MARKS AND THE STORE: where the marks say that a list runs, it runs, and where they do not, it does not. Of records that are well formed.
-- Assumes nothing.
use Rattle.std.specs.Prelude.{ℕ, ◌%◌, ◌<◌, ◌≤◌, ◌≡◌, Bool, false, cond, ◌&&◌, ◌||◌, ◌⊎◌, length, get_or, set, replicate, eqb, leb}
use Rattle.std.proofs.Math.Path.{refl, sym}
use Rattle.std.proofs.Common.{◌∙◌, ap, subst, inl, inr, mod-eq_of_lt, mod-lt, arith, length-set, get_or-set_same, get_or-set_other, leb-true, eqb-true}
use Rattle.std.proofs.Math.Bool.{true}
use Rattle.std.proofs.Math.Option.{Option, none, some}
use mathlib.Core.List.{List, [], ◌∷◌}
use Rattle.std.proofs.lemmas.List.{length-replicate}
use Rattle.kinds.specs.KindBytes as kind
use Rattle.kinds.specs.Kinds.{is_reference}
use Rattle.kinds.specs.declared.reference.Reference.{Reference}
use Rattle.kinds.specs.declared.step.Step as bytes
use Rattle.meaning.specs.Trees.{Lit, RowKind, FlatKind, XKind, Each}
use Rattle.meaning.specs.Values.{bind}
use Rattle.meaning.specs.Models.{modulo}
use Rattle.meaning.specs.Steps.{BareKind, Kind, kind_no, Cell, same, place, Ref, StepOp, Step, step}
use Rattle.meaning.specs.Running as running
use Rattle.meaning.specs.Running.{Store, empty, writable, either, read, read_all, computes, apply, exec, run}
use Rattle.meaning.proofs.Laws.Cells.{same_eq, same_refl}
use Rattle.meaning.proofs.Laws.Tests.{and_left, and_right, true-false}
use Rattle.evaluator_cells.specs.Given.{Lent, given}
use Rattle.lists.specs.Records.{counted_in, good_reference, good_references, good_record}
use Rattle.lists.specs.Decoding.{kind_from, op_from, ref_from, refs_from, step_from, steps_from}
use Rattle.evaluator_cells.specs.Cells.{writable_no}
use Rattle.evaluator_cells.specs.Before.{before_in}
use Rattle.evaluator_step.specs.Machine.{reads_by, value_by}
use Rattle.evaluator_run.specs.Presence.{is_known, class_no, slot_count, slot_by, slot_no, marked, seen_at, has_in, mark_as, mark_to, onward, marks_to}
use Rattle.evaluator_cells.specs.Laws.Keys.{Small, writable-is, before-is}
use Rattle.evaluator_step.specs.Laws.Kinds.{kind-from}
use Rattle.evaluator_cells.specs.Laws.Chains.{zeros}
use Rattle.evaluator_run.specs.Laws.Marks.{slot_small}
use Rattle.evaluator_run.specs.Laws.Simulation.{Narrow, NarrowStep, Fine}

-- ---- slots of cells

abbrev pub slot_of : Cell → ℕ
slot_of (Cell.cell k i r) = slot_by (kind_no k) r i

abbrev kind_of_class : ℕ → Kind
kind_of_class n =
    cond (eqb n 0) (Kind.row RowKind.cm)
    (cond (eqb n 1) Kind.exp (cond (eqb n 2) (Kind.row RowKind.q) (cond (eqb n 3) Kind.tmp (cond (eqb n 4) Kind.f Kind.tmp_exp))))

-- a kind that a step may write is its class's; any other is of the last class
abbrev Classed : Kind → Type 0
Classed k =
    (((i r : ℕ) → writable (Cell.cell k i r) ≡ true) × (kind_of_class (class_no (kind_no k)) ≡ k) × (class_no (kind_no k) < 6))
    ⊎ (((i r : ℕ) → writable (Cell.cell k i r) ≡ false) × (class_no (kind_no k) ≡ 6))

classed : (k : Kind) → Classed k
unfolding class_no
classed (Kind.row RowKind.cm) = inl ((λ i r. refl), refl, omega arith)
classed (Kind.row RowKind.const) = inr ((λ i r. refl), refl)
classed (Kind.row RowKind.q) = inl ((λ i r. refl), refl, omega arith)
classed (Kind.flat FlatKind.public) = inr ((λ i r. refl), refl)
classed (Kind.flat FlatKind.challenge) = inr ((λ i r. refl), refl)
classed (Kind.flat FlatKind.eval) = inr ((λ i r. refl), refl)
classed (Kind.x XKind.x_div_x_sub_xi) = inr ((λ i r. refl), refl)
classed (Kind.x XKind.x_div_x_sub_w_xi) = inr ((λ i r. refl), refl)
classed (Kind.x XKind.plain_x) = inr ((λ i r. refl), refl)
classed Kind.exp = inl ((λ i r. refl), refl, omega arith)
classed Kind.tmp = inl ((λ i r. refl), refl, omega arith)
classed Kind.f = inl ((λ i r. refl), refl, omega arith)
classed Kind.tmp_exp = inl ((λ i r. refl), refl, omega arith)
classed (Kind.bare BareKind.Zi) = inr ((λ i r. refl), refl)
classed (Kind.bare BareKind.tree1) = inr ((λ i r. refl), refl)
classed (Kind.bare BareKind.tree2) = inr ((λ i r. refl), refl)
classed (Kind.bare BareKind.tree3) = inr ((λ i r. refl), refl)
classed (Kind.bare BareKind.tree4) = inr ((λ i r. refl), refl)
classed (Kind.bare BareKind.Z) = inr ((λ i r. refl), refl)

class_same : (k k' : Kind) (i r : ℕ) → writable (Cell.cell k' i r) ≡ true → class_no (kind_no k) ≡ class_no (kind_no k') → k ≡ k'
class_same k k' i r w e = by (classed k) (classed k')
  where
    by : Classed k → Classed k' → k ≡ k'
    by (inl a) (inl b) = sym a.1 ∙ ap kind_of_class e ∙ b.1
    by (inr a) (inl b) = absurd (omega (arith, a.1, b.2))
    by a (inr b) = absurd (let z : ◌≡◌ {A = ℕ} 0 1 = no (sym w ∙ b.0 i r) in omega arith)
      where
        no : true ≡ false → ◌≡◌ {A = ℕ} 0 1
        no q = cc

-- a temporary's prime does not count; any other's does
abbrev Primed : Kind → Type 0
Primed k = (k ≡ Kind.tmp) ⊎ ((eqb (kind_no k) kind.tmp ≡ false) × ((i r : ℕ) → place (Cell.cell k i r) ≡ Cell.cell k i r))

primed : (k : Kind) → Primed k
primed (Kind.row RowKind.cm) = inr (refl, λ i r. refl)
primed (Kind.row RowKind.const) = inr (refl, λ i r. refl)
primed (Kind.row RowKind.q) = inr (refl, λ i r. refl)
primed (Kind.flat FlatKind.public) = inr (refl, λ i r. refl)
primed (Kind.flat FlatKind.challenge) = inr (refl, λ i r. refl)
primed (Kind.flat FlatKind.eval) = inr (refl, λ i r. refl)
primed (Kind.x XKind.x_div_x_sub_xi) = inr (refl, λ i r. refl)
primed (Kind.x XKind.x_div_x_sub_w_xi) = inr (refl, λ i r. refl)
primed (Kind.x XKind.plain_x) = inr (refl, λ i r. refl)
primed Kind.exp = inr (refl, λ i r. refl)
primed Kind.tmp = inl refl
primed Kind.f = inr (refl, λ i r. refl)
primed Kind.tmp_exp = inr (refl, λ i r. refl)
primed (Kind.bare BareKind.Zi) = inr (refl, λ i r. refl)
primed (Kind.bare BareKind.tree1) = inr (refl, λ i r. refl)
primed (Kind.bare BareKind.tree2) = inr (refl, λ i r. refl)
primed (Kind.bare BareKind.tree3) = inr (refl, λ i r. refl)
primed (Kind.bare BareKind.tree4) = inr (refl, λ i r. refl)
primed (Kind.bare BareKind.Z) = inr (refl, λ i r. refl)

slot-place : (c : Cell) → slot_of c ≡ slot_of (place c)
unfolding slot_by
slot-place (Cell.cell k i r) = by (primed k)
  where
    by : Primed k → slot_of (Cell.cell k i r) ≡ slot_of (place (Cell.cell k i r))
    by (inl e) = rw e refl
    by (inr p) = ap slot_of (sym (p.1 i r))

-- the parts of a slot
prime-small : (k r : ℕ) → cond (eqb k kind.tmp) 0 (r % 2) < 2
prime-small k r = by (eqb k kind.tmp)
  where
    by : (b : Bool) → cond b 0 (r % 2) < 2
    by true = omega arith
    by false = mod-lt r (omega arith)

slot_same : (c d : Cell) → Small c → Small d → writable d ≡ true → slot_of c ≡ slot_of d → place c ≡ place d
unfolding slot_by
slot_same (Cell.cell k i r) (Cell.cell k' i' r') a b w e =
    let x = prime-small (kind_no k) r in
    let y = prime-small (kind_no k') r' in
    let n : class_no (kind_no k) ≡ class_no (kind_no k') = omega arith in
    let p : cond (eqb (kind_no k) kind.tmp) 0 (r % 2) ≡ cond (eqb (kind_no k') kind.tmp) 0 (r' % 2) = omega arith in
    let j : i ≡ i' = omega arith in
    let q : k ≡ k' = class_same k k' i' r' w n in
    let p' : cond (eqb (kind_no k) kind.tmp) 0 (r % 2) ≡ cond (eqb (kind_no k) kind.tmp) 0 (r' % 2)
    = subst (λ (u : Kind). cond (eqb (kind_no k) kind.tmp) 0 (r % 2) ≡ cond (eqb (kind_no u) kind.tmp) 0 (r' % 2)) (sym q) p in
    by (primed k) p' ∙ ap (λ (u : Kind). place (Cell.cell u i r')) q ∙ ap (λ u. place (Cell.cell k' u r')) j
  where
    by : Primed k → cond (eqb (kind_no k) kind.tmp) 0 (r % 2) ≡ cond (eqb (kind_no k) kind.tmp) 0 (r' % 2) → place (Cell.cell k i r) ≡ place (Cell.cell k i r')
    by (inl t) p = rw t refl
    by (inr t) p =
        let z : r % 2 ≡ r' % 2 = rw t.0 at p in
        let u : r ≡ r' = sym (mod-eq_of_lt {n = r} {m = 2} a.1) ∙ z ∙ mod-eq_of_lt {n = r'} {m = 2} b.1 in
        ap (λ v. place (Cell.cell k i v)) u

-- ---- marks that stand for a store

pub record Present (s : Store ℕ) (p : List ℕ) : Type 0 where
  pub size : length p ≡ slot_count
  pub marks : (c : Cell) → Small c → is_known (s (place c)) ≡ seen_at p (slot_of c)

present_zeros : (n : ℕ) → n ≡ slot_count → Present empty (replicate n 0)
unfolding seen_at
present_zeros n e = record { size = length-replicate n 0 ∙ e; marks = λ c l. sym (ap (λ x. eqb x marked) (zeros n (slot_of c))) }

pub present_none : Present empty (replicate slot_count 0)
present_none = present_zeros slot_count refl

present_set : (s : Store ℕ) (p : List ℕ) (d : Cell) (v : ℕ) → Present s p → Small d → writable d ≡ true → Present (running.set s (place d) v) (set p (slot_of d) marked)
unfolding seen_at
present_set s p d v h l w = record { size = length-set p (slot_of d) marked ∙ h.size; marks = marks }
  where
    inside : (d : Cell) → Small d → slot_of d < slot_count
    inside (Cell.cell k i r) l = slot_small (kind_no k) r i l.0

    marks : (c : Cell) → Small c → is_known (cond (same (place d) (place c)) (some v) (s (place c))) ≡ eqb (get_or (set p (slot_of d) marked) (slot_of c) 0) marked
    marks c a = by (same (place d) (place c)) refl
      where
        by :
            (b : Bool) → same (place d) (place c) ≡ b
            → is_known (cond b (some v) (s (place c))) ≡ eqb (get_or (set p (slot_of d) marked) (slot_of c) 0) marked
        by true e =
            let q : slot_of c ≡ slot_of d = slot-place c ∙ ap slot_of (sym (same_eq (place d) (place c) e)) ∙ sym (slot-place d) in
            rw (q, get_or-set_same p (slot_of d) marked 0 (rw h.size (inside d l)))
        by false e =
            let n : slot_of c ≡ slot_of d → ⊥
            = λ q.
            let z : same (place d) (place c) ≡ true = rw (slot_same c d a l w q) (same_refl (place d)) in
            true-false z e in
            rw (get_or-set_other p (slot_of d) (slot_of c) marked 0 n) (h.marks c a)

-- ---- a reference

known-either : (a b : Option ℕ) → is_known (either a b) ≡ (is_known a || is_known b)
known-either none b = refl
known-either (some v) b = refl

known-cond : (b : Bool) → is_known {A = ℕ} (cond b (some 0) none) ≡ b
known-cond true = refl
known-cond false = refl

module _ (L : ℕ → Lit) (m : ℕ) (g : Lent) where
  abbrev MarkWritten : Store ℕ → ℕ → Ref → Option (List ℕ) → Type 0
  MarkWritten s v d (some q) = (s' : Store ℕ) × (running.write s d v ≡ some s') × Present s' q
  MarkWritten s v d none = running.write s d v ≡ none

  record MarkIs (r : Reference) : Type 0 where
    ref : Ref
    from : ref_from L r ≡ some ref
    has : (s : Store ℕ) (p : List ℕ) → Present s p → is_known (read (modulo m) (given m g) s ref) ≡ has_in m g p r
    writes : (s : Store ℕ) (p : List ℕ) → Present s p → (v : ℕ) → MarkWritten s v ref (cond (writable_no r.kind) (some (set p (slot_no r) marked)) none)

  number-marks : (r : Reference) → eqb r.kind kind.number ≡ true → MarkIs r
  unfolding ref_from has_in writable_no
  number-marks r e =
      record {
        ref = Ref.number (L r.extra) r.extra;
        from = rw e;
        has = λ s p h. rw e;
        writes = λ s p h v. rw (eqb-true r.kind kind.number e) refl;
      }

  module _ (r : Reference) (k : Kind) (e : kind_from r.kind ≡ some k) (f : kind_no k ≡ r.kind) (n : eqb r.kind kind.number ≡ false) (l : Small (Cell.cell k r.id r.prime)) where
    abbrev c : Cell
    c = Cell.cell k r.id r.prime

    slot_is : slot_no r ≡ slot_of c
    slot_is = rw (← f)

    cell-has : (s : Store ℕ) (p : List ℕ) → Present s p → is_known (either (s (place c)) (running.before (given m g) c)) ≡ has_in m g p r
    unfolding has_in
    cell-has s p h =
        let b : before_in m g r.kind r.id r.prime ≡ running.before (given m g) c = rw (← f) (before-is m g k r.id r.prime) in
        rw (n, slot_is, b, ← h.marks c l) (known-either (s (place c)) (running.before (given m g) c))

    cell-writes :
        (s : Store ℕ) (p : List ℕ) → Present s p → (v : ℕ) → MarkWritten s v (Ref.var c) (cond (writable_no r.kind) (some (set p (slot_no r) marked)) none)
    cell-writes s p h v =
        let w : writable_no r.kind ≡ writable c = rw (← f) (writable-is k r.id r.prime) in
        rw (w, slot_is) (by (writable c) refl)
      where
        by : (b : Bool) → writable c ≡ b → MarkWritten s v (Ref.var c) (cond b (some (set p (slot_of c) marked)) none)
        by true y = (running.set s (place c) v, rw y, present_set s p c v h l y)
        by false y = rw y refl

    cell-marks : MarkIs r
    unfolding ref_from
    cell-marks = record { ref = Ref.var c; from = rw (n, e); has = cell-has; writes = cell-writes }

  mark-is : (r : Reference) → good_reference r ≡ true → Narrow r → MarkIs r
  unfolding good_reference
  mark-is r h w = by (eqb r.kind kind.number) refl
    where
      a : is_reference r.kind ≡ true
      a = and_left (is_reference r.kind) (leb r.prime 1) h

      b : r.prime ≤ 1
      b = leb-true r.prime 1 (and_right (is_reference r.kind) (leb r.prime 1) h)

      by : (t : Bool) → eqb r.kind kind.number ≡ t → MarkIs r
      by true e = number-marks r e
      by false e = let k = kind-from r.kind a e in cell-marks r k.0 k.1 k.2 e (w, omega (arith, b))

  -- ---- the sources of a record

  -- as many values, there or not alike
  abbrev Alike : List (Option ℕ) → List (Option ℕ) → Type 0
  Alike [] [] = Unit {0}
  Alike [] (b ∷ bs) = ⊥
  Alike (a ∷ ls) [] = ⊥
  Alike (a ∷ ls) (b ∷ bs) = (is_known a ≡ is_known b) × Alike ls bs

  record MarksAre (rs : List Reference) : Type 0 where
    refs : List Ref
    from : refs_from L rs ≡ some refs
    has : (s : Store ℕ) (p : List ℕ) → Present s p → Alike (read_all (modulo m) (given m g) s refs) (reads_by (mark_as m g p) rs)

  marks_are : (rs : List Reference) → good_references rs ≡ true → Each Narrow rs → MarksAre rs
  unfolding good_references refs_from reads_by
  marks_are [] h w = record { refs = []; from = refl; has = λ s p k. tt }
  marks_are (r ∷ rs) h w =
      let a = mark-is r (and_left (good_reference r) (good_references rs) h) w.0 in
      let b = marks_are rs (and_right (good_reference r) (good_references rs) h) w.1 in
      record {
        refs = a.ref ∷ b.refs;
        from = rw (a.from, b.from);
        has = λ s p k. (a.has s p k ∙ sym (known-cond (has_in m g p r)), b.has s p k);
      }

  alike_one : (ls bs : List (Option ℕ)) → Alike ls bs → is_known (running.one ls) ≡ is_known (running.one bs)
  alike_one [] [] h = refl
  alike_one [] (b ∷ bs) h = absurd h
  alike_one (a ∷ ls) [] h = absurd h
  alike_one (a ∷ ls) (b ∷ bs) h = h.0

  known_two : (a b : Option ℕ) (f : ℕ → ℕ → ℕ) → is_known (bind a (λ u. bind b (λ v. some (f u v)))) ≡ (is_known a && is_known b)
  known_two none b f = refl
  known_two (some a) none f = refl
  known_two (some a) (some b) f = refl

  known-three : (a b c : Option ℕ) (f : ℕ → ℕ → ℕ → ℕ) → is_known (bind a (λ u. bind b (λ v. bind c (λ w. some (f u v w))))) ≡ (is_known a && (is_known b && is_known c))
  known-three none b c f = refl
  known-three (some a) none c f = refl
  known-three (some a) (some b) none f = refl
  known-three (some a) (some b) (some c) f = refl

  alike_two : (ls bs : List (Option ℕ)) (f : ℕ → ℕ → ℕ) → Alike ls bs → is_known (running.two ls f) ≡ is_known (running.two bs f)
  alike_two [] [] f h = refl
  alike_two [] (b ∷ bs) f h = absurd h
  alike_two (a ∷ ls) [] f h = absurd h
  alike_two (a ∷ []) (b ∷ []) f h = refl
  alike_two (a ∷ []) (b ∷ d ∷ bs) f h = absurd h.1
  alike_two (a ∷ c ∷ ls) (b ∷ []) f h = absurd h.1
  alike_two (a ∷ c ∷ ls) (b ∷ d ∷ bs) f h = known_two a c f ∙ rw (h.0, h.1.0) (sym (known_two b d f))

  alike_three : (ls bs : List (Option ℕ)) (f : ℕ → ℕ → ℕ → ℕ) → Alike ls bs → is_known (running.three ls f) ≡ is_known (running.three bs f)
  alike_three [] [] f h = refl
  alike_three [] (b ∷ bs) f h = absurd h
  alike_three (a ∷ ls) [] f h = absurd h
  alike_three (a ∷ []) (b ∷ []) f h = refl
  alike_three (a ∷ []) (b ∷ d ∷ bs) f h = absurd h.1
  alike_three (a ∷ c ∷ ls) (b ∷ []) f h = absurd h.1
  alike_three (a ∷ c ∷ []) (b ∷ d ∷ []) f h = refl
  alike_three (a ∷ c ∷ []) (b ∷ d ∷ y ∷ bs) f h = absurd h.1.1
  alike_three (a ∷ c ∷ x ∷ ls) (b ∷ d ∷ []) f h = absurd h.1.1
  alike_three (a ∷ c ∷ x ∷ ls) (b ∷ d ∷ y ∷ bs) f h = known-three a c x f ∙ rw (h.0, h.1.0, h.1.1.0) (sym (known-three b d y f))

  alike_apply : (o : StepOp) (ls bs : List (Option ℕ)) → Alike ls bs → is_known (apply (modulo m) o ls) ≡ is_known (apply (modulo m) o bs)
  alike_apply StepOp.add ls bs h = alike_two ls bs (modulo m).plus h
  alike_apply StepOp.sub ls bs h = alike_two ls bs (modulo m).minus h
  alike_apply StepOp.mul ls bs h = alike_two ls bs (modulo m).times h
  alike_apply StepOp.muladd ls bs h = alike_three ls bs (λ u v w. (modulo m).plus ((modulo m).times u v) w) h
  alike_apply StepOp.copy ls bs h = alike_one ls bs h

  -- ---- a step

  abbrev MarkedStep : Store ℕ → Option Step → Option (List ℕ) → Type 0
  MarkedStep s o (some q) = (x : Step) × (o ≡ some x) × ((s' : Store ℕ) × (exec (modulo m) (given m g) x s ≡ some s') × Present s' q)
  MarkedStep s o none = bind o (λ x. exec (modulo m) (given m g) x s) ≡ none

  module _ (x : bytes.Step) (h : good_record x ≡ true) (w : NarrowStep x) where
    good-dest : good_reference x.dest ≡ true
    unfolding good_record
    good-dest = and_left (good_reference x.dest) (good_references (counted_in x)) (and_right (leb x.count 3) (good_reference x.dest && good_references (counted_in x)) h)

    good-sources : good_references (counted_in x) ≡ true
    unfolding good_record
    good-sources =
        and_right (good_reference x.dest) (good_references (counted_in x)) (and_right (leb x.count 3) (good_reference x.dest && good_references (counted_in x)) h)

    dest-marks : MarkIs x.dest
    dest-marks = mark-is x.dest good-dest w.dest

    sources-mark : MarksAre (counted_in x)
    sources-mark = marks_are (counted_in x) good-sources w.sources

    module _ (s : Store ℕ) (p : List ℕ) (k : Present s p) where
      no-op : op_from x.op ≡ none → (step_from L x ≡ none) × (mark_to m g p x ≡ none)
      unfolding step_from mark_to value_by
      no-op e = (rw e, rw e)

      module _ (o : StepOp) (e : op_from x.op ≡ some o) where
        abbrev st : Step
        st = step o dest-marks.ref sources-mark.refs

        from_is : step_from L x ≡ some st
        unfolding step_from
        from_is = rw (e, dest-marks.from, sources-mark.from)

        value_alike : is_known (value_by m (mark_as m g p) x) ≡ is_known (computes (modulo m) (given m g) s o sources-mark.refs)
        unfolding value_by
        value_alike =
            rw e (sym (alike_apply o (read_all (modulo m) (given m g) s sources-mark.refs) (reads_by (mark_as m g p) (counted_in x)) (sources-mark.has s p k)))

        done-by :
            (v : Option ℕ) → computes (modulo m) (given m g) s o sources-mark.refs ≡ v
            → MarkedStep s (some st) (cond (is_known v) (cond (writable_no x.dest.kind) (some (set p (slot_no x.dest) marked)) none) none)
        done-by none f = rw f refl
        done-by (some v) f = by (cond (writable_no x.dest.kind) (some (set p (slot_no x.dest) marked)) none) (dest-marks.writes s p k v)
          where
            by : (z : Option (List ℕ)) → MarkWritten s v dest-marks.ref z → MarkedStep s (some st) z
            by (some q) y = (st, refl, (y.0, rw f y.1, y.2))
            by none y = rw f y

        step_by : MarkedStep s (step_from L x) (mark_to m g p x)
        unfolding mark_to
        step_by = rw (from_is, value_alike) (done-by (computes (modulo m) (given m g) s o sources-mark.refs) refl)

      marked_step : MarkedStep s (step_from L x) (mark_to m g p x)
      marked_step = by (op_from x.op) refl
        where
          by : (o : Option StepOp) → op_from x.op ≡ o → MarkedStep s (step_from L x) (mark_to m g p x)
          by none e = let z = no-op e in rw (z.0, z.1) refl
          by (some o) e = step_by o e

  -- ---- a list

  -- WHAT THE MARKS SAY of meaning's running
  abbrev pub MarkedAll : List bytes.Step → Store ℕ → Option (List ℕ) → Type 0
  MarkedAll rs s (some q) = (xs : List Step) × (steps_from L rs ≡ some xs) × ((s' : Store ℕ) × (run (modulo m) (given m g) xs s ≡ some s'))
  MarkedAll rs s none = bind (steps_from L rs) (λ xs. run (modulo m) (given m g) xs s) ≡ none

  pub marked_all : (rs : List bytes.Step) → Each Fine rs → (s : Store ℕ) (p : List ℕ) → Present s p → MarkedAll rs s (marks_to m g p rs)
  unfolding marks_to steps_from
  marked_all [] f s p h = ([], refl, (s, refl))
  marked_all (x ∷ rs) f s p h = first (marked_all rs f.1) (mark_to m g p x) (marked_step x f.0.good f.0.narrow s p h)
    where
      goes_on :
          (st : Step) → step_from L x ≡ some st → (s₁ : Store ℕ) → exec (modulo m) (given m g) st s ≡ some s₁ → (z : Option (List ℕ))
          → MarkedAll rs s₁ z → MarkedAll (x ∷ rs) s z
      goes_on st e s₁ q (some u) y = (st ∷ y.0, rw (e, y.1), (y.2.0, rw (q, y.2.1)))
      goes_on st e s₁ q none y = rw e (rest (steps_from L rs) y)
        where
          rest :
              (l : Option (List Step)) → bind l (λ xs. run (modulo m) (given m g) xs s₁) ≡ none
              → bind (bind l (λ ss. some (st ∷ ss))) (λ xs. run (modulo m) (given m g) xs s) ≡ none
          rest none y = refl
          rest (some ss) y = rw q y

      first :
          ((s₁ : Store ℕ) (q : List ℕ) → Present s₁ q → MarkedAll rs s₁ (marks_to m g q rs))
          → (z : Option (List ℕ)) → MarkedStep s (step_from L x) z → MarkedAll (x ∷ rs) s (onward m g z (λ q. marks_to m g q rs))
      first ih (some q) y = goes_on y.0 y.1 y.2.0 y.2.1 (marks_to m g q rs) (ih y.2.0 q y.2.2)
      first ih none y = none_first (step_from L x) y
        where
          none_first :
              (l : Option Step) → bind l (λ st. exec (modulo m) (given m g) st s) ≡ none
              → bind (bind l (λ st. bind (steps_from L rs) (λ ss. some (st ∷ ss)))) (λ xs. run (modulo m) (given m g) xs s) ≡ none
          none_first none y = refl
          none_first (some st) y = then (steps_from L rs)
            where
              then : (l : Option (List Step)) → bind (bind l (λ ss. some (st ∷ ss))) (λ xs. run (modulo m) (given m g) xs s) ≡ none
              then none = refl
              then (some ss) = rw y refl
