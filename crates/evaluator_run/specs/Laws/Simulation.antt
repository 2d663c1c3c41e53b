-- THE RUN OVER TABLES IS MEANING'S RUNNING, of records that are well formed: read, computed, written, step by step and list by list.
-- Assumes nothing.
use Rattle.std.specs.Prelude.{ℕ, ◌<◌, ◌≤◌, ◌≡◌, Bool, cond, ◌&&◌, eqb, leb}
use Rattle.std.proofs.Math.Path.{refl}
use Rattle.std.proofs.Common.{ap, length-append, leb-true, eqb-true}
use Rattle.std.proofs.Math.Bool.{true, false}
use Rattle.std.proofs.Math.Option.{Option, none, some, none-ne-some}
use mathlib.Core.List.{List, [], ◌∷◌, ◌++◌}
use native.Mathlib.Omega.{arith}
use Rattle.std.proofs.Math.ListN.{length}
use Rattle.kinds.specs.KindBytes as kind
use Rattle.kinds.specs.Kinds.{is_reference}
use Rattle.kinds.specs.declared.reference.Reference.{Reference}
use Rattle.kinds.specs.declared.step.Step as bytes
use Rattle.meaning.specs.Trees.{Lit, Each}
use Rattle.meaning.specs.Values.{bind}
use Rattle.meaning.specs.Models.{modulo}
use Rattle.meaning.specs.Steps.{Kind, kind_no, Cell, place, Ref, StepOp, Step, step}
use Rattle.meaning.specs.Running as running
use Rattle.meaning.specs.Running.{Store, writable, either, read, read_all, computes, exec, run}
use Rattle.meaning.proofs.Laws.Tests.{and_left, and_right}
use Rattle.evaluator_cells.specs.Literals.{Reduced, NumbersOf}
use Rattle.evaluator_cells.specs.Given.{Lent, given}
use Rattle.lists.specs.Records.{counted_in, good_reference, good_references, good_record}
use Rattle.lists.specs.Decoding.{kind_from, op_from, ref_from, refs_from, step_from, steps_from}
use Rattle.evaluator_cells.specs.Cells.{cell_limit, id_limit, place_no, writable_no}
use Rattle.evaluator_run.specs.Evaluation.{is_among, adding, writing, written_after}
use Rattle.evaluator_cells.specs.Numbers.{Modulus}
use Rattle.evaluator_cells.specs.Before.{before_in}
use Rattle.evaluator_step.specs.Machine.{Table, Kept, lookup, Outcome, next, no_rule, over, stored, stored_by, after, read_in, reads_by, value_by, value_in, step_to, run_to}
use Rattle.evaluator_cells.specs.Laws.Keys.{Small, key_of, place-small, place-key, writable-is, before-is}
use Rattle.evaluator_step.specs.Laws.Kinds.{kind-from}
use Rattle.evaluator_step.specs.Laws.Steps.{kept_step}
use Rattle.evaluator_run.specs.Laws.Holding.{Held, lookup-is, Stored, stored-holds}

-- a reference of a record: its id has 16 bits
abbrev pub Narrow : Reference → Type 0
Narrow r = r.id < id_limit

pub record NarrowStep (x : bytes.Step) : Type 0 where
  pub dest : Narrow x.dest
  pub sources : Each Narrow (counted_in x)

pub record Fine (x : bytes.Step) : Type 0 where
  pub good : good_record x ≡ true
  pub narrow : NarrowStep x

-- L n: what node n brings
module _ (L : ℕ → Lit) (m : ℕ) (g : Lent) where
  -- what a write makes of a table that holds a store
  abbrev pub Written : Store ℕ → List Cell → ℕ → Ref → Outcome → Type 0
  Written s ds v d (next u) = (s' : Store ℕ) × (running.write s d v ≡ some s') × Held s' (writing d ds) u
  Written s ds v d no_rule = running.write s d v ≡ none
  Written s ds v d over = cell_limit < length (writing d ds)

  -- what a step makes of a table that holds a store
  abbrev pub Stepped : Store ℕ → List Cell → Option Step → Outcome → Type 0
  Stepped s ds o (next u) = (x : Step) × (o ≡ some x) × ((s' : Store ℕ) × (exec (modulo m) (given m g) x s ≡ some s') × Held s' (writing x.destination ds) u)
  Stepped s ds o no_rule = bind o (λ x. exec (modulo m) (given m g) x s) ≡ none
  Stepped s ds o over = (x : Step) × (o ≡ some x) × (cell_limit < length (writing x.destination ds))

  -- WHAT THE RUN OVER TABLES SAYS of meaning's running, from a table that holds s and ds
  abbrev pub Simulated : List bytes.Step → Store ℕ → List Cell → Outcome → Type 0
  Simulated rs s ds (next u) =
      (xs : List Step) × (steps_from L rs ≡ some xs)
      × ((s' : Store ℕ) × (run (modulo m) (given m g) xs s ≡ some s') × Held s' (written_after ds xs) u × Kept m u)
  Simulated rs s ds no_rule = bind (steps_from L rs) (λ xs. run (modulo m) (given m g) xs s) ≡ none
  Simulated rs s ds over = (xs : List Step) → steps_from L rs ≡ some xs → cell_limit < length (written_after ds xs)

-- ns: the same modulo m
module _ (L : ℕ → Lit) (m : ℕ) (g : Lent) (ns : List ℕ) (N : NumbersOf L m ns) where
  -- ---- a reference

  -- the reference that a record stands for, and how they agree
  pub record RefIs (r : Reference) : Type 0 where
    pub ref : Ref
    pub from : ref_from L r ≡ some ref
    pub reads : (s : Store ℕ) (ds : List Cell) (t : Table) → Held s ds t → read_in ns m g t r ≡ read (modulo m) (given m g) s ref
    pub writes :
        (s : Store ℕ) (ds : List Cell) (t : Table) → Held s ds t → Kept m t → (v : ℕ)
        → Written L m g s ds v ref (cond (writable_no r.kind) (stored t (place_no r) v) no_rule)

  number_is : (r : Reference) → eqb r.kind kind.number ≡ true → RefIs r
  unfolding ref_from read_in writable_no
  number_is r e =
      record {
        ref = Ref.number (L r.extra) r.extra;
        from = rw e;
        reads = λ s ds t h. rw e (ap some (N r.extra));
        writes = λ s ds t h k v. rw (eqb-true r.kind kind.number e) refl;
      }

  module _ (r : Reference) (k : Kind) (e : kind_from r.kind ≡ some k) (f : kind_no k ≡ r.kind) (n : eqb r.kind kind.number ≡ false) (l : Small (Cell.cell k r.id r.prime)) where
    abbrev c : Cell
    c = Cell.cell k r.id r.prime

    key-is : place_no r ≡ key_of (place c)
    unfolding place_no
    key-is = rw (← f) (place-key k r.id r.prime)

    cell-reads : (s : Store ℕ) (ds : List Cell) (t : Table) → Held s ds t → read_in ns m g t r ≡ either (s (place c)) (running.before (given m g) c)
    unfolding read_in
    cell-reads s ds t h =
        let a : lookup t (place_no r) ≡ s (place c) = rw key-is (lookup-is s ds t h (place c) (place-small c l)) in
        let b : before_in m g r.kind r.id r.prime ≡ running.before (given m g) c = rw (← f) (before-is m g k r.id r.prime) in
        rw (n, a, b)

    cell-writes :
        (s : Store ℕ) (ds : List Cell) (t : Table) → Held s ds t → Kept m t → (v : ℕ)
        → Written L m g s ds v (Ref.var c) (cond (writable_no r.kind) (stored t (place_no r) v) no_rule)
    cell-writes s ds t h q v =
        let w : writable_no r.kind ≡ writable c = rw (← f) (writable-is k r.id r.prime) in
        rw (w, key-is) (by (writable c) refl)
      where
        stores : writable c ≡ true → (o : Outcome) → Stored s ds t h m q (place c) (place-small c l) v o → Written L m g s ds v (Ref.var c) o
        stores y (next u) z = (running.set s (place c) v, rw y, z)
        stores y no_rule z = absurd z
        stores y over z = z

        by : (b : Bool) → writable c ≡ b → Written L m g s ds v (Ref.var c) (cond b (stored t (key_of (place c)) v) no_rule)
        by true y = stores y (stored t (key_of (place c)) v) (stored-holds s ds t h m q (place c) (place-small c l) v)
        by false y = rw y refl

    cell-is : RefIs r
    unfolding ref_from
    cell-is = record { ref = Ref.var c; from = rw (n, e); reads = cell-reads; writes = cell-writes }

  pub ref-is : (r : Reference) → good_reference r ≡ true → Narrow r → RefIs r
  unfolding good_reference
  ref-is r h w = by (eqb r.kind kind.number) refl
    where
      a : is_reference r.kind ≡ true
      a = and_left (is_reference r.kind) (leb r.prime 1) h

      b : r.prime ≤ 1
      b = leb-true r.prime 1 (and_right (is_reference r.kind) (leb r.prime 1) h)

      by : (t : Bool) → eqb r.kind kind.number ≡ t → RefIs r
      by true e = number_is r e
      by false e = let k = kind-from r.kind a e in cell-is r k.0 k.1 k.2 e (w, omega (arith, b))

  -- ---- the sources of a record

  pub record RefsAre (rs : List Reference) : Type 0 where
    pub refs : List Ref
    pub from : refs_from L rs ≡ some refs
    pub reads :
        (s : Store ℕ) (ds : List Cell) (t : Table) → Held s ds t → reads_by (read_in ns m g t) rs ≡ read_all (modulo m) (given m g) s refs

  pub refs_are : (rs : List Reference) → good_references rs ≡ true → Each Narrow rs → RefsAre rs
  unfolding good_references refs_from reads_by
  refs_are [] h w = record { refs = []; from = refl; reads = λ s ds t k. refl }
  refs_are (r ∷ rs) h w =
      let a = ref-is r (and_left (good_reference r) (good_references rs) h) w.0 in
      let b = refs_are rs (and_right (good_reference r) (good_references rs) h) w.1 in
      record {
        refs = a.ref ∷ b.refs;
        from = rw (a.from, b.from);
        reads = λ s ds t k. rw (a.reads s ds t k, b.reads s ds t k);
      }

  -- ---- a step

  module _ (x : bytes.Step) (h : good_record x ≡ true) (w : NarrowStep x) where
    good-dest : good_reference x.dest ≡ true
    unfolding good_record
    good-dest = and_left (good_reference x.dest) (good_references (counted_in x)) (and_right (leb x.count 3) (good_reference x.dest && good_references (counted_in x)) h)

    good-sources : good_references (counted_in x) ≡ true
    unfolding good_record
    good-sources =
        and_right (good_reference x.dest) (good_references (counted_in x)) (and_right (leb x.count 3) (good_reference x.dest && good_references (counted_in x)) h)

    dest-is : RefIs x.dest
    dest-is = ref-is x.dest good-dest w.dest

    sources_are : RefsAre (counted_in x)
    sources_are = refs_are (counted_in x) good-sources w.sources

    module _ (s : Store ℕ) (ds : List Cell) (t : Table) (k : Held s ds t) (q : Kept m t) where
      no-op : op_from x.op ≡ none → (step_from L x ≡ none) × (step_to ns m g t x ≡ no_rule)
      unfolding step_from step_to value_by
      no-op e = (rw e, rw e)

      module _ (o : StepOp) (e : op_from x.op ≡ some o) where
        abbrev st : Step
        st = step o dest-is.ref sources_are.refs

        from_is : step_from L x ≡ some st
        unfolding step_from
        from_is = rw (e, dest-is.from, sources_are.from)

        value-is : value_in ns m g t x ≡ computes (modulo m) (given m g) s o sources_are.refs
        unfolding value_by
        value-is = rw (e, sources_are.reads s ds t k)

        done-by :
            (v : Option ℕ) → computes (modulo m) (given m g) s o sources_are.refs ≡ v → Stepped L m g s ds (some st) (stored_by t x.dest v)
        done-by none f = rw f refl
        done-by (some v) f = by (cond (writable_no x.dest.kind) (stored t (place_no x.dest) v) no_rule) (dest-is.writes s ds t k q v)
          where
            by : (z : Outcome) → Written L m g s ds v dest-is.ref z → Stepped L m g s ds (some st) z
            by (next u) y = (st, refl, (y.0, rw f y.1, y.2))
            by no_rule y = rw f y
            by over y = (st, refl, y)

        step_by : Stepped L m g s ds (step_from L x) (step_to ns m g t x)
        unfolding step_to
        step_by = rw (from_is, value-is) (done-by (computes (modulo m) (given m g) s o sources_are.refs) refl)

      -- A STEP
      pub step_is : Stepped L m g s ds (step_from L x) (step_to ns m g t x)
      step_is = by (op_from x.op) refl
        where
          by : (o : Option StepOp) → op_from x.op ≡ o → Stepped L m g s ds (step_from L x) (step_to ns m g t x)
          by none e = let z = no-op e in rw (z.0, z.1) refl
          by (some o) e = step_by o e

  -- ---- a list

  -- the cells written only grow
  adding-grows : (c : Cell) (ds : List Cell) → length ds ≤ length (adding c ds)
  unfolding adding
  adding-grows c ds = by (is_among c ds)
    where
      by : (b : Bool) → length ds ≤ length (cond b ds (ds ++ (c ∷ [])))
      by true = omega arith
      by false = rw (length-append ds (c ∷ [])) (omega arith)

  writing-grows : (d : Ref) (ds : List Cell) → length ds ≤ length (writing d ds)
  writing-grows (Ref.var c) ds = adding-grows (place c) ds
  writing-grows (Ref.number l n) ds = omega arith

  pub written_grows : (xs : List Step) (ds : List Cell) → length ds ≤ length (written_after ds xs)
  unfolding written_after
  written_grows [] ds = omega arith
  written_grows (x ∷ xs) ds =
      let a = writing-grows x.destination ds in
      let b = written_grows xs (writing x.destination ds) in
      omega arith

  pub simulated :
      (rs : List bytes.Step) → Each Fine rs → Modulus m → Reduced ns m → (s : Store ℕ) (ds : List Cell) (t : Table) → Held s ds t → Kept m t
      → Simulated L m g rs s ds (run_to ns m g t rs)
  unfolding run_to steps_from written_after
  simulated [] f o b s ds t h k = ([], refl, (s, refl, h, k))
  simulated (x ∷ rs) f o b s ds t h k =
      first (simulated rs f.1 o b) (step_to ns m g t x) refl (step_is x f.0.good f.0.narrow s ds t h k)
    where
      -- a step, then the rest
      goes_on :
          (st : Step) → step_from L x ≡ some st → (s₁ : Store ℕ) → exec (modulo m) (given m g) st s ≡ some s₁ → (z : Outcome)
          → Simulated L m g rs s₁ (writing st.destination ds) z → Simulated L m g (x ∷ rs) s ds z
      goes_on st e s₁ q (next u) y = (st ∷ y.0, rw (e, y.1), (y.2.0, rw (q, y.2.1), y.2.2, y.2.3))
      goes_on st e s₁ q no_rule y = rw e (rest (steps_from L rs) y)
        where
          rest :
              (l : Option (List Step)) → bind l (λ xs. run (modulo m) (given m g) xs s₁) ≡ none
              → bind (bind l (λ ss. some (st ∷ ss))) (λ xs. run (modulo m) (given m g) xs s) ≡ none
          rest none y = refl
          rest (some ss) y = rw q y
      goes_on st e s₁ q over y = λ xs p. by (steps_from L rs) y xs (rw e at p)
        where
          by :
              (l : Option (List Step)) → ((ss : List Step) → l ≡ some ss → cell_limit < length (written_after (writing st.destination ds) ss))
              → (xs : List Step) → bind l (λ ss. some (st ∷ ss)) ≡ some xs → cell_limit < length (written_after ds xs)
          by none y xs p = absurd (none-ne-some xs p)
          by (some ss) y xs p =
              let w : st ∷ ss ≡ xs = cc in
              rw (← w) (y ss refl)

      first :
          ((s₁ : Store ℕ) (ds₁ : List Cell) (u : Table) → Held s₁ ds₁ u → Kept m u → Simulated L m g rs s₁ ds₁ (run_to ns m g u rs))
          → (z : Outcome) → step_to ns m g t x ≡ z → Stepped L m g s ds (step_from L x) z
          → Simulated L m g (x ∷ rs) s ds (after z (λ u. run_to ns m g u rs))
      first ih (next u) e y =
          goes_on y.0 y.1 y.2.0 y.2.1 (run_to ns m g u rs)
          (ih y.2.0 (writing y.0.destination ds) u y.2.2 (kept_step ns m o b g t k x u e))
      first ih no_rule e y = none_first (step_from L x) y
        where
          none_first :
              (l : Option Step) → bind l (λ st. exec (modulo m) (given m g) st s) ≡ none
              → bind (bind l (λ st. bind (steps_from L rs) (λ ss. some (st ∷ ss)))) (λ xs. run (modulo m) (given m g) xs s) ≡ none
          none_first none y = refl
          none_first (some st) y = then (steps_from L rs)
            where
              then : (l : Option (List Step)) → bind (bind l (λ ss. some (st ∷ ss))) (λ xs. run (modulo m) (given m g) xs s) ≡ none
              then none = refl
              then (some ss) = rw y refl
      first ih over e y = λ xs p. by (steps_from L rs) xs (rw y.1 at p)
        where
          by : (l : Option (List Step)) → (xs : List Step) → bind l (λ ss. some (y.0 ∷ ss)) ≡ some xs → cell_limit < length (written_after ds xs)
          by none xs p = absurd (none-ne-some xs p)
          by (some ss) xs p =
              let w : y.0 ∷ ss ≡ xs = cc in
              let a = written_grows ss (writing y.0.destination ds) in
              rw (← w) (omega (arith, y.2))
