-- Records and the steps that they say are fixed alike: reference by reference, record by record, list by list.
-- Assumes nothing.
use Prim.Native.Nat.{ℕ, zero, suc, ◌+◌, ◌*◌, ◌/◌, ◌%◌, ◌≤◌}
use Rattle.std.specs.Prelude.{◌≡◌, Bool, not, cond, ◌&&◌, ◌||◌, length, T, leb, ltb}
use Rattle.std.proofs.Math.Path.{refl, ap, subst}
use Rattle.std.proofs.Common.{sym, ◌∙◌, arith, div-add-mod', zero-add}
use Rattle.std.proofs.Math.Bool.{true, false}
use Rattle.std.proofs.Math.Option.{Option, none, some, none-ne-some, some-injective}
use mathlib.Core.List.{List, [], ◌∷◌, ◌++◌}
use Rattle.std.proofs.Math.Dec.{eqb}
use borrow.Author.Tests.{eqb-true, eq-eqb, ne_eqb, leb-true}
use Rattle.kinds.specs.KindBytes as kind
use Rattle.kinds.specs.Kinds.{is_reference, is_leaf}
use Rattle.kinds.specs.Range.{within, within-true, pass}
use Rattle.kinds.specs.Write.{write, write-length}
use Rattle.kinds.specs.Steps.{step_size, steps_of, steps_bytes, steps-none, steps-length, steps-joined}
use Rattle.kinds.specs.declared.reference.Reference.{Reference}
use Rattle.kinds.specs.declared.step.Step as bytes
use Rattle.meaning.specs.Trees.{Lit, Each, up_to}
use Rattle.meaning.specs.Values.{bind}
use Rattle.meaning.specs.Steps.{Kind, Cell, Ref, StepOp, Step, step}
use Rattle.meaning.specs.Building.{Segment}
use Rattle.meaning.proofs.Laws.Tests.{true-false, and_left, and_right, bind-some}
use Rattle.fixed_meaning.specs.Fixing.{Plan, Map, Fixing, begin, become, rename_ref, fix_cell, meet_cell, meet, fix_refs, fix_step, fix_list, fix_end, fix_segment}
use Rattle.fixed_meaning.specs.Renaming.{rename_refs, rename_step, rename}
use Rattle.fixed_meaning.proofs.FixingLaws.{segment_renamed}
use Rattle.lent_lists.specs.Verdicts.{fine}
use Rattle.lent_lists.specs.Laws.Records.{record-used}
use Rattle.lists.specs.Records.{record_count, records_in, counted_in, good_reference, good_record, good_records, good_list}
use Rattle.lent_lists.specs.Records.{good_used, good_lists, record_by, used_by, mapped, rewritten}
use Rattle.fixing.specs.ProverCode.{rule_for, rule_dim, plan_of, meet_reference, meet_used, meet_record, meet_records, fix_expression, placed, fix_reference, fix_record, temporaries, prover_verdict, list_after}
use Rattle.lists.specs.Decoding.{kind_from, op_from, ref_from, refs_from, step_from, steps_from}
use Rattle.lent_lists.specs.Laws.Rewriting.{mapped-length}

-- ---- kinds

abbrev is_exp : Kind → Bool
is_exp Kind.exp = true
is_exp (Kind.row k) = false
is_exp (Kind.flat k) = false
is_exp (Kind.x k) = false
is_exp Kind.tmp = false
is_exp Kind.f = false
is_exp Kind.tmp_exp = false
is_exp (Kind.bare k) = false

abbrev is_exp_in : Option Kind → Bool
is_exp_in none = false
is_exp_in (some k) = is_exp k

-- of the bytes of references, exp's alone is that of exp
pub reference-range : (b : ℕ) → is_reference b ≡ true → b ≤ kind.Z
unfolding is_reference is_leaf
reference-range b h = go (within kind.cm kind.x b) refl (within kind.tmp kind.Z b) refl h
  where
    go : (s : Bool) → within kind.cm kind.x b ≡ s → (t : Bool) → within kind.tmp kind.Z b ≡ t → (s || t) ≡ true → b ≤ kind.Z
    go true e t f q = let w = within-true kind.cm kind.x b e in omega (arith, w.1)
    go false e true f q = let w = within-true kind.tmp kind.Z b f in omega (arith, w.1)
    go false e false f q = absurd (true-false q refl)

only-exp : (b : ℕ) → is_reference b ≡ true → eqb b kind.exp ≡ false → is_exp_in (kind_from b) ≡ false
unfolding kind_from
only-exp b h e =
    go (eqb b kind.exp) e (is_exp_in (kind_from b)) (pass (λ j. eqb j kind.exp || not (is_exp_in (kind_from j))) 41 0 tt b (omega (arith, reference-range b h)))
  where
    go : (s : Bool) → s ≡ false → (t : Bool) → T (s || not t) → t ≡ false
    go true q t w = absurd (true-false refl q)
    go false q true w = absurd w
    go false q false w = refl

-- a cell of any other kind is not met and stays
other-met : (L : Plan) (k : Kind) (i r : ℕ) (s : Fixing) → is_exp k ≡ false → meet_cell L (Cell.cell k i r) s ≡ s
other-met L (Kind.row k) i r s h = refl
other-met L (Kind.flat k) i r s h = refl
other-met L (Kind.x k) i r s h = refl
other-met L Kind.exp i r s h = absurd (true-false refl h)
other-met L Kind.tmp i r s h = refl
other-met L Kind.f i r s h = refl
other-met L Kind.tmp_exp i r s h = refl
other-met L (Kind.bare k) i r s h = refl

other-stays : (L : Plan) (m : Map) (k : Kind) (i r : ℕ) → is_exp k ≡ false → fix_cell L m (Cell.cell k i r) ≡ Cell.cell k i r
other-stays L m (Kind.row k) i r h = refl
other-stays L m (Kind.flat k) i r h = refl
other-stays L m (Kind.x k) i r h = refl
other-stays L m Kind.exp i r h = absurd (true-false refl h)
other-stays L m Kind.tmp i r h = refl
other-stays L m Kind.f i r h = refl
other-stays L m Kind.tmp_exp i r h = refl
other-stays L m (Kind.bare k) i r h = refl

module _ (literal : ℕ → Lit) (rules cms : List ℕ) where
  abbrev L : Plan
  L = plan_of rules

  -- ---- a reference: its record and its cell are met alike, and become the same
  pub record JoinedRef (r : Reference) (x : Ref) : Type 0 where
    pub met : (s : Fixing) → meet_reference L r s ≡ meet L x s
    pub fixed : (m : Map) → ref_from literal (fix_reference rules cms m r) ≡ some (rename_ref (fix_cell L m) x)

  number-said : (r : Reference) → eqb r.kind kind.number ≡ true → ref_from literal r ≡ some (Ref.number (literal r.extra) r.extra)
  unfolding ref_from
  number-said r n = rw n

  nothing_said : (r : Reference) → eqb r.kind kind.number ≡ false → kind_from r.kind ≡ none → ref_from literal r ≡ none
  unfolding ref_from
  nothing_said r n k = rw (n, k)

  cell-said : (r : Reference) → eqb r.kind kind.number ≡ false → (c : Kind) → kind_from r.kind ≡ some c → ref_from literal r ≡ some (Ref.var (Cell.cell c r.id r.prime))
  unfolding ref_from
  cell-said r n c k = rw (n, k)

  placed-said : (r : Reference) → r.kind ≡ kind.cm → ref_from literal (placed cms r) ≡ ref_from literal r
  unfolding ref_from kind_from
  placed-said r h =
      let n : eqb r.kind kind.number ≡ false = ne_eqb r.kind kind.number (λ z. omega arith) in
      rw (n, eq-eqb r.kind kind.cm h)

  become-says :
      (r : Reference) (a b t : Option ℕ) (d : ℕ) → r.kind ≡ kind.exp →
      ref_from literal (fix_expression a b t d r) ≡ some (Ref.var (become a b t r.id r.prime))
  unfolding ref_from kind_from
  become-says r (some c) b t d h = refl
  become-says r none (some k) t d h = refl
  become-says r none none (some t) d h = refl
  become-says r none none none d h =
      let e : eqb r.kind kind.exp ≡ true = eq-eqb r.kind kind.exp h in
      let n : eqb r.kind kind.number ≡ false = ne_eqb r.kind kind.number (λ z. omega arith) in
      let c : eqb r.kind kind.cm ≡ false = ne_eqb r.kind kind.cm (λ z. omega arith) in
      let k : eqb r.kind kind.const ≡ false = ne_eqb r.kind kind.const (λ z. omega arith) in
      rw (n, c, k, e)

  exp-met : (r : Reference) → r.kind ≡ kind.exp → (s : Fixing) → meet_reference L r s ≡ meet L (Ref.var (Cell.cell Kind.exp r.id r.prime)) s
  unfolding meet_reference
  exp-met r h s = rw (eq-eqb r.kind kind.exp h)

  exp-fixed :
      (r : Reference) → r.kind ≡ kind.exp → (m : Map) →
      ref_from literal (fix_reference rules cms m r) ≡ some (rename_ref (fix_cell L m) (Ref.var (Cell.cell Kind.exp r.id r.prime)))
  unfolding fix_reference
  exp-fixed r h m =
      let c : eqb r.kind kind.cm ≡ false = ne_eqb r.kind kind.cm (λ z. omega arith) in
      rw (c, eq-eqb r.kind kind.exp h) (become-says r (L.im r.id) (L.column r.id) (m r.id r.prime) (rule_dim (rule_for rules r.id)) h)

  joined-exp : (r : Reference) (x : Ref) → r.kind ≡ kind.exp → ref_from literal r ≡ some x → JoinedRef r x
  joined-exp r x h e =
      let q : some (Ref.var (Cell.cell Kind.exp r.id r.prime)) ≡ some x = sym (become-says r none none none 0 h) ∙ e in
      subst (JoinedRef r) (some-injective _ _ q) (record { met = exp-met r h; fixed = exp-fixed r h })

  -- any other
  unmet : (r : Reference) → eqb r.kind kind.exp ≡ false → (s : Fixing) → meet_reference L r s ≡ s
  unfolding meet_reference
  unmet r h s = rw h

  -- a cm's p does not count
  same-said : (r : Reference) → eqb r.kind kind.exp ≡ false → (m : Map) → ref_from literal (fix_reference rules cms m r) ≡ ref_from literal r
  unfolding fix_reference
  same-said r h m = go (eqb r.kind kind.cm) refl
    where
      go : (b : Bool) → eqb r.kind kind.cm ≡ b →
          ref_from literal (cond b (placed cms r) (cond (eqb r.kind kind.exp) (fix_expression (L.im r.id) (L.column r.id) (m r.id r.prime) (rule_dim (rule_for rules r.id)) r) r)) ≡ ref_from literal r
      go true e = placed-said r (eqb-true _ _ e)
      go false e = rw h

  joined-other : (r : Reference) (x : Ref) → is_reference r.kind ≡ true → eqb r.kind kind.exp ≡ false → ref_from literal r ≡ some x → JoinedRef r x
  joined-other r x g h e = go (eqb r.kind kind.number) refl (kind_from r.kind) refl
    where
      go : (b : Bool) → eqb r.kind kind.number ≡ b → (o : Option Kind) → kind_from r.kind ≡ o → JoinedRef r x
      go true n o k =
          let q : some (Ref.number (literal r.extra) r.extra) ≡ some x = sym (number-said r n) ∙ e in
          subst (JoinedRef r) (some-injective _ _ q) (record { met = unmet r h; fixed = λ m. same-said r h m ∙ number-said r n })
      go false n none k = absurd (none-ne-some x (sym (nothing_said r n k) ∙ e))
      go false n (some c) k =
          let i : is_exp c ≡ false = sym (ap is_exp_in k) ∙ only-exp r.kind g h in
          let q : some (Ref.var (Cell.cell c r.id r.prime)) ≡ some x = sym (cell-said r n c k) ∙ e in
          subst (JoinedRef r) (some-injective _ _ q)
          (record {
            met = λ s. unmet r h s ∙ sym (other-met L c r.id r.prime s i);
            fixed = λ m. same-said r h m ∙ cell-said r n c k ∙ ap (λ z. some (Ref.var z)) (sym (other-stays L m c r.id r.prime i));
          })

  joined-ref : (r : Reference) (x : Ref) → good_reference r ≡ true → ref_from literal r ≡ some x → JoinedRef r x
  unfolding good_reference
  joined-ref r x g e = go (eqb r.kind kind.exp) refl
    where
      go : (b : Bool) → eqb r.kind kind.exp ≡ b → JoinedRef r x
      go true h = joined-exp r x (eqb-true _ _ h) e
      go false h = joined-other r x (and_left (is_reference r.kind) (leb r.prime 1) g) h e

  -- ---- the sources that a record counts
  meet_all : List Reference → Fixing → Fixing
  meet_all [] s = s
  meet_all (r ∷ rs) s = meet_all rs (meet_reference L r s)

  fix_all : Map → List Reference → List Reference
  fix_all m [] = []
  fix_all m (r ∷ rs) = fix_reference rules cms m r ∷ fix_all m rs

  abbrev pub Good : Reference → Type 0
  Good r = good_reference r ≡ true

  -- in the order in which they stand
  counted-met : (c : ℕ) → c ≤ 3 → (a b d : Reference) (s : Fixing) → meet_used L (ltb 2 c) d (meet_used L (ltb 1 c) b (meet_used L (ltb 0 c) a s)) ≡ meet_all (up_to c (a ∷ b ∷ d ∷ [])) s
  unfolding meet_used meet_all
  counted-met zero h a b d s = refl
  counted-met (suc zero) h a b d s = refl
  counted-met (suc (suc zero)) h a b d s = refl
  counted-met (suc (suc (suc zero))) h a b d s = refl
  counted-met (suc (suc (suc (suc c)))) h a b d s = absurd (omega arith)

  counted-fixed : (m : Map) (c : ℕ) → c ≤ 3 → (a b d : Reference) →
      up_to c (used_by (fix_reference rules cms m) (ltb 0 c) a ∷ used_by (fix_reference rules cms m) (ltb 1 c) b ∷ used_by (fix_reference rules cms m) (ltb 2 c) d ∷ [])
      ≡ fix_all m (up_to c (a ∷ b ∷ d ∷ []))
  unfolding used_by fix_all
  counted-fixed m zero h a b d = refl
  counted-fixed m (suc zero) h a b d = refl
  counted-fixed m (suc (suc zero)) h a b d = refl
  counted-fixed m (suc (suc (suc zero))) h a b d = refl
  counted-fixed m (suc (suc (suc (suc c)))) h a b d = absurd (omega arith)

  pub counted-good : (c : ℕ) → c ≤ 3 → (a b d : Reference) → good_used (ltb 0 c) a ≡ true → good_used (ltb 1 c) b ≡ true → good_used (ltb 2 c) d ≡ true → Each Good (up_to c (a ∷ b ∷ d ∷ []))
  unfolding good_used
  counted-good zero n a b d h k l = tt
  counted-good (suc zero) n a b d h k l = (h, tt)
  counted-good (suc (suc zero)) n a b d h k l = (h, (k, tt))
  counted-good (suc (suc (suc zero))) n a b d h k l = (h, (k, (l, tt)))
  counted-good (suc (suc (suc (suc c)))) n a b d h k l = absurd (omega arith)

  joined-refs : (rs : List Reference) (xs : List Ref) → Each Good rs → refs_from literal rs ≡ some xs →
      ((s : Fixing) → meet_all rs s ≡ (fix_refs L xs s).after) × ((m : Map) → refs_from literal (fix_all m rs) ≡ some (rename_refs (fix_cell L m) xs))
  unfolding refs_from meet_all fix_all
  joined-refs [] xs g e = subst (λ ys. ((s : Fixing) → s ≡ (fix_refs L ys s).after) × ((m : Map) → some [] ≡ some (rename_refs (fix_cell L m) ys))) (some-injective _ _ e) ((λ s. refl), (λ m. refl))
  joined-refs (r ∷ rs) xs g e =
      let x = bind-some (ref_from literal r) _ e in
      let y = bind-some (refs_from literal rs) _ x.2 in
      let j = joined-ref r x.0 g.0 x.1 in
      let k = joined-refs rs y.0 g.1 y.1 in
      subst
      (λ ys. ((s : Fixing) → meet_all rs (meet_reference L r s) ≡ (fix_refs L ys s).after)
      × ((m : Map) → bind (ref_from literal (fix_reference rules cms m r)) (λ z. bind (refs_from literal (fix_all m rs)) (λ zs. some (z ∷ zs))) ≡ some (rename_refs (fix_cell L m) ys)))
      (some-injective _ _ y.2)
      ((λ s. ap (meet_all rs) (j.met s) ∙ k.0 (meet L x.0 s)), (λ m. rw (j.fixed m, k.1 m)))

  -- ---- a record
  step-said :
      (p : Option StepOp) (o : StepOp) → p ≡ some o → (z : Option Ref) (d : Ref) → z ≡ some d → (w : Option (List Ref)) (rs : List Ref) → w ≡ some rs →
      bind p (λ p. bind z (λ z. bind w (λ zs. some (step p z zs)))) ≡ some (step o d rs)
  step-said p o a z d b w rs c = rw (a, b, c)

  joined_step : (x : bytes.Step) (y : Step) → good_record x ≡ true → step_from literal x ≡ some y →
      ((s : Fixing) → meet_record L x s ≡ (fix_step L y s).after) × ((m : Map) → step_from literal (fix_record rules cms m x) ≡ some (rename_step (fix_cell L m) y))
  unfolding step_from meet_record record_by
  joined_step x y good e =
      let g = record-used x good in
      let few : x.count ≤ 3 = leb-true x.count 3 (and_left (leb x.count 3) _ g) in
      let g1 = and_right (leb x.count 3) _ g in
      let gd = and_left (good_reference x.dest) _ g1 in
      let g2 = and_right (good_reference x.dest) _ g1 in
      let g3 = and_right (good_used (ltb 0 x.count) x.s0) _ g2 in
      let gs : Each Good (counted_in x)
      = counted-good x.count few x.s0 x.s1 x.s2 (and_left (good_used (ltb 0 x.count) x.s0) _ g2)
      (and_left (good_used (ltb 1 x.count) x.s1) (good_used (ltb 2 x.count) x.s2) g3) (and_right (good_used (ltb 1 x.count) x.s1) (good_used (ltb 2 x.count) x.s2) g3) in
      let o = bind-some (op_from x.op) _ e in
      let d = bind-some (ref_from literal x.dest) _ o.2 in
      let rs = bind-some (refs_from literal (counted_in x)) _ d.2 in
      let jd = joined-ref x.dest d.0 gd d.1 in
      let js = joined-refs (counted_in x) rs.0 gs rs.1 in
      let q : step o.0 d.0 rs.0 ≡ y = some-injective _ _ rs.2 in
      let met : (s : Fixing) → meet_reference L x.dest (meet_used L (ltb 2 x.count) x.s2 (meet_used L (ltb 1 x.count) x.s1 (meet_used L (ltb 0 x.count) x.s0 s))) ≡ (fix_step L (step o.0 d.0 rs.0) s).after
      = λ s. ap (meet_reference L x.dest) (counted-met x.count few x.s0 x.s1 x.s2 s ∙ js.0 s) ∙ jd.met (fix_refs L rs.0 s).after in
      let fixed : (m : Map) → bind (op_from x.op) (λ p. bind (ref_from literal (fix_reference rules cms m x.dest)) (λ z. bind (refs_from literal (up_to x.count (used_by (fix_reference rules cms m) (ltb 0 x.count) x.s0 ∷ used_by (fix_reference rules cms m) (ltb 1 x.count) x.s1 ∷ used_by (fix_reference rules cms m) (ltb 2 x.count) x.s2 ∷ []))) (λ zs. some (step p z zs)))) ≡ some (rename_step (fix_cell L m) (step o.0 d.0 rs.0))
      = λ m. step-said (op_from x.op) o.0 o.1 _ (rename_ref (fix_cell L m) d.0) (jd.fixed m) _ (rename_refs (fix_cell L m) rs.0) (ap (refs_from literal) (counted-fixed m x.count few x.s0 x.s1 x.s2) ∙ js.1 m) in
      subst (λ z. ((s : Fixing) → meet_record L x s ≡ (fix_step L z s).after) × ((m : Map) → step_from literal (fix_record rules cms m x) ≡ some (rename_step (fix_cell L m) z))) q (met, fixed)

  -- ---- a list
  abbrev GoodRecord : bytes.Step → Type 0
  GoodRecord x = good_record x ≡ true

  abbrev Joins : List bytes.Step → List Step → Type 0
  Joins xs ys =
      ((s : Fixing) → meet_records L xs s ≡ (fix_list L ys s).after)
      × ((m : Map) → steps_from literal (mapped (fix_record rules cms m) xs) ≡ some (rename (fix_cell L m) ys))

  joined-steps : (xs : List bytes.Step) (ys : List Step) → Each GoodRecord xs → steps_from literal xs ≡ some ys → Joins xs ys
  unfolding steps_from meet_records mapped
  joined-steps [] ys g e = subst (λ zs. ((s : Fixing) → s ≡ (fix_list L zs s).after) × ((m : Map) → some [] ≡ some (rename (fix_cell L m) zs))) (some-injective _ _ e) ((λ s. refl), (λ m. refl))
  joined-steps (x ∷ xs) ys g e =
      let y = bind-some (step_from literal x) _ e in
      let z = bind-some (steps_from literal xs) _ y.2 in
      let j = joined_step x y.0 g.0 y.1 in
      let k = joined-steps xs z.0 g.1 z.1 in
      subst
      (λ zs. ((s : Fixing) → meet_records L xs (meet_record L x s) ≡ (fix_list L zs s).after)
      × ((m : Map) → bind (step_from literal (fix_record rules cms m x)) (λ w. bind (steps_from literal (mapped (fix_record rules cms m) xs)) (λ ws. some (w ∷ ws))) ≡ some (rename (fix_cell L m) zs)))
      (some-injective _ _ z.2)
      ((λ s. ap (meet_records L xs) (j.0 s) ∙ k.0 (fix_step L y.0 s).after), (λ m. rw (j.1 m, k.1 m)))

  meet-append : (xs ys : List bytes.Step) (s : Fixing) → meet_records L (xs ++ ys) s ≡ meet_records L ys (meet_records L xs s)
  unfolding meet_records
  meet-append [] ys s = refl
  meet-append (x ∷ xs) ys s = meet-append xs ys (meet_record L x s)

  each-good : (xs : List bytes.Step) → good_records xs ≡ true → Each GoodRecord xs
  unfolding good_records
  each-good [] h = tt
  each-good (x ∷ xs) h = (and_left (good_record x) (good_records xs) h, each-good xs (and_right (good_record x) (good_records xs) h))

  list-good : (l : List ℕ) → good_list l ≡ true → Each GoodRecord (records_in l)
  unfolding good_list
  list-good l h = each-good (records_in l) (and_right (eqb (length l % step_size) 0) (good_records (records_in l)) h)

  -- ---- a segment
  module _ (counter : ℕ) (first i last : List ℕ) (good : good_lists first i last ≡ true) (S : Segment) (same : S.counter ≡ counter)
      (ef : steps_from literal (records_in first) ≡ some S.first) (ei : steps_from literal (records_in i) ≡ some S.i) (el : steps_from literal (records_in last) ≡ some S.last) where
    all-good : (good_list first && (good_list i && good_list last)) ≡ true
    unfolding good_lists
    all-good = good

    join_first : Joins (records_in first) S.first
    join_first = joined-steps (records_in first) S.first (list-good first (and_left (good_list first) _ all-good)) ef

    join-i : Joins (records_in i) S.i
    join-i = joined-steps (records_in i) S.i (list-good i (and_left (good_list i) (good_list last) (and_right (good_list first) _ all-good))) ei

    join_last : Joins (records_in last) S.last
    join_last = joined-steps (records_in last) S.last (list-good last (and_right (good_list i) (good_list last) (and_right (good_list first) _ all-good))) el

    -- the records and the steps bring the same temporaries
    pub temporaries-same : temporaries rules counter first i last ≡ fix_end L S
    unfolding temporaries
    temporaries-same =
        let a = (fix_list L S.first (begin counter)).after in
        let b = (fix_list L S.i a).after in
        meet-append (records_in first) (records_in i ++ records_in last) (begin counter)
        ∙ ap (meet_records L (records_in i ++ records_in last)) (join_first.0 (begin counter))
        ∙ meet-append (records_in i) (records_in last) a
        ∙ ap (meet_records L (records_in last)) (join-i.0 a)
        ∙ join_last.0 b
        ∙ ap (λ n. (fix_list L S.last (fix_list L S.i (fix_list L S.first (begin n)).after).after).after) (sym same)

    abbrev F : bytes.Step → bytes.Step
    F = fix_record rules cms (temporaries rules counter first i last).map

    said : (xs : List bytes.Step) (ys : List Step) → Joins xs ys → steps_from literal (mapped F xs) ≡ some (rename (fix_cell L (fix_end L S).map) ys)
    said xs ys j = j.1 (temporaries rules counter first i last).map ∙ ap (λ (t : Fixing). some (rename (fix_cell L t.map) ys)) temporaries-same

    -- THE FIXED RECORDS SAY THE FIXED STEPS, and the counters are one
    pub record JoinedSegment : Type 0 where
      pub first_says : steps_from literal (mapped F (records_in first)) ≡ some (fix_segment L S).first
      pub i_says : steps_from literal (mapped F (records_in i)) ≡ some (fix_segment L S).i
      pub last_says : steps_from literal (mapped F (records_in last)) ≡ some (fix_segment L S).last
      pub counter_is : (temporaries rules counter first i last).next ≡ (fix_segment L S).counter

    pub fixed-records-say : JoinedSegment
    fixed-records-say = record {
      first_says = said (records_in first) S.first join_first ∙ ap (λ (z : Segment). some z.first) (sym (segment_renamed L S));
      i_says = said (records_in i) S.i join-i ∙ ap (λ (z : Segment). some z.i) (sym (segment_renamed L S));
      last_says = said (records_in last) S.last join_last ∙ ap (λ (z : Segment). some z.last) (sym (segment_renamed L S));
      counter_is = ap (λ (t : Fixing). t.next) temporaries-same;
    }

-- ---- the bytes

-- the records of a rewritten list
pub records-rewritten : (f : bytes.Step → bytes.Step) (l : List ℕ) → records_in (rewritten f l) ≡ mapped f (records_in l)
unfolding rewritten
records-rewritten f l =
    let ss = mapped f (records_in l) in
    let n : length ss ≡ record_count l = mapped-length f (records_in l) ∙ steps-length l (record_count l) in
    let w : length (write l 0 (steps_bytes ss)) ≡ length l = write-length l 0 (steps_bytes ss) in
    let room : step_size * (0 + length ss) ≤ length l = omega (arith, div-add-mod' (length l) step_size) in
    let j : steps_of (write l 0 (steps_bytes ss)) (0 + length ss) ≡ steps_of l 0 ++ ss = steps-joined l 0 ss room in
    let k : steps_of (write l 0 (steps_bytes ss)) (length ss) ≡ ss = rw (zero-add, steps-none) at j in
    ap (λ m. steps_of (write l 0 (steps_bytes ss)) (m / step_size)) w ∙ ap (steps_of (write l 0 (steps_bytes ss))) (sym n) ∙ k

-- where nothing is refused, the list after it is the list with its records fixed
pub list-fixed :
    (rules cms : List ℕ) (counter : ℕ) (first i last l : List ℕ) → prover_verdict rules cms counter first i last ≡ fine →
    records_in (list_after rules cms counter first i last l) ≡ mapped (fix_record rules cms (temporaries rules counter first i last).map) (records_in l)
unfolding list_after
list-fixed rules cms counter first i last l h = rw h (records-rewritten (fix_record rules cms (temporaries rules counter first i last).map) l)
