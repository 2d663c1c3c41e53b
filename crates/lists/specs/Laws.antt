-- Laws of well_formed_lem records: what each way through the code answers.
-- Assumes nothing.
use Prim.Native.Nat.{ℕ, zero, suc, ◌+◌, ◌*◌, ◌%◌, ◌<◌, ◌≤◌}
use Rattle.std.specs.Prelude.{◌≡◌, refl, Bool, ◌&&◌, List, [], ◌∷◌, ◌++◌, ◌⊎◌, length, leb}
use Rattle.std.proofs.Math.Path.{sym}
use Rattle.std.proofs.Common.{◌∙◌, inl, inr, eq-or-lt_of_le, div-add-mod', add-one, le-leb, eq-eqb, ne_eqb}
use Rattle.std.proofs.Math.Bool.{true, false}
use native.Mathlib.Omega.{arith}
use Rattle.std.proofs.lemmas.Bool.{lt-leb}
use Rattle.kinds.specs.Kinds.{is_reference}
use Rattle.kinds.specs.Steps.{step_size, step_at, steps_of, steps-none, steps-more}
use Rattle.kinds.specs.declared.reference.Reference.{Reference}
use Rattle.kinds.specs.declared.step.Step as bytes
use Rattle.meaning.specs.Trees.{up_to}
use Rattle.lists.specs.Records.{record_count, counted_in, good_reference, good_references, good_record, good_records, good_list}

pub ref-good : (r : Reference) (b : Bool) → b ≡ is_reference r.kind → b ≡ true → leb r.prime 1 ≡ good_reference r
unfolding good_reference
ref-good r b e h =
    let z : is_reference r.kind ≡ true = sym e ∙ h in
    rw z

pub ref-bad : (r : Reference) (b : Bool) → b ≡ is_reference r.kind → b ≡ false → false ≡ good_reference r
unfolding good_reference
ref-bad r b e h =
    let z : is_reference r.kind ≡ false = sym e ∙ h in
    rw z

-- ---- a record

pub false_right : (a : Bool) → (a && false) ≡ false
false_right true = refl
false_right false = refl

true-right : (a : Bool) → (a && true) ≡ a
true-right true = refl
true-right false = refl

module _ (s0 s1 s2 : Reference) where
  abbrev sources : ℕ → Bool
  sources c = good_references (up_to c (s0 ∷ s1 ∷ s2 ∷ []))

  from_one : (c : ℕ) → (c ≡ 0 → ⊥) → good_reference s0 ≡ false → sources c ≡ false
  unfolding good_references
  from_one zero h e = absurd (h refl)
  from_one (suc c) h e = rw e

  from-two : (c : ℕ) → (c ≡ 0 → ⊥) → (c ≡ 1 → ⊥) → good_reference s0 ≡ true → good_reference s1 ≡ false → sources c ≡ false
  unfolding good_references
  from-two zero h g d e = absurd (h refl)
  from-two (suc zero) h g d e = absurd (g refl)
  from-two (suc (suc c)) h g d e = rw (d, e)

pub too_many_lem : (x : bytes.Step) → 3 < x.count → false ≡ good_record x
unfolding good_record
too_many_lem x h = rw (lt-leb x.count 3 h)

module _ (x : bytes.Step) (few : x.count ≤ 3) (a : Bool) (ea : a ≡ good_reference x.dest) where
  pub dest-bad : a ≡ false → false ≡ good_record x
  unfolding good_record
  dest-bad h =
      let z : good_reference x.dest ≡ false = sym ea ∙ h in
      rw (le-leb x.count 3 few, z)

  module _ (ha : a ≡ true) where
    counted : good_record x ≡ good_references (counted_in x)
    unfolding good_record
    counted =
        let z : good_reference x.dest ≡ true = sym ea ∙ ha in
        rw (le-leb x.count 3 few, z)

    pub good_none : x.count ≡ 0 → true ≡ good_record x
    unfolding good_references
    good_none h = sym (counted ∙ rw h)

    module _ (some : x.count ≡ 0 → ⊥) (b : Bool) (eb : b ≡ good_reference x.s0) where
      pub first-bad : b ≡ false → false ≡ good_record x
      first-bad h = sym (counted ∙ from_one x.s0 x.s1 x.s2 x.count some (sym eb ∙ h))

      module _ (hb : b ≡ true) where
        pub good-one : x.count ≡ 1 → true ≡ good_record x
        unfolding good_references
        good-one h =
            let z : good_reference x.s0 ≡ true = sym eb ∙ hb in
            sym (counted ∙ rw (h, z))

        module _ (more : x.count ≡ 1 → ⊥) (c : Bool) (ec : c ≡ good_reference x.s1) where
          pub second-bad : c ≡ false → false ≡ good_record x
          second-bad h = sym (counted ∙ from-two x.s0 x.s1 x.s2 x.count some more (sym eb ∙ hb) (sym ec ∙ h))

          module _ (hc : c ≡ true) where
            pub good-two : x.count ≡ 2 → true ≡ good_record x
            unfolding good_references
            good-two h =
                let z : good_reference x.s0 ≡ true = sym eb ∙ hb in
                let y : good_reference x.s1 ≡ true = sym ec ∙ hc in
                sym (counted ∙ rw (h, z, y))

            pub good-three : (x.count ≡ 2 → ⊥) → (d : Bool) → d ≡ good_reference x.s2 → d ≡ good_record x
            unfolding good_references
            good-three h d ed =
                let n : x.count ≡ 3 = omega arith in
                let z : good_reference x.s0 ≡ true = sym eb ∙ hb in
                let y : good_reference x.s1 ≡ true = sym ec ∙ hc in
                sym (counted ∙ rw (n, z, y, true-right (good_reference x.s2)) (sym ed))

-- ---- a list

pub good-append : (xs ys : List bytes.Step) → good_records (xs ++ ys) ≡ (good_records xs && good_records ys)
unfolding good_records
good-append [] ys = refl
good-append (x ∷ xs) ys = by (good_record x) (good-append xs ys)
  where
    by : (b : Bool) → good_records (xs ++ ys) ≡ (good_records xs && good_records ys) → (b && good_records (xs ++ ys)) ≡ ((b && good_records xs) && good_records ys)
    by true e = e
    by false e = refl

pub good_more : (l : List ℕ) (n : ℕ) → good_records (steps_of l (suc n)) ≡ (good_records (steps_of l n) && good_record (step_at l (step_size * n)))
unfolding good_records
good_more l n = rw (steps-more l n, good-append) (rw (true-right (good_record (step_at l (step_size * n)))))

pub good-begin : (l : List ℕ) → good_records (steps_of l 0) ≡ true
unfolding good_records
good-begin l = rw (steps-none l)

module _ (l : List ℕ) (k : ℕ) (x : bytes.Step) (e : x ≡ step_at l (step_size * k)) (b : Bool) (f : b ≡ good_record x) where
  pub good-next : good_records (steps_of l k) ≡ true → b ≡ true → good_records (steps_of l (k + 1)) ≡ true
  good-next h g =
      let z : good_record (step_at l (step_size * k)) ≡ true = rw (← e) (sym f ∙ g) in
      rw (add-one k, good_more l k, h, z)

  pub bad-later : (n : ℕ) → k < n → good_record (step_at l (step_size * k)) ≡ false → good_records (steps_of l n) ≡ false
  bad-later zero h z = absurd (omega arith)
  bad-later (suc n) h z = by (eq-or-lt_of_le {n = k} {m = n} (omega arith)) (bad-later n)
    where
      by : (k ≡ n) ⊎ (k < n) → (k < n → good_record (step_at l (step_size * k)) ≡ false → good_records (steps_of l n) ≡ false) → good_records (steps_of l (suc n)) ≡ false
      by (inl q) ih = rw (good_more l n, ← q, z, false_right (good_records (steps_of l k)))
      by (inr g) ih = rw (good_more l n, ih g z)

  pub good-stop : k < record_count l → length l % step_size ≡ 0 → b ≡ false → false ≡ good_list l
  unfolding good_list
  good-stop h w g =
      let z : good_record (step_at l (step_size * k)) ≡ false = rw (← e) (sym f ∙ g) in
      rw (eq-eqb (length l % step_size) 0 w, bad-later (record_count l) h z)

pub good-cut : (l : List ℕ) → (length l % step_size ≡ 0 → ⊥) → false ≡ good_list l
unfolding good_list
good-cut l h = rw (ne_eqb (length l % step_size) 0 h)

pub good-end : (l : List ℕ) (k : ℕ) → good_records (steps_of l k) ≡ true → k ≤ record_count l → record_count l ≤ k → length l % step_size ≡ 0 → true ≡ good_list l
unfolding good_list
good-end l k h a b w =
    let n : record_count l ≡ k = omega arith in
    rw (eq-eqb (length l % step_size) 0 w, n, h)

pub record_in : (l : List ℕ) (k : ℕ) → k < record_count l → step_size * k + step_size ≤ length l
record_in l k h = omega (arith, div-add-mod' (length l) step_size)
