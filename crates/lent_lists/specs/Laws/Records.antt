-- Laws of well_formed_lem segments and of a step: what each way through the code answers, and a record by the sources that count.
-- Assumes nothing.
use Rattle.std.specs.Prelude.{ℕ, zero, suc, ◌≡◌, refl, Bool, ◌&&◌, List, [], ◌∷◌, leb, ltb}
use Rattle.std.proofs.Math.Path.{sym}
use Rattle.std.proofs.Common.{◌∙◌, ap, arith, leb-true}
use Rattle.std.proofs.Math.Bool.{true, false}
use Rattle.kinds.specs.StepOps.{is_step, sources_needed}
use Rattle.kinds.specs.declared.reference.Reference.{Reference}
use Rattle.kinds.specs.declared.step.Step.{Step}
use Rattle.meaning.specs.Trees.{up_to}
use Rattle.meaning.proofs.Laws.Tests.{and_left}
use Rattle.lists.specs.Records.{good_reference, good_references, good_record, good_list}
use Rattle.lent_lists.specs.Records.{good_used, good_lists, runs_by, runs}

-- ---- a record, source by source

abbrev pub used_good : ℕ → Bool → Reference → Reference → Reference → Bool
used_good c dest a b d = leb c 3 && (dest && (good_used (ltb 0 c) a && (good_used (ltb 1 c) b && good_used (ltb 2 c) d)))

true-right : (a : Bool) → (a && true) ≡ a
true-right true = refl
true-right false = refl

by_count : (c : ℕ) (dest : Bool) (a b d : Reference) → (leb c 3 && (dest && good_references (up_to c (a ∷ b ∷ d ∷ [])))) ≡ true → used_good c dest a b d ≡ true
unfolding good_references good_used
by_count zero dest a b d h = h
by_count (suc zero) dest a b d h = h
by_count (suc (suc zero)) dest a b d h = h
by_count (suc (suc (suc zero))) dest a b d h = sym (ap (λ z. dest && (good_reference a && (good_reference b && z))) (true-right (good_reference d))) ∙ h
by_count (suc (suc (suc (suc c)))) dest a b d h = absurd (omega (arith, leb-true (suc (suc (suc (suc c)))) 3 (and_left _ _ h)))

pub record-used : (x : Step) → good_record x ≡ true → used_good x.count (good_reference x.dest) x.s0 x.s1 x.s2 ≡ true
unfolding good_record
record-used x h = by_count x.count (good_reference x.dest) x.s0 x.s1 x.s2 h

-- ---- three lists

module _ (first i last : List ℕ) (a : Bool) (ea : a ≡ good_list first) where
  pub lists-first : a ≡ false → false ≡ good_lists first i last
  unfolding good_lists
  lists-first h =
      let z : good_list first ≡ false = sym ea ∙ h in
      rw z

  module _ (ha : a ≡ true) (b : Bool) (eb : b ≡ good_list i) where
    pub lists-second : b ≡ false → false ≡ good_lists first i last
    unfolding good_lists
    lists-second h =
        let z : good_list first ≡ true = sym ea ∙ ha in
        let y : good_list i ≡ false = sym eb ∙ h in
        rw (z, y)

    pub lists-third : b ≡ true → (c : Bool) → c ≡ good_list last → c ≡ good_lists first i last
    unfolding good_lists
    lists-third hb c ec =
        let z : good_list first ≡ true = sym ea ∙ ha in
        let y : good_list i ≡ true = sym eb ∙ hb in
        rw (z, y) ec

-- ---- a step

pub has_it : (o c : ℕ) (b : Bool) → b ≡ is_step o → b ≡ true → (n : ℕ) → n ≡ sources_needed o → leb n c ≡ runs_by o c
has_it o c b e h n q =
    let z : is_step o ≡ true = sym e ∙ h in
    rw (z, q)

pub has-not : (o c : ℕ) (b : Bool) → b ≡ is_step o → b ≡ false → false ≡ runs_by o c
has-not o c b e h =
    let z : is_step o ≡ false = sym e ∙ h in
    rw z

pub runs_by_lem : (x : Step) (b : Bool) → b ≡ runs_by x.op x.count → b ≡ runs x
unfolding runs
runs_by_lem x b e = e
