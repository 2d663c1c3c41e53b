-- Laws of refusals 10 and 3: what each way through the code answers.
-- Assumes nothing.
use Rattle.std.specs.Prelude.{ℕ, ◌<◌, ◌≤◌, ◌≡◌, Bool, List, length}
use Rattle.std.proofs.Math.Path.{sym}
use Rattle.std.proofs.Common.{◌∙◌, arith}
use Rattle.std.proofs.Math.Bool.{true, false}
use borrow.Author.Tests.{lt-ltb, le-ltb, eq-eqb, ne_eqb, le-leb, lt-leb}
use Rattle.kinds.specs.KindBytes as kind
use Rattle.kinds.specs.Range.{within_in, within-below, within-above}
use Rattle.kinds.specs.declared.reference.Reference.{Reference}
use Rattle.lent_lists.specs.Verdicts.{verdict_no}
use Rattle.lent_lists.specs.Records.{segment_in, good_lists}
use Rattle.lent_lists.specs.Walks.{walked, record_verdict}
use Rattle.fixing.specs.ProverCode.{last_counter, ruled_reference, decided}

module _ (cms : List ℕ) where
  -- ---- a reference
  pub cm-there : (r : Reference) → r.kind ≡ kind.cm → r.id < length cms → 0 ≡ verdict_no (ruled_reference cms r)
  unfolding ruled_reference
  cm-there r h k = rw (eq-eqb r.kind kind.cm h, lt-ltb r.id (length cms) k)

  pub cm-lost : (r : Reference) → r.kind ≡ kind.cm → length cms ≤ r.id → 3 ≡ verdict_no (ruled_reference cms r)
  unfolding ruled_reference
  cm-lost r h k = rw (eq-eqb r.kind kind.cm h, le-ltb r.id (length cms) k)

  pub tree_ruleless : (r : Reference) → kind.tree1 ≤ r.kind → r.kind ≤ kind.Z → 10 ≡ verdict_no (ruled_reference cms r)
  unfolding ruled_reference
  tree_ruleless r h k = rw (ne_eqb r.kind kind.cm (λ e. omega arith), within_in kind.tree1 kind.Z r.kind (h, k))

  pub below-ruled : (r : Reference) → (r.kind ≡ kind.cm → ⊥) → r.kind < kind.tree1 → 0 ≡ verdict_no (ruled_reference cms r)
  unfolding ruled_reference
  below-ruled r h k = rw (ne_eqb r.kind kind.cm h, within-below kind.tree1 kind.Z r.kind k)

  pub above-ruled : (r : Reference) → kind.Z < r.kind → 0 ≡ verdict_no (ruled_reference cms r)
  unfolding ruled_reference
  above-ruled r k = rw (ne_eqb r.kind kind.cm (λ e. omega arith), within-above kind.tree1 kind.Z r.kind k)

-- ---- all that is decided before temporaries

module _ (cms : List ℕ) where
  module _ (counter : ℕ) (first i last : List ℕ) where
    pub counter-large : last_counter < counter → 1 ≡ verdict_no (decided cms counter first i last)
    unfolding decided
    counter-large h = rw (lt-leb counter last_counter h)

    module _ (small : counter ≤ last_counter) (b : Bool) (e : b ≡ good_lists first i last) where
      pub lists-malformed : b ≡ false → 1 ≡ verdict_no (decided cms counter first i last)
      unfolding decided
      lists-malformed h =
          let z : good_lists first i last ≡ false = sym e ∙ h in
          rw (le-leb counter last_counter small, z)

      pub lists-decided : b ≡ true → (n : ℕ) → n ≡ verdict_no (walked (record_verdict (ruled_reference cms)) (segment_in first i last)) → n ≡ verdict_no (decided cms counter first i last)
      unfolding decided
      lists-decided h n q =
          let z : good_lists first i last ≡ true = sym e ∙ h in
          rw (le-leb counter last_counter small, z) q
