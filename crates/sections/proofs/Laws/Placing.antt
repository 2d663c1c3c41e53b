-- The definition's sums, as sums over the groups of a section: what a record adds to the sum before another of dimension d is what it adds to a group.
-- Assumes nothing.
use Rattle.std.specs.Prelude.{ℕ, zero, suc, ◌+◌, ◌*◌, ◌-◌, ◌/◌, ◌≤◌, ◌<◌, ◌≡◌, refl, Bool, true, false, cond, ◌&&◌, ◌||◌, List, length, get_or, eqb, ltb}
use Rattle.std.proofs.Common.{◌∙◌, arith}
use Rattle.std.proofs.Math.Path.{ap}
use borrow.Author.Tests.{le-leb, lt-leb, ne_eqb}
use Rattle.kinds.specs.Range.{within}
use Rattle.sections.specs.Sums.{sum, sum_same, sum-add, sum-cut, sum-small}
use Rattle.sections.specs.Sections.{placed, position_of, first_width, whole_width, third_width}
use Rattle.sections.specs.Groups.{taken}

-- ---- a dimension is 0, has a place, or is too large

data Dim (x : ℕ) : Type 0 where
  none : x ≡ 0 → Dim x
  one : x ≡ 1 → Dim x
  two : x ≡ 2 → Dim x
  three : x ≡ 3 → Dim x
  more : 3 < x → Dim x

dim : (x : ℕ) → Dim x
dim zero = none refl
dim (suc zero) = one refl
dim (suc (suc zero)) = two refl
dim (suc (suc (suc zero))) = three refl
dim (suc (suc (suc (suc n)))) = more (omega arith)

-- ---- what one record adds

adds-first : (b t : Bool) (x : ℕ) → Dim x → cond (b && (placed x && (ltb x 1 || (eqb x 1 && t)))) x 0 ≡ cond t (cond (b && eqb x 1) 1 0) 0
unfolding placed within
adds-first false true x c = refl
adds-first false false x c = refl
adds-first true true x (none e) = rw e
adds-first true true x (one e) = rw e
adds-first true true x (two e) = rw e
adds-first true true x (three e) = rw e
adds-first true true x (more h) = simp (lt-leb x 3 h, le-leb 1 x (omega arith), ne_eqb x 1 (λ e. omega arith))
adds-first true false x (none e) = rw e
adds-first true false x (one e) = rw e
adds-first true false x (two e) = rw e
adds-first true false x (three e) = rw e
adds-first true false x (more h) = simp (lt-leb x 3 h, le-leb 1 x (omega arith), ne_eqb x 1 (λ e. omega arith))

adds-second : (b t : Bool) (x : ℕ) → Dim x → cond (b && (placed x && (ltb x 2 || (eqb x 2 && t)))) x 0 ≡ cond (b && eqb x 1) 1 0 + cond t (cond (b && eqb x 2) 2 0) 0
unfolding placed within
adds-second false true x c = refl
adds-second false false x c = refl
adds-second true true x (none e) = rw e
adds-second true true x (one e) = rw e
adds-second true true x (two e) = rw e
adds-second true true x (three e) = rw e
adds-second true true x (more h) = simp (lt-leb x 3 h, le-leb 1 x (omega arith), ne_eqb x 1 (λ e. omega arith), ne_eqb x 2 (λ e. omega arith))
adds-second true false x (none e) = rw e
adds-second true false x (one e) = rw e
adds-second true false x (two e) = rw e
adds-second true false x (three e) = rw e
adds-second true false x (more h) = simp (lt-leb x 3 h, le-leb 1 x (omega arith), ne_eqb x 1 (λ e. omega arith), ne_eqb x 2 (λ e. omega arith))

adds-third : (b t : Bool) (x : ℕ) → Dim x → cond (b && (placed x && (ltb x 3 || (eqb x 3 && t)))) x 0 ≡ cond (b && eqb x 1) 1 0 + cond (b && eqb x 2) 2 0 + cond t (cond (b && eqb x 3) 3 0) 0
unfolding placed within
adds-third false true x c = refl
adds-third false false x c = refl
adds-third true true x (none e) = rw e
adds-third true true x (one e) = rw e
adds-third true true x (two e) = rw e
adds-third true true x (three e) = rw e
adds-third true true x (more h) = simp (lt-leb x 3 h, le-leb 1 x (omega arith), ne_eqb x 1 (λ e. omega arith), ne_eqb x 2 (λ e. omega arith), ne_eqb x 3 (λ e. omega arith))
adds-third true false x (none e) = rw e
adds-third true false x (one e) = rw e
adds-third true false x (two e) = rw e
adds-third true false x (three e) = rw e
adds-third true false x (more h) = simp (lt-leb x 3 h, le-leb 1 x (omega arith), ne_eqb x 1 (λ e. omega arith), ne_eqb x 2 (λ e. omega arith), ne_eqb x 3 (λ e. omega arith))

adds-whole : (b : Bool) (x : ℕ) → Dim x → cond (b && placed x) x 0 ≡ cond (b && eqb x 1) 1 0 + cond (b && eqb x 2) 2 0 + cond (b && eqb x 3) 3 0
unfolding placed within
adds-whole false x c = refl
adds-whole true x (none e) = rw e
adds-whole true x (one e) = rw e
adds-whole true x (two e) = rw e
adds-whole true x (three e) = rw e
adds-whole true x (more h) = simp (lt-leb x 3 h, le-leb 1 x (omega arith), ne_eqb x 1 (λ e. omega arith), ne_eqb x 2 (λ e. omega arith), ne_eqb x 3 (λ e. omega arith))

adds_one : (b : Bool) (x : ℕ) → Dim x → cond (b && eqb x 1) x 0 ≡ cond (b && eqb x 1) 1 0
unfolding placed within
adds_one false x c = refl
adds_one true x (none e) = rw e
adds_one true x (one e) = rw e
adds_one true x (two e) = rw e
adds_one true x (three e) = rw e
adds_one true x (more h) = simp (lt-leb x 3 h, le-leb 1 x (omega arith), ne_eqb x 1 (λ e. omega arith))

module _ (ss ds : List ℕ) where
  abbrev In : ℕ → ℕ → Bool
  In s j = eqb (get_or ss j 0) s

  abbrev Term : ℕ → ℕ → ℕ → ℕ
  Term s d j = cond (In s j && eqb (get_or ds j 0) d) d 0

  -- what a record of section s and dimension d at k has before it
  abbrev pub before_in : ℕ → ℕ → ℕ → ℕ
  before_in s d k =
      sum (λ j. cond (In s j && (placed (get_or ds j 0) && (ltb (get_or ds j 0) d || (eqb (get_or ds j 0) d && ltb j k)))) (get_or ds j 0) 0) (length ds)

  pub before-first : (s k : ℕ) → k ≤ length ds → before_in s 1 k ≡ taken ss ds s 1 k
  before-first s k h =
      sum_same _ (λ j. cond (ltb j k) (Term s 1 j) 0) (length ds) (λ j q. adds-first (In s j) (ltb j k) (get_or ds j 0) (dim (get_or ds j 0)))
      ∙ sum-cut (Term s 1) k (length ds) h

  pub before-second : (s k : ℕ) → k ≤ length ds → before_in s 2 k ≡ taken ss ds s 1 (length ds) + taken ss ds s 2 k
  before-second s k h =
      sum_same _ (λ j. Term s 1 j + cond (ltb j k) (Term s 2 j) 0) (length ds) (λ j q. adds-second (In s j) (ltb j k) (get_or ds j 0) (dim (get_or ds j 0)))
      ∙ sum-add (Term s 1) (λ j. cond (ltb j k) (Term s 2 j) 0) (length ds)
      ∙ rw (sum-cut (Term s 2) k (length ds) h)

  pub before-third : (s k : ℕ) → k ≤ length ds → before_in s 3 k ≡ taken ss ds s 1 (length ds) + taken ss ds s 2 (length ds) + taken ss ds s 3 k
  before-third s k h =
      sum_same _ (λ j. Term s 1 j + Term s 2 j + cond (ltb j k) (Term s 3 j) 0) (length ds) (λ j q. adds-third (In s j) (ltb j k) (get_or ds j 0) (dim (get_or ds j 0)))
      ∙ sum-add (λ j. Term s 1 j + Term s 2 j) (λ j. cond (ltb j k) (Term s 3 j) 0) (length ds)
      ∙ rw (sum-add (Term s 1) (Term s 2) (length ds), sum-cut (Term s 3) k (length ds) h)

  pub first_is : (s : ℕ) → first_width ss ds s ≡ taken ss ds s 1 (length ds)
  unfolding first_width
  first_is s = sum_same _ (Term s 1) (length ds) (λ j q. adds_one (In s j) (get_or ds j 0) (dim (get_or ds j 0)))

  pub whole_is : (s : ℕ) → whole_width ss ds s ≡ taken ss ds s 1 (length ds) + taken ss ds s 2 (length ds) + taken ss ds s 3 (length ds)
  unfolding whole_width
  whole_is s =
      sum_same _ (λ j. Term s 1 j + Term s 2 j + Term s 3 j) (length ds) (λ j q. adds-whole (In s j) (get_or ds j 0) (dim (get_or ds j 0)))
      ∙ sum-add (λ j. Term s 1 j + Term s 2 j) (Term s 3) (length ds)
      ∙ rw (sum-add (Term s 1) (Term s 2) (length ds))

  pub third-is : (s : ℕ) → third_width ss ds s ≡ (taken ss ds s 2 (length ds) + taken ss ds s 3 (length ds)) / 3
  unfolding third_width
  third-is s =
      let e : whole_width ss ds s - first_width ss ds s ≡ taken ss ds s 2 (length ds) + taken ss ds s 3 (length ds) = omega (arith, whole_is s, first_is s) in
      ap (λ n. n / 3) e

  -- no group takes more than 3 for each record
  pub taken-small : (s d i : ℕ) → d ≤ 3 → taken ss ds s d i ≤ 3 * i
  taken-small s d i h = sum-small (Term s d) 3 i (λ j. by (In s j && eqb (get_or ds j 0) d))
    where
      by : (b : Bool) → cond b d 0 ≤ 3
      by true = h
      by false = omega arith

  -- by the dimension of the record
  pub position_none : (old k : ℕ) → (get_or ds k 0 ≡ 0) → position_of ss ds old k ≡ old
  unfolding position_of placed within
  position_none old k e = rw e

  pub position_more : (old k : ℕ) → 3 < get_or ds k 0 → position_of ss ds old k ≡ old
  unfolding position_of placed within
  position_more old k h = simp (lt-leb (get_or ds k 0) 3 h, le-leb 1 (get_or ds k 0) (omega arith))

  pub position_at : (old k d : ℕ) → get_or ds k 0 ≡ d → (1 ≤ d) × (d ≤ 3) → position_of ss ds old k ≡ before_in (get_or ss k 0) d k
  unfolding position_of placed within
  position_at old k d e h = rw e (simp (le-leb 1 d h.0, le-leb d 3 h.1))
