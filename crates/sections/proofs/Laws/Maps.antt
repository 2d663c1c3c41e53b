-- The whole of `map_section`: each of its answers, from the tests that led there.
-- Assumes nothing.
use Rattle.std.specs.Prelude.{ℕ, zero, suc, ◌+◌, ◌*◌, ◌≤◌, ◌<◌, ◌≡◌, Bool, true, false, cond, ◌&&◌, List, [], ◌∷◌, ◌++◌, length, get_or, take, drop, leb, ltb, min, Ok, Err}
use Rattle.std.proofs.Math.Path.{refl, ap}
use Rattle.std.proofs.Common.{sym, ◌∙◌, append-nil, arith, add-one, take-append-drop, drop_of_length-le, take-suc, take_all, take-take}
use Rattle.std.proofs.Math.Option.{none}
use Rattle.std.specs.List.{list_all}
use borrow.Author.Tests.{leb-true, leb-false, le-leb, lt-leb, lt-ltb, le-ltb, ltb-true, eq-eqb, ne_eqb}
use Rattle.kinds.specs.Write.{write, write-is, write-next}
use Rattle.meaning.specs.Refusals.{done, refused}
use Rattle.sections.specs.Sums.{each}
use Rattle.sections.specs.Sections.{section_count, width_count, record_limit, known, well_formed, mapping, positions_from, widths, first_width, whole_width, third_width}
use Rattle.sections.specs.Groups.{Records, Tallied, width_in, count_to_read}
use Rattle.kinds.specs.Answers.{refusal_of}
use Rattle.kinds.specs.declared.refusal.Refusal as codes
use Rattle.kinds.specs.declared.refusal.Refusal.TheVariants as code
use Rattle.sections.specs.Answer.{Written, MappedIs}
use Rattle.sections.proofs.Laws.Tables.{width-first, width-whole, width-third}
use Rattle.sections.specs.declared.groups.Width.TheVariants as width

-- ---- are the sections known?

pub known-append : (xs ys : List ℕ) → known (xs ++ ys) ≡ (known xs && known ys)
unfolding known
known-append [] ys = refl
known-append (x ∷ xs) ys = by (ltb x section_count) (known-append xs ys)
  where
    by : (b : Bool) → known (xs ++ ys) ≡ (known xs && known ys) → (b && known (xs ++ ys)) ≡ ((b && known xs) && known ys)
    by true e = e
    by false e = refl

pub known-one : (x : ℕ) (b : Bool) → ltb x section_count ≡ b → known (x ∷ []) ≡ b
unfolding known
known-one x true e = rw e
known-one x false e = rw e

pub known-is-all : (ss : List ℕ) → list_all (λ s. ltb s section_count) ss ≡ known ss
unfolding known
known-is-all [] = refl
known-is-all (s ∷ ss) = rw (known-is-all ss)

pub known-begin : (ss : List ℕ) → known (take 0 ss) ≡ true
unfolding known
known-begin ss = refl

pub known_next : (ss : List ℕ) (k : ℕ) → k < length ss → known (take k ss) ≡ true → get_or ss k 0 < section_count → known (take (k + 1) ss) ≡ true
known_next ss k h e g = rw (add-one k, take-suc ss k 0 h, known-append (take k ss) (get_or ss k 0 ∷ []), e) (known-one (get_or ss k 0) true (lt-ltb (get_or ss k 0) section_count g))

known-front : (xs ys : List ℕ) → known xs ≡ false → known (xs ++ ys) ≡ false
known-front xs ys e = known-append xs ys ∙ rw e

pub known-stop : (ss : List ℕ) (k count : ℕ) → k < count → count ≤ length ss → section_count ≤ get_or ss k 0 → false ≡ known (take count ss)
known-stop ss k count h g l =
    let e : take (suc k) (take count ss) ≡ take (suc k) ss = take-take (suc k) count ss h in
    let z : known (take (suc k) ss) ≡ false = rw (take-suc ss k 0 (omega arith), known-append (take k ss) (get_or ss k 0 ∷ []), known-one (get_or ss k 0) false (le-ltb (get_or ss k 0) section_count l)) (and-false (known (take k ss))) in
    sym (ap known (sym (take-append-drop (suc k) (take count ss))) ∙ known-front (take (suc k) (take count ss)) (drop (suc k) (take count ss)) (rw e z))
  where
    and-false : (b : Bool) → (b && false) ≡ false
    and-false true = refl
    and-false false = refl

pub known-end : (ss : List ℕ) (k count : ℕ) → known (take k ss) ≡ true → k ≤ count → count ≤ k → true ≡ known (take count ss)
known-end ss k count e h g = let q : k ≡ count = omega arith in sym (rw q at e)

-- every section of a list that is known
known_at : (xs : List ℕ) → known xs ≡ true → (k : ℕ) → k < length xs → get_or xs k 0 < section_count
unfolding known
known_at [] e k h = absurd (omega arith)
known_at (x ∷ xs) e zero h = ltb-true x section_count (left (ltb x section_count) (known xs) e)
  where
    left : (a b : Bool) → (a && b) ≡ true → a ≡ true
    left true b q = refl
    left false b q = q
known_at (x ∷ xs) e (suc k) h = known_at xs (right (ltb x section_count) (known xs) e) k (omega arith)
  where
    right : (a b : Bool) → (a && b) ≡ true → b ≡ true
    right true b q = q
    right false b q = absurd (let z : ◌≡◌ {A = ℕ} 0 1 = cc in omega arith)

-- ---- how many records are read

pub read-few : (n : ℕ) → n ≤ record_limit → n ≡ count_to_read n
unfolding count_to_read
read-few n h = rw (le-leb n record_limit h)

pub read-many : (n : ℕ) → record_limit < n → record_limit + 1 ≡ count_to_read n
unfolding count_to_read
read-many n h = rw (lt-leb n record_limit h)

pub read-least : (n c : ℕ) → c ≡ min n (record_limit + 1) → c ≡ count_to_read n
read-least n c e = by (leb n record_limit) refl
  where
    by : (b : Bool) → leb n record_limit ≡ b → c ≡ count_to_read n
    by true q =
        let h : n ≤ record_limit = leb-true n record_limit q in
        let z : c ≡ n = omega arith in
        z ∙ read-few n h
    by false q =
        let h : record_limit < n = leb-false n record_limit q in
        let z : c ≡ record_limit + 1 = omega arith in
        z ∙ read-many n h

pub read-within : (n c : ℕ) → c ≡ count_to_read n → c ≤ n
unfolding count_to_read
read-within n c e = rw e (by (leb n record_limit) refl)
  where
    by : (b : Bool) → leb n record_limit ≡ b → cond b n (record_limit + 1) ≤ n
    by true q = omega arith
    by false q = let h : record_limit < n = leb-false n record_limit q in omega arith

-- what is read is the front up to the first record past the limit
pub read-front : (ss : List ℕ) (c : ℕ) → c ≡ count_to_read (length ss) → take c ss ≡ take (record_limit + 1) ss
unfolding count_to_read
read-front ss c e = by (leb (length ss) record_limit) refl e
  where
    by : (b : Bool) → leb (length ss) record_limit ≡ b → c ≡ cond b (length ss) (record_limit + 1) → take c ss ≡ take (record_limit + 1) ss
    by true q z = let h : length ss ≤ record_limit = leb-true (length ss) record_limit q in take_all c ss (omega arith) ∙ sym (take_all (record_limit + 1) ss (omega arith))
    by false q z = rw z

-- ---- the widths, written one after the other

module _ (ss ds gs : List ℕ) (t : Tallied ss ds (length ds) gs) where
  same : (f g : ℕ → ℕ) (n : ℕ) → ((s : ℕ) → s < n → f s ≡ g s) → each f n ≡ each g n
  same f g zero h = refl
  same f g (suc n) h =
      let e : each f n ≡ each g n = same f g n (λ s q. h s (omega arith)) in
      let e' : f n ≡ g n = h n (omega arith) in
      cc

  pub widths-all : (ws w₁ w₂ w₃ : List ℕ) → length ws ≡ width_count
      → w₁ ≡ write ws 0 (each (width_in gs width.First) section_count)
      → w₂ ≡ write w₁ section_count (each (width_in gs width.Whole) section_count)
      → w₃ ≡ write w₂ (2 * section_count) (each (width_in gs width.Third) section_count)
      → w₃ ≡ widths ss ds
  widths-all ws w₁ w₂ w₃ l e₁ e₂ e₃ =
      let a : each (width_in gs width.First) section_count ≡ each (first_width ss ds) section_count = same _ _ section_count (width-first ss ds gs t) in
      let b : each (width_in gs width.Whole) section_count ≡ each (whole_width ss ds) section_count = same _ _ section_count (width-whole ss ds gs t) in
      let c : each (width_in gs width.Third) section_count ≡ each (third_width ss ds) section_count = same _ _ section_count (width-third ss ds gs t) in
      let n₂ : w₂ ≡ write ws 0 (each (first_width ss ds) section_count ++ each (whole_width ss ds) section_count)
      = write-next ws 0 _ _ section_count (rw a at e₁) (rw b at e₂) refl in
      let n₃ : w₃ ≡ write ws 0 ((each (first_width ss ds) section_count ++ each (whole_width ss ds) section_count) ++ each (third_width ss ds) section_count)
      = write-next ws 0 _ _ (2 * section_count) n₂ (rw c at e₃) refl in
      n₃ ∙ whole ws ((each (first_width ss ds) section_count ++ each (whole_width ss ds) section_count) ++ each (third_width ss ds) section_count) (rw l refl)
    where
      whole : (ws vs : List ℕ) → length ws ≡ length vs → write ws 0 vs ≡ vs
      whole ws vs e = write-is ws 0 vs (omega arith) ∙ rw (drop_of_length-le ws {i = 0 + length vs} (omega arith)) (append-nil vs)

-- ---- the answers

module _ (ss ds ps ws : List ℕ) where
  refuses : (r : codes.Refusal) → mapping ss ds ps (length ws) ≡ refused (refusal_of r) none → MappedIs ss ds ps ps ws ws (Err r)
  refuses r h = record { says = rw h; positions = rw h; widths = rw h }

  ill : well_formed ss ds ps (length ws) ≡ false → MappedIs ss ds ps ps ws ws (Err code.Malformed)
  unfolding mapping
  ill h = refuses code.Malformed (rw h)

  pub ill-dims : (length ds ≡ length ss → ⊥) → MappedIs ss ds ps ps ws ws (Err code.Malformed)
  unfolding well_formed
  ill-dims h = ill (rw (ne_eqb (length ds) (length ss) h))

  pub ill-positions : length ds ≡ length ss → (length ps ≡ length ss → ⊥) → MappedIs ss ds ps ps ws ws (Err code.Malformed)
  unfolding well_formed
  ill-positions d h = ill (rw (eq-eqb (length ds) (length ss) d, ne_eqb (length ps) (length ss) h))

  pub ill-widths : length ds ≡ length ss → length ps ≡ length ss → (length ws ≡ width_count → ⊥) → MappedIs ss ds ps ps ws ws (Err code.Malformed)
  unfolding well_formed
  ill-widths d p h = ill (rw (eq-eqb (length ds) (length ss) d, eq-eqb (length ps) (length ss) p, ne_eqb (length ws) width_count h))

  module _ (d : length ds ≡ length ss) (p : length ps ≡ length ss) (w : length ws ≡ width_count) (c : ℕ) (n : c ≡ count_to_read (length ss)) (b : Bool) (k : b ≡ known (take c ss)) where
    formed : well_formed ss ds ps (length ws) ≡ b
    unfolding well_formed
    formed = rw (eq-eqb (length ds) (length ss) d, eq-eqb (length ps) (length ss) p, eq-eqb (length ws) width_count w) (sym (k ∙ ap known (read-front ss c n)))

    pub ill-known : b ≡ false → MappedIs ss ds ps ps ws ws (Err code.Malformed)
    ill-known e = ill (formed ∙ e)

    pub too_many_lem : b ≡ true → record_limit < length ss → MappedIs ss ds ps ps ws ws (Err code.Full)
    unfolding mapping
    too_many_lem e h = refuses code.Full (rw (formed ∙ e, lt-leb (length ss) record_limit h))

    pub records_are : b ≡ true → length ss ≤ record_limit → Records ss ds
    records_are e h = record {
      paired = sym d;
      few = omega arith;
      known = known_at ss (sym (ap known (take_all c ss (omega (arith, n ∙ sym (read-few (length ss) h))))) ∙ sym k ∙ e);
    }

    pub mapped : b ≡ true → length ss ≤ record_limit → (ps' ws' : List ℕ) → Written ss ds ps ps' ws' → MappedIs ss ds ps ps' ws ws' (Ok tt)
    unfolding mapping
    mapped e h ps' ws' x = record { says = rw is; positions = rw is x.positions; widths = rw is x.widths }
      where
        is : mapping ss ds ps (length ws) ≡ done (record { positions = positions_from ss ds ps; widths = widths ss ds })
        is = rw (formed ∙ e, le-leb (length ss) record_limit h)
