-- The lists of a segment, one list more; and each answer of the entry points.
-- Assumes nothing.
use Rattle.std.specs.Prelude.{ℕ, ◌+◌, ◌*◌, ◌%◌, Bool, true, false, ◌&&◌, List, [], ◌∷◌, length, eqb, Result, Ok, Err}
use Rattle.std.proofs.Math.Path.{◌≡◌, refl, sym, ap}
use Rattle.std.proofs.Common.{◌∙◌, append-nil, div-add-mod', arith, drop_of_length-le, eqb-true}
use Rattle.std.proofs.Math.Option.{none, some}
use Rattle.kinds.specs.Write.{write, write-is}
use Rattle.kinds.specs.Steps.{step_size, steps_bytes, steps-bytes-length}
use Rattle.meaning.specs.Refusals.{number, Answer, done, refused, ◌then◌}
use Rattle.lists.specs.Records.{record_count, records_in, good_records, good_list}
use Rattle.step_dimensions.specs.StepDimensions.{Given, unwritten}
use Rattle.dimensions.specs.Dimensions.{Passed, passed, passed_lists, good_lists, dimensions}
use Rattle.kinds.specs.Answers as code
use Rattle.kinds.specs.declared.refusal.Refusal as codes
use Rattle.kinds.specs.declared.refusal.Refusal.TheVariants as code_of
use Rattle.dimensions.specs.Answers.{decided_says, list_to, ListWritten, WritesList, refusal_of, decided_refusal, WritesLists, dimensioned_no, DimensionedIs}
use Rattle.dimensions.specs.Laws.Passes.{passed_length}

-- ---- deciding

module _ (g : Given) (ts l : List ℕ) (ls : List (List ℕ)) (r : Result Unit codes.Refusal) (ts' : List ℕ) (e : decided_says r ts' ≡ list_to g ts (records_in l)) where
  after : (P : Answer Passed) → Answer (List (List ℕ))
  after P = P then λ p. passed_lists g p.temporaries ls then λ ls'. done (steps_bytes p.records ∷ ls')

  pub lists-next : r ≡ Ok tt → refusal_of (passed_lists g ts' ls) ≡ refusal_of (passed_lists g ts (l ∷ ls))
  unfolding passed_lists after
  lists-next q = by (passed g ts (records_in l)) (sym (rw q) ∙ e)
    where
      ends : (p : Passed) (L : Answer (List (List ℕ))) → refusal_of L ≡ refusal_of (L then λ ls'. done (steps_bytes p.records ∷ ls'))
      ends p (done ls') = refl
      ends p (refused w n) = refl

      by : (P : Answer Passed) → done ts' ≡ (P then λ (p : Passed). done p.temporaries) → refusal_of (passed_lists g ts' ls) ≡ refusal_of (after P)
      by (done p) z =
          let y : ts' ≡ p.temporaries = cc in
          rw y (ends p (passed_lists g p.temporaries ls))
      by (refused w n) z = absurd (let y : ◌≡◌ {A = ℕ} 0 1 = cc in omega arith)

  pub lists-stop : (w : codes.Refusal) → r ≡ Err w → some (code.refusal_of w) ≡ refusal_of (passed_lists g ts (l ∷ ls))
  unfolding passed_lists after
  lists-stop w q = by (passed g ts (records_in l)) (sym (rw q) ∙ e)
    where
      by : (P : Answer Passed) → refused (code.refusal_of w) none ≡ (P then λ (p : Passed). done p.temporaries) → some (code.refusal_of w) ≡ refusal_of (after P)
      by (done p) z = absurd (let y : ◌≡◌ {A = ℕ} 0 1 = cc in omega arith)
      by (refused v n) z = ap some (let y : code.refusal_of w ≡ v = cc in y)

  -- the last list
  pub lists-last : ls ≡ [] → decided_refusal r ≡ refusal_of (passed_lists g ts (l ∷ ls))
  unfolding passed_lists
  lists-last z = by r refl
    where
      by : (d : Result Unit codes.Refusal) → r ≡ d → decided_refusal d ≡ refusal_of (passed_lists g ts (l ∷ ls))
      by (Ok t) q = sym (sym (lists-next q) ∙ rw z)
      by (Err w) q = lists-stop w q

-- ---- writing

-- a list of whole records is all written over
whole : (l : List ℕ) → good_list l ≡ true → length l ≡ step_size * record_count l
unfolding good_list
whole l e = by (eqb (length l % step_size) 0) refl e
  where
    by : (t : Bool) → eqb (length l % step_size) 0 ≡ t → (t && good_records (records_in l)) ≡ true → length l ≡ step_size * record_count l
    by true q h =
        let z : length l % step_size ≡ 0 = eqb-true (length l % step_size) 0 q in
        omega (arith, div-add-mod' (length l) step_size)
    by false q h = absurd (let z : ◌≡◌ {A = ℕ} 0 1 = cc in omega arith)

over : (l vs : List ℕ) → length l ≡ length vs → write l 0 vs ≡ vs
over l vs e = write-is l 0 vs (omega arith) ∙ rw (drop_of_length-le l {i = 0 + length vs} (omega arith)) (append-nil vs)

pub writes-none : (g : Given) (ts : List ℕ) → WritesLists g ts [] []
unfolding passed_lists
writes-none g ts xs e = cc

pub writes-next : (g : Given) (ts ts₁ l l' : List ℕ) (ls ls' : List (List ℕ)) → WritesList g ts ts₁ l l' → good_list l ≡ true → WritesLists g ts₁ ls ls' → WritesLists g ts (l ∷ ls) (l' ∷ ls')
unfolding passed_lists
writes-next g ts ts₁ l l' ls ls' w good rest xs e = by (passed g ts (records_in l)) refl e
  where
    ends : (p : Passed) → ListWritten ts₁ l l' p → length p.records ≡ record_count l → (L : Answer (List (List ℕ))) → passed_lists g p.temporaries ls ≡ L
        → (L then λ ls''. done (steps_bytes p.records ∷ ls'')) ≡ done xs → l' ∷ ls' ≡ xs
    ends p x n (done ls'') q z =
        let m : length l ≡ length (steps_bytes p.records) = whole l good ∙ sym (steps-bytes-length p.records ∙ rw n) in
        let a : l' ≡ steps_bytes p.records = x.bytes ∙ over l (steps_bytes p.records) m in
        let b : ls' ≡ ls'' = rest ls'' (rw x.temporaries q) in
        cc
    ends p x n (refused r k) q z = absurd (let y : ◌≡◌ {A = ℕ} 0 1 = cc in omega arith)

    by : (P : Answer Passed) → passed g ts (records_in l) ≡ P → (P then λ p. passed_lists g p.temporaries ls then λ ls''. done (steps_bytes p.records ∷ ls'')) ≡ done xs → l' ∷ ls' ≡ xs
    by (done p) q z = ends p (w p q) (passed_length g ts l (record_count l) p q) (passed_lists g p.temporaries ls) refl z
    by (refused r k) q z = absurd (let y : ◌≡◌ {A = ℕ} 0 1 = cc in omega arith)

-- ---- the answers

pub bad-first : (l : List ℕ) (ls : List (List ℕ)) (b : Bool) → b ≡ good_list l → b ≡ false → good_lists (l ∷ ls) ≡ false
unfolding good_lists
bad-first l ls b e h =
    let z : good_list l ≡ false = sym e ∙ h in
    rw z

pub bad-later : (l : List ℕ) (ls : List (List ℕ)) (b : Bool) → b ≡ good_list l → b ≡ true → good_lists ls ≡ false → good_lists (l ∷ ls) ≡ false
unfolding good_lists
bad-later l ls b e h q =
    let z : good_list l ≡ true = sym e ∙ h in
    rw (z, q)

pub good_none : good_lists [] ≡ true
unfolding good_lists
good_none = refl

pub good_more : (l : List ℕ) (ls : List (List ℕ)) (b : Bool) → b ≡ good_list l → b ≡ true → good_lists ls ≡ true → good_lists (l ∷ ls) ≡ true
unfolding good_lists
good_more l ls b e h q =
    let z : good_list l ≡ true = sym e ∙ h in
    rw (z, q)

module _ (g : Given) (ls : List (List ℕ)) where
  pub answers-malformed : good_lists ls ≡ false → DimensionedIs g ls ls (Err code_of.Malformed)
  unfolding dimensions
  answers-malformed h = record { says = rw h; lists = rw h }

  module _ (good : good_lists ls ≡ true) (r : Result Unit codes.Refusal) (e : decided_refusal r ≡ refusal_of (passed_lists g unwritten ls)) where
    pub answers-refused : (w : codes.Refusal) → r ≡ Err w → (d : Result Unit codes.Refusal) → dimensioned_no d ≡ number (code.refusal_of w) → DimensionedIs g ls ls d
    unfolding dimensions
    answers-refused w q d n = by (passed_lists g unwritten ls) refl (sym (rw q) ∙ e)
      where
        by : (L : Answer (List (List ℕ))) → passed_lists g unwritten ls ≡ L → some (code.refusal_of w) ≡ refusal_of L → DimensionedIs g ls ls d
        by (done ls') y z = absurd (let v : ◌≡◌ {A = ℕ} 0 1 = cc in omega arith)
        by (refused v k) y z =
            let u : code.refusal_of w ≡ v = cc in
            record { says = rw (good, y) (n ∙ ap number u); lists = rw (good, y) }

    pub answers-done : r ≡ Ok tt → (ls' : List (List ℕ)) → WritesLists g unwritten ls ls' → DimensionedIs g ls ls' (Ok tt)
    unfolding dimensions
    answers-done q ls' w = by (passed_lists g unwritten ls) refl (sym (rw q) ∙ e)
      where
        by : (L : Answer (List (List ℕ))) → passed_lists g unwritten ls ≡ L → none ≡ refusal_of L → DimensionedIs g ls ls' (Ok tt)
        by (done xs) y z = record { says = rw (good, y); lists = rw (good, y) (w xs y) }
        by (refused v k) y z = absurd (let u : ◌≡◌ {A = ℕ} 0 1 = cc in omega arith)
