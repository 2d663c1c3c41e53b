-- A record whose references are rewritten stays well formed where each of them does. Assumes nothing.
use Prim.Native.Nat.{ℕ, zero, suc, ◌%◌}
use Rattle.std.specs.Prelude.{◌≡◌, Bool, ◌&&◌, length, eqb, leb, ltb}
use Rattle.std.proofs.Math.Path.{refl}
use Rattle.std.proofs.Common.{◌∙◌, ap, arith}
use Rattle.std.proofs.Math.Bool.{true}
use mathlib.Core.List.{List, [], ◌∷◌}
use borrow.Author.Tests.{leb-true}
use Rattle.kinds.specs.Write.{write-length}
use Rattle.kinds.specs.Steps.{step_size, steps_bytes}
use Rattle.kinds.specs.declared.reference.Reference.{Reference}
use Rattle.kinds.specs.declared.step.Step.{Step}
use Rattle.meaning.specs.Trees.{up_to}
use Rattle.meaning.proofs.Laws.Tests.{and_left, and_right}
use Rattle.lists.specs.Records.{records_in, good_reference, good_references, good_record, good_records, good_list}
use Rattle.lent_lists.specs.Records.{used_by, record_by, mapped, rewritten}

pub both : (a b : Bool) → a ≡ true → b ≡ true → (a && b) ≡ true
both a b h g = rw (h, g)

module _ (f : Reference → Reference) (keeps : (r : Reference) → good_reference r ≡ true → good_reference (f r) ≡ true) where
  by_count :
      (c : ℕ) (d a b e : Reference) → (leb c 3 && (good_reference d && good_references (up_to c (a ∷ b ∷ e ∷ [])))) ≡ true
      → (leb c 3 && (good_reference (f d) && good_references (up_to c (used_by f (ltb 0 c) a ∷ used_by f (ltb 1 c) b ∷ used_by f (ltb 2 c) e ∷ [])))) ≡ true
  unfolding good_references used_by
  by_count zero d a b e h = both _ _ (keeps d (and_left (good_reference d) true h)) refl
  by_count (suc zero) d a b e h =
      let g = and_right (good_reference d) _ h in
      both _ _ (keeps d (and_left (good_reference d) _ h)) (both _ _ (keeps a (and_left (good_reference a) true g)) refl)
  by_count (suc (suc zero)) d a b e h =
      let g = and_right (good_reference d) _ h in
      let k = and_right (good_reference a) _ g in
      both _ _ (keeps d (and_left (good_reference d) _ h)) (both _ _ (keeps a (and_left (good_reference a) _ g)) (both _ _ (keeps b (and_left (good_reference b) true k)) refl))
  by_count (suc (suc (suc zero))) d a b e h =
      let g = and_right (good_reference d) _ h in
      let k = and_right (good_reference a) _ g in
      let l = and_right (good_reference b) _ k in
      both _ _ (keeps d (and_left (good_reference d) _ h))
      (both _ _ (keeps a (and_left (good_reference a) _ g)) (both _ _ (keeps b (and_left (good_reference b) _ k)) (both _ _ (keeps e (and_left (good_reference e) true l)) refl)))
  by_count (suc (suc (suc (suc c)))) d a b e h = absurd (omega (arith, leb-true (suc (suc (suc (suc c)))) 3 (and_left _ _ h)))

  pub record-kept : (x : Step) → good_record x ≡ true → good_record (record_by f x) ≡ true
  unfolding good_record record_by
  record-kept x h = by_count x.count x.dest x.s0 x.s1 x.s2 h

  pub records-kept : (xs : List Step) → good_records xs ≡ true → good_records (mapped (record_by f) xs) ≡ true
  unfolding good_records mapped
  records-kept [] h = refl
  records-kept (x ∷ xs) h =
      both (good_record (record_by f x)) (good_records (mapped (record_by f) xs)) (record-kept x (and_left (good_record x) (good_records xs) h)) (records-kept xs (and_right (good_record x) (good_records xs) h))

pub rewritten-length : (g : Step → Step) (l : List ℕ) → length (rewritten g l) ≡ length l
unfolding rewritten
rewritten-length g l = write-length l 0 (steps_bytes (mapped g (records_in l)))

-- a list of the same length whose records are well formed
pub good-records : (l l' : List ℕ) → good_list l ≡ true → length l' ≡ length l → (good_records (records_in l) ≡ true → good_records (records_in l') ≡ true) → good_list l' ≡ true
unfolding good_list
good-records l l' h e k =
    both (eqb (length l' % step_size) 0) (good_records (records_in l'))
    (ap (λ n. eqb (n % step_size) 0) e ∙ and_left (eqb (length l % step_size) 0) (good_records (records_in l)) h)
    (k (and_right (eqb (length l % step_size) 0) (good_records (records_in l)) h))
