-- A well-formed record, part by part: a source that the record does not count is not looked at.
-- Assumes nothing.
use Rattle.std.specs.Prelude.{ℕ, zero, suc, ◌<◌, ◌≤◌, ◌≡◌, refl, Bool, true, false, ◌&&◌, ◌||◌, leb, ltb}
use Rattle.std.proofs.Common.{◌∙◌, arith, lt-ltb, le-ltb}
use Rattle.std.proofs.lemmas.Bool.{lt-leb}
use Rattle.kinds.specs.declared.step.Step as bytes
use Rattle.lists.specs.Records.{good_reference, good_references, good_record}

abbrev pub from_dest : bytes.Step → Bool
from_dest x = leb x.count 3 && good_reference x.dest

abbrev pub from-first : bytes.Step → Bool
from-first x = from_dest x && (ltb x.count 1 || good_reference x.s0)

abbrev pub from-second : bytes.Step → Bool
from-second x = from-first x && (ltb x.count 2 || good_reference x.s1)

abbrev pub from-third : bytes.Step → Bool
from-third x = from-second x && (ltb x.count 3 || good_reference x.s2)

parts : (d a b c : Bool) → (((d && a) && b) && c) ≡ (d && (a && (b && (c && true))))
parts false a b c = refl
parts true false b c = refl
parts true true false c = refl
parts true true true true = refl
parts true true true false = refl

pub in-parts : (x : bytes.Step) → from-third x ≡ good_record x
unfolding good_record good_references
in-parts x = by x.count refl
  where
    by : (n : ℕ) → x.count ≡ n → from-third x ≡ good_record x
    by zero e = rw e (parts (good_reference x.dest) true true true)
    by (suc zero) e = rw e (parts (good_reference x.dest) (good_reference x.s0) true true)
    by (suc (suc zero)) e = rw e (parts (good_reference x.dest) (good_reference x.s0) (good_reference x.s1) true)
    by (suc (suc (suc zero))) e = rw e (parts (good_reference x.dest) (good_reference x.s0) (good_reference x.s1) (good_reference x.s2))
    by (suc (suc (suc (suc n)))) e = let m : 3 < x.count = omega arith in rw (lt-leb x.count 3 m)

-- from the value of each part
pub whole : (x : bytes.Step) {v w u r : Bool} → v ≡ from_dest x → w ≡ (v && (ltb x.count 1 || good_reference x.s0)) → u ≡ (w && (ltb x.count 2 || good_reference x.s1))
    → r ≡ (u && (ltb x.count 3 || good_reference x.s2)) → r ≡ good_record x
whole x a b c d = d ∙ rw (c, b, a) (in-parts x)

-- ---- the value of `a && b` and of `p || q`, by the way that was taken

pub on : {a v : Bool} (b : Bool) → a ≡ true → v ≡ b → v ≡ (a && b)
on b e f = rw e f

pub off : {a v : Bool} (b : Bool) → a ≡ false → v ≡ a → v ≡ (a && b)
off b e f = f ∙ rw e

pub counts : {n k : ℕ} {v : Bool} (q : Bool) → k ≤ n → v ≡ q → v ≡ (ltb n k || q)
counts {n} {k} q h f = rw (le-ltb n k h) f

pub fewer : {n k : ℕ} {v : Bool} (q : Bool) → n < k → v ≡ ltb n k → v ≡ (ltb n k || q)
fewer {n} {k} q h f = f ∙ rw (lt-ltb n k h)
