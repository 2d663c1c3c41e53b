-- Words of jobs: how many there are, one after another, and the job that a word says.
-- Assumes nothing.
use Rattle.std.specs.Prelude.{ℕ, suc, ◌+◌, ◌*◌, ◌/◌, ◌%◌, ◌<◌, ◌≡◌, refl, Bool, true, false, List, [], ◌∷◌, ◌++◌, length, eqb}
use Rattle.std.proofs.Common.{ap, arith}
use Rattle.meaning.specs.Order.{Job}
use Rattle.starkinfo_codegen.specs.Ordering.{cell_of, job_at, job_words}

pub words_append : (xs ys : List Job) → job_words (xs ++ ys) ≡ job_words xs ++ job_words ys
words_append [] ys = refl
words_append (x ∷ xs) ys = ap (λ l. job_at (cell_of x.expression x.row) x.fused ∷ l) (words_append xs ys)

pub words-length : (xs : List Job) → length (job_words xs) ≡ length xs
words-length [] = refl
words-length (x ∷ xs) = ap suc (words-length xs)

-- THE JOB THAT A WORD SAYS
abbrev pub job_in : ℕ → Job
job_in v = record { expression = v / 4; row = v / 2 % 2; fused = eqb (v % 2) 1 }

pub job-back : (e r : ℕ) (f : Bool) → r < 2 → job_in (job_at (cell_of e r) f) ≡ record { expression = e; row = r; fused = f }
unfolding job_at
job-back e r true h =
    let a : ((2 * e + r) * 2 + 1) / 4 ≡ e = omega arith in
    let b : ((2 * e + r) * 2 + 1) / 2 % 2 ≡ r = omega arith in
    let c : ((2 * e + r) * 2 + 1) % 2 ≡ 1 = omega arith in
    rw (a, b, c)
job-back e r false h =
    let a : ((2 * e + r) * 2 + 0) / 4 ≡ e = omega arith in
    let b : ((2 * e + r) * 2 + 0) / 2 % 2 ≡ r = omega arith in
    let c : ((2 * e + r) * 2 + 0) % 2 ≡ 0 = omega arith in
    rw (a, b, c)
