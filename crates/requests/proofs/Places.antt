-- The words of blocks put one after another: what is left, written after what stands, is the whole. No word of the code.
-- Assumes nothing.
use Prim.Native.Nat.{ℕ, suc, ◌+◌, ◌*◌, ◌/◌, ◌<◌, ◌≤◌}
use mathlib.Core.Path.{◌≡◌, refl, sym, ◌∙◌, ap}
use mathlib.Core.Bool.{Bool, true, false}
use mathlib.Core.List.{List, [], ◌∷◌}
use native.Mathlib.Omega.{arith}
use native.Mathlib.Nat.{add-zero}
use lib.ListN.{length, drop, set}
use Rattle.meaning.specs.Trees.{Forest}
use Rattle.meaning.specs.Order.{Job}
use Rattle.kinds.specs.Write.{write, write-none, write-append, write-length}
use Rattle.starkinfo_codegen.specs.Emitting.{Rest}
use Rattle.starkinfo_codegen.specs.Ordering.{cell_of, job_at}
use Rattle.requests.specs.Making.{job_steps, OneAsks, E}
use Rattle.requests.specs.Placing.{block_word, block_words, PlaceAsks}
use Rattle.requests.proofs.Makes.{nth_job, rest-is, nothing_left}

cell-of-job : (c : ℕ) (f : Bool) → job_at c f / 2 ≡ c
unfolding job_at
cell-of-job c true = omega arith
cell-of-job c false = omega arith

-- the word that is put for a job
pub word-is : {w x : List ℕ} {b : Rest} {y : Job} {word r : ℕ} → OneAsks w x b y word → r ≡ job_steps (E w x b) y → word / 2 + 1024 * r ≡ block_word (E w x b) y
word-is {y = y} a e = omega (arith, ap (λ v. v / 2) a.says ∙ cell-of-job (cell_of y.expression y.row) y.fused, e)

write-one : (l : List ℕ) (i v : ℕ) → set l i v ≡ write l i (v ∷ [])
unfolding write
write-one l i v = refl

module _ (w x : List ℕ) (b : Rest) (js : List Job) {j t₀ : List ℕ} {n from : ℕ} (a : PlaceAsks w x b js j t₀ n from) where
  abbrev F : Forest
  F = E w x b

  pub record Placed (t : List ℕ) (k : ℕ) : Type 0 where
    pub below : k ≤ n
    pub size : length t ≡ 1024
    pub table : write t (from + k) (block_words F (drop k js)) ≡ write t₀ from (block_words F js)

  pub none-placed : Placed t₀ 0
  none-placed = record { below = omega arith; size = a.full; table = ap (λ i. write t₀ i (block_words F js)) (add-zero from) }

  pub one_placed : {t : List ℕ} {k v : ℕ} → Placed t k → k < n → v ≡ block_word F (nth_job js k) → Placed (set t (from + k) v) (k + 1)
  one_placed {t} {k} {v} p h e =
      let z : k + 1 ≡ suc k = omega arith in
      let i : from + (k + 1) ≡ from + k + 1 = omega arith in
      record {
        below = omega arith;
        size = ap length (write-one t (from + k) v) ∙ write-length t (from + k) (v ∷ []) ∙ p.size;
        table =
            rw (i, z, write-one t (from + k) v, e) (sym (write-append t (from + k) (block_word F (nth_job js k) ∷ []) (block_words F (drop (suc k) js))))
            ∙ ap (λ (ys : List Job). write t (from + k) (block_words F ys)) (sym (rest-is w x b js a.jobs h))
            ∙ p.table;
      }

  pub all_placed : {t : List ℕ} {k : ℕ} → Placed t k → n ≤ k → t ≡ write t₀ from (block_words F js)
  all_placed {t} {k} p h = sym (write-none t (from + k)) ∙ rw (nothing_left w x b js a.jobs p.below h) at p.table
