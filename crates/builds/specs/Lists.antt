-- The three lists of a build, of the raw blocks of tables: what is asked, and that they are those by block number.
-- Assumes nothing.
use Prim.Native.Nat.{ℕ, zero, suc, ◌+◌, ◌*◌, ◌/◌, ◌%◌, ◌<◌, ◌≤◌}
use Rattle.std.specs.Prelude.{◌≡◌, Bool, ◌&&◌, ◌||◌, List, [], ◌∷◌, ◌++◌, length, get_or, set, replicate, eqb, ltb}
use Rattle.std.proofs.Math.Path.{refl, sym, fun_ext}
use Rattle.std.proofs.Common.{◌∙◌, ap, append-nil, append_assoc, add-zero, zero-add, add-suc, suc-add, length-append, length-set, get_or-set_same, get_or-set_other, eq-eqb, eqb-true, ltb-true}
use Rattle.std.proofs.Math.Bool.{true, false, cond}
use native.Mathlib.Omega.{arith}
use Rattle.std.proofs.lemmas.List.{length-replicate, get_or-replicate}
use Rattle.std.proofs.lemmas.Bool.{eqb-false}
use Rattle.kinds.specs.Steps.{step_size, steps_of, steps-none, steps-length, steps-split}
use Rattle.kinds.specs.declared.step.Step.{Step}
use Rattle.frames.specs.Tables.{first}
use Rattle.pool.specs.Laws.Tabled.{first-length}
use Rattle.starkinfo_codegen.specs.Ordering.{cell_of}
use Rattle.builds.specs.Raw.{RawBlock, RawSegment, cell_in, steps_in, start_of, records_from, raw_block_at, raw_blocks, is_block, standing, in_e, every, linear, plain, raw_segment, flagged_in}
use Rattle.builds.specs.Numbered.{stand_to, stands, in_table, skips_in, skips_at, taken_at, taken_to, list_to, BlocksAsk}
use Rattle.builds.specs.declared.build.Which.{Which}
use Rattle.builds.specs.declared.build.Which.TheVariants as which

-- ── definitions ──────────────────────────────────────────────────────────────
abbrev pub list_of : Which → RawSegment → List Step
list_of which.First s = s.first
list_of which.I s = s.i
list_of which.Last s = s.last

-- THE LIST OF A BUILD from block table t, expressions x, list l, with n blocks and m expressions
abbrev pub list_in : List ℕ → List ℕ → List ℕ → ℕ → ℕ → Which → List Step
list_in t x l n m w = list_of w (raw_segment (flagged_in x m) (raw_blocks t l n))

-- the list has the steps of the blocks, and there is room for the answer
pub record CopyAsks (t x l : List ℕ) (n m : ℕ) (w : Which) (room : ℕ) : Type 0 where
  pub blocks : BlocksAsk t n m
  pub there : step_size * start_of t n ≤ length l
  pub fits : step_size * length (list_in t x l n m w) ≤ room

-- ── which cells stand ────────────────────────────────────────────────────────
pub stand_length : (t : List ℕ) (n : ℕ) (s : List ℕ) → length (stand_to t n s) ≡ length s
unfolding stand_to
stand_length t zero s = refl
stand_length t (suc n) s = length-set (stand_to t n s) (cell_in (get_or t n 0)) 1 ∙ stand_length t n s

-- a block is that of a cell by its word
pub cell-block : (e r c : ℕ) → r < 2 → (eqb e (c / 2) && eqb r (c % 2)) ≡ eqb (cell_of e r) c
cell-block e r c h = go (eqb (cell_of e r) c) refl
  where
    by : (u v : Bool) → eqb e (c / 2) ≡ u → eqb r (c % 2) ≡ v → (cell_of e r ≡ c → ⊥) → (u && v) ≡ false
    by true true p q n = let a = eqb-true e (c / 2) p in let b = eqb-true r (c % 2) q in absurd (n (omega arith))
    by true false p q n = refl
    by false v p q n = refl

    go : (v : Bool) → eqb (cell_of e r) c ≡ v → (eqb e (c / 2) && eqb r (c % 2)) ≡ v
    go true p = let z = eqb-true (cell_of e r) c p in rw (eq-eqb e (c / 2) (omega arith), eq-eqb r (c % 2) (omega arith))
    go false p = by (eqb e (c / 2)) (eqb r (c % 2)) refl refl (eqb-false (cell_of e r) c p)

or-false : (a : Bool) → (a || false) ≡ a
or-false true = refl
or-false false = refl

or_true : (a : Bool) → (a || true) ≡ true
or_true true = refl
or_true false = refl

pub standing-snoc : (e r : ℕ) (xs : List RawBlock) (b : RawBlock) → standing e r (xs ++ (b ∷ [])) ≡ (standing e r xs || is_block e r b)
standing-snoc e r [] b = or-false (is_block e r b)
standing-snoc e r (x ∷ xs) b = rw (standing-snoc e r xs b) (go (is_block e r x))
  where
    go : (v : Bool) → (v || (standing e r xs || is_block e r b)) ≡ ((v || standing e r xs) || is_block e r b)
    go true = refl
    go false = refl

-- THE CELLS NOTED are those of the blocks that stand
module _ (t l s : List ℕ) (size : length s ≡ 1024) (e r : ℕ) (row : r < 2) (there : cell_of e r < 1024) (clear : get_or s (cell_of e r) 0 ≡ 0) where
  pub stand_is : (n : ℕ) → stands (stand_to t n s) (cell_of e r) ≡ standing e r (raw_blocks t l n)
  unfolding stand_to first
  stand_is zero = rw clear
  stand_is (suc n) = go (eqb (cell_of e r) c) refl (stand_is n) ∙ sym (standing-snoc e r (raw_blocks t l n) (raw_block_at t l n))
    where
      c : ℕ
      c = cell_in (get_or t n 0)

      S : List ℕ
      S = stand_to t n s

      go :
          (v : Bool) → eqb (cell_of e r) c ≡ v → stands S (cell_of e r) ≡ standing e r (raw_blocks t l n) →
          stands (set S c 1) (cell_of e r) ≡ (standing e r (raw_blocks t l n) || is_block e r (raw_block_at t l n))
      go true q ih =
          let z = eqb-true (cell_of e r) c q in
          let g : c < length S = omega (arith, stand_length t n s) in
          rw (cell-block e r c row, q, or_true (standing e r (raw_blocks t l n))) (ap (λ v. stands (set S c 1) v) z ∙ ap (ltb 0) (get_or-set_same S c 1 0 g))
      go false q ih =
          rw (cell-block e r c row, q, or-false (standing e r (raw_blocks t l n))) (ap (ltb 0) (get_or-set_other S c (cell_of e r) 1 0 (eqb-false (cell_of e r) c q)) ∙ ih)

abbrev pub no_cells : List ℕ
no_cells = replicate 1024 0

pub in_is : (t x l : List ℕ) (n m : ℕ) → m ≤ 512 → (e : ℕ) → in_table x m (stand_to t n no_cells) e ≡ in_e (flagged_in x m) (raw_blocks t l n) e
unfolding in_table
in_is t x l n m few e = go (ltb e m) refl
  where
    at : (r : ℕ) → r < 2 → e < 512 → stands (stand_to t n no_cells) (cell_of e r) ≡ standing e r (raw_blocks t l n)
    at r h g = stand_is t l no_cells (length-replicate {A = ℕ} 1024 0) e r h (omega arith) (get_or-replicate {A = ℕ} 1024 (cell_of e r) 0 0 (omega arith)) n

    go : (v : Bool) → ltb e m ≡ v → in_table x m (stand_to t n no_cells) e ≡ in_e (flagged_in x m) (raw_blocks t l n) e
    go true q =
        let h = ltb-true e m q in
        let plain : stands (stand_to t n no_cells) (2 * e) ≡ standing e 0 (raw_blocks t l n) = rw add-zero at (at 0 (omega arith) (omega arith)) in
        rw (plain, at 1 (omega arith) (omega arith))
    go false q = rw q

-- ── lists by number ──────────────────────────────────────────────────────────
linear-snoc :
    (s : ℕ → RawBlock → Bool) (k : ℕ) (xs : List RawBlock) (b : RawBlock) →
    linear s k (xs ++ (b ∷ [])) ≡ linear s k xs ++ cond (s (k + length xs) b) [] b.records
linear-snoc s k [] b = rw add-zero (go (s k b))
  where
    go : (v : Bool) → cond v [] (b.records ++ []) ≡ cond v [] b.records
    go true = refl
    go false = append-nil b.records
linear-snoc s k (x ∷ xs) b = rw (linear-snoc s (suc k) xs b, add-suc, suc-add) (go (s k x))
  where
    last : List Step
    last = cond (s (suc (k + length xs)) b) [] b.records

    go :
        (v : Bool) →
        cond v (linear s (suc k) xs ++ last) (x.records ++ (linear s (suc k) xs ++ last))
        ≡ cond v (linear s (suc k) xs) (x.records ++ linear s (suc k) xs) ++ last
    go true = refl
    go false = sym (append_assoc x.records (linear s (suc k) xs) last)

pub linear-is : (s : ℕ → RawBlock → Bool) (t l : List ℕ) (n : ℕ) → linear s 0 (raw_blocks t l n) ≡ list_to (λ k. s k (raw_block_at t l k)) t l n
unfolding first list_to taken_at
linear-is s t l zero = refl
linear-is s t l (suc n) =
    let b = raw_block_at t l n in
    linear-snoc s 0 (raw_blocks t l n) b
    ∙ rw (zero-add, first-length (raw_block_at t l) n, linear-is s t l n) (ap (λ (z : List Step). list_to (λ k. s k (raw_block_at t l k)) t l n ++ z) (go (s n b)))
  where
    go : (v : Bool) → cond v [] (records_from l (start_of t n) (steps_in (get_or t n 0))) ≡ records_from l (start_of t n) (cond v 0 (steps_in (get_or t n 0)))
    go true = sym (steps-none _)
    go false = refl

every-linear : (k : ℕ) (bs : List RawBlock) → every bs ≡ linear (λ n b. false) k bs
every-linear k [] = refl
every-linear k (b ∷ bs) = ap (λ (z : List Step). b.records ++ z) (every-linear (suc k) bs)

-- THE LIST OF A BUILD, by number
pub list-is : (t x l : List ℕ) (n m : ℕ) (w : Which) → m ≤ 512 → list_in t x l n m w ≡ list_to (skips_at t x m (stand_to t n no_cells) w) t l n
unfolding skips_in
list-is t x l n m which.First few = every-linear 0 (raw_blocks t l n) ∙ linear-is (λ k b. false) t l n
list-is t x l n m which.I few =
    linear-is (λ k b. in_e (flagged_in x m) (raw_blocks t l n) k && plain b) t l n
    ∙ ap (λ (s : ℕ → Bool). list_to s t l n) (fun_ext (λ k. rw (in_is t x l n m few k)))
list-is t x l n m which.Last few =
    linear-is (λ k b. in_e (flagged_in x m) (raw_blocks t l n) k) t l n ∙ ap (λ (s : ℕ → Bool). list_to s t l n) (fun_ext (λ k. sym (in_is t x l n m few k)))

pub list_length : (s : ℕ → Bool) (t l : List ℕ) (n : ℕ) → length (list_to s t l n) ≡ taken_to s t n
unfolding list_to taken_to
list_length s t l zero = refl
list_length s t l (suc n) = length-append (list_to s t l n) _ ∙ rw (list_length s t l n, steps-length)

-- how many steps it has does not hang on the list
pub size_is : (t x l : List ℕ) (n m : ℕ) (w : Which) → m ≤ 512 → length (list_in t x l n m w) ≡ taken_to (skips_at t x m (stand_to t n no_cells) w) t n
size_is t x l n m w few = ap length (list-is t x l n m w few) ∙ list_length (skips_at t x m (stand_to t n no_cells) w) t l n

-- ── how many steps ───────────────────────────────────────────────────────────
module _ (skips : ℕ → Bool) (t : List ℕ) where
  pub taken-some : (k : ℕ) → taken_at skips t k ≤ steps_in (get_or t k 0)
  unfolding taken_at
  taken-some k = go (skips k)
    where
      go : (v : Bool) → cond v 0 (steps_in (get_or t k 0)) ≤ steps_in (get_or t k 0)
      go true = omega arith
      go false = omega arith

  pub taken-few : (k : ℕ) → taken_to skips t k ≤ start_of t k
  unfolding taken_to start_of
  taken-few zero = omega arith
  taken-few (suc k) = omega (arith, taken-few k, taken-some k)

-- no list has more steps than the blocks
pub list-few : (t x l : List ℕ) (n m : ℕ) (w : Which) → m ≤ 512 → length (list_in t x l n m w) ≤ start_of t n
list-few t x l n m w few = rw (size_is t x l n m w few) (taken-few (skips_at t x m (stand_to t n no_cells) w) t n)

-- and the first list is the steps themselves
pub every-is : (t l : List ℕ) (n : ℕ) → every (raw_blocks t l n) ≡ steps_of l (start_of t n)
unfolding list_to taken_at start_of
every-is t l n = every-linear 0 (raw_blocks t l n) ∙ linear-is (λ k b. false) t l n ∙ go n
  where
    go : (n : ℕ) → list_to (λ k. false) t l n ≡ steps_of l (start_of t n)
    go zero = sym (steps-none l)
    go (suc n) = rw (go n) (sym (steps-split l (start_of t n) (steps_in (get_or t n 0))))
