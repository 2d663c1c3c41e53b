-- What a good context was loaded into: its words, where its blocks end, and what they say.
-- Assumes nothing.
use Prim.Native.Nat.{ℕ, zero, suc, ◌+◌, ◌*◌, ◌<◌, ◌≤◌}
use Rattle.std.specs.Prelude.{◌≡◌, List, length, get_or}
use Rattle.std.proofs.Math.Path.{refl}
use Rattle.std.proofs.Common.{sym, ◌∙◌, ap, subst, arith, zero-add}
use Rattle.std.proofs.lemmas.List.{length-replicate}
use Rattle.kinds.specs.Write.{write, write-length, write-there}
use Rattle.kinds.specs.Steps.{step_size, step_at}
use Rattle.frames.specs.Packing.{first-same}
use Rattle.builds.specs.Raw.{steps_in, start_of, records_from, raw_block_at, raw_blocks}
use Rattle.builds.specs.Starts.{records-same, start-next, start-le}
use Rattle.context.specs.Context.{cells, blocks_in, steps_in as count_in, temporaries_in, Good}
use Rattle.context.specs.Tables.{marks_in, words_in, words-length}
use Rattle.context.specs.Held.{all_steps as word_steps, loaded-held, good-sound, Sound}
use Rattle.codegen.specs.Said.{said}
use Rattle.codegen.specs.Committing.{no_words}

-- ── tables that agree ────────────────────────────────────────────────────────
module _ (t t' : List ℕ) (n : ℕ) (same : (k : ℕ) → k < n → get_or t' k 0 ≡ get_or t k 0) where
  starts-same : (k : ℕ) → k ≤ n → start_of t' k ≡ start_of t k
  unfolding start_of
  starts-same zero h = refl
  starts-same (suc k) h = rw (starts-same k (omega arith), same k (omega arith))

  -- over lists whose steps agree, too
  pub blocks-same : (l l' : List ℕ) → ((i : ℕ) → i < start_of t n → step_at l' (step_size * i) ≡ step_at l (step_size * i)) → raw_blocks t' l' n ≡ raw_blocks t l n
  blocks-same l l' e = first-same (raw_block_at t l) (raw_block_at t' l') n at
    where
      at : (k : ℕ) → k < n → raw_block_at t' l' k ≡ raw_block_at t l k
      at k h =
          let m = steps_in (get_or t k 0) in
          let g : start_of t k + m ≤ start_of t n = rw (← start-next t k) (start-le t (suc k) n h) in
          let q : records_from l' (start_of t k) m ≡ records_from l (start_of t k) m
          = records-same l l' (start_of t k) (start_of t k) m (λ i u. e (start_of t k + i) (omega arith)) in
          rw (same k h, starts-same k (omega arith), q)

-- ── loaded ───────────────────────────────────────────────────────────────────
module _ {t x : List ℕ} (l : List ℕ) {m : ℕ} (few : m ≤ 512) (good : Good x m (length l)) (loaded : t ≡ write no_words 0 (words_in x (blocks_in x))) where
  abbrev B : ℕ
  B = blocks_in x

  abbrev at : ℕ
  at = count_in x

  pub sound : Sound (marks_in x) t B at m (length l)
  sound =
      subst (λ (u : List ℕ). Sound (marks_in x) u B at m (length l)) (sym loaded)
      (good-sound x (marks_in x) (write no_words 0 (words_in x B)) B at (temporaries_in x) m (length l) (loaded-held x no_words m (length l) few (length-replicate {A = ℕ} 1024 0) good) good)

  pub full : length t ≡ cells
  full = ap length loaded ∙ write-length no_words 0 (words_in x B) ∙ length-replicate {A = ℕ} 1024 0

  words-loaded : (k : ℕ) → k < B → get_or t k 0 ≡ get_or (words_in x B) k 0
  words-loaded k h =
      ap (λ (u : List ℕ). get_or u k 0) loaded
      ∙ rw zero-add at (write-there no_words 0 (words_in x B) k (omega (arith, words-length x B, good.head.few_blocks, length-replicate {A = ℕ} 1024 0)) (omega (arith, words-length x B)))

  start_is : (k : ℕ) → start_of t k ≡ word_steps t k
  unfolding start_of
  start_is zero = refl
  start_is (suc k) = rw (start_is k)

  -- the blocks end where the context's steps do
  pub start-at : start_of t B ≡ at
  start-at = start_is B ∙ sound.total

  pub said-blocks : (said x l).blocks ≡ raw_blocks t l B
  said-blocks = blocks-same t (words_in x B) B (λ k h. sym (words-loaded k h)) l l (λ i h. refl)
