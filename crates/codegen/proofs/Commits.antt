-- Blocks added to tables that a good context was loaded into, and a result copied: what the tables and the list then say, how many steps there are, and
-- what is stored. No word of the code.
-- Assumes nothing.
use Prim.Native.Nat.{ℕ, zero, suc, ◌+◌, ◌*◌, ◌-◌, ◌<◌, ◌≤◌}
use mathlib.Core.Path.{◌≡◌, refl, sym, ◌∙◌, ap}
use mathlib.Core.List.{List, [], ◌∷◌, ◌++◌}
use mathlib.Core.Logic.{⊎_elim}
use native.Mathlib.Omega.{arith}
use native.Mathlib.Nat.{zero-add, not-suc-le-zero, le_of_suc-le-suc}
use lib.ListN.{length, get_or, length-append, get_or-append}
use Rattle.meaning.specs.Trees.{Forest, Each}
use Rattle.meaning.specs.Order.{Job}
use Rattle.meaning.specs.Generation.{Block, make}
use Rattle.meaning.specs.Building as building
use Rattle.kinds.specs.Write.{write, write-length, write-there, write-before}
use Rattle.kinds.specs.Records.{Same}
use Rattle.kinds.specs.Steps.{step_size, step_at, step_same}
use Rattle.starkinfo_codegen.specs.Encoding.{records-length, encoded}
use Rattle.starkinfo_codegen.specs.Emitting.{Rest}
use Rattle.starkinfo_codegen.specs.Ordering.{marks_of}
use Rattle.starkinfo_codegen.specs.Totals.{Found, counter_is}
use Rattle.requests.specs.Making.{JobThere, steps_from, all_steps, E}
use Rattle.requests.specs.Placing.{block_words}
use Rattle.requests.specs.Jobs.{steps-count, some-steps}
use Rattle.builds.specs.Raw.{RawBlock, steps_in, start_of, raw_blocks, every}
use Rattle.builds.specs.RawOf.{raw_of, raw-every}
use Rattle.builds.specs.Held.{words_of, raw-added}
use Rattle.context.specs.Context.{cells, blocks_in, steps_in as count_in, temporaries_in}
use Rattle.context.specs.Tables.{marks_in}
use Rattle.context.specs.Zeros.{below_or}
use Rattle.context.specs.Held.{Sound}
use Rattle.codegen.specs.Said.{Said, said}
use Rattle.codegen.specs.Written.{raw-steps}
use Rattle.codegen.specs.Committing.{CommitAsks, after_jobs}
use Rattle.codegen.specs.Made.{found_all, made-words, made-count, made_cells}
use Rattle.codegen.specs.Loads.{blocks-same}
use Rattle.codegen.specs.Loads as loads

-- the steps of a list with more after it
pub longer-steps : (l z : List ℕ) (i : ℕ) → step_size * (i + 1) ≤ length l → step_at (l ++ z) (step_size * i) ≡ step_at l (step_size * i)
unfolding Same
longer-steps l z i h = step_same (l ++ z) (step_size * i) l (step_size * i) (λ k g. get_or-append l z 0 (step_size * i + k) (omega arith))

-- ── blocks that jobs make ────────────────────────────────────────────────────
length-every : (bs cs : List RawBlock) → length (every (bs ++ cs)) ≡ length (every bs) + length (every cs)
length-every [] cs = sym (zero-add (length (every cs)))
length-every (b ∷ bs) cs = rw (length-append b.records (every (bs ++ cs)), length-append b.records (every bs), length-every bs cs) (omega arith)

-- ── what was loaded ──────────────────────────────────────────────────────────
module _ {w xs : List ℕ} {b : Rest} {js : List Job} {j s t x l : List ℕ} {n : ℕ} (a : CommitAsks w xs b js j s t x l n) where
  abbrev pub G : Forest
  G = E w xs b

  abbrev pub B : ℕ
  B = blocks_in x

  abbrev pub at : ℕ
  at = count_in x

  abbrev pub T : ℕ
  T = temporaries_in x

  abbrev cs : List Block
  cs = (make G js T).blocks

  few : b.expression_count ≤ 512
  few = a.jobs.world.few

  pub sound : Sound (marks_in x) t B at b.expression_count (length l)
  sound = loads.sound l few a.good a.loaded

  pub full : length t ≡ cells
  full = loads.full l few a.good a.loaded

  pub start-at : start_of t B ≡ at
  start-at = loads.start-at l few a.good a.loaded

  pub said-blocks : (said x l).blocks ≡ raw_blocks t l B
  said-blocks = loads.said-blocks l few a.good a.loaded

  -- ── how many steps ─────────────────────────────────────────────────────────
  found : Each (Found G) js
  found = found_all w xs b js a.jobs.there

  abbrev pub after : Said
  after = after_jobs G js (marks_of s) (said x l)

  pub steps-after : length (every after.blocks) ≡ at + all_steps G js
  steps-after =
      length-every (said x l).blocks (raw_of cs)
      ∙ rw (said-blocks, raw-steps t l B, start-at, raw-every cs, records-length (building.every cs), steps-count G js T)

  pub counter-after : {v : ℕ} → v ≡ all_steps G js → n ≤ v → after.counter ≡ T + (v - n)
  counter-after e h = omega (arith, counter_is G js T found, steps-count G js T, e, h, a.jobs.count)

  -- ── the table after ────────────────────────────────────────────────────────
  abbrev pub t' : List ℕ
  t' = write t B (block_words G js)

  block-count : length (block_words G js) ≡ n
  block-count = sym (ap length (made-words G js T found)) ∙ words_count cs ∙ made-count G js T found ∙ sym a.jobs.count
    where
      words_count : (bs : List Block) → length (words_of bs) ≡ length bs
      words_count [] = refl
      words_count (b ∷ bs) = ap suc (words_count bs)

  pub full' : length t' ≡ cells
  full' = write-length t B (block_words G js) ∙ full

  table_before : (k : ℕ) → k < B → get_or t' k 0 ≡ get_or t k 0
  table_before k h = write-before t B (block_words G js) k h

  table-there : (k : ℕ) → k < n → get_or t' (B + k) 0 ≡ get_or (block_words G js) k 0
  table-there k h = write-there t B (block_words G js) k (omega (arith, block-count, full, a.room)) (omega (arith, block-count))

  -- THE BLOCKS AFTER, over a list whose steps are those that stand, with room for more
  module _ (L : List ℕ) (same : (i : ℕ) → i < at → step_at L (step_size * i) ≡ step_at l (step_size * i)) (room : step_size * (at + all_steps G js) ≤ length L) where
    pub added : after.blocks ≡ raw_blocks t' (write L (step_size * at) (encoded (steps_from G js T))) (B + n)
    added =
        let n-is : length cs ≡ n = made-count G js T found ∙ sym a.jobs.count in
        let r = raw-added t L t' B cs table_before (made_cells G js T b.expression_count a.jobs.world.few a.jobs.there)
        (λ k h. table-there k (omega (arith, n-is)) ∙ ap (λ (z : List ℕ). get_or z k 0) (sym (made-words G js T found)))
        (omega (arith, room, start-at, steps-count G js T)) in
        ap (λ (z : List RawBlock). z ++ raw_of cs) (said-blocks ∙ sym (blocks-same t t B (λ k h. refl) l L (λ i h. same i (omega (arith, start-at)))))
        ∙ sym (rw (n-is, start-at) at r)

  -- each block has a step
  pub some-step : (k : ℕ) → k < B + n → 1 ≤ steps_in (get_or t' k 0)
  some-step k h = ⊎_elim (old k) (new k h) (below_or k B)
    where
      old : (k : ℕ) → k < B → 1 ≤ steps_in (get_or t' k 0)
      old k g = rw (table_before k g) (sound.each_word k g).some_step

      words-some : (ys : List Job) → Each (JobThere b) ys → (i : ℕ) → i < length ys → 1 ≤ steps_in (get_or (block_words G ys) i 0)
      words-some [] e i g = absurd (not-suc-le-zero g)
      words-some (y ∷ ys) e zero g = omega (arith, some-steps w xs b y e.0, a.jobs.world.few, e.0.0, e.0.1)
      words-some (y ∷ ys) e (suc i) g = words-some ys e.1 i (le_of_suc-le-suc g)

      new : (k : ℕ) → k < B + n → B ≤ k → 1 ≤ steps_in (get_or t' k 0)
      new k h g =
          let i : B + (k - B) ≡ k = omega arith in
          let e : get_or t' k 0 ≡ get_or (block_words G js) (k - B) 0 = ap (λ m. get_or t' m 0) (sym i) ∙ table-there (k - B) (omega arith) in
          rw e (words-some js a.jobs.there (k - B) (omega (arith, a.jobs.count)))
