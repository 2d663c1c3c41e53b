-- The words of the blocks that jobs make, put into a table.
-- Assumes nothing: these are definitions.
use Rattle.std.specs.Prelude.{ℕ, ◌+◌, ◌*◌, ◌≤◌, ◌≡◌, List, [], ◌∷◌, length}
use Rattle.meaning.specs.Trees.{Forest}
use Rattle.meaning.specs.Order.{Job}
use Rattle.kinds.specs.Write.{write}
use Rattle.starkinfo_codegen.specs.Emitting.{Rest}
use Rattle.starkinfo_codegen.specs.Ordering.{cell_of}
use Rattle.requests.specs.Making.{job_steps, JobsAsk, E}

-- A BLOCK'S WORD: its cell, and 1024 times its steps
abbrev pub block_word : Forest → Job → ℕ
block_word E j = cell_of j.expression j.row + 1024 * job_steps E j

abbrev pub block_words : Forest → List Job → List ℕ
block_words E [] = []
block_words E (j ∷ js) = block_word E j ∷ block_words E js

pub record PlaceAsks (w x : List ℕ) (b : Rest) (js : List Job) (j t : List ℕ) (n from : ℕ) : Type 0 where
  pub jobs : JobsAsk w x b js j n
  pub full : length t ≡ 1024
  pub room : from + n ≤ 1024

-- for whichever rest of a pool and jobs: some are asked for, and the answer holds of all
abbrev pub PlaceAsked : List ℕ → List ℕ → List ℕ → List ℕ → ℕ → ℕ → Type 0
PlaceAsked w x j t n from = (b : Rest) × (js : List Job) × PlaceAsks w x b js j t n from

abbrev pub PlaceGiven : List ℕ → List ℕ → List ℕ → List ℕ → List ℕ → ℕ → ℕ → Type 0
PlaceGiven w x j t t' n from = (b : Rest) (js : List Job) → PlaceAsks w x b js j t n from → t' ≡ write t from (block_words (E w x b) js)
