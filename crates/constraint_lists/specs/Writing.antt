-- A LIST WRITTEN that was planned and for which there is room: what is asked, and what stands after it.
-- Assumes nothing: these are definitions.
use Rattle.std.specs.Prelude.{ℕ, zero, suc, ◌<◌, ◌≡◌, Bool, true, false, List, length}
use Rattle.meaning.specs.Order.{Job}
use Rattle.starkinfo_codegen.specs.Emitting.{Rest}
use Rattle.requests.specs.Making.{E}
use Rattle.builds.specs.Lists.{CopyAsks}
use Rattle.builds.specs.declared.build.Which.TheVariants as which
use Rattle.codegen.specs.Building.{Lists, lists_with}
use Rattle.constraint_pieces.specs.Closed.{closed_list, PutAsks}
use Rattle.constraint_lists.specs.Lists.{room_for, Written}
use Rattle.constraint_lists.specs.Measuring.{final_words, final_said, segment_in, MeasureAsks}

-- ── the closing product in bytes ─────────────────────────────────────────────
-- after `end` steps of n blocks
abbrev pub closed_bytes : Bool → ℕ → List ℕ → ℕ → List ℕ
closed_bytes true zero l end = l
closed_bytes true (suc k) l end = closed_list l end
closed_bytes false n l end = l

abbrev pub CloseListAsks : List ℕ → ℕ → ℕ → Bool → Type 0
CloseListAsks l end n closes = closes ≡ true → 0 < n → PutAsks (length l) end

-- ── the three lists ──────────────────────────────────────────────────────────
pub record CopiesAsk (e t l : List ℕ) (o : Lists) (n m : ℕ) : Type 0 where
  pub first : CopyAsks t e l n m which.First (length o.first)
  pub i : CopyAsks t e l n m which.I (length o.i)
  pub last : CopyAsks t e l n m which.Last (length o.last)

abbrev pub CopiesGiven : List ℕ → List ℕ → List ℕ → Lists → ℕ → ℕ → Lists → Type 0
CopiesGiven e t l o n m o' = o' ≡ lists_with o (segment_in e t l n m)

-- ── the whole ────────────────────────────────────────────────────────────────
-- jobs that were planned, the words of all blocks from those that were loaded, t₀, and room
pub record WriteAsks (w xs : List ℕ) (b : Rest) (js : List Job) (j s t₀ t x l : List ℕ) (o : Lists) (m n : ℕ) (closes : Bool) : Type 0 where
  pub planned : MeasureAsks w xs b js j s t₀ x l m n
  pub words : t ≡ final_words (E w xs b) js closes t₀ x n
  pub room : room_for (E w xs b) (length l) o (final_said (E w xs b) js closes s x l) ≡ true

abbrev pub WriteAsked : List ℕ → List ℕ → List ℕ → List ℕ → List ℕ → List ℕ → List ℕ → Lists → ℕ → ℕ → Bool → Type 0
WriteAsked w xs j s t x l o m n closes = (b : Rest) × (js : List Job) × (t₀ : List ℕ) × WriteAsks w xs b js j s t₀ t x l o m n closes

-- THE CONTEXT, ITS LIST AND THE THREE LISTS AFTER IT
abbrev pub WriteGiven : List ℕ → List ℕ → List ℕ → List ℕ → List ℕ → List ℕ → List ℕ → List ℕ → List ℕ → Lists → Lists → ℕ → ℕ → Bool → Type 0
WriteGiven w xs j s t x x' l l' o o' m n closes =
    (b : Rest) (js : List Job) (t₀ : List ℕ) → WriteAsks w xs b js j s t₀ t x l o m n closes →
    Written (E w xs b) x l o (final_said (E w xs b) js closes s x l) x' l' o'
