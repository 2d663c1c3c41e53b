-- Blocks of tables with the closing product or without: their words, their steps, and their bytes. No word of the code.
-- Assumes nothing.
use Prim.Native.Nat.{ℕ, zero, suc, ◌+◌, ◌*◌, ◌-◌, ◌<◌, ◌≤◌}
use mathlib.Core.Path.{◌≡◌, refl, ◌∙◌, ap}
use mathlib.Core.Bool.{Bool, true, false}
use mathlib.Core.List.{List}
use native.Mathlib.Omega.{arith}
use lib.ListN.{length, get_or, drop, length-set}
use Rattle.kinds.specs.Steps.{step_size}
use Rattle.frames.specs.Tables.{first}
use Rattle.builds.specs.Raw.{steps_in, start_of, raw_blocks, every}
use Rattle.builds.specs.Starts.{start-next}
use Rattle.builds.specs.Results.{GrowAsks}
use Rattle.codegen.specs.Written.{raw-steps}
use Rattle.constraint_pieces.specs.Closed.{grown, closed_list, grown-start, closed-count, closed-put}
use Rattle.constraint_pieces.proofs.Closes.{closed-size, closed-past}
use Rattle.constraint_lists.specs.Lists.{closed_blocks}
use Rattle.constraint_lists.specs.Measuring.{closed_words, closed_more, CloseWordsAsks}
use Rattle.constraint_lists.specs.Writing.{closed_bytes, CloseListAsks}

-- ── words ────────────────────────────────────────────────────────────────────
pub words_size : (closes : Bool) (t : List ℕ) (n : ℕ) → length (closed_words closes t n) ≡ length t
words_size true t zero = refl
words_size true t (suc k) = length-set t k (get_or t k 0 + 1024)
words_size false t n = refl

pub more-few : (closes : Bool) (n : ℕ) → closed_more closes n ≤ 1
more-few true zero = omega arith
more-few true (suc k) = omega arith
more-few false n = omega arith

-- the last is n - 1
pub grow-asks : {t : List ℕ} {n : ℕ} → CloseWordsAsks t n → 0 < n → GrowAsks t (n - 1)
grow-asks {t} {n} a h = record { there = omega (arith, a.few); steps = a.steps (n - 1) (omega arith) }

pub words-closed : (closes : Bool) (t t' : List ℕ) (n : ℕ) → closes ≡ true → 0 < n → t' ≡ grown t (n - 1) → t' ≡ closed_words closes t n
words-closed true t t' zero h g e = absurd (omega arith)
words-closed true t t' (suc k) h g e = let z : suc k - 1 ≡ k = omega arith in e ∙ ap (grown t) z
words-closed false t t' n h g e = absurd (let z : ◌≡◌ {A = ℕ} 0 1 = cc in omega arith)

pub words-none : (closes : Bool) (t : List ℕ) (n : ℕ) → n ≤ 0 → t ≡ closed_words closes t n
words-none true t zero h = refl
words-none true t (suc k) h = absurd (omega arith)
words-none false t n h = refl

pub words_open : (closes : Bool) (t : List ℕ) (n : ℕ) → closes ≡ false → t ≡ closed_words closes t n
words_open true t n h = absurd (let z : ◌≡◌ {A = ℕ} 0 1 = cc in omega arith)
words_open false t n h = refl

pub more-closed : (closes : Bool) (n : ℕ) → closes ≡ true → 0 < n → 1 ≡ closed_more closes n
more-closed true zero h g = absurd (omega arith)
more-closed true (suc k) h g = refl
more-closed false n h g = absurd (let z : ◌≡◌ {A = ℕ} 0 1 = cc in omega arith)

pub more-none : (closes : Bool) (n : ℕ) → n ≤ 0 → 0 ≡ closed_more closes n
more-none true zero h = refl
more-none true (suc k) h = absurd (omega arith)
more-none false n h = refl

pub more_open : (closes : Bool) (n : ℕ) → closes ≡ false → 0 ≡ closed_more closes n
more_open true n h = absurd (let z : ◌≡◌ {A = ℕ} 0 1 = cc in omega arith)
more_open false n h = refl

-- ── bytes ────────────────────────────────────────────────────────────────────
pub bytes-closed : (closes : Bool) (n : ℕ) (l l' : List ℕ) (end : ℕ) → closes ≡ true → 0 < n → l' ≡ closed_list l end → l' ≡ closed_bytes closes n l end
bytes-closed true zero l l' end h g e = absurd (omega arith)
bytes-closed true (suc k) l l' end h g e = e
bytes-closed false n l l' end h g e = absurd (let z : ◌≡◌ {A = ℕ} 0 1 = cc in omega arith)

pub bytes-none : (closes : Bool) (n : ℕ) (l : List ℕ) (end : ℕ) → n ≤ 0 → l ≡ closed_bytes closes n l end
bytes-none true zero l end h = refl
bytes-none true (suc k) l end h = absurd (omega arith)
bytes-none false n l end h = refl

pub bytes_open : (closes : Bool) (n : ℕ) (l : List ℕ) (end : ℕ) → closes ≡ false → l ≡ closed_bytes closes n l end
bytes_open true n l end h = absurd (let z : ◌≡◌ {A = ℕ} 0 1 = cc in omega arith)
bytes_open false n l end h = refl

pub bytes-size : (closes : Bool) (n : ℕ) (l : List ℕ) (end : ℕ) → length (closed_bytes closes n l end) ≡ length l
bytes-size true zero l end = refl
bytes-size true (suc k) l end = closed-size l end
bytes-size false n l end = refl

pub bytes_past : (closes : Bool) (n : ℕ) (l : List ℕ) (end : ℕ) → drop (step_size * (end + closed_more closes n)) (closed_bytes closes n l end) ≡ drop (step_size * (end + closed_more closes n)) l
bytes_past true zero l end = refl
bytes_past true (suc k) l end = closed-past l end
bytes_past false n l end = refl

-- ── blocks ───────────────────────────────────────────────────────────────────
-- n blocks, each with a step
pub record Stepped (t : List ℕ) (n : ℕ) : Type 0 where
  pub few : n ≤ length t
  pub each : (k : ℕ) → k < n → 1 ≤ steps_in (get_or t k 0)

-- where they end
pub final-start : (closes : Bool) (t : List ℕ) (n : ℕ) → Stepped t n → start_of (closed_words closes t n) n ≡ start_of t n + closed_more closes n
final-start true t zero h = omega arith
final-start true t (suc k) h = grown-start t k (omega (arith, h.few)) ∙ omega arith
final-start false t n h = omega arith

-- how many steps they have, whatever the list
pub final-count : (closes : Bool) (t l : List ℕ) (n : ℕ) → Stepped t n → length (every (closed_blocks closes (raw_blocks t l n))) ≡ start_of t n + closed_more closes n
unfolding first
final-count true t l zero h = raw-steps t l 0 ∙ omega arith
final-count true t l (suc k) h = closed-count t k (omega (arith, h.few)) (h.each k (omega arith)) l ∙ omega (arith, raw-steps t l (suc k))
final-count false t l n h = raw-steps t l n ∙ omega arith

-- the product put after them
pub final-blocks :
    (closes : Bool) (t l : List ℕ) (n : ℕ) → Stepped t n → step_size * (start_of t n + closed_more closes n) ≤ length l →
    closed_blocks closes (raw_blocks t l n) ≡ raw_blocks (closed_words closes t n) (closed_bytes closes n l (start_of t n)) n
unfolding first
final-blocks true t l zero h g = refl
final-blocks true t l (suc k) h g = closed-put t k (omega (arith, h.few)) (h.each k (omega arith)) l g
final-blocks false t l n h g = refl

-- what the product asks
pub final-put : (closes : Bool) (t l : List ℕ) (n end : ℕ) → Stepped t n → start_of t n ≡ end → step_size * (end + closed_more closes n) ≤ length l → end ≤ 65535 → CloseListAsks l end n closes
final-put true t l zero end h e g f = λ c z. absurd (omega arith)
final-put true t l (suc k) end h e g f = λ c z. record { some = omega (arith, e, start-next t k, h.each k (omega arith)); few = f; fits = g }
final-put false t l n end h e g f = λ c z. absurd (let y : ◌≡◌ {A = ℕ} 0 1 = cc in omega arith)
