-- The loops over the block table: words read, steps added up, entries written.
-- Assumes nothing.
use Prim.Native.Nat.{ℕ, ◌+◌, ◌≤◌, ◌<◌}
use mathlib.Core.Path.{◌≡◌, refl, sym, ◌∙◌, ap}
use mathlib.Core.List.{List, [], ◌∷◌, ◌++◌}
use native.Mathlib.Omega.{arith}
use native.Mathlib.Numerals.{add-one}
use lib.ListN.{length, get_or, set}
use lib.Seq.{slice, slice-cons, slice_empty}
use Rattle.kinds.specs.Write.{write, write-none, write_then, write-length}
use Rattle.context.specs.declared.layout.Entry.{Entry}
use Rattle.context.specs.Entries.{entry_bytes, entry-sized}
use Rattle.context.specs.Context.{place_of, blocks_in, entry_in, steps_before}
use Rattle.context.specs.Tables.{word_of, entry_of, words_in, words-length, table_bytes, with_blocks}
use Rattle.context.proofs.Copies.{write-more}

-- ── words ────────────────────────────────────────────────────────────────────
pub words-none : (l x : List ℕ) → l ≡ write l 0 (words_in x 0)
unfolding words_in
words-none l x = sym (write-none l 0)

pub words_more : (l l' x : List ℕ) (k v : ℕ) → l' ≡ write l 0 (words_in x k) → v ≡ word_of (entry_in x k) → set l' k v ≡ write l 0 (words_in x (k + 1))
unfolding words_in
words_more l l' x k v e f =
    let g : 0 + length (words_in x k) ≡ k = rw (words-length x k) (omega arith) in
    rw (e, add-one, f) (write-more l 0 (words_in x k) k (word_of (entry_in x k)) g)

pub words-all : (l l' x : List ℕ) (k n : ℕ) → n ≡ blocks_in x → k ≤ n → n ≤ k → l' ≡ write l 0 (words_in x k) → l' ≡ write l 0 (words_in x (blocks_in x))
words-all l l' x k n e h g q = let z : k ≡ blocks_in x = omega arith in q ∙ ap (λ (i : ℕ). write l 0 (words_in x i)) z

-- ── steps ────────────────────────────────────────────────────────────────────
pub steps-more : (x : List ℕ) (k s : ℕ) (e : Entry) → s ≡ steps_before x k → e ≡ entry_in x k → s + e.steps ≡ steps_before x (k + 1)
steps-more x k s e p q = rw (add-one, p, q)

pub steps_all : (x : List ℕ) (k n s : ℕ) → n ≡ blocks_in x → k ≤ n → n ≤ k → s ≡ steps_before x k → s ≡ steps_before x (blocks_in x)
steps_all x k n s e h g q = let z : k ≡ blocks_in x = omega arith in q ∙ ap (steps_before x) z

-- ── entries ──────────────────────────────────────────────────────────────────
-- what is left, written after what stands, is the whole
module _ (x₀ words : List ℕ) (from to : ℕ) where
  pub record Left (x : List ℕ) (k : ℕ) : Type 0 where
    pub size : length x ≡ length x₀
    pub ahead : from ≤ k
    pub inside : k ≤ to
    pub whole : write x (place_of k) (table_bytes (slice k to words)) ≡ with_blocks x₀ words from to

  pub all_left : from ≤ to → Left x₀ from
  all_left h = record { size = refl; ahead = omega arith; inside = h; whole = refl }

  pub less_left : (x x' : List ℕ) (k : ℕ) (e : Entry) → to ≤ length words → Left x k → k < to → e ≡ entry_of (get_or words k 0) → x' ≡ write x (place_of k) (entry_bytes e) → Left x' (k + 1)
  unfolding table_bytes
  less_left x x' k e f q h r p = record {
    size = ap length p ∙ write-length x (place_of k) (entry_bytes e) ∙ q.size;
    ahead = let a = q.ahead in omega arith;
    inside = omega arith;
    whole =
        let s : length (entry_bytes e) ≡ 6 = entry-sized e in
        let n : place_of k + length (entry_bytes e) ≡ place_of (k + 1) = omega arith in
        let c : slice k to words ≡ get_or words k 0 ∷ slice (k + 1) to words = rw add-one (slice-cons k to words 0 h f) in
        let g : write x (place_of k) (entry_bytes (entry_of (get_or words k 0)) ++ table_bytes (slice (k + 1) to words)) ≡ with_blocks x₀ words from to = rw c at q.whole in
        rw p (write_then x (place_of k) (entry_bytes e) (place_of (k + 1)) (table_bytes (slice (k + 1) to words)) n ∙ (rw (← r) at g));
  }

  pub none_left : (x : List ℕ) (k : ℕ) → Left x k → to ≤ k → x ≡ with_blocks x₀ words from to
  unfolding table_bytes
  none_left x k q h =
      let i = q.inside in
      let e : k ≡ to = omega arith in
      let s : slice k to words ≡ [] = rw e (slice_empty to words) in
      sym (write-none x (place_of k)) ∙ (rw s at q.whole)
