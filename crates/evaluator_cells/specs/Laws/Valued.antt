-- Laws of the answer's bytes as they are put one after the other.
-- Assumes nothing.
use Rattle.std.specs.Prelude.{ℕ, zero, suc, ◌+◌, ◌*◌, ◌/◌, ◌%◌, ◌≤◌, ◌≡◌, refl, List, [], ◌∷◌, ◌++◌, length, get_or}
use Rattle.std.proofs.Common.{sym, add-one, arith, length-append}
use Rattle.kinds.specs.Write.{write, write-next, write-none}
use Rattle.kinds.specs.BigEndian.{u16_bytes}
use Rattle.output.specs.Output.{u32_bytes, u64_bytes}
use Rattle.evaluator_cells.specs.Keyed.{valued_size, keyed_bytes, keyed_to}
use Rattle.evaluator_cells.specs.Cells.{id_limit}

pub u32_put : {l₁ l₂ : List ℕ} (l : List ℕ) (at x : ℕ) → l₁ ≡ write l at (u16_bytes (x / 0x10000)) → l₂ ≡ write l₁ (at + 2) (u16_bytes (x % 0x10000)) → l₂ ≡ write l at (u32_bytes x)
unfolding u32_bytes u16_bytes
u32_put l at x e f = write-next l at (u16_bytes (x / 0x10000)) (u16_bytes (x % 0x10000)) (at + 2) e f refl

pub u64-put :
    {l₁ l₂ : List ℕ} (l : List ℕ) (at x : ℕ) → l₁ ≡ write l at (u32_bytes (x / 0x100000000)) → l₂ ≡ write l₁ (at + 4) (u32_bytes (x % 0x100000000)) → l₂ ≡ write l at (u64_bytes x)
unfolding u64_bytes u32_bytes u16_bytes
u64-put l at x e f = write-next l at (u32_bytes (x / 0x100000000)) (u32_bytes (x % 0x100000000)) (at + 4) e f refl

pub keyed_put :
    {l₁ l₂ l₃ : List ℕ} (l : List ℕ) (at key v : ℕ) → l₁ ≡ write l at (key / id_limit / 2 ∷ key / id_limit % 2 ∷ []) → l₂ ≡ write l₁ (at + 2) (u16_bytes (key % id_limit))
    → l₃ ≡ write l₂ (at + 4) (u64_bytes v) → l₃ ≡ write l at (keyed_bytes key v)
unfolding keyed_bytes u16_bytes
keyed_put l at key v e f h =
    write-next l at ((key / id_limit / 2 ∷ key / id_limit % 2 ∷ []) ++ u16_bytes (key % id_limit)) (u64_bytes v) (at + 4)
    (write-next l at (key / id_limit / 2 ∷ key / id_limit % 2 ∷ []) (u16_bytes (key % id_limit)) (at + 2) e f refl) h refl

keyed_size : (key v : ℕ) → length (keyed_bytes key v) ≡ valued_size
unfolding keyed_bytes u64_bytes u32_bytes u16_bytes
keyed_size key v = refl

keyed_length : (ks vs : List ℕ) (n : ℕ) → length (keyed_to ks vs n) ≡ valued_size * n
unfolding keyed_to
keyed_length ks vs zero = refl
keyed_length ks vs (suc n) =
    rw (length-append (keyed_to ks vs n) (keyed_bytes (get_or ks n 0) (get_or vs n 0)), keyed_length ks vs n, keyed_size (get_or ks n 0) (get_or vs n 0)) (omega arith)

pub keyed_begin : (l ks vs : List ℕ) → l ≡ write l 0 (keyed_to ks vs 0)
unfolding keyed_to
keyed_begin l ks vs = sym (write-none l 0)

pub keyed_more :
    {l₁ l₂ : List ℕ} (l ks vs : List ℕ) (j : ℕ) → l₁ ≡ write l 0 (keyed_to ks vs j) → l₂ ≡ write l₁ (valued_size * j) (keyed_bytes (get_or ks j 0) (get_or vs j 0))
    → l₂ ≡ write l 0 (keyed_to ks vs (j + 1))
unfolding keyed_to
keyed_more l ks vs j e f =
    rw (add-one j) (write-next l 0 (keyed_to ks vs j) (keyed_bytes (get_or ks j 0) (get_or vs j 0)) (valued_size * j) e f (omega (arith, keyed_length ks vs j)))

pub keyed_end : {l₁ : List ℕ} (l ks vs : List ℕ) (j n : ℕ) → l₁ ≡ write l 0 (keyed_to ks vs j) → j ≤ n → n ≤ j → l₁ ≡ write l 0 (keyed_to ks vs n)
keyed_end l ks vs j n e a b =
    let q : n ≡ j = omega arith in
    rw q e
