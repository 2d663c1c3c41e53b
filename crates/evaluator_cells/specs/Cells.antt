-- Cells as numbers, and the table of those that a list has written: keys in the order of first writing, found by chains of cells with one id.
-- Assumes nothing: these are definitions.
use Rattle.std.specs.Prelude.{ℕ, zero, suc, ◌+◌, ◌*◌, ◌-◌, ◌%◌, ◌<◌, ◌≤◌, ◌≡◌, Bool, cond, ◌||◌, List, length, get_or, set, eqb, Option, Some, None}
use Rattle.kinds.specs.KindBytes as kind
use Rattle.kinds.specs.declared.reference.Reference.{Reference}
use Rattle.evaluator_cells.specs.declared.cells.Cells.{Cells}

-- a list may write so many cells
abbrev pub cell_limit : ℕ
cell_limit = 16384

abbrev pub id_limit : ℕ
id_limit = 65536

-- ---- keys

unfoldable pub key_no : ℕ → ℕ → ℕ → ℕ
key_no k r i = (k * 2 + r) * id_limit + i

-- a temporary is its number
unfoldable pub place_no : Reference → ℕ
place_no x = cond (eqb x.kind kind.tmp) (key_no kind.tmp 0 x.id) (key_no x.kind x.prime x.id)

unfoldable pub id_in : ℕ → ℕ
id_in key = key % id_limit

-- the kinds that a step may write
unfoldable pub writable_no : ℕ → Bool
writable_no k =
    eqb k kind.cm || (eqb k kind.exp || (eqb k kind.q || (eqb k kind.tmp || (eqb k kind.f || eqb k kind.tmp_exp))))

-- ---- the number of a key

abbrev pub or_else : Option ℕ → Option ℕ → Option ℕ
or_else (Some k) other = Some k
or_else None other = other

-- among the first n
unfoldable pub index_of : List ℕ → ℕ → ℕ → Option ℕ
index_of ks zero key = None
index_of ks (suc n) key = or_else (index_of ks n key) (cond (eqb (get_or ks n 0) key) (Some n) None)

-- ---- chains

-- Heads and nexts are numbers plus one. Each chain has the cells of one id, from the last to the first; no key stands twice.
pub record Chained (hs ns ks : List ℕ) (n : ℕ) : Type 0 where
  pub few : n ≤ cell_limit
  pub head_size : length hs ≡ id_limit
  pub next_size : length ns ≡ cell_limit
  pub key_size : length ks ≡ cell_limit
  pub head_below : (b : ℕ) → get_or hs b 0 ≤ n
  pub head_same : (b : ℕ) → b < id_limit → 0 < get_or hs b 0 → id_in (get_or ks (get_or hs b 0 - 1) 0) ≡ b
  pub head_last : (j : ℕ) → j < n → j < get_or hs (id_in (get_or ks j 0)) 0
  pub next_below : (i : ℕ) → i < n → get_or ns i 0 ≤ i
  pub next_same : (i : ℕ) → i < n → 0 < get_or ns i 0 → id_in (get_or ks (get_or ns i 0 - 1) 0) ≡ id_in (get_or ks i 0)
  pub next_last : (j i : ℕ) → j < i → i < n → id_in (get_or ks j 0) ≡ id_in (get_or ks i 0) → j < get_or ns i 0
  pub apart : (i j : ℕ) → i < n → j < n → get_or ks i 0 ≡ get_or ks j 0 → i ≡ j

abbrev pub FindAsked : List ℕ → List ℕ → List ℕ → Type 0
FindAsked hs ns ks = (n : ℕ) × Chained hs ns ks n

-- one cell more, after the others
pub record Adds (t : Cells) (key value : ℕ) (t' : Cells) : Type 0 where
  pub heads : t'.heads ≡ set t.heads (id_in key) (t.count + 1)
  pub nexts : t'.nexts ≡ set t.nexts t.count (get_or t.heads (id_in key) 0)
  pub keys : t'.keys ≡ set t.keys t.count key
  pub values : t'.values ≡ set t.values t.count value
  pub count : t'.count ≡ t.count + 1
