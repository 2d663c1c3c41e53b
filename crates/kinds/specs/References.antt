-- A reference as it stands in a list of bytes, and the laws of reading and writing one.
-- Assumes nothing.
use Rattle.std.specs.Prelude.{◌≡◌, refl, List, [], ◌∷◌, ◌++◌, ℕ, ◌+◌, ◌≤◌, length, get_or}
use Rattle.std.proofs.Common.{add-zero, div-add-mod', arith}
use Rattle.kinds.specs.KindBytes as kind
use Rattle.kinds.specs.Write.{write}
use Rattle.kinds.specs.Records.{Same, Apart, Layout, put-read, put-kept}
use Rattle.kinds.specs.BigEndian.{u16_at, u16_bytes, u16-part}
use Rattle.kinds.specs.declared.reference.Reference.{Reference}

abbrev pub reference_size : ℕ
reference_size = 12

unfoldable pub ref_at : List ℕ → ℕ → Reference
ref_at l i =
    record {
      kind = get_or l i 0;
      prime = get_or l (i + 1) 0;
      id = u16_at l (i + 2);
      dim = u16_at l (i + 4);
      p = u16_at l (i + 6);
      tree_pos = u16_at l (i + 8);
      extra = u16_at l (i + 10);
    }

unfoldable pub ref_bytes : Reference → List ℕ
ref_bytes r =
    (r.kind ∷ r.prime ∷ [])
    ++ u16_bytes r.id
    ++ u16_bytes r.dim
    ++ u16_bytes r.p
    ++ u16_bytes r.tree_pos
    ++ u16_bytes r.extra

-- as emission makes one of any other kind than number: what fixing and the dimension pass fill in is 0
abbrev pub plain_ref : ℕ → ℕ → ℕ → Reference
plain_ref k prime id = record { kind = k; prime = prime; id = id; dim = 0; p = 0; tree_pos = 0; extra = 0 }

-- to the literal that a node brought
abbrev pub number_ref : ℕ → Reference
number_ref node = record { kind = kind.number; prime = 0; id = 0; dim = 0; p = 0; tree_pos = 0; extra = node }

-- a source that a step does not use
abbrev pub blank_ref : Reference
blank_ref = plain_ref 0 0 0

pub ref-sized : (r : Reference) → length (ref_bytes r) ≡ reference_size
unfolding ref_bytes u16_bytes
ref-sized r = refl

pub ref-same : (l : List ℕ) (i : ℕ) (m : List ℕ) (j : ℕ) → Same reference_size l i m j → ref_at l i ≡ ref_at m j
unfolding ref_at Same
ref-same l i m j h =
    let h0 : get_or l i 0 ≡ get_or m j 0 = simp add-zero at (h 0 (omega arith)) in
    let part : (a : ℕ) → a + 2 ≤ 12 → u16_at l (i + a) ≡ u16_at m (j + a) = λ a g. u16-part 12 l i m j a g h in
    cc (h 1 (omega arith), part 2 (omega arith), part 4 (omega arith), part 6 (omega arith), part 8 (omega arith), part 10 (omega arith))

pub ref_back : (r : Reference) → ref_at (ref_bytes r) 0 ≡ r
unfolding ref_at ref_bytes u16_at u16_bytes
ref_back r = simp div-add-mod'

abbrev pub ref_layout : Layout Reference
ref_layout = record { size = reference_size; at = ref_at; words = ref_bytes; sized = ref-sized; same = ref-same; back = ref_back }

-- a reference that is put is read back
pub ref-read : (l : List ℕ) (i : ℕ) (r : Reference) → i + reference_size ≤ length l → ref_at (write l i (ref_bytes r)) i ≡ r
ref-read = put-read ref_layout

-- and any other is as it was
pub ref-kept : (l : List ℕ) (i : ℕ) (ws : List ℕ) (j : ℕ) → Apart i (length ws) j reference_size → ref_at (write l i ws) j ≡ ref_at l j
ref-kept = put-kept ref_layout
