-- An entry of a context's block table as it stands in a list of bytes, and the laws of reading and writing entries.
-- Assumes nothing.
use Rattle.std.specs.Prelude.{◌≡◌, refl, List, ◌++◌, ℕ, ◌+◌, length}
use Rattle.std.proofs.Common.{add-zero, div-add-mod', arith}
use Rattle.kinds.specs.Records.{Same, Layout}
use Rattle.kinds.specs.BigEndian.{u16_at, u16_bytes, u16-part}
use Rattle.context.specs.declared.layout.Entry.{Entry}

abbrev pub entry_size : ℕ
entry_size = 6

-- from an index on: expression, prime and steps
unfoldable pub entry_at : List ℕ → ℕ → Entry
entry_at l i = record { expression = u16_at l i; prime = u16_at l (i + 2); steps = u16_at l (i + 4) }

unfoldable pub entry_bytes : Entry → List ℕ
entry_bytes e = u16_bytes e.expression ++ u16_bytes e.prime ++ u16_bytes e.steps

pub entry-sized : (e : Entry) → length (entry_bytes e) ≡ entry_size
unfolding entry_bytes u16_bytes
entry-sized e = refl

pub entry-same : (l : List ℕ) (i : ℕ) (m : List ℕ) (j : ℕ) → Same entry_size l i m j → entry_at l i ≡ entry_at m j
unfolding entry_at
entry-same l i m j h =
    let first : u16_at l i ≡ u16_at m j = simp add-zero at (u16-part 6 l i m j 0 (omega arith) h) in
    cc (u16-part 6 l i m j 2 (omega arith) h, u16-part 6 l i m j 4 (omega arith) h)

pub entry-back : (e : Entry) → entry_at (entry_bytes e) 0 ≡ e
unfolding entry_at entry_bytes u16_at u16_bytes
entry-back e = simp div-add-mod'

abbrev pub entry_layout : Layout Entry
entry_layout = record { size = entry_size; at = entry_at; words = entry_bytes; sized = entry-sized; same = entry-same; back = entry-back }
