-- Digits put one after the other are one run of digits, with a line feed after them a line. Over plain lists and numbers.
-- Assumes nothing.
use Prim.Native.Nat.{ℕ, ◌+◌, ◌*◌, ◌/◌, ◌%◌, ◌≤◌, ◌<◌}
use mathlib.Core.Path.{◌≡◌, refl, sym, ◌∙◌, ap}
use mathlib.Core.Bool.{Bool, true, false}
use mathlib.Core.List.{List, [], ◌∷◌, ◌++◌, append-nil, append_assoc}
use native.Mathlib.Omega.{arith}
use lib.ListN.{length, get_or, set, length-append}
use lib.Dec.{eqb}
use mir.Val.{bool_byte}
use borrow.Author.Tests.{le-ltb, lt-ltb, le-leb, lt-leb, eq-eqb, ne_eqb}
use Rattle.kinds.specs.KindBytes as kind
use Rattle.kinds.specs.Kinds.{carries_literal}
use Rattle.kinds.specs.Write.{write, write_two, write-next, write-none}
use Rattle.kinds.specs.declared.reference.Reference.{Reference}
use Rattle.kinds.specs.declared.step.Step.{Step}
use Rattle.meaning.specs.Trees.{Lit, lit}
use Rattle.frames.specs.Order.{node_limit}
use Rattle.frames.specs.Tables.{kind_in, sign_in}
use Rattle.frames.specs.Hexed.{hex_digit, hex_line, line-length}
use Rattle.frames.specs.Text.{line_feed}
use Rattle.output.specs.Output.{sign_byte, lit_out, line}
use Rattle.output.specs.Records.{brought_by, literal_in, cell_bytes, source_bytes, sources_bytes, record_bytes, record_line, Puts, PutsLine}
use Rattle.output.specs.Laws.{hex-append, line-size, cell-size, literal-size, source-size, sources-size}

pub put_two : (l : List ℕ) (at b v w : ℕ) → v ≡ hex_digit (b / 16) → w ≡ hex_digit (b % 16) → set (set l at v) (at + 1) w ≡ write l at (hex_line (b ∷ []))
unfolding hex_line
put_two l at b v w e f = write_two l at v w ∙ rw (e, f)

-- a sign as a byte
pub sign-is : (negative : Bool) → bool_byte negative ≡ sign_byte negative
sign-is true = refl
sign-is false = refl

pub put_next :
    {l₁ l₂ : List ℕ} (l : List ℕ) (at : ℕ) (xs ys : List ℕ) (j : ℕ) → l₁ ≡ write l at (hex_line xs) → l₂ ≡ write l₁ j (hex_line ys)
    → at + 2 * length xs ≡ j → l₂ ≡ write l at (hex_line (xs ++ ys))
put_next l at xs ys j e f g =
    let k : at + length (hex_line xs) ≡ j = omega (arith, line-length xs) in
    rw (hex-append xs ys) (write-next l at (hex_line xs) (hex_line ys) j e f k)

-- a line feed after them
pub put-feed :
    {l₁ : List ℕ} (l xs : List ℕ) (j : ℕ) → l₁ ≡ write l 0 (hex_line xs) → 2 * length xs ≡ j → PutsLine l (line xs) (set l₁ j line_feed) (j + 1)
unfolding line write
put-feed {l₁} l xs j e g =
    let n : length (line xs) ≡ 2 * length xs + 1 = line-size xs in
    let k : 0 + length (hex_line xs) ≡ j = omega (arith, line-length xs) in
    record { list = write-next l 0 (hex_line xs) (line_feed ∷ []) j e refl k; size = omega arith }

-- ---- runs of bytes that end where they say

pub puts_none : (l : List ℕ) (at : ℕ) → Puts l at [] l at
unfolding hex_line
puts_none l at = record { list = sym (write-none l at); next = omega arith }

pub puts-next :
    {l₁ l₂ : List ℕ} (l : List ℕ) (at : ℕ) (xs ys : List ℕ) (j k : ℕ) → Puts l at xs l₁ j → Puts l₁ j ys l₂ k → Puts l at (xs ++ ys) l₂ k
puts-next l at xs ys j k p q =
    let n : length (xs ++ ys) ≡ length xs + length ys = length-append xs ys in
    record { list = put_next l at xs ys j p.list q.list (sym p.next); next = omega (arith, p.next, q.next) }

-- ---- a literal

pub minus-none : (nodes literals : List ℕ) (n : ℕ) → node_limit ≤ n → lit false 0 ≡ literal_in nodes literals n
unfolding literal_in
minus-none nodes literals n h = rw (le-ltb n node_limit h)

module _ (nodes literals : List ℕ) (n k : ℕ) (h : n < node_limit) (e : k ≡ kind_in nodes n) where
  pub literal-brought :
      (b : Bool) → b ≡ carries_literal k → b ≡ true → (v : ℕ) → v ≡ sign_in nodes n → lit (eqb v 1) (get_or literals n 0) ≡ literal_in nodes literals n
  unfolding literal_in brought_by
  literal-brought b p q v f =
      let z : carries_literal (kind_in nodes n) ≡ true = ap carries_literal (sym e) ∙ sym p ∙ q in
      rw (lt-ltb n node_limit h, z, f)

  pub literal-not : (b : Bool) → b ≡ carries_literal k → b ≡ false → lit false 0 ≡ literal_in nodes literals n
  unfolding literal_in brought_by
  literal-not b p q =
      let z : carries_literal (kind_in nodes n) ≡ false = ap carries_literal (sym e) ∙ sym p ∙ q in
      rw (lt-ltb n node_limit h, z)

-- ---- sources

module _ (nodes literals : List ℕ) where
  module _ {l₁ : List ℕ} (l : List ℕ) (at : ℕ) (r : Reference) (e : l₁ ≡ write l at (hex_line (cell_bytes r))) where
    pub source-plain : (r.kind ≡ kind.number → ⊥) → Puts l at (source_bytes nodes literals r) l₁ (at + 8)
    unfolding source_bytes
    source-plain h =
        let z : eqb r.kind kind.number ≡ false = ne_eqb _ _ h in
        rw (z, append-nil (cell_bytes r)) (record { list = e; next = omega (arith, cell-size r) })

    pub source-number :
        {l₂ : List ℕ} → r.kind ≡ kind.number → (x : Lit) → x ≡ literal_in nodes literals r.extra → l₂ ≡ write l₁ (at + 8) (hex_line (lit_out x))
        → Puts l at (source_bytes nodes literals r) l₂ (at + 8 + 18)
    unfolding source_bytes
    source-number h x q f =
        let z : eqb r.kind kind.number ≡ true = eq-eqb _ _ h in
        let y = literal_in nodes literals r.extra in
        let n : length (cell_bytes r ++ lit_out y) ≡ 13 = simp length-append (omega (arith, cell-size r, literal-size y)) in
        rw z
        (record { list = put_next l at (cell_bytes r) (lit_out y) (at + 8) e (rw q at f) (omega (arith, cell-size r)); next = omega arith })

  -- a source leaves room for the next
  pub source-room : {l l₁ : List ℕ} (at : ℕ) (r : Reference) (j : ℕ) → Puts l at (source_bytes nodes literals r) l₁ j → j ≤ at + 26
  source-room at r j p = omega (arith, p.next, source-size nodes literals r)

  module _ (s : Step) (l : List ℕ) (at : ℕ) where
    pub sources-none : s.count < 1 → Puts l at (sources_bytes nodes literals s) l at
    unfolding sources_bytes
    sources-none h =
        let b : s.count < 2 = omega arith in
        let c : s.count < 3 = omega arith in
        rw (lt-leb 1 s.count h, lt-leb 2 s.count b, lt-leb 3 s.count c) (puts_none l at)

    module _ {l₁ : List ℕ} (i : ℕ) (p : Puts l at (source_bytes nodes literals s.s0) l₁ i) where
      pub sources-one : 1 ≤ s.count → s.count < 2 → Puts l at (sources_bytes nodes literals s) l₁ i
      unfolding sources_bytes
      sources-one a h =
          let c : s.count < 3 = omega arith in
          rw (le-leb 1 s.count a, lt-leb 2 s.count h, lt-leb 3 s.count c) (simp append-nil p)

      module _ {l₂ : List ℕ} (j : ℕ) (q : Puts l₁ i (source_bytes nodes literals s.s1) l₂ j) where
        pub sources-two : 2 ≤ s.count → s.count < 3 → Puts l at (sources_bytes nodes literals s) l₂ j
        unfolding sources_bytes
        sources-two b h =
            let a : 1 ≤ s.count = omega arith in
            rw (le-leb 1 s.count a, le-leb 2 s.count b, lt-leb 3 s.count h)
            (simp append-nil (puts-next l at (source_bytes nodes literals s.s0) (source_bytes nodes literals s.s1) i j p q))

        pub sources-three :
            {l₃ : List ℕ} (k : ℕ) → Puts l₂ j (source_bytes nodes literals s.s2) l₃ k → 3 ≤ s.count → Puts l at (sources_bytes nodes literals s) l₃ k
        unfolding sources_bytes
        sources-three k r d =
            let a : 1 ≤ s.count = omega arith in
            let b : 2 ≤ s.count = omega arith in
            let A = source_bytes nodes literals s.s0 in
            let B = source_bytes nodes literals s.s1 in
            rw (le-leb 1 s.count a, le-leb 2 s.count b, le-leb 3 s.count d)
            (puts-next l at (A ++ B) (source_bytes nodes literals s.s2) j k (puts-next l at A B i j p q) r)

  -- ---- the line

  -- the sources end before the line feed's place
  pub sources-room : {l l₁ : List ℕ} (at : ℕ) (s : Step) (j : ℕ) → Puts l at (sources_bytes nodes literals s) l₁ j → j ≤ at + 78
  sources-room at s j p = omega (arith, p.next, sources-size nodes literals s)

  pub line-put :
      {l₁ l₂ l₃ l₄ : List ℕ} (l : List ℕ) (s : Step) (j : ℕ) → l₁ ≡ write l 0 (hex_line (s.op ∷ [])) → l₂ ≡ write l₁ 2 (hex_line (cell_bytes s.dest))
      → l₃ ≡ write l₂ 10 (hex_line (s.count ∷ [])) → Puts l₃ 12 (sources_bytes nodes literals s) l₄ j
      → PutsLine l (record_line nodes literals s) (set l₄ j line_feed) (j + 1)
  unfolding record_line record_bytes
  line-put l s j e f g p =
      let d = cell_bytes s.dest in
      let m : length d ≡ 4 = cell-size s.dest in
      let n : length (s.op ∷ d) ≡ 5 = omega arith in
      let k : length ((s.op ∷ d) ++ (s.count ∷ [])) ≡ 6 = simp length-append (omega arith) in
      let a = put_next l 0 (s.op ∷ []) d 2 e f refl in
      let b = put_next l 0 (s.op ∷ d) (s.count ∷ []) 10 a g (omega arith) in
      let q = put_next l 0 ((s.op ∷ d) ++ (s.count ∷ [])) (sources_bytes nodes literals s) 12 b p.list (omega arith) in
      let z : ((s.op ∷ d) ++ (s.count ∷ [])) ++ sources_bytes nodes literals s ≡ (s.op ∷ d) ++ (s.count ∷ sources_bytes nodes literals s)
      = append_assoc (s.op ∷ d) (s.count ∷ []) (sources_bytes nodes literals s) in
      let t : length ((s.op ∷ d) ++ (s.count ∷ sources_bytes nodes literals s)) ≡ 6 + length (sources_bytes nodes literals s) = simp length-append (omega arith) in
      put-feed l ((s.op ∷ d) ++ (s.count ∷ sources_bytes nodes literals s)) j (rw z at q) (omega (arith, p.next))
