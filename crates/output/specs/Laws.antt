-- Laws of the lines: digits of a list, lengths, and the longest line.
-- Assumes nothing.
use Rattle.std.specs.Prelude.{ℕ, ◌+◌, ◌*◌, ◌≤◌, ◌≡◌, refl, Bool, List, [], ◌∷◌, ◌++◌, take, drop, eqb, leb}
use Rattle.std.proofs.Common.{sym, append-nil, append_assoc, arith, take_at}
use Rattle.std.proofs.Math.Bool.{true, false, cond}
use Rattle.std.proofs.Math.ListN.{length, length-append}
use Rattle.kinds.specs.KindBytes as kind
use Rattle.kinds.specs.BigEndian.{u16_bytes}
use Rattle.kinds.specs.Write.{write, write-is}
use Rattle.kinds.specs.declared.reference.Reference.{Reference}
use Rattle.kinds.specs.declared.step.Step.{Step}
use Rattle.meaning.specs.Trees.{Lit, lit}
use Rattle.meaning.specs.Steps as meaning
use Rattle.frames.specs.Hexed.{hex_line, line-length}
use Rattle.output.specs.Output.{u32_bytes, u64_bytes, lit_out, cell_out, line, step_line, list_lines, counter_line, refusal_line}
use Rattle.output.specs.Records.{line_size, literal_in, cell_bytes, source_bytes, sources_bytes, record_bytes, record_line, record_lines, PutsLine}

-- ---- digits

pub hex-append : (xs ys : List ℕ) → hex_line (xs ++ ys) ≡ hex_line xs ++ hex_line ys
unfolding hex_line
hex-append [] ys = refl
hex-append (x ∷ xs) ys = rw (hex-append xs ys)

pub line-size : (xs : List ℕ) → length (line xs) ≡ 2 * length xs + 1
unfolding line
line-size xs = simp length-append (omega (arith, line-length xs))

-- ---- many lines

pub list-lines-append : (xs ys : List meaning.Step) → list_lines (xs ++ ys) ≡ list_lines xs ++ list_lines ys
unfolding list_lines
list-lines-append [] ys = refl
list-lines-append (x ∷ xs) ys = rw (list-lines-append xs ys) (sym (append_assoc (step_line x) (list_lines xs) (list_lines ys)))

pub record-lines-append :
    (nodes literals : List ℕ) (xs ys : List Step) → record_lines nodes literals (xs ++ ys) ≡ record_lines nodes literals xs ++ record_lines nodes literals ys
unfolding record_lines
record-lines-append nodes literals [] ys = refl
record-lines-append nodes literals (x ∷ xs) ys =
    rw (record-lines-append nodes literals xs ys)
    (sym (append_assoc (record_line nodes literals x) (record_lines nodes literals xs) (record_lines nodes literals ys)))

pub record-lines-one : (nodes literals : List ℕ) (x : Step) → record_lines nodes literals (x ∷ []) ≡ record_line nodes literals x
unfolding record_lines
record-lines-one nodes literals x = append-nil (record_line nodes literals x)

-- WHAT A LINE PUT AT THE FRONT LEAVES THERE is the text, where there is room for it
pub put_front : {l text l' : List ℕ} {r : ℕ} → PutsLine l text l' r → length text ≤ length l → take r l' ≡ text
put_front {l} {text} {l'} {r} p h =
    let z : take (length text) (write l 0 text) ≡ text
    = rw (write-is l 0 text (omega arith)) (take_at text (drop (0 + length text) l) (length text) refl) in
    rw (p.size, p.list) z

-- ---- how long each part is

pub cell-size : (r : Reference) → length (cell_bytes r) ≡ 4
unfolding cell_out u16_bytes
cell-size r = refl

pub literal-size : (l : Lit) → length (lit_out l) ≡ 9
unfolding lit_out u64_bytes u32_bytes u16_bytes
literal-size (lit b n) = refl

module _ (nodes literals : List ℕ) where
  pub source-size : (r : Reference) → length (source_bytes nodes literals r) ≤ 13
  unfolding source_bytes
  source-size r = by (eqb r.kind kind.number)
    where
      by : (b : Bool) → length (cell_bytes r ++ cond b (lit_out (literal_in nodes literals r.extra)) []) ≤ 13
      by true = simp length-append (omega (arith, cell-size r, literal-size (literal_in nodes literals r.extra)))
      by false = simp length-append (omega (arith, cell-size r))

  maybe_size : (b : Bool) (r : Reference) → length (cond b (source_bytes nodes literals r) []) ≤ 13
  maybe_size true r = source-size r
  maybe_size false r = omega arith

  pub sources-size : (s : Step) → length (sources_bytes nodes literals s) ≤ 39
  unfolding sources_bytes
  sources-size s =
      simp length-append
      (omega (arith, maybe_size (leb 1 s.count) s.s0, maybe_size (leb 2 s.count) s.s1, maybe_size (leb 3 s.count) s.s2))

  -- NO LINE IS LONGER than the room lent
  pub record-fits : (s : Step) → length (record_line nodes literals s) ≤ line_size
  unfolding record_line record_bytes
  record-fits s =
      let n : length (s.op ∷ cell_bytes s.dest ++ (s.count ∷ sources_bytes nodes literals s)) ≤ 45 = simp length-append (omega (arith, cell-size s.dest, sources-size s)) in
      omega (arith, line-size (s.op ∷ cell_bytes s.dest ++ (s.count ∷ sources_bytes nodes literals s)))

pub counter-fits : (t : ℕ) → length (counter_line t) ≤ line_size
unfolding counter_line u16_bytes
counter-fits t = omega (arith, line-size (0xfe ∷ u16_bytes t))

pub refusal-fits : (n : ℕ) → length (refusal_line n) ≤ line_size
unfolding refusal_line
refusal-fits n = omega (arith, line-size (0xff ∷ n ∷ []))
