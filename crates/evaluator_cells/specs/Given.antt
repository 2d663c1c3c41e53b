-- WHAT IS GIVEN: the leaves' values as one list of 64-bit words, each value reduced modulo m. Seven words say how many words each section has, in the
-- order cm, const, q, public, challenge, eval, x kinds; the sections follow in that order. cm, const and q have two words for each id, this row's and
-- the next one's; public, challenge and eval have one for each id; the x kinds have one each, in the order of their bytes. What would stand past the end
-- of its section is not given. Assumes nothing: these are definitions.
use Rattle.std.specs.Prelude.{ℕ, zero, suc, ◌+◌, ◌*◌, ◌%◌, Bool, cond, ◌&&◌, List, length, get_or, take, drop, eqb, leb, ltb}
use Rattle.std.proofs.Math.Option.{Option, none, some}
use Rattle.meaning.specs.Trees.{RowKind, FlatKind, XKind}
use Rattle.meaning.specs.Values.{Given}

-- ---- the layout

abbrev pub section_count : ℕ
section_count = 7

-- where section k begins, behind the header and the sections before it
unfoldable pub start_of : List ℕ → ℕ → ℕ
start_of ws zero = section_count
start_of ws (suc k) = start_of ws k + get_or ws k 0

-- the header is there, and the sections end where the words do
unfoldable pub good_values : List ℕ → Bool
good_values ws = leb section_count (length ws) && eqb (start_of ws section_count) (length ws)

unfoldable pub section : List ℕ → ℕ → List ℕ
section ws k = take (get_or ws k 0) (drop (start_of ws k) ws)

pub record Lent : Type 0 where
  pub cm : List ℕ
  pub constants : List ℕ
  pub q : List ℕ
  pub publics : List ℕ
  pub challenges : List ℕ
  pub evals : List ℕ
  pub xs : List ℕ

-- THE SECTIONS of a list of words
abbrev pub lent : List ℕ → Lent
lent ws =
    record {
      cm = section ws 0;
      constants = section ws 1;
      q = section ws 2;
      publics = section ws 3;
      challenges = section ws 4;
      evals = section ws 5;
      xs = section ws 6;
    }

-- ---- the values

abbrev pub row_count : ℕ
row_count = 2

-- the word at i, modulo m
unfoldable pub word_at : ℕ → List ℕ → ℕ → Option ℕ
word_at m l i = cond (ltb i (length l)) (some (get_or l i 0 % m)) none

-- the word of id i at row r
unfoldable pub row_at : ℕ → List ℕ → ℕ → ℕ → Option ℕ
row_at m l i r = cond (ltb r row_count) (word_at m l (row_count * i + r)) none

abbrev pub row_words : Lent → RowKind → List ℕ
row_words g RowKind.cm = g.cm
row_words g RowKind.const = g.constants
row_words g RowKind.q = g.q

abbrev pub flat_words : Lent → FlatKind → List ℕ
flat_words g FlatKind.public = g.publics
flat_words g FlatKind.challenge = g.challenges
flat_words g FlatKind.eval = g.evals

abbrev pub x_no : XKind → ℕ
x_no XKind.x_div_x_sub_xi = 0
x_no XKind.x_div_x_sub_w_xi = 1
x_no XKind.plain_x = 2

-- THE VALUES GIVEN, as running takes them; an x kind's is the same at every row
abbrev pub given : ℕ → Lent → Given ℕ
given m g =
    record {
      cells = λ k i r. row_at m (row_words g k) i r;
      flats = λ k i. word_at m (flat_words g k) i;
      xs = λ k r. word_at m g.xs (x_no k);
    }
