-- A node frame, as document 01 has it: 01, kind, next, id (2 bytes), child count, children (2 bytes each), and for number, addc and mulc a
-- sign and 8 bytes. Assumes nothing: these are definitions.
use Rattle.std.specs.Prelude.{Option, Some, None, Bool, cond, ◌&&◌, ◌||◌, List, ℕ, ◌+◌, ◌*◌, length, get_or, eqb, ltb, leb}
use Rattle.std.proofs.Math.Option.{none}
use Rattle.kinds.specs.Kinds.{is_node_kind, carries_id, carries_literal}
use Rattle.kinds.specs.BigEndian.{u16_at}
use Rattle.kinds.specs.Literals.{is_allowed}
use Rattle.kinds.specs.declared.literal.Literal.{Literal}
use Rattle.meaning.specs.Refusals.{Answer, done, refused, malformed}
use Rattle.frames.specs.declared.node.Node.{Node}

-- eight bytes, the high one first
unfoldable pub u64_at : List ℕ → ℕ → ℕ
u64_at f i = ((u16_at f i * 65536 + u16_at f (i + 2)) * 65536 + u16_at f (i + 4)) * 65536 + u16_at f (i + 6)

abbrev pub type_byte : List ℕ → ℕ
type_byte f = get_or f 0 0

abbrev pub kind_byte : List ℕ → ℕ
kind_byte f = get_or f 1 0

abbrev pub next_byte : List ℕ → ℕ
next_byte f = get_or f 2 0

abbrev pub id_field : List ℕ → ℕ
id_field f = u16_at f 3

abbrev pub count_byte : List ℕ → ℕ
count_byte f = get_or f 5 0

-- a child that is not there is 0
unfoldable pub child_of : List ℕ → ℕ → ℕ → ℕ
child_of f count k = cond (ltb k count) (u16_at f (6 + 2 * k)) 0

-- a literal that is not there is 0
unfoldable pub sign_of : List ℕ → ℕ → ℕ → ℕ
sign_of f kind count = cond (carries_literal kind) (get_or f (6 + 2 * count) 0) 0

unfoldable pub magnitude_of : List ℕ → ℕ → ℕ → ℕ
magnitude_of f kind count = cond (carries_literal kind) (u64_at f (7 + 2 * count)) 0

abbrev pub sign_field : List ℕ → ℕ
sign_field f = sign_of f (kind_byte f) (count_byte f)

abbrev pub magnitude_field : List ℕ → ℕ
magnitude_field f = magnitude_of f (kind_byte f) (count_byte f)

-- the length that a kind and a child count give
unfoldable pub node_size : ℕ → ℕ → ℕ
node_size kind count = 6 + 2 * count + cond (carries_literal kind) 9 0

-- a known kind, next 0 or 1, and an id of 0 where it is not used
unfoldable pub head_ok : ℕ → ℕ → ℕ → Bool
head_ok kind next id = is_node_kind kind && (leb next 1 && (carries_id kind || eqb id 0))

abbrev pub literal_from : ℕ → ℕ → Literal
literal_from sign magnitude = record { negative = eqb sign 1; magnitude = magnitude }

-- a sign 0 or 1, and a literal that the kind may bring: no minus zero, and for addc and mulc one in the i64 range
unfoldable pub literal_ok : ℕ → ℕ → ℕ → Bool
literal_ok kind sign magnitude = leb sign 1 && is_allowed (literal_from sign magnitude) kind

unfoldable pub node_ok : List ℕ → Bool
node_ok f =
    leb 6 (length f)
    && (head_ok (kind_byte f) (next_byte f) (id_field f)
    && (eqb (length f) (node_size (kind_byte f) (count_byte f))
    && literal_ok (kind_byte f) (sign_field f) (magnitude_field f)))

unfoldable pub node_from : List ℕ → Node
node_from f =
    record {
      kind = kind_byte f;
      next = next_byte f;
      id = id_field f;
      count = count_byte f;
      c0 = child_of f (count_byte f) 0;
      c1 = child_of f (count_byte f) 1;
      c2 = child_of f (count_byte f) 2;
      sign = sign_field f;
      magnitude = magnitude_field f;
    }

-- what a frame of type 01 says
unfoldable pub node_of : List ℕ → Answer Node
node_of f = cond (node_ok f) (done (node_from f)) (refused malformed none)

-- what the code answers
abbrev pub node_answer : Option Node → Answer Node
node_answer None = refused malformed none
node_answer (Some x) = done x
