-- The tables: two words for each node, the second with its children, a word for its literal, and a word for each expression and request. What
-- stands in them at an index, and what is stored. Assumes nothing: these are definitions.
use Rattle.std.specs.Prelude.{Result, cond, List, [], ◌∷◌, ◌++◌, ◌≡◌, ℕ, zero, suc, ◌+◌, ◌*◌, ◌/◌, ◌%◌, ◌<◌, length, get_or, set, eqb}
use Rattle.meaning.specs.Refusals.{Answer, done, refused, ◌then◌}
use Rattle.kinds.specs.declared.refusal.Refused.{Refused}
use Rattle.frames.specs.Frames.{Item, node, expression, request, frame_of}
use Rattle.frames.specs.Order.{Input, node_limit, expression_limit, request_limit, place, count_of, counts_answer}
use Rattle.frames.specs.declared.node.Node.{Node}
use Rattle.frames.specs.declared.rest.Expression.{Expression}
use Rattle.frames.specs.declared.rest.Request.{Request}
use Rattle.frames.specs.declared.count.Counts.{Counts}

-- ---- words

unfoldable pub head_word : Node → ℕ
head_word x = (((x.kind * 256 + x.next) * 65536 + x.id) * 256 + x.count) * 256 + x.sign

unfoldable pub child_word : Node → ℕ
child_word x = (x.c0 * 65536 + x.c1) * 65536 + x.c2

unfoldable pub expression_word : Expression → ℕ
expression_word x = x.root * 256 + x.flags

unfoldable pub request_word : Request → ℕ
request_word x = (x.expression * 256 + x.prime) * 256 + x.muladd

-- ---- what stands at an index

unfoldable pub kind_in : List ℕ → ℕ → ℕ
kind_in nodes n = get_or nodes (2 * n) 0 / 0x10000000000 % 256

unfoldable pub next_in : List ℕ → ℕ → ℕ
next_in nodes n = get_or nodes (2 * n) 0 / 0x100000000 % 256

unfoldable pub id_in : List ℕ → ℕ → ℕ
id_in nodes n = get_or nodes (2 * n) 0 / 0x10000 % 65536

unfoldable pub count_in : List ℕ → ℕ → ℕ
count_in nodes n = get_or nodes (2 * n) 0 / 256 % 256

unfoldable pub sign_in : List ℕ → ℕ → ℕ
sign_in nodes n = get_or nodes (2 * n) 0 % 256

-- the children from 0 to 2
unfoldable pub child_in : List ℕ → ℕ → ℕ → ℕ
child_in nodes n k =
    cond (eqb k 0) (get_or nodes (2 * n + 1) 0 / 0x100000000 % 65536)
    (cond (eqb k 1) (get_or nodes (2 * n + 1) 0 / 0x10000 % 65536)
    (get_or nodes (2 * n + 1) 0 % 65536))

abbrev pub node_in : List ℕ → List ℕ → ℕ → Node
node_in nodes literals n =
    record {
      kind = kind_in nodes n;
      next = next_in nodes n;
      id = id_in nodes n;
      count = count_in nodes n;
      c0 = child_in nodes n 0;
      c1 = child_in nodes n 1;
      c2 = child_in nodes n 2;
      sign = sign_in nodes n;
      magnitude = get_or literals n 0;
    }

unfoldable pub expression_in : List ℕ → ℕ → Expression
expression_in expressions n = record { root = get_or expressions n 0 / 256 % 65536; flags = get_or expressions n 0 % 256 }

unfoldable pub request_in : List ℕ → ℕ → Request
request_in requests n =
    record {
      expression = get_or requests n 0 / 0x10000 % 65536;
      prime = get_or requests n 0 / 256 % 256;
      muladd = get_or requests n 0 % 256;
    }

-- ---- what is stored

unfoldable pub put_node : List ℕ → ℕ → Node → List ℕ
put_node nodes n x = set (set nodes (2 * n) (head_word x)) (2 * n + 1) (child_word x)

pub record Tables : Type 0 where
  pub nodes : List ℕ
  pub literals : List ℕ
  pub expressions : List ℕ
  pub requests : List ℕ

abbrev pub tables : List ℕ → List ℕ → List ℕ → List ℕ → Tables
tables nodes literals expressions requests = record { nodes = nodes; literals = literals; expressions = expressions; requests = requests }

-- the tables have room for as many as there may be
pub record Sized (t : Tables) : Type 0 where
  pub nodes : length t.nodes ≡ 2 * node_limit
  pub literals : length t.literals ≡ node_limit
  pub expressions : length t.expressions ≡ expression_limit
  pub requests : length t.requests ≡ request_limit

-- an item, after those that c counts
abbrev pub put : Tables → Counts → Item → Tables
put t c (node x) = record { nodes = put_node t.nodes c.nodes x; literals = set t.literals c.nodes x.magnitude; expressions = t.expressions; requests = t.requests }
put t c (expression x) = record { nodes = t.nodes; literals = t.literals; expressions = set t.expressions c.expressions (expression_word x); requests = t.requests }
put t c (request x) = record { nodes = t.nodes; literals = t.literals; expressions = t.expressions; requests = set t.requests c.requests (request_word x) }

-- there is room for an item after those that c counts
unfoldable pub Room : Counts → Answer Item → Type 0
Room c (done (node x)) = c.nodes < node_limit
Room c (done (expression x)) = c.expressions < expression_limit
Room c (done (request x)) = c.requests < request_limit
Room c (refused r b) = Unit

-- what an answer gives, and t where it is a refusal
abbrev pub or_else : Answer Tables → Tables → Tables
or_else (done u) t = u
or_else (refused r b) t = t

abbrev pub put_all : Tables → Counts → Answer Item → Tables
put_all t c a = or_else (a then λ x. done (put t c x)) t

-- the tables after a frame: with what it brings, and as they were where it is refused
unfoldable pub take_into : Tables → Counts → List ℕ → Tables
take_into t c f = or_else (frame_of f then λ x. place c x then λ d. done (put t c x)) t

-- ---- what the tables hold

-- the first n of what g gives
unfoldable pub first : {A : Type 0} → (ℕ → A) → ℕ → List A
first g zero = []
first g (suc n) = first g n ++ (g n ∷ [])

unfoldable pub input_in : Tables → Counts → Input
input_in t c =
    record {
      nodes = first (node_in t.nodes t.literals) c.nodes;
      expressions = first (expression_in t.expressions) c.expressions;
      requests = first (request_in t.requests) c.requests;
    }

-- ---- what `take` gives: the counts after the frame, and the tables after it; u is t where it is refused
pub record Takes (t : Tables) (c : Counts) (f : List ℕ) (r : Result Counts Refused) (u : Tables) : Type 0 where
  pub answer : counts_answer r ≡ count_of c f
  pub after : u ≡ take_into t c f
