-- An expression frame and a request frame, as document 01 has them: 02, root (2 bytes), flags; 03, expression (2 bytes), prime, muladd.
-- Assumes nothing: these are definitions.
use Rattle.std.specs.Prelude.{Option, Some, None, Bool, cond, ◌&&◌, List, ℕ, length, get_or, eqb, leb}
use Rattle.std.proofs.Math.Option.{none}
use Rattle.kinds.specs.BigEndian.{u16_at}
use Rattle.meaning.specs.Refusals.{Answer, done, refused, malformed}
use Rattle.frames.specs.declared.rest.Expression.{Expression}
use Rattle.frames.specs.declared.rest.Request.{Request}

abbrev pub flags_byte : List ℕ → ℕ
flags_byte f = get_or f 3 0

abbrev pub prime_byte : List ℕ → ℕ
prime_byte f = get_or f 3 0

abbrev pub muladd_byte : List ℕ → ℕ
muladd_byte f = get_or f 4 0

unfoldable pub expression_ok : List ℕ → Bool
expression_ok f = eqb (length f) 4 && leb (flags_byte f) 7

unfoldable pub expression_from : List ℕ → Expression
expression_from f = record { root = u16_at f 1; flags = flags_byte f }

-- what a frame of type 02 says
unfoldable pub expression_of : List ℕ → Answer Expression
expression_of f = cond (expression_ok f) (done (expression_from f)) (refused malformed none)

abbrev pub expression_answer : Option Expression → Answer Expression
expression_answer None = refused malformed none
expression_answer (Some x) = done x

unfoldable pub request_ok : List ℕ → Bool
request_ok f = eqb (length f) 5 && (leb (prime_byte f) 1 && leb (muladd_byte f) 1)

unfoldable pub request_from : List ℕ → Request
request_from f = record { expression = u16_at f 1; prime = prime_byte f; muladd = muladd_byte f }

-- what a frame of type 03 says
unfoldable pub request_of : List ℕ → Answer Request
request_of f = cond (request_ok f) (done (request_from f)) (refused malformed none)

abbrev pub request_answer : Option Request → Answer Request
request_answer None = refused malformed none
request_answer (Some x) = done x
