-- What is wrong with a frame, as document 01 says it: one constructor for each condition of row 1, and of row 9 for a pool.
-- Assumes nothing: these are definitions.
use Rattle.std.specs.Prelude.{◌≡◌, true, false, cond, List, [], ◌∷◌, ◌++◌, map, ◌⊎◌, ℕ, ◌^◌, ◌≤◌, ◌<◌, length, eqb}
use Rattle.kinds.specs.Kinds.{is_node_kind, carries_id, takes_i64}
use Rattle.frames.specs.Nodes.{type_byte, kind_byte, next_byte, id_field, count_byte, sign_field, magnitude_field, node_size, node_from}
use Rattle.frames.specs.Rest.{flags_byte, prime_byte, muladd_byte, expression_from, request_from}
use Rattle.frames.specs.Order.{Input, node_limit, expression_limit, request_limit}

-- ---- ROW 1: a malformed frame

pub data Malformed (f : List ℕ) : Type 0 where
  -- nothing there: an empty frame, or one that is cut off
  empty : length f ≡ 0 → Malformed f
  unknown_type : (type_byte f ≡ 1 → ⊥) → (type_byte f ≡ 2 → ⊥) → (type_byte f ≡ 3 → ⊥) → Malformed f
  -- a node: too short to have a child count
  no_head : type_byte f ≡ 1 → length f < 6 → Malformed f
  unknown_kind : type_byte f ≡ 1 → is_node_kind (kind_byte f) ≡ false → Malformed f
  wrong_next : type_byte f ≡ 1 → 1 < next_byte f → Malformed f
  unused_id : type_byte f ≡ 1 → carries_id (kind_byte f) ≡ false → (id_field f ≡ 0 → ⊥) → Malformed f
  -- not the length that its own child count and kind give
  wrong_length : type_byte f ≡ 1 → (length f ≡ node_size (kind_byte f) (count_byte f) → ⊥) → Malformed f
  wrong_sign : type_byte f ≡ 1 → 1 < sign_field f → Malformed f
  minus_zero : type_byte f ≡ 1 → sign_field f ≡ 1 → magnitude_field f ≡ 0 → Malformed f
  -- the literal of an addc or a mulc, above or below the i64 range
  too_large : type_byte f ≡ 1 → takes_i64 (kind_byte f) ≡ true → sign_field f ≡ 0 → 2 ^ 63 ≤ magnitude_field f → Malformed f
  too_small : type_byte f ≡ 1 → takes_i64 (kind_byte f) ≡ true → sign_field f ≡ 1 → 2 ^ 63 < magnitude_field f → Malformed f
  -- an expression
  expression_length : type_byte f ≡ 2 → (length f ≡ 4 → ⊥) → Malformed f
  wrong_flags : type_byte f ≡ 2 → 7 < flags_byte f → Malformed f
  -- a request
  request_length : type_byte f ≡ 3 → (length f ≡ 5 → ⊥) → Malformed f
  wrong_prime : type_byte f ≡ 3 → 1 < prime_byte f → Malformed f
  wrong_muladd : type_byte f ≡ 3 → 1 < muladd_byte f → Malformed f

-- ---- a frame after others

-- the frames of type k, in order
unfoldable pub of_type : ℕ → List (List ℕ) → List (List ℕ)
of_type k [] = []
of_type k (f ∷ fs) = cond (eqb (type_byte f) k) (f ∷ of_type k fs) (of_type k fs)

-- ROW 1: nodes, then expressions, then requests
pub data OutOfOrder (before : List (List ℕ)) (f : List ℕ) : Type 0 where
  node_after_expression : type_byte f ≡ 1 → 0 < length (of_type 2 before) → OutOfOrder before f
  node_after_request : type_byte f ≡ 1 → 0 < length (of_type 3 before) → OutOfOrder before f
  expression_after_request : type_byte f ≡ 2 → 0 < length (of_type 3 before) → OutOfOrder before f

-- ROW 9: there are as many before as there may be
pub data PastLimit (before : List (List ℕ)) (f : List ℕ) : Type 0 where
  nodes : type_byte f ≡ 1 → node_limit ≤ length (of_type 1 before) → PastLimit before f
  expressions : type_byte f ≡ 2 → expression_limit ≤ length (of_type 2 before) → PastLimit before f
  requests : type_byte f ≡ 3 → request_limit ≤ length (of_type 3 before) → PastLimit before f

-- what gets 1
abbrev pub Wrong : List (List ℕ) → List ℕ → Type 0
Wrong before f = Malformed f ⊎ OutOfOrder before f

-- what gets 9: it is not wrong, but past a limit
abbrev pub Past : List (List ℕ) → List ℕ → Type 0
Past before f = (Wrong before f → ⊥) × PastLimit before f

abbrev pub Fine : List (List ℕ) → List ℕ → Type 0
Fine before f = (Wrong before f → ⊥) × (PastLimit before f → ⊥)

-- every frame of fs is fine, after those before it
unfoldable pub AllFine : List (List ℕ) → List (List ℕ) → Type 0
AllFine before fs = (m : List (List ℕ)) (f : List ℕ) (r : List (List ℕ)) → fs ≡ m ++ f ∷ r → Fine (before ++ m) f

-- the first frame that is not fine is at fault as P says
pub record First (P : List (List ℕ) → List ℕ → Type 0) (fs : List (List ℕ)) : Type 0 where
  pub before : List (List ℕ)
  pub frame : List ℕ
  pub rest : List (List ℕ)
  pub split : fs ≡ before ++ frame ∷ rest
  pub fine : AllFine [] before
  pub fault : P before frame

-- what frames that are fine bring, in order
unfoldable pub input_from : List (List ℕ) → Input
input_from fs =
    record {
      nodes = map node_from (of_type 1 fs);
      expressions = map expression_from (of_type 2 fs);
      requests = map request_from (of_type 3 fs);
    }
