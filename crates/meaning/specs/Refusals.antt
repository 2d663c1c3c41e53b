-- Document 01's refusals, each with its number, and an answer that is a value or a refusal with the node to blame.
-- Assumes nothing: these are definitions.
use Rattle.std.specs.Prelude.{ℕ}
use Rattle.std.proofs.Math.Option.{Option}

pub data Refusal : Type 0 where
  malformed : Refusal
  child_count : Refusal
  not_there : Refusal
  cycle : Refusal
  double_prime : Refusal
  search_kind : Refusal
  no_primed_mark : Refusal
  no_block : Refusal
  full : Refusal
  no_rule : Refusal
  counts : Refusal
  no_dimension : Refusal
  no_set : Refusal
  no_quotient : Refusal
  visits : Refusal
  bits : Refusal
  no_identity : Refusal

-- the number of its row in document 01's table
abbrev pub number : Refusal → ℕ
number malformed = 1
number child_count = 2
number not_there = 3
number cycle = 4
number double_prime = 5
number search_kind = 6
number no_primed_mark = 7
number no_block = 8
number full = 9
number no_rule = 10
number counts = 11
number no_dimension = 12
number no_set = 13
number no_quotient = 14
number visits = 15
number bits = 16
number no_identity = 17

-- A refusal carries the node to blame, where there is one.
pub data Answer (A : Type 0) : Type 0 where
  done : A → Answer A
  refused : Refusal → Option ℕ → Answer A

-- THE NUMBER OF AN ANSWER: 0 where it is done, else the refusal's. Every promise about an answer's number uses this.
abbrev pub answer_no : {A : Type 0} → Answer A → ℕ
answer_no (done a) = 0
answer_no (refused r n) = number r

-- what follows is asked only where the answer is done
abbrev pub ◌then◌ : {A B : Type 0} → Answer A → (A → Answer B) → Answer B
◌then◌ (done a) f = f a
◌then◌ (refused r n) f = refused r n

infixl 20 ◌then◌
