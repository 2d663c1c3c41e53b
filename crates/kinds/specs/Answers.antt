-- What the code's refusals say: document 01's refusal, and the node to blame.
-- Assumes nothing: these are definitions.
use Rattle.std.specs.Prelude.{ℕ, Option, Some, None, Result, Ok, Err}
use Rattle.std.proofs.Math.Option as option
use Rattle.meaning.specs.Refusals as spec
use Rattle.kinds.specs.declared.refusal.Refusal.{Refusal}
use Rattle.kinds.specs.declared.refusal.Refusal.TheVariants as refusal
use Rattle.kinds.specs.declared.refusal.Refused.{Refused}

-- WHAT Refusal SAYS
abbrev pub refusal_of : Refusal → spec.Refusal
refusal_of refusal.Malformed = spec.malformed
refusal_of refusal.ChildCount = spec.child_count
refusal_of refusal.NotThere = spec.not_there
refusal_of refusal.Cycle = spec.cycle
refusal_of refusal.DoublePrime = spec.double_prime
refusal_of refusal.SearchKind = spec.search_kind
refusal_of refusal.NoPrimedMark = spec.no_primed_mark
refusal_of refusal.NoBlock = spec.no_block
refusal_of refusal.Full = spec.full
refusal_of refusal.NoRule = spec.no_rule
refusal_of refusal.Counts = spec.counts
refusal_of refusal.NoDimension = spec.no_dimension
refusal_of refusal.NoSet = spec.no_set
refusal_of refusal.NoQuotient = spec.no_quotient
refusal_of refusal.Visits = spec.visits
refusal_of refusal.Bits = spec.bits
refusal_of refusal.NoIdentity = spec.no_identity

-- the node to blame, where there is one
abbrev pub blame_of : Option ℕ → option.Option ℕ
blame_of (Some n) = option.some n
blame_of None = option.none

-- WHAT A Result SAYS: done, or refused with the node to blame
abbrev pub answer_of : {A : Type 0} → Result A Refused → spec.Answer A
answer_of (Ok a) = spec.done a
answer_of (Err f) = spec.refused (refusal_of f.refusal) (blame_of f.node)

-- the same where no node is ever to blame
abbrev pub plain_answer_of : {A : Type 0} → Result A Refusal → spec.Answer A
plain_answer_of (Ok a) = spec.done a
plain_answer_of (Err r) = spec.refused (refusal_of r) option.none

abbrev pub blaming_node : Refusal → ℕ → Refused
blaming_node r n = record { refusal = r; node = Some n }

abbrev pub blaming_none : Refusal → Refused
blaming_none r = record { refusal = r; node = None }

-- refused, and no node is to blame
abbrev pub refusing : {A : Type 0} → Refusal → Result A Refused
refusing r = Err (blaming_none r)
