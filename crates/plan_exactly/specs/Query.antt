-- THE QUERY CODE'S WALK BY A PLAN: which cm is not there. The theorems on it, exactly when the walk refuses, are those of proofs/Query.antt.
-- Assumes nothing: this is a definition.
use Rattle.std.specs.Prelude.{ℕ, ◌≤◌, ◌≡◌, List}
use Rattle.kinds.specs.KindBytes as kind
use Rattle.kinds.specs.declared.reference.Reference.{Reference}
use Rattle.plans.specs.Agreement.{cm_count}

-- a cm that is not in the plan
abbrev pub NoCm : List ℕ → Reference → Type 0
NoCm b r = (r.kind ≡ kind.cm) × (cm_count b ≤ r.id)
