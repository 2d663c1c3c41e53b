-- Fixing of records by computation, with every field of a reference, against the Rust's answers.
-- Assumes nothing.
use Rattle.std.specs.Prelude.{ℕ, ◌+◌, ◌*◌, ◌≡◌, refl, List, [], ◌∷◌}
use Rattle.kinds.specs.KindBytes as kind
use Rattle.kinds.specs.OpBytes as op
use Rattle.kinds.specs.StepOps.{is_step, sources_needed}
use Rattle.kinds.specs.Range.{within}
use Rattle.kinds.specs.References.{blank_ref, plain_ref}
use Rattle.kinds.specs.declared.reference.Reference.{Reference}
use Rattle.kinds.specs.declared.step.Step.{Step}
use Rattle.fixed_meaning.specs.Fixing.{begin}
use Rattle.lent_lists.specs.Verdicts.{no_rule, not_there}
use Rattle.lent_lists.specs.Records.{runs, record_by, used_by, mapped}
use Rattle.lent_lists.specs.Walks.{walked, used_verdict, record_verdict}
use Rattle.fixing.specs.ProverCode.{rule_kind, rule_id, rule_dim, rule_for, plan_of, ruled_reference, meet_reference, meet_used, meet_record, meet_records, fix_reference, fix_record}

abbrev no_origin : ℕ
no_origin = 0xffff

abbrev copy : Reference → Reference → Step
copy d s = record { op = op.copy; count = 1; origin = no_origin; dest = d; s0 = s; s1 = blank_ref; s2 = blank_ref }

abbrev add : Reference → Reference → Reference → Step
add d a b = record { op = op.add; count = 2; origin = no_origin; dest = d; s0 = a; s1 = b; s2 = blank_ref }

abbrev e : ℕ → ℕ → Reference
e i prime = plain_ref kind.exp prime i

-- a temporary stores its expression
abbrev t : ℕ → ℕ → ℕ → Reference
t i prime from = record { kind = kind.tmp; prime = prime; id = i; dim = 0; p = 0; tree_pos = 0; extra = from }

abbrev rule : ℕ → ℕ → ℕ → ℕ
rule k id dim = k * 0x100000000 + id * 0x10000 + dim

abbrev fixed_from : List ℕ → List ℕ → ℕ → List Step → List Step
fixed_from rules cms counter xs = mapped (fix_record rules cms (meet_records (plan_of rules) xs (begin counter)).map) xs

-- `exp0 = add exp1 exp1'` at counter 4 becomes `tmp6 = add tmp4 tmp5'`
pub sources-first : fixed_from [] [] 4 (add (e 0 0) (e 1 0) (e 1 1) ∷ []) ≡ add (t 6 0 0) (t 4 0 1) (t 5 1 1) ∷ []
unfolding mapped record_by used_by meet_records meet_record meet_used meet_reference fix_reference rule_for rule_kind rule_id rule_dim
sources-first = refl

-- expression 0 is an intermediate, cm 7, whose p stays 0; expression 1 has column 3 and dimension 3; cm0's record is 9
pub other-kinds :
    fixed_from (rule kind.cm 7 0 ∷ rule kind.tmp_exp 3 3 ∷ []) (9 ∷ []) 0 (copy (e 0 1) (plain_ref kind.cm 0 0) ∷ copy (e 1 1) (e 0 1) ∷ [])
    ≡ copy (plain_ref kind.cm 1 7) (record { kind = kind.cm; prime = 0; id = 0; dim = 0; p = 9; tree_pos = 0; extra = 0 })
    ∷ copy (record { kind = kind.tmp_exp; prime = 1; id = 3; dim = 3; p = 0; tree_pos = 0; extra = 0 }) (plain_ref kind.cm 1 7)
    ∷ []
unfolding mapped record_by used_by meet_records meet_record meet_used meet_reference fix_reference rule_for rule_kind rule_id rule_dim
other-kinds = refl

-- an expression that no pool has gets a temporary
pub no_such_expression : fixed_from [] [] 0 (copy (e 600 0) (e 500 0) ∷ []) ≡ copy (t 1 0 600) (t 0 0 500) ∷ []
unfolding mapped record_by used_by meet_records meet_record meet_used meet_reference fix_reference rule_for rule_kind rule_id rule_dim
no_such_expression = refl

-- Z has no rule, and a cm past the table is not there
pub z-has-no-rule : walked (record_verdict (ruled_reference [])) (copy (e 0 0) (plain_ref kind.Z 0 0) ∷ []) ≡ no_rule
unfolding walked record_verdict used_verdict ruled_reference runs is_step sources_needed within
z-has-no-rule = refl

pub cm-is-not-there : walked (record_verdict (ruled_reference (9 ∷ []))) (copy (e 0 0) (plain_ref kind.cm 0 0) ∷ copy (e 0 0) (plain_ref kind.cm 0 1) ∷ []) ≡ not_there
unfolding walked record_verdict used_verdict ruled_reference runs is_step sources_needed within
cm-is-not-there = refl
