-- FIXING A SEGMENT FOR THE PROVER, over records: what is refused, which new temporaries there are, and what each reference becomes.
-- Assumes nothing: these are definitions.
use Rattle.std.specs.Prelude.{ℕ, ◌/◌, ◌%◌, Bool, cond, not, ◌&&◌, List, [], ◌∷◌, length, get_or, eqb, leb, ltb}
use Rattle.std.proofs.Math.Option.{Option, none, some}
use Rattle.kinds.specs.KindBytes as kind
use Rattle.kinds.specs.Range.{within}
use Rattle.kinds.specs.declared.reference.Reference.{Reference}
use Rattle.kinds.specs.declared.step.Step.{Step}
use Rattle.fixed_meaning.specs.Fixing.{Plan, Map, Fixing, begin, grow}
use Rattle.lent_lists.specs.Verdicts.{Verdict, malformed, not_there, no_rule, full, first_of, only, if_fine}
use Rattle.lent_lists.specs.Records.{segment_in, good_lists, record_by, rewritten}
use Rattle.lent_lists.specs.Walks.{walked, record_verdict}

-- the largest counter, a number of 16 bits
abbrev pub last_counter : ℕ
last_counter = 65535

-- ---- what an expression becomes

-- a rule is kind, id and dimension in one number
unfoldable pub rule_kind : ℕ → ℕ
rule_kind rule = rule / 0x100000000

unfoldable pub rule_id : ℕ → ℕ
rule_id rule = rule / 0x10000 % 0x10000

unfoldable pub rule_dim : ℕ → ℕ
rule_dim rule = rule % 0x10000

-- a pool has at most 512 expressions; one past them has no rule
abbrev pub expression_limit : ℕ
expression_limit = 512

unfoldable pub rule_for : List ℕ → ℕ → ℕ
rule_for rules e = cond (ltb e expression_limit) (get_or rules e 0) 0

abbrev pub id_where : ℕ → ℕ → Option ℕ
id_where k rule = cond (eqb (rule_kind rule) k) (some (rule_id rule)) none

-- the plan: a rule of kind cm is an intermediate's cm number, one of kind tmp_exp a temporary column
abbrev pub plan_of : List ℕ → Plan
plan_of rules = record { im = λ e. id_where kind.cm (rule_for rules e); column = λ e. id_where kind.tmp_exp (rule_for rules e) }

-- ---- refusals 10 and 3

module _ (cms : List ℕ) where
  -- tree1 to tree4 and Z have no rule (10), and a cm needs a record in this domain (3)
  unfoldable pub ruled_reference : Reference → Verdict
  ruled_reference r =
      cond (eqb r.kind kind.cm) (only (ltb r.id (length cms)) not_there)
      (only (not (within kind.tree1 kind.Z r.kind)) no_rule)

-- ---- new temporaries

module _ (L : Plan) where
  -- one for each (prime, expression), unless it needs none
  unfoldable pub meet_reference : Reference → Fixing → Fixing
  meet_reference r s = cond (eqb r.kind kind.exp) (grow (L.im r.id) (L.column r.id) (s.map r.id r.prime) r.id r.prime s) s

  unfoldable pub meet_used : Bool → Reference → Fixing → Fixing
  meet_used used r s = cond used (meet_reference r s) s

  -- sources before the destination
  unfoldable pub meet_record : Step → Fixing → Fixing
  meet_record x s =
      meet_reference x.dest
      (meet_used (ltb 2 x.count) x.s2
      (meet_used (ltb 1 x.count) x.s1
      (meet_used (ltb 0 x.count) x.s0 s)))

  unfoldable pub meet_records : List Step → Fixing → Fixing
  meet_records [] s = s
  meet_records (x ∷ xs) s = meet_records xs (meet_record x s)

-- ---- what a reference becomes

-- An intermediate's cm keeps p; a temporary column takes the expression's dimension; a new temporary stores its expression. The prime stays.
abbrev pub fix_expression : Option ℕ → Option ℕ → Option ℕ → ℕ → Reference → Reference
fix_expression (some c) k t d r =
    record { kind = kind.cm; prime = r.prime; id = c; dim = r.dim; p = r.p; tree_pos = r.tree_pos; extra = r.extra }
fix_expression none (some k) t d r =
    record { kind = kind.tmp_exp; prime = r.prime; id = k; dim = d; p = r.p; tree_pos = r.tree_pos; extra = r.extra }
fix_expression none none (some t) d r =
    record { kind = kind.tmp; prime = r.prime; id = t; dim = r.dim; p = r.p; tree_pos = r.tree_pos; extra = r.id }
fix_expression none none none d r = r

-- a cm's p is its record in this domain
abbrev pub placed : List ℕ → Reference → Reference
placed cms r =
    record { kind = kind.cm; prime = r.prime; id = r.id; dim = r.dim; p = get_or cms r.id 0; tree_pos = r.tree_pos; extra = r.extra }

module _ (rules cms : List ℕ) (m : Map) where
  unfoldable pub fix_reference : Reference → Reference
  fix_reference r =
      let rule = rule_for rules r.id in
      cond (eqb r.kind kind.cm) (placed cms r)
      (cond (eqb r.kind kind.exp) (fix_expression ((plan_of rules).im r.id) ((plan_of rules).column r.id) (m r.id r.prime) (rule_dim rule) r) r)

  abbrev pub fix_record : Step → Step
  fix_record x = record_by fix_reference x

-- ---- the whole

module _ (cms : List ℕ) (counter : ℕ) (first i last : List ℕ) where
  -- 1 over the counter and all three lists, then 10 and 3 as the walk over first, i, last meets them
  unfoldable pub decided : Verdict
  decided = first_of (only (leb counter last_counter && good_lists first i last) malformed) (walked (record_verdict (ruled_reference cms)) (segment_in first i last))

module _ (rules : List ℕ) (counter : ℕ) (first i last : List ℕ) where
  -- the temporaries of the whole segment
  unfoldable pub temporaries : Fixing
  temporaries = meet_records (plan_of rules) (segment_in first i last) (begin counter)

module _ (rules cms : List ℕ) (counter : ℕ) (first i last : List ℕ) where
  -- THE VERDICT: 9 comes last
  unfoldable pub prover_verdict : Verdict
  prover_verdict = first_of (decided cms counter first i last) (only (leb (temporaries rules counter first i last).next last_counter) full)

  -- A LIST AFTER IT: rewritten by the temporaries of the whole segment, and as it was on a refusal
  unfoldable pub list_after : List ℕ → List ℕ
  list_after l = if_fine prover_verdict (rewritten (fix_record rules cms (temporaries rules counter first i last).map) l) l
