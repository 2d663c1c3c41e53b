-- WHAT THE CODE DOES, as numbers: temporaries in two tables, and each reference rewritten from them. Laws/Tracks.antt says that it is fixing.
-- Assumes nothing: these are definitions.
use Rattle.std.specs.Prelude.{ℕ, ◌+◌, ◌-◌, ◌≡◌, Bool, false, cond, not, List, [], ◌∷◌, get_or, set, eqb, leb, ltb}
use Rattle.kinds.specs.KindBytes as kind
use Rattle.kinds.specs.declared.reference.Reference.{Reference}
use Rattle.kinds.specs.declared.step.Step.{Step}
use Rattle.lent_lists.specs.Records.{rewritten}
use Rattle.fixing.specs.ProverCode.{last_counter, rule_kind, rule_id, rule_dim, rule_for, placed}

-- ---- new temporaries

unfoldable pub takes_temporary : List ℕ → ℕ → Bool
takes_temporary rules e = cond (eqb (rule_kind (rule_for rules e)) kind.cm) false (not (eqb (rule_kind (rule_for rules e)) kind.tmp_exp))

-- past the last counter, and it stays
abbrev pub over : ℕ
over = 65536

-- a table after expression e, and the counter after it
unfoldable pub table_after : List ℕ → ℕ → ℕ → List ℕ
table_after l e n = cond (eqb (get_or l e 0) 0) (cond (leb last_counter n) l (set l e (n + 1))) l

unfoldable pub counter_after : List ℕ → ℕ → ℕ → ℕ
counter_after l e n = cond (eqb (get_or l e 0) 0) (cond (leb last_counter n) over (n + 1)) n

pub record GiveIs (l : List ℕ) (e n : ℕ) (l' : List ℕ) (n' : ℕ) : Type 0 where
  pub table : l' ≡ table_after l e n
  pub counter : n' ≡ counter_after l e n

pub record Tables : Type 0 where
  pub plain : List ℕ
  pub primed : List ℕ
  pub next : ℕ

abbrev pub tables : List ℕ → List ℕ → ℕ → Tables
tables a b n = record { plain = a; primed = b; next = n }

module _ (rules : List ℕ) where
  unfoldable pub give_reference : Reference → Tables → Tables
  give_reference r t =
      cond (eqb r.kind kind.exp)
      (cond (takes_temporary rules r.id)
      (cond (eqb r.prime 0)
      (tables (table_after t.plain r.id t.next) t.primed (counter_after t.plain r.id t.next))
      (tables t.plain (table_after t.primed r.id t.next) (counter_after t.primed r.id t.next)))
      t)
      t

  unfoldable pub give_used : Bool → Reference → Tables → Tables
  give_used used r t = cond used (give_reference r t) t

  unfoldable pub give_record : Step → Tables → Tables
  give_record x t =
      give_reference x.dest
      (give_used (ltb 2 x.count) x.s2
      (give_used (ltb 1 x.count) x.s1
      (give_used (ltb 0 x.count) x.s0 t)))

  unfoldable pub give_records : List Step → Tables → Tables
  give_records [] t = t
  give_records (x ∷ xs) t = give_records xs (give_record x t)

-- ---- what a reference becomes

unfoldable pub temporary_in : List ℕ → List ℕ → ℕ → ℕ → ℕ
temporary_in plain primed prime e = cond (eqb prime 0) (get_or plain e 0) (get_or primed e 0)

-- from a table's entry
abbrev pub tmp_from : ℕ → Reference → Reference
tmp_from t r =
    cond (eqb t 0) r (record { kind = kind.tmp; prime = r.prime; id = t - 1; dim = r.dim; p = r.p; tree_pos = r.tree_pos; extra = r.id })

module _ (rules : List ℕ) where
  unfoldable pub expression_in : List ℕ → List ℕ → Reference → Reference
  expression_in plain primed r =
      let rule = rule_for rules r.id in
      cond (eqb (rule_kind rule) kind.cm)
      (record { kind = kind.cm; prime = r.prime; id = rule_id rule; dim = r.dim; p = r.p; tree_pos = r.tree_pos; extra = r.extra })
      (cond (eqb (rule_kind rule) kind.tmp_exp)
      (record { kind = kind.tmp_exp; prime = r.prime; id = rule_id rule; dim = rule_dim rule; p = r.p; tree_pos = r.tree_pos; extra = r.extra })
      (tmp_from (temporary_in plain primed r.prime r.id) r))

  module _ (cms plain primed : List ℕ) where
    unfoldable pub reference_in : Reference → Reference
    reference_in r = cond (eqb r.kind kind.cm) (placed cms r) (cond (eqb r.kind kind.exp) (expression_in plain primed r) r)

-- three lists with their records rewritten by f
pub record Rewrites (f : Step → Step) (first i last first' i' last' : List ℕ) : Type 0 where
  pub first_is : first' ≡ rewritten f first
  pub i_is : i' ≡ rewritten f i
  pub last_is : last' ≡ rewritten f last
