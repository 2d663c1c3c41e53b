-- HOW A SOURCE OF A KIND GETS ITS DIMENSION, and which kinds a step may write.
-- Assumes nothing: these are definitions.
use Rattle.std.specs.Prelude.{ℕ, Bool, cond, ◌||◌, eqb, Option, Some, None}
use Rattle.kinds.specs.Range.{within}
use Rattle.kinds.specs.KindBytes as kind
use Rattle.step_dimensions.specs.declared.rule.Rule.{Rule}
use Rattle.step_dimensions.specs.declared.rule.Rule.TheVariants as of

-- ---- the rules, by number
abbrev pub none : ℕ
none = 0

-- what the last step that wrote the temporary gave it
abbrev pub temporary : ℕ
temporary = 1

-- the dimension that the reference brings
abbrev pub own : ℕ
own = 2

-- that of a record, by the number of a column
abbrev pub column : ℕ
column = 3

-- that of a record, by the number of a quotient
abbrev pub quotient : ℕ
quotient = 4

abbrev pub one : ℕ
one = 5

abbrev pub three : ℕ
three = 6

-- the pass's own
abbrev pub x : ℕ
x = 7

-- that of a kind that has one
abbrev pub rule_number : Option Rule → ℕ
rule_number None = none
rule_number (Some of.Temporary) = temporary
rule_number (Some of.Own) = own
rule_number (Some of.Column) = column
rule_number (Some of.Quotient) = quotient
rule_number (Some of.One) = one
rule_number (Some of.Three) = three
rule_number (Some of.X) = x

-- exp, f and a byte that is no kind have no rule
unfoldable pub rule_no : ℕ → ℕ
rule_no k =
    cond (eqb k kind.tmp) temporary
    (cond (eqb k kind.tmp_exp || within kind.tree1 kind.tree4 k) own
    (cond (eqb k kind.cm) column
    (cond (eqb k kind.q) quotient
    (cond (eqb k kind.const || (within kind.number kind.public k || eqb k kind.Zi)) one
    (cond (within kind.challenge kind.eval k || eqb k kind.Z) three
    (cond (within kind.x_div_x_sub_xi kind.x k) x none))))))

-- tmp, exp, cm, q, tmp_exp and f
unfoldable pub is_destination : ℕ → Bool
is_destination k =
    eqb k kind.cm || (within kind.exp kind.q k || within kind.tmp kind.tmp_exp k)
