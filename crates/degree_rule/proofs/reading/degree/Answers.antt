-- `degree_rule::reading::degree` meets its contract. Assumes nothing.
use Rattle.degree_rule.proofs.Readings.{degree-low, degree-high}
use Rattle.degree_rule.proofs.reading.degree.Goals as goal

pub returns-then-code-lt-NOTHING : goal.returns-then-code-lt-NOTHING
returns-then-code-lt-NOTHING c = degree-low c.args.code c.if-code-lt-NOTHING.true

pub returns : goal.returns
returns c = degree-high c.args.code c.if-code-lt-NOTHING.false
