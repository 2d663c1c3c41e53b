-- `degree_rule::reading::decode` meets its contract. Assumes nothing.
use Rattle.degree_rule.proofs.Readings.{low_reads, nothing-reads, bad-reads, over_reads}
use Rattle.degree_rule.proofs.reading.decode.Goals as goal

pub returns-then-code-lt-NOTHING : goal.returns-then-code-lt-NOTHING
returns-then-code-lt-NOTHING c = low_reads c.args.code c.if-code-lt-NOTHING.true

pub returns-then-code-eq-NOTHING : goal.returns-then-code-eq-NOTHING
returns-then-code-eq-NOTHING c = nothing-reads c.args.code c.if-code-lt-NOTHING.false c.if-code-eq-NOTHING.true

pub returns-then-code-eq-BAD_KIND : goal.returns-then-code-eq-BAD_KIND
returns-then-code-eq-BAD_KIND c = bad-reads c.args.code c.if-code-lt-NOTHING.false c.if-code-eq-NOTHING.false c.if-code-eq-BAD_KIND.true

pub returns : goal.returns
returns c = over_reads c.args.code c.if-code-lt-NOTHING.false c.if-code-eq-NOTHING.false c.if-code-eq-BAD_KIND.false
