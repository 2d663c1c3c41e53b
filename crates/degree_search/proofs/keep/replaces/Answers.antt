-- `degree_search::keep::replaces` meets its contract. Assumes nothing.
use Rattle.degree_search.proofs.Keeping.{replaces-zero, replaces_by}
use Rattle.degree_search.proofs.keep.replaces.Goals as goal

pub returns-then-q-eq0 : goal.returns-then-q-eq0
returns-then-q-eq0 c = replaces-zero c.args.kept c.args.size c.args.degree c.args.kept_size c.quotient-q.ensures c.if-q-eq0.true

pub lighter-requires : goal.lighter-requires
lighter-requires c = c.requires

pub returns : goal.returns
returns c = replaces_by c.args.kept c.args.size c.args.degree c.args.kept_size c.quotient-q.ensures c.if-q-eq0.false c.quotient.ensures c.lighter.ensures
