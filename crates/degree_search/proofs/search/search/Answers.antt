-- `degree_search::search::search` meets its contract: each need is one lemma of proofs/Questions.antt. Assumes nothing.
use Rattle.std.proofs.lemmas.Result.{err_from_is_err_and}
use Rattle.degree_search.specs.Searching.{asking}
use Rattle.degree_search.proofs.Questions.{read_fits, stopped-run, ran-run}
use Rattle.degree_search.proofs.search.search.Goals as goal

pub search_pool-requires : goal.search_pool-requires
search_pool-requires c = read_fits c.fill.ensures c.in_ok-c.was

pub returns-in_err-c : goal.returns-in_err-c
returns-in_err-c c = λ vc. let p = err_from_is_err_and c.from_residual.result c.from_residual.ensures.1 in rw (p.1, p.2) (stopped-run c.fill.ensures (asking c.args.identities.now vc c.args.n_bits c.args.n_bits_ext c.args.limit) c.in_err-c.was c.args.chosen.now)

pub returns : goal.returns
returns c = λ vc. ran-run c.fill.ensures (asking c.args.identities.now vc c.args.n_bits c.args.n_bits_ext c.args.limit) c.in_ok-c.was (c.search_pool.ensures _ vc)
