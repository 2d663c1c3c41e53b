-- `degree_search::search::search_pool` meets its contract: each need is one lemma of proofs/Questions.antt. Assumes nothing.
use mathlib.Core.Path.{refl}
use mathlib.Core.List.{[]}
use Rattle.std.specs.Prelude.{Err}
use Rattle.std.proofs.lemmas.Result.{err_from_is_err_and}
use Rattle.degree_search.specs.Searching.{asking}
use Rattle.degree_search.proofs.Questions.{judged_as, refused-pool, rank, admitted-world, searched-pool, pool-fits}
use Rattle.degree_search.proofs.search.search_pool.Goals as goal

pub admit-requires : goal.admit-requires
admit-requires c = pool-fits c.requires

pub search_admitted-requires : goal.search_admitted-requires
search_admitted-requires c = let v = judged_as c.args.nodes.now c.args.expressions.now c.args.c c.requires [] (c.admit.ensures []) refl c.in_ok-admit.was in ([], rank c.args.nodes.now c.args.expressions.now c.args.c c.requires [] v, admitted-world c.args.nodes.now c.args.expressions.now c.args.c c.requires [] v)

pub returns-in_err-admit : goal.returns-in_err-admit
returns-in_err-admit c = λ l vc. let p = err_from_is_err_and c.from_residual.result c.from_residual.ensures.1 in rw (p.1, p.2) (refused-pool c.args.nodes.now c.args.expressions.now c.args.c c.requires l (judged_as c.args.nodes.now c.args.expressions.now c.args.c c.requires l (c.admit.ensures l) refl c.in_err-admit.was) (asking c.args.identities.now vc c.args.n_bits c.args.n_bits_ext c.args.limit) c.args.chosen.now (Err _) refl)

pub returns : goal.returns
returns c = λ l vc. let v = judged_as c.args.nodes.now c.args.expressions.now c.args.c c.requires l (c.admit.ensures l) refl c.in_ok-admit.was in searched-pool c.args.nodes.now c.args.expressions.now c.args.c c.requires l v (asking c.args.identities.now vc c.args.n_bits c.args.n_bits_ext c.args.limit) (c.search_admitted.ensures l (rank c.args.nodes.now c.args.expressions.now c.args.c c.requires l v) (admitted-world c.args.nodes.now c.args.expressions.now c.args.c c.requires l v) vc)
