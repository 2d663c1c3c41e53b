-- `degree_search::admitted::search_admitted` meets its contract: each need is one lemma of proofs/Questions.antt. Assumes nothing.
use mathlib.Core.Path.{refl}
use Rattle.degree_search.proofs.Questions.{no_identity, no_bits, no-expression, range, choose-asks, chosen}
use Rattle.degree_search.proofs.admitted.search_admitted.Goals as goal

pub returns-then-identities-eq0 : goal.returns-then-identities-eq0
returns-then-identities-eq0 c = λ l rank a. rw c.into.ensures (no_identity a c.args.identities.now c.args.n_bits c.args.n_bits_ext c.args.limit c.args.chosen.now c.if-identities-eq0.true)

pub returns-then-not-bits_ok : goal.returns-then-not-bits_ok
returns-then-not-bits_ok c = λ l rank a. rw c.into-then-not-bits_ok.ensures (no_bits a c.args.identities.now c.args.n_bits c.args.n_bits_ext c.args.limit c.args.chosen.now c.if-identities-eq0.false c.bits_ok.ensures c.if-not-bits_ok.true)

pub returns-then-not-all_below : goal.returns-then-not-all_below
returns-then-not-all_below c = λ l rank a. rw c.into-then-not-all_below.ensures (no-expression a c.args.identities.now c.args.n_bits c.args.n_bits_ext c.args.limit c.args.chosen.now c.if-identities-eq0.false c.bits_ok.ensures c.if-not-bits_ok.false c.all_below.ensures c.if-not-all_below.true)

pub fill-requires : goal.fill-requires
fill-requires c = (refl, c.requires)

pub overflow_sub-n_bits_ext : goal.overflow_sub-n_bits_ext
overflow_sub-n_bits_ext c = (range c.requires.2 c.args.identities.now c.args.n_bits c.args.n_bits_ext c.args.limit c.args.chosen.now c.if-identities-eq0.false c.bits_ok.ensures c.if-not-bits_ok.false c.all_below.ensures).0

pub last_limit-last-requires : goal.last_limit-last-requires
last_limit-last-requires c = (range c.requires.2 c.args.identities.now c.args.n_bits c.args.n_bits_ext c.args.limit c.args.chosen.now c.if-identities-eq0.false c.bits_ok.ensures c.if-not-bits_ok.false c.all_below.ensures).1

pub choose-requires : goal.choose-requires
choose-requires c = let P = c.requires in (P.0, c.args.n, P.1, choose-asks P.2 c.args.identities.now c.args.n_bits c.args.n_bits_ext c.args.limit c.args.chosen.now c.if-identities-eq0.false c.bits_ok.ensures c.if-not-bits_ok.false c.all_below.ensures c.if-not-all_below.false (c.fill.ensures P.0 P.1 P.2) refl c.last_limit-last.ensures)

pub returns : goal.returns
returns c = λ l rank a. chosen a c.args.identities.now c.args.n_bits c.args.n_bits_ext c.args.limit c.args.chosen.now c.if-identities-eq0.false c.bits_ok.ensures c.if-not-bits_ok.false c.all_below.ensures c.if-not-all_below.false (c.fill.ensures l rank a) refl c.last_limit-last.ensures (c.choose.ensures l c.args.n rank (choose-asks a c.args.identities.now c.args.n_bits c.args.n_bits_ext c.args.limit c.args.chosen.now c.if-identities-eq0.false c.bits_ok.ensures c.if-not-bits_ok.false c.all_below.ensures c.if-not-all_below.false (c.fill.ensures l rank a) refl c.last_limit-last.ensures))
