-- `degree_search::choose::choose` meets its contract: each need is one lemma of proofs/Choices.antt. Assumes nothing.
use mathlib.Core.Path.{refl}
use native.Mathlib.Omega.{arith}
use Rattle.std.proofs.lemmas.Result.{err_from_is_err_and}
use Rattle.degree_search.proofs.Keeping.{fresh-is, ready-is}
use Rattle.degree_search.proofs.Choices.{trying_first, tried-as, all-asks, met-refused, trying_on}
use Rattle.degree_search.proofs.choose.choose.Goals as goal
use Rattle.degree_search.proofs.choose.choose.Goals.{else-loop-d-test, then-loop-d-test+in_ok-here+else-d-last}

pub loop-d-init : goal.loop-d-init
loop-d-init c = λ l n rank a. trying_first a c.args.limit (fresh-is c.args.limit (omega arith))

pub candidate-requires : goal.candidate-requires
candidate-requires c = let P = c.requires in (P.0, P.1, P.2, all-asks P.3 c.args.limit (c.loop-d.invariant P.0 P.1 P.2 P.3) c.loop-d-test.true (ready-is c.loop-d.tally (c.loop-d.invariant P.0 P.1 P.2 P.3).whole c.loop-d.d))

pub returns-in_err-here : goal.returns-in_err-here
returns-in_err-here c = λ l n rank a. let p = err_from_is_err_and c.from_residual.result c.from_residual.ensures.1 in rw (p.1, p.2) (met-refused a c.args.limit (c.loop-d.invariant l n rank a) c.loop-d-test.true (ready-is c.loop-d.tally (c.loop-d.invariant l n rank a).whole c.loop-d.d) (c.candidate.ensures l n rank (all-asks a c.args.limit (c.loop-d.invariant l n rank a) c.loop-d-test.true (ready-is c.loop-d.tally (c.loop-d.invariant l n rank a).whole c.loop-d.d)) refl) c.in_err-here.was c.args.chosen.now)

pub keep-kept-requires : goal.keep-kept-requires
keep-kept-requires c = let l = c.requires.0 in let n = c.requires.1 in let rank = c.requires.2 in let a = c.requires.3 in ((c.loop-d.invariant l n rank a).good, (c.candidate.ensures l n rank (all-asks a c.args.limit (c.loop-d.invariant l n rank a) c.loop-d-test.true (ready-is c.loop-d.tally (c.loop-d.invariant l n rank a).whole c.loop-d.d)) refl 0).good)

pub loop-d-smaller : goal.loop-d-smaller
loop-d-smaller c = omega (arith, c.loop-d-test.true)

pub loop-d-preserved : goal.loop-d-preserved
loop-d-preserved c = λ l n rank a. trying_on a c.args.limit (c.loop-d.invariant l n rank a) c.loop-d-test.true (ready-is c.loop-d.tally (c.loop-d.invariant l n rank a).whole c.loop-d.d) (c.candidate.ensures l n rank (all-asks a c.args.limit (c.loop-d.invariant l n rank a) c.loop-d-test.true (ready-is c.loop-d.tally (c.loop-d.invariant l n rank a).whole c.loop-d.d)) refl) c.in_ok-here.was c.keep-kept.ensures

pub returns : goal.returns
returns c = λ l n rank a. elim c.loop-d-test.branch [
  | else-loop-d-test w ↦ tried-as a c.args.limit (c.loop-d.invariant l n rank a) w.best-is w.kept-is w.tally-is w.loop-d-test.false c.finish.ensures
  | then-loop-d-test+in_ok-here+else-d-last w ↦ tried-as a c.args.limit (trying_on a c.args.limit (c.loop-d.invariant l n rank a) w.loop-d-test.true (ready-is c.loop-d.tally (c.loop-d.invariant l n rank a).whole c.loop-d.d) (w.candidate.ensures l n rank (all-asks a c.args.limit (c.loop-d.invariant l n rank a) w.loop-d-test.true (ready-is c.loop-d.tally (c.loop-d.invariant l n rank a).whole c.loop-d.d)) refl) w.in_ok-here.was w.keep-kept.ensures) w.best-is w.kept-is w.tally-is (omega arith) c.finish.ensures
]
