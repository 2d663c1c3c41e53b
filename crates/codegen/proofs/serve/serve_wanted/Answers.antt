-- `codegen::serve::serve_wanted` meets its contract: each need is one lemma of proofs/Judges.antt.
-- Assumes nothing.
use native.Mathlib.Omega.{arith}
use Rattle.codegen.proofs.Judges.{plain-told, some-request, wanted-asks, wanted-told}
use Rattle.codegen.proofs.serve.serve_wanted.Goals as goal

pub returns-then-w-eq-NO_KIND : goal.returns-then-w-eq-NO_KIND
returns-then-w-eq-NO_KIND c = λ b A a good. plain-told a _ c.if-w-eq-NO_KIND.true (c.serve_plain.ensures b A a)

pub overflow_sub-count : goal.overflow_sub-count
overflow_sub-count c = omega (arith, some-request _ _ c.requires.1 c.if-w-eq-NO_KIND.false)

pub serve_result-requires : goal.serve_result-requires
serve_result-requires c = let P = c.requires in (P.0.0, P.0.1, wanted-asks P.0.2 _ P.1 c.if-w-eq-NO_KIND.false)

pub returns : goal.returns
returns c = λ b A a good. wanted-told a _ good c.if-w-eq-NO_KIND.false (c.serve_result.ensures b A (wanted-asks a _ good c.if-w-eq-NO_KIND.false))
