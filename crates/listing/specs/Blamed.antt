-- The node that an answer blames: none where it is done.
-- Assumes nothing: these are definitions.
use Rattle.std.specs.Prelude.{ℕ}
use Rattle.std.proofs.Math.Option.{Option, none}
use Rattle.meaning.specs.Refusals.{Answer, done, refused}
use Rattle.requests.specs.declared.whole.Totals.{Totals}

abbrev pub blamed : Answer Totals → Option ℕ
blamed (done t) = none
blamed (refused k o) = o
