-- `steps::answer` is safe: the lines that it prints may be asked for.
-- Assumes nothing.
use Rattle.steps.proofs.Lines.{asked}
use Rattle.steps.proofs.answer.Goals as goal

pub print_lines-requires : goal.print_lines-requires
print_lines-requires g c = asked (c.conclude-r.ensures c.requires.0 c.requires.1) c.shown_outcome.ensures c.conclude-r.auto.list
