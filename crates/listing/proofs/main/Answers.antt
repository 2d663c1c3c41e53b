-- `listing::main` is safe: what was read may be answered.
-- Assumes nothing.
use mathlib.Core.Path.{sym}
use Rattle.console.proofs.Fed.{fed}
use Rattle.listing.proofs.main.Goals as goal

pub slice_bounds-answer-end : goal.slice_bounds-answer-end
slice_bounds-answer-end c = sym (fed _ _ _ _ c.read_all.ensures.1 c.in-Ok.is).1.kept.room

pub answer-requires : goal.answer-requires
answer-requires c = fed _ _ _ _ c.read_all.ensures.1 c.in-Ok.is
