-- `console::read::read_all` meets its contract: reading stands somewhere after the bytes that were read.
-- Assumes nothing.
use native.Mathlib.Omega.{arith}
use mathlib.Core.Path.{◌≡◌, refl, ◌∙◌}
use Rattle.std.specs.Prelude.{Ok, Err}
use Rattle.std.proofs.lemmas.Result.{err_from_is_err_and}
use Rattle.console.proofs.Fed.{begin, stopped, fed}
use Rattle.console.proofs.read.read_all.Goals as goal

pub loop-turn-init : goal.loop-turn-init
loop-turn-init g c = (refl, begin c.requires c.start-place.ensures)

pub feed-requires : goal.feed-requires
feed-requires g c = c.loop-turn.invariant.1

pub returns-then-n-lt65536 : goal.returns-then-n-lt65536
returns-then-n-lt65536 g c = fed _ _ _ _ (c.feed.ensures c.loop-turn.invariant.1.0 c.loop-turn.invariant.1.1) (let o : c.feed.result ≡ Ok c.in_ok-place.place = grind arith in o)

pub returns-then-place-ge-LINE_ROOM : goal.returns-then-place-ge-LINE_ROOM
returns-then-place-ge-LINE_ROOM g c = fed _ _ _ _ (c.feed.ensures c.loop-turn.invariant.1.0 c.loop-turn.invariant.1.1) (let o : c.feed.result ≡ Ok c.in_ok-place.place = grind arith in o)

pub loop-turn-preserved : goal.loop-turn-preserved
loop-turn-preserved g c = (c.read_full-n.auto.buffer ∙ c.loop-turn.invariant.0, fed _ _ _ _ (c.feed.ensures c.loop-turn.invariant.1.0 c.loop-turn.invariant.1.1) (let o : c.feed.result ≡ Ok c.in_ok-place.place = grind arith in o))

pub returns-in_err-place : goal.returns-in_err-place
returns-in_err-place g c = let p = err_from_is_err_and c.from_residual.result c.from_residual.ensures.1 in rw (p.1, p.2) (stopped _ _ _ _ (c.feed.ensures c.loop-turn.invariant.1.0 c.loop-turn.invariant.1.1) (let o : c.feed.result ≡ Err c.in_err-place.field-0.0 = grind arith in o))
