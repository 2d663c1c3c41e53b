-- `replay_pool::filled` meets its contract. Assumes nothing.
use mathlib.Core.Path.{sym}
use mathlib.Core.Bool.{true≢false}
use Rattle.replay_pool.proofs.filled.Goals as goal

pub returns-then-buffer-n : goal.returns-then-buffer-n
returns-then-buffer-n g c = λ h. absurd (true≢false (sym h))
