-- `constraint_lists::write::close_list` meets its contract.
-- Assumes nothing.
use Rattle.constraint_lists.proofs.Finals.{bytes-closed, bytes-none, bytes_open}
use Rattle.constraint_lists.proofs.write.close_list.Goals as goal

pub put_closing-requires : goal.put_closing-requires
put_closing-requires c = c.requires c.if-closes.true c.if-n-gt0.true

pub returns-then-n-gt0 : goal.returns-then-n-gt0
returns-then-n-gt0 c = bytes-closed _ _ _ _ _ c.if-closes.true c.if-n-gt0.true c.put_closing.ensures

pub returns-else-n-gt0 : goal.returns-else-n-gt0
returns-else-n-gt0 c = bytes-none c.args.closes _ _ c.args.end c.if-n-gt0.false

pub returns-else-closes : goal.returns-else-closes
returns-else-closes c = bytes_open c.args.closes c.args.n _ c.args.end c.if-closes.false
