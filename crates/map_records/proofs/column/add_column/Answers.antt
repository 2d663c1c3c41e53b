-- `map_records::column::add_column` meets its contract. Assumes nothing.
use native.Mathlib.Omega.{arith}
use Rattle.map_records.proofs.Columns.{none_more, column-room, one_more}
use Rattle.map_records.proofs.column.add_column.Goals as goal

pub ask-requires : goal.ask-requires
ask-requires c = omega (arith, c.requires.3.small, c.requires.3.state.tells.full)

pub returns-then-ask-eq0 : goal.returns-then-ask-eq0
returns-then-ask-eq0 c = λ b cs m a. none_more a c.ask.ensures c.if-ask-eq0.true

pub add_record-requires : goal.add_record-requires
add_record-requires c = column-room c.requires.3 c.ask.ensures c.if-ask-eq0.false

pub overflow_add-result : goal.overflow_add-result
overflow_add-result c = omega (arith, column-room c.requires.3 c.ask.ensures c.if-ask-eq0.false)

pub returns : goal.returns
returns c = λ b cs m a. one_more a c.ask.ensures c.if-ask-eq0.false c.add_record.ensures.0 c.add_record.ensures.1
