-- `map_records::records::add_pair` meets its contract. Assumes nothing.
use Rattle.map_records.proofs.records.add_pair.Goals as goal

pub returns : goal.returns
returns c = (cc (c.add_record.ensures.0, c.add_record-2.ensures.0), cc (c.add_record.ensures.1, c.add_record-2.ensures.1))
