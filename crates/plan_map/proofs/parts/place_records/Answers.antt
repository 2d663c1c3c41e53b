-- `plan_map::parts::place_records` meets its contract: no record is refused (proofs/Placing.antt). Assumes nothing.
use mathlib.Core.Path.{sym}
use lib.ListN.{drop}
use Rattle.plan_map.proofs.Placing.{sections-taken, dims-taken, positions-taken, positions-room, placed}
use Rattle.plan_map.proofs.parts.place_records.Goals as goal

pub slice_bounds-map_section-end : goal.slice_bounds-map_section-end
slice_bounds-map_section-end c = sym (sections-taken c.requires)

pub slice_bounds-map_section-end-2 : goal.slice_bounds-map_section-end-2
slice_bounds-map_section-end-2 c = sym (dims-taken c.requires)

pub slice_bounds-map_section-end-3 : goal.slice_bounds-map_section-end-3
slice_bounds-map_section-end-3 c = positions-room c.requires

pub slice_bounds-map_section-end-4 : goal.slice_bounds-map_section-end-4
slice_bounds-map_section-end-4 c = sym (positions-taken c.requires)

pub returns : goal.returns
returns c = placed c.requires c.map_section.ensures (drop c.args.n c.args.positions.now)
