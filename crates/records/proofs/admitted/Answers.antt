-- `records::admitted` meets its contract: each way through the code is one law of specs/Laws/Tests.antt.
-- Assumes nothing.
use Rattle.std.proofs.Common.{sym}
use Rattle.std.proofs.lemmas.List.{length-take-le}
use Rattle.sections.proofs.Laws.Maps.{read-within}
use Rattle.records.specs.Laws.Tests.{no-sections, no-first, no_second, no_third, no-widths, too_many_lem, none-refused}
use Rattle.records.proofs.Columns.{sections-known, section-unknown}
use Rattle.records.proofs.admitted.Goals as goal
use Rattle.records.proofs.admitted.Goals.{then-sections-count-via-then-sections-count, then-sections-count-via-else-sections-count+then-dims-count, then-sections-count-via-else-sections-count+else-dims-count+then-positions-count, then-sections-count-via-else-sections-count+else-dims-count+else-positions-count+then-widths-ne-WIDTHS}

pub slice_bounds-known_sections-end : goal.slice_bounds-known_sections-end
slice_bounds-known_sections-end c = sym (length-take-le _ c.args.records.now (read-within _ _ c.read_count.ensures))

pub returns-then-not-known_sections : goal.returns-then-not-known_sections
returns-then-not-known_sections c = no-sections _ _ _ _ _ _ (section-unknown c.args.records.now _ c.read_count.ensures _ c.known_sections.ensures c.if-not-known_sections.true)

pub returns-then-sections-count : goal.returns-then-sections-count
returns-then-sections-count c = let all = sections-known c.args.records.now _ c.read_count.ensures _ c.known_sections.ensures c.if-not-known_sections.false in
    elim c.then-sections-count.branch [
      | then-sections-count-via-then-sections-count w ↦ no-first _ _ _ _ _ _ all w.if-sections-count.true
      | then-sections-count-via-else-sections-count+then-dims-count w ↦ no_second _ _ _ _ _ _ all w.if-sections-count.false w.if-dims-count.true
      | then-sections-count-via-else-sections-count+else-dims-count+then-positions-count w ↦ no_third _ _ _ _ _ _ all w.if-sections-count.false w.if-dims-count.false w.if-positions-count.true
      | then-sections-count-via-else-sections-count+else-dims-count+else-positions-count+then-widths-ne-WIDTHS w ↦ no-widths _ _ _ _ _ _ all w.if-sections-count.false w.if-dims-count.false w.if-positions-count.false w.if-widths-ne-WIDTHS.true
    ]

pub returns-then-count-gt-RECORD_LIMIT : goal.returns-then-count-gt-RECORD_LIMIT
returns-then-count-gt-RECORD_LIMIT c = let all = sections-known c.args.records.now _ c.read_count.ensures _ c.known_sections.ensures c.if-not-known_sections.false in
    too_many_lem _ _ _ _ _ _ all c.if-sections-count.false c.if-dims-count.false c.if-positions-count.false c.if-widths-ne-WIDTHS.false c.if-count-gt-RECORD_LIMIT.true

pub returns : goal.returns
returns c = let all = sections-known c.args.records.now _ c.read_count.ensures _ c.known_sections.ensures c.if-not-known_sections.false in
    none-refused _ _ _ _ _ _ all c.if-sections-count.false c.if-dims-count.false c.if-positions-count.false c.if-widths-ne-WIDTHS.false c.if-count-gt-RECORD_LIMIT.false
