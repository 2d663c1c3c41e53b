-- `evaluator_cells::given::word_at` meets its contract.
-- Assumes nothing.
use native.Mathlib.Omega.{arith}
use Rattle.evaluator_cells.specs.Laws.Sections.{header_there, section-there, word-there, word-past}
use Rattle.evaluator_cells.proofs.given.word_at.Goals as goal

pub bounds-values-k : goal.bounds-values-k
bounds-values-k c = omega (arith, header_there _ c.requires.lends.good, c.requires.in_header)

pub section_start-requires : goal.section_start-requires
section_start-requires c = record { good = c.requires.lends.good; in_header = c.requires.in_header }

pub overflow_add-result : goal.overflow_add-result
overflow_add-result c = omega (arith, section-there _ c.requires.lends.good _ c.requires.in_header, c.if-i-values.true, c.section_start.ensures, c.well_formed)

pub offset_bounds-values-section_start : goal.offset_bounds-values-section_start
offset_bounds-values-section_start c = omega (arith, section-there _ c.requires.lends.good _ c.requires.in_header, c.if-i-values.true, c.section_start.ensures, c.well_formed)

pub bounds-values-section_start : goal.bounds-values-section_start
bounds-values-section_start c = omega (arith, section-there _ c.requires.lends.good _ c.requires.in_header, c.if-i-values.true, c.section_start.ensures)

pub returns-then-i-values : goal.returns-then-i-values
returns-then-i-values c = word-there _ c.requires.lends.good _ c.requires.in_header _ _ _ c.if-i-values.true c.section_start.ensures

pub returns : goal.returns
returns c = word-past _ c.requires.lends.good _ c.requires.in_header _ _ c.if-i-values.false
