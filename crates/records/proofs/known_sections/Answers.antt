-- `records::known_sections` meets its contract.
-- Assumes nothing.
use Rattle.std.proofs.Common.{rules, ◌∙◌, ltb}
use borrow.Author.Tests.{tests}
use Rattle.std.proofs.lemmas.Iterator.{YieldsList-from_slice}
use Rattle.std.proofs.lemmas.Iterator.Search.{all_from_yields_List}
use Rattle.sections.specs.Sections.{section_count}
use Rattle.records.proofs.Columns.{known-is-all}
use Rattle.records.proofs.known_sections.Goals as goal

pub returns : goal.returns
returns c = all_from_yields_List (λ r. ltb r.section section_count) _ _ _ c.all.ensures.ran (YieldsList-from_slice c.args.records.now cc) (λ x b q k. search (rules, tests)) ∙ known-is-all c.args.records.now
