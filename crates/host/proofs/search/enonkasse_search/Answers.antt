-- `host::search::enonkasse_search` meets its contract: what `search` gives, told as its number with q and the visits.
-- Assumes nothing.
use mathlib.Core.Path.{sym, ap, ◌∙◌}
use Rattle.std.specs.Prelude.{Result}
use Rattle.meaning.specs.Refusals.{answer_no}
use Rattle.kinds.specs.Answers.{answer_of}
use Rattle.kinds.specs.declared.refusal.Refused.{Refused}
use Rattle.degree_search.specs.declared.choose.Found.{Found}
use Rattle.host.specs.Searches.{found_told}
use Rattle.host.proofs.Numbers.{search-numbered}
use Rattle.host.proofs.search.enonkasse_search.Goals.{in-Ok, in_default}
use Rattle.host.proofs.search.enonkasse_search.Goals as goal

pub returns : goal.returns
returns c = elim c.match-searched.branch [
  | in-Ok w ↦ search-numbered c.args.frames.now c.args.identities.now _ _ _ c.search-searched.ensures
      (c.answer_number.ensures ∙ ap (λ (t : Result Found Refused). answer_no (answer_of t)) (w.searched-is ∙ sym w.in-Ok.is))
      (w.found-is ∙ ap (λ (t : Result Found Refused). found_told t c.args.found.now) (sym w.in-Ok.is))
  | in_default w ↦ search-numbered c.args.frames.now c.args.identities.now _ _ _ c.search-searched.ensures
      (c.answer_number.ensures ∙ ap (λ (t : Result Found Refused). answer_no (answer_of t)) w.searched-is)
      (w.found-is ∙ ap (λ (t : Result Found Refused). found_told t c.args.found.now) (sym w.in_default.is))
]
