-- `frames::hex::all_digits` meets its contract.
-- Assumes nothing.
use mathlib.Core.Path.{◌≡◌}
use mathlib.Core.Bool.{true, false}
use borrow.Author.Rules.{rules}
use borrow.Author.Tests.{tests}
use Rattle.std.proofs.lemmas.Iterator.{cases_from_all, YieldsList-from_slice}
use Rattle.frames.specs.Lines.{is_digit}
use Rattle.frames.proofs.Digits.{digits_by}
use Rattle.frames.proofs.hex.all_digits.Goals as goal

pub returns : goal.returns
returns c =
    digits_by _ _
    (cases_from_all _ _ _ (λ b. is_digit b ≡ true) (λ b. is_digit b ≡ false) c.all.ensures.ran (YieldsList-from_slice c.args.line.now cc)
    (λ x q k. search (rules, tests)) (λ x q k. search (rules, tests)))
