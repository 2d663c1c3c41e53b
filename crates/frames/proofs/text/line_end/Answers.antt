-- `frames::text::line_end` meets its contract.
-- Assumes nothing.
use mathlib.Core.Path.{◌≡◌, ap, ◌∙◌}
use Prim.Native.Nat.{◌+◌, ◌-◌}
use lib.ListN.{length, take, drop, length-drop}
use borrow.Author.Rules.{rules}
use borrow.Author.Tests.{tests}
use native.Mathlib.Omega.{arith}
use Rattle.std.proofs.lemmas.List.{take_all}
use Rattle.std.proofs.lemmas.Iterator.{IsFirst-from_position, YieldsList-from_slice}
use Rattle.frames.specs.Text.{line_feed, first_end, end_at}
use Rattle.frames.proofs.Texts.{first_by}
use Rattle.frames.proofs.text.line_end.Goals as goal

pub returns : goal.returns
unfolding end_at
returns c =
    let line : take (length c.args.text.now - c.args.at) (drop c.args.at c.args.text.now) ≡ drop c.args.at c.args.text.now = take_all _ _ (simp length-drop (omega arith)) in
    ap (λ n. c.args.at + n)
    (c.unwrap_or.ensures
    ∙ first_by _ _
    (IsFirst-from_position _ _ _ (λ b. b ≡ line_feed) (λ b. b ≡ line_feed → ⊥) c.position.ensures.ran (YieldsList-from_slice (take (length c.args.text.now - c.args.at) (drop c.args.at c.args.text.now)) cc)
    (λ x q k. search (rules, tests)) (λ x q k. search (rules, tests)))
    ∙ ap first_end line)
