-- `fixing::temporaries::rule_for` meets its contract.
-- Assumes nothing.
use Rattle.std.proofs.Common.{rules, ◌≡◌, ℕ, ◌≤◌, Bool, true, false, cond, List, length, get_or, ltb, refl, sym, ◌∙◌, arith}
use borrow.Author.Tests.{ltb-false}
use Rattle.lent_lists.specs.Laws.Rewriting.{past_the_end}
use Rattle.fixing.specs.ProverCode.{expression_limit, rule_for}
use Rattle.fixing.proofs.temporaries.rule_for.Goals as goal

-- past the end there is none
bounded : (l : List ℕ) (e : ℕ) → length l ≡ expression_limit → get_or l e 0 ≡ rule_for l e
unfolding rule_for
bounded l e h = by (ltb e expression_limit) refl
  where
    by : (b : Bool) → ltb e expression_limit ≡ b → get_or l e 0 ≡ cond b (get_or l e 0) 0
    by true q = refl
    by false q = let k : expression_limit ≤ e = ltb-false e expression_limit q in sym (past_the_end l e (omega arith))

pub returns : goal.returns
returns c =
    let e : c.unwrap_or.result.now ≡ get_or c.args.rules.now c.args.id 0 = search rules in
    e ∙ bounded c.args.rules.now c.args.id c.told-rules
