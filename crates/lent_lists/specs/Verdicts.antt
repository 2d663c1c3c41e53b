-- Whether fixing goes on, or which refusal it meets.
-- Assumes nothing: these are definitions.
use Rattle.std.specs.Prelude.{ℕ, Bool, cond, Result}
use Rattle.kinds.specs.Answers.{plain_answer_of}
use Rattle.kinds.specs.declared.refusal.Refusal.{Refusal}
use Rattle.meaning.specs.Refusals.{answer_no}

pub data Verdict : Type 0 where
  fine malformed not_there no_rule full : Verdict

-- document 01's number of the refusal, 0 where there is none
abbrev pub verdict_no : Verdict → ℕ
verdict_no fine = 0
verdict_no malformed = 1
verdict_no not_there = 3
verdict_no no_rule = 10
verdict_no full = 9

-- THE NUMBER OF A WALK'S ANSWER: document 01's, and 0 where nothing is refused
abbrev pub judged_no : Result Unit Refusal → ℕ
judged_no r = answer_no (plain_answer_of r)

-- the first refusal of two
abbrev pub first_of : Verdict → Verdict → Verdict
first_of fine v = v
first_of malformed v = malformed
first_of not_there v = not_there
first_of no_rule v = no_rule
first_of full v = full

-- refused unless it holds
abbrev pub only : Bool → Verdict → Verdict
only b v = cond b fine v

-- a where nothing is refused, else b
abbrev pub if_fine : {A : Type 0} → Verdict → A → A → A
if_fine fine a b = a
if_fine malformed a b = b
if_fine not_there a b = b
if_fine no_rule a b = b
if_fine full a b = b
