-- What a test that a call made was, from what the call ensures and from the branch that was taken.
-- Assumes nothing.
use mathlib.Core.Path.{◌≡◌, sym, ◌∙◌}
use mathlib.Core.Bool.{Bool, true, false, not}
use borrow.Author.Tests.{not-true, not-false}

pub via : {r t b : Bool} → r ≡ t → r ≡ b → t ≡ b
via e h = sym e ∙ h

pub via-not : {r t : Bool} → r ≡ t → not r ≡ true → t ≡ false
via-not {r} e h = sym e ∙ not-true r h

pub via-kept : {r t : Bool} → r ≡ t → not r ≡ false → t ≡ true
via-kept {r} e h = sym e ∙ not-false r h
