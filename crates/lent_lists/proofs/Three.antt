-- Three well-formed lists, from the value of each part.
-- Assumes nothing.
use Rattle.std.specs.Prelude.{ℕ, ◌≡◌, refl, Bool, true, false, ◌&&◌, List}
use Rattle.std.proofs.Common.{◌∙◌}
use Rattle.lists.specs.Records.{good_list}
use Rattle.lent_lists.specs.Records.{good_lists}

together : (a b c : Bool) → ((a && b) && c) ≡ (a && (b && c))
together true b c = refl
together false b c = refl

pub three : (first i last : List ℕ) {v r : Bool} → v ≡ (good_list first && good_list i) → r ≡ (v && good_list last) → r ≡ good_lists first i last
unfolding good_lists
three first i last e f = f ∙ rw e (together (good_list first) (good_list i) (good_list last))
