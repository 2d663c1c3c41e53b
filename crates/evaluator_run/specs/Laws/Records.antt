-- Laws of what is well formed besides the list's records: the modulus and the given values.
-- Assumes nothing.
use Rattle.std.specs.Prelude.{ℕ, ◌<◌, ◌≤◌, ◌≡◌, Bool, List}
use Rattle.std.proofs.Math.Path.{sym}
use Rattle.std.proofs.Common.{◌∙◌, le-leb}
use Rattle.std.proofs.Math.Bool.{true, false}
use Rattle.std.proofs.lemmas.Bool.{lt-leb}
use Rattle.lists.specs.Records.{good_list}
use Rattle.evaluator_cells.specs.Given.{good_values}
use Rattle.evaluator_run.specs.Evaluation.{well_formed}

module _ (ws : List ℕ) (m : ℕ) (list : List ℕ) where
  pub formed-modulus : m < 2 → false ≡ well_formed ws m list
  unfolding well_formed
  formed-modulus h = rw (lt-leb 2 m h)

  module _ (l : 2 ≤ m) (b : Bool) (e : b ≡ good_list list) where
    pub formed-list : b ≡ false → false ≡ well_formed ws m list
    unfolding well_formed
    formed-list h =
        let z : good_list list ≡ false = sym e ∙ h in
        rw (le-leb 2 m l, z)

    pub formed-values : b ≡ true → (c : Bool) → c ≡ good_values ws → c ≡ well_formed ws m list
    unfolding well_formed
    formed-values h c f =
        let z : good_list list ≡ true = sym e ∙ h in
        rw (le-leb 2 m l, z) f
