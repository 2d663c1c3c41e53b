-- What a cell has before a step writes it, by the byte of its kind; and what the code asks of the words and numbers that it reads with.
-- Assumes nothing: these are definitions.
use Rattle.std.specs.Prelude.{ℕ, ◌<◌, ◌≡◌, true, cond, List, eqb}
use Rattle.std.specs.Prelude as code
use Rattle.std.proofs.Math.Option.{Option, none, some}
use Rattle.kinds.specs.KindBytes as kind
use Rattle.evaluator_cells.specs.Numbers.{Modulus}
use Rattle.evaluator_cells.specs.Given.{Lent, section_count, good_values, word_at, row_at}
use Rattle.evaluator_cells.specs.Cells.{id_limit}

-- WHAT THE CODE'S Option SAYS
abbrev pub known : code.Option ℕ → Option ℕ
known (code.Some v) = some v
known code.None = none

-- exp, tmp, f, tmp_exp, Zi, the trees and Z are never given
unfoldable pub before_in : ℕ → Lent → ℕ → ℕ → ℕ → Option ℕ
before_in m g k i r =
    cond (eqb k kind.cm) (row_at m g.cm i r)
    (cond (eqb k kind.const) (row_at m g.constants i r)
    (cond (eqb k kind.q) (row_at m g.q i r)
    (cond (eqb k kind.public) (word_at m g.publics i)
    (cond (eqb k kind.challenge) (word_at m g.challenges i)
    (cond (eqb k kind.eval) (word_at m g.evals i)
    (cond (eqb k kind.x_div_x_sub_xi) (word_at m g.xs 0)
    (cond (eqb k kind.x_div_x_sub_w_xi) (word_at m g.xs 1)
    (cond (eqb k kind.x) (word_at m g.xs 2) none))))))))

-- ---- what is asked

pub record Lends (ws : List ℕ) (m : ℕ) : Type 0 where
  pub good : good_values ws ≡ true
  pub modulus : Modulus m

pub record StartAsks (ws : List ℕ) (k : ℕ) : Type 0 where
  pub good : good_values ws ≡ true
  pub in_header : k < section_count

pub record WordAsks (ws : List ℕ) (k m : ℕ) : Type 0 where
  pub lends : Lends ws m
  pub in_header : k < section_count

pub record RowAsks (ws : List ℕ) (k id row m : ℕ) : Type 0 where
  pub words : WordAsks ws k m
  pub in_ids : id < id_limit
  pub in_byte : row < 256

pub record GivenAsks (ws : List ℕ) (id row m : ℕ) : Type 0 where
  pub lends : Lends ws m
  pub in_ids : id < id_limit
  pub in_byte : row < 256
