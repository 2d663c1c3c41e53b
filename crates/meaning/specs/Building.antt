-- Building: the first, i and last lists, and the context after them (build_code).
-- Assumes nothing: these are definitions.
use Rattle.std.specs.Prelude.{ℕ, suc, Bool, false, not, ◌&&◌, ◌||◌, cond, List, [], ◌∷◌, ◌++◌, eqb, ltb}
use Rattle.std.proofs.Math.Option.{Option, none, some}
use Rattle.meaning.specs.Refusals.{Answer, done, ◌then◌}
use Rattle.meaning.specs.Trees.{Expression, Forest, nth}
use Rattle.meaning.specs.Steps.{Step}
use Rattle.meaning.specs.Generation.{Block, State, start, Request, is_block, serve_all}

pub record Segment : Type 0 where
  pub first : List Step
  pub i : List Step
  pub last : List Step
  pub counter : ℕ

abbrev pub flagged : Option Expression → Bool
flagged none = false
flagged (some x) = x.keep || (x.keep2ns || x.id_q)

abbrev pub standing : ℕ → ℕ → List Block → Bool
standing e r [] = false
standing e r (b ∷ bs) = is_block e r b || standing e r bs

-- E: an expression with a flag whose plain and primed blocks both stand
abbrev pub in_e : Forest → List Block → ℕ → Bool
in_e E bs e = flagged (nth E e) && (standing e 0 bs && standing e 1 bs)

-- every block in order
abbrev pub every : List Block → List Step
every [] = []
every (b ∷ bs) = b.steps ++ every bs

-- the blocks from number n on, less those that `skips` names by number
abbrev pub linear : (ℕ → Block → Bool) → ℕ → List Block → List Step
linear skips n [] = []
linear skips n (b ∷ bs) = cond (skips n b) (linear skips (suc n) bs) (b.steps ++ linear skips (suc n) bs)

abbrev pub plain : Block → Bool
plain b = eqb b.row 0

-- neither keep nor id_q
abbrev pub released : Option Expression → Bool
released none = false
released (some x) = not (x.keep || x.id_q)

abbrev pub segment : Forest → State → Segment
segment E st =
    let bs = st.blocks in
    record {
      first = every bs;
      i = linear (λ n b. in_e E bs n && plain b) 0 bs;
      last = linear (λ n b. in_e E bs n) 0 bs;
      counter = st.counter;
    }

-- blocks are gone, what is released is marked at every row, and the counter goes on
abbrev pub after_build : ℕ → Forest → State → State
after_build rows E st =
    record {
      marks = λ e r. st.marks e r || (released (nth E e) && ltb r rows);
      blocks = [];
      counter = st.counter;
    }

-- THE WHOLE RUN of document 01's program: requests on a fresh context, then one build
abbrev pub whole : ℕ → Forest → List Request → Answer Segment
whole rows E qs = serve_all rows E qs start then λ st. done (segment E st)
