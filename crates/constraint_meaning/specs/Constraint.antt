-- THE CONSTRAINT POLYNOMIAL (generate_constraint_polynomial of starkinfo_cp_prover.rs): the columns of intermediates and quotients, the pool with the constraint, and
-- the lists step3 and step42ns.
-- Assumes nothing: these are definitions.
use Rattle.std.specs.Prelude.{ℕ, zero, suc, ◌+◌, ◌-◌, Bool, false, ◌&&◌, ◌||◌, cond, List, [], ◌∷◌, ◌++◌, ltb, leb, length}
use Rattle.std.proofs.Math.Option.{Option, none, some}
use Rattle.meaning.specs.Refusals.{Refusal, Answer, done, refused, ◌then◌}
use Rattle.meaning.specs.Trees.{RowKind, Forest}
use Rattle.meaning.specs.Steps.{BareKind, Kind, Cell, Ref, StepOp, Step, step}
use Rattle.meaning.specs.Generation.{Block, State, Request, last_destination, serve, serve_all}
use Rattle.meaning.specs.Building.{Segment, segment, after_build}
use Rattle.search_meaning.specs.Search.{member, Choice, search}
use Rattle.constraint_meaning.specs.Tree.{Numbered, Intermediate, columns_from, constraint_tree, extended}

-- a list that was built, and its context after that
pub record Built : Type 0 where
  pub segment : Segment
  pub context : State

abbrev pub built_from : ℕ → Forest → State → Built
built_from rows E st = record { segment = segment E st; context = after_build rows E st }

-- an expression at this row, not fused, for no result
abbrev pub plain_request : ℕ → Request
plain_request e = record { expression = e; row = 0; fused = false; result = none }

abbrev pub plain_requests : List ℕ → List Request
plain_requests [] = []
plain_requests (e ∷ es) = plain_request e ∷ plain_requests es

-- ── step3: the members, in the caller's context ──────────────────────────────
abbrev pub step3 : ℕ → Forest → List ℕ → State → Answer Built
step3 rows E members st = serve_all rows E (plain_requests members) st then λ st'. done (built_from rows E st')

-- ── step42ns: the constraint, in the second context ──────────────────────────
-- members stand in columns now: they are marked at every row
abbrev pub marked : ℕ → List ℕ → State → State
marked rows members st =
    record {
      marks = λ e r. st.marks e r || (member e members && ltb r rows);
      blocks = st.blocks;
      counter = st.counter;
    }

abbrev pub quotient_ref : Ref
quotient_ref = Ref.var (Cell.cell (Kind.row RowKind.q) 0 0)

abbrev pub zi_ref : Ref
zi_ref = Ref.var (Cell.cell (Kind.bare BareKind.Zi) 0 0)

-- the closing product: q = the last destination · Zi
abbrev pub product : Option Ref → List Step
product none = []
product (some r) = step StepOp.mul quotient_ref (r ∷ zi_ref ∷ []) ∷ []

abbrev pub closed : Block → Block
closed b = record { expression = b.expression; row = b.row; steps = b.steps ++ product (last_destination b.steps) }

-- at the end of the last block, which is the constraint's
abbrev pub close_last : List Block → List Block
close_last [] = []
close_last (b ∷ []) = closed b ∷ []
close_last (b ∷ c ∷ bs) = b ∷ close_last (c ∷ bs)

abbrev pub closing : State → State
closing st = record { marks = st.marks; blocks = close_last st.blocks; counter = st.counter }

abbrev pub step42ns : ℕ → Forest → List ℕ → ℕ → State → Answer Built
step42ns rows E members c st =
    serve rows E (plain_request c) (marked rows members st) then λ st'.
    done (built_from rows E (closing st'))

-- ── the whole ────────────────────────────────────────────────────────────────
pub record Asked : Type 0 where
  pub identities : List ℕ
  -- the number of the challenge "vc"
  pub vc : ℕ
  pub n_bits : ℕ
  pub n_bits_ext : ℕ
  -- the visits allowed
  pub limit : Option ℕ
  pub n_cm1 : ℕ
  pub n_cm2 : ℕ
  -- n_commitments before
  pub commitments : ℕ

pub record Made : Type 0 where
  pub choice : Choice
  pub intermediates : List Intermediate
  -- the constraint's tree, and the nodes of the pool that has it
  pub constraint : Numbered
  pub n_cm3 : ℕ
  pub n_cm4 : ℕ
  pub qs : List ℕ
  -- n_commitments after
  pub commitments : ℕ
  pub step3 : Built
  pub step42ns : Built

-- n, n + 1, .., k of them
abbrev pub up_from : ℕ → ℕ → List ℕ
up_from n zero = []
up_from n (suc k) = n ∷ up_from (suc n) k

-- the pool with the constraint keeps its limits, and the columns given have numbers of 16 bits
abbrev pub fits : ℕ → ℕ → ℕ → Bool
fits nodes expressions commitments = leb nodes 4096 && (leb expressions 512 && leb commitments 65536)

abbrev pub unless : Refusal → Bool → Answer (Unit {0})
unless r b = cond b (done tt) (refused r none)

-- a search that is accepted has an identity
abbrev pub tree_for : Forest → ℕ → ℕ → List ℕ → List Intermediate → Numbered
tree_for E nodes vc [] ms = constraint_tree vc E nodes 0 [] ms
tree_for E nodes vc (e ∷ es) ms = constraint_tree vc E nodes e es ms

module _ (rows : ℕ) (E : Forest) (nodes : ℕ) (first second : State) where
  -- with the set that was chosen and the constraint's tree: both lists, or generation's refusal
  abbrev pub lists_with : Asked → Choice → List Intermediate → Numbered → Answer Made
  lists_with a x ms t =
      let k = a.commitments + length x.set in
      step3 rows (extended E t.tree) x.set first then λ s3.
      step42ns rows (extended E t.tree) x.set (length E) second then λ s4.
      done (record {
        choice = x;
        intermediates = ms;
        constraint = t;
        n_cm3 = k - a.n_cm1 - a.n_cm2;
        n_cm4 = x.q;
        qs = up_from k x.q;
        commitments = k + x.q;
        step3 = s3;
        step42ns = s4;
      })

  -- limits of the pool come first (9), then counts (11)
  abbrev pub made_with : Asked → Choice → Answer Made
  made_with a x =
      let ms = columns_from a.commitments x.set in
      let t = tree_for E nodes a.vc a.identities ms in
      unless Refusal.full (fits t.free (length E + 1) (a.commitments + length x.set + x.q)) then λ _.
      unless Refusal.counts (leb (a.n_cm1 + a.n_cm2) a.commitments) then λ _.
      lists_with a x ms t

  -- THE CONSTRAINT POLYNOMIAL of a pool's expressions and its number of nodes, from the caller's context and the second one
  abbrev pub constrain : Asked → Answer Made
  constrain a =
      search E a.identities a.vc a.n_bits a.n_bits_ext a.limit then λ x.
      made_with a x
