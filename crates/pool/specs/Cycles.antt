-- Looking for the smallest leaf on a cycle: what the leaves of a tree mark, the least of them that leads to a target, and what the functions ask and give.
-- A table of marks holds for each expression 0 (not reached), 1 (reached), or 2 (its leaves are marked too).
-- Assumes nothing: these are definitions.
use Rattle.std.specs.Prelude.{ℕ, ◌<◌, ◌≤◌, min, ◌≡◌, Bool, cond, List, [], ◌∷◌, ◌⊎◌, get_or, set, eqb}
use Rattle.std.proofs.Math.Option.{Option, none, some}
use Rattle.meaning.specs.Trees.{nth, Placed, ◌at◌, leaves}
use Rattle.frames.specs.Order.{node_limit, expression_limit}
use Rattle.frames.specs.Tables.{kind_in, id_in}
use Rattle.kinds.specs.KindBytes as kind
use Rattle.pool.specs.Trees.{tree}
use Rattle.pool.specs.Admission.{leads_to, LeadsBack, OnCycle}
use Rattle.pool.specs.Tabled.{tabled}
use Rattle.pool.specs.Ranking.{Tabling, Starts, AllAsked}

-- where a leaf of this kind and id leads, and that of a node in the tables
abbrev pub lead_by : List ℕ → ℕ → ℕ → Option ℕ
lead_by table k i = cond (eqb k kind.exp) (some i) (cond (eqb k kind.q) (nth table i) none)

abbrev pub lead_in : List ℕ → List ℕ → ℕ → Option ℕ
lead_in w table i = lead_by table (kind_in w i) (id_in w i)

-- what is not reached is
abbrev pub reach : List ℕ → ℕ → List ℕ
reach s v = cond (eqb (get_or s v 0) 0) (set s v 1) s

abbrev pub mark : Option ℕ → List ℕ → List ℕ
mark none s = s
mark (some v) s = reach s v

-- leaf n, where it leads to u and is less than b
abbrev pub nearer : ℕ → Option ℕ → ℕ → ℕ → ℕ
nearer u none n b = b
nearer u (some v) n b = cond (eqb v u) (min b n) b

-- THE MARKS AFTER LEAVES
unfoldable pub marked : List ℕ → List Placed → List ℕ → List ℕ
marked table [] s = s
marked table (w ∷ ws) s = marked table ws (mark (leads_to table w) s)

-- THE LEAST of b and the leaves that lead to u
unfoldable pub nearest : List ℕ → ℕ → List Placed → ℕ → ℕ
nearest table u [] b = b
nearest table u ((l at n) ∷ ws) b = nearest table u ws (nearer u (leads_to table (l at n)) n b)

-- from marks s and a least b to s' and b'
pub record Spreads (table : List ℕ) (u : ℕ) (ws : List Placed) (s : List ℕ) (b : ℕ) (s' : List ℕ) (b' : ℕ) : Type 0 where
  pub marks : s' ≡ marked table ws s
  pub least : b' ≡ nearest table u ws b

-- a leaf by its node in the tables
pub record LeafAsked (w table : List ℕ) (i : ℕ) : Type 0 where
  pub there : i < node_limit
  pub leads : (v : ℕ) → lead_in w table i ≡ some v → v < expression_limit

pub record LeafGiven (w table : List ℕ) (u i : ℕ) (s : List ℕ) (b : ℕ) (s' : List ℕ) (b' : ℕ) : Type 0 where
  pub marks : s' ≡ mark (lead_in w table i) s
  pub least : b' ≡ nearer u (lead_in w table i) i b

-- a tree: for whichever literals, expressions and counts
pub record Standing (w l x : List ℕ) (n m : ℕ) (table : List ℕ) (i : ℕ) : Type 0 where
  pub starts : Starts (Tabling w l x n m) table
  pub there : i < n

abbrev pub SpreadAsked : List ℕ → List ℕ → ℕ → Type 0
SpreadAsked w table i = (l : List ℕ) × (x : List ℕ) × (n : ℕ) × (m : ℕ) × Standing w l x n m table i

abbrev pub SpreadGiven : List ℕ → List ℕ → ℕ → ℕ → List ℕ → ℕ → List ℕ → ℕ → Type 0
SpreadGiven w table u i s b s' b' =
    (l x : List ℕ) (n m : ℕ) → Standing w l x n m table i → Spreads table u (leaves (tree (tabled (Tabling w l x n m)) i)) s b s' b'

-- reached, and its leaves are not marked yet
abbrev pub reached_in : List ℕ → ℕ → Bool
reached_in s e = eqb (get_or s e 0) 1

-- r is the least of b and of the numbers that Q says something of
pub record LeastOf (Q : ℕ → Type 0) (b r : ℕ) : Type 0 where
  pub low : r ≤ b
  pub is : (r ≡ b) ⊎ Q r
  pub below : (n : ℕ) → Q n → r ≤ n

-- the leaves that lead back to one expression
abbrev pub BackAsked : List ℕ → List ℕ → List ℕ → ℕ → ℕ → Type 0
BackAsked w x table m u = AllAsked w x table m × (u < m)

abbrev pub BackGiven : List ℕ → List ℕ → List ℕ → ℕ → ℕ → ℕ → ℕ → Type 0
BackGiven w x table m u b r = (l : List ℕ) (n : ℕ) → Starts (Tabling w l x n m) table → LeastOf (LeadsBack (tabled (Tabling w l x n m)) table u) b r

-- all leaves on a cycle
abbrev pub CycleGiven : List ℕ → List ℕ → List ℕ → ℕ → ℕ → Type 0
CycleGiven w x table m r = (l : List ℕ) (n : ℕ) → Starts (Tabling w l x n m) table → LeastOf (OnCycle (tabled (Tabling w l x n m)) table) node_limit r
