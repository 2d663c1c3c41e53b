-- Document 01's examples of the degree search that are marked P, as rows of a table that one statement proves; and cases in which the Rust surprises.
-- Assumes nothing.
use Rattle.std.specs.Prelude.{ℕ, ◌+◌, ◌≡◌, refl, false, List, [], ◌∷◌}
use Rattle.std.proofs.Math.Option.{none, some}
use Rattle.meaning.specs.Refusals.{Refusal, Answer}
use Rattle.meaning.specs.Trees.{lit, RowKind, FlatKind, XKind, Op, OpC, Leaf, Expr, Forest, Each}
use Rattle.search_meaning.specs.Degrees.{full_table}
use Rattle.search_meaning.specs.Search.{Choice, search}

pub record Example : Type 0 where
  pub trees : List Expr
  pub identities : List ℕ
  pub bits : ℕ
  pub bits_ext : ℕ
  pub limit : ℕ
  pub answer : Answer Choice

abbrev pub forest : List Expr → Forest
forest [] = []
forest (t ∷ ts) = record { tree = t; keep = false; keep2ns = false; id_q = false } ∷ forest ts

unfoldable pub answered : Example → Answer Choice
answered x = search (forest x.trees) x.identities 0 x.bits x.bits_ext (some x.limit)

abbrev pub Right : Example → Type 0
Right x = answered x ≡ x.answer

abbrev cm : ℕ → Expr
cm i = Expr.leaf 0 (Leaf.cell RowKind.cm i 0)

abbrev ex : ℕ → Expr
ex i = Expr.leaf 0 (Leaf.exp i 0)

infixl 40 ◌·◌
abbrev ◌·◌ : Expr → Expr → Expr
a · b = Expr.bin 0 Op.mul a b

abbrev plus : Expr → Expr → Expr
plus a b = Expr.bin 0 Op.add a b

abbrev num : ℕ → Expr
num n = Expr.leaf 0 (Leaf.number (lit false n))

abbrev yes : List ℕ → ℕ → ℕ → Answer Choice
yes s q v = Answer.done (record { set = s; q = q; visits = v })

abbrev no : Refusal → Answer Choice
no r = Answer.refused r none

-- e0 = cm0·cm1, e1 = exp0·cm2, identity e1
abbrev two : ℕ → ℕ → Answer Choice → Example
two ext limit a = record { trees = (cm 0 · cm 1) ∷ (ex 0 · cm 2) ∷ []; identities = 1 ∷ []; bits = 10; bits_ext = ext; limit = limit; answer = a }

abbrev one : Expr → ℕ → ℕ → Answer Choice → Example
one t more limit a = record { trees = t ∷ []; identities = 0 ∷ []; bits = 10; bits_ext = 10 + more; limit = limit; answer = a }

abbrev pub table : List Example
table =
    two 10 1000 (yes (0 ∷ []) 1 10)
    ∷ two 11 1000 (yes (0 ∷ []) 1 12)
    ∷ two 11 12 (yes (0 ∷ []) 1 12)
    ∷ two 11 11 (no Refusal.visits)
    ∷ one (cm 0) 0 1000 (yes [] 0 2)
    ∷ one (num 5) 0 1000 (no Refusal.no_quotient)
    ∷ []

-- THE EXAMPLES MARKED P
pub examples : Each Right table
unfolding answered search full_table
examples = (refl, (refl, (refl, (refl, (refl, (refl, tt))))))

-- ── where the Rust surprises ─────────────────────────────────────────────────
abbrev three : Expr
three = cm 0 · cm 1 · cm 2

abbrev ev : Expr
ev = Expr.leaf 0 (Leaf.flat FlatKind.eval 0)

abbrev q0 : Expr
q0 = Expr.leaf 0 (Leaf.cell RowKind.q 0 0)

abbrev sum : Expr
sum = plus (num 1) (num 1)

-- nothing kept is not a q of 0; a q of 0 or of -1 is replaced by a worse one; a sum's full degree is at least 1
abbrev pub replaced : List Example
replaced =
    one three 0 1000 (no Refusal.no_set)
    ∷ one (sum · sum · cm 0) 1 1000 (yes [] 2 12)
    ∷ one (sum · sum · sum) 1 1000 (yes [] 2 14)
    ∷ one (Expr.neg 0 (num 5) · cm 0) 0 1000 (yes [] 1 2)
    ∷ []

pub replaced-right : Each Right replaced
unfolding answered search full_table
replaced-right = (refl, (refl, (refl, (refl, tt))))

-- 6 against 13 and 15 goes by the order of visits, and eval is refused only where it is visited
abbrev pub met : List Example
met =
    one (plus three q0) 0 16 (no Refusal.no_set)
    ∷ one (plus three q0) 0 15 (no Refusal.visits)
    ∷ one (plus q0 three) 0 3 (no Refusal.search_kind)
    ∷ one (plus q0 three) 0 2 (no Refusal.visits)
    ∷ one (ev · cm 0) 0 1000 (yes [] 0 2)
    ∷ one (plus ev (cm 0)) 0 1000 (no Refusal.search_kind)
    ∷ one (num 3 · ev) 0 1000 (no Refusal.search_kind)
    ∷ one (ev · ev) 0 1000 (no Refusal.no_quotient)
    ∷ one (ev · (cm 0 · (cm 1 · cm 2))) 1 1000 (no Refusal.search_kind)
    ∷ []

pub met-right : Each Right met
unfolding answered search full_table
met-right = (refl, (refl, (refl, (refl, (refl, (refl, (refl, (refl, (refl, tt)))))))))

abbrev addc : Expr → Expr
addc a = Expr.binc 0 OpC.addc a (lit false 1)

-- the first smallest set wins; branches that are thrown away count in the largest degree cut
abbrev pub large : List Example
large =
    record {
      trees =
          Expr.binc 0 OpC.mulc (cm 0 · cm 1) (lit false 2) ∷ ex 0 ∷ addc (ex 1 · ex 0)
          ∷ (plus (Expr.leaf 0 (Leaf.flat FlatKind.challenge 0)) (cm 0) · (ex 2 · Expr.leaf 0 (Leaf.x XKind.plain_x))) ∷ [];
      identities = 3 ∷ [];
      bits = 10;
      bits_ext = 13;
      limit = 100000;
      answer = yes (1 ∷ 2 ∷ []) 2 273;
    }
    ∷ record {
      trees =
          (cm 0 · cm 1) ∷ (ex 0 · cm 2) ∷ plus (ex 0 · ex 0) (ex 1 · ex 0) ∷ (ex 2 · ex 0) ∷ addc (num 1)
          ∷ ((ex 3 · ex 2) · (ex 2 · cm 3)) ∷ ((ex 3 · addc (num 1)) · (ex 4 · ex 5)) ∷ [];
      identities = 6 ∷ [];
      bits = 10;
      bits_ext = 13;
      limit = 100000;
      answer = yes (1 ∷ 2 ∷ 3 ∷ 5 ∷ []) 3 14753;
    }
    ∷ []

pub large-right : Each Right large
unfolding answered search full_table
large-right = (refl, (refl, tt))
