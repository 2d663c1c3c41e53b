-- Running a list from top to bottom: any list, not only a generated one.
-- Assumes nothing: these are definitions.
use Rattle.std.specs.Prelude.{Bool, true, false, cond, List, [], ◌∷◌}
use Rattle.std.proofs.Math.Option.{Option, none, some}
use Rattle.meaning.specs.Trees.{RowKind}
use Rattle.meaning.specs.Steps.{Kind, Cell, same, place, Ref, StepOp, Step}
use Rattle.meaning.specs.Values.{Algebra, Given, bind}

-- what the cells that steps have written hold
abbrev pub Store : Type 0 → Type 0
Store A = Cell → Option A

abbrev pub empty : {A : Type 0} → Store A
empty = λ c. none

abbrev pub set : {A : Type 0} → Store A → Cell → A → Store A
set s c v = λ d. cond (same c d) (some v) (s d)

-- The kinds a step may write are those that the Rust's dimension pass allows as destinations.
abbrev pub writable : Cell → Bool
writable (Cell.cell (Kind.row RowKind.cm) i r) = true
writable (Cell.cell (Kind.row RowKind.const) i r) = false
writable (Cell.cell (Kind.row RowKind.q) i r) = true
writable (Cell.cell (Kind.flat k) i r) = false
writable (Cell.cell (Kind.x k) i r) = false
writable (Cell.cell Kind.exp i r) = true
writable (Cell.cell Kind.tmp i r) = true
writable (Cell.cell Kind.f i r) = true
writable (Cell.cell Kind.tmp_exp i r) = true
writable (Cell.cell (Kind.bare k) i r) = false

abbrev pub write : {A : Type 0} → Store A → Ref → A → Option (Store A)
write s (Ref.var c) v = cond (writable c) (some (set s (place c) v)) none
write s (Ref.number l n) v = none

-- the value a cell has before a step writes it
abbrev pub before : {A : Type 0} → Given A → Cell → Option A
before G (Cell.cell (Kind.row k) i r) = G.cells k i r
before G (Cell.cell (Kind.flat k) i r) = G.flats k i
before G (Cell.cell (Kind.x k) i r) = G.xs k r
before G (Cell.cell Kind.exp i r) = none
before G (Cell.cell Kind.tmp i r) = none
before G (Cell.cell Kind.f i r) = none
before G (Cell.cell Kind.tmp_exp i r) = none
before G (Cell.cell (Kind.bare k) i r) = none

-- the first of two that is there
abbrev pub either : {A : Type 0} → Option A → Option A → Option A
either none b = b
either (some a) b = some a

-- An operation takes the values it needs; a source beyond them is ignored, one too few is refused.
abbrev pub one : {A : Type 0} → List (Option A) → Option A
one [] = none
one (a ∷ l) = a

abbrev pub two : {A : Type 0} → List (Option A) → (A → A → A) → Option A
two [] g = none
two (a ∷ []) g = none
two (a ∷ b ∷ l) g = bind a (λ u. bind b (λ v. some (g u v)))

abbrev pub three : {A : Type 0} → List (Option A) → (A → A → A → A) → Option A
three [] g = none
three (a ∷ []) g = none
three (a ∷ b ∷ []) g = none
three (a ∷ b ∷ c ∷ l) g = bind a (λ u. bind b (λ v. bind c (λ w. some (g u v w))))

module _ (𝓐 : Algebra) where
  abbrev pub apply : StepOp → List (Option 𝓐.A) → Option 𝓐.A
  apply StepOp.add vs = two vs 𝓐.plus
  apply StepOp.sub vs = two vs 𝓐.minus
  apply StepOp.mul vs = two vs 𝓐.times
  apply StepOp.muladd vs = three vs (λ u v w. 𝓐.plus (𝓐.times u v) w)
  apply StepOp.copy vs = one vs

  module _ (G : Given 𝓐.A) where
    abbrev pub read : Store 𝓐.A → Ref → Option 𝓐.A
    read s (Ref.var c) = either (s (place c)) (before G c)
    read s (Ref.number l n) = some (𝓐.of_lit l)

    abbrev pub read_all : Store 𝓐.A → List Ref → List (Option 𝓐.A)
    read_all s [] = []
    read_all s (r ∷ rs) = read s r ∷ read_all s rs

    -- what a step computes, and the store after it
    abbrev pub computes : Store 𝓐.A → StepOp → List Ref → Option 𝓐.A
    computes s o rs = apply o (read_all s rs)

    abbrev pub exec : Step → Store 𝓐.A → Option (Store 𝓐.A)
    exec x s = bind (computes s x.op x.sources) (λ v. write s x.destination v)

    abbrev pub run : List Step → Store 𝓐.A → Option (Store 𝓐.A)
    run [] s = some s
    run (x ∷ xs) s = bind (exec x s) (λ s'. run xs s')
