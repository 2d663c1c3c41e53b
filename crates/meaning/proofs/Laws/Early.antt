-- A list that runs reads no cell without a given value before it is written.
-- Assumes nothing.
use Rattle.std.specs.Prelude.{◌≡◌, refl, Bool, true, false, cond, List, [], ◌∷◌, ◌⊎◌}
use Rattle.std.proofs.Common.{sym, ◌∙◌, subst, inl, inr}
use Rattle.std.proofs.Math.Option.{Option, none, some, none-ne-some, some-injective}
use Rattle.meaning.specs.Trees.{Each, Member, up_to}
use Rattle.meaning.specs.Steps.{Kind, Cell, same, place, Ref, StepOp, Step}
use Rattle.meaning.specs.Values.{Algebra, Given}
use Rattle.meaning.specs.Running.{Store, empty, set, writable, write, before, either, two, three, read, read_all, computes, exec, run}
use Rattle.meaning.specs.Demand3.{Ungiven, Written, needs, writing, NoEarlyRead}
use Rattle.meaning.proofs.Laws.Tests.{bind-some, each_map}
use Rattle.meaning.proofs.Laws.Cells.{same_eq}

ungiven_none : {A : Type 0} (G : Given A) (c : Cell) → Ungiven c → before G c ≡ none
ungiven_none G (Cell.cell (Kind.row k) i r) h = absurd h
ungiven_none G (Cell.cell (Kind.flat k) i r) h = absurd h
ungiven_none G (Cell.cell (Kind.x k) i r) h = absurd h
ungiven_none G (Cell.cell Kind.exp i r) h = refl
ungiven_none G (Cell.cell Kind.tmp i r) h = refl
ungiven_none G (Cell.cell Kind.f i r) h = refl
ungiven_none G (Cell.cell Kind.tmp_exp i r) h = refl
ungiven_none G (Cell.cell (Kind.bare k) i r) h = refl

module _ (𝓐 : Algebra) (G : Given 𝓐.A) where
  -- what a store holds stands in ds
  abbrev Within : Store 𝓐.A → List Cell → Type 0
  Within s ds = (c : Cell) (v : 𝓐.A) → s c ≡ some v → Member c ds

  abbrev Reads : Store 𝓐.A → Ref → Type 0
  Reads s r = (v : 𝓐.A) × (read 𝓐 G s r ≡ some v)

  reads-written : (s : Store 𝓐.A) (ds : List Cell) → Within s ds → (r : Ref) → Reads s r → Written ds r
  reads-written s ds w (Ref.var c) h = λ u. go u (s (place c)) refl h.1
    where
      go : Ungiven c → (o : Option 𝓐.A) → s (place c) ≡ o → either o (before G c) ≡ some h.0 → Member (place c) ds
      go u none q k = absurd (none-ne-some h.0 (sym (ungiven_none G c u) ∙ k))
      go u (some x) q k = w (place c) x q
  reads-written s ds w (Ref.number l n) h = tt

  -- a step that computes read each source it needs
  one-reads : (s : Store 𝓐.A) (rs : List Ref) {v : 𝓐.A} → computes 𝓐 G s StepOp.copy rs ≡ some v → Each (Reads s) (up_to 1 rs)
  one-reads s [] h = tt
  one-reads s (a ∷ rs) {v} h = ((v, h), tt)

  two-reads : (s : Store 𝓐.A) (rs : List Ref) (g : 𝓐.A → 𝓐.A → 𝓐.A) {v : 𝓐.A} → two (read_all 𝓐 G s rs) g ≡ some v → Each (Reads s) (up_to 2 rs)
  two-reads s [] g h = tt
  two-reads s (a ∷ []) g {v} h = absurd (none-ne-some v h)
  two-reads s (a ∷ b ∷ rs) g h =
      let x = bind-some (read 𝓐 G s a) _ h in
      let y = bind-some (read 𝓐 G s b) _ x.2 in
      ((x.0, x.1), ((y.0, y.1), tt))

  three-reads : (s : Store 𝓐.A) (rs : List Ref) (g : 𝓐.A → 𝓐.A → 𝓐.A → 𝓐.A) {v : 𝓐.A} → three (read_all 𝓐 G s rs) g ≡ some v → Each (Reads s) (up_to 3 rs)
  three-reads s [] g h = tt
  three-reads s (a ∷ []) g {v} h = absurd (none-ne-some v h)
  three-reads s (a ∷ b ∷ []) g {v} h = absurd (none-ne-some v h)
  three-reads s (a ∷ b ∷ c ∷ rs) g h =
      let x = bind-some (read 𝓐 G s a) _ h in
      let y = bind-some (read 𝓐 G s b) _ x.2 in
      let z = bind-some (read 𝓐 G s c) _ y.2 in
      ((x.0, x.1), ((y.0, y.1), ((z.0, z.1), tt)))

  step-reads : (s : Store 𝓐.A) (o : StepOp) (rs : List Ref) {v : 𝓐.A} → computes 𝓐 G s o rs ≡ some v → Each (Reads s) (up_to (needs o) rs)
  step-reads s StepOp.add rs h = two-reads s rs 𝓐.plus h
  step-reads s StepOp.sub rs h = two-reads s rs 𝓐.minus h
  step-reads s StepOp.mul rs h = two-reads s rs 𝓐.times h
  step-reads s StepOp.muladd rs h = three-reads s rs _ h
  step-reads s StepOp.copy rs h = one-reads s rs h

  write-within : (s s' : Store 𝓐.A) (ds : List Cell) → Within s ds → (d : Ref) (w : 𝓐.A) → write s d w ≡ some s' → Within s' (writing d ds)
  write-within s s' ds i (Ref.var d) w h c v k = go (writable d) h
    where
      at : (b : Bool) → same (place d) c ≡ b → cond b (some w) (s c) ≡ some v → (place d ≡ c) ⊎ Member c ds
      at true q z = inl (same_eq (place d) c q)
      at false q z = inr (i c v z)

      go : (b : Bool) → cond b (some (set s (place d) w)) none ≡ some s' → (place d ≡ c) ⊎ Member c ds
      go false q = absurd (none-ne-some s' q)
      go true q = at (same (place d) c) refl (subst (λ (z : Store 𝓐.A). z c ≡ some v) (sym (some-injective _ _ q)) k)
  write-within s s' ds i (Ref.number l n) w h c v k = absurd (none-ne-some s' h)

  run-early : (xs : List Step) (s s' : Store 𝓐.A) (ds : List Cell) → Within s ds → run 𝓐 G xs s ≡ some s' → NoEarlyRead ds xs
  run-early [] s s' ds i h = tt
  run-early (x ∷ xs) s s' ds i h =
      let y = bind-some (exec 𝓐 G x s) _ h in
      let z = bind-some (computes 𝓐 G s x.op x.sources) _ y.1 in (
        each_map (Reads s) (Written ds) (reads-written s ds i) (up_to (needs x.op) x.sources) (step-reads s x.op x.sources z.1),
        run-early xs y.0 s' (writing x.destination ds) (write-within s y.0 ds i x.destination z.0 z.2) y.2,
      )

  -- WHAT RUNS READS NOTHING EARLY
  pub runs_in_order : (xs : List Step) (s : Store 𝓐.A) → run 𝓐 G xs empty ≡ some s → NoEarlyRead [] xs
  runs_in_order xs s h = run-early xs empty s [] (λ c v q. absurd (none-ne-some v q)) h
