-- Running commutes with a renaming of cells that is one to one on the cells that occur and keeps what is given.
-- Assumes nothing.
use Rattle.std.specs.Prelude.{◌≡◌, refl, Bool, true, false, cond, List, [], ◌∷◌, ◌⊎◌}
use Rattle.std.proofs.Common.{sym, subst, inl, inr}
use Rattle.std.proofs.Math.Option.{Option, none, some, none-ne-some, some-injective}
use Rattle.meaning.specs.Trees.{Each}
use Rattle.meaning.specs.Steps.{Cell, same, place, Ref, StepOp, Step, step}
use Rattle.meaning.specs.Values.{Algebra, Given, bind}
use Rattle.meaning.specs.Running.{Store, set, writable, write, before, either, two, three, read, read_all, computes, exec, run}
use Rattle.meaning.proofs.Laws.Tests.{true-false, bind-some}
use Rattle.meaning.proofs.Laws.Cells.{same_refl, same_eq, same_not}
use Rattle.fixed_meaning.specs.Fixing.{rename_ref}

-- ── renaming ─────────────────────────────────────────────────────────────────
module _ (f : Cell → Cell) where
  abbrev pub rename_refs : List Ref → List Ref
  rename_refs [] = []
  rename_refs (x ∷ xs) = rename_ref f x ∷ rename_refs xs

  abbrev pub rename_step : Step → Step
  rename_step x = step x.op (rename_ref f x.destination) (rename_refs x.sources)

  abbrev pub rename : List Step → List Step
  rename [] = []
  rename (x ∷ xs) = rename_step x ∷ rename xs

-- P holds of the cell of a reference, and of every cell of a list
module _ (P : Cell → Type 0) where
  abbrev pub InRef : Ref → Type 0
  InRef (Ref.var c) = P c
  InRef (Ref.number l n) = Unit {0}

  abbrev pub InStep : Step → Type 0
  InStep x = InRef x.destination × Each InRef x.sources

  abbrev pub In : List Step → Type 0
  In xs = Each InStep xs

-- What is asked of a renaming f of the cells of P. A temporary is its number, so cells are told apart by their places.
pub record Renaming {A : Type 0} (G : Given A) (P : Cell → Type 0) (f : Cell → Cell) : Type 0 where
  pub apart : (c d : Cell) → P c → P d → place (f c) ≡ place (f d) → place c ≡ place d
  pub together : (c d : Cell) → P c → P d → place c ≡ place d → place (f c) ≡ place (f d)
  pub given : (c : Cell) → P c → (v : A) → before G c ≡ some v → before G (f c) ≡ some v
  pub writes : (c : Cell) → P c → writable c ≡ true → writable (f c) ≡ true

module _ (𝓐 : Algebra) (G : Given 𝓐.A) (P : Cell → Type 0) (f : Cell → Cell) (R : Renaming G P f) where
  -- the second store holds for f c what the first holds for c
  pub record Follows (s s' : Store 𝓐.A) : Type 0 where
    pub holds : (c : Cell) → P c → s' (place (f c)) ≡ s (place c)

  same_renamed : (c d : Cell) → P c → P d → same (place (f c)) (place (f d)) ≡ same (place c) (place d)
  same_renamed c d p q = go (same (place c) (place d)) refl
    where
      go : (b : Bool) → same (place c) (place d) ≡ b → same (place (f c)) (place (f d)) ≡ b
      go true h = subst (λ x. same (place (f c)) x ≡ true) (R.together c d p q (same_eq _ _ h)) (same_refl (place (f c)))
      go false h =
          same_not (place (f c)) (place (f d))
          (λ e. true-false (subst (λ x. same (place c) x ≡ true) (R.apart c d p q e) (same_refl (place c))) h)

  read_renamed : {s s' : Store 𝓐.A} → Follows s s' → (x : Ref) → InRef P x → {v : 𝓐.A} → read 𝓐 G s x ≡ some v → read 𝓐 G s' (rename_ref f x) ≡ some v
  read_renamed {s} {s'} m (Ref.var c) p {v} h = rw (m.holds c p) (go (s (place c)) h)
    where
      go : (o : Option 𝓐.A) → either o (before G c) ≡ some v → either o (before G (f c)) ≡ some v
      go none k = R.given c p v k
      go (some w) k = k
  read_renamed m (Ref.number l n) p h = h

  -- what a step computes; a source beyond what it needs may be unreadable
  module _ {s s' : Store 𝓐.A} (m : Follows s s') where
    one_renamed : (xs : List Ref) → Each (InRef P) xs → {v : 𝓐.A} → computes 𝓐 G s StepOp.copy xs ≡ some v → computes 𝓐 G s' StepOp.copy (rename_refs f xs) ≡ some v
    one_renamed [] p h = h
    one_renamed (a ∷ xs) p h = read_renamed m a p.0 h

    two_renamed :
        (g : 𝓐.A → 𝓐.A → 𝓐.A) (xs : List Ref) → Each (InRef P) xs → {v : 𝓐.A} →
        two (read_all 𝓐 G s xs) g ≡ some v → two (read_all 𝓐 G s' (rename_refs f xs)) g ≡ some v
    two_renamed g [] p {v} h = absurd (none-ne-some v h)
    two_renamed g (a ∷ []) p {v} h = absurd (none-ne-some v h)
    two_renamed g (a ∷ b ∷ xs) p h =
        let x = bind-some (read 𝓐 G s a) _ h in
        let y = bind-some (read 𝓐 G s b) _ x.2 in
        rw (read_renamed m a p.0 x.1, read_renamed m b p.1.0 y.1) y.2

    three_renamed :
        (g : 𝓐.A → 𝓐.A → 𝓐.A → 𝓐.A) (xs : List Ref) → Each (InRef P) xs → {v : 𝓐.A} →
        three (read_all 𝓐 G s xs) g ≡ some v → three (read_all 𝓐 G s' (rename_refs f xs)) g ≡ some v
    three_renamed g [] p {v} h = absurd (none-ne-some v h)
    three_renamed g (a ∷ []) p {v} h = absurd (none-ne-some v h)
    three_renamed g (a ∷ b ∷ []) p {v} h = absurd (none-ne-some v h)
    three_renamed g (a ∷ b ∷ c ∷ xs) p h =
        let x = bind-some (read 𝓐 G s a) _ h in
        let y = bind-some (read 𝓐 G s b) _ x.2 in
        let z = bind-some (read 𝓐 G s c) _ y.2 in
        rw (read_renamed m a p.0 x.1, read_renamed m b p.1.0 y.1, read_renamed m c p.1.1.0 z.1) z.2

    computes_renamed : (o : StepOp) (xs : List Ref) → Each (InRef P) xs → {v : 𝓐.A} → computes 𝓐 G s o xs ≡ some v → computes 𝓐 G s' o (rename_refs f xs) ≡ some v
    computes_renamed StepOp.add = two_renamed 𝓐.plus
    computes_renamed StepOp.sub = two_renamed 𝓐.minus
    computes_renamed StepOp.mul = two_renamed 𝓐.times
    computes_renamed StepOp.muladd = three_renamed (λ u v w. 𝓐.plus (𝓐.times u v) w)
    computes_renamed StepOp.copy = one_renamed

    write_renamed :
        {t : Store 𝓐.A} (d : Ref) → InRef P d → (v : 𝓐.A) → write s d v ≡ some t →
        (t' : Store 𝓐.A) × (write s' (rename_ref f d) v ≡ some t') × Follows t t'
    write_renamed {t} (Ref.var c) p v h = go (writable c) refl h
      where
        go :
            (b : Bool) → writable c ≡ b → cond b (some (set s (place c) v)) none ≡ some t →
            (t' : Store 𝓐.A) × (write s' (Ref.var (f c)) v ≡ some t') × Follows t t'
        go false w k = absurd (none-ne-some t k)
        go true w k = (
          set s' (place (f c)) v,
          rw (R.writes c p w),
          subst (λ z. Follows z (set s' (place (f c)) v)) (some-injective _ _ k) (record { holds = λ d q. rw (same_renamed c d p q, m.holds d q) }),
        )
    write_renamed {t} (Ref.number l n) p v h = absurd (none-ne-some t h)

    exec_renamed : {t : Store 𝓐.A} (x : Step) → InStep P x → exec 𝓐 G x s ≡ some t → (t' : Store 𝓐.A) × (exec 𝓐 G (rename_step f x) s' ≡ some t') × Follows t t'
    exec_renamed x p h =
        let y = bind-some (computes 𝓐 G s x.op x.sources) _ h in
        let z = write_renamed x.destination p.0 y.0 y.2 in
        (z.0, bind_to _ _ y.0 (computes_renamed x.op x.sources p.1 y.1) z.1, z.2)
      where
        bind_to : {A B : Type 0} (o : Option A) (g : A → Option B) (a : A) {b : B} → o ≡ some a → g a ≡ some b → bind o g ≡ some b
        bind_to o g a h k = rw h k

  -- A RUN THAT SUCCEEDS, SUCCEEDS RENAMED
  pub run_renamed :
      {s s' t : Store 𝓐.A} → Follows s s' → (xs : List Step) → In P xs → run 𝓐 G xs s ≡ some t →
      (t' : Store 𝓐.A) × (run 𝓐 G (rename f xs) s' ≡ some t') × Follows t t'
  run_renamed {s} {s'} {t} m [] p h = (s', refl, subst (λ z. Follows z s') (some-injective _ _ h) m)
  run_renamed {s} {s'} {t} m (x ∷ xs) p h =
      let y = bind-some (exec 𝓐 G x s) _ h in
      let z = exec_renamed m x p.0 y.1 in
      let w = run_renamed {s = y.0} {s' = z.0} z.2 xs p.1 y.2 in
      (w.0, rw z.1 w.1, w.2)

-- ── what a run writes ────────────────────────────────────────────────────────
-- a cell that holds a value after a run held it before, or is the place of a step's destination
module _ (𝓐 : Algebra) (G : Given 𝓐.A) (P : Cell → Type 0) (placed : (c : Cell) → P c → P (place c)) where
  write-destination :
      (s t : Store 𝓐.A) (d : Ref) → InRef P d → (w : 𝓐.A) → write s d w ≡ some t → (c : Cell) (v : 𝓐.A) → t c ≡ some v → (s c ≡ some v) ⊎ P c
  write-destination s t (Ref.var d) p w h c v k = go (writable d) h
    where
      at : (b : Bool) → same (place d) c ≡ b → cond b (some w) (s c) ≡ some v → (s c ≡ some v) ⊎ P c
      at true q z = inr (subst P (same_eq (place d) c q) (placed d p))
      at false q z = inl z

      go : (b : Bool) → cond b (some (set s (place d) w)) none ≡ some t → (s c ≡ some v) ⊎ P c
      go false q = absurd (none-ne-some t q)
      go true q = at (same (place d) c) refl (subst (λ (z : Store 𝓐.A). z c ≡ some v) (sym (some-injective _ _ q)) k)
  write-destination s t (Ref.number l n) p w h c v k = absurd (none-ne-some t h)

  pub run-destination :
      (xs : List Step) (s t : Store 𝓐.A) → In P xs → run 𝓐 G xs s ≡ some t → (c : Cell) (v : 𝓐.A) → t c ≡ some v → (s c ≡ some v) ⊎ P c
  run-destination [] s t p h c v k = inl (subst (λ (z : Store 𝓐.A). z c ≡ some v) (sym (some-injective _ _ h)) k)
  run-destination (x ∷ xs) s t p h c v k =
      let y = bind-some (exec 𝓐 G x s) _ h in
      let z = bind-some (computes 𝓐 G s x.op x.sources) _ y.1 in
      go (y.0 c) (write-destination s y.0 x.destination p.0.0 z.0 z.2 c v) (run-destination xs y.0 t p.1 y.2 c v k)
    where
      go : (o : Option 𝓐.A) → (o ≡ some v → (s c ≡ some v) ⊎ P c) → (o ≡ some v) ⊎ P c → (s c ≡ some v) ⊎ P c
      go o f (inl q) = f q
      go o f (inr q) = inr q
