-- Laws of the cells written: whatever a run leaves a value in is among them, and stands in the answer with that value; there are no more of them than steps.
-- Assumes nothing.
use Rattle.std.specs.Prelude.{ℕ, ◌≤◌, ◌+◌, ◌≡◌, refl, Bool, true, false, cond, ◌||◌, length}
use Rattle.std.proofs.Math.Path.{subst}
use Rattle.std.proofs.Math.Option.{none, some, none-ne-some}
use mathlib.Core.List.{List, [], ◌∷◌, ◌++◌}
use Rattle.std.proofs.Common.{inl, inr, arith, length-append}
use Rattle.meaning.specs.Trees.{Each, Member}
use Rattle.meaning.specs.Values.{Algebra, Given}
use Rattle.meaning.specs.Steps.{Cell, same, place, Ref, Step}
use Rattle.meaning.specs.Running as running
use Rattle.meaning.specs.Running.{Store, writable, computes, exec, run}
use Rattle.meaning.proofs.Laws.Tests.{bind-some, each-join, each_map}
use Rattle.meaning.proofs.Laws.Cells.{same_eq, same_refl}
use Rattle.evaluator_run.specs.Evaluation.{is_among, adding, writing, written_after, Valued, valued_by}

member-left : {A : Type 0} (a : A) (xs ys : List A) → Member a xs → Member a (xs ++ ys)
member-left a [] ys h = absurd h
member-left a (x ∷ xs) ys (inl e) = inl e
member-left a (x ∷ xs) ys (inr h) = inr (member-left a xs ys h)

member-last : {A : Type 0} (a : A) (xs : List A) → Member a (xs ++ (a ∷ []))
member-last a [] = inl refl
member-last a (x ∷ xs) = inr (member-last a xs)

among-member : (c : Cell) (ds : List Cell) → is_among c ds ≡ true → Member c ds
unfolding is_among
among-member c [] h = absurd (let z : ◌≡◌ {A = ℕ} 0 1 = cc in omega arith)
among-member c (d ∷ ds) h = by (among-member c ds) (same d c) refl h
  where
    by : (is_among c ds ≡ true → Member c ds) → (b : Bool) → same d c ≡ b → (b || is_among c ds) ≡ true → Member c (d ∷ ds)
    by ih true e h = inl (same_eq d c e)
    by ih false e h = inr (ih h)

adding-has : (c : Cell) (ds : List Cell) → Member c (adding c ds)
unfolding adding
adding-has c ds = by (is_among c ds) refl
  where
    by : (b : Bool) → is_among c ds ≡ b → Member c (cond b ds (ds ++ (c ∷ [])))
    by true e = among-member c ds e
    by false e = member-last c ds

adding-keeps : (c d : Cell) (ds : List Cell) → Member d ds → Member d (adding c ds)
unfolding adding
adding-keeps c d ds h = by (is_among c ds)
  where
    by : (b : Bool) → Member d (cond b ds (ds ++ (c ∷ [])))
    by true = h
    by false = member-left d ds (c ∷ []) h

module _ (𝓐 : Algebra) (G : Given 𝓐.A) where
  -- what holds a value is among ds
  abbrev Covers : Store 𝓐.A → List Cell → Type 0
  Covers s ds = (c : Cell) (v : 𝓐.A) → s c ≡ some v → Member c ds

  set_covers : (s : Store 𝓐.A) (ds : List Cell) (p : Cell) (v : 𝓐.A) → Covers s ds → Covers (running.set s p v) (adding p ds)
  set_covers s ds p v h c u e = by (same p c) refl e
    where
      by : (b : Bool) → same p c ≡ b → cond b (some v) (s c) ≡ some u → Member c (adding p ds)
      by true q e = subst (λ (d : Cell). Member d (adding p ds)) (same_eq p c q) (adding-has p ds)
      by false q e = adding-keeps p c ds (h c u e)

  write_covers : (s s' : Store 𝓐.A) (ds : List Cell) (d : Ref) (v : 𝓐.A) → Covers s ds → running.write s d v ≡ some s' → Covers s' (writing d ds)
  write_covers s s' ds (Ref.number l n) v h e = absurd (none-ne-some s' e)
  write_covers s s' ds (Ref.var c) v h e = by (writable c) e
    where
      by : (b : Bool) → cond b (some (running.set s (place c) v)) none ≡ some s' → Covers s' (adding (place c) ds)
      by true e =
          let q : running.set s (place c) v ≡ s' = cc in
          subst (λ (z : Store 𝓐.A). Covers z (adding (place c) ds)) q (set_covers s ds (place c) v h)
      by false e = absurd (none-ne-some s' e)

  pub run_covers : (xs : List Step) (s s' : Store 𝓐.A) (ds : List Cell) → Covers s ds → run 𝓐 G xs s ≡ some s' → Covers s' (written_after ds xs)
  unfolding written_after
  run_covers [] s s' ds h e =
      let q : s ≡ s' = cc in
      subst (λ (z : Store 𝓐.A). Covers z ds) q h
  run_covers (x ∷ xs) s s' ds h e =
      let a = bind-some (exec 𝓐 G x s) (λ s₁. run 𝓐 G xs s₁) e in
      let b = bind-some (computes 𝓐 G s x.op x.sources) (λ v. running.write s x.destination v) a.1 in
      run_covers xs a.0 s' (writing x.destination ds) (write_covers s a.0 ds x.destination b.0 h b.2) a.2

  -- EVERY CELL WRITTEN HOLDS A VALUE at the end of a run
  abbrev pub Has : Store 𝓐.A → Cell → Type 0
  Has s c = (v : 𝓐.A) × (s c ≡ some v)

  set-has : (s : Store 𝓐.A) (p : Cell) (v : 𝓐.A) (c : Cell) → Has s c → Has (running.set s p v) c
  set-has s p v c h = by (same p c)
    where
      by : (b : Bool) → (u : 𝓐.A) × (cond b (some v) (s c) ≡ some u)
      by true = (v, refl)
      by false = h

  set_here : (s : Store 𝓐.A) (p : Cell) (v : 𝓐.A) → Has (running.set s p v) p
  set_here s p v = (v, rw (same_refl p))

  adding-has-values : (s : Store 𝓐.A) (ds : List Cell) (p : Cell) (v : 𝓐.A) → Each (Has s) ds → Each (Has (running.set s p v)) (adding p ds)
  unfolding adding
  adding-has-values s ds p v h = by (is_among p ds)
    where
      older : Each (Has (running.set s p v)) ds
      older = each_map (Has s) (Has (running.set s p v)) (set-has s p v) ds h

      by : (b : Bool) → Each (Has (running.set s p v)) (cond b ds (ds ++ (p ∷ [])))
      by true = older
      by false = each-join (Has (running.set s p v)) ds (p ∷ []) older (set_here s p v, tt)

  write-has : (s s' : Store 𝓐.A) (ds : List Cell) (d : Ref) (v : 𝓐.A) → Each (Has s) ds → running.write s d v ≡ some s' → Each (Has s') (writing d ds)
  write-has s s' ds (Ref.number l n) v h e = absurd (none-ne-some s' e)
  write-has s s' ds (Ref.var c) v h e = by (writable c) e
    where
      by : (b : Bool) → cond b (some (running.set s (place c) v)) none ≡ some s' → Each (Has s') (adding (place c) ds)
      by true e =
          let q : running.set s (place c) v ≡ s' = cc in
          subst (λ (z : Store 𝓐.A). Each (Has z) (adding (place c) ds)) q (adding-has-values s ds (place c) v h)
      by false e = absurd (none-ne-some s' e)

  pub run-has : (xs : List Step) (s s' : Store 𝓐.A) (ds : List Cell) → Each (Has s) ds → run 𝓐 G xs s ≡ some s' → Each (Has s') (written_after ds xs)
  unfolding written_after
  run-has [] s s' ds h e =
      let q : s ≡ s' = cc in
      subst (λ (z : Store 𝓐.A). Each (Has z) ds) q h
  run-has (x ∷ xs) s s' ds h e =
      let a = bind-some (exec 𝓐 G x s) (λ s₁. run 𝓐 G xs s₁) e in
      let b = bind-some (computes 𝓐 G s x.op x.sources) (λ v. running.write s x.destination v) a.1 in
      run-has xs a.0 s' (writing x.destination ds) (write-has s a.0 ds x.destination b.0 h b.2) a.2

-- it stands in the answer with its value
pub valued-member : (s : Store ℕ) (cs : List Cell) (c : Cell) (v : ℕ) → Member c cs → s c ≡ some v → Member {A = Valued} (record { cell = c; value = v }) (valued_by s cs)
unfolding valued_by
valued-member s [] c v h e = absurd h
valued-member s (d ∷ cs) c v (inl q) e = inl (rw (q, e))
valued-member s (d ∷ cs) c v (inr h) e = inr (valued-member s cs c v h e)

-- ---- how many

adding-one : (c : Cell) (ds : List Cell) → length (adding c ds) ≤ length ds + 1
unfolding adding
adding-one c ds = by (is_among c ds)
  where
    by : (b : Bool) → length (cond b ds (ds ++ (c ∷ []))) ≤ length ds + 1
    by true = omega arith
    by false = rw (length-append ds (c ∷ [])) (omega arith)

writing-one : (d : Ref) (ds : List Cell) → length (writing d ds) ≤ length ds + 1
writing-one (Ref.var c) ds = adding-one (place c) ds
writing-one (Ref.number l n) ds = omega arith

pub written-few : (xs : List Step) (ds : List Cell) → length (written_after ds xs) ≤ length ds + length xs
unfolding written_after
written-few [] ds = omega arith
written-few (x ∷ xs) ds = omega (arith, writing-one x.destination ds, written-few xs (writing x.destination ds))
