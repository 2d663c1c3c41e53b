-- A step's record with its dimensions written one by one: it is the record of the step with its dimensions.
-- Assumes nothing.
use Prim.Native.Nat.{ℕ, zero, suc, max, ◌+◌, ◌*◌, ◌≤◌}
use Rattle.std.specs.Prelude.{◌≡◌, Bool, true, false, cond, List, [], ◌∷◌, ◌++◌, ltb}
use Rattle.std.proofs.Math.Path.{refl, sym, ap}
use Rattle.std.proofs.Common.{◌∙◌, inl, inr, add-one, arith}
use Rattle.std.proofs.Math.Option.{Option, none}
use Rattle.kinds.specs.Write.{write}
use Rattle.kinds.specs.BigEndian.{u16_bytes, u16-sized}
use Rattle.kinds.specs.KindLaws.{sources-small}
use Rattle.kinds.specs.References.{ref_at, ref_bytes, ref-kept}
use Rattle.kinds.specs.Steps.{step_at, head_bytes, step_bytes, step-sized}
use Rattle.kinds.specs.StepOps.{sources_needed}
use Rattle.kinds.specs.declared.reference.Reference.{Reference}
use Rattle.kinds.specs.declared.step.Step.{Step}
use Rattle.meaning.specs.Refusals.{Refusal, Answer, done, refused, ◌then◌}
use Rattle.lists.specs.Parts.{Bytes, write-over, replace, step-there}
use Rattle.step_dimensions.specs.Rules.{is_destination}
use Rattle.step_dimensions.specs.StepDimensions.{Given, source_dim, source_dims, largest, sized, sized_step, met, step_with}
use Rattle.step_dimensions.specs.Laws.Steps.{nothing-ruled}
use Rattle.step_dimensions.specs.Laws.Known.{most-one, most-two, most-three, noted-at}
use Rattle.step_dimensions.specs.Known.{dim_of, noted_at, known_dim, put_dims, most_put, WritesDims}

-- ---- a record with one dimension more

-- the bytes of a reference around its dimension
module _ (r : Reference) where
  abbrev before : List ℕ
  before = (r.kind ∷ r.prime ∷ []) ++ u16_bytes r.id

  abbrev beyond : List ℕ
  beyond = u16_bytes r.p ++ u16_bytes r.tree_pos ++ u16_bytes r.extra

abbrev step_of : Step → Reference → Reference → Reference → Reference → Step
step_of s d a b c = record { op = s.op; count = s.count; origin = s.origin; dest = d; s0 = a; s1 = b; s2 = c }

module _ (l l₁ : List ℕ) (at : ℕ) (s : Step) (e : l₁ ≡ write l at (step_bytes s)) (d : ℕ) where
  there : write l₁ at (step_bytes s) ≡ l₁
  there = ap (λ (m : List ℕ). write m at (step_bytes s)) e ∙ write-over l at (step_bytes s) (step_bytes s) refl ∙ sym e

  over : (s' : Step) → write l₁ at (step_bytes s') ≡ write l at (step_bytes s')
  over s' = ap (λ (m : List ℕ). write m at (step_bytes s')) e ∙ write-over l at (step_bytes s) (step_bytes s') (step-sized s ∙ sym (step-sized s'))

  abbrev head : List ℕ
  head = head_bytes s.op s.count s.origin

  size-dest : write l₁ (at + 8) (u16_bytes d) ≡ write l at (step_bytes (step_of s (sized s.dest d) s.s0 s.s1 s.s2))
  unfolding step_bytes head_bytes ref_bytes u16_bytes
  size-dest =
      replace l₁ at (head ++ before s.dest) (u16_bytes s.dest.dim) (u16_bytes d) (beyond s.dest ++ ref_bytes s.s0 ++ ref_bytes s.s1 ++ ref_bytes s.s2) there refl
      ∙ over (step_of s (sized s.dest d) s.s0 s.s1 s.s2)

  size_0 : write l₁ (at + 20) (u16_bytes d) ≡ write l at (step_bytes (step_of s s.dest (sized s.s0 d) s.s1 s.s2))
  unfolding step_bytes head_bytes ref_bytes u16_bytes
  size_0 =
      replace l₁ at (head ++ ref_bytes s.dest ++ before s.s0) (u16_bytes s.s0.dim) (u16_bytes d) (beyond s.s0 ++ ref_bytes s.s1 ++ ref_bytes s.s2) there refl
      ∙ over (step_of s s.dest (sized s.s0 d) s.s1 s.s2)

  size_1 : write l₁ (at + 32) (u16_bytes d) ≡ write l at (step_bytes (step_of s s.dest s.s0 (sized s.s1 d) s.s2))
  unfolding step_bytes head_bytes ref_bytes u16_bytes
  size_1 =
      replace l₁ at (head ++ ref_bytes s.dest ++ ref_bytes s.s0 ++ before s.s1) (u16_bytes s.s1.dim) (u16_bytes d) (beyond s.s1 ++ ref_bytes s.s2) there refl
      ∙ over (step_of s s.dest s.s0 (sized s.s1 d) s.s2)

  size_2 : write l₁ (at + 44) (u16_bytes d) ≡ write l at (step_bytes (step_of s s.dest s.s0 s.s1 (sized s.s2 d)))
  unfolding step_bytes head_bytes ref_bytes u16_bytes
  size_2 =
      replace l₁ at (head ++ ref_bytes s.dest ++ ref_bytes s.s0 ++ ref_bytes s.s1 ++ before s.s2) (u16_bytes s.s2.dim) (u16_bytes d) (beyond s.s2) there refl
      ∙ over (step_of s s.dest s.s0 s.s1 (sized s.s2 d))

-- ---- what a step that has its dimensions is

never : {A B : Type 0} {r : Refusal} {n : Option ℕ} {a : A} → ◌≡◌ {A = Answer A} (refused r n) (done a) → B
never e = absurd (let z : ◌≡◌ {A = ℕ} 0 1 = cc in omega arith)

module _ (g : Given) (ts : List ℕ) (s y : Step) where
  abbrev asked : ℕ → Reference → Answer ℕ
  asked k r = source_dim g ts (met (ltb k s.count) r)

  -- a source that has one is there
  known-met : (t : Bool) (r : Reference) (a : ℕ) → source_dim g ts (met t r) ≡ done a → a ≡ known_dim g ts r
  known-met true r a e = sym (ap dim_of e)
  known-met false r a e = never (sym (nothing-ruled g ts) ∙ e)

  abbrev ends : List ℕ → Answer Step
  ends ds = cond (is_destination s.dest.kind) (done (sized_step s ds)) (refused Refusal.no_rule none)

  ended : (t : Bool) (z : Step) → cond t (done z) (refused Refusal.no_rule none) ≡ done y → y ≡ z
  ended true z e = cc
  ended false z e = never e

  module _ (h : step_with g ts s ≡ done y) where
    not-zero : sources_needed s.op ≡ 0 → ⊥
    unfolding step_with
    not-zero n = let z : refused Refusal.no_rule none ≡ done y = rw n at h in never z

    is_one : sources_needed s.op ≡ 1 → y ≡ sized_step s (known_dim g ts s.s0 ∷ [])
    unfolding step_with source_dims
    is_one n = by (asked 0 s.s0) refl (rw n at h)
      where
        by : (A : Answer ℕ) → asked 0 s.s0 ≡ A → ((A then λ a. done (a ∷ [])) then ends) ≡ done y → y ≡ sized_step s (known_dim g ts s.s0 ∷ [])
        by (done a) e q = rw (← known-met (ltb 0 s.count) s.s0 a e) (ended (is_destination s.dest.kind) (sized_step s (a ∷ [])) q)
        by (refused r k) e q = never q

    is-two : sources_needed s.op ≡ 2 → y ≡ sized_step s (known_dim g ts s.s0 ∷ known_dim g ts s.s1 ∷ [])
    unfolding step_with source_dims
    is-two n = by (asked 0 s.s0) (asked 1 s.s1) refl refl (rw n at h)
      where
        by : (A B : Answer ℕ) → asked 0 s.s0 ≡ A → asked 1 s.s1 ≡ B → ((A then λ a. (B then λ b. done (b ∷ [])) then λ ds. done (a ∷ ds)) then ends) ≡ done y
            → y ≡ sized_step s (known_dim g ts s.s0 ∷ known_dim g ts s.s1 ∷ [])
        by (done a) (done b) e f q =
            rw (← known-met (ltb 0 s.count) s.s0 a e, ← known-met (ltb 1 s.count) s.s1 b f) (ended (is_destination s.dest.kind) (sized_step s (a ∷ b ∷ [])) q)
        by (done a) (refused r k) e f q = never q
        by (refused r k) B e f q = never q

    is-three : sources_needed s.op ≡ 3 → y ≡ sized_step s (known_dim g ts s.s0 ∷ known_dim g ts s.s1 ∷ known_dim g ts s.s2 ∷ [])
    unfolding step_with source_dims
    is-three n = by (asked 0 s.s0) (asked 1 s.s1) (asked 2 s.s2) refl refl refl (rw n at h)
      where
        by : (A B C : Answer ℕ) → asked 0 s.s0 ≡ A → asked 1 s.s1 ≡ B → asked 2 s.s2 ≡ C
            → ((A then λ a. (B then λ b. (C then λ c. done (c ∷ [])) then λ ds. done (b ∷ ds)) then λ ds. done (a ∷ ds)) then ends) ≡ done y
            → y ≡ sized_step s (known_dim g ts s.s0 ∷ known_dim g ts s.s1 ∷ known_dim g ts s.s2 ∷ [])
        by (done a) (done b) (done c) e f i q =
            rw (← known-met (ltb 0 s.count) s.s0 a e, ← known-met (ltb 1 s.count) s.s1 b f, ← known-met (ltb 2 s.count) s.s2 c i)
            (ended (is_destination s.dest.kind) (sized_step s (a ∷ b ∷ c ∷ [])) q)
        by (done a) (done b) (refused r k) e f i q = never q
        by (done a) (refused r k) C e f i q = never q
        by (refused r k) B C e f i q = never q

-- ---- the loop

module _ (g : Given) (ts l : List ℕ) (at : ℕ) where
  pub put-begin : (l ≡ put_dims g ts l at 0) × (0 ≡ most_put g ts l at 0)
  unfolding put_dims most_put
  put-begin = (refl, refl)

  pub put_next :
      (k : ℕ) (l₁ l₂ : List ℕ) (m d n : ℕ) → l₁ ≡ put_dims g ts l at k → m ≡ most_put g ts l at k → d ≡ known_dim g ts (ref_at l₁ (at + 16 + 12 * k))
      → l₂ ≡ write l₁ (at + 20 + 12 * k) (u16_bytes d) → n ≡ max m d → (l₂ ≡ put_dims g ts l at (k + 1)) × (n ≡ most_put g ts l at (k + 1))
  unfolding put_dims most_put
  put_next k l₁ l₂ m d n e f i w q = (rw (add-one k) (w ∙ rw (i, e)), rw (add-one k) (q ∙ rw (f, i, e)))

  put-at :
      (k i j : ℕ) (l₁ : List ℕ) → put_dims g ts l at k ≡ l₁ → at + 20 + 12 * k ≡ i → at + 16 + 12 * k ≡ j → ref_at l₁ j ≡ ref_at l j
      → (put_dims g ts l at (suc k) ≡ write l₁ i (u16_bytes (known_dim g ts (ref_at l j)))) × (most_put g ts l at (suc k) ≡ max (most_put g ts l at k) (known_dim g ts (ref_at l j)))
  unfolding put_dims most_put
  put-at k i j l₁ e a b r = (rw (e, a, b, r), rw (e, b, r))

  -- ---- the whole record
  module _ (bytes : Bytes l) (y : Step) (h : step_with g ts (step_at l at) ≡ done y) where
    abbrev s : Step
    s = step_at l at

    abbrev d₀ : ℕ
    d₀ = known_dim g ts (ref_at l (at + 16))

    abbrev d₁ : ℕ
    d₁ = known_dim g ts (ref_at l (at + 28))

    abbrev d₂ : ℕ
    d₂ = known_dim g ts (ref_at l (at + 40))

    abbrev l₁ : List ℕ
    l₁ = write l (at + 20) (u16_bytes d₀)

    abbrev l₂ : List ℕ
    l₂ = write l₁ (at + 32) (u16_bytes d₁)

    abbrev l₃ : List ℕ
    l₃ = write l₂ (at + 44) (u16_bytes d₂)

    -- a reference that begins past what is written, and the destination, which ends before it
    past : (m : List ℕ) (i d j : ℕ) → i + 2 ≤ j → ref_at (write m i (u16_bytes d)) j ≡ ref_at m j
    past m i d j q = ref-kept m i (u16_bytes d) j (inr (omega (arith, u16-sized d)))

    before_it : (m : List ℕ) (i d : ℕ) → at + 16 ≤ i → ref_at (write m i (u16_bytes d)) (at + 4) ≡ ref_at m (at + 4)
    before_it m i d q = ref-kept m i (u16_bytes d) (at + 4) (inl (omega arith))

    one : (put_dims g ts l at 1 ≡ l₁) × (most_put g ts l at 1 ≡ max (most_put g ts l at 0) d₀)
    one = put-at 0 (at + 20) (at + 16) l (sym put-begin.0) (omega arith) (omega arith) refl

    two : (put_dims g ts l at 2 ≡ l₂) × (most_put g ts l at 2 ≡ max (most_put g ts l at 1) d₁)
    two = put-at 1 (at + 32) (at + 28) l₁ one.0 (omega arith) (omega arith) (past l (at + 20) d₀ (at + 28) (omega arith))

    three : (put_dims g ts l at 3 ≡ l₃) × (most_put g ts l at 3 ≡ max (most_put g ts l at 2) d₂)
    three =
        put-at 2 (at + 44) (at + 40) l₂ two.0 (omega arith) (omega arith)
        (past l₁ (at + 32) d₁ (at + 40) (omega arith) ∙ past l (at + 20) d₀ (at + 40) (omega arith))

    most₁ : most_put g ts l at 1 ≡ max 0 d₀
    most₁ = one.1 ∙ ap (λ m. max m d₀) (sym put-begin.1)

    most₂ : most_put g ts l at 2 ≡ max (max 0 d₀) d₁
    most₂ = two.1 ∙ ap (λ m. max m d₁) most₁

    most₃ : most_put g ts l at 3 ≡ max (max (max 0 d₀) d₁) d₂
    most₃ = three.1 ∙ ap (λ m. max m d₂) most₂

    abbrev s₁ : Step
    s₁ = step_of s s.dest (sized s.s0 d₀) s.s1 s.s2

    abbrev s₂ : Step
    s₂ = step_of s s.dest (sized s.s0 d₀) (sized s.s1 d₁) s.s2

    abbrev s₃ : Step
    s₃ = step_of s s.dest (sized s.s0 d₀) (sized s.s1 d₁) (sized s.s2 d₂)

    w₁ : l₁ ≡ write l at (step_bytes s₁)
    w₁ = size_0 l l at s (sym (step-there l at bytes)) d₀

    w₂ : l₂ ≡ write l at (step_bytes s₂)
    w₂ = size_1 l l₁ at s₁ w₁ d₁

    w₃ : l₃ ≡ write l at (step_bytes s₃)
    w₃ = size_2 l l₂ at s₂ w₂ d₂

    -- what a run of the loop over n sources leads to
    record Ended (n : ℕ) : Type 0 where
      bytes_are : write (put_dims g ts l at n) (at + 8) (u16_bytes (most_put g ts l at n)) ≡ write l at (step_bytes y)
      dest_is : y.dest ≡ sized (ref_at l (at + 4)) (most_put g ts l at n)
      stays : ref_at (put_dims g ts l at n) (at + 4) ≡ ref_at l (at + 4)

    ending :
        (n : ℕ) (l' : List ℕ) (s' : Step) → put_dims g ts l at n ≡ l' → l' ≡ write l at (step_bytes s') → s'.dest ≡ ref_at l (at + 4)
        → y ≡ step_of s' (sized s'.dest (most_put g ts l at n)) s'.s0 s'.s1 s'.s2 → ref_at l' (at + 4) ≡ ref_at l (at + 4) → Ended n
    ending n l' s' e w q i k =
        let m = most_put g ts l at n in
        record {
          bytes_are = ap (λ (z : List ℕ). write z (at + 8) (u16_bytes m)) e ∙ size-dest l l' at s' w m ∙ ap (λ z. write l at (step_bytes z)) (sym i);
          dest_is = ap (λ z. z.dest) i ∙ ap (λ r. sized r m) q;
          stays = ap (λ (z : List ℕ). ref_at z (at + 4)) e ∙ k;
        }

    ended_by : (n : ℕ) → n ≤ 3 → sources_needed s.op ≡ n → Ended n
    unfolding step_at largest
    ended_by zero q e = absurd (not-zero g ts s y h e)
    ended_by (suc zero) q e =
        ending 1 l₁ s₁ one.0 w₁ refl (is_one g ts s y h e ∙ ap (λ m. step_of s₁ (sized s.dest m) s₁.s0 s₁.s1 s₁.s2) (most-one d₀ ∙ sym most₁))
        (before_it l (at + 20) d₀ (omega arith))
    ended_by (suc (suc zero)) q e =
        ending 2 l₂ s₂ two.0 w₂ refl (is-two g ts s y h e ∙ ap (λ m. step_of s₂ (sized s.dest m) s₂.s0 s₂.s1 s₂.s2) (most-two d₀ d₁ ∙ sym most₂))
        (before_it l₁ (at + 32) d₁ (omega arith) ∙ before_it l (at + 20) d₀ (omega arith))
    ended_by (suc (suc (suc zero))) q e =
        ending 3 l₃ s₃ three.0 w₃ refl (is-three g ts s y h e ∙ ap (λ m. step_of s₃ (sized s.dest m) s₃.s0 s₃.s1 s₃.s2) (most-three d₀ d₁ d₂ ∙ sym most₃))
        (before_it l₂ (at + 44) d₂ (omega arith) ∙ before_it l₁ (at + 32) d₁ (omega arith) ∙ before_it l (at + 20) d₀ (omega arith))
    ended_by (suc (suc (suc (suc n)))) q e = absurd (omega arith)

  pub dims-written :
      Bytes l → (n : ℕ) → n ≡ sources_needed (step_at l at).op → (l₁ : List ℕ) (d : ℕ) → (l₁ ≡ put_dims g ts l at n) × (d ≡ most_put g ts l at n) → (ts' : List ℕ) → ts' ≡ noted_at ts (ref_at l₁ (at + 4)) d
      → (l' : List ℕ) → l' ≡ write l₁ (at + 8) (u16_bytes d) → WritesDims g ts l l' ts' at
  dims-written b n e l₁ d p ts' t l' w y h =
      let z = ended_by b y h n (rw e (sources-small (step_at l at).op)) (sym e) in
      let dest : y.dest ≡ sized (ref_at l (at + 4)) d = z.dest_is ∙ ap (sized (ref_at l (at + 4))) (sym p.1) in
      let kept : ref_at l₁ (at + 4) ≡ ref_at l (at + 4) = ap (λ (m : List ℕ). ref_at m (at + 4)) p.0 ∙ z.stays in
      record {
        bytes = w ∙ rw (p.0, p.1) z.bytes_are;
        temporaries = t ∙ ap (λ r. noted_at ts r d) kept ∙ noted-at ts (ref_at l (at + 4)) d y dest;
      }

  pub put-end :
      (n k : ℕ) (l₁ : List ℕ) (m : ℕ) → k ≤ n → n ≤ k → (l₁ ≡ put_dims g ts l at k) × (m ≡ most_put g ts l at k) → (l₁ ≡ put_dims g ts l at n) × (m ≡ most_put g ts l at n)
  put-end n k l₁ m a b h =
      let e : n ≡ k = omega arith in
      rw e h
