-- What was marked when blocks were last gone gets no block: a second build emits no block again for what the first marked.
-- Assumes nothing.
use Rattle.std.specs.Prelude.{ℕ, ◌≡◌, refl, Bool, true, false, cond, List, [], ◌∷◌, ◌++◌}
use Rattle.std.proofs.Common.{subst, arith}
use Rattle.std.proofs.Math.Option.{Option, none, some, none-ne-some, some-injective}
use Rattle.meaning.specs.Refusals.{done}
use Rattle.meaning.specs.Trees.{Expression, Forest, nth, Each}
use Rattle.meaning.specs.Steps.{Cell, Ref}
use Rattle.meaning.specs.Order.{Marks, Job, there, ask}
use Rattle.meaning.specs.Generation.{Block, State, Request, Result, result, make_one, make, plain_result, last_destination, copied, is_block, onto, before, copy_into, with_blocks, copy_out, generate, serve, serve_all}
use Rattle.meaning.specs.Building.{after_build}
use Rattle.meaning.proofs.Laws.Tests.{true-false, not-true, then-done, done-same, each-join, each_map}
use Rattle.meaning.proofs.Laws.Jobs.{New, grown, asks}

-- marks that a build made or kept
pub build-keeps : (rows : ℕ) (E : Forest) (st : State) (e r : ℕ) → st.marks e r ≡ true → (after_build rows E st).marks e r ≡ true
build-keeps rows E st e r h = rw h

module _ (m : Marks) where
  -- the block of an expression and row without a mark in m
  abbrev pub NewBlock : Block → Type 0
  NewBlock b = m b.expression b.row ≡ false

  -- a copy put at a block's end leaves whose block it is
  copied-new : (b : Block) (d : Ref) (o : Option Ref) (c : Block) → copied b d o ≡ some c → NewBlock b → NewBlock c
  copied-new b d none c h n = absurd (none-ne-some c h)
  copied-new b d (some r) c h n = subst NewBlock (some-injective _ _ h) n

  copy-new : (e r : ℕ) (d : Ref) (bs cs : List Block) → copy_into e r d bs ≡ some cs → Each NewBlock bs → Each NewBlock cs
  copy-new e r d [] cs h n = absurd (none-ne-some cs h)
  copy-new e r d (b ∷ bs) cs h n = go (copy-new e r d bs) (is_block e r b) h
    where
      here : (o : Option Block) → copied b d (last_destination b.steps) ≡ o → before o bs ≡ some cs → Each NewBlock cs
      here none q k = absurd (none-ne-some cs k)
      here (some c) q k = subst (Each NewBlock) (some-injective _ _ k) (copied-new b d (last_destination b.steps) c q n.0, n.1)

      later :
          ((ds : List Block) → copy_into e r d bs ≡ some ds → Each NewBlock bs → Each NewBlock ds) →
          (o : Option (List Block)) → copy_into e r d bs ≡ o → onto b o ≡ some cs → Each NewBlock cs
      later ih none q k = absurd (none-ne-some cs k)
      later ih (some ds) q k = subst (Each NewBlock) (some-injective _ _ k) (n.0, ih ds q n.1)

      go :
          ((ds : List Block) → copy_into e r d bs ≡ some ds → Each NewBlock bs → Each NewBlock ds) → (t : Bool) →
          cond t (before (copied b d (last_destination b.steps)) bs) (onto b (copy_into e r d bs)) ≡ some cs → Each NewBlock cs
      go ih true k = here (copied b d (last_destination b.steps)) refl k
      go ih false k = later ih (copy_into e r d bs) refl k

  make-new : (E : Forest) (js : List Job) (t : ℕ) → Each (λ j. m j.expression j.row ≡ false) js → Each NewBlock (make E js t).blocks
  make-new E [] t h = tt
  make-new E (j ∷ js) t h = go (λ u. make-new E js u h.1) (nth E j.expression)
    where
      go : ((u : ℕ) → Each NewBlock (make E js u).blocks) → (o : Option Expression) → Each NewBlock ((make_one j o t).blocks ++ (make E js (make_one j o t).counter).blocks)
      go ih none = ih t
      go ih (some x) = (h.0, ih (make_one j (some x) t).counter)

  module _ (rows : ℕ) (E : Forest) where
    -- every block is new since m, and what m marks is still marked
    pub record Since (st : State) : Type 0 where
      pub blocks : Each NewBlock st.blocks
      pub marks : (e r : ℕ) → m e r ≡ true → st.marks e r ≡ true

    generate_since : (q : Request) (st st' : State) → Since st → generate rows E q st ≡ done st' → Since st'
    generate_since q st st' s h =
        let x = then-done (ask rows E q.fused q.expression q.row st.marks) _ h in
        let y = then-done (plain_result q.row q.result) _ x.2 in
        let g = (asks rows E q.fused q.expression q.row st.marks x.0 x.1).0 in
        let n : Each (New rows E m) x.0.jobs =
        each_map (New rows E st.marks) (New rows E m)
        (λ j f. not-true (m j.expression j.row) (λ t. true-false (s.marks j.expression j.row t) f)) x.0.jobs g.new in
        subst Since (done-same _ _ y.2)
        (record {
          blocks = each-join NewBlock st.blocks (make E x.0.jobs st.counter).blocks s.blocks (make-new E x.0.jobs st.counter n);
          marks = λ e r t. grown rows E g e r (s.marks e r t);
        })

    copy_since : (e r : ℕ) (o : Option Result) (st st' : State) → Since st → copy_out e r o st ≡ done st' → Since st'
    copy_since e r none st st' s h = subst Since (done-same _ _ h) s
    copy_since e r (some (result k i)) st st' s h = go (copy_into e r (Ref.var (Cell.cell k i r)) st.blocks) refl h
      where
        go : (o : Option (List Block)) → copy_into e r (Ref.var (Cell.cell k i r)) st.blocks ≡ o → with_blocks st o ≡ done st' → Since st'
        go none q w = absurd (let z : ◌≡◌ {A = ℕ} 0 1 = cc in omega arith)
        go (some bs) q w = subst Since (done-same _ _ w) (record { blocks = copy-new e r (Ref.var (Cell.cell k i r)) st.blocks bs q s.blocks; marks = s.marks })

    serve_since : (q : Request) (st st' : State) → Since st → serve rows E q st ≡ done st' → Since st'
    serve_since q st st' s h =
        let x = then-done (there (nth E q.expression)) _ h in
        let y = then-done (cond (st.marks q.expression q.row) (done st) (generate rows E q st)) _ x.2 in
        copy_since q.expression q.row q.result y.0 st' (go y.0 (st.marks q.expression q.row) y.1) y.2
      where
        go : (t : State) (b : Bool) → cond b (done st) (generate rows E q st) ≡ done t → Since t
        go t true k = subst Since (done-same _ _ k) s
        go t false k = generate_since q st t s k

    pub serve_all_since : (qs : List Request) (st st' : State) → Since st → serve_all rows E qs st ≡ done st' → Since st'
    serve_all_since [] st st' s h = subst Since (done-same _ _ h) s
    serve_all_since (q ∷ qs) st st' s h =
        let x = then-done (serve rows E q st) _ h in
        serve_all_since qs x.0 st' (serve_since q st x.0 s x.1) x.2

-- A SECOND BUILD EMITS NO BLOCK AGAIN for what the first left marked: whatever is asked after a build, with results or without
pub not-again :
    (rows : ℕ) (E : Forest) (st : State) (qs : List Request) (st' : State) → serve_all rows E qs (after_build rows E st) ≡ done st' →
    Each (NewBlock (after_build rows E st).marks) st'.blocks
not-again rows E st qs st' h =
    let b = after_build rows E st in
    (serve_all_since b.marks rows E qs b st' (record { blocks = tt; marks = λ e r t. t }) h).blocks
