-- THE WHOLE RUN'S LINES: the records of its first list, printed from the tables, are what the definition prints.
-- Assumes nothing.
use Rattle.std.specs.Prelude.{ℕ, ◌≡◌, refl, Bool, true, false, cond, List, [], ◌∷◌, ◌++◌}
use Rattle.std.proofs.Common.{subst, arith}
use Rattle.std.proofs.Math.Option.{Option, none, some}
use Rattle.meaning.specs.Refusals.{done}
use Rattle.meaning.specs.Trees.{Expression, nth, Each}
use Rattle.meaning.specs.Steps.{Cell, Ref, StepOp, Step, step, exp_cell}
use Rattle.meaning.specs.Order.{Job, there, ask}
use Rattle.meaning.specs.Generation.{Block, State, start, Result, result, Request, make_one, make, last_destination, copied, is_block, onto, before, copy_into, with_blocks, copy_out, plain_result, adding, generate, serve, serve_all}
use Rattle.meaning.specs.Building.{Segment, segment, whole}
use Rattle.meaning.proofs.Laws.Tests.{each-join, each_map, then-done, done-same}
use Rattle.pool.specs.Pool.{Pool, root_of}
use Rattle.pool.specs.Trees.{forest}
use Rattle.pool.specs.Shaped.{Shaped}
use Rattle.pool.specs.Laws.Forest.{forest-at}
use Rattle.starkinfo_codegen.specs.Encoding.{records}
use Rattle.starkinfo_codegen.specs.Emitting.{Rest, pool_of, Pooled}
use Rattle.output.specs.Output.{counter_line, printed}
use Rattle.output.specs.Records.{record_lines}
use Rattle.output.specs.Shown.{IsCell, StepSays, copy-says, block-says, blocks-say, list-shown}

module _ (p : Pool) (shaped : Shaped p) where
  -- each step of a block says what its nodes bring
  pub record BlockSays (b : Block) : Type 0 where
    pub steps : Each (StepSays p) b.steps

  -- ---- blocks made

  one-made : (j : Job) (o : Option Expression) (t : ℕ) → nth (forest p) j.expression ≡ o → Each BlockSays (make_one j o t).blocks
  one-made j none t h = tt
  one-made j (some x) t h =
      let f = forest-at p j.expression x h in
      let s = block-says p shaped j.fused (root_of p j.expression) (shaped.rooted j.expression f.0) j.row t (exp_cell j.expression j.row) in
      (record { steps = rw f.1 s }, tt)

  made : (js : List Job) (t : ℕ) → Each BlockSays (make (forest p) js t).blocks
  made [] t = tt
  made (j ∷ js) t =
      let x = make_one j (nth (forest p) j.expression) t in
      each-join BlockSays x.blocks (make (forest p) js x.counter).blocks (one-made j (nth (forest p) j.expression) t refl) (made js x.counter)

  -- ---- result copies

  last-cell : (ss : List Step) (r : Ref) → Each (StepSays p) ss → last_destination ss ≡ some r → IsCell r
  last-cell [] r h e = let z : ◌≡◌ {A = ℕ} 0 1 = cc in absurd (omega arith)
  last-cell (s ∷ []) r h e = let q : s.destination ≡ r = cc in subst IsCell q h.0.into
  last-cell (s ∷ y ∷ ys) r h e = last-cell (y ∷ ys) r h.1 e

  copy-made : (b : Block) (d : Ref) (o : Option Ref) (b' : Block) → IsCell d → BlockSays b → last_destination b.steps ≡ o → copied b d o ≡ some b' → BlockSays b'
  copy-made b d none b' c h e f = let z : ◌≡◌ {A = ℕ} 0 1 = cc in absurd (omega arith)
  copy-made b d (some r) b' c h e f =
      let s = step StepOp.copy d (r ∷ []) in
      let n : BlockSays (record { expression = b.expression; row = b.row; steps = b.steps ++ (s ∷ []) })
      = record { steps = each-join (StepSays p) b.steps (s ∷ []) h.steps (copy-says p d r c (last-cell b.steps r h.steps e), tt) } in
      let q : record { expression = b.expression; row = b.row; steps = b.steps ++ (s ∷ []) } ≡ b' = cc in
      subst BlockSays q n

  copies-made : (e r : ℕ) (d : Ref) → IsCell d → (bs bs' : List Block) → Each BlockSays bs → copy_into e r d bs ≡ some bs' → Each BlockSays bs'
  copies-made e r d c [] bs' h f = let z : ◌≡◌ {A = ℕ} 0 1 = cc in absurd (omega arith)
  copies-made e r d c (b ∷ bs) bs' h f =
      by (is_block e r b) (copied b d (last_destination b.steps)) (λ b'. copy-made b d (last_destination b.steps) b' c h.0 refl)
      (copy_into e r d bs) (λ l. copies-made e r d c bs l h.1) f
    where
      by :
          (x : Bool) (o : Option Block) → ((b' : Block) → o ≡ some b' → BlockSays b') → (m : Option (List Block)) → ((l : List Block) → m ≡ some l → Each BlockSays l)
          → cond x (before o bs) (onto b m) ≡ some bs' → Each BlockSays bs'
      by true none g m k f = let z : ◌≡◌ {A = ℕ} 0 1 = cc in absurd (omega arith)
      by true (some b') g m k f = let q : b' ∷ bs ≡ bs' = cc in subst (Each BlockSays) q (g b' refl, h.1)
      by false o g none k f = let z : ◌≡◌ {A = ℕ} 0 1 = cc in absurd (omega arith)
      by false o g (some l) k f = let q : b ∷ l ≡ bs' = cc in subst (Each BlockSays) q (h.0, k l refl)

  -- ---- requests

  record StateSays (st : State) : Type 0 where
    blocks : Each BlockSays st.blocks

  copied-out : (e r : ℕ) (o : Option Result) (st st' : State) → StateSays st → copy_out e r o st ≡ done st' → StateSays st'
  copied-out e r none st st' h f = subst StateSays (done-same st st' f) h
  copied-out e r (some (result k i)) st st' h f =
      let d = Ref.var (Cell.cell k i r) in
      by (copy_into e r d st.blocks) (λ bs. copies-made e r d tt st.blocks bs h.blocks) f
    where
      by : (o : Option (List Block)) → ((bs : List Block) → o ≡ some bs → Each BlockSays bs) → with_blocks st o ≡ done st' → StateSays st'
      by none g f = let z : ◌≡◌ {A = ℕ} 0 1 = cc in absurd (omega arith)
      by (some bs) g f = subst StateSays (done-same (record { marks = st.marks; blocks = bs; counter = st.counter }) st' f) (record { blocks = g bs refl })

  module _ (rows : ℕ) where
    generated : (q : Request) (st st' : State) → StateSays st → generate rows (forest p) q st ≡ done st' → StateSays st'
    generated q st st' h f =
        let x = then-done (ask rows (forest p) q.fused q.expression q.row st.marks) _ f in
        let y = then-done (plain_result q.row q.result) _ x.2 in
        let bs = (make (forest p) x.0.jobs st.counter).blocks in
        subst StateSays (done-same (adding (forest p) x.0 st) st' y.2)
        (record { blocks = each-join BlockSays st.blocks bs h.blocks (made x.0.jobs st.counter) })

    served : (q : Request) (st st' : State) → StateSays st → serve rows (forest p) q st ≡ done st' → StateSays st'
    served q st st' h f =
        let x = then-done (there (nth (forest p) q.expression)) _ f in
        let y = then-done (cond (st.marks q.expression q.row) (done st) (generate rows (forest p) q st)) _ x.2 in
        copied-out q.expression q.row q.result y.0 st' (by (st.marks q.expression q.row) y.0 y.1) y.2
      where
        by : (b : Bool) (z : State) → cond b (done st) (generate rows (forest p) q st) ≡ done z → StateSays z
        by true z e = subst StateSays (done-same st z e) h
        by false z e = generated q st z h e

    all-served : (qs : List Request) (st st' : State) → StateSays st → serve_all rows (forest p) qs st ≡ done st' → StateSays st'
    all-served [] st st' h f = subst StateSays (done-same st st' f) h
    all-served (q ∷ qs) st st' h f =
        let x = then-done (serve rows (forest p) q st) _ f in
        all-served qs x.0 st' (served q st x.0 h x.1) x.2

    -- EACH STEP OF THE FIRST LIST says what its nodes bring
    pub whole_says : (qs : List Request) (s : Segment) → whole rows (forest p) qs ≡ done s → Each (StepSays p) s.first
    whole_says qs s f =
        let x = then-done (serve_all rows (forest p) qs start) _ f in
        let v : StateSays x.0 = all-served qs start x.0 (record { blocks = tt }) x.1 in
        let q : segment (forest p) x.0 ≡ s = done-same (segment (forest p) x.0) s x.2 in
        subst (λ (z : Segment). Each (StepSays p) z.first) q
        (blocks-say p x.0.blocks (each_map BlockSays (λ b. Each (StepSays p) b.steps) (λ b h. h.steps) x.0.blocks v.blocks))

-- THE LINES OF THE RUN, printed from its records and the tables
pub run-printed :
    (w : List ℕ) (b : Rest) → Pooled w b → (rows : ℕ) (qs : List Request) (s : Segment) → whole rows (forest (pool_of w b)) qs ≡ done s
    → record_lines w b.literals (records s.first) ++ counter_line s.counter ≡ printed (whole rows (forest (pool_of w b)) qs)
unfolding printed
run-printed w b o rows qs s f =
    rw (f, list-shown w b o.few s.first (whole_says (pool_of w b) o.shaped rows qs s f))
