-- DEMAND 3 THROUGH A CONTEXT: from a fresh one, calls that serve requests of one pool without a result, and a build. Whatever the calls were, the first list
-- that is built computes what the pool and all the requests say.
-- Assumes nothing.
use Rattle.std.specs.Prelude.{ℕ, suc, ◌+◌, ◌*◌, ◌-◌, ◌/◌, ◌%◌, ◌<◌, ◌≤◌, ◌≡◌, refl, Bool, true, false, ◌&&◌, ◌||◌, cond, length, get_or, take, replicate, eqb, ltb}
use Rattle.std.proofs.Math.Path.{sym, ap, fun_ext}
use Rattle.std.proofs.Common.{◌∙◌, subst, arith, zero-add, length-append, take_at, ltb-true, ltb-false, eqb-true}
use Rattle.std.proofs.Math.Option.{Option, none}
use mathlib.Core.List.{List, [], ◌∷◌, ◌++◌}
use Rattle.std.proofs.lemmas.List.{length-replicate}
use Rattle.std.proofs.Math.ListN.{get_or-eq_default}
use Rattle.meaning.specs.Refusals.{Refusal, Answer, done, refused, ◌then◌}
use Rattle.meaning.specs.Trees.{Forest, Acyclic, Each}
use Rattle.meaning.specs.Order.{Marks, unmarked, marking, Job, Asked}
use Rattle.meaning.specs.Generation.{Block, State, start, Result, Request, make, adding, serve_all}
use Rattle.meaning.specs.Building as building
use Rattle.meaning.specs.Steps.{Step}
use Rattle.meaning.specs.Values.{Algebra, Given}
use Rattle.meaning.specs.Models.{integers, modulo}
use Rattle.meaning.specs.Demand3.{NoResult, PlainLeaf, Throughout, AllGiven, Computes}
use Rattle.meaning.proofs.Proved.{demand3}
use Rattle.meaning.specs.Asking.{ask_all}
use Rattle.meaning.specs.Holding.{mapped, serve_all-asks}
use Rattle.meaning.proofs.Laws.Tests.{then-done, done-same, done-not-refused, each-join, each_both, each_map}
use Rattle.meaning.proofs.Laws.First.{serve-append}
use Rattle.meaning.proofs.Laws.Jobs.{after}
use Rattle.meaning.proofs.Laws.Once.{Chain, all_once, all-rows, all_found, all-marks}
use Rattle.kinds.specs.Write.{write, write-length}
use Rattle.kinds.specs.BigEndian.{u16_at}
use Rattle.kinds.specs.Steps.{steps_of}
use Rattle.frames.specs.Order.{Input, nothing, counts_of}
use Rattle.frames.specs.Reading.{frames_in, read_from, reading}
use Rattle.frames.specs.Exactly.{read_as}
use Rattle.frames.specs.Limits.{within_all}
use Rattle.frames.specs.Ranges.{ranged-all}
use Rattle.frames.specs.Tables.{first}
use Rattle.frames.specs.Packing.{first-at, first-length}
use Rattle.pool.specs.Trees.{forest}
use Rattle.pool.specs.Numbered.{pool_of}
use Rattle.pool.specs.Laws.Forest.{nth-below, forest-size}
use Rattle.starkinfo_codegen.specs.Encoding.{records, records-length}
use Rattle.starkinfo_codegen.specs.Ordering.{cell_of, marks_of}
use Rattle.starkinfo_codegen.specs.Requests.{start-marks}
use Rattle.starkinfo_codegen.specs.Totals.{Found}
use Rattle.requests.specs.Runs.{requests_of}
use Rattle.requests.specs.Serving.{plain-requests}
use Rattle.requests.specs.Exactly.{rows-low}
use Rattle.builds.specs.Raw.{RawBlock, RawSegment, raw_block_at, raw_blocks, records_from}
use Rattle.builds.specs.RawOf.{raw_of, raw-every}
use Rattle.builds.specs.Held.{words_of, Celled, held_all, held_none}
use Rattle.context.specs.Context.{marks_at, blocks_at, temporaries_at, table_at, cells, context_size, blocks_in, temporaries_in, entry_in, Good}
use Rattle.context.specs.Tables.{marks_in, words_in, counter_bytes, table_bytes, with_counters, with_marks, with_blocks, fresh_bytes}
use Rattle.context.specs.Zeros.{zeros-at}
use Rattle.context.specs.Held.{held-words, fresh-held}
use Rattle.context.specs.Stored as stored
use Rattle.codegen.specs.Said.{Said, said, said_of, serve_said, serve-said, segment_said, segment-said}
use Rattle.codegen.specs.Results.{asking, no_result, asking-none}
use Rattle.codegen.specs.Written.{mark_byte, mark_bytes, raw_words, step_count, context_with, ListWith, fits, fitting}
use Rattle.codegen.specs.Serving.{served_on}
use Rattle.codegen.specs.Loads as loads
use Rattle.codegen.specs.Made.{made-count, made_cells}
use Rattle.codegen.specs.Pigeons.{table-room}
use Rattle.codegen.specs.Exactly.{Admitted, AnsweredFor, Case, case}
use Rattle.codegen.specs.declared.asked.Wanted.{Wanted}

-- ── marks as bytes ───────────────────────────────────────────────────────────
-- no mark of a cell that the table does not have
abbrev pub Bounded : Marks → Type 0
Bounded m = (e r : ℕ) → (e < 512 → r < 2 → ⊥) → m e r ≡ false

marks-back : (m : Marks) → Bounded m → marks_of (mark_bytes m) ≡ m
unfolding marks_of mark_bytes
marks-back m b = fun_ext (λ e. fun_ext (λ r. at e r))
  where
    bit : (v : Bool) → ltb 0 (cond v 1 0) ≡ v
    bit true = refl
    bit false = refl

    at : (e r : ℕ) → (ltb r 2 && ltb 0 (get_or (first (mark_byte m) cells) (cell_of e r) 0)) ≡ m e r
    at e r = go (ltb r 2) refl (ltb e 512) refl
      where
        go : (u : Bool) → ltb r 2 ≡ u → (v : Bool) → ltb e 512 ≡ v → (ltb r 2 && ltb 0 (get_or (first (mark_byte m) cells) (cell_of e r) 0)) ≡ m e r
        go false p v q = rw p (sym (b e r (λ x y. omega (arith, ltb-false r 2 p, y))))
        go true p true q =
            let x = ltb-true r 2 p in
            let y = ltb-true e 512 q in
            let c : (2 * e + r) / 2 ≡ e = omega arith in
            let d : (2 * e + r) % 2 ≡ r = omega arith in
            rw (p, first-at (mark_byte m) (cell_of e r) cells 0 (omega arith), c, d) (bit (m e r))
        go true p false q =
            let y = ltb-false e 512 q in
            let past : length (first (mark_byte m) cells) ≤ cell_of e r = omega (arith, first-length (mark_byte m) cells) in
            rw (p, get_or-eq_default (first (mark_byte m) cells) 0 past) (sym (b e r (λ x z. omega (arith, y, x))))

-- ── what was written is said ─────────────────────────────────────────────────
words-of : (bs : List Block) → raw_words (raw_of bs) ≡ words_of bs
words-of [] = refl
words-of (b ∷ bs) = rw (records-length b.steps, words-of bs)

words_count : (bs : List Block) → length (words_of bs) ≡ length bs
words_count [] = refl
words_count (b ∷ bs) = ap suc (words_count bs)

raw-count : (bs : List Block) → length (raw_of bs) ≡ length bs
raw-count [] = refl
raw-count (b ∷ bs) = ap suc (raw-count bs)

module _ (x l x' l' : List ℕ) (st : State) (size : length x ≡ context_size) (few : length st.blocks ≤ cells) (celled : Each Celled st.blocks) (bounded : Bounded st.marks) (context : x' ≡ context_with x (said_of st)) (list : ListWith l (said_of st) l') where
  abbrev bs : List Block
  bs = st.blocks

  abbrev n : ℕ
  n = length bs

  abbrev S : ℕ
  S = step_count (said_of st)

  -- the words in full
  abbrev W : List ℕ
  W = words_of bs ++ replicate (cells - n) 0

  full : length W ≡ cells
  full = length-append (words_of bs) (replicate (cells - n) 0) ∙ rw (length-replicate {A = ℕ} (cells - n) 0, words_count bs) (omega arith)

  front : take n W ≡ words_of bs
  front = take_at (words_of bs) (replicate (cells - n) 0) n (words_count bs)

  mb : List ℕ
  mb = mark_bytes st.marks

  mb-size : length mb ≡ cells
  unfolding mb mark_bytes
  mb-size = first-length (mark_byte st.marks) cells

  abbrev x₁ : List ℕ
  x₁ = with_counters x n S st.counter

  abbrev x₂ : List ℕ
  x₂ = with_marks x₁ mb

  size₁ : length x₁ ≡ context_size
  size₁ = write-length x blocks_at (counter_bytes n S st.counter) ∙ size

  size₂ : length x₂ ≡ context_size
  size₂ = write-length x₁ marks_at mb ∙ size₁

  is-stored : x' ≡ with_blocks x₂ W 0 n
  unfolding mb
  is-stored =
      context
      ∙ ap (λ k. write (write (write x blocks_at (counter_bytes k S st.counter)) marks_at (mark_bytes st.marks)) table_at (table_bytes (raw_words (raw_of bs)))) (raw-count bs)
      ∙ ap (λ (ws : List ℕ). write x₂ table_at (table_bytes ws)) (words-of bs ∙ sym front)

  number : (j : ℕ) → j ≤ 8 → u16_at x' j ≡ u16_at x₁ j
  number j h = ap (λ (y : List ℕ). u16_at y j) is-stored ∙ stored.u16-before-blocks x₂ W 0 n size₂ full (omega arith) few j h ∙ stored.u16-before-marks x₁ mb size₁ mb-size j h

  blocks_are : blocks_in x' ≡ n
  blocks_are = number blocks_at (omega arith) ∙ stored.blocks-stored x n S st.counter size

  counter_is : temporaries_in x' ≡ st.counter
  counter_is = number temporaries_at (omega arith) ∙ stored.temporaries-stored x n S st.counter size

  marks_are : marks_of (marks_in x') ≡ st.marks
  unfolding mb
  marks_are =
      ap (λ (y : List ℕ). marks_of (marks_in y)) is-stored
      ∙ ap marks_of (stored.marks-before-blocks x₂ W 0 n size₂ full (omega arith) few ∙ stored.marks-stored x₁ mb size₁ mb-size)
      ∙ marks-back st.marks bounded

  words_are : words_in x' n ≡ words_of bs
  words_are =
      held-words x' W n (λ k h. ap (λ (y : List ℕ). entry_in y k) is-stored ∙ stored.entry-stored x₂ W 0 n size₂ full (omega arith) few k (omega arith) h) (omega (arith, full, few)) ∙ front

  steps_are : records_from l' 0 (length (building.every bs)) ≡ records (building.every bs)
  steps_are =
      let c : S ≡ length (building.every bs) = ap length (raw-every bs) ∙ records-length (building.every bs) in
      ap (steps_of l') (sym c) ∙ list.steps ∙ raw-every bs

  held : raw_blocks (words_of bs) l' n ≡ raw_of bs
  held = held_all (words_of bs) l' bs (record { cells = celled; words = λ k h. ap (λ j. get_or (words_of bs) j 0) (zero-add k); steps = steps_are })

  -- WHAT WAS WRITTEN IS SAID
  pub said-again : said x' l' ≡ said_of st
  said-again =
      ap (λ (m : Marks). record { marks = m; blocks = (said x' l').blocks; counter = temporaries_in x' }) marks_are
      ∙ ap (λ (c : ℕ). record { marks = st.marks; blocks = (said x' l').blocks; counter = c }) counter_is
      ∙ ap (λ (q : List RawBlock). record { marks = st.marks; blocks = q; counter = st.counter })
      (ap (λ k. raw_blocks (words_in x' k) l' k) blocks_are ∙ ap (λ (u : List ℕ). raw_blocks u l' n) words_are ∙ held)

-- ── calls ────────────────────────────────────────────────────────────────────
-- a context and its list hold a context of `meaning`
pub record Holds (x l : List ℕ) (st : State) : Type 0 where
  pub says : said x l ≡ said_of st
  pub celled : Each Celled st.blocks
  pub bounded : Bounded st.marks

-- a fresh one holds none of anything
pub fresh_holds : (l : List ℕ) → Holds (fresh_bytes context_size) l start
fresh_holds l =
    let h = fresh-held [] in
    record {
      says =
          ap (λ (m : Marks). record { marks = m; blocks = (said (fresh_bytes context_size) l).blocks; counter = temporaries_in (fresh_bytes context_size) })
          (ap marks_of h.marked ∙ start-marks (replicate cells 0) (zeros-at cells))
          ∙ ap (λ c. record { marks = unmarked; blocks = (said (fresh_bytes context_size) l).blocks; counter = c }) h.counter
          ∙ ap (λ (q : List RawBlock). record { marks = unmarked; blocks = q; counter = 0 }) (ap (λ k. raw_blocks (words_in (fresh_bytes context_size) k) l k) h.blocks ∙ held_none (words_in (fresh_bytes context_size) 0) l);
      celled = tt;
      bounded = λ e r n. refl;
    }

-- marks after jobs of cells that are there
after-bounded : (m : Marks) (js : List Job) → Bounded m → Each (λ j. (j.expression < 512) × (j.row < 2)) js → Bounded (after m js)
after-bounded m [] b h = b
after-bounded m (j ∷ js) b h = after-bounded (marking m j.expression j.row) js one h.1
  where
    one : Bounded (marking m j.expression j.row)
    one e r n = go (eqb j.expression e) refl (eqb j.row r) refl
      where
        go : (u : Bool) → eqb j.expression e ≡ u → (v : Bool) → eqb j.row r ≡ v → ((u && v) || m e r) ≡ false
        go true p true q = let a = eqb-true j.expression e p in let c = eqb-true j.row r q in absurd (n (omega (arith, h.0.0, a)) (omega (arith, h.0.1, c)))
        go true p false q = b e r n
        go false p v q = b e r n

-- ── one call ─────────────────────────────────────────────────────────────────
-- requests without a result, in so many words
abbrev pub plainly : Wanted
plainly = record { kind = 0; id = 0 }

module _ (i : Input) (x l : List ℕ) (st : State) (holds : Holds x l st) (few : length i.expressions ≤ 512) (rows : Each (λ q. q.row < 2) (requests_of i)) (a : Said) (answered : AnsweredFor i plainly x l (done a)) where
  abbrev E : Forest
  E = forest (pool_of i)

  abbrev Q : List Request
  Q = requests_of i

  -- it was served: every check before was passed
  pub record Ran : Type 0 where
    pub good : Good x (length i.expressions) (length l)
    pub admitted : Admitted i
    pub served : served_on E Q (length l) (said x l) ≡ done a

  ran : Ran
  ran = go (case i plainly x l (done a) answered)
    where
      go : Case i plainly x l (done a) answered → Ran
      go (Case.bad_result p n) = absurd (omega (arith, n))
      go (Case.bad_context p g n) = absurd (omega (arith, n))
      go (Case.stopped p g d z n m) = absurd (z refl)
      go (Case.ran p g d e) =
          record {
            good = g;
            admitted = d;
            served = sym (e ∙ ap (λ (qs : List Request). served_on E qs (length l) (said x l)) (ap (λ (o : Option Result). asking o Q) (no_result 0) ∙ asking-none Q (plain-requests i.requests)));
          }

  -- what fits is the answer
  fitting-is : (s : Said) → fitting (length l) s ≡ done a → s ≡ a
  fitting-is s e = go (fits (length l) (step_count s) s.counter) e
    where
      go : (b : Bool) → cond b (done s) (refused Refusal.full none) ≡ done a → s ≡ a
      go true e = done-same s a e
      go false e = absurd (done-not-refused (sym e))

  said-served : serve_said E Q (said x l) ≡ done a
  said-served = let z = then-done (serve_said E Q (said x l)) (fitting (length l)) ran.served in z.1 ∙ ap done (fitting-is z.0 z.2)

  abbrev After : Type 0
  After = (s : State) × (serve_all 2 E Q st ≡ done s) × (said_of s ≡ a)

  after-served : After
  after-served = go (serve_all 2 E Q st) refl (sym (serve-said E Q st) ∙ ap (λ (s : Said). serve_said E Q s) (sym holds.says) ∙ said-served)
    where
      go : (z : Answer State) → serve_all 2 E Q st ≡ z → mapped said_of z ≡ done a → After
      go (done s) e h = (s, e, done-same (said_of s) a h)
      go (refused k o) e h = absurd (done-not-refused (sym h))

  abbrev st' : State
  st' = after-served.0

  -- as asking and then adding
  abbrev Added : Type 0
  Added = (z : Asked) × (ask_all 2 E Q st.marks ≡ done z) × (adding E z st ≡ st')

  added : Added
  added =
      let h = then-done (ask_all 2 E Q st.marks) (λ z. done (adding E z st)) (sym (serve_all-asks 2 E Q (plain-requests i.requests) st) ∙ after-served.1) in
      (h.0, h.1, done-same (adding E h.0 st) st' h.2)

  abbrev js : List Job
  js = added.0.jobs

  found : Each (Found E) js
  found = all_found 2 E Q st.marks added.0 added.1

  there : Each (λ j. (j.expression < length i.expressions) × (j.row < 2)) js
  there =
      each_both (Found E) (λ j. j.row < 2) (λ j. (j.expression < length i.expressions) × (j.row < 2))
      (λ j f q. (omega (arith, nth-below E j.expression f.1, forest-size (pool_of i)), q)) js found (all-rows 2 E Q st.marks added.0 rows added.1)

  marks-held : marks_of (marks_in x) ≡ st.marks
  marks-held = ap (λ (s : Said). s.marks) holds.says

  blocks-held : blocks_in x ≡ length st.blocks
  blocks-held =
      sym (first-length (raw_block_at (words_in x (blocks_in x)) l) (blocks_in x)) ∙ ap (λ (s : Said). length s.blocks) holds.says ∙ raw-count st.blocks

  room : length st.blocks + length js ≤ cells
  room =
      let s = loads.sound l few ran.good refl in
      let r = table-room s (stored.marks-full x ran.good.head.size) few js there
      (subst (λ (m : Marks). Chain m js) (sym marks-held) (all_once 2 E ran.admitted.acyclic Q st.marks added.0 added.1)) in
      omega (arith, r, blocks-held)

  -- A CALL THAT IS ACCEPTED: what is held after it is what `serve_all` gives
  pub call_holds : {x' l' : List ℕ} → x' ≡ context_with x a → ListWith l a l' → (s : State) × (serve_all 2 E Q st ≡ done s) × Holds x' l' s
  call_holds {x'} {l'} c w =
      let is : adding E added.0 st ≡ st' = added.2 in
      let celled : Each Celled st'.blocks
      = subst (λ (s : State). Each Celled s.blocks) is
      (each-join Celled st.blocks (make E js st.counter).blocks holds.celled (made_cells E js st.counter (length i.expressions) few there)) in
      let bounded : Bounded st'.marks
      = subst (λ (s : State). Bounded s.marks) is
      (subst Bounded (sym (all-marks 2 E Q st.marks added.0 added.1))
      (after-bounded st.marks js holds.bounded (each_map (λ j. (j.expression < length i.expressions) × (j.row < 2)) (λ j. (j.expression < 512) × (j.row < 2)) (λ j q. (omega (arith, q.0, few), q.1)) js there))) in
      let count : length st'.blocks ≤ cells
      = subst (λ (s : State). length s.blocks ≤ cells) is (omega (arith, length-append st.blocks (make E js st.counter).blocks, made-count E js st.counter found, room)) in
      let e : said_of st' ≡ a = after-served.2 in (
        st',
        after-served.1,
        record {
          says =
              said-again x l x' l' st' ran.good.head.size count celled bounded (subst (λ (s : Said). x' ≡ context_with x s) (sym e) c) (subst (λ (s : Said). ListWith l s l') (sym e) w);
          celled = celled;
          bounded = bounded;
        },
      )

-- ── sessions ─────────────────────────────────────────────────────────────────
-- A SESSION on the pool that stands for E: a fresh context, and calls that were accepted; these requests, the context and the list after them
pub data Session (E : Forest) : List Request → List ℕ → List ℕ → Type 0 where
  fresh : (l : List ℕ) → Session E [] (fresh_bytes context_size) l
  served :
      (qs : List Request) (x l : List ℕ) → Session E qs x l → (s : List ℕ) (i : Input) → reading s ≡ done i → forest (pool_of i) ≡ E →
      (a : Said) → AnsweredFor i plainly x l (done a) → (x' l' : List ℕ) → x' ≡ context_with x a → ListWith l a l' → Session E (qs ++ requests_of i) x' l'

-- what it holds is what `serve_all` gives of all its requests
pub session-holds : (E : Forest) {qs : List Request} {x l : List ℕ} → Session E qs x l → (st : State) × (serve_all 2 E qs start ≡ done st) × Holds x l st
unfolding counts_of
session-holds F (Session.fresh l) = (start, refl, fresh_holds l)
session-holds F (Session.served ps y m before s i read same a answered x' l' c w) =
    let h = session-holds F before in
    let fs = frames_in s in
    let r : read_from nothing fs ≡ done i = sym (read_as s) ∙ read in
    let z = call_holds i y m h.0 h.2 (within_all fs i r).expressions (rows-low i.requests (ranged-all fs i r).requests) a answered c w in
    let e : serve_all 2 F (requests_of i) h.0 ≡ done z.0 = ap (λ (G : Forest). serve_all 2 G (requests_of i) h.0) (sym same) ∙ z.1 in
    (z.0, serve-append 2 F ps (requests_of i) start ∙ ap (λ (q : Answer State). q then λ t. serve_all 2 F (requests_of i) t) h.1 ∙ e, z.2)

-- DEMAND 3: running the first list that is built of a session's context leaves in each requested cell its expression's value
abbrev pub Demand3Session : Algebra → Type 0
Demand3Session 𝓐 =
    (E : Forest) → Acyclic E → (qs : List Request) (x l : List ℕ) → Session E qs x l → Each NoResult qs →
    (G : Given 𝓐.A) → Throughout PlainLeaf E → AllGiven 2 G →
    (steps : List Step) × ((segment_said E (said x l)).first ≡ records steps) × Computes 𝓐 G E steps qs

pub demand3-session : (𝓐 : Algebra) → Demand3Session 𝓐
demand3-session 𝓐 E acyclic qs x l session plain G leaves given =
    let h = session-holds E session in (
      (building.segment E h.0).first,
      ap (λ (s : Said). (segment_said E s).first) h.2.says ∙ ap (λ (s : RawSegment). s.first) (segment-said E h.0),
      demand3 𝓐 2 G E acyclic leaves given qs plain h.0 h.1,
    )

-- over the integers, and modulo every number from 2 up
pub demand3-session-integers : Demand3Session integers
demand3-session-integers = demand3-session integers

pub demand3-session-modulo : (n : ℕ) → 2 ≤ n → Demand3Session (modulo n)
demand3-session-modulo n h = demand3-session (modulo n)
