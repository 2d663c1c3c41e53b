-- The search over an admitted pool by its tests, and the pool before it.
-- Assumes nothing.
use Prim.Native.Nat.{ℕ, zero, suc, ◌+◌, ◌-◌, ◌*◌, ◌%◌, ◌^◌, ◌<◌, ◌≤◌}
use mathlib.Core.Path.{◌≡◌, refl, sym, ◌∙◌, ap, ap₂, subst}
use mathlib.Core.Bool.{Bool, true, false, cond, ◌&&◌}
use Rattle.std.specs.List.{list_all}
use mathlib.Core.Option.{Option, none, some}
use mathlib.Core.List.{List, [], ◌∷◌}
use native.Mathlib.Omega.{arith}
use native.Mathlib.Nat.{one-mul, not-suc-le-zero}
use lib.Dec.{ltb, leb}
use lib.Pow.{shl_exact}
use lib.ListN.{length, get_or}
use borrow.Author.Tests.{leb-true, ltb-true}
use Rattle.meaning.specs.Refusals.{Refusal, Answer, done, refused}
use Rattle.meaning.specs.Trees.{Forest}
use Rattle.meaning.proofs.Laws.Tests.{done-same, done-not-refused, true-false}
use Rattle.search_meaning.specs.Search.{Choice, bits_ok, all_below, unless, folds, tries, search}
use Rattle.frames.specs.Order.{Input}
use Rattle.frames.specs.Tables as frames
use Rattle.frames.specs.Tables.{input_in}
use Rattle.frames.specs.Reading.{frames_in, reading, held, Fills}
use Rattle.frames.specs.Exactly.{read_as}
use Rattle.frames.specs.Limits.{held-within}
use Rattle.frames.specs.declared.count.Counts.{Counts}
use Rattle.pool.specs.Pool.{Pool}
use Rattle.pool.specs.Trees.{forest}
use Rattle.pool.specs.Verdict.{Verdict}
use Rattle.pool.specs.Exactly.{exactly_0}
use Rattle.pool.specs.Tabled.{Tables, tabled}
use Rattle.pool.specs.Ranking.{Tabling}
use Rattle.pool.specs.Numbered.{pool_of}
use Rattle.pool.specs.Admitting.{Fits, Admits, verdict_says}
use Rattle.pool.specs.Laws.Forest.{forest-size, acyclic-ranked}
use Rattle.pool.specs.Laws.Tabled.{expression-count}
use Rattle.full_degrees.specs.Table.{World, Fulls}
use Rattle.degree_search.specs.Choosing.{Asks, searched_says, Tells}
use Rattle.degree_search.specs.Searching.{Question, asking, searched, Answers, Runs, PoolAsked, RunIs}
use Rattle.std.specs.Prelude.{Result, Ok, Err}
use Rattle.kinds.specs.Answers.{refusal_of, blame_of, blaming_none}
use Rattle.kinds.specs.declared.refusal.Refusal.TheVariants as refusal
use Rattle.kinds.specs.declared.refusal.Refused.{Refused}
use Rattle.degree_search.specs.declared.choose.Found.{Found}

-- ── bits ─────────────────────────────────────────────────────────────────────
module _ (n e : ℕ) where
  pub bits_range : bits_ok n e ≡ true → (n ≤ e) × (e - n ≤ 4)
  bits_range h = go (leb n 24) (leb n e) refl (leb e (n + 4)) refl h
    where
      go : (a b : Bool) → leb n e ≡ b → (c : Bool) → leb e (n + 4) ≡ c → cond a (cond b c false) false ≡ true → (n ≤ e) × (e - n ≤ 4)
      go true true q true r h = let z : e ≤ n + 4 = leb-true _ _ r in (leb-true _ _ q, omega arith)
      go true true q false r h = absurd (true-false h refl)
      go true false q c r h = absurd (true-false h refl)
      go false b q c r h = absurd (true-false h refl)

pub last-is : (k : ℕ) → k ≤ 4 → 1 * 2 ^ k % 18446744073709551616 + 1 ≡ 2 ^ k + 1
last-is k h = ap (λ x. x + 1) (shl_exact 1 k 64 (omega arith) (omega arith) ∙ one-mul _)

pub pow_low : (k : ℕ) → k ≤ 4 → (1 ≤ 2 ^ k) × (2 ^ k ≤ 16)
pow_low zero h = (omega arith, omega arith)
pow_low (suc zero) h = (omega arith, omega arith)
pow_low (suc (suc zero)) h = (omega arith, omega arith)
pow_low (suc (suc (suc zero))) h = (omega arith, omega arith)
pow_low (suc (suc (suc (suc zero)))) h = (omega arith, omega arith)
pow_low (suc (suc (suc (suc (suc k))))) h = absurd (omega arith)

-- ── identities that are there ────────────────────────────────────────────────
pub all-below-is : (m : ℕ) (l : List ℕ) → list_all (λ x. ltb x m) l ≡ all_below m l
all-below-is m [] = refl
all-below-is m (x ∷ l) = go (ltb x m) (all-below-is m l)
  where
    go : (b : Bool) → list_all (λ x. ltb x m) l ≡ all_below m l → (b && list_all (λ x. ltb x m) l) ≡ cond b (all_below m l) false
    go true ih = ih
    go false ih = refl

pub each_below : (m : ℕ) (l : List ℕ) → all_below m l ≡ true → (k : ℕ) → k < length l → get_or l k 0 < m
each_below m [] h k g = absurd (not-suc-le-zero g)
each_below m (x ∷ l) h k g = go (each_below m l) (ltb x m) refl h k g
  where
    go : (all_below m l ≡ true → (k : ℕ) → k < length l → get_or l k 0 < m) → (b : Bool) → ltb x m ≡ b → cond b (all_below m l) false ≡ true → (k : ℕ) → k < suc (length l) → get_or (x ∷ l) k 0 < m
    go ih true q h zero g = ltb-true x m q
    go ih true q h (suc k) g = ih h k (omega arith)
    go ih false q h k g = absurd (true-false h refl)

-- ── the search by its tests ──────────────────────────────────────────────────
search-by :
    (E : Forest) (es : List ℕ) (vc n e : ℕ) (lim : Option ℕ) → (length es ≡ 0 → ⊥) →
    search E es vc n e lim ≡ unless Refusal.bits (bits_ok n e) (unless Refusal.not_there (all_below (length E) es) (tries lim E (folds vc es) (2 ^ (e - n)) 2 none 0))
unfolding search
search-by E [] vc n e lim h = absurd (h refl)
search-by E (x ∷ es) vc n e lim h = refl

search-none : (E : Forest) (es : List ℕ) (vc n e : ℕ) (lim : Option ℕ) → length es ≡ 0 → search E es vc n e lim ≡ refused Refusal.no_identity none
unfolding search
search-none E [] vc n e lim h = refl
search-none E (x ∷ es) vc n e lim h = absurd (omega arith)

module _ {v l x : List ℕ} {n m : ℕ} {rank : ℕ → ℕ} (world : World (Tabling v l x n m) rank) (es : List ℕ) (b e limit : ℕ) (w : List ℕ) where
  abbrev t : Tables
  t = Tabling v l x n m

  abbrev Tell : ℕ → List ℕ → Result Found Refused → Type 0
  Tell vc w' r = Tells (searched (tabled t) (asking es vc b e limit)) w w' r

  size_is : length (forest (tabled t)) ≡ m
  size_is = forest-size (tabled t) ∙ expression-count t

  -- a refusal
  no : {k : Refusal} {r : Result Found Refused} → ((w : List ℕ) → searched_says r w ≡ refused k none) → (vc : ℕ) → searched (tabled t) (asking es vc b e limit) ≡ refused k none → Tell vc w r
  no h vc q = rw q (record { says = h w; set = refl })

  pub no_identity : length es ≡ 0 → (vc : ℕ) → Tell vc w (Err (blaming_none refusal.NoIdentity))
  no_identity h vc = no (λ w. refl) vc (search-none (forest (tabled t)) es vc b e (some limit) h)

  module _ (some' : length es ≡ 0 → ⊥) where
    by : (vc : ℕ) → searched (tabled t) (asking es vc b e limit) ≡ unless Refusal.bits (bits_ok b e) (unless Refusal.not_there (all_below m es) (tries (some limit) (forest (tabled t)) (folds vc es) (2 ^ (e - b)) 2 none 0))
    by vc =
        search-by (forest (tabled t)) es vc b e (some limit) some'
        ∙ ap (λ k. unless Refusal.bits (bits_ok b e) (unless Refusal.not_there (all_below k es) (tries (some limit) (forest (tabled t)) (folds vc es) (2 ^ (e - b)) 2 none 0))) size_is

    pub no_bits : {r : Bool} → r ≡ bits_ok b e → r ≡ false → (vc : ℕ) → Tell vc w (Err (blaming_none refusal.Bits))
    no_bits h q vc = no (λ w. refl) vc (by vc ∙ ap (λ c. unless Refusal.bits c (unless Refusal.not_there (all_below m es) (tries (some limit) (forest (tabled t)) (folds vc es) (2 ^ (e - b)) 2 none 0))) (sym h ∙ q))

    module _ {r : Bool} (rh : r ≡ bits_ok b e) (rq : r ≡ true) {s : Bool} (sh : s ≡ all_below m es) where
      in_range : (vc : ℕ) → searched (tabled t) (asking es vc b e limit) ≡ unless Refusal.not_there s (tries (some limit) (forest (tabled t)) (folds vc es) (2 ^ (e - b)) 2 none 0)
      in_range vc =
          by vc ∙ ap₂ (λ c d. unless Refusal.bits c (unless Refusal.not_there d (tries (some limit) (forest (tabled t)) (folds vc es) (2 ^ (e - b)) 2 none 0))) (sym rh ∙ rq) (sym sh)

      pub no-expression : s ≡ false → (vc : ℕ) → Tell vc w (Err (blaming_none refusal.NotThere))
      no-expression q vc = no (λ w. refl) vc (in_range vc ∙ ap (λ c. unless Refusal.not_there c (tries (some limit) (forest (tabled t)) (folds vc es) (2 ^ (e - b)) 2 none 0)) q)

      pub range : (b ≤ e) × (e - b ≤ 4)
      range = bits_range b e (sym rh ∙ rq)

      module _ (sq : s ≡ true) {f : List ℕ} (fulls : Fulls t f) {k : ℕ} (kq : k ≡ e - b) {last : ℕ} (lq : last ≡ 2 ^ k + 1) where
        pub choose-asks : Asks t rank f es last
        choose-asks =
            let p = pow_low k (omega (arith, kq, range.1)) in
            record {
              world = world;
              fulls = fulls;
              some = some_one (length es) some';
              each = each_below m es (sym sh ∙ sq);
              low = omega (arith, lq, p.0);
              high = omega (arith, lq, p.1);
            }
          where
            some_one : (n : ℕ) → (n ≡ 0 → ⊥) → 1 ≤ n
            some_one n h = omega arith

        pub chosen : {w' : List ℕ} {o : Result Found Refused} → ((vc : ℕ) → Tells (tries (some limit) (forest (tabled t)) (folds vc es) (last - 1) 2 none 0) w w' o) → (vc : ℕ) → Tell vc w' o
        chosen {w'} {o} h vc =
            let z : last - 1 ≡ 2 ^ (e - b) = let y : last ≡ 2 ^ (e - b) + 1 = lq ∙ ap (λ k. 2 ^ k + 1) kq in omega (arith, y) in
            subst (λ a. Tells a w w' o)
            (sym (in_range vc ∙ ap (λ c. unless Refusal.not_there c (tries (some limit) (forest (tabled t)) (folds vc es) (2 ^ (e - b)) 2 none 0)) sq
            ∙ ap (λ n. tries (some limit) (forest (tabled t)) (folds vc es) n 2 none 0) (sym z))) (h vc)

-- ── the pool before it ───────────────────────────────────────────────────────
module _ (v x : List ℕ) (c : Counts) (a : PoolAsked c) (l : List ℕ) where
  abbrev p : Pool
  p = tabled (Tabling v l x c.nodes c.expressions)

  pub judged_as : {u : List ℕ} {d : Result (List ℕ) Refused} → Admits (Tabling v l x c.nodes c.expressions) u d → u ≡ [] → {o : Result (List ℕ) Refused} → d ≡ o → Verdict p [] (verdict_says o)
  judged_as {d = d} h e q = subst (λ z. Verdict p [] (verdict_says z)) q (subst (λ (u : List ℕ). Verdict p u (verdict_says d)) e h.judged)

  pub refused-pool :
      {k : Refusal} {o : Option ℕ} → Verdict p [] (refused k o) → (q : Question) (w : List ℕ) (r : Result Found Refused) → searched_says r w ≡ refused k o →
      (z : Answer Choice) × Answers p q z × Tells z w w r
  refused-pool {k} {o} h q w r e = (refused k o, (refused k o, h, refl), record { says = e; set = refl })

  module _ (h : Verdict p [] (done tt)) where
    abbrev pub rank : ℕ → ℕ
    rank = ((exactly_0 p (done tt) h).0 refl).1.rank

    pub admitted-world : World (Tabling v l x c.nodes c.expressions) rank
    admitted-world =
        let s = (exactly_0 p (done tt) h).0 refl in
        record {
          starts = record { shaped = s.0; few_nodes = a.nodes; few_expressions = a.expressions; tabulated = λ u z. absurd z };
          ranked = acyclic-ranked p s.1;
        }

    pub searched-pool : (q : Question) {w w' : List ℕ} {r : Result Found Refused} → Tells (searched p q) w w' r → (z : Answer Choice) × Answers p q z × Tells z w w' r
    searched-pool q t = (searched p q, (done tt, h, refl), t)

pub pool-fits : {c : Counts} → PoolAsked c → Fits [] c.nodes c.expressions
pool-fits a = record { nodes = a.nodes; expressions = a.expressions; tabulated = λ u z. absurd z }

-- ── what was read ────────────────────────────────────────────────────────────
module _ {s : List ℕ} {u : frames.Tables} {r : Result Counts Refused} (f : Fills s r u) (q : Question) where
  unread : {k : Refusal} {o : Option ℕ} → refused k o ≡ reading s → Runs (reading s) q (refused k o)
  unread h = record { unread = λ k o e. same (h ∙ e); judged = λ i e. absurd (done-not-refused (sym e ∙ sym h)) }
    where
      same : {k k' : Refusal} {o o' : Option ℕ} → ◌≡◌ {A = Answer Input} (refused k o) (refused k' o') → ◌≡◌ {A = Answer Choice} (refused k o) (refused k' o')
      same {k} {k'} {o} {o'} e =
          let a : k ≡ k' = cc in
          let b : o ≡ o' = cc in
          rw (a, b)

  pub stopped-run : {b : Refused} → r ≡ Err b → (w : List ℕ) → RunIs (reading s) q w w (Err b)
  stopped-run {b} e w = record { answer = refused (refusal_of b.refusal) (blame_of b.node); runs = unread (ap (held u) (sym e) ∙ f.answer); says = refl; set = refl }

  module _ {c : Counts} (e : r ≡ Ok c) where
    read_is : done (input_in u c) ≡ reading s
    read_is = ap (held u) (sym e) ∙ f.answer

    pool-is : pool_of (input_in u c) ≡ tabled (Tabling u.nodes u.literals u.expressions c.nodes c.expressions)
    unfolding input_in tabled
    pool-is = refl

    pub ran-run :
        {w w' : List ℕ} {o : Result Found Refused} →
        (a : Answer Choice) × Answers (tabled (Tabling u.nodes u.literals u.expressions c.nodes c.expressions)) q a × Tells a w w' o → RunIs (reading s) q w w' o
    ran-run g = record {
      answer = g.0;
      runs = record {
        unread = λ k o z. absurd (done-not-refused (read_is ∙ z));
        judged = λ i z.
            let j : input_in u c ≡ i = done-same _ _ (read_is ∙ z) in
            subst (λ (y : Input). Answers (pool_of y) q g.0) j (subst (λ (y : Pool). Answers y q g.0) (sym pool-is) g.1);
      };
      says = g.2.says;
      set = g.2.set;
    }

pub read_fits : {s : List ℕ} {u : frames.Tables} {r : Result Counts Refused} → Fills s r u → {c : Counts} → r ≡ Ok c → PoolAsked c
read_fits {s} {u} f {c} e =
    let w = held-within (frames_in s) u c (ap (held u) (sym e) ∙ f.answer ∙ read_as s) in
    record { nodes = w.nodes; expressions = w.expressions }
