-- THE ANSWER, by the way that the code comes to it: each is what `ruling` says.
-- Assumes nothing.
use Prim.Native.Nat.{ℕ, zero, suc, ◌+◌, ◌*◌, ◌/◌, ◌%◌, ◌<◌, ◌≤◌}
use Rattle.std.specs.Prelude.{◌≡◌, Bool, false, cond, ◌&&◌, List, [], ◌∷◌, ◌++◌, length, get_or, replicate, leb, eqb}
use Rattle.std.proofs.Math.Path.{refl, sym}
use Rattle.std.proofs.Common.{◌∙◌, ap, subst, append_assoc, append-nil, div-add-mod', mod-eq_of_lt, arith, le-leb, leb-true}
use Rattle.std.proofs.Math.Bool.{true}
use Rattle.std.proofs.Math.Option.{Option, none, some, none-ne-some}
use Rattle.std.proofs.Math.Nat.{mul-add-mod_self_right}
use Rattle.std.proofs.lemmas.List.{length-replicate}
use Rattle.std.proofs.lemmas.Bool.{lt-leb}
use Rattle.kinds.specs.Write.{write}
use Rattle.kinds.specs.BigEndian.{u16_at}
use Rattle.kinds.specs.References.{ref_at}
use Rattle.kinds.specs.Steps.{step_size, step_at, steps_of, steps-none, steps-more}
use Rattle.kinds.specs.declared.reference.Reference.{Reference}
use Rattle.meaning.specs.Refusals.{Refusal, Answer, done, refused, ◌then◌}
use Rattle.meaning.specs.Trees.{Lit, lit, nth, Each, up_to}
use Rattle.meaning.specs.Values.{bind}
use Rattle.meaning.specs.Models.{modulo}
use Rattle.meaning.specs.Steps.{kind_no, Cell, Step}
use Rattle.meaning.specs.Running.{Store, empty, run}
use Rattle.meaning.proofs.Laws.Tests.{true-false, and_left, and_right, each-join}
use Rattle.evaluator_cells.specs.Literals.{NumbersOf}
use Rattle.evaluator_cells.specs.Given.{Lent, lent, given}
use Rattle.lists.specs.Records.{record_count, records_in, good_record, good_records, good_list}
use Rattle.lists.specs.Decoding.{steps_from}
use Rattle.evaluator_cells.specs.Cells.{cell_limit, id_limit, key_no}
use Rattle.evaluator_run.specs.Evaluation as evaluation
use Rattle.evaluator_run.specs.Evaluation.{written, Valued, held_in, valued_by, valued_bytes, values_bytes, fitting, ruled, out_after, ruling}
use Rattle.evaluator_cells.specs.Keyed.{valued_size, keyed_bytes, keyed_to, key_limit}
use Rattle.evaluator_step.specs.Machine.{Table, table, Kept, Outcome, next, no_rule, over, run_to}
use Rattle.evaluator_run.specs.Presence.{is_known, slot_count, marks_to}
use Rattle.evaluator_run.specs.Computing.{computed_says, PutAsks, PutGiven, ComputeAsks, ComputedIs, ComputeGiven}
use Rattle.evaluator_cells.specs.Laws.Keys.{Small, key_of, key-small}
use Rattle.evaluator_cells.specs.Laws.Chains.{chained-none}
use Rattle.lists.specs.Laws.{good-append}
use Rattle.evaluator_run.specs.Laws.Holding.{Held, held_none, nth-there}
use Rattle.evaluator_run.specs.Laws.Simulation.{Narrow, NarrowStep, Fine, Simulated, simulated}
use Rattle.evaluator_run.specs.Laws.Presence.{present_none, MarkedAll, marked_all}
use Rattle.std.specs.Prelude.{Result, Ok, Err}
use Rattle.kinds.specs.declared.refusal.Refusal as code
use Rattle.kinds.specs.declared.refusal.Refusal.TheVariants as refusal

-- ---- the table at the beginning

pub kept-zeros : (m a b c d : ℕ) → a ≡ id_limit → b ≡ cell_limit → c ≡ cell_limit → d ≡ cell_limit → Kept m (table (replicate a 0) (replicate b 0) (replicate c 0) (replicate d 0) 0)
kept-zeros m a b c d p q r s =
    record {
      chained =
          chained-none (replicate a 0) (replicate b 0) (replicate c 0) (ap (λ n. replicate n 0) p) (length-replicate a 0 ∙ p) (length-replicate b 0 ∙ q)
          (length-replicate c 0 ∙ r);
      size = length-replicate d 0 ∙ s;
      reduced = λ j l. absurd (omega arith);
    }

-- ---- records of bytes

abbrev pub Bytes : List ℕ → Type 0
Bytes l = (i : ℕ) → get_or l i 0 < 256

module _ (l : List ℕ) (b : Bytes l) where
  narrow_at : (i : ℕ) → Narrow (ref_at l i)
  unfolding ref_at u16_at
  narrow_at i = omega (arith, b (i + 2), b (i + 2 + 1))

  narrow-counted : (n : ℕ) (r0 r1 r2 : Reference) → Narrow r0 → Narrow r1 → Narrow r2 → Each Narrow (up_to n (r0 ∷ r1 ∷ r2 ∷ []))
  narrow-counted zero r0 r1 r2 a c d = tt
  narrow-counted (suc zero) r0 r1 r2 a c d = (a, tt)
  narrow-counted (suc (suc zero)) r0 r1 r2 a c d = (a, (c, tt))
  narrow-counted (suc (suc (suc zero))) r0 r1 r2 a c d = (a, (c, (d, tt)))
  narrow-counted (suc (suc (suc (suc n)))) r0 r1 r2 a c d = (a, (c, (d, tt)))

  narrow_step : (i : ℕ) → NarrowStep (step_at l i)
  unfolding step_at
  narrow_step i =
      record {
        dest = narrow_at (i + 4);
        sources = narrow-counted (get_or l (i + 1) 0) (ref_at l (i + 16)) (ref_at l (i + 28)) (ref_at l (i + 40)) (narrow_at (i + 16)) (narrow_at (i + 28)) (narrow_at (i + 40));
      }

  fine-first : (n : ℕ) → good_records (steps_of l n) ≡ true → Each Fine (steps_of l n)
  unfolding good_records
  fine-first zero h = rw (steps-none l) tt
  fine-first (suc n) h =
      let x = step_at l (step_size * n) in
      let q : (good_records (steps_of l n) && good_records (x ∷ [])) ≡ true = sym (good-append (steps_of l n) (x ∷ [])) ∙ rw (steps-more l n) at h in
      let a = and_left (good_records (steps_of l n)) (good_records (x ∷ [])) q in
      let c = and_right (good_records (steps_of l n)) (good_records (x ∷ [])) q in
      rw (steps-more l n)
      (each-join Fine (steps_of l n) (x ∷ []) (fine-first n a)
      (record { good = and_left (good_record x) true c; narrow = narrow_step (step_size * n) }, tt))

  pub fine-all : good_list l ≡ true → Each Fine (records_in l)
  unfolding good_list
  fine-all h = fine-first (record_count l) (and_right (eqb (length l % step_size) 0) (good_records (records_in l)) h)

-- ---- the bytes of the answer

pub valued-length : (s : Store ℕ) (cs : List Cell) → length (valued_by s cs) ≡ length cs
unfolding valued_by
valued-length s [] = refl
valued-length s (c ∷ cs) = ap suc (valued-length s cs)

bytes-of-key : (c : Cell) (v : ℕ) → Small c → keyed_bytes (key_of c) v ≡ valued_bytes (record { cell = c; value = v })
unfolding keyed_bytes valued_bytes key_no
bytes-of-key (Cell.cell k i r) v l =
    let n = kind_no k * 2 + r in
    let key = n * id_limit + i in
    let a : key % id_limit ≡ i = mul-add-mod_self_right n id_limit i ∙ mod-eq_of_lt {n = i} {m = id_limit} l.0 in
    let d = div-add-mod' key id_limit in
    let b : key / id_limit ≡ n = omega arith in
    let c : n % 2 ≡ r = mul-add-mod_self_right (kind_no k) 2 r ∙ mod-eq_of_lt {n = r} {m = 2} l.1 in
    let e = div-add-mod' n 2 in
    let p : key / id_limit % 2 ≡ r = rw b c in
    let h : n / 2 ≡ kind_no k = omega arith in
    let q : key / id_limit / 2 ≡ kind_no k = rw b h in
    rw (a, p, q)

up_to-more : {A : Type 0} (l : List A) (n : ℕ) (a : A) → nth l n ≡ some a → up_to (suc n) l ≡ up_to n l ++ (a ∷ [])
up_to-more [] n a e = absurd (none-ne-some a e)
up_to-more (x ∷ l) zero a e =
    let q : x ≡ a = cc in
    rw q
up_to-more (x ∷ l) (suc n) a e = ap (λ t. x ∷ t) (up_to-more l n a e)

up_to-all : {A : Type 0} (l : List A) → up_to (length l) l ≡ l
up_to-all [] = refl
up_to-all (x ∷ l) = ap (λ t. x ∷ t) (up_to-all l)

valued-append : (s : Store ℕ) (cs ds : List Cell) → valued_by s (cs ++ ds) ≡ valued_by s cs ++ valued_by s ds
unfolding valued_by
valued-append s [] ds = refl
valued-append s (c ∷ cs) ds = ap (λ t. record { cell = c; value = held_in (s c) } ∷ t) (valued-append s cs ds)

bytes-append : (vs ws : List Valued) → values_bytes (vs ++ ws) ≡ values_bytes vs ++ values_bytes ws
unfolding values_bytes
bytes-append [] ws = refl
bytes-append (v ∷ vs) ws = rw (bytes-append vs ws, append_assoc)

module _ (s : Store ℕ) (ds : List Cell) (t : Table) (h : Held s ds t) where
  keyed_first : (n : ℕ) → n ≤ length ds → keyed_to t.keys t.values n ≡ values_bytes (valued_by s (up_to n ds))
  unfolding keyed_to valued_by values_bytes
  keyed_first zero l = refl
  keyed_first (suc n) l =
      let c = nth-there ds n (omega arith) in
      let k = h.keys n c.0 c.1 in
      let v = h.values n c.0 c.1 in
      let e : keyed_bytes (get_or t.keys n 0) (get_or t.values n 0) ≡ values_bytes (valued_by s (c.0 ∷ []))
      = rw (k, v, append-nil) (bytes-of-key c.0 (get_or t.values n 0) (h.small n c.0 c.1)) in
      rw (up_to-more ds n c.0 c.1, valued-append, bytes-append, ← keyed_first n (omega arith), e)

  keyed_is : keyed_to t.keys t.values t.count ≡ values_bytes (valued_by s ds)
  keyed_is = rw (← h.count) (keyed_first (length ds) (omega arith) ∙ rw (up_to-all ds))

  keys-small : (j : ℕ) → j < t.count → get_or t.keys j 0 < key_limit
  keys-small j l =
      let c = nth-there ds j (omega (arith, h.count)) in
      rw (h.keys j c.0 c.1) (key-small c.0 (h.small j c.0 c.1))

-- ---- the cells put

module _ (ks vs : List ℕ) (n : ℕ) (out : List ℕ) where
  pub put_full : length out < valued_size * n → PutGiven ks vs n out out (Err refusal.Full)
  put_full h = record { says = rw (lt-leb (valued_size * n) (length out) h); bytes = rw (lt-leb (valued_size * n) (length out) h) }

  pub put-done : {out' : List ℕ} → valued_size * n ≤ length out → out' ≡ write out 0 (keyed_to ks vs n) → PutGiven ks vs n out out' (Ok n)
  put-done h e = record { says = rw (le-leb (valued_size * n) (length out) h); bytes = rw (le-leb (valued_size * n) (length out) h) e }

-- ---- the answer

module _ (L : ℕ → Lit) (g : Lent) (m : ℕ) (list out : List ℕ) where
  answer-is :
      {out' : List ℕ} {r : Result ℕ code.Refusal} (a : Answer (List Valued)) → ruling L g m list (length out) ≡ a
      → computed_says r ≡ (a then λ vs. done (length vs)) → out' ≡ out_after out a → ComputedIs L g m list out out' r
  answer-is a e p q = record { says = p ∙ ap (λ x. x then λ vs. done (length vs)) (sym e); bytes = q ∙ ap (out_after out) (sym e) }

  refused-is : bind (steps_from L (records_in list)) (λ xs. run (modulo m) (given m g) xs empty) ≡ none → ComputedIs L g m list out out (Err refusal.NoRule)
  unfolding ruling
  refused-is h = answer-is (refused Refusal.no_rule none) (ap (ruled (length out)) (by (steps_from L (records_in list)) h)) refl refl
    where
      by : (l : Option (List Step)) → bind l (λ xs. run (modulo m) (given m g) xs empty) ≡ none → bind l (evaluation.computed m g) ≡ none
      by none h = refl
      by (some xs) h = rw h

  -- where the list runs to its end
  module _ (xs : List Step) (e : steps_from L (records_in list) ≡ some xs) (s : Store ℕ) (f : run (modulo m) (given m g) xs empty ≡ some s) where
    fitting-is : ruling L g m list (length out) ≡ fitting (length out) (valued_by s (written xs))
    unfolding ruling
    fitting-is = rw (e, f)

    full_is : (leb (length (written xs)) cell_limit && leb (valued_size * length (written xs)) (length out)) ≡ false → ComputedIs L g m list out out (Err refusal.Full)
    full_is h = answer-is (refused Refusal.full none) (fitting-is ∙ rw (valued-length s (written xs), h)) refl refl

    done-is :
        {out' : List ℕ} (n : ℕ) → length (written xs) ≡ n → n ≤ cell_limit → valued_size * n ≤ length out → out' ≡ write out 0 (values_bytes (valued_by s (written xs)))
        → ComputedIs L g m list out out' (Ok n)
    done-is n c l r q =
        answer-is (done (valued_by s (written xs))) (fitting-is ∙ rw (valued-length s (written xs), c, le-leb n cell_limit l, le-leb (valued_size * n) (length out) r))
        (ap done (sym (valued-length s (written xs) ∙ c))) q

module _ (ns : List ℕ) (ws : List ℕ) (m : ℕ) (list : List ℕ) (asks : ComputeAsks ns ws m list) (bs : Bytes list) (t : Table) (kept : Kept m t) (none_yet : t.count ≡ 0) where
  abbrev g : Lent
  g = lent ws

  fine : Each Fine (records_in list)
  fine = fine-all list bs asks.good

  sim : (L : ℕ → Lit) → NumbersOf L m ns → (w : Outcome) → w ≡ run_to ns m g t (records_in list) → Simulated L m g (records_in list) empty [] w
  sim L N w e =
      subst (Simulated L m g (records_in list) empty []) (sym e)
      (simulated L m g ns N (records_in list) fine asks.lends.modulus asks.reduced empty [] t (held_none t none_yet) kept)

  pub answer-no-rule : (out : List ℕ) → no_rule ≡ run_to ns m g t (records_in list) → ComputeGiven ns ws m list out out (Err refusal.NoRule)
  answer-no-rule out e L N = refused-is L g m list out (sim L N no_rule e)

  marks : (L : ℕ → Lit) → MarkedAll L m g (records_in list) empty (marks_to m g (replicate slot_count 0) (records_in list))
  marks L = marked_all L m g (records_in list) fine empty (replicate slot_count 0) present_none

  module _ (out : List ℕ) (e : over ≡ run_to ns m g t (records_in list)) (c : Bool) (ec : c ≡ is_known (marks_to m g (replicate slot_count 0) (records_in list))) where
    pub answer-over : c ≡ true → ComputeGiven ns ws m list out out (Err refusal.Full)
    answer-over h L N = by (marks_to m g (replicate slot_count 0) (records_in list)) (marks L) (sym ec ∙ h)
      where
        by : (z : Option (List ℕ)) → MarkedAll L m g (records_in list) empty z → is_known z ≡ true → ComputedIs L g m list out out (Err refusal.Full)
        by none y q = absurd (true-false {b = false} q refl)
        by (some z) y q = full_is L g m list out y.0 y.1 y.2.0 y.2.1 (rw (lt-leb (length (written y.0)) cell_limit (sim L N over e y.0 y.1)))

    pub answer-over-refused : c ≡ false → ComputeGiven ns ws m list out out (Err refusal.NoRule)
    answer-over-refused h L N = by (marks_to m g (replicate slot_count 0) (records_in list)) (marks L) (sym ec ∙ h)
      where
        by : (z : Option (List ℕ)) → MarkedAll L m g (records_in list) empty z → is_known z ≡ false → ComputedIs L g m list out out (Err refusal.NoRule)
        by none y q = refused-is L g m list out y
        by (some z) y q = absurd (true-false {b = true} refl q)

  module _ (hs xs ks vs : List ℕ) (n : ℕ) (e : next (table hs xs ks vs n) ≡ run_to ns m g t (records_in list)) where
    ended : (L : ℕ → Lit) → NumbersOf L m ns → Simulated L m g (records_in list) empty [] (next (table hs xs ks vs n))
    ended L N = sim L N (next (table hs xs ks vs n)) e

    -- every table is that of some literals: its own numbers
    abbrev own : ℕ → Lit
    own n = lit false (get_or ns n 0)

    own_of : NumbersOf own m ns
    own_of n = sym (mod-eq_of_lt {n = get_or ns n 0} {m = m} (asks.reduced.below n))

    pub answer-few : n ≤ cell_limit
    answer-few = (ended own own_of).2.3.chained.few

    pub answer-asks : PutAsks ks n
    answer-asks =
        let z = ended own own_of in
        record { few = answer-few; small = keys-small z.2.0 (written z.0) (table hs xs ks vs n) z.2.2 }

    pub answer-cells : (out : List ℕ) {out' : List ℕ} {r : Result ℕ code.Refusal} → PutGiven ks vs n out out' r → ComputeGiven ns ws m list out out' r
    answer-cells out {out'} {r} p L N = by (leb (valued_size * n) (length out)) refl p.says p.bytes
      where
        z : Simulated L m g (records_in list) empty [] (next (table hs xs ks vs n))
        z = ended L N

        count : length (written z.0) ≡ n
        count = z.2.2.count

        by :
            (b : Bool) → leb (valued_size * n) (length out) ≡ b → r ≡ cond b (Ok n) (Err refusal.Full) → out' ≡ cond b (write out 0 (keyed_to ks vs n)) out
            → ComputedIs L g m list out out' r
        by true h u v =
            rw u
            (done-is L g m list out z.0 z.1 z.2.0 z.2.1 n count answer-few (leb-true (valued_size * n) (length out) h)
            (v ∙ ap (write out 0) (keyed_is z.2.0 (written z.0) (table hs xs ks vs n) z.2.2)))
        by false h u v = rw (u, v) (full_is L g m list out z.0 z.1 z.2.0 z.2.1 (rw (count, le-leb n cell_limit answer-few, h)))
