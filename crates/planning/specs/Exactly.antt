-- EACH REFUSAL OF A PLAN EXACTLY WHEN one of its ways is open (Ways.antt), for every slice of frames and every record; and only one answer fits.
-- Assumes nothing.
use Rattle.std.specs.Prelude.{ℕ, ◌≡◌, Bool, cond, ◌||◌, List, [], ◌∷◌, ◌⊎◌, ◌↔◌, length, eqb}
use Rattle.std.proofs.Math.Path.{refl}
use Rattle.std.proofs.Common.{sym, ◌∙◌, ap, subst, inl, inr, eqb-true, eq-eqb}
use Rattle.std.proofs.Math.Bool.{true, false}
use Rattle.std.proofs.Math.Option.{Option, none, some}
use Rattle.meaning.specs.Trees.{Member}
use Rattle.meaning.specs.Refusals.{Refusal, number, Answer, done, refused, answer_no, ◌then◌}
use Rattle.meaning.proofs.Laws.Tests.{true-false, number-not-zero}
use Rattle.frames.specs.Order.{Input}
use Rattle.pool.specs.Pool.{Pool, node}
use Rattle.pool.specs.Shaped.{Shaped}
use Rattle.pool.specs.Admission.{shape}
use Rattle.pool.specs.Verdict.{SomeWrongCount, Ends}
use Rattle.pool.specs.Numbered.{pool_of}
use Rattle.pool.specs.Laws.Shape.{Shape, shape_is, shaped-counts, shaped-there}
use Rattle.pool.specs.Laws.Walks.{no-closed-walk}
use Rattle.pool.specs.Laws.Cycles.{on-closed, one-first}
use Rattle.plans.specs.Plan.{q2exp_count, q2exp, is_plan}
use Rattle.plans.specs.Columns.{fits}
use Rattle.plans.specs.Agreement.{cm_count, bits_good, counts_agree}
use Rattle.plans.specs.Exactly.{SomeNameLost, BitsOut, CountsDiffer, exactly-malformed, exactly-over, exactly-lost, exactly-bits, exactly-counts, leaf-fails}
use Rattle.plans.specs.Fails.{Fails, and-fails, some_fail}
use Rattle.map_records.specs.Mapping.{Mapping, mapped, some_none}
use Rattle.planning.specs.Planning.{argued, all_there, plan_shape, Verdict, columned, Planned, planned, Judged, Plans, Goes}
use Rattle.planning.specs.Ways.{WellFormed, SomeLeafLost, SomethingLost, SomeCycle, SomeUndimensioned, Admitted, Way}
use Rattle.planning.specs.Laws.Argued.{no-plan, too_many_lem, ill-formed, well_formed_lem}

-- ---- tests

passes : {t : Bool} {P : Type 0} → Fails t P → t ≡ true → P → ⊥
passes f e p = true-false e (f.1 p)

passed : {t : Bool} {P : Type 0} → Fails t P → (P → ⊥) → t ≡ true
passed {t} {P} f n = go t refl
  where
    go : (r : Bool) → t ≡ r → t ≡ true
    go true e = e
    go false e = absurd (n (f.0 e))

none-member : (l : List ℕ) → (some_none l ≡ true) ↔ Member 0 l
unfolding some_none
none-member l = (to l, back l)
  where
    one : (d : ℕ) (ds : List ℕ) (r : Bool) → eqb d 0 ≡ r → (r || some_none ds) ≡ true → (some_none ds ≡ true → Member 0 ds) → Member 0 (d ∷ ds)
    one d ds true q e ih = inl (eqb-true d 0 q)
    one d ds false q e ih = inr (ih e)

    to : (l : List ℕ) → some_none l ≡ true → Member 0 l
    to [] e = absurd (true-false refl (sym e))
    to (d ∷ ds) e = one d ds (eqb d 0) refl e (to ds)

    or_right : (r : Bool) → (r || true) ≡ true
    or_right true = refl
    or_right false = refl

    back : (l : List ℕ) → Member 0 l → some_none l ≡ true
    back [] m = absurd m
    back (d ∷ ds) (inl e) = rw (eq-eqb d 0 e)
    back (d ∷ ds) (inr m) = rw (back ds m) (or_right (eqb d 0))

module _ (b : List ℕ) (p : Pool) where
  there-fails : Fails (all_there b p) (SomeNameLost b (length p.expressions) ⊎ SomeLeafLost b p)
  unfolding all_there
  there-fails =
      and-fails (exactly-lost b (length p.expressions))
      (some_fail (λ i. leaf-fails (cm_count b) (q2exp_count b) (node p i).kind (node p i).id) (length p.nodes))

  -- ---- the verdict, one of four

  data Case (v : Answer (Unit {0})) : Type 0 where
    two : (o : Option ℕ) → SomeWrongCount p → v ≡ refused Refusal.child_count o → Case v
    three : (o : Option ℕ) → (SomeWrongCount p → ⊥) → SomethingLost b p → v ≡ refused Refusal.not_there o → Case v
    four : (o : Option ℕ) → Shaped p → (SomethingLost b p → ⊥) → SomeCycle b p → v ≡ refused Refusal.cycle o → Case v
    fine : Admitted b p → v ≡ done tt → Case v

  abbrev after : Bool → Answer (Unit {0}) → Answer (Unit {0})
  after r a = a then λ _. cond r (done tt) (refused Refusal.not_there none)

  cases : (v : Answer (Unit {0})) → Verdict b p v → Case v
  cases v j = go (shape p) (shape_is p) (all_there b p) refl refl
    where
      end : Shaped p → (SomethingLost b p → ⊥) → Ends p (q2exp b) v → Case v
      end s n (inl h) = Case.four (some h.0) s n (on-closed p (q2exp b) h.2.on) h.1
      end s n (inr h) = Case.fine (record { shaped = s; all = n; rank = h.1.0; ranked = h.1.1 }) h.0

      none-lost : Shaped p → all_there b p ≡ true → SomethingLost b p → ⊥
      none-lost s e (inl h) = shaped-there p s h
      none-lost s e (inr h) = passes there-fails e h

      go : (a : Answer (Unit {0})) → Shape p a → (r : Bool) → all_there b p ≡ r → plan_shape b p ≡ after r a → Case v
      go a (Shape.count n w) r q e = Case.two (some n) w (j.refuses _ _ e)
      go a (Shape.child n w x) r q e = Case.three (some n) w (inl x) (j.refuses _ _ e)
      go a (Shape.root w x) r q e = Case.three none w (inl x) (j.refuses _ _ e)
      go a (Shape.fine s) true q e = end s (none-lost s q) (j.decides e)
      go a (Shape.fine s) false q e = Case.three none (shaped-counts p s) (inr (there-fails.0 q)) (j.refuses _ _ e)

  -- only one verdict fits
  pub one-verdict : (v w : Answer (Unit {0})) → Verdict b p v → Verdict b p w → v ≡ w
  one-verdict v w j k = go (plan_shape b p) refl
    where
      both : Ends p (q2exp b) v → Ends p (q2exp b) w → v ≡ w
      both (inl h) (inl k) = h.1 ∙ ap (λ n. refused Refusal.cycle (some n)) (one-first p (q2exp b) h.2 k.2) ∙ sym k.1
      both (inl h) (inr k) = absurd (no-closed-walk p (q2exp b) k.1.0 k.1.1 (on-closed p (q2exp b) h.2.on))
      both (inr h) (inl k) = absurd (no-closed-walk p (q2exp b) h.1.0 h.1.1 (on-closed p (q2exp b) k.2.on))
      both (inr h) (inr k) = h.0 ∙ sym k.0

      go : (s : Answer (Unit {0})) → plan_shape b p ≡ s → v ≡ w
      go (done u) q = both (j.decides q) (k.decides q)
      go (refused r n) q = j.refuses r n q ∙ sym (k.refuses r n q)

  -- ---- the columns

  bits_is : BitsOut b → columned b p ≡ refused Refusal.bits none
  unfolding columned
  bits_is h = rw ((exactly-bits b).1 h)

  counts-is : (BitsOut b → ⊥) → CountsDiffer b → columned b p ≡ refused Refusal.counts none
  unfolding columned
  counts-is n h = rw (passed (exactly-bits b) n, (exactly-counts b).1 h)

  none_is : (BitsOut b → ⊥) → (CountsDiffer b → ⊥) → SomeUndimensioned b p → columned b p ≡ refused Refusal.no_dimension none
  unfolding columned
  none_is n m h = rw (passed (exactly-bits b) n, passed (exactly-counts b) m, (none-member (mapped b p).dims).1 h)

  mapped-is : (BitsOut b → ⊥) → (CountsDiffer b → ⊥) → (SomeUndimensioned b p → ⊥) → columned b p ≡ done (mapped b p)
  unfolding columned
  mapped-is n m h = rw (passed (exactly-bits b) n, passed (exactly-counts b) m, not_none (some_none (mapped b p).dims) refl)
    where
      not_none : (r : Bool) → some_none (mapped b p).dims ≡ r → r ≡ false
      not_none true q = absurd (h ((none-member (mapped b p).dims).0 q))
      not_none false q = refl

-- ── exactly when ─────────────────────────────────────────────────────────────
module _ (b : List ℕ) (own : Bool) (x : Answer Input) (a : Answer Planned) (h : Plans b own x a) where
  well : WellFormed b own → argued b own ≡ done tt
  well w = well_formed_lem b own (passed (exactly-malformed b) w.plan) (passed (exactly-over b) w.fits) w.others

  abbrev onward : Pool → Answer (Unit {0}) → Answer Planned
  onward p v = v then λ _. columned b p then λ m. done (planned p m)

  -- where the verdict refuses
  told : (i : Input) {v : Answer (Unit {0})} {k : Refusal} {o : Option ℕ} → a ≡ onward (pool_of i) v → v ≡ refused k o → answer_no a ≡ number k
  told i q e = ap answer_no (q ∙ ap (onward (pool_of i)) e)

  -- and where it does not
  goes : (i : Input) {v : Answer (Unit {0})} {z : Answer Mapping} → a ≡ onward (pool_of i) v → v ≡ done tt → columned b (pool_of i) ≡ z → a ≡ (z then λ m. done (planned (pool_of i) m))
  goes i q e f = q ∙ ap (onward (pool_of i)) e ∙ ap (λ (z : Answer Mapping). z then λ m. done (planned (pool_of i) m)) f

  abbrev W : ℕ → Type 0
  W n = Way b own x n

  -- ---- each number comes in one of its ways

  column-ways : (i : Input) → x ≡ done i → WellFormed b own → Admitted b (pool_of i) → {v : Answer (Unit {0})} → a ≡ onward (pool_of i) v → v ≡ done tt → W (answer_no a)
  column-ways i q w d e f = by_bits (bits_good b) refl
    where
      at : {n : ℕ} {z : Answer Mapping} → columned b (pool_of i) ≡ z → answer_no (z then λ m. done (planned (pool_of i) m)) ≡ n → W n → W (answer_no a)
      at c e' y = subst W (sym (ap answer_no (goes i e f c) ∙ e')) y

      by-dims : (BitsOut b → ⊥) → (CountsDiffer b → ⊥) → (r : Bool) → some_none (mapped b (pool_of i)).dims ≡ r → W (answer_no a)
      by-dims n m true r = let s = (none-member (mapped b (pool_of i)).dims).0 r in at (none_is b (pool_of i) n m s) refl (Way.undimensioned i q w d n m s)
      by-dims n m false r =
          let s : SomeUndimensioned b (pool_of i) → ⊥ = λ u. true-false ((none-member (mapped b (pool_of i)).dims).1 u) r in
          at (mapped-is b (pool_of i) n m s) refl (Way.planned i q w d n m s)

      by-counts : (BitsOut b → ⊥) → (r : Bool) → counts_agree b ≡ r → W (answer_no a)
      by-counts n true r = by-dims n (passes (exactly-counts b) r) (some_none (mapped b (pool_of i)).dims) refl
      by-counts n false r = let s = (exactly-counts b).0 r in at (counts-is b (pool_of i) n s) refl (Way.counts i q w d n s)

      by_bits : (r : Bool) → bits_good b ≡ r → W (answer_no a)
      by_bits true r = by-counts (passes (exactly-bits b) r) (counts_agree b) refl
      by_bits false r = let s = (exactly-bits b).0 r in at (bits_is b (pool_of i) s) refl (Way.bits i q w d s)

  pool-ways : (i : Input) → x ≡ done i → WellFormed b own → Judged b own (pool_of i) a → W (answer_no a)
  pool-ways i q w j = go (cases b (pool_of i) j.0 j.1)
    where
      go : Case b (pool_of i) j.0 → W (answer_no a)
      go (Case.two o s e) = subst W (sym (told i j.2 e)) (Way.child_count i q w s)
      go (Case.three o n s e) = subst W (sym (told i j.2 e)) (Way.lost i q w n s)
      go (Case.four o s n c e) = subst W (sym (told i j.2 e)) (Way.cycle i q w s n c)
      go (Case.fine d e) = column-ways i q w d j.2 e

  pub ways : W (answer_no a)
  ways = go x refl
    where
      refuses : {k : Refusal} {o : Option ℕ} {n : ℕ} → a ≡ refused k o → number k ≡ n → W n → W (answer_no a)
      refuses e q y = subst W (sym (ap answer_no e ∙ q)) y

      by-own : (i : Input) → x ≡ done i → is_plan b ≡ true → fits b ≡ true → (r : Bool) → own ≡ r → W (answer_no a)
      by-own i q e f true r =
          let w : WellFormed b own = record { plan = passes (exactly-malformed b) e; fits = passes (exactly-over b) f; others = r } in
          pool-ways i q w (h.judged i q (well_formed_lem b own e f r))
      by-own i q e f false r =
          refuses (h.unfit i q _ _ (ill-formed b own e f r)) refl (Way.ill_formed i q (passes (exactly-malformed b) e) (passes (exactly-over b) f) r)

      by_fits : (i : Input) → x ≡ done i → is_plan b ≡ true → (r : Bool) → fits b ≡ r → W (answer_no a)
      by_fits i q e true r = by-own i q e r own refl
      by_fits i q e false r = refuses (h.unfit i q _ _ (too_many_lem b own e r)) refl (Way.too_many i q (passes (exactly-malformed b) e) ((exactly-over b).0 r))

      by-plan : (i : Input) → x ≡ done i → (r : Bool) → is_plan b ≡ r → W (answer_no a)
      by-plan i q true r = by_fits i q r (fits b) refl
      by-plan i q false r = refuses (h.unfit i q _ _ (no-plan b own r)) refl (Way.no_plan i q ((exactly-malformed b).0 r))

      go : (y : Answer Input) → x ≡ y → W (answer_no a)
      go (refused k o) q = refuses (h.unread k o q) refl (Way.unread k o q)
      go (done i) q = by-plan i q (is_plan b) refl

  -- ---- each way gives its number

  pool-number : (i : Input) → WellFormed b own → x ≡ done i → {n : ℕ} → ((v : Answer (Unit {0})) → a ≡ onward (pool_of i) v → Case b (pool_of i) v → answer_no a ≡ n) → answer_no a ≡ n
  pool-number i w q f = let j = h.judged i q (well w) in f j.0 j.2 (cases b (pool_of i) j.0 j.1)

  column-number :
      (i : Input) → WellFormed b own → x ≡ done i → Admitted b (pool_of i) → {z : Answer Mapping} → columned b (pool_of i) ≡ z →
      answer_no a ≡ answer_no (z then λ m. done (planned (pool_of i) m))
  column-number i w q d {z} c = pool-number i w q go
    where
      go : (v : Answer (Unit {0})) → a ≡ onward (pool_of i) v → Case b (pool_of i) v → answer_no a ≡ answer_no (z then λ m. done (planned (pool_of i) m))
      go v e (Case.two o s f) = absurd (shaped-counts (pool_of i) d.shaped s)
      go v e (Case.three o n s f) = absurd (d.all s)
      go v e (Case.four o s n c' f) = absurd (no-closed-walk (pool_of i) (q2exp b) d.rank d.ranked c')
      go v e (Case.fine d' f) = ap answer_no (goes i e f c)

  pub way-number : (n : ℕ) → W n → answer_no a ≡ n
  way-number n (Way.unread k o q) = ap answer_no (h.unread k o q)
  way-number n (Way.no_plan i q s) = ap answer_no (h.unfit i q _ _ (no-plan b own ((exactly-malformed b).1 s)))
  way-number n (Way.too_many i q p s) = ap answer_no (h.unfit i q _ _ (too_many_lem b own (passed (exactly-malformed b) p) ((exactly-over b).1 s)))
  way-number n (Way.ill_formed i q p s e) =
      ap answer_no (h.unfit i q _ _ (ill-formed b own (passed (exactly-malformed b) p) (passed (exactly-over b) s) e))
  way-number n (Way.child_count i q w s) = pool-number i w q go
    where
      go : (v : Answer (Unit {0})) → a ≡ onward (pool_of i) v → Case b (pool_of i) v → answer_no a ≡ 2
      go v e (Case.two o t f) = told i e f
      go v e (Case.three o m t f) = absurd (m s)
      go v e (Case.four o t m c f) = absurd (shaped-counts (pool_of i) t s)
      go v e (Case.fine d f) = absurd (shaped-counts (pool_of i) d.shaped s)
  way-number n (Way.lost i q w m s) = pool-number i w q go
    where
      go : (v : Answer (Unit {0})) → a ≡ onward (pool_of i) v → Case b (pool_of i) v → answer_no a ≡ 3
      go v e (Case.two o t f) = absurd (m t)
      go v e (Case.three o u t f) = told i e f
      go v e (Case.four o t u c f) = absurd (u s)
      go v e (Case.fine d f) = absurd (d.all s)
  way-number n (Way.cycle i q w t m c) = pool-number i w q go
    where
      go : (v : Answer (Unit {0})) → a ≡ onward (pool_of i) v → Case b (pool_of i) v → answer_no a ≡ 4
      go v e (Case.two o s f) = absurd (shaped-counts (pool_of i) t s)
      go v e (Case.three o u s f) = absurd (m s)
      go v e (Case.four o u s d f) = told i e f
      go v e (Case.fine d f) = absurd (no-closed-walk (pool_of i) (q2exp b) d.rank d.ranked c)
  way-number n (Way.bits i q w d s) = column-number i w q d (bits_is b (pool_of i) s)
  way-number n (Way.counts i q w d m s) = column-number i w q d (counts-is b (pool_of i) m s)
  way-number n (Way.undimensioned i q w d m k s) = column-number i w q d (none_is b (pool_of i) m k s)
  way-number n (Way.planned i q w d m k s) = column-number i w q d (mapped-is b (pool_of i) m k s)

  -- EXACTLY WHEN: the answer has a number exactly when one of that number's ways is open
  pub exactly : (n : ℕ) → (answer_no a ≡ n) ↔ Way b own x n
  exactly n = (λ e. subst W e ways, way-number n)

-- ── only one ─────────────────────────────────────────────────────────────────
pub one-plan : (b : List ℕ) (own : Bool) (x : Answer Input) (a c : Answer Planned) → Plans b own x a → Plans b own x c → a ≡ c
one-plan b own x a c h k = go x refl
  where
    by : (i : Input) → x ≡ done i → (y : Answer (Unit {0})) → argued b own ≡ y → a ≡ c
    by i q (refused r o) e = h.unfit i q r o e ∙ sym (k.unfit i q r o e)
    by i q (done u) e =
        let j = h.judged i q e in
        let l = k.judged i q e in
        j.2 ∙ ap (λ (v : Answer (Unit {0})). v then λ _. columned b (pool_of i) then λ m. done (planned (pool_of i) m)) (one-verdict b (pool_of i) j.0 l.0 j.1 l.1) ∙ sym l.2

    go : (y : Answer Input) → x ≡ y → a ≡ c
    go (refused r o) q = h.unread r o q ∙ sym (k.unread r o q)
    go (done i) q = by i q (argued b own) refl

-- and of an entry point that goes on
pub one-gone : {A : Type 0} (b : List ℕ) (own : Bool) (what : Planned → Answer A) (x : Answer Input) (a c : Answer A) → Goes b own what x a → Goes b own what x c → a ≡ c
one-gone b own what x a c h k = h.2 ∙ ap (λ (z : Answer Planned). z then what) (one-plan b own x h.0 k.0 h.1 k.1) ∙ sym k.2

-- EXACTLY WHEN, of an entry point that goes on: a refusal's number comes of the plan, or of what follows it
module _ {A : Type 0} (b : List ℕ) (own : Bool) (what : Planned → Answer A) (x : Answer Input) (a : Answer A) (h : Goes b own what x a) where
  -- there is a plan, and what follows it answers with n
  pub record Follows (n : ℕ) : Type 0 where
    pub pooled : Planned
    pub plans : Plans b own x (done pooled)
    pub number : answer_no (what pooled) ≡ n

  pub exactly-gone : (n : ℕ) → (answer_no a ≡ n) ↔ ((Way b own x n × (n ≡ 0 → ⊥)) ⊎ Follows n)
  exactly-gone n = (λ e. to h.0 refl e, back)
    where
      to : (z : Answer Planned) → h.0 ≡ z → answer_no a ≡ n → (Way b own x n × (n ≡ 0 → ⊥)) ⊎ Follows n
      to (done p) q e =
          inr (record { pooled = p; plans = subst (λ (y : Answer Planned). Plans b own x y) q h.1; number = sym (ap answer_no (h.2 ∙ ap (λ (y : Answer Planned). y then what) q)) ∙ e })
      to (refused k o) q e =
          let is : answer_no a ≡ number k = ap answer_no (h.2 ∙ ap (λ (y : Answer Planned). y then what) q) in
          inl (subst (Way b own x) (ap answer_no q ∙ sym is ∙ e) (ways b own x h.0 h.1), λ z. number-not-zero k (sym is ∙ e ∙ z))

      refused_so : (z : Answer Planned) → h.0 ≡ z → answer_no h.0 ≡ n → (n ≡ 0 → ⊥) → answer_no a ≡ n
      refused_so (done p) q e z = absurd (z (sym e ∙ ap answer_no q))
      refused_so (refused k o) q e z = ap answer_no (h.2 ∙ ap (λ (y : Answer Planned). y then what) q) ∙ sym (ap answer_no q) ∙ e

      back : (Way b own x n × (n ≡ 0 → ⊥)) ⊎ Follows n → answer_no a ≡ n
      back (inl w) = refused_so h.0 refl (way-number b own x h.0 h.1 n w.0) w.1
      back (inr f) = ap answer_no (h.2 ∙ ap (λ (y : Answer Planned). y then what) (one-plan b own x h.0 (done f.pooled) h.1 f.plans)) ∙ f.number
