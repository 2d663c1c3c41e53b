-- The table of groups, record by record: what the code holds is what the definition's sums take.
-- Assumes nothing.
use Rattle.std.specs.Prelude.{ℕ, suc, ◌+◌, ◌*◌, ◌/◌, ◌≤◌, ◌<◌, ◌≡◌, Bool, true, false, cond, ◌&&◌, ◌⊎◌, List, [], ◌∷◌, length, get_or, set, replicate, eqb, leb}
use Rattle.std.proofs.Math.Path.{refl, sym}
use Rattle.std.proofs.Common.{◌∙◌, ap, inl, inr, arith, add-one, eq-or-lt_of_le, length-set, get_or-set_same, get_or-set_other, ext_get_or}
use Rattle.std.proofs.lemmas.List.{length-replicate, get_or-replicate}
use borrow.Author.Tests.{le-leb, lt-leb, leb-true, leb-false, ne_eqb, eqb-true, eqb-false}
use Rattle.kinds.specs.Write.{write, write-append}
use Rattle.sections.specs.Sums.{each, each-length, each_at}
use Rattle.sections.specs.Sections.{section_count, record_limit, position_of, positions_from, first_width, whole_width, third_width}
use Rattle.sections.specs.Groups.{group_count, group_at, Records, taken, Tallied, Small, added, next_in, width_in}
use Rattle.sections.specs.declared.groups.Width.{Width}
use Rattle.sections.specs.declared.groups.Width.TheVariants as width
use Rattle.sections.proofs.Laws.Placing.{before-first, before-second, before-third, first_is, whole_is, third-is, taken-small, position_none, position_more, position_at}

-- ---- the table holds what the records before i take

pub tally-begin : (ss ds gs : List ℕ) → gs ≡ replicate group_count 0 → Tallied ss ds 0 gs
tally-begin ss ds gs e = record {
  long = rw e (length-replicate {A = ℕ} group_count 0);
  holds = λ s d h g. rw e (get_or-replicate {A = ℕ} group_count (group_at s d) 0 0 (omega arith));
}

module _ (ss ds : List ℕ) (i : ℕ) (gs : List ℕ) (t : Tallied ss ds i gs) where
  abbrev si : ℕ
  si = get_or ss i 0

  abbrev di : ℕ
  di = get_or ds i 0

  kept : (s d : ℕ) → s < section_count → d ≤ 3 → (eqb si s && eqb di d) ≡ false → get_or gs (group_at s d) 0 ≡ taken ss ds s d (suc i)
  kept s d h g e = t.holds s d h g ∙ rw e (omega arith)

  here : (s d : ℕ) → s < section_count → d ≤ 3 → si < section_count → di ≤ 3 → (a b : Bool) → eqb si s ≡ a → eqb di d ≡ b
      → get_or (set gs (group_at si di) (get_or gs (group_at si di) 0 + di)) (group_at s d) 0 ≡ taken ss ds s d (suc i)
  here s d h g k l true true ea eb =
      let es : si ≡ s = eqb-true si s ea in
      let ed : di ≡ d = eqb-true di d eb in
      let q : group_at si di ≡ group_at s d = omega arith in
      rw (q, ea, eb) (get_or-set_same gs (group_at s d) (get_or gs (group_at s d) 0 + di) 0 (rw t.long (omega arith)) ∙ rw (t.holds s d h g, ed))
  here s d h g k l true false ea eb =
      let es : si ≡ s = eqb-true si s ea in
      get_or-set_other gs (group_at si di) (group_at s d) (get_or gs (group_at si di) 0 + di) 0 (λ q. eqb-false di d eb (omega arith))
      ∙ kept s d h g (rw (ea, eb))
  here s d h g k l false b ea eb =
      get_or-set_other gs (group_at si di) (group_at s d) (get_or gs (group_at si di) 0 + di) 0 (λ q. eqb-false si s ea (omega arith))
      ∙ kept s d h g (rw ea)

  tally-suc : si < section_count → (b : Bool) → leb di 3 ≡ b → Tallied ss ds (suc i) (cond b (set gs (group_at si di) (get_or gs (group_at si di) 0 + di)) gs)
  tally-suc k true e = record {
    long = length-set gs (group_at si di) (get_or gs (group_at si di) 0 + di) ∙ t.long;
    holds = λ s d h g. here s d h g k (leb-true di 3 e) (eqb si s) (eqb di d) refl refl;
  }
  tally-suc k false e = record {
    long = t.long;
    holds = λ s d h g. kept s d h g (by (eqb si s) (eqb di d) (ne_eqb di d (λ q. let m : 3 < di = leb-false di 3 e in omega arith)));
  }
    where
      by : (a b : Bool) → b ≡ false → (a && b) ≡ false
      by true b q = q
      by false b q = refl

pub tally-next : (ss ds : List ℕ) (i : ℕ) (gs gs' : List ℕ) → Tallied ss ds i gs → gs' ≡ added gs (get_or ss i 0) (get_or ds i 0) → get_or ss i 0 < section_count → Tallied ss ds (i + 1) gs'
unfolding added
tally-next ss ds i gs gs' t e k = rw (e, add-one i) (tally-suc ss ds i gs t k (leb (get_or ds i 0) 3) refl)

pub tallied-small : (ss ds : List ℕ) (i : ℕ) (gs : List ℕ) → Tallied ss ds i gs → i ≤ record_limit → Small gs
tallied-small ss ds i gs t h s d k l = rw (t.holds s d k l) (let q : taken ss ds s d i ≤ 3 * i = taken-small ss ds s d i l in omega arith)

-- ---- a record's position

module _ (ss ds : List ℕ) (k : ℕ) (all gone : List ℕ) (a : Tallied ss ds (length ds) all) (g : Tallied ss ds k gone) (h : k < length ds) (known : get_or ss k 0 < section_count) (old : ℕ) where
  abbrev s : ℕ
  s = get_or ss k 0

  abbrev d : ℕ
  d = get_or ds k 0

  le : k ≤ length ds
  le = omega arith

  at : (b c e : Bool) → eqb d 1 ≡ b → eqb d 2 ≡ c → eqb d 3 ≡ e
      → cond b (get_or gone (group_at s 1) 0) (cond c (get_or all (group_at s 1) 0 + get_or gone (group_at s 2) 0) (cond e (get_or all (group_at s 1) 0 + get_or all (group_at s 2) 0 + get_or gone (group_at s 3) 0) old))
      ≡ position_of ss ds old k
  at true c e eb ec ee = g.holds s 1 known (omega arith) ∙ sym (before-first ss ds s k le) ∙ sym (position_at ss ds old k 1 (eqb-true d 1 eb) (omega arith))
  at false true e eb ec ee =
      rw (a.holds s 1 known (omega arith), g.holds s 2 known (omega arith)) (sym (before-second ss ds s k le) ∙ sym (position_at ss ds old k 2 (eqb-true d 2 ec) (omega arith)))
  at false false true eb ec ee =
      rw (a.holds s 1 known (omega arith), a.holds s 2 known (omega arith), g.holds s 3 known (omega arith))
      (sym (before-third ss ds s k le) ∙ sym (position_at ss ds old k 3 (eqb-true d 3 ee) (omega arith)))
  at false false false eb ec ee = by (leb d 0) refl
    where
      by : (z : Bool) → leb d 0 ≡ z → old ≡ position_of ss ds old k
      by true ez = sym (position_none ss ds old k (let q : d ≤ 0 = leb-true d 0 ez in omega arith))
      by false ez =
          sym (position_more ss ds old k
          (let q : 0 < d = leb-false d 0 ez in
          let n1 : d ≡ 1 → ⊥ = eqb-false d 1 eb in
          let n2 : d ≡ 2 → ⊥ = eqb-false d 2 ec in
          let n3 : d ≡ 3 → ⊥ = eqb-false d 3 ee in
          omega arith))

  pub position_is : next_in all gone s d old ≡ position_of ss ds old k
  unfolding next_in
  position_is = at (eqb d 1) (eqb d 2) (eqb d 3) refl refl refl

-- ---- the positions written before i

-- they are the definition's, and the others are as they were
pub record PlacedTo (ss ds ps : List ℕ) (i : ℕ) (now : List ℕ) : Type 0 where
  pub long : length now ≡ length ps
  pub done : (k : ℕ) → k < i → get_or now k 0 ≡ position_of ss ds (get_or ps k 0) k
  pub left : (k : ℕ) → i ≤ k → get_or now k 0 ≡ get_or ps k 0

pub place-begin : (ss ds ps : List ℕ) → PlacedTo ss ds ps 0 ps
place-begin ss ds ps = record { long = refl; done = λ k h. absurd (omega arith); left = λ k h. refl }

pub place-next : (ss ds ps : List ℕ) (i : ℕ) (now : List ℕ) (p : ℕ) → PlacedTo ss ds ps i now → p ≡ position_of ss ds (get_or now i 0) i → i < length now → PlacedTo ss ds ps (i + 1) (set now i p)
place-next ss ds ps i now p w e h = record {
  long = length-set now i p ∙ w.long;
  done = λ k q. by k (eq-or-lt_of_le (sooner k q));
  left = λ k q. get_or-set_other now i k p 0 (λ z. omega arith) ∙ w.left k (omega arith);
}
  where
    sooner : (k : ℕ) → k < i + 1 → k ≤ i
    sooner k q = omega arith

    by : (k : ℕ) → (k ≡ i) ⊎ (k < i) → get_or (set now i p) k 0 ≡ position_of ss ds (get_or ps k 0) k
    by k (inl z) = rw z (get_or-set_same now i p 0 h ∙ e ∙ ap (λ o. position_of ss ds o i) (w.left i (omega arith)))
    by k (inr q) = get_or-set_other now i k p 0 (λ z. omega arith) ∙ w.done k q

pub place_end : (ss ds ps : List ℕ) (i : ℕ) (now : List ℕ) → PlacedTo ss ds ps i now → length ps ≤ i → now ≡ positions_from ss ds ps
place_end ss ds ps i now w h =
    ext_get_or 0 now (positions_from ss ds ps) (w.long ∙ sym (each-length (λ k. position_of ss ds (get_or ps k 0) k) (length ps)))
    (λ k q. let l : length now ≡ length ps = w.long in
    let q' : k < length ps = omega arith in
    w.done k (omega arith) ∙ sym (each_at (λ k. position_of ss ds (get_or ps k 0) k) k (length ps) q'))

-- ---- the widths

module _ (ss ds gs : List ℕ) (t : Tallied ss ds (length ds) gs) where
  pub width-first : (s : ℕ) → s < section_count → width_in gs width.First s ≡ first_width ss ds s
  width-first s h = t.holds s 1 h (omega arith) ∙ sym (first_is ss ds s)

  pub width-whole : (s : ℕ) → s < section_count → width_in gs width.Whole s ≡ whole_width ss ds s
  width-whole s h = rw (t.holds s 1 h (omega arith), t.holds s 2 h (omega arith), t.holds s 3 h (omega arith)) (sym (whole_is ss ds s))

  pub width-third : (s : ℕ) → s < section_count → width_in gs width.Third s ≡ third_width ss ds s
  width-third s h = rw (t.holds s 2 h (omega arith), t.holds s 3 h (omega arith)) (sym (third-is ss ds s))

-- one width more
pub widths-next : (f : ℕ → ℕ) (ws : List ℕ) (at i : ℕ) (now : List ℕ) (w : ℕ) → now ≡ write ws at (each f i) → w ≡ f i → set now (at + i) w ≡ write ws at (each f (i + 1))
unfolding write
widths-next f ws at i now w e ew =
    rw (add-one i) (rw (write-append ws at (each f i) (f i ∷ []), each-length f i, e, ew))

-- ---- the table read and written at the index of a group

pub small_at : (gs : List ℕ) (s d n : ℕ) → Small gs → s < section_count → d ≤ 3 → n ≡ group_at s d → get_or gs n 0 ≤ 3 * record_limit
small_at gs s d n h k l e = rw e (h s d k l)

pub added-at : (gs : List ℕ) (s d n : ℕ) → d ≤ 3 → n ≡ group_at s d → set gs n (get_or gs n 0 + d) ≡ added gs s d
unfolding added
added-at gs s d n l e = rw (le-leb d 3 l, e)

pub added-not : (gs : List ℕ) (s d : ℕ) → 3 < d → gs ≡ added gs s d
unfolding added
added-not gs s d h = rw (lt-leb d 3 h)

module _ (all gone : List ℕ) (s d old : ℕ) where
  pub next-first : d ≡ 1 → (n : ℕ) → n ≡ group_at s 1 → get_or gone n 0 ≡ next_in all gone s d old
  unfolding next_in
  next-first e n q = rw (e, q)

  pub next-second : d ≡ 2 → (n m : ℕ) → n ≡ group_at s 1 → m ≡ group_at s 2 → get_or all n 0 + get_or gone m 0 ≡ next_in all gone s d old
  unfolding next_in
  next-second e n m q r = rw (e, q, r)

  pub next-third : d ≡ 3 → (n m k : ℕ) → n ≡ group_at s 1 → m ≡ group_at s 2 → k ≡ group_at s 3 → get_or all n 0 + get_or all m 0 + get_or gone k 0 ≡ next_in all gone s d old
  unfolding next_in
  next-third e n m k q r z = rw (e, q, r, z)

  pub next-none : (d ≡ 1 → ⊥) → (d ≡ 2 → ⊥) → (d ≡ 3 → ⊥) → old ≡ next_in all gone s d old
  unfolding next_in
  next-none a b c = simp (ne_eqb d 1 a, ne_eqb d 2 b, ne_eqb d 3 c)

module _ (gs : List ℕ) (which : Width) (s n m k : ℕ) (q : n ≡ group_at s 1) (r : m ≡ group_at s 2) (z : k ≡ group_at s 3) where
  pub width-is-first : which ≡ width.First → get_or gs n 0 ≡ width_in gs which s
  width-is-first e = rw (e, q)

  pub width-is-whole : which ≡ width.Whole → get_or gs n 0 + get_or gs m 0 + get_or gs k 0 ≡ width_in gs which s
  width-is-whole e = rw (e, q, r, z)

  pub width-is-third : (which ≡ width.First → ⊥) → (which ≡ width.Whole → ⊥) → (get_or gs m 0 + get_or gs k 0) / 3 ≡ width_in gs which s
  width-is-third a b = rw (r, z) (by which a b)
    where
      by : (w : Width) → (w ≡ width.First → ⊥) → (w ≡ width.Whole → ⊥) → (get_or gs (group_at s 2) 0 + get_or gs (group_at s 3) 0) / 3 ≡ width_in gs w s
      by width.First a b = absurd (a refl)
      by width.Whole a b = absurd (b refl)
      by width.Third a b = refl

pub tally-end : (ss ds : List ℕ) (i : ℕ) (gs : List ℕ) → Tallied ss ds i gs → i ≤ length ds → length ds ≤ i → Tallied ss ds (length ds) gs
tally-end ss ds i gs t h g = let e : i ≡ length ds = omega arith in rw e at t

-- the table of all records is small
pub all_small : (ss ds gs : List ℕ) → Records ss ds → Tallied ss ds (length ds) gs → Small gs
all_small ss ds gs r t = tallied-small ss ds (length ds) gs t r.few

pub widths-end : (f : ℕ → ℕ) (ws : List ℕ) (at i : ℕ) (now : List ℕ) → now ≡ write ws at (each f i) → i ≤ section_count → section_count ≤ i → now ≡ write ws at (each f section_count)
widths-end f ws at i now e h g = let q : i ≡ section_count = omega arith in e ∙ ap (λ n. write ws at (each f n)) q
