-- The tables track fixing: they show the map of new temporaries, or the counter is past its limit; and rewriting by them is rewriting by the map.
-- Assumes nothing.
use Prim.Native.Nat.{ℕ, zero, suc, ◌+◌, ◌-◌, ◌<◌, ◌≤◌}
use Rattle.std.specs.Prelude.{◌≡◌, Bool, not, ◌&&◌, length, get_or, set, eqb, ltb, leb}
use Rattle.std.proofs.Math.Path.{refl}
use Rattle.std.proofs.Common.{sym, ◌∙◌, subst, arith, length-set, get_or-set_same, get_or-set_other, ne_eqb, eqb-true, leb-true, leb-false}
use Rattle.std.proofs.Math.Bool.{true, false, cond}
use Rattle.std.proofs.Math.Option.{Option, none, some}
use mathlib.Core.List.{List, [], ◌∷◌}
use Rattle.std.proofs.lemmas.Bool.{eqb-false}
use Rattle.kinds.specs.KindBytes as kind
use Rattle.kinds.specs.declared.reference.Reference.{Reference}
use Rattle.kinds.specs.declared.step.Step.{Step}
use Rattle.meaning.specs.Trees.{Each}
use Rattle.fixed_meaning.specs.Fixing.{Plan, Map, Fixing, grow}
use Rattle.lent_lists.specs.Records.{record_by, used_by, mapped}
use Rattle.fixing.specs.ProverCode.{last_counter, rule_kind, rule_id, rule_dim, rule_for, plan_of, meet_reference, meet_used, meet_record, meet_records, fix_expression, fix_reference, fix_record}
use Rattle.fixing.specs.Machine.{takes_temporary, over, table_after, counter_after, Tables, tables, give_reference, give_used, give_record, give_records, temporary_in, tmp_from, expression_in, reference_in}

-- how many ids there are
abbrev pub id_limit : ℕ
id_limit = 65536

-- what a table's entry says
abbrev pub entry : ℕ → Option ℕ
entry v = cond (eqb v 0) none (some (v - 1))

pub record Shows (plain primed : List ℕ) (m : Map) : Type 0 where
  pub plainly : (e : ℕ) → m e 0 ≡ entry (get_or plain e 0)
  pub primedly : (e : ℕ) → m e 1 ≡ entry (get_or primed e 0)
  pub plain_size : length plain ≡ id_limit
  pub primed_size : length primed ≡ id_limit

pub data Tracks (t : Tables) (s : Fixing) : Type 0 where
  exact : t.next ≡ s.next → s.next ≤ last_counter → Shows t.plain t.primed s.map → Tracks t s
  past : t.next ≡ over → last_counter < s.next → Tracks t s

-- a reference whose prime and id are those of a well_formed_lem record
pub record Sound (r : Reference) : Type 0 where
  pub prime : r.prime ≤ 1
  pub id : r.id < id_limit

-- a source, where it counts
abbrev pub SoundIf : Bool → Reference → Type 0
SoundIf b r = b ≡ true → Sound r

pub record SoundRecord (x : Step) : Type 0 where
  pub dest : Sound x.dest
  pub s0 : SoundIf (ltb 0 x.count) x.s0
  pub s1 : SoundIf (ltb 1 x.count) x.s1
  pub s2 : SoundIf (ltb 2 x.count) x.s2

-- ---- one temporary more

entry-none : (v : ℕ) → v ≡ 0 → entry v ≡ none
entry-none v h = rw h

entry-some : (v : ℕ) → (v ≡ 0 → ⊥) → entry v ≡ some (v - 1)
entry-some v h = rw (ne_eqb v 0 h)

false_right : (a : Bool) → (a && false) ≡ false
false_right true = refl
false_right false = refl

-- what a table with one more shows, and the other table
same-table : (l : List ℕ) (m : ℕ → Option ℕ) (e n : ℕ) → e < length l → ((e' : ℕ) → m e' ≡ entry (get_or l e' 0)) → (p : Bool) → p ≡ true →
    (e' : ℕ) → cond (eqb e e' && p) (some n) (m e') ≡ entry (get_or (set l e (n + 1)) e' 0)
same-table l m e n h k p q e' = go (eqb e e') refl
  where
    go : (b : Bool) → eqb e e' ≡ b → cond (b && p) (some n) (m e') ≡ entry (get_or (set l e (n + 1)) e' 0)
    go true w =
        let z : e ≡ e' = eqb-true e e' w in
        let v : get_or (set l e (n + 1)) e' 0 ≡ n + 1 = subst (λ i. get_or (set l e (n + 1)) i 0 ≡ n + 1) z (get_or-set_same l e (n + 1) 0 h) in
        let u : n + 1 - 1 ≡ n = omega arith in
        rw (q, v, ne_eqb (n + 1) 0 (λ y. omega arith), u)
    go false w = rw (get_or-set_other l e e' (n + 1) 0 (λ z. eqb-false e e' w (sym z))) (k e')

other-table : (l : List ℕ) (m : ℕ → Option ℕ) (e n : ℕ) → ((e' : ℕ) → m e' ≡ entry (get_or l e' 0)) → (p : Bool) → p ≡ false →
    (e' : ℕ) → cond (eqb e e' && p) (some n) (m e') ≡ entry (get_or l e' 0)
other-table l m e n k p q e' = rw (q, false_right (eqb e e')) (k e')

-- the counter only grows
grow_up : (a b m : Option ℕ) (e r : ℕ) (s : Fixing) → s.next ≤ (grow a b m e r s).next
grow_up (some c) b m e r s = omega arith
grow_up none (some k) m e r s = omega arith
grow_up none none (some t) e r s = omega arith
grow_up none none none e r s = omega arith

over-stays : (l : List ℕ) (e n : ℕ) → n ≡ over → counter_after l e n ≡ over
unfolding counter_after
over-stays l e n h = rw h (go (eqb (get_or l e 0) 0))
  where
    go : (b : Bool) → cond b (cond (leb last_counter over) over (over + 1)) over ≡ over
    go true = refl
    go false = refl

-- a plain expression met
module _ (a b : List ℕ) (n : ℕ) (s : Fixing) (e : ℕ) (small : e < id_limit) where
  plain-exact : n ≡ s.next → s.next ≤ last_counter → Shows a b s.map → (v : Bool) → eqb (get_or a e 0) 0 ≡ v → (w : Bool) → leb last_counter n ≡ w →
      Tracks (tables (cond v (cond w a (set a e (n + 1))) a) b (cond v (cond w over (n + 1)) n)) (grow none none (s.map e 0) e 0 s)
  plain-exact q l h true z true y =
      let g : s.map e 0 ≡ none = h.plainly e ∙ entry-none (get_or a e 0) (eqb-true _ _ z) in
      rw g (past refl (omega (arith, leb-true last_counter n y)))
  plain-exact q l h true z false y =
      let g : s.map e 0 ≡ none = h.plainly e ∙ entry-none (get_or a e 0) (eqb-true _ _ z) in
      let below : n < last_counter = leb-false last_counter n y in
      let size : e < length a = rw h.plain_size small in
      rw g
      (exact (omega arith) (omega arith)
      (record {
        plainly = λ e'. rw (← q) (same-table a (λ i. s.map i 0) e n size h.plainly true refl e');
        primedly = λ e'. rw (← q) (other-table b (λ i. s.map i 1) e n h.primedly false refl e');
        plain_size = length-set a e (n + 1) ∙ h.plain_size;
        primed_size = h.primed_size;
      }))
  plain-exact q l h false z w y =
      let g : s.map e 0 ≡ some (get_or a e 0 - 1) = h.plainly e ∙ entry-some (get_or a e 0) (eqb-false _ _ z) in
      rw g (exact q l h)

  primed-exact : n ≡ s.next → s.next ≤ last_counter → Shows a b s.map → (v : Bool) → eqb (get_or b e 0) 0 ≡ v → (w : Bool) → leb last_counter n ≡ w →
      Tracks (tables a (cond v (cond w b (set b e (n + 1))) b) (cond v (cond w over (n + 1)) n)) (grow none none (s.map e 1) e 1 s)
  primed-exact q l h true z true y =
      let g : s.map e 1 ≡ none = h.primedly e ∙ entry-none (get_or b e 0) (eqb-true _ _ z) in
      rw g (past refl (omega (arith, leb-true last_counter n y)))
  primed-exact q l h true z false y =
      let g : s.map e 1 ≡ none = h.primedly e ∙ entry-none (get_or b e 0) (eqb-true _ _ z) in
      let below : n < last_counter = leb-false last_counter n y in
      let size : e < length b = rw h.primed_size small in
      rw g
      (exact (omega arith) (omega arith)
      (record {
        plainly = λ e'. rw (← q) (other-table a (λ i. s.map i 0) e n h.plainly false refl e');
        primedly = λ e'. rw (← q) (same-table b (λ i. s.map i 1) e n size h.primedly true refl e');
        plain_size = h.plain_size;
        primed_size = length-set b e (n + 1) ∙ h.primed_size;
      }))
  primed-exact q l h false z w y =
      let g : s.map e 1 ≡ some (get_or b e 0 - 1) = h.primedly e ∙ entry-some (get_or b e 0) (eqb-false _ _ z) in
      rw g (exact q l h)

-- an expression that takes a temporary met
track_give : (t : Tables) (s : Fixing) (e p : ℕ) → e < id_limit → p ≤ 1 → Tracks t s →
    Tracks
    (cond (eqb p 0) (tables (table_after t.plain e t.next) t.primed (counter_after t.plain e t.next))
    (tables t.plain (table_after t.primed e t.next) (counter_after t.primed e t.next)))
    (grow none none (s.map e p) e p s)
unfolding table_after counter_after
track_give t s e zero small h (exact q l k) = plain-exact t.plain t.primed t.next s e small q l k (eqb (get_or t.plain e 0) 0) refl (leb last_counter t.next) refl
track_give t s e zero small h (past q l) = past (over-stays t.plain e t.next q) (omega (arith, grow_up none none (s.map e 0) e 0 s))
track_give t s e (suc zero) small h (exact q l k) = primed-exact t.plain t.primed t.next s e small q l k (eqb (get_or t.primed e 0) 0) refl (leb last_counter t.next) refl
track_give t s e (suc zero) small h (past q l) = past (over-stays t.primed e t.next q) (omega (arith, grow_up none none (s.map e 1) e 1 s))
track_give t s e (suc (suc p)) small h k = absurd (omega arith)

-- ---- references, records, lists

module _ (rules : List ℕ) where
  abbrev L : Plan
  L = plan_of rules

  track_exp : (t : Tables) (s : Fixing) (r : Reference) → Sound r → Tracks t s → (c k : Bool) → eqb (rule_kind (rule_for rules r.id)) kind.cm ≡ c →
      eqb (rule_kind (rule_for rules r.id)) kind.tmp_exp ≡ k →
      Tracks
      (cond (cond c false (not k))
      (cond (eqb r.prime 0)
      (tables (table_after t.plain r.id t.next) t.primed (counter_after t.plain r.id t.next))
      (tables t.plain (table_after t.primed r.id t.next) (counter_after t.primed r.id t.next)))
      t)
      (grow (cond c (some (rule_id (rule_for rules r.id))) none) (cond k (some (rule_id (rule_for rules r.id))) none) (s.map r.id r.prime) r.id r.prime s)
  track_exp t s r o h true k ec ek = h
  track_exp t s r o h false true ec ek = h
  track_exp t s r o h false false ec ek = track_give t s r.id r.prime o.id o.prime h

  pub track_reference : (t : Tables) (s : Fixing) (r : Reference) → Sound r → Tracks t s → Tracks (give_reference rules r t) (meet_reference L r s)
  unfolding give_reference meet_reference takes_temporary
  track_reference t s r o h = go (eqb r.kind kind.exp) (track_exp t s r o h (eqb (rule_kind (rule_for rules r.id)) kind.cm) (eqb (rule_kind (rule_for rules r.id)) kind.tmp_exp) refl refl)
    where
      go : {t' : Tables} {s' : Fixing} (b : Bool) → Tracks t' s' → Tracks (cond b t' t) (cond b s' s)
      go true k = k
      go false k = h

  track_used : (t : Tables) (s : Fixing) (u : Bool) (r : Reference) → SoundIf u r → Tracks t s → Tracks (give_used rules u r t) (meet_used L u r s)
  unfolding give_used meet_used
  track_used t s true r o h = track_reference t s r (o refl) h
  track_used t s false r o h = h

  track_record : (t : Tables) (s : Fixing) (x : Step) → SoundRecord x → Tracks t s → Tracks (give_record rules x t) (meet_record L x s)
  unfolding give_record meet_record
  track_record t s x o h =
      track_reference _ _ x.dest o.dest
      (track_used _ _ (ltb 2 x.count) x.s2 o.s2
      (track_used _ _ (ltb 1 x.count) x.s1 o.s1
      (track_used t s (ltb 0 x.count) x.s0 o.s0 h)))

  pub track_records : (xs : List Step) (t : Tables) (s : Fixing) → Each SoundRecord xs → Tracks t s → Tracks (give_records rules xs t) (meet_records L xs s)
  unfolding give_records meet_records
  track_records [] t s o h = h
  track_records (x ∷ xs) t s o h = track_records xs (give_record rules x t) (meet_record L x s) o.1 (track_record t s x o.0 h)

  -- ---- rewriting
  module _ (plain primed : List ℕ) (m : Map) (shows : Shows plain primed m) where
    shown : (p e : ℕ) → p ≤ 1 → m e p ≡ entry (temporary_in plain primed p e)
    unfolding temporary_in
    shown zero e h = shows.plainly e
    shown (suc zero) e h = shows.primedly e
    shown (suc (suc p)) e h = absurd (omega arith)

    from-entry : (v : ℕ) (d : ℕ) (r : Reference) → tmp_from v r ≡ fix_expression none none (entry v) d r
    from-entry v d r = go (eqb v 0)
      where
        go : (b : Bool) → cond b r (record { kind = kind.tmp; prime = r.prime; id = v - 1; dim = r.dim; p = r.p; tree_pos = r.tree_pos; extra = r.id }) ≡ fix_expression none none (cond b none (some (v - 1))) d r
        go true = refl
        go false = refl

    expression-same : (r : Reference) → Sound r →
        expression_in rules plain primed r ≡ fix_expression (L.im r.id) (L.column r.id) (m r.id r.prime) (rule_dim (rule_for rules r.id)) r
    unfolding expression_in
    expression-same r o = go (eqb (rule_kind (rule_for rules r.id)) kind.cm) (eqb (rule_kind (rule_for rules r.id)) kind.tmp_exp)
      where
        go :
            (c k : Bool) →
            cond c (record { kind = kind.cm; prime = r.prime; id = rule_id (rule_for rules r.id); dim = r.dim; p = r.p; tree_pos = r.tree_pos; extra = r.extra })
            (cond k (record { kind = kind.tmp_exp; prime = r.prime; id = rule_id (rule_for rules r.id); dim = rule_dim (rule_for rules r.id); p = r.p; tree_pos = r.tree_pos; extra = r.extra })
            (tmp_from (temporary_in plain primed r.prime r.id) r))
            ≡ fix_expression (cond c (some (rule_id (rule_for rules r.id))) none) (cond k (some (rule_id (rule_for rules r.id))) none) (m r.id r.prime) (rule_dim (rule_for rules r.id)) r
        go true k = refl
        go false true = refl
        go false false = rw (shown r.prime r.id o.prime) (from-entry (temporary_in plain primed r.prime r.id) (rule_dim (rule_for rules r.id)) r)

    module _ (cms : List ℕ) where
      reference-same : (r : Reference) → Sound r → reference_in rules cms plain primed r ≡ fix_reference rules cms m r
      unfolding reference_in fix_reference
      reference-same r o = rw (expression-same r o)

      used-same : (u : Bool) (r : Reference) → SoundIf u r → used_by (reference_in rules cms plain primed) u r ≡ used_by (fix_reference rules cms m) u r
      unfolding used_by
      used-same true r o = reference-same r (o refl)
      used-same false r o = refl

      record_same : (x : Step) → SoundRecord x → record_by (reference_in rules cms plain primed) x ≡ fix_record rules cms m x
      unfolding record_by
      record_same x o =
          rw (reference-same x.dest o.dest, used-same (ltb 0 x.count) x.s0 o.s0, used-same (ltb 1 x.count) x.s1 o.s1, used-same (ltb 2 x.count) x.s2 o.s2)

      pub records-same : (xs : List Step) → Each SoundRecord xs → mapped (record_by (reference_in rules cms plain primed)) xs ≡ mapped (fix_record rules cms m) xs
      unfolding mapped
      records-same [] o = refl
      records-same (x ∷ xs) o = rw (record_same x o.0, records-same xs o.1)
