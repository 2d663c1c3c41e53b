-- Laws of the whole: records of a well_formed_lem list are sound, and what each way through the entry point gives.
-- Assumes nothing.
use Rattle.std.specs.Prelude.{ℕ, zero, suc, ◌+◌, ◌*◌, ◌%◌, ◌<◌, ◌≤◌, Bool, not, cond, ◌&&◌, List, [], ◌∷◌, ◌++◌, ◌⊎◌, length, get_or, replicate, eqb, ltb, leb, Result, Ok, Err}
use Rattle.std.proofs.Math.Path.{◌≡◌, refl, ap}
use Rattle.std.proofs.Common.{sym, ◌∙◌, subst, arith}
use Rattle.std.proofs.Math.Bool.{true, false}
use Rattle.std.proofs.Math.Logic.{inl, inr}
use borrow.Author.Tests.{leb-true, le-leb, lt-leb}
use Rattle.kinds.specs.KindBytes as kind
use Rattle.kinds.specs.Kinds.{is_reference}
use Rattle.kinds.specs.Range.{within}
use Rattle.kinds.specs.BigEndian.{u16_at}
use Rattle.kinds.specs.References.{ref_at}
use Rattle.kinds.specs.Steps.{step_size, step_at, steps_of, steps-none, steps-more}
use Rattle.kinds.specs.declared.reference.Reference.{Reference}
use Rattle.meaning.specs.Trees.{Each}
use Rattle.meaning.proofs.Laws.Tests.{true-false, and_left, and_right, each-join}
use Rattle.fixed_meaning.specs.Fixing.{Fixing, begin}
use Rattle.lent_lists.specs.Verdicts.{Verdict, fine, malformed, not_there, no_rule, full, verdict_no, first_of, only}
use Rattle.lists.specs.Records.{record_count, records_in, good_reference, good_record, good_records, good_list}
use Rattle.lent_lists.specs.Records.{segment_in, good_used, good_lists, record_by, rewritten}
use Rattle.lent_lists.specs.Walks.{walked, record_verdict}
use Rattle.fixing.specs.ProverCode.{last_counter, ruled_reference, decided, temporaries, prover_verdict, list_after}
use Rattle.fixing.specs.Machine.{Tables, tables, give_records, reference_in, Rewrites}
use Rattle.fixing.specs.Answers.{ProverCodeIs, fixed_of}
use Rattle.kinds.specs.AnswerLaws.{refusal_same, refusal-some}
use Rattle.kinds.specs.Answers.{refusal_of}
use Rattle.kinds.specs.declared.refusal.Refusal as codes
use Rattle.kinds.specs.declared.refusal.Refusal.TheVariants as code
use Rattle.meaning.specs.Refusals.{number}
use Rattle.lent_lists.specs.Laws.Verdicts.{no-refusal}
use Rattle.lists.specs.Laws.{good_more}
use Rattle.lent_lists.specs.Laws.Records.{record-used}
use Rattle.lent_lists.specs.Laws.Walks.{Met, only-met, walk-met, is-malformed, is-not-there, is-no-rule}
use Rattle.fixing.specs.Laws.Tracks.{id_limit, Shows, Tracks, exact, past, Sound, SoundIf, SoundRecord, track_records, records-same}

-- ---- records of a well_formed_lem list are sound

-- a list of bytes
abbrev pub Bytes : List ℕ → Type 0
Bytes l = (i : ℕ) → get_or l i 0 < 256

id-small : (l : List ℕ) (i : ℕ) → Bytes l → (ref_at l i).id < id_limit
unfolding ref_at u16_at
id-small l i b = omega (arith, b (i + 2), b (i + 2 + 1))

sound-ref : (l : List ℕ) (i : ℕ) → Bytes l → good_reference (ref_at l i) ≡ true → Sound (ref_at l i)
unfolding good_reference
sound-ref l i b h = record { prime = leb-true _ _ (and_right (is_reference (ref_at l i).kind) (leb (ref_at l i).prime 1) h); id = id-small l i b }

sound-used : (l : List ℕ) (i : ℕ) → Bytes l → (u : Bool) → good_used u (ref_at l i) ≡ true → SoundIf u (ref_at l i)
unfolding good_used
sound-used l i b true h = λ _. sound-ref l i b h
sound-used l i b false h = λ q. absurd (true-false q refl)

sound-record : (l : List ℕ) (i : ℕ) → Bytes l → good_record (step_at l i) ≡ true → SoundRecord (step_at l i)
unfolding step_at
sound-record l i b h =
    let c = get_or l (i + 1) 0 in
    let h1 = and_right (leb c 3) _ (record-used (step_at l i) h) in
    let gd = and_left (good_reference (ref_at l (i + 4))) _ h1 in
    let h2 = and_right (good_reference (ref_at l (i + 4))) _ h1 in
    let g0 = and_left (good_used (ltb 0 c) (ref_at l (i + 16))) _ h2 in
    let h3 = and_right (good_used (ltb 0 c) (ref_at l (i + 16))) _ h2 in
    let g1 = and_left (good_used (ltb 1 c) (ref_at l (i + 28))) (good_used (ltb 2 c) (ref_at l (i + 40))) h3 in
    let g2 = and_right (good_used (ltb 1 c) (ref_at l (i + 28))) (good_used (ltb 2 c) (ref_at l (i + 40))) h3 in
    record {
      dest = sound-ref l (i + 4) b gd;
      s0 = sound-used l (i + 16) b (ltb 0 c) g0;
      s1 = sound-used l (i + 28) b (ltb 1 c) g1;
      s2 = sound-used l (i + 40) b (ltb 2 c) g2;
    }

sound-steps : (l : List ℕ) → Bytes l → (n : ℕ) → good_records (steps_of l n) ≡ true → Each SoundRecord (steps_of l n)
sound-steps l b zero h = subst (Each SoundRecord) (sym (steps-none l)) tt
sound-steps l b (suc n) h =
    let g : (good_records (steps_of l n) && good_record (step_at l (step_size * n))) ≡ true = sym (good_more l n) ∙ h in
    subst (Each SoundRecord) (sym (steps-more l n))
    (each-join SoundRecord (steps_of l n) (step_at l (step_size * n) ∷ [])
    (sound-steps l b n (and_left (good_records (steps_of l n)) (good_record (step_at l (step_size * n))) g))
    (sound-record l (step_size * n) b (and_right (good_records (steps_of l n)) (good_record (step_at l (step_size * n))) g), tt))

pub sound-list : (l : List ℕ) → Bytes l → good_list l ≡ true → Each SoundRecord (records_in l)
unfolding good_list
sound-list l b h = sound-steps l b (record_count l) (and_right (eqb (length l % step_size) 0) (good_records (records_in l)) h)

-- ---- tables of zeros

abbrev zeros : ℕ → List ℕ
zeros n = replicate n 0

zeros-at : (n e : ℕ) → get_or (zeros n) e 0 ≡ 0
zeros-at zero e = refl
zeros-at (suc n) zero = refl
zeros-at (suc n) (suc e) = zeros-at n e

zeros-length : (n : ℕ) → length (zeros n) ≡ n
zeros-length zero = refl
zeros-length (suc n) = ap suc (zeros-length n)

start-shows : (n counter : ℕ) → n ≡ id_limit → Shows (zeros n) (zeros n) (begin counter).map
start-shows n counter h = record {
  plainly = λ e. rw (zeros-at n e);
  primedly = λ e. rw (zeros-at n e);
  plain_size = zeros-length n ∙ h;
  primed_size = zeros-length n ∙ h;
}

module _ (cms : List ℕ) where
  pub reference-met : (r : Reference) → Met (ruled_reference cms r)
  unfolding ruled_reference
  reference-met r =
      go _ _ (eqb r.kind kind.cm) (only-met (ltb r.id (length cms)) not_there tt) (only-met (not (within kind.tree1 kind.Z r.kind)) no_rule tt)
    where
      go : (v w : Verdict) (b : Bool) → Met v → Met w → Met (cond b v w)
      go v w true h k = h
      go v w false h k = k

  -- what is decided is 1, or what the walk meets
  decided-cases : (counter : ℕ) (first i last : List ℕ) → (decided cms counter first i last ≡ malformed) ⊎ Met (decided cms counter first i last)
  unfolding decided
  decided-cases counter first i last = go (leb counter last_counter && good_lists first i last)
    where
      go : (b : Bool) →
          (first_of (only b malformed) (walked (record_verdict (ruled_reference cms)) (segment_in first i last)) ≡ malformed)
          ⊎ Met (first_of (only b malformed) (walked (record_verdict (ruled_reference cms)) (segment_in first i last)))
      go true = inr (walk-met (ruled_reference cms) reference-met (segment_in first i last))
      go false = inl refl

-- ---- the ways through the code

module _ (rules cms : List ℕ) (counter : ℕ) (first i last : List ℕ) (n : ℕ) (en : n ≡ verdict_no (decided cms counter first i last)) where
  abbrev v : Verdict
  v = decided cms counter first i last

  abbrev s : Fixing
  s = temporaries rules counter first i last

  unchanged : (w : Verdict) (r : Result ℕ codes.Refusal) → prover_verdict rules cms counter first i last ≡ w → (w ≡ fine → ⊥) → r ≡ fixed_of w s.next →
      ProverCodeIs rules cms counter first i last first i last r
  unfolding list_after
  unchanged fine r e h k = absurd (h refl)
  unchanged malformed r e h k = record { answer = rw e k; first_is = rw e; i_is = rw e; last_is = rw e }
  unchanged not_there r e h k = record { answer = rw e k; first_is = rw e; i_is = rw e; last_is = rw e }
  unchanged no_rule r e h k = record { answer = rw e k; first_is = rw e; i_is = rw e; last_is = rw e }
  unchanged full r e h k = record { answer = rw e k; first_is = rw e; i_is = rw e; last_is = rw e }

  pub answer-malformed : n ≡ 1 → ProverCodeIs rules cms counter first i last first i last (Err code.Malformed)
  unfolding prover_verdict
  answer-malformed h =
      let q : v ≡ malformed = is-malformed v (sym en ∙ h) in
      unchanged malformed (Err code.Malformed) (rw q) (λ z. let y : ◌≡◌ {A = ℕ} 1 0 = ap verdict_no z in omega arith) refl

  module _ (a : n ≡ 1 → ⊥) where
    pub answer-not-there : n ≡ 3 → ProverCodeIs rules cms counter first i last first i last (Err code.NotThere)
    unfolding prover_verdict
    answer-not-there h =
        let q : v ≡ not_there = is-not-there v (sym en ∙ h) in
        unchanged not_there (Err code.NotThere) (rw q) (λ z. let y : ◌≡◌ {A = ℕ} 3 0 = ap verdict_no z in omega arith) refl

    pub answer-no-rule : (n ≡ 3 → ⊥) → (n ≡ 0 → ⊥) → ProverCodeIs rules cms counter first i last first i last (Err code.NoRule)
    unfolding prover_verdict
    answer-no-rule b c =
        let q : v ≡ no_rule = rule (decided-cases cms counter first i last) in
        unchanged no_rule (Err code.NoRule) (rw q) (λ z. let y : ◌≡◌ {A = ℕ} 10 0 = ap verdict_no z in omega arith) refl
      where
        rule : (v ≡ malformed) ⊎ Met v → v ≡ no_rule
        rule (inl w) = absurd (a (en ∙ ap verdict_no w))
        rule (inr w) = is-no-rule v w (λ z. b (en ∙ z)) (λ z. c (en ∙ z))

  -- what is refused before temporaries are counted
  pub answer-refused : (w : codes.Refusal) → n ≡ number (refusal_of w) → ProverCodeIs rules cms counter first i last first i last (Err w)
  unfolding prover_verdict
  answer-refused w h = by v refl (sym h ∙ en)
    where
      by : (x : Verdict) → v ≡ x → number (refusal_of w) ≡ verdict_no x → ProverCodeIs rules cms counter first i last first i last (Err w)
      by fine q e = absurd (refusal-some (refusal_of w) e)
      by malformed q e = unchanged malformed (Err w) (rw q) (λ z. let y : ◌≡◌ {A = ℕ} 1 0 = ap verdict_no z in omega arith) (ap Err (refusal_same w code.Malformed e))
      by not_there q e = unchanged not_there (Err w) (rw q) (λ z. let y : ◌≡◌ {A = ℕ} 3 0 = ap verdict_no z in omega arith) (ap Err (refusal_same w code.NotThere e))
      by no_rule q e = unchanged no_rule (Err w) (rw q) (λ z. let y : ◌≡◌ {A = ℕ} 10 0 = ap verdict_no z in omega arith) (ap Err (refusal_same w code.NoRule e))
      by full q e = unchanged full (Err w) (rw q) (λ z. let y : ◌≡◌ {A = ℕ} 9 0 = ap verdict_no z in omega arith) (ap Err (refusal_same w code.Full e))

  -- nothing is refused before temporaries are counted
  module _ (z : n ≡ 0) (size : ℕ) (es : size ≡ id_limit) (t : Tables) (et : t ≡ give_records rules (segment_in first i last) (tables (zeros size) (zeros size) counter))
      (bf : Bytes first) (bi : Bytes i) (bl : Bytes last) where
    is-fine : v ≡ fine
    is-fine = no-refusal v (sym en ∙ z)

    good : (leb counter last_counter && good_lists first i last) ≡ true
    unfolding decided
    good = go (leb counter last_counter && good_lists first i last) is-fine
      where
        go : (b : Bool) → first_of (only b malformed) (walked (record_verdict (ruled_reference cms)) (segment_in first i last)) ≡ fine → b ≡ true
        go true q = refl
        go false q = absurd (let y : ◌≡◌ {A = ℕ} 1 0 = ap verdict_no q in omega arith)

    small : counter ≤ last_counter
    small = leb-true counter last_counter (and_left (leb counter last_counter) (good_lists first i last) good)

    lists : (good_list first && (good_list i && good_list last)) ≡ true
    unfolding good_lists
    lists = and_right (leb counter last_counter) (good_lists first i last) good

    sound-first : Each SoundRecord (records_in first)
    sound-first = sound-list first bf (and_left (good_list first) _ lists)

    sound-i : Each SoundRecord (records_in i)
    sound-i = sound-list i bi (and_left (good_list i) (good_list last) (and_right (good_list first) _ lists))

    sound-last : Each SoundRecord (records_in last)
    sound-last = sound-list last bl (and_right (good_list i) (good_list last) (and_right (good_list first) _ lists))

    sound-all : Each SoundRecord (segment_in first i last)
    sound-all = each-join SoundRecord (records_in first) (records_in i ++ records_in last) sound-first (each-join SoundRecord (records_in i) (records_in last) sound-i sound-last)

    tracks : Tracks t s
    unfolding temporaries
    tracks =
        rw et
        (track_records rules (segment_in first i last) (tables (zeros size) (zeros size) counter) (begin counter) sound-all
        (exact refl small (start-shows size counter es)))

    pub answer-full : last_counter < t.next → ProverCodeIs rules cms counter first i last first i last (Err code.Full)
    unfolding prover_verdict
    answer-full h = go tracks
      where
        go : Tracks t s → ProverCodeIs rules cms counter first i last first i last (Err code.Full)
        go (exact q l k) = absurd (omega arith)
        go (past q l) = unchanged full (Err code.Full) (rw (is-fine, lt-leb s.next last_counter l)) (λ y. let w : ◌≡◌ {A = ℕ} 9 0 = ap verdict_no y in omega arith) refl

    module _ (h : t.next ≤ last_counter) where
      fits : (s.next ≤ last_counter) × (t.next ≡ s.next) × Shows t.plain t.primed s.map
      fits = go tracks
        where
          go : Tracks t s → (s.next ≤ last_counter) × (t.next ≡ s.next) × Shows t.plain t.primed s.map
          go (exact q l k) = (l, q, k)
          go (past q l) = absurd (omega arith)

      verdict : prover_verdict rules cms counter first i last ≡ fine
      unfolding prover_verdict
      verdict = rw (is-fine, le-leb s.next last_counter fits.0)

      list-is : (l : List ℕ) → Each SoundRecord (records_in l) → rewritten (record_by (reference_in rules cms t.plain t.primed)) l ≡ list_after rules cms counter first i last l
      unfolding list_after rewritten
      list-is l o = rw (verdict, records-same rules t.plain t.primed s.map fits.2 cms (records_in l) o)

      pub answer-done :
          (first' i' last' : List ℕ) → Rewrites (record_by (reference_in rules cms t.plain t.primed)) first i last first' i' last' →
          ProverCodeIs rules cms counter first i last first' i' last' (Ok t.next)
      answer-done first' i' last' w = record {
        answer = rw (verdict) (ap Ok fits.1);
        first_is = w.first_is ∙ list-is first sound-first;
        i_is = w.i_is ∙ list-is i sound-i;
        last_is = w.last_is ∙ list-is last sound-last;
      }
