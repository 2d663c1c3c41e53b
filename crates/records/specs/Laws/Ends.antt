-- The whole walk: what the loops and the calls leave is what is promised.
-- Assumes nothing.
use Rattle.std.specs.Prelude.{ℕ, suc, ◌+◌, ◌≤◌, ◌<◌, ◌≡◌, Bool, cond, ◌&&◌, List, [], ◌∷◌, get_or, leb, ltb}
use Rattle.std.proofs.Math.Path.{refl, sym}
use Rattle.std.proofs.Common.{◌∙◌, ap, arith, add-one, take-suc}
use Rattle.std.proofs.Math.Bool.{true, false}
use Rattle.std.proofs.Math.Option.{none}
use Rattle.std.proofs.Math.ListN.{length, take}
use Rattle.std.proofs.Math.Dec.{eqb}
use borrow.Author.Tests.{eq-eqb, ne_eqb, eqb-true}
use Rattle.meaning.specs.Refusals.{Refusal, Answer, done, refused, answer_no}
use Rattle.sections.specs.Sections.{section_count, width_count, record_limit, Mapping, known, well_formed, mapping, positions_from, widths}
use Rattle.sections.specs.Groups.{count_to_read}
use Rattle.sections.proofs.Laws.Maps.{known-append, known-one, read-front}
use Rattle.records.specs.declared.PolType.{PolType}
use Rattle.records.specs.Columns.{bad_in, bad_after, formed, refusal_no, accepted_count, ColumnsMapped, alone, mapped}
use Rattle.records.specs.Records.{sections_of, dims_of, positions_of, records_mapping, RecordsMapped}
use Rattle.records.specs.Laws.Lists.{upto, upto_all, fill_to, fill-all, length-sections, length-dims, length-positions}

pub bad-begin : (ss : List ℕ) → 0 ≡ bad_in (take 0 ss)
unfolding known
bad-begin ss = refl

pub bad-next : (ss : List ℕ) (k bad bad' : ℕ) → k < length ss → bad ≡ bad_in (take k ss) → bad' ≡ bad_after bad (get_or ss k 0) → bad' ≡ bad_in (take (k + 1) ss)
unfolding bad_after
bad-next ss k bad bad' h e f =
    let q : known (take (suc k) ss) ≡ (known (take k ss) && ltb (get_or ss k 0) section_count) = ap known (take-suc ss k 0 h) ∙ known-append (take k ss) (get_or ss k 0 ∷ []) ∙ rw (known-one (get_or ss k 0) (ltb (get_or ss k 0) section_count) refl) in
    f ∙ rw (e, add-one k, q) (by (known (take k ss)) (ltb (get_or ss k 0) section_count))
  where
    by : (t u : Bool) → ◌≡◌ {A = ℕ} (cond u (cond t 0 1) 1) (cond (t && u) 0 1)
    by true true = refl
    by true false = refl
    by false true = refl
    by false false = refl

module _ (xs : List PolType) (ss₀ ds₀ ps₀ ws₀ : List ℕ) where
  abbrev n : ℕ
  n = length xs

  abbrev m : Answer Mapping
  m = records_mapping xs (length ss₀) (length ds₀) (length ps₀) (length ws₀)

  abbrev refuses : ℕ → ℕ
  refuses bad = refusal_no bad n (length ss₀) (length ds₀) (length ps₀) (length ws₀)

  -- refused by the lengths and the sections, or mapped
  pub data Way (bad : ℕ) : Type 0 where
    stops : (refuses bad ≡ 0 → ⊥) → (r : Refusal) → m ≡ refused r none → refuses bad ≡ answer_no m → Way bad
    goes : refuses bad ≡ 0 → length ss₀ ≡ n → length ds₀ ≡ n → length ps₀ ≡ n → (x : Mapping) → mapping (sections_of xs) (dims_of xs) (positions_of xs) (length ws₀) ≡ done x → m ≡ done x → Way bad

  formed-is : well_formed (sections_of xs) (dims_of xs) (positions_of xs) (length ws₀) ≡ (eqb (length ws₀) width_count && known (take (count_to_read n) (sections_of xs)))
  unfolding well_formed
  formed-is =
      let d : length (dims_of xs) ≡ length (sections_of xs) = length-dims xs ∙ sym (length-sections xs) in
      let p : length (positions_of xs) ≡ length (sections_of xs) = length-positions xs ∙ sym (length-sections xs) in
      let f : take (count_to_read n) (sections_of xs) ≡ take (record_limit + 1) (sections_of xs) = read-front (sections_of xs) (count_to_read n) (ap count_to_read (sym (length-sections xs))) in
      rw (eq-eqb (length (dims_of xs)) (length (sections_of xs)) d, eq-eqb (length (positions_of xs)) (length (sections_of xs)) p, f)

  same : (b : Bool) (a : Answer Mapping) → a ≡ refused Refusal.malformed none → cond b a (refused Refusal.malformed none) ≡ refused Refusal.malformed none
  same true a e = e
  same false a e = refl

  ill : well_formed (sections_of xs) (dims_of xs) (positions_of xs) (length ws₀) ≡ false → m ≡ refused Refusal.malformed none
  unfolding records_mapping mapping
  ill e = same (eqb (length ss₀) n && (eqb (length ds₀) n && eqb (length ps₀) n)) (mapping (sections_of xs) (dims_of xs) (positions_of xs) (length ws₀)) (rw e)

  lengths : (eqb (length ss₀) n && (eqb (length ds₀) n && eqb (length ps₀) n)) ≡ false → m ≡ refused Refusal.malformed none
  unfolding records_mapping
  lengths e = rw e

  module _ (bad : ℕ) (is : bad ≡ bad_in (take (count_to_read n) (sections_of xs))) where
    module _ (r : ℕ) (refuses_is : refuses bad ≡ r) where
      stops_1 : r ≡ 1 → m ≡ refused Refusal.malformed none → Way bad
      stops_1 e q = stops (λ z. omega (arith, sym refuses_is ∙ z, e)) Refusal.malformed q (refuses_is ∙ e ∙ sym (ap answer_no q))

    way : (t A B C U L : Bool) → known (take (count_to_read n) (sections_of xs)) ≡ t → eqb (length ss₀) n ≡ A → eqb (length ds₀) n ≡ B → eqb (length ps₀) n ≡ C → eqb (length ws₀) width_count ≡ U → leb n record_limit ≡ L → Way bad
    unfolding refusal_no formed records_mapping mapping
    way false A B C U L t a b c v l = stops_1 1 (rw (is, t)) refl (ill (formed-is ∙ rw t (right (eqb (length ws₀) width_count))))
      where
        right : (x : Bool) → (x && false) ≡ false
        right true = refl
        right false = refl
    way true false B C U L t a b c v l = stops_1 1 (rw (is, t, a)) refl (lengths (rw a))
    way true true false C U L t a b c v l = stops_1 1 (rw (is, t, a, b)) refl (lengths (rw (a, b)))
    way true true true false U L t a b c v l = stops_1 1 (rw (is, t, a, b, c)) refl (lengths (rw (a, b, c)))
    way true true true true false L t a b c v l = stops_1 1 (rw (is, t, a, b, c, v)) refl (ill (formed-is ∙ rw v))
    way true true true true true false t a b c v l =
        let e : refuses bad ≡ 9 = rw (is, t, a, b, c, v, l) in
        let w : well_formed (sections_of xs) (dims_of xs) (positions_of xs) (length ws₀) ≡ true = formed-is ∙ rw (v, t) in
        let q : m ≡ refused Refusal.full none = rw (a, b, c, w, length-sections xs, l) in
        stops (λ z. omega (arith, sym e ∙ z)) Refusal.full q (e ∙ sym (ap answer_no q))
    way true true true true true true t a b c v l =
        let e : refuses bad ≡ 0 = rw (is, t, a, b, c, v, l) in
        let w : well_formed (sections_of xs) (dims_of xs) (positions_of xs) (length ws₀) ≡ true = formed-is ∙ rw (v, t) in
        goes e (eqb-true (length ss₀) n a) (eqb-true (length ds₀) n b) (eqb-true (length ps₀) n c)
        (record { positions = positions_from (sections_of xs) (dims_of xs) (positions_of xs); widths = widths (sections_of xs) (dims_of xs) })
        (rw (w, length-sections xs, l)) (rw (a, b, c, w, length-sections xs, l))

    pub ways : Way bad
    ways = way (known (take (count_to_read n) (sections_of xs))) (eqb (length ss₀) n) (eqb (length ds₀) n) (eqb (length ps₀) n) (eqb (length ws₀) width_count) (leb n record_limit) refl refl refl refl refl refl

    module _ (k : ℕ) (counts : k ≡ accepted_count bad n (length ss₀) (length ds₀) (length ps₀) (length ws₀)) where
      none-counted : (refuses bad ≡ 0 → ⊥) → k ≡ 0
      unfolding accepted_count
      none-counted h = counts ∙ rw (ne_eqb (refuses bad) 0 h)

      all-counted : refuses bad ≡ 0 → k ≡ n
      unfolding accepted_count
      all-counted h = counts ∙ rw h

      -- no more are counted than there are, in each list
      pub counted-within : (k ≤ n) × (k ≤ length ss₀) × (k ≤ length ds₀) × (k ≤ length ps₀)
      counted-within = by ways
        where
          by : Way bad → (k ≤ n) × (k ≤ length ss₀) × (k ≤ length ds₀) × (k ≤ length ps₀)
          by (stops h r q e) = let z : k ≡ 0 = none-counted h in (omega arith, omega arith, omega arith, omega arith)
          by (goes h a b c x q e) = let z : k ≡ n = all-counted h in (omega arith, omega arith, omega arith, omega arith)

      module _ (s d p p' w' : List ℕ) (zs : List PolType) (num : ℕ)
          (s-is : s ≡ fill_to k (sections_of xs) ss₀) (d-is : d ≡ fill_to k (dims_of xs) ds₀) (p-is : p ≡ fill_to k (positions_of xs) ps₀)
          (s-long : length s ≡ length ss₀) (d-long : length d ≡ length ds₀) (p-long : length p ≡ length ps₀) (p'-long : length p' ≡ length ps₀)
          (z-is : zs ≡ upto k p' xs) (c-is : ColumnsMapped bad n s d p p' ws₀ w' num) where
        at-lengths : refusal_no bad n (length s) (length d) (length p) (length ws₀) ≡ refuses bad
        at-lengths = rw (s-long, d-long, p-long)

        stopped : (refuses bad ≡ 0 → ⊥) → (r : Refusal) → m ≡ refused r none → refuses bad ≡ answer_no m → ColumnsMapped bad n s d p p' ws₀ w' num → RecordsMapped xs zs ss₀ s ds₀ d ps₀ p' ws₀ w' num
        stopped h r q e (alone a b pe we) =
            let z : k ≡ 0 = none-counted h in
            record {
              says = a ∙ at-lengths ∙ e;
              records = z-is ∙ rw (z, q);
              sections = s-is ∙ rw (z, q);
              dims = d-is ∙ rw (z, q);
              positions = pe ∙ p-is ∙ rw (z, q);
              widths = we ∙ rw q;
            }
        stopped h r q e (mapped a b pe we) = absurd (h (sym at-lengths ∙ a))

        went : refuses bad ≡ 0 → length ss₀ ≡ n → length ds₀ ≡ n → length ps₀ ≡ n → (x : Mapping) → mapping (sections_of xs) (dims_of xs) (positions_of xs) (length ws₀) ≡ done x → m ≡ done x
            → ColumnsMapped bad n s d p p' ws₀ w' num → RecordsMapped xs zs ss₀ s ds₀ d ps₀ p' ws₀ w' num
        went h a b c x q e (alone f g pe we) = absurd (g (f ∙ at-lengths ∙ h))
        went h a b c x q e (mapped f g pe we) =
            let z : k ≡ n = all-counted h in
            let es : s ≡ sections_of xs = s-is ∙ ap (λ i. fill_to i (sections_of xs) ss₀) (z ∙ sym (length-sections xs)) ∙ fill-all (sections_of xs) ss₀ (a ∙ sym (length-sections xs)) in
            let ed : d ≡ dims_of xs = d-is ∙ ap (λ i. fill_to i (dims_of xs) ds₀) (z ∙ sym (length-dims xs)) ∙ fill-all (dims_of xs) ds₀ (b ∙ sym (length-dims xs)) in
            let ep : p ≡ positions_of xs = p-is ∙ ap (λ i. fill_to i (positions_of xs) ps₀) (z ∙ sym (length-positions xs)) ∙ fill-all (positions_of xs) ps₀ (c ∙ sym (length-positions xs)) in
            let em : mapping s d p (length ws₀) ≡ done x = rw (es, ed, ep) q in
            let pp : p' ≡ x.positions = pe ∙ rw em in
            record {
              says = g ∙ rw (em, e);
              records = z-is ∙ ap (λ i. upto i p' xs) z ∙ upto_all p' xs (sym (p'-long ∙ c)) ∙ rw (pp, e);
              sections = es ∙ rw e;
              dims = ed ∙ rw e;
              positions = pp ∙ rw e;
              widths = we ∙ rw (em, e);
            }

        pub ends : RecordsMapped xs zs ss₀ s ds₀ d ps₀ p' ws₀ w' num
        ends = by ways
          where
            by : Way bad → RecordsMapped xs zs ss₀ s ds₀ d ps₀ p' ws₀ w' num
            by (stops h r q e) = stopped h r q e c-is
            by (goes h a b c x q e) = went h a b c x q e c-is
