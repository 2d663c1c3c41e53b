-- What is refused: each way through the code.
-- Assumes nothing.
use Rattle.std.specs.Prelude.{ℕ, ◌≤◌, ◌<◌, ◌≡◌, refl, List, length, Result}
use Rattle.std.proofs.Math.Path.{sym}
use Rattle.std.proofs.Common.{◌∙◌}
use borrow.Author.Tests.{eq-eqb, ne_eqb, le-leb, lt-leb, lt-ltb, le-ltb}
use Rattle.sections.specs.Sections.{section_count, width_count, record_limit}
use Rattle.sections.specs.Answer.{mapped_no, MappedIs}
use Rattle.kinds.specs.declared.refusal.Refusal.{Refusal}
use Rattle.records.specs.Columns.{bad_after, formed, refusal_no, accepted_count, ColumnsMapped, alone, mapped}

pub bad-known : (bad s : ℕ) → s < section_count → bad ≡ bad_after bad s
unfolding bad_after
bad-known bad s h = rw (lt-ltb s section_count h)

pub bad-unknown : (bad s : ℕ) → section_count ≤ s → 1 ≡ bad_after bad s
unfolding bad_after
bad-unknown bad s h = rw (le-ltb s section_count h)

module _ (bad n a b c w : ℕ) where
  pub no-sections : (bad ≡ 0 → ⊥) → 1 ≡ refusal_no bad n a b c w
  unfolding refusal_no formed
  no-sections h = rw (ne_eqb bad 0 h)

  module _ (e : bad ≡ 0) where
    pub no-first : (a ≡ n → ⊥) → 1 ≡ refusal_no bad n a b c w
    unfolding refusal_no formed
    no-first h = rw (eq-eqb bad 0 e, ne_eqb a n h)

    module _ (ea : a ≡ n) where
      pub no_second : (b ≡ n → ⊥) → 1 ≡ refusal_no bad n a b c w
      unfolding refusal_no formed
      no_second h = rw (eq-eqb bad 0 e, eq-eqb a n ea, ne_eqb b n h)

      module _ (eb : b ≡ n) where
        pub no_third : (c ≡ n → ⊥) → 1 ≡ refusal_no bad n a b c w
        unfolding refusal_no formed
        no_third h = rw (eq-eqb bad 0 e, eq-eqb a n ea, eq-eqb b n eb, ne_eqb c n h)

        module _ (ec : c ≡ n) where
          pub no-widths : (w ≡ width_count → ⊥) → 1 ≡ refusal_no bad n a b c w
          unfolding refusal_no formed
          no-widths h = rw (eq-eqb bad 0 e, eq-eqb a n ea, eq-eqb b n eb, eq-eqb c n ec, ne_eqb w width_count h)

          module _ (ew : w ≡ width_count) where
            pub too_many_lem : record_limit < n → 9 ≡ refusal_no bad n a b c w
            unfolding refusal_no formed
            too_many_lem h = rw (eq-eqb bad 0 e, eq-eqb a n ea, eq-eqb b n eb, eq-eqb c n ec, eq-eqb w width_count ew, lt-leb n record_limit h)

            pub none-refused : n ≤ record_limit → 0 ≡ refusal_no bad n a b c w
            unfolding refusal_no formed
            none-refused h = rw (eq-eqb bad 0 e, eq-eqb a n ea, eq-eqb b n eb, eq-eqb c n ec, eq-eqb w width_count ew, le-leb n record_limit h)

  pub accepts : (num : ℕ) → num ≡ refusal_no bad n a b c w → num ≡ 0 → n ≡ accepted_count bad n a b c w
  unfolding accepted_count
  accepts num e z = let q : refusal_no bad n a b c w ≡ 0 = sym e ∙ z in rw q

  pub accepts-none : (num : ℕ) → num ≡ refusal_no bad n a b c w → (num ≡ 0 → ⊥) → 0 ≡ accepted_count bad n a b c w
  unfolding accepted_count
  accepts-none num e z = rw (← e, ne_eqb num 0 z)

pub left_alone : (bad n : ℕ) (ss ds ps ws : List ℕ) (num : ℕ) → num ≡ refusal_no bad n (length ss) (length ds) (length ps) (length ws) → (num ≡ 0 → ⊥) → ColumnsMapped bad n ss ds ps ps ws ws num
left_alone bad n ss ds ps ws num e z = alone e z refl refl

pub columns-mapped : (bad n : ℕ) (ss ds ps ps' ws ws' : List ℕ) (num : ℕ) → num ≡ refusal_no bad n (length ss) (length ds) (length ps) (length ws) → num ≡ 0
    → (r : Result Unit Refusal) → MappedIs ss ds ps ps' ws ws' r → (m : ℕ) → m ≡ mapped_no r → ColumnsMapped bad n ss ds ps ps' ws ws' m
columns-mapped bad n ss ds ps ps' ws ws' num e z r is m k = mapped (sym e ∙ z) (k ∙ is.says) is.positions is.widths
