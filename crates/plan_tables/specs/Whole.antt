-- THE FILLED TABLES ARE THOSE OF THE MAPPING: what a caller that holds a plan's records in tables knows of them. Assumes nothing.
use Rattle.std.specs.Prelude.{ℕ, zero, suc, ◌+◌, ◌<◌, ◌≤◌, ◌≡◌, refl, Bool, true, false, cond, List, [], ◌∷◌, ◌++◌, length, get_or, take, replicate, eqb, ltb}
use Rattle.std.proofs.Common.{sym, ◌∙◌, ap, ap₂, subst, arith, zero-add, get_or-take, ltb-true, ltb-false}
use Rattle.std.proofs.lemmas.List.{length-replicate, get_or-replicate}
use Rattle.std.proofs.Math.ListN.{get_or-eq_default}
use Rattle.kinds.specs.Write.{write, write-there, write-after}
use Rattle.pool.specs.Pool.{Pool}
use Rattle.plans.specs.Plan.{n_bits, n_bits_ext, im_count, im_of}
use Rattle.plans.specs.Agreement.{bits_good}
use Rattle.plans.specs.Passed.{bits_in, counts-agree}
use Rattle.sections.specs.Sums.{each}
use Rattle.map_records.specs.Mapping.{mapped}
use Rattle.map_records.specs.Tables.{Planned}
use Rattle.plan_tables.specs.Tables.{cm_n, column_records, of_column, of_im, rules_of, rules, im_place, no_record, record_of, records_of, exp2pol}
use Rattle.plan_tables.specs.Bounds.{BitsFew}
use Rattle.plan_tables.specs.Gathered.{columns_of}
use Rattle.plan_tables.specs.Sizes.{cm-n-size, mapped-columns, column-records-size}

-- ---- a table of zeros with values at its front is read as the values are

pub padded-at : (n : ℕ) (xs : List ℕ) → length xs ≤ n → (e : ℕ) → get_or (write (replicate n 0) 0 xs) e 0 ≡ get_or xs e 0
padded-at n xs h e = by (ltb e (length xs)) refl
  where
    room : 0 + length xs ≤ length (replicate {A = ℕ} n 0)
    room = omega (arith, length-replicate {A = ℕ} n 0)

    zeros : (d : Bool) → ltb e n ≡ d → get_or (replicate {A = ℕ} n 0) e 0 ≡ 0
    zeros true p = get_or-replicate {A = ℕ} n e 0 0 (ltb-true e n p)
    zeros false p = get_or-eq_default (replicate {A = ℕ} n 0) 0 (omega (arith, length-replicate {A = ℕ} n 0, ltb-false e n p))

    by : (d : Bool) → ltb e (length xs) ≡ d → get_or (write (replicate n 0) 0 xs) e 0 ≡ get_or xs e 0
    by true p = subst (λ z. get_or (write (replicate n 0) 0 xs) z 0 ≡ get_or xs e 0) (zero-add e) (write-there (replicate n 0) 0 xs e room (ltb-true e (length xs) p))
    by false p =
        let g : length xs ≤ e = ltb-false e (length xs) p in
        write-after (replicate n 0) 0 xs e (omega arith) ∙ zeros (ltb e n) refl ∙ sym (get_or-eq_default xs 0 g)

-- ---- bits

-- those of a plan are in the offsets' range
pub bits-few : (b : List ℕ) → bits_good b ≡ true → BitsFew (n_bits b) (n_bits_ext b)
bits-few b h = let k = bits_in b h in record { few = omega (arith, k.few); extended = omega (arith, k.few, k.blown_up) }

-- ---- rules

-- with the dimensions that the mapping leaves
pub rules-of : (in_n : Bool) (p : Pool) (b : List ℕ) {dims : List ℕ} → dims ≡ (mapped b p).cm_dims → rules_of b p dims (columns_of b) in_n ≡ rules in_n p b (mapped b p)
rules-of in_n p b {dims} e = ap₂ (λ (d cs : List ℕ). rules_of b p d cs in_n) e (sym (mapped-columns b p))

-- ---- records of expressions

same-column : (f g : ℕ → ℕ) (e k : ℕ) (cs : List ℕ) (other : ℕ) → ((j : ℕ) → j < k + length cs → f j ≡ g j) → of_column f e k cs other ≡ of_column g e k cs other
same-column f g e k [] other h = refl
same-column f g e k (c ∷ cs) other h = ap₂ (λ x y. cond (eqb c e) x y) (h k (omega arith)) (same-column f g e (suc k) cs other (λ j l. h j (omega arith)))

same-im : (b : List ℕ) (f g : ℕ → ℕ) (e n x y : ℕ) → ((i : ℕ) → i < n → f i ≡ g i) → x ≡ y → of_im b f e n x ≡ of_im b g e n y
same-im b f g e zero x y h q = q
same-im b f g e (suc i) x y h q = ap₂ (λ u v. cond (eqb (im_of b i) e) u v) (h i (omega arith)) (same-im b f g e i x y (λ j l. h j (omega arith)) q)

same-each : (f g : ℕ → ℕ) (n : ℕ) → ((e : ℕ) → f e ≡ g e) → each f n ≡ each g n
same-each f g zero h = refl
same-each f g (suc n) h = ap₂ (λ (l : List ℕ) (x : ℕ). l ++ (x ∷ [])) (same-each f g n h) (h n)

-- from tables with cm_n and the records of the temporary columns at their front
pub exp2pol-of :
    (b : List ℕ) (p : Pool) → Planned b → (n : ℕ) (cms temporaries : List ℕ) (r k : ℕ) → take r cms ≡ cm_n (mapped b p) → r ≡ length (cm_n (mapped b p)) →
    take k temporaries ≡ column_records (mapped b p) → k ≡ length (column_records (mapped b p)) → records_of b cms temporaries (columns_of b) n ≡ exp2pol b (mapped b p) n
exp2pol-of b p planned n cms temporaries r k e f g h =
    same-each (record_of b cms temporaries (columns_of b)) (record_of b (cm_n (mapped b p)) (column_records (mapped b p)) (columns_of b)) n by
    ∙ ap (λ (cs : List ℕ). records_of b (cm_n (mapped b p)) (column_records (mapped b p)) cs n) (sym (mapped-columns b p))
  where
    cm : (i : ℕ) → i < im_count b → get_or cms (im_place b i) 0 ≡ get_or (cm_n (mapped b p)) (im_place b i) 0
    cm i l =
        let c = counts-agree b planned.agree in
        sym (get_or-take r cms (im_place b i) 0 (omega (arith, f, cm-n-size b p planned.agree, c.third, l))) ∙ ap (λ (z : List ℕ). get_or z (im_place b i) 0) e

    temporary : (j : ℕ) → j < 0 + length (columns_of b) → get_or temporaries j 0 ≡ get_or (column_records (mapped b p)) j 0
    temporary j l = sym (get_or-take k temporaries j 0 (omega (arith, h, column-records-size b p, l))) ∙ ap (λ (z : List ℕ). get_or z j 0) g

    by : (x : ℕ) → record_of b cms temporaries (columns_of b) x ≡ record_of b (cm_n (mapped b p)) (column_records (mapped b p)) (columns_of b) x
    by x =
        same-im b (λ i. get_or cms (im_place b i) 0) (λ i. get_or (cm_n (mapped b p)) (im_place b i) 0) x (im_count b)
        (of_column (λ j. get_or temporaries j 0) x 0 (columns_of b) no_record) (of_column (λ j. get_or (column_records (mapped b p)) j 0) x 0 (columns_of b) no_record)
        cm (same-column (λ j. get_or temporaries j 0) (λ j. get_or (column_records (mapped b p)) j 0) x 0 (columns_of b) no_record temporary)
