-- What the loops over a list of records need of lists.
--     upto i ps rs     the first i records have their positions written.        upto_next    one record more.        upto_all     all of them
--     fill_to i cs bs   the first i numbers of bs are those of cs.               fill-next    one more.               fill-all     all of them
-- Assumes nothing.
use Rattle.std.specs.Prelude.{◌≡◌, refl, ℕ, zero, suc, ◌+◌, ◌*◌, ◌<◌, ◌^◌, List, [], ◌∷◌, length, get_or, set, T, Bool, true, false}
use Rattle.std.proofs.Common.{sym, ◌∙◌, ap, not-suc-le-zero, le_of_suc-le-suc, add-one, arith}
use Rattle.records.specs.declared.PolType.{PolType}
use Rattle.records.specs.Records.{blank, moved, written, sections_of, dims_of, positions_of}

abbrev pub upto : ℕ → List ℕ → List PolType → List PolType
upto zero ps rs = rs
upto (suc i) ps [] = []
upto (suc i) [] (r ∷ rs) = r ∷ rs
upto (suc i) (p ∷ ps) (r ∷ rs) = moved r p ∷ upto i ps rs

next-suc : (i : ℕ) (ps : List ℕ) (rs : List PolType) → i < length ps → i < length rs → set (upto i ps rs) i (moved (get_or (upto i ps rs) i blank) (get_or ps i 0)) ≡ upto (suc i) ps rs
next-suc i ps [] h l = absurd (not-suc-le-zero l)
next-suc i [] (r ∷ rs) h l = absurd (not-suc-le-zero h)
next-suc zero (p ∷ ps) (r ∷ rs) h l = refl
next-suc (suc i) (p ∷ ps) (r ∷ rs) h l = ap (λ (t : List PolType). moved r p ∷ t) (next-suc i ps rs (le_of_suc-le-suc h) (le_of_suc-le-suc l))

pub upto_next : (i : ℕ) (ps : List ℕ) (rs zs : List PolType) → zs ≡ upto i ps rs → i < length ps → i < length rs → set zs i (moved (get_or zs i blank) (get_or ps i 0)) ≡ upto (i + 1) ps rs
upto_next i ps rs zs e h l = ap (λ (t : List PolType). set t i (moved (get_or t i blank) (get_or ps i 0))) e ∙ next-suc i ps rs h l ∙ ap (λ (k : ℕ). upto k ps rs) (sym (add-one i))

pub upto_all : (ps : List ℕ) (rs : List PolType) → length rs ≡ length ps → upto (length rs) ps rs ≡ written ps rs
unfolding written
upto_all ps [] e = refl
upto_all [] (r ∷ rs) e = refl
upto_all (p ∷ ps) (r ∷ rs) e = ap (λ (t : List PolType). moved r p ∷ t) (upto_all ps rs (omega arith))

abbrev pub fill_to : ℕ → List ℕ → List ℕ → List ℕ
fill_to zero cs bs = bs
fill_to (suc i) [] bs = bs
fill_to (suc i) (c ∷ cs) [] = []
fill_to (suc i) (c ∷ cs) (b ∷ bs) = c ∷ fill_to i cs bs

fill_suc : (i : ℕ) (cs bs : List ℕ) → i < length cs → i < length bs → set (fill_to i cs bs) i (get_or cs i 0) ≡ fill_to (suc i) cs bs
fill_suc i [] bs h l = absurd (not-suc-le-zero h)
fill_suc i (c ∷ cs) [] h l = absurd (not-suc-le-zero l)
fill_suc zero (c ∷ cs) (b ∷ bs) h l = refl
fill_suc (suc i) (c ∷ cs) (b ∷ bs) h l = ap (λ (t : List ℕ). c ∷ t) (fill_suc i cs bs (le_of_suc-le-suc h) (le_of_suc-le-suc l))

pub fill-next : (i v : ℕ) (cs bs zs : List ℕ) → zs ≡ fill_to i cs bs → v ≡ get_or cs i 0 → i < length cs → i < length bs → set zs i v ≡ fill_to (i + 1) cs bs
fill-next i v cs bs zs e ev h l = ap (λ (t : List ℕ). set t i v) e ∙ ap (λ (u : ℕ). set (fill_to i cs bs) i u) ev ∙ fill_suc i cs bs h l ∙ ap (λ (k : ℕ). fill_to k cs bs) (sym (add-one i))

pub fill-all : (cs bs : List ℕ) → length bs ≡ length cs → fill_to (length cs) cs bs ≡ cs
fill-all [] [] e = refl
fill-all [] (b ∷ bs) e = absurd (omega arith)
fill-all (c ∷ cs) [] e = absurd (omega arith)
fill-all (c ∷ cs) (b ∷ bs) e = ap (λ (t : List ℕ). c ∷ t) (fill-all cs bs (omega arith))

pub length-sections : (rs : List PolType) → length (sections_of rs) ≡ length rs
unfolding sections_of
length-sections [] = refl
length-sections (r ∷ rs) = ap suc (length-sections rs)

pub length-dims : (rs : List PolType) → length (dims_of rs) ≡ length rs
unfolding dims_of
length-dims [] = refl
length-dims (r ∷ rs) = ap suc (length-dims rs)

pub length-positions : (rs : List PolType) → length (positions_of rs) ≡ length rs
unfolding positions_of
length-positions [] = refl
length-positions (r ∷ rs) = ap suc (length-positions rs)

pub section-at : (i : ℕ) (rs : List PolType) → (get_or rs i blank).section ≡ get_or (sections_of rs) i 0
unfolding sections_of
section-at i [] = refl
section-at zero (r ∷ rs) = refl
section-at (suc i) (r ∷ rs) = section-at i rs

pub dim-at : (i : ℕ) (rs : List PolType) → (get_or rs i blank).dim ≡ get_or (dims_of rs) i 0
unfolding dims_of
dim-at i [] = refl
dim-at zero (r ∷ rs) = refl
dim-at (suc i) (r ∷ rs) = dim-at i rs

pub position_at : (i : ℕ) (rs : List PolType) → (get_or rs i blank).section_pos ≡ get_or (positions_of rs) i 0
unfolding positions_of
position_at i [] = refl
position_at zero (r ∷ rs) = refl
position_at (suc i) (r ∷ rs) = position_at i rs

-- the byte at which element n starts fits, at 6 and at 2 bytes an element
pub far6 : (n m : ℕ) → n < m → m * 6 < 2 ^ 63 → n * 6 < 2 ^ 64
far6 n m within room = omega arith

pub far2 : (n m : ℕ) → n < m → m * 2 < 2 ^ 63 → n * 2 < 2 ^ 64
far2 n m within room = omega arith

pub next_fits : (n m : ℕ) → n < m → m < 2 ^ 64 → n + 1 < 2 ^ 64
next_fits n m within room = omega arith

-- ---- truth values
pub holds : (t : Bool) → T t → t ≡ true
holds true _ = refl
holds false a = absurd a

pub fails : (t : Bool) → (T t → ⊥) → t ≡ false
fails true f = absurd (f tt)
fails false _ = refl
