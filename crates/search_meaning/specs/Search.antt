-- THE DEGREE SEARCH (calculate_im_pols of starkinfo_cp_prover.rs): what a visit of a tree gives, the candidate of each degree limit d, and the one kept.
-- Assumes nothing: these are definitions.
use Rattle.std.specs.Prelude.{ℕ, zero, suc, ◌+◌, ◌-◌, ◌^◌, max, Bool, true, false, ◌||◌, cond, List, [], ◌∷◌, eqb, ltb, leb, length}
use Rattle.std.proofs.Math.Option.{Option, none, some}
use Rattle.meaning.specs.Refusals.{Refusal, Answer}
use Rattle.meaning.specs.Trees.{Op, FlatKind, Leaf, Expr, Expression, Forest, nth}
use Rattle.search_meaning.specs.Degrees.{Class, class_of, full, full_table}

-- ── sets of expression numbers: ascending lists ──────────────────────────────
abbrev pub member : ℕ → List ℕ → Bool
member e [] = false
member e (i ∷ s) = cond (eqb e i) true (member e s)

abbrev pub insert : ℕ → List ℕ → List ℕ
insert e [] = e ∷ []
insert e (i ∷ s) = cond (eqb e i) (i ∷ s) (cond (ltb e i) (e ∷ i ∷ s) (i ∷ insert e s))

-- ── what a search gives: a value with what was counted on the way, or a refusal with the visits made until then ──
-- the largest degree cut on any branch, and the visits
pub record Tally : Type 0 where
  pub cut : ℕ
  pub visits : ℕ

pub data Out (A : Type 0) : Type 0 where
  done : A → Tally → Out A
  refused : Refusal → ℕ → Out A

abbrev pub Search : Type 0 → Type 0
Search A = Tally → Out A

abbrev pub next : {A B : Type 0} → Out A → (A → Search B) → Out B
next (done a k) f = f a k
next (refused r v) f = refused r v

abbrev pub bind : {A B : Type 0} → Search A → (A → Search B) → Search B
bind m f k = next (m k) f

abbrev pub give : {A : Type 0} → A → Search A
give a k = done a k

abbrev pub refuse : {A : Type 0} → Refusal → Search A
refuse r k = refused r k.visits

abbrev pub pick : {A : Type 0} → Bool → Search A → Search A → Search A
pick b x y k = cond b (x k) (y k)

-- a degree n was cut
abbrev pub cut_at : {A : Type 0} → ℕ → A → Search A
cut_at n a k = done a (record { cut = max k.cut n; visits = k.visits })

abbrev pub counted : Tally → Tally
counted k = record { cut = k.cut; visits = k.visits + 1 }

-- ── the degree rule ──────────────────────────────────────────────────────────
-- a set and a degree
pub record Read : Type 0 where
  pub set : List ℕ
  pub degree : ℕ

-- no set at all is none
abbrev pub Found : Type 0
Found = Option Read

abbrev pub found : List ℕ → ℕ → Found
found s n = some (record { set = s; degree = n })

abbrev pub set_of : Found → Option (List ℕ)
set_of none = none
set_of (some r) = some r.set

abbrev pub degree_of : Found → ℕ
degree_of none = 0
degree_of (some r) = r.degree

-- the second of two that were read one after the other, with a degree made of both
abbrev pub both : (ℕ → ℕ → ℕ) → Found → Found → Found
both f x none = none
both f x (some r) = found r.set (f (degree_of x) r.degree)

-- a set that is smaller replaces the best so far: the first smallest wins
abbrev pub better : Found → Found → Found
better best none = best
better none (some r) = some r
better (some b) (some r) = cond (ltb (length r.set) (length b.set)) (some r) (some b)

-- does the best so far add nothing to s
abbrev pub settled : Found → List ℕ → Bool
settled none s = false
settled (some b) s = eqb (length b.set) (length s)

abbrev pub is_constant : Class → Bool
is_constant Class.constant = true
is_constant Class.evaluation = false
is_constant Class.column = false
is_constant Class.other = false
is_constant (Class.reference e) = false

-- number, public, challenge: a product with one is the other factor
abbrev pub free : Expr → Bool
free (Expr.leaf n l) = is_constant (class_of l)
free (Expr.bin n o a b) = false
free (Expr.muladd n a b c) = false
free (Expr.binc n o a l) = false
free (Expr.neg n a) = false

-- what reading a tree does, from a set and a degree limit
abbrev pub Reads : Type 0
Reads = List ℕ → ℕ → Search Found

-- may one more visit be entered after v of them; none is no limit
abbrev pub room : Option ℕ → ℕ → Bool
room none v = true
room (some n) v = ltb v n

-- the caller's limit
module _ (limit : Option ℕ) where
  -- one visit: refused where the limit is passed, else counted, and then read if there is a set
  abbrev pub visit : Reads → Option (List ℕ) → ℕ → Search Found
  visit f o m k = cond (room limit k.visits) (go o (counted k)) (refused Refusal.visits k.visits)
    where
      go : Option (List ℕ) → Search Found
      go none = give none
      go (some s) = f s m

  -- two trees one after the other, at the limits l and r
  abbrev pub pair : (ℕ → ℕ → ℕ) → Reads → Reads → List ℕ → ℕ → ℕ → Search Found
  pair d f g s l r = bind (visit f (some s) l) (λ x. bind (visit g (set_of x) r) (λ y. give (both d x y)))

  -- the limit m split in each way from l on, n of them: the first smallest set, at once where it adds nothing
  abbrev pub splits : Reads → Reads → List ℕ → ℕ → ℕ → ℕ → Found → Search Found
  splits f g s m zero l best = give best
  splits f g s m (suc n) l best =
      bind (pair ◌+◌ f g s l (m - l)) (λ y.
      pick (settled (better best y) s) (give (better best y)) (splits f g s m n (l + 1) (better best y)))

  -- an expression read at a leaf: its body's degree, or, where that is too large, a member more
  abbrev pub cut_body : ℕ → ℕ → Found → Search Found
  cut_body e m none = give none
  cut_body e m (some r) = pick (ltb m r.degree) (cut_at r.degree (found (insert e r.set) 1)) (give (some r))

  module _ (full_of : ℕ → Option ℕ) (body : ℕ → List ℕ → Search Found) where
    abbrev pub reference : ℕ → Reads
    reference e s m =
        pick (ltb m 1) (give none)
        (pick (member e s) (give (found s 1))
        (bind (body e s) (cut_body e m)))

    abbrev pub leaf_rule : Class → Reads
    leaf_rule Class.constant s m = give (found s 0)
    leaf_rule Class.evaluation s m = refuse Refusal.search_kind
    leaf_rule Class.column s m = pick (ltb m 1) (give none) (give (found s 1))
    leaf_rule Class.other s m = refuse Refusal.search_kind
    leaf_rule (Class.reference e) s m = reference e s m

    -- by its full degree
    abbrev pub product : Option ℕ → Reads → Reads → Reads
    product none f g s m = refuse Refusal.search_kind
    product (some n) f g s m = pick (leb n m) (give (found s n)) (splits f g s m (m + 1) 0 none)

    -- _calculate_im_pols with a set
    abbrev pub rule : Expr → Reads
    rule (Expr.leaf n l) s m = leaf_rule (class_of l) s m
    rule (Expr.bin n Op.add a b) s m = pair max (rule a) (rule b) s m m
    rule (Expr.bin n Op.sub a b) s m = pair max (rule a) (rule b) s m m
    rule (Expr.bin n Op.mul a b) s m =
        pick (free a) (visit (rule b) (some s) m)
        (pick (free b) (visit (rule a) (some s) m)
        (product (full full_of (Expr.bin n Op.mul a b)) (rule a) (rule b) s m))
    rule (Expr.muladd n a b c) s m = refuse Refusal.search_kind
    rule (Expr.binc n o a l) s m = visit (rule a) (some s) m
    rule (Expr.neg n a) s m = visit (rule a) (some s) m

  -- the expressions, the degree limit d, the full degrees
  module _ (E : Forest) (d : ℕ) (full_of : ℕ → Option ℕ) where
    abbrev pub body_in : (ℕ → List ℕ → Search Found) → Option Expression → List ℕ → Search Found
    body_in b none s = refuse Refusal.not_there
    body_in b (some x) s = visit (rule full_of b x.tree) (some s) d

    -- the body of expression e, read with d, with at most n levels of expressions
    abbrev pub body : ℕ → ℕ → List ℕ → Search Found
    body zero e s = refuse Refusal.not_there
    body (suc n) e s = body_in (body n) (nth E e) s

    -- the largest degree is that returned or that cut
    abbrev pub top : Found → ℕ → Found
    top none cut = none
    top (some r) cut = found r.set (max r.degree cut)

    -- a tree read from no members, after so many visits
    abbrev pub candidate : ℕ → Expr → ℕ → Out Found
    candidate n c visits =
        next (visit (rule full_of (body n) c) (some []) d (record { cut = 0; visits = visits })) (λ x k. done (top x k.cut) k)

-- ── the candidate kept ───────────────────────────────────────────────────────
-- a candidate's `degree` is q + 1; a q of -1 counts as 2^64 - 1
abbrev pub q_of : ℕ → ℕ
q_of zero = 2 ^ 64 - 1
q_of (suc q) = q

abbrev pub weight : Read → ℕ
weight r = length r.set + q_of r.degree

abbrev pub keep : Found → Found → Found
keep kept none = kept
keep none (some r) = some r
keep (some k) (some r) = cond (eqb (q_of k.degree) 0 || ltb (weight r) (weight k)) (some r) (some k)

-- what the search chooses: the members, the quotient's degree, and the visits that it took
pub record Choice : Type 0 where
  pub set : List ℕ
  pub q : ℕ
  pub visits : ℕ

-- of a degree q + 1: a q of -1 is refused
abbrev pub finish_at : List ℕ → ℕ → ℕ → Answer Choice
finish_at s v zero = Answer.refused Refusal.no_quotient none
finish_at s v (suc q) = Answer.done (record { set = s; q = q; visits = v })

abbrev pub finish : Found → ℕ → Answer Choice
finish none v = Answer.refused Refusal.no_set none
finish (some r) v = finish_at r.set v r.degree

-- on to the next d
abbrev pub onward : Out Found → (Found → ℕ → Answer Choice) → Answer Choice
onward (done x k) f = f x k.visits
onward (refused r v) f = Answer.refused r none

-- n values of d from d on, over the tree c
abbrev pub tries : Option ℕ → Forest → Expr → ℕ → ℕ → Found → ℕ → Answer Choice
tries limit E c zero d kept v = finish kept v
tries limit E c (suc n) d kept v =
    onward (candidate limit E d (full_table E) (length E) c v) (λ x. tries limit E c n (d + 1) (keep kept x))

-- ── the identities ───────────────────────────────────────────────────────────
abbrev pub identity_leaf : ℕ → Expr
identity_leaf e = Expr.leaf 0 (Leaf.exp e 0)

-- vc·c + e; the nodes of the fold are no pool's
abbrev pub folded : ℕ → Expr → Expr → Expr
folded vc c e = Expr.bin 0 Op.add (Expr.bin 0 Op.mul (Expr.leaf 0 (Leaf.flat FlatKind.challenge vc)) c) e

abbrev pub fold_more : ℕ → Expr → List ℕ → Expr
fold_more vc c [] = c
fold_more vc c (e ∷ es) = fold_more vc (folded vc c (identity_leaf e)) es

-- the tree of the identities
abbrev pub folds : ℕ → List ℕ → Expr
folds vc [] = identity_leaf 0
folds vc (e ∷ es) = fold_more vc (identity_leaf e) es

abbrev pub all_below : ℕ → List ℕ → Bool
all_below n [] = true
all_below n (e ∷ es) = cond (ltb e n) (all_below n es) false

-- n_bits is at most 24, n_bits_ext at least n_bits and at most n_bits + 4
abbrev pub bits_ok : ℕ → ℕ → Bool
bits_ok n ext = cond (leb n 24) (cond (leb n ext) (leb ext (n + 4)) false) false

-- a test before the rest
abbrev pub unless : Refusal → Bool → Answer Choice → Answer Choice
unless r true a = a
unless r false a = Answer.refused r none

-- THE WHOLE SEARCH: the expressions, the identities, the number of "vc", n_bits, n_bits_ext, the visits allowed
unfoldable pub search : Forest → List ℕ → ℕ → ℕ → ℕ → Option ℕ → Answer Choice
search E [] vc n ext limit = Answer.refused Refusal.no_identity none
search E (e ∷ es) vc n ext limit =
    unless Refusal.bits (bits_ok n ext)
    (unless Refusal.not_there (all_below (length E) (e ∷ es))
    (tries limit E (fold_more vc (identity_leaf e) es) (2 ^ (ext - n)) 2 none 0))
