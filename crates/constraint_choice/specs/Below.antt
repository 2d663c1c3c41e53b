-- What a search that chose says of the identities: there is one, and each is a number of the pool. And a refusal is one of whichever answer.
-- Assumes nothing.
use Rattle.std.specs.Prelude.{ℕ, zero, suc, ◌<◌, ◌≡◌, List, [], ◌∷◌, length}
use Rattle.std.proofs.Math.Option.{Option}
use Rattle.std.proofs.Common.{arith, not-suc-le-zero, le_of_suc-le-suc}
use Rattle.meaning.specs.Refusals.{Refusal, Answer, done, refused}
use Rattle.meaning.specs.Trees.{Forest, Each}
use Rattle.search_meaning.specs.Search.{Choice, search}
use Rattle.constraint_meaning.specs.Members.{some-identity}
use Rattle.constraint_pool.specs.Whole.{AllBelow}

-- the same of each, by its place
pub each_at : (m : ℕ) (es : List ℕ) → Each (λ e. e < m) es → AllBelow m es
each_at m [] h k g = absurd (not-suc-le-zero g)
each_at m (e ∷ es) h zero g = h.0
each_at m (e ∷ es) h (suc k) g = each_at m es h.1 k (le_of_suc-le-suc g)

-- a search that chose had an identity
pub some_one : (E : Forest) (ks : List ℕ) (vc n ext : ℕ) (limit : Option ℕ) (x : Choice) → search E ks vc n ext limit ≡ done x → 0 < length ks
some_one E [] vc n ext limit x h = absurd (some-identity E limit vc n ext x h)
some_one E (k ∷ ks) vc n ext limit x h = omega arith

-- a refusal, of whichever answer
pub refused_as : {A B : Type 0} {i j : Refusal} {o k : Option ℕ} → ◌≡◌ {A = Answer A} (refused i o) (refused j k) → ◌≡◌ {A = Answer B} (refused i o) (refused j k)
refused_as {A} {B} {i} {j} {o} {k} e =
    let a : i ≡ j = cc in
    let b : o ≡ k = cc in
    rw (a, b)
