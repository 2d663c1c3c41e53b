-- A step as it stands in a list of bytes, and the laws of reading and writing steps.
-- Assumes nothing.
use Rattle.std.specs.Prelude.{◌≡◌, refl, List, [], ◌∷◌, ◌++◌, ℕ, suc, ◌+◌, ◌*◌, ◌≤◌, ◌<◌, length, get_or, take, drop, set}
use Rattle.std.proofs.Common.{append-nil, add-zero, div-add-mod', arith}
use Rattle.kinds.specs.Write.{write}
use Rattle.kinds.specs.Records.{Same, same-part, Apart, Layout, first, joined, put-read, put-kept, first-length, first-same, first-kept, first-snoc, first-take, first-at, first-split, first-set, joined_length, joined-append, first-joined}
use Rattle.kinds.specs.BigEndian.{u16_at, u16_bytes, u16-part}
use Rattle.kinds.specs.References.{ref_at, ref_bytes, ref-same}
use Rattle.kinds.specs.declared.step.Step.{Step}

abbrev pub step_size : ℕ
step_size = 52

unfoldable pub step_at : List ℕ → ℕ → Step
step_at l i =
    record {
      op = get_or l i 0;
      count = get_or l (i + 1) 0;
      origin = u16_at l (i + 2);
      dest = ref_at l (i + 4);
      s0 = ref_at l (i + 16);
      s1 = ref_at l (i + 28);
      s2 = ref_at l (i + 40);
    }

unfoldable pub head_bytes : ℕ → ℕ → ℕ → List ℕ
head_bytes op count origin = (op ∷ count ∷ []) ++ u16_bytes origin

unfoldable pub step_bytes : Step → List ℕ
step_bytes s =
    head_bytes s.op s.count s.origin
    ++ ref_bytes s.dest
    ++ ref_bytes s.s0
    ++ ref_bytes s.s1
    ++ ref_bytes s.s2

pub step-sized : (s : Step) → length (step_bytes s) ≡ step_size
unfolding step_bytes head_bytes ref_bytes u16_bytes
step-sized s = refl

pub step_same : (l : List ℕ) (i : ℕ) (m : List ℕ) (j : ℕ) → Same step_size l i m j → step_at l i ≡ step_at m j
unfolding step_at Same
step_same l i m j h =
    let h0 : get_or l i 0 ≡ get_or m j 0 = simp add-zero at (h 0 (omega arith)) in
    let part : (a : ℕ) → a + 12 ≤ 52 → ref_at l (i + a) ≡ ref_at m (j + a) = λ a g. ref-same l (i + a) m (j + a) (same-part 52 l i m j a 12 g h) in
    cc (h 1 (omega arith), u16-part 52 l i m j 2 (omega arith) h, part 4 (omega arith), part 16 (omega arith), part 28 (omega arith), part 40 (omega arith))

pub step_back : (s : Step) → step_at (step_bytes s) 0 ≡ s
unfolding step_at step_bytes head_bytes ref_bytes ref_at u16_at u16_bytes
step_back s = simp div-add-mod'

abbrev pub step_layout : Layout Step
step_layout = record { size = step_size; at = step_at; words = step_bytes; sized = step-sized; same = step_same; back = step_back }

-- the first n steps of a list
unfoldable pub steps_of : List ℕ → ℕ → List Step
steps_of l n = first step_layout l n

-- steps as they are written, one after the other
unfoldable pub steps_bytes : List Step → List ℕ
steps_bytes ss = joined step_layout ss

-- a step that is put is read back
pub step-read : (l : List ℕ) (i : ℕ) (s : Step) → i + step_size ≤ length l → step_at (write l i (step_bytes s)) i ≡ s
step-read = put-read step_layout

-- and any other is as it was
pub step_kept : (l : List ℕ) (i : ℕ) (ws : List ℕ) (j : ℕ) → Apart i (length ws) j step_size → step_at (write l i ws) j ≡ step_at l j
step_kept = put-kept step_layout

pub steps-none : (l : List ℕ) → steps_of l 0 ≡ []
unfolding steps_of first
steps-none l = refl

pub steps-more : (l : List ℕ) (n : ℕ) → steps_of l (suc n) ≡ steps_of l n ++ (step_at l (step_size * n) ∷ [])
unfolding steps_of first
steps-more l n = refl

pub steps-length : (l : List ℕ) (n : ℕ) → length (steps_of l n) ≡ n
unfolding steps_of
steps-length = first-length step_layout

pub steps-at : (l : List ℕ) (k n : ℕ) (d : Step) → k < n → get_or (steps_of l n) k d ≡ step_at l (step_size * k)
unfolding steps_of
steps-at = first-at step_layout

-- fewer steps are the front of more
pub steps-take : (l : List ℕ) (m n : ℕ) → m ≤ n → take m (steps_of l n) ≡ steps_of l m
unfolding steps_of
steps-take = first-take step_layout

-- and the others are those of the rest of the list
pub steps-split : (l : List ℕ) (m n : ℕ) → steps_of l (m + n) ≡ steps_of l m ++ steps_of (drop (step_size * m) l) n
unfolding steps_of
steps-split = first-split step_layout

-- lists that hold the same bytes hold the same steps
pub steps-same : (l m : List ℕ) (n : ℕ) → Same (step_size * n) l 0 m 0 → steps_of l n ≡ steps_of m n
unfolding steps_of
steps-same = first-same step_layout

-- a write past n steps leaves them
pub steps-kept : (l : List ℕ) (i : ℕ) (ws : List ℕ) (n : ℕ) → step_size * n ≤ i → steps_of (write l i ws) n ≡ steps_of l n
unfolding steps_of
steps-kept = first-kept step_layout

-- a step put at the end
pub steps-snoc : (l : List ℕ) (n : ℕ) (s : Step) → step_size * n + step_size ≤ length l → steps_of (write l (step_size * n) (step_bytes s)) (suc n) ≡ steps_of l n ++ (s ∷ [])
unfolding steps_of
steps-snoc = first-snoc step_layout

-- steps put at the end
pub steps-joined : (l : List ℕ) (n : ℕ) (ss : List Step) → step_size * (n + length ss) ≤ length l → steps_of (write l (step_size * n) (steps_bytes ss)) (n + length ss) ≡ steps_of l n ++ ss
unfolding steps_of steps_bytes
steps-joined = first-joined step_layout

-- a step put over another
pub steps-set : (l : List ℕ) (k n : ℕ) (s : Step) → k < n → step_size * n ≤ length l → steps_of (write l (step_size * k) (step_bytes s)) n ≡ set (steps_of l n) k s
unfolding steps_of
steps-set = first-set step_layout

pub steps-bytes-none : steps_bytes [] ≡ []
unfolding steps_bytes joined
steps-bytes-none = refl

pub steps-bytes-one : (s : Step) → steps_bytes (s ∷ []) ≡ step_bytes s
unfolding steps_bytes joined
steps-bytes-one s = append-nil (step_bytes s)

pub steps-bytes-length : (ss : List Step) → length (steps_bytes ss) ≡ step_size * length ss
unfolding steps_bytes
steps-bytes-length = joined_length step_layout

pub steps-bytes-append : (ss ts : List Step) → steps_bytes (ss ++ ts) ≡ steps_bytes ss ++ steps_bytes ts
unfolding steps_bytes
steps-bytes-append = joined-append step_layout
