-- What is read is within the limits.
-- Assumes nothing.
use Rattle.std.specs.Prelude.{Ok, ◌≡◌, refl, List, [], ◌∷◌, ℕ, ◌≤◌}
use Rattle.std.proofs.Common.{sym, arith}
use Rattle.meaning.specs.Refusals.{Answer, done, refused, ◌then◌}
use Rattle.frames.specs.Frames.{Item, node, expression, request, frame_of}
use Rattle.frames.specs.Order.{node_limit, expression_limit, request_limit, place, Input, nothing, counts_of, add, step}
use Rattle.frames.specs.Tables.{Tables, Room, input_in}
use Rattle.frames.specs.Taking.{more, placed, then-done, counts_in, counts-add}
use Rattle.frames.specs.Reading.{read_from, frames_in, reading, held}
use Rattle.frames.specs.declared.count.Counts.{Counts}

pub record Within (c : Counts) : Type 0 where
  pub nodes : c.nodes ≤ node_limit
  pub expressions : c.expressions ≤ expression_limit
  pub requests : c.requests ≤ request_limit

within_more : (c : Counts) (x : Item) → Within c → Room c (done x) → Within (more c x)
unfolding Room
within_more c (node x) w r = record { nodes = omega arith; expressions = w.expressions; requests = w.requests }
within_more c (expression x) w r = record { nodes = w.nodes; expressions = omega arith; requests = w.requests }
within_more c (request x) w r = record { nodes = w.nodes; expressions = w.expressions; requests = omega arith }

within_step : (i j : Input) (f : List ℕ) → Within (counts_of i) → step i f ≡ done j → Within (counts_of j)
unfolding step
within_step i j f w e =
    then-done (frame_of f) _ j _ e (Within (counts_of j))
    (λ x p q. by x (place (counts_of i) x) refl q)
  where
    by : (x : Item) (a : Answer Counts) → place (counts_of i) x ≡ a → (a then λ c. done (add i x)) ≡ done j → Within (counts_of j)
    by x (done c) q e =
        let p : add i x ≡ j = cc in
        rw (← p, counts-add i x) (within_more (counts_of i) x w (placed (counts_of i) x c q).room)
    by x (refused r n) q e = let z : ◌≡◌ {A = ℕ} 0 1 = cc in absurd (omega arith)

within-from : (i j : Input) (fs : List (List ℕ)) → Within (counts_of i) → read_from i fs ≡ done j → Within (counts_of j)
unfolding read_from
within-from i j [] w e =
    let p : i ≡ j = cc in
    rw (← p) w
within-from i j (f ∷ fs) w e = by (step i f) refl e (λ k. within-from k j fs)
  where
    by :
        (a : Answer Input) → step i f ≡ a → (a then λ k. read_from k fs) ≡ done j
        → ((k : Input) → Within (counts_of k) → read_from k fs ≡ done j → Within (counts_of j)) → Within (counts_of j)
    by (done k) q e h = h k (within_step i k f w q) e
    by (refused r n) q e h = let z : ◌≡◌ {A = ℕ} 0 1 = cc in absurd (omega arith)

-- of any frames
pub within_all : (fs : List (List ℕ)) (i : Input) → read_from nothing fs ≡ done i → Within (counts_of i)
unfolding counts_of
within_all fs i e = within-from nothing i fs (record { nodes = omega arith; expressions = omega arith; requests = omega arith }) e

-- of a whole slice
pub within : (s : List ℕ) (i : Input) → reading s ≡ done i → Within (counts_of i)
unfolding reading
within s i e = within_all (frames_in s) i e

-- of what stands in the tables
pub held-within : (fs : List (List ℕ)) (t : Tables) (c : Counts) → held t (Ok c) ≡ read_from nothing fs → Within c
held-within fs t c e = rw (counts_in t c) at (within_all fs (input_in t c) (sym e))

-- of what `fill` and `read` answer
pub read-within : (s : List ℕ) (t : Tables) (c : Counts) → held t (Ok c) ≡ reading s → Within c
unfolding reading
read-within s t c e = held-within (frames_in s) t c e
