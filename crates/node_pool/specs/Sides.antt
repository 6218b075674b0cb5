-- All ends of all queues. Helpers' clauses cite this, and no public one.
use Rattle.std.specs.Prelude.{◌≡◌, ℕ, zero, suc, ◌-◌, ◌<◌, ◌≤◌, List, [], ◌∷◌, map, length, slice_index_or, All}
use Rattle.std.specs.List.{sum_by}
use Rattle.std.specs.declared.alloc.Global.{Global}
use Rattle.atomic_blocks.specs.Lent.{RowsId}
use Rattle.branching.specs.declared.node.Node.{Node}
use Rattle.node_pool.specs.Lane.{both, hand}
use Rattle.node_pool.specs.Ends.{End, end, look, queue_of}
use Rattle.node_pool.specs.Pool.{Station, own_queue, queues_at, puts, takes}

-- each worker takes in the end of its queue
abbrev pub rejoined : List End → List End → List End
rejoined [] ts = []
rejoined (o ∷ os) [] = o ∷ os
rejoined (o ∷ os) (t ∷ ts) = end o.queue (both o.hand t.hand) o.looks ∷ rejoined os ts

-- these ends, after a look at each of the first so many
abbrev pub looked : ℕ → List End → List End
looked zero es = es
looked (suc k) [] = []
looked (suc k) (e ∷ es) = look e ∷ looked k es

abbrev pub all_puts : (Node → ℕ) → List (List End) → ℕ
all_puts h sides = sum_by (puts h) sides

abbrev pub all_takes : (Node → ℕ) → List (List End) → ℕ
all_takes h sides = sum_by (takes h) sides

-- each side has an end of each queue, in order
abbrev pub AreSides : List (RowsId × Global) → List (List End) → Type 0
AreSides queues sides = All (λ side. map queue_of side ≡ queues) sides

-- a pass of an empty queue, on which nothing was given or taken
pub record IsNewPass (s : Station) : Type 0 where
  pub put_none : s.own.hand.put ≡ []
  pub taken_none : s.own.hand.taken ≡ []
  pub others_none : All (λ (e : End). (e.hand.put ≡ []) × (e.hand.taken ≡ [])) s.others
  pub list_none : s.list ≡ []

-- new passes of these queues, each of which knows all of them, its own at its place
pub record AreNewPasses (queues : List (RowsId × Global)) (passes : List Station) : Type 0 where
  pub owned : map own_queue passes ≡ queues
  pub known : (k : ℕ) (d : Station) → k < length passes → queues_at k (slice_index_or passes k d) ≡ queues
  pub unused : All IsNewPass passes

-- a queue without nodes and an end of each queue on which nothing was done, its own at this place
pub record IsSeat (place : ℕ) (own : End) (ends : List End) : Type 0 where
  pub within : place < length ends
  pub few : length ends ≤ 64
  pub same : (d : End) → (slice_index_or ends place d).queue ≡ own.queue
  pub fresh : own.hand ≡ hand (65 - length ends) [] []
  pub unused : All (λ t. t.hand ≡ hand 1 [] []) ends
