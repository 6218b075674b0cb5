-- What is left to do in a state, when it is settled, and what is gathered of it.
use Rattle.std.specs.Prelude.{◌≡◌, ℕ, ◌+◌, ◌==◌, Bool, true, false, List, [], ◌∷◌, None, All, map, filter, ◌⊎◌}
use Rattle.branching.specs.declared.node.Node.{Node}
use Rattle.search_core.specs.declared.gathered.Gathered.{Gathered}
use Rattle.search_core.specs.declared.gathered.Segment.{Segment}
use Rattle.search_core.specs.declared.made.Made.{Made}
use Rattle.search_core.specs.declared.made.Place.{Place}
use Rattle.search_core.specs.declared.made.Place.TheVariants.{Queue, Left, Split, Closed}
use Rattle.search_core.specs.declared.worker.Worker.{Worker}
use Rattle.search_core.specs.Needs.{is_queue}
use Rattle.search_core.specs.State.{State}

-- whether the node of a place was split or closed
abbrev pub is_done : Place → Bool
is_done Split = true
is_done Closed = true
is_done _ = false

-- whether a node of this place waits to be gone on with: it is in a queue, or left
abbrev pub is_waiting : Place → Bool
is_waiting (Queue w) = true
is_waiting (Left w) = true
is_waiting _ = false

-- whether a place is that of the nodes that w left
abbrev pub is_left_of : ℕ → Place → Bool
is_left_of w (Left v) = v == w
is_left_of w _ = false

-- no up of the worker waits, and no close
abbrev pub IsIdle : Worker → Type 0
IsIdle x = (x.up ≡ false) × (x.closes ≡ 0)

-- every hand is empty, nothing is fresh, no up and no close waits
pub record IsSettled (S : State) : Type 0 where
  pub hands : All (λ x. x.hand ≡ None) S.workers
  pub places : All (λ m. (is_done m.place ≡ true) ⊎ (is_waiting m.place ≡ true)) S.nodes
  pub idle : All IsIdle S.workers

-- the nodes that w left
abbrev pub left_of : List Made → ℕ → List Node
left_of nodes w = map (λ m. m.node) (filter (λ m. is_left_of w m.place) nodes)

-- the nodes in queues
abbrev pub queued : List Made → List Node
queued nodes = map (λ m. m.node) (filter (λ m. is_queue m.place) nodes)

-- what is gathered of w, without a tree
abbrev pub segment_of : List Made → ℕ → Worker → Segment
segment_of nodes w x = record { done = x.done; left = left_of nodes w; best = None; seen = x.seen; end = x.end }

-- the same of w and the workers after it
abbrev pub segments_from : List Made → ℕ → List Worker → List Segment
segments_from nodes w [] = []
segments_from nodes w (x ∷ xs) = segment_of nodes w x ∷ segments_from nodes (w + 1) xs

-- what is gathered of all workers, and of the queues
abbrev pub gathered : State → Gathered
gathered S = record { segments = segments_from S.nodes 0 S.workers; queued = queued S.nodes; least = S.least; claimed = S.claims }
