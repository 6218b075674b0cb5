-- A worker's pass: its own queue, its ends of the other queues, and its own list. All passes of a pool.
use Rattle.std.specs.Prelude.{◌≡◌, ℕ, ◌+◌, ◌<◌, List, ◌∷◌, ◌++◌, map, flat_map, take, drop, length, slice_index_or, []}
use Rattle.std.specs.List.{sum_by}
use Rattle.std.specs.declared.alloc.Global.{Global}
use Rattle.atomic_blocks.specs.Lent.{RowsId}
use Rattle.branching.specs.declared.node.Node.{Node}
use Rattle.node_pool.specs.Ends.{End, queue_of, look}

pub record Station : Type 0 where
  pub own : End
  pub others : List End
  pub list : List Node

abbrev pub station : End → List End → List Node → Station
station own others list = record { own = own; others = others; list = list }

abbrev pub own_queue : Station → RowsId × Global
own_queue s = s.own.queue

-- what a pass put into its queue
abbrev pub own_put : Station → List Node
own_put s = s.own.hand.put

abbrev pub list_of : Station → List Node
list_of s = s.list

abbrev pub puts : (Node → ℕ) → List End → ℕ
puts h es = sum_by (λ (e : End). sum_by h e.hand.put) es

abbrev pub takes : (Node → ℕ) → List End → ℕ
takes h es = sum_by (λ (e : End). sum_by h e.hand.taken) es

-- what the nodes weigh that a pass gave and didn't take back from its own list
abbrev pub gave : (Node → ℕ) → Station → ℕ
gave h s = sum_by h s.own.hand.put + puts h s.others + sum_by h s.list

-- what the nodes weigh that it took from queues
abbrev pub took : (Node → ℕ) → Station → ℕ
took h s = sum_by h s.own.hand.taken + takes h s.others

-- between two moments a pass gave and took these nodes, however they are weighed
abbrev pub Moves : Station → Station → List Node → List Node → Type 0
Moves before after given taken = (h : Node → ℕ) → gave h after + took h before + sum_by h taken ≡ gave h before + took h after + sum_by h given

-- it is the same pass of the same pool
abbrev pub SamePass : Station → Station → Type 0
SamePass before after = (after.own.queue ≡ before.own.queue) × (map queue_of after.others ≡ map queue_of before.others)

-- a pass's own list is empty, and between two moments each queue that it knows answered it once that it held nothing
abbrev pub FoundNothing : Station → Station → Type 0
FoundNothing before after = (before.list ≡ []) × (after ≡ station (look before.own) (map look before.others) [])

-- the queues that a pass knows, its own at this place
abbrev pub queues_at : ℕ → Station → List (RowsId × Global)
queues_at k s = take k (map queue_of s.others) ++ own_queue s ∷ drop k (map queue_of s.others)

-- these are all passes of one pool, in their order: each knows all their queues, its own at its place
abbrev pub AreAllPasses : List Station → Type 0
AreAllPasses passes = (k : ℕ) (d : Station) → k < length passes → queues_at k (slice_index_or passes k d) ≡ map own_queue passes

-- what all passes gave, and what they took
abbrev pub all_gave : (Node → ℕ) → List Station → ℕ
all_gave h passes = sum_by (gave h) passes

abbrev pub all_took : (Node → ℕ) → List Station → ℕ
all_took h passes = sum_by (took h) passes

-- of each of these lists all but so many of its first nodes, one after the other
abbrev pub tails : List ℕ → List (List Node) → List Node
tails [] lists = []
tails (n ∷ ns) [] = []
tails (n ∷ ns) (xs ∷ lists) = drop n xs ++ tails ns lists

-- what is left of a pool: the list of each pass, and then, of each queue, the last of what was put there, all in order
abbrev pub IsLeftOf : List Station → List Node → Type 0
IsLeftOf passes left = (gone : List ℕ) × (length gone ≡ length passes) × (left ≡ flat_map list_of passes ++ tails gone (map own_put passes))
