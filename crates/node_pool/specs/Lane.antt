-- One queue: what its ends put and took.
use Rattle.std.specs.Prelude.{◌≡◌, ℕ, zero, suc, ◌+◌, ◌≤◌, List, [], ◌++◌, length}
use Rattle.std.specs.List.{sum_by}
use mathlib.Core.Option.{some}
use lib.ListN.{get_elem?}
use Rattle.branching.specs.declared.node.Node.{Node}
use Rattle.node_pool.specs.declared.rule.Hand.{Hand}

abbrev pub hand : ℕ → List Node → List Node → Hand
hand parts put taken = record { parts = parts; put = put; taken = taken }

-- the first end has every part: one for each of 64 workers, and its own
abbrev pub first_hand : Hand
first_hand = hand 65 [] []

abbrev pub both : Hand → Hand → Hand
both v w = hand (v.parts + w.parts) (v.put ++ w.put) (v.taken ++ w.taken)

-- These nodes stand beside each other in what the end put, after all that it had taken. For an end with every part they are the next ones.
abbrev pub AreNext : Hand → List Node → Type 0
AreNext v xs = (front : List Node) × (rest : List Node) × (v.put ≡ front ++ (xs ++ rest)) × (length v.taken ≤ length front) × (v.parts ≡ 65 → length front ≡ length v.taken)

-- the first end took the first nodes
abbrev pub took : Hand → List Node → Hand → Type 0
took v xs w = (w ≡ hand v.parts v.put (v.taken ++ xs)) × AreNext v xs

-- an end with no part has put and taken nothing
abbrev pub IdleIsEmpty : List Hand → Type 0
IdleIsEmpty views = (port : ℕ) (v : Hand) → get_elem? views port ≡ some v → v.parts ≡ 0 → (v.put ≡ []) × (v.taken ≡ [])

-- the first end put some front, and then what the queue holds, in this order; any other end put nothing
abbrev pub IsPutAt : List Node → ℕ → Hand → Type 0
IsPutAt items zero v = (front : List Node) × (v.put ≡ front ++ items)
IsPutAt items (suc port) v = v.put ≡ []

abbrev pub InOrder : List Node → List Hand → Type 0
InOrder items views = (port : ℕ) (v : Hand) → get_elem? views port ≡ some v → IsPutAt items port v

-- what was put is what was taken and what the queue holds, however the nodes are weighed; and the queue holds the last of what was put
abbrev pub Balanced : List Node → List Hand → Type 0
Balanced items views =
    (sum_by (λ (v : Hand). v.parts) views ≡ 65)
    × ((h : Node → ℕ) → sum_by (λ (v : Hand). sum_by h v.put) views ≡ sum_by (λ (v : Hand). sum_by h v.taken) views + sum_by h items)
    × IdleIsEmpty views
    × InOrder items views

-- what was put and not taken is what is left, however the nodes are weighed
abbrev pub IsLeft : Hand → List Node → Type 0
IsLeft v left = (h : Node → ℕ) → sum_by h v.put ≡ sum_by h v.taken + sum_by h left
