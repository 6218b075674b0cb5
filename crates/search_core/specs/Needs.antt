-- What each event needs, and the fault where a need fails: of several the first.
use Rattle.std.specs.Prelude.{◌≡◌, ℕ, ◌<◌, ◌==◌, Bool, true, false, not, ◌&&◌, ◌||◌, nat_lt, nat_le, if◌then◌else◌, List, [], ◌∷◌, length, Option, Some, None, is_none, is_some, slice_get, IfSome, ◌⊎◌}
use Rattle.std.specs.Option.{option_map_or}
use Rattle.st_model.specs.declared.branch.Branch.{Branch}
use Rattle.st_model.specs.declared.split_at.SplitAt.{SplitAt}
use Rattle.st_model.specs.declared.split_at.SplitAt.TheVariants.{Vertex, Link}
use Rattle.st_model.specs.Branch.{is_free, is_present, NoneIsCertain}
use Rattle.st_model.specs.Made.{has_pair}
use Rattle.st_model.specs.Network.{Network, link}
use Rattle.cut_packing.specs.declared.packing.Packing.{Packing}
use Rattle.cut_packing.specs.Packing.{Fits, weight}
use Rattle.cut_packing.specs.Full.{IsFull}
use Rattle.cut_packing.specs.ProofTree.{Closes}
use Rattle.search_core.specs.declared.event.Event.{Event}
use Rattle.search_core.specs.declared.event.Event.TheVariants.{Take, Pick, Give, Claim, See, Offer, Up, Split, Close, Down, SeeOpen, SeeHalt, Halt, Keep}
use Rattle.search_core.specs.declared.event.EventFault.{EventFault}
use Rattle.search_core.specs.declared.event.EventFault.TheVariants.{NoWorker, HandFull, HandEmpty, NotThere, NotClaimed, IsClaimed, WasRefused, NotRefused, OutOfTurn, BadVertex, UsedId, BadPacking, TooLight, BadLink}
use Rattle.search_core.specs.declared.made.Place.{Place}
use Rattle.search_core.specs.declared.made.Place.TheVariants.{Queue, Fresh}
use Rattle.search_core.specs.State.{State, made_as, hand, held, seen}

abbrev pub no_worker : State → ℕ → Bool
no_worker S w = nat_le (length S.workers) w

-- whether a place is a queue
abbrev pub is_queue : Place → Bool
is_queue (Queue w) = true
is_queue _ = false

-- whether a place is among the fresh halves of w
abbrev pub is_fresh_of : ℕ → Place → Bool
is_fresh_of w (Fresh v) = v == w
is_fresh_of w _ = false

-- whether the node under an id is in a queue
abbrev pub is_queued : State → ℕ → Bool
is_queued S id = option_map_or (λ m. is_queue m.place) (made_as S id) false

-- whether the node under an id is fresh, and of w
abbrev pub is_fresh : State → ℕ → ℕ → Bool
is_fresh S w id = option_map_or (λ m. is_fresh_of w m.place) (made_as S id) false

-- whether this is the id in the hand of w
abbrev pub holds : State → ℕ → ℕ → Bool
holds S w id = option_map_or (λ held. held == id) (hand S w) false

-- whether the node in the hand of w is claimed
abbrev pub is_claimed : State → ℕ → Bool
is_claimed S w = option_map_or (λ m. m.claimed) (held S w) false

-- whether a claim of w was refused
abbrev pub was_refused : State → ℕ → Bool
was_refused S w = option_map_or (λ x. x.refused) (slice_get S.workers w) false

-- whether an up of w waits for its split
abbrev pub up_waits : State → ℕ → Bool
up_waits S w = option_map_or (λ x. x.up) (slice_get S.workers w) false

-- whether a close of w waits for its down
abbrev pub close_waits : State → ℕ → Bool
close_waits S w = option_map_or (λ x. nat_lt 0 x.closes) (slice_get S.workers w) false

-- whether a branch can be split at the vertex v
abbrev pub splits_at : Network → Branch → ℕ → Bool
splits_at I B v = nat_le 1 v && nat_le v I.n && is_free I B v

-- whether it can be split at the link between a and b, the lower first: it is there, both ends are present, and it is decided neither way
abbrev pub splits_link : Network → Branch → ℕ → ℕ → Bool
splits_link I B a b = (nat_lt a b && is_some (link I.links a b)) && (is_present B a && is_present B b) && (not (has_pair B.must a b) && not (has_pair B.barred a b))

-- whether it can be split here
abbrev pub may_split_at : Network → Branch → SplitAt → Bool
may_split_at I B (Vertex v) = splits_at I B v
may_split_at I B (Link a b) = splits_link I B a b

-- the fault of a split where the branch can't be split
abbrev pub bad_split : SplitAt → EventFault
bad_split (Vertex v) = BadVertex
bad_split (Link a b) = BadLink

-- whether the node in the hand of w can be split here
abbrev pub can_split : State → ℕ → SplitAt → Bool
can_split S w at = option_map_or (λ m. may_split_at S.instance m.node.branch at) (held S w) false

-- whether a node was made under this id
abbrev pub is_used : State → ℕ → Bool
is_used S id = is_some (made_as S id)

-- the fault of the first test that holds
abbrev pub first : List (Bool × EventFault) → Option EventFault
first [] = None
first (test ∷ tests) = if test.0 then Some test.1 else first tests

-- the first fault that looks at no packing, where an event has one
abbrev pub early_fault : State → Event → Option EventFault
early_fault S (Take w id) = first ((no_worker S w, NoWorker) ∷ (is_some (hand S w), HandFull) ∷ (not (is_queued S id), NotThere) ∷ [])
early_fault S (Pick w id) = first ((no_worker S w, NoWorker) ∷ (is_some (hand S w), HandFull) ∷ (not (is_fresh S w id), NotThere) ∷ [])
early_fault S (Give w id) = first ((no_worker S w, NoWorker) ∷ (not (is_fresh S w id), NotThere) ∷ [])
early_fault S (Claim w) = first ((no_worker S w, NoWorker) ∷ (is_none (held S w), HandEmpty) ∷ (is_claimed S w, IsClaimed) ∷ (was_refused S w, WasRefused) ∷ [])
early_fault S (See w) = first ((no_worker S w, NoWorker) ∷ [])
early_fault S (Offer w value) = first ((no_worker S w, NoWorker) ∷ [])
early_fault S (Up w) = first ((no_worker S w, NoWorker) ∷ (is_none (held S w), HandEmpty) ∷ (not (is_claimed S w), NotClaimed) ∷ (up_waits S w, OutOfTurn) ∷ [])
early_fault S (Split w at inside outside P) = first ((no_worker S w, NoWorker) ∷ (is_none (held S w), HandEmpty) ∷ (not (up_waits S w), OutOfTurn) ∷ (not (can_split S w at), bad_split at) ∷ ((inside == outside) || is_used S inside || is_used S outside, UsedId) ∷ [])
early_fault S (Close w P) = first ((no_worker S w, NoWorker) ∷ (is_none (held S w), HandEmpty) ∷ (not (is_claimed S w), NotClaimed) ∷ (up_waits S w, OutOfTurn) ∷ [])
early_fault S (Down w) = first ((no_worker S w, NoWorker) ∷ (not (close_waits S w), OutOfTurn) ∷ [])
early_fault S (SeeOpen w) = first ((no_worker S w, NoWorker) ∷ [])
early_fault S (SeeHalt w) = first ((no_worker S w, NoWorker) ∷ [])
early_fault S (Halt w) = first ((no_worker S w, NoWorker) ∷ (not (was_refused S w), NotRefused) ∷ [])
early_fault S (Keep w id) = first ((no_worker S w, NoWorker) ∷ (not (is_fresh S w id || holds S w id), NotThere) ∷ (holds S w id && is_claimed S w, IsClaimed) ∷ [])

-- the packing is full and weighs less than a value
pub record IsFullBelow (I : Network) (B : Branch) (P : Packing) (x : ℕ) : Type 0 where
  pub full : IsFull I B P
  pub below : weight I B P < x

-- a packing on which a branch may be split: it fits, and is full and weighs less than a value, unless nobody is required or inside
pub record AllowsSplit (I : Network) (B : Branch) (P : Packing) (x : ℕ) : Type 0 where
  pub fits : Fits I B P
  pub full : IsFullBelow I B P x ⊎ NoneIsCertain I B

-- the fault of a packing on which a branch should be split, if it has one
abbrev pub IsSplitFault : Network → Branch → Packing → ℕ → Option EventFault → Type 0
IsSplitFault I B P x None = AllowsSplit I B P x
IsSplitFault I B P x (Some BadPacking) = ¬ AllowsSplit I B P x
IsSplitFault I B P x _ = ⊥

-- the fault of a packing that should close a branch, if it has one: it doesn't fit, or it weighs less than a value
abbrev pub IsCloseFault : Network → Branch → Packing → ℕ → Option EventFault → Type 0
IsCloseFault I B P x None = Closes I B x P
IsCloseFault I B P x (Some BadPacking) = ¬ Fits I B P
IsCloseFault I B P x (Some TooLight) = Fits I B P × (weight I B P < x)
IsCloseFault I B P x _ = ⊥

-- the fault of an event's packing, if it has one, where no other need fails
abbrev pub IsPackingFault : State → Event → Option EventFault → Type 0
IsPackingFault S (Split w at inside outside P) fault = IfSome (held S w) (λ m. IsSplitFault S.instance m.node.branch P (seen S w) fault)
IsPackingFault S (Close w P) fault = IfSome (held S w) (λ m. IsCloseFault S.instance m.node.branch P (seen S w) fault)
IsPackingFault S _ fault = fault ≡ None

-- all that an event needs holds
pub record IsAllowed (S : State) (e : Event) : Type 0 where
  pub early : early_fault S e ≡ None
  pub packing : IsPackingFault S e None

-- the fault of an event is this one: the first whose need fails
abbrev pub IsFault : State → Event → EventFault → Type 0
IsFault S e f = (early_fault S e ≡ Some f) ⊎ ((early_fault S e ≡ None) × IsPackingFault S e (Some f))

-- the first fault of an event, if it has one
abbrev pub IsFirstFault : State → Event → Option EventFault → Type 0
IsFirstFault S e None = IsAllowed S e
IsFirstFault S e (Some f) = IsFault S e f
