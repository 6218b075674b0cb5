-- What each event does to the state.
use Rattle.std.specs.Prelude.{ℕ, ◌+◌, ◌-◌, ◌==◌, min, true, false, nat_lt, if◌then◌else◌, List, [], ◌∷◌, ◌++◌, Option, Some, None, unwrap_or}
use Rattle.st_model.specs.declared.split_at.SplitAt.{SplitAt}
use Rattle.cut_packing.specs.declared.packing.Packing.{Packing}
use Rattle.branching.specs.declared.node.Node.{Node}
use Rattle.branching.specs.Node.{yes_node, no_node}
use Rattle.search_core.specs.declared.done.Done.{Done}
use Rattle.search_core.specs.declared.done.Done.TheVariants as done
use Rattle.search_core.specs.declared.done.End.{End}
use Rattle.search_core.specs.declared.done.End.TheVariants.{OpenZero, ClaimRefused, HaltSeen}
use Rattle.search_core.specs.declared.event.Event.{Event}
use Rattle.search_core.specs.declared.event.Event.TheVariants.{Take, Pick, Give, Claim, See, Offer, Up, Split, Close, Down, SeeOpen, SeeHalt, Halt, Keep}
use Rattle.search_core.specs.declared.made.Made.{Made}
use Rattle.search_core.specs.declared.made.Place.{Place}
use Rattle.search_core.specs.declared.made.Place.TheVariants as place
use Rattle.search_core.specs.State.{State, hand, held, with_node, with_worker}

-- the node under an id is in this place
abbrev pub moved : State → ℕ → Place → State
moved S id to = with_node S id (λ m. record m { place = to })

-- w has this in its hand
abbrev pub handed : State → ℕ → Option ℕ → State
handed S w id = with_worker S w (λ x. record x { hand = id })

-- a hand without this id
abbrev pub put_down : Option ℕ → ℕ → Option ℕ
put_down None id = None
put_down (Some held) id = if held == id then None else Some held

-- the id of the node in the hand of w, where there is one
abbrev pub id_in_hand : State → ℕ → ℕ
id_in_hand S w = unwrap_or (hand S w) 0

-- w ends for this reason
abbrev pub ended : State → ℕ → End → State
ended S w why = with_worker S w (λ x. record x { end = why })

-- the claim of the node in the hand of w is granted
abbrev pub granted : State → ℕ → State
granted S w = record (with_node S (id_in_hand S w) (λ m. record m { claimed = true })) { claims = S.claims + 1 }

-- the claim of w is refused
abbrev pub refused : State → ℕ → State
refused S w = with_worker S w (λ x. record x { refused = true; end = ClaimRefused })

-- both halves of a node that is split by w, the one that says yes in its hand, and the other fresh
abbrev pub halves_made : Option Made → ℕ → SplitAt → ℕ → ℕ → Packing → List Made
halves_made None w at inside outside P = []
halves_made (Some m) w at inside outside P =
    let N : Node = record m.node { packing = P } in
    record { node = yes_node N at inside; place = place.Hand w; claimed = false }
    ∷ record { node = no_node N at outside; place = place.Fresh w; claimed = false }
    ∷ []

-- the halves join the nodes, and w holds the one that says yes
abbrev pub split_into : State → ℕ → List Made → ℕ → Done → State
split_into S w halves inside done =
    record (with_worker S w (λ x. record x { hand = Some inside; up = false; done = x.done ++ done ∷ [] })) { nodes = S.nodes ++ halves }

-- the record of a close joins those of w, and the close waits
abbrev pub close_done : State → ℕ → Done → State
close_done S w done = with_worker S w (λ x. record x { hand = None; closes = x.closes + 1; done = x.done ++ done ∷ [] })

-- the state after an event whose need is met
abbrev pub after : State → Event → State
after S (Take w id) = handed (moved S id (place.Hand w)) w (Some id)
after S (Pick w id) = handed (moved S id (place.Hand w)) w (Some id)
after S (Give w id) = moved S id (place.Queue w)
after S (Claim w) = if nat_lt S.claims S.budget then granted S w else refused S w
after S (See w) = with_worker S w (λ x. record x { seen = S.least })
after S (Offer w value) = record (with_worker S w (λ x. record x { seen = min S.least value; offered = min x.offered value })) { least = min S.least value }
after S (Up w) = record (with_worker S w (λ x. record x { up = true })) { opened = S.opened + 1 }
after S (Split w at inside outside P) = moved (split_into S w (halves_made (held S w) w at inside outside P) inside (done.Split (id_in_hand S w) at inside outside P)) (id_in_hand S w) place.Split
after S (Close w P) = moved (close_done S w (done.Close (id_in_hand S w) P)) (id_in_hand S w) place.Closed
after S (Down w) = record (with_worker S w (λ x. record x { closes = x.closes - 1 })) { opened = S.opened - 1 }
after S (SeeOpen w) = if S.opened == 0 then ended S w OpenZero else S
after S (SeeHalt w) = if S.halted then ended S w HaltSeen else S
after S (Halt w) = record S { halted = true }
after S (Keep w id) = with_worker (moved S id (place.Left w)) w (λ x. record x { hand = put_down x.hand id })
