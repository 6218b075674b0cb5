-- Lists of events, from one state to another.
use Rattle.std.specs.Prelude.{◌≡◌, List, [], ◌∷◌, ◌⊎◌}
use Rattle.search_core.specs.declared.event.Event.{Event}
use Rattle.search_core.specs.declared.event.EventFault.{EventFault}
use Rattle.search_core.specs.declared.event.StepError.{StepError}
use Rattle.search_core.specs.declared.event.StepError.TheVariants.{Event as Fault, NoMemory}
use Rattle.search_core.specs.State.{State}
use Rattle.search_core.specs.Needs.{IsAllowed, IsFault}
use Rattle.search_core.specs.Effects.{after}

-- where it isn't memory, the error is the first fault of the event
abbrev pub IsError : State → Event → StepError → Type 0
IsError S e (Fault f) = IsFault S e f
IsError S e NoMemory = Unit {0}

-- the event happens, or it has a fault and nothing changes
abbrev pub Step : State → Event → State → Type 0
Step S e S' = (IsAllowed S e × (S' ≡ after S e)) ⊎ ((f : EventFault) × IsFault S e f × (S' ≡ S))

-- one event after another
abbrev pub Run : State → List Event → State → Type 0
Run S [] S' = S' ≡ S
Run S (e ∷ es) S' = (T : State) × Step S e T × Run T es S'
