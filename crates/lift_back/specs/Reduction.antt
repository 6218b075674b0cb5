-- An instance under reduction, and the instance that it began with.
use Rattle.std.specs.Prelude.{codes, List, ℕ}
use Rattle.st_model.specs.Network.{Network}
use Rattle.lift_back.specs.declared.reduced.ApplyError.{ApplyError}
use Rattle.lift_back.specs.declared.reduced.ApplyError.TheVariants.{StepFault, NoMemory}
use Rattle.lift_back.specs.State.{State}

pub record Reduction : Type 0 where
  pub first : Network
  -- what is left, who is gone, and what is paid besides
  pub state : State

-- what an error says
abbrev pub message_of : ApplyError → List ℕ
message_of StepFault = codes "the step may not be taken"
message_of NoMemory = codes "out of memory"
