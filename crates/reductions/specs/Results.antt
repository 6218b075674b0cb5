-- What a reduction leaves.
use Rattle.std.specs.Prelude.{ℕ, List}
use Rattle.lift_back.specs.declared.step.Step.TheVariants.{Pendant, Through, Forced}
use Rattle.lift_back.specs.State.{State}
use Rattle.lift_back.specs.Steps.{MayTake}
use Rattle.lift_back.specs.Detours.{IsDetour}

-- v may not go by a step
abbrev pub HasNoStepAt : State → ℕ → Type 0
HasNoStepAt s v = (¬ MayTake (Pendant v) s) × (¬ MayTake (Through v) s) × (¬ MayTake (Forced v) s)

-- nor may any vertex
abbrev pub HasNoVertexStep : State → Type 0
HasNoVertexStep s = (v : ℕ) → HasNoStepAt s v

-- no walk stands in for a link
abbrev pub HasNoDetourStep : State → Type 0
HasNoDetourStep s = (a b : ℕ) (inner : List ℕ) → ¬ IsDetour s.instance a b inner
