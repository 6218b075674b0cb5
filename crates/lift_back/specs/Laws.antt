-- What a step keeps: trees lead back at the same worth, and no tree is worth less than one that is left.
use Rattle.std.specs.Prelude.{◌≡◌, ℕ, ◌≤◌, List}
use Rattle.st_model.specs.declared.tree.Tree.{Tree}
use Rattle.lift_back.specs.declared.step.Step.{Step}
use Rattle.lift_back.specs.State.{State, IsState, IsTreeOf, worth}
use Rattle.lift_back.specs.Steps.{Takes, Applies}

-- some tree of the state is worth just this
abbrev pub HasTreeOf : State → ℕ → Type 0
HasTreeOf s x = (t : Tree) × IsTreeOf s t × (worth s t ≡ x)

-- some tree of the state is worth at most this
abbrev pub HasTreeWithin : State → ℕ → Type 0
HasTreeWithin s x = (t : Tree) × IsTreeOf s t × (worth s t ≤ x)

-- each tree after the step comes from a tree before it of the same worth
abbrev pub EachStepLiftsBack : Type 0
EachStepLiftsBack = (step : Step) (before after : State) (t : Tree) → IsState before → Takes step before after → IsTreeOf after t → HasTreeOf before (worth after t)

-- for each tree before the step there is one after it that is worth no more
abbrev pub EachStepKeepsTheLeast : Type 0
EachStepKeepsTheLeast = (step : Step) (before after : State) (t : Tree) → IsState before → Takes step before after → IsTreeOf before t → HasTreeWithin after (worth before t)

-- the same of any steps, one after another
abbrev pub StepsLiftBack : Type 0
StepsLiftBack = (steps : List Step) (first last : State) (t : Tree) → IsState first → Applies steps first last → IsTreeOf last t → HasTreeOf first (worth last t)

abbrev pub StepsKeepTheLeast : Type 0
StepsKeepTheLeast = (steps : List Step) (first last : State) (t : Tree) → IsState first → Applies steps first last → IsTreeOf first t → HasTreeWithin last (worth first t)
