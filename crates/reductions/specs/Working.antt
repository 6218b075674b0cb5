-- An instance under reduction, with the steps so far and the vertices at which steps are to be tried.
use Rattle.std.specs.Prelude.{◌≡◌, ℕ, ◌+◌, ◌*◌, ◌<◌, Bool, IsFalse, List, [], ◌∷◌, ◌++◌, All, length, Option, None}
use Rattle.std.specs.Bool.{OnTrue, OnFalse}
use Rattle.st_model.specs.declared.link.Link.{Link}
use Rattle.st_model.specs.Lists.{has}
use Rattle.st_model.specs.Network.{IsVertex}
use Rattle.lift_back.specs.declared.step.Step.{Step}
use Rattle.lift_back.specs.declared.step.Step.TheVariants.{Pendant, Through, Forced, Detour}
use Rattle.lift_back.specs.declared.ends.Ends.{Ends}
use Rattle.lift_back.specs.declared.ends.Ends.TheVariants.{Nobody, One, Two, More}
use Rattle.lift_back.specs.Ends.{HasEnds}
use Rattle.lift_back.specs.State.{IsState, whole}
use Rattle.lift_back.specs.Steps.{Applies, Takes}
use Rattle.special_dist.specs.Answers.{HasNoDetour}
use Rattle.reductions.specs.declared.work.Work.{Work}
use Rattle.reductions.specs.Results.{HasNoStepAt}
use Rattle.reductions.specs.Sizes.{size}

-- what holds where steps are to be tried at these vertices alone
pub record IsWork (w : Work) (queued : List ℕ) : Type 0 where
  pub count : w.reduced.state.instance.n ≡ w.reduced.first.n
  pub applies : Applies w.steps.items (whole w.reduced.first) w.reduced.state
  pub state : IsState w.reduced.state
  pub vertices : All (IsVertex w.reduced.state.instance.n) queued
  pub tried : (v : ℕ) → IsFalse (has queued v) → HasNoStepAt w.reduced.state v

-- and where nobody is left to be tried
pub record IsSettled (w : Work) : Type 0 where
  pub work : IsWork w w.queue.items
  pub done : w.queue.items ≡ []

-- the step makes v go
abbrev pub IsOf : ℕ → Step → Type 0
IsOf v (Pendant w) = w ≡ v
IsOf v (Through w) = w ≡ v
IsOf v (Forced w) = w ≡ v
IsOf v (Detour a b inner) = ⊥

-- where the links lead, if they are two at most
abbrev pub row_of : Ends → List ℕ
row_of Nobody = []
row_of (One u) = u ∷ []
row_of (Two a b) = a ∷ b ∷ []
row_of More = []

-- a step was taken, and noted
pub record TookStep (old new : Work) (step : Step) : Type 0 where
  pub takes : Takes step old.reduced.state new.reduced.state
  pub noted : new.steps.items ≡ old.steps.items ++ step ∷ []

-- v went by a step
pub record Went (old new : Work) (v : ℕ) : Type 0 where
  pub step : Step
  pub of : IsOf v step
  pub took : TookStep old new step

-- v went by a step, and these were the ends of its links
pub record HasGone (old new : Work) (v : ℕ) (ends : Ends) : Type 0 where
  pub went : Went old new v
  pub state : IsState new.reduced.state
  pub led : HasEnds old.reduced.state.instance.links v ends

-- how much is still to be done
abbrev pub load : Work → ℕ
load w = 3 * size w.reduced.state + length w.queue.items

-- these links were tried: where none was dropped nothing has changed, and where no search may give up none of them has a detour
pub record HasTried (old new : Work) (any : Bool) (most : Option ℕ) (links : List Link) : Type 0 where
  pub some : OnTrue any (size new.reduced.state < size old.reduced.state)
  pub none : OnFalse any ((new ≡ old) × (most ≡ None → All (λ l. HasNoDetour old.reduced.state.instance l.a l.b) links))
