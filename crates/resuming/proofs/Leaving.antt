-- Steps that lead from an instance to some state lead to each state that differs in the order of its links alone, and to no other one.
use Rattle.std.proofs.Common.{◌≡◌, ℕ, suc, ◌+◌, ◌-◌, ◌<◌, List, [], ◌∷◌, ◌++◌, length, take, drop, refl, sym, ap, ◌∙◌, subst, slice_index_or, arith}
use Rattle.std.proofs.Math.Seq.{drop-cons, take-suc}
use Rattle.st_model.specs.Network.{Network}
use Rattle.cut_packing.specs.ProofTree.{Proves}
use Rattle.lift_back.specs.declared.step.Step.{Step}
use Rattle.lift_back.specs.State.{State, IsState, whole}
use Rattle.lift_back.specs.Steps.{Applies, MayTake, Takes}
use Rattle.log_format.specs.declared.proof_line.ProofLine.{ProofLine}
use Rattle.log_format.specs.Accepts.{ProvesFrom, left_of, left_over}
use Rattle.log_format.proofs.Alike.{AreAlike, alike-refl, may_take_alike, proves_alike, takes_alike, takes_may}
use Rattle.st_model.specs.Branch.{avoiding}

-- steps that lead from a state to some state, as it is seen from another one that is alike
pub record IsToCome (steps : List Step) (s : State) : Type 0 where
  pub other : State
  pub last : State
  pub alike : AreAlike other s
  pub applies : Applies steps other last

pub nothing_taken : (steps : List Step) (s last : State) → Applies steps s last → IsToCome steps s
nothing_taken steps s last applies = record { other = s; last = last; alike = alike-refl s; applies = applies }

-- the next step may be taken
pub may_take : (step : Step) (steps : List Step) (s : State) → IsToCome (step ∷ steps) s → MayTake step s
may_take step steps s come =
    let (next, next_is, here, later) = come.applies in
    may_take_alike step come.other s come.alike (takes_may step come.other next here)

-- and once it was, the others are to come
pub step_taken : (step : Step) (steps : List Step) (s t : State) → IsToCome (step ∷ steps) s → IsState t → Takes step s t → IsToCome steps t
step_taken step steps s t come t_is takes =
    let (next, next_is, here, later) = come.applies in
    record { other = next; last = come.last; alike = takes_alike step come.other s next t come.alike next_is t_is here takes; applies = later }

-- one step more
pub applies_more : (steps : List Step) (step : Step) (first s t : State) → Applies steps first s → IsState t → Takes step s t → Applies (steps ++ step ∷ []) first t
applies_more [] step first s t same t_is takes = (t, t_is, subst (λ (u : State). Takes step u t) (sym same) takes, refl)
applies_more (other ∷ steps) step first s t (next, next_is, here, later) t_is takes = (next, next_is, here, applies_more steps step next s t later t_is takes)

-- ---- in a loop over steps

-- the steps from a place on are the one there and those after it
pub step_at : (steps : List Step) (k : ℕ) (step : Step) → k < length steps → step ≡ slice_index_or steps k step → drop k steps ≡ step ∷ drop (k + 1) steps
step_at steps k step within is =
    let next : k + 1 ≡ suc k = omega arith in
    rw next (drop-cons steps k step within ∙ ap (λ (s : Step). s ∷ drop (suc k) steps) (sym is))

pub may_take_at : (steps : List Step) (k : ℕ) (step : Step) (s : State) → k < length steps → step ≡ slice_index_or steps k step → IsToCome (drop k steps) s → MayTake step s
may_take_at steps k step s within is come = may_take step (drop (k + 1) steps) s (subst (λ (xs : List Step). IsToCome xs s) (step_at steps k step within is) come)

pub come_more : (steps : List Step) (k : ℕ) (step : Step) (s t : State) → k < length steps → step ≡ slice_index_or steps k step → IsToCome (drop k steps) s → IsState t → Takes step s t → IsToCome (drop (k + 1) steps) t
come_more steps k step s t within is come t_is takes = step_taken step (drop (k + 1) steps) s t (subst (λ (xs : List Step). IsToCome xs s) (step_at steps k step within is) come) t_is takes

pub taken_more : (steps : List Step) (k : ℕ) (step : Step) (first s t : State) → k < length steps → step ≡ slice_index_or steps k step → Applies (take k steps) first s → IsState t → Takes step s t → Applies (take (k + 1) steps) first t
taken_more steps k step first s t within is applies t_is takes =
    let next : k + 1 ≡ suc k = omega arith in
    let cut : take (k + 1) steps ≡ take k steps ++ step ∷ [] = rw next (take-suc steps k step within ∙ ap (λ (x : Step). take k steps ++ x ∷ []) (sym is)) in
    subst (λ (xs : List Step). Applies xs first t) (sym cut) (applies_more (take k steps) step first s t applies t_is takes)

-- ---- two states to which the same steps lead

applies_alike : (steps : List Step) (s t s' t' : State) → AreAlike s t → Applies steps s s' → Applies steps t t' → AreAlike s' t'
applies_alike [] s t s' t' alike one other = subst (λ (u : State). AreAlike u t') one (subst (AreAlike s) other alike)
applies_alike (step ∷ steps) s t s' t' alike (next, next_is, here, later) (other, other_is, there, rest) =
    applies_alike steps next other s' t' (takes_alike step s t next other alike next_is other_is here there) later rest

-- what is proved of one is proved of the other
pub proved_of_both : (I : Network) (steps : List Step) (s t : State) (x : ℕ) (lines : List ProofLine) → Applies steps (whole I) s → Applies steps (whole I) t → ProvesFrom s x lines → ProvesFrom t x lines
proved_of_both I steps s t x lines one other (p, written, proves) =
    let alike = applies_alike steps (whole I) (whole I) s t (alike-refl (whole I)) one other in
    let moved = proves_alike s.instance t.instance alike.instance (left_over s) (left_of x s) p proves in
    let there = subst (λ (gone : List ℕ). Proves t.instance (avoiding gone) (left_of x s) p) alike.gone moved in
    (p, written, subst (λ (y : ℕ). Proves t.instance (left_over t) y p) (ap (λ (offset : ℕ). x - offset) alike.offset) there)
