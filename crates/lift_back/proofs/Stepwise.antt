-- The laws of one step, and of steps one after another.
use Rattle.std.proofs.Common.{◌≡◌, ℕ, ◌+◌, ◌≤◌, min, [], ◌∷◌, inl, inr, ◌⊎◌, refl, sym, ◌∙◌, subst, arith}
use Rattle.std.specs.Prelude.{Option, Some, None, unwrap_or}
use Rattle.std.proofs.lemmas.Bool.{cases_lt}
use Rattle.st_model.specs.declared.tree.Tree.{Tree}
use Rattle.st_model.specs.Network.{link}
use Rattle.lift_back.specs.declared.step.Step.TheVariants.{Pendant, Through, Forced, Detour}
use Rattle.lift_back.specs.State.{State, worth}
use Rattle.lift_back.specs.Steps.{least}
use Rattle.lift_back.specs.Laws.{HasTreeOf, HasTreeWithin, EachStepLiftsBack, EachStepKeepsTheLeast, StepsLiftBack, StepsKeepTheLeast}
use Rattle.lift_back.proofs.PendantTrees.{pendant_keeps_the_least}
use Rattle.lift_back.proofs.ThroughTrees.{through_keeps_the_least}
use Rattle.lift_back.proofs.ForcedTrees.{forced_keeps_the_least}
use Rattle.lift_back.proofs.DetourTrees.{detour_keeps_the_least}
use Rattle.lift_back.proofs.Returning.{LeadsBack, leads_back_as_is, pendant_keeps, detour_keeps, through_keeps}
use Rattle.lift_back.proofs.ForcedBack.{with_leaf, forced_leads_back}
use Rattle.lift_back.proofs.ThroughBack.{tree_past, through_leads_back}

-- a tree that leads back is one of the same worth
led : (before after : State) (t old : Tree) → LeadsBack before after t old → HasTreeOf before (worth after t)
led before after t old back = (old, back.tree, back.worth)

-- the new link is the two links of v, or the old link was there for no more
pub new_or_old : (s : State) (a b sum : ℕ) → (least s a b sum ≡ sum) ⊎ ((cost : ℕ) × (link s.instance.links a b ≡ Some cost) × (cost ≤ sum))
new_or_old s a b sum = by_link (link s.instance.links a b) refl
  where
    by_link : (o : Option ℕ) → link s.instance.links a b ≡ o → (min sum (unwrap_or o sum) ≡ sum) ⊎ ((cost : ℕ) × (link s.instance.links a b ≡ Some cost) × (cost ≤ sum))
    by_link None is = inl (omega arith)
    by_link (Some cost) is = elim (cases_lt sum cost) [
      | inl less ↦ inl (omega arith)
      | inr more ↦ inr (cost, is, more)
    ]

pub each_step_lifts_back : EachStepLiftsBack
each_step_lifts_back (Pendant v) before after t state step tree = led before after t t (leads_back_as_is before after t (pendant_keeps before after v step) tree)
each_step_lifts_back (Through v) before after t state (a, b, x, y, step) tree = elim (new_or_old before a b (x + y)) [
  | inl cheaper ↦ led before after t (tree_past t v a b) (through_leads_back before after t v a b x y state step cheaper tree)
  | inr old ↦ let (cost, is, cheap) = old in led before after t t (leads_back_as_is before after t (through_keeps before after v a b x y cost step is cheap) tree)
]
each_step_lifts_back (Forced v) before after t state (u, c, step) tree = led before after t (with_leaf t u v) (forced_leads_back before after t v u c state step tree)
each_step_lifts_back (Detour a b inner) before after t state step tree = led before after t t (leads_back_as_is before after t (detour_keeps before after a b inner step) tree)

pub each_step_keeps_the_least : EachStepKeepsTheLeast
each_step_keeps_the_least (Pendant v) before after t state step tree = pendant_keeps_the_least before after t v state step tree
each_step_keeps_the_least (Through v) before after t state (a, b, x, y, step) tree = through_keeps_the_least before after t v a b x y state step tree
each_step_keeps_the_least (Forced v) before after t state (u, c, step) tree = forced_keeps_the_least before after t v u c state step tree
each_step_keeps_the_least (Detour a b inner) before after t state step tree = detour_keeps_the_least before after t a b inner state step tree

pub steps_lift_back : StepsLiftBack
steps_lift_back [] first last t state same tree = subst (λ (s : State). HasTreeOf s (worth last t)) (sym same) (t, tree, refl)
steps_lift_back (step ∷ steps) first last t state (next, next_state, here, later) tree =
    let (middle, is, worth_is) = steps_lift_back steps next last t next_state later tree in
    let (old, old_is, old_worth) = each_step_lifts_back step first next middle state here is in
    (old, old_is, old_worth ∙ worth_is)

pub steps_keep_the_least : StepsKeepTheLeast
steps_keep_the_least [] first last t state same tree = subst (λ (s : State). HasTreeWithin s (worth first t)) same (t, tree, omega arith)
steps_keep_the_least (step ∷ steps) first last t state (next, next_state, here, later) tree =
    let (middle, is, less) = each_step_keeps_the_least step first next t state here tree in
    let (new, new_is, still_less) = steps_keep_the_least steps next last middle next_state later is in
    (new, new_is, omega arith)
