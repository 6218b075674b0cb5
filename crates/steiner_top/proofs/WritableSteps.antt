-- Steps that apply to an instance can be written.
use Rattle.std.proofs.Common.{◌≢◌, ℕ, ◌≤◌, List, [], ◌∷◌, ◌++◌, length, refl, arith}
use Rattle.std.specs.Prelude.{All, IsSome}
use Rattle.std.specs.List.{AllByRecursion}
use Rattle.std.proofs.lemmas.List.Elements.{recursion_from_All, All-from_recursion}
use Rattle.st_model.specs.Network.{Network, IsInstance, link}
use Rattle.st_model.proofs.ThinGrowth.{linked-vertices}
use Rattle.lift_back.specs.declared.step.Step.{Step}
use Rattle.lift_back.specs.declared.step.Step.TheVariants.{Pendant, Through, Forced, Detour}
use Rattle.lift_back.specs.Detours.{walk}
use Rattle.lift_back.specs.State.{State, IsState, whole}
use Rattle.lift_back.specs.Steps.{Applies, Takes}
use Rattle.lift_back.proofs.Beginning.{whole_state}
use Rattle.log_format.specs.Text.{IsAnyVertex, IsWritableStep}
use Rattle.log_format.proofs.Writable.{any_vertex}
use Rattle.steiner_top.specs.Left.{CanBeCounted}

-- a walk over links is one over vertices
inner_vertices : (I : Network) (v b : ℕ) (inner : List ℕ) → IsInstance I → AllByRecursion (λ (step : ℕ × ℕ). IsSome (link I.links step.0 step.1)) (walk v (inner ++ b ∷ [])) → AllByRecursion IsAnyVertex inner
inner_vertices I v b [] instance linked = tt
inner_vertices I v b (w ∷ ws) instance linked = (any_vertex I w instance (linked-vertices I v w instance linked.0).1, inner_vertices I w b ws instance linked.1)

some_inner : (inner : List ℕ) → inner ≢ [] → 1 ≤ length inner
some_inner [] some = absurd (some refl)
some_inner (w ∷ ws) some = omega arith

-- a step that is taken can be written, where its vertices can be counted
step_is_writable : (step : Step) (before after : State) → IsState before → Takes step before after → CanBeCounted step → IsWritableStep step
step_is_writable (Pendant v) before after is takes counted = any_vertex before.instance v is.instance takes.allowed.idle.vertex
step_is_writable (Through v) before after is (a, b, x, y, takes) counted = any_vertex before.instance v is.instance takes.allowed.idle.vertex
step_is_writable (Forced v) before after is (u, c, takes) counted = any_vertex before.instance v is.instance takes.allowed.vertex
step_is_writable (Detour a b inner) before after is takes counted =
    let I = before.instance in
    let ends = linked-vertices I a b is.instance takes.allowed.linked in
    let linked = recursion_from_All (λ (step : ℕ × ℕ). IsSome (link I.links step.0 step.1)) (walk a (inner ++ b ∷ [])) takes.allowed.links in (
      any_vertex I a is.instance ends.0,
      any_vertex I b is.instance ends.1,
      record { some = some_inner inner takes.allowed.some; few = counted; vertices = All-from_recursion IsAnyVertex inner (inner_vertices I a b inner is.instance linked) },
    )

each_is_writable : (steps : List Step) (first last : State) → IsState first → Applies steps first last → AllByRecursion CanBeCounted steps → AllByRecursion IsWritableStep steps
each_is_writable [] first last is same counted = tt
each_is_writable (step ∷ steps) first last is (next, next_is, here, later) counted =
    (step_is_writable step first next is here counted.0, each_is_writable steps next last next_is later counted.1)

-- and so can steps one after another
pub steps_are_writable : (I : Network) (steps : List Step) (left : State) → IsInstance I → Applies steps (whole I) left → All CanBeCounted steps → All IsWritableStep steps
steps_are_writable I steps left instance applies counted =
    All-from_recursion IsWritableStep steps (each_is_writable steps (whole I) left (whole_state I instance) applies (recursion_from_All CanBeCounted steps counted))
