use Rattle.std.proofs.Common.{sym, subst, ap, List}
use Rattle.lift_back.specs.declared.undo.Undo.{Undo}
use Rattle.lift_back.specs.Keeping.{state_of}
use Rattle.lift_back.specs.Reduction.{Reduction}
use Rattle.lift_back.specs.State.{State}
use Rattle.lift_back.specs.Steps.{TakesThrough}
use Rattle.lift_back.specs.Undoing.{LeadBack}
use Rattle.lift_back.proofs.Leading.{lead_through}
use Rattle.lift_back.proofs.reduced.Reduced.through.Goals as goal

pub invariant_of-self-in-Ok : goal.invariant_of-self-in-Ok
invariant_of-self-in-Ok c = (
  c.take_through.ensures.kept,
  subst (λ (l : List Undo). LeadBack c.self.inside.first l (state_of c.take_through.new.self)) (sym c.in_ok-push_undo.ensures.ok)
      (lead_through c.self.inside.first c.self.inside.undos.items c.undo_through-undo.result (state_of c.self.inside.rest) (state_of c.take_through.new.self) c.args.vertex c.in-Some.a c.in-Some.b c.in-Some.first c.in-Some.second c.self.invariant.0.state c.self.invariant.1 c.in-Ok.ensures.ok c.undo_through-undo.ensures),
)

pub returns-in-Ok-clause-ok : goal.returns-in-Ok-clause-ok
returns-in-Ok-clause-ok c = (c.in-Some.a, c.in-Some.b, c.in-Some.first, c.in-Some.second, subst (λ (s : State). TakesThrough s (state_of c.take_through.new.self) c.args.vertex c.in-Some.a c.in-Some.b c.in-Some.first c.in-Some.second) (ap (λ (r : Reduction). r.state) c.self.view_is) c.in-Ok.ensures.ok)
