use Rattle.std.proofs.Common.{sym, subst, ap, List}
use Rattle.lift_back.specs.declared.undo.Undo.{Undo}
use Rattle.lift_back.specs.Keeping.{state_of}
use Rattle.lift_back.specs.Reduction.{Reduction}
use Rattle.lift_back.specs.State.{State}
use Rattle.lift_back.specs.Steps.{TakesForced}
use Rattle.lift_back.specs.Undoing.{LeadBack}
use Rattle.lift_back.proofs.Leading.{lead_forced}
use Rattle.lift_back.proofs.reduced.Reduced.forced.Goals as goal

pub invariant_of-self-2 : goal.invariant_of-self-2
invariant_of-self-2 c = (
  c.take_forced.ensures.kept,
  subst (λ (l : List Undo). LeadBack c.self.inside.first l (state_of c.take_forced.new.self)) (sym c.in_ok-push_undo.ensures.ok)
      (lead_forced c.self.inside.first c.self.inside.undos.items (state_of c.self.inside.rest) (state_of c.take_forced.new.self) c.args.vertex c.in-Some.neighbour c.in-Some.cost c.self.invariant.0.state c.self.invariant.1 c.take_forced.ensures.taken),
)

pub returns-clause-ok : goal.returns-clause-ok
returns-clause-ok c = (c.in-Some.neighbour, c.in-Some.cost, subst (λ (s : State). TakesForced s (state_of c.take_forced.new.self) c.args.vertex c.in-Some.neighbour c.in-Some.cost) (ap (λ (r : Reduction). r.state) c.self.view_is) c.take_forced.ensures.taken)
