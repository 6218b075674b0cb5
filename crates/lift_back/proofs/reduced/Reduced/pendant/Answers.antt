use Rattle.std.proofs.Common.{sym, subst}
use Rattle.lift_back.specs.Keeping.{state_of}
use Rattle.lift_back.specs.Reduction.{Reduction}
use Rattle.lift_back.specs.Steps.{IsPendant}
use Rattle.lift_back.proofs.Leading.{lead_as_is}
use Rattle.lift_back.proofs.Returning.{pendant_keeps}
use Rattle.lift_back.proofs.reduced.Reduced.pendant.Goals as goal

pub returns-then-not-pendant-clause-fault : goal.returns-then-not-pendant-clause-fault
returns-then-not-pendant-clause-fault c error may = c.if-not-pendant.ensures.refused (subst (λ (r : Reduction). IsPendant r.state c.args.vertex) (sym c.self.view_is) may)

pub invariant_of-self-2 : goal.invariant_of-self-2
invariant_of-self-2 c = (c.pendant.ensures.kept, lead_as_is c.self.inside.first c.self.inside.undos.items (state_of c.self.inside.rest) (state_of c.pendant.new.self) c.self.invariant.1 (pendant_keeps (state_of c.self.inside.rest) (state_of c.pendant.new.self) c.args.vertex c.if-not-pendant.ensures.taken))
