use Rattle.lift_back.specs.Keeping.{state_of}
use Rattle.lift_back.proofs.Leading.{lead_as_is}
use Rattle.lift_back.proofs.Returning.{detour_keeps}
use Rattle.lift_back.proofs.reduced.Reduced.detour.Goals as goal

pub invariant_of-self-2 : goal.invariant_of-self-2
invariant_of-self-2 c = (c.detour.ensures.kept, lead_as_is c.self.inside.first c.self.inside.undos.items (state_of c.self.inside.rest) (state_of c.detour.new.self) c.self.invariant.1 (detour_keeps (state_of c.self.inside.rest) (state_of c.detour.new.self) c.args.a c.args.b c.args.inner.now c.if-not-detour.ensures.taken))
