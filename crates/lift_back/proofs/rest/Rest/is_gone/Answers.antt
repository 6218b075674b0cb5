use Rattle.std.proofs.Common.{sym, ap, ◌∙◌, not}
use Rattle.lift_back.proofs.KeptAfter.{has_absent}
use Rattle.lift_back.proofs.rest.Rest.is_gone.Goals as goal

pub returns : goal.returns
returns c = ap not c.is_present.ensures ∙ sym (has_absent c.args.self.now.store c.args.vertex c.requires)
