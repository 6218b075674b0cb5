use Rattle.std.proofs.Common.{sym, ap, ◌∙◌, is_some}
use Rattle.st_model.proofs.ThinGrowth.{linked-vertices}
use Rattle.lift_back.proofs.rest.Rest.paid_along.Goals as goal

pub is_needed-requires : goal.is_needed-requires
is_needed-requires c = (linked-vertices c.args.self.now.store.network c.args.from c.args.to c.requires.kept.state.instance (ap is_some (sym c.link_cost.ensures ∙ c.in_ok-cost.was))).1
