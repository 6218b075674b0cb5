use Rattle.std.proofs.Common.{sym, ap, ◌∙◌, option_map}
use Rattle.graph_store.specs.declared.joints.Joint.{Joint}
use Rattle.graph_store.proofs.Keeping.{one_each}
use Rattle.graph_store.proofs.LinkLemmas.{link-joint}
use Rattle.graph_store.proofs.links.Links.cost.Goals as goal

pub returns-in_err-joint_between-clause-cost : goal.returns-in_err-joint_between-clause-cost
returns-in_err-joint_between-clause-cost c = rw (← c.self.view_is, c.from_residual.ensures) (sym (link-joint c.self.inside.joints.entries c.args.a c.args.b c.self.invariant.pairs.ordered ∙ ap (option_map (λ (joint : Joint). joint.cost)) (sym c.in_err-joint_between.ensures)))

pub returns-clause-cost : goal.returns-clause-cost
returns-clause-cost c = rw (← c.self.view_is) (sym (link-joint c.self.inside.joints.entries c.args.a c.args.b c.self.invariant.pairs.ordered ∙ ap (option_map (λ (joint : Joint). joint.cost)) (sym c.in_ok-joint_between.ensures)))

pub returns-in_err-joint_between-clause-once : goal.returns-in_err-joint_between-clause-once
returns-in_err-joint_between-clause-once c = rw (← c.self.view_is) (one_each c.self.inside.joints.entries c.self.invariant.pairs)

pub returns-clause-once : goal.returns-clause-once
returns-clause-once c = rw (← c.self.view_is) (one_each c.self.inside.joints.entries c.self.invariant.pairs)
