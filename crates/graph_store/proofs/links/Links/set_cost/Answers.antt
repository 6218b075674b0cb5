use Rattle.std.proofs.Common.{rules, ap, sym, ◌∙◌, arith, option_map}
use Rattle.std.proofs.lemmas.Option.{slice_get_within}
use Rattle.graph_store.specs.declared.joints.Joint.{Joint}
use Rattle.graph_store.specs.Joined.{halves_at, links_of}
use Rattle.graph_store.proofs.Costs.{set_cost-entry, set_cost-none}
use Rattle.graph_store.proofs.JointLemmas.{joint_of-ordered}
use Rattle.graph_store.proofs.Keeping.{one_each}
use Rattle.graph_store.proofs.LinkLemmas.{IsTold, is_told, link-joint}
use Rattle.graph_store.proofs.Joining.{cheapened}
use Rattle.graph_store.proofs.links.Links.set_cost.Goals as goal

pub put_half_cost-requires-clause-place : goal.put_half_cost-requires-clause-place
put_half_cost-requires-clause-place c =
    let joint = c.in-Some.joint in
    let known : IsTold c.self.inside.joints.entries c.args.low c.args.high joint = is_told c.self.inside.joints.entries c.args.low c.args.high c.args.low c.args.high joint c.self.invariant.pairs.ordered (omega arith) (omega arith) (sym c.in-Some.ensures) in
    slice_get_within _ joint.low _ ((c.self.invariant.halves c.args.low).found c.args.high joint.low joint.cost known.low_place)

pub put_half_cost-requires-in-Some-clause-place : goal.put_half_cost-requires-in-Some-clause-place
put_half_cost-requires-in-Some-clause-place c =
    let joint = c.in-Some.joint in
    let known : IsTold c.self.inside.joints.entries c.args.low c.args.high joint = is_told c.self.inside.joints.entries c.args.low c.args.high c.args.low c.args.high joint c.self.invariant.pairs.ordered (omega arith) (omega arith) (sym c.in-Some.ensures) in
    let same = c.put_half_cost.ensures.others c.args.high (λ e. (let before = c.requires.ordered in omega arith)) in
    rw same (slice_get_within _ joint.high _ ((c.self.invariant.halves c.args.high).found c.args.low joint.high joint.cost known.high_place))

pub invariant_of-self : goal.invariant_of-self
invariant_of-self c = record {
  long = (search rules);
  pairs = c.put_cost.ensures.pairs;
  halves =
      let joint = c.in-Some.joint in
      let known : IsTold c.self.inside.joints.entries c.args.low c.args.high joint = is_told c.self.inside.joints.entries c.args.low c.args.high c.args.low c.args.high joint c.self.invariant.pairs.ordered (omega arith) (omega arith) (sym c.in-Some.ensures) in
      let at = sym (joint_of-ordered c.args.low c.args.high c.self.inside.joints.entries c.requires.ordered) ∙ sym c.in-Some.ensures in
      cheapened c.self.inside.joints.entries c.put_cost.new.joints.entries c.args.low c.args.high c.requires.ordered (halves_at c.self.inside.lists.items) c.self.invariant.halves joint c.args.cost (halves_at c.put_half_cost.new.lists.items) (halves_at c.put_half_cost-in-Some.new.lists.items) at c.put_cost.ensures.entries known c.put_half_cost.ensures.here c.put_half_cost.ensures.others c.put_half_cost-in-Some.ensures.here c.put_half_cost-in-Some.ensures.others;
}

pub returns-in-Some-clause-cost : goal.returns-in-Some-clause-cost
returns-in-Some-clause-cost c =
    let joint = c.in-Some.joint in
    let new = ap links_of c.put_cost.ensures.entries ∙ set_cost-entry c.self.inside.joints.entries c.args.low c.args.high (record { cost = c.args.cost; low = joint.low; high = joint.high }) c.requires.ordered c.self.invariant.pairs.ordered in
    rw (← c.self.view_is) (λ j. record { n = c.self.inside.vertices; links = new j })

pub returns-in-Some-clause-once : goal.returns-in-Some-clause-once
returns-in-Some-clause-once c = one_each c.put_cost.new.joints.entries c.put_cost.ensures.pairs

pub returns-in_default-clause-cost : goal.returns-in_default-clause-cost
returns-in_default-clause-cost c =
    let none = link-joint c.self.inside.joints.entries c.args.low c.args.high c.self.invariant.pairs.ordered ∙ ap (option_map (λ (joint : Joint). joint.cost)) (sym c.joint_between.ensures ∙ c.in_default.is) in
    rw (← c.self.view_is) (λ j. record { n = c.self.inside.vertices; links = sym (set_cost-none (links_of c.self.inside.joints.entries) c.args.low c.args.high c.args.cost none) j })

pub returns-in_default-clause-once : goal.returns-in_default-clause-once
returns-in_default-clause-once c = rw (← c.self.view_is) (one_each c.self.inside.joints.entries c.self.invariant.pairs)
