use Rattle.std.proofs.Common.{refl, arith, ap, sym, subst, ◌∙◌, ◌-◌, ◌+◌, ℕ}
use Rattle.st_model.specs.Network.{IsVertex}
use Rattle.graph_store.specs.Graph.{Graph}
use Rattle.lift_back.specs.declared.rest.Rest.{Rest}
use Rattle.lift_back.specs.Keeping.{state_of}
use Rattle.lift_back.proofs.Idle.{one_left}
use Rattle.lift_back.proofs.Forcing.{Hands, forces_by, forced_neighbour, forced_present, leaves_forced, takes_forced}
use Rattle.lift_back.proofs.KeptAfter.{kept_without}
use Rattle.lift_back.proofs.rest.Rest.take_forced.Goals as goal

pub required_without-required-requires-clause-other : goal.required_without-required-requires-clause-other
required_without-required-requires-clause-other c = (forced_neighbour (state_of c.args.self.now) c.args.vertex c.args.neighbour c.args.cost c.requires.kept.state c.requires.forced).2

pub remove_leaf-requires-clause-neighbour : goal.remove_leaf-requires-clause-neighbour
remove_leaf-requires-clause-neighbour c = (forced_neighbour (state_of c.args.self.now) c.args.vertex c.args.neighbour c.args.cost c.requires.kept.state c.requires.forced).2

pub set_need-requires-2-clause-vertex : goal.set_need-requires-2-clause-vertex
set_need-requires-2-clause-vertex c = subst (λ (n : ℕ). IsVertex n c.args.neighbour) (sym (ap (λ (g : Graph). g.network.n) c.set_need.ensures.need ∙ c.remove_leaf.ensures.removes.count)) (forced_neighbour (state_of c.args.self.now) c.args.vertex c.args.neighbour c.args.cost c.requires.kept.state c.requires.forced).2

pub overflow_sub-self : goal.overflow_sub-self
overflow_sub-self c = one_left c.args.self.now c.args.vertex c.requires.kept c.requires.forced.vertex (forced_present (state_of c.args.self.now) c.args.vertex c.args.neighbour c.args.cost c.requires.kept.state c.requires.forced)

pub returns-clause-kept : goal.returns-clause-kept
returns-clause-kept c =
    let old = c.args.self.now in
    let new : Rest = record { store = c.set_need-2.new.self; left = old.left - 1; required = c.required_without-required.result; offset = old.offset + c.args.cost } in
    let some = one_left old c.args.vertex c.requires.kept c.requires.forced.vertex (forced_present (state_of old) c.args.vertex c.args.neighbour c.args.cost c.requires.kept.state c.requires.forced) in
    let hands : Hands old new c.remove_leaf.new.store c.set_need.new.self c.args.vertex c.args.neighbour c.args.cost = record { removes = c.remove_leaf.ensures.removes; removed_amount = c.remove_leaf.ensures.amount; frees = c.set_need.ensures.need; freed_amount = c.set_need.ensures.amount; needs = c.set_need-2.ensures.need; needs_amount = c.set_need-2.ensures.amount; graph = c.set_need-2.ensures.graph; left = omega arith; required = c.required_without-required.ensures; offset = refl } in
    let forces = forces_by old new c.remove_leaf.new.store c.set_need.new.self c.args.vertex c.args.neighbour c.args.cost c.requires.forced hands in
    kept_without old new c.args.vertex c.requires.kept (leaves_forced old new c.args.vertex c.args.neighbour c.args.cost c.requires.kept c.requires.forced forces)

pub returns-clause-taken : goal.returns-clause-taken
returns-clause-taken c =
    let old = c.args.self.now in
    let new : Rest = record { store = c.set_need-2.new.self; left = old.left - 1; required = c.required_without-required.result; offset = old.offset + c.args.cost } in
    let some = one_left old c.args.vertex c.requires.kept c.requires.forced.vertex (forced_present (state_of old) c.args.vertex c.args.neighbour c.args.cost c.requires.kept.state c.requires.forced) in
    let hands : Hands old new c.remove_leaf.new.store c.set_need.new.self c.args.vertex c.args.neighbour c.args.cost = record { removes = c.remove_leaf.ensures.removes; removed_amount = c.remove_leaf.ensures.amount; frees = c.set_need.ensures.need; freed_amount = c.set_need.ensures.amount; needs = c.set_need-2.ensures.need; needs_amount = c.set_need-2.ensures.amount; graph = c.set_need-2.ensures.graph; left = omega arith; required = c.required_without-required.ensures; offset = refl } in
    let forces = forces_by old new c.remove_leaf.new.store c.set_need.new.self c.args.vertex c.args.neighbour c.args.cost c.requires.forced hands in
    takes_forced old new c.args.vertex c.args.neighbour c.args.cost c.requires.kept c.requires.forced forces
