use Rattle.std.proofs.Common.{refl, arith, ap, sym, subst, is_some, ◌-◌, ◌+◌}
use Rattle.st_model.specs.Network.{IsVertex}
use Rattle.st_model.proofs.ThinGrowth.{linked-vertices}
use Rattle.graph_store.specs.Graph.{Graph}
use Rattle.graph_store.proofs.PutLinks.{total-put_link}
use Rattle.lift_back.specs.declared.rest.Rest.{Rest}
use Rattle.lift_back.specs.Keeping.{state_of}
use Rattle.lift_back.specs.Steps.{links_past}
use Rattle.lift_back.proofs.Idle.{leaves_idle, becomes_idle, one_left}
use Rattle.lift_back.proofs.Joining.{Passes, cost_fits, free_link, passes_idle, passes_links, two_fit}
use Rattle.lift_back.proofs.KeptAfter.{kept_without, present_in}
use Rattle.lift_back.proofs.ThroughTrees.{neighbour_stays}
use Rattle.lift_back.proofs.rest.Rest.take_through.Goals as goal

pub overflow_add-first : goal.overflow_add-first
overflow_add-first c =
    let both = two_fit c.args.self.now.store.network.links c.args.vertex c.args.a c.args.b c.args.first c.args.second c.requires.through.different c.requires.through.first c.requires.through.second in
    let all = c.requires.kept.state.amount in
    omega arith

pub put_link-requires-clause-a : goal.put_link-requires-clause-a
put_link-requires-clause-a c =
    let linked = ap is_some c.requires.through.first in
    present_in c.args.self.now.store c.args.a (linked-vertices c.args.self.now.store.network c.args.vertex c.args.a c.requires.kept.state.instance linked).1 (neighbour_stays (state_of c.args.self.now) c.args.vertex c.args.a c.requires.kept.state linked).1

pub put_link-requires-clause-b : goal.put_link-requires-clause-b
put_link-requires-clause-b c =
    let linked = ap is_some c.requires.through.second in
    present_in c.args.self.now.store c.args.b (linked-vertices c.args.self.now.store.network c.args.vertex c.args.b c.requires.kept.state.instance linked).1 (neighbour_stays (state_of c.args.self.now) c.args.vertex c.args.b c.requires.kept.state linked).1

pub put_link-requires-clause-amount : goal.put_link-requires-clause-amount
put_link-requires-clause-amount c =
    let more = total-put_link c.args.self.now.store.network.links (record { a = c.args.a; b = c.args.b; cost = 0 }) in
    let all = c.requires.kept.state.amount in
    omega arith

pub remove_middle-requires-clause-a : goal.remove_middle-requires-clause-a
remove_middle-requires-clause-a c = subst (λ (g : Graph). IsVertex g.network.n c.args.a) (sym c.in_ok-put_link.ensures.ok) (linked-vertices c.args.self.now.store.network c.args.vertex c.args.a c.requires.kept.state.instance (ap is_some c.requires.through.first)).1

pub remove_middle-requires-clause-b : goal.remove_middle-requires-clause-b
remove_middle-requires-clause-b c = subst (λ (g : Graph). IsVertex g.network.n c.args.b) (sym c.in_ok-put_link.ensures.ok) (linked-vertices c.args.self.now.store.network c.args.vertex c.args.b c.requires.kept.state.instance (ap is_some c.requires.through.second)).1

pub set_cost-requires-clause-linked : goal.set_cost-requires-clause-linked
set_cost-requires-clause-linked c = ap is_some (free_link c.args.self.now c.put_link.new.self c.remove_middle.new.store c.args.vertex c.args.a c.args.b c.args.first c.args.second c.requires.kept.state c.requires.through c.in_ok-put_link.ensures.ok c.remove_middle.ensures.removes)

pub set_cost-requires-clause-amount : goal.set_cost-requires-clause-amount
set_cost-requires-clause-amount c =
    let fits = cost_fits c.args.self.now c.put_link.new.self c.remove_middle.new.store c.args.vertex c.args.a c.args.b c.args.first c.args.second c.cost_within-cost.result c.requires.kept.state c.requires.through c.in_ok-put_link.ensures.ok c.in_ok-put_link.ensures.amount c.remove_middle.ensures.removes c.remove_middle.ensures.amount c.cost_within-cost.ensures in
    let all = c.requires.kept.state.amount in
    omega arith

pub overflow_sub-self : goal.overflow_sub-self
overflow_sub-self c = one_left c.args.self.now c.args.vertex c.requires.kept c.requires.through.idle.vertex c.requires.through.idle.present

pub returns-clause-kept : goal.returns-clause-kept
returns-clause-kept c =
    let old = c.args.self.now in
    let new : Rest = record old { store = c.set_cost.new.self; left = old.left - 1 } in
    let some = one_left old c.args.vertex c.requires.kept c.requires.through.idle.vertex c.requires.through.idle.present in
    let passes : Passes old new c.put_link.new.self c.remove_middle.new.store c.args.vertex c.args.a c.args.b c.args.first c.args.second c.cost_within-cost.result = record { put = c.in_ok-put_link.ensures.ok; put_amount = c.in_ok-put_link.ensures.amount; removes = c.remove_middle.ensures.removes; removed_amount = c.remove_middle.ensures.amount; costs = c.cost_within-cost.ensures; linked = c.set_cost.ensures.cost; graph = c.set_cost.ensures.graph; amount = c.set_cost.ensures.amount; left = omega arith; required = refl; offset = refl } in
    let goes = passes_idle old new c.put_link.new.self c.remove_middle.new.store c.args.vertex c.args.a c.args.b c.args.first c.args.second c.cost_within-cost.result c.requires.kept.state c.requires.through passes in
    kept_without old new c.args.vertex c.requires.kept (leaves_idle old new c.args.vertex c.requires.kept c.requires.through.idle goes)

pub returns-clause-ok : goal.returns-clause-ok
returns-clause-ok c =
    let old = c.args.self.now in
    let new : Rest = record old { store = c.set_cost.new.self; left = old.left - 1 } in
    let some = one_left old c.args.vertex c.requires.kept c.requires.through.idle.vertex c.requires.through.idle.present in
    let passes : Passes old new c.put_link.new.self c.remove_middle.new.store c.args.vertex c.args.a c.args.b c.args.first c.args.second c.cost_within-cost.result = record { put = c.in_ok-put_link.ensures.ok; put_amount = c.in_ok-put_link.ensures.amount; removes = c.remove_middle.ensures.removes; removed_amount = c.remove_middle.ensures.amount; costs = c.cost_within-cost.ensures; linked = c.set_cost.ensures.cost; graph = c.set_cost.ensures.graph; amount = c.set_cost.ensures.amount; left = omega arith; required = refl; offset = refl } in
    let goes = passes_idle old new c.put_link.new.self c.remove_middle.new.store c.args.vertex c.args.a c.args.b c.args.first c.args.second c.cost_within-cost.result c.requires.kept.state c.requires.through passes in
    record {
      allowed = c.requires.through;
      becomes = becomes_idle old new c.args.vertex (links_past (state_of old) c.args.vertex c.args.a c.args.b (c.args.first + c.args.second)) c.requires.kept c.requires.through.idle goes
          (λ u w. passes_links old new c.put_link.new.self c.remove_middle.new.store c.args.vertex c.args.a c.args.b c.args.first c.args.second c.cost_within-cost.result u w c.requires.kept.state c.requires.through passes);
    }
