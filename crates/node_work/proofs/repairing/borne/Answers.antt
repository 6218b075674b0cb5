use Rattle.std.proofs.Common.{Some}
use Rattle.std.proofs.lemmas.List.Elements.{All-pop, All-push}
use Rattle.st_model.specs.Branch.{IsVertexSet}
use Rattle.cut_packing.specs.declared.cut.Cut.{Cut}
use Rattle.node_work.proofs.repairing.borne.Goals as goal

pub loop-cut-preserved-in-Continue-branch-2 : goal.loop-cut-preserved-in-Continue-branch-2
loop-cut-preserved-in-Continue-branch-2 c =
    let is_set : Cut → Type 0 = λ d. IsVertexSet c.args.place.now.whole.now.instance.n d.set in
    let popped = All-pop is_set c.loop-cut.waiting.items c.pop.new.self.items (Some c.in-Some.cut) c.in-Some.ensures.items c.loop-cut.invariant.waiting in
    let lowered : is_set c.lowered.result = rw c.lowered.ensures popped.1 in
    record {
      waiting = popped.0;
      cuts = rw c.in_ok-push.ensures.items (All-push is_set c.loop-cut.cuts.items c.lowered.result c.loop-cut.invariant.cuts lowered);
    }

pub loop-cut-preserved : goal.loop-cut-preserved
loop-cut-preserved c =
    let is_set : Cut → Type 0 = λ d. IsVertexSet c.args.place.now.whole.now.instance.n d.set in
    let popped = All-pop is_set c.loop-cut.waiting.items c.pop.new.self.items (Some c.in-Some.cut) c.in-Some.ensures.items c.loop-cut.invariant.waiting in
    record { waiting = popped.0; cuts = c.loop-cut.invariant.cuts }

pub returns-clause-sets : goal.returns-clause-sets
returns-clause-sets c = rw c.of-2.ensures c.loop-cut.invariant.cuts
