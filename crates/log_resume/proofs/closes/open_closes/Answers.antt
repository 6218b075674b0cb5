use Rattle.std.proofs.Common.{[], ◌∷◌, subst}
use Rattle.std.proofs.lemmas.List.Elements.{All-append, All-cons, All-nil}
use Rattle.st_model.specs.Network.{Network}
use Rattle.branching.specs.declared.node.Node.{Node}
use Rattle.branching.specs.Node.{IsNode}
use Rattle.log_format.specs.Text.{IsWritablePacking}
use Rattle.log_resume.proofs.Lights.{lights_end, lights_on}
use Rattle.log_resume.proofs.closes.open_closes.Goals as goal

pub loop-nodes-preserved : goal.loop-nodes-preserved
loop-nodes-preserved c =
    let inv = c.loop-nodes.invariant in
    let I = c.args.closes.instance in
    let N = c.in-Some.node in
    let found = c.loop-nodes.nodes.items in
    let next = rw c.in-Some.is at c.in_ok-node.ensures.next in
    let same = rw c.in-Some.is at c.in_ok-node.ensures.same in
    let both = lights_on I c.loop-nodes.closes.instance c.in-Some.rest.instance c.args.least c.args.closes.nodes c.loop-nodes.closes.nodes found c.push.new.self.items N c.in-Some.rest.nodes inv.same same inv.found next c.in_ok-push.ensures.items in
    let node : IsNode I N = subst (λ (J : Network). IsNode J N) inv.same (rw c.in-Some.is at c.in_ok-node.ensures.node) in
    let written : IsWritablePacking N.packing = rw c.in-Some.is at c.in_ok-node.ensures.writable in
    record {
      same = both.0;
      found = both.1;
      nodes = rw c.in_ok-push.ensures.items (All-append (IsNode I) found (N ∷ []) inv.nodes (All-cons (IsNode I) N [] node (All-nil (IsNode I))));
      writable = rw c.in_ok-push.ensures.items (All-append (λ (M : Node). IsWritablePacking M.packing) found (N ∷ []) inv.writable (All-cons (λ (M : Node). IsWritablePacking M.packing) N [] written (All-nil (λ (M : Node). IsWritablePacking M.packing))));
    }

pub returns-clause-light : goal.returns-clause-light
returns-clause-light c =
    let none = rw c.in_default.is at c.in_ok-node.ensures.next in
    lights_end c.args.closes.instance c.loop-nodes.closes.instance c.args.least c.args.closes.nodes c.loop-nodes.closes.nodes c.loop-nodes.nodes.items c.loop-nodes.invariant.same c.loop-nodes.invariant.found none
