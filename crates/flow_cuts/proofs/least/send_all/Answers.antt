use Rattle.std.proofs.Common.{◌+◌, ◌∙◌, ℕ, sym, subst}
use Rattle.std.specs.Prelude.{IsTrue}
use Rattle.st_model.specs.Lists.{has}
use Rattle.flow_cuts.specs.Sending.{sent}
use Rattle.flow_cuts.proofs.Flows.{flow_more, flow_none, left_falls, sent_small}
use Rattle.flow_cuts.proofs.least.send_all.Goals as goal

pub loop-search-init : goal.loop-search-init
loop-search-init c = record {
  searched = c.in_ok-run.ensures.searched;
  flow = (0, flow_none c.args.arcs.now c.args.q (sent c.none-flow.result) c.root-root.ensures.digraph c.none-flow.ensures);
}

pub send_one-requires : goal.send_one-requires
send_one-requires c =
    let flow = c.loop-search.invariant.flow in
    record { few = sent_small c.args.arcs.now c.args.q flow.0 (sent c.loop-search.flow) c.requires.separate.0 c.root-root.ensures.digraph flow.1 c.requires.separate.1 }

pub loop-search-smaller : goal.loop-search-smaller
loop-search-smaller c =
    let D = c.args.arcs.now in
    let tree = c.loop-search.invariant.searched.tree in
    let flow = c.loop-search.invariant.flow in
    let met = sym c.contains.ensures ∙ c.loop-search-test.true in
    let held = subst (λ (w : ℕ). IsTrue (has c.loop-search.search.reaching.members w)) c.root-root.ensures.root met in
    let sends = c.in_ok-send_one.ensures c.args.q tree.steps (sym (tree.same D.root) ∙ held) in
    left_falls D c.args.q flow.0 (sent c.loop-search.flow) (sent c.send_one.new.flow) c.requires.separate.0 c.root-root.ensures.digraph c.requires.apart c.requires.separate.1 flow.1
    (flow_more D c.args.q flow.0 (sent c.loop-search.flow) (sent c.send_one.new.flow) sends flow.1)

pub loop-search-preserved : goal.loop-search-preserved
loop-search-preserved c =
    let D = c.args.arcs.now in
    let tree = c.loop-search.invariant.searched.tree in
    let flow = c.loop-search.invariant.flow in
    let met = sym c.contains.ensures ∙ c.loop-search-test.true in
    let held = subst (λ (w : ℕ). IsTrue (has c.loop-search.search.reaching.members w)) c.root-root.ensures.root met in
    let sends = c.in_ok-send_one.ensures c.args.q tree.steps (sym (tree.same D.root) ∙ held) in
    record {
      searched = c.in_ok-run-2.ensures.searched;
      flow = (flow.0 + 1, flow_more D c.args.q flow.0 (sent c.loop-search.flow) (sent c.send_one.new.flow) sends flow.1);
    }
