use Rattle.tree_heuristic.proofs.Cutting.{judged, last_vertices}
use Rattle.tree_heuristic.proofs.kept.Kept.of.Goals as goal

pub judge-requires-clause-tail : goal.judge-requires-clause-tail
judge-requires-clause-tail c = (last_vertices c.args.instance.now c.args.branch.now.inside c.args.tree c.loop-tail.arcs.items c.pop.new.self.items (c.in-Some.tail, c.in-Some.head) c.loop-tail.kept c.vertices.ensures.instance c.loop-tail.invariant c.in-Some.ensures.items).0

pub judge-requires-clause-head : goal.judge-requires-clause-head
judge-requires-clause-head c = (last_vertices c.args.instance.now c.args.branch.now.inside c.args.tree c.loop-tail.arcs.items c.pop.new.self.items (c.in-Some.tail, c.in-Some.head) c.loop-tail.kept c.vertices.ensures.instance c.loop-tail.invariant c.in-Some.ensures.items).1

pub loop-tail-preserved : goal.loop-tail-preserved
loop-tail-preserved c =
    judged c.args.instance.now c.args.branch.now.inside c.args.tree c.loop-tail.arcs.items c.pop.new.self.items (c.in-Some.tail, c.in-Some.head) c.loop-tail.kept c.judge.new.self c.vertices.ensures.instance c.loop-tail.invariant c.in-Some.ensures.items c.in_ok-judge.ensures.cut c.in_ok-judge.ensures.kept
