use Rattle.std.proofs.Common.{refl}
use Rattle.tree_heuristic.specs.declared.kept.Kept.{Kept}
use Rattle.tree_heuristic.specs.Keeping.{tree_of}
use Rattle.tree_heuristic.proofs.Trimming.{trimmed, trimmed_end}
use Rattle.tree_heuristic.proofs.kept.Kept.trim.Goals as goal

pub loop-head-preserved : goal.loop-head-preserved
loop-head-preserved c =
    let new : Kept = record { start = c.in-Some.head; arcs = c.loosen.new.self.arcs; tails = c.loosen.new.self.tails; forks = c.loosen.new.self.forks } in
    trimmed c.args.instance.now c.args.branch.now.inside (tree_of c.args.self.now) c.loop-head.self new (c.in-Some.field-0-0, c.in-Some.head) c.requires.instance c.loop-head.invariant c.in-Some.ensures.taken c.in-Some.ensures.leaf c.in-Some.ensures.spare refl c.loosen.ensures.forks

pub returns-clause-start : goal.returns-clause-start
returns-clause-start c =
    let I = c.args.instance.now in
    let inside = c.args.branch.now.inside in
    let worth = trimmed_end I inside (tree_of c.args.self.now) c.loop-head.self c.loop-head.invariant c.in_default.ensures.worth in
    rw (c.loosen.ensures.start, c.in_default.ensures.left) worth
