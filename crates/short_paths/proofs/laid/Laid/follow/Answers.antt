use Rattle.std.proofs.Common.{refl, sym, ◌∙◌, arith}
use Rattle.st_model.proofs.ThinGrowth.{linked-vertices}
use Rattle.short_paths.proofs.Laying.{pushed}
use Rattle.short_paths.proofs.laid.Laid.follow.Goals as goal

pub prove-unreachable-requires : goal.prove-unreachable-requires
prove-unreachable-requires c =
    let head = (linked-vertices c.args.store.now.network c.args.from c.args.to c.vertices.ensures.graph.instance c.requires.linked).1.1 in
    let count = c.vertices.ensures.count in
    omega (arith, head, count, c.if-prove.true)

pub returns-clause-laid : goal.returns-clause-laid
returns-clause-laid c = (pushed c.args.store.now.network c.args.self.now (record { start = c.args.self.now.start; arcs = c.push.new.self; reached = c.insert.new.self }) c.args.from c.args.to c.requires.laid c.requires.from c.requires.linked (sym c.contains.ensures ∙ c.if-contains.false) refl c.in_ok-push.ensures.items c.in_ok-insert.ensures.members c.insert.ensures.count).0

pub returns-clause-cost : goal.returns-clause-cost
returns-clause-cost c = let sum = (pushed c.args.store.now.network c.args.self.now (record { start = c.args.self.now.start; arcs = c.push.new.self; reached = c.insert.new.self }) c.args.from c.args.to c.requires.laid c.requires.from c.requires.linked (sym c.contains.ensures ∙ c.if-contains.false) refl c.in_ok-push.ensures.items c.in_ok-insert.ensures.members c.insert.ensures.count).1 in omega (arith, sum)
