use Rattle.std.proofs.Common.{rules, ◌≡◌}
use Rattle.node_work.proofs.plan.Plan.into_closing.Goals as goal

pub returns-then-self-vertices : goal.returns-then-self-vertices
returns-then-self-vertices c =
    let same : c.self.inside.count ≡ c.args.instance.now.n = search rules in
    rw (← same) c.self.invariant
