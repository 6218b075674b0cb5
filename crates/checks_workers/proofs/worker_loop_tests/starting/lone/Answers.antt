use Rattle.std.proofs.Common.{◌≡◌, [], ◌∙◌, arith}
use Rattle.st_model.proofs.Costs.{lone_start}
use Rattle.checks_workers.proofs.worker_loop_tests.starting.lone.Goals as goal

pub returns : goal.returns
returns c =
    let none : c.of.result ≡ [] = c.of.ensures ∙ c.new.ensures.items in
    omega (arith, lone_start c.args.instance.now (record { start = 1; arcs = c.of.result }) (omega arith, omega (arith, c.vertices.ensures.instance.some_vertex)) none)
