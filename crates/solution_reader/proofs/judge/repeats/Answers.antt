use Rattle.std.proofs.Common.{ℕ, sym, ◌∙◌}
use Rattle.solution_reader.proofs.Repeating.{stood_before, keys_more, once_more}
use Rattle.solution_reader.proofs.judge.repeats.Goals as goal

pub returns-then-not-is_new : goal.returns-then-not-is_new
returns-then-not-is_new c =
    let nothing : ℕ × ℕ = (0, 0) in
    sym (stood_before c.args.edges.now c.loop-edge.edge-index nothing c.loop-edge.pairs.keys c.min.result c.max.result c.in_ok-is_new.is_new c.loop-edge-test.true c.loop-edge.invariant.keys c.min.ensures c.max.ensures c.in_ok-is_new.ensures.added c.if-not-is_new.true)

pub loop-edge-preserved : goal.loop-edge-preserved
loop-edge-preserved c =
    let nothing : ℕ × ℕ = (0, 0) in
    record {
      keys = c.in_ok-is_new.ensures.keys ∙ keys_more c.args.edges.now c.loop-edge.edge-index nothing c.loop-edge.pairs.keys c.min.result c.max.result c.in_ok-is_new.is_new c.loop-edge-test.true c.loop-edge.invariant.keys c.min.ensures c.max.ensures c.in_ok-is_new.ensures.added c.if-not-is_new.false;
      once = once_more c.args.edges.now c.loop-edge.edge-index nothing c.loop-edge.pairs.keys c.min.result c.max.result c.in_ok-is_new.is_new c.loop-edge-test.true c.loop-edge.invariant.keys c.min.ensures c.max.ensures c.in_ok-is_new.ensures.added c.if-not-is_new.false c.loop-edge.invariant.once;
    }
