use Rattle.std.proofs.Common.{◌∙◌, sym, take, take_all}
use Rattle.st_model.specs.Arborescence.{reached_from}
use Rattle.st_model.proofs.Judging.{grows_next, reached_next}
use Rattle.st_model.proofs.judge.grows.Goals as goal

-- an arc that isn't new spoils all
pub returns-then-not-mark_arc-clause-answer : goal.returns-then-not-mark_arc-clause-answer
returns-then-not-mark_arc-clause-answer c r marks =
    let next = grows_next c.args.instance.now r c.args.arcs.now c.loop-arc.arc-index (0, 0) c.loop-arc-test.true in
    let judged = c.mark_arc.ensures.answer (reached_from r (take c.loop-arc.arc-index c.args.arcs.now)) (c.loop-arc.invariant.marked r marks) in
    (λ never. cc, λ grows. sym c.if-not-mark_arc.true ∙ judged.1 (next.0 ((c.loop-arc.invariant.decides r marks).0 grows)).0)

pub loop-arc-preserved : goal.loop-arc-preserved
loop-arc-preserved c = record {
  long = c.mark_arc.ensures.long;
  decides = λ r marks.
      let next = grows_next c.args.instance.now r c.args.arcs.now c.loop-arc.arc-index (0, 0) c.loop-arc-test.true in
      let judged = c.mark_arc.ensures.answer (reached_from r (take c.loop-arc.arc-index c.args.arcs.now)) (c.loop-arc.invariant.marked r marks) in
      let before = c.loop-arc.invariant.decides r marks in
      (λ grows. (next.0 (before.0 grows)).1, λ rest. before.1 (next.1 (judged.0 c.if-not-mark_arc.false, rest)));
  marked = λ r marks.
      rw (reached_next r c.args.arcs.now c.loop-arc.arc-index (0, 0) c.loop-arc-test.true)
      (c.if-not-mark_arc.ensures.marked (reached_from r (take c.loop-arc.arc-index c.args.arcs.now)) (c.loop-arc.invariant.marked r marks));
}

pub returns-clause-marked : goal.returns-clause-marked
returns-clause-marked c r marks = rw (take_all c.loop-arc.arc-index c.args.arcs.now c.loop-arc-test.false) at (c.loop-arc.invariant.marked r marks)
