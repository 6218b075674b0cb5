use Rattle.std.proofs.Common.{◌+◌, inr, sym, ◌∙◌, arith}
use Rattle.arborescence.proofs.Ascended.{certain_present, all_reached, reached_more, reached_past}
use Rattle.arborescence.proofs.Raised.{HasRaised-more}
use Rattle.arborescence.proofs.ascending.reach_certain.Goals as goal
use Rattle.arborescence.proofs.ascending.reach_certain.Goals.{then-is_certain+in_ok-reach, else-is_certain}

pub loop-before-init : goal.loop-before-init
loop-before-init c = record { raised = c.in_ok-raise_smallest.ensures; reached = inr (λ v low high certain. absurd (omega arith)) }

pub reach-requires-clause-present : goal.reach-requires-clause-present
reach-requires-clause-present c = certain_present c.args.instance.now c.args.branch.now (c.loop-before.before + 1) c.requires.branch c.requires.required (sym c.is_certain.ensures ∙ c.if-is_certain.true)

pub loop-before-preserved : goal.loop-before-preserved
loop-before-preserved c =
    let D = c.args.instance.now in
    let B = c.args.branch.now in
    let before = c.loop-before.invariant in
    elim c.if-is_certain.branch [
      | then-is_certain+in_ok-reach w ↦ rw w.raising-is (record {
        raised = HasRaised-more D B c.args.raising.now c.loop-before.raising w.reach.new.self before.raised w.in_ok-reach.ensures.raised;
        reached = reached_more D B c.loop-before.raising w.reach.new.self c.loop-before.before w.in_ok-reach.ensures.raised before.reached w.in_ok-reach.ensures.reached;
      })
      | else-is_certain w ↦ rw w.raising-is (record {
        raised = before.raised;
        reached = reached_past D B c.loop-before.raising c.loop-before.before (sym c.is_certain.ensures ∙ w.if-is_certain.false) before.reached;
      })
    ]

pub returns-clause-reached : goal.returns-clause-reached
returns-clause-reached c =
    all_reached c.args.instance.now c.args.branch.now c.loop-before.raising c.loop-before.before (omega (arith, c.vertices-before-end.ensures.count, c.loop-before-test.false)) c.loop-before.invariant.reached
