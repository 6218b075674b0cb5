use Rattle.arborescence.specs.Ascending.{rooted_packing}
use Rattle.arborescence.proofs.Sources.{gathered_first, gathered_last, gathered_next, gathered_smaller}
use Rattle.arborescence.proofs.closing.Closing.source.Goals as goal

pub loop-set-init : goal.loop-set-init
loop-set-init c =
    let s = c.args.self.now in
    let closing = c.requires.closing in
    gathered_first c.args.instance.now c.args._branch.now s.chosen.items s.heads s.tails closing.net closing.heads closing.tails c.args.vertex c.in_ok-set.field-0.reached c.requires.missed c.in_ok-set.ensures.led c.in_ok-set.ensures.spread.count

pub returns-in-None : goal.returns-in-None
returns-in-None c =
    let s = c.args.self.now in
    let closing = c.requires.closing in
    gathered_last c.args.instance.now c.args._branch.now s.chosen.items s.heads s.tails closing.net closing.heads closing.tails (rooted_packing c.args.instance.now s.cuts.items) closing.chosen c.loop-set.here c.loop-set.set c.loop-set.invariant c.in_ok-led.led.members c.in_ok-led.ensures c.in-None.ensures.none

pub loop-set-smaller : goal.loop-set-smaller
loop-set-smaller c =
    let s = c.args.self.now in
    let closing = c.requires.closing in
    let less = c.in_ok-set-in-Some.ensures in
    gathered_smaller c.args.instance.now c.args._branch.now s.chosen.items s.heads s.tails closing.net closing.heads closing.tails (rooted_packing c.args.instance.now s.cuts.items) closing.chosen c.loop-set.here c.loop-set.set c.loop-set.invariant c.in_ok-led.led.members c.in_ok-led.ensures c.in-Some.other c.in_ok-set-in-Some.field-0.reached c.in-Some.ensures.found.0 c.in-Some.ensures.found.1 less.led less.spread.count

pub loop-set-preserved : goal.loop-set-preserved
loop-set-preserved c =
    let s = c.args.self.now in
    let closing = c.requires.closing in
    let less = c.in_ok-set-in-Some.ensures in
    gathered_next c.args.instance.now c.args._branch.now s.chosen.items s.heads s.tails closing.net closing.heads closing.tails (rooted_packing c.args.instance.now s.cuts.items) closing.chosen c.loop-set.here c.loop-set.set c.loop-set.invariant c.in_ok-led.led.members c.in_ok-led.ensures c.in-Some.other c.in_ok-set-in-Some.field-0.reached c.in-Some.ensures.found.0 c.in-Some.ensures.found.1 less.led less.spread.count
