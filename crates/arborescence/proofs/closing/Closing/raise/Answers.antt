use Rattle.std.proofs.Common.{refl, arith}
use Rattle.arborescence.specs.declared.closing.Closing.{Closing}
use Rattle.arborescence.proofs.Chosen.{raised_closing, raised_used, used_already}
use Rattle.arborescence.proofs.OneCut.{room_left}
use Rattle.arborescence.proofs.closing.Closing.raise.Goals as goal

pub returns-then-arc-eq0-clause-saturated : goal.returns-then-arc-eq0-clause-saturated
returns-then-arc-eq0-clause-saturated c =
    used_already c.args._instance.now c.args._branch.now c.args.self.now c.requires.closing c.args.set.now c.args.arc c.requires.source c.requires.entering c.if-arc-eq0.true

pub lay-requires-clause-room : goal.lay-requires-clause-room
lay-requires-clause-room c = λ v. room_left c.args._instance.now c.args._branch.now c.args.self.now.cuts.items c.args.self.now.arcs c.requires.closing.loaded c.requires.closing.fits c.args.arc.left v c.requires.closing.net (omega arith)

pub returns-clause-closing : goal.returns-clause-closing
returns-clause-closing c =
    let cut = c.in_ok-cut.ensures in
    raised_closing c.args._instance.now c.args._branch.now c.args.self.now c.requires.closing c.args.set.now c.args.arc c.requires.source c.requires.entering _ c.requires.certain c.in_ok-cut.cut cut.q cut.y cut.members cut.ascending c.in_ok-push.ensures.items c.lay.ensures.count c.lay.ensures.laid refl refl refl

pub returns-clause-saturated : goal.returns-clause-saturated
returns-clause-saturated c =
    let cut = c.in_ok-cut.ensures in
    let s = c.args.self.now in
    let t : Closing = record { arcs = c.lay.new.arcs; cuts = c.push.new.self; chosen = s.chosen; heads = s.heads; tails = s.tails } in
    raised_used c.args._instance.now c.args._branch.now s c.requires.closing c.args.set.now c.args.arc c.requires.source c.requires.entering t c.requires.certain c.in_ok-cut.cut cut.q cut.y cut.members cut.ascending c.in_ok-push.ensures.items c.lay.ensures.count c.lay.ensures.laid refl refl refl
