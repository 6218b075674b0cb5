use Rattle.std.proofs.Common.{◌<◌, length, sym, ap, ◌∙◌, arith}
use Rattle.few_terminals.specs.declared.mark.Mark.{Mark}
use Rattle.few_terminals.proofs.Marking.{mark_read}
use Rattle.few_terminals.proofs.Offering.{takes_nothing, takes_one}
use Rattle.few_terminals.proofs.filling.Filling.take.Goals as goal

pub returns-then-cost-index-clause-takes : goal.returns-then-cost-index-clause-takes
returns-then-cost-index-clause-takes c =
    let marks = c.args.self.now.marks.items in
    let range = c.requires.vertex.1 in
    let long = c.requires.marks in
    let within : c.args.vertex < length marks = omega (arith, range, long) in
    let read = ap (λ (m : Mark). m.cost) (mark_read marks c.args.vertex c.index.result.now within c.index.ensures) in
    takes_nothing c.args.store.now.network c.args.entries.now.items c.args.self.now c.args.cost c.args.vertex (λ same. c.if-cost-index.true (sym (read ∙ same)))

pub returns-clause-takes : goal.returns-clause-takes
returns-clause-takes c =
    let old = c.args.self.now in
    let marks = old.marks.items in
    let v = c.args.vertex in
    let range = c.requires.vertex.1 in
    let long = c.requires.marks in
    let within : v < length marks = omega (arith, range, long) in
    let read = ap (λ (m : Mark). m.cost) (mark_read marks v c.index.result.now within c.index.ensures) in
    let settled = c.in_ok-settle.ensures in
    takes_one c.args.store.now.network old c.settle.new.self c.relax.new.self c.args.cost v c.requires.vertex within (sym read ∙ sym c.if-cost-index.false) settled.queue c.in_ok-relax.ensures.relaxes c.args.entries.now.items c.settle.new.entries.items settled.entries settled.marks
