use Rattle.std.proofs.Common.{◌≡◌, ◌<◌, ◌+◌, length, refl, ap, ◌∙◌, arith}
use Rattle.std.proofs.lemmas.List.{length-replicate}
use Rattle.few_terminals.specs.declared.mark.Mark.{Mark}
use Rattle.few_terminals.specs.Filling.{unknown}
use Rattle.few_terminals.proofs.Marking.{mark_read}
use Rattle.few_terminals.proofs.Parts.{at_unknown, begun_alone}
use Rattle.few_terminals.proofs.joining.begun.Goals as goal

pub returns-clause-begun : goal.returns-clause-begun
returns-clause-begun c I es same =
    let ks = c.args.terminals.now in
    let marks = c.in_ok-marks.marks.items in
    let terminal = c.in-Some.terminal in
    let here = c.in-Some.ensures.some in
    let high = c.requires.vertices terminal here.0 in
    let long : length marks ≡ c.args.vertices + 1 = ap length c.in_ok-marks.ensures ∙ length-replicate (c.args.vertices + 1) unknown in
    let within : terminal < length marks = omega (arith, high, long) in
    let read = mark_read marks terminal c.index_mut.result.now within c.index_mut.ensures.value in
    let none = at_unknown marks (c.args.vertices + 1) terminal c.in_ok-marks.ensures in
    begun_alone I ks es c.args.bits c.args.vertices terminal marks (record { cost = 0; way = c.index_mut.result.now.way; place = c.index_mut.result.now.place }) same c.in_ok-marks.ensures within refl (ap (λ (m : Mark). m.way) (read ∙ none)) here.1
    (λ k known is. let found = c.in-Some.ensures.all k known is in cc)
