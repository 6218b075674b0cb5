use Rattle.std.proofs.Common.{ℕ, subst, sym}
use Rattle.branching.specs.Node.{IsNode}
use Rattle.search_core.specs.Complete.{IsComplete}
use Rattle.search_core.specs.State.{no_cuts, root_of}
use Rattle.search_core.proofs.Rooted.{root_node}
use Rattle.cut_packing.specs.declared.packing.Packing.{Packing}
use Rattle.resuming.proofs.searching.gathered_from.Goals as goal

pub returns-then-limits-eq0-clause-complete : goal.returns-then-limits-eq0-clause-complete
returns-then-limits-eq0-clause-complete g c =
    let I = c.args.whole.now.instance in
    let B = c.args.node.branch in
    let root : IsNode I (root_of B no_cuts) = root_node I B c.requires.node.branch c.requires.node.required in
    let here : IsNode I (root_of B c.no_cuts.result) = subst (λ (P : Packing). IsNode I (root_of B P)) (sym c.no_cuts.ensures) root in
    subst (λ (budget : ℕ). IsComplete c.in_ok-gathered.gathered I B c.args.incumbent.now.cost budget) (sym c.if-limits-eq0.true) (c.in_ok-gathered.ensures.complete I here)
