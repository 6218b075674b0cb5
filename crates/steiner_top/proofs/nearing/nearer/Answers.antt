use Rattle.std.proofs.Common.{sym, subst, ◌∙◌}
use Rattle.std.proofs.lemmas.Bool.{false≢true}
use Rattle.st_model.specs.Arborescence.{IsTree}
use Rattle.st_model.specs.Network.{Network}
use Rattle.st_model.specs.Terminals.{NobodyPays}
use Rattle.twice_tree.specs.Twice.{IsWithinTwice}
use Rattle.steiner_top.proofs.WithinTwice.{within_less, within_none, reaches_nobody_alone, terminals_present, some_near}
use Rattle.steiner_top.proofs.nearing.nearer.Goals as goal

pub returns-in_default-clause-near : goal.returns-in_default-clause-near
returns-in_default-clause-near c free = within_none c.args.whole.now.instance c.args.tree c.in_default.ensures.none

pub returns-then-not-nobody_pays-clause-near : goal.returns-then-not-nobody_pays-clause-near
returns-then-not-nobody_pays-clause-near c free = absurd (false≢true (sym c.if-not-nobody_pays.true ∙ c.nobody_pays.ensures.1 free))

pub near_tree-requires-clause-here : goal.near_tree-requires-clause-here
near_tree-requires-clause-here c v terminal = terminals_present c.args.whole.now.instance c.args.whole.now.store v c.args.whole.now.whole terminal

pub near_tree-requires-clause-free : goal.near_tree-requires-clause-free
near_tree-requires-clause-free c = subst NobodyPays (sym c.args.whole.now.whole.network) (c.nobody_pays.ensures.0 c.if-not-nobody_pays.false)

pub returns-in_default-2-clause-near : goal.returns-in_default-2-clause-near
returns-in_default-2-clause-near c free = absurd (some_near c.args.whole.now.instance c.args.whole.now.store c.args.tree c.vertices.ensures.instance c.args.whole.now.whole c.requires.tree (rw c.in_default-2.is at c.in_ok-near.ensures.none))

pub cheaper-requires-clause-near : goal.cheaper-requires-clause-near
cheaper-requires-clause-near c = subst (λ (N : Network). IsTree N c.in-Some-2.near) c.args.whole.now.whole.network (rw c.in-Some-2.is at c.in_ok-near.ensures.tree)

pub cheaper-requires-clause-near_reaches : goal.cheaper-requires-clause-near_reaches
cheaper-requires-clause-near_reaches c =
    let tree = subst (λ (N : Network). IsTree N c.in-Some-2.near) c.args.whole.now.whole.network (rw c.in-Some-2.is at c.in_ok-near.ensures.tree) in
    reaches_nobody_alone c.args.whole.now.instance c.args.branch.now c.in-Some-2.near c.in-Some.field-0 c.requires.gone tree c.in-Some.ensures.some

pub returns-clause-near : goal.returns-clause-near
returns-clause-near c free =
    let twice = subst (λ (N : Network). IsWithinTwice N c.in-Some-2.near) c.args.whole.now.whole.network (rw c.in-Some-2.is at c.in_ok-near.ensures.twice) in
    within_less c.args.whole.now.instance c.in-Some-2.near c.in_ok-new.new c.in_ok-new.ensures.near twice
