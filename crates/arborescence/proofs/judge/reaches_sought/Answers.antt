use Rattle.std.proofs.Common.{refl, sym, ◌∙◌}
use Rattle.std.specs.Prelude.{◌==◌}
use Rattle.std.proofs.lemmas.Bool.{eq-eqb, false≢true, or_left}
use Rattle.arborescence.proofs.DiTrees.{sought_iff}
use Rattle.arborescence.proofs.judge.reaches_sought.Goals as goal

pub returns-then-contains : goal.returns-then-contains
returns-then-contains c =
    let D = c.args.instance.now in
    let iff = sought_iff D c.args.reached.now.members c.terminals.ensures.instance (rw c.root.ensures.root at (sym c.contains.ensures ∙ c.if-contains.true)) in
    let all = rw c.terminals.ensures.all at c.has_all.ensures in
    (λ yes_. iff.0 (all.0 yes_), λ each. all.1 (iff.1 each))

pub returns-else-contains : goal.returns-else-contains
returns-else-contains c =
    let D = c.args.instance.now in
    let there = rw c.root.ensures.root at c.contains.ensures in
    (λ held. absurd (false≢true (sym c.if-contains.false ∙ held)), λ each. there ∙ each D.root c.root.ensures.instance.root (or_left (D.root == D.root) _ (eq-eqb D.root D.root refl)))
