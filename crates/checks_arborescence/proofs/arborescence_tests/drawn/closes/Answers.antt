use Rattle.std.proofs.Common.{sym, ◌∙◌}
use Rattle.arborescence.specs.DiNetwork.{di_ground}
use Rattle.checks_arborescence.proofs.FirstFive.{five_branch, five_certain, five_required}
use Rattle.checks_arborescence.proofs.arborescence_tests.drawn.closes.Goals as goal

pub is_closed_at-requires-clause-branch : goal.is_closed_at-requires-clause-branch
is_closed_at-requires-clause-branch c = rw c.in_ok-branch.ensures (five_branch (di_ground c.args.instance.now) (sym c.vertices.ensures.count ∙ c.if-vertices-ne6.false))

pub is_closed_at-requires-clause-required : goal.is_closed_at-requires-clause-required
is_closed_at-requires-clause-required c = rw c.in_ok-branch.ensures (five_required c.args.instance.now (sym c.root.ensures.root ∙ c.if-root-ne1.false) (sym c.is_terminal.ensures ∙ c.if-is_terminal.false))

pub is_closed_at-requires-clause-certain : goal.is_closed_at-requires-clause-certain
is_closed_at-requires-clause-certain c = rw c.in_ok-branch.ensures (five_certain c.args.instance.now (sym c.vertices.ensures.count ∙ c.if-vertices-ne6.false) (sym c.root.ensures.root ∙ c.if-root-ne1.false))
