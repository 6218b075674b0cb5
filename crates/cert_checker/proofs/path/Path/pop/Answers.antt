use Rattle.std.proofs.Common.{reverse, sym, subst}
use Rattle.cert_checker.specs.Path.{TellEnds}
use Rattle.cert_checker.proofs.Orders.{branch_of-in_order}
use Rattle.cert_checker.proofs.Paths.{taken_back}
use Rattle.cert_checker.proofs.path.Path.pop.Goals as goal

pub turned_back-branch-requires : goal.turned_back-branch-requires
turned_back-branch-requires c = rw c.self.invariant (branch_of-in_order (reverse c.self.inside.turns.items))

pub invariant_of-result : goal.invariant_of-result
invariant_of-result c = taken_back c.in_ok-turn.turn c.self.inside.turns.items c.pop.new.self.items c.self.inside.branch c.turned_back-branch.result (subst TellEnds (sym c.self.view_is) c.requires) (c.in_ok-turn.ensures.items) c.self.invariant c.turned_back-branch.ensures
