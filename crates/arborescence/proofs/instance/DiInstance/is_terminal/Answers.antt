use Rattle.std.proofs.Common.{◌≡◌, false, arith}
use Rattle.std.proofs.lemmas.Bool.{false_from_ne_true}
use Rattle.std.proofs.lemmas.Bool.Decides.{nat_tests}
use Rattle.st_model.specs.Lists.{has}
use Rattle.st_model.proofs.Branches.{IsVertexSet-member}
use Rattle.arborescence.proofs.instance.DiInstance.is_terminal.Goals as goal

pub returns-else-vertex-self : goal.returns-else-vertex-self
returns-else-vertex-self c =
    let terminals = c.self.inside.terminals.items in
    let none : has terminals c.args.vertex ≡ false = false_from_ne_true (has terminals c.args.vertex) (λ there. let high = (IsVertexSet-member c.self.inside.vertices terminals c.args.vertex c.self.invariant.0.terminals there).1 in omega arith) in
    rw (← c.self.view_is, none) (grind (arith, nat_tests))
