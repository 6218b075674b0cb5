use Rattle.std.proofs.Common.{refl}
use Rattle.cert_checker.proofs.following.after_tree.Goals as goal

pub returns-in_ok-rest_of-in-Ok : goal.returns-in_ok-rest_of-in-Ok
returns-in_ok-rest_of-in-Ok c = (c.in-Ok.ensures.right, refl, refl, c.in_ok-rest_of-in-Ok.ensures, c.steps_line.ensures)
