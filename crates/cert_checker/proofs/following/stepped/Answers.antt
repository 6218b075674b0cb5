use Rattle.std.proofs.Common.{refl, arith}
use Rattle.cert_checker.proofs.following.stepped.Goals as goal

pub returns-in-Ok : goal.returns-in-Ok
returns-in-Ok c = record {
  takes = c.in-Ok.ensures.taken;
  primal = refl;
  dual = refl;
  number = λ few. omega (arith, c.saturating_add.ensures, few);
}
