use Rattle.std.proofs.Common.{sym, subst}
use Rattle.std.specs.Prelude.{IsTrue, IfOk, ◌↔◌}
use Rattle.arborescence.specs.Problem.{IsWallOf}
use Rattle.cert_checker.specs.declared.posed.Posed.{Posed}
use Rattle.cert_checker.specs.Posed.{problem_of}
use Rattle.cert_checker.proofs.wall.is_wall_of.Goals as goal

pub returns-in-Plain : goal.returns-in-Plain
returns-in-Plain c = subst (λ (p : Posed). IfOk c.is_wall.result (λ yes. IsTrue yes ↔ IsWallOf (problem_of p) c.args.wall.now)) (sym c.in-Plain.is) c.is_wall.ensures

pub returns-in-Directed : goal.returns-in-Directed
returns-in-Directed c = subst (λ (p : Posed). IfOk c.is_di_wall.result (λ yes. IsTrue yes ↔ IsWallOf (problem_of p) c.args.wall.now)) (sym c.in-Directed.is) c.is_di_wall.ensures
