use Rattle.std.proofs.Common.{refl, sym, subst, ◌∙◌, arith}
use Rattle.cert_checker.specs.declared.posed.Posed.{Posed}
use Rattle.cert_checker.specs.Judging.{IsRightLine}
use Rattle.cert_checker.specs.Path.{branch_of}
use Rattle.cert_checker.specs.Posed.{ground_on}
use Rattle.cert_checker.proofs.Judgements.{left_grounds}
use Rattle.cert_checker.proofs.proving.after_line.Goals as goal

pub returns-in-Ok-Some : goal.returns-in-Ok-Some
returns-in-Ok-Some c = record {
  right = left_grounds c.args.posed.now c.args.proving.left (λ G. IsRightLine G c.args.proving.least (branch_of c.args.proving.path) c.args.line.now) (subst (λ (p : Posed). IsRightLine (ground_on p) c.args.proving.least (branch_of c.args.proving.path) c.args.line.now) c.left_or.ensures c.in-Ok-Some.ensures.right);
  next = sym c.in-Ok-Some.ensures.next ∙ c.in-Ok-Some.field-0-is;
  primal = refl;
  dual = refl;
  left = refl;
  least = refl;
  number = λ few. omega (arith, c.saturating_add.ensures, c.line_count.ensures, few);
}
