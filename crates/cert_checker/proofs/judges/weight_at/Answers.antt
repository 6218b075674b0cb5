use Rattle.std.proofs.Common.{subst}
use Rattle.cert_checker.specs.declared.posed.Posed.{Posed}
use Rattle.cert_checker.specs.Path.{AreSplitsIn}
use Rattle.cert_checker.specs.Posed.{ground_on}
use Rattle.cert_checker.proofs.Branches.{branch_of-branch, branch_of-plain}
use Rattle.cert_checker.proofs.judges.weight_at.Goals as goal

pub weight-requires : goal.weight-requires
weight-requires c = rw c.branch-path.ensures (branch_of-branch c.in-Plain.instance c.args.path.now c.vertices.ensures.instance (subst (λ (p : Posed). AreSplitsIn (ground_on p) c.args.path.now) c.in-Plain.is c.requires))

pub di_weight-requires : goal.di_weight-requires
di_weight-requires c = rw c.branch-path-in-Directed.ensures ((branch_of-plain c.in-Directed.instance c.args.path.now (subst (λ (p : Posed). AreSplitsIn (ground_on p) c.args.path.now) c.in-Directed.is c.requires)).must)
