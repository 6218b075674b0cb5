use Rattle.st_model.specs.Branch.{IsBranch}
use Rattle.checks_packings.proofs.told.branch_of.Given as goal

-- what was told so far makes a branch
abbrev pub invariant-loop-told : goal.invariant-loop-told
invariant-loop-told l = IsBranch l.instance l.branch
