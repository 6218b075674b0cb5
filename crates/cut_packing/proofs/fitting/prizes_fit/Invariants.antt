use Rattle.std.proofs.Common.{ℕ, ◌≤◌}
use Rattle.std.specs.Prelude.{IsFalse}
use Rattle.st_model.specs.Branch.{is_certain}
use Rattle.st_model.specs.Network.{pays}
use Rattle.cut_packing.specs.Packing.{named}
use Rattle.cut_packing.proofs.fitting.prizes_fit.Given as goal

abbrev pub invariant-loop-before : goal.invariant-loop-before
invariant-loop-before l =
    (q : ℕ) → 1 ≤ q → q ≤ l.before → IsFalse (is_certain l.instance l.branch q) → named l.packing.cuts q ≤ pays l.instance q
