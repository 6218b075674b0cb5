-- What may be concluded of a problem from a log.
use Rattle.std.specs.Prelude.{◌≡◌, ℕ, ◌==◌, if◌then◌else◌}
use Rattle.st_model.specs.declared.tree.Tree.{Tree}
use Rattle.st_model.specs.Network.{Network}
use Rattle.st_model.specs.Arborescence.{IsTreeIn, IsBoundIn, cost_in}
use Rattle.arborescence.specs.Problem.{Problem, plain, ground_of}
use Rattle.log_format.specs.declared.log.Claim.{Claim}
use Rattle.log_format.specs.declared.log.Claim.TheVariants as claim
use Rattle.cert_checker.specs.declared.verdict.Verdict.{Verdict}
use Rattle.cert_checker.specs.declared.verdict.Verdict.TheVariants.{Optimal, Bound, NoTree}

-- some tree has this cost
abbrev pub IsCostIn : Problem → ℕ → Type 0
IsCostIn p x = (t : Tree) × IsTreeIn (ground_of p) t × (cost_in (ground_of p) t ≡ x)

-- what a verdict says of a problem: a tree of this cost and a bound, or no tree at all
abbrev pub ConcludesIn : Problem → Verdict → Type 0
ConcludesIn p (Optimal primal) = IsCostIn p primal × IsBoundIn (ground_of p) primal
ConcludesIn p (Bound dual primal) = IsCostIn p primal × IsBoundIn (ground_of p) dual
ConcludesIn p NoTree = (t : Tree) → IsTreeIn (ground_of p) t → ⊥

-- the same of an instance
abbrev pub IsCost : Network → ℕ → Type 0
IsCost I x = IsCostIn (plain I) x

abbrev pub Concludes : Network → Verdict → Type 0
Concludes I verdict = ConcludesIn (plain I) verdict

-- the verdict on an accepted claim: the tree is best where the bound is its cost
abbrev pub verdict_of : Claim → Verdict
verdict_of (claim.Found primal dual tree steps proof) = if dual == primal then Optimal primal else Bound dual primal
verdict_of (claim.NoTree wall) = NoTree
