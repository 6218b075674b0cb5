use Rattle.std.proofs.Common.{◌≡◌, length}
use Rattle.cert_checker.proofs.Pieces.{IsSplitAs}
use Rattle.cert_checker.proofs.checker.Checker.feed.Given as goal

-- what was fed and what is left are all
abbrev pub invariant-loop-line : goal.invariant-loop-line
invariant-loop-line l = (l.checker.problem ≡ l.fn.self.problem) × (l.checker.scale ≡ l.fn.self.scale) × IsSplitAs l.checker.text l.rest l.fn.self.text l.piece

abbrev pub decreases-loop-line : goal.decreases-loop-line
decreases-loop-line l = length l.rest
