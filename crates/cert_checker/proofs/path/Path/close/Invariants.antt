use Rattle.std.proofs.Common.{◌≡◌, length}
use Rattle.cert_checker.specs.Path.{TellEnds, next_path}
use Rattle.cert_checker.proofs.path.Path.close.Given as goal

abbrev pub invariant-loop-turn : goal.invariant-loop-turn
invariant-loop-turn l = (next_path l.path ≡ next_path l.initial.path) × TellEnds l.path

abbrev pub decreases-loop-turn : goal.decreases-loop-turn
decreases-loop-turn l = length l.path
