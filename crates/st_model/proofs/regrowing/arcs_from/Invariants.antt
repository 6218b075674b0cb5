use Rattle.std.proofs.Common.{◌≡◌, ◌++◌, drop, length, reverse}
use Rattle.st_model.specs.Regrown.{regrown}
use Rattle.st_model.proofs.regrowing.arcs_from.Given as goal

abbrev pub invariant-loop-tail : goal.invariant-loop-tail
invariant-loop-tail l = (l.turned.items ++ regrown l.current (drop (length l.yielded) (reverse l.arcs))) ++ reverse l.kept.items ≡ regrown l.at (reverse l.arcs)
