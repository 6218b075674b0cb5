use Rattle.std.proofs.Common.{ap}
use Rattle.cert_checker.specs.Lines.{Lines}
use Rattle.cert_checker.proofs.Pieces.{taken_none}
use Rattle.cert_checker.proofs.checker.Checker.on.Goals as goal

pub invariant_of-result : goal.invariant_of-result
invariant_of-result c = taken_none c.new.result.lines c.new-2.result.items c.new-3.result (ap (λ (l : Lines). l.lines) c.new.ensures.none) c.new-2.ensures.items c.new-3.ensures c.new.ensures.begins
