use Rattle.arborescence.specs.Ascending.{HasRaised}
use Rattle.arborescence.proofs.Ascended.{AreReached}
use Rattle.arborescence.proofs.ascending.reach_certain.Given as goal

abbrev pub invariant-loop-before : goal.invariant-loop-before
invariant-loop-before l = record { raised : HasRaised l.instance l.branch l.fn.raising l.raising; reached : AreReached l.instance l.branch l.raising l.before }
