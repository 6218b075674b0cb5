use Rattle.std.proofs.Common.{rules, refl, inl, inr, arith}
use Rattle.std.proofs.lemmas.Grind.{common_steps}
use Rattle.st_edge.proofs.memory_sink.MemorySinkSink.write.Goals as goal
use Rattle.st_edge.proofs.memory_sink.MemorySinkSink.write.Goals.{then-portion-eq0-via-then-portion-eq0, then-portion-eq0-via-else-portion-eq0+then-contains}

pub returns-then-portion-eq0-clause-refused : goal.returns-then-portion-eq0-clause-refused
returns-then-portion-eq0-clause-refused c = (
  λ _. (
    grind (arith, common_steps),
    elim c.then-portion-eq0.branch [
      | then-portion-eq0-via-then-portion-eq0 w ↦ inr (grind (arith, common_steps))
      | then-portion-eq0-via-else-portion-eq0+then-contains w ↦ inl (search rules)
    ],
  ),
  λ _. refl,
)
