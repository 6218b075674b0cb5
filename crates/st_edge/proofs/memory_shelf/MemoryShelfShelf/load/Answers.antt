use Rattle.std.proofs.Common.{rules, arith, inl, inr, refl}
use Rattle.std.proofs.lemmas.Grind.{common_steps}
use Rattle.st_edge.proofs.memory_shelf.MemoryShelfShelf.load.Goals as goal
use Rattle.st_edge.proofs.memory_shelf.MemoryShelfShelf.load.Goals.{else-not-contains-via-else-not-contains, else-not-contains-via-then-not-contains+in-None-1}

pub returns-2-clause-failed : goal.returns-2-clause-failed
returns-2-clause-failed c = (
  λ _. elim c.else-not-contains.branch [
    | else-not-contains-via-else-not-contains w ↦ inl (search rules)
    | else-not-contains-via-then-not-contains+in-None-1 w ↦ inr (grind (arith, common_steps))
  ],
  λ _. refl,
)
