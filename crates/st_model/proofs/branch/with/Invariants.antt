use Rattle.std.proofs.Common.{◌≡◌, ◌++◌, cond, drop}
use Rattle.st_model.specs.Branch.{with_vertex}
use Rattle.st_model.proofs.branch.with.Given as goal

-- what was written, and what is to come
abbrev pub invariant-loop-next : goal.invariant-loop-next
invariant-loop-next l = l.more.items ++ cond l.placed (drop l.next-index l.vertices) (with_vertex (drop l.next-index l.vertices) l.vertex) ≡ with_vertex l.vertices l.vertex
