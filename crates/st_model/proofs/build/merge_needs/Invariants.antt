use Rattle.std.proofs.Common.{◌≡◌, map, take}
use Rattle.st_model.specs.Lists.{up_to}
use Rattle.st_model.specs.Stated.{stated_need}
use Rattle.st_model.proofs.build.merge_needs.Given as goal

abbrev pub invariant-loop-vertex : goal.invariant-loop-vertex
invariant-loop-vertex l = l.needs.items ≡ map (stated_need (take l.vertex-index l.stated)) (up_to l.vertices)
