use Rattle.std.proofs.Common.{◌≡◌, take}
use Rattle.cert_checker.specs.Path.{leaving_out}
use Rattle.cert_checker.proofs.path.Path.leaving_out.Given as goal

-- the vertices so far are left out
abbrev pub invariant-loop-vertex : goal.invariant-loop-vertex
invariant-loop-vertex l = l.path ≡ leaving_out (take l.vertex-index l.vertices)
