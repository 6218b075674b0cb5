-- Attempts at an extension.
use Rattle.std.specs.Prelude.{IfOk, IfSome}
use Rattle.dual_ascent.specs.declared.extension.Extension.{Extension}
use Rattle.node_work.specs.declared.attempt.Attempt.{Attempt}
use Rattle.node_work.specs.declared.target.Target.{Target}
use Rattle.node_work.specs.Target.{IsRefinedFor}

-- what came of an attempt at an extension, if anything did, refines it
abbrev pub IsTriedFor : Target → Extension → Attempt → Type 0
IsTriedFor t first a = IfOk a.raised (λ raised. IfSome raised (IsRefinedFor t first))
