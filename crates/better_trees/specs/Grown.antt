-- Trees that come of candidates: grown along weights, or where a walk ends. Helpers' clauses cite this, and no public one.
use Rattle.std.specs.Prelude.{IfOk, IfSome}
use Rattle.better_trees.specs.declared.candidate.Candidate.{Candidate}
use Rattle.better_trees.specs.declared.place.Place.{Place}
use Rattle.better_trees.specs.Better.{IsTreeAt}

-- what grew, if anything did, is a tree that reaches what the branch says
abbrev pub IsGrown : Place → Candidate → Type 0
IsGrown p c = IfOk c.tree (λ found. IfSome found (IsTreeAt p))
