-- Lines of a graft in the making. Helpers' clauses cite this, and no public one.
use Rattle.std.specs.Prelude.{ℕ, List, Option, Some, None}
use Rattle.std.specs.declared.vec.Vec.{Vec}
use Rattle.std.specs.declared.alloc.Global.{Global}
use Rattle.log_format.specs.declared.proof_line.ProofLine.{ProofLine}

-- the lines of the old proof so far, those of the graft in their place, and the less of a bound and of what their closes weigh
pub record Lines : Type 0 where
  pub front : List ProofLine
  pub lines : List ProofLine
  pub least : ℕ

-- the lines of the old proof, unless others stand in their place
abbrev pub standing : List ProofLine → Option (Vec ProofLine Global) → List ProofLine
standing front None = front
standing front (Some lines) = lines.items
