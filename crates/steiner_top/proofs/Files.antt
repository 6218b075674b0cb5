-- What is exact of every file, and that one of links is one of either kind.
use Rattle.std.specs.Prelude.{ℕ, List}
use Rattle.amounts.specs.declared.scale.Scale.{Scale}
use Rattle.st_model.specs.Network.{Network}
use Rattle.arborescence.specs.Problem as problem
use Rattle.stp_reader.specs.Reads.{Reads, ReadsFile}
use Rattle.stp_reader.specs.Laws.{RefusedExactly, FileRefusedExactly, ReadsAlike}

-- the bytes are refused exactly, as a file of links and as one of either kind, and are read alike as both
pub record FilesAreExact (bytes : List ℕ) : Type 0 where
  pub of_links : RefusedExactly bytes
  pub of_both : FileRefusedExactly bytes
  pub alike : ReadsAlike bytes

pub as_file : (bytes : List ℕ) (I : Network) (scale : Scale) → ReadsAlike bytes → Reads bytes I scale → ReadsFile bytes (problem.plain I) scale
as_file bytes I scale alike reads = (alike.reads (alike.links_file I scale reads) I scale).1 reads
