use Rattle.solution_reader.proofs.WrittenTrees.{written_is_read_in}
use Rattle.solution_reader.proofs.law.written_pairs_are_read.Goals as goal

pub returns : goal.returns
returns c = written_is_read_in
