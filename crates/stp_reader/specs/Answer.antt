-- What was read of a file of either kind, as a problem and the unit in which it counts.
use Rattle.amounts.specs.declared.scale.Scale.{Scale}
use Rattle.arborescence.specs.Problem.{Problem, plain, directed}
use Rattle.stp_reader.specs.declared.reading.File.{File}
use Rattle.stp_reader.specs.declared.reading.File.TheVariants.{Plain, Directed}

abbrev pub problem_read : File → Problem
problem_read (Plain read) = plain read.instance
problem_read (Directed instance scale) = directed instance

abbrev pub scale_read : File → Scale
scale_read (Plain read) = read.scale
scale_read (Directed instance scale) = scale
