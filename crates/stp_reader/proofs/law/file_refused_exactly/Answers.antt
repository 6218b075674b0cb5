use Rattle.stp_reader.specs.declared.mode.Mode.TheVariants.{Any}
use Rattle.stp_reader.proofs.OneAnswer.{exactly_in}
use Rattle.stp_reader.proofs.law.file_refused_exactly.Goals as goal

pub returns : goal.returns
returns c = exactly_in Any
