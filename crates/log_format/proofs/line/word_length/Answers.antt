use Rattle.log_format.proofs.Cut.{word-position}
use Rattle.log_format.proofs.line.word_length.Goals as goal

pub returns-clause-word : goal.returns-clause-word
returns-clause-word c = rw (c.unwrap_or.ensures, c.space_index.ensures.value) (word-position c.args.bytes.now)
