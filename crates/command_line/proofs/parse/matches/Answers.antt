use Rattle.std.proofs.Common.{map, string_bytes}
use Rattle.clap.specs.Words.{app_of}
use Rattle.command_line.proofs.Laws.{refused_words, taken_words, matched_words, fault_is}
use Rattle.command_line.proofs.parse.matches.Goals as goal

pub returns-in-Ok-clause-taken : goal.returns-in-Ok-clause-taken
returns-in-Ok-clause-taken c = taken_words (app_of c.in_ok-command.command) (map string_bytes c.args.words.now) c.in_ok-command.ensures.app c.in-Ok.ensures.kinds

pub returns-in-Ok-clause-rows : goal.returns-in-Ok-clause-rows
returns-in-Ok-clause-rows c = matched_words (app_of c.in_ok-command.command) (map string_bytes c.args.words.now) c.in-Ok.matches c.in_ok-command.ensures.app c.in-Ok.ensures.matches

pub returns-in-Err-clause-refused : goal.returns-in-Err-clause-refused
returns-in-Err-clause-refused c = λ usage. refused_words (app_of c.in_ok-command.command) (map string_bytes c.args.words.now) c.in-Err.error c.in_ok-command.ensures.app c.in-Err.ensures.kinds (c.fault.ensures (fault_is _ _ _ usage))
