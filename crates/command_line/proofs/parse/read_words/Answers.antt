use Rattle.std.proofs.Common.{map, string_bytes}
use Rattle.clap.specs.Simple.{subcommand_rows_of}
use Rattle.command_line.proofs.Laws.{refused_means_none, taken_means, answer_found, answer_usage, same_fault}
use Rattle.command_line.proofs.parse.read_words.Goals as goal

pub returns-in-Ok-clause-found : goal.returns-in-Ok-clause-found
returns-in-Ok-clause-found c =
    let words = map string_bytes c.args.words.now in
    let means = taken_means words (subcommand_rows_of c.in-Ok.matches) c.meant.result c.in-Ok.ensures.taken c.in-Ok.ensures.rows c.meant.ensures in
    answer_found words c.meant.result c.ok_or.result c.ok_or.ensures.value means

pub returns-in-Ok-clause-usage : goal.returns-in-Ok-clause-usage
returns-in-Ok-clause-usage c =
    let words = map string_bytes c.args.words.now in
    let means = taken_means words (subcommand_rows_of c.in-Ok.matches) c.meant.result c.in-Ok.ensures.taken c.in-Ok.ensures.rows c.meant.ensures in
    answer_usage words c.meant.result c.ok_or.result c.ok_or.ensures.value means

pub returns-in-Err-clause-usage : goal.returns-in-Err-clause-usage
returns-in-Err-clause-usage c = λ usage. refused_means_none (map string_bytes c.args.words.now) (c.in-Err.ensures.refused (same_fault _ _ _ _ usage))
