use Rattle.command_line.specs.Seen.{trial_words}
use Rattle.steiner_top.proofs.Trying.{drawn_has_tree, tried}
use Rattle.steiner_top.proofs.trial_command.trial_command.Goals as goal

pub summary_of-requires : goal.summary_of-requires
summary_of-requires g c = drawn_has_tree c.args.words.now c.in_ok-reading.reading.instance c.in_ok-reading.reading.scale c.in_ok-outcome.outcome c.generated_are_connected.ensures c.in_ok-reading.ensures.instance c.in_ok-outcome.ensures

pub returns : goal.returns
returns g c =
    let found = rw (c.in_ok-reading.ensures.instance, c.in_ok-reading.ensures.scale) at c.in_ok-outcome.ensures in
    rw c.outcome_status.ensures (tried (trial_words c.args.words.now) c.in_ok-outcome.outcome c.in_ok-text.text.items found c.in_ok-text.ensures)
