use Rattle.instance_gen.proofs.Joined.{◌then◌}
use Rattle.instance_gen.proofs.text.put_terminals.Goals as goal

pub returns : goal.returns
returns c = c.in_ok-put_pair.ensures then c.in_ok-put_number.ensures then c.in_ok-put_needs.ensures then c.in_ok-put_word.ensures then c.in_ok-put_word-2.ensures
