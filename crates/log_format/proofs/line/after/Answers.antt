use Rattle.std.proofs.lemmas.Bool.Decides.{Decides-eqb}
use Rattle.std.proofs.lemmas.Slice.Eq.{strip_prefix_is}
use Rattle.log_format.proofs.Cut.{after-stripped, seen}
use Rattle.log_format.proofs.line.after.Goals as goal

pub returns : goal.returns
returns c = after-stripped c.args.keyword.now c.args.bytes.now _ (seen c.args.keyword.now c.args.bytes.now c.strip_prefix.result (strip_prefix_is Decides-eqb c.args.bytes.now c.args.keyword.now c.strip_prefix.result c.strip_prefix.ensures.cases))
