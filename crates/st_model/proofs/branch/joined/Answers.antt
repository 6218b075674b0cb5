use Rattle.std.proofs.Common.{sym, ◌∙◌}
use Rattle.st_model.proofs.branch.joined.Goals as goal

pub returns : goal.returns
returns c = rw (sym c.is_among.ensures ∙ c.if-is_among.false) c.with.ensures
