use Rattle.std.proofs.Common.{refl, add-one}
use Rattle.std.proofs.lemmas.List.{take_rest}
use Rattle.plain_text.proofs.Cut.{cut-position}
use Rattle.plain_text.proofs.pieces.cut_at.Goals as goal

pub returns-in_err-index-clause-cut : goal.returns-in_err-index-clause-cut
returns-in_err-index-clause-cut c = rw (c.from_residual.ensures, cut-position c.args.byte c.args.bytes.now, ← c.index_of.ensures, c.in_err-index.was) refl

pub returns-clause-cut : goal.returns-clause-cut
returns-clause-cut c = rw (cut-position c.args.byte c.args.bytes.now, ← c.index_of.ensures, c.in_ok-index.was, add-one, take_rest) refl
