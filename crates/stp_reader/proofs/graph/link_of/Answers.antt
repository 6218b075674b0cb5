use Rattle.std.proofs.Common.{refl}
use Rattle.std.proofs.lemmas.Result.{err_from_is_err_and}
use Rattle.stp_reader.proofs.graph.link_of.Goals as goal

pub returns-in_err-a-clause-link : goal.returns-in_err-a-clause-link
returns-in_err-a-clause-link c =
    let p = err_from_is_err_and c.from_residual.result c.from_residual.ensures.1 in
    rw (p.1, p.2, ← c.vertex.ensures.value, ← c.vertex-ends.ensures.value, ← c.amount.ensures.value, ← c.both.ensures, ← c.both-2.ensures, c.in_err-a.was) refl
