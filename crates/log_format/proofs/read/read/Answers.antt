use Rattle.std.proofs.Common.{sym, ◌∙◌}
use Rattle.std.proofs.lemmas.Bool.{eqb-true}
use Rattle.std.proofs.lemmas.List.{nil_from_length}
use Rattle.log_format.proofs.WholeLines.{is_text}
use Rattle.log_format.proofs.read.read.Goals as goal

pub returns-clause-found : goal.returns-clause-found
returns-clause-found c =
    let nothing = nil_from_length c.in_ok-lines.after.now (eqb-true _ _ (sym c.is_empty.ensures ∙ c.if-not-is_empty.false)) in
    (c.in-Some.ensures.0, is_text c.args.bytes.now c.in-Some.log (c.in-Some.ensures.1 ∙ c.in_ok-lines.ensures.lines) (sym c.in_ok-lines.ensures.after ∙ nothing))
