use Rattle.std.proofs.Common.{◌≡◌, false, length, sym, ap, ◌∙◌}
use Rattle.std.specs.Prelude.{◌==◌}
use Rattle.stp_reader.proofs.Pieces.{by_cut, pieces_some}
use Rattle.stp_reader.proofs.lines.next_piece.Goals as goal

pub returns-in_default-clause-piece : goal.returns-in_default-clause-piece
returns-in_default-clause-piece c =
    let some : (length c.args.bytes.now == 0) ≡ false = sym c.is_empty.ensures ∙ c.if-is_empty.false in
    pieces_some c.args.bytes.now some ∙ ap (by_cut c.args.bytes.now) (sym c.in_default.ensures.cut)

pub returns-clause-piece : goal.returns-clause-piece
returns-clause-piece c =
    let some : (length c.args.bytes.now == 0) ≡ false = sym c.is_empty.ensures ∙ c.if-is_empty.false in
    pieces_some c.args.bytes.now some ∙ ap (by_cut c.args.bytes.now) (sym c.in-Some.ensures.cut)
