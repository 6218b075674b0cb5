use Rattle.std.proofs.Common.{◌≡◌, suc, length, refl, arith}
use Rattle.std.proofs.lemmas.Bool.{eq-eqb, ne_eqb}
use Rattle.stp_reader.proofs.Pieces.{without_cr-last}
use Rattle.stp_reader.proofs.lines.without_cr.Goals as goal

pub returns-then-piece-last-eq13 : goal.returns-then-piece-last-eq13
returns-then-piece-last-eq13 c =
    let long : suc c.in-Some.last ≡ length c.args.piece.now = omega (arith, c.in-Some.ensures) in
    rw (without_cr-last c.args.piece.now c.in-Some.last 0 long, eq-eqb _ 13 c.if-piece-last-eq13.true) refl

pub returns : goal.returns
returns c =
    let long : suc c.in-Some.last ≡ length c.args.piece.now = omega (arith, c.in-Some.ensures) in
    rw (without_cr-last c.args.piece.now c.in-Some.last 0 long, ne_eqb _ 13 c.if-piece-last-eq13.false) refl
