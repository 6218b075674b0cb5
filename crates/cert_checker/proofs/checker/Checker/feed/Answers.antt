use Rattle.std.proofs.Common.{sym, ◌∙◌}
use Rattle.cert_checker.proofs.Pieces.{cut_takes, room_left, room_for_line, line_goes}
use Rattle.cert_checker.proofs.checker.Checker.feed.Goals as goal

pub end_line-requires-clause-few : goal.end_line-requires-clause-few
end_line-requires-clause-few c = room_for_line c.loop-line.checker.text c.loop-line.rest.now c.in-Some.line.now c.in-Some.after.now c.args.self.text c.args.piece.now c.loop-line.invariant.2 (cut_takes c.loop-line.rest.now c.in-Some.line.now c.in-Some.after.now (sym c.in-Some.ensures.cut)).0 c.requires.few

pub end_line-requires-clause-one : goal.end_line-requires-clause-one
end_line-requires-clause-one c = (cut_takes c.loop-line.rest.now c.in-Some.line.now c.in-Some.after.now (sym c.in-Some.ensures.cut)).1

pub loop-line-preserved : goal.loop-line-preserved
loop-line-preserved c = (
  c.in_ok-checker.ensures.problem ∙ c.loop-line.invariant.0,
  c.in_ok-checker.ensures.scale ∙ c.loop-line.invariant.1,
  line_goes c.loop-line.checker.text c.in_ok-checker.checker.text c.loop-line.rest.now c.in-Some.line.now c.in-Some.after.now c.args.self.text c.args.piece.now c.loop-line.invariant.2 (cut_takes c.loop-line.rest.now c.in-Some.line.now c.in-Some.after.now (sym c.in-Some.ensures.cut)).0 c.in_ok-checker.ensures.text,
)

pub go_on-requires-clause-few : goal.go_on-requires-clause-few
go_on-requires-clause-few c = room_left c.loop-line.checker.text c.loop-line.rest.now c.args.self.text c.args.piece.now c.loop-line.invariant.2 c.requires.few
