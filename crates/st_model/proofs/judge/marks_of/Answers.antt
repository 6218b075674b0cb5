use Rattle.st_model.proofs.Judging.{marks_start}
use Rattle.st_model.proofs.judge.marks_of.Goals as goal

pub returns : goal.returns
returns c = marks_start c.args.vertices c.args.start c.in_ok-marks.marks.items c.requires (c.in_ok-marks.ensures.items_if_clones_equal (λ y same. same))
