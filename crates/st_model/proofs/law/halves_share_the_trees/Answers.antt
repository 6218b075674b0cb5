use Rattle.st_model.proofs.Halves.{belongs_inside, belongs_outside, belongs_must, belongs_barred, in_a_half, in_one_half}
use Rattle.st_model.proofs.law.halves_share_the_trees.Goals as goal

pub returns : goal.returns
returns c = record { inside = belongs_inside; outside = belongs_outside; must = belongs_must; barred = belongs_barred; one = in_a_half; not_both = in_one_half }
