use Rattle.std.proofs.Common.{◌∙◌}
use Rattle.st_model.proofs.Searched.{search_has}
use Rattle.cert_checker.proofs.lists.holds.Goals as goal

pub returns : goal.returns
returns c = c.is_ok.ensures.value ∙ search_has c.args.vertices.now c.args.vertex c.binary_search.result c.requires c.binary_search.ensures.position
