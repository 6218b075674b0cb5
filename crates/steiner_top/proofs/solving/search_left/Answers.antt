use Rattle.std.proofs.Common.{◌∙◌}
use Rattle.steiner_top.proofs.solving.search_left.Goals as goal

pub search_from-requires-clause-whole : goal.search_from-requires-clause-whole
search_from-requires-clause-whole g c _ _ = c.in_ok-whole.ensures ∙ c.in_ok-rest.ensures.instance

pub search_from-requires-clause-sides : goal.search_from-requires-clause-sides
search_from-requires-clause-sides g c _ _ = c.in_ok-sides.ensures ∙ c.in_ok-branch.ensures
