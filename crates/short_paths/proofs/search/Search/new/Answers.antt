use Rattle.std.proofs.Common.{◌+◌, ap, ◌∙◌, None}
use Rattle.short_paths.specs.Marks.{best_of, place_in, bests_of, places_of}
use Rattle.short_paths.proofs.MarkLists.{map_replicate}
use Rattle.short_paths.proofs.search.Search.new.Goals as goal

pub returns-clause-best : goal.returns-clause-best
returns-clause-best c = ap bests_of (c.in_ok-vec.ensures.items_if_clones_equal (λ y same. same)) ∙ map_replicate best_of (c.args.vertices + 1) c.new-2.result None c.new-2.ensures.best

pub returns-clause-places : goal.returns-clause-places
returns-clause-places c = ap places_of (c.in_ok-vec.ensures.items_if_clones_equal (λ y same. same)) ∙ map_replicate place_in (c.args.vertices + 1) c.new-2.result None c.new-2.ensures.place
