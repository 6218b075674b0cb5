-- What a search knows of each vertex.
use Rattle.std.specs.Prelude.{ℕ, List, map, Option, Some, None}
use Rattle.short_paths.specs.declared.mark.Mark.{Mark}
use Rattle.short_paths.specs.declared.mark.Stage.{Stage}
use Rattle.short_paths.specs.declared.mark.Stage.TheVariants.{Unseen, Offered, At}

-- the least that was offered to a vertex, in the stage that it is in
abbrev pub best_in : Stage → ℕ → Option ℕ
best_in Unseen least = None
best_in Offered least = Some least
best_in (At place) least = Some least

-- the least that was offered
abbrev pub best_of : Mark → Option ℕ
best_of mark = best_in mark.stage mark.least

-- the place that a stage says
abbrev pub stage_place : Stage → Option ℕ
stage_place Unseen = None
stage_place Offered = None
stage_place (At place) = Some place

-- the place among the settled vertices
abbrev pub place_in : Mark → Option ℕ
place_in mark = stage_place mark.stage

-- by vertex, the least that was offered
abbrev pub bests_of : List Mark → List (Option ℕ)
bests_of marks = map best_of marks

-- by vertex, the place among those that are settled
abbrev pub places_of : List Mark → List (Option ℕ)
places_of marks = map place_in marks
