-- How kinds and arcs are put together. Helpers' clauses cite this, and no public one.
use Rattle.std.specs.Prelude.{ℕ, Bool, true, false, ◌&&◌, not, if◌then◌else◌, List, slice_index_or, Option, None}
use Rattle.st_model.specs.declared.branch.Branch.{Branch}
use Rattle.st_model.specs.Branch.{open_link}
use Rattle.st_model.specs.Made.{has_pair}
use Rattle.graph_store.specs.declared.half.Half.{Half}
use Rattle.graph_store.specs.Graph.{Graph}
use Rattle.bidirected_form.specs.declared.arc.Arc.{Arc}
use Rattle.bidirected_form.specs.declared.kind.VertexKind.{VertexKind}
use Rattle.bidirected_form.specs.declared.kind.VertexKind.TheVariants.{Outside, Must, May}

-- the vertex isn't reached
abbrev pub is_off : VertexKind → Bool
is_off Outside = true
is_off Must = false
is_off (May p) = false

-- v isn't reached, or there is no such vertex
abbrev pub is_out : List VertexKind → ℕ → Bool
is_out kinds v = is_off (slice_index_or kinds v Outside)

-- the half of v is an arc: its other end isn't outside, and its link isn't barred
abbrev pub is_arc : Branch → List VertexKind → ℕ → Half → Bool
is_arc B kinds v half = not (is_out kinds half.to) && not (has_pair B.barred half.to v)

-- what the arc from u to v costs, if there is a link between vertices that aren't outside, and it isn't barred
abbrev pub cost_by : Graph → Branch → List VertexKind → ℕ → ℕ → Option ℕ
cost_by g B kinds u v = if not (is_out kinds u) && not (is_out kinds v) then open_link g.network B u v else None

-- the half as an arc from its other end
abbrev pub arc_of : Half → Arc
arc_of half = record { tail = half.to; remaining = half.cost }
