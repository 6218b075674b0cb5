-- What a vertex of a graph is in a branch, and what its links cost as arcs.
use Rattle.std.specs.Prelude.{ℕ, Bool, ◌&&◌, ◌||◌, not, if◌then◌else◌, Option, None}
use Rattle.st_model.specs.declared.branch.Branch.{Branch}
use Rattle.st_model.specs.Branch.{open_link}
use Rattle.st_model.specs.Lists.{has}
use Rattle.st_model.specs.Network.{is_required, pays}
use Rattle.graph_store.specs.Graph.{Graph, is_in}
use Rattle.bidirected_form.specs.declared.kind.VertexKind.{VertexKind}
use Rattle.bidirected_form.specs.declared.kind.VertexKind.TheVariants.{Outside, Must, May}

-- v is present in the graph, and not outside in the branch
abbrev pub is_open : Graph → Branch → ℕ → Bool
is_open g B v = is_in g v && not (has B.outside v)

-- what v is, by whether it is open and whether it is inside
abbrev pub kind_by : Graph → Bool → Bool → ℕ → VertexKind
kind_by g here inside v = if here then (if is_required g.network v || inside then Must else May (pays g.network v)) else Outside

-- what v is in the branch
abbrev pub kind_in : Graph → Branch → ℕ → VertexKind
kind_in g B v = kind_by g (is_open g B v) (has B.inside v) v

-- what the arc from u to v costs, if there is a link between open vertices that isn't barred
abbrev pub arc_cost : Graph → Branch → ℕ → ℕ → Option ℕ
arc_cost g B u v = if is_open g B u && is_open g B v then open_link g.network B u v else None
