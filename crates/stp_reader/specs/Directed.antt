-- Which files are directed: of the lines in Graph that begin with Nodes, Edges, E, Arcs or A, the first that doesn't begin with Nodes begins with Arcs.
use Rattle.std.specs.Prelude.{ℕ, ◌&&◌, not, Bool, true, false, if◌then◌else◌, List, [], ◌∷◌}
use Rattle.stp_reader.specs.declared.mode.Mode.TheVariants.{Plain}
use Rattle.stp_reader.specs.Lines.{is_skipped, word_lines}
use Rattle.stp_reader.specs.Forms.{Form, edges_line, edge_line, bad_edges_line, arcs_line, arc_line, bad_arcs_line, bad_arc_line, form}
use Rattle.stp_reader.specs.Place.{Place, at_header, at_nodes, at_edges, at_links, after}

-- whether a line begins with Edges, E, Arcs or A, right or wrong in form
abbrev pub tells_kind : Form → Bool
tells_kind (edges_line m) = true
tells_kind (edge_line u v c) = true
tells_kind bad_edges_line = true
tells_kind (arcs_line m) = true
tells_kind (arc_line u v c) = true
tells_kind bad_arcs_line = true
tells_kind bad_arc_line = true
tells_kind f = false

-- whether a line begins with Arcs
abbrev pub tells_arcs : Form → Bool
tells_arcs (arcs_line m) = true
tells_arcs bad_arcs_line = true
tells_arcs f = false

-- whether a line at this place stands in Graph
abbrev pub is_in_graph : Place → Bool
is_in_graph at_nodes = true
is_in_graph (at_edges n) = true
is_in_graph (at_links n m links) = true
is_in_graph place = false

-- whether a line at this place tells of which kind the file is
abbrev pub decides_kind : Place → List (List ℕ) → Bool
decides_kind place line = is_in_graph place && (not (is_skipped line) && tells_kind (form line))

-- of these lines, the first at this place, whether the first that tells of which kind the file is begins with Arcs
abbrev pub begins_directed : Place → List (List (List ℕ)) → Bool
begins_directed place [] = false
begins_directed place (line ∷ lines) = if decides_kind place line then tells_arcs (form line) else begins_directed (after Plain place line) lines

abbrev pub is_directed : List ℕ → Bool
is_directed bytes = begins_directed at_header (word_lines bytes)
