-- Why a line may not stand at its place, and why a text may not end there.
use Rattle.std.specs.Prelude.{ℕ, ◌+◌, ◌&&◌, ◌||◌, ◌==◌, not, Bool, false, if◌then◌else◌, List, [], ◌∷◌, ◌++◌, length, Option, Some, None, is_some, is_none}
use Rattle.std.specs.List.{list_any}
use Rattle.st_model.specs.declared.link.Link.{Link}
use Rattle.st_model.specs.declared.need.Need.{Need}
use Rattle.st_model.specs.Network.{is_needed}
use Rattle.stp_reader.specs.declared.mode.Mode.{Mode}
use Rattle.stp_reader.specs.declared.mode.Mode.TheVariants.{Plain, Any}
use Rattle.stp_reader.specs.declared.keyword.SectionName.{SectionName}
use Rattle.stp_reader.specs.declared.keyword.SectionName.TheVariants as name
use Rattle.stp_reader.specs.declared.reason.Reason.{Reason}
use Rattle.stp_reader.specs.declared.reason.Reason.TheVariants.{NoHeader, BadLine, UnknownSection, RepeatedSection, GraphFirst, CountMismatch, RepeatedPrize, RootNotTerminal, Directed, Unclosed, NoGraph, NoTerminals, NoRoot}
use Rattle.stp_reader.specs.Reason.{when}
use Rattle.stp_reader.specs.Lines.{is_skipped}
use Rattle.stp_reader.specs.Words.{is_magic, section_of}
use Rattle.stp_reader.specs.Forms.{Form, section_line, nameless_line, eof_line, end_line, nodes_line, edges_line, edge_line, bad_edges_line, arcs_line, arc_line, bad_arcs_line, bad_arc_line, count_line, terminal_line, prize_line, root_line, pinned_line, form}
use Rattle.plain_text.specs.Numbers.{value}
use Rattle.amounts.specs.Amounts.{millionths}
use Rattle.stp_reader.specs.Amounts.{count_reasons, nodes_reasons, vertex_reasons, amount_reasons}
use Rattle.stp_reader.specs.Unit.{amounts_of, scale_reasons}
use Rattle.stp_reader.specs.Place.{Graph, Roots, Stated, nothing, whole, Place, at_header, outside, passed_over, at_nodes, at_edges, at_links, at_arcs, at_count, at_needs, at_root_count, at_root_needs, after_end}

-- ---- between sections

-- a section that is unknown, that has stood before, or that comes before Graph
abbrev pub opening_reasons : Stated → SectionName → List Reason
opening_reasons stated name.Passed = []
opening_reasons stated name.Unknown = UnknownSection ∷ []
opening_reasons nothing name.Graph = []
opening_reasons stated name.Graph = RepeatedSection ∷ []
opening_reasons nothing name.Terminals = GraphFirst ∷ []
opening_reasons (whole c) name.Terminals = RepeatedSection ∷ []
opening_reasons stated name.Terminals = []

-- the sections that are missing from a whole file
abbrev pub missing : Stated → List Reason
missing nothing = NoGraph ∷ NoTerminals ∷ []
missing (whole c) = []
missing stated = NoTerminals ∷ []

-- only `SECTION name` and `EOF` may stand here
abbrev pub outside_reasons : Stated → Form → List Reason
outside_reasons stated (section_line name) = opening_reasons stated (section_of name)
outside_reasons stated eof_line = missing stated
outside_reasons stated _ = BadLine ∷ []

-- a first line that is no header has to be a section's, and is read as that
abbrev pub no_header_reasons : Form → List Reason
no_header_reasons (section_line name) = opening_reasons nothing (section_of name)
no_header_reasons nameless_line = BadLine ∷ []
no_header_reasons _ = NoHeader ∷ []

-- ---- in Graph and Terminals

-- a line that may not stand at its place: it begins another section or ends the text before this one has ended, or it is a bad line
abbrev pub misplaced : Form → List Reason
misplaced (section_line name) = Unclosed ∷ []
misplaced nameless_line = Unclosed ∷ []
misplaced eof_line = Unclosed ∷ []
misplaced _ = BadLine ∷ []

-- in the Graph of a file of links a line of arcs says that the graph is directed
abbrev pub misplaced_in_graph : Form → List Reason
misplaced_in_graph (arcs_line m) = Directed ∷ []
misplaced_in_graph (arc_line u v c) = Directed ∷ []
misplaced_in_graph bad_arcs_line = Directed ∷ []
misplaced_in_graph bad_arc_line = Directed ∷ []
misplaced_in_graph f = misplaced f

-- in that of a directed file a line of links says that it isn't
abbrev pub misplaced_in_digraph : Form → List Reason
misplaced_in_digraph (edges_line m) = Directed ∷ []
misplaced_in_digraph (edge_line u v c) = Directed ∷ []
misplaced_in_digraph bad_edges_line = Directed ∷ []
misplaced_in_digraph f = misplaced f

-- before either is known, where directed files are read, a line `Arcs` makes the file one, and is a bad line of it
abbrev pub misplaced_early : Mode → Form → List Reason
misplaced_early Any (arcs_line m) = BadLine ∷ []
misplaced_early Any bad_arcs_line = BadLine ∷ []
misplaced_early mode f = misplaced_in_graph f

-- `Nodes n` comes first
abbrev pub at_nodes_reasons : Mode → Form → List Reason
at_nodes_reasons mode (nodes_line n) = nodes_reasons n
at_nodes_reasons mode f = misplaced_early mode f

-- then `Edges m`, or `Arcs m` where directed files are read
abbrev pub arcs_count_reasons : Mode → List ℕ → List Reason
arcs_count_reasons Plain m = Directed ∷ []
arcs_count_reasons Any m = count_reasons 4000000 m

abbrev pub at_edges_reasons : Mode → Form → List Reason
at_edges_reasons mode (edges_line m) = count_reasons 4000000 m
at_edges_reasons mode (arcs_line m) = arcs_count_reasons mode m
at_edges_reasons mode f = misplaced_early mode f

-- then lines `E u v c` or `A u v c`
abbrev pub added_reasons : ℕ → List Link → List ℕ → List ℕ → List ℕ → List Reason
added_reasons n links u v c = vertex_reasons n u ++ vertex_reasons n v ++ amount_reasons c ++ scale_reasons (amounts_of links []) (millionths c)

-- and END after m of them
abbrev pub at_links_reasons : ℕ → ℕ → List Link → Form → List Reason
at_links_reasons n m links (edge_line u v c) = added_reasons n links u v c
at_links_reasons n m links end_line = when (not (length links == m)) CountMismatch
at_links_reasons n m links f = misplaced_in_graph f

abbrev pub at_arcs_reasons : ℕ → ℕ → List Link → Form → List Reason
at_arcs_reasons n m arcs (arc_line u v c) = added_reasons n arcs u v c
at_arcs_reasons n m arcs end_line = when (not (length arcs == m)) CountMismatch
at_arcs_reasons n m arcs f = misplaced_in_digraph f

-- `Root r` and `RootP v` once each, and a vertex
abbrev pub root_reasons : ℕ → Option ℕ → List ℕ → List Reason
root_reasons n (Some r) word = BadLine ∷ []
root_reasons n None word = vertex_reasons n word

-- `Terminals t` comes before every T and TP line
abbrev pub at_count_reasons : Graph → Roots → Form → List Reason
at_count_reasons g roots (count_line t) = count_reasons 2000000 t
at_count_reasons g roots (root_line r) = root_reasons g.n roots.root r
at_count_reasons g roots (pinned_line v) = root_reasons g.n roots.pinned v
at_count_reasons g roots f = misplaced f

-- whether a T line says that v is required
abbrev pub has_terminal : List (ℕ × Need) → ℕ → Bool
has_terminal needs v = list_any (λ e. is_needed e.1 && (e.0 == v)) needs

-- whether a TP line gives v a prize
abbrev pub has_prize : List (ℕ × Need) → ℕ → Bool
has_prize needs v = list_any (λ e. not (is_needed e.1) && (e.0 == v)) needs

-- whether the line RootP, if there is one, says v
abbrev pub is_pinned : Option ℕ → ℕ → Bool
is_pinned None v = false
is_pinned (Some p) v = p == v

-- whether the root, if there is one, has neither a T line nor the line RootP
abbrev pub is_stray : List (ℕ × Need) → Option ℕ → Option ℕ → Bool
is_stray needs pinned None = false
is_stray needs pinned (Some r) = not (has_terminal needs r || is_pinned pinned r)

-- whether t is how many T and TP lines there are; the line RootP may be counted, too
abbrev pub is_count : ℕ → List (ℕ × Need) → Option ℕ → Bool
is_count t needs pinned = (length needs == t) || (is_some pinned && (length needs + 1 == t))

-- then T and TP lines, of which no second TP line for a vertex, and END after t of them: at least one of them or the line RootP, and one that makes the root required
abbrev pub at_needs_reasons : Graph → ℕ → List (ℕ × Need) → Roots → Form → List Reason
at_needs_reasons g t needs roots (terminal_line v) = vertex_reasons g.n v
at_needs_reasons g t needs roots (prize_line v p) = vertex_reasons g.n v ++ amount_reasons p ++ when (has_prize needs (value v)) RepeatedPrize ++ scale_reasons (amounts_of g.links needs) (millionths p)
at_needs_reasons g t needs roots (root_line r) = root_reasons g.n roots.root r
at_needs_reasons g t needs roots (pinned_line v) = root_reasons g.n roots.pinned v
at_needs_reasons g t needs roots end_line = when (not (is_count t needs roots.pinned)) CountMismatch ++ when (is_stray needs roots.pinned roots.root) RootNotTerminal ++ when ((length needs == 0) && is_none roots.pinned) NoTerminals
at_needs_reasons g t needs roots f = misplaced f

-- ---- in Terminals of a directed file, which has neither TP lines nor a line RootP

abbrev pub at_root_count_reasons : Graph → Option ℕ → Form → List Reason
at_root_count_reasons g root (count_line t) = count_reasons 2000000 t
at_root_count_reasons g root (root_line r) = root_reasons g.n root r
at_root_count_reasons g root f = misplaced f

-- T lines, and END after t of them: at least one, and the line Root, whose vertex needs no T line
abbrev pub at_root_needs_reasons : Graph → ℕ → List ℕ → Option ℕ → Form → List Reason
at_root_needs_reasons g t terminals root (terminal_line v) = vertex_reasons g.n v
at_root_needs_reasons g t terminals root (root_line r) = root_reasons g.n root r
at_root_needs_reasons g t terminals root end_line = when (not (length terminals == t)) CountMismatch ++ when (length terminals == 0) NoTerminals ++ when (is_none root) NoRoot
at_root_needs_reasons g t terminals root f = misplaced f

-- ---- anywhere

abbrev pub said_reasons : Mode → Place → List (List ℕ) → List Reason
said_reasons mode at_header line = if list_any is_magic line then [] else no_header_reasons (form line)
said_reasons mode (outside stated) line = outside_reasons stated (form line)
said_reasons mode (passed_over stated) line = []
said_reasons mode at_nodes line = at_nodes_reasons mode (form line)
said_reasons mode (at_edges n) line = at_edges_reasons mode (form line)
said_reasons mode (at_links n m links) line = at_links_reasons n m links (form line)
said_reasons mode (at_arcs n m arcs) line = at_arcs_reasons n m arcs (form line)
said_reasons mode (at_count g roots) line = at_count_reasons g roots (form line)
said_reasons mode (at_needs g t needs roots) line = at_needs_reasons g t needs roots (form line)
said_reasons mode (at_root_count g root) line = at_root_count_reasons g root (form line)
said_reasons mode (at_root_needs g t terminals root) line = at_root_needs_reasons g t terminals root (form line)
said_reasons mode (after_end c) line = []

-- all reasons why a line may not stand at a place
abbrev pub reasons : Mode → Place → List (List ℕ) → List Reason
reasons mode place line = if is_skipped line then [] else said_reasons mode place line

-- all reasons why a text may not end at a place
abbrev pub end_reasons : Place → List Reason
end_reasons at_header = NoHeader ∷ []
end_reasons (outside stated) = missing stated
end_reasons (after_end c) = []
end_reasons _ = Unclosed ∷ []
