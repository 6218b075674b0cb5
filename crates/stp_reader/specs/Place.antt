-- Where a line stands: what the lines before it have stated, and what may follow them. Directed files are read in one of two modes.
use Rattle.std.specs.Prelude.{ℕ, if◌then◌else◌, List, [], ◌∷◌, ◌++◌, Option, Some, None}
use Rattle.std.specs.List.{list_any}
use Rattle.st_model.specs.declared.link.Link.{Link}
use Rattle.st_model.specs.declared.need.Need.{Need}
use Rattle.st_model.specs.declared.need.Need.TheVariants.{Required, Pays}
use Rattle.stp_reader.specs.declared.mode.Mode.{Mode}
use Rattle.stp_reader.specs.declared.mode.Mode.TheVariants.{Plain, Any}
use Rattle.stp_reader.specs.declared.keyword.SectionName.{SectionName}
use Rattle.stp_reader.specs.declared.keyword.SectionName.TheVariants as name
use Rattle.stp_reader.specs.Lines.{is_skipped}
use Rattle.stp_reader.specs.Words.{is_magic, section_of}
use Rattle.stp_reader.specs.Forms.{Form, section_line, eof_line, end_line, nodes_line, edges_line, edge_line, arcs_line, arc_line, count_line, terminal_line, prize_line, root_line, pinned_line, form}
use Rattle.plain_text.specs.Numbers.{value}
use Rattle.amounts.specs.Amounts.{millionths}

-- what a section Graph states: how many vertices there are, and the links of its E lines or the arcs of its A lines, with costs in millionths
pub record Graph : Type 0 where
  pub n : ℕ
  pub links : List Link

-- what a whole file of links states: its graph, and what its T, TP and RootP lines say that vertices need, with prizes in millionths
pub record File : Type 0 where
  pub n : ℕ
  pub links : List Link
  pub needs : List (ℕ × Need)

-- what a whole directed file states: its graph, the vertex of its line Root, and the vertices of its T lines
pub record DiFile : Type 0 where
  pub n : ℕ
  pub arcs : List Link
  pub root : ℕ
  pub terminals : List ℕ

-- what a whole file states, of one kind or the other
pub data Contents : Type 0 where
  undirected : File → Contents
  directed : DiFile → Contents

-- the vertices of the lines Root and RootP in a file of links, as far as they have come
pub record Roots : Type 0 where
  pub root : Option ℕ
  pub pinned : Option ℕ

abbrev pub no_roots : Roots
no_roots = record { root = None; pinned = None }

-- what the sections that have ended state
pub data Stated : Type 0 where
  nothing : Stated
  graph : Graph → Stated
  digraph : Graph → Stated
  whole : Contents → Stated

pub data Place : Type 0 where
  -- after skipped lines alone
  at_header : Place
  -- between sections
  outside : Stated → Place
  -- in a section that is passed over
  passed_over : Stated → Place
  -- in Graph: before its line Nodes; after `Nodes n`; after `Edges m` and the E lines of these links
  at_nodes : Place
  at_edges : ℕ → Place
  at_links : ℕ → ℕ → List Link → Place
  -- the same after `Arcs m` and the A lines of these arcs
  at_arcs : ℕ → ℕ → List Link → Place
  -- in Terminals: before its line Terminals; after `Terminals t` and the T and TP lines that say these needs
  at_count : Graph → Roots → Place
  at_needs : Graph → ℕ → List (ℕ × Need) → Roots → Place
  -- in Terminals of a directed file, with the vertex of its line Root, if it has come: before its line Terminals; after `Terminals t` and the T lines of these vertices
  at_root_count : Graph → Option ℕ → Place
  at_root_needs : Graph → ℕ → List ℕ → Option ℕ → Place
  -- after the line EOF
  after_end : Contents → Place

-- the link that three words say
abbrev pub link_said : List ℕ → List ℕ → List ℕ → Link
link_said u v c = record { a = value u; b = value v; cost = millionths c }

-- ---- after a line that has no reason; one that has one leaves all as it is

-- after the line that opens a section
abbrev pub after_opening : Stated → SectionName → Place
after_opening stated name.Passed = passed_over stated
after_opening nothing name.Graph = at_nodes
after_opening (graph g) name.Terminals = at_count g no_roots
after_opening (digraph g) name.Terminals = at_root_count g None
after_opening stated _ = outside stated

-- after the line EOF
abbrev pub after_eof : Stated → Place
after_eof (whole c) = after_end c
after_eof stated = outside stated

abbrev pub after_outside : Stated → Form → Place
after_outside stated (section_line name) = after_opening stated (section_of name)
after_outside stated eof_line = after_eof stated
after_outside stated _ = outside stated

-- where the header is missing, only a section can begin
abbrev pub after_no_header : Form → Place
after_no_header (section_line name) = after_opening nothing (section_of name)
after_no_header _ = outside nothing

abbrev pub after_passed : Stated → Form → Place
after_passed stated end_line = outside stated
after_passed stated _ = passed_over stated

abbrev pub after_nodes : Form → Place
after_nodes (nodes_line n) = at_edges (value n)
after_nodes _ = at_nodes

-- a line `Arcs m` is taken where directed files are
abbrev pub after_arcs_count : Mode → ℕ → List ℕ → Place
after_arcs_count Plain n m = at_edges n
after_arcs_count Any n m = at_arcs n (value m) []

abbrev pub after_edges : Mode → ℕ → Form → Place
after_edges mode n (edges_line m) = at_links n (value m) []
after_edges mode n (arcs_line m) = after_arcs_count mode n m
after_edges mode n _ = at_edges n

abbrev pub after_link : ℕ → ℕ → List Link → Form → Place
after_link n m links (edge_line u v c) = at_links n m (links ++ link_said u v c ∷ [])
after_link n m links end_line = outside (graph (record { n = n; links = links }))
after_link n m links _ = at_links n m links

abbrev pub after_arc : ℕ → ℕ → List Link → Form → Place
after_arc n m arcs (arc_line u v c) = at_arcs n m (arcs ++ link_said u v c ∷ [])
after_arc n m arcs end_line = outside (digraph (record { n = n; links = arcs }))
after_arc n m arcs _ = at_arcs n m arcs

abbrev pub after_count : Graph → Roots → Form → Place
after_count g roots (count_line t) = at_needs g (value t) [] roots
after_count g roots (root_line r) = at_count g (record roots { root = Some (value r) })
after_count g roots (pinned_line v) = at_count g (record roots { pinned = Some (value v) })
after_count g roots _ = at_count g roots

-- what the line RootP says, if it has come
abbrev pub pinned_need : Option ℕ → List (ℕ × Need)
pinned_need None = []
pinned_need (Some v) = (v, Required) ∷ []

abbrev pub after_need : Graph → ℕ → List (ℕ × Need) → Roots → Form → Place
after_need g t needs roots (terminal_line v) = at_needs g t (needs ++ (value v, Required) ∷ []) roots
after_need g t needs roots (prize_line v p) = at_needs g t (needs ++ (value v, Pays (millionths p)) ∷ []) roots
after_need g t needs roots (root_line r) = at_needs g t needs (record roots { root = Some (value r) })
after_need g t needs roots (pinned_line v) = at_needs g t needs (record roots { pinned = Some (value v) })
after_need g t needs roots end_line = outside (whole (undirected (record { n = g.n; links = g.links; needs = needs ++ pinned_need roots.pinned })))
after_need g t needs roots _ = at_needs g t needs roots

abbrev pub after_root_count : Graph → Option ℕ → Form → Place
after_root_count g root (count_line t) = at_root_needs g (value t) [] root
after_root_count g root (root_line r) = at_root_count g (Some (value r))
after_root_count g root _ = at_root_count g root

-- the END of Terminals needs a root
abbrev pub after_root_end : Graph → ℕ → List ℕ → Option ℕ → Place
after_root_end g t terminals None = at_root_needs g t terminals None
after_root_end g t terminals (Some r) = outside (whole (directed (record { n = g.n; arcs = g.links; root = r; terminals = terminals })))

abbrev pub after_root_need : Graph → ℕ → List ℕ → Option ℕ → Form → Place
after_root_need g t terminals root (terminal_line v) = at_root_needs g t (terminals ++ value v ∷ []) root
after_root_need g t terminals root (root_line r) = at_root_needs g t terminals (Some (value r))
after_root_need g t terminals root end_line = after_root_end g t terminals root
after_root_need g t terminals root _ = at_root_needs g t terminals root

abbrev pub after_said : Mode → Place → List (List ℕ) → Place
after_said mode at_header line = if list_any is_magic line then outside nothing else after_no_header (form line)
after_said mode (outside stated) line = after_outside stated (form line)
after_said mode (passed_over stated) line = after_passed stated (form line)
after_said mode at_nodes line = after_nodes (form line)
after_said mode (at_edges n) line = after_edges mode n (form line)
after_said mode (at_links n m links) line = after_link n m links (form line)
after_said mode (at_arcs n m arcs) line = after_arc n m arcs (form line)
after_said mode (at_count g roots) line = after_count g roots (form line)
after_said mode (at_needs g t needs roots) line = after_need g t needs roots (form line)
after_said mode (at_root_count g root) line = after_root_count g root (form line)
after_said mode (at_root_needs g t terminals root) line = after_root_need g t terminals root (form line)
after_said mode (after_end c) line = after_end c

-- the place after a line at a place
abbrev pub after : Mode → Place → List (List ℕ) → Place
after mode place line = if is_skipped line then place else after_said mode place line

-- the place after lines that begin at a place
abbrev pub after_all : Mode → Place → List (List (List ℕ)) → Place
after_all mode place [] = place
after_all mode place (line ∷ lines) = after_all mode (after mode place line) lines
