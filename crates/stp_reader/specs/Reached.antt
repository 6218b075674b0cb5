-- How the stages of the reader stand for places, and what holds of what was read. Helpers' clauses cite this, and no public one.
use Rattle.std.specs.Prelude.{◌≡◌, ℕ, ◌≤◌, ◌<◌, IsFalse, Bool, true, ◌&&◌, List, [], length, All, Option, Some, None, IfSome, Result, Ok, Err}
use Rattle.std.specs.List.{list_any}
use Rattle.st_model.specs.declared.link.Link.{Link}
use Rattle.st_model.specs.declared.need.Need.{Need}
use Rattle.st_model.specs.Lists.{has}
use Rattle.st_model.specs.Network.{IsVertex, prize}
use Rattle.stp_reader.specs.declared.fault.LineError.{LineError}
use Rattle.stp_reader.specs.declared.fault.LineError.TheVariants.{Refused, NoMemory}
use Rattle.stp_reader.specs.declared.fault.ReadError.{ReadError}
use Rattle.stp_reader.specs.declared.fault.ReadError.TheVariants.{Fault, NoMemory as NoMemoryToRead}
use Rattle.stp_reader.specs.declared.form.Form.{Form as FormRead}
use Rattle.stp_reader.specs.declared.form.Form.TheVariants.{Section, Nameless, Eof, End, Nodes, Edges, Edge, BadEdges, Arcs, Arc, BadArcs, BadArc, Count, Terminal, Prize, Root, Pinned, Other}
use Rattle.stp_reader.specs.declared.reason.Reason.{Reason}
use Rattle.stp_reader.specs.declared.seen.Seen.{Seen}
use Rattle.stp_reader.specs.declared.stage.GraphPart.{GraphPart}
use Rattle.stp_reader.specs.declared.stage.RootsPart.{RootsPart}
use Rattle.stp_reader.specs.declared.stage.NeedsPart.{NeedsPart}
use Rattle.stp_reader.specs.declared.stage.TerminalsPart.{TerminalsPart}
use Rattle.stp_reader.specs.declared.stage.FilePart.{FilePart}
use Rattle.stp_reader.specs.declared.stage.DiFilePart.{DiFilePart}
use Rattle.stp_reader.specs.declared.stage.ContentsPart.{ContentsPart}
use Rattle.stp_reader.specs.declared.stage.ContentsPart.TheVariants.{Undirected, Directed}
use Rattle.stp_reader.specs.declared.stage.Ended.{Ended}
use Rattle.stp_reader.specs.declared.stage.Ended.TheVariants.{Nothing, OneGraph, OneDigraph, Whole}
use Rattle.stp_reader.specs.declared.stage.Stage.{Stage}
use Rattle.stp_reader.specs.declared.stage.Stage.TheVariants.{AtHeader, Outside, PassedOver, AtNodes, AtEdges, AtLinks, AtArcs, AtCount, AtNeeds, AtRootCount, AtRootNeeds, AfterEnd}
use Rattle.stp_reader.specs.Forms.{Form, section_line, nameless_line, eof_line, end_line, nodes_line, edges_line, edge_line, bad_edges_line, arcs_line, arc_line, bad_arcs_line, bad_arc_line, count_line, terminal_line, prize_line, root_line, pinned_line, other_line}
use Rattle.stp_reader.specs.Unit.{is_fractional, is_large, amounts_of}
use Rattle.stp_reader.specs.Place.{Graph, File, DiFile, Contents, undirected, directed, Roots, Stated, nothing, graph, digraph, whole, Place, at_header, outside, passed_over, at_nodes, at_edges, at_links, at_arcs, at_count, at_needs, at_root_count, at_root_needs, after_end}
use Rattle.stp_reader.specs.Reasons.{has_prize}

-- what a function returned, seen by view, is what is said
abbrev pub Says : {X Y : Type 0} → (X → Y) → Result X Reason → Result Y Reason → Type 0
Says view (Ok x) said = said ≡ Ok (view x)
Says view (Err r) said = said ≡ Err r

-- the same, unless memory ran out
abbrev pub Fails : {Y : Type 0} → LineError → Result Y Reason → Type 0
Fails (Refused r) said = said ≡ Err r
Fails NoMemory said = Unit {0}

abbrev pub Gives : {X Y : Type 0} → (X → Y) → Result X LineError → Result Y Reason → Type 0
Gives view (Ok x) said = said ≡ Ok (view x)
Gives view (Err e) said = Fails e said

-- why a file isn't read, if this was wrong at a line
abbrev pub error_at : ℕ → LineError → ReadError
error_at line (Refused r) = Fault (record { line = line; reason = r })
error_at line NoMemory = NoMemoryToRead

-- the fault is the one that is said, where it isn't memory
abbrev pub IsFaultOf : {A : Type 0} → Result A (ℕ × Reason) → ReadError → Type 0
IsFaultOf said (Fault f) = said ≡ Err (f.line, f.reason)
IsFaultOf said NoMemoryToRead = Unit {0}

-- the form that a line was found to have
abbrev pub form_seen : FormRead → Form
form_seen (Section name) = section_line name.now
form_seen Nameless = nameless_line
form_seen Eof = eof_line
form_seen End = end_line
form_seen (Nodes n) = nodes_line n.now
form_seen (Edges m) = edges_line m.now
form_seen (Edge u v c) = edge_line u.now v.now c.now
form_seen BadEdges = bad_edges_line
form_seen (Arcs m) = arcs_line m.now
form_seen (Arc u v c) = arc_line u.now v.now c.now
form_seen BadArcs = bad_arcs_line
form_seen BadArc = bad_arc_line
form_seen (Count t) = count_line t.now
form_seen (Terminal v) = terminal_line v.now
form_seen (Prize v p) = prize_line v.now p.now
form_seen (Root r) = root_line r.now
form_seen (Pinned v) = pinned_line v.now
form_seen Other = other_line

-- ---- the place that a stage stands for

abbrev pub graph_of : GraphPart → Graph
graph_of g = record { n = g.vertices; links = g.links.items }

abbrev pub roots_of : RootsPart → Roots
roots_of r = record { root = r.root; pinned = r.pinned }

abbrev pub file_from : FilePart → File
file_from f = record { n = f.vertices; links = f.links.items; needs = f.needs.items }

abbrev pub di_file_from : DiFilePart → DiFile
di_file_from f = record { n = f.vertices; arcs = f.arcs.items; root = f.root; terminals = f.terminals.items }

abbrev pub contents_from : ContentsPart → Contents
contents_from (Undirected f) = undirected (file_from f)
contents_from (Directed f) = directed (di_file_from f)

abbrev pub stated_of : Ended → Stated
stated_of Nothing = nothing
stated_of (OneGraph g) = graph (graph_of g)
stated_of (OneDigraph g) = digraph (graph_of g)
stated_of (Whole c) = whole (contents_from c)

abbrev pub place_of : Stage → Place
place_of AtHeader = at_header
place_of (Outside e) = outside (stated_of e)
place_of (PassedOver e) = passed_over (stated_of e)
place_of AtNodes = at_nodes
place_of (AtEdges n) = at_edges n
place_of (AtLinks g m) = at_links g.vertices m g.links.items
place_of (AtArcs g m) = at_arcs g.vertices m g.links.items
place_of (AtCount g roots) = at_count (graph_of g) (roots_of roots)
place_of (AtNeeds p) = at_needs (graph_of p.graph) p.count p.needs.items (roots_of p.roots)
place_of (AtRootCount g root) = at_root_count (graph_of g) root
place_of (AtRootNeeds p) = at_root_needs (graph_of p.graph) p.count p.terminals.items p.root
place_of (AfterEnd c) = after_end (contents_from c)

-- all that a file states whose section Terminals ends
abbrev pub file_part : NeedsPart → FilePart
file_part p = record { vertices = p.graph.vertices; links = p.graph.links; needs = p.needs; seen = p.graph.seen }

-- the same of a directed file with this root
abbrev pub di_file_part : ℕ → TerminalsPart → DiFilePart
di_file_part root p = record { vertices = p.graph.vertices; arcs = p.graph.links; root = root; terminals = p.terminals; seen = p.graph.seen }

-- the stage after a line where links, arcs or needs are listed, which may have ended their section
abbrev pub after_list : Bool → Stage → Stage
after_list true (AtLinks g m) = Outside (OneGraph g)
after_list true (AtArcs g m) = Outside (OneDigraph g)
after_list true (AtNeeds p) = Outside (Whole (Undirected (file_part p)))
after_list _ stage = stage

-- the stage after a line where the terminals of a directed file are listed, which may have ended their section, this being the root
abbrev pub after_terminals : Option ℕ → TerminalsPart → Stage
after_terminals None p = AtRootNeeds p
after_terminals (Some root) p = Outside (Whole (Directed (di_file_part root p)))

-- no links, arcs or needs are listed here
abbrev pub ListsNothing : Stage → Type 0
ListsNothing (AtLinks g m) = ⊥
ListsNothing (AtArcs g m) = ⊥
ListsNothing (AtNeeds p) = ⊥
ListsNothing (AtRootNeeds p) = ⊥
ListsNothing _ = Unit {0}

-- ---- what holds of what was read

pub record IsCount (n : ℕ) : Type 0 where
  pub some : 1 ≤ n
  pub few : n ≤ 1000000

-- what was seen of these amounts: whether one has decimals, and whether one is above a million; never both
pub record IsSeen (s : Seen) (amounts : List ℕ) : Type 0 where
  pub fraction : s.fraction ≡ list_any is_fractional amounts
  pub large : s.large ≡ list_any is_large amounts
  pub apart : IsFalse (s.fraction && s.large)

-- the ends are vertices, also twice the same one, and the cost is one that a word may say
pub record IsStatedLink (n : ℕ) (l : Link) : Type 0 where
  pub first : IsVertex n l.a
  pub second : IsVertex n l.b
  pub cheap : l.cost ≤ 1000000000000999999

-- what is stated of a vertex, and the prize is one that a word may say
pub record IsStatedNeed (n : ℕ) (e : ℕ × Need) : Type 0 where
  pub vertex : IsVertex n e.0
  pub cheap : prize e.1 ≤ 1000000000000999999

pub record AreLinks (n : ℕ) (links : List Link) : Type 0 where
  pub count : IsCount n
  pub fit : All (IsStatedLink n) links

pub record IsGraph (n : ℕ) (links : List Link) : Type 0 where
  pub are_links : AreLinks n links
  pub few : length links ≤ 4000000

-- a graph whose costs were seen, and no more
pub record IsGraphPart (g : GraphPart) : Type 0 where
  pub graph : IsGraph g.vertices g.links.items
  pub seen : IsSeen g.seen (amounts_of g.links.items [])

-- the same before its END
pub record AreLinksReached (g : GraphPart) (m : ℕ) : Type 0 where
  pub links : AreLinks g.vertices g.links.items
  pub seen : IsSeen g.seen (amounts_of g.links.items [])
  pub few : m ≤ 4000000

-- the vertices of the lines Root and RootP are vertices
pub record AreRoots (n : ℕ) (r : RootsPart) : Type 0 where
  pub pinned : IfSome r.pinned (IsVertex n)

-- the set holds the vertices that have a prize
pub record AreNeeds (n : ℕ) (needs : List (ℕ × Need)) (below : ℕ) (paid : List ℕ) : Type 0 where
  pub fit : All (IsStatedNeed n) needs
  pub room : n < below
  pub same : (v : ℕ) → has paid v ≡ has_prize needs v

pub record IsFile (f : FilePart) : Type 0 where
  pub graph : IsGraph f.vertices f.links.items
  pub needs : All (IsStatedNeed f.vertices) f.needs.items
  pub few : length f.needs.items ≤ 2000001
  pub seen : IsSeen f.seen (amounts_of f.links.items f.needs.items)

pub record IsDiFile (f : DiFilePart) : Type 0 where
  pub graph : IsGraph f.vertices f.arcs.items
  pub root : IsVertex f.vertices f.root
  pub terminals : All (IsVertex f.vertices) f.terminals.items
  pub seen : IsSeen f.seen (amounts_of f.arcs.items [])

abbrev pub AreContents : ContentsPart → Type 0
AreContents (Undirected f) = IsFile f
AreContents (Directed f) = IsDiFile f

abbrev pub IsEnded : Ended → Type 0
IsEnded Nothing = Unit {0}
IsEnded (OneGraph g) = IsGraphPart g
IsEnded (OneDigraph g) = IsGraphPart g
IsEnded (Whole c) = AreContents c

pub record AreNeedsReached (p : NeedsPart) : Type 0 where
  pub graph : IsGraph p.graph.vertices p.graph.links.items
  pub few : p.count ≤ 2000000
  pub needs : AreNeeds p.graph.vertices p.needs.items p.paid.count p.paid.members
  pub roots : AreRoots p.graph.vertices p.roots
  pub seen : IsSeen p.graph.seen (amounts_of p.graph.links.items p.needs.items)

pub record AreTerminalsReached (p : TerminalsPart) : Type 0 where
  pub graph : IsGraphPart p.graph
  pub root : IfSome p.root (IsVertex p.graph.vertices)
  pub terminals : All (IsVertex p.graph.vertices) p.terminals.items

abbrev pub IsReached : Stage → Type 0
IsReached AtHeader = Unit {0}
IsReached (Outside e) = IsEnded e
IsReached (PassedOver e) = IsEnded e
IsReached AtNodes = Unit {0}
IsReached (AtEdges n) = IsCount n
IsReached (AtLinks g m) = AreLinksReached g m
IsReached (AtArcs g m) = AreLinksReached g m
IsReached (AtCount g roots) = IsGraphPart g × AreRoots g.vertices roots
IsReached (AtNeeds p) = AreNeedsReached p
IsReached (AtRootCount g root) = IsGraphPart g × IfSome root (IsVertex g.vertices)
IsReached (AtRootNeeds p) = AreTerminalsReached p
IsReached (AfterEnd c) = AreContents c
