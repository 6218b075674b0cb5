-- What a line says at its place: the place after it, or the least reason why it may not stand there. Helpers' clauses cite this, and no public one.
use Rattle.std.specs.Prelude.{ℕ, suc, ◌&&◌, ◌==◌, not, is_none, if◌then◌else◌, List, [], ◌∷◌, ◌++◌, length, Option, Some, None, Result, Ok, Err}
use Rattle.std.specs.List.{list_any}
use Rattle.st_model.specs.declared.link.Link.{Link}
use Rattle.st_model.specs.declared.need.Need.{Need}
use Rattle.st_model.specs.declared.need.Need.TheVariants.{Required, Pays}
use Rattle.stp_reader.specs.declared.mode.Mode.{Mode}
use Rattle.stp_reader.specs.declared.mode.Mode.TheVariants.{Plain, Any}
use Rattle.stp_reader.specs.declared.keyword.SectionName.{SectionName}
use Rattle.stp_reader.specs.declared.keyword.SectionName.TheVariants as name
use Rattle.stp_reader.specs.declared.reason.Reason.{Reason}
use Rattle.stp_reader.specs.declared.reason.Reason.TheVariants.{NoHeader, BadLine, UnknownSection, RepeatedSection, GraphFirst, CountMismatch, RepeatedPrize, RootNotTerminal, Directed, Unclosed, NoGraph, NoTerminals, NoRoot}
use Rattle.stp_reader.specs.Lines.{is_remark, word_lines}
use Rattle.stp_reader.specs.Words.{is_magic, section_of}
use Rattle.stp_reader.specs.Forms.{Form, section_line, nameless_line, eof_line, end_line, nodes_line, edges_line, edge_line, bad_edges_line, arcs_line, arc_line, bad_arcs_line, bad_arc_line, count_line, terminal_line, prize_line, root_line, pinned_line, form}
use Rattle.st_model.specs.Network.{prize}
use Rattle.stp_reader.specs.Unit.{amounts_of}
use Rattle.stp_reader.specs.Place.{Graph, Contents, undirected, directed, Roots, no_roots, pinned_need, Stated, nothing, graph, digraph, whole, Place, at_header, outside, passed_over, at_nodes, at_edges, at_links, at_arcs, at_count, at_needs, at_root_count, at_root_needs, after_end}
use Rattle.stp_reader.specs.Reasons.{has_prize, is_count, is_stray}
use Rattle.stp_reader.specs.Judged.{◌>>=◌, both, count, nodes, vertex, amount, scaled}

-- ---- outside the sections

abbrev pub contents_of : Stated → Result Contents Reason
contents_of nothing = Err NoGraph
contents_of (graph g) = Err NoTerminals
contents_of (digraph g) = Err NoTerminals
contents_of (whole c) = Ok c

abbrev pub judge_opening : Stated → SectionName → Result Place Reason
judge_opening stated name.Passed = Ok (passed_over stated)
judge_opening stated name.Unknown = Err UnknownSection
judge_opening nothing name.Graph = Ok at_nodes
judge_opening stated name.Graph = Err RepeatedSection
judge_opening nothing name.Terminals = Err GraphFirst
judge_opening (graph g) name.Terminals = Ok (at_count g no_roots)
judge_opening (digraph g) name.Terminals = Ok (at_root_count g None)
judge_opening (whole c) name.Terminals = Err RepeatedSection

abbrev pub judge_outside : Stated → Form → Result Place Reason
judge_outside stated (section_line name) = judge_opening stated (section_of name)
judge_outside stated eof_line = contents_of stated >>= λ c. Ok (after_end c)
judge_outside stated _ = Err BadLine

abbrev pub judge_no_header : Form → Result Place Reason
judge_no_header (section_line name) = judge_opening nothing (section_of name)
judge_no_header nameless_line = Err BadLine
judge_no_header _ = Err NoHeader

abbrev pub judge_passed : Stated → Form → Place
judge_passed stated end_line = outside stated
judge_passed stated _ = passed_over stated

-- ---- in Graph and Terminals

abbrev pub reason_in_section : Form → Reason
reason_in_section (section_line name) = Unclosed
reason_in_section nameless_line = Unclosed
reason_in_section eof_line = Unclosed
reason_in_section _ = BadLine

abbrev pub reason_in_graph : Form → Reason
reason_in_graph (arcs_line m) = Directed
reason_in_graph (arc_line u v c) = Directed
reason_in_graph bad_arcs_line = Directed
reason_in_graph bad_arc_line = Directed
reason_in_graph f = reason_in_section f

abbrev pub reason_in_digraph : Form → Reason
reason_in_digraph (edges_line m) = Directed
reason_in_digraph (edge_line u v c) = Directed
reason_in_digraph bad_edges_line = Directed
reason_in_digraph f = reason_in_section f

-- before it is known of which kind the file is
abbrev pub early_reason : Mode → Form → Reason
early_reason Any (arcs_line m) = BadLine
early_reason Any bad_arcs_line = BadLine
early_reason mode f = reason_in_graph f

abbrev pub judge_nodes : Mode → Form → Result Place Reason
judge_nodes mode (nodes_line word) = nodes word >>= λ n. Ok (at_edges n)
judge_nodes mode f = Err (early_reason mode f)

-- `Arcs m`
abbrev pub judge_arcs_count : Mode → ℕ → List ℕ → Result Place Reason
judge_arcs_count Plain n word = Err Directed
judge_arcs_count Any n word = count 4000000 word >>= λ m. Ok (at_arcs n m [])

abbrev pub judge_edges : Mode → ℕ → Form → Result Place Reason
judge_edges mode n (edges_line word) = count 4000000 word >>= λ m. Ok (at_links n m [])
judge_edges mode n (arcs_line word) = judge_arcs_count mode n word
judge_edges mode n f = Err (early_reason mode f)

-- the link of `E u v c`, or the arc of `A u v c`
abbrev pub link_of : ℕ → List ℕ → List ℕ → List ℕ → Result Link Reason
link_of n u v c = both (vertex n u) (both (vertex n v) (amount c)) >>= λ l. Ok (record { a = l.0; b = l.1.0; cost = l.1.1 })

-- these with it
abbrev pub with_link : ℕ → List Link → List ℕ → List ℕ → List ℕ → Result (List Link) Reason
with_link n links u v c = link_of n u v c >>= λ l. scaled (amounts_of links []) l.cost (links ++ l ∷ [])

abbrev pub judge_link : ℕ → ℕ → List Link → Form → Result Place Reason
judge_link n m links (edge_line u v c) = with_link n links u v c >>= λ more. Ok (at_links n m more)
judge_link n m links end_line = if length links == m then Ok (outside (graph (record { n = n; links = links }))) else Err CountMismatch
judge_link n m links f = Err (reason_in_graph f)

abbrev pub judge_arc : ℕ → ℕ → List Link → Form → Result Place Reason
judge_arc n m arcs (arc_line u v c) = with_link n arcs u v c >>= λ more. Ok (at_arcs n m more)
judge_arc n m arcs end_line = if length arcs == m then Ok (outside (digraph (record { n = n; links = arcs }))) else Err CountMismatch
judge_arc n m arcs f = Err (reason_in_digraph f)

-- the vertex of `Root r` or `RootP v`, where no such line stood before
abbrev pub root_of : ℕ → Option ℕ → List ℕ → Result ℕ Reason
root_of n (Some r) word = Err BadLine
root_of n None word = vertex n word

abbrev pub judge_count : Graph → Roots → Form → Result Place Reason
judge_count g roots (count_line word) = count 2000000 word >>= λ t. Ok (at_needs g t [] roots)
judge_count g roots (root_line word) = root_of g.n roots.root word >>= λ r. Ok (at_count g (record roots { root = Some r }))
judge_count g roots (pinned_line word) = root_of g.n roots.pinned word >>= λ v. Ok (at_count g (record roots { pinned = Some v }))
judge_count g roots f = Err (reason_in_section f)

-- what `TP v p` says; that the prize is a second one of v is the greatest reason that such a line can have by itself
abbrev pub prize_of : ℕ → List (ℕ × Need) → List ℕ → List ℕ → Result (ℕ × Need) Reason
prize_of n needs v p = both (vertex n v) (amount p) >>= λ e. if has_prize needs e.0 then Err RepeatedPrize else Ok (e.0, Pays e.1)

-- why the END of Terminals may not stand after these
abbrev pub end_fault : ℕ → List (ℕ × Need) → Roots → Option Reason
end_fault t needs roots =
    if not (is_count t needs roots.pinned) then Some CountMismatch else
    if is_stray needs roots.pinned roots.root then Some RootNotTerminal else
    if (length needs == 0) && is_none roots.pinned then Some NoTerminals else
    None

-- this, unless there is a reason
abbrev pub unless : {A : Type 0} → Option Reason → A → Result A Reason
unless None x = Ok x
unless (Some r) x = Err r

-- after the END of Terminals
abbrev pub terminals_end : Graph → ℕ → List (ℕ × Need) → Roots → Result Place Reason
terminals_end g t needs roots = unless (end_fault t needs roots) (outside (whole (undirected (record { n = g.n; links = g.links; needs = needs ++ pinned_need roots.pinned }))))

abbrev pub judge_need : Graph → ℕ → List (ℕ × Need) → Roots → Form → Result Place Reason
judge_need g t needs roots (terminal_line word) = vertex g.n word >>= λ v. Ok (at_needs g t (needs ++ (v, Required) ∷ []) roots)
judge_need g t needs roots (prize_line v p) = prize_of g.n needs v p >>= λ e. scaled (amounts_of g.links needs) (prize e.1) (at_needs g t (needs ++ e ∷ []) roots)
judge_need g t needs roots (root_line word) = root_of g.n roots.root word >>= λ r. Ok (at_needs g t needs (record roots { root = Some r }))
judge_need g t needs roots (pinned_line word) = root_of g.n roots.pinned word >>= λ v. Ok (at_needs g t needs (record roots { pinned = Some v }))
judge_need g t needs roots end_line = terminals_end g t needs roots
judge_need g t needs roots f = Err (reason_in_section f)

-- ---- in Terminals of a directed file

abbrev pub judge_root_count : Graph → Option ℕ → Form → Result Place Reason
judge_root_count g root (count_line word) = count 2000000 word >>= λ t. Ok (at_root_needs g t [] root)
judge_root_count g root (root_line word) = root_of g.n root word >>= λ r. Ok (at_root_count g (Some r))
judge_root_count g root f = Err (reason_in_section f)

abbrev pub root_stated : Option ℕ → Result ℕ Reason
root_stated None = Err NoRoot
root_stated (Some r) = Ok r

-- the root, where the END of Terminals may stand after these
abbrev pub root_at_end : ℕ → List ℕ → Option ℕ → Result ℕ Reason
root_at_end t terminals root = if not (length terminals == t) then Err CountMismatch else if length terminals == 0 then Err NoTerminals else root_stated root

abbrev pub judge_root_need : Graph → ℕ → List ℕ → Option ℕ → Form → Result Place Reason
judge_root_need g t terminals root (terminal_line word) = vertex g.n word >>= λ v. Ok (at_root_needs g t (terminals ++ v ∷ []) root)
judge_root_need g t terminals root (root_line word) = root_of g.n root word >>= λ r. Ok (at_root_needs g t terminals (Some r))
judge_root_need g t terminals root end_line = root_at_end t terminals root >>= λ r. Ok (outside (whole (directed (record { n = g.n; arcs = g.links; root = r; terminals = terminals }))))
judge_root_need g t terminals root f = Err (reason_in_section f)

-- ---- any line, and all

-- a line that is not skipped
unfoldable pub judge_line : Mode → Place → List (List ℕ) → Result Place Reason
judge_line mode at_header line = if list_any is_magic line then Ok (outside nothing) else judge_no_header (form line)
judge_line mode (outside stated) line = judge_outside stated (form line)
judge_line mode (passed_over stated) line = Ok (judge_passed stated (form line))
judge_line mode at_nodes line = judge_nodes mode (form line)
judge_line mode (at_edges n) line = judge_edges mode n (form line)
judge_line mode (at_links n m links) line = judge_link n m links (form line)
judge_line mode (at_arcs n m arcs) line = judge_arc n m arcs (form line)
judge_line mode (at_count g roots) line = judge_count g roots (form line)
judge_line mode (at_needs g t needs roots) line = judge_need g t needs roots (form line)
judge_line mode (at_root_count g root) line = judge_root_count g root (form line)
judge_line mode (at_root_needs g t terminals root) line = judge_root_need g t terminals root (form line)
judge_line mode (after_end c) line = Ok (after_end c)

-- any line, as its words
unfoldable pub judge : Mode → Place → List (List ℕ) → Result Place Reason
judge mode place [] = Ok place
judge mode place (word ∷ args) = if is_remark word then Ok place else judge_line mode place (word ∷ args)

-- after the last line: all that is stated, or the least reason why that is no whole file
abbrev pub at_end : Place → Result Contents Reason
at_end at_header = Err NoHeader
at_end (outside stated) = contents_of stated
at_end (after_end c) = Ok c
at_end _ = Err Unclosed

-- what is said, or the line at which it is refused, and why
abbrev pub at_line : {A : Type 0} → ℕ → Result A Reason → Result A (ℕ × Reason)
at_line line (Ok x) = Ok x
at_line line (Err r) = Err (line, r)

-- goes on with what was said, if nothing was refused
abbrev pub then_on : {A B : Type 0} → Result A (ℕ × Reason) → (A → Result B (ℕ × Reason)) → Result B (ℕ × Reason)
then_on (Ok x) f = f x
then_on (Err fault) f = Err fault

-- what these lines state from this place on, the first of them being line `number`; or the first of them that has a reason, and the least of its reasons
abbrev pub stated_from : Mode → ℕ → Place → List (List (List ℕ)) → Result Contents (ℕ × Reason)
stated_from mode number place [] = at_line number (at_end place)
stated_from mode number place (line ∷ lines) = then_on (at_line number (judge mode place line)) (λ after. stated_from mode (suc number) after lines)

-- what all lines of a text state
unfoldable pub stated : Mode → List ℕ → Result Contents (ℕ × Reason)
stated mode bytes = stated_from mode 1 at_header (word_lines bytes)
