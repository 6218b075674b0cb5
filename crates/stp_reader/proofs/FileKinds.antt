-- Of which kind a file is, place by place, and that one of links is read alike in both modes.
use Rattle.std.proofs.Common.{◌≡◌, ℕ, Bool, true, false, cond, List, [], ◌∷◌, Option, Some, None, Ok, refl, sym, ap, ◌∙◌}
use Rattle.st_model.specs.declared.link.Link.{Link}
use Rattle.st_model.specs.declared.need.Need.{Need}
use Rattle.std.specs.List.{list_any}
use Rattle.stp_reader.specs.declared.mode.Mode.{Mode}
use Rattle.stp_reader.specs.declared.mode.Mode.TheVariants.{Plain}
use Rattle.stp_reader.specs.declared.keyword.SectionName.{SectionName}
use Rattle.stp_reader.specs.declared.keyword.SectionName.TheVariants as name
use Rattle.stp_reader.specs.Lines.{is_skipped, word_lines}
use Rattle.stp_reader.specs.Words.{is_magic, section_of}
use Rattle.stp_reader.specs.Forms.{Form, section_line, end_line, nodes_line, edges_line, edge_line, arcs_line, arc_line, count_line, terminal_line, prize_line, root_line, pinned_line, form}
use Rattle.stp_reader.specs.Place.{Graph, Roots, DiFile, Contents, undirected, directed, Stated, nothing, graph, digraph, whole, Place, at_header, outside, passed_over, at_nodes, at_edges, at_links, at_arcs, at_count, at_needs, at_root_count, at_root_needs, after_end, after_opening, after_outside, after_no_header, after_passed, after_nodes, after_edges, after_link, after_arc, after_count, after_need, after_root_count, after_root_end, after_root_need, after_said, after, after_all}
use Rattle.stp_reader.specs.Reads.{contents_at}
use Rattle.stp_reader.specs.Judging.{stated_from, stated}
use Rattle.stp_reader.proofs.Whole.{is_read}

-- ---- whether it is known that a file is directed

abbrev pub kind_of_contents : Contents → Option Bool
kind_of_contents (undirected f) = Some false
kind_of_contents (directed f) = Some true

abbrev pub kind_stated : Stated → Option Bool
kind_stated nothing = None
kind_stated (graph g) = Some false
kind_stated (digraph g) = Some true
kind_stated (whole c) = kind_of_contents c

abbrev pub kind_at : Place → Option Bool
kind_at at_header = None
kind_at (outside s) = kind_stated s
kind_at (passed_over s) = kind_stated s
kind_at at_nodes = None
kind_at (at_edges n) = None
kind_at (at_links n m links) = Some false
kind_at (at_arcs n m arcs) = Some true
kind_at (at_count g roots) = Some false
kind_at (at_needs g t needs roots) = Some false
kind_at (at_root_count g root) = Some true
kind_at (at_root_needs g t terminals root) = Some true
kind_at (after_end c) = kind_of_contents c

-- ---- what is known is never forgotten

opening_kept : (s : Stated) (k : SectionName) (b : Bool) → kind_stated s ≡ Some b → kind_at (after_opening s k) ≡ Some b
opening_kept nothing k b e = absurd cc
opening_kept (graph g) name.Passed b e = e
opening_kept (graph g) name.Unknown b e = e
opening_kept (graph g) name.Graph b e = e
opening_kept (graph g) name.Terminals b e = e
opening_kept (digraph g) name.Passed b e = e
opening_kept (digraph g) name.Unknown b e = e
opening_kept (digraph g) name.Graph b e = e
opening_kept (digraph g) name.Terminals b e = e
opening_kept (whole c) name.Passed b e = e
opening_kept (whole c) name.Unknown b e = e
opening_kept (whole c) name.Graph b e = e
opening_kept (whole c) name.Terminals b e = e

outside_kept : (s : Stated) (f : Form) (b : Bool) → kind_stated s ≡ Some b → kind_at (after_outside s f) ≡ Some b
outside_kept s (section_line word) b e = opening_kept s (section_of word) b e
outside_kept nothing f b e = absurd cc
outside_kept (graph g) f b e = e
outside_kept (digraph g) f b e = e
outside_kept (whole c) f b e = e

passed_kept : (s : Stated) (f : Form) (b : Bool) → kind_stated s ≡ Some b → kind_at (after_passed s f) ≡ Some b
passed_kept s end_line b e = e
passed_kept s f b e = e

link_kept : (n m : ℕ) (links : List Link) (f : Form) → kind_at (after_link n m links f) ≡ Some false
link_kept n m links (edge_line u v c) = refl
link_kept n m links end_line = refl
link_kept n m links f = refl

arc_kept : (n m : ℕ) (arcs : List Link) (f : Form) → kind_at (after_arc n m arcs f) ≡ Some true
arc_kept n m arcs (arc_line u v c) = refl
arc_kept n m arcs end_line = refl
arc_kept n m arcs f = refl

count_kept : (g : Graph) (roots : Roots) (f : Form) → kind_at (after_count g roots f) ≡ Some false
count_kept g roots (count_line t) = refl
count_kept g roots (root_line r) = refl
count_kept g roots (pinned_line v) = refl
count_kept g roots f = refl

need_kept : (g : Graph) (t : ℕ) (needs : List (ℕ × Need)) (roots : Roots) (f : Form) → kind_at (after_need g t needs roots f) ≡ Some false
need_kept g t needs roots (terminal_line v) = refl
need_kept g t needs roots (prize_line v p) = refl
need_kept g t needs roots (root_line r) = refl
need_kept g t needs roots (pinned_line v) = refl
need_kept g t needs roots end_line = refl
need_kept g t needs roots f = refl

root_count_kept : (g : Graph) (root : Option ℕ) (f : Form) → kind_at (after_root_count g root f) ≡ Some true
root_count_kept g root (count_line t) = refl
root_count_kept g root (root_line r) = refl
root_count_kept g root f = refl

root_end_kept : (g : Graph) (t : ℕ) (terminals : List ℕ) (root : Option ℕ) → kind_at (after_root_end g t terminals root) ≡ Some true
root_end_kept g t terminals None = refl
root_end_kept g t terminals (Some r) = refl

root_need_kept : (g : Graph) (t : ℕ) (terminals : List ℕ) (root : Option ℕ) (f : Form) → kind_at (after_root_need g t terminals root f) ≡ Some true
root_need_kept g t terminals root (terminal_line v) = refl
root_need_kept g t terminals root (root_line r) = refl
root_need_kept g t terminals root end_line = root_end_kept g t terminals root
root_need_kept g t terminals root f = refl

said_kept : (mode : Mode) (p : Place) (line : List (List ℕ)) (b : Bool) → kind_at p ≡ Some b → kind_at (after_said mode p line) ≡ Some b
said_kept mode (outside s) line b e = outside_kept s (form line) b e
said_kept mode (passed_over s) line b e = passed_kept s (form line) b e
said_kept mode (at_links n m links) line b e = link_kept n m links (form line) ∙ e
said_kept mode (at_arcs n m arcs) line b e = arc_kept n m arcs (form line) ∙ e
said_kept mode (at_count g roots) line b e = count_kept g roots (form line) ∙ e
said_kept mode (at_needs g t needs roots) line b e = need_kept g t needs roots (form line) ∙ e
said_kept mode (at_root_count g root) line b e = root_count_kept g root (form line) ∙ e
said_kept mode (at_root_needs g t terminals root) line b e = root_need_kept g t terminals root (form line) ∙ e
said_kept mode (after_end c) line b e = e
said_kept mode at_header line b e = absurd cc
said_kept mode at_nodes line b e = absurd cc
said_kept mode (at_edges n) line b e = absurd cc

-- a kind of one place or the other
pub either : (b : Bool) (p q : Place) (k : Option Bool) → kind_at p ≡ k → kind_at q ≡ k → kind_at (cond b p q) ≡ k
either true p q k e f = e
either false p q k e f = f

pub kept : (mode : Mode) (p : Place) (line : List (List ℕ)) (b : Bool) → kind_at p ≡ Some b → kind_at (after mode p line) ≡ Some b
kept mode p line b e = either (is_skipped line) p (after_said mode p line) (Some b) e (said_kept mode p line b e)

all_kept : (mode : Mode) (p : Place) (lines : List (List (List ℕ))) (b : Bool) → kind_at p ≡ Some b → kind_at (after_all mode p lines) ≡ Some b
all_kept mode p [] b e = e
all_kept mode p (line ∷ lines) b e = all_kept mode (after mode p line) lines b (kept mode p line b e)

-- what is stated where the text ends is of the kind that is known there
kind_ends : (p : Place) (c : Contents) → contents_at p ≡ Some c → kind_at p ≡ kind_of_contents c
kind_ends (outside nothing) c e = absurd cc
kind_ends (outside (graph g)) c e = absurd cc
kind_ends (outside (digraph g)) c e = absurd cc
kind_ends (outside (whole d)) c e = let same : d ≡ c = cc in ap kind_of_contents same
kind_ends (after_end d) c e = let same : d ≡ c = cc in ap kind_of_contents same
kind_ends p c e = absurd cc

pub kind_stays : (mode : Mode) (number : ℕ) (p : Place) (lines : List (List (List ℕ))) (b : Bool) (c : Contents) → kind_at p ≡ Some b → stated_from mode number p lines ≡ Ok c → kind_of_contents c ≡ Some b
kind_stays mode number p lines b c k e = sym (kind_ends (after_all mode p lines) c (is_read mode number p lines c e).1) ∙ all_kept mode p lines b k

-- ---- where directed files aren't read, no file is found to be one

abbrev IsNotDirected : Option Bool → Type 0
IsNotDirected (Some true) = ⊥
IsNotDirected k = Unit {0}

opening_plain : (k : SectionName) → IsNotDirected (kind_at (after_opening nothing k))
opening_plain name.Passed = tt
opening_plain name.Unknown = tt
opening_plain name.Graph = tt
opening_plain name.Terminals = tt

outside_plain : (f : Form) → IsNotDirected (kind_at (after_outside nothing f))
outside_plain (section_line word) = opening_plain (section_of word)
outside_plain f = tt

no_header_plain : (f : Form) → IsNotDirected (kind_at (after_no_header f))
no_header_plain (section_line word) = opening_plain (section_of word)
no_header_plain f = tt

passed_plain : (f : Form) → IsNotDirected (kind_at (after_passed nothing f))
passed_plain end_line = tt
passed_plain f = tt

nodes_plain : (f : Form) → IsNotDirected (kind_at (after_nodes f))
nodes_plain (nodes_line n) = tt
nodes_plain f = tt

edges_plain : (n : ℕ) (f : Form) → IsNotDirected (kind_at (after_edges Plain n f))
edges_plain n (edges_line m) = tt
edges_plain n (arcs_line m) = tt
edges_plain n f = tt

either_plain : (b : Bool) (p q : Place) → IsNotDirected (kind_at p) → IsNotDirected (kind_at q) → IsNotDirected (kind_at (cond b p q))
either_plain true p q h k = h
either_plain false p q h k = k

said_plain : (p : Place) (line : List (List ℕ)) → kind_at p ≡ None → IsNotDirected (kind_at (after_said Plain p line))
said_plain at_header line e = either_plain (list_any is_magic line) (outside nothing) (after_no_header (form line)) tt (no_header_plain (form line))
said_plain (outside nothing) line e = outside_plain (form line)
said_plain (passed_over nothing) line e = passed_plain (form line)
said_plain at_nodes line e = nodes_plain (form line)
said_plain (at_edges n) line e = edges_plain n (form line)
said_plain (outside (graph g)) line e = absurd cc
said_plain (outside (digraph g)) line e = absurd cc
said_plain (outside (whole (undirected f))) line e = absurd cc
said_plain (outside (whole (directed f))) line e = absurd cc
said_plain (passed_over (graph g)) line e = absurd cc
said_plain (passed_over (digraph g)) line e = absurd cc
said_plain (passed_over (whole (undirected f))) line e = absurd cc
said_plain (passed_over (whole (directed f))) line e = absurd cc
said_plain (after_end (undirected f)) line e = absurd cc
said_plain (after_end (directed f)) line e = absurd cc
said_plain p line e = absurd cc

next_plain : (p : Place) (line : List (List ℕ)) (k : Option Bool) → kind_at p ≡ k → IsNotDirected k → IsNotDirected (kind_at (after Plain p line))
next_plain p line None e h = either_plain (is_skipped line) p (after_said Plain p line) (rw e tt) (said_plain p line e)
next_plain p line (Some false) e h = rw (kept Plain p line false e) tt
next_plain p line (Some true) e h = absurd h

all_plain : (p : Place) (lines : List (List (List ℕ))) → IsNotDirected (kind_at p) → IsNotDirected (kind_at (after_all Plain p lines))
all_plain p [] h = h
all_plain p (line ∷ lines) h = all_plain (after Plain p line) lines (next_plain p line (kind_at p) refl h)

pub never_directed : (bytes : List ℕ) (f : DiFile) → stated Plain bytes ≡ Ok (directed f) → ⊥
unfolding stated
never_directed bytes f e =
    let read = is_read Plain 1 at_header (word_lines bytes) (directed f) e in
    let found = kind_ends (after_all Plain at_header (word_lines bytes)) (directed f) read.1 in
    rw found at (all_plain at_header (word_lines bytes) tt)
