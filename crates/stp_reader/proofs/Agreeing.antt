-- What a line says at its place, by the least of its reasons and the place after it.
use Rattle.std.proofs.Common.{◌≡◌, ℕ, Bool, true, false, cond, not, ◌&&◌, List, [], ◌∷◌, ◌++◌, length, Option, Some, None, Ok, Err, refl, ap}
use Rattle.std.specs.Prelude.{◌==◌, is_none}
use Rattle.std.specs.List.{list_any}
use Rattle.st_model.specs.declared.link.Link.{Link}
use Rattle.st_model.specs.declared.need.Need.{Need}
use Rattle.st_model.specs.declared.need.Need.TheVariants.{Required, Pays}
use Rattle.stp_reader.specs.declared.mode.Mode.{Mode}
use Rattle.stp_reader.specs.declared.mode.Mode.TheVariants.{Plain, Any}
use Rattle.stp_reader.specs.declared.keyword.SectionName.{SectionName}
use Rattle.stp_reader.specs.declared.keyword.SectionName.TheVariants as name
use Rattle.stp_reader.specs.declared.reason.Reason.TheVariants.{CountMismatch, RootNotTerminal, NoTerminals, RepeatedPrize, NoRoot}
use Rattle.stp_reader.specs.Reason.{least, when}
use Rattle.stp_reader.specs.Lines.{is_remark}
use Rattle.stp_reader.specs.Words.{is_magic, section_of}
use Rattle.stp_reader.specs.Forms.{Form, section_line, nameless_line, eof_line, end_line, nodes_line, edges_line, edge_line, bad_edges_line, arcs_line, arc_line, bad_arcs_line, bad_arc_line, count_line, terminal_line, prize_line, root_line, pinned_line, form}
use Rattle.plain_text.specs.Numbers.{value}
use Rattle.amounts.specs.Amounts.{millionths}
use Rattle.stp_reader.specs.Amounts.{count_reasons, nodes_reasons, vertex_reasons, amount_reasons}
use Rattle.st_model.specs.Network.{prize}
use Rattle.stp_reader.specs.Unit.{is_fractional, is_large, amounts_of}
use Rattle.stp_reader.specs.Place.{Graph, Roots, undirected, directed, pinned_need, Stated, nothing, graph, digraph, whole, Place, at_header, outside, passed_over, at_nodes, at_edges, at_links, at_arcs, at_count, at_needs, at_root_count, at_root_needs, after_end, link_said, after_opening, after_eof, after_outside, after_no_header, after_passed, after_nodes, after_arcs_count, after_edges, after_link, after_arc, after_count, after_need, after_root_count, after_root_end, after_root_need, after_said, after}
use Rattle.stp_reader.specs.Reasons.{opening_reasons, missing, outside_reasons, no_header_reasons, at_nodes_reasons, arcs_count_reasons, at_edges_reasons, added_reasons, at_links_reasons, at_arcs_reasons, has_prize, root_reasons, at_count_reasons, is_count, is_stray, at_needs_reasons, at_root_count_reasons, at_root_needs_reasons, said_reasons, reasons}
use Rattle.stp_reader.specs.Judged.{◌>>=◌}
use Rattle.stp_reader.specs.Judging.{contents_of, judge_opening, judge_outside, judge_no_header, judge_passed, judge_nodes, judge_arcs_count, judge_edges, with_link, judge_link, judge_arc, root_of, judge_count, unless, judge_need, judge_root_count, root_stated, judge_root_need, judge_line, judge}
use Rattle.stp_reader.proofs.Least.{answer, then_answer, scaled_answer}
use Rattle.stp_reader.proofs.WordReasons.{count_answer, nodes_answer, vertex_answer, link_answer, link_low, prize_answer, prize_low}

opening_answer : (s : Stated) (k : SectionName) → judge_opening s k ≡ answer (least (opening_reasons s k)) (after_opening s k)
opening_answer nothing name.Passed = refl
opening_answer nothing name.Unknown = refl
opening_answer nothing name.Graph = refl
opening_answer nothing name.Terminals = refl
opening_answer (graph g) name.Passed = refl
opening_answer (graph g) name.Unknown = refl
opening_answer (graph g) name.Graph = refl
opening_answer (graph g) name.Terminals = refl
opening_answer (digraph g) name.Passed = refl
opening_answer (digraph g) name.Unknown = refl
opening_answer (digraph g) name.Graph = refl
opening_answer (digraph g) name.Terminals = refl
opening_answer (whole c) name.Passed = refl
opening_answer (whole c) name.Unknown = refl
opening_answer (whole c) name.Graph = refl
opening_answer (whole c) name.Terminals = refl

eof_answer : (s : Stated) → (contents_of s >>= λ c. Ok (after_end c)) ≡ answer (least (missing s)) (after_eof s)
eof_answer nothing = refl
eof_answer (graph g) = refl
eof_answer (digraph g) = refl
eof_answer (whole c) = refl

outside_answer : (s : Stated) (f : Form) → judge_outside s f ≡ answer (least (outside_reasons s f)) (after_outside s f)
outside_answer s (section_line word) = opening_answer s (section_of word)
outside_answer s eof_line = eof_answer s
outside_answer s f = refl

no_header_answer : (f : Form) → judge_no_header f ≡ answer (least (no_header_reasons f)) (after_no_header f)
no_header_answer (section_line word) = opening_answer nothing (section_of word)
no_header_answer nameless_line = refl
no_header_answer f = refl

passed_answer : (s : Stated) (f : Form) → judge_passed s f ≡ after_passed s f
passed_answer s end_line = refl
passed_answer s f = refl

nodes_line_answer : (mode : Mode) (f : Form) → judge_nodes mode f ≡ answer (least (at_nodes_reasons mode f)) (after_nodes f)
nodes_line_answer mode (nodes_line word) = rw (nodes_answer word) (then_answer (least (nodes_reasons word)) (value word) at_edges)
nodes_line_answer Plain (section_line word) = refl
nodes_line_answer Plain nameless_line = refl
nodes_line_answer Plain eof_line = refl
nodes_line_answer Plain (arcs_line word) = refl
nodes_line_answer Plain (arc_line u v c) = refl
nodes_line_answer Plain bad_arcs_line = refl
nodes_line_answer Plain bad_arc_line = refl
nodes_line_answer Plain f = refl
nodes_line_answer Any (section_line word) = refl
nodes_line_answer Any nameless_line = refl
nodes_line_answer Any eof_line = refl
nodes_line_answer Any (arcs_line word) = refl
nodes_line_answer Any (arc_line u v c) = refl
nodes_line_answer Any bad_arcs_line = refl
nodes_line_answer Any bad_arc_line = refl
nodes_line_answer Any f = refl

arcs_count_answer : (mode : Mode) (n : ℕ) (word : List ℕ) → judge_arcs_count mode n word ≡ answer (least (arcs_count_reasons mode word)) (after_arcs_count mode n word)
arcs_count_answer Plain n word = refl
arcs_count_answer Any n word = rw (count_answer 4000000 word) (then_answer (least (count_reasons 4000000 word)) (value word) (λ m. at_arcs n m []))

edges_line_answer : (mode : Mode) (n : ℕ) (f : Form) → judge_edges mode n f ≡ answer (least (at_edges_reasons mode f)) (after_edges mode n f)
edges_line_answer mode n (edges_line word) = rw (count_answer 4000000 word) (then_answer (least (count_reasons 4000000 word)) (value word) (λ m. at_links n m []))
edges_line_answer mode n (arcs_line word) = arcs_count_answer mode n word
edges_line_answer Plain n (section_line word) = refl
edges_line_answer Plain n nameless_line = refl
edges_line_answer Plain n eof_line = refl
edges_line_answer Plain n (arc_line u v c) = refl
edges_line_answer Plain n bad_arcs_line = refl
edges_line_answer Plain n bad_arc_line = refl
edges_line_answer Plain n f = refl
edges_line_answer Any n (section_line word) = refl
edges_line_answer Any n nameless_line = refl
edges_line_answer Any n eof_line = refl
edges_line_answer Any n (arc_line u v c) = refl
edges_line_answer Any n bad_arcs_line = refl
edges_line_answer Any n bad_arc_line = refl
edges_line_answer Any n f = refl

-- whether an amount may not stand after these
abbrev breaks : List ℕ → ℕ → Bool
breaks before x = list_any is_fractional (x ∷ before) && list_any is_large (x ∷ before)

with_link_answer : (n : ℕ) (links : List Link) (u v c : List ℕ) → with_link n links u v c ≡ answer (least (added_reasons n links u v c)) (links ++ link_said u v c ∷ [])
with_link_answer n links u v c =
    rw (link_answer n u v c)
    (scaled_answer (vertex_reasons n u ++ vertex_reasons n v ++ amount_reasons c) (link_said u v c) (λ l. breaks (amounts_of links []) l.cost) (λ l. links ++ l ∷ []) (link_low n u v c))

-- the END after so many
end_answer : (p : Place) (b : Bool) → cond b (Ok p) (Err CountMismatch) ≡ answer (least (when (not b) CountMismatch)) p
end_answer p true = refl
end_answer p false = refl

link_line_answer : (n m : ℕ) (links : List Link) (f : Form) → judge_link n m links f ≡ answer (least (at_links_reasons n m links f)) (after_link n m links f)
link_line_answer n m links (edge_line u v c) = rw (with_link_answer n links u v c) (then_answer (least (added_reasons n links u v c)) (links ++ link_said u v c ∷ []) (at_links n m))
link_line_answer n m links end_line = end_answer (outside (graph (record { n = n; links = links }))) (length links == m)
link_line_answer n m links (section_line word) = refl
link_line_answer n m links nameless_line = refl
link_line_answer n m links eof_line = refl
link_line_answer n m links (arcs_line word) = refl
link_line_answer n m links (arc_line u v c) = refl
link_line_answer n m links bad_arcs_line = refl
link_line_answer n m links bad_arc_line = refl
link_line_answer n m links f = refl

arc_line_answer : (n m : ℕ) (arcs : List Link) (f : Form) → judge_arc n m arcs f ≡ answer (least (at_arcs_reasons n m arcs f)) (after_arc n m arcs f)
arc_line_answer n m arcs (arc_line u v c) = rw (with_link_answer n arcs u v c) (then_answer (least (added_reasons n arcs u v c)) (arcs ++ link_said u v c ∷ []) (at_arcs n m))
arc_line_answer n m arcs end_line = end_answer (outside (digraph (record { n = n; links = arcs }))) (length arcs == m)
arc_line_answer n m arcs (section_line word) = refl
arc_line_answer n m arcs nameless_line = refl
arc_line_answer n m arcs eof_line = refl
arc_line_answer n m arcs (edges_line word) = refl
arc_line_answer n m arcs (edge_line u v c) = refl
arc_line_answer n m arcs bad_edges_line = refl
arc_line_answer n m arcs f = refl

root_answer : (n : ℕ) (root : Option ℕ) (word : List ℕ) (f : ℕ → Place) → (root_of n root word >>= λ r. Ok (f r)) ≡ answer (least (root_reasons n root word)) (f (value word))
root_answer n None word f = rw (vertex_answer n word) (then_answer (least (vertex_reasons n word)) (value word) f)
root_answer n (Some r) word f = refl

count_line_answer : (g : Graph) (roots : Roots) (f : Form) → judge_count g roots f ≡ answer (least (at_count_reasons g roots f)) (after_count g roots f)
count_line_answer g roots (count_line word) = rw (count_answer 2000000 word) (then_answer (least (count_reasons 2000000 word)) (value word) (λ t. at_needs g t [] roots))
count_line_answer g roots (root_line word) = root_answer g.n roots.root word (λ r. at_count g (record roots { root = Some r }))
count_line_answer g roots (pinned_line word) = root_answer g.n roots.pinned word (λ v. at_count g (record roots { pinned = Some v }))
count_line_answer g roots (section_line word) = refl
count_line_answer g roots nameless_line = refl
count_line_answer g roots eof_line = refl
count_line_answer g roots f = refl

need_line_answer : (g : Graph) (t : ℕ) (needs : List (ℕ × Need)) (roots : Roots) (f : Form) → judge_need g t needs roots f ≡ answer (least (at_needs_reasons g t needs roots f)) (after_need g t needs roots f)
need_line_answer g t needs roots (terminal_line word) = rw (vertex_answer g.n word) (then_answer (least (vertex_reasons g.n word)) (value word) (λ v. at_needs g t (needs ++ (v, Required) ∷ []) roots))
need_line_answer g t needs roots (prize_line v p) =
    rw (prize_answer g.n needs v p)
    (scaled_answer (vertex_reasons g.n v ++ amount_reasons p ++ when (has_prize needs (value v)) RepeatedPrize) (value v, Pays (millionths p)) (λ e. breaks (amounts_of g.links needs) (prize e.1)) (λ e. at_needs g t (needs ++ e ∷ []) roots) (prize_low g.n needs v p))
need_line_answer g t needs roots (root_line word) = root_answer g.n roots.root word (λ r. at_needs g t needs (record roots { root = Some r }))
need_line_answer g t needs roots (pinned_line word) = root_answer g.n roots.pinned word (λ v. at_needs g t needs (record roots { pinned = Some v }))
need_line_answer g t needs roots end_line = by_case (outside (whole (undirected (record { n = g.n; links = g.links; needs = needs ++ pinned_need roots.pinned })))) (is_count t needs roots.pinned) (is_stray needs roots.pinned roots.root) ((length needs == 0) && is_none roots.pinned)
  where
    by_case : (p : Place) (a b c : Bool) → unless (cond (not a) (Some CountMismatch) (cond b (Some RootNotTerminal) (cond c (Some NoTerminals) None))) p ≡ answer (least (when (not a) CountMismatch ++ when b RootNotTerminal ++ when c NoTerminals)) p
    by_case p true true true = refl
    by_case p true true false = refl
    by_case p true false true = refl
    by_case p true false false = refl
    by_case p false true true = refl
    by_case p false true false = refl
    by_case p false false true = refl
    by_case p false false false = refl
need_line_answer g t needs roots (section_line word) = refl
need_line_answer g t needs roots nameless_line = refl
need_line_answer g t needs roots eof_line = refl
need_line_answer g t needs roots f = refl

root_count_line_answer : (g : Graph) (root : Option ℕ) (f : Form) → judge_root_count g root f ≡ answer (least (at_root_count_reasons g root f)) (after_root_count g root f)
root_count_line_answer g root (count_line word) = rw (count_answer 2000000 word) (then_answer (least (count_reasons 2000000 word)) (value word) (λ t. at_root_needs g t [] root))
root_count_line_answer g root (root_line word) = root_answer g.n root word (λ r. at_root_count g (Some r))
root_count_line_answer g root (section_line word) = refl
root_count_line_answer g root nameless_line = refl
root_count_line_answer g root eof_line = refl
root_count_line_answer g root f = refl

root_end_answer : (g : Graph) (t : ℕ) (terminals : List ℕ) (root : Option ℕ) (a b : Bool)
    → (cond (not a) (Err CountMismatch) (cond b (Err NoTerminals) (root_stated root)) >>= λ r. Ok (outside (whole (directed (record { n = g.n; arcs = g.links; root = r; terminals = terminals })))))
    ≡ answer (least (when (not a) CountMismatch ++ when b NoTerminals ++ when (is_none root) NoRoot)) (after_root_end g t terminals root)
root_end_answer g t terminals None true true = refl
root_end_answer g t terminals None true false = refl
root_end_answer g t terminals None false true = refl
root_end_answer g t terminals None false false = refl
root_end_answer g t terminals (Some r) true true = refl
root_end_answer g t terminals (Some r) true false = refl
root_end_answer g t terminals (Some r) false true = refl
root_end_answer g t terminals (Some r) false false = refl

root_need_line_answer : (g : Graph) (t : ℕ) (terminals : List ℕ) (root : Option ℕ) (f : Form) → judge_root_need g t terminals root f ≡ answer (least (at_root_needs_reasons g t terminals root f)) (after_root_need g t terminals root f)
root_need_line_answer g t terminals root (terminal_line word) = rw (vertex_answer g.n word) (then_answer (least (vertex_reasons g.n word)) (value word) (λ v. at_root_needs g t (terminals ++ v ∷ []) root))
root_need_line_answer g t terminals root (root_line word) = root_answer g.n root word (λ r. at_root_needs g t terminals (Some r))
root_need_line_answer g t terminals root end_line = root_end_answer g t terminals root (length terminals == t) (length terminals == 0)
root_need_line_answer g t terminals root (section_line word) = refl
root_need_line_answer g t terminals root nameless_line = refl
root_need_line_answer g t terminals root eof_line = refl
root_need_line_answer g t terminals root f = refl

header_answer : (b : Bool) (f : Form) → cond b (Ok (outside nothing)) (judge_no_header f) ≡ answer (least (cond b [] (no_header_reasons f))) (cond b (outside nothing) (after_no_header f))
header_answer true f = refl
header_answer false f = no_header_answer f

said_answer : (mode : Mode) (place : Place) (line : List (List ℕ)) → judge_line mode place line ≡ answer (least (said_reasons mode place line)) (after_said mode place line)
unfolding judge_line
said_answer mode at_header line = header_answer (list_any is_magic line) (form line)
said_answer mode (outside stated) line = outside_answer stated (form line)
said_answer mode (passed_over stated) line = ap (λ (p : Place). Ok p) (passed_answer stated (form line))
said_answer mode at_nodes line = nodes_line_answer mode (form line)
said_answer mode (at_edges n) line = edges_line_answer mode n (form line)
said_answer mode (at_links n m links) line = link_line_answer n m links (form line)
said_answer mode (at_arcs n m arcs) line = arc_line_answer n m arcs (form line)
said_answer mode (at_count g roots) line = count_line_answer g roots (form line)
said_answer mode (at_needs g t needs roots) line = need_line_answer g t needs roots (form line)
said_answer mode (at_root_count g root) line = root_count_line_answer g root (form line)
said_answer mode (at_root_needs g t terminals root) line = root_need_line_answer g t terminals root (form line)
said_answer mode (after_end c) line = refl

-- a line is judged by the least of its reasons
pub judge_answer : (mode : Mode) (place : Place) (line : List (List ℕ)) → judge mode place line ≡ answer (least (reasons mode place line)) (after mode place line)
unfolding judge
judge_answer mode place [] = refl
judge_answer mode place (word ∷ args) = by_case (is_remark word)
  where
    by_case : (b : Bool) → cond b (Ok place) (judge_line mode place (word ∷ args)) ≡ answer (least (cond b [] (said_reasons mode place (word ∷ args)))) (cond b place (after_said mode place (word ∷ args)))
    by_case true = refl
    by_case false = said_answer mode place (word ∷ args)
