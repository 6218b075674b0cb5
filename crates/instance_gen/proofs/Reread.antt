-- What is written is read as the same instance.
use Rattle.std.proofs.Common.{◌≡◌, ℕ, zero, suc, ◌+◌, ◌≤◌, Bool, true, false, cond, List, [], ◌∷◌, ◌++◌, length, map, refl, sym, ap, ◌∙◌, subst, length-append, arith}
use Rattle.std.proofs.lemmas.List.{map-append, length-map}
use Rattle.std.proofs.lemmas.List.Elements.{All-nil, recursion_from_All}
use Rattle.amounts.specs.declared.scale.Scale.{Scale}
use Rattle.st_model.specs.declared.need.Need.{Need}
use Rattle.st_model.specs.Network.{Network, IsInstance, IsLinkBetween, is_needed, need_of}
use Rattle.st_model.specs.Stated.{network_of}
use Rattle.stp_reader.specs.Lines.{word_lines}
use Rattle.stp_reader.specs.declared.mode.Mode.TheVariants.{Plain}
use Rattle.stp_reader.specs.Place.{File, undirected, at_header, outside, graph, whole, after_end}
use Rattle.stp_reader.specs.Reads.{IsRead, contents_at}
use Rattle.stp_reader.specs.Unit.{link_in, stated_in}
use Rattle.instance_gen.specs.Laws.{WrittenAreRead}
use Rattle.instance_gen.specs.Text.{FitsFile, is_paying, those_of, at_least_one, written_needs, need_line, terminal_lines, graph_lines, header, stp_lines, stp_text}
use Rattle.instance_gen.proofs.Scaled.{said_link, said_links, said_needs, said_graph, links_again, needs_again}
use Rattle.instance_gen.proofs.Told.{unit_told}
use Rattle.instance_gen.proofs.Spelled.{words_of_text}
use Rattle.instance_gen.proofs.Going.{Goes, ◌onto◌, header_goes, graph_goes, nodes_go, edges_go, graph_ends, terminals_go, count_goes, needs_end, text_ends}
use Rattle.instance_gen.proofs.GoingOver.{after_needs, graph_of, links_go, those_go, those_low, some_need_goes, required_unpaid}
use Rattle.instance_gen.proofs.Restated.{asked, those_next, same_network}

few_asked : (I : Network) (test : Need → Bool) (k : ℕ) → length (asked I test k) ≤ 1
few_asked I test k = by_case (test (need_of I k))
  where
    by_case : (b : Bool) → length {A = ℕ × Need} (cond b ((k, need_of I k) ∷ []) []) ≤ 1
    by_case true = omega arith
    by_case false = omega arith

few_those : (I : Network) (test : Need → Bool) (k : ℕ) → length (those_of I test k) ≤ k
few_those I test zero = omega arith
few_those I test (suc k) =
    let long : length (those_of I test (suc k)) ≡ length (those_of I test k) + length (asked I test (suc k)) = ap length (those_next I test k)
    ∙ length-append (those_of I test k) (asked I test (suc k)) in
    let before = few_those I test k in
    let one = few_asked I test (suc k) in
    omega (arith, long, before, one)

some_written : (es : List (ℕ × Need)) → 1 ≤ length (at_least_one es)
some_written [] = omega arith
some_written (e ∷ es) = omega arith

few_written : (es : List (ℕ × Need)) (limit : ℕ) → 1 ≤ limit → length es ≤ limit → length (at_least_one es) ≤ limit
few_written [] limit some few = some
few_written (e ∷ es) limit some few = few

-- what the text states, with its costs and prizes in millionths
abbrev file_of : Network → Scale → File
file_of I scale = record { n = I.n; links = said_links scale I.links; needs = said_needs scale (written_needs I) }

few_needs : (I : Network) → IsInstance I → length (written_needs I) ≤ 2000000
few_needs I i =
    let required = few_those I is_needed I.n in
    let paying = few_those I is_paying I.n in
    let both : length (those_of I is_needed I.n ++ those_of I is_paying I.n) ≡ length (those_of I is_needed I.n) + length (those_of I is_paying I.n) = length-append
    (those_of I is_needed I.n) (those_of I is_paying I.n) in
    let few = i.few_vertices in
    few_written (those_of I is_needed I.n ++ those_of I is_paying I.n) 2000000 (omega arith) (omega (arith, required, paying, both, few))

all_needs_go : (I : Network) (scale : Scale) (t : ℕ) → IsInstance I → FitsFile I scale
    → Goes (after_needs scale (graph_of I) t []) (map (λ e. need_line e scale) (written_needs I)) (after_needs scale (graph_of I) t (written_needs I))
all_needs_go I scale t i fits =
    let required = those_go I scale t [] is_needed I.n i fits (All-nil _) (λ v. refl) (omega arith) in
    let paying = those_go I scale t (those_of I is_needed I.n) is_paying I.n i fits (those_low I scale is_needed I.n fits) (required_unpaid I I.n) (omega arith) in
    let both = required onto paying in
    some_need_goes scale (graph_of I) t (those_of I is_needed I.n ++ those_of I is_paying I.n) i.some_vertex i.few_vertices fits.low_costs
    (rw (map-append (λ e. need_line e scale) (those_of I is_needed I.n) (those_of I is_paying I.n)) both)

graph_section : (I : Network) (scale : Scale) → IsInstance I → FitsFile I scale → Goes at_header (header ∷ graph_lines I.n I.links scale) (outside (graph (said_graph scale (graph_of I))))
graph_section I scale i fits =
    let links = links_go scale I.n (length I.links) [] I.links i.few_vertices (recursion_from_All (IsLinkBetween I.n) I.links i.ends) (All-nil _) (recursion_from_All _ I.links fits.low_costs) in
    header_goes onto graph_goes onto nodes_go I.n i.some_vertex i.few_vertices onto edges_go I.n (length I.links) fits.few_links
    onto links onto graph_ends I.n (length I.links) (said_links scale I.links) (length-map I.links (said_link scale))

terminals_section : (I : Network) (scale : Scale) → IsInstance I → FitsFile I scale
    → Goes (outside (graph (said_graph scale (graph_of I)))) (terminal_lines (written_needs I) scale) (outside (whole (undirected (file_of I scale))))
terminals_section I scale i fits =
    terminals_go (said_graph scale (graph_of I)) onto count_goes (said_graph scale (graph_of I)) (length (written_needs I)) (few_needs I i) onto all_needs_go I scale
    (length (written_needs I)) i fits onto needs_end (said_graph scale (graph_of I)) (length (written_needs I)) (said_needs scale (written_needs I))
    (length-map {B = ℕ × Need} (written_needs I) _) (some_written (those_of I is_needed I.n ++ those_of I is_paying I.n))

all_lines_go : (I : Network) (scale : Scale) → IsInstance I → FitsFile I scale → Goes at_header (stp_lines I scale) (after_end (undirected (file_of I scale)))
all_lines_go I scale i fits = graph_section I scale i fits onto (terminals_section I scale i fits onto text_ends I.n (said_links scale I.links) (said_needs scale (written_needs I)))

pub written_are_read : WrittenAreRead
unfolding stp_text
written_are_read I scale i fits =
    let goes = all_lines_go I scale i fits in
    let lines : word_lines (stp_text I scale) ≡ stp_lines I scale = words_of_text (stp_lines I scale) goes.spelled in
    let read : IsRead Plain (stp_lines I scale) (undirected (file_of I scale)) = record { right = goes.right; contents = ap contents_at goes.leads } in
    let unit = unit_told I scale i fits in
    (file_of I scale, subst (λ ls. IsRead Plain ls (undirected (file_of I scale))) (sym lines) read, same_again ∙ sym (ap network_at unit), sym unit)
  where
    -- the instance of the file, if this is its unit
    network_at : Scale → Network
    network_at unit = network_of I.n (map (link_in unit) (said_links scale I.links)) (map (stated_in unit) (said_needs scale (written_needs I)))

    same_again : I ≡ network_at scale
    same_again = same_network I i ∙ ap (λ ls. network_of I.n ls (written_needs I)) (sym (links_again scale I.links))
        ∙ ap (network_of I.n (map (link_in scale) (said_links scale I.links))) (sym (needs_again scale (written_needs I)))
