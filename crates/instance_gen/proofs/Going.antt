-- Lines that lead from one place of a text to another, each rightly.
use Rattle.std.proofs.Common.{◌≡◌, ℕ, ◌^◌, ◌<◌, ◌≤◌, true, false, eqb, List, [], ◌∷◌, ◌++◌, length, refl, sym, ap, ◌∙◌, subst, arith}
use Rattle.std.specs.Fmt.{decimal}
use Rattle.std.specs.Prelude.{codes}
use Rattle.std.proofs.lemmas.Bool.{and_from, and_parts}
use Rattle.std.proofs.lemmas.Bool.Decides.{nat_tests}
use Rattle.std.proofs.lemmas.List.{append-nil}
use Rattle.amounts.proofs.Decimals.{value_decimal}
use Rattle.st_model.specs.declared.link.Link.{Link}
use Rattle.st_model.specs.declared.need.Need.{Need}
use Rattle.stp_reader.specs.declared.mode.Mode.TheVariants.{Plain}
use Rattle.stp_reader.specs.declared.reason.Reason.{Reason}
use Rattle.stp_reader.specs.Words.{keyword_of, section_of}
use Rattle.stp_reader.specs.Forms.{form_of}
use Rattle.stp_reader.specs.Place.{Graph, undirected, Place, nothing, graph, whole, no_roots, at_header, outside, at_nodes, at_edges, at_links, at_count, at_needs, after_end, after, after_all}
use Rattle.stp_reader.specs.Reasons.{reasons}
use Rattle.stp_reader.specs.Reads.{AllRight}
use Rattle.instance_gen.specs.Text.{header, section_line, number_line, end_line}
use Rattle.stp_reader.proofs.WrittenWords.{is_plain, plain_decimal}
use Rattle.instance_gen.proofs.Spelled.{is_spelled, are_spelled}
use Rattle.instance_gen.proofs.Said.{count_right, nodes_right}

-- no line has a reason, the last leads to this place, and all are spelled
pub record Goes (place : Place) (lines : List (List (List ℕ))) (next : Place) : Type 0 where
  pub right : AllRight Plain place lines
  pub leads : after_all Plain place lines ≡ next
  pub spelled : are_spelled lines ≡ true

pub one_line : (place next : Place) (line : List (List ℕ)) → reasons Plain place line ≡ [] → after Plain place line ≡ next → is_spelled line ≡ true → Goes place (line ∷ []) next
one_line place next line none to spelled = record { right = (none, tt); leads = to; spelled = and_from (is_spelled line) true spelled refl }

pub no_line : (place : Place) → Goes place [] place
no_line place = record { right = tt; leads = refl; spelled = refl }

pub goes_to : {place next other : Place} {lines : List (List (List ℕ))} → Goes place lines next → next ≡ other → Goes place lines other
goes_to {place} {next} {other} {lines} g e = record { right = g.right; leads = g.leads ∙ e; spelled = g.spelled }

all_go : (place next last : Place) (lines others : List (List (List ℕ))) → AllRight Plain place lines → after_all Plain place lines ≡ next → are_spelled lines ≡ true
    → Goes next others last → Goes place (lines ++ others) last
all_go place next last [] others right leads spelled g = subst (λ p. Goes p others last) (sym leads) g
all_go place next last (line ∷ lines) others right leads spelled g =
    let p = and_parts (is_spelled line) (are_spelled lines) spelled in
    let rest = all_go (after Plain place line) next last lines others right.1 leads p.1 g in
    record { right = (right.0, rest.right); leads = rest.leads; spelled = and_from (is_spelled line) (are_spelled (lines ++ others)) p.0 rest.spelled }

infixl 10 ◌onto◌
pub ◌onto◌ : {place next last : Place} {lines others : List (List (List ℕ))} → Goes place lines next → Goes next others last → Goes place (lines ++ others) last
◌onto◌ {place} {next} {last} {lines} {others} first second = all_go place next last lines others first.right first.leads first.spelled second

-- ---- outside the lists

pub header_goes : Goes at_header (header ∷ []) (outside nothing)
header_goes = one_line at_header (outside nothing) header refl refl refl

pub graph_goes : Goes (outside nothing) (section_line (codes "Graph") ∷ []) at_nodes
unfolding keyword_of section_of form_of
graph_goes = one_line (outside nothing) at_nodes (section_line (codes "Graph")) refl refl refl

-- a keyword and a number is spelled, where the keyword is plain
number_spelled : (keyword : List ℕ) (n : ℕ) → is_plain keyword ≡ true → n < 2 ^ 64 → is_spelled (number_line keyword n) ≡ true
number_spelled keyword n plain small = and_from (is_plain keyword) (is_plain (decimal n)) plain (plain_decimal n small)

pub nodes_go : (n : ℕ) → 1 ≤ n → n ≤ 1000000 → Goes at_nodes (number_line (codes "Nodes") n ∷ []) (at_edges n)
unfolding keyword_of form_of
nodes_go n some few = one_line at_nodes (at_edges n) (number_line (codes "Nodes") n) (nodes_right n some few) (ap at_edges (value_decimal n (omega arith)))
    (number_spelled (codes "Nodes") n refl (omega arith))

pub edges_go : (n m : ℕ) → m ≤ 4000000 → Goes (at_edges n) (number_line (codes "Edges") m ∷ []) (at_links n m [])
unfolding keyword_of form_of
edges_go n m few = one_line (at_edges n) (at_links n m []) (number_line (codes "Edges") m) (count_right 4000000 m few (omega arith))
    (ap (λ k. at_links n k []) (value_decimal m (omega arith))) (number_spelled (codes "Edges") m refl (omega arith))

pub graph_ends : (n m : ℕ) (links : List Link) → length links ≡ m → Goes (at_links n m links) (end_line ∷ []) (outside (graph (record { n = n; links = links })))
unfolding keyword_of form_of
graph_ends n m links all = let same : eqb (length links) m ≡ true = grind (arith, nat_tests) in one_line (at_links n m links)
    (outside (graph (record { n = n; links = links }))) end_line (rw same refl) refl refl

pub terminals_go : (g : Graph) → Goes (outside (graph g)) (section_line (codes "Terminals") ∷ []) (at_count g no_roots)
unfolding keyword_of section_of form_of
terminals_go g = one_line (outside (graph g)) (at_count g no_roots) (section_line (codes "Terminals")) refl refl refl

pub count_goes : (g : Graph) (t : ℕ) → t ≤ 2000000 → Goes (at_count g no_roots) (number_line (codes "Terminals") t ∷ []) (at_needs g t [] no_roots)
unfolding keyword_of form_of
count_goes g t few = one_line (at_count g no_roots) (at_needs g t [] no_roots) (number_line (codes "Terminals") t) (count_right 2000000 t few (omega arith))
    (ap (λ k. at_needs g k [] no_roots) (value_decimal t (omega arith))) (number_spelled (codes "Terminals") t refl (omega arith))

pub needs_end : (g : Graph) (t : ℕ) (needs : List (ℕ × Need)) → length needs ≡ t → 1 ≤ t
    → Goes (at_needs g t needs no_roots) (end_line ∷ []) (outside (whole (undirected (record { n = g.n; links = g.links; needs = needs }))))
unfolding keyword_of form_of
needs_end g t needs all some =
    let same : eqb (length needs) t ≡ true = grind (arith, nat_tests) in
    let above : eqb (length needs) 0 ≡ false = grind (arith, nat_tests) in
    one_line (at_needs g t needs no_roots) (outside (whole (undirected (record { n = g.n; links = g.links; needs = needs })))) end_line (rw (same, above) refl)
    (ap (λ (es : List (ℕ × Need)). outside (whole (undirected (record { n = g.n; links = g.links; needs = es })))) (append-nil needs)) refl

pub text_ends : (n : ℕ) (links : List Link) (needs : List (ℕ × Need))
    → Goes (outside (whole (undirected (record { n = n; links = links; needs = needs })))) ((codes "EOF" ∷ []) ∷ []) (after_end (undirected (record { n = n; links = links; needs = needs })))
unfolding keyword_of form_of
text_ends n links needs = one_line (outside (whole (undirected (record { n = n; links = links; needs = needs })))) (after_end (undirected (record { n = n; links = links; needs = needs }))) (codes "EOF" ∷ []) refl refl refl

-- ---- links

pub no_reasons : (ws xs ys zs : List Reason) → ws ≡ [] → xs ≡ [] → ys ≡ [] → zs ≡ [] → ws ++ xs ++ ys ++ zs ≡ []
no_reasons ws xs ys zs o p q r = rw (o, p, q, r) refl

pub same_link : (l : Link) (a b c : ℕ) → a ≡ l.a → b ≡ l.b → c ≡ l.cost → record { a = a; b = b; cost = c } ≡ l
same_link l a b c p q r = rw (p, q, r) refl
