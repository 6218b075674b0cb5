-- The lines of a written solution lead from one place to another, each rightly.
use Rattle.std.proofs.Common.{◌≡◌, ℕ, ◌*◌, ◌^◌, ◌<◌, ◌≤◌, Bool, true, false, cond, not, eqb, List, [], ◌∷◌, ◌++◌, length, map, Option, Some, None, refl, sym, ap, ◌∙◌, subst, append_assoc, arith}
use Rattle.std.specs.Fmt.{decimal}
use Rattle.std.specs.List.{AllByRecursion}
use Rattle.std.specs.Prelude.{codes}
use Rattle.std.proofs.lemmas.Bool.{and_from, and_parts}
use Rattle.std.proofs.lemmas.Bool.Decides.{nat_tests}
use Rattle.std.proofs.lemmas.List.{append-nil}
use Rattle.plain_text.specs.Numbers.{value}
use Rattle.plain_text.proofs.Lacking.{lacks, lacks-append, lacks-decimal, are_whole}
use Rattle.amounts.specs.declared.scale.Scale.{Scale}
use Rattle.amounts.specs.Text.{amount_text}
use Rattle.amounts.specs.Laws.{unit}
use Rattle.amounts.proofs.Decimals.{value_decimal}
use Rattle.amounts.proofs.Reread.{lacks-amount_text}
use Rattle.stp_reader.specs.Lines.{words, word_lines, is_remark}
use Rattle.dimacs_writer.specs.Solution.{number_line, amount_line, quoted_line, name_byte, remark, comment_lines, solutions_lines, run_lines, tree_lines, vertex_line, edge_line, header, solution_text_of}
use Rattle.solution_reader.specs.declared.keyword.Keyword.TheVariants.{Other}
use Rattle.solution_reader.specs.Words.{keyword_of, section_of}
use Rattle.solution_reader.specs.Forms.{form_of}
use Rattle.solution_reader.specs.declared.reason.SolReason.{SolReason}
use Rattle.solution_reader.specs.Reason.{or_else}
use Rattle.solution_reader.specs.Place.{Final, Got, Whole, Place, nothing, no_lines, with_primal, at_header, outside, passed_over, in_run, in_final, after_end, after, after_all}
use Rattle.solution_reader.specs.Reasons.{reason, repeated}
use Rattle.solution_reader.specs.Reads.{AllRight, IsRead, whole_at}
use Rattle.stp_reader.proofs.WrittenWords.{one_more_word, no_cr}
use Rattle.solution_reader.proofs.WrittenWords.{line_words, lines_written, quote_last, number_right, primal_written, amount_whole, amount_words, number_whole, number_words, numbers_words}

-- no line has a reason, the last leads to this place, and none has an end within it
pub record Goes (place : Place) (lines : List (List ℕ)) (next : Place) : Type 0 where
  pub right : AllRight place (map line_words lines)
  pub leads : after_all place (map line_words lines) ≡ next
  pub whole : are_whole lines ≡ true

one_line : (place next : Place) (line : List ℕ) (ws : List (List ℕ)) → line_words line ≡ ws → reason place ws ≡ None → after place ws ≡ next → lacks 10 line ≡ true → Goes place (line ∷ []) next
one_line place next line ws are none to whole = record {
  right = (subst (λ (w : List (List ℕ)). reason place w ≡ None) (sym are) none, tt);
  leads = ap (after place) are ∙ to;
  whole = and_from (lacks 10 line) true whole refl;
}

no_line : (place : Place) → Goes place [] place
no_line place = record { right = tt; leads = refl; whole = refl }

goes_to : {place next other : Place} {lines : List (List ℕ)} → Goes place lines next → next ≡ other → Goes place lines other
goes_to {place} {next} {other} {lines} g e = record { right = g.right; leads = g.leads ∙ e; whole = g.whole }

all_go : (place next last : Place) (lines others : List (List ℕ)) → AllRight place (map line_words lines) → after_all place (map line_words lines) ≡ next → are_whole lines ≡ true
    → Goes next others last → Goes place (lines ++ others) last
all_go place next last [] others right leads whole g = subst (λ p. Goes p others last) (sym leads) g
all_go place next last (line ∷ lines) others right leads whole g =
    let p = and_parts (lacks 10 line) (are_whole lines) whole in
    let rest = all_go (after place (line_words line)) next last lines others right.1 leads p.1 g in
    record { right = (right.0, rest.right); leads = rest.leads; whole = and_from (lacks 10 line) (are_whole (lines ++ others)) p.0 rest.whole }

infixl 10 ◌onto◌
◌onto◌ : {place next last : Place} {lines others : List (List ℕ)} → Goes place lines next → Goes next others last → Goes place (lines ++ others) last
◌onto◌ {place} {next} {last} {lines} {others} first second = all_go place next last lines others first.right first.leads first.whole second

-- ---- sections that are passed over

-- a line whose first word is no keyword is passed over
passed_line : (got : Got) (line word : List ℕ) (args : List (List ℕ)) → line_words line ≡ word ∷ args → keyword_of word ≡ Other → is_remark word ≡ false → lacks 10 line ≡ true
    → Goes (passed_over got) (line ∷ []) (passed_over got)
unfolding form_of
passed_line got line word args are other plain whole = one_line (passed_over got) (passed_over got) line (word ∷ args) are (rw plain refl) (rw (plain, other) refl) whole

run_line : (got : Got) (line word : List ℕ) (args : List (List ℕ)) → line_words line ≡ word ∷ args → keyword_of word ≡ Other → is_remark word ≡ false → lacks 10 line ≡ true
    → Goes (in_run got) (line ∷ []) (in_run got)
unfolding form_of
run_line got line word args are other plain whole = one_line (in_run got) (in_run got) line (word ∷ args) are (rw plain refl) (rw (plain, other) refl) whole

header_goes : Goes at_header (header ∷ []) (outside nothing)
header_goes = one_line at_header (outside nothing) header (line_words header) refl refl refl refl

name_lacks : (name : List ℕ) → lacks 10 (map name_byte name) ≡ true
name_lacks [] = refl
name_lacks (b ∷ bs) = and_from (not (eqb (name_byte b) 10)) (lacks 10 (map name_byte bs)) (one b) (name_lacks bs)
  where
    one : (b : ℕ) → not (eqb (name_byte b) 10) ≡ true
    one b = grind (arith, nat_tests)

name_goes : (got : Got) (name : List ℕ) → Goes (passed_over got) (quoted_line (codes "Name") (map name_byte name) ∷ []) (passed_over got)
unfolding keyword_of
name_goes got name =
    let text = map name_byte name in
    let regrouped : quoted_line (codes "Name") text ≡ codes "Name" ++ 32 ∷ (34 ∷ text ++ 34 ∷ []) = append_assoc (codes "Name") (32 ∷ 34 ∷ text) (34 ∷ []) in
    let are : line_words (quoted_line (codes "Name") text) ≡ codes "Name" ∷ words (34 ∷ text ++ 34 ∷ []) = ap words (quote_last (codes "Name" ++ 32 ∷ 34 ∷ text) ∙ regrouped)
    ∙ one_more_word (codes "Name") (34 ∷ text ++ 34 ∷ []) refl in
    passed_line got (quoted_line (codes "Name") text) (codes "Name") (words (34 ∷ text ++ 34 ∷ [])) are refl refl
    (lacks-append 10 (codes "Name" ++ 32 ∷ 34 ∷ text) (34 ∷ []) (lacks-append 10 (codes "Name") (32 ∷ 34 ∷ text) refl (name_lacks name)) refl)

remark_case : (got : Got) (b : Bool) → Goes (passed_over got) (quoted_line (codes "Remark") (cond b (codes "optimal") (codes "budget")) ∷ []) (passed_over got)
unfolding keyword_of
remark_case got true = passed_line got (quoted_line (codes "Remark") (codes "optimal")) (codes "Remark") (words (34 ∷ codes "optimal" ++ 34 ∷ [])) refl refl refl refl
remark_case got false = passed_line got (quoted_line (codes "Remark") (codes "budget")) (codes "Remark") (words (34 ∷ codes "budget" ++ 34 ∷ [])) refl refl refl refl

remark_goes : (got : Got) (dual primal : ℕ) → Goes (passed_over got) (quoted_line (codes "Remark") (remark dual primal) ∷ []) (passed_over got)
remark_goes got dual primal = remark_case got (eqb dual primal)

passed_ends : (got : Got) → Goes (passed_over got) (codes "END" ∷ []) (outside got)
unfolding keyword_of form_of
passed_ends got = one_line (passed_over got) (outside got) (codes "END") (codes "END" ∷ []) refl refl refl refl

-- a line SECTION of another name than Run and Finalsolution
comment_opens : Goes (outside nothing) (codes "SECTION Comment" ∷ []) (passed_over nothing)
unfolding keyword_of section_of form_of
comment_opens = one_line (outside nothing) (passed_over nothing) (codes "SECTION Comment") (codes "SECTION" ∷ codes "Comment" ∷ []) refl refl refl refl

program_goes : Goes (passed_over nothing) (quoted_line (codes "Program") (codes "steiner") ∷ []) (passed_over nothing)
unfolding keyword_of
program_goes = passed_line nothing (quoted_line (codes "Program") (codes "steiner")) (codes "Program") (words (34 ∷ codes "steiner" ++ 34 ∷ [])) refl refl refl refl

comment_goes : (name : List ℕ) (dual primal : ℕ) → Goes (outside nothing) (comment_lines name dual primal) (outside nothing)
comment_goes name dual primal = comment_opens onto name_goes nothing name onto program_goes onto remark_goes nothing dual primal onto passed_ends nothing

solutions_opens : Goes (outside nothing) (codes "SECTION Solutions" ∷ []) (passed_over nothing)
unfolding keyword_of section_of form_of
solutions_opens = one_line (outside nothing) (passed_over nothing) (codes "SECTION Solutions") (codes "SECTION" ∷ codes "Solutions" ∷ []) refl refl refl refl

solution_goes : (primal : ℕ) (scale : Scale) → Goes (passed_over nothing) (amount_line (codes "Solution 0") primal scale ∷ []) (passed_over nothing)
unfolding keyword_of
solution_goes primal scale =
    let line = amount_line (codes "Solution 0") primal scale in
    let rest = codes "0" ++ 32 ∷ amount_text primal scale in
    let same : line ≡ codes "Solution" ++ 32 ∷ rest = refl in
    let lacking : lacks 13 line ≡ true = lacks-append 13 (codes "Solution 0") (32 ∷ amount_text primal scale) refl (lacks-amount_text 13 primal scale (omega arith)) in
    let are : line_words line ≡ codes "Solution" ∷ words rest = ap words (no_cr line lacking ∙ same) ∙ one_more_word (codes "Solution") rest refl in
    passed_line nothing line (codes "Solution") (words rest) are refl refl (amount_whole (codes "Solution 0") primal scale refl)

solutions_go : (primal : ℕ) (scale : Scale) → Goes (outside nothing) (solutions_lines primal scale) (outside nothing)
solutions_go primal scale = solutions_opens onto solution_goes primal scale onto passed_ends nothing

-- ---- Run

-- what is stated when Run has begun, and when it has said the primal, in millionths
abbrev ran : Got
ran = record { run = true; primal = None; final = None }

abbrev pub priced : ℕ → Got
priced p = record { run = true; primal = Some p; final = None }

run_opens : Goes (outside nothing) (codes "SECTION Run" ∷ []) (in_run ran)
unfolding keyword_of section_of form_of
run_opens = one_line (outside nothing) (in_run ran) (codes "SECTION Run") (codes "SECTION" ∷ codes "Run" ∷ []) refl refl refl refl

threads_go : (workers : ℕ) → workers < 2 ^ 64 → Goes (in_run ran) (number_line (codes "Threads") workers ∷ []) (in_run ran)
unfolding keyword_of
threads_go workers small = run_line ran (number_line (codes "Threads") workers) (codes "Threads") (decimal workers ∷ []) (number_words (codes "Threads") workers small refl refl) refl refl
    (number_whole (codes "Threads") workers refl)

time_goes : Goes (in_run ran) (codes "Time 0" ∷ []) (in_run ran)
unfolding keyword_of
time_goes = run_line ran (codes "Time 0") (codes "Time") (codes "0" ∷ []) refl refl refl refl

dual_goes : (dual : ℕ) (scale : Scale) → dual < 2 ^ 64 → Goes (in_run ran) (amount_line (codes "Dual") dual scale ∷ []) (in_run ran)
unfolding keyword_of
dual_goes dual scale small = run_line ran (amount_line (codes "Dual") dual scale) (codes "Dual") (amount_text dual scale ∷ []) (amount_words (codes "Dual") dual scale small refl refl) refl refl
    (amount_whole (codes "Dual") dual scale refl)

primal_goes : (primal : ℕ) (scale : Scale) → primal < 2 ^ 64 → Goes (in_run ran) (amount_line (codes "Primal") primal scale ∷ []) (in_run (priced (primal * unit scale)))
unfolding keyword_of form_of
primal_goes primal scale small = one_line (in_run ran) (in_run (priced (primal * unit scale))) (amount_line (codes "Primal") primal scale) (codes "Primal" ∷ amount_text primal scale ∷ [])
    (amount_words (codes "Primal") primal scale small refl refl) refl (ap (λ (o : Option ℕ). in_run (with_primal ran o)) (primal_written primal scale small)) (amount_whole (codes "Primal") primal scale refl)

run_ends : (got : Got) → Goes (in_run got) (codes "END" ∷ []) (outside got)
unfolding keyword_of form_of
run_ends got = one_line (in_run got) (outside got) (codes "END") (codes "END" ∷ []) refl refl refl refl

run_goes : (workers dual primal : ℕ) (scale : Scale) → workers < 2 ^ 64 → dual < 2 ^ 64 → primal < 2 ^ 64
    → Goes (outside nothing) (run_lines workers dual primal scale) (outside (priced (primal * unit scale)))
run_goes workers dual primal scale few low small = run_opens onto threads_go workers few onto time_goes onto dual_goes dual scale low onto primal_goes primal scale small
    onto run_ends (priced (primal * unit scale))

-- ---- Finalsolution

-- what its lines have stated so far, before and after the line Edges
abbrev listed : ℕ → List ℕ → Final
listed k vertices = record { count = Some k; vertices = vertices; edge_count = None; edges = [] }

abbrev pub both_listed : ℕ → List ℕ → ℕ → List (ℕ × ℕ) → Final
both_listed k vertices m edges = record { count = Some k; vertices = vertices; edge_count = Some m; edges = edges }

final_opens : (got : Got) → got.final ≡ None → Goes (outside got) (codes "SECTION Finalsolution" ∷ []) (in_final got no_lines)
unfolding keyword_of section_of form_of
final_opens got none = one_line (outside got) (in_final got no_lines) (codes "SECTION Finalsolution") (codes "SECTION" ∷ codes "Finalsolution" ∷ []) refl (ap repeated none) refl refl

count_goes : (got : Got) (k : ℕ) → k ≤ 1000000 → Goes (in_final got no_lines) (number_line (codes "Vertices") k ∷ []) (in_final got (listed k []))
unfolding keyword_of form_of
count_goes got k few = one_line (in_final got no_lines) (in_final got (listed k [])) (number_line (codes "Vertices") k) (codes "Vertices" ∷ decimal k ∷ [])
    (number_words (codes "Vertices") k (omega arith) refl refl) (number_right 1000000 k few (omega arith)) (ap (λ (n : ℕ). in_final got (listed n [])) (value_decimal k (omega arith)))
    (number_whole (codes "Vertices") k refl)

vertex_goes : (got : Got) (k : ℕ) (before : List ℕ) (v : ℕ) → v ≤ 1000000 → Goes (in_final got (listed k before)) (vertex_line v ∷ []) (in_final got (listed k (before ++ v ∷ [])))
unfolding keyword_of form_of
vertex_goes got k before v few = one_line (in_final got (listed k before)) (in_final got (listed k (before ++ v ∷ []))) (vertex_line v) (codes "V" ∷ decimal v ∷ [])
    (number_words (codes "V") v (omega arith) refl refl) (number_right 1000000 v few (omega arith)) (ap (λ (n : ℕ). in_final got (listed k (before ++ n ∷ []))) (value_decimal v (omega arith)))
    (number_whole (codes "V") v refl)

vertices_go : (got : Got) (k : ℕ) (before vs : List ℕ) → AllByRecursion (λ v. v ≤ 1000000) vs → Goes (in_final got (listed k before)) (map vertex_line vs) (in_final got (listed k (before ++ vs)))
vertices_go got k before [] few = goes_to (no_line (in_final got (listed k before))) (ap (λ (vs : List ℕ). in_final got (listed k vs)) (sym (append-nil before)))
vertices_go got k before (v ∷ vs) few = goes_to (vertex_goes got k before v few.0 onto vertices_go got k (before ++ v ∷ []) vs few.1) (ap (λ (ws : List ℕ). in_final got (listed k ws))
    (append_assoc before (v ∷ []) vs))

edge_count_goes : (got : Got) (k : ℕ) (vs : List ℕ) (m : ℕ) → m ≤ 4000000 → Goes (in_final got (listed k vs)) (number_line (codes "Edges") m ∷ []) (in_final got (both_listed k vs m []))
unfolding keyword_of form_of
edge_count_goes got k vs m few = one_line (in_final got (listed k vs)) (in_final got (both_listed k vs m [])) (number_line (codes "Edges") m) (codes "Edges" ∷ decimal m ∷ [])
    (number_words (codes "Edges") m (omega arith) refl refl) (number_right 4000000 m few (omega arith)) (ap (λ (n : ℕ). in_final got (both_listed k vs n [])) (value_decimal m (omega arith)))
    (number_whole (codes "Edges") m refl)

no_reason : (o p : Option SolReason) → o ≡ None → p ≡ None → or_else o p ≡ None
no_reason o p h k = rw (h, k) refl

-- an edge of two numbers
abbrev pair : ℕ → ℕ → ℕ × ℕ
pair a b = (a, b)

edge_goes : (got : Got) (k : ℕ) (vs : List ℕ) (m : ℕ) (before : List (ℕ × ℕ)) (e : ℕ × ℕ) → e.0 ≤ 1000000 → e.1 ≤ 1000000
    → Goes (in_final got (both_listed k vs m before)) (edge_line e ∷ []) (in_final got (both_listed k vs m (before ++ e ∷ [])))
unfolding keyword_of form_of
edge_goes got k vs m before e first second = one_line (in_final got (both_listed k vs m before)) (in_final got (both_listed k vs m (before ++ e ∷ []))) (edge_line e)
    (codes "E" ∷ decimal e.0 ∷ decimal e.1 ∷ [])
    (numbers_words (codes "E") e.0 e.1 (omega arith) (omega arith) refl refl)
    (no_reason _ _ (number_right 1000000 e.0 first (omega arith)) (number_right 1000000 e.1 second (omega arith)))
    (ap (λ (n : ℕ). in_final got (both_listed k vs m (before ++ pair n (value (decimal e.1)) ∷ []))) (value_decimal e.0 (omega arith))
    ∙ ap (λ (n : ℕ). in_final got (both_listed k vs m (before ++ pair e.0 n ∷ []))) (value_decimal e.1 (omega arith)))
    (lacks-append 10 (number_line (codes "E") e.0) (32 ∷ decimal e.1) (number_whole (codes "E") e.0 refl) (lacks-decimal 10 e.1 (omega arith)))

edges_go : (got : Got) (k : ℕ) (vs : List ℕ) (m : ℕ) (before es : List (ℕ × ℕ)) → AllByRecursion (λ e. (e.0 ≤ 1000000) × (e.1 ≤ 1000000)) es
    → Goes (in_final got (both_listed k vs m before)) (map edge_line es) (in_final got (both_listed k vs m (before ++ es)))
edges_go got k vs m before [] few = goes_to (no_line (in_final got (both_listed k vs m before))) (ap (λ (es : List (ℕ × ℕ)). in_final got (both_listed k vs m es)) (sym (append-nil before)))
edges_go got k vs m before (e ∷ es) few = goes_to (edge_goes got k vs m before e few.0.0 few.0.1 onto edges_go got k vs m (before ++ e ∷ []) es few.1) (ap (λ (fs : List (ℕ × ℕ)). in_final got
    (both_listed k vs m fs)) (append_assoc before (e ∷ []) es))

-- the whole that is stated in the end, at a primal in millionths
abbrev pub whole_said : ℕ → List ℕ → List (ℕ × ℕ) → Whole
whole_said p vs es = record { primal = Some p; final = both_listed (length vs) vs (length es) es }

abbrev done : ℕ → List ℕ → List (ℕ × ℕ) → Got
done p vs es = record { run = true; primal = Some p; final = Some (both_listed (length vs) vs (length es) es) }

final_ends : (p : ℕ) (vs : List ℕ) (es : List (ℕ × ℕ)) → Goes (in_final (priced p) (both_listed (length vs) vs (length es) es)) (codes "END" ∷ []) (outside (done p vs es))
unfolding keyword_of form_of
final_ends p vs es =
    let vertices : eqb (length vs) (length vs) ≡ true = grind (arith, nat_tests) in
    let edges : eqb (length es) (length es) ≡ true = grind (arith, nat_tests) in
    one_line (in_final (priced p) (both_listed (length vs) vs (length es) es)) (outside (done p vs es)) (codes "END") (codes "END" ∷ []) refl (rw (vertices, edges) refl) refl refl

text_ends : (p : ℕ) (vs : List ℕ) (es : List (ℕ × ℕ)) → Goes (outside (done p vs es)) (codes "EOF" ∷ []) (after_end (whole_said p vs es))
unfolding keyword_of form_of
text_ends p vs es = one_line (outside (done p vs es)) (after_end (whole_said p vs es)) (codes "EOF") (codes "EOF" ∷ []) refl refl refl refl

-- few vertices and edges, all of small numbers
pub record AreFew (vs : List ℕ) (es : List (ℕ × ℕ)) : Type 0 where
  pub vertices : length vs ≤ 1000000
  pub edges : length es ≤ 4000000
  pub small : AllByRecursion (λ v. v ≤ 1000000) vs
  pub small_ends : AllByRecursion (λ e. (e.0 ≤ 1000000) × (e.1 ≤ 1000000)) es

tree_goes : (p : ℕ) (vs : List ℕ) (es : List (ℕ × ℕ)) → AreFew vs es → Goes (outside (priced p)) (tree_lines vs es) (outside (done p vs es))
tree_goes p vs es few =
    final_opens (priced p) refl onto count_goes (priced p) (length vs) few.vertices onto vertices_go (priced p) (length vs) [] vs few.small
    onto (edge_count_goes (priced p) (length vs) vs (length es) few.edges onto edges_go (priced p) (length vs) vs (length es) [] es few.small_ends) onto final_ends p vs es

-- all lines of a solution
abbrev solution_lines : List ℕ → ℕ → List ℕ → List (ℕ × ℕ) → ℕ → ℕ → Scale → List (List ℕ)
solution_lines name workers vs es dual primal scale =
    header ∷ comment_lines name dual primal ++ solutions_lines primal scale ++ run_lines workers dual primal scale ++ tree_lines vs es ++ codes "EOF" ∷ []

all_lines_go : (name : List ℕ) (workers dual primal : ℕ) (scale : Scale) (vs : List ℕ) (es : List (ℕ × ℕ)) → workers < 2 ^ 64 → dual < 2 ^ 64 → primal < 2 ^ 64 → AreFew vs es
    → Goes at_header (solution_lines name workers vs es dual primal scale) (after_end (whole_said (primal * unit scale) vs es))
all_lines_go name workers dual primal scale vs es few low small are =
    let p = primal * unit scale in
    header_goes onto comment_goes name dual primal onto solutions_go primal scale onto run_goes workers dual primal scale few low small onto tree_goes p vs es are onto text_ends p vs es

pub written_reads : (name : List ℕ) (workers dual primal : ℕ) (scale : Scale) (vs : List ℕ) (es : List (ℕ × ℕ)) → workers < 2 ^ 64 → dual < 2 ^ 64 → primal < 2 ^ 64 → AreFew vs es
    → IsRead (word_lines (solution_text_of name workers vs es dual primal scale)) (whole_said (primal * unit scale) vs es)
unfolding solution_text_of
written_reads name workers dual primal scale vs es few low small are =
    let said = whole_said (primal * unit scale) vs es in
    let goes = all_lines_go name workers dual primal scale vs es few low small are in
    let read : IsRead (map line_words (solution_lines name workers vs es dual primal scale)) said = record { right = goes.right; whole = ap whole_at goes.leads } in
    subst (λ (ls : List (List (List ℕ))). IsRead ls said) (sym (lines_written (solution_lines name workers vs es dual primal scale) goes.whole)) read
