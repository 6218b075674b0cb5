-- What a line says at its place, by the reason against it and the place after it.
use Rattle.std.proofs.Common.{◌≡◌, ℕ, Bool, true, false, cond, ◌||◌, List, [], ◌∷◌, ◌++◌, length, Option, Some, None, Result, Ok, Err, refl, ap}
use Rattle.std.specs.List.{list_any}
use Rattle.plain_text.specs.Numbers.{value}
use Rattle.stp_reader.specs.Lines.{is_remark}
use Rattle.stp_reader.specs.Words.{is_magic}
use Rattle.solution_reader.specs.declared.keyword.SectionName.{SectionName}
use Rattle.solution_reader.specs.declared.keyword.SectionName.TheVariants as name
use Rattle.solution_reader.specs.declared.reason.SolReason.{SolReason}
use Rattle.solution_reader.specs.declared.reason.SolReason.TheVariants.{RepeatedSection, BadNumber, CountMismatch}
use Rattle.solution_reader.specs.Reason.{when, or_else}
use Rattle.solution_reader.specs.Words.{section_of}
use Rattle.solution_reader.specs.Forms.{Form, section_line, nameless_line, eof_line, end_line, primal_line, count_line, vertex_line, edge_count_line, edge_line, form}
use Rattle.solution_reader.specs.Numbers.{is_within, number_reason}
use Rattle.solution_reader.specs.Place.{Final, Got, nothing, no_lines, Place, at_header, outside, passed_over, in_run, in_final, after_end, whole_of, after_opening, after_eof, after_outside, after_no_header, after_passed, after_run, after_final, after_said, after}
use Rattle.solution_reader.specs.Reasons.{repeated, opening_reason, missing, outside_reason, no_header_reason, count_reason, differs, final_reason, said_reason, reason}
use Rattle.solution_reader.specs.Judging.{◌>>=◌, number, count, whole, judge_final_opening, judge_opening, judge_outside, judge_no_header, judge_passed, judge_run, edge, judge_final, judge_line, judge}

-- x, where there is no reason, else the reason
abbrev pub answer : {A : Type 0} → Option SolReason → A → Result A SolReason
answer None x = Ok x
answer (Some r) x = Err r

-- what is said of it next, in two steps
then_both : {A B C : Type 0} (o : Option SolReason) (x : A) (f : A → B) (g : B → C) → ((answer o x >>= λ y. Ok (f y)) >>= λ z. Ok (g z)) ≡ answer o (g (f x))
then_both None x f g = refl
then_both (Some r) x f g = refl

number_answer : (limit : ℕ) (word : List ℕ) → number limit word ≡ answer (number_reason limit word) (value word)
unfolding number
number_answer limit word = by_case (is_within limit word)
  where
    by_case : (b : Bool) → cond b (Ok (value word)) (Err BadNumber) ≡ answer (cond b None (Some BadNumber)) (value word)
    by_case true = refl
    by_case false = refl

count_answer : (stated : Option ℕ) (limit : ℕ) (word : List ℕ) → count stated limit word ≡ answer (count_reason stated limit word) (value word)
count_answer (Some k) limit word = refl
count_answer None limit word = number_answer limit word

edge_answer : (u v : List ℕ) → edge u v ≡ answer (or_else (number_reason 1000000 u) (number_reason 1000000 v)) (value u, value v)
edge_answer u v = rw (number_answer 1000000 u, number_answer 1000000 v) (by_case (number_reason 1000000 u) (number_reason 1000000 v))
  where
    pair : ℕ × ℕ
    pair = (value u, value v)

    by_case : (o p : Option SolReason) → (answer o (value u) >>= λ a. answer p (value v) >>= λ b. Ok (a, b)) ≡ answer (or_else o p) pair
    by_case None None = refl
    by_case None (Some q) = refl
    by_case (Some r) p = refl

final_opening : (got : Got) (f : Option Final) → judge_final_opening got f ≡ answer (repeated f) (in_final got no_lines)
final_opening got None = refl
final_opening got (Some f) = refl

opening_answer : (got : Got) (k : SectionName) → judge_opening got k ≡ answer (opening_reason got k) (after_opening got k)
opening_answer got name.Passed = refl
opening_answer got name.Run = by_case got.run
  where
    next : Place
    next = in_run (record got { run = true })

    by_case : (b : Bool) → cond b (Err RepeatedSection) (Ok next) ≡ answer (when b RepeatedSection) next
    by_case true = refl
    by_case false = refl
opening_answer got name.Finalsolution = final_opening got got.final

eof_answer : (got : Got) (f : Option Final) → (whole got f >>= λ w. Ok (after_end w)) ≡ answer (missing f) (after_eof got (whole_of got f))
eof_answer got None = refl
eof_answer got (Some f) = refl

outside_answer : (got : Got) (f : Form) → judge_outside got f ≡ answer (outside_reason got f) (after_outside got f)
outside_answer got (section_line word) = opening_answer got (section_of word)
outside_answer got eof_line = eof_answer got got.final
outside_answer got f = refl

no_header_answer : (f : Form) → judge_no_header f ≡ answer (no_header_reason f) (after_no_header f)
no_header_answer (section_line word) = opening_answer nothing (section_of word)
no_header_answer nameless_line = refl
no_header_answer f = refl

passed_answer : (got : Got) (f : Form) → judge_passed got f ≡ after_passed got f
passed_answer got end_line = refl
passed_answer got f = refl

run_answer : (got : Got) (f : Form) → judge_run got f ≡ after_run got f
run_answer got end_line = refl
run_answer got (primal_line x) = refl
run_answer got f = refl

-- what Finalsolution states with one line more
abbrev with_count : Final → ℕ → Final
with_count f k = record f { count = Some k }

abbrev with_vertex : Final → ℕ → Final
with_vertex f v = record f { vertices = f.vertices ++ v ∷ [] }

abbrev with_edge_count : Final → ℕ → Final
with_edge_count f k = record f { edge_count = Some k }

abbrev with_edge : Final → ℕ × ℕ → Final
with_edge f e = record f { edges = f.edges ++ e ∷ [] }

final_answer : (got : Got) (f : Final) (line : Form) → judge_final got f line ≡ answer (final_reason f line) (after_final got f line)
final_answer got f end_line = by_case (outside (record got { final = Some f })) (differs f.count (length f.vertices) || differs f.edge_count (length f.edges))
  where
    by_case : (p : Place) (b : Bool) → cond b (Err CountMismatch) (Ok p) ≡ answer (when b CountMismatch) p
    by_case p true = refl
    by_case p false = refl
final_answer got f (count_line word) = rw (count_answer f.count 1000000 word) (then_both (count_reason f.count 1000000 word) (value word) (λ k. with_count f k) (λ next. in_final got next))
final_answer got f (vertex_line word) = rw (number_answer 1000000 word) (then_both (number_reason 1000000 word) (value word) (λ v. with_vertex f v) (λ next. in_final got next))
final_answer got f (edge_count_line word) = rw (count_answer f.edge_count 4000000 word) (then_both (count_reason f.edge_count 4000000 word) (value word) (λ k. with_edge_count f k)
    (λ next. in_final got next))
final_answer got f (edge_line u v) = rw (edge_answer u v) (then_both (or_else (number_reason 1000000 u) (number_reason 1000000 v)) (value u, value v) (λ e. with_edge f e)
    (λ next. in_final got next))
final_answer got f (section_line word) = refl
final_answer got f nameless_line = refl
final_answer got f eof_line = refl
final_answer got f line = refl

header_answer : (b : Bool) (f : Form) → cond b (Ok (outside nothing)) (judge_no_header f) ≡ answer (cond b None (no_header_reason f)) (cond b (outside nothing) (after_no_header f))
header_answer true f = refl
header_answer false f = no_header_answer f

said_answer : (place : Place) (line : List (List ℕ)) → judge_line place line ≡ answer (said_reason place line) (after_said place line)
unfolding judge_line
said_answer at_header line = header_answer (list_any is_magic line) (form line)
said_answer (outside got) line = outside_answer got (form line)
said_answer (passed_over got) line = ap (λ (p : Place). Ok p) (passed_answer got (form line))
said_answer (in_run got) line = ap (λ (p : Place). Ok p) (run_answer got (form line))
said_answer (in_final got f) line = final_answer got f (form line)
said_answer (after_end w) line = refl

-- a line is judged by the reason against it
pub judge_answer : (place : Place) (line : List (List ℕ)) → judge place line ≡ answer (reason place line) (after place line)
unfolding judge
judge_answer place [] = refl
judge_answer place (word ∷ args) = by_case (is_remark word)
  where
    by_case : (b : Bool) → cond b (Ok place) (judge_line place (word ∷ args)) ≡ answer (cond b None (said_reason place (word ∷ args))) (cond b place (after_said place (word ∷ args)))
    by_case true = refl
    by_case false = said_answer place (word ∷ args)
