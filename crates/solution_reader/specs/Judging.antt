-- What a line says at its place: the place after it, or why it may not stand there. Helpers' clauses cite this, and no public one.
use Rattle.std.specs.Prelude.{ℕ, suc, ◌||◌, true, if◌then◌else◌, List, [], ◌∷◌, ◌++◌, length, Option, Some, None, Result, Ok, Err}
use Rattle.std.specs.List.{list_any}
use Rattle.plain_text.specs.Numbers.{value}
use Rattle.stp_reader.specs.Lines.{is_remark, word_lines}
use Rattle.stp_reader.specs.Words.{is_magic}
use Rattle.solution_reader.specs.declared.keyword.SectionName.{SectionName}
use Rattle.solution_reader.specs.declared.keyword.SectionName.TheVariants as name
use Rattle.solution_reader.specs.declared.reason.SolReason.{SolReason}
use Rattle.solution_reader.specs.declared.reason.SolReason.TheVariants.{NoHeader, BadLine, RepeatedSection, BadNumber, CountMismatch, Unclosed, NoFinal}
use Rattle.solution_reader.specs.Words.{section_of}
use Rattle.solution_reader.specs.Forms.{Form, section_line, nameless_line, eof_line, end_line, primal_line, count_line, vertex_line, edge_count_line, edge_line, form}
use Rattle.solution_reader.specs.Numbers.{is_within, primal_said}
use Rattle.solution_reader.specs.Place.{Final, Got, Whole, nothing, no_lines, with_primal, Place, at_header, outside, passed_over, in_run, in_final, after_end}
use Rattle.solution_reader.specs.Reasons.{differs}

-- what is said, and what is said next of it; a reason of the first ends it
infixl 10 ◌>>=◌
abbrev pub ◌>>=◌ : {A B : Type 0} → Result A SolReason → (A → Result B SolReason) → Result B SolReason
Ok x >>= f = f x
Err r >>= f = Err r

-- a vertex or count that is at most the limit
unfoldable pub number : ℕ → List ℕ → Result ℕ SolReason
number limit word = if is_within limit word then Ok (value word) else Err BadNumber

-- a count, where none stood before
abbrev pub count : Option ℕ → ℕ → List ℕ → Result ℕ SolReason
count (Some k) limit word = Err BadLine
count None limit word = number limit word

-- ---- outside the sections

abbrev pub whole : Got → Option Final → Result Whole SolReason
whole got None = Err NoFinal
whole got (Some f) = Ok (record { primal = got.primal; final = f })

-- after the line that opens a section Finalsolution
abbrev pub judge_final_opening : Got → Option Final → Result Place SolReason
judge_final_opening got None = Ok (in_final got no_lines)
judge_final_opening got (Some f) = Err RepeatedSection

abbrev pub judge_opening : Got → SectionName → Result Place SolReason
judge_opening got name.Passed = Ok (passed_over got)
judge_opening got name.Run = if got.run then Err RepeatedSection else Ok (in_run (record got { run = true }))
judge_opening got name.Finalsolution = judge_final_opening got got.final

abbrev pub judge_outside : Got → Form → Result Place SolReason
judge_outside got (section_line name) = judge_opening got (section_of name)
judge_outside got eof_line = whole got got.final >>= λ w. Ok (after_end w)
judge_outside got _ = Err BadLine

abbrev pub judge_no_header : Form → Result Place SolReason
judge_no_header (section_line name) = judge_opening nothing (section_of name)
judge_no_header nameless_line = Err BadLine
judge_no_header _ = Err NoHeader

-- ---- in sections

abbrev pub judge_passed : Got → Form → Place
judge_passed got end_line = outside got
judge_passed got _ = passed_over got

abbrev pub judge_run : Got → Form → Place
judge_run got end_line = outside got
judge_run got (primal_line x) = in_run (with_primal got (primal_said x))
judge_run got _ = in_run got

-- the edge of `E u v`
abbrev pub edge : List ℕ → List ℕ → Result (ℕ × ℕ) SolReason
edge u v = number 1000000 u >>= λ a. number 1000000 v >>= λ b. Ok (a, b)

-- after the END of Finalsolution
abbrev pub final_end : Got → Final → Result Place SolReason
final_end got f =
    if differs f.count (length f.vertices) || differs f.edge_count (length f.edges) then Err CountMismatch
    else Ok (outside (record got { final = Some f }))

-- what Finalsolution states with one more of its lines
abbrev pub judge_lines : Final → Form → Result Final SolReason
judge_lines f (count_line word) = count f.count 1000000 word >>= λ k. Ok (record f { count = Some k })
judge_lines f (vertex_line word) = number 1000000 word >>= λ v. Ok (record f { vertices = f.vertices ++ v ∷ [] })
judge_lines f (edge_count_line word) = count f.edge_count 4000000 word >>= λ k. Ok (record f { edge_count = Some k })
judge_lines f (edge_line u v) = edge u v >>= λ e. Ok (record f { edges = f.edges ++ e ∷ [] })
judge_lines f _ = Err BadLine

abbrev pub judge_final : Got → Final → Form → Result Place SolReason
judge_final got f end_line = final_end got f
judge_final got f line = judge_lines f line >>= λ next. Ok (in_final got next)

-- ---- any line, and all

-- a line that is not skipped
unfoldable pub judge_line : Place → List (List ℕ) → Result Place SolReason
judge_line at_header line = if list_any is_magic line then Ok (outside nothing) else judge_no_header (form line)
judge_line (outside got) line = judge_outside got (form line)
judge_line (passed_over got) line = Ok (judge_passed got (form line))
judge_line (in_run got) line = Ok (judge_run got (form line))
judge_line (in_final got f) line = judge_final got f (form line)
judge_line (after_end w) line = Ok (after_end w)

-- any line, as its words
unfoldable pub judge : Place → List (List ℕ) → Result Place SolReason
judge place [] = Ok place
judge place (word ∷ args) = if is_remark word then Ok place else judge_line place (word ∷ args)

-- after the last line: all that is stated, or why that is no whole text
abbrev pub at_end : Place → Result Whole SolReason
at_end at_header = Err NoHeader
at_end (outside got) = whole got got.final
at_end (after_end w) = Ok w
at_end _ = Err Unclosed

-- what is said, or the line at which it is refused, and why
abbrev pub at_line : {A : Type 0} → ℕ → Result A SolReason → Result A (ℕ × SolReason)
at_line line (Ok x) = Ok x
at_line line (Err r) = Err (line, r)

-- goes on with what was said, if nothing was refused
abbrev pub then_on : {A B : Type 0} → Result A (ℕ × SolReason) → (A → Result B (ℕ × SolReason)) → Result B (ℕ × SolReason)
then_on (Ok x) f = f x
then_on (Err fault) f = Err fault

-- what these lines state from this place on, the first of them being line `number`; or the first of them that has a reason, and that reason
abbrev pub stated_from : ℕ → Place → List (List (List ℕ)) → Result Whole (ℕ × SolReason)
stated_from number place [] = at_line number (at_end place)
stated_from number place (line ∷ lines) = then_on (at_line number (judge place line)) (λ after. stated_from (suc number) after lines)

-- what all lines of a text state
unfoldable pub stated : List ℕ → Result Whole (ℕ × SolReason)
stated bytes = stated_from 1 at_header (word_lines bytes)
