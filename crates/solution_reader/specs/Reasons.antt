-- Why a line may not stand at its place, and why a text may not end there. Where two reasons hold of a line, this is the one with the lower number.
use Rattle.std.specs.Prelude.{ℕ, ◌||◌, ◌==◌, not, Bool, false, if◌then◌else◌, List, length, Option, Some, None}
use Rattle.std.specs.List.{list_any}
use Rattle.stp_reader.specs.Lines.{is_skipped}
use Rattle.stp_reader.specs.Words.{is_magic}
use Rattle.solution_reader.specs.declared.keyword.SectionName.{SectionName}
use Rattle.solution_reader.specs.declared.keyword.SectionName.TheVariants as name
use Rattle.solution_reader.specs.declared.reason.SolReason.{SolReason}
use Rattle.solution_reader.specs.declared.reason.SolReason.TheVariants.{NoHeader, BadLine, RepeatedSection, CountMismatch, Unclosed, NoFinal}
use Rattle.solution_reader.specs.Reason.{when, or_else}
use Rattle.solution_reader.specs.Words.{section_of}
use Rattle.solution_reader.specs.Forms.{Form, section_line, nameless_line, eof_line, end_line, count_line, vertex_line, edge_count_line, edge_line, form}
use Rattle.solution_reader.specs.Numbers.{number_reason}
use Rattle.solution_reader.specs.Place.{Final, Got, nothing, Place, at_header, outside, passed_over, in_run, in_final, after_end}

-- ---- between sections

-- where a section Finalsolution has ended, another one is a repetition
abbrev pub repeated : Option Final → Option SolReason
repeated None = None
repeated (Some f) = Some RepeatedSection

-- a second section Run or Finalsolution
abbrev pub opening_reason : Got → SectionName → Option SolReason
opening_reason got name.Passed = None
opening_reason got name.Run = when got.run RepeatedSection
opening_reason got name.Finalsolution = repeated got.final

-- a text without a section Finalsolution
abbrev pub missing : Option Final → Option SolReason
missing None = Some NoFinal
missing (Some f) = None

-- only `SECTION name` and `EOF` may stand here
abbrev pub outside_reason : Got → Form → Option SolReason
outside_reason got (section_line name) = opening_reason got (section_of name)
outside_reason got eof_line = missing got.final
outside_reason got _ = Some BadLine

-- a first line that is no header has to be a section's, and is read as that
abbrev pub no_header_reason : Form → Option SolReason
no_header_reason (section_line name) = opening_reason nothing (section_of name)
no_header_reason nameless_line = Some BadLine
no_header_reason _ = Some NoHeader

-- ---- in Finalsolution

-- a count up to a limit, where none stood before
abbrev pub count_reason : Option ℕ → ℕ → List ℕ → Option SolReason
count_reason (Some k) limit word = Some BadLine
count_reason None limit word = number_reason limit word

-- whether a stated count isn't that of the lines
abbrev pub differs : Option ℕ → ℕ → Bool
differs None n = false
differs (Some k) n = not (n == k)

-- lines V and E, how many there are to be of each, and END after so many
abbrev pub final_reason : Final → Form → Option SolReason
final_reason f (count_line k) = count_reason f.count 1000000 k
final_reason f (vertex_line v) = number_reason 1000000 v
final_reason f (edge_count_line k) = count_reason f.edge_count 4000000 k
final_reason f (edge_line u v) = or_else (number_reason 1000000 u) (number_reason 1000000 v)
final_reason f end_line = when (differs f.count (length f.vertices) || differs f.edge_count (length f.edges)) CountMismatch
final_reason f _ = Some BadLine

-- ---- anywhere

abbrev pub said_reason : Place → List (List ℕ) → Option SolReason
said_reason at_header line = if list_any is_magic line then None else no_header_reason (form line)
said_reason (outside got) line = outside_reason got (form line)
said_reason (passed_over got) line = None
said_reason (in_run got) line = None
said_reason (in_final got f) line = final_reason f (form line)
said_reason (after_end w) line = None

-- why a line may not stand at a place
abbrev pub reason : Place → List (List ℕ) → Option SolReason
reason place line = if is_skipped line then None else said_reason place line

-- why a text may not end at a place
abbrev pub end_reason : Place → Option SolReason
end_reason at_header = Some NoHeader
end_reason (outside got) = missing got.final
end_reason (after_end w) = None
end_reason _ = Some Unclosed
