-- Where a line stands: what the lines before it have stated, and what may follow them.
use Rattle.std.specs.Prelude.{ℕ, Bool, true, false, if◌then◌else◌, List, [], ◌∷◌, ◌++◌, Option, Some, None}
use Rattle.std.specs.List.{list_any}
use Rattle.plain_text.specs.Numbers.{value}
use Rattle.stp_reader.specs.Lines.{is_skipped}
use Rattle.stp_reader.specs.Words.{is_magic}
use Rattle.solution_reader.specs.declared.keyword.SectionName.{SectionName}
use Rattle.solution_reader.specs.declared.keyword.SectionName.TheVariants as name
use Rattle.solution_reader.specs.Words.{section_of}
use Rattle.solution_reader.specs.Forms.{Form, section_line, eof_line, end_line, primal_line, count_line, vertex_line, edge_count_line, edge_line, form}
use Rattle.solution_reader.specs.Numbers.{primal_said}

-- what a section Finalsolution states: its lines V and E in their order, and how many there are to be, where it says so
pub record Final : Type 0 where
  pub count : Option ℕ
  pub vertices : List ℕ
  pub edge_count : Option ℕ
  pub edges : List (ℕ × ℕ)

-- what the lines before have stated: whether a section Run has begun, its primal in millionths, and a section Finalsolution that has ended
pub record Got : Type 0 where
  pub run : Bool
  pub primal : Option ℕ
  pub final : Option Final

-- what a whole text states
pub record Whole : Type 0 where
  pub primal : Option ℕ
  pub final : Final

pub data Place : Type 0 where
  -- after skipped lines alone
  at_header : Place
  -- between sections
  outside : Got → Place
  -- in a section of another name
  passed_over : Got → Place
  in_run : Got → Place
  -- in Finalsolution, after lines that state this
  in_final : Got → Final → Place
  -- after the line EOF
  after_end : Whole → Place

-- nothing has been stated
abbrev pub nothing : Got
nothing = record { run = false; primal = None; final = None }

abbrev pub no_lines : Final
no_lines = record { count = None; vertices = []; edge_count = None; edges = [] }

-- ---- after a line that has no reason; after one that has one this says nothing

-- after the line that opens a section
abbrev pub after_opening : Got → SectionName → Place
after_opening got name.Passed = passed_over got
after_opening got name.Run = in_run (record got { run = true })
after_opening got name.Finalsolution = in_final got no_lines

-- what is stated in all, once a section Finalsolution has ended
abbrev pub whole_of : Got → Option Final → Option Whole
whole_of got None = None
whole_of got (Some f) = Some (record { primal = got.primal; final = f })

-- after the line EOF
abbrev pub after_eof : Got → Option Whole → Place
after_eof got None = outside got
after_eof got (Some w) = after_end w

abbrev pub after_outside : Got → Form → Place
after_outside got (section_line name) = after_opening got (section_of name)
after_outside got eof_line = after_eof got (whole_of got got.final)
after_outside got _ = outside got

-- where the header is missing, only a section can begin
abbrev pub after_no_header : Form → Place
after_no_header (section_line name) = after_opening nothing (section_of name)
after_no_header _ = outside nothing

abbrev pub after_passed : Got → Form → Place
after_passed got end_line = outside got
after_passed got _ = passed_over got

-- a line that says a primal takes the place of one before it
abbrev pub with_primal : Got → Option ℕ → Got
with_primal got None = got
with_primal got (Some p) = record got { primal = Some p }

abbrev pub after_run : Got → Form → Place
after_run got end_line = outside got
after_run got (primal_line x) = in_run (with_primal got (primal_said x))
after_run got _ = in_run got

abbrev pub after_final : Got → Final → Form → Place
after_final got f (count_line k) = in_final got (record f { count = Some (value k) })
after_final got f (vertex_line v) = in_final got (record f { vertices = f.vertices ++ value v ∷ [] })
after_final got f (edge_count_line k) = in_final got (record f { edge_count = Some (value k) })
after_final got f (edge_line u v) = in_final got (record f { edges = f.edges ++ (value u, value v) ∷ [] })
after_final got f end_line = outside (record got { final = Some f })
after_final got f _ = in_final got f

abbrev pub after_said : Place → List (List ℕ) → Place
after_said at_header line = if list_any is_magic line then outside nothing else after_no_header (form line)
after_said (outside got) line = after_outside got (form line)
after_said (passed_over got) line = after_passed got (form line)
after_said (in_run got) line = after_run got (form line)
after_said (in_final got f) line = after_final got f (form line)
after_said (after_end w) line = after_end w

-- the place after a line at a place
abbrev pub after : Place → List (List ℕ) → Place
after place line = if is_skipped line then place else after_said place line

-- the place after lines that begin at a place
abbrev pub after_all : Place → List (List (List ℕ)) → Place
after_all place [] = place
after_all place (line ∷ lines) = after_all (after place line) lines
