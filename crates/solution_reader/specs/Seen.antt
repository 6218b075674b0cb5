-- How the stages of the reader stand for places. Helpers' clauses cite this, and no public one.
use Rattle.std.specs.Prelude.{◌≡◌, ℕ, Option, Some, None, Result, Ok, Err}
use Rattle.solution_reader.specs.declared.fault.LineError.{LineError}
use Rattle.solution_reader.specs.declared.fault.LineError.TheVariants.{Refused, NoMemory}
use Rattle.solution_reader.specs.declared.fault.SolError.{SolError}
use Rattle.solution_reader.specs.declared.fault.SolError.TheVariants.{Fault, NoMemory as NoMemoryToRead}
use Rattle.solution_reader.specs.declared.form.Form.{Form as FormRead}
use Rattle.solution_reader.specs.declared.form.Form.TheVariants.{Section, Nameless, Eof, End, Primal, Count, Vertex, EdgeCount, Edge, Other}
use Rattle.solution_reader.specs.declared.reason.SolReason.{SolReason}
use Rattle.solution_reader.specs.declared.tree_part.TreePart.{TreePart}
use Rattle.solution_reader.specs.declared.stage.GotPart.{GotPart}
use Rattle.solution_reader.specs.declared.stage.WholePart.{WholePart}
use Rattle.solution_reader.specs.declared.stage.Stage.{Stage}
use Rattle.solution_reader.specs.declared.stage.Stage.TheVariants.{AtHeader, Outside, PassedOver, InRun, InFinal, AfterEnd}
use Rattle.solution_reader.specs.Forms.{Form, section_line, nameless_line, eof_line, end_line, primal_line, count_line, vertex_line, edge_count_line, edge_line, other_line}
use Rattle.solution_reader.specs.Place.{Final, Got, Whole, Place, at_header, outside, passed_over, in_run, in_final, after_end}

-- what a function returned, seen by view, is what is said
abbrev pub Says : {X Y : Type 0} → (X → Y) → Result X SolReason → Result Y SolReason → Type 0
Says view (Ok x) said = said ≡ Ok (view x)
Says view (Err r) said = said ≡ Err r

-- the same, unless memory ran out
abbrev pub Fails : {Y : Type 0} → LineError → Result Y SolReason → Type 0
Fails (Refused r) said = said ≡ Err r
Fails NoMemory said = Unit {0}

abbrev pub Gives : {X Y : Type 0} → (X → Y) → Result X LineError → Result Y SolReason → Type 0
Gives view (Ok x) said = said ≡ Ok (view x)
Gives view (Err e) said = Fails e said

-- why a text isn't read, if this was wrong at a line
abbrev pub error_at : ℕ → LineError → SolError
error_at line (Refused r) = Fault (record { line = line; reason = r })
error_at line NoMemory = NoMemoryToRead

-- the fault is the one that is said, where it isn't memory
abbrev pub IsFaultOf : {A : Type 0} → Result A (ℕ × SolReason) → SolError → Type 0
IsFaultOf said (Fault f) = said ≡ Err (f.line, f.reason)
IsFaultOf said NoMemoryToRead = Unit {0}

-- the form that a line was found to have
abbrev pub form_seen : FormRead → Form
form_seen (Section name) = section_line name.now
form_seen Nameless = nameless_line
form_seen Eof = eof_line
form_seen End = end_line
form_seen (Primal x) = primal_line x.now
form_seen (Count k) = count_line k.now
form_seen (Vertex v) = vertex_line v.now
form_seen (EdgeCount k) = edge_count_line k.now
form_seen (Edge u v) = edge_line u.now v.now
form_seen Other = other_line

-- ---- the place that a stage stands for

abbrev pub final_of : TreePart → Final
final_of p = record { count = p.count; vertices = p.vertices.items; edge_count = p.edge_count; edges = p.edges.items }

-- what has ended, if anything has
abbrev pub ended_of : Option TreePart → Option Final
ended_of None = None
ended_of (Some p) = Some (final_of p)

abbrev pub got_of : GotPart → Got
got_of g = record { run = g.run; primal = g.primal; final = ended_of g.ended }

abbrev pub whole_from : WholePart → Whole
whole_from w = record { primal = w.primal; final = final_of w.tree }

abbrev pub place_of : Stage → Place
place_of AtHeader = at_header
place_of (Outside g) = outside (got_of g)
place_of (PassedOver g) = passed_over (got_of g)
place_of (InRun g) = in_run (got_of g)
place_of (InFinal g p) = in_final (got_of g) (final_of p)
place_of (AfterEnd w) = after_end (whole_from w)
