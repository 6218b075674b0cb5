-- What a line is by its words alone, wherever it stands.
use Rattle.std.specs.Prelude.{ℕ, if◌then◌else◌, List, [], ◌∷◌, option_map, unwrap_or}
use Rattle.stp_reader.specs.Forms.{none, one, two}
use Rattle.solution_reader.specs.declared.keyword.Keyword.{Keyword}
use Rattle.solution_reader.specs.declared.keyword.Keyword.TheVariants.{Section, Eof, End, Primal, Count, Vertex, EdgeCount, Edge, Other}
use Rattle.solution_reader.specs.Words.{keyword_of}

pub data Form : Type 0 where
  -- `SECTION name`, and any other line whose first word is SECTION
  section_line : List ℕ → Form
  nameless_line : Form
  -- `EOF` and `END` alone
  eof_line : Form
  end_line : Form
  -- `Primal x`
  primal_line : List ℕ → Form
  -- `Vertices k`, `V v`, `Edges k`, `E u v`
  count_line : List ℕ → Form
  vertex_line : List ℕ → Form
  edge_count_line : List ℕ → Form
  edge_line : List ℕ → List ℕ → Form
  -- any other line, also one of these keywords with another number of words
  other_line : Form

-- the form of a line by what its first word announces, and the words after it
unfoldable pub form_of : Keyword → List (List ℕ) → Form
form_of Section args = unwrap_or (option_map section_line (one args)) nameless_line
form_of Eof args = if none args then eof_line else other_line
form_of End args = if none args then end_line else other_line
form_of Primal args = unwrap_or (option_map primal_line (one args)) other_line
form_of Count args = unwrap_or (option_map count_line (one args)) other_line
form_of Vertex args = unwrap_or (option_map vertex_line (one args)) other_line
form_of EdgeCount args = unwrap_or (option_map edge_count_line (one args)) other_line
form_of Edge args = unwrap_or (option_map (λ w. edge_line w.0 w.1) (two args)) other_line
form_of Other args = other_line

-- the form of a line
abbrev pub form : List (List ℕ) → Form
form [] = other_line
form (word ∷ args) = form_of (keyword_of word) args
