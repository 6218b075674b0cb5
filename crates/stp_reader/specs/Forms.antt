-- What a line is by its words alone, wherever it stands.
use Rattle.std.specs.Prelude.{ℕ, Bool, true, false, if◌then◌else◌, List, [], ◌∷◌, Option, Some, None, option_map, unwrap_or}
use Rattle.stp_reader.specs.declared.keyword.Keyword.{Keyword}
use Rattle.stp_reader.specs.declared.keyword.Keyword.TheVariants.{Section, Eof, End, Nodes, Edges, Edge, Arcs, Arc, Count, Terminal, Prize, Root, Pinned, Other}
use Rattle.stp_reader.specs.Words.{keyword_of}

pub data Form : Type 0 where
  -- `SECTION name`, and any other line whose first word is SECTION
  section_line : List ℕ → Form
  nameless_line : Form
  -- `EOF` and `END` alone
  eof_line : Form
  end_line : Form
  -- `Nodes n`
  nodes_line : List ℕ → Form
  -- `Edges m` and `E u v c`, and any other line whose first word is Edges or E
  edges_line : List ℕ → Form
  edge_line : List ℕ → List ℕ → List ℕ → Form
  bad_edges_line : Form
  -- `Arcs m` and `A u v c`, and any other line whose first word is Arcs, or A
  arcs_line : List ℕ → Form
  arc_line : List ℕ → List ℕ → List ℕ → Form
  bad_arcs_line : Form
  bad_arc_line : Form
  -- `Terminals t`, `T v`, `TP v p`, `Root r`, `RootP v`
  count_line : List ℕ → Form
  terminal_line : List ℕ → Form
  prize_line : List ℕ → List ℕ → Form
  root_line : List ℕ → Form
  pinned_line : List ℕ → Form
  -- any other line, also one of the other keywords with another number of words
  other_line : Form

-- the words after a keyword, where there are exactly so many
abbrev pub none : List (List ℕ) → Bool
none [] = true
none _ = false

abbrev pub one : List (List ℕ) → Option (List ℕ)
one (u ∷ []) = Some u
one _ = None

abbrev pub two : List (List ℕ) → Option (List ℕ × List ℕ)
two (u ∷ v ∷ []) = Some (u, v)
two _ = None

abbrev pub three : List (List ℕ) → Option (List ℕ × List ℕ × List ℕ)
three (u ∷ v ∷ w ∷ []) = Some (u, v, w)
three _ = None

-- the form of a line by what its first word announces, and the words after it
unfoldable pub form_of : Keyword → List (List ℕ) → Form
form_of Section args = unwrap_or (option_map section_line (one args)) nameless_line
form_of Eof args = if none args then eof_line else other_line
form_of End args = if none args then end_line else other_line
form_of Nodes args = unwrap_or (option_map nodes_line (one args)) other_line
form_of Edges args = unwrap_or (option_map edges_line (one args)) bad_edges_line
form_of Edge args = unwrap_or (option_map (λ w. edge_line w.0 w.1 w.2) (three args)) bad_edges_line
form_of Arcs args = unwrap_or (option_map arcs_line (one args)) bad_arcs_line
form_of Arc args = unwrap_or (option_map (λ w. arc_line w.0 w.1 w.2) (three args)) bad_arc_line
form_of Count args = unwrap_or (option_map count_line (one args)) other_line
form_of Terminal args = unwrap_or (option_map terminal_line (one args)) other_line
form_of Prize args = unwrap_or (option_map (λ w. prize_line w.0 w.1) (two args)) other_line
form_of Root args = unwrap_or (option_map root_line (one args)) other_line
form_of Pinned args = unwrap_or (option_map pinned_line (one args)) other_line
form_of Other args = other_line

-- the form of a line
abbrev pub form : List (List ℕ) → Form
form [] = other_line
form (word ∷ args) = form_of (keyword_of word) args
