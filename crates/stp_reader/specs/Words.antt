-- Which keyword or section name a word is, in capitals or not.
use Rattle.std.specs.Prelude.{ℕ, ◌||◌, Bool, if◌then◌else◌, List, codes}
use Rattle.std.specs.Str.{str_eq_ignore_ascii_case}
use Rattle.stp_reader.specs.declared.keyword.Keyword.{Keyword}
use Rattle.stp_reader.specs.declared.keyword.Keyword.TheVariants.{Section, Eof, End, Nodes, Edges, Edge, Arcs, Arc, Count, Terminal, Prize, Root, Pinned, Other}
use Rattle.stp_reader.specs.declared.keyword.SectionName.{SectionName}
use Rattle.stp_reader.specs.declared.keyword.SectionName.TheVariants.{Graph, Terminals, Passed, Unknown}

-- the words are equal, or differ in capitals alone
abbrev pub is_word : List ℕ → List ℕ → Bool
is_word word wanted = str_eq_ignore_ascii_case word wanted

-- the word that marks a header
abbrev pub is_magic : List ℕ → Bool
is_magic word = is_word word (codes "33D32945")

-- what the first word of a line announces
unfoldable pub keyword_of : List ℕ → Keyword
keyword_of word =
    if is_word word (codes "E") then Edge else
    if is_word word (codes "T") then Terminal else
    if is_word word (codes "TP") then Prize else
    if is_word word (codes "END") then End else
    if is_word word (codes "EOF") then Eof else
    if is_word word (codes "SECTION") then Section else
    if is_word word (codes "Nodes") then Nodes else
    if is_word word (codes "Edges") then Edges else
    if is_word word (codes "Arcs") then Arcs else
    if is_word word (codes "A") then Arc else
    if is_word word (codes "Terminals") then Count else
    if is_word word (codes "Root") then Root else
    if is_word word (codes "RootP") then Pinned else
    Other

-- the lines of a section of this name are passed over
abbrev pub is_passed_over : List ℕ → Bool
is_passed_over name = is_word name (codes "Comment") || is_word name (codes "Comments") || is_word name (codes "Coordinates") || is_word name (codes "Tree")

-- which section a name opens
unfoldable pub section_of : List ℕ → SectionName
section_of name =
    if is_word name (codes "Graph") then Graph else
    if is_word name (codes "Terminals") then Terminals else
    if is_passed_over name then Passed else
    Unknown
