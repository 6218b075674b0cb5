-- Which keyword or section name a word is, in capitals or not.
use Rattle.std.specs.Prelude.{ℕ, if◌then◌else◌, List, codes}
use Rattle.stp_reader.specs.Words.{is_word}
use Rattle.solution_reader.specs.declared.keyword.Keyword.{Keyword}
use Rattle.solution_reader.specs.declared.keyword.Keyword.TheVariants.{Section, Eof, End, Primal, Count, Vertex, EdgeCount, Edge, Other}
use Rattle.solution_reader.specs.declared.keyword.SectionName.{SectionName}
use Rattle.solution_reader.specs.declared.keyword.SectionName.TheVariants.{Run, Finalsolution, Passed}

-- what the first word of a line announces
unfoldable pub keyword_of : List ℕ → Keyword
keyword_of word =
    if is_word word (codes "V") then Vertex else
    if is_word word (codes "E") then Edge else
    if is_word word (codes "END") then End else
    if is_word word (codes "EOF") then Eof else
    if is_word word (codes "SECTION") then Section else
    if is_word word (codes "Vertices") then Count else
    if is_word word (codes "Edges") then EdgeCount else
    if is_word word (codes "Primal") then Primal else
    Other

-- which section a name opens; one of another name than these two is passed over
unfoldable pub section_of : List ℕ → SectionName
section_of name =
    if is_word name (codes "Run") then Run else
    if is_word name (codes "Finalsolution") then Finalsolution else
    Passed
