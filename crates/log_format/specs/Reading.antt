-- Reading a log line by line. Helpers' clauses cite this, and no public one.
use Rattle.std.specs.Prelude.{◌≡◌, ℕ, zero, suc, ◌+◌, ◌-◌, ◌≤◌, ◌==◌, ◌&&◌, Bool, true, false, nat_lt, List, [], ◌∷◌, ◌++◌, length, Option, Some, None, Result, Ok, Err, if◌then◌else◌, codes}
use Rattle.std.specs.Str.{bytes_eq}
use Rattle.st_model.specs.declared.split_at.SplitAt.{SplitAt}
use Rattle.st_model.specs.declared.split_at.SplitAt.TheVariants.{Vertex, Link}
use Rattle.cut_packing.specs.declared.cut.Cut.{Cut}
use Rattle.lift_back.specs.declared.step.Step.{Step}
use Rattle.lift_back.specs.declared.step.Step.TheVariants.{Pendant, Through, Forced, Detour}
use Rattle.plain_text.specs.Numbers.{number}
use Rattle.plain_text.specs.Steps.{◌>>=◌}
use Rattle.log_format.specs.declared.fault.LineError.{LineError}
use Rattle.log_format.specs.declared.fault.LineError.TheVariants.{BadLine, NoMemory}
use Rattle.log_format.specs.declared.log.Version.{Version}
use Rattle.log_format.specs.declared.log.Version.TheVariants.{One, Two}
use Rattle.log_format.specs.declared.log.Claim.TheVariants.{Found, NoTree}
use Rattle.log_format.specs.declared.proof_line.ProofLine.{ProofLine}
use Rattle.log_format.specs.declared.proof_line.ProofLine.TheVariants.{Split, Close}
use Rattle.log_format.specs.declared.stage.Answer.{Answer}
use Rattle.log_format.specs.declared.stage.Proving.{Proving}
use Rattle.log_format.specs.declared.stage.Stage.{Stage}
use Rattle.log_format.specs.declared.stage.Stage.TheVariants.{AtHeader, AtClaim, AtTree, AtArcs, AtSteps, AtHalf, AtCuts, AtWall, AtEnd, AtNothing}
use Rattle.log_format.specs.Text.{header}

-- What a function returned, seen by view, is what reading gives, unless memory ran out.
abbrev pub Fails : {Y : Type 0} → LineError → Option Y → Type 0
Fails NoMemory read = Unit {0}
Fails BadLine read = read ≡ None

abbrev pub Gives : {X Y : Type 0} → (X → Y) → Result X LineError → Option Y → Type 0
Gives view (Ok x) read = read ≡ Some (view x)
Gives view (Err e) read = Fails e read

-- what stands after a keyword
abbrev pub after : List ℕ → List ℕ → Option (List ℕ)
after [] bytes = Some bytes
after (k ∷ keyword) [] = None
after (k ∷ keyword) (b ∷ bytes) = if b == k then after keyword bytes else None

-- what stands before the first space, and what stands from there on
abbrev pub word_at : List ℕ → List ℕ × List ℕ
word_at [] = ([], [])
word_at (b ∷ bs) = if b == 32 then ([], b ∷ bs) else (b ∷ (word_at bs).0, (word_at bs).1)

-- a number from low to high after a space, and what stands after it
unfoldable pub number_at : ℕ → ℕ → List ℕ → Option (ℕ × List ℕ)
number_at low high bytes = do
  rest ← after (32 ∷ []) bytes
  n ← number low high (word_at rest).0
  Some (n, (word_at rest).1)

-- x, if nothing is left
abbrev pub only : {X : Type 0} → X → List ℕ → Option X
only x rest = if length rest == 0 then Some x else None

-- a keyword and a number
unfoldable pub number_of : List ℕ → ℕ → ℕ → List ℕ → Option ℕ
number_of keyword low high line = do
  rest ← after keyword line
  n ← number_at low high rest
  only n.0 n.1

-- a keyword and two numbers
unfoldable pub pair_of : List ℕ → ℕ → ℕ → ℕ → ℕ → List ℕ → Option (ℕ × ℕ)
pair_of keyword low high low' high' line = do
  rest ← after keyword line
  m ← number_at low high rest
  n ← number_at low' high' m.1
  only (m.0, n.0) n.1

-- this many vertices, and nothing else
unfoldable pub vertices_at : ℕ → List ℕ → Option (List ℕ)
vertices_at zero bytes = only [] bytes
vertices_at (suc count) bytes = do
  v ← number_at 1 1000000 bytes
  others ← vertices_at count v.1
  Some (v.0 ∷ others)

abbrev pub most : ℕ
most = 18446744073709551615

-- how many vertices, some at least, and these
unfoldable pub counted_at : List ℕ → Option (List ℕ)
counted_at bytes = do
  count ← number_at 1 most bytes
  vertices_at count.0 count.1

-- whether each is above the one before it, and the first above the last one
abbrev pub ascends : ℕ → List ℕ → Bool
ascends last [] = true
ascends last (v ∷ vs) = nat_lt last v && ascends v vs

-- how many vertices, and these, ascending
unfoldable pub set_at : List ℕ → Option (List ℕ)
set_at bytes = do
  vertices ← counted_at bytes
  if ascends 0 vertices then Some vertices else None

-- the vertex and the value of a cut, and what stands after them
unfoldable pub cut_head_of : List ℕ → Option (ℕ × ℕ × List ℕ)
cut_head_of line = do
  rest ← after (codes "U") line
  q ← number_at 1 1000000 rest
  y ← number_at 0 most q.1
  Some (q.0, y.0, y.1)

unfoldable pub cut_of : List ℕ → Option Cut
cut_of line = do
  head ← cut_head_of line
  set ← set_at head.2
  Some (record { set = set; q = head.0; y = head.1 })

unfoldable pub wall_of : List ℕ → Option (List ℕ)
wall_of line = do
  rest ← after (codes "WALL") line
  set_at rest

-- the ends of a detour, and what stands after them
unfoldable pub detour_head_of : List ℕ → Option (ℕ × ℕ × List ℕ)
detour_head_of line = do
  rest ← after (codes "D") line
  a ← number_at 1 1000000 rest
  b ← number_at 1 1000000 a.1
  Some (a.0, b.0, b.1)

unfoldable pub detour_of : List ℕ → Option Step
detour_of line = do
  head ← detour_head_of line
  inner ← counted_at head.2
  Some (Detour head.0 head.1 inner)

-- the step of a vertex, or else the other
abbrev pub of_vertex : (ℕ → Step) → Option ℕ → Option Step → Option Step
of_vertex kind (Some v) other = Some (kind v)
of_vertex kind None other = other

unfoldable pub step_of : List ℕ → Option Step
step_of line = of_vertex (λ v. Pendant v) (number_of (codes "P") 1 1000000 line)
    (of_vertex (λ v. Through v) (number_of (codes "H") 1 1000000 line)
    (of_vertex (λ v. Forced v) (number_of (codes "F") 1 1000000 line) (detour_of line)))

-- the split at a link that a line says: two vertices, the lower first
unfoldable pub link_of : List ℕ → Option SplitAt
link_of line = do
  ends ← pair_of (codes "L") 1 1000000 1 1000000 line
  if nat_lt ends.0 ends.1 then Some (Link ends.0 ends.1) else None

-- the same where the version has such lines
abbrev pub link_in : Version → List ℕ → Option SplitAt
link_in One line = None
link_in Two line = link_of line

-- the split at a vertex, or else the other
abbrev pub at_vertex : Option ℕ → Option SplitAt → Option SplitAt
at_vertex (Some v) other = Some (Vertex v)
at_vertex None other = other

unfoldable pub split_of : Version → List ℕ → Option SplitAt
split_of version line = at_vertex (number_of (codes "S") 1 1000000 line) (link_in version line)

-- the version of a log that goes on with a line: the first line says it, and version 1 stands for none
abbrev pub version_with : Version → Bool → List ℕ → Version
version_with version first line = if first then (if bytes_eq line (header Two) then Two else One) else version

-- this stage, if the line is this one
abbrev pub stage_if : List ℕ → List ℕ → Stage → Option Stage
stage_if wanted line stage = if bytes_eq line wanted then Some stage else None

-- 0 stands for no root
abbrev pub root_of : ℕ → Option ℕ
root_of zero = None
root_of (suc n) = Some (suc n)

-- a half is closed: the next one comes, or the end
abbrev pub closed : Answer → List ProofLine → ℕ → Stage
closed a lines zero = AtEnd (Found a.primal a.dual a.tree a.steps lines)
closed a lines (suc waiting) = AtHalf (record { answer = a; lines = lines; waiting = waiting })

-- the cuts of a close come, or there are none left
abbrev pub cuts_left : Proving → Option ℕ → List Cut → ℕ → Stage
cuts_left p root cuts zero = closed p.answer (p.lines ++ Close (record { root = root; cuts = cuts }) ∷ []) p.waiting
cuts_left p root cuts (suc left) = AtCuts p root cuts (suc left)

abbrev pub split_at : Proving → SplitAt → Stage
split_at p at = AtHalf (record { answer = p.answer; lines = p.lines ++ Split at ∷ []; waiting = p.waiting + 1 })

-- a split, or else the head of a close
abbrev pub half_at : Proving → Option SplitAt → List ℕ → Option Stage
half_at p (Some at) line = Some (split_at p at)
half_at p None line = pair_of (codes "C") 0 1000000 0 most line >>= λ head. Some (cuts_left p (root_of head.0) [] head.1)

-- the tree is read to its end, and no step yet
abbrev pub no_step_yet : ℕ → ℕ → ℕ → List (ℕ × ℕ) → Answer
no_step_yet primal dual start arcs = record { primal = primal; dual = dual; tree = record { start = start; arcs = arcs }; steps = [] }

-- one more step is read
abbrev pub with_step : Answer → Step → Answer
with_step a s = record a { steps = a.steps ++ s ∷ [] }

-- what is to come after a line of a log of this version, if it may stand here
unfoldable pub step : Version → Stage → List ℕ → Option Stage
step version AtHeader line = stage_if (header version) line AtClaim
step version AtClaim line = if bytes_eq line (codes "CLAIM NONE") then Some AtWall else (pair_of (codes "CLAIM TREE") 0 most 0 most line >>= λ b. Some (AtTree b.0 b.1))
step version (AtTree primal dual) line = pair_of (codes "TREE") 1 1000000 0 most line >>= λ t. Some (AtArcs primal dual t.0 [] t.1)
step version (AtArcs primal dual start arcs left) line = if left == 0 then (number_of (codes "STEPS") 0 most line >>= λ count. Some (AtSteps (no_step_yet primal dual start arcs) count))
    else (pair_of (codes "A") 1 1000000 1 1000000 line >>= λ arc. Some (AtArcs primal dual start (arcs ++ arc ∷ []) (left - 1)))
step version (AtSteps a left) line = if left == 0 then stage_if (codes "PROOF") line (AtHalf (record { answer = a; lines = []; waiting = 0 }))
    else (step_of line >>= λ s. Some (AtSteps (with_step a s) (left - 1)))
step version (AtHalf p) line = half_at p (split_of version line) line
step version (AtCuts p root cuts left) line = cut_of line >>= λ c. Some (cuts_left p root (cuts ++ c ∷ []) (left - 1))
step version AtWall line = wall_of line >>= λ wall. Some (AtEnd (NoTree wall))
step version (AtEnd claim) line = stage_if (codes "END") line (AtNothing claim)
step version (AtNothing claim) line = None

-- whether no line was read
abbrev pub at_header : Stage → Bool
at_header AtHeader = true
at_header _ = false

-- the stage that some lines lead to
unfoldable pub run : Version → Stage → List (List ℕ) → Option Stage
run version s [] = Some s
run version s (line ∷ lines) = step version s line >>= λ t. run version t lines

-- the lines of a proof so far are whole, but for the halves that wait and the one that comes
abbrev pub open_after : ℕ → List ProofLine → Option ℕ
open_after count [] = Some count
open_after zero (line ∷ lines) = None
open_after (suc count) (Close P ∷ lines) = open_after count lines
open_after (suc count) (Split at ∷ lines) = open_after (suc (suc count)) lines

-- as many halves wait as the lines have left open, but for the one that comes
pub record HalvesWait (p : Proving) : Type 0 where
  pub still : open_after 1 p.lines ≡ Some (p.waiting + 1)
  pub few : p.waiting ≤ length p.lines
