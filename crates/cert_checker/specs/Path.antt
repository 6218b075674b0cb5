-- The way from the branch of all trees to one of the open branches. The clauses of `Path` and of helpers cite this, and no other public one.
use Rattle.std.specs.Prelude.{◌≡◌, ℕ, ◌-◌, nat_lt, Bool, not, if◌then◌else◌, List, [], ◌∷◌, length, take, Option, Some, None, map, reverse}
use Rattle.std.specs.List.{prefix_len}
use Rattle.std.specs.List.Sorted.{IsNonDecreasing}
use Rattle.st_model.specs.declared.branch.Branch.{Branch}
use Rattle.st_model.specs.declared.split_at.SplitAt.{SplitAt}
use Rattle.st_model.specs.declared.split_at.SplitAt.TheVariants.{Vertex, Link}
use Rattle.st_model.specs.Lists.{has}
use Rattle.st_model.specs.Ground.{Ground, ground}
use Rattle.st_model.specs.Network.{Network}
use Rattle.st_model.specs.Branch.{joined, with_inside, with_outside, with_must, with_barred, all_trees}
use Rattle.cut_packing.specs.ProofTree.{IsSplitAtIn}
use Rattle.log_format.specs.declared.proof_line.ProofLine.{ProofLine}
use Rattle.log_format.specs.declared.proof_line.ProofLine.TheVariants.{Split, Close}
use Rattle.cert_checker.specs.declared.turn.Turn.{Turn}
use Rattle.cert_checker.specs.declared.turn.Turn.TheVariants.{Inside, Outside, Used, Barred}

-- where a turn splits its branch
abbrev pub at_of : Turn → SplitAt
at_of (Inside v) = Vertex v
at_of (Outside v) = Vertex v
at_of (Used a b a_came b_came) = Link a b
at_of (Barred a b) = Link a b

-- the half of a branch that a turn goes into
abbrev pub turned : Branch → Turn → Branch
turned B (Inside v) = with_inside B v
turned B (Outside v) = with_outside B v
turned B (Used a b a_came b_came) = with_must B a b
turned B (Barred a b) = with_barred B a b

-- the turn says of each end of its link whether it comes inside by the turn: it wasn't there before
abbrev pub TellsEnds : Branch → Turn → Type 0
TellsEnds B (Used a b a_came b_came) = (a_came ≡ not (has B.inside a)) × (b_came ≡ not (has (joined B.inside a) b))
TellsEnds B turn = Unit {0}

-- the branch that some turns lead to, the last one first
abbrev pub branch_of : List Turn → Branch
branch_of [] = all_trees
branch_of (turn ∷ path) = turned (branch_of path) turn

-- the turns that leave some vertices out, the first of them first
abbrev pub leaving_out : List ℕ → List Turn
leaving_out vertices = reverse (map Outside vertices)

-- each turn says so
abbrev pub TellEnds : List Turn → Type 0
TellEnds [] = Unit {0}
TellEnds (turn ∷ path) = TellsEnds (branch_of path) turn × TellEnds path

-- the halves that wait: of each turn to the half that says yes, the other one
abbrev pub waiting : List Turn → List Branch
waiting [] = []
waiting (Inside v ∷ path) = with_outside (branch_of path) v ∷ waiting path
waiting (Outside v ∷ path) = waiting path
waiting (Used a b a_came b_came ∷ path) = with_barred (branch_of path) a b ∷ waiting path
waiting (Barred a b ∷ path) = waiting path

-- the open branches: the one that some turns lead to, and those that wait
abbrev pub open_branches : List Turn → List Branch
open_branches path = branch_of path ∷ waiting path

-- the path to the first half that waits, if one does
abbrev pub next_path : List Turn → Option (List Turn)
next_path [] = None
next_path (Inside v ∷ path) = Some (Outside v ∷ path)
next_path (Outside v ∷ path) = next_path path
next_path (Used a b a_came b_came ∷ path) = Some (Barred a b ∷ path)
next_path (Barred a b ∷ path) = next_path path

-- each turn is where its branch can be split, and says rightly which ends come inside by it
abbrev pub AreSplitsIn : Ground → List Turn → Type 0
AreSplitsIn G [] = Unit {0}
AreSplitsIn G (turn ∷ path) = (IsSplitAtIn G (branch_of path) (at_of turn) × TellsEnds (branch_of path) turn) × AreSplitsIn G path

-- the same in a network
abbrev pub AreSplits : Network → List Turn → Type 0
AreSplits I path = AreSplitsIn (ground I) path

-- both sets are written in order
pub record IsInOrder (B : Branch) : Type 0 where
  pub inside : IsNonDecreasing B.inside
  pub outside : IsNonDecreasing B.outside

-- how many vertices stand before the first one that isn't below v
abbrev pub place_of : List ℕ → ℕ → ℕ
place_of xs v = prefix_len (λ x. nat_lt x v) xs

-- the list but for the first vertex that isn't below v
abbrev pub without : List ℕ → ℕ → List ℕ
without [] v = []
without (x ∷ xs) v = if nat_lt x v then x ∷ without xs v else xs

-- the list but for the vertex, if that came
abbrev pub without_new : List ℕ → ℕ → Bool → List ℕ
without_new xs v came = if came then without xs v else xs

-- the pairs but for the last
abbrev pub without_last : List (ℕ × ℕ) → List (ℕ × ℕ)
without_last pairs = take (length pairs - 1) pairs

-- the branch whose half a turn went into: an end of a link that was inside before stays there
abbrev pub turned_back : Branch → Turn → Branch
turned_back B (Inside v) = record B { inside = without B.inside v }
turned_back B (Outside v) = record B { outside = without B.outside v }
turned_back B (Used a b a_came b_came) = record B { inside = without_new (without_new B.inside b b_came) a a_came; must = without_last B.must }
turned_back B (Barred a b) = record B { barred = without_last B.barred }

-- the path to the half of its branch that says yes to a split
abbrev pub yes_path : List Turn → SplitAt → List Turn
yes_path path (Vertex v) = Inside v ∷ path
yes_path path (Link a b) = Used a b (not (has (branch_of path).inside a)) (not (has (branch_of path).inside b)) ∷ path

-- the path to the first branch that is open after a right line, if one is
abbrev pub path_after : List Turn → ProofLine → Option (List Turn)
path_after path (Split at) = Some (yes_path path at)
path_after path (Close P) = next_path path
