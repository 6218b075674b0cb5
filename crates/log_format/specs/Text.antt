-- The one text of a log, and what can stand in it.
use Rattle.std.specs.Prelude.{◌≡◌, ℕ, ◌^◌, ◌≤◌, ◌<◌, List, [], ◌∷◌, ◌++◌, ◌==◌, if◌then◌else◌, length, map, Option, None, Some, All, IfSome, codes}
use Rattle.std.specs.List.{flat_map}
use Rattle.std.specs.Fmt.{decimal}
use Rattle.st_model.specs.declared.split_at.SplitAt.{SplitAt}
use Rattle.st_model.specs.declared.split_at.SplitAt.TheVariants.{Vertex, Link}
use Rattle.st_model.specs.declared.tree.Tree.{Tree}
use Rattle.st_model.specs.Network.{IsVertex}
use Rattle.st_model.specs.Branch.{IsVertexSet}
use Rattle.cut_packing.specs.declared.cut.Cut.{Cut}
use Rattle.plain_text.specs.Lines.{ended}
use Rattle.cut_packing.specs.declared.packing.Packing.{Packing}
use Rattle.lift_back.specs.declared.step.Step.{Step}
use Rattle.lift_back.specs.declared.step.Step.TheVariants.{Pendant, Through, Forced, Detour}
use Rattle.log_format.specs.declared.log.Log.{Log}
use Rattle.log_format.specs.declared.log.Version.{Version}
use Rattle.log_format.specs.declared.log.Version.TheVariants.{One, Two}
use Rattle.log_format.specs.declared.log.Claim.{Claim}
use Rattle.log_format.specs.declared.log.Claim.TheVariants.{Found, NoTree}
use Rattle.log_format.specs.declared.proof_line.ProofLine.{ProofLine}
use Rattle.log_format.specs.declared.proof_line.ProofLine.TheVariants.{Split, Close}
use Rattle.log_format.specs.Preorder.{IsOneProof}

-- a space and a number
abbrev pub spaced : ℕ → List ℕ
spaced n = 32 ∷ decimal n

-- a keyword and numbers, with one space before each of them
abbrev pub words : List ℕ → List ℕ → List ℕ
words keyword numbers = keyword ++ flat_map spaced numbers

-- how a root is written: 0 where there is none
abbrev pub root_number : Option ℕ → ℕ
root_number None = 0
root_number (Some root) = root

abbrev pub arc_line : ℕ × ℕ → List ℕ
arc_line arc = words (codes "A") (arc.0 ∷ arc.1 ∷ [])

abbrev pub cut_line : Cut → List ℕ
cut_line c = words (codes "U") (c.q ∷ c.y ∷ length c.set ∷ c.set)

-- the line of a step: a letter for its kind, and its vertices; of a detour the ends, and how many inner vertices, and these
abbrev pub step_line : Step → List ℕ
step_line (Pendant v) = words (codes "P") (v ∷ [])
step_line (Through v) = words (codes "H") (v ∷ [])
step_line (Forced v) = words (codes "F") (v ∷ [])
step_line (Detour a b inner) = words (codes "D") (a ∷ b ∷ length inner ∷ inner)

-- the line of a split: a letter for its kind, and the vertex, or the ends of the link
abbrev pub split_line : SplitAt → List ℕ
split_line (Vertex v) = words (codes "S") (v ∷ [])
split_line (Link a b) = words (codes "L") (a ∷ b ∷ [])

-- the lines of a split, and of a close
abbrev pub lines_of : ProofLine → List (List ℕ)
lines_of (Split at) = split_line at ∷ []
lines_of (Close P) = words (codes "C") (root_number P.root ∷ length P.cuts ∷ []) ∷ map cut_line P.cuts

-- the first line of a log, which says its version
abbrev pub header : Version → List ℕ
header One = codes "STEINERLOG 1"
header Two = codes "STEINERLOG 2"

-- the lines of a claim
abbrev pub claim_lines : Claim → List (List ℕ)
claim_lines (Found primal dual tree steps proof) = words (codes "CLAIM TREE") (primal ∷ dual ∷ []) ∷ words (codes "TREE") (tree.start ∷ length tree.arcs ∷ [])
    ∷ (map arc_line tree.arcs ++ (words (codes "STEPS") (length steps ∷ []) ∷ (map step_line steps ++ (codes "PROOF" ∷ flat_map lines_of proof))))
claim_lines (NoTree wall) = codes "CLAIM NONE" ∷ words (codes "WALL") (length wall ∷ wall) ∷ []

-- the lines of a log, without their ends
abbrev pub log_lines : Log → List (List ℕ)
log_lines log = header log.version ∷ (claim_lines log.claim ++ codes "END" ∷ [])

-- the text of a log
abbrev pub log_text : Log → List ℕ
log_text log = flat_map ended (log_lines log)

-- a vertex of some instance
abbrev pub IsAnyVertex : ℕ → Type 0
IsAnyVertex v = IsVertex 1000000 v

-- a set that can be written: some vertex, ascending
pub record IsWritableSet (set : List ℕ) : Type 0 where
  pub some : 1 ≤ length set
  pub vertices : IsVertexSet 1000000 set

pub record IsWritableCut (c : Cut) : Type 0 where
  pub q : IsAnyVertex c.q
  pub y : c.y < 2 ^ 64
  pub set : IsWritableSet c.set

pub record IsWritablePacking (P : Packing) : Type 0 where
  pub root : IfSome P.root IsAnyVertex
  pub few_cuts : length P.cuts < 2 ^ 64
  pub cuts : All IsWritableCut P.cuts

-- the ends of a link of some instance, the lower first
pub record IsAnyLink (a b : ℕ) : Type 0 where
  pub low : IsAnyVertex a
  pub high : IsAnyVertex b
  pub ordered : a < b

-- a split of some instance
abbrev pub IsAnySplit : SplitAt → Type 0
IsAnySplit (Vertex v) = IsAnyVertex v
IsAnySplit (Link a b) = IsAnyLink a b

-- a split that can be written: at a link in version 2 alone
abbrev pub IsWritableSplit : Version → SplitAt → Type 0
IsWritableSplit version (Vertex v) = IsAnyVertex v
IsWritableSplit version (Link a b) = (version ≡ Two) × IsAnyLink a b

abbrev pub IsWritableLine : Version → ProofLine → Type 0
IsWritableLine version (Split at) = IsWritableSplit version at
IsWritableLine version (Close P) = IsWritablePacking P

pub record IsWritableTree (tree : Tree) : Type 0 where
  pub start : IsAnyVertex tree.start
  pub few_arcs : length tree.arcs < 2 ^ 64
  pub arcs : All (λ arc. IsAnyVertex arc.0 × IsAnyVertex arc.1) tree.arcs

-- the inner vertices of a detour that can be written: some vertex, in any order
pub record IsWritableInner (inner : List ℕ) : Type 0 where
  pub some : 1 ≤ length inner
  pub few : length inner < 2 ^ 64
  pub vertices : All IsAnyVertex inner

abbrev pub IsWritableStep : Step → Type 0
IsWritableStep (Pendant v) = IsAnyVertex v
IsWritableStep (Through v) = IsAnyVertex v
IsWritableStep (Forced v) = IsAnyVertex v
IsWritableStep (Detour a b inner) = IsAnyVertex a × IsAnyVertex b × IsWritableInner inner

pub record IsWritableFound (version : Version) (primal dual : ℕ) (tree : Tree) (steps : List Step) (proof : List ProofLine) : Type 0 where
  pub primal_fits : primal < 2 ^ 64
  pub dual_fits : dual < 2 ^ 64
  pub tree_fits : IsWritableTree tree
  pub few_steps : length steps < 2 ^ 64
  pub steps_fit : All IsWritableStep steps
  pub lines_fit : All (IsWritableLine version) proof

-- vertices from 1 to 1,000,000, other numbers below 2^64, and splits that can be written in this version
abbrev pub IsClaimInRange : Version → Claim → Type 0
IsClaimInRange version (Found primal dual tree steps proof) = IsWritableFound version primal dual tree steps proof
IsClaimInRange version (NoTree wall) = IsWritableSet wall

abbrev pub IsInLogRange : Log → Type 0
IsInLogRange log = IsClaimInRange log.version log.claim

-- the lines of the proof are exactly one proof tree
abbrev pub IsProved : Claim → Type 0
IsProved (Found primal dual tree steps proof) = IsOneProof proof
IsProved (NoTree wall) = Unit {0}

-- a log: one that can be written, and whose proof is one proof tree
pub record IsLog (log : Log) : Type 0 where
  pub in_range : IsInLogRange log
  pub one_proof : IsProved log.claim

-- these lines are all of some log
abbrev pub AreWhole : List (List ℕ) → Type 0
AreWhole lines = (log : Log) × IsLog log × (log_lines log ≡ lines)

-- some log begins with these lines
abbrev pub Begins : List (List ℕ) → Type 0
Begins lines = (log : Log) × (rest : List (List ℕ)) × IsLog log × (log_lines log ≡ lines ++ rest)

-- one more byte in front: it begins the first line, or what is left
abbrev pub with_byte : ℕ → List (List ℕ) × List ℕ → List (List ℕ) × List ℕ
with_byte b ([], rest) = ([], b ∷ rest)
with_byte b (line ∷ lines, rest) = ((b ∷ line) ∷ lines, rest)

-- the whole lines of some bytes, without their ends, and what is left after the last end
abbrev pub cut_lines : List ℕ → List (List ℕ) × List ℕ
cut_lines [] = ([], [])
cut_lines (b ∷ bytes) = if b == 10 then ([] ∷ (cut_lines bytes).0, (cut_lines bytes).1) else with_byte b (cut_lines bytes)

abbrev pub whole_lines : List ℕ → List (List ℕ)
whole_lines bytes = (cut_lines bytes).0

abbrev pub unfinished : List ℕ → List ℕ
unfinished bytes = (cut_lines bytes).1
