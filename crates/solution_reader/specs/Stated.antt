-- Whether a claim is a tree of an instance that costs what it says, and what is wrong with it else.
use Rattle.std.specs.Prelude.{◌≡◌, ◌≢◌, ℕ, ◌+◌, ◌*◌, ◌<◌, ◌≤◌, Bool, false, ◌||◌, IsTrue, IsFalse, IfSome, List, [], ◌∷◌, length, map, All, Contains, Some, None, codes}
use Rattle.std.specs.List.Sorted.{IsPermutation}
use Rattle.st_model.specs.declared.tree.Tree.{Tree}
use Rattle.st_model.specs.Arborescence.{IsTree, arc_cost, cost, missed, reached}
use Rattle.st_model.specs.Lists.{has, total, sum_to}
use Rattle.st_model.specs.Made.{has_pair}
use Rattle.st_model.specs.Network.{Network, IsInstance, IsVertex, link}
use Rattle.st_model.specs.Regrown.{unordered}
use Rattle.st_model.specs.Terminals.{IsTerminal}
use Rattle.amounts.specs.declared.scale.Scale.{Scale}
use Rattle.amounts.specs.Laws.{unit}
use Rattle.solution_reader.specs.declared.verify_fault.VerifyFault.{VerifyFault}
use Rattle.solution_reader.specs.declared.verify_fault.VerifyFault.TheVariants.{Empty, OutOfRange, NoLink, Repeated, NotConnected, Cycle, Missing, CostDiffers, NoMemory}
use Rattle.solution_reader.specs.Claim.{Claim, IsClaim}

-- a tree of the instance that reaches exactly the claimed vertices, and whose links are exactly the claimed edges, each named once
pub record IsClaimedTree (I : Network) (claim : Claim) (t : Tree) : Type 0 where
  pub tree : IsTree I t
  pub vertices : (v : ℕ) → has claim.vertices v ≡ has (reached t) v
  pub edges : IsPermutation (map unordered claim.edges) (map unordered t.arcs)

-- the claim is such a tree, c is what it costs, and a primal that is stated is c units of the scale, in millionths
pub record IsStated (I : Network) (scale : Scale) (claim : Claim) (c : ℕ) : Type 0 where
  pub tree : Tree
  pub claimed : IsClaimedTree I claim tree
  pub cost : c ≡ cost I tree
  pub primal : IfSome claim.primal (λ p. p ≡ c * unit scale)

-- ---- faults

abbrev pub number_of : VerifyFault → ℕ
number_of Empty = 1
number_of OutOfRange = 2
number_of NoLink = 3
number_of Repeated = 4
number_of NotConnected = 5
number_of Cycle = 6
number_of Missing = 7
number_of CostDiffers = 8
number_of NoMemory = 0

abbrev pub fault_name : VerifyFault → List ℕ
fault_name Empty = codes "Empty"
fault_name OutOfRange = codes "OutOfRange"
fault_name NoLink = codes "NoLink"
fault_name Repeated = codes "Repeated"
fault_name NotConnected = codes "NotConnected"
fault_name Cycle = codes "Cycle"
fault_name Missing = codes "Missing"
fault_name CostDiffers = codes "CostDiffers"
fault_name NoMemory = codes "NoMemory"

-- an edge stands again among the later ones, in either direction
abbrev pub repeats : List (ℕ × ℕ) → Bool
repeats [] = false
repeats (edge ∷ edges) = has_pair edges edge.0 edge.1 || repeats edges

-- each edge has both its ends on one side, and yet vertices stand on either side
pub record IsApart (claim : Claim) : Type 0 where
  pub side : ℕ → Bool
  pub along : All (λ edge. side edge.0 ≡ side edge.1) claim.edges
  pub one : ℕ
  pub one_there : IsTrue (has claim.vertices one)
  pub one_side : IsTrue (side one)
  pub other : ℕ
  pub other_there : IsTrue (has claim.vertices other)
  pub other_side : IsFalse (side other)

-- what a tree with the claimed vertices and edges costs: its edges, and the prizes of all other vertices
abbrev pub claimed_cost : Network → Claim → ℕ
claimed_cost I claim = total (arc_cost I) claim.edges + sum_to (missed I claim.vertices) I.n

-- a vertex isn't one of 1 to n
abbrev pub HasStranger : Network → Claim → Type 0
HasStranger I claim = (v : ℕ) × IsTrue (has claim.vertices v) × (IsVertex I.n v → ⊥)

-- an edge isn't a link
abbrev pub LacksLink : Network → Claim → Type 0
LacksLink I claim = (edge : ℕ × ℕ) × Contains claim.edges edge × (link I.links edge.0 edge.1 ≡ None)

-- a required vertex isn't there
abbrev pub LacksTerminal : Network → Claim → Type 0
LacksTerminal I claim = (v : ℕ) × IsTerminal I v × IsFalse (has claim.vertices v)

-- a stated primal isn't the cost
abbrev pub CostsOther : Network → Scale → Claim → Type 0
CostsOther I scale claim = (p : ℕ) × (claim.primal ≡ Some p) × (p ≢ claimed_cost I claim * unit scale)

-- what each fault says of a claim; want of memory says nothing of it
abbrev pub IsWrong : Network → Scale → Claim → VerifyFault → Type 0
IsWrong I scale claim Empty = claim.vertices ≡ []
IsWrong I scale claim OutOfRange = HasStranger I claim
IsWrong I scale claim NoLink = LacksLink I claim
IsWrong I scale claim Repeated = IsTrue (repeats claim.edges)
IsWrong I scale claim NotConnected = IsApart claim
IsWrong I scale claim Cycle = length claim.vertices ≤ length claim.edges
IsWrong I scale claim Missing = LacksTerminal I claim
IsWrong I scale claim CostDiffers = CostsOther I scale claim
IsWrong I scale claim NoMemory = ⊥

-- the fault is there, and none with a lower number
pub record IsFirstWrong (I : Network) (scale : Scale) (claim : Claim) (f : VerifyFault) : Type 0 where
  pub wrong : IsWrong I scale claim f
  pub first : (g : VerifyFault) → number_of g < number_of f → IsWrong I scale claim g → ⊥

-- the first thing that is wrong with the claim, where it isn't memory
abbrev pub IsVerifyFault : Network → Scale → Claim → VerifyFault → Type 0
IsVerifyFault I scale claim NoMemory = Unit {0}
IsVerifyFault I scale claim f = IsFirstWrong I scale claim f

-- a claim that is a tree of an instance has no fault
abbrev pub StatedHasNoFault : Type 0
StatedHasNoFault = (I : Network) (scale : Scale) (claim : Claim) (c : ℕ) (f : VerifyFault) → IsInstance I → IsClaim claim → IsStated I scale claim c → IsVerifyFault I scale claim f → f ≡ NoMemory
