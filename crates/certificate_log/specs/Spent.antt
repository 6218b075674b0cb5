-- What a proof owes to a budget, and the greatest bound that it shows.
use Rattle.std.specs.Prelude.{◌≡◌, ℕ, ◌+◌, ◌≤◌, nat_lt, if◌then◌else◌, List, [], ◌∷◌, ◌++◌, length}
use Rattle.st_model.specs.declared.branch.Branch.{Branch}
use Rattle.st_model.specs.Network.{Network}
use Rattle.st_model.specs.Branch.{yes_half, no_half}
use Rattle.cut_packing.specs.Packing.{weight}
use Rattle.cut_packing.specs.ProofTree.{ProofTree, close, split}
use Rattle.log_format.specs.declared.proof_line.ProofLine.{ProofLine}
use Rattle.log_format.specs.Preorder.{preorder}
use Rattle.log_format.specs.Accepts.{ProvesOf}

-- what the closes weigh that weigh less than primal, in order, where the proof tree is one of the branch
abbrev pub light_weights : Network → Branch → ℕ → ProofTree → List ℕ
light_weights I B primal (close P) = if nat_lt (weight I B P) primal then weight I B P ∷ [] else []
light_weights I B primal (split at inside outside) = light_weights I (yes_half B at) primal inside ++ light_weights I (no_half B at) primal outside

-- the lines, those of some proof tree, number at least the budget and one more for each close of the branch that is light
abbrev pub IsSpent : ℕ → Network → Branch → ℕ → List ProofLine → Type 0
IsSpent budget I R primal lines = (p : ProofTree) × (lines ≡ preorder p) × (budget + length (light_weights I R primal p) ≤ length lines)

-- of the numbers up to primal that the lines prove of the branch, dual is the greatest
abbrev pub IsGreatestOf : Network → Branch → ℕ → ℕ → List ProofLine → Type 0
IsGreatestOf I R primal dual lines = (x : ℕ) → x ≤ primal → ProvesOf I R x lines → x ≤ dual
