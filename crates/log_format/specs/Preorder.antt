-- Proof trees as the list of their lines: a split before its two halves.
use Rattle.std.specs.Prelude.{◌≡◌, ℕ, zero, suc, Bool, true, false, List, [], ◌∷◌, ◌++◌}
use Rattle.cut_packing.specs.ProofTree.{ProofTree, close, split}
use Rattle.log_format.specs.declared.proof_line.ProofLine.{ProofLine}
use Rattle.log_format.specs.declared.proof_line.ProofLine.TheVariants.{Split, Close}

-- the lines of a proof tree: a split, then the half that says yes, then the other
abbrev pub preorder : ProofTree → List ProofLine
preorder (close P) = Close P ∷ []
preorder (split at p q) = Split at ∷ (preorder p ++ preorder q)

-- the lines are exactly one proof tree
abbrev pub IsOneProof : List ProofLine → Type 0
IsOneProof lines = (p : ProofTree) × (lines ≡ preorder p)

-- whether the lines are this many proof trees, one after the other
abbrev pub are_proofs : ℕ → List ProofLine → Bool
are_proofs zero [] = true
are_proofs zero (line ∷ lines) = false
are_proofs (suc count) [] = false
are_proofs (suc count) (Close P ∷ lines) = are_proofs count lines
are_proofs (suc count) (Split at ∷ lines) = are_proofs (suc (suc count)) lines
