-- Lines are so many proof trees just where their splits and closes come out even.
use Rattle.std.proofs.Common.{◌≡◌, ℕ, zero, suc, ◌+◌, true, List, [], ◌∷◌, ◌++◌, Some, refl, sym, ap, ◌∙◌, append_assoc, arith}
use Rattle.std.specs.Prelude.{length}
use Rattle.std.proofs.lemmas.List.{append-nil}
use Rattle.st_model.specs.declared.split_at.SplitAt.{SplitAt}
use Rattle.cut_packing.specs.ProofTree.{ProofTree, close, split}
use Rattle.log_format.specs.declared.proof_line.ProofLine.{ProofLine}
use Rattle.log_format.specs.declared.proof_line.ProofLine.TheVariants.{Split, Close}
use Rattle.cut_packing.specs.declared.packing.Packing.{Packing}
use Rattle.log_format.specs.Preorder.{preorder, IsOneProof, are_proofs}
use Rattle.log_format.specs.Reading.{open_after}

-- the lines of some proof trees, one after the other
abbrev pub preorders : List ProofTree → List ProofLine
preorders [] = []
preorders (p ∷ ps) = preorder p ++ preorders ps

-- so many proof trees that have these lines
abbrev pub Proofs : ℕ → List ProofLine → Type 0
Proofs count lines = (ps : List ProofTree) × (length ps ≡ count) × (lines ≡ preorders ps)

-- a close in front is one tree more
with_close : (count : ℕ) (P : _) (lines : List ProofLine) → Proofs count lines → Proofs (suc count) (Close P ∷ lines)
with_close count P lines f = (close P ∷ f.0, ap suc f.1, ap (λ (r : List ProofLine). Close P ∷ r) f.2)

-- a split in front makes one of the first two
with_split : (count : ℕ) (at : SplitAt) (lines : List ProofLine) → Proofs (suc (suc count)) lines → Proofs (suc count) (Split at ∷ lines)
with_split count at lines ([], n, e) = absurd cc
with_split count at lines (p ∷ [], n, e) = absurd (omega arith)
with_split count at lines (p ∷ q ∷ ps, n, e) = (split at p q ∷ ps, omega arith, ap (λ (r : List ProofLine). Split at ∷ r) (e ∙ sym (append_assoc (preorder p) (preorder q) (preorders ps))))

-- lines that pass are so many proof trees
pub proofs_from : (count : ℕ) (lines : List ProofLine) → are_proofs count lines ≡ true → Proofs count lines
proofs_from zero [] h = ([], refl, refl)
proofs_from zero (line ∷ lines) h = absurd cc
proofs_from (suc count) [] h = absurd cc
proofs_from (suc count) (Close P ∷ lines) h = with_close count P lines (proofs_from count lines h)
proofs_from (suc count) (Split at ∷ lines) h = with_split count at lines (proofs_from (suc (suc count)) lines h)

-- a proof tree in front is one more
pub are_proofs-preorder : (p : ProofTree) (count : ℕ) (rest : List ProofLine) → are_proofs (suc count) (preorder p ++ rest) ≡ are_proofs count rest
are_proofs-preorder (close P) count rest = refl
are_proofs-preorder (split at p q) count rest =
    ap (are_proofs (suc (suc count))) (append_assoc (preorder p) (preorder q) rest) ∙ (are_proofs-preorder p (suc count) (preorder q ++ rest) ∙ are_proofs-preorder q count rest)

-- lines that pass are one proof tree
pub one_from : (lines : List ProofLine) → are_proofs 1 lines ≡ true → IsOneProof lines
one_from lines h = single (proofs_from 1 lines h)
  where
    single : Proofs 1 lines → IsOneProof lines
    single ([], n, e) = absurd cc
    single (p ∷ [], n, e) = (p, e ∙ append-nil (preorder p))
    single (p ∷ q ∷ ps, n, e) = absurd (omega arith)

-- the lines of a proof tree pass
pub one_passes : (lines : List ProofLine) → IsOneProof lines → are_proofs 1 lines ≡ true
one_passes lines (p, e) = ap (are_proofs 1) (e ∙ sym (append-nil (preorder p))) ∙ are_proofs-preorder p 0 []

-- lines that leave some halves open pass with what closes these
pub are_proofs-append : (count : ℕ) (lines more : List ProofLine) (left : ℕ) → open_after count lines ≡ Some left → are_proofs count (lines ++ more) ≡ are_proofs left more
are_proofs-append count [] more left e = let same : count ≡ left = cc in ap (λ (k : ℕ). are_proofs k more) same
are_proofs-append zero (line ∷ lines) more left e = absurd cc
are_proofs-append (suc count) (Close P ∷ lines) more left e = are_proofs-append count lines more left e
are_proofs-append (suc count) (Split at ∷ lines) more left e = are_proofs-append (suc (suc count)) lines more left e

-- what two lists of lines leave open, one after the other
pub open_after-append : (count : ℕ) (lines more : List ProofLine) (left : ℕ) → open_after count lines ≡ Some left → open_after count (lines ++ more) ≡ open_after left more
open_after-append count [] more left e = let same : count ≡ left = cc in ap (λ (k : ℕ). open_after k more) same
open_after-append zero (line ∷ lines) more left e = absurd cc
open_after-append (suc count) (Close P ∷ lines) more left e = open_after-append count lines more left e
open_after-append (suc count) (Split at ∷ lines) more left e = open_after-append (suc (suc count)) lines more left e

-- a close ends the last half that is open
pub last_close : (lines : List ProofLine) (P : Packing) (waiting : ℕ) → open_after 1 lines ≡ Some (waiting + 1) → waiting ≡ 0 → are_proofs 1 (lines ++ Close P ∷ []) ≡ true
last_close lines P waiting e none = are_proofs-append 1 lines (Close P ∷ []) 1 (e ∙ ap (λ (k : ℕ). Some (k + 1)) none)
