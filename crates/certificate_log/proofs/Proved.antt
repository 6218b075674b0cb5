-- The lines of a proof are those of one proof tree, and what it proves is at most the least weight of its closes. The lines of what can be written can be written.
use Rattle.std.proofs.Common.{◌≡◌, ℕ, ◌≤◌, List, [], ◌++◌, sym, ap, ◌∙◌, append_assoc, arith}
use Rattle.std.specs.Prelude.{All, Contains}
use Rattle.std.proofs.lemmas.List.{append-nil}
use Rattle.std.proofs.lemmas.List.Elements.{All-append, All-cons, All-contains, All-nil}
use Rattle.st_model.specs.declared.split_at.SplitAt.{SplitAt}
use Rattle.st_model.specs.declared.branch.Branch.{Branch}
use Rattle.st_model.specs.Network.{Network}
use Rattle.st_model.specs.Branch.{yes_half, no_half}
use Rattle.cut_packing.specs.ProofTree.{ProofTree, Proves, close, split}
use Rattle.cut_packing.specs.declared.packing.Packing.{Packing}
use Rattle.branching.specs.declared.node.Node.{Node}
use Rattle.log_format.specs.declared.log.Version.TheVariants.{Two}
use Rattle.log_format.specs.declared.proof_line.ProofLine.{ProofLine}
use Rattle.log_format.specs.declared.proof_line.ProofLine.TheVariants as line
use Rattle.log_format.specs.Preorder.{preorder}
use Rattle.log_format.specs.Text.{IsWritableLine, IsWritablePacking, IsWritableSplit}
use Rattle.search_core.specs.declared.done.Done.{Done}
use Rattle.search_core.specs.declared.done.Done.TheVariants.{Split, Close}
use Rattle.search_core.specs.declared.gathered.Gathered.{Gathered}
use Rattle.search_core.specs.Complete.{AllPackings, done_packing, records, waiting}
use Rattle.search_core.specs.ReadOff.{IsReadOff, closed, waits, was_split, least_weight}

-- where lines begin with a proof tree, they begin with no other, and the same lines follow
one_in_front : (p q : ProofTree) (r s : List ProofLine) → preorder p ++ r ≡ preorder q ++ s → (p ≡ q) × (r ≡ s)
one_in_front (close P) (close Q) r s e = let same : P ≡ Q = cc in let rest : r ≡ s = cc in (ap close same, rest)
one_in_front (close P) (split w q1 q2) r s e = absurd cc
one_in_front (split at p1 p2) (close Q) r s e = absurd cc
one_in_front (split at p1 p2) (split w q1 q2) r s e =
    let same : at ≡ w = cc in
    let tails : (preorder p1 ++ preorder p2) ++ r ≡ (preorder q1 ++ preorder q2) ++ s = cc in
    let first = one_in_front p1 q1 (preorder p2 ++ r) (preorder q2 ++ s) (sym (append_assoc (preorder p1) (preorder p2) r) ∙ (tails ∙ append_assoc (preorder q1) (preorder q2) s)) in
    let second = one_in_front p2 q2 r s first.1 in
    (ap (λ u. split u p1 p2) same ∙ (ap (λ t. split w t p2) first.0 ∙ ap (λ t. split w q1 t) second.0), second.1)

pub one_proof : (p q : ProofTree) → preorder p ≡ preorder q → p ≡ q
one_proof p q e = (one_in_front p q [] [] (append-nil (preorder p) ∙ (e ∙ sym (append-nil (preorder q))))).0

-- what is proved is at most the least weight
pub proved_below : (I : Network) (B : Branch) (x : ℕ) (p : ProofTree) → Proves I B x p → x ≤ least_weight I B p
proved_below I B x (close P) proves = proves.weighs
proved_below I B x (split at inside outside) proves =
    let inner = proved_below I (yes_half B at) x inside proves.1 in
    let outer = proved_below I (no_half B at) x outside proves.2 in
    omega (arith, inner, outer)

-- each split that was recorded can be written in version 2
abbrev pub SplitsFit : Gathered → Type 0
SplitsFit G = (id : ℕ) (at : SplitAt) (i o : ℕ) (P : Packing) → Contains (records G) (Split id at i o P) → IsWritableSplit Two at

-- the lines of a tree that is read off what can be written can be written
pub lines_fit : (G : Gathered) (id : ℕ) (p : ProofTree) → AllPackings IsWritablePacking G → SplitsFit G → IsReadOff G id p → All (IsWritableLine Two) (preorder p)
lines_fit G id p writable splits (closed {id = a} {P} there) =
    let packing : IsWritablePacking P = All-contains (λ (d : Done). IsWritablePacking (done_packing d)) (records G) (Close a P) writable.0 there in
    All-cons (IsWritableLine Two) (line.Close P) [] packing (All-nil (IsWritableLine Two))
lines_fit G id p writable splits (waits {N} there) =
    let packing : IsWritablePacking N.packing = All-contains (λ (M : Node). IsWritablePacking M.packing) (waiting G) N writable.1 there in
    All-cons (IsWritableLine Two) (line.Close N.packing) [] packing (All-nil (IsWritableLine Two))
lines_fit G id p writable splits (was_split {id = a} {at} {i} {o} {P} {inside} {outside} there first second) =
    let inner = lines_fit G i inside writable splits first in
    let outer = lines_fit G o outside writable splits second in
    All-cons (IsWritableLine Two) (line.Split at) (preorder inside ++ preorder outside) (splits a at i o P there) (All-append (IsWritableLine Two) (preorder inside) (preorder outside) inner outer)
