-- What the log of a search proves where no step was taken, and that its lines can be written.
use Rattle.std.proofs.Common.{◌≡◌, ℕ, List, [], sym, ◌∙◌, subst}
use Rattle.std.specs.Prelude.{All}
use Rattle.st_model.specs.declared.tree.Tree.{Tree}
use Rattle.st_model.specs.Network.{Network}
use Rattle.cut_packing.specs.ProofTree.{ProofTree, Proves}
use Rattle.lift_back.specs.declared.step.Step.{Step}
use Rattle.lift_back.specs.State.{State, whole}
use Rattle.log_format.specs.declared.log.Log.{Log}
use Rattle.log_format.specs.declared.log.Claim.{Claim}
use Rattle.log_format.specs.declared.log.Claim.TheVariants.{Found}
use Rattle.log_format.specs.declared.log.Version.{Version}
use Rattle.log_format.specs.declared.log.Version.TheVariants.{Two}
use Rattle.log_format.specs.declared.proof_line.ProofLine.{ProofLine}
use Rattle.log_format.specs.Accepts.{AcceptsClaim, AcceptsFound, ProvesAfter, left_of, left_over}
use Rattle.log_format.specs.Preorder.{preorder}
use Rattle.log_format.specs.Text.{IsClaimInRange, IsWritableFound, IsWritableLine}
use Rattle.search_core.specs.declared.gathered.Gathered.{Gathered}
use Rattle.certificate_log.specs.Assembled.{IsAssembled}

steps_same : {p p' d d' : ℕ} {t t' : Tree} {steps other : List Step} {lines lines' : List ProofLine} → Found p d t steps lines ≡ Found p' d' t' other lines' → steps ≡ other
steps_same e = cc

pub proves_so : (I : Network) (G : Gathered) (log : Log) (primal dual : ℕ) (tree : Tree) (steps : List Step) (lines : List ProofLine) → IsAssembled [] I (whole I) G log → log.claim ≡ Found primal dual tree steps lines
    → (p : ProofTree) × (x : ℕ) × (lines ≡ preorder p) × Proves I (left_over (whole I)) x p
proves_so I G log primal dual tree steps lines a e =
    let none : steps ≡ [] = steps_same (sym e ∙ a.claims) in
    let found : AcceptsFound I primal dual tree steps lines = subst (AcceptsClaim I) e a.accepted in
    let (s, applies, (p, is, proves)) = subst (λ (xs : List Step). ProvesAfter I xs dual lines) none found.is_proved in
    (p, left_of dual s, is, subst (λ (t : State). Proves t.instance (left_over t) (left_of dual s) p) (sym applies) proves)

pub writable_so : (I : Network) (G : Gathered) (log : Log) (primal dual : ℕ) (tree : Tree) (steps : List Step) (lines : List ProofLine) → IsAssembled [] I (whole I) G log → log.claim ≡ Found primal dual tree steps lines → All (IsWritableLine Two) lines
writable_so I G log primal dual tree steps lines a e =
    let claim : IsClaimInRange log.version (Found primal dual tree steps lines) = subst (IsClaimInRange log.version) e a.is_log.in_range in
    let found : IsWritableFound Two primal dual tree steps lines = subst (λ (v : Version). IsWritableFound v primal dual tree steps lines) a.version claim in
    found.lines_fit
