-- What items say, one after the other, and what the items of a log say.
use Rattle.std.proofs.Common.{◌≡◌, ℕ, suc, ◌+◌, ◌-◌, List, [], ◌∷◌, ◌++◌, length, map, refl, sym, ap, ◌∙◌, append_assoc, arith}
use Rattle.std.specs.List.{flat_map}
use Rattle.std.proofs.lemmas.Grind.{flat_map-append}
use Rattle.std.proofs.lemmas.List.{append-nil}
use Rattle.cut_packing.specs.declared.cut.Cut.{Cut}
use Rattle.cut_packing.specs.ProofTree.{ProofTree, close, split}
use Rattle.lift_back.specs.declared.step.Step.{Step}
use Rattle.log_format.specs.declared.item.Item.{Item}
use Rattle.log_format.specs.declared.item.Item.TheVariants.{Arc, StepsHead, OneStep, ProofHead, OneCut, Last}
use Rattle.log_format.specs.declared.log.Claim.{Claim}
use Rattle.log_format.specs.declared.log.Claim.TheVariants.{Found, NoTree}
use Rattle.log_format.specs.declared.log.Log.{Log}
use Rattle.log_format.specs.declared.proof_line.ProofLine.{ProofLine}
use Rattle.log_format.specs.declared.proof_line.ProofLine.TheVariants.{Split}
use Rattle.log_format.specs.declared.stage.Answer.{Answer}
use Rattle.log_format.specs.declared.stage.Proving.{Proving}
use Rattle.log_format.specs.declared.stage.Stage.TheVariants.{AtHeader, AtClaim, AtArcs, AtSteps, AtHalf, AtEnd, AtNothing}
use Rattle.log_format.specs.Items.{proof_items, claim_items, log_items}
use Rattle.log_format.specs.Places.{taken}
use Rattle.log_format.specs.Preorder.{preorder}
use Rattle.log_format.specs.Reading.{closed, cuts_left, no_step_yet}
use Rattle.log_format.specs.Text.{IsLog, IsProved}
use Rattle.cert_checker.specs.Following.{Said, said_by}

-- some items, and then others
pub said_by-append : (s : Said) (xs ys : List Item) → said_by s (xs ++ ys) ≡ said_by (said_by s xs) ys
said_by-append s [] ys = refl
said_by-append s (x ∷ xs) ys = said_by-append (taken s x) xs ys

-- and then one more
pub said_by-push : (s : Said) (xs : List Item) (x : Item) → said_by s (xs ++ x ∷ []) ≡ taken (said_by s xs) x
said_by-push s xs x = said_by-append s xs (x ∷ [])

-- ---- the items of a log

arcs_said : (primal dual start : ℕ) (before arcs : List (ℕ × ℕ)) (left count : ℕ) (rest : List Item)
    → said_by (AtArcs primal dual start before left) (map (λ arc. Arc arc.0 arc.1) arcs ++ (StepsHead count ∷ rest)) ≡ said_by (AtSteps (no_step_yet primal dual start (before ++ arcs)) count) rest
arcs_said primal dual start before [] left count rest = ap (λ (r : List (ℕ × ℕ)). said_by (AtSteps (no_step_yet primal dual start r) count) rest) (sym (append-nil before))
arcs_said primal dual start before (arc ∷ arcs) left count rest =
    arcs_said primal dual start (before ++ arc ∷ []) arcs (left - 1) count rest
    ∙ ap (λ (r : List (ℕ × ℕ)). said_by (AtSteps (no_step_yet primal dual start r) count) rest) (append_assoc before (arc ∷ []) arcs)

-- what was said, with these steps
abbrev with_steps : Answer → List Step → Answer
with_steps a steps = record a { steps = steps }

-- a proof of which nothing came
abbrev begun : Answer → Proving
begun a = record { answer = a; lines = []; waiting = 0 }

steps_said : (a : Answer) (before steps : List Step) (left : ℕ) (rest : List Item)
    → said_by (AtSteps (with_steps a before) left) (map (λ s. OneStep s) steps ++ (ProofHead ∷ rest)) ≡ said_by (AtHalf (begun (with_steps a (before ++ steps)))) rest
steps_said a before [] left rest = ap (λ (r : List Step). said_by (AtHalf (begun (with_steps a r))) rest) (sym (append-nil before))
steps_said a before (s ∷ steps) left rest =
    steps_said a (before ++ s ∷ []) steps (left - 1) rest ∙ ap (λ (r : List Step). said_by (AtHalf (begun (with_steps a r))) rest) (append_assoc before (s ∷ []) steps)

cuts_said : (p : Proving) (root : _) (before cuts : List Cut) → said_by (cuts_left p root before (length cuts)) (map (λ c. OneCut c) cuts) ≡ cuts_left p root (before ++ cuts) 0
cuts_said p root before [] = ap (λ (r : List Cut). cuts_left p root r 0) (sym (append-nil before))
cuts_said p root before (c ∷ cuts) =
    let less : suc (length cuts) - 1 ≡ length cuts = omega arith in
    ap (λ (k : ℕ). said_by (cuts_left p root (before ++ c ∷ []) k) (map (λ d. OneCut d) cuts)) less
    ∙ (cuts_said p root (before ++ c ∷ []) cuts ∙ ap (λ (r : List Cut). cuts_left p root r 0) (append_assoc before (c ∷ []) cuts))

-- the proof so far, with these lines and so many halves that wait
abbrev so_far : Answer → List ProofLine → ℕ → Proving
so_far a lines w = record { answer = a; lines = lines; waiting = w }

tree_said : (t : ProofTree) (a : Answer) (lines : List ProofLine) (w : ℕ) → said_by (AtHalf (so_far a lines w)) (flat_map proof_items (preorder t)) ≡ closed a (lines ++ preorder t) w
tree_said (close P) a lines w =
    ap (λ (r : List Item). said_by (cuts_left (so_far a lines w) P.root [] (length P.cuts)) r) (append-nil (map (λ c. OneCut c) P.cuts)) ∙ cuts_said (so_far a lines w) P.root [] P.cuts
tree_said (split at p q) a lines w =
    let first : List ProofLine = lines ++ Split at ∷ [] in
    let second : List ProofLine = first ++ preorder p in
    let more : w + 1 ≡ suc w = omega arith in
    ap (λ (r : List Item). said_by (AtHalf (so_far a first (w + 1))) r) (flat_map-append proof_items (preorder p) (preorder q))
    ∙ (said_by-append (AtHalf (so_far a first (w + 1))) (flat_map proof_items (preorder p)) (flat_map proof_items (preorder q))
    ∙ (ap (λ (s : Said). said_by s (flat_map proof_items (preorder q))) (tree_said p a first (w + 1) ∙ ap (closed a second) more)
    ∙ (tree_said q a second w
    ∙ ap (λ (r : List ProofLine). closed a r w) (append_assoc first (preorder p) (preorder q) ∙ append_assoc lines (Split at ∷ []) (preorder p ++ preorder q)))))

claim_said : (claim : Claim) → IsProved claim → said_by AtClaim (claim_items claim) ≡ AtEnd claim
claim_said (Found primal dual tree steps proof) (t, is) =
    let a : Answer = no_step_yet primal dual tree.start tree.arcs in
    arcs_said primal dual tree.start [] tree.arcs (length tree.arcs) (length steps) (map (λ s. OneStep s) steps ++ (ProofHead ∷ flat_map proof_items proof))
    ∙ (steps_said a [] steps (length steps) (flat_map proof_items proof)
    ∙ (ap (λ (lines : List ProofLine). said_by (AtHalf (begun (with_steps a steps))) (flat_map proof_items lines)) is
    ∙ (tree_said t (with_steps a steps) [] 0 ∙ ap (λ (lines : List ProofLine). AtEnd (Found primal dual tree steps lines)) (sym is))))
claim_said (NoTree wall) fits = refl

-- the items of a log say its claim
pub log_said : (log : Log) → IsLog log → said_by AtHeader (log_items log) ≡ AtNothing log.claim
log_said log is = said_by-append AtClaim (claim_items log.claim) (Last ∷ []) ∙ ap (λ (s : Said). taken s Last) (claim_said log.claim is.one_proof)
