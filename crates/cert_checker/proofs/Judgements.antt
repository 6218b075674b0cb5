-- What an accepted log concludes, and what a wrong proof rejects.
use Rattle.std.proofs.Common.{◌≡◌, ℕ, ◌+◌, Bool, true, false, cond, List, [], ◌∷◌, Option, Some, None, inr, refl, sym, subst}
use Rattle.std.specs.Prelude.{◌==◌}
use Rattle.std.proofs.lemmas.Bool.{eqb-true}
use Rattle.st_model.specs.declared.tree.Tree.{Tree}
use Rattle.st_model.specs.declared.branch.Branch.{Branch}
use Rattle.st_model.specs.Branch.{all_trees}
use Rattle.st_model.specs.Ground.{Ground, ground}
use Rattle.st_model.specs.Arborescence.{IsBoundIn}
use Rattle.arborescence.specs.DiNetwork.{di_ground}
use Rattle.arborescence.specs.Problem.{Problem, plain, directed, ground_of}
use Rattle.lift_back.specs.declared.step.Step.{Step}
use Rattle.lift_back.specs.State.{State, whole}
use Rattle.lift_back.specs.Steps.{Applies}
use Rattle.log_format.specs.declared.kind.Kind.{Kind}
use Rattle.log_format.specs.declared.log.Claim.{Claim}
use Rattle.log_format.specs.declared.log.Claim.TheVariants as claim
use Rattle.log_format.specs.declared.proof_line.ProofLine.{ProofLine}
use Rattle.log_format.specs.Accepts.{HoldsIn, IsFirstBad, IsFirstWrongAfter, IsFirstWrongFrom, IsFirstWrongIn, IsFirstWrongOver, ProvesAfterIn, ProvesOfIn, left_over, steps_line, proof_line}
use Rattle.log_format.proofs.Alike.{takes_may}
use Rattle.cert_checker.specs.declared.verdict.Verdict.TheVariants.{Optimal, Bound}
use Rattle.cert_checker.specs.Verdict.{ConcludesIn, verdict_of}
use Rattle.cert_checker.specs.declared.posed.Posed.{Posed}
use Rattle.cert_checker.specs.Posed.{problem_of, ground_on, ground_left, left_or, IsDue}

-- what holds is what the verdict says
pub holds_concludes : (K : Problem) (claim : Claim) → HoldsIn K claim → ConcludesIn K (verdict_of claim)
holds_concludes K (claim.Found primal dual tree steps proof) holds = at (dual == primal) refl
  where
    at : (b : Bool) → (dual == primal) ≡ b → ConcludesIn K (cond b (Optimal primal) (Bound dual primal))
    at true same = ((tree, holds.0, holds.1), subst (IsBoundIn (ground_of K)) (eqb-true dual primal same) holds.2)
    at false other = ((tree, holds.0, holds.1), holds.2)
holds_concludes K (claim.NoTree wall) holds = holds

-- the other checks come where all steps are taken
others_bad : (s last : State) (at : ℕ) (steps : List Step) (l : ℕ) (k : Kind) (O : State → Type 0) → Applies steps s last → O last → IsFirstBad s at steps l k O
others_bad s last at [] l k O same others = subst O (sym same) others
others_bad s last at (step ∷ steps) l k O (next, is_next, takes, later) others = inr (takes_may step s next takes, (next, is_next, takes, others_bad next last (at + 1) steps l k O later others))

-- ---- what is left

-- what holds over what is left where it isn't the whole, and else over the whole, in both words
pub left_grounds : (whole : Posed) (left : Option Posed) (Q : Ground → Type 0) → Q (ground_on (left_or whole left)) → Q (ground_left (problem_of whole) left)
left_grounds whole None Q h = h
left_grounds whole (Some left) Q h = h

pub grounds_left : (whole : Posed) (left : Option Posed) (Q : Ground → Type 0) → Q (ground_left (problem_of whole) left) → Q (ground_on (left_or whole left))
grounds_left whole None Q h = h
grounds_left whole (Some left) Q h = h

-- ---- what is due

-- lines that prove what is due prove the bound of the problem
pub due_proves : (K : Problem) (steps : List Step) (x : ℕ) (J : Problem) (B : Branch) (y : ℕ) (lines : List ProofLine) → IsDue K steps x J B y → ProvesOfIn (ground_of J) B y lines → ProvesAfterIn K steps x lines
due_proves (plain I) steps x J B y lines (s, applies, left, branch, least) proves =
    (s, applies, subst (λ (z : ℕ). ProvesOfIn (ground s.instance) (left_over s) z lines) least (subst (λ (C : Branch). ProvesOfIn (ground s.instance) C y lines) branch (subst (λ (L : Problem). ProvesOfIn (ground_of L) B y lines) left proves)))
due_proves (directed D) steps x J B y lines (none, left, branch, least) proves =
    (none, subst (λ (z : ℕ). ProvesOfIn (di_ground D) all_trees z lines) least (subst (λ (C : Branch). ProvesOfIn (di_ground D) C y lines) branch (subst (λ (L : Problem). ProvesOfIn (ground_of L) B y lines) left proves)))

-- and the first of them that is wrong is so of the problem
pub due_wrong : (K : Problem) (tree : Tree) (steps : List Step) (x : ℕ) (J : Problem) (B : Branch) (y : ℕ) (lines : List ProofLine) (l : ℕ) (k : Kind) → IsDue K steps x J B y → IsFirstWrongOver (ground_of J) y (B ∷ []) (proof_line tree steps) lines l k → IsFirstWrongAfter K x tree steps lines l k
due_wrong (plain I) tree steps x J B y lines l k (s, applies, left, branch, least) wrong =
    let first = proof_line tree steps in
    others_bad (whole I) s (steps_line tree) steps l k (λ u. IsFirstWrongIn u x first lines l k) applies (subst (λ (z : ℕ). IsFirstWrongOver (ground s.instance) z (left_over s ∷ []) first lines l k) least (subst (λ (C : Branch). IsFirstWrongOver (ground s.instance) y (C ∷ []) first lines l k) branch (subst (λ (L : Problem). IsFirstWrongOver (ground_of L) y (B ∷ []) first lines l k) left wrong)))
due_wrong (directed D) tree steps x J B y lines l k (none, left, branch, least) wrong =
    let first = proof_line tree steps in
    let here : IsFirstWrongOver (di_ground D) x (all_trees ∷ []) first lines l k = subst (λ (z : ℕ). IsFirstWrongOver (di_ground D) z (all_trees ∷ []) first lines l k) least (subst (λ (C : Branch). IsFirstWrongOver (di_ground D) y (C ∷ []) first lines l k) branch (subst (λ (L : Problem). IsFirstWrongOver (ground_of L) y (B ∷ []) first lines l k) left wrong)) in
    without_steps steps none here
  where
    without_steps : (ss : List Step) → ss ≡ [] → IsFirstWrongOver (di_ground D) x (all_trees ∷ []) (proof_line tree ss) lines l k → IsFirstWrongFrom D x tree ss lines l k
    without_steps [] same at = at
    without_steps (step ∷ ss) same at = absurd cc
