-- What was written piece by piece is the text of a claim.
use Rattle.std.proofs.Common.{◌≡◌, ℕ, List, [], ◌∷◌, ◌++◌, length, map, Result, sym, ap, ◌∙◌, append_assoc}
use Rattle.std.specs.Prelude.{codes, OnOk}
use Rattle.std.specs.declared.alloc.AllocError.{AllocError}
use Rattle.std.specs.List.{flat_map}
use Rattle.std.proofs.lemmas.Grind.{flat_map-append}
use Rattle.std.proofs.lemmas.List.{append-nil}
use Rattle.std.proofs.lemmas.Result.{on_ok_weaker}
use Rattle.st_model.specs.declared.tree.Tree.{Tree}
use Rattle.lift_back.specs.declared.step.Step.{Step}
use Rattle.log_format.specs.declared.log.Claim.{Claim}
use Rattle.log_format.specs.declared.log.Claim.TheVariants.{Found, NoTree}
use Rattle.log_format.specs.declared.proof_line.ProofLine.{ProofLine}
use Rattle.plain_text.specs.Lines.{ended}
use Rattle.log_format.specs.Text.{spaced, words, arc_line, step_line, lines_of, claim_lines}

-- four pieces, one after the other
four : (old a t1 t2 t3 new b c d whole : List ℕ) → t1 ≡ old ++ a → t2 ≡ t1 ++ b → t3 ≡ t2 ++ c → new ≡ t3 ++ d → a ++ (b ++ (c ++ d)) ≡ whole → new ≡ old ++ whole
four old a t1 t2 t3 new b c d whole h1 h2 h3 h4 e =
    h4 ∙ (ap (λ (r : List ℕ). r ++ d) (h3 ∙ ap (λ (r : List ℕ). r ++ c) (h2 ∙ ap (λ (r : List ℕ). r ++ b) h1))
    ∙ (append_assoc ((old ++ a) ++ b) c d ∙ (append_assoc (old ++ a) b (c ++ d) ∙ (append_assoc old a (b ++ (c ++ d)) ∙ ap (λ (r : List ℕ). old ++ r) e))))

-- the lines of a tree, of some steps, and of a proof
abbrev tree_part : Tree → List (List ℕ)
tree_part tree = words (codes "TREE") (tree.start ∷ length tree.arcs ∷ []) ∷ map arc_line tree.arcs

abbrev steps_part : List Step → List (List ℕ)
steps_part steps = words (codes "STEPS") (length steps ∷ []) ∷ map step_line steps

abbrev proof_part : List ProofLine → List (List ℕ)
proof_part proof = codes "PROOF" ∷ flat_map lines_of proof

-- the pieces of a claim of a tree
found_parts : (primal dual : ℕ) (tree : Tree) (steps : List Step) (proof : List ProofLine)
    → ended (words (codes "CLAIM TREE") (primal ∷ dual ∷ [])) ++ (flat_map ended (tree_part tree) ++ (flat_map ended (steps_part steps) ++ flat_map ended (proof_part proof)))
    ≡ flat_map ended (claim_lines (Found primal dual tree steps proof))
found_parts primal dual tree steps proof =
    let head : List ℕ = ended (words (codes "CLAIM TREE") (primal ∷ dual ∷ [])) in
    ap (λ (r : List ℕ). head ++ (flat_map ended (tree_part tree) ++ r)) (sym (flat_map-append ended (steps_part steps) (proof_part proof)))
    ∙ ap (λ (r : List ℕ). head ++ r) (sym (flat_map-append ended (tree_part tree) (steps_part steps ++ proof_part proof)))

-- two parts of a proof, one after the other
pub parts_written : (lines front back : List ProofLine) → lines ≡ front ++ back
    → flat_map ended (flat_map lines_of front) ++ flat_map ended (flat_map lines_of back) ≡ flat_map ended (flat_map lines_of lines)
parts_written lines front back are = sym (ap (λ (l : List ProofLine). flat_map ended (flat_map lines_of l)) are
    ∙ (ap (λ (l : List (List ℕ)). flat_map ended l) (flat_map-append lines_of front back) ∙ flat_map-append ended (flat_map lines_of front) (flat_map lines_of back)))

-- a claim of a tree was written
pub found_written : (r : Result (Unit {0}) AllocError) (claim : Claim) (primal dual : ℕ) (tree : Tree) (steps listed : List Step) (proof lines : List ProofLine) (old t1 t2 t3 new : List ℕ)
    → claim ≡ Found primal dual tree steps proof → listed ≡ steps → lines ≡ proof
    → t1 ≡ old ++ ended (words (codes "CLAIM TREE") (primal ∷ dual ∷ [])) → t2 ≡ t1 ++ flat_map ended (tree_part tree) → t3 ≡ t2 ++ flat_map ended (steps_part listed)
    → OnOk r (new ≡ t3 ++ flat_map ended (proof_part lines)) → OnOk r (new ≡ old ++ flat_map ended (claim_lines claim))
found_written r claim primal dual tree steps listed proof lines old t1 t2 t3 new is same_steps same h1 h2 h3 h4 =
    let steps_are : t3 ≡ t2 ++ flat_map ended (steps_part steps) = h3 ∙ ap (λ (l : List Step). t2 ++ flat_map ended (steps_part l)) same_steps in
    let proof_is = ap (λ (l : List ProofLine). t3 ++ flat_map ended (proof_part l)) same in
    let claim_is = ap (λ (c : Claim). old ++ flat_map ended (claim_lines c)) (sym is) in
    on_ok_weaker r (λ e. four old _ t1 t2 t3 new _ _ _ _ h1 h2 steps_are (e ∙ proof_is) (found_parts primal dual tree steps proof) ∙ claim_is) h4

-- a claim of no tree was written
pub wall_written : (r : Result (Unit {0}) AllocError) (claim : Claim) (wall set old t1 new : List ℕ) → claim ≡ NoTree wall → set ≡ wall → t1 ≡ old ++ codes "CLAIM NONE\nWALL" → OnOk r (new ≡ t1 ++ ended (flat_map spaced (length set ∷ set))) → OnOk r (new ≡ old ++ flat_map ended (claim_lines claim))
wall_written r claim wall set old t1 new is same h1 h2 =
    let numbers : List ℕ = flat_map spaced (length wall ∷ wall) in
    on_ok_weaker r (λ e. e ∙ (ap (λ (s : List ℕ). t1 ++ ended (flat_map spaced (length s ∷ s))) same ∙ (ap (λ (t : List ℕ). t ++ ended numbers) h1 ∙ (append_assoc old (codes "CLAIM NONE\nWALL") (ended numbers)
    ∙ (ap (λ (n : List ℕ). old ++ (codes "CLAIM NONE\nWALL" ++ n)) (sym (append-nil (ended numbers))) ∙ ap (λ (c : Claim). old ++ flat_map ended (claim_lines c)) (sym is)))))) h2
