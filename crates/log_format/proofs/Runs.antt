-- The lines of a log are read, from the first to the last.
use Rattle.std.proofs.Common.{◌≡◌, ℕ, zero, suc, ◌+◌, ◌-◌, ◌^◌, ◌<◌, ◌≤◌, true, false, List, [], ◌∷◌, ◌++◌, length, map, Option, Some, None, refl, sym, ap, subst, ◌∙◌, append_assoc, arith}
use Rattle.std.specs.Prelude.{codes, IfSome, ◌==◌}
use Rattle.std.specs.List.{flat_map, AllByRecursion}
use Rattle.std.proofs.lemmas.Bool.Decides.{nat_tests}
use Rattle.std.proofs.lemmas.List.{append-nil}
use Rattle.std.proofs.lemmas.List.Elements.{recursion_from_All}
use Rattle.st_model.specs.declared.split_at.SplitAt.{SplitAt}
use Rattle.cut_packing.specs.declared.cut.Cut.{Cut}
use Rattle.cut_packing.specs.declared.packing.Packing.{Packing}
use Rattle.lift_back.specs.declared.step.Step.{Step}
use Rattle.log_format.specs.declared.log.Log.{Log}
use Rattle.log_format.specs.declared.log.Version.{Version}
use Rattle.log_format.specs.declared.log.Claim.{Claim}
use Rattle.log_format.specs.declared.log.Claim.TheVariants.{Found, NoTree}
use Rattle.log_format.specs.declared.proof_line.ProofLine.{ProofLine}
use Rattle.log_format.specs.declared.proof_line.ProofLine.TheVariants.{Split, Close}
use Rattle.log_format.specs.declared.stage.Answer.{Answer}
use Rattle.log_format.specs.declared.stage.Proving.{Proving}
use Rattle.log_format.specs.declared.stage.Stage.{Stage}
use Rattle.log_format.specs.declared.stage.Stage.TheVariants.{AtHeader, AtClaim, AtTree, AtArcs, AtSteps, AtHalf, AtCuts, AtWall, AtEnd, AtNothing}
use Rattle.log_format.specs.Preorder.{are_proofs}
use Rattle.log_format.specs.Text.{words, root_number, arc_line, cut_line, step_line, split_line, lines_of, header, claim_lines, log_lines, IsLog, IsClaimInRange, IsProved, IsAnyVertex, IsWritableCut, IsWritableStep, IsWritableSplit, IsWritableLine, IsWritablePacking}
use Rattle.log_format.specs.Reading.{most, stage_if, root_of, closed, cuts_left, split_at, no_step_yet, with_step, step, run}
use Rattle.log_format.proofs.LineLaws.{same_bytes, number_of_judges, pair_judges, cut_judges, wall_judges}
use Rattle.log_format.proofs.StepLaws.{step_judges}
use Rattle.log_format.proofs.SplitLaws.{split_judges, no_split}
use Rattle.log_format.proofs.Sets.{set_to, cut_to}
use Rattle.log_format.proofs.Preorders.{one_passes}

-- one line, and then the others
pub run-cons : (version : Version) (s t : Stage) (line : List ℕ) (lines : List (List ℕ)) → step version s line ≡ Some t → run version s (line ∷ lines) ≡ run version t lines
unfolding run
run-cons version s t line lines e = rw e refl

pub run-nil : (version : Version) (s : Stage) → run version s [] ≡ Some s
unfolding run
run-nil version s = refl

-- ---- arcs

-- the line that is wanted is taken
pub if_again : (wanted : List ℕ) (s : Stage) → stage_if wanted wanted s ≡ Some s
if_again wanted s = rw (same_bytes wanted) refl

-- an arc is taken where one is left
pub arc_again : (version : Version) (primal dual start : ℕ) (front : List (ℕ × ℕ)) (arc : ℕ × ℕ) (left : ℕ) → IsAnyVertex arc.0 × IsAnyVertex arc.1 → step version (AtArcs primal dual start front (suc left)) (arc_line arc) ≡ Some (AtArcs primal dual start (front ++ arc ∷ []) left)
unfolding step
arc_again version primal dual start front arc left fits =
    let less : suc left - 1 ≡ left = omega arith in
    let some : (suc left == 0) ≡ false = grind (arith, nat_tests) in
    rw (some, (pair_judges (codes "A") 1 1000000 1 1000000 (omega arith) (omega arith)).again arc fits) (ap (λ (k : ℕ). Some (AtArcs primal dual start (front ++ arc ∷ []) k)) less)

-- so many arcs are taken
arcs_again : (version : Version) (primal dual start : ℕ) (front arcs : List (ℕ × ℕ)) (rest : List (List ℕ)) → AllByRecursion (λ arc. IsAnyVertex arc.0 × IsAnyVertex arc.1) arcs
    → run version (AtArcs primal dual start front (length arcs)) (map arc_line arcs ++ rest) ≡ run version (AtArcs primal dual start (front ++ arcs) 0) rest
arcs_again version primal dual start front [] rest fits = ap (λ (r : List (ℕ × ℕ)). run version (AtArcs primal dual start r 0) rest) (sym (append-nil front))
arcs_again version primal dual start front (arc ∷ arcs) rest fits =
    run-cons version _ _ (arc_line arc) (map arc_line arcs ++ rest) (arc_again version primal dual start front arc (length arcs) fits.0)
    ∙ (arcs_again version primal dual start (front ++ arc ∷ []) arcs rest fits.1 ∙ ap (λ (r : List (ℕ × ℕ)). run version (AtArcs primal dual start r 0) rest) (append_assoc front (arc ∷ []) arcs))

-- ---- steps

-- a step is taken where one is left
pub step_again : (version : Version) (a : Answer) (s : Step) (left : ℕ) → IsWritableStep s → step version (AtSteps a (suc left)) (step_line s) ≡ Some (AtSteps (with_step a s) left)
unfolding step
step_again version a s left fits =
    let less : suc left - 1 ≡ left = omega arith in
    let some : (suc left == 0) ≡ false = grind (arith, nat_tests) in
    rw (some, step_judges.again s fits) (ap (λ (k : ℕ). Some (AtSteps (with_step a s) k)) less)

-- how many steps come is taken where no arc is left
pub count_again : (version : Version) (primal dual start : ℕ) (arcs : List (ℕ × ℕ)) (count : ℕ) → count < 2 ^ 64
    → step version (AtArcs primal dual start arcs 0) (words (codes "STEPS") (count ∷ [])) ≡ Some (AtSteps (no_step_yet primal dual start arcs) count)
unfolding step
count_again version primal dual start arcs count few = rw ((number_of_judges (codes "STEPS") 0 most (omega arith)).again count (omega arith, omega (arith, few))) refl

-- what was said, with these steps
abbrev with_steps : Answer → List Step → Answer
with_steps a steps = record a { steps = steps }

-- so many steps are taken
steps_again : (version : Version) (a : Answer) (front steps : List Step) (rest : List (List ℕ)) → AllByRecursion IsWritableStep steps
    → run version (AtSteps (with_steps a front) (length steps)) (map step_line steps ++ rest) ≡ run version (AtSteps (with_steps a (front ++ steps)) 0) rest
steps_again version a front [] rest fits = ap (λ (r : List Step). run version (AtSteps (with_steps a r) 0) rest) (sym (append-nil front))
steps_again version a front (s ∷ steps) rest fits =
    run-cons version _ _ (step_line s) (map step_line steps ++ rest) (step_again version (with_steps a front) s (length steps) fits.0)
    ∙ (steps_again version a (front ++ s ∷ []) steps rest fits.1 ∙ ap (λ (r : List Step). run version (AtSteps (with_steps a r) 0) rest) (append_assoc front (s ∷ []) steps))

-- ---- closes

-- a cut is taken where one is left
pub cut_again : (version : Version) (p : Proving) (root : Option ℕ) (front : List Cut) (c : Cut) (left : ℕ) → IsWritableCut c → step version (AtCuts p root front (suc left)) (cut_line c) ≡ Some (cuts_left p root (front ++ c ∷ []) left)
unfolding step
cut_again version p root front c left fits =
    let less : suc left - 1 ≡ left = omega arith in
    rw (cut_judges.again c (cut_to c fits)) (ap (λ (k : ℕ). Some (cuts_left p root (front ++ c ∷ []) k)) less)

-- so many cuts are taken, and close the half
cuts_again : (version : Version) (p : Proving) (root : Option ℕ) (front cuts : List Cut) (rest : List (List ℕ)) → AllByRecursion IsWritableCut cuts
    → run version (cuts_left p root front (length cuts)) (map cut_line cuts ++ rest) ≡ run version (closed p.answer (p.lines ++ Close (record { root = root; cuts = front ++ cuts }) ∷ []) p.waiting) rest
cuts_again version p root front [] rest fits = ap (λ (r : List Cut). run version (closed p.answer (p.lines ++ Close (record { root = root; cuts = r }) ∷ []) p.waiting) rest) (sym (append-nil front))
cuts_again version p root front (c ∷ cuts) rest fits =
    run-cons version _ _ (cut_line c) (map cut_line cuts ++ rest) (cut_again version p root front c (length cuts) fits.0)
    ∙ (cuts_again version p root (front ++ c ∷ []) cuts rest fits.1 ∙ ap (λ (r : List Cut). run version (closed p.answer (p.lines ++ Close (record { root = root; cuts = r }) ∷ []) p.waiting) rest) (append_assoc front (c ∷ []) cuts))

-- a root is read again from its number
pub root_again : (root : Option ℕ) → IfSome root IsAnyVertex → root_of (root_number root) ≡ root
root_again None h = refl
root_again (Some zero) h = absurd (let low : 1 ≤ 0 = h.0 in omega arith)
root_again (Some (suc n)) h = refl

pub root_in_range : (root : Option ℕ) → IfSome root IsAnyVertex → root_number root ≤ 1000000
root_in_range None h = omega arith
root_in_range (Some n) h = h.1

-- the head of a close is taken where a half begins
pub head_again : (version : Version) (p : Proving) (P : Packing) → IsWritablePacking P → step version (AtHalf p) (words (codes "C") (root_number P.root ∷ length P.cuts ∷ [])) ≡ Some (cuts_left p P.root [] (length P.cuts))
unfolding step
head_again version p P fits =
    let few : length P.cuts < 2 ^ 64 = fits.few_cuts in
    rw (no_split, (pair_judges (codes "C") 0 1000000 0 most (omega arith) (omega arith)).again (root_number P.root, length P.cuts) ((omega arith, root_in_range P.root fits.root), (omega arith, omega arith)))
    (ap (λ (r : Option ℕ). Some (cuts_left p r [] (length P.cuts))) (root_again P.root fits.root))

-- a close is taken where a half begins
close_again : (version : Version) (p : Proving) (P : Packing) (rest : List (List ℕ)) → IsWritablePacking P → run version (AtHalf p) (lines_of (Close P) ++ rest) ≡ run version (closed p.answer (p.lines ++ Close P ∷ []) p.waiting) rest
close_again version p P rest fits =
    run-cons version _ _ (words (codes "C") (root_number P.root ∷ length P.cuts ∷ [])) (map cut_line P.cuts ++ rest) (head_again version p P fits)
    ∙ cuts_again version p P.root [] P.cuts rest (recursion_from_All IsWritableCut P.cuts fits.cuts)

-- a split is taken where a half begins
split_again : (version : Version) (p : Proving) (at : SplitAt) → IsWritableSplit version at → step version (AtHalf p) (split_line at) ≡ Some (split_at p at)
unfolding step
split_again version p at fits = rw ((split_judges version).again at fits) refl

-- ---- proofs

abbrev half : Answer → List ProofLine → ℕ → Stage
half a lines w = AtHalf (record { answer = a; lines = lines; waiting = w })

-- the rest of a proof is taken
proof_again : (version : Version) (a : Answer) (front lines : List ProofLine) (w : ℕ) (rest : List (List ℕ)) → are_proofs (suc w) lines ≡ true → AllByRecursion (IsWritableLine version) lines
    → run version (half a front w) (flat_map lines_of lines ++ rest) ≡ run version (AtEnd (Found a.primal a.dual a.tree a.steps (front ++ lines))) rest
proof_again version a front [] w rest passes fits = absurd cc
proof_again version a front (Split at ∷ lines) w rest passes fits =
    let more : suc w ≡ w + 1 = omega arith in
    let passes' : are_proofs (suc (w + 1)) lines ≡ true = subst (λ (k : ℕ). are_proofs (suc k) lines ≡ true) more passes in
    run-cons version _ _ (split_line at) (flat_map lines_of lines ++ rest) (split_again version (record { answer = a; lines = front; waiting = w }) at fits.0)
    ∙ (proof_again version a (front ++ Split at ∷ []) lines (w + 1) rest passes' fits.1
    ∙ ap (λ (r : List ProofLine). run version (AtEnd (Found a.primal a.dual a.tree a.steps r)) rest) (append_assoc front (Split at ∷ []) lines))
proof_again version a front (Close P ∷ []) zero rest passes fits =
    ap (λ (r : List (List ℕ)). run version (half a front 0) (r ++ rest)) (append-nil (lines_of (Close P))) ∙ close_again version (record { answer = a; lines = front; waiting = 0 }) P rest fits.0
proof_again version a front (Close P ∷ line ∷ lines) zero rest passes fits = absurd cc
proof_again version a front (Close P ∷ lines) (suc w) rest passes fits =
    ap (run version (half a front (suc w))) (append_assoc (lines_of (Close P)) (flat_map lines_of lines) rest)
    ∙ (close_again version (record { answer = a; lines = front; waiting = suc w }) P (flat_map lines_of lines ++ rest) fits.0
    ∙ (proof_again version a (front ++ Close P ∷ []) lines w rest passes fits.1
    ∙ ap (λ (r : List ProofLine). run version (AtEnd (Found a.primal a.dual a.tree a.steps r)) rest) (append_assoc front (Close P ∷ []) lines)))

-- ---- logs

-- the lines of a claim, and what follows them
claim_again : (version : Version) (claim : Claim) (rest : List (List ℕ)) → IsClaimInRange version claim → IsProved claim → run version AtClaim (claim_lines claim ++ rest) ≡ run version (AtEnd claim) rest
unfolding step
claim_again version (Found primal dual tree steps proof) rest fits one =
    let a : Answer = record { primal = primal; dual = dual; tree = tree; steps = steps } in
    let proof_lines : List (List ℕ) = codes "PROOF" ∷ flat_map lines_of proof in
    let after : List (List ℕ) = words (codes "STEPS") (length steps ∷ []) ∷ (map step_line steps ++ proof_lines) in
    let claim_is : step version AtClaim (words (codes "CLAIM TREE") (primal ∷ dual ∷ [])) ≡ Some (AtTree primal dual) = rw ((pair_judges (codes "CLAIM TREE") 0 most 0 most (omega arith) (omega arith)).again (primal, dual) ((omega arith, omega (arith, fits.primal_fits)), (omega arith, omega (arith, fits.dual_fits)))) refl in
    let tree_is : step version (AtTree primal dual) (words (codes "TREE") (tree.start ∷ length tree.arcs ∷ [])) ≡ Some (AtArcs primal dual tree.start [] (length tree.arcs)) = rw ((pair_judges (codes "TREE") 1 1000000 0 most (omega arith) (omega arith)).again (tree.start, length tree.arcs) (fits.tree_fits.start, (omega arith, omega (arith, fits.tree_fits.few_arcs)))) refl in
    run-cons version AtClaim (AtTree primal dual) _ _ claim_is
    ∙ (run-cons version (AtTree primal dual) (AtArcs primal dual tree.start [] (length tree.arcs)) _ _ tree_is
    ∙ (ap (run version (AtArcs primal dual tree.start [] (length tree.arcs))) (append_assoc (map arc_line tree.arcs) after rest)
    ∙ (arcs_again version primal dual tree.start [] tree.arcs (after ++ rest) (recursion_from_All _ tree.arcs fits.tree_fits.arcs)
    ∙ (run-cons version (AtArcs primal dual tree.start tree.arcs 0) (AtSteps (with_steps a []) (length steps)) _ _ (count_again version primal dual tree.start tree.arcs (length steps) fits.few_steps)
    ∙ (ap (run version (AtSteps (with_steps a []) (length steps))) (append_assoc (map step_line steps) proof_lines rest)
    ∙ (steps_again version a [] steps (proof_lines ++ rest) (recursion_from_All _ steps fits.steps_fit)
    ∙ (run-cons version (AtSteps a 0) (half a [] 0) (codes "PROOF") (flat_map lines_of proof ++ rest) refl
    ∙ proof_again version a [] proof 0 rest (one_passes proof one) (recursion_from_All (IsWritableLine version) proof fits.lines_fit))))))))
claim_again version (NoTree wall) rest fits one =
    let wall_is : step version AtWall (words (codes "WALL") (length wall ∷ wall)) ≡ Some (AtEnd (NoTree wall)) = rw (wall_judges.again wall (set_to wall fits)) refl in
    run-cons version AtClaim AtWall (codes "CLAIM NONE") _ refl ∙ run-cons version AtWall (AtEnd (NoTree wall)) _ rest wall_is

-- the first line is taken
pub header_again : (version : Version) → step version AtHeader (header version) ≡ Some AtClaim
unfolding step
header_again version = if_again (header version) AtClaim

-- the lines of a log lead to its claim
pub log_again : (log : Log) → IsLog log → run log.version AtHeader (log_lines log) ≡ Some (AtNothing log.claim)
unfolding step
log_again log fits =
    run-cons log.version AtHeader AtClaim (header log.version) (claim_lines log.claim ++ codes "END" ∷ []) (header_again log.version)
    ∙ (claim_again log.version log.claim (codes "END" ∷ []) fits.in_range fits.one_proof
    ∙ (run-cons log.version (AtEnd log.claim) (AtNothing log.claim) (codes "END") [] refl ∙ run-nil log.version (AtNothing log.claim)))
