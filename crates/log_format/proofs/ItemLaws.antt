-- The lines of a log say its items, and no two items have one line.
use Rattle.std.proofs.Common.{◌≡◌, ℕ, List, [], ◌∷◌, ◌++◌, length, map, Option, Some, None, refl, sym, ap, ◌∙◌, arith}
use Rattle.std.specs.Prelude.{codes, if◌then◌else◌, ◌==◌}
use Rattle.std.specs.List.{flat_map, AllByRecursion}
use Rattle.std.specs.Str.{bytes_eq}
use Rattle.std.proofs.lemmas.List.{map-append}
use Rattle.std.proofs.lemmas.List.Elements.{recursion_from_All}
use Rattle.plain_text.specs.Steps.{◌>>=◌}
use Rattle.st_model.specs.declared.split_at.SplitAt.TheVariants.{Vertex, Link}
use Rattle.cut_packing.specs.declared.cut.Cut.{Cut}
use Rattle.lift_back.specs.declared.step.Step.{Step}
use Rattle.lift_back.specs.declared.step.Step.TheVariants.{Pendant, Through, Forced, Detour}
use Rattle.log_format.specs.declared.item.Item.{Item}
use Rattle.log_format.specs.declared.item.Item.TheVariants.{Header, ClaimTree, ClaimNone, Wall, TreeHead, Arc, StepsHead, OneStep, ProofHead, Split as OneSplit, CloseHead, OneCut, Last}
use Rattle.log_format.specs.declared.log.Log.{Log}
use Rattle.log_format.specs.declared.log.Version.{Version}
use Rattle.log_format.specs.declared.log.Version.TheVariants.{One, Two}
use Rattle.log_format.specs.declared.log.Claim.{Claim}
use Rattle.log_format.specs.declared.log.Claim.TheVariants.{Found, NoTree}
use Rattle.log_format.specs.declared.proof_line.ProofLine.{ProofLine}
use Rattle.log_format.specs.declared.proof_line.ProofLine.TheVariants.{Split, Close}
use Rattle.log_format.specs.Text.{words, root_number, arc_line, cut_line, step_line, lines_of, header, claim_lines, IsAnyVertex, IsWritableCut, IsWritableStep, IsWritableLine, IsClaimInRange, IsLog}
use Rattle.log_format.specs.Items.{item_line, IsItem, proof_items, claim_items, log_items, ItemsAreLines, OneItem, LineItems}
use Rattle.log_format.specs.Reading.{number_of, pair_of, link_of, cut_of, wall_of, step_of, most, root_of}
use Rattle.log_format.proofs.LineLaws.{number_of_judges, pair_judges, cut_judges, wall_judges}
use Rattle.log_format.proofs.StepLaws.{step_judges}
use Rattle.log_format.proofs.SplitLaws.{link_again, any_split}
use Rattle.log_format.proofs.Sets.{set_to, cut_to}
use Rattle.log_format.proofs.Runs.{root_again, root_in_range}

-- ---- lines

arcs_spelled : (arcs : List (ℕ × ℕ)) → map item_line (map (λ arc. Arc arc.0 arc.1) arcs) ≡ map arc_line arcs
arcs_spelled [] = refl
arcs_spelled (arc ∷ arcs) = ap (λ (r : List (List ℕ)). arc_line arc ∷ r) (arcs_spelled arcs)

steps_spelled : (steps : List Step) → map item_line (map (λ s. OneStep s) steps) ≡ map step_line steps
steps_spelled [] = refl
steps_spelled (s ∷ steps) = ap (λ (r : List (List ℕ)). step_line s ∷ r) (steps_spelled steps)

cuts_spelled : (cuts : List Cut) → map item_line (map (λ c. OneCut c) cuts) ≡ map cut_line cuts
cuts_spelled [] = refl
cuts_spelled (c ∷ cuts) = ap (λ (r : List (List ℕ)). cut_line c ∷ r) (cuts_spelled cuts)

line_spelled : (line : ProofLine) → map item_line (proof_items line) ≡ lines_of line
line_spelled (Split at) = refl
line_spelled (Close P) = ap (λ (r : List (List ℕ)). words (codes "C") (root_number P.root ∷ length P.cuts ∷ []) ∷ r) (cuts_spelled P.cuts)

proof_spelled : (lines : List ProofLine) → map item_line (flat_map proof_items lines) ≡ flat_map lines_of lines
proof_spelled [] = refl
proof_spelled (line ∷ lines) =
    map-append item_line (proof_items line) (flat_map proof_items lines)
    ∙ (ap (λ (r : List (List ℕ)). r ++ map item_line (flat_map proof_items lines)) (line_spelled line)
    ∙ ap (λ (r : List (List ℕ)). lines_of line ++ r) (proof_spelled lines))

claim_spelled : (claim : Claim) → map item_line (claim_items claim) ≡ claim_lines claim
claim_spelled (Found primal dual tree steps proof) =
    let arc_items : List Item = map (λ arc. Arc arc.0 arc.1) tree.arcs in
    let step_items : List Item = map (λ s. OneStep s) steps in
    let proof_part : List Item = ProofHead ∷ flat_map proof_items proof in
    let proof_lines : List (List ℕ) = codes "PROOF" ∷ flat_map lines_of proof in
    let head : List ℕ = words (codes "CLAIM TREE") (primal ∷ dual ∷ []) in
    let tree_head : List ℕ = words (codes "TREE") (tree.start ∷ length tree.arcs ∷ []) in
    let steps_head : List ℕ = words (codes "STEPS") (length steps ∷ []) in
    let proof_is : map item_line proof_part ≡ proof_lines = ap (λ (r : List (List ℕ)). codes "PROOF" ∷ r) (proof_spelled proof) in
    let steps_are : map item_line (step_items ++ proof_part) ≡ map step_line steps ++ proof_lines =
    map-append item_line step_items proof_part ∙ (ap (λ (r : List (List ℕ)). r ++ map item_line proof_part) (steps_spelled steps) ∙ ap (λ (r : List (List ℕ)). map step_line steps ++ r) proof_is) in
    let after : List Item = StepsHead (length steps) ∷ (step_items ++ proof_part) in
    let after_is : map item_line after ≡ steps_head ∷ (map step_line steps ++ proof_lines) = ap (λ (r : List (List ℕ)). steps_head ∷ r) steps_are in
    let arcs_are : map item_line (arc_items ++ after) ≡ map arc_line tree.arcs ++ (steps_head ∷ (map step_line steps ++ proof_lines)) =
    map-append item_line arc_items after ∙ (ap (λ (r : List (List ℕ)). r ++ map item_line after) (arcs_spelled tree.arcs) ∙ ap (λ (r : List (List ℕ)). map arc_line tree.arcs ++ r) after_is) in
    ap (λ (r : List (List ℕ)). head ∷ tree_head ∷ r) arcs_are
claim_spelled (NoTree wall) = refl

pub items_are_lines_lem : ItemsAreLines
items_are_lines_lem log =
    ap (λ (r : List (List ℕ)). header log.version ∷ r) (map-append item_line (claim_items log.claim) (Last ∷ [])
    ∙ ap (λ (r : List (List ℕ)). r ++ codes "END" ∷ []) (claim_spelled log.claim))

-- ---- no two items have one line

-- the one, or else the other
abbrev either : Option Item → Option Item → Option Item
either (Some item) other = Some item
either None other = other

-- this item, if the line is this one
abbrev item_if : List ℕ → List ℕ → Item → Option Item
item_if wanted line item = if bytes_eq line wanted then Some item else None

-- the item of a line that begins with this byte, wherever it stands
abbrev by_first : ℕ → List ℕ → Option Item
by_first b line =
    if b == 65 then (pair_of (codes "A") 1 1000000 1 1000000 line >>= λ arc. Some (Arc arc.0 arc.1)) else
    if b == 67 then either (item_if (codes "CLAIM NONE") line ClaimNone)
    (either (pair_of (codes "CLAIM TREE") 0 most 0 most line >>= λ p. Some (ClaimTree p.0 p.1)) (pair_of (codes "C") 0 1000000 0 most line >>= λ p. Some (CloseHead (root_of p.0) p.1))) else
    if b == 69 then item_if (codes "END") line Last else
    if b == 76 then (link_of line >>= λ at. Some (OneSplit at)) else
    if b == 83 then either (item_if (header One) line (Header One)) (either (item_if (header Two) line (Header Two))
    (either (number_of (codes "STEPS") 0 most line >>= λ n. Some (StepsHead n)) (number_of (codes "S") 1 1000000 line >>= λ v. Some (OneSplit (Vertex v))))) else
    if b == 84 then (pair_of (codes "TREE") 1 1000000 0 most line >>= λ p. Some (TreeHead p.0 p.1)) else
    if b == 85 then (cut_of line >>= λ c. Some (OneCut c)) else
    if b == 87 then (wall_of line >>= λ wall. Some (Wall wall)) else
    either (item_if (codes "PROOF") line ProofHead) (step_of line >>= λ s. Some (OneStep s))

abbrev any_item : List ℕ → Option Item
any_item [] = None
any_item (b ∷ rest) = by_first b (b ∷ rest)

-- the line of a split is no line of a count of steps, and that of a close no claim
no_steps : (rest : List ℕ) → number_of (codes "STEPS") 0 most (83 ∷ 32 ∷ rest) ≡ None
unfolding number_of
no_steps rest = refl

no_claim : (rest : List ℕ) → pair_of (codes "CLAIM TREE") 0 most 0 most (67 ∷ 32 ∷ rest) ≡ None
unfolding pair_of
no_claim rest = refl

-- a step is read
any_step : (s : Step) → IsWritableStep s → any_item (step_line s) ≡ Some (OneStep s)
any_step (Pendant v) fits = rw (step_judges.again (Pendant v) fits) refl
any_step (Through v) fits = rw (step_judges.again (Through v) fits) refl
any_step (Forced v) fits = rw (step_judges.again (Forced v) fits) refl
any_step (Detour a b inner) fits = rw (step_judges.again (Detour a b inner) fits) refl

-- the line of an item tells the item
any_again : (item : Item) → IsItem item → any_item (item_line item) ≡ Some item
any_again (Header One) fits = refl
any_again (Header Two) fits = refl
any_again (ClaimTree primal dual) fits = rw ((pair_judges (codes "CLAIM TREE") 0 most 0 most (omega arith) (omega arith)).again (primal, dual) ((omega arith, omega (arith, fits.0)), (omega arith, omega (arith, fits.1)))) refl
any_again ClaimNone fits = refl
any_again (Wall set) fits = rw (wall_judges.again set (set_to set fits)) refl
any_again (TreeHead start count) fits = rw ((pair_judges (codes "TREE") 1 1000000 0 most (omega arith) (omega arith)).again (start, count) (fits.0, (omega arith, omega (arith, fits.1)))) refl
any_again (Arc tail head) fits = rw ((pair_judges (codes "A") 1 1000000 1 1000000 (omega arith) (omega arith)).again (tail, head) fits) refl
any_again (StepsHead count) fits = rw ((number_of_judges (codes "STEPS") 0 most (omega arith)).again count (omega arith, omega (arith, fits))) refl
any_again (OneStep s) fits = any_step s fits
any_again ProofHead fits = refl
any_again (OneSplit (Vertex v)) fits = rw (no_steps, (number_of_judges (codes "S") 1 1000000 (omega arith)).again v fits) refl
any_again (OneSplit (Link a b)) fits = rw (link_again a b fits) refl
any_again (CloseHead root count) fits =
    rw (no_claim, (pair_judges (codes "C") 0 1000000 0 most (omega arith) (omega arith)).again (root_number root, count) ((omega arith, root_in_range root fits.0), (omega arith, omega (arith, fits.1))))
    (ap (λ (r : Option ℕ). Some (CloseHead r count)) (root_again root fits.0))
any_again (OneCut c) fits = rw (cut_judges.again c (cut_to c fits)) refl
any_again Last fits = refl

pub one_item_lem : OneItem
one_item_lem a b fits_a fits_b same =
    let told : Some a ≡ Some b = sym (any_again a fits_a) ∙ (ap any_item same ∙ any_again b fits_b) in
    cc

-- ---- the items of a log

all-append : (xs ys : List Item) → AllByRecursion IsItem xs → AllByRecursion IsItem ys → AllByRecursion IsItem (xs ++ ys)
all-append [] ys h k = k
all-append (x ∷ xs) ys h k = (h.0, all-append xs ys h.1 k)

arcs_fit : (arcs : List (ℕ × ℕ)) → AllByRecursion (λ arc. IsAnyVertex arc.0 × IsAnyVertex arc.1) arcs → AllByRecursion IsItem (map (λ arc. Arc arc.0 arc.1) arcs)
arcs_fit [] h = tt
arcs_fit (arc ∷ arcs) h = (h.0, arcs_fit arcs h.1)

steps_fit : (steps : List Step) → AllByRecursion IsWritableStep steps → AllByRecursion IsItem (map (λ s. OneStep s) steps)
steps_fit [] h = tt
steps_fit (s ∷ steps) h = (h.0, steps_fit steps h.1)

cuts_fit : (cuts : List Cut) → AllByRecursion IsWritableCut cuts → AllByRecursion IsItem (map (λ c. OneCut c) cuts)
cuts_fit [] h = tt
cuts_fit (c ∷ cuts) h = (h.0, cuts_fit cuts h.1)

proof_fits : (version : Version) (lines : List ProofLine) → AllByRecursion (IsWritableLine version) lines → AllByRecursion IsItem (flat_map proof_items lines)
proof_fits version [] h = tt
proof_fits version (Split at ∷ lines) h = (any_split version at h.0, proof_fits version lines h.1)
proof_fits version (Close P ∷ lines) h = ((h.0.root, h.0.few_cuts), all-append (map (λ c. OneCut c) P.cuts) (flat_map proof_items lines) (cuts_fit P.cuts (recursion_from_All IsWritableCut P.cuts h.0.cuts)) (proof_fits version lines h.1))

claim_fits : (version : Version) (claim : Claim) → IsClaimInRange version claim → AllByRecursion IsItem (claim_items claim)
claim_fits version (Found primal dual tree steps proof) fits =
    let tree_fits = fits.tree_fits in
    let lines_fit = proof_fits version proof (recursion_from_All (IsWritableLine version) proof fits.lines_fit) in
    let after = all-append (map (λ s. OneStep s) steps) (ProofHead ∷ flat_map proof_items proof) (steps_fit steps (recursion_from_All IsWritableStep steps fits.steps_fit)) (tt, lines_fit) in (
      (fits.primal_fits, fits.dual_fits),
      (
        (tree_fits.start, tree_fits.few_arcs),
        all-append (map (λ arc. Arc arc.0 arc.1) tree.arcs) (StepsHead (length steps) ∷ (map (λ s. OneStep s) steps ++ (ProofHead ∷ flat_map proof_items proof))) (arcs_fit tree.arcs (recursion_from_All _ tree.arcs tree_fits.arcs)) (fits.few_steps, after),
      ),
    )
claim_fits version (NoTree wall) fits = (tt, (fits, tt))

-- the items of a log can be written
pub log_items_fit : (log : Log) → IsLog log → AllByRecursion IsItem (log_items log)
log_items_fit log fits = (tt, all-append (claim_items log.claim) (Last ∷ []) (claim_fits log.version log.claim fits.in_range) (tt, tt))

-- items with the same lines are the same
same_items : (xs ys : List Item) → AllByRecursion IsItem xs → AllByRecursion IsItem ys → map item_line xs ≡ map item_line ys → xs ≡ ys
same_items [] [] h k same = refl
same_items [] (y ∷ ys) h k same = absurd cc
same_items (x ∷ xs) [] h k same = absurd cc
same_items (x ∷ xs) (y ∷ ys) h k same =
    let first : item_line x ≡ item_line y = cc in
    let others : map item_line xs ≡ map item_line ys = cc in
    let one = one_item_lem x y h.0 k.0 first in
    let rest = same_items xs ys h.1 k.1 others in
    λ j. one j ∷ rest j

pub line_items_lem : LineItems
line_items_lem log items fits items_fit lines =
    same_items items (log_items log) (recursion_from_All IsItem items items_fit) (log_items_fit log fits) (sym lines ∙ sym (items_are_lines_lem log))
