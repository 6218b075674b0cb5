-- The lines of some bytes: each up to its end, and what is left.
use Rattle.std.proofs.Common.{◌≡◌, ℕ, ◌<◌, ◌≤◌, ◌^◌, Bool, true, false, cond, not, eqb, List, [], ◌∷◌, ◌++◌, length, map, Option, Some, None, option_map, refl, sym, ap, ◌∙◌, append_assoc, arith}
use Rattle.std.specs.Prelude.{◌==◌, codes}
use Rattle.std.specs.List.{flat_map, AllByRecursion}
use Rattle.std.proofs.lemmas.Bool.{eqb-true, and_parts, not-true}
use Rattle.std.proofs.lemmas.List.Elements.{recursion_from_All}
use Rattle.log_format.specs.declared.log.Log.{Log}
use Rattle.log_format.specs.declared.log.Version.{Version}
use Rattle.log_format.specs.declared.log.Version.TheVariants.{One, Two}
use Rattle.log_format.specs.declared.log.Claim.{Claim}
use Rattle.log_format.specs.declared.log.Claim.TheVariants.{Found, NoTree}
use Rattle.log_format.specs.declared.proof_line.ProofLine.{ProofLine}
use Rattle.log_format.specs.declared.proof_line.ProofLine.TheVariants.{Split, Close}
use Rattle.st_model.specs.declared.split_at.SplitAt.{SplitAt}
use Rattle.st_model.specs.declared.split_at.SplitAt.TheVariants.{Vertex, Link}
use Rattle.cut_packing.specs.declared.cut.Cut.{Cut}
use Rattle.lift_back.specs.declared.step.Step.{Step}
use Rattle.lift_back.specs.declared.step.Step.TheVariants.{Pendant, Through, Forced, Detour}
use Rattle.plain_text.specs.Lines.{ended}
use Rattle.log_format.specs.Text.{spaced, words, root_number, arc_line, cut_line, step_line, split_line, lines_of, header, claim_lines, log_lines, log_text, with_byte, cut_lines, whole_lines, unfinished, IsAnyVertex, IsWritableCut, IsWritableStep, IsAnySplit, IsWritableLine, IsClaimInRange, IsInLogRange}
use Rattle.plain_text.specs.Pieces.{cut}
use Rattle.log_format.specs.Reading.{most}
use Rattle.plain_text.proofs.Lacking.{lacks, lacks-append, lacks-decimal}
use Rattle.log_format.proofs.Sets.{set_to}
use Rattle.log_format.proofs.SplitLaws.{any_split}
use Rattle.log_format.proofs.Runs.{root_in_range}
use Rattle.st_model.specs.Network.{IsVertex}

-- ---- lines

-- the first line goes in front of the others
abbrev first_line : List ℕ × List ℕ → List (List ℕ) × List ℕ
first_line x = (x.0 ∷ whole_lines x.1, unfinished x.1)

-- a first line, or none
abbrev lines_by : List ℕ → Option (List ℕ × List ℕ) → List (List ℕ) × List ℕ
lines_by bytes None = ([], bytes)
lines_by bytes (Some x) = first_line x

-- one more byte in front of a line that is cut, or of what is left
with_byte-lines_by : (b : ℕ) (bs : List ℕ) (o : Option (List ℕ × List ℕ)) → with_byte b (lines_by bs o) ≡ lines_by (b ∷ bs) (option_map (λ x. (b ∷ x.0, x.1)) o)
with_byte-lines_by b bs None = refl
with_byte-lines_by b bs (Some x) = refl

-- the end of a line, or one more byte in front of it
either : (b : ℕ) (bs : List ℕ) (test : Bool) → cut_lines bs ≡ lines_by bs (cut 10 bs)
    → cond {A = List (List ℕ) × List ℕ} test ([] ∷ whole_lines bs, unfinished bs) (with_byte b (cut_lines bs)) ≡ lines_by (b ∷ bs) (cond test (Some ([], bs)) (option_map (λ x. (b ∷ x.0, x.1)) (cut 10 bs)))
either b bs true e = refl
either b bs false e = ap (with_byte b) e ∙ with_byte-lines_by b bs (cut 10 bs)

-- the lines are the first one, and then the others
pub cut_lines-cut : (bytes : List ℕ) → cut_lines bytes ≡ lines_by bytes (cut 10 bytes)
cut_lines-cut [] = refl
cut_lines-cut (b ∷ bs) = either b bs (b == 10) (cut_lines-cut bs)

-- the bytes of some lines with their ends, and what is left
abbrev pub bytes_of : List (List ℕ) × List ℕ → List ℕ
bytes_of x = flat_map ended x.0 ++ x.1

bytes_of-with_byte : (b : ℕ) (x : List (List ℕ) × List ℕ) → bytes_of (with_byte b x) ≡ b ∷ bytes_of x
bytes_of-with_byte b ([], rest) = refl
bytes_of-with_byte b (line ∷ lines, rest) = refl

-- the end of a line, or one more byte
made : (b : ℕ) (bs : List ℕ) (test : Bool) → (b == 10) ≡ test → bs ≡ bytes_of (cut_lines bs) → b ∷ bs ≡ bytes_of (cond {A = List (List ℕ) × List ℕ} test ([] ∷ whole_lines bs, unfinished bs) (with_byte b (cut_lines bs)))
made b bs true is e = rw (eqb-true b 10 is) (ap (λ (r : List ℕ). 10 ∷ r) e)
made b bs false is e = ap (λ (r : List ℕ). b ∷ r) e ∙ sym (bytes_of-with_byte b (cut_lines bs))

-- the bytes are their lines with their ends, and what is left
pub lines_make : (bytes : List ℕ) → bytes ≡ bytes_of (cut_lines bytes)
lines_make [] = refl
lines_make (b ∷ bs) = made b bs (b == 10) refl (lines_make bs)

-- a line that ends is cut off
line_again : (line bytes : List ℕ) → lacks 10 line ≡ true → cut_lines (line ++ 10 ∷ bytes) ≡ (line ∷ whole_lines bytes, unfinished bytes)
line_again [] bytes h = refl
line_again (b ∷ line) bytes h =
    let p = and_parts (not (eqb b 10)) (lacks 10 line) h in
    rw (not-true (eqb b 10) p.0) (ap (with_byte b) (line_again line bytes p.1))

-- lines with their ends are these lines
pub lines_again : (lines : List (List ℕ)) → AllByRecursion (λ line. lacks 10 line ≡ true) lines → cut_lines (flat_map ended lines) ≡ (lines, [])
lines_again [] h = refl
lines_again (line ∷ lines) h =
    ap cut_lines (append_assoc line (10 ∷ []) (flat_map ended lines)) ∙ (line_again line (flat_map ended lines) h.0 ∙ ap (λ (x : List (List ℕ) × List ℕ). let r : List (List ℕ) × List ℕ = (line ∷ x.0, x.1) in r) (lines_again lines h.1))

-- ---- the lines of a log

-- numbers that can be written
abbrev AreWritable : List ℕ → Type 0
AreWritable ns = AllByRecursion (λ n. n < 2 ^ 64) ns

numbers_lack : (ns : List ℕ) → AreWritable ns → lacks 10 (flat_map spaced ns) ≡ true
numbers_lack [] fits = refl
numbers_lack (n ∷ ns) fits = lacks-append 10 (spaced n) (flat_map spaced ns) (lacks-decimal 10 n (omega arith)) (numbers_lack ns fits.1)

-- a keyword and numbers end no line
words_lack : (keyword ns : List ℕ) → lacks 10 keyword ≡ true → AreWritable ns → lacks 10 (words keyword ns) ≡ true
words_lack keyword ns h fits = lacks-append 10 keyword (flat_map spaced ns) h (numbers_lack ns fits)

-- some lines that are whole each
abbrev AreLines : List (List ℕ) → Type 0
AreLines lines = AllByRecursion (λ line. lacks 10 line ≡ true) lines

lines-append : (xs ys : List (List ℕ)) → AreLines xs → AreLines ys → AreLines (xs ++ ys)
lines-append [] ys h k = k
lines-append (x ∷ xs) ys h k = (h.0, lines-append xs ys h.1 k)

vertices_are : (set : List ℕ) → AllByRecursion (IsVertex 1000000) set → AreWritable set
vertices_are [] h = tt
vertices_are (v ∷ vs) h = (let high : v ≤ 1000000 = h.0.1 in omega arith, vertices_are vs h.1)

arcs_lack : (arcs : List (ℕ × ℕ)) → AllByRecursion (λ arc. IsAnyVertex arc.0 × IsAnyVertex arc.1) arcs → AreLines (map arc_line arcs)
arcs_lack [] fits = tt
arcs_lack (arc ∷ arcs) fits =
    let tail : arc.0 ≤ 1000000 = fits.0.0.1 in
    let head : arc.1 ≤ 1000000 = fits.0.1.1 in
    (words_lack (codes "A") (arc.0 ∷ arc.1 ∷ []) refl (omega arith, (omega arith, tt)), arcs_lack arcs fits.1)

cuts_lack : (cuts : List Cut) → AllByRecursion IsWritableCut cuts → AreLines (map cut_line cuts)
cuts_lack [] fits = tt
cuts_lack (c ∷ cuts) fits =
    let q : c.q ≤ 1000000 = fits.0.q.1 in
    let few : length c.set ≤ most = (set_to c.set fits.0.set).few in
    (words_lack (codes "U") (c.q ∷ c.y ∷ length c.set ∷ c.set) refl (omega arith, (fits.0.y, (omega arith, vertices_are c.set (recursion_from_All _ c.set fits.0.set.vertices.in_range)))), cuts_lack cuts fits.1)

-- a letter and a vertex end no line
vertex_lacks : (letter : List ℕ) (v : ℕ) → lacks 10 letter ≡ true → IsAnyVertex v → lacks 10 (words letter (v ∷ [])) ≡ true
vertex_lacks letter v h fits = let high : v ≤ 1000000 = fits.1 in words_lack letter (v ∷ []) h (omega arith, tt)

step_lacks : (s : Step) → IsWritableStep s → lacks 10 (step_line s) ≡ true
step_lacks (Pendant v) fits = vertex_lacks (codes "P") v refl fits
step_lacks (Through v) fits = vertex_lacks (codes "H") v refl fits
step_lacks (Forced v) fits = vertex_lacks (codes "F") v refl fits
step_lacks (Detour a b inner) fits =
    let a_high : a ≤ 1000000 = fits.0.1 in
    let b_high : b ≤ 1000000 = fits.1.1 in
    words_lack (codes "D") (a ∷ b ∷ length inner ∷ inner) refl (omega arith, (omega arith, (fits.2.few, vertices_are inner (recursion_from_All _ inner fits.2.vertices))))

steps_lack : (steps : List Step) → AllByRecursion IsWritableStep steps → AreLines (map step_line steps)
steps_lack [] fits = tt
steps_lack (s ∷ steps) fits = (step_lacks s fits.0, steps_lack steps fits.1)

split_lacks : (at : SplitAt) → IsAnySplit at → lacks 10 (split_line at) ≡ true
split_lacks (Vertex v) fits = vertex_lacks (codes "S") v refl fits
split_lacks (Link a b) fits =
    let a_high : a ≤ 1000000 = fits.low.1 in
    let b_high : b ≤ 1000000 = fits.high.1 in
    words_lack (codes "L") (a ∷ b ∷ []) refl (omega arith, (omega arith, tt))

proof_lacks : (version : Version) (lines : List ProofLine) → AllByRecursion (IsWritableLine version) lines → AreLines (flat_map lines_of lines)
proof_lacks version [] fits = tt
proof_lacks version (Split at ∷ lines) fits = (split_lacks at (any_split version at fits.0), proof_lacks version lines fits.1)
proof_lacks version (Close P ∷ lines) fits =
    let root = root_in_range P.root fits.0.root in
    lines-append (lines_of (Close P)) (flat_map lines_of lines) (words_lack (codes "C") (root_number P.root ∷ length P.cuts ∷ []) refl (omega (arith, root), (fits.0.few_cuts, tt)), cuts_lack P.cuts (recursion_from_All _ P.cuts fits.0.cuts)) (proof_lacks version lines fits.1)

claim_lacks : (version : Version) (claim : Claim) → IsClaimInRange version claim → AreLines (claim_lines claim)
claim_lacks version (Found primal dual tree steps proof) fits =
    let proof_lines : List (List ℕ) = codes "PROOF" ∷ flat_map lines_of proof in
    let steps_lines : List (List ℕ) = words (codes "STEPS") (length steps ∷ []) ∷ (map step_line steps ++ proof_lines) in
    let start : tree.start ≤ 1000000 = fits.tree_fits.start.1 in
    let claim_is = words_lack (codes "CLAIM TREE") (primal ∷ dual ∷ []) refl (fits.primal_fits, (fits.dual_fits, tt)) in
    let tree_is = words_lack (codes "TREE") (tree.start ∷ length tree.arcs ∷ []) refl (omega arith, (fits.tree_fits.few_arcs, tt)) in
    let arcs_are = arcs_lack tree.arcs (recursion_from_All _ tree.arcs fits.tree_fits.arcs) in
    let count_is = words_lack (codes "STEPS") (length steps ∷ []) refl (fits.few_steps, tt) in
    let steps_are = steps_lack steps (recursion_from_All _ steps fits.steps_fit) in
    let proof_is = proof_lacks version proof (recursion_from_All _ proof fits.lines_fit) in
    (claim_is, (tree_is, lines-append (map arc_line tree.arcs) steps_lines arcs_are (count_is, lines-append (map step_line steps) proof_lines steps_are (refl, proof_is))))
claim_lacks version (NoTree wall) fits =
    let few : length wall ≤ most = (set_to wall fits).few in
    (refl, (words_lack (codes "WALL") (length wall ∷ wall) refl (omega arith, vertices_are wall (recursion_from_All _ wall fits.vertices.in_range)), tt))

header_lacks : (version : Version) → lacks 10 (header version) ≡ true
header_lacks One = refl
header_lacks Two = refl

-- the lines of the text of a log are the lines of the log, and nothing is left
pub text_lines : (log : Log) → IsInLogRange log → cut_lines (log_text log) ≡ (log_lines log, [])
text_lines log fits = lines_again (log_lines log) (header_lacks log.version, lines-append (claim_lines log.claim) (codes "END" ∷ []) (claim_lacks log.version log.claim fits) (refl, tt))

-- where a first line is cut off, it comes before the other lines
pub cut_some : (bytes line rest : List ℕ) → cut 10 bytes ≡ Some (line, rest) → (whole_lines bytes ≡ line ∷ whole_lines rest) × (unfinished bytes ≡ unfinished rest)
cut_some bytes line rest e =
    let x : List ℕ × List ℕ = (line, rest) in
    let lines : cut_lines bytes ≡ first_line x = cut_lines-cut bytes ∙ ap (lines_by bytes) e in
    (ap (λ (p : List (List ℕ) × List ℕ). p.0) lines, ap (λ (p : List (List ℕ) × List ℕ). p.1) lines)

-- where none is, there are no lines, and all is left
pub cut_none : (bytes : List ℕ) → cut 10 bytes ≡ None → (whole_lines bytes ≡ []) × (unfinished bytes ≡ bytes)
cut_none bytes e =
    let lines : cut_lines bytes ≡ ([], bytes) = cut_lines-cut bytes ∙ ap (lines_by bytes) e in
    (ap (λ (p : List (List ℕ) × List ℕ). p.0) lines, ap (λ (p : List (List ℕ) × List ℕ). p.1) lines)
