-- Each stage goes on to some log, and a line that is refused to none.
use Rattle.std.proofs.Common.{◌≡◌, ℕ, zero, suc, ◌≤◌, ◌⊎◌, inl, inr, Bool, true, false, List, [], ◌∷◌, ◌++◌, get_or, Option, Some, None, refl, sym, ap, subst, ◌∙◌, append_assoc, arith}
use Rattle.std.specs.Prelude.{codes}
use Rattle.std.proofs.lemmas.List.{append-nil}
use Rattle.std.proofs.lemmas.List.Elements.{All-from_recursion}
use Rattle.cut_packing.specs.declared.cut.Cut.{Cut}
use Rattle.cut_packing.specs.declared.packing.Packing.{Packing}
use Rattle.lift_back.specs.declared.step.Step.{Step}
use Rattle.lift_back.specs.declared.step.Step.TheVariants.{Pendant}
use Rattle.log_format.specs.declared.log.Log.{Log}
use Rattle.log_format.specs.declared.log.Version.{Version}
use Rattle.log_format.specs.declared.log.Version.TheVariants.{One, Two}
use Rattle.log_format.specs.declared.log.Claim.{Claim}
use Rattle.log_format.specs.declared.log.Claim.TheVariants.{Found, NoTree}
use Rattle.log_format.specs.declared.proof_line.ProofLine.{ProofLine}
use Rattle.log_format.specs.declared.proof_line.ProofLine.TheVariants.{Close}
use Rattle.log_format.specs.declared.stage.Answer.{Answer}
use Rattle.log_format.specs.declared.stage.Proving.{Proving}
use Rattle.log_format.specs.declared.stage.Stage.{Stage}
use Rattle.log_format.specs.declared.stage.Stage.TheVariants.{AtHeader, AtClaim, AtTree, AtArcs, AtSteps, AtHalf, AtCuts, AtWall, AtEnd, AtNothing}
use Rattle.log_format.specs.Text.{words, arc_line, cut_line, step_line, header, log_lines, IsLog, AreWhole, Begins, IsWritableCut, IsWritablePacking}
use Rattle.log_format.specs.Reading.{most, closed, cuts_left, no_step_yet, with_step, version_with, at_header, step, run}
use Rattle.log_format.specs.Reached.{lines_read, IsReached, IsRead}
use Rattle.plain_text.proofs.Steps.{step_some}
use Rattle.log_format.proofs.LineLaws.{pair_judges, wall_judges, IsAscending}
use Rattle.log_format.proofs.StageLaws.{step_takes}
use Rattle.log_format.proofs.Sets.{cut_from}
use Rattle.log_format.proofs.Runs.{run-cons, run-nil, header_again, arc_again, step_again, count_again, cut_again, head_again, log_again}

-- some lines lead from here to the end of a claim
abbrev Finishes : Version → Stage → Type 0
Finishes version s = (rest : List (List ℕ)) × (claim : Claim) × (run version s rest ≡ Some (AtNothing claim))

-- by one line more
by_line : (version : Version) (s t : Stage) (line : List ℕ) → step version s line ≡ Some t → Finishes version t → Finishes version s
by_line version s t line e f = (line ∷ f.0, f.1, run-cons version s t line f.0 e ∙ f.2)

end_finishes : (version : Version) (claim : Claim) → Finishes version (AtEnd claim)
unfolding step
end_finishes version claim = by_line version (AtEnd claim) (AtNothing claim) (codes "END") refl ([], claim, run-nil version (AtNothing claim))

-- a packing without cuts
abbrev empty : Packing
empty = record { root = None; cuts = [] }

empty_fits : IsWritablePacking empty
empty_fits = record { root = tt; few_cuts = omega arith; cuts = All-from_recursion IsWritableCut [] tt }

closed_finishes : (version : Version) (a : Answer) (lines : List ProofLine) (w : ℕ) → Finishes version (closed a lines w)
closed_finishes version a lines zero = end_finishes version (Found a.primal a.dual a.tree a.steps lines)
closed_finishes version a lines (suc w) =
    let p : Proving = record { answer = a; lines = lines; waiting = w } in
    by_line version (AtHalf p) (closed a (lines ++ Close empty ∷ []) w) (words (codes "C") (0 ∷ 0 ∷ [])) (head_again version p empty empty_fits) (closed_finishes version a (lines ++ Close empty ∷ []) w)

half_finishes : (version : Version) (p : Proving) → Finishes version (AtHalf p)
half_finishes version p = closed_finishes version p.answer p.lines (suc p.waiting)

-- the least cut
abbrev least_cut : Cut
least_cut = record { set = 1 ∷ []; q = 1; y = 0 }

-- one vertex is a set
single : IsAscending (1 ∷ [])
single = record { some = omega arith; few = omega arith; ascend = ((omega arith, omega arith), tt) }

least_fits : IsWritableCut least_cut
least_fits = cut_from least_cut (record { q = (omega arith, omega arith); y = (omega arith, omega arith); set = single })

cuts_finish : (version : Version) (p : Proving) (root : Option ℕ) (cuts : List Cut) (left : ℕ) → Finishes version (cuts_left p root cuts left)
cuts_finish version p root cuts zero = closed_finishes version p.answer (p.lines ++ Close (record { root = root; cuts = cuts }) ∷ []) p.waiting
cuts_finish version p root cuts (suc left) =
    by_line version (AtCuts p root cuts (suc left)) (cuts_left p root (cuts ++ least_cut ∷ []) left) (cut_line least_cut) (cut_again version p root cuts least_cut left least_fits) (cuts_finish version p root (cuts ++ least_cut ∷ []) left)

steps_finish : (version : Version) (a : Answer) (left : ℕ) → Finishes version (AtSteps a left)
unfolding step
steps_finish version a zero = let p : Proving = record { answer = a; lines = []; waiting = 0 } in by_line version (AtSteps a 0) (AtHalf p) (codes "PROOF") refl (half_finishes version p)
steps_finish version a (suc left) =
    let s : Step = Pendant 1 in
    by_line version (AtSteps a (suc left)) (AtSteps (with_step a s) left) (step_line s) (step_again version a s left (omega arith, omega arith)) (steps_finish version (with_step a s) left)

arcs_finish : (version : Version) (primal dual start : ℕ) (arcs : List (ℕ × ℕ)) (left : ℕ) → Finishes version (AtArcs primal dual start arcs left)
arcs_finish version primal dual start arcs zero =
    let a = no_step_yet primal dual start arcs in
    by_line version (AtArcs primal dual start arcs 0) (AtSteps a 0) (words (codes "STEPS") (0 ∷ [])) (count_again version primal dual start arcs 0 (omega arith)) (steps_finish version a 0)
arcs_finish version primal dual start arcs (suc left) =
    let arc : ℕ × ℕ = (1, 1) in
    by_line version (AtArcs primal dual start arcs (suc left)) (AtArcs primal dual start (arcs ++ arc ∷ []) left) (arc_line arc) (arc_again version primal dual start arcs arc left ((omega arith, omega arith), (omega arith, omega arith))) (arcs_finish version primal dual start (arcs ++ arc ∷ []) left)

tree_finishes : (version : Version) (primal dual : ℕ) → Finishes version (AtTree primal dual)
unfolding step
tree_finishes version primal dual =
    let e : step version (AtTree primal dual) (words (codes "TREE") (1 ∷ 0 ∷ [])) ≡ Some (AtArcs primal dual 1 [] 0) = rw ((pair_judges (codes "TREE") 1 1000000 0 most (omega arith) (omega arith)).again (1, 0) ((omega arith, omega arith), (omega arith, omega arith))) refl in
    by_line version (AtTree primal dual) (AtArcs primal dual 1 [] 0) (words (codes "TREE") (1 ∷ 0 ∷ [])) e (arcs_finish version primal dual 1 [] 0)

wall_finishes : (version : Version) → Finishes version AtWall
unfolding step
wall_finishes version =
    let e : step version AtWall (words (codes "WALL") (1 ∷ 1 ∷ [])) ≡ Some (AtEnd (NoTree (1 ∷ []))) = rw (wall_judges.again (1 ∷ []) single) refl in
    by_line version AtWall (AtEnd (NoTree (1 ∷ []))) (words (codes "WALL") (1 ∷ 1 ∷ [])) e (end_finishes version (NoTree (1 ∷ [])))

claim_finishes : (version : Version) → Finishes version AtClaim
unfolding step
claim_finishes version = by_line version AtClaim AtWall (codes "CLAIM NONE") refl (wall_finishes version)

-- each stage that is reached goes on to the end of a claim
finishes : (version : Version) (s : Stage) → IsReached version s → Finishes version s
unfolding step
finishes version AtHeader fits = by_line version AtHeader AtClaim (header version) (header_again version) (claim_finishes version)
finishes version AtClaim fits = claim_finishes version
finishes version (AtTree primal dual) fits = tree_finishes version primal dual
finishes version (AtArcs primal dual start arcs left) fits = arcs_finish version primal dual start arcs left
finishes version (AtSteps a left) fits = steps_finish version a left
finishes version (AtHalf p) fits = half_finishes version p
finishes version (AtCuts p root cuts zero) fits = absurd (let some : 1 ≤ 0 = fits.some_left in omega arith)
finishes version (AtCuts p root cuts (suc left)) fits = cuts_finish version p root cuts (suc left)
finishes version AtWall fits = wall_finishes version
finishes version (AtEnd claim) fits = end_finishes version claim
finishes version (AtNothing claim) fits = ([], claim, run-nil version (AtNothing claim))

-- some lines, and then others
pub run-append : (version : Version) (s : Stage) (lines more : List (List ℕ)) (t : Stage) → run version s lines ≡ Some t → run version s (lines ++ more) ≡ run version t more
unfolding run
run-append version s [] more t e = let same : s ≡ t = cc in ap (λ (u : Stage). run version u more) same
run-append version s (line ∷ lines) more t e =
    let a = step_some (step version s line) (λ u. run version u lines) t e in
    rw a.1 (run-append version a.0 lines more t a.2)

-- lines that lead on were read, and what they said fits
pub run_takes : (version : Version) (s : Stage) (lines : List (List ℕ)) (t : Stage) → IsReached version s → run version s lines ≡ Some t → IsReached version t × (lines_read version t ≡ lines_read version s ++ lines)
unfolding run
run_takes version s [] t fits e = let same : s ≡ t = cc in subst (λ (u : Stage). IsReached version u × (lines_read version u ≡ lines_read version s ++ [])) same (fits, sym (append-nil (lines_read version s)))
run_takes version s (line ∷ lines) t fits e =
    let a = step_some (step version s line) (λ u. run version u lines) t e in
    let first = step_takes version s line a.0 fits a.1 in
    let others = run_takes version a.0 lines t first.0 a.2 in
    (others.0, others.1 ∙ (ap (λ (r : List (List ℕ)). r ++ lines) first.1 ∙ append_assoc (lines_read version s) (line ∷ []) lines))

-- the claim at the end of some lines is that of a log
log_at : (version : Version) (claim : Claim) (lines : List (List ℕ)) → run version AtHeader lines ≡ Some (AtNothing claim) → IsLog (record { version = version; claim = claim }) × (log_lines (record { version = version; claim = claim }) ≡ lines)
log_at version claim lines e =
    let t = run_takes version AtHeader lines (AtNothing claim) tt e in
    (record { in_range = t.0.0; one_proof = t.0.1 }, t.1)

-- ---- the first line

-- the version of what was read and of a line more, which says it where it is the first
abbrev pub next_version : Version → Stage → List ℕ → Version
next_version version s line = version_with version (at_header s) line

-- it stands in front of all that was read, or nothing was read
begun : (version : Version) (s : Stage) → (s ≡ AtHeader) ⊎ ((rest : List (List ℕ)) × (lines_read version s ≡ header version ∷ rest) × (at_header s ≡ false))
begun version AtHeader = inl refl
begun version AtClaim = inr (_, refl, refl)
begun version (AtTree primal dual) = inr (_, refl, refl)
begun version (AtArcs primal dual start arcs left) = inr (_, refl, refl)
begun version (AtSteps a left) = inr (_, refl, refl)
begun version (AtHalf p) = inr (_, refl, refl)
begun version (AtCuts p root cuts left) = inr (_, refl, refl)
begun version AtWall = inr (_, refl, refl)
begun version (AtEnd claim) = inr (_, refl, refl)
begun version (AtNothing claim) = inr (_, refl, refl)

-- it says one version
one_version : (version version' : Version) → header version ≡ header version' → version ≡ version'
one_version One One e = refl
one_version One Two e = absurd (let last : 49 ≡ 50 = ap (λ (l : List ℕ). get_or l 11 0) e in omega arith)
one_version Two One e = absurd (let last : 50 ≡ 49 = ap (λ (l : List ℕ). get_or l 11 0) e in omega arith)
one_version Two Two e = refl

-- a log that begins so is of that version
same_version : (version : Version) (s : Stage) (log : Log) (rest : List (List ℕ)) → log_lines log ≡ lines_read version s ++ rest → (s ≡ AtHeader) ⊎ ((version ≡ log.version) × (at_header s ≡ false))
same_version version s log rest lines =
    elim (begun version s) [
      | inl none ↦ inl none
      | inr (more, read, later) ↦
          let in_front : log_lines log ≡ header version ∷ (more ++ rest) = lines ∙ ap (λ (ls : List (List ℕ)). ls ++ rest) read in
          let same : header version ≡ header log.version = cc in
          inr (one_version version log.version same, later)
    ]

-- one that goes on with a line is of the version that the lines and this one say
says_version : (version : Version) (s : Stage) (line : List ℕ) (log : Log) (rest : List (List ℕ)) → log_lines log ≡ lines_read version s ++ line ∷ rest → next_version version s line ≡ log.version
says_version version s line log rest lines =
    elim (same_version version s log (line ∷ rest) lines) [
      | inl none ↦
          let at_first : log_lines log ≡ line ∷ rest = lines ∙ ap (λ (u : Stage). lines_read version u ++ line ∷ rest) none in
          let is_header : line ≡ header log.version = cc in
          ap (λ (u : Stage). next_version version u line) none ∙ (ap (version_with version true) is_header ∙ first log.version)
      | inr (same, later) ↦ ap (λ (b : Bool). version_with version b line) later ∙ same
    ]
  where
    first : (v : Version) → version_with version true (header v) ≡ v
    first One = refl
    first Two = refl

-- ---- what a stage tells

-- nothing was read at the start
pub read_none : (version : Version) → IsRead version AtHeader
read_none version = record { reached = tt; led = run-nil version AtHeader }

-- what was read was of the version that a line more says
read_with : (version : Version) (s : Stage) (line : List ℕ) → IsRead version s → IsRead (next_version version s line) s × (lines_read (next_version version s line) s ≡ lines_read version s)
read_with version s line read =
    elim (begun version s) [
      | inl none ↦
          let all : (v : Version) → IsRead v s × (lines_read v s ≡ lines_read version s) = λ v. subst (λ (u : Stage). IsRead v u × (lines_read v u ≡ lines_read version u)) (sym none) (read_none v, refl) in
          all (next_version version s line)
      | inr (more, first, later) ↦ subst (λ (b : Bool). IsRead (version_with version b line) s × (lines_read (version_with version b line) s ≡ lines_read version s)) (sym later) (read, refl)
    ]

-- a line more is read where it is taken
pub read_more : (version : Version) (s t : Stage) (line : List ℕ) → IsRead version s → step version s line ≡ Some t → IsRead version t × (lines_read version t ≡ lines_read version s ++ line ∷ [])
read_more version s t line read e =
    let first = step_takes version s line t read.reached e in
    let led = run-append version AtHeader (lines_read version s) (line ∷ []) s read.led ∙ (run-cons version s t line [] e ∙ run-nil version t) in
    (record { reached = first.0; led = rw first.1 led }, first.1)

-- and where it is taken in the version that it says
pub read_next : (version next : Version) (s t : Stage) (line : List ℕ) → next ≡ next_version version s line → IsRead version s → step next s line ≡ Some t → IsRead next t × (lines_read next t ≡ lines_read version s ++ line ∷ [])
read_next version next s t line is read e =
    let with = subst (λ (v : Version). IsRead v s × (lines_read v s ≡ lines_read version s)) (sym is) (read_with version s line read) in
    let more = read_more next s t line with.0 e in
    (more.0, more.1 ∙ ap (λ (ls : List (List ℕ)). ls ++ line ∷ []) with.1)

-- some log begins with what was read
pub read_begins : (version : Version) (s : Stage) → IsRead version s → Begins (lines_read version s)
read_begins version s read =
    let f = finishes version s read.reached in
    let t = log_at version f.1 (lines_read version s ++ f.0) (run-append version AtHeader (lines_read version s) f.0 s read.led ∙ f.2) in
    (record { version = version; claim = f.1 }, f.0, t.0, t.1)

-- no log begins with what was read and a line that is refused
pub refused_stops : (version next : Version) (s : Stage) (line : List ℕ) → next ≡ next_version version s line → IsRead version s → step next s line ≡ None → Begins (lines_read version s ++ line ∷ []) → ⊥
unfolding run
refused_stops version next s line is read none (log, rest, fits, lines) =
    let goes_on : log_lines log ≡ lines_read version s ++ line ∷ rest = lines ∙ append_assoc (lines_read version s) (line ∷ []) rest in
    let of : next ≡ log.version = is ∙ says_version version s line log rest goes_on in
    let with = subst (λ (v : Version). IsRead v s × (lines_read v s ≡ lines_read version s)) (sym is) (read_with version s line read) in
    let led : run next AtHeader (lines_read version s) ≡ Some s = ap (run next AtHeader) (sym with.1) ∙ with.0.led in
    let again : run next AtHeader (log_lines log) ≡ Some (AtNothing log.claim) = ap (λ (v : Version). run v AtHeader (log_lines log)) of ∙ log_again log fits in
    let whole = sym again ∙ (ap (run next AtHeader) goes_on ∙ run-append next AtHeader (lines_read version s) (line ∷ rest) s led) in
    let nothing : run next s (line ∷ rest) ≡ None = rw none refl in
    absurd cc

-- at the end of a claim the lines are all of its log
pub read_whole : (version : Version) (claim : Claim) → IsRead version (AtNothing claim) → IsLog (record { version = version; claim = claim }) × (log_lines (record { version = version; claim = claim }) ≡ lines_read version (AtNothing claim))
read_whole version claim read = log_at version claim (lines_read version (AtNothing claim)) read.led

-- where the lines are all of a log, its claim was read to the end
pub whole_is_read : (version : Version) (s : Stage) (log : Log) → IsRead version s → IsLog log → log_lines log ≡ lines_read version s → s ≡ AtNothing log.claim
whole_is_read version s log read fits lines =
    elim (same_version version s log [] (lines ∙ sym (append-nil (lines_read version s)))) [
      | inl none ↦ let nothing : log_lines log ≡ [] = lines ∙ ap (lines_read version) none in absurd cc
      | inr (same, later) ↦
          let led : run log.version AtHeader (lines_read version s) ≡ Some s = ap (λ (v : Version). run v AtHeader (lines_read version s)) (sym same) ∙ read.led in
          let whole = sym (log_again log fits) ∙ (ap (run log.version AtHeader) lines ∙ led) in
          cc
    ]

-- at the end of a claim the lines are whole
pub is_whole : (version : Version) (s : Stage) (claim : Claim) → s ≡ AtNothing claim → IsRead version s → AreWhole (lines_read version s)
is_whole version s claim e read =
    let at_end = subst (λ (t : Stage). IsRead version t) e read in
    let t = read_whole version claim at_end in
    (record { version = version; claim = claim }, t.0, t.1 ∙ ap (lines_read version) (sym e))

-- lines are those of one log
pub same_lines : (a b : Log) → IsLog a → IsLog b → log_lines a ≡ log_lines b → a ≡ b
same_lines a b fits_a fits_b lines =
    let headers : header a.version ≡ header b.version = cc in
    let versions : a.version ≡ b.version = one_version a.version b.version headers in
    let led : run a.version AtHeader (log_lines b) ≡ Some (AtNothing b.claim) = ap (λ (v : Version). run v AtHeader (log_lines b)) versions ∙ log_again b fits_b in
    let ends = sym (log_again a fits_a) ∙ (ap (run a.version AtHeader) lines ∙ led) in
    let claims : a.claim ≡ b.claim = cc in
    λ j. let log : Log = record { version = versions j; claim = claims j } in log
