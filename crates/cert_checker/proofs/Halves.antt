-- What is judged by an item of a proof, at its place.
use Rattle.std.proofs.Common.{◌≡◌, ℕ, zero, suc, ◌+◌, ◌-◌, ◌<◌, ◌≤◌, ◌^◌, List, [], ◌∷◌, ◌++◌, Option, Some, length, inl, inr, refl, sym, ap, subst, ◌∙◌, append_assoc, length-append, arith}
use Rattle.std.proofs.lemmas.List.{append-nil, length-map}
use Rattle.st_model.specs.declared.branch.Branch.{Branch}
use Rattle.st_model.specs.declared.split_at.SplitAt.{SplitAt}
use Rattle.arborescence.specs.Problem.{Problem}
use Rattle.cut_packing.specs.declared.cut.Cut.{Cut}
use Rattle.log_format.specs.declared.fault.LogFault.{LogFault}
use Rattle.log_format.specs.declared.item.Item.TheVariants.{Split as OneSplit, CloseHead, OneCut}
use Rattle.log_format.specs.declared.log.Claim.{Claim}
use Rattle.log_format.specs.declared.log.Claim.TheVariants.{Found}
use Rattle.log_format.specs.declared.proof_line.ProofLine.{ProofLine}
use Rattle.log_format.specs.declared.proof_line.ProofLine.TheVariants.{Split, Close}
use Rattle.log_format.specs.declared.stage.Proving as said_proving
use Rattle.log_format.specs.declared.stage.Stage.TheVariants.{AtHalf, AtCuts}
use Rattle.log_format.specs.Accepts.{AcceptsClaimIn, RejectsClaimIn, IsFirstWrongOver, ProvesOfIn, proof_line}
use Rattle.log_format.specs.Places.{taken}
use Rattle.log_format.specs.Reading.{closed, cuts_left, split_at}
use Rattle.log_format.specs.Text.{lines_of, cut_line}
use Rattle.log_format.proofs.Rejecting.{right_proves}
use Rattle.cert_checker.specs.declared.posed.Posed.{Posed}
use Rattle.cert_checker.specs.declared.stage.Stage.{Stage}
use Rattle.cert_checker.specs.declared.stage.Stage.TheVariants.{BeforeHalf, AmongCuts, Right, Wrong}
use Rattle.cert_checker.specs.declared.stage.Proving.{Proving}
use Rattle.cert_checker.specs.declared.turn.Turn.{Turn}
use Rattle.cert_checker.specs.Judging.{IsWrongLine}
use Rattle.cert_checker.specs.Path.{branch_of, waiting, yes_path}
use Rattle.cert_checker.specs.Posed.{problem_left, ground_left, IsDue}
use Rattle.cert_checker.specs.Following.{Said, AreRight, GoesOn, IsProving, IsJudged, IsNext, IsAfterLine, IsAfterCuts}
use Rattle.cert_checker.specs.Verdict.{verdict_of}
use Rattle.cert_checker.proofs.GoingOn.{are_right, goes_on, ends, goes_wrong, none_waits_after}
use Rattle.cert_checker.proofs.Judged.{waiting_is}
use Rattle.cert_checker.proofs.Judgements.{due_proves, due_wrong}
use Rattle.cert_checker.proofs.Keeping.{right_at, proving_later}
use Rattle.cert_checker.proofs.Paths.{waiting-yes_path}

-- the claim of a proof with these lines
abbrev claim_of : said_proving.Proving → List ProofLine → Claim
claim_of p lines = Found p.answer.primal p.answer.dual p.answer.tree p.answer.steps lines

-- a proof with one line more
abbrev pub with_line : said_proving.Proving → ProofLine → ℕ → said_proving.Proving
with_line p line w = record { answer = p.answer; lines = p.lines ++ line ∷ []; waiting = w }

-- a proof goes on by a right line
pub line_next : (K : Problem) (count later : ℕ) (p : said_proving.Proving) (h next : Proving) (line : ProofLine) (w : ℕ) → IsProving K count p h → IsNext K h line next → later < 2 ^ 63 + 2
    → h.number + length (lines_of line) ≤ later + 1 → length (waiting next.path) ≡ w
    → IsProving K later (with_line p line w) next
line_next K count later p h next line w so_far is below room wait =
    let here : next.number ≡ h.number + length (lines_of line) = is.number (omega (arith, below, room)) in
    let first = proof_line p.answer.tree p.answer.steps in
    let B = so_far.branch in
    let lines = p.lines ++ line ∷ [] in
    let on = goes_on (ground_left K h.left) h.least first B p.lines h.path next.path h.number line is.right is.next so_far.goes_on in
    record {
      primal = is.primal ∙ so_far.primal;
      dual = is.dual ∙ so_far.dual;
      tree = so_far.tree;
      branch = B;
      due = subst (λ (J : Option Posed). IsDue K p.answer.steps p.answer.dual (problem_left K J) B next.least) (sym is.left) (subst (λ (x : ℕ). IsDue K p.answer.steps p.answer.dual (problem_left K h.left) B x) (sym is.least) so_far.due);
      goes_on = subst (λ (J : Option Posed). GoesOn (ground_left K J) next.least first B lines next.path next.number) (sym is.left) (subst (λ (x : ℕ). GoesOn (ground_left K h.left) x first B lines next.path next.number) (sym is.least) (subst (λ (n : ℕ). GoesOn (ground_left K h.left) h.least first B lines next.path n) (sym here) on));
      wait = wait;
      few = omega (arith, here, room);
    }

-- a claim is right where each line of its proof is
accepted : (K : Problem) (count : ℕ) (p : said_proving.Proving) (h : Proving) (lines : List ProofLine) (so_far : IsProving K count p h)
    → AreRight (ground_left K h.left) h.least (so_far.branch ∷ []) lines → AcceptsClaimIn K (claim_of p lines)
accepted K count p h lines so_far right =
    let G = ground_left K h.left in
    let B = so_far.branch in
    let proves : ProvesOfIn G B h.least lines = right_proves G h.least B lines (are_right G h.least (B ∷ []) lines right) in
    record {
      is_tree = so_far.tree.is_tree;
      is_cost = so_far.tree.is_cost;
      is_below = so_far.tree.is_below;
      is_proved = due_proves K p.answer.steps p.answer.dual (problem_left K h.left) B h.least lines so_far.due proves;
    }

-- and rejected where one is wrong
rejected : (K : Problem) (count : ℕ) (p : said_proving.Proving) (h : Proving) (lines : List ProofLine) (f : LogFault) (so_far : IsProving K count p h)
    → IsFirstWrongOver (ground_left K h.left) h.least (so_far.branch ∷ []) (proof_line p.answer.tree p.answer.steps) lines f.line f.kind → RejectsClaimIn K (claim_of p lines) f.line f.kind
rejected K count p h lines f so_far wrong =
    inr (so_far.tree.is_tree, inr (so_far.tree.is_cost, inr (so_far.tree.is_below, due_wrong K p.answer.tree p.answer.steps p.answer.dual (problem_left K h.left) so_far.branch h.least lines f.line f.kind so_far.due wrong)))

-- a line is wrong, so each claim that goes on with it is rejected
pub line_wrong : (K : Problem) (count : ℕ) (p : said_proving.Proving) (h : Proving) (line : ProofLine) (f : LogFault) (claim : Claim) (more : List ProofLine) → IsProving K count p h
    → IsWrongLine (ground_left K h.left) h.least (branch_of h.path) h.number line f.line f.kind
    → claim ≡ claim_of p ((p.lines ++ line ∷ []) ++ more) → RejectsClaimIn K claim f.line f.kind
line_wrong K count p h line f claim more so_far wrong is =
    let first = proof_line p.answer.tree p.answer.steps in
    let bad = goes_wrong (ground_left K h.left) h.least first so_far.branch p.lines h.path h.number line more f.line f.kind wrong so_far.goes_on in
    let all : claim ≡ claim_of p (p.lines ++ (line ∷ more)) = is ∙ ap (claim_of p) (append_assoc p.lines (line ∷ []) more) in
    subst (λ (c : Claim). RejectsClaimIn K c f.line f.kind) (sym all) (rejected K count p h (p.lines ++ (line ∷ more)) f so_far bad)

-- ---- a split

split_judged : (K : Problem) (count later : ℕ) (p : said_proving.Proving) (h : Proving) (at : SplitAt) (next : Stage) → later < 2 ^ 63 + 2 → h.number ≤ later → IsProving K count p h
    → IsAfterLine K h (Split at) next → IsJudged K later (split_at p at) next
split_judged K count later p h at (BeforeHalf q) below room so_far is =
    let e : Some (yes_path h.path at) ≡ Some q.path = is.next in
    let same : yes_path h.path at ≡ q.path = cc in
    let more : length (waiting q.path) ≡ length (waiting h.path) + 1 = omega (arith, ap (λ (path : List Turn). length (waiting path)) same, ap (λ (Bs : List Branch). length Bs) (waiting-yes_path h.path at)) in
    let wait : length (waiting q.path) ≡ p.waiting + 1 = omega (arith, more, so_far.wait) in
    inl (q, refl, line_next K count later p h q (Split at) (p.waiting + 1) so_far is below (omega (arith, room)) wait)
split_judged K count later p h at (Right verdict) below room so_far is = let e = is.last in absurd cc
split_judged K count later p h at (Wrong f) below room so_far wrong = inr (f, refl, λ claim (more, is). line_wrong K count p h (Split at) f claim more so_far wrong is)
split_judged K count later p h at next below room so_far none = absurd none

pub split_next : (K : Problem) (count : ℕ) (at : SplitAt) (h : Proving) (next : Stage) (s : Said) → count < 2 ^ 63 → IsAfterLine K h (Split at) next → IsJudged K count s (BeforeHalf h)
    → IsJudged K (count + 1) (taken s (OneSplit at)) next
split_next K count at h next (AtHalf p) below after judged =
    let is = right_at K count (AtHalf p) (BeforeHalf h) (omega arith) judged in
    let same : is.0.0 ≡ h = cc in
    let so_far : IsProving K count p h = subst (IsProving K count p) same is.0.2 in
    split_judged K count (count + 1) p h at next (omega (arith, below)) so_far.few so_far after
split_next K count at h next s below after judged = let is = right_at K count s (BeforeHalf h) (omega arith) judged in absurd (omega (arith, is.1))

-- ---- a close

-- the lines of a close are its head and its cuts
close_lines : (root : Option ℕ) (cuts : List Cut) → length (lines_of (Close (record { root = root; cuts = cuts }))) ≡ 1 + length cuts
close_lines root cuts = omega (arith, length-map cuts cut_line)

-- where a half waits, it comes next, and else the claim is right
closed_judged : (K : Problem) (count later : ℕ) (p : said_proving.Proving) (h : Proving) (root : Option ℕ) (cuts : List Cut) (next : Stage) (w : ℕ) → p.waiting ≡ w → later < 2 ^ 63 + 2
    → h.number + length cuts ≤ later → IsProving K count p h → IsAfterLine K h (Close (record { root = root; cuts = cuts })) next
    → IsJudged K later (closed p.answer (p.lines ++ Close (record { root = root; cuts = cuts }) ∷ []) w) next
closed_judged K count later p h root cuts (BeforeHalf q) zero none below room so_far is =
    let e = waiting_is h.path q.path is.next in
    absurd (omega (arith, ap (λ (Bs : List Branch). length Bs) e, so_far.wait, none))
closed_judged K count later p h root cuts (BeforeHalf q) (suc w) some below room so_far is =
    let e = waiting_is h.path q.path is.next in
    let wait : length (waiting q.path) ≡ w = omega (arith, ap (λ (Bs : List Branch). length Bs) e, so_far.wait, some) in
    inl (q, refl, line_next K count later p h q (Close (record { root = root; cuts = cuts })) w so_far is below (omega (arith, room, close_lines root cuts)) wait)
closed_judged K count later p h root cuts (Right verdict) zero none below room so_far is =
    let line : ProofLine = Close (record { root = root; cuts = cuts }) in
    let lines : List ProofLine = p.lines ++ line ∷ [] in
    let right = ends (ground_left K h.left) h.least (proof_line p.answer.tree p.answer.steps) so_far.branch p.lines h.path h.number line is.right is.last so_far.goes_on in
    let here : verdict ≡ verdict_of (claim_of p lines) = is.told p.answer.tree p.answer.steps lines ∙ ap (λ (x : ℕ × ℕ). verdict_of (Found x.0 x.1 p.answer.tree p.answer.steps lines)) (λ i. (so_far.primal i, so_far.dual i)) in
    inl (ap Right here, accepted K count p h lines so_far right)
closed_judged K count later p h root cuts (Right verdict) (suc w) some below room so_far is =
    let e = none_waits_after h.path is.last in
    absurd (omega (arith, ap (λ (Bs : List Branch). length Bs) e, so_far.wait, some))
closed_judged K count later p h root cuts (Wrong f) zero none below room so_far wrong =
    let line : ProofLine = Close (record { root = root; cuts = cuts }) in
    inr (f, refl, λ claim is. line_wrong K count p h line f claim [] so_far wrong (is ∙ ap (claim_of p) (sym (append-nil (p.lines ++ line ∷ [])))))
closed_judged K count later p h root cuts (Wrong f) (suc w) some below room so_far wrong =
    inr (f, refl, λ claim (more, is). line_wrong K count p h (Close (record { root = root; cuts = cuts })) f claim more so_far wrong is)
closed_judged K count later p h root cuts next w is below room so_far none = absurd none

cuts_judged : (K : Problem) (later : ℕ) (p : said_proving.Proving) (h : Proving) (root : Option ℕ) (cuts : List Cut) (left : ℕ) (next : Stage) → later < 2 ^ 63 + 2
    → h.number + length cuts ≤ later → IsProving K later p h → IsAfterCuts K h root cuts left next → IsJudged K later (cuts_left p root cuts left) next
cuts_judged K later p h root cuts zero next below room so_far after = closed_judged K later later p h root cuts next p.waiting refl below room so_far after
cuts_judged K later p h root cuts (suc left) next below room so_far is = inl (h, is, so_far, room)

pub close_next : (K : Problem) (count left : ℕ) (root : Option ℕ) (h : Proving) (next : Stage) (s : Said) → count < 2 ^ 63 → IsAfterCuts K h root [] left next → IsJudged K count s (BeforeHalf h)
    → IsJudged K (count + 1) (taken s (CloseHead root left)) next
close_next K count left root h next (AtHalf p) below after judged =
    let at = right_at K count (AtHalf p) (BeforeHalf h) (omega arith) judged in
    let same : at.0.0 ≡ h = cc in
    let so_far : IsProving K count p h = subst (IsProving K count p) same at.0.2 in
    cuts_judged K (count + 1) p h root [] left next (omega (arith, below)) (omega (arith, so_far.few)) (proving_later K count p h so_far) after
close_next K count left root h next s below after judged = let at = right_at K count s (BeforeHalf h) (omega arith) judged in absurd (omega (arith, at.1))

pub cut_next : (K : Problem) (count left : ℕ) (root : Option ℕ) (cuts : List Cut) (c : Cut) (h : Proving) (next : Stage) (s : Said) → count < 2 ^ 63
    → IsAfterCuts K h root (cuts ++ c ∷ []) (left - 1) next → IsJudged K count s (AmongCuts h root cuts left) → IsJudged K (count + 1) (taken s (OneCut c)) next
cut_next K count left root cuts c h next (AtCuts p root' cuts' left') below after judged =
    let at = right_at K count (AtCuts p root' cuts' left') (AmongCuts h root cuts left) (omega arith) judged in
    let is : AmongCuts h root cuts left ≡ AmongCuts at.0.0 root' cuts' left' = at.0.1 in
    let same : at.0.0 ≡ h = cc in
    let roots : root ≡ root' = cc in
    let lists : cuts ≡ cuts' = cc in
    let lefts : left ≡ left' = cc in
    let so_far : IsProving K count p h = subst (IsProving K count p) same at.0.2 in
    let room : h.number + length cuts' ≤ count = subst (λ (x : Proving). x.number + length cuts' ≤ count) same at.0.3 in
    let here : IsAfterCuts K h root' (cuts' ++ c ∷ []) (left' - 1) next = subst (λ (n : ℕ). IsAfterCuts K h root' (cuts' ++ c ∷ []) (n - 1) next) lefts (subst (λ (cs : List Cut). IsAfterCuts K h root' (cs ++ c ∷ []) (left - 1) next) lists (subst (λ (r : Option ℕ). IsAfterCuts K h r (cuts ++ c ∷ []) (left - 1) next) roots after)) in
    cuts_judged K (count + 1) p h root' (cuts' ++ c ∷ []) (left' - 1) next (omega (arith, below)) (omega (arith, room, length-append cuts' (c ∷ []))) (proving_later K count p h so_far) here
cut_next K count left root cuts c h next s below after judged = let at = right_at K count s (AmongCuts h root cuts left) (omega arith) judged in absurd (omega (arith, at.1))
