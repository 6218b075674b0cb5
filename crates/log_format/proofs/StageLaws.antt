-- What was read at a stage was spelled so.
use Rattle.std.proofs.Common.{◌≡◌, ℕ, zero, suc, ◌+◌, ◌-◌, ◌^◌, ◌<◌, ◌≤◌, eqb, inl, inr, List, [], ◌∷◌, ◌++◌, length, map, Option, Some, None, refl, sym, ap, subst, ◌∙◌, append_assoc, arith}
use Rattle.std.specs.Prelude.{codes, IfSome}
use Rattle.std.specs.List.{flat_map, AllByRecursion}
use Rattle.std.specs.Str.{bytes_eq}
use Rattle.std.proofs.lemmas.Bool.{eqb-true}
use Rattle.std.proofs.lemmas.Bool.Decides.{nat_tests}
use Rattle.std.proofs.lemmas.Grind.{flat_map-append}
use Rattle.std.proofs.lemmas.List.{append-nil, map-append, length-append}
use Rattle.std.proofs.lemmas.List.Elements.{All-from_recursion}
use Rattle.std.proofs.lemmas.Option.{cond_some}
use Rattle.st_model.specs.declared.split_at.SplitAt.{SplitAt}
use Rattle.cut_packing.specs.declared.cut.Cut.{Cut}
use Rattle.cut_packing.specs.declared.packing.Packing.{Packing}
use Rattle.lift_back.specs.declared.step.Step.{Step}
use Rattle.log_format.specs.declared.log.Version.{Version}
use Rattle.log_format.specs.declared.log.Claim.TheVariants.{Found, NoTree}
use Rattle.log_format.specs.declared.proof_line.ProofLine.{ProofLine}
use Rattle.log_format.specs.declared.proof_line.ProofLine.TheVariants.{Split, Close}
use Rattle.log_format.specs.declared.stage.Answer.{Answer}
use Rattle.log_format.specs.declared.stage.Proving.{Proving}
use Rattle.log_format.specs.declared.stage.Stage.{Stage}
use Rattle.log_format.specs.declared.stage.Stage.TheVariants.{AtHeader, AtClaim, AtTree, AtArcs, AtSteps, AtHalf, AtCuts, AtWall, AtEnd, AtNothing}
use Rattle.log_format.specs.Text.{words, root_number, arc_line, cut_line, step_line, lines_of, header, IsAnyVertex, IsWritableCut, IsWritableTree, IsWritableStep, IsWritableLine, IsWritableFound}
use Rattle.log_format.specs.Reading.{number_of, pair_of, cut_of, wall_of, most, step_of, split_of, stage_if, root_of, closed, cuts_left, split_at, half_at, no_step_yet, with_step, step, open_after}
use Rattle.plain_text.specs.Steps.{◌>>=◌}
use Rattle.log_format.specs.Reached.{tree_lines, answer_lines, proof_lines, close_lines, lines_read, IsAnswer, IsProving, IsReached}
use Rattle.plain_text.proofs.Steps.{step_some, chosen}
use Rattle.log_format.proofs.LineLaws.{bytes_are, number_of_judges, pair_judges, cut_judges, wall_judges}
use Rattle.log_format.proofs.StepLaws.{step_judges}
use Rattle.log_format.proofs.SplitLaws.{split_judges}
use Rattle.log_format.proofs.Sets.{set_from, cut_from}
use Rattle.log_format.proofs.Preorders.{are_proofs-append, open_after-append, one_from}

-- a stage that was reached by one more line
abbrev pub Takes : Version → List (List ℕ) → List ℕ → Stage → Type 0
Takes version before line s = IsReached version s × (lines_read version s ≡ before ++ line ∷ [])

-- the line was the one that is wanted
if_takes : (version : Version) (wanted line : List ℕ) (s t : Stage) (before : List (List ℕ)) → stage_if wanted line s ≡ Some t → Takes version before wanted s → Takes version before line t
if_takes version wanted line s t before e takes =
    let g = cond_some (bytes_eq line wanted) s t e in
    subst (λ (l : List ℕ). Takes version before l t) (sym (bytes_are line wanted g.0)) (subst (λ (u : Stage). Takes version before wanted u) g.1 takes)

-- one more at the end fits too
pub AllByRecursion-push : {X : Type 0} (P : X → Type 0) (xs : List X) (x : X) → AllByRecursion P xs → P x → AllByRecursion P (xs ++ x ∷ [])
AllByRecursion-push P [] x h p = (p, tt)
AllByRecursion-push P (y ∷ ys) x h p = (h.0, AllByRecursion-push P ys x h.1 p)

-- lines of one more at the end
map-push : {X : Type 0} (f : X → List ℕ) (xs : List X) (x : X) → map f (xs ++ x ∷ []) ≡ map f xs ++ f x ∷ []
map-push f xs x = map-append f xs (x ∷ [])

flat-push : (xs : List ProofLine) (x : ProofLine) → flat_map lines_of (xs ++ x ∷ []) ≡ flat_map lines_of xs ++ lines_of x
flat-push xs x = flat_map-append lines_of xs (x ∷ []) ∙ ap (λ (r : List (List ℕ)). flat_map lines_of xs ++ r) (append-nil (lines_of x))

-- ---- the claim and the tree

at_claim_takes : (version : Version) (line : List ℕ) (t : Stage) → step version AtClaim line ≡ Some t → Takes version (header version ∷ []) line t
unfolding step
at_claim_takes version line t e =
    elim (chosen (bytes_eq line (codes "CLAIM NONE")) (Some AtWall) (pair_of (codes "CLAIM TREE") 0 most 0 most line >>= λ b. Some (AtTree b.0 b.1)) (Some t) e) [
      | inl h ↦
          let same : AtWall ≡ t = cc in
          subst (λ (u : Stage). Takes version (header version ∷ []) line u) same (tt, ap (λ (l : List ℕ). header version ∷ l ∷ []) (sym (bytes_are line (codes "CLAIM NONE") h.0)))
      | inr h ↦
          let b = step_some (pair_of (codes "CLAIM TREE") 0 most 0 most line) _ t h.1 in
          let same : AtTree b.0.0 b.0.1 ≡ t = cc in
          let j = (pair_judges (codes "CLAIM TREE") 0 most 0 most (omega arith) (omega arith)).takes line b.0 b.1 in
          subst (λ (u : Stage). Takes version (header version ∷ []) line u) same ((omega (arith, j.0.0), omega (arith, j.0.1)), ap (λ (l : List ℕ). header version ∷ l ∷ []) (sym j.1))
    ]

at_tree_takes : (version : Version) (primal dual : ℕ) (line : List ℕ) (t : Stage) → IsReached version (AtTree primal dual) → step version (AtTree primal dual) line ≡ Some t → Takes version (lines_read version (AtTree primal dual)) line t
unfolding step
at_tree_takes version primal dual line t fits e =
    let b = step_some (pair_of (codes "TREE") 1 1000000 0 most line) _ t e in
    let same : AtArcs primal dual b.0.0 [] b.0.1 ≡ t = cc in
    let j = (pair_judges (codes "TREE") 1 1000000 0 most (omega arith) (omega arith)).takes line b.0 b.1 in
    let count : 0 + b.0.1 ≡ b.0.1 = omega arith in
    subst (λ (u : Stage). Takes version (lines_read version (AtTree primal dual)) line u) same (
      record { primal_fits = fits.0; dual_fits = fits.1; start_fits = j.0.0; few_arcs = omega (arith, j.0.1); arcs_fit = tt },
      ap (λ (k : ℕ). tree_lines version primal dual b.0.0 [] k) count ∙ ap (λ (l : List ℕ). lines_read version (AtTree primal dual) ++ l ∷ []) (sym j.1),
    )

-- the lines of a tree with one more arc
tree_lines-push : (version : Version) (primal dual start : ℕ) (arcs : List (ℕ × ℕ)) (arc : ℕ × ℕ) (count : ℕ) → tree_lines version primal dual start (arcs ++ arc ∷ []) count ≡ tree_lines version primal dual start arcs count ++ arc_line arc ∷ []
tree_lines-push version primal dual start arcs arc count = ap (λ (r : List (List ℕ)). tree_lines version primal dual start [] count ++ r) (map-push arc_line arcs arc)

at_arcs_takes : (version : Version) (primal dual start : ℕ) (arcs : List (ℕ × ℕ)) (left : ℕ) (line : List ℕ) (t : Stage) → IsReached version (AtArcs primal dual start arcs left) → step version (AtArcs primal dual start arcs left) line ≡ Some t → Takes version (lines_read version (AtArcs primal dual start arcs left)) line t
unfolding step
at_arcs_takes version primal dual start arcs left line t fits e =
    let a = no_step_yet primal dual start arcs in
    let by_count = number_of (codes "STEPS") 0 most line >>= λ count. Some (AtSteps a count) in
    let by_arc = pair_of (codes "A") 1 1000000 1 1000000 line >>= λ arc. Some (AtArcs primal dual start (arcs ++ arc ∷ []) (left - 1)) in
    elim (chosen (eqb left 0) by_count by_arc (Some t) e) [
      | inl h ↦
          let none : left ≡ 0 = eqb-true left 0 h.0 in
          let few : length arcs < 2 ^ 64 = omega (arith, fits.few_arcs) in
          let b = step_some (number_of (codes "STEPS") 0 most line) _ t h.1 in
          let same : AtSteps a b.0 ≡ t = cc in
          let j = (number_of_judges (codes "STEPS") 0 most (omega arith)).takes line b.0 b.1 in
          let in_all : length arcs ≡ length arcs + left = omega arith in
          let to_come : 0 + b.0 ≡ b.0 = omega arith in
          let tree_fits : IsWritableTree a.tree = record { start = fits.start_fits; few_arcs = few; arcs = All-from_recursion _ arcs fits.arcs_fit } in
          let answer_fits : IsAnswer a = record { primal_fits = fits.primal_fits; dual_fits = fits.dual_fits; tree_fits = tree_fits; few_steps = omega arith; steps_fit = tt } in
          subst (λ (u : Stage). Takes version (lines_read version (AtArcs primal dual start arcs left)) line u) same (
            record { answer_fits = answer_fits; few_in_all = omega (arith, j.0) },
            ap (λ (k : ℕ). tree_lines version primal dual start arcs (length arcs) ++ words (codes "STEPS") (k ∷ []) ∷ []) to_come
                ∙ (ap (λ (k : ℕ). tree_lines version primal dual start arcs k ++ words (codes "STEPS") (b.0 ∷ []) ∷ []) in_all ∙ ap (λ (l : List ℕ). lines_read version (AtArcs primal dual start arcs left) ++ l ∷ []) (sym j.1)),
          )
      | inr h ↦
          let b = step_some (pair_of (codes "A") 1 1000000 1 1000000 line) _ t h.1 in
          let same : AtArcs primal dual start (arcs ++ b.0 ∷ []) (left - 1) ≡ t = cc in
          let j = (pair_judges (codes "A") 1 1000000 1 1000000 (omega arith) (omega arith)).takes line b.0 b.1 in
          let some : 0 < left = grind (arith, nat_tests, h.0) in
          let count : length (arcs ++ b.0 ∷ []) + (left - 1) ≡ length arcs + left = omega (arith, length-append arcs (b.0 ∷ [])) in
          subst (λ (u : Stage). Takes version (lines_read version (AtArcs primal dual start arcs left)) line u) same (
            record { primal_fits = fits.primal_fits; dual_fits = fits.dual_fits; start_fits = fits.start_fits; few_arcs = omega (arith, fits.few_arcs, count); arcs_fit = AllByRecursion-push _ arcs b.0 fits.arcs_fit j.0 },
            ap (λ (k : ℕ). tree_lines version primal dual start (arcs ++ b.0 ∷ []) k) count ∙ (tree_lines-push version primal dual start arcs b.0 (length arcs + left) ∙ ap (λ (l : List ℕ). lines_read version (AtArcs primal dual start arcs left) ++ l ∷ []) (sym j.1)),
          )
    ]

-- ---- steps

-- the lines of the steps with one more step
answer_lines-push : (version : Version) (a : Answer) (s : Step) (count : ℕ) → answer_lines version (with_step a s) count ≡ answer_lines version a count ++ step_line s ∷ []
answer_lines-push version a s count =
    let tree : List (List ℕ) = tree_lines version a.primal a.dual a.tree.start a.tree.arcs (length a.tree.arcs) in
    let head : List ℕ = words (codes "STEPS") (count ∷ []) in
    ap (λ (r : List (List ℕ)). tree ++ head ∷ r) (map-push step_line a.steps s) ∙ sym (append_assoc tree (head ∷ map step_line a.steps) (step_line s ∷ []))

at_steps_takes : (version : Version) (a : Answer) (left : ℕ) (line : List ℕ) (t : Stage) → IsReached version (AtSteps a left) → step version (AtSteps a left) line ≡ Some t → Takes version (lines_read version (AtSteps a left)) line t
unfolding step
at_steps_takes version a left line t fits e =
    let begun : Stage = AtHalf (record { answer = a; lines = []; waiting = 0 }) in
    elim (chosen (eqb left 0) (stage_if (codes "PROOF") line begun) (step_of line >>= λ s. Some (AtSteps (with_step a s) (left - 1))) (Some t) e) [
      | inl h ↦
          let none : left ≡ 0 = eqb-true left 0 h.0 in
          let in_all : length a.steps ≡ length a.steps + left = omega arith in
          if_takes version (codes "PROOF") line begun t (lines_read version (AtSteps a left)) h.1 (
            record { answer_fits = fits.answer_fits; lines_fit = tt; halves = record { still = refl; few = omega arith } },
            ap (λ (k : ℕ). answer_lines version a k ++ codes "PROOF" ∷ []) in_all,
          )
      | inr h ↦
          let b = step_some (step_of line) _ t h.1 in
          let same : AtSteps (with_step a b.0) (left - 1) ≡ t = cc in
          let j = step_judges.takes line b.0 b.1 in
          let some : 0 < left = grind (arith, nat_tests, h.0) in
          let longer : length (a.steps ++ b.0 ∷ []) ≡ length a.steps + 1 = length-append a.steps (b.0 ∷ []) in
          let in_all : length (a.steps ++ b.0 ∷ []) + (left - 1) ≡ length a.steps + left = omega (arith, longer) in
          let old = fits.answer_fits in
          let steps_fit = AllByRecursion-push IsWritableStep a.steps b.0 old.steps_fit j.0 in
          let few : length (a.steps ++ b.0 ∷ []) < 2 ^ 64 = omega (arith, fits.few_in_all, longer) in
          let answer_fits : IsAnswer (with_step a b.0) = record { primal_fits = old.primal_fits; dual_fits = old.dual_fits; tree_fits = old.tree_fits; few_steps = few; steps_fit = steps_fit } in
          subst (λ (u : Stage). Takes version (lines_read version (AtSteps a left)) line u) same (
            record { answer_fits = answer_fits; few_in_all = omega (arith, fits.few_in_all, in_all) },
            ap (λ (k : ℕ). answer_lines version (with_step a b.0) k) in_all ∙ (answer_lines-push version a b.0 (length a.steps + left) ∙ ap (λ (l : List ℕ). lines_read version (AtSteps a left) ++ l ∷ []) (sym j.1)),
          )
    ]

-- ---- the proof

-- the lines of a proof with one more line of it
proof_lines-push : (version : Version) (a : Answer) (lines : List ProofLine) (x : ProofLine) (w w' : ℕ) → proof_lines version (record { answer = a; lines = lines ++ x ∷ []; waiting = w }) ≡ proof_lines version (record { answer = a; lines = lines; waiting = w' }) ++ lines_of x
proof_lines-push version a lines x w w' =
    ap (λ (r : List (List ℕ)). answer_lines version a (length a.steps) ++ codes "PROOF" ∷ r) (flat-push lines x)
    ∙ sym (append_assoc (answer_lines version a (length a.steps)) (codes "PROOF" ∷ flat_map lines_of lines) (lines_of x))

-- one more line leaves open what it leaves of the halves that were
open-push : (lines : List ProofLine) (x : ProofLine) (left : ℕ) → open_after 1 lines ≡ Some left → open_after 1 (lines ++ x ∷ []) ≡ open_after left (x ∷ [])
open-push lines x left e = open_after-append 1 lines (x ∷ []) left e

-- the lines of a claim whose proof is read to its end
claim_lines-read : (version : Version) (a : Answer) (lines : List ProofLine) (w : ℕ) → lines_read version (AtEnd (Found a.primal a.dual a.tree a.steps lines)) ≡ proof_lines version (record { answer = a; lines = lines; waiting = w })
claim_lines-read version a lines w =
    let steps_lines : List (List ℕ) = words (codes "STEPS") (length a.steps ∷ []) ∷ map step_line a.steps in
    let regrouped = append_assoc (map arc_line a.tree.arcs) steps_lines (codes "PROOF" ∷ flat_map lines_of lines) in
    ap (λ (r : List (List ℕ)). tree_lines version a.primal a.dual a.tree.start [] (length a.tree.arcs) ++ r) (sym regrouped)

-- a claim whose proof is read to its end
claim_fits : (version : Version) (a : Answer) (lines : List ProofLine) → IsAnswer a → AllByRecursion (IsWritableLine version) lines → IsWritableFound version a.primal a.dual a.tree a.steps lines
claim_fits version a lines fits lines_fit = record {
  primal_fits = fits.primal_fits;
  dual_fits = fits.dual_fits;
  tree_fits = fits.tree_fits;
  few_steps = fits.few_steps;
  steps_fit = All-from_recursion IsWritableStep a.steps fits.steps_fit;
  lines_fit = All-from_recursion (IsWritableLine version) lines lines_fit;
}

-- a close that is read to its end
closed_takes : (version : Version) (p : Proving) (P : Packing) → IsProving version p → IsWritableLine version (Close P) → IsReached version (closed p.answer (p.lines ++ Close P ∷ []) p.waiting) × (lines_read version (closed p.answer (p.lines ++ Close P ∷ []) p.waiting) ≡ proof_lines version p ++ lines_of (Close P))
closed_takes version p P fits close_fits = by_waiting p.waiting fits.halves.still fits.halves.few
  where
    all_fit : AllByRecursion (IsWritableLine version) (p.lines ++ Close P ∷ [])
    all_fit = AllByRecursion-push (IsWritableLine version) p.lines (Close P) fits.lines_fit close_fits

    by_waiting : (w : ℕ) → open_after 1 p.lines ≡ Some (w + 1) → w ≤ length p.lines → IsReached version (closed p.answer (p.lines ++ Close P ∷ []) w) × (lines_read version (closed p.answer (p.lines ++ Close P ∷ []) w) ≡ proof_lines version p ++ lines_of (Close P))
    by_waiting zero e few =
        let whole = are_proofs-append 1 p.lines (Close P ∷ []) 1 e in (
          (claim_fits version p.answer (p.lines ++ Close P ∷ []) fits.answer_fits all_fit, one_from (p.lines ++ Close P ∷ []) whole),
          claim_lines-read version p.answer (p.lines ++ Close P ∷ []) 0 ∙ proof_lines-push version p.answer p.lines (Close P) 0 p.waiting,
        )
    by_waiting (suc w) e few =
        let more : suc w + 1 ≡ suc (w + 1) = omega arith in
        let still = open-push p.lines (Close P) (suc (w + 1)) (e ∙ ap (λ (k : ℕ). Some k) more) in (
          record { answer_fits = fits.answer_fits; lines_fit = all_fit; halves = record { still = still; few = omega (arith, few, length-append p.lines (Close P ∷ [])) } },
          proof_lines-push version p.answer p.lines (Close P) w p.waiting,
        )

-- the number that stands for a root, or for none
pub root_number-of : (n : ℕ) → root_number (root_of n) ≡ n
root_number-of zero = refl
root_number-of (suc n) = refl

pub root_fits : (n : ℕ) → n ≤ 1000000 → IfSome (root_of n) IsAnyVertex
root_fits zero h = tt
root_fits (suc n) h = (omega arith, h)

-- the cuts of a close so far, and how many are left
cuts_left_takes : (version : Version) (p : Proving) (root : Option ℕ) (cuts : List Cut) (left : ℕ) → IsProving version p → IfSome root IsAnyVertex → length cuts + left < 2 ^ 64 → AllByRecursion IsWritableCut cuts
    → IsReached version (cuts_left p root cuts left) × (lines_read version (cuts_left p root cuts left) ≡ proof_lines version p ++ close_lines root cuts (length cuts + left))
cuts_left_takes version p root cuts zero fits root_in few cuts_fit =
    let P : Packing = record { root = root; cuts = cuts } in
    let t = closed_takes version p P fits (record { root = root_in; few_cuts = omega arith; cuts = All-from_recursion IsWritableCut cuts cuts_fit }) in
    let count : length cuts ≡ length cuts + 0 = omega arith in
    (t.0, t.1 ∙ ap (λ (k : ℕ). proof_lines version p ++ close_lines root cuts k) count)
cuts_left_takes version p root cuts (suc left) fits root_in few cuts_fit =
    (record { proving = fits; root_fits = root_in; few_cuts = few; some_left = omega arith; cuts_fit = cuts_fit }, refl)

-- the lines of a close with one more cut
close_lines-push : (root : Option ℕ) (cuts : List Cut) (c : Cut) (count : ℕ) → close_lines root (cuts ++ c ∷ []) count ≡ close_lines root cuts count ++ cut_line c ∷ []
close_lines-push root cuts c count = ap (λ (r : List (List ℕ)). close_lines root [] count ++ r) (map-push cut_line cuts c)

-- a split, or the head of a close
half_takes : (version : Version) (p : Proving) (line : List ℕ) (t : Stage) (found : Option SplitAt) → IsProving version p → split_of version line ≡ found → half_at p found line ≡ Some t → Takes version (proof_lines version p) line t
half_takes version p line t (Some at) fits found e =
    let same : split_at p at ≡ t = cc in
    let j = (split_judges version).takes line at found in
    let more : p.waiting + 1 ≡ suc p.waiting = omega arith in
    let more' : suc (suc p.waiting) ≡ p.waiting + 1 + 1 = omega arith in
    let still = open-push p.lines (Split at) (suc p.waiting) (fits.halves.still ∙ ap (λ (k : ℕ). Some k) more) ∙ ap (λ (k : ℕ). Some k) more' in
    subst (λ (u : Stage). Takes version (proof_lines version p) line u) same (
      record { answer_fits = fits.answer_fits; lines_fit = AllByRecursion-push (IsWritableLine version) p.lines (Split at) fits.lines_fit j.0; halves = record { still = still; few = omega (arith, fits.halves.few, length-append p.lines (Split at ∷ [])) } },
      proof_lines-push version p.answer p.lines (Split at) (p.waiting + 1) p.waiting ∙ ap (λ (l : List ℕ). proof_lines version p ++ l ∷ []) (sym j.1),
    )
half_takes version p line t None fits found e =
    let head = step_some (pair_of (codes "C") 0 1000000 0 most line) _ t e in
    let same : cuts_left p (root_of head.0.0) [] head.0.1 ≡ t = cc in
    let j = (pair_judges (codes "C") 0 1000000 0 most (omega arith) (omega arith)).takes line head.0 head.1 in
    let c = cuts_left_takes version p (root_of head.0.0) [] head.0.1 fits (root_fits head.0.0 j.0.0.1) (omega (arith, j.0.1)) tt in
    let count : 0 + head.0.1 ≡ head.0.1 = omega arith in
    let spelled : close_lines (root_of head.0.0) [] (0 + head.0.1) ≡ line ∷ [] = ap (λ (k : ℕ). close_lines (root_of head.0.0) [] k) count ∙ (ap (λ (k : ℕ). words (codes "C") (k ∷ head.0.1 ∷ []) ∷ []) (root_number-of head.0.0) ∙ ap (λ (l : List ℕ). l ∷ []) (sym j.1)) in
    subst (λ (u : Stage). Takes version (proof_lines version p) line u) same (c.0, c.1 ∙ ap (λ (r : List (List ℕ)). proof_lines version p ++ r) spelled)

at_cuts_takes : (version : Version) (p : Proving) (root : Option ℕ) (cuts : List Cut) (left : ℕ) (line : List ℕ) (t : Stage) → IsReached version (AtCuts p root cuts left) → step version (AtCuts p root cuts left) line ≡ Some t → Takes version (lines_read version (AtCuts p root cuts left)) line t
unfolding step
at_cuts_takes version p root cuts left line t fits e =
    let c = step_some (cut_of line) _ t e in
    let same : cuts_left p root (cuts ++ c.0 ∷ []) (left - 1) ≡ t = cc in
    let j = cut_judges.takes line c.0 c.1 in
    let some : 1 ≤ left = fits.some_left in
    let count : length (cuts ++ c.0 ∷ []) + (left - 1) ≡ length cuts + left = omega (arith, length-append cuts (c.0 ∷ [])) in
    let u = cuts_left_takes version p root (cuts ++ c.0 ∷ []) (left - 1) fits.proving fits.root_fits (omega (arith, fits.few_cuts, count)) (AllByRecursion-push IsWritableCut cuts c.0 fits.cuts_fit (cut_from c.0 j.0)) in
    let spelled : close_lines root (cuts ++ c.0 ∷ []) (length (cuts ++ c.0 ∷ []) + (left - 1)) ≡ close_lines root cuts (length cuts + left) ++ line ∷ [] = ap (λ (k : ℕ). close_lines root (cuts ++ c.0 ∷ []) k) count ∙ (close_lines-push root cuts c.0 (length cuts + left) ∙ ap (λ (l : List ℕ). close_lines root cuts (length cuts + left) ++ l ∷ []) (sym j.1)) in
    subst (λ (x : Stage). Takes version (lines_read version (AtCuts p root cuts left)) line x) same (u.0, u.1 ∙ (ap (λ (r : List (List ℕ)). proof_lines version p ++ r) spelled ∙ sym (append_assoc (proof_lines version p) (close_lines root cuts (length cuts + left)) (line ∷ []))))

at_wall_takes : (version : Version) (line : List ℕ) (t : Stage) → step version AtWall line ≡ Some t → Takes version (lines_read version AtWall) line t
unfolding step
at_wall_takes version line t e =
    let w = step_some (wall_of line) _ t e in
    let same : AtEnd (NoTree w.0) ≡ t = cc in
    let j = wall_judges.takes line w.0 w.1 in
    subst (λ (u : Stage). Takes version (lines_read version AtWall) line u) same ((set_from w.0 j.0, tt), ap (λ (l : List ℕ). lines_read version AtWall ++ l ∷ []) (sym j.1))

-- a line that was taken was read, and what it said fits
pub step_takes : (version : Version) (s : Stage) (line : List ℕ) (t : Stage) → IsReached version s → step version s line ≡ Some t → Takes version (lines_read version s) line t
unfolding step
step_takes version AtHeader line t fits e = if_takes version (header version) line AtClaim t [] e (tt, refl)
step_takes version AtClaim line t fits e = at_claim_takes version line t e
step_takes version (AtTree primal dual) line t fits e = at_tree_takes version primal dual line t fits e
step_takes version (AtArcs primal dual start arcs left) line t fits e = at_arcs_takes version primal dual start arcs left line t fits e
step_takes version (AtSteps a left) line t fits e = at_steps_takes version a left line t fits e
step_takes version (AtHalf p) line t fits e = half_takes version p line t (split_of version line) fits refl e
step_takes version (AtCuts p root cuts left) line t fits e = at_cuts_takes version p root cuts left line t fits e
step_takes version AtWall line t fits e = at_wall_takes version line t e
step_takes version (AtEnd claim) line t fits e = if_takes version (codes "END") line (AtNothing claim) t (lines_read version (AtEnd claim)) e (fits, refl)
step_takes version (AtNothing claim) line t fits e = absurd cc
