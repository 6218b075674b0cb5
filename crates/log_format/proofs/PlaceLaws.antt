-- Reading over what may follow alone goes as reading with all that was said does.
use Rattle.std.proofs.Common.{◌≡◌, ℕ, zero, suc, ◌+◌, ◌-◌, Bool, true, false, cond, eqb, inl, inr, List, [], ◌∷◌, ◌++◌, Option, Some, None, refl, sym, ap, subst, ◌∙◌, arith}
use Rattle.std.specs.Prelude.{codes}
use Rattle.std.specs.Str.{bytes_eq}
use Rattle.std.proofs.lemmas.Option.{cond_some}
use Rattle.plain_text.specs.Steps.{◌>>=◌}
use Rattle.plain_text.proofs.Steps.{step_some, chosen}
use Rattle.st_model.specs.declared.split_at.SplitAt.{SplitAt}
use Rattle.cut_packing.specs.declared.cut.Cut.{Cut}
use Rattle.lift_back.specs.declared.step.Step.{Step}
use Rattle.log_format.specs.declared.item.Item.{Item}
use Rattle.log_format.specs.declared.item.Item.TheVariants.{Header, ClaimTree, ClaimNone, Wall, TreeHead, Arc, StepsHead, OneStep, ProofHead, Split as OneSplit, CloseHead, OneCut, Last}
use Rattle.log_format.specs.declared.log.Version.{Version}
use Rattle.log_format.specs.declared.log.Claim.{Claim}
use Rattle.log_format.specs.declared.log.Claim.TheVariants.{NoTree}
use Rattle.log_format.specs.declared.place.Place.{Place}
use Rattle.log_format.specs.declared.place.Place.TheVariants.{BeforeHeader, BeforeClaim, BeforeTree, AmongArcs, AmongSteps, BeforeHalf, AmongCuts, BeforeWall, BeforeEnd, AfterEnd}
use Rattle.log_format.specs.declared.proof_line.ProofLine.{ProofLine}
use Rattle.log_format.specs.declared.proof_line.ProofLine.TheVariants.{Close}
use Rattle.log_format.specs.declared.stage.Answer.{Answer}
use Rattle.log_format.specs.declared.stage.Proving.{Proving}
use Rattle.log_format.specs.declared.stage.Stage.{Stage}
use Rattle.log_format.specs.declared.stage.Stage.TheVariants.{AtHeader, AtClaim, AtTree, AtArcs, AtSteps, AtHalf, AtCuts, AtWall, AtEnd, AtNothing}
use Rattle.log_format.specs.Text.{words, header, AreWhole, Begins}
use Rattle.log_format.specs.Items.{item_line, IsItem}
use Rattle.log_format.specs.Reading.{number_of, pair_of, cut_of, wall_of, step_of, split_of, most, stage_if, root_of, closed, cuts_left, half_at, no_step_yet, with_step, version_with, at_header, step}
use Rattle.log_format.specs.Reached.{IsReached}
use Rattle.log_format.specs.Places.{said_if, after_cuts, half_said, said, place_of, taken, before_header, IsPlace, IsAfter}
use Rattle.log_format.proofs.LineLaws.{bytes_are, number_of_judges, pair_judges, cut_judges, wall_judges}
use Rattle.log_format.proofs.StepLaws.{step_judges}
use Rattle.log_format.proofs.SplitLaws.{split_judges, any_split}
use Rattle.log_format.proofs.StageLaws.{root_number-of, root_fits}
use Rattle.log_format.proofs.Sets.{set_from, cut_from}
use Rattle.log_format.proofs.Finishing.{next_version, read_none, read_next, read_begins, refused_stops, is_whole, whole_is_read}

-- ---- steps and items

-- both refuse, or the stage takes the item and stands where it says
abbrev Agrees : Stage → Option Stage → Option (Item × Place) → Type 0
Agrees s None None = Unit {0}
Agrees s (Some t) (Some x) = (t ≡ taken s x.0) × (place_of t ≡ x.1)
Agrees s (Some t) None = ⊥
Agrees s None (Some x) = ⊥

-- by what is found of the line
by_part : {X : Type 0} (s : Stage) (o : Option X) (f : X → Stage) (g : X → Item × Place) → ((x : X) → (f x ≡ taken s (g x).0) × (place_of (f x) ≡ (g x).1)) → Agrees s (o >>= λ x. Some (f x)) (o >>= λ x. Some (g x))
by_part s None f g same = tt
by_part s (Some x) f g same = same x

-- by a test of the line
by_test : (s : Stage) (b : Bool) (o o' : Option Stage) (p p' : Option (Item × Place)) → Agrees s o p → Agrees s o' p' → Agrees s (cond b o o') (cond b p p')
by_test s true o o' p p' h h' = h
by_test s false o o' p p' h h' = h'

-- where a half is closed
closed_place : (a : Answer) (lines : List ProofLine) (w : ℕ) → place_of (closed a lines w) ≡ after_cuts 0 w
closed_place a lines zero = refl
closed_place a lines (suc w) = refl

cuts_place : (p : Proving) (root : Option ℕ) (cuts : List Cut) (left : ℕ) → place_of (cuts_left p root cuts left) ≡ after_cuts left p.waiting
cuts_place p root cuts zero = closed_place p.answer (p.lines ++ Close (record { root = root; cuts = cuts }) ∷ []) p.waiting
cuts_place p root cuts (suc left) = refl

half_agrees : (p : Proving) (found : Option SplitAt) (line : List ℕ) → Agrees (AtHalf p) (half_at p found line) (half_said found line p.waiting)
half_agrees p (Some at) line = (refl, refl)
half_agrees p None line = by_part (AtHalf p) (pair_of (codes "C") 0 1000000 0 most line) (λ head. cuts_left p (root_of head.0) [] head.1) (λ head. (CloseHead (root_of head.0) head.1, after_cuts head.1 p.waiting)) (λ head. (refl, cuts_place p (root_of head.0) [] head.1))

-- by a line that is wanted
by_line : (s : Stage) (wanted line : List ℕ) (t : Stage) (item : Item) (next : Place) → t ≡ taken s item → place_of t ≡ next → Agrees s (stage_if wanted line t) (said_if wanted line item next)
by_line s wanted line t item next takes stands = by_test s (bytes_eq line wanted) (Some t) None (Some (item, next)) None (takes, stands) tt

claim_agrees : (version : Version) (line : List ℕ) → Agrees AtClaim (step version AtClaim line) (said version BeforeClaim line)
unfolding step said
claim_agrees version line =
    let pair : Option (ℕ × ℕ) = pair_of (codes "CLAIM TREE") 0 most 0 most line in
    let f : ℕ × ℕ → Stage = λ b. AtTree b.0 b.1 in
    let g : ℕ × ℕ → Item × Place = λ b. (ClaimTree b.0 b.1, BeforeTree) in
    by_test AtClaim (bytes_eq line (codes "CLAIM NONE")) (Some AtWall) (pair >>= λ b. Some (f b)) (Some (ClaimNone, BeforeWall)) (pair >>= λ b. Some (g b)) (refl, refl) (by_part AtClaim pair f g (λ b. (refl, refl)))

arcs_agree : (version : Version) (primal dual start : ℕ) (arcs : List (ℕ × ℕ)) (left : ℕ) (line : List ℕ) → Agrees (AtArcs primal dual start arcs left) (step version (AtArcs primal dual start arcs left) line) (said version (AmongArcs left) line)
unfolding step said
arcs_agree version primal dual start arcs left line =
    let s : Stage = AtArcs primal dual start arcs left in
    let number : Option ℕ = number_of (codes "STEPS") 0 most line in
    let pair : Option (ℕ × ℕ) = pair_of (codes "A") 1 1000000 1 1000000 line in
    let f : ℕ → Stage = λ count. AtSteps (no_step_yet primal dual start arcs) count in
    let g : ℕ → Item × Place = λ count. (StepsHead count, AmongSteps count) in
    let f' : ℕ × ℕ → Stage = λ arc. AtArcs primal dual start (arcs ++ arc ∷ []) (left - 1) in
    let g' : ℕ × ℕ → Item × Place = λ arc. (Arc arc.0 arc.1, AmongArcs (left - 1)) in
    by_test s (eqb left 0) (number >>= λ n. Some (f n)) (pair >>= λ arc. Some (f' arc)) (number >>= λ n. Some (g n)) (pair >>= λ arc. Some (g' arc)) (by_part s number f g (λ n. (refl, refl))) (by_part s pair f' g' (λ arc. (refl, refl)))

steps_agree : (version : Version) (a : Answer) (left : ℕ) (line : List ℕ) → Agrees (AtSteps a left) (step version (AtSteps a left) line) (said version (AmongSteps left) line)
unfolding step said
steps_agree version a left line =
    let s : Stage = AtSteps a left in
    let begun : Stage = AtHalf (record { answer = a; lines = []; waiting = 0 }) in
    let f : Step → Stage = λ one. AtSteps (with_step a one) (left - 1) in
    let g : Step → Item × Place = λ one. (OneStep one, AmongSteps (left - 1)) in
    by_test s (eqb left 0) (stage_if (codes "PROOF") line begun) (step_of line >>= λ one. Some (f one)) (said_if (codes "PROOF") line ProofHead (BeforeHalf 0)) (step_of line >>= λ one. Some (g one))
    (by_line s (codes "PROOF") line begun ProofHead (BeforeHalf 0) refl refl) (by_part s (step_of line) f g (λ one. (refl, refl)))

step_agrees : (version : Version) (s : Stage) (line : List ℕ) → Agrees s (step version s line) (said version (place_of s) line)
unfolding step said
step_agrees version AtHeader line = by_line AtHeader (header version) line AtClaim (Header version) BeforeClaim refl refl
step_agrees version AtClaim line = claim_agrees version line
step_agrees version (AtTree primal dual) line = by_part (AtTree primal dual) (pair_of (codes "TREE") 1 1000000 0 most line) (λ t. AtArcs primal dual t.0 [] t.1) (λ t. (TreeHead t.0 t.1, AmongArcs t.1)) (λ t. (refl, refl))
step_agrees version (AtArcs primal dual start arcs left) line = arcs_agree version primal dual start arcs left line
step_agrees version (AtSteps a left) line = steps_agree version a left line
step_agrees version (AtHalf p) line = half_agrees p (split_of version line) line
step_agrees version (AtCuts p root cuts left) line = by_part (AtCuts p root cuts left) (cut_of line) (λ c. cuts_left p root (cuts ++ c ∷ []) (left - 1)) (λ c. (OneCut c, after_cuts (left - 1) p.waiting)) (λ c. (refl, cuts_place p root (cuts ++ c ∷ []) (left - 1)))
step_agrees version AtWall line = by_part AtWall (wall_of line) (λ wall. AtEnd (NoTree wall)) (λ wall. (Wall wall, BeforeEnd)) (λ wall. (refl, refl))
step_agrees version (AtEnd claim) line = by_line (AtEnd claim) (codes "END") line (AtNothing claim) Last AfterEnd refl refl
step_agrees version (AtNothing claim) line = tt

-- a step reads the item of the line, and takes it
pub step_said : (version : Version) (s : Stage) (line : List ℕ) → step version s line ≡ (said version (place_of s) line >>= λ x. Some (taken s x.0))
step_said version s line = agreed (step version s line) (said version (place_of s) line) (step_agrees version s line)
  where
    agreed : (o : Option Stage) (p : Option (Item × Place)) → Agrees s o p → o ≡ (p >>= λ x. Some (taken s x.0))
    agreed None None h = refl
    agreed (Some t) (Some x) h = ap (λ (u : Stage). Some u) h.0
    agreed (Some t) None h = absurd h
    agreed None (Some x) h = absurd h

-- an item that was read is taken, and leads where it says
pub takes_said : (version : Version) (s : Stage) (line : List ℕ) (x : Item × Place) → said version (place_of s) line ≡ Some x → (t : Stage) × (step version s line ≡ Some t) × (place_of t ≡ x.1)
takes_said version s line x e = agreed (step version s line) (said version (place_of s) line) (step_agrees version s line) e
  where
    agreed : (o : Option Stage) (p : Option (Item × Place)) → Agrees s o p → p ≡ Some x → (t : Stage) × (o ≡ Some t) × (place_of t ≡ x.1)
    agreed None None h is = absurd cc
    agreed (Some t) (Some y) h is = let same : y ≡ x = cc in (t, refl, h.1 ∙ ap (λ (z : Item × Place). z.1) same)
    agreed (Some t) None h is = absurd h
    agreed None (Some y) h is = absurd h

-- ---- what an item says

-- the line is the spelling of the item, and that can be written
abbrev IsSaid : List ℕ → Item × Place → Type 0
IsSaid line x = IsItem x.0 × (line ≡ item_line x.0)

part_said : {X : Type 0} (line : List ℕ) (o : Option X) (g : X → Item × Place) (y : Item × Place) → ((x : X) → o ≡ Some x → IsSaid line (g x)) → (o >>= λ x. Some (g x)) ≡ Some y → IsSaid line y
part_said line o g y is e =
    let a = step_some o (λ x. Some (g x)) y e in
    let same : g a.0 ≡ y = cc in
    subst (λ (z : Item × Place). IsSaid line z) same (is a.0 a.1)

one_said : (wanted line : List ℕ) (item : Item) (next : Place) (y : Item × Place) → IsItem item → wanted ≡ item_line item → said_if wanted line item next ≡ Some y → IsSaid line y
one_said wanted line item next y fits spelled e =
    let x : Item × Place = (item, next) in
    let g = cond_some (bytes_eq line wanted) x y e in
    subst (λ (z : Item × Place). IsSaid line z) g.1 (fits, bytes_are line wanted g.0 ∙ spelled)

half_takes : (version : Version) (line : List ℕ) (waiting : ℕ) (y : Item × Place) (found : Option SplitAt) → split_of version line ≡ found → half_said found line waiting ≡ Some y → IsSaid line y
half_takes version line waiting y (Some at) found e =
    let x : Item × Place = (OneSplit at, BeforeHalf (waiting + 1)) in
    let same : x ≡ y = cc in
    let j = (split_judges version).takes line at found in
    subst (λ (z : Item × Place). IsSaid line z) same (any_split version at j.0, j.1)
half_takes version line waiting y None found e = part_said line (pair_of (codes "C") 0 1000000 0 most line) (λ head. (CloseHead (root_of head.0) head.1, after_cuts head.1 waiting)) y (λ head is.
    let j = (pair_judges (codes "C") 0 1000000 0 most (omega arith) (omega arith)).takes line head is in
    ((root_fits head.0 j.0.0.1, omega (arith, j.0.1)), j.1 ∙ ap (λ (k : ℕ). words (codes "C") (k ∷ head.1 ∷ [])) (sym (root_number-of head.0)))) e

claim_takes : (version : Version) (line : List ℕ) (y : Item × Place) → said version BeforeClaim line ≡ Some y → IsSaid line y
unfolding said
claim_takes version line y e =
    let none : Item × Place = (ClaimNone, BeforeWall) in
    elim (chosen (bytes_eq line (codes "CLAIM NONE")) (Some none) (pair_of (codes "CLAIM TREE") 0 most 0 most line >>= λ b. Some (ClaimTree b.0 b.1, BeforeTree)) (Some y) e) [
      | inl h ↦
          let same : none ≡ y = cc in
          subst (λ (z : Item × Place). IsSaid line z) same (tt, bytes_are line (codes "CLAIM NONE") h.0)
      | inr h ↦ part_said line (pair_of (codes "CLAIM TREE") 0 most 0 most line) (λ b. (ClaimTree b.0 b.1, BeforeTree)) y (λ b is.
          let j = (pair_judges (codes "CLAIM TREE") 0 most 0 most (omega arith) (omega arith)).takes line b is in
          ((omega (arith, j.0.0), omega (arith, j.0.1)), j.1)) h.1
    ]

arcs_take : (version : Version) (left : ℕ) (line : List ℕ) (y : Item × Place) → said version (AmongArcs left) line ≡ Some y → IsSaid line y
unfolding said
arcs_take version left line y e =
    let by_count : Option (Item × Place) = number_of (codes "STEPS") 0 most line >>= λ count. Some (StepsHead count, AmongSteps count) in
    let by_arc : Option (Item × Place) = pair_of (codes "A") 1 1000000 1 1000000 line >>= λ arc. Some (Arc arc.0 arc.1, AmongArcs (left - 1)) in
    elim (chosen (eqb left 0) by_count by_arc (Some y) e) [
      | inl h ↦ part_said line (number_of (codes "STEPS") 0 most line) (λ count. (StepsHead count, AmongSteps count)) y (λ count is.
          let j = (number_of_judges (codes "STEPS") 0 most (omega arith)).takes line count is in
          (omega (arith, j.0), j.1)) h.1
      | inr h ↦ part_said line (pair_of (codes "A") 1 1000000 1 1000000 line) (λ arc. (Arc arc.0 arc.1, AmongArcs (left - 1))) y (λ arc is.
          (pair_judges (codes "A") 1 1000000 1 1000000 (omega arith) (omega arith)).takes line arc is) h.1
    ]

steps_take : (version : Version) (left : ℕ) (line : List ℕ) (y : Item × Place) → said version (AmongSteps left) line ≡ Some y → IsSaid line y
unfolding said
steps_take version left line y e =
    let by_step : Option (Item × Place) = step_of line >>= λ s. Some (OneStep s, AmongSteps (left - 1)) in
    elim (chosen (eqb left 0) (said_if (codes "PROOF") line ProofHead (BeforeHalf 0)) by_step (Some y) e) [
      | inl h ↦ one_said (codes "PROOF") line ProofHead (BeforeHalf 0) y tt refl h.1
      | inr h ↦ part_said line (step_of line) (λ s. (OneStep s, AmongSteps (left - 1))) y (λ s is. step_judges.takes line s is) h.1
    ]

-- an item that was read can be written, and the line is its spelling
pub said_takes : (version : Version) (place : Place) (line : List ℕ) (y : Item × Place) → said version place line ≡ Some y → IsSaid line y
unfolding said
said_takes version BeforeHeader line y e = one_said (header version) line (Header version) BeforeClaim y tt refl e
said_takes version BeforeClaim line y e = claim_takes version line y e
said_takes version BeforeTree line y e = part_said line (pair_of (codes "TREE") 1 1000000 0 most line) (λ t. (TreeHead t.0 t.1, AmongArcs t.1)) y (λ t is.
    let j = (pair_judges (codes "TREE") 1 1000000 0 most (omega arith) (omega arith)).takes line t is in
    ((j.0.0, omega (arith, j.0.1)), j.1)) e
said_takes version (AmongArcs left) line y e = arcs_take version left line y e
said_takes version (AmongSteps left) line y e = steps_take version left line y e
said_takes version (BeforeHalf waiting) line y e = half_takes version line waiting y (split_of version line) refl e
said_takes version (AmongCuts left waiting) line y e = part_said line (cut_of line) (λ c. (OneCut c, after_cuts (left - 1) waiting)) y (λ c is.
    let j = cut_judges.takes line c is in
    (cut_from c j.0, j.1)) e
said_takes version BeforeWall line y e = part_said line (wall_of line) (λ wall. (Wall wall, BeforeEnd)) y (λ wall is.
    let j = wall_judges.takes line wall is in
    (set_from wall j.0, j.1)) e
said_takes version BeforeEnd line y e = one_said (codes "END") line Last AfterEnd y tt refl e
said_takes version AfterEnd line y e = absurd cc

-- ---- what lines lead to

-- no line leads before the header
pub after_none : (version : Version) → IsAfter [] version BeforeHeader
after_none version = record { stage = AtHeader; read = read_none version; are = refl; stands = refl }

-- the places tell whether a line was read
same_first : (s : Stage) → before_header (place_of s) ≡ at_header s
same_first AtHeader = refl
same_first AtClaim = refl
same_first (AtTree primal dual) = refl
same_first (AtArcs primal dual start arcs left) = refl
same_first (AtSteps a left) = refl
same_first (AtHalf p) = refl
same_first (AtCuts p root cuts left) = refl
same_first AtWall = refl
same_first (AtEnd claim) = refl
same_first (AtNothing claim) = refl

-- the version that a line says, by the stage
by_place : (lines : List (List ℕ)) (version next : Version) (place : Place) (line : List ℕ) (after : IsAfter lines version place) → next ≡ version_with version (before_header place) line → next ≡ next_version version after.stage line
by_place lines version next place line after is = is ∙ ap (λ (b : Bool). version_with version b line) (ap before_header (sym after.stands) ∙ same_first after.stage)

-- one more line that was read
pub after_more : (lines : List (List ℕ)) (version next : Version) (place : Place) (line : List ℕ) (y : Item × Place) → next ≡ version_with version (before_header place) line → IsAfter lines version place → said next place line ≡ Some y → IsAfter (lines ++ line ∷ []) next y.1
after_more lines version next place line y is after e =
    let here : said next (place_of after.stage) line ≡ Some y = ap (λ (p : Place). said next p line) after.stands ∙ e in
    let t = takes_said next after.stage line y here in
    let more = read_next version next after.stage t.0 line (by_place lines version next place line after is) after.read t.1 in
    record { stage = t.0; read = more.0; are = more.1 ∙ ap (λ (r : List (List ℕ)). r ++ line ∷ []) after.are; stands = t.2 }

-- some log begins with the lines
pub after_begins : (lines : List (List ℕ)) (version : Version) (place : Place) → IsAfter lines version place → Begins lines
after_begins lines version place after = subst Begins after.are (read_begins version after.stage after.read)

-- and none with a line more that is refused
pub after_stops : (lines : List (List ℕ)) (version next : Version) (place : Place) (line : List ℕ) → next ≡ version_with version (before_header place) line → IsAfter lines version place → said next place line ≡ None → Begins (lines ++ line ∷ []) → ⊥
after_stops lines version next place line is after none begins =
    let here : said next (place_of after.stage) line ≡ None = ap (λ (p : Place). said next p line) after.stands ∙ none in
    let refused : step next after.stage line ≡ None = step_said next after.stage line ∙ ap (λ (o : Option (Item × Place)). o >>= λ x. Some (taken after.stage x.0)) here in
    refused_stops version next after.stage line (by_place lines version next place line after is) after.read refused (subst (λ (r : List (List ℕ)). Begins (r ++ line ∷ [])) (sym after.are) begins)

-- only a claim that was read to its end stands after the end
at_nothing : (s : Stage) → place_of s ≡ AfterEnd → (claim : Claim) × (s ≡ AtNothing claim)
at_nothing AtHeader e = absurd cc
at_nothing AtClaim e = absurd cc
at_nothing (AtTree primal dual) e = absurd cc
at_nothing (AtArcs primal dual start arcs left) e = absurd cc
at_nothing (AtSteps a left) e = absurd cc
at_nothing (AtHalf p) e = absurd cc
at_nothing (AtCuts p root cuts left) e = absurd cc
at_nothing AtWall e = absurd cc
at_nothing (AtEnd claim) e = absurd cc
at_nothing (AtNothing claim) e = (claim, refl)

-- after the end the lines are all of a log
pub after_end : (lines : List (List ℕ)) (version : Version) (place : Place) → place ≡ AfterEnd → IsAfter lines version place → AreWhole lines
after_end lines version place end after =
    let n = at_nothing after.stage (after.stands ∙ end) in
    subst AreWhole after.are (is_whole version after.stage n.0 n.1 after.read)

-- and nowhere else
pub end_after : (lines : List (List ℕ)) (version : Version) (place : Place) → IsAfter lines version place → AreWhole lines → place ≡ AfterEnd
end_after lines version place after (log, fits, same) = sym after.stands ∙ ap place_of (whole_is_read version after.stage log after.read fits (same ∙ sym after.are))

-- ---- cuts

is_place : (version : Version) (s : Stage) → IsReached version s → IsPlace (place_of s)
is_place version AtHeader fits = tt
is_place version AtClaim fits = tt
is_place version (AtTree primal dual) fits = tt
is_place version (AtArcs primal dual start arcs left) fits = tt
is_place version (AtSteps a left) fits = tt
is_place version (AtHalf p) fits = tt
is_place version (AtCuts p root cuts left) fits = fits.some_left
is_place version AtWall fits = tt
is_place version (AtEnd claim) fits = tt
is_place version (AtNothing claim) fits = tt

-- where cuts stand some is left
pub after_is_place : (lines : List (List ℕ)) (version : Version) (place : Place) → IsAfter lines version place → IsPlace place
after_is_place lines version place after = subst IsPlace after.stands (is_place version after.stage after.read.reached)
