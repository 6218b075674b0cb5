-- What is rejected is not accepted, and is rejected at one line and as one kind; and what is not accepted can't escape it.
use Rattle.std.proofs.Common.{◌≡◌, ℕ, ◌+◌, ◌-◌, true, List, [], ◌∷◌, ◌++◌, inl, inr, length, refl, sym, ap, subst, ◌∙◌, append_assoc, arith}
use Rattle.std.proofs.lemmas.List.{append-nil}
use Rattle.st_model.specs.declared.branch.Branch.{Branch}
use Rattle.st_model.specs.declared.split_at.SplitAt.{SplitAt}
use Rattle.st_model.specs.declared.tree.Tree.{Tree}
use Rattle.st_model.specs.Ground.{Ground, ground}
use Rattle.st_model.specs.Network.{Network}
use Rattle.st_model.specs.Branch.{all_trees, avoiding, yes_half, no_half}
use Rattle.cut_packing.specs.ProofTree.{ProofTree, close, split, ClosesIn, IsSplitAtIn, Proves, ProvesIn}
use Rattle.arborescence.specs.DiNetwork.{DiNetwork, di_ground}
use Rattle.arborescence.specs.Problem.{Problem, plain, directed, IsProblem}
use Rattle.lift_back.specs.declared.step.Step.{Step}
use Rattle.lift_back.specs.State.{State, IsState, whole}
use Rattle.lift_back.specs.Steps.{Applies}
use Rattle.lift_back.proofs.Beginning.{whole_state}
use Rattle.log_format.specs.declared.kind.Kind.{Kind}
use Rattle.log_format.specs.declared.kind.Kind.TheVariants.{NotTree, WrongCost, DualAbovePrimal, BadStep, BadSplit, BadPacking, TooLight, BadWall}
use Rattle.log_format.specs.declared.log.Log.{Log}
use Rattle.log_format.specs.declared.log.Claim.{Claim}
use Rattle.log_format.specs.declared.log.Claim.TheVariants.{Found, NoTree}
use Rattle.log_format.specs.declared.proof_line.ProofLine.{ProofLine}
use Rattle.log_format.specs.declared.proof_line.ProofLine.TheVariants.{Split, Close}
use Rattle.log_format.specs.Preorder.{IsOneProof, preorder, are_proofs}
use Rattle.log_format.specs.Text.{IsProved}
use Rattle.log_format.specs.Accepts.{ProvesOfIn, left_over, left_of, ProvesFrom, ProvesAfterIn, AcceptsClaimIn, FailsFirst, IsFirstBad, IsFirstWrong, IsFirstWrongAfter, IsFirstWrongFrom, IsFirstWrongIn, IsFirstWrongOver, RejectsClaimIn, steps_line, proof_line}
use Rattle.log_format.specs.Laws.{RejectedExactlyIn}
use Rattle.log_format.proofs.Alike.{Agree, turned, fits_same, weight_same, split_same, proves_alike, AreAlike, alike-refl, alike-sym, may_take_alike, takes_may, takes_alike}
use Rattle.log_format.proofs.Nexts.{next_of}
use Rattle.log_format.proofs.Preorders.{preorders, one_passes}

-- ---- one check, and the others after it

-- failures of two checks that pass together, and of the others, are one
agree : {C C' O O' : Type 0} (at l l' : ℕ) (is k k' : Kind) → (C → C') → (C' → C) → FailsFirst C at is l k O → FailsFirst C' at is l' k' O' → (O → O' → (l ≡ l') × (k ≡ k')) → (l ≡ l') × (k ≡ k')
agree at l l' is k k' there back (inl a) (inl b) others = (a.1 ∙ sym b.1, a.2 ∙ sym b.2)
agree at l l' is k k' there back (inl a) (inr b) others = absurd (a.0 (back b.0))
agree at l l' is k k' there back (inr a) (inl b) others = absurd (b.0 (there a.0))
agree at l l' is k k' there back (inr a) (inr b) others = others a.1 b.1

-- two failures of one check and the others are one
alone : {C O O' : Type 0} (at l l' : ℕ) (is k k' : Kind) → FailsFirst C at is l k O → FailsFirst C at is l' k' O' → (O → O' → (l ≡ l') × (k ≡ k')) → (l ≡ l') × (k ≡ k')
alone at l l' is k k' a b others = agree at l l' is k k' (λ c. c) (λ c. c) a b others

-- where the checks pass together, one fails as the other does
fails_alike : {C C' O O' : Type 0} (at l : ℕ) (is k : Kind) → (C → C') → (C' → C) → (O → O') → FailsFirst C at is l k O → FailsFirst C' at is l k O'
fails_alike at l is k there back others (inl a) = inl ((λ c. a.0 (back c)), a.1, a.2)
fails_alike at l is k there back others (inr a) = inr (there a.0, others a.1)

-- a check that passes doesn't fail
passes : {C O : Type 0} (at l : ℕ) (is k : Kind) → FailsFirst C at is l k O → C → (O → ⊥) → ⊥
passes at l is k (inl a) c others = a.0 c
passes at l is k (inr a) c others = others a.1

-- ---- lines that are right

-- each line is right, where these branches wait
abbrev pub IsRightIn : Ground → ℕ → List Branch → List ProofLine → Type 0
IsRightIn G x [] [] = Unit {0}
IsRightIn G x [] (line ∷ lines) = ⊥
IsRightIn G x (B ∷ Bs) [] = ⊥
IsRightIn G x (B ∷ Bs) (Split at ∷ lines) = IsSplitAtIn G B at × IsRightIn G x (yes_half B at ∷ no_half B at ∷ Bs) lines
IsRightIn G x (B ∷ Bs) (Close P ∷ lines) = ClosesIn G B x P × IsRightIn G x Bs lines

-- the same in a network
abbrev pub IsRight : Network → ℕ → List Branch → List ProofLine → Type 0
IsRight I x Bs lines = IsRightIn (ground I) x Bs lines

-- the lines of a proof tree that proves x of a branch are right
right_preorder : (G : Ground) (x : ℕ) (p : ProofTree) (B : Branch) (Bs : List Branch) (rest : List ProofLine) → ProvesIn G B x p → IsRightIn G x Bs rest → IsRightIn G x (B ∷ Bs) (preorder p ++ rest)
right_preorder G x (close P) B Bs rest proves right = (proves, right)
right_preorder G x (split at p q) B Bs rest proves right =
    let inner = right_preorder G x q (no_half B at) Bs rest proves.2 right in
    let outer = right_preorder G x p (yes_half B at) (no_half B at ∷ Bs) (preorder q ++ rest) proves.1 inner in
    (proves.0, subst (λ (ls : List ProofLine). IsRightIn G x (yes_half B at ∷ no_half B at ∷ Bs) ls) (sym (append_assoc (preorder p) (preorder q) rest)) outer)

-- each tree proves x of its branch
abbrev AllProve : Ground → ℕ → List Branch → List ProofTree → Type 0
AllProve G x [] [] = Unit {0}
AllProve G x [] (p ∷ ps) = ⊥
AllProve G x (B ∷ Bs) [] = ⊥
AllProve G x (B ∷ Bs) (p ∷ ps) = ProvesIn G B x p × AllProve G x Bs ps

-- proof trees that have these lines
abbrev Trees : Ground → ℕ → List Branch → List ProofLine → Type 0
Trees G x Bs lines = (ps : List ProofTree) × (lines ≡ preorders ps) × AllProve G x Bs ps

-- a split of the first two
with_split : (G : Ground) (x : ℕ) (B : Branch) (Bs : List Branch) (at : SplitAt) (lines : List ProofLine) → IsSplitAtIn G B at → Trees G x (yes_half B at ∷ no_half B at ∷ Bs) lines → Trees G x (B ∷ Bs) (Split at ∷ lines)
with_split G x B Bs at lines is_split ([], e, none) = absurd none
with_split G x B Bs at lines is_split (p ∷ [], e, none) = absurd none.1
with_split G x B Bs at lines is_split (p ∷ q ∷ ps, e, proved) = (split at p q ∷ ps, ap (λ (r : List ProofLine). Split at ∷ r) (e ∙ sym (append_assoc (preorder p) (preorder q) (preorders ps))), ((is_split, proved.0, proved.1.0), proved.1.1))

-- lines that are right are those of proof trees
trees_of : (G : Ground) (x : ℕ) (Bs : List Branch) (lines : List ProofLine) → IsRightIn G x Bs lines → Trees G x Bs lines
trees_of G x [] [] right = ([], refl, tt)
trees_of G x [] (line ∷ lines) none = absurd none
trees_of G x (B ∷ Bs) [] none = absurd none
trees_of G x (B ∷ Bs) (Split at ∷ lines) right = with_split G x B Bs at lines right.0 (trees_of G x (yes_half B at ∷ no_half B at ∷ Bs) lines right.1)
trees_of G x (B ∷ Bs) (Close P ∷ lines) right =
    let others = trees_of G x Bs lines right.1 in
    (close P ∷ others.0, ap (λ (r : List ProofLine). Close P ∷ r) others.1, (right.0, others.2))

-- lines that are right are one proof
proof_of : (G : Ground) (x : ℕ) (B : Branch) (lines : List ProofLine) → Trees G x (B ∷ []) lines → ProvesOfIn G B x lines
proof_of G x B lines ([], e, none) = absurd none
proof_of G x B lines (p ∷ [], e, proved) = (p, e ∙ append-nil (preorder p), proved.0)
proof_of G x B lines (p ∷ q ∷ ps, e, proved) = absurd proved.1

-- lines that are right prove the bound of their branch
pub right_proves : (G : Ground) (x : ℕ) (B : Branch) (lines : List ProofLine) → IsRightIn G x (B ∷ []) lines → ProvesOfIn G B x lines
right_proves G x B lines right = proof_of G x B lines (trees_of G x (B ∷ []) lines right)

-- and what proves it is right
proves_right : (G : Ground) (x : ℕ) (B : Branch) (lines : List ProofLine) → ProvesOfIn G B x lines → IsRightIn G x (B ∷ []) lines
proves_right G x B lines (p, e, proves) = subst (λ (ls : List ProofLine). IsRightIn G x (B ∷ []) ls) (append-nil (preorder p) ∙ sym e) (right_preorder G x p B [] [] proves tt)

-- ---- the first line that is wrong

-- no line is wrong where all are right
none_wrong : (G : Ground) (x : ℕ) (Bs : List Branch) (number : ℕ) (lines : List ProofLine) (l : ℕ) (k : Kind) → IsRightIn G x Bs lines → IsFirstWrongOver G x Bs number lines l k → ⊥
none_wrong G x [] number lines l k right wrong = wrong
none_wrong G x (B ∷ Bs) number [] l k right wrong = wrong
none_wrong G x (B ∷ Bs) number (Split at ∷ lines) l k right wrong = passes number l BadSplit k wrong right.0 (none_wrong G x (yes_half B at ∷ no_half B at ∷ Bs) (number + 1) lines l k right.1)
none_wrong G x (B ∷ Bs) number (Close P ∷ lines) l k right wrong =
    passes number l BadPacking k wrong right.0.fits (λ heavy. passes number l TooLight k heavy right.0.weighs (none_wrong G x Bs (number + 1 + length P.cuts) lines l k right.1))

-- one line is the first that is wrong
one_wrong : (G : Ground) (x : ℕ) (Bs : List Branch) (number : ℕ) (lines : List ProofLine) (l l' : ℕ) (k k' : Kind) → IsFirstWrongOver G x Bs number lines l k → IsFirstWrongOver G x Bs number lines l' k' → (l ≡ l') × (k ≡ k')
one_wrong G x [] number lines l l' k k' a b = absurd a
one_wrong G x (B ∷ Bs) number [] l l' k k' a b = absurd a
one_wrong G x (B ∷ Bs) number (Split at ∷ lines) l l' k k' a b = alone number l l' BadSplit k k' a b (one_wrong G x (yes_half B at ∷ no_half B at ∷ Bs) (number + 1) lines l l' k k')
one_wrong G x (B ∷ Bs) number (Close P ∷ lines) l l' k k' a b =
    alone number l l' BadPacking k k' a b (λ c d. alone number l l' TooLight k k' c d (one_wrong G x Bs (number + 1 + length P.cuts) lines l l' k k'))

-- what is wrong of one of two instances that agree is wrong of the other
wrong_alike : (I J : Network) → Agree I J → (x : ℕ) (Bs : List Branch) (number : ℕ) (lines : List ProofLine) (l : ℕ) (k : Kind) → IsFirstWrong I x Bs number lines l k → IsFirstWrong J x Bs number lines l k
wrong_alike I J same x [] number lines l k wrong = absurd wrong
wrong_alike I J same x (B ∷ Bs) number [] l k wrong = absurd wrong
wrong_alike I J same x (B ∷ Bs) number (Split at ∷ lines) l k wrong =
    fails_alike number l BadSplit k (split_same I J same B at) (split_same J I (turned I J same) B at) (wrong_alike I J same x (yes_half B at ∷ no_half B at ∷ Bs) (number + 1) lines l k) wrong
wrong_alike I J same x (B ∷ Bs) number (Close P ∷ lines) l k wrong =
    let weighs = weight_same I J same B P in
    fails_alike number l BadPacking k (fits_same I J same B P) (fits_same J I (turned I J same) B P) (λ light. fails_alike number l TooLight k (λ heavy. (omega arith)) (λ heavy. (omega arith)) (wrong_alike I J same x Bs (number + 1 + length P.cuts) lines l k) light) wrong

-- where no line of so many proofs is wrong, it can't be that they aren't right
all_right : (G : Ground) (x : ℕ) (Bs : List Branch) (number : ℕ) (lines : List ProofLine) → are_proofs (length Bs) lines ≡ true → ((l : ℕ) (k : Kind) → IsFirstWrongOver G x Bs number lines l k → ⊥) → (IsRightIn G x Bs lines → ⊥) → ⊥
all_right G x [] number [] even none not_right = not_right tt
all_right G x [] number (line ∷ lines) even none not_right = absurd cc
all_right G x (B ∷ Bs) number [] even none not_right = absurd cc
all_right G x (B ∷ Bs) number (Split at ∷ lines) even none not_right =
    none number BadSplit (inl ((λ is_split. all_right G x (yes_half B at ∷ no_half B at ∷ Bs) (number + 1) lines even (λ l k wrong. none l k (inr (is_split, wrong))) (λ right. not_right (is_split, right))), refl, refl))
all_right G x (B ∷ Bs) number (Close P ∷ lines) even none not_right =
    none number BadPacking (inl ((λ fits. none number TooLight (inr (fits, inl ((λ weighs. all_right G x Bs (number + 1 + length P.cuts) lines even (λ l k wrong. none l k (inr (fits, inr (weighs, wrong)))) (λ right. not_right (record { fits = fits; weighs = weighs }, right))), refl, refl)))), refl, refl))

-- ---- the first step that is bad

-- what is proved of one of two states that are alike is proved of the other
proves_in_alike : (s t : State) (x : ℕ) (lines : List ProofLine) → AreAlike s t → ProvesFrom s x lines → ProvesFrom t x lines
proves_in_alike s t x lines alike (p, e, proves) =
    (p, e, subst (λ (y : ℕ). Proves t.instance (left_over t) y p) (ap (λ (offset : ℕ). x - offset) alike.offset) (subst (λ (gone : List ℕ). Proves t.instance (avoiding gone) (left_of x s) p) alike.gone (proves_alike s.instance t.instance alike.instance (left_over s) (left_of x s) p proves)))

-- what is wrong of one of them is wrong of the other
wrong_in_alike : (s t : State) (x number : ℕ) (lines : List ProofLine) (l : ℕ) (k : Kind) → AreAlike s t → IsFirstWrongIn s x number lines l k → IsFirstWrongIn t x number lines l k
wrong_in_alike s t x number lines l k alike wrong =
    subst (λ (y : ℕ). IsFirstWrong t.instance y (left_over t ∷ []) number lines l k) (ap (λ (offset : ℕ). x - offset) alike.offset) (subst (λ (gone : List ℕ). IsFirstWrong t.instance (left_of x s) (avoiding gone ∷ []) number lines l k) alike.gone (wrong_alike s.instance t.instance alike.instance (left_of x s) (left_over s ∷ []) number lines l k wrong))

-- no step is bad where all are taken, and the others fail of a state that is alike
none_bad : (s t last : State) (number : ℕ) (steps : List Step) (l : ℕ) (k : Kind) (O : State → Type 0) → AreAlike s t → IsFirstBad s number steps l k O → Applies steps t last → ((u : State) → AreAlike u last → O u → ⊥) → ⊥
none_bad s t last number [] l k O alike bad same none = none s (subst (AreAlike s) same alike) bad
none_bad s t last number (step ∷ steps) l k O alike bad (next, is_next, takes, later) none =
    passes number l BadStep k bad (may_take_alike step t s (alike-sym s t alike) (takes_may step t next takes)) (λ others.
    let (other, is_other, other_takes, rest) = others in
    none_bad other next last (number + 1) steps l k O (takes_alike step s t other next alike is_other is_next other_takes takes) rest later none)

-- one step is the first that is bad, or the others fail alike
one_bad : (s t : State) (number : ℕ) (steps : List Step) (l l' : ℕ) (k k' : Kind) (O O' : State → Type 0) → AreAlike s t → IsFirstBad s number steps l k O → IsFirstBad t number steps l' k' O' → ((u v : State) → AreAlike u v → O u → O' v → (l ≡ l') × (k ≡ k')) → (l ≡ l') × (k ≡ k')
one_bad s t number [] l l' k k' O O' alike a b others = others s t alike a b
one_bad s t number (step ∷ steps) l l' k k' O O' alike a b others =
    agree number l l' BadStep k k' (may_take_alike step s t alike) (may_take_alike step t s (alike-sym s t alike)) a b (λ c d.
    let (next, is_next, takes, rest) = c in
    let (other, is_other, other_takes, other_rest) = d in
    one_bad next other (number + 1) steps l l' k k' O O' (takes_alike step s t next other alike is_next is_other takes other_takes) rest other_rest others)

-- where no step is bad, it can't be that they lead nowhere
all_taken : (s : State) (number : ℕ) (steps : List Step) (O : ℕ → Kind → State → Type 0) → IsState s → ((l : ℕ) (k : Kind) → IsFirstBad s number steps l k (O l k) → ⊥) → ((last : State) → Applies steps s last → ((l : ℕ) (k : Kind) → O l k last → ⊥) → ⊥) → ⊥
all_taken s number [] O state none goes_on = goes_on s refl none
all_taken s number (step ∷ steps) O state none goes_on =
    none number BadStep (inl (
      (λ may.
          let (next, is_next, takes) = next_of step s state may in
          all_taken next (number + 1) steps O is_next (λ l k bad. none l k (inr (may, (next, is_next, takes, bad)))) (λ last later. goes_on last (next, is_next, takes, later))),
      refl,
      refl,
    ))

-- ---- proofs of directed problems

-- a proof that is right has no wrong step and no wrong line
none_after : (D : DiNetwork) (dual : ℕ) (tree : Tree) (steps : List Step) (proof : List ProofLine) (l : ℕ) (k : Kind) → (steps ≡ []) × ProvesOfIn (di_ground D) all_trees dual proof → IsFirstWrongFrom D dual tree steps proof l k → ⊥
none_after D dual tree [] proof l k proved wrong = none_wrong (di_ground D) dual (all_trees ∷ []) (proof_line tree []) proof l k (proves_right (di_ground D) dual all_trees proof proved.1) wrong
none_after D dual tree (step ∷ steps) proof l k proved wrong = absurd cc

-- one step or line is the first that is wrong
one_after : (D : DiNetwork) (dual : ℕ) (tree : Tree) (steps : List Step) (proof : List ProofLine) (l l' : ℕ) (k k' : Kind) → IsFirstWrongFrom D dual tree steps proof l k → IsFirstWrongFrom D dual tree steps proof l' k' → (l ≡ l') × (k ≡ k')
one_after D dual tree [] proof l l' k k' a b = one_wrong (di_ground D) dual (all_trees ∷ []) (proof_line tree []) proof l l' k k' a b
one_after D dual tree (step ∷ steps) proof l l' k k' a b = (a.0 ∙ sym b.0, a.1 ∙ sym b.1)

-- where none is wrong, it can't be that the proof isn't right
right_after : (D : DiNetwork) (dual : ℕ) (tree : Tree) (steps : List Step) (proof : List ProofLine) → IsOneProof proof → ((l : ℕ) (k : Kind) → IsFirstWrongFrom D dual tree steps proof l k → ⊥) → ((steps ≡ []) × ProvesOfIn (di_ground D) all_trees dual proof → ⊥) → ⊥
right_after D dual tree [] proof one none not_right =
    all_right (di_ground D) dual (all_trees ∷ []) (proof_line tree []) proof (one_passes proof one) none (λ lines. not_right (refl, right_proves (di_ground D) dual all_trees proof lines))
right_after D dual tree (step ∷ steps) proof one none not_right = none (steps_line tree) BadStep (refl, refl)

-- ---- proofs of problems

-- a proof that is right has no wrong step and no wrong line
proved_right : (p : Problem) (dual : ℕ) (tree : Tree) (steps : List Step) (proof : List ProofLine) (l : ℕ) (k : Kind) → ProvesAfterIn p steps dual proof → IsFirstWrongAfter p dual tree steps proof l k → ⊥
proved_right (plain I) dual tree steps proof l k (s, applies, proves) wrong =
    none_bad (whole I) (whole I) s (steps_line tree) steps l k _ (alike-refl (whole I)) wrong applies (λ u alike bad.
    none_wrong (ground u.instance) (left_of dual u) (left_over u ∷ []) (proof_line tree steps) proof l k (proves_right (ground u.instance) (left_of dual u) (left_over u) proof (proves_in_alike s u dual proof (alike-sym u s alike) proves)) bad)
proved_right (directed D) dual tree steps proof l k proved wrong = none_after D dual tree steps proof l k proved wrong

-- one step or line is the first that is wrong
wrong_once : (p : Problem) (dual : ℕ) (tree : Tree) (steps : List Step) (proof : List ProofLine) (l l' : ℕ) (k k' : Kind) → IsFirstWrongAfter p dual tree steps proof l k → IsFirstWrongAfter p dual tree steps proof l' k' → (l ≡ l') × (k ≡ k')
wrong_once (plain I) dual tree steps proof l l' k k' a b =
    one_bad (whole I) (whole I) (steps_line tree) steps l l' k k' _ _ (alike-refl (whole I)) a b (λ u v alike wrong other.
    one_wrong (ground v.instance) (left_of dual v) (left_over v ∷ []) (proof_line tree steps) proof l l' k k' (wrong_in_alike u v dual (proof_line tree steps) proof l k alike wrong) other)
wrong_once (directed D) dual tree steps proof l l' k k' a b = one_after D dual tree steps proof l l' k k' a b

-- where none is wrong, it can't be that the proof isn't right
right_or_wrong : (p : Problem) (dual : ℕ) (tree : Tree) (steps : List Step) (proof : List ProofLine) → IsProblem p → IsOneProof proof → ((l : ℕ) (k : Kind) → IsFirstWrongAfter p dual tree steps proof l k → ⊥) → (ProvesAfterIn p steps dual proof → ⊥) → ⊥
right_or_wrong (plain I) dual tree steps proof instance one none not_right =
    all_taken (whole I) (steps_line tree) steps (λ l k s. IsFirstWrongIn s dual (proof_line tree steps) proof l k) (whole_state I instance) none (λ s applies right.
    all_right (ground s.instance) (left_of dual s) (left_over s ∷ []) (proof_line tree steps) proof (one_passes proof one) right (λ lines.
    not_right (s, applies, right_proves (ground s.instance) (left_of dual s) (left_over s) proof lines)))
right_or_wrong (directed D) dual tree steps proof instance one none not_right = right_after D dual tree steps proof one none not_right

-- ---- claims

-- what is accepted isn't rejected
not_both : (p : Problem) (claim : Claim) → AcceptsClaimIn p claim → (l : ℕ) (k : Kind) → RejectsClaimIn p claim l k → ⊥
not_both p (Found primal dual tree steps proof) accepts l k rejects =
    passes 3 l NotTree k rejects accepts.is_tree (λ a. passes 2 l WrongCost k a accepts.is_cost (λ b. passes 2 l DualAbovePrimal k b accepts.is_below (λ wrong.
    proved_right p dual tree steps proof l k accepts.is_proved wrong)))
not_both p (NoTree wall) accepts l k rejects = passes 3 l BadWall k rejects accepts (λ none. none)

-- what is rejected is rejected once
once : (p : Problem) (claim : Claim) (l l' : ℕ) (k k' : Kind) → RejectsClaimIn p claim l k → RejectsClaimIn p claim l' k' → (l ≡ l') × (k ≡ k')
once p (Found primal dual tree steps proof) l l' k k' a b =
    alone 3 l l' NotTree k k' a b (λ c d. alone 2 l l' WrongCost k k' c d (λ e f. alone 2 l l' DualAbovePrimal k k' e f (wrong_once p dual tree steps proof l l' k k')))
once p (NoTree wall) l l' k k' a b = alone 3 l l' BadWall k k' a b (λ none other. absurd none)

-- what isn't accepted of a problem can't go without being rejected
no_escape : (p : Problem) (claim : Claim) → IsProblem p → IsProved claim → (AcceptsClaimIn p claim → ⊥) → ((l : ℕ) (k : Kind) → RejectsClaimIn p claim l k → ⊥) → ⊥
no_escape p (Found primal dual tree steps proof) instance one not_accepted none =
    none 3 NotTree (inl (
      (λ is_tree. none 2 WrongCost (inr (
        is_tree,
        inl (
          (λ is_cost. none 2 DualAbovePrimal (inr (
            is_tree,
            inr (
              is_cost,
              inl (
                (λ is_below.
                    right_or_wrong p dual tree steps proof instance one (λ l k wrong. none l k (inr (is_tree, inr (is_cost, inr (is_below, wrong))))) (λ proved.
                    not_accepted (record { is_tree = is_tree; is_cost = is_cost; is_below = is_below; is_proved = proved }))),
                refl,
                refl,
              ),
            ),
          ))),
          refl,
          refl,
        ),
      ))),
      refl,
      refl,
    ))
no_escape p (NoTree wall) instance one not_accepted none = none 3 BadWall (inl (not_accepted, refl, refl))

pub rejected_of_a_problem_exactly_lem : (p : Problem) (log : Log) → RejectedExactlyIn p log
rejected_of_a_problem_exactly_lem p log = record {
  not_accepted = λ l k rejects accepts. not_both p log.claim accepts l k rejects;
  one_fault = once p log.claim;
  no_escape = λ instance fits not_accepted none. no_escape p log.claim instance fits.one_proof not_accepted none;
}
