-- A walk over the lines of a proof tree of the first branch that is open: it ends at the next one, and meets what the tree's closes weigh.
use Rattle.std.proofs.Common.{◌≡◌, ℕ, suc, ◌+◌, ◌<◌, ◌≤◌, drop, length, get_or, min, List, ◌∷◌, ◌++◌, Option, Some, None, refl, sym, ap, ◌∙◌, subst, append_assoc, add-one, drop-cons, arith}
use Rattle.std.specs.Option.{option_map}
use Rattle.std.proofs.lemmas.List.{drop_all}
use Rattle.st_model.specs.declared.branch.Branch.{Branch}
use Rattle.st_model.specs.declared.split_at.SplitAt.{SplitAt}
use Rattle.st_model.specs.Network.{Network}
use Rattle.st_model.specs.Branch.{IsBranch, yes_half, no_half}
use Rattle.cut_packing.specs.ProofTree.{IsSplitAt, ProofTree, Proves, close, split}
use Rattle.log_format.specs.declared.proof_line.ProofLine.{ProofLine}
use Rattle.log_format.specs.declared.proof_line.ProofLine.TheVariants as line
use Rattle.log_format.specs.Preorder.{preorder}
use Rattle.search_core.specs.ReadOff.{least_weight}
use Rattle.cert_checker.specs.declared.turn.Turn.{Turn}
use Rattle.cert_checker.specs.Path.{branch_of, next_path, yes_path}
use Rattle.cert_checker.proofs.Branches.{branch_of-branch}
use Rattle.cert_checker.proofs.Paths.{branch_of-yes_path}
use Rattle.log_resume.specs.Open.{IsOpened, Opened}
use Rattle.log_resume.specs.Growing.{MayPass, MayWalk, least_after, passed, walked}
use Rattle.log_resume.proofs.Walks.{branch_of-no_path, next-no_path, next-yes_path, no_path}

pub min_assoc : (a b c : ℕ) → min (min a b) c ≡ min a (min b c)
min_assoc a b c = omega arith

-- the path and the least weight after a whole tree
pub walked-tree : (I : Network) (path : List Turn) (top : ℕ) (q : ProofTree) (rest : List ProofLine)
    → walked I (Some path) top (preorder q ++ rest) ≡ walked I (next_path path) (min top (least_weight I (branch_of path) q)) rest
walked-tree I path top (close P) rest = refl
walked-tree I path top (split at a b) rest =
    let inner : ℕ = least_weight I (yes_half (branch_of path) at) a in
    let outer : ℕ = least_weight I (no_half (branch_of path) at) b in
    ap (walked I (Some (yes_path path at)) top) (append_assoc (preorder a) (preorder b) rest)
    ∙ (walked-tree I (yes_path path at) top a (preorder b ++ rest)
    ∙ ((λ i. walked I (next-yes_path path at i) (min top (least_weight I (branch_of-yes_path path at i) a)) (preorder b ++ rest))
    ∙ (walked-tree I (no_path path at) (min top inner) b rest
    ∙ ((λ i. walked I (next-no_path path at i) (min (min top inner) (least_weight I (branch_of-no_path path at i) b)) rest)
    ∙ ap (λ (n : ℕ). walked I (next_path path) n rest) (min_assoc top inner outer)))))

-- a tree that proves something may be walked over
pub may_walk-tree : (I : Network) (path : List Turn) (x : ℕ) (q : ProofTree) (rest : List ProofLine)
    → Proves I (branch_of path) x q → MayWalk I (next_path path) rest → MayWalk I (Some path) (preorder q ++ rest)
may_walk-tree I path x (close P) rest proves later = (tt, later)
may_walk-tree I path x (split at a b) rest proves later =
    let outer : MayWalk I (Some (no_path path at)) (preorder b ++ rest) =
    may_walk-tree I (no_path path at) x b rest (subst (λ (B : Branch). Proves I B x b) (sym (branch_of-no_path path at)) proves.2)
    (subst (λ (p : Option (List Turn)). MayWalk I p rest) (sym (next-no_path path at)) later) in
    let inner : MayWalk I (Some (yes_path path at)) (preorder a ++ (preorder b ++ rest)) =
    may_walk-tree I (yes_path path at) x a (preorder b ++ rest) (subst (λ (B : Branch). Proves I B x a) (sym (branch_of-yes_path path at)) proves.1)
    (subst (λ (p : Option (List Turn)). MayWalk I p (preorder b ++ rest)) (sym (next-yes_path path at)) outer) in
    (proves.0, subst (MayWalk I (Some (yes_path path at))) (sym (append_assoc (preorder a) (preorder b) rest)) inner)

-- the first branch that is open is a branch
pub first_branch : (I J : Network) (path : Option (List Turn)) (B : Branch) → IsOpened (record { instance = I; path = path }) → Some B ≡ option_map branch_of path → J ≡ I → IsBranch J B
first_branch I J None B opened first same = absurd cc
first_branch I J (Some path) B opened first same =
    let is : branch_of path ≡ B = cc in
    subst (λ (K : Network). IsBranch K B) (sym same) (subst (IsBranch I) is (branch_of-branch I path opened.is_instance opened.splits))

-- a line that may be passed where a path is known, and a split
pub may_split : (I : Network) (o : Option (List Turn)) (l : ProofLine) (path : List Turn) (at : SplitAt) → MayPass I o l → o ≡ Some path → l ≡ line.Split at → IsSplitAt I (branch_of path) at
may_split I o l path at may was is = subst (λ (m : ProofLine). MayPass I (Some path) m) is (subst (λ (p : Option (List Turn)). MayPass I p l) was may)

-- the line at a place, and those after it
pub next_line : (lines : List ProofLine) (i : ℕ) (l : ProofLine) → i < length lines → l ≡ get_or lines i l → drop i lines ≡ l ∷ drop (i + 1) lines
next_line lines i l below is = rw add-one (drop-cons lines i l below ∙ ap (λ (m : ProofLine). m ∷ drop (suc i) lines) (sym is))

-- a walk over some lines: the rest of it ends where the whole does
pub record IsWalking (I : Network) (start : Option (List Turn)) (top : ℕ) (lines : List ProofLine) (o : Opened) (least : ℕ) (rest : List ProofLine) : Type 0 where
  pub same : o.instance ≡ I
  pub may : MayWalk o.instance o.path rest
  pub ends : walked I o.path least rest ≡ walked I start top lines

pub walking_on : (I : Network) (start : Option (List Turn)) (top : ℕ) (lines : List ProofLine) (o next : Opened) (least last : ℕ) (l : ProofLine) (rest : List ProofLine) → IsWalking I start top lines o least (l ∷ rest)
    → next ≡ record { instance = o.instance; path = passed o.path l } → last ≡ least_after o.instance o.path least l → IsWalking I start top lines next last rest
walking_on I start top lines o next least last l rest walking is is_last = subst (λ (n : Opened). IsWalking I start top lines n last rest) (sym is) (record {
  same = walking.same;
  may = walking.may.1;
  ends = ap (λ (n : ℕ). walked I (passed o.path l) n rest) (is_last ∙ ap (λ (J : Network). least_after J o.path least l) walking.same) ∙ walking.ends;
})

pub walking_ends : (I : Network) (start : Option (List Turn)) (top : ℕ) (lines : List ProofLine) (o : Opened) (least i : ℕ) → IsWalking I start top lines o least (drop i lines) → length lines ≤ i
    → ◌≡◌ {A = Option (List Turn) × ℕ} (o.path, least) (walked I start top lines)
walking_ends I start top lines o least i walking all = ap (walked I o.path least) (sym (drop_all i lines all)) ∙ walking.ends
