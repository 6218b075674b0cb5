-- The lines of a proof tree, walked along a path: they are right, and their closes are those of the tree.
use Rattle.std.proofs.Common.{◌≡◌, ℕ, ◌+◌, List, [], ◌∷◌, ◌++◌, Option, Some, None, refl, sym, ap, subst, ◌∙◌, append_assoc, add_assoc, add-zero}
use Rattle.std.specs.Prelude.{All, IfSome}
use Rattle.std.specs.Option.{option_and_then, option_map, option_to_list}
use Rattle.std.proofs.lemmas.List.{append-nil}
use Rattle.std.proofs.lemmas.List.Elements.{All-head, All-tail}
use Rattle.st_model.specs.declared.branch.Branch.{Branch}
use Rattle.st_model.specs.declared.split_at.SplitAt.{SplitAt}
use Rattle.st_model.specs.declared.split_at.SplitAt.TheVariants.{Vertex, Link}
use Rattle.st_model.specs.Ground.{ground}
use Rattle.st_model.specs.Network.{Network, IsInstance}
use Rattle.st_model.specs.Branch.{IsBranch, yes_half, no_half}
use Rattle.cut_packing.specs.ProofTree.{ProofTree, Proves, close, split, IsSplitAt}
use Rattle.branching.specs.declared.node.Node.{Node}
use Rattle.branching.specs.Node.{IsNode}
use Rattle.lift_back.specs.State.{State, IsState}
use Rattle.log_format.specs.Accepts.{left_over}
use Rattle.log_format.specs.Preorder.{preorder}
use Rattle.log_format.specs.declared.log.Version.TheVariants.{Two}
use Rattle.log_format.specs.declared.proof_line.ProofLine.{ProofLine}
use Rattle.log_format.specs.declared.proof_line.ProofLine.TheVariants as line
use Rattle.log_format.specs.Text.{IsWritableLine, IsWritablePacking}
use Rattle.certificate_log.proofs.Lowest.{all_left, all_right}
use Rattle.cert_checker.specs.declared.turn.Turn.{Turn}
use Rattle.cert_checker.specs.declared.turn.Turn.TheVariants.{Outside, Barred}
use Rattle.cert_checker.specs.Path.{AreSplits, TellEnds, branch_of, leaving_out, next_path, path_after, waiting, yes_path}
use Rattle.cert_checker.proofs.Branches.{branch_of-branch}
use Rattle.cert_checker.proofs.Judged.{splits-next_path}
use Rattle.cert_checker.proofs.LeftOut.{leads_to_left_over, none_waits, left_out_splits}
use Rattle.cert_checker.proofs.Paths.{branch_of-yes_path, opened, splits-yes_path, tell_ends, waiting-next_path}
use Rattle.log_resume.specs.Closes.{close_count, closes_from, closes_of}
use Rattle.log_resume.specs.Open.{Opened, IsOpened, AreRightFrom, closed_by, closes_along, closes_in}
use Rattle.log_resume.proofs.Leaving.{leaves_required}

-- the path to the half of its branch that says no to a split
abbrev pub no_path : List Turn → SplitAt → List Turn
no_path path (Vertex v) = Outside v ∷ path
no_path path (Link a b) = Barred a b ∷ path

pub branch_of-no_path : (path : List Turn) (at : SplitAt) → branch_of (no_path path at) ≡ no_half (branch_of path) at
branch_of-no_path path (Vertex v) = refl
branch_of-no_path path (Link a b) = refl

-- where the half that says yes is done with, the one that says no is next
pub next-yes_path : (path : List Turn) (at : SplitAt) → next_path (yes_path path at) ≡ Some (no_path path at)
next-yes_path path (Vertex v) = refl
next-yes_path path (Link a b) = refl

-- and then what is next after their branch
pub next-no_path : (path : List Turn) (at : SplitAt) → next_path (no_path path at) ≡ next_path path
next-no_path path (Vertex v) = refl
next-no_path path (Link a b) = refl

-- the lines of a tree that proves something of the branch of a path are right, and so are those after it
pub right_before : (I : Network) (x : ℕ) (p : ProofTree) (path : List Turn) (rest : List ProofLine) → Proves I (branch_of path) x p → All (IsWritableLine Two) (preorder p) → AreRightFrom I (next_path path) rest
    → AreRightFrom I (Some path) (preorder p ++ rest)
right_before I x (close P) path rest proves writable after = (proves.fits, All-head (IsWritableLine Two) (line.Close P) [] writable, after)
right_before I x (split at p q) path rest proves writable after =
    let both : All (IsWritableLine Two) (preorder p ++ preorder q) = All-tail (IsWritableLine Two) (line.Split at) (preorder p ++ preorder q) writable in
    let says_yes : Proves I (branch_of (yes_path path at)) x p = subst (λ (B : Branch). Proves I B x p) (sym (branch_of-yes_path path at)) proves.1 in
    let says_no : Proves I (branch_of (no_path path at)) x q = subst (λ (B : Branch). Proves I B x q) (sym (branch_of-no_path path at)) proves.2 in
    let second : AreRightFrom I (Some (no_path path at)) (preorder q ++ rest) =
    right_before I x q (no_path path at) rest says_no (all_right (IsWritableLine Two) (preorder p) (preorder q) both) (subst (λ (o : Option (List Turn)). AreRightFrom I o rest) (sym (next-no_path path at)) after) in
    let first : AreRightFrom I (Some (yes_path path at)) (preorder p ++ (preorder q ++ rest)) =
    right_before I x p (yes_path path at) (preorder q ++ rest) says_yes (all_left (IsWritableLine Two) (preorder p) (preorder q) both) (subst (λ (o : Option (List Turn)). AreRightFrom I o (preorder q ++ rest)) (sym (next-yes_path path at)) second) in
    (proves.0, subst (AreRightFrom I (Some (yes_path path at))) (sym (append_assoc (preorder p) (preorder q) rest)) first)

-- the closes along the lines of a tree are those of the tree, and those along the lines after it
pub closes_before : (p : ProofTree) (path : List Turn) (number : ℕ) (rest : List ProofLine)
    → closes_along (Some path) number (preorder p ++ rest) ≡ closes_from number (branch_of path) p ++ closes_along (next_path path) (number + close_count p) rest
closes_before (close P) path number rest = refl
closes_before (split at p q) path number rest =
    let yes_closes = ap (λ (B : Branch). closes_from number B p) (branch_of-yes_path path at) in
    let no_closes = ap (λ (B : Branch). closes_from (number + close_count p) B q) (branch_of-no_path path at) in
    let second : closes_along (next_path (yes_path path at)) (number + close_count p) (preorder q ++ rest) ≡ closes_from (number + close_count p) (no_half (branch_of path) at) q ++ closes_along (next_path path) (number + close_count p + close_count q) rest =
    ap (λ (o : Option (List Turn)). closes_along o (number + close_count p) (preorder q ++ rest)) (next-yes_path path at)
    ∙ (closes_before q (no_path path at) (number + close_count p) rest
    ∙ (ap (λ (ns : List Node). ns ++ closes_along (next_path (no_path path at)) (number + close_count p + close_count q) rest) no_closes
    ∙ ap (λ (o : Option (List Turn)). closes_from (number + close_count p) (no_half (branch_of path) at) q ++ closes_along o (number + close_count p + close_count q) rest) (next-no_path path at))) in
    ap (closes_along (Some (yes_path path at)) number) (append_assoc (preorder p) (preorder q) rest)
    ∙ (closes_before p (yes_path path at) number (preorder q ++ rest)
    ∙ (ap (λ (ns : List Node). ns ++ closes_along (next_path (yes_path path at)) (number + close_count p) (preorder q ++ rest)) yes_closes
    ∙ (ap (λ (ns : List Node). closes_from number (yes_half (branch_of path) at) p ++ ns) second
    ∙ (sym (append_assoc (closes_from number (yes_half (branch_of path) at) p) (closes_from (number + close_count p) (no_half (branch_of path) at) q) (closes_along (next_path path) (number + close_count p + close_count q) rest))
    ∙ ap (λ (n : ℕ). (closes_from number (yes_half (branch_of path) at) p ++ closes_from (number + close_count p) (no_half (branch_of path) at) q) ++ closes_along (next_path path) n rest) (add_assoc number (close_count p) (close_count q))))))

-- where no half waits, none is next
pub none_next : (path : List Turn) → waiting path ≡ [] → next_path path ≡ None
none_next path none = by_case (next_path path) (sym (waiting-next_path path) ∙ none)
  where
    by_case : (o : Option (List Turn)) → opened o ≡ [] → o ≡ None
    by_case None e = refl
    by_case (Some next) e = absurd cc

-- the lines of a proof of what is left are right from the path on that leaves out who is gone
pub right_from_start : (s : State) (x : ℕ) (p : ProofTree) (lines : List ProofLine) → IsState s → lines ≡ preorder p → Proves s.instance (left_over s) x p → All (IsWritableLine Two) lines
    → AreRightFrom s.instance (Some (leaving_out s.gone)) lines
right_from_start s x p lines state same proves writable =
    let path = leaving_out s.gone in
    let next : next_path path ≡ None = none_next path (none_waits s state) in
    let here : Proves s.instance (branch_of path) x p = subst (λ (B : Branch). Proves s.instance B x p) (sym (leads_to_left_over s state)) proves in
    let after : AreRightFrom s.instance (next_path path) [] = subst (λ (o : Option (List Turn)). AreRightFrom s.instance o []) (sym next) tt in
    let all : All (IsWritableLine Two) (preorder p) = subst (All (IsWritableLine Two)) same writable in
    subst (AreRightFrom s.instance (Some path)) (append-nil (preorder p) ∙ sym same) (right_before s.instance x p path [] here all after)

-- and the closes along them are those of the proof tree
pub closes_from_start : (s : State) (p : ProofTree) (lines : List ProofLine) → IsState s → lines ≡ preorder p → closes_along (Some (leaving_out s.gone)) 0 lines ≡ closes_of (left_over s) p
closes_from_start s p lines state same =
    let path = leaving_out s.gone in
    ap (closes_along (Some path) 0) (same ∙ sym (append-nil (preorder p)))
    ∙ (closes_before p path 0 []
    ∙ (append-nil (closes_from 0 (branch_of path) p)
    ∙ ap (λ (B : Branch). closes_from 0 B p) (leads_to_left_over s state)))

-- a line that is right of a walk is so after it, too
pub right_after : (I : Network) (o : Option (List Turn)) (line : ProofLine) (lines : List ProofLine) → AreRightFrom I o (line ∷ lines) → AreRightFrom I (option_and_then (λ p. path_after p line) o) lines
right_after I None l lines right = absurd right
right_after I (Some path) (line.Split at) lines right = right.1
right_after I (Some path) (line.Close P) lines right = right.2

-- the path after a line goes by splits, too
pub splits_after : (I : Network) (o : Option (List Turn)) (l : ProofLine) → ((path : List Turn) (at : SplitAt) → o ≡ Some path → l ≡ line.Split at → IsSplitAt I (branch_of path) at) → IfSome o (AreSplits I) → IfSome (option_and_then (λ p. path_after p l) o) (AreSplits I)
splits_after I None l right splits = tt
splits_after I (Some path) (line.Split at) right splits = splits-yes_path (ground I) path at (right path at refl refl) splits
splits_after I (Some path) (line.Close P) right splits = by_case (next_path path) refl
  where
    by_case : (next : Option (List Turn)) → next_path path ≡ next → IfSome next (AreSplits I)
    by_case None e = tt
    by_case (Some next) e = splits-next_path (ground I) path next e splits

-- the closes along a line and those after it
pub closes-cons : (I : Network) (o : Option (List Turn)) (number : ℕ) (l : ProofLine) (lines : List ProofLine) → AreRightFrom I o (l ∷ lines)
    → closes_along o number (l ∷ lines) ≡ option_to_list (closed_by o number l) ++ closes_along (option_and_then (λ p. path_after p l) o) (number + closes_in l) lines
closes-cons I None number l lines right = absurd right
closes-cons I (Some path) number (line.Split at) lines right = ap (λ (n : ℕ). closes_along (Some (yes_path path at)) n lines) (sym (add-zero number))
closes-cons I (Some path) number (line.Close P) lines right = refl

-- what a right line closes is a node, and can be written
pub closed_node : (I : Network) (o : Option (List Turn)) (number : ℕ) (l : ProofLine) (lines : List ProofLine) (N : Node) → IsOpened (record { instance = I; path = o }) → AreRightFrom I o (l ∷ lines) → closed_by o number l ≡ Some N
    → IsNode I N × IsWritablePacking N.packing
closed_node I None number l lines N is_open right same = absurd right
closed_node I (Some path) number (line.Split at) lines N is_open right same = absurd cc
closed_node I (Some path) number (line.Close P) lines N is_open right same =
    let is : (record { id = number; branch = branch_of path; packing = P }) ≡ N = cc in
    subst (λ (M : Node). IsNode I M × IsWritablePacking M.packing) is (record { branch = branch_of-branch I path is_open.is_instance is_open.splits; required = leaves_required I path is_open.splits; fits = right.0 }, right.1)

-- a walk is open where it begins
pub start_opened : (s : State) (I : Network) (path : List Turn) → IsState s → I ≡ s.instance → path ≡ leaving_out s.gone → IsOpened (record { instance = I; path = Some path })
start_opened s I path state same led = record {
  is_instance = subst IsInstance (sym same) state.instance;
  splits = subst (λ (t : List Turn). AreSplits I t) (sym led) (subst (λ (J : Network). AreSplits J (leaving_out s.gone)) (sym same) (left_out_splits s state));
}

-- and there the lines of a proof are right
pub start_right : (s : State) (I : Network) (o : Opened) (proof lines : List ProofLine) → IsState s → I ≡ s.instance → (p : ProofTree) × (x : ℕ) × (proof ≡ preorder p) × Proves I (left_over s) x p → All (IsWritableLine Two) proof
    → o ≡ record { instance = I; path = Some (leaving_out s.gone) } → lines ≡ proof → AreRightFrom o.instance o.path lines
start_right s I o proof lines state same (p, x, is, proves) writable start all =
    let right : AreRightFrom s.instance (Some (leaving_out s.gone)) proof = right_from_start s x p proof state is (subst (λ (J : Network). Proves J (left_over s) x p) same proves) writable in
    let mine : AreRightFrom I (Some (leaving_out s.gone)) proof = subst (λ (J : Network). AreRightFrom J (Some (leaving_out s.gone)) proof) (sym same) right in
    subst (AreRightFrom o.instance o.path) (sym all) (subst (λ (w : Opened). AreRightFrom w.instance w.path proof) (sym start) mine)

-- the branch of a walk is one of the instance
pub first_branch : (o : Opened) (B : Branch) → Some B ≡ option_map branch_of o.path → IsOpened o → IsBranch o.instance B
first_branch o B first is_open = by_path o.path first is_open.splits
  where
    by_path : (path : Option (List Turn)) → Some B ≡ option_map branch_of path → IfSome path (AreSplits o.instance) → IsBranch o.instance B
    by_path None e splits = absurd cc
    by_path (Some path) e splits = let same : branch_of path ≡ B = cc in subst (IsBranch o.instance) same (branch_of-branch o.instance path is_open.is_instance splits)

-- the walk after a line is open
pub opened_after : (I : Network) (o : Option (List Turn)) (path : List Turn) (l : ProofLine) (next : Option (List Turn)) → IsOpened (record { instance = I; path = o })
    → ((p : List Turn) (at : SplitAt) → o ≡ Some p → l ≡ line.Split at → IsSplitAt I (branch_of p) at) → o ≡ Some path → next ≡ path_after path l → IsOpened (record { instance = I; path = next })
opened_after I o path l next is_open right same is =
    let step : option_and_then (λ p. path_after p l) o ≡ next = ap (option_and_then (λ (p : List Turn). path_after p l)) same ∙ sym is in
    record { is_instance = is_open.is_instance; splits = subst (λ (t : Option (List Turn)). IfSome t (AreSplits I)) step (splits_after I o l right is_open.splits) }

-- its turns say rightly which ends come inside
pub opened_tells : (I : Network) (o : Option (List Turn)) (path : List Turn) → IsOpened (record { instance = I; path = o }) → o ≡ Some path → TellEnds path
opened_tells I o path is_open same = tell_ends (ground I) path (subst (λ (t : Option (List Turn)). IfSome t (AreSplits I)) same is_open.splits)
