-- The log of a graft can be written, and is accepted.
use Rattle.std.proofs.Common.{◌≡◌, ℕ, ◌+◌, ◌-◌, ◌^◌, ◌<◌, ◌≤◌, min, List, [], ◌∷◌, ◌++◌, refl, sym, ◌∙◌, subst, arith, inl, inr}
use Rattle.std.specs.Prelude.{All, Contains, IsTrue, IsFalse}
use Rattle.std.specs.List.{AllByRecursion}
use Rattle.std.proofs.lemmas.Bool.{or_cases}
use Rattle.std.proofs.lemmas.List.Elements.{All-append, All-cons, All-contains, All-head, All-nil, All-tail, recursion_from_All}
use Rattle.st_model.specs.declared.branch.Branch.{Branch}
use Rattle.st_model.specs.declared.split_at.SplitAt.{SplitAt}
use Rattle.st_model.specs.declared.split_at.SplitAt.TheVariants.{Vertex, Link}
use Rattle.st_model.specs.declared.tree.Tree.{Tree}
use Rattle.st_model.specs.Network.{Network, IsInstance}
use Rattle.st_model.specs.Arborescence.{IsTree, cost}
use Rattle.st_model.specs.Branch.{IsBranch, yes_half, no_half}
use Rattle.st_model.specs.Made.{has_pair, is_between}
use Rattle.st_model.proofs.Pairs.{apart_from}
use Rattle.cut_packing.specs.declared.packing.Packing.{Packing}
use Rattle.cut_packing.specs.ProofTree.{ProofTree, Proves, close, split}
use Rattle.branching.specs.declared.node.Node.{Node}
use Rattle.lift_back.specs.declared.step.Step.{Step}
use Rattle.lift_back.specs.State.{State, IsState, whole}
use Rattle.lift_back.specs.Steps.{Applies}
use Rattle.log_format.specs.declared.log.Claim.{Claim}
use Rattle.log_format.specs.declared.log.Claim.TheVariants.{Found}
use Rattle.log_format.specs.declared.log.Log.{Log}
use Rattle.log_format.specs.declared.log.Version.{Version}
use Rattle.log_format.specs.declared.log.Version.TheVariants.{One, Two}
use Rattle.log_format.specs.declared.proof_line.ProofLine.{ProofLine}
use Rattle.log_format.specs.declared.proof_line.ProofLine.TheVariants as line
use Rattle.log_format.specs.Accepts.{AcceptsFound, left_of, left_over}
use Rattle.log_format.specs.Preorder.{preorder}
use Rattle.log_format.specs.Text.{IsClaimInRange, IsLog, IsWritableFound, IsWritableLine, IsWritableSplit}
use Rattle.log_format.proofs.Writable.{cost_fits, writable_tree}
use Rattle.search_core.specs.declared.done.Done.TheVariants as done
use Rattle.search_core.specs.declared.gathered.Gathered.{Gathered}
use Rattle.search_core.specs.declared.gathered.Searched.{Searched}
use Rattle.search_core.specs.Complete.{IsAtVertex, records}
use Rattle.search_core.specs.ReadOff.{IsReadOff, SidesAreApart, closed, least_weight, waits, was_split}
use Rattle.search_core.proofs.Ids.{among}
use Rattle.search_core.proofs.Reading.{proves-lower}
use Rattle.certificate_log.proofs.Lowest.{all_left, all_right, splits_fit}
use Rattle.certificate_log.proofs.Proved.{lines_fit, one_proof}
use Rattle.log_resume.specs.Closes.{closes_of}
use Rattle.log_resume.specs.Grafted.{AreSearchesOf, IsGraftOf, IsGrafted, IsProofOf, at_close, at_split, grown, stays}
use Rattle.log_resume.specs.Growing.{IsGrown}
use Rattle.log_resume.specs.Laws.{GraftedProves}
use Rattle.log_resume.proofs.Due.{search_of}

-- ---- branches

-- a pair among some links that aren't barred isn't barred
must_unbarred : (barred must : List (ℕ × ℕ)) (u v : ℕ) → AllByRecursion (λ (pair : ℕ × ℕ). IsFalse (has_pair barred pair.0 pair.1)) must → IsTrue (has_pair must u v) → IsFalse (has_pair barred u v)
must_unbarred barred [] u v each there = absurd cc
must_unbarred barred (pair ∷ must) u v each there = elim (or_cases (is_between pair u v) (has_pair must u v) there) [
  | inl here ↦ apart_from pair (u, v) barred each.0 here
  | inr later ↦ must_unbarred barred must u v each.1 later
]

-- a branch says two things of no vertex, and of no link
pub sides_apart : (I : Network) (B : Branch) → IsBranch I B → SidesAreApart B
sides_apart I B branch = record {
  vertices = branch.apart;
  links = λ u v there. must_unbarred B.barred B.must u v (recursion_from_All (λ (pair : ℕ × ℕ). IsFalse (has_pair B.barred pair.0 pair.1)) B.must branch.unbarred) there;
}

-- ---- what can be written

-- a split at a vertex can be written in version 1
split_fits_one : (id : ℕ) (at : SplitAt) (i o : ℕ) (P : Packing) → IsAtVertex (done.Split id at i o P) → IsWritableSplit Two at → IsWritableSplit One at
split_fits_one id (Vertex v) i o P vertex fits = fits
split_fits_one id (Link a b) i o P vertex fits = absurd vertex

-- and so can the tree that is read off where no split is at a link
lines_fit_one : (G : Gathered) (id : ℕ) (p : ProofTree) → All IsAtVertex (records G) → IsReadOff G id p → All (IsWritableLine Two) (preorder p) → All (IsWritableLine One) (preorder p)
lines_fit_one G id p sites (closed {id = a} {P} there) fits = All-cons (IsWritableLine One) (line.Close P) [] (All-head (IsWritableLine Two) (line.Close P) [] fits) (All-nil (IsWritableLine One))
lines_fit_one G id p sites (waits {N} there) fits = All-cons (IsWritableLine One) (line.Close N.packing) [] (All-head (IsWritableLine Two) (line.Close N.packing) [] fits) (All-nil (IsWritableLine One))
lines_fit_one G id p sites (was_split {id = a} {at} {i} {o} {P} {inside} {outside} there first second) fits =
    let tail = All-tail (IsWritableLine Two) (line.Split at) (preorder inside ++ preorder outside) fits in
    let inner = lines_fit_one G i inside sites first (all_left (IsWritableLine Two) (preorder inside) (preorder outside) tail) in
    let outer = lines_fit_one G o outside sites second (all_right (IsWritableLine Two) (preorder inside) (preorder outside) tail) in
    let here : IsWritableSplit One at =
    split_fits_one a at i o P (All-contains IsAtVertex (records G) (done.Split a at i o P) sites there) (All-head (IsWritableLine Two) (line.Split at) (preorder inside ++ preorder outside) fits) in
    All-cons (IsWritableLine One) (line.Split at) (preorder inside ++ preorder outside) here (All-append (IsWritableLine One) (preorder inside) (preorder outside) inner outer)

-- what stands for the closes can be written, so the graft can
graft_fits : (I : Network) (searches : List Searched) (version : Version) (number : ℕ) (B : Branch) (p q : ProofTree) → IsGrafted I searches number B p q
    → ((E : Searched) (r : ProofTree) → Contains searches E → IsReadOff E.gathered 0 r → All (IsWritableLine version) (preorder r))
    → All (IsWritableLine version) (preorder p) → All (IsWritableLine version) (preorder q)
graft_fits I searches version number B p q (at_close (grown {E} there is proves heavy)) each fits = each E q there proves.read
graft_fits I searches version number B p q (at_close (stays light)) each fits = fits
graft_fits I searches version number B p q (at_split {at} {p = a} {q = b} {p' = a'} {q' = b'} first second) each fits =
    let tail = All-tail (IsWritableLine version) (line.Split at) (preorder a ++ preorder b) fits in
    let inner = graft_fits I searches version _ _ a a' first each (all_left (IsWritableLine version) (preorder a) (preorder b) tail) in
    let outer = graft_fits I searches version _ _ b b' second each (all_right (IsWritableLine version) (preorder a) (preorder b) tail) in
    All-cons (IsWritableLine version) (line.Split at) (preorder a' ++ preorder b') (All-head (IsWritableLine version) (line.Split at) (preorder a ++ preorder b) fits)
    (All-append (IsWritableLine version) (preorder a') (preorder b') inner outer)

all_units : (closes : List Node) → AllByRecursion (λ (N : Node). Unit {0}) closes
all_units [] = tt
all_units (N ∷ closes) = (tt, all_units closes)

-- the lines of each search can be written
search_fits : (I : Network) (version : Version) (closes : List Node) (searches : List Searched) → IsInstance I → AreSearchesOf I closes searches
    → (version ≡ One → All (λ (E : Searched). All IsAtVertex (records E.gathered)) searches)
    → (E : Searched) (r : ProofTree) → Contains searches E → IsReadOff E.gathered 0 r → All (IsWritableLine version) (preorder r)
search_fits I version closes searches instance are sites E r there read = by_version version refl
  where
    fits : All (IsWritableLine Two) (preorder r)
    fits =
        let (N, unit, is) = search_of I (λ (N : Node). Unit {0}) closes searches E (all_units closes) are (among searches E there) in
        lines_fit E.gathered 0 r is.writable (splits_fit E.gathered I N.branch E.start E.budget is.complete instance) read

    by_version : (v : Version) → version ≡ v → All (IsWritableLine version) (preorder r)
    by_version One is =
        subst (λ (v : Version). All (IsWritableLine v) (preorder r)) (sym is)
        (lines_fit_one E.gathered 0 r (All-contains (λ (F : Searched). All IsAtVertex (records F.gathered)) searches E (sites is) there) read fits)
    by_version Two is = subst (λ (v : Version). All (IsWritableLine v) (preorder r)) (sym is) fits

-- ---- what is proved

-- what proves something proves its least weight
proves_least : (I : Network) (B : Branch) (x : ℕ) (p : ProofTree) → Proves I B x p → Proves I B (least_weight I B p) p
proves_least I B x (close P) proves = record { fits = proves.fits; weighs = omega arith }
proves_least I B x (split at a b) proves =
    let inner : ℕ = least_weight I (yes_half B at) a in
    let outer : ℕ = least_weight I (no_half B at) b in (
      proves.0,
      proves-lower I (yes_half B at) (min inner outer) inner a (left_min inner outer) (proves_least I (yes_half B at) x a proves.1),
      proves-lower I (no_half B at) (min inner outer) outer b (right_min inner outer) (proves_least I (no_half B at) x b proves.2),
    )
  where
    left_min : (a b : ℕ) → min a b ≤ a
    left_min a b = omega arith

    right_min : (a b : ℕ) → min a b ≤ b
    right_min a b = omega arith

-- the proof tree of a log proves something of what is left
pub old_proves : (s : State) (log : Log) (steps : List Step) (p : ProofTree) (is : IsProofOf s log steps p) → Proves s.instance (left_over s) (left_of is.dual s) p
old_proves s log steps p is =
    let (q, written, proves) = is.proves in
    subst (λ (r : ProofTree). Proves s.instance (left_over s) (left_of is.dual s) r) (one_proof q p (sym written ∙ is.lines)) proves

-- two claims of a tree are equal in each part
pub same_found : (a b c d : ℕ) (t u : Tree) (steps more : List Step) (proof other : List ProofLine) → Found a b t steps proof ≡ Found c d u more other → (steps ≡ more) × (proof ≡ other)
same_found a b c d t u steps more proof other e = let first : steps ≡ more = cc in let second : proof ≡ other = cc in (first, second)

-- ---- the log

-- all that is known before
pub record IsGrownOver (first : Network) (s : State) (old : Log) (tree : Tree) (primal : ℕ) (searches : List Searched) (steps : List Step) (p : ProofTree) (lines : List ProofLine) (least : ℕ) : Type 0 where
  pub instance : IsInstance first
  pub is_log : IsLog old
  pub old_proof : IsProofOf s old steps p
  pub applies : Applies steps (whole first) s
  pub is_state : IsState s
  pub is_tree : IsTree first tree
  pub is_cost : primal ≡ cost first tree
  pub are : AreSearchesOf s.instance (closes_of (left_over s) p) searches
  pub sites : old.version ≡ One → All (λ (E : Searched). All IsAtVertex (records E.gathered)) searches
  pub has_grown : IsGrown s.instance searches (left_over s) p primal lines least
  pub law : GraftedProves

-- the bound fits
pub small_dual : (first : Network) (s : State) (tree : Tree) (primal least light : ℕ) → IsInstance first → IsState s → IsTree first tree → primal ≡ cost first tree → least ≡ min primal light → least + s.offset < 2 ^ 64
small_dual first s tree primal least light instance state is_tree is_cost is_least =
    let fits = cost_fits first tree instance is_tree.arborescence in
    omega (arith, is_cost, fits, state.amount, is_least)

module _ (first : Network) (s : State) (old : Log) (tree : Tree) (primal : ℕ) (searches : List Searched) (steps : List Step) (p : ProofTree) (lines : List ProofLine) (least : ℕ)
    (h : IsGrownOver first s old tree primal searches steps p lines least) where
  abbrev after : ProofTree
  after = h.has_grown.after

  abbrev light : ℕ
  light = least_weight s.instance (left_over s) after

  abbrev dual : ℕ
  dual = min primal (least + s.offset)

  proved : Proves s.instance (left_over s) (left_of dual s) after
  proved =
      let old = h.law s.instance searches 0 (left_over s) p after (left_of h.old_proof.dual s) h.has_grown.grafted (old_proves s old steps p h.old_proof) in
      proves-lower s.instance (left_over s) (left_of dual s) light after (low least s.offset primal light h.has_grown.is_least) (proves_least s.instance (left_over s) (left_of h.old_proof.dual s) after old)
    where
      low : (least offset primal light : ℕ) → least ≡ min primal light → min primal (least + offset) - offset ≤ light
      low least offset primal light is = omega arith

  accepted : AcceptsFound first primal dual tree steps lines
  accepted = record { is_tree = h.is_tree; is_cost = h.is_cost; is_below = omega arith; is_proved = (s, h.applies, (after, h.has_grown.lines, proved)) }

  old_fits : IsWritableFound old.version h.old_proof.primal h.old_proof.dual h.old_proof.tree steps h.old_proof.proof
  old_fits = subst (λ (claim : Claim). IsClaimInRange old.version claim) h.old_proof.claims h.is_log.in_range

  writable : IsWritableFound old.version primal dual tree steps lines
  writable =
      let fits = cost_fits first tree h.instance h.is_tree.arborescence in
      let old_lines = subst (λ (ls : List ProofLine). All (IsWritableLine old.version) ls) h.old_proof.lines old_fits.lines_fit in
      let each = search_fits s.instance old.version (closes_of (left_over s) p) searches h.is_state.instance h.are h.sites in
      let small : primal < 2 ^ 63 = subst (λ (n : ℕ). n < 2 ^ 63) (sym h.is_cost) fits in
      record {
        primal_fits = omega arith;
        dual_fits = omega arith;
        tree_fits = writable_tree first tree h.instance h.is_tree.arborescence;
        few_steps = old_fits.few_steps;
        steps_fit = old_fits.steps_fit;
        lines_fit = subst (λ (ls : List ProofLine). All (IsWritableLine old.version) ls) (sym h.has_grown.lines) (graft_fits s.instance searches old.version 0 (left_over s) p after h.has_grown.grafted each old_lines);
      }

  is_dual : dual ≡ min primal (s.offset + light)
  is_dual = same least s.offset primal light h.has_grown.is_least
    where
      same : (least offset primal light : ℕ) → least ≡ min primal light → min primal (least + offset) ≡ min primal (offset + light)
      same least offset primal light is = omega arith

  pub assembled : IsGraftOf first s old tree primal searches (record { version = old.version; claim = Found primal dual tree steps lines })
  assembled = record {
    steps = steps;
    proof = lines;
    before = p;
    after = after;
    old_proof = h.old_proof;
    grafted = h.has_grown.grafted;
    version = refl;
    dual = dual;
    claims = refl;
    lines = h.has_grown.lines;
    is_dual = is_dual;
    is_log = record { in_range = writable; one_proof = (after, h.has_grown.lines) };
    accepted = accepted;
  }
