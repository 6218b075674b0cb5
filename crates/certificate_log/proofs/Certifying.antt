-- The log of what was gathered is assembled.
use Rattle.std.proofs.Common.{◌≡◌, ℕ, ◌+◌, ◌^◌, ◌<◌, ◌≤◌, ◌⊎◌, inl, inr, min, List, [], length, refl, sym, ap, ◌∙◌, subst, arith}
use Rattle.std.specs.Prelude.{All, map}
use Rattle.std.proofs.lemmas.List.{length-append, length-map}
use Rattle.st_model.specs.declared.branch.Branch.{Branch}
use Rattle.st_model.specs.declared.tree.Tree.{Tree}
use Rattle.st_model.specs.Network.{Network, IsInstance}
use Rattle.st_model.specs.Arborescence.{IsTree, cost}
use Rattle.st_model.specs.Linked.{open_pairs}
use Rattle.cut_packing.specs.ProofTree.{ProofTree, Proves}
use Rattle.branching.specs.declared.node.Node.{Node}
use Rattle.lift_back.specs.declared.step.Step.{Step}
use Rattle.lift_back.specs.State.{State, IsState, IsTreeOf, whole, worth}
use Rattle.lift_back.specs.Steps.{Applies}
use Rattle.log_format.specs.declared.log.Version.TheVariants.{Two}
use Rattle.log_format.specs.declared.log.Claim.TheVariants.{Found}
use Rattle.log_format.specs.declared.proof_line.ProofLine.{ProofLine}
use Rattle.log_format.specs.Accepts.{AcceptsFound, left_of, left_over}
use Rattle.log_format.specs.Preorder.{preorder}
use Rattle.log_format.specs.Text.{IsWritableFound, IsWritableLine, IsWritablePacking, IsWritableStep}
use Rattle.search_core.specs.declared.gathered.Gathered.{Gathered}
use Rattle.search_core.specs.Complete.{AllPackings, IsAtVertex, IsComplete, IsFinished, done_id, records, standing_ids, waiting}
use Rattle.search_core.specs.FreeVertices.{free_count}
use Rattle.search_core.specs.ReadOff.{CompleteCounts, CompleteIsFew, CompleteIsFewWithLinks, CompleteIsProof, IsReadOff, ProvesItsLeast, SidesAreApart, least_weight, size}
use Rattle.certificate_log.specs.Assembled.{IsAssembled}
use Rattle.certificate_log.specs.Bound.{lowest_weight}
use Rattle.certificate_log.specs.Spent.{IsGreatestOf, IsSpent, light_weights}
use Rattle.search_core.proofs.Reading.{proves-lower}
use Rattle.certificate_log.proofs.Proved.{SplitsFit, lines_fit, one_proof, proved_below}
use Rattle.certificate_log.proofs.Sizes.{length-light_weights, length-preorder}
use Rattle.log_format.proofs.Writable.{cost_fits, writable_tree}

-- what the tree costs and what is paid besides is small
pub small_sum : (s : State) (t : Tree) (least : ℕ) → IsState s → IsTreeOf s t → least ≡ cost s.instance t → least + s.offset < 2 ^ 64
small_sum s t least is_state is_left is_cost =
    let fits = cost_fits s.instance t is_state.instance is_left.tree.arborescence in
    omega (arith, is_cost, fits, is_state.amount)

-- nobody is inside what is left, and no link is a must
pub left_over-apart : (s : State) → SidesAreApart (left_over s)
left_over-apart s = record { vertices = λ v h. absurd cc; links = λ u v h. absurd cc }

-- the tree that is read off, which has no more lines than there are ids
pub tree_of : CompleteIsProof → CompleteCounts → (G : Gathered) (I : Network) (R : Branch) (start budget : ℕ) → SidesAreApart R → IsComplete G I R start budget
    → (p : ProofTree) × IsReadOff G 0 p × (length (preorder p) ≤ length (standing_ids G))
tree_of is_proof counts G I R start budget apart complete =
    let (p, proves) = is_proof G I R start budget complete in
    let c = counts G I R start budget p apart complete proves.read in
    let all : length (standing_ids G) ≡ length (records G) + length (waiting G) =
    length-append (map done_id (records G)) (map (λ (N : Node). N.id) (waiting G)) ∙ (λ j. length-map (records G) done_id j + length-map (waiting G) (λ (N : Node). N.id) j) in
    (p, proves.read, omega (arith, length-preorder p, c.0, all))

-- all that is known before
pub record IsReady (steps : List Step) (first : Network) (s : State) (G : Gathered) (t tree : Tree) (lines : List ProofLine) (p : ProofTree) : Type 0 where
  pub instance : IsInstance first
  pub applies : Applies steps (whole first) s
  pub steps_fit : All IsWritableStep steps
  pub few_steps : length steps < 2 ^ 64
  pub is_state : IsState s
  pub is_left : IsTreeOf s t
  pub is_least : G.least ≡ cost s.instance t
  pub is_tree : IsTree first tree
  pub is_cost : cost first tree ≡ worth s t
  pub writable : AllPackings IsWritablePacking G
  pub splits : SplitsFit G
  pub lines_are : lines ≡ preorder p
  pub proves : ProvesItsLeast G s.instance (left_over s) p
  -- the least of the least value and of what the nodes that wait weigh
  pub is_lowest : lowest_weight s.instance G.least (waiting G) ≡ min G.least (least_weight s.instance (left_over s) p)
  pub counts : CompleteCounts
  pub few : CompleteIsFew
  pub few_with_links : CompleteIsFewWithLinks

module _ (steps : List Step) (first : Network) (s : State) (G : Gathered) (t tree : Tree) (lines : List ProofLine) (p : ProofTree) (h : IsReady steps first s G t tree lines p) where
  abbrev primal : ℕ
  primal = G.least + s.offset

  abbrev lowest : ℕ
  lowest = lowest_weight s.instance G.least (waiting G)

  abbrev dual : ℕ
  dual = lowest + s.offset

  abbrev light : ℕ
  light = least_weight s.instance (left_over s) p

  is_primal : primal ≡ cost first tree
  is_primal = let here = h.is_least in let there = h.is_cost in omega (arith, here, there)

  is_below : dual ≤ primal
  is_below = omega (arith, h.is_lowest)

  proved : Proves s.instance (left_over s) (left_of dual s) p
  proved = proves-lower s.instance (left_over s) (left_of dual s) light p (omega (arith, h.is_lowest)) h.proves.proves

  accepted : AcceptsFound first primal dual tree steps lines
  accepted = record { is_tree = h.is_tree; is_cost = is_primal; is_below = is_below; is_proved = (s, h.applies, (p, h.lines_are, proved)) }

  greatest : IsGreatestOf s.instance (left_over s) G.least (min G.least light) lines
  greatest x below (q, written, proves) =
      let same : q ≡ p = one_proof q p (sym written ∙ h.lines_are) in
      let low = proved_below s.instance (left_over s) x p (subst (λ (r : ProofTree). Proves s.instance (left_over s) x r) same proves) in
      omega (arith, below, low)

  whole_bound : waiting G ≡ [] → dual ≡ primal
  whole_bound none = ap (λ (Ns : List _). lowest_weight s.instance G.least Ns + s.offset) none

  apart : SidesAreApart (left_over s)
  apart = left_over-apart s

  count : length lines ≡ size p
  count = ap length h.lines_are ∙ length-preorder p

  spent : (start budget : ℕ) → IsComplete G s.instance (left_over s) start budget → IsFinished G s.instance (left_over s) start budget → dual < primal → IsSpent budget s.instance (left_over s) G.least lines
  spent start budget complete finished below = (p, h.lines_are, by_case finished.spent)
    where
      by_case : (waiting G ≡ []) ⊎ (G.claimed ≡ budget) → budget + length (light_weights s.instance (left_over s) G.least p) ≤ length lines
      by_case (inl none) = absurd (omega (arith, whole_bound none, below))
      by_case (inr taken) =
          let c = h.counts G s.instance (left_over s) start budget p apart complete h.proves.read in
          let same = length-light_weights s.instance (left_over s) G.least p in
          omega (arith, c.0, c.1, same, count, taken, complete.claimed)

  -- a budget suffices that is more than the splits and closes
  beyond : (start budget : ℕ) → IsComplete G s.instance (left_over s) start budget → IsFinished G s.instance (left_over s) start budget → size p < budget → dual ≡ primal
  beyond start budget complete finished few = by_case finished.spent
    where
      by_case : (waiting G ≡ []) ⊎ (G.claimed ≡ budget) → dual ≡ primal
      by_case (inl none) = whole_bound none
      by_case (inr taken) =
          let c = h.counts G s.instance (left_over s) start budget p apart complete h.proves.read in
          absurd (omega (arith, c.0, few, taken, complete.claimed))

  enough : (start budget : ℕ) → IsComplete G s.instance (left_over s) start budget → IsFinished G s.instance (left_over s) start budget → All IsAtVertex (records G) → 2 ^ (free_count s.instance (left_over s) + 1) ≤ budget → dual ≡ primal
  enough start budget complete finished sites suffices =
      let few = h.few G s.instance (left_over s) start budget p sites complete h.proves.read in
      beyond start budget complete finished (omega (arith, few, suffices))

  enough_with_links : (start budget : ℕ) → IsComplete G s.instance (left_over s) start budget → IsFinished G s.instance (left_over s) start budget → 2 ^ (free_count s.instance (left_over s) + open_pairs s.instance (left_over s) + 1) ≤ budget → dual ≡ primal
  enough_with_links start budget complete finished suffices =
      let few = h.few_with_links G s.instance (left_over s) start budget p h.is_state.instance complete h.proves.read in
      beyond start budget complete finished (omega (arith, few, suffices))

  writable : IsWritableFound Two primal dual tree steps lines
  writable =
      let small = small_sum s t G.least h.is_state h.is_left h.is_least in
      record {
        primal_fits = small;
        dual_fits = omega (arith, small, is_below);
        tree_fits = writable_tree first tree h.instance h.is_tree.arborescence;
        few_steps = h.few_steps;
        steps_fit = h.steps_fit;
        lines_fit = subst (λ (l : List ProofLine). All (IsWritableLine Two) l) (sym h.lines_are) (lines_fit G 0 p h.writable h.splits h.proves.read);
      }

  pub assembled : IsAssembled steps first s G (record { version = Two; claim = Found primal dual tree steps lines })
  assembled = record {
    primal = primal;
    dual = dual;
    tree = tree;
    proof = lines;
    version = refl;
    claims = refl;
    is_tree = h.is_tree;
    is_cost = is_primal;
    is_primal = refl;
    read = p;
    is_read = h.proves.read;
    lines = h.lines_are;
    is_dual = omega (arith, h.is_lowest);
    is_below = is_below;
    is_log = record { in_range = writable; one_proof = (p, h.lines_are) };
    accepted = accepted;
    greatest = greatest;
    whole = whole_bound;
    spent = spent;
    enough = enough;
    enough_with_links = enough_with_links;
  }
