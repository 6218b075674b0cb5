-- What is known at first of what steps leave, and what is known once searches went on in it.
use Rattle.std.proofs.Common.{◌≡◌, ◌≤◌, ◌<◌, ◌-◌, ◌+◌, ℕ, List, [], ◌∷◌, Option, None, Some, refl, sym, ap, ◌∙◌, subst, inl, inr, arith}
use Rattle.std.specs.Prelude.{Contains, IfNone, IfSome, IsTrue}
use Rattle.std.proofs.lemmas.Bool.{both_ways, false_from_ne_true, or_right}
use Rattle.st_model.specs.declared.branch.Branch.{Branch}
use Rattle.st_model.specs.declared.tree.Tree.{Tree}
use Rattle.st_model.specs.Lists.{has, sum_to}
use Rattle.st_model.specs.Network.{Network, IsInstance, IsVertex, is_required, pays}
use Rattle.st_model.specs.Arborescence.{IsTree, cost, reached}
use Rattle.st_model.specs.Branch.{IsBranch, NoneIsCertain, ReachesAsTold, all_trees, is_certain}
use Rattle.st_model.specs.Laws.{LoneStartsMissTheRest}
use Rattle.st_model.proofs.Branches.{IsVertexSet-member}
use Rattle.st_model.proofs.Reaching.{tree-vertex}
use Rattle.st_model.proofs.ThinGrowth.{has-reached_from}
use Rattle.cut_packing.specs.ProofTree.{ProofTree}
use Rattle.branching.specs.declared.node.Node.{Node}
use Rattle.graph_store.specs.Graph.{Graph}
use Rattle.graph_store.specs.Whole.{IsWholeOf}
use Rattle.lift_back.specs.Laws.{HasTreeWithin}
use Rattle.lift_back.specs.State.{State, IsState, IsTreeOf}
use Rattle.log_format.specs.declared.proof_line.ProofLine.{ProofLine}
use Rattle.log_format.specs.Accepts.{left_over}
use Rattle.log_format.specs.Preorder.{preorder}
use Rattle.log_format.proofs.AllTrees.{belongs_left_over, left_over-branch}
use Rattle.log_resume.specs.Closes.{closes_of}
use Rattle.tree_heuristic.specs.Reaching.{HasNoTree, IsNoDearerThanOne, ReachesPresent}
use Rattle.resuming.specs.declared.known.Known.{Known}
use Rattle.resuming.specs.declared.going_on.Gone.{Gone}
use Rattle.resuming.specs.GoingOn.{ComesFrom, GoOn, IsKnown}
use Rattle.resuming.specs.InRest.{IsFirstIn, IsGoneIn}
use Rattle.resuming.proofs.Avoiding.{avoids_gone}

-- ---- a first tree

-- each tree of the instance reaches present vertices alone
reaches_present : (I : Network) (g : Graph) (t : Tree) → IsWholeOf I g → IsInstance I → IsTree I t → ReachesPresent g t
reaches_present I g t of is h v r = of.whole v (subst (λ (N : Network). IsVertex N.n v) (sym of.network) (tree-vertex I t v is h.arborescence r))

-- a branch that has a tree has a first tree
some_first : (I : Network) (g : Graph) (B : Branch) (found : Option Tree) → IsInstance I → IsWholeOf I g → (t : Tree) × IsTree I t × ReachesAsTold B t → IfNone found (HasNoTree g B) → found ≡ None → ⊥
some_first I g B found is of (t, tree, reaches) none missing =
    let nothing : HasNoTree g B = subst (λ (o : Option Tree). IfNone o (HasNoTree g B)) missing none in
    nothing t (subst (λ (N : Network). IsTree N t) (sym of.network) tree) reaches (reaches_present I g t of is tree)

-- a tree no dearer than each vertex alone costs at most all prizes
cheap_first : (I : Network) (g : Graph) (B : Branch) (t : Tree) → IsInstance I → IsBranch I B → IsWholeOf I g → LoneStartsMissTheRest → (s : Tree) × IsTree I s × ReachesAsTold B s
    → (NoneIsCertain g.network B → IsNoDearerThanOne g B t) → NoneIsCertain I B → cost I t ≤ sum_to (pays I) I.n
cheap_first I g B t is branch of law (s, tree, reaches) low none =
    let no_dearer = low (subst (λ (N : Network). NoneIsCertain N B) (sym of.network) none) alone refl lone_reaches present in
    let here : cost I t ≤ cost I alone = subst (λ (N : Network). cost N t ≤ cost N alone) of.network no_dearer in
    omega (arith, here, law I alone tree.arborescence.start refl)
  where
    alone : Tree
    alone = record { start = s.start; arcs = [] }

    reached_start : (v : ℕ) → IsTrue (has (s.start ∷ []) v) → IsTrue (has (reached s) v)
    reached_start v h = has-reached_from (s.start ∷ []) s.arcs v h

    nobody : (v : ℕ) → IsTrue (has B.inside v) → ⊥
    nobody v inside = both_ways (is_certain I B v) (none v (IsVertexSet-member I.n B.inside v branch.inside inside)) (or_right (is_required I v) (has B.inside v) inside)

    lone_reaches : ReachesAsTold B alone
    lone_reaches = record {
      inside = λ v inside. absurd (nobody v inside);
      outside = λ v outside. false_from_ne_true (has (s.start ∷ []) v) (λ h. both_ways (has (reached s) v) (reaches.outside v outside) (reached_start v h));
    }

    present : ReachesPresent g alone
    present v h = reaches_present I g s of is tree v (reached_start v h)

-- ---- what is known at first

pub is_branch : (s : State) → IsState s → IsBranch s.instance (left_over s)
is_branch s is = left_over-branch s is.gone

-- some tree is left
left_tree : (s : State) (primal : ℕ) → HasTreeWithin s primal → (t : Tree) × IsTree s.instance t × ReachesAsTold (left_over s) t
left_tree s primal (t, is, within) = (t, is.tree, (belongs_left_over s t is).reaches)

pub some_first_left : (s : State) (g : Graph) (primal : ℕ) (found : Option Tree) → IsState s → IsWholeOf s.instance g → HasTreeWithin s primal → IfNone found (HasNoTree g (left_over s)) → found ≡ None → ⊥
some_first_left s g primal found is of within none missing = some_first s.instance g (left_over s) found is.instance of (left_tree s primal within) none missing

pub cheap_first_left : (s : State) (g : Graph) (primal : ℕ) (t : Tree) → IsState s → IsWholeOf s.instance g → LoneStartsMissTheRest → HasTreeWithin s primal → (NoneIsCertain g.network (left_over s) → IsNoDearerThanOne g (left_over s) t)
    → NoneIsCertain s.instance all_trees → cost s.instance t ≤ sum_to (pays s.instance) s.instance.n
cheap_first_left s g primal t is of law within low none = cheap_first s.instance g (left_over s) t is.instance (is_branch s is) of law (left_tree s primal within) low none

pub offset_within : (s : State) (primal : ℕ) → HasTreeWithin s primal → s.offset ≤ primal
offset_within s primal (t, is, within) = omega arith

-- the first tree is cheaper than the log's
pub first_cheaper : (s : State) (primal value : ℕ) (t guide : Tree) → IsTree s.instance t → ReachesAsTold (left_over s) t → value ≡ cost s.instance t → value < primal - s.offset
    → (NoneIsCertain s.instance all_trees → cost s.instance t ≤ sum_to (pays s.instance) s.instance.n) → IsFirstIn s primal (record { least = value; tree = Some t; guide = guide })
first_cheaper s primal value t guide tree reaches is less cheap =
    let left : IsTreeOf s t = record { tree = tree; avoids = reaches.outside } in
    record {
      less = (t, left, omega arith);
      is_known = record { tree = (left, sym is); none = tt };
      cheap = λ none. let h = cheap none in omega (arith, h, is);
    }

-- or the log's tree is no dearer
pub first_kept : (s : State) (primal value : ℕ) (t guide : Tree) → IsTree s.instance t → ReachesAsTold (left_over s) t → value ≡ cost s.instance t → primal - s.offset ≤ value → s.offset ≤ primal
    → (NoneIsCertain s.instance all_trees → cost s.instance t ≤ sum_to (pays s.instance) s.instance.n) → IsFirstIn s primal (record { least = primal - s.offset; tree = None; guide = guide })
first_kept s primal value t guide tree reaches is no_more within cheap =
    let left : IsTreeOf s t = record { tree = tree; avoids = reaches.outside } in
    record {
      less = (t, left, omega arith);
      is_known = record { tree = tt; none = omega arith };
      cheap = λ none. let h = cheap none in omega (arith, h, is);
    }

-- a first tree that was found in a graph of what is left, and a guide that is no dearer
pub record IsFirstTree (s : State) (W : Network) (g : Graph) (B : Branch) (primal : ℕ) (first guide : Tree) : Type 0 where
  pub is_state : IsState s
  pub within : HasTreeWithin s primal
  pub whole_is : W ≡ s.instance
  pub of : IsWholeOf W g
  pub branch_is : B ≡ left_over s
  pub low : NoneIsCertain g.network B → IsNoDearerThanOne g B first
  pub law : LoneStartsMissTheRest
  pub tree : IsTree W guide
  pub reaches : ReachesAsTold B guide
  pub no_dearer : cost W guide ≤ cost W first

module _ (s : State) (W : Network) (g : Graph) (B : Branch) (primal : ℕ) (first guide : Tree) (h : IsFirstTree s W g B primal first guide) where
  of_left : IsWholeOf s.instance g
  of_left = subst (λ (N : Network). IsWholeOf N g) h.whole_is h.of

  guide_tree : IsTree s.instance guide
  guide_tree = subst (λ (N : Network). IsTree N guide) h.whole_is h.tree

  guide_reaches : ReachesAsTold (left_over s) guide
  guide_reaches = subst (λ (C : Branch). ReachesAsTold C guide) h.branch_is h.reaches

  guide_cheap : NoneIsCertain s.instance all_trees → cost s.instance guide ≤ sum_to (pays s.instance) s.instance.n
  guide_cheap none =
      let first_cheap = cheap_first_left s g primal first h.is_state of_left h.law h.within (subst (λ (C : Branch). NoneIsCertain g.network C → IsNoDearerThanOne g C first) h.branch_is h.low) none in
      let less : cost s.instance guide ≤ cost s.instance first = subst (λ (N : Network). cost N guide ≤ cost N first) h.whole_is h.no_dearer in
      omega (arith, first_cheap, less)

  guide_cost : (value : ℕ) → value ≡ cost W guide → value ≡ cost s.instance guide
  guide_cost value is = is ∙ ap (λ (N : Network). cost N guide) h.whole_is

  pub found_cheaper : (value offset : ℕ) (copy : Tree) → value ≡ cost W guide → offset ≡ s.offset → copy ≡ guide → value < primal - offset → IsFirstIn s primal (record { least = value; tree = Some copy; guide = guide })
  found_cheaper value offset copy is paid same less =
      let cheaper = first_cheaper s primal value guide guide guide_tree guide_reaches (guide_cost value is) (omega (arith, paid, less)) guide_cheap in
      subst (λ (t : Tree). IsFirstIn s primal (record { least = value; tree = Some t; guide = guide })) (sym same) cheaper

  pub found_no_cheaper : (value offset : ℕ) → value ≡ cost W guide → offset ≡ s.offset → primal - offset ≤ value → IsFirstIn s primal (record { least = primal - offset; tree = None; guide = guide })
  found_no_cheaper value offset is paid no_more =
      let kept = first_kept s primal value guide guide guide_tree guide_reaches (guide_cost value is) (omega (arith, paid, no_more)) (offset_within s primal h.within) guide_cheap in
      subst (λ (x : ℕ). IsFirstIn s primal (record { least = primal - x; tree = None; guide = guide })) (sym paid) kept

-- ---- what is known in the end

-- a tree that is known in the end is one of what is left
known_left : (s : State) (primal : ℕ) (known : Known) (p : ProofTree) (closes : List Node) (t : Tree) → IsFirstIn s primal known → closes ≡ closes_of (left_over s) p → IsTree s.instance t → ComesFrom known.tree closes t → IsTreeOf s t
known_left s primal known p closes t first are tree (inl is) = (subst (λ (o : Option Tree). IfSome o (λ u. IsTreeOf s u × (cost s.instance u ≡ known.least))) is first.is_known.tree).0
known_left s primal known p closes t first are tree (inr (N, there, reaches)) = avoids_gone s p N t (subst (λ (Ns : List Node). Contains Ns N) are there) tree reaches

pub gone_in : (s : State) (primal budget : ℕ) (p : ProofTree) (lines : List ProofLine) (known : Known) (closes : List Node) (gone : Gone) → IsFirstIn s primal known → lines ≡ preorder p
    → ((q : ProofTree) → lines ≡ preorder q → closes ≡ closes_of (left_over s) q) → GoOn s.instance closes known.least budget gone.searches.items gone.known.least
    → IfSome gone.known.tree (IsKnown s.instance known.tree closes gone.known.least) → IfNone gone.known.tree ((gone.known.least ≡ known.least) × (known.tree ≡ None)) → IsGoneIn s primal budget lines gone
gone_in s primal budget p lines known closes gone first written are gone_on tree none = record {
  start = known.least;
  less = first.less;
  searched = λ q is. subst (λ (Ns : List Node). GoOn s.instance Ns known.least budget gone.searches.items gone.known.least) (are q is) gone_on;
  is_known = record { tree = in_left gone.known.tree tree; none = kept gone.known.tree none };
}
  where
    in_left : (o : Option Tree) → IfSome o (IsKnown s.instance known.tree closes gone.known.least) → IfSome o (λ t. IsTreeOf s t × (cost s.instance t ≡ gone.known.least))
    in_left None is = tt
    in_left (Some t) is = (known_left s primal known p closes t first (are p written) is.tree is.comes, is.cost_is)

    kept : (o : Option Tree) → IfNone o ((gone.known.least ≡ known.least) × (known.tree ≡ None)) → IfNone o (gone.known.least + s.offset ≡ primal)
    kept None (same, nothing) =
        let before : known.least + s.offset ≡ primal = subst (λ (o : Option Tree). IfNone o (known.least + s.offset ≡ primal)) nothing first.is_known.none in
        omega arith
    kept (Some t) is = tt
