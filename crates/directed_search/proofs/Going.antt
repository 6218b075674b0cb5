-- A search goes on: it begins, counts a node, closes or splits it, and finds better trees.
use Rattle.std.proofs.Common.{◌≡◌, ℕ, ◌+◌, ◌^◌, ◌<◌, ◌≤◌, min, List, [], ◌∷◌, ◌++◌, Option, Some, None, length, ◌⊎◌, inl, inr, refl, sym, ap, ◌∙◌, subst, append_assoc, arith}
use Rattle.std.specs.Prelude.{All, IfSome, MatchOption}
use Rattle.std.specs.List.{AllByRecursion}
use Rattle.std.proofs.lemmas.List.{append-nil}
use Rattle.std.proofs.lemmas.List.Elements.{All-head, All-nil, All-pop, All-push, All-tail, All-from_recursion, recursion_from_All}
use Rattle.st_model.specs.declared.branch.Branch.{Branch}
use Rattle.st_model.specs.declared.split_at.SplitAt.TheVariants.{Vertex}
use Rattle.st_model.specs.declared.tree.Tree.{Tree}
use Rattle.st_model.specs.Arborescence.{IsTreeIn, cost_in}
use Rattle.st_model.specs.Branch.{IsVertexSet, all_trees, with_inside, with_outside}
use Rattle.st_model.specs.Network.{IsVertex}
use Rattle.st_model.proofs.Members.{length-has}
use Rattle.cut_packing.specs.declared.cut.Cut.{Cut}
use Rattle.cut_packing.specs.declared.packing.Packing.{Packing}
use Rattle.cut_packing.specs.Packing.{CutFitsIn, FitsIn, IsRootIn}
use Rattle.cut_packing.specs.ProofTree.{IsSplitIn, close, split}
use Rattle.cut_packing.proofs.Duality.{named_vertex}
use Rattle.arborescence.specs.DiNetwork.{DiNetwork, IsDiNetwork, di_ground}
use Rattle.arborescence.proofs.DiWeights.{weighs_cuts}
use Rattle.log_format.specs.declared.log.Version.TheVariants.{Two}
use Rattle.log_format.specs.declared.proof_line.ProofLine.{ProofLine}
use Rattle.log_format.specs.declared.proof_line.ProofLine.TheVariants.{Split, Close}
use Rattle.log_format.specs.Accepts.{ProvesOfIn}
use Rattle.log_format.specs.Preorder.{preorder}
use Rattle.log_format.specs.Text.{IsAnyVertex, IsWritableCut, IsWritableLine, IsWritablePacking}
use Rattle.directed_search.specs.declared.open_node.OpenNode.{OpenNode}
use Rattle.directed_search.specs.Found.{di_free_vertices}
use Rattle.directed_search.specs.State.{State, IsImproved, begun, closed_by, counted, split_at, worth}
use Rattle.directed_search.specs.Searching.{IsAt, IsDiBranch, IsDiPacking, IsInHand, IsOpen, IsSearching, ProveEach, Weighs, nodes_left}
use Rattle.directed_search.proofs.Counting.{all_nodes}
use Rattle.directed_search.proofs.Worked.{lines_counted}

-- a vertex of the instance can be written
pub any_vertex : (D : DiNetwork) (v : ℕ) → IsDiNetwork D → IsVertex D.n v → IsAnyVertex v
any_vertex D v net vertex = (vertex.0, omega (arith, vertex.1, net.few_vertices))

any_vertices : (n : ℕ) (set : List ℕ) → n ≤ 1000000 → AllByRecursion (IsVertex n) set → AllByRecursion (IsVertex 1000000) set
any_vertices n [] few h = tt
any_vertices n (v ∷ vs) few h = ((h.0.0, omega (arith, h.0.1)), any_vertices n vs few h.1)

-- and so can a set of vertices
pub writable_set : (D : DiNetwork) (set : List ℕ) → IsDiNetwork D → IsVertexSet D.n set → IsVertexSet 1000000 set
writable_set D set net is = record {
  ascending = is.ascending;
  in_range = All-from_recursion (IsVertex 1000000) set (any_vertices D.n set net.few_vertices (recursion_from_All (IsVertex D.n) set is.in_range));
}

writable_cuts : (D : DiNetwork) (B : Branch) (cuts : List Cut) → IsDiNetwork D → AllByRecursion (CutFitsIn (di_ground D) B) cuts → AllByRecursion (λ c. IsVertexSet D.n c.set) cuts → AllByRecursion (λ c. c.y < 2 ^ 64) cuts → AllByRecursion IsWritableCut cuts
writable_cuts D B [] net fits sets small = tt
writable_cuts D B (c ∷ cuts) net fits sets small = (
  record {
    q = any_vertex D c.q net (named_vertex (di_ground D) B c fits.0);
    y = small.0;
    set = record { some = length-has c.set c.q fits.0.member; vertices = writable_set D c.set net sets.0 };
  },
  writable_cuts D B cuts net fits.1 sets.1 small.1,
)

-- a packing that fits can be written
pub writable_packing : (D : DiNetwork) (B : Branch) (P : Packing) → IsDiNetwork D → IsDiPacking D B P → All (λ c. c.y < 2 ^ 64) P.cuts → length P.cuts < 2 ^ 64 → IsWritablePacking P
writable_packing D B P net is small few = record {
  root = by_root P.root is.fits.root;
  few_cuts = few;
  cuts = All-from_recursion IsWritableCut P.cuts (writable_cuts D B P.cuts net (recursion_from_All _ P.cuts is.fits.cuts) (recursion_from_All (λ (c : Cut). IsVertexSet D.n c.set) P.cuts is.sets) (recursion_from_All (λ (c : Cut). c.y < 2 ^ 64) P.cuts small));
}
  where
    by_root : (root : Option ℕ) → MatchOption root (P.cuts ≡ []) (IsRootIn (di_ground D) B P.cuts) → IfSome root IsAnyVertex
    by_root None none = tt
    by_root (Some r) root = any_vertex D r net root.vertex

-- nothing is done yet
pub searching_begins : (D : DiNetwork) (t : Tree) (budget : ℕ) → IsTreeIn (di_ground D) t → IsSearching D (begun t (cost_in (di_ground D) t) budget) (nodes_left D (all_trees ∷ [])) (all_trees ∷ [])
searching_begins D t budget tree = record {
  is_tree = tree;
  is_cost = refl;
  is_below = omega arith;
  within = omega arith;
  goes_on = λ x low rest each. (each.0, each.2 ∙ (ap (λ r. preorder each.0 ++ r) each.4 ∙ append-nil (preorder each.0)), each.3);
  greatest = λ x low all. low;
  spent = λ less. absurd (omega arith);
  writable = All-nil (IsWritableLine Two);
  enough = λ h. (omega (arith, all_nodes D budget h), refl);
}

-- fewer nodes may be left
pub fewer_left : (D : DiNetwork) (s : State) (m n : ℕ) (Bs : List Branch) → m ≤ n → IsSearching D s n Bs → IsSearching D s m Bs
fewer_left D s m n Bs less h = record {
  is_tree = h.is_tree;
  is_cost = h.is_cost;
  is_below = h.is_below;
  within = h.within;
  goes_on = h.goes_on;
  greatest = h.greatest;
  spent = h.spent;
  writable = h.writable;
  enough = λ budget. let before = h.enough budget in (omega arith, before.1);
}

-- a node is counted, and worked on
pub taken : (D : DiNetwork) (s : State) (N : OpenNode) (waiting : List OpenNode) → s.expanded < s.budget → IsAt D s (N ∷ waiting) → IsInHand D (counted s) N.branch waiting
taken D s N waiting room at = record {
  branch = (All-head (IsOpen D) N waiting at.each).branch;
  each = All-tail (IsOpen D) N waiting at.each;
  searching = record {
    is_tree = at.searching.is_tree;
    is_cost = at.searching.is_cost;
    is_below = at.searching.is_below;
    within = omega arith;
    goes_on = at.searching.goes_on;
    greatest = at.searching.greatest;
    spent = λ less. absurd (let before = at.searching.spent less in omega arith);
    writable = at.searching.writable;
    enough = λ budget. let before = at.searching.enough budget in (omega (arith, before.0), before.1);
  };
  worked = lines_counted s at.worked;
}

-- a close is heavy, or no budget is left and a node is
abbrev pub MayClose : State → ℕ → Packing → Type 0
MayClose s n P = (s.primal ≤ worth P) ⊎ ((s.budget ≤ s.expanded) × (0 < n))

-- the first branch that is left is closed
pub closes : (D : DiNetwork) (s : State) (n m : ℕ) (B : Branch) (Bs : List Branch) (P : Packing) → IsSearching D s n (B ∷ Bs) → IsDiBranch D B → FitsIn (di_ground D) B P → IsWritablePacking P → m ≤ n → MayClose s n P → IsSearching D (closed_by s P) m Bs
closes D s n m B Bs P h branch fits writable less may = record {
  is_tree = h.is_tree;
  is_cost = h.is_cost;
  is_below = let below = h.is_below in omega arith;
  within = h.within;
  goes_on = λ x low rest each.
      let weighs = weighs_cuts D B P branch.no_must in
      subst (λ (lines : List ProofLine). ProvesOfIn (di_ground D) all_trees x lines) (sym (append_assoc s.lines (Close P ∷ []) rest)) (h.goes_on x (omega arith) (Close P ∷ rest) (close P, rest, refl, record { fits = fits; weighs = omega arith }, each));
  greatest = λ x low all.
      let parts = All-pop (Weighs x) (s.lines ++ Close P ∷ []) s.lines (Some (Close P)) refl all in
      let before = h.greatest x low parts.0 in
      let last : x ≤ worth P = parts.1 in
      omega arith;
  spent = by_spent may;
  writable = All-push (IsWritableLine Two) s.lines (Close P) h.writable writable;
  enough = by_enough may;
}
  where
    by_spent : MayClose s n P → min s.least (worth P) < s.primal → s.budget ≤ s.expanded
    by_spent (inl heavy) light = h.spent (omega arith)
    by_spent (inr none) light = none.0

    by_enough : MayClose s n P → 2 ^ (di_free_vertices D + 1) ≤ s.budget → (s.expanded + m ≤ s.budget) × (min s.least (worth P) ≡ s.primal)
    by_enough (inl heavy) budget = let before = h.enough budget in (omega (arith, before.0), omega (arith, before.1))
    by_enough (inr none) budget = let before = h.enough budget in absurd (omega (arith, before.0, none.0, none.1))

-- it is split at a vertex
pub splits : (D : DiNetwork) (s : State) (n m : ℕ) (B : Branch) (Bs : List Branch) (v : ℕ) → IsSearching D s n (B ∷ Bs) → IsSplitIn (di_ground D) B v → IsAnyVertex v → m ≤ n → IsSearching D (split_at s v) m (with_inside B v ∷ with_outside B v ∷ Bs)
splits D s n m B Bs v h may writable less = record {
  is_tree = h.is_tree;
  is_cost = h.is_cost;
  is_below = h.is_below;
  within = h.within;
  goes_on = goes_on;
  greatest = λ x low all. h.greatest x low (All-pop (Weighs x) (s.lines ++ Split (Vertex v) ∷ []) s.lines (Some (Split (Vertex v))) refl all).0;
  spent = h.spent;
  writable = All-push (IsWritableLine Two) s.lines (Split (Vertex v)) h.writable writable;
  enough = λ budget. let before = h.enough budget in (omega (arith, before.0), before.1);
}
  where
    goes_on : (x : ℕ) → x ≤ s.least → (rest : List ProofLine) → ProveEach D x (with_inside B v ∷ with_outside B v ∷ Bs) rest → ProvesOfIn (di_ground D) all_trees x ((s.lines ++ Split (Vertex v) ∷ []) ++ rest)
    goes_on x low rest (p, after, first, inside, (q, more, second, outside, each)) =
        let lines : rest ≡ (preorder p ++ preorder q) ++ more = first ∙ (ap (λ r. preorder p ++ r) second ∙ sym (append_assoc (preorder p) (preorder q) more)) in
        subst (λ (lines : List ProofLine). ProvesOfIn (di_ground D) all_trees x lines) (sym (append_assoc s.lines (Split (Vertex v) ∷ []) rest))
        (h.goes_on x low (Split (Vertex v) ∷ rest) (split (Vertex v) p q, more, ap (λ (r : List ProofLine). Split (Vertex v) ∷ r) lines, (may, inside, outside), each))

-- a better tree is found
pub improves : (D : DiNetwork) (s t : State) (n : ℕ) (Bs : List Branch) → IsSearching D s n Bs → IsImproved D s t → IsSearching D t n Bs
improves D s t n Bs h better = record {
  is_tree = better.is_tree h.is_tree;
  is_cost = better.is_cost h.is_cost;
  is_below = omega (arith, least);
  within = rw (better.budget, better.expanded) h.within;
  goes_on = λ x low rest each. rw better.lines (h.goes_on x (omega (arith, least, low)) rest each);
  greatest = λ x low all.
      let lower = better.no_more in
      let before = h.greatest x (omega arith) (rw better.lines at all) in
      omega (arith, least, before, low);
  spent = λ less. let lower = better.no_more in rw (better.budget, better.expanded) (h.spent (omega (arith, least, less)));
  writable = rw better.lines h.writable;
  enough = λ budget. let before = h.enough (rw better.budget at budget) in let lower = better.no_more in (rw (better.budget, better.expanded) before.0, omega (arith, least, before.1));
}
  where
    least : t.least ≡ min s.least t.primal
    least = better.least h.is_below
