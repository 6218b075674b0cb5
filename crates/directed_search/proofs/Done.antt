-- A node that is worked on is done: it is closed, or split.
use Rattle.std.proofs.Common.{◌≡◌, ℕ, ◌+◌, ◌^◌, ◌<◌, ◌≤◌, false, List, [], ◌∷◌, length, Option, Some, None, inl, inr, refl, sym, ◌∙◌, arith}
use Rattle.std.specs.Prelude.{◌==◌, All, IfSome, IsFalse}
use Rattle.std.proofs.lemmas.Bool.{eq-eqb, or_left}
use Rattle.std.proofs.lemmas.List.Elements.{All-append, All-cons, All-head, All-nil, All-tail}
use Rattle.st_model.specs.declared.branch.Branch.{Branch}
use Rattle.st_model.specs.Branch.{IsVertexSet, all_trees, open_price, with_inside, with_outside}
use Rattle.st_model.specs.Lists.{has}
use Rattle.st_model.proofs.Branches.{IsBranch-deciding, IsVertexSet-nil}
use Rattle.cut_packing.specs.declared.packing.Packing.{Packing}
use Rattle.cut_packing.specs.Packing.{CutFitsIn, weight_in}
use Rattle.cut_packing.specs.ProofTree.{IsSplitIn}
use Rattle.arborescence.specs.Ascending.{IsDiExtended}
use Rattle.arborescence.specs.DiNetwork.{DiNetwork, IsDiNetwork, di_ground, is_sought}
use Rattle.arborescence.proofs.DiWeights.{certain_prizes, weighs_cuts}
use Rattle.arborescence.specs.Leaves.{IsRootedPacking}
use Rattle.directed_search.specs.declared.open_node.OpenNode.{OpenNode}
use Rattle.directed_search.specs.State.{State, IsImproved, closed_by, split_at, worth}
use Rattle.directed_search.specs.Searching.{IsAt, IsDiBranch, IsDiPacking, IsDone, IsInHand, IsOpen, branches, free_count, nodes_below, nodes_left}
use Rattle.directed_search.proofs.Counting.{fewer_inside, fewer_outside, halves_below}
use Rattle.directed_search.proofs.Halving.{branch_inside, branch_outside, packing_inside, packing_outside}
use Rattle.directed_search.proofs.Worked.{lines_closed, lines_heavy, lines_improved, lines_split}
use Rattle.directed_search.proofs.Going.{any_vertex, closes, improves, splits, writable_packing}

-- a node is closed since no budget is left
pub spent_closed : (D : DiNetwork) (s t : State) (N : OpenNode) (waiting : List OpenNode) → IsDiNetwork D → IsAt D s (N ∷ waiting) → s.budget ≤ s.expanded → All (λ c. c.y < 2 ^ 64) N.packing.cuts → length N.packing.cuts < 2 ^ 64 → t ≡ closed_by s N.packing → IsDone D N.branch s waiting t waiting
spent_closed D s t N waiting net at none small few is = rw is (record {
  at = record {
    each = All-tail (IsOpen D) N waiting at.each;
    searching = closes D s (nodes_left D (branches (N ∷ waiting))) (nodes_left D (branches waiting)) N.branch (branches waiting) N.packing at.searching node.branch node.packing.fits (writable_packing D N.branch N.packing net node.packing small few) (omega arith) (inr (none, omega arith));
    worked = lines_closed s N.packing at.worked;
  };
  fewer = omega arith;
  budget = refl;
})
  where
    node : IsOpen D N
    node = All-head (IsOpen D) N waiting at.each

-- the node in hand is closed by a packing of the weight of the best tree
pub heavy_closed : (D : DiNetwork) (s t : State) (B : Branch) (P : Packing) (waiting : List OpenNode) → IsDiNetwork D → IsInHand D s B waiting → IsDiPacking D B P → All (λ c. c.y < 2 ^ 64) P.cuts → length P.cuts < 2 ^ 64 → s.primal ≤ weight_in (di_ground D) B P → t ≡ closed_by s P → IsDone D B s waiting t waiting
heavy_closed D s t B P waiting net hand packing small few heavy is = rw is (record {
  at = record {
    each = hand.each;
    searching = closes D s (nodes_below (free_count D B) + nodes_left D (branches waiting)) (nodes_left D (branches waiting)) B (branches waiting) P hand.searching hand.branch packing.fits (writable_packing D B P net packing small few) (omega arith) (inl dear);
    worked = lines_heavy s P dear hand.worked;
  };
  fewer = omega arith;
  budget = refl;
})
  where
    dear : s.primal ≤ worth P
    dear = let weighs = weighs_cuts D B P hand.branch.no_must in omega arith

-- the node in hand is split
pub node_split : (D : DiNetwork) (s t : State) (B : Branch) (P : Packing) (v : ℕ) (waiting new : List OpenNode) → IsDiNetwork D → IsInHand D s B waiting → IsDiPacking D B P → IsSplitIn (di_ground D) B v → t ≡ split_at s v
    → new ≡ record { branch = with_inside B v; packing = P } ∷ record { branch = with_outside B v; packing = P } ∷ waiting → IsDone D B s waiting t new
node_split D s t B P v waiting new net hand packing may is left = rw (is, left) (record {
  at = record {
    each = All-cons (IsOpen D) (record { branch = with_inside B v; packing = P }) (record { branch = with_outside B v; packing = P } ∷ waiting) (record { branch = branch_inside D B v may hand.branch; packing = packing_inside D B v may P packing })
        (All-cons (IsOpen D) (record { branch = with_outside B v; packing = P }) waiting (record { branch = branch_outside D B v may hand.branch; packing = packing_outside D B v may P packing }) hand.each);
    searching = splits D s (nodes_below (free_count D B) + nodes_left D (branches waiting)) (nodes_left D (with_inside B v ∷ with_outside B v ∷ branches waiting)) B (branches waiting) v hand.searching may (any_vertex D v net may.vertex) fewer;
    worked = lines_split s v hand.worked;
  };
  fewer = fewer;
  budget = refl;
})
  where
    fewer : nodes_left D (with_inside B v ∷ with_outside B v ∷ branches waiting) ≤ nodes_below (free_count D B) + nodes_left D (branches waiting)
    fewer =
        let below = halves_below (free_count D B) (free_count D (with_inside B v)) (free_count D (with_outside B v)) (fewer_inside D B v may) (fewer_outside D B v may) in
        omega (arith, below)

-- a better tree changes nothing of what waits
pub hand_improves : (D : DiNetwork) (s t : State) (B : Branch) (waiting : List OpenNode) → IsInHand D s B waiting → IsImproved D s t → IsInHand D t B waiting
hand_improves D s t B waiting hand better = record { branch = hand.branch; each = hand.each; searching = improves D s t (nodes_below (free_count D B) + nodes_left D (branches waiting)) (B ∷ branches waiting) hand.searching better; worked = lines_improved D s t 1 better hand.worked }

pub done_since : (D : DiNetwork) (r s t : State) (B : Branch) (old new : List OpenNode) → r.budget ≡ s.budget → IsDone D B s old t new → IsDone D B r old t new
done_since D r s t B old new same done = record { at = done.at; fewer = done.fewer; budget = done.budget ∙ sym same }

-- packings that others made
pub extended_packing : (D : DiNetwork) (B : Branch) (P new : Packing) → IsDiPacking D B P → IsDiExtended D B P new → IsDiPacking D B new
extended_packing D B P new old more = record {
  fits = more.fits;
  sets = rw more.holds.1 (All-append (λ c. IsVertexSet D.n c.set) P.cuts more.holds.0 old.sets more.holds.2);
}

pub rooted_packing : (D : DiNetwork) (B : Branch) (P : Packing) → IsRootedPacking D B P → IsDiPacking D B P
rooted_packing D B P is = record { fits = is.fits; sets = is.sets }

-- the branch of all trees is one, and without cuts a packing for the root fits it
pub all_trees_branch : (D : DiNetwork) → IsDiBranch D all_trees
all_trees_branch D = record {
  branch = IsBranch-deciding (di_ground D) [] [] (IsVertexSet-nil D.n) (IsVertexSet-nil D.n) (λ v h. absurd cc);
  required = λ v h. absurd cc;
  no_must = refl;
}

pub no_cuts : (D : DiNetwork) → IsDiNetwork D → IsDiPacking D all_trees (record { root = Some D.root; cuts = [] })
no_cuts D net = record {
  fits = record {
    root = record { vertex = net.root; certain = or_left (is_sought D D.root) false (or_left (D.root == D.root) (has D.terminals D.root) (eq-eqb D.root D.root refl)); same = refl; apart = All-nil (λ c. IsFalse (has c.set D.root)) };
    cuts = All-nil (CutFitsIn (di_ground D) all_trees);
    arcs = λ u v tail head. nothing (open_price (di_ground D) all_trees u v);
    prizes = certain_prizes D all_trees [] (All-nil (CutFitsIn (di_ground D) all_trees));
  };
  sets = All-nil (λ c. IsVertexSet D.n c.set);
}
  where
    nothing : (price : Option ℕ) → IfSome price (λ p. 0 ≤ p)
    nothing None = tt
    nothing (Some p) = omega arith
