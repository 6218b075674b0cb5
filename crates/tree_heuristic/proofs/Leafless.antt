-- Where each head and the start are worth their arcs, no leaf is to spare.
use Rattle.std.proofs.Common.{◌≡◌, ℕ, ◌+◌, ◌<◌, ◌≤◌, Bool, true, false, cond, ◌||◌, inl, inr, List, [], ◌∷◌, refl, sym, ap, subst, ◌∙◌, arith}
use Rattle.std.specs.Prelude.{◌==◌, IsTrue, IsFalse}
use Rattle.std.proofs.lemmas.Bool.{or_right, false_from_ne_true, or_cases, or_parts, eqb-true, eq-eqb, ltb-false}
use Rattle.st_model.specs.declared.branch.Branch.{Branch}
use Rattle.st_model.specs.declared.tree.Tree.{Tree}
use Rattle.st_model.specs.Arborescence.{Grows, IsArborescence, IsTree, arc_cost, reached}
use Rattle.st_model.specs.Branch.{IsBranch, ReachesAsTold, is_certain}
use Rattle.st_model.specs.Lists.{has}
use Rattle.st_model.specs.Network.{Network, IsInstance, IsVertex, is_required, pays}
use Rattle.st_model.proofs.Branches.{IsVertexSet-member}
use Rattle.st_model.proofs.ThinGrowth.{linked-vertices}
use Rattle.tree_heuristic.specs.Keeping.{AreWorth, IsPruned, IsStartWorth, is_spare, is_tail, must}
use Rattle.tree_heuristic.specs.Leaves.{NoLeafToSpare, arcs_at, is_end}
use Rattle.tree_heuristic.proofs.Found.{clash}
use Rattle.tree_heuristic.proofs.Trimming.{first_tail}

-- no arc leads from a vertex that is no end
no_end : (arcs : List (ℕ × ℕ)) (v : ℕ) → arcs_at arcs v ≡ [] → IsFalse (is_tail arcs v)
no_end [] v h = refl
no_end (x ∷ arcs) v h = by_case (is_end v x) refl h (no_end arcs v)
  where
    by_case : (b : Bool) → is_end v x ≡ b → cond b (x ∷ arcs_at arcs v) (arcs_at arcs v) ≡ [] → (arcs_at arcs v ≡ [] → IsFalse (is_tail arcs v)) → ((x.0 == v) || is_tail arcs v) ≡ false
    by_case true is at rest = absurd (let no : ⊥ = cc in no)
    by_case false is at rest = rw ((or_parts (x.0 == v) (x.1 == v) is).0, rest at) refl

-- what isn't to spare and may be left out pays for its arc
worth_pays : (I : Network) (inside : List ℕ) (v : ℕ) (arc : ℕ × ℕ) → IsFalse (is_spare I inside v arc) → IsFalse (must I inside v) → arc_cost I arc ≤ pays I v
worth_pays I inside v arc worth free = ltb-false (pays I v) (arc_cost I arc) (rw free at worth)

-- a leaf that isn't reached beforehand
leaf_beyond : (I : Network) (inside : List ℕ) (r : List ℕ) (arcs : List (ℕ × ℕ)) (v : ℕ) (arc : ℕ × ℕ) → Grows I r arcs → AreWorth I inside arcs → IsFalse (has r v) → arcs_at arcs v ≡ arc ∷ [] → IsFalse (must I inside v) → arc_cost I arc ≤ pays I v
leaf_beyond I inside r [] v arc g w off at free = absurd (let no : ⊥ = cc in no)
leaf_beyond I inside r (x ∷ arcs) v arc g w off at free = by_case (is_end v x) refl at (λ b h. leaf_beyond I inside (x.1 ∷ r) arcs v arc g.3 w.1 b h free)
  where
    by_case : (b : Bool) → is_end v x ≡ b → cond b (x ∷ arcs_at arcs v) (arcs_at arcs v) ≡ arc ∷ [] → (IsFalse (has (x.1 ∷ r) v) → arcs_at arcs v ≡ arc ∷ [] → arc_cost I arc ≤ pays I v) → arc_cost I arc ≤ pays I v
    by_case true is h rest =
        let same : x ≡ arc = cc in
        let none : arcs_at arcs v ≡ [] = cc in
        elim (or_cases (x.0 == v) (x.1 == v) is) [
          | inl e ↦ absurd (clash (subst (λ a. IsTrue (has r a)) (eqb-true x.0 v e) g.1) off)
          | inr e ↦
              let here : x.1 ≡ v = eqb-true x.1 v e in
              let worth : IsFalse (is_spare I inside v x) = subst (λ a. IsFalse (is_spare I inside a x)) here (w.0 (subst (λ a. IsFalse (is_tail arcs a)) (sym here) (no_end arcs v none))) in
              subst (λ (a : ℕ × ℕ). arc_cost I a ≤ pays I v) same (worth_pays I inside v x worth free)
        ]
    by_case false is h rest = rest (rw ((or_parts (x.0 == v) (x.1 == v) is).1) off) h

-- any leaf
leaf_pays : (I : Network) (inside : List ℕ) (start : ℕ) (arcs : List (ℕ × ℕ)) (v : ℕ) (arc : ℕ × ℕ) → Grows I (start ∷ []) arcs → AreWorth I inside arcs → IsStartWorth I inside start arcs → arcs_at arcs v ≡ arc ∷ [] → IsFalse (must I inside v) → arc_cost I arc ≤ pays I v
leaf_pays I inside start arcs v arc g w s at free = by_case (start == v) refl
  where
    at_start : (arcs : List (ℕ × ℕ)) → start ≡ v → Grows I (start ∷ []) arcs → IsStartWorth I inside start arcs → arcs_at arcs v ≡ arc ∷ [] → arc_cost I arc ≤ pays I v
    at_start [] here g s at = absurd (let no : ⊥ = cc in no)
    at_start (x ∷ arcs) here g s at = by_end (is_end v x) refl at
      where
        by_end : (b : Bool) → is_end v x ≡ b → cond b (x ∷ arcs_at arcs v) (arcs_at arcs v) ≡ arc ∷ [] → arc_cost I arc ≤ pays I v
        by_end true is h =
            let same : x ≡ arc = cc in
            let none : arcs_at arcs v ≡ [] = cc in
            let worth : IsFalse (is_spare I inside v x) = subst (λ a. IsFalse (is_spare I inside a x)) here (s (subst (λ a. IsFalse (is_tail arcs a)) (sym here) (no_end arcs v none))) in
            subst (λ (a : ℕ × ℕ). arc_cost I a ≤ pays I v) same (worth_pays I inside v x worth free)
        by_end false is h =
            let first : x.0 ≡ v = sym (first_tail I start x arcs g) ∙ here in
            absurd (clash (eq-eqb x.0 v first) ((or_parts (x.0 == v) (x.1 == v) is).0))

    by_case : (b : Bool) → (start == v) ≡ b → arc_cost I arc ≤ pays I v
    by_case true is = at_start arcs (eqb-true start v is) g s at
    by_case false is = leaf_beyond I inside (start ∷ []) arcs v arc g w (rw is refl) at free

-- an end of an arc is reached, so in range
end_vertex : (I : Network) (r : List ℕ) (arcs : List (ℕ × ℕ)) (v : ℕ) (arc : ℕ × ℕ) → IsInstance I → Grows I r arcs → arcs_at arcs v ≡ arc ∷ [] → IsVertex I.n v
end_vertex I r [] v arc instance g at = absurd (let no : ⊥ = cc in no)
end_vertex I r (x ∷ arcs) v arc instance g at = by_case (is_end v x) refl at (λ h. end_vertex I (x.1 ∷ r) arcs v arc instance g.3 h)
  where
    by_case : (b : Bool) → is_end v x ≡ b → cond b (x ∷ arcs_at arcs v) (arcs_at arcs v) ≡ arc ∷ [] → (arcs_at arcs v ≡ arc ∷ [] → IsVertex I.n v) → IsVertex I.n v
    by_case true is h rest = elim (or_cases (x.0 == v) (x.1 == v) is) [
      | inl e ↦ subst (IsVertex I.n) (eqb-true x.0 v e) (linked-vertices I x.0 x.1 instance g.0).0
      | inr e ↦ subst (IsVertex I.n) (eqb-true x.1 v e) (linked-vertices I x.0 x.1 instance g.0).1
    ]
    by_case false is h rest = rest h

-- the set that the code keeps is the inside
must_certain : (I : Network) (B : Branch) (inside : List ℕ) (v : ℕ) → has inside v ≡ has B.inside v → must I inside v ≡ is_certain I B v
must_certain I B inside v same = ap (λ b. is_required I v || b) same

pub no_leaf_to_spare : (I : Network) (B : Branch) (inside : List ℕ) (t : Tree) → IsInstance I → ((v : ℕ) → v < I.n + 1 → has inside v ≡ has B.inside v) → IsArborescence I t → AreWorth I inside t.arcs → IsStartWorth I inside t.start t.arcs → NoLeafToSpare I B t
no_leaf_to_spare I B inside t instance same tree worth start v arc at free =
    let high = (end_vertex I (t.start ∷ []) t.arcs v arc instance tree.grows at).1 in
    leaf_pays I inside t.start t.arcs v arc tree.grows worth start at (must_certain I B inside v (same v (omega arith)) ∙ free)

-- what is left is a tree that reaches what the branch says
pub pruned_tree : (I : Network) (B : Branch) (inside : List ℕ) (old new : Tree) → IsInstance I → IsTree I old → IsPruned I inside old new → IsTree I new
pruned_tree I B inside old new instance tree is = record {
  arborescence = is.arborescence;
  required = λ v vertex h. is.keeps v (rw h refl) (tree.required v vertex h);
}

pub pruned_reaches : (I : Network) (B : Branch) (inside : List ℕ) (old new : Tree) → IsBranch I B → ((v : ℕ) → v < I.n + 1 → has inside v ≡ has B.inside v) → ReachesAsTold B old → IsPruned I inside old new → ReachesAsTold B new
pruned_reaches I B inside old new branch same reaches is = record {
  inside = λ v h.
      let high = (IsVertexSet-member I.n B.inside v branch.inside h).1 in
      is.keeps v (or_right (is_required I v) _ (same v (omega arith) ∙ h)) (reaches.inside v h);
  outside = λ v h. false_from_ne_true (has (reached new) v) (λ there. clash (is.within v there) (reaches.outside v h));
}
