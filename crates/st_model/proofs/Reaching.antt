-- What arcs reach that grow.
use Rattle.std.proofs.Common.{◌≡◌, ℕ, Bool, List, [], ◌∷◌, inl, inr, refl, sym, subst, ◌∙◌}
use Rattle.std.specs.Prelude.{◌==◌, IsTrue, IsSome, All}
use Rattle.std.specs.List.{AllByRecursion}
use Rattle.std.proofs.lemmas.Bool.{or_cases, eqb-true}
use Rattle.std.proofs.lemmas.List.Elements.{All-nil, All-cons, All-weaker, recursion_from_All}
use Rattle.st_model.specs.declared.tree.Tree.{Tree}
use Rattle.st_model.specs.Lists.{has}
use Rattle.st_model.specs.Network.{Network, IsInstance, IsVertex, link}
use Rattle.st_model.specs.Arborescence.{reached_from, reached, Grows, IsArborescence}
use Rattle.st_model.proofs.Distinct.{has-cons_head, has-cons_tail}
use Rattle.st_model.proofs.Members.{has-one}
use Rattle.st_model.proofs.ThinGrowth.{has-reached_from, linked-vertices}

-- what holds of one vertex and of all others of a list holds of them together
at_first : (P : ℕ → Type 0) (x : ℕ) (r : List ℕ) → P x → ((v : ℕ) → IsTrue (has r v) → P v) → (v : ℕ) → IsTrue (has (x ∷ r) v) → P v
at_first P x r here others v there = elim (or_cases (x == v) (has r v) there) [
  | inl same ↦ subst P (eqb-true x v same) here
  | inr other ↦ others v other
]

-- what holds of all that is reached at first, and of each head, holds of all that is reached
pub reached_in : (P : ℕ → Type 0) (r : List ℕ) (arcs : List (ℕ × ℕ)) → ((v : ℕ) → IsTrue (has r v) → P v) → AllByRecursion (λ arc. P arc.1) arcs → (v : ℕ) → IsTrue (has (reached_from r arcs) v) → P v
reached_in P r [] first heads = first
reached_in P r (arc ∷ arcs) first heads = reached_in P (arc.1 ∷ r) arcs (at_first P arc.1 r heads.0 first) heads.1

-- where a link joins only what is on one side, all that is reached is on the side of what was reached at first
pub one_side : (I : Network) (S : ℕ → Bool) (side : Bool) (r : List ℕ) (arcs : List (ℕ × ℕ)) → ((u v : ℕ) → IsTrue (has (reached_from r arcs) u) → IsTrue (has (reached_from r arcs) v) → IsSome (link I.links u v) → S u ≡ S v) → Grows I r arcs → ((v : ℕ) → IsTrue (has r v) → S v ≡ side) → (v : ℕ) → IsTrue (has (reached_from r arcs) v) → S v ≡ side
one_side I S side r [] same g first = first
one_side I S side r (arc ∷ arcs) same g first =
    let tail = has-reached_from (arc.1 ∷ r) arcs arc.0 (has-cons_tail r arc.1 arc.0 g.1) in
    let head = has-reached_from (arc.1 ∷ r) arcs arc.1 (has-cons_head r arc.1 arc.1 refl) in
    one_side I S side (arc.1 ∷ r) arcs same g.3 (at_first (λ v. S v ≡ side) arc.1 r (sym (same arc.0 arc.1 tail head g.0) ∙ first arc.0 g.1) first)

-- the ends of arcs are vertices
pub ends_are_vertices : (I : Network) (r : List ℕ) (arcs : List (ℕ × ℕ)) → IsInstance I → Grows I r arcs → All (λ arc. IsVertex I.n arc.0 × IsVertex I.n arc.1) arcs
ends_are_vertices I r [] instance g = All-nil (λ arc. IsVertex I.n arc.0 × IsVertex I.n arc.1)
ends_are_vertices I r (arc ∷ arcs) instance g = All-cons (λ arc. IsVertex I.n arc.0 × IsVertex I.n arc.1) arc arcs (linked-vertices I arc.0 arc.1 instance g.0) (ends_are_vertices I (arc.1 ∷ r) arcs instance g.3)

-- what a tree reaches are vertices
pub tree-vertex : (I : Network) (t : Tree) (v : ℕ) → IsInstance I → IsArborescence I t → IsTrue (has (reached t) v) → IsVertex I.n v
tree-vertex I t v instance tree = reached_in (IsVertex I.n) (t.start ∷ []) t.arcs (λ w there. subst (IsVertex I.n) (has-one t.start w there) tree.start) (recursion_from_All _ t.arcs (All-weaker (λ arc. IsVertex I.n arc.0 × IsVertex I.n arc.1) (λ arc. IsVertex I.n arc.1) (λ arc ends. ends.1) t.arcs (ends_are_vertices I (t.start ∷ []) t.arcs instance tree.grows))) v
