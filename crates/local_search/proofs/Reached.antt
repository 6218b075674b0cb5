-- What a tree reaches as a list, and that it is what a branch says.
use Rattle.std.proofs.Common.{◌≡◌, ℕ, ◌+◌, ◌<◌, ◌||◌, List, [], ◌∷◌, ◌++◌, map, inl, inr, refl, sym, ap, ◌∙◌, arith}
use Rattle.std.specs.Prelude.{◌==◌, ◌↔◌, All, Contains, IsTrue, IsFalse}
use Rattle.std.proofs.lemmas.Bool.{cases_Bool, both_ways}
use Rattle.std.proofs.lemmas.List.Elements.{All-contains, All-contains_itself, All-weaker}
use Rattle.st_model.specs.declared.branch.Branch.{Branch}
use Rattle.st_model.specs.declared.tree.Tree.{Tree}
use Rattle.st_model.specs.Arborescence.{reached, reached_from}
use Rattle.st_model.specs.Branch.{IsVertexSet, ReachesAsTold}
use Rattle.st_model.specs.Lists.{has}
use Rattle.st_model.proofs.Booleans.{or_left_comm}
use Rattle.st_model.proofs.Branches.{IsVertexSet-member}
use Rattle.st_model.proofs.Members.{has-append, Contains-from_has, has-from_Contains}

-- what is reached at first and the heads are all that is reached
pub has-heads : (r : List ℕ) (arcs : List (ℕ × ℕ)) (v : ℕ) → has (map (λ arc. arc.1) arcs ++ r) v ≡ has (reached_from r arcs) v
has-heads r [] v = refl
has-heads r (arc ∷ arcs) v =
    let heads : List ℕ = map (λ arc. arc.1) arcs in
    let first : ((arc.1 == v) || has (heads ++ r) v) ≡ ((arc.1 == v) || (has heads v || has r v)) = ap (λ b. (arc.1 == v) || b) (has-append heads r v) in
    let turned : ((arc.1 == v) || (has heads v || has r v)) ≡ (has heads v || has (arc.1 ∷ r) v) = or_left_comm (arc.1 == v) (has heads v) (has r v) in
    let joined : (has heads v || has (arc.1 ∷ r) v) ≡ has (heads ++ arc.1 ∷ r) v = sym (has-append heads (arc.1 ∷ r) v) in
    first ∙ turned ∙ joined ∙ has-heads (arc.1 ∷ r) arcs v

-- a tree reaches what a branch says where a set of what it reaches has all that is inside, and nothing that is reached is outside
pub reaches_iff : (n : ℕ) (B : Branch) (t : Tree) (list members : List ℕ) → IsVertexSet n B.inside → ((v : ℕ) → has list v ≡ has (reached t) v) → ((v : ℕ) → v < n + 1 → has members v ≡ has list v) → (All (λ v. IsTrue (has members v)) B.inside × All (λ v. IsFalse (has B.outside v)) list) ↔ ReachesAsTold B t
reaches_iff n B t list members set same marked = (to, from)
  where
    marks : (v : ℕ) → IsTrue (has B.inside v) → has members v ≡ has (reached t) v
    marks v member =
        let range = IsVertexSet-member n B.inside v set member in
        marked v (omega (arith, range.1)) ∙ same v

    to : All (λ v. IsTrue (has members v)) B.inside × All (λ v. IsFalse (has B.outside v)) list → ReachesAsTold B t
    to all = record {
      inside = λ v member. sym (marks v member) ∙ All-contains (λ w. IsTrue (has members w)) B.inside v all.0 (Contains-from_has B.inside v member);
      outside = λ v member. elim (cases_Bool (has (reached t) v)) [
        | inl reaches ↦ absurd (both_ways (has B.outside v) (All-contains (λ w. IsFalse (has B.outside w)) list v all.1 (Contains-from_has list v (same v ∙ reaches))) member)
        | inr misses ↦ misses
      ];
    }

    from : ReachesAsTold B t → All (λ v. IsTrue (has members v)) B.inside × All (λ v. IsFalse (has B.outside v)) list
    from reaches = (
      All-weaker (Contains B.inside) (λ v. IsTrue (has members v)) (λ v member. let is = has-from_Contains B.inside v member in marks v is ∙ reaches.inside v is) B.inside (All-contains_itself B.inside),
      All-weaker (Contains list) (λ v. IsFalse (has B.outside v)) (λ v there. elim (cases_Bool (has B.outside v)) [
        | inl out ↦ absurd (both_ways (has (reached t) v) (reaches.outside v out) (sym (same v) ∙ has-from_Contains list v there))
        | inr present ↦ present
      ]) list (All-contains_itself list),
    )
