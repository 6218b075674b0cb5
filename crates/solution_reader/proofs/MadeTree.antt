-- A claim in which nothing is wrong is a tree of the instance.
use Rattle.std.proofs.Common.{◌≡◌, ℕ, Bool, true, false, List, [], ◌∷◌, get_or, Option, Some, None, inl, inr, refl, sym, subst, ◌∙◌, arith}
use Rattle.std.specs.Prelude.{◌==◌, IsTrue, IsSome, All}
use Rattle.std.specs.List.{AllByRecursion}
use Rattle.std.proofs.lemmas.Bool.{or_cases, or_left, cases_lt, false≢true, eqb-true, eq-eqb}
use Rattle.std.proofs.lemmas.List.{get_or_default}
use Rattle.std.proofs.lemmas.List.Elements.{recursion_from_All}
use Rattle.st_model.specs.declared.tree.Tree.{Tree}
use Rattle.st_model.specs.Arborescence.{IsArborescence, reached}
use Rattle.st_model.specs.Ground.{ground}
use Rattle.st_model.specs.Lists.{has}
use Rattle.st_model.specs.Made.{is_between, has_pair, IsMadeOf, AreConnectedFrom}
use Rattle.st_model.specs.Network.{Network, IsVertex, link, is_required}
use Rattle.st_model.proofs.Booleans.{same_test}
use Rattle.st_model.proofs.Distinct.{between-ends}
use Rattle.st_model.proofs.Reaching.{reached_in}
use Rattle.st_model.proofs.ThinGrowth.{has-reached_from}
use Rattle.solution_reader.specs.Claim.{Claim, IsClaim}
use Rattle.solution_reader.specs.Stated.{IsClaimedTree, IsApart, HasStranger}
use Rattle.solution_reader.specs.Fitting.{IsFitting}
use Rattle.solution_reader.proofs.EdgesOnce.{grows_once, all_of_them}
use Rattle.solution_reader.proofs.Lengths.{length-reached, apart-reached, same_length}

pub is_vertex : (I : Network) (claim : Claim) (v : ℕ) → (HasStranger I claim → ⊥) → IsTrue (has claim.vertices v) → IsVertex I.n v
is_vertex I claim v none there = elim (cases_lt v 1) [
  | inl zero ↦ absurd (none (v, there, λ h. let low = h.0 in omega arith))
  | inr low ↦ elim (cases_lt I.n v) [
    | inl above ↦ absurd (none (v, there, λ h. let high = h.1 in omega arith))
    | inr high ↦ (low, high)
  ]
]

pub are_links : (I : Network) (claim : Claim) → IsFitting I claim → All (λ edge. IsSome (link I.links edge.0 edge.1)) claim.edges
are_links I claim f k d within = by_case (link I.links (get_or claim.edges k d).0 (get_or claim.edges k d).1) refl
  where
    by_case : (o : Option ℕ) → link I.links (get_or claim.edges k d).0 (get_or claim.edges k d).1 ≡ o → IsSome o
    by_case None is = absurd (f.links (get_or claim.edges k d, (k, within, get_or_default claim.edges k (get_or claim.edges k d) d within), is))
    by_case (Some x) is = refl

-- whatever each edge has at both ends or at neither, all vertices have or none
pub joined : (claim : Claim) → (IsApart claim → ⊥) → (S : ℕ → Bool) → All (λ edge. S edge.0 ≡ S edge.1) claim.edges → (u v : ℕ) → IsTrue (has claim.vertices u) → IsTrue (has claim.vertices v)
    → S u ≡ S v
joined claim none S along u v u_there v_there = by_case (S u) (S v) refl refl
  where
    by_case : (a b : Bool) → S u ≡ a → S v ≡ b → a ≡ b
    by_case true true p q = refl
    by_case false false p q = refl
    by_case true false p q = absurd (none (record { side = S; along = along; one = u; one_there = u_there; one_side = p; other = v; other_there = v_there; other_side = q }))
    by_case false true p q = absurd (none (record { side = S; along = along; one = v; one_there = v_there; one_side = q; other = u; other_there = u_there; other_side = p }))

pub connected : (I : Network) (claim : Claim) (start : ℕ) → IsClaim claim → IsFitting I claim → IsTrue (has claim.vertices start) → AreConnectedFrom start claim.edges
connected I claim start is f there = λ S first along k d within. joined claim f.joined S along (get_or claim.edges k d).0 start (is.ends k d within).0 there ∙ first

-- both ends of a pair that stands are vertices of the claim
ends_there : (vs : List ℕ) (edges : List (ℕ × ℕ)) (u v : ℕ) → AllByRecursion (λ e. IsTrue (has vs e.0) × IsTrue (has vs e.1)) edges → has_pair edges u v ≡ true → IsTrue (has vs v)
ends_there vs [] u v ends h = absurd (false≢true h)
ends_there vs (e ∷ es) u v ends h = elim (or_cases (is_between e u v) (has_pair es u v) h) [
  | inl here ↦ elim (between-ends e u v here) [
    | inl p ↦ subst (λ (w : ℕ). IsTrue (has vs w)) p.1 ends.0.1
    | inr p ↦ subst (λ (w : ℕ). IsTrue (has vs w)) p.0 ends.0.0
  ]
  | inr there ↦ ends_there vs es u v ends.1 there
]

heads_there : (vs : List ℕ) (edges arcs : List (ℕ × ℕ)) → AllByRecursion (λ e. IsTrue (has vs e.0) × IsTrue (has vs e.1)) edges
    → AllByRecursion (λ arc. IsTrue (has_pair edges arc.0 arc.1)) arcs → AllByRecursion (λ arc. IsTrue (has vs arc.1)) arcs
heads_there vs edges [] ends made = tt
heads_there vs edges (arc ∷ arcs) ends made = (ends_there vs edges arc.0 arc.1 ends made.0, heads_there vs edges arcs ends made.1)

-- a tree reaches its start
pub start_there : (t : Tree) → has (reached t) t.start ≡ true
start_there t = has-reached_from (t.start ∷ []) t.arcs t.start (or_left (t.start == t.start) false (eq-eqb t.start t.start refl))

module _ (I : Network) (claim : Claim) (start : ℕ) (t : Tree) (is : IsClaim claim) (f : IsFitting I claim) (there : IsTrue (has claim.vertices start)) (begins : t.start ≡ start)
    (tree : IsArborescence I t) (made : IsMadeOf claim.edges t) (ends : All (λ pair. IsTrue (has (reached t) pair.0) × IsTrue (has (reached t) pair.1)) claim.edges) where
  begins_there : IsTrue (has claim.vertices t.start)
  begins_there = subst (λ (w : ℕ). IsTrue (has claim.vertices w)) (sym begins) there

  same_vertices : IsTrue (has (reached t) t.start) → (v : ℕ) → has claim.vertices v ≡ has (reached t) v
  same_vertices first v = same_test (has claim.vertices v) (has (reached t) v)
      (λ h. joined claim f.joined (has (reached t)) (λ k d within. (ends k d within).0 ∙ sym (ends k d within).1) v t.start h begins_there ∙ first)
      (reached_in (λ w. IsTrue (has claim.vertices w)) (t.start ∷ []) t.arcs (λ w h. elim (or_cases (t.start == w) false h) [
        | inl same ↦ subst (λ (x : ℕ). IsTrue (has claim.vertices x)) (eqb-true t.start w same) begins_there
        | inr none ↦ absurd (false≢true none)
      ]) (heads_there claim.vertices claim.edges t.arcs (recursion_from_All _ claim.edges is.ends) (recursion_from_All (λ arc. IsTrue (has_pair claim.edges arc.0 arc.1)) t.arcs made)) v)

  pub is_claimed_tree : IsTrue (has (reached t) t.start) → IsClaimedTree I claim t
  is_claimed_tree first =
      let vertices = same_vertices first in
      let long = same_length claim.vertices (reached t) is.ascending (apart-reached (ground I) (t.start ∷ []) t.arcs tree.grows (refl, tt)) vertices in
      let reached_are = length-reached (t.start ∷ []) t.arcs in
      let few = f.few in
      record {
        tree = record { arborescence = tree; required = λ v vertex needed. required v vertex needed (has claim.vertices v) refl };
        vertices = vertices;
        edges = all_of_them t.arcs claim.edges (grows_once (ground I) (t.start ∷ []) t.arcs tree.grows) (recursion_from_All (λ arc. IsTrue (has_pair claim.edges arc.0 arc.1)) t.arcs made) (omega
            (arith, long, reached_are, few));
      }
    where
      required : (v : ℕ) → IsVertex I.n v → IsTrue (is_required I v) → (b : Bool) → has claim.vertices v ≡ b → IsTrue (has (reached t) v)
      required v vertex needed true h = sym (same_vertices first v) ∙ h
      required v vertex needed false h = absurd (f.required (v, record { vertex = vertex; required = needed }, h))
