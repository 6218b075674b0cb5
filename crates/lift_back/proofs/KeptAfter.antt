-- A vertex that goes: what is kept afterwards stands for a state again.
use Rattle.std.proofs.Common.{◌≡◌, ℕ, ◌+◌, ◌-◌, ◌<◌, ◌≤◌, ◌^◌, Bool, true, false, cond, eqb, not, ◌||◌, length, get_or, set, filter, Option, Some, None, refl, sym, ap, subst, ◌∙◌, arith, inl, inr, eq-eqb, is_some}
use Rattle.std.specs.Prelude.{IsTrue, IsFalse, ◌==◌}
use Rattle.std.proofs.lemmas.Bool.{or_cases, cases_lt, eqb-true, false≢true, ne_eqb}
use Rattle.std.proofs.lemmas.Bool.Decides.{nat_tests}
use Rattle.std.proofs.lemmas.List.{get_or-set_same, get_or-set_other, get_or_past, length-set}
use Rattle.std.proofs.lemmas.List.Elements.{recursion_from_All}
use Rattle.st_model.specs.declared.need.Need.TheVariants.{Pays}
use Rattle.st_model.specs.Branch.{IsVertexSet}
use Rattle.st_model.specs.Lists.{has, up_to}
use Rattle.st_model.specs.Network.{IsVertex, amount, link, need_of, is_required}
use Rattle.st_model.proofs.Booleans.{same_test}
use Rattle.st_model.proofs.Branches.{IsVertexSet-member}
use Rattle.st_model.proofs.Links.{linked_ends}
use Rattle.graph_store.specs.Graph.{Graph, IsGraph, is_in}
use Rattle.lift_back.specs.declared.rest.Rest.{Rest}
use Rattle.lift_back.specs.State.{IsState}
use Rattle.lift_back.specs.Steps.{gone_with}
use Rattle.lift_back.specs.Keeping.{absent, count_to, state_of, IsKept}
use Rattle.lift_back.proofs.Counting.{has_passing, passing_set, count_less}

-- whoever isn't present is gone
pub has_absent : (g : Graph) (v : ℕ) → IsVertex g.network.n v → has (absent g) v ≡ not (is_in g v)
has_absent g v vertex = has_passing (λ x. not (is_in g x)) g.network.n v vertex

pub absent_set : (g : Graph) → IsVertexSet g.network.n (absent g)
absent_set g = passing_set (λ x. not (is_in g x)) g.network.n

absent_vertex : (g : Graph) (v : ℕ) → IsTrue (has (absent g) v) → IsVertex g.network.n v
absent_vertex g v gone = IsVertexSet-member g.network.n (absent g) v (absent_set g) gone

-- and whoever isn't gone is present
pub not_gone : (g : Graph) (v : ℕ) → IsVertex g.network.n v → is_in g v ≡ not (has (absent g) v)
not_gone g v vertex = sym (ap not (has_absent g v vertex) ∙ twice (is_in g v))
  where
    twice : (b : Bool) → not (not b) ≡ b
    twice true = refl
    twice false = refl

pub present_in : (g : Graph) (v : ℕ) → IsVertex g.network.n v → IsFalse (has (absent g) v) → IsTrue (is_in g v)
present_in g v vertex here = not_gone g v vertex ∙ ap not here

-- the same vertices are gone where the same are present
pub absent_same : (g h : Graph) → h.network.n ≡ g.network.n → h.present ≡ g.present → absent h ≡ absent g
absent_same g h count same j = filter (λ v. not (cond (eqb v 0) false (get_or (same j) (v - 1) false))) (up_to (count j))

-- what the graph says of what is kept
pub state_kept : (r : Rest) → IsGraph r.store → ((w : ℕ) → IsTrue (has (absent r.store) w) → need_of r.store.network w ≡ Pays 0) → amount r.store.network + r.offset < 2 ^ 63 → IsState (state_of r)
state_kept r graph idle fits = record {
  instance = graph.instance;
  gone = absent_set r.store;
  alone = λ u w gone. alone u w gone (link r.store.network.links u w) refl;
  idle = idle;
  amount = fits;
}
  where
    alone : (u w : ℕ) → IsTrue (has (absent r.store) u) → (o : Option ℕ) → link r.store.network.links u w ≡ o → link r.store.network.links u w ≡ None
    alone u w gone None is = is
    alone u w gone (Some c) is =
        let out : not (is_in r.store u) ≡ true = sym (has_absent r.store u (absent_vertex r.store u gone)) ∙ gone in
        let here : is_in r.store u ≡ true = (linked_ends (λ v. IsTrue (is_in r.store v)) r.store.network.links u w (recursion_from_All (λ l. IsTrue (is_in r.store l.a) × IsTrue (is_in r.store l.b)) r.store.network.links graph.ends) (ap is_some is)).0 in
        absurd (false≢true (ap not (sym here) ∙ out))

-- v went, and what is kept of the rest fits
pub record Leaves (old new : Rest) (v : ℕ) : Type 0 where
  pub vertex : IsVertex old.store.network.n v
  pub here : IsFalse (has (state_of old).gone v)
  pub graph : IsGraph new.store
  pub count : new.store.network.n ≡ old.store.network.n
  pub present : new.store.present ≡ set old.store.present (v - 1) false
  pub left : new.left + 1 ≡ old.left
  pub idle : (w : ℕ) → IsTrue (gone_with (state_of old) v w) → need_of new.store.network w ≡ Pays 0
  pub required : new.required ≡ count_to (is_required new.store.network) old.store.network.n
  pub amount : amount new.store.network + new.offset < 2 ^ 63

-- who is present then
pub in_without : (g h : Graph) (v w : ℕ) → 1 ≤ v → h.present ≡ set g.present (v - 1) false → is_in h w ≡ cond (v == w) false (is_in g w)
in_without g h v w some is = ap (λ l. cond (eqb w 0) false (get_or l (w - 1) false)) is ∙ by_case (eqb w 0) (v == w) refl refl
  where
    out : get_or (set g.present (v - 1) false) (v - 1) false ≡ false
    out = elim (cases_lt (v - 1) (length g.present)) [
      | inl less ↦ get_or-set_same g.present (v - 1) false false less
      | inr more ↦ get_or_past (set g.present (v - 1) false) (v - 1) false (let len = length-set g.present (v - 1) false in omega arith)
    ]

    by_case : (p q : Bool) → eqb w 0 ≡ p → (v == w) ≡ q → cond p false (get_or (set g.present (v - 1) false) (w - 1) false) ≡ cond q false (cond p false (get_or g.present (w - 1) false))
    by_case true true p_is q_is = refl
    by_case true false p_is q_is = refl
    by_case false true p_is q_is = ap (λ k. get_or (set g.present (v - 1) false) (k - 1) false) (sym (eqb-true v w q_is)) ∙ out
    by_case false false p_is q_is = get_or-set_other g.present (v - 1) (w - 1) false false (λ e. (let positive : 1 ≤ w = grind (arith, nat_tests) in let same : v ≡ w = omega arith in false≢true (sym q_is ∙ eq-eqb v w same)))

-- who is gone then
pub gone_after : (old new : Rest) (v w : ℕ) → Leaves old new v → has (state_of new).gone w ≡ gone_with (state_of old) v w
gone_after old new v w leaves = same_test (has (absent new.store) w) ((v == w) || has (absent old.store) w) there back
  where
    test : IsVertex old.store.network.n w → has (absent new.store) w ≡ ((v == w) || has (absent old.store) w)
    test vertex =
        has_absent new.store w (subst (λ (n : ℕ). IsVertex n w) (sym leaves.count) vertex)
        ∙ (ap not (in_without old.store new.store v w leaves.vertex.0 leaves.present) ∙ (turned (v == w) (is_in old.store w) ∙ ap (λ b. (v == w) || b) (sym (has_absent old.store w vertex))))
      where
        turned : (p q : Bool) → not (cond p false q) ≡ (p || not q)
        turned true q = refl
        turned false q = refl

    there : IsTrue (has (absent new.store) w) → IsTrue ((v == w) || has (absent old.store) w)
    there h = sym (test (subst (λ (n : ℕ). IsVertex n w) leaves.count (absent_vertex new.store w h))) ∙ h

    w_is : IsTrue ((v == w) || has (absent old.store) w) → IsVertex old.store.network.n w
    w_is h = elim (or_cases (v == w) (has (absent old.store) w) h) [
      | inl same ↦ subst (IsVertex old.store.network.n) (eqb-true v w same) leaves.vertex
      | inr member ↦ absent_vertex old.store w member
    ]

    back : IsTrue ((v == w) || has (absent old.store) w) → IsTrue (has (absent new.store) w)
    back h = test (w_is h) ∙ h

pub kept_without : (old new : Rest) (v : ℕ) → IsKept old → Leaves old new v → IsKept new
kept_without old new v kept leaves = record {
  state = state_kept new leaves.graph (λ w gone. leaves.idle w (sym (gone_after old new v w leaves) ∙ gone)) leaves.amount;
  left = left_is;
  required = leaves.required ∙ ap (count_to (is_required new.store.network)) (sym leaves.count);
}
  where
    left_is : new.left ≡ count_to (is_in new.store) new.store.network.n
    left_is =
        let less = count_less (is_in old.store) (is_in new.store) old.store.network.n v leaves.vertex (present_in old.store v leaves.vertex leaves.here)
        (in_without old.store new.store v v leaves.vertex.0 leaves.present ∙ ap (λ b. cond b false (is_in old.store v)) (eq-eqb v v refl))
        (λ w there other. in_without old.store new.store v w leaves.vertex.0 leaves.present ∙ ap (λ b. cond b false (is_in old.store w)) (ne_eqb v w (λ same. other (sym same)))) in
        let fewer = leaves.left in
        let before = kept.left in
        let now : new.left ≡ count_to (is_in new.store) old.store.network.n = omega arith in
        now ∙ ap (count_to (is_in new.store)) (sym leaves.count)
