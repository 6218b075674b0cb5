-- A tree after a required vertex went with its only link: with that link it is one before.
use Rattle.std.proofs.Common.{◌≡◌, ℕ, Bool, true, false, cond, [], ◌∷◌, ◌++◌, inl, inr, refl, sym, ap, ◌∙◌, subst, arith, eq-eqb}
use Rattle.std.specs.Prelude.{◌==◌, ◌||◌, IsTrue, IsFalse, IsSome, Option, unwrap_or}
use Rattle.std.proofs.lemmas.Bool.{or_left, or_right, false≢true, eqb-true}
use Rattle.std.proofs.lemmas.Bool.Decides.{nat_tests}
use Rattle.st_model.specs.declared.tree.Tree.{Tree}
use Rattle.st_model.specs.Lists.{has, sum_to}
use Rattle.st_model.specs.Network.{IsVertex, link, need_of, is_needed, is_required, prize, pays}
use Rattle.st_model.specs.Arborescence.{reached, arc_cost, missed}
use Rattle.st_model.proofs.Distinct.{link-comm}
use Rattle.st_model.proofs.Judging.{reached_from-append}
use Rattle.st_model.proofs.Sums.{sum_to_same, total-append}
use Rattle.st_model.proofs.ThinGrowth.{Grows-push, linked-vertices}
use Rattle.lift_back.specs.State.{State, IsState, IsTreeOf}
use Rattle.lift_back.specs.Steps.{TakesForced}
use Rattle.lift_back.proofs.Trees.{all_then, arcs_are, IsArc, grows_there}
use Rattle.lift_back.proofs.PendantTrees.{same_cost, linked_apart}
use Rattle.lift_back.proofs.ForcedTrees.{needs_at}
use Rattle.lift_back.proofs.Returning.{LeadsBack, total_same, not_left_out}

-- the tree with the arc from u to v
abbrev pub with_leaf : Tree → ℕ → ℕ → Tree
with_leaf t u v = record { start = t.start; arcs = t.arcs ++ (u, v) ∷ [] }

-- it reaches v besides
pub reached_leaf : (t : Tree) (u v w : ℕ) → has (reached (with_leaf t u v)) w ≡ ((v == w) || has (reached t) w)
reached_leaf t u v w = ap (λ r. has r w) (reached_from-append (t.start ∷ []) t.arcs ((u, v) ∷ []))

pub forced_leads_back : (before after : State) (t : Tree) (v u c : ℕ) → IsState before → TakesForced before after v u c → IsTreeOf after t → LeadsBack before after t (with_leaf t u v)
forced_leads_back before after t v u c state step tree =
    let I = before.instance in
    let J = after.instance in
    let arcs = arcs_are J (t.start ∷ []) t.arcs tree.tree.arborescence.grows in
    let old_link = λ (arc : ℕ × ℕ) (is : IsArc J (reached t) arc). same arc is.linked in
    let same_costs = all_then (IsArc J (reached t)) (λ arc. arc_cost I arc ≡ arc_cost J arc) t.arcs (λ arc is. sym (same_cost I J arc (old_link arc is))) arcs in
    let linked = all_then (IsArc J (reached t)) (λ arc. IsSome (link I.links arc.0 arc.1)) t.arcs (λ arc is. subst (λ (o : Option ℕ). IsSome o) (old_link arc is) is.linked) arcs in
    let totals = total_same (arc_cost I) (arc_cost J) t.arcs same_costs in
    let more = total-append (arc_cost I) t.arcs ((u, v) ∷ []) in
    let link_cost : arc_cost I (u, v) ≡ c = ap (λ o. unwrap_or o 0) (link-comm I.links u v ∙ step.allowed.linked) in
    let missing : sum_to (missed I (reached (with_leaf t u v))) I.n ≡ sum_to (missed J (reached t)) J.n = subst (λ (n : ℕ). sum_to (missed I (reached (with_leaf t u v))) I.n ≡ sum_to (missed J (reached t)) n) (sym step.becomes.count) (sum_to_same (missed I (reached (with_leaf t u v))) (missed J (reached t)) I.n (λ w low high. misses w (low, high))) in
    let paid = step.becomes.paid in
    let leaf : IsSome (link I.links u v) = rw (link-comm I.links u v ∙ step.allowed.linked) refl in
    record {
      tree = record {
        tree = record {
          arborescence = record { start = subst (λ (n : ℕ). IsVertex n t.start) step.becomes.count tree.tree.arborescence.start; grows = Grows-push I (t.start ∷ []) t.arcs u v (grows_there J I (t.start ∷ []) t.arcs tree.tree.arborescence.grows linked) leaf u_there v_out };
          required = λ w vertex needed. required w vertex needed;
        };
        avoids = λ w gone. reached_leaf t u v w ∙ avoids w gone (v == w) refl;
      };
      worth = omega arith;
      start = refl;
    }
  where
    same : (arc : ℕ × ℕ) → IsSome (link after.instance.links arc.0 arc.1) → link after.instance.links arc.0 arc.1 ≡ link before.instance.links arc.0 arc.1
    same arc there = step.becomes.linked arc.0 arc.1 ∙ not_left_out ((arc.0 == v) || (arc.1 == v)) (link before.instance.links arc.0 arc.1) (subst (λ (o : Option ℕ). IsSome o) (step.becomes.linked arc.0 arc.1) there)

    to_u : IsSome (link before.instance.links v u)
    to_u = rw step.allowed.linked refl

    u_vertex : IsVertex before.instance.n u
    u_vertex = (linked-vertices before.instance v u state.instance to_u).1

    -- v was left out of the tree
    v_out : IsFalse (has (reached t) v)
    v_out = tree.avoids v (step.becomes.left_out v ∙ or_left (v == v) (has before.gone v) (eq-eqb v v refl))

    u_there : IsTrue (has (reached t) u)
    u_there = elim (needs_at before after v u c u step u_vertex) [
      | inl e ↦ absurd (linked_apart before.instance v u state.instance to_u (sym (eqb-true u v e.0)))
      | inr rest ↦ elim rest [
        | inl e ↦ tree.tree.required u (subst (λ (n : ℕ). IsVertex n u) (sym step.becomes.count) u_vertex) (ap is_needed e.1.1)
        | inr e ↦ tree.tree.required u (subst (λ (n : ℕ). IsVertex n u) (sym step.becomes.count) u_vertex) (ap is_needed (step.becomes.needed u u_vertex) ∙ rw (e.0, eq-eqb u u refl) refl)
      ]
    ]

    required : (w : ℕ) → IsVertex before.instance.n w → IsTrue (is_required before.instance w) → IsTrue (has (reached (with_leaf t u v)) w)
    required w vertex needed = reached_leaf t u v w ∙ elim (needs_at before after v u c w step vertex) [
      | inl e ↦ or_left (v == w) (has (reached t) w) (eq-eqb v w (sym (eqb-true w v e.0)))
      | inr rest ↦ elim rest [
        | inl e ↦ or_right (v == w) (has (reached t) w) (ap (has (reached t)) e.1.0 ∙ u_there)
        | inr e ↦ or_right (v == w) (has (reached t) w) (tree.tree.required w (subst (λ (n : ℕ). IsVertex n w) (sym step.becomes.count) vertex) (ap is_needed e.1 ∙ needed))
      ]
    ]

    avoids : (w : ℕ) → IsTrue (has before.gone w) → (p : Bool) → (v == w) ≡ p → (p || has (reached t) w) ≡ false
    avoids w gone true is = absurd (gone_needs (eqb-true v w is))
      where
        gone_needs : v ≡ w → ⊥
        gone_needs same = false≢true (sym (ap is_needed (ap (need_of before.instance) same ∙ state.idle w gone)) ∙ step.allowed.required)
    avoids w gone false is = tree.avoids w (step.becomes.left_out w ∙ or_right (v == w) (has before.gone w) gone)

    misses : (w : ℕ) → IsVertex before.instance.n w → missed before.instance (reached (with_leaf t u v)) w ≡ missed after.instance (reached t) w
    misses w vertex = ap (λ p. cond p 0 (pays before.instance w)) (reached_leaf t u v w) ∙ elim (needs_at before after v u c w step vertex) [
      | inl e ↦ at_v (has (reached t) w) (eq-eqb v w (sym (eqb-true w v e.0))) (ap prize e.1)
      | inr rest ↦ elim rest [
        | inl e ↦ at_u (v == w) (has (reached t) w) (ap (has (reached t)) e.1.0 ∙ u_there)
        | inr e ↦ at_others (v == w) (has (reached t) w) (turned w e.0) (ap prize e.1)
      ]
    ]
      where
        turned : (y : ℕ) → (y == v) ≡ false → (v == y) ≡ false
        turned y h = grind (arith, nat_tests)

        at_v : (q : Bool) → (v == w) ≡ true → pays after.instance w ≡ 0 → cond ((v == w) || q) 0 (pays before.instance w) ≡ cond q 0 (pays after.instance w)
        at_v true e none = rw e refl
        at_v false e none = rw e (sym none)

        at_u : (p q : Bool) → q ≡ true → cond (p || q) 0 (pays before.instance w) ≡ cond q 0 (pays after.instance w)
        at_u true q e = rw e refl
        at_u false q e = rw e refl

        at_others : (p q : Bool) → p ≡ false → pays after.instance w ≡ pays before.instance w → cond (p || q) 0 (pays before.instance w) ≡ cond q 0 (pays after.instance w)
        at_others p q e same_prize = rw (e, same_prize) refl
