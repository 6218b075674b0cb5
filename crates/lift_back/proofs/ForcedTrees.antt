-- A required vertex with one link, beside another required one: trees before and after it goes.
use Rattle.std.proofs.Common.{◌≡◌, ◌≢◌, ℕ, ◌≤◌, Bool, true, false, [], ◌∷◌, inl, inr, ◌⊎◌, refl, sym, ap, ◌∙◌, subst, arith, eq-eqb}
use Rattle.std.specs.Prelude.{◌==◌, IsTrue, IsSome, unwrap_or, filter}
use Rattle.std.proofs.lemmas.Bool.{false≢true, ne_eqb, eqb-true}
use Rattle.st_model.specs.declared.tree.Tree.{Tree}
use Rattle.st_model.specs.declared.need.Need.TheVariants.{Required, Pays}
use Rattle.st_model.specs.Lists.{has}
use Rattle.st_model.specs.Network.{IsVertex, link, need_of, is_needed, is_required, prize}
use Rattle.st_model.specs.Arborescence.{reached, arc_cost}
use Rattle.st_model.specs.Made.{has_pair}
use Rattle.st_model.proofs.Members.{has-one}
use Rattle.lift_back.specs.State.{State, IsState, IsTreeOf, worth}
use Rattle.lift_back.specs.Steps.{TakesForced}
use Rattle.lift_back.specs.Laws.{HasTreeWithin}
use Rattle.lift_back.proofs.Trees.{grown_of, all_along, all_then, all_kept, arcs_are, IsArc, total_within, no_worse, MissesNoMore}
use Rattle.lift_back.proofs.Past.{is_past, moved, moved_at, moved_past, past_tree, total_past_one, none_ends}
use Rattle.lift_back.proofs.Skipping.{pair_linked, past_avoids}
use Rattle.lift_back.proofs.PendantTrees.{leaf_near, without_past, same_cost}

-- what v, u and everybody else needs afterwards
pub needs_at : (before after : State) (v u c w : ℕ) → TakesForced before after v u c → IsVertex before.instance.n w → (((w == v) ≡ true) × (need_of after.instance w ≡ Pays 0)) ⊎ (((w == v) ≡ false) × ((w ≡ u) × (need_of after.instance w ≡ Required)) ⊎ ((w == v) ≡ false) × (need_of after.instance w ≡ need_of before.instance w))
needs_at before after v u c w step vertex = by_test (w == v) (w == u) refl refl
  where
    by_test : (p q : Bool) → (w == v) ≡ p → (w == u) ≡ q → (((w == v) ≡ true) × (need_of after.instance w ≡ Pays 0)) ⊎ (((w == v) ≡ false) × ((w ≡ u) × (need_of after.instance w ≡ Required)) ⊎ ((w == v) ≡ false) × (need_of after.instance w ≡ need_of before.instance w))
    by_test true q p_is q_is = inl (p_is, step.becomes.needed w vertex ∙ rw p_is refl)
    by_test false true p_is q_is = inr (inl (p_is, (eqb-true w u q_is, step.becomes.needed w vertex ∙ rw (p_is, q_is) refl)))
    by_test false false p_is q_is = inr (inr (p_is, step.becomes.needed w vertex ∙ rw (p_is, q_is) refl))

-- each tree that reaches v and somebody else uses v's only link
uses_the_link : (s : State) (t : Tree) (v u x : ℕ) → IsTreeOf s t → ((y : ℕ) → IsSome (link s.instance.links v y) → IsTrue (has (u ∷ []) y)) → IsTrue (has (reached t) v) → IsTrue (has (reached t) x) → x ≢ v → IsTrue (has_pair t.arcs v u)
uses_the_link s t v u x tree only v_there x_there other = by_test (has_pair t.arcs v u) refl
  where
    none : has_pair t.arcs v u ≡ false → (w : ℕ) → IsTrue (has_pair t.arcs v w) → ⊥
    none is w there = false≢true (sym is ∙ subst (λ (y : ℕ). IsTrue (has_pair t.arcs v y)) (sym (has-one u w (only w (pair_linked s.instance t v w tree.tree.arborescence there)))) there)

    by_test : (b : Bool) → has_pair t.arcs v u ≡ b → IsTrue (has_pair t.arcs v u)
    by_test true is = is
    by_test false is = absurd (other (eqb-true x v (all_along s.instance (λ w. w == v) t v x tree.tree.arborescence (none_ends v t.arcs (none is)) v_there (eq-eqb v v refl) x_there)))

pub forced_keeps_the_least : (before after : State) (t : Tree) (v u c : ℕ) → IsState before → TakesForced before after v u c → IsTreeOf before t → HasTreeWithin after (worth before t)
forced_keeps_the_least before after t v u c state step tree =
    let I = before.instance in
    let J = after.instance in
    let (x, x_vertex, x_needed, x_apart) = step.allowed.other in
    let v_there = tree.tree.required v step.allowed.vertex step.allowed.required in
    let x_there = tree.tree.required x x_vertex x_needed in
    let x_other = ne_eqb x v x_apart in
    let arcs = filter (is_past v) t.arcs in
    let kept = all_kept (IsArc I (reached t)) (is_past v) t.arcs (arcs_are I (t.start ∷ []) t.arcs tree.tree.arborescence.grows) in
    let same = λ (pair : ℕ × ℕ) (past : IsTrue (is_past v pair)). step.becomes.linked pair.0 pair.1 ∙ without_past before v pair past in
    let linked = all_then (λ arc. IsArc I (reached t) arc × IsTrue (is_past v arc)) (λ pair. IsSome (link J.links pair.0 pair.1)) arcs (λ arc is. rw (same arc is.1) is.0.linked) kept in
    let within = total_within (arc_cost J) (arc_cost I) arcs (all_then (λ arc. IsArc I (reached t) arc × IsTrue (is_past v arc)) (λ arc. arc_cost J arc ≤ arc_cost I arc) arcs (λ arc is. at_most (same_cost I J arc (same arc is.1))) kept) in
    let grown = grown_of J arcs x (subst (λ (n : ℕ). IsVertex n x) (sym step.becomes.count) x_vertex) linked in
    let reaches = past_tree I J t grown.0 v u x [] tree.tree.arborescence grown.1 x_there x_other (λ S w agrees pair. leaf_near before t v u S w step.allowed.only tree pair) in
    let u_there = sym (moved_at (has (reached grown.0)) v u v refl) ∙ reaches v v_there in
    let cost = grown.1.cost in
    let saved = total_past_one I v u t.arcs (uses_the_link before t v u x tree step.allowed.only v_there x_there x_apart) in
    let link_cost : arc_cost I (v, u) ≡ c = ap (λ o. unwrap_or o 0) step.allowed.linked in
    let paid = step.becomes.paid in
    no_worse before after t grown.0 (record {
      count = step.becomes.count;
      arborescence = grown.1.arborescence;
      required = λ w vertex needed. required grown.0 reaches u_there w vertex needed;
      avoids = λ w gone. past_avoids before J t grown.0 v x [] tree grown.1 x_there x_other tt w (sym (step.becomes.left_out w) ∙ gone);
      arcs = omega arith;
      missed = λ w vertex. misses grown.0 reaches w vertex;
    })
  where
    at_most : {m n : ℕ} → m ≡ n → m ≤ n
    at_most e = omega arith

    required : (new : Tree) → ((w : ℕ) → IsTrue (has (reached t) w) → IsTrue (moved (has (reached new)) v u w)) → IsTrue (has (reached new) u) → (w : ℕ) → IsVertex before.instance.n w → IsTrue (is_required after.instance w) → IsTrue (has (reached new) w)
    required new reaches u_there w vertex needed = elim (needs_at before after v u c w step vertex) [
      | inl e ↦ absurd (false≢true (ap is_needed (sym e.1) ∙ needed))
      | inr rest ↦ elim rest [
        | inl e ↦ ap (has (reached new)) e.1.0 ∙ u_there
        | inr e ↦ sym (moved_past (has (reached new)) v u w e.0) ∙ reaches w (tree.tree.required w vertex (ap is_needed (sym e.1) ∙ needed))
      ]
    ]

    misses : (new : Tree) → ((w : ℕ) → IsTrue (has (reached t) w) → IsTrue (moved (has (reached new)) v u w)) → (w : ℕ) → IsVertex before.instance.n w → MissesNoMore before.instance after.instance (reached t) (reached new) w
    misses new reaches w vertex = elim (needs_at before after v u c w step vertex) [
      | inl e ↦ record { prize = let none = ap prize e.1 in omega arith; still = λ there. inr (ap prize e.1) }
      | inr rest ↦ elim rest [
        | inl e ↦ record { prize = let none = ap prize e.1.1 in omega arith; still = λ there. inr (ap prize e.1.1) }
        | inr e ↦ record { prize = let same = ap prize e.1 in omega arith; still = λ there. inl (sym (moved_past (has (reached new)) v u w e.0) ∙ reaches w there) }
      ]
    ]
