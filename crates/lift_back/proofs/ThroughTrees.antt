-- A vertex with two links that needs nothing: for each tree before it goes there is one after.
use Rattle.std.proofs.Common.{◌≡◌, ℕ, ◌+◌, ◌≤◌, Bool, true, false, [], ◌∷◌, inl, inr, ◌⊎◌, refl, sym, ap, ◌∙◌, arith}
use Rattle.std.specs.Prelude.{◌==◌, IsTrue, IsFalse, IsSome, is_some, Option, Some, None, unwrap_or, filter}
use Rattle.std.proofs.lemmas.Bool.{or_cases, false_from_ne_true, false≢true, ne_eqb, eqb-true}
use Rattle.st_model.specs.declared.tree.Tree.{Tree}
use Rattle.st_model.specs.Lists.{has, total}
use Rattle.st_model.specs.Network.{Network, link}
use Rattle.st_model.specs.Arborescence.{reached, arc_cost}
use Rattle.st_model.specs.Made.{is_between, has_pair}
use Rattle.st_model.proofs.Distinct.{between-ends, link-comm}
use Rattle.st_model.proofs.Members.{has-one}
use Rattle.st_model.proofs.Sums.{total_filter_le}
use Rattle.st_model.proofs.ThinGrowth.{linked-vertices}
use Rattle.lift_back.specs.State.{State, IsState, IsTreeOf, worth}
use Rattle.lift_back.specs.Steps.{TakesThrough, links_past, least}
use Rattle.lift_back.specs.Laws.{HasTreeWithin}
use Rattle.lift_back.proofs.Along.{itself}
use Rattle.lift_back.proofs.Past.{is_past, moved, moved_self, moved_past, someone_else, total_past_two}
use Rattle.lift_back.proofs.Skipping.{Skips, skips_unreached, skips_lone, skips_past, pair_linked, stays}
use Rattle.lift_back.proofs.PendantTrees.{without_past, same_cost, linked_apart}

-- the new cost is no more than the old one
least_within : (s : State) (a b sum x : ℕ) → link s.instance.links a b ≡ Some x → least s a b sum ≤ x
least_within s a b sum x e = rw e (omega arith)

-- the link of a pair between a and b is theirs
pub between_link : (I : Network) (pair : ℕ × ℕ) (a b : ℕ) → is_between (a, b) pair.0 pair.1 ≡ true → link I.links pair.0 pair.1 ≡ link I.links a b
between_link I pair a b h = elim (between-ends (a, b) pair.0 pair.1 h) [
  | inl e ↦ sym (ap (λ x. link I.links x b) e.0 ∙ ap (link I.links pair.0) e.1)
  | inr e ↦ link-comm I.links pair.0 pair.1 ∙ sym (ap (λ x. link I.links x b) e.0 ∙ ap (link I.links pair.1) e.1)
]

-- a link between two vertices after the step, and what it costs
past_by_test : (s : State) (v a b sum : ℕ) (pair : ℕ × ℕ) → IsTrue (is_past v pair) → ((is_between (a, b) pair.0 pair.1 ≡ true) × (links_past s v a b sum pair.0 pair.1 ≡ Some (least s a b sum))) ⊎ (links_past s v a b sum pair.0 pair.1 ≡ link s.instance.links pair.0 pair.1)
past_by_test s v a b sum pair past = by_test (is_between (a, b) pair.0 pair.1) refl
  where
    by_test : (p : Bool) → is_between (a, b) pair.0 pair.1 ≡ p → ((is_between (a, b) pair.0 pair.1 ≡ true) × (links_past s v a b sum pair.0 pair.1 ≡ Some (least s a b sum))) ⊎ (links_past s v a b sum pair.0 pair.1 ≡ link s.instance.links pair.0 pair.1)
    by_test true is = inl (is, rw is refl)
    by_test false is = inr (rw is (without_past s v pair past))

skips_through : (before after : State) (v a b x y : ℕ) → TakesThrough before after v a b x y → Skips before after v
skips_through before after v a b x y step =
    record {
      count = step.becomes.count;
      needed = step.becomes.needed;
      left_out = step.becomes.left_out;
      paid = step.becomes.paid;
      vertex = step.allowed.idle.vertex;
      idle = step.allowed.idle.need;
      linked = λ pair past there. elim (past_by_test before v a b (x + y) pair past) [
        | inl e ↦ rw (step.becomes.linked pair.0 pair.1 ∙ e.1) refl
        | inr e ↦ rw (step.becomes.linked pair.0 pair.1 ∙ e) there
      ];
      cost = λ pair past there. cost pair past (link before.instance.links pair.0 pair.1) refl there;
    }
  where
    cost : (pair : ℕ × ℕ) → IsTrue (is_past v pair) → (old : Option ℕ) → link before.instance.links pair.0 pair.1 ≡ old → IsSome (link before.instance.links pair.0 pair.1) → arc_cost after.instance pair ≤ arc_cost before.instance pair
    cost pair past None is there = absurd (none (sym (ap is_some is) ∙ there))
      where
        none : false ≡ true → ⊥
        none h = cc
    cost pair past (Some old) is there = elim (past_by_test before v a b (x + y) pair past) [
      | inl e ↦
          let less = least_within before a b (x + y) old (sym (between_link before.instance pair a b e.0) ∙ is) in
          let new_cost : arc_cost after.instance pair ≡ least before a b (x + y) = ap (λ o. unwrap_or o 0) (step.becomes.linked pair.0 pair.1 ∙ e.1) in
          let old_cost : arc_cost before.instance pair ≡ old = ap (λ o. unwrap_or o 0) is in
          omega arith
      | inr e ↦ let same = same_cost before.instance after.instance pair (step.becomes.linked pair.0 pair.1 ∙ e) in omega arith
    ]

-- one of two
pub has_two : (a b w : ℕ) → IsTrue (has (a ∷ b ∷ []) w) → (w ≡ a) ⊎ (w ≡ b)
has_two a b w there = elim (or_cases (a == w) (has (b ∷ []) w) there) [
  | inl same ↦ inl (sym (eqb-true a w same))
  | inr other ↦ inr (sym (has-one b w other))
]

-- a neighbour is another vertex, and isn't gone
pub neighbour_stays : (s : State) (v w : ℕ) → IsState s → IsSome (link s.instance.links v w) → ((w == v) ≡ false) × IsFalse (has s.gone w)
neighbour_stays s v w state linked = (ne_eqb w v (λ same. linked_apart s.instance v w state.instance linked (sym same)), false_from_ne_true (has s.gone w) (λ gone. none (sym (ap is_some (link-comm s.instance.links v w ∙ state.alone w v gone)) ∙ linked)))
  where
    none : false ≡ true → ⊥
    none h = cc

pub through_keeps_the_least : (before after : State) (t : Tree) (v a b x y : ℕ) → IsState before → TakesThrough before after v a b x y → IsTreeOf before t → HasTreeWithin after (worth before t)
through_keeps_the_least before after t v a b x y state step tree = by_test (has (reached t) v) refl
  where
    I : Network
    I = before.instance

    skips : Skips before after v
    skips = skips_through before after v a b x y step

    to_a : IsSome (link before.instance.links v a)
    to_a = rw step.allowed.first refl

    to_b : IsSome (link before.instance.links v b)
    to_b = rw step.allowed.second refl

    near : (w : ℕ) → IsTrue (has_pair t.arcs v w) → (w ≡ a) ⊎ (w ≡ b)
    near w pair = has_two a b w (step.allowed.only w (pair_linked before.instance t v w tree.tree.arborescence pair))

    fewer : 0 + total (arc_cost before.instance) (filter (is_past v) t.arcs) ≤ total (arc_cost before.instance) t.arcs
    fewer = let less = total_filter_le (arc_cost before.instance) (is_past v) t.arcs in omega arith

    by_pairs : (z : ℕ) → IsTrue (has (reached t) z) → (z == v) ≡ false → (p q : Bool) → has_pair t.arcs v a ≡ p → has_pair t.arcs v b ≡ q → HasTreeWithin after (worth before t)
    by_pairs z z_there z_other p false p_is q_is = skips_past before after t v a z [] skips state tree z_there z_other tt tt
        (λ S w agrees pair. elim (near w pair) [
          | inl e ↦ ap (moved S v a) e ∙ moved_self S v a
          | inr e ↦ absurd (false≢true (sym q_is ∙ (ap (has_pair t.arcs v) (sym e) ∙ pair)))
        ]) fewer
    by_pairs z z_there z_other false true p_is q_is = skips_past before after t v b z [] skips state tree z_there z_other tt tt
        (λ S w agrees pair. elim (near w pair) [
          | inl e ↦ absurd (false≢true (sym p_is ∙ (ap (has_pair t.arcs v) (sym e) ∙ pair)))
          | inr e ↦ ap (moved S v b) e ∙ moved_self S v b
        ]) fewer
    by_pairs z z_there z_other true true p_is q_is =
        let new_link : link after.instance.links a b ≡ Some (least before a b (x + y)) = step.becomes.linked a b ∙ rw (itself (a, b)) refl in
        let new_cost : arc_cost after.instance (a, b) ≡ least before a b (x + y) = ap (λ o. unwrap_or o 0) new_link in
        let a_stays = neighbour_stays before v a state to_a in
        let b_stays = neighbour_stays before v b state to_b in
        let two = total_past_two before.instance v a b t.arcs step.allowed.different p_is q_is in
        let first : arc_cost before.instance (v, a) ≡ x = ap (λ o. unwrap_or o 0) step.allowed.first in
        let second : arc_cost before.instance (v, b) ≡ y = ap (λ o. unwrap_or o 0) step.allowed.second in
        skips_past before after t v a z ((a, b) ∷ []) skips state tree z_there z_other
        (rw new_link refl, tt)
        ((stays before v a a_stays.0 a_stays.1, stays before v b b_stays.0 b_stays.1), tt)
        (λ S w agrees pair. elim (near w pair) [
          | inl e ↦ ap (moved S v a) e ∙ moved_self S v a
          | inr e ↦ ap (moved S v a) e ∙ (moved_past S v a b b_stays.0 ∙ sym agrees.0)
        ])
        (omega arith)

    by_test : (p : Bool) → has (reached t) v ≡ p → HasTreeWithin after (worth before t)
    by_test false absent = skips_unreached before after t v skips tree absent
    by_test true there = elim (someone_else before.instance t v tree.tree.arborescence) [
      | inl lone ↦ skips_lone before after t v a skips tree there lone (linked-vertices before.instance v a state.instance to_a).1 (neighbour_stays before v a state to_a).1 (λ same. linked_apart before.instance v a state.instance to_a (sym same))
      | inr other ↦ let (z, z_there, z_other) = other in by_pairs z z_there z_other (has_pair t.arcs v a) (has_pair t.arcs v b) refl refl
    ]
