-- A tree after a vertex with two links went: where it uses the new link, the two links stand for it.
use Rattle.std.proofs.Common.{◌≡◌, ℕ, ◌+◌, Bool, true, false, cond, List, [], ◌∷◌, inl, inr, refl, sym, ap, ◌∙◌, subst, arith, eq-eqb}
use Rattle.std.specs.Prelude.{◌==◌, ◌||◌, IsTrue, IsFalse, IsSome, Option, Some, unwrap_or}
use Rattle.std.specs.List.{AllByRecursion}
use Rattle.std.proofs.lemmas.Bool.{or_left, or_right, false≢true, ne_eqb, false_from_ne_true}
use Rattle.std.proofs.lemmas.Bool.Decides.{nat_tests, eqb_tells}
use Rattle.st_model.specs.declared.tree.Tree.{Tree}
use Rattle.st_model.specs.Lists.{has, total, sum_to}
use Rattle.st_model.specs.Network.{Network, IsVertex, link, need_of, is_needed, prize, pays}
use Rattle.st_model.specs.Arborescence.{reached, reached_from, Grows, arc_cost, missed}
use Rattle.st_model.specs.Made.{is_between}
use Rattle.st_model.proofs.Booleans.{or_left_comm}
use Rattle.st_model.proofs.Distinct.{between-ends, link-comm, has-cons_head, has-cons_tail}
use Rattle.st_model.proofs.RegrowSteps.{Grows-wider}
use Rattle.st_model.proofs.Sums.{sum_to_same}
use Rattle.st_model.proofs.ThinGrowth.{has-reached_from}
use Rattle.lift_back.specs.State.{State, IsState, IsTreeOf}
use Rattle.lift_back.specs.Undoing.{led_past}
use Rattle.lift_back.specs.Steps.{TakesThrough, links_without, least}
use Rattle.lift_back.proofs.Trees.{grows_there}
use Rattle.lift_back.proofs.Skipping.{not_it}
use Rattle.lift_back.proofs.PendantTrees.{same_cost}
use Rattle.lift_back.proofs.Returning.{LeadsBack, not_left_out}

-- where no arc is between a and b, all stay
led_past-none : (v a b : ℕ) (arcs : List (ℕ × ℕ)) → AllByRecursion (λ arc. is_between (a, b) arc.0 arc.1 ≡ false) arcs → led_past v a b arcs ≡ arcs
led_past-none v a b [] none = refl
led_past-none v a b (arc ∷ arcs) none = rw none.0 (ap (λ rest. arc ∷ rest) (led_past-none v a b arcs none.1))

-- once both are reached, no arc is between them
none_between : (I : Network) (a b : ℕ) (r : List ℕ) (arcs : List (ℕ × ℕ)) → Grows I r arcs → IsTrue (has r a) → IsTrue (has r b) → AllByRecursion (λ arc. is_between (a, b) arc.0 arc.1 ≡ false) arcs
none_between I a b r [] g a_there b_there = tt
none_between I a b r (arc ∷ arcs) g a_there b_there = (false_from_ne_true (is_between (a, b) arc.0 arc.1) new, none_between I a b (arc.1 ∷ r) arcs g.3 (has-cons_tail r arc.1 a a_there) (has-cons_tail r arc.1 b b_there))
  where
    new : is_between (a, b) arc.0 arc.1 ≡ true → ⊥
    new h = elim (between-ends (a, b) arc.0 arc.1 h) [
      | inl e ↦ false≢true (sym g.2 ∙ (ap (has r) (sym e.1) ∙ b_there))
      | inr e ↦ false≢true (sym g.2 ∙ (ap (has r) (sym e.0) ∙ a_there))
    ]

-- both ends of the first arc are reached from then on
ends_reached : (a b : ℕ) (r : List ℕ) (arc : ℕ × ℕ) → IsTrue (has r arc.0) → is_between (a, b) arc.0 arc.1 ≡ true → IsTrue (has (arc.1 ∷ r) a) × IsTrue (has (arc.1 ∷ r) b)
ends_reached a b r arc tail h = elim (between-ends (a, b) arc.0 arc.1 h) [
  | inl e ↦ (has-cons_tail r arc.1 a (ap (has r) e.0 ∙ tail), has-cons_head r arc.1 b (e.1))
  | inr e ↦ (has-cons_head r arc.1 a (e.0), has-cons_tail r arc.1 b (ap (has r) e.1 ∙ tail))
]

-- two links that stand for a link between a and b, and all other links as before
pub record StandsFor (I J : Network) (v a b x y : ℕ) : Type 0 where
  pub first : link I.links v a ≡ Some x
  pub second : link I.links v b ≡ Some y
  pub other : (u w : ℕ) → is_between (a, b) u w ≡ false → IsSome (link J.links u w) → link J.links u w ≡ link I.links u w
  pub cost : (u w : ℕ) → is_between (a, b) u w ≡ true → link J.links u w ≡ Some (x + y)

-- what the two links cost on the way
two_links : (I J : Network) (v a b x y : ℕ) (arc : ℕ × ℕ) → StandsFor I J v a b x y → is_between (a, b) arc.0 arc.1 ≡ true → IsSome (link I.links arc.0 v) × IsSome (link I.links v arc.1) × (arc_cost I (arc.0, v) + arc_cost I (v, arc.1) ≡ x + y)
two_links I J v a b x y arc stands h = elim (between-ends (a, b) arc.0 arc.1 h) [
  | inl e ↦ costs arc.0 arc.1 x y (link-comm I.links arc.0 v ∙ (ap (link I.links v) (sym e.0) ∙ stands.first)) (ap (link I.links v) (sym e.1) ∙ stands.second) refl
  | inr e ↦ costs arc.0 arc.1 y x (link-comm I.links arc.0 v ∙ (ap (link I.links v) (sym e.1) ∙ stands.second)) (ap (link I.links v) (sym e.0) ∙ stands.first) (omega arith)
]
  where
    costs : (p q m n : ℕ) → link I.links p v ≡ Some m → link I.links v q ≡ Some n → m + n ≡ x + y → IsSome (link I.links p v) × IsSome (link I.links v q) × (arc_cost I (p, v) + arc_cost I (v, q) ≡ x + y)
    costs p q m n in_link out_link sum =
        let cost_in : arc_cost I (p, v) ≡ m = ap (λ o. unwrap_or o 0) in_link in
        let cost_out : arc_cost I (v, q) ≡ n = ap (λ o. unwrap_or o 0) out_link in
        (rw in_link refl, rw out_link refl, omega arith)

-- arcs that are led past v grow, reach the same besides v, and cost the same
pub record IsLedPast (I J : Network) (v a b : ℕ) (r : List ℕ) (arcs : List (ℕ × ℕ)) : Type 0 where
  pub grows : Grows I r (led_past v a b arcs)
  pub reached : (w : ℕ) → (w == v) ≡ false → has (reached_from r (led_past v a b arcs)) w ≡ has (reached_from r arcs) w
  pub cost : total (arc_cost I) (led_past v a b arcs) ≡ total (arc_cost J) arcs

pub is_led_past : (I J : Network) (v a b x y : ℕ) (r : List ℕ) (arcs : List (ℕ × ℕ)) → StandsFor I J v a b x y → Grows J r arcs → has (reached_from r arcs) v ≡ false → IsLedPast I J v a b r arcs
is_led_past I J v a b x y r [] stands g absent = record { grows = tt; reached = λ w other. refl; cost = refl }
is_led_past I J v a b x y r (arc ∷ arcs) stands g absent = by_test (is_between (a, b) arc.0 arc.1) refl (is_led_past I J v a b x y (arc.1 ∷ r) arcs stands g.3 absent)
  where
    v_out : has r v ≡ false
    v_out = false_from_ne_true (has r v) (λ there. false≢true (sym absent ∙ has-reached_from (arc.1 ∷ r) arcs v (has-cons_tail r arc.1 v there)))

    head_other : (v == arc.1) ≡ false
    head_other = ne_eqb v arc.1 (λ same. false≢true (sym absent ∙ has-reached_from (arc.1 ∷ r) arcs v (has-cons_head r arc.1 v same)))

    by_test : (p : Bool) → is_between (a, b) arc.0 arc.1 ≡ p → IsLedPast I J v a b (arc.1 ∷ r) arcs → IsLedPast I J v a b r (arc ∷ arcs)
    by_test false is rest =
        let here : link J.links arc.0 arc.1 ≡ link I.links arc.0 arc.1 = stands.other arc.0 arc.1 is g.0 in
        let cost = same_cost I J arc here in
        let costs = rest.cost in
        record {
          grows = rw is (subst (λ (o : Option ℕ). IsSome o) here g.0, g.1, g.2, rest.grows);
          reached = λ w other. rw is (rest.reached w other);
          cost = rw is (omega arith);
        }
    by_test true is rest =
        let ends = ends_reached a b r arc g.1 is in
        let none = none_between J a b (arc.1 ∷ r) arcs g.3 ends.0 ends.1 in
        let same : led_past v a b arcs ≡ arcs = led_past-none v a b arcs none in
        let two = two_links I J v a b x y arc stands is in
        let linked = both (arc.1 ∷ r) arcs g.3 none in
        let wider = Grows-wider I (arc.1 ∷ r) (arc.1 ∷ v ∷ r) arcs v (λ w. or_left_comm (arc.1 == w) (v == w) (has r w)) (grows_there J I (arc.1 ∷ r) arcs g.3 linked) absent in
        let arc_cost_is : arc_cost J arc ≡ x + y = ap (λ o. unwrap_or o 0) (stands.cost arc.0 arc.1 is) in
        let costs = rest.cost in
        let sum = two.2 in
        record {
          grows = rw is (two.0, g.1, v_out, (two.1, has-cons_head r v v refl, rw (head_other, g.2) refl, subst (λ (l : List (ℕ × ℕ)). Grows I (arc.1 ∷ v ∷ r) l) (sym same) wider.grows));
          reached = λ w other. rw is (subst (λ (l : List (ℕ × ℕ)). has (reached_from (arc.1 ∷ v ∷ r) l) w ≡ has (reached_from (arc.1 ∷ r) arcs) w) (sym same) (wider.reached w ∙ rw (turned w other) refl));
          cost = rw is (omega arith);
        }
      where
        turned : (w : ℕ) → (w == v) ≡ false → (v == w) ≡ false
        turned w h = grind (arith, nat_tests)

        both : (q : List ℕ) (more : List (ℕ × ℕ)) → Grows J q more → AllByRecursion (λ one. is_between (a, b) one.0 one.1 ≡ false) more → AllByRecursion (λ one. IsSome (link I.links one.0 one.1)) more
        both q [] grow none = tt
        both q (one ∷ more) grow none = (subst (λ (o : Option ℕ). IsSome o) (stands.other one.0 one.1 none.0 grow.0) grow.0, both (one.1 ∷ q) more grow.3 none.1)

-- the tree with its arcs led past v
abbrev pub tree_past : Tree → ℕ → ℕ → ℕ → Tree
tree_past t v a b = record { start = t.start; arcs = led_past v a b t.arcs }

stands_for : (before after : State) (v a b x y : ℕ) → TakesThrough before after v a b x y → least before a b (x + y) ≡ x + y → StandsFor before.instance after.instance v a b x y
stands_for before after v a b x y step cheaper = record {
  first = step.allowed.first;
  second = step.allowed.second;
  other = λ u w out there. let e : link after.instance.links u w ≡ links_without before v u w = step.becomes.linked u w ∙ rw out refl in e ∙ not_left_out ((u == v) || (w == v)) (link before.instance.links u w) (subst (λ (o : Option ℕ). IsSome o) e there);
  cost = λ u w is. step.becomes.linked u w ∙ rw is (ap Some cheaper);
}

pub through_leads_back : (before after : State) (t : Tree) (v a b x y : ℕ) → IsState before → TakesThrough before after v a b x y → least before a b (x + y) ≡ x + y → IsTreeOf after t → LeadsBack before after t (tree_past t v a b)
through_leads_back before after t v a b x y state step cheaper tree =
    let I = before.instance in
    let J = after.instance in
    let led = is_led_past I J v a b x y (t.start ∷ []) t.arcs (stands_for before after v a b x y step cheaper) tree.tree.arborescence.grows v_out in
    let missing : sum_to (missed I (reached (tree_past t v a b))) I.n ≡ sum_to (missed J (reached t)) J.n = subst (λ (n : ℕ). sum_to (missed I (reached (tree_past t v a b))) I.n ≡ sum_to (missed J (reached t)) n) (sym step.becomes.count) (sum_to_same (missed I (reached (tree_past t v a b))) (missed J (reached t)) I.n (λ w low high. misses led w (low, high))) in
    let paid = step.becomes.paid in
    let costs = led.cost in
    record {
      tree = record {
        tree = record {
          arborescence = record { start = subst (λ (n : ℕ). IsVertex n t.start) step.becomes.count tree.tree.arborescence.start; grows = led.grows };
          required = λ w vertex needed. led.reached w (ne_eqb w v (λ same. false≢true (ap is_needed (sym (ap (need_of I) same ∙ step.allowed.idle.need)) ∙ needed))) ∙ tree.tree.required w (subst (λ (n : ℕ). IsVertex n w) (sym step.becomes.count) vertex) (ap is_needed (step.becomes.needed w vertex) ∙ needed);
        };
        avoids = λ w gone. led.reached w (not_it before.gone v w step.allowed.idle.present gone) ∙ tree.avoids w (step.becomes.left_out w ∙ or_right (v == w) (has before.gone w) gone);
      };
      worth = omega arith;
      start = refl;
    }
  where
    -- v was left out of the tree
    v_out : IsFalse (has (reached t) v)
    v_out = tree.avoids v (step.becomes.left_out v ∙ or_left (v == v) (has before.gone v) (eq-eqb v v refl))

    free : (p : Bool) → ◌≡◌ {A = ℕ} (cond p 0 0) 0
    free true = refl
    free false = refl

    misses : IsLedPast before.instance after.instance v a b (t.start ∷ []) t.arcs → (w : ℕ) → IsVertex before.instance.n w → missed before.instance (reached (tree_past t v a b)) w ≡ missed after.instance (reached t) w
    misses led w vertex = elim (eqb_tells w v) [
      | inl e ↦
          let none : pays before.instance w ≡ 0 = ap prize (ap (need_of before.instance) e.1 ∙ step.allowed.idle.need) in
          let none_after : pays after.instance w ≡ 0 = ap prize (step.becomes.needed w vertex) ∙ none in
          (ap (λ c. cond (has (reached (tree_past t v a b)) w) 0 c) none ∙ free (has (reached (tree_past t v a b)) w)) ∙ sym (ap (λ c. cond (has (reached t) w) 0 c) none_after ∙ free (has (reached t) w))
      | inr e ↦ ap (λ p. cond p 0 (pays before.instance w)) (led.reached w e.0) ∙ ap (λ c. cond (has (reached t) w) 0 c) (sym (ap prize (step.becomes.needed w vertex)))
    ]
