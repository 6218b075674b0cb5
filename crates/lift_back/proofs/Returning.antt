-- Trees after a step that are trees before it too, at the same cost.
use Rattle.std.proofs.Common.{◌≡◌, ℕ, ◌+◌, ◌≤◌, Bool, true, false, cond, List, [], ◌∷◌, refl, sym, ap, ◌∙◌, subst, arith}
use Rattle.std.specs.Prelude.{◌==◌, ◌||◌, IsTrue, IsSome, Option, Some, None}
use Rattle.std.specs.List.{AllByRecursion}
use Rattle.std.proofs.lemmas.Bool.{or_right}
use Rattle.st_model.specs.declared.tree.Tree.{Tree}
use Rattle.st_model.specs.Lists.{has, total, sum_to}
use Rattle.st_model.specs.Network.{IsVertex, link, need_of, is_needed, prize}
use Rattle.st_model.specs.Arborescence.{reached, arc_cost, missed}
use Rattle.st_model.specs.Made.{is_between}
use Rattle.st_model.proofs.Sums.{sum_to_same}
use Rattle.lift_back.specs.State.{State, IsTreeOf, worth}
use Rattle.lift_back.specs.Steps.{TakesPendant, TakesDetour, TakesThrough, links_without, least}
use Rattle.lift_back.proofs.Trees.{all_then, arcs_are, IsArc, grows_there}
use Rattle.lift_back.proofs.PendantTrees.{same_cost}
use Rattle.lift_back.proofs.ThroughTrees.{between_link}

-- a tree before the step, of the same worth as one after it
pub record LeadsBack (before after : State) (t old : Tree) : Type 0 where
  pub tree : IsTreeOf before old
  pub worth : worth before old ≡ worth after t
  pub start : old.start ≡ t.start

-- equal terms have equal sums
pub total_same : {X : Type 0} (f g : X → ℕ) (xs : List X) → AllByRecursion (λ x. f x ≡ g x) xs → total f xs ≡ total g xs
total_same f g [] all = refl
total_same f g (x ∷ xs) all = let rest = total_same f g xs all.1 in let here = all.0 in omega arith

-- the links after the step were there before, and all else that a tree rests on is the same
pub record Keeps (before after : State) : Type 0 where
  pub count : after.instance.n ≡ before.instance.n
  pub needed : (w : ℕ) → IsVertex before.instance.n w → need_of after.instance w ≡ need_of before.instance w
  pub left_out : (w : ℕ) → IsTrue (has before.gone w) → IsTrue (has after.gone w)
  pub paid : after.offset ≡ before.offset
  pub linked : (u w : ℕ) → IsSome (link after.instance.links u w) → link after.instance.links u w ≡ link before.instance.links u w

-- so each tree after the step is one before it
pub leads_back_as_is : (before after : State) (t : Tree) → Keeps before after → IsTreeOf after t → LeadsBack before after t t
leads_back_as_is before after t keeps tree =
    let I = before.instance in
    let J = after.instance in
    let arcs = arcs_are J (t.start ∷ []) t.arcs tree.tree.arborescence.grows in
    let same = all_then (IsArc J (reached t)) (λ arc. arc_cost I arc ≡ arc_cost J arc) t.arcs (λ arc is. sym (same_cost I J arc (keeps.linked arc.0 arc.1 is.linked))) arcs in
    let linked = all_then (IsArc J (reached t)) (λ arc. IsSome (link I.links arc.0 arc.1)) t.arcs (λ arc is. subst (λ (o : Option ℕ). IsSome o) (keeps.linked arc.0 arc.1 is.linked) is.linked) arcs in
    let totals = total_same (arc_cost I) (arc_cost J) t.arcs same in
    let missing : sum_to (missed I (reached t)) I.n ≡ sum_to (missed J (reached t)) J.n = subst (λ (n : ℕ). sum_to (missed I (reached t)) I.n ≡ sum_to (missed J (reached t)) n) (sym keeps.count) (sum_to_same (missed I (reached t)) (missed J (reached t)) I.n (λ w low high. ap (λ p. cond (has (reached t) w) 0 p) (sym (ap prize (keeps.needed w (low, high)))))) in
    let paid = keeps.paid in
    record {
      tree = record {
        tree = record {
          arborescence = record { start = subst (λ (n : ℕ). IsVertex n t.start) keeps.count tree.tree.arborescence.start; grows = grows_there J I (t.start ∷ []) t.arcs tree.tree.arborescence.grows linked };
          required = λ w vertex needed. tree.tree.required w (subst (λ (n : ℕ). IsVertex n w) (sym keeps.count) vertex) (ap is_needed (keeps.needed w vertex) ∙ needed);
        };
        avoids = λ w gone. tree.avoids w (keeps.left_out w gone);
      };
      worth = omega arith;
      start = refl;
    }

-- what is there was not left out
pub not_left_out : (b : Bool) (x : Option ℕ) → IsSome (cond b None x) → cond b None x ≡ x
not_left_out false x there = refl
not_left_out true x there = absurd (none there)
  where
    none : false ≡ true → ⊥
    none h = cc

pub pendant_keeps : (before after : State) (v : ℕ) → TakesPendant before after v → Keeps before after
pendant_keeps before after v step = record {
  count = step.becomes.count;
  needed = step.becomes.needed;
  left_out = λ w gone. step.becomes.left_out w ∙ or_right (v == w) (has before.gone w) gone;
  paid = step.becomes.paid;
  linked = λ u w there. step.becomes.linked u w ∙ not_left_out ((u == v) || (w == v)) (link before.instance.links u w) (subst (λ (o : Option ℕ). IsSome o) (step.becomes.linked u w) there);
}

pub detour_keeps : (before after : State) (a b : ℕ) (inner : List ℕ) → TakesDetour before after a b inner → Keeps before after
detour_keeps before after a b inner step = record {
  count = step.becomes.count;
  needed = step.becomes.needed;
  left_out = λ w gone. step.becomes.left_out w ∙ gone;
  paid = step.becomes.paid;
  linked = λ u w there. step.becomes.linked u w ∙ not_left_out (is_between (a, b) u w) (link before.instance.links u w) (subst (λ (o : Option ℕ). IsSome o) (step.becomes.linked u w) there);
}

-- where the link was there for no more than the two links of v, it stays as it was
pub through_keeps : (before after : State) (v a b x y cost : ℕ) → TakesThrough before after v a b x y → link before.instance.links a b ≡ Some cost → cost ≤ x + y → Keeps before after
through_keeps before after v a b x y cost step is cheap = record {
  count = step.becomes.count;
  needed = step.becomes.needed;
  left_out = λ w gone. step.becomes.left_out w ∙ or_right (v == w) (has before.gone w) gone;
  paid = step.becomes.paid;
  linked = λ u w there. step.becomes.linked u w ∙ by_test u w (is_between (a, b) u w) refl (subst (λ (o : Option ℕ). IsSome o) (step.becomes.linked u w) there);
}
  where
    kept : least before a b (x + y) ≡ cost
    kept = rw is (omega arith)

    by_test : (u w : ℕ) (p : Bool) → is_between (a, b) u w ≡ p → IsSome (cond p (Some (least before a b (x + y))) (links_without before v u w)) → cond p (Some (least before a b (x + y))) (links_without before v u w) ≡ link before.instance.links u w
    by_test u w true between there = ap Some kept ∙ (sym is ∙ sym (between_link before.instance (u, w) a b between))
    by_test u w false other there = not_left_out ((u == v) || (w == v)) (link before.instance.links u w) there
