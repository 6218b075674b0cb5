-- A vertex that needs nothing goes: what becomes of the trees before.
use Rattle.std.proofs.Common.{◌≡◌, ◌≢◌, ℕ, ◌+◌, ◌≤◌, Bool, true, false, not, ◌||◌, List, [], ◌∷◌, ◌++◌, inl, inr, ◌⊎◌, refl, sym, ap, ◌∙◌, subst, arith, eq-eqb}
use Rattle.std.specs.Prelude.{◌==◌, IsTrue, IsFalse, IsSome, filter}
use Rattle.std.specs.List.{AllByRecursion}
use Rattle.std.proofs.lemmas.Bool.{or_cases, eqb-true, false≢true, ne_eqb, false_from_ne_true, not_from_false}
use Rattle.std.proofs.lemmas.Bool.Decides.{eqb_tells, nat_tests}
use Rattle.st_model.specs.declared.tree.Tree.{Tree}
use Rattle.st_model.specs.declared.need.Need.{Need}
use Rattle.st_model.specs.declared.need.Need.TheVariants.{Pays}
use Rattle.st_model.specs.Lists.{has, total}
use Rattle.st_model.specs.Network.{Network, IsVertex, link, need_of, is_needed, is_required, prize, pays}
use Rattle.st_model.specs.Arborescence.{reached, IsArborescence, arc_cost}
use Rattle.st_model.specs.Made.{has_pair}
use Rattle.st_model.proofs.Members.{has-one}
use Rattle.st_model.proofs.Sums.{total-append}
use Rattle.st_model.proofs.ThinGrowth.{link-from_pair}
use Rattle.st_model.proofs.Reaching.{tree-vertex}
use Rattle.lift_back.specs.State.{State, IsState, IsTreeOf, worth}
use Rattle.lift_back.specs.Steps.{gone_with}
use Rattle.lift_back.specs.Laws.{HasTreeWithin}
use Rattle.lift_back.proofs.Along.{Agrees}
use Rattle.lift_back.proofs.Trees.{IsGrownOf, grown_of, all_append, all_then, all_kept, arcs_are, IsArc, grows_there, total_within, no_worse}
use Rattle.lift_back.proofs.Past.{is_past, moved, past_tree, moved_past}

-- a vertex that is reached is none that is not
pub not_it : (r : List ℕ) (v w : ℕ) → has r v ≡ false → has r w ≡ true → (w == v) ≡ false
not_it r v w absent there = ne_eqb w v (λ same. false≢true (sym absent ∙ (ap (has r) (sym same) ∙ there)))

-- who is reached isn't gone
pub reached_stays : (s : State) (t : Tree) (w : ℕ) → IsTreeOf s t → IsTrue (has (reached t) w) → IsFalse (has s.gone w)
reached_stays s t w tree there = false_from_ne_true (has s.gone w) (λ gone. false≢true (sym (tree.avoids w gone) ∙ there))

-- who is another vertex and isn't gone stays when v goes
pub stays : (s : State) (v w : ℕ) → (w == v) ≡ false → IsFalse (has s.gone w) → IsFalse (gone_with s v w)
stays s v w other present = let turned : (v == w) ≡ false = grind (arith, nat_tests) in rw (turned, present) refl

-- both ends of an arc past v are other vertices
pub past_ends : (v : ℕ) (arc : ℕ × ℕ) → is_past v arc ≡ true → ((arc.0 == v) ≡ false) × ((arc.1 == v) ≡ false)
past_ends v arc past = by_test (arc.0 == v) (arc.1 == v) refl refl past
  where
    by_test : (p q : Bool) → (arc.0 == v) ≡ p → (arc.1 == v) ≡ q → not (p || q) ≡ true → ((arc.0 == v) ≡ false) × ((arc.1 == v) ≡ false)
    by_test true q p_is q_is h = absurd (false≢true h)
    by_test false true p_is q_is h = absurd (false≢true h)
    by_test false false p_is q_is h = (p_is, q_is)

-- links of a tree's own arcs
pub pair_linked : (I : Network) (t : Tree) (u w : ℕ) → IsArborescence I t → IsTrue (has_pair t.arcs u w) → IsSome (link I.links u w)
pair_linked I t u w tree there = link-from_pair I.links t.arcs u w (all_then (IsArc I (reached t)) (λ arc. IsSome (link I.links arc.0 arc.1)) t.arcs (λ arc is. is.linked) (arcs_are I (t.start ∷ []) t.arcs tree.grows)) there

-- who is gone, v too, is not reached by a tree that was grown past v
pub past_avoids : (s : State) (J : Network) (t new : Tree) (v x : ℕ) (extra : List (ℕ × ℕ)) → IsTreeOf s t → IsGrownOf J (extra ++ filter (is_past v) t.arcs) x new → IsTrue (has (reached t) x) → (x == v) ≡ false → AllByRecursion (λ pair. IsFalse (gone_with s v pair.0) × IsFalse (gone_with s v pair.1)) extra → (w : ℕ) → IsTrue (gone_with s v w) → IsFalse (has (reached new) w)
past_avoids s J t new v x extra tree grown x_there x_other extra_stays w gone =
    let S = λ (y : ℕ). not (gone_with s v y) in
    let kept = all_kept (IsArc s.instance (reached t)) (is_past v) t.arcs (arcs_are s.instance (t.start ∷ []) t.arcs tree.tree.arborescence.grows) in
    let first = all_then (λ pair. IsFalse (gone_with s v pair.0) × IsFalse (gone_with s v pair.1)) (λ pair. S pair.0 ≡ S pair.1) extra (λ pair out. ap not (out.0 ∙ sym out.1)) extra_stays in
    let rest = all_then (λ arc. IsArc s.instance (reached t) arc × IsTrue (is_past v arc)) (λ pair. S pair.0 ≡ S pair.1) (filter (is_past v) t.arcs) (λ arc is. ap not (stays s v arc.0 (past_ends v arc is.1).0 (reached_stays s t arc.0 tree is.0.tail) ∙ sym (stays s v arc.1 (past_ends v arc is.1).1 (reached_stays s t arc.1 tree is.0.head)))) kept in
    false_from_ne_true (has (reached new) w) (λ there. false≢true (sym (ap not gone) ∙ grown.within S (not_from_false (gone_with s v x) (stays s v x x_other (reached_stays s t x tree x_there))) (all_append (λ pair. S pair.0 ≡ S pair.1) extra (filter (is_past v) t.arcs) first rest) w there))

-- v needs nothing and goes, and the links past v are there for no more than before
pub record Skips (before after : State) (v : ℕ) : Type 0 where
  pub count : after.instance.n ≡ before.instance.n
  pub needed : (w : ℕ) → IsVertex before.instance.n w → need_of after.instance w ≡ need_of before.instance w
  pub left_out : (w : ℕ) → has after.gone w ≡ gone_with before v w
  pub paid : after.offset ≡ before.offset
  pub vertex : IsVertex before.instance.n v
  pub idle : need_of before.instance v ≡ Pays 0
  pub linked : (pair : ℕ × ℕ) → IsTrue (is_past v pair) → IsSome (link before.instance.links pair.0 pair.1) → IsSome (link after.instance.links pair.0 pair.1)
  pub cost : (pair : ℕ × ℕ) → IsTrue (is_past v pair) → IsSome (link before.instance.links pair.0 pair.1) → arc_cost after.instance pair ≤ arc_cost before.instance pair

-- what is required after was required before
required_before : (before after : State) (v w : ℕ) → Skips before after v → IsVertex before.instance.n w → IsTrue (is_required after.instance w) → IsTrue (is_required before.instance w)
required_before before after v w skips vertex needed = ap is_needed (sym (skips.needed w vertex)) ∙ needed

-- and isn't v
required_other : (before after : State) (v w : ℕ) → Skips before after v → IsVertex before.instance.n w → IsTrue (is_required after.instance w) → (w == v) ≡ false
required_other before after v w skips vertex needed = ne_eqb w v (λ same. false≢true (ap is_needed (sym (ap (need_of before.instance) same ∙ skips.idle)) ∙ required_before before after v w skips vertex needed))

-- a tree that doesn't reach v stays
pub skips_unreached : (before after : State) (t : Tree) (v : ℕ) → Skips before after v → IsTreeOf before t → has (reached t) v ≡ false → HasTreeWithin after (worth before t)
skips_unreached before after t v skips tree absent =
    let I = before.instance in
    let J = after.instance in
    let arcs = arcs_are I (t.start ∷ []) t.arcs tree.tree.arborescence.grows in
    let past = λ (arc : ℕ × ℕ) (is : IsArc I (reached t) arc). not_past arc (not_it (reached t) v arc.0 absent is.tail) (not_it (reached t) v arc.1 absent is.head) in
    let linked = all_then (IsArc I (reached t)) (λ arc. IsSome (link J.links arc.0 arc.1)) t.arcs (λ arc is. skips.linked arc (past arc is) is.linked) arcs in
    let within = total_within (arc_cost J) (arc_cost I) t.arcs (all_then (IsArc I (reached t)) (λ arc. arc_cost J arc ≤ arc_cost I arc) t.arcs (λ arc is. skips.cost arc (past arc is) is.linked) arcs) in
    let paid = skips.paid in
    no_worse before after t t (record {
      count = skips.count;
      arborescence = record { start = subst (λ (n : ℕ). IsVertex n t.start) (sym skips.count) tree.tree.arborescence.start; grows = grows_there I J (t.start ∷ []) t.arcs tree.tree.arborescence.grows linked };
      required = λ w vertex needed. tree.tree.required w vertex (required_before before after v w skips vertex needed);
      avoids = λ w gone. elim (or_cases (v == w) (has before.gone w) (sym (skips.left_out w) ∙ gone)) [
        | inl same ↦ ap (has (reached t)) (sym (eqb-true v w same)) ∙ absent
        | inr before_too ↦ tree.avoids w before_too
      ];
      arcs = omega arith;
      missed = λ w vertex. record { prize = same_prize (skips.needed w vertex); still = λ there. inl there };
    })
  where
    not_past : (arc : ℕ × ℕ) → (arc.0 == v) ≡ false → (arc.1 == v) ≡ false → is_past v arc ≡ true
    not_past arc tail head = rw (tail, head) refl

    same_prize : {a b : Need} → a ≡ b → prize a ≤ prize b
    same_prize e = let same = ap prize e in omega arith

-- in place of v alone anybody else is a tree
pub skips_lone : (before after : State) (t : Tree) (v z : ℕ) → Skips before after v → IsTreeOf before t → IsTrue (has (reached t) v) → ((w : ℕ) → IsTrue (has (reached t) w) → (w ≡ t.start) × (t.arcs ≡ [])) → IsVertex before.instance.n z → IsFalse (has before.gone z) → z ≢ v → HasTreeWithin after (worth before t)
skips_lone before after t v z skips tree v_there lone z_vertex z_present other =
    let I = before.instance in
    let J = after.instance in
    let only_v = λ (w : ℕ) (there : IsTrue (has (reached t) w)). (lone w there).0 ∙ sym (lone v v_there).0 in
    let paid = skips.paid in
    no_worse before after t (record { start = z; arcs = [] }) (record {
      count = skips.count;
      arborescence = record { start = subst (λ (n : ℕ). IsVertex n z) (sym skips.count) z_vertex; grows = tt };
      required = λ w vertex needed. absurd (false≢true (sym (required_other before after v w skips vertex needed) ∙ eq-eqb w v (only_v w (tree.tree.required w vertex (required_before before after v w skips vertex needed)))));
      avoids = λ w gone. false_from_ne_true (has (z ∷ []) w) (λ there. false≢true (sym (stays before v w (ne_eqb w v (λ same. other (has-one z w there ∙ same))) (ap (has before.gone) (sym (has-one z w there)) ∙ z_present)) ∙ (sym (skips.left_out w) ∙ gone)));
      arcs = omega arith;
      missed = λ w vertex. record { prize = same_prize (skips.needed w vertex); still = λ there. inr (ap prize (skips.needed w vertex ∙ (ap (need_of I) (only_v w there) ∙ skips.idle))) };
    })
  where
    same_prize : {a b : Need} → a ≡ b → prize a ≤ prize b
    same_prize e = let same = ap prize e in omega arith

-- a tree that reaches v and somebody else: other pairs stand in for v's arcs
pub skips_past : (before after : State) (t : Tree) (v u x : ℕ) (extra : List (ℕ × ℕ)) → Skips before after v → IsState before → IsTreeOf before t → IsTrue (has (reached t) x) → (x == v) ≡ false → AllByRecursion (λ pair. IsSome (link after.instance.links pair.0 pair.1)) extra → AllByRecursion (λ pair. IsFalse (gone_with before v pair.0) × IsFalse (gone_with before v pair.1)) extra → ((S : ℕ → Bool) (w : ℕ) → Agrees S extra → IsTrue (has_pair t.arcs v w) → moved S v u w ≡ S u) → total (arc_cost after.instance) extra + total (arc_cost before.instance) (filter (is_past v) t.arcs) ≤ total (arc_cost before.instance) t.arcs → HasTreeWithin after (worth before t)
skips_past before after t v u x extra skips state tree x_there x_other extra_linked extra_stays near saved =
    let I = before.instance in
    let J = after.instance in
    let arcs = filter (is_past v) t.arcs in
    let kept = all_kept (IsArc I (reached t)) (is_past v) t.arcs (arcs_are I (t.start ∷ []) t.arcs tree.tree.arborescence.grows) in
    let linked = all_then (λ arc. IsArc I (reached t) arc × IsTrue (is_past v arc)) (λ pair. IsSome (link J.links pair.0 pair.1)) arcs (λ arc is. skips.linked arc is.1 is.0.linked) kept in
    let within = total_within (arc_cost J) (arc_cost I) arcs (all_then (λ arc. IsArc I (reached t) arc × IsTrue (is_past v arc)) (λ arc. arc_cost J arc ≤ arc_cost I arc) arcs (λ arc is. skips.cost arc is.1 is.0.linked) kept) in
    let x_vertex = tree-vertex I t x state.instance tree.tree.arborescence x_there in
    let grown = grown_of J (extra ++ arcs) x (subst (λ (n : ℕ). IsVertex n x) (sym skips.count) x_vertex) (all_append (λ pair. IsSome (link J.links pair.0 pair.1)) extra arcs extra_linked linked) in
    let reaches = past_tree I J t grown.0 v u x extra tree.tree.arborescence grown.1 x_there x_other near in
    let cost = grown.1.cost in
    let parts = total-append (arc_cost J) extra arcs in
    let paid = skips.paid in
    no_worse before after t grown.0 (record {
      count = skips.count;
      arborescence = grown.1.arborescence;
      required = λ w vertex needed. sym (moved_past (has (reached grown.0)) v u w (required_other before after v w skips vertex needed)) ∙ reaches w (tree.tree.required w vertex (required_before before after v w skips vertex needed));
      avoids = λ w gone. past_avoids before J t grown.0 v x extra tree grown.1 x_there x_other extra_stays w (sym (skips.left_out w) ∙ gone);
      arcs = omega arith;
      missed = λ w vertex. record { prize = same_prize (skips.needed w vertex); still = λ there. still grown.0 w vertex (reaches w there) };
    })
  where
    same_prize : {a b : Need} → a ≡ b → prize a ≤ prize b
    same_prize e = let same = ap prize e in omega arith

    still : (new : Tree) (w : ℕ) → IsVertex before.instance.n w → IsTrue (moved (has (reached new)) v u w) → IsTrue (has (reached new) w) ⊎ (pays after.instance w ≡ 0)
    still new w vertex there = elim (eqb_tells w v) [
      | inl same ↦ inr (ap prize (skips.needed w vertex ∙ (ap (need_of before.instance) same.1 ∙ skips.idle)))
      | inr other ↦ inl (sym (moved_past (has (reached new)) v u w other.0) ∙ there)
    ]
