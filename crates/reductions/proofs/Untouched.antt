-- Where a step changes nothing, no step may be taken that could not be before.
use Rattle.std.proofs.Common.{◌≡◌, ◌≢◌, ℕ, ◌+◌, Bool, true, false, cond, ◌||◌, ◌&&◌, ◌==◌, eqb, List, [], ◌∷◌, Option, Some, None, IsSome, refl, sym, ap, subst, ◌∙◌, arith}
use Rattle.std.specs.Prelude.{IsTrue, IsFalse}
use Rattle.std.proofs.lemmas.Bool.Decides.{nat_tests}
use Rattle.st_model.specs.declared.need.Need.TheVariants.{Required, Pays}
use Rattle.st_model.specs.Lists.{has}
use Rattle.st_model.specs.Made.{is_between}
use Rattle.st_model.specs.Network.{IsVertex, link, need_of, is_needed, is_required}
use Rattle.st_model.proofs.Distinct.{link-comm}
use Rattle.lift_back.specs.State.{State, IsState}
use Rattle.lift_back.specs.Steps.{IsForced, IsIdle, IsPendant, IsThrough, LeadsOnlyTo, TakesDetour, TakesForced, TakesPendant, TakesThrough, gone_with, least, links_without}
use Rattle.reductions.specs.Results.{HasNoStepAt}

-- all that steps at w depend on is as before, or there is less of it
pub record IsUntouched (before after : State) (w : ℕ) : Type 0 where
  pub count : after.instance.n ≡ before.instance.n
  pub links : (x : ℕ) → link after.instance.links w x ≡ link before.instance.links w x
  pub need : IsVertex before.instance.n w → need_of after.instance w ≡ need_of before.instance w
  pub gone : has after.gone w ≡ has before.gone w
  pub present : (x : ℕ) → IsFalse (has after.gone x) → IsFalse (has before.gone x)
  pub others : (x : ℕ) → IsVertex before.instance.n x → IsTrue (is_required after.instance x) → x ≢ w → (y : ℕ) × IsVertex before.instance.n y × IsTrue (is_required before.instance y) × (y ≢ w)

module _ (before after : State) (w : ℕ) (same : IsUntouched before after w) where
  vertex_still : (x : ℕ) → IsVertex after.instance.n x → IsVertex before.instance.n x
  vertex_still x vertex = subst (λ (n : ℕ). IsVertex n x) same.count vertex

  only_still : (others : List ℕ) → LeadsOnlyTo after.instance w others → LeadsOnlyTo before.instance w others
  only_still others only x linked = only x (subst (λ (o : Option ℕ). IsSome o) (sym (same.links x)) linked)

  idle_still : IsIdle after w → IsIdle before w
  idle_still idle = record {
    vertex = vertex_still w idle.vertex;
    present = sym same.gone ∙ idle.present;
    need = sym (same.need (vertex_still w idle.vertex)) ∙ idle.need;
  }

  pendant_still : IsPendant after w → IsPendant before w
  pendant_still may = record {
    idle = idle_still may.idle;
    leaf = (may.leaf.0, only_still (may.leaf.0 ∷ []) may.leaf.1);
    other = (may.other.0, vertex_still may.other.0 may.other.1, same.present may.other.0 may.other.2, may.other.3);
  }

  through_still : (a b x y : ℕ) → IsThrough after w a b x y → IsThrough before w a b x y
  through_still a b x y may = record {
    idle = idle_still may.idle;
    different = may.different;
    first = sym (same.links a) ∙ may.first;
    second = sym (same.links b) ∙ may.second;
    only = only_still (a ∷ b ∷ []) may.only;
  }

  forced_still : (u c : ℕ) → IsForced after w u c → IsForced before w u c
  forced_still u c may = record {
    vertex = vertex_still w may.vertex;
    required = ap is_needed (sym (same.need (vertex_still w may.vertex))) ∙ may.required;
    linked = sym (same.links u) ∙ may.linked;
    only = only_still (u ∷ []) may.only;
    other = same.others may.other.0 (vertex_still may.other.0 may.other.1) may.other.2 may.other.3;
  }

  pub no_step_still : HasNoStepAt before w → HasNoStepAt after w
  no_step_still none = (
    (λ may. none.0 (pendant_still may)),
    (λ (a, b, x, y, may). none.1 (a, b, x, y, through_still a b x y may)),
    (λ (u, c, may). none.2 (u, c, forced_still u c may)),
  )

-- who is gone has no step
pub no_step_gone : (s : State) (v : ℕ) → IsState s → IsTrue (has s.gone v) → HasNoStepAt s v
no_step_gone s v is gone = (
  (λ may. absurd (let here = may.idle.present in cc)),
  (λ (a, b, x, y, may). absurd (let here = may.idle.present in cc)),
  (λ (u, c, may). absurd (let idle : is_required s.instance v ≡ false = ap is_needed (is.idle v gone) in let required = may.required in cc)),
)

-- a vertex that isn't linked with v keeps its links where those of v go
links_kept : (s : State) (v w x : ℕ) → eqb w v ≡ false → link s.instance.links v w ≡ None → links_without s v w x ≡ link s.instance.links w x
links_kept s v w x other apart = ap (λ p. cond (p || (x == v)) None (link s.instance.links w x)) other ∙ by_second (eqb x v) refl
  where
    by_second : (p : Bool) → eqb x v ≡ p → cond p None (link s.instance.links w x) ≡ link s.instance.links w x
    by_second true is =
        let same : x ≡ v = grind (arith, nat_tests) in
        sym (ap (link s.instance.links w) same ∙ link-comm s.instance.links w v ∙ apart)
    by_second false is = refl

-- a vertex other than both isn't one of a pair
pub not_of_pair : (a b w x : ℕ) → (w ≡ a → ⊥) → (w ≡ b → ⊥) → is_between (a, b) w x ≡ false
not_of_pair a b w x not_a not_b =
    let one : eqb a w ≡ false = grind (arith, nat_tests) in
    let two : eqb b w ≡ false = grind (arith, nat_tests) in
    rw (one, two) (last (eqb a x))
  where
    last : (p : Bool) → (p && false) ≡ false
    last true = refl
    last false = refl

module _ (before after : State) (v w : ℕ) (other : w ≢ v) (apart : link before.instance.links v w ≡ None) where
  other_test : eqb w v ≡ false
  other_test = grind (arith, nat_tests)

  gone_still : (w : ℕ) → eqb v w ≡ false → gone_with before v w ≡ has before.gone w
  gone_still w is = ap (λ p. p || has before.gone w) is

  present_still : ((x : ℕ) → has after.gone x ≡ gone_with before v x) → (x : ℕ) → IsFalse (has after.gone x) → IsFalse (has before.gone x)
  present_still gone x present = second (eqb v x) (has before.gone x) (sym (gone x) ∙ present)
    where
      second : (p q : Bool) → (p || q) ≡ false → q ≡ false
      second true q h = absurd cc
      second false q h = h

  not_linked : (a c : ℕ) → link before.instance.links v a ≡ Some c → w ≡ a → ⊥
  not_linked a c linked same = absurd (let here : link before.instance.links v a ≡ None = ap (link before.instance.links v) (sym same) ∙ apart in cc)

  pub untouched_pendant : TakesPendant before after v → IsUntouched before after w
  untouched_pendant takes = record {
    count = takes.becomes.count;
    links = λ x. takes.becomes.linked w x ∙ links_kept before v w x other_test apart;
    need = λ vertex. takes.becomes.needed w vertex;
    gone = takes.becomes.left_out w ∙ gone_still w (let flipped : eqb v w ≡ false = grind (arith, nat_tests) in flipped);
    present = present_still takes.becomes.left_out;
    others = λ x vertex required apart. (x, vertex, ap is_needed (sym (takes.becomes.needed x vertex)) ∙ required, apart);
  }

  pub untouched_through : (a b x y : ℕ) → TakesThrough before after v a b x y → IsUntouched before after w
  untouched_through a b x y takes = record {
    count = takes.becomes.count;
    links = λ z. takes.becomes.linked w z ∙ ap (λ p. cond p (Some (least before a b (x + y))) (links_without before v w z)) (not_of_pair a b w z (not_linked a x takes.allowed.first) (not_linked b y takes.allowed.second)) ∙ links_kept before v w z other_test apart;
    need = λ vertex. takes.becomes.needed w vertex;
    gone = takes.becomes.left_out w ∙ gone_still w (let flipped : eqb v w ≡ false = grind (arith, nat_tests) in flipped);
    present = present_still takes.becomes.left_out;
    others = λ z vertex required apart. (z, vertex, ap is_needed (sym (takes.becomes.needed z vertex)) ∙ required, apart);
  }

  pub untouched_forced : (u c : ℕ) → TakesForced before after v u c → IsUntouched before after w
  untouched_forced u c takes = record {
    count = takes.becomes.count;
    links = λ x. takes.becomes.linked w x ∙ links_kept before v w x other_test apart;
    need = λ vertex. takes.becomes.needed w vertex ∙ ap (λ p. cond p (Pays 0) (cond (w == u) Required (need_of before.instance w))) other_test ∙ ap (λ p. cond p Required (need_of before.instance w)) (let no_u = not_linked u c takes.allowed.linked in let flipped : eqb w u ≡ false = grind (arith, nat_tests) in flipped);
    gone = takes.becomes.left_out w ∙ gone_still w (let flipped : eqb v w ≡ false = grind (arith, nat_tests) in flipped);
    present = present_still takes.becomes.left_out;
    others = λ x vertex required different. by_vertex x vertex different (eqb x v) refl (eqb x u) refl (ap is_needed (sym (takes.becomes.needed x vertex)) ∙ required);
  }
    where
      by_vertex : (x : ℕ) → IsVertex before.instance.n x → x ≢ w → (p : Bool) → eqb x v ≡ p → (q : Bool) → eqb x u ≡ q → is_needed (cond p (Pays 0) (cond q Required (need_of before.instance x))) ≡ true → (y : ℕ) × IsVertex before.instance.n y × IsTrue (is_required before.instance y) × (y ≢ w)
      by_vertex x vertex different true is q second required = absurd cc
      by_vertex x vertex different false is true second required = (v, takes.allowed.vertex, takes.allowed.required, (λ e. other (sym e)))
      by_vertex x vertex different false is false second required = (x, vertex, required, different)

-- a link goes: vertices other than its ends are untouched
pub untouched_detour : (before after : State) (a b : ℕ) (inner : List ℕ) (w : ℕ) → (w ≡ a → ⊥) → (w ≡ b → ⊥) → TakesDetour before after a b inner → IsUntouched before after w
untouched_detour before after a b inner w not_a not_b takes = record {
  count = takes.becomes.count;
  links = λ x. takes.becomes.linked w x ∙ ap (λ p. cond p None (link before.instance.links w x)) (not_of_pair a b w x not_a not_b);
  need = λ vertex. takes.becomes.needed w vertex;
  gone = takes.becomes.left_out w;
  present = λ x present. sym (takes.becomes.left_out x) ∙ present;
  others = λ x vertex required apart. (x, vertex, ap is_needed (sym (takes.becomes.needed x vertex)) ∙ required, apart);
}
