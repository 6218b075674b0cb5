-- A step is taken and noted: what that leaves to be tried.
use Rattle.std.proofs.Common.{◌≡◌, ◌≢◌, ℕ, ◌<◌, ◌≤◌, Bool, true, false, ◌||◌, eqb, List, [], ◌∷◌, ◌++◌, length, Option, Some, None, IsSome, refl, sym, ap, subst, ◌∙◌, arith, ◌⊎◌, inl, inr}
use Rattle.std.specs.Prelude.{All, IsFalse, OnSome}
use Rattle.std.proofs.lemmas.Bool.Decides.{nat_tests}
use Rattle.std.proofs.lemmas.List.Elements.{All-nil, All-cons, All-tail, All-append}
use Rattle.st_model.specs.declared.link.Link.{Link}
use Rattle.st_model.specs.Lists.{has}
use Rattle.st_model.specs.Network.{Network, IsInstance, IsVertex, link, is_needed, is_required}
use Rattle.st_model.proofs.Links.{linked_in_range}
use Rattle.st_model.proofs.Members.{has-append, has-one}
use Rattle.lift_back.specs.declared.ends.Ends.{Ends}
use Rattle.lift_back.specs.declared.ends.Ends.TheVariants.{Nobody, One, Two, More}
use Rattle.lift_back.specs.declared.step.Step.{Step}
use Rattle.lift_back.specs.declared.step.Step.TheVariants.{Pendant, Through, Forced, Detour}
use Rattle.lift_back.specs.Ends.{AreCovered, HasEnds, HasThree}
use Rattle.lift_back.specs.State.{State, IsState, whole}
use Rattle.lift_back.specs.Steps.{Applies, Takes, TakesDetour, TakesForced, TakesPendant, TakesThrough, gone_with}
use Rattle.lift_back.proofs.ThroughTrees.{has_two}
use Rattle.reductions.specs.declared.work.Work.{Work}
use Rattle.reductions.specs.Results.{HasNoStepAt}
use Rattle.reductions.specs.Sizes.{size}
use Rattle.reductions.specs.Working.{IsOf, IsWork, TookStep, Went, row_of}
use Rattle.reductions.proofs.Shrinking.{link_less, vertex_less}
use Rattle.reductions.proofs.Untouched.{IsUntouched, no_step_gone, no_step_still, untouched_detour, untouched_forced, untouched_pendant, untouched_through}

-- one step more
applies_more : (steps : List Step) (first last next : State) (step : Step) → Applies steps first last → IsState next → Takes step last next → Applies (steps ++ step ∷ []) first next
applies_more [] first last next step same state takes = (next, state, subst (λ (s : State). Takes step s next) (sym same) takes, refl)
applies_more (s ∷ steps) first last next step (middle, is, takes_first, rest) state takes = (middle, is, takes_first, applies_more steps middle last next step rest state takes)

-- who is linked is a vertex
pub linked_vertices : (I : Network) (u w : ℕ) → IsInstance I → IsSome (link I.links u w) → IsVertex I.n u × IsVertex I.n w
linked_vertices I u w is linked = by_case (link I.links u w) linked (linked_in_range I.n I.links u w is.ends)
  where
    by_case : (o : Option ℕ) → IsSome o → OnSome o (IsVertex I.n u × IsVertex I.n w) → IsVertex I.n u × IsVertex I.n w
    by_case None some h = absurd cc
    by_case (Some c) some h = h

-- three different neighbours are not among two
not_three : (links : List Link) (v p q : ℕ) → ((x : ℕ) → IsSome (link links v x) → (x ≡ p) ⊎ (x ≡ q)) → (a b c : ℕ) → HasThree links v a b c → ⊥
not_three links v p q among a b c three = by_place (among a three.first) (among b three.second) (among c three.third)
  where
    by_place : (a ≡ p) ⊎ (a ≡ q) → (b ≡ p) ⊎ (b ≡ q) → (c ≡ p) ⊎ (c ≡ q) → ⊥
    by_place (inl x) (inl y) z = three.apart.0 (x ∙ sym y)
    by_place (inr x) (inr y) z = three.apart.0 (x ∙ sym y)
    by_place (inl x) (inr y) (inl z) = three.apart.1 (x ∙ sym z)
    by_place (inl x) (inr y) (inr z) = three.apart.2 (y ∙ sym z)
    by_place (inr x) (inl y) (inl z) = three.apart.2 (y ∙ sym z)
    by_place (inr x) (inl y) (inr z) = three.apart.1 (x ∙ sym z)

-- where links lead to two at most, the ends are all of them
covered : (links : List Link) (v p q : ℕ) → ((x : ℕ) → IsSome (link links v x) → (x ≡ p) ⊎ (x ≡ q)) → (ends : Ends) → HasEnds links v ends → AreCovered links v (row_of ends)
covered links v p q among Nobody has_ends = has_ends
covered links v p q among (One u) has_ends = has_ends.1
covered links v p q among (Two a b) has_ends = has_ends.3
covered links v p q among More (a, b, c, three) = absurd (not_three links v p q among a b c three)

pub row_short : (ends : Ends) → length (row_of ends) ≤ 2
row_short Nobody = omega arith
row_short (One u) = omega arith
row_short (Two a b) = omega arith
row_short More = omega arith

-- what follows where v goes
pub record VertexStep (before after : State) (v : ℕ) : Type 0 where
  pub count : after.instance.n ≡ before.instance.n
  pub left_out : (w : ℕ) → has after.gone w ≡ gone_with before v w
  pub vertex : IsVertex before.instance.n v
  pub present : IsFalse (has before.gone v)
  pub untouched : (w : ℕ) → w ≢ v → link before.instance.links v w ≡ None → IsUntouched before after w
  pub ends : (ends : Ends) → HasEnds before.instance.links v ends → AreCovered before.instance.links v (row_of ends)

pendant_step : (before after : State) (v : ℕ) → TakesPendant before after v → VertexStep before after v
pendant_step before after v takes = record {
  count = takes.becomes.count;
  left_out = takes.becomes.left_out;
  vertex = takes.allowed.idle.vertex;
  present = takes.allowed.idle.present;
  untouched = λ w other apart. untouched_pendant before after v w other apart takes;
  ends = covered before.instance.links v takes.allowed.leaf.0 takes.allowed.leaf.0 (λ x linked. inl (sym (has-one takes.allowed.leaf.0 x (takes.allowed.leaf.1 x linked))));
}

through_step : (before after : State) (v a b x y : ℕ) → TakesThrough before after v a b x y → VertexStep before after v
through_step before after v a b x y takes = record {
  count = takes.becomes.count;
  left_out = takes.becomes.left_out;
  vertex = takes.allowed.idle.vertex;
  present = takes.allowed.idle.present;
  untouched = λ w other apart. untouched_through before after v w other apart a b x y takes;
  ends = covered before.instance.links v a b (λ z linked. has_two a b z (takes.allowed.only z linked));
}

forced_step : (before after : State) (v u c : ℕ) → IsState before → TakesForced before after v u c → VertexStep before after v
forced_step before after v u c is takes = record {
  count = takes.becomes.count;
  left_out = takes.becomes.left_out;
  vertex = takes.allowed.vertex;
  present = not_gone (has before.gone v) refl;
  untouched = λ w other apart. untouched_forced before after v w other apart u c takes;
  ends = covered before.instance.links v u u (λ x linked. inl (sym (has-one u x (takes.allowed.only x linked))));
}
  where
    not_gone : (b : Bool) → has before.gone v ≡ b → b ≡ false
    not_gone true gone = absurd (let idle : is_required before.instance v ≡ false = ap is_needed (is.idle v gone) in let required = takes.allowed.required in cc)
    not_gone false gone = refl

vertex_step : (before after : State) (v : ℕ) (step : Step) → IsState before → IsOf v step → Takes step before after → VertexStep before after v
vertex_step before after v (Pendant w) is of takes = subst (VertexStep before after) of (pendant_step before after w takes)
vertex_step before after v (Through w) is of (a, b, x, y, takes) = subst (VertexStep before after) of (through_step before after w a b x y takes)
vertex_step before after v (Forced w) is of (u, c, takes) = subst (VertexStep before after) of (forced_step before after w u c is takes)
vertex_step before after v (Detour a b inner) is of takes = absurd of

-- nothing is to be tried at a vertex where no step is
pub not_tried : (w : Work) (v : ℕ) (queue : List ℕ) → HasNoStepAt w.reduced.state v → IsWork w (v ∷ queue) → IsWork w queue
not_tried w v queue none work = record {
  count = work.count;
  applies = work.applies;
  state = work.state;
  vertices = All-tail (IsVertex w.reduced.state.instance.n) v queue work.vertices;
  tried = λ u missing. by_vertex u missing (eqb v u) refl;
}
  where
    by_vertex : (u : ℕ) → IsFalse (has queue u) → (b : Bool) → eqb v u ≡ b → HasNoStepAt w.reduced.state u
    by_vertex u missing true is = let same : v ≡ u = grind (arith, nat_tests) in subst (HasNoStepAt w.reduced.state) same none
    by_vertex u missing false is = work.tried u (ap (λ p. p || has queue u) is ∙ missing)

-- of two tests that fail together, each fails
neither : (p q : Bool) → (p || q) ≡ false → (p ≡ false) × (q ≡ false)
neither true q h = absurd cc
neither false q h = (refl, h)

-- where the links of a vertex lead are vertices
row_vertices : (I : Network) (v : ℕ) (ends : Ends) → IsInstance I → HasEnds I.links v ends → All (IsVertex I.n) (row_of ends)
row_vertices I v Nobody is has_ends = All-nil (IsVertex I.n)
row_vertices I v (One u) is has_ends = All-cons (IsVertex I.n) u [] (linked_vertices I v u is has_ends.0).1 (All-nil (IsVertex I.n))
row_vertices I v (Two a b) is has_ends = All-cons (IsVertex I.n) a (b ∷ []) (linked_vertices I v a is has_ends.1).1 (All-cons (IsVertex I.n) b [] (linked_vertices I v b is has_ends.2).1 (All-nil (IsVertex I.n)))
row_vertices I v More is has_ends = All-nil (IsVertex I.n)

module _ (old new : Work) (state : IsState new.reduced.state) (first : new.reduced.first ≡ old.reduced.first) where
  -- a vertex went: its neighbours are to be looked at
  pub went_work : (v : ℕ) (ends : Ends) (queue : List ℕ) → IsWork old (v ∷ queue) → HasEnds old.reduced.state.instance.links v ends → Went old new v → IsWork new (queue ++ row_of ends)
  went_work v ends queue work has_ends went = record {
    count = step.count ∙ work.count ∙ ap (λ (I : Network). I.n) (sym first);
    applies = subst (λ (p : List Step × Network). Applies p.0 (whole p.1) new.reduced.state) (λ j. (sym went.took.noted j, sym first j)) (applies_more old.steps.items (whole old.reduced.first) old.reduced.state new.reduced.state went.step work.applies state went.took.takes);
    state = state;
    vertices = subst (λ (n : ℕ). All (IsVertex n) (queue ++ row_of ends)) (sym step.count) (All-append (IsVertex old.reduced.state.instance.n) queue (row_of ends) (All-tail (IsVertex old.reduced.state.instance.n) v queue work.vertices) (row_vertices old.reduced.state.instance v ends work.state.instance has_ends));
    tried = λ w missing. by_vertex w (neither (has queue w) (has (row_of ends) w) (sym (has-append queue (row_of ends) w) ∙ missing)) (eqb v w) refl;
  }
    where
      step : VertexStep old.reduced.state new.reduced.state v
      step = vertex_step old.reduced.state new.reduced.state v went.step work.state went.of went.took.takes

      apart : (w : ℕ) → IsFalse (has (row_of ends) w) → (o : Option ℕ) → link old.reduced.state.instance.links v w ≡ o → o ≡ None
      apart w missing None is = refl
      apart w missing (Some c) is = absurd (let there = step.ends ends has_ends w (subst (λ (o : Option ℕ). IsSome o) (sym is) refl) in cc)

      by_vertex : (w : ℕ) → IsFalse (has queue w) × IsFalse (has (row_of ends) w) → (b : Bool) → eqb v w ≡ b → HasNoStepAt new.reduced.state w
      by_vertex w missing true is =
          let same : v ≡ w = grind (arith, nat_tests) in
          subst (HasNoStepAt new.reduced.state) same (no_step_gone new.reduced.state v state (step.left_out v ∙ (let self : eqb v v ≡ true = grind (arith, nat_tests) in ap (λ p. p || has old.reduced.state.gone v) self)))
      by_vertex w missing false is =
          no_step_still old.reduced.state new.reduced.state w (step.untouched w (λ e. grind (arith, nat_tests)) (apart w missing.1 (link old.reduced.state.instance.links v w) refl))
          (work.tried w (ap (λ p. p || has queue w) is ∙ missing.0))

  pub went_less : (v : ℕ) (queue : List ℕ) → IsWork old (v ∷ queue) → Went old new v → size new.reduced.state < size old.reduced.state
  went_less v queue work went =
      let step = vertex_step old.reduced.state new.reduced.state v went.step work.state went.of went.took.takes in
      vertex_less old.reduced.state new.reduced.state v step.count step.left_out step.vertex step.present

  -- a link went: its ends are to be looked at
  pub dropped_work : (a b : ℕ) (inner queue : List ℕ) → IsWork old queue → TookStep old new (Detour a b inner) → IsWork new (queue ++ a ∷ b ∷ [])
  dropped_work a b inner queue work took = record {
    count = takes.becomes.count ∙ work.count ∙ ap (λ (I : Network). I.n) (sym first);
    applies = subst (λ (p : List Step × Network). Applies p.0 (whole p.1) new.reduced.state) (λ j. (sym took.noted j, sym first j)) (applies_more old.steps.items (whole old.reduced.first) old.reduced.state new.reduced.state (Detour a b inner) work.applies state took.takes);
    state = state;
    vertices = subst (λ (n : ℕ). All (IsVertex n) (queue ++ a ∷ b ∷ [])) (sym takes.becomes.count) (All-append (IsVertex n) queue (a ∷ b ∷ []) work.vertices (All-cons (IsVertex n) a (b ∷ []) both.0 (All-cons (IsVertex n) b [] both.1 (All-nil (IsVertex n)))));
    tried = λ w missing. by_vertex w (neither (has queue w) (has (a ∷ b ∷ []) w) (sym (has-append queue (a ∷ b ∷ []) w) ∙ missing));
  }
    where
      n : ℕ
      n = old.reduced.state.instance.n

      takes : TakesDetour old.reduced.state new.reduced.state a b inner
      takes = took.takes

      both : IsVertex old.reduced.state.instance.n a × IsVertex old.reduced.state.instance.n b
      both = linked_vertices old.reduced.state.instance a b work.state.instance takes.allowed.linked

      by_vertex : (w : ℕ) → IsFalse (has queue w) × IsFalse (has (a ∷ b ∷ []) w) → HasNoStepAt new.reduced.state w
      by_vertex w missing =
          let apart = neither (eqb a w) (eqb b w || false) missing.1 in
          let also = neither (eqb b w) false apart.1 in
          no_step_still old.reduced.state new.reduced.state w (untouched_detour old.reduced.state new.reduced.state a b inner w (λ e. absurd (let one : eqb a w ≡ true = grind (arith, nat_tests) in let other = apart.0 in cc)) (λ e. absurd (let one : eqb b w ≡ true = grind (arith, nat_tests) in let other = also.0 in cc)) takes)
          (work.tried w missing.0)

  pub dropped_less : (a b : ℕ) (inner queue : List ℕ) → IsWork old queue → TookStep old new (Detour a b inner) → size new.reduced.state < size old.reduced.state
  dropped_less a b inner queue work took =
      let takes : TakesDetour old.reduced.state new.reduced.state a b inner = took.takes in
      let both = linked_vertices old.reduced.state.instance a b work.state.instance takes.allowed.linked in
      link_less old.reduced.state new.reduced.state a b takes.becomes.count takes.becomes.linked takes.becomes.left_out both.0 both.1 takes.allowed.linked
