-- Where nobody waits and the other end isn't reached, no walk leads there.
use Rattle.std.proofs.Common.{◌≡◌, ℕ, ◌+◌, ◌≤◌, Bool, true, false, cond, List, [], ◌∷◌, Option, Some, None, IsSome, unwrap_or, refl, sym, ap, subst, arith, inl, inr}
use Rattle.std.specs.Prelude.{OnSome}
use Rattle.st_model.specs.Network.{Network, IsInstance, IsVertex, link, is_required}
use Rattle.st_model.proofs.Links.{linked_in_range}
use Rattle.st_model.specs.Arborescence.{arc_cost}
use Rattle.lift_back.specs.Detours.{MayGo}
use Rattle.lift_back.proofs.Walking.{GoesOn, detour_goes, first_goes, last_goes}
use Rattle.special_dist.specs.declared.quest.Quest.{Quest}
use Rattle.special_dist.specs.declared.search.Search.{Search}
use Rattle.special_dist.specs.Answers.{HasNoDetour}
use Rattle.special_dist.specs.Visits.{IsQuest}
use Rattle.special_dist.specs.Searching.{IsFollowed, IsReached, IsSearch}

-- the quest's limit is what its link costs
pub limit_is : (I : Network) (q : Quest) → IsQuest I q → q.limit ≡ arc_cost I (q.a, q.b)
limit_is I q is = sym (ap (λ o. unwrap_or o 0) is.linked)

-- its ends are vertices
pub ends_are_vertices : (I : Network) (q : Quest) → IsInstance I → IsQuest I q → IsVertex I.n q.a × IsVertex I.n q.b
ends_are_vertices I q is quest = subst (λ (o : Option ℕ). OnSome o (IsVertex I.n q.a × IsVertex I.n q.b)) quest.linked (linked_in_range I.n I.links q.a q.b is.ends)

-- a link that is there costs what an arc over it costs
pub linked_cost : (o : Option ℕ) → IsSome o → o ≡ Some (unwrap_or o 0)
linked_cost None some = absurd cc
linked_cost (Some cost) some = refl

-- less was paid after the next vertex where less was paid before it
after_less : (required : Bool) (less more : ℕ) → less ≤ more → cond required 0 less ≤ cond required 0 more
after_less true less more h = omega arith
after_less false less more h = h

module _ (I : Network) (q : Quest) (s : Search) (search : IsSearch I q s []) where
  -- wherever a walk may go on, it was followed
  follow : (from paid to : ℕ) → IsReached s from paid → MayGo I q.a q.b q.limit paid from to → (least : ℕ) × (least ≤ paid + arc_cost I (from, to)) × IsFollowed I q s to least
  follow from paid to (least, is, within) may = elim (search.spread from least is) [
    | inl (place, visit, held, at, vertex, paid_is) ↦ absurd (let none = held.1 in omega arith)
    | inr spread ↦
        let cost = arc_cost I (from, to) in
        let room = may.within in
        (least + cost, (omega arith), spread to cost (record { linked = linked_cost (link I.links from to) may.linked; other = may.other; within = omega arith }))
  ]

  stuck : (from paid : ℕ) (rest : List ℕ) → IsReached s from paid → GoesOn I q.a q.b q.limit paid from rest → ⊥
  stuck from paid [] reached goes = (follow from paid q.b reached (last_goes I q.a q.b q.limit paid from goes)).2.0 refl
  stuck from paid (w ∷ rest) reached goes =
      let parts = first_goes I q.a q.b q.limit paid from w rest goes in
      let followed = follow from paid w reached parts.0 in
      let there = followed.2.1 in
      stuck w (cond (is_required I w) 0 (paid + arc_cost I (from, w))) rest (there.0, there.1, (let less = after_less (is_required I w) followed.0 (paid + arc_cost I (from, w)) followed.1 in let low = there.2 in omega arith)) parts.1

  pub no_detour : IsQuest I q → HasNoDetour I q.a q.b
  no_detour quest inner detour = stuck q.a 0 inner search.begun (detour_goes I q.a q.b q.limit inner (limit_is I q quest) detour)
