-- What a search keeps, read off and kept over an offer.
use Rattle.std.proofs.Common.{◌≡◌, ℕ, ◌+◌, ◌<◌, ◌≤◌, Bool, true, false, eqb, zero, suc, List, [], ◌∷◌, length, get_or, set, Contains, Option, Some, None, IsSome, is_some, IsPermutation, refl, sym, ap, subst, ◌∙◌, arith, ◌⊎◌, inl, inr}
use Rattle.std.proofs.lemmas.Bool.Decides.{nat_tests}
use Rattle.std.proofs.lemmas.List.{get_or-set_same, get_or-set_other, length-set}
use Rattle.std.proofs.lemmas.List.Elements.{All-cons, Contains-get_or, Contains-append_right}
use Rattle.std.proofs.lemmas.List.Sorted.{All-permutation, Contains-permutation}
use Rattle.std.proofs.lemmas.Option.{slice_get_within}
use Rattle.st_model.specs.declared.link.Link.{Link}
use Rattle.st_model.specs.Network.{link}
use Rattle.short_paths.specs.declared.queue.Offer.{Offer}
use Rattle.short_paths.specs.declared.settled.Settled.{Settled}
use Rattle.short_paths.specs.Walk.{IsWalk, stay, on}
use Rattle.short_paths.specs.Searching.{IsOffered, Waits, place_of, IsSearch, IsSpread, IsFair}

-- what has been offered at a cost has been at a higher one
pub offered_more : (best : List (Option ℕ)) (v x y : ℕ) → x ≤ y → IsOffered best v x → IsOffered best v y
offered_more best v x y h offered = (offered.0, offered.1, (let least = offered.2 in omega arith))

-- an offer that waits still does among others
pub waits_moved : (before after : List Offer) (v x y : ℕ) → x ≤ y → ((o : Offer) → Contains before o → Contains after o) → Waits before v x → Waits after v y
waits_moved before after v x y h all waits = (waits.0, all waits.0 waits.1, waits.2, (let least = waits.3 in omega arith))

-- what is first is among them, and the others too
pub contains_first : (o : Offer) (queue : List Offer) → Contains (o ∷ queue) o
contains_first o queue = Contains-get_or (o ∷ queue) 0 o (omega arith)

pub contains_rest : (first o : Offer) (queue : List Offer) → Contains queue o → Contains (first ∷ queue) o
contains_rest first o queue h = Contains-append_right (first ∷ []) queue o h

-- one of them is the first, or among the rest
pub contains_cases : (first o : Offer) (queue : List Offer) → Contains (first ∷ queue) o → (o ≡ first) ⊎ Contains queue o
contains_cases first o queue (k, within, at) = by_place k within at
  where
    by_place : (k : ℕ) → k < length (first ∷ queue) → get_or (first ∷ queue) k o ≡ o → (o ≡ first) ⊎ Contains queue o
    by_place zero within at = inl (sym at)
    by_place (suc k) within at = inr (k, (omega arith), at)

-- from a settled vertex a link leads on within the limit to one that is settled, or for which an offer waits
past_settled : (links : List Link) (n : ℕ) (sources : List ℕ) (limit : ℕ) (best places : List (Option ℕ)) (settled : List Settled) (queue : List Offer) (s u before d w : ℕ) → IsSearch links n sources limit best places settled queue → IsSpread links sources limit best settled (length settled) → Contains sources s → before + d ≤ limit → IsWalk links s u before → link links u w ≡ Some d
    → (p : Option ℕ) → place_of places u ≡ p → IsSome (place_of places u) → IsSome (place_of places w) ⊎ ((o : Offer) × Contains queue o × (o.cost ≤ before + d))
past_settled links n sources limit best places settled queue s u before d w search spread source within walk next None is there = absurd (let clash : ◌≡◌ {A = Bool} false true = ap is_some (sym is) ∙ there in let no : ⊥ = cc in no)
past_settled links n sources limit best places settled queue s u before d w search spread source within walk next (Some place) is there =
    let at = search.placed u place is in
    let one : Settled = at.0 in
    let exact = search.exact place one at.1 in
    let least : one.cost ≤ before = exact.distance.least s before source (subst (λ x. IsWalk links s x before) (sym at.2) walk) in
    elim (spread.relaxed place one (slice_get_within settled place one at.1) at.1 w d (ap (λ x. link links x w) at.2 ∙ next)) [
      | inl beyond ↦ absurd (omega arith)
      | inr offered ↦
          let bound = offered.2 in
          elim (search.offered w offered.0 offered.1) [
            | inl settled_there ↦ inl settled_there
            | inr waits ↦ inr (waits.0, waits.1, (let cost = waits.3 in omega arith))
          ]
    ]

-- where a walk leads within the limit, there the search has been, or a cheaper offer waits
pub covered : (links : List Link) (n : ℕ) (sources : List ℕ) (limit : ℕ) (best places : List (Option ℕ)) (settled : List Settled) (queue : List Offer) (s v c : ℕ) → IsSearch links n sources limit best places settled queue → IsSpread links sources limit best settled (length settled) → Contains sources s → c ≤ limit → IsWalk links s v c
    → IsSome (place_of places v) ⊎ ((o : Offer) × Contains queue o × (o.cost ≤ c))
covered links n sources limit best places settled queue s v c search spread source within stay =
    let offered = spread.started s source in
    elim (search.offered s offered.0 offered.1) [
      | inl there ↦ inl there
      | inr waits ↦ inr (waits.0, waits.1, (let cost = waits.3 in let least = offered.2 in omega arith))
    ]
covered links n sources limit best places settled queue s w c search spread source within (on {v = u} {c = before} {d = d} walk next) =
    elim (covered links n sources limit best places settled queue s u before search spread source (omega arith) walk) [
      | inr o ↦ inr (o.0, o.1, (let cost = o.2 in omega arith))
      | inl there ↦ past_settled links n sources limit best places settled queue s u before d w search spread source within walk next (place_of places u) refl there
    ]

-- the search goes on over an offer that was kept
pub offer_kept : (links : List Link) (n : ℕ) (sources : List ℕ) (limit : ℕ) (best best' places : List (Option ℕ)) (settled : List Settled) (queue queue' : List Offer) → best' ≡ best → queue' ≡ queue → IsSearch links n sources limit best places settled queue → IsSearch links n sources limit best' places settled queue'
offer_kept links n sources limit best best' places settled queue queue' same same_queue search = subst (λ (p : List (Option ℕ) × List Offer). IsSearch links n sources limit p.0 places settled p.1) (λ j. (sym same j, sym same_queue j)) search

module _ (best best' : List (Option ℕ)) (to cost : ℕ) (within : to < length best) (is : best' ≡ set best to (Some cost)) where
  -- what is read once one place was written
  here : get_or best' to None ≡ Some cost
  here = ap (λ b. get_or b to None) is ∙ get_or-set_same best to (Some cost) None within

  elsewhere : (v : ℕ) → (v ≡ to → ⊥) → get_or best' v None ≡ get_or best v None
  elsewhere v other = ap (λ b. get_or b v None) is ∙ get_or-set_other best to v (Some cost) None other

  -- what was offered still is
  pub still_offered : ((least : ℕ) → get_or best to None ≡ Some least → cost ≤ least) → (w x : ℕ) → IsOffered best w x → IsOffered best' w x
  still_offered less w x offered = by_case (eqb w to) refl
    where
      by_case : (b : Bool) → eqb w to ≡ b → IsOffered best' w x
      by_case true same =
          let e : w ≡ to = grind (arith, nat_tests) in
          let bound = less offered.0 (ap (λ v. get_or best v None) (sym e) ∙ offered.1) in
          let most = offered.2 in
          (cost, ap (λ v. get_or best' v None) e ∙ here, (omega arith))
      by_case false other = (offered.0, elsewhere w (λ e. grind (arith, nat_tests)) ∙ offered.1, offered.2)

  pub offered_here : IsOffered best' to cost
  offered_here = (cost, here, (omega arith))

  -- the search goes on over an offer that waits now
  pub offer_put : (links : List Link) (n : ℕ) (sources : List ℕ) (limit : ℕ) (places : List (Option ℕ)) (settled : List Settled) (queue queue' : List Offer) (offer : Offer) → offer.cost ≡ cost → offer.to ≡ to → IsPermutation (offer ∷ queue) queue' → IsFair links n sources limit places settled offer → IsSearch links n sources limit best places settled queue → IsSearch links n sources limit best' places settled queue'
  offer_put links n sources limit places settled queue queue' offer cost_is to_is moves fair search = record {
    best_long = ap length is ∙ length-set best to (Some cost) ∙ search.best_long;
    places_long = search.places_long;
    exact = search.exact;
    placed = search.placed;
    found = search.found;
    fair = All-permutation (IsFair links n sources limit places settled) (offer ∷ queue) queue' moves (All-cons (IsFair links n sources limit places settled) offer queue fair search.fair);
    offered = λ v least at. by_case v least (eqb v to) refl at;
  }
    where
      by_case : (v least : ℕ) (b : Bool) → eqb v to ≡ b → get_or best' v None ≡ Some least → IsSome (place_of places v) ⊎ Waits queue' v least
      by_case v least true same at =
          let e : v ≡ to = grind (arith, nat_tests) in
          let both : ◌≡◌ {A = Option ℕ} (Some cost) (Some least) = sym here ∙ ap (λ x. get_or best' x None) (sym e) ∙ at in
          let equal : cost ≡ least = cc in
          inr (offer, Contains-permutation (offer ∷ queue) queue' offer moves (contains_first offer queue), to_is ∙ sym e, (omega arith))
      by_case v least false other at = elim (search.offered v least (sym (elsewhere v (λ e. grind (arith, nat_tests))) ∙ at)) [
        | inl there ↦ inl there
        | inr waits ↦ inr (waits_moved queue queue' v least least (omega arith) (λ o held. Contains-permutation (offer ∷ queue) queue' o moves (contains_rest offer o queue held)) waits)
      ]
