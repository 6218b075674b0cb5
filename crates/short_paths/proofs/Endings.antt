-- The routes that a search has found once nothing waits.
use Rattle.std.proofs.Common.{◌≡◌, ℕ, ◌+◌, ◌-◌, ◌<◌, ◌≤◌, Bool, true, false, cond, nat_lt, List, [], ◌∷◌, ◌++◌, length, drop, reverse, get_or, Contains, Option, Some, None, option_map, is_some, refl, sym, ap, subst, ◌∙◌, arith, inl, inr, append_assoc}
use Rattle.std.proofs.lemmas.Bool.{cases_lt}
use Rattle.std.proofs.lemmas.Bool.Decides.{nat_tests}
use Rattle.std.proofs.lemmas.List.{get_or-map, length-map, length-drop, get_or-drop, reverse-append}
use Rattle.std.proofs.lemmas.Option.{slice_get_within, slice_get-get_or, get_or_from_slice_get}
use Rattle.st_model.specs.declared.link.Link.{Link}
use Rattle.st_model.specs.Network.{IsVertex}
use Rattle.short_paths.specs.declared.queue.Offer.{Offer}
use Rattle.short_paths.specs.declared.mark.Mark.{Mark}
use Rattle.short_paths.specs.declared.settled.Settled.{Settled}
use Rattle.short_paths.specs.declared.search.Search.{Search}
use Rattle.short_paths.specs.Marks.{bests_of, places_of, place_in}
use Rattle.short_paths.specs.Walk.{IsWalk}
use Rattle.short_paths.specs.Routes.{Route, route_of, IsRoute, AreRoutes}
use Rattle.short_paths.specs.Searching.{paths_of, route_at, routes_of, place_of, ArePlaces, IsSearch, IsSpread}
use Rattle.short_paths.specs.Steps.{IsGoing}
use Rattle.short_paths.proofs.MarkLists.{place_read}
use Rattle.short_paths.proofs.Paths.{path_at}
use Rattle.short_paths.proofs.Searches.{covered}

-- a vertex of the routes has a place in the list
pub vertex_place : (settled : List Settled) (places : List (Option ℕ)) (v : ℕ) → IsVertex (length (routes_of settled places)) v → v < length places
vertex_place settled places v range =
    let long = length-map (drop 1 places) (option_map (route_at settled)) in
    let short = length-drop 1 places in
    omega (arith, range.0, range.1)

-- the route to it is the one to its place
pub route-is : (settled : List Settled) (places : List (Option ℕ)) (v : ℕ) → 1 ≤ v → v < length places → route_of (routes_of settled places) v ≡ option_map (route_at settled) (place_of places v)
route-is settled places v some within =
    let short = length-drop 1 places in
    let place : 1 + (v - 1) ≡ v = omega arith in
    get_or-map (option_map (route_at settled)) (drop 1 places) (v - 1) None None (omega arith) ∙ ap (option_map (route_at settled)) (get_or-drop 1 places (v - 1) None ∙ ap (λ k. get_or places k None) place)

-- what a vertex's mark tells is its route
pub route_told : (settled : List Settled) (marks : List Mark) (v : ℕ) (mark : Mark) (o p : Option ℕ) → IsVertex (length (routes_of settled (places_of marks))) v → mark ≡ get_or marks v mark → o ≡ place_in mark → o ≡ p → route_of (routes_of settled (places_of marks)) v ≡ option_map (route_at settled) p
route_told settled marks v mark o p range is known same =
    let inside = vertex_place settled (places_of marks) v range in
    route-is settled (places_of marks) v range.0 inside ∙ ap (option_map (route_at settled)) (place_read marks v mark o inside is known ∙ same)

-- of a search that is done, the routes are all there are
pub are_routes : (links : List Link) (n : ℕ) (sources : List ℕ) (limit : ℕ) (search : Search) → IsGoing links n sources limit search search.queue → length search.queue ≡ 0 → AreRoutes links n sources limit (routes_of search.settled.items (places_of search.marks.items))
are_routes links n sources limit search going none = record {
  count = (let long = length-map (drop 1 (places_of search.marks.items)) (option_map (route_at search.settled.items)) in let short = length-drop 1 (places_of search.marks.items) in let places = going.kept.places_long in omega arith);
  reached = λ v route range at. reached v route (place_of (places_of search.marks.items) v) refl (sym (route-is search.settled.items (places_of search.marks.items) v range.0 (inside v range)) ∙ at);
  beyond = λ v range at s c source walk. beyond v s c source walk (place_of (places_of search.marks.items) v) refl (sym (route-is search.settled.items (places_of search.marks.items) v range.0 (inside v range)) ∙ at);
}
  where
    inside : (v : ℕ) → IsVertex n v → v < length (places_of search.marks.items)
    inside v range = let long = going.kept.places_long in omega (arith, range.1)

    reached : (v : ℕ) (route : Route) (p : Option ℕ) → place_of (places_of search.marks.items) v ≡ p → option_map (route_at search.settled.items) (place_of (places_of search.marks.items) v) ≡ Some route → IsRoute links sources limit v route
    reached v route None is at = absurd (let clash : ◌≡◌ {A = Option Route} None (Some route) = sym (ap (option_map (route_at search.settled.items)) is) ∙ at in let no : ⊥ = cc in no)
    reached v route (Some place) is at =
        let s = going.kept.placed v place is in
        let exact = going.kept.exact place s.0 s.1 in
        let one : ◌≡◌ {A = Option Route} (Some (route_at search.settled.items place)) (Some route) = sym (ap (option_map (route_at search.settled.items)) is) ∙ at in
        let route_is : route_at search.settled.items place ≡ route = cc in
        let cost : s.0.cost ≡ (route_at search.settled.items place).cost = sym (ap (λ (x : Settled). x.cost) (get_or_from_slice_get search.settled.items place s.0 (record { vertex = 0; cost = 0; before = 0 }) s.1)) in
        subst (IsRoute links sources limit v) route_is (subst (λ (p : ℕ × ℕ). IsRoute links sources limit p.0 (record { cost = p.1; path = get_or (paths_of search.settled.items) place [] })) (λ j. (s.2 j, cost j)) (record { distance = exact.distance; within = exact.within; path = exact.path }))

    beyond : (v s c : ℕ) → Contains sources s → IsWalk links s v c → (p : Option ℕ) → place_of (places_of search.marks.items) v ≡ p → option_map (route_at search.settled.items) (place_of (places_of search.marks.items) v) ≡ None → limit < c
    beyond v s c source walk (Some place) is at = absurd (let clash : ◌≡◌ {A = Option Route} (Some (route_at search.settled.items place)) None = sym (ap (option_map (route_at search.settled.items)) is) ∙ at in let no : ⊥ = cc in no)
    beyond v s c source walk None is at = elim (cases_lt limit c) [
      | inl past ↦ past
      | inr within ↦ elim (covered links n sources limit (bests_of search.marks.items) (places_of search.marks.items) search.settled.items search.queue s v c going.kept going.spread source within walk) [
        | inl there ↦ absurd (let clash : ◌≡◌ {A = Bool} false true = ap is_some (sym is) ∙ there in let no : ⊥ = cc in no)
        | inr o ↦ absurd (let held = o.1.1 in omega arith)
      ]
    ]

-- places of a search are places
pub are_places : (links : List Link) (n : ℕ) (sources : List ℕ) (limit : ℕ) (search : Search) (queue : List Offer) → IsGoing links n sources limit search queue → ArePlaces search.settled.items (places_of search.marks.items)
are_places links n sources limit search queue going = record {
  some = (let long = going.kept.places_long in omega arith);
  within = λ v place at. let s = going.kept.placed v place at in slice_get_within search.settled.items place s.0 s.1;
}

-- a path read from its end: the first vertex that is read
pub read_first : (settled : List Settled) (place : ℕ) (d : Settled) → place < length settled → get_or (paths_of settled) place [] ≡ cond (nat_lt (get_or settled place d).before place) (get_or (paths_of settled) (get_or settled place d).before []) [] ++ reverse ((get_or settled place d).vertex ∷ [])
read_first settled place d within = path_at settled place (get_or settled place d) (slice_get-get_or settled place d within)

-- and one more
pub read_more : (settled : List Settled) (place here next : ℕ) (d : Settled) (path : List ℕ) → next < here → next < length settled → get_or (paths_of settled) place [] ≡ cond (nat_lt next here) (get_or (paths_of settled) next []) [] ++ reverse path
    → get_or (paths_of settled) place [] ≡ cond (nat_lt (get_or settled next d).before next) (get_or (paths_of settled) (get_or settled next d).before []) [] ++ reverse (path ++ (get_or settled next d).vertex ∷ [])
read_more settled place here next d path less within before =
    let yes : nat_lt next here ≡ true = grind (arith, nat_tests) in
    let step = read_first settled next d within in
    let s = get_or settled next d in
    let front = cond (nat_lt s.before next) (get_or (paths_of settled) s.before []) [] in
    before ∙ rw yes (ap (λ p. p ++ reverse path) step ∙ append_assoc front (s.vertex ∷ []) (reverse path) ∙ ap (λ p. front ++ p) (sym (reverse-append path (s.vertex ∷ []))))

-- where nothing comes before, all is read
pub read_all : (settled : List Settled) (place here next : ℕ) (path : List ℕ) → here ≤ next → get_or (paths_of settled) place [] ≡ cond (nat_lt next here) (get_or (paths_of settled) next []) [] ++ reverse path → reverse path ≡ get_or (paths_of settled) place []
read_all settled place here next path past at = let no_less : nat_lt next here ≡ false = grind (arith, nat_tests) in sym (at ∙ rw no_less refl)

-- what is said of a search holds of another with the same parts
pub going_moved : (links : List Link) (n : ℕ) (sources : List ℕ) (limit : ℕ) (old new : Search) (queue : List Offer) → new.marks ≡ old.marks → new.settled ≡ old.settled → IsGoing links n sources limit old queue → IsGoing links n sources limit new queue
going_moved links n sources limit old new queue marks settled going = record {
  kept = subst (λ (p : List Mark × List Settled). IsSearch links n sources limit (bests_of p.0) (places_of p.0) p.1 queue) (λ j. ((sym marks j).items, (sym settled j).items)) going.kept;
  spread = subst (λ (p : List Mark × List Settled). IsSpread links sources limit (bests_of p.0) p.1 (length p.1)) (λ j. ((sym marks j).items, (sym settled j).items)) going.spread;
}
