-- The cheapest offer is a distance, so its vertex is settled at it.
use Rattle.std.proofs.Common.{◌≡◌, ℕ, zero, suc, ◌+◌, ◌-◌, ◌^◌, ◌<◌, ◌≤◌, Bool, true, false, cond, ◌||◌, eqb, List, [], ◌∷◌, ◌++◌, length, get_or, set, slice_get, replicate, Contains, Option, Some, None, IsSome, is_some, unwrap_or, IsPermutation, refl, sym, ap, subst, ◌∙◌, arith, ◌⊎◌, inl, inr, length-append}
use Rattle.std.proofs.lemmas.Bool.{cases_eq, cases_lt}
use Rattle.std.proofs.lemmas.Bool.Decides.{nat_tests}
use Rattle.std.proofs.lemmas.List.{get_or-set_same, get_or-set_other, length-set, get_or_append_left, get_or_past}
use Rattle.std.proofs.lemmas.List.Elements.{All-tail, All-contains, All-weaker}
use Rattle.std.proofs.lemmas.List.Sorted.{All-permutation, Contains-permutation}
use Rattle.std.proofs.lemmas.Option.{slice_get_within}
use Rattle.std.specs.Prelude.{All, IsTrue}
use Rattle.st_model.specs.declared.link.Link.{Link}
use Rattle.st_model.specs.Lists.{has}
use Rattle.st_model.specs.Network.{IsVertex, link}
use Rattle.st_model.proofs.Marked.{has-push}
use Rattle.graph_store.proofs.ListLemmas.{slice_get-push}
use Rattle.short_paths.specs.declared.queue.Offer.{Offer}
use Rattle.short_paths.specs.declared.settled.Settled.{Settled}
use Rattle.short_paths.specs.declared.search.Search.{Search}
use Rattle.short_paths.specs.Marks.{bests_of, places_of}
use Rattle.short_paths.specs.Walk.{IsWalk, stay, on, IsDistance, IsPath}
use Rattle.short_paths.specs.Searching.{IsOffered, Waits, Comes, place_of, paths_of, IsSearch, IsSpread, IsFair, IsExact, IsSettled, IsRelaxed, open_count}
use Rattle.short_paths.specs.Steps.{offer_of, Settles, Relaxes, Takes, IsGoing}
use Rattle.short_paths.proofs.Walks.{IsPath-one, IsPath-push}
use Rattle.short_paths.proofs.Paths.{length-paths_of, paths_of-push, at_end}
use Rattle.short_paths.proofs.Searches.{covered, contains_cases}

module _ (links : List Link) (n : ℕ) (sources : List ℕ) (limit : ℕ) (best places : List (Option ℕ)) (settled : List Settled) (before queue : List Offer) (cost vertex from : ℕ)
    (moves : IsPermutation before (offer_of cost vertex from ∷ queue)) (search : IsSearch links n sources limit best places settled before) where
  -- what is said of all offers holds of the one that is taken, and of the rest
  all_fair : All (IsFair links n sources limit places settled) (offer_of cost vertex from ∷ queue)
  all_fair = All-permutation (IsFair links n sources limit places settled) before (offer_of cost vertex from ∷ queue) moves search.fair

  taken_fair : IsFair links n sources limit places settled (offer_of cost vertex from)
  taken_fair = all_fair 0 (offer_of cost vertex from) (omega arith)

  rest_fair : All (IsFair links n sources limit places settled) queue
  rest_fair = All-tail (IsFair links n sources limit places settled) (offer_of cost vertex from) queue all_fair

  -- an offer that waited still does, or was the one for the vertex
  rest_waits : (v least : ℕ) → Waits before v least → (v ≡ vertex) ⊎ Waits queue v least
  rest_waits v least waits = elim (contains_cases (offer_of cost vertex from) waits.0 queue (Contains-permutation before (offer_of cost vertex from ∷ queue) waits.0 moves waits.1)) [
    | inl same ↦ inl (sym waits.2 ∙ ap (λ (o : Offer). o.to) same)
    | inr held ↦ inr (waits.0, held, waits.2, waits.3)
  ]

  -- an offer for a vertex that is settled changes nothing
  pub skipped : IsSome (place_of places vertex) → IsSearch links n sources limit best places settled queue
  skipped there = record {
    best_long = search.best_long;
    places_long = search.places_long;
    exact = search.exact;
    placed = search.placed;
    found = search.found;
    fair = rest_fair;
    offered = λ v least at. elim (search.offered v least at) [
      | inl h ↦ inl h
      | inr waits ↦ elim (rest_waits v least waits) [
        | inl same ↦ inl (subst (λ x. IsSome (place_of places x)) (sym same) there)
        | inr h ↦ inr h
      ]
    ];
  }

  module _ (least : All (λ offer. cost ≤ offer.cost) before) (spread : IsSpread links sources limit best settled (length settled)) (open_is : place_of places vertex ≡ None) where
    -- some walk leads to the vertex at the cost
    walk : (s : ℕ) × Contains sources s × IsWalk links s vertex cost
    walk = elim taken_fair.comes [
      | inl source ↦ (vertex, source.2, subst (IsWalk links vertex vertex) (sym source.1) stay)
      | inr linked ↦
          let exact = search.exact linked.0 linked.1 linked.4 in
          let to = exact.distance.walk in
          (to.0, to.1, subst (IsWalk links to.0 vertex) (sym linked.6) (on to.2 linked.5))
    ]

    -- and none at a lower one
    distance : IsDistance links sources vertex cost
    distance = record {
      walk = walk;
      least = λ s c source to. elim (cases_lt limit c) [
        | inl beyond ↦ (let within = taken_fair.within in omega arith)
        | inr within ↦ elim (covered links n sources limit best places settled before s vertex c search spread source within to) [
          | inl there ↦ absurd (let clash : ◌≡◌ {A = Bool} false true = ap is_some (sym open_is) ∙ there in let no : ⊥ = cc in no)
          | inr o ↦ (let first = All-contains (λ offer. cost ≤ offer.cost) before o.0 least o.1 in let then = o.2 in omega arith)
        ]
      ];
    }

    vertex_within : vertex < length places
    vertex_within = let range = taken_fair.in_range in let long = search.places_long in omega (arith, range.1)

    -- vertex 0 is never settled
    none_before : (p : Option ℕ) → place_of places 0 ≡ p → p ≡ None
    none_before None is = refl
    none_before (Some place) is =
        let at = search.placed 0 place is in
        let exact = search.exact place at.0 at.1 in
        let low = exact.in_range.0 in
        absurd (let zero_is = at.2 in omega arith)

    -- what it comes from is another vertex
    comes_from : (f : ℕ) → f ≡ vertex → (place : ℕ) → place_of places f ≡ Some place → ⊥
    comes_from f same place at = let clash : ◌≡◌ {A = Option ℕ} None (Some place) = sym open_is ∙ ap (place_of places) (sym same) ∙ at in cc

    module _ (one : Settled) (one_is : one ≡ (record { vertex = vertex; cost = cost; before = unwrap_or (place_of places from) (2 ^ 32 - 1) })) (few : length settled < 2 ^ 32 - 1) where
      new_read : (v : ℕ) → place_of (set places vertex (Some (length settled))) v ≡ cond (eqb v vertex) (Some (length settled)) (place_of places v)
      new_read v = by_case (eqb v vertex) refl
        where
          by_case : (b : Bool) → eqb v vertex ≡ b → place_of (set places vertex (Some (length settled))) v ≡ cond b (Some (length settled)) (place_of places v)
          by_case true same = let e : v ≡ vertex = grind (arith, nat_tests) in ap (place_of (set places vertex (Some (length settled)))) e ∙ get_or-set_same places vertex (Some (length settled)) None vertex_within
          by_case false other = get_or-set_other places vertex v (Some (length settled)) None (λ e. grind (arith, nat_tests))

      new_other : (v : ℕ) → (v ≡ vertex → ⊥) → place_of (set places vertex (Some (length settled))) v ≡ place_of places v
      new_other v other = let no : eqb v vertex ≡ false = grind (arith, nat_tests) in new_read v ∙ rw no refl

      new_here : place_of (set places vertex (Some (length settled))) vertex ≡ Some (length settled)
      new_here = let yes : eqb vertex vertex ≡ true = grind (arith, nat_tests) in new_read vertex ∙ rw yes refl

      new_at : slice_get (settled ++ one ∷ []) (length settled) ≡ Some one
      new_at = let yes : eqb (length settled) (length settled) ≡ true = grind (arith, nat_tests) in slice_get-push settled one (length settled) ∙ rw yes refl

      -- one that was settled still is
      old_at : (place : ℕ) (s : Settled) → slice_get settled place ≡ Some s → slice_get (settled ++ one ∷ []) place ≡ Some s
      old_at place s at = let inside = slice_get_within settled place s at in let no : eqb place (length settled) ≡ false = grind (arith, nat_tests) in slice_get-push settled one place ∙ rw no at

      -- each of them is the new one or was before
      cases_at : (place : ℕ) (s : Settled) → slice_get (settled ++ one ∷ []) place ≡ Some s → ((place ≡ length settled) × (s ≡ one)) ⊎ (slice_get settled place ≡ Some s)
      cases_at place s at = by_case (eqb place (length settled)) refl (sym (slice_get-push settled one place) ∙ at)
        where
          by_case : (b : Bool) → eqb place (length settled) ≡ b → cond b (Some one) (slice_get settled place) ≡ Some s → ((place ≡ length settled) × (s ≡ one)) ⊎ (slice_get settled place ≡ Some s)
          by_case true same h = inl (grind (arith, nat_tests), (let e : s ≡ one = cc in e))
          by_case false other h = inr h

      -- the path goes from what comes before
      read : get_or (paths_of (settled ++ one ∷ [])) (length settled) [] ≡ get_or (paths_of settled) (unwrap_or (place_of places from) (2 ^ 32 - 1)) [] ++ vertex ∷ []
      read = ap (λ ps. get_or ps (length settled) []) (paths_of-push settled one) ∙ at_end (paths_of settled) (length settled) (length-paths_of settled) (get_or (paths_of settled) one.before [] ++ one.vertex ∷ []) ∙ ap (λ (x : Settled). get_or (paths_of settled) x.before [] ++ x.vertex ∷ []) one_is

      -- before a source there is nothing
      nothing_before : from ≡ 0 → get_or (paths_of settled) (unwrap_or (place_of places from) (2 ^ 32 - 1)) [] ≡ []
      nothing_before source =
          let none : place_of places from ≡ None = ap (place_of places) source ∙ none_before (place_of places 0) refl in
          ap (λ o. get_or (paths_of settled) (unwrap_or o (2 ^ 32 - 1)) []) none ∙ get_or_past (paths_of settled) (2 ^ 32 - 1) [] (let long = length-paths_of settled in omega arith)

      -- no path passes a vertex that isn't settled
      not_passed : (place : ℕ) (s : Settled) → slice_get settled place ≡ Some s → (b : Bool) → has (get_or (paths_of settled) place []) vertex ≡ b → b ≡ false
      not_passed place s at false is = refl
      not_passed place s at true is =
          let passed = (search.exact place s at).passed vertex is in
          let there = search.found passed.0 passed.1 passed.2 in
          absurd (let clash : ◌≡◌ {A = Bool} false true = ap is_some (sym open_is ∙ ap (place_of places) (sym passed.3)) ∙ there in let no : ⊥ = cc in no)

      -- those on the path are settled
      old_passed : (v : ℕ) → IsSettled settled v → IsSettled (settled ++ one ∷ []) v
      old_passed v passed = (passed.0, passed.1, old_at passed.0 passed.1 passed.2, passed.3)

      new_passed : (v : ℕ) → IsTrue (has (get_or (paths_of (settled ++ one ∷ [])) (length settled) []) v) → IsSettled (settled ++ one ∷ []) v
      new_passed v on_path = by_case (eqb vertex v) refl (sym (has-push (get_or (paths_of settled) (unwrap_or (place_of places from) (2 ^ 32 - 1)) []) vertex v) ∙ ap (λ p. has p v) (sym read) ∙ on_path)
        where
          by_case : (b : Bool) → eqb vertex v ≡ b → (has (get_or (paths_of settled) (unwrap_or (place_of places from) (2 ^ 32 - 1)) []) v || b) ≡ true → IsSettled (settled ++ one ∷ []) v
          by_case true same h = let v_is : vertex ≡ v = grind (arith, nat_tests) in (length settled, one, new_at, ap (λ (x : Settled). x.vertex) one_is ∙ v_is)
          by_case false other h = elim taken_fair.comes [
            | inl source ↦ absurd (let clash : ◌≡◌ {A = Bool} false true = sym (ap (λ p. has p v || false) (nothing_before source.0)) ∙ h in let no : ⊥ = cc in no)
            | inr linked ↦
                let place : unwrap_or (place_of places from) (2 ^ 32 - 1) ≡ linked.0 = ap (λ o. unwrap_or o (2 ^ 32 - 1)) linked.3 in
                let before : has (get_or (paths_of settled) linked.0 []) v ≡ true = or_nothing _ (ap (λ k. has (get_or (paths_of settled) k []) v || false) (sym place) ∙ h) in
                old_passed v ((search.exact linked.0 linked.1 linked.4).passed v before)
          ]
            where
              or_nothing : (b : Bool) → (b || false) ≡ true → b ≡ true
              or_nothing true h = refl
              or_nothing false h = h

      -- the path to it
      path : IsPath links sources (get_or (paths_of (settled ++ one ∷ [])) (length settled) []) vertex cost
      path = subst (λ p. IsPath links sources p vertex cost) (sym read) by_offer
        where
          by_offer : IsPath links sources (get_or (paths_of settled) (unwrap_or (place_of places from) (2 ^ 32 - 1)) [] ++ vertex ∷ []) vertex cost
          by_offer = elim taken_fair.comes [
            | inl source ↦
                let nothing = nothing_before source.0 in
                subst (λ (p : List ℕ × ℕ). IsPath links sources (p.0 ++ vertex ∷ []) vertex p.1) (λ j. (sym nothing j, sym source.1 j)) (IsPath-one links sources vertex source.2)
            | inr linked ↦
                let exact = search.exact linked.0 linked.1 linked.4 in
                let place : unwrap_or (place_of places from) (2 ^ 32 - 1) ≡ linked.0 = ap (λ o. unwrap_or o (2 ^ 32 - 1)) linked.3 in
                subst (λ (p : ℕ × ℕ). IsPath links sources (get_or (paths_of settled) p.0 [] ++ vertex ∷ []) vertex p.1) (λ j. (sym place j, sym linked.6 j)) (IsPath-push links sources (get_or (paths_of settled) linked.0 []) linked.1.vertex vertex linked.1.cost linked.2 exact.path linked.5 (not_passed linked.0 linked.1 linked.4 (has (get_or (paths_of settled) linked.0 []) vertex) refl))
          ]

      new_exact : (place : ℕ) (s : Settled) → slice_get (settled ++ one ∷ []) place ≡ Some s → IsExact links n sources limit (settled ++ one ∷ []) place s
      new_exact place s at = elim (cases_at place s at) [
        | inl new ↦ subst (λ (p : ℕ × Settled). IsExact links n sources limit (settled ++ one ∷ []) p.0 p.1) (λ j. (sym new.0 j, sym (new.1 ∙ one_is) j)) (record { in_range = taken_fair.in_range; distance = distance; within = taken_fair.within; path = path; passed = new_passed })
        | inr old ↦
            let exact = search.exact place s old in
            let inside = slice_get_within settled place s old in
            let same : get_or (paths_of (settled ++ one ∷ [])) place [] ≡ get_or (paths_of settled) place [] = ap (λ ps. get_or ps place []) (paths_of-push settled one) ∙ get_or_append_left (paths_of settled) _ [] place (let long = length-paths_of settled in omega arith) in
            record { in_range = exact.in_range; distance = exact.distance; within = exact.within; path = subst (λ p. IsPath links sources p s.vertex s.cost) (sym same) exact.path; passed = λ v on_path. old_passed v (exact.passed v (ap (λ p. has p v) (sym same) ∙ on_path)) }
      ]

      new_placed : (v place : ℕ) → place_of (set places vertex (Some (length settled))) v ≡ Some place → (s : Settled) × (slice_get (settled ++ one ∷ []) place ≡ Some s) × (s.vertex ≡ v)
      new_placed v place at = by_case (eqb v vertex) refl (sym (new_read v) ∙ at)
        where
          by_case : (b : Bool) → eqb v vertex ≡ b → cond b (Some (length settled)) (place_of places v) ≡ Some place → (s : Settled) × (slice_get (settled ++ one ∷ []) place ≡ Some s) × (s.vertex ≡ v)
          by_case true same h =
              let here : length settled ≡ place = cc in
              let v_is : vertex ≡ v = grind (arith, nat_tests) in
              (one, ap (slice_get (settled ++ one ∷ [])) (sym here) ∙ new_at, ap (λ (x : Settled). x.vertex) one_is ∙ v_is)
          by_case false other h = let s = search.placed v place h in (s.0, old_at place s.0 s.1, s.2)

      still_some : (v : ℕ) → IsSome (place_of places v) → IsSome (place_of (set places vertex (Some (length settled))) v)
      still_some v h = by_case (eqb v vertex) refl
        where
          by_case : (b : Bool) → eqb v vertex ≡ b → IsSome (place_of (set places vertex (Some (length settled))) v)
          by_case true same = let e : v ≡ vertex = grind (arith, nat_tests) in ap is_some (ap (place_of (set places vertex (Some (length settled)))) e ∙ new_here)
          by_case false other = ap is_some (new_other v (λ e. grind (arith, nat_tests))) ∙ h

      still_comes : (f v c : ℕ) → Comes links sources places settled f v c → Comes links sources (set places vertex (Some (length settled))) (settled ++ one ∷ []) f v c
      still_comes f v c (inl source) = inl source
      still_comes f v c (inr linked) = inr (linked.0, linked.1, linked.2, new_other f (λ e. comes_from f e linked.0 linked.3) ∙ linked.3, old_at linked.0 linked.1 linked.4, linked.5, linked.6)

      -- the search goes on with the vertex settled, where other vertices were offered what they were before
      pub settled_step : (best' : List (Option ℕ)) → length best' ≡ length best → ((w : ℕ) → (w ≡ vertex → ⊥) → get_or best' w None ≡ get_or best w None) → IsSearch links n sources limit best' (set places vertex (Some (length settled))) (settled ++ one ∷ []) queue
      settled_step best' long others = record {
        best_long = long ∙ search.best_long;
        places_long = length-set places vertex (Some (length settled)) ∙ search.places_long;
        exact = new_exact;
        placed = new_placed;
        found = λ place s at. elim (cases_at place s at) [
          | inl new ↦ ap is_some (ap (place_of (set places vertex (Some (length settled)))) (ap (λ (x : Settled). x.vertex) (new.1 ∙ one_is)) ∙ new_here)
          | inr old ↦ still_some s.vertex (search.found place s old)
        ];
        fair = All-weaker (IsFair links n sources limit places settled) (IsFair links n sources limit (set places vertex (Some (length settled))) (settled ++ one ∷ [])) (λ o fair. record { in_range = fair.in_range; within = fair.within; comes = still_comes o.from o.to o.cost fair.comes }) queue rest_fair;
        offered = λ v least at. elim (cases_eq v vertex) [
          | inl same ↦ inl (ap is_some (ap (place_of (set places vertex (Some (length settled)))) same ∙ new_here))
          | inr other ↦ elim (search.offered v least (sym (others v other) ∙ at)) [
            | inl h ↦ inl (still_some v h)
            | inr waits ↦ elim (rest_waits v least waits) [
              | inl same ↦ inl (ap is_some (ap (place_of (set places vertex (Some (length settled)))) same ∙ new_here))
              | inr h ↦ inr h
            ]
          ]
        ];
      }

      pub placed_here : place_of (set places vertex (Some (length settled))) vertex ≡ Some (length settled)
      placed_here = new_here

      pub one_here : slice_get (settled ++ one ∷ []) (length settled) ≡ Some one
      one_here = new_at

      -- all is relaxed once the new vertex is
      pub spread_step : (best' : List (Option ℕ)) → ((w x : ℕ) → IsOffered best w x → IsOffered best' w x) → ((w d : ℕ) → link links vertex w ≡ Some d → (limit < cost + d) ⊎ IsOffered best' w (cost + d)) → IsSpread links sources limit best' (settled ++ one ∷ []) (length (settled ++ one ∷ []))
      spread_step best' more relaxed = record {
        started = λ s source. more s 0 (spread.started s source);
        relaxed = λ place s inside at. elim (cases_at place s at) [
          | inl new ↦ subst (IsRelaxed links limit best') (sym (new.1 ∙ one_is)) relaxed
          | inr old ↦ λ w d linked. elim (spread.relaxed place s (slice_get_within settled place s old) old w d linked) [
            | inl beyond ↦ inl beyond
            | inr offered ↦ inr (more w (s.cost + d) offered)
          ]
        ];
      }

-- one vertex fewer is open once it is settled
pub open_count-set : (places : List (Option ℕ)) (v place : ℕ) → v < length places → get_or places v None ≡ None → open_count (set places v (Some place)) + 1 ≡ open_count places
open_count-set [] v place h at = absurd (omega arith)
open_count-set (None ∷ places) zero place h at = omega arith
open_count-set (Some p ∷ places) zero place h at = absurd (let clash : ⊥ = cc in clash)
open_count-set (None ∷ places) (suc v) place h at = let rest = open_count-set places v place (omega arith) at in omega arith
open_count-set (Some p ∷ places) (suc v) place h at = open_count-set places v place (omega arith) at

-- at first all vertices are open
pub open_count-replicate : (n : ℕ) → open_count (replicate n None) ≡ n
open_count-replicate zero = refl
open_count-replicate (suc n) = let rest = open_count-replicate n in omega arith

-- nothing changes where the vertex was settled
pub takes_nothing : (links : List Link) (n limit : ℕ) (old : Search) (cost vertex from : ℕ) → IsSome (place_of (places_of old.marks.items) vertex) → Takes links n limit old old (offer_of cost vertex from)
takes_nothing links n limit old cost vertex from there = record {
  going = λ sources before moves least going. record { kept = skipped links n sources limit (bests_of old.marks.items) (places_of old.marks.items) old.settled.items before old.queue cost vertex from moves going.kept there; spread = going.spread };
  counted = refl;
  nearer = omega arith;
}

-- else it is settled and relaxed
pub takes_one : (links : List Link) (n limit : ℕ) (old mid new : Search) (cost vertex from : ℕ) → length old.settled.items < 2 ^ 32 - 1 → vertex < length (places_of old.marks.items) → place_of (places_of old.marks.items) vertex ≡ None → Settles old mid vertex cost from → mid.queue ≡ old.queue → Relaxes links n limit vertex cost mid new → Takes links n limit old new (offer_of cost vertex from)
takes_one links n limit old mid new cost vertex from few within open_is settles same_queue relaxes = record {
  going = going;
  counted =
      let counts = open_count-set (places_of old.marks.items) vertex (length old.settled.items) within open_is in
      let same = ap open_count (relaxes.places ∙ settles.places) in
      let longer = ap length (relaxes.settled ∙ settles.settled) in
      let long = length-append old.settled.items (one ∷ []) in
      omega arith;
  nearer =
      let counts = open_count-set (places_of old.marks.items) vertex (length old.settled.items) within open_is in
      let same = ap open_count (relaxes.places ∙ settles.places) in
      let queue = ap (λ (q : List Offer). length q) same_queue in
      let longer = relaxes.length in
      omega arith;
}
  where
    one : Settled
    one = record { vertex = vertex; cost = cost; before = unwrap_or (place_of (places_of old.marks.items) from) (2 ^ 32 - 1) }

    going : (sources : List ℕ) (before : List Offer) → IsPermutation before (offer_of cost vertex from ∷ old.queue) → All (λ other. cost ≤ other.cost) before → IsGoing links n sources limit old before → IsGoing links n sources limit new new.queue
    going sources before moves least gone = record {
      kept = relaxes.keeps sources (length old.settled.items) one
          (ap (λ p. place_of p vertex) settles.places ∙ placed_here links n sources limit (bests_of old.marks.items) (places_of old.marks.items) old.settled.items before old.queue cost vertex from moves gone.kept least gone.spread open_is one refl few)
          (ap (λ ss. slice_get ss (length old.settled.items)) settles.settled ∙ one_here links n sources limit (bests_of old.marks.items) (places_of old.marks.items) old.settled.items before old.queue cost vertex from moves gone.kept least gone.spread open_is one refl few)
          refl refl
          (moved sources (settled_step links n sources limit (bests_of old.marks.items) (places_of old.marks.items) old.settled.items before old.queue cost vertex from moves gone.kept least gone.spread open_is one refl few (bests_of mid.marks.items) settles.best_long settles.others));
      spread = subst (λ ss. IsSpread links sources limit (bests_of new.marks.items) ss (length ss)) (sym (relaxes.settled ∙ settles.settled))
          (spread_step links n sources limit (bests_of old.marks.items) (places_of old.marks.items) old.settled.items before old.queue cost vertex from moves gone.kept least gone.spread open_is one refl few (bests_of new.marks.items)
          (λ w x h. relaxes.more w x (settles.more w x h)) relaxes.relaxed);
    }
      where
        moved : (sources : List ℕ) → IsSearch links n sources limit (bests_of mid.marks.items) (set (places_of old.marks.items) vertex (Some (length old.settled.items))) (old.settled.items ++ one ∷ []) old.queue → IsSearch links n sources limit (bests_of mid.marks.items) (places_of mid.marks.items) mid.settled.items mid.queue
        moved sources h = subst (λ (p : List (Option ℕ) × List Settled × List Offer). IsSearch links n sources limit (bests_of mid.marks.items) p.0 p.1 p.2) (λ j. (sym settles.places j, sym settles.settled j, sym same_queue j)) h

-- where there is nothing, there is None
pub none_where : (o : Option ℕ) → is_some o ≡ false → o ≡ None
none_where None h = refl
none_where (Some x) h = absurd (let clash : ⊥ = cc in clash)

-- the offer that is taken is for a vertex, from a vertex or from none
pub taken_range : (links : List Link) (n : ℕ) (sources : List ℕ) (limit : ℕ) (search : Search) (before queue : List Offer) (cost vertex from : ℕ) → IsPermutation before (offer_of cost vertex from ∷ queue) → IsGoing links n sources limit search before → IsVertex n vertex × (from ≤ n)
taken_range links n sources limit search before queue cost vertex from moves going =
    let fair = taken_fair links n sources limit (bests_of search.marks.items) (places_of search.marks.items) search.settled.items before queue cost vertex from moves going.kept in (
      fair.in_range,
      elim fair.comes [
        | inl source ↦ (let zero_is = source.0 in omega arith)
        | inr linked ↦
            let s = going.kept.placed from linked.0 linked.3 in
            let exact = going.kept.exact linked.0 s.0 s.1 in
            let high = exact.in_range.1 in
            let same = s.2 in
            omega arith
      ],
    )
