-- The halves from a settled vertex, followed one by one.
use Rattle.std.proofs.Common.{◌≡◌, ℕ, ◌+◌, ◌^◌, ◌<◌, ◌≤◌, List, [], ◌∷◌, ◌++◌, length, slice_get, Contains, Option, Some, refl, sym, ap, subst, ◌∙◌, arith, ◌⊎◌, inl, inr, length-append}
use Rattle.std.proofs.lemmas.List.{length-set}
use Rattle.std.proofs.lemmas.List.Elements.{All-push, All-nil, All-weaker, All-contains}
use Rattle.std.specs.Prelude.{All}
use Rattle.st_model.specs.declared.link.Link.{Link}
use Rattle.st_model.specs.Network.{Network, IsVertex, link}
use Rattle.graph_store.specs.declared.half.Half.{Half}
use Rattle.graph_store.specs.Neighbours.{AreNeighbours}
use Rattle.short_paths.specs.declared.settled.Settled.{Settled}
use Rattle.short_paths.specs.declared.search.Search.{Search}
use Rattle.short_paths.specs.Marks.{bests_of, places_of}
use Rattle.short_paths.specs.Searching.{IsOffered, place_of, IsSearch, IsFair}
use Rattle.short_paths.specs.Steps.{Offers, Follows, HasFollowed, Relaxes, offer_of}
use Rattle.short_paths.proofs.Searches.{offer_kept, offer_put, still_offered, offered_here}

-- what an offer keeps and what it adds
pub record Gains (links : List Link) (n limit : ℕ) (old new : Search) (cost to from : ℕ) : Type 0 where
  pub more : (w x : ℕ) → IsOffered (bests_of old.marks.items) w x → IsOffered (bests_of new.marks.items) w x
  pub offered : IsOffered (bests_of new.marks.items) to cost
  pub best_long : length (bests_of new.marks.items) ≡ length (bests_of old.marks.items)
  pub keeps : (sources : List ℕ) → IsFair links n sources limit (places_of old.marks.items) old.settled.items (offer_of cost to from) → IsSearch links n sources limit (bests_of old.marks.items) (places_of old.marks.items) old.settled.items old.queue → IsSearch links n sources limit (bests_of new.marks.items) (places_of new.marks.items) new.settled.items new.queue

pub offer_gains : (links : List Link) (n limit : ℕ) (old new : Search) (cost to from : ℕ) → to < length (bests_of old.marks.items) → Offers old new cost to from → Gains links n limit old new cost to from
offer_gains links n limit old new cost to from within offers = elim offers.either [
  | inl kept ↦ record {
    more = λ w x h. subst (λ b. IsOffered b w x) (sym kept.1) h;
    offered = subst (λ b. IsOffered b to cost) (sym kept.1) kept.0;
    best_long = ap length kept.1;
    keeps = λ sources fair search. moved sources (offer_kept links n sources limit (bests_of old.marks.items) (bests_of new.marks.items) (places_of old.marks.items) old.settled.items old.queue new.queue kept.1 kept.2 search);
  }
  | inr put ↦ record {
    more = still_offered (bests_of old.marks.items) (bests_of new.marks.items) to cost within put.1 put.0;
    offered = offered_here (bests_of old.marks.items) (bests_of new.marks.items) to cost within put.1;
    best_long = ap length put.1 ∙ length-set (bests_of old.marks.items) to (Some cost);
    keeps = λ sources fair search. moved sources (offer_put (bests_of old.marks.items) (bests_of new.marks.items) to cost within put.1 links n sources limit (places_of old.marks.items) old.settled.items old.queue new.queue (offer_of cost to from) refl refl put.2 fair search);
  }
]
  where
    moved : (sources : List ℕ) → IsSearch links n sources limit (bests_of new.marks.items) (places_of old.marks.items) old.settled.items new.queue → IsSearch links n sources limit (bests_of new.marks.items) (places_of new.marks.items) new.settled.items new.queue
    moved sources h = subst (λ (p : List (Option ℕ) × List Settled). IsSearch links n sources limit (bests_of new.marks.items) p.0 p.1 new.queue) (λ j. (sym offers.places j, sym offers.settled j)) h

-- nothing followed yet
pub followed_none : (links : List Link) (n limit vertex cost : ℕ) (search : Search) → HasFollowed links n limit vertex cost [] search search
followed_none links n limit vertex cost search = record {
  places = refl;
  settled = refl;
  best_long = refl;
  more = λ w x h. h;
  offered = All-nil (λ half. (limit < cost + half.cost) ⊎ IsOffered (bests_of search.marks.items) half.to (cost + half.cost));
  length = omega arith;
  keeps = λ sources place s placed at vertex_is cost_is h. h;
}

-- one half more
pub followed_more : (links : List Link) (n limit vertex cost : ℕ) (halves : List Half) (half : Half) (first old new : Search) → half.to < length (bests_of old.marks.items) → IsVertex n half.to → link links vertex half.to ≡ Some half.cost
    → Follows old new limit (cost + half.cost) half.to vertex → length new.queue ≤ length old.queue + 1 → HasFollowed links n limit vertex cost halves first old → HasFollowed links n limit vertex cost (halves ++ half ∷ []) first new
followed_more links n limit vertex cost halves half first old new within in_range linked follows longer before = elim follows.either [
  | inl beyond ↦ subst (λ (s : Search). HasFollowed links n limit vertex cost (halves ++ half ∷ []) first s) (sym beyond.1) (record {
    places = before.places;
    settled = before.settled;
    best_long = before.best_long;
    more = before.more;
    offered = All-push (λ half. (limit < cost + half.cost) ⊎ IsOffered (bests_of old.marks.items) half.to (cost + half.cost)) halves half before.offered (inl beyond.0);
    length = (let long = length-append halves (half ∷ []) in let bound = before.length in omega arith);
    keeps = before.keeps;
  })
  | inr followed ↦
      let gains = offer_gains links n limit old new (cost + half.cost) half.to vertex within followed.1 in
      record {
        places = followed.1.places ∙ before.places;
        settled = followed.1.settled ∙ before.settled;
        best_long = gains.best_long ∙ before.best_long;
        more = λ w x h. gains.more w x (before.more w x h);
        offered = All-push (λ half. (limit < cost + half.cost) ⊎ IsOffered (bests_of new.marks.items) half.to (cost + half.cost)) halves half (All-weaker (λ half. (limit < cost + half.cost) ⊎ IsOffered (bests_of old.marks.items) half.to (cost + half.cost)) (λ half. (limit < cost + half.cost) ⊎ IsOffered (bests_of new.marks.items) half.to (cost + half.cost)) (λ h known. weaker gains.more h known) halves before.offered) (inr gains.offered);
        length = (let long = length-append halves (half ∷ []) in let bound = before.length in omega arith);
        keeps = λ sources place s placed at vertex_is cost_is h.
            gains.keeps sources (record {
              in_range = in_range;
              within = followed.0;
              comes = inr (place, s, half.cost, ap (λ p. place_of p vertex) before.places ∙ placed, ap (λ ss. slice_get ss place) before.settled ∙ at, ap (λ x. link links x half.to) vertex_is ∙ linked, ap (λ x. x + half.cost) (sym cost_is));
            }) (before.keeps sources place s placed at vertex_is cost_is h);
      }
]
  where
    weaker : ((w x : ℕ) → IsOffered (bests_of old.marks.items) w x → IsOffered (bests_of new.marks.items) w x) → (h : Half) → (limit < cost + h.cost) ⊎ IsOffered (bests_of old.marks.items) h.to (cost + h.cost) → (limit < cost + h.cost) ⊎ IsOffered (bests_of new.marks.items) h.to (cost + h.cost)
    weaker more h (inl beyond) = inl beyond
    weaker more h (inr offered) = inr (more h.to (cost + h.cost) offered)

-- all halves followed
pub followed_all : (I : Network) (limit vertex cost : ℕ) (halves : List Half) (old new : Search) → AreNeighbours I vertex halves → length halves < 2 ^ 64 → HasFollowed I.links I.n limit vertex cost halves old new → Relaxes I.links I.n limit vertex cost old new
followed_all I limit vertex cost halves old new are few followed = record {
  places = followed.places;
  settled = followed.settled;
  more = followed.more;
  relaxed = λ w d linked. All-contains (λ half. (limit < cost + half.cost) ⊎ IsOffered (bests_of new.marks.items) half.to (cost + half.cost)) halves (record { to = w; cost = d }) followed.offered ((are.linked w d).1 linked);
  length = (let bound = followed.length in omega arith);
  keeps = followed.keeps;
}

-- one source more is offered
pub start_step : (links : List Link) (n limit : ℕ) (sources seen : List ℕ) (source : ℕ) (old new : Search) → source < length (bests_of old.marks.items) → IsVertex n source → Contains sources source → Offers old new 0 source 0
    → IsSearch links n sources limit (bests_of old.marks.items) (places_of old.marks.items) old.settled.items old.queue → IsSearch links n sources limit (bests_of new.marks.items) (places_of new.marks.items) new.settled.items new.queue
start_step links n limit sources seen source old new within in_range held offers search =
    (offer_gains links n limit old new 0 source 0 within offers).keeps sources (record { in_range = in_range; within = (omega arith); comes = inl (refl, refl, held) }) search

pub start_offered : (seen : List ℕ) (source n : ℕ) (old new : Search) → source < length (bests_of old.marks.items) → Offers old new 0 source 0 → All (λ s. IsOffered (bests_of old.marks.items) s 0) seen → All (λ s. IsOffered (bests_of new.marks.items) s 0) (seen ++ source ∷ [])
start_offered seen source n old new within offers before =
    let gains = offer_gains [] n 0 old new 0 source 0 within offers in
    All-push (λ s. IsOffered (bests_of new.marks.items) s 0) seen source (All-weaker (λ s. IsOffered (bests_of old.marks.items) s 0) (λ s. IsOffered (bests_of new.marks.items) s 0) (λ s h. gains.more s 0 h) seen before) gains.offered
