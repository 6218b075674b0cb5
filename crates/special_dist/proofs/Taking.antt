-- A visit is gone on from over all halves of its vertex, so it need not wait any more.
use Rattle.std.proofs.Common.{◌≡◌, ℕ, ◌+◌, ◌<◌, List, [], ◌∷◌, ◌++◌, length, slice_get, Option, Some, IsPermutation, sym, ap, subst, ◌∙◌, arith, inl, inr}
use Rattle.std.proofs.lemmas.List.Elements.{All-nil, All-tail, All-weaker, All-append, All-contains}
use Rattle.std.proofs.lemmas.List.Sorted.{All-permutation, Contains-permutation}
use Rattle.st_model.specs.Network.{Network}
use Rattle.graph_store.specs.declared.half.Half.{Half}
use Rattle.graph_store.specs.Neighbours.{AreNeighbours}
use Rattle.special_dist.specs.declared.quest.Quest.{Quest}
use Rattle.special_dist.specs.declared.quest.Visit.{Visit}
use Rattle.special_dist.specs.declared.search.Search.{Search}
use Rattle.special_dist.specs.Searching.{IsFollowed, IsSearch, IsSpread, LeadsOn, paid_at, waiting}
use Rattle.special_dist.specs.Steps.{HasGone}
use Rattle.special_dist.proofs.Adding.{contains_cases}

-- those who wait may stand in any order
pub reordered : (I : Network) (q : Quest) (s : Search) (places others : List ℕ) → IsPermutation places others → IsSearch I q s places → IsSearch I q s others
reordered I q s places others moved search = record {
  begun = search.begun;
  visits = search.visits;
  places = All-permutation (λ place. place < length s.visits.items) places others moved search.places;
  spread = λ v paid is. elim (search.spread v paid is) [
    | inl (place, visit, held, at, vertex, paid_is) ↦ inl (place, visit, Contains-permutation places others place moved held, at, vertex, paid_is)
    | inr spread ↦ inr spread
  ];
}

-- a visit need not wait where its vertex paid less since, or where it was gone on from
pub taken : (I : Network) (q : Quest) (s : Search) (place : ℕ) (visit : Visit) (rest : List ℕ) → slice_get s.visits.items place ≡ Some visit → (paid_at s visit.vertex ≡ Some visit.paid → IsSpread I q s visit.vertex visit.paid) → IsSearch I q s (place ∷ rest) → IsSearch I q s rest
taken I q s place visit rest there spread search = record {
  begun = search.begun;
  visits = search.visits;
  places = All-tail (λ place. place < length s.visits.items) place rest search.places;
  spread = λ v paid is. elim (search.spread v paid is) [
    | inl (k, other, held, at, vertex, paid_is) ↦ elim (contains_cases place k rest held) [
      | inl first ↦ inr (
          let same : other ≡ visit = (let e : ◌≡◌ {A = Option Visit} (Some other) (Some visit) = sym at ∙ ap (slice_get s.visits.items) first ∙ there in cc) in
          let here : visit.vertex ≡ v = sym (ap (λ (o : Visit). o.vertex) same) ∙ vertex in
          let much : visit.paid ≡ paid = sym (ap (λ (o : Visit). o.paid) same) ∙ paid_is in
          subst (λ (p : ℕ × ℕ). IsSpread I q s p.0 p.1) (λ j. (here j, much j)) (spread (ap (paid_at s) here ∙ is ∙ ap Some (sym much))))
      | inr later ↦ inl (k, other, later, at, vertex, paid_is)
    ]
    | inr spread ↦ inr spread
  ];
}

-- nothing is gone over yet
pub gone_none : (I : Network) (q : Quest) (place : ℕ) (visit : Visit) (s : Search) → HasGone I q place visit [] s s
gone_none I q place visit s = record {
  keeps = record { visits = λ k t is. is; reached = λ v paid reached. reached };
  followed = All-nil (λ half. LeadsOn I q visit.vertex visit.paid half.to half.cost → IsFollowed I q s half.to (visit.paid + half.cost));
  search = λ search. search;
  weight = omega arith;
}

-- one half more
pub gone_more : (I : Network) (q : Quest) (place : ℕ) (visit : Visit) (halves : List Half) (half : Half) (first old new : Search) → HasGone I q place visit halves first old → HasGone I q place visit (half ∷ []) old new → HasGone I q place visit (halves ++ half ∷ []) first new
gone_more I q place visit halves half first old new before one = record {
  keeps = record {
    visits = λ k t is. one.keeps.visits k t (before.keeps.visits k t is);
    reached = λ v paid reached. one.keeps.reached v paid (before.keeps.reached v paid reached);
  };
  followed = All-append (Followed new) halves (half ∷ []) (All-weaker (Followed old) (Followed new) (λ h told leads. ((told leads).0, one.keeps.reached h.to _ (told leads).1)) halves before.followed) one.followed;
  search = λ search. one.search (before.search search);
  weight = (let more = one.weight in let many = before.weight in omega arith);
}
  where
    Followed : Search → Half → Type 0
    Followed s h = LeadsOn I q visit.vertex visit.paid h.to h.cost → IsFollowed I q s h.to (visit.paid + h.cost)

-- all halves
pub gone_all : (I : Network) (q : Quest) (place : ℕ) (visit : Visit) (halves : List Half) (old new : Search) → AreNeighbours I visit.vertex halves → slice_get old.visits.items place ≡ Some visit → HasGone I q place visit halves old new → IsSearch I q old (place ∷ waiting old) → IsSearch I q new (waiting new)
gone_all I q place visit halves old new are there gone search =
    taken I q new place visit (waiting new) (gone.keeps.visits place visit there)
    (λ is w cost leads. All-contains (λ half. LeadsOn I q visit.vertex visit.paid half.to half.cost → IsFollowed I q new half.to (visit.paid + half.cost)) halves (record { to = w; cost = cost }) gone.followed ((are.linked w cost).1 leads.linked) leads)
    (gone.search search)
