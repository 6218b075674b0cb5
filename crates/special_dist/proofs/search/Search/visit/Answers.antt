use Rattle.std.proofs.Common.{rules, ◌≡◌, ℕ, ◌∷◌, length, map, inr, subst, ap, ◌∙◌, List, get_or, set, slice_get, IsPermutation}
use Rattle.std.proofs.lemmas.List.Sorted.{IsPermutation-map}
use Rattle.std.specs.BinaryHeap.{heap_items}
use Rattle.std.specs.declared.cmp.Reverse.{Reverse}
use Rattle.special_dist.specs.declared.quest.Visit.{Visit}
use Rattle.special_dist.specs.Searching.{paid_by, waiting}
use Rattle.special_dist.proofs.Adding.{paid_added}
use Rattle.special_dist.proofs.search.Search.visit.Goals as goal

pub returns-clause-visits : goal.returns-clause-visits
returns-clause-visits c =
    let places = c.args.self.now.places.items in
    let visits = c.args.self.now.visits.items in
    let visit = c.args.visit in
    let count : c.len-place.result ≡ length visits = search rules in
    inr (record {
      less = c.if-is_reached.ensures.no;
      visits = c.in_ok-push.ensures.items;
      reached = λ v.
          ap (λ (p : ℕ × List Visit). paid_by v (slice_get p.1 (get_or (set places visit.vertex p.0) v 0))) (λ j. (count j, c.in_ok-push.ensures.items j))
          ∙ paid_added places visits visit v c.requires;
      queue = subst (λ (place : ℕ). IsPermutation (place ∷ waiting c.args.self.now) (map (λ (w : Reverse (ℕ × ℕ)). w.0.1) (heap_items c.push-2.new.self))) count
          (IsPermutation-map (λ (w : Reverse (ℕ × ℕ)). w.0.1) _ (heap_items c.push-2.new.self) c.in_ok-push-2.ensures.permutation);
    })
