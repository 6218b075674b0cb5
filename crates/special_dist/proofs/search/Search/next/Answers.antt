use Rattle.std.proofs.Common.{ℕ, ◌∷◌, arith}
use Rattle.std.proofs.lemmas.List.Sorted.{IsPermutation-map, length_permutation}
use Rattle.std.specs.BinaryHeap.{heap_items}
use Rattle.std.specs.declared.cmp.Reverse.{Reverse}
use Rattle.special_dist.specs.Searching.{waiting}
use Rattle.special_dist.proofs.Taking.{reordered}
use Rattle.special_dist.proofs.search.Search.next.Goals as goal

pub returns-clause-search : goal.returns-clause-search
returns-clause-search c I q search =
    let rest = heap_items c.pop.new.self in
    let place = c.in_ok-place.field-0.0.1 in
    let moved = IsPermutation-map (λ (w : Reverse (ℕ × ℕ)). w.0.1) (heap_items c.args.self.now.queue) (c.in_ok-place.field-0 ∷ rest) c.in_ok-place.ensures.permutation in
    let same = reordered I q c.args.self.now (waiting c.args.self.now) _ moved search in
    record { begun = same.begun; visits = same.visits; places = same.places; spread = same.spread }

pub returns-clause-weight : goal.returns-clause-weight
returns-clause-weight c n =
    let moved = IsPermutation-map (λ (w : Reverse (ℕ × ℕ)). w.0.1) (heap_items c.args.self.now.queue) (c.in_ok-place.field-0 ∷ heap_items c.pop.new.self) c.in_ok-place.ensures.permutation in
    let fewer = length_permutation _ _ moved in
    omega arith
