use Rattle.std.proofs.Common.{rules, ◌≡◌, ◌<◌, ◌∷◌, List, length, IsPermutation, subst, sym, ◌∙◌, arith}
use Rattle.std.proofs.lemmas.List.Sorted.{IsPermutation-trans, IsPermutation-cons, IsPermutation-swap_remove}
use Rattle.short_paths.specs.declared.queue.Offer.{Offer}
use Rattle.short_paths.proofs.Heaps.{cheapest_first, written_back}
use Rattle.short_paths.proofs.queue.Queue.pop.Goals as goal

pub returns-clause-moved : goal.returns-clause-moved
returns-clause-moved c =
    let old = c.self.inside.offers.items in
    let first = c.swap_remove-first.result in
    let some : 0 < length old = search rules in
    let back = written_back c.sink.new.offers _ c.swap_remove-first.new.self.len (let same = c.sink.auto.offers in let long = c.deref_mut.ensures.len in omega arith) in
    let rest : c.deref_mut.result.now ≡ c.swap_remove-first.new.self.items = c.deref_mut.ensures.value in
    let taken = subst (λ (xs : List Offer). IsPermutation old (first ∷ xs)) (sym (rest ∙ c.swap_remove-first.ensures.items)) (IsPermutation-swap_remove old 0 first some c.swap_remove-first.ensures.value) in
    rw (← c.self.view_is) (subst (λ (xs : List Offer). IsPermutation old (first ∷ xs)) (sym back) (IsPermutation-trans old (first ∷ c.deref_mut.result.now) (first ∷ c.sink.new.offers) taken (IsPermutation-cons first c.deref_mut.result.now c.sink.new.offers c.sink.ensures.moved)))

pub returns-clause-cheapest : goal.returns-clause-cheapest
returns-clause-cheapest c =
    let some : 0 < length c.self.inside.offers.items = search rules in
    rw (← c.self.view_is) (cheapest_first c.self.inside.offers.items c.swap_remove-first.result some c.swap_remove-first.ensures.value c.self.invariant)
