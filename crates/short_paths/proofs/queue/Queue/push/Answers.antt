use Rattle.std.proofs.Common.{◌≡◌, [], ◌∷◌, ◌++◌, List, IsPermutation, subst, sym, ◌∙◌, arith}
use Rattle.std.proofs.lemmas.List.Sorted.{IsPermutation-sym, IsPermutation-trans, IsPermutation-to_front}
use Rattle.short_paths.specs.declared.queue.Offer.{Offer}
use Rattle.short_paths.proofs.Heaps.{written_back}
use Rattle.short_paths.proofs.queue.Queue.push.Goals as goal

pub returns-clause-moved : goal.returns-clause-moved
returns-clause-moved c =
    let old = c.self.inside.offers.items in
    let longer : c.deref_mut.result.now ≡ old ++ c.args.offer ∷ [] = c.deref_mut.ensures.value ∙ c.in_ok-push.ensures.items in
    let back = written_back c.rise.new.offers _ c.push.new.self.len (let same = c.rise.auto.offers in let long = c.deref_mut.ensures.len in omega arith) in
    let first = IsPermutation-sym (old ++ c.args.offer ∷ []) (c.args.offer ∷ old) (IsPermutation-to_front old c.args.offer) in
    rw (← c.self.view_is) (subst (λ (xs : List Offer). IsPermutation (c.args.offer ∷ old) xs) (sym back) (IsPermutation-trans (c.args.offer ∷ old) c.deref_mut.result.now c.rise.new.offers (subst (λ (xs : List Offer). IsPermutation (c.args.offer ∷ old) xs) (sym longer) first) c.rise.ensures.moved))
