use Rattle.std.proofs.Common.{◌≡◌, ℕ, ◌+◌, ◌<◌, List, [], ◌∷◌, ◌++◌, length, take, get_or, sym, ap, ◌∙◌, length-set, arith}
use Rattle.std.proofs.lemmas.List.{take_all, take_more, take_more_set}
use Rattle.short_paths.specs.declared.settled.Settled.{Settled}
use Rattle.short_paths.proofs.Begins.{firsts, firsts-push}
use Rattle.short_paths.proofs.sources.firsts_of.Goals as goal

pub loop-place-preserved : goal.loop-place-preserved
loop-place-preserved c =
    let i = c.loop-place.place in
    let settled = c.args.settled.now in
    let old = c.loop-place.firsts.items in
    let first = c.first_on.result in
    let before = c.loop-place.invariant in
    let none : Settled = record { vertex = 0; cost = 0; before = 0 } in
    let s = get_or settled i none in
    let within : i < length old = let low = c.loop-place-test.true in let long = before.long in omega (arith, low, long) in
    let value : first ≡ get_or (firsts (take i settled)) s.before s.vertex = c.first_on.ensures ∙ ap (λ (fs : List ℕ). get_or fs s.before s.vertex) (ap (take i) c.deref.ensures.value ∙ before.known) in
    let step : firsts (take (i + 1) settled) ≡ firsts (take i settled) ++ get_or (firsts (take i settled)) s.before s.vertex ∷ [] = ap firsts (take_more settled i none c.loop-place-test.true) ∙ firsts-push (take i settled) s in
    record {
      long = length-set old i first ∙ before.long;
      known = take_more_set old i first within ∙ (ap (λ (fs : List ℕ). fs ++ first ∷ []) before.known ∙ (ap (λ (v : ℕ). firsts (take i settled) ++ v ∷ []) value ∙ sym step));
    }

pub returns : goal.returns
returns c =
    let settled = c.args.settled.now in
    let before = c.loop-place.invariant in
    let past = c.loop-place-test.false in
    sym (take_all c.loop-place.place c.loop-place.firsts.items (let long = before.long in omega (arith, past, long))) ∙ (before.known ∙ ap firsts (take_all c.loop-place.place settled past))
