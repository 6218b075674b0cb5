use Rattle.std.proofs.Common.{◌≡◌, Some, sym, ap, ◌∙◌}
use Rattle.std.specs.Option.{option_copied}
use Rattle.search_core.specs.declared.event.Event.TheVariants.{Split}
use Rattle.search_core.specs.State.{State, hand, made_as}
use Rattle.search_core.specs.Seen.{state_of}
use Rattle.search_core.proofs.Early.{split_early}
use Rattle.search_core.proofs.Happened.{after_split}
use Rattle.search_core.proofs.Keeping.{kept_after}
use Rattle.search_core.proofs.search.Search.split.Goals as goal

pub split-requires-clause-inside : goal.split-requires-clause-inside
split-requires-clause-inside c =
    rw c.in_ok-yes.ensures.inside (split_early (state_of c.self.inside) c.args.w c.args.at c.args.inside c.args.outside c.args.packing (rw (← c.self.view_is) at c.requires.early)).new_inside

pub split-requires-clause-outside : goal.split-requires-clause-outside
split-requires-clause-outside c =
    rw c.in_ok-yes.ensures.outside (split_early (state_of c.self.inside) c.args.w c.args.at c.args.inside c.args.outside c.args.packing (rw (← c.self.view_is) at c.requires.early)).new_outside

pub invariant_of-self-2 : goal.invariant_of-self-2
invariant_of-self-2 c =
    let in_hand : hand (state_of c.self.inside) c.args.w ≡ Some c.in-Some.id = ap (λ (s : State). hand s c.args.w) c.self.view_is ∙ (sym c.hand.ensures ∙ c.in-Some.is) in
    let found : made_as (state_of c.self.inside) c.in-Some.id ≡ Some c.in-Some-find.made.now = sym c.find.ensures ∙ ap (λ o. option_copied o) c.in-Some-find.is in
    rw (c.set_place.ensures, c.in_ok-split.ensures.nodes, c.in_ok-split.ensures.workers, c.in_ok-yes.ensures.inside, c.in_ok-yes.ensures.outside) (rw (after_split (state_of c.self.inside) c.args.w c.args.at c.args.inside c.args.outside c.args.packing c.in-Some.id c.in-Some-find.made.now in_hand found) at (kept_after (state_of c.self.inside) (Split c.args.w c.args.at c.args.inside c.args.outside c.args.packing) c.self.invariant (rw (← c.self.view_is) at c.requires)))

pub returns-clause-ok : goal.returns-clause-ok
returns-clause-ok c =
    let in_hand : hand (state_of c.self.inside) c.args.w ≡ Some c.in-Some.id = ap (λ (s : State). hand s c.args.w) c.self.view_is ∙ (sym c.hand.ensures ∙ c.in-Some.is) in
    let found : made_as (state_of c.self.inside) c.in-Some.id ≡ Some c.in-Some-find.made.now = sym c.find.ensures ∙ ap (λ o. option_copied o) c.in-Some-find.is in
    rw (← c.self.view_is, c.set_place.ensures, c.in_ok-split.ensures.nodes, c.in_ok-split.ensures.workers, c.in_ok-yes.ensures.inside, c.in_ok-yes.ensures.outside) (sym (after_split (state_of c.self.inside) c.args.w c.args.at c.args.inside c.args.outside c.args.packing c.in-Some.id c.in-Some-find.made.now in_hand found))
