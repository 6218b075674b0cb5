use Rattle.std.proofs.Common.{◌≡◌, ◌∷◌, [], get_or, reverse, ap, sym, subst, ◌∙◌, arith}
use Rattle.std.proofs.lemmas.List.{reverse-append}
use Rattle.std.proofs.lemmas.Option.{slice_get-get_or}
use Rattle.special_dist.specs.declared.quest.Visit.{Visit}
use Rattle.special_dist.proofs.WalkingBack.{LeadsBack, back_more, back_whole}
use Rattle.special_dist.proofs.walk_back.inner_to.Goals as goal

pub loop-here-preserved : goal.loop-here-preserved
loop-here-preserved c =
    let none : Visit = record { vertex = 0; paid = 0; before = 0 } in
    let visits = c.args.visits.now in
    let here = c.loop-here.here in
    let s : Visit = get_or visits here none in
    let inside = c.loop-here.invariant.0 in
    let less = c.loop-here-test.true in
    let turned : reverse c.push.new.self.items ≡ s.vertex ∷ reverse c.loop-here.inner.items = ap reverse c.in_ok-push.ensures.items ∙ reverse-append c.loop-here.inner.items (s.vertex ∷ []) in (
      omega arith,
      λ I q reached. subst (LeadsBack I q visits s.before) (sym turned) (back_more I q visits here s (reverse c.loop-here.inner.items) (slice_get-get_or visits here none inside) less (c.loop-here.invariant.1 I q reached)),
    )

pub returns : goal.returns
returns c I q quest reached =
    let none : Visit = record { vertex = 0; paid = 0; before = 0 } in
    let visits = c.args.visits.now in
    let here = c.loop-here.here in
    rw c.reverse.ensures.items (back_whole I q visits here (get_or visits here none) (reverse c.loop-here.inner.items) quest (slice_get-get_or visits here none c.loop-here.invariant.0) c.loop-here-test.false (c.loop-here.invariant.1 I q reached))
