use Rattle.std.proofs.Common.{rules, ◌≡◌, ◌-◌, ◌^◌, [], ◌∷◌, ◌++◌, length, unwrap_or, Some, sym, ◌∙◌, ap}
use Rattle.short_paths.proofs.MarkLists.{place_at, bests_long, bests_others, bests_more, places_put}
use Rattle.short_paths.proofs.search.Search.settle.Goals as goal

pub returns-clause-ok : goal.returns-clause-ok
returns-clause-ok c =
    let marks = c.args.self.now.marks.items in
    let settled = c.args.self.now.settled.items in
    let count : c.len-place.result ≡ length settled = search rules in
    let place = place_at marks c.args.from c.index.result.now c.requires.from c.index.ensures in
    let before = c.unwrap_or-before.ensures ∙ ap (λ o. unwrap_or o (2 ^ 32 - 1)) (c.place.ensures ∙ sym place) in
    record {
      best_long = bests_long marks c.args.vertex c.settled.result;
      others = bests_others marks c.args.vertex c.index-2.result.now c.requires.vertex c.index-2.ensures c.settled.result;
      more = bests_more marks c.args.vertex c.index-2.result.now c.requires.vertex c.index-2.ensures c.settled.result c.settled.ensures.best;
      places = places_put marks c.args.vertex c.settled.result (length settled) (c.settled.ensures.place ∙ ap Some count);
      settled = c.in_ok-push.ensures.items ∙ ap (λ b. settled ++ (record { cost = c.args.cost; vertex = c.args.vertex; before = b } ∷ [])) before;
    }
