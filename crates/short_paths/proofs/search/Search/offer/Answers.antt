use Rattle.std.proofs.Common.{refl, sym, ◌∙◌, inl, inr}
use Rattle.short_paths.proofs.MarkLists.{best_at, places_kept, bests_put, offered_from, dearer_from}
use Rattle.short_paths.specs.Marks.{best_of}
use Rattle.short_paths.proofs.search.Search.offer.Goals as goal

pub returns-then-is_offered-clause-ok : goal.returns-then-is_offered-clause-ok
returns-then-is_offered-clause-ok c =
    let mark = c.index-mark.result.now in
    let marks = c.args.self.now.marks.items in
    let known = offered_from (best_of mark) c.args.cost c.if-is_offered.ensures.yes in
    record {
      places = refl;
      settled = refl;
      either = inl ((known.0, best_at marks c.args.to mark c.requires c.index-mark.ensures ∙ known.1, known.2), refl, refl);
    }

pub returns-clause-ok : goal.returns-clause-ok
returns-clause-ok c =
    let mark = c.index-mark.result.now in
    let marks = c.args.self.now.marks.items in
    record {
      places = places_kept marks c.args.to mark c.requires c.index-mark.ensures c.offered.result c.offered.ensures.place;
      settled = refl;
      either = inr (
        λ least is. dearer_from (best_of mark) c.args.cost c.if-is_offered.ensures.no least (sym (best_at marks c.args.to mark c.requires c.index-mark.ensures) ∙ is),
        bests_put marks c.args.to c.offered.result c.args.cost c.offered.ensures.best,
        c.in_ok-push.ensures.moved,
      );
    }
