use Rattle.std.proofs.Common.{◌+◌, ◌<◌, sym}
use Rattle.std.specs.Prelude.{◌==◌, ◌&&◌}
use Rattle.std.proofs.lemmas.List.{length-replicate}
use Rattle.std.proofs.lemmas.List.Elements.{All-nil}
use Rattle.std.proofs.lemmas.List.Folds.{list_any-append}
use Rattle.arborescence.proofs.Listing.{none_listed}
use Rattle.arborescence.proofs.pruning.heads_of_both.Goals as goal

pub add_heads-requires-clause-count : goal.add_heads-requires-clause-count
add_heads-requires-clause-count c = rw c.in_ok-heads.ensures (length-replicate (c.args.vertices + 1) _)

pub add_heads-requires-clause-in_range : goal.add_heads-requires-clause-in_range
add_heads-requires-clause-in_range c = λ u. rw (c.in_ok-heads.ensures, none_listed (c.args.vertices + 1) u) (All-nil (λ v. v < c.args.vertices + 1))

pub returns : goal.returns
returns c = record {
  count = c.in_ok-add_heads-2.ensures.count;
  in_range = λ u. rw c.in_ok-add_heads-2.ensures.count (c.in_ok-add_heads-2.ensures.in_range u);
  listed = λ u v. rw (c.in_ok-add_heads-2.ensures.listed u v, c.in_ok-add_heads.ensures.listed u v, c.in_ok-heads.ensures, none_listed (c.args.vertices + 1) u) (sym (list_any-append (λ a. (a.0 == u) && (a.1 == v)) c.args.left.now c.args.kept.now));
}
