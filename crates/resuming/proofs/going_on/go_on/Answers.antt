use Rattle.std.proofs.Common.{ℕ, ◌∙◌, ◌≤◌, arith, refl, subst}
use Rattle.std.specs.Prelude.{None, Some}
use Rattle.st_model.specs.Network.{Network}
use Rattle.log_resume.specs.Closes.{IsNextBelow}
use Rattle.resuming.specs.GoingOn.{IsSearchFrom}
use Rattle.resuming.proofs.Falling.{search_falls}
use Rattle.resuming.proofs.Going.{all_searched, kept_so, lowered_so, none_so, one_more, rest_among, this_among}
use Rattle.resuming.proofs.going_on.go_on.Goals as goal

pub loop-known-preserved : goal.loop-known-preserved
loop-known-preserved g c =
    let I = c.args.whole.now.instance in
    let here = c.loop-known in
    let inv = c.loop-known.invariant in
    let N = c.in-Some.node in
    let rest = c.in-Some.rest.nodes in
    let E = c.in_ok-search.search in
    let ran : IsSearchFrom I N here.known.least here.budget E = subst (λ (x : ℕ). IsSearchFrom I N x here.budget E) c.incumbent-incumbent.ensures c.in_ok-search.ensures in
    let new = c.in_ok-known.known in
    let segments = c.as_slice.result.now in
    let are = c.as_slice.ensures in
    let found : IsNextBelow here.closes.instance here.known.least here.closes.nodes (Some (N, rest)) = rw c.in-Some.is at c.in_ok-node.ensures.next in
    let next : IsNextBelow I here.known.least here.closes.nodes (Some (N, rest)) = subst (λ (J : Network). IsNextBelow J here.known.least here.closes.nodes (Some (N, rest))) inv.same found in
    let lowered = lowered_so I N here.known.least here.budget new.least E segments ran are c.in_ok-known.ensures.least in
    let fell : new.least ≤ here.known.least = omega (arith, lowered, search_falls I N here.known.least here.budget E ran) in
    record {
      same = (rw c.in-Some.is at c.in_ok-node.ensures.same) ∙ inv.same;
      goes = one_more I c.args.closes.nodes c.args.known.least c.args.limits.budget here.searches.items here.closes.nodes rest N here.known.least here.budget E new.least _ c.push.new.self.items inv.goes next ran lowered refl c.in_ok-push.ensures.items;
      among = λ M there. inv.among M (rest_among I here.known.least here.closes.nodes rest N M next there);
      below = omega (arith, fell, inv.below);
      tree = kept_so I c.args.closes.nodes c.args.known.tree here.known.tree new.tree here.known.least new.least N E segments here.budget (inv.among N (this_among I here.known.least here.closes.nodes rest N next)) ran.finished are inv.tree c.in_ok-known.ensures.tree;
      none = none_so I c.args.known.least c.args.known.tree here.known.tree new.tree segments here.known.least new.least inv.none c.in_ok-known.ensures.tree;
    }

pub returns-clause-searches : goal.returns-clause-searches
returns-clause-searches g c =
    let I = c.args.whole.now.instance in
    let here = c.loop-known in
    let inv = c.loop-known.invariant in
    let none : IsNextBelow here.closes.instance here.known.least here.closes.nodes None = rw c.in_default.is at c.in_ok-node.ensures.next in
    let nobody : IsNextBelow I here.known.least here.closes.nodes None = subst (λ (J : Network). IsNextBelow J here.known.least here.closes.nodes None) inv.same none in
    all_searched I c.args.closes.nodes c.args.known.least c.args.limits.budget here.searches.items here.closes.nodes here.known.least here.budget inv.goes nobody
