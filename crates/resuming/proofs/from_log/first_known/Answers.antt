use Rattle.std.proofs.Common.{◌≡◌, ◌∙◌, ap, subst, sym}
use Rattle.std.specs.Prelude.{IfNone}
use Rattle.st_model.specs.declared.branch.Branch.{Branch}
use Rattle.st_model.specs.Arborescence.{IsTree}
use Rattle.st_model.specs.Branch.{IsBranch, avoiding}
use Rattle.st_model.specs.Network.{Network}
use Rattle.graph_store.specs.Whole.{IsWholeOf}
use Rattle.log_format.specs.Accepts.{left_over}
use Rattle.tree_heuristic.specs.Reaching.{HasNoTree}
use Rattle.resuming.proofs.Firsts.{IsFirstTree, found_cheaper, found_no_cheaper, is_branch, some_first_left}
use Rattle.resuming.proofs.from_log.first_known.Goals as goal

pub unreachable-requires : goal.unreachable-requires
unreachable-requires c =
    let s = c.args.reduced.now.state in
    let g = c.args.whole.now.store in
    let branch_is : c.in_ok-sides.sides ≡ left_over s = c.in_ok-sides.ensures ∙ (c.leaving_out-branch.ensures ∙ ap avoiding c.in_ok-gone.ensures) in
    let of : IsWholeOf s.instance g = subst (λ (N : Network). IsWholeOf N g) c.requires.whole c.args.whole.now.whole in
    let none = subst (λ (B : Branch). IfNone c.in_ok-first.field-0 (HasNoTree g B)) branch_is c.in_ok-first.ensures.none in
    some_first_left s g c.args.best.now.cost c.in_ok-first.field-0 c.offset-offset.ensures.state of c.requires.tree none c.in_default.is

pub nearer-requires-clause-branch : goal.nearer-requires-clause-branch
nearer-requires-clause-branch c =
    let s = c.args.reduced.now.state in
    let branch_is : c.in_ok-sides.sides ≡ left_over s = c.in_ok-sides.ensures ∙ (c.leaving_out-branch.ensures ∙ ap avoiding c.in_ok-gone.ensures) in
    let here : IsBranch s.instance c.in_ok-sides.sides = subst (IsBranch s.instance) (sym branch_is) (is_branch s c.offset-offset.ensures.state) in
    subst (λ (N : Network). IsBranch N c.in_ok-sides.sides) (sym c.requires.whole) here

pub nearer-requires-clause-tree : goal.nearer-requires-clause-tree
nearer-requires-clause-tree c =
    let whole : IsWholeOf c.args.whole.now.instance c.args.whole.now.store = c.args.whole.now.whole in
    let tree : IsTree c.args.whole.now.store.network c.in-Some.first = rw c.in-Some.is at c.in_ok-first.ensures.tree in
    subst (λ (N : Network). IsTree N c.in-Some.first) whole.network tree

pub nearer-requires-clause-reaches : goal.nearer-requires-clause-reaches
nearer-requires-clause-reaches c = rw c.in-Some.is at c.in_ok-first.ensures.reaches

pub returns-then-cost-least : goal.returns-then-cost-least
returns-then-cost-least c =
    let s = c.args.reduced.now.state in
    let W = c.args.whole.now.instance in
    let g = c.args.whole.now.store in
    let found : IsFirstTree s W g c.in_ok-sides.sides c.args.best.now.cost c.in-Some.first c.in_ok-guide.guide = record {
      is_state = c.offset-offset.ensures.state;
      within = c.requires.tree;
      whole_is = c.requires.whole;
      of = c.args.whole.now.whole;
      branch_is = c.in_ok-sides.ensures ∙ (c.leaving_out-branch.ensures ∙ ap avoiding c.in_ok-gone.ensures);
      low = rw c.in-Some.is at c.in_ok-first.ensures.lone;
      law = c.lone_starts_miss_the_rest.ensures;
      tree = c.in_ok-guide.ensures.tree;
      reaches = c.in_ok-guide.ensures.reaches;
      no_dearer = c.in_ok-guide.ensures.cost;
    } in
    found_cheaper s W g c.in_ok-sides.sides c.args.best.now.cost c.in-Some.first c.in_ok-guide.guide found c.tree_cost-cost.result c.offset-offset.result c.in_ok-copy.copy c.tree_cost-cost.ensures c.offset-offset.ensures.offset c.in_ok-copy.ensures c.if-cost-least.true

pub returns : goal.returns
returns c =
    let s = c.args.reduced.now.state in
    let W = c.args.whole.now.instance in
    let g = c.args.whole.now.store in
    let found : IsFirstTree s W g c.in_ok-sides.sides c.args.best.now.cost c.in-Some.first c.in_ok-guide.guide = record {
      is_state = c.offset-offset.ensures.state;
      within = c.requires.tree;
      whole_is = c.requires.whole;
      of = c.args.whole.now.whole;
      branch_is = c.in_ok-sides.ensures ∙ (c.leaving_out-branch.ensures ∙ ap avoiding c.in_ok-gone.ensures);
      low = rw c.in-Some.is at c.in_ok-first.ensures.lone;
      law = c.lone_starts_miss_the_rest.ensures;
      tree = c.in_ok-guide.ensures.tree;
      reaches = c.in_ok-guide.ensures.reaches;
      no_dearer = c.in_ok-guide.ensures.cost;
    } in
    found_no_cheaper s W g c.in_ok-sides.sides c.args.best.now.cost c.in-Some.first c.in_ok-guide.guide found c.tree_cost-cost.result c.offset-offset.result c.tree_cost-cost.ensures c.offset-offset.ensures.offset c.if-cost-least.false
