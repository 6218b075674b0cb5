use Rattle.std.proofs.Common.{sym, ap, ◌∙◌, arith}
use Rattle.std.specs.List.{list_all}
use Rattle.st_model.specs.Lists.{has}
use Rattle.solution_reader.proofs.WalkedEdges.{small_ends, small_vertex, heads_small, all_led, not_all_led}
use Rattle.solution_reader.proofs.judge.are_joined.Goals as goal

pub neighbours_of-requires : goal.neighbours_of-requires
neighbours_of-requires c = rw c.edges.ensures.all (small_ends c.args.last c.args.claimed.now c.edges.ensures.claim c.requires.vertices)

pub walk-requires-clause-root : goal.walk-requires-clause-root
walk-requires-clause-root c =
    let small = small_vertex c.args.last c.args.claimed.now.vertices c.args.start c.requires.vertices c.requires.start in
    let long = c.in_ok-lists.ensures.length in
    omega (arith, small, long)

pub walk-requires-clause-in_range : goal.walk-requires-clause-in_range
walk-requires-clause-in_range c =
    heads_small c.args.claimed.now.edges c.args.last c.in_ok-lists.lists (small_ends c.args.last c.args.claimed.now c.edges.ensures.claim c.requires.vertices)
    (record { long = c.in_ok-lists.ensures.length; same = rw c.edges.ensures.all at c.in_ok-lists.ensures.neighbours })

pub returns-clause-yes : goal.returns-clause-yes
returns-clause-yes c = λ yes.
    all_led c.args.claimed.now c.args.last c.in_ok-lists.lists c.args.start c.in_ok-reached.reached.members
    (record { long = c.in_ok-lists.ensures.length; same = rw c.edges.ensures.all at c.in_ok-lists.ensures.neighbours }) c.in_ok-reached.ensures
    (ap (list_all (λ v. has c.in_ok-reached.reached.members v)) (sym c.vertices.ensures.all) ∙ (sym c.are_in.ensures ∙ yes))

pub returns-clause-no : goal.returns-clause-no
returns-clause-no c = λ no.
    not_all_led c.args.claimed.now c.args.last c.in_ok-lists.lists c.args.start c.in_ok-reached.reached.members c.requires.start
    (small_ends c.args.last c.args.claimed.now c.edges.ensures.claim c.requires.vertices)
    (record { long = c.in_ok-lists.ensures.length; same = rw c.edges.ensures.all at c.in_ok-lists.ensures.neighbours }) c.in_ok-reached.ensures
    (ap (list_all (λ v. has c.in_ok-reached.reached.members v)) (sym c.vertices.ensures.all) ∙ (sym c.are_in.ensures ∙ no))
