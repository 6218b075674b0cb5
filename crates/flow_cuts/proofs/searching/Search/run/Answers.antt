use Rattle.std.proofs.Common.{◌∙◌, ℕ, Some, ap, sym, subst, arith}
use Rattle.std.specs.Prelude.{IsTrue}
use Rattle.std.proofs.lemmas.Option.{slice_get_within, get_or_from_slice_get}
use Rattle.st_model.specs.Lists.{has}
use Rattle.st_model.specs.Network.{IsVertex}
use Rattle.st_model.proofs.Marked.{has_at}
use Rattle.st_model.proofs.Walked.{slice_get-None}
use Rattle.flow_cuts.specs.Sending.{sent}
use Rattle.flow_cuts.proofs.Trees.{closed_done, closed_more, met_root}
use Rattle.flow_cuts.proofs.searching.Search.run.Goals as goal

pub returns-then-head-root-clause-searched : goal.returns-then-head-root-clause-searched
returns-then-head-root-clause-searched c =
    let at_root = c.if-head-root.true ∙ c.root.ensures.root in
    met_root c.args.arcs.now (sent c.args.flow.now) c.args.capacity c.args.q c.loop-head.next c.loop-head.self (sym c.in-Some.ensures.member ∙ ap Some at_root) c.loop-head.invariant.tree

pub add_tails-requires-clause-head : goal.add_tails-requires-clause-head
add_tails-requires-clause-head c =
    let members = c.loop-head.self.reaching.members in
    let found = sym c.in-Some.ensures.member in
    let below = slice_get_within members c.loop-head.next c.in-Some.head found in
    subst (IsVertex c.args.arcs.now.n) (get_or_from_slice_get members c.loop-head.next c.in-Some.head 0 found) (c.loop-head.invariant.tree.in_range c.loop-head.next 0 below)

pub overflow_add-next : goal.overflow_add-next
overflow_add-next c =
    let below = slice_get_within c.loop-head.self.reaching.members c.loop-head.next c.in-Some.head (sym c.in-Some.ensures.member) in
    omega (arith, below, c.in-Some.ensures.few, c.loop-head.invariant.tree.count, c.root.ensures.digraph.few_vertices)

pub loop-head-smaller : goal.loop-head-smaller
loop-head-smaller c =
    let below = slice_get_within c.loop-head.self.reaching.members c.loop-head.next c.in-Some.head (sym c.in-Some.ensures.member) in
    omega (arith, below, c.in-Some.ensures.few, c.loop-head.invariant.tree.count)

pub loop-head-preserved : goal.loop-head-preserved
loop-head-preserved c =
    let members = c.loop-head.self.reaching.members in
    let found = sym c.in-Some.ensures.member in
    let below = slice_get_within members c.loop-head.next c.in-Some.head found in
    let held = subst (λ (w : ℕ). IsTrue (has members w)) (get_or_from_slice_get members c.loop-head.next c.in-Some.head 0 found) (has_at members c.loop-head.next 0 below) in
    record {
      tree = c.in_ok-add_tails.ensures.tree c.args.q c.loop-head.invariant.tree held;
      closed = closed_more c.args.arcs.now (sent c.args.flow.now) c.args.capacity c.loop-head.next c.in-Some.head members c.add_tails.new.self.reaching.members found
          c.in_ok-add_tails.ensures.longer c.in_ok-add_tails.ensures.all c.loop-head.invariant.closed;
    }

pub returns-clause-searched : goal.returns-clause-searched
returns-clause-searched c = closed_done c.args.arcs.now (sent c.args.flow.now) c.args.capacity c.args.q c.loop-head.next c.loop-head.self
    (slice_get-None _ _ (sym c.in_default.ensures.member)) c.loop-head.invariant.closed c.loop-head.invariant.tree
