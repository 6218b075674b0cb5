use Rattle.std.proofs.Common.{◌∙◌, ℕ, sym, subst, refl}
use Rattle.std.specs.Prelude.{IsTrue, IsFalse}
use Rattle.std.proofs.lemmas.Bool.{false≢true}
use Rattle.st_model.specs.Lists.{has}
use Rattle.flow_cuts.specs.Sending.{sent}
use Rattle.flow_cuts.proofs.Flows.{found_is_fewest, separates_closed}
use Rattle.flow_cuts.proofs.Trees.{holds_q, led_is_held, steps_lead}
use Rattle.flow_cuts.proofs.least.fewest.Goals as goal

pub returns-then-contains-clause-none : goal.returns-then-contains-clause-none
returns-then-contains-clause-none c =
    let D = c.args.arcs.now in
    let tree = c.in_ok-run.ensures.searched.tree in
    let met = sym c.contains.ensures ∙ c.if-contains.true in
    let held = subst (λ (w : ℕ). IsTrue (has c.run.new.self.reaching.members w)) c.root.ensures.root met in
    (λ _. steps_lead D (sent c.none.result) c.args.q _ tree.steps D.root (sym (tree.same D.root) ∙ held), λ _. refl)

pub send_all-requires-clause-separate : goal.send_all-requires-clause-separate
send_all-requires-clause-separate c =
    let D = c.args.arcs.now in
    let searched = c.in_ok-run.ensures.searched in
    let members = c.run.new.self.reaching.members in
    let apart = sym c.contains.ensures ∙ c.if-contains.false in
    let misses = subst (λ (w : ℕ). IsFalse (has members w)) c.root.ensures.root apart in
    (members, separates_closed D c.args.q 0 (sent c.none.result) members (holds_q D (sent c.none.result) 0 c.args.q c.run.new.self searched.tree) misses (searched.closed misses))

pub returns-clause-set : goal.returns-clause-set
returns-clause-set c =
    let flow = c.in_ok-send_all.ensures.flow in
    found_is_fewest c.args.arcs.now c.args.q flow.1 flow.0 c.send_all.new.search c.in_ok-set.set.items c.root.ensures.digraph flow.2 flow.3
    c.in_ok-send_all.ensures.apart c.in_ok-set.ensures.members c.in_ok-set.ensures.ascending

pub returns-clause-none : goal.returns-clause-none
returns-clause-none c =
    let D = c.args.arcs.now in (
      λ none. absurd cc,
      λ led. let separates = (returns-clause-set c).candidate.separates in
          absurd (false≢true (sym separates.misses ∙ led_is_held D c.args.q c.in_ok-set.set.items separates D.root led)),
    )
