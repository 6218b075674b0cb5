use Rattle.std.proofs.Common.{inr, refl, sym, ◌∙◌}
use Rattle.arborescence.specs.DiNetwork.{di_ground}
use Rattle.arborescence.specs.Ascending.{raised_packing}
use Rattle.arborescence.proofs.Raised.{HasRaised-none, HasRaised-more, regathered}
use Rattle.arborescence.proofs.Used.{root_leads}
use Rattle.arborescence.proofs.raising.Raising.reach.Goals as goal

pub loop-self-init : goal.loop-self-init
loop-self-init c = HasRaised-none c.args.instance.now c.args.branch.now c.args.self.now c.requires.raising

pub raise-requires-clause-raising : goal.raise-requires-clause-raising
raise-requires-clause-raising c = (regathered c.args.instance.now c.args.branch.now c.args.self.now c.loop-self.self _ c.loop-self.invariant refl refl refl c.in_ok-gather.ensures.count).raising

pub raise-requires-clause-away : goal.raise-requires-clause-away
raise-requires-clause-away c = rw c.root.ensures.root at (sym c.contains.ensures ∙ c.if-contains.false)

pub returns-then-contains-clause-raised : goal.returns-then-contains-clause-raised
returns-then-contains-clause-raised c = regathered c.args.instance.now c.args.branch.now c.args.self.now c.loop-self.self _ c.loop-self.invariant refl refl refl c.in_ok-gather.ensures.count

pub returns-then-contains-clause-reached : goal.returns-then-contains-clause-reached
returns-then-contains-clause-reached c =
    let D = c.args.instance.now in
    let held = rw c.root.ensures.root at (sym c.contains.ensures ∙ c.if-contains.true) in
    inr (root_leads (di_ground D) c.args.branch.now (raised_packing D c.loop-self.self) c.loop-self.self.arcs c.args.vertex D.root c.gather.new.set.members c.loop-self.invariant.raising.loaded c.in_ok-gather.ensures.gathered held)

pub loop-self-preserved : goal.loop-self-preserved
loop-self-preserved c =
    let D = c.args.instance.now in
    HasRaised-more D c.args.branch.now c.args.self.now _ c.raise.new.self (regathered D c.args.branch.now c.args.self.now c.loop-self.self _ c.loop-self.invariant refl refl refl c.in_ok-gather.ensures.count) c.in_ok-raise.ensures.raised
