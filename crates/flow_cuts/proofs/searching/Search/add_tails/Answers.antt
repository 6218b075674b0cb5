use Rattle.std.proofs.Common.{◌≡◌, ℕ, ◌+◌, ◌<◌, ◌≤◌, ◌∙◌, ◌++◌, ◌∷◌, [], Bool, true, false, List, get_or, length, refl, sym, subst, arith}
use Rattle.std.specs.Prelude.{IsTrue, IsFalse}
use Rattle.std.proofs.lemmas.Bool.{false≢true}
use Rattle.st_model.specs.Lists.{has}
use Rattle.bidirected_form.specs.declared.arc.Arc.{Arc}
use Rattle.st_model.specs.Network.{IsVertex}
use Rattle.flow_cuts.specs.Sending.{HasRoom, CanSend, sent}
use Rattle.flow_cuts.proofs.Trees.{IsTakenUpTo, longer_keeps, open_row, push_has, push_keeps, push_longer, taken_all, taken_up_to, tree_more}
use Rattle.flow_cuts.proofs.searching.Search.add_tails.Goals as goal
use Rattle.flow_cuts.proofs.searching.Search.add_tails.Goals.{then-finds+in_ok-add, else-finds}

-- a vertex with an open arc that isn't new is there
held_already : (b r : Bool) → r ≡ false → (IsFalse b → IsTrue r) → IsTrue b
held_already true r off fresh = refl
held_already false r off fresh = absurd (false≢true (sym off ∙ fresh refl))

pub add-requires-clause-within : goal.add-requires-clause-within
add-requires-clause-within c =
    let below = subst (λ (xs : List Arc). c.loop-arc.arc-index < length xs) c.arcs_into-row.ensures.all c.loop-arc-test.true in
    let none : Arc = record { tail = 0; remaining = 0 } in
    let high = ((c.arcs_into-row.ensures.digraph.arcs c.args.head).tails c.loop-arc.arc-index none below).0.1 in
    rw c.arcs_into-row.ensures.all (omega (arith, high, c.loop-arc.invariant.count, c.requires.count))

pub loop-arc-preserved : goal.loop-arc-preserved
loop-arc-preserved c =
    let D = c.args.arcs.now in
    let f = sent c.args.flow.now in
    let row = c.arcs_into-row.result.now in
    let i = c.loop-arc.arc-index in
    let none : Arc = record { tail = 0; remaining = 0 } in
    let a : Arc = get_or row i none in
    let now = c.loop-arc.self.reaching.members in
    let into = c.arcs_into-row.ensures.all in
    let below = subst (λ (xs : List Arc). i < length xs) into c.loop-arc-test.true in
    elim c.if-finds.branch [
      | then-finds+in_ok-add w ↦ rw w.self-is (record {
        count = w.in_ok-add.ensures.count ∙ c.loop-arc.invariant.count;
        tree = λ q tree held. tree_more D f c.args.capacity q c.loop-arc.self w.add.new.self a.tail c.args.head
            (subst (λ (xs : List Arc). IsVertex D.n (get_or xs i none).tail) (sym into) ((c.arcs_into-row.ensures.digraph.arcs c.args.head).tails i none below).0)
            (subst (λ (xs : List Arc). HasRoom f c.args.capacity (get_or xs i none).remaining (get_or xs i none).tail c.args.head
            → CanSend D f c.args.capacity (get_or xs i none).tail c.args.head) (sym into) (open_row D f c.args.capacity c.args.head i none c.arcs_into-row.ensures.digraph below)
            (c.finds.ensures.0 w.if-finds.true).1)
            (c.finds.ensures.0 w.if-finds.true).0
            (longer_keeps c.args.self.now.reaching.members now c.args.head c.loop-arc.invariant.longer held)
            w.in_ok-add.ensures.count w.in_ok-add.ensures.members w.in_ok-add.ensures.steps (c.loop-arc.invariant.tree q tree held);
        longer = rw w.in_ok-add.ensures.members (push_longer c.args.self.now.reaching.members now a.tail c.loop-arc.invariant.longer);
        all = subst (λ (xs : List ℕ). IsTakenUpTo f c.args.capacity c.args.head row (i + 1) xs) (sym w.in_ok-add.ensures.members)
            (taken_up_to f c.args.capacity c.args.head row i none now (now ++ a.tail ∷ []) c.loop-arc-test.true (push_keeps now a.tail) (λ room. push_has now a.tail) c.loop-arc.invariant.all);
      })
      | else-finds w ↦ rw w.self-is (record {
        count = c.loop-arc.invariant.count;
        tree = c.loop-arc.invariant.tree;
        longer = c.loop-arc.invariant.longer;
        all = taken_up_to f c.args.capacity c.args.head row i none now now c.loop-arc-test.true (λ v held. held)
            (λ room. held_already (has now a.tail) c.finds.result w.if-finds.false (λ fresh. c.finds.ensures.1 (fresh, room))) c.loop-arc.invariant.all;
      })
    ]

pub returns-clause-all : goal.returns-clause-all
returns-clause-all c =
    let into = c.arcs_into-row.ensures.all in
    let f = sent c.args.flow.now in
    taken_all c.args.arcs.now f c.args.capacity c.args.head c.loop-arc.arc-index c.loop-arc.self.reaching.members
    (subst (λ (xs : List Arc). length xs ≤ c.loop-arc.arc-index) into c.loop-arc-test.false)
    (subst (λ (xs : List Arc). IsTakenUpTo f c.args.capacity c.args.head xs c.loop-arc.arc-index c.loop-arc.self.reaching.members) into c.loop-arc.invariant.all)
