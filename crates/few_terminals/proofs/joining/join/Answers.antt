use Rattle.std.proofs.Common.{◌≡◌, ℕ, ◌+◌, ◌-◌, ◌^◌, ◌<◌, min, length, get_or, sym, ap, subst, ◌∙◌, arith}
use Rattle.std.proofs.lemmas.List.{get_or_read}
use Rattle.few_terminals.specs.declared.entry.Way.TheVariants.{Joined}
use Rattle.few_terminals.specs.declared.mark.Mark.{Mark}
use Rattle.few_terminals.specs.Filling.{mark_at, joined_mark, Joins}
use Rattle.few_terminals.proofs.Marking.{mark_read}
use Rattle.few_terminals.proofs.Parts.{joined_less_is, joined_more_is, joined_set, joined_left}
use Rattle.few_terminals.proofs.joining.join.Goals.{After-index-in-loop-slot-2, then-cost-index, else-cost-index}
use Rattle.few_terminals.proofs.joining.join.Goals as goal

-- the vertex is one that is marked
here_within : (c : After-index-in-loop-slot-2) → get_or c.args.reached.now c.loop-slot.slot 0 < length c.loop-slot.marks.items
here_within c =
    let below = c.requires.range c.loop-slot.slot 0 c.loop-slot-test.true in
    let long = c.loop-slot.invariant.long in
    omega (arith, below, long)

-- what was read of it
read_here : (c : After-index-in-loop-slot-2) → c.index-in-loop-slot-2.result.now ≡ mark_at c.loop-slot.marks.items (get_or c.args.reached.now c.loop-slot.slot 0)
read_here c = mark_read c.loop-slot.marks.items (get_or c.args.reached.now c.loop-slot.slot 0) c.index-in-loop-slot-2.result.now (here_within c) c.index-in-loop-slot-2.ensures

-- and what both rows cost there
sum_here : (c : After-index-in-loop-slot-2) → c.saturating_add-cost.result ≡ min (get_or c.args.first.now.costs.items c.loop-slot.slot (2 ^ 63) + get_or c.args.second.now.costs.items c.loop-slot.slot (2 ^ 63)) (2 ^ 64 - 1)
sum_here c =
    let within = c.loop-slot-test.true in
    let long = c.requires.first_costs in
    let long_also = c.requires.second_costs in
    let first = get_or_read c.args.first.now.costs.items c.loop-slot.slot c.index.result.now (omega (arith, within, long)) c.index.ensures (2 ^ 63) in
    let second = get_or_read c.args.second.now.costs.items c.loop-slot.slot c.index-in-loop-slot.result.now (omega (arith, within, long_also)) c.index-in-loop-slot.ensures (2 ^ 63) in
    let sum = c.saturating_add-cost.ensures in
    omega (arith, first, second, sum)

pub loop-slot-preserved : goal.loop-slot-preserved
loop-slot-preserved c =
    let after = (goal.at.loop-slot-preserved c).After-index-in-loop-slot-2 in
    let vs = c.args.reached.now in
    let slot = c.loop-slot.slot in
    let first = c.args.first.now in
    let second = c.args.second.now in
    let old = c.loop-slot.marks.items in
    let within = c.loop-slot-test.true in
    let read = read_here after in
    let sum = sum_here after in
    let cost = c.saturating_add-cost.result in
    let c_first = get_or first.costs.items slot (2 ^ 63) in
    let c_second = get_or second.costs.items slot (2 ^ 63) in
    elim c.if-cost-index.branch [
      | then-cost-index w ↦
          let one = get_or_read first.places.items slot w.index-then-cost-index.result.now (let long = c.requires.first_places in omega (arith, within, long)) w.index-then-cost-index.ensures 0 in
          let other = get_or_read second.places.items slot w.index-then-cost-index-2.result.now (let long = c.requires.second_places in omega (arith, within, long)) w.index-then-cost-index-2.ensures 0 in
          let fits : c.index-in-loop-slot-2.result.now.cost < 2 ^ 64 = grind arith in
          let is = joined_less_is c.index-in-loop-slot-2.result.now c_first c_second cost w.index-then-cost-index.result.now w.index-then-cost-index-2.result.now sum w.if-cost-index.true fits in
          rw w.marks-is (joined_set vs slot first second c.args.marks.now.items old c.requires.apart within c.loop-slot.invariant (record {
            cost = cost;
            way = Joined w.index-then-cost-index.result.now w.index-then-cost-index-2.result.now;
            place = 0;
          }) (here_within after) (is ∙ (ap (λ (m : Mark). joined_mark m c_first c_second w.index-then-cost-index.result.now w.index-then-cost-index-2.result.now) read
          ∙ (ap (λ (p : ℕ). joined_mark (mark_at old (get_or vs slot 0)) c_first c_second p w.index-then-cost-index-2.result.now) one
          ∙ ap (λ (q : ℕ). joined_mark (mark_at old (get_or vs slot 0)) c_first c_second (get_or first.places.items slot 0) q) other))))
      | else-cost-index w ↦
          let is = joined_more_is c.index-in-loop-slot-2.result.now c_first c_second cost (get_or first.places.items slot 0) (get_or second.places.items slot 0) sum w.if-cost-index.false in
          rw w.marks-is (joined_left vs slot first second c.args.marks.now.items old c.requires.apart within c.loop-slot.invariant (sym read ∙ (is ∙ ap (λ (m : Mark). joined_mark m c_first c_second (get_or first.places.items slot 0) (get_or second.places.items slot 0)) read)))
    ]

pub returns : goal.returns
returns c =
    let past = c.loop-slot-test.false in
    let end = c.loop-slot.auto.slot-end in
    let all : c.loop-slot.slot ≡ length c.args.reached.now = omega (arith, past, end) in
    subst (λ (slot : ℕ). Joins c.args.reached.now slot c.args.marks.now.items c.args.first.now c.args.second.now c.loop-slot.marks.items) all c.loop-slot.invariant
