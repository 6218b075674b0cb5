use Rattle.std.proofs.Common.{◌≡◌, false, sym, ◌∙◌}
use Rattle.cut_packing.specs.SetTable.{is_held}
use Rattle.cut_packing.proofs.HeldSets.{sets_of, is_held-sets, with_set_held, with_set_new, sets_apart, set_at, set_at_position, sets-insert}
use Rattle.cut_packing.proofs.set_table.SetTable.put.Goals as goal

pub returns-in-Some-clause-sets : goal.returns-in-Some-clause-sets
returns-in-Some-clause-sets c =
    rw (← c.self.view_is) (sym (with_set_held (sets_of c.self.inside.sets.keys) c.args.set.now (is_held-sets c.args.set.now c.self.inside.sets.keys ∙ sym c.in-Some.ensures.found)))

pub returns-in-Some-clause-number : goal.returns-in-Some-clause-number
returns-in-Some-clause-number c =
    rw (← c.self.view_is) (set_at_position c.args.set.now c.self.inside.sets.keys c.in-Some.index (sym c.in-Some.ensures.index))

pub invariant_of-self-2 : goal.invariant_of-self-2
invariant_of-self-2 c =
    let keys = c.self.inside.sets.keys in
    let new : is_held (sets_of keys) c.args.set.now ≡ false = is_held-sets c.args.set.now keys ∙ sym c.in_default.ensures.found in
    rw (sets-insert c.args.set.now keys c.insert_full.new.self.keys c.in_ok-owned.owned c.in_ok-owned.ensures.items c.in_ok-index.ensures.keys new) (sets_apart (sets_of keys) c.args.set.now new c.self.invariant)

pub returns-clause-sets : goal.returns-clause-sets
returns-clause-sets c =
    let keys = c.self.inside.sets.keys in
    let new : is_held (sets_of keys) c.args.set.now ≡ false = is_held-sets c.args.set.now keys ∙ sym c.in_default.ensures.found in
    rw (← c.self.view_is) (sets-insert c.args.set.now keys c.insert_full.new.self.keys c.in_ok-owned.owned c.in_ok-owned.ensures.items c.in_ok-index.ensures.keys new ∙ sym (with_set_new (sets_of keys) c.args.set.now new))

pub returns-clause-number : goal.returns-clause-number
returns-clause-number c =
    let stored = c.in_ok-index.ensures.stored in
    set_at c.args.set.now c.insert_full.new.self.keys c.in_ok-index.index stored.0 stored.1 (rw c.in_ok-owned.ensures.items at stored.2)
