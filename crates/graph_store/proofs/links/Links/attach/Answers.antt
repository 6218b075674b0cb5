use Rattle.std.proofs.Common.{rules, refl, ap, sym, ◌∙◌, arith, length, List}
use Rattle.graph_store.specs.declared.joints.Joint.{Joint}
use Rattle.graph_store.specs.declared.half.Half.{Half}
use Rattle.graph_store.specs.Joined.{halves_at, place_of, Entry}
use Rattle.graph_store.proofs.Halves.{AreHalves-same}
use Rattle.graph_store.proofs.Joining.{on_ok, on_err, popped, attached}
use Rattle.graph_store.proofs.Keeping.{one_each}
use Rattle.graph_store.proofs.LinkLemmas.{joint_of-push, no_joint}
use Rattle.graph_store.proofs.ListLemmas.{halves_at-read}
use Rattle.graph_store.proofs.links.Links.attach.Goals as goal

pub insert_joint-requires-clause-absent : goal.insert_joint-requires-clause-absent
insert_joint-requires-clause-absent c = no_joint c.self.inside.joints.entries c.args.low c.args.high c.self.invariant.pairs.ordered (rw (← c.self.view_is) at c.requires.absent)

pub invariant_of-self-then-is_err : goal.invariant_of-self-then-is_err
invariant_of-self-then-is_err c = record {
  long = (search rules);
  pairs = c.self.invariant.pairs;
  halves = λ v.
      let second = on_err c.push_half-2.result _ (sym c.if-is_err.ensures.value) c.push_half-2.ensures.err in
      let back = popped c.args.low (record { to = c.args.high; cost = c.args.cost }) (halves_at c.self.inside.lists.items) (halves_at c.push_half-2.new.lists.items) (halves_at c.pop_half.new.lists.items) (λ w. second w ∙ c.in_ok-push_half.ensures.ok w) c.pop_half.ensures.popped in
      AreHalves-same (halves_at c.self.inside.lists.items v) (halves_at c.pop_half.new.lists.items v) (place_of c.self.inside.joints.entries v) (place_of c.self.inside.joints.entries v) (back v) (λ w. refl) (c.self.invariant.halves v);
}

pub invariant_of-self-then-is_err-2 : goal.invariant_of-self-then-is_err-2
invariant_of-self-then-is_err-2 c = record {
  long = (search rules);
  pairs = c.insert_joint.ensures.pairs;
  halves = λ v.
      let second = on_ok c.push_half-2.result _ (sym c.if-is_err.ensures.value) c.push_half-2.ensures.ok in
      let once = popped c.args.high (record { to = c.args.low; cost = c.args.cost }) (halves_at c.push_half.new.lists.items) (halves_at c.push_half-2.new.lists.items) (halves_at c.pop_half-then-is_err-2.new.lists.items) second c.pop_half-then-is_err-2.ensures.popped in
      let twice = popped c.args.low (record { to = c.args.high; cost = c.args.cost }) (halves_at c.self.inside.lists.items) (halves_at c.pop_half-then-is_err-2.new.lists.items) (halves_at c.pop_half-then-is_err-2-2.new.lists.items) (λ w. once w ∙ c.in_ok-push_half.ensures.ok w) c.pop_half-then-is_err-2-2.ensures.popped in
      let same = on_err c.insert_joint.result _ (sym c.if-is_err-2.ensures.value) c.insert_joint.ensures.err in
      AreHalves-same (halves_at c.self.inside.lists.items v) (halves_at c.pop_half-then-is_err-2-2.new.lists.items v) (place_of c.self.inside.joints.entries v) (place_of c.insert_joint.new.joints.entries v) (twice v) (λ w. ap (λ (es : List Entry). place_of es v w) same) (c.self.invariant.halves v);
}

pub invariant_of-self-else-is_err-2 : goal.invariant_of-self-else-is_err-2
invariant_of-self-else-is_err-2 c = record {
  long = (search rules);
  pairs = c.insert_joint.ensures.pairs;
  halves =
      let es = c.self.inside.joints.entries in
      let absent = no_joint es c.args.low c.args.high c.self.invariant.pairs.ordered (rw (← c.self.view_is) at c.requires.absent) in
      let second = on_ok c.push_half-2.result _ (sym c.if-is_err.ensures.value) c.push_half-2.ensures.ok in
      let new = on_ok c.insert_joint.result _ (sym c.if-is_err-2.ensures.value) c.insert_joint.ensures.ok in
      let low = halves_at-read c.self.inside.lists.items c.args.low c.index.result.now (search rules) c.index.ensures in
      let high = halves_at-read c.self.inside.lists.items c.args.high c.index-2.result.now (search rules) c.index-2.ensures in
      let low_len = ap (λ (hs : List Half). length hs) low in
      let high_len = ap (λ (hs : List Half). length hs) high in
      let joint : Joint = record { cost = c.args.cost; low = c.len.result; high = c.len-2.result } in
      attached es c.insert_joint.new.joints.entries c.args.low c.args.high c.requires.ordered (halves_at c.self.inside.lists.items) c.self.invariant.halves joint (halves_at c.push_half.new.lists.items) (halves_at c.push_half-2.new.lists.items) (omega arith) (omega arith) c.in_ok-push_half.ensures.ok second absent (joint_of-push es c.insert_joint.new.joints.entries c.args.low c.args.high joint c.requires.ordered new absent);
}

pub returns-in_err-push_half-clause-once : goal.returns-in_err-push_half-clause-once
returns-in_err-push_half-clause-once c = one_each c.self.inside.joints.entries c.self.invariant.pairs

pub returns-then-is_err-clause-once : goal.returns-then-is_err-clause-once
returns-then-is_err-clause-once c = one_each c.self.inside.joints.entries c.self.invariant.pairs

pub returns-then-is_err-2-clause-once : goal.returns-then-is_err-2-clause-once
returns-then-is_err-2-clause-once c = one_each c.insert_joint.new.joints.entries c.insert_joint.ensures.pairs

pub returns-clause-once : goal.returns-clause-once
returns-clause-once c = one_each c.insert_joint.new.joints.entries c.insert_joint.ensures.pairs
