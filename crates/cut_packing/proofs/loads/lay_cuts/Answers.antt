use Rattle.std.proofs.Common.{◌≡◌, ℕ, ◌+◌, ◌<◌, get_or, ap, ◌∙◌, arith}
use Rattle.std.proofs.lemmas.List.{take_more, take_all}
use Rattle.st_model.specs.Lists.{has}
use Rattle.cut_packing.specs.Loads.{arcs_into}
use Rattle.cut_packing.proofs.Loaded.{AreLoaded-lay, load_bound}
use Rattle.cut_packing.proofs.loads.lay_cuts.Goals as goal

pub loop-cut-preserved : goal.loop-cut-preserved
loop-cut-preserved c =
    let members = c.fill.new.self.members in
    record {
      loaded = λ G B price free.
          let before = c.loop-cut.invariant.loaded G B price free in
          let same : (v : ℕ) → v < G.n + 1 → has members v ≡ has c.cut-item.result.set v = λ v in_range. c.in_ok-fill.ensures.members v (omega (arith, c.loop-cut.invariant.members, before.count)) ∙ ap (λ xs. has xs v) c.as_slice.ensures in
          rw (take_more c.args.cuts.now c.loop-cut.cut-index c.cut-item.result c.loop-cut-test.true, ← c.cut-item.is) (AreLoaded-lay G B price _ c.cut-item.result members c.loop-cut.arcs _ same c.lay.ensures.count c.lay.ensures.laid before);
      bound = λ arc. load_bound c.args.cuts.now c.loop-cut.cut-index c.cut-item.result arc c.loop-cut-test.true c.cut-item.is (omega arith) (c.loop-cut.invariant.bound arc);
      members = omega (arith, c.in_ok-fill.ensures.count, c.loop-cut.invariant.members, c.lay.ensures.count);
    }

pub lay-requires-clause-room : goal.lay-requires-clause-room
lay-requires-clause-room c = λ v k d below.
    let free = c.requires.free in
    let loaded = c.loop-cut.invariant.loaded free.0 free.1 free.2 free.3 in
    omega (arith, (loaded.sound v k d below).load, c.loop-cut.invariant.bound ((get_or (arcs_into c.loop-cut.arcs v) k d).tail, v))

pub returns : goal.returns
returns c = λ G B price free.
    rw (take_all c.loop-cut.cut-index c.args.cuts.now c.loop-cut-test.false) at (c.loop-cut.invariant.loaded G B price free)
