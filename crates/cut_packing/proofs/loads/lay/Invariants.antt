use Rattle.std.proofs.Common.{◌≡◌, ℕ, length, map, take}
use Rattle.std.specs.Prelude.{if◌then◌else◌}
use Rattle.st_model.specs.Lists.{has}
use Rattle.cut_packing.specs.Loads.{arcs_into, laid}
use Rattle.cut_packing.proofs.loads.lay.Given as goal

abbrev pub invariant-loop-head : goal.invariant-loop-head
invariant-loop-head l =
    record { count : length l.arcs ≡ length l.fn.arcs; laid : (v : ℕ) → arcs_into l.arcs v ≡ (if has (take l.head-index l.set.members) v then map (laid l.set.members l.value) (arcs_into l.fn.arcs v) else arcs_into l.fn.arcs v) }
