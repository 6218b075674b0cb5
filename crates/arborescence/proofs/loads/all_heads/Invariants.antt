use Rattle.std.proofs.Common.{◌≡◌, ℕ, ◌&&◌, length}
use Rattle.std.specs.Prelude.{nat_lt}
use Rattle.st_model.specs.Lists.{has}
use Rattle.st_model.specs.Led.{heads_at}
use Rattle.cut_packing.specs.Loads.{has_arc}
use Rattle.arborescence.proofs.loads.all_heads.Given as goal

abbrev pub invariant-loop-head : goal.invariant-loop-head
invariant-loop-head l =
    record { count : length l.heads ≡ l.count; listed : (u v : ℕ) → has (heads_at l.heads u) v ≡ (nat_lt v l.head && has_arc l.arcs u v) }
