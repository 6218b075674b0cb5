use Rattle.std.proofs.Common.{◌≡◌, ℕ, ◌&&◌, ◌||◌, length, take}
use Rattle.std.specs.Prelude.{◌==◌}
use Rattle.std.specs.List.{list_any}
use Rattle.st_model.specs.Lists.{has}
use Rattle.st_model.specs.Led.{heads_at}
use Rattle.arborescence.proofs.loads.list_head.Given as goal

abbrev pub invariant-loop-arc : goal.invariant-loop-arc
invariant-loop-arc l =
    record { count : length l.heads ≡ length l.fn.heads; listed : (u v : ℕ) → has (heads_at l.heads u) v ≡ (has (heads_at l.fn.heads u) v || ((l.head == v) && list_any (λ arc. arc.tail == u) (take l.arc-index l.arcs))) }
