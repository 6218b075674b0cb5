use Rattle.std.proofs.Common.{◌≡◌, ℕ, false, ◌||◌, length, take, get_or}
use Rattle.st_model.specs.Lists.{has}
use Rattle.bidirected_form.proofs.marks.mark.Given as goal

abbrev pub invariant-loop-vertex : goal.invariant-loop-vertex
invariant-loop-vertex l = record { long : length l.marks.items ≡ length l.fn.marks.items; marked : (v : ℕ) → get_or l.marks.items v false ≡ (has (take l.vertex-index l.set) v || get_or l.fn.marks.items v false) }
