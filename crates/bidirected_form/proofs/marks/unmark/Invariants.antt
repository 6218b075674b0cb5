use Rattle.std.proofs.Common.{◌≡◌, ℕ, false, length, take, get_or}
use Rattle.std.specs.Prelude.{if◌then◌else◌}
use Rattle.st_model.specs.Lists.{has}
use Rattle.bidirected_form.proofs.marks.unmark.Given as goal

abbrev pub invariant-loop-vertex : goal.invariant-loop-vertex
invariant-loop-vertex l = record { long : length l.marks.items ≡ length l.fn.marks.items; marked : (v : ℕ) → get_or l.marks.items v false ≡ (if has (take l.vertex-index l.set) v then false else get_or l.fn.marks.items v false) }
