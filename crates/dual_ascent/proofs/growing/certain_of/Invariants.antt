use Rattle.std.proofs.Common.{◌≡◌, ◌+◌, ℕ, length}
use Rattle.std.specs.Prelude.{IsTrue}
use Rattle.bidirected_form.specs.declared.kind.VertexKind.TheVariants.{Must}
use Rattle.bidirected_form.specs.Digraph.{kind_of}
use Rattle.dual_ascent.specs.Turns.{leads}
use Rattle.dual_ascent.proofs.growing.certain_of.Given as goal

abbrev pub invariant-loop-before : goal.invariant-loop-before
invariant-loop-before l = record {
  long : length l.certain.items ≡ l.before + 1;
  certain : (v : ℕ) → IsTrue (leads l.certain.items v) → kind_of l.arcs v ≡ Must;
}
