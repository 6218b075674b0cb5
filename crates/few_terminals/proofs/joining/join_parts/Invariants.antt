use Rattle.std.proofs.Common.{◌≡◌, ℕ, List, length}
use Rattle.st_model.specs.Network.{Network}
use Rattle.few_terminals.specs.Entries.{Meaning}
use Rattle.few_terminals.specs.Filling.{IsBegun, IsJoinedBelow}
use Rattle.few_terminals.specs.Rows.{AreRows}
use Rattle.few_terminals.proofs.joining.join_parts.Given as goal

abbrev pub invariant-loop-part : goal.invariant-loop-part
invariant-loop-part l = record {
  long : length l.marks.items ≡ length l.initial.marks.items;
  joined : (I : Network) (ks : List ℕ) (es : List Meaning) → AreRows I ks es l.reached l.rows → IsBegun I ks es l.bits l.initial.marks.items → IsJoinedBelow I ks es l.reached l.rows l.bits l.part l.marks.items;
}
