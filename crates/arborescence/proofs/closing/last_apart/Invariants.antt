use Rattle.std.proofs.Common.{ℕ, take}
use Rattle.std.specs.Prelude.{IfNone, IfSome, IsFalse, IsTrue}
use Rattle.st_model.specs.Lists.{has}
use Rattle.arborescence.proofs.closing.last_apart.Given as goal

abbrev pub invariant-loop-member : goal.invariant-loop-member
invariant-loop-member l = record {
  found : IfSome l.found (λ v. IsTrue (has l.set.members v) × IsFalse (has l.other.members v));
  none : IfNone l.found ((v : ℕ) → IsTrue (has (take l.member-index l.member-items) v) → IsTrue (has l.other.members v));
}
