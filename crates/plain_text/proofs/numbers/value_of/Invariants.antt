use Rattle.std.proofs.Common.{◌≡◌, ◌≤◌, drop}
use Rattle.plain_text.specs.Steps.{value_by}
use Rattle.plain_text.proofs.numbers.value_of.Given as goal

abbrev pub invariant-loop-digit : goal.invariant-loop-digit
invariant-loop-digit l = record {
  in_range : l.value ≤ l.limit;
  rest_decides : value_by l.limit l.value (drop l.digit-index l.digits) ≡ value_by l.limit 0 l.digits;
}
