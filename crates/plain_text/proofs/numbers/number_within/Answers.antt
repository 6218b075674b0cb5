use Rattle.std.proofs.Common.{◌≡◌, true, false, length, sym, ◌∙◌}
use Rattle.std.specs.Prelude.{◌==◌}
use Rattle.plain_text.proofs.Numerals.{within_digits, within_none}
use Rattle.plain_text.proofs.numbers.number_within.Goals as goal

pub returns-clause-value : goal.returns-clause-value
returns-clause-value c =
    let some : (length c.args.word.now == 0) ≡ false = sym c.is_empty.ensures ∙ c.if-is_empty.false in
    within_digits c.args.limit c.args.word.now c.value_of.result some c.value_of.ensures.value

pub returns-then-is_empty-clause-value : goal.returns-then-is_empty-clause-value
returns-then-is_empty-clause-value c =
    let none : (length c.args.word.now == 0) ≡ true = sym c.is_empty.ensures ∙ c.if-is_empty.true in
    within_none c.args.limit c.args.word.now none
