use Rattle.std.proofs.Common.{arith}
use Rattle.plain_text.proofs.Numerals.{found_decimal, no_decimal}
use Rattle.plain_text.proofs.numbers.number.Goals as goal

pub returns-clause-found : goal.returns-clause-found
returns-clause-found c = found_decimal c.args.low c.args.high c.args.word.now c.read.result (omega (arith, c.ranges.high.fits)) c.read.ensures.value

pub returns-clause-none : goal.returns-clause-none
returns-clause-none c = no_decimal c.args.low c.args.high c.args.word.now c.read.result (omega (arith, c.ranges.high.fits)) c.read.ensures.value
